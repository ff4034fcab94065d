-- What is said of a call's result, from what is said of both of its ways.
use Rattle.std.proofs.Common.{Err, IfErr, IfOk, MatchResult, Ok, OnErr, OnOk, Result, cond, is_ok, ◌≡◌}

module _ {S L : Type 0} where
  -- of what went well
  pub ok_from : (r : Result S L) (P Q : S → Type 0) (R : L → Type 0) → ((s : S) → P s → Q s) → MatchResult r P R → IfOk r Q
  ok_from (Ok s) P Q R leads is = leads s is
  ok_from (Err l) P Q R leads is = tt

  -- what holds of all that is left
  pub any_err : (r : Result S L) (P : L → Type 0) → ((l : L) → P l) → IfErr r P
  any_err (Ok s) P all = tt
  any_err (Err l) P all = all l

  -- what holds of all that goes well
  pub any_gone_well : (r : Result S L) (P : S → Type 0) → ((s : S) → P s) → IfOk r P
  any_gone_well (Ok s) P all = all s
  any_gone_well (Err l) P all = tt

  -- what holds anyway
  pub any_ok : (r : Result S L) {P : Type 0} → P → OnOk r P
  any_ok (Ok s) is = is
  any_ok (Err l) is = tt

  -- what a call makes of a value where it goes well, and where it fails
  pub made : {X : Type 0} (r : Result S L) (new well ill : X) → new ≡ cond (is_ok r) well ill → OnOk r (new ≡ well)
  made (Ok s) new well ill is = is
  made (Err l) new well ill is = tt

  pub kept : {X : Type 0} (r : Result S L) (new well ill : X) → new ≡ cond (is_ok r) well ill → OnErr r (new ≡ ill)
  kept (Ok s) new well ill is = tt
  kept (Err l) new well ill is = is

  -- of both ways, from what is said of each
  pub match_from : (r : Result S L) (P Q : S → Type 0) (R T : L → Type 0) → ((s : S) → P s → Q s) → ((l : L) → R l → T l) → IfOk r P → IfErr r R → MatchResult r Q T
  match_from (Ok s) P Q R T leads lost is other = leads s is
  match_from (Err l) P Q R T leads lost is other = lost l other
