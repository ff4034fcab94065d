-- Calls that raise the cutoff, one after another.
use Rattle.std.proofs.Common.{◌≡◌, ℕ, List, [], ◌∷◌, Option, option_map, option_to_list, Result, Ok, Err, OnOk, false, refl, sym, ◌∙◌, ap, ap₂, subst}
use Rattle.std.specs.Prelude.{⊤}
use Rattle.std.specs.Result.{is_err}
use Rattle.mar_types.specs.Epochs.{Epochs}
use Rattle.mar_types.specs.Round.{Round}
use Rattle.mar_key.specs.Cutoff.{at_round, greatest_of}
use Rattle.mar_key.specs.Hears.{Hears}
use Rattle.mar_key.specs.Keys.{Call, above_height, retain}
use Rattle.mar_key.specs.Processed.{Processed}
use Rattle.mar_model.specs.Event.{closed_at, retired, round_at}
use Rattle.mar_model.specs.Held.{Held, Seen, WithinWritten, Written, first_life, seen, written_prunes}
use Rattle.mar_model.specs.Moves.{HearsFront, HearsUpTo, pruned_by, with_cache_of}
use Rattle.mar_model.specs.Requests.{raise_asks}
use Rattle.mar_model.proofs.RaiseAsks.{process_asks, unraised_asks}

-- what is said of a call that went well
pub on_ok : {T E A : Type 0} (result : Result T E) → is_err result ≡ false → OnOk result A → A
on_ok (Ok x) ok said = said
on_ok (Err e) ok said = absurd cc

-- and what follows from it
pub on_both : {T E P Q : Type 0} (result : Result T E) → (P → Q) → OnOk result P → OnOk result Q
on_both (Ok x) f said = f said
on_both (Err e) f said = tt

-- A HEIGHT THAT IS PROCESSED

-- the stores as those of a life of which nothing is said
abbrev seen_of : Held → Seen ⊤ ⊤
seen_of h = seen h (first_life tt tt (record { window = 0; max_repair = 0; retention = 0; capacity = 0 }))

module _ (epochs : Epochs) (old one two : Held) (processed : Option Processed) (height : ℕ) (round : Option Round) (one_is : one ≡ record old { processed = processed; watches = one.watches }) (two_is : two ≡ record one { watches = two.watches }) (round_is : round ≡ round_at one.certs.held height) where
  -- as much may be pruned since the stores that its round was read from
  pub within_read : (retention : ℕ) (all : Written) → WithinWritten (written_prunes (pruned_by retention old.witnessed (option_to_list (round_at old.certs.held height)))) all → WithinWritten (written_prunes (pruned_by retention two.witnessed (option_to_list round))) all
  within_read retention all = subst (λ rounds. WithinWritten (written_prunes rounds) all) (sym (ap₂ (λ w r. pruned_by retention w (option_to_list r)) (ap (λ h. h.witnessed) two_is ∙ ap (λ h. h.witnessed) one_is) (round_is ∙ ap (λ h. round_at h.certs.held height) one_is)))

  -- the raise to its round ended the life
  pub unraised : (first second last : Option (List Call)) → Hears first (retain (above_height height) ∷ []) second → HearsFront second (raise_asks two.cutoff (option_to_list (option_map at_round round))) last → HearsFront first (retain (above_height height) ∷ raise_asks old.cutoff (retired epochs old.certs.held height)) last
  unraised = unraised_asks (λ e. epochs) (seen_of old) (seen_of one) (seen_of two) processed one.watches height round (ap seen_of one_is) (ap seen_of two_is) round_is

  -- or it went on, and over the epochs
  pub raised : {S C : Type 0} (three : Held) (witnessed : Round) (first second third last : Option (List Call)) → three ≡ record (with_cache_of three two) { cutoff = greatest_of two.cutoff (option_to_list (option_map at_round round)); witnessed = witnessed } → Hears first (retain (above_height height) ∷ []) second → Hears second (raise_asks two.cutoff (option_to_list (option_map at_round round))) third → (result : Result S C) → HearsUpTo third (raise_asks three.cutoff (closed_at epochs height)) last result → HearsUpTo first (retain (above_height height) ∷ raise_asks old.cutoff (retired epochs old.certs.held height)) last result
  raised three witnessed first second third last three_is before between result after = process_asks (λ e. epochs) (seen_of old) (seen_of one) (seen_of two) processed one.watches height round (ap seen_of one_is) (ap seen_of two_is) round_is (seen_of three) result first second third last (ap (λ h. h.cutoff) three_is) refl before between after
