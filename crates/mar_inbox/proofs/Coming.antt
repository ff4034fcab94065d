-- Messages that come to wait, join one that waits, and leave.
use Rattle.std.proofs.Common.{Bool, Err, List, None, Ok, OnErr, OnOk, Option, Result, Some, [], ap, arith, cond, false, refl, subst, sym, true, true≢false, ℕ, ◌+◌, ◌++◌, ◌<◌, ◌==◌, ◌∙◌, ◌∷◌, ◌≡◌}
use Rattle.std.proofs.lemmas.Bool.Decides.{nat_tests}
use Rattle.std.specs.BTreeMap.{BTreeMap, get, is_at}
use Rattle.std.specs.BTreeSet.{BTreeSet, contains}
use Rattle.std.specs.List.{AllByRecursion}
use Rattle.std.specs.Map.{lookup, set_value}
use Rattle.std.specs.Ordering.{nat_cmp}
use Rattle.std.specs.Prelude.{IfSome, IsSome}
use Rattle.mar_model.specs.Messages.{Message, Queued, certify, close_ticket, forward, get_anchor, get_block, get_finalization, get_info, get_processed, get_verified, hint_finalized, hint_notarized, latest, of_digest, of_height, prepared, proposed, prune_below, report_certification, report_finalization, report_notarization, set_floor, subscribe_commitment, subscribe_digest, verified}
use Rattle.mar_inbox.specs.declared.letter.Kind.{Kind}
use Rattle.mar_inbox.specs.declared.letter.Kind.TheVariants.{Hint, Read}
use Rattle.mar_inbox.specs.Kinds.{hint_in, hinted_by, kind_of, merged_by, read_in, tidied_by}
use Rattle.mar_inbox.specs.Policy.{hint_of, is_hint, passes, read_of, told, with_hint_targets, with_targets}
use Rattle.mar_inbox.specs.Turns.{Exchanges, HintAt, IsHinted, IsIndexed, IsRead, IsRising, KeepsReads, WithoutHint, WithoutRead, hint_one, is_hint_at, read_cmp, seen}
use Rattle.mar_inbox.proofs.OfKinds.{hint_kind, hint_known, read_known}
use Rattle.mar_inbox.proofs.Turns.{all_push, all_so, hint_there, hinted_without, lookup_last, new_hint, no_hint_there, none_at, read_without, rising_push, seen_push, set_hint, set_indexed, set_last, set_same}

pub on_ok : {T E : Type 0} {A B : Type 0} (r : Result T E) → (A → B) → OnOk r A → OnOk r B
on_ok (Ok t) so a = so a
on_ok (Err e) so a = tt

pub on_err : {T E : Type 0} {A B : Type 0} (r : Result T E) → (A → B) → OnErr r A → OnErr r B
on_err (Ok t) so a = tt
on_err (Err e) so a = so a

-- either way
pub either : {T E : Type 0} {A B C : Type 0} (r : Result T E) → (A → C) → (B → C) → OnOk r A → OnErr r B → C
either (Ok t) f g a b = f a
either (Err e) f g a b = g b

pub kept_in : (b c : Bool) → c ≡ true → cond b true c ≡ true
kept_in true c is = refl
kept_in false c is = is

module _ {X : Type 0} (plain : X → Queued) where
  -- ONE MORE

  pub read_noted : (reads : BTreeSet (ℕ × ℕ)) (m : X) (k : Kind) (h t : ℕ) → k ≡ Read h → k ≡ kind_of (plain m).message → contains read_cmp reads (h, t) ≡ true → IsRead plain reads (t, m)
  read_noted reads m k h t is of among = subst (λ o. IfSome o (λ h. contains read_cmp reads (h, t) ≡ true)) (sym (read_known (plain m).message ∙ ap read_in (sym of ∙ is))) among

  hint_none : (hints : BTreeMap ℕ ℕ) (m : X) (t : ℕ) → hint_of (plain m).message ≡ None → IsHinted plain hints (t, m)
  hint_none hints m t none = subst (λ o. IfSome o (λ h. get nat_cmp hints h ≡ Some t)) (sym none) tt

  reads_kept : (old new : BTreeSet (ℕ × ℕ)) (es : List (ℕ × X)) → KeepsReads old new → AllByRecursion (IsRead plain old) es → AllByRecursion (IsRead plain new) es
  reads_kept old new es kept all = all_so (IsRead plain old) (IsRead plain new) es (λ e. by e (read_of (plain e.1).message)) all
    where
      by : (e : ℕ × X) (o : Option ℕ) → IfSome o (λ h. contains read_cmp old (h, e.0) ≡ true) → IfSome o (λ h. contains read_cmp new (h, e.0) ≡ true)
      by e None among = tt
      by e (Some h) among = kept (h, e.0) among

  below_more : (es : List (ℕ × X)) (next : ℕ) → AllByRecursion (λ e. e.0 < next) es → AllByRecursion (λ e. e.0 < next + 1) es
  below_more es next all = all_so (λ e. e.0 < next) (λ e. e.0 < next + 1) es (λ e below. omega (arith, below)) all

  pub indexed_more : (es : List (ℕ × X)) (m : X) (next : ℕ) (hints : BTreeMap ℕ ℕ) (reads : BTreeSet (ℕ × ℕ)) → IsIndexed plain es next hints reads
      → IsHinted plain hints (next, m) → IsRead plain reads (next, m) → IsIndexed plain (es ++ (next, m) ∷ []) (next + 1) hints reads
  indexed_more es m next hints reads i hinted read = record {
    rising = rising_push es next m i.rising i.below;
    below = all_push (λ e. e.0 < next + 1) es (next, m) (below_more es next i.below) (omega arith);
    hinted = all_push (IsHinted plain hints) es (next, m) i.hinted hinted;
    read = all_push (IsRead plain reads) es (next, m) i.read read;
  }

  with_reads : (es : List (ℕ × X)) (next : ℕ) (hints : BTreeMap ℕ ℕ) (reads more : BTreeSet (ℕ × ℕ)) → KeepsReads reads more → IsIndexed plain es next hints reads → IsIndexed plain es next hints more
  with_reads es next hints reads more kept i = record { rising = i.rising; below = i.below; hinted = i.hinted; read = reads_kept reads more es kept i.read }

  -- whether or not there was memory for it
  pub indexed_pushed : {T E : Type 0} (r : Result T E) (es es' : List (ℕ × X)) (m : X) (next next' : ℕ) (hints : BTreeMap ℕ ℕ) (reads more : BTreeSet (ℕ × ℕ))
      → OnOk r ((es' ≡ es ++ (next, m) ∷ []) × (next' ≡ next + 1)) → OnErr r ((es' ≡ es) × (next' ≡ next))
      → hint_of (plain m).message ≡ None → KeepsReads reads more → IsRead plain more (next, m) → IsIndexed plain es next hints reads → IsIndexed plain es' next' hints more
  indexed_pushed r es es' m next next' hints reads more ok err none kept read i =
      either r (λ a. rw (a.0, a.1) (indexed_more es m next hints more (with_reads es next hints reads more kept i) (hint_none hints m next none) read))
      (λ b. rw (b.0, b.1) (with_reads es next hints reads more kept i)) ok err

  -- THE FIRST HINT OF A HEIGHT

  unseen : (P : Queued → Type 0) (es : List (ℕ × X)) → AllByRecursion P (seen plain es) → AllByRecursion (λ e. P (plain e.1)) es
  unseen P [] all = tt
  unseen P (e ∷ es) all = (all.0, unseen P es all.1)

  hint_placed : (hints more : BTreeMap ℕ ℕ) (h t : ℕ) (es : List (ℕ × X)) → ((k : ℕ) → get nat_cmp more k ≡ cond (is_at (nat_cmp h) k) (Some t) (get nat_cmp hints k))
      → AllByRecursion (λ e. is_hint h (plain e.1) ≡ false) es → AllByRecursion (IsHinted plain hints) es → AllByRecursion (IsHinted plain more) es
  hint_placed hints more h t [] new none all = tt
  hint_placed hints more h t (e ∷ es) new none all = (by (hint_of (plain e.1).message) none.0 all.0, hint_placed hints more h t es new none.1 all.1)
    where
      other : (k : ℕ) → k == h ≡ false → is_at (nat_cmp h) k ≡ false
      other k apart = grind (arith, nat_tests)

      by : (o : Option ℕ) → passes (λ k. k == h) o ≡ false → IfSome o (λ k. get nat_cmp hints k ≡ Some e.0) → IfSome o (λ k. get nat_cmp more k ≡ Some e.0)
      by None apart stands = tt
      by (Some k) apart stands = new k ∙ (ap (λ b. cond b (Some t) (get nat_cmp hints k)) (other k apart) ∙ stands)

  pub hint_indexed : (es : List (ℕ × X)) (next : ℕ) (hints more : BTreeMap ℕ ℕ) (reads : BTreeSet (ℕ × ℕ)) (h t : ℕ)
      → ((k : ℕ) → get nat_cmp more k ≡ cond (is_at (nat_cmp h) k) (Some t) (get nat_cmp hints k))
      → AllByRecursion (λ q. is_hint h q ≡ false) (seen plain es) → IsIndexed plain es next hints reads → IsIndexed plain es next more reads
  hint_indexed es next hints more reads h t new none i = record {
    rising = i.rising;
    below = i.below;
    hinted = hint_placed hints more h t es new (unseen (λ q. is_hint h q ≡ false) es none) i.hinted;
    read = i.read;
  }

  -- a hint names a height and reads by none
  hint_height : (m : X) (h : ℕ) → kind_of (plain m).message ≡ Hint h → hint_of (plain m).message ≡ Some h
  hint_height m h is = hint_known (plain m).message ∙ ap hint_in is

  hint_no_read : (m : X) (h : ℕ) → kind_of (plain m).message ≡ Hint h → read_of (plain m).message ≡ None
  hint_no_read m h is = read_known (plain m).message ∙ ap read_in is

  tidied_is : (q r : Queued) (h : ℕ) (peers : List ℕ) → q.message ≡ hint_finalized h peers → r ≡ tidied_by q q.message → r ≡ told (hint_finalized h (with_targets [] peers))
  tidied_is q r h peers is tidied = tidied ∙ ap (tidied_by q) is

  last_same : (es : List (ℕ × X)) (t : ℕ) (m x : X) → AllByRecursion (λ e. e.0 < t) es → lookup (is_at (nat_cmp t)) (es ++ (t, m) ∷ []) ≡ Some x → m ≡ x
  last_same es t m x below found = some_same (sym (lookup_last plain es t m below) ∙ found)
    where
      some_same : {x y : X} → Some x ≡ Some y → x ≡ y
      some_same e = cc

  -- it is there, and names each peer once
  pub first_hint : (es es1 es2 : List (ℕ × X)) (m : X) (next : ℕ) (hints more : BTreeMap ℕ ℕ) (reads : BTreeSet (ℕ × ℕ)) (h : ℕ)
      → ((k : ℕ) → get nat_cmp more k ≡ cond (is_at (nat_cmp h) k) (Some next) (get nat_cmp hints k)) → get nat_cmp more h ≡ Some next
      → AllByRecursion (λ q. is_hint h q ≡ false) (seen plain es) → kind_of (plain m).message ≡ Hint h → es1 ≡ es ++ (next, m) ∷ []
      → Exchanges next (λ m w. plain w ≡ tidied_by (plain m) (plain m).message) es1 es2 → IsIndexed plain es next hints reads
      → IsIndexed plain es2 (next + 1) more reads × (seen plain es2 ≡ hinted_by (seen plain es) (plain m).message)
  first_hint es es1 es2 m next hints more reads h new at none is appended e i =
      let peers = (hint_kind (plain m).message h is).0 in
      let says = (hint_kind (plain m).message h is).1 in
      let found : lookup (is_at (nat_cmp next)) (es ++ (next, m) ∷ []) ≡ Some e.0 = subst (λ xs. lookup (is_at (nat_cmp next)) xs ≡ Some e.0) appended e.2 in
      let same : m ≡ e.0 = last_same es next m e.0 i.below found in
      let tidied : plain e.1 ≡ told (hint_finalized h (with_targets [] peers)) = tidied_is (plain m) (plain e.1) h peers says (e.3 ∙ ap (λ x. tidied_by (plain x) (plain x).message) (sym same)) in
      let hinted : IsHinted plain more (next, m) = subst (λ o. IfSome o (λ k. get nat_cmp more k ≡ Some next)) (sym (hint_height m h is)) at in
      let read : IsRead plain reads (next, m) = subst (λ o. IfSome o (λ k. contains read_cmp reads (k, next) ≡ true)) (sym (hint_no_read m h is)) tt in
      let one : IsIndexed plain (es ++ (next, m) ∷ []) (next + 1) more reads = indexed_more es m next more reads (hint_indexed es next hints more reads h next new none i) hinted read in
      let two : IsIndexed plain (set_value (is_at (nat_cmp next)) (es ++ (next, m) ∷ []) e.1) (next + 1) more reads
      = set_indexed plain (is_at (nat_cmp next)) (es ++ (next, m) ∷ []) e.0 e.1 (next + 1) more reads found
      (ap (λ q. hint_of q.message) tidied ∙ sym (ap (λ x. hint_of (plain x).message) (sym same) ∙ hint_height m h is))
      (ap (λ q. read_of q.message) tidied ∙ sym (ap (λ x. read_of (plain x).message) (sym same) ∙ hint_no_read m h is)) one in
      let whole : es2 ≡ set_value (is_at (nat_cmp next)) (es ++ (next, m) ∷ []) e.1 = e.4 ∙ ap (λ xs. set_value (is_at (nat_cmp next)) xs e.1) appended in (
        subst (λ xs. IsIndexed plain xs (next + 1) more reads) (sym whole) two,
        ap (seen plain) (whole ∙ set_last plain es next m e.1 i.below)
            ∙ (seen_push plain es next e.1 ∙ (ap (λ q. seen plain es ++ q ∷ []) tidied ∙ (sym (new_hint plain h peers (seen plain es) none) ∙ ap (hinted_by (seen plain es)) (sym says)))),
      )

  -- A HINT THAT STANDS

  pub hint_found : (hints : BTreeMap ℕ ℕ) (h t : ℕ) (es : List (ℕ × X)) → get nat_cmp hints h ≡ Some t → IsRising es → AllByRecursion (IsHinted plain hints) es
      → is_hint_at plain h t es ≡ true → HintAt plain h es (Some t)
  hint_found hints h t es at rising all so = by (lookup (is_at (nat_cmp t)) es) refl so
    where
      by : (o : Option X) → lookup (is_at (nat_cmp t)) es ≡ o → hint_one plain h o ≡ true → AllByRecursion (λ e. is_at (nat_cmp t) e.0 ≡ is_hint h (plain e.1)) es × IsSome o
      by None found so = absurd (true≢false (sym so))
      by (Some m) found so = (hint_there plain hints h t m es at rising found so all, refl)

  pub hint_missed : (hints : BTreeMap ℕ ℕ) (h t : ℕ) (es : List (ℕ × X)) → get nat_cmp hints h ≡ Some t → IsRising es → AllByRecursion (IsHinted plain hints) es
      → is_hint_at plain h t es ≡ false → AllByRecursion (λ e. is_hint h (plain e.1) ≡ false) es
  hint_missed hints h t es at rising all so =
      no_hint_there plain hints h t es at rising (λ m found. sym (ap (hint_one plain h) found) ∙ so) all

  pub merged : (t h next : ℕ) (item : X) (es es' : List (ℕ × X)) (hints : BTreeMap ℕ ℕ) (reads : BTreeSet (ℕ × ℕ)) → kind_of (plain item).message ≡ Hint h → HintAt plain h es (Some t)
      → Exchanges t (λ m w. plain w ≡ merged_by (plain m) (plain item).message) es es' → IsIndexed plain es next hints reads
      → IsIndexed plain es' next hints reads × (seen plain es' ≡ hinted_by (seen plain es) (plain item).message)
  merged t h next item es es' hints reads is stands e i =
      let peers = (hint_kind (plain item).message h is).0 in
      let says = (hint_kind (plain item).message h is).1 in
      let with_peers : plain e.1 ≡ with_hint_targets peers (plain e.0) = e.3 ∙ ap (merged_by (plain e.0)) says in (
        subst (λ xs. IsIndexed plain xs next hints reads) (sym e.4)
            (set_indexed plain (is_at (nat_cmp t)) es e.0 e.1 next hints reads e.2 (ap (λ q. hint_of q.message) with_peers ∙ hint_stays peers (plain e.0).message)
            (ap (λ q. read_of q.message) with_peers ∙ read_stays peers (plain e.0).message) i),
        ap (seen plain) e.4 ∙ (set_hint plain t h peers es e.0 e.1 e.2 stands.0 with_peers ∙ ap (hinted_by (seen plain es)) (sym says)),
      )
    where
      hint_stays : (peers : List ℕ) (m : Message) → hint_of (with_hint_targets peers (told m)).message ≡ hint_of m
      hint_stays peers (report_finalization f) = refl
      hint_stays peers (report_notarization n) = refl
      hint_stays peers (report_certification n) = refl
      hint_stays peers (verified r b) = refl
      hint_stays peers (proposed r others b) = refl
      hint_stays peers (prepared r others b) = refl
      hint_stays peers (certify r b) = refl
      hint_stays peers (get_info (of_height h)) = refl
      hint_stays peers (get_info (of_digest d)) = refl
      hint_stays peers (get_info latest) = refl
      hint_stays peers (get_block (of_height h)) = refl
      hint_stays peers (get_block (of_digest d)) = refl
      hint_stays peers (get_block latest) = refl
      hint_stays peers (get_finalization h) = refl
      hint_stays peers get_processed = refl
      hint_stays peers get_anchor = refl
      hint_stays peers (get_verified r) = refl
      hint_stays peers (hint_finalized h others) = refl
      hint_stays peers (set_floor f) = refl
      hint_stays peers (prune_below h) = refl
      hint_stays peers (hint_notarized r others) = refl
      hint_stays peers (subscribe_digest d fallback) = refl
      hint_stays peers (subscribe_commitment c fallback) = refl
      hint_stays peers (forward r d others) = refl
      hint_stays peers (close_ticket k) = refl

      read_stays : (peers : List ℕ) (m : Message) → read_of (with_hint_targets peers (told m)).message ≡ read_of m
      read_stays peers (report_finalization f) = refl
      read_stays peers (report_notarization n) = refl
      read_stays peers (report_certification n) = refl
      read_stays peers (verified r b) = refl
      read_stays peers (proposed r others b) = refl
      read_stays peers (prepared r others b) = refl
      read_stays peers (certify r b) = refl
      read_stays peers (get_info (of_height h)) = refl
      read_stays peers (get_info (of_digest d)) = refl
      read_stays peers (get_info latest) = refl
      read_stays peers (get_block (of_height h)) = refl
      read_stays peers (get_block (of_digest d)) = refl
      read_stays peers (get_block latest) = refl
      read_stays peers (get_finalization h) = refl
      read_stays peers get_processed = refl
      read_stays peers get_anchor = refl
      read_stays peers (get_verified r) = refl
      read_stays peers (hint_finalized h others) = refl
      read_stays peers (set_floor f) = refl
      read_stays peers (prune_below h) = refl
      read_stays peers (hint_notarized r others) = refl
      read_stays peers (subscribe_digest d fallback) = refl
      read_stays peers (subscribe_commitment c fallback) = refl
      read_stays peers (forward r d others) = refl
      read_stays peers (close_ticket k) = refl

  pub not_merged : (t next : ℕ) (es es' : List (ℕ × X)) (hints : BTreeMap ℕ ℕ) (reads : BTreeSet (ℕ × ℕ)) → Exchanges t (λ m w. plain w ≡ plain m) es es' → IsIndexed plain es next hints reads
      → IsIndexed plain es' next hints reads × (seen plain es' ≡ seen plain es)
  not_merged t next es es' hints reads e i = (
    subst (λ xs. IsIndexed plain xs next hints reads) (sym e.4)
        (set_indexed plain (is_at (nat_cmp t)) es e.0 e.1 next hints reads e.2 (ap (λ q. hint_of q.message) e.3) (ap (λ q. read_of q.message) e.3) i),
    ap (seen plain) e.4 ∙ set_same plain (is_at (nat_cmp t)) es e.0 e.1 e.2 e.3,
  )

  -- ONE FEWER

  pub popped : (old es : List (ℕ × X)) (t next : ℕ) (m : X) (hints hints' : BTreeMap ℕ ℕ) (reads reads' : BTreeSet (ℕ × ℕ)) → old ≡ (t, m) ∷ es
      → WithoutHint (hint_of (plain m).message) hints hints' → WithoutRead (read_of (plain m).message) t reads reads'
      → IsIndexed plain old next hints reads → IsIndexed plain es next hints' reads'
  popped old es t next m hints hints' reads reads' is hint read i0 =
      let i : IsIndexed plain ((t, m) ∷ es) next hints reads = subst (λ xs. IsIndexed plain xs next hints reads) is i0 in
      record {
        rising = i.rising.1;
        below = i.below.1;
        hinted = by_hint (hint_of (plain m).message) i.hinted.0 hint i.rising.0 i.hinted.1;
        read = by_read (read_of (plain m).message) read i.rising.0 i.read.1;
      }
    where
      by_hint : (o : Option ℕ) → IfSome o (λ h. get nat_cmp hints h ≡ Some t) → WithoutHint o hints hints' → AllByRecursion (λ x. t < x.0) es
          → AllByRecursion (IsHinted plain hints) es → AllByRecursion (IsHinted plain hints') es
      by_hint None at same above all = subst (λ (b : BTreeMap ℕ ℕ). AllByRecursion (IsHinted plain b) es) (sym same) all
      by_hint (Some h) at goes above all =
          hinted_without plain hints hints' h t es goes at
          (all_so (λ e. is_at (nat_cmp t) e.0 ≡ false) (λ e. is_at (nat_cmp t) e.0 ≡ true → hint_of (plain e.1).message ≡ Some h → ⊥) es (λ e off on here. true≢false (sym on ∙ off)) (none_at t es above)) all

      by_read : (o : Option ℕ) → WithoutRead o t reads reads' → AllByRecursion (λ x. t < x.0) es → AllByRecursion (IsRead plain reads) es → AllByRecursion (IsRead plain reads') es
      by_read None same above all = subst (λ (b : BTreeSet (ℕ × ℕ)). AllByRecursion (IsRead plain b) es) (sym same) all
      by_read (Some h) goes above all =
          read_without plain reads reads' h t es goes
          (all_so (λ e. is_at (nat_cmp t) e.0 ≡ false) (λ e. is_at (nat_cmp t) e.0 ≡ true → read_of (plain e.1).message ≡ Some h → ⊥) es (λ e off on here. true≢false (sym on ∙ off)) (none_at t es above)) all
