-- Why epochs fail: what keeps their names failed, or the archives of one did.
use Rattle.std.proofs.Common.{◌≡◌, ◌≢◌, ◌⊎◌, inl, inr, ◌==◌, ◌≤◌, ◌∙◌, ℕ, Bool, true, false, Option, Some, None, Result, Ok, Err, is_some, cond, option_map, refl, ap, sym, subst, arith}
use Rattle.std.specs.Prelude.{IsTrue, MatchOption, if◌then◌else◌}
use Rattle.std.specs.Ordering.{nat_cmp}
use Rattle.std.specs.BTreeMap.{BTreeMap, get}
use Rattle.std.proofs.lemmas.Bool.{eq-eqb, ne_eqb}
use Rattle.mar_types.specs.Causes.{Rose}
use Rattle.mar_store.specs.Lost.{wreck_of}
use Rattle.mar_store.specs.Names.{Names, Opens, SetsName}
use Rattle.mar_store.specs.Watch.{LostHeeds, Watch}
use Rattle.mar_store.specs.declared.Lost.{Lost}
use Rattle.mar_store.specs.declared.Lost.TheVariants.{Fault, Memory}
use Rattle.mar_epochs.specs.EpochArchives.{is_fault}
use Rattle.mar_epochs.specs.Failures.{CountsAt, CountsFaults, FailsAt, Failures, PutsCounts, count_at, count_under}
use Rattle.mar_epochs.specs.declared.slot.Slot.{Slot}

pub no_less : (a b : ℕ) → a ≡ b → a ≤ b
no_less a b is = omega (arith, is)

later_rose : (a b c : ℕ) → a ≤ b → Rose b c → Rose a c
later_rose a b c less rose = omega (arith, less, rose)

-- a counted call that failed
pub fault_rose : {W : Type 0} (left : W → Watch) (old : Watch) (l : Lost W) → LostHeeds left old l → is_fault l ≡ true → Rose old.faults (left (wreck_of l)).faults
fault_rose left old (Fault w) heeds fault = heeds.rose
fault_rose left old (Memory w) heeds fault = absurd cc

module _ {A W : Type 0} (faults : A → ℕ) (left : W → ℕ) (old new : BTreeMap ℕ (Slot A W)) (e : ℕ) (slot : Slot A W) (put : (k : ℕ) → get nat_cmp new k ≡ (if k == e then option_map (λ _. slot) (get nat_cmp old k) else get nat_cmp old k)) where
  -- an exchange leaves the counts of other epochs
  pub counts_others : (names : Names W) (k : ℕ) → k ≢ e → count_at faults left (get nat_cmp new k) (names k) ≡ count_at faults left (get nat_cmp old k) (names k)
  counts_others names k other = ap (λ s. count_at faults left s (names k)) (put k ∙ ap (λ b. cond b (option_map (λ _. slot) (get nat_cmp old k)) (get nat_cmp old k)) (ne_eqb k e other))

  exchanged : (o : Option (Slot A W)) → get nat_cmp old e ≡ o → get nat_cmp new e ≡ option_map (λ _. slot) o
  exchanged o is = put e ∙ ap (λ b. cond b (option_map (λ _. slot) (get nat_cmp old e)) (get nat_cmp old e)) (eq-eqb e e refl) ∙ ap (option_map (λ _. slot)) is

  pub counts_here : (name : Option W) → is_some (get nat_cmp old e) ≡ true → count_at faults left (get nat_cmp new e) name ≡ count_at faults left (Some slot) name
  counts_here name there = by (get nat_cmp old e) refl there
    where
      by : (o : Option (Slot A W)) → get nat_cmp old e ≡ o → is_some o ≡ true → count_at faults left (get nat_cmp new e) name ≡ count_at faults left (Some slot) name
      by (Some s) is there' = ap (λ o. count_at faults left o name) (exchanged (Some s) is)
      by None is there' = absurd cc

  -- where there was none there is none
  pub counts_none : (name : Option W) → get nat_cmp old e ≡ None → count_at faults left (get nat_cmp new e) name ≡ count_at faults left (get nat_cmp old e) name
  counts_none name is = ap (λ o. count_at faults left o name) (exchanged None is ∙ sym is)

module _ {S L : Type 0} (now : S → Failures) (lost : L → Failures) (e : ℕ) where
  -- archives were put back as a call of them answered
  pub counts_back : {A W : Type 0} (faults : A → ℕ) (left : W → ℕ) (was : ℕ) (old : Failures) (answer : Result A (Lost W)) (r : Result S (Lost L)) → PutsCounts faults left now lost e old answer r → CountsFaults faults left was answer → CountsAt now lost e was old r
  counts_back faults left was old (Ok v) (Ok s) back counts = (no_less _ _ (sym back.0), subst (λ n. was ≤ n) (sym back.1) counts, λ k other. no_less _ _ (sym (back.2 k other)))
  counts_back faults left was old (Ok v) (Err m) back counts = absurd back
  counts_back faults left was old (Err l) (Ok s) back counts = absurd back
  counts_back faults left was old (Err (Fault w)) (Err m) back counts = λ fault. inr (subst (Rose was) (sym back.1) counts)
  counts_back faults left was old (Err (Memory w)) (Err m) back counts = λ fault. absurd (let clash : true ≡ false = sym fault ∙ back.0 in cc)

  -- the same since an earlier time
  pub counts_since : (was mid : ℕ) (before between : Failures) (r : Result S (Lost L)) → before.names ≤ between.names → was ≤ mid → ((k : ℕ) → k ≢ e → before.archives k ≤ between.archives k) → CountsAt now lost e mid between r → CountsAt now lost e was before r
  counts_since was mid before between (Ok s) names own others counts = (omega (arith, names, counts.0), omega (arith, own, counts.1), λ k other. upto _ _ _ (others k other) (counts.2 k other))
    where
      upto : (a b c : ℕ) → a ≤ b → b ≤ c → a ≤ c
      upto a b c less more = omega (arith, less, more)
  counts_since was mid before between (Err l) names own others counts = λ fault. elim (counts fault) [
    | inl rose ↦ inl (later_rose _ _ _ names rose)
    | inr rose ↦ inr (later_rose _ _ _ own rose)
  ]

-- what a depot handed out has failed as often as what it had under the name
pub handed_count : {W : Type 0} (left : W → ℕ) (is_empty : W → Bool) (names names' : Names W) (e : ℕ) (ruin : W) → Opens is_empty names e ruin names' → count_under left (names e) ≤ left ruin
handed_count {W} left is_empty names names' e ruin opens = by (names e) opens.handed
  where
    by : (o : Option W) → MatchOption o (IsTrue (is_empty ruin)) (λ content. ruin ≡ content) → count_under left o ≤ left ruin
    by None empty = omega arith
    by (Some w) is = no_less _ _ (ap left (sym is))

-- where a name was removed, the counts of the other epochs stay
pub named_counts : {A W : Type 0} (faults : A → ℕ) (left : W → ℕ) (old new : BTreeMap ℕ (Slot A W)) (names names' : Names W) (e k : ℕ) → k ≢ e → get nat_cmp new k ≡ get nat_cmp old k → SetsName names e None names' → count_at faults left (get nat_cmp new k) (names' k) ≡ count_at faults left (get nat_cmp old k) (names k)
named_counts faults left old new names names' e k other same sets = ap (λ s. count_at faults left s (names' k)) same ∙ ap (count_at faults left (get nat_cmp old k)) (sets k ∙ ap (λ b. cond b None (names k)) (ne_eqb k e other))
