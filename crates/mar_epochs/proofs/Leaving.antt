-- What is left of epochs where a call fails, and what a reopening takes up.
use Rattle.std.proofs.Common.{◌≡◌, ◌≢◌, ◌⊎◌, inl, inr, ◌==◌, ◌<◌, ◌+◌, ℕ, zero, suc, List, [], ◌∷◌, ◌++◌, Bool, true, false, not, IsTrue, Option, Some, None, is_some, Contains, cond, refl, ap, sym, ◌∙◌, subst, map, length, option_map, nat_le, Result, Ok, Err, IfErr, IfOk, MatchResult, MatchOption, IsSome, ◌↔◌, arith}
use Rattle.std.specs.Prelude.{IsSomeAnd, if◌then◌else◌}
use Rattle.std.specs.Bool.{OnTrue}
use Rattle.std.specs.Ordering.{nat_cmp}
use Rattle.std.specs.BTreeMap.{BTreeMap, get, is_at, keys}
use Rattle.std.specs.Ordering.{is_eq}
use Rattle.std.specs.declared.cmp.Ordering.{Ordering}
use Rattle.std.specs.declared.cmp.Ordering.TheVariants.{Equal, Greater, Less}
use Rattle.std.specs.Option.{option_copied}
use Rattle.std.proofs.lemmas.Cmp.{nat_cmp_total}
use Rattle.std.proofs.lemmas.Map.Lookups.{exact_unsigned}
use Rattle.std.proofs.lemmas.Map.Views.{btree_map_contains_key_iff}
use denote.Ref.{Bor}
use Rattle.std.specs.List.{AllByRecursion}
use Rattle.std.proofs.lemmas.Bool.{both_ways, eq-eqb, ne_eqb, leb-false, leb-true}
use Rattle.std.proofs.lemmas.List.Elements.{Contains-append_cases, Contains-append_left, Contains-append_right}
use Rattle.mar_store.specs.Changes.{Left, Within, left_of}
use Rattle.mar_store.specs.Lost.{wreck_of}
use Rattle.mar_store.specs.declared.Lost.{Lost}
use Rattle.mar_store.specs.Names.{IsDestroyedOrNot, IsOpenedOrNot, Names, Opens, SetsName}
use Rattle.mar_store.proofs.Lookups.{AllByRecursion-contains, AllByRecursion-from_contains, AllByRecursion-push, AllByRecursion-weaker}
use Rattle.mar_model.specs.Cached.{Cached}
use Rattle.mar_epochs.specs.EpochArchives.{AreNestedArchives, Book, ChangesArchives, FindsArchives, IsOfMemory, IsSettled, KeepsArchives, LosesArchives, is_kept, nothing_left, puts_of}
use Rattle.mar_epochs.specs.EpochStates.{ChangesEpoch, DestroysOrNot, EpochState, EpochStates, HasSome, IsBare, IsLeftOrBare, IsSettledEpoch, KeepsOtherEpochs, LeavesEpoch, LeavesOtherEpochs, LosesEpoch, MightBe, OpensEpoch, PutsBack, StaysEpoch, held_in, is_opened, is_there, is_upto, left_of_epoch, newer_of, none_gone, opened, shut, state_at, state_of_slot, state_under, states_of}
use Rattle.mar_epochs.specs.declared.change.Change.{Change}
use Rattle.mar_epochs.specs.declared.slot.Slot.{Slot}
use Rattle.mar_epochs.specs.declared.slot.Slot.TheVariants.{Away, Leftover, Standing}
use Rattle.mar_epochs.proofs.Filtering.{contains_more, contains_none, or_left, or_right}

pub all_map : {A B : Type 0} (P : B → Type 0) (f : A → B) (xs : List A) → ((x : A) → P (f x)) → AllByRecursion P (map f xs)
all_map P f [] all = tt
all_map P f (x ∷ xs) all = (all x, all_map P f xs all)

pub all_mapped : {A B : Type 0} (P : B → Type 0) (Q : A → Type 0) (f : A → B) (xs : List A) → ((x : A) → Q x → P (f x)) → AllByRecursion Q xs → AllByRecursion P (map f xs)
all_mapped P Q f [] more all = tt
all_mapped P Q f (x ∷ xs) more all = (more x all.0, all_mapped P Q f xs more all.1)

contains_map : {A B : Type 0} (f : A → B) (xs : List A) (x : A) → Contains xs x → Contains (map f xs) (f x)
contains_map f [] x has = contains_none x has
contains_map f (y ∷ ys) x (zero, lt, is) = (zero, omega arith, ap f is)
contains_map f (y ∷ ys) x (suc k, lt, is) = contains_more (f y) (map f ys) (f x) (contains_map f ys x (k, omega arith, is))

kept_from_not : (b : Bool) → not b ≡ false → IsTrue b
kept_from_not true is = refl
kept_from_not false is = absurd cc

-- a change of archives that failed
pub leaves_lost : {E : Type 0} (plain : E → Cached) (change : Change E) (b : Book) (l : Left Cached) → AreNestedArchives b → LosesArchives plain change b.kept l → LeavesEpoch (puts_of plain change) (λ x. not (is_kept change x)) (opened b) (shut l)
leaves_lost plain change b l nested lost = record {
  sure = λ x has stays. lost.sure x has (kept_from_not (is_kept change x) stays);
  held = λ x has stays. lost.stays x (nested.held_may x has) (kept_from_not (is_kept change x) stays);
  may = λ x has. Contains-append_cases b.kept.may (puts_of plain change) x (lost.may x has);
}

pub stays_lost : {E : Type 0} (plain : E → Cached) (change : Change E) (b : Book) (l : Left Cached) → LosesArchives plain change b.kept l → StaysEpoch (λ x. not (is_kept change x)) (opened b) (shut l)
stays_lost plain change b l lost = record { may = λ x has stays. lost.stays x has (kept_from_not (is_kept change x) stays); only = lost.only }

-- a reopening of archives that failed
pub leaves_kept : (l r : Left Cached) → KeepsArchives l r → LeavesEpoch [] none_gone (shut l) (shut r)
leaves_kept l r kept = record {
  sure = λ x has stays. kept.sure x has;
  held = λ x has stays. contains_none x has;
  may = λ x has. inl (kept.may x has);
}

pub stays_kept : (l r : Left Cached) → KeepsArchives l r → StaysEpoch none_gone (shut l) (shut r)
stays_kept l r kept = record { may = λ x has stays. kept.kept x has; only = kept.only }

-- a crash keeps what might be left and what is sure
pub stays_itself : (t : EpochState) → StaysEpoch none_gone t (left_of_epoch t)
stays_itself (opened b) = record { may = λ x has stays. has; only = λ x has. has }
stays_itself (shut l) = record { may = λ x has stays. has; only = λ x has. has }

-- where one epoch changed and then all was left as a crash leaves it
pub loses_left : (e : ℕ) (was now : EpochState) (put : List Cached) (gone : Cached → Bool) (old mid : EpochStates) (lefts : List EpochStates) → mid e ≡ now → ((k : ℕ) → k ≢ e → mid k ≡ old k) → LeavesEpoch put gone was (left_of_epoch now) → StaysEpoch gone was (left_of_epoch now) → AllByRecursion (λ l. (k : ℕ) → l k ≡ left_of_epoch (mid k)) lefts → AllByRecursion (LosesEpoch e was put gone old) lefts
loses_left e was now put gone old mid lefts here others leaves stays all = AllByRecursion-weaker _ _ (λ l same. record {
  here = subst (LeavesEpoch put gone was) (sym (same e ∙ ap left_of_epoch here)) leaves;
  stays = subst (StaysEpoch gone was) (sym (same e ∙ ap left_of_epoch here)) stays;
  others = λ k other. same k ∙ ap left_of_epoch (others k other);
}) lefts all

pub might_stay : (lefts : List EpochStates) → AllByRecursion (MightBe lefts) lefts
might_stay lefts = AllByRecursion-from_contains (MightBe lefts) lefts (λ x has. (x, has, λ k. refl))

-- what is said of a depot that tells what stands under its names holds of one
pub as_told : {P : Type 0} (told : Bool) → told ≡ true → OnTrue told P → P
as_told true is clause = clause
as_told false is clause = absurd cc

left_under : {W : Type 0} (left : W → Left Cached) (o : Option W) → state_under left o ≡ left_of_epoch (state_under left o)
left_under left None = refl
left_under left (Some w) = refl

module _ {A W : Type 0} (book : A → Book) (left : W → Left Cached) (opening : ℕ) where
  -- each way in which a depot may be left
  abbrev pub left_ways : BTreeMap ℕ (Slot A W) → List (Names W) → List EpochStates
  left_ways slots ways = map (λ names k. left_of_epoch (states_of book left opening slots names k)) ways

  pub wreck_left : (slots : BTreeMap ℕ (Slot A W)) (names : Names W) (ways : List (Names W)) → ways ≡ names ∷ [] → AllByRecursion (λ l. (k : ℕ) → l k ≡ left_of_epoch (states_of book left opening slots names k)) (left_ways slots ways)
  wreck_left slots names ways is = rw is ((λ k. refl), tt)

  pub one_way : (slots : BTreeMap ℕ (Slot A W)) (names : Names W) (ways : List (Names W)) → ways ≡ names ∷ [] → length (left_ways slots ways) ≡ 1
  one_way slots names ways is = rw is refl

  -- what an exchange leaves at the epoch and elsewhere
  pub exchanged_here : (old new : BTreeMap ℕ (Slot A W)) (names : Names W) (e : ℕ) (slot : Slot A W) → ((k : ℕ) → get nat_cmp new k ≡ (if k == e then option_map (λ _. slot) (get nat_cmp old k) else get nat_cmp old k)) → is_some (get nat_cmp old e) ≡ true → states_of book left opening new names e ≡ state_of_slot book left opening (names e) slot
  exchanged_here old new names e slot put there = ap (λ s. state_at book left opening s (names e)) (put e ∙ ap (λ b. cond b (option_map (λ _. slot) (get nat_cmp old e)) (get nat_cmp old e)) (eq-eqb e e refl) ∙ some (get nat_cmp old e) there)
    where
      some : (o : Option (Slot A W)) → is_some o ≡ true → option_map (λ _. slot) o ≡ Some slot
      some (Some s) is = refl
      some None is = absurd cc

  pub exchanged_others : (old new : BTreeMap ℕ (Slot A W)) (names : Names W) (e : ℕ) (slot : Slot A W) → ((k : ℕ) → get nat_cmp new k ≡ (if k == e then option_map (λ _. slot) (get nat_cmp old k) else get nat_cmp old k)) → (k : ℕ) → k ≢ e → states_of book left opening new names k ≡ states_of book left opening old names k
  exchanged_others old new names e slot put k other = ap (λ s. state_at book left opening s (names k)) (put k ∙ ap (λ b. cond b (option_map (λ _. slot) (get nat_cmp old k)) (get nat_cmp old k)) (ne_eqb k e other))

  -- what was open before is what is left, in the next opening
  later : (slot : Option (Slot A W)) (name : Option W) → is_upto opening slot ≡ true → state_at book left (opening + 1) slot name ≡ left_of_epoch (state_at book left opening slot name)
  later (Some (Standing v o)) name upto = ap (λ b. cond b (opened (book v)) (shut (left_of (book v).kept))) (ne_eqb o (opening + 1) (λ same. omega (arith, same, leb-true o opening upto))) ∙ by (o == opening)
    where
      by : (b : Bool) → shut (left_of (book v).kept) ≡ left_of_epoch (cond b (opened (book v)) (shut (left_of (book v).kept)))
      by true = refl
      by false = refl
  later (Some (Leftover w)) name upto = refl
  later (Some Away) name upto = left_under left name
  later None name upto = left_under left name

  pub reopens_as_left : (slots : BTreeMap ℕ (Slot A W)) (names : Names W) (ways : List (Names W)) → Contains ways names → ((k : ℕ) → is_upto opening (get nat_cmp slots k) ≡ true) → MightBe (left_ways slots ways) (states_of book left (opening + 1) slots names)
  reopens_as_left slots names ways is upto = ((λ k. left_of_epoch (states_of book left opening slots names k)), contains_map (λ ns k. left_of_epoch (states_of book left opening slots ns k)) ways names is, λ k. later (get nat_cmp slots k) (names k) (upto k))

  pub reopen_fails : (slots : BTreeMap ℕ (Slot A W)) (ways lefts : List (Names W)) → Within lefts ways → AllByRecursion (MightBe (left_ways slots ways)) (left_ways slots lefts)
  reopen_fails slots ways lefts within = all_mapped _ (Contains lefts) _ lefts (λ ns has. ((λ k. left_of_epoch (states_of book left opening slots ns k)), contains_map (λ ms k. left_of_epoch (states_of book left opening slots ms k)) ways ns (within ns has), λ k. refl)) (AllByRecursion-from_contains (Contains lefts) lefts (λ x has. has))

  -- AN OPENING OF A NAME THAT FAILED

  leaves_under : (o : Option W) → LeavesEpoch [] none_gone (state_under left o) (left_of_epoch (state_under left o))
  leaves_under None = record { sure = λ x has stays. has; held = λ x has stays. contains_none x has; may = λ x has. inl has }
  leaves_under (Some w) = record { sure = λ x has stays. has; held = λ x has stays. contains_none x has; may = λ x has. inl has }

  module _ (is_empty : W → Bool) (empties : (w : W) → IsTrue (is_empty w) → left w ≡ nothing_left) (slots removed : BTreeMap ℕ (Slot A W)) (e : ℕ) (gone_here : get nat_cmp removed e ≡ None) (others : (k : ℕ) → k ≢ e → get nat_cmp removed k ≡ get nat_cmp slots k) (names : Names W) where
    -- an empty one that was added under a name leaves nothing, as no name
    same_under : (ns : Names W) → IsOpenedOrNot is_empty names e ns → (o : Option W) → o ≡ ns e → (p : Option W) → p ≡ names e → state_under left o ≡ state_under left p
    same_under ns (inl keeps) o o_is p p_is = ap (state_under left) (o_is ∙ keeps e ∙ sym p_is)
    same_under ns (inr adds) None o_is p p_is = ap (state_under left) (sym (p_is ∙ adds.lacked))
    same_under ns (inr adds) (Some w) o_is p p_is = ap shut (empties w (stands_empty (ns e) (sym o_is) adds.stands)) ∙ ap (state_under left) (sym (p_is ∙ adds.lacked))
      where
        stands_empty : (o : Option W) → o ≡ Some w → IsSomeAnd o (λ content. IsTrue (is_empty content)) → IsTrue (is_empty w)
        stands_empty (Some v) is empty = subst (λ u. IsTrue (is_empty u)) (inside is) empty
          where
            inside : ◌≡◌ {A = Option W} (Some v) (Some w) → v ≡ w
            inside e' = cc
        stands_empty None is empty = absurd empty

    pub loses_name : (ways : List (Names W)) → AllByRecursion (IsOpenedOrNot is_empty names e) ways → AllByRecursion (LosesEpoch e (state_under left (names e)) [] none_gone (states_of book left opening slots names)) (left_ways removed ways)
    loses_name ways all = all_mapped _ (IsOpenedOrNot is_empty names e) _ ways (λ ns way. record {
      here = subst (LeavesEpoch [] none_gone (state_under left (names e))) (sym (left_there ns way)) (leaves_under (names e));
      stays = subst (StaysEpoch none_gone (state_under left (names e))) (sym (left_there ns way)) (stays_itself (state_under left (names e)));
      others = λ k other. ap (λ s. left_of_epoch (state_at book left opening s (ns k))) (others k other) ∙ ap (λ n. left_of_epoch (state_at book left opening (get nat_cmp slots k) n)) (elsewhere ns way k other);
    }) all
      where
        left_there : (ns : Names W) → IsOpenedOrNot is_empty names e ns → left_of_epoch (states_of book left opening removed ns e) ≡ left_of_epoch (state_under left (names e))
        left_there ns way = ap (λ s. left_of_epoch (state_at book left opening s (ns e))) gone_here ∙ ap left_of_epoch (same_under ns way (ns e) refl (names e) refl)

        elsewhere : (ns : Names W) → IsOpenedOrNot is_empty names e ns → (k : ℕ) → k ≢ e → ns k ≡ names k
        elsewhere ns (inl keeps) k other = keeps k
        elsewhere ns (inr adds) k other = adds.others k other

  -- A REMOVAL

  pub removed : (slots kept : BTreeMap ℕ (Slot A W)) (e : ℕ) (names names' : Names W) → get nat_cmp kept e ≡ None → ((k : ℕ) → k ≢ e → get nat_cmp kept k ≡ get nat_cmp slots k) → SetsName names e None names' → IsBare (states_of book left opening kept names' e) × KeepsOtherEpochs e (states_of book left opening slots names) (states_of book left opening kept names')
  removed slots kept e names names' gone others sets = (
    subst IsBare (sym (ap (λ s. state_at book left opening s (names' e)) gone ∙ ap (state_under left) (sets e ∙ ap (λ b. cond b None (names e)) (eq-eqb e e refl)))) refl,
    λ k other. ap (λ s. state_at book left opening s (names' k)) (others k other) ∙ ap (state_at book left opening (get nat_cmp slots k)) (sets k ∙ ap (λ b. cond b None (names k)) (ne_eqb k e other)),
  )

  pub loses_removed : (slots : BTreeMap ℕ (Slot A W)) (e : ℕ) (names : Names W) (ways : List (Names W)) → AllByRecursion (IsDestroyedOrNot names e) ways → AllByRecursion (DestroysOrNot e (states_of book left opening slots names)) (left_ways slots ways)
  loses_removed slots e names ways all = all_mapped _ (IsDestroyedOrNot names e) _ ways (λ ns way. record {
    here = at_name (get nat_cmp slots e) ns way;
    others = λ k other. ap (λ n. left_of_epoch (state_at book left opening (get nat_cmp slots k) n)) (elsewhere ns way k other);
  }) all
    where
      elsewhere : (ns : Names W) → IsDestroyedOrNot names e ns → (k : ℕ) → k ≢ e → ns k ≡ names k
      elsewhere ns (inl keeps) k other = keeps k
      elsewhere ns (inr sets) k other = sets k ∙ ap (λ b. cond b None (names k)) (ne_eqb k e other)

      under : (ns : Names W) → IsDestroyedOrNot names e ns → IsLeftOrBare (state_under left (names e)) (left_of_epoch (state_under left (ns e)))
      under ns (inl keeps) = inl (ap (λ o. left_of_epoch (state_under left o)) (keeps e))
      under ns (inr sets) = inr (subst (λ o. IsBare (left_of_epoch (state_under left o))) (sym (sets e ∙ ap (λ b. cond b None (names e)) (eq-eqb e e refl))) refl)

      at_name : (slot : Option (Slot A W)) (ns : Names W) → IsDestroyedOrNot names e ns → IsLeftOrBare (state_at book left opening slot (names e)) (left_of_epoch (state_at book left opening slot (ns e)))
      at_name (Some (Standing v o)) ns way = inl refl
      at_name (Some (Leftover w)) ns way = inl refl
      at_name (Some Away) ns way = under ns way
      at_name None ns way = under ns way

-- OPENINGS AND CHANGES

module _ {A W S L : Type 0} (book : A → Book) (left : W → Left Cached) (states : S → EpochStates) (lefts : L → List EpochStates) (e : ℕ) (old : EpochStates) where
  -- a change of archives, which were put back
  pub changes_back : {E : Type 0} (plain : E → Cached) (change : Change E) (b : Book) (nested : AreNestedArchives b) (answer : Result A (Lost W)) (r : Result S (Lost L)) → PutsBack book left states lefts e old answer r
      → MatchResult answer (λ v. ChangesArchives plain change b (book v)) (λ l. LosesArchives plain change b.kept (left (wreck_of l)))
      → MatchResult r (λ s. ChangesEpoch plain change (opened b) (states s e) × KeepsOtherEpochs e old (states s)) (λ l. AllByRecursion (LosesEpoch e (opened b) (puts_of plain change) (λ x. not (is_kept change x)) old) (lefts (wreck_of l)))
  changes_back plain change b nested (Ok v) (Ok s) back done = ((book v, done, back.0), back.1)
  changes_back plain change b nested (Ok v) (Err m) back done = absurd back
  changes_back plain change b nested (Err l) (Ok s) back done = absurd back
  changes_back plain change b nested (Err l) (Err m) back done = AllByRecursion-weaker _ _ (λ x is. record {
    here = subst (LeavesEpoch (puts_of plain change) (λ y. not (is_kept change y)) (opened b)) (sym is.0) (leaves_lost plain change b (left (wreck_of l)) nested done);
    stays = subst (StaysEpoch (λ y. not (is_kept change y)) (opened b)) (sym is.0) (stays_lost plain change b (left (wreck_of l)) done);
    others = is.1;
  }) (lefts (wreck_of m)) back.1

  -- an opening of archives
  pub opens_back : (l : Left Cached) (answer : Result A (Lost W)) (r : Result S (Lost L)) → PutsBack book left states lefts e old answer r
      → MatchResult answer (λ v. FindsArchives l (book v).kept) (λ w. KeepsArchives l (left (wreck_of w)))
      → MatchResult r (λ s. OpensEpoch (shut l) (states s e) × KeepsOtherEpochs e old (states s)) (λ m. AllByRecursion (LosesEpoch e (shut l) [] none_gone old) (lefts (wreck_of m)))
  opens_back l (Ok v) (Ok s) back done = ((book v, done, back.0), back.1)
  opens_back l (Ok v) (Err m) back done = absurd back
  opens_back l (Err w) (Ok s) back done = absurd back
  opens_back l (Err w) (Err m) back done = AllByRecursion-weaker _ _ (λ x is. record {
    here = subst (LeavesEpoch [] none_gone (shut l)) (sym is.0) (leaves_kept l (left (wreck_of w)) done);
    stays = subst (StaysEpoch none_gone (shut l)) (sym is.0) (stays_kept l (left (wreck_of w)) done);
    others = is.1;
  }) (lefts (wreck_of m)) back.1

  -- where what is finished was sure, the archives are put back as they were
  pub settles_back : {E : Type 0} (change : Change E) (b : Book) (t : EpochState) (answer : Result A (Lost W)) (r : Result S (Lost L)) → t ≡ opened b → PutsBack book left states lefts e old answer r
      → (IsSettled change b → IfOk answer (λ v. book v ≡ b)) → IsSettledEpoch change t → IfOk r (λ s. states s e ≡ t)
  settles_back change b t (Ok v) (Ok s) is back settled sure = back.0 ∙ ap (λ c. opened c) (settled (subst (IsSettledEpoch change) is sure)) ∙ sym is
  settles_back change b t (Ok v) (Err m) is back settled sure = tt
  settles_back change b t (Err l) (Ok s) is back settled sure = absurd back
  settles_back change b t (Err l) (Err m) is back settled sure = tt

  pub memory_back : (answer : Result A (Lost W)) (r : Result S (Lost L)) → PutsBack book left states lefts e old answer r → IfErr answer IsOfMemory → IfErr r IsOfMemory
  memory_back (Ok v) (Ok s) back of = tt
  memory_back (Ok v) (Err m) back of = absurd back
  memory_back (Err l) (Ok s) back of = tt
  memory_back (Err l) (Err m) back of = back.0 ∙ of

-- what a depot handed out is what it had under the name
module _ {W : Type 0} (left : W → Left Cached) (is_empty : W → Bool) (empties : (w : W) → IsTrue (is_empty w) → left w ≡ nothing_left) (names : Names W) (e : ℕ) (ruin : W) (names' : Names W) where
  pub handed_is : Opens is_empty names e ruin names' → state_under left (names e) ≡ shut (left ruin)
  handed_is opens = by (names e) opens.handed
    where
      by : (o : Option W) → MatchOption o (IsTrue (is_empty ruin)) (λ content. ruin ≡ content) → state_under left o ≡ shut (left ruin)
      by None empty = ap shut (sym (empties ruin empty))
      by (Some w) is = ap (λ v. shut (left v)) (sym is)

  pub others_handed : {A : Type 0} (book : A → Book) (opening : ℕ) (slots : BTreeMap ℕ (Slot A W)) → Opens is_empty names e ruin names' → (k : ℕ) → k ≢ e → states_of book left opening slots names' k ≡ states_of book left opening slots names k
  others_handed book opening slots is k other = ap (λ n. state_at book left opening (get nat_cmp slots k) n) (is.others k other)

-- an epoch that had no slot, where none could be made for it
pub loses_unslotted : {A W : Type 0} (book : A → Book) (left : W → Left Cached) (opening : ℕ) (old new : BTreeMap ℕ (Slot A W)) (names : Names W) (e : ℕ) (lefts : List EpochStates) → ((k : ℕ) → get nat_cmp new k ≡ get nat_cmp old k) → get nat_cmp old e ≡ None
    → AllByRecursion (λ l. (k : ℕ) → l k ≡ left_of_epoch (states_of book left opening new names k)) lefts → AllByRecursion (LosesEpoch e (state_under left (names e)) [] none_gone (states_of book left opening old names)) lefts
loses_unslotted book left opening old new names e lefts same none all =
    loses_left e _ (state_under left (names e)) [] none_gone _ (states_of book left opening new names) lefts
    (ap (λ s. state_at book left opening s (names e)) (same e ∙ none)) (λ k other. ap (λ s. state_at book left opening s (names k)) (same k))
    (leaves_under book left opening (names e)) (stays_itself (state_under left (names e))) all

-- WALKS OVER EPOCHS

abbrev pub NewestOf : (ℕ → Bool) → List ℕ → Option ℕ → Type 0
NewestOf has es None = AllByRecursion (λ k. has k ≡ false) es
NewestOf has es (Some e) = (has e ≡ true) × AllByRecursion (λ k. e < k → has k ≡ false) es

pub newest_push : (has : ℕ → Bool) (es : List ℕ) (e : ℕ) (b : Bool) (newest : Option ℕ) → b ≡ has e → NewestOf has es newest → NewestOf has (es ++ e ∷ []) (newer_of e b newest)
newest_push has es e false None is all = AllByRecursion-push _ es e all (sym is)
newest_push has es e false (Some n) is all = (all.0, AllByRecursion-push _ es e all.1 (λ less. sym is))
newest_push has es e true None is all = (sym is, AllByRecursion-push _ es e (AllByRecursion-weaker _ _ (λ k none less. none) es all) (λ less. absurd (omega (arith, less))))
newest_push has es e true (Some n) is all = by (nat_le e n) refl
  where
    by : (b : Bool) → nat_le e n ≡ b → NewestOf has (es ++ e ∷ []) (if b then Some n else Some e)
    by true below = (all.0, AllByRecursion-push _ es e all.1 (λ less. absurd (omega (arith, less, leb-true e n below))))
    by false above = (sym is, AllByRecursion-push _ es e (AllByRecursion-weaker _ _ (λ k none less. none (omega (arith, less, leb-false e n above))) es all.1) (λ less. absurd (omega (arith, less))))

-- what is found at the newest of all the epochs that have a slot
pub newest_all : (has : ℕ → Bool) (es : List ℕ) (newest : Option ℕ) → NewestOf has es newest → ((k : ℕ) → (Contains es k → ⊥) → has k ≡ false) → ((k : ℕ) → Contains es k ⊎ (Contains es k → ⊥)) → MatchOption newest ((k : ℕ) → has k ≡ false) (λ e. (has e ≡ true) × ((k : ℕ) → e < k → has k ≡ false))
newest_all has es None all none decide = λ k. by k (decide k)
  where
    by : (k : ℕ) → Contains es k ⊎ (Contains es k → ⊥) → has k ≡ false
    by k (inl there) = AllByRecursion-contains _ es k all there
    by k (inr lacks) = none k lacks
newest_all has es (Some e) all none decide = (all.0, λ k less. by k less (decide k))
  where
    by : (k : ℕ) → e < k → Contains es k ⊎ (Contains es k → ⊥) → has k ≡ false
    by k less (inl there) = AllByRecursion-contains _ es k all.1 there less
    by k less (inr lacks) = none k lacks

-- the same call, on another view of the same epochs
pub same_view : {S L : Type 0} (R : EpochState → EpochState → Type 0) (put : List Cached) (gone : Cached → Bool) (states : S → EpochStates) (lefts : L → List EpochStates) (e : ℕ) (t u : EpochState) (old mid : EpochStates) (r : Result S (Lost L)) → u ≡ t → ((k : ℕ) → k ≢ e → mid k ≡ old k)
    → MatchResult r (λ s. R t (states s e) × KeepsOtherEpochs e mid (states s)) (λ l. AllByRecursion (LosesEpoch e t put gone mid) (lefts (wreck_of l)))
    → MatchResult r (λ s. R u (states s e) × KeepsOtherEpochs e old (states s)) (λ l. AllByRecursion (LosesEpoch e u put gone old) (lefts (wreck_of l)))
same_view R put gone states lefts e t u old mid (Ok s) is same done = (subst (λ v. R v (states s e)) (sym is) done.0, λ k other. done.1 k other ∙ same k other)
same_view R put gone states lefts e t u old mid (Err l) is same done = AllByRecursion-weaker _ _ (λ x lost. record { here = subst (λ v. LeavesEpoch put gone v (x e)) (sym is) lost.here; stays = subst (λ v. StaysEpoch gone v (x e)) (sym is) lost.stays; others = λ k other. lost.others k other ∙ ap left_of_epoch (same k other) }) (lefts (wreck_of l)) done

module _ {A W : Type 0} (book : A → Book) (left : W → Left Cached) (opening : ℕ) where
  pub exchanged_elsewhere : (now : ℕ) (old new : BTreeMap ℕ (Slot A W)) (names names' : Names W) (e : ℕ) (slot : Slot A W) → now ≡ opening → names' ≡ names → ((k : ℕ) → get nat_cmp new k ≡ (if k == e then option_map (λ _. slot) (get nat_cmp old k) else get nat_cmp old k))
      → (k : ℕ) → k ≢ e → states_of book left now new names' k ≡ states_of book left opening old names k
  exchanged_elsewhere now old new names names' e slot same same_names exchanged k other = rw (same, same_names) (exchanged_others book left opening old new names e slot exchanged k other)

  -- where archives came to stand in the slot of an epoch
  pub stands_here : (now : ℕ) (old new : BTreeMap ℕ (Slot A W)) (names names' : Names W) (e : ℕ) (v : A) → now ≡ opening → names' ≡ names → ((k : ℕ) → get nat_cmp new k ≡ (if k == e then option_map (λ _. Standing v opening) (get nat_cmp old k) else get nat_cmp old k))
      → is_some (get nat_cmp old e) ≡ true → states_of book left now new names' e ≡ opened (book v)
  stands_here now old new names names' e v same same_names exchanged there = rw (same, same_names) (exchanged_here book left opening old new names e (Standing v opening) exchanged there ∙ ap (λ b. cond b (opened (book v)) (shut (left_of (book v).kept))) (eq-eqb opening opening refl))

  -- or what is left of them
  pub left_here : (now : ℕ) (old new : BTreeMap ℕ (Slot A W)) (names names' : Names W) (e : ℕ) (w : W) (lefts : List EpochStates) → now ≡ opening → names' ≡ names → ((k : ℕ) → get nat_cmp new k ≡ (if k == e then option_map (λ _. Leftover w) (get nat_cmp old k) else get nat_cmp old k)) → is_some (get nat_cmp old e) ≡ true
      → AllByRecursion (λ x. (k : ℕ) → x k ≡ left_of_epoch (states_of book left now new names' k)) lefts → AllByRecursion (λ x. (x e ≡ shut (left w)) × LeavesOtherEpochs e (states_of book left opening old names) x) lefts
  left_here now old new names names' e w lefts same same_names exchanged there all = AllByRecursion-weaker _ _ (λ x is. (
    is e ∙ ap left_of_epoch here,
    λ k other. is k ∙ ap left_of_epoch (exchanged_elsewhere now old new names names' e (Leftover w) same same_names exchanged k other),
  )) lefts all
    where
      here : states_of book left now new names' e ≡ shut (left w)
      here = rw (same, same_names) (exchanged_here book left opening old new names e (Leftover w) exchanged there)

  pub standing_open : (v : A) (o : ℕ) (slot : Option (Slot A W)) (name : Option W) → slot ≡ Some (Standing v o) → o ≡ opening → state_at book left opening slot name ≡ opened (book v)
  standing_open v o slot name is same = ap (λ s. state_at book left opening s name) is ∙ ap (λ b. cond b (opened (book v)) (shut (left_of (book v).kept))) (eq-eqb o opening same)

  -- it is open, so no clause speaks of one that isn't
  pub standing_not_shut : (v : A) (o : ℕ) (slot : Option (Slot A W)) (name : Option W) → slot ≡ Some (Standing v o) → o ≡ opening → is_opened (state_at book left opening slot name) ≡ false → ⊥
  standing_not_shut v o slot name is same closed = let clash : true ≡ false = sym (ap is_opened (standing_open v o slot name is same)) ∙ closed in cc

  pub standing_shut : (v : A) (o : ℕ) (slot : Option (Slot A W)) (name : Option W) → slot ≡ Some (Standing v o) → is_opened (state_at book left opening slot name) ≡ false → state_at book left opening slot name ≡ shut (left_of (book v).kept)
  standing_shut v o slot name is closed = ap (λ s. state_at book left opening s name) is ∙ by (o == opening) (ap is_opened (ap (λ s. state_at book left opening s name) (sym is)) ∙ closed)
    where
      by : (b : Bool) → is_opened (cond b (opened (book v)) (shut (left_of (book v).kept))) ≡ false → cond b (opened (book v)) (shut (left_of (book v).kept)) ≡ shut (left_of (book v).kept)
      by true closed' = absurd cc
      by false closed' = refl

  pub slot_is : (slot slot' : Option (Slot A W)) (name : Option W) → slot ≡ slot' → state_at book left opening slot name ≡ state_at book left opening slot' name
  slot_is slot slot' name is = ap (λ s. state_at book left opening s name) is

-- another key than that one
pub not_at : (e k : ℕ) → k ≢ e → is_at (nat_cmp e) k ≡ false
not_at e k other = by (nat_cmp e k) refl
  where
    by : (o : Ordering) → nat_cmp e k ≡ o → is_eq o ≡ false
    by Less is = refl
    by Greater is = refl
    by Equal is = absurd (other (sym (exact_unsigned e k is)))

pub some_copied : {X Y : Type 0} (f : X → Y) (o : Option (Bor X)) → is_some (option_map f (option_copied o)) ≡ is_some o
some_copied f None = refl
some_copied f (Some x) = refl

-- WHAT A DEPOT LISTS, AND WHAT IS AT HAND

module _ {A W : Type 0} (book : A → Book) (left : W → Left Cached) (opening : ℕ) (slots : BTreeMap ℕ (Slot A W)) (names : Names W) where
  pub has_key : (k : ℕ) → is_some (get nat_cmp slots k) ≡ true → Contains (keys slots) k
  has_key k is = (btree_map_contains_key_iff nat_cmp_total exact_unsigned slots k).0 is

  pub key_or_none : (k : ℕ) → Contains (keys slots) k ⊎ (Contains (keys slots) k → ⊥)
  key_or_none k = by (get nat_cmp slots k) refl
    where
      by : (o : Option (Slot A W)) → get nat_cmp slots k ≡ o → Contains (keys slots) k ⊎ (Contains (keys slots) k → ⊥)
      by (Some s) is = inl (has_key k (ap is_some is))
      by None is = inr (λ there. both_ways false refl (sym (ap is_some is) ∙ (btree_map_contains_key_iff nat_cmp_total exact_unsigned slots k).1 there))

  -- what a depot alone has isn't open
  pub unslotted : (k : ℕ) → (Contains (keys slots) k → ⊥) → held_in (states_of book left opening slots names k) ≡ []
  unslotted k lacks = by (get nat_cmp slots k) refl (names k)
    where
      by : (o : Option (Slot A W)) → get nat_cmp slots k ≡ o → (n : Option W) → held_in (state_at book left opening o n) ≡ []
      by (Some s) is n = absurd (lacks (has_key k (ap is_some is)))
      by None is None = refl
      by None is (Some w) = refl

  pub epochs_found : (list epochs : List ℕ) → ((n : ℕ) → IsSome (names n) ↔ Contains list n) → epochs ≡ list ++ keys slots → (k : ℕ) → HasSome (states_of book left opening slots names k) → Contains epochs k
  epochs_found list epochs listed are k some = subst (λ es. Contains es k) (sym are) (by (get nat_cmp slots k) refl (names k) refl some)
    where
      by : (o : Option (Slot A W)) → get nat_cmp slots k ≡ o → (n : Option W) → names k ≡ n → HasSome (state_at book left opening o n) → Contains (list ++ keys slots) k
      by (Some s) is n name some' = Contains-append_right list (keys slots) k (has_key k (ap is_some is))
      by None is (Some w) name some' = Contains-append_left list (keys slots) k ((listed k).0 (ap is_some name))
      by None is None name some' = absurd (some' refl)

  -- what is listed stands under its name, or is at hand
  pub only_there : (list epochs : List ℕ) → ((n : ℕ) → IsSome (names n) ↔ Contains list n) → epochs ≡ list ++ keys slots → (k : ℕ) → Contains epochs k → is_there slots names k ≡ true
  only_there list epochs listed are k has = elim (Contains-append_cases list (keys slots) k (subst (λ es. Contains es k) are has)) [
    | inl named ↦ or_left (is_some (names k)) (is_some (get nat_cmp slots k)) ((listed k).1 named)
    | inr held ↦ or_right (is_some (names k)) (is_some (get nat_cmp slots k)) ((btree_map_contains_key_iff nat_cmp_total exact_unsigned slots k).1 held)
  ]
