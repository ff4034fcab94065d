-- Where a delivery stands once its bytes were read.
use Rattle.std.proofs.Common.{Bool, IsFalse, IsTrue, List, None, Option, Some, ap, false, inl, map, not, option_map, refl, subst, sym, true, ℕ, ◌∙◌, ◌≡◌}
use Rattle.std.specs.List.{slice_get}
use Rattle.std.specs.Prelude.{IsSome}
use Rattle.mar_types.specs.Epochs.{containing}
use Rattle.mar_types.specs.Round.{Round}
use Rattle.mar_cert.specs.Block.{Block}
use Rattle.mar_cert.specs.Finalization.{Finalization, finalize, notarize}
use Rattle.mar_key.specs.Asked.{judged_complete, judged_ignored, judged_invalid}
use Rattle.mar_key.specs.Keys.{Annotation, block_key, finalized_key, notarized_key}
use Rattle.mar_model.specs.Config.{Config}
use Rattle.mar_model.specs.Event.{Answer, gave_block, gave_finalized, gave_notarized, gave_nothing}
use Rattle.mar_model.specs.Judge.{Completes, is_lacking}
use Rattle.mar_judge.specs.Found.{IsFinal, IsNotFinal, IsNotNotarized, IsNotarized, IsPlacedAs, final_at, finished, notarized_at}
use Rattle.mar_judge.specs.Groups.{AreGroups, HasScope, IsGroup, IsOfEpoch, IsOpen, claim_at}
use Rattle.mar_judge.specs.Rules.{Claim, IsBlockOf, IsNoBlockOf, Rules, settled}
use Rattle.mar_judge.specs.declared.group.Group.{Group}
use Rattle.mar_judge.proofs.Grouped.{get_all}

some_is : {T : Type 0} (x y : T) → Some x ≡ Some y → x ≡ y
some_is x y e = cc

never_both : (b : Bool) → b ≡ true → b ≡ false → ⊥
never_both b is other = cc

-- SCOPES

module _ {S C R : Type 0} (at : R → S) (groups : List (Group S C)) (place epoch : ℕ) (o : Option R) (of : IsOfEpoch groups place epoch)
    (read : (x : Group S C) → slice_get groups place ≡ Some x → option_map at o ≡ x.scope) where
  scope_is : option_map at o ≡ of.group.scope
  scope_is = read of.group of.there

  -- the group has a scope
  pub opened : (r : R) (e : ℕ) → o ≡ Some r → e ≡ epoch → IsOpen groups place e
  opened r e is same = record {
    group = of.group;
    there = of.there;
    epoch_is = of.epoch_is ∙ sym same;
    scope = subst (λ o. IsSome o) (ap (option_map at) (sym is) ∙ scope_is) refl;
  }

  module _ (claimed : C → Claim) (judges : ℕ → S → Type 0) (scoped : ℕ → Bool) (are : AreGroups claimed judges scoped groups) where
    has : HasScope judges scoped of.group.epoch (map claimed of.group.claims.items) (option_map at o)
    has = subst (λ o. HasScope judges scoped of.group.epoch (map claimed of.group.claims.items) o) (sym scope_is) (get_all (IsGroup claimed judges scoped) groups place of.group are of.there).scope

    pub is_scoped : (r : R) → o ≡ Some r → IsTrue (scoped epoch)
    is_scoped r is =
        let there = subst (λ o. HasScope judges scoped of.group.epoch (map claimed of.group.claims.items) (option_map at o)) is has in
        subst (λ e. IsTrue (scoped e)) of.epoch_is there.0

    pub is_unscoped : o ≡ None → IsFalse (scoped epoch)
    is_unscoped is =
        let there = subst (λ o. HasScope judges scoped of.group.epoch (map claimed of.group.claims.items) (option_map at o)) is has in
        subst (λ e. IsFalse (scoped e)) of.epoch_is there.0

-- OUTCOMES

module _ (rules : Rules) (config : Config) (claims : List (List Claim)) (bytes : List ℕ) (annotations : List Annotation) where
  judged_by : Config
  judged_by = settled rules config

  knows : (o : Option ℕ) (e : ℕ) → o ≡ Some e → IsTrue (rules.scoped e) → IsFalse (is_lacking (settled rules config) o)
  knows o e is scoped = subst (λ o. IsFalse (is_lacking (settled rules config) o)) (sym is) (ap not scoped)

  lacks : (o : Option ℕ) (e : ℕ) → o ≡ Some e → IsFalse (rules.scoped e) → IsTrue (is_lacking (settled rules config) o)
  lacks o e is unscoped = subst (λ o. IsTrue (is_lacking (settled rules config) o)) (sym is) (ap not unscoped)

  -- a block
  pub block_complete : (c : List ℕ) (b : Block) → IsBlockOf rules bytes c b → IsPlacedAs rules config claims (block_key c) bytes annotations (finished judged_complete (gave_block b annotations))
  block_complete c b is = ((refl, (is.is, is.spelled, is.commitment_is, refl)), λ none. none)

  pub block_invalid : (c : List ℕ) → IsNoBlockOf rules bytes c → IsPlacedAs rules config claims (block_key c) bytes annotations (finished judged_invalid gave_nothing)
  block_invalid c none = ((refl, refl, completes), λ none. none)
    where
      completes : (other : Answer) → Completes rules.reading (settled rules config) (block_key c) bytes annotations other → ⊥
      completes (gave_block b given_for) d = none b d.0 d.1 (inl d.2)
      completes (gave_finalized f b) d = d
      completes (gave_notarized f b) d = d
      completes gave_nothing d = d

  -- a finalization at a height
  module _ (h : ℕ) where
    final_lacked : IsTrue (is_lacking (settled rules config) (containing rules.epochs h)) → IsPlacedAs rules config claims (finalized_key h) bytes annotations (finished judged_ignored gave_nothing)
    final_lacked lacking = ((lacking, refl), λ d. never_both (is_lacking (settled rules config) (containing rules.epochs h)) lacking d.0)

    pub final_unplaced : None ≡ containing rules.epochs h → IsPlacedAs rules config claims (finalized_key h) bytes annotations (finished judged_ignored gave_nothing)
    final_unplaced none = final_lacked (subst (λ o. IsTrue (is_lacking (settled rules config) o)) none refl)

    pub final_unscoped : (e : ℕ) → containing rules.epochs h ≡ Some e → IsFalse (rules.scoped e)
        → IsPlacedAs rules config claims (finalized_key h) bytes annotations (finished judged_ignored gave_nothing)
    final_unscoped e there unscoped = final_lacked (lacks _ e there unscoped)

    pub final_invalid : (e : ℕ) → containing rules.epochs h ≡ Some e → IsTrue (rules.scoped e) → IsNotFinal rules e h bytes
        → IsPlacedAs rules config claims (finalized_key h) bytes annotations (finished judged_invalid gave_nothing)
    final_invalid e there scoped none = ((knows _ e there scoped, refl, completes), λ d. none d.1 d.2 d.3.read d.3.block d.3.exactly (same d.1 d.3.epoch) d.3.height d.3.digest)
      where
        same : (f : Finalization) → containing rules.epochs h ≡ Some f.round.epoch → f.round.epoch ≡ e
        same f is = some_is _ _ (sym is ∙ there)

        completes : (other : Answer) → Completes rules.reading (settled rules config) (finalized_key h) bytes annotations other → ⊥
        completes (gave_finalized f b) d = none f b d.0.read d.0.block d.0.exactly (same f d.0.epoch) d.0.height d.0.digest
        completes (gave_block b given_for) d = d
        completes (gave_notarized f b) d = d
        completes gave_nothing d = d

    pub final_waits : (e g p : ℕ) (c : Claim) (b : Block) → containing rules.epochs h ≡ Some e → IsTrue (rules.scoped e) → c.subject ≡ finalize → claim_at claims g p ≡ Some c
        → IsFinal rules e h bytes c.certificate b → IsPlacedAs rules config claims (finalized_key h) bytes annotations (final_at g p b)
    final_waits e g p c b there scoped subject at is =
        (c.certificate, e, at ∙ ap (λ s. Some (record { subject = s; certificate = c.certificate })) subject, there, knows _ e there scoped, is)

  -- a notarization of a round
  module _ (r : Round) where
    pub notarized_unscoped : IsFalse (rules.scoped r.epoch) → IsPlacedAs rules config claims (notarized_key r) bytes annotations (finished judged_ignored gave_nothing)
    notarized_unscoped unscoped = ((ap not unscoped, refl), λ d. never_both (is_lacking (settled rules config) (Some r.epoch)) (ap not unscoped) d.0)

    pub notarized_invalid : IsTrue (rules.scoped r.epoch) → IsNotNotarized rules r bytes → IsPlacedAs rules config claims (notarized_key r) bytes annotations (finished judged_invalid gave_nothing)
    notarized_invalid scoped none = ((ap not scoped, refl, completes), λ d. none d.1 d.2 d.3 d.4 d.5 d.6)
      where
        completes : (other : Answer) → Completes rules.reading (settled rules config) (notarized_key r) bytes annotations other → ⊥
        completes (gave_notarized f b) d = none f b.encoded d.0 d.2 d.3 d.4
        completes (gave_block b given_for) d = d
        completes (gave_finalized f b) d = d
        completes gave_nothing d = d

    pub notarized_waits : (g p : ℕ) (c : Claim) (rest : List ℕ) → IsTrue (rules.scoped r.epoch) → c.subject ≡ notarize → claim_at claims g p ≡ Some c
        → IsNotarized rules r bytes c.certificate rest → IsPlacedAs rules config claims (notarized_key r) bytes annotations (notarized_at g p rest)
    notarized_waits g p c rest scoped subject at is =
        (c.certificate, at ∙ ap (λ s. Some (record { subject = s; certificate = c.certificate })) subject, ap not scoped, is)
