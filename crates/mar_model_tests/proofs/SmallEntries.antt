-- What enters the stores in the instances, and what may be left of it.
use Rattle.std.proofs.Common.{Bool, Contains, List, [], ◌∷◌, None, Option, Some, ap, arith, false, if◌then◌else◌, inl, inr, lit<, refl, subst, suc, sym, true, zero, ℕ, ◌∙◌, ◌≡◌, ◌⊎◌}
use Rattle.std.proofs.lemmas.List.Elements.{Contains-append_left}
use Rattle.mar_cert.specs.Block.{Block}
use Rattle.mar_cert.specs.Finalization.{Finalization}
use Rattle.mar_store.specs.Kept.{At, reopened_store, value_at}
use Rattle.mar_model.specs.Messages.{report_finalization}
use Rattle.mar_model.specs.Cache.{AdvancesCache}
use Rattle.mar_model.specs.Chain.{Chain, Finalizes}
use Rattle.mar_model.specs.Node.{AreBlocksOf, AreFinalizationsOf, AreGoodStores, AreNestedHeights, AreStoresOf, IsCacheOf, Node}
use Rattle.mar_model.specs.Event.{Event, Storing, message_told, no_floor, storing_of, told_finalization}
use Rattle.mar_model.specs.Step.{CertificatesFrom, IsBlockFrom, IsCertFrom}
use Rattle.mar_model_tests.proofs.SmallChain.{config, d1, f1, r1}
use Rattle.mar_model_tests.proofs.SmallFacts.{none_in}
use Rattle.mar_model_tests.proofs.DeliveryRun.{n1, n2, one_cached}

-- all that is held is sure
pub settled_heights : {T : Type 0} (xs : List (At T)) → AreNestedHeights (reopened_store xs)
settled_heights xs = record { sure_held = λ h is. is; held_may = λ h is. is }

pub settled_stores : (blocks : List (At Block)) (certs : List (At Finalization)) → AreGoodStores (reopened_store blocks) (reopened_store certs) []
settled_stores blocks certs = record {
  nested_blocks = settled_heights blocks;
  nested_certs = settled_heights certs;
  sure_blocks = λ h held. inl held;
  sure_certs = λ h held. inl held;
}

-- and a crash leaves just that
pub settled_of : (chain : Chain) (blocks : List (At Block)) (certs : List (At Finalization)) → AreBlocksOf chain blocks → AreFinalizationsOf chain certs → AreStoresOf chain (reopened_store blocks) (reopened_store certs)
settled_of chain blocks certs of_blocks of_certs = record { held_blocks = of_blocks; may_blocks = of_blocks; held_certs = of_certs; may_certs = of_certs }

-- an event that tells no finalization, and stores none
pub same_certificates : (n : Node) (e : Event) (n' : Node) → told_finalization n e ≡ None → n'.certs.held ≡ n.certs.held → CertificatesFrom n e n'
same_certificates n e n' untold same = record {
  entered = λ h f is. inl (subst (λ xs. value_at xs h ≡ Some f) same is);
  own = λ s f stores told free. absurd (none (sym untold ∙ told));
}
  where
    none : {f : Finalization} → ◌≡◌ {A = Option Finalization} None (Some f) → ⊥
    none is = cc

-- the finalization of block 1 is reported
abbrev pub reported : Event
reported = message_told None (report_finalization f1)

pub new_block : (x : At Block) → Contains n2.blocks.may x → Contains n1.blocks.may x ⊎ IsBlockFrom n1 reported x
new_block x (zero, lt, is) = inl (0, lit< tt, is)
new_block x (suc zero, lt, is) = inr (0, lit< tt, ap (λ y. y.value) is)
new_block x (suc (suc k), lt, is) = absurd (omega arith)

pub new_cert : (x : At Finalization) → Contains n2.certs.may x → Contains n1.certs.may x ⊎ IsCertFrom n1 reported x
new_cert x (zero, lt, is) = inr (0, lit< tt, ap (λ y. y.value) is)
new_cert x (suc k, lt, is) = absurd (omega arith)

pub new_certificates : (n : Node) → n.certs.held ≡ n2.certs.held → CertificatesFrom n1 reported n
new_certificates n same = record {
  entered = λ h f is. inr (0, lit< tt, found h f (subst (λ xs. value_at xs h ≡ Some f) same is));
  own = λ s f stores told free. inr (subst (λ xs. value_at xs s.height ≡ Some f) (sym same) (own s f stores told));
}
  where
    by : (b : Bool) (f : Finalization) → ◌≡◌ {A = Option Finalization} (if b then Some f1 else None) (Some f) → f1 ≡ f
    by true f is = cc
    by false f is = absurd cc

    found : (h : ℕ) (f : Finalization) → value_at n2.certs.held h ≡ Some f → f1 ≡ f
    found h f is = by _ f is

    own : (s : Storing) (f : Finalization) → storing_of n1 reported ≡ Some s → ◌≡◌ {A = Option Finalization} (Some f1) (Some f) → value_at n2.certs.held s.height ≡ Some f
    own s f stores told = subst (λ (k : ℕ). value_at n2.certs.held k ≡ Some f) (ap (λ t. t.height) (inside s stores)) told
      where
        inside : (t : Storing) → ◌≡◌ {A = Option Storing} (Some (record { height = 1; with_certificate = true })) (Some t) → ◌≡◌ {A = Storing} (record { height = 1; with_certificate = true }) t
        inside t is = cc

-- it is cached, synced there, and prunes nothing
abbrev pub caching : Node → Node
caching n = record n { cache = one_cached; lowest = 0; lowests = 0 ∷ []; cache_syncs = []; witnessed = n1.witnessed }

pub caches_report : (n : Node) → AdvancesCache config n1 reported no_floor (caching n)
caches_report n = record {
  kept = λ x there. inl there;
  nothing_else = λ x there. there;
  stays_sure = λ x sure held. absurd (none_in x sure);
  stays = λ x there. absurd (none_in x there);
  first_stays = λ r b first held. first;
  synced = λ x is held. held;
  finished = λ x there held. held;
  lowest = refl;
  lowests = λ k there. Contains-append_left (0 ∷ []) (0 ∷ []) k there;
  own_lowest = (0, lit< tt, refl);
  cache_syncs = record { still = []; still_open = tt; started = []; started_open = tt; are = refl };
  witnessed = refl;
}

-- what is cached is the chain's
pub cached_of : (chain : Chain) → Finalizes chain 1 r1 d1 → IsCacheOf chain one_cached
cached_of chain finalizes = record { finalizations = ((1, finalizes), ((1, finalizes), tt)); blocks = tt }
