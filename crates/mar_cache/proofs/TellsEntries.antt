-- Entries that are the same for the test are the same, and the other way round.
use Rattle.std.proofs.Common.{◌≡◌, ◌==◌, ◌&&◌, ℕ, List, Bool, true, false, refl, ap, ap₂, ◌∙◌}
use Rattle.std.specs.Prelude.{bytes_eq}
use Rattle.std.proofs.lemmas.Bool.{eq-eqb, eqb-true}
use Rattle.std.proofs.lemmas.Slice.Eq.{bytes_eq-Decides}
use Rattle.mar_types.specs.Round.{Round, round_eq}
use Rattle.mar_cert.specs.Block.{Block}
use Rattle.mar_cert.specs.Finalization.{Finalization}
use Rattle.mar_model.specs.Cached.{Cached, certified_entry, finalization_entry, notarization_entry, notarized_entry, verified_entry}
use Rattle.mar_model.proofs.EntryLists.{rounds_same}
use Rattle.mar_cache.specs.SameEntries.{same_block, same_entry, same_finalization}

and_both : (p q : Bool) → (p && q) ≡ true → (p ≡ true) × (q ≡ true)
and_both true q is = (refl, is)
and_both false q is = absurd cc

both : (p q : Bool) → p ≡ true → q ≡ true → (p && q) ≡ true
both true q is_p is_q = is_q
both false q is_p is_q = absurd cc

bytes_same : (xs ys : List ℕ) → bytes_eq xs ys ≡ true → xs ≡ ys
bytes_same xs ys is = (bytes_eq-Decides xs ys).0 is

bytes_refl : (xs : List ℕ) → bytes_eq xs xs ≡ true
bytes_refl xs = (bytes_eq-Decides xs xs).1 refl

round_refl : (s : Round) → round_eq s s ≡ true
round_refl s = both (s.epoch == s.epoch) (s.view == s.view) (eq-eqb s.epoch s.epoch refl) (eq-eqb s.view s.view refl)

blocks_same : (a b : Block) → same_block a b ≡ true → a ≡ b
blocks_same a b same =
    let p = and_both (bytes_eq a.digest b.digest) _ same in
    let q = and_both (bytes_eq a.commitment b.commitment) _ p.1 in
    let r = and_both (a.height == b.height) _ q.1 in
    let s = and_both (bytes_eq a.parent b.parent) _ r.1 in
    let t = and_both (bytes_eq a.parent_commitment b.parent_commitment) _ s.1 in
    ap {B = Block} (λ x. record a { digest = x }) (bytes_same a.digest b.digest p.0)
    ∙ ap {B = Block} (λ x. record a { digest = b.digest; commitment = x }) (bytes_same a.commitment b.commitment q.0)
    ∙ ap {B = Block} (λ x. record a { digest = b.digest; commitment = b.commitment; height = x }) (eqb-true a.height b.height r.0)
    ∙ ap {B = Block} (λ x. record b { parent = x; parent_commitment = a.parent_commitment; encoded = a.encoded }) (bytes_same a.parent b.parent s.0)
    ∙ ap {B = Block} (λ x. record b { parent_commitment = x; encoded = a.encoded }) (bytes_same a.parent_commitment b.parent_commitment t.0)
    ∙ ap {B = Block} (λ x. record b { encoded = x }) (bytes_same a.encoded b.encoded t.1)

block_refl : (a : Block) → same_block a a ≡ true
block_refl a = both (bytes_eq a.digest a.digest) _ (bytes_refl a.digest) (both (bytes_eq a.commitment a.commitment) _ (bytes_refl a.commitment) (both (a.height == a.height) _ (eq-eqb a.height a.height refl) (both (bytes_eq a.parent a.parent) _ (bytes_refl a.parent) (both (bytes_eq a.parent_commitment a.parent_commitment) _ (bytes_refl a.parent_commitment) (bytes_refl a.encoded)))))

finalizations_same : (f g : Finalization) → same_finalization f g ≡ true → f ≡ g
finalizations_same f g same =
    let p = and_both (round_eq f.round g.round) _ same in
    let q = and_both (f.parent == g.parent) _ p.1 in
    let r = and_both (bytes_eq f.payload g.payload) _ q.1 in
    ap {B = Finalization} (λ x. record f { round = x }) (rounds_same f.round g.round p.0)
    ∙ ap {B = Finalization} (λ x. record f { round = g.round; parent = x }) (eqb-true f.parent g.parent q.0)
    ∙ ap {B = Finalization} (λ x. record g { payload = x; certificate = f.certificate }) (bytes_same f.payload g.payload r.0)
    ∙ ap {B = Finalization} (λ x. record g { certificate = x }) (bytes_same f.certificate g.certificate r.1)

finalization_refl : (f : Finalization) → same_finalization f f ≡ true
finalization_refl f = both (round_eq f.round f.round) _ (round_refl f.round) (both (f.parent == f.parent) _ (eq-eqb f.parent f.parent refl) (both (bytes_eq f.payload f.payload) _ (bytes_refl f.payload) (bytes_refl f.certificate)))

pub entries_same : (x y : Cached) → same_entry x y ≡ true → x ≡ y
entries_same (finalization_entry f) (finalization_entry g) same = ap finalization_entry (finalizations_same f g same)
entries_same (notarization_entry f) (notarization_entry g) same = ap notarization_entry (finalizations_same f g same)
entries_same (notarized_entry r a) (notarized_entry s b) same = let p = and_both (round_eq r s) (same_block a b) same in ap₂ notarized_entry (rounds_same r s p.0) (blocks_same a b p.1)
entries_same (verified_entry r a) (verified_entry s b) same = let p = and_both (round_eq r s) (same_block a b) same in ap₂ verified_entry (rounds_same r s p.0) (blocks_same a b p.1)
entries_same (certified_entry e a) (certified_entry f b) same = let p = and_both (e == f) (same_block a b) same in ap₂ certified_entry (eqb-true e f p.0) (blocks_same a b p.1)
entries_same _ _ same = absurd cc

pub entry_refl : (x : Cached) → same_entry x x ≡ true
entry_refl (finalization_entry f) = finalization_refl f
entry_refl (notarization_entry f) = finalization_refl f
entry_refl (notarized_entry r a) = both (round_eq r r) (same_block a a) (round_refl r) (block_refl a)
entry_refl (verified_entry r a) = both (round_eq r r) (same_block a a) (round_refl r) (block_refl a)
entry_refl (certified_entry e a) = both (e == e) (same_block a a) (eq-eqb e e refl) (block_refl a)
