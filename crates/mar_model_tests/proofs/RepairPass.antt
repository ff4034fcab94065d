-- A repair pass: blocks 0 and 3 are held, 1 and 2 are missing.
use Rattle.std.proofs.Common.{◌≡◌, ℕ, ◌-◌, ◌==◌, ◌≤◌, Bool, true, false, if◌then◌else◌, List, [], ◌∷◌, replicate, Option, Some, None, is_some, refl, sym, ap, subst, IsTrue, IsFalse, length, AllPairs, ◌≢◌, ◌<◌, ◌⊎◌, inl, inr, lit<, lit≤, arith}
use Rattle.mar_cert.specs.Block.{Block}
use Rattle.mar_cert.specs.Finalization.{Finalization}
use Rattle.mar_store.specs.Kept.{has_height, value_at, reopened_store}
use Rattle.mar_key.specs.Keys.{block_key, finalized_key, finalized_by_height, Call, fetch}
use Rattle.mar_model.specs.Node.{Node}
use Rattle.mar_model.specs.Requests.{IsRepairAsk, IsGap, AsksHeight, AsksParent, Repaired}
use Rattle.std.specs.List.{AllByRecursion}
use Rattle.mar_model_tests.proofs.SmallChain.{config, b0}
use Rattle.mar_model_tests.proofs.DeliveryRun.{begun}

abbrev d2 : List ℕ
d2 = replicate 32 162

abbrev b3 : Block
b3 = record { digest = replicate 32 163; commitment = replicate 32 163; height = 3; parent = d2; parent_commitment = d2; encoded = 3 ∷ [] }

abbrev pub gapped : Node
gapped = record begun {
  blocks = reopened_store (record { height = 0; value = b0 } ∷ record { height = 3; value = b3 } ∷ []);
  certs = reopened_store (record { height = 3; value = record { round = record { epoch = 0; view = 3 }; parent = 2; payload = replicate 32 163; certificate = [] } } ∷ []);
}

abbrev asks : List Call
asks = fetch (block_key d2) (finalized_by_height 2) None ∷ fetch (finalized_key 1) (finalized_by_height 1) None ∷ fetch (finalized_key 2) (finalized_by_height 2) None ∷ []

eq_of : (a b : ℕ) → (a == b) ≡ true → a ≡ b
eq_of a b e = grind arith

-- the held heights
held_at : (k : ℕ) → IsTrue (has_height gapped.blocks.held k) → (k ≡ 0) ⊎ (k ≡ 3)
held_at k = by (0 == k) (3 == k) refl refl
  where
    by : (a c : Bool) → (0 == k) ≡ a → (3 == k) ≡ c → IsTrue (is_some (if a then Some b0 else if c then Some b3 else None)) → (k ≡ 0) ⊎ (k ≡ 3)
    by true c p q held = inl (sym (eq_of 0 k p))
    by false true p q held = inr (sym (eq_of 3 k q))
    by false false p q held = absurd cc

-- the missing heights
pub gap_at : (h : ℕ) → IsGap gapped 1 h → (h ≡ 1) ⊎ (h ≡ 2)
gap_at h (above, missing, k, below, held) = by (held_at k held)
  where
    by : (k ≡ 0) ⊎ (k ≡ 3) → (h ≡ 1) ⊎ (h ≡ 2)
    by (inl p) = absurd (omega arith)
    by (inr p) = grind arith

at_three : (b : Block) → (b.height ≡ 0) ⊎ (b.height ≡ 3) → 1 ≤ b.height - 1 → value_at gapped.blocks.held b.height ≡ Some b → b ≡ b3
at_three b (inl p) above is = absurd (omega arith)
at_three b (inr p) above is = same (subst (λ h. value_at gapped.blocks.held h ≡ Some b) p is)
  where
    same : ◌≡◌ {A = Option Block} (Some b3) (Some b) → b ≡ b3
    same e = cc

gap : (h : ℕ) → 1 ≤ h → has_height gapped.blocks.held h ≡ false → h < 3 → IsGap gapped 1 h
gap h above missing below = (above, missing, 3, below, refl)

low1 : (below : List ℕ) → AllPairs (λ j k. j ≢ k) below → AllByRecursion (λ k. IsGap gapped 1 k × (k < 1)) below → length below < config.max_repair
low1 [] apart lower = lit< tt
low1 (k ∷ below) apart lower = absurd (omega (arith, (lower.0).1, ((lower.0).0).0))

low2 : (below : List ℕ) → AllPairs (λ j k. j ≢ k) below → AllByRecursion (λ k. IsGap gapped 1 k × (k < 2)) below → length below < config.max_repair
low2 [] apart lower = lit< tt
low2 (k ∷ []) apart lower = lit< tt
low2 (j ∷ k ∷ below) apart lower = absurd (apart 0 1 0 (lit< tt) (omega arith) (one j k (lower.0).1 ((lower.0).0).0 ((lower.1).0).1 (((lower.1).0).0).0))
  where
    one : (j k : ℕ) → j < 2 → 1 ≤ j → k < 2 → 1 ≤ k → j ≡ k
    one j k a b c d = omega arith

none_at : (k : ℕ) → 1 < k → k < 3 → has_height gapped.blocks.held k ≡ false
none_at k above below = subst (λ j. has_height gapped.blocks.held j ≡ false) (two k above below) refl
  where
    two : (k : ℕ) → 1 < k → k < 3 → 2 ≡ k
    two k a b = omega arith

asks_parent : IsRepairAsk config gapped (fetch (block_key d2) (finalized_by_height 2) None)
asks_parent = (refl, 2, refl, (refl, inl (b3, (gap 2 (lit≤ tt) refl (lit< tt), refl, clear), refl, refl)))
  where
    clear : (h k : ℕ) → IsGap gapped 1 h → h < k → k < 3 → IsFalse (has_height gapped.blocks.held k)
    clear h k g above below = none_at k (omega (arith, g.0, above)) below

repaired_gap : Repaired config gapped asks
repaired_gap = record {
  heights = λ h below gap lower few. asked h (gap_at h gap);
  at_most = lit≤ tt;
  only = (asks_parent, ((refl, refl, (gap 1 (lit≤ tt) refl (lit< tt), low1)), ((refl, refl, (gap 2 (lit≤ tt) refl (lit< tt), low2)), tt)));
  parent = λ b end. subst (λ c. AsksParent gapped asks c) (sym (at_three b (held_at b.height (ap is_some end.1)) (end.0).0 end.1)) (inl (refl, (0, lit< tt, refl)));
  newest_block = λ h f is above top free. inl (subst (λ k. IsTrue (has_height gapped.blocks.held k)) (sym (cert_at h (ap is_some is))) refl);
}
  where
    asked : (h : ℕ) → (h ≡ 1) ⊎ (h ≡ 2) → AsksHeight asks h
    asked h (inl p) = subst (λ k. AsksHeight asks k) (sym p) (1, lit< tt, refl)
    asked h (inr p) = subst (λ k. AsksHeight asks k) (sym p) (2, lit< tt, refl)

    cert_at : (h : ℕ) → IsTrue (has_height gapped.certs.held h) → h ≡ 3
    cert_at h = by (3 == h) refl
      where
        by : (c : Bool) → (3 == h) ≡ c → IsTrue (is_some {T = Finalization} (if c then Some (record { round = record { epoch = 0; view = 3 }; parent = 2; payload = replicate 32 163; certificate = [] }) else None)) → h ≡ 3
        by true p held = sym (eq_of 3 h p)
        by false p held = absurd cc
