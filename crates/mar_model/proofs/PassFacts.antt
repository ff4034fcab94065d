-- What a pass of repair over the chain leaves: the law by what is at hand then, and the certificates of what it stored.
use Rattle.std.proofs.Common.{◌≡◌, ⊎_elim, ◌∷◌, [], List, ◌++◌, option_and_then, option_map, is_some, slice_get, bytes_eq, filter, Contains, IsSome, IsTrue, Option, None, Some, Bool, true, false, if◌then◌else◌, zero, suc, ℕ, ◌<◌, arith, refl, sym, ◌∙◌, ap, subst}
use Rattle.std.proofs.lemmas.Bool.{or_left, or_right}
use Rattle.std.specs.List.{AllByRecursion, filter_map, list_any}
use Rattle.mar_types.specs.Epochs.{Epochs}
use Rattle.mar_types.specs.Round.{Round}
use Rattle.mar_cert.specs.Block.{Block}
use Rattle.mar_cert.specs.Finalization.{Finalization}
use Rattle.mar_key.specs.Processed.{height_of}
use Rattle.mar_store.specs.Kept.{At, has_height}
use Rattle.mar_store.proofs.Lookups.{AllByRecursion-contains, AllByRecursion-from_contains, has_height-from_contains, has_height-from_value, value-from_has_height}
use Rattle.mar_model.specs.AllEntries.{soonest}
use Rattle.mar_model.specs.Cached.{Cached, cached_block, cached_finalization, certified_entry, finalization_entry, notarization_entry, notarized_entry, verified_entry}
use Rattle.mar_model.specs.Chain.{Chain, Finalizes, IsBlockAt, IsLawful}
use Rattle.mar_model.specs.Config.{Config}
use Rattle.mar_model.specs.Entries.{is_for}
use Rattle.mar_model.specs.Event.{finalization_for, first_finalization}
use Rattle.mar_model.specs.Held.{Remembered}
use Rattle.mar_model.specs.Moves.{at_height, found_at_hand}
use Rattle.mar_model.specs.Node.{AreCachedOf, AreFinalizationsOf, IsFinalized, at_hand}
use Rattle.mar_model.specs.Promise.{AreOne, Waiting, known_blocks, node_of}
use Rattle.mar_model.specs.Repair.{cached_for, look_up, of_payload, search_of}
use Rattle.mar_model.specs.Requests.{IsRepaired}
use Rattle.mar_model.specs.Scene.{Scene}
use Rattle.mar_model.proofs.AtHand.{bytes_same}
use Rattle.mar_model.proofs.Filtered.{all_found_of}
use Rattle.mar_model.proofs.FillsOfChain.{IsFill}
use Rattle.mar_model.proofs.FoundBlocks.{Contains-slice_get, chain_known, found-is, same_bytes}
use Rattle.mar_model.proofs.Looking.{passes_found, some_found}
use Rattle.mar_model.proofs.SmallFound.{soonest_held}
use Rattle.mar_model.proofs.PassOfChain.{Passed}
use Rattle.mar_model.proofs.PassRan.{RowRan}
use Rattle.mar_model.proofs.PassReached.{IsRepaired-alike}
use Rattle.mar_model.proofs.SyncPromise.{at}

module _ {P E : Type 0} (life : Remembered P E) (config : Config) (chain : Chain) (epochs : Epochs) (lawful : IsLawful epochs chain) (inner : List ℕ → List ℕ) (buffer : List Block) (waiting : Waiting) (u t : Scene)
    (one : AreOne inner (known_blocks chain (node_of (at life t) buffer waiting))) (certs : AreFinalizationsOf chain u.held.certs.held) (finals : AreCachedOf chain u.held.cache.kept.held) (pass : Passed chain inner buffer u t) where
  abbrev ran : RowRan inner chain pass.blocks pass.certs pass.tells pass.asks u t
  ran = pass.ran

  known : (b : Block) → Contains chain.blocks b → Contains (known_blocks chain (node_of (at life t) buffer waiting)) b
  known b has = chain_known inner chain (at life t) buffer waiting b has

  pub certs_then : AreFinalizationsOf chain t.held.certs.held
  certs_then = AllByRecursion-from_contains (λ x. Finalizes chain x.height x.value.round x.value.payload) t.held.certs.held (λ x has.
      ⊎_elim (λ old. AllByRecursion-contains (λ y. Finalizes chain y.height y.value.round y.value.payload) u.held.certs.held x certs old) (λ new. AllByRecursion-contains (λ y. Finalizes chain y.height y.value.round y.value.payload) pass.certs x pass.of_certs new) (ran.certs_from x has))

  -- what is at hand is what the pass looked up
  look : (c : List ℕ) → look_up (search_of inner buffer u.held) t.held.blocks.held c ≡ at_hand (node_of (at life t) buffer waiting) c
  look c = ap (λ k. found_at_hand inner buffer k.kept.held t.held.blocks.held c) (sym (ap (λ h. h.cache) ran.same)) ∙ found-is inner chain (at life t) buffer waiting c one pass.of_blocks

  pub law : config.max_repair ≡ u.life.sizes.max_repair → IsRepaired config.max_repair (λ c. at_hand (node_of (at life t) buffer waiting) c) (height_of t.held.processed) t.held.blocks.held t.held.certs.held pass.asks
  law most = subst (λ m. IsRepaired m (λ c. at_hand (node_of (at life t) buffer waiting) c) (height_of t.held.processed) t.held.blocks.held t.held.certs.held pass.asks) (sym most)
      (subst (λ p. IsRepaired u.life.sizes.max_repair (λ c. at_hand (node_of (at life t) buffer waiting) c) (height_of p) t.held.blocks.held t.held.certs.held pass.asks) (sym (ap (λ h. h.processed) ran.same))
      (IsRepaired-alike u.life.sizes.max_repair (look_up (search_of inner buffer u.held) t.held.blocks.held) (λ c. at_hand (node_of (at life t) buffer waiting) c) look (height_of u.held.processed) t.held.blocks.held t.held.certs.held pass.asks pass.repaired))

  -- a finalization whose payload names the digest of the chain's block finalizes that
  same_payload : (k : ℕ) (r : Round) (payload : List ℕ) (b : Block) → IsBlockAt chain b.height b → Finalizes chain k r payload → inner payload ≡ inner b.commitment → (payload ≡ b.commitment) × (k ≡ b.height)
  same_payload k r payload b at_b final alike = by (slice_get chain.blocks k) refl final.payload_is
    where
      by : (o : Option Block) → slice_get chain.blocks k ≡ o → option_map (λ x. x.commitment) o ≡ Some payload → (payload ≡ b.commitment) × (k ≡ b.height)
      by None none is = absurd cc
      by (Some c) at_k is = (sym commits ∙ ap (λ (d : Block). d.commitment) same, sym (lawful.heights k c at_k) ∙ ap (λ (d : Block). d.height) same)
        where
          commits : c.commitment ≡ payload
          commits = inside is
            where
              inside : ◌≡◌ {A = Option (List ℕ)} (Some c.commitment) (Some payload) → c.commitment ≡ payload
              inside e = cc

          in_c : Contains (known_blocks chain (node_of (at life t) buffer waiting)) c
          in_c = known c (Contains-slice_get chain.blocks k c at_k)

          in_b : Contains (known_blocks chain (node_of (at life t) buffer waiting)) b
          in_b = known b (Contains-slice_get chain.blocks b.height b at_b)

          same : c ≡ b
          same = one.one c b in_c in_b (sym (one.names c in_c) ∙ (ap inner commits ∙ (alike ∙ one.names b in_b)))

  fill_at : (bs : List Block) → AllByRecursion (IsFill chain (buffer ++ filter_map cached_block u.held.cache.kept.held)) bs → (b : Block) → Contains bs b → IsBlockAt chain b.height b
  fill_at [] are b has = absurd (let low : has.0 < 0 = has.1 in omega arith)
  fill_at (c ∷ bs) are b (zero, low, same) = subst (λ (d : Block). IsBlockAt chain d.height d) same are.0.at
  fill_at (c ∷ bs) are b (suc k, low, same) = fill_at bs are.1 b (k, omega arith, same)

  -- of those that are cached one has that payload
  named_of : (b : Block) (ys : List Finalization) → IsSome (first_finalization (filter (λ g. bytes_eq g.payload b.commitment) ys)) → (g : Finalization) × Contains ys g × (g.payload ≡ b.commitment)
  named_of b [] none = absurd cc
  named_of b (y ∷ ys) some_y = tested (bytes_eq y.payload b.commitment) refl some_y (named_of b ys)
    where
      tested : (c : Bool) → bytes_eq y.payload b.commitment ≡ c → IsSome (first_finalization (if c then y ∷ filter (λ g. bytes_eq g.payload b.commitment) ys else filter (λ g. bytes_eq g.payload b.commitment) ys))
          → (IsSome (first_finalization (filter (λ g. bytes_eq g.payload b.commitment) ys)) → (g : Finalization) × Contains ys g × (g.payload ≡ b.commitment)) → (g : Finalization) × Contains (y ∷ ys) g × (g.payload ≡ b.commitment)
      tested true same some_first rest = (y, (zero, omega arith, refl), bytes_same y.payload b.commitment same)
      tested false other some_rest rest = let (g, has, is) = rest some_rest in (g, (suc has.0, (let low = has.1 in omega arith), has.2), is)

  any_for : (b : Block) (xs : List Cached) (g : Finalization) → Contains (filter_map cached_finalization xs) g → g.payload ≡ b.commitment → list_any (is_for inner (inner b.commitment)) xs ≡ true
  any_for b [] g has is = absurd (let low : has.0 < 0 = has.1 in omega arith)
  any_for b (finalization_entry f ∷ xs) g (zero, low, same) is = or_left (bytes_eq (inner f.payload) (inner b.commitment)) _ (same_bytes (inner f.payload) (inner b.commitment) (ap (λ (h : Finalization). inner h.payload) same ∙ ap inner is))
  any_for b (finalization_entry f ∷ xs) g (suc k, low, same) is = or_right (bytes_eq (inner f.payload) (inner b.commitment)) _ (any_for b xs g (k, omega arith, same) is)
  any_for b (verified_entry r c ∷ xs) g has is = any_for b xs g has is
  any_for b (notarized_entry r c ∷ xs) g has is = any_for b xs g has is
  any_for b (certified_entry k c ∷ xs) g has is = any_for b xs g has is
  any_for b (notarization_entry f ∷ xs) g has is = any_for b xs g has is

  -- where a finalization of its commitment is cached, a search finds it
  found_for : (xs : List Cached) (b : Block) → AreCachedOf chain xs → IsBlockAt chain b.height b → IsSome (first_finalization (filter (λ f. bytes_eq f.payload b.commitment) (filter_map cached_finalization xs))) → (g : Finalization) × (cached_for inner xs b.commitment ≡ Some g)
  found_for xs b all at_b some = by (soonest (is_for inner (inner b.commitment)) xs) refl
    where
      of_entry : (x : Cached) → soonest (is_for inner (inner b.commitment)) xs ≡ Some x → is_for inner (inner b.commitment) x ≡ true → (g : Finalization) × (of_payload b.commitment (cached_finalization x) ≡ Some g)
      of_entry (finalization_entry g) there passes = (g, ap (λ (c : Bool). if c then Some g else None) (same_bytes g.payload b.commitment (is_payload (all_found_of cached_finalization (λ f. IsFinalized chain f.round f.payload) xs (finalization_entry g) g all (soonest_held (is_for inner (inner b.commitment)) xs (finalization_entry g) there) refl))))
        where
          is_payload : IsFinalized chain g.round g.payload → g.payload ≡ b.commitment
          is_payload (h, final) = (same_payload h g.round g.payload b at_b final (bytes_same (inner g.payload) (inner b.commitment) passes)).0
      of_entry _ there passes = absurd (let bad : false ≡ true = passes in cc)

      by : (o : Option Cached) → soonest (is_for inner (inner b.commitment)) xs ≡ o → (g : Finalization) × (of_payload b.commitment (option_and_then cached_finalization o) ≡ Some g)
      by (Some x) there = of_entry x there (passes_found (is_for inner (inner b.commitment)) xs x (sym there))
      by None none =
          let (g, has, is) = named_of b (filter_map cached_finalization xs) some in
          absurd (let bad : false ≡ true = sym (ap is_some none) ∙ (some_found (is_for inner (inner b.commitment)) xs ∙ any_for b xs g has is) in cc)

  -- so it is stored with its block
  pub finalized : (b : Block) → Contains pass.blocks b → IsSome (finalization_for (node_of (at life t) buffer waiting) b) → IsTrue (has_height t.held.certs.held b.height)
  finalized b has some =
      let at_b = fill_at pass.blocks pass.fills b has in
      let (g, found) = found_for u.held.cache.kept.held b finals at_b (subst (λ k. IsSome (first_finalization (filter (λ f. bytes_eq f.payload b.commitment) (filter_map cached_finalization k.kept.held)))) (ap (λ h. h.cache) ran.same) some) in
      ⊎_elim (λ old. kept b.height old) (λ new. ⊎_elim (λ there. there) (λ (y, in_t, alike). placed b at_b y in_t (alike ∙ ap inner (payload_of b g found))) (ran.certs_placed (at_height b.height g) new)) (pass.with_cached b g has found)
    where
      kept : (h : ℕ) → IsTrue (has_height u.held.certs.held h) → IsTrue (has_height t.held.certs.held h)
      kept h there = let (v, is) = value-from_has_height u.held.certs.held h there in has_height-from_value t.held.certs.held h v (ran.kept_certs h v is)

      payload_of : (c : Block) (g : Finalization) → cached_for inner u.held.cache.kept.held c.commitment ≡ Some g → g.payload ≡ c.commitment
      payload_of c g found = by (option_and_then cached_finalization (soonest (is_for inner (inner c.commitment)) u.held.cache.kept.held)) found
        where
          by : (o : Option Finalization) → of_payload c.commitment o ≡ Some g → g.payload ≡ c.commitment
          by None is = absurd cc
          by (Some f) is = tested (bytes_eq f.payload c.commitment) refl is
            where
              inside : ◌≡◌ {A = Option Finalization} (Some f) (Some g) → f ≡ g
              inside e = cc

              tested : (m : Bool) → bytes_eq f.payload c.commitment ≡ m → (if m then Some f else None) ≡ Some g → g.payload ≡ c.commitment
              tested true same one_g = ap (λ (h : Finalization). h.payload) (sym (inside one_g)) ∙ bytes_same f.payload c.commitment same
              tested false other none = absurd cc

      placed : (c : Block) → IsBlockAt chain c.height c → (y : At Finalization) → Contains t.held.certs.held y → inner y.value.payload ≡ inner c.commitment → IsTrue (has_height t.held.certs.held c.height)
      placed c at_c y in_t alike =
          let final = AllByRecursion-contains (λ z. Finalizes chain z.height z.value.round z.value.payload) t.held.certs.held y certs_then in_t in
          subst (λ k. IsTrue (has_height t.held.certs.held k)) (same_payload y.height y.value.round y.value.payload c at_c final alike).1 (has_height-from_contains t.held.certs.held y in_t)
