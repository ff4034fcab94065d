-- What a pass of repair fills in is the chain's: each block stands at its height there, comes from the buffer or the cache, and was
-- not held; its cached finalization finalizes it.
use Rattle.std.proofs.Common.{◌≡◌, ◌⊎◌, inl, inr, ⊎_elim, ◌∷◌, [], List, ◌++◌, option_and_then, option_map, is_some, slice_get, Contains, IsTrue, Option, None, Some, Bool, true, false, if◌then◌else◌, ◌||◌, bytes_eq, find, zero, suc, ℕ, ◌+◌, ◌-◌, ◌<◌, arith, refl, sym, ◌∙◌, ap, subst, map}
use Rattle.std.specs.Prelude.{⊤}
use Rattle.std.specs.List.{AllByRecursion, filter_map}
use Rattle.std.specs.Option.{option_or}
use Rattle.std.proofs.lemmas.List.Elements.{Contains-append_left, Contains-append_right}
use Rattle.std.proofs.lemmas.Option.{same_Some}
use Rattle.mar_types.specs.Epochs.{Epochs}
use Rattle.mar_cert.specs.Block.{Block}
use Rattle.mar_cert.specs.Finalization.{Finalization}
use Rattle.mar_store.specs.Changes.{heights}
use Rattle.mar_store.specs.Gaps.{BeginsNext, missing_items, next_start}
use Rattle.mar_store.specs.Kept.{At, has_height, value_at}
use Rattle.mar_store.specs.Ranges.{ranges}
use Rattle.mar_store.proofs.GapHeights.{start_some}
use Rattle.mar_store.proofs.Lookups.{AllByRecursion-append, AllByRecursion-contains, AllByRecursion-from_contains, AllByRecursion-value_at, Contains-from_value, has_height-from_contains, value-from_has_height}
use Rattle.mar_model.specs.AllEntries.{soonest}
use Rattle.mar_model.specs.Cached.{Cached, cached_block, cached_finalization}
use Rattle.mar_model.specs.Chain.{Chain, Finalizes, IsBlockAt, IsLawful, commitment_at}
use Rattle.mar_model.specs.Entries.{has_commitment, is_for}
use Rattle.mar_model.specs.Moves.{cached_by_commitment, of_commitment}
use Rattle.mar_model.specs.Node.{Agrees, AreBlocksOf, AreCachedOf, IsFinalized}
use Rattle.mar_model.specs.Promise.{AreOne}
use Rattle.mar_model.specs.Repair.{AreFills, Search, cached_for, fetch_asks, fill_of, gap_asks, height_fetch, look_up, of_payload, parent_fetch, parent_of, parent_wanted, with_fill, with_fills}
use Rattle.mar_model.specs.Requests.{IsRepairFetch}
use Rattle.mar_model.specs.Stored.{at_own_height, block_of, is_held, values_of}
use Rattle.mar_model.proofs.AtHand.{AllByRecursion-find, block_of_final, bytes_same, find-passes}
use Rattle.mar_model.proofs.Filtered.{all_found_of}
use Rattle.mar_model.proofs.FoundBlocks.{Contains-slice_get}
use Rattle.mar_model.proofs.KnownBlocks.{of_one_commitment}
use Rattle.mar_model.proofs.Newest.{contains_height, entry_of}
use Rattle.mar_model.proofs.RepairWalk.{Filled, fill_of-is, look_up-commitment}
use Rattle.mar_model.proofs.SmallFound.{soonest_held}

-- a block that is filled in
pub record IsFill (chain : Chain) (beside : List Block) (b : Block) : Type 0 where
  pub at : IsBlockAt chain b.height b
  pub from : Contains beside b

-- none of them was held as it was put
abbrev pub AreNew : List (At Block) → List Block → Type 0
AreNew held [] = ⊤
AreNew held (b ∷ fills) = (is_held held b ≡ false) × AreNew (with_fill held b) fills

pub itself : {T : Type 0} (xs : List T) → AllByRecursion (Contains xs) xs
itself xs = AllByRecursion-from_contains (Contains xs) xs (λ x has. has)

held_contains : (held : List (At Block)) (h : ℕ) → IsTrue (has_height held h) → Contains (heights held) h
held_contains held h has = let (v, is) = value-from_has_height held h has in contains_height held _ (Contains-from_value held h v is)

contains_held : (held : List (At Block)) (h : ℕ) → Contains (heights held) h → IsTrue (has_height held h)
contains_held held h there = let (x, has, at) = entry_of held h there in subst (λ k. IsTrue (has_height held k)) at (has_height-from_contains held x has)

never_both : (b : Bool) → b ≡ false → b ≡ true → ⊥
never_both b off on = let no : false ≡ true = sym off ∙ on in cc

-- what is at hand is beside the archive, or in it
pub look_up-from : (s : Search) (held : List (At Block)) (c : List ℕ) (b : Block) → look_up s held c ≡ Some b → Contains (s.buffer ++ filter_map cached_block s.cached) b ⊎ Contains (values_of held) b
look_up-from s held c b is = by (find (λ x. bytes_eq x.commitment c) s.buffer) refl (cached_by_commitment c s.cached) refl is
  where
    cached_in : (o : Option Cached) → soonest (λ x. has_commitment c (cached_block x)) s.cached ≡ o → option_and_then cached_block o ≡ Some b → Contains (filter_map cached_block s.cached) b
    cached_in None none one = absurd cc
    cached_in (Some x) some one = all_found_of cached_block (Contains (filter_map cached_block s.cached)) s.cached x b (itself (filter_map cached_block s.cached)) (soonest_held (λ y. has_commitment c (cached_block y)) s.cached x some) one

    of_stored : (o : Option Block) → block_of held (s.inner c) ≡ o → of_commitment c o ≡ Some b → Contains (values_of held) b
    of_stored None stored one = absurd cc
    of_stored (Some x) stored one = tested (bytes_eq x.commitment c) one
      where
        tested : (m : Bool) → (if m then Some x else None) ≡ Some b → Contains (values_of held) b
        tested true same = subst (Contains (values_of held)) (same_Some x b same) (AllByRecursion-find (Contains (values_of held)) (λ y. bytes_eq y.digest (s.inner c)) (values_of held) x (itself (values_of held)) stored)
        tested false none = absurd cc

    by : (o : Option Block) → find (λ x. bytes_eq x.commitment c) s.buffer ≡ o → (k : Option Block) → cached_by_commitment c s.cached ≡ k
        → option_or o (option_or k (of_commitment c (block_of held (s.inner c)))) ≡ Some b → Contains (s.buffer ++ filter_map cached_block s.cached) b ⊎ Contains (values_of held) b
    by (Some x) first k kept one = inl (Contains-append_left s.buffer (filter_map cached_block s.cached) b (subst (Contains s.buffer) (same_Some x b one) (AllByRecursion-find (Contains s.buffer) (λ y. bytes_eq y.commitment c) s.buffer x (itself s.buffer) first)))
    by None first (Some x) kept one = inl (Contains-append_right s.buffer (filter_map cached_block s.cached) b (subst (Contains (filter_map cached_block s.cached)) (same_Some x b one) (cached_in' x kept)))
      where
        cached_in' : (y : Block) → cached_by_commitment c s.cached ≡ Some y → Contains (filter_map cached_block s.cached) y
        cached_in' y found = of_entry (soonest (λ z. has_commitment c (cached_block z)) s.cached) refl found
          where
            of_entry : (q : Option Cached) → soonest (λ z. has_commitment c (cached_block z)) s.cached ≡ q → option_and_then cached_block q ≡ Some y → Contains (filter_map cached_block s.cached) y
            of_entry None none one_y = absurd cc
            of_entry (Some z) some one_y = all_found_of cached_block (Contains (filter_map cached_block s.cached)) s.cached z y (itself (filter_map cached_block s.cached)) (soonest_held (λ v. has_commitment c (cached_block v)) s.cached z some) one_y
    by None first None kept one = inr (of_stored (block_of held (s.inner c)) refl one)

module _ (epochs : Epochs) (chain : Chain) (lawful : IsLawful epochs chain) (s : Search) (known : List Block) (one : AreOne s.inner known) (chain_known : (b : Block) → Contains chain.blocks b → Contains known b)
    (beside_known : (b : Block) → Contains (s.buffer ++ filter_map cached_block s.cached) b → Contains known b) where
  abbrev beside : List Block
  beside = s.buffer ++ filter_map cached_block s.cached

  -- a known block of the commitment of the chain's block at a height is that block
  chain_one : (h : ℕ) (c b : Block) → IsBlockAt chain h c → Contains known b → c.commitment ≡ b.commitment → c ≡ b
  chain_one h c b at there same = of_one_commitment s.inner known one c b (chain_known c (Contains-slice_get chain.blocks h c at)) there same

  value_in : (held : List (At Block)) → AreBlocksOf chain held → (b : Block) → Contains (values_of held) b → (h : ℕ) × IsTrue (has_height held h) × IsBlockAt chain h b
  value_in [] blocks b (k, low, is) = absurd (omega arith)
  value_in (x ∷ held) blocks b (zero, low, is) = (x.height, has_height-from_contains (x ∷ held) x (zero, omega arith, refl), subst (IsBlockAt chain x.height) is blocks.0)
  value_in (x ∷ held) blocks b (suc k, low, is) =
      let (h, has, at) = value_in held blocks.1 b (k, omega arith, is) in
      (h, contains_held (x ∷ held) h (let there = held_contains held h has in (suc there.0, (let a = there.1 in omega arith), there.2)), at)

  -- what isn't held at its height, and is the chain's there, isn't held at all
  pub unheld_is : (held : List (At Block)) → AreBlocksOf chain held → (b : Block) → IsBlockAt chain b.height b → has_height held b.height ≡ false → is_held held b ≡ false
  unheld_is held blocks b at free = ap (λ c. c || is_some (block_of held b.digest)) free ∙ by (block_of held b.digest) refl
    where
      by : (o : Option Block) → block_of held b.digest ≡ o → is_some o ≡ false
      by None is = refl
      by (Some c) is =
          let (h, has, c_at) = value_in held blocks c (AllByRecursion-find (Contains (values_of held)) (λ y. bytes_eq y.digest b.digest) (values_of held) c (itself (values_of held)) is) in
          let same : c ≡ b = one.one c b (chain_known c (Contains-slice_get chain.blocks h c c_at)) (chain_known b (Contains-slice_get chain.blocks b.height b at)) (bytes_same c.digest b.digest (find-passes (λ y. bytes_eq y.digest b.digest) (values_of held) c is)) in
          let own : c.height ≡ h = lawful.heights h c c_at in
          absurd (never_both (has_height held b.height) free (subst (λ k. IsTrue (has_height held k)) (sym own ∙ ap (λ (y : Block). y.height) same) has))

  -- a block at hand that names a block of the chain at a height that isn't held
  pub found_is : (held : List (At Block)) → AreBlocksOf chain held → (h : ℕ) (c : List ℕ) (b : Block) → commitment_at chain h ≡ Some c → look_up s held c ≡ Some b → has_height held h ≡ false
      → IsBlockAt chain h b × Contains beside b
  found_is held blocks h c b named found free = by (slice_get chain.blocks h) refl named
    where
      commits : b.commitment ≡ c
      commits = look_up-commitment s held c b found

      there : Contains known b
      there = ⊎_elim (λ near. beside_known b near) (λ far. let (k, has, at) = value_in held blocks b far in chain_known b (Contains-slice_get chain.blocks k b at)) (look_up-from s held c b found)

      by : (o : Option Block) → slice_get chain.blocks h ≡ o → option_map (λ x. x.commitment) o ≡ Some c → IsBlockAt chain h b × Contains beside b
      by None none is = absurd cc
      by (Some x) at is = (at_h, ⊎_elim (λ near. near) (λ far. absurd (stored (value_in held blocks b far))) (look_up-from s held c b found))
        where
          x_commits : x.commitment ≡ c
          x_commits = inside_bytes is
            where
              inside_bytes : ◌≡◌ {A = Option (List ℕ)} (Some x.commitment) (Some c) → x.commitment ≡ c
              inside_bytes e = cc

          at_h : IsBlockAt chain h b
          at_h = subst (IsBlockAt chain h) (chain_one h x b at there (x_commits ∙ sym commits)) at

          stored : (k : ℕ) × IsTrue (has_height held k) × IsBlockAt chain k b → ⊥
          stored (k, has, b_at) = never_both (has_height held h) free (subst (λ j. IsTrue (has_height held j)) (sym (lawful.heights k b b_at) ∙ lawful.heights h b at_h) has)

  -- FILLS

  pub with_fill-blocks : (held : List (At Block)) (b : Block) → AreBlocksOf chain held → IsBlockAt chain b.height b → AreBlocksOf chain (with_fill held b)
  with_fill-blocks held b blocks at = by (is_held held b)
    where
      by : (c : Bool) → AreBlocksOf chain (if c then held else held ++ at_own_height b ∷ [])
      by true = blocks
      by false = AllByRecursion-append (λ x. IsBlockAt chain x.height x.value) held (at_own_height b ∷ []) blocks (at, tt)

  -- the parent that an upper end names is the chain's
  pub parent_named : (start : ℕ) (upper : Block) → 0 < start → IsBlockAt chain start upper → commitment_at chain (start - 1) ≡ Some upper.parent_commitment
  parent_named start upper above at = by (slice_get chain.blocks (start - 1)) refl
    where
      one_more : start - 1 + 1 ≡ start
      one_more = omega arith

      one_suc : suc (start - 1) ≡ start
      one_suc = omega arith

      lower : (xs : List Block) (i : ℕ) (u : Block) → slice_get xs (suc i) ≡ Some u → slice_get xs i ≡ None → ⊥
      lower [] i u some none = absurd cc
      lower (x ∷ xs) zero u some none = absurd cc
      lower (x ∷ xs) (suc i) u some none = lower xs i u some none

      by : (o : Option Block) → slice_get chain.blocks (start - 1) ≡ o → option_map (λ x. x.commitment) o ≡ Some upper.parent_commitment
      by None none = absurd (lower chain.blocks (start - 1) upper (subst (λ k. slice_get chain.blocks k ≡ Some upper) (sym one_suc) at) none)
      by (Some p) some = ap Some (sym (lawful.parent_commitments (start - 1) p upper some (subst (λ k. IsBlockAt chain k upper) (sym one_more) at)))

  -- what is filled in next
  fill_is : (held : List (At Block)) → AreBlocksOf chain held → (b : Block) → fill_of s held ≡ Some b → IsFill chain beside b × (is_held held b ≡ false)
  fill_is held blocks b is = (record { at = at_own; from = near }, unheld_is held blocks b at_own (subst (λ k. has_height held k ≡ false) (sym own_height) free))
    where
      filled : Filled s held b
      filled = fill_of-is s held b is

      begins : BeginsNext (heights held) s.from filled.start
      begins = start_some (heights held) s.from filled.start filled.next

      upper_at : IsBlockAt chain filled.start filled.upper
      upper_at = AllByRecursion-value_at (λ x. IsBlockAt chain x.height x.value) held filled.start filled.upper blocks filled.at

      upper_height : filled.upper.height ≡ filled.start
      upper_height = lawful.heights filled.start filled.upper upper_at

      below : ℕ
      below = filled.start - 1

      own_height : b.height ≡ below
      own_height = filled.height ∙ ap (λ k. k - 1) upper_height

      free : has_height held below ≡ false
      free = unheld (has_height held below) refl
        where
          unheld : (c : Bool) → has_height held below ≡ c → c ≡ false
          unheld true has = absurd (begins.begins (held_contains held below has))
          unheld false has = refl

      named : commitment_at chain below ≡ Some filled.upper.parent_commitment
      named = parent_named filled.start filled.upper (let above : s.from < filled.start = begins.above in omega arith) upper_at

      found : IsBlockAt chain below b × Contains beside b
      found = found_is held blocks below filled.upper.parent_commitment b named filled.found free

      at_own : IsBlockAt chain b.height b
      at_own = subst (λ k. IsBlockAt chain k b) (sym own_height) found.0

      near : Contains beside b
      near = found.1

  pub fills-are : (held : List (At Block)) (fills : List Block) → AreBlocksOf chain held → AreFills s held fills → AllByRecursion (IsFill chain beside) fills × AreNew held fills × AreBlocksOf chain (with_fills held fills)
  fills-are held [] blocks are = (tt, tt, blocks)
  fills-are held (b ∷ fills) blocks are =
      let (fill, free) = fill_is held blocks b are.0 in
      let (others, new, after) = fills-are (with_fill held b) fills (with_fill-blocks held b blocks fill.at) are.1 in
      ((fill, others), (free, new), after)

  -- none is wanted that is at hand and held
  pub fills-apart : (held : List (At Block)) → AreBlocksOf chain held → (b : Block) → fill_of s held ≡ Some b → is_held held b ≡ false
  fills-apart held blocks b is = (fill_is held blocks b is).1

  -- WHAT IT ASKS FOR AT THE END

  pub gap-honest : (after : List (At Block)) → AreBlocksOf chain after → (most : ℕ) → AllByRecursion (IsRepairFetch chain) (gap_asks s most after)
  gap-honest after blocks most =
      AllByRecursion-append (IsRepairFetch chain) (fetch_asks s after (parent_wanted s.from after)) _ (parents (next_start (ranges (heights after)) s.from) refl) (each (missing_items (ranges (heights after)) s.from most))
    where
      each : (hs : List ℕ) → AllByRecursion (IsRepairFetch chain) (map height_fetch hs)
      each [] = tt
      each (h ∷ hs) = ((refl, refl), each hs)

      of_upper : (k : ℕ) (b : Block) → next_start (ranges (heights after)) s.from ≡ Some k → value_at after k ≡ Some b → (o : Option Block) → AllByRecursion (IsRepairFetch chain) (if is_some o then [] else parent_fetch (parent_of b) ∷ [])
      of_upper k b is at (Some p) = tt
      of_upper k b is at None =
          let there : IsBlockAt chain k b = AllByRecursion-value_at (λ y. IsBlockAt chain y.height y.value) after k b blocks at in
          let begins = start_some (heights after) s.from k is in
          let above : s.from < k = begins.above in
          ((refl, b.height - 1, refl, subst (λ j. commitment_at chain (j - 1) ≡ Some b.parent_commitment) (sym (lawful.heights k b there)) (parent_named k b (omega arith) there)), tt)

      at_start : (k : ℕ) → next_start (ranges (heights after)) s.from ≡ Some k → (o : Option Block) → value_at after k ≡ o → AllByRecursion (IsRepairFetch chain) (fetch_asks s after (option_map parent_of o))
      at_start k is None at = tt
      at_start k is (Some b) at = of_upper k b is at (look_up s after b.parent_commitment)

      parents : (o : Option ℕ) → next_start (ranges (heights after)) s.from ≡ o → AllByRecursion (IsRepairFetch chain) (fetch_asks s after (option_map parent_of (option_and_then (value_at after) o)))
      parents None is = tt
      parents (Some k) is = at_start k is (value_at after k) refl

  -- THE NEWEST CERTIFICATE'S BLOCK

  -- the block at hand that the newest certificate names, where it is above all that are held
  pub newest-found : (held : List (At Block)) → AreBlocksOf chain held → (x : At Finalization) → Finalizes chain x.height x.value.round x.value.payload → ((k : ℕ) → IsTrue (has_height held k) → k < x.height)
      → (b : Block) → look_up s held x.value.payload ≡ Some b → IsFill chain beside b × (b.height ≡ x.height) × (is_held held b ≡ false)
  newest-found held blocks x final above b found = (record { at = at_own; from = is.1 }, own, unheld_is held blocks b at_own (subst (λ k. has_height held k ≡ false) (sym own) free))
    where
      free : has_height held x.height ≡ false
      free = by (has_height held x.height) refl
        where
          by : (c : Bool) → has_height held x.height ≡ c → c ≡ false
          by true has = absurd (let low : x.height < x.height = above x.height has in omega arith)
          by false has = refl

      is : IsBlockAt chain x.height b × Contains beside b
      is = found_is held blocks x.height x.value.payload b final.payload_is found free

      own : b.height ≡ x.height
      own = lawful.heights x.height b is.0

      at_own : IsBlockAt chain b.height b
      at_own = subst (λ k. IsBlockAt chain k b) (sym own) is.0

  -- CERTIFICATES

  module _ (finals : AreCachedOf chain s.cached) where
    -- the cached finalization of a block of the chain finalizes it
    pub cached_finalizes : (b : Block) (f : Finalization) → IsBlockAt chain b.height b → cached_for s.inner s.cached b.commitment ≡ Some f → Finalizes chain b.height f.round f.payload × Contains (filter_map cached_finalization s.cached) f
    cached_finalizes b f at is = by (soonest (is_for s.inner (s.inner b.commitment)) s.cached) refl is
      where
        is_f : (g : Finalization) → ◌≡◌ {A = Option Finalization} (Some g) (Some f) → g ≡ f
        is_f g e = cc

        final_at : (g : Finalization) → IsFinalized chain g.round g.payload → g.payload ≡ b.commitment → Finalizes chain b.height g.round g.payload
        final_at g (h, final) same = subst (λ k. Finalizes chain k g.round g.payload) (sym (found.1)) final
          where
            agrees : Agrees chain b
            agrees k c c_at commits = chain_one k c b c_at (chain_known b (Contains-slice_get chain.blocks b.height b at)) commits

            found : IsBlockAt chain h b × (b.height ≡ h)
            found = block_of_final epochs chain lawful h g.round b (subst (Finalizes chain h g.round) same final) agrees

        of_finalization : (o : Option Finalization) → ((g : Finalization) → o ≡ Some g → Contains (filter_map cached_finalization s.cached) g) → of_payload b.commitment o ≡ Some f
            → Finalizes chain b.height f.round f.payload × Contains (filter_map cached_finalization s.cached) f
        of_finalization None there one_f = absurd cc
        of_finalization (Some g) there one_f = tested (bytes_eq g.payload b.commitment) refl one_f
          where
            tested : (m : Bool) → bytes_eq g.payload b.commitment ≡ m → (if m then Some g else None) ≡ Some f → Finalizes chain b.height f.round f.payload × Contains (filter_map cached_finalization s.cached) f
            tested true same some = subst (λ (k : Finalization). Finalizes chain b.height k.round k.payload × Contains (filter_map cached_finalization s.cached) k) (is_f g some)
                (final_at g (AllByRecursion-contains (λ (k : Finalization). IsFinalized chain k.round k.payload) (filter_map cached_finalization s.cached) g finals (there g refl)) (bytes_same g.payload b.commitment same), there g refl)
            tested false other none = absurd cc

        by : (o : Option Cached) → soonest (is_for s.inner (s.inner b.commitment)) s.cached ≡ o → of_payload b.commitment (option_and_then cached_finalization o) ≡ Some f
            → Finalizes chain b.height f.round f.payload × Contains (filter_map cached_finalization s.cached) f
        by None none one_f = absurd cc
        by (Some x) some one_f = of_finalization (cached_finalization x) (λ g is_g. all_found_of cached_finalization (Contains (filter_map cached_finalization s.cached)) s.cached x g (itself (filter_map cached_finalization s.cached)) (soonest_held (is_for s.inner (s.inner b.commitment)) s.cached x some) is_g) one_f
