-- A pass of repair from a scene whose stores are the chain's: what it stores, tells and asks is the chain's, and the law of repair
-- holds of what is held then.
use Rattle.std.proofs.Common.{◌≡◌, ◌⊎◌, inl, inr, ⊎_elim, ◌∷◌, [], List, ◌++◌, option_map, is_some, Contains, IsTrue, Option, None, Some, Bool, true, false, if◌then◌else◌, cond, ◌==◌, zero, suc, ℕ, ◌+◌, ◌-◌, ◌<◌, ◌≤◌, arith, refl, sym, ◌∙◌, ap, subst, append-nil, append_assoc}
use Rattle.std.specs.List.{AllByRecursion, filter_map}
use Rattle.std.proofs.lemmas.Bool.Decides.{nat_tests}
use Rattle.std.proofs.lemmas.List.Elements.{Contains-append_cases}
use Rattle.mar_types.specs.Epochs.{Epochs}
use Rattle.mar_cert.specs.Block.{Block}
use Rattle.mar_cert.specs.Finalization.{Finalization}
use Rattle.mar_key.specs.Keys.{Call}
use Rattle.mar_key.specs.Processed.{height_of}
use Rattle.mar_store.specs.Changes.{heights}
use Rattle.mar_store.specs.Kept.{At, has_height}
use Rattle.mar_store.proofs.Lookups.{AllByRecursion-append, AllByRecursion-value_at, AllByRecursion-weaker, Contains-from_value, has_height-from_contains, has_height-from_value, value-from_has_height}
use Rattle.mar_model.specs.Cached.{Cached, cached_block, cached_finalization}
use Rattle.mar_model.specs.Chain.{Chain, Finalizes, IsBlockAt, IsLawful}
use Rattle.mar_model.specs.Moves.{at_height}
use Rattle.mar_model.specs.Node.{AreBlocksOf, AreCachedOf, AreFinalizationsOf}
use Rattle.mar_model.specs.Promise.{AreOne}
use Rattle.mar_model.specs.Repair.{Search, alone_in, cached_for, certified_acts, fetch_asks, fill_acts, fills_acts, gap_acts, gap_asks, look_up, newest_acts, of_height, parent_fetch, payload_wanted, search_of, walk_start, with_fill, with_fills, with_found, with_newest_fill}
use Rattle.mar_model.specs.Requests.{IsRepairFetch, IsRepaired}
use Rattle.mar_model.specs.Stored.{is_held}
use Rattle.mar_model.specs.Acts.{Act, ask, says, store_block, stores}
use Rattle.mar_model.specs.Ran.{RunsActs, RunsPass}
use Rattle.mar_model.specs.Scene.{Scene}
use Rattle.mar_model.proofs.Acting.{IsPassAct}
use Rattle.mar_model.proofs.EntryLists.{contains_here, contains_more, contains_none}
use Rattle.mar_model.proofs.FillsOfChain.{AreNew, IsFill, cached_finalizes, fills-apart, fills-are, gap-honest, newest-found, with_fill-blocks}
use Rattle.mar_model.proofs.PassRan.{Row-ran, RowRan, TellsFinal, row_asks, row_blocks, row_certs, row_tells}
use Rattle.mar_model.proofs.Repairing.{IsAlone, alone-is, newest-is, pass-repaired}
use Rattle.mar_model.proofs.RepairWalk.{AreOwnHeights, fills-above, with_fill-has, with_fills-keeps}

-- WHAT A ROW COMES TO

-- A row that stores, of which these are filled in, and asks this: what it tells and puts is the chain's.
pub record RowOf (chain : Chain) (inner : List ℕ → List ℕ) (cached : List Cached) (acts : List Act) (fills bs : List Block) (asks : List Call) : Type 0 where
  pub blocks : row_blocks acts ≡ bs
  pub asks_are : row_asks acts ≡ asks
  pub passing : AllByRecursion IsPassAct acts
  pub final : AllByRecursion (TellsFinal chain) acts
  pub certs_final : AreFinalizationsOf chain (row_certs acts)
  pub certs_cached : (x : At Finalization) → Contains (row_certs acts) x → Contains (filter_map cached_finalization cached) x.value
  pub certs_told : (x : At Finalization) → Contains (row_certs acts) x → Contains (row_tells acts) x.height
  pub certs_at : (x : At Finalization) → Contains (row_certs acts) x → (b : Block) × Contains bs b × (b.height ≡ x.height)
  pub with_cached : (b : Block) (f : Finalization) → Contains fills b → cached_for inner cached b.commitment ≡ Some f → Contains (row_certs acts) (at_height b.height f)

first_or : {T : Type 0} (x y : T) (xs : List T) → Contains (x ∷ xs) y → (x ≡ y) ⊎ Contains xs y
first_or x y xs (zero, low, is) = inl is
first_or x y xs (suc k, low, is) = inr (k, omega arith, is)

module _ (epochs : Epochs) (chain : Chain) (lawful : IsLawful epochs chain) (s : Search) (known : List Block) (one : AreOne s.inner known) (chain_known : (b : Block) → Contains chain.blocks b → Contains known b)
    (beside_known : (b : Block) → Contains (s.buffer ++ filter_map cached_block s.cached) b → Contains known b) (finals : AreCachedOf chain s.cached) where
  abbrev Beside : List Block
  Beside = s.buffer ++ filter_map cached_block s.cached

  abbrev Row : List Act → List Block → List Block → List Call → Type 0
  Row acts fills bs asks = RowOf chain s.inner s.cached acts fills bs asks

  -- the last act asks
  Row-asks : (calls : List Call) → Row (says (ask calls) ∷ []) [] [] calls
  Row-asks calls = record {
    blocks = refl;
    asks_are = append-nil calls;
    passing = (tt, tt);
    final = (tt, tt);
    certs_final = tt;
    certs_cached = λ x has. contains_none x has;
    certs_told = λ x has. contains_none x has;
    certs_at = λ x has. contains_none x has;
    with_cached = λ b f has is. contains_none b has;
  }

  -- a block is filled in with its cached finalization
  Row-fill : (acts : List Act) (fills bs : List Block) (asks : List Call) (b : Block) → IsFill chain Beside b → Row acts fills bs asks → Row (fill_acts (cached_for s.inner s.cached b.commitment) b ++ acts) (b ∷ fills) (b ∷ bs) asks
  Row-fill acts fills bs asks b fill row = by (cached_for s.inner s.cached b.commitment) refl
    where
      none_for : ◌≡◌ {A = Option Finalization} (cached_for s.inner s.cached b.commitment) None → (c : Block) (f : Finalization) → Contains (b ∷ fills) c → cached_for s.inner s.cached c.commitment ≡ Some f → Contains fills c
      none_for none c f has is = ⊎_elim (λ same. absurd (let no : ◌≡◌ {A = Option Finalization} None (Some f) = sym none ∙ (ap (λ (d : Block). cached_for s.inner s.cached d.commitment) same ∙ is) in cc)) (λ rest. rest) (first_or b c fills has)

      at_one : (f g : Finalization) → ◌≡◌ {A = Option Finalization} (Some f) (Some g) → f ≡ g
      at_one f g is = cc

      by : (o : Option Finalization) → cached_for s.inner s.cached b.commitment ≡ o → Row (fill_acts o b ++ acts) (b ∷ fills) (b ∷ bs) asks
      by None none = record {
        blocks = ap (λ xs. b ∷ xs) row.blocks;
        asks_are = row.asks_are;
        passing = (tt, row.passing);
        final = (tt, row.final);
        certs_final = row.certs_final;
        certs_cached = row.certs_cached;
        certs_told = row.certs_told;
        certs_at = λ x has. let (c, there, is) = row.certs_at x has in (c, contains_more b bs c there, is);
        with_cached = λ c f has is. row.with_cached c f (none_for none c f has is) is;
      }
      by (Some f) some =
          let (finalizes, near) = cached_finalizes epochs chain lawful s known one chain_known beside_known finals b f fill.at some in
          record {
            blocks = ap (λ xs. b ∷ xs) row.blocks;
            asks_are = row.asks_are;
            passing = (tt, (tt, row.passing));
            final = (tt, ((finalizes.named, ap (λ o. option_map (λ c. c.digest) o) fill.at), row.final));
            certs_final = (finalizes, row.certs_final);
            certs_cached = λ x has. ⊎_elim (λ same. subst (λ (y : At Finalization). Contains (filter_map cached_finalization s.cached) y.value) same near) (λ rest. row.certs_cached x rest) (first_or (at_height b.height f) x (row_certs acts) has);
            certs_told = λ x has. ⊎_elim (λ same. subst (λ (y : At Finalization). Contains (b.height ∷ row_tells acts) y.height) same (contains_here b.height (row_tells acts))) (λ rest. contains_more b.height (row_tells acts) x.height (row.certs_told x rest)) (first_or (at_height b.height f) x (row_certs acts) has);
            certs_at = λ x has. ⊎_elim (λ same. (b, contains_here b bs, ap (λ (y : At Finalization). y.height) same)) (λ rest. let (c, there, is) = row.certs_at x rest in (c, contains_more b bs c there, is)) (first_or (at_height b.height f) x (row_certs acts) has);
            with_cached = λ c g has is. ⊎_elim (λ same. subst (λ (x : At Finalization). Contains (at_height b.height f ∷ row_certs acts) x) (same_at c g same is) (contains_here (at_height b.height f) (row_certs acts)))
                (λ rest. contains_more (at_height b.height f) (row_certs acts) (at_height c.height g) (row.with_cached c g rest is)) (first_or b c fills has);
          }
        where
          same_at : (c : Block) (g : Finalization) → b ≡ c → cached_for s.inner s.cached c.commitment ≡ Some g → at_height b.height f ≡ at_height c.height g
          same_at c g same is = ap (λ (d : Block). at_height d.height f) same ∙ ap (λ h. at_height c.height h) (at_one f g (sym some ∙ (ap (λ (d : Block). cached_for s.inner s.cached d.commitment) same ∙ is)))

  Row-fills : (fills : List Block) (acts : List Act) (asks : List Call) → AllByRecursion (IsFill chain Beside) fills → Row acts [] [] asks → Row (fills_acts s fills ++ acts) fills fills asks
  Row-fills [] acts asks are row = row
  Row-fills (b ∷ fills) acts asks are row = subst (λ xs. Row xs (b ∷ fills) (b ∷ fills) asks) (sym (append_assoc (fill_acts (cached_for s.inner s.cached b.commitment) b) (fills_acts s fills) acts))
      (Row-fill (fills_acts s fills ++ acts) fills fills asks b are.0 (Row-fills fills acts asks are.1 row))

  -- and before that the newest certificate's block is put alone, or asked for
  Row-put : (acts : List Act) (fills bs : List Block) (asks : List Call) (b : Block) → Row acts fills bs asks → Row (stores (store_block b) ∷ acts) fills (b ∷ bs) asks
  Row-put acts fills bs asks b row = record {
    blocks = ap (λ xs. b ∷ xs) row.blocks;
    asks_are = row.asks_are;
    passing = (tt, row.passing);
    final = (tt, row.final);
    certs_final = row.certs_final;
    certs_cached = row.certs_cached;
    certs_told = row.certs_told;
    certs_at = λ x has. let (c, there, is) = row.certs_at x has in (c, contains_more b bs c there, is);
    with_cached = row.with_cached;
  }

  Row-ask : (acts : List Act) (fills bs : List Block) (asks calls : List Call) → Row acts fills bs asks → Row (says (ask calls) ∷ acts) fills bs (calls ++ asks)
  Row-ask acts fills bs asks calls row = record {
    blocks = row.blocks;
    asks_are = ap (λ xs. calls ++ xs) row.asks_are;
    passing = (tt, row.passing);
    final = (tt, row.final);
    certs_final = row.certs_final;
    certs_cached = row.certs_cached;
    certs_told = row.certs_told;
    certs_at = row.certs_at;
    with_cached = row.with_cached;
  }

-- A PASS

-- What a pass has come to from a scene: what it put, and what it asked for.
pub record Passed (chain : Chain) (inner : List ℕ → List ℕ) (buffer : List Block) (u t : Scene) : Type 0 where
  pub blocks : List Block
  pub certs : List (At Finalization)
  pub tells : List ℕ
  pub asks : List Call
  pub ran : RowRan inner chain blocks certs tells asks u t
  pub fills : AllByRecursion (IsFill chain (buffer ++ filter_map cached_block u.held.cache.kept.held)) blocks
  pub new : AreNew u.held.blocks.held blocks
  pub above : AllByRecursion (λ b. height_of u.held.processed + 1 ≤ b.height) blocks
  pub of_blocks : AreBlocksOf chain t.held.blocks.held
  pub of_certs : AreFinalizationsOf chain certs
  pub certs_cached : (x : At Finalization) → Contains certs x → Contains (filter_map cached_finalization u.held.cache.kept.held) x.value
  pub certs_told : (x : At Finalization) → Contains certs x → Contains tells x.height
  pub certs_at : (x : At Finalization) → Contains certs x → (b : Block) × Contains blocks b × (b.height ≡ x.height)
  pub with_cached : (b : Block) (f : Finalization) → Contains blocks b → cached_for inner u.held.cache.kept.held b.commitment ≡ Some f → IsTrue (has_height u.held.certs.held b.height) ⊎ Contains certs (at_height b.height f)
  pub honest : AllByRecursion (IsRepairFetch chain) asks
  pub repaired : IsRepaired u.life.sizes.max_repair (look_up (search_of inner buffer u.held) t.held.blocks.held) (height_of u.held.processed) t.held.blocks.held t.held.certs.held asks

module _ (epochs : Epochs) (chain : Chain) (lawful : IsLawful epochs chain) (inner : List ℕ → List ℕ) (buffer : List Block) (u t : Scene) (known : List Block) (one : AreOne inner known) (chain_known : (b : Block) → Contains chain.blocks b → Contains known b)
    (beside_known : (b : Block) → Contains (buffer ++ filter_map cached_block u.held.cache.kept.held) b → Contains known b) (finals : AreCachedOf chain u.held.cache.kept.held)
    (blocks : AreBlocksOf chain u.held.blocks.held) (certs : AreFinalizationsOf chain u.held.certs.held) (pass : RunsPass inner buffer u t) where
  abbrev s : Search
  s = search_of inner buffer u.held

  abbrev held : List (At Block)
  held = u.held.blocks.held

  abbrev most : ℕ
  most = u.life.sizes.max_repair

  abbrev RowIs : List Act → List Block → List Block → List Call → Type 0
  RowIs acts fills bs asks = RowOf chain inner u.held.cache.kept.held acts fills bs asks

  -- with which it began
  record Begun : Type 0 where
    pub puts : List Block
    pub asks : List Call
    pub rows : (acts : List Act) (fills bs : List Block) (more : List Call) → RowIs acts fills bs more → RowIs (newest_acts s held (alone_in u.held) ++ acts) fills (puts ++ bs) (asks ++ more)
    pub asks_are : asks ≡ fetch_asks s held (payload_wanted (alone_in u.held))
    pub walk : walk_start inner buffer u.held ≡ with_fills held puts
    pub fills : AllByRecursion (IsFill chain (buffer ++ filter_map cached_block u.held.cache.kept.held)) puts
    pub new : AreNew held puts
    pub above : AllByRecursion (λ b. s.from ≤ b.height) puts
    pub of_blocks : AreBlocksOf chain (with_fills held puts)
    pub certified : (b : Block) → Contains puts b → IsTrue (has_height u.held.certs.held b.height)
    pub honest : AllByRecursion (IsRepairFetch chain) asks

  lone : (x : At Finalization) → alone_in u.held ≡ Some x → IsAlone inner buffer u.held.cache.kept.held u.held.processed held u.held.certs.held most pass.fills x
  lone x is = alone-is inner buffer u.held.cache.kept.held u.held.processed held u.held.certs.held most pass.fills x is

  newest_final : (x : At Finalization) → alone_in u.held ≡ Some x → Finalizes chain x.height x.value.round x.value.payload
  newest_final x is = AllByRecursion-value_at (λ y. Finalizes chain y.height y.value.round y.value.payload) u.held.certs.held x.height x.value certs (newest-is u.held.certs.held x (lone x is).is_newest).0

  newest_found : (x : At Finalization) (b : Block) → alone_in u.held ≡ Some x → look_up s held x.value.payload ≡ Some b
      → IsFill chain (buffer ++ filter_map cached_block u.held.cache.kept.held) b × (b.height ≡ x.height) × (is_held held b ≡ false)
  newest_found x b is found = newest-found epochs chain lawful s known one chain_known beside_known held blocks x (newest_final x is) (lone x is).above b found

  begun : Begun
  begun = by (alone_in u.held) refl
    where
      unput : (calls : List Call) → (walk : walk_start inner buffer u.held ≡ held) → calls ≡ fetch_asks s held (payload_wanted (alone_in u.held)) → AllByRecursion (IsRepairFetch chain) calls
          → ((acts : List Act) (fills bs : List Block) (more : List Call) → RowIs acts fills bs more → RowIs (newest_acts s held (alone_in u.held) ++ acts) fills bs (calls ++ more)) → Begun
      unput calls walk are honest rows = record {
        puts = [];
        asks = calls;
        rows = rows;
        asks_are = are;
        walk = walk;
        fills = tt;
        new = tt;
        above = tt;
        of_blocks = blocks;
        certified = λ b has. contains_none b has;
        honest = honest;
      }

      found : (x : At Finalization) → alone_in u.held ≡ Some x → (o : Option Block) → look_up s held x.value.payload ≡ o → Begun
      found x is None none = unput (parent_fetch (record { height = x.height; value = x.value.payload }) ∷ [])
          (ap (with_newest_fill s held) is ∙ ap (λ o. with_found held (of_height x.height o)) none)
          (sym (ap (λ o. fetch_asks s held (payload_wanted o)) is ∙ ap (λ o. if is_some o then [] else parent_fetch (record { height = x.height; value = x.value.payload }) ∷ []) none))
          ((refl, x.height, refl, (newest_final x is).payload_is), tt)
          (λ acts fills bs more row. subst (λ xs. RowIs (xs ++ acts) fills bs (parent_fetch (record { height = x.height; value = x.value.payload }) ∷ more)) (sym (ap (newest_acts s held) is ∙ ap (certified_acts x) none))
          (Row-ask epochs chain lawful s known one chain_known beside_known finals acts fills bs more (parent_fetch (record { height = x.height; value = x.value.payload }) ∷ []) row))
      found x is (Some b) there =
          let (fill, own, free) = newest_found x b is there in
          record {
            puts = b ∷ [];
            asks = [];
            rows = λ acts fills bs more row. subst (λ xs. RowIs (xs ++ acts) fills (b ∷ bs) more) (sym (ap (newest_acts s held) is ∙ (ap (certified_acts x) there ∙ tested (b.height == x.height) refl own)))
                (Row-put epochs chain lawful s known one chain_known beside_known finals acts fills bs more b row);
            asks_are = sym (ap (λ o. fetch_asks s held (payload_wanted o)) is ∙ ap (λ o. if is_some o then [] else parent_fetch (record { height = x.height; value = x.value.payload }) ∷ []) there);
            walk = ap (with_newest_fill s held) is ∙ (ap (λ o. with_found held (of_height x.height o)) there ∙ ap (with_found held) (of_own (b.height == x.height) refl own));
            fills = (fill, tt);
            new = (free, tt);
            above = ((let higher : height_of u.held.processed < x.height = (lone x is).unprocessed in omega (arith, own)), tt);
            of_blocks = with_fill-blocks epochs chain lawful s known one chain_known beside_known held b blocks fill.at;
            certified = λ c has. subst (λ k. IsTrue (has_height u.held.certs.held k)) (sym own ∙ ap (λ (d : Block). d.height) (only b c has)) (has_height-from_value u.held.certs.held x.height x.value (newest-is u.held.certs.held x (lone x is).is_newest).0);
            honest = tt;
          }
        where
          only : (c d : Block) → Contains (c ∷ []) d → c ≡ d
          only c d has = ⊎_elim (λ same. same) (λ none. contains_none d none) (first_or c d [] has)

          tested : (c : Bool) → (b.height == x.height) ≡ c → b.height ≡ x.height → cond c (stores (store_block b) ∷ []) [] ≡ stores (store_block b) ∷ []
          tested true test same = refl
          tested false test same = absurd (grind (arith, nat_tests))

          of_own : (c : Bool) → (b.height == x.height) ≡ c → b.height ≡ x.height → (if c then Some b else None) ≡ Some b
          of_own true test same = refl
          of_own false test same = absurd (grind (arith, nat_tests))

      by : (o : Option (At Finalization)) → alone_in u.held ≡ o → Begun
      by None is = unput [] (ap (with_newest_fill s held) is) (sym (ap (λ o. fetch_asks s held (payload_wanted o)) is)) tt
          (λ acts fills bs more row. subst (λ xs. RowIs (xs ++ acts) fills bs more) (sym (ap (newest_acts s held) is)) row)
      by (Some x) is = found x is (look_up s held x.value.payload) refl

  abbrev start : List (At Block)
  start = walk_start inner buffer u.held

  abbrev after : List (At Block)
  after = with_fills start pass.fills

  start_blocks : AreBlocksOf chain start
  start_blocks = subst (AreBlocksOf chain) (sym begun.walk) begun.of_blocks

  fills_facts : AllByRecursion (IsFill chain (buffer ++ filter_map cached_block u.held.cache.kept.held)) pass.fills × AreNew start pass.fills × AreBlocksOf chain after
  fills_facts = fills-are epochs chain lawful s known one chain_known beside_known start pass.fills start_blocks pass.are

  new_append : (xs : List (At Block)) (bs fills : List Block) → AreNew xs bs → AreNew (with_fills xs bs) fills → AreNew xs (bs ++ fills)
  new_append xs [] fills first second = second
  new_append xs (b ∷ bs) fills first second = (first.0, new_append (with_fill xs b) bs fills first.1 second)

  fills_then : (xs : List (At Block)) (bs fills : List Block) → with_fills xs (bs ++ fills) ≡ with_fills (with_fills xs bs) fills
  fills_then xs [] fills = refl
  fills_then xs (b ∷ bs) fills = fills_then (with_fill xs b) bs fills

  own_heights : (xs : List (At Block)) → AreBlocksOf chain xs → AreOwnHeights xs
  own_heights xs of_chain = AllByRecursion-weaker (λ y. IsBlockAt chain y.height y.value) (λ y. y.value.height ≡ y.height) (λ y at. lawful.heights y.height y.value at) xs of_chain

  row : RowIs (newest_acts s held (alone_in u.held) ++ (fills_acts s pass.fills ++ gap_acts s most after)) pass.fills (begun.puts ++ pass.fills) (begun.asks ++ gap_asks s most after)
  row = begun.rows (fills_acts s pass.fills ++ gap_acts s most after) pass.fills pass.fills (gap_asks s most after)
      (Row-fills epochs chain lawful s known one chain_known beside_known finals pass.fills (gap_acts s most after) (gap_asks s most after) fills_facts.0 (Row-asks epochs chain lawful s known one chain_known beside_known finals (gap_asks s most after)))

  -- WHAT IT COMES TO
  pub passed : Passed chain inner buffer u t
  passed = record {
    blocks = begun.puts ++ pass.fills;
    certs = row_certs acts;
    tells = row_tells acts;
    asks = begun.asks ++ gap_asks s most after;
    ran = ran;
    fills = AllByRecursion-append (IsFill chain (buffer ++ filter_map cached_block u.held.cache.kept.held)) begun.puts pass.fills begun.fills fills_facts.0;
    new = new_append held begun.puts pass.fills begun.new (subst (λ xs. AreNew xs pass.fills) begun.walk fills_facts.1);
    above = AllByRecursion-append (λ b. s.from ≤ b.height) begun.puts pass.fills begun.above (fills-above s start pass.fills (own_heights start start_blocks) pass.are);
    of_blocks = subst (AreBlocksOf chain) (sym held_then) fills_facts.2;
    of_certs = row.certs_final;
    certs_cached = row.certs_cached;
    certs_told = row.certs_told;
    certs_at = row.certs_at;
    with_cached = λ b f has is. ⊎_elim (λ first. inl (begun.certified b first)) (λ rest. inr (row.with_cached b f rest is)) (Contains-append_cases begun.puts pass.fills b has);
    honest = AllByRecursion-append (IsRepairFetch chain) begun.asks (gap_asks s most after) begun.honest (gap-honest epochs chain lawful s known one chain_known beside_known after fills_facts.2 most);
    repaired = subst (λ xs. IsRepaired most (look_up s xs) (height_of u.held.processed) xs t.held.certs.held (begun.asks ++ gap_asks s most after)) (sym held_then)
        (subst (λ xs. IsRepaired most (look_up s after) (height_of u.held.processed) after t.held.certs.held (xs ++ gap_asks s most after)) (sym begun.asks_are)
        (pass-repaired inner buffer u.held.cache.kept.held u.held.processed held u.held.certs.held most pass.fills (own_heights held blocks) pass.are pass.ends
        (λ b is. fills-apart epochs chain lawful s known one chain_known beside_known after fills_facts.2 b is) (λ x b is found. let facts = newest_found x b is found in (facts.1, facts.2)) t.held.certs.held ran.kept_certs come));
  }
    where
      acts : List Act
      acts = newest_acts s held (alone_in u.held) ++ (fills_acts s pass.fills ++ gap_acts s most after)

      ran : RowRan inner chain (begun.puts ++ pass.fills) (row_certs acts) (row_tells acts) (begun.asks ++ gap_asks s most after) u t
      ran = subst (λ xs. RowRan inner chain (begun.puts ++ pass.fills) (row_certs acts) (row_tells acts) xs u t) row.asks_are
          (subst (λ xs. RowRan inner chain xs (row_certs acts) (row_tells acts) (row_asks acts) u t) row.blocks
          (Row-ran inner chain acts u t row.passing row.final (subst (λ xs. RunsActs inner u xs t) (append_assoc (newest_acts s held (alone_in u.held)) (fills_acts s pass.fills) (gap_acts s most after)) pass.ran)))

      held_then : t.held.blocks.held ≡ after
      held_then = ran.blocks ∙ (fills_then held begun.puts pass.fills ∙ ap (λ xs. with_fills xs pass.fills) (sym begun.walk))

      each_has : (xs : List (At Block)) (bs : List Block) (b : Block) → AreNew xs bs → Contains bs b → IsTrue (has_height (with_fills xs bs) b.height)
      each_has xs [] b new has = contains_none b has
      each_has xs (c ∷ bs) b new has = ⊎_elim (λ same. subst (λ (d : Block). IsTrue (has_height (with_fills (with_fill xs c) bs) d.height)) same (with_fills-keeps (with_fill xs c) bs c.height (with_fill-has xs c new.0))) (λ there. each_has (with_fill xs c) bs b new.1 there)
          (first_or c b bs has)

      come : (h : ℕ) → IsTrue (has_height t.held.certs.held h) → IsTrue (has_height u.held.certs.held h) ⊎ IsTrue (has_height after h)
      come h has =
          let (v, is) = value-from_has_height t.held.certs.held h has in
          ⊎_elim (λ old. inl (has_height-from_contains u.held.certs.held (record { height = h; value = v }) old))
          (λ new. let (b, there, at) = row.certs_at (record { height = h; value = v }) new in
          inr (subst (λ k. IsTrue (has_height after k)) at (subst (λ xs. IsTrue (has_height xs b.height)) (fills_then held begun.puts pass.fills ∙ ap (λ xs. with_fills xs pass.fills) (sym begun.walk))
          (each_has held (begun.puts ++ pass.fills) b (new_append held begun.puts pass.fills begun.new (subst (λ xs. AreNew xs pass.fills) begun.walk fills_facts.1)) there))))
          (ran.certs_from (record { height = h; value = v }) (Contains-from_value t.held.certs.held h v is))
