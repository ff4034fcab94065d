-- What the acts of a pass of repair own of their event, where each fills in a block of the chain that was at hand.
use Rattle.std.proofs.Common.{◌≡◌, ◌∷◌, [], List, ◌++◌, ℕ, Some, refl, sym, ◌∙◌, ap, append_assoc, ◌⊎◌, inl, inr, ⊎_elim, option_map, Contains, Option, None, Bool, true, false, if◌then◌else◌, cond, ◌==◌, ◌-◌, arith, subst}
use Rattle.std.proofs.lemmas.List.Elements.{Contains-append_cases, Contains-append_left, Contains-append_right}
use Rattle.std.specs.List.{AllByRecursion, filter_map}
use Rattle.mar_types.specs.Epochs.{Epochs}
use Rattle.mar_cert.specs.Block.{Block}
use Rattle.mar_cert.specs.Finalization.{Finalization}
use Rattle.mar_key.specs.Cutoff.{Cutoff}
use Rattle.mar_key.specs.Keys.{Call}
use Rattle.mar_store.specs.Changes.{Within}
use Rattle.mar_store.specs.Kept.{At}
use Rattle.mar_store.proofs.Lookups.{AllByRecursion-append, AllByRecursion-contains, AllByRecursion-from_contains, AllByRecursion-value_at}
use Rattle.mar_model.specs.Acts.{Act, ask, says, store, store_block, stores, tell, written_stored}
use Rattle.mar_model.specs.Cached.{cached_block, cached_finalization}
use Rattle.mar_model.specs.Chain.{Chain, Finalizes, IsBlockAt, IsFinal, IsLawful, digest_at}
use Rattle.mar_model.specs.Config.{Config}
use Rattle.mar_model.specs.Event.{Event}
use Rattle.mar_model.specs.Held.{Held, Written}
use Rattle.mar_model.specs.Metadata.{Pair}
use Rattle.mar_model.specs.Moves.{at_height}
use Rattle.mar_model.specs.Node.{AreBlocksOf, AreCachedOf, AreFinalizationsOf, Node}
use Rattle.mar_model.specs.Promise.{AreOne}
use Rattle.mar_model.specs.Ran.{Task}
use Rattle.mar_model.specs.Repair.{EndsFills, Search, alone_in, cached_for, certified_acts, fill_acts, fills_acts, front_acts, gap_acts, look_up, newest_acts, of_height, search_of, walk_start, with_fills, with_found, with_newest_fill}
use Rattle.mar_model.specs.Requests.{IsRepairFetch}
use Rattle.mar_model.specs.Scene.{Scene}
use Rattle.mar_model.specs.Step.{IsBlockFrom, IsCertFrom}
use Rattle.mar_model.specs.Stored.{at_own_height}
use Rattle.mar_model.proofs.Acting.{IsPass, as_tasks}
use Rattle.mar_model.proofs.FillsOfChain.{AreNew, IsFill, cached_finalizes, fills-are, gap-honest, newest-found, with_fill-blocks}
use Rattle.mar_model.proofs.Filtered.{all_found_within}
use Rattle.mar_model.proofs.Growing.{WithinWritten-nothing}
use Rattle.mar_model.proofs.Owns.{Course, Owns, answers_in, asks_in, sends_in, written_in}
use Rattle.mar_model.proofs.Repairing.{IsAlone, alone-is, newest-is}

-- Such an act stores a block of the chain that is the event's or was at hand, with a finalization of it that is the event's or was
-- cached, tells its tip, or asks for what a pass of repair may ask for.
abbrev pub IsOwnFill : Chain → Node → Event → Act → Type 0
IsOwnFill chain n e (stores (store f b)) = IsBlockAt chain b.height b × Finalizes chain b.height f.round f.payload × IsBlockFrom n e (at_own_height b) × IsCertFrom n e (at_height b.height f)
IsOwnFill chain n e (stores (store_block b)) = IsBlockAt chain b.height b × IsBlockFrom n e (at_own_height b)
IsOwnFill chain n e (says (tell r h d)) = IsFinal chain r h × (digest_at chain h ≡ Some d)
IsOwnFill chain n e (says (ask calls)) = AllByRecursion (IsRepairFetch chain) calls
IsOwnFill chain n e _ = ⊥

-- the blocks and finalizations that they put
abbrev pub filled_blocks : List Act → List (At Block)
filled_blocks [] = []
filled_blocks (stores a ∷ acts) = (written_stored a).blocks ++ filled_blocks acts
filled_blocks (a ∷ acts) = filled_blocks acts

abbrev pub filled_certs : List Act → List (At Finalization)
filled_certs [] = []
filled_certs (stores a ∷ acts) = (written_stored a).certs ++ filled_certs acts
filled_certs (a ∷ acts) = filled_certs acts

module _ (config : Config) (chain : Chain) (n : Node) (e : Event) where
  -- What they put is the chain's and the event's own, what they ask is what a pass asks for, and they are no burden on what stands
  -- behind them.
  pub record OwnsFills (acts : List Act) : Type 0 where
    pub blocks : AreBlocksOf chain (filled_blocks acts)
    pub certs : AreFinalizationsOf chain (filled_certs acts)
    pub own_blocks : AllByRecursion (IsBlockFrom n e) (filled_blocks acts)
    pub own_certs : AllByRecursion (IsCertFrom n e) (filled_certs acts)
    pub calls : List Call
    pub repair_calls : AllByRecursion (IsRepairFetch chain) calls
    pub asks : (c : Cutoff) (rest : List Task) → asks_in c (as_tasks acts ++ rest) ≡ calls ++ asks_in c rest
    pub sends : (rest : List Task) → sends_in (as_tasks acts ++ rest) ≡ sends_in rest
    pub answers : (h : Held) (rest : List Task) → answers_in h (as_tasks acts ++ rest) ≡ answers_in h rest
    pub owns : (all : Written) (retention : ℕ) (own : Pair) (c : Course) (rest : List Task) → Within (filled_blocks acts) all.blocks → Within (filled_certs acts) all.certs
        → Owns config chain n e all retention own (written_in c) rest → Owns config chain n e all retention own (written_in c) (as_tasks acts ++ rest)

  OwnsFills-none : OwnsFills []
  OwnsFills-none = record {
    blocks = tt;
    certs = tt;
    own_blocks = tt;
    own_certs = tt;
    calls = [];
    repair_calls = tt;
    asks = λ c rest. refl;
    sends = λ rest. refl;
    answers = λ h rest. refl;
    owns = λ all retention own c rest blocks certs owns. owns;
  }

  OwnsFills-more : (a : Act) (acts : List Act) → IsOwnFill chain n e a → OwnsFills acts → OwnsFills (a ∷ acts)
  OwnsFills-more (stores (store f b)) acts (block, cert, from, cert_from) more = record {
    blocks = (block, more.blocks);
    certs = (cert, more.certs);
    own_blocks = (from, more.own_blocks);
    own_certs = (cert_from, more.own_certs);
    calls = more.calls;
    repair_calls = more.repair_calls;
    asks = λ c rest. more.asks c rest;
    sends = λ rest. more.sends rest;
    answers = λ h rest. more.answers h rest;
    owns = λ all retention own c rest blocks certs owns. (
      record {
        blocks = λ x has. blocks x (Contains-append_left (at_own_height b ∷ []) (filled_blocks acts) x has);
        certs = λ x has. certs x (Contains-append_left (at_height b.height f ∷ []) (filled_certs acts) x has);
        cached = (WithinWritten-nothing all).cached;
        prunes = (WithinWritten-nothing all).prunes;
        pairs = (WithinWritten-nothing all).pairs;
        blocks_from = (WithinWritten-nothing all).blocks_from;
        certs_from = (WithinWritten-nothing all).certs_from;
      },
      more.owns all retention own c rest (λ x has. blocks x (Contains-append_right (at_own_height b ∷ []) (filled_blocks acts) x has))
          (λ x has. certs x (Contains-append_right (at_height b.height f ∷ []) (filled_certs acts) x has)) owns,
    );
  }
  OwnsFills-more (stores (store_block b)) acts (block, from) more = record {
    blocks = (block, more.blocks);
    certs = more.certs;
    own_blocks = (from, more.own_blocks);
    own_certs = more.own_certs;
    calls = more.calls;
    repair_calls = more.repair_calls;
    asks = λ c rest. more.asks c rest;
    sends = λ rest. more.sends rest;
    answers = λ h rest. more.answers h rest;
    owns = λ all retention own c rest blocks certs owns. (
      record {
        blocks = λ x has. blocks x (Contains-append_left (at_own_height b ∷ []) (filled_blocks acts) x has);
        certs = (WithinWritten-nothing all).certs;
        cached = (WithinWritten-nothing all).cached;
        prunes = (WithinWritten-nothing all).prunes;
        pairs = (WithinWritten-nothing all).pairs;
        blocks_from = (WithinWritten-nothing all).blocks_from;
        certs_from = (WithinWritten-nothing all).certs_from;
      },
      more.owns all retention own c rest (λ x has. blocks x (Contains-append_right (at_own_height b ∷ []) (filled_blocks acts) x has)) certs owns,
    );
  }
  OwnsFills-more (says (tell r h d)) acts (final, named) more = record {
    blocks = more.blocks;
    certs = more.certs;
    own_blocks = more.own_blocks;
    own_certs = more.own_certs;
    calls = more.calls;
    repair_calls = more.repair_calls;
    asks = λ c rest. more.asks c rest;
    sends = λ rest. more.sends rest;
    answers = λ h rest. more.answers h rest;
    owns = λ all retention own c rest blocks certs owns. (final, named, more.owns all retention own c rest blocks certs owns);
  }
  OwnsFills-more (says (ask calls)) acts fetches more = record {
    blocks = more.blocks;
    certs = more.certs;
    own_blocks = more.own_blocks;
    own_certs = more.own_certs;
    calls = calls ++ more.calls;
    repair_calls = AllByRecursion-append (IsRepairFetch chain) calls more.calls fetches more.repair_calls;
    asks = λ c rest. ap (λ xs. calls ++ xs) (more.asks c rest) ∙ sym (append_assoc calls more.calls (asks_in c rest));
    sends = λ rest. more.sends rest;
    answers = λ h rest. more.answers h rest;
    owns = λ all retention own c rest blocks certs owns. more.owns all retention own c rest blocks certs owns;
  }
  OwnsFills-more _ acts own more = absurd own

  pub OwnsFills-all : (acts : List Act) → AllByRecursion (IsOwnFill chain n e) acts → OwnsFills acts
  OwnsFills-all [] own = OwnsFills-none
  OwnsFills-all (a ∷ acts) own = OwnsFills-more a acts own.0 (OwnsFills-all acts own.1)

-- Every act of a pass of repair, where it broke as where it ended, is its event's own: from a scene whose stores are the chain's.

-- what is found of fewer entries is found of more
pub found_within : {T U : Type 0} (f : T → Option U) (xs ys : List T) → Within xs ys → Within (filter_map f xs) (filter_map f ys)
found_within f xs ys within u has = AllByRecursion-contains (Contains (filter_map f ys)) (filter_map f xs) u
    (all_found_within f (Contains (filter_map f ys)) xs ys within (AllByRecursion-from_contains (Contains (filter_map f ys)) (filter_map f ys) (λ v there. there))) has

pub behind_within : {T : Type 0} (front xs ys : List T) → Within xs ys → Within (front ++ xs) (front ++ ys)
behind_within front xs ys within x has = ⊎_elim (λ first. Contains-append_left front ys x first) (λ later. Contains-append_right front ys x (within x later)) (Contains-append_cases front xs x has)

-- What of some stores is the chain's, where digests name one block each; and what is in the buffer and in the cache is the event's to
-- store.
pub record AreToFill (epochs : Epochs) (chain : Chain) (inner : List ℕ → List ℕ) (buffer : List Block) (h : Held) (n : Node) (e : Event) : Type 0 where
  pub lawful : IsLawful epochs chain
  pub known : List Block
  pub one : AreOne inner known
  pub chain_known : (b : Block) → Contains chain.blocks b → Contains known b
  pub beside_known : (b : Block) → Contains (buffer ++ filter_map cached_block h.cache.kept.held) b → Contains known b
  pub finals : AreCachedOf chain h.cache.kept.held
  pub blocks : AreBlocksOf chain h.blocks.held
  pub certs : AreFinalizationsOf chain h.certs.held
  pub block_from : (b : Block) → Contains (buffer ++ filter_map cached_block h.cache.kept.held) b → IsBlockFrom n e (at_own_height b)
  pub cert_from : (f : Finalization) (height : ℕ) → Contains (filter_map cached_finalization h.cache.kept.held) f → IsCertFrom n e (at_height height f)

module _ (epochs : Epochs) (chain : Chain) (inner : List ℕ → List ℕ) (buffer : List Block) (u : Scene) (n : Node) (e : Event) (of_chain : AreToFill epochs chain inner buffer u.held n e) where
  abbrev s : Search
  s = search_of inner buffer u.held

  abbrev held : List (At Block)
  held = u.held.blocks.held

  abbrev Own : List Act → Type 0
  Own acts = AllByRecursion (IsOwnFill chain n e) acts

  -- A FILL

  own-fill : (b : Block) → IsFill chain (buffer ++ filter_map cached_block u.held.cache.kept.held) b → Own (fill_acts (cached_for inner u.held.cache.kept.held b.commitment) b)
  own-fill b fill = by (cached_for inner u.held.cache.kept.held b.commitment) refl
    where
      by : (o : Option Finalization) → cached_for inner u.held.cache.kept.held b.commitment ≡ o → Own (fill_acts o b)
      by None none = ((fill.at, of_chain.block_from b fill.from), tt)
      by (Some f) some =
          let (final, cached) = cached_finalizes epochs chain of_chain.lawful s of_chain.known of_chain.one of_chain.chain_known of_chain.beside_known of_chain.finals b f fill.at some in
          ((fill.at, final, of_chain.block_from b fill.from, of_chain.cert_from f b.height cached), ((final.named, ap (λ o. option_map (λ c. c.digest) o) fill.at), tt))

  own-fills : (fills : List Block) → AllByRecursion (IsFill chain (buffer ++ filter_map cached_block u.held.cache.kept.held)) fills → Own (fills_acts s fills)
  own-fills [] are = tt
  own-fills (b ∷ fills) are = AllByRecursion-append (IsOwnFill chain n e) (fill_acts (cached_for inner u.held.cache.kept.held b.commitment) b) (fills_acts s fills) (own-fill b are.0) (own-fills fills are.1)

  -- THE NEWEST CERTIFICATE'S BLOCK

  module _ (x : At Finalization) (is : alone_in u.held ≡ Some x) where
    lone : IsAlone inner buffer u.held.cache.kept.held u.held.processed held u.held.certs.held 0 [] x
    lone = alone-is inner buffer u.held.cache.kept.held u.held.processed held u.held.certs.held 0 [] x is

    newest_final : Finalizes chain x.height x.value.round x.value.payload
    newest_final = AllByRecursion-value_at (λ y. Finalizes chain y.height y.value.round y.value.payload) u.held.certs.held x.height x.value of_chain.certs (newest-is u.held.certs.held x lone.is_newest).0

    newest_found : (b : Block) → look_up s held x.value.payload ≡ Some b → IsFill chain (buffer ++ filter_map cached_block u.held.cache.kept.held) b
    newest_found b found = (newest-found epochs chain of_chain.lawful s of_chain.known of_chain.one of_chain.chain_known of_chain.beside_known held of_chain.blocks x newest_final lone.above b found).0

    own-certified : (o : Option Block) → look_up s held x.value.payload ≡ o → Own (certified_acts x o)
    own-certified None none = (((refl, x.height, refl, newest_final.payload_is), tt), tt)
    own-certified (Some b) there = tested (b.height == x.height)
      where
        tested : (c : Bool) → Own (cond c (stores (store_block b) ∷ []) [])
        tested true = (((newest_found b there).at, of_chain.block_from b (newest_found b there).from), tt)
        tested false = tt

    walk-found : (o : Option Block) → look_up s held x.value.payload ≡ o → AreBlocksOf chain (with_found held (of_height x.height o))
    walk-found None none = of_chain.blocks
    walk-found (Some b) there = tested (b.height == x.height)
      where
        tested : (c : Bool) → AreBlocksOf chain (with_found held (if c then Some b else None))
        tested true = with_fill-blocks epochs chain of_chain.lawful s of_chain.known of_chain.one of_chain.chain_known of_chain.beside_known held b of_chain.blocks (newest_found b there).at
        tested false = of_chain.blocks

  own-newest : (o : Option (At Finalization)) → alone_in u.held ≡ o → Own (newest_acts s held o)
  own-newest None is = tt
  own-newest (Some x) is = own-certified x is (look_up s held x.value.payload) refl

  walk-blocks : (o : Option (At Finalization)) → alone_in u.held ≡ o → AreBlocksOf chain (with_newest_fill s held o)
  walk-blocks None is = of_chain.blocks
  walk-blocks (Some x) is = walk-found x is (look_up s held x.value.payload) refl

  own-asks : (after : List (At Block)) → AreBlocksOf chain after → (most : ℕ) → Own (gap_acts s most after)
  own-asks after blocks most = (gap-honest epochs chain of_chain.lawful s of_chain.known of_chain.one of_chain.chain_known of_chain.beside_known after blocks most, tt)

  -- ALL OF THEM
  pub own-pass : (acts : List Act) → IsPass inner buffer u acts → Own acts
  own-pass acts pass = subst Own (sym pass.acts_are) (AllByRecursion-append (IsOwnFill chain n e) (front_acts inner buffer u.held pass.fills) pass.asks
      (AllByRecursion-append (IsOwnFill chain n e) (newest_acts s held (alone_in u.held)) (fills_acts s pass.fills) (own-newest (alone_in u.held) refl) (own-fills pass.fills fills.0))
      (asked pass.last))
    where
      fills : AllByRecursion (IsFill chain (buffer ++ filter_map cached_block u.held.cache.kept.held)) pass.fills × AreNew (walk_start inner buffer u.held) pass.fills
          × AreBlocksOf chain (with_fills (walk_start inner buffer u.held) pass.fills)
      fills = fills-are epochs chain of_chain.lawful s of_chain.known of_chain.one of_chain.chain_known of_chain.beside_known (walk_start inner buffer u.held) pass.fills (walk-blocks (alone_in u.held) refl) pass.are

      asked : (pass.asks ≡ []) ⊎ (EndsFills s (with_fills (walk_start inner buffer u.held) pass.fills) × (pass.asks ≡ gap_acts s u.life.sizes.max_repair (with_fills (walk_start inner buffer u.held) pass.fills))) → Own pass.asks
      asked (inl none) = subst Own (sym none) tt
      asked (inr (ends, is)) = subst Own (sym is) (own-asks (with_fills (walk_start inner buffer u.held) pass.fills) fills.2 u.life.sizes.max_repair)
