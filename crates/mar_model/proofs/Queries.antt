-- Queries: events that are answered from what stands, and change nothing.
use Rattle.std.proofs.Common.{◌≡◌, ℕ, List, [], ◌∷◌, true, Option, Some, None, option_to_list, IfSome, ◌<◌, ◌≤◌, bytes_eq, find, map, refl, sym, ◌∙◌, ap, arith}
use Rattle.std.specs.List.{filter_map}
use Rattle.std.specs.Option.{option_or}
use Rattle.std.specs.Prelude.{option_and_then}
use Rattle.mar_cert.specs.Block.{Block}
use Rattle.mar_cert.specs.Finalization.{Finalization}
use Rattle.mar_store.specs.Kept.{At, value_at}
use Rattle.mar_store.specs.Named.{last_index}
use Rattle.mar_store.proofs.Lookups.{AllByRecursion-value_at}
use Rattle.mar_model.specs.Answers.{answers_of, block_for, bytes_of, query_value, sends_of, to}
use Rattle.mar_model.specs.Cached.{cached_block}
use Rattle.mar_model.specs.Chain.{Chain}
use Rattle.mar_model.specs.Config.{Config}
use Rattle.mar_model.specs.Event.{is_query, message_told, no_floor}
use Rattle.mar_model.specs.Held.{Seen}
use Rattle.mar_model.specs.Messages.{Identifier, Message, get_anchor, get_block, get_finalization, get_info, get_processed, get_verified, latest, of_digest, of_height}
use Rattle.mar_model.specs.Moves.{found_at_hand}
use Rattle.mar_model.specs.Node.{AreBlocksOf, Node, at_hand}
use Rattle.mar_model.specs.Promise.{AreOne, Waiting, known_blocks, node_of}
use Rattle.mar_model.specs.Queries.{block_found, value_found}
use Rattle.mar_model.specs.Stored.{block_of, newest, values_of}
use Rattle.mar_model.proofs.CachedBlocks.{by_digest-is, verified_first}
use Rattle.mar_model.proofs.FoundBlocks.{cached_known, find-three, found-is}
use Rattle.mar_model.proofs.Idle.{IsIdle}
use Rattle.mar_model.proofs.Tips.{below_last}

-- WHAT IS FOUND

module _ {P E : Type 0} (config : Config) (chain : Chain) (a : Seen P E) (buffer : List Block) (waiting : Waiting) (one : AreOne config.inner (known_blocks chain (node_of a buffer waiting))) (blocks : AreBlocksOf chain a.held.blocks.held) where
  latest_found : (o : Option (At Finalization)) → option_and_then (λ x. found_at_hand config.inner buffer a.held.cache.kept.held a.held.blocks.held x.value.payload) o ≡ option_and_then (λ x. at_hand (node_of a buffer waiting) x.value.payload) o
  latest_found None = refl
  latest_found (Some x) = found-is config.inner chain a buffer waiting x.value.payload one blocks

  block_found-is : (id : Identifier) → block_found config.inner a.held buffer id ≡ block_for (node_of a buffer waiting) id
  block_found-is (of_height h) = refl
  block_found-is (of_digest d) =
      ap (λ c. option_or (find (λ b. bytes_eq b.digest d) buffer) (option_or c (block_of a.held.blocks.held d))) (by_digest-is config.inner (known_blocks chain (node_of a buffer waiting)) one d a.held.cache.kept.held (cached_known config.inner chain a buffer waiting))
      ∙ sym (find-three (λ b. bytes_eq b.digest d) buffer (filter_map cached_block a.held.cache.kept.held) (values_of a.held.blocks.held))
  block_found-is latest = latest_found (newest a.held.certs.held)

  module _ (t : ℕ) where
    abbrev n : Node
    n = node_of a buffer waiting

    -- What a query on a lawful chain is: it changes and sends nothing, and is answered what is found.
    pub record IsAnswered (m : Message) : Type 0 where
      pub idle : IsIdle config n (message_told (Some t) m) []
      pub sends : [] ≡ sends_of n (message_told (Some t) m)
      pub found : value_found config.inner a.held buffer m ≡ query_value config n m
      pub answers : (lowest : ℕ) → answers_of config n lowest (message_told (Some t) m) no_floor ≡ map (to t) (option_to_list (query_value config n m))

    pub query_is : (m : Message) → is_query (message_told (Some t) m) ≡ true → IsAnswered m
    query_is (get_info id) is = record { idle = record { rest = record { effect = refl; undrained = refl; processed = refl; cutoff = refl; storing = refl; position = refl; syncs = refl; witnessing = refl; no_fault = refl; asks = refl; subscriptions = refl; unrefused = λ fault. refl; once = refl; no_pass = λ n'. refl }; unput = λ after. refl; unfinished = λ xs. refl; uncovered = refl; no_syncs = λ n'. refl }; sends = refl; found = refl; answers = λ lowest. refl }
    query_is (get_block id) is = record { idle = record { rest = record { effect = refl; undrained = refl; processed = refl; cutoff = refl; storing = refl; position = refl; syncs = refl; witnessing = refl; no_fault = refl; asks = refl; subscriptions = refl; unrefused = λ fault. refl; once = refl; no_pass = λ n'. refl }; unput = λ after. refl; unfinished = λ xs. refl; uncovered = refl; no_syncs = λ n'. refl }; sends = refl; found = ap (λ b. Some (bytes_of b)) (block_found-is id); answers = λ lowest. refl }
    query_is (get_finalization h) is = record { idle = record { rest = record { effect = refl; undrained = refl; processed = refl; cutoff = refl; storing = refl; position = refl; syncs = refl; witnessing = refl; no_fault = refl; asks = refl; subscriptions = refl; unrefused = λ fault. refl; once = refl; no_pass = λ n'. refl }; unput = λ after. refl; unfinished = λ xs. refl; uncovered = refl; no_syncs = λ n'. refl }; sends = refl; found = refl; answers = λ lowest. refl }
    query_is get_processed is = record { idle = record { rest = record { effect = refl; undrained = refl; processed = refl; cutoff = refl; storing = refl; position = refl; syncs = refl; witnessing = refl; no_fault = refl; asks = refl; subscriptions = refl; unrefused = λ fault. refl; once = refl; no_pass = λ n'. refl }; unput = λ after. refl; unfinished = λ xs. refl; uncovered = refl; no_syncs = λ n'. refl }; sends = refl; found = refl; answers = λ lowest. refl }
    query_is get_anchor is = record { idle = record { rest = record { effect = refl; undrained = refl; processed = refl; cutoff = refl; storing = refl; position = refl; syncs = refl; witnessing = refl; no_fault = refl; asks = refl; subscriptions = refl; unrefused = λ fault. refl; once = refl; no_pass = λ n'. refl }; unput = λ after. refl; unfinished = λ xs. refl; uncovered = refl; no_syncs = λ n'. refl }; sends = refl; found = refl; answers = λ lowest. refl }
    query_is (get_verified r) is = record { idle = record { rest = record { effect = refl; undrained = refl; processed = refl; cutoff = refl; storing = refl; position = refl; syncs = refl; witnessing = refl; no_fault = refl; asks = refl; subscriptions = refl; unrefused = λ fault. refl; once = refl; no_pass = λ n'. refl }; unput = λ after. refl; unfinished = λ xs. refl; uncovered = refl; no_syncs = λ n'. refl }; sends = refl; found = ap (λ b. Some (bytes_of b)) (verified_first r a.held.cache.kept.held); answers = λ lowest. refl }
    query_is _ is = absurd cc

-- THE BLOCK THAT BACKS THE PROCESSED HEIGHT

-- nothing stands past the last
pub none_past : {T : Type 0} (xs : List (At T)) (h : ℕ) → IfSome (last_index xs) (λ k. k < h) → value_at xs h ≡ None
none_past {T = T} xs h past = by (last_index xs) refl past
  where
    nothing : (ys : List (At T)) → last_index ys ≡ None → value_at ys h ≡ None
    nothing [] none = refl
    nothing (y ∷ ys) none = absurd cc

    by : (o : Option ℕ) → last_index xs ≡ o → IfSome o (λ k. k < h) → value_at xs h ≡ None
    by None is low = nothing xs is
    by (Some k) is low = found (value_at xs h) refl
      where
        found : (o : Option T) → value_at xs h ≡ o → value_at xs h ≡ None
        found None none = none
        found (Some x) some = absurd (let within : h ≤ k = AllByRecursion-value_at (λ y. y.height ≤ k) xs h x (below_last xs k is) some in omega (arith, low))
