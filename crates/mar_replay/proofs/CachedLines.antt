-- The blocks that are cached, and that a crash may leave of the cache: over a line none comes to it but those that the line tells
-- or that might be met before.
use Rattle.std.proofs.Common.{Bool, Contains, List, None, Option, Some, [], ap, arith, false, fold, if◌then◌else◌, inl, inr, length, nat_lt, refl, subst, sym, true, zero, ℕ, ◌&&◌, ◌++◌, ◌+◌, ◌∙◌, ◌∷◌, ◌≡◌, ◌⊎◌}
use Rattle.std.specs.List.{filter_map, list_any}
use Rattle.std.proofs.lemmas.List.Elements.{Contains-append_cases, Contains-append_left, Contains-append_right}
use Rattle.mar_cert.specs.Block.{Block}
use Rattle.mar_store.specs.Changes.{Within}
use Rattle.mar_store.proofs.Lookups.{AllByRecursion-contains, AllByRecursion-from_contains}
use Rattle.mar_model.specs.Cache.{MayBeCached, entries_put, notarized_where, verified_at, notarized_at_hand}
use Rattle.mar_model.specs.Cached.{Cached, cached_block, finalization_entry, notarized_entry, verified_entry, with_entry, notarization_entry}
use Rattle.mar_model.specs.Chain.{Chain}
use Rattle.mar_model.specs.Config.{Config}
use Rattle.mar_model.specs.Event.{Effect, Event, effect_of, message_told}
use Rattle.mar_model.specs.Faults.{Begin}
use Rattle.mar_model.specs.Lives.{Finds, Picks, TakesUp}
use Rattle.mar_model.specs.Node.{Ended, Node, write_count, AreBlocksOf, at_hand}
use Rattle.mar_model.specs.Messages.{Message, certify, get_anchor, get_block, get_finalization, get_info, get_processed, get_verified, hint_finalized, message_blocks, prepared, proposed, report_certification, report_finalization, report_notarization, verified}
use Rattle.mar_model.specs.Promise.{told_blocks, Waiting, known_blocks, node_of}
use Rattle.mar_model.specs.Step.{Made, Steps, with_sync}
use Rattle.mar_model.proofs.CacheSteps.{with_cases}
use Rattle.mar_model.proofs.EntryLists.{contains_none, one_of}
use Rattle.mar_model.proofs.Filtered.{all_found_from, all_found_of, all_found_within}
use Rattle.mar_script.specs.Script.{IsBuiltMessage}
use Rattle.mar_replay.proofs.Lasting.{IsPlain, finishes, marks, tells}
use Rattle.mar_cert.specs.Finalization.{Notarization}
use Rattle.mar_model.specs.Held.{Seen}
use Rattle.mar_model.proofs.KnownBlocks.{at_hand-known}

-- what is found in a list is found in one that has all of it
pub found_within : {T U : Type 0} (f : T → Option U) (xs ys : List T) → Within xs ys → (y : U) → Contains (filter_map f xs) y → Contains (filter_map f ys) y
found_within f xs ys within y has =
    AllByRecursion-contains (Contains (filter_map f ys)) (filter_map f xs) y (all_found_within f (Contains (filter_map f ys)) xs ys within (AllByRecursion-from_contains (Contains (filter_map f ys)) (filter_map f ys) (λ x there. there))) has

-- A STEP

-- the block that is cached is one of these, if it is a block
abbrev pub IsOneOf : List Block → Cached → Type 0
IsOneOf more x = (b : Block) → cached_block x ≡ Some b → Contains more b

-- a ticket for a sync changes nothing that is cached
cache-with_sync : (before : ℕ) (n : Node) → (with_sync before n).cache ≡ n.cache
cache-with_sync before n = by (nat_lt before (write_count n)) (nat_lt 0 (length n.uncovered))
  where
    by : (b c : Bool) → (if b && c then record n { syncs = n.syncs ++ record { ticket = n.next_sync; position = write_count n } ∷ []; next_sync = n.next_sync + 1 } else n).cache ≡ n.cache
    by true true = refl
    by true false = refl
    by false c = refl

-- what one more entry after another make of a list
with_entries : (held put : List Cached) (x : Cached) → Contains (fold with_entry held put) x → Contains held x ⊎ Contains put x
with_entries held [] x has = inl has
with_entries held (y ∷ put) x has = elim (with_entries (with_entry held y) put x has) [
  | inl with ↦ elim (with_cases y held x with) [ inl before ↦ inl before | inr same ↦ inr (subst (Contains (y ∷ put)) (sym same) (zero, omega arith, refl)) ]
  | inr more ↦ inr (Contains-append_right (y ∷ []) put x more)
]

-- of blocks an event puts these into the cache alone
abbrev pub PutsBlocksOf : Config → Node → Event → List Block → Type 0
PutsBlocksOf config n e more = (fx : Effect) (after : List Cached) (x : Cached) → Contains (entries_put config n after e fx) x → IsOneOf more x

-- blocks that are found in what was there, or among these
blocks_from : (more : List Block) (xs ys : List Cached) → ((x : Cached) → Contains xs x → Contains ys x ⊎ IsOneOf more x) → (b : Block) → Contains (filter_map cached_block xs) b → Contains (filter_map cached_block ys ++ more) b
blocks_from more xs ys from b has = AllByRecursion-contains (Contains (filter_map cached_block ys ++ more)) (filter_map cached_block xs) b (all_found_from cached_block (Contains (filter_map cached_block ys ++ more)) xs (λ x c there is. elim (from x there) [
  | inl before ↦ Contains-append_left (filter_map cached_block ys) more c (there_found x c before is)
  | inr told ↦ Contains-append_right (filter_map cached_block ys) more c (told c is)
])) has
  where
    there_found : (x : Cached) (c : Block) → Contains ys x → cached_block x ≡ Some c → Contains (filter_map cached_block ys) c
    there_found x c there is = all_found_of cached_block (Contains (filter_map cached_block ys)) ys x c (AllByRecursion-from_contains (Contains (filter_map cached_block ys)) (filter_map cached_block ys) (λ d in_ys. in_ys)) there is

-- over such an event no others come to it
pub step_cached : (config : Config) (chain : Chain) (n : Node) (e : Event) (more : List Block) (made : Made) (n' : Node) → PutsBlocksOf config n e more → Steps config chain n (e ∷ []) made n' → (b : Block) → Contains (filter_map cached_block (n'.cache.held ++ n'.cache.may)) b → Contains (filter_map cached_block (n.cache.held ++ n.cache.may) ++ more) b
step_cached config chain n e more made n' puts steps b has = blocks_from more (n'.cache.held ++ n'.cache.may) (n.cache.held ++ n.cache.may) (λ x there. each x (subst (λ c. Contains (c.held ++ c.may) x) same there)) b has
  where
    same : n'.cache ≡ steps.unticketed.cache
    same = ap (λ m. m.cache) steps.ticket ∙ cache-with_sync (write_count n) steps.unticketed

    each : (x : Cached) → Contains (steps.unticketed.cache.held ++ steps.unticketed.cache.may) x → Contains (n.cache.held ++ n.cache.may) x ⊎ IsOneOf more x
    each x there = elim (Contains-append_cases steps.unticketed.cache.held steps.unticketed.cache.may x there) [
      | inl held ↦ elim (with_entries n.cache.held (entries_put config n steps.unticketed.cache.held e (effect_of config n e)) x (steps.advances.cache.nothing_else x held)) [
        | inl before ↦ inl (Contains-append_left n.cache.held n.cache.may x before)
        | inr put ↦ inr (puts (effect_of config n e) steps.unticketed.cache.held x put)
      ]
      | inr may ↦ elim (steps.advances.may_cached x may) [
        | inl before ↦ inl (Contains-append_right n.cache.held n.cache.may x before)
        | inr put ↦ inr (puts (effect_of config n e) put.0 x put.1)
      ]
    ]

-- nor are others left by a cut
pub cut_cached : (config : Config) (chain : Chain) (n : Node) (e : Event) (more : List Block) (fx : Effect) (left : Ended) → PutsBlocksOf config n e more → ((x : Cached) → Contains left.cache_may x → MayBeCached config n e fx x) → (b : Block) → Contains (filter_map cached_block left.cache_may) b → Contains (filter_map cached_block n.cache.may ++ more) b
cut_cached config chain n e more fx left puts may b has = blocks_from more left.cache_may n.cache.may (λ x there. elim (may x there) [ inl before ↦ inl before | inr put ↦ inr (puts fx put.0 x put.1) ]) b has

-- what is no block is none that isn't among these
no_block : (more : List Block) (x y : Cached) → y ≡ x → cached_block y ≡ None → IsOneOf more x
no_block more x y same none b is = absurd (apart (sym none ∙ (ap cached_block same ∙ is)))
  where
    apart : ◌≡◌ {A = Option Block} None (Some b) → ⊥
    apart both = cc

-- the block of an entry
one_block : (more : List Block) (x y : Cached) (b : Block) → y ≡ x → cached_block y ≡ Some b → Contains more b → IsOneOf more x
one_block more x y b same one told c is = subst (Contains more) (inside (sym one ∙ (ap cached_block same ∙ is))) told
  where
    inside : ◌≡◌ {A = Option Block} (Some b) (Some c) → b ≡ c
    inside both = cc

told_first : (b : Block) (others : List Block) → Contains (b ∷ others) b
told_first b others = (zero, omega arith, refl)

-- what an event of a script tells, and what might be met before
abbrev pub told_or_known : Chain → Node → Event → List Block
told_or_known chain n e = told_blocks e ++ known_blocks chain n

-- events of a script put such blocks alone
module _ {P E : Type 0} (config : Config) (chain : Chain) (a : Seen P E) (buffer : List Block) (waiting : Waiting) (blocks : AreBlocksOf chain a.held.blocks.held) where
  abbrev n : Node
  n = node_of a buffer waiting

  notarized_puts : (f : Notarization) (more : List Block) → ((b : Block) → Contains (known_blocks chain n) b → Contains more b) → (o : Option Block) → at_hand n f.payload ≡ o → (x : Cached) → Contains (notarization_entry f ∷ notarized_at_hand n f.round o) x → IsOneOf more x
  notarized_puts f more known None is x has = no_block more x (notarization_entry f) (sym (one_of (notarization_entry f) x has)) refl
  notarized_puts f more known (Some b) is x has = by (list_any (verified_at f.round b) n.cache.held) has
    where
      by : (is_verified : Bool) → Contains (notarization_entry f ∷ notarized_where is_verified f.round b) x → IsOneOf more x
      by true there = no_block more x (notarization_entry f) (sym (one_of (notarization_entry f) x there)) refl
      by false there = elim (Contains-append_cases (notarization_entry f ∷ []) (notarized_entry f.round b ∷ []) x there) [
        | inl first ↦ no_block more x (notarization_entry f) (sym (one_of (notarization_entry f) x first)) refl
        | inr second ↦ one_block more x (notarized_entry f.round b) b (sym (one_of (notarized_entry f.round b) x second)) refl (known b (at_hand-known config.inner chain a buffer waiting blocks f.payload b is))
      ]

  -- the block that a message brings
  brought : (b : Block) (x y : Cached) → Contains (y ∷ []) x → cached_block y ≡ Some b → IsOneOf (b ∷ known_blocks chain n) x
  brought b x y has is = one_block (b ∷ known_blocks chain n) x y b (sym (one_of y x has)) is (told_first b (known_blocks chain n))

  told_puts : (t : Option ℕ) (m : Message) → IsBuiltMessage m → PutsBlocksOf config n (message_told t m) (message_blocks m ++ known_blocks chain n)
  told_puts t (report_finalization f) built fx after x has = no_block _ x (finalization_entry f) (sym (one_of (finalization_entry f) x has)) refl
  told_puts t (report_notarization f) built fx after x has = notarized_puts f (known_blocks chain n) (λ b there. there) (at_hand n f.payload) refl x has
  told_puts t (report_certification f) built fx after x has = contains_none x has
  told_puts t (get_info id) built fx after x has = contains_none x has
  told_puts t (get_block id) built fx after x has = contains_none x has
  told_puts t (get_finalization h) built fx after x has = contains_none x has
  told_puts t get_processed built fx after x has = contains_none x has
  told_puts t get_anchor built fx after x has = contains_none x has
  told_puts t (get_verified r) built fx after x has = contains_none x has
  told_puts t (verified r b) built fx after x has = brought b x (verified_entry r b) has refl
  told_puts t (proposed r peers b) built fx after x has = brought b x (verified_entry r b) has refl
  told_puts t (prepared r peers b) built fx after x has = contains_none x has
  told_puts t (hint_finalized h peers) built fx after x has = contains_none x has
  told_puts t (certify r b) built fx after x has = by (list_any (verified_at r b) after) has
    where
      by : (is_verified : Bool) → Contains (notarized_where is_verified r b) x → IsOneOf (b ∷ known_blocks chain n) x
      by true there = contains_none x there
      by false there = brought b x (notarized_entry r b) there refl
  told_puts t m built fx after x has = absurd built

  pub plain_puts : (e : Event) → IsPlain e → PutsBlocksOf config n e (told_or_known chain n e)
  plain_puts e (tells t m built) fx after x has = told_puts t m built fx after x has
  plain_puts e (marks t m) fx after x has = contains_none x has
  plain_puts e (finishes t) fx after x has = contains_none x has

-- AN OPENING

-- what an opening finds of the cache might be left before it
pub found_cached : (config : Config) (e : Ended) (picks : Picks) (begin : Begin) (n : Node) → Finds config e picks begin n → Within (n.cache.held ++ n.cache.may) e.cache_may
found_cached config e picks begin n finds = subst (λ c. Within (c.held ++ c.may) e.cache_may) (sym (ap (λ m. m.cache) finds.node)) finds.cache_may.within_may

-- what its start took up was left
pub begun_cached : (picked : Option (List Cached)) (n begun : Node) → TakesUp picked n begun → Within (begun.cache.held ++ begun.cache.may) n.cache.may
begun_cached picked n begun takes = subst (λ m. Within (m.cache.held ++ m.cache.may) n.cache.may) (sym takes.begun_is) (λ x has. by x (Contains-append_cases takes.cache.held takes.cache.may x has))
  where
    by : (x : Cached) → Contains takes.cache.held x ⊎ Contains takes.cache.may x → Contains n.cache.may x
    by x (inl held) = takes.loads.within_may x held
    by x (inr may) = takes.loads.within_may x (takes.loads.may x may)
