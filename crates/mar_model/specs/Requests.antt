-- What a node asks of its resolver.
use Rattle.std.specs.List.{AllByRecursion}
use Rattle.std.specs.Prelude.{AllPairs, Bool, Contains, IsFalse, IsSome, IsTrue, List, None, Option, Some, [], count_by, false, if◌then◌else◌, length, nat_lt, option_map, slice_get, true, ℕ, ◌++◌, ◌+◌, ◌-◌, ◌<◌, ◌||◌, ◌∷◌, ◌≡◌, ◌≢◌, ◌≤◌, ◌⊎◌}
use Rattle.mar_types.specs.Epochs.{Epochs}
use Rattle.mar_types.specs.Round.{Round}
use Rattle.mar_cert.specs.Block.{Block}
use Rattle.mar_cert.specs.Finalization.{Finalization}
use Rattle.mar_key.specs.Cutoff.{Cutoff, covers, cutoff_le, greatest_of}
use Rattle.mar_key.specs.Processed.{Processed, height_in, height_of}
use Rattle.mar_store.specs.Kept.{At, has_height, value_at}
use Rattle.mar_key.specs.Keys.{Annotation, Call, Key, above_height, above_round, block_key, certified_at, fetch, finalized_by_height, finalized_by_round, finalized_key, for_notarization, notarized_key, retain, untrusted_at}
use Rattle.mar_model.specs.Messages.{Fallback, fetch_by_commitment, fetch_by_round, hint_finalized, hint_notarized, report_finalization, subscribe_commitment, subscribe_digest, wait}
use Rattle.mar_model.specs.Chain.{Chain}
use Rattle.mar_model.specs.Config.{Config}
use Rattle.mar_model.specs.Acks.{Outstanding}
use Rattle.mar_model.specs.Node.{Awaited, Node, at_hand}
use Rattle.mar_model.specs.Event.{Effect, Event, applies_floor, awaits_floor, drained_blocks, floor_cutoffs, is_above, life_started, message_told, met_cutoffs, met_finalization, no_floor, own_writes, retired, serve_ended, storing_of}
use Rattle.mar_model.specs.Answers.{at_hand_digest, is_known}

-- a retain for each cutoff that rises above those before it
abbrev pub raise_asks : Cutoff → List Cutoff → List Call
raise_asks cutoff [] = []
raise_asks cutoff (c ∷ others) = if cutoff_le c cutoff then raise_asks cutoff others else retain (above_round c) ∷ raise_asks c others

-- each acknowledged height retires the requests at or below it, then its cutoffs
abbrev pub retire_asks : Epochs → List (At Finalization) → Cutoff → List Outstanding → List Call
retire_asks epochs certs cutoff [] = []
retire_asks epochs certs cutoff (a ∷ out) =
    retain (above_height a.height) ∷ raise_asks cutoff (retired epochs certs a.height) ++ retire_asks epochs certs (greatest_of cutoff (retired epochs certs a.height)) out

-- a finalized block that is not at hand is asked for by commitment and round, unless the cutoff covers that
abbrev pub want_asks : Cutoff → Round → List ℕ → List Call
want_asks cutoff r commitment = if covers cutoff r then [] else fetch (block_key commitment) (finalized_by_round r) None ∷ []

abbrev pub reported_asks : Node → Finalization → Option Block → List Call
reported_asks n f None = want_asks n.cutoff f.round f.payload
reported_asks n f (Some b) = []

-- where floors permit: a height above the processed one, a round that the cutoff does not cover
abbrev pub permits_height : Option Processed → ℕ → Bool
permits_height None h = true
permits_height (Some p) h = nat_lt (height_in p) h

abbrev pub height_asks : Option Processed → Key → Annotation → ℕ → Option (List ℕ) → List Call
height_asks processed key annotation h targets = if permits_height processed h then fetch key annotation targets ∷ [] else []

abbrev pub notarized_asks : Node → Round → List Call
notarized_asks n r = if covers n.cutoff r then [] else fetch (notarized_key r) (for_notarization r) None ∷ []

-- a subscription's fallback, where its block is not at hand
abbrev pub fallback_asks : Node → List ℕ → Fallback → Option Block → List Call
fallback_asks n c fallback (Some b) = []
fallback_asks n c wait None = []
fallback_asks n c (fetch_by_round r) None = notarized_asks n r
fallback_asks n c (fetch_by_commitment h) None = height_asks n.processed (block_key c) (if is_known n.certified h c then certified_at h else untrusted_at h) h None

-- a hinted finalization is asked for of its peers, unless it is held
abbrev pub hint_asks : Option Processed → ℕ → List ℕ → Option Finalization → List Call
hint_asks processed h peers (Some f) = []
hint_asks processed h peers None = height_asks processed (finalized_key h) (finalized_by_height h) h (Some peers)

abbrev pub notarized_hint_asks : Node → Round → Option Block → List Call
notarized_hint_asks n r (Some b) = []
notarized_hint_asks n r None = notarized_asks n r

-- what a message asks for where the node lacks it
abbrev pub told_asks : Node → Event → List Call
told_asks n (message_told t (report_finalization f)) = reported_asks n f (at_hand n f.payload)
told_asks n (message_told t (hint_finalized h peers)) = hint_asks n.processed h peers (value_at n.certs.held h)
told_asks n (message_told t (hint_notarized r d)) = notarized_hint_asks n r (at_hand n d)
told_asks n (message_told t (subscribe_digest d fallback)) = fallback_asks n d fallback (at_hand_digest n d)
told_asks n (message_told t (subscribe_commitment c fallback)) = fallback_asks n c fallback (at_hand n c)
told_asks n _ = []

-- what an event asks, but for repair
abbrev pub own_asks : Config → Node → Event → Effect → List Call
own_asks config n e no_floor = retire_asks config.epochs n.certs.held n.cutoff (drained_blocks n e) ++ told_asks n e ++ raise_asks n.cutoff (met_cutoffs n (met_finalization n e) no_floor)
own_asks config n e (awaits_floor a) = want_asks n.cutoff a.round a.commitment
own_asks config n e (applies_floor r b) = (if is_above n b then retain (above_height (b.height - 1)) ∷ [] else []) ++ raise_asks n.cutoff (floor_cutoffs config n (applies_floor r b))

-- REPAIR, by the blocks that are held and how a block at hand is looked up

-- a missing height from s on that lies below a held one
abbrev pub IsGapIn : List (At Block) → ℕ → ℕ → Type 0
IsGapIn held s h = (s ≤ h) × IsFalse (has_height held h) × (k : ℕ) × (h < k) × IsTrue (has_height held k)

-- the finalization of this height is asked for
abbrev pub AsksHeight : List Call → ℕ → Type 0
AsksHeight asks h = Contains asks (fetch (finalized_key h) (finalized_by_height h) None)

-- b is held right above the lowest gap: no block is held between any missing height below it and b
abbrev pub IsUpperEndIn : List (At Block) → ℕ → Block → Type 0
IsUpperEndIn held s b =
    IsGapIn held s (b.height - 1) × (value_at held b.height ≡ Some b)
    × ((h k : ℕ) → IsGapIn held s h → h < k → k < b.height → IsFalse (has_height held k))

-- the parent that b names is asked for by commitment and height, or is at hand with another height
abbrev pub AsksParentOf : (List ℕ → Option Block) → List Call → Block → Type 0
AsksParentOf find asks b =
    ((find b.parent_commitment ≡ None) × Contains asks (fetch (block_key b.parent_commitment) (finalized_by_height (b.height - 1)) None))
    ⊎ ((parent : Block) × (find b.parent_commitment ≡ Some parent) × (parent.height + 1 ≡ b.height → ⊥))

-- one of the lowest missing heights: fewer than so many are missing below it
abbrev pub IsLowGapIn : ℕ → List (At Block) → ℕ → ℕ → Type 0
IsLowGapIn most held s h =
    IsGapIn held s h × ((below : List ℕ) → AllPairs (λ j k. j ≢ k) below → AllByRecursion (λ k. IsGapIn held s k × (k < h)) below → length below < most)

-- the newest certificate's block, or the parent that the lowest gap's upper end names
abbrev pub IsRepairBlockOf : (List ℕ → Option Block) → List (At Block) → List (At Finalization) → ℕ → List ℕ → ℕ → Type 0
IsRepairBlockOf find held certs s c h =
    (find c ≡ None)
    × (((b : Block) × IsUpperEndIn held s b × (c ≡ b.parent_commitment) × (h + 1 ≡ b.height))
    ⊎ ((f : Finalization) × (value_at certs h ≡ Some f) × (c ≡ f.payload) × ((k : ℕ) → IsTrue (has_height held k) → k < h)))

-- what a pass may ask: nothing else, and no retain
abbrev pub IsRepairAskOf : ℕ → (List ℕ → Option Block) → List (At Block) → List (At Finalization) → ℕ → Call → Type 0
IsRepairAskOf most find held certs s (fetch (finalized_key h) annotation targets) = (annotation ≡ finalized_by_height h) × (targets ≡ None) × IsLowGapIn most held s h
IsRepairAskOf most find held certs s (fetch (block_key c) annotation targets) = (targets ≡ None) × (h : ℕ) × (annotation ≡ finalized_by_height h) × IsRepairBlockOf find held certs s c h
IsRepairAskOf most find held certs s (fetch (notarized_key r) annotation targets) = ⊥
IsRepairAskOf most find held certs s (retain keep) = ⊥

abbrev pub is_height_fetch : Call → Bool
is_height_fetch (fetch (finalized_key h) annotation targets) = true
is_height_fetch _ = false

-- What a pass asks for, of what is held after it, where the processed height is this.
pub record IsRepaired (most : ℕ) (find : List ℕ → Option Block) (processed : ℕ) (held : List (At Block)) (certs : List (At Finalization)) (asks : List Call) : Type 0 where
  -- the lowest missing heights: one with fewer than `most` missing below it is asked for, and no more are
  pub heights : (h : ℕ) (below : List ℕ) → IsGapIn held (processed + 1) h → ((k : ℕ) → IsGapIn held (processed + 1) k → k < h → Contains below k) → length below < most → AsksHeight asks h
  pub at_most : count_by is_height_fetch asks ≤ most
  pub only : AllByRecursion (IsRepairAskOf most find held certs (processed + 1)) asks
  pub parent : (b : Block) → IsUpperEndIn held (processed + 1) b → AsksParentOf find asks b
  -- the newest certificate above the processed height and every held block has its block stored or asked for
  pub newest_block : (h : ℕ) (f : Finalization) → value_at certs h ≡ Some f → processed < h → ((k : ℕ) → IsTrue (has_height certs k) → k ≤ h) → ((k : ℕ) → IsTrue (has_height held k) → k ≤ h) → IsTrue (has_height held h) ⊎ Contains asks (fetch (block_key f.payload) (finalized_by_height h) None)

-- of a node
abbrev pub IsGap : Node → ℕ → ℕ → Type 0
IsGap n s h = IsGapIn n.blocks.held s h

abbrev pub IsRepairAsk : Config → Node → Call → Type 0
IsRepairAsk config n call = IsRepairAskOf config.max_repair (at_hand n) n.blocks.held n.certs.held (height_of n.processed + 1) call

abbrev pub AsksParent : Node → List Call → Block → Type 0
AsksParent n asks b = AsksParentOf (at_hand n) asks b

-- What a pass asks for, of the node after it.
abbrev pub Repaired : Config → Node → List Call → Type 0
Repaired config n asks = IsRepaired config.max_repair (at_hand n) (height_of n.processed) n.blocks.held n.certs.held asks

abbrev pub awaits_no_more : Option Awaited → Option Awaited → Bool
awaits_no_more (Some a) None = true
awaits_no_more _ _ = false

-- a life that begins and a reported finalization may repair
abbrev pub may_repair : Event → Bool
may_repair (life_started f) = true
may_repair (message_told t (report_finalization f)) = true
may_repair _ = false

-- what a pass asks for that is cut: the finalization of some height, or a block of the chain by its height
abbrev pub IsRepairFetch : Chain → Call → Type 0
IsRepairFetch chain (fetch (finalized_key h) annotation targets) = (annotation ≡ finalized_by_height h) × (targets ≡ None)
IsRepairFetch chain (fetch (block_key c) annotation targets) = (targets ≡ None) × (h : ℕ) × (annotation ≡ finalized_by_height h) × (option_map (λ b. b.commitment) (slice_get chain.blocks h) ≡ Some c)
IsRepairFetch chain (fetch (notarized_key r) annotation targets) = ⊥
IsRepairFetch chain (retain keep) = ⊥

-- an event with a repair pass: the start, a finalization stored above the processed height, the end of
-- a `serve`, an applied or released floor
abbrev pub is_pass : Node → Event → Effect → Node → Bool
is_pass n (life_started f) fx n' = true
is_pass n serve_ended fx n' = true
is_pass n e (applies_floor r b) n' = true
is_pass n (message_told t (report_finalization f)) fx n' = nat_lt 0 (length (own_writes n (storing_of n (message_told t (report_finalization f))) fx)) || awaits_no_more n.awaited n'.awaited
is_pass n e fx n' = awaits_no_more n.awaited n'.awaited

-- an opening that applies its floor repairs twice: as the floor is applied, and at its end
abbrev pub repairs_twice : Event → Effect → Bool
repairs_twice (life_started f) (applies_floor r b) = true
repairs_twice e fx = false

-- a step's asks are its own and then those of its passes; no pass runs while a floor is awaited
pub record Passes (config : Config) (n : Node) (e : Event) (fx : Effect) (n' : Node) (more : List Call) : Type 0 where
  pub first : List Call
  pub second : List Call
  pub split : more ≡ first ++ second
  pub idle : IsFalse (is_pass n e fx n') ⊎ IsSome n'.awaited → more ≡ []
  pub once : IsFalse (repairs_twice e fx) → first ≡ []
  pub repaired_first : IsTrue (repairs_twice e fx) → n'.awaited ≡ None → Repaired config n' first
  pub repaired : IsTrue (is_pass n e fx n') → n'.awaited ≡ None → Repaired config n' second
