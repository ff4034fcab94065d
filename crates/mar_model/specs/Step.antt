-- One step of a node: what it reports, and the node after it.
use Rattle.std.specs.List.{AllByRecursion, filter_map, list_any}
use Rattle.std.specs.Prelude.{Bool, Contains, IfSome, IsFalse, IsSome, IsTrue, List, None, Some, [], count_by, drop, if◌then◌else◌, length, map, max, nat_lt, not, option_map, option_to_list, true, ℕ, ⊤, ◌&&◌, ◌++◌, ◌+◌, ◌-◌, ◌<◌, ◌==◌, ◌∷◌, ◌≡◌, ◌≤◌, ◌⊎◌}
use Rattle.mar_types.specs.Round.{Round}
use Rattle.mar_cert.specs.Block.{Block}
use Rattle.mar_cert.specs.Finalization.{Finalization}
use Rattle.mar_key.specs.Processed.{first_unprocessed, height_of}
use Rattle.mar_model.specs.Chain.{Chain, IsBlockAt, IsFinal, digest_at}
use Rattle.mar_store.specs.Kept.{At, Kept, has_height, value_at}
use Rattle.mar_key.specs.Keys.{Call}
use Rattle.mar_model.specs.Config.{Config}
use Rattle.mar_model.specs.Acks.{Outstanding, mark_waiting}
use Rattle.mar_model.specs.Node.{IsGood, Node, OpenSync, Rest, write_count}
use Rattle.mar_gate.specs.Writing.{position_of, without_sync}
use Rattle.mar_model.specs.Cached.{Cached, cached_block, cached_finalization}
use Rattle.mar_model.specs.Event.{Effect, Event, Storing, applies_floor, awaited_after, awaits_floor, block_buffered, blocks_from, brought_block, certs_from, cutoff_after, effect_of, finalization_for, is_above, is_query, kept_blocks, life_started, no_floor, own_writes, processed_after, storing_of, sync_finished, told_finalization}
use Rattle.mar_model.specs.Cache.{AdvancesCache, MayBeCached, entries_with_puts, started_syncs}
use Rattle.mar_model.specs.Faults.{event_fault}
use Rattle.mar_model.specs.Answers.{Sent, TicketAnswer, answers_of, certified_after, is_known, sends_of, subscriptions_after}
use Rattle.mar_model.specs.Requests.{Passes, awaits_no_more, is_pass, own_asks}

-- what the application is told
pub data Report : Type 0 where
  new_tip : Round → ℕ → List ℕ → Report
  handed_over : ℕ → Block → Report  -- under this ack ticket

-- what an event makes, each list in the order in which it was made
pub record Made : Type 0 where
  pub reports : List Report
  pub asks : List Call
  pub sends : List Sent
  pub answers : List TicketAnswer

abbrev pub nothing_made : Made
nothing_made = record { reports = []; asks = []; sends = []; answers = [] }

-- one after the other
abbrev pub joined_made : Made → Made → Made
joined_made a b = record { reports = a.reports ++ b.reports; asks = a.asks ++ b.asks; sends = a.sends ++ b.sends; answers = a.answers ++ b.answers }

-- the second list begins with the first
abbrev pub IsFront : {T : Type 0} → List T → List T → Type 0
IsFront front whole = (rest : _) × (whole ≡ front ++ rest)

-- a block that was handed over
pub record HandedBlock : Type 0 where
  pub ticket : ℕ
  pub block : Block

-- the blocks that were handed over, in order
abbrev pub handed_blocks : List Report → List HandedBlock
handed_blocks [] = []
handed_blocks (new_tip r h d ∷ reports) = handed_blocks reports
handed_blocks (handed_over t b ∷ reports) = record { ticket = t; block = b } ∷ handed_blocks reports

abbrev pub outstanding_of : HandedBlock → Outstanding
outstanding_of x = record { ticket = x.ticket; height = x.block.height; mark = mark_waiting }

-- from this ticket and height on, where this is said of each height and block
abbrev pub HandedWhere : (ℕ → Block → Type 0) → ℕ → ℕ → List HandedBlock → Type 0
HandedWhere Is ticket height [] = ⊤
HandedWhere Is ticket height (x ∷ xs) = (x.ticket ≡ ticket) × (x.block.height ≡ height) × Is height x.block × HandedWhere Is (ticket + 1) (height + 1) xs

-- each height is sure
abbrev pub HandedFrom : List (At Block) → ℕ → ℕ → List HandedBlock → Type 0
HandedFrom sure = HandedWhere (λ h b. IsTrue (has_height sure h))

-- each block is the held one at its height
abbrev pub HeldFrom : List (At Block) → ℕ → ℕ → List HandedBlock → Type 0
HeldFrom held = HandedWhere (λ h b. value_at held h ≡ Some b)

-- each is the chain's block at its height, and that block is sure
abbrev pub AreHandedOf : Chain → List (At Block) → List HandedBlock → Type 0
AreHandedOf chain sure = AllByRecursion (λ x. IsBlockAt chain x.block.height x.block × (value_at sure x.block.height ≡ Some x.block))

-- What an event hands over: the next blocks, under the next tickets, each sure; they stand behind what is kept.
pub record HandsOver (n : Node) (kept : List Outstanding) (reports : List Report) (n' : Node) : Type 0 where
  pub in_order : HandedFrom n'.blocks.sure n.next_ack (first_unprocessed n'.processed + length kept) (handed_blocks reports)
  pub counted : n'.next_ack ≡ n.next_ack + length (handed_blocks reports)
  pub out : n'.out ≡ kept ++ map outstanding_of (handed_blocks reports)
  -- below each write that is uncovered after the event
  pub below_barrier : AllByRecursion (λ x. AllByRecursion (λ h. x.block.height < h) n'.uncovered) (handed_blocks reports)

-- Held values at or above the bound stay, and what was sure and is still held is sure.
pub record KeepsFrom {T : Type 0} (bound : ℕ) (old new : Kept (At T)) : Type 0 where
  pub held : (h : ℕ) (v : T) → bound ≤ h → value_at old.held h ≡ Some v → value_at new.held h ≡ Some v
  pub sure : (h : ℕ) (v : T) → value_at old.sure h ≡ Some v → IsTrue (has_height new.held h) → value_at new.sure h ≡ Some v

-- the applied floor's own height
abbrev pub floor_height : Effect → List ℕ
floor_height no_floor = []
floor_height (applies_floor r b) = b.height ∷ []
floor_height (awaits_floor a) = []

-- a height above the processed one that entered held in this event and is not its own write: by repair
abbrev pub is_repaired : Node → List ℕ → Node → ℕ → Bool
is_repaired n own n' h = nat_lt (height_of n'.processed) h && (has_height n'.blocks.held h && (not (has_height n.blocks.held h) && not (list_any (λ k. k == h) own)))

-- how many writes the finished sync covers
abbrev pub finished_position : List OpenSync → Event → ℕ
finished_position syncs (sync_finished t) = position_of syncs t
finished_position syncs _ = 0

abbrev pub without_finished : Event → List OpenSync → List OpenSync
without_finished (sync_finished t) syncs = without_sync t syncs
without_finished _ syncs = syncs

-- an applied floor above the processed height syncs both archives, which covers every write
abbrev pub synced_by_floor : Node → Effect → ℕ
synced_by_floor n (applies_floor r b) = if is_above n b then write_count n else 0
synced_by_floor n _ = 0

-- what a repair may store: blocks of the buffer and of the cache, which takes peer bytes only where they are Complete
abbrev pub repairs_from : Config → Node → Event → Effect → Node → List Block
repairs_from config n e fx n' = n.buffer ++ filter_map cached_block (entries_with_puts config n n'.cache.held e fx)

-- The writes past the covered ones grow by the event's own and by repair's, in order; covered rises to
-- the finished ticket's position and to the writes that a blocking sync of both archives found, and
-- what is covered then leaves the list.
pub record Writes (n : Node) (e : Event) (fx : Effect) (n' : Node) : Type 0 where
  pub repaired : List ℕ
  pub by_repair : (h : ℕ) → list_any (λ k. k == h) repaired ≡ is_repaired n (own_writes n (storing_of n e) fx ++ floor_height fx) n' h
  pub each_once : (h : ℕ) → count_by (λ k. k == h) repaired ≤ 1
  pub blocking : ℕ
  pub within : blocking ≤ write_count n + length (own_writes n (storing_of n e) fx ++ repaired)
  pub at_least : synced_by_floor n fx ≤ blocking
  pub covered : n'.covered ≡ max (max n.covered (finished_position n.syncs e)) blocking
  pub uncovered : n'.uncovered ≡ drop (n'.covered - n.covered) (n.uncovered ++ (own_writes n (storing_of n e) fx ++ repaired))
  pub syncs : n'.syncs ≡ without_finished e n.syncs

-- What repair stored was in the buffer or the cache, and its cached finalization is stored with it.
pub record RepairsFromHand (config : Config) (n : Node) (e : Event) (fx : Effect) (repaired : List ℕ) (n' : Node) : Type 0 where
  pub at_hand : (h : ℕ) (b : Block) → IsTrue (list_any (λ k. k == h) repaired) → value_at n'.blocks.held h ≡ Some b → Contains (repairs_from config n e fx n') b
  pub with_finalization : (h : ℕ) (b : Block) → IsTrue (list_any (λ k. k == h) repaired) → value_at n'.blocks.held h ≡ Some b → IsSome (finalization_for n' b) → IsTrue (has_height n'.certs.held h)

-- an event may store this block: it brings it, or it is in the buffer or the cache
abbrev pub IsBlockFrom : Node → Event → At Block → Type 0
IsBlockFrom n e x = Contains (option_to_list (brought_block n e) ++ (n.buffer ++ filter_map cached_block n.cache.held)) x.value

-- an event may store this finalization: its own, or a cached one
abbrev pub IsCertFrom : Node → Event → At Finalization → Type 0
IsCertFrom n e x = Contains (option_to_list (told_finalization n e) ++ filter_map cached_finalization n.cache.held) x.value

-- What enters the held certificates is the event's finalization or a cached one, and where none stood at the height of
-- what the event stores it is the event's.
pub record CertificatesFrom (n : Node) (e : Event) (n' : Node) : Type 0 where
  pub entered : (h : ℕ) (f : Finalization) → value_at n'.certs.held h ≡ Some f → (value_at n.certs.held h ≡ Some f) ⊎ IsCertFrom n e (record { height = h; value = f })
  pub own : (s : Storing) (f : Finalization) → storing_of n e ≡ Some s → told_finalization n e ≡ Some f → value_at n.certs.held s.height ≡ None → (value_at n'.certs.held s.height ≡ None) ⊎ (value_at n'.certs.held s.height ≡ Some f)

-- the heights at which an event may store: its own and its floor's
abbrev pub own_heights : Node → Event → Effect → List ℕ
own_heights n e fx = option_to_list (option_map (λ s. s.height) (storing_of n e)) ++ floor_height fx

-- Blocks and certificates enter the archives at these heights alone.
pub record EntersAt (heights : List ℕ) (n n' : Node) : Type 0 where
  pub blocks : (h : ℕ) → IsTrue (has_height n'.blocks.held h) → IsTrue (has_height n.blocks.held h) ⊎ Contains heights h
  pub certs : (h : ℕ) → IsTrue (has_height n'.certs.held h) → IsTrue (has_height n.certs.held h) ⊎ Contains heights h

-- a sync of both archives blocks at a start, and where a floor is applied or released
abbrev pub is_blocking : Node → Event → Effect → Node → Bool
is_blocking n (life_started f) fx n' = true
is_blocking n e (applies_floor r b) n' = true
is_blocking n e fx n' = awaits_no_more n.awaited n'.awaited

-- tips ascend above this one; the last is left
abbrev pub TipsFrom : ℕ → List Report → ℕ → Type 0
TipsFrom tip [] last = last ≡ tip
TipsFrom tip (new_tip r h d ∷ reports) last = (tip < h) × TipsFrom h reports last
TipsFrom tip (handed_over t b ∷ reports) last = TipsFrom tip reports last

-- each tip is a finalized block's
abbrev pub AreTipsOf : Chain → List Report → Type 0
AreTipsOf chain [] = ⊤
AreTipsOf chain (new_tip r h d ∷ reports) = IsFinal chain r h × (digest_at chain h ≡ Some d) × AreTipsOf chain reports
AreTipsOf chain (handed_over t b ∷ reports) = AreTipsOf chain reports

-- What an event stores is held afterwards, or stands at or below the processed height.
pub record IsStored (n' : Node) (s : Storing) : Type 0 where
  pub block : IsTrue (has_height n'.blocks.held s.height) ⊎ (s.height ≤ height_of n'.processed)
  pub certificate : IsTrue s.with_certificate → height_of n'.processed < s.height → IsTrue (has_height n'.certs.held s.height)

-- A storing at or below the processed height leaves a certificate beside a held block.
abbrev pub IsStoredLate : Node → Effect → Node → Storing → Type 0
IsStoredLate n no_floor n' s = IsTrue s.with_certificate → s.height ≤ height_of n.processed → IsTrue (has_height n.blocks.held s.height) → IsTrue (has_height n'.certs.held s.height)
IsStoredLate n fx n' s = ⊤

-- An applied floor above the processed height is stored, block and certificate.
abbrev pub IsFloorStored : Node → Effect → Node → Type 0
IsFloorStored n (applies_floor r b) n' = IsTrue (is_above n b) → IsTrue (has_height n'.blocks.held b.height) × IsTrue (has_height n'.certs.held b.height)
IsFloorStored n _ n' = ⊤

-- What stands beside: told by the lists that were made, or untouched by a step. Certified commitments
-- are compared by look-ups.
pub record Beside (config : Config) (n : Node) (e : Event) (fx : Effect) (made : Made) (n' : Node) : Type 0 where
  pub more : List Call  -- by repair
  pub asks : made.asks ≡ own_asks config n e fx ++ more
  pub passes : Passes config n e fx n' more
  pub sends : made.sends ≡ sends_of n e
  pub answers : made.answers ≡ answers_of config n n'.lowest e fx
  pub subscriptions : n'.subscriptions ≡ subscriptions_after n e fx
  pub certified : (h : ℕ) (c : List ℕ) → is_known n'.certified h c ≡ is_known (certified_after n e fx n'.tip) h c
  pub next_sync : n'.next_sync ≡ n.next_sync + length (started_syncs n n' e)
  pub untouched : n' ≡ record n' { buffer = n.buffer; buffer_closed = n.buffer_closed; unanswered = n.unanswered; peers = n.peers; inbox = n.inbox; next_answer = n.next_answer }

-- One event, whose effect on a floor is `fx`.
pub record AdvancesBy (config : Config) (chain : Chain) (n : Node) (e : Event) (fx : Effect) (made : Made) (n' : Node) : Type 0 where
  pub hands : HandsOver n (kept_blocks n e fx) made.reports n'
  pub hands_chain : AreHandedOf chain n'.blocks.sure (handed_blocks made.reports)
  pub processed : n'.processed ≡ processed_after n e fx
  pub cutoff : n'.cutoff ≡ cutoff_after config n e fx
  pub blocks : KeepsFrom (blocks_from n e fx) n.blocks n'.blocks
  pub certs : KeepsFrom (certs_from n e fx) n.certs n'.certs
  pub may_blocks : (x : At Block) → Contains n'.blocks.may x → Contains n.blocks.may x ⊎ IsBlockFrom n e x
  pub may_certs : (x : At Finalization) → Contains n'.certs.may x → Contains n.certs.may x ⊎ IsCertFrom n e x
  pub certificates : CertificatesFrom n e n'
  pub writes : Writes n e fx n'
  pub repairs : RepairsFromHand config n e fx writes.repaired n'
  pub unrepaired : IsFalse (is_pass n e fx n') → writes.repaired ≡ []
  pub unblocked : IsFalse (is_blocking n e fx n') → writes.blocking ≡ 0
  pub enters : EntersAt (own_heights n e fx ++ writes.repaired) n n'
  pub tips : TipsFrom n.tip made.reports n'.tip
  pub tips_chain : AreTipsOf chain made.reports
  pub awaited : n'.awaited ≡ awaited_after n fx n'.cutoff
  pub cache : AdvancesCache config n e fx n'
  pub may_cached : (x : Cached) → Contains n'.cache.may x → MayBeCached config n e fx x
  pub stored : IfSome (storing_of n e) (IsStored n')
  pub stored_late : IfSome (storing_of n e) (IsStoredLate n fx n')
  pub floor_stored : IsFloorStored n fx n'
  pub query : IsTrue (is_query e) → n' ≡ n
  pub no_fault : event_fault config n e ≡ None
  pub beside : Beside config n e fx made n'

-- One event, or one answer of a `serve`.
abbrev pub Advances : Config → Chain → Node → Event → Made → Node → Type 0
Advances config chain n e made n' = AdvancesBy config chain n e (effect_of config n e) made n'

-- one event after another
abbrev pub AdvancesAll : Config → Chain → Node → List Event → Made → Node → Type 0
AdvancesAll config chain n [] made n' = (made ≡ nothing_made) × (n' ≡ n)
AdvancesAll config chain n (e ∷ []) made n' = Advances config chain n e made n'
AdvancesAll config chain n (e ∷ d ∷ events) made n' =
    (mid : Node) × (first others : Made) × (made ≡ joined_made first others) × Advances config chain n e first mid × AdvancesAll config chain mid (d ∷ events) others n'

-- one ticket at the length of the writes, where they are longer than they were and than what is covered
abbrev pub with_sync : ℕ → Node → Node
with_sync before n =
    if nat_lt before (write_count n) && nat_lt 0 (length n.uncovered)
    then record n { syncs = n.syncs ++ record { ticket = n.next_sync; position = write_count n } ∷ []; next_sync = n.next_sync + 1 }
    else n

-- A step: its events, then the ticket; it ends good and rests. It has one event, but for a `serve`,
-- which has its answers and then its end.
pub record Steps (config : Config) (chain : Chain) (n : Node) (events : List Event) (made : Made) (n' : Node) : Type 0 where
  pub unticketed : Node
  pub advances : AdvancesAll config chain n events made unticketed
  pub ticket : n' ≡ with_sync (write_count n) unticketed
  pub rests : Rest config.window n'
  pub good : IsGood config chain n'

-- What a step may ask of the node before it: that it is good, without the block that was just put in its
-- buffer where that is the event.
abbrev pub IsGoodBefore : Config → Chain → Node → Event → Type 0
IsGoodBefore config chain n (block_buffered b) = (buffer : List Block) × (n.buffer ≡ buffer ++ b ∷ []) × IsGood config chain (record n { buffer = buffer })
IsGoodBefore config chain n e = IsGood config chain n
