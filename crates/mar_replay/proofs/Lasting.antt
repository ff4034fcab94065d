-- A life in which nothing is dropped ends in no fault that its events call for, and its tickets last for all lines of a script.
use Rattle.std.proofs.Common.{Bool, List, None, Option, Some, [], ap, arith, eqb-true, false, if◌then◌else◌, length, map, nat_lt, option_map, refl, subst, sym, true, ℕ, ◌&&◌, ◌*◌, ◌++◌, ◌+◌, ◌-◌, ◌<◌, ◌==◌, ◌^◌, ◌∷◌, ◌≡◌, ◌≤◌}
use Rattle.std.specs.List.{AllByRecursion}
use Rattle.mar_cert.specs.Block.{Block}
use Rattle.mar_cert.specs.Finalization.{Finalization}
use Rattle.mar_model.specs.Messages.{Message, report_finalization, report_notarization, set_floor}
use Rattle.mar_key.specs.Processed.{height_of}
use Rattle.mar_model.specs.Acks.{Mark, Outstanding, after_given, is_given, is_unmarked, mark_dropped, mark_given, mark_waiting, with_mark}
use Rattle.mar_store.proofs.Lookups.{AllByRecursion-append}
use Rattle.mar_model.specs.Chain.{Chain}
use Rattle.mar_model.specs.Config.{Config}
use Rattle.mar_model.specs.Event.{Event, ack_dropped, ack_marked, effect_of, kept_blocks, life_started, message_told, met_of, no_floor, sync_finished, undrained_blocks}
use Rattle.mar_model.specs.Faults.{Fault, dropped_ack, dropped_first, event_fault, height_limit, last_height, storing_fault}
use Rattle.mar_model.specs.Held.{Seen}
use Rattle.mar_model.specs.Moves.{syncs_at_most}
use Rattle.mar_model.specs.Node.{IsFinalized, Node, at_hand, write_count}
use Rattle.mar_model.specs.Promise.{IsLawfulStep, ReportsFinalized, Waiting, node_of}
use Rattle.mar_model.specs.Step.{HandedBlock, HandsOver, Made, Steps, handed_blocks, outstanding_of, with_sync}
use Rattle.mar_model.proofs.FinalizationEvent.{not_last}
use Rattle.mar_script.specs.Plays.{max_window, most_turns}
use Rattle.mar_script.specs.Run.{IsExcusedFault}
use Rattle.mar_script.specs.Script.{IsBuiltMessage}

-- TICKETS

-- a line gives a window of them at most
pub tickets_after : (k before after window : ℕ) → before ≤ max_window * k → window ≤ max_window → after ≤ before + window → after ≤ max_window * (k + 1)
tickets_after k before after window low narrow given = omega (arith, low, narrow, given)

-- and two of syncs
pub syncs_after : (k before after most : ℕ) → before ≤ 2 * k → most ≤ 2 → after ≤ before + most → after ≤ 2 * (k + 1)
syncs_after k before after most low few given = omega (arith, low, few, given)

-- they last for all lines that a script may have
pub tickets_last : (k before window : ℕ) → before ≤ max_window * k → k ≤ most_turns → window ≤ max_window → 2 ^ 64 - 1 ≤ before + window → ⊥
tickets_last k before window low few narrow near = omega (arith, low, few, narrow, near)

-- nor can they when callers are answered
pub answers_last : (k next : ℕ) → next ≤ k → k ≤ most_turns → next < 2 ^ 64 - 1
answers_last k next low few = omega (arith, low, few)

pub syncs_last : (k before most : ℕ) → before ≤ 2 * k → k ≤ most_turns → most ≤ 2 → 2 ^ 64 ≤ before + most → ⊥
syncs_last k before most low few at_most near = omega (arith, low, few, at_most, near)

-- BLOCKS

-- no block of these was dropped
abbrev pub Undropped : List Outstanding → Type 0
Undropped = AllByRecursion (λ a. a.mark ≡ mark_dropped → ⊥)

undropped-marked : (t : ℕ) (m : Mark) (out : List Outstanding) → (m ≡ mark_dropped → ⊥) → Undropped out → Undropped (with_mark t m out)
undropped-marked t m [] other all = tt
undropped-marked t m (a ∷ out) other all = (by (is_unmarked t a), undropped-marked t m out other all.1)
  where
    by : (b : Bool) → (if b then record a { mark = m } else a).mark ≡ mark_dropped → ⊥
    by true is = other is
    by false is = all.0 is

undropped-after : (out : List Outstanding) → Undropped out → Undropped (after_given out)
undropped-after [] all = tt
undropped-after (a ∷ out) all = by (undropped-after out all.1) (is_given a.mark)
  where
    by : Undropped (after_given out) → (b : Bool) → Undropped (if b then after_given out else a ∷ out)
    by others true = others
    by others false = all

undropped-handed : (xs : List HandedBlock) → Undropped (map outstanding_of xs)
undropped-handed [] = tt
undropped-handed (x ∷ xs) = ((λ is. absurd cc), undropped-handed xs)

-- behind what an event kept stand the blocks that it handed over
undropped-kept : (n : Node) (e : Event) (made : Made) (n' : Node) → HandsOver n (undrained_blocks n e) made.reports n' → Undropped (undrained_blocks n e) → Undropped n'.out
undropped-kept n e made n' hands undropped =
    subst Undropped (sym hands.out) (AllByRecursion-append (λ a. a.mark ≡ mark_dropped → ⊥) (undrained_blocks n e) (map outstanding_of (handed_blocks made.reports)) undropped (undropped-handed (handed_blocks made.reports)))

-- a ticket for a sync changes none of them
undropped-with_sync : (before : ℕ) (n : Node) → Undropped n.out → Undropped (with_sync before n).out
undropped-with_sync before n undropped = by (nat_lt before (write_count n)) (nat_lt 0 (length n.uncovered))
  where
    by : (b c : Bool) → Undropped (if b && c then record n { syncs = n.syncs ++ record { ticket = n.next_sync; position = write_count n } ∷ []; next_sync = n.next_sync + 1 } else n).out
    by true true = undropped
    by true false = undropped
    by false c = undropped

-- an event of a life that has begun: a message is told that lines tell, an acknowledgement given or
-- dropped, or a sync finishes
pub data IsPlain : Event → Type 0 where
  tells : (t : Option ℕ) (m : Message) → IsBuiltMessage m → IsPlain (message_told t m)
  marks : (t : ℕ) (m : Mark) → IsPlain (ack_marked t m)
  finishes : (t : ℕ) → IsPlain (sync_finished t)

-- it starts two syncs at most
told_syncs : (t : Option ℕ) (m : Message) → syncs_at_most (message_told t m) ≤ 2
told_syncs t (report_notarization f) = omega arith
told_syncs t m = omega arith

pub plain_syncs : (e : Event) → IsPlain e → syncs_at_most e ≤ 2
plain_syncs e (tells t m built) = told_syncs t m
plain_syncs e (marks t m) = omega arith
plain_syncs e (finishes t) = omega arith

-- only a reported finalization is one
pub told_reports : (chain : Chain) (t : Option ℕ) (m : Message) → ((f : Finalization) → m ≡ report_finalization f → IsFinalized chain f.round f.payload) → ReportsFinalized chain (message_told t m)
told_reports chain t (report_finalization f) lawful = lawful f refl
told_reports chain t m lawful = tt

not_at_limit : (above : Bool) (h : ℕ) → (h ≡ 2 ^ 64 - 1 → ⊥) → (if above && h == last_height then Some (height_limit h) else None) ≡ None
not_at_limit false h not_last = refl
not_at_limit true h not_last = by (h == last_height) refl
  where
    by : (b : Bool) → (h == last_height) ≡ b → (if b then Some (height_limit h) else None) ≡ None
    by true is = absurd (not_last (eqb-true h last_height is))
    by false is = refl

-- nothing is due that isn't
pub none_due : (o : Option Fault) (f : Fault) → o ≡ None → o ≡ Some f → ⊥
none_due o f p q = absurd cc

-- it drops no acknowledgement
abbrev pub Spares : Event → Type 0
Spares e = (t : ℕ) → e ≡ ack_dropped t → ⊥

-- a dropped block is the only value that ends the life in one
dropped_excused : (out : List Outstanding) (fault : Fault) → dropped_first out ≡ Some fault → IsExcusedFault fault
dropped_excused [] fault is = absurd cc
dropped_excused (o ∷ out) fault is = by o.mark is
  where
    by : (m : Mark) → dropped_first (record o { mark = m } ∷ out) ≡ Some fault → IsExcusedFault fault
    by mark_waiting due = absurd cc
    by mark_given due = absurd cc
    by mark_dropped due = subst IsExcusedFault (inside due) tt
      where
        inside : ◌≡◌ {A = Option Fault} (Some (dropped_ack o.height)) (Some fault) → dropped_ack o.height ≡ fault
        inside p = cc

module _ {P E : Type 0} (config : Config) (chain : Chain) (a : Seen P E) (buffer : List Block) (waiting : Waiting) where
  abbrev node : Node
  node = node_of a buffer waiting

  pub undropped-start : (made : Made) (n' : Node) → Steps config chain node (life_started None ∷ []) made n' → Undropped node.out → Undropped n'.out
  undropped-start made n' steps undropped = subst (λ m. Undropped m.out) (sym steps.ticket) (undropped-with_sync (write_count node) steps.unticketed (undropped-kept node (life_started None) made steps.unticketed steps.advances.hands undropped))

  -- a message that lines tell touches no floor
  no_effect : (t : Option ℕ) (m : Message) → IsBuiltMessage m → effect_of config node (message_told t m) ≡ no_floor
  no_effect t (set_floor f) built = absurd built
  no_effect t m built = refl

  -- where it drops none, none that stays was dropped
  left_undropped : (t : ℕ) (m : Mark) → Spares (ack_marked t m) → Undropped a.life.out → Undropped (after_given (with_mark t m a.life.out))
  left_undropped t m spares undropped = undropped-after (with_mark t m a.life.out) (undropped-marked t m a.life.out (λ is. spares t (ap (ack_marked t) is)) undropped)

  pub undropped-step : (e : Event) → IsPlain e → Spares e → (made : Made) (n' : Node) → Steps config chain node (e ∷ []) made n' → Undropped node.out → Undropped n'.out
  undropped-step e (tells t m built) spares made n' steps undropped = subst (λ x. Undropped x.out) (sym steps.ticket) (undropped-with_sync (write_count node) steps.unticketed
      (undropped-kept node (message_told t m) made steps.unticketed (subst (λ fx. HandsOver node (kept_blocks node (message_told t m) fx) made.reports steps.unticketed) (no_effect t m built) steps.advances.hands) undropped))
  undropped-step e (marks t m) spares made n' steps undropped = subst (λ x. Undropped x.out) (sym steps.ticket) (undropped-with_sync (write_count node) steps.unticketed
      (undropped-kept node (ack_marked t m) made steps.unticketed steps.advances.hands (left_undropped t m spares undropped)))
  undropped-step e (finishes t) spares made n' steps undropped = subst (λ m. Undropped m.out) (sym steps.ticket) (undropped-with_sync (write_count node) steps.unticketed (undropped-kept node (sync_finished t) made steps.unticketed steps.advances.hands undropped))

  -- nor ends the life, but for a finalization that stores its block at the last height
  told_fault : (t : Option ℕ) (m : Message) → IsBuiltMessage m → IsLawfulStep config chain node (message_told t m ∷ []) → event_fault config node (message_told t m) ≡ None
  told_fault t (set_floor f) built lawful = absurd built
  told_fault t (report_finalization f) built lawful = by (at_hand node f.payload) refl
    where
      by : (o : Option Block) → at_hand node f.payload ≡ o → storing_fault node (option_map (λ m. record { height = m.block.height; with_certificate = true }) (option_map (λ b. met_of b f) o)) no_floor ≡ None
      by None is = refl
      by (Some b) is = not_at_limit (nat_lt (height_of a.held.processed) b.height) b.height (not_last config chain a f buffer waiting lawful.lawful lawful.one lawful.good lawful.reported.0 b is)
  told_fault t m built lawful = refl

  -- one that drops no block, behind which none was dropped, ends the life in no fault by value
  pub no_event_fault : (e : Event) → IsPlain e → Spares e → IsLawfulStep config chain node (e ∷ []) → Undropped node.out → event_fault config node e ≡ None
  no_event_fault e (tells t m built) spares lawful undropped = told_fault t m built lawful
  no_event_fault e (finishes t) spares lawful undropped = refl
  no_event_fault e (marks t m) spares lawful undropped = none_first (after_given (with_mark t m a.life.out)) (left_undropped t m spares undropped)
    where
      none_first : (out : List Outstanding) → Undropped out → dropped_first out ≡ None
      none_first [] all = refl
      none_first (o ∷ out) all = by_mark o.mark all.0
        where
          by_mark : (m : Mark) → (m ≡ mark_dropped → ⊥) → dropped_first (record o { mark = m } ∷ out) ≡ None
          by_mark mark_waiting not = refl
          by_mark mark_given not = refl
          by_mark mark_dropped not = absurd (not refl)

  -- and any other in that of a dropped block
  pub event_excused : (e : Event) → IsPlain e → IsLawfulStep config chain node (e ∷ []) → (fault : Fault) → event_fault config node e ≡ Some fault → IsExcusedFault fault
  event_excused e (tells t m built) lawful fault due = absurd (none_due (event_fault config node (message_told t m)) fault (told_fault t m built lawful) due)
  event_excused e (finishes t) lawful fault due = absurd (none_due None fault refl due)
  event_excused e (marks t m) lawful fault due = dropped_excused (after_given (with_mark t m a.life.out)) fault due
