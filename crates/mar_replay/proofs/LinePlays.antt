-- What `play` makes of each line.
use Rattle.std.proofs.Common.{Contains, List, None, Option, [], ap, arith, refl, subst, sym, true, inl, inr, ℕ, ◌++◌, ◌+◌, ◌-◌, ◌<◌, ◌^◌, ◌∷◌, ◌≡◌, ◌≤◌, ◌⊎◌, ◌*◌, ◌∙◌}
use Rattle.std.proofs.lemmas.List.Elements.{Contains-append_cases, Contains-append_left, Contains-append_right}
use Rattle.mar_types.specs.declared.Sha256Digest.{Sha256Digest}
use Rattle.mar_types.specs.Epochs.{fixed_epochs}
use Rattle.std.specs.List.{filter_map}
use Rattle.mar_cert.specs.Block.{Block}
use Rattle.mar_block.specs.Sent.{Held}
use Rattle.mar_cert.specs.Finalization.{Finalization}
use Rattle.mar_model.specs.Messages.{Message, report_finalization}
use Rattle.mar_key.specs.Asked.{asked_after}
use Rattle.mar_model.specs.Cached.{cached_block}
use Rattle.mar_model.specs.Chain.{Chain}
use Rattle.mar_model.specs.Config.{Config}
use Rattle.mar_model.specs.Event.{Event, life_started, message_told}
use Rattle.mar_model.specs.Faults.{Fault, StoreName, from_genesis, ticket_limit}
use Rattle.mar_model.specs.Held.{ArePassed, FailsBy, IsUsual, Remains, Sizes, Watches, picks_of, remains_of, with_armed}
use Rattle.mar_model.specs.Lives.{CutsReopening, Finds, IsOpeningFault}
use Rattle.mar_model.specs.Moves.{syncs_at_most}
use Rattle.mar_model.specs.Stored.{AreSmall}
use Rattle.mar_store.specs.Sizes.{IsSmall}
use Rattle.mar_store.proofs.Lookups.{AllByRecursion-push}
use Rattle.mar_model.specs.Promise.{IsGoodUntold, IsLawfulStep, IsSetTo, Waiting, asked_since, knowing, known_blocks, node_of, none_waiting, told_blocks}
use Rattle.mar_model.specs.Node.{Node}
use Rattle.mar_model.specs.Step.{Made, Steps, nothing_made}
use Rattle.mar_model.proofs.Passing.{ArePassed-refl}
use Rattle.mar_model.proofs.Reaching.{IsGood-beside, Rest-beside}
use Rattle.mar_model.specs.declared.fault.Fault.{Fault as FaultCode}
use Rattle.mar_model.specs.declared.fault.TicketKind.{TicketKind}
use Rattle.mar_model.specs.declared.fault.TicketKind.TheVariants.{Ack, Sync}
use Rattle.mar_model.specs.Views.{kind_of}
use Rattle.mar_script.specs.Accounts.{Account, Calls, CallsEnd, luck_after}
use Rattle.mar_script.specs.Plays.{IsBetween, IsLawfulLine, Plays, buffer_in, cached_blocks_in, known_in, max_window, most_turns}
use Rattle.mar_replay.specs.Playing.{AfterEvent, DoesEvent, DoesStep, FindsTakenUp, HasLuck, IsNearLast, IsOpenAs, IsPendingAs, IsSetNode, PlaysLine, SeenNode, StartsFrom, TakesEvent, account_in, empty_buffer}
use Rattle.mar_script.specs.Run.{IsSmooth, LineDone, OpenDone, StepDone, line_blocks, still_unanswered}
use Rattle.mar_script.specs.Script.{Line, Settings, buffer_line, config_of, crash_line, fail_line, open_line, tell_line}
use Rattle.mar_script.specs.Text.{Output, State, running, stopped}
use Rattle.mar_script.specs.Shown.{plain_fault}
use Rattle.mar_script.proofs.Accounts.{CallsEnd-then}
use Rattle.mar_replay.specs.Turn.{fault_in, open_in, output_of, remains_in, state_of, state_with, waiting_with}
use Rattle.mar_replay.specs.declared.play.Outcome.{Outcome}
use Rattle.mar_replay.specs.declared.play.Outcome.TheVariants as outcome
use Rattle.mar_replay.specs.declared.play.Pending.{Pending}
use Rattle.mar_replay.specs.declared.play.State.{State as StateCode}
use Rattle.mar_replay.specs.declared.play.State.TheVariants as state
use Rattle.mar_script.specs.declared.RemarkShown.{RemarkShown}
use Rattle.mar_replay.proofs.CachedLines.{found_within, plain_puts, step_cached, told_or_known}
use Rattle.mar_replay.proofs.Lasting.{IsPlain, Spares, Undropped, answers_last, finishes, marks, plain_syncs, tells, syncs_after, syncs_last, tickets_after, tickets_last, undropped-step}
use Rattle.mar_replay.proofs.LineTurns.{cut_between, cut_blocks, cut_excused, cut_usual, excused_usual, lawful_step, only_cut, step_between, step_cut, step_done, waits}
use Rattle.mar_replay.proofs.Replaying.{between_left}
use Rattle.mar_replay.proofs.OpeningTurns.{lawful_start, opening_between, opening_cached, opening_cut, opening_done, opening_undropped, opening_usual, start_cached, start_cut, start_usual, undropped-found}

none_in : (b : Block) → Contains [] b → ⊥
none_in b has = let lt : has.0 < 0 = has.1 in omega arith

-- the tickets of so many lines last
never_last : (k : ℕ) (e : Event) (seen : SeenNode) (fault : Fault) → seen.life.next_ack ≤ max_window * k → seen.held.writes.next_sync ≤ 2 * k → syncs_at_most e ≤ 2 → k ≤ most_turns → seen.life.sizes.window ≤ max_window → IsNearLast e seen fault → (kind : TicketKind) → fault ≡ ticket_limit (kind_of kind) → ⊥
never_last k e seen fault given started most few narrow near Ack is = tickets_last k seen.life.next_ack seen.life.sizes.window given few narrow (near.0 is)
never_last k e seen fault given started most few narrow near Sync is = syncs_last k seen.held.writes.next_sync (syncs_at_most e) started few most (near.1 is)

-- a state behind one line more
later_state : (config : Config) (chain : Chain) (k : ℕ) (s : State) → IsBetween config chain k s → IsBetween config chain (k + 1) s
later_state config chain k (running n) (good, rests, lasting) = (good, rests, record { tickets = omega (arith, lasting.tickets); sync_tickets = omega (arith, lasting.sync_tickets); answer_tickets = omega (arith, lasting.answer_tickets) })
later_state config chain k (stopped e) between = between

-- what is asked of a state doesn't look at the buffer
put_between : (config : Config) (chain : Chain) (k : ℕ) (seen : SeenNode) (before after : List Block) (waiting : Waiting) → IsBetween config chain k (running (node_of seen before waiting)) → IsBetween config chain (k + 1) (running (node_of seen after waiting))
put_between config chain k seen before after waiting (good, rests, lasting) = (
  IsGood-beside config chain seen before after waiting waiting good.of_chain.asks.requests good,
  Rest-beside config.window seen before after waiting waiting rests,
  record { tickets = omega (arith, lasting.tickets); sync_tickets = omega (arith, lasting.sync_tickets); answer_tickets = omega (arith, lasting.answer_tickets) },
)

-- nothing is pending as a life begins
abbrev pub first_pending : Pending
first_pending = record { requests = []; next_answer = 0 }

-- who waits between two lines
abbrev pub between : SeenNode → Pending → Waiting
between seen pending = waiting_with pending.requests pending.next_answer seen.certified

-- a block that may be left of the cache is among those of the state
may_blocks : (seen : SeenNode) (b : Block) → Contains (filter_map cached_block seen.held.cache.kept.may) b → Contains (filter_map cached_block (seen.held.cache.kept.held ++ seen.held.cache.kept.may)) b
may_blocks seen = found_within cached_block seen.held.cache.kept.may (seen.held.cache.kept.held ++ seen.held.cache.kept.may) (λ x has. Contains-append_right seen.held.cache.kept.held seen.held.cache.kept.may x has)

-- what is cached in a state might be met by its next line
still_known : (chain : Chain) (s : State) (l : Line) (b : Block) → Contains (cached_blocks_in s) b → Contains (line_blocks l ++ known_in chain s) b
still_known chain s l b has = Contains-append_right (line_blocks l) (known_in chain s) b (Contains-append_right chain.blocks (buffer_in s ++ cached_blocks_in s) b (Contains-append_right (buffer_in s) (cached_blocks_in s) b has))

-- and so might what an event tells, which its line brings, or might meet
told_known : (chain : Chain) (n : Node) (e : Event) (l : Line) → ((b : Block) → Contains (told_blocks e) b → Contains (line_blocks l) b) → (before : List Block) → ((b : Block) → Contains before b → Contains (cached_blocks_in (running n)) b) → (b : Block) → Contains (before ++ told_or_known chain n e) b → Contains (line_blocks l ++ known_in chain (running n)) b
told_known chain n e l brings before cached b has = by (Contains-append_cases before (told_or_known chain n e) b has)
  where
    of_event : Contains (told_blocks e) b ⊎ Contains (known_blocks chain n) b → Contains (line_blocks l ++ known_in chain (running n)) b
    of_event (inl told) = Contains-append_left (line_blocks l) (known_in chain (running n)) b (brings b told)
    of_event (inr known) = Contains-append_right (line_blocks l) (known_in chain (running n)) b known

    by : Contains before b ⊎ Contains (told_or_known chain n e) b → Contains (line_blocks l ++ known_in chain (running n)) b
    by (inl old) = still_known chain (running n) l b (cached b old)
    by (inr more) = of_event (Contains-append_cases (told_blocks e) (known_blocks chain n) b more)

-- such an event finds what was taken up of the cache
pub plain_finds : (e : Event) → IsPlain e → (seen : SeenNode) → seen.held.cache.loaded ≡ true → FindsTakenUp e seen
plain_finds e (tells t m built) seen loaded = loaded
plain_finds e (marks t m) seen loaded = loaded
plain_finds e (finishes t) seen loaded = loaded

-- a smooth line's event drops no acknowledgement
abbrev pub SparesWhereSmooth : Node → Line → Event → Type 0
SparesWhereSmooth n l e = (config : Config) (account : Account) → IsSmooth config account (running n) l → Spares e

module _ {H R : Type 0} where
  abbrev Stopped : Remains → ℕ → StateCode H R
  Stopped left luck = state.Stopped left luck

  abbrev pub Running : SeenNode → Held → Pending → StateCode H R
  Running seen buffer pending = state.Running seen buffer pending

  -- nothing changed
  keeps_open : (s : StateCode H R) → IsOpenAs (open_in s) s
  keeps_open (state.Running seen buffer pending) = refl
  keeps_open (state.Stopped left luck) = tt

  -- a line that does nothing, for a reason
  pub plays_remark : (config : Config) (s : StateCode H R) (l : Line) (r : RemarkShown) → ((chain : Chain) (account : Account) → LineDone config chain account (state_of s) l (output_of nothing_made (outcome.Remark r)) (state_of s))
      → ((watches : Watches) → Calls watches l None watches) → ((luck : ℕ) → luck_after luck l None ≡ luck) → PlaysLine config s l (output_of nothing_made (outcome.Remark r)) s
  plays_remark config s l r done calls luck = record {
    set = λ is. is;
    small = λ line small. small;
    calls = calls (remains_in s).watches;
    lucky = λ before has. subst (λ k. HasLuck k s) (sym (luck before)) has;
    opened = keeps_open s;
    plays = λ is before has chain k lawful. record { done = done chain (account_in before s); between = later_state config chain k (state_of s) lawful.between; buffered = λ b has. Contains-append_left _ _ b has; cached = λ b has. still_known chain (state_of s) l b has; excused = tt; undropped = λ un smooth. (un, tt) };
  }

  -- a store is made to fail
  pub plays_fail : (config : Config) (seen new : SeenNode) (buffer : Held) (pending : Pending) (store : StoreName) (calls : ℕ) → new ≡ record seen { held = record seen.held { watches = with_armed store calls seen.held.watches } }
      → PlaysLine config (Running seen buffer pending) (fail_line store calls) (output_of nothing_made outcome.Done) (Running new buffer pending)
  plays_fail config seen new buffer pending store calls is = subst (λ (n : SeenNode). PlaysLine config (Running seen buffer pending) (fail_line store calls) (output_of nothing_made outcome.Done) (Running n buffer pending)) (sym is) (record {
    set = λ set. set;
    small = λ line small. small;
    calls = refl;
    lucky = λ before has. tt;
    opened = refl;
    plays = λ set before has chain k lawful. record { done = (refl, refl); between = later_state config chain k (running (node_of seen buffer.blocks (between seen pending))) lawful.between; buffered = λ b has. Contains-append_left _ _ b has; cached = λ b has. still_known chain (running (node_of seen buffer.blocks (between seen pending))) (fail_line store calls) b has; excused = tt; undropped = λ un smooth. (un, tt) };
  })

  pub plays_fail_left : (config : Config) (left new : Remains) (luck : ℕ) (store : StoreName) (calls : ℕ) → new.ended ≡ left.ended → new.watches ≡ with_armed store calls left.watches
      → PlaysLine config (Stopped left luck) (fail_line store calls) (output_of nothing_made outcome.Done) (Stopped new luck)
  plays_fail_left config left new luck store calls ended armed = record {
    set = λ set. tt;
    small = λ line small. tt;
    calls = armed;
    lucky = λ before has. has;
    opened = tt;
    plays = λ set before has chain k lawful. record {
      done = (refl, ap stopped ended);
      between = subst (λ e. IsBetween config chain (k + 1) (stopped e)) (sym ended) lawful.between;
      buffered = λ b has. absurd (none_in b has);
      cached = λ b has. still_known chain (stopped left.ended) (fail_line store calls) b (subst (λ e. Contains (filter_map cached_block e.cache_may) b) ended has);
      excused = tt;
      undropped = λ un smooth. (tt, tt);
    };
  }

  -- a block is put into the buffer
  pub plays_put : (config : Config) (seen : SeenNode) (buffer new : Held) (pending : Pending) (b : Block) → new.blocks ≡ buffer.blocks ++ b ∷ [] → PlaysLine config (Running seen buffer pending) (buffer_line b) (output_of nothing_made outcome.Done) (Running seen new pending)
  plays_put config seen buffer new pending b is = record {
    set = λ set. set;
    small = λ line small. subst AreSmall (sym is) (AllByRecursion-push (λ x. IsSmall x.encoded) buffer.blocks b small line.1.0);
    calls = ArePassed-refl seen.held.watches;
    lucky = λ before has. tt;
    opened = refl;
    plays = λ set before has chain k lawful. record {
      done = (refl, ap (λ bs. running (node_of seen bs (between seen pending))) is);
      between = put_between config chain k seen buffer.blocks new.blocks (between seen pending) lawful.between;
      buffered = λ x has. subst (λ bs. Contains bs x) is has;
      cached = λ x has. still_known chain (running (node_of seen buffer.blocks (between seen pending))) (buffer_line b) x has;
      excused = tt;
      undropped = λ un smooth. (un, tt);
    };
  }

  -- a crash ends a life
  pub plays_crash : (config : Config) (seen : SeenNode) (buffer : Held) (pending : Pending) (luck : ℕ) → PlaysLine config (Running seen buffer pending) (crash_line luck) (output_of nothing_made outcome.Done) (Stopped (remains_of seen.held) luck)
  plays_crash config seen buffer pending luck = record {
    set = λ is. tt;
    small = λ line small. tt;
    calls = ArePassed-refl seen.held.watches;
    lucky = λ before has. refl;
    opened = tt;
    plays = λ is before has chain k lawful. record {
      done = (refl, refl);
      between = between_left config chain k (running (node_of seen buffer.blocks (between seen pending))) lawful.between;
      buffered = λ b has. absurd (none_in b has);
      cached = λ b has. still_known chain (running (node_of seen buffer.blocks (between seen pending))) (crash_line luck) b (may_blocks seen b has);
      excused = tt;
      undropped = λ un smooth. (tt, tt);
    };
  }

  -- or sets the luck alone, where no life runs
  pub plays_crash_left : (config : Config) (left : Remains) (before luck : ℕ) → PlaysLine config (Stopped left before) (crash_line luck) (output_of nothing_made outcome.Done) (Stopped left luck)
  plays_crash_left config left before luck = record {
    set = λ is. tt;
    small = λ line small. tt;
    calls = ArePassed-refl left.watches;
    lucky = λ was has. refl;
    opened = tt;
    plays = λ is was has chain k lawful. record { done = (refl, refl); between = lawful.between; buffered = λ b has. absurd (none_in b has); cached = λ b has. still_known chain (stopped left.ended) (crash_line luck) b has; excused = tt; undropped = λ un smooth. (tt, tt) };
  }

  -- behind an event of the life, whoever waited beside it
  module _ (seen : SeenNode) (buffer : Held) (pending : Pending) (l : Line) (e : Event) (made : Made) (config : Config) (chain : Chain) (k : ℕ) (waiting : Waiting) (plain : IsPlain e) (brings : (b : Block) → Contains (told_blocks e) b → Contains (line_blocks l) b) (set : IsSetNode config seen)
      (lawful : IsLawfulLine config chain k (running (node_of seen buffer.blocks (between seen pending))) l) (step : IsLawfulStep config chain (node_of seen buffer.blocks waiting) (e ∷ [])) (few : waiting.next_answer ≤ k + 1) (answered : (n' : Node) → Steps config chain (node_of seen buffer.blocks waiting) (e ∷ []) made n' → still_unanswered made.answers [] waiting.unanswered ≡ [])
      (account : Account) (line_done : (out : Output) (s : State) → StepDone config chain (node_of seen buffer.blocks waiting) (e ∷ []) [] (λ m. []) out s → LineDone config chain account (running (node_of seen buffer.blocks (between seen pending))) l out s)
      (spares : IsSmooth config account (running (node_of seen buffer.blocks (between seen pending))) l → Spares e)
    where
      pub after_event : (after : StateCode H R) (o : Outcome) (next : ℕ) → waiting.next_answer ≡ next → AfterEvent config chain (node_of seen buffer.blocks waiting) seen buffer.blocks waiting e made after o
          → ((new : SeenNode) (kept : Held) (now : Pending) → after ≡ state.Running new kept now → now.next_answer ≡ next)
          → Plays config chain k account (running (node_of seen buffer.blocks (between seen pending))) l (output_of made o) (state_with (asked_after waiting.requests [] made.asks) after)
      after_event (state.Running new kept now) outcome.Done next is (steps, same, tickets) next_is = record {
        done = subst (λ t. LineDone config chain account (running (node_of seen buffer.blocks (between seen pending))) l (output_of made outcome.Done) (running (node_of new kept.blocks (waiting_with (asked_after waiting.requests [] made.asks) t new.certified)))) (is ∙ sym (next_is new kept now refl))
            (line_done _ _ (step_done config chain seen buffer.blocks waiting e made new kept.blocks (answered _ steps) steps));
        between = subst (λ t. IsBetween config chain (k + 1) (running (node_of new kept.blocks (waiting_with (asked_after waiting.requests [] made.asks) t new.certified)))) (is ∙ sym (next_is new kept now refl))
            (step_between config chain seen buffer.blocks waiting k e plain made new kept.blocks steps
            (tickets_after k seen.life.next_ack new.life.next_ack seen.life.sizes.window lawful.between.2.tickets (subst (λ w. w ≤ max_window) set.window lawful.narrow) tickets.0)
            (syncs_after k seen.held.writes.next_sync new.held.writes.next_sync (syncs_at_most e) lawful.between.2.sync_tickets (plain_syncs e plain) tickets.1) few);
        buffered = λ b has. Contains-append_left _ _ b (subst (λ xs. Contains xs b) same has);
        cached = λ b has. told_known chain (node_of seen buffer.blocks waiting) e l brings (cached_blocks_in (running (node_of seen buffer.blocks waiting))) (λ c there. there) b (step_cached config chain (node_of seen buffer.blocks waiting) e (told_or_known chain (node_of seen buffer.blocks waiting) e) made (node_of new kept.blocks (knowing new.certified (asked_since waiting made.asks))) (plain_puts config chain seen buffer.blocks waiting lawful.between.0.of_chain.stores.held_blocks e plain) steps b has);
        excused = tt;
        undropped = λ un smooth. (undropped-step config chain seen buffer.blocks waiting e plain (spares smooth) made (node_of new kept.blocks (knowing new.certified (asked_since waiting made.asks))) steps un, tt);
      }
      after_event (state.Stopped left luck) (outcome.Fault fault) next is (cuts, limit) next_is = record {
        done = line_done _ _ (step_cut config chain seen buffer.blocks waiting e made fault left.ended cuts);
        between = cut_between config chain seen buffer.blocks waiting (k + 1) e made (plain_fault fault) left.ended cuts;
        buffered = λ b has. absurd (none_in b has);
        cached = λ b has. told_known chain (node_of seen buffer.blocks waiting) e l brings (filter_map cached_block seen.held.cache.kept.may) (may_blocks seen) b (cut_blocks config chain (node_of seen buffer.blocks waiting) e (told_or_known chain (node_of seen buffer.blocks waiting) e) made (plain_fault fault) left.ended (plain_puts config chain seen buffer.blocks waiting lawful.between.0.of_chain.stores.held_blocks e plain) cuts b has);
        excused = cut_excused config chain seen buffer.blocks waiting e plain made fault left.ended step cuts no_limit;
        undropped = λ un smooth. (tt, cut_usual config chain seen buffer.blocks waiting e plain (spares smooth) made fault left.ended step un cuts no_limit);
      }
        where
          no_limit : (kind : TicketKind) → plain_fault fault ≡ ticket_limit (kind_of kind) → ⊥
          no_limit =
              never_last k e seen (plain_fault fault) lawful.between.2.tickets lawful.between.2.sync_tickets (plain_syncs e plain) lawful.few (subst (λ w. w ≤ max_window) set.window lawful.narrow) limit
      after_event (state.Running new kept now) (outcome.Remark r) next is done next_is = absurd done
      after_event (state.Running new kept now) (outcome.Fault fault) next is done next_is = absurd done
      after_event (state.Stopped left luck) outcome.Done next is done next_is = absurd done
      after_event (state.Stopped left luck) (outcome.Remark r) next is done next_is = absurd done

  -- what is pending is as it was given
  pub pending_next : (before : Pending) (after : StateCode H R) → IsPendingAs before after → (new : SeenNode) (kept : Held) (now : Pending) → after ≡ state.Running new kept now → now.next_answer ≡ before.next_answer
  pending_next before (state.Running n b p) kept_as new kept now is = ap (λ x. x.next_answer) (sym (inside is) ∙ kept_as)
    where
      inside : ◌≡◌ {A = StateCode H R} (state.Running n b p) (state.Running new kept now) → p ≡ now
      inside same = cc
  pending_next before (state.Stopped left luck) kept_as new kept now is = absurd (apart is)
    where
      apart : ◌≡◌ {A = StateCode H R} (state.Stopped left luck) (state.Running new kept now) → ⊥
      apart same = cc

  pub opened_as : (before : Pending) (after : StateCode H R) → IsPendingAs before after → IsOpenAs before.requests after
  opened_as before (state.Running new kept now) kept_as = ap (λ p. p.requests) kept_as
  opened_as before (state.Stopped left luck) kept_as = tt

  -- what an event of a life that has begun makes of it
  pub done_step : (seen : SeenNode) (buffer : Held) (made : Made) (after : StateCode H R) (o : Outcome) {e : Event} → IsPlain e → DoesEvent seen buffer e made after o → DoesStep seen buffer e made after o
  done_step seen buffer made after o (tells t m built) done = done
  done_step seen buffer made after o (marks t m) done = done
  done_step seen buffer made after o (finishes t) done = done

  -- A line that is one event of the life, which these callers await, the next of whom has this ticket: `now` is pending beside it.
  pub plays_event : (seen : SeenNode) (buffer : Held) (pending now : Pending) (unanswered : List ℕ) (next : ℕ) (l : Line) (e : Event) (made : Made) (after : StateCode H R) (o : Outcome) → IsPlain e → SparesWhereSmooth (node_of seen buffer.blocks (between seen pending)) l e
      → ((t : Option ℕ) (f : Finalization) → e ≡ message_told t (report_finalization f) → l ≡ tell_line (report_finalization f)) → ((b : Block) → Contains (told_blocks e) b → Contains (line_blocks l) b)
      → ((before now : Watches) (fault : Option Fault) → CallsEnd before fault now → Calls before l fault now) → next ≤ pending.next_answer + 1 → now.requests ≡ pending.requests → (pending.next_answer < 2 ^ 64 - 1 → now.next_answer ≡ next)
      → ((config : Config) (chain : Chain) (n' : Node) → Steps config chain (node_of seen buffer.blocks (waits (between seen pending) unanswered next)) (e ∷ []) made n' → still_unanswered made.answers [] unanswered ≡ [])
      → ((config : Config) (chain : Chain) (account : Account) (out : Output) (s : State) → StepDone config chain (node_of seen buffer.blocks (waits (between seen pending) unanswered next)) (e ∷ []) [] (λ m. []) out s → LineDone config chain account (running (node_of seen buffer.blocks (between seen pending))) l out s)
      → TakesEvent seen buffer now e made after o → (config : Config) → PlaysLine config (Running seen buffer pending) l (output_of made o) after
  plays_event seen buffer pending now unanswered next l e made after o plain spares same brings calls one_more requests next_is answered line_done takes config = record {
    set = λ is. takes.set config is.0 (plain_finds e plain seen is.1);
    small = λ line small. takes.small small;
    calls = calls seen.held.watches (remains_in after).watches (fault_in o) takes.calls;
    lucky = λ before has. takes.lucky before l;
    opened = subst (λ rs. IsOpenAs rs after) requests (opened_as now after takes.pending_as);
    plays = λ is before has chain k lawful.
        let waiting = waits (between seen pending) unanswered next in
        let step = lawful_step config chain seen buffer.blocks (between seen pending) unanswered next k l e plain lawful same brings in
        let low : pending.next_answer ≤ k = lawful.between.2.answer_tickets in
        after_event seen buffer pending l e made config chain k waiting plain brings is.0 lawful step (omega (arith, low, one_more)) (answered config chain) (account_in before (Running seen buffer pending)) (line_done config chain (account_in before (Running seen buffer pending))) (spares config (account_in before (Running seen buffer pending))) after o now.next_answer (sym (next_is (answers_last k pending.next_answer low lawful.few)))
        (done_step seen buffer made after o plain takes.done is.1 config chain waiting refl is.0 step) (pending_next now after takes.pending_as);
  }

  -- an event that is no message
  pub plays_alone : (seen : SeenNode) (buffer : Held) (pending : Pending) (l : Line) (e : Event) (made : Made) (after : StateCode H R) (o : Outcome) → IsPlain e → SparesWhereSmooth (node_of seen buffer.blocks (between seen pending)) l e → ((t : Option ℕ) (m : Message) → e ≡ message_told t m → ⊥) → told_blocks e ≡ []
      → ((before now : Watches) (fault : Option Fault) → CallsEnd before fault now → Calls before l fault now)
      → ((config : Config) (chain : Chain) (account : Account) (waiting : Waiting) (out : Output) (s : State) → StepDone config chain (node_of seen buffer.blocks waiting) (e ∷ []) [] (λ m. []) out s → LineDone config chain account (running (node_of seen buffer.blocks waiting)) l out s)
      → TakesEvent seen buffer pending e made after o → (config : Config) → PlaysLine config (Running seen buffer pending) l (output_of made o) after
  plays_alone seen buffer pending l e made after o plain spares no_message no_blocks calls line_done takes =
      plays_event seen buffer pending pending [] pending.next_answer l e made after o plain spares (λ t f is. absurd (no_message t (report_finalization f) is)) (λ b has. absurd (none_in b (subst (λ bs. Contains bs b) no_blocks has))) calls (omega arith) refl (λ low. refl) (λ config chain n' steps. refl)
      (λ config chain account. line_done config chain account (between seen pending)) takes

  -- an opening that was cut before its start
  pub plays_unopened : (config : Config) (before left : Remains) (luck : ℕ) (g : Block) (fault : FaultCode Sha256Digest)
      → ((chain : Chain) (k : ℕ) → IsLawfulLine config chain k (stopped before.ended) (open_line (from_genesis g)) → CutsReopening config chain before.ended (picks_of before luck) (from_genesis g) nothing_made (plain_fault fault) left.ended)
      → FailsBy before.watches (plain_fault fault) left.watches → IsUsual (plain_fault fault) ⊎ IsOpeningFault before.ended (picks_of before luck) (from_genesis g) (plain_fault fault) → PlaysLine config (Stopped before luck) (open_line (from_genesis g)) (output_of nothing_made (outcome.Fault fault)) (Stopped left 0)
  plays_unopened config before left luck g fault cuts fails kind = record {
    set = λ is. tt;
    small = λ line small. tt;
    calls = fails;
    lucky = λ was has. refl;
    opened = tt;
    plays = λ is was has chain k lawful. record {
      done = subst (λ j. OpenDone config chain before.ended (picks_of before j) (from_genesis g) (output_of nothing_made (outcome.Fault fault)) (stopped left.ended)) has (opening_cut config chain before.ended (picks_of before luck) g fault left.ended (cuts chain k lawful));
      between = ((cuts chain k lawful).leaves.good, (cuts chain k lawful).leaves.some_pair);
      buffered = λ b has. absurd (none_in b has);
      cached = λ b has. still_known chain (stopped before.ended) (open_line (from_genesis g)) b (found_within cached_block left.ended.cache_may before.ended.cache_may (cuts chain k lawful).may_cached b has);
      excused = excused_usual (plain_fault fault) (opening_usual config chain before.ended (picks_of before luck) g fault k lawful kind);
      undropped = λ un smooth. (tt, opening_usual config chain before.ended (picks_of before luck) g fault k lawful kind);
    };
  }

  -- an opening, and the start of its life
  pub plays_opening : (config : Config) (before : Remains) (luck : ℕ) (g : Block) (seen : SeenNode) (made : Made) (after : StateCode H R) (o : Outcome) → IsSetNode config seen → ArePassed before.watches seen.held.watches
      → seen.certified ≡ [] → seen.held.cache.fresh ≡ true → seen.held.cache.finds ≡ (picks_of before luck).cache
      → ((chain : Chain) (k : ℕ) → IsLawfulLine config chain k (stopped before.ended) (open_line (from_genesis g)) → Finds config before.ended (picks_of before luck) (from_genesis g) (node_of seen [] none_waiting) × IsGoodUntold config chain (node_of seen [] none_waiting))
      → TakesEvent seen empty_buffer first_pending (life_started None) made after o → PlaysLine config (Stopped before luck) (open_line (from_genesis g)) (output_of made o) after
  plays_opening config before luck g seen made after o set passed unknown fresh picked begins takes = record {
    set = λ is. takes.set config set tt;
    small = λ line small. takes.small tt;
    calls = CallsEnd-then before.watches seen.held.watches (remains_in after).watches (fault_in o) passed takes.calls;
    lucky = λ was has. takes.lucky was (open_line (from_genesis g));
    opened = opened_as first_pending after takes.pending_as;
    plays = λ is was has chain k lawful.
        let begins_so = begins chain k lawful in
        let started = takes.done fresh config chain none_waiting (sym unknown) set (lawful_start config chain before.ended (picks_of before luck) g seen begins_so.0 k lawful begins_so.1) in
        subst (λ j. Plays config chain k (account_in j (Stopped before luck)) (stopped before.ended) (open_line (from_genesis g)) (output_of made o) (state_with (asked_after [] [] made.asks) after)) has
        (by after o (pending_next first_pending after takes.pending_as) chain k lawful begins_so.0 begins_so.1 started.0 (subst (λ p. StartsFrom o p (node_of seen [] none_waiting) started.0) picked started.1) started.2);
  }
    where
      by : (after : StateCode H R) (o : Outcome) → ((new : SeenNode) (kept : Held) (now : Pending) → after ≡ state.Running new kept now → now.next_answer ≡ 0) → (chain : Chain) (k : ℕ) → IsLawfulLine config chain k (stopped before.ended) (open_line (from_genesis g)) → Finds config before.ended (picks_of before luck) (from_genesis g) (node_of seen [] none_waiting) → IsGoodUntold config chain (node_of seen [] none_waiting)
          → (begun : Node) → StartsFrom o (picks_of before luck).cache (node_of seen [] none_waiting) begun → AfterEvent config chain begun seen [] none_waiting (life_started None) made after o
          → Plays config chain k (account_in luck (Stopped before luck)) (stopped before.ended) (open_line (from_genesis g)) (output_of made o) (state_with (asked_after [] [] made.asks) after)
      by (state.Running new kept now) outcome.Done next_is chain k lawful finds good begun takes (steps, same, tickets) =
          let first = undropped-found config before.ended (picks_of before luck) (from_genesis g) (node_of seen [] none_waiting) finds in
          record {
            done = subst (λ t. OpenDone config chain before.ended (picks_of before luck) (from_genesis g) (output_of made outcome.Done) (running (node_of new kept.blocks (waiting_with (asked_after [] [] made.asks) t new.certified)))) (sym (next_is new kept now refl))
                (opening_done config chain before.ended (picks_of before luck) g seen finds begun takes made new kept.blocks steps);
            between = subst (λ t. IsBetween config chain (k + 1) (running (node_of new kept.blocks (waiting_with (asked_after [] [] made.asks) t new.certified)))) (sym (next_is new kept now refl))
                (opening_between config chain before.ended (picks_of before luck) g seen finds begun takes made new kept.blocks steps k
                (tickets_after k seen.life.next_ack new.life.next_ack seen.life.sizes.window (omega (arith, first.1)) (subst (λ w. w ≤ max_window) set.window lawful.narrow) tickets.0)
                (syncs_after k seen.held.writes.next_sync new.held.writes.next_sync 1 (omega (arith, first.2)) (omega arith) tickets.1));
            buffered = λ b has. absurd (none_in b (subst (λ xs. Contains xs b) same has));
            cached = λ b has. still_known chain (stopped before.ended) (open_line (from_genesis g)) b (opening_cached config chain before.ended (picks_of before luck) g seen finds begun takes made new kept.blocks steps b has);
            excused = tt;
            undropped = λ un smooth. (opening_undropped config chain before.ended (picks_of before luck) g seen finds begun takes made new kept.blocks steps, tt);
          }
      by (state.Stopped left now) (outcome.Fault fault) next_is chain k lawful finds good begun takes (cuts, limit) =
          let first = undropped-found config before.ended (picks_of before luck) (from_genesis g) (node_of seen [] none_waiting) finds in
          let cut = only_cut config chain begun (life_started None) made (plain_fault fault) left.ended cuts in
          record {
            done = start_cut config chain before.ended (picks_of before luck) g seen finds begun takes made fault left.ended cuts good;
            between = (cut.leaves.good, cut.leaves.some_pair);
            buffered = λ b has. absurd (none_in b has);
            cached = λ b has. still_known chain (stopped before.ended) (open_line (from_genesis g)) b (start_cached config chain before.ended (picks_of before luck) g seen finds begun takes made fault left.ended cuts b has);
            excused = excused_usual (plain_fault fault) (usual_start first);
            undropped = λ un smooth. (tt, usual_start first);
          }
        where
          usual_start : Undropped seen.life.out × (seen.life.next_ack ≡ 0) × (seen.held.writes.next_sync ≡ 0) → IsUsual (plain_fault fault)
          usual_start first = start_usual config chain before.ended (picks_of before luck) g seen finds begun takes made fault left.ended cuts
              (never_last k (life_started None) seen (plain_fault fault) (omega (arith, first.1)) (omega (arith, first.2)) (omega arith) lawful.few (subst (λ w. w ≤ max_window) set.window lawful.narrow) limit)
      by (state.Running new kept old) (outcome.Remark r) next_is chain k lawful finds good begun takes done = absurd done
      by (state.Running new kept old) (outcome.Fault fault) next_is chain k lawful finds good begun takes done = absurd done
      by (state.Stopped left now) outcome.Done next_is chain k lawful finds good begun takes done = absurd done
      by (state.Stopped left now) (outcome.Remark r) next_is chain k lawful finds good begun takes done = absurd done

-- the settings are those that the actor was opened with
pub set_node : (s : Settings) (sizes : Sizes) (length : ℕ) → sizes ≡ record { window = s.window; max_repair = s.max_repair; retention = s.retention; capacity = s.capacity } → length ≡ s.epoch_length → IsSetTo (config_of s) sizes (fixed_epochs length) (λ commitment. commitment)
set_node s sizes length sizes_are long = record {
  window = sym (ap (λ z. z.window) sizes_are);
  max_repair = sym (ap (λ z. z.max_repair) sizes_are);
  retention = sym (ap (λ z. z.retention) sizes_are);
  capacity = sym (ap (λ z. z.capacity) sizes_are);
  epochs_are = sym (ap fixed_epochs long);
  inner_is = refl;
}
