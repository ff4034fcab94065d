-- In the headline's own words: the processed height never falls over a run, restarts included.
use Rattle.std.proofs.Common.{◌≡◌, ℕ, zero, suc, ◌+◌, ◌≤◌, nat_lt, Bool, true, false, ◌&&◌, if◌then◌else◌, List, [], ◌∷◌, ◌++◌, length, map, filter, Option, Some, None, option_map, refl, sym, ◌∙◌, ap, subst, ◌⊎◌, inl, inr, Contains, arith}
use Rattle.std.specs.List.{AllByRecursion}
use Rattle.mar_model_tests.specs.Laws.{IsInOrder, AtLeast}
use Rattle.mar_store.proofs.Lookups.{AllByRecursion-contains, AllByRecursion-weaker}
use Rattle.mar_model.proofs.OutstandingLemmas.{ConsecutiveFrom-handed_over, ConsecutiveFrom-kept, first_unprocessed-rises}
use Rattle.mar_model.proofs.FloorSafety.{next_after-is}
use Rattle.mar_cert.specs.Block.{Block}
use Rattle.mar_key.specs.Processed.{at_block, at_absent, height_in, first_unprocessed}
use Rattle.mar_model.specs.Chain.{Chain}
use Rattle.mar_store.specs.Kept.{At, has_height}
use Rattle.mar_model.specs.Cached.{Cached}
use Rattle.mar_model.specs.Config.{Config}
use Rattle.mar_model.specs.Node.{Node, write_count, Ended, ConsecutiveFrom}
use Rattle.mar_model.specs.Metadata.{Pair, pair_of}
use Rattle.mar_model.specs.Event.{Event, life_started, ack_given, ack_dropped, sync_finished, block_buffered, buffer_ended, Effect, effect_of, kept_blocks, processed_after}
use Rattle.mar_model.specs.Faults.{Begin, floor_of, next_after}
use Rattle.mar_model.specs.Step.{Made, Advances, AdvancesAll, with_sync, Steps}
use Rattle.mar_model.specs.Lives.{processed_at, Finds, Opens, NotBelow, OpeningPair, CutsOpening, Picks, TakesUp}
use Rattle.mar_script.specs.Accounts.{Account}
use Rattle.mar_script.specs.Text.{State, running, stopped, Output, Done, Remark}
use Rattle.mar_model.specs.Messages.{Message, close_ticket, Queued}
use Rattle.mar_inbox.specs.Policy.{after_take}
use Rattle.mar_key.specs.PeerQueue.{is_open, after_peer_take}
use Rattle.mar_model.specs.Judge.{serve_events, judged_of, in_turn}
use Rattle.mar_script.specs.Script.{Line, open_line, tell_line, peer_line, ask_line, serve_line, buffer_line, bufclose_line, put_line, take_line, sync_line, ack_line, drop_line, fail_line, crash_line}
use Rattle.mar_key.specs.Asked.{Judged}
use Rattle.mar_model.specs.Answers.{TicketAnswer}
use Rattle.mar_script.specs.Run.{next_picks, takes_ticket, with_answer_ticket, told_events, with_ticket, queued_of, with_close, is_subscribed, produced_answers, refusal, StepDone, EventsDone, OneDone, OpenDone, TakeDone, TakenDone, closes_nothing, Acts, RunningDone, LineDone, Run}

synced_processed : (k : ℕ) (n : Node) → (with_sync k n).processed ≡ n.processed
synced_processed k n = by (nat_lt k (write_count n) && nat_lt 0 (length n.uncovered))
  where
    by : (b : Bool) → (if b then record n { syncs = n.syncs ++ record { ticket = n.next_sync; position = write_count n } ∷ []; next_sync = n.next_sync + 1 } else n).processed ≡ n.processed
    by true = refl
    by false = refl

-- STATES

-- a pair of a list whose end is two more
one_of : (P : Pair → Type 0) (xs : List Pair) (y z x : Pair) → AllByRecursion P xs → P y → P z → Contains (xs ++ y ∷ z ∷ []) x → P x
one_of P [] y z x a p q (zero, lt, e) = subst P e p
one_of P [] y z x a p q (suc zero, lt, e) = subst P e q
one_of P [] y z x a p q (suc (suc k), lt, e) = absurd (omega arith)
one_of P (w ∷ xs) y z x a p q (zero, lt, e) = subst P e a.0
one_of P (w ∷ xs) y z x a p q (suc k, lt, e) = one_of P xs y z x a.1 p q (k, omega arith, e)

opened_first : (blocks : List (At Block)) (p : Option ℕ) → first_unprocessed (option_map (processed_at blocks) p) ≡ next_after p
opened_first blocks None = refl
opened_first blocks (Some h) = by (has_height blocks h)
  where
    by : (b : Bool) → first_unprocessed (Some (if b then at_block h else at_absent h)) ≡ h + 1
    by true = refl
    by false = refl

close_sound : (m : Message) (n : Node) → IsInOrder (running n) → IsInOrder (running (with_close m n))
close_sound (close_ticket t) n s = s
close_sound _ n s = s

close_least : {k : ℕ} (m : Message) (n : Node) → k ≤ first_unprocessed n.processed → k ≤ first_unprocessed (with_close m n).processed
close_least (close_ticket t) n low = low
close_least _ n low = low

ticket_sound : (m : Message) (n : Node) → IsInOrder (running n) → IsInOrder (running (with_ticket m n))
ticket_sound m n s = by (takes_ticket m)
  where
    by : (b : Bool) → IsInOrder (running (if b then with_answer_ticket n else n))
    by true = s
    by false = s

ticket_least : {k : ℕ} (m : Message) (n : Node) → k ≤ first_unprocessed n.processed → k ≤ first_unprocessed (with_ticket m n).processed
ticket_least {k} m n low = by (takes_ticket m)
  where
    by : (b : Bool) → k ≤ first_unprocessed (if b then with_answer_ticket n else n).processed
    by true = low
    by false = low

module _ (config : Config) (chain : Chain) where
  goes_on : (n : Node) (e : Event) (made : Made) (n' : Node) → Advances config chain n e made n' → ConsecutiveFrom (first_unprocessed n.processed) n.out → ConsecutiveFrom (first_unprocessed n'.processed) n'.out
  goes_on n e made n' a c =
      ConsecutiveFrom-handed_over n (kept_blocks n e (effect_of config n e)) made.reports n' a.hands
      (subst (λ p. ConsecutiveFrom (first_unprocessed p) (kept_blocks n e (effect_of config n e))) (sym a.processed) (ConsecutiveFrom-kept config n e c))

  rises_one : (n : Node) (e : Event) (made : Made) (n' : Node) → Advances config chain n e made n' → ConsecutiveFrom (first_unprocessed n.processed) n.out → first_unprocessed n.processed ≤ first_unprocessed n'.processed
  rises_one n e made n' a c = subst (λ p. first_unprocessed n.processed ≤ first_unprocessed p) (sym a.processed) (first_unprocessed-rises n e (effect_of config n e) c)

  rises_all : (n : Node) (events : List Event) (made : Made) (n' : Node) → AdvancesAll config chain n events made n' → ConsecutiveFrom (first_unprocessed n.processed) n.out → first_unprocessed n.processed ≤ first_unprocessed n'.processed
  rises_all n [] made n' a c = subst (λ m. first_unprocessed n.processed ≤ first_unprocessed m.processed) (sym a.1) (omega arith)
  rises_all n (e ∷ []) made n' a c = rises_one n e made n' a c
  rises_all n (e ∷ d ∷ events) made n' (mid, first, others, split, a, rest) c =
      let low : first_unprocessed n.processed ≤ first_unprocessed mid.processed = rises_one n e first mid a c in
      let high : first_unprocessed mid.processed ≤ first_unprocessed n'.processed = rises_all mid (d ∷ events) others n' rest (goes_on n e first mid a c) in
      omega arith

  steps_rise : (n : Node) (events : List Event) (made : Made) (n' : Node) → Steps config chain n events made n' → ConsecutiveFrom (first_unprocessed n.processed) n.out → first_unprocessed n.processed ≤ first_unprocessed n'.processed
  steps_rise n events made n' s c =
      subst (λ p. first_unprocessed n.processed ≤ first_unprocessed p) (sym (ap (λ m. m.processed) s.ticket ∙ synced_processed (write_count n) s.unticketed)) (rises_all n events made s.unticketed s.advances c)

  -- what an opening finds is at least what each pair says
  found_least : (k : ℕ) (e : Ended) (picks : Picks) (begin : Begin) (n : Node) → AllByRecursion (λ p. k ≤ next_after p.processed) e.meta → Finds config e picks begin n → k ≤ first_unprocessed n.processed
  found_least k e picks begin n a f =
      subst (λ p. k ≤ first_unprocessed p) (sym (ap (λ m. m.processed) f.node))
      (subst (λ j. k ≤ j) (sym (opened_first f.blocks.held f.pair.processed)) (AllByRecursion-contains (λ p. k ≤ next_after p.processed) e.meta f.pair a f.pair_may))

  found_out : (e : Ended) (picks : Picks) (begin : Begin) (n : Node) → Finds config e picks begin n → ConsecutiveFrom (first_unprocessed n.processed) n.out
  found_out e picks begin n f = subst (λ xs. ConsecutiveFrom (first_unprocessed n.processed) xs) (sym (ap (λ m. m.out) f.node)) tt

  -- what took up its cache has processed and handed over the same
  taken_up : (picked : Option (List Cached)) (n begun : Node) → TakesUp picked n begun → (begun.processed ≡ n.processed) × (begun.out ≡ n.out)
  taken_up picked n begun takes = (ap (λ m. m.processed) takes.begun_is, ap (λ m. m.out) takes.begun_is)

  cut_from : (picked : Option (List Cached)) (n begun : Node) → (begun ≡ n) ⊎ TakesUp picked n begun → (begun.processed ≡ n.processed) × (begun.out ≡ n.out)
  cut_from picked n begun (inl is) = (ap (λ m. m.processed) is, ap (λ m. m.out) is)
  cut_from picked n begun (inr takes) = taken_up picked n begun takes

  begun_out : (n begun : Node) → (begun.processed ≡ n.processed) × (begun.out ≡ n.out) → ConsecutiveFrom (first_unprocessed n.processed) n.out → ConsecutiveFrom (first_unprocessed begun.processed) begun.out
  begun_out n begun same c = subst (λ p. ConsecutiveFrom (first_unprocessed p) begun.out) (sym same.0) (subst (λ xs. ConsecutiveFrom (first_unprocessed n.processed) xs) (sym same.1) c)

  -- LINES

  step_least : (k : ℕ) (n : Node) (events : List Event) (outcomes : List Judged) (produced_answers : Node → List TicketAnswer) (out : Output) (after : State) → ConsecutiveFrom (first_unprocessed n.processed) n.out → k ≤ first_unprocessed n.processed → StepDone config chain n events outcomes produced_answers out after → IsInOrder after × AtLeast k after
  step_least k n events outcomes produced_answers out (running n') c low d =
      let rise : first_unprocessed n.processed ≤ first_unprocessed n'.processed = steps_rise n events d.0 (record n' { unanswered = n.unanswered }) d.1 c in
      ((d.1.good.heights.delivery.consecutive, d.1.good.heights.own_pair), omega arith)
  step_least k n events outcomes produced_answers out (stopped left) c low d =
      (tt, AllByRecursion-weaker (λ p. NotBelow (option_map height_in n.processed) p.processed) (λ p. k ≤ next_after p.processed) (λ p above. let same : next_after (option_map height_in n.processed) ≡ first_unprocessed n.processed = next_after-is n.processed in omega arith) left.meta d.3.cut.no_lower)

  steps_least : (k : ℕ) (n : Node) (events : List Event) (outcomes : List Judged) (produced_answers : Node → List TicketAnswer) (out : Output) (after : State) → IsInOrder (running n) → k ≤ first_unprocessed n.processed → EventsDone config chain n events outcomes produced_answers out after → IsInOrder after × AtLeast k after
  steps_least k n [] outcomes produced_answers out after s low d = subst (λ t. IsInOrder t × AtLeast k t) (sym d.1) (s, low)
  steps_least k n (e ∷ events) outcomes produced_answers out after s low d = step_least k n (e ∷ events) outcomes produced_answers out after s.0 low d

  open_least : (k : ℕ) (e : Ended) (picks : Picks) (begin : Begin) (out : Output) (after : State) → AllByRecursion (λ p. k ≤ next_after p.processed) e.meta → OpenDone config chain e picks begin out after → IsInOrder after × AtLeast k after
  open_least k e picks begin out (running n) a d =
      let o : Opens config chain e picks begin d.0 n = d.1 in
      let same = taken_up picks.cache o.first o.begun o.takes in
      let low : k ≤ first_unprocessed o.begun.processed = subst (λ p. k ≤ first_unprocessed p) (sym same.0) (found_least k e picks begin o.first a o.finds) in
      let rise : first_unprocessed o.begun.processed ≤ first_unprocessed n.processed = steps_rise o.begun (life_started (floor_of begin) ∷ []) d.0 n o.start (begun_out o.first o.begun same (found_out e picks begin o.first o.finds)) in
      ((o.start.good.heights.delivery.consecutive, o.start.good.heights.own_pair), omega arith)
  open_least k e picks begin out (stopped left) a d = (tt, cut d.3)
    where
      pair_least : (n : Node) (p : Pair) → k ≤ first_unprocessed n.processed → p ≡ pair_of n.processed n.cutoff → k ≤ next_after p.processed
      pair_least n p low is = subst (λ q. k ≤ next_after q.processed) (sym is) (let same : next_after (option_map height_in n.processed) ≡ first_unprocessed n.processed = next_after-is n.processed in omega arith)

      either : (p : Pair) → Contains e.meta p ⊎ OpeningPair config e picks begin p → k ≤ next_after p.processed
      either p (inl there) = AllByRecursion-contains (λ q. k ≤ next_after q.processed) e.meta p a there
      either p (inr (n, f, is)) = pair_least n p (found_least k e picks begin n a f) is

      cut : CutsOpening config chain e picks begin out.made d.0 left → AllByRecursion (λ p. k ≤ next_after p.processed) left.meta
      cut (inl c) = AllByRecursion-weaker _ _ either left.meta c.leaves.pairs
      cut (inr c) =
          let same = cut_from picks.cache c.first c.begun c.takes in
          let low : k ≤ first_unprocessed c.begun.processed = subst (λ p. k ≤ first_unprocessed p) (sym same.0) (found_least k e picks begin c.first a c.finds) in
          let fx : Effect = effect_of config c.begun (life_started (floor_of begin)) in
          let rise : first_unprocessed c.begun.processed ≤ first_unprocessed (processed_after c.begun (life_started (floor_of begin)) fx) = first_unprocessed-rises c.begun (life_started (floor_of begin)) fx (begun_out c.first c.begun same (found_out e picks begin c.first c.finds)) in
          let mine : next_after (option_map height_in c.begun.processed) ≡ first_unprocessed c.begun.processed = next_after-is c.begun.processed in
          let later : next_after (option_map height_in (processed_after c.begun (life_started (floor_of begin)) fx)) ≡ first_unprocessed (processed_after c.begun (life_started (floor_of begin)) fx) = next_after-is (processed_after c.begun (life_started (floor_of begin)) fx) in
          AllByRecursion-weaker _ _ (λ p there. one_of (λ q. k ≤ next_after q.processed) e.meta _ _ p a (omega arith) (omega arith) there) left.meta c.cut.leaves.pairs

  takes_least : (k : ℕ) (n : Node) (q : Option Queued) (out : Output) (after : State) → IsInOrder (running n) → k ≤ first_unprocessed n.processed → TakeDone config chain n q out after → IsInOrder after × AtLeast k after
  takes_least k n None out after s low d = absurd d
  takes_least k n (Some q) out after s low d = by (closes_nothing n q.message) d
    where
      taken_by : (m : Message) → OneDone config chain (with_close m n) (told_events n q) out after → IsInOrder after × AtLeast k after
      taken_by m d = steps_least k (with_close m n) (told_events n q) [] (λ n. []) out after (close_sound m n s) (close_least m n low) d

      by : (b : Bool) → TakenDone b config chain n q out after → IsInOrder after × AtLeast k after
      by true d = subst (λ t. IsInOrder t × AtLeast k t) (sym d.1) (s, low)
      by false d = taken_by q.message d

  acts_least : (k : ℕ) (n : Node) (line : Line) (out : Output) (after : State) → IsInOrder (running n) → k ≤ first_unprocessed n.processed → Acts config chain n line out after → IsInOrder after × AtLeast k after
  acts_least k n (open_line begin) out after s low d = absurd d
  acts_least k n (tell_line m) out after s low d = steps_least k (with_close m (with_ticket m n)) (told_events (with_ticket m n) (queued_of n m)) [] (λ m. []) out after (close_sound m (with_ticket m n) (ticket_sound m n s)) (close_least m (with_ticket m n) (ticket_least m n low)) d
  acts_least k n (peer_line key value) out after s low d = subst (λ t. IsInOrder t × AtLeast k t) (sym d.1) (s, low)
  acts_least k n (ask_line key) out after s low d = subst (λ t. IsInOrder t × AtLeast k t) (sym d.1) (s, low)
  acts_least k n serve_line out after s low d = steps_least k (record n { peers = (after_peer_take config.max_repair n.peers).1 }) (serve_events (filter (is_open n.peers.closed) (after_peer_take config.max_repair n.peers).0) d.0) (map judged_of (in_turn d.0)) (produced_answers (filter (is_open n.peers.closed) (after_peer_take config.max_repair n.peers).0)) out after s low d.2
  acts_least k n (buffer_line b) out after s low d = steps_least k (record n { buffer = n.buffer ++ b ∷ [] }) (if is_subscribed n b then block_buffered b ∷ [] else []) [] (λ m. []) out after s low d
  acts_least k n bufclose_line out after s low d = steps_least k (record n { buffer_closed = true }) (buffer_ended ∷ []) [] (λ m. []) out after s low d
  acts_least k n (put_line m) out after s low d = subst (λ t. IsInOrder t × AtLeast k t) (sym d.1) (ticket_sound m n s, ticket_least m n low)
  acts_least k n take_line out after s low d = takes_least k (record n { inbox = (after_take n.inbox).1 }) (after_take n.inbox).0 out after s low d
  acts_least k n (sync_line t) out after s low d = steps_least k n (sync_finished t ∷ []) [] (λ m. []) out after s low d
  acts_least k n (ack_line t) out after s low d = steps_least k n (ack_given t ∷ []) [] (λ m. []) out after s low d
  acts_least k n (drop_line t) out after s low d = steps_least k n (ack_dropped t ∷ []) [] (λ m. []) out after s low d
  acts_least k n (fail_line store j) out after s low d = subst (λ t. IsInOrder t × AtLeast k t) (sym d.1) (s, low)
  acts_least k n (crash_line luck) out after s low d =
      subst (λ t. IsInOrder t × AtLeast k t) (sym d.1)
      (tt, subst (λ m. AllByRecursion {X = Pair} (λ p. k ≤ next_after p.processed) m) (sym s.1) (subst (λ j. k ≤ j) (sym (next_after-is n.processed)) low, tt))

  running_least : (k : ℕ) (n : Node) (line : Line) (remark : Option Remark) (out : Output) (after : State) → IsInOrder (running n) → k ≤ first_unprocessed n.processed → RunningDone config chain n line remark out after → IsInOrder after × AtLeast k after
  running_least k n line (Some said) out after s low d = subst (λ t. IsInOrder t × AtLeast k t) (sym d.1) (s, low)
  running_least k n line None out after s low d = acts_least k n line out after s low d

  line_least : (k : ℕ) (account : Account) (state : State) (line : Line) (out : Output) (after : State) → IsInOrder state → AtLeast k state → LineDone config chain account state line out after → IsInOrder after × AtLeast k after
  line_least k account (running n) line out after s low d = running_least k n line (refusal n line) out after s low d
  line_least k account (stopped e) (open_line begin) out after s low d = open_least k e (next_picks account e) begin out after low d
  line_least k account (stopped e) (fail_line store j) out after s low d = subst (λ t. IsInOrder t × AtLeast k t) (sym d.1) (s, low)
  line_least k account (stopped e) (crash_line luck) out after s low d = subst (λ t. IsInOrder t × AtLeast k t) (sym d.1) (s, low)
  line_least k account (stopped e) _ out after s low d = subst (λ t. IsInOrder t × AtLeast k t) (sym d.1) (s, low)

  -- from any state on, no later state is below it, whatever crashes or is opened again
  pub run_outlives : (k : ℕ) (account : Account) (state : State) (run : List Done) (last : State) → IsInOrder state → AtLeast k state → Run config chain account state run last → AllByRecursion (λ d. AtLeast k d.after) run
  run_outlives k account state [] last s low r = tt
  run_outlives k account state (d ∷ run) last s low r =
      let next : IsInOrder d.after × AtLeast k d.after = line_least k account state d.line d.output d.after s low r.0 in
      (next.1, run_outlives k d.account d.after run last next.0 next.1 r.2)
