-- In the headline's own words: each block that a run hands over is the chain's at its height.
use Rattle.std.proofs.Common.{Bool, true, false, ◌≡◌, List, [], ◌∷◌, ◌++◌, Option, Some, None, refl, sym, ap, subst, inl, inr, true, if◌then◌else◌, map, filter}
use Rattle.std.specs.List.{AllByRecursion}
use Rattle.mar_model_tests.specs.Laws.{AreChains, RunHandsChain}
use Rattle.mar_cert.specs.Block.{Block}
use Rattle.mar_model.specs.Chain.{Chain, IsBlockAt}
use Rattle.mar_store.specs.Kept.{At}
use Rattle.mar_store.proofs.Lookups.{AllByRecursion-append}
use Rattle.mar_key.specs.Asked.{Judged}
use Rattle.mar_model.specs.Messages.{Queued}
use Rattle.mar_model.specs.Config.{Config}
use Rattle.mar_model.specs.Node.{Node, Ended}
use Rattle.mar_model.specs.Event.{Event, life_started, ack_given, ack_dropped, sync_finished, block_buffered, buffer_ended}
use Rattle.mar_inbox.specs.Policy.{after_take}
use Rattle.mar_key.specs.PeerQueue.{is_open, after_peer_take}
use Rattle.mar_model.specs.Judge.{serve_events, judged_of, in_turn}
use Rattle.mar_model.specs.Answers.{TicketAnswer}
use Rattle.mar_model.specs.Faults.{Fault, Begin, floor_of}
use Rattle.mar_model.specs.Step.{Report, new_tip, handed_over, HandedBlock, Made, handed_blocks, AreHandedOf, AdvancesAll}
use Rattle.mar_model.specs.Lives.{Cuts, CutsOpening, Picks}
use Rattle.mar_script.specs.Accounts.{Account}
use Rattle.mar_script.specs.Script.{Line, open_line, tell_line, peer_line, ask_line, serve_line, buffer_line, bufclose_line, put_line, take_line, sync_line, ack_line, drop_line, fail_line, crash_line}
use Rattle.mar_script.specs.Text.{State, running, stopped, Output, Done, Remark}
use Rattle.mar_script.specs.Run.{refusal, with_close, with_ticket, told_events, queued_of, is_subscribed, produced_answers, StepDone, EventsDone, OpenDone, TakeDone, TakenDone, closes_nothing, Acts, RunningDone, LineDone, Run, next_picks}

handed-append : (xs ys : List Report) → handed_blocks (xs ++ ys) ≡ handed_blocks xs ++ handed_blocks ys
handed-append [] ys = refl
handed-append (new_tip r h d ∷ xs) ys = handed-append xs ys
handed-append (handed_over t b ∷ xs) ys = ap (λ zs. record { ticket = t; block = b } ∷ zs) (handed-append xs ys)

both : (chain : Chain) (xs ys : List Report) → AreChains chain xs → AreChains chain ys → AreChains chain (xs ++ ys)
both chain xs ys p q = subst (λ zs. AllByRecursion {X = HandedBlock} (λ x. IsBlockAt chain x.block.height x.block) zs) (sym (handed-append xs ys)) (AllByRecursion-append (λ x. IsBlockAt chain x.block.height x.block) (handed_blocks xs) (handed_blocks ys) p q)

module _ (config : Config) (chain : Chain) where
  from : (sure : List (At Block)) (xs : List HandedBlock) → AreHandedOf chain sure xs → AllByRecursion (λ x. IsBlockAt chain x.block.height x.block) xs
  from sure [] h = tt
  from sure (x ∷ xs) h = ((h.0).0, from sure xs h.1)

  advances : (n : Node) (events : List Event) (made : Made) (n' : Node) → AdvancesAll config chain n events made n' → AreChains chain made.reports
  advances n [] made n' a = subst (λ m. AreChains chain m.reports) (sym a.0) tt
  advances n (e ∷ []) made n' a = from _ _ a.hands_chain
  advances n (e ∷ d ∷ events) made n' (mid, first, others, split, a, rest) =
      subst (λ m. AreChains chain m.reports) (sym split) (both chain first.reports others.reports (from _ _ a.hands_chain) (advances mid (d ∷ events) others n' rest))

  cuts : (n : Node) (events : List Event) (made : Made) (fault : Fault) (left : Ended) → Cuts config chain n events made fault left → AreChains chain made.reports
  cuts n events made fault left c = subst (λ m. AreChains chain m.reports) (sym c.made_is) (both chain c.first.reports c.later.reports (advances n c.finished c.first c.mid c.advances) (from _ _ c.cut.hands_chain))

  cuts_opening : (e : Ended) (picks : Picks) (begin : Begin) (made : Made) (fault : Fault) (left : Ended) → CutsOpening config chain e picks begin made fault left → AreChains chain made.reports
  cuts_opening e picks begin made fault left (inl c) = subst (λ m. AreChains chain m.reports) (sym c.silent) tt
  cuts_opening e picks begin made fault left (inr c) = from _ _ c.cut.hands_chain

  step : (n : Node) (events : List Event) (outcomes : List Judged) (produced_answers : Node → List TicketAnswer) (out : Output) (after : State) → StepDone config chain n events outcomes produced_answers out after → AreChains chain out.made.reports
  step n events outcomes produced_answers out (running n') d = subst (λ o. AreChains chain o.made.reports) (sym d.3) (advances n events d.0 d.1.unticketed d.1.advances)
  step n events outcomes produced_answers out (stopped left) d = cuts n events out.made d.0 left d.3

  steps : (n : Node) (events : List Event) (outcomes : List Judged) (produced_answers : Node → List TicketAnswer) (out : Output) (after : State) → EventsDone config chain n events outcomes produced_answers out after → AreChains chain out.made.reports
  steps n [] outcomes produced_answers out after d = subst (λ o. AreChains chain o.made.reports) (sym d.0) tt
  steps n (e ∷ events) outcomes produced_answers out after d = step n (e ∷ events) outcomes produced_answers out after d

  opens : (e : Ended) (picks : Picks) (begin : Begin) (out : Output) (after : State) → OpenDone config chain e picks begin out after → AreChains chain out.made.reports
  opens e picks begin out (running n) d = subst (λ o. AreChains chain o.made.reports) (sym d.3) (advances d.1.begun (life_started (floor_of begin) ∷ []) d.0 d.1.start.unticketed d.1.start.advances)
  opens e picks begin out (stopped left) d = cuts_opening e picks begin out.made d.0 left d.3

  taken_by : (b : Bool) (n : Node) (q : Queued) (out : Output) (after : State) → TakenDone b config chain n q out after → AreChains chain out.made.reports
  taken_by true n q out after d = subst (λ o. AreChains chain o.made.reports) (sym d.0) tt
  taken_by false n q out after d = steps (with_close q.message n) (told_events n q) [] (λ m. []) out after d

  takes : (n : Node) (q : Option Queued) (out : Output) (after : State) → TakeDone config chain n q out after → AreChains chain out.made.reports
  takes n None out after d = absurd d
  takes n (Some q) out after d = taken_by (closes_nothing n q.message) n q out after d

  acts : (n : Node) (line : Line) (out : Output) (after : State) → Acts config chain n line out after → AreChains chain out.made.reports
  acts n (open_line begin) out after d = absurd d
  acts n (tell_line m) out after d = steps (with_close m (with_ticket m n)) (told_events (with_ticket m n) (queued_of n m)) [] (λ m. []) out after d
  acts n (peer_line key value) out after d = subst (λ o. AreChains chain o.made.reports) (sym d.0) tt
  acts n (ask_line key) out after d = subst (λ o. AreChains chain o.made.reports) (sym d.0) tt
  acts n serve_line out after d = steps (record n { peers = (after_peer_take config.max_repair n.peers).1 }) (serve_events (filter (is_open n.peers.closed) (after_peer_take config.max_repair n.peers).0) d.0) (map judged_of (in_turn d.0)) (produced_answers (filter (is_open n.peers.closed) (after_peer_take config.max_repair n.peers).0)) out after d.2
  acts n (buffer_line b) out after d = steps (record n { buffer = n.buffer ++ b ∷ [] }) (if is_subscribed n b then block_buffered b ∷ [] else []) [] (λ m. []) out after d
  acts n bufclose_line out after d = steps (record n { buffer_closed = true }) (buffer_ended ∷ []) [] (λ m. []) out after d
  acts n (put_line m) out after d = subst (λ o. AreChains chain o.made.reports) (sym d.0) tt
  acts n take_line out after d = takes (record n { inbox = (after_take n.inbox).1 }) (after_take n.inbox).0 out after d
  acts n (sync_line t) out after d = steps n (sync_finished t ∷ []) [] (λ m. []) out after d
  acts n (ack_line t) out after d = steps n (ack_given t ∷ []) [] (λ m. []) out after d
  acts n (drop_line t) out after d = steps n (ack_dropped t ∷ []) [] (λ m. []) out after d
  acts n (fail_line store k) out after d = subst (λ o. AreChains chain o.made.reports) (sym d.0) tt
  acts n (crash_line luck) out after d = subst (λ o. AreChains chain o.made.reports) (sym d.0) tt

  while_running : (n : Node) (line : Line) (remark : Option Remark) (out : Output) (after : State) → RunningDone config chain n line remark out after → AreChains chain out.made.reports
  while_running n line (Some said) out after d = subst (λ o. AreChains chain o.made.reports) (sym d.0) tt
  while_running n line None out after d = acts n line out after d

  line_done : (account : Account) (state : State) (line : Line) (out : Output) (after : State) → LineDone config chain account state line out after → AreChains chain out.made.reports
  line_done account (running n) line out after d = while_running n line (refusal n line) out after d
  line_done account (stopped e) (open_line begin) out after d = opens e (next_picks account e) begin out after d
  line_done account (stopped e) (fail_line store k) out after d = subst (λ o. AreChains chain o.made.reports) (sym d.0) tt
  line_done account (stopped e) (crash_line luck) out after d = subst (λ o. AreChains chain o.made.reports) (sym d.0) tt
  line_done account (stopped e) _ out after d = subst (λ o. AreChains chain o.made.reports) (sym d.0) tt

  pub run_hands_chain : (account : Account) (state : State) (run : List Done) (last : State) → Run config chain account state run last → RunHandsChain chain run
  run_hands_chain account state [] last r = tt
  run_hands_chain account state (d ∷ run) last r = (line_done account state d.line d.output d.after r.0, run_hands_chain d.account d.after run last r.2)
