-- The headline of a replay, from the lines that were read and done, by each way in which it stops.
use Rattle.std.proofs.Common.{Err, List, None, Ok, Option, Some, [], arith, inl, inr, length, refl, subst, sym, ℕ, ◌++◌, ◌+◌, ◌<◌, ◌∙◌, ◌∷◌, ◌≡◌}
use Rattle.std.specs.Prelude.{IfSome, Result}
use Rattle.std.proofs.lemmas.List.{append-nil}
use Rattle.mar_block.specs.Sent.{Held}
use Rattle.mar_key.specs.Asked.{Asked}
use Rattle.mar_store.specs.Changes.{IsNested}
use Rattle.mar_store.proofs.Lookups.{has_height-within}
use Rattle.mar_model.specs.Chain.{Chain}
use Rattle.mar_model.specs.Config.{Config}
use Rattle.mar_model.specs.Faults.{want_of_memory}
use Rattle.mar_model.specs.Held.{Remains, remains_of}
use Rattle.mar_model.specs.Promise.{Waiting, node_of}
use Rattle.mar_model.specs.Node.{Ended}
use Rattle.mar_model.specs.Step.{IsFront, Made, nothing_made}
use Rattle.mar_script.specs.Endings.{IsReadersEnd, IsWritersEnd}
use Rattle.mar_script.specs.Lines.{plain_line}
use Rattle.mar_script.specs.Accounts.{AccountsFor, luck_after}
use Rattle.mar_script.specs.Plays.{IsSmallLine, Plays}
use Rattle.mar_replay.specs.Playing.{HasLuck, HasSmallBlocks, IsSetAs, SeenNode, Turned, TurnsLine, WritesText, account_in}
use Rattle.mar_script.specs.Reading.{ReplaysWhereTold, StopsWith, TakesFirst, TakesNext, ending_of}
use Rattle.mar_script.specs.Refused.{max_lines}
use Rattle.mar_script.specs.Run.{HandsBack, HeadlineWhereTold, IsConfigBytes, IsLineBytes, Premises, Replays, Status, out_of_memory, outside_grammar, read_failed, read_to_end, write_failed}
use Rattle.mar_script.specs.Script.{IsSettings, Line, Settings, config_of, settings_bytes}
use Rattle.mar_script.specs.Streams.{Gives, Takes, TakesFront}
use Rattle.mar_script.specs.Text.{Output, State, output_text, running, silent_output, stopped, text}
use Rattle.mar_replay.specs.Turn.{open_in, output_of, remains_in, state_of, state_with}
use Rattle.mar_script.specs.declared.Line.{Line as LineCode}
use Rattle.mar_replay.specs.declared.play.Outcome.TheVariants as outcome
use Rattle.mar_replay.specs.declared.play.State.{State as StateCode}
use Rattle.mar_replay.specs.declared.play.State.TheVariants as state
use Rattle.mar_script.specs.declared.Status.{Status as StatusCode}
use Rattle.mar_script.specs.declared.Status.TheVariants as status
use Rattle.mar_script.proofs.ReadSteps.{SoFar, begins, ends, goes_on, shown}
use Rattle.mar_replay.proofs.OpenStates.{done_counted, done_lucky, done_open, done_plays, done_set, done_small, opened_now}
use Rattle.mar_replay.proofs.Replaying.{RunSoFar, StopsBetween, StopsInText, first_run, front_output, lawful_next, left_in, more_run, premises_before, stops_between, stops_in_text}
use Rattle.mar_script.proofs.Streams.{takes_more, takes_none}

err_inside : {U : Type 0} (a b : StatusCode) → ◌≡◌ {A = Result U StatusCode} (Err a) (Err b) → a ≡ b
err_inside a b is = cc

pub ok_not_err : {U : Type 0} (u : U) (b : StatusCode) → ◌≡◌ {A = Result U StatusCode} (Ok u) (Err b) → ⊥
ok_not_err u b is = cc

-- where there is an answer there is no fault
pub no_fault : {U : Type 0} {u : U} (b : StatusCode) → ◌≡◌ {A = Result U StatusCode} (Ok u) (Err b) → ⊥
no_fault b is = cc

-- a node's stores are handed back
pub hands_running : (seen : SeenNode) (buffer : Held) → IsNested seen.held.blocks → IsNested seen.held.certs → (waiting : Waiting) → HandsBack (running (node_of seen buffer.blocks waiting)) (remains_of seen.held).ended
hands_running seen buffer blocks certs waiting = (
  λ h. refl,
  λ h. refl,
  refl,
  has_height-within seen.held.blocks.held seen.held.blocks.may blocks.held_may,
  has_height-within seen.held.certs.held seen.held.certs.may certs.held_may,
)

module _ (source : Option (List ℕ)) (s : Settings) (valid : IsSettings s) (before : Remains) (sunk : Option (List ℕ)) where
  -- what was read, with all that was written
  told : (pending : List ℕ) (now : Option (List ℕ)) (number : ℕ) (read : List ℕ) (after : Option (List ℕ)) (ending : Status) (sunk' : Option (List ℕ)) (bytes : List ℕ) (left : Remains) (reads : SoFar source s pending now number) → Gives now read after → StopsWith number (IsLineBytes s.members) (pending ++ read) after ending
      → Takes sunk bytes sunk' → ((chain : Chain) → Premises (config_of s) chain reads.lines before.ended → Replays (config_of s) chain reads.lines bytes ending before left) → HeadlineWhereTold source after sunk sunk' ending before left
  unfolding ends
  told pending now number read after ending sunk' bytes left reads gives stops takes runs =
      let r = ends source s pending now number read after ending valid reads gives stops in
      let front = shown sunk in (r.taken, r.left, front.0, bytes, r.told, r.still, front.1, takes front.0 front.1, record { settings = Some s; lines = reads.lines; rest = pending ++ read; told = (r.reading.reads, runs) })

  -- nothing more can be said of the source
  out_here : (number : ℕ) (rest : List ℕ) (after : Option (List ℕ)) → StopsWith number (IsLineBytes s.members) rest after out_of_memory
  out_here number rest after = record { left = (shown after).0; still = (shown after).1; stops = tt }

  -- the settings were read, and what there is at first was not written whole
  unshown : (pending : List ℕ) (now : Option (List ℕ)) (taken : List ℕ) (ending : Status) (sunk' : Option (List ℕ)) → StopsInText ending → Gives source taken now → taken ≡ settings_bytes s ++ pending → StopsWith 2 (IsLineBytes s.members) (pending ++ []) now ending → TakesFront sunk (text before.ended []) sunk'
      → HeadlineWhereTold source now sunk sunk' ending before before
  unfolding begins
  unshown pending now taken ending sunk' inside gives is stops (front, of_text, takes) =
      told pending now 2 [] now ending sunk' front before (begins source s pending now taken gives is) (λ rest h. h) stops takes
      (λ chain p. record {
        run = [];
        lines_done = refl;
        last = stopped before.ended;
        lives = refl;
        output = front_output ending front (text before.ended []) inside of_text;
        hands_back = ((λ h. refl), (λ h. refl), refl, (λ h. refl), (λ h. refl));
        watches_are = refl;
        good = p.good;
        some_pair = p.some_pair;
        memory = tt;
        excused = tt;
        complete = λ q smooth. tt;
      })

  pub stops_unshown : (pending : List ℕ) (now : Option (List ℕ)) (taken : List ℕ) (sunk' : Option (List ℕ)) (code : StatusCode) → IsWritersEnd code → Gives source taken now → taken ≡ settings_bytes s ++ pending → TakesFront sunk (text before.ended []) sunk' → ReplaysWhereTold source now sunk sunk' code before before
  stops_unshown pending now taken sunk' status.Memory end gives is front = unshown pending now taken out_of_memory sunk' tt gives is (out_here 2 (pending ++ []) now) front
  stops_unshown pending now taken sunk' status.WriteFault end gives is front = unshown pending now taken write_failed sunk' tt gives is (record { left = (shown now).0; still = (shown now).1; stops = omega arith }) front
  stops_unshown pending now taken sunk' (status.Script n why) end gives is front = absurd end
  stops_unshown pending now taken sunk' status.ReadFault end gives is front = absurd end
  stops_unshown pending now taken sunk' status.Ok end gives is front = absurd end
  stops_unshown pending now taken sunk' status.Usage end gives is front = absurd end

-- what there is at first is the text of no lines
pub shown_first : {U : Type 0} (sunk sunk' : Option (List ℕ)) (made : Made) (before : Ended) (written : Result U StatusCode) → made ≡ nothing_made → WritesText sunk (λ asked. output_text (output_of made outcome.Done) (stopped before)) sunk' written → WritesText sunk (λ asked. text before []) sunk' written
shown_first sunk sunk' made before written silent wrote =
    subst (λ bs. WritesText sunk (λ asked. bs) sunk' written) (sym (append-nil (output_text silent_output (stopped before))))
    (subst (λ m. WritesText sunk (λ asked. output_text (output_of m outcome.Done) (stopped before)) sunk' written) silent wrote)

module _ {H R : Type 0} where
  -- a state's text doesn't depend on the open requests
  pub text_open : (out : Output) (s : StateCode H R) (asked : List Asked) → output_text out (state_with asked s) ≡ output_text out (state_with [] s)
  unfolding output_text
  text_open out (state.Running seen buffer pending) asked = refl
  text_open out (state.Stopped left luck) asked = refl

  pub left_remains : (s : StateCode H R) (asked : List Asked) → left_in (state_with asked s) ≡ (remains_in s).ended
  left_remains (state.Running seen buffer pending) asked = refl
  left_remains (state.Stopped left luck) asked = refl

  -- a line that was written leaves the settings, and small blocks
  pub turned_set : {U : Type 0} (config : Config) (c d : StateCode H R) (l : Line) (sunk sunk' : Option (List ℕ)) (written : Result U StatusCode) → TurnsLine config c l sunk d sunk' written → IsSetAs config c → IsSetAs config d
  turned_set config c d l sunk sunk' written (inl (memory, same, takes)) set = subst (IsSetAs config) (sym same) set
  turned_set config c d l sunk sunk' written (inr turned) set = done_set config c d l sunk sunk' written turned set

  pub turned_small : {U : Type 0} (config : Config) (c d : StateCode H R) (l : Line) (sunk sunk' : Option (List ℕ)) (written : Result U StatusCode) → TurnsLine config c l sunk d sunk' written → IsSmallLine l → HasSmallBlocks c → HasSmallBlocks d
  turned_small config c d l sunk sunk' written (inl (memory, same, takes)) line small = subst HasSmallBlocks (sym same) small
  turned_small config c d l sunk sunk' written (inr turned) line small = done_small config c d l sunk sunk' written turned line small

  -- The lines that were read and done so far, what was written, and the run that it is for each lawful chain.
  pub record HeadSoFar (source : Option (List ℕ)) (s : Settings) (pending : List ℕ) (now : Option (List ℕ)) (number : ℕ) (before : Remains) (code : StateCode H R) (sunk sunk' : Option (List ℕ)) : Type 0 where
    pub reads : SoFar source s pending now number
    pub bytes : List ℕ
    pub takes : Takes sunk bytes sunk'
    pub luck : ℕ
    pub lucky : HasLuck luck code
    pub runs : (chain : Chain) → Premises (config_of s) chain reads.lines before.ended → RunSoFar (config_of s) chain before reads.lines (account_in luck code) (state_of code) bytes

  module _ (source : Option (List ℕ)) (s : Settings) (valid : IsSettings s) (before : Remains) (sunk : Option (List ℕ)) where
    -- BETWEEN TWO LINES

    module _ (pending : List ℕ) (now : Option (List ℕ)) (number : ℕ) (c : StateCode H R) (sunk' : Option (List ℕ)) (so : HeadSoFar source s pending now number before c sunk sunk') (hands : (asked : List Asked) → HandsBack (state_with asked c) (remains_in c).ended) where
      between : (read : List ℕ) (after : Option (List ℕ)) (ending : Status) → StopsBetween ending → Gives now read after → StopsWith number (IsLineBytes s.members) (pending ++ read) after ending → HeadlineWhereTold source after sunk sunk' ending before (remains_in c)
      between read after ending here gives stops =
          told source s valid before sunk pending now number read after ending sunk' so.bytes (remains_in c) so.reads gives stops so.takes
          (λ chain p. stops_between ending (config_of s) chain before so.reads.lines (account_in so.luck c) (state_of c) so.bytes (remains_in c) here (so.runs chain p) refl (left_remains c (open_in c)) (hands (open_in c)))

      -- there is no next line, or it can't be had
      pub stops_reading : (code : StatusCode) (still : List ℕ) (after : Option (List ℕ)) → IsReadersEnd code → TakesNext s.members number now pending (Err code) still after → ReplaysWhereTold source after sunk sunk' code before (remains_in c)
      stops_reading status.Memory still after end t = between t.read after out_of_memory tt t.gives t.next
      stops_reading (status.Script n why) still after end t = between t.read after (outside_grammar n why) tt t.gives t.next
      stops_reading status.ReadFault still after end t = between t.read after read_failed tt t.gives t.next
      stops_reading status.WriteFault still after end t = absurd end
      stops_reading status.Ok still after end t = absurd end
      stops_reading status.Usage still after end t = absurd end

      pub stops_at_end : (still : List ℕ) (after : Option (List ℕ)) → TakesNext s.members number now pending (Ok None) still after → ReplaysWhereTold source after sunk sunk' status.Ok before (remains_in c)
      stops_at_end still after t = between t.read after read_to_end tt t.gives (record { left = []; still = t.next.1; stops = (omega (arith, so.reads.count), t.next.0, refl) })

    -- IN A LINE

    module _ (pending : List ℕ) (now : Option (List ℕ)) (number : ℕ) (c : StateCode H R) (sunk' : Option (List ℕ)) (so : HeadSoFar source s pending now number before c sunk sunk') (l : LineCode) (still : List ℕ) (after : Option (List ℕ)) (t : TakesNext s.members number now pending (Ok (Some l)) still after) where
      -- memory ran out before the line did anything
      pub stops_undone : (sunk2 : Option (List ℕ)) → Takes sunk' [] sunk2 → ((asked : List Asked) → HandsBack (state_with asked c) (remains_in c).ended) → ReplaysWhereTold source after sunk sunk2 status.Memory before (remains_in c)
      stops_undone sunk2 takes hands =
          told source s valid before sunk pending now number t.read after out_of_memory sunk2 so.bytes (remains_in c) so.reads t.gives (out_here source s valid before sunk number (pending ++ t.read) after) (subst (λ bs. Takes sunk bs sunk2) (append-nil so.bytes) (takes_more sunk sunk' sunk2 so.bytes [] so.takes takes))
          (λ chain p. stops_between out_of_memory (config_of s) chain before so.reads.lines (account_in so.luck c) (state_of c) so.bytes (remains_in c) tt (so.runs chain p) refl (left_remains c (open_in c)) (hands (open_in c)))

      module _ {U : Type 0} (d : StateCode H R) (sunk2 : Option (List ℕ)) (written : Result U StatusCode) (set : IsSetAs (config_of s) c) (turned : Turned (config_of s) c (plain_line l) sunk' d sunk2 written) where
        abbrev text_now : List ℕ
        text_now = output_text turned.out (state_with [] d)

        abbrev luck_now : ℕ
        luck_now = luck_after so.luck (plain_line l) turned.out.fault

        -- the state behind the line
        abbrev state_now : State
        state_now = state_with (opened_now (config_of s) c d (plain_line l) sunk' sunk2 written turned) d

        -- what the stores tell behind the line
        counted : AccountsFor (account_in so.luck c) (plain_line l) turned.out.fault (account_in luck_now d)
        counted = done_counted (config_of s) c d (plain_line l) sunk' sunk2 written turned so.luck

        -- the run before it, and what the line makes of its state
        before_line : (chain : Chain) → Premises (config_of s) chain (so.reads.lines ++ plain_line l ∷ []) before.ended → RunSoFar (config_of s) chain before so.reads.lines (account_in so.luck c) (state_of c) so.bytes
        before_line chain p = so.runs chain (premises_before (config_of s) chain so.reads.lines (plain_line l) before.ended p)

        played : (chain : Chain) (p : Premises (config_of s) chain (so.reads.lines ++ plain_line l ∷ []) before.ended) → Plays (config_of s) chain (length so.reads.lines) (account_in so.luck c) (state_of c) (plain_line l) turned.out state_now
        played chain p =
            done_plays (config_of s) c d (plain_line l) sunk' sunk2 written turned set so.luck so.lucky chain (length so.reads.lines)
            (lawful_next (config_of s) chain before so.reads.lines (plain_line l) (account_in so.luck c) (state_of c) so.bytes p (before_line chain p) (omega (arith, so.reads.few)) valid.window.1)

        -- the line was done and written
        pub goes_further : (u : U) → written ≡ Ok u → HeadSoFar source s still after (number + 1) before d sunk sunk2
        unfolding goes_on
        goes_further u is = record {
          reads = goes_on source s pending now number l still after so.reads t;
          bytes = so.bytes ++ text_now;
          takes = takes_more sunk sunk' sunk2 so.bytes text_now so.takes (subst (λ w. WritesText sunk' (λ asked. output_text turned.out (state_with asked d)) sunk2 w) is turned.wrote []);
          luck = luck_now;
          lucky = done_lucky (config_of s) c d (plain_line l) sunk' sunk2 written turned so.luck so.lucky;
          runs = λ chain p.
              subst (λ x. RunSoFar (config_of s) chain before (so.reads.lines ++ plain_line l ∷ []) (account_in luck_now d) x (so.bytes ++ text_now)) (done_open (config_of s) c d (plain_line l) sunk' sunk2 written turned u is)
              (subst (λ bs. RunSoFar (config_of s) chain before (so.reads.lines ++ plain_line l ∷ []) (account_in luck_now d) state_now (so.bytes ++ bs)) (text_open turned.out d (opened_now (config_of s) c d (plain_line l) sunk' sunk2 written turned))
              (more_run (config_of s) chain before so.reads.lines (plain_line l) (account_in so.luck c) (state_of c) so.bytes p (before_line chain p) turned.out state_now (account_in luck_now d) (played chain p) counted
              (λ memory. ok_not_err u status.Memory (sym is ∙ turned.memory memory))));
        }

        in_text : (ending : Status) → StopsInText ending → (turned.out.fault ≡ Some want_of_memory → ending ≡ out_of_memory) → TakesFront sunk' text_now sunk2 → StopsWith (number + 1) (IsLineBytes s.members) (still ++ []) after ending → ((asked : List Asked) → HandsBack (state_with asked d) (remains_in d).ended)
            → HeadlineWhereTold source after sunk sunk2 ending before (remains_in d)
        unfolding goes_on
        in_text ending inside memory (front, is, takes) stops hands =
            told source s valid before sunk still after (number + 1) [] after ending sunk2 (so.bytes ++ front) (remains_in d) (goes_on source s pending now number l still after so.reads t) (λ rest h. h) stops (takes_more sunk sunk' sunk2 so.bytes front so.takes takes)
            (λ chain p.
            stops_in_text (config_of s) chain before so.reads.lines (plain_line l) (account_in so.luck c) (state_of c) so.bytes p (before_line chain p) turned.out state_now (account_in luck_now d) (played chain p) counted
            ending front (remains_in d) inside (subst (λ whole. IsFront front whole) (sym (text_open turned.out d (opened_now (config_of s) c d (plain_line l) sunk' sunk2 written turned))) is) memory refl (left_remains d (opened_now (config_of s) c d (plain_line l) sunk' sunk2 written turned)) (hands (opened_now (config_of s) c d (plain_line l) sunk' sunk2 written turned)))

        -- the line was done, and writing or memory failed
        pub stops_unwritten : (code : StatusCode) → written ≡ Err code → IsWritersEnd code → ((asked : List Asked) → HandsBack (state_with asked d) (remains_in d).ended) → ReplaysWhereTold source after sunk sunk2 code before (remains_in d)
        stops_unwritten status.Memory is end hands = in_text out_of_memory tt (λ memory. refl) (subst (λ w. WritesText sunk' (λ asked. output_text turned.out (state_with asked d)) sunk2 w) is turned.wrote []) (out_here source s valid before sunk (number + 1) (still ++ []) after) hands
        stops_unwritten status.WriteFault is end hands =
            in_text write_failed tt (λ memory. absurd (apart (err_inside status.WriteFault status.Memory (sym is ∙ turned.memory memory)))) (subst (λ w. WritesText sunk' (λ asked. output_text turned.out (state_with asked d)) sunk2 w) is turned.wrote [])
            (record { left = (shown after).0; still = (shown after).1; stops = omega (arith, so.reads.count) }) hands
          where
            apart : status.WriteFault ≡ status.Memory → ⊥
            apart same = cc
        stops_unwritten (status.Script n why) is end hands = absurd end
        stops_unwritten status.ReadFault is end hands = absurd end
        stops_unwritten status.Ok is end hands = absurd end
        stops_unwritten status.Usage is end hands = absurd end

      -- the same of a line that was done or not
      pub stops_turn : {U : Type 0} (d : StateCode H R) (sunk2 : Option (List ℕ)) (written : Result U StatusCode) (code : StatusCode) → IsSetAs (config_of s) c → TurnsLine (config_of s) c (plain_line l) sunk' d sunk2 written → written ≡ Err code → IsWritersEnd code → ((asked : List Asked) → HandsBack (state_with asked d) (remains_in d).ended)
          → ReplaysWhereTold source after sunk sunk2 code before (remains_in d)
      stops_turn d sunk2 written code set (inl (memory, same, takes)) is end hands =
          subst (λ k. ReplaysWhereTold source after sunk sunk2 k before (remains_in d)) (sym (err_inside code status.Memory (sym is ∙ memory)))
          (subst (λ x. ReplaysWhereTold source after sunk sunk2 status.Memory before (remains_in x)) (sym same) (stops_undone sunk2 takes (subst (λ x. (asked : List Asked) → HandsBack (state_with asked x) (remains_in x).ended) same hands)))
      stops_turn d sunk2 written code set (inr turned) is end hands = stops_unwritten d sunk2 written set turned code is end hands

      pub turn_goes_further : {U : Type 0} (d : StateCode H R) (sunk2 : Option (List ℕ)) (written : Result U StatusCode) (u : U) → IsSetAs (config_of s) c → TurnsLine (config_of s) c (plain_line l) sunk' d sunk2 written → written ≡ Ok u → HeadSoFar source s still after (number + 1) before d sunk sunk2
      turn_goes_further d sunk2 written u set (inl (memory, same, takes)) is = absurd (ok_not_err u status.Memory (sym is ∙ memory))
      turn_goes_further d sunk2 written u set (inr turned) is = goes_further d sunk2 written set turned u is

    -- so many lines can't have been done
    pub head_never : {T : Type 0} (pending : List ℕ) (now : Option (List ℕ)) (number : ℕ) (c : StateCode H R) (sunk' : Option (List ℕ)) → HeadSoFar source s pending now number before c sunk sunk' → max_lines + 1 < number → T
    head_never pending now number c sunk' so past = absurd (omega (arith, so.reads.count, so.reads.few))

    -- BEFORE THE FIRST LINE

    pub begins_head : (pending : List ℕ) (now : Option (List ℕ)) (taken : List ℕ) (c : StateCode H R) (sunk' : Option (List ℕ)) → Gives source taken now → taken ≡ settings_bytes s ++ pending → c ≡ state.Stopped before 0 → Takes sunk (text before.ended []) sunk' → HeadSoFar source s pending now 2 before c sunk sunk'
    unfolding begins
    begins_head pending now taken c sunk' gives is stopped_is takes = subst (λ (x : StateCode H R). HeadSoFar source s pending now 2 before x sunk sunk') (sym stopped_is) at_first
      where
        at_first : HeadSoFar source s pending now 2 before (state.Stopped before 0) sunk sunk'
        at_first = record {
          reads = begins source s pending now taken gives is;
          bytes = text before.ended [];
          takes = takes;
          luck = 0;
          lucky = refl;
          runs = λ chain p. first_run (config_of s) chain before (stopped before.ended) p refl;
        }

-- nothing was read but what couldn't be done
pub stops_first : (source : Option (List ℕ)) (code : StatusCode) (still : List ℕ) (after sunk : Option (List ℕ)) (left : Remains) → IsReadersEnd code → TakesFirst source [] (Err code) still after → ReplaysWhereTold source after sunk sunk code left left
stops_first source code still after sunk left end t = by code end t.first
  where
    nothing : (ending : Status) → StopsWith 1 IsConfigBytes t.read after ending → HeadlineWhereTold source after sunk sunk ending left left
    nothing ending stops = (
      t.read,
      stops.left,
      (shown sunk).0,
      [],
      t.gives stops.left stops.still,
      stops.still,
      (shown sunk).1,
      takes_none sunk (shown sunk).0 (shown sunk).1,
      record { settings = None; lines = []; rest = t.read; told = ((refl, refl, stops.stops), (refl, ((λ h. refl), (λ h. refl), refl, (λ h. refl), (λ h. refl)), refl, λ chain good. good)) },
    )

    by : (code : StatusCode) → IsReadersEnd code → IfSome (ending_of code) (StopsWith 1 IsConfigBytes t.read after) → ReplaysWhereTold source after sunk sunk code left left
    by status.Memory end stops = nothing out_of_memory stops
    by (status.Script n why) end stops = nothing (outside_grammar n why) stops
    by status.ReadFault end stops = nothing read_failed stops
    by status.WriteFault end stops = absurd end
    by status.Ok end stops = absurd end
    by status.Usage end stops = absurd end
