-- The lines that were made and done so far, and what a large run is where it ends.
use Rattle.std.proofs.Common.{Err, List, Ok, Option, Some, [], ap, append_assoc, arith, drop, inl, inr, length, length-append, lit<, min, refl, subst, sym, ℕ, ◌++◌, ◌+◌, ◌-◌, ◌^◌, ◌∙◌, ◌∷◌, ◌≡◌, ◌≤◌}
use Rattle.std.specs.List.{AllByRecursion, count_by, flat_map}
use Rattle.std.specs.Prelude.{Result, Vec}
use Rattle.std.proofs.lemmas.Grind.{flat_map-append}
use Rattle.std.proofs.lemmas.List.{append-nil, map-append}
use Rattle.mar_key.specs.Asked.{Asked}
use Rattle.mar_store.proofs.Lookups.{AllByRecursion-push}
use Rattle.mar_model.specs.Faults.{want_of_memory}
use Rattle.mar_model.specs.Held.{Remains}
use Rattle.mar_model.specs.Chain.{Chain}
use Rattle.mar_model.specs.Config.{Config}
use Rattle.mar_script.specs.Streams.{Takes}
use Rattle.mar_script.proofs.Streams.{takes_none}
use Rattle.mar_types.specs.Varint.{IsNumber}
use Rattle.std.specs.declared.alloc.Global.{Global}
use Rattle.mar_script.specs.Lines.{plain_line}
use Rattle.mar_script.specs.Accounts.{AccountsFor, first_account, luck_after}
use Rattle.mar_script.specs.Plays.{Plays}
use Rattle.mar_script.specs.Refused.{max_lines}
use Rattle.mar_model.specs.Step.{IsFront}
use Rattle.mar_script.specs.Run.{HandsBack, IsLineBytes, MemoryEnds, Premises, Replays, Status, StopsAt, out_of_memory, read_to_end}
use Rattle.mar_script.specs.Script.{Line, config_of}
use Rattle.mar_script.specs.Text.{State, Done, output_text, stopped, text}
use Rattle.mar_script.specs.declared.Line.{Line as LineCode}
use Rattle.mar_script.specs.declared.Status.{Status as StatusCode}
use Rattle.mar_script.specs.declared.Status.TheVariants as status
use Rattle.mar_gen.specs.Output.{IsOwed, blocks_in, node_words, summary}
use Rattle.mar_gen.specs.Plan.{is_open, plan}
use Rattle.mar_gen.specs.declared.Owed.{Owed}
use Rattle.mar_gen.specs.declared.Planned.{Planned}
use Rattle.mar_replay.specs.Gen.{AreMade, Comes, ComesBehind, Generates, IsMadeLine, IsOneText, MadeLine, RunsMade, RunsShort, RunsTo, RunsWhole, WritesLine, delivered_in, gen_settings, lines_of, texts_of}
use Rattle.mar_replay.specs.Playing.{HasLuck, IsSetAs, Turned, TurnsLine, WritesText, account_in}
use Rattle.mar_replay.specs.Turn.{open_in, remains_in, state_of, state_with}
use Rattle.mar_replay.specs.declared.generate.Coming.TheVariants as coming
use Rattle.mar_replay.specs.declared.generate.Tally.{Tally}
use Rattle.mar_replay.specs.declared.play.State.{State as StateCode}
use Rattle.mar_replay.specs.declared.play.State.TheVariants as state
use Rattle.mar_replay.proofs.Headlines.{left_remains, ok_not_err, text_open}
use Rattle.mar_replay.proofs.MadeScript.{premises_made, reads_made, settings_fit}
use Rattle.mar_replay.proofs.OpenStates.{done_counted, done_lucky, done_open, done_plays, opened_now}
use Rattle.mar_replay.proofs.Replaying.{RunSoFar, StopsBetween, first_run, front_output, lawful_next, more_run, premises_before, stops_between, stops_in_text}

-- ONE LINE MORE

made_more : (seed : ℕ) (steps : List Planned) (before : List ℕ) (made : List MadeLine) (left : List Planned) (last : List ℕ) (owed : Option Owed) (m : MadeLine) (after : List Planned) → AreMade seed steps before made left last → IsOwed (node_words last) owed → Comes seed left owed m.line after → AreMade seed steps before (made ++ m ∷ []) after m.text
made_more seed steps before [] left last owed m after are is comes =
    (owed, after, subst (λ t. IsOwed (node_words t) owed) are.1 is, subst (λ ss. Comes seed ss owed m.line after) are.0 comes, (refl, refl))
made_more seed steps before (x ∷ made) left last owed m after are is comes = (are.0, are.1, are.2, are.3, made_more seed are.1 x.text made left last owed m after are.4 is comes)

-- how many blocks the texts before the last hand over
pub delivered_before : List ℕ → List MadeLine → ℕ
delivered_before first [] = 0
delivered_before first (m ∷ made) = blocks_in first + delivered_before m.text made

delivered_more : (seed : ℕ) (steps : List Planned) (before : List ℕ) (made : List MadeLine) (left : List Planned) (last : List ℕ) (m : MadeLine) → AreMade seed steps before made left last → delivered_before before (made ++ m ∷ []) ≡ delivered_before before made + blocks_in last
unfolding delivered_before
delivered_more seed steps before [] left last m are = ap (λ t. blocks_in t + 0) (sym are.1) ∙ (let e : blocks_in last + 0 ≡ 0 + blocks_in last = omega arith in e)
delivered_more seed steps before (x ∷ made) left last m are =
    let more : delivered_before x.text (made ++ m ∷ []) ≡ delivered_before x.text made + blocks_in last = delivered_more seed are.1 x.text made left last m are.4 in
    omega (arith, more)

delivered_all : (seed : ℕ) (steps : List Planned) (before : List ℕ) (made : List MadeLine) (left : List Planned) (last : List ℕ) → AreMade seed steps before made left last → delivered_in before made ≡ delivered_before before made + blocks_in last
unfolding delivered_before
delivered_all seed steps before [] left last are = ap blocks_in (sym are.1) ∙ (let e : blocks_in last ≡ 0 + blocks_in last = omega arith in e)
delivered_all seed steps before (x ∷ made) left last are =
    let more : delivered_in x.text made ≡ delivered_before x.text made + blocks_in last = delivered_all seed are.1 x.text made left last are.4 in
    omega (arith, more)

lines_more : (made : List MadeLine) (m : MadeLine) → lines_of (made ++ m ∷ []) ≡ lines_of made ++ m.line ∷ []
lines_more made m = map-append (λ x. x.line) made (m ∷ [])

texts_more : (first : List ℕ) (made : List MadeLine) (m : MadeLine) → texts_of first (made ++ m ∷ []) ≡ texts_of first made ++ m.text
texts_more first made m =
    ap (λ ts. first ++ ts) (flat_map-append (λ x. x.text) made (m ∷ []) ∙ ap (λ ts. flat_map (λ x. x.text) made ++ ts) (append-nil m.text)) ∙ sym (append_assoc first (flat_map (λ x. x.text) made) m.text)

-- SO FAR

module _ {H R : Type 0} where
  -- The lines that were made and done, where the plan has come to this place, and the run that they are for each chain.
  pub record GenSoFar (seed n place number delivered : ℕ) (before : Remains) (code : StateCode H R) (last : List ℕ) : Type 0 where
    pub made : List MadeLine
    pub are_made : AreMade seed (plan seed n) (text before.ended []) made (drop place (plan seed n)) last
    pub ours : AllByRecursion (IsMadeLine seed n) (lines_of made)
    pub each_text : AllByRecursion IsOneText made
    pub count : length (lines_of made) + 2 ≡ number
    pub delivered_is : delivered ≡ min (delivered_before (text before.ended []) made) (2 ^ 64 - 1)
    pub luck : ℕ
    pub lucky : HasLuck luck code
    pub runs : (chain : Chain) → Premises (config_of gen_settings) chain (lines_of made) before.ended → RunSoFar (config_of gen_settings) chain before (lines_of made) (account_in luck code) (state_of code) (texts_of (text before.ended []) made)

  pub gen_first : (seed n : ℕ) (before : Remains) (code : StateCode H R) (last : List ℕ) → code ≡ state.Stopped before 0 → last ≡ text before.ended [] → GenSoFar seed n 0 2 0 before code last
  unfolding delivered_before
  gen_first seed n before code last stopped_is is = subst (λ (x : StateCode H R). GenSoFar seed n 0 2 0 before x last) (sym stopped_is) at_first
    where
      at_first : GenSoFar seed n 0 2 0 before (state.Stopped before 0) last
      at_first = record {
        made = [];
        are_made = (refl, is);
        ours = tt;
        each_text = tt;
        count = refl;
        delivered_is = omega arith;
        luck = 0;
        lucky = refl;
        runs = λ chain p.
            subst (RunSoFar (config_of gen_settings) chain before [] (first_account before.watches) (stopped before.ended)) (sym (append-nil (text before.ended []))) (first_run (config_of gen_settings) chain before (stopped before.ended) p refl);
      }

  module _ (seed n : ℕ) (fits : IsNumber seed) (few : n ≤ 10_000) (place number delivered : ℕ) (before : Remains) (c : StateCode H R) (last : List ℕ) (so : GenSoFar seed n place number delivered before c last) where
    -- WHERE IT ENDS

    -- what was made is replayed, as far as memory lasts
    runs_made : (status : Status) → StopsBetween status → StopsAt (length (lines_of so.made) + 2) (IsLineBytes 4) [] [] status → number ≤ max_lines + 1 → ((asked : List Asked) → HandsBack (state_with asked c) (remains_in c).ended) → RunsMade seed n (lines_of so.made) status (texts_of (text before.ended []) so.made) before (remains_in c)
    runs_made status between stops number_fits hands = record {
      reads = reads_made seed n (lines_of so.made) status fits few so.ours (omega (arith, so.count, number_fits)) stops;
      premises = λ apart own good some. premises_made seed n (lines_of so.made) so.ours before.ended few apart own good some;
      runs = λ chain p. stops_between status (config_of gen_settings) chain before (lines_of so.made) (account_in so.luck c) (state_of c) (texts_of (text before.ended []) so.made) (remains_in c) between (so.runs chain p) refl (left_remains c (open_in c)) (hands (open_in c));
    }

    pub gen_short : number ≤ max_lines + 1 → ((asked : List Asked) → HandsBack (state_with asked c) (remains_in c).ended) → RunsShort seed n before (remains_in c)
    gen_short number_fits hands = record { lines = lines_of so.made; bytes = texts_of (text before.ended []) so.made; runs = runs_made out_of_memory tt tt number_fits hands }

    -- the steps are done and nothing is owed
    pub gen_whole : (more : ℕ) (processed : Vec ℕ Global) → more ≡ blocks_in last → ComesBehind seed n place last (coming.End processed) → number ≤ max_lines → ((asked : List Asked) → HandsBack (state_with asked c) (remains_in c).ended)
        → RunsWhole seed n before (remains_in c) (min (delivered + more) (2 ^ 64 - 1)) processed.items
    gen_whole more processed counted (nothing, done, shown) number_fits hands = record {
      made = so.made;
      last = last;
      are_made = subst (λ steps. AreMade seed (plan seed n) (text before.ended []) so.made steps last) done so.are_made;
      each_text = so.each_text;
      nothing_owed = nothing;
      runs = runs_made read_to_end tt (omega arith, refl, refl) (omega (arith, number_fits)) hands;
      delivered_is =
          let all : delivered_in (text before.ended []) so.made ≡ delivered_before (text before.ended []) so.made + blocks_in last = delivered_all seed (plan seed n) (text before.ended []) so.made (drop place (plan seed n)) last so.are_made in
          omega (arith, all, counted, so.delivered_is);
      processed_is = shown;
    }

    -- ONE LINE MORE

    module _ (l : LineCode) (after : ℕ) (comes : ComesBehind seed n place last (coming.Next l after)) (d : StateCode H R) (now : List ℕ) where
      abbrev more_made : List MadeLine
      more_made = so.made ++ record { line = plain_line l; text = now } ∷ []

      ours_now : AllByRecursion (IsMadeLine seed n) (lines_of so.made ++ plain_line l ∷ [])
      ours_now = AllByRecursion-push (IsMadeLine seed n) (lines_of so.made) (plain_line l) so.ours comes.3

      count_now : length (lines_of so.made ++ plain_line l ∷ []) + 2 ≡ number + 1
      count_now = omega (arith, so.count, length-append (lines_of so.made) (plain_line l ∷ []))

      module _ {U : Type 0} (written : Result U StatusCode) (set : IsSetAs (config_of gen_settings) c) (turned : Turned (config_of gen_settings) c (plain_line l) (Some []) d (Some now) written) (number_fits : number ≤ max_lines) where
        abbrev text_now : List ℕ
        text_now = output_text turned.out (state_with [] d)

        abbrev luck_now : ℕ
        luck_now = luck_after so.luck (plain_line l) turned.out.fault

        -- the state behind the line
        abbrev state_now : State
        state_now = state_with (opened_now (config_of gen_settings) c d (plain_line l) (Some []) (Some now) written turned) d

        -- what the stores tell behind the line
        counted_now : AccountsFor (account_in so.luck c) (plain_line l) turned.out.fault (account_in luck_now d)
        counted_now = done_counted (config_of gen_settings) c d (plain_line l) (Some []) (Some now) written turned so.luck

        -- the run before it, and what the line makes of its state
        before_line : (chain : Chain) → Premises (config_of gen_settings) chain (lines_of so.made ++ plain_line l ∷ []) before.ended → RunSoFar (config_of gen_settings) chain before (lines_of so.made) (account_in so.luck c) (state_of c) (texts_of (text before.ended []) so.made)
        before_line chain p = so.runs chain (premises_before (config_of gen_settings) chain (lines_of so.made) (plain_line l) before.ended p)

        played : (chain : Chain) (p : Premises (config_of gen_settings) chain (lines_of so.made ++ plain_line l ∷ []) before.ended)
            → Plays (config_of gen_settings) chain (length (lines_of so.made)) (account_in so.luck c) (state_of c) (plain_line l) turned.out state_now
        played chain p =
            done_plays (config_of gen_settings) c d (plain_line l) (Some []) (Some now) written turned set so.luck so.lucky chain (length (lines_of so.made))
            (lawful_next (config_of gen_settings) chain before (lines_of so.made) (plain_line l) (account_in so.luck c) (state_of c) (texts_of (text before.ended []) so.made) p (before_line chain p) (omega (arith, so.count, number_fits)) settings_fit.window.1)

        run_now : (chain : Chain) → Premises (config_of gen_settings) chain (lines_of so.made ++ plain_line l ∷ []) before.ended → (turned.out.fault ≡ Some want_of_memory → ⊥) → state_now ≡ state_of d
            → RunSoFar (config_of gen_settings) chain before (lines_of so.made ++ plain_line l ∷ []) (account_in luck_now d) (state_of d) (texts_of (text before.ended []) so.made ++ text_now)
        run_now chain p remembered all =
            subst (λ x. RunSoFar (config_of gen_settings) chain before (lines_of so.made ++ plain_line l ∷ []) (account_in luck_now d) x (texts_of (text before.ended []) so.made ++ text_now)) all
            (subst (λ bs. RunSoFar (config_of gen_settings) chain before (lines_of so.made ++ plain_line l ∷ []) (account_in luck_now d) state_now (texts_of (text before.ended []) so.made ++ bs)) (text_open turned.out d (opened_now (config_of gen_settings) c d (plain_line l) (Some []) (Some now) written turned))
            (more_run (config_of gen_settings) chain before (lines_of so.made) (plain_line l) (account_in so.luck c) (state_of c) (texts_of (text before.ended []) so.made) p (before_line chain p) turned.out state_now (account_in luck_now d) (played chain p) counted_now
            remembered))

        -- the line was done and written
        further : (u : U) → written ≡ Ok u → (more : ℕ) → more ≡ blocks_in last → GenSoFar seed n after (number + 1) (min (delivered + more) (2 ^ 64 - 1)) before d now
        further u is more counted =
            let m : MadeLine = record { line = plain_line l; text = now } in
            let now_is : text_now ≡ now = sym (subst (λ w. WritesText (Some []) (λ asked. output_text turned.out (state_with asked d)) (Some now) w) is turned.wrote [] [] refl) in
            record {
              made = more_made;
              are_made = made_more seed (plan seed n) (text before.ended []) so.made (drop place (plan seed n)) last comes.0 m (drop after (plan seed n)) so.are_made comes.1 comes.2;
              ours = subst (AllByRecursion (IsMadeLine seed n)) (sym (lines_more so.made m)) ours_now;
              each_text = AllByRecursion-push IsOneText so.made m so.each_text (turned.out, state_with [] d, sym now_is);
              count = subst (λ ls. length ls + 2 ≡ number + 1) (sym (lines_more so.made m)) count_now;
              delivered_is =
                  let all : delivered_before (text before.ended []) more_made ≡ delivered_before (text before.ended []) so.made + blocks_in last = delivered_more seed (plan seed n) (text before.ended []) so.made (drop place (plan seed n)) last m so.are_made in
                  omega (arith, all, counted, so.delivered_is);
              luck = luck_now;
              lucky = done_lucky (config_of gen_settings) c d (plain_line l) (Some []) (Some now) written turned so.luck so.lucky;
              runs = λ chain p.
                  subst (λ ls. RunSoFar (config_of gen_settings) chain before ls (account_in luck_now d) (state_of d) (texts_of (text before.ended []) more_made)) (sym (lines_more so.made m))
                  (subst (RunSoFar (config_of gen_settings) chain before (lines_of so.made ++ plain_line l ∷ []) (account_in luck_now d) (state_of d)) (ap (λ ts. texts_of (text before.ended []) so.made ++ ts) now_is ∙ sym (texts_more (text before.ended []) so.made m))
                  (run_now chain (subst (λ ls. Premises (config_of gen_settings) chain ls before.ended) (lines_more so.made m) p) (λ memory. ok_not_err u status.Memory (sym is ∙ turned.memory memory)) (done_open (config_of gen_settings) c d (plain_line l) (Some []) (Some now) written turned u is)));
            }

        -- it was done, and not all of its text was written
        unwritten : (code : StatusCode) → written ≡ Err code → ((asked : List Asked) → HandsBack (state_with asked d) (remains_in d).ended) → RunsShort seed n before (remains_in d)
        unwritten code is hands =
            let wrote = subst (λ w. WritesText (Some []) (λ asked. output_text turned.out (state_with asked d)) (Some now) w) is turned.wrote [] in
            record {
              lines = lines_of so.made ++ plain_line l ∷ [];
              bytes = texts_of (text before.ended []) so.made ++ wrote.0;
              runs = record {
                reads = reads_made seed n (lines_of so.made ++ plain_line l ∷ []) out_of_memory fits few ours_now (omega (arith, count_now, number_fits)) tt;
                premises = λ apart own good some. premises_made seed n (lines_of so.made ++ plain_line l ∷ []) ours_now before.ended few apart own good some;
                runs = λ chain p.
                    stops_in_text (config_of gen_settings) chain before (lines_of so.made) (plain_line l) (account_in so.luck c) (state_of c) (texts_of (text before.ended []) so.made) p (before_line chain p) turned.out state_now (account_in luck_now d) (played chain p)
                    counted_now out_of_memory wrote.0 (remains_in d) tt (subst (λ whole. IsFront wrote.0 whole) (sym (text_open turned.out d (opened_now (config_of gen_settings) c d (plain_line l) (Some []) (Some now) written turned))) wrote.1) (λ memory. refl) refl (left_remains d (opened_now (config_of gen_settings) c d (plain_line l) (Some []) (Some now) written turned)) (hands (opened_now (config_of gen_settings) c d (plain_line l) (Some []) (Some now) written turned));
              };
            }

      pub gen_further : {U : Type 0} (written : Result U StatusCode) (u : U) (more : ℕ) → IsSetAs (config_of gen_settings) c → TurnsLine (config_of gen_settings) c (plain_line l) (Some []) d (Some now) written → number ≤ max_lines → written ≡ Ok u → more ≡ blocks_in last → GenSoFar seed n after (number + 1) (min (delivered + more) (2 ^ 64 - 1)) before d now
      gen_further written u more set (inl (memory, same, takes)) number_fits is counted = absurd (ok_not_err u status.Memory (sym is ∙ memory))
      gen_further written u more set (inr turned) number_fits is counted = further written set turned number_fits u is more counted

      pub gen_unwritten : {U : Type 0} (written : Result U StatusCode) (code : StatusCode) → IsSetAs (config_of gen_settings) c → TurnsLine (config_of gen_settings) c (plain_line l) (Some []) d (Some now) written → number ≤ max_lines → written ≡ Err code → ((asked : List Asked) → HandsBack (state_with asked d) (remains_in d).ended)
          → RunsShort seed n before (remains_in d)
      gen_unwritten written code set (inl (memory, same, takes)) number_fits is hands =
          subst (λ x. RunsShort seed n before (remains_in x)) (sym same) (gen_short (omega (arith, number_fits)) (subst (λ x. (asked : List Asked) → HandsBack (state_with asked x) (remains_in x).ended) same hands))
      gen_unwritten written code set (inr turned) number_fits is hands = unwritten written set turned number_fits code is hands

-- no line was done, and at most a front of the first text was written
pub gen_nothing : (seed n : ℕ) → IsNumber seed → n ≤ 10_000 → (before : Remains) (front : List ℕ) → IsFront front (text before.ended []) → RunsShort seed n before before
gen_nothing seed n fits few before front of_text = record {
  lines = [];
  bytes = front;
  runs = record {
    reads = reads_made seed n [] out_of_memory fits few tt (lit< tt) tt;
    premises = λ apart own good some. premises_made seed n [] tt before.ended few apart own good some;
    runs = λ chain p. record {
      run = [];
      lines_done = refl;
      last = stopped before.ended;
      lives = refl;
      output = front_output out_of_memory front (text before.ended []) tt of_text;
      hands_back = ((λ h. refl), (λ h. refl), refl, (λ h. refl), (λ h. refl));
      watches_are = refl;
      good = p.good;
      some_pair = p.some_pair;
      memory = tt;
      excused = tt;
      complete = λ q smooth. tt;
    };
  };
}

-- HOW IT IS SUMMED UP

memory_short : (run : List Done) → MemoryEnds read_to_end run → MemoryEnds out_of_memory run
memory_short [] ends = tt
memory_short (d ∷ []) ends = λ is. refl
memory_short (d ∷ e ∷ run) ends = (ends.0, memory_short (e ∷ run) ends.1)

replays_short : (config : Config) (chain : Chain) (lines : List Line) (bytes : List ℕ) (before after : Remains) → Replays config chain lines bytes read_to_end before after → Replays config chain lines bytes out_of_memory before after
replays_short config chain lines bytes before after r = record {
  run = r.run;
  lines_done = r.lines_done;
  last = r.last;
  lives = r.lives;
  output = ([], sym r.output ∙ sym (append-nil bytes));
  hands_back = r.hands_back;
  watches_are = r.watches_are;
  good = r.good;
  some_pair = r.some_pair;
  memory = memory_short r.run r.memory;
  excused = r.excused;
  complete = r.complete;
}

-- a whole run is one that memory ran out behind, where its line can't be written for want of it
whole_short : (seed n : ℕ) (before after : Remains) (delivered : ℕ) (processed : List ℕ) → RunsWhole seed n before after delivered processed → RunsShort seed n before after
whole_short seed n before after delivered processed whole = record {
  lines = lines_of whole.made;
  bytes = texts_of (text before.ended []) whole.made;
  runs = record {
    reads = (whole.runs.reads.0, whole.runs.reads.1, whole.runs.reads.2, whole.runs.reads.3, tt);
    premises = whole.runs.premises;
    runs = λ chain p. replays_short (config_of gen_settings) chain (lines_of whole.made) (texts_of (text before.ended []) whole.made) before after (whole.runs.runs chain p);
  };
}

pub concludes : (seed n : ℕ) (sunk sunk' : Option (List ℕ)) (code : StatusCode) (before after : Remains) (tally : Tally) → RunsTo seed n before after (Some tally)
    → WritesLine sunk (summary seed n tally.delivered tally.processed.items (count_by is_open (plan seed n))) sunk' code → Generates seed n sunk sunk' code before after
concludes seed n sunk sunk' status.Ok before after tally whole wrote = (_, record { delivered = tally.delivered; processed = tally.processed.items; whole = whole; line_is = refl }, wrote)
concludes seed n sunk sunk' status.WriteFault before after tally whole wrote = (_, record { delivered = tally.delivered; processed = tally.processed.items; whole = whole; line_is = refl }, wrote)
concludes seed n sunk sunk' status.Memory before after tally whole wrote = (whole_short seed n before after tally.delivered tally.processed.items whole, wrote)
concludes seed n sunk sunk' (status.Script k why) before after tally whole wrote = absurd wrote
concludes seed n sunk sunk' status.ReadFault before after tally whole wrote = absurd wrote
concludes seed n sunk sunk' status.Usage before after tally whole wrote = absurd wrote

-- nothing was written
pub writes_nothing : (sunk : Option (List ℕ)) → (front : List ℕ) × Takes sunk front sunk
writes_nothing sunk = ([], takes_none sunk)
