-- The lines that were done so far as a run of lives, and what a replay is where it stops.
use Rattle.std.proofs.Common.{Contains, List, None, Option, Some, [], ap, append_assoc, arith, inl, inr, length, length-append, map, refl, subst, sym, ℕ, ◌++◌, ◌+◌, ◌<◌, ◌∙◌, ◌∷◌, ◌≡◌, ◌≤◌, ◌⊎◌}
use Rattle.std.specs.List.{AllByRecursion, flat_map}
use Rattle.std.specs.Prelude.{Any, ⊤}
use Rattle.std.proofs.lemmas.Grind.{flat_map-append}
use Rattle.std.proofs.lemmas.List.{append-nil, map-append}
use Rattle.std.proofs.lemmas.List.Elements.{Contains-append_cases, Contains-append_left, Contains-append_right}
use Rattle.mar_cert.specs.Block.{Block}
use Rattle.mar_model.specs.Messages.{report_finalization, set_floor}
use Rattle.mar_store.proofs.Lookups.{AllByRecursion-from_contains, AllByRecursion-push}
use Rattle.mar_model.specs.Chain.{Chain}
use Rattle.mar_model.specs.Config.{Config}
use Rattle.mar_model.specs.Faults.{from_floor, from_genesis, want_of_memory}
use Rattle.mar_model.specs.Held.{Remains, Watches}
use Rattle.mar_model.specs.Lives.{IsGoodEnded}
use Rattle.mar_model.specs.Node.{Agrees, Ended, IsFinalized, left_by}
use Rattle.mar_model.specs.Cached.{cached_block, cached_finalization, Cached}
use Rattle.mar_model.proofs.Filtered.{all_found_within}
use Rattle.mar_model.proofs.Soundness.{IsFrom, IsGoodEnded-from_sound, IsSound-from_good}
use Rattle.mar_script.specs.Accounts.{Account, AccountsFor, first_account}
use Rattle.mar_script.specs.Plays.{IsBetween, IsLawfulLine, IsUndropped, Plays, buffer_in, cached_blocks_in, known_in, max_window}
use Rattle.mar_script.specs.Refused.{max_lines}
use Rattle.mar_model.specs.Step.{IsFront}
use Rattle.mar_script.specs.Run.{Appears, AreSmooth, EndsWith, HandsBack, HasUsualFault, IsExcused, IsFaultFree, IsOutput, IsQuiet, IsSmooth, LineDone, MemoryEnds, Premises, Replays, Run, Status, account_after, line_blocks, messages_of, out_of_memory, outside_grammar, read_failed, read_to_end, write_failed}
use Rattle.mar_script.specs.Script.{Line, open_line}
use Rattle.mar_script.proofs.Accounts.{account-push, quiet_run, run_push, smooth_push}
use Rattle.mar_script.specs.Text.{Done, Output, State, output_text, running, silent_output, stopped, text}

-- LAWFUL FRONTS

more_lines : {T : Type 0} (f : Line → List T) (lines : List Line) (l : Line) (x : T) → Contains (flat_map f lines) x → Contains (flat_map f (lines ++ l ∷ [])) x
more_lines f lines l x has = subst (λ xs. Contains xs x) (sym (flat_map-append f lines (l ∷ []))) (Contains-append_left (flat_map f lines) (flat_map f (l ∷ [])) x has)

last_line : {T : Type 0} (f : Line → List T) (lines : List Line) (l : Line) (x : T) → Contains (f l) x → Contains (flat_map f (lines ++ l ∷ [])) x
last_line f lines l x has = subst (λ xs. Contains xs x) (sym (flat_map-append f lines (l ∷ []))) (Contains-append_right (flat_map f lines) (flat_map f (l ∷ [])) x (subst (λ xs. Contains xs x) (sym (append-nil (f l))) has))

any_more : {T : Type 0} (P : T → Type 0) (xs ys : List T) → Any P xs → Any P (xs ++ ys)
any_more P xs ys (i, y, low, is, holds) = let c = Contains-append_left xs ys y (i, low, is) in (c.0, y, c.1, c.2, holds)

-- what appears in lines appears in more of them
appears_more : (chain : Chain) (lines : List Line) (l : Line) (cached : List Cached) (b : Block) → Appears chain lines cached b → Appears chain (lines ++ l ∷ []) cached b
appears_more chain lines l cached b (inl of_chain) = inl of_chain
appears_more chain lines l cached b (inr (inl of_line)) = inr (inl (more_lines line_blocks lines l b of_line))
appears_more chain lines l cached b (inr (inr (inl at_end))) = inr (inr (inl (any_more (EndsWith b) lines (l ∷ []) at_end)))
appears_more chain lines l cached b (inr (inr (inr left))) = inr (inr (inr left))

-- a script that is lawful with one more line is lawful
pub premises_before : (config : Config) (chain : Chain) (lines : List Line) (l : Line) (before : Ended) → Premises config chain (lines ++ l ∷ []) before → Premises config chain lines before
premises_before config chain lines l before p = record {
  partition = p.partition;
  lawful = p.lawful;
  script = record {
    genesis = λ b has. p.script.genesis b (Contains-append_left lines (l ∷ []) (open_line (from_genesis b)) has);
    reported = λ f has. p.script.reported f (more_lines messages_of lines l (report_finalization f) has);
    floors = λ f has. p.script.floors f (more_lines messages_of lines l (set_floor f) has);
    first_floor = λ f has. p.script.first_floor f (Contains-append_left lines (l ∷ []) (open_line (from_floor f)) has);
    peer_bytes = λ m has. p.script.peer_bytes m (Contains-append_left lines (l ∷ []) m has);
    inner = λ b appears. p.script.inner b (appears_more chain lines l before.cache_may b appears);
    one_block = λ a b first second. p.script.one_block a b (appears_more chain lines l before.cache_may a first) (appears_more chain lines l before.cache_may b second);
  };
  good = p.good;
  some_pair = p.some_pair;
}

-- SO FAR

-- Lines that were done: a run of lives up to a state between lines, its text, and what the stores tell behind it.
pub record RunSoFar (config : Config) (chain : Chain) (before : Remains) (lines : List Line) (account : Account) (now : State) (bytes : List ℕ) : Type 0 where
  pub run : List Done
  pub lines_done : map (λ d. d.line) run ≡ lines
  pub lives : Run config chain (first_account before.watches) (stopped before.ended) run now
  pub account_is : account_after (first_account before.watches) run ≡ account
  pub wrote : bytes ≡ text before.ended run
  pub between : IsBetween config chain (length lines) now
  pub buffered : (b : Block) → Contains (buffer_in now) b → Contains (flat_map line_blocks lines) b
  pub cached : (b : Block) → Contains (cached_blocks_in now) b → Appears chain lines before.ended.cache_may b
  pub no_memory : AllByRecursion (λ d. d.output.fault ≡ Some want_of_memory → ⊥) run
  pub excused : AllByRecursion IsExcused run
  pub undropped : AreSmooth config (first_account before.watches) (stopped before.ended) run → IsUndropped now × AllByRecursion HasUsualFault run

pub first_run : (config : Config) (chain : Chain) (before : Remains) (now : State) → Premises config chain [] before.ended → now ≡ stopped before.ended → RunSoFar config chain before [] (first_account before.watches) now (text before.ended [])
first_run config chain before now p is = record {
  run = [];
  lines_done = refl;
  lives = is;
  account_is = refl;
  wrote = refl;
  between = subst (λ s. IsBetween config chain 0 s) (sym is) (p.good, p.some_pair);
  buffered = λ b has. absurd (none b (subst (λ s. Contains (buffer_in s) b) is has));
  cached = λ b has. inr (inr (inr (subst (λ s. Contains (cached_blocks_in s) b) is has)));
  no_memory = tt;
  excused = tt;
  undropped = λ smooth. (subst IsUndropped (sym is) tt, tt);
}
  where
    none : (b : Block) → Contains [] b → ⊥
    none b has = let lt : has.0 < 0 = has.1 in omega arith

text_push : (before : Ended) (run : List Done) (d : Done) → text before (run ++ d ∷ []) ≡ text before run ++ output_text d.output d.after
text_push before run d =
    ap (λ l. output_text silent_output (stopped before) ++ l) (flat_map-append (λ x. output_text x.output x.after) run (d ∷ []) ∙ ap (λ l. flat_map (λ x. output_text x.output x.after) run ++ l) (append-nil (output_text d.output d.after)))
    ∙ sym (append_assoc (output_text silent_output (stopped before)) (flat_map (λ x. output_text x.output x.after) run) (output_text d.output d.after))

module _ (config : Config) (chain : Chain) (before : Remains) (lines : List Line) (l : Line) (account : Account) (now : State) (bytes : List ℕ) (p : Premises config chain (lines ++ l ∷ []) before.ended) (so : RunSoFar config chain before lines account now bytes) where
  appears : (b : Block) → Contains (line_blocks l ++ known_in chain now) b → Appears chain (lines ++ l ∷ []) before.ended.cache_may b
  appears b has = known (Contains-append_cases (line_blocks l) (known_in chain now) b has)
    where
      beside : Contains (buffer_in now) b ⊎ Contains (cached_blocks_in now) b → Appears chain (lines ++ l ∷ []) before.ended.cache_may b
      beside (inl of_buffer) = inr (inl (more_lines line_blocks lines l b (so.buffered b of_buffer)))
      beside (inr of_cache) = appears_more chain lines l before.ended.cache_may b (so.cached b of_cache)

      by : Contains chain.blocks b ⊎ Contains (buffer_in now ++ cached_blocks_in now) b → Appears chain (lines ++ l ∷ []) before.ended.cache_may b
      by (inl of_chain) = inl of_chain
      by (inr others) = beside (Contains-append_cases (buffer_in now) (cached_blocks_in now) b others)

      known : Contains (line_blocks l) b ⊎ Contains (known_in chain now) b → Appears chain (lines ++ l ∷ []) before.ended.cache_may b
      known (inl of_line) = inr (inl (last_line line_blocks lines l b of_line))
      known (inr others) = by (Contains-append_cases chain.blocks (buffer_in now ++ cached_blocks_in now) b others)

  -- the next line is lawful in the state that the others left
  pub lawful_next : length lines ≤ max_lines → config.window ≤ max_window → IsLawfulLine config chain (length lines) now l
  lawful_next few narrow = record {
    partition = p.partition;
    lawful = p.lawful;
    between = so.between;
    few = omega (arith, few);
    narrow = narrow;
    one = record { names = λ b has. p.script.inner b (appears b has); one = λ a b has other same. p.script.one_block a b (appears a has) (appears b other) same };
    genesis = λ b is. p.script.genesis b (subst (λ x. Contains (lines ++ x ∷ []) (open_line (from_genesis b))) (sym is) (Contains-append_right lines (open_line (from_genesis b) ∷ []) (open_line (from_genesis b)) (0, omega arith, refl)));
    reported = λ f is. p.script.reported f (last_line messages_of lines l (report_finalization f) (subst (λ x. Contains (messages_of x) (report_finalization f)) (sym is) (0, omega arith, refl)));
  }

  module _ (out : Output) (after : State) (account' : Account) (plays : Plays config chain (length lines) account now l out after) (counted : AccountsFor account l out.fault account') where
    abbrev done : Done
    done = record { line = l; output = out; after = after; account = account' }

    lives_now : Run config chain (first_account before.watches) (stopped before.ended) (so.run ++ done ∷ []) after
    lives_now =
        run_push config chain (first_account before.watches) (stopped before.ended) so.run done now so.lives (subst (λ a. LineDone config chain a now l out after) (sym so.account_is) plays.done) (subst (λ a. AccountsFor a l out.fault account') (sym so.account_is) counted)

    account_now : account_after (first_account before.watches) (so.run ++ done ∷ []) ≡ account'
    account_now = account-push (first_account before.watches) so.run done

    lines_now : map (λ d. d.line) (so.run ++ done ∷ []) ≡ lines ++ l ∷ []
    lines_now = map-append (λ d. d.line) so.run (done ∷ []) ∙ ap (λ ls. ls ++ l ∷ []) so.lines_done

    excused_now : AllByRecursion IsExcused (so.run ++ done ∷ [])
    excused_now = AllByRecursion-push IsExcused so.run done so.excused plays.excused

    -- where each line is smooth none was dropped, so no fault says so
    undropped_now : AreSmooth config (first_account before.watches) (stopped before.ended) (so.run ++ done ∷ []) → IsUndropped after × AllByRecursion HasUsualFault (so.run ++ done ∷ [])
    undropped_now smooth =
        let (others, last) = smooth_push config chain (first_account before.watches) (stopped before.ended) so.run done now so.lives smooth in
        let (undropped, usual) = so.undropped others in
        let both = plays.undropped undropped (subst (λ a. IsSmooth config a now l) so.account_is last) in
        (both.0, AllByRecursion-push HasUsualFault so.run done usual both.1)

    -- one more line was done, and memory did not run out
    pub more_run : (out.fault ≡ Some want_of_memory → ⊥) → RunSoFar config chain before (lines ++ l ∷ []) account' after (bytes ++ output_text out after)
    more_run remembered = record {
      run = so.run ++ done ∷ [];
      lines_done = lines_now;
      lives = lives_now;
      account_is = account_now;
      wrote = ap (λ bs. bs ++ output_text out after) so.wrote ∙ sym (text_push before.ended so.run done);
      between = subst (λ k. IsBetween config chain k after) (sym (length-append lines (l ∷ []))) plays.between;
      buffered = λ b has. by b (Contains-append_cases (buffer_in now) (line_blocks l) b (plays.buffered b has));
      cached = λ b has. appears b (plays.cached b has);
      no_memory = AllByRecursion-push (λ d. d.output.fault ≡ Some want_of_memory → ⊥) so.run done so.no_memory remembered;
      excused = excused_now;
      undropped = undropped_now;
    }
      where
        by : (b : Block) → Contains (buffer_in now) b ⊎ Contains (line_blocks l) b → Contains (flat_map line_blocks (lines ++ l ∷ [])) b
        by b (inl old) = more_lines line_blocks lines l b (so.buffered b old)
        by b (inr new) = last_line line_blocks lines l b new

-- WHERE IT STOPS

-- what a crash leaves of a state
abbrev pub left_in : State → Ended
left_in (running n) = left_by n
left_in (stopped e) = e

pub between_left : (config : Config) (chain : Chain) (k : ℕ) (s : State) → IsBetween config chain k s → IsGoodEnded chain (left_in s) × (0 < length (left_in s).meta)
between_left config chain k (stopped e) between = between
between_left config chain k (running n) (good, rests, lasting) = (
  IsGoodEnded-from_sound chain n 0 (left_by n) (IsSound-from_good config chain n good) good.of_chain.stores.may_blocks good.of_chain.stores.may_certs
      (all_found_within cached_finalization (λ f. IsFinalized chain f.round f.payload) n.cache.may (n.cache.held ++ n.cache.may) (λ x has. Contains-append_right n.cache.held n.cache.may x has) good.of_chain.cache.finalizations)
      (all_found_within cached_block (Agrees chain) n.cache.may (n.cache.held ++ n.cache.may) (λ x has. Contains-append_right n.cache.held n.cache.may x has) good.of_chain.cache.blocks)
      (λ h low has. has) (AllByRecursion-from_contains _ n.meta (λ p has. inl (has, from p.processed))),
  subst (λ ps. 0 < length ps) (sym good.heights.own_pair) (omega arith),
)
  where
    from : (o : Option ℕ) → IsFrom 0 o
    from None = tt
    from (Some h) = omega arith

memory_never : (status : Status) (run : List Done) → AllByRecursion (λ d. d.output.fault ≡ Some want_of_memory → ⊥) run → MemoryEnds status run
memory_never status [] all = tt
memory_never status (d ∷ []) all = λ is. absurd (all.0 is)
memory_never status (d ∷ e ∷ run) all = (all.0, memory_never status (e ∷ run) all.1)

memory_last : (status : Status) (run : List Done) (d : Done) → AllByRecursion (λ x. x.output.fault ≡ Some want_of_memory → ⊥) run → (d.output.fault ≡ Some want_of_memory → status ≡ out_of_memory) → MemoryEnds status (run ++ d ∷ [])
memory_last status [] d all ends = ends
memory_last status (x ∷ []) d all ends = (all.0, ends)
memory_last status (x ∷ y ∷ run) d all ends = (all.0, memory_last status (y ∷ run) d all.1 ends)

-- it stopped between two lines
abbrev pub StopsBetween : Status → Type 0
StopsBetween write_failed = ⊥
StopsBetween _ = ⊤

whole_output : (status : Status) (bytes whole : List ℕ) → StopsBetween status → bytes ≡ whole → IsOutput status bytes whole
whole_output read_to_end bytes whole between is = is
whole_output (outside_grammar k why) bytes whole between is = is
whole_output read_failed bytes whole between is = is
whole_output write_failed bytes whole between is = absurd between
whole_output out_of_memory bytes whole between is = ([], sym is ∙ sym (append-nil bytes))

-- a run that no store's failure was counted in has no store's fault
complete_of : (config : Config) (chain : Chain) (before : Remains) (watches : Watches) (run : List Done) (last : State) → Run config chain (first_account before.watches) (stopped before.ended) run last → (AreSmooth config (first_account before.watches) (stopped before.ended) run → AllByRecursion HasUsualFault run) → (account_after (first_account before.watches) run).watches ≡ watches
    → IsQuiet before.watches watches → AreSmooth config (first_account before.watches) (stopped before.ended) run → AllByRecursion IsFaultFree run
complete_of config chain before watches run last lives usual is quiet smooth = quiet_run config chain (first_account before.watches) (stopped before.ended) run last lives (usual smooth) (subst (IsQuiet before.watches) (sym is) quiet) smooth

pub stops_between : (status : Status) (config : Config) (chain : Chain) (before : Remains) (lines : List Line) (account : Account) (now : State) (bytes : List ℕ) (after : Remains) → StopsBetween status → RunSoFar config chain before lines account now bytes → account.watches ≡ after.watches → left_in now ≡ after.ended → HandsBack now after.ended
    → Replays config chain lines bytes status before after
stops_between status config chain before lines account now bytes after between so watches left hands = record {
  run = so.run;
  lines_done = so.lines_done;
  last = now;
  lives = so.lives;
  output = whole_output status bytes (text before.ended so.run) between so.wrote;
  hands_back = hands;
  watches_are = ap (λ a. a.watches) so.account_is ∙ watches;
  good = subst (IsGoodEnded chain) left (between_left config chain (length lines) now so.between).0;
  some_pair = subst (λ e. 0 < length e.meta) left (between_left config chain (length lines) now so.between).1;
  memory = memory_never status so.run so.no_memory;
  excused = so.excused;
  complete = complete_of config chain before after.watches so.run now so.lives (λ smooth. (so.undropped smooth).1) (ap (λ a. a.watches) so.account_is ∙ watches);
}

-- or in the text of a line
abbrev pub StopsInText : Status → Type 0
StopsInText write_failed = ⊤
StopsInText out_of_memory = ⊤
StopsInText _ = ⊥

pub front_output : (status : Status) (bytes whole : List ℕ) → StopsInText status → IsFront bytes whole → IsOutput status bytes whole
front_output read_to_end bytes whole inside is = absurd inside
front_output (outside_grammar k why) bytes whole inside is = absurd inside
front_output read_failed bytes whole inside is = absurd inside
front_output write_failed bytes whole inside is = is
front_output out_of_memory bytes whole inside is = is

module _ (config : Config) (chain : Chain) (before : Remains) (lines : List Line) (l : Line) (account : Account) (now : State) (bytes : List ℕ) (p : Premises config chain (lines ++ l ∷ []) before.ended) (so : RunSoFar config chain before lines account now bytes) where
  module _ (out : Output) (after : State) (account' : Account) (plays : Plays config chain (length lines) account now l out after) (counted : AccountsFor account l out.fault account') where
    -- a line was done, and a front of its text was written
    pub stops_in_text : (status : Status) (front : List ℕ) (left : Remains) → StopsInText status → IsFront front (output_text out after) → (out.fault ≡ Some want_of_memory → status ≡ out_of_memory) → account'.watches ≡ left.watches → left_in after ≡ left.ended → HandsBack after left.ended
        → Replays config chain (lines ++ l ∷ []) (bytes ++ front) status before left
    stops_in_text status front left inside is memory watches left_is hands =
        let d : Done = record { line = l; output = out; after = after; account = account' } in
        let lives = lives_now config chain before lines l account now bytes p so out after account' plays counted in
        let excused = excused_now config chain before lines l account now bytes p so out after account' plays counted in
        let undropped = undropped_now config chain before lines l account now bytes p so out after account' plays counted in
        let same = ap (λ a. a.watches) (account_now config chain before lines l account now bytes p so out after account' plays counted) ∙ watches in
        record {
          run = so.run ++ d ∷ [];
          lines_done = lines_now config chain before lines l account now bytes p so out after account' plays counted;
          last = after;
          lives = lives;
          output = front_output status (bytes ++ front) (text before.ended (so.run ++ d ∷ [])) inside (
            is.0,
            text_push before.ended so.run d ∙ ap (λ bs. bs ++ output_text out after) (sym so.wrote) ∙ ap (λ bs. bytes ++ bs) is.1 ∙ sym (append_assoc bytes front is.0),
          );
          hands_back = hands;
          watches_are = same;
          good = subst (IsGoodEnded chain) left_is (between_left config chain (length lines + 1) after plays.between).0;
          some_pair = subst (λ e. 0 < length e.meta) left_is (between_left config chain (length lines + 1) after plays.between).1;
          memory = memory_last status so.run d so.no_memory memory;
          excused = excused;
          complete = complete_of config chain before left.watches (so.run ++ d ∷ []) after lives (λ smooth. (undropped smooth).1) same;
        }
