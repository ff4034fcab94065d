-- What steps make of a line while a life runs.
use Rattle.std.proofs.Common.{Bool, Contains, IsFalse, IsTrue, List, None, Option, Some, [], ap, append-nil, false, if◌then◌else◌, option_map, refl, subst, sym, true, ℕ, ◌*◌, ◌&&◌, ◌++◌, ◌+◌, ◌==◌, ◌∙◌, ◌∷◌, ◌||◌, ◌≡◌, ◌≤◌, ◌⊎◌, inl, inr}
use Rattle.std.specs.List.{filter_map, list_any}
use Rattle.mar_types.specs.declared.Sha256Digest.{Sha256Digest}
use Rattle.mar_cert.specs.Block.{Block}
use Rattle.mar_cert.specs.Finalization.{Finalization}
use Rattle.mar_model.specs.Messages.{report_finalization}
use Rattle.mar_key.specs.Asked.{asked_after}
use Rattle.mar_key.specs.Processed.{height_in}
use Rattle.mar_model.specs.Acks.{Outstanding, is_unmarked}
use Rattle.mar_model.specs.Chain.{Chain}
use Rattle.mar_model.specs.Config.{Config}
use Rattle.mar_model.specs.Cached.{cached_block}
use Rattle.mar_model.specs.Event.{Event, effect_of, message_told, sync_finished}
use Rattle.mar_model.specs.Faults.{Fault, dropped_ack, event_fault, is_by_value, ticket_limit}
use Rattle.mar_model.specs.Held.{IsUsual, Seen}
use Rattle.mar_model.specs.Lives.{Cuts, CutsEvent}
use Rattle.mar_model.specs.Node.{Ended, IsGood, Node, Rest, CertifiedCommitment}
use Rattle.mar_model.specs.OpenSyncs.{is_cache_sync}
use Rattle.mar_model.specs.Promise.{AreOne, IsGoodFor, IsLawfulStep, ReportsFinalized, RestsBefore, Waiting, asked_since, known_blocks, node_of, told_blocks, knowing}
use Rattle.mar_model.specs.Step.{AdvancesAll, Made, Steps, joined_made}
use Rattle.std.proofs.lemmas.List.Elements.{Contains-append_cases, Contains-append_left, Contains-append_right}
use Rattle.mar_model.proofs.KnownBlocks.{AreOne-within}
use Rattle.mar_model.proofs.Reaching.{IsGood-beside, Rest-beside}
use Rattle.mar_model.specs.declared.fault.Fault.{Fault as FaultCode}
use Rattle.mar_model.specs.declared.fault.Fault.TheVariants as fault
use Rattle.mar_model.specs.declared.fault.TicketKind.{TicketKind}
use Rattle.mar_model.specs.Views.{kind_of}
use Rattle.mar_script.specs.Accounts.{Account}
use Rattle.mar_script.specs.Plays.{IsBetween, IsLawfulLine, max_window}
use Rattle.mar_script.specs.Run.{Acts, IsExcusedFault, LineDone, RunningDone, StepDone, line_blocks, refusal, still_unanswered}
use Rattle.mar_model.specs.Writing.{is_open_sync}
use Rattle.mar_script.specs.Script.{Line, sync_line, tell_line}
use Rattle.mar_script.specs.Text.{Output, State, remark_ignored, running, stopped}
use Rattle.mar_script.specs.Shown.{plain_fault}
use Rattle.mar_replay.specs.Turn.{output_of, waiting_with}
use Rattle.mar_replay.specs.declared.play.Outcome.TheVariants as outcome
use Rattle.mar_replay.proofs.CachedLines.{PutsBlocksOf, cut_cached}
use Rattle.mar_replay.proofs.Lasting.{IsPlain, Spares, Undropped, event_excused, finishes, marks, no_event_fault, none_due, tells, told_reports}

-- CUTS

-- the only event of a step that was cut is the one that was cut
pub only_cut : (config : Config) (chain : Chain) (n : Node) (e : Event) (made : Made) (fault : Fault) (left : Ended) → Cuts config chain n (e ∷ []) made fault left → CutsEvent config chain n.meta (option_map height_in n.processed) n e made fault left
only_cut config chain n e made fault left cuts = by cuts.finished cuts.first cuts.mid cuts.event cuts.later cuts.split cuts.advances cuts.made_is cuts.cut
  where
    head : (d : Event) (others : List Event) → e ∷ [] ≡ d ∷ others → d ≡ e
    head d others is = cc

    tail : (d : Event) (xs : List Event) → e ∷ [] ≡ d ∷ xs → [] ≡ xs
    tail d xs is = cc

    none_behind : (xs others : List Event) (d : Event) → [] ≡ xs ++ d ∷ others → ⊥
    none_behind [] others d is = absurd cc
    none_behind (x ∷ xs) others d is = absurd cc

    by : (finished : List Event) (first : Made) (mid : Node) (d : Event) (later : Made) → e ∷ [] ≡ finished ++ d ∷ cuts.others → AdvancesAll config chain n finished first mid → made ≡ joined_made first later → CutsEvent config chain n.meta (option_map height_in n.processed) mid d later fault left
        → CutsEvent config chain n.meta (option_map height_in n.processed) n e made fault left
    by [] first mid d later split advances made_is cut =
        subst (λ m. CutsEvent config chain n.meta (option_map height_in n.processed) n e m fault left) (sym (made_is ∙ ap (λ m. joined_made m later) advances.0))
        (subst (λ m. CutsEvent config chain n.meta (option_map height_in n.processed) m e later fault left) advances.1
        (subst (λ x. CutsEvent config chain n.meta (option_map height_in n.processed) mid x later fault left) (head d cuts.others split) cut))
    by (x ∷ xs) first mid d later split advances made_is cut = absurd (none_behind xs cuts.others d (tail x (xs ++ d ∷ cuts.others) split))

-- no block may be left cached but what might be, and these
pub cut_blocks : (config : Config) (chain : Chain) (n : Node) (e : Event) (more : List Block) (made : Made) (fault : Fault) (left : Ended) → PutsBlocksOf config n e more → Cuts config chain n (e ∷ []) made fault left → (b : Block) → Contains (filter_map cached_block left.cache_may) b → Contains (filter_map cached_block n.cache.may ++ more) b
cut_blocks config chain n e more made fault left puts cuts = cut_cached config chain n e more (effect_of config n e) left puts (only_cut config chain n e made fault left cuts).may.cached

-- a fault is want of memory or a store's, or called for by a value, where it is no want of tickets
pub excused : (fault : FaultCode Sha256Digest) → (IsTrue (is_by_value (plain_fault fault)) → IsExcusedFault (plain_fault fault)) → ((kind : TicketKind) → plain_fault fault ≡ ticket_limit (kind_of kind) → ⊥) → IsExcusedFault (plain_fault fault)
excused (fault.StoreFault s) valued limit = tt
excused (fault.GenesisHeight h) valued limit = valued refl
excused (fault.GenesisMismatch a b) valued limit = valued refl
excused (fault.Corrupt h a b) valued limit = valued refl
excused (fault.Unbacked h) valued limit = valued refl
excused (fault.HeightLimit h) valued limit = valued refl
excused (fault.AckDropped h) valued limit = tt
excused (fault.TicketLimit k) valued limit = absurd (limit k refl)
excused fault.Memory valued limit = tt

-- no value calls for it
pub usual_of : (fault : Fault) → (IsTrue (is_by_value fault) → ⊥) → IsExcusedFault fault → IsUsual fault
usual_of (dropped_ack h) valued excused = absurd (valued refl)
usual_of fault valued excused = excused

pub usual : (fault : FaultCode Sha256Digest) → (IsTrue (is_by_value (plain_fault fault)) → ⊥) → ((kind : TicketKind) → plain_fault fault ≡ ticket_limit (kind_of kind) → ⊥) → IsUsual (plain_fault fault)
usual fault valued limit = usual_of (plain_fault fault) valued (excused fault (λ by_value. absurd (valued by_value)) limit)

pub excused_usual : (fault : Fault) → IsUsual fault → IsExcusedFault fault
excused_usual (dropped_ack h) usual = tt
excused_usual fault usual = usual

-- A STEP

-- behind a line each caller has its answer
abbrev pub answered_since : List CertifiedCommitment → Waiting → Made → Waiting
answered_since certified waiting made = waiting_with (asked_after waiting.requests [] made.asks) waiting.next_answer certified

module _ {P E : Type 0} (config : Config) (chain : Chain) (a : Seen P E) (buffer : List Block) (waiting : Waiting) where
  abbrev node : Node
  node = node_of a buffer waiting

  -- a step that finished
  pub step_done : (e : Event) (made : Made) (b : Seen P E) (kept : List Block) → still_unanswered made.answers [] waiting.unanswered ≡ [] → Steps config chain node (e ∷ []) made (node_of b kept (knowing b.certified (asked_since waiting made.asks))) → StepDone config chain node (e ∷ []) [] (λ m. []) (output_of made outcome.Done) (running (node_of b kept (answered_since b.certified waiting made)))
  step_done e made b kept answered steps = (made, steps, refl, ap (λ xs. output_of (record made { answers = xs }) outcome.Done) (sym (append-nil made.answers)), sym answered)

  pub step_between : (k : ℕ) (e : Event) → IsPlain e → (made : Made) (b : Seen P E) (kept : List Block) → Steps config chain node (e ∷ []) made (node_of b kept (knowing b.certified (asked_since waiting made.asks))) → b.life.next_ack ≤ max_window * (k + 1) → b.held.writes.next_sync ≤ 2 * (k + 1) → waiting.next_answer ≤ k + 1 → IsBetween config chain (k + 1) (running (node_of b kept (answered_since b.certified waiting made)))
  step_between k e plain made b kept steps tickets sync_tickets answer_tickets = (
    IsGood-beside config chain b kept kept (knowing b.certified (asked_since waiting made.asks)) (answered_since b.certified waiting made) steps.good.of_chain.asks.requests steps.good,
    Rest-beside config.window b kept kept (knowing b.certified (asked_since waiting made.asks)) (answered_since b.certified waiting made) steps.rests,
    record { tickets = tickets; sync_tickets = sync_tickets; answer_tickets = answer_tickets },
  )

  -- a step that was cut
  pub step_cut : (e : Event) (made : Made) (fault : FaultCode Sha256Digest) (left : Ended) → Cuts config chain node (e ∷ []) made (plain_fault fault) left → StepDone config chain node (e ∷ []) [] (λ m. []) (output_of made (outcome.Fault fault)) (stopped left)
  step_cut e made fault left cuts = (plain_fault fault, refl, refl, cuts, ([], refl))

  pub cut_between : (k : ℕ) (e : Event) (made : Made) (fault : Fault) (left : Ended) → Cuts config chain node (e ∷ []) made fault left → IsBetween config chain k (stopped left)
  cut_between k e made fault left cuts = (cuts.cut.leaves.good, cuts.cut.leaves.some_pair)

  pub cut_excused : (e : Event) → IsPlain e → (made : Made) (fault : FaultCode Sha256Digest) (left : Ended) → IsLawfulStep config chain node (e ∷ []) → Cuts config chain node (e ∷ []) made (plain_fault fault) left → ((kind : TicketKind) → plain_fault fault ≡ ticket_limit (kind_of kind) → ⊥) → IsExcusedFault (plain_fault fault)
  cut_excused e plain made fault left lawful cuts limit =
      excused fault (λ by_value. event_excused config chain a buffer waiting e plain lawful (plain_fault fault) ((only_cut config chain node e made (plain_fault fault) left cuts).cause by_value)) limit

  pub cut_usual : (e : Event) → IsPlain e → Spares e → (made : Made) (fault : FaultCode Sha256Digest) (left : Ended) → IsLawfulStep config chain node (e ∷ []) → Undropped a.life.out → Cuts config chain node (e ∷ []) made (plain_fault fault) left → ((kind : TicketKind) → plain_fault fault ≡ ticket_limit (kind_of kind) → ⊥) → IsUsual (plain_fault fault)
  cut_usual e plain spares made fault left lawful undropped cuts limit =
      usual fault (λ by_value. none_due (event_fault config node e) (plain_fault fault) (no_event_fault config chain a buffer waiting e plain spares lawful undropped) ((only_cut config chain node e made (plain_fault fault) left cuts).cause by_value)) limit

-- these callers wait, and this is the next ticket
abbrev pub waits : Waiting → List ℕ → ℕ → Waiting
waits between unanswered next = record between { unanswered = unanswered; next_answer = next }

-- what is asked of a step is what was asked of its line, whoever waits beside it
pub lawful_step : {P E : Type 0} (config : Config) (chain : Chain) (a : Seen P E) (buffer : List Block) (between : Waiting) (unanswered : List ℕ) (next : ℕ) (k : ℕ) (line : Line) (e : Event) → IsPlain e → IsLawfulLine config chain k (running (node_of a buffer between)) line
    → ((t : Option ℕ) (f : Finalization) → e ≡ message_told t (report_finalization f) → line ≡ tell_line (report_finalization f)) → ((b : Block) → Contains (told_blocks e) b → Contains (line_blocks line) b) → IsLawfulStep config chain (node_of a buffer (waits between unanswered next)) (e ∷ [])
lawful_step config chain a buffer between unanswered next k line e plain lawful same brings = record { lawful = lawful.lawful; one = one; reported = (told plain same, tt); good = good plain; rests = rests plain }
  where
    told : {d : Event} → IsPlain d → ((t : Option ℕ) (f : Finalization) → d ≡ message_told t (report_finalization f) → line ≡ tell_line (report_finalization f)) → ReportsFinalized chain d
    told (tells t m built) is = told_reports chain t m (λ f same. lawful.reported f (is t f (ap (message_told t) same)))
    told (marks t m) is = tt
    told (finishes t) is = tt

    within : (b : Block) → Contains (told_blocks e ++ []) b ⊎ Contains (known_blocks chain (node_of a buffer (waits between unanswered next))) b → Contains (line_blocks line ++ known_blocks chain (node_of a buffer (waits between unanswered next))) b
    within b (inl of_event) = Contains-append_left (line_blocks line) (known_blocks chain (node_of a buffer (waits between unanswered next))) b (brings b (subst (λ xs. Contains xs b) (append-nil (told_blocks e)) of_event))
    within b (inr others) = Contains-append_right (line_blocks line) (known_blocks chain (node_of a buffer (waits between unanswered next))) b others

    one : AreOne config.inner ((told_blocks e ++ []) ++ known_blocks chain (node_of a buffer (waits between unanswered next)))
    one = AreOne-within config.inner ((told_blocks e ++ []) ++ known_blocks chain (node_of a buffer (waits between unanswered next))) (line_blocks line ++ known_blocks chain (node_of a buffer (waits between unanswered next))) (λ b has. within b (Contains-append_cases (told_blocks e ++ []) (known_blocks chain (node_of a buffer (waits between unanswered next))) b has)) lawful.one

    good_now : IsGood config chain (node_of a buffer (waits between unanswered next))
    good_now = IsGood-beside config chain a buffer buffer between (waits between unanswered next) lawful.between.0.of_chain.asks.requests lawful.between.0

    good : {d : Event} → IsPlain d → IsGoodFor config chain (node_of a buffer (waits between unanswered next)) (d ∷ [])
    good (tells t m built) = good_now
    good (marks t m) = good_now
    good (finishes t) = good_now

    rests_now : Rest config.window (node_of a buffer (waits between unanswered next))
    rests_now = Rest-beside config.window a buffer buffer between (waits between unanswered next) lawful.between.1

    rests : {d : Event} → IsPlain d → RestsBefore config.window (node_of a buffer (waits between unanswered next)) (d ∷ [])
    rests (tells t m built) = rests_now
    rests (marks t m) = rests_now
    rests (finishes t) = rests_now

-- LINES THAT MARK AN ACKNOWLEDGEMENT

-- it marks that of this ticket, where that one is outstanding
abbrev pub MarksOwed : Node → ℕ → Line → Type 0
MarksOwed n t l = refusal n l ≡ (if list_any (is_unmarked t) n.out then None else Some remark_ignored)

pub mark_done : (config : Config) (chain : Chain) (account : Account) (n : Node) (t : ℕ) (l : Line) (out : Output) (after : State) → MarksOwed n t l → list_any (is_unmarked t) n.out ≡ true → Acts config chain n l out after
    → LineDone config chain account (running n) l out after
mark_done config chain account n t l out after same owes done =
    subst (λ o. RunningDone config chain n l o out after) (sym (same ∙ ap (λ (b : Bool). if b then None else Some remark_ignored) owes)) done

-- another isn't
pub mark_ignored : (config : Config) (chain : Chain) (account : Account) (n : Node) (t : ℕ) (l : Line) (out : Output) (after : State) → MarksOwed n t l → list_any (is_unmarked t) n.out ≡ false
    → RunningDone config chain n l (Some remark_ignored) out after → LineDone config chain account (running n) l out after
mark_ignored config chain account n t l out after same owes done =
    subst (λ o. RunningDone config chain n l o out after) (sym (same ∙ ap (λ (b : Bool). if b then None else Some remark_ignored) owes)) done

-- a ticket that is owed is outstanding
pub owed_outstanding : (t : ℕ) (out : List Outstanding) → list_any (is_unmarked t) out ≡ true → list_any (λ a. a.ticket == t) out ≡ true
owed_outstanding t [] owed = owed
owed_outstanding t (a ∷ out) owed = by (a.ticket == t) _ owed (owed_outstanding t out)
  where
    by : (b w : Bool) → ((b && w) || list_any (is_unmarked t) out) ≡ true → (list_any (is_unmarked t) out ≡ true → list_any (λ x. x.ticket == t) out ≡ true) → (b || list_any (λ x. x.ticket == t) out) ≡ true
    by true w is rest = refl
    by false w is rest = rest is

-- so a smooth line drops none
pub spared : (t : ℕ) (out : List Outstanding) → IsFalse (list_any (λ a. a.ticket == t) out) → list_any (is_unmarked t) out ≡ true → ⊥
spared t out smooth owed = let clash : true ≡ false = sym (owed_outstanding t out owed) ∙ smooth in cc

-- THE SYNC LINE

-- whether it is open, of both archives or of the cache
abbrev pub is_open : {P E : Type 0} → Seen P E → ℕ → Bool
is_open a t = is_open_sync a.held.writes.syncs t || is_cache_sync a.held.cache.syncs t

-- an open sync finishes
pub sync_done : {P E : Type 0} (config : Config) (chain : Chain) (account : Account) (a : Seen P E) (buffer : List Block) (waiting : Waiting) (t : ℕ) (out : Output) (after : State) → is_open a t ≡ true → StepDone config chain (node_of a buffer waiting) (sync_finished t ∷ []) [] (λ m. []) out after → LineDone config chain account (running (node_of a buffer waiting)) (sync_line t) out after
sync_done config chain account a buffer waiting t out after is_open done = subst (λ (b : Bool). RunningDone config chain (node_of a buffer waiting) (sync_line t) (if b then None else Some remark_ignored) out after) (sym is_open) done

-- another isn't awaited
pub sync_ignored : {P E : Type 0} (config : Config) (chain : Chain) (account : Account) (a : Seen P E) (buffer : List Block) (waiting : Waiting) (t : ℕ) (out : Output) (after : State) → is_open a t ≡ false → RunningDone config chain (node_of a buffer waiting) (sync_line t) (Some remark_ignored) out after → LineDone config chain account (running (node_of a buffer waiting)) (sync_line t) out after
sync_ignored config chain account a buffer waiting t out after closed done = subst (λ (b : Bool). RunningDone config chain (node_of a buffer waiting) (sync_line t) (if b then None else Some remark_ignored) out after) (sym closed) done
