-- What breaks the plan of a finished sync or of a reported finalization is a cut of it: what is promised of it today.
use Rattle.std.proofs.Common.{◌≡◌, ◌⊎◌, inl, inr, ⊎_elim, option_to_list, ℕ, zero, List, [], ◌∷◌, ◌==◌, Bool, true, false, cond, nat_lt, Option, Some, None, option_map, Err, Contains, refl, sym, ◌∙◌, ap, subst, arith, eqb-true, append-nil, ◌++◌}
use Rattle.std.specs.List.{AllByRecursion, filter_map}
use Rattle.std.proofs.lemmas.List.Elements.{Contains-append_left, Contains-append_right}
use Rattle.mar_types.specs.Epochs.{Epochs, IsPartition}
use Rattle.mar_cert.specs.Block.{Block}
use Rattle.mar_cert.specs.Finalization.{Finalization}
use Rattle.mar_store.specs.Kept.{At}
use Rattle.mar_key.specs.Processed.{height_of}
use Rattle.mar_store.proofs.Lookups.{AllByRecursion-contains, AllByRecursion-from_contains}
use Rattle.mar_key.specs.Keys.{Call}
use Rattle.mar_key.specs.Cutoff.{at_round, greatest_of}
use Rattle.mar_model.specs.Cache.{witnessing_of}
use Rattle.mar_model.specs.Metadata.{pair_of}
use Rattle.mar_model.specs.Cached.{Cached, cached_block, cached_finalization, finalization_entry}
use Rattle.mar_model.specs.Chain.{Chain, Finalizes, IsBlockAt, IsFinal}
use Rattle.mar_model.specs.Config.{Config}
use Rattle.mar_model.specs.Event.{Event, message_told, met_of, no_floor, sync_finished}
use Rattle.mar_model.specs.Faults.{height_limit, last_height}
use Rattle.mar_model.specs.Held.{Ending, Held, Remembered, WithinWritten, Written, nothing_written, written_cert, written_entry}
use Rattle.mar_model.specs.Messages.{report_finalization}
use Rattle.mar_model.specs.Moves.{CachesFinalization, at_height, lacks_finalization, pruned_by, found_at_hand}
use Rattle.mar_model.specs.Node.{AreBlocksOf, AreFinalizationsOf, IsFinalized, IsGood, Node, at_hand}
use Rattle.mar_model.specs.Promise.{AreOne, CutsStep, Heard, IsLawfulStep, KeepsStep, Waiting}
use Rattle.mar_model.specs.Requests.{IsRepairFetch, own_asks, raise_asks}
use Rattle.mar_model.specs.Sound.{IsSafePair}
use Rattle.mar_model.specs.Stored.{at_own_height}
use Rattle.mar_model.specs.Acts.{Act, AreLawful, caches, note, progresses, put_finalization, says, start_sync, store, stores, tell}
use Rattle.mar_model.specs.Plans.{at_hand_plan, final_plan, late_plan, note_plan, store_plan, sync_plan}
use Rattle.mar_model.specs.Ran.{Breaks, Runs, Task, does, ends, repairs}
use Rattle.mar_model.specs.Scene.{Scene, seen_of}
use Rattle.mar_model.specs.Answers.{answers_of}
use Rattle.mar_model.specs.Step.{IsFront, IsBlockFrom, IsCertFrom}
use Rattle.mar_model.proofs.CacheOver.{held_put, own_none, own_reported, OwnCache}
use Rattle.mar_model.proofs.Cutting.{only_one}
use Rattle.mar_model.proofs.EntryLists.{contains_none}
use Rattle.mar_model.proofs.FinalizationEvent as final
use Rattle.mar_model.proofs.FloorSafety.{MeetsFinal}
use Rattle.mar_model.proofs.FoundBlocks.{found-is}
use Rattle.mar_model.proofs.Growing.{WithinWritten-entry, WithinWritten-nothing, WithinWritten-refl}
use Rattle.mar_model.proofs.PairsAfter.{IsSafePair-after}
use Rattle.mar_model.proofs.Soundness.{own_pair_safe, untold}
use Rattle.mar_model.proofs.Owns.{Owns, course_of, node_at, own_pair, pair_after, sends_in, answers_in, asks_in, written_in}
use Rattle.mar_model.proofs.CutsRan.{Cuts-plan, Cuts-repairing, IsOwned, OwnsWritten}
use Rattle.mar_model.proofs.Acting.{BreaksBehind, as_tasks, flattened}
use Rattle.mar_model.proofs.Filling.{AreToFill, OwnsFills, OwnsFills-all, behind_within, filled_blocks, filled_certs, found_within, own-pass}
use Rattle.mar_model.proofs.Filtered.{all_found_put, all_found_within}
use Rattle.mar_model.proofs.StoredValues.{all_held}
use Rattle.mar_model.proofs.Owning.{IsOwned-undrained, OwnsWritten-cached}
use Rattle.mar_model.proofs.SyncPromise.{at}
use Rattle.mar_model.proofs.Reaching.{brought_from, told_from}

-- A FINISHED SYNC

module _ (config : Config) (chain : Chain) (start : Scene) (t : ℕ) (buffer : List Block) (waiting : Waiting) (step : IsLawfulStep config chain (node_at start buffer waiting) (sync_finished t ∷ [])) where
  IsOwned-sync : IsOwned config chain start (sync_finished t) buffer waiting nothing_written
  IsOwned-sync = IsOwned-undrained config chain start (sync_finished t) buffer waiting (record {
    no_effect = refl;
    unrefused = λ fault. refl;
    undrained = refl;
    processed = refl;
    good = untold config chain (node_at start buffer waiting) (sync_finished t) step.good;
    safe = own_pair_safe chain (node_at start buffer waiting) step.good.heights.delivery.anchored step.good.of_chain.floor_safe;
  }) nothing_written (OwnsWritten-cached config chain start (sync_finished t) buffer waiting [] (own_none config chain (node_at start buffer waiting) (sync_finished t)))

  unanswered : (lowest : ℕ) × IsFront [] (answers_of config (node_at start buffer waiting) lowest (sync_finished t) no_floor)
  unanswered = (0, (answers_of config (node_at start buffer waiting) 0 (sync_finished t) no_floor, refl))

  Owns-sync : (was_open : Bool) → Owns config chain (node_at start buffer waiting) (sync_finished t) nothing_written start.life.sizes.retention (own_pair start) (course_of start) (sync_plan was_open t)
  Owns-sync true = (WithinWritten-refl nothing_written, (refl, refl, refl, refl))
  Owns-sync false = tt

  Cuts-sync : (inner : List ℕ → List ℕ) (was_open : Bool) → AreLawful start.held → start.held.cache.loaded ≡ true → (x : Ending) (heard : Heard)
      → Breaks inner start (sync_plan was_open t) x heard → CutsStep config chain (node_at start buffer waiting) (sync_finished t ∷ []) start.heard heard x
  Cuts-sync inner true law loaded x heard breaks = Cuts-plan config chain start (sync_finished t) buffer waiting nothing_written IsOwned-sync inner
      (sync_plan true t) law loaded refl refl unanswered (Owns-sync true) x heard breaks
  Cuts-sync inner false law loaded x heard breaks = Cuts-plan config chain start (sync_finished t) buffer waiting nothing_written IsOwned-sync inner
      (sync_plan false t) law loaded refl refl unanswered (Owns-sync false) x heard breaks

-- A REPORTED FINALIZATION

module _ (config : Config) (chain : Chain) (start : Scene) (f : Finalization) (buffer : List Block) (waiting : Waiting) (partition : IsPartition config.epochs) (retention : config.retention ≡ start.life.sizes.retention)
    (step : IsLawfulStep config chain (node_at start buffer waiting) (message_told None (report_finalization f) ∷ [])) where
  abbrev pub n : Node
  n = node_at start buffer waiting

  abbrev pub e : Event
  e = message_told None (report_finalization f)

  abbrev good : IsGood config chain n
  good = step.good

  -- all that it may write, by the block at hand and where that stands
  abbrev pub written : Option Block → Written
  written None = written_entry (finalization_entry f)
  written (Some b) = record (written_cert (at_height b.height f)) { cached = finalization_entry f ∷ []; prunes = pruned_by start.life.sizes.retention start.held.witnessed (f.round ∷ []); pairs = pair_after config n e ∷ [] }

  -- and above the processed height, with what is filled in
  abbrev pub written_high : Block → List Act → Written
  written_high b acts = record nothing_written { blocks = at_own_height b ∷ filled_blocks acts; certs = at_height b.height f ∷ filled_certs acts; cached = finalization_entry f ∷ [] }

  block-final : (b : Block) → at_hand n f.payload ≡ Some b → IsFinal chain f.round b.height × IsBlockAt chain b.height b
  block-final b is = final.block-final config chain (seen_of start) f buffer waiting step.lawful step.one step.good step.reported.0 b is

  meets : (o : Option Block) → at_hand n f.payload ≡ o → MeetsFinal chain (option_map (λ c. met_of c f) o)
  meets None is = tt
  meets (Some b) is = (block-final b is).0

  safe : IsSafePair chain start.held.blocks.sure (pair_after config n e)
  safe = IsSafePair-after config chain step.lawful partition n e start.held.blocks.sure good.of_chain.stores.held_certs good.heights.delivery.anchored good.heights.delivery.consecutive good.heights.delivery.out_sure good.of_chain.floor_safe (λ h bound has. has) (meets (at_hand n f.payload) refl) tt tt

  prunes_are : (b : Block) → at_hand n f.payload ≡ Some b → nat_lt (height_of start.held.processed) b.height ≡ false → pruned_by start.life.sizes.retention start.held.witnessed (f.round ∷ []) ≡ (witnessing_of config n e no_floor).prunes
  prunes_are b is low = ap (λ k. pruned_by k start.held.witnessed (f.round ∷ [])) (sym retention) ∙ sym (ap (λ w. w.prunes) (final.witnessed_by config chain (seen_of start) f buffer waiting step.lawful step.one step.good step.reported.0 (f.round ∷ []) (final.rounds_at config chain (seen_of start) f buffer waiting step.lawful step.one step.good step.reported.0 b is false low)))

  is_owned : (all : Written) → OwnsWritten config chain start e buffer waiting all → IsOwned config chain start e buffer waiting all
  is_owned all writes = IsOwned-undrained config chain start e buffer waiting
      (record { no_effect = refl; unrefused = λ fault. refl; undrained = refl; processed = refl; good = untold config chain n e step.good; safe = safe }) all writes

  own_put : OwnCache config chain n e (finalization_entry f ∷ []) []
  own_put = own_reported config chain n f [] step.reported.0 (λ r has. contains_none r has)

  IsOwned-absent : IsOwned config chain start e buffer waiting (written None)
  IsOwned-absent = is_owned (written None) (OwnsWritten-cached config chain start e buffer waiting (finalization_entry f ∷ []) own_put)

  finalizes : (b : Block) → at_hand n f.payload ≡ Some b → AreFinalizationsOf chain (at_height b.height f ∷ [])
  finalizes b is = (final.finalizes config chain (seen_of start) f buffer waiting step.lawful step.one step.good step.reported.0 b is, tt)

  own_cert : (b : Block) (x : At Finalization) → Contains (at_height b.height f ∷ []) x → IsCertFrom n e x
  own_cert b x has = told_from n e x (ap (λ (y : At Finalization). Some y.value) (only_one (at_height b.height f) x has))

  IsOwned-high : (b : Block) → at_hand n f.payload ≡ Some b → (acts : List Act) → OwnsFills config chain n e acts → IsOwned config chain start e buffer waiting (written_high b acts)
  IsOwned-high b is acts filled = is_owned (written_high b acts) (record {
    unpruned = refl;
    certs_unpruned = refl;
    pairs = λ p has. contains_none p has;
    cache = own_put;
    of_blocks = ((block-final b is).1, filled.blocks);
    of_certs = ((finalizes b is).0, filled.certs);
    own_blocks = λ x has. AllByRecursion-contains (IsBlockFrom n e) (at_own_height b ∷ filled_blocks acts) x (brought_from n e (at_own_height b) is, filled.own_blocks) has;
    own_certs = λ x has. AllByRecursion-contains (IsCertFrom n e) (at_height b.height f ∷ filled_certs acts) x (told_from n e (at_height b.height f) refl, filled.own_certs) has;
  })

  IsOwned-low : (b : Block) → at_hand n f.payload ≡ Some b → nat_lt (height_of start.held.processed) b.height ≡ false → IsOwned config chain start e buffer waiting (written (Some b))
  IsOwned-low b is low = is_owned (written (Some b)) (record {
    unpruned = refl;
    certs_unpruned = refl;
    pairs = λ p has. only_one (pair_after config n e) p has;
    cache = own_reported config chain n f _ step.reported.0 (λ r has. subst (λ rs. Contains rs r) (prunes_are b is low) has);
    of_blocks = tt;
    of_certs = finalizes b is;
    own_blocks = λ x has. contains_none x has;
    own_certs = own_cert b;
  })

  -- each task is the event's own
  abbrev pub OwnsFrom : Written → List Task → Type 0
  OwnsFrom all plan = Owns config chain n e all start.life.sizes.retention (own_pair start) (course_of start) (does (caches (put_finalization f)) ∷ plan)

  Owns-absent : OwnsFrom (written None) (at_hand_plan buffer start.held f None)
  Owns-absent = (refl, WithinWritten-refl (written None), tt)

  -- until the pass of repair
  abbrev pub storing : Block → List Task
  storing b = does (caches (put_finalization f)) ∷ does (stores (store f b)) ∷ does (says (tell f.round b.height b.digest)) ∷ []

  Owns-high : (b : Block) → at_hand n f.payload ≡ Some b → (acts : List Act) → OwnsFills config chain n e acts → (left : List Task)
      → Owns config chain n e (written_high b acts) start.life.sizes.retention (own_pair start) (written_in (course_of start)) left
      → Owns config chain n e (written_high b acts) start.life.sizes.retention (own_pair start) (course_of start) (storing b ++ as_tasks acts ++ left)
  Owns-high b is acts filled left owns = (
    refl,
    WithinWritten-entry (finalization_entry f) (written_high b acts) (zero, omega arith, refl),
    (
      record {
        blocks = λ x has. Contains-append_left (at_own_height b ∷ []) (filled_blocks acts) x has;
        certs = λ x has. Contains-append_left (at_height b.height f ∷ []) (filled_certs acts) x has;
        cached = none.cached;
        prunes = none.prunes;
        pairs = none.pairs;
        blocks_from = omega arith;
        certs_from = omega arith;
      },
      (
        (block-final b is).0,
        ap (λ o. option_map (λ c. c.digest) o) (block-final b is).1,
        filled.owns (written_high b acts) start.life.sizes.retention (own_pair start) (course_of start) left
            (λ x has. Contains-append_right (at_own_height b ∷ []) (filled_blocks acts) x has) (λ x has. Contains-append_right (at_height b.height f ∷ []) (filled_certs acts) x has) owns,
      ),
    ),
  )
    where
      none : WithinWritten nothing_written (written_high b acts)
      none = WithinWritten-nothing (written_high b acts)

  Owns-low : (b : Block) → at_hand n f.payload ≡ Some b → nat_lt (height_of start.held.processed) b.height ≡ false → OwnsFrom (written (Some b)) (note_plan start.held f b)
  Owns-low b is low = by (lacks_finalization start.held b)
    where
      none : WithinWritten nothing_written (written (Some b))
      none = WithinWritten-nothing (written (Some b))

      put : WithinWritten (written_cert (at_height b.height f)) (written (Some b))
      put = record { blocks = none.blocks; certs = λ x has. has; cached = none.cached; prunes = none.prunes; pairs = none.pairs; blocks_from = omega arith; certs_from = omega arith }

      noted : pair_of start.held.processed (greatest_of start.held.cutoff (at_round f.round ∷ [])) ≡ pair_after config n e
      noted = final.pair_late-is config chain (seen_of start) f buffer waiting step.lawful step.one step.good step.reported.0 b is low

      by : (c : Bool) → OwnsFrom (written (Some b)) (does (progresses (note f.round)) ∷ late_plan c f b)
      by true = (refl, WithinWritten-entry (finalization_entry f) (written (Some b)) (zero, omega arith, refl), (refl, noted, (λ r has. has), (zero, omega arith, refl), (put, ((block-final b is).0, ap (λ o. option_map (λ c. c.digest) o) (block-final b is).1, tt))))
      by false = (refl, WithinWritten-entry (finalization_entry f) (written (Some b)) (zero, omega arith, refl), (refl, noted, (λ r has. has), (zero, omega arith, refl), (put, tt)))

  -- what it asks, sends and answers
  module _ (b : Block) (lacking : Bool) where
    asks_noted : asks_in start.held.cutoff (does (progresses (note f.round)) ∷ late_plan lacking f b) ≡ raise_asks start.held.cutoff (at_round f.round ∷ [])
    asks_noted = ap (λ xs. raise_asks start.held.cutoff (at_round f.round ∷ []) ++ xs) (by lacking) ∙ append-nil (raise_asks start.held.cutoff (at_round f.round ∷ []))
      where
        by : (c : Bool) → asks_in (greatest_of start.held.cutoff (at_round f.round ∷ [])) (late_plan c f b) ≡ []
        by true = refl
        by false = refl

  -- what broke its plan, where no pass of repair is in it
  Cuts-unfilled : (inner : List ℕ → List ℕ) → AreLawful start.held → start.held.cache.loaded ≡ true → (x : Ending) (heard : Heard) (all : Written) → IsOwned config chain start e buffer waiting all
      → (plan : List Task) → asks_in start.held.cutoff plan ≡ own_asks config n e no_floor → sends_in plan ≡ [] → answers_in start.held plan ≡ [] → OwnsFrom all plan
      → Breaks inner start (does (caches (put_finalization f)) ∷ plan) x heard → CutsStep config chain n (e ∷ []) start.heard heard x
  Cuts-unfilled inner law loaded x heard all owned plan asks unsent none_answered owns breaks = Cuts-plan config chain start e buffer waiting all owned inner (does (caches (put_finalization f)) ∷ plan) law loaded
      asks unsent (0, subst (λ xs. IsFront xs (answers_of config n 0 e no_floor)) (sym none_answered) (answers_of config n 0 e no_floor, refl)) owns x heard breaks

  -- FILLED IN

  module _ (inner : List ℕ → List ℕ) (inner_is : config.inner ≡ inner) (law : AreLawful start.held) (loaded : start.held.cache.loaded ≡ true) (x : Ending) (heard : Heard) where
    module _ (b : Block) (is : at_hand n f.payload ≡ Some b) (above : nat_lt (height_of start.held.processed) b.height ≡ true) where
      -- what broke it where it stores, in a row of fills behind that, or in some of what stood behind them
      Cuts-filled : (acts : List Act) → OwnsFills config chain n e acts → (left : List Task) → asks_in start.held.cutoff left ≡ [] → sends_in left ≡ [] → answers_in start.held left ≡ []
          → Owns config chain n e (written_high b acts) start.life.sizes.retention (own_pair start) (written_in (course_of start)) left → Breaks inner start (storing b ++ as_tasks acts ++ left) x heard
          → CutsStep config chain n (e ∷ []) start.heard heard x
      Cuts-filled acts filled left unasked unsent none_answered owns breaks =
          Cuts-repairing config chain start e buffer waiting (written_high b acts) (IsOwned-high b is acts filled) inner (storing b ++ as_tasks acts ++ left) law loaded more
          (inr (refl, subst (AllByRecursion (IsRepairFetch chain)) (sym (filled.asks start.held.cutoff left ∙ (ap (λ ys. filled.calls ++ ys) unasked ∙ append-nil filled.calls))) filled.repair_calls))
          (ap (λ ys. ys ++ more) (final.asks-stored config chain (seen_of start) f buffer waiting step.lawful step.one step.good step.reported.0 b is above))
          (filled.sends left ∙ unsent) (0, subst (λ ys. IsFront ys (answers_of config n 0 e no_floor)) (sym (filled.answers start.held left ∙ none_answered)) (answers_of config n 0 e no_floor, refl))
          (Owns-high b is acts filled left owns) x heard breaks
        where
          more : List Call
          more = asks_in start.held.cutoff (as_tasks acts ++ left)

      -- what its stores are to a pass, where its finalization is cached and both are put
      to_fill_at : (h : Held) → ((y : Cached) → Contains h.cache.kept.held y → Contains (start.held.cache.kept.held ++ finalization_entry f ∷ []) y) → AreBlocksOf chain h.blocks.held → AreFinalizationsOf chain h.certs.held
          → AreToFill config.epochs chain inner buffer h n e
      to_fill_at h within blocks certs = record {
        lawful = step.lawful;
        known = chain.blocks ++ (buffer ++ filter_map cached_block (start.held.cache.kept.held ++ start.held.cache.kept.may));
        one = subst (λ i. AreOne i (chain.blocks ++ (buffer ++ filter_map cached_block (start.held.cache.kept.held ++ start.held.cache.kept.may)))) inner_is step.one;
        chain_known = λ c has. Contains-append_left chain.blocks _ c has;
        beside_known = λ c has. Contains-append_right chain.blocks (buffer ++ filter_map cached_block (start.held.cache.kept.held ++ start.held.cache.kept.may)) c
            (behind_within buffer (filter_map cached_block start.held.cache.kept.held) (filter_map cached_block (start.held.cache.kept.held ++ start.held.cache.kept.may))
            (found_within cached_block start.held.cache.kept.held (start.held.cache.kept.held ++ start.held.cache.kept.may) among) c
            (behind_within buffer (filter_map cached_block h.cache.kept.held) (filter_map cached_block start.held.cache.kept.held) cached_before c has));
        finals = all_found_put cached_finalization (λ g. IsFinalized chain g.round g.payload) h.cache.kept.held start.held.cache.kept.held (finalization_entry f ∷ []) within
            (all_found_within cached_finalization (λ g. IsFinalized chain g.round g.payload) start.held.cache.kept.held (start.held.cache.kept.held ++ start.held.cache.kept.may) among good.of_chain.cache.finalizations) (step.reported.0, tt);
        blocks = blocks;
        certs = certs;
        block_from = λ c has. Contains-append_right (option_to_list (at_hand n f.payload)) (buffer ++ filter_map cached_block start.held.cache.kept.held) c
            (behind_within buffer (filter_map cached_block h.cache.kept.held) (filter_map cached_block start.held.cache.kept.held) cached_before c has);
        cert_from = λ g height has. AllByRecursion-contains (Contains (f ∷ filter_map cached_finalization start.held.cache.kept.held)) (filter_map cached_finalization h.cache.kept.held) g
            (all_found_put cached_finalization (Contains (f ∷ filter_map cached_finalization start.held.cache.kept.held)) h.cache.kept.held start.held.cache.kept.held (finalization_entry f ∷ []) within
            (AllByRecursion-from_contains (Contains (f ∷ filter_map cached_finalization start.held.cache.kept.held)) (filter_map cached_finalization start.held.cache.kept.held)
            (λ k there. Contains-append_right (f ∷ []) (filter_map cached_finalization start.held.cache.kept.held) k there)) ((zero, omega arith, refl), tt)) has;
      }
        where
          among : (y : Cached) → Contains start.held.cache.kept.held y → Contains (start.held.cache.kept.held ++ start.held.cache.kept.may) y
          among y has = Contains-append_left start.held.cache.kept.held start.held.cache.kept.may y has

          -- a cached finalization is no block
          cached_before : (c : Block) → Contains (filter_map cached_block h.cache.kept.held) c → Contains (filter_map cached_block start.held.cache.kept.held) c
          cached_before c has = AllByRecursion-contains (Contains (filter_map cached_block start.held.cache.kept.held)) (filter_map cached_block h.cache.kept.held) c
              (all_found_put cached_block (Contains (filter_map cached_block start.held.cache.kept.held)) h.cache.kept.held start.held.cache.kept.held (finalization_entry f ∷ []) within
              (AllByRecursion-from_contains (Contains (filter_map cached_block start.held.cache.kept.held)) (filter_map cached_block start.held.cache.kept.held) (λ d there. there)) tt) has

      to_fill : (began : Scene) → Runs inner start (storing b) began → AreToFill config.epochs chain inner buffer began.held n e
      to_fill began (m1, h1, reads1, (kept, joins1, law1, same1), (m2, h2, reads2, (both, joins2, law2, same2), (m3, h3, reads3, (tips, same3), reads4))) = to_fill_at began.held
          (λ y has. held_put f start.held h1.held loaded cached.puts y (subst (λ c. Contains c.kept.held y) cache_is has))
          (subst (λ k. AreBlocksOf chain k.held) (sym (ap (λ (h : Held). h.blocks) last)) (all_held (λ y. IsBlockAt chain y.height y.value) _ m2.held.blocks.held (at_own_height b) h2.held.blocks.held both.blocks.held
          (subst (λ k. AreBlocksOf chain k.held) (sym (ap (λ (h : Held). h.blocks) before)) good.of_chain.stores.held_blocks) (block-final b is).1))
          (subst (λ k. AreFinalizationsOf chain k.held) (sym (ap (λ (h : Held). h.certs) last)) (all_held (λ y. Finalizes chain y.height y.value.round y.value.payload) _ m2.held.certs.held (at_height b.height f) h2.held.certs.held both.certs.held
          (subst (λ k. AreFinalizationsOf chain k.held) (sym (ap (λ (h : Held). h.certs) before)) good.of_chain.stores.held_certs) (finalizes b is).0))
        where
          began_is : m1.held ≡ record start.held { watches = m1.held.watches }
          began_is = ap (λ (y : Scene). y.held) reads1.same

          cached : CachesFinalization f (record start.held { watches = m1.held.watches }) h1.held
          cached = subst (λ h. CachesFinalization f h h1.held) began_is kept

          second : m2.held ≡ record h1.held { watches = m2.held.watches }
          second = ap (λ (y : Scene). y.held) reads2.same

          before : m2.held ≡ record start.held { cache = h1.held.cache; watches = m2.held.watches }
          before = second ∙ ap (λ (h : Held). record h { watches = m2.held.watches }) cached.same

          last : began.held ≡ record h2.held { watches = began.held.watches }
          last = ap (λ (y : Scene). y.held) reads4.same
              ∙ (ap (λ (y : Scene). record y.held { watches = began.held.watches }) same3 ∙ ap (λ (y : Scene). record y.held { watches = began.held.watches }) reads3.same)

          cache_is : began.held.cache ≡ h1.held.cache
          cache_is = ap (λ (h : Held). h.cache) last ∙ (ap (λ (h : Held). h.cache) both.same ∙ ap (λ (h : Held). h.cache) second)

      behind-cut : BreaksBehind inner buffer (storing b) (does (stores start_sync) ∷ []) start x heard → CutsStep config chain n (e ∷ []) start.heard heard x
      behind-cut behind = by behind.left behind.left_is behind.broke
        where
          filled : OwnsFills config chain n e behind.acts
          filled = OwnsFills-all config chain n e behind.acts (own-pass config.epochs chain inner buffer behind.began n e (to_fill behind.began behind.done) behind.acts behind.is_pass)

          by : (left : List Task) → (left ≡ []) ⊎ (left ≡ does (stores start_sync) ∷ []) → Breaks inner start (storing b ++ as_tasks behind.acts ++ left) x heard → CutsStep config chain n (e ∷ []) start.heard heard x
          by left (inl none) broke = Cuts-filled behind.acts filled [] refl refl refl tt (subst (λ plan. Breaks inner start (storing b ++ as_tasks behind.acts ++ plan) x heard) none broke)
          by left (inr all) broke = Cuts-filled behind.acts filled (does (stores start_sync) ∷ []) refl refl refl (WithinWritten-nothing (written_high b behind.acts), tt)
              (subst (λ plan. Breaks inner start (storing b ++ as_tasks behind.acts ++ plan) x heard) all broke)

      Cuts-high : Breaks inner start (does (caches (put_finalization f)) ∷ store_plan buffer f b) x heard → CutsStep config chain n (e ∷ []) start.heard heard x
      Cuts-high breaks = by (b.height == last_height) refl breaks
        where
          by : (c : Bool) → (b.height == last_height) ≡ c
              → Breaks inner start (does (caches (put_finalization f)) ∷ cond c (ends (height_limit b.height) ∷ []) (does (stores (store f b)) ∷ does (says (tell f.round b.height b.digest)) ∷ repairs buffer ∷ does (stores start_sync) ∷ [])) x heard
              → CutsStep config chain n (e ∷ []) start.heard heard x
          by true last broke = absurd (final.not_last config chain (seen_of start) f buffer waiting step.lawful step.one step.good step.reported.0 b is (eqb-true b.height last_height last))
          by false other broke = ⊎_elim (λ early. Cuts-filled [] (OwnsFills-all config chain n e [] tt) [] refl refl refl tt early) behind-cut
              (flattened inner buffer (does (stores start_sync) ∷ []) x heard (storing b) start broke)

    Cuts-low : (b : Block) → at_hand n f.payload ≡ Some b → nat_lt (height_of start.held.processed) b.height ≡ false → Breaks inner start (does (caches (put_finalization f)) ∷ note_plan start.held f b) x heard
        → CutsStep config chain n (e ∷ []) start.heard heard x
    Cuts-low b is low breaks = Cuts-unfilled inner law loaded x heard (written (Some b)) (IsOwned-low b is low) (note_plan start.held f b)
        (asks_noted b (lacks_finalization start.held b) ∙ final.asks-late config chain (seen_of start) f buffer waiting step.lawful step.one step.good step.reported.0 b is low)
        (said (lacks_finalization start.held b)).0 (said (lacks_finalization start.held b)).1 (Owns-low b is low) breaks
      where
        said : (lacking : Bool) → (sends_in (does (progresses (note f.round)) ∷ late_plan lacking f b) ≡ []) × (answers_in start.held (does (progresses (note f.round)) ∷ late_plan lacking f b) ≡ [])
        said true = (refl, refl)
        said false = (refl, refl)

    pub Cuts-final : Breaks inner start (does (caches (put_finalization f)) ∷ at_hand_plan buffer start.held f (at_hand n f.payload)) x heard → CutsStep config chain n (e ∷ []) start.heard heard x
    Cuts-final breaks = by (at_hand n f.payload) refl breaks
      where
        by_height : (b : Block) → at_hand n f.payload ≡ Some b → (c : Bool) → nat_lt (height_of start.held.processed) b.height ≡ c
            → Breaks inner start (does (caches (put_finalization f)) ∷ cond c (store_plan buffer f b) (note_plan start.held f b)) x heard → CutsStep config chain n (e ∷ []) start.heard heard x
        by_height b is true above broke = Cuts-high b is above broke
        by_height b is false low broke = Cuts-low b is low broke

        by : (o : Option Block) → at_hand n f.payload ≡ o → Breaks inner start (does (caches (put_finalization f)) ∷ at_hand_plan buffer start.held f o) x heard → CutsStep config chain n (e ∷ []) start.heard heard x
        by None is broke = Cuts-unfilled inner law loaded x heard (written None) IsOwned-absent (at_hand_plan buffer start.held f None)
            (append-nil _ ∙ final.asks-absent config chain (seen_of start) f buffer waiting step.lawful step.one step.good step.reported.0 is) refl refl Owns-absent broke
        by (Some b) is broke = by_height b is (nat_lt (height_of start.held.processed) b.height) refl broke

-- WHAT IS PROMISED TODAY

module _ {P E : Type 0} (life : Remembered P E) (epochs : Epochs) (inner : List ℕ → List ℕ) (partition : IsPartition epochs) (buffer : List Block) (start : Scene) (law : AreLawful start.held) (x : Ending) (heard : Heard) where
  pub sync_cut : (was_open : Bool) (t : ℕ) → Breaks inner start (sync_plan was_open t) x heard → KeepsStep epochs inner (at life start) (sync_finished t ∷ []) buffer start.heard heard (Err x)
  sync_cut was_open t breaks loaded config chain waiting set step = Cuts-sync config chain start t buffer waiting step inner was_open law loaded x heard breaks

  pub final_cut : (f : Finalization) → Breaks inner start (final_plan buffer start.held f (found_at_hand inner buffer start.held.cache.kept.held start.held.blocks.held f.payload)) x heard → KeepsStep epochs inner (at life start) (message_told None (report_finalization f) ∷ []) buffer start.heard heard (Err x)
  final_cut f breaks loaded config chain waiting set step =
      Cuts-final config chain start f buffer waiting (subst IsPartition (sym set.epochs_are) partition) set.retention step inner set.inner_is law loaded x heard
      (subst (λ o. Breaks inner start (does (caches (put_finalization f)) ∷ at_hand_plan buffer start.held f o) x heard)
      (subst (λ i. found_at_hand i buffer start.held.cache.kept.held start.held.blocks.held f.payload ≡ at_hand (node_at start buffer waiting) f.payload) set.inner_is (found-is config.inner chain (seen_of start) buffer waiting f.payload step.one step.good.of_chain.stores.held_blocks))
      breaks)
