-- A reported notarization is kept, and then its block where that is at hand: what is promised of it comes of its plan.
use Rattle.std.proofs.Common.{◌≡◌, inl, inr, ◌∷◌, ◌++◌, [], List, Option, None, Some, Ok, Bool, true, false, cond, map, Contains, nat_lt, ℕ, zero, suc, arith, refl, sym, ◌∙◌, ap, subst, append-nil}
use Rattle.std.specs.List.{AllByRecursion}
use Rattle.mar_types.specs.Epochs.{Epochs}
use Rattle.mar_types.specs.Round.{Round}
use Rattle.mar_cert.specs.Block.{Block}
use Rattle.mar_cert.specs.Finalization.{Notarization}
use Rattle.mar_model.specs.Answers.{answers_of}
use Rattle.mar_model.specs.Cache.{is_notarization_of, is_notarized_of, is_synced_put, notarized_at_hand, notarized_where}
use Rattle.mar_model.specs.Cached.{Cached, epoch_of, notarization_entry, notarized_entry}
use Rattle.mar_model.specs.Chain.{Chain}
use Rattle.mar_model.specs.Config.{Config}
use Rattle.mar_model.specs.Event.{Event, message_told, no_floor}
use Rattle.mar_model.specs.Held.{Remembered, written_entries}
use Rattle.mar_model.specs.Messages.{report_notarization}
use Rattle.mar_model.specs.Moves.{KeepsFor, found_at_hand}
use Rattle.mar_model.specs.Node.{Agrees, AreCachedOf, BlocksAgree, at_hand}
use Rattle.mar_model.specs.Promise.{IsLawfulStep, IsSetTo, KeepsStep, Waiting}
use Rattle.mar_model.specs.Acts.{AreLawful, caches, keep_notarization, keep_notarized}
use Rattle.mar_model.specs.Plans.{Found, found_by, found_of, keep_plan, notar_plan}
use Rattle.mar_model.specs.Ran.{Reads, Runs, does}
use Rattle.mar_model.specs.Scene.{Scene}
use Rattle.mar_model.specs.Step.{IsFront}
use Rattle.mar_model.proofs.CacheEvents.{LeavesArchives}
use Rattle.mar_model.proofs.CacheSteps.{is_certified}
use Rattle.mar_model.proofs.EntryLists.{contains_none, first_or_more, one_of}
use Rattle.mar_model.proofs.FinalizationEvent.{leaves_none, serves_none}
use Rattle.mar_model.proofs.FoundBlocks.{found-is}
use Rattle.mar_model.proofs.Growing.{WithinWritten-entry}
use Rattle.mar_model.proofs.Handing.{Hears-nothing}
use Rattle.mar_model.proofs.KeptEach.{KeepsEach, KeepsEach-for, KeepsEach-none, KeepsEach-then, KeepsFor-read}
use Rattle.mar_model.proofs.KeptEvents.{kept}
use Rattle.mar_model.proofs.KnownBlocks.{at_hand-known, known_agrees}
use Rattle.mar_model.proofs.Owning.{quiet_cut}
use Rattle.mar_model.proofs.Owns.{Owns, answers_in, asks_in, course_of, node_at, own_pair, sends_in}
use Rattle.mar_model.proofs.Planned.{found_block}
use Rattle.mar_model.proofs.SyncPromise.{at, KeepsPlan}
use Rattle.mar_model.proofs.Unread.{runs_first}

-- WHAT IS KEPT OF THE BLOCK

-- the block that was found is kept as notarized, unless it was verified there
abbrev kept_entries : Round → Option Block → Bool → List Cached
kept_entries r None v = []
kept_entries r (Some b) v = notarized_where v r b

-- each with a sync of its archive
abbrev kept_tests : Round → Option Block → Bool → List (Cached → Bool)
kept_tests r o v = map (λ x. is_notarized_of r.epoch) (kept_entries r o v)

-- what holds of a notarized block holds of each of them
of_kept : (r : Round) (o : Option Block) (v : Bool) (P : Cached → Type 0) → ((b : Block) → P (notarized_entry r b)) → (x : Cached) → Contains (kept_entries r o v) x → P x
of_kept r None v P holds x has = contains_none x has
of_kept r (Some b) true P holds x has = contains_none x has
of_kept r (Some b) false P holds x has = subst P (sym (one_of (notarized_entry r b) x has)) (holds b)

-- and of the notarization with them
of_both : (f : Notarization) (o : Option Block) (v : Bool) {A : Type 0} (test : Cached → A) (y : A) → test (notarization_entry f) ≡ y → ((b : Block) → test (notarized_entry f.round b) ≡ y)
    → (x : Cached) → Contains (notarization_entry f ∷ kept_entries f.round o v) x → test x ≡ y
of_both f o v test y own others x has = elim (first_or_more (notarization_entry f) (kept_entries f.round o v) x has) [
  | inl same ↦ ap test same ∙ own
  | inr more ↦ of_kept f.round o v (λ z. test z ≡ y) others x more
]

-- both agree with the chain where the block does
agree_kept : (chain : Chain) (f : Notarization) (o : Option Block) (v : Bool) → ((b : Block) → o ≡ Some b → Agrees chain b)
    → AreCachedOf chain (notarization_entry f ∷ kept_entries f.round o v) × BlocksAgree chain (notarization_entry f ∷ kept_entries f.round o v)
agree_kept chain f None v agrees = (tt, tt)
agree_kept chain f (Some b) true agrees = (tt, tt)
agree_kept chain f (Some b) false agrees = (tt, (agrees b refl, tt))

-- THE REST OF THE PLAN

-- the stores alone were changed, and then read
stores_read : (u w t : Scene) → w ≡ record u { held = w.held } → Reads w t → t ≡ record u { held = t.held }
stores_read u w t same reads = reads.same ∙ (ap (λ (x : Scene). record x { held = record w.held { watches = t.held.watches } }) same
    ∙ ap (λ h. record u { held = h }) (sym (ap (λ (x : Scene). x.held) reads.same)))

none_kept : (r : Round) (u t : Scene) → Reads u t → KeepsEach r.epoch [] [] None u.held t.held × (t ≡ record u { held = t.held })
none_kept r u t reads = (KeepsEach-none r.epoch None u.held t.held (ap (λ (x : Scene). x.held) reads.same), stores_read u u t refl reads)

kept_each : (inner : List ℕ → List ℕ) (r : Round) (o : Option Block) (v : Bool) (u t : Scene) → AreLawful u.held → Runs inner u (keep_plan r o v) t
    → KeepsEach r.epoch (kept_entries r o v) (kept_tests r o v) None u.held t.held × (t ≡ record u { held = t.held })
kept_each inner r None v u t law reads = none_kept r u t reads
kept_each inner r (Some b) true u t law reads = none_kept r u t reads
kept_each inner r (Some b) false u t law runs =
    let (w, ((ticket, keeps), joins, lawful, same), reads) = runs_first inner (does (caches (keep_notarized r b))) [] u t law runs in (
      KeepsEach-for r.epoch (notarized_entry r b ∷ []) (is_notarized_of r.epoch) None ticket u.held t.held
          (subst (KeepsFor r.epoch (notarized_entry r b ∷ []) (is_notarized_of r.epoch) None ticket u.held) (sym (ap (λ (x : Scene). x.held) reads.same))
          (KeepsFor-read r.epoch _ _ None ticket u.held w.held t.held.watches keeps)),
      stores_read u w t same reads,
    )

-- THE STEP

module _ {P E : Type 0} (life : Remembered P E) (epochs : Epochs) (inner : List ℕ → List ℕ) (buffer : List Block) (s : Scene)
    (law : AreLawful s.held) (f : Notarization) (found : Found) (finds : s.held.cache.loaded ≡ true → found ≡ found_by inner buffer s.held (message_told None (report_notarization f))) where
  abbrev e : Event
  e = message_told None (report_notarization f)

  abbrev put : List Cached
  put = notarization_entry f ∷ kept_entries f.round found.block found.is_verified

  abbrev hand : Option Block
  hand = found_at_hand inner buffer s.held.cache.kept.held s.held.blocks.held f.payload

  module _ (loaded : s.held.cache.loaded ≡ true) (config : Config) (chain : Chain) (waiting : Waiting) (set : IsSetTo config s.life.sizes epochs inner)
      (step : IsLawfulStep config chain (node_at s buffer waiting) (message_told None (report_notarization f) ∷ [])) where
    -- what was found is what is at hand
    hand_is : at_hand (node_at s buffer waiting) f.payload ≡ hand
    hand_is = sym (found-is config.inner chain (at life s) buffer waiting f.payload step.one step.good.of_chain.stores.held_blocks)
        ∙ ap (λ i. found_at_hand i buffer s.held.cache.kept.held s.held.blocks.held f.payload) set.inner_is

    -- it agrees with the chain
    agrees : (b : Block) → found.block ≡ Some b → Agrees chain b
    agrees b is = known_agrees config.inner chain (node_at s buffer waiting) step.one b
        (at_hand-known config.inner chain (at life s) buffer waiting step.good.of_chain.stores.held_blocks f.payload b
        (hand_is ∙ (sym (found_block s.held f.round hand) ∙ (sym (ap (λ (d : Found). d.block) (finds loaded)) ∙ is))))

    agree : AreCachedOf chain put × BlocksAgree chain put
    agree = agree_kept chain f found.block found.is_verified agrees

    -- what is put of it is what the event puts
    entries_are : notarized_at_hand (node_at s buffer waiting) f.round (at_hand (node_at s buffer waiting) f.payload) ≡ kept_entries f.round found.block found.is_verified
    entries_are = ap (notarized_at_hand (node_at s buffer waiting) f.round) hand_is ∙ (by hand ∙ ap (λ (d : Found). kept_entries f.round d.block d.is_verified) (sym (finds loaded)))
      where
        by : (o : Option Block) → notarized_at_hand (node_at s buffer waiting) f.round o ≡ kept_entries f.round (found_of s.held f.round o).block (found_of s.held f.round o).is_verified
        by None = refl
        by (Some b) = refl

    quiet : LeavesArchives config (node_at s buffer waiting) e []
    quiet = record {
      effect = refl;
      undrained = refl;
      processed = refl;
      cutoff = refl;
      storing = refl;
      position = refl;
      syncs = refl;
      witnessing = refl;
      no_fault = refl;
      asks = refl;
      subscriptions = ap (λ xs. xs ++ []) (leaves_none (at_hand (node_at s buffer waiting) f.payload));
      unrefused = λ fault. refl;
      once = refl;
      no_pass = λ n'. refl;
    }

    -- each task is its own, and says nothing
    owned : (o : Option Block) (v : Bool) → Owns config chain (node_at s buffer waiting) e (written_entries (notarization_entry f ∷ kept_entries f.round o v)) s.life.sizes.retention (own_pair s) (course_of s)
        (does (caches (keep_notarization f)) ∷ keep_plan f.round o v)
        × (asks_in s.held.cutoff (keep_plan f.round o v) ≡ []) × (sends_in (keep_plan f.round o v) ≡ []) × (answers_in s.held (keep_plan f.round o v) ≡ [])
    owned None v = ((refl, WithinWritten-entry (notarization_entry f) _ (zero, omega arith, refl), tt), refl, refl, refl)
    owned (Some b) true = ((refl, WithinWritten-entry (notarization_entry f) _ (zero, omega arith, refl), tt), refl, refl, refl)
    owned (Some b) false = (
      (refl, WithinWritten-entry (notarization_entry f) _ (zero, omega arith, refl), (refl, WithinWritten-entry (notarized_entry f.round b) _ (suc zero, omega arith, refl), tt)),
      refl,
      refl,
      refl,
    )

  pub notarized : KeepsPlan life epochs inner buffer s (notar_plan f found) (message_told None (report_notarization f))
  notarized = record {
    ran = λ t runs.
        let (u, ((ticket, keeps), joins, lawful, same), rest) = runs_first inner (does (caches (keep_notarization f))) (keep_plan f.round found.block found.is_verified) s t law runs in
        let (each, same_then) = kept_each inner f.round found.block found.is_verified u t lawful rest in
        let now : t ≡ record s { held = t.held } = same_then ∙ ap (λ (x : Scene). record x { held = t.held }) same in
        subst (λ (y : Scene). KeepsStep epochs inner (at life s) (message_told None (report_notarization f) ∷ []) buffer s.heard y.heard (Ok (at life y))) (sym now)
        (kept epochs inner (at life s) buffer None (report_notarization f) s.heard.reports s.heard.asks s.heard.sends s.heard.sends s.heard.answers s.heard.answers f.round.epoch put
        (is_notarization_of f.round.epoch ∷ kept_tests f.round found.block found.is_verified) None t.held [] law.cached
        (KeepsEach-then f.round.epoch (notarization_entry f ∷ []) (kept_entries f.round found.block found.is_verified) (is_notarization_of f.round.epoch ∷ [])
        (kept_tests f.round found.block found.is_verified) None s.held u.held t.held
        (of_kept f.round found.block found.is_verified (λ x. AllByRecursion (λ test. test x ≡ false) (is_notarization_of f.round.epoch ∷ [])) (λ b. (refl, tt)))
        (KeepsEach-for f.round.epoch (notarization_entry f ∷ []) (is_notarization_of f.round.epoch) None ticket s.held u.held keeps) each)
        (λ loaded config chain waiting set step. record {
          event = record {
            quiet = quiet loaded config chain waiting set step;
            unfinished = refl;
            uncovered = refl;
            no_query = refl;
            answered = refl;
            entries = ap (λ xs. notarization_entry f ∷ xs) (entries_are loaded config chain waiting set step);
            of_epoch = of_both f found.block found.is_verified epoch_of f.round.epoch refl (λ b. refl);
            by_view = of_both f found.block found.is_verified is_certified false refl (λ b. refl);
            unsynced = of_both f found.block found.is_verified (is_synced_put e) false refl (λ b. refl);
            starts = ap (λ xs. cond (nat_lt f.round.epoch s.held.lowest) [] (is_notarization_of f.round.epoch ∷ map (λ x. is_notarized_of f.round.epoch) xs))
                (entries_are loaded config chain waiting set step);
          };
          sends = refl;
          answered = sym (ap (λ xs. xs ++ []) (serves_none (at_hand (node_at s buffer waiting) f.payload)));
          finalizations = (agree loaded config chain waiting set step).0;
          blocks = (agree loaded config chain waiting set step).1;
        }) (Hears-nothing s.heard.sends) (sym (append-nil s.heard.answers)));
    broke = quiet_cut life epochs inner buffer s law e put (notar_plan f found) (λ loaded config chain waiting set step.
        let (owns, asks, sends, answers) = owned loaded config chain waiting set step found.block found.is_verified in
        record {
          calls = [];
          quiet = quiet loaded config chain waiting set step;
          own = λ y has. subst (λ xs. Contains (notarization_entry f ∷ xs) y) (sym (entries_are loaded config chain waiting set step)) has;
          finalizations = (agree loaded config chain waiting set step).0;
          blocks = (agree loaded config chain waiting set step).1;
          owns = owns;
          asks = asks;
          sends = sends;
          answers = (0, subst (λ xs. IsFront xs (answers_of config (node_at s buffer waiting) 0 e no_floor)) (sym answers) (answers_of config (node_at s buffer waiting) 0 e no_floor, refl));
        });
  }
