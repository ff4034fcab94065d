-- Blocks that are kept for a caller, and a sync of the cache that finishes: what is promised of them comes of their plans.
use Rattle.std.proofs.Common.{◌≡◌, inl, inr, ◌∷◌, ◌++◌, [], List, Option, Some, Bool, true, false, cond, nat_lt, ◌==◌, ◌||◌, ◌<◌, eqb-true, ℕ, refl, sym, ◌∙◌, ap, subst, Contains, append-nil}
use Rattle.std.specs.List.{AllByRecursion, list_any}
use Rattle.std.specs.Prelude.{flat_map}
use Rattle.std.proofs.lemmas.Bool.{cases_lt}
use Rattle.mar_types.specs.Epochs.{Epochs}
use Rattle.mar_types.specs.Round.{Round}
use Rattle.mar_cert.specs.Block.{Block}
use Rattle.mar_gate.specs.Writing.{Writing, is_open_sync}
use Rattle.mar_model.specs.Cache.{certified_covers, is_verified_of, notarized_where, verified_at, is_synced_put}
use Rattle.mar_model.specs.Cached.{Cached, notarized_entry, verified_entry, epoch_of}
use Rattle.mar_model.specs.Event.{message_told, sync_finished}
use Rattle.mar_model.specs.Held.{HaveOwnTickets, Held, Remembered, nothing_written, written_entries}
use Rattle.mar_model.specs.Messages.{Peers, certify, proposed, verified, Message}
use Rattle.mar_model.specs.Moves.{KeepsFor, is_verified_in}
use Rattle.mar_model.specs.Node.{CacheSync, Agrees, AreCachedOf, BlocksAgree}
use Rattle.mar_model.specs.OpenSyncs.{is_cache_sync}
use Rattle.mar_model.specs.Promise.{told_blocks, IsLawfulStep, Waiting}
use Rattle.mar_model.specs.Acts.{AreLawful, finish_kept, keep_certified, keep_verified, keeps_for, says, send}
use Rattle.mar_model.specs.Plans.{finish_plan, sent_block, sync_plan}
use Rattle.mar_model.specs.Ran.{Breaks, DoesTask, Runs, does}
use Rattle.mar_model.specs.Scene.{Scene}
use Rattle.mar_model.specs.Chain.{Chain}
use Rattle.mar_model.specs.Config.{Config}
use Rattle.mar_model.specs.Answers.{finished_answers}
use Rattle.mar_model.proofs.CacheEvents.{LeavesArchives}
use Rattle.mar_model.proofs.CacheEvents as synced
use Rattle.mar_model.proofs.CertifiedBlocks.{verified-stays}
use Rattle.mar_model.proofs.EntryLists.{contains_none, one_of}
use Rattle.mar_model.proofs.Growing.{WithinWritten-refl}
use Rattle.mar_model.proofs.Handing.{Hears-nothing}
use Rattle.mar_model.proofs.KeptEach.{KeepsEach-for, told_kept}
use Rattle.mar_model.proofs.KeptEvents.{agrees_told, kept}
use Rattle.mar_model.proofs.Owning.{quiet_cut}
use Rattle.mar_model.proofs.Owns.{node_at}
use Rattle.mar_model.proofs.SyncPromise.{at, done_as, KeepsPlan}
use Rattle.mar_model.proofs.Unread.{runs_first}
use Rattle.mar_model.proofs.CacheSteps.{is_certified}

-- no sync of both archives has the ticket of one of the cache
own_ticket : (w : Writing) (k : ℕ) (syncs : List CacheSync) → HaveOwnTickets w syncs → is_cache_sync syncs k ≡ true → is_open_sync w.syncs k ≡ false
own_ticket w k syncs own is = among syncs own.own is
  where
    among : (others : List CacheSync) → AllByRecursion (λ s. (s.ticket < w.next_sync) × (is_open_sync w.syncs s.ticket ≡ false)) others → is_cache_sync others k ≡ true → is_open_sync w.syncs k ≡ false
    among [] own is = absurd cc
    among (c ∷ others) own is = by (c.ticket == k) refl is (among others own.1)
      where
        by : (same : Bool) → (c.ticket == k) ≡ same → (same || is_cache_sync others k) ≡ true → (is_cache_sync others k ≡ true → is_open_sync w.syncs k ≡ false) → is_open_sync w.syncs k ≡ false
        by true same found rest = subst (λ j. is_open_sync w.syncs j ≡ false) (eqb-true c.ticket k same) own.0.1
        by false other found rest = rest found

-- of the only entry that was put
of_only : {A : Type 0} (f : Cached → A) (x y : Cached) → Contains (x ∷ []) y → f y ≡ f x
of_only f x y has = ap f (one_of x y has)

module _ {P E : Type 0} (life : Remembered P E) (epochs : Epochs) (inner : List ℕ → List ℕ) (buffer : List Block) (s : Scene) (law : AreLawful s.held) where
  module _ (k : ℕ) (r : Round) (b : Block) where
    abbrev put : Cached
    put = verified_entry r b

    -- the block that is told agrees with the chain
    agrees : (m : Message) (config : Config) (chain : Chain) (waiting : Waiting) → flat_map told_blocks (message_told (Some k) m ∷ []) ≡ b ∷ []
        → IsLawfulStep config chain (node_at s buffer waiting) (message_told (Some k) m ∷ []) → Agrees chain b
    agrees m config chain waiting tells step = agrees_told config chain (at life s) buffer waiting k m b tells step

    -- VERIFIED BLOCKS

    verified_quiet : (config : Config) (waiting : Waiting) → LeavesArchives config (node_at s buffer waiting) (message_told (Some k) (verified r b)) []
    verified_quiet config waiting = record { effect = refl; undrained = refl; processed = refl; cutoff = refl; storing = refl; position = refl; syncs = refl; witnessing = refl; no_fault = refl; asks = refl; subscriptions = refl; unrefused = λ fault. refl; once = refl; no_pass = λ n'. refl }

    pub kept_verified : KeepsPlan life epochs inner buffer s ((does (keeps_for (keep_verified r b k)) ∷ [])) (message_told (Some k) (verified r b))
    kept_verified = record {
      ran = λ t runs.
          let (u, did, reads) = runs_first inner (does (keeps_for (keep_verified r b k))) [] s t law runs in
          done_as life epochs inner (message_told (Some k) (verified r b) ∷ []) buffer s u t (record s { held = u.held; heard = record s.heard { answers = s.heard.answers ++ did.0 } }) did.4 reads
          (λ loaded. kept epochs inner (at life s) buffer (Some k) (verified r b) s.heard.reports s.heard.asks s.heard.sends s.heard.sends s.heard.answers (s.heard.answers ++ did.0)
          r.epoch (put ∷ []) (is_verified_of r.epoch ∷ []) (Some k) u.held [] law.cached (KeepsEach-for r.epoch (put ∷ []) (is_verified_of r.epoch) (Some k) did.1.sync s.held u.held did.1.kept)
          (λ loaded config chain waiting set step. record {
            event = record {
              quiet = verified_quiet config waiting;
              unfinished = refl;
              uncovered = refl;
              no_query = refl;
              answered = refl;
              entries = refl;
              of_epoch = of_only epoch_of put;
              by_view = of_only is_certified put;
              unsynced = of_only (is_synced_put (message_told (Some k) (verified r b))) put;
              starts = refl;
            };
            sends = refl;
            answered = refl;
            finalizations = tt;
            blocks = (agrees (verified r b) config chain waiting refl step, tt);
          }) (Hears-nothing s.heard.sends) (ap (λ xs. s.heard.answers ++ xs) (told_kept r _ _ k s.held u.held did.0 did.1 loaded)) loaded);
      broke = quiet_cut life epochs inner buffer s law (message_told (Some k) (verified r b)) (put ∷ []) (does (keeps_for (keep_verified r b k)) ∷ [])
          (λ loaded config chain waiting set step. record {
            calls = [];
            quiet = verified_quiet config waiting;
            own = λ y has. has;
            finalizations = tt;
            blocks = (agrees (verified r b) config chain waiting refl step, tt);
            owns = (refl, WithinWritten-refl (written_entries (put ∷ [])), refl, tt);
            asks = refl;
            sends = refl;
            answers = (s.held.lowest, ([], refl));
          });
    }

    -- PROPOSED BLOCKS

    module _ (peers : Peers) where
      proposed_quiet : (config : Config) (waiting : Waiting) → LeavesArchives config (node_at s buffer waiting) (message_told (Some k) (proposed r peers b)) []
      proposed_quiet config waiting = record { effect = refl; undrained = refl; processed = refl; cutoff = refl; storing = refl; position = refl; syncs = refl; witnessing = refl; no_fault = refl; asks = refl; subscriptions = refl; unrefused = λ fault. refl; once = refl; no_pass = λ n'. refl }

      pub kept_proposed : KeepsPlan life epochs inner buffer s ((does (says (send (sent_block r peers b))) ∷ does (keeps_for (keep_verified r b k)) ∷ [])) (message_told (Some k) (proposed r peers b))
      kept_proposed = record {
        ran = λ t runs.
            let (m, (hears, sent), rest) = runs_first inner (does (says (send (sent_block r peers b)))) (does (keeps_for (keep_verified r b k)) ∷ []) s t law runs in
            let (u, did_then, reads) = runs_first inner (does (keeps_for (keep_verified r b k))) [] m t (subst AreLawful (sym (ap (λ (x : Scene). x.held) sent)) law) rest in
            let did : DoesTask inner (does (keeps_for (keep_verified r b k))) (record s { heard = record s.heard { sends = m.heard.sends } }) u =
            subst (λ (x : Scene). DoesTask inner (does (keeps_for (keep_verified r b k))) x u) sent did_then in
            done_as life epochs inner (message_told (Some k) (proposed r peers b) ∷ []) buffer s u t
            (record s { held = u.held; heard = record s.heard { sends = m.heard.sends; answers = s.heard.answers ++ did.0 } }) did.4 reads
            (λ loaded. kept epochs inner (at life s) buffer (Some k) (proposed r peers b) s.heard.reports s.heard.asks s.heard.sends m.heard.sends s.heard.answers (s.heard.answers ++ did.0)
            r.epoch (put ∷ []) (is_verified_of r.epoch ∷ []) (Some k) u.held (sent_block r peers b ∷ []) law.cached
            (KeepsEach-for r.epoch (put ∷ []) (is_verified_of r.epoch) (Some k) did.1.sync s.held u.held did.1.kept)
            (λ loaded config chain waiting set step. record {
              event = record {
                quiet = proposed_quiet config waiting;
                unfinished = refl;
                uncovered = refl;
                no_query = refl;
                answered = refl;
                entries = refl;
                of_epoch = of_only epoch_of put;
                by_view = of_only is_certified put;
                unsynced = of_only (is_synced_put (message_told (Some k) (proposed r peers b))) put;
                starts = refl;
              };
              sends = refl;
              answered = refl;
              finalizations = tt;
              blocks = (agrees (proposed r peers b) config chain waiting refl step, tt);
            }) hears (ap (λ xs. s.heard.answers ++ xs) (told_kept r _ _ k s.held u.held did.0 did.1 loaded)) loaded);
        broke = quiet_cut life epochs inner buffer s law (message_told (Some k) (proposed r peers b)) (put ∷ [])
            (does (says (send (sent_block r peers b))) ∷ does (keeps_for (keep_verified r b k)) ∷ [])
            (λ loaded config chain waiting set step. record {
              calls = [];
              quiet = proposed_quiet config waiting;
              own = λ y has. has;
              finalizations = tt;
              blocks = (agrees (proposed r peers b) config chain waiting refl step, tt);
              owns = (refl, WithinWritten-refl (written_entries (put ∷ [])), refl, tt);
              asks = refl;
              sends = refl;
              answers = (s.held.lowest, ([], refl));
            });
      }

    -- CERTIFIED BLOCKS

    certified_quiet : (config : Config) (waiting : Waiting) → LeavesArchives config (node_at s buffer waiting) (message_told (Some k) (certify r b)) []
    certified_quiet config waiting = record { effect = refl; undrained = refl; processed = refl; cutoff = refl; storing = refl; position = refl; syncs = refl; witnessing = refl; no_fault = refl; asks = refl; subscriptions = refl; unrefused = λ fault. refl; once = refl; no_pass = λ n'. refl }

    abbrev was_verified : Bool
    was_verified = is_verified_in s.held r b

    -- what was verified stays so
    still : (now : Held) (ticket : Option ℕ) → KeepsFor r.epoch (notarized_where was_verified r b) (certified_covers r.epoch was_verified) (Some k) ticket s.held now → s.held.cache.loaded ≡ true
        → list_any (verified_at r b) now.cache.kept.held ≡ was_verified
    still now ticket keeps loaded = elim (cases_lt r.epoch s.held.lowest) [
      | inl low ↦ ap (λ k. list_any (verified_at r b) k.held) (keeps.below low).1
      | inr from ↦ verified-stays r b was_verified s.held.cache.kept now.cache.kept (keeps.done loaded from).1
    ]

    of_put : {A : Type 0} (c : Bool) (x : Cached) → Contains (notarized_where c r b) x → (f : Cached → A) {y : A} → f (notarized_entry r b) ≡ y → f x ≡ y
    of_put true x has f is = contains_none x has
    of_put false x has f is = of_only f (notarized_entry r b) x has ∙ is

    agree : (chain : Chain) (c : Bool) → Agrees chain b → AreCachedOf chain (notarized_where c r b) × BlocksAgree chain (notarized_where c r b)
    agree chain true is = (tt, tt)
    agree chain false is = (tt, (is, tt))

    pub kept_certified : KeepsPlan life epochs inner buffer s ((does (keeps_for (keep_certified r b k)) ∷ [])) (message_told (Some k) (certify r b))
    kept_certified = record {
      ran = λ t runs.
          let (u, did, reads) = runs_first inner (does (keeps_for (keep_certified r b k))) [] s t law runs in
          done_as life epochs inner (message_told (Some k) (certify r b) ∷ []) buffer s u t (record s { held = u.held; heard = record s.heard { answers = s.heard.answers ++ did.0 } }) did.4 reads
          (λ loaded. kept epochs inner (at life s) buffer (Some k) (certify r b) s.heard.reports s.heard.asks s.heard.sends s.heard.sends s.heard.answers (s.heard.answers ++ did.0)
          r.epoch (notarized_where was_verified r b) (certified_covers r.epoch was_verified ∷ []) (Some k) u.held [] law.cached
          (KeepsEach-for r.epoch (notarized_where was_verified r b) (certified_covers r.epoch was_verified) (Some k) did.1.sync s.held u.held did.1.kept)
          (λ loaded config chain waiting set step. record {
            event = record {
              quiet = certified_quiet config waiting;
              unfinished = refl;
              uncovered = refl;
              no_query = refl;
              answered = refl;
              entries = ap (λ c. notarized_where c r b) (still u.held did.1.sync did.1.kept loaded);
              of_epoch = λ x has. of_put was_verified x has epoch_of refl;
              by_view = λ x has. of_put was_verified x has is_certified refl;
              unsynced = λ x has. of_put was_verified x has (is_synced_put (message_told (Some k) (certify r b))) refl;
              starts = ap (λ c. cond (nat_lt r.epoch s.held.lowest) [] (certified_covers r.epoch c ∷ [])) (still u.held did.1.sync did.1.kept loaded);
            };
            sends = refl;
            answered = refl;
            finalizations = (agree chain was_verified (agrees (certify r b) config chain waiting refl step)).0;
            blocks = (agree chain was_verified (agrees (certify r b) config chain waiting refl step)).1;
          }) (Hears-nothing s.heard.sends) (ap (λ xs. s.heard.answers ++ xs) (told_kept r _ _ k s.held u.held did.0 did.1 loaded)) loaded);
      broke = quiet_cut life epochs inner buffer s law (message_told (Some k) (certify r b)) (notarized_entry r b ∷ []) (does (keeps_for (keep_certified r b k)) ∷ [])
          (λ loaded config chain waiting set step. record {
            calls = [];
            quiet = certified_quiet config waiting;
            own = λ y has. has;
            finalizations = tt;
            blocks = (agrees (certify r b) config chain waiting refl step, tt);
            owns = (refl, WithinWritten-refl (written_entries (notarized_entry r b ∷ [])), refl, tt);
            asks = refl;
            sends = refl;
            answers = (s.held.lowest, ([], refl));
          });
    }

  -- A SYNC OF THE CACHE

  module _ (k : ℕ) (is_open : is_cache_sync s.held.cache.syncs k ≡ true) where
    -- its plan
    finishes_kept : finish_plan s.held k ≡ does (keeps_for (finish_kept k)) ∷ []
    finishes_kept = ap (λ c. cond c (does (keeps_for (finish_kept k)) ∷ []) (sync_plan (is_open_sync s.held.writes.syncs k) k)) is_open

    not_both : is_open_sync s.held.writes.syncs k ≡ false
    not_both = own_ticket s.held.writes k s.held.cache.syncs law.cached.own_tickets is_open

    pub cache_finished : KeepsPlan life epochs inner buffer s (finish_plan s.held k) (sync_finished k)
    cache_finished = record {
      ran = λ t runs.
          let (u, did, reads) = runs_first inner (does (keeps_for (finish_kept k))) [] s t law (subst (λ plan. Runs inner s plan t) finishes_kept runs) in
          done_as life epochs inner (sync_finished k ∷ []) buffer s u t (record s { held = u.held; heard = record s.heard { answers = s.heard.answers ++ did.0 } }) did.4 reads
          (synced.promise-cache_finished epochs inner (at life s) buffer k s.heard.reports s.heard.asks s.heard.sends s.heard.answers (s.heard.answers ++ did.0) u.held law.cached not_both
          did.1.0 (ap (λ xs. s.heard.answers ++ xs) did.1.1));
      broke = λ x heard breaks. quiet_cut life epochs inner buffer s law (sync_finished k) [] (does (keeps_for (finish_kept k)) ∷ [])
          (λ loaded config chain waiting set step. record {
            calls = [];
            quiet = synced.quiet epochs inner (at life s) buffer k config waiting not_both;
            own = λ y has. contains_none y has;
            finalizations = tt;
            blocks = tt;
            owns = (refl, WithinWritten-refl nothing_written, refl, tt);
            asks = refl;
            sends = refl;
            answers = (0, ([], sym (append-nil (finished_answers k s.held.cache.syncs ++ []) ∙ append-nil (finished_answers k s.held.cache.syncs))));
          }) x heard (subst (λ plan. Breaks inner s plan x heard) finishes_kept breaks);
    }
