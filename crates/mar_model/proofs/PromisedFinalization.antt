-- A reported finalization, and a sync of both archives that finishes, by their plans: what is promised of them today.
use Rattle.std.proofs.Common.{◌≡◌, ◌∷◌, [], List, Option, None, Some, Bool, true, false, cond, nat_lt, max, drop, ◌-◌, ◌==◌, ◌||◌, Result, Ok, Err, ℕ, arith, refl, sym, ◌∙◌, ap, subst, zero}
use Rattle.mar_types.specs.Epochs.{Epochs, IsPartition}
use Rattle.mar_cert.specs.Block.{Block}
use Rattle.mar_cert.specs.Finalization.{Finalization}
use Rattle.mar_gate.specs.Writing.{Writing, covered_to, is_open_sync, position_of, with_finished}
use Rattle.mar_key.specs.Cutoff.{at_round, greatest_of}
use Rattle.mar_key.specs.Hears.{Hears}
use Rattle.mar_key.specs.Processed.{height_of}
use Rattle.mar_key.specs.Keys.{Call}
use Rattle.mar_model.specs.Event.{Event, message_told, sync_finished}
use Rattle.mar_model.specs.Faults.{height_limit, last_height}
use Rattle.mar_model.specs.Cached.{finalization_entry}
use Rattle.mar_model.specs.Held.{Ending, Grew, Held, Remembered, Seen, written_cert, written_entry, WithinWritten, Written, written_both}
use Rattle.mar_model.specs.Messages.{report_finalization}
use Rattle.mar_model.specs.Moves.{CachesFinalization, RaisesTo, at_height, found_at_hand, lacks_finalization, late_tip, late_tips, with_cache_of, risen_to, tip_reports}
use Rattle.mar_model.specs.Node.{CacheSync}
use Rattle.mar_model.specs.OpenSyncs.{NoneHas, is_cache_sync}
use Rattle.mar_model.specs.Promise.{Heard, KeepsStep, heard_by}
use Rattle.mar_model.specs.Lives.{later_round}
use Rattle.mar_model.specs.Metadata.{pair_of}
use Rattle.mar_model.specs.Stored.{at_own_height}
use Rattle.mar_model.specs.Acts.{AreLawful, Joins, ask, caches, finish_kept, finish_sync, keeps_for, note, progresses, put_finalization, says, start_sync, store, store_late, stores, tell, Notes, StoresBoth, StoresMissing}
use Rattle.mar_model.specs.Plans.{at_hand_plan, final_plan, finish_plan, late_plan, note_plan, store_plan, sync_plan}
use Rattle.mar_model.specs.Ran.{Breaks, Reads, Runs, Task, dispatches, does, ends, repairs}
use Rattle.mar_model.specs.Requests.{raise_asks, want_asks}
use Rattle.mar_model.specs.Scene.{Scene}
use Rattle.mar_model.specs.Step.{Report}
use Rattle.mar_model.proofs.CacheOver.{found_cached}
use Rattle.mar_model.proofs.SyncTickets.{position-closed, without-closed}
use Rattle.mar_model.proofs.EventCuts.{final_cut, sync_cut}
use Rattle.mar_model.proofs.EventPromises.{promise-absent, promise-closed, promise-finished}
use Rattle.mar_model.proofs.Growing.{Grew-refl, WithinWritten-nothing, WithinWritten-refl, WithinWritten-entry}
use Rattle.mar_model.proofs.Handing.{Hears-nothing, Ran as Dispatched}
use Rattle.mar_model.proofs.ProgressPromises.{promise-late}
use Rattle.mar_model.proofs.SyncPromise.{at, done_as, read_behind}
use Rattle.mar_model.proofs.Unread.{runs_first}
use Rattle.mar_model.proofs.Stopping.{dispatch_ran, step_beside}
use Rattle.mar_model.proofs.StoredPass.{promise-passed}
use Rattle.mar_model.proofs.Living.{Runs-keeps}
use Rattle.mar_model.proofs.Acting.{pass_quiet}
use Rattle.mar_model.proofs.Running.{Reads-refl}

-- none of the syncs has a ticket that isn't the cache's
pub none_of : (t : ℕ) (syncs : List CacheSync) → is_cache_sync syncs t ≡ false → NoneHas t syncs
none_of t [] is = tt
none_of t (x ∷ syncs) is = by (x.ticket == t) refl is (none_of t syncs)
  where
    by : (c : Bool) → (x.ticket == t) ≡ c → (c || is_cache_sync syncs t) ≡ false → (is_cache_sync syncs t ≡ false → NoneHas t syncs) → ((x.ticket == t) ≡ false) × NoneHas t syncs
    by true same is rest = absurd (let both : true ≡ false = is in cc)
    by false other is rest = (other, rest is)

-- where no sync has a ticket, none finishes
covered_none : (w : Writing) → covered_to 0 w ≡ w
covered_none w =
    let same : max w.covered 0 ≡ w.covered = omega arith in
    let less : w.covered - w.covered ≡ 0 = omega arith in
    ap (λ k. record w { covered = k; uncovered = drop (k - w.covered) w.uncovered }) same ∙ ap (λ k. record w { uncovered = drop k w.uncovered }) less

finished_none : (t : ℕ) (w : Writing) → is_open_sync w.syncs t ≡ false → with_finished t w ≡ w
finished_none t w closed = ap (λ ss. record (covered_to (position_of w.syncs t) w) { syncs = ss }) (without-closed w.syncs t closed) ∙
    (ap (λ p. covered_to p w) (position-closed w.syncs t closed) ∙ covered_none w)

module _ {P E : Type 0} (life : Remembered P E) (epochs : Epochs) (inner : List ℕ → List ℕ) (partition : IsPartition epochs) (buffer : List Block) (s : Scene) (law : AreLawful s.held) where
  -- A SYNC OF BOTH ARCHIVES

  module _ (t : ℕ) (other : is_cache_sync s.held.cache.syncs t ≡ false) where
    as_both : (plan : List Task → Type 0) → plan (finish_plan s.held t) → plan (sync_plan (is_open_sync s.held.writes.syncs t) t)
    as_both plan given = subst (λ c. plan (cond c (does (keeps_for (finish_kept t)) ∷ []) (sync_plan (is_open_sync s.held.writes.syncs t) t))) other given

    closed : is_open_sync s.held.writes.syncs t ≡ false → KeepsStep epochs inner (at life s) (sync_finished t ∷ []) buffer s.heard s.heard (Ok (at life s))
    closed none = step_beside epochs inner (at life s) (sync_finished t ∷ []) buffer (Ok (at life s)) s.heard s.heard refl
        (promise-closed epochs inner partition (at life s) buffer t law.cached (none_of t s.held.cache.syncs other) s.heard.reports s.heard.asks (at life s) law.blocks law.certs law.written
        law.blocks law.certs
        (record {
          blocks = record { held = refl; sure = λ h v is. is; may = λ x has. has };
          certs = record { held = refl; sure = λ h v is. is; may = λ x has. has };
          written = law.written;
          same = ap (λ w. at life (record s { held = record s.held { writes = w } })) (sym (finished_none t s.held.writes none));
        }) refl)

    pub sync_done : (u : Scene) → Runs inner s (finish_plan s.held t) u → KeepsStep epochs inner (at life s) (sync_finished t ∷ []) buffer s.heard u.heard (Ok (at life u))
    sync_done u runs = by (is_open_sync s.held.writes.syncs t) refl (as_both (λ p. Runs inner s p u) runs)
      where
        by : (c : Bool) → is_open_sync s.held.writes.syncs t ≡ c → Runs inner s (sync_plan c t) u
            → KeepsStep epochs inner (at life s) (sync_finished t ∷ []) buffer s.heard u.heard (Ok (at life u))
        by true is runs =
            let (m, did, rest) = runs_first inner (does (stores (finish_sync t))) (dispatches ∷ []) s u law runs in
            let (ran, same) = dispatch_ran life inner m u did.2 rest in
            let heard : u.heard ≡ record s.heard { reports = u.heard.reports } = same ∙ ap (λ (y : Scene). record y.heard { reports = u.heard.reports }) did.3 in
            step_beside epochs inner (at life s) (sync_finished t ∷ []) buffer (Ok (at life u)) s.heard u.heard
            (heard ∙ ap (λ a. record s.heard { reports = u.heard.reports; asks = a }) (sym (ap (λ (h : Heard). h.asks) heard)))
            (subst (λ a. KeepsStep epochs inner (at life s) (sync_finished t ∷ []) buffer (heard_by s.heard.reports s.heard.asks) (heard_by u.heard.reports a) (Ok (at life u)))
            (sym (ap (λ (h : Heard). h.asks) heard))
            (promise-finished epochs inner partition (at life s) buffer t law.cached (none_of t s.held.cache.syncs other) s.heard.reports u.heard.reports s.heard.asks (at life m) (Ok (at life u))
            law.blocks law.certs law.written did.2.blocks did.2.certs
            (record {
              blocks = did.0.blocks;
              certs = did.0.certs;
              written = did.0.written;
              same = ap (at life) did.3 ∙ ap (λ h. at life (record s { held = h })) did.0.same;
            })
            (subst (λ told. Dispatched (at life m) told u.heard.reports (Ok (at life u))) (ap (λ (y : Scene). y.heard.reports) did.3) ran)))
        by false is reads = subst (λ h. KeepsStep epochs inner (at life s) (sync_finished t ∷ []) buffer s.heard h (Ok (at life u))) (sym (ap (λ (y : Scene). y.heard) reads.same))
            (read_behind life epochs inner (sync_finished t ∷ []) buffer s s.heard s.heard s u reads (closed is))

    pub sync_undone : (x : Ending) (heard : Heard) → Breaks inner s (finish_plan s.held t) x heard → KeepsStep epochs inner (at life s) (sync_finished t ∷ []) buffer s.heard heard (Err x)
    sync_undone x heard breaks = sync_cut life epochs inner partition buffer s law x heard (is_open_sync s.held.writes.syncs t) t (as_both (λ p. Breaks inner s p x heard) breaks)

  -- A REPORTED FINALIZATION

  module _ (f : Finalization) (found : Option Block) (finds : s.held.cache.loaded ≡ true → found ≡ found_at_hand inner buffer s.held.cache.kept.held s.held.blocks.held f.payload) where
    abbrev e : Event
    e = message_told None (report_finalization f)

    abbrev Kept : Heard → Result (Seen P E) Ending → Type 0
    Kept heard result = KeepsStep epochs inner (at life s) (e ∷ []) buffer s.heard heard result

    beside : (heard : Heard) (result : Result (Seen P E) Ending) → heard ≡ record s.heard { reports = heard.reports; asks = heard.asks }
        → KeepsStep epochs inner (at life s) (e ∷ []) buffer (heard_by s.heard.reports s.heard.asks) (heard_by heard.reports heard.asks) result → Kept heard result
    beside heard result same keeps = step_beside epochs inner (at life s) (e ∷ []) buffer result s.heard heard same keeps

    -- once it is cached
    module _ (now : Held) (caches_it : CachesFinalization f s.held now) (joins : Joins s.held (written_entry (finalization_entry f)) now) (lawful : AreLawful now) where
      abbrev put : Scene
      put = record s { held = now }

      found_then : s.held.cache.loaded ≡ true → (o : Option Block) → found ≡ o → found_at_hand inner buffer now.cache.kept.held now.blocks.held f.payload ≡ o
      found_then loaded o is = ap (λ h. found_at_hand inner buffer now.cache.kept.held h.blocks.held f.payload) caches_it.same ∙
          (found_cached inner f s.held now buffer s.held.blocks.held f.payload loaded caches_it ∙ (sym (finds loaded) ∙ is))

      processed_is : now.processed ≡ s.held.processed
      processed_is = ap (λ h. h.processed) caches_it.same

      cutoff_is : now.cutoff ≡ s.held.cutoff
      cutoff_is = ap (λ h. h.cutoff) caches_it.same

      lacks_is : (b : Block) → lacks_finalization now b ≡ lacks_finalization s.held b
      lacks_is b = ap (λ h. lacks_finalization h b) caches_it.same

      absent : (u : Scene) → found ≡ None → Runs inner put (does (says (ask (want_asks s.held.cutoff f.round f.payload))) ∷ []) u → Kept u.heard (Ok (at life u))
      absent u none runs =
          let (m, (asks, same), reads) = runs_first inner (does (says (ask (want_asks s.held.cutoff f.round f.payload)))) [] put u lawful runs in
          done_as life epochs inner (e ∷ []) buffer s m u (record s { held = now; heard = record s.heard { asks = m.heard.asks } }) same reads
          (beside (record s.heard { asks = m.heard.asks }) (Ok (at life put)) refl
          (λ loaded. promise-absent epochs inner partition (at life s) buffer f now law.cached caches_it s.heard.reports s.heard.asks m.heard.asks law.blocks law.certs
          (found_then loaded None none) (subst (λ c. Hears s.heard.asks (want_asks c f.round f.payload) m.heard.asks) (sym cutoff_is) asks) loaded))

      module _ (b : Block) (some : found ≡ Some b) where
        -- above the processed height
        module _ (above : nat_lt (height_of s.held.processed) b.height ≡ true) where
          abbrev told : Held → Option (List Report) → Scene
          told h reports = record s { held = h; life = record s.life { tip = risen_to s.life.tip b.height }; heard = record s.heard { reports = reports } }

          abbrev all : Written
          all = record (written_both (at_own_height b) (at_height b.height f)) { cached = finalization_entry f ∷ [] }

          both : WithinWritten (written_both (at_own_height b) (at_height b.height f)) all
          both =
              let none = WithinWritten-nothing all in
              record { blocks = λ x has. has; certs = λ x has. has; cached = none.cached; prunes = none.prunes; pairs = none.pairs; blocks_from = omega arith; certs_from = omega arith }

          -- once both are put
          module _ (h : Held) (puts : StoresBoth inner f b now h) (joins_then : Joins now (written_both (at_own_height b) (at_height b.height f)) h) (lawful_then : AreLawful h) where
            grew_then : Grew s.held all h
            grew_then = joins_then s.held all (joins s.held all (Grew-refl s.held all law.blocks law.certs) (WithinWritten-entry (finalization_entry f) all (zero, omega arith, refl))) both

            -- and the tip is told, gaps are filled and a sync is started
            filled : (v : Scene) (reports : Option (List Report)) → Hears s.heard.reports (tip_reports s.life.tip f b) reports → Runs inner (told h reports) (repairs buffer ∷ does (stores start_sync) ∷ []) v
                → Kept v.heard (Ok (at life v))
            filled v reports tips runs =
                let (t, pass, rest) = runs_first inner (repairs buffer) (does (stores start_sync) ∷ []) (told h reports) v lawful_then runs in
                let kept = Runs-keeps inner (told h reports).life.sizes.window (repairs buffer ∷ []) (told h reports) t refl (told h reports, t, Reads-refl (told h reports), pass, Reads-refl t) in
                let (m, (starts, starts_then, lawful_started, same), reads) = runs_first inner (does (stores start_sync)) [] t v (kept.lawful lawful_then) rest in
                done_as life epochs inner (e ∷ []) buffer s m v (record t { held = m.held }) same reads
                (beside t.heard (Ok (at life (record t { held = m.held })))
                (pass_quiet inner buffer (told h reports) t pass)
                (λ loaded. promise-passed life epochs inner partition buffer s law f now caches_it b (found_then loaded (Some b) some) (subst (λ p. nat_lt (height_of p) b.height ≡ true) (sym processed_is) above)
                (told h reports) t (record t { held = m.held })
                (record { blocks = puts.blocks; certs = puts.certs; same = ap (λ k. at life (told k reports)) puts.same }) grew_then lawful_then pass (ap (λ k. at life (record t { held = k })) starts) lawful_started tips refl loaded))

            told_ran : (u : Scene) → Runs inner (record s { held = h }) (does (says (tell f.round b.height b.digest)) ∷ repairs buffer ∷ does (stores start_sync) ∷ []) u → Kept u.heard (Ok (at life u))
            told_ran u runs =
                let (m, (tips, same), rest) = runs_first inner (does (says (tell f.round b.height b.digest))) (repairs buffer ∷ does (stores start_sync) ∷ []) (record s { held = h }) u lawful_then runs in
                filled u m.heard.reports tips (subst (λ y. Runs inner y (repairs buffer ∷ does (stores start_sync) ∷ []) u) same rest)

          stored : (u : Scene) → Runs inner put (does (stores (store f b)) ∷ does (says (tell f.round b.height b.digest)) ∷ repairs buffer ∷ does (stores start_sync) ∷ []) u → Kept u.heard (Ok (at life u))
          stored u runs =
              let (m, (puts, joins_then, lawful_then, same), rest) = runs_first inner (does (stores (store f b)))
              (does (says (tell f.round b.height b.digest)) ∷ repairs buffer ∷ does (stores start_sync) ∷ []) put u lawful runs in
              told_ran m.held puts joins_then lawful_then u (subst (λ y. Runs inner y (does (says (tell f.round b.height b.digest)) ∷ repairs buffer ∷ does (stores start_sync) ∷ []) u) same rest)

        -- at or below it, where its round was noted
        module _ (low : nat_lt (height_of s.held.processed) b.height ≡ false) (h : Held) (heard : Option (List Call)) (notes : Notes f.round s.life.sizes.retention now h) (lawful_noted : AreLawful h)
            (asks : Hears s.heard.asks (raise_asks now.cutoff (at_round f.round ∷ [])) heard) where
          abbrev noted : Scene
          noted = record s { held = h; heard = record s.heard { asks = heard } }

          abbrev raised : Seen P E
          raised = record (at life s) { held = record (with_cache_of h now) { cutoff = greatest_of now.cutoff (at_round f.round ∷ []); witnessed = later_round now.witnessed (Some f.round) } }

          raises : RaisesTo (record (at life s) { held = now }) (at_round f.round ∷ []) (f.round ∷ []) raised
          raises = record {
            prunes = record { prunes = notes.prunes.prunes; loaded = notes.prunes.loaded; still_open = notes.prunes.still_open; lowest = notes.prunes.lowest; own_lowest = notes.prunes.own_lowest };
            same = refl;
          }

          synced : at life noted ≡ record raised { held = record raised.held { pairs = pair_of raised.held.processed raised.held.cutoff ∷ []; watches = h.watches } }
          synced = ap (λ k. at life (record noted { held = k })) notes.same

          lacks_then : lacks_finalization h b ≡ lacks_finalization s.held b
          lacks_then = ap (λ k. lacks_finalization k b) notes.same ∙ lacks_is b

          abbrev told_late : Held → Bool → Option (List Report) → Scene
          told_late k lacking reports = record s { held = k; life = record s.life { tip = late_tip lacking s.life.tip b }; heard = record s.heard { reports = reports; asks = heard } }

          -- and its finalization stored where it was missing
          module _ (k : Held) (puts : StoresMissing inner f b h k) (joins_then : Joins h (written_cert (at_height b.height f)) k) (lawful_then : AreLawful k) (u : Scene) where
            late_ran : (v : Scene) (reports : Option (List Report)) → v ≡ told_late k (lacks_finalization h b) reports → Reads v u
                → Hears s.heard.reports (late_tips (lacks_finalization h b) s.life.tip f b) reports → Kept u.heard (Ok (at life u))
            late_ran v reports same reads tips = done_as life epochs inner (e ∷ []) buffer s v u (told_late k (lacks_finalization h b) reports) same reads
                (beside (record s.heard { reports = reports; asks = heard }) (Ok (at life (told_late k (lacks_finalization h b) reports))) refl
                (λ loaded. promise-late epochs inner partition (at life s) buffer f now law.cached caches_it b (found_then loaded (Some b) some)
                (subst (λ p. nat_lt (height_of p) b.height ≡ false) (sym processed_is) low) raised (at life noted) raises synced s.heard.reports reports s.heard.asks heard
                (at life (told_late k (lacks_finalization h b) reports)) law.blocks law.certs
                (record { certs = puts.certs; same = ap (λ x. at life (told_late x (lacks_finalization h b) reports)) puts.same })
                (joins_then h (written_cert (at_height b.height f)) (Grew-refl h (written_cert (at_height b.height f)) lawful_noted.blocks lawful_noted.certs)
                (WithinWritten-refl (written_cert (at_height b.height f))))
                tips asks loaded))

            rest_late : (c : Bool) → lacks_finalization h b ≡ c → Runs inner (record noted { held = k }) (cond c (does (says (tell f.round b.height b.digest)) ∷ []) []) u
                → Kept u.heard (Ok (at life u))
            rest_late true is runs =
                let (v, (tips, same), reads) = runs_first inner (does (says (tell f.round b.height b.digest))) [] (record noted { held = k }) u lawful_then runs in
                late_ran v v.heard.reports (same ∙ ap (λ c. told_late k c v.heard.reports) (sym is)) reads
                (subst (λ c. Hears s.heard.reports (late_tips c s.life.tip f b) v.heard.reports) (sym is) tips)
            rest_late false is reads = late_ran (record noted { held = k }) s.heard.reports (ap (λ c. told_late k c s.heard.reports) (sym is)) reads
                (subst (λ c. Hears s.heard.reports (late_tips c s.life.tip f b) s.heard.reports) (sym is) (Hears-nothing s.heard.reports))

          late_plan_ran : (u : Scene) → Runs inner noted (late_plan (lacks_finalization s.held b) f b) u → Kept u.heard (Ok (at life u))
          late_plan_ran u runs =
              let (m, (puts, joins_then, lawful_then, same), left) = runs_first inner (does (stores (store_late f b)))
              (cond (lacks_finalization s.held b) (does (says (tell f.round b.height b.digest)) ∷ []) []) noted u lawful_noted runs in
              rest_late m.held puts joins_then lawful_then u (lacks_finalization s.held b) lacks_then
              (subst (λ y. Runs inner y (cond (lacks_finalization s.held b) (does (says (tell f.round b.height b.digest)) ∷ []) []) u) same left)

        noted_ran : nat_lt (height_of s.held.processed) b.height ≡ false → (u : Scene) → Runs inner put (note_plan s.held f b) u → Kept u.heard (Ok (at life u))
        noted_ran low u runs =
            let (m, (notes, lawful_noted, asks, same), rest) = runs_first inner (does (progresses (note f.round))) (late_plan (lacks_finalization s.held b) f b) put u lawful runs in
            late_plan_ran low m.held m.heard.asks notes lawful_noted asks u (subst (λ y. Runs inner y (late_plan (lacks_finalization s.held b) f b) u) same rest)

        stored_ran : nat_lt (height_of s.held.processed) b.height ≡ true → (u : Scene) (c : Bool)
            → Runs inner put (cond c (ends (height_limit b.height) ∷ []) (does (stores (store f b)) ∷ does (says (tell f.round b.height b.digest)) ∷ repairs buffer ∷ does (stores start_sync) ∷ [])) u
            → Kept u.heard (Ok (at life u))
        stored_ran above u true (mid, after, reads, did, left) = absurd did
        stored_ran above u false runs = stored above u runs

        at_hand_ran : (u : Scene) (c : Bool) → nat_lt (height_of s.held.processed) b.height ≡ c → Runs inner put (cond c (store_plan buffer f b) (note_plan s.held f b)) u → Kept u.heard (Ok (at life u))
        at_hand_ran u true above runs = stored_ran above u (b.height == last_height) runs
        at_hand_ran u false low runs = noted_ran low u runs

      put_ran : (u : Scene) (o : Option Block) → found ≡ o → Runs inner put (at_hand_plan buffer s.held f o) u → Kept u.heard (Ok (at life u))
      put_ran u None is runs = absent u is runs
      put_ran u (Some b) is runs = at_hand_ran b is u (nat_lt (height_of s.held.processed) b.height) refl runs

    pub final_done : (u : Scene) → Runs inner s (final_plan buffer s.held f found) u
        → KeepsStep epochs inner (at life s) (message_told None (report_finalization f) ∷ []) buffer s.heard u.heard (Ok (at life u))
    final_done u runs =
        let (m, did, rest) = runs_first inner (does (caches (put_finalization f))) (at_hand_plan buffer s.held f found) s u law runs in
        put_ran m.held did.0 did.1 did.2 u found refl
        (subst (λ y. Runs inner y (at_hand_plan buffer s.held f found) u) did.3 rest)

    pub final_undone : (x : Ending) (heard : Heard) → Breaks inner s (final_plan buffer s.held f found) x heard
        → KeepsStep epochs inner (at life s) (message_told None (report_finalization f) ∷ []) buffer s.heard heard (Err x)
    final_undone x heard breaks = λ loaded. final_cut life epochs inner partition buffer s law x heard f (subst (λ o. Breaks inner s (final_plan buffer s.held f o) x heard) (finds loaded) breaks)
        loaded
