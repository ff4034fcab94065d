-- A life that begins, by its plan: what is promised of it today.
use Rattle.std.proofs.Common.{◌≡◌, ◌⊎◌, inl, inr, ◌∷◌, [], List, Option, None, Some, Result, Ok, Err, ◌++◌, ℕ, refl, sym, ◌∙◌, ap, subst}
use Rattle.std.specs.Prelude.{⊤}
use Rattle.mar_types.specs.Epochs.{Epochs, IsPartition}
use Rattle.mar_cert.specs.Block.{Block}
use Rattle.mar_cert.specs.Finalization.{Finalization}
use Rattle.mar_store.specs.Kept.{At}
use Rattle.mar_key.specs.Hears.{Hears}
use Rattle.mar_model.specs.Event.{life_started}
use Rattle.mar_model.specs.Held.{Ending, IsUsual, Loses, Remembered, Seen, nothing_written}
use Rattle.mar_model.specs.Promise.{Heard, KeepsPromise, KeepsStart, heard_by}
use Rattle.mar_model.specs.Stored.{newest}
use Rattle.mar_model.specs.Faults.{want_of_memory}
use Rattle.mar_model.specs.Acts.{AreLawful, LosesOver, caches, load_cache, says, stores, sync_writes, tell}
use Rattle.mar_model.specs.Plans.{newest_plan, start_plan}
use Rattle.mar_model.specs.Ran.{Breaks, DoesTask, FailsRead, FailsTask, Reads, Runs, RunsPass, Task, dispatches, does, repairs}
use Rattle.mar_model.specs.Scene.{Scene}
use Rattle.mar_model.proofs.Growing.{Grew-refl, WithinWritten-refl}
use Rattle.mar_model.proofs.Handing.{Hears-nothing, Ran as Dispatched}
use Rattle.mar_model.proofs.Outcomes.{goes_on_memory}
use Rattle.mar_model.proofs.StartCuts.{HasToldNewest, filling_plan, start_broke, told-none, told-some}
use Rattle.mar_model.proofs.StartEvent.{promise-unloaded, promise-untold}
use Rattle.mar_model.proofs.StartPass.{promise-passed}
use Rattle.mar_model.proofs.Acting.{pass_quiet}
use Rattle.mar_model.proofs.Living.{Runs-keeps}
use Rattle.mar_model.proofs.Running.{Reads-refl}
use Rattle.mar_model.proofs.SyncPromise.{at}
use Rattle.mar_model.proofs.Unread.{breaks_first, lost_before, runs_first}
use Rattle.mar_model.proofs.Stopping.{dispatch_ran, start_beside}

module _ {P E : Type 0} (life : Remembered P E) (epochs : Epochs) (inner : List ℕ → List ℕ) (partition : IsPartition epochs) (buffer : List Block) (s : Scene) (law : AreLawful s.held) where
  abbrev Started : Heard → Result (Seen P E) Ending → Type 0
  Started heard result = KeepsStart epochs inner (at life s) (life_started None ∷ []) buffer s.heard heard result

  abbrev behind : List Task
  behind = does (caches load_cache) ∷ repairs buffer ∷ filling_plan

  -- nothing was asked
  told_beside : (heard : Heard) (result : Result (Seen P E) Ending) → heard ≡ record s.heard { reports = heard.reports }
      → KeepsStart epochs inner (at life s) (life_started None ∷ []) buffer (heard_by s.heard.reports s.heard.asks) (heard_by heard.reports s.heard.asks) result → Started heard result
  told_beside heard result same keeps = start_beside epochs inner (at life s) (life_started None ∷ []) buffer result s.heard heard
      (same ∙ ap (λ a. record s.heard { reports = heard.reports; asks = a }) (sym (ap (λ (h : Heard). h.asks) same)))
      (subst (λ a. KeepsStart epochs inner (at life s) (life_started None ∷ []) buffer (heard_by s.heard.reports s.heard.asks) (heard_by heard.reports a) result)
      (sym (ap (λ (h : Heard). h.asks) same)) keeps)

  module _ (m : Scene) (told : HasToldNewest inner s m) where
    held_m : m.held ≡ s.held
    held_m = ap (λ (y : Scene). y.held) told.same

    heard_m : m.heard ≡ record s.heard { reports = m.heard.reports }
    heard_m = ap (λ (y : Scene). y.heard) told.same

    lawful_told : AreLawful m.held
    lawful_told = subst AreLawful (sym held_m) law

    -- what a call lost behind the tip
    lost : (x : Ending) → LosesOver m.held nothing_written x → Loses s.held nothing_written x
    lost x over = subst (λ h. Loses h nothing_written x) held_m
        (over m.held nothing_written (Grew-refl m.held nothing_written lawful_told.blocks lawful_told.certs) (WithinWritten-refl nothing_written))

    unloaded : (x : Ending) (heard : Heard) → LosesOver m.held nothing_written x → IsUsual x.fault → heard ≡ m.heard → Started heard (Err x)
    unloaded x heard over usual is = subst (λ h. Started h (Err x)) (sym is)
        (told_beside m.heard (Err x) heard_m (promise-unloaded epochs inner partition (at life s) buffer s.heard.reports m.heard.reports s.heard.asks x told.tips (lost x over) usual))

    -- the cache was taken up, gaps were filled, and what that wrote was made durable
    filled : (n : Scene) → DoesTask inner (does (caches load_cache)) m n → (t : Scene) → RunsPass inner buffer n t → AreLawful t.held → (v : Scene) → DoesTask inner (does (stores sync_writes)) t v
        → (w : Scene) → Runs inner v (dispatches ∷ []) w → Started w.heard (Ok (at life w))
    filled n did t pass lawful_t v (syncs, joins, lawful_v, same) w runs =
        let (ran, quiet) = dispatch_ran life inner v w lawful_v runs in
        start_beside epochs inner (at life s) (life_started None ∷ []) buffer (Ok (at life w)) s.heard w.heard (heard_w quiet)
        (subst (λ a. KeepsStart epochs inner (at life s) (life_started None ∷ []) buffer (heard_by s.heard.reports s.heard.asks) (heard_by w.heard.reports a) (Ok (at life w)))
        (sym (ap (λ (h : Heard). h.asks) quiet ∙ ap (λ (y : Scene). y.heard.asks) same))
        (promise-passed life epochs inner buffer s m n law told did t pass lawful_t v.held syncs
        (joins t.held nothing_written (Grew-refl t.held nothing_written lawful_t.blocks lawful_t.certs) (WithinWritten-refl nothing_written)) lawful_v w.heard.reports (Ok (at life w))
        (subst (λ y. Dispatched (at life y) y.heard.reports w.heard.reports (Ok (at life w))) same ran)))
      where
        heard_w : w.heard ≡ record v.heard { reports = w.heard.reports } → w.heard ≡ record s.heard { reports = w.heard.reports; asks = w.heard.asks }
        heard_w quiet =
            quiet ∙ (ap (λ (h : Heard). record h { reports = w.heard.reports }) (ap (λ (y : Scene). y.heard) same ∙ (pass_quiet inner buffer n t pass ∙ ap
            (λ (h : Heard). record h { reports = t.heard.reports; asks = t.heard.asks }) (ap (λ (y : Scene). y.heard) did.3 ∙ heard_m)))
            ∙ ap (λ a. record s.heard { reports = w.heard.reports; asks = a }) (sym (ap (λ (h : Heard). h.asks) quiet ∙ ap (λ (y : Scene). y.heard.asks) same)))

    behind_ran : (w : Scene) → Runs inner m behind w → Started w.heard (Ok (at life w))
    behind_ran w runs =
        let (n, did, rest) = runs_first inner (does (caches load_cache)) (repairs buffer ∷ filling_plan) m w lawful_told runs in
        let (t, pass, left) = runs_first inner (repairs buffer) filling_plan n w did.2 rest in
        let kept = Runs-keeps inner n.life.sizes.window (repairs buffer ∷ []) n t refl (n, t, Reads-refl n, pass, Reads-refl t) in
        let lawful_t = kept.lawful did.2 in
        let (v, synced, last) = runs_first inner (does (stores sync_writes)) (dispatches ∷ []) t w lawful_t left in
        filled n did t pass lawful_t v synced w last

    behind_broke : (x : Ending) (heard : Heard) → Breaks inner m behind x heard → Started heard (Err x)
    behind_broke x heard breaks = by (breaks_first inner (does (caches load_cache)) (repairs buffer ∷ filling_plan) m x heard lawful_told breaks)
      where
        by : FailsRead m x heard ⊎ (((mid : Scene) × Reads m mid × FailsTask inner (does (caches load_cache)) mid x heard) ⊎
            ((n : Scene) × DoesTask inner (does (caches load_cache)) m n × Breaks inner n (repairs buffer ∷ filling_plan) x heard)) → Started heard (Err x)
        by (inl fails) = unloaded x heard fails.loses fails.usual fails.same
        by (inr (inl (mid, reads, (over, usual, same)))) = unloaded x heard (lost_before inner m mid nothing_written x reads over) usual (same ∙ ap (λ (y : Scene). y.heard) reads.same)
        by (inr (inr (n, did, rest))) = start_broke life epochs inner buffer s m n told did x heard rest

  untold : (x : Ending) (heard : Heard) → LosesOver s.held nothing_written x → IsUsual x.fault → Hears s.heard.reports [] heard.reports → heard ≡ record s.heard { reports = heard.reports }
      → Started heard (Err x)
  untold x heard over usual silent same = told_beside heard (Err x) same
      (promise-untold epochs inner partition (at life s) buffer s.heard.reports heard.reports s.heard.asks x silent
      (over s.held nothing_written (Grew-refl s.held nothing_written law.blocks law.certs) (WithinWritten-refl nothing_written)) usual)

  pub start_promise : (t : Scene) → Runs inner s (start_plan inner buffer s.held) t → KeepsPromise (life_started None ∷ []) epochs inner (at life s) buffer s.heard t.heard (Ok (at life t))
  start_promise t runs = by (newest s.held.certs.held) refl runs
    where
      by : (o : Option (At Finalization)) → newest s.held.certs.held ≡ o → Runs inner s (newest_plan inner o ++ behind) t → Started t.heard (Ok (at life t))
      by None is runs = behind_ran s (told-none inner s is) t runs
      by (Some x) is runs =
          let (m, did, rest) = runs_first inner (does (says (tell x.value.round x.height (inner x.value.payload)))) behind s t law runs in
          behind_ran m (told-some inner s m x is did) t rest

  pub start_cut : (x : Ending) (heard : Heard) → Breaks inner s (start_plan inner buffer s.held) x heard
      → KeepsPromise (life_started None ∷ []) epochs inner (at life s) buffer s.heard heard (Err x)
  start_cut x heard breaks = by (newest s.held.certs.held) refl breaks
    where
      by : (o : Option (At Finalization)) → newest s.held.certs.held ≡ o → Breaks inner s (newest_plan inner o ++ behind) x heard → Started heard (Err x)
      by None is breaks = behind_broke s (told-none inner s is) x heard breaks
      by (Some y) is breaks = from (breaks_first inner (does (says (tell y.value.round y.height (inner y.value.payload)))) behind s x heard law breaks)
        where
          from : FailsRead s x heard ⊎ (((mid : Scene) × Reads s mid × FailsTask inner (does (says (tell y.value.round y.height (inner y.value.payload)))) mid x heard) ⊎
              ((m : Scene) × DoesTask inner (does (says (tell y.value.round y.height (inner y.value.payload)))) s m × Breaks inner m behind x heard)) → Started heard (Err x)
          from (inl fails) = untold x heard fails.loses fails.usual (subst (λ (h : Heard). Hears s.heard.reports [] h.reports) (sym fails.same) (Hears-nothing s.heard.reports))
              (fails.same ∙ ap (λ told. record s.heard { reports = told }) (sym (ap (λ (h : Heard). h.reports) fails.same)))
          from (inr (inl (mid, reads, (is_memory, silent, same)))) = untold x heard
              (λ start all grew within. subst (λ z. Loses start all z) (sym is_memory)
              (goes_on_memory {T = ⊤} {C = ⊤} (λ c. want_of_memory) start all mid.held (reads.joins start all grew within) (Err tt) refl))
              (subst (λ (z : Ending). IsUsual z.fault) (sym is_memory) tt)
              (subst (λ (h : Heard). Hears h.reports [] heard.reports) (ap (λ (z : Scene). z.heard) reads.same) silent)
              (same ∙ ap (λ (z : Scene). record z.heard { reports = heard.reports }) reads.same)
          from (inr (inr (m, did, rest))) = behind_broke m (told-some inner s m y is did) x heard rest
