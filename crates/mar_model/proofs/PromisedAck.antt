-- An acknowledgement, by its plan: what is promised of it today.
use Rattle.std.proofs.Common.{◌≡◌, ◌⊎◌, inl, inr, ◌∷◌, [], List, Option, None, Some, Bool, true, false, cond, is_some, length, nat_lt, option_to_list, Result, Ok, Err, ◌++◌, ◌+◌, ℕ, refl, sym, ◌∙◌, ap, subst, append-nil}
use Rattle.std.specs.List.{cons_option}
use Rattle.mar_types.specs.Epochs.{Epochs, IsPartition}
use Rattle.mar_types.specs.Round.{Round}
use Rattle.mar_cert.specs.Block.{Block}
use Rattle.mar_key.specs.Cutoff.{greatest_of}
use Rattle.mar_key.specs.Hears.{Hears}
use Rattle.mar_key.specs.Keys.{Call, above_height, retain}
use Rattle.mar_key.specs.Processed.{at_block}
use Rattle.mar_model.specs.Acks.{Mark, Outstanding, after_given, after_oldest, dropped_oldest, given_front, given_oldest, is_dropped, is_given, mark_dropped, mark_given, mark_waiting, with_mark}
use Rattle.mar_model.specs.Event.{ack_marked, all_retired, retired, round_at}
use Rattle.mar_model.specs.Faults.{dropped_ack}
use Rattle.mar_model.specs.Held.{Ending, Grew, Held, IsUsual, Loses, Remembered, Seen, WithinWritten, Written, seen, written_pair, written_prunes}
use Rattle.mar_model.specs.Lives.{later_round}
use Rattle.mar_model.specs.Metadata.{pair_of}
use Rattle.mar_model.specs.Moves.{Drains, DrainsNext, EndsDropped, HearsFront, PrunesCacheBy, PrunesProcessed, processed_prunes, pruned_by, rounds_of, with_cache_of, with_processed}
use Rattle.mar_model.specs.Promise.{Heard, KeepsStep, heard_by}
use Rattle.mar_model.specs.Requests.{raise_asks, retire_asks}
use Rattle.mar_model.proofs.CachePrunes.{PrunesCacheBy-none}
use Rattle.mar_model.proofs.Draining.{Drains-still, DrainsSoFar, DrainsSoFar-first, DrainsSoFar-more, front_heard, next_written}
use Rattle.mar_model.proofs.Growing.{Grew-refl, WithinWritten-nothing, WithinWritten-refl, WithinWritten-unpaired, WithinWritten-unpruned}
use Rattle.mar_model.proofs.Handing.{Hears-nothing, HearsFront-nothing, HearsFront-whole, Ran as Dispatched}
use Rattle.mar_model.proofs.StoreLosses.{Loses-nothing}
use Rattle.mar_model.proofs.ProgressPromises.{promise-ack_unsynced, promise-acked, promise-not_drained, promise-undrained}
use Rattle.mar_model.proofs.SyncPromise.{at}
use Rattle.mar_model.specs.Acts.{AreLawful, height_prunes, mark, process, progresses, sync_progress}
use Rattle.mar_model.specs.Plans.{ack_plan, drain_plan, marked_plan, oldest_plan, settle_plan}
use Rattle.mar_model.specs.Ran.{Breaks, DoesTask, FailsRead, FailsTask, Reads, Runs, Task, dispatches, does, ends}
use Rattle.mar_model.specs.Scene.{Scene, Standing}
use Rattle.mar_model.proofs.Unread.{breaks_first, lost_before, runs_first}
use Rattle.mar_model.proofs.Stopping.{dispatch_broke, dispatch_ran, step_beside, step_stopped}

-- the rounds of the oldest block that is given, where there is one
given_prunes : {P E : Type 0} (a : Seen P E) (o : Outstanding) → given_oldest a.life.out ≡ Some o
    → pruned_by a.life.sizes.retention a.held.witnessed (option_to_list (round_at a.held.certs.held o.height)) ≡ processed_prunes a (option_to_list (given_oldest a.life.out))
given_prunes a o given = ap (pruned_by a.life.sizes.retention a.held.witnessed) (by (round_at a.held.certs.held o.height) refl)
  where
    by : (r : Option Round) → round_at a.held.certs.held o.height ≡ r → option_to_list r ≡ rounds_of a.held.certs.held (option_to_list (given_oldest a.life.out))
    by None is = sym (ap (λ g. rounds_of a.held.certs.held (option_to_list g)) given ∙ ap (λ x. cons_option x []) is)
    by (Some r) is = sym (ap (λ g. rounds_of a.held.certs.held (option_to_list g)) given ∙ ap (λ x. cons_option x []) is)

none_front : (out : List Outstanding) → is_some (given_oldest out) ≡ false → nat_lt 0 (length (given_front out)) ≡ false
none_front [] none = refl
none_front (a ∷ out) none = by (is_given a.mark) none
  where
    by : (b : Bool) → is_some (cond b (Some a) None) ≡ false → nat_lt 0 (length (cond b (a ∷ given_front out) [])) ≡ false
    by true e = absurd cc
    by false e = refl

module _ {P E : Type 0} (life : Remembered P E) (epochs : Epochs) (inner : List ℕ → List ℕ) (partition : IsPartition epochs) (buffer : List Block) (t : ℕ) (as_mark : Mark) (s : Scene)
    (law : AreLawful s.held) (epochs_are : s.standing.epochs ≡ epochs) where
  abbrev g : Scene
  g = record s { life = record s.life { out = with_mark t as_mark s.life.out } }

  abbrev front : List Outstanding
  front = given_front g.life.out

  abbrev all_asks : List Call
  all_asks = retire_asks epochs s.held.certs.held s.held.cutoff front

  abbrev all : Written
  all = written_prunes (processed_prunes (at life g) front)

  abbrev epochs_of : E → Epochs
  epochs_of e = epochs

  abbrev Kept : Heard → Result (Seen P E) Ending → Type 0
  Kept heard result = KeepsStep epochs inner (at life s) (ack_marked t as_mark ∷ []) buffer s.heard heard result

  -- nothing was told
  quiet : (heard : Heard) (result : Result (Seen P E) Ending) → heard ≡ record s.heard { asks = heard.asks }
      → KeepsStep epochs inner (at life s) (ack_marked t as_mark ∷ []) buffer (heard_by s.heard.reports s.heard.asks) (heard_by s.heard.reports heard.asks) result → Kept heard result
  quiet heard result same keeps = step_beside epochs inner (at life s) (ack_marked t as_mark ∷ []) buffer result s.heard heard
      (same ∙ ap (λ told. record s.heard { reports = told; asks = heard.asks }) (sym (ap (λ (h : Heard). h.reports) same)))
      (subst (λ told. KeepsStep epochs inner (at life s) (ack_marked t as_mark ∷ []) buffer (heard_by s.heard.reports s.heard.asks) (heard_by told heard.asks) result)
      (sym (ap (λ (h : Heard). h.reports) same)) keeps)

  -- what was drained so far
  record SoFar (now : Scene) : Type 0 where
    pub drained : Bool
    pub count : ℕ
    pub so : DrainsSoFar epochs (at life g) (at life now) s.heard.asks now.heard.asks drained count
    pub standing : now.standing ≡ s.standing
    pub heard : now.heard ≡ record s.heard { asks = now.heard.asks }
    pub lawful : AreLawful now.held

  first : SoFar g
  first = record { drained = false; count = 0; so = DrainsSoFar-first epochs (at life g) s.heard.asks; standing = refl; heard = refl; lawful = law }

  -- all that were given at the front were
  record Drained (d : Scene) : Type 0 where
    pub is_drained : Bool
    pub drains : Drains epochs (at life g) is_drained (at life d)
    pub asks : Hears s.heard.asks all_asks d.heard.asks
    pub heard : d.heard ≡ record s.heard { asks = d.heard.asks }
    pub lawful : AreLawful d.held
    pub grew : (begun : Held) (more : Written) → Grew begun more s.held → WithinWritten all more → Grew begun more d.held

  module _ (now : Scene) (far : SoFar now) where
    grew_now : Grew s.held all now.held
    grew_now = far.so.grew s.held all (Grew-refl s.held all law.blocks law.certs) (WithinWritten-refl all)

    abbrev one : List Outstanding
    one = option_to_list (given_oldest now.life.out)

    -- the oldest is processed
    module _ (o : Outstanding) (out : List Outstanding) (out_is : now.life.out ≡ o ∷ out) (marked : o.mark ≡ mark_given) where
      given_is : given_oldest now.life.out ≡ Some o
      given_is = ap given_oldest out_is ∙ ap (λ m. cond (is_given m) (Some o) None) marked

      not_dropped : dropped_oldest now.life.out ≡ None
      not_dropped = ap dropped_oldest out_is ∙ ap (λ m. cond (is_dropped m) (Some o) None) marked

      asks_one : (retain (above_height o.height) ∷ raise_asks now.held.cutoff (retired now.standing.epochs now.held.certs.held o.height)) ≡ retire_asks epochs now.held.certs.held
          now.held.cutoff one
      asks_one = ap (λ (y : Standing). retain (above_height o.height) ∷ raise_asks now.held.cutoff (retired y.epochs now.held.certs.held o.height)) far.standing
          ∙ (ap (λ es. retain (above_height o.height) ∷ raise_asks now.held.cutoff (retired es now.held.certs.held o.height)) epochs_are
          ∙ (ap (λ zs. retain (above_height o.height) ∷ zs) (sym (append-nil (raise_asks now.held.cutoff (retired epochs now.held.certs.held o.height))))
          ∙ ap (λ g. retire_asks epochs now.held.certs.held now.held.cutoff (option_to_list g)) (sym given_is)))

      prunes_one : height_prunes now.life.sizes.retention now.held o.height ≡ processed_prunes (at life now) one
      prunes_one = given_prunes (at life now) o given_is

      within_one : WithinWritten (written_prunes (height_prunes now.life.sizes.retention now.held o.height)) all
      within_one = subst (λ rs. WithinWritten (written_prunes rs) all) (sym prunes_one)
          (next_written epochs_of (at life g) (at life now) s.heard.asks now.heard.asks far.drained far.count far.so all (WithinWritten-refl all))

      module _ (new : Scene) (did : DoesTask inner (does (progresses (process o.height))) now new) where
        abbrev remade : Held → Seen P E
        remade h = seen h (record life { sizes = now.life.sizes; out = after_oldest now.life.out; tip = now.life.tip; next_ack = now.life.next_ack })

        retired_one : retired now.standing.epochs now.held.certs.held o.height ≡ all_retired epochs now.held.certs.held (o ∷ [])
        retired_one = ap (λ (y : Standing). retired y.epochs now.held.certs.held o.height) far.standing ∙
            (ap (λ es. retired es now.held.certs.held o.height) epochs_are ∙ sym (append-nil (retired epochs now.held.certs.held o.height)))

        same_one : at life new ≡ with_processed epochs (at life now) one (after_oldest now.life.out) new.held
        same_one = ap (at life) did.4 ∙ (ap remade did.0.same
            ∙ (ap (λ cs. remade (record (with_cache_of new.held now.held)
            { processed = Some (at_block o.height); cutoff = greatest_of now.held.cutoff cs; witnessed = later_round now.held.witnessed (round_at now.held.certs.held o.height) }))
            retired_one
            ∙ ap (λ g. with_processed epochs (at life now) (option_to_list g) (after_oldest now.life.out) new.held) (sym given_is)))

        next : DrainsNext epochs (at life now) true (at life new)
        next = record { prunes = subst (λ rs. PrunesCacheBy rs now.held new.held) prunes_one did.0.prunes; same = same_one; processed = sym (ap is_some given_is); not_dropped = not_dropped }

        more : SoFar new
        more = record {
          drained = true;
          count = far.count + 1;
          so = DrainsSoFar-more epochs_of (at life g) (at life now) s.heard.asks now.heard.asks far.drained far.count far.so (at life new) new.heard.asks true refl next
              (subst (λ zs. Hears now.heard.asks zs new.heard.asks) asks_one did.3)
              (λ begun most grew within. did.1 begun most (far.so.grew begun most grew within)
              (subst (λ rs. WithinWritten (written_prunes rs) most) (sym prunes_one)
              (next_written epochs_of (at life g) (at life now) s.heard.asks now.heard.asks far.drained far.count far.so most within)));
          standing = ap (λ (y : Scene). y.standing) did.4 ∙ far.standing;
          heard = ap (λ (y : Scene). y.heard) did.4 ∙ ap (λ (h : Heard). record h { asks = new.heard.asks }) far.heard;
          lawful = did.2;
        }

        out_then : new.life.out ≡ out
        out_then = ap (λ (y : Scene). y.life.out) did.4 ∙ (ap after_oldest out_is ∙ ap (λ m. cond (is_given m) out (o ∷ out)) marked)

    -- or none is left
    done : given_oldest now.life.out ≡ None → dropped_oldest now.life.out ≡ None → after_oldest now.life.out ≡ now.life.out → Drained now
    done none undropped same_out =
        let still = Drains-still epochs_of (at life g) (at life now) s.heard.asks now.heard.asks far.drained far.count far.so (at life now) now.heard.asks false refl
        (record {
          prunes = subst (λ o. PrunesProcessed (at life now) (option_to_list o) now.held) (sym none) (PrunesCacheBy-none now.held now.held refl refl refl);
          same = ap (λ out. with_processed epochs (at life now) [] out now.held) (sym same_out) ∙ ap
              (λ o. with_processed epochs (at life now) (option_to_list o) (after_oldest now.life.out) now.held) (sym none);
          processed = sym (ap is_some none);
          not_dropped = undropped;
        })
        (subst (λ o. Hears now.heard.asks (retire_asks epochs now.held.certs.held now.held.cutoff (option_to_list o)) now.heard.asks) (sym none) (Hears-nothing now.heard.asks)) in
        record { is_drained = far.drained; drains = still.0; asks = still.1; heard = far.heard; lawful = far.lawful; grew = far.so.grew }

    -- a life that ended before that
    undrained : (x : Ending) (heard : Heard) → Loses s.held all x → IsUsual x.fault ⊎ EndsDropped (at life g) x
        → HearsFront now.heard.asks (retire_asks epochs now.held.certs.held now.held.cutoff one) heard.asks → heard ≡ record now.heard { asks = heard.asks } → Kept heard (Err x)
    undrained x heard lost kind some same = quiet heard (Err x) (same ∙ ap (λ (h : Heard). record h { asks = heard.asks }) far.heard)
        (promise-undrained epochs inner partition (at life s) buffer t as_mark law.cached s.heard.reports s.heard.asks heard.asks x law.blocks law.certs
        (front_heard epochs_of (at life g) (at life now) s.heard.asks now.heard.asks far.drained far.count far.so heard.asks some) lost kind)

    unread : (x : Ending) (heard : Heard) → FailsRead now x heard → Kept heard (Err x)
    unread x heard fails = undrained x heard (fails.loses s.held all grew_now (WithinWritten-nothing all)) (inl fails.usual)
        (HearsFront-nothing now.heard.asks _ heard.asks (subst (λ (h : Heard). Hears now.heard.asks [] h.asks) (sym fails.same) (Hears-nothing now.heard.asks)))
        (fails.same ∙ ap (λ asks. record now.heard { asks = asks }) (sym (ap (λ (h : Heard). h.asks) fails.same)))

  -- WHERE IT GOES WELL

  drain_ran : (out : List Outstanding) (now : Scene) → now.life.out ≡ out → SoFar now → (rest : List Task) (u : Scene) → Runs inner now (drain_plan out ++ rest) u
      → (d : Scene) × Drained d × Runs inner d rest u
  drain_ran [] now is far rest u runs = (now, done now far (ap given_oldest is) (ap dropped_oldest is) (ap after_oldest is ∙ sym is), runs)
  drain_ran (o ∷ out) now is far rest u runs = by (λ new new_is more left. drain_ran out new new_is more rest u left) o.mark refl runs
    where
      by : ((new : Scene) → new.life.out ≡ out → SoFar new → Runs inner new (drain_plan out ++ rest) u → (d : Scene) × Drained d × Runs inner d rest u) → (m : Mark) → o.mark ≡ m
          → Runs inner now ((oldest_plan m o.height ++ cond (is_given m) (drain_plan out) []) ++ rest) u → (d : Scene) × Drained d × Runs inner d rest u
      by again mark_waiting marked runs = (
        now,
        done now far (ap given_oldest is ∙ ap (λ m. cond (is_given m) (Some o) None) marked)
            (ap dropped_oldest is ∙ ap (λ m. cond (is_dropped m) (Some o) None) marked) (ap after_oldest is ∙ (ap (λ m. cond (is_given m) out (o ∷ out)) marked ∙ sym is)),
        runs,
      )
      by again mark_given marked runs =
          let (new, did, left) = runs_first inner (does (progresses (process o.height))) (drain_plan out ++ rest) now u far.lawful runs in
          again new (out_then now far o out is marked new did) (more now far o out is marked new did) left
      by again mark_dropped marked (mid, after, reads, did, left) = absurd did

  read_drained : (d u : Scene) (b : Bool) → Reads d u → Drains epochs (at life g) b (at life d) → Drains epochs (at life g) b (at life u)
  read_drained d u b reads drains = subst (λ (y : Scene). Drains epochs (at life g) b (at life y)) (sym reads.same) (record {
    prunes = record {
      prunes = drains.prunes.prunes;
      loaded = drains.prunes.loaded;
      still_open = drains.prunes.still_open;
      lowest = drains.prunes.lowest;
      own_lowest =
          drains.prunes.own_lowest;
    };
    same = ap (λ (y : Seen P E). record y { held = record y.held { watches = u.held.watches } }) drains.same;
    drained = drains.drained;
    not_dropped = drains.not_dropped;
  })

  module _ (d : Scene) (drained : Drained d) where
    synced : (m : Scene) → DoesTask inner (does (progresses sync_progress)) d m
        → at life m ≡ record (at life d) { held = record d.held { pairs = pair_of d.held.processed d.held.cutoff ∷ []; watches = m.held.watches } }
    synced m (is, lawful, same) = ap (at life) same ∙ ap (λ h. seen h (record life { sizes = d.life.sizes; out = d.life.out; tip = d.life.tip; next_ack = d.life.next_ack })) is.same

    acked : (m : Scene) (result : Result (Seen P E) Ending) (heard : Heard) → DoesTask inner (does (progresses sync_progress)) d m
        → Dispatched (at life m) m.heard.reports heard.reports result → heard ≡ record m.heard { reports = heard.reports } → Kept heard result
    acked m result heard did ran same =
        let now : m.heard ≡ d.heard = ap (λ (y : Scene). y.heard) did.2 in
        let asks : heard.asks ≡ d.heard.asks = ap (λ (h : Heard). h.asks) same ∙ ap (λ (h : Heard). h.asks) now in
        let told : m.heard.reports ≡ s.heard.reports = ap (λ (h : Heard). h.reports) now ∙ ap (λ (h : Heard). h.reports) drained.heard in
        step_beside epochs inner (at life s) (ack_marked t as_mark ∷ []) buffer result s.heard heard
        (same ∙ (ap (λ (h : Heard). record h { reports = heard.reports }) now ∙
        (ap (λ (h : Heard). record h { reports = heard.reports }) drained.heard ∙ ap (λ a. record s.heard { reports = heard.reports; asks = a }) (sym asks))))
        (promise-acked epochs inner partition (at life s) buffer t as_mark law.cached drained.is_drained (at life d) drained.drains s.heard.reports heard.reports s.heard.asks heard.asks (at life m)
        result law.blocks law.certs (synced m did)
        (subst (λ a. Hears s.heard.asks all_asks a) (sym asks) drained.asks) (subst (λ r. Dispatched (at life m) r heard.reports result) told ran))

    settle_ran : (b : Bool) → is_some (given_oldest g.life.out) ≡ b → (u : Scene) → Runs inner d (settle_plan b) u → Kept u.heard (Ok (at life u))
    settle_ran true is u runs =
        let (m, did, rest) = runs_first inner (does (progresses sync_progress)) (dispatches ∷ []) d u drained.lawful runs in
        let (ran, same) = dispatch_ran life inner m u did.1 rest in
        acked m (Ok (at life u)) u.heard did ran same
    settle_ran false is u reads =
        let heard : u.heard ≡ d.heard = ap (λ (y : Scene). y.heard) reads.same in
        quiet u.heard (Ok (at life u)) (heard ∙ (drained.heard ∙ ap (λ (h : Heard). record s.heard { asks = h.asks }) (sym heard)))
        (promise-not_drained epochs inner partition (at life s) buffer t as_mark law.cached s.heard.reports s.heard.asks u.heard.asks (at life u) drained.is_drained
        (drained.drains.drained ∙ none_front g.life.out is) (read_drained d u drained.is_drained reads drained.drains) law.blocks law.certs
        (subst (λ (h : Heard). Hears s.heard.asks all_asks h.asks) (sym heard) drained.asks))

    -- WHERE IT FAILS

    abbrev with_pair : Written
    with_pair = record all { pairs = pair_of d.held.processed d.held.cutoff ∷ [] }

    unsettled : (x : Ending) (heard : Heard) → FailsRead d x heard → Kept heard (Err x)
    unsettled x heard fails = quiet heard (Err x) (fails.same ∙ (drained.heard ∙ ap (λ (h : Heard). record s.heard { asks = h.asks }) (sym fails.same)))
        (promise-undrained epochs inner partition (at life s) buffer t as_mark law.cached s.heard.reports s.heard.asks heard.asks x law.blocks law.certs
        (HearsFront-whole s.heard.asks all_asks heard.asks (subst (λ (h : Heard). Hears s.heard.asks all_asks h.asks) (sym fails.same) drained.asks))
        (fails.loses s.held all (drained.grew s.held all (Grew-refl s.held all law.blocks law.certs) (WithinWritten-refl all)) (WithinWritten-nothing all)) (inl fails.usual))

    settle_broke : (b : Bool) (x : Ending) (heard : Heard) → Breaks inner d (settle_plan b) x heard → Kept heard (Err x)
    settle_broke false x heard fails = unsettled x heard fails
    settle_broke true x heard breaks = by (breaks_first inner (does (progresses sync_progress)) (dispatches ∷ []) d x heard drained.lawful breaks)
      where
        by : FailsRead d x heard ⊎ (((mid : Scene) × Reads d mid × FailsTask inner (does (progresses sync_progress)) mid x heard) ⊎
            ((m : Scene) × DoesTask inner (does (progresses sync_progress)) d m × Breaks inner m (dispatches ∷ []) x heard)) → Kept heard (Err x)
        by (inl fails) = unsettled x heard fails
        by (inr (inl (mid, reads, (over, usual, same)))) =
            let heard_is : heard ≡ d.heard = same ∙ ap (λ (y : Scene). y.heard) reads.same in
            quiet heard (Err x) (heard_is ∙ (drained.heard ∙ ap (λ (h : Heard). record s.heard { asks = h.asks }) (sym heard_is)))
            (promise-ack_unsynced epochs inner partition (at life s) buffer t as_mark law.cached drained.is_drained (at life d) drained.drains s.heard.reports s.heard.asks heard.asks x law.blocks
            law.certs
            (subst (λ (h : Heard). Hears s.heard.asks all_asks h.asks) (sym heard_is) drained.asks)
            (lost_before inner d mid (written_pair (pair_of d.held.processed d.held.cutoff)) x reads
            (λ begun most. subst (λ (y : Scene). Grew begun most mid.held → WithinWritten (written_pair (pair_of y.held.processed y.held.cutoff)) most → Loses begun most x) reads.same
            (over begun most))
            s.held with_pair (drained.grew s.held with_pair (Grew-refl s.held with_pair law.blocks law.certs) (WithinWritten-unpaired with_pair)) (WithinWritten-unpruned with_pair)) usual)
        by (inr (inr (m, did, rest))) =
            let (stops, same) = dispatch_broke life inner m x heard did.1 rest in
            step_stopped life epochs inner (at life s) (at life m) (ack_marked t as_mark ∷ []) buffer s.heard heard m.heard.reports x stops (acked m (Err stops.e) heard did stops.ran same)

  drain_broke : (out : List Outstanding) (now : Scene) → now.life.out ≡ out → SoFar now → (rest : List Task) (x : Ending) (heard : Heard)
      → ((d : Scene) → Drained d → Breaks inner d rest x heard → Kept heard (Err x)) → Breaks inner now (drain_plan out ++ rest) x heard → Kept heard (Err x)
  drain_broke [] now is far rest x heard then breaks = then now (done now far (ap given_oldest is) (ap dropped_oldest is) (ap after_oldest is ∙ sym is)) breaks
  drain_broke (o ∷ out) now is far rest x heard then breaks = by (λ new new_is more left. drain_broke out new new_is more rest x heard then left) o.mark refl breaks
    where
      by : ((new : Scene) → new.life.out ≡ out → SoFar new → Breaks inner new (drain_plan out ++ rest) x heard → Kept heard (Err x)) → (m : Mark) → o.mark ≡ m
          → Breaks inner now ((oldest_plan m o.height ++ cond (is_given m) (drain_plan out) []) ++ rest) x heard → Kept heard (Err x)
      by again mark_waiting marked breaks = then now (done now far (ap given_oldest is ∙ ap (λ m. cond (is_given m) (Some o) None) marked)
          (ap dropped_oldest is ∙ ap (λ m. cond (is_dropped m) (Some o) None) marked) (ap after_oldest is ∙ (ap (λ m. cond (is_given m) out (o ∷ out)) marked ∙ sym is))) breaks
      by again mark_given marked breaks = from (breaks_first inner (does (progresses (process o.height))) (drain_plan out ++ rest) now x heard far.lawful breaks)
        where
          from : FailsRead now x heard ⊎ (((mid : Scene) × Reads now mid × FailsTask inner (does (progresses (process o.height))) mid x heard) ⊎
              ((new : Scene) × DoesTask inner (does (progresses (process o.height))) now new × Breaks inner new (drain_plan out ++ rest) x heard)) → Kept heard (Err x)
          from (inl fails) = unread now far x heard fails
          from (inr (inl (mid, reads, fails))) =
              let (over, usual, some, same) = subst (λ (y : Scene). FailsTask inner (does (progresses (process o.height))) y x heard) reads.same fails in
              undrained now far x heard (over s.held all (subst (λ (y : Scene). Grew s.held all y.held) reads.same (reads.joins s.held all (grew_now now far) (WithinWritten-nothing all)))
              (within_one now far o out is marked)) (inl usual)
              (subst (λ zs. HearsFront now.heard.asks zs heard.asks) (asks_one now far o out is marked) some) same
          from (inr (inr (new, did, left))) = again new (out_then now far o out is marked new did) (more now far o out is marked new did) left
      by again mark_dropped marked breaks = from (breaks_first inner (ends (dropped_ack o.height)) rest now x heard far.lawful breaks)
        where
          from : FailsRead now x heard ⊎ (((mid : Scene) × Reads now mid × FailsTask inner (ends (dropped_ack o.height)) mid x heard) ⊎ ((new : Scene) × ⊥ × Breaks inner new rest x heard))
              → Kept heard (Err x)
          from (inl fails) = unread now far x heard fails
          from (inr (inl (mid, reads, (is_ended, same)))) =
              let heard_is : heard ≡ now.heard = same ∙ ap (λ (y : Scene). y.heard) reads.same in
              undrained now far x heard
              (subst (λ (y : Ending). Loses s.held all y) (sym is_ended)
              (Loses-nothing s.held all mid.held (reads.joins s.held all (grew_now now far) (WithinWritten-nothing all)) (dropped_ack o.height) tt))
              (inr (record {
                oldest = o;
                dropped = ap dropped_oldest (sym far.so.rest ∙ (ap after_given is ∙ ap (λ m. cond (is_given m) (after_given out) (o ∷ out)) marked)) ∙ ap
                    (λ m. cond (is_dropped m) (Some o) None) marked;
                fault = ap (λ (y : Ending). y.fault) is_ended;
                unsynced = ap (λ (y : Ending). y.remains.ended.meta) is_ended ∙ (ap (λ (y : Scene). y.held.pairs) reads.same ∙ ap (λ (a : Seen P E). a.held.pairs) far.so.same);
              }))
              (HearsFront-nothing now.heard.asks _ heard.asks (subst (λ (h : Heard). Hears now.heard.asks [] h.asks) (sym heard_is) (Hears-nothing now.heard.asks)))
              (heard_is ∙ ap (λ (h : Heard). record now.heard { asks = h.asks }) (sym heard_is))
          from (inr (inr (new, never, left))) = absurd never

  -- the block is marked first
  marks : (m : Scene) → DoesTask inner (does (progresses (mark t as_mark))) s m → m ≡ g
  marks m same = same

  pub ack_promise : (u : Scene) → Runs inner s (ack_plan s.life.out t as_mark) u → KeepsStep epochs inner (at life s) (ack_marked t as_mark ∷ []) buffer s.heard u.heard (Ok (at life u))
  ack_promise u runs =
      let (m, did, rest) = runs_first inner (does (progresses (mark t as_mark))) (marked_plan g.life.out) s u law runs in
      let (d, drained, left) = drain_ran g.life.out g refl first (settle_plan (is_some (given_oldest g.life.out))) u
      (subst (λ (y : Scene). Runs inner y (marked_plan g.life.out) u) (marks m did) rest) in
      settle_ran d drained (is_some (given_oldest g.life.out)) refl u left

  pub ack_cut : (x : Ending) (heard : Heard) → Breaks inner s (ack_plan s.life.out t as_mark) x heard → KeepsStep epochs inner (at life s) (ack_marked t as_mark ∷ []) buffer s.heard heard (Err x)
  ack_cut x heard breaks = by (breaks_first inner (does (progresses (mark t as_mark))) (marked_plan g.life.out) s x heard law breaks)
    where
      by : FailsRead s x heard ⊎ (((mid : Scene) × Reads s mid × ⊥) ⊎ ((m : Scene) × (m ≡ g) × Breaks inner m (marked_plan g.life.out) x heard)) → Kept heard (Err x)
      by (inl fails) = unread g first x heard (record { loses = fails.loses; usual = fails.usual; unsynced = fails.unsynced; same = fails.same })
      by (inr (inl (mid, reads, never))) = absurd never
      by (inr (inr (m, is, rest))) = drain_broke g.life.out g refl first (settle_plan (is_some (given_oldest g.life.out))) x heard
          (λ d drained broke. settle_broke d drained (is_some (given_oldest g.life.out)) x heard broke) (subst (λ (y : Scene). Breaks inner y (marked_plan g.life.out) x heard) is rest)
