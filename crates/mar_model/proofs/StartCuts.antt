-- What breaks a start behind the scene in which it took up its cache is a cut of the node that took it up.
use Rattle.std.proofs.Common.{◌≡◌, ◌⊎◌, inl, inr, ⊎_elim, ◌∷◌, [], ℕ, List, None, Some, false, true, ◌++◌, Contains, refl, sym, ◌∙◌, ap, subst, append-nil, Err}
use Rattle.std.proofs.lemmas.List.Elements.{Contains-append_left, Contains-append_right}
use Rattle.std.specs.List.{AllByRecursion, filter_map}
use Rattle.mar_types.specs.Epochs.{Epochs}
use Rattle.mar_cert.specs.Block.{Block}
use Rattle.mar_cert.specs.Finalization.{Finalization}
use Rattle.mar_key.specs.Hears.{Hears}
use Rattle.mar_key.specs.Keys.{Call}
use Rattle.mar_store.specs.Kept.{At}
use Rattle.mar_store.proofs.Lookups.{AllByRecursion-contains}
use Rattle.mar_model.specs.Acts.{Act, AreLawful, caches, load_cache, says, stores, sync_writes, tell}
use Rattle.mar_model.specs.AllEntries.{LoadsEntries}
use Rattle.mar_model.specs.Answers.{TicketAnswer, answers_of}
use Rattle.mar_model.specs.CacheCalls.{none_goes}
use Rattle.mar_model.specs.Cached.{Cached, cached_block, cached_finalization}
use Rattle.mar_model.specs.Chain.{Chain}
use Rattle.mar_model.specs.Config.{Config}
use Rattle.mar_model.specs.Event.{Event, life_started, no_floor}
use Rattle.mar_model.specs.Held.{Ending, Held, HeldCache, Remembered, Seen, Written, nothing_written}
use Rattle.mar_model.specs.Lives.{ArePicked}
use Rattle.mar_model.specs.Moves.{newest_tip, newest_tips}
use Rattle.mar_model.specs.Node.{IsFinalized, Node}
use Rattle.mar_model.specs.OpenSyncs.{AreStillOpen}
use Rattle.mar_model.specs.Promise.{AreOne, CutsStep, Heard, IsGoodUntold, IsLawfulStep, IsSetTo, KeepsStart, Waiting, node_of}
use Rattle.mar_model.specs.Ran.{Breaks, DoesTask, Reads, Task, dispatches, does, repairs}
use Rattle.mar_model.specs.Requests.{IsRepairFetch}
use Rattle.mar_model.specs.Scene.{Scene}
use Rattle.mar_model.specs.Step.{AreTipsOf, IsFront}
use Rattle.mar_model.specs.Stored.{newest}
use Rattle.mar_model.proofs.Acting.{BreaksBehind, as_tasks, flattened}
use Rattle.mar_model.proofs.CacheOver.{own_none}
use Rattle.mar_model.proofs.CutsRan.{AsksMore, Cuts-ran, IsOwned, Said-nothing, SoFar}
use Rattle.mar_model.proofs.EntryLists.{contains_none}
use Rattle.mar_model.proofs.Filling.{AreToFill, OwnsFills, OwnsFills-all, behind_within, filled_blocks, filled_certs, found_within, own-pass}
use Rattle.mar_model.proofs.Filtered.{all_found_within}
use Rattle.mar_model.proofs.Growing.{WithinWritten-nothing}
use Rattle.mar_model.proofs.Handing.{Hears-nothing}
use Rattle.mar_model.proofs.Owning.{IsOwned-undrained}
use Rattle.mar_model.proofs.Owns.{Owns, answers_in, asks_in, course_of, node_at, own_pair, sends_in, written_in}
use Rattle.mar_model.proofs.Since.{Since-refl}
use Rattle.mar_model.proofs.Soundness.{own_pair_safe}
use Rattle.mar_model.proofs.StartEvent.{IsLawfulStep-begun}
use Rattle.mar_model.proofs.SyncPromise.{at}
use Rattle.mar_model.proofs.Tips.{newest_tips-chain, newest_tips-rise, newest_tips-tips}

-- A start has told its newest finalization, and nothing else.
pub record HasToldNewest (inner : List ℕ → List ℕ) (s m : Scene) : Type 0 where
  pub tips : Hears s.heard.reports (newest_tips inner s.life.tip (newest s.held.certs.held)) m.heard.reports
  pub same : m ≡ record s { life = record s.life { tip = newest_tip s.life.tip (newest s.held.certs.held) }; heard = record s.heard { reports = m.heard.reports } }

-- what stands behind the cache that was taken up
abbrev pub filling_plan : List Task
filling_plan = does (stores sync_writes) ∷ dispatches ∷ []

module _ (config : Config) (chain : Chain) (inner : List ℕ → List ℕ) (inner_is : config.inner ≡ inner) (s n : Scene) (buffer : List Block) (waiting : Waiting) where
  -- before it told anything, with the cache that it took up
  abbrev begun : Scene
  begun = record s { held = n.held }

  abbrev started : Event
  started = life_started None

  abbrev first : Node
  first = node_at begun buffer waiting

  module _ (law : AreLawful n.held) (loaded : n.held.cache.loaded ≡ true) (certs_same : n.held.certs ≡ s.held.certs) (step : IsLawfulStep config chain first (started ∷ []))
      (tips : Hears s.heard.reports (newest_tips inner s.life.tip (newest s.held.certs.held)) n.heard.reports)
      (same : n ≡ record begun { life = record s.life { tip = newest_tip s.life.tip (newest s.held.certs.held) }; heard = record s.heard { reports = n.heard.reports } })
      (x : Ending) (heard : Heard) where
    good : IsGoodUntold config chain first
    good = step.good

    -- what it writes are fills
    abbrev written : List Act → Written
    written acts = record nothing_written { blocks = filled_blocks acts; certs = filled_certs acts }

    is_owned : (acts : List Act) → OwnsFills config chain first started acts → IsOwned config chain begun started buffer waiting (written acts)
    is_owned acts filled = IsOwned-undrained config chain begun started buffer waiting (record {
      no_effect = refl;
      unrefused = λ fault. refl;
      undrained = refl;
      processed = refl;
      good = good;
      safe = own_pair_safe chain first good.1.heights.delivery.anchored good.1.of_chain.floor_safe;
    }) (written acts) (record {
      unpruned = refl;
      certs_unpruned = refl;
      pairs = λ p has. contains_none p has;
      cache = own_none config chain first started;
      of_blocks = filled.blocks;
      of_certs = filled.certs;
      own_blocks = λ y has. AllByRecursion-contains _ (filled_blocks acts) y filled.own_blocks has;
      own_certs = λ y has. AllByRecursion-contains _ (filled_certs acts) y filled.own_certs has;
    })

    -- what broke a row of fills and some of what stood behind it
    cut : (acts : List Act) → OwnsFills config chain first started acts → (left : List Task) → asks_in n.held.cutoff left ≡ [] → sends_in left ≡ [] → answers_in n.held left ≡ []
        → Owns config chain first started (written acts) s.life.sizes.retention (own_pair begun) (written_in (course_of begun)) left → Breaks inner n (as_tasks acts ++ left) x heard
        → CutsStep config chain first (started ∷ []) s.heard heard x
    cut acts filled left unasked unsent unanswered owns breaks =
        Cuts-ran config chain begun started buffer waiting (written acts) owned whole answered more asks_more inner plan (written_in (course_of begun)) n so_far
        (filled.owns (written acts) s.life.sizes.retention (own_pair begun) (course_of begun) left (λ y has. has) (λ y has. has) owns) x heard breaks
      where
        plan : List Task
        plan = as_tasks acts ++ left

        owned : IsOwned config chain begun started buffer waiting (written acts)
        owned = is_owned acts filled

        whole : List TicketAnswer
        whole = answers_in n.held plan

        answered : (lowest : ℕ) × IsFront whole (answers_of config first lowest started no_floor)
        answered = (0, subst (λ ys. IsFront ys (answers_of config first 0 started no_floor)) (sym (filled.answers n.held left ∙ unanswered)) (answers_of config first 0 started no_floor, refl))

        more : List Call
        more = asks_in n.held.cutoff plan

        more_is : more ≡ filled.calls
        more_is = filled.asks n.held.cutoff left ∙ (ap (λ ys. filled.calls ++ ys) unasked ∙ append-nil filled.calls)

        asks_more : AsksMore config chain begun started buffer waiting (written acts) more
        asks_more = inr (refl, subst (AllByRecursion (IsRepairFetch chain)) (sym more_is) filled.repair_calls)

        so_far : SoFar config chain begun started buffer waiting (written acts) owned whole answered more asks_more (written_in (course_of begun)) plan n
        so_far = subst (SoFar config chain begun started buffer waiting (written acts) owned whole answered more asks_more (written_in (course_of begun)) plan) (sym same) (record {
          stores = record {
            since = Since-refl n.held (written acts) law;
            lawful = law;
            loaded = loaded;
            stands = ap (λ ps. record { pairs = ps; processed = n.held.processed; cutoff = n.held.cutoff; witnessed = n.held.witnessed }) good.1.heights.own_pair;
            pair_is = inl refl;
            unwritten = λ is. absurd (let both : false ≡ true = is in cc);
          };
          sizes = refl;
          out = refl;
          next_ack = refl;
          told = record {
            tips = newest_tips inner s.life.tip (newest s.held.certs.held);
            told = tips;
            are_tips = newest_tips-tips inner s.life.tip (newest s.held.certs.held);
            rise = newest_tips-rise inner s.life.tip (newest s.held.certs.held);
            tips_chain = subst (λ k. AreTipsOf chain (newest_tips inner s.life.tip (newest k.held))) certs_same
                (subst (λ i. AreTipsOf chain (newest_tips i s.life.tip (newest n.held.certs.held))) inner_is
                (newest_tips-chain config.inner chain (buffer ++ filter_map cached_block (n.held.cache.kept.held ++ n.held.cache.kept.may)) step.one s.life.tip n.held.certs.held good.1.of_chain.stores.held_certs));
          };
          asks = Said-nothing s.heard.asks more more refl;
          sends = Said-nothing s.heard.sends (sends_in plan) [] (filled.sends left ∙ unsent);
          answers = Said-nothing (Some s.heard.answers) whole whole refl;
        })

    -- what its stores are to a pass
    to_fill : (began : Scene) → Reads n began → AreToFill config.epochs chain inner buffer began.held first started
    to_fill began reads = subst (λ h. AreToFill config.epochs chain inner buffer h first started) (sym (ap (λ (y : Scene). y.held) reads.same)) (record {
      lawful = step.lawful;
      known = chain.blocks ++ (buffer ++ filter_map cached_block (n.held.cache.kept.held ++ n.held.cache.kept.may));
      one = subst (λ i. AreOne i (chain.blocks ++ (buffer ++ filter_map cached_block (n.held.cache.kept.held ++ n.held.cache.kept.may)))) inner_is step.one;
      chain_known = λ b has. Contains-append_left chain.blocks _ b has;
      beside_known = λ b has. Contains-append_right chain.blocks (buffer ++ filter_map cached_block (n.held.cache.kept.held ++ n.held.cache.kept.may)) b
          (behind_within buffer (filter_map cached_block n.held.cache.kept.held) (filter_map cached_block (n.held.cache.kept.held ++ n.held.cache.kept.may))
          (found_within cached_block n.held.cache.kept.held (n.held.cache.kept.held ++ n.held.cache.kept.may) among) b has);
      finals = all_found_within cached_finalization (λ f. IsFinalized chain f.round f.payload) n.held.cache.kept.held (n.held.cache.kept.held ++ n.held.cache.kept.may) among good.1.of_chain.cache.finalizations;
      blocks = good.1.of_chain.stores.held_blocks;
      certs = good.1.of_chain.stores.held_certs;
      block_from = λ b has. has;
      cert_from = λ f height has. has;
    })
      where
        among : (y : Cached) → Contains n.held.cache.kept.held y → Contains (n.held.cache.kept.held ++ n.held.cache.kept.may) y
        among y has = Contains-append_left n.held.cache.kept.held n.held.cache.kept.may y has

    -- what broke behind the pass, in it or before it
    behind-cut : (behind : BreaksBehind inner buffer [] filling_plan n x heard) → CutsStep config chain first (started ∷ []) s.heard heard x
    behind-cut behind = by behind.left behind.left_is behind.broke
      where
        filled : OwnsFills config chain first started behind.acts
        filled = OwnsFills-all config chain first started behind.acts (own-pass config.epochs chain inner buffer behind.began first started (to_fill behind.began behind.done) behind.acts behind.is_pass)

        by : (left : List Task) → (left ≡ []) ⊎ (left ≡ filling_plan) → Breaks inner n (as_tasks behind.acts ++ left) x heard → CutsStep config chain first (started ∷ []) s.heard heard x
        by left (inl none) broke = cut behind.acts filled [] refl refl refl tt (subst (λ plan. Breaks inner n (as_tasks behind.acts ++ plan) x heard) none broke)
        by left (inr all) broke = cut behind.acts filled filling_plan refl refl refl (WithinWritten-nothing (written behind.acts), (refl, refl, refl, refl))
            (subst (λ plan. Breaks inner n (as_tasks behind.acts ++ plan) x heard) all broke)

    pub filling-cut : Breaks inner n (repairs buffer ∷ filling_plan) x heard → CutsStep config chain first (started ∷ []) s.heard heard x
    filling-cut breaks = ⊎_elim (λ unread. cut [] (OwnsFills-all config chain first started [] tt) [] refl refl refl tt unread) behind-cut (flattened inner buffer filling_plan x heard [] n breaks)

-- START_CUTS: once the newest finalization is told and the cache taken up
module _ {P E : Type 0} (life : Remembered P E) (epochs : Epochs) (inner : List ℕ → List ℕ) (buffer : List Block) (s m n : Scene) (told : HasToldNewest inner s m) (did : DoesTask inner (does (caches load_cache)) m n) where
  -- what began, with the cache that was taken up
  abbrev pub with_taken : Seen P E
  with_taken = record (at life s) { held = record s.held { cache = n.held.cache } }

  held_is : n.held ≡ record s.held { cache = n.held.cache; watches = n.held.watches }
  held_is = did.0.same ∙ ap (λ (h : Held). record h { cache = n.held.cache; watches = n.held.watches }) (ap (λ (y : Scene). y.held) told.same)

  heard_is : n.heard ≡ m.heard
  heard_is = ap (λ (y : Scene). y.heard) did.3

  pub start_cuts : (config : Config) (chain : Chain) (waiting : Waiting) → IsSetTo config s.life.sizes epochs inner → IsLawfulStep config chain (node_of with_taken buffer waiting) (life_started None ∷ [])
      → (x : Ending) (heard : Heard) → Breaks inner n (repairs buffer ∷ filling_plan) x heard → CutsStep config chain (node_of with_taken buffer waiting) (life_started None ∷ []) s.heard heard x
  start_cuts config chain waiting set step x heard breaks =
      subst (λ k. CutsStep config chain k (life_started None ∷ []) s.heard heard x) node_is
      (filling-cut config chain inner set.inner_is s n buffer waiting did.2 did.0.loaded (ap (λ h. h.certs) held_is) (subst (λ k. IsLawfulStep config chain k (life_started None ∷ [])) (sym node_is) step)
      (subst (λ (h : Heard). Hears s.heard.reports (newest_tips inner s.life.tip (newest s.held.certs.held)) h.reports) (sym heard_is) told.tips) same x heard breaks)
    where
      node_is : node_at (record s { held = n.held }) buffer waiting ≡ node_of with_taken buffer waiting
      node_is = ap (λ h. node_at (record s { held = h }) buffer waiting) held_is

      same : n ≡ record s { held = n.held; life = record s.life { tip = newest_tip s.life.tip (newest s.held.certs.held) }; heard = record s.heard { reports = n.heard.reports } }
      same = did.3 ∙ (ap (λ (y : Scene). record y { held = n.held }) told.same
          ∙ ap (λ (h : Heard). record s { held = n.held; life = record s.life { tip = newest_tip s.life.tip (newest s.held.certs.held) }; heard = record s.heard { reports = h.reports } }) (sym heard_is))

-- What breaks a start behind the cache that it took up keeps what is promised of a start: it is cut where it took up its cache.

-- where nothing is held there is nothing to tell
pub told-none : (inner : List ℕ → List ℕ) (s : Scene) → newest s.held.certs.held ≡ None → HasToldNewest inner s s
told-none inner s is = record {
  tips = subst (λ o. Hears s.heard.reports (newest_tips inner s.life.tip o) s.heard.reports) (sym is) (Hears-nothing s.heard.reports);
  same = ap (λ o. record s { life = record s.life { tip = newest_tip s.life.tip o } }) (sym is);
}

pub told-some : (inner : List ℕ → List ℕ) (s m : Scene) (x : At Finalization) → newest s.held.certs.held ≡ Some x → DoesTask inner (does (says (tell x.value.round x.height (inner x.value.payload)))) s m → HasToldNewest inner s m
told-some inner s m x is (tips, same) = record {
  tips = subst (λ o. Hears s.heard.reports (newest_tips inner s.life.tip o) m.heard.reports) (sym is) tips;
  same = same ∙ ap (λ o. record s { life = record s.life { tip = newest_tip s.life.tip o }; heard = record s.heard { reports = m.heard.reports } }) (sym is);
}

module _ {P E : Type 0} (life : Remembered P E) (epochs : Epochs) (inner : List ℕ → List ℕ) (buffer : List Block) (s m n : Scene) (told : HasToldNewest inner s m) (did : DoesTask inner (does (caches load_cache)) m n) where
  cache_is : m.held.cache ≡ s.held.cache
  cache_is = ap (λ (y : Scene). y.held.cache) told.same

  pub start_broke : (x : Ending) (heard : Heard) → Breaks inner n (repairs buffer ∷ filling_plan) x heard → KeepsStart epochs inner (at life s) (life_started None ∷ []) buffer s.heard heard (Err x)
  start_broke x heard breaks fresh config chain waiting set step = record {
    begun = node_of (with_taken life epochs inner buffer s m n told did) buffer waiting;
    takes = inr (record { cache = n.held.cache.kept; loads = loaded; by_luck = picked; syncs = n.held.cache.syncs; still_open = subst (λ (c : HeldCache). AreStillOpen none_goes c.syncs n.held.cache.syncs) cache_is did.0.still_open; begun_is = refl });
    cuts = start_cuts life epochs inner buffer s m n told did config chain waiting set (IsLawfulStep-begun config chain (at life s) n.held.cache buffer waiting loaded step) x heard breaks;
  }
    where
      loaded : LoadsEntries s.held.cache.kept n.held.cache.kept
      loaded = subst (λ (c : HeldCache). LoadsEntries c.kept n.held.cache.kept) cache_is (did.0.loads (ap (λ (c : HeldCache). c.fresh) cache_is ∙ fresh))

      picked : ArePicked s.held.cache.finds n.held.cache.kept.held
      picked = subst (λ (c : HeldCache). ArePicked c.finds n.held.cache.kept.held) cache_is (did.0.by_luck (ap (λ (c : HeldCache). c.fresh) cache_is ∙ fresh))
