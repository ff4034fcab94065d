-- Plans by what is held, and what runs behind a read.
use Rattle.std.proofs.Common.{◌≡◌, ◌<◌, ◌==◌, ◌∷◌, ◌++◌, [], List, Result, Ok, Err, Option, None, Some, Bool, true, false, cond, nat_lt, ℕ, arith, refl, sym, ◌∙◌, ap, append-nil, subst}
use Rattle.std.proofs.lemmas.Bool.Decides.{nat_tests}
use Rattle.mar_cert.specs.Block.{Block}
use Rattle.mar_cert.specs.Finalization.{Finalization}
use Rattle.mar_key.specs.Processed.{height_of}
use Rattle.mar_types.specs.Round.{Round}
use Rattle.mar_model.specs.Event.{Event, message_told}
use Rattle.mar_model.specs.Messages.{report_finalization}
use Rattle.mar_model.specs.Node.{CertifiedCommitment}
use Rattle.mar_model.specs.Faults.{Fault, height_limit, last_height}
use Rattle.mar_model.specs.Held.{Held, Remembered, ended_on, nothing_written}
use Rattle.mar_model.specs.Moves.{CachesFinalization, found_at_hand, is_verified_in}
use Rattle.mar_model.specs.Promise.{Heard}
use Rattle.mar_model.specs.Requests.{want_asks}
use Rattle.mar_model.proofs.CacheOver.{found_cached}
use Rattle.mar_model.specs.Acts.{Joins, ask, caches, put_finalization, says, start_sync, store, stores, tell}
use Rattle.mar_model.specs.Plans.{DoesEvent, RunsPlan, at_hand_plan, final_plan, found_by, found_of, kept_plan, let_go_plan, note_plan, plan_of, store_plan, sync_plan}
use Rattle.mar_model.specs.Ran.{Does, Reached, Task, dispatches, does, ends, repairs}
use Rattle.mar_model.specs.Scene.{Scene, Standing, Window, scene, window_of}
use Rattle.mar_model.proofs.Running.{Reached-first, Reached-last, Reached-read}

-- what does a plan behind a read, by what was read
pub Does-behind : {T C : Type 0} (inner : List ℕ → List ℕ) (fault : C → Fault) (plan read : List Task) (held one : Held) (life : Window) (standing : Standing) (heard : Heard) (new : Scene) (result : Result T C) → plan ≡ read → one ≡ record held { watches = one.watches } → Joins held nothing_written one → Does inner fault read (scene one life standing heard) new result → Does inner fault plan (scene held life standing heard) new result
Does-behind inner fault plan read held one life standing heard new result is same joins runs = λ start whole rest reached. runs start whole rest (Reached-read inner start whole (read ++ rest) _ _ (subst (λ p. Reached inner start whole (p ++ rest) (scene held life standing heard)) is reached) (record { joins = joins; same = ap (λ h. scene h life standing heard) same }))

-- the same plan in other words
pub replanned : (inner : List ℕ → List ℕ) (start : Scene) (whole rest : List Task) (s : Scene) (plan plan' : List Task) → plan ≡ plan' → Reached inner start whole (plan ++ rest) s → Reached inner start whole (plan' ++ rest) s
replanned inner start whole rest s plan plan' is reached = subst (λ p. Reached inner start whole (p ++ rest) s) is reached

pub store_plan-below : (buffer : List Block) (f : Finalization) (b : Block) → b.height < last_height
    → store_plan buffer f b ≡ does (stores (store f b)) ∷ does (says (tell f.round b.height b.digest)) ∷ repairs buffer ∷ does (stores start_sync) ∷ []
store_plan-below buffer f b below = rw is refl
  where
    is : (b.height == last_height) ≡ false
    is = grind (arith, nat_tests)

pub store_plan-last : (buffer : List Block) (f : Finalization) (b : Block) (height : ℕ) → height ≡ b.height → height ≡ last_height → store_plan buffer f b ≡ ends (height_limit height) ∷ []
store_plan-last buffer f b height own last = rw is (ap (λ h. ends (height_limit h) ∷ []) (sym own))
  where
    is : (b.height == last_height) ≡ true
    is = grind (arith, nat_tests)

module _ (buffer : List Block) (held one : Held) (same : one ≡ record held { watches = one.watches }) (f : Finalization) (found : Option Block) where
  pub plan-absent : None ≡ found → at_hand_plan buffer held f found ≡ does (says (ask (want_asks one.cutoff f.round f.payload))) ∷ []
  plan-absent none = ap (at_hand_plan buffer held f) (sym none) ∙ ap (λ h. does (says (ask (want_asks h.cutoff f.round f.payload))) ∷ []) (sym same)

  pub plan-above : (b : Block) → Some b ≡ found → nat_lt (height_of one.processed) b.height ≡ true → at_hand_plan buffer held f found ≡ store_plan buffer f b
  plan-above b is above = ap (at_hand_plan buffer held f) (sym is)
      ∙ ap (λ c. cond c (store_plan buffer f b) (note_plan held f b)) (ap (λ h. nat_lt (height_of h.processed) b.height) (sym same) ∙ above)

  pub plan-low : (b : Block) → Some b ≡ found → nat_lt (height_of one.processed) b.height ≡ false → at_hand_plan buffer held f found ≡ note_plan one f b
  plan-low b is low = ap (at_hand_plan buffer held f) (sym is)
      ∙ ap (λ c. cond c (store_plan buffer f b) (note_plan held f b)) (ap (λ h. nat_lt (height_of h.processed) b.height) (sym same) ∙ low) ∙ ap (λ h. note_plan h f b) (sym same)

-- a notarized block that isn't at hand is not kept
pub kept-absent : (r : Round) (h : Held) (o : Option Block) → None ≡ o → kept_plan r (found_of h r o) ≡ []
kept-absent r h o none = ap (λ p. kept_plan r (found_of h r p)) (sym none)

-- and one that is by whether it was verified, as a read left that
pub kept-found : (r : Round) (h one : Held) → one ≡ record h { watches = one.watches } → (o : Option Block) (b : Block) → Some b ≡ o → kept_plan r (found_of h r o) ≡ kept_plan r (record { block = Some b; is_verified = is_verified_in one r b })
kept-found r h one same o b is = ap (λ p. kept_plan r (found_of h r p)) (sym is) ∙ ap (λ k. kept_plan r (record { block = Some b; is_verified = is_verified_in k r b })) (sym same)

-- what was found is the block that was found
pub found_block : (h : Held) (r : Round) (o : Option Block) → (found_of h r o).block ≡ o
found_block h r None = refl
found_block h r (Some b) = refl

module _ (inner : List ℕ → List ℕ) (buffer : List Block) (f : Finalization) (before held : Held) (caching : CachesFinalization f before held) where
  abbrev at_hand_now : Option Block
  at_hand_now = found_at_hand inner buffer held.cache.kept.held held.blocks.held f.payload

  -- what is at hand once a finalization is cached was so before, where what a crash left was taken up
  pub found_before : before.cache.loaded ≡ true → found_of before f.round at_hand_now ≡ found_by inner buffer before (message_told None (report_finalization f))
  found_before loaded = ap (λ o. found_of before f.round o) (ap (λ h. found_at_hand inner buffer held.cache.kept.held h.blocks.held f.payload) caching.same ∙ found_cached inner f before held buffer before.blocks.held f.payload loaded caching)

  -- and so the plan goes on by what is held now
  pub plan-cached : final_plan buffer before f (found_of before f.round at_hand_now).block ≡ does (caches (put_finalization f)) ∷ at_hand_plan buffer held f at_hand_now
  plan-cached = ap (λ p. does (caches (put_finalization f)) ∷ p) (ap (at_hand_plan buffer before f) (found_block before f.round at_hand_now) ∙ (by at_hand_now ∙ sym (ap (λ h. at_hand_plan buffer h f at_hand_now) caching.same)))
    where
      by : (o : Option Block) → at_hand_plan buffer before f o ≡ at_hand_plan buffer (record before { cache = held.cache; watches = held.watches }) f o
      by None = refl
      by (Some b) = refl

module _ (inner : List ℕ → List ℕ) (start : Scene) (whole rest : List Task) (s : Scene) (t : ℕ) where
  pub still_open : (was_open : Bool) → was_open ≡ true → Reached inner start whole (sync_plan was_open t ++ rest) s → Reached inner start whole (let_go_plan was_open t ++ dispatches ∷ rest) s
  still_open true is reached = reached
  still_open false is reached = absurd (let no : false ≡ true = is in cc)

  pub never_open : (was_open : Bool) → was_open ≡ false → Reached inner start whole (sync_plan was_open t ++ rest) s → Reached inner start whole (let_go_plan was_open t ++ rest) s
  never_open true is reached = absurd (let no : true ≡ false = is in cc)
  never_open false is reached = reached

-- an event that does the plan of what it would find, where that tells no two plans apart
pub found_nothing : {T C : Type 0} (inner : List ℕ → List ℕ) (fault : C → Fault) (buffer : List Block) (e : Event) (old new : Scene) (result : Result T C) → Does inner fault (plan_of inner buffer old e (found_by inner buffer old.held e)) old new result → DoesEvent inner fault buffer e old new result
found_nothing inner fault buffer e old new result runs = record { found = found_by inner buffer old.held e; finds = λ loaded. refl; runs = runs }

-- WHAT A STEP RAN

module _ {P E C : Type 0} (inner : List ℕ → List ℕ) (fault : C → Fault) (buffer : List Block) (e : Event) (old : Scene) (held : Held) (heard : Heard) where
  pub ran_on : {T : Type 0} (life : Remembered P E) (certified : List CertifiedCommitment) (x : T) → DoesEvent {T = T} {C = C} inner fault buffer e old (scene held (window_of life) old.standing heard) (Ok x) → RunsPlan {P = P} {E = E} inner buffer e old heard (Ok (record { held = held; life = life; certified = certified }))
  ran_on life certified x did = record { found = did.found; finds = did.finds; ran = Reached-last inner old (plan_of inner buffer old e did.found) _ (did.runs old (plan_of inner buffer old e did.found) [] (subst (λ p. Reached inner old (plan_of inner buffer old e did.found) p old) (sym (append-nil (plan_of inner buffer old e did.found))) (Reached-first inner old (plan_of inner buffer old e did.found)))) }

  pub ran_into : {T : Type 0} (life : Window) (standing : Standing) (c : C) → DoesEvent {T = T} {C = C} inner fault buffer e old (scene held life standing heard) (Err c) → RunsPlan {P = P} {E = E} inner buffer e old heard (Err (ended_on (fault c) held))
  ran_into life standing c did = record { found = did.found; finds = did.finds; ran = did.runs old (plan_of inner buffer old e did.found) [] (subst (λ p. Reached inner old (plan_of inner buffer old e did.found) p old) (sym (append-nil (plan_of inner buffer old e did.found))) (Reached-first inner old (plan_of inner buffer old e did.found))) }
