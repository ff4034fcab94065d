-- What an event owns that drains nothing, and what breaks the plan of one that changes the cache alone: it is a cut of the event.
use Rattle.std.proofs.Common.{◌≡◌, ◌∷◌, [], ℕ, List, Err, true, false, option_map, refl, sym, ◌∙◌, ap₂, subst, le_refl}
use Rattle.mar_types.specs.Epochs.{Epochs}
use Rattle.mar_cert.specs.Block.{Block}
use Rattle.mar_store.specs.Changes.{Within}
use Rattle.mar_key.specs.Keys.{Call}
use Rattle.mar_key.specs.Processed.{first_unprocessed, height_in}
use Rattle.mar_model.specs.Answers.{answers_of, sends_of}
use Rattle.mar_model.specs.Acts.{AreLawful}
use Rattle.mar_model.specs.Cache.{entries_put}
use Rattle.mar_model.specs.Cached.{Cached}
use Rattle.mar_model.specs.Chain.{Chain}
use Rattle.mar_model.specs.Config.{Config}
use Rattle.mar_model.specs.Event.{Event, acked_to, drained_blocks, effect_of, no_floor, undrained_blocks}
use Rattle.mar_model.specs.Faults.{Fault, next_after}
use Rattle.mar_model.specs.Held.{Ending, Remembered, Written, written_entries}
use Rattle.mar_model.specs.Lives.{NotBelow, is_refused_floor}
use Rattle.mar_model.specs.Metadata.{pair_of}
use Rattle.mar_model.specs.Node.{AreCachedOf, BlocksAgree, ConsecutiveFrom, Node}
use Rattle.mar_model.specs.Promise.{Heard, IsGoodUntold, IsLawfulStep, IsSetTo, KeepsStep, Waiting}
use Rattle.mar_model.specs.Ran.{Breaks, Task}
use Rattle.mar_model.specs.Scene.{Scene}
use Rattle.mar_model.specs.Sound.{IsSafePair}
use Rattle.mar_model.specs.Step.{IsFront}
use Rattle.mar_model.proofs.CacheEvents.{LeavesArchives}
use Rattle.mar_model.proofs.CacheOver.{OwnCache}
use Rattle.mar_model.proofs.CutsRan.{Cuts-plan, IsOwned, OwnsWritten}
use Rattle.mar_model.proofs.EntryLists.{contains_none}
use Rattle.mar_model.proofs.Owns.{Owns, answers_in, asks_in, course_of, node_at, own_pair, pair_after, sends_in}
use Rattle.mar_model.proofs.Soundness.{own_pair_safe, untold}
use Rattle.mar_model.proofs.SyncPromise.{at}

module _ (config : Config) (chain : Chain) (start : Scene) (e : Event) (buffer : List Block) (waiting : Waiting) where
  abbrev n : Node
  n = node_at start buffer waiting

  -- An event that drains nothing and moves no floor, from a good node; a life may begin with the pair behind it.
  pub record DrainsNothing : Type 0 where
    pub no_effect : effect_of config n e ≡ no_floor
    pub unrefused : (fault : Fault) → is_refused_floor e fault ≡ false
    pub undrained : undrained_blocks n e ≡ n.out
    pub processed : acked_to n.processed (drained_blocks n e) ≡ n.processed
    pub good : IsGoodUntold config chain n
    pub safe : IsSafePair chain start.held.blocks.sure (pair_after config n e)

  pub IsOwned-undrained : DrainsNothing → (all : Written) → OwnsWritten config chain start e buffer waiting all → IsOwned config chain start e buffer waiting all
  IsOwned-undrained event all writes = record {
    no_effect = event.no_effect;
    unrefused = event.unrefused;
    good = event.good;
    safe = event.safe;
    rises = subst (λ p. NotBelow (option_map height_in start.held.processed) (option_map height_in p)) (sym event.processed) (le_refl (next_after (option_map height_in start.held.processed)));
    line = subst (λ p. ConsecutiveFrom (first_unprocessed p) (undrained_blocks n e)) (sym event.processed)
        (subst (ConsecutiveFrom (first_unprocessed start.held.processed)) (sym event.undrained) event.good.1.heights.delivery.consecutive);
    writes = writes;
  }

  -- entries of the cache alone
  pub OwnsWritten-cached : (put : List Cached) → OwnCache config chain n e put [] → OwnsWritten config chain start e buffer waiting (written_entries put)
  OwnsWritten-cached put own = record {
    unpruned = refl;
    certs_unpruned = refl;
    pairs = λ p has. contains_none p has;
    cache = own;
    of_blocks = tt;
    of_certs = tt;
    own_blocks = λ x has. contains_none x has;
    own_certs = λ x has. contains_none x has;
  }

  DrainsNothing-quiet : (calls : List Call) → LeavesArchives config n e calls → IsGoodUntold config chain n → DrainsNothing
  DrainsNothing-quiet calls quiet good = record {
    no_effect = quiet.effect;
    unrefused = quiet.unrefused;
    undrained = quiet.undrained;
    processed = quiet.processed;
    good = good;
    safe = subst (IsSafePair chain start.held.blocks.sure) (sym (ap₂ pair_of quiet.processed quiet.cutoff)) (own_pair_safe chain n good.1.heights.delivery.anchored good.1.of_chain.floor_safe);
  }

  -- What is to be known of an event that changes the cache alone: what its plan puts, asks, sends and answers is its own, and agrees
  -- with the chain.
  pub record IsQuiet (put : List Cached) (plan : List Task) : Type 0 where
    pub calls : List Call
    pub quiet : LeavesArchives config n e calls
    pub own : Within put (entries_put config n [] e no_floor)
    pub finalizations : AreCachedOf chain put
    pub blocks : BlocksAgree chain put
    pub owns : Owns config chain n e (written_entries put) start.life.sizes.retention (own_pair start) (course_of start) plan
    pub asks : asks_in start.held.cutoff plan ≡ calls
    pub sends : sends_in plan ≡ sends_of n e
    pub answers : (lowest : ℕ) × IsFront (answers_in start.held plan) (answers_of config n lowest e no_floor)

-- what breaks its plan
pub quiet_cut : {P E : Type 0} (life : Remembered P E) (epochs : Epochs) (inner : List ℕ → List ℕ) (buffer : List Block) (s : Scene) → AreLawful s.held
    → (e : Event) (put : List Cached) (plan : List Task)
    → (s.held.cache.loaded ≡ true → (config : Config) (chain : Chain) (waiting : Waiting) → IsSetTo config s.life.sizes epochs inner → IsLawfulStep config chain (node_at s buffer waiting) (e ∷ [])
    → IsQuiet config chain s e buffer waiting put plan)
    → (x : Ending) (heard : Heard) → Breaks inner s plan x heard → KeepsStep epochs inner (at life s) (e ∷ []) buffer s.heard heard (Err x)
quiet_cut life epochs inner buffer s law e put plan is_quiet x heard breaks loaded config chain waiting set step =
    let is = is_quiet loaded config chain waiting set step in
    Cuts-plan config chain s e buffer waiting (written_entries put) (IsOwned-undrained config chain s e buffer waiting
    (DrainsNothing-quiet config chain s e buffer waiting is.calls is.quiet (untold config chain (node_at s buffer waiting) e step.good)) (written_entries put)
    (OwnsWritten-cached config chain s e buffer waiting put (record { own = λ y has. ([], is.own y has); finalizations = is.finalizations; blocks = is.blocks; prunes_own = λ r has. contains_none r has }))
    ) inner plan law loaded (is.asks ∙ sym is.quiet.asks) is.sends is.answers is.owns x heard breaks
