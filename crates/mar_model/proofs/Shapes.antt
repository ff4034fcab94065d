-- What a plan may give, end in and tell: read off the plan, whatever ran it.
use Rattle.std.specs.Prelude.{⊤}
use Rattle.std.proofs.Common.{◌≡◌, ◌⊎◌, inl, inr, ◌∷◌, [], List, Option, None, Some, Bool, true, false, cond, nat_lt, map, IsTrue, ◌++◌, ℕ, refl, sym, ◌∙◌, ap, append_assoc, subst}
use Rattle.std.specs.List.{AllByRecursion}
use Rattle.std.proofs.lemmas.List.{map-append}
use Rattle.mar_types.specs.Round.{Round}
use Rattle.mar_key.specs.Hears.{Hears}
use Rattle.mar_model.specs.Faults.{Fault, ack_kind, is_by_value, ticket_limit}
use Rattle.mar_model.specs.Held.{Ending, Held, IsArchiveFault, Remembered, Seen}
use Rattle.mar_model.specs.Moves.{handed_report, tips_above}
use Rattle.mar_model.specs.Promise.{Heard}
use Rattle.mar_model.specs.Step.{HandedBlock, Report, handed_over, new_tip}
use Rattle.mar_model.specs.Told.{AreFillTips}
use Rattle.mar_model.proofs.Acting.{IsPassAct, broke-passes, ran-passes}
use Rattle.mar_model.proofs.Cutting.{never, unstarted_plain, usual_from_archive, usual_not_by_value}
use Rattle.mar_model.proofs.Handing.{Hears-nothing, Hears-then}
use Rattle.mar_model.specs.Acts.{Act, IsKeepFault, ask, caches, finish_kept, finish_sync, keep_certified, keep_notarization, keep_notarized, keep_verified, keeps_for, load_cache, mark, note, process, progresses, put_finalization, reply, says, send, start_sync, store, store_block, store_late, stores, sync_progress, sync_writes, tell, IsDone, IsLost}
use Rattle.mar_model.specs.Ran.{Breaks, BreaksActs, DoesTask, FailsTask, Reads, Runs, RunsActs, Task, dispatches, does, ends, repairs}
use Rattle.mar_model.specs.Scene.{Scene, remembered}

-- a scene as contracts see it, in the life of a provider and an epocher
abbrev pub seen_at : {P E : Type 0} → Remembered P E → Scene → Seen P E
seen_at life s = record { held = s.held; life = remembered life.provider life.epocher s.life; certified = s.standing.known }

-- THE FAULT THAT A PLAN ENDS IN

abbrev pub due_in : List Task → Option Fault
due_in [] = None
due_in (does a ∷ plan) = due_in plan
due_in (repairs buffer ∷ plan) = due_in plan
due_in (dispatches ∷ plan) = due_in plan
due_in (ends fault ∷ plan) = Some fault

keep_plain : (epoch : ℕ) (held : Held) (fault : Fault) → IsKeepFault epoch held fault → is_by_value fault ≡ false
keep_plain epoch held fault (inl usual) = usual_not_by_value fault usual
keep_plain epoch held fault (inr (limit, last, high)) = ap is_by_value limit

act_plain : (a : Act) (s : Scene) (x : Ending) (heard : Heard) → IsLost a s x heard → is_by_value x.fault ≡ false
act_plain (caches (put_finalization f)) s x heard (loses, usual, same) = usual_not_by_value x.fault usual
act_plain (caches (keep_notarization f)) s x heard (loses, kind, same) = keep_plain _ s.held x.fault kind
act_plain (caches (keep_notarized r b)) s x heard (loses, kind, same) = keep_plain _ s.held x.fault kind
act_plain (caches load_cache) s x heard (loses, usual, same) = usual_not_by_value x.fault usual
act_plain (keeps_for (keep_verified r b t)) s x heard (loses, kind, same) = keep_plain _ s.held x.fault kind
act_plain (keeps_for (keep_certified r b t)) s x heard (loses, kind, same) = keep_plain _ s.held x.fault kind
act_plain (keeps_for (finish_kept t)) s x heard (loses, usual, same) = usual_not_by_value x.fault usual
act_plain (stores (store f b)) s x heard (loses, archive, same) = usual_not_by_value x.fault (usual_from_archive x.fault archive)
act_plain (stores (store_block b)) s x heard (loses, archive, same) = usual_not_by_value x.fault (usual_from_archive x.fault archive)
act_plain (stores sync_writes) s x heard (loses, archive, same) = usual_not_by_value x.fault (usual_from_archive x.fault archive)
act_plain (stores (store_late f b)) s x heard (loses, archive, same) = usual_not_by_value x.fault (usual_from_archive x.fault archive)
act_plain (stores start_sync) s x heard (loses, kind, same) = (unstarted_plain x.fault kind).0
act_plain (stores (finish_sync t)) s x heard (loses, archive, same) = usual_not_by_value x.fault (usual_from_archive x.fault archive)
act_plain (progresses (note r)) s x heard (loses, usual, asks, same) = usual_not_by_value x.fault usual
act_plain (progresses (mark ticket m)) s x heard fails = absurd fails
act_plain (progresses (process h)) s x heard (loses, usual, asks, same) = usual_not_by_value x.fault usual
act_plain (progresses sync_progress) s x heard (loses, usual, same) = usual_not_by_value x.fault usual
act_plain (says (tell r h d)) s x heard (is, told, same) = ap (λ (y : Ending). is_by_value y.fault) is
act_plain (says (ask calls)) s x heard (is, asked, same) = ap (λ (y : Ending). is_by_value y.fault) is
act_plain (says (send z)) s x heard (is, sent, same) = ap (λ (y : Ending). is_by_value y.fault) is
act_plain (says (reply a)) s x heard (is, same) = ap (λ (y : Ending). is_by_value y.fault) is

row_plain : (inner : List ℕ → List ℕ) (acts : List Act) (s : Scene) (x : Ending) (heard : Heard) → BreaksActs inner s acts x heard → is_by_value x.fault ≡ false
row_plain inner [] s x heard fails = usual_not_by_value x.fault fails.usual
row_plain inner (a ∷ acts) s x heard (inl fails) = usual_not_by_value x.fault fails.usual
row_plain inner (a ∷ acts) s x heard (inr (mid, reads, inl lost)) = act_plain a mid x heard lost
row_plain inner (a ∷ acts) s x heard (inr (mid, reads, inr (after, did, breaks))) = row_plain inner acts after x heard breaks

stopped_plain : {T : Type 0} (fault : Fault) → IsArchiveFault fault ⊎ ((fault ≡ ticket_limit ack_kind) × T) → is_by_value fault ≡ false
stopped_plain fault (inl archive) = usual_not_by_value fault (usual_from_archive fault archive)
stopped_plain fault (inr (is, last)) = ap is_by_value is

-- what went on ended in none
pub Runs-undue : (inner : List ℕ → List ℕ) (plan : List Task) (s t : Scene) → Runs inner s plan t → due_in plan ≡ None
Runs-undue inner [] s t runs = refl
Runs-undue inner (does a ∷ plan) s t (mid, after, reads, did, runs) = Runs-undue inner plan after t runs
Runs-undue inner (repairs buffer ∷ plan) s t (mid, after, reads, did, runs) = Runs-undue inner plan after t runs
Runs-undue inner (dispatches ∷ plan) s t (mid, after, reads, did, runs) = Runs-undue inner plan after t runs
Runs-undue inner (ends fault ∷ plan) s t (mid, after, reads, did, runs) = absurd did

usual-due : (due : Option Fault) (fault : Fault) → is_by_value fault ≡ false → IsTrue (is_by_value fault) → due ≡ Some fault
usual-due due fault plain is = absurd (never (is_by_value fault) plain is)

-- and what ended by value in the one that was due
pub Breaks-due : (inner : List ℕ → List ℕ) (plan : List Task) (s : Scene) (x : Ending) (heard : Heard) → Breaks inner s plan x heard → IsTrue (is_by_value x.fault)
    → due_in plan ≡ Some x.fault
Breaks-due inner [] s x heard fails = usual-due None x.fault (usual_not_by_value x.fault fails.usual)
Breaks-due inner (k ∷ plan) s x heard (inl fails) = usual-due (due_in (k ∷ plan)) x.fault (usual_not_by_value x.fault fails.usual)
Breaks-due inner (does a ∷ plan) s x heard (inr (mid, reads, inl fails)) = usual-due (due_in plan) x.fault (act_plain a mid x heard fails)
Breaks-due inner (does a ∷ plan) s x heard (inr (mid, reads, inr (after, did, breaks))) = Breaks-due inner plan after x heard breaks
Breaks-due inner (repairs buffer ∷ plan) s x heard (inr (mid, reads, inl fails)) = usual-due (due_in plan) x.fault (row_plain inner _ mid x heard fails.broke)
Breaks-due inner (repairs buffer ∷ plan) s x heard (inr (mid, reads, inr (after, did, breaks))) = Breaks-due inner plan after x heard breaks
Breaks-due inner (dispatches ∷ plan) s x heard (inr (mid, reads, inl fails)) = usual-due (due_in plan) x.fault (stopped_plain x.fault fails.stops.kind)
Breaks-due inner (dispatches ∷ plan) s x heard (inr (mid, reads, inr (after, did, breaks))) = Breaks-due inner plan after x heard breaks
Breaks-due inner (ends fault ∷ plan) s x heard (inr (mid, reads, inl (is, same))) = λ by. ap Some (sym (ap (λ (y : Ending). y.fault) is))
Breaks-due inner (ends fault ∷ plan) s x heard (inr (mid, reads, inr (after, did, breaks))) = absurd did

-- WHAT A PLAN TELLS

pub data Says : Type 0 where
  quietly : Says
  telling : Round → ℕ → List ℕ → Says
  filling : Says  -- a pass of repair
  handing : Says

abbrev pub said : Task → Says
said (does (caches a)) = quietly
said (does (keeps_for a)) = quietly
said (does (stores a)) = quietly
said (does (progresses a)) = quietly
said (does (says (tell r h d))) = telling r h d
said (does (says (ask calls))) = quietly
said (does (says (send x))) = quietly
said (does (says (reply a))) = quietly
said (repairs buffer) = filling
said dispatches = handing
said (ends fault) = quietly

-- no tip is told
abbrev pub Untold : List Says → Type 0
Untold [] = ⊤
Untold (quietly ∷ xs) = Untold xs
Untold (telling r h d ∷ xs) = ⊥
Untold (filling ∷ xs) = ⊥
Untold (handing ∷ xs) = Untold xs

-- at most one pass of repair, before anything is handed over
abbrev pub FillsInOrder : List Says → Type 0
FillsInOrder [] = ⊤
FillsInOrder (quietly ∷ xs) = FillsInOrder xs
FillsInOrder (telling r h d ∷ xs) = ⊥
FillsInOrder (filling ∷ xs) = Untold xs
FillsInOrder (handing ∷ xs) = Untold xs

-- and at most one tip before that
abbrev pub InOrder : List Says → Type 0
InOrder [] = ⊤
InOrder (quietly ∷ xs) = InOrder xs
InOrder (telling r h d ∷ xs) = FillsInOrder xs
InOrder (filling ∷ xs) = Untold xs
InOrder (handing ∷ xs) = Untold xs

-- whether there is such a pass
abbrev pub fills_in : List Says → Bool
fills_in [] = false
fills_in (quietly ∷ xs) = fills_in xs
fills_in (telling r h d ∷ xs) = fills_in xs
fills_in (filling ∷ xs) = true
fills_in (handing ∷ xs) = false

pub untold_unfilled : (xs : List Says) → Untold xs → IsTrue (fills_in xs) → ⊥
untold_unfilled [] untold fills = absurd (let no : false ≡ true = fills in cc)
untold_unfilled (quietly ∷ xs) untold fills = untold_unfilled xs untold fills
untold_unfilled (telling r h d ∷ xs) untold fills = untold
untold_unfilled (filling ∷ xs) untold fills = untold
untold_unfilled (handing ∷ xs) untold fills = absurd (let no : false ≡ true = fills in cc)

abbrev pub tips_in : ℕ → List Says → List Report
tips_in tip [] = []
tips_in tip (quietly ∷ xs) = tips_in tip xs
tips_in tip (telling r h d ∷ xs) = tips_above tip r h d
tips_in tip (filling ∷ xs) = []
tips_in tip (handing ∷ xs) = []

-- tips of blocks that were filled in
abbrev FillsTold : Option (List Report) → Option (List Report) → Type 0
FillsTold told told' = (fills : List Report) × AreFillTips true fills × Hears told fills told'

-- what is heard where it is done, and where it fails
abbrev SaidDone : Says → Scene → Scene → Type 0
SaidDone quietly s t = (t.heard.reports ≡ s.heard.reports) × (t.life.tip ≡ s.life.tip)
SaidDone (telling r h d) s t = Hears s.heard.reports (tips_above s.life.tip r h d) t.heard.reports
SaidDone filling s t = FillsTold s.heard.reports t.heard.reports
SaidDone handing s t = (handed : List HandedBlock) × Hears s.heard.reports (map handed_report handed) t.heard.reports

abbrev SaidLost : Says → Scene → Heard → Type 0
SaidLost quietly s heard = heard.reports ≡ s.heard.reports
SaidLost (telling r h d) s heard = Hears s.heard.reports [] heard.reports
SaidLost filling s heard = FillsTold s.heard.reports heard.reports
SaidLost handing s heard = (handed : List HandedBlock) × Hears s.heard.reports (map handed_report handed) heard.reports

reads_told : (s t : Scene) → Reads s t → t.heard.reports ≡ s.heard.reports
reads_told s t reads = ap (λ (y : Scene). y.heard.reports) reads.same

reads_tip : (s t : Scene) → Reads s t → t.life.tip ≡ s.life.tip
reads_tip s t reads = ap (λ (y : Scene). y.life.tip) reads.same

-- WHAT A PASS OF REPAIR TELLS

fills_none : (told told' : Option (List Report)) → told' ≡ told → FillsTold told told'
fills_none told told' same = ([], tt, subst (λ r. Hears told [] r) (sym same) (Hears-nothing told))

fill_tips-append : (xs ys : List Report) → AreFillTips true xs → AreFillTips true ys → AreFillTips true (xs ++ ys)
fill_tips-append [] ys first second = second
fill_tips-append (new_tip r h d ∷ xs) ys first second = (first.0, fill_tips-append xs ys first.1 second)
fill_tips-append (handed_over t b ∷ xs) ys first second = absurd first

fills_then : (told told1 told' : Option (List Report)) → FillsTold told told1 → FillsTold told1 told' → FillsTold told told'
fills_then told told1 told' (xs, first, heard) (ys, second, then_heard) = (xs ++ ys, fill_tips-append xs ys first second, Hears-then told told1 told' xs ys heard then_heard)

above_fills : (tip : ℕ) (r : Round) (h : ℕ) (d : List ℕ) → AreFillTips true (tips_above tip r h d)
above_fills tip r h d = by (nat_lt tip h)
  where
    by : (c : Bool) → AreFillTips true (cond c (new_tip r h d ∷ []) [])
    by true = (refl, tt)
    by false = tt

module _ (inner : List ℕ → List ℕ) where
  act_fills : (a : Act) (s t : Scene) → IsPassAct a → IsDone inner a s t → FillsTold s.heard.reports t.heard.reports
  act_fills (stores a) s t is (done, joins, law, same) = fills_none _ _ (ap (λ (y : Scene). y.heard.reports) same)
  act_fills (says (tell r h d)) s t is (heard, same) = (tips_above s.life.tip r h d, above_fills s.life.tip r h d, heard)
  act_fills (says (ask calls)) s t is (heard, same) = fills_none _ _ (ap (λ (y : Scene). y.heard.reports) same)
  act_fills _ s t is did = absurd is

  act_unfilled : (a : Act) (s : Scene) (x : Ending) (heard : Heard) → IsPassAct a → IsLost a s x heard → FillsTold s.heard.reports heard.reports
  act_unfilled (stores a) s x heard is (loses, kind, same) = fills_none _ _ (ap (λ (y : Heard). y.reports) same)
  act_unfilled (says (tell r h d)) s x heard is (ended, told, same) = ([], tt, told)
  act_unfilled (says (ask calls)) s x heard is (ended, asked, same) = fills_none _ _ (ap (λ (y : Heard). y.reports) same)
  act_unfilled _ s x heard is fails = absurd is

  row_fills : (acts : List Act) (s t : Scene) → AllByRecursion IsPassAct acts → RunsActs inner s acts t → FillsTold s.heard.reports t.heard.reports
  row_fills [] s t are reads = fills_none _ _ (reads_told s t reads)
  row_fills (a ∷ acts) s t are (mid, after, reads, did, runs) =
      subst (λ r. FillsTold r t.heard.reports) (reads_told s mid reads) (fills_then _ _ _ (act_fills a mid after are.0 did) (row_fills acts after t are.1 runs))

  row_unfilled : (acts : List Act) (s : Scene) (x : Ending) (heard : Heard) → AllByRecursion IsPassAct acts → BreaksActs inner s acts x heard
      → FillsTold s.heard.reports heard.reports
  row_unfilled [] s x heard are fails = fills_none _ _ (ap (λ (y : Heard). y.reports) fails.same)
  row_unfilled (a ∷ acts) s x heard are (inl fails) = fills_none _ _ (ap (λ (y : Heard). y.reports) fails.same)
  row_unfilled (a ∷ acts) s x heard are (inr (mid, reads, inl lost)) = subst (λ r. FillsTold r heard.reports) (reads_told s mid reads) (act_unfilled a mid x heard are.0 lost)
  row_unfilled (a ∷ acts) s x heard are (inr (mid, reads, inr (after, did, breaks))) =
      subst (λ r. FillsTold r heard.reports) (reads_told s mid reads) (fills_then _ _ _ (act_fills a mid after are.0 did) (row_unfilled acts after x heard are.1 breaks))

-- WHAT A TASK TELLS

still : (s t u : Scene) → t ≡ u → (u.heard.reports ≡ s.heard.reports) × (u.life.tip ≡ s.life.tip) → (t.heard.reports ≡ s.heard.reports) × (t.life.tip ≡ s.life.tip)
still s t u same is = (ap (λ (y : Scene). y.heard.reports) same ∙ is.0, ap (λ (y : Scene). y.life.tip) same ∙ is.1)

task_done : (inner : List ℕ → List ℕ) (k : Task) (s t : Scene) → DoesTask inner k s t → SaidDone (said k) s t
task_done inner (does (caches a)) s t (is, joins, law, same) = still s t _ same (refl, refl)
task_done inner (does (keeps_for a)) s t (answered, is, joins, law, same) = still s t _ same (refl, refl)
task_done inner (does (stores a)) s t (is, joins, law, same) = still s t _ same (refl, refl)
task_done inner (does (progresses (note r))) s t (is, law, heard, same) = still s t _ same (refl, refl)
task_done inner (does (progresses (mark ticket m))) s t same = still s t _ same (refl, refl)
task_done inner (does (progresses (process h))) s t (is, joins, law, heard, same) = still s t _ same (refl, refl)
task_done inner (does (progresses sync_progress)) s t (is, law, same) = still s t _ same (refl, refl)
task_done inner (does (says (tell r h d))) s t (heard, same) = heard
task_done inner (does (says (ask calls))) s t (heard, same) = still s t _ same (refl, refl)
task_done inner (does (says (send x))) s t (heard, same) = still s t _ same (refl, refl)
task_done inner (does (says (reply a))) s t same = still s t _ same (refl, refl)
task_done inner (repairs buffer) s t pass = let (acts, are, ran) = ran-passes inner buffer s t pass in row_fills inner acts s t are ran
task_done inner dispatches s t hands = (hands.handed, hands.heard)
task_done inner (ends fault) s t did = absurd did

lost_heard : (s : Scene) (heard h : Heard) → heard ≡ h → h.reports ≡ s.heard.reports → heard.reports ≡ s.heard.reports
lost_heard s heard h same is = ap (λ (y : Heard). y.reports) same ∙ is

task_lost : (inner : List ℕ → List ℕ) (k : Task) (s : Scene) (x : Ending) (heard : Heard) → FailsTask inner k s x heard → SaidLost (said k) s heard
task_lost inner (does (caches a)) s x heard (loses, kind, same) = lost_heard s heard _ same refl
task_lost inner (does (keeps_for a)) s x heard (loses, kind, same) = lost_heard s heard _ same refl
task_lost inner (does (stores a)) s x heard (loses, kind, same) = lost_heard s heard _ same refl
task_lost inner (does (progresses (note r))) s x heard (loses, kind, asks, same) = lost_heard s heard _ same refl
task_lost inner (does (progresses (mark ticket m))) s x heard fails = absurd fails
task_lost inner (does (progresses (process h))) s x heard (loses, kind, asks, same) = lost_heard s heard _ same refl
task_lost inner (does (progresses sync_progress)) s x heard (loses, kind, same) = lost_heard s heard _ same refl
task_lost inner (does (says (tell r h d))) s x heard (is, told, same) = told
task_lost inner (does (says (ask calls))) s x heard (is, asked, same) = lost_heard s heard _ same refl
task_lost inner (does (says (send y))) s x heard (is, sent, same) = lost_heard s heard _ same refl
task_lost inner (does (says (reply a))) s x heard (is, same) = lost_heard s heard _ same refl
task_lost inner (repairs buffer) s x heard pass = let (acts, are, broke) = broke-passes inner buffer s x heard pass in row_unfilled inner acts s x heard are broke
task_lost inner dispatches s x heard stops = (stops.handed, stops.told)
task_lost inner (ends fault) s x heard (is, same) = lost_heard s heard _ same refl

abbrev Handed : Option (List Report) → Option (List Report) → Type 0
Handed told told' = (handed : List HandedBlock) × Hears told (map handed_report handed) told'

handed_none : (told : Option (List Report)) → Handed told told
handed_none told = ([], Hears-nothing told)

handed_then : (told told1 told' : Option (List Report)) → Handed told told1 → Handed told1 told' → Handed told told'
handed_then told told1 told' (first, heard) (second, then_heard) = (
  first ++ second,
  subst (λ rs. Hears told rs told') (sym (map-append handed_report first second))
      (Hears-then told told1 told' (map handed_report first) (map handed_report second) heard then_heard),
)

untold_done : (says : Says) (rest : List Says) (s t : Scene) → Untold (says ∷ rest) → SaidDone says s t → Handed s.heard.reports t.heard.reports × Untold rest
untold_done quietly rest s t untold is = (subst (λ r. Handed s.heard.reports r) (sym is.0) (handed_none s.heard.reports), untold)
untold_done (telling r h d) rest s t untold is = absurd untold
untold_done filling rest s t untold is = absurd untold
untold_done handing rest s t untold is = (is, untold)

untold_lost : (says : Says) (rest : List Says) (s : Scene) (heard : Heard) → Untold (says ∷ rest) → SaidLost says s heard → Handed s.heard.reports heard.reports
untold_lost quietly rest s heard untold is = subst (λ r. Handed s.heard.reports r) (sym is) (handed_none s.heard.reports)
untold_lost (telling r h d) rest s heard untold is = absurd untold
untold_lost filling rest s heard untold is = absurd untold
untold_lost handing rest s heard untold is = is

-- a plan that tells no tip only hands over
Runs-untold : (inner : List ℕ → List ℕ) (plan : List Task) (s t : Scene) → Untold (map said plan) → Runs inner s plan t → Handed s.heard.reports t.heard.reports
Runs-untold inner [] s t untold reads = subst (λ r. Handed s.heard.reports r) (sym (reads_told s t reads)) (handed_none s.heard.reports)
Runs-untold inner (k ∷ plan) s t untold (mid, after, reads, did, runs) =
    let (first, rest) = untold_done (said k) (map said plan) mid after untold (task_done inner k mid after did) in
    subst (λ r. Handed r t.heard.reports) (reads_told s mid reads) (handed_then mid.heard.reports after.heard.reports t.heard.reports first (Runs-untold inner plan after t rest runs))

fails_told : (s : Scene) (heard : Heard) → heard ≡ s.heard → Handed s.heard.reports heard.reports
fails_told s heard same = subst (λ (h : Heard). Handed s.heard.reports h.reports) (sym same) (handed_none s.heard.reports)

Breaks-untold : (inner : List ℕ → List ℕ) (plan : List Task) (s : Scene) (x : Ending) (heard : Heard) → Untold (map said plan) → Breaks inner s plan x heard
    → Handed s.heard.reports heard.reports
Breaks-untold inner [] s x heard untold fails = fails_told s heard fails.same
Breaks-untold inner (k ∷ plan) s x heard untold (inl fails) = fails_told s heard fails.same
Breaks-untold inner (k ∷ plan) s x heard untold (inr (mid, reads, inl fails)) = subst (λ r. Handed r heard.reports) (reads_told s mid reads)
    (untold_lost (said k) (map said plan) mid heard untold (task_lost inner k mid x heard fails))
Breaks-untold inner (k ∷ plan) s x heard untold (inr (mid, reads, inr (after, did, breaks))) =
    let (first, rest) = untold_done (said k) (map said plan) mid after untold (task_done inner k mid after did) in
    subst (λ r. Handed r heard.reports) (reads_told s mid reads) (handed_then mid.heard.reports after.heard.reports heard.reports first (Breaks-untold inner plan after x heard rest breaks))

-- tips, then those of blocks that are filled in, where any may be, and then what is handed over
abbrev pub Tells : Bool → Option (List Report) → List Report → Option (List Report) → Type 0
Tells may told tips told' = (fills : List Report) × AreFillTips may fills × (handed : List HandedBlock) × Hears told (tips ++ fills ++ map handed_report handed) told'

abbrev pub TellsOr : Bool → Option (List Report) → List Report → Option (List Report) → Type 0
TellsOr may told tips told' =
    (fills : List Report) × AreFillTips may fills × (handed : List HandedBlock) × (Hears told [] told' ⊎ Hears told (tips ++ fills ++ map handed_report handed) told')

handed_tells : (may : Bool) (told told' : Option (List Report)) → Handed told told' → Tells may told [] told'
handed_tells may told told' (handed, heard) = ([], tt, handed, heard)

filled_tells : (told told1 told' : Option (List Report)) → FillsTold told told1 → Handed told1 told' → Tells true told [] told'
filled_tells told told1 told' (fills, are, heard) (handed, hands) = (fills, are, handed, Hears-then told told1 told' fills (map handed_report handed) heard hands)

tells_then : (may : Bool) (told told1 told' : Option (List Report)) (tips : List Report) → Hears told tips told1 → Tells may told1 [] told' → Tells may told tips told'
tells_then may told told1 told' tips heard (fills, are, handed, rest) = (fills, are, handed, subst (λ rs. Hears told rs told') (sym (append_assoc tips fills (map handed_report handed))) (Hears-then told told1 told' tips (fills ++ map handed_report handed) heard rest))

or_told : (may : Bool) (told told' : Option (List Report)) (tips : List Report) → Tells may told tips told' → TellsOr may told tips told'
or_told may told told' tips (fills, are, handed, heard) = (fills, are, handed, inr heard)

or_none : (may : Bool) (told told' : Option (List Report)) (tips : List Report) → Hears told [] told' → TellsOr may told tips told'
or_none may told told' tips heard = ([], tt, [], inl heard)

-- A PLAN BEHIND ITS TIP: it fills in, and hands over

fills_done : (says : Says) (rest : List Says) (s t : Scene) (told' : Option (List Report)) → FillsInOrder (says ∷ rest) → SaidDone says s t
    → (Untold rest → Handed t.heard.reports told') → (FillsInOrder rest → Tells (fills_in rest) t.heard.reports [] told') → Tells (fills_in (says ∷ rest)) s.heard.reports [] told'
fills_done quietly rest s t told' order is hands fills = subst (λ r. Tells (fills_in rest) r [] told') is.0 (fills order)
fills_done (telling r h d) rest s t told' order is hands fills = absurd order
fills_done filling rest s t told' order is hands fills = filled_tells s.heard.reports t.heard.reports told' is (hands order)
fills_done handing rest s t told' order is hands fills = handed_tells false s.heard.reports told' (handed_then s.heard.reports t.heard.reports told' is (hands order))

fills_lost : (says : Says) (rest : List Says) (s : Scene) (heard : Heard) → FillsInOrder (says ∷ rest) → SaidLost says s heard
    → Tells (fills_in (says ∷ rest)) s.heard.reports [] heard.reports
fills_lost quietly rest s heard order is = handed_tells (fills_in rest) s.heard.reports heard.reports
    (subst (λ r. Handed s.heard.reports r) (sym is) (handed_none s.heard.reports))
fills_lost (telling r h d) rest s heard order is = absurd order
fills_lost filling rest s heard order is = filled_tells s.heard.reports heard.reports heard.reports is (handed_none heard.reports)
fills_lost handing rest s heard order is = handed_tells false s.heard.reports heard.reports is

Runs-fills : (inner : List ℕ → List ℕ) (plan : List Task) (s t : Scene) → FillsInOrder (map said plan) → Runs inner s plan t
    → Tells (fills_in (map said plan)) s.heard.reports [] t.heard.reports
Runs-fills inner [] s t order reads = handed_tells false s.heard.reports t.heard.reports (Runs-untold inner [] s t tt reads)
Runs-fills inner (k ∷ plan) s t order (mid, after, reads, did, runs) =
    subst (λ r. Tells (fills_in (map said (k ∷ plan))) r [] t.heard.reports) (reads_told s mid reads)
    (fills_done (said k) (map said plan) mid after t.heard.reports order (task_done inner k mid after did) (λ untold. Runs-untold inner plan after t untold runs)
    (λ left. Runs-fills inner plan after t left runs))

Breaks-fills : (inner : List ℕ → List ℕ) (plan : List Task) (s : Scene) (x : Ending) (heard : Heard) → FillsInOrder (map said plan) → Breaks inner s plan x heard
    → Tells (fills_in (map said plan)) s.heard.reports [] heard.reports
Breaks-fills inner [] s x heard order fails = handed_tells false s.heard.reports heard.reports (fails_told s heard fails.same)
Breaks-fills inner (k ∷ plan) s x heard order (inl fails) = handed_tells (fills_in (map said (k ∷ plan))) s.heard.reports heard.reports (fails_told s heard fails.same)
Breaks-fills inner (k ∷ plan) s x heard order (inr (mid, reads, inl fails)) =
    subst (λ r. Tells (fills_in (map said (k ∷ plan))) r [] heard.reports) (reads_told s mid reads)
    (fills_lost (said k) (map said plan) mid heard order (task_lost inner k mid x heard fails))
Breaks-fills inner (k ∷ plan) s x heard order (inr (mid, reads, inr (after, did, breaks))) =
    subst (λ r. Tells (fills_in (map said (k ∷ plan))) r [] heard.reports) (reads_told s mid reads)
    (fills_done (said k) (map said plan) mid after heard.reports order (task_done inner k mid after did)
    (λ untold. Breaks-untold inner plan after x heard untold breaks) (λ left. Breaks-fills inner plan after x heard left breaks))

-- A WHOLE PLAN: its tip, what it fills in, and what it hands over

runs_tells : (says : Says) (rest : List Says) (s t : Scene) (told' : Option (List Report)) → InOrder (says ∷ rest) → SaidDone says s t → (Untold rest → Handed t.heard.reports told')
    → (FillsInOrder rest → Tells (fills_in rest) t.heard.reports [] told') → (InOrder rest → Tells (fills_in rest) t.heard.reports (tips_in t.life.tip rest) told')
    → Tells (fills_in (says ∷ rest)) s.heard.reports (tips_in s.life.tip (says ∷ rest)) told'
runs_tells quietly rest s t told' order is hands fills tells = subst (λ r. Tells (fills_in rest) r (tips_in s.life.tip rest) told') is.0
    (subst (λ k. Tells (fills_in rest) t.heard.reports (tips_in k rest) told') is.1 (tells order))
runs_tells (telling r h d) rest s t told' order is hands fills tells =
    tells_then (fills_in rest) s.heard.reports t.heard.reports told' (tips_above s.life.tip r h d) is (fills order)
runs_tells filling rest s t told' order is hands fills tells = filled_tells s.heard.reports t.heard.reports told' is (hands order)
runs_tells handing rest s t told' order is hands fills tells =
    handed_tells false s.heard.reports told' (handed_then s.heard.reports t.heard.reports told' is (hands order))

pub Runs-tells : (inner : List ℕ → List ℕ) (plan : List Task) (s t : Scene) → InOrder (map said plan) → Runs inner s plan t
    → Tells (fills_in (map said plan)) s.heard.reports (tips_in s.life.tip (map said plan)) t.heard.reports
Runs-tells inner [] s t order reads = handed_tells false s.heard.reports t.heard.reports (Runs-untold inner [] s t tt reads)
Runs-tells inner (k ∷ plan) s t order (mid, after, reads, did, runs) =
    subst (λ r. Tells (fills_in (map said (k ∷ plan))) r (tips_in s.life.tip (map said (k ∷ plan))) t.heard.reports) (reads_told s mid reads)
    (subst (λ i. Tells (fills_in (map said (k ∷ plan))) mid.heard.reports (tips_in i (map said (k ∷ plan))) t.heard.reports) (reads_tip s mid reads)
    (runs_tells (said k) (map said plan) mid after t.heard.reports order (task_done inner k mid after did) (λ untold. Runs-untold inner plan after t untold runs)
    (λ left. Runs-fills inner plan after t left runs) (λ left. Runs-tells inner plan after t left runs)))

broke_tells : (says : Says) (rest : List Says) (s t : Scene) (told' : Option (List Report)) → InOrder (says ∷ rest) → SaidDone says s t → (Untold rest → Handed t.heard.reports told')
    → (FillsInOrder rest → Tells (fills_in rest) t.heard.reports [] told') → (InOrder rest → TellsOr (fills_in rest) t.heard.reports (tips_in t.life.tip rest) told')
    → TellsOr (fills_in (says ∷ rest)) s.heard.reports (tips_in s.life.tip (says ∷ rest)) told'
broke_tells quietly rest s t told' order is hands fills tells = subst (λ r. TellsOr (fills_in rest) r (tips_in s.life.tip rest) told') is.0
    (subst (λ k. TellsOr (fills_in rest) t.heard.reports (tips_in k rest) told') is.1 (tells order))
broke_tells (telling r h d) rest s t told' order is hands fills tells = or_told (fills_in rest) s.heard.reports told' (tips_above s.life.tip r h d)
    (tells_then (fills_in rest) s.heard.reports t.heard.reports told' (tips_above s.life.tip r h d) is (fills order))
broke_tells filling rest s t told' order is hands fills tells = or_told true s.heard.reports told' [] (filled_tells s.heard.reports t.heard.reports told' is (hands order))
broke_tells handing rest s t told' order is hands fills tells =
    or_told false s.heard.reports told' [] (handed_tells false s.heard.reports told' (handed_then s.heard.reports t.heard.reports told' is (hands order)))

lost_tells : (says : Says) (rest : List Says) (s : Scene) (heard : Heard) → InOrder (says ∷ rest) → SaidLost says s heard
    → TellsOr (fills_in (says ∷ rest)) s.heard.reports (tips_in s.life.tip (says ∷ rest)) heard.reports
lost_tells quietly rest s heard order is = or_none (fills_in rest) s.heard.reports heard.reports (tips_in s.life.tip rest)
    (subst (λ r. Hears s.heard.reports [] r) (sym is) (Hears-nothing s.heard.reports))
lost_tells (telling r h d) rest s heard order is = or_none (fills_in rest) s.heard.reports heard.reports (tips_above s.life.tip r h d) is
lost_tells filling rest s heard order is = or_told true s.heard.reports heard.reports [] (fills_lost filling rest s heard order is)
lost_tells handing rest s heard order is = or_told false s.heard.reports heard.reports [] (handed_tells false s.heard.reports heard.reports is)

fails_tells : (may : Bool) (s : Scene) (tips : List Report) (heard : Heard) → heard ≡ s.heard → TellsOr may s.heard.reports tips heard.reports
fails_tells may s tips heard same = or_none may s.heard.reports heard.reports tips
    (subst (λ (h : Heard). Hears s.heard.reports [] h.reports) (sym same) (Hears-nothing s.heard.reports))

-- what broke told nothing, or its tip, some of what it filled in, and then what it handed over
pub Breaks-tells : (inner : List ℕ → List ℕ) (plan : List Task) (s : Scene) (x : Ending) (heard : Heard) → InOrder (map said plan) → Breaks inner s plan x heard
    → TellsOr (fills_in (map said plan)) s.heard.reports (tips_in s.life.tip (map said plan)) heard.reports
Breaks-tells inner [] s x heard order fails = fails_tells false s [] heard fails.same
Breaks-tells inner (k ∷ plan) s x heard order (inl fails) = fails_tells (fills_in (map said (k ∷ plan))) s (tips_in s.life.tip (map said (k ∷ plan))) heard fails.same
Breaks-tells inner (k ∷ plan) s x heard order (inr (mid, reads, how)) =
    subst (λ r. TellsOr (fills_in (map said (k ∷ plan))) r (tips_in s.life.tip (map said (k ∷ plan))) heard.reports) (reads_told s mid reads)
    (subst (λ i. TellsOr (fills_in (map said (k ∷ plan))) mid.heard.reports (tips_in i (map said (k ∷ plan))) heard.reports) (reads_tip s mid reads)
    (by (λ after left breaks. Breaks-tells inner plan after x heard left breaks) how))
  where
    by : ((after : Scene) → InOrder (map said plan) → Breaks inner after plan x heard → TellsOr (fills_in (map said plan)) after.heard.reports (tips_in after.life.tip (map said plan)) heard.reports)
        → FailsTask inner k mid x heard ⊎ ((after : Scene) × DoesTask inner k mid after × Breaks inner after plan x heard)
        → TellsOr (fills_in (map said (k ∷ plan))) mid.heard.reports (tips_in mid.life.tip (map said (k ∷ plan))) heard.reports
    by again (inl fails) = lost_tells (said k) (map said plan) mid heard order (task_lost inner k mid x heard fails)
    by again (inr (after, did, breaks)) = broke_tells (said k) (map said plan) mid after heard.reports order (task_done inner k mid after did)
        (λ untold. Breaks-untold inner plan after x heard untold breaks) (λ left. Breaks-fills inner plan after x heard left breaks)
        (λ left. again after left breaks)

-- tips that may be filled in where any may be
pub fill_tips-may : (a b : Bool) → (IsTrue a → IsTrue b) → (fills : List Report) → AreFillTips a fills → AreFillTips b fills
fill_tips-may a b more [] are = tt
fill_tips-may a b more (new_tip r h d ∷ fills) are = (more are.0, fill_tips-may a b more fills are.1)
fill_tips-may a b more (handed_over t x ∷ fills) are = absurd are

-- A PLAN THAT SAYS NOTHING

abbrev pub Mute : List Says → Type 0
Mute [] = ⊤
Mute (quietly ∷ xs) = Mute xs
Mute _ = ⊥

mute_done : (says : Says) (rest : List Says) (s t : Scene) → Mute (says ∷ rest) → SaidDone says s t → (t.heard.reports ≡ s.heard.reports) × Mute rest
mute_done quietly rest s t mute is = (is.0, mute)
mute_done _ rest s t mute is = absurd mute

mute_lost : (says : Says) (rest : List Says) (s : Scene) (heard : Heard) → Mute (says ∷ rest) → SaidLost says s heard → heard.reports ≡ s.heard.reports
mute_lost quietly rest s heard mute is = is
mute_lost _ rest s heard mute is = absurd mute

pub Breaks-mute : (inner : List ℕ → List ℕ) (plan : List Task) (s : Scene) (x : Ending) (heard : Heard) → Mute (map said plan) → Breaks inner s plan x heard → heard.reports ≡ s.heard.reports
Breaks-mute inner [] s x heard mute fails = ap (λ (h : Heard). h.reports) fails.same
Breaks-mute inner (k ∷ plan) s x heard mute (inl fails) = ap (λ (h : Heard). h.reports) fails.same
Breaks-mute inner (k ∷ plan) s x heard mute (inr (mid, reads, inl fails)) = mute_lost (said k) (map said plan) mid heard mute (task_lost inner k mid x heard fails) ∙ reads_told s mid reads
Breaks-mute inner (k ∷ plan) s x heard mute (inr (mid, reads, inr (after, did, breaks))) =
    let (first, rest) = mute_done (said k) (map said plan) mid after mute (task_done inner k mid after did) in
    Breaks-mute inner plan after x heard rest breaks ∙ (first ∙ reads_told s mid reads)
