-- The asks that are open with peers stay honest: a `Finalized` annotation stands on a chain block's commitment alone.
use Rattle.std.proofs.Common.{◌≡◌, ◌⊎◌, inl, inr, ⊎_elim, ◌-◌, ℕ, List, [], ◌∷◌, ◌++◌, Bool, true, false, not, ◌||◌, if◌then◌else◌, Option, Some, None, IsTrue, filter, fold, refl, subst}
use Rattle.std.proofs.lemmas.Bool.{or_right}
use Rattle.std.specs.Bool.{⊤}
use Rattle.std.specs.List.{AllByRecursion, list_any}
use Rattle.mar_types.specs.Epochs.{Epochs}
use Rattle.mar_types.specs.Round.{Round}
use Rattle.mar_key.specs.Processed.{Processed}
use Rattle.mar_key.specs.Keys.{Annotation, Call, Key, Retain, above_height, above_round, annotation_eq, block_key, certified_at, fetch, finalized_by_height, finalized_by_round, for_notarization, untrusted_at, finalized_key, is_denied, is_finalized, key_eq, notarized_key, retain}
use Rattle.mar_key.specs.Cutoff.{Cutoff, covers, cutoff_le, greatest_of}
use Rattle.mar_model.specs.Acks.{Outstanding}
use Rattle.mar_store.proofs.Lookups.{AllByRecursion-append}
use Rattle.mar_model.specs.Config.{Config}
use Rattle.mar_model.specs.Event.{Effect, Event, applies_floor, awaits_floor, drained_blocks, floor_cutoffs, is_above, message_told, met_cutoffs, met_finalization, no_floor, retired}
use Rattle.mar_model.specs.Promise.{ReportsFinalized}
use Rattle.mar_model.specs.Answers.{at_hand_digest, is_known}
use Rattle.mar_cert.specs.Block.{Block}
use Rattle.mar_cert.specs.Finalization.{Finalization}
use Rattle.mar_store.specs.Kept.{At, value_at}
use Rattle.mar_model.specs.Messages.{Fallback, fetch_by_commitment, fetch_by_round, hint_finalized, hint_notarized, report_finalization, subscribe_commitment, subscribe_digest, wait}
use Rattle.mar_model.specs.Requests.{fallback_asks, height_asks, hint_asks, notarized_asks, notarized_hint_asks, own_asks, permits_height, raise_asks, reported_asks, retire_asks, told_asks, want_asks}
use Rattle.mar_key.specs.Asked.{Asked, Judged, Outcome, after_ask, after_outcome, asked_after, judged_complete, judged_ignored, judged_invalid, with_annotation, with_fetch, with_retain, without_empty}
use Rattle.mar_model.specs.Chain.{Chain}
use Rattle.mar_model.specs.Node.{AreHonest, HonestAsk, IsFinalized, Node, at_hand}
use Rattle.mar_model.proofs.AtHand.{bytes_same}

-- an ask that would be honest alone
abbrev pub HonestCall : Chain → Call → Type 0
HonestCall chain (fetch key annotation targets) = HonestAsk chain key (annotation ∷ [])
HonestCall chain (retain keep) = ⊤

-- with fewer `Finalized` annotations
pub HonestAsk-fewer : (chain : Chain) (key : Key) (more fewer : List Annotation) → (IsTrue (list_any is_finalized fewer) → IsTrue (list_any is_finalized more)) → HonestAsk chain key more → HonestAsk chain key fewer
HonestAsk-fewer chain (block_key c) more fewer has honest = λ some. honest (has some)
HonestAsk-fewer chain (finalized_key h) more fewer has honest = tt
HonestAsk-fewer chain (notarized_key r) more fewer has honest = tt

or_more : (c a d : Bool) → (a ≡ true → d ≡ true) → (c || a) ≡ true → (c || d) ≡ true
or_more true a d more e = refl
or_more false a d more e = more e

any-filter : (test keep : Annotation → Bool) (xs : List Annotation) → list_any test (filter keep xs) ≡ true → list_any test xs ≡ true
any-filter test keep [] e = e
any-filter test keep (x ∷ xs) e = by (keep x) e (any-filter test keep xs)
  where
    by : (b : Bool) → list_any test (if b then x ∷ filter keep xs else filter keep xs) ≡ true → (list_any test (filter keep xs) ≡ true → list_any test xs ≡ true) → (test x || list_any test xs) ≡ true
    by true p others = or_more (test x) (list_any test (filter keep xs)) (list_any test xs) others p
    by false p others = or_right (test x) (list_any test xs) (others p)

any-append : (test : Annotation → Bool) (xs ys : List Annotation) → list_any test (xs ++ ys) ≡ true → (list_any test xs ≡ true) ⊎ (list_any test ys ≡ true)
any-append test [] ys e = inr e
any-append test (x ∷ xs) ys e = by (test x) e (any-append test xs ys)
  where
    by : (b : Bool) → (b || list_any test (xs ++ ys)) ≡ true → (list_any test (xs ++ ys) ≡ true → (list_any test xs ≡ true) ⊎ (list_any test ys ≡ true)) → ((b || list_any test xs) ≡ true) ⊎ (list_any test ys ≡ true)
    by true p others = inl refl
    by false p others = others p

HonestAsk-append : (chain : Chain) (key : Key) (xs ys : List Annotation) → HonestAsk chain key xs → HonestAsk chain key ys → HonestAsk chain key (xs ++ ys)
HonestAsk-append chain (block_key c) xs ys p q = λ some. ⊎_elim p q (any-append is_finalized xs ys some)
HonestAsk-append chain (finalized_key h) xs ys p q = tt
HonestAsk-append chain (notarized_key r) xs ys p q = tt

HonestAsk-with_annotation : (chain : Chain) (key : Key) (a : Annotation) (xs : List Annotation) → HonestAsk chain key xs → HonestAsk chain key (a ∷ []) → HonestAsk chain key (with_annotation a xs)
HonestAsk-with_annotation chain key a xs p q = by (list_any (annotation_eq a) xs)
  where
    by : (b : Bool) → HonestAsk chain key (if b then xs else xs ++ a ∷ [])
    by true = p
    by false = HonestAsk-append chain key xs (a ∷ []) p q

key_eq-turned : (chain : Chain) (key other : Key) (annotations : List Annotation) → key_eq key other ≡ true → HonestAsk chain key annotations → HonestAsk chain other annotations
key_eq-turned chain (block_key c) (block_key d) annotations same honest = subst (λ e. HonestAsk chain (block_key e) annotations) (bytes_same c d same) honest
key_eq-turned chain (finalized_key h) (block_key d) annotations same honest = absurd cc
key_eq-turned chain (notarized_key r) (block_key d) annotations same honest = absurd cc
key_eq-turned chain key (finalized_key h) annotations same honest = tt
key_eq-turned chain key (notarized_key r) annotations same honest = tt

-- THE OPEN LIST

AreHonest-with_fetch : (chain : Chain) (key : Key) (a : Annotation) (asked : List Asked) → HonestAsk chain key (a ∷ []) → AreHonest chain asked → AreHonest chain (with_fetch key a asked)
AreHonest-with_fetch chain key a [] honest all = (honest, tt)
AreHonest-with_fetch chain key a (x ∷ xs) honest all = by (key_eq key x.key) refl (AreHonest-with_fetch chain key a xs honest all.1)
  where
    by : (b : Bool) → key_eq key x.key ≡ b → AreHonest chain (with_fetch key a xs) → AreHonest chain (if b then record x { annotations = with_annotation a x.annotations } ∷ xs else x ∷ with_fetch key a xs)
    by true same others = (HonestAsk-with_annotation chain x.key a x.annotations all.0 (key_eq-turned chain key x.key (a ∷ []) same honest), all.1)
    by false other others = (all.0, others)

AreHonest-without_empty : (chain : Chain) (x : Asked) (xs : List Asked) → HonestAsk chain x.key x.annotations → AreHonest chain xs → AreHonest chain (without_empty x xs)
AreHonest-without_empty chain x xs honest all = by x.annotations
  where
    by : (annotations : List Annotation) → AreHonest chain (elim annotations as (λ z. List Asked) [ [] ↦ xs | ◌∷◌ a others ↦ x ∷ xs ])
    by [] = all
    by (a ∷ others) = (honest, all)

AreHonest-with_retain : (chain : Chain) (keep : Retain) (asked : List Asked) → AreHonest chain asked → AreHonest chain (with_retain keep asked)
AreHonest-with_retain chain keep [] all = tt
AreHonest-with_retain chain keep (x ∷ xs) all =
    AreHonest-without_empty chain (record x { annotations = filter (λ a. not (is_denied keep a)) x.annotations }) (with_retain keep xs)
    (HonestAsk-fewer chain x.key x.annotations (filter (λ a. not (is_denied keep a)) x.annotations) (λ some. any-filter is_finalized (λ a. not (is_denied keep a)) x.annotations some) all.0)
    (AreHonest-with_retain chain keep xs all.1)

AreHonest-after_ask : (chain : Chain) (asked : List Asked) (call : Call) → HonestCall chain call → AreHonest chain asked → AreHonest chain (after_ask asked call)
AreHonest-after_ask chain asked (fetch key annotation targets) honest all = AreHonest-with_fetch chain key annotation asked honest all
AreHonest-after_ask chain asked (retain keep) honest all = AreHonest-with_retain chain keep asked all

AreHonest-filter : (chain : Chain) (keep : Asked → Bool) (asked : List Asked) → AreHonest chain asked → AreHonest chain (filter keep asked)
AreHonest-filter chain keep [] all = tt
AreHonest-filter chain keep (x ∷ xs) all = by (keep x) (AreHonest-filter chain keep xs all.1)
  where
    by : (b : Bool) → AreHonest chain (filter keep xs) → AreHonest chain (if b then x ∷ filter keep xs else filter keep xs)
    by true others = (all.0, others)
    by false others = others

AreHonest-after_outcome : (chain : Chain) (asked : List Asked) (judged : Judged) → AreHonest chain asked → AreHonest chain (after_outcome asked judged)
AreHonest-after_outcome chain asked judged all = by judged.outcome
  where
    by : (o : Outcome) → AreHonest chain (elim o as (λ z. List Asked) [ judged_complete ↦ filter (λ x. not (key_eq judged.key x.key)) asked | judged_invalid ↦ asked | judged_ignored ↦ filter (λ x. not (key_eq judged.key x.key)) asked ])
    by judged_complete = AreHonest-filter chain (λ x. not (key_eq judged.key x.key)) asked all
    by judged_ignored = AreHonest-filter chain (λ x. not (key_eq judged.key x.key)) asked all
    by judged_invalid = all

after_outcomes : (chain : Chain) (asked : List Asked) (outcomes : List Judged) → AreHonest chain asked → AreHonest chain (fold after_outcome asked outcomes)
after_outcomes chain asked [] all = all
after_outcomes chain asked (j ∷ outcomes) all = after_outcomes chain (after_outcome asked j) outcomes (AreHonest-after_outcome chain asked j all)

after_asks : (chain : Chain) (asked : List Asked) (asks : List Call) → AllByRecursion (HonestCall chain) asks → AreHonest chain asked → AreHonest chain (fold after_ask asked asks)
after_asks chain asked [] calls all = all
after_asks chain asked (call ∷ asks) calls all = after_asks chain (after_ask asked call) asks calls.1 (AreHonest-after_ask chain asked call calls.0 all)

-- a line's outcomes and honest asks leave the open list honest
pub AreHonest-asked_after : (chain : Chain) (asked : List Asked) (outcomes : List Judged) (asks : List Call) → AllByRecursion (HonestCall chain) asks → AreHonest chain asked → AreHonest chain (asked_after asked outcomes asks)
AreHonest-asked_after chain asked outcomes asks calls all = after_asks chain (fold after_outcome asked outcomes) asks calls (after_outcomes chain asked outcomes all)

-- WHAT AN EVENT ASKS

raise_asks-honest : (chain : Chain) (cutoff : Cutoff) (cutoffs : List Cutoff) → AllByRecursion (HonestCall chain) (raise_asks cutoff cutoffs)
raise_asks-honest chain cutoff [] = tt
raise_asks-honest chain cutoff (c ∷ others) = by (cutoff_le c cutoff) (raise_asks-honest chain cutoff others) (raise_asks-honest chain c others)
  where
    by : (b : Bool) → AllByRecursion (HonestCall chain) (raise_asks cutoff others) → AllByRecursion (HonestCall chain) (raise_asks c others) → AllByRecursion (HonestCall chain) (if b then raise_asks cutoff others else retain (above_round c) ∷ raise_asks c others)
    by true low high = low
    by false low high = (tt, high)

retire_asks-honest : (epochs : Epochs) (chain : Chain) (certs : List (At Finalization)) (cutoff : Cutoff) (out : List Outstanding) → AllByRecursion (HonestCall chain) (retire_asks epochs certs cutoff out)
retire_asks-honest epochs chain certs cutoff [] = tt
retire_asks-honest epochs chain certs cutoff (a ∷ out) =
    (tt, AllByRecursion-append (HonestCall chain) (raise_asks cutoff (retired epochs certs a.height)) _ (raise_asks-honest chain cutoff (retired epochs certs a.height)) (retire_asks-honest epochs chain certs (greatest_of cutoff (retired epochs certs a.height)) out))

-- a finalized block's commitment may be asked for
pub want_asks-honest : (chain : Chain) (cutoff : Cutoff) (r : Round) (c : List ℕ) → IsFinalized chain r c → AllByRecursion (HonestCall chain) (want_asks cutoff r c)
want_asks-honest chain cutoff r c (h, final) = by (covers cutoff r)
  where
    by : (b : Bool) → AllByRecursion (HonestCall chain) (if b then [] else fetch (block_key c) (finalized_by_round r) None ∷ [])
    by true = tt
    by false = ((λ some. (h, final.payload_is)), tt)

-- a floor that is to be awaited is the chain's
abbrev pub AwaitsFinal : Chain → Effect → Type 0
AwaitsFinal chain (awaits_floor a) = IsFinalized chain a.round a.commitment
AwaitsFinal chain _ = ⊤

notarized_asks-honest : (chain : Chain) (n : Node) (r : Round) → AllByRecursion (HonestCall chain) (notarized_asks n r)
notarized_asks-honest chain n r = by (covers n.cutoff r)
  where
    by : (b : Bool) → AllByRecursion (HonestCall chain) (if b then [] else fetch (notarized_key r) (for_notarization r) None ∷ [])
    by true = tt
    by false = (tt, tt)

height_asks-honest : (chain : Chain) (processed : Option Processed) (key : Key) (annotation : Annotation) (h : ℕ) (targets : Option (List ℕ)) → HonestAsk chain key (annotation ∷ []) → AllByRecursion (HonestCall chain) (height_asks processed key annotation h targets)
height_asks-honest chain processed key annotation h targets honest = by (permits_height processed h)
  where
    by : (b : Bool) → AllByRecursion (HonestCall chain) (if b then fetch key annotation targets ∷ [] else [])
    by true = (honest, tt)
    by false = tt

reported_asks-honest : (chain : Chain) (n : Node) (f : Finalization) (b : Option Block) → IsFinalized chain f.round f.payload → AllByRecursion (HonestCall chain) (reported_asks n f b)
reported_asks-honest chain n f None final = want_asks-honest chain n.cutoff f.round f.payload final
reported_asks-honest chain n f (Some b) final = tt

pub hint_asks-honest : (chain : Chain) (processed : Option Processed) (h : ℕ) (peers : List ℕ) (f : Option Finalization) → AllByRecursion (HonestCall chain) (hint_asks processed h peers f)
hint_asks-honest chain processed h peers None = height_asks-honest chain processed (finalized_key h) (finalized_by_height h) h (Some peers) tt
hint_asks-honest chain processed h peers (Some f) = tt

notarized_hint_asks-honest : (chain : Chain) (n : Node) (r : Round) (b : Option Block) → AllByRecursion (HonestCall chain) (notarized_hint_asks n r b)
notarized_hint_asks-honest chain n r None = notarized_asks-honest chain n r
notarized_hint_asks-honest chain n r (Some b) = tt

fallback_asks-honest : (chain : Chain) (n : Node) (c : List ℕ) (fallback : Fallback) (b : Option Block) → AllByRecursion (HonestCall chain) (fallback_asks n c fallback b)
fallback_asks-honest chain n c fallback (Some b) = tt
fallback_asks-honest chain n c wait None = tt
fallback_asks-honest chain n c (fetch_by_round r) None = notarized_asks-honest chain n r
fallback_asks-honest chain n c (fetch_by_commitment h) None = height_asks-honest chain n.processed (block_key c) (if is_known n.certified h c then certified_at h else untrusted_at h) h None (unfinalized (is_known n.certified h c))
  where
    unfinalized : (b : Bool) → HonestAsk chain (block_key c) ((if b then certified_at h else untrusted_at h) ∷ [])
    unfinalized true = λ some. absurd cc
    unfinalized false = λ some. absurd cc

told_asks-honest : (chain : Chain) (n : Node) (e : Event) → ReportsFinalized chain e → AllByRecursion (HonestCall chain) (told_asks n e)
told_asks-honest chain n (message_told t (report_finalization f)) final = reported_asks-honest chain n f (at_hand n f.payload) final
told_asks-honest chain n (message_told t (hint_finalized h peers)) final = hint_asks-honest chain n.processed h peers (value_at n.certs.held h)
told_asks-honest chain n (message_told t (hint_notarized r d)) final = notarized_hint_asks-honest chain n r (at_hand n d)
told_asks-honest chain n (message_told t (subscribe_digest d fallback)) final = fallback_asks-honest chain n d fallback (at_hand_digest n d)
told_asks-honest chain n (message_told t (subscribe_commitment c fallback)) final = fallback_asks-honest chain n c fallback (at_hand n c)
told_asks-honest chain n (message_told t m) final = tt
told_asks-honest chain n e final = tt

-- so what an event asks is honest, where what it reports and awaits is the chain's
pub own_asks-honest : (config : Config) (chain : Chain) (n : Node) (e : Event) (fx : Effect) → ReportsFinalized chain e → AwaitsFinal chain fx → AllByRecursion (HonestCall chain) (own_asks config n e fx)
own_asks-honest config chain n e no_floor reports awaits =
    AllByRecursion-append (HonestCall chain) (retire_asks config.epochs n.certs.held n.cutoff (drained_blocks n e) ++ told_asks n e) _
    (AllByRecursion-append (HonestCall chain) (retire_asks config.epochs n.certs.held n.cutoff (drained_blocks n e)) (told_asks n e) (retire_asks-honest config.epochs chain n.certs.held n.cutoff (drained_blocks n e)) (told_asks-honest chain n e reports))
    (raise_asks-honest chain n.cutoff (met_cutoffs n (met_finalization n e) no_floor))
own_asks-honest config chain n e (awaits_floor a) reports awaits = want_asks-honest chain n.cutoff a.round a.commitment awaits
own_asks-honest config chain n e (applies_floor r b) reports awaits = AllByRecursion-append (HonestCall chain) (if is_above n b then retain (above_height (b.height - 1)) ∷ [] else []) _ (by (is_above n b)) (raise_asks-honest chain n.cutoff (floor_cutoffs config n (applies_floor r b)))
  where
    by : (c : Bool) → AllByRecursion (HonestCall chain) (if c then retain (above_height (b.height - 1)) ∷ [] else [])
    by true = (tt, tt)
    by false = tt
