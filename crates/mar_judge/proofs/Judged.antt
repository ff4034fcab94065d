-- Deliveries that are judged one after another.
use Rattle.std.proofs.Common.{Bool, IsTrue, List, Some, [], ap, append_assoc, false, filter, map, not, refl, subst, sym, true, ℕ, ◌++◌, ◌↔◌, ◌∙◌, ◌∷◌, ◌≡◌}
use Rattle.std.proofs.lemmas.Bool.{false≢true}
use Rattle.std.proofs.lemmas.List.{append-nil, map-append}
use Rattle.std.proofs.lemmas.List.Elements.{filter-append}
use Rattle.mar_types.specs.Epochs.{containing}
use Rattle.mar_cert.specs.Finalization.{Finalization}
use Rattle.mar_key.specs.Keys.{Annotation, Key, block_key, finalized_key, notarized_key}
use Rattle.mar_key.specs.PeerQueue.{PeerMessage, deliver, produce}
use Rattle.mar_model.specs.Config.{Config}
use Rattle.mar_model.specs.Judge.{ComesToVerdict, Delivery, IsFinalizedAnswer, is_delivery, message_of}
use Rattle.mar_judge.specs.Entered.{AreEntriesOf, Entry, IsEntryOf, JudgedAll, JudgedSoFar, TellsOne}
use Rattle.mar_judge.specs.EntryViews.{is_waiting}
use Rattle.mar_judge.specs.Found.{IsFinal, IsPlacedAs, Place, final_at, finished, notarized_at}
use Rattle.mar_judge.specs.Rules.{Claim, Rules, settled}
use Rattle.mar_judge.specs.Views.{JudgesEach, Verdict, verdict_of}

module _ (rules : Rules) (config : Config) (claims : List (List Claim)) where
  waits_iff : (key : Key) (bytes : List ℕ) (annotations : List Annotation) (place : Place) → IsPlacedAs rules config claims key bytes annotations place
      → IsTrue (is_waiting place) ↔ ComesToVerdict rules.reading (settled rules config) key bytes
  waits_iff (block_key c) bytes annotations (finished outcome answer) is = (λ t. absurd (false≢true t), λ d. absurd (is.1 d))
  waits_iff (finalized_key h) bytes annotations (finished outcome answer) is = (λ t. absurd (false≢true t), λ d. absurd (is.1 d))
  waits_iff (notarized_key r) bytes annotations (finished outcome answer) is = (λ t. absurd (false≢true t), λ d. absurd (is.1 d))
  waits_iff (block_key c) bytes annotations (final_at g p b) is = absurd is
  waits_iff (finalized_key h) bytes annotations (final_at g p b) is = (λ t. (is.4, is.0, b, checked is.0 is.1 is.3 is.5), λ d. refl)
    where
      checked : (f : Finalization) (e : ℕ) → containing rules.epochs h ≡ Some e → IsFinal rules e h bytes f b → IsFinalizedAnswer rules.reading (settled rules config) h bytes f b
      checked f e there final = record {
        read = final.read;
        block = final.block;
        exactly = final.exactly;
        epoch = there ∙ ap (λ n. Some n) (sym final.epoch_is);
        height = final.height_is;
        digest = final.digest_is;
      }
  waits_iff (notarized_key r) bytes annotations (final_at g p b) is = absurd is
  waits_iff (block_key c) bytes annotations (notarized_at g p rest) is = absurd is
  waits_iff (finalized_key h) bytes annotations (notarized_at g p rest) is = absurd is
  waits_iff (notarized_key r) bytes annotations (notarized_at g p rest) is = (λ t. (is.2, is.0, rest, is.3.read, is.3.spelled, is.3.round_is, is.3.passes), λ d. refl)

  abbrev pub Tells : Entry → List Verdict → List Verdict → Type 0
  Tells e old new = (bytes : List ℕ) (annotations : List Annotation) → IsPlacedAs rules config claims e.key bytes annotations e.place → TellsOne rules config bytes annotations e.ticket e.key old new

  -- one more is judged
  module _ (before : List PeerMessage) (first second : List Verdict) (so_far : JudgedSoFar rules.reading (settled rules config) before first second) (e : Entry) where
    abbrev made : (bytes : List ℕ) (annotations : List Annotation) (old new : List Verdict) → IsPlacedAs rules config claims e.key bytes annotations e.place
        → TellsOne rules config bytes annotations e.ticket e.key old new
        → Delivery rules.reading (settled rules config)
    made bytes annotations old new placed told = record {
      ticket = e.ticket;
      key = e.key;
      bytes = bytes;
      annotations = annotations;
      answer = told.answer;
      outcome = told.outcome;
      judges = told.judges;
      needs_verdict = is_waiting e.place;
      needs_verdict_is = waits_iff e.key bytes annotations e.place placed;
    }

    one_of : (p : Delivery rules.reading (settled rules config) → Bool) (d : Delivery rules.reading (settled rules config)) → p d ≡ true
        → map verdict_of (filter p (so_far.deliveries ++ d ∷ [])) ≡ map verdict_of (filter p so_far.deliveries) ++ verdict_of d ∷ []
    one_of p d is =
        ap (map verdict_of) (filter-append p so_far.deliveries (d ∷ []) ∙ ap (λ ds. filter p so_far.deliveries ++ ds) (kept p d is))
        ∙ map-append verdict_of (filter p so_far.deliveries) (d ∷ [])
      where
        kept : (p : Delivery rules.reading (settled rules config) → Bool) (d : Delivery rules.reading (settled rules config)) → p d ≡ true → filter p (d ∷ []) ≡ d ∷ []
        kept p d is = rw is refl

    none_of : (p : Delivery rules.reading (settled rules config) → Bool) (d : Delivery rules.reading (settled rules config)) → p d ≡ false
        → map verdict_of (filter p (so_far.deliveries ++ d ∷ [])) ≡ map verdict_of (filter p so_far.deliveries)
    none_of p d is =
        ap (map verdict_of) (filter-append p so_far.deliveries (d ∷ []) ∙ ap (λ ds. filter p so_far.deliveries ++ ds) (left p d is) ∙ append-nil (filter p so_far.deliveries))
      where
        left : (p : Delivery rules.reading (settled rules config) → Bool) (d : Delivery rules.reading (settled rules config)) → p d ≡ false → filter p (d ∷ []) ≡ []
        left p d is = rw is refl

    reads_more : (t : ℕ) (key : Key) (d : Delivery rules.reading (settled rules config)) (m : PeerMessage) → message_of d ≡ m → map message_of (so_far.deliveries ++ d ∷ []) ≡ before ++ m ∷ []
    reads_more t key d m is = map-append message_of so_far.deliveries (d ∷ []) ∙ ap (λ ms. ms ++ message_of d ∷ []) so_far.reads ∙ ap (λ x. before ++ x ∷ []) is

    pub judged_first : (m : PeerMessage) (now : List Verdict) → IsEntryOf rules config claims m e → is_waiting e.place ≡ false → Tells e first now
        → JudgedSoFar rules.reading (settled rules config) (before ++ m ∷ []) now second
    judged_first (produce t key) now is waits tells = absurd is
    judged_first (deliver t key bytes annotations) now is waits tells =
        let placed = subst (λ k. IsPlacedAs rules config claims k bytes annotations e.place) (sym is.1) is.2 in
        let told = tells bytes annotations placed in
        let d = made bytes annotations first now placed told in record {
          deliveries = so_far.deliveries ++ d ∷ [];
          reads = reads_more t key d (deliver t key bytes annotations) (ap (λ n. deliver n e.key bytes annotations) is.0 ∙ ap (λ k. deliver t k bytes annotations) is.1);
          first_are = told.told ∙ ap (λ vs. vs ++ verdict_of d ∷ []) so_far.first_are ∙ sym (one_of (λ d. not d.needs_verdict) d (ap not waits));
          second_are = so_far.second_are ∙ sym (none_of (λ d. d.needs_verdict) d waits);
        }

    pub judged_second : (m : PeerMessage) (now : List Verdict) → IsEntryOf rules config claims m e → is_waiting e.place ≡ true → Tells e second now
        → JudgedSoFar rules.reading (settled rules config) (before ++ m ∷ []) first now
    judged_second (produce t key) now is waits tells = absurd is
    judged_second (deliver t key bytes annotations) now is waits tells =
        let placed = subst (λ k. IsPlacedAs rules config claims k bytes annotations e.place) (sym is.1) is.2 in
        let told = tells bytes annotations placed in
        let d = made bytes annotations second now placed told in record {
          deliveries = so_far.deliveries ++ d ∷ [];
          reads = reads_more t key d (deliver t key bytes annotations) (ap (λ n. deliver n e.key bytes annotations) is.0 ∙ ap (λ k. deliver t k bytes annotations) is.1);
          first_are = so_far.first_are ∙ sym (none_of (λ d. not d.needs_verdict) d (ap not waits));
          second_are = told.told ∙ ap (λ vs. vs ++ verdict_of d ∷ []) so_far.second_are ∙ sym (one_of (λ d. d.needs_verdict) d waits);
        }

  -- some messages are judged, and these entries are those of the others
  abbrev pub Standing : List PeerMessage → List Entry → List Verdict → List Verdict → Type 0
  Standing messages entries first second = (done : List PeerMessage) × (rest : List PeerMessage) × (messages ≡ done ++ rest) × AreEntriesOf rules config claims rest entries
      × JudgedSoFar rules.reading (settled rules config) done first second

  turn_first : (messages done rest : List PeerMessage) (e : Entry) (entries : List Entry) (first second now : List Verdict) → messages ≡ done ++ rest
      → AreEntriesOf rules config claims rest (e ∷ entries) → JudgedSoFar rules.reading (settled rules config) done first second → is_waiting e.place ≡ false → Tells e first now
      → Standing messages entries now second
  turn_first messages done [] e entries first second now is are so_far waits tells = absurd are
  turn_first messages done (m ∷ rest) e entries first second now is are so_far waits tells =
      (done ++ m ∷ [], rest, is ∙ sym (append_assoc done (m ∷ []) rest), are.1, judged_first done first second so_far e m now are.0 waits tells)

  turn_second : (messages done rest : List PeerMessage) (e : Entry) (entries : List Entry) (first second now : List Verdict) → messages ≡ done ++ rest
      → AreEntriesOf rules config claims rest (e ∷ entries) → JudgedSoFar rules.reading (settled rules config) done first second → is_waiting e.place ≡ true → Tells e second now
      → Standing messages entries first now
  turn_second messages done [] e entries first second now is are so_far waits tells = absurd are
  turn_second messages done (m ∷ rest) e entries first second now is are so_far waits tells =
      (done ++ m ∷ [], rest, is ∙ sym (append_assoc done (m ∷ []) rest), are.1, judged_second done first second so_far e m now are.0 waits tells)

  pub turned_first : (messages : List PeerMessage) (all entries : List Entry) (e : Entry) (first second now : List Verdict) → Standing messages all first second → all ≡ e ∷ entries
      → is_waiting e.place ≡ false
      → Tells e first now → Standing messages entries now second
  turned_first messages all entries e first second now standing next waits tells =
      turn_first messages standing.0 standing.1 e entries first second now standing.2 (subst (λ es. AreEntriesOf rules config claims standing.1 es) next standing.3) standing.4 waits tells

  pub turned_second : (messages : List PeerMessage) (all entries : List Entry) (e : Entry) (first second now : List Verdict) → Standing messages all first second → all ≡ e ∷ entries
      → is_waiting e.place ≡ true
      → Tells e second now → Standing messages entries first now
  turned_second messages all entries e first second now standing next waits tells =
      turn_second messages standing.0 standing.1 e entries first second now standing.2 (subst (λ es. AreEntriesOf rules config claims standing.1 es) next standing.3) standing.4 waits tells

  pub stands_first : (messages : List PeerMessage) (entries : List Entry) → AreEntriesOf rules config claims messages entries → Standing messages entries [] []
  stands_first messages entries are = ([], messages, refl, are, record { deliveries = []; reads = refl; first_are = refl; second_are = refl })

  pub stands_last : (messages : List PeerMessage) (entries : List Entry) (first second all : List Verdict) → entries ≡ [] → Standing messages entries first second → all ≡ first ++ second
      → JudgedAll rules.reading (settled rules config) messages all
  stands_last messages entries first second all none standing is = record {
    first = first;
    second = second;
    judged = subst (λ ms. JudgedSoFar rules.reading (settled rules config) ms first second) (sym (standing.2 ∙ ended standing.1 (subst
        (λ es. AreEntriesOf rules config claims standing.1 es) none standing.3))) standing.4;
    are = is;
  }
    where
      ended : (rest : List PeerMessage) → AreEntriesOf rules config claims rest [] → standing.0 ++ rest ≡ standing.0
      ended [] are = append-nil standing.0
      ended (m ∷ rest) are = absurd are

-- all are judged
pub judges_each : (rules : Rules) (config : Config) (messages : List PeerMessage) (verdicts : List Verdict) → JudgedAll rules.reading (settled rules config) (filter is_delivery messages) verdicts
    → JudgesEach rules.reading (settled rules config) messages verdicts
judges_each rules config messages verdicts all = let judged = all.judged in record {
  deliveries = judged.deliveries;
  reads = judged.reads;
  are = all.are ∙ ap (λ vs. vs ++ all.second) judged.first_are ∙ ap (λ vs. map verdict_of (filter (λ d. not d.needs_verdict) judged.deliveries) ++ vs) judged.second_are
      ∙ sym (map-append verdict_of (filter (λ d. not d.needs_verdict) judged.deliveries) (filter (λ d. d.needs_verdict) judged.deliveries));
}
