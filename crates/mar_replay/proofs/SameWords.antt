-- Equal fields are shown by equal words.
use Rattle.std.proofs.Common.{Err, List, Ok, Option, Result, Some, [], ap, append_assoc, map, option_map, sym, ℕ, ◌++◌, ◌∙◌, ◌∷◌, ◌≡◌}
use Rattle.std.proofs.lemmas.List.{append-nil}
use Rattle.std.proofs.lemmas.List.Folds.{flat_map-map}
use Rattle.std.specs.List.{flat_map}
use Rattle.std.specs.Prelude.{OnOk, codes, decimal}
use Rattle.mar_key.specs.Asked.{Asked}
use Rattle.mar_store.specs.Changes.{heights}
use Rattle.mar_model.specs.Metadata.{Pair, first_pair}
use Rattle.mar_model.specs.Node.{Ended}
use Rattle.mar_model.specs.Writing.{Writing}
use Rattle.mar_key.specs.Cutoff.{Cutoff}
use Rattle.mar_key.specs.Processed.{Processed}
use Rattle.mar_model.specs.Acks.{Outstanding}
use Rattle.mar_store.specs.Ranges.{Range, ranges}
use Rattle.mar_script.specs.Shown.{ended_shown_words, shown_words}
use Rattle.mar_script.specs.Text.{State, cutoff_text, ended_words, fault_words, line_of, or_dash, output_text, pair_words, ranges_text, remark_words, report_words, some_words, state_words}
use Rattle.mar_replay.specs.Turn.{answers_text, asks_text, fault_in, heard_text, made_in, outcome_text, output_of, plain_report, remark_in, report_text, sends_text}
use Rattle.mar_replay.specs.declared.heard.Heard.{Heard}
use Rattle.mar_replay.specs.declared.play.Outcome.{Outcome}

pub node_shown : (p p' : Option Processed) (o o' : List Outstanding) (c c' : Cutoff) (b b' bs bs' f f' fs fs' : List Range) (w w' : Writing) (y y' : List ℕ) → p ≡ p' → o ≡ o' → c ≡ c' → b ≡ b' → bs ≡ bs' → f ≡ f' → fs ≡ fs' → w ≡ w' → y ≡ y' → shown_words p o c b bs f fs w.uncovered w.syncs y ≡ shown_words p' o' c' b' bs' f' fs' w'.uncovered w'.syncs y'
node_shown p p' o o' c c' b b' bs bs' f f' fs fs' w w' y y' e1 e2 e3 e4 e5 e6 e7 e8 e9 =
    ap (λ x. shown_words x o c b bs f fs w.uncovered w.syncs y) e1 ∙ ap (λ x. shown_words p' x c b bs f fs w.uncovered w.syncs y) e2 ∙ ap (λ x. shown_words p' o' x b bs f fs w.uncovered w.syncs y) e3 ∙ ap (λ x. shown_words p' o' c' x bs f fs w.uncovered w.syncs y) e4
    ∙ ap (λ x. shown_words p' o' c' b' x f fs w.uncovered w.syncs y) e5 ∙ ap (λ x. shown_words p' o' c' b' bs' x fs w.uncovered w.syncs y) e6 ∙ ap (λ x. shown_words p' o' c' b' bs' f' x w.uncovered w.syncs y) e7 ∙ ap (λ x. shown_words p' o' c' b' bs' f' fs' x.uncovered x.syncs y) e8
    ∙ ap (λ x. shown_words p' o' c' b' bs' f' fs' w'.uncovered w'.syncs x) e9

pub ended_shown : (e : Ended) (p : Option ℕ) (c : Cutoff) (bs bm fs fm : List Range) → first_pair e.meta ≡ Some (record { processed = p; cutoff = c }) → bs ≡ ranges (heights e.blocks_sure) → bm ≡ ranges (heights e.blocks_may) → fs ≡ ranges (heights e.certs_sure) → fm ≡ ranges (heights e.certs_may)
    → ended_shown_words p c bs bm fs fm ≡ ended_words e
ended_shown e p c bs bm fs fm first e1 e2 e3 e4 =
    ap (λ x. ended_shown_words p c x bm fs fm) e1 ∙ ap (λ x. ended_shown_words p c (ranges (heights e.blocks_sure)) x fs fm) e2 ∙ ap (λ x. ended_shown_words p c (ranges (heights e.blocks_sure)) (ranges (heights e.blocks_may)) x fm) e3
    ∙ ap (λ x. ended_shown_words p c (ranges (heights e.blocks_sure)) (ranges (heights e.blocks_may)) (ranges (heights e.certs_sure)) x) e4
    ∙ ap (λ ws. codes "node" ∷ codes "end" ∷ (ws ++ (codes "bs=" ++ ranges_text e.blocks_sure) ∷ (codes "bm=" ++ ranges_text e.blocks_may) ∷ (codes "fs=" ++ ranges_text e.certs_sure) ∷ (codes "fm=" ++ ranges_text e.certs_may) ∷ [])) (sym (pair_shown e.meta first))
  where
    pair_shown : (meta : List Pair) → first_pair meta ≡ Some (record { processed = p; cutoff = c }) → pair_words meta ≡ (codes "p=" ++ or_dash (option_map decimal p)) ∷ (codes "c=" ++ cutoff_text c) ∷ []
    pair_shown [] is = absurd cc
    pair_shown (q ∷ qs) is = ap (λ r. (codes "p=" ++ or_dash (option_map decimal r.processed)) ∷ (codes "c=" ++ cutoff_text r.cutoff) ∷ []) (inside is)
      where
        inside : ◌≡◌ {A = Option Pair} (Some q) (Some (record { processed = p; cutoff = c })) → q ≡ record { processed = p; cutoff = c }
        inside same = cc

-- a line of these words was appended, and they show what is to be shown
pub line_shown : {T E : Type 0} (r : Result T E) (new old : List ℕ) (words : List (List ℕ)) (shown : List Asked → List (List ℕ)) → OnOk r (new ≡ old ++ line_of words) → ((asked : List Asked) → words ≡ shown asked) → OnOk r ((asked : List Asked) → new ≡ old ++ line_of (shown asked))
line_shown (Ok v) new old words shown appended is = λ asked. appended ∙ ap (λ ws. old ++ line_of ws) (is asked)
line_shown (Err e) new old words shown appended is = appended

in_parts : (a b c d rem fault node : List ℕ) → a ++ b ++ c ++ d ++ [] ++ rem ++ fault ++ node ≡ a ++ (b ++ (c ++ (d ++ ((rem ++ fault) ++ node))))
in_parts a b c d rem fault node = simp (append_assoc, append-nil)

turn_text : (heard : Heard) (o : Outcome) (after : State) → output_text (output_of (made_in heard) o) after ≡ flat_map report_text heard.told.updates.items ++ (asks_text (made_in heard) ++ (sends_text (made_in heard) ++ (answers_text (made_in heard) ++ (outcome_text o ++ line_of (state_words after)))))
unfolding output_text
turn_text heard o after =
    in_parts (flat_map (λ r. line_of (report_words r)) (map plain_report heard.told.updates.items)) (asks_text (made_in heard)) (sends_text (made_in heard)) (answers_text (made_in heard)) (some_words (option_map remark_words (remark_in o)))
    (some_words (option_map (λ f. codes "fault" ∷ fault_words f) (fault_in o))) (line_of (state_words after))
    ∙ ap (λ l. l ++ (asks_text (made_in heard) ++ (sends_text (made_in heard) ++ (answers_text (made_in heard) ++ (outcome_text o ++ line_of (state_words after)))))) (flat_map-map (λ r. line_of (report_words r)) plain_report heard.told.updates.items)

-- what was appended in five parts
pub in_five : (old m1 m2 m3 m4 new a b c d e : List ℕ) → m1 ≡ old ++ a → m2 ≡ m1 ++ b → m3 ≡ m2 ++ c → m4 ≡ m3 ++ d → new ≡ m4 ++ e → new ≡ old ++ (a ++ (b ++ (c ++ (d ++ e))))
in_five old m1 m2 m3 m4 new a b c d e p q r s t = t ∙ (ap (λ xs. xs ++ e) (s ∙ ap (λ xs. xs ++ d) (r ∙ ap (λ xs. xs ++ c) (q ∙ ap (λ xs. xs ++ b) p))) ∙ all)
  where
    all : ((((old ++ a) ++ b) ++ c) ++ d) ++ e ≡ old ++ (a ++ (b ++ (c ++ (d ++ e))))
    all = simp (append_assoc)

behind_five : (a b c d e f : List ℕ) → (a ++ (b ++ (c ++ (d ++ e)))) ++ f ≡ a ++ (b ++ (c ++ (d ++ (e ++ f))))
behind_five a b c d e f = simp (append_assoc)

with_node : (old mid new : List ℕ) (heard : Heard) (o : Outcome) (after : State) → mid ≡ old ++ heard_text heard o → new ≡ mid ++ line_of (state_words after) → new ≡ old ++ output_text (output_of (made_in heard) o) after
with_node old mid new heard o after made appended =
    appended ∙ ap (λ l. l ++ line_of (state_words after)) made ∙ append_assoc old (heard_text heard o) (line_of (state_words after))
    ∙ ap (λ l. old ++ l) (behind_five (flat_map report_text heard.told.updates.items) (asks_text (made_in heard)) (sends_text (made_in heard)) (answers_text (made_in heard)) (outcome_text o) (line_of (state_words after)) ∙ sym (turn_text heard o after))

-- what was made and what there is now are a line's text
pub turn_shown : {T E : Type 0} (r : Result T E) (old mid new : List ℕ) (heard : Heard) (o : Outcome) (shown : List Asked → State) → mid ≡ old ++ heard_text heard o → OnOk r ((asked : List Asked) → new ≡ mid ++ line_of (state_words (shown asked)))
    → OnOk r ((asked : List Asked) → new ≡ old ++ output_text (output_of (made_in heard) o) (shown asked))
turn_shown (Ok v) old mid new heard o shown made appended = λ asked. with_node old mid new heard o (shown asked) made (appended asked)
turn_shown (Err e) old mid new heard o shown made appended = appended
