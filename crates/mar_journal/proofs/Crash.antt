-- What a crash leaves while a batch is added.
use Rattle.std.proofs.Common.{List, [], ap, append_assoc, arith, drop, get_or, inl, inr, length, length-append, subst, sym, take, take-append-drop, ℕ, ◌++◌, ◌+◌, ◌<◌, ◌∙◌, ◌∷◌, ◌≡◌, ◌≢◌, ◌⊎◌}
use Rattle.std.proofs.lemmas.Bool.{cases_eq}
use Rattle.std.proofs.lemmas.List.{drop_at, drop_more, take_at}
use Rattle.mar_store.proofs.Lookups.{AllByRecursion-push}
use Rattle.mar_journal.specs.Disk.{Follows, Holds, Only, Torn}
use Rattle.mar_journal.specs.Format.{IsBatch, IsJournal, Stands, behind_gate, frames, magic}
use Rattle.mar_journal.proofs.Frames.{frames-push, length-frames-push}
use Rattle.mar_journal.proofs.Framings.{joined-push}

-- what is written behind a closed gate: a batch, and a closed gate behind it
abbrev pub stage : {R : Type 0} → (R → List ℕ) → List R → List ℕ
stage spelled batch = behind_gate spelled batch ++ 0 ∷ []

module _ {R : Type 0} (spelled : R → List ℕ) (Valid : R → Type 0) (before : List R) (end : ℕ) (file : List ℕ) (j : IsJournal spelled Valid before end file) where
  -- what stands before the closed gate
  abbrev pub front : List ℕ
  front = magic ++ frames spelled j.batches

  pub length-front : length front ≡ end
  length-front = omega (arith, length-append magic (frames spelled j.batches), j.ends)

  pub file_split : file ≡ front ++ j.gate ∷ j.rest
  file_split = j.file_is ∙ sym (append_assoc magic (frames spelled j.batches) (j.gate ∷ j.rest))

  pub end_within : end < length file
  end_within = omega (arith, ap length file_split, length-append front (j.gate ∷ j.rest), length-front)

  -- these batches and any closed gate
  pub shut_here : (gate : ℕ) (rest c : List ℕ) → gate ≢ 1 → c ≡ front ++ gate ∷ rest → IsJournal spelled Valid before end c
  shut_here gate rest c shut e = record {
    batches = j.batches;
    gate = gate;
    rest = rest;
    shut = shut;
    good = j.good;
    records_are = j.records_are;
    ends = j.ends;
    file_is = e ∙ append_assoc magic (frames spelled j.batches) (gate ∷ rest);
  }

  -- what keeps the front with the closed gate
  pub kept_front : (c : List ℕ) → take (end + 1) c ≡ take (end + 1) file → IsJournal spelled Valid before end c
  kept_front c same =
      let size : length (front ++ j.gate ∷ []) ≡ end + 1 = omega (arith, length-append front (j.gate ∷ []), length-front) in
      let through : file ≡ (front ++ j.gate ∷ []) ++ j.rest = file_split ∙ sym (append_assoc front (j.gate ∷ []) j.rest) in
      let is : take (end + 1) c ≡ front ++ j.gate ∷ [] = same ∙ ap (λ (l : List ℕ). take (end + 1) l) through ∙ take_at (front ++ j.gate ∷ []) j.rest (end + 1) size in
      let whole : c ≡ front ++ j.gate ∷ drop (end + 1) c =
      sym (take-append-drop (end + 1) c) ∙ ap (λ (l : List ℕ). l ++ drop (end + 1) c) is ∙ append_assoc front (j.gate ∷ []) (drop (end + 1) c) in
      shut_here j.gate (drop (end + 1) c) c j.shut whole

  module _ (batch : List R) (good : IsBatch spelled Valid batch) where
    -- the file with a batch behind some gate
    abbrev pub with_gate : ℕ → List ℕ → List ℕ
    with_gate gate rest = front ++ gate ∷ (stage spelled batch ++ rest)

    pub opened : (rest c : List ℕ) → c ≡ with_gate 1 rest → IsJournal spelled Valid (before ++ batch) (end + length (stage spelled batch)) c
    opened rest c e = record {
      batches = j.batches ++ batch ∷ [];
      gate = 0;
      rest = rest;
      shut = λ is. absurd (omega (arith, is));
      good = AllByRecursion-push (IsBatch spelled Valid) j.batches batch j.good good;
      records_are = joined-push j.batches batch ∙ ap (λ l. l ++ batch) j.records_are;
      ends = omega (arith, j.ends, length-frames-push spelled j.batches batch, length-append (behind_gate spelled batch) (0 ∷ []));
      file_is = e ∙ append_assoc magic (frames spelled j.batches) (1 ∷ (stage spelled batch ++ rest))
          ∙ ap (λ (l : List ℕ). magic ++ l) (ap (λ (l : List ℕ). frames spelled j.batches ++ 1 ∷ l) (append_assoc (behind_gate spelled batch) (0 ∷ []) rest) ∙ sym (frames-push spelled j.batches batch (0 ∷ rest)));
    }

    -- whatever the gate is, the batch stands whole or it doesn't count
    pub either : (gate : ℕ) (rest c : List ℕ) → c ≡ with_gate gate rest → Stands spelled Valid before c ⊎ Stands spelled Valid (before ++ batch) c
    either gate rest c e = elim (cases_eq gate 1) [
      | inl is ↦ inr (inr (end + length (stage spelled batch), opened rest c (e ∙ ap (λ g. with_gate g rest) is)))
      | inr shut ↦ inl (inr (end, shut_here gate (stage spelled batch ++ rest) c shut e))
    ]

    -- the first write leaves the front with the closed gate
    pub torn_behind : (size : ℕ) (c : List ℕ) → Torn (end + 1) size file c → IsJournal spelled Valid before end c
    torn_behind size c torn = kept_front c (torn.before (end + 1) (omega arith) (omega (arith, end_within)))

    -- what the first write makes of the file
    pub written_behind : (c : List ℕ) → Holds file (end + 1) (stage spelled batch) c → c ≡ with_gate j.gate (drop (end + 1 + length (stage spelled batch)) file)
    written_behind c holds =
        let size : length (front ++ j.gate ∷ []) ≡ end + 1 = omega (arith, length-append front (j.gate ∷ []), length-front) in
        let through : file ≡ (front ++ j.gate ∷ []) ++ j.rest = file_split ∙ sym (append_assoc front (j.gate ∷ []) j.rest) in
        let is : take (end + 1) file ≡ front ++ j.gate ∷ [] = ap (λ (l : List ℕ). take (end + 1) l) through ∙ take_at (front ++ j.gate ∷ []) j.rest (end + 1) size in
        let rest = drop (end + 1 + length (stage spelled batch)) file in
        holds ∙ ap (λ (l : List ℕ). l ++ stage spelled batch ++ rest) is ∙ append_assoc (front ++ j.gate ∷ []) (stage spelled batch) rest ∙ append_assoc front (j.gate ∷ []) (stage spelled batch ++ rest)

    front_of : (gate : ℕ) (rest : List ℕ) → take end (with_gate gate rest) ≡ front
    front_of gate rest = take_at front (gate ∷ (stage spelled batch ++ rest)) end length-front

    back_of : (gate : ℕ) (rest : List ℕ) → drop (end + 1) (with_gate gate rest) ≡ stage spelled batch ++ rest
    back_of gate rest =
        ap (λ (l : List ℕ). drop (end + 1) l) (sym (append_assoc front (gate ∷ []) (stage spelled batch ++ rest)))
        ∙ drop_at (front ++ gate ∷ []) (stage spelled batch ++ rest) (end + 1) (omega (arith, length-append front (gate ∷ []), length-front))

    -- the second write leaves the batch whole, whatever the gate is
    pub torn_gate : (gate : ℕ) (rest c : List ℕ) → Torn end 1 (with_gate gate rest) c → Stands spelled Valid before c ⊎ Stands spelled Valid (before ++ batch) c
    torn_gate gate rest c torn =
        let long : length (with_gate gate rest) ≡ end + (1 + length (stage spelled batch ++ rest)) = omega (arith, length-append front (gate ∷ (stage spelled batch ++ rest)), length-front) in
        let start : take end c ≡ front = torn.before end (omega arith) (omega (arith, long)) ∙ front_of gate rest in
        let back : drop end c ≡ get_or c end 0 ∷ (stage spelled batch ++ rest) =
        drop_more c end 0 (omega (arith, torn.no_shorter, long)) ∙ ap (λ (l : List ℕ). get_or c end 0 ∷ l) (torn.after ∙ back_of gate rest) in
        either (get_or c end 0) rest c (sym (take-append-drop end c) ∙ ap (λ (l : List ℕ). l ++ drop end c) start ∙ ap (λ (l : List ℕ). front ++ l) back)

    pub written_gate : (gate : ℕ) (rest c : List ℕ) → Holds (with_gate gate rest) end (1 ∷ []) c → c ≡ with_gate 1 rest
    written_gate gate rest c holds =
        holds
        ∙ ap (λ (l : List ℕ). l ++ (1 ∷ []) ++ drop (end + 1) (with_gate gate rest)) (front_of gate rest)
        ∙ ap (λ (l : List ℕ). front ++ (1 ∷ []) ++ l) (back_of gate rest)
        ∙ append_assoc front (1 ∷ []) (stage spelled batch ++ rest)

    -- the images of the first write
    pub stage_crash : (size : ℕ) (old new : List ℕ → Type 0) → Only file old → Follows (Torn (end + 1) size) old new → (c : List ℕ) → new c → IsJournal spelled Valid before end c
    stage_crash size old new only follows c left =
        let from = follows c left in
        torn_behind size c (subst (λ f. Torn (end + 1) size f c) (only from.0 from.1) from.2)

    -- the images of the second
    pub gate_crash : (gate : ℕ) (rest : List ℕ) (old new : List ℕ → Type 0) → Only (with_gate gate rest) old → Follows (Torn end 1) old new → (c : List ℕ) → new c
        → Stands spelled Valid before c ⊎ Stands spelled Valid (before ++ batch) c
    gate_crash gate rest old new only follows c left =
        let from = follows c left in
        torn_gate gate rest c (subst (λ f. Torn end 1 f c) (only from.0 from.1) from.2)
