-- The calls of a disk by which a batch is added, one after the other.
use Rattle.std.proofs.Common.{List, [], ap, append_assoc, arith, drop, inl, inr, length, length-append, length-drop, length-take, refl, subst, sym, take, take-append-drop, ℕ, ◌++◌, ◌+◌, ◌<◌, ◌∙◌, ◌∷◌, ◌≡◌, ◌≤◌, ◌⊎◌}
use Rattle.std.proofs.lemmas.List.{drop_at, take_at}
use Rattle.mar_journal.specs.Disk.{Elapses, Follows, Holds, LeavesOnly, Narrows, Only, Torn}
use Rattle.mar_journal.specs.Format.{IsBatch, IsJournal, Stands}
use Rattle.mar_journal.specs.Journal.{IsSettled, IsStaged}
use Rattle.mar_journal.proofs.Crash.{file_split, front, gate_crash, length-front, opened, shut_here, stage, stage_crash, with_gate, written_behind, written_gate}
use Rattle.mar_journal.proofs.Moments.{goes_on, started}

pub holds_long : (old : List ℕ) (at : ℕ) (bytes new : List ℕ) → at ≤ length old → Holds old at bytes new → (at + length bytes ≤ length new) × (length old ≤ length new)
holds_long old at bytes new within holds =
    let long : length new ≡ at + length bytes + length (drop (at + length bytes) old) = omega (arith, ap length holds, length-append (take at old ++ bytes) (drop (at + length bytes) old), length-append (take at old) bytes, length-take at old, within) in
    (omega (arith, long), omega (arith, long, length-drop (at + length bytes) old))

-- what was written stands there
holds_there : (old : List ℕ) (at : ℕ) (bytes new : List ℕ) → at ≤ length old → Holds old at bytes new → take (length bytes) (drop at new) ≡ bytes
holds_there old at bytes new within holds =
    let rest = drop (at + length bytes) old in
    ap (λ (l : List ℕ). take (length bytes) (drop at l)) (holds ∙ append_assoc (take at old) bytes rest)
    ∙ ap (λ (l : List ℕ). take (length bytes) l) (drop_at (take at old) (bytes ++ rest) at (omega (arith, length-take at old, within)))
    ∙ take_at bytes rest (length bytes) refl

module _ {R D : Type 0} (spelled : R → List ℕ) (Valid : R → Type 0) (seen : D → List ℕ) (may_leave : D → List ℕ → Type 0) where
  pub is_staged : (end : ℕ) (batch : List R) (bytes : List ℕ) (d0 d1 d2 : D) → end < length (seen d0) → bytes ≡ stage spelled batch → Holds (seen d0) (end + 1) bytes (seen d1) → seen d2 ≡ seen d1 → IsStaged spelled batch end (seen d2)
  is_staged end batch bytes d0 d1 d2 room are written same =
      subst (λ b. take (length b) (drop (end + 1) (seen d2)) ≡ b) are (ap (λ (l : List ℕ). take (length bytes) (drop (end + 1) l)) same ∙ holds_there (seen d0) (end + 1) bytes (seen d1) (omega (arith, room)) written)

  module _ (moment : D → ℕ) (left_since : D → ℕ → List ℕ → Type 0) (only_now : (d : D) (c : List ℕ) → left_since d (moment d) c → may_leave d c) (before : List R) (end : ℕ) (batch : List R) (good : IsBatch spelled Valid batch)
      (d0 : D) (s : IsSettled spelled Valid seen may_leave before end d0) where
    abbrev pub BeforeOrAfter : List ℕ → Type 0
    BeforeOrAfter c = Stands spelled Valid before c ⊎ Stands spelled Valid (before ++ batch) c

    here : (c : List ℕ) → left_since d0 (moment d0) c → Stands spelled Valid before c
    here c left = inr (end, subst (IsJournal spelled Valid before end) (sym (s.only c (only_now d0 c left))) s.journal)

    pub at_first : LeavesOnly moment left_since d0 d0 (Stands spelled Valid before)
    at_first = started moment left_since d0 (Stands spelled Valid before) here

    -- after the write behind the gate
    module _ (size : ℕ) (d1 : D) (crash1 : Follows (Torn (end + 1) size) (may_leave d0) (may_leave d1)) (time1 : Elapses (moment d0) (moment d1) (left_since d0) (left_since d1) (may_leave d1)) where
      image1 : (c : List ℕ) → may_leave d1 c → Stands spelled Valid before c
      image1 c left = inr (end, stage_crash spelled Valid before end (seen d0) s.journal batch good size (may_leave d0) (may_leave d1) s.only crash1 c left)

      pub staged_only : LeavesOnly moment left_since d0 d1 (Stands spelled Valid before)
      staged_only = goes_on moment left_since d0 d0 d1 (Stands spelled Valid before) (may_leave d1) at_first time1 image1

      -- after its sync
      pub kept_only : (d2 : D) → Narrows (may_leave d1) (may_leave d2) → Elapses (moment d1) (moment d2) (left_since d1) (left_since d2) (may_leave d2) → LeavesOnly moment left_since d0 d2 (Stands spelled Valid before)
      kept_only d2 crash2 time2 = goes_on moment left_since d0 d1 d2 (Stands spelled Valid before) (may_leave d2) staged_only time2 (λ c left. image1 c (crash2 c left))

    -- the gate is closed still
    pub shut_still : (d1 d2 : D) → Holds (seen d0) (end + 1) (stage spelled batch) (seen d1) → seen d2 ≡ seen d1 → Only (seen d1) (may_leave d2) → IsSettled spelled Valid seen may_leave before end d2
    shut_still d1 d2 written same durable = record {
      journal = shut_here spelled Valid before end (seen d0) s.journal s.journal.gate (stage spelled batch ++ drop (end + 1 + length (stage spelled batch)) (seen d0)) (seen d2) s.journal.shut
          (same ∙ written_behind spelled Valid before end (seen d0) s.journal batch good (seen d1) written);
      only = λ c left. durable c left ∙ sym same;
    }

    -- of a batch that stands behind the gate
    module _ (staged : IsStaged spelled batch end (seen d0)) where
      abbrev tail : List ℕ
      tail = drop (length (stage spelled batch)) s.journal.rest

      behind : drop (end + 1) (seen d0) ≡ s.journal.rest
      behind = let front_is = front spelled Valid before end (seen d0) s.journal in
          ap (λ (l : List ℕ). drop (end + 1) l) (file_split spelled Valid before end (seen d0) s.journal ∙ sym (append_assoc front_is (s.journal.gate ∷ []) s.journal.rest))
          ∙ drop_at (front_is ++ s.journal.gate ∷ []) s.journal.rest (end + 1) (omega (arith, length-append front_is (s.journal.gate ∷ []), length-front spelled Valid before end (seen d0) s.journal))

      rest_is : s.journal.rest ≡ stage spelled batch ++ tail
      rest_is = sym (take-append-drop (length (stage spelled batch)) s.journal.rest) ∙ ap (λ (l : List ℕ). l ++ tail) (ap (λ (l : List ℕ). take (length (stage spelled batch)) l) (sym behind) ∙ staged)

      seen_is : seen d0 ≡ with_gate spelled Valid before end (seen d0) s.journal batch good s.journal.gate tail
      seen_is = file_split spelled Valid before end (seen d0) s.journal ∙ ap (λ (l : List ℕ). front spelled Valid before end (seen d0) s.journal ++ s.journal.gate ∷ l) rest_is

      -- after the gate is written
      module _ (d1 : D) (crash1 : Follows (Torn end 1) (may_leave d0) (may_leave d1)) (time1 : Elapses (moment d0) (moment d1) (left_since d0) (left_since d1) (may_leave d1)) where
        image2 : (c : List ℕ) → may_leave d1 c → BeforeOrAfter c
        image2 c left = gate_crash spelled Valid before end (seen d0) s.journal batch good s.journal.gate tail (may_leave d0) (may_leave d1) (λ f image. s.only f image ∙ seen_is) crash1 c left

        pub opened_only : LeavesOnly moment left_since d0 d1 BeforeOrAfter
        opened_only = goes_on moment left_since d0 d0 d1 BeforeOrAfter (may_leave d1) (started moment left_since d0 BeforeOrAfter (λ c left. inl (here c left))) time1 image2

        -- after its sync
        pub ended_only : (d2 : D) → Narrows (may_leave d1) (may_leave d2) → Elapses (moment d1) (moment d2) (left_since d1) (left_since d2) (may_leave d2) → LeavesOnly moment left_since d0 d2 BeforeOrAfter
        ended_only d2 crash2 time2 = goes_on moment left_since d0 d1 d2 BeforeOrAfter (may_leave d2) opened_only time2 (λ c left. image2 c (crash2 c left))

      pub settled : (d1 d2 : D) → Holds (seen d0) end (1 ∷ []) (seen d1) → seen d2 ≡ seen d1 → Only (seen d1) (may_leave d2)
          → IsSettled spelled Valid seen may_leave (before ++ batch) (end + length (stage spelled batch)) d2
      settled d1 d2 written same durable =
          let holds = subst (λ f. Holds f end (1 ∷ []) (seen d1)) seen_is written in
          let is = written_gate spelled Valid before end (seen d0) s.journal batch good s.journal.gate tail (seen d1) holds in
          record {
            journal = opened spelled Valid before end (seen d0) s.journal batch good tail (seen d2) (same ∙ is);
            only = λ c left. durable c left ∙ sym same;
          }
