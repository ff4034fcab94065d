-- A mock certificate at the front of bytes.
use Rattle.std.proofs.Common.{List, ap, arith, drop, length, length-append, sym, ℕ, ◌++◌, ◌-◌, ◌∙◌, ◌≡◌, ◌⊎◌, inl, inr}
use Rattle.std.proofs.Math.Seq.{drop-append_seam}
use Rattle.std.proofs.lemmas.List.{append_cancel_left}
use Rattle.mar_types.specs.Codec.{HasNoFront, IsUnambiguous}
use Rattle.mar_types.specs.Digest.{IsDigest}
use Rattle.mar_types.specs.DigestLemmas.{bytes_unambiguous}
use Rattle.mar_cert.specs.Finalization.{Finalization, finalization_bytes}
use Rattle.mar_cert.specs.Grammar.{SpellsMockFinalization, finalization_unambiguous, same_finalization, spelled_finalization}
use Rattle.mar_cert.specs.MockScheme.{IsFinalization}
use Rattle.mar_cert.specs.Signers.{IsMockCertificate}
use Rattle.mar_cert.specs.SignersLemmas.{certificate_unambiguous}
use Rattle.mar_judge.specs.MockReading.{reading_of}
use Rattle.mar_judge.specs.Rules.{HasNoCertificate, IsReadFrom}

one_spelling : (n : ℕ) → IsUnambiguous (SpellsMockFinalization n)
one_spelling n = finalization_unambiguous IsDigest (IsMockCertificate n) (bytes_unambiguous 32) (certificate_unambiguous n)

pub right_by : {A B C : Type 0} → A ⊎ B → (B → C) → A ⊎ C
right_by (inl a) f = inl a
right_by (inr b) f = inr (f b)

pub none_read : (n : ℕ) (bytes : List ℕ) → HasNoFront (SpellsMockFinalization n) bytes → HasNoCertificate (reading_of n) bytes
none_read n bytes none f more is e = none (finalization_bytes f) more (spelled_finalization n f is) e

pub read_from : (n : ℕ) (bytes left : List ℕ) (f : Finalization) → IsFinalization n f → bytes ≡ finalization_bytes f ++ left → IsReadFrom (reading_of n) bytes f (length bytes - length left)
read_from n bytes left f is taken =
    let sizes = ap length taken ∙ length-append (finalization_bytes f) left in
    let size : length bytes - length left ≡ length (finalization_bytes f) = omega (arith, sizes) in
    let rest : drop (length bytes - length left) bytes ≡ left = ap (λ k. drop k bytes) size ∙ ap (drop (length (finalization_bytes f))) taken ∙ drop-append_seam (finalization_bytes f) left in
    record {
      is = is;
      fits = omega (arith, sizes);
      spelled = taken ∙ ap (λ bs. finalization_bytes f ++ bs) (sym rest);
      only = λ g more also e.
          let spellings : finalization_bytes g ≡ finalization_bytes f =
          one_spelling n (finalization_bytes g) (finalization_bytes f) more left (spelled_finalization n g also) (spelled_finalization n f is) (sym e ∙ taken) in (
            same_finalization n n g f also is spellings,
            append_cancel_left (finalization_bytes g) more left (sym e ∙ taken ∙ ap (λ bs. bs ++ left) (sym spellings)) ∙ sym rest,
          );
    }
