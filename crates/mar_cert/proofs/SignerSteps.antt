-- Signers that are read one after another.
use Rattle.std.proofs.Common.{Err, Ok, Result, ◌^◌, List, [], ap, append_assoc, arith, inl, inr, length, refl, subst, sym, ℕ, ◌++◌, ◌+◌, ◌<◌, ◌∙◌, ◌∷◌, ◌≡◌, ◌≤◌, ◌⊎◌}
use Rattle.std.specs.List.{flat_map}
use Rattle.std.proofs.lemmas.Grind.{flat_map-append}
use Rattle.std.proofs.lemmas.List.{append-nil}
use Rattle.mar_cert.specs.MockScheme.{Signer, signer_bytes}
use Rattle.std.specs.Prelude.{IfErr, IfOk, map}
use Rattle.std.proofs.lemmas.List.{length-map}
use Rattle.std.proofs.lemmas.List.Folds.{flat_map-map}
use Rattle.mar_cert.specs.MockViews.{plain_signer}
use Rattle.mar_cert.specs.declared.signer.Signer.{Signer as SignerOf}
use Rattle.mar_cert.specs.Signers.{AreSigners, CountsWithin, IsMockCertificate, RefusesCertificate, RefusesSigner, RefusesSigners, certificate_bytes, next_member}
use Rattle.mar_cert.specs.SignersLemmas.{certificate_of_signers, no_certificate}
use Rattle.mar_types.specs.Codec.{HasNoFront, Takes}
use Rattle.mar_types.specs.Refusals.{RefusesVarint}
use Rattle.mar_types.specs.Varint.{IsNumber, IsVarint, varint}
use Rattle.mar_types.specs.VarintLemmas.{varint-injective}
use Rattle.mar_types.specs.Digest.{IsDigest}
use Rattle.mar_types.specs.declared.Error.{Error}
use Rattle.mar_types.specs.declared.Error.TheVariants.{Invalid, Memory}
use Rattle.mar_types.specs.declared.Kind.TheVariants.{Certificate}
use Rattle.mar_types.specs.declared.Reason.TheVariants.{Signers}

pub are_more : (n low : ℕ) (done : List Signer) (s : Signer) → AreSigners n low done → next_member low done ≤ s.member → s.member < n → IsDigest s.tag → AreSigners n low (done ++ s ∷ [])
are_more n low [] s are above below tag = (above, below, tag, tt)
are_more n low (t ∷ done) s are above below tag = (are.0, are.1, are.2, are_more n (t.member + 1) done s are.3 above below tag)

pub next_member-more : (low : ℕ) (done : List Signer) (s : Signer) → next_member low (done ++ s ∷ []) ≡ s.member + 1
next_member-more low [] s = refl
next_member-more low (t ∷ done) s = next_member-more (t.member + 1) done s

pub taken_more : (done : List Signer) (s : Signer) (start now rest : List ℕ) → start ≡ flat_map signer_bytes done ++ now → now ≡ signer_bytes s ++ rest → start ≡ flat_map signer_bytes (done ++ s ∷ []) ++ rest
taken_more done s start now rest taken more =
    taken ∙ ap (λ bs. flat_map signer_bytes done ++ bs) more ∙ sym (append_assoc (flat_map signer_bytes done) (signer_bytes s) rest)
    ∙ ap (λ bs. (flat_map signer_bytes done ++ bs) ++ rest) (sym (append-nil (signer_bytes s)))
    ∙ ap (λ bs. bs ++ rest) (sym (flat_map-append signer_bytes done (s ∷ [])))

pub no_more : (n count low : ℕ) (done : List Signer) (start now : List ℕ) (e : Error) → AreSigners n 0 done → low ≡ next_member 0 done → length done < count → start ≡ flat_map signer_bytes done ++ now
    → (e ≡ Memory) ⊎ RefusesSigner n low now e → (e ≡ Memory) ⊎ RefusesSigners n count start e
no_more n count low done start now e are low_is fewer taken (inl memory) = inl memory
no_more n count low done start now e are low_is fewer taken (inr refused) =
    inr (record { done = done; after = now; are_signers = are; fewer = fewer; spelled = taken; refused = subst (λ k. RefusesSigner n k now e) low_is refused })

pub refused_count : (n : ℕ) (bytes : List ℕ) (e : Error) → (e ≡ Memory) ⊎ RefusesVarint bytes e → (e ≡ Memory) ⊎ RefusesCertificate n bytes e
refused_count n bytes e (inl memory) = inl memory
refused_count n bytes e (inr none) = inr (inl none)

pub refused_signers : (n count : ℕ) (bytes after : List ℕ) (e : Error) → IsNumber count → bytes ≡ varint count ++ after → count ≤ n → (e ≡ Memory) ⊎ RefusesSigners n count after e → (e ≡ Memory) ⊎ RefusesCertificate n bytes e
refused_signers n count bytes after e fits spelled few (inl memory) = inl memory
refused_signers n count bytes after e fits spelled few (inr refused) = inr (inr (record { count = count; fits = fits; after = after; spelled = spelled; refused = inr (few, refused) }))

varint_fits : (n : ℕ) → IsVarint (varint n) → IsNumber n
varint_fits n is = subst (λ k. IsNumber k) (sym (varint-injective n is.number is.spelled)) is.fits

pub too_many : (n count : ℕ) (bytes after : List ℕ) → Takes IsVarint (varint count) bytes after → n < count → RefusesCertificate n bytes (Invalid Certificate Signers)
too_many n count bytes after t over = inr (record { count = count; fits = varint_fits count t.in_grammar; after = after; spelled = t.taken; refused = inl (refl, over) })

pub no_front : (n : ℕ) (bytes : List ℕ) (e : Error) → n < 2 ^ 64 → (e ≡ Memory) ⊎ RefusesCertificate n bytes e → (e ≡ Memory) ⊎ HasNoFront (IsMockCertificate n) bytes
no_front n bytes e wide (inl memory) = inl memory
no_front n bytes e wide (inr refused) = inr (no_certificate n bytes e wide refused)

pub signers_err : {T : Type 0} (r : Result T Error) (n count : ℕ) (bytes after : List ℕ) → n < 2 ^ 64 → bytes ≡ varint count ++ after → count ≤ n
    → IfErr r (λ e. (e ≡ Memory) ⊎ RefusesSigners n count after e) → IfErr r (λ e. (e ≡ Memory) ⊎ HasNoFront (IsMockCertificate n) bytes)
signers_err (Ok v) n count bytes after wide spelled few refused = refused
signers_err (Err e) n count bytes after wide spelled few refused = no_front n bytes e wide (refused_signers n count bytes after e (omega arith) spelled few refused)

-- whatever is answered behind a count that is few, memory is asked for as few
pub few_asked : {T : Type 0} (r : Result T Error) (n count : ℕ) (bytes after : List ℕ) → bytes ≡ varint count ++ after → count ≤ n → IfErr r (λ e. e ≡ Memory → CountsWithin n bytes)
few_asked (Ok v) n count bytes after spelled few = tt
few_asked (Err e) n count bytes after spelled few = λ memory. record { count = count; after = after; spelled = spelled; few = few }

pub certificate_taken : {T E : Type 0} (r : Result T E) (signers : T → List Signer) (n count : ℕ) (bytes after rest : List ℕ) → bytes ≡ varint count ++ after
    → IfOk r (λ c. length (signers c) ≡ count) → IfOk r (λ c. AreSigners n 0 (signers c)) → IfOk r (λ c. after ≡ flat_map signer_bytes (signers c) ++ rest)
    → IfOk r (λ c. Takes (IsMockCertificate n) (certificate_bytes (signers c)) bytes rest)
certificate_taken (Err e) signers n count bytes after rest spelled so_many are taken = so_many
certificate_taken (Ok c) signers n count bytes after rest spelled so_many are taken = record {
  in_grammar = record { signers = signers c; certificate_is = certificate_of_signers n (signers c) are };
  taken = spelled ∙ ap (λ k. varint k ++ after) (sym so_many) ∙ ap (λ bs. varint (length (signers c)) ++ bs) taken ∙ sym (append_assoc (varint (length (signers c))) (flat_map signer_bytes (signers c)) rest);
}

-- a certificate is a count and its signers, one after another
pub certificate_parts : (signers items : List SignerOf) (count : ℕ) → length signers ≡ count → items ≡ signers
    → certificate_bytes (map plain_signer signers) ≡ varint count ++ flat_map (λ s. signer_bytes (plain_signer s)) items
certificate_parts signers items count long same =
    ap (λ k. varint k ++ flat_map signer_bytes (map plain_signer signers)) (length-map signers plain_signer ∙ long)
    ∙ ap (λ bytes. varint count ++ bytes) (flat_map-map signer_bytes plain_signer signers)
    ∙ ap (λ all. varint count ++ flat_map (λ s. signer_bytes (plain_signer s)) all) (sym same)
