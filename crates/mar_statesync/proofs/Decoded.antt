-- What bytes are read as, and why they are refused.
use Rattle.std.proofs.Common.{◌≡◌, ◌↔◌, ◌==◌, ◌+◌, ◌<◌, ◌≤◌, Bool, IsTrue, false, true, ℕ, ◌++◌, Err, List, Ok, Result, [], ◌∷◌, ap, ap₂, arith, inl, inr, length, refl, sym, ◌∙◌, ◌⊎◌}
use Rattle.std.proofs.lemmas.Bool.{cases_lt, eq-eqb}
use Rattle.std.proofs.lemmas.List.{append-nil, append_cancel_left}
use Rattle.mar_types.specs.Codec.{HasNoFront}
use Rattle.mar_types.specs.Digest.{IsDigest}
use Rattle.mar_types.specs.DigestLemmas.{bytes_unambiguous}
use Rattle.mar_types.specs.declared.Error.{Error}
use Rattle.mar_types.specs.declared.Error.TheVariants.{Memory}
use Rattle.mar_cert.specs.Finalization.{Finalization, finalization_bytes}
use Rattle.mar_cert.specs.Grammar.{SpellsMockFinalization, finalization_unambiguous, same_finalization, spelled_finalization}
use Rattle.mar_cert.specs.MockScheme.{IsFinalization}
use Rattle.mar_cert.specs.Signers.{IsMockCertificate}
use Rattle.mar_cert.specs.SignersLemmas.{certificate_unambiguous}
use Rattle.mar_ledger.specs.Books.{Books}
use Rattle.mar_statesync.specs.Reading.{HasNoState, IsReadAs, Refuses, TakesState}
use Rattle.mar_statesync.specs.Snapshots.{IsNoSnapshot, IsSnapshot, IsState, Snapshot, snapshot_bytes, state_bytes}
use Rattle.mar_statesync.specs.declared.decode_error.DecodeError.{DecodeError}
use Rattle.mar_statesync.specs.declared.decode_error.DecodeError.TheVariants.{Balances, Part, Rejected}
use Rattle.mar_statesync.proofs.Spelled.{state_rest}

never_both : (b : Bool) → b ≡ true → b ≡ false → ⊥
never_both b is other = cc

pub right_by : {A B C : Type 0} → A ⊎ B → (B → C) → A ⊎ C
right_by (inl a) f = inl a
right_by (inr b) f = inr (f b)

-- a test that failed
pub above : (b : Bool) (r h : ℕ) → (IsTrue b ↔ (r ≤ h + 1)) → b ≡ false → h + 1 < r
above b r h tells other = elim (cases_lt (h + 1) r) [ inl lower ↦ lower | inr within ↦ absurd (never_both b (tells.1 within) other) ]

pub some_left : (b : Bool) (n : ℕ) → b ≡ (n == 0) → b ≡ false → n ≡ 0 → ⊥
some_left b n is other none = never_both b (is ∙ eq-eqb n 0 none) other

no_state : (n : ℕ) (bytes : List ℕ) → HasNoState bytes → IsNoSnapshot n bytes
no_state n bytes none s is e = none s.height s.books (finalization_bytes s.finalization) is.state e

-- where no state is read, no snapshot is
pub refuses_bytes : (n : ℕ) (bytes : List ℕ) (error : DecodeError) → Refuses (HasNoState bytes) bytes error → Refuses (IsNoSnapshot n bytes) bytes error
refuses_bytes n bytes (Part error) refuses = right_by refuses (no_state n bytes)
refuses_bytes n bytes Balances refuses = (no_state n bytes refuses.0, refuses.1)
refuses_bytes n bytes Rejected refuses = (no_state n bytes refuses.0, refuses.1)

-- bytes that begin with a state
module _ (n : ℕ) (h : ℕ) (books : Books) (bytes u : List ℕ) (takes : TakesState h books bytes u) where
  after_state : (s : Snapshot) → IsSnapshot n s → bytes ≡ snapshot_bytes s → u ≡ finalization_bytes s.finalization
  after_state s is e =
      (state_rest h s.height books s.books u (finalization_bytes s.finalization) (takes.is.are.sixteen ∙ sym is.state.are.sixteen) (sym takes.taken ∙ e)).2

  pub no_finalization : HasNoFront (SpellsMockFinalization n) u → IsNoSnapshot n bytes
  no_finalization none s is e =
      none (finalization_bytes s.finalization) [] (spelled_finalization n s.finalization is.finalization)
      (after_state s is e ∙ sym (append-nil (finalization_bytes s.finalization)))

  -- and a finalization
  module _ (f : Finalization) (left : List ℕ) (is_f : IsFinalization n f) (taken_f : u ≡ finalization_bytes f ++ left) where
    pub bytes_left : (length left ≡ 0 → ⊥) → IsNoSnapshot n bytes
    bytes_left some s is e =
        let g = finalization_bytes s.finalization in
        let there = sym taken_f ∙ after_state s is e ∙ sym (append-nil g) in
        let same = finalization_unambiguous IsDigest (IsMockCertificate n) (bytes_unambiguous 32) (certificate_unambiguous n) (finalization_bytes f) g left []
        (spelled_finalization n f is_f) (spelled_finalization n s.finalization is.finalization) there in
        some (ap length (append_cancel_left g left [] (ap (λ bs. bs ++ left) (sym same) ∙ there)))

    abbrev made : Snapshot
    made = record { height = h; books = books; finalization = f }

    none : (xs : List ℕ) → length xs ≡ 0 → xs ≡ []
    none [] long = refl
    none (x ∷ xs) long = absurd (omega (arith, long))

    pub finds : (s : Snapshot) → length left ≡ 0 → s ≡ made → IsSnapshot n s × (bytes ≡ snapshot_bytes s)
    finds s ended is = rw is (
      record { state = takes.is; finalization = is_f },
      takes.taken ∙ ap (λ bs. state_bytes h books ++ bs) (taken_f ∙ ap (λ bs. finalization_bytes f ++ bs) (none left ended) ∙ append-nil (finalization_bytes f)),
    )

-- ONE SPELLING

pub same_snapshot : (n m : ℕ) (s t : Snapshot) → IsSnapshot n s → IsSnapshot m t → snapshot_bytes s ≡ snapshot_bytes t → s ≡ t
same_snapshot n m s t is also e =
    let states = state_rest s.height t.height s.books t.books (finalization_bytes s.finalization) (finalization_bytes t.finalization)
    (is.state.are.sixteen ∙ sym also.state.are.sixteen) e in
    let finalizations = same_finalization n m s.finalization t.finalization is.finalization also.finalization states.2 in
    ap (λ h. made h s.books s.finalization) states.0 ∙ ap (λ (b : Books). made t.height b s.finalization) states.1 ∙ ap (λ (f : Finalization). made t.height t.books f) finalizations
  where
    made : ℕ → Books → Finalization → Snapshot
    made h b f = record { height = h; books = b; finalization = f }

-- what is found is the snapshot of the bytes
pub only_found : (n : ℕ) (bytes : List ℕ) (found s : Snapshot) → IsSnapshot n found × (bytes ≡ snapshot_bytes found) → IsSnapshot n s → bytes ≡ snapshot_bytes s
    → IsReadAs s (Ok found)
only_found n bytes found s finds is e = same_snapshot n n found s finds.0 is (sym finds.1 ∙ e)

-- a snapshot's bytes are refused for memory alone
pub only_memory : (n : ℕ) (bytes : List ℕ) (error : DecodeError) (s : Snapshot) → Refuses (IsNoSnapshot n bytes) bytes error → IsSnapshot n s → bytes ≡ snapshot_bytes s
    → IsReadAs s (Err error)
only_memory n bytes (Part error) s refuses is e = elim refuses [ inl memory ↦ ap Part memory | inr none ↦ absurd (none s is e) ]
only_memory n bytes Balances s refuses is e = absurd (refuses.0 s is e)
only_memory n bytes Rejected s refuses is e = absurd (refuses.0 s is e)
