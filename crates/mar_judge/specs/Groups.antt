-- The claims of a batch, by the epochs of their certificates.
use Rattle.std.specs.List.{AllByRecursion, slice_get}
use Rattle.std.specs.Prelude.{Bool, IsFalse, IsSome, IsTrue, List, Option, Some, None, [], map, ℕ, ◌≡◌, false}
use Rattle.mar_judge.specs.Rules.{Claim, Rules, verdict_on}
use Rattle.mar_judge.specs.declared.group.Group.{Group}

-- a claim of a group, and a verdict
abbrev pub claim_of : Option (List Claim) → ℕ → Option Claim
claim_of None p = None
claim_of (Some claims) p = slice_get claims p

abbrev pub claim_at : List (List Claim) → ℕ → ℕ → Option Claim
claim_at groups g p = claim_of (slice_get groups g) p

abbrev pub bit_of : Option Bool → Bool
bit_of None = false
bit_of (Some b) = b

abbrev pub bit_in : Option (List Bool) → ℕ → Bool
bit_in None p = false
bit_in (Some bits) p = bit_of (slice_get bits p)

abbrev pub told_at : List (List Bool) → ℕ → ℕ → Bool
told_at told g p = bit_in (slice_get told g) p

-- the verdicts on all of them
abbrev pub verdicts_on : Rules → List (List Claim) → List (List Bool)
verdicts_on rules groups = map (map (verdict_on rules)) groups

-- the claims of each group
abbrev pub claims_of : {S C : Type 0} → (C → Claim) → List (Group S C) → List (List Claim)
claims_of claimed groups = map (λ g. map claimed g.claims.items) groups

-- each certificate is of the epoch
abbrev pub AreOfEpoch : ℕ → List Claim → Type 0
AreOfEpoch epoch claims = AllByRecursion (λ c. c.certificate.round.epoch ≡ epoch) claims

-- A group has the scope of its epoch, or there is none, and no claim; its claims are of that epoch.
abbrev pub HasScope : {S : Type 0} → (ℕ → S → Type 0) → (ℕ → Bool) → ℕ → List Claim → Option S → Type 0
HasScope judges scoped epoch claims None = IsFalse (scoped epoch) × (claims ≡ [])
HasScope judges scoped epoch claims (Some s) = IsTrue (scoped epoch) × judges epoch s

pub record IsGroup {S C : Type 0} (claimed : C → Claim) (judges : ℕ → S → Type 0) (scoped : ℕ → Bool) (g : Group S C) : Type 0 where
  pub scope : HasScope judges scoped g.epoch (map claimed g.claims.items) g.scope
  pub epochs : AreOfEpoch g.epoch (map claimed g.claims.items)

abbrev pub AreGroups : {S C : Type 0} → (C → Claim) → (ℕ → S → Type 0) → (ℕ → Bool) → List (Group S C) → Type 0
AreGroups claimed judges scoped groups = AllByRecursion (IsGroup claimed judges scoped) groups

-- the group at this place is the epoch's
pub record IsOfEpoch {S C : Type 0} (groups : List (Group S C)) (place epoch : ℕ) : Type 0 where
  pub group : Group S C
  pub there : slice_get groups place ≡ Some group
  pub epoch_is : group.epoch ≡ epoch

-- each claim stays in its place
abbrev pub KeepsClaims : List (List Claim) → List (List Claim) → Type 0
KeepsClaims old new = (g p : ℕ) (c : Claim) → claim_at old g p ≡ Some c → claim_at new g p ≡ Some c

-- the group at this place is the epoch's, and has a scope
pub record IsOpen {S C : Type 0} (groups : List (Group S C)) (place epoch : ℕ) : Type 0 where
  pub group : Group S C
  pub there : slice_get groups place ≡ Some group
  pub epoch_is : group.epoch ≡ epoch
  pub scope : IsSome group.scope
