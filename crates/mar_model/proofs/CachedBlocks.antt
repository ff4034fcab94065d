-- The block that a search of the cache finds is the one that a look through its blocks finds, where one block passes.
use Rattle.std.proofs.Common.{◌≡◌, ◌∙◌, ◌||◌, ◌&&◌, ◌==◌, ℕ, nat_lt, List, [], ◌∷◌, Bool, true, false, Option, Some, None, Contains, bytes_eq, cond, find, refl, sym, ap, arith, ap₂}
use Rattle.std.specs.Prelude.{option_and_then}
use Rattle.std.specs.List.{AllByRecursion, cons_option, filter_map}
use Rattle.mar_types.specs.Round.{Round, round_eq}
use Rattle.mar_cert.specs.Block.{Block}
use Rattle.mar_model.specs.AllEntries.{is_sooner, sooner_of, soonest}
use Rattle.mar_model.specs.Cache.{first_of, first_verified, verified_in}
use Rattle.mar_model.specs.Cached.{Cached, cached_block, certified_entry, finalization_entry, notarization_entry, notarized_entry, verified_entry}
use Rattle.mar_model.specs.Entries.{has_commitment, has_digest, is_verified_at}
use Rattle.mar_model.specs.Moves.{cached_by_commitment}
use Rattle.mar_model.specs.Promise.{AreOne}
use Rattle.mar_model.specs.Queries.{cached_at, cached_by_digest}
use Rattle.mar_model.proofs.AtHand.{AllByRecursion-find, bytes_same}
use Rattle.mar_model.proofs.EntryLists.{rounds_same}
use Rattle.mar_model.proofs.Looking.{passes_found, and_false}

module _ (all : List Block) (p : Block → Bool) (one : (x y : Block) → Contains all x → Contains all y → p x ≡ true → p y ≡ true → x ≡ y) (test : Option Block → Bool) (none : test None ≡ false) (some : (b : Block) → test (Some b) ≡ p b) where
  -- a found entry has the one block that passes
  has_block : (b : Block) → Contains all b → p b ≡ true → (xs : List Block) → AllByRecursion (Contains all) xs → (o : Option Block) → test o ≡ true → o ≡ find p xs → o ≡ Some b
  has_block b there passes xs known None found is = absurd (let both : false ≡ true = sym none ∙ found in cc)
  has_block b there passes xs known (Some c) found is = ap Some (one c b (AllByRecursion-find (Contains all) p xs c known (sym is)) there (sym (some c) ∙ found) passes)

  pub searched : (xs : List Cached) → AllByRecursion (Contains all) (filter_map cached_block xs) → option_and_then cached_block (soonest (λ x. test (cached_block x)) xs) ≡ find p (filter_map cached_block xs)
  searched [] known = refl
  searched (x ∷ xs) known = by (cached_block x) refl (soonest (λ y. test (cached_block y)) xs) (λ y is. passes_found (λ y. test (cached_block y)) xs y is) (searched xs (rest (cached_block x) known)) known
    where
      rest : (o : Option Block) → AllByRecursion (Contains all) (cons_option o (filter_map cached_block xs)) → AllByRecursion (Contains all) (filter_map cached_block xs)
      rest None known = known
      rest (Some b) known = known.1

      by : (o : Option Block) → cached_block x ≡ o → (s : Option Cached) → ((y : Cached) → Some y ≡ s → test (cached_block y) ≡ true) → option_and_then cached_block s ≡ find p (filter_map cached_block xs) → AllByRecursion (Contains all) (cons_option o (filter_map cached_block xs)) → option_and_then cached_block (cond (test o) (sooner_of x s) s) ≡ find p (cons_option o (filter_map cached_block xs))
      by None is s passes found known = ap (λ c. option_and_then cached_block (cond c (sooner_of x s) s)) none ∙ found
      by (Some b) is s passes found known = ap (λ c. option_and_then cached_block (cond c (sooner_of x s) s)) (some b) ∙ chosen (p b) refl
        where
          first : (s : Option Cached) → ((y : Cached) → Some y ≡ s → test (cached_block y) ≡ true) → option_and_then cached_block s ≡ find p (filter_map cached_block xs) → p b ≡ true → option_and_then cached_block (sooner_of x s) ≡ Some b
          first None passes found passes_b = is
          first (Some y) passes found passes_b = of_two (is_sooner y x)
            where
              of_two : (c : Bool) → option_and_then cached_block (cond c (Some y) (Some x)) ≡ Some b
              of_two true = has_block b known.0 passes_b (filter_map cached_block xs) known.1 (cached_block y) (passes y refl) found
              of_two false = is

          chosen : (c : Bool) → p b ≡ c → option_and_then cached_block (cond c (sooner_of x s) s) ≡ cond c (Some b) (find p (filter_map cached_block xs))
          chosen true passes_b = first s passes found passes_b
          chosen false fails = found

module _ (inner : List ℕ → List ℕ) (all : List Block) (one : AreOne inner all) where
  pub by_commitment-is : (c : List ℕ) (xs : List Cached) → AllByRecursion (Contains all) (filter_map cached_block xs) → cached_by_commitment c xs ≡ find (λ b. bytes_eq b.commitment c) (filter_map cached_block xs)
  by_commitment-is c = searched all (λ b. bytes_eq b.commitment c) same (has_commitment c) refl (λ b. refl)
    where
      same : (x y : Block) → Contains all x → Contains all y → bytes_eq x.commitment c ≡ true → bytes_eq y.commitment c ≡ true → x ≡ y
      same x y in_x in_y of_x of_y = one.one x y in_x in_y (sym (one.names x in_x) ∙ (ap inner (bytes_same x.commitment c of_x ∙ sym (bytes_same y.commitment c of_y)) ∙ one.names y in_y))

  pub by_digest-is : (d : List ℕ) (xs : List Cached) → AllByRecursion (Contains all) (filter_map cached_block xs) → cached_by_digest d xs ≡ find (λ b. bytes_eq b.digest d) (filter_map cached_block xs)
  by_digest-is d = searched all (λ b. bytes_eq b.digest d) same (has_digest d) refl (λ b. refl)
    where
      same : (x y : Block) → Contains all x → Contains all y → bytes_eq x.digest d ≡ true → bytes_eq y.digest d ≡ true → x ≡ y
      same x y in_x in_y of_x of_y = one.one x y in_x in_y (bytes_same x.digest d of_x ∙ sym (bytes_same y.digest d of_y))

-- OF A ROUND

pub eqb-sym : (a b : ℕ) → (a == b) ≡ (b == a)
eqb-sym a b = grind arith

lt-self : (a : ℕ) → nat_lt a a ≡ false
lt-self a = grind arith

-- of two verified blocks of a round none is found sooner
none_sooner : (r s : Round) (b c : Block) → s ≡ r → is_sooner (verified_entry s c) (verified_entry r b) ≡ false
none_sooner r s b c same =
    ap (λ k. is_sooner (verified_entry k c) (verified_entry r b)) same
    ∙ (ap (λ f. f || ((r.epoch == r.epoch) && nat_lt r.view r.view)) (lt-self r.epoch) ∙ (ap (λ f. (r.epoch == r.epoch) && f) (lt-self r.view) ∙ and_false (r.epoch == r.epoch)))

-- the first of what is found at a round is the block that was verified there first
pub verified_first : (r : Round) (xs : List Cached) → cached_at r xs ≡ first_verified xs r
verified_first r [] = refl
verified_first r (verified_entry s b ∷ xs) = ap (λ c. option_and_then cached_block (cond c (sooner_of (verified_entry s b) (soonest (is_verified_at r) xs)) (soonest (is_verified_at r) xs))) turned ∙ by (verified_first r xs) (round_eq r s) refl
  where
    turned : round_eq s r ≡ round_eq r s
    turned = ap₂ (λ a c. a && c) (eqb-sym s.epoch r.epoch) (eqb-sym s.view r.view)

    alone : (o : Option Cached) → ((y : Cached) → Some y ≡ o → is_verified_at r y ≡ true) → r ≡ s → option_and_then cached_block (sooner_of (verified_entry s b) o) ≡ Some b
    alone None passes at = refl
    alone (Some y) passes at = later y (passes y refl)
      where
        later : (y : Cached) → is_verified_at r y ≡ true → option_and_then cached_block (sooner_of (verified_entry s b) (Some y)) ≡ Some b
        later (verified_entry t c) is = ap (λ f. option_and_then cached_block (cond f (Some (verified_entry t c)) (Some (verified_entry s b)))) (none_sooner s t b c (rounds_same t r is ∙ at))
        later _ is = absurd cc

    by : cached_at r xs ≡ first_verified xs r → (c : Bool) → round_eq r s ≡ c → option_and_then cached_block (cond c (sooner_of (verified_entry s b) (soonest (is_verified_at r) xs)) (soonest (is_verified_at r) xs)) ≡ first_of (cons_option (cond c (Some b) None) (filter_map (verified_in r) xs))
    by rest true is = alone (soonest (is_verified_at r) xs) (λ y e. passes_found (is_verified_at r) xs y e) (rounds_same r s is)
    by rest false is = rest
verified_first r (finalization_entry f ∷ xs) = verified_first r xs
verified_first r (notarized_entry s b ∷ xs) = verified_first r xs
verified_first r (certified_entry k b ∷ xs) = verified_first r xs
verified_first r (notarization_entry n ∷ xs) = verified_first r xs
