-- What stands for a ticket, and where, as more comes.
use Rattle.std.proofs.Common.{Bool, List, None, Option, Some, [], ap, arith, cond, false, is_some, length, not, refl, suc, sym, true, zero, ℕ, ◌++◌, ◌<◌, ◌==◌, ◌||◌, ◌∙◌, ◌∷◌, ◌≡◌}
use Rattle.std.proofs.lemmas.Bool.Decides.{nat_tests}
use Rattle.std.proofs.lemmas.List.{length_push}
use Rattle.std.proofs.lemmas.List.Sums.{fold_push}
use Rattle.std.specs.List.{list_any}
use Rattle.std.specs.Ordering.{is_eq, nat_cmp}
use Rattle.std.specs.Prelude.{fold, if◌then◌else◌, option_map, slice_get}
use Rattle.mar_inbox.specs.Answers.{StandsAt, standing, stood_after}
use Rattle.mar_inbox.specs.declared.answers.Answer.{Answer}
use Rattle.mar_inbox.specs.declared.answers.Answer.TheVariants.{Closed, Value}
use Rattle.mar_inbox.specs.declared.answers.Answered.{Answered}

-- one more at the end
standing_push : {V : Type 0} (answers : List (Answered V)) (came : Answered V) (k : ℕ)
    → standing (answers ++ came ∷ []) k ≡ (if came.ticket == k then stood_after (standing answers k) came.answer else standing answers k)
standing_push answers came k = fold_push (λ stood a. if a.ticket == k then stood_after stood a.answer else stood) None answers came

-- once something stands, something does
stays : {V : Type 0} (stood : Option (Answer V)) (came : Answer V) → is_some (stood_after stood came) ≡ true
stays None came = refl
stays (Some (Value v)) (Value w) = refl
stays (Some (Value v)) Closed = refl
stays (Some Closed) (Value w) = refl
stays (Some Closed) Closed = refl

-- something stands exactly where something came
stands_where : {V : Type 0} (k : ℕ) (answers : List (Answered V)) (stood : Option (Answer V))
    → is_some (fold (λ stood a. if a.ticket == k then stood_after stood a.answer else stood) stood answers) ≡ (is_some stood || list_any (λ a. a.ticket == k) answers)
stands_where k [] None = refl
stands_where k [] (Some a) = refl
stands_where k (x ∷ xs) None =
    elim (x.ticket == k) as (λ b. is_some (fold (λ stood a. if a.ticket == k then stood_after stood a.answer else stood) (cond b (Some x.answer) None) xs) ≡ (b || list_any (λ a. a.ticket == k) xs))
    [ true ↦ stands_where k xs (Some x.answer) | false ↦ stands_where k xs None ]
stands_where k (x ∷ xs) (Some a) =
    elim (x.ticket == k) as (λ b. is_some (fold (λ stood a. if a.ticket == k then stood_after stood a.answer else stood) (cond b (stood_after (Some a) x.answer) (Some a)) xs) ≡ true) [
      | true ↦ stands_where k xs (stood_after (Some a) x.answer) ∙ ap (λ b. b || list_any (λ a. a.ticket == k) xs) (stays (Some a) x.answer)
      | false ↦ stands_where k xs (Some a)
    ]

-- whether a ticket waits, by what stands for it
pub waits : {V : Type 0} (k : ℕ) (answers : List (Answered V)) (stood : Option (Answer V)) → stood ≡ standing answers k → not (is_some stood) ≡ not (list_any (λ a. a.ticket == k) answers)
waits k answers stood is = ap (λ o. not (is_some o)) is ∙ ap not (stands_where k answers None)

-- an entry stands where it stood with one more at the end, and that one behind all
get_front : {T : Type 0} (xs : List T) (x : T) (k : ℕ) → k < length xs → slice_get (xs ++ x ∷ []) k ≡ slice_get xs k
get_front [] x k below = absurd (omega (arith, below))
get_front (y ∷ ys) x zero below = refl
get_front (y ∷ ys) x (suc k) below = get_front ys x k (omega (arith, below))

get_last : {T : Type 0} (xs : List T) (x : T) → slice_get (xs ++ x ∷ []) (length xs) ≡ Some x
get_last [] x = refl
get_last (y ∷ ys) x = get_last ys x

-- one more at the end leaves what stands at a place
still_at : {V : Type 0} (answers : List (Answered V)) (came : Answered V) (k : ℕ) (place : Option ℕ) → StandsAt answers k place → standing (answers ++ came ∷ []) k ≡ standing answers k
    → StandsAt (answers ++ came ∷ []) k place
still_at answers came k None stands same = (stands.0 ∙ sym same, tt)
still_at answers came k (Some i) stands same = (
  ap (option_map (λ a. a.answer)) (get_front answers came i stands.1) ∙ (stands.0 ∙ sym same),
  omega (arith, stands.1, length_push answers came),
)

other_stands : {V : Type 0} (answers : List (Answered V)) (came : Answered V) (k : ℕ) → came.ticket == k ≡ false → standing (answers ++ came ∷ []) k ≡ standing answers k
other_stands answers came k other = standing_push answers came k ∙ ap (λ b. if b then stood_after (standing answers k) came.answer else standing answers k) other

-- the same number, as a map's order tells it
same_ticket : (t k : ℕ) → is_eq (nat_cmp t k) ≡ (t == k)
same_ticket t k = grind (arith, nat_tests)

-- where what came doesn't take over, all stands where it stood
pub left_standing : {V : Type 0} (answers more : List (Answered V)) (came : Answered V) (stood : Option (Answer V)) (takes : Bool) (k : ℕ) (place : Option ℕ) → more ≡ answers ++ came ∷ []
    → stood ≡ standing answers came.ticket → stood_after stood came.answer ≡ (if takes then Some came.answer else stood) → takes ≡ false → StandsAt answers k place → StandsAt more k place
left_standing answers more came stood takes k place are is after not_taken stands = rw are (still_at answers came k place stands (by_ticket (came.ticket == k) refl))
  where
    same : stood_after (standing answers came.ticket) came.answer ≡ standing answers came.ticket
    same = rw is at (after ∙ ap (λ b. if b then Some came.answer else stood) not_taken)

    by_ticket : (b : Bool) → came.ticket == k ≡ b → standing (answers ++ came ∷ []) k ≡ standing answers k
    by_ticket false other = other_stands answers came k other
    by_ticket true this =
        let one : came.ticket ≡ k = grind (arith, nat_tests) in
        standing_push answers came k ∙ (ap (λ b. if b then stood_after (standing answers k) came.answer else standing answers k) this ∙ (rw one at same))

-- where it does, it stands at the end, and all else where it stood
pub taken_over : {V : Type 0} (answers more : List (Answered V)) (came : Answered V) (stood : Option (Answer V)) (takes : Bool) (k end : ℕ) (place now : Option ℕ) → more ≡ answers ++ came ∷ []
    → stood ≡ standing answers came.ticket → stood_after stood came.answer ≡ (if takes then Some came.answer else stood) → takes ≡ true → StandsAt answers k place
    → end ≡ length answers → now ≡ (if is_eq (nat_cmp came.ticket k) then Some end else place) → StandsAt more k now
taken_over answers more came stood takes k end place now are is after taken stands last gives = rw (are, gives, same_ticket came.ticket k, last) (by_ticket (came.ticket == k) refl)
  where
    new : stood_after (standing answers came.ticket) came.answer ≡ Some came.answer
    new = rw is at (after ∙ ap (λ b. if b then Some came.answer else stood) taken)

    by_ticket : (b : Bool) → came.ticket == k ≡ b → StandsAt (answers ++ came ∷ []) k (if b then Some (length answers) else place)
    by_ticket false other = still_at answers came k place stands (other_stands answers came k other)
    by_ticket true this =
        let one : came.ticket ≡ k = grind (arith, nat_tests) in (
          ap (option_map (λ a. a.answer)) (get_last answers came)
              ∙ sym (standing_push answers came k ∙ (ap (λ b. if b then stood_after (standing answers k) came.answer else standing answers k) this ∙ (rw one at new))),
          omega (arith, length_push answers came),
        )
