-- What is asked as a cutoff rises twice is what is asked as it rises over both.
use Rattle.std.proofs.Common.{◌≡◌, ℕ, List, [], ◌∷◌, ◌++◌, Bool, true, false, if◌then◌else◌, ◌==◌, ◌&&◌, ◌||◌, nat_le, nat_lt, Option, option_map, option_to_list, Result, IsTrue, refl, sym, ◌∙◌, ap, ap₂, subst, arith}
use Rattle.std.proofs.lemmas.Bool.Decides.{nat_tests}
use Rattle.mar_types.specs.Round.{Round}
use Rattle.mar_key.specs.Cutoff.{Cutoff, at_epoch, at_round, cutoff_le, cutoff_max, greatest_of}
use Rattle.mar_key.specs.Hears.{Hears}
use Rattle.mar_key.specs.Keys.{Call, above_height, above_round, retain}
use Rattle.mar_key.proofs.CutoffOrder.{cutoff_le-total}
use Rattle.mar_key.specs.Processed.{Processed}
use Rattle.mar_types.specs.Epochs.{Epochs}
use Rattle.mar_model.specs.Held.{Watches, Seen}
use Rattle.mar_model.specs.Event.{closed_at, retired, round_at}
use Rattle.mar_model.specs.Moves.{HearsFront, HearsUpTo, IsRead}
use Rattle.mar_model.specs.Requests.{raise_asks}
use Rattle.mar_model.proofs.Handing.{Hears-then, HearsFront-more, HearsFront-then, HearsUpTo-then}

-- two cutoffs that reach each other are one
cutoff_le-both : (c d : Cutoff) → IsTrue (cutoff_le c d) → IsTrue (cutoff_le d c) → c ≡ d
cutoff_le-both (at_round a) (at_round b) ab ba = ap₂ (λ e v. at_round (record { epoch = e; view = v })) (epochs a.epoch b.epoch a.view b.view ab ba) (views a.epoch b.epoch a.view b.view ab ba)
  where
    epochs : (e f v w : ℕ) → (nat_lt e f || (e == f && nat_le v w)) ≡ true → (nat_lt f e || (f == e && nat_le w v)) ≡ true → e ≡ f
    epochs e f v w ef fe = grind (arith, nat_tests)

    views : (e f v w : ℕ) → (nat_lt e f || (e == f && nat_le v w)) ≡ true → (nat_lt f e || (f == e && nat_le w v)) ≡ true → v ≡ w
    views e f v w ef fe = grind (arith, nat_tests)
cutoff_le-both (at_round a) (at_epoch e) ab ba = absurd (clash a.epoch e ab ba)
  where
    clash : (f e : ℕ) → nat_le f e ≡ true → nat_lt e f ≡ true → ⊥
    clash f e ab ba = grind (arith, nat_tests)
cutoff_le-both (at_epoch e) (at_round b) ab ba = absurd (clash b.epoch e ba ab)
  where
    clash : (f e : ℕ) → nat_le f e ≡ true → nat_lt e f ≡ true → ⊥
    clash f e ab ba = grind (arith, nat_tests)
cutoff_le-both (at_epoch e) (at_epoch f) ab ba = ap at_epoch (same e f ab ba)
  where
    same : (e f : ℕ) → nat_le e f ≡ true → nat_le f e ≡ true → e ≡ f
    same e f ab ba = grind (arith, nat_tests)

-- the greater of two, by whether the second reaches no further
max_low : (c d : Cutoff) → cutoff_le d c ≡ true → cutoff_max c d ≡ c
max_low c d low = by (cutoff_le c d) refl
  where
    by : (b : Bool) → cutoff_le c d ≡ b → (if b then d else c) ≡ c
    by true high = cutoff_le-both d c low high
    by false less = refl

max_high : (c d : Cutoff) → cutoff_le d c ≡ false → cutoff_max c d ≡ d
max_high c d above = ap (λ (b : Bool). if b then d else c) (cutoff_le-total d c above)

pub raise_asks-append : (c : Cutoff) (xs ys : List Cutoff) → raise_asks c (xs ++ ys) ≡ raise_asks c xs ++ raise_asks (greatest_of c xs) ys
raise_asks-append c [] ys = refl
raise_asks-append c (x ∷ xs) ys = by (cutoff_le x c) refl (raise_asks-append c xs ys) (raise_asks-append x xs ys)
  where
    by : (b : Bool) → cutoff_le x c ≡ b → raise_asks c (xs ++ ys) ≡ raise_asks c xs ++ raise_asks (greatest_of c xs) ys → raise_asks x (xs ++ ys) ≡ raise_asks x xs ++ raise_asks (greatest_of x xs) ys → (if b then raise_asks c (xs ++ ys) else retain (above_round x) ∷ raise_asks x (xs ++ ys)) ≡ (if b then raise_asks c xs else retain (above_round x) ∷ raise_asks x xs) ++ raise_asks (greatest_of (cutoff_max c x) xs) ys
    by true low same other = same ∙ ap (λ d. raise_asks c xs ++ raise_asks (greatest_of d xs) ys) (sym (max_low c x low))
    by false above same other = ap (λ zs. retain (above_round x) ∷ zs) (other ∙ ap (λ d. raise_asks x xs ++ raise_asks (greatest_of d xs) ys) (sym (max_high c x above)))

-- what is heard as a height is processed: one retain, the raise to its round, the raise over epochs
pub HearsUpTo-processed : {A C : Type 0} (result : Result A C) (first second third last : Option (List Call)) (call : Call) (c d : Cutoff) (xs ys : List Cutoff) → Hears first (call ∷ []) second → Hears second (raise_asks c xs) third → d ≡ greatest_of c xs → HearsUpTo third (raise_asks d ys) last result → HearsUpTo first (call ∷ raise_asks c (xs ++ ys)) last result
HearsUpTo-processed result first second third last call c d xs ys before raised is after =
    subst (λ zs. HearsUpTo first (call ∷ zs) last result) (sym (raise_asks-append c xs ys))
    (HearsUpTo-then first (call ∷ raise_asks c xs) third (raise_asks (greatest_of c xs) ys) last result (Hears-then first second third (call ∷ []) (raise_asks c xs) before raised) (subst (λ k. HearsUpTo third (raise_asks k ys) last result) is after))

-- a front of the raise over both is heard where the second is not begun
pub HearsFront-raised : (c : Cutoff) (xs ys : List Cutoff) (old new : Option (List Call)) → HearsFront old (raise_asks c xs) new → HearsFront old (raise_asks c (xs ++ ys)) new
HearsFront-raised c xs ys old new front = subst (λ zs. HearsFront old zs new) (sym (raise_asks-append c xs ys)) (HearsFront-more old (raise_asks c xs) (raise_asks (greatest_of c xs) ys) new front)

-- the same, of the actors between
module _ {P E : Type 0} (epochs_of : E → Epochs) (old one two : Seen P E) (processed : Option Processed) (watches : Watches) (height : ℕ) (round : Option Round) (one_is : one ≡ record old { held = record old.held { processed = processed; watches = watches } }) (two_is : IsRead one two) (round_is : round ≡ round_at one.held.certs.held height) where
  cutoff_is : two.held.cutoff ≡ old.held.cutoff
  cutoff_is = ap (λ a. a.held.cutoff) two_is ∙ ap (λ a. a.held.cutoff) one_is

  epocher_is : two.life.epocher ≡ old.life.epocher
  epocher_is = ap (λ a. a.life.epocher) two_is ∙ ap (λ a. a.life.epocher) one_is

  round_old : round ≡ round_at old.held.certs.held height
  round_old = round_is ∙ ap (λ a. round_at a.held.certs.held height) one_is

  raised_old : raise_asks two.held.cutoff (option_to_list (option_map at_round round)) ≡ raise_asks old.held.cutoff (option_to_list (option_map at_round (round_at old.held.certs.held height)))
  raised_old = ap₂ (λ c o. raise_asks c (option_to_list (option_map at_round o))) cutoff_is round_old

  abbrev pub retired_old : List Cutoff
  retired_old = retired (epochs_of old.life.epocher) old.held.certs.held height

  -- the raise to its round ended the life
  pub unraised_asks : (first second last : Option (List Call)) → Hears first (retain (above_height height) ∷ []) second → HearsFront second (raise_asks two.held.cutoff (option_to_list (option_map at_round round))) last → HearsFront first (retain (above_height height) ∷ raise_asks old.held.cutoff retired_old) last
  unraised_asks first second last before front =
      HearsFront-then first (retain (above_height height) ∷ []) second (raise_asks old.held.cutoff retired_old) last before
      (HearsFront-raised old.held.cutoff (option_to_list (option_map at_round (round_at old.held.certs.held height))) (closed_at (epochs_of old.life.epocher) height) second last (subst (λ zs. HearsFront second zs last) raised_old front))

  -- or it went on, and over the epochs
  pub process_asks : {A C : Type 0} (three : Seen P E) (result : Result A C) (first second third last : Option (List Call)) → three.held.cutoff ≡ greatest_of two.held.cutoff (option_to_list (option_map at_round round)) → three.life.epocher ≡ two.life.epocher → Hears first (retain (above_height height) ∷ []) second → Hears second (raise_asks two.held.cutoff (option_to_list (option_map at_round round))) third → HearsUpTo third (raise_asks three.held.cutoff (closed_at (epochs_of three.life.epocher) height)) last result → HearsUpTo first (retain (above_height height) ∷ raise_asks old.held.cutoff retired_old) last result
  process_asks three result first second third last raised same_epocher before between after =
      HearsUpTo-processed result first second third last (retain (above_height height)) old.held.cutoff three.held.cutoff (option_to_list (option_map at_round (round_at old.held.certs.held height))) (closed_at (epochs_of old.life.epocher) height)
      before
      (subst (λ zs. Hears second zs third) raised_old between)
      (raised ∙ ap₂ (λ c o. greatest_of c (option_to_list (option_map at_round o))) cutoff_is round_old)
      (subst (λ e. HearsUpTo third (raise_asks three.held.cutoff (closed_at (epochs_of e) height)) last result) (same_epocher ∙ epocher_is) after)
