-- What stands at the front of a snapshot's bytes.
use Rattle.std.proofs.Common.{◌≡◌, ℕ, ◌+◌, ◌<◌, ◌≤◌, ◌^◌, ◌++◌, List, [], ◌∷◌, ap, ap₂, append_assoc, arith, length, refl, sum, sym, take, ◌∙◌, slice_set, min}
use Rattle.std.specs.List.{AllByRecursion, flat_map}
use Rattle.std.proofs.lemmas.Grind.{flat_map-append}
use Rattle.std.proofs.lemmas.List.{append-nil, take_all, take_more_set}
use Rattle.std.proofs.lemmas.List.Sums.{sum_by-cons}
use Rattle.mar_types.specs.Codec.{HasNoFront}
use Rattle.mar_types.specs.Varint.{IsNumber, IsVarint, varint}
use Rattle.mar_cert.specs.SignersLemmas.{varint_rest}
use Rattle.mar_ledger.specs.Books.{AreBooks, Books, all_money}
use Rattle.mar_statesync.specs.Reading.{BeginsWith, HasNoNumbers, HasNoState, TakesNumbers, TakesState}
use Rattle.mar_statesync.specs.Snapshots.{IsState, state_bytes}

-- NUMBERS

-- as many numbers at one front are the same
numbers_rest : (xs ys rest left : List ℕ) → length xs ≡ length ys → flat_map varint xs ++ rest ≡ flat_map varint ys ++ left → (xs ≡ ys) × (rest ≡ left)
numbers_rest [] [] rest left long e = (refl, e)
numbers_rest [] (y ∷ ys) rest left long e = absurd (omega (arith, long))
numbers_rest (x ∷ xs) [] rest left long e = absurd (omega (arith, long))
numbers_rest (x ∷ xs) (y ∷ ys) rest left long e =
    let here = varint_rest x y (flat_map varint xs ++ rest) (flat_map varint ys ++ left)
    (sym (append_assoc (varint x) (flat_map varint xs) rest) ∙ e ∙ append_assoc (varint y) (flat_map varint ys) left) in
    let others = numbers_rest xs ys rest left (omega (arith, long)) here.1 in
    (ap₂ (λ (n : ℕ) (ns : List ℕ). n ∷ ns) here.0 others.0, others.1)

-- where fewer numbers were read than stand there, another one follows
number_next : (read numbers u rest : List ℕ) → AllByRecursion IsNumber numbers → length read < length numbers → flat_map varint read ++ u ≡ flat_map varint numbers ++ rest
    → (n : ℕ) × (left : List ℕ) × IsNumber n × (u ≡ varint n ++ left)
number_next read [] u rest fit fewer e = absurd (omega (arith, fewer))
number_next [] (n ∷ numbers) u rest fit fewer e = (n, flat_map varint numbers ++ rest, fit.0, e ∙ append_assoc (varint n) (flat_map varint numbers) rest)
number_next (a ∷ read) (n ∷ numbers) u rest fit fewer e =
    number_next read numbers u rest fit.1 (omega (arith, fewer))
    (varint_rest a n (flat_map varint read ++ u) (flat_map varint numbers ++ rest)
    (sym (append_assoc (varint a) (flat_map varint read) u) ∙ e ∙ append_assoc (varint n) (flat_map varint numbers) rest)).1

pub no_more : (count : ℕ) (read bytes u : List ℕ) → length read < count → bytes ≡ flat_map varint read ++ u → HasNoFront IsVarint u → HasNoNumbers count bytes
no_more count read bytes u fewer taken none numbers rest fit long e =
    let next = number_next read numbers u rest fit (omega (arith, fewer, long)) (sym taken ∙ e) in
    none (varint next.0) next.1 (record { number = next.0; fits = next.2; spelled = refl }) next.3

-- one number more was read into its place
pub takes_more : (xs : List ℕ) (i n : ℕ) (old mid new : List ℕ) → i < length xs → old ≡ flat_map varint (take i xs) ++ mid → mid ≡ varint n ++ new
    → old ≡ flat_map varint (take (i + 1) (slice_set xs i n)) ++ new
takes_more xs i n old mid new within so_far next =
    so_far ∙ ap (λ bs. flat_map varint (take i xs) ++ bs) next ∙ sym (append_assoc (flat_map varint (take i xs)) (varint n) new)
    ∙ ap (λ bs. flat_map varint (take i xs) ++ bs ++ new) (sym (append-nil (varint n)))
    ∙ ap (λ bs. bs ++ new) (sym (flat_map-append varint (take i xs) (n ∷ [])))
    ∙ ap (λ ns. flat_map varint ns ++ new) (sym (take_more_set xs i n within))

-- all of them
pub takes_all : (n : ℕ) (xs old new : List ℕ) → length xs ≡ 16 → 16 ≤ n → old ≡ flat_map varint (take n xs) ++ new → TakesNumbers 16 xs old new
takes_all n xs old new sixteen all taken = record { counted = sixteen; taken = taken ∙ ap (λ ns. flat_map varint ns ++ new) (take_all n xs (omega (arith, sixteen, all))) }

-- numbers that hold no more together than fits are numbers
pub numbers_fit : (xs : List ℕ) (most : ℕ) → sum xs ≤ most → most < 2 ^ 64 → AllByRecursion IsNumber xs
numbers_fit [] most within fits = tt
numbers_fit (x ∷ xs) most within fits =
    let all = sum_by-cons (λ n. n) x xs in
    (omega (arith, all, within, fits), numbers_fit xs most (omega (arith, all, within)) fits)

-- STATES

nested : (height : ℕ) (books : Books) (rest : List ℕ) → state_bytes height books ++ rest ≡ varint height ++ (varint books.rejected ++ (flat_map varint books.balances ++ rest))
nested height books rest =
    append_assoc (varint height ++ varint books.rejected) (flat_map varint books.balances) rest
    ∙ append_assoc (varint height) (varint books.rejected) (flat_map varint books.balances ++ rest)

abbrev made : List ℕ → ℕ → Books
made balances rejected = record { balances = balances; rejected = rejected }

-- two states at one front are one, and the same is behind them
pub state_rest : (h k : ℕ) (b c : Books) (rest left : List ℕ) → length b.balances ≡ length c.balances → state_bytes h b ++ rest ≡ state_bytes k c ++ left
    → (h ≡ k) × (b ≡ c) × (rest ≡ left)
state_rest h k b c rest left long e =
    let heights = varint_rest h k (varint b.rejected ++ (flat_map varint b.balances ++ rest)) (varint c.rejected ++ (flat_map varint c.balances ++ left))
    (sym (nested h b rest) ∙ e ∙ nested k c left) in
    let rejected = varint_rest b.rejected c.rejected (flat_map varint b.balances ++ rest) (flat_map varint c.balances ++ left) heights.1 in
    let balances = numbers_rest b.balances c.balances rest left long rejected.1 in
    (heights.0, ap₂ (λ (ns : List ℕ) (n : ℕ). made ns n) balances.0 rejected.0, balances.1)

pub no_height : (bytes : List ℕ) → HasNoFront IsVarint bytes → HasNoState bytes
no_height bytes none height books rest is e =
    none (varint height) (varint books.rejected ++ (flat_map varint books.balances ++ rest)) (record { number = height; fits = is.height_fits; spelled = refl })
    (e ∙ nested height books rest)

-- bytes that begin with a height
module _ (bytes u : List ℕ) (h : ℕ) (taken_h : bytes ≡ varint h ++ u) where
  after_height : (k : ℕ) (c : Books) (rest : List ℕ) → bytes ≡ state_bytes k c ++ rest → (h ≡ k) × (u ≡ varint c.rejected ++ (flat_map varint c.balances ++ rest))
  after_height k c rest e = varint_rest h k u (varint c.rejected ++ (flat_map varint c.balances ++ rest)) (sym taken_h ∙ e ∙ nested k c rest)

  pub no_rejected : HasNoFront IsVarint u → HasNoState bytes
  no_rejected none k c rest is e =
      none (varint c.rejected) (flat_map varint c.balances ++ rest) (record { number = c.rejected; fits = is.rejected_fits; spelled = refl }) (after_height k c rest e).1

  -- and a rejected count
  module _ (r : ℕ) (w : List ℕ) (taken_r : u ≡ varint r ++ w) where
    after_rejected : (k : ℕ) (c : Books) (rest : List ℕ) → bytes ≡ state_bytes k c ++ rest → (r ≡ c.rejected) × (w ≡ flat_map varint c.balances ++ rest)
    after_rejected k c rest e = varint_rest r c.rejected w (flat_map varint c.balances ++ rest) (sym taken_r ∙ (after_height k c rest e).1)

    pub no_balances : HasNoNumbers 16 w → HasNoState bytes
    no_balances none k c rest is e = none c.balances rest is.balances_fit is.are.sixteen (after_rejected k c rest e).1

    -- and sixteen balances
    module _ (balances new : List ℕ) (takes : TakesNumbers 16 balances w new) where
      pub whole : bytes ≡ state_bytes h (made balances r) ++ new
      whole = taken_h ∙ ap (λ bs. varint h ++ bs) (taken_r ∙ ap (λ bs. varint r ++ bs) takes.taken) ∙ sym (nested h (made balances r) new)

      abbrev pub begins : BeginsWith bytes
      begins = record { height = h; rejected = r; balances = balances; sixteen = takes.counted; rest = new; spelled = whole }

      pub other_sum : (sum balances ≡ all_money → ⊥) → HasNoState bytes
      other_sum other k c rest is e =
          let same = numbers_rest balances c.balances new rest (takes.counted ∙ sym is.are.sixteen) (sym takes.taken ∙ (after_rejected k c rest e).1) in
          other (ap sum same.0 ∙ is.are.whole)

      pub too_many : h + 1 < r → HasNoState bytes
      too_many above k c rest is e =
          let rejected = (after_rejected k c rest e).0 in
          let height = (after_height k c rest e).0 in
          absurd (omega (arith, above, rejected, height, is.rejected))

      pub takes_state : (books : Books) → h < 2 ^ 64 → r < 2 ^ 64 → books ≡ made balances r → sum balances ≡ all_money → r ≤ h + 1 → TakesState h books bytes new
      takes_state books h_fits r_fits same sums few = rw same (record {
        is = record {
          height_fits = h_fits;
          rejected_fits = r_fits;
          balances_fit = numbers_fit balances all_money (omega (arith, sums)) (omega arith);
          are = record { sixteen = takes.counted; whole = sums };
          rejected = few;
        };
        taken = whole;
      })
