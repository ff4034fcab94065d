-- A value whose parts are written one after another.
use Rattle.std.proofs.Common.{Err, List, Ok, Result, [], add-one, ap, append_assoc, arith, drop, drop-cons, get_or, length, length-append, refl, suc, sym, ℕ, ◌++◌, ◌+◌, ◌<◌, ◌∙◌, ◌≡◌, ◌≤◌}
use Rattle.std.proofs.lemmas.List.{append-nil}
use Rattle.std.specs.List.{flat_map}
use Rattle.std.specs.Prelude.{OnErr}
use Rattle.mar_types.specs.Codec.{AppendsFront}

-- a front of the bytes stands in the buffer, and `left` is to come
pub record IsPartWritten (bytes left start now : List ℕ) (room spare : ℕ) : Type 0 where
  pub front : List ℕ
  pub spelled : bytes ≡ front ++ left
  pub wrote : now ≡ start ++ front
  pub room_left : room ≤ spare + length front

pub starts : (bytes start : List ℕ) (room : ℕ) → IsPartWritten bytes bytes start start room room
starts bytes start room = record { front = []; spelled = refl; wrote = sym (append-nil start); room_left = omega arith }

-- nothing is written yet, and these parts are to come
pub starts_with : (bytes parts start : List ℕ) (room : ℕ) → bytes ≡ parts → IsPartWritten bytes parts start start room room
starts_with bytes parts start room is = record { front = []; spelled = is; wrote = sym (append-nil start); room_left = omega arith }

pub goes_on : (bytes part left start now now' : List ℕ) (room spare spare' : ℕ) → IsPartWritten bytes (part ++ left) start now room spare
    → now' ≡ now ++ part → spare ≤ spare' + length part → IsPartWritten bytes left start now' room spare'
goes_on bytes part left start now now' room spare spare' p wrote used = record {
  front = p.front ++ part;
  spelled = p.spelled ∙ sym (append_assoc p.front part left);
  wrote = wrote ∙ ap (λ xs. xs ++ part) p.wrote ∙ append_assoc start p.front part;
  room_left = omega (arith, p.room_left, used, length-append p.front part);
}

pub stops : (bytes part left start now now' : List ℕ) (room spare : ℕ) → IsPartWritten bytes (part ++ left) start now room spare
    → AppendsFront part now now' → AppendsFront bytes start now'
stops bytes part left start now now' room spare p more = record {
  front = p.front ++ more.front;
  missing = more.missing ++ left;
  spelled = p.spelled ∙ ap (λ xs. p.front ++ (xs ++ left)) more.spelled ∙ ap (λ xs. p.front ++ xs) (append_assoc more.front more.missing left) ∙ sym (append_assoc p.front more.front (more.missing ++ left));
  appended = more.appended ∙ ap (λ xs. xs ++ more.front) p.wrote ∙ append_assoc start p.front more.front;
}

pub used : (bytes start now : List ℕ) (room spare : ℕ) → IsPartWritten bytes [] start now room spare → room ≤ spare + length bytes
used bytes start now room spare p = omega (arith, p.room_left, ap length p.spelled, ap length (append-nil p.front))

whole : (bytes part start now : List ℕ) (room spare : ℕ) → IsPartWritten bytes part start now room spare → IsPartWritten bytes (part ++ []) start now room spare
whole bytes part start now room spare p = record { front = p.front; spelled = p.spelled ∙ ap (λ xs. p.front ++ xs) (sym (append-nil part)); wrote = p.wrote; room_left = p.room_left }

pub last_err : {T E : Type 0} (r : Result T E) (bytes part start now now' : List ℕ) (room spare : ℕ) → IsPartWritten bytes part start now room spare
    → OnErr r (AppendsFront part now now') → OnErr r (AppendsFront bytes start now')
last_err (Ok v) bytes part start now now' room spare p more = more
last_err (Err e) bytes part start now now' room spare p more = stops bytes part [] start now now' room spare (whole bytes part start now room spare p) more

-- parts of one kind, the one at i next
pub flat_map-drop : {X : Type 0} (f : X → List ℕ) (xs : List X) (i : ℕ) (x : X) → i < length xs → x ≡ get_or xs i x → flat_map f (drop i xs) ≡ f x ++ flat_map f (drop (i + 1) xs)
flat_map-drop f xs i x below is = ap (flat_map f) (drop-cons xs i x below) ∙ ap (λ y. f y ++ flat_map f (drop (suc i) xs)) (sym is) ∙ ap (λ k. f x ++ flat_map f (drop k xs)) (sym (add-one i))

pub next_part : {X : Type 0} (f : X → List ℕ) (xs : List X) (i : ℕ) (x : X) (bytes start now : List ℕ) (room spare : ℕ) → i < length xs → x ≡ get_or xs i x
    → IsPartWritten bytes (flat_map f (drop i xs)) start now room spare → IsPartWritten bytes (f x ++ flat_map f (drop (i + 1) xs)) start now room spare
next_part f xs i x bytes start now room spare below is p =
    record { front = p.front; spelled = p.spelled ∙ ap (λ bs. p.front ++ bs) (flat_map-drop f xs i x below is); wrote = p.wrote; room_left = p.room_left }
