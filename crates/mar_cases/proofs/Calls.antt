-- One more call of a disk in memory, and what a crash by luck leaves.
use Rattle.std.proofs.Common.{Bool, Global, List, Vec, [], ap, arith, cond, drop, false, inl, inr, length, length-append, refl, replicate, subst, sym, take, true, ℕ, ◌++◌, ◌+◌, ◌-◌, ◌<◌, ◌∙◌, ◌∷◌, ◌≡◌, ◌≤◌, ◌⊎◌, max}
use Rattle.std.proofs.lemmas.Bool.{cases_eq}
use Rattle.std.proofs.lemmas.List.{append-nil, drop_all, length-replicate, take-append-le, take_all}
use Rattle.mar_journal.specs.Disk.{Elapses, Follows, Holds, Narrows, Only, Torn}
use Rattle.mar_cases.specs.Calls.{After, Leaves, LeavesOf, LeftSince, crashed, keeps_write, overwritten, padded, seen_after}
use Rattle.mar_cases.specs.CallLemmas.{leaves_seen, length-overwritten, torn_overwritten}
use Rattle.mar_cases.specs.declared.disk_call.DiskCall.{DiskCall}
use Rattle.mar_cases.specs.declared.disk_call.DiskCall.TheVariants.{Crash, Sync, Write}

-- a write that begins within the bytes
pub holds_overwritten : (old : List ℕ) (at : ℕ) (bytes : List ℕ) → at ≤ length old → Holds old at bytes (overwritten old at bytes)
holds_overwritten old at bytes within =
    let none : at - length old ≡ 0 = omega arith in
    ap (λ (n : ℕ). take at old ++ replicate n 0 ++ bytes ++ drop (at + length bytes) old) none
    ∙ ap (λ (l : List ℕ). l ++ bytes ++ drop (at + length bytes) old) (append-nil (take at old))

pub leaves_write : (images : List ℕ → Type 0) (bytes : List ℕ) (calls : List DiskCall) (at : ℕ) (v : _) (c : List ℕ) → Leaves images bytes (calls ++ Write at v ∷ []) c → After (Leaves images bytes calls) at (length v.items) c
leaves_write images bytes [] at v c left = left
leaves_write images bytes (Write a w ∷ calls) at v c left = leaves_write (After images a (length w.items)) (overwritten bytes a w.items) calls at v c left
leaves_write images bytes (Sync ∷ calls) at v c left = leaves_write (λ d. d ≡ bytes) bytes calls at v c left
leaves_write images bytes (Crash w ∷ calls) at v c left = leaves_write (λ d. d ≡ w.items) w.items calls at v c left

pub leaves_sync : (images : List ℕ → Type 0) (bytes : List ℕ) (calls : List DiskCall) (c : List ℕ) → Leaves images bytes (calls ++ Sync ∷ []) c → c ≡ seen_after bytes calls
leaves_sync images bytes [] c left = left
leaves_sync images bytes (Write a w ∷ calls) c left = leaves_sync (After images a (length w.items)) (overwritten bytes a w.items) calls c left
leaves_sync images bytes (Sync ∷ calls) c left = leaves_sync (λ d. d ≡ bytes) bytes calls c left
leaves_sync images bytes (Crash w ∷ calls) c left = leaves_sync (λ d. d ≡ w.items) w.items calls c left

pub leaves_crash : (images : List ℕ → Type 0) (bytes : List ℕ) (calls : List DiskCall) (v : _) (c : List ℕ) → Leaves images bytes (calls ++ Crash v ∷ []) c → c ≡ v.items
leaves_crash images bytes [] v c left = left
leaves_crash images bytes (Write a w ∷ calls) v c left = leaves_crash (After images a (length w.items)) (overwritten bytes a w.items) calls v c left
leaves_crash images bytes (Sync ∷ calls) v c left = leaves_crash (λ d. d ≡ bytes) bytes calls v c left
leaves_crash images bytes (Crash w ∷ calls) v c left = leaves_crash (λ d. d ≡ w.items) w.items calls v c left

-- what is read after one more call is what that call makes of it
pub seen_more : (bytes : List ℕ) (calls more : List DiskCall) → seen_after bytes (calls ++ more) ≡ seen_after (seen_after bytes calls) more
seen_more bytes [] more = refl
seen_more bytes (Write at w ∷ calls) more = seen_more (overwritten bytes at w.items) calls more
seen_more bytes (Sync ∷ calls) more = seen_more bytes calls more
seen_more bytes (Crash w ∷ calls) more = seen_more w.items calls more

upto_or_past : (k n : ℕ) → (k ≤ n) ⊎ (n < k)
upto_or_past k n = elim (cases_eq (k - n) 0) [ inl is ↦ inl (omega arith) | inr not ↦ inr (omega arith) ]

pub elapses_push : (first : List ℕ) (calls later : List DiskCall) (call : DiskCall) → later ≡ calls ++ call ∷ []
    → Elapses (length calls) (length later) (LeftSince first calls) (LeftSince first later) (LeavesOf first later)
elapses_push first calls later call is = subst
    (λ l. Elapses (length calls) (length l) (LeftSince first calls) (LeftSince first l) (LeavesOf first l)) (sym is)
    (record {
      later = omega (arith, size);
      nothing_else = λ t c le left. elim (upto_or_past left.0 (length calls)) [
        | inl upto ↦ inl (left.0, left.1, upto, subst (λ l. LeavesOf first l c) (front left.0 upto) left.3)
        | inr past ↦ inr (subst (λ l. LeavesOf first l c) (take_all left.0 (calls ++ call ∷ []) (omega (arith, past, size))) left.3)
      ];
      keeps = λ t c le left. (left.0, left.1, omega (arith, left.2, size), subst (λ l. LeavesOf first l c) (sym (front left.0 left.2)) left.3);
    })
  where
    size : length (calls ++ call ∷ []) ≡ length calls + 1
    size = omega (arith, length-append calls (call ∷ []))

    front : (k : ℕ) → k ≤ length calls → take k (calls ++ call ∷ []) ≡ take k calls
    front k le = take-append-le k calls (call ∷ []) le

pub elapses_same : (n : ℕ) (since : ℕ → List ℕ → Type 0) (images : List ℕ → Type 0) → Elapses n n since since images
elapses_same n since images = record { later = omega arith; nothing_else = λ t c le left. inl left; keeps = λ t c le left. left }

-- a write that luck doesn't keep
torn_padded : (old : List ℕ) (at size n : ℕ) → n ≡ max (length old) (at + size) → Torn at size old (padded old n)
torn_padded old at size n is = record {
  before = λ m before within. take-append-le m old (replicate (n - length old) 0) within;
  after = elim (upto_or_past (at + size) (length old)) [
    | inl within ↦
        let none : n - length old ≡ 0 = omega (arith, is) in
        ap (λ (k : ℕ). drop (at + size) (old ++ replicate k 0)) none ∙ ap (λ (l : List ℕ). drop (at + size) l) (append-nil old)
    | inr past ↦ drop_all (at + size) (padded old n) (omega (arith, is, long)) ∙ sym (drop_all (at + size) old (omega (arith, past)))
  ];
  no_shorter = omega (arith, long);
  no_longer = omega (arith, long, is);
}
  where
    long : length (padded old n) ≡ length old + (n - length old)
    long = omega (arith, length-append old (replicate (n - length old) 0), length-replicate {A = ℕ} (n - length old) 0)

length-padded : (old : List ℕ) (n : ℕ) → length old ≤ n → length (padded old n) ≡ n
length-padded old n le = omega (arith, length-append old (replicate (n - length old) 0), length-replicate {A = ℕ} (n - length old) 0)

-- one write, kept or not
record IsTornSo (bytes left : List ℕ) (at : ℕ) (written : List ℕ) (new : List ℕ) : Type 0 where
  torn : Torn at (length written) left new
  long : length new ≡ length (overwritten bytes at written)

by_luck : (kept : Bool) (bytes left : List ℕ) (at : ℕ) (written : List ℕ) → length left ≡ length bytes
    → IsTornSo bytes left at written (cond kept (overwritten left at written) (padded left (length (overwritten bytes at written))))
by_luck true bytes left at written same = record {
  torn = torn_overwritten left at written;
  long = omega (arith, same, length-overwritten left at written, length-overwritten bytes at written);
}
by_luck false bytes left at written same =
    let size = length-overwritten bytes at written in
    record { torn = torn_padded left at (length written) _ (omega (arith, size, same)); long = length-padded left _ (omega (arith, size, same)) }

crash_leaves : (luck k : ℕ) (images : List ℕ → Type 0) (bytes left : List ℕ) (calls : List DiskCall) → length left ≡ length bytes → images left → Leaves images bytes calls (crashed luck k bytes left calls)
crash_leaves luck k images bytes left [] same is = is
crash_leaves luck k images bytes left (Write at w ∷ calls) same is =
    let next = by_luck (keeps_write luck k) bytes left at w.items same in
    crash_leaves luck (k + 1) (After images at (length w.items)) (overwritten bytes at w.items) (cond (keeps_write luck k) (overwritten left at w.items) (padded left (length (overwritten bytes at w.items)))) calls next.long (left, is, next.torn)
crash_leaves luck k images bytes left (Sync ∷ calls) same is = crash_leaves luck 0 (λ d. d ≡ bytes) bytes bytes calls refl refl
crash_leaves luck k images bytes left (Crash w ∷ calls) same is = crash_leaves luck 0 (λ d. d ≡ w.items) w.items w.items calls refl refl

-- a crash by luck leaves an image
pub crash_is_image : (luck : ℕ) (first : List ℕ) (calls : List DiskCall) → LeavesOf first calls (crashed luck 0 first first calls)
crash_is_image luck first calls = crash_leaves luck 0 (λ d. d ≡ first) first first calls refl refl

-- nor does it change the length
length-crash : (luck k : ℕ) (bytes left : List ℕ) (calls : List DiskCall) → length left ≡ length bytes → length (crashed luck k bytes left calls) ≡ length (seen_after bytes calls)
length-crash luck k bytes left [] same = same
length-crash luck k bytes left (Write at w ∷ calls) same =
    let next = by_luck (keeps_write luck k) bytes left at w.items same in
    length-crash luck (k + 1) (overwritten bytes at w.items) (cond (keeps_write luck k) (overwritten left at w.items) (padded left (length (overwritten bytes at w.items)))) calls next.long
length-crash luck k bytes left (Sync ∷ calls) same = length-crash luck 0 bytes bytes calls refl
length-crash luck k bytes left (Crash w ∷ calls) same = length-crash luck 0 w.items w.items calls refl

pub crash_is_as_long : (luck : ℕ) (first : List ℕ) (calls : List DiskCall) → length (crashed luck 0 first first calls) ≡ length (seen_after first calls)
crash_is_as_long luck first calls = length-crash luck 0 first first calls refl

-- what isn't written is torn by nothing
torn_same : (at size : ℕ) (c : List ℕ) → Torn at size c c
torn_same at size c = record { before = λ n before within. refl; after = refl; no_shorter = omega arith; no_longer = omega arith }

-- a write that failed
pub follows_same : (at size : ℕ) (images : List ℕ → Type 0) → Follows (Torn at size) images images
follows_same at size images = λ c left. (c, left, torn_same at size c)

-- a write that went well
pub follows_write : (first : List ℕ) (calls later : List DiskCall) (at : ℕ) (v : Vec ℕ Global) (bytes : List ℕ) → later ≡ calls ++ Write at v ∷ [] → v.items ≡ bytes
    → Follows (Torn at (length bytes)) (LeavesOf first calls) (LeavesOf first later)
follows_write first calls later at v bytes is same = λ c left.
    let torn = leaves_write (λ d. d ≡ first) first calls at v c (subst (λ l. LeavesOf first l c) is left) in
    (torn.0, torn.1, subst (λ b. Torn at (length b) torn.0 c) same torn.2)

pub read_write : (first bytes new : List ℕ) (calls later : List DiskCall) (at : ℕ) (v : Vec ℕ Global) (written : List ℕ) → later ≡ calls ++ Write at v ∷ [] → v.items ≡ written → new ≡ overwritten bytes at written
    → bytes ≡ seen_after first calls → new ≡ seen_after first later
read_write first bytes new calls later at v written is same new_is was =
    new_is ∙ ap (λ b. overwritten b at written) was ∙ ap (λ w. overwritten (seen_after first calls) at w) (sym same) ∙ sym (seen_more first calls (Write at v ∷ [])) ∙ ap (seen_after first) (sym is)

pub read_sync : (first : List ℕ) (calls later : List DiskCall) → later ≡ calls ++ Sync ∷ [] → seen_after first later ≡ seen_after first calls
read_sync first calls later is = ap (seen_after first) is ∙ seen_more first calls (Sync ∷ [])

pub only_sync : (first : List ℕ) (calls later : List DiskCall) → later ≡ calls ++ Sync ∷ [] → Only (seen_after first calls) (LeavesOf first later)
only_sync first calls later is = λ c left. leaves_sync (λ d. d ≡ first) first calls c (subst (λ l. LeavesOf first l c) is left)

pub narrows_sync : (first : List ℕ) (calls later : List DiskCall) → later ≡ calls ++ Sync ∷ [] → Narrows (LeavesOf first calls) (LeavesOf first later)
narrows_sync first calls later is = λ c left. leaves_seen first calls c (only_sync first calls later is c left)

pub read_crash : (first : List ℕ) (calls later : List DiskCall) (v : Vec ℕ Global) → later ≡ calls ++ Crash v ∷ [] → v.items ≡ seen_after first later
read_crash first calls later v is = sym (seen_more first calls (Crash v ∷ [])) ∙ ap (seen_after first) (sym is)

pub narrows_crash : (luck : ℕ) (first : List ℕ) (calls later : List DiskCall) (v : Vec ℕ Global) → later ≡ calls ++ Crash v ∷ [] → v.items ≡ crashed luck 0 first first calls → Narrows (LeavesOf first calls) (LeavesOf first later)
narrows_crash luck first calls later v is crash_is = λ c left.
    subst (LeavesOf first calls) (sym (leaves_crash (λ d. d ≡ first) first calls v c (subst (λ l. LeavesOf first l c) is left) ∙ crash_is)) (crash_is_image luck first calls)
