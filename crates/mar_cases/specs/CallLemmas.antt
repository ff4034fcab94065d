-- What a disk in memory may leave: as it reads is one of its images, and time goes on with its calls.
use Rattle.std.specs.Prelude.{List, [], drop, length, replicate, take, ℕ, ◌++◌, ◌+◌, ◌-◌, ◌∷◌, ◌≡◌, ◌≤◌, max}
use Rattle.std.proofs.Common.{arith, refl, subst, sym, ◌∙◌, length-append, length-drop}
use Rattle.std.proofs.lemmas.List.{drop_at, length-replicate, length-take, take-append-le, take-take, take_all}
use Rattle.mar_journal.specs.Disk.{Torn}
use Rattle.mar_cases.specs.Calls.{After, Leaves, LeavesOf, LeftSince, overwritten, seen_after}
use Rattle.mar_cases.specs.declared.disk_call.DiskCall.{DiskCall}
use Rattle.mar_cases.specs.declared.disk_call.DiskCall.TheVariants.{Crash, Sync, Write}

length-written : (old : List ℕ) (at : ℕ) (bytes : List ℕ) → length (take at old ++ replicate (at - length old) 0 ++ bytes) ≡ at + length bytes
length-written old at bytes =
    omega (arith, length-append (take at old ++ replicate (at - length old) 0) bytes, length-append (take at old) (replicate (at - length old) 0), length-take at old, length-replicate {A = ℕ} (at - length old) 0)

pub length-overwritten : (old : List ℕ) (at : ℕ) (bytes : List ℕ) → length (overwritten old at bytes) ≡ max (length old) (at + length bytes)
length-overwritten old at bytes =
    omega (arith, length-written old at bytes, length-append (take at old ++ replicate (at - length old) 0 ++ bytes) (drop (at + length bytes) old), length-drop (at + length bytes) old)

-- a write leaves what stands before it
before_written : (old : List ℕ) (at : ℕ) (bytes : List ℕ) (n : ℕ) → n ≤ at → n ≤ length old → take n (overwritten old at bytes) ≡ take n old
before_written old at bytes n before within =
    let front : List ℕ = take at old in
    let gap : List ℕ = replicate (at - length old) 0 in
    let long : n ≤ length front = omega (arith, length-take at old) in
    take-append-le n (front ++ gap ++ bytes) (drop (at + length bytes) old) (omega (arith, length-written old at bytes))
    ∙ take-append-le n (front ++ gap) bytes (omega (arith, length-append front gap, long))
    ∙ take-append-le n front gap long
    ∙ take-take n at old before

pub torn_overwritten : (old : List ℕ) (at : ℕ) (bytes : List ℕ) → Torn at (length bytes) old (overwritten old at bytes)
torn_overwritten old at bytes = record {
  before = before_written old at bytes;
  after = drop_at (take at old ++ replicate (at - length old) 0 ++ bytes) (drop (at + length bytes) old) (at + length bytes) (length-written old at bytes);
  no_shorter = omega (arith, length-overwritten old at bytes);
  no_longer = omega (arith, length-overwritten old at bytes);
}

-- as it reads is one of the images
leaves_from : (images : List ℕ → Type 0) (bytes : List ℕ) (calls : List DiskCall) → images bytes → Leaves images bytes calls (seen_after bytes calls)
leaves_from images bytes [] is = is
leaves_from images bytes (Write at written ∷ calls) is = leaves_from (After images at (length written.items)) (overwritten bytes at written.items) calls (bytes, is, torn_overwritten bytes at written.items)
leaves_from images bytes (Sync ∷ calls) is = leaves_from (λ d. d ≡ bytes) bytes calls refl
leaves_from images bytes (Crash left ∷ calls) is = leaves_from (λ d. d ≡ left.items) left.items calls refl

pub leaves_seen : (first : List ℕ) (calls : List DiskCall) (bytes : List ℕ) → bytes ≡ seen_after first calls → LeavesOf first calls bytes
leaves_seen first calls bytes is = subst (LeavesOf first calls) (sym is) (leaves_from (λ d. d ≡ first) first calls refl)

pub leaves_now : (first : List ℕ) (calls : List DiskCall) (t : ℕ) (c : List ℕ) → t ≤ length calls → LeavesOf first calls c → LeftSince first calls t c
leaves_now first calls t c le now = (length calls, le, omega arith, subst (λ l. LeavesOf first l c) (sym (take_all (length calls) calls (omega arith))) now)

pub only_leaves : (first : List ℕ) (calls : List DiskCall) (c : List ℕ) → LeftSince first calls (length calls) c → LeavesOf first calls c
only_leaves first calls c (k, from, upto, left) = subst (λ l. LeavesOf first l c) (take_all k calls (omega (arith, from))) left
