-- The gate of the writes stands for the heights that no finished sync covers.
use native.Mathlib.Decide.{dec_le}
use Rattle.std.proofs.Common.{Bool, List, None, Option, Some, [], ap, append_assoc, arith, cond, drop, false, inl, inr, length, map, max, nat_le, option_to_list, refl, suc, sym, take, true, zero, ℕ, ◌++◌, ◌+◌, ◌-◌, ◌<◌, ◌∙◌, ◌∷◌, ◌≡◌, ◌≤◌}
use Rattle.std.proofs.Math.Seq.{drop-append_seam, take-add}
use Rattle.std.proofs.lemmas.Bool.Decides.{nat_tests}
use Rattle.std.proofs.lemmas.List.{append-nil, length-append, length-drop, take-append-drop, take-append-le, take_all}
use Rattle.std.proofs.lemmas.List.Elements.{Contains-append_cases, Contains-append_left, Contains-append_right}
use Rattle.std.proofs.lemmas.List.Folds.{concat-append}
use Rattle.std.specs.List.{AllByRecursion, Contains, concat}
use Rattle.std.specs.Prelude.{filter}
use Rattle.mar_gate.specs.Gate.{Batch, Gate, IsBarrier, IsLeastOf, adopted, after_clear, after_defer}
use Rattle.mar_gate.specs.Gated.{IsGated, Reaches, StandFor}
use Rattle.mar_gate.specs.Views.{pooled_of}
use Rattle.mar_gate.specs.declared.writes.OpenSync.{OpenSync}
use Rattle.mar_gate.proofs.Batches.{least_more}
use Rattle.mar_gate.proofs.Pools.{all_filtered, all_last, all_weaker}

pub gated_new : IsGated 0 [] [] (record { unsynced = None; inflight = []; next = 0 })
gated_new = record { first = 0; parts = []; rest = []; heights = refl; batches = tt; next = refl; unsynced = refl; reach = tt }

pub gated_defer : (c : ℕ) (u : List ℕ) (xs : List OpenSync) (g : Gate) (h : ℕ) → IsGated c u xs g → IsGated c (u ++ h ∷ []) xs (after_defer h g)
gated_defer c u xs g h i = record {
  first = i.first;
  parts = i.parts;
  rest = i.rest ++ h ∷ [];
  heights = ap (λ ys. ys ++ h ∷ []) i.heights ∙ append_assoc (concat i.parts) i.rest (h ∷ []);
  batches = i.batches;
  next = i.next;
  unsynced = least_more i.rest g.unsynced h i.unsynced;
  reach = i.reach;
}

stand_more : (first : ℕ) (parts : List (List ℕ)) (bs : List Batch) (rest : List ℕ) (h : ℕ) → StandFor first parts bs → IsLeastOf rest (Some h) → StandFor first (parts ++ rest ∷ []) (bs ++ record { number = first + length parts; lowest = h } ∷ [])
stand_more first [] [] rest h s least = (omega arith, least, tt)
stand_more first [] (b ∷ bs) rest h s least = absurd s
stand_more first (p ∷ ps) [] rest h s least = absurd s
stand_more first (p ∷ ps) (b ∷ bs) rest h s least =
    let n : (first + 1) + length ps ≡ first + length (p ∷ ps) = omega arith in
    (s.0, s.1, rw n at (stand_more (first + 1) ps bs rest h s.2 least))

-- a new part behind those that a sync covers
more_parts : (c first : ℕ) (parts : List (List ℕ)) (rest : List ℕ) (next : ℕ) (s : OpenSync) → next ≡ first + length parts → (s.batches ≤ next) × Reaches c first parts s → (s.batches ≤ next + 1) × Reaches c first (parts ++ rest ∷ []) s
more_parts c first parts rest next s is r = (omega (arith, r.0), rw (take-append-le (s.batches - first) parts (rest ∷ []) (omega (arith, r.0, is))) r.1)

-- what is deferred becomes a batch
gated_adopt : (c : ℕ) (u : List ℕ) (xs : List OpenSync) (g : Gate) → IsGated c u xs g → IsGated c u xs (adopted g.unsynced g)
gated_adopt c u xs g i = by g.unsynced i.unsynced
  where
    by : (o : Option ℕ) → IsLeastOf i.rest o → IsGated c u xs (adopted o g)
    by None least = i
    by (Some h) least = record {
      first = i.first;
      parts = i.parts ++ i.rest ∷ [];
      rest = [];
      heights = i.heights ∙ sym (append-nil (concat (i.parts ++ i.rest ∷ [])) ∙ concat-append i.parts (i.rest ∷ []) ∙ ap (λ ys. concat i.parts ++ ys) (append-nil i.rest));
      batches = rw i.next (stand_more i.first i.parts g.inflight i.rest h i.batches least);
      next = let long = length-append i.parts (i.rest ∷ []) in omega (arith, i.next, long);
      unsynced = refl;
      reach = all_weaker _ _ (λ s r. more_parts c i.first i.parts i.rest g.next s i.next r) xs i.reach;
    }

pub adopted_next : (o : Option ℕ) (g : Gate) (n : ℕ) → g.next ≤ n → (adopted o g).next ≤ n + 1
adopted_next None g n low = omega (arith, low)
adopted_next (Some h) g n low = omega (arith, low)

adopted_none : (o : Option ℕ) (g : Gate) → g.unsynced ≡ o → (adopted o g).unsynced ≡ None
adopted_none None g is = is
adopted_none (Some h) g is = refl

-- where nothing is deferred a sync that is started covers all parts
gated_push : (c : ℕ) (u : List ℕ) (xs : List OpenSync) (g : Gate) (x : OpenSync) → IsGated c u xs g → g.unsynced ≡ None → x.position ≡ c + length u → x.batches ≡ g.next → IsGated c u (xs ++ x ∷ []) g
gated_push c u xs g x i none position batches = record {
  first = i.first;
  parts = i.parts;
  rest = i.rest;
  heights = i.heights;
  batches = i.batches;
  next = i.next;
  unsynced = i.unsynced;
  reach = all_last _ xs x i.reach (omega (arith, batches), all_parts);
}
  where
    nothing : i.rest ≡ []
    nothing = rw none at i.unsynced

    all_heights : u ≡ concat i.parts
    all_heights = i.heights ∙ ap (λ ys. concat i.parts ++ ys) nothing ∙ append-nil (concat i.parts)

    all_parts : Reaches c i.first i.parts x
    all_parts =
        let whole : take (x.batches - i.first) i.parts ≡ i.parts = take_all (x.batches - i.first) i.parts (omega (arith, batches, i.next)) in
        let long : length u ≡ length (concat i.parts) = ap length all_heights in
        rw whole (omega (arith, position, long))

pub gated_start : (c : ℕ) (u : List ℕ) (xs : List OpenSync) (g : Gate) (x : OpenSync) → IsGated c u xs g → x.position ≡ c + length u → x.batches ≡ (adopted g.unsynced g).next → IsGated c u (xs ++ x ∷ []) (adopted g.unsynced g)
gated_start c u xs g x i position batches = gated_push c u xs (adopted g.unsynced g) x (gated_adopt c u xs g i) (adopted_none g.unsynced g refl) position batches

pub gated_retain : (c : ℕ) (u : List ℕ) (xs kept : List OpenSync) (g : Gate) (p : OpenSync → Bool) → kept ≡ filter p xs → IsGated c u xs g → IsGated c u kept g
gated_retain c u xs kept g p is i = record {
  first = i.first;
  parts = i.parts;
  rest = i.rest;
  heights = i.heights;
  batches = i.batches;
  next = i.next;
  unsynced = i.unsynced;
  reach = rw is (all_filtered _ p xs i.reach);
}

pub gated_clear : (c : ℕ) (u : List ℕ) (xs : List OpenSync) (g : Gate) → AllByRecursion (λ s. s.position ≤ c + length u) (map (λ p. p.sync) (map pooled_of xs)) → IsGated c u xs g → IsGated (c + length u) [] xs (after_clear g)
gated_clear c u xs g within i = record {
  first = g.next;
  parts = [];
  rest = [];
  heights = refl;
  batches = tt;
  next = omega arith;
  unsynced = refl;
  reach = both xs within i.reach;
}
  where
    both : (ys : List OpenSync) → AllByRecursion (λ s. s.position ≤ c + length u) (map (λ p. p.sync) (map pooled_of ys)) → AllByRecursion (λ s. (s.batches ≤ g.next) × Reaches c i.first i.parts s) ys → AllByRecursion (λ s. (s.batches ≤ g.next) × Reaches (c + length u) g.next [] s) ys
    both [] within reach = tt
    both (s ∷ ys) within reach =
        let none : s.batches - g.next ≡ 0 = omega (arith, reach.0.0) in
        ((reach.0.0, rw none (omega (arith, within.0))), both ys within.1 reach.1)

-- batches below a number go, and their parts
stand_filter : (first bound : ℕ) (parts : List (List ℕ)) (bs : List Batch) → StandFor first parts bs → StandFor (first + (bound - first)) (drop (bound - first) parts) (filter (λ b. nat_le bound b.number) bs)
stand_filter first bound [] [] s = elim (bound - first) as (λ k. StandFor (first + k) (drop k []) []) [ zero ↦ tt | (suc k) ↦ tt ]
stand_filter first bound [] (b ∷ bs) s = absurd s
stand_filter first bound (p ∷ ps) [] s = absurd s
stand_filter first bound (p ∷ ps) (b ∷ bs) s = by (nat_le bound b.number) refl (stand_filter (first + 1) bound ps bs s.2)
  where
    by : (t : Bool) → nat_le bound b.number ≡ t → StandFor ((first + 1) + (bound - (first + 1))) (drop (bound - (first + 1)) ps) (filter (λ d. nat_le bound d.number) bs) → StandFor (first + (bound - first)) (drop (bound - first) (p ∷ ps)) (cond t (b ∷ filter (λ d. nat_le bound d.number) bs) (filter (λ d. nat_le bound d.number) bs))
    by true is rest =
        let low : bound ≤ b.number = grind (arith, nat_tests, is) in
        let here : bound - first ≡ 0 = omega (arith, low, s.0) in
        let there : bound - (first + 1) ≡ 0 = omega (arith, low, s.0) in
        let none : first + 0 ≡ first = omega arith in
        let next : (first + 1) + 0 ≡ first + 1 = omega arith in
        let after : StandFor (first + 1) ps (filter (λ d. nat_le bound d.number) bs) = rw (there, next) at rest in
        rw (here, none) (s.0, s.1, after)
    by false is rest =
        let high : b.number < bound = grind (arith, nat_tests, is) in
        let here : bound - first ≡ suc (bound - (first + 1)) = omega (arith, high, s.0) in
        let next : (first + 1) + (bound - (first + 1)) ≡ first + suc (bound - (first + 1)) = omega arith in
        rw here (rw next at rest)

-- the first parts, and of the others the first
heights_split : (k j : ℕ) (parts : List (List ℕ)) → length (concat (take (k + j) parts)) ≡ length (concat (take k parts)) + length (concat (take j (drop k parts)))
heights_split k j parts = ap (λ ps. length (concat ps)) (take-add k j parts) ∙ ap length (concat-append (take k parts) (take j (drop k parts))) ∙ length-append (concat (take k parts)) (concat (take j (drop k parts)))

-- the parts of a sync, once the first `k` are covered
reach_after : (c first k next : ℕ) (parts : List (List ℕ)) (s : OpenSync) → (s.batches ≤ next) × Reaches c first parts s → (s.batches ≤ next) × Reaches (c + length (concat (take k parts))) (first + k) (drop k parts) s
reach_after c first k next parts s r = (
  r.0,
  elim (dec_le k (s.batches - first)) [
    | yes more ↦ further more
    | no fewer ↦ behind (omega (arith, fewer))
  ],
)
  where
    further : k ≤ s.batches - first → Reaches (c + length (concat (take k parts))) (first + k) (drop k parts) s
    further more =
        let n : k + (s.batches - (first + k)) ≡ s.batches - first = omega (arith, more) in
        let split = heights_split k (s.batches - (first + k)) parts in
        let all = rw n at split in
        let was : max c s.position ≡ c + length (concat (take (s.batches - first) parts)) = r.1 in
        omega (arith, all, was)

    behind : s.batches - first ≤ k → Reaches (c + length (concat (take k parts))) (first + k) (drop k parts) s
    behind fewer =
        let n : (s.batches - first) + (k - (s.batches - first)) ≡ k = omega (arith, fewer) in
        let split = heights_split (s.batches - first) (k - (s.batches - first)) parts in
        let all = rw n at split in
        let none : s.batches - (first + k) ≡ 0 = omega (arith, fewer) in
        let was : max c s.position ≡ c + length (concat (take (s.batches - first) parts)) = r.1 in
        rw none (omega (arith, all, was))

-- the batches of a sync that has finished go, and the heights of their parts
pub gated_finish : (c : ℕ) (u : List ℕ) (xs : List OpenSync) (g : Gate) (x : OpenSync) → IsGated c u xs g → ((first : ℕ) (parts : List (List ℕ)) → AllByRecursion (λ s. (s.batches ≤ g.next) × Reaches c first parts s) xs → (x.batches ≤ g.next) × Reaches c first parts x) → IsGated (max c x.position) (drop (max c x.position - c) u) xs (record g { inflight = filter (λ b. nat_le x.batches b.number) g.inflight })
gated_finish c u xs g x i among = rw covers (rw left (record {
  first = i.first + k;
  parts = drop k i.parts;
  rest = i.rest;
  heights = drops;
  batches = stand_filter i.first x.batches i.parts g.inflight i.batches;
  next = let long = length-drop k i.parts in omega (arith, long, i.next, here.0);
  unsynced = i.unsynced;
  reach = all_weaker _ _ (λ s r. reach_after c i.first k g.next i.parts s r) xs i.reach;
}))
  where
    here : (x.batches ≤ g.next) × Reaches c i.first i.parts x
    here = among i.first i.parts i.reach

    k : ℕ
    k = x.batches - i.first

    covers : max c x.position ≡ c + length (concat (take k i.parts))
    covers = here.1

    left : (c + length (concat (take k i.parts))) - c ≡ length (concat (take k i.parts))
    left = omega arith

    drops : drop (length (concat (take k i.parts))) u ≡ concat (drop k i.parts) ++ i.rest
    drops =
        let parted : concat i.parts ≡ concat (take k i.parts) ++ concat (drop k i.parts) = sym (ap concat (take-append-drop k i.parts)) ∙ concat-append (take k i.parts) (drop k i.parts) in
        let whole : u ≡ concat (take k i.parts) ++ (concat (drop k i.parts) ++ i.rest) = i.heights ∙ ap (λ ys. ys ++ i.rest) parted ∙ append_assoc (concat (take k i.parts)) (concat (drop k i.parts)) i.rest in
        ap (drop (length (concat (take k i.parts)))) whole ∙ drop-append_seam (concat (take k i.parts)) (concat (drop k i.parts) ++ i.rest)

above : (h k : ℕ) (xs : List ℕ) → h ≤ k → AllByRecursion (λ x. k ≤ x) xs → AllByRecursion (λ x. h ≤ x) xs
above h k xs low all = all_weaker _ _ (λ x is. omega (arith, low, is)) xs all

all_both : (P : ℕ → Type 0) (xs ys : List ℕ) → AllByRecursion P xs → AllByRecursion P ys → AllByRecursion P (xs ++ ys)
all_both P [] ys first second = second
all_both P (x ∷ xs) ys first second = (first.0, all_both P xs ys first.1 second)

all_front : (P : ℕ → Type 0) (xs ys : List ℕ) → AllByRecursion P (xs ++ ys) → AllByRecursion P xs × AllByRecursion P ys
all_front P [] ys all = (tt, all)
all_front P (x ∷ xs) ys all = let more = all_front P xs ys all.1 in ((all.0, more.0), more.1)

above_parts : (h first : ℕ) (parts : List (List ℕ)) (bs : List Batch) → StandFor first parts bs → AllByRecursion (λ k. h ≤ k) (map (λ b. b.lowest) bs) → AllByRecursion (λ k. h ≤ k) (concat parts)
above_parts h first [] [] s all = tt
above_parts h first [] (b ∷ bs) s all = absurd s
above_parts h first (p ∷ ps) [] s all = absurd s
above_parts h first (p ∷ ps) (b ∷ bs) s all = all_both _ p (concat ps) (above h b.lowest p all.0 s.1.1) (above_parts h (first + 1) ps bs s.2 all.1)

above_rest : (h : ℕ) (rest : List ℕ) (o : Option ℕ) → IsLeastOf rest o → AllByRecursion (λ k. h ≤ k) (option_to_list o) → AllByRecursion (λ k. h ≤ k) rest
above_rest h rest None none all = rw none tt
above_rest h rest (Some k) least all = above h k rest all.0 least.1

in_parts : (h first : ℕ) (parts : List (List ℕ)) (bs : List Batch) → StandFor first parts bs → Contains (map (λ b. b.lowest) bs) h → Contains (concat parts) h
in_parts h first [] [] s has = absurd (omega (arith, has.1))
in_parts h first [] (b ∷ bs) s has = absurd s
in_parts h first (p ∷ ps) [] s has = absurd s
in_parts h first (p ∷ ps) (b ∷ bs) s (zero, within, is) = Contains-append_left p (concat ps) h (rw is at s.1.0)
in_parts h first (p ∷ ps) (b ∷ bs) s (suc k, within, is) = Contains-append_right p (concat ps) h (in_parts h (first + 1) ps bs s.2 (k, omega (arith, within), is))

in_rest : (h : ℕ) (rest : List ℕ) (o : Option ℕ) → IsLeastOf rest o → Contains (option_to_list o) h → Contains rest h
in_rest h rest None none has = absurd (omega (arith, has.1))
in_rest h rest (Some k) least (zero, within, is) = rw is at least.0
in_rest h rest (Some k) least (suc j, within, is) = absurd (omega (arith, within))

no_heights : (g : Gate) (first : ℕ) (parts : List (List ℕ)) (rest : List ℕ) → StandFor first parts g.inflight → IsLeastOf rest g.unsynced → option_to_list g.unsynced ++ map (λ b. b.lowest) g.inflight ≡ [] → concat parts ++ rest ≡ []
no_heights g first parts rest s least none = by g.unsynced g.inflight parts s least none
  where
    by : (o : Option ℕ) (bs : List Batch) (ps : List (List ℕ)) → StandFor first ps bs → IsLeastOf rest o → option_to_list o ++ map (λ b. b.lowest) bs ≡ [] → concat ps ++ rest ≡ []
    by None [] [] s least none = least
    by None [] (p ∷ ps) s least none = absurd s
    by None (b ∷ bs) ps s least none = absurd (let long : suc (length (map (λ d. d.lowest) bs)) ≡ 0 = ap length none in omega (arith, long))
    by (Some h) bs ps s least none = absurd (let long : suc (length (map (λ d. d.lowest) bs)) ≡ 0 = ap length none in omega (arith, long))

-- the gate's barrier is the least of the heights
pub gated_barrier : (c : ℕ) (u : List ℕ) (xs : List OpenSync) (g : Gate) (barrier : Option ℕ) → IsGated c u xs g → IsBarrier g barrier → IsLeastOf u barrier
gated_barrier c u xs g None i none = i.heights ∙ no_heights g i.first i.parts i.rest i.batches i.unsynced none
gated_barrier c u xs g (Some h) i (has, all) =
    let fronts = all_front _ (option_to_list g.unsynced) (map (λ b. b.lowest) g.inflight) all in
    let low : AllByRecursion (λ k. h ≤ k) (concat i.parts ++ i.rest) = all_both _ (concat i.parts) i.rest (above_parts h i.first i.parts g.inflight i.batches fronts.1) (above_rest h i.rest g.unsynced i.unsynced fronts.0) in
    let there : Contains (concat i.parts ++ i.rest) h = elim (Contains-append_cases (option_to_list g.unsynced) (map (λ b. b.lowest) g.inflight) h has) [
      | inl inside ↦ Contains-append_right (concat i.parts) i.rest h (in_rest h i.rest g.unsynced i.unsynced inside)
      | inr inside ↦ Contains-append_left (concat i.parts) i.rest h (in_parts h i.first i.parts g.inflight i.batches inside)
    ] in
    (rw (sym i.heights) at there, rw (sym i.heights) at low)
