-- What comes into a free place, and tickets that are closed and opened again.
use Rattle.std.proofs.Common.{Bool, List, None, Option, Some, ap, arith, cond, false, if◌then◌else◌, length, map, not, option_map, refl, sym, true, true≢false, ℕ, ◌-◌, ◌||◌, ◌∙◌, ◌∷◌, [], ◌≡◌}
use Rattle.std.proofs.lemmas.Bool.Decides.{nat_tests}
use Rattle.std.specs.BTreeMap.{is_at}
use Rattle.std.specs.BTreeSet.{insert_key}
use Rattle.std.specs.List.{list_any}
use Rattle.std.specs.Ordering.{is_eq, match_ordering, nat_cmp}
use Rattle.std.specs.declared.cmp.Ordering.{Ordering}
use Rattle.std.specs.declared.cmp.Ordering.TheVariants.{Equal, Greater, Less}
use Rattle.std.proofs.lemmas.List.{length-map}
use Rattle.std.specs.Bool.{OnFalse}
use Rattle.std.specs.Prelude.{MatchOption}
use Rattle.mar_key.specs.Places.{Fills, filled, next_kept}
use Rattle.mar_key.proofs.Filling.{filled_so}
use Rattle.mar_model.specs.Messages.{Inbox, Queued}
use Rattle.mar_inbox.specs.Behind.{floor_of, is_among, prune_of, without_ticket}
use Rattle.mar_inbox.specs.Policy.{Backlog, after_take, is_closed, next_waiting, with_backlog}

-- without a floor and a prune
pub next_of_others : (floor prune : Option Queued) (others others' : List Queued) (closed : List ℕ) (given : Option Queued) → floor ≡ None → prune ≡ None
    → next_kept (λ q. not (is_closed closed q)) others ≡ (given, others')
    → next_waiting (record { floor = floor_of floor; prune = prune_of prune; others = others; closed = closed }) ≡ (given, record { floor = None; prune = None; others = others'; closed = closed })
next_of_others floor prune others others' closed given none no_prune is =
    rw (none, no_prune) (ap (λ (g : Option Queued × List Queued). (g.0, record { floor = None; prune = None; others = g.1; closed = closed })) is)

-- a ticket that was closed anew, and is opened again
pub reopened : (t : ℕ) (tickets : List ℕ) → is_among t tickets ≡ false → without_ticket t (insert_key nat_cmp tickets t) ≡ tickets
reopened t [] new = ap (λ b. cond b [] (t ∷ [])) (own t)
  where
    own : (t : ℕ) → is_at (nat_cmp t) t ≡ true
    own t = grind (arith, nat_tests)
reopened t (x ∷ xs) new = by (nat_cmp t x) refl new (reopened t xs)
  where
    own : (t : ℕ) → is_at (nat_cmp t) t ≡ true
    own t = grind (arith, nat_tests)

    by : (o : Ordering) → nat_cmp t x ≡ o → list_any (is_at (nat_cmp t)) (x ∷ xs) ≡ false → (is_among t xs ≡ false → without_ticket t (insert_key nat_cmp xs t) ≡ xs)
        → without_ticket t (match_ordering o (t ∷ x ∷ xs) (x ∷ xs) (x ∷ insert_key nat_cmp xs t)) ≡ x ∷ xs
    by Less is new rest = ap (λ b. cond b (x ∷ xs) (t ∷ without_ticket t (x ∷ xs))) (own t)
    by Equal is new rest = absurd (true≢false (sym (ap (λ o. is_eq o || list_any (is_at (nat_cmp t)) xs) is) ∙ new))
    by Greater is new rest =
        ap (λ o. cond (is_eq o) (insert_key nat_cmp xs t) (x ∷ without_ticket t (insert_key nat_cmp xs t))) is
        ∙ ap (λ ys. x ∷ ys) (rest (sym (ap (λ o. is_eq o || list_any (is_at (nat_cmp t)) xs) is) ∙ new))

pub undone : (t : ℕ) (old new : List ℕ) (added : Bool) → added ≡ not (is_among t old) → new ≡ insert_key nat_cmp old t → OnFalse added (new ≡ old) → (if added then without_ticket t new else new) ≡ old
undone t old new true is inserted same = ap (without_ticket t) inserted ∙ reopened t old (not_true (is_among t old) (sym is))
  where
    not_true : (b : Bool) → not b ≡ true → b ≡ false
    not_true true e = sym e
    not_true false e = refl
undone t old new false is inserted same = same

-- AN INBOX

abbrev pub inbox_of : ℕ → ℕ → Bool → List Queued → Backlog → Inbox
inbox_of capacity seats shut ready b = record { ready = ready; capacity = capacity; floor = b.floor; prune = b.prune; overflow = b.others; closed = b.closed; seats = seats; shut = shut }

-- where a closing came to nothing all is as before
pub restored : {T : Type 0} (plain : T → Queued) (capacity capacity' seats : ℕ) (shut : Bool) (ready ready' : List T) (b b1 b2 b3 : Backlog) (t : ℕ) (added : Bool) → ready' ≡ ready → capacity' ≡ capacity
    → b1 ≡ record b { closed = insert_key nat_cmp b.closed t } → b2 ≡ b1 → b3 ≡ record b2 { closed = (if added then without_ticket t b2.closed else b2.closed) }
    → (if added then without_ticket t b1.closed else b1.closed) ≡ b.closed → inbox_of capacity' seats shut (map plain ready') b3 ≡ inbox_of capacity seats shut (map plain ready) b
restored plain capacity capacity' seats shut ready ready' b b1 b2 b3 t added same_ready same_capacity closes same reopens undo =
    let back : b3 ≡ b =
    reopens ∙ (ap (λ (x : Backlog). record x { closed = (if added then without_ticket t x.closed else x.closed) }) same
    ∙ (ap (λ (c : List ℕ). record b1 { closed = c }) undo ∙ ap (λ (x : Backlog). record x { closed = b.closed }) closes)) in
    λ i. inbox_of (same_capacity i) seats shut (map plain (same_ready i)) (back i)

-- what a take of the code's queue gives is what the definitions give
took_one : {T : Type 0} (plain : T → Queued) (capacity seats : ℕ) (shut : Bool) (ready rest ready' : List T) (x : T) (w w' : Backlog) → ready ≡ x ∷ rest
    → Fills (λ w given v. next_waiting w ≡ (option_map plain given, v)) (capacity - length rest) rest w ready' w'
    → after_take (inbox_of capacity seats shut (map plain ready) w) ≡ (Some (plain x), inbox_of capacity seats shut (map plain ready') w')
took_one plain capacity seats shut ready rest ready' x w w' is fills =
    let i : Inbox = inbox_of capacity seats shut (map plain (x ∷ rest)) w in
    let f = filled_so (λ w given v. next_waiting w ≡ (option_map plain given, v)) plain (λ w. w) next_waiting (λ w given v h. h) (capacity - length rest) rest w ready' w' fills in
    ap (λ (xs : List _). after_take (inbox_of capacity seats shut (map plain xs) w)) is
    ∙ (ap (λ (n : ℕ). (Some (plain x), with_backlog i (filled next_waiting (capacity - n) (map plain rest) w))) (length-map rest plain)
    ∙ ap (λ (parts : List Queued × Backlog). (Some (plain x), with_backlog i parts)) f)

took_none : {T : Type 0} (plain : T → Queued) (capacity seats : ℕ) (shut : Bool) (ready ready' : List T) (w w' : Backlog) → ready ≡ [] → ready' ≡ [] → w' ≡ w
    → after_take (inbox_of capacity seats shut (map plain ready) w) ≡ (None, inbox_of capacity seats shut (map plain ready') w')
took_none plain capacity seats shut ready ready' w w' is is' same = rw (is, is', same) refl

pub took : {T : Type 0} (plain : T → Queued) (capacity seats : ℕ) (shut : Bool) (ready ready' : List T) (w w' : Backlog) (result : Option T)
    → MatchOption result ((ready ≡ []) × (ready' ≡ []) × (w' ≡ w))
    (λ x. (rest : List T) × (ready ≡ x ∷ rest) × Fills (λ w given v. next_waiting w ≡ (option_map plain given, v)) (capacity - length rest) rest w ready' w')
    → after_take (inbox_of capacity seats shut (map plain ready) w) ≡ (option_map plain result, inbox_of capacity seats shut (map plain ready') w')
took plain capacity seats shut ready ready' w w' None h = took_none plain capacity seats shut ready ready' w w' h.0 h.1 h.2
took plain capacity seats shut ready ready' w w' (Some x) h = took_one plain capacity seats shut ready h.0 ready' x w w' h.1 h.2
