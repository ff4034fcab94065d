-- What archives keep for the open syncs, and what is staged, as each call changes it.
use Rattle.std.proofs.Common.{◌≡◌, ◌⊎◌, inl, inr, ⊎_elim, ℕ, zero, suc, ◌+◌, ◌-◌, ◌<◌, ◌≤◌, Some, List, [], ◌∷◌, ◌++◌, length, map, drop, filter, max, not, Bool, true, false, ◌&&◌, if◌then◌else◌, cond, ◌==◌, IsTrue, IsFalse, Contains, refl, sym, ◌∙◌, ap, subst, arith, eqb-true}
use Rattle.std.proofs.lemmas.Bool.{cases_lt}
use Rattle.std.proofs.Math.Seq.{drop-nil}
use Rattle.std.proofs.lemmas.Cmp.{ranked}
use Rattle.std.proofs.lemmas.Option.{none-some, same_Some}
use Rattle.std.proofs.lemmas.List.{drop-append-le}
use Rattle.std.proofs.lemmas.List.Elements.{All-contains, All-contains_itself, All-filter, Contains-append_left, Contains-append_right, Contains-push, Contains-push_cases}
use Rattle.std.specs.BTreeMap.{insert_entry}
use Rattle.std.specs.List.{AllByRecursion}
use Rattle.std.specs.Option.{option_or}
use Rattle.std.specs.Map.{lookup, remove_entry}
use Rattle.std.specs.Ordering.{match_ordering, nat_cmp}
use Rattle.std.specs.Prelude.{nat_le}
use Rattle.std.specs.declared.cmp.Ordering.TheVariants.{Equal, Greater, Less}
use Rattle.mar_cert.specs.Block.{Block}
use Rattle.mar_store.specs.Kept.{At, Kept, has_height, value_at}
use Rattle.mar_store.specs.Changes.{Finishes, KeepsValues, Puts}
use Rattle.mar_store.specs.Tickets.{KeepsCovers, last_number}
use Rattle.mar_store.proofs.Lookups.{AllByRecursion-contains, has_height-from_value, has_height-push_cases, missing-from_has_height, value-from_has_height, value_at-append, value_at-append_found, value_at-one}
use Rattle.mar_model.specs.Pool.{Pool, Pooled, pool_deferred, pool_finished, pool_started, pooled_at, syncs_of, writing_of}
use Rattle.mar_model.specs.Stored.{at_own_height}
use Rattle.mar_model.specs.Staged.{Staged, has_place, is_taken_in, kept_from, staged_at, staged_where, without_height}
use Rattle.mar_model.proofs.Pools.{position_found}
use Rattle.mar_model.specs.Held.{Held}
use Rattle.mar_model.specs.Writing.{IsLastWrite, Writing, position_of, total_writes}
use Rattle.mar_life.specs.Pooling.{AreHeld, AwaitsSyncs, writes_behind}

-- LISTS

none_contains : {X : Type 0} (x : X) → Contains [] x → ⊥
none_contains x has = let lt : has.0 < 0 = has.1 in omega arith

pub filter_contains : {X : Type 0} (p : X → Bool) (xs : List X) (x : X) → Contains (filter p xs) x → Contains xs x
filter_contains p xs x has = All-contains (Contains xs) (filter p xs) x (All-filter p (Contains xs) xs (All-contains_itself xs)) has

-- what is dropped goes before what is appended
drop_more : {X : Type 0} (k : ℕ) (xs ys : List X) (x : X) → Contains (drop k xs) x → Contains (drop k (xs ++ ys)) x
drop_more zero xs ys x has = Contains-append_left xs ys x has
drop_more (suc k) [] ys x has = absurd (none_contains x has)
drop_more (suc k) (y ∷ xs) ys x has = drop_more k xs ys x has

drop_last : {X : Type 0} (k : ℕ) (xs : List X) (x : X) → k ≤ length xs → Contains (drop k (xs ++ x ∷ [])) x
drop_last k xs x fits = rw (drop-append-le k xs (x ∷ []) fits) (Contains-push (drop k xs) x)

drop_both : {X : Type 0} (j k : ℕ) (xs : List X) → drop k (drop j xs) ≡ drop (j + k) xs
drop_both zero k xs = let none : 0 + k ≡ k = omega arith in rw none refl
drop_both (suc j) k [] = drop-nil k ∙ sym (drop-nil (suc j + k))
drop_both (suc j) k (x ∷ xs) = let sum : suc j + k ≡ suc (j + k) = omega arith in rw sum (drop_both j k xs)

-- how many writes a finished sync lets go, and how many another one covers then
same_rest : (covered position : ℕ) → position - covered ≡ max covered position - covered
same_rest covered position = omega arith

none_left : (q covered most : ℕ) → q < most → covered ≡ most → 0 ≡ q - covered
none_left q covered most below is = omega (arith, below, is)

all_left : (covered position q : ℕ) → max covered position ≤ q → q - covered ≡ max covered position - covered + (q - max covered position)
all_left covered position q above = omega (arith, above)

at_mapped : {A B : Type 0} (P : B → Type 0) (f : A → B) (xs : List A) (x : A) → AllByRecursion P (map f xs) → Contains xs x → P (f x)
at_mapped {A = A} P f xs x all has = AllByRecursion-contains (λ y. P (f y)) xs x (by xs all) has
  where
    by : (ys : List A) → AllByRecursion P (map f ys) → AllByRecursion (λ y. P (f y)) ys
    by [] none = tt
    by (y ∷ ys) some = (some.0, by ys some.1)

-- the open sync of a ticket is one of those that are open
at_contains : (t : ℕ) (ps : List Pooled) (p : Pooled) → pooled_at ps t ≡ Some p → Contains ps p
at_contains t [] p found = absurd (none-some _ found)
at_contains t (q ∷ ps) p found = by (q.sync.ticket == t) (at_contains t ps p) found
  where
    by : (b : Bool) → (pooled_at ps t ≡ Some p → Contains ps p) → cond b (Some q) (pooled_at ps t) ≡ Some p → Contains (q ∷ ps) p
    by true leads here = subst (Contains (q ∷ ps)) (same_Some q p here) (Contains-append_left (q ∷ []) ps q (Contains-push [] q))
    by false leads further = Contains-append_right (q ∷ []) ps p (leads further)

keeps_heights : {T : Type 0} (xs ys : List (At T)) → KeepsValues xs ys → (h : ℕ) → IsTrue (has_height xs h) → IsTrue (has_height ys h)
keeps_heights xs ys keeps h has = let found = value-from_has_height xs h has in has_height-from_value ys h found.0 (keeps h found.0 found.1)

same_heights : {T : Type 0} (xs ys : List (At T)) → ys ≡ xs → (h : ℕ) → IsTrue (has_height xs h) → IsTrue (has_height ys h)
same_heights xs ys same h has = subst (λ zs. IsTrue (has_height zs h)) (sym same) has

-- ONE ARCHIVE

module _ {T : Type 0} (ticket_of : Pooled → ℕ) (kept : Kept (At T)) (number : ℕ) (covers : ℕ → List (At T)) (pool : Pool) (waits : AwaitsSyncs ticket_of kept number covers pool) where
  -- what an earlier ticket covers stays covered
  stays_covered : (held : List (At T)) (new_covers : ℕ → List (At T)) → KeepsCovers number covers new_covers → new_covers last_number ≡ held → (t h : ℕ) → t ≤ number → t ≤ last_number → IsTrue (has_height held h) → IsTrue (has_height (covers t) h) → IsTrue (has_height (new_covers t) h)
  stays_covered held new_covers keeps last t h given fits has covered = elim (cases_lt t last_number) [
    | inl below ↦ subst (λ xs. IsTrue (has_height xs h)) (sym (keeps t given below)) covered
    | inr above ↦ let at_last : t ≡ last_number = omega (arith, above, fits) in subst (λ xs. IsTrue (has_height xs h)) (sym (ap new_covers at_last ∙ last)) has
  ]

  -- the same is held, and no less is sure
  pub AwaitsSyncs-surer : (new : Kept (At T)) (new_number : ℕ) (new_covers : ℕ → List (At T)) → new.held ≡ kept.held → KeepsValues kept.sure new.sure → number ≤ new_number → KeepsCovers number covers new_covers → new_covers last_number ≡ new.held → AwaitsSyncs ticket_of new new_number new_covers pool
  AwaitsSyncs-surer new new_number new_covers held sure more keeps last = record {
    written = λ h has. ⊎_elim (λ is. inl (keeps_heights kept.sure new.sure sure h is)) (λ is. inr is) (waits.written h (back h has));
    given = λ p has. let was = waits.given p has in (omega (arith, was.0, more), was.1);
    covered = λ p in_pool h has. let was = waits.given p in_pool in elim (waits.covered p in_pool h (back h has)) [
      | inl is ↦ inl (keeps_heights kept.sure new.sure sure h is)
      | inr (inl is) ↦ inr (inl (stays_covered new.held new_covers keeps last (ticket_of p) h was.0 was.1 has is))
      | inr (inr is) ↦ inr (inr is)
    ];
  }
    where
      back : (h : ℕ) → IsTrue (has_height new.held h) → IsTrue (has_height kept.held h)
      back h has = same_heights new.held kept.held (sym held) h has

  -- a call that changed nothing but which tickets there are
  pub AwaitsSyncs-same : (new : Kept (At T)) (new_number : ℕ) (new_covers : ℕ → List (At T)) → new ≡ kept → number ≤ new_number → KeepsCovers number covers new_covers → new_covers last_number ≡ new.held → AwaitsSyncs ticket_of new new_number new_covers pool
  AwaitsSyncs-same new new_number new_covers same more keeps last = AwaitsSyncs-surer new new_number new_covers (ap (λ k. k.held) same) (λ h v is. subst (λ k. value_at k.sure h ≡ Some v) (sym same) is) more keeps last

  -- all that is held is sure, whatever writes wait; the same syncs are open
  pub AwaitsSyncs-sure : (new : Kept (At T)) (new_number : ℕ) (new_covers : ℕ → List (At T)) (covered : ℕ) (uncovered : List ℕ) → new.sure ≡ new.held → number ≤ new_number → AwaitsSyncs ticket_of new new_number new_covers (record pool { covered = covered; uncovered = uncovered })
  AwaitsSyncs-sure new new_number new_covers covered uncovered sure more = record {
    written = λ h has. inl (same_heights new.held new.sure sure h has);
    given = λ p has. let was = waits.given p has in (omega (arith, was.0, more), was.1);
    covered = λ p in_pool h has. inl (same_heights new.held new.sure sure h has);
  }

  -- one more write
  pub AwaitsSyncs-deferred : (height : ℕ) → AwaitsSyncs ticket_of kept number covers (pool_deferred height pool)
  AwaitsSyncs-deferred height = record {
    written = λ h has. ⊎_elim (λ is. inl is) (λ is. inr (Contains-append_left pool.uncovered (height ∷ []) h is)) (waits.written h has);
    given = waits.given;
    covered = λ p in_pool h has. elim (waits.covered p in_pool h has) [
      | inl is ↦ inl is
      | inr (inl is) ↦ inr (inl is)
      | inr (inr is) ↦ inr (inr (drop_more (p.sync.position - pool.covered) pool.uncovered (height ∷ []) h is))
    ];
  }

  -- a value was put whose write no open sync covers
  pub AwaitsSyncs-put : (ignored : Bool) (height : ℕ) (value : T) (new : Kept (At T)) (new_number : ℕ) (new_covers : ℕ → List (At T)) → IsLastWrite height (writing_of pool) → Puts ignored kept (record { height = height; value = value }) new → number ≤ new_number → KeepsCovers number covers new_covers → new_covers last_number ≡ new.held → AwaitsSyncs ticket_of new new_number new_covers pool
  AwaitsSyncs-put ignored height value new new_number new_covers write puts more keeps last = record {
    written = λ h has. elim (before h has) [
      | inl was ↦ ⊎_elim (λ is. inl (same_heights kept.sure new.sure puts.sure h is)) (λ is. inr is) (waits.written h was)
      | inr at ↦ inr (subst (λ k. Contains pool.uncovered k) at (subst (λ xs. Contains xs height) (sym (ap (λ w. w.uncovered) write.is)) (Contains-push write.before.uncovered height)))
    ];
    given = λ p has. let was = waits.given p has in (omega (arith, was.0, more), was.1);
    covered = λ p in_pool h has. let was = waits.given p in_pool in elim (before h has) [
      | inl held ↦ elim (waits.covered p in_pool h held) [
        | inl is ↦ inl (same_heights kept.sure new.sure puts.sure h is)
        | inr (inl is) ↦ inr (inl (stays_covered new.held new_covers keeps last (ticket_of p) h was.0 was.1 has is))
        | inr (inr is) ↦ inr (inr is)
      ]
      | inr at ↦ inr (inr (subst (λ k. Contains (writes_behind p.sync.position pool) k) at (behind p in_pool)))
    ];
  }
    where
      before : (h : ℕ) → IsTrue (has_height new.held h) → IsTrue (has_height kept.held h) ⊎ (height ≡ h)
      before h has = by ignored puts.held
        where
          by : (b : Bool) → new.held ≡ (if b then kept.held else kept.held ++ record { height = height; value = value } ∷ []) → IsTrue (has_height kept.held h) ⊎ (height ≡ h)
          by true is = inl (same_heights new.held kept.held (sym is) h has)
          by false is = has_height-push_cases kept.held height h value (subst (λ xs. IsTrue (has_height xs h)) is has)

      behind : (p : Pooled) → Contains pool.pooled p → Contains (writes_behind p.sync.position pool) height
      behind p in_pool = let within : p.sync.position ≤ total_writes write.before = at_mapped (λ s. s.position ≤ total_writes write.before) (λ q. q.sync) pool.pooled p (subst (AllByRecursion (λ s. s.position ≤ total_writes write.before)) (sym (ap (λ w. w.syncs) write.is)) write.ordered.within) in_pool in
          subst (λ xs. Contains (drop (p.sync.position - pool.covered) xs) height) (sym (ap (λ w. w.uncovered) write.is)) (drop_last (p.sync.position - pool.covered) write.before.uncovered height (let same : pool.covered ≡ write.before.covered = ap (λ w. w.covered) write.is in omega (arith, within, same)))

  -- a sync was started whose ticket covers all that is held
  pub AwaitsSyncs-started : (blocks certs : ℕ) → ticket_of (record { sync = record { ticket = pool.next_sync; position = pool.covered + length pool.uncovered }; blocks = blocks; certs = certs }) ≤ number → ticket_of (record { sync = record { ticket = pool.next_sync; position = pool.covered + length pool.uncovered }; blocks = blocks; certs = certs }) ≤ last_number
      → covers (ticket_of (record { sync = record { ticket = pool.next_sync; position = pool.covered + length pool.uncovered }; blocks = blocks; certs = certs })) ≡ kept.held → AwaitsSyncs ticket_of kept number covers (pool_started blocks certs pool)
  AwaitsSyncs-started blocks certs given fits covered = record {
    written = waits.written;
    given = λ p in_pool. ⊎_elim (λ was. waits.given p was) (λ is. subst (λ q. (ticket_of q ≤ number) × (ticket_of q ≤ last_number)) is (given, fits)) (Contains-push_cases pool.pooled _ p in_pool);
    covered = λ p in_pool h has. ⊎_elim (λ was. waits.covered p was h has) (λ is. inr (inl (subst (λ q. IsTrue (has_height (covers (ticket_of q)) h)) is (same_heights kept.held _ covered h has)))) (Contains-push_cases pool.pooled _ p in_pool);
  }

  -- the sync of a ticket has finished in the archive, and then in the pool
  pub AwaitsSyncs-finished : (ticket : ℕ) (p : Pooled) (new : Kept (At T)) (new_number : ℕ) (new_covers : ℕ → List (At T)) → pooled_at pool.pooled ticket ≡ Some p → Finishes (covers (ticket_of p)) kept new → number ≤ new_number → KeepsCovers number covers new_covers → new_covers last_number ≡ new.held → AwaitsSyncs ticket_of new new_number new_covers (pool_finished ticket pool)
  AwaitsSyncs-finished ticket p new new_number new_covers found finishes more keeps last = record {
    written = written;
    given = λ q in_pool. surer.given q (filter_contains _ pool.pooled q in_pool);
    covered = λ q in_pool h has. elim (surer.covered q (filter_contains _ pool.pooled q in_pool) h has) [
      | inl is ↦ inl is
      | inr (inl is) ↦ inr (inl is)
      | inr (inr is) ↦ ⊎_elim (λ sure. inl sure) (λ later. inr (inr later)) (behind q.sync.position h is (written h has))
    ];
  }
    where
      surer : AwaitsSyncs ticket_of new new_number new_covers pool
      surer = AwaitsSyncs-surer new new_number new_covers finishes.held finishes.sure more keeps last

      position : position_of (syncs_of pool.pooled) ticket ≡ p.sync.position
      position = position_found ticket pool.pooled p (sym found)

      rest : List ℕ
      rest = drop (max pool.covered p.sync.position - pool.covered) pool.uncovered

      is_rest : (pool_finished ticket pool).uncovered ≡ rest
      is_rest = ap (λ k. drop (max pool.covered k - pool.covered) pool.uncovered) position

      is_covered : (pool_finished ticket pool).covered ≡ max pool.covered p.sync.position
      is_covered = ap (λ k. max pool.covered k) position

      written : (h : ℕ) → IsTrue (has_height new.held h) → IsTrue (has_height new.sure h) ⊎ Contains (pool_finished ticket pool).uncovered h
      written h has = elim (waits.covered p (at_contains ticket pool.pooled p found) h (same_heights new.held kept.held (sym finishes.held) h has)) [
        | inl is ↦ inl (keeps_heights kept.sure new.sure finishes.sure h is)
        | inr (inl is) ↦ inl (keeps_heights (covers (ticket_of p)) new.sure finishes.covered h is)
        | inr (inr is) ↦ inr (subst (λ xs. Contains xs h) (sym is_rest) (subst (λ k. Contains (drop k pool.uncovered) h) (same_rest pool.covered p.sync.position) is))
      ]

      behind : (q h : ℕ) → Contains (writes_behind q pool) h → IsTrue (has_height new.sure h) ⊎ Contains (pool_finished ticket pool).uncovered h → IsTrue (has_height new.sure h) ⊎ Contains (writes_behind q (pool_finished ticket pool)) h
      behind q h has (inl sure) = inl sure
      behind q h has (inr left) = elim (cases_lt q (max pool.covered p.sync.position)) [
        | inl below ↦ inr (subst (λ k. Contains (drop k (pool_finished ticket pool).uncovered) h) (none_left q _ (max pool.covered p.sync.position) below is_covered) left)
        | inr above ↦ inr (subst (λ k. Contains (drop (q - k) (pool_finished ticket pool).uncovered) h) (sym is_covered) (subst (λ xs. Contains (drop (q - max pool.covered p.sync.position) xs) h) (sym is_rest) (subst (λ xs. Contains xs h) (sym (drop_both (max pool.covered p.sync.position - pool.covered) (q - max pool.covered p.sync.position) pool.uncovered)) (subst (λ k. Contains (drop k pool.uncovered) h) (all_left pool.covered p.sync.position q above) has))))
      ]

-- WHAT IS STAGED

module _ {B : Type 0} (plain : B → Block) where
  -- what is held at a height stays
  pub AreHeld-kept : (held new : List (At Block)) (staged : List (ℕ × B)) → KeepsValues held new → AreHeld plain held staged → AreHeld plain new staged
  AreHeld-kept held new [] keeps all = tt
  AreHeld-kept held new (e ∷ es) keeps all = (keeps e.0 (plain e.1) all.0, AreHeld-kept held new es keeps all.1)

  pub AreHeld-removed : (held : List (At Block)) (t : ℕ → Bool) (es : List (ℕ × B)) → AreHeld plain held es → AreHeld plain held (remove_entry t es)
  AreHeld-removed held t [] all = tt
  AreHeld-removed held t (e ∷ es) all =
      elim (t e.0) as (λ b. AreHeld plain held (cond b es (e ∷ remove_entry t es))) [ true ↦ all.1 | false ↦ (all.0, AreHeld-removed held t es all.1) ]

  pub AreHeld-filtered : (held : List (At Block)) (p : ℕ × B → Bool) (es : List (ℕ × B)) → AreHeld plain held es → AreHeld plain held (filter p es)
  AreHeld-filtered held p [] all = tt
  AreHeld-filtered held p (e ∷ es) all =
      elim (p e) as (λ b. AreHeld plain held (cond b (e ∷ filter p es) (filter p es))) [ true ↦ (all.0, AreHeld-filtered held p es all.1) | false ↦ AreHeld-filtered held p es all.1 ]

  AreHeld-inserted : (held : List (At Block)) (h : ℕ) (b : B) (es : List (ℕ × B)) → value_at held h ≡ Some (plain b) → AreHeld plain held es → AreHeld plain held (insert_entry nat_cmp es h b)
  AreHeld-inserted held h b [] here all = (here, tt)
  AreHeld-inserted held h b (e ∷ es) here all =
      by (nat_cmp h e.0) refl (AreHeld-inserted held h b es here all.1)
    where
      by : (o : _) → nat_cmp h e.0 ≡ o → AreHeld plain held (insert_entry nat_cmp es h b) → AreHeld plain held (match_ordering o ((h, b) ∷ e ∷ es) ((e.0, b) ∷ es) (e ∷ insert_entry nat_cmp es h b))
      by Less is rest = (here, all)
      by Equal is rest = (subst (λ k. value_at held k ≡ Some (plain b)) (ranked h e.0 Equal (sym is)) here, all.1)
      by Greater is rest = (all.0, rest)

  -- what is taken out is held
  pub AreHeld-found : (held : List (At Block)) (h : ℕ) (es : List (ℕ × B)) (b : B) → lookup (λ k. k == h) es ≡ Some b → AreHeld plain held es → value_at held h ≡ Some (plain b)
  AreHeld-found held h [] b found all = absurd (none-some _ found)
  AreHeld-found held h (e ∷ es) b found all = by (e.0 == h) refl (λ later. AreHeld-found held h es b later all.1) found
    where
      by : (c : Bool) → (e.0 == h) ≡ c → (lookup (λ k. k == h) es ≡ Some b → value_at held h ≡ Some (plain b)) → cond c (Some e.1) (lookup (λ k. k == h) es) ≡ Some b → value_at held h ≡ Some (plain b)
      by true is leads here = let same : e.0 ≡ h = eqb-true e.0 h is in subst (λ k. value_at held k ≡ Some (plain b)) same (all.0 ∙ ap (λ x. Some (plain x)) (same_Some e.1 b here))
      by false is leads later = leads later

-- BOTH ARCHIVES

-- writes that are the same change nothing
pub same_writes : (h : Held) (w : Writing) → h.writes ≡ w → h ≡ record h { writes = w }
same_writes h w same = ap (λ v. record h { writes = v }) same

-- what is put stays held at its height, and what was held
pub held_by_put : {T : Type 0} (ignored : Bool) (old : Kept (At T)) (x : At T) (new : Kept (At T)) → Puts ignored old x new → KeepsValues old.held new.held
held_by_put true old x new puts h v is = subst (λ xs. value_at xs h ≡ Some v) (sym puts.held) is
held_by_put false old x new puts h v is = subst (λ xs. value_at xs h ≡ Some v) (sym puts.held) (value_at-append_found old.held (x ∷ []) h v is)

-- where the height was free and is taken, what was put stands there
put_there : {T : Type 0} (ignored : Bool) (old : Kept (At T)) (h : ℕ) (v : T) (new : Kept (At T)) → Puts ignored old (record { height = h; value = v }) new → IsFalse (has_height old.held h) → IsTrue (has_height new.held h) → value_at new.held h ≡ Some v
put_there true old h v new puts free has = absurd (both (has_height old.held h) free (subst (λ xs. IsTrue (has_height xs h)) puts.held has))
  where
    both : (b : Bool) → IsFalse b → IsTrue b → ⊥
    both true free has = absurd cc
    both false free has = absurd cc
put_there false old h v new puts free has = subst (λ xs. value_at xs h ≡ Some v) (sym puts.held) (value_at-append old.held (record { height = h; value = v } ∷ []) h ∙ (ap (λ o. option_or o (value_at (record { height = h; value = v } ∷ []) h)) (missing-from_has_height old.held h free) ∙ value_at-one h v))

-- what was taken in was free before and is held now
free_before : (was now : Bool) → true ≡ (not was && now) → IsFalse was
free_before true now is = absurd cc
free_before false now is = refl

taken_after : (was now : Bool) → true ≡ (not was && now) → IsTrue now
taken_after true now is = absurd cc
taken_after false true is = refl
taken_after false false is = absurd cc

module _ {B : Type 0} (plain : B → Block) where
  -- a block is put, and staged where it was taken in
  pub AreHeld-staged : {ignored : Bool} (b : B) (old new : Kept (At Block)) (places : Staged B) {after : Staged B} (taken : Bool) → Puts ignored old (at_own_height (plain b)) new → taken ≡ is_taken_in (plain b).height old new → after ≡ staged_where taken (plain b).height b places → AreHeld plain new.held places.blocks → AreHeld plain new.held after.blocks
  AreHeld-staged {ignored = ignored} b old new places taken puts taken_in is all = subst (λ s. AreHeld plain new.held s.blocks) (sym is) (stage taken taken_in)
    where
      there : true ≡ is_taken_in (plain b).height old new → value_at new.held (plain b).height ≡ Some (plain b)
      there is_in = put_there ignored old (plain b).height (plain b) new puts (free_before (has_height old.held (plain b).height) (has_height new.held (plain b).height) is_in) (taken_after (has_height old.held (plain b).height) (has_height new.held (plain b).height) is_in)

      stage : (t : Bool) → t ≡ is_taken_in (plain b).height old new → AreHeld plain new.held (staged_where t (plain b).height b places).blocks
      stage false is_in = all
      stage true is_in = placed (has_place places (plain b).height)
        where
          placed : (c : Bool) → AreHeld plain new.held (if c then record places { blocks = insert_entry nat_cmp places.blocks (plain b).height b } else places).blocks
          placed true = AreHeld-inserted plain new.held (plain b).height b places.blocks (there is_in) all
          placed false = all

  AreHeld-mid : (held : List (At Block)) (height : ℕ) (places : Staged B) {mid : Staged B} → mid ≡ kept_from height places → AreHeld plain held places.blocks → AreHeld plain held mid.blocks
  AreHeld-mid held height places kept all = subst (λ s. AreHeld plain held s.blocks) (sym kept) (AreHeld-filtered plain held (λ e. nat_le height e.0) places.blocks all)

  -- a block is taken out of what is staged
  pub AreHeld-taken : (held : List (At Block)) (height : ℕ) (places : Staged B) {mid later : Staged B} → mid ≡ kept_from height places → later ≡ without_height height mid → AreHeld plain held places.blocks → AreHeld plain held later.blocks
  AreHeld-taken held height places {mid = mid} kept is all = subst (λ s. AreHeld plain held s.blocks) (sym is) (AreHeld-removed plain held (λ k. k == height) mid.blocks (AreHeld-mid held height places kept all))

  -- and it is the one that is held
  pub held_taken : (held : List (At Block)) (height : ℕ) (places : Staged B) {mid : Staged B} (b : B) → mid ≡ kept_from height places → Some b ≡ staged_at mid height → AreHeld plain held places.blocks → Some (plain b) ≡ value_at held height
  held_taken held height places {mid = mid} b kept found all = sym (AreHeld-found plain held height mid.blocks b (sym found) (AreHeld-mid held height places kept all))

-- the tickets of an open sync were given
pub given : {T : Type 0} (ticket_of : Pooled → ℕ) {kept : Kept (At T)} {number : ℕ} {covers : ℕ → List (At T)} {pool : Pool} → AwaitsSyncs ticket_of kept number covers pool → (ticket : ℕ) (p : Pooled) → Some p ≡ pooled_at pool.pooled ticket → ticket_of p ≤ number
given ticket_of {pool = pool} waits ticket p found = (waits.given p (at_contains ticket pool.pooled p (sym found))).0
