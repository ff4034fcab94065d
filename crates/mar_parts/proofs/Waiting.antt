-- Waits under the bytes of their names.
use Rattle.std.proofs.Common.{Bool, List, None, Option, Some, [], ap, cond, false, length, refl, sym, true, ℕ, ◌++◌, ◌∙◌, ◌∷◌, ◌≡◌}
use Rattle.std.specs.BTreeMap.{BTreeMap, get, is_at}
use Rattle.std.specs.Map.{lookup}
use Rattle.std.specs.Prelude.{bytes_eq, nat_lt, option_map}
use Rattle.std.specs.declared.cmp.Ordering.{Ordering}
use Rattle.mar_parts.specs.Waits.{Wait, joined, open_of, still_open}
use Rattle.mar_parts.proofs.ByName.{IsByBytes, named, same_name, seen}

through : {X Y : Type 0} (see : X → Y) (b : Bool) (w o : Option X) → option_map see (cond b w o) ≡ cond b (option_map see w) (option_map see o)
through see true w o = refl
through see false w o = refl

-- what stands under each name once one entry was put, written or taken out
pub after_update : {K X Y : Type 0} (bytes : K → List ℕ) (cmp : K → K → Ordering) (see : X → Y) → IsByBytes bytes cmp → (m n : BTreeMap K X) (name : K) (w : Option X) → ((q : K) → get cmp n q ≡ cond (is_at (cmp name) q) w (get cmp m q)) → (q : K) → lookup (bytes_eq (bytes q)) (seen bytes see n.entries) ≡ cond (bytes_eq (bytes name) (bytes q)) (option_map see w) (lookup (bytes_eq (bytes q)) (seen bytes see m.entries))
after_update bytes cmp see ordered m n name w updates q =
    named bytes cmp see ordered q n.entries
    ∙ ap (option_map see) (updates q)
    ∙ through see (is_at (cmp name) q) w (get cmp m q)
    ∙ ap (λ b. cond b (option_map see w) (option_map see (get cmp m q))) (same_name bytes cmp ordered name q)
    ∙ ap (λ o. cond (bytes_eq (bytes name) (bytes q)) (option_map see w) o) (sym (named bytes cmp see ordered q m.entries))

-- one more waits with those that wait
pub joined_to : (ticket : ℕ) (promise : Option (List ℕ)) (old new : Wait) (o : Option Wait) → o ≡ Some old → new.tickets ≡ old.tickets ++ ticket ∷ [] → new.promise ≡ old.promise → new ≡ joined ticket promise o
joined_to ticket promise old new o is tickets told = rw (is, ← tickets, ← told) refl

-- what a call that drops closed tickets says
pub still_said : (closed : List ℕ) (old new : Wait) (b : Bool) → new.tickets ≡ open_of closed old.tickets → new.promise ≡ old.promise → b ≡ nat_lt 0 (length (open_of closed old.tickets)) → still_open closed old ≡ cond b (Some new) None
still_said closed old new b tickets told left = rw (← left, ← tickets, ← told) refl
