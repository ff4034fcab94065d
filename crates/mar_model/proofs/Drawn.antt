-- Plans of the events, part by part: which one it is by what stands.
use Rattle.std.proofs.Common.{◌≡◌, ◌∷◌, ◌++◌, [], List, Option, None, Some, Bool, true, false, cond, is_some, length, ℕ, ◌+◌, arith, refl, sym, ap, subst, append_assoc}
use Rattle.mar_cert.specs.Finalization.{Finalization}
use Rattle.mar_store.specs.Kept.{At}
use Rattle.mar_model.specs.Acks.{Mark, Outstanding, after_oldest, dropped_oldest, given_oldest, is_dropped, is_given, mark_dropped, mark_given, mark_waiting}
use Rattle.mar_model.specs.Faults.{dropped_ack}
use Rattle.mar_model.specs.Held.{Held}
use Rattle.mar_model.specs.Node.{CacheSync}
use Rattle.mar_model.specs.OpenSyncs.{NoneHas, is_cache_sync}
use Rattle.mar_model.specs.Acts.{finish_kept, keeps_for, process, progresses, says, tell}
use Rattle.mar_model.specs.Plans.{drain_plan, finish_plan, newest_plan, next_plan, oldest_plan, settle_plan, sync_plan}
use Rattle.mar_model.specs.Ran.{Reached, Task, does, ends}
use Rattle.mar_model.specs.Scene.{Scene}
use Rattle.mar_gate.specs.Writing.{is_open_sync}

module _ (inner : List ℕ → List ℕ) (start : Scene) (whole : List Task) (s : Scene) where
  -- a plan of two parts, and what comes behind it
  pub regrouped : (xs ys rest : List Task) → Reached inner start whole ((xs ++ ys) ++ rest) s → Reached inner start whole (xs ++ (ys ++ rest)) s
  regrouped xs ys rest reached = subst (λ p. Reached inner start whole p s) (append_assoc xs ys rest) reached

  -- SYNCS

  pub finish-kept : (rest : List Task) (h : Held) (t : ℕ) → is_cache_sync h.cache.syncs t ≡ true → Reached inner start whole (finish_plan h t ++ rest) s → Reached inner start whole (does (keeps_for (finish_kept t)) ∷ rest) s
  finish-kept rest h t is reached = subst (λ c. Reached inner start whole (cond c (does (keeps_for (finish_kept t)) ∷ []) (sync_plan (is_open_sync h.writes.syncs t) t) ++ rest) s) is reached

  pub finish-both : (rest : List Task) (h : Held) (t : ℕ) → is_cache_sync h.cache.syncs t ≡ false → Reached inner start whole (finish_plan h t ++ rest) s → Reached inner start whole (sync_plan (is_open_sync h.writes.syncs t) t ++ rest) s
  finish-both rest h t is reached = subst (λ c. Reached inner start whole (cond c (does (keeps_for (finish_kept t)) ∷ []) (sync_plan (is_open_sync h.writes.syncs t) t) ++ rest) s) is reached

  -- what is made durable where anything was processed
  pub settles : (rest : List Task) (c : Bool) → c ≡ true → Reached inner start whole (settle_plan c ++ rest) s → Reached inner start whole (settle_plan true ++ rest) s
  settles rest c is reached = subst (λ d. Reached inner start whole (settle_plan d ++ rest) s) is reached

  pub settles-not : (rest : List Task) (c : Bool) → c ≡ false → Reached inner start whole (settle_plan c ++ rest) s → Reached inner start whole rest s
  settles-not rest c is reached = subst (λ d. Reached inner start whole (settle_plan d ++ rest) s) is reached

-- none of the open syncs has a ticket
pub none-has : (t : ℕ) (syncs : List CacheSync) → NoneHas t syncs → is_cache_sync syncs t ≡ false
none-has t [] none = refl
none-has t (s ∷ syncs) none = rw none.0 (none-has t syncs none.1)

-- THE OLDEST BLOCKS

pub next-given : (out : List Outstanding) (o : Outstanding) → given_oldest out ≡ Some o → next_plan out ≡ does (progresses (process o.height)) ∷ []
next-given [] o is = absurd (let no : ◌≡◌ {A = Option Outstanding} None (Some o) = is in cc)
next-given (p ∷ out) o is = by p.mark is
  where
    of : Option Outstanding → List Task
    of None = []
    of (Some q) = does (progresses (process q.height)) ∷ []

    by : (m : Mark) → cond (is_given m) (Some p) None ≡ Some o → oldest_plan m p.height ≡ does (progresses (process o.height)) ∷ []
    by mark_waiting is = absurd (let no : ◌≡◌ {A = Option Outstanding} None (Some o) = is in cc)
    by mark_given is = ap of is
    by mark_dropped is = absurd (let no : ◌≡◌ {A = Option Outstanding} None (Some o) = is in cc)

pub next-dropped : (out : List Outstanding) (o : Outstanding) → dropped_oldest out ≡ Some o → next_plan out ≡ ends (dropped_ack o.height) ∷ []
next-dropped [] o is = absurd (let no : ◌≡◌ {A = Option Outstanding} None (Some o) = is in cc)
next-dropped (p ∷ out) o is = by p.mark is
  where
    of : Option Outstanding → List Task
    of None = []
    of (Some q) = ends (dropped_ack q.height) ∷ []

    by : (m : Mark) → cond (is_dropped m) (Some p) None ≡ Some o → oldest_plan m p.height ≡ ends (dropped_ack o.height) ∷ []
    by mark_waiting is = absurd (let no : ◌≡◌ {A = Option Outstanding} None (Some o) = is in cc)
    by mark_given is = absurd (let no : ◌≡◌ {A = Option Outstanding} None (Some o) = is in cc)
    by mark_dropped is = ap of is

pub next-waits : (out : List Outstanding) → given_oldest out ≡ None → dropped_oldest out ≡ None → next_plan out ≡ []
next-waits [] given dropped = refl
next-waits (p ∷ out) given dropped = by p.mark given dropped
  where
    by : (m : Mark) → cond (is_given m) (Some p) None ≡ None → cond (is_dropped m) (Some p) None ≡ None → oldest_plan m p.height ≡ []
    by mark_waiting given dropped = refl
    by mark_given given dropped = absurd (let no : Some p ≡ None = given in cc)
    by mark_dropped given dropped = absurd (let no : Some p ≡ None = dropped in cc)

-- what is drained behind the oldest
abbrev pub drained_behind : List Outstanding → List Task
drained_behind out = cond (is_some (given_oldest out)) (drain_plan (after_oldest out)) []

pub drain-next : (out : List Outstanding) → drain_plan out ≡ next_plan out ++ drained_behind out
drain-next [] = refl
drain-next (p ∷ out) = by p.mark
  where
    by : (m : Mark) → oldest_plan m p.height ++ cond (is_given m) (drain_plan out) [] ≡ oldest_plan m p.height ++ cond (is_some (cond (is_given m) (Some p) None)) (drain_plan (cond (is_given m) out (p ∷ out))) []
    by mark_waiting = refl
    by mark_given = refl
    by mark_dropped = refl

-- one that is given is taken out
pub given_shorter : (out : List Outstanding) → is_some (given_oldest out) ≡ true → length (after_oldest out) + 1 ≡ length out
given_shorter [] is = absurd (let no : false ≡ true = is in cc)
given_shorter (p ∷ out) is = by p.mark is
  where
    by : (m : Mark) → is_some (cond (is_given m) (Some p) None) ≡ true → length (cond (is_given m) out (p ∷ out)) + 1 ≡ length (p ∷ out)
    by mark_waiting is = absurd (let no : false ≡ true = is in cc)
    by mark_given is = omega arith
    by mark_dropped is = absurd (let no : false ≡ true = is in cc)

module _ (inner : List ℕ → List ℕ) (start : Scene) (whole : List Task) (s : Scene) (out : List Outstanding) (rest : List Task) where
  -- the oldest first
  pub drains : Reached inner start whole (drain_plan out ++ rest) s → Reached inner start whole (next_plan out ++ (drained_behind out ++ rest)) s
  drains reached = regrouped inner start whole s (next_plan out) (drained_behind out) rest (subst (λ p. Reached inner start whole (p ++ rest) s) (drain-next out) reached)

  -- and then those behind it, where it was given
  pub drains-on : (out' : List Outstanding) → is_some (given_oldest out) ≡ true → out' ≡ after_oldest out → Reached inner start whole (drained_behind out ++ rest) s → Reached inner start whole (drain_plan out' ++ rest) s
  drains-on out' given left reached = subst (λ o. Reached inner start whole (drain_plan o ++ rest) s) (sym left) (subst (λ c. Reached inner start whole (cond c (drain_plan (after_oldest out)) [] ++ rest) s) given reached)

  -- or no more
  pub drains-not : is_some (given_oldest out) ≡ false → Reached inner start whole (drained_behind out ++ rest) s → Reached inner start whole rest s
  drains-not given reached = subst (λ c. Reached inner start whole (cond c (drain_plan (after_oldest out)) [] ++ rest) s) given reached

-- THE NEWEST TIP

pub newest-none : (inner : List ℕ → List ℕ) (o : Option (At Finalization)) → None ≡ o → newest_plan inner o ≡ []
newest-none inner o is = ap (newest_plan inner) (sym is)

pub newest-some : (inner : List ℕ → List ℕ) (o : Option (At Finalization)) (x : At Finalization) → Some x ≡ o → newest_plan inner o ≡ does (says (tell x.value.round x.height (inner x.value.payload))) ∷ []
newest-some inner o x is = ap (newest_plan inner) (sym is)
