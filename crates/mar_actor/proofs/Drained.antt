-- Blocks that are drained, one after another.
use Rattle.std.proofs.Common.{◌≡◌, ◌++◌, ◌⊎◌, inl, inr, ℕ, ◌+◌, List, [], ◌∷◌, Bool, true, false, cond, is_some, length, Option, None, Some, Result, Ok, ap, arith, refl, sym, ◌∙◌, subst}
use Rattle.mar_key.specs.Keys.{Call}
use Rattle.mar_model.specs.Acks.{Mark, Outstanding, after_oldest, given_oldest, is_given, mark_dropped, mark_given, mark_waiting}
use Rattle.mar_model.specs.Answers.{Sent, TicketAnswer}
use Rattle.mar_model.specs.Held.{Held}
use Rattle.mar_model.specs.Plans.{drain_plan, next_plan}
use Rattle.mar_model.specs.Promise.{heard_with}
use Rattle.mar_types.specs.Epochs.{Epochs}
use Rattle.mar_model.specs.Faults.{Fault}
use Rattle.mar_model.specs.Held.{ended_on}
use Rattle.mar_model.specs.Ran.{Breaks, Does, Reached, Task}
use Rattle.mar_model.specs.Scene.{Scene, Standing, Window, in_epochs, scene}
use Rattle.mar_model.specs.Step.{Report}
use Rattle.mar_model.proofs.Drawn.{drained_behind, drains, drains-not, drains-on, given_shorter}

-- What has happened as so many turns have processed a block each: what is left of the plan is that of the window that is left.
pub record DrainsSoFar (inner : List ℕ → List ℕ) (epochs : Epochs) (first now : Held) (window window' : Window) (asks asks' : Option (List Call)) (is_drained : Bool) (turns : ℕ) : Type 0 where
  pub whole : now.intact ≡ true
  pub left : length window'.out + turns ≡ length window.out
  pub drained : (is_drained ≡ true) × (is_some (given_oldest window.out) ≡ true) ⊎ (is_drained ≡ false) × (window'.out ≡ window.out)
  pub reached : (standing : Standing) (told : Option (List Report)) (sends : Option (List Sent)) (answers : List TicketAnswer) (start : Scene) (plan rest : List Task)
      → Reached inner start plan (drain_plan window.out ++ rest) (scene first window (in_epochs epochs standing) (heard_with told asks sends answers))
      → Reached inner start plan (drain_plan window'.out ++ rest) (scene now window' (in_epochs epochs standing) (heard_with told asks' sends answers))

pub DrainsSoFar-first : (inner : List ℕ → List ℕ) (epochs : Epochs) (first : Held) (window : Window) (asks : Option (List Call)) → first.intact ≡ true → DrainsSoFar inner epochs first first window window asks asks false 0
DrainsSoFar-first inner epochs first window asks whole = record { whole = whole; left = omega arith; drained = inr (refl, refl); reached = λ standing told sends answers start plan rest reached. reached }

-- whether any was, where the next one isn't given
pub drained_still : (is_drained : Bool) (out out' : List Outstanding) → (is_drained ≡ true) × (is_some (given_oldest out) ≡ true) ⊎ (is_drained ≡ false) × (out' ≡ out) → is_some (given_oldest out') ≡ false → is_drained ≡ is_some (given_oldest out)
drained_still is_drained out out' (inl (was, given)) still = was ∙ sym given
drained_still is_drained out out' (inr (none, same)) still = none ∙ sym (subst (λ o. is_some (given_oldest o) ≡ false) same still)

-- where one is given the first of all was
pub drained_first : (is_drained : Bool) (out out' : List Outstanding) → (is_drained ≡ true) × (is_some (given_oldest out) ≡ true) ⊎ (is_drained ≡ false) × (out' ≡ out) → is_some (given_oldest out') ≡ true → is_some (given_oldest out) ≡ true
drained_first is_drained out out' (inl (was, given)) now = given
drained_first is_drained out out' (inr (none, same)) now = subst (λ o. is_some (given_oldest o) ≡ true) same now

-- a window whose oldest block isn't acknowledged stays as it is
pub waits_still : (w : Window) → given_oldest w.out ≡ None → record w { out = after_oldest w.out } ≡ w
waits_still w none = ap (λ o. record w { out = o }) (still w.out none)
  where
    still : (out : List Outstanding) → given_oldest out ≡ None → after_oldest out ≡ out
    still [] none = refl
    still (p ∷ out) none = by p.mark none
      where
        by : (m : Mark) → cond (is_given m) (Some p) None ≡ None → cond (is_given m) out (p ∷ out) ≡ p ∷ out
        by mark_waiting none = refl
        by mark_given none = absurd (let no : Some p ≡ None = none in cc)
        by mark_dropped none = refl

-- nothing is left of an empty window
pub none_left : (out : List Outstanding) → length out ≡ 0 → out ≡ []
none_left [] is = refl
none_left (o ∷ out) is = absurd (omega (arith, is))

module _ (inner : List ℕ → List ℕ) (epochs : Epochs) (first now : Held) (window window' : Window) (asks asks' : Option (List Call)) (is_drained : Bool) (turns : ℕ) (so : DrainsSoFar inner epochs first now window window' asks asks' is_drained turns) where
  -- a turn that processes one
  pub DrainsSoFar-more : {C : Type 0} (fault : C → Fault) (next : Held) (window'' : Window) (asks'' : Option (List Call)) (r : Bool) → r ≡ is_some (given_oldest window'.out) → r ≡ true → window''.out ≡ after_oldest window'.out → next.intact ≡ true
      → ((standing : Standing) (told : Option (List Report)) (sends : Option (List Sent)) (answers : List TicketAnswer) → Does {T = Bool} inner fault (next_plan window'.out) (scene now window' (in_epochs epochs standing) (heard_with told asks' sends answers)) (scene next window'' (in_epochs epochs standing) (heard_with told asks'' sends answers)) (Ok r))
      → DrainsSoFar inner epochs first next window window'' asks asks'' true (turns + 1)
  DrainsSoFar-more fault next window'' asks'' r is taken left whole runs = record {
    whole = whole;
    left = let shorter : length (after_oldest window'.out) + 1 ≡ length window'.out = given_shorter window'.out given in let before : length window'.out + turns ≡ length window.out = so.left in let now_left : length window''.out ≡ length (after_oldest window'.out) = ap length left in omega arith;
    drained = inl (refl, drained_first is_drained window.out window'.out so.drained given);
    reached = λ standing told sends answers start plan rest reached. drains-on inner start plan _ window'.out rest window''.out given left (runs standing told sends answers start plan _ (drains inner start plan _ window'.out rest (so.reached standing told sends answers start plan rest reached)));
  }
    where
      given : is_some (given_oldest window'.out) ≡ true
      given = sym is ∙ taken

  -- nothing is left
  pub drains-all : turns ≡ length window.out → is_drained ≡ is_some (given_oldest window.out)
  drains-all all = drained_still is_drained window.out window'.out so.drained (ap (λ o. is_some (given_oldest o)) empty)
    where
      empty : window'.out ≡ []
      empty = none_left window'.out (let left : length window'.out + turns ≡ length window.out = so.left in omega arith)

  pub drains-end : turns ≡ length window.out → (standing : Standing) (told : Option (List Report)) (sends : Option (List Sent)) (answers : List TicketAnswer) (start : Scene) (plan rest : List Task)
      → Reached inner start plan (drain_plan window.out ++ rest) (scene first window (in_epochs epochs standing) (heard_with told asks sends answers))
      → Reached inner start plan rest (scene now window' (in_epochs epochs standing) (heard_with told asks' sends answers))
  drains-end all standing told sends answers start plan rest reached = subst (λ o. Reached inner start plan (drain_plan o ++ rest) (scene now window' (in_epochs epochs standing) (heard_with told asks' sends answers))) empty (so.reached standing told sends answers start plan rest reached)
    where
      empty : window'.out ≡ []
      empty = none_left window'.out (let left : length window'.out + turns ≡ length window.out = so.left in omega arith)
