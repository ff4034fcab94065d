-- Blocks that are kept for callers, and syncs of the cache that finish: what the calls of these rules come to.
use Rattle.std.proofs.Common.{◌≡◌, ◌++◌, ℕ, List, [], ◌∷◌, Bool, true, map, Option, Some, option_to_list, Result, Ok, Err, OnErr, OnOk, refl, sym, ◌∙◌, ap}
use Rattle.mar_model.specs.Acts.{KeepsAndTells, kept_value}
use Rattle.mar_model.specs.Answers.{TicketAnswer, finished_answers, to, true_value}
use Rattle.mar_model.specs.Cached.{Cached}
use Rattle.mar_model.specs.Held.{Held}
use Rattle.mar_model.specs.Moves.{FinishesCacheSync}
use Rattle.mar_model.specs.OpenSyncs.{waits_for}
use Rattle.mar_actor.specs.Kept.{KeepsAndAnswers}

-- where a call failed nothing was told
pub on_err : {A B T C : Type 0} (f : A → B) (result : Result T C) (before after : A) → OnErr result (after ≡ before) → OnErr result (f after ≡ f before)
on_err f (Ok x) before after same = tt
on_err f (Err c) before after same = ap f same

module _ {T C : Type 0} (result : Result T C) (epoch : ℕ) (put : List Cached) (covered : Cached → Bool) (t : ℕ) (old new : Held) (before after : List TicketAnswer) where
  -- what was answered, beside what was before
  pub telling : OnOk result (KeepsAndAnswers epoch put covered t old new before after) → OnOk result ((answered : List TicketAnswer) × KeepsAndTells epoch put covered t old new answered × (after ≡ before ++ answered))
  telling kept = by result kept
    where
      by : (r : Result T C) → OnOk r (KeepsAndAnswers epoch put covered t old new before after) → OnOk r ((answered : List TicketAnswer) × KeepsAndTells epoch put covered t old new answered × (after ≡ before ++ answered))
      by (Ok x) kept = (to t (kept_value kept.sync) ∷ [], record { sync = kept.sync; kept = kept.keeps; told = refl }, kept.answered)
      by (Err c) kept = tt

  pub whole_behind : old.intact ≡ true → OnOk result (KeepsAndAnswers epoch put covered t old new before after) → OnOk result (new.intact ≡ true)
  whole_behind whole kept = by result kept
    where
      by : (r : Result T C) → OnOk r (KeepsAndAnswers epoch put covered t old new before after) → OnOk r (new.intact ≡ true)
      by (Ok x) kept = ap (λ h. h.intact) kept.keeps.same ∙ whole
      by (Err c) kept = tt

-- a sync of the cache that finishes leaves the stores whole
pub whole_finished : {T C : Type 0} (result : Result T C) (t : ℕ) (old new : Held) → old.intact ≡ true → OnOk result (FinishesCacheSync t old new) → OnOk result (new.intact ≡ true)
whole_finished (Ok x) t old new whole finishes = ap (λ h. h.intact) finishes.same ∙ whole
whole_finished (Err c) t old new whole finishes = tt

-- and the caller that waits for it is answered, where there is one
pub finishing : {T C : Type 0} (result : Result T C) (t : ℕ) (old new : Held) (answer : Option ℕ) (before after : List TicketAnswer) → waits_for t old.cache.syncs ≡ answer → OnOk result (FinishesCacheSync t old new) → OnOk result (after ≡ before ++ map (λ a. to a true_value) (option_to_list answer)) → OnOk result ((answered : List TicketAnswer) × (FinishesCacheSync t old new × (answered ≡ finished_answers t old.cache.syncs)) × (after ≡ before ++ answered))
finishing (Ok x) t old new answer before after waits finishes answered = (finished_answers t old.cache.syncs, (finishes, refl), answered ∙ ap (λ o. before ++ map (λ a. to a true_value) (option_to_list o)) (sym waits))
finishing (Err c) t old new answer before after waits finishes answered = tt
