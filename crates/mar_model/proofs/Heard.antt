-- What those around a life heard: a promise of one who answers nobody and sends nothing holds beside any answers and sends.
use Rattle.std.proofs.Common.{◌≡◌, ℕ, List, [], ◌++◌, Option, Some, Result, Ok, Err, OnErr, refl, sym, ◌∙◌, ap, subst, append-nil}
use Rattle.mar_types.specs.Epochs.{Epochs}
use Rattle.mar_cert.specs.Block.{Block}
use Rattle.mar_key.specs.Hears.{Hears}
use Rattle.mar_key.specs.Keys.{Call}
use Rattle.mar_model.specs.Answers.{Sent, TicketAnswer}
use Rattle.mar_model.specs.Event.{Event}
use Rattle.mar_model.specs.Held.{Ending, Seen}
use Rattle.mar_model.specs.Promise.{HearsMade, KeepsStart, KeepsStep, heard_by, heard_with}
use Rattle.mar_model.specs.Step.{Made, Report}

-- who heard nothing was told nothing
heard_none : {T : Type 0} (xs : List T) → Hears (Some []) xs (Some []) → xs ≡ []
heard_none {T = T} xs heard = sym (inside heard)
  where
    inside : ◌≡◌ {A = Option (List T)} (Some []) (Some xs) → [] ≡ xs
    inside is = cc

-- whoever sent and was answered before
module _ (reports reports' : Option (List Report)) (asks asks' : Option (List Call)) (sends sends' : Option (List Sent)) (silent : Hears sends [] sends') (answers : List TicketAnswer) where
  pub HearsMade-beside : (made : Made) → HearsMade (heard_by reports asks) made (heard_by reports' asks') → HearsMade (heard_with reports asks sends answers) made (heard_with reports' asks' sends' answers)
  HearsMade-beside made heard = record {
    reports = heard.reports;
    asks = heard.asks;
    sends = subst (λ xs. Hears sends xs sends') (sym (heard_none made.sends heard.sends)) silent;
    answers = sym (ap (λ xs. answers ++ xs) (sym heard.answers) ∙ append-nil answers);
  }

  pub KeepsStep-beside : {P E : Type 0} (epochs : Epochs) (inner : List ℕ → List ℕ) (old : Seen P E) (events : List Event) (buffer : List Block) (result : Result (Seen P E) Ending) → KeepsStep epochs inner old events buffer (heard_by reports asks) (heard_by reports' asks') result → KeepsStep epochs inner old events buffer (heard_with reports asks sends answers) (heard_with reports' asks' sends' answers) result
  KeepsStep-beside epochs inner old events buffer (Ok new) keeps loaded config chain waiting set step =
      let finishes = keeps loaded config chain waiting set step in
      record { made = finishes.made; heard = HearsMade-beside finishes.made finishes.heard; steps = finishes.steps }
  KeepsStep-beside epochs inner old events buffer (Err e) keeps loaded config chain waiting set step =
      let cut = keeps loaded config chain waiting set step in
      record { made = cut.made; heard = HearsMade-beside cut.made cut.heard; cuts = cut.cuts }

  pub KeepsStart-beside : {P E : Type 0} (epochs : Epochs) (inner : List ℕ → List ℕ) (old : Seen P E) (events : List Event) (buffer : List Block) (result : Result (Seen P E) Ending) → KeepsStart epochs inner old events buffer (heard_by reports asks) (heard_by reports' asks') result → KeepsStart epochs inner old events buffer (heard_with reports asks sends answers) (heard_with reports' asks' sends' answers) result
  KeepsStart-beside epochs inner old events buffer (Ok new) keeps fresh config chain waiting set step =
      let start = keeps fresh config chain waiting set step in
      record { begun = start.begun; takes = start.takes; finishes = record { made = start.finishes.made; heard = HearsMade-beside start.finishes.made start.finishes.heard; steps = start.finishes.steps } }
  KeepsStart-beside epochs inner old events buffer (Err e) keeps fresh config chain waiting set step =
      let start = keeps fresh config chain waiting set step in
      record { begun = start.begun; takes = start.takes; cuts = record { made = start.cuts.made; heard = HearsMade-beside start.cuts.made start.cuts.heard; cuts = start.cuts.cuts } }

pub unanswered-err : {T A B : Type 0} (x : T) (result : Result A B) → OnErr result (x ≡ x)
unanswered-err x (Ok r) = tt
unanswered-err x (Err e) = refl
