-- What came for tickets, in order, and what stands for one of them.
use Rattle.std.specs.Prelude.{Bool, IfSome, List, None, Option, Some, false, fold, if◌then◌else◌, length, map, option_map, true, ℕ, ◌<◌, ◌==◌, ◌≡◌}
use Rattle.mar_types.specs.Places.{at_place}
use Rattle.mar_model.specs.Answers.{TicketAnswer, closed_value, to}
use Rattle.mar_model.specs.Answers.{Value as PlainValue}
use Rattle.mar_inbox.specs.declared.answers.Answer.{Answer}
use Rattle.mar_inbox.specs.declared.answers.Answer.TheVariants.{Closed, Value}
use Rattle.mar_inbox.specs.declared.answers.Answered.{Answered}
use Rattle.mar_inbox.specs.declared.answers.Standing.{Standing}
use Rattle.mar_inbox.specs.declared.answers.Standing.TheVariants as stands

-- a closing ends a wait alone, and stays; of several answers the latest stands
abbrev pub stood_after : {V : Type 0} → Option (Answer V) → Answer V → Option (Answer V)
stood_after None came = Some came
stood_after (Some (Value v)) (Value w) = Some (Value w)
stood_after (Some stood) came = Some stood

-- what stands for a ticket, None while it waits
abbrev pub standing : {V : Type 0} → List (Answered V) → ℕ → Option (Answer V)
standing answers ticket = fold (λ stood a. if a.ticket == ticket then stood_after stood a.answer else stood) None answers

-- what stands for a ticket is the answer at this place
abbrev pub StandsAt : {V : Type 0} → List (Answered V) → ℕ → Option ℕ → Type 0
StandsAt answers ticket place = (option_map (λ a. a.answer) (at_place answers place) ≡ standing answers ticket) × IfSome place (λ k. k < length answers)

-- what a poll tells
abbrev pub came_of : {V : Type 0} → Standing V → Option (Answer V)
came_of stands.Waiting = None
came_of (stands.Value v) = Some (Value v.now)
came_of stands.Closed = Some Closed

abbrev pub is_waiting : {V : Type 0} → Standing V → Bool
is_waiting stands.Waiting = true
is_waiting _ = false

-- what came for a ticket, as the definitions see it, by what a value is as plain data
abbrev pub answer_of : {V : Type 0} → (V → PlainValue) → Answer V → PlainValue
answer_of value (Value v) = value v
answer_of value Closed = closed_value

-- all that came
abbrev pub told : {V : Type 0} → (V → PlainValue) → List (Answered V) → List TicketAnswer
told value answers = map (λ a. to a.ticket (answer_of value a.answer)) answers
