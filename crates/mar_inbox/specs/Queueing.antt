-- What an inbox answers, as the definitions see it.
use Rattle.mar_model.specs.Messages.{Queued}
use Rattle.mar_inbox.specs.Policy.{feedback_accepted, feedback_overflowed, feedback_refused, message_taken, queue_empty, seats_gone}
use Rattle.mar_inbox.specs.Policy.{Feedback as PlainFeedback, Taken as PlainTaken}
use Rattle.mar_inbox.specs.declared.feedback.Feedback.{Feedback}
use Rattle.mar_inbox.specs.declared.feedback.Feedback.TheVariants as feedback
use Rattle.mar_inbox.specs.declared.taken.Taken.{Taken}
use Rattle.mar_inbox.specs.declared.taken.Taken.TheVariants as taken

abbrev pub feedback_of : Feedback → PlainFeedback
feedback_of feedback.Ok = feedback_accepted
feedback_of feedback.Overflowed = feedback_overflowed
feedback_of feedback.Closed = feedback_refused

-- by what a message says
abbrev pub taken_of : {M : Type 0} → (M → Queued) → Taken M → PlainTaken
taken_of plain (taken.Message m) = message_taken (plain m)
taken_of plain taken.Empty = queue_empty
taken_of plain taken.Closed = seats_gone
