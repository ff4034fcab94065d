use Rattle.std.proofs.Common.{None, Some, ap, string_bytes, ◌++◌, ◌∙◌}
use Rattle.mar_script.proofs.Pushed.{request_line}
use Rattle.mar_script.proofs.asks.push_request.Goals as goal

pub returns-in_ok-push_line-in-None : goal.returns-in_ok-push_line-in-None
returns-in_ok-push_line-in-None c = rw c.in-None.is (c.in_ok-push_line-in-None.ensures ∙ ap (λ l. string_bytes c.args.text.now ++ l) (request_line _ _ None))

pub returns-in_ok-push_line-in-Some : goal.returns-in_ok-push_line-in-Some
returns-in_ok-push_line-in-Some c = rw c.in-Some.is (c.in_ok-push_line-in-Some.ensures ∙ ap (λ l. string_bytes c.args.text.now ++ l) (request_line _ _ (Some c.in-Some.peers.now)))
