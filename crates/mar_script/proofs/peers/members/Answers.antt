use Rattle.std.proofs.Common.{ap, sym, ◌∙◌}
use Rattle.std.proofs.lemmas.Result.{IfOk-weaker}
use Rattle.mar_script.specs.Words.{words_of}
use Rattle.mar_script.proofs.PeerWords.{read_parts, spelled_parts}
use Rattle.mar_script.proofs.peers.members.Goals as goal

pub returns-clause-found : goal.returns-clause-found
returns-clause-found c = IfOk-weaker c.members_of.result _ _ (λ ms is. spelled_parts c.args.word.now _ ms.items c.in_ok-parts.ensures (ap words_of (sym c.as_slice.ensures.value) ∙ is)) c.members_of.ensures.found

pub returns-clause-only : goal.returns-clause-only
returns-clause-only c = λ ps are some same. c.members_of.ensures.only ps are (ap words_of c.as_slice.ensures.value ∙ read_parts c.args.word.now _ ps c.in_ok-parts.ensures are some same)
