use Rattle.std.proofs.Common.{ap, rules, sym, ◌∙◌, ◌≡◌}
use Rattle.std.specs.Prelude.{codes}
use Rattle.mar_model.specs.Messages.{some_peers}
use Rattle.mar_script.proofs.Numbers.{not_other}
use Rattle.mar_script.proofs.PeerWords.{means_all, means_none, means_some}
use Rattle.mar_script.proofs.peers.recipients.Goals as goal

pub returns-then-eq-clause-only : goal.returns-then-eq-clause-only
returns-then-eq-clause-only c = λ p is same.
    let word : c.args.word.now ≡ codes "all" = search rules in
    means_all p is (sym word ∙ same)

pub returns-then-eq-2-clause-only : goal.returns-then-eq-2-clause-only
returns-then-eq-2-clause-only c = λ p is same.
    let word : c.args.word.now ≡ codes "-" = search rules in
    ap some_peers c.new.ensures.items ∙ means_none p is (sym word ∙ same)

pub returns-in-Ok-clause-only : goal.returns-in-Ok-clause-only
returns-in-Ok-clause-only c = λ p is same.
    let all : c.as_slice.result.now ≡ codes "all" = search rules in
    let none : c.as_slice-2.result.now ≡ codes "-" = search rules in
    let names = means_some c.args.word.now p is same (λ e. not_other _ _ (sym c.eq.ensures ∙ c.if-eq.false) (e ∙ sym all)) (λ e. not_other _ _ (sym c.eq-2.ensures ∙ c.if-eq-2.false) (e ∙ sym none)) in
    ap some_peers (c.in-Ok.ensures.only names.peers names.are names.some names.spelled) ∙ names.is

pub returns-in-Err-clause-only : goal.returns-in-Err-clause-only
returns-in-Err-clause-only c = λ p is same.
    let all : c.as_slice.result.now ≡ codes "all" = search rules in
    let none : c.as_slice-2.result.now ≡ codes "-" = search rules in
    let names = means_some c.args.word.now p is same (λ e. not_other _ _ (sym c.eq.ensures ∙ c.if-eq.false) (e ∙ sym all)) (λ e. not_other _ _ (sym c.eq-2.ensures ∙ c.if-eq-2.false) (e ∙ sym none)) in
    c.in-Err.ensures.only names.peers names.are names.some names.spelled
