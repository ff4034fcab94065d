use Rattle.std.proofs.Common.{refl, ◌∙◌}
use Rattle.mar_script.proofs.FirstWords.{no_sentence}
use Rattle.mar_script.proofs.HintWords.{hint_words, same_hint, some_peer}
use Rattle.mar_script.proofs.hint_line.hinted.Goals as goal

pub returns-in_default-clause-only : goal.returns-in_default-clause-only
returns-in_default-clause-only c = λ v is same. no_sentence c.args.words.now _ _ (c.in_default.ensures.none refl) same

pub returns-in-Err-clause-only : goal.returns-in-Err-clause-only
returns-in-Err-clause-only c = λ v is same.
    let words = hint_words c.args.words.now _ _ v c.in-Some.ensures.found.0 c.in-Some.ensures.found.1 is same in
    c.in-Err.ensures.only v.0 is.0 words.0

pub returns-in-Err-members-clause-only : goal.returns-in-Err-members-clause-only
returns-in-Err-members-clause-only c = λ v is same.
    let words = hint_words c.args.words.now _ _ v c.in-Some.ensures.found.0 c.in-Some.ensures.found.1 is same in
    c.in-Err-members.ensures.only v.1 is.1 is.2 words.1

pub returns-in-Some-from_vec-clause-only : goal.returns-in-Some-from_vec-clause-only
returns-in-Some-from_vec-clause-only c = λ v is same.
    let words = hint_words c.args.words.now _ _ v c.in-Some.ensures.found.0 c.in-Some.ensures.found.1 is same in
    same_hint c.in-Ok.height c.in-Some-from_vec.targets v (c.in-Ok.ensures.only v.0 is.0 words.0) (c.in-Some-from_vec.ensures.same ∙ c.in-Ok-members.ensures.only v.1 is.1 is.2 words.1)

pub returns-in-None-clause-only : goal.returns-in-None-clause-only
returns-in-None-clause-only c = λ v is same.
    let words = hint_words c.args.words.now _ _ v c.in-Some.ensures.found.0 c.in-Some.ensures.found.1 is same in
    some_peer _ v is (c.in-Ok-members.ensures.only v.1 is.1 is.2 words.1) (c.in-None.ensures.empty.0 refl)
