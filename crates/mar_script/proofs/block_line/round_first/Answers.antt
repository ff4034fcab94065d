use Rattle.std.proofs.Common.{refl}
use Rattle.mar_script.proofs.BlockWords.{epoch_first, no_last, round_spelled, view_next}
use Rattle.mar_script.proofs.FirstWords.{no_sentence}
use Rattle.mar_script.proofs.block_line.round_first.Goals as goal

pub returns-in_default-clause-only : goal.returns-in_default-clause-only
returns-in_default-clause-only c = λ r more is same. no_sentence c.args.words.now _ _ (c.in_default.ensures.none refl) same

pub returns-in_default-split_word-clause-only : goal.returns-in_default-split_word-clause-only
returns-in_default-split_word-clause-only c = λ r more is same.
    no_last c.args.words.now _ _ c.in-Some.ensures.found.0 c.in-Some.ensures.found.1 r is more same (c.in_default-split_word.ensures.none refl)

pub returns-in-Ok-clause-found : goal.returns-in-Ok-clause-found
returns-in-Ok-clause-found c = round_spelled c.args.words.now _ _ _ _ c.in-Ok.round c.in-Some.ensures.found.0 c.in-Some-split_word.ensures.found.0 c.in-Ok.ensures.found

pub returns-in-Ok-clause-only : goal.returns-in-Ok-clause-only
returns-in-Ok-clause-only c = λ r more is same.
    let first = epoch_first c.args.words.now _ _ c.in-Some.ensures.found.0 c.in-Some.ensures.found.1 r is more same in
    let next = view_next c.args.words.now _ _ c.in-Some.ensures.found.0 c.in-Some.ensures.found.1 r is more same _ _ c.in-Some-split_word.ensures.found.0 c.in-Some-split_word.ensures.found.1 in
    (c.in-Ok.ensures.only r is first.0 next.0, next.1)

pub returns-in-Err-clause-only : goal.returns-in-Err-clause-only
returns-in-Err-clause-only c = λ r more is same.
    let first = epoch_first c.args.words.now _ _ c.in-Some.ensures.found.0 c.in-Some.ensures.found.1 r is more same in
    let next = view_next c.args.words.now _ _ c.in-Some.ensures.found.0 c.in-Some.ensures.found.1 r is more same _ _ c.in-Some-split_word.ensures.found.0 c.in-Some-split_word.ensures.found.1 in
    c.in-Err.ensures.only r is first.0 next.0
