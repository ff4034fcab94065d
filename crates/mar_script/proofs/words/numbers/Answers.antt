use Rattle.std.proofs.Common.{get_or, rules, ◌++◌, ◌∷◌, ◌≡◌, []}
use Rattle.mar_script.proofs.Spelled.{nth_fits, nth_small, nth_word, numbers_more, numbers_whole, words_more, words_whole}
use Rattle.mar_script.proofs.words.numbers.Goals as goal

pub returns-in-Err-clause-only : goal.returns-in-Err-clause-only
returns-in-Err-clause-only c = λ ns small same.
    c.in-Err.ensures.only (get_or ns c.loop-word.word-index 0) (nth_small ns c.loop-word.word-index small) (nth_word c.args.words.now ns c.loop-word.word-index _ same c.loop-word-test.true)

pub loop-word-preserved : goal.loop-word-preserved
loop-word-preserved c =
    let pushed : c.push.new.self.items ≡ c.loop-word.numbers.items ++ c.in-Ok.n ∷ [] = search rules in
    record {
      found = rw pushed (words_more c.args.words.now _ c.loop-word.word-index _ c.in-Ok.n c.loop-word.invariant.found c.loop-word-test.true c.in-Ok.ensures.found);
      only = λ ns small same.
          let fits = nth_fits c.args.words.now ns c.loop-word.word-index same c.loop-word-test.true in
          rw pushed (numbers_more ns _ c.loop-word.word-index c.in-Ok.n (c.loop-word.invariant.only ns small same) fits (c.in-Ok.ensures.only (get_or ns c.loop-word.word-index 0) (nth_small ns c.loop-word.word-index small) (nth_word c.args.words.now ns c.loop-word.word-index _ same c.loop-word-test.true)));
    }

pub returns-clause-found : goal.returns-clause-found
returns-clause-found c = words_whole c.args.words.now _ _ c.loop-word.invariant.found c.loop-word-test.false

pub returns-clause-only : goal.returns-clause-only
returns-clause-only c = λ ns small same. numbers_whole c.args.words.now ns _ _ (c.loop-word.invariant.only ns small same) same c.loop-word-test.false
