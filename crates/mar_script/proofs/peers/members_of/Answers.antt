use Rattle.std.proofs.Common.{ap, get_or, rules, sym, ◌++◌, ◌∙◌, ◌∷◌, ◌==◌, ◌≡◌, []}
use Rattle.std.specs.List.{list_any}
use Rattle.mar_script.proofs.PeerWords.{found_among, not_again, not_among, nth_peer, peers_more}
use Rattle.mar_script.proofs.Spelled.{nth_fits, nth_word, numbers_more, numbers_whole, words_more, words_whole}
use Rattle.mar_script.proofs.peers.members_of.Goals as goal

pub returns-in-Err-clause-only : goal.returns-in-Err-clause-only
returns-in-Err-clause-only c = λ ps are same. c.in-Err.ensures.only (get_or ps c.loop-word.word-index 0) (nth_peer ps c.loop-word.word-index are.0) (nth_word c.args.words.now ps c.loop-word.word-index _ same c.loop-word-test.true)

pub returns-then-contains-clause-only : goal.returns-then-contains-clause-only
returns-then-contains-clause-only c = λ ps are same.
    let i = c.loop-word.word-index in
    let is = c.in-Ok.ensures.only (get_or ps i 0) (nth_peer ps i are.0) (nth_word c.args.words.now ps i _ same c.loop-word-test.true) in
    let among = (found_among c.loop-word.members.items c.in-Ok.member).0 (ap (list_any (λ y. y == c.in-Ok.member)) (sym c.deref.ensures.value) ∙ (sym c.contains.ensures.value ∙ c.if-contains.true)) in
    not_again ps c.loop-word.members.items i c.in-Ok.member are (c.loop-word.invariant.only ps are same) (nth_fits c.args.words.now ps i same c.loop-word-test.true) is among

pub loop-word-preserved : goal.loop-word-preserved
loop-word-preserved c =
    let i = c.loop-word.word-index in
    let pushed : c.push.new.self.items ≡ c.loop-word.members.items ++ c.in-Ok.member ∷ [] = search rules in
    let new = not_among c.loop-word.members.items c.in-Ok.member (ap (list_any (λ y. y == c.in-Ok.member)) (sym c.deref.ensures.value) ∙ (sym c.contains.ensures.value ∙ c.if-contains.false)) in
    record {
      are = rw pushed (peers_more c.loop-word.members.items c.in-Ok.member c.loop-word.invariant.are c.in-Ok.ensures.fits new);
      found = rw pushed (words_more c.args.words.now _ i _ c.in-Ok.member c.loop-word.invariant.found c.loop-word-test.true c.in-Ok.ensures.found);
      only = λ ps are same. rw pushed (numbers_more ps _ i c.in-Ok.member (c.loop-word.invariant.only ps are same) (nth_fits c.args.words.now ps i same c.loop-word-test.true) (c.in-Ok.ensures.only (get_or ps i 0) (nth_peer ps i are.0) (nth_word c.args.words.now ps i _ same c.loop-word-test.true)));
    }

pub returns-clause-found : goal.returns-clause-found
returns-clause-found c = words_whole c.args.words.now _ _ c.loop-word.invariant.found c.loop-word-test.false

pub returns-clause-only : goal.returns-clause-only
returns-clause-only c = λ ps are same. numbers_whole c.args.words.now ps _ _ (c.loop-word.invariant.only ps are same) same c.loop-word-test.false
