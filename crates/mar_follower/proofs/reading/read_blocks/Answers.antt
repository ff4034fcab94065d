use Rattle.std.proofs.Common.{ap, arith, map, rules, [], ◌++◌, ◌∙◌, ◌∷◌, ◌≡◌}
use Rattle.std.proofs.lemmas.List.{map-append}
use Rattle.mar_follower.specs.Plain.{plain_block}
use Rattle.mar_follower.proofs.Fronts.{no_more, takes_more}
use Rattle.mar_follower.proofs.Judged.{right_by}
use Rattle.mar_follower.proofs.reading.read_blocks.Goals as goal

pub returns-in-Err-clause-err : goal.returns-in-Err-clause-err
returns-in-Err-clause-err g c =
    right_by c.in-Err.ensures.err (no_more c.args.count _ _ _ c.reading.invariant.are (omega (arith, c.reading.invariant.counted, c.reading-test.true)) c.reading.invariant.taken)

pub reading-preserved : goal.reading-preserved
reading-preserved g c =
    let done = map plain_block c.reading.blocks.items in
    let items : c.push.new.self.items ≡ c.reading.blocks.items ++ c.in-Ok.block ∷ [] = search rules in
    let plain : map plain_block c.push.new.self.items ≡ done ++ plain_block c.in-Ok.block ∷ [] =
    ap (map plain_block) items ∙ map-append plain_block c.reading.blocks.items (c.in-Ok.block ∷ []) in
    rw plain (takes_more _ _ _ _ _ _ c.reading.invariant c.in-Ok.ensures.is c.in-Ok.ensures.taken)

pub returns-clause-ok : goal.returns-clause-ok
returns-clause-ok g c = let same : c.reading.counter ≡ c.args.count = omega (arith, c.reading-test.false) in rw same at c.reading.invariant
