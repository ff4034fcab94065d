use Rattle.std.proofs.Common.{[], arith, length, rules, ◌*◌, ◌++◌, ◌∙◌, ◌∷◌, ◌≡◌}
use Rattle.mar_script.proofs.Digits.{all_read, byte_more, bytes_behind, bytes_push, even_spelled, first_spells, no_bytes, nothing_read, rest_spells}
use Rattle.mar_script.proofs.Spelled.{decodes, hex_some}
use Rattle.mar_script.proofs.words.bytes_of.Goals as goal

pub returns-then-is_empty-clause-only : goal.returns-then-is_empty-clause-only
returns-then-is_empty-clause-only c = λ bytes are some is.
    let long : length c.args.word.now ≡ 2 * length bytes = even_spelled c.args.word.now bytes (is ∙ hex_some bytes some) in grind (arith, long, some, c.is_empty.ensures, c.if-is_empty.true)

pub loop-rest-init : goal.loop-rest-init
loop-rest-init c =
    let none : c.reserve.new.self.items ≡ [] = c.reserve.ensures.items ∙ c.new-bytes.ensures.items in record { read = nothing_read c.args.word.now _ none; are = no_bytes _ none }

pub returns-in_default-clause-only : goal.returns-in_default-clause-only
returns-in_default-clause-only c = λ bytes are some is.
    let left = rest_spells c.args.word.now c.loop-rest.bytes.items c.loop-rest.rest.now bytes c.loop-rest.invariant.read (is ∙ hex_some bytes some) in
    let first = first_spells _ c.loop-rest.rest.now (bytes_behind bytes (length c.loop-rest.bytes.items) are) (omega (arith, c.loop-rest-test.true)) left in
    cc (c.byte_of.ensures.only first.0 first.1 first.2 first.3, c.in_default.is)

pub loop-rest-preserved : goal.loop-rest-preserved
loop-rest-preserved c =
    let pushed : c.push.new.self.items ≡ c.loop-rest.bytes.items ++ c.in-Some.byte ∷ [] = search rules in
    let found = c.in-Some.ensures.found in
    record {
      read = byte_more c.args.word.now c.loop-rest.bytes.items _ c.in-Some.byte c.loop-rest.rest.now c.split_at.result.1.now c.loop-rest.invariant.read (omega (arith, c.loop-rest-test.true)) c.split_at.ensures.back found.1 found.2 pushed;
      are = bytes_push c.loop-rest.bytes.items _ c.in-Some.byte c.loop-rest.invariant.are found.0 pushed;
    }

pub returns-then-is_empty-2-clause-found : goal.returns-then-is_empty-2-clause-found
returns-then-is_empty-2-clause-found c = (all_read c.args.word.now c.loop-rest.bytes.items c.loop-rest.rest.now (grind (arith, c.is_empty.ensures, c.if-is_empty.false)) (grind (arith, c.is_empty-2.ensures, c.if-is_empty-2.true)) c.loop-rest.invariant.read).1

pub returns-then-is_empty-2-clause-some : goal.returns-then-is_empty-2-clause-some
returns-then-is_empty-2-clause-some c = (all_read c.args.word.now c.loop-rest.bytes.items c.loop-rest.rest.now (grind (arith, c.is_empty.ensures, c.if-is_empty.false)) (grind (arith, c.is_empty-2.ensures, c.if-is_empty-2.true)) c.loop-rest.invariant.read).0

pub returns-then-is_empty-2-clause-only : goal.returns-then-is_empty-2-clause-only
returns-then-is_empty-2-clause-only c = λ bytes are some is.
    cc (decodes c.args.word.now bytes are some is, decodes c.args.word.now c.loop-rest.bytes.items c.loop-rest.invariant.are (returns-then-is_empty-2-clause-some c) (returns-then-is_empty-2-clause-found c))

pub returns-else-is_empty-2-clause-only : goal.returns-else-is_empty-2-clause-only
returns-else-is_empty-2-clause-only c = λ bytes are some is.
    let left = rest_spells c.args.word.now c.loop-rest.bytes.items c.loop-rest.rest.now bytes c.loop-rest.invariant.read (is ∙ hex_some bytes some) in
    let even = even_spelled c.loop-rest.rest.now _ left in
    grind (arith, even, c.is_empty-2.ensures, c.if-is_empty-2.false, c.loop-rest-test.false)
