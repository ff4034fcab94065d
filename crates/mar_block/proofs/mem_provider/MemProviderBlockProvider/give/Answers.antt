use Rattle.std.proofs.Common.{arith, length, rules, ◌≡◌}
use Rattle.std.proofs.lemmas.Option.{slice_get_read}
use Rattle.std.specs.Prelude.{option_map}
use Rattle.mar_block.specs.Provided.{asked_by, came_by}
use Rattle.mar_block.proofs.Rows.{asked_given, came_given}
use Rattle.mar_block.proofs.mem_provider.MemProviderBlockProvider.give.Goals as goal

pub returns-clause-came : goal.returns-clause-came
returns-clause-came g c =
    let plain = g.B.Linked.plain in
    let long : c.len.result ≡ length c.args.self.now.rows.items = search rules in
    let at = slice_get_read c.args.self.now.rows.items _ c.args.ticket c.index_mut.result.now long c.if-len-index.false c.index_mut.ensures.value in
    came_given (asked_by plain) (came_by plain) _ _ _ _ (option_map plain c.args.block) (omega (arith, long, c.if-len-index.false)) at c.answer.ensures.came

pub returns-clause-asked : goal.returns-clause-asked
returns-clause-asked g c =
    let plain = g.B.Linked.plain in
    let long : c.len.result ≡ length c.args.self.now.rows.items = search rules in
    let at = slice_get_read c.args.self.now.rows.items _ c.args.ticket c.index_mut.result.now long c.if-len-index.false c.index_mut.ensures.value in
    asked_given (asked_by plain) (came_by plain) _ _ _ _ (omega (arith, long, c.if-len-index.false)) at c.answer.ensures.asked
