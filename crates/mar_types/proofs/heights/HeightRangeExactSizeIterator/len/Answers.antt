use Rattle.std.proofs.lemmas.List.FromFn.{length-range_with_len}
use Rattle.mar_types.proofs.heights.HeightRangeExactSizeIterator.len.Goals as goal

pub returns-clause-value : goal.returns-clause-value
returns-clause-value c = rw (← c.self.view_is, length-range_with_len) c.saturating_sub.ensures
