use Rattle.std.proofs.Common.{drop, ◌≡◌, fold}
use Rattle.mar_store.specs.Spans.{ranges_of}
use Rattle.mar_model.specs.Newest.{upto, upto_in}
use Rattle.mar_model.proofs.upto.last_upto.Given as goal

abbrev pub invariant-loop-span : goal.invariant-loop-span
invariant-loop-span l = upto (ranges_of l.spans) l.height ≡ fold (λ found r. upto_in found r l.height) l.found (drop l.span-index (ranges_of l.spans))
