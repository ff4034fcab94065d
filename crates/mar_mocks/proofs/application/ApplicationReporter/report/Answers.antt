use Rattle.std.proofs.Common.{length, map, rules, ◌≡◌}
use Rattle.std.proofs.lemmas.List.{map-append}
use Rattle.mar_actor.specs.Views.{report_of}
use Rattle.mar_mocks.specs.AppliedViews.{owed_of}
use Rattle.mar_mocks.proofs.Told.{given_within}
use Rattle.mar_mocks.proofs.application.ApplicationReporter.report.Goals as goal

pub invariant_of-self-2 : goal.invariant_of-self-2
invariant_of-self-2 g c =
    let report = report_of g.V.Digest.Named.bytes g.V.Variant.plain in
    let old = c.self.inside.updates.items in
    let count : c.len.result ≡ length c.keep.new.owed.items = search rules in
    rw (c.push_reserved.ensures.items, c.in_ok-reserve.ensures.items, map-append report) (
      given_within owed_of c.self.inside.owed.items c.keep.new.owed.items _ c.self.inside.gives_at_once _ _ _ c.in_ok-keep.ensures.owed c.self.invariant.0 count c.given_of-self-inside.ensures,
      c.in_ok-keep.ensures.tip (map report old) c.self.invariant.1,
      c.in_ok-keep.ensures.blocks (map report old) c.self.invariant.2,
    )
