use Rattle.std.proofs.Common.{◌≡◌, length}
use Rattle.mar_follower.specs.Reports.{SoFar, committee_of}
use Rattle.mar_follower.proofs.checking.check.Given as goal

abbrev pub invariant-segments : goal.invariant-segments
invariant-segments g l = record {
  members_is : l.members ≡ l.fn.scheme;
  so_far : SoFar (committee_of l.members (g.E.Epocher.epochs l.epocher) (g.P.Provider.has_scheme l.provider) (g.P.Provider.verifies l.provider)) l.bytes l.rest l.report;
}

abbrev pub decreases-segments : goal.decreases-segments
decreases-segments g l = length l.rest
