use Rattle.std.proofs.Common.{map, subst}
use Rattle.std.specs.Result.{IfOk}
use Rattle.mar_key.specs.Keys.{finalized_key}
use Rattle.mar_key.specs.Views.{annotation_of}
use Rattle.mar_judge.specs.Found.{IsPlacedAs}
use Rattle.mar_judge.specs.Groups.{claims_of}
use Rattle.mar_judge.specs.Views.{place_of}
use Rattle.mar_judge.proofs.admitting.admit.Goals as goal

pub returns-in-Finalized-clause-placed : goal.returns-in-Finalized-clause-placed
returns-in-Finalized-clause-placed g c = rw c.in-Finalized.is (λ config.
    subst (λ bs. IfOk c.admit_finalized.result (λ place. IsPlacedAs (g.J.Judge.rules c.args.judge.now) config (claims_of g.J.Judge.claimed c.admit_finalized.new.groups.items)
    (finalized_key c.in-Finalized.height) bs (map annotation_of c.args.annotations.now) (place_of g.J.Judge.plain g.J.Judge.finalization g.J.Judge.notarization place)))
    c.as_slice-in-Finalized.ensures (c.admit_finalized.ensures.placed config (map annotation_of c.args.annotations.now)))

pub returns-in-Notarized-clause-placed : goal.returns-in-Notarized-clause-placed
returns-in-Notarized-clause-placed g c = rw c.in-Notarized.is (λ config. c.admit_notarized.ensures.placed config (map annotation_of c.args.annotations.now))
