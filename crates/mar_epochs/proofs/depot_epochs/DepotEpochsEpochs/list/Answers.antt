use Rattle.std.proofs.Common.{◌≡◌, ◌++◌, ◌∙◌, ap, map, rules}
use Rattle.std.specs.Map.Iter.{deref}
use Rattle.std.specs.BTreeMap.{keys}
use Rattle.std.proofs.lemmas.Map.Iter.{iter_end}
use Rattle.mar_epochs.proofs.Leaving.{as_told, epochs_found, only_there}
use Rattle.mar_epochs.proofs.depot_epochs.DepotEpochsEpochs.list.Goals as goal

pub returns-clause-found : goal.returns-clause-found
returns-clause-found g c =
    let all : map deref c.loop-epoch.yielded ≡ keys c.args.self.now.slots = search (rules, iter_end) in
    epochs_found g.A.EpochArchives.book g.A.Wreck.EpochArchivesRuin.left c.args.self.now.opening c.args.self.now.slots (g.D.Depot.names c.args.self.now.depot) c.in_ok-listed.listed.items c.loop-epoch.listed.items (as_told g.D.Depot.told g.met.D.EpochArchivesDepot.tells c.in_ok-listed.ensures.found) (c.loop-epoch.invariant ∙ ap (λ es. c.in_ok-listed.listed.items ++ es) all)

pub returns-clause-only : goal.returns-clause-only
returns-clause-only g c =
    let all : map deref c.loop-epoch.yielded ≡ keys c.args.self.now.slots = search (rules, iter_end) in
    only_there g.A.EpochArchives.book g.A.Wreck.EpochArchivesRuin.left c.args.self.now.opening c.args.self.now.slots (g.D.Depot.names c.args.self.now.depot) c.in_ok-listed.listed.items c.loop-epoch.listed.items (as_told g.D.Depot.told g.met.D.EpochArchivesDepot.tells c.in_ok-listed.ensures.found) (c.loop-epoch.invariant ∙ ap (λ es. c.in_ok-listed.listed.items ++ es) all)
