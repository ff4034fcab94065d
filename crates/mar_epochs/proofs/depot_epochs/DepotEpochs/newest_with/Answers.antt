use Rattle.std.proofs.Common.{◌≡◌, is_some, map, sym, ap, ◌∙◌, subst, rules}
use Rattle.std.specs.Map.Iter.{deref}
use Rattle.std.specs.BTreeMap.{keys}
use Rattle.std.proofs.lemmas.List.{map_push}
use Rattle.std.proofs.lemmas.Map.Iter.{iter_end}
use Rattle.mar_model.specs.Sections.{first_found}
use Rattle.mar_epochs.specs.EpochStates.{held_in, states_of}
use Rattle.mar_epochs.proofs.Leaving.{NewestOf, key_or_none, newest_all, newest_push, some_copied, unslotted}
use Rattle.mar_epochs.proofs.depot_epochs.DepotEpochs.newest_with.Goals as goal

pub loop-epoch-preserved : goal.loop-epoch-preserved
loop-epoch-preserved g c = rw (map_push deref c.loop-epoch.yielded _, c.newer_of-newest.ensures) (newest_push (λ k. is_some (first_found (g.A.Entry.AsEntry.wants c.args.wanted.now) (held_in (states_of g.A.EpochArchives.book g.A.Wreck.EpochArchivesRuin.left c.args.self.now.opening c.args.self.now.slots (g.D.Depot.names c.args.self.now.depot) k)))) (map deref c.loop-epoch.yielded) _ _ _ (c.is_some-has.ensures ∙ sym (some_copied g.A.Entry.AsEntry.plain c.find_in.result) ∙ ap is_some c.find_in.ensures) c.loop-epoch.invariant)

pub returns : goal.returns
returns g c =
    let all : map deref c.loop-epoch.yielded ≡ keys c.args.self.now.slots = search (rules, iter_end) in
    newest_all (λ k. is_some (first_found (g.A.Entry.AsEntry.wants c.args.wanted.now) (held_in (states_of g.A.EpochArchives.book g.A.Wreck.EpochArchivesRuin.left c.args.self.now.opening c.args.self.now.slots (g.D.Depot.names c.args.self.now.depot) k)))) (keys c.args.self.now.slots) c.loop-epoch.newest (subst (λ es. NewestOf (λ k. is_some (first_found (g.A.Entry.AsEntry.wants c.args.wanted.now) (held_in (states_of g.A.EpochArchives.book g.A.Wreck.EpochArchivesRuin.left c.args.self.now.opening c.args.self.now.slots (g.D.Depot.names c.args.self.now.depot) k)))) es c.loop-epoch.newest) all c.loop-epoch.invariant)
    (λ k lacks. ap (λ held. is_some (first_found (g.A.Entry.AsEntry.wants c.args.wanted.now) held)) (unslotted g.A.EpochArchives.book g.A.Wreck.EpochArchivesRuin.left c.args.self.now.opening c.args.self.now.slots (g.D.Depot.names c.args.self.now.depot) k lacks))
    (key_or_none g.A.EpochArchives.book g.A.Wreck.EpochArchivesRuin.left c.args.self.now.opening c.args.self.now.slots (g.D.Depot.names c.args.self.now.depot))
