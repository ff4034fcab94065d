use Rattle.std.proofs.Common.{refl, rules}
use Rattle.std.proofs.lemmas.Option.{slice_get_read}
use Rattle.mar_judge.proofs.group.place_of.Goals as goal

pub returns-then-eq : goal.returns-then-eq
returns-then-eq g c = record {
  group = c.index-groups-place.result;
  there = slice_get_read c.args.groups.now _ c.seeking.place c.index-groups-place.result refl c.seeking-test.true c.index-groups-place.is;
  epoch_is = search rules;
}
