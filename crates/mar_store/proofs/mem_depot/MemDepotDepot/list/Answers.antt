use Rattle.std.proofs.Common.{rules, ◌≡◌}
use Rattle.std.specs.BTreeMap.{keys}
use Rattle.std.proofs.lemmas.Cmp.{nat_cmp_total}
use Rattle.std.proofs.lemmas.Map.Keys.{IsStrictlyIncreasing-from_sorted}
use Rattle.std.proofs.lemmas.Map.Lookups.{exact_unsigned}
use Rattle.std.proofs.lemmas.Map.Views.{btree_map_contains_key_iff}
use Rattle.mar_store.proofs.mem_depot.MemDepotDepot.list.Goals as goal

pub returns-in-Ok-clause-found : goal.returns-in-Ok-clause-found
returns-in-Ok-clause-found g c =
    let are : c.in-Ok.names.items ≡ keys c.args.self.now.contents = search rules in
    λ n. rw are (btree_map_contains_key_iff nat_cmp_total exact_unsigned c.args.self.now.contents n)

pub returns-in-Ok-clause-ascend : goal.returns-in-Ok-clause-ascend
returns-in-Ok-clause-ascend g c =
    let are : c.in-Ok.names.items ≡ keys c.args.self.now.contents = search rules in
    rw are (IsStrictlyIncreasing-from_sorted (keys c.args.self.now.contents) c.keys.ensures.ordered)
