use Rattle.std.proofs.Common.{rules, ◌≡◌, false, true}
use Rattle.mar_types.specs.Round.{round_lt}
use Rattle.mar_model.specs.Cache.{prunes_by}
use Rattle.mar_rules.proofs.Pruned.{PrunesCacheBy-newer, PrunesCacheBy-older}
use Rattle.mar_rules.proofs.Raised.{on_both}
use Rattle.mar_rules.proofs.pruning.prune_before.Goals as goal

pub returns-then-lt-clause-prunes : goal.returns-then-lt-clause-prunes
returns-then-lt-clause-prunes g c =
    let last = (g.S.HoldsCache.held c.args.stores.now).witnessed in
    let newer : round_lt last c.args.round ≡ true = search rules in
    let is : c.retained_from.result ≡ prunes_by c.args.retention last = search rules in
    on_both c.prune_cache.result (PrunesCacheBy-newer c.args.retention last c.args.round c.retained_from.result _ _ newer is) c.prune_cache.ensures.prunes

pub returns-else-lt-clause-prunes : goal.returns-else-lt-clause-prunes
returns-else-lt-clause-prunes g c =
    let last = (g.S.HoldsCache.held c.args.stores.now).witnessed in
    let older : round_lt last c.args.round ≡ false = search rules in
    PrunesCacheBy-older c.args.retention last c.args.round (g.S.HoldsCache.held c.args.stores.now) older
