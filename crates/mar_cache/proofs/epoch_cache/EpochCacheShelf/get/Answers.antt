use Rattle.std.proofs.Common.{Some, ap, sym, ◌∙◌}
use Rattle.std.specs.Prelude.{option_map}
use Rattle.mar_model.specs.Entries.{is_sought}
use Rattle.mar_cache.specs.Bounds.{bounds_of}
use Rattle.mar_cache.proofs.CacheSteps.{look_found}
use Rattle.mar_cache.proofs.epoch_cache.EpochCacheShelf.get.Goals as goal

pub returns-in-Ok-Some-clause-found : goal.returns-in-Ok-Some-clause-found
returns-in-Ok-Some-clause-found g c =
    let old = c.args.self.now.manager in
    ap Some c.into_entry.ensures ∙ sym (ap (option_map g.S.Entry.AsEntry.plain) c.in-Ok-Some.field-0-is) ∙ look_found (g.S.Epochs.states old.epochs) (bounds_of (g.M.Meta.current old.meta)) old.within c.args.epoch c.get.result (is_sought g.V.Digest.Named.bytes g.V.Commitment.Named.bytes g.V.Variant.inner c.args.sought) (g.S.Entry.AsEntry.wants c.sought-wanted.result) _ c.get.ensures.value c.sought-wanted.ensures c.in-Ok-Some.ensures.found

pub returns-in-Ok-None-clause-found : goal.returns-in-Ok-None-clause-found
returns-in-Ok-None-clause-found g c =
    let old = c.args.self.now.manager in
    sym (ap (option_map g.S.Entry.AsEntry.plain) c.in-Ok-None.field-0-is) ∙ look_found (g.S.Epochs.states old.epochs) (bounds_of (g.M.Meta.current old.meta)) old.within c.args.epoch c.get.result (is_sought g.V.Digest.Named.bytes g.V.Commitment.Named.bytes g.V.Variant.inner c.args.sought) (g.S.Entry.AsEntry.wants c.sought-wanted.result) _ c.get.ensures.value c.sought-wanted.ensures c.in-Ok-None.ensures.found
