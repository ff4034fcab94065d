use Rattle.std.proofs.Common.{[], refl}
use Rattle.mar_epochs.specs.EpochStates.{none_gone}
use Rattle.mar_cache.specs.Shelved.{nothing_gone}
use Rattle.mar_cache.proofs.Shelving.{end_leaves, grows_itself, opens_now, opens_or}
use Rattle.mar_cache.proofs.manager.Manager.open_within.Goals as goal

pub returns-clause-ways : goal.returns-clause-ways
returns-clause-ways g c = end_leaves _ (λ w. g.S.Wreck.EpochsRuin.left w.epochs) (λ k. []) nothing_gone c.args.epoch [] none_gone (g.S.Epochs.states c.args.self.epochs) (g.S.Epochs.states c.args.self.epochs) c.open.result (g.met.S.Epochs.nested c.args.self.epochs) (λ x has. has) (λ x stays. refl) (λ k. grows_itself [] (nothing_gone k) (g.S.Epochs.states c.args.self.epochs k)) c.open.ensures.done

pub returns-clause-done : goal.returns-clause-done
returns-clause-done g c = opens_or (λ m. g.S.Epochs.states m.epochs) c.args.epoch (g.S.Epochs.states c.args.self.epochs) _ c.open.result c.open.ensures.done

pub returns-clause-opened : goal.returns-clause-opened
returns-clause-opened g c = λ inside. opens_now (λ m. g.S.Epochs.states m.epochs) c.args.epoch (g.S.Epochs.states c.args.self.epochs) _ c.open.result c.open.ensures.done

pub returns-clause-picked : goal.returns-clause-picked
returns-clause-picked g c = c.open.ensures.picked
