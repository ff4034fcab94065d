use Rattle.std.proofs.Common.{arith, length, subst, sym, ◌≤◌}
use Rattle.mar_block.proofs.PayloadBounds.{more_enough}
use Rattle.mar_block.proofs.payload_sizes.max_payload_size.Goals as goal

pub returns-clause-enough : goal.returns-clause-enough
returns-clause-enough g c =
    let size = c.max_encode_size-application.ensures in
    more_enough _ _ _ _ _ _ _ _ _ _ _ _
    (λ a read. subst (λ s. length (g.V.ApplicationBlock.Write.encoded a) ≤ s) (sym size) (g.met.V.ApplicationBlock.BoundedBlock.bounded c.args.cfg.now a read)) (omega arith) c.in_ok-backfill.ensures.enough
