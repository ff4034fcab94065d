use Rattle.mar_types.proofs.Rereads.{reads_back_from}
use Rattle.mar_types.proofs.codec.read_front.Goals as goal

pub returns-clause-back : goal.returns-clause-back
returns-clause-back g c =
    reads_back_from _ _ _ _ _ (g.met.T.Read.unambiguous c.args.cfg.now) c.read_cfg.ensures.ok c.read_cfg.ensures.err
