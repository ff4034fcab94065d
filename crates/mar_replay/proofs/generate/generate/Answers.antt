use Rattle.std.proofs.Common.{[], refl}
use Rattle.mar_model.specs.Held.{Remains}
use Rattle.mar_script.specs.Text.{text}
use Rattle.mar_replay.proofs.Generating.{gen_nothing, writes_nothing}
use Rattle.mar_replay.proofs.generate.generate.Goals as goal

pub returns-in-Err-clause-generates : goal.returns-in-Err-clause-generates
returns-in-Err-clause-generates g c =
    let stores : Remains = g.H.Ruins.StoresRuin.left c.args.stores in
    (gen_nothing c.args.seed c.args.last c.ranges.seed.fits c.requires.most stores [] (text stores.ended [], refl), writes_nothing _)

pub returns-clause-generates : goal.returns-clause-generates
returns-clause-generates g c =
    let stores : Remains = g.H.Ruins.StoresRuin.left c.args.stores in
    rw (← c.in-Ok.ensures.seed, ← c.in-Ok.ensures.last) (c.finish-status.ensures.generates stores (g.H.Ruins.StoresRuin.left c.run_made-stores.result.0) c.run_made-stores.ensures)
