use Rattle.std.proofs.Common.{Err, Ok, Some, [], refl, ◌≡◌}
use Rattle.mar_script.specs.Text.{text}
use Rattle.mar_model.specs.Held.{Remains}
use Rattle.mar_replay.proofs.Generating.{gen_nothing}
use Rattle.mar_replay.proofs.Headlines.{shown_first}
use Rattle.mar_replay.proofs.generate.run_made.Goals as goal

pub returns-in-Err : goal.returns-in-Err
returns-in-Err g c =
    let stores : Remains = g.H.Ruins.StoresRuin.left c.args.stores in
    let wrote = shown_first {U = Unit {0}} (Some []) (Some c.write_turn-wrote.new.sink.text.items) _ stores.ended (Err c.in-Err._status) c.new-heard.ensures (rw (c.in-Err.is, c.new.ensures.items) at c.write_turn-wrote.ensures.wrote) [] in
    rw c.left_of.ensures.left (gen_nothing _ _ c.args.made.now.seed_fits c.args.made.now.most stores wrote.0 wrote.1)

pub returns : goal.returns
returns g c =
    let stores : Remains = g.H.Ruins.StoresRuin.left c.args.stores in
    let wrote = shown_first {U = Unit {0}} (Some []) (Some c.write_turn-wrote.new.sink.text.items) _ stores.ended (Ok c.in_default.field-0) c.new-heard.ensures (rw (c.in_default.is, c.new.ensures.items) at c.write_turn-wrote.ensures.wrote) [] in
    let first : c.write_turn-wrote.new.sink.text.items ≡ text stores.ended [] = wrote [] refl in
    rw c.left_of-2.ensures.left (c.made_lines-state.ensures stores refl first (rw c.left_of-2.ensures.left at c.left_of-2.ensures.hands_back))
