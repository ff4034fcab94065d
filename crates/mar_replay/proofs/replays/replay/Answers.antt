use Rattle.std.proofs.Common.{Err, Ok, [], refl, subst}
use Rattle.mar_script.specs.Endings.{IsReadersEnd, IsWritersEnd}
use Rattle.mar_script.proofs.FirstOutside.{outside_is, script_is}
use Rattle.mar_replay.proofs.Headlines.{shown_first, stops_first, stops_unshown}
use Rattle.mar_script.proofs.ReadSteps.{begins, ends_first, ends_unwritten}
use Rattle.mar_replay.proofs.replays.replay.Goals as goal

pub returns-in-Err-clause-reads : goal.returns-in-Err-clause-reads
returns-in-Err-clause-reads g c = ends_first _ _ _ _ (rw c.new-reader.ensures at c.in-Err.ensures.first)

pub returns-in-Err-clause-script : goal.returns-in-Err-clause-script
returns-in-Err-clause-script g c = λ all n reason told is. script_is all _ _ _ n reason (returns-in-Err-clause-reads g c) told is

pub returns-in-Err-clause-outside : goal.returns-in-Err-clause-outside
returns-in-Err-clause-outside g c = λ all n reason told first. outside_is all _ _ _ n reason (λ usage. subst IsReadersEnd usage c.in-Err.ensures.end) (returns-in-Err-clause-reads g c) told first

pub returns-in-Err-write_turn-clause-reads : goal.returns-in-Err-write_turn-clause-reads
returns-in-Err-write_turn-clause-reads g c =
    let first = rw c.new-reader.ensures at c.in-Ok.ensures.first in
    ends_unwritten _ _ _ _ _ _ c.in-Ok.ensures.valid (begins _ _ _ _ first.read first.gives first.first) c.in-Err-write_turn.ensures.end

pub returns-in-Err-write_turn-clause-script : goal.returns-in-Err-write_turn-clause-script
returns-in-Err-write_turn-clause-script g c = λ all n reason told is. script_is all _ _ _ n reason (returns-in-Err-write_turn-clause-reads g c) told is

pub returns-in-Err-write_turn-clause-outside : goal.returns-in-Err-write_turn-clause-outside
returns-in-Err-write_turn-clause-outside g c = λ all n reason told first. outside_is all _ _ _ n reason (λ usage. subst IsWritersEnd usage c.in-Err-write_turn.ensures.end) (returns-in-Err-write_turn-clause-reads g c) told first

pub returns-clause-reads : goal.returns-clause-reads
returns-clause-reads g c = let first = rw c.new-reader.ensures at c.in-Ok.ensures.first in c.later_lines-state.ensures.reads _ first.read first.gives first.first

pub returns-clause-script : goal.returns-clause-script
returns-clause-script g c = λ all n reason told is. script_is all _ _ _ n reason (returns-clause-reads g c) told is

pub returns-clause-outside : goal.returns-clause-outside
returns-clause-outside g c = λ all n reason told first. outside_is all _ _ _ n reason c.later_lines-state.ensures.not_usage (returns-clause-reads g c) told first

pub returns-in-Err-clause-headline : goal.returns-in-Err-clause-headline
returns-in-Err-clause-headline g c = stops_first _ _ _ _ _ (g.H.Ruins.StoresRuin.left c.args.stores) c.in-Err.ensures.end (rw c.new-reader.ensures at c.in-Err.ensures.first)

pub returns-in-Err-write_turn-clause-headline : goal.returns-in-Err-write_turn-clause-headline
returns-in-Err-write_turn-clause-headline g c =
    let first = rw c.new-reader.ensures at c.in-Ok.ensures.first in
    let stores = g.H.Ruins.StoresRuin.left c.args.stores in
    let wrote = shown_first {U = Unit {0}} _ _ _ stores.ended (Err c.in-Err-write_turn.status) c.new-heard.ensures (rw c.in-Err-write_turn.is at c.write_turn.ensures.wrote) in
    rw c.left_of-stores.ensures.left (stops_unshown _ _ c.in-Ok.ensures.valid stores _ _ _ first.read _ _ c.in-Err-write_turn.ensures.end first.gives first.first (wrote []))

pub returns-clause-headline : goal.returns-clause-headline
returns-clause-headline g c =
    let first = rw c.new-reader.ensures at c.in-Ok.ensures.first in
    let stores = g.H.Ruins.StoresRuin.left c.args.stores in
    let wrote = shown_first {U = Unit {0}} _ _ _ stores.ended (Ok c.in_default.field-0) c.new-heard.ensures (rw c.in_default.is at c.write_turn.ensures.wrote) in
    rw c.left_of.ensures.left (c.later_lines-state.ensures.headline _ first.read _ stores first.gives first.first refl (wrote []) (rw c.left_of.ensures.left at c.left_of.ensures.hands_back))
