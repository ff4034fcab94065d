use Rattle.std.proofs.Common.{drop, map, ◌≡◌}
use Rattle.mar_script.specs.Lines.{named}
use Rattle.mar_script.proofs.words.look_up.Given as goal

abbrev pub invariant-loop-name : goal.invariant-loop-name
invariant-loop-name g l = named (map (λ row. (row.0.now, row.1)) l.table) l.word ≡ named (map (λ row. (row.0.now, row.1)) (drop l.name-index l.table)) l.word
