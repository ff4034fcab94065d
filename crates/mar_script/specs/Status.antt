-- What a status prints, and the code that the program exits with.
use Rattle.std.specs.Prelude.{List, [], codes, decimal, ℕ, ◌++◌}
use Rattle.mar_script.specs.declared.status.Status.{Status}
use Rattle.mar_script.specs.declared.status.Status.TheVariants.{Memory, Ok, ReadFault, Script, Usage, WriteFault}
use Rattle.mar_script.specs.declared.status.Why.{Why}
use Rattle.mar_script.specs.declared.status.Why.TheVariants.{Grammar, NoConfig, TooLong, TooMany, Unended}

abbrev pub why_text : Why → List ℕ
why_text NoConfig = codes "no config"
why_text Unended = codes "no line end"
why_text TooLong = codes "line too long"
why_text TooMany = codes "too many lines"
why_text Grammar = codes "not in the grammar"

abbrev pub status_text : Status → List ℕ
status_text Ok = []
status_text Memory = codes "marshal: memory"
status_text Usage = codes "marshal: usage: replay, threads K, gen SEED N, dir PATH replay"
status_text (Script line why) = codes "marshal: line " ++ (decimal line ++ (codes ": " ++ why_text why))
status_text ReadFault = codes "marshal: read fault"
status_text WriteFault = codes "marshal: write fault"

abbrev pub exit_code : Status → ℕ
exit_code Ok = 0
exit_code Memory = 1
exit_code Usage = 2
exit_code (Script line why) = 3
exit_code ReadFault = 4
exit_code WriteFault = 5
