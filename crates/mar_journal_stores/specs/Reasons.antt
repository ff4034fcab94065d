-- Why a store is lost whose journal wasn't opened, and where damage was seen.
use Rattle.std.specs.Prelude.{None, Option, Some, ℕ}
use Rattle.mar_store.specs.declared.Miss.{Miss}
use Rattle.mar_store.specs.declared.Miss.TheVariants.{Fault as Missed, Memory as Forgot}
use Rattle.mar_journal.specs.declared.Unopened.{Unopened}
use Rattle.mar_journal.specs.declared.Unopened.TheVariants.{Damaged, Fault, Memory}

abbrev pub miss_of : Unopened → Miss
miss_of Fault = Missed
miss_of Memory = Forgot
miss_of (Damaged at) = Missed

abbrev pub damage_of : Unopened → Option ℕ
damage_of Fault = None
damage_of Memory = None
damage_of (Damaged at) = Some at
