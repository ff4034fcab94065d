-- Which endings come from reading, and which from writing.
use Rattle.mar_script.specs.declared.status.Status.{Status}
use Rattle.mar_script.specs.declared.status.Status.TheVariants as status
use Rattle.std.specs.Prelude.{⊤}

-- what reading may end in
abbrev pub IsReadersEnd : Status → Type 0
IsReadersEnd status.Memory = ⊤
IsReadersEnd (status.Script line why) = ⊤
IsReadersEnd status.ReadFault = ⊤
IsReadersEnd status.Ok = ⊥
IsReadersEnd status.Usage = ⊥
IsReadersEnd status.WriteFault = ⊥

-- what writing may end in
abbrev pub IsWritersEnd : Status → Type 0
IsWritersEnd status.Memory = ⊤
IsWritersEnd status.WriteFault = ⊤
IsWritersEnd (status.Script line why) = ⊥
IsWritersEnd status.ReadFault = ⊥
IsWritersEnd status.Ok = ⊥
IsWritersEnd status.Usage = ⊥
