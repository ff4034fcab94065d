-- What a contract sees of open syncs.
use Rattle.mar_gate.specs.Pool.{Pooled}
use Rattle.mar_gate.specs.declared.writes.OpenSync.{OpenSync}

-- without the gate's batches
abbrev pub pooled_of : OpenSync → Pooled
pooled_of s = record { sync = record { ticket = s.ticket; position = s.position }; blocks = s.blocks.number; certs = s.certs.number }
