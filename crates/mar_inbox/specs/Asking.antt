-- What a caller who asks for the anchor is answered.
use Rattle.std.specs.Prelude.{None, Option, Some}
use Rattle.mar_cert.specs.Block.{Block}
use Rattle.mar_key.specs.Processed.{Processed}
use Rattle.mar_model.specs.Answers.{Value, anchor_value}

-- the processed height with the block that backs it, where there are both
abbrev pub backed_value : Option Processed → Option Block → Option Value
backed_value (Some p) (Some b) = Some (anchor_value p b)
backed_value _ _ = None
