-- Whether two entries of a cache are the same.
use Rattle.std.specs.Prelude.{Bool, bytes_eq, false, ◌&&◌, ◌==◌}
use Rattle.mar_types.specs.Round.{round_eq}
use Rattle.mar_cert.specs.Block.{Block}
use Rattle.mar_cert.specs.Finalization.{Finalization}
use Rattle.mar_model.specs.Cached.{Cached, certified_entry, finalization_entry, notarization_entry, notarized_entry, verified_entry}

abbrev pub same_block : Block → Block → Bool
same_block a b = bytes_eq a.digest b.digest && (bytes_eq a.commitment b.commitment && (a.height == b.height && (bytes_eq a.parent b.parent && (bytes_eq a.parent_commitment b.parent_commitment && bytes_eq a.encoded b.encoded))))

abbrev pub same_finalization : Finalization → Finalization → Bool
same_finalization f g = round_eq f.round g.round && (f.parent == g.parent && (bytes_eq f.payload g.payload && bytes_eq f.certificate g.certificate))

abbrev pub same_entry : Cached → Cached → Bool
same_entry (finalization_entry f) (finalization_entry g) = same_finalization f g
same_entry (notarization_entry f) (notarization_entry g) = same_finalization f g
same_entry (notarized_entry r a) (notarized_entry s b) = round_eq r s && same_block a b
same_entry (verified_entry r a) (verified_entry s b) = round_eq r s && same_block a b
same_entry (certified_entry e a) (certified_entry f b) = e == f && same_block a b
same_entry _ _ = false
