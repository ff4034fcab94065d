-- Entries of a cache that are small enough for a store.
use Rattle.std.specs.Prelude.{Contains, List}
use Rattle.mar_cert.specs.Finalization.{finalization_bytes}
use Rattle.mar_store.specs.Sizes.{IsSmall}
use Rattle.mar_model.specs.Cached.{Cached, certified_entry, finalization_entry, notarization_entry, notarized_entry, verified_entry}

-- the block in an entry is small enough for a store, or the certificate
abbrev pub IsSmallEntry : Cached → Type 0
IsSmallEntry (finalization_entry f) = IsSmall (finalization_bytes f)
IsSmallEntry (verified_entry r b) = IsSmall b.encoded
IsSmallEntry (notarized_entry r b) = IsSmall b.encoded
IsSmallEntry (certified_entry e b) = IsSmall b.encoded
IsSmallEntry (notarization_entry n) = IsSmall (finalization_bytes n)

-- each of these entries
abbrev pub AreSmallEntries : List Cached → Type 0
AreSmallEntries xs = (x : Cached) → Contains xs x → IsSmallEntry x
