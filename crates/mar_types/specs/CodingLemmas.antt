-- No spelling of shards begins another.
use Rattle.std.proofs.Common.{List, ℕ}
use Rattle.mar_types.specs.Codec.{IsUnambiguous}
use Rattle.mar_types.specs.CodecLemmas.{joined_unambiguous}
use Rattle.mar_types.specs.DigestLemmas.{bytes_unambiguous}
use Rattle.mar_types.specs.Coding.{SpellsCommitment, SpellsConfig, SpellsShards}

pub shards_unambiguous : IsUnambiguous SpellsShards
shards_unambiguous front other rest left f o e = bytes_unambiguous 2 front other rest left f.0 o.0 e

pub config_unambiguous : IsUnambiguous SpellsConfig
config_unambiguous = joined_unambiguous SpellsShards SpellsShards shards_unambiguous shards_unambiguous

pub commitment_unambiguous : (Block Root Context : List ℕ → Type 0) (block_size root_size context_size : ℕ) → IsUnambiguous (SpellsCommitment Block Root Context block_size root_size context_size)
commitment_unambiguous Block Root Context block_size root_size context_size front other rest left f o e = bytes_unambiguous 100 front other rest left f.sized o.sized e
