-- What is pruned as a round is witnessed.
use Rattle.std.proofs.Common.{◌≡◌, ℕ, List, [], ◌∷◌, Bool, true, false, if◌then◌else◌, refl, subst}
use Rattle.mar_types.specs.Round.{Round, round_lt}
use Rattle.mar_model.specs.Cache.{Witnessing, prunes_by}
use Rattle.mar_model.specs.Held.{Held, WithinWritten, Written, written_pair, written_prunes}
use Rattle.mar_model.specs.Metadata.{Pair}
use Rattle.mar_model.specs.Moves.{PrunesCache, PrunesCacheBy, pruned_by}
use Rattle.mar_model.proofs.CachePrunes.{PrunesCacheBy-none, PrunesCacheBy-one}
use Rattle.mar_model.proofs.Growing.{WithinWritten-nothing}

-- one that is newer prunes by the one before it
pub PrunesCacheBy-newer : (retention : ℕ) (last round from : Round) (old new : Held) → round_lt last round ≡ true → from ≡ prunes_by retention last → PrunesCache from old new → PrunesCacheBy (pruned_by retention last (round ∷ [])) old new
PrunesCacheBy-newer retention last round from old new newer is prunes = by (round_lt last round) newer
  where
    by : (b : Bool) → b ≡ true → PrunesCacheBy (if◌then◌else◌ {A = Witnessing} b (record { last = round; prunes = prunes_by retention last ∷ [] }) (record { last = last; prunes = [] })).prunes old new
    by true is_newer = subst (λ r. PrunesCacheBy (r ∷ []) old new) is (PrunesCacheBy-one from old new prunes)
    by false is_newer = absurd cc

-- one that isn't prunes nothing
pub PrunesCacheBy-older : (retention : ℕ) (last round : Round) (held : Held) → round_lt last round ≡ false → PrunesCacheBy (pruned_by retention last (round ∷ [])) held held
PrunesCacheBy-older retention last round held older = by (round_lt last round) older
  where
    by : (b : Bool) → b ≡ false → PrunesCacheBy (if◌then◌else◌ {A = Witnessing} b (record { last = round; prunes = prunes_by retention last ∷ [] }) (record { last = last; prunes = [] })).prunes held held
    by true is_older = absurd cc
    by false is_older = PrunesCacheBy-none held held refl refl refl

-- of what is written as that is made durable, the prunes alone
pub WithinWritten-noted_prunes : (p : Pair) (rounds : List Round) (all : Written) → WithinWritten (record (written_pair p) { prunes = rounds }) all → WithinWritten (written_prunes rounds) all
WithinWritten-noted_prunes p rounds all within = let none = WithinWritten-nothing all in record { blocks = none.blocks; certs = none.certs; cached = none.cached; prunes = within.prunes; pairs = none.pairs; blocks_from = none.blocks_from; certs_from = none.certs_from }

-- and the pair alone
pub WithinWritten-noted_pair : (p : Pair) (rounds : List Round) (all : Written) → WithinWritten (record (written_pair p) { prunes = rounds }) all → WithinWritten (written_pair p) all
WithinWritten-noted_pair p rounds all within = let none = WithinWritten-nothing all in record { blocks = none.blocks; certs = none.certs; cached = none.cached; prunes = none.prunes; pairs = within.pairs; blocks_from = none.blocks_from; certs_from = none.certs_from }
