-- A value is put and synced.
use Rattle.std.proofs.Common.{Bool, Contains, sym, ◌∙◌, subst}
use Rattle.mar_store.specs.Kept.{At, Kept}
use Rattle.mar_store.specs.Changes.{Puts, Syncs}
use Rattle.mar_model.specs.Moves.{StoresValue}

-- a put and then a sync
pub StoresValue-synced : {T : Type 0} (ignored : Bool) (old mid : Kept (At T)) (x : At T) (new : Kept (At T)) → Puts ignored old x mid → Syncs mid new → StoresValue ignored old x new
StoresValue-synced ignored old mid x new puts syncs = record { held = syncs.held ∙ puts.held; sure = syncs.sure ∙ sym syncs.held; may = λ y has. subst (λ xs. Contains xs y) (sym syncs.held) (syncs.may y has) }
