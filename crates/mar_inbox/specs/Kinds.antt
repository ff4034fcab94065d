-- What a message is to those that wait.
use Rattle.std.specs.Prelude.{Bool, List, None, Option, Some, [], false, true, ℕ, ⊤, ◌≡◌}
use Rattle.mar_model.specs.Messages.{Identifier, Message, Queued, close_ticket, get_block, get_finalization, get_info, hint_finalized, of_height, prune_below, set_floor}
use Rattle.mar_inbox.specs.Policy.{told, with_hint, with_hint_targets, with_targets}
use Rattle.mar_inbox.specs.declared.letter.Kind.{Kind}
use Rattle.mar_inbox.specs.declared.letter.Kind.TheVariants.{Close, Floor, Hint, Other, Prune, Read}

abbrev pub kind_by : Identifier → Kind
kind_by (of_height h) = Read h
kind_by _ = Other

abbrev pub kind_of : Message → Kind
kind_of (set_floor f) = Floor f.round
kind_of (prune_below h) = Prune h
kind_of (hint_finalized h peers) = Hint h
kind_of (get_info id) = kind_by id
kind_of (get_block id) = kind_by id
kind_of (get_finalization h) = Read h
kind_of (close_ticket t) = Close t
kind_of _ = Other

-- floors, prunes and hints have no ticket
abbrev pub IsUnasked : Message → Queued → Type 0
IsUnasked (set_floor f) q = q ≡ told (set_floor f)
IsUnasked (prune_below h) q = q ≡ told (prune_below h)
IsUnasked (hint_finalized h peers) q = q ≡ told (hint_finalized h peers)
IsUnasked _ q = ⊤

-- a hint that takes in another
abbrev pub merged_by : Queued → Message → Queued
merged_by q (hint_finalized h peers) = with_hint_targets peers q
merged_by q _ = q

-- a hint that names each peer once
abbrev pub tidied_by : Queued → Message → Queued
tidied_by q (hint_finalized h peers) = told (hint_finalized h (with_targets [] peers))
tidied_by q _ = q

-- the others with a hint
abbrev pub hinted_by : List Queued → Message → List Queued
hinted_by others (hint_finalized h peers) = with_hint h peers others
hinted_by others _ = others

-- what a kind tells of heights and of tickets
abbrev pub read_in : Kind → Option ℕ
read_in (Read h) = Some h
read_in _ = None

abbrev pub hint_in : Kind → Option ℕ
hint_in (Hint h) = Some h
hint_in _ = None

abbrev pub closing_in : Kind → Option ℕ
closing_in (Close t) = Some t
closing_in _ = None

-- no floor, prune or hint
abbrev pub is_other : Kind → Bool
is_other (Floor r) = false
is_other (Prune h) = false
is_other (Hint h) = false
is_other _ = true
