-- Heights in epochs.
use Rattle.std.specs.Prelude.{Bool, IsSome, None, Option, Some, false, if◌then◌else◌, nat_le, option_and_then, suc, zero, ℕ, ◌&&◌, ◌*◌, ◌+◌, ◌-◌, ◌==◌, ◌^◌, ◌≡◌, ◌≤◌}

-- the first and the last height of an epoch
pub record Span : Type 0 where
  pub first : ℕ
  pub last : ℕ

-- the bounds of each epoch; None where the epoch has none
abbrev pub Epochs : Type 0
Epochs = ℕ → Option Span

-- Consecutive intervals of heights from 0 on, one for each epoch from epoch 0 on.
pub record IsPartition (epochs : Epochs) : Type 0 where
  pub begins : (s : Span) × (epochs 0 ≡ Some s) × (s.first ≡ 0)
  pub follows : (e : ℕ) (s t : Span) → epochs e ≡ Some s → epochs (e + 1) ≡ Some t → t.first ≡ s.last + 1
  pub unbroken : (e : ℕ) → IsSome (epochs (e + 1)) → IsSome (epochs e)
  pub ordered : (e : ℕ) (s : Span) → epochs e ≡ Some s → s.first ≤ s.last
  pub above_zero : (e : ℕ) (s : Span) → epochs e ≡ Some s → 1 ≤ s.last
  pub bounded : (e : ℕ) (s : Span) → epochs e ≡ Some s → s.last ≤ 2 ^ 64 - 1

abbrev pub is_in_span : Option Span → ℕ → Bool
is_in_span None h = false
is_in_span (Some s) h = nat_le s.first h && nat_le h s.last

-- the newest epoch below this one that contains the height
abbrev pub containing_below : Epochs → ℕ → ℕ → Option ℕ
containing_below epochs h zero = None
containing_below epochs h (suc e) = if is_in_span (epochs e) h then Some e else containing_below epochs h e

-- the epoch that contains the height; its number is at most the height
abbrev pub containing : Epochs → ℕ → Option ℕ
containing epochs h = containing_below epochs h (suc h)

abbrev pub is_last_of : Option Span → ℕ → Bool
is_last_of None h = false
is_last_of (Some s) h = s.last == h

abbrev pub epoch_before : ℕ → Option ℕ
epoch_before zero = None
epoch_before (suc e) = Some e

-- the epoch that contains the height where that is its last one, else the epoch before it
abbrev pub closed_epoch : Epochs → ℕ → Option ℕ
closed_epoch epochs h = option_and_then (λ e. if is_last_of (epochs e) h then Some e else epoch_before e) (containing epochs h)

-- epochs of one length: epoch e spans e * n to e * n + n - 1
abbrev pub fixed_epochs : ℕ → Epochs
fixed_epochs n e = if nat_le (e * n + n) (2 ^ 64) then Some (record { first = e * n; last = e * n + n - 1 }) else None

-- what an epocher answers of a height: its epoch, with that epoch's bounds
pub record Placed : Type 0 where
  pub epoch : ℕ
  pub height : ℕ
  pub first : ℕ
  pub last : ℕ

-- how many heights the epoch has
abbrev pub placed_length : Placed → ℕ
placed_length i = i.last - i.first + 1

-- how far into the epoch the height is
abbrev pub placed_relative : Placed → ℕ
placed_relative i = i.height - i.first

-- the answer names a height's epoch by the epoch's own bounds
pub record IsPlaced (epochs : Epochs) (height : ℕ) (i : Placed) : Type 0 where
  pub bounds : epochs i.epoch ≡ Some (record { first = i.first; last = i.last })
  pub height_is : i.height ≡ height
