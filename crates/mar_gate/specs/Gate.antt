-- The gate before dispatch: heights that were written and that no finished sync covers yet.
use Rattle.std.specs.List.{AllByRecursion, Contains}
use Rattle.std.specs.Prelude.{List, MatchOption, None, Option, Some, [], filter, map, min, nat_lt, option_to_list, ℕ, ◌++◌, ◌+◌, ◌∷◌, ◌≡◌, ◌≤◌}

-- the writes that one sync covers: its number, and the lowest of their heights
pub record Batch : Type 0 where
  pub number : ℕ
  pub lowest : ℕ

pub record Gate : Type 0 where
  pub unsynced : Option ℕ
  pub inflight : List Batch
  pub next : ℕ

-- the lower of two heights, where there is a second
abbrev pub lower_of : ℕ → Option ℕ → ℕ
lower_of h None = h
lower_of h (Some k) = min h k

-- a write at that height, which no sync covers
abbrev pub after_defer : ℕ → Gate → Gate
after_defer h g = record g { unsynced = Some (lower_of h g.unsynced) }

-- a sync is started that covers what none covered; its number is used once
abbrev pub adopted : Option ℕ → Gate → Gate
adopted None g = g
adopted (Some h) g = record { unsynced = None; inflight = g.inflight ++ record { number = g.next; lowest = h } ∷ []; next = g.next + 1 }

-- the sync of that number has finished, and with it those before it
abbrev pub after_release : ℕ → Gate → Gate
after_release n g = record g { inflight = filter (λ b. nat_lt n b.number) g.inflight }

abbrev pub after_clear : Gate → Gate
after_clear g = record g { unsynced = None; inflight = [] }

-- the heights that dispatch stays below
abbrev pub tracked : Gate → List ℕ
tracked g = option_to_list g.unsynced ++ map (λ b. b.lowest) g.inflight

-- the least of the numbers, where there are any
abbrev pub IsLeastOf : List ℕ → Option ℕ → Type 0
IsLeastOf xs least = MatchOption least (xs ≡ []) (λ h. Contains xs h × AllByRecursion (λ k. h ≤ k) xs)

abbrev pub IsBarrier : Gate → Option ℕ → Type 0
IsBarrier g barrier = IsLeastOf (tracked g) barrier
