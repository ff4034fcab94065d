use Rattle.std.proofs.Common.{length, ◌-◌, ◌≡◌, ◌≤◌}
use Rattle.std.specs.VecDeque.{deque_capacity}
use Rattle.mar_key.specs.Places.{Fills}
use Rattle.mar_key.proofs.queue.Queue.fill.Given as goal

-- however the free places are filled from here on, so they are from the start
abbrev pub invariant-loop-self : goal.invariant-loop-self
invariant-loop-self g l =
    (l.self.capacity ≡ l.initial.self.capacity)
    × (l.self.capacity ≤ deque_capacity l.self.ready)
    × ((ready : _) (waiting : _) → Fills g.P.Overflow.gives (l.initial.self.capacity - length l.self.ready.items) l.self.ready.items l.self.overflow ready waiting
    → Fills g.P.Overflow.gives (l.initial.self.capacity - length l.initial.self.ready.items) l.initial.self.ready.items l.initial.self.overflow ready waiting)

abbrev pub decreases-loop-self : goal.decreases-loop-self
decreases-loop-self g l = l.self.capacity - length l.self.ready.items
