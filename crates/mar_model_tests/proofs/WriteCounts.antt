-- The number of writes grows by exactly the heights that an event writes.
use Rattle.std.proofs.Common.{◌≡◌, ℕ, ◌+◌, ◌-◌, ◌≤◌, max, List, ◌++◌, length, ap, ◌∙◌, arith}
use Rattle.std.proofs.lemmas.List.{length-append, length-drop}
use Rattle.mar_model.specs.Node.{Node, write_count}
use Rattle.mar_model.specs.Event.{Event, Effect, storing_of, own_writes}
use Rattle.mar_model.specs.Step.{Writes, finished_position}

counts : (c c' u : ℕ) → c ≤ c' → c' ≤ c + u → c' + (u - (c' - c)) ≡ c + u
counts c c' u low high = omega arith

greater : (a b k m : ℕ) → k ≡ max (max a b) m → a ≤ k
greater a b k m e = grind arith

bounded : (a b k m w : ℕ) → k ≡ max (max a b) m → a ≤ w → b ≤ w → m ≤ w → k ≤ w
bounded a b k m w e p q r = grind arith

pub count_grows : (n : Node) (e : Event) (fx : Effect) (n' : Node) (w : Writes n e fx n') → finished_position n.syncs e ≤ write_count n → write_count n' ≡ write_count n + length (own_writes n (storing_of n e) fx ++ w.repaired)
count_grows n e fx n' w within =
    ap (λ us. n'.covered + length us) w.uncovered
    ∙ ap (λ k. n'.covered + k) (length-drop (n'.covered - n.covered) (n.uncovered ++ news))
    ∙ counts n.covered n'.covered (length (n.uncovered ++ news)) (greater n.covered (finished_position n.syncs e) n'.covered w.blocking w.covered) (bounded n.covered (finished_position n.syncs e) n'.covered w.blocking (n.covered + length (n.uncovered ++ news)) w.covered low finished (most w.blocking w.within))
    ∙ ap (λ k. n.covered + k) (length-append n.uncovered news)
    ∙ joins n.covered (length n.uncovered) (length news)
  where
    news : List ℕ
    news = own_writes n (storing_of n e) fx ++ w.repaired

    joins : (a b c : ℕ) → a + (b + c) ≡ a + b + c
    joins a b c = omega arith

    low : n.covered ≤ n.covered + length (n.uncovered ++ news)
    low = omega arith

    longer : length (n.uncovered ++ news) ≡ length n.uncovered + length news
    longer = length-append n.uncovered news

    most : (k : ℕ) → k ≤ write_count n + length news → k ≤ n.covered + length (n.uncovered ++ news)
    most k le = let same : length (n.uncovered ++ news) ≡ length n.uncovered + length news = longer in omega arith

    finished : finished_position n.syncs e ≤ n.covered + length (n.uncovered ++ news)
    finished = most _ (let le : finished_position n.syncs e ≤ write_count n = within in omega arith)
