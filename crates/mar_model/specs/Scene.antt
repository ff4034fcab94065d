-- What stands between two calls of an event, with no type parameters.
use Rattle.std.specs.Prelude.{List, [], ℕ, ⊤}
use Rattle.mar_types.specs.Epochs.{Epochs}
use Rattle.mar_model.specs.Acks.{Outstanding}
use Rattle.mar_model.specs.Held.{Held, Remembered, Seen, Sizes}
use Rattle.mar_model.specs.Node.{CertifiedCommitment, Subscription}
use Rattle.mar_model.specs.Promise.{Heard}

-- What a life remembers beside its stores: the sizes that it was set to, and its window.
pub record Window : Type 0 where
  pub sizes : Sizes
  pub out : List Outstanding
  pub tip : ℕ
  pub next_ack : ℕ

-- What else stands: the epochs that a life counts by, what is known as certified, and those who wait for a block.
pub record Standing : Type 0 where
  pub epochs : Epochs
  pub known : List CertifiedCommitment
  pub waits : List Subscription

-- The stores, the window, what else stands, and what application, resolver, buffer and callers heard so far.
pub record Scene : Type 0 where
  pub held : Held
  pub life : Window
  pub standing : Standing
  pub heard : Heard

abbrev pub window_of : {P E : Type 0} → Remembered P E → Window
window_of life = record { sizes = life.sizes; out = life.out; tip = life.tip; next_ack = life.next_ack }

-- a life with this provider and this epocher
abbrev pub remembered : {P E : Type 0} → P → E → Window → Remembered P E
remembered provider epocher w = record { provider = provider; epocher = epocher; sizes = w.sizes; out = w.out; tip = w.tip; next_ack = w.next_ack }

-- where the epochs are these
abbrev pub in_epochs : Epochs → Standing → Standing
in_epochs epochs standing = record standing { epochs = epochs }

abbrev pub scene : Held → Window → Standing → Heard → Scene
scene held life standing heard = record { held = held; life = life; standing = standing; heard = heard }

-- as the relations of single calls see stores and window
abbrev pub windowed : Held → Window → Seen ⊤ ⊤
windowed held w = record { held = held; life = remembered tt tt w; certified = [] }

abbrev pub seen_of : Scene → Seen ⊤ ⊤
seen_of s = record { held = s.held; life = remembered tt tt s.life; certified = s.standing.known }
