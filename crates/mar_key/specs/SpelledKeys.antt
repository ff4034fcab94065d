-- Which bytes spell a key, and which error the others get.
use Rattle.std.specs.Prelude.{List, ℕ, ◌<◌, ◌∷◌, ◌≡◌, ◌⊎◌}
use Rattle.mar_types.specs.Refusals.{RefusesJoined, RefusesShort, RefusesVarint}
use Rattle.mar_types.specs.Varint.{IsVarint}
use Rattle.mar_types.specs.declared.Error.{Error}
use Rattle.mar_types.specs.declared.Error.TheVariants.{InvalidEnum}
use Rattle.mar_key.specs.Keys.{IsKeyOf, Key, key_bytes}

-- these bytes spell a key, whose commitment is spelled so
pub record SpellsKey (Spells : List ℕ → Type 0) (bytes : List ℕ) : Type 0 where
  pub key : Key
  pub is_key : IsKeyOf Spells key
  pub spelled : bytes ≡ key_bytes key

-- the first byte names no kind of key
pub record RefusesKind (bytes : List ℕ) (e : Error) : Type 0 where
  pub kind : ℕ
  pub content : List ℕ
  pub spelled : bytes ≡ kind ∷ content
  pub unknown : 2 < kind
  pub error : e ≡ InvalidEnum kind

-- the first byte names this kind, and what follows is refused as its content
pub record RefusesContent (kind : ℕ) (refuses : List ℕ → Error → Type 0) (bytes : List ℕ) (e : Error) : Type 0 where
  pub content : List ℕ
  pub spelled : bytes ≡ kind ∷ content
  pub refused : refuses content e

-- no key stands at the front; a commitment is refused so
abbrev pub RefusesKey : (List ℕ → Error → Type 0) → List ℕ → Error → Type 0
RefusesKey refuses bytes e =
    RefusesShort 1 bytes e
    ⊎ RefusesKind bytes e
    ⊎ RefusesContent 0 refuses bytes e
    ⊎ RefusesContent 1 RefusesVarint bytes e
    ⊎ RefusesContent 2 (RefusesJoined IsVarint RefusesVarint RefusesVarint) bytes e
