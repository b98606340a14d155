-- What is promised of a refusal, over any grammar: `Spelled ts x` says that the tokens spell the tree x.
-- Trusted: part of what a promise means.
use Rattle.std.specs.Prelude.{◌≡◌, ◌≤◌, ◌+◌, ℕ, List, ◌++◌, length}
use Rattle.cal_grammar.specs.Program.{ahead}

-- No list of tokens that begins as ts does, up to what is left and including the token that stands there, spells a
-- tree. If nothing is left, ts itself spells none.
pub record IsRefused {Token Tree : Type 0} (Spelled : List Token → Tree → Type 0) (ts left : List Token) : Type 0 where
  pub front : List Token
  pub is_front : ts ≡ front ++ left
  pub none : (other : List Token) (x : Tree) → ahead other ≡ ahead left → Spelled (front ++ other) x
      → ⊥

-- The same for trees that fit the room; and as many tokens stand before it as the room has.
pub record IsTooHigh {Token Tree : Type 0} (Spelled : List Token → Tree → Type 0)
    (height : Tree → ℕ) (room : ℕ) (ts left : List Token) : Type 0 where
  pub front : List Token
  pub is_front : ts ≡ front ++ left
  pub none : (other : List Token) (x : Tree) → ahead other ≡ ahead left → height x ≤ room
      → Spelled (front ++ other) x → ⊥
  pub far : room ≤ length front
