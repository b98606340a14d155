-- A firing with the text of its line.
-- Not trusted: no promise is read with it.
use Rattle.std.specs.Prelude.{ℕ, List}

pub record Spelled : Type 0 where
  pub inst : ℕ
  pub action : ℕ
  pub text : List ℕ
