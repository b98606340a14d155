-- How far a loop over the parts of a list has come.
-- Not trusted: no promise is read with it.
use Rattle.std.specs.Prelude.{◌≡◌, ℕ, List}
use Rattle.cal_ast.specs.Tree.{Tree}
use Rattle.cal_lexer.specs.Lexeme.{Lexeme, plain_tokens}
use Rattle.cal_lexer.specs.declared.token.Token.{Token}
use Rattle.cal_grammar.specs.Spells.{Mark, mark, Part, separated}
use Rattle.cal_grammar.specs.Rules.{Rule, part, read}
use Rattle.cal_parse_base.specs.Tells.{before}

-- these trees are read from `start` on, with a mark behind each, and the rest is read from `now` on
pub record IsSoFar (v : Mark) (p : Part) (w : Lexeme) (start now : List Token) (xs : List Tree) :
    Type 0 where
  pub word_is : w ≡ mark v
  pub far : (m : ℕ) → read m (part (separated v p)) (plain_tokens start)
      ≡ before xs (read m (part (separated v p)) (plain_tokens now))

-- the same for any rule of a list, in one room
pub record HasRead (m : ℕ) (r : Rule) (start now : List Token) (xs : List Tree) : Type 0 where
  pub far : read m r (plain_tokens start) ≡ before xs (read m r (plain_tokens now))
