-- How far the loop over the members of an actor has come.
-- Not trusted: no promise is read with it.
use Rattle.std.specs.Prelude.{◌≡◌, ℕ, Bool, true, List}
use Rattle.cal_ast.specs.Tree.{Tree}
use Rattle.cal_lexer.specs.Lexeme.{plain_tokens}
use Rattle.cal_lexer.specs.declared.token.Token.{Token}
use Rattle.cal_grammar.specs.Spells.{members}
use Rattle.cal_grammar.specs.Rules.{part, read}
use Rattle.cal_parse_base.specs.Tells.{before}

-- these members are read from `start` on, and the others from `now` on; `k` says whether a schedule may still come
pub record IsMembersSoFar (m : ℕ) (start now : List Token) (k : Bool) (xs : List Tree) :
    Type 0 where
  pub far : read m (part (members true)) (plain_tokens start)
      ≡ before xs (read m (part (members k)) (plain_tokens now))
