-- What stands before the `==>` of an action.
-- Not trusted: no promise is read with it.
use Rattle.std.specs.Prelude.{Bool, true, false, List, [], ◌∷◌}
use Rattle.cal_ast.specs.Tree.{Tree}
use Rattle.cal_lexer.specs.Lexeme.{Lexeme}
use Rattle.cal_print.specs.Tokens.{joined}

-- `action` and the patterns, or `initialize`, which has none
abbrev pub input_words : Bool → Tree → List Lexeme
input_words true patterns = Lexeme.Initialize ∷ []
input_words false patterns = Lexeme.Action ∷ joined Lexeme.Comma patterns
