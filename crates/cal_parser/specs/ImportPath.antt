-- Parts of files: what follows the first name of an import, and what follows the imports.
-- Not trusted: no promise is read with it.
use Rattle.std.specs.Prelude.{◌≡◌, ℕ, List, [], ◌∷◌, map, option_map, cond}
use Rattle.cal_grammar.specs.Program.{Outcome, Gave, Refused, TooHigh, Spent}
use Rattle.cal_ast.specs.Tree.{Tree, import_part, listed}
use Rattle.cal_ast.specs.View.{ident_tree, optional}
use Rattle.cal_lexer.specs.Lexeme.{Lexeme, Placed, plain_tokens}
use Rattle.cal_lexer.specs.declared.token.Token.{Token}
use Rattle.cal_parser.specs.declared.files.Path.{Path}
use Rattle.cal_parse_base.specs.Cursor.{stands}
use Rattle.cal_grammar.specs.Operators.{onto}
use Rattle.cal_grammar.specs.Rules.{part, read}
use Rattle.cal_grammar.specs.Spells.{Part, a_path, an_actor, a_unit}
use Rattle.cal_grammar.specs.Token.{same_word}

-- the tree of what follows the first name of an import; the import has an offset, and this has none
abbrev pub path_tree : Path → Tree
path_tree p =
    import_part (listed (map ident_tree p.names.items)) (optional (option_map ident_tree p.last)) 0

-- a path with names at its front
abbrev pub behind : List Tree → Tree → Tree
behind [] x = x
behind (i ∷ is) x = onto i (behind is x)

-- the outcome of a path whose first names are read
abbrev pub path_behind : List Tree → Outcome Placed Tree → Outcome Placed Tree
path_behind is (Gave x left) = Gave (behind is x) left
path_behind is (Refused left) = Refused left
path_behind is (TooHigh left) = TooHigh left
path_behind is Spent = Spent

-- these names are read from `start` on, with a dot before each, and the rest of the path is read from `now` on
pub record IsPathSoFar (m : ℕ) (start now : List Token) (is : List Tree) : Type 0 where
  pub far : read m (part a_path) (plain_tokens start)
      ≡ path_behind is (read m (part a_path) (plain_tokens now))

-- what a file declares from here on
abbrev pub body_part : List Token → Part
body_part ts = cond (stands (same_word Lexeme.Actor) ts) an_actor a_unit
