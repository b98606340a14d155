-- Canonical text that is read back.
-- Trusted: part of what a promise means.
use Rattle.std.specs.Prelude.{◌≡◌, List}
use Rattle.cal_ast.specs.Apart.{IsEqualApart}
use Rattle.cal_ast.specs.Tree.{Tree}
use Rattle.cal_lexer.specs.Lexeme.{Placed}
use Rattle.cal_lexer.specs.Lexes.{lexes}
use Rattle.cal_grammar.specs.Operators.{height}
use Rattle.cal_grammar.specs.Spells.{spells}
use Rattle.cal_print.specs.Canon.{canon}

-- the canonical text of a file's tree has tokens, and these spell the same tree again, ignoring offsets, of the same height
pub record IsReadBack (t : Tree) : Type 0 where
  pub tokens : List Placed
  pub lexed : lexes (canon t) tokens
  pub tree : Tree
  pub spelled : spells tokens tree
  pub same : IsEqualApart tree t
  pub as_high : height tree ≡ height t
