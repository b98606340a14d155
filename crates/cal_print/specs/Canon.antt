-- The canonical text of a tree (this profile's): the text of its tokens.
-- Trusted: part of what a promise means.
use Rattle.std.specs.Prelude.{ℕ, List}
use Rattle.cal_ast.specs.Tree.{Tree}
use Rattle.cal_print.specs.Spelling.{text_of}
use Rattle.cal_print.specs.Tokens.{words}

-- the canonical text of a tree
abbrev pub canon : Tree → List ℕ
canon x = text_of (words x)
