-- What a file's text says, and which rule of its own it breaks.
--
-- A file's length comes first, then its lexis, then its grammar: a longer text isn't looked at, and one that has no
-- tokens spells nothing.
-- Trusted but for `IsRightly`: part of what a promise means.
use Rattle.std.specs.Prelude.{◌≡◌, ◌≤◌, ℕ, List, length}
use Rattle.rvc_base.specs.declared.refusal.Rule.{Rule}
use Rattle.rvc_base.specs.declared.refusal.Front.{Front as Answer}
use Rattle.rvc_base.specs.declared.refusal.Front.TheVariants.{Refused, Memory}
use Rattle.rvc_io.specs.Library.{max_file_bytes}
use Rattle.rvc_io.specs.Told.{Told, IsTold}
use Rattle.cal_ast.specs.Tree.{Tree}
use Rattle.cal_lexer.specs.Lexeme.{Placed}
use Rattle.cal_lexer.specs.Lexes.{lexes, faults}
use Rattle.cal_grammar.specs.Operators.{height, max_height}
use Rattle.cal_grammar.specs.Refusals.{Breaks}
use Rattle.cal_grammar.specs.Spells.{spells}

-- these are the bytes of the file, as far as it is told, and they don't pass the limit
pub record IsText (told : Told) (text : List ℕ) : Type 0 where
  pub is_told : IsTold told text
  pub short : length text ≤ max_file_bytes

-- the text has tokens, and they spell this tree, which isn't too high
pub record IsFile (text : List ℕ) (tree : Tree) : Type 0 where
  pub tokens : List Placed
  pub lexed : lexes text tokens
  pub spelled : spells tokens tree
  pub low : height tree ≤ max_height

-- which rule of the lexis or of the grammar a text breaks, and where
pub data BreaksRules (text : List ℕ) : Rule → ℕ → Type 0 where
  in_lexis : (rule : Rule) (at : ℕ) → faults text rule at → BreaksRules text rule at
  in_grammar : (tokens : List Placed) (rule : Rule) (at : ℕ) → lexes text tokens
      → Breaks (length text) tokens rule at → BreaksRules text rule at

-- a refusal names this file, and what its text breaks; running out of memory says nothing of it
abbrev pub IsRightly : ℕ → List ℕ → Answer → Type 0
IsRightly number text (Refused refusal) = (refusal.place.file ≡ number)
    × BreaksRules text refusal.rule refusal.place.offset
IsRightly number text Memory = Unit {0}
