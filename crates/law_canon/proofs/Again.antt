-- The canonical text of tokens that a text has is read as these tokens, and as no others.
use Rattle.std.proofs.Common.{◌≡◌, ℕ, List, ap, ◌∙◌}
use Rattle.rvc_base.specs.declared.refusal.Rule.{Rule}
use Rattle.cal_lexer.specs.Lexeme.{Lexeme, Placed}
use Rattle.cal_lexer.specs.Lexes.{LexesFrom, lexes, faults}
use Rattle.cal_lexer.proofs.Once.{one_list, not_both}
use Rattle.cal_print.specs.Spelling.{text_of}
use Rattle.law_canon.specs.Printable.{ArePrintable, kinds}
use Rattle.law_canon.proofs.Lexing.{lexes_back}
use Rattle.law_canon.proofs.Lexed.{lexed_is_printable}

-- whatever the text of printable tokens lexes to, it is these tokens
pub only_these : (ws : List Lexeme) (tokens : List Placed) → ArePrintable ws → lexes (text_of ws) tokens → kinds tokens ≡ ws
only_these ws tokens all listed =
    let found = lexes_back ws 0 all in
    ap kinds (one_list listed found.1) ∙ found.2

-- and it has no fault
pub no_fault : (ws : List Lexeme) (rule : Rule) (place : ℕ) → ArePrintable ws → faults (text_of ws) rule place → ⊥
no_fault ws rule place all fault = not_both ((lexes_back ws 0 all).1) fault

-- what a text lexes to is lexed again from its canonical spelling
pub read_again : (bytes : List ℕ) (at : ℕ) (tokens : List Placed) → LexesFrom bytes at tokens → (again : List Placed) × lexes (text_of (kinds tokens)) again × (kinds again ≡ kinds tokens)
read_again bytes at tokens listed = lexes_back (kinds tokens) 0 (lexed_is_printable listed)
