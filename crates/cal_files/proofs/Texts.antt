-- What the reader of one file answers, from what its steps say.
use Rattle.std.proofs.Common.{◌≤◌, ◌<◌, ℕ, List, length, subst}
use Rattle.std.specs.Prelude.{Result, Ok, Err, IfErr, IfOk}
use Rattle.rvc_base.specs.declared.refusal.Front.{Front as Answer}
use Rattle.rvc_base.specs.declared.refusal.Front.TheVariants.{Refused, Memory}
use Rattle.rvc_io.specs.Library.{IsTooLong, max_file_bytes}
use Rattle.rvc_io.specs.Told.{Told, Untold, Lacking, Holding, IsTold}
use Rattle.cal_ast.specs.Tree.{Tree}
use Rattle.cal_lexer.specs.Lexeme.{Placed}
use Rattle.cal_lexer.specs.Lexes as lexis
use Rattle.cal_grammar.specs.Operators.{height, max_height}
use Rattle.cal_grammar.specs.Refusals as grammar
use Rattle.cal_grammar.specs.Spells.{spells}
use Rattle.cal_files.specs.FileText.{IsFile, IsRightly, in_grammar, in_lexis}

pub of_lexis : (file : ℕ) (text : List ℕ) (e : Answer) → lexis.IsRightly file text e → IsRightly file text e
of_lexis file text (Refused r) h = (h.0, in_lexis r.rule r.place.offset h.1)
of_lexis file text Memory h = tt

of_grammar : (file : ℕ) (text : List ℕ) (tokens : List Placed) (e : Answer) → lexis.lexes text tokens
    → grammar.IsRightly file (length text) tokens e → IsRightly file text e
of_grammar file text tokens (Refused r) lexed h = (h.0, in_grammar tokens r.rule r.place.offset lexed h.1)
of_grammar file text tokens Memory lexed h = tt

-- the same over an answer
pub all_of_grammar : {T : Type 0} (r : Result T Answer) (file : ℕ) (text : List ℕ) (tokens : List Placed) → lexis.lexes text tokens
    → IfErr r (grammar.IsRightly file (length text) tokens) → IfErr r (IsRightly file text)
all_of_grammar (Ok x) file text tokens lexed h = tt
all_of_grammar (Err e) file text tokens lexed h = of_grammar file text tokens e lexed h

pub spelled_file : {T : Type 0} (view : T → Tree) (r : Result T Answer) (text : List ℕ) (tokens : List Placed) → lexis.lexes text tokens
    → IfOk r (λ f. spells tokens (view f)) → IfOk r (λ f. height (view f) ≤ max_height) → IfOk r (λ f. IsFile text (view f))
spelled_file view (Ok f) text tokens lexed s low = record { tokens = tokens; lexed = lexed; spelled = s; low = low }
spelled_file view (Err e) text tokens lexed s low = tt

-- a file that was found, but is longer than its limit
pub found_too_long : (told : Told) (text : List ℕ) → IsTold told text → max_file_bytes < length text → IsTooLong told
found_too_long Untold text is long = tt
found_too_long Lacking text is long = is
found_too_long (Holding t) text is long = subst (λ xs. max_file_bytes < length xs) is long
