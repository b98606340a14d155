-- Statements: if the words of their parts spell them, theirs do.
use Rattle.std.proofs.Common.{ℕ, List, [], ◌∷◌, ◌++◌, refl}
use Rattle.cal_ast.specs.Tree.{Tree, absent, present, nil, ident, assign, call_stmt, if_stmt, while_stmt, foreach_stmt, block}
use Rattle.cal_lexer.specs.Lexeme.{Lexeme, Placed}
use Rattle.cal_grammar.specs.Spells.{separated, any, repeated, a_type, a_var, a_place, a_stmt, otherwise, an_expr, comma, the_place, the_assign, the_call_stmt, the_if_stmt, the_while, the_foreach, the_block, the_block_with, the_if_end, the_else}
use Rattle.law_canon.specs.Printable.{IsPrintable}
use Rattle.law_canon.proofs.Phrases.{Respells, IsBack, back, done, word, part, last, Reads, at_end, a_word, a_part, at_last, respells}

pub back_place : {v1 : List Lexeme} {y1 : Tree} → Respells an_expr v1 y1 → Respells a_place (Lexeme.LeftBracket ∷ v1 ++ (Lexeme.RightBracket ∷ [])) y1
back_place {v1 = v1} {y1 = y1} r1 = respells (tt, (r1, (tt, tt))) go
  where
    go : (a b : List Placed) → Reads (word Lexeme.LeftBracket (part an_expr v1 y1 (word Lexeme.RightBracket done))) a b → IsBack a_place a b y1
    go _ _ (a_word (a_part h1 e1 (a_word at_end))) = back (the_place h1) (rw e1 refl)

pub back_assign : (s : List ℕ) (n1 : IsPrintable (Lexeme.Name s)) {v1 v2 : List Lexeme} {y1 y2 : Tree} → Respells (repeated a_place) v1 y1 → Respells an_expr v2 y2 → Respells a_stmt (Lexeme.Name s ∷ v1 ++ (Lexeme.Assign ∷ v2 ++ (Lexeme.Semicolon ∷ []))) (assign (ident s 0) y1 y2 0)
back_assign s n1 {v1 = v1} {v2 = v2} {y1 = y1} {y2 = y2} r1 r2 = respells (n1, (r1, (tt, (r2, (tt, tt))))) go
  where
    go : (a b : List Placed) → Reads (word (Lexeme.Name s) (part (repeated a_place) v1 y1 (word Lexeme.Assign (part an_expr v2 y2 (word Lexeme.Semicolon done))))) a b → IsBack a_stmt a b (assign (ident s 0) y1 y2 0)
    go _ _ (a_word (a_part h1 e1 (a_word (a_part h2 e2 (a_word at_end))))) = back (the_assign h1 h2) (rw (e1, e2) refl)

pub back_call_stmt : (s : List ℕ) (n1 : IsPrintable (Lexeme.Name s)) {v1 : List Lexeme} {y1 : Tree} → Respells (any comma an_expr) v1 y1 → Respells a_stmt (Lexeme.Name s ∷ Lexeme.LeftParen ∷ v1 ++ (Lexeme.RightParen ∷ Lexeme.Semicolon ∷ [])) (call_stmt (ident s 0) y1 0)
back_call_stmt s n1 {v1 = v1} {y1 = y1} r1 = respells (n1, (tt, (r1, (tt, (tt, tt))))) go
  where
    go : (a b : List Placed) → Reads (word (Lexeme.Name s) (word Lexeme.LeftParen (part (any comma an_expr) v1 y1 (word Lexeme.RightParen (word Lexeme.Semicolon done))))) a b → IsBack a_stmt a b (call_stmt (ident s 0) y1 0)
    go _ _ (a_word (a_word (a_part h1 e1 (a_word (a_word at_end))))) = back (the_call_stmt h1) (rw e1 refl)

pub back_if_stmt : {v1 v2 v3 : List Lexeme} {y1 y2 y3 : Tree} → Respells an_expr v1 y1 → Respells (repeated a_stmt) v2 y2 → Respells otherwise v3 y3 → Respells a_stmt (Lexeme.If ∷ v1 ++ (Lexeme.Then ∷ v2 ++ v3)) (if_stmt y1 y2 y3 0)
back_if_stmt {v1 = v1} {v2 = v2} {v3 = v3} {y1 = y1} {y2 = y2} {y3 = y3} r1 r2 r3 = respells (tt, (r1, (tt, (r2, r3)))) go
  where
    go : (a b : List Placed) → Reads (word Lexeme.If (part an_expr v1 y1 (word Lexeme.Then (part (repeated a_stmt) v2 y2 (last otherwise v3 y3))))) a b → IsBack a_stmt a b (if_stmt y1 y2 y3 0)
    go _ _ (a_word (a_part h1 e1 (a_word (a_part h2 e2 (at_last h3 e3))))) = back (the_if_stmt h1 h2 h3) (rw (e1, e2, e3) refl)

pub back_while : {v1 v2 : List Lexeme} {y1 y2 : Tree} → Respells an_expr v1 y1 → Respells (repeated a_stmt) v2 y2 → Respells a_stmt (Lexeme.While ∷ v1 ++ (Lexeme.Do ∷ v2 ++ (Lexeme.End ∷ []))) (while_stmt y1 y2 0)
back_while {v1 = v1} {v2 = v2} {y1 = y1} {y2 = y2} r1 r2 = respells (tt, (r1, (tt, (r2, (tt, tt))))) go
  where
    go : (a b : List Placed) → Reads (word Lexeme.While (part an_expr v1 y1 (word Lexeme.Do (part (repeated a_stmt) v2 y2 (word Lexeme.End done))))) a b → IsBack a_stmt a b (while_stmt y1 y2 0)
    go _ _ (a_word (a_part h1 e1 (a_word (a_part h2 e2 (a_word at_end))))) = back (the_while h1 h2 refl) (rw (e1, e2) refl)

pub back_foreach : (s : List ℕ) (n1 : IsPrintable (Lexeme.Name s)) {v1 v2 v3 v4 : List Lexeme} {y1 y2 y3 y4 : Tree} → Respells a_type v1 y1 → Respells an_expr v2 y2 → Respells an_expr v3 y3 → Respells (repeated a_stmt) v4 y4 → Respells a_stmt (Lexeme.Foreach ∷ v1 ++ (Lexeme.Name s ∷ Lexeme.In ∷ v2 ++ (Lexeme.DotDot ∷ v3 ++ (Lexeme.Do ∷ v4 ++ (Lexeme.End ∷ []))))) (foreach_stmt y1 (ident s 0) y2 y3 y4 0)
back_foreach s n1 {v1 = v1} {v2 = v2} {v3 = v3} {v4 = v4} {y1 = y1} {y2 = y2} {y3 = y3} {y4 = y4} r1 r2 r3 r4 = respells (tt, (r1, (n1, (tt, (r2, (tt, (r3, (tt, (r4, (tt, tt)))))))))) go
  where
    go : (a b : List Placed) → Reads (word Lexeme.Foreach (part a_type v1 y1 (word (Lexeme.Name s) (word Lexeme.In (part an_expr v2 y2 (word Lexeme.DotDot (part an_expr v3 y3 (word Lexeme.Do (part (repeated a_stmt) v4 y4 (word Lexeme.End done)))))))))) a b → IsBack a_stmt a b (foreach_stmt y1 (ident s 0) y2 y3 y4 0)
    go _ _ (a_word (a_part h1 e1 (a_word (a_word (a_part h2 e2 (a_word (a_part h3 e3 (a_word (a_part h4 e4 (a_word at_end)))))))))) = back (the_foreach h1 h2 h3 h4 refl) (rw (e1, e2, e3, e4) refl)

pub back_block : {v1 : List Lexeme} {y1 : Tree} → Respells (repeated a_stmt) v1 y1 → Respells a_stmt (Lexeme.Begin ∷ v1 ++ (Lexeme.End ∷ [])) (block nil y1 0)
back_block {v1 = v1} {y1 = y1} r1 = respells (tt, (r1, (tt, tt))) go
  where
    go : (a b : List Placed) → Reads (word Lexeme.Begin (part (repeated a_stmt) v1 y1 (word Lexeme.End done))) a b → IsBack a_stmt a b (block nil y1 0)
    go _ _ (a_word (a_part h1 e1 (a_word at_end))) = back (the_block h1 refl) (rw e1 refl)

pub back_block_with : {v1 v2 : List Lexeme} {y1 y2 : Tree} → Respells (separated comma a_var) v1 y1 → Respells (repeated a_stmt) v2 y2 → Respells a_stmt (Lexeme.Begin ∷ Lexeme.Var ∷ v1 ++ (Lexeme.Do ∷ v2 ++ (Lexeme.End ∷ []))) (block y1 y2 0)
back_block_with {v1 = v1} {v2 = v2} {y1 = y1} {y2 = y2} r1 r2 = respells (tt, (tt, (r1, (tt, (r2, (tt, tt)))))) go
  where
    go : (a b : List Placed) → Reads (word Lexeme.Begin (word Lexeme.Var (part (separated comma a_var) v1 y1 (word Lexeme.Do (part (repeated a_stmt) v2 y2 (word Lexeme.End done)))))) a b → IsBack a_stmt a b (block y1 y2 0)
    go _ _ (a_word (a_word (a_part h1 e1 (a_word (a_part h2 e2 (a_word at_end)))))) = back (the_block_with h1 h2 refl) (rw (e1, e2) refl)

pub back_if_end : Respells otherwise (Lexeme.End ∷ []) absent
back_if_end = respells (tt, tt) go
  where
    go : (a b : List Placed) → Reads (word Lexeme.End done) a b → IsBack otherwise a b absent
    go _ _ (a_word at_end) = back (the_if_end refl) refl

pub back_else : {v1 : List Lexeme} {y1 : Tree} → Respells (repeated a_stmt) v1 y1 → Respells otherwise (Lexeme.Else ∷ v1 ++ (Lexeme.End ∷ [])) (present y1)
back_else {v1 = v1} {y1 = y1} r1 = respells (tt, (r1, (tt, tt))) go
  where
    go : (a b : List Placed) → Reads (word Lexeme.Else (part (repeated a_stmt) v1 y1 (word Lexeme.End done))) a b → IsBack otherwise a b (present y1)
    go _ _ (a_word (a_part h1 e1 (a_word at_end))) = back (the_else h1 refl) (rw e1 refl)
