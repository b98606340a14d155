-- Members: if the words of their parts spell them, theirs do.
use Rattle.std.proofs.Common.{◌≡◌, ℕ, Bool, true, false, List, [], ◌∷◌, ◌++◌, refl}
use Rattle.cal_ast.specs.Tree.{Tree, absent, present, nil, cons, ident, function, procedure, action, pattern, output, schedule, move, priority}
use Rattle.cal_ast.specs.Apart.{unplaced}
use Rattle.cal_lexer.specs.Lexeme.{Lexeme, Placed}
use Rattle.cal_grammar.specs.Operators.{with_tag}
use Rattle.cal_grammar.specs.Spells.{separated, any, repeated, a_type, a_var, some_vars, a_port, a_name, a_tag, a_stmt, a_function, a_procedure, some_guards, some_repeat, a_body, an_in, an_out, an_action, a_labelled, a_move, a_schedule, a_chain, a_priority, a_member, members, a_unit_member, an_expr, comma, greater, the_function, the_procedure, the_no_guards, the_guards, the_no_repeat, the_repeat, the_no_body, the_body, the_in, the_in_at, the_out, the_out_at, the_action, the_initialize, the_labelled, the_move, the_schedule, the_chain, the_priority, the_var_member, the_unit_var, the_no_members, the_member, the_schedule_member}
use Rattle.law_canon.specs.Printable.{IsPrintable}
use Rattle.law_canon.proofs.Phrases.{Respells, IsBack, back, done, word, part, last, Reads, at_end, a_word, a_part, at_last, respells}

-- an action without a tag, and the same under one
same_with_tag : (t x : Tree) {i : Bool} {y z1 z2 z3 z4 z5 : Tree} → unplaced t ≡ y → unplaced x ≡ action absent i z1 z2 z3 z4 z5 0 → unplaced (with_tag t x) ≡ action (present y) i z1 z2 z3 z4 z5 0
same_with_tag t (action none initialize patterns outputs guards vars body at) e f = cc
same_with_tag t _ e f = absurd cc

pub back_function : (s : List ℕ) (n1 : IsPrintable (Lexeme.Name s)) {v1 v2 v3 v4 : List Lexeme} {y1 y2 y3 y4 : Tree} → Respells (any comma a_port) v1 y1 → Respells a_type v2 y2 → Respells some_vars v3 y3 → Respells an_expr v4 y4 → Respells a_function (Lexeme.Function ∷ Lexeme.Name s ∷ Lexeme.LeftParen ∷ v1 ++ (Lexeme.RightParen ∷ Lexeme.LongArrow ∷ v2 ++ (v3 ++ (Lexeme.Colon ∷ v4 ++ (Lexeme.End ∷ []))))) (function (ident s 0) y1 y2 y3 y4 0)
back_function s n1 {v1 = v1} {v2 = v2} {v3 = v3} {v4 = v4} {y1 = y1} {y2 = y2} {y3 = y3} {y4 = y4} r1 r2 r3 r4 = respells (tt, (n1, (tt, (r1, (tt, (tt, (r2, (r3, (tt, (r4, (tt, tt))))))))))) go
  where
    go : (a b : List Placed) → Reads (word Lexeme.Function (word (Lexeme.Name s) (word Lexeme.LeftParen (part (any comma a_port) v1 y1 (word Lexeme.RightParen (word Lexeme.LongArrow (part a_type v2 y2 (part some_vars v3 y3 (word Lexeme.Colon (part an_expr v4 y4 (word Lexeme.End done))))))))))) a b → IsBack a_function a b (function (ident s 0) y1 y2 y3 y4 0)
    go _ _ (a_word (a_word (a_word (a_part h1 e1 (a_word (a_word (a_part h2 e2 (a_part h3 e3 (a_word (a_part h4 e4 (a_word at_end))))))))))) = back (the_function h1 h2 h3 h4 refl) (rw (e1, e2, e3, e4) refl)

pub back_procedure : (s : List ℕ) (n1 : IsPrintable (Lexeme.Name s)) {v1 v2 v3 : List Lexeme} {y1 y2 y3 : Tree} → Respells (any comma a_port) v1 y1 → Respells some_vars v2 y2 → Respells (repeated a_stmt) v3 y3 → Respells a_procedure (Lexeme.Procedure ∷ Lexeme.Name s ∷ Lexeme.LeftParen ∷ v1 ++ (Lexeme.RightParen ∷ v2 ++ (Lexeme.Begin ∷ v3 ++ (Lexeme.End ∷ [])))) (procedure (ident s 0) y1 y2 y3 0)
back_procedure s n1 {v1 = v1} {v2 = v2} {v3 = v3} {y1 = y1} {y2 = y2} {y3 = y3} r1 r2 r3 = respells (tt, (n1, (tt, (r1, (tt, (r2, (tt, (r3, (tt, tt))))))))) go
  where
    go : (a b : List Placed) → Reads (word Lexeme.Procedure (word (Lexeme.Name s) (word Lexeme.LeftParen (part (any comma a_port) v1 y1 (word Lexeme.RightParen (part some_vars v2 y2 (word Lexeme.Begin (part (repeated a_stmt) v3 y3 (word Lexeme.End done))))))))) a b → IsBack a_procedure a b (procedure (ident s 0) y1 y2 y3 0)
    go _ _ (a_word (a_word (a_word (a_part h1 e1 (a_word (a_part h2 e2 (a_word (a_part h3 e3 (a_word at_end))))))))) = back (the_procedure h1 h2 h3 refl) (rw (e1, e2, e3) refl)

pub back_no_guards : Respells some_guards [] nil
back_no_guards = respells tt go
  where
    go : (a b : List Placed) → Reads done a b → IsBack some_guards a b nil
    go _ _ at_end = back the_no_guards refl

pub back_guards : {v1 : List Lexeme} {y1 : Tree} → Respells (separated comma an_expr) v1 y1 → Respells some_guards (Lexeme.Guard ∷ v1) y1
back_guards {v1 = v1} {y1 = y1} r1 = respells (tt, r1) go
  where
    go : (a b : List Placed) → Reads (word Lexeme.Guard (last (separated comma an_expr) v1 y1)) a b → IsBack some_guards a b y1
    go _ _ (a_word (at_last h1 e1)) = back (the_guards h1) (rw e1 refl)

pub back_no_repeat : Respells some_repeat [] absent
back_no_repeat = respells tt go
  where
    go : (a b : List Placed) → Reads done a b → IsBack some_repeat a b absent
    go _ _ at_end = back the_no_repeat refl

pub back_repeat : {v1 : List Lexeme} {y1 : Tree} → Respells an_expr v1 y1 → Respells some_repeat (Lexeme.Repeat ∷ v1) (present y1)
back_repeat {v1 = v1} {y1 = y1} r1 = respells (tt, r1) go
  where
    go : (a b : List Placed) → Reads (word Lexeme.Repeat (last an_expr v1 y1)) a b → IsBack some_repeat a b (present y1)
    go _ _ (a_word (at_last h1 e1)) = back (the_repeat h1) (rw e1 refl)

pub back_no_body : Respells a_body [] absent
back_no_body = respells tt go
  where
    go : (a b : List Placed) → Reads done a b → IsBack a_body a b absent
    go _ _ at_end = back the_no_body refl

pub back_body : {v1 : List Lexeme} {y1 : Tree} → Respells (repeated a_stmt) v1 y1 → Respells a_body (Lexeme.Do ∷ v1) (present y1)
back_body {v1 = v1} {y1 = y1} r1 = respells (tt, r1) go
  where
    go : (a b : List Placed) → Reads (word Lexeme.Do (last (repeated a_stmt) v1 y1)) a b → IsBack a_body a b (present y1)
    go _ _ (a_word (at_last h1 e1)) = back (the_body h1) (rw e1 refl)

pub back_in : {v1 v2 : List Lexeme} {y1 y2 : Tree} → Respells (separated comma a_name) v1 y1 → Respells some_repeat v2 y2 → Respells an_in (Lexeme.LeftBracket ∷ v1 ++ (Lexeme.RightBracket ∷ v2)) (pattern absent y1 y2 0)
back_in {v1 = v1} {v2 = v2} {y1 = y1} {y2 = y2} r1 r2 = respells (tt, (r1, (tt, r2))) go
  where
    go : (a b : List Placed) → Reads (word Lexeme.LeftBracket (part (separated comma a_name) v1 y1 (word Lexeme.RightBracket (last some_repeat v2 y2)))) a b → IsBack an_in a b (pattern absent y1 y2 0)
    go _ _ (a_word (a_part h1 e1 (a_word (at_last h2 e2)))) = back (the_in h1 h2) (rw (e1, e2) refl)

pub back_in_at : (s : List ℕ) (n1 : IsPrintable (Lexeme.Name s)) {v1 v2 : List Lexeme} {y1 y2 : Tree} → Respells (separated comma a_name) v1 y1 → Respells some_repeat v2 y2 → Respells an_in (Lexeme.Name s ∷ Lexeme.Colon ∷ Lexeme.LeftBracket ∷ v1 ++ (Lexeme.RightBracket ∷ v2)) (pattern (present (ident s 0)) y1 y2 0)
back_in_at s n1 {v1 = v1} {v2 = v2} {y1 = y1} {y2 = y2} r1 r2 = respells (n1, (tt, (tt, (r1, (tt, r2))))) go
  where
    go : (a b : List Placed) → Reads (word (Lexeme.Name s) (word Lexeme.Colon (word Lexeme.LeftBracket (part (separated comma a_name) v1 y1 (word Lexeme.RightBracket (last some_repeat v2 y2)))))) a b → IsBack an_in a b (pattern (present (ident s 0)) y1 y2 0)
    go _ _ (a_word (a_word (a_word (a_part h1 e1 (a_word (at_last h2 e2)))))) = back (the_in_at h1 h2) (rw (e1, e2) refl)

pub back_out : {v1 v2 : List Lexeme} {y1 y2 : Tree} → Respells (separated comma an_expr) v1 y1 → Respells some_repeat v2 y2 → Respells an_out (Lexeme.LeftBracket ∷ v1 ++ (Lexeme.RightBracket ∷ v2)) (output absent y1 y2 0)
back_out {v1 = v1} {v2 = v2} {y1 = y1} {y2 = y2} r1 r2 = respells (tt, (r1, (tt, r2))) go
  where
    go : (a b : List Placed) → Reads (word Lexeme.LeftBracket (part (separated comma an_expr) v1 y1 (word Lexeme.RightBracket (last some_repeat v2 y2)))) a b → IsBack an_out a b (output absent y1 y2 0)
    go _ _ (a_word (a_part h1 e1 (a_word (at_last h2 e2)))) = back (the_out h1 h2) (rw (e1, e2) refl)

pub back_out_at : (s : List ℕ) (n1 : IsPrintable (Lexeme.Name s)) {v1 v2 : List Lexeme} {y1 y2 : Tree} → Respells (separated comma an_expr) v1 y1 → Respells some_repeat v2 y2 → Respells an_out (Lexeme.Name s ∷ Lexeme.Colon ∷ Lexeme.LeftBracket ∷ v1 ++ (Lexeme.RightBracket ∷ v2)) (output (present (ident s 0)) y1 y2 0)
back_out_at s n1 {v1 = v1} {v2 = v2} {y1 = y1} {y2 = y2} r1 r2 = respells (n1, (tt, (tt, (r1, (tt, r2))))) go
  where
    go : (a b : List Placed) → Reads (word (Lexeme.Name s) (word Lexeme.Colon (word Lexeme.LeftBracket (part (separated comma an_expr) v1 y1 (word Lexeme.RightBracket (last some_repeat v2 y2)))))) a b → IsBack an_out a b (output (present (ident s 0)) y1 y2 0)
    go _ _ (a_word (a_word (a_word (a_part h1 e1 (a_word (at_last h2 e2)))))) = back (the_out_at h1 h2) (rw (e1, e2) refl)

pub back_action : {v1 v2 v3 v4 v5 : List Lexeme} {y1 y2 y3 y4 y5 : Tree} → Respells (any comma an_in) v1 y1 → Respells (any comma an_out) v2 y2 → Respells some_guards v3 y3 → Respells some_vars v4 y4 → Respells a_body v5 y5 → Respells an_action (Lexeme.Action ∷ v1 ++ (Lexeme.LongDoubleArrow ∷ v2 ++ (v3 ++ (v4 ++ (v5 ++ (Lexeme.End ∷ [])))))) (action absent false y1 y2 y3 y4 y5 0)
back_action {v1 = v1} {v2 = v2} {v3 = v3} {v4 = v4} {v5 = v5} {y1 = y1} {y2 = y2} {y3 = y3} {y4 = y4} {y5 = y5} r1 r2 r3 r4 r5 = respells (tt, (r1, (tt, (r2, (r3, (r4, (r5, (tt, tt)))))))) go
  where
    go : (a b : List Placed) → Reads (word Lexeme.Action (part (any comma an_in) v1 y1 (word Lexeme.LongDoubleArrow (part (any comma an_out) v2 y2 (part some_guards v3 y3 (part some_vars v4 y4 (part a_body v5 y5 (word Lexeme.End done)))))))) a b → IsBack an_action a b (action absent false y1 y2 y3 y4 y5 0)
    go _ _ (a_word (a_part h1 e1 (a_word (a_part h2 e2 (a_part h3 e3 (a_part h4 e4 (a_part h5 e5 (a_word at_end)))))))) = back (the_action h1 h2 h3 h4 h5 refl) (rw (e1, e2, e3, e4, e5) refl)

pub back_initialize : {v1 v2 v3 v4 : List Lexeme} {y1 y2 y3 y4 : Tree} → Respells (any comma an_out) v1 y1 → Respells some_guards v2 y2 → Respells some_vars v3 y3 → Respells a_body v4 y4 → Respells an_action (Lexeme.Initialize ∷ Lexeme.LongDoubleArrow ∷ v1 ++ (v2 ++ (v3 ++ (v4 ++ (Lexeme.End ∷ []))))) (action absent true nil y1 y2 y3 y4 0)
back_initialize {v1 = v1} {v2 = v2} {v3 = v3} {v4 = v4} {y1 = y1} {y2 = y2} {y3 = y3} {y4 = y4} r1 r2 r3 r4 = respells (tt, (tt, (r1, (r2, (r3, (r4, (tt, tt))))))) go
  where
    go : (a b : List Placed) → Reads (word Lexeme.Initialize (word Lexeme.LongDoubleArrow (part (any comma an_out) v1 y1 (part some_guards v2 y2 (part some_vars v3 y3 (part a_body v4 y4 (word Lexeme.End done))))))) a b → IsBack an_action a b (action absent true nil y1 y2 y3 y4 0)
    go _ _ (a_word (a_word (a_part h1 e1 (a_part h2 e2 (a_part h3 e3 (a_part h4 e4 (a_word at_end))))))) = back (the_initialize h1 h2 h3 h4 refl) (rw (e1, e2, e3, e4) refl)

pub back_labelled : (i : Bool) {v1 v2 : List Lexeme} {y1 : Tree} {z1 z2 z3 z4 z5 : Tree} → Respells a_tag v1 y1 → Respells an_action v2 (action absent i z1 z2 z3 z4 z5 0) → Respells a_labelled (v1 ++ (Lexeme.Colon ∷ v2)) (action (present y1) i z1 z2 z3 z4 z5 0)
back_labelled i {v1 = v1} {v2 = v2} {y1 = y1} {z1 = z1} {z2 = z2} {z3 = z3} {z4 = z4} {z5 = z5} r1 r2 = respells (r1, (tt, r2)) go
  where
    go : (a b : List Placed) → Reads (part a_tag v1 y1 (word Lexeme.Colon (last an_action v2 (action absent i z1 z2 z3 z4 z5 0)))) a b → IsBack a_labelled a b (action (present y1) i z1 z2 z3 z4 z5 0)
    go _ _ (a_part h1 e1 (a_word (at_last h2 e2))) = back (the_labelled h1 h2) (same_with_tag _ _ e1 e2)

pub back_move : (s : List ℕ) (i : List ℕ) (n1 : IsPrintable (Lexeme.Name s)) (n2 : IsPrintable (Lexeme.Name i)) {v1 : List Lexeme} {y1 : Tree} → Respells (separated comma a_tag) v1 y1 → Respells a_move (Lexeme.Name s ∷ Lexeme.LeftParen ∷ v1 ++ (Lexeme.RightParen ∷ Lexeme.LongArrow ∷ Lexeme.Name i ∷ Lexeme.Semicolon ∷ [])) (move (ident s 0) y1 (ident i 0) 0)
back_move s i n1 n2 {v1 = v1} {y1 = y1} r1 = respells (n1, (tt, (r1, (tt, (tt, (n2, (tt, tt))))))) go
  where
    go : (a b : List Placed) → Reads (word (Lexeme.Name s) (word Lexeme.LeftParen (part (separated comma a_tag) v1 y1 (word Lexeme.RightParen (word Lexeme.LongArrow (word (Lexeme.Name i) (word Lexeme.Semicolon done))))))) a b → IsBack a_move a b (move (ident s 0) y1 (ident i 0) 0)
    go _ _ (a_word (a_word (a_part h1 e1 (a_word (a_word (a_word (a_word at_end))))))) = back (the_move h1) (rw e1 refl)

pub back_schedule : (s : List ℕ) (n1 : IsPrintable (Lexeme.Name s)) {v1 : List Lexeme} {y1 : Tree} → Respells (repeated a_move) v1 y1 → Respells a_schedule (Lexeme.Schedule ∷ Lexeme.Fsm ∷ Lexeme.Name s ∷ Lexeme.Colon ∷ v1 ++ (Lexeme.End ∷ [])) (schedule (ident s 0) y1 0)
back_schedule s n1 {v1 = v1} {y1 = y1} r1 = respells (tt, (tt, (n1, (tt, (r1, (tt, tt)))))) go
  where
    go : (a b : List Placed) → Reads (word Lexeme.Schedule (word Lexeme.Fsm (word (Lexeme.Name s) (word Lexeme.Colon (part (repeated a_move) v1 y1 (word Lexeme.End done)))))) a b → IsBack a_schedule a b (schedule (ident s 0) y1 0)
    go _ _ (a_word (a_word (a_word (a_word (a_part h1 e1 (a_word at_end)))))) = back (the_schedule h1 refl) (rw e1 refl)

pub back_chain : {v1 v2 : List Lexeme} {y1 y2 : Tree} → Respells a_tag v1 y1 → Respells (separated greater a_tag) v2 y2 → Respells a_chain (v1 ++ (Lexeme.Greater ∷ v2 ++ (Lexeme.Semicolon ∷ []))) (cons y1 y2)
back_chain {v1 = v1} {v2 = v2} {y1 = y1} {y2 = y2} r1 r2 = respells (r1, (tt, (r2, (tt, tt)))) go
  where
    go : (a b : List Placed) → Reads (part a_tag v1 y1 (word Lexeme.Greater (part (separated greater a_tag) v2 y2 (word Lexeme.Semicolon done)))) a b → IsBack a_chain a b (cons y1 y2)
    go _ _ (a_part h1 e1 (a_word (a_part h2 e2 (a_word at_end)))) = back (the_chain h1 h2) (rw (e1, e2) refl)

pub back_priority : {v1 : List Lexeme} {y1 : Tree} → Respells (repeated a_chain) v1 y1 → Respells a_priority (Lexeme.Priority ∷ v1 ++ (Lexeme.End ∷ [])) (priority y1 0)
back_priority {v1 = v1} {y1 = y1} r1 = respells (tt, (r1, (tt, tt))) go
  where
    go : (a b : List Placed) → Reads (word Lexeme.Priority (part (repeated a_chain) v1 y1 (word Lexeme.End done))) a b → IsBack a_priority a b (priority y1 0)
    go _ _ (a_word (a_part h1 e1 (a_word at_end))) = back (the_priority h1 refl) (rw e1 refl)

pub back_var_member : {v1 : List Lexeme} {y1 : Tree} → Respells a_var v1 y1 → Respells a_member (v1 ++ (Lexeme.Semicolon ∷ [])) y1
back_var_member {v1 = v1} {y1 = y1} r1 = respells (r1, (tt, tt)) go
  where
    go : (a b : List Placed) → Reads (part a_var v1 y1 (word Lexeme.Semicolon done)) a b → IsBack a_member a b y1
    go _ _ (a_part h1 e1 (a_word at_end)) = back (the_var_member h1) (rw e1 refl)

pub back_unit_var : {v1 : List Lexeme} {y1 : Tree} → Respells a_var v1 y1 → Respells a_unit_member (v1 ++ (Lexeme.Semicolon ∷ [])) y1
back_unit_var {v1 = v1} {y1 = y1} r1 = respells (r1, (tt, tt)) go
  where
    go : (a b : List Placed) → Reads (part a_var v1 y1 (word Lexeme.Semicolon done)) a b → IsBack a_unit_member a b y1
    go _ _ (a_part h1 e1 (a_word at_end)) = back (the_unit_var h1) (rw e1 refl)

pub back_no_members : (k : Bool) → Respells (members k) [] nil
back_no_members k = respells tt go
  where
    go : (a b : List Placed) → Reads done a b → IsBack (members k) a b nil
    go _ _ at_end = back the_no_members refl

pub back_member : {k : Bool} {v1 v2 : List Lexeme} {y1 y2 : Tree} → Respells a_member v1 y1 → Respells (members k) v2 y2 → Respells (members k) (v1 ++ v2) (cons y1 y2)
back_member {k = k} {v1 = v1} {v2 = v2} {y1 = y1} {y2 = y2} r1 r2 = respells (r1, r2) go
  where
    go : (a b : List Placed) → Reads (part a_member v1 y1 (last (members k) v2 y2)) a b → IsBack (members k) a b (cons y1 y2)
    go _ _ (a_part h1 e1 (at_last h2 e2)) = back (the_member h1 h2) (rw (e1, e2) refl)

pub back_schedule_member : {v1 v2 : List Lexeme} {y1 y2 : Tree} → Respells a_schedule v1 y1 → Respells (members false) v2 y2 → Respells (members true) (v1 ++ v2) (cons y1 y2)
back_schedule_member {v1 = v1} {v2 = v2} {y1 = y1} {y2 = y2} r1 r2 = respells (r1, r2) go
  where
    go : (a b : List Placed) → Reads (part a_schedule v1 y1 (last (members false) v2 y2)) a b → IsBack (members true) a b (cons y1 y2)
    go _ _ (a_part h1 e1 (at_last h2 e2)) = back (the_schedule_member h1 h2) (rw (e1, e2) refl)
