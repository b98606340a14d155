-- Lists, expressions, types and declarations: if the words of their parts spell them, theirs do.
use Rattle.std.proofs.Common.{◌≡◌, ℕ, suc, true, false, List, [], ◌∷◌, ◌++◌, refl}
use Rattle.cal_ast.specs.Tree.{Tree, absent, present, nil, cons, ident, tag, param, port, var, type_of, shape_arg, value_arg, number, truth, variable, call, if_expr, list, comp, gen, index, prefix, binary}
use Rattle.cal_lexer.specs.Lexeme.{Lexeme, Placed}
use Rattle.cal_grammar.specs.Operators.{level_of, binary_of, is_prefix, prefix_of}
use Rattle.cal_grammar.specs.Spells.{Part, separated, rest, any, repeated, level, a_postfix, a_primary, a_gen, a_type, a_type_arg, a_var, some_vars, a_param, a_port, a_name, a_tag, an_expr, comma, dot, mark, Mark, the_separated, the_last, the_more, the_none, the_end, the_again, the_number, the_true, the_false, the_variable, the_call, the_if, the_list, the_comp, the_gen, the_index, the_prefix, the_binary, the_type, the_type_with, the_shape_arg, the_value_arg, the_var, the_var_changing, the_var_constant, the_no_vars, the_vars, the_param, the_param_default, the_port, the_name, the_tag}
use Rattle.law_canon.specs.Printable.{IsPrintable}
use Rattle.law_canon.proofs.Phrases.{mark_printable, Respells, IsBack, back, done, word, part, last, Reads, at_end, a_word, a_part, at_last, respells}

pub back_separated : {v : Mark} {p : Part} {v1 v2 : List Lexeme} {y1 y2 : Tree} → Respells p v1 y1 → Respells (rest v p) v2 y2 → Respells (separated v p) (v1 ++ v2) (cons y1 y2)
back_separated {v = v} {p = p} {v1 = v1} {v2 = v2} {y1 = y1} {y2 = y2} r1 r2 = respells (r1, r2) go
  where
    go : (a b : List Placed) → Reads (part p v1 y1 (last (rest v p) v2 y2)) a b → IsBack (separated v p) a b (cons y1 y2)
    go _ _ (a_part h1 e1 (at_last h2 e2)) = back (the_separated h1 h2) (rw (e1, e2) refl)

pub back_last : (v : Mark) (p : Part) → Respells (rest v p) [] nil
back_last v p = respells tt go
  where
    go : (a b : List Placed) → Reads done a b → IsBack (rest v p) a b nil
    go _ _ at_end = back the_last refl

pub back_more : {v : Mark} {p : Part} {v1 : List Lexeme} {y1 : Tree} → Respells (separated v p) v1 y1 → Respells (rest v p) (mark v ∷ v1) y1
back_more {v = v} {p = p} {v1 = v1} {y1 = y1} r1 = respells (mark_printable v, r1) go
  where
    go : (a b : List Placed) → Reads (word (mark v) (last (separated v p) v1 y1)) a b → IsBack (rest v p) a b y1
    go _ _ (a_word (at_last h1 e1)) = back (the_more h1) (rw e1 refl)

pub back_none : (v : Mark) (p : Part) → Respells (any v p) [] nil
back_none v p = respells tt go
  where
    go : (a b : List Placed) → Reads done a b → IsBack (any v p) a b nil
    go _ _ at_end = back the_none refl

pub back_end : (p : Part) → Respells (repeated p) [] nil
back_end p = respells tt go
  where
    go : (a b : List Placed) → Reads done a b → IsBack (repeated p) a b nil
    go _ _ at_end = back the_end refl

pub back_again : {p : Part} {v1 v2 : List Lexeme} {y1 y2 : Tree} → Respells p v1 y1 → Respells (repeated p) v2 y2 → Respells (repeated p) (v1 ++ v2) (cons y1 y2)
back_again {p = p} {v1 = v1} {v2 = v2} {y1 = y1} {y2 = y2} r1 r2 = respells (r1, r2) go
  where
    go : (a b : List Placed) → Reads (part p v1 y1 (last (repeated p) v2 y2)) a b → IsBack (repeated p) a b (cons y1 y2)
    go _ _ (a_part h1 e1 (at_last h2 e2)) = back (the_again h1 h2) (rw (e1, e2) refl)

pub back_number : (v : ℕ) (n1 : IsPrintable (Lexeme.Number v)) → Respells a_primary (Lexeme.Number v ∷ []) (number v 0)
back_number v n1 = respells (n1, tt) go
  where
    go : (a b : List Placed) → Reads (word (Lexeme.Number v) done) a b → IsBack a_primary a b (number v 0)
    go _ _ (a_word at_end) = back the_number refl

pub back_true : Respells a_primary (Lexeme.True ∷ []) (truth true 0)
back_true = respells (tt, tt) go
  where
    go : (a b : List Placed) → Reads (word Lexeme.True done) a b → IsBack a_primary a b (truth true 0)
    go _ _ (a_word at_end) = back the_true refl

pub back_false : Respells a_primary (Lexeme.False ∷ []) (truth false 0)
back_false = respells (tt, tt) go
  where
    go : (a b : List Placed) → Reads (word Lexeme.False done) a b → IsBack a_primary a b (truth false 0)
    go _ _ (a_word at_end) = back the_false refl

pub back_variable : (s : List ℕ) (n1 : IsPrintable (Lexeme.Name s)) → Respells a_primary (Lexeme.Name s ∷ []) (variable s 0)
back_variable s n1 = respells (n1, tt) go
  where
    go : (a b : List Placed) → Reads (word (Lexeme.Name s) done) a b → IsBack a_primary a b (variable s 0)
    go _ _ (a_word at_end) = back the_variable refl

pub back_call : (s : List ℕ) (n1 : IsPrintable (Lexeme.Name s)) {v1 : List Lexeme} {y1 : Tree} → Respells (any comma an_expr) v1 y1 → Respells a_primary (Lexeme.Name s ∷ Lexeme.LeftParen ∷ v1 ++ (Lexeme.RightParen ∷ [])) (call s y1 0)
back_call s n1 {v1 = v1} {y1 = y1} r1 = respells (n1, (tt, (r1, (tt, tt)))) go
  where
    go : (a b : List Placed) → Reads (word (Lexeme.Name s) (word Lexeme.LeftParen (part (any comma an_expr) v1 y1 (word Lexeme.RightParen done)))) a b → IsBack a_primary a b (call s y1 0)
    go _ _ (a_word (a_word (a_part h1 e1 (a_word at_end)))) = back (the_call h1) (rw e1 refl)

pub back_if : {v1 v2 v3 : List Lexeme} {y1 y2 y3 : Tree} → Respells an_expr v1 y1 → Respells an_expr v2 y2 → Respells an_expr v3 y3 → Respells a_primary (Lexeme.If ∷ v1 ++ (Lexeme.Then ∷ v2 ++ (Lexeme.Else ∷ v3 ++ (Lexeme.End ∷ [])))) (if_expr y1 y2 y3 0)
back_if {v1 = v1} {v2 = v2} {v3 = v3} {y1 = y1} {y2 = y2} {y3 = y3} r1 r2 r3 = respells (tt, (r1, (tt, (r2, (tt, (r3, (tt, tt))))))) go
  where
    go : (a b : List Placed) → Reads (word Lexeme.If (part an_expr v1 y1 (word Lexeme.Then (part an_expr v2 y2 (word Lexeme.Else (part an_expr v3 y3 (word Lexeme.End done))))))) a b → IsBack a_primary a b (if_expr y1 y2 y3 0)
    go _ _ (a_word (a_part h1 e1 (a_word (a_part h2 e2 (a_word (a_part h3 e3 (a_word at_end))))))) = back (the_if h1 h2 h3 refl) (rw (e1, e2, e3) refl)

pub back_list : {v1 : List Lexeme} {y1 : Tree} → Respells (separated comma an_expr) v1 y1 → Respells a_primary (Lexeme.LeftBracket ∷ v1 ++ (Lexeme.RightBracket ∷ [])) (list y1 0)
back_list {v1 = v1} {y1 = y1} r1 = respells (tt, (r1, (tt, tt))) go
  where
    go : (a b : List Placed) → Reads (word Lexeme.LeftBracket (part (separated comma an_expr) v1 y1 (word Lexeme.RightBracket done))) a b → IsBack a_primary a b (list y1 0)
    go _ _ (a_word (a_part h1 e1 (a_word at_end))) = back (the_list h1) (rw e1 refl)

pub back_comp : {v1 v2 : List Lexeme} {y1 y2 : Tree} → Respells an_expr v1 y1 → Respells (separated comma a_gen) v2 y2 → Respells a_primary (Lexeme.LeftBracket ∷ v1 ++ (Lexeme.Colon ∷ v2 ++ (Lexeme.RightBracket ∷ []))) (comp y1 y2 0)
back_comp {v1 = v1} {v2 = v2} {y1 = y1} {y2 = y2} r1 r2 = respells (tt, (r1, (tt, (r2, (tt, tt))))) go
  where
    go : (a b : List Placed) → Reads (word Lexeme.LeftBracket (part an_expr v1 y1 (word Lexeme.Colon (part (separated comma a_gen) v2 y2 (word Lexeme.RightBracket done))))) a b → IsBack a_primary a b (comp y1 y2 0)
    go _ _ (a_word (a_part h1 e1 (a_word (a_part h2 e2 (a_word at_end))))) = back (the_comp h1 h2) (rw (e1, e2) refl)

pub back_gen : (s : List ℕ) (n1 : IsPrintable (Lexeme.Name s)) {v1 v2 v3 : List Lexeme} {y1 y2 y3 : Tree} → Respells a_type v1 y1 → Respells an_expr v2 y2 → Respells an_expr v3 y3 → Respells a_gen (Lexeme.For ∷ v1 ++ (Lexeme.Name s ∷ Lexeme.In ∷ v2 ++ (Lexeme.DotDot ∷ v3))) (gen y1 (ident s 0) y2 y3 0)
back_gen s n1 {v1 = v1} {v2 = v2} {v3 = v3} {y1 = y1} {y2 = y2} {y3 = y3} r1 r2 r3 = respells (tt, (r1, (n1, (tt, (r2, (tt, r3)))))) go
  where
    go : (a b : List Placed) → Reads (word Lexeme.For (part a_type v1 y1 (word (Lexeme.Name s) (word Lexeme.In (part an_expr v2 y2 (word Lexeme.DotDot (last an_expr v3 y3))))))) a b → IsBack a_gen a b (gen y1 (ident s 0) y2 y3 0)
    go _ _ (a_word (a_part h1 e1 (a_word (a_word (a_part h2 e2 (a_word (at_last h3 e3))))))) = back (the_gen h1 h2 h3) (rw (e1, e2, e3) refl)

pub back_index : {v1 v2 : List Lexeme} {y1 y2 : Tree} → Respells a_postfix v1 y1 → Respells an_expr v2 y2 → Respells a_postfix (v1 ++ (Lexeme.LeftBracket ∷ v2 ++ (Lexeme.RightBracket ∷ []))) (index y1 y2 0)
back_index {v1 = v1} {v2 = v2} {y1 = y1} {y2 = y2} r1 r2 = respells (r1, (tt, (r2, (tt, tt)))) go
  where
    go : (a b : List Placed) → Reads (part a_postfix v1 y1 (word Lexeme.LeftBracket (part an_expr v2 y2 (word Lexeme.RightBracket done)))) a b → IsBack a_postfix a b (index y1 y2 0)
    go _ _ (a_part h1 e1 (a_word (a_part h2 e2 (a_word at_end)))) = back (the_index h1 h2) (rw (e1, e2) refl)

pub back_prefix : (w : Lexeme) (c : is_prefix w ≡ true) (n1 : IsPrintable w) {v1 : List Lexeme} {y1 : Tree} → Respells (level 0) v1 y1 → Respells (level 0) (w ∷ v1) (prefix (prefix_of w) y1 0)
back_prefix w c n1 {v1 = v1} {y1 = y1} r1 = respells (n1, r1) go
  where
    go : (a b : List Placed) → Reads (word w (last (level 0) v1 y1)) a b → IsBack (level 0) a b (prefix (prefix_of w) y1 0)
    go _ _ (a_word (at_last h1 e1)) = back (the_prefix c h1) (rw e1 refl)

pub back_binary : (n : ℕ) (w : Lexeme) (c : level_of w ≡ suc n) (n1 : IsPrintable w) {v1 v2 : List Lexeme} {y1 y2 : Tree} → Respells (level (suc n)) v1 y1 → Respells (level n) v2 y2 → Respells (level (suc n)) (v1 ++ (w ∷ v2)) (binary (binary_of w) y1 y2 0)
back_binary n w c n1 {v1 = v1} {v2 = v2} {y1 = y1} {y2 = y2} r1 r2 = respells (r1, (n1, r2)) go
  where
    go : (a b : List Placed) → Reads (part (level (suc n)) v1 y1 (word w (last (level n) v2 y2))) a b → IsBack (level (suc n)) a b (binary (binary_of w) y1 y2 0)
    go _ _ (a_part h1 e1 (a_word (at_last h2 e2))) = back (the_binary h1 c h2) (rw (e1, e2) refl)

pub back_type : (s : List ℕ) (n1 : IsPrintable (Lexeme.Name s)) → Respells a_type (Lexeme.Name s ∷ []) (type_of (ident s 0) nil 0)
back_type s n1 = respells (n1, tt) go
  where
    go : (a b : List Placed) → Reads (word (Lexeme.Name s) done) a b → IsBack a_type a b (type_of (ident s 0) nil 0)
    go _ _ (a_word at_end) = back the_type refl

pub back_type_with : (s : List ℕ) (n1 : IsPrintable (Lexeme.Name s)) {v1 : List Lexeme} {y1 : Tree} → Respells (separated comma a_type_arg) v1 y1 → Respells a_type (Lexeme.Name s ∷ Lexeme.LeftParen ∷ v1 ++ (Lexeme.RightParen ∷ [])) (type_of (ident s 0) y1 0)
back_type_with s n1 {v1 = v1} {y1 = y1} r1 = respells (n1, (tt, (r1, (tt, tt)))) go
  where
    go : (a b : List Placed) → Reads (word (Lexeme.Name s) (word Lexeme.LeftParen (part (separated comma a_type_arg) v1 y1 (word Lexeme.RightParen done)))) a b → IsBack a_type a b (type_of (ident s 0) y1 0)
    go _ _ (a_word (a_word (a_part h1 e1 (a_word at_end)))) = back (the_type_with h1) (rw e1 refl)

pub back_shape_arg : (s : List ℕ) (n1 : IsPrintable (Lexeme.Name s)) {v1 : List Lexeme} {y1 : Tree} → Respells a_type v1 y1 → Respells a_type_arg (Lexeme.Name s ∷ Lexeme.Colon ∷ v1) (shape_arg (ident s 0) y1)
back_shape_arg s n1 {v1 = v1} {y1 = y1} r1 = respells (n1, (tt, r1)) go
  where
    go : (a b : List Placed) → Reads (word (Lexeme.Name s) (word Lexeme.Colon (last a_type v1 y1))) a b → IsBack a_type_arg a b (shape_arg (ident s 0) y1)
    go _ _ (a_word (a_word (at_last h1 e1))) = back (the_shape_arg h1) (rw e1 refl)

pub back_value_arg : (s : List ℕ) (n1 : IsPrintable (Lexeme.Name s)) {v1 : List Lexeme} {y1 : Tree} → Respells an_expr v1 y1 → Respells a_type_arg (Lexeme.Name s ∷ Lexeme.Equal ∷ v1) (value_arg (ident s 0) y1)
back_value_arg s n1 {v1 = v1} {y1 = y1} r1 = respells (n1, (tt, r1)) go
  where
    go : (a b : List Placed) → Reads (word (Lexeme.Name s) (word Lexeme.Equal (last an_expr v1 y1))) a b → IsBack a_type_arg a b (value_arg (ident s 0) y1)
    go _ _ (a_word (a_word (at_last h1 e1))) = back (the_value_arg h1) (rw e1 refl)

pub back_var : (s : List ℕ) (n1 : IsPrintable (Lexeme.Name s)) {v1 : List Lexeme} {y1 : Tree} → Respells a_type v1 y1 → Respells a_var (v1 ++ (Lexeme.Name s ∷ [])) (var y1 (ident s 0) absent true 0)
back_var s n1 {v1 = v1} {y1 = y1} r1 = respells (r1, (n1, tt)) go
  where
    go : (a b : List Placed) → Reads (part a_type v1 y1 (word (Lexeme.Name s) done)) a b → IsBack a_var a b (var y1 (ident s 0) absent true 0)
    go _ _ (a_part h1 e1 (a_word at_end)) = back (the_var h1) (rw e1 refl)

pub back_var_changing : (s : List ℕ) (n1 : IsPrintable (Lexeme.Name s)) {v1 v2 : List Lexeme} {y1 y2 : Tree} → Respells a_type v1 y1 → Respells an_expr v2 y2 → Respells a_var (v1 ++ (Lexeme.Name s ∷ Lexeme.Assign ∷ v2)) (var y1 (ident s 0) (present y2) true 0)
back_var_changing s n1 {v1 = v1} {v2 = v2} {y1 = y1} {y2 = y2} r1 r2 = respells (r1, (n1, (tt, r2))) go
  where
    go : (a b : List Placed) → Reads (part a_type v1 y1 (word (Lexeme.Name s) (word Lexeme.Assign (last an_expr v2 y2)))) a b → IsBack a_var a b (var y1 (ident s 0) (present y2) true 0)
    go _ _ (a_part h1 e1 (a_word (a_word (at_last h2 e2)))) = back (the_var_changing h1 h2) (rw (e1, e2) refl)

pub back_var_constant : (s : List ℕ) (n1 : IsPrintable (Lexeme.Name s)) {v1 v2 : List Lexeme} {y1 y2 : Tree} → Respells a_type v1 y1 → Respells an_expr v2 y2 → Respells a_var (v1 ++ (Lexeme.Name s ∷ Lexeme.Equal ∷ v2)) (var y1 (ident s 0) (present y2) false 0)
back_var_constant s n1 {v1 = v1} {v2 = v2} {y1 = y1} {y2 = y2} r1 r2 = respells (r1, (n1, (tt, r2))) go
  where
    go : (a b : List Placed) → Reads (part a_type v1 y1 (word (Lexeme.Name s) (word Lexeme.Equal (last an_expr v2 y2)))) a b → IsBack a_var a b (var y1 (ident s 0) (present y2) false 0)
    go _ _ (a_part h1 e1 (a_word (a_word (at_last h2 e2)))) = back (the_var_constant h1 h2) (rw (e1, e2) refl)

pub back_no_vars : Respells some_vars [] nil
back_no_vars = respells tt go
  where
    go : (a b : List Placed) → Reads done a b → IsBack some_vars a b nil
    go _ _ at_end = back the_no_vars refl

pub back_vars : {v1 : List Lexeme} {y1 : Tree} → Respells (separated comma a_var) v1 y1 → Respells some_vars (Lexeme.Var ∷ v1) y1
back_vars {v1 = v1} {y1 = y1} r1 = respells (tt, r1) go
  where
    go : (a b : List Placed) → Reads (word Lexeme.Var (last (separated comma a_var) v1 y1)) a b → IsBack some_vars a b y1
    go _ _ (a_word (at_last h1 e1)) = back (the_vars h1) (rw e1 refl)

pub back_param : (s : List ℕ) (n1 : IsPrintable (Lexeme.Name s)) {v1 : List Lexeme} {y1 : Tree} → Respells a_type v1 y1 → Respells a_param (v1 ++ (Lexeme.Name s ∷ [])) (param y1 (ident s 0) absent 0)
back_param s n1 {v1 = v1} {y1 = y1} r1 = respells (r1, (n1, tt)) go
  where
    go : (a b : List Placed) → Reads (part a_type v1 y1 (word (Lexeme.Name s) done)) a b → IsBack a_param a b (param y1 (ident s 0) absent 0)
    go _ _ (a_part h1 e1 (a_word at_end)) = back (the_param h1) (rw e1 refl)

pub back_param_default : (s : List ℕ) (n1 : IsPrintable (Lexeme.Name s)) {v1 v2 : List Lexeme} {y1 y2 : Tree} → Respells a_type v1 y1 → Respells an_expr v2 y2 → Respells a_param (v1 ++ (Lexeme.Name s ∷ Lexeme.Equal ∷ v2)) (param y1 (ident s 0) (present y2) 0)
back_param_default s n1 {v1 = v1} {v2 = v2} {y1 = y1} {y2 = y2} r1 r2 = respells (r1, (n1, (tt, r2))) go
  where
    go : (a b : List Placed) → Reads (part a_type v1 y1 (word (Lexeme.Name s) (word Lexeme.Equal (last an_expr v2 y2)))) a b → IsBack a_param a b (param y1 (ident s 0) (present y2) 0)
    go _ _ (a_part h1 e1 (a_word (a_word (at_last h2 e2)))) = back (the_param_default h1 h2) (rw (e1, e2) refl)

pub back_port : (s : List ℕ) (n1 : IsPrintable (Lexeme.Name s)) {v1 : List Lexeme} {y1 : Tree} → Respells a_type v1 y1 → Respells a_port (v1 ++ (Lexeme.Name s ∷ [])) (port y1 (ident s 0) 0)
back_port s n1 {v1 = v1} {y1 = y1} r1 = respells (r1, (n1, tt)) go
  where
    go : (a b : List Placed) → Reads (part a_type v1 y1 (word (Lexeme.Name s) done)) a b → IsBack a_port a b (port y1 (ident s 0) 0)
    go _ _ (a_part h1 e1 (a_word at_end)) = back (the_port h1) (rw e1 refl)

pub back_name : (s : List ℕ) (n1 : IsPrintable (Lexeme.Name s)) → Respells a_name (Lexeme.Name s ∷ []) (ident s 0)
back_name s n1 = respells (n1, tt) go
  where
    go : (a b : List Placed) → Reads (word (Lexeme.Name s) done) a b → IsBack a_name a b (ident s 0)
    go _ _ (a_word at_end) = back the_name refl

pub back_tag : {v1 : List Lexeme} {y1 : Tree} → Respells (separated dot a_name) v1 y1 → Respells a_tag v1 (tag y1 0)
back_tag {v1 = v1} {y1 = y1} r1 = respells r1 go
  where
    go : (a b : List Placed) → Reads (last (separated dot a_name) v1 y1) a b → IsBack a_tag a b (tag y1 0)
    go _ _ (at_last h1 e1) = back (the_tag h1) (rw e1 refl)
