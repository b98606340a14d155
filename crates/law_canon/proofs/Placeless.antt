-- Words and heights are those of the tree without its offsets.
use Rattle.std.proofs.Common.{◌≡◌, true, false, List, [], ◌∷◌, ◌++◌, if◌then◌else◌, refl, sym, ap, ◌∙◌}
use Rattle.cal_ast.specs.Tree.{Tree, absent, present, nil, cons, ident, tag, import_part, file, actor, unit, param, port, var, function, procedure, action, pattern, output, schedule, move, priority, type_of, shape_arg, value_arg, assign, call_stmt, if_stmt, while_stmt, foreach_stmt, block, number, truth, variable, call, paren, if_expr, list, comp, gen, index, prefix, binary}
use Rattle.cal_ast.specs.Apart.{unplaced}
use Rattle.cal_lexer.specs.Lexeme.{Lexeme}
use Rattle.cal_grammar.specs.Operators.{height}
use Rattle.cal_print.specs.Tokens.{word_of_prefix, word_of_binary, is_loose, paired, where_any, words, joined, following, each_place, each_chain, each_member, dotted, last_name, packaged, label, start_words, under}

-- what is computed of a tree without offsets is what is computed of the tree

loose-at : (x : Tree) → is_loose (unplaced x) ≡ is_loose x
loose-at absent = refl
loose-at _ = refl

paired-at : (x : Tree) → words (unplaced x) ≡ words x → paired (is_loose (unplaced x)) (words (unplaced x)) ≡ paired (is_loose x) (words x)
paired-at x e = ap (λ c. paired c (words (unplaced x))) (loose-at x) ∙ ap (paired (is_loose x)) e

any-at : (x : Tree) (ws : List Lexeme) → where_any (unplaced x) ws ≡ where_any x ws
any-at nil ws = refl
any-at _ ws = refl

where-at : (x : Tree) (f : List Lexeme → List Lexeme) {ws vs : List Lexeme} → ws ≡ vs → where_any (unplaced x) (f ws) ≡ where_any x (f vs)
where-at x f {ws = ws} {vs = vs} e = any-at x (f ws) ∙ ap (λ z. where_any x (f z)) e

member-at : (x xs : Tree) → words (unplaced x) ≡ words x → each_member (unplaced xs) ≡ each_member xs → each_member (unplaced (cons x xs)) ≡ each_member (cons x xs)
member-at (var shape name start changes at) xs e f = ap (λ z. z ++ (Lexeme.Semicolon ∷ each_member (unplaced xs))) e ∙ ap (λ z. words (var shape name start changes at) ++ (Lexeme.Semicolon ∷ z)) f
member-at (absent) xs e f = ap (λ z. z ++ each_member (unplaced xs)) e ∙ ap (λ z. words (absent) ++ z) f
member-at (present y) xs e f = ap (λ z. z ++ each_member (unplaced xs)) e ∙ ap (λ z. words (present y) ++ z) f
member-at (nil) xs e f = ap (λ z. z ++ each_member (unplaced xs)) e ∙ ap (λ z. words (nil) ++ z) f
member-at (cons y ys) xs e f = ap (λ z. z ++ each_member (unplaced xs)) e ∙ ap (λ z. words (cons y ys) ++ z) f
member-at (ident text at) xs e f = ap (λ z. z ++ each_member (unplaced xs)) e ∙ ap (λ z. words (ident text at) ++ z) f
member-at (tag parts at) xs e f = ap (λ z. z ++ each_member (unplaced xs)) e ∙ ap (λ z. words (tag parts at) ++ z) f
member-at (import_part path end at) xs e f = ap (λ z. z ++ each_member (unplaced xs)) e ∙ ap (λ z. words (import_part path end at) ++ z) f
member-at (file in_package imports body at) xs e f = ap (λ z. z ++ each_member (unplaced xs)) e ∙ ap (λ z. words (file in_package imports body at) ++ z) f
member-at (actor name params ins outs members at) xs e f = ap (λ z. z ++ each_member (unplaced xs)) e ∙ ap (λ z. words (actor name params ins outs members at) ++ z) f
member-at (unit name members at) xs e f = ap (λ z. z ++ each_member (unplaced xs)) e ∙ ap (λ z. words (unit name members at) ++ z) f
member-at (param shape name start at) xs e f = ap (λ z. z ++ each_member (unplaced xs)) e ∙ ap (λ z. words (param shape name start at) ++ z) f
member-at (port shape name at) xs e f = ap (λ z. z ++ each_member (unplaced xs)) e ∙ ap (λ z. words (port shape name at) ++ z) f
member-at (function name formals result vars body at) xs e f = ap (λ z. z ++ each_member (unplaced xs)) e ∙ ap (λ z. words (function name formals result vars body at) ++ z) f
member-at (procedure name formals vars body at) xs e f = ap (λ z. z ++ each_member (unplaced xs)) e ∙ ap (λ z. words (procedure name formals vars body at) ++ z) f
member-at (action name false patterns outputs guards vars body at) xs e f = ap (λ z. z ++ each_member (unplaced xs)) e ∙ ap (λ z. words (action name false patterns outputs guards vars body at) ++ z) f
member-at (action name true patterns outputs guards vars body at) xs e f = ap (λ z. z ++ each_member (unplaced xs)) e ∙ ap (λ z. words (action name true patterns outputs guards vars body at) ++ z) f
member-at (pattern from names repeat at) xs e f = ap (λ z. z ++ each_member (unplaced xs)) e ∙ ap (λ z. words (pattern from names repeat at) ++ z) f
member-at (output to values repeat at) xs e f = ap (λ z. z ++ each_member (unplaced xs)) e ∙ ap (λ z. words (output to values repeat at) ++ z) f
member-at (schedule start moves at) xs e f = ap (λ z. z ++ each_member (unplaced xs)) e ∙ ap (λ z. words (schedule start moves at) ++ z) f
member-at (move from tags to at) xs e f = ap (λ z. z ++ each_member (unplaced xs)) e ∙ ap (λ z. words (move from tags to at) ++ z) f
member-at (priority chains at) xs e f = ap (λ z. z ++ each_member (unplaced xs)) e ∙ ap (λ z. words (priority chains at) ++ z) f
member-at (type_of name args at) xs e f = ap (λ z. z ++ each_member (unplaced xs)) e ∙ ap (λ z. words (type_of name args at) ++ z) f
member-at (shape_arg name shape) xs e f = ap (λ z. z ++ each_member (unplaced xs)) e ∙ ap (λ z. words (shape_arg name shape) ++ z) f
member-at (value_arg name value) xs e f = ap (λ z. z ++ each_member (unplaced xs)) e ∙ ap (λ z. words (value_arg name value) ++ z) f
member-at (assign name places value at) xs e f = ap (λ z. z ++ each_member (unplaced xs)) e ∙ ap (λ z. words (assign name places value at) ++ z) f
member-at (call_stmt name args at) xs e f = ap (λ z. z ++ each_member (unplaced xs)) e ∙ ap (λ z. words (call_stmt name args at) ++ z) f
member-at (if_stmt test first other at) xs e f = ap (λ z. z ++ each_member (unplaced xs)) e ∙ ap (λ z. words (if_stmt test first other at) ++ z) f
member-at (while_stmt test body at) xs e f = ap (λ z. z ++ each_member (unplaced xs)) e ∙ ap (λ z. words (while_stmt test body at) ++ z) f
member-at (foreach_stmt shape name from to body at) xs e f = ap (λ z. z ++ each_member (unplaced xs)) e ∙ ap (λ z. words (foreach_stmt shape name from to body at) ++ z) f
member-at (block vars body at) xs e f = ap (λ z. z ++ each_member (unplaced xs)) e ∙ ap (λ z. words (block vars body at) ++ z) f
member-at (truth true at) xs e f = ap (λ z. z ++ each_member (unplaced xs)) e ∙ ap (λ z. words (truth true at) ++ z) f
member-at (truth false at) xs e f = ap (λ z. z ++ each_member (unplaced xs)) e ∙ ap (λ z. words (truth false at) ++ z) f
member-at (call name args at) xs e f = ap (λ z. z ++ each_member (unplaced xs)) e ∙ ap (λ z. words (call name args at) ++ z) f
member-at (paren inner at) xs e f = ap (λ z. z ++ each_member (unplaced xs)) e ∙ ap (λ z. words (paren inner at) ++ z) f
member-at (if_expr test first other at) xs e f = ap (λ z. z ++ each_member (unplaced xs)) e ∙ ap (λ z. words (if_expr test first other at) ++ z) f
member-at (list items at) xs e f = ap (λ z. z ++ each_member (unplaced xs)) e ∙ ap (λ z. words (list items at) ++ z) f
member-at (comp item gens at) xs e f = ap (λ z. z ++ each_member (unplaced xs)) e ∙ ap (λ z. words (comp item gens at) ++ z) f
member-at (gen shape name from to at) xs e f = ap (λ z. z ++ each_member (unplaced xs)) e ∙ ap (λ z. words (gen shape name from to at) ++ z) f
member-at (index base place at) xs e f = ap (λ z. z ++ each_member (unplaced xs)) e ∙ ap (λ z. words (index base place at) ++ z) f
member-at (prefix op operand at) xs e f = ap (λ z. z ++ each_member (unplaced xs)) e ∙ ap (λ z. words (prefix op operand at) ++ z) f
member-at (binary op left right at) xs e f = ap (λ z. z ++ each_member (unplaced xs)) e ∙ ap (λ z. words (binary op left right at) ++ z) f
member-at (number value at) xs e f = ap (λ z. z ++ each_member (unplaced xs)) e ∙ ap (λ z. words (number value at) ++ z) f
member-at (variable text at) xs e f = ap (λ z. z ++ each_member (unplaced xs)) e ∙ ap (λ z. words (variable text at) ++ z) f

mutual
  words-at : (x : Tree) → words (unplaced x) ≡ words x
  words-at absent = refl
  words-at nil = refl
  words-at (present x) = words-at x
  words-at (cons x xs) = ap (λ z. z ++ words (unplaced xs)) (words-at x) ∙ ap (λ z. words x ++ z) (words-at xs)
  words-at (ident text at) = refl
  words-at (tag parts at) = joined-at Lexeme.Dot parts
  words-at (import_part path end at) = ap (λ z. Lexeme.Import ∷ z ++ last_name (unplaced end) ++ (Lexeme.Semicolon ∷ [])) (dotted-at path) ∙ ap (λ z. Lexeme.Import ∷ dotted path ++ z ++ (Lexeme.Semicolon ∷ [])) (last_name-at end)
  words-at (file in_package imports body at) = ap (λ z. z ++ words (unplaced imports) ++ words (unplaced body)) (packaged-at in_package) ∙ ap (λ z. packaged in_package ++ z ++ words (unplaced body)) (words-at imports) ∙ ap (λ z. packaged in_package ++ words imports ++ z) (words-at body)
  words-at (actor name params ins outs members at) = ap (λ z. Lexeme.Actor ∷ z ++ (Lexeme.LeftParen ∷ joined Lexeme.Comma (unplaced params) ++ (Lexeme.RightParen ∷ joined Lexeme.Comma (unplaced ins) ++ (Lexeme.LongDoubleArrow ∷ joined Lexeme.Comma (unplaced outs) ++ (Lexeme.Colon ∷ each_member (unplaced members) ++ (Lexeme.End ∷ [])))))) (words-at name) ∙ ap (λ z. Lexeme.Actor ∷ words name ++ (Lexeme.LeftParen ∷ z ++ (Lexeme.RightParen ∷ joined Lexeme.Comma (unplaced ins) ++ (Lexeme.LongDoubleArrow ∷ joined Lexeme.Comma (unplaced outs) ++ (Lexeme.Colon ∷ each_member (unplaced members) ++ (Lexeme.End ∷ [])))))) (joined-at Lexeme.Comma params) ∙ ap (λ z. Lexeme.Actor ∷ words name ++ (Lexeme.LeftParen ∷ joined Lexeme.Comma params ++ (Lexeme.RightParen ∷ z ++ (Lexeme.LongDoubleArrow ∷ joined Lexeme.Comma (unplaced outs) ++ (Lexeme.Colon ∷ each_member (unplaced members) ++ (Lexeme.End ∷ [])))))) (joined-at Lexeme.Comma ins) ∙ ap (λ z. Lexeme.Actor ∷ words name ++ (Lexeme.LeftParen ∷ joined Lexeme.Comma params ++ (Lexeme.RightParen ∷ joined Lexeme.Comma ins ++ (Lexeme.LongDoubleArrow ∷ z ++ (Lexeme.Colon ∷ each_member (unplaced members) ++ (Lexeme.End ∷ [])))))) (joined-at Lexeme.Comma outs) ∙ ap (λ z. Lexeme.Actor ∷ words name ++ (Lexeme.LeftParen ∷ joined Lexeme.Comma params ++ (Lexeme.RightParen ∷ joined Lexeme.Comma ins ++ (Lexeme.LongDoubleArrow ∷ joined Lexeme.Comma outs ++ (Lexeme.Colon ∷ z ++ (Lexeme.End ∷ [])))))) (each_member-at members)
  words-at (unit name members at) = ap (λ z. Lexeme.Unit ∷ z ++ (Lexeme.Colon ∷ each_member (unplaced members) ++ (Lexeme.End ∷ []))) (words-at name) ∙ ap (λ z. Lexeme.Unit ∷ words name ++ (Lexeme.Colon ∷ z ++ (Lexeme.End ∷ []))) (each_member-at members)
  words-at (param shape name start at) = ap (λ z. z ++ words (unplaced name) ++ start_words Lexeme.Equal (unplaced start)) (words-at shape) ∙ ap (λ z. words shape ++ z ++ start_words Lexeme.Equal (unplaced start)) (words-at name) ∙ ap (λ z. words shape ++ words name ++ z) (start-at Lexeme.Equal start)
  words-at (port shape name at) = ap (λ z. z ++ words (unplaced name)) (words-at shape) ∙ ap (λ z. words shape ++ z) (words-at name)
  words-at (var shape name start changes at) = ap (λ z. z ++ words (unplaced name) ++ start_words (if changes then Lexeme.Assign else Lexeme.Equal) (unplaced start)) (words-at shape) ∙ ap (λ z. words shape ++ z ++ start_words (if changes then Lexeme.Assign else Lexeme.Equal) (unplaced start)) (words-at name) ∙ ap (λ z. words shape ++ words name ++ z) (start-at (if changes then Lexeme.Assign else Lexeme.Equal) start)
  words-at (function name formals result vars body at) = ap (λ z. Lexeme.Function ∷ z ++ (Lexeme.LeftParen ∷ joined Lexeme.Comma (unplaced formals) ++ (Lexeme.RightParen ∷ Lexeme.LongArrow ∷ words (unplaced result) ++ where_any (unplaced vars) (Lexeme.Var ∷ joined Lexeme.Comma (unplaced vars)) ++ (Lexeme.Colon ∷ words (unplaced body) ++ (Lexeme.End ∷ []))))) (words-at name) ∙ ap (λ z. Lexeme.Function ∷ words name ++ (Lexeme.LeftParen ∷ z ++ (Lexeme.RightParen ∷ Lexeme.LongArrow ∷ words (unplaced result) ++ where_any (unplaced vars) (Lexeme.Var ∷ joined Lexeme.Comma (unplaced vars)) ++ (Lexeme.Colon ∷ words (unplaced body) ++ (Lexeme.End ∷ []))))) (joined-at Lexeme.Comma formals) ∙ ap (λ z. Lexeme.Function ∷ words name ++ (Lexeme.LeftParen ∷ joined Lexeme.Comma formals ++ (Lexeme.RightParen ∷ Lexeme.LongArrow ∷ z ++ where_any (unplaced vars) (Lexeme.Var ∷ joined Lexeme.Comma (unplaced vars)) ++ (Lexeme.Colon ∷ words (unplaced body) ++ (Lexeme.End ∷ []))))) (words-at result) ∙ ap (λ z. Lexeme.Function ∷ words name ++ (Lexeme.LeftParen ∷ joined Lexeme.Comma formals ++ (Lexeme.RightParen ∷ Lexeme.LongArrow ∷ words result ++ z ++ (Lexeme.Colon ∷ words (unplaced body) ++ (Lexeme.End ∷ []))))) (where-at vars (λ zs. (Lexeme.Var ∷ zs)) (joined-at Lexeme.Comma vars)) ∙ ap (λ z. Lexeme.Function ∷ words name ++ (Lexeme.LeftParen ∷ joined Lexeme.Comma formals ++ (Lexeme.RightParen ∷ Lexeme.LongArrow ∷ words result ++ where_any vars (Lexeme.Var ∷ joined Lexeme.Comma vars) ++ (Lexeme.Colon ∷ z ++ (Lexeme.End ∷ []))))) (words-at body)
  words-at (procedure name formals vars body at) = ap (λ z. Lexeme.Procedure ∷ z ++ (Lexeme.LeftParen ∷ joined Lexeme.Comma (unplaced formals) ++ (Lexeme.RightParen ∷ where_any (unplaced vars) (Lexeme.Var ∷ joined Lexeme.Comma (unplaced vars)) ++ (Lexeme.Begin ∷ words (unplaced body) ++ (Lexeme.End ∷ []))))) (words-at name) ∙ ap (λ z. Lexeme.Procedure ∷ words name ++ (Lexeme.LeftParen ∷ z ++ (Lexeme.RightParen ∷ where_any (unplaced vars) (Lexeme.Var ∷ joined Lexeme.Comma (unplaced vars)) ++ (Lexeme.Begin ∷ words (unplaced body) ++ (Lexeme.End ∷ []))))) (joined-at Lexeme.Comma formals) ∙ ap (λ z. Lexeme.Procedure ∷ words name ++ (Lexeme.LeftParen ∷ joined Lexeme.Comma formals ++ (Lexeme.RightParen ∷ z ++ (Lexeme.Begin ∷ words (unplaced body) ++ (Lexeme.End ∷ []))))) (where-at vars (λ zs. (Lexeme.Var ∷ zs)) (joined-at Lexeme.Comma vars)) ∙ ap (λ z. Lexeme.Procedure ∷ words name ++ (Lexeme.LeftParen ∷ joined Lexeme.Comma formals ++ (Lexeme.RightParen ∷ where_any vars (Lexeme.Var ∷ joined Lexeme.Comma vars) ++ (Lexeme.Begin ∷ z ++ (Lexeme.End ∷ []))))) (words-at body)
  words-at (action name false patterns outputs guards vars body at) = ap (λ z. z ++ (Lexeme.Action ∷ joined Lexeme.Comma (unplaced patterns) ++ (Lexeme.LongDoubleArrow ∷ joined Lexeme.Comma (unplaced outputs) ++ where_any (unplaced guards) (Lexeme.Guard ∷ joined Lexeme.Comma (unplaced guards)) ++ where_any (unplaced vars) (Lexeme.Var ∷ joined Lexeme.Comma (unplaced vars)) ++ under Lexeme.Do (unplaced body) ++ (Lexeme.End ∷ [])))) (label-at name) ∙ ap (λ z. label name ++ (Lexeme.Action ∷ z ++ (Lexeme.LongDoubleArrow ∷ joined Lexeme.Comma (unplaced outputs) ++ where_any (unplaced guards) (Lexeme.Guard ∷ joined Lexeme.Comma (unplaced guards)) ++ where_any (unplaced vars) (Lexeme.Var ∷ joined Lexeme.Comma (unplaced vars)) ++ under Lexeme.Do (unplaced body) ++ (Lexeme.End ∷ [])))) (joined-at Lexeme.Comma patterns) ∙ ap (λ z. label name ++ (Lexeme.Action ∷ joined Lexeme.Comma patterns ++ (Lexeme.LongDoubleArrow ∷ z ++ where_any (unplaced guards) (Lexeme.Guard ∷ joined Lexeme.Comma (unplaced guards)) ++ where_any (unplaced vars) (Lexeme.Var ∷ joined Lexeme.Comma (unplaced vars)) ++ under Lexeme.Do (unplaced body) ++ (Lexeme.End ∷ [])))) (joined-at Lexeme.Comma outputs) ∙ ap (λ z. label name ++ (Lexeme.Action ∷ joined Lexeme.Comma patterns ++ (Lexeme.LongDoubleArrow ∷ joined Lexeme.Comma outputs ++ z ++ where_any (unplaced vars) (Lexeme.Var ∷ joined Lexeme.Comma (unplaced vars)) ++ under Lexeme.Do (unplaced body) ++ (Lexeme.End ∷ [])))) (where-at guards (λ zs. (Lexeme.Guard ∷ zs)) (joined-at Lexeme.Comma guards)) ∙ ap (λ z. label name ++ (Lexeme.Action ∷ joined Lexeme.Comma patterns ++ (Lexeme.LongDoubleArrow ∷ joined Lexeme.Comma outputs ++ where_any guards (Lexeme.Guard ∷ joined Lexeme.Comma guards) ++ z ++ under Lexeme.Do (unplaced body) ++ (Lexeme.End ∷ [])))) (where-at vars (λ zs. (Lexeme.Var ∷ zs)) (joined-at Lexeme.Comma vars)) ∙ ap (λ z. label name ++ (Lexeme.Action ∷ joined Lexeme.Comma patterns ++ (Lexeme.LongDoubleArrow ∷ joined Lexeme.Comma outputs ++ where_any guards (Lexeme.Guard ∷ joined Lexeme.Comma guards) ++ where_any vars (Lexeme.Var ∷ joined Lexeme.Comma vars) ++ z ++ (Lexeme.End ∷ [])))) (under-at Lexeme.Do body)
  words-at (action name true patterns outputs guards vars body at) = ap (λ z. z ++ (Lexeme.Initialize ∷ Lexeme.LongDoubleArrow ∷ joined Lexeme.Comma (unplaced outputs) ++ where_any (unplaced guards) (Lexeme.Guard ∷ joined Lexeme.Comma (unplaced guards)) ++ where_any (unplaced vars) (Lexeme.Var ∷ joined Lexeme.Comma (unplaced vars)) ++ under Lexeme.Do (unplaced body) ++ (Lexeme.End ∷ []))) (label-at name) ∙ ap (λ z. label name ++ (Lexeme.Initialize ∷ Lexeme.LongDoubleArrow ∷ z ++ where_any (unplaced guards) (Lexeme.Guard ∷ joined Lexeme.Comma (unplaced guards)) ++ where_any (unplaced vars) (Lexeme.Var ∷ joined Lexeme.Comma (unplaced vars)) ++ under Lexeme.Do (unplaced body) ++ (Lexeme.End ∷ []))) (joined-at Lexeme.Comma outputs) ∙ ap (λ z. label name ++ (Lexeme.Initialize ∷ Lexeme.LongDoubleArrow ∷ joined Lexeme.Comma outputs ++ z ++ where_any (unplaced vars) (Lexeme.Var ∷ joined Lexeme.Comma (unplaced vars)) ++ under Lexeme.Do (unplaced body) ++ (Lexeme.End ∷ []))) (where-at guards (λ zs. (Lexeme.Guard ∷ zs)) (joined-at Lexeme.Comma guards)) ∙ ap (λ z. label name ++ (Lexeme.Initialize ∷ Lexeme.LongDoubleArrow ∷ joined Lexeme.Comma outputs ++ where_any guards (Lexeme.Guard ∷ joined Lexeme.Comma guards) ++ z ++ under Lexeme.Do (unplaced body) ++ (Lexeme.End ∷ []))) (where-at vars (λ zs. (Lexeme.Var ∷ zs)) (joined-at Lexeme.Comma vars)) ∙ ap (λ z. label name ++ (Lexeme.Initialize ∷ Lexeme.LongDoubleArrow ∷ joined Lexeme.Comma outputs ++ where_any guards (Lexeme.Guard ∷ joined Lexeme.Comma guards) ++ where_any vars (Lexeme.Var ∷ joined Lexeme.Comma vars) ++ z ++ (Lexeme.End ∷ []))) (under-at Lexeme.Do body)
  words-at (pattern from names repeat at) = ap (λ z. z ++ (Lexeme.LeftBracket ∷ joined Lexeme.Comma (unplaced names) ++ (Lexeme.RightBracket ∷ under Lexeme.Repeat (unplaced repeat)))) (label-at from) ∙ ap (λ z. label from ++ (Lexeme.LeftBracket ∷ z ++ (Lexeme.RightBracket ∷ under Lexeme.Repeat (unplaced repeat)))) (joined-at Lexeme.Comma names) ∙ ap (λ z. label from ++ (Lexeme.LeftBracket ∷ joined Lexeme.Comma names ++ (Lexeme.RightBracket ∷ z))) (under-at Lexeme.Repeat repeat)
  words-at (output to values repeat at) = ap (λ z. z ++ (Lexeme.LeftBracket ∷ joined Lexeme.Comma (unplaced values) ++ (Lexeme.RightBracket ∷ under Lexeme.Repeat (unplaced repeat)))) (label-at to) ∙ ap (λ z. label to ++ (Lexeme.LeftBracket ∷ z ++ (Lexeme.RightBracket ∷ under Lexeme.Repeat (unplaced repeat)))) (joined-at Lexeme.Comma values) ∙ ap (λ z. label to ++ (Lexeme.LeftBracket ∷ joined Lexeme.Comma values ++ (Lexeme.RightBracket ∷ z))) (under-at Lexeme.Repeat repeat)
  words-at (schedule start moves at) = ap (λ z. Lexeme.Schedule ∷ Lexeme.Fsm ∷ z ++ (Lexeme.Colon ∷ words (unplaced moves) ++ (Lexeme.End ∷ []))) (words-at start) ∙ ap (λ z. Lexeme.Schedule ∷ Lexeme.Fsm ∷ words start ++ (Lexeme.Colon ∷ z ++ (Lexeme.End ∷ []))) (words-at moves)
  words-at (move from tags to at) = ap (λ z. z ++ (Lexeme.LeftParen ∷ joined Lexeme.Comma (unplaced tags) ++ (Lexeme.RightParen ∷ Lexeme.LongArrow ∷ words (unplaced to) ++ (Lexeme.Semicolon ∷ [])))) (words-at from) ∙ ap (λ z. words from ++ (Lexeme.LeftParen ∷ z ++ (Lexeme.RightParen ∷ Lexeme.LongArrow ∷ words (unplaced to) ++ (Lexeme.Semicolon ∷ [])))) (joined-at Lexeme.Comma tags) ∙ ap (λ z. words from ++ (Lexeme.LeftParen ∷ joined Lexeme.Comma tags ++ (Lexeme.RightParen ∷ Lexeme.LongArrow ∷ z ++ (Lexeme.Semicolon ∷ [])))) (words-at to)
  words-at (priority chains at) = ap (λ z. Lexeme.Priority ∷ z ++ (Lexeme.End ∷ [])) (each_chain-at chains)
  words-at (type_of name args at) = ap (λ z. z ++ where_any (unplaced args) (Lexeme.LeftParen ∷ joined Lexeme.Comma (unplaced args) ++ (Lexeme.RightParen ∷ []))) (words-at name) ∙ ap (λ z. words name ++ z) (where-at args (λ zs. (Lexeme.LeftParen ∷ zs ++ (Lexeme.RightParen ∷ []))) (joined-at Lexeme.Comma args))
  words-at (shape_arg name shape) = ap (λ z. z ++ (Lexeme.Colon ∷ words (unplaced shape))) (words-at name) ∙ ap (λ z. words name ++ (Lexeme.Colon ∷ z)) (words-at shape)
  words-at (value_arg name value) = ap (λ z. z ++ (Lexeme.Equal ∷ words (unplaced value))) (words-at name) ∙ ap (λ z. words name ++ (Lexeme.Equal ∷ z)) (words-at value)
  words-at (assign name places value at) = ap (λ z. z ++ each_place (unplaced places) ++ (Lexeme.Assign ∷ words (unplaced value) ++ (Lexeme.Semicolon ∷ []))) (words-at name) ∙ ap (λ z. words name ++ z ++ (Lexeme.Assign ∷ words (unplaced value) ++ (Lexeme.Semicolon ∷ []))) (each_place-at places) ∙ ap (λ z. words name ++ each_place places ++ (Lexeme.Assign ∷ z ++ (Lexeme.Semicolon ∷ []))) (words-at value)
  words-at (call_stmt name args at) = ap (λ z. z ++ (Lexeme.LeftParen ∷ joined Lexeme.Comma (unplaced args) ++ (Lexeme.RightParen ∷ Lexeme.Semicolon ∷ []))) (words-at name) ∙ ap (λ z. words name ++ (Lexeme.LeftParen ∷ z ++ (Lexeme.RightParen ∷ Lexeme.Semicolon ∷ []))) (joined-at Lexeme.Comma args)
  words-at (if_stmt test first other at) = ap (λ z. Lexeme.If ∷ z ++ (Lexeme.Then ∷ words (unplaced first) ++ under Lexeme.Else (unplaced other) ++ (Lexeme.End ∷ []))) (words-at test) ∙ ap (λ z. Lexeme.If ∷ words test ++ (Lexeme.Then ∷ z ++ under Lexeme.Else (unplaced other) ++ (Lexeme.End ∷ []))) (words-at first) ∙ ap (λ z. Lexeme.If ∷ words test ++ (Lexeme.Then ∷ words first ++ z ++ (Lexeme.End ∷ []))) (under-at Lexeme.Else other)
  words-at (while_stmt test body at) = ap (λ z. Lexeme.While ∷ z ++ (Lexeme.Do ∷ words (unplaced body) ++ (Lexeme.End ∷ []))) (words-at test) ∙ ap (λ z. Lexeme.While ∷ words test ++ (Lexeme.Do ∷ z ++ (Lexeme.End ∷ []))) (words-at body)
  words-at (foreach_stmt shape name from to body at) = ap (λ z. Lexeme.Foreach ∷ z ++ words (unplaced name) ++ (Lexeme.In ∷ words (unplaced from) ++ (Lexeme.DotDot ∷ words (unplaced to) ++ (Lexeme.Do ∷ words (unplaced body) ++ (Lexeme.End ∷ []))))) (words-at shape) ∙ ap (λ z. Lexeme.Foreach ∷ words shape ++ z ++ (Lexeme.In ∷ words (unplaced from) ++ (Lexeme.DotDot ∷ words (unplaced to) ++ (Lexeme.Do ∷ words (unplaced body) ++ (Lexeme.End ∷ []))))) (words-at name) ∙ ap (λ z. Lexeme.Foreach ∷ words shape ++ words name ++ (Lexeme.In ∷ z ++ (Lexeme.DotDot ∷ words (unplaced to) ++ (Lexeme.Do ∷ words (unplaced body) ++ (Lexeme.End ∷ []))))) (words-at from) ∙ ap (λ z. Lexeme.Foreach ∷ words shape ++ words name ++ (Lexeme.In ∷ words from ++ (Lexeme.DotDot ∷ z ++ (Lexeme.Do ∷ words (unplaced body) ++ (Lexeme.End ∷ []))))) (words-at to) ∙ ap (λ z. Lexeme.Foreach ∷ words shape ++ words name ++ (Lexeme.In ∷ words from ++ (Lexeme.DotDot ∷ words to ++ (Lexeme.Do ∷ z ++ (Lexeme.End ∷ []))))) (words-at body)
  words-at (block vars body at) = ap (λ z. Lexeme.Begin ∷ z ++ words (unplaced body) ++ (Lexeme.End ∷ [])) (where-at vars (λ zs. (Lexeme.Var ∷ zs ++ (Lexeme.Do ∷ []))) (joined-at Lexeme.Comma vars)) ∙ ap (λ z. Lexeme.Begin ∷ where_any vars (Lexeme.Var ∷ joined Lexeme.Comma vars ++ (Lexeme.Do ∷ [])) ++ z ++ (Lexeme.End ∷ [])) (words-at body)
  words-at (truth true at) = refl
  words-at (truth false at) = refl
  words-at (call name args at) = ap (λ z. Lexeme.Name name ∷ Lexeme.LeftParen ∷ z ++ (Lexeme.RightParen ∷ [])) (joined-at Lexeme.Comma args)
  words-at (paren inner at) = ap (λ z. Lexeme.LeftParen ∷ z ++ (Lexeme.RightParen ∷ [])) (words-at inner)
  words-at (if_expr test first other at) = ap (λ z. Lexeme.If ∷ z ++ (Lexeme.Then ∷ words (unplaced first) ++ (Lexeme.Else ∷ words (unplaced other) ++ (Lexeme.End ∷ [])))) (words-at test) ∙ ap (λ z. Lexeme.If ∷ words test ++ (Lexeme.Then ∷ z ++ (Lexeme.Else ∷ words (unplaced other) ++ (Lexeme.End ∷ [])))) (words-at first) ∙ ap (λ z. Lexeme.If ∷ words test ++ (Lexeme.Then ∷ words first ++ (Lexeme.Else ∷ z ++ (Lexeme.End ∷ [])))) (words-at other)
  words-at (list items at) = ap (λ z. Lexeme.LeftBracket ∷ z ++ (Lexeme.RightBracket ∷ [])) (joined-at Lexeme.Comma items)
  words-at (comp item gens at) = ap (λ z. Lexeme.LeftBracket ∷ z ++ (Lexeme.Colon ∷ joined Lexeme.Comma (unplaced gens) ++ (Lexeme.RightBracket ∷ []))) (words-at item) ∙ ap (λ z. Lexeme.LeftBracket ∷ words item ++ (Lexeme.Colon ∷ z ++ (Lexeme.RightBracket ∷ []))) (joined-at Lexeme.Comma gens)
  words-at (gen shape name from to at) = ap (λ z. Lexeme.For ∷ z ++ words (unplaced name) ++ (Lexeme.In ∷ words (unplaced from) ++ (Lexeme.DotDot ∷ words (unplaced to)))) (words-at shape) ∙ ap (λ z. Lexeme.For ∷ words shape ++ z ++ (Lexeme.In ∷ words (unplaced from) ++ (Lexeme.DotDot ∷ words (unplaced to)))) (words-at name) ∙ ap (λ z. Lexeme.For ∷ words shape ++ words name ++ (Lexeme.In ∷ z ++ (Lexeme.DotDot ∷ words (unplaced to)))) (words-at from) ∙ ap (λ z. Lexeme.For ∷ words shape ++ words name ++ (Lexeme.In ∷ words from ++ (Lexeme.DotDot ∷ z))) (words-at to)
  words-at (index base place at) = ap (λ z. z ++ (Lexeme.LeftBracket ∷ words (unplaced place) ++ (Lexeme.RightBracket ∷ []))) (paired-at base (words-at base)) ∙ ap (λ z. paired (is_loose base) (words base) ++ (Lexeme.LeftBracket ∷ z ++ (Lexeme.RightBracket ∷ []))) (words-at place)
  words-at (prefix op operand at) = ap (λ z. word_of_prefix op ∷ z) (paired-at operand (words-at operand))
  words-at (binary op left right at) = ap (λ z. z ++ (word_of_binary op ∷ paired (is_loose (unplaced right)) (words (unplaced right)))) (paired-at left (words-at left)) ∙ ap (λ z. paired (is_loose left) (words left) ++ (word_of_binary op ∷ z)) (paired-at right (words-at right))
  words-at (number value at) = refl
  words-at (variable text at) = refl

  joined-at : (m : Lexeme) (x : Tree) → joined m (unplaced x) ≡ joined m x
  joined-at m (cons x xs) = ap (λ z. z ++ following m (unplaced xs)) (words-at x) ∙ ap (λ z. words x ++ z) (following-at m xs)
  joined-at m _ = refl

  following-at : (m : Lexeme) (x : Tree) → following m (unplaced x) ≡ following m x
  following-at m (cons x xs) = ap (λ z. m ∷ z ++ following m (unplaced xs)) (words-at x) ∙ ap (λ z. m ∷ words x ++ z) (following-at m xs)
  following-at m _ = refl

  each_place-at : (x : Tree) → each_place (unplaced x) ≡ each_place x
  each_place-at (cons x xs) = ap (λ z. Lexeme.LeftBracket ∷ z ++ (Lexeme.RightBracket ∷ each_place (unplaced xs))) (words-at x) ∙ ap (λ z. Lexeme.LeftBracket ∷ words x ++ (Lexeme.RightBracket ∷ z)) (each_place-at xs)
  each_place-at _ = refl

  each_chain-at : (x : Tree) → each_chain (unplaced x) ≡ each_chain x
  each_chain-at (cons x xs) = ap (λ z. z ++ (Lexeme.Semicolon ∷ each_chain (unplaced xs))) (joined-at Lexeme.Greater x) ∙ ap (λ z. joined Lexeme.Greater x ++ (Lexeme.Semicolon ∷ z)) (each_chain-at xs)
  each_chain-at _ = refl

  each_member-at : (x : Tree) → each_member (unplaced x) ≡ each_member x
  each_member-at (cons x xs) = member-at x xs (words-at x) (each_member-at xs)
  each_member-at _ = refl

  dotted-at : (x : Tree) → dotted (unplaced x) ≡ dotted x
  dotted-at (cons x xs) = ap (λ z. z ++ (Lexeme.Dot ∷ dotted (unplaced xs))) (words-at x) ∙ ap (λ z. words x ++ (Lexeme.Dot ∷ z)) (dotted-at xs)
  dotted-at _ = refl

  last_name-at : (x : Tree) → last_name (unplaced x) ≡ last_name x
  last_name-at (present x) = words-at x
  last_name-at _ = refl

  packaged-at : (x : Tree) → packaged (unplaced x) ≡ packaged x
  packaged-at (present x) = ap (λ z. Lexeme.Package ∷ z ++ (Lexeme.Semicolon ∷ [])) (words-at x)
  packaged-at _ = refl

  label-at : (x : Tree) → label (unplaced x) ≡ label x
  label-at (present x) = ap (λ z. z ++ (Lexeme.Colon ∷ [])) (words-at x)
  label-at _ = refl

  start-at : (sign : Lexeme) (x : Tree) → start_words sign (unplaced x) ≡ start_words sign x
  start-at sign (present x) = ap (λ z. sign ∷ z) (words-at x)
  start-at sign _ = refl

  under-at : (w : Lexeme) (x : Tree) → under w (unplaced x) ≡ under w x
  under-at w (present x) = ap (λ z. w ∷ z) (words-at x)
  under-at w _ = refl

-- the height of a tree is that of the tree without offsets

height-at : (x : Tree) → height (unplaced x) ≡ height x
height-at absent = refl
height-at (present t) = rw (height-at t) refl
height-at nil = refl
height-at (cons t u) = rw (height-at t, height-at u) refl
height-at (ident text at) = refl
height-at (tag parts at) = refl
height-at (import_part path end at) = refl
height-at (file in_package imports body at) = rw (height-at body) refl
height-at (actor nm params ins outs members at) = rw (height-at params, height-at ins, height-at outs, height-at members) refl
height-at (unit nm members at) = rw (height-at members) refl
height-at (param shape nm start at) = rw (height-at shape, height-at start) refl
height-at (port shape nm at) = rw (height-at shape) refl
height-at (var shape nm start changes at) = rw (height-at shape, height-at start) refl
height-at (function nm formals result vars body at) = rw (height-at formals, height-at result, height-at vars, height-at body) refl
height-at (procedure nm formals vars body at) = rw (height-at formals, height-at vars, height-at body) refl
height-at (action t initialize patterns outputs guards vars body at) = rw (height-at patterns, height-at outputs, height-at guards, height-at vars, height-at body) refl
height-at (pattern from names repeat at) = rw (height-at repeat) refl
height-at (output to values repeat at) = rw (height-at values, height-at repeat) refl
height-at (schedule start moves at) = refl
height-at (move from tags to at) = refl
height-at (priority chains at) = refl
height-at (type_of nm args at) = rw (height-at args) refl
height-at (shape_arg nm shape) = rw (height-at shape) refl
height-at (value_arg nm value) = rw (height-at value) refl
height-at (assign nm places value at) = rw (height-at places, height-at value) refl
height-at (call_stmt nm args at) = rw (height-at args) refl
height-at (if_stmt test first other at) = rw (height-at test, height-at first, height-at other) refl
height-at (while_stmt test body at) = rw (height-at test, height-at body) refl
height-at (foreach_stmt shape nm from to body at) = rw (height-at shape, height-at from, height-at to, height-at body) refl
height-at (block vars body at) = rw (height-at vars, height-at body) refl
height-at (number value at) = refl
height-at (truth value at) = refl
height-at (variable text at) = refl
height-at (call nm args at) = rw (height-at args) refl
height-at (paren inner at) = rw (height-at inner) refl
height-at (if_expr test first other at) = rw (height-at test, height-at first, height-at other) refl
height-at (list items at) = rw (height-at items) refl
height-at (comp item gens at) = rw (height-at item, height-at gens) refl
height-at (gen shape nm from to at) = rw (height-at shape, height-at from, height-at to) refl
height-at (index base i at) = rw (height-at base, height-at i) refl
height-at (prefix op operand at) = rw (height-at operand) refl
height-at (binary op left right at) = rw (height-at left, height-at right) refl

-- for trees that are equal, ignoring offsets

pub same_words : (x y : Tree) → unplaced x ≡ unplaced y → words x ≡ words y
same_words x y e = sym (words-at x) ∙ ap words e ∙ words-at y

pub same_height : (x y : Tree) → unplaced x ≡ unplaced y → height x ≡ height y
same_height x y e = sym (height-at x) ∙ ap height e ∙ height-at y
