-- What is spelled is spelled again by its own words, ignoring offsets.
use Rattle.std.proofs.Common.{◌≡◌, ℕ, Bool, true, false, List, [], ◌∷◌, ◌++◌, refl, sym, ap, ◌∙◌}
use Rattle.std.proofs.lemmas.List.{append_assoc, append-nil}
use Rattle.cal_ast.specs.Tree.{Tree, absent, present, nil, cons, ident, import_part, file, action, if_stmt, block, number, truth, variable, call, list, comp}
use Rattle.cal_ast.specs.Apart.{unplaced}
use Rattle.cal_ast.specs.Places.{begins}
use Rattle.cal_lexer.specs.Lexeme.{Lexeme, Placed}
use Rattle.cal_grammar.specs.Operators.{with_tag, onto, import_at, with_package}
use Rattle.cal_grammar.specs.Spells.{Mark, mark, Part, Spells, separated, rest, any, repeated, level, a_postfix, a_primary, a_tag, a_stmt, otherwise, an_action, a_labelled, a_path, an_import, some_imports, a_file, an_expr, the_separated, the_last, the_more, the_none, the_some, the_end, the_again, the_binary, the_tighter, the_prefix, the_postfix, the_index, the_primary, the_number, the_true, the_false, the_variable, the_call, the_pair, the_if, the_list, the_comp, the_gen, the_type, the_type_with, the_shape_arg, the_value_arg, the_var, the_var_changing, the_var_constant, the_no_vars, the_vars, the_param, the_param_default, the_port, the_name, the_tag, the_place, the_assign, the_call_stmt, the_if_stmt, the_while, the_foreach, the_block, the_block_with, the_if_end, the_else, the_elsif, the_function, the_procedure, the_no_guards, the_guards, the_no_repeat, the_repeat, the_no_body, the_body, the_in, the_in_at, the_out, the_out_at, the_action, the_initialize, the_unlabelled, the_labelled, the_move, the_schedule, the_chain, the_priority, the_var_member, the_function_member, the_procedure_member, the_action_member, the_priority_member, the_no_members, the_member, the_schedule_member, the_unit_var, the_unit_function, the_path_name, the_path_all, the_path_on, the_import, the_actor, the_unit, the_actor_file, the_unit_file, the_file, the_package_file}
use Rattle.law_canon.specs.Printable.{IsPrintable, ArePrintable, kinds}
use Rattle.cal_print.specs.Tokens.{words, joined, each_member, where_any, under}
use Rattle.law_canon.proofs.Phrases.{Respells}
use Rattle.law_canon.proofs.Said.{said, joined_by, path_words, said_joined, said_each, said_places, said_chains, said_units, said_member, said_var, said_function, said_procedure, said_priority, said_schedule, said_labelled, some_of, following_of, is_untagged, untagged, is_import, path_is, is_unpackaged, unpackaged}
use Rattle.law_canon.proofs.Operands.{IsOperand, passes, as_said, level_said, primary_operand, binary_operand, prefix_operand, if_operand, index_operand, group_operand}
use Rattle.law_canon.proofs.RespelledExpressions.{back_separated, back_last, back_more, back_none, back_end, back_again, back_number, back_true, back_false, back_variable, back_call, back_list, back_comp, back_gen, back_type, back_type_with, back_shape_arg, back_value_arg, back_var, back_var_changing, back_var_constant, back_no_vars, back_vars, back_param, back_param_default, back_port, back_name, back_tag}
use Rattle.law_canon.proofs.RespelledStatements.{back_place, back_assign, back_call_stmt, back_if_stmt, back_while, back_foreach, back_block, back_block_with, back_if_end, back_else}
use Rattle.law_canon.proofs.RespelledMembers.{back_function, back_procedure, back_no_guards, back_guards, back_no_repeat, back_repeat, back_no_body, back_body, back_in, back_in_at, back_out, back_out_at, back_action, back_initialize, back_labelled, back_move, back_schedule, back_chain, back_priority, back_var_member, back_unit_var, back_no_members, back_member, back_schedule_member}
use Rattle.law_canon.proofs.RespelledFiles.{back_path_name, back_path_all, back_path_on, back_import, back_actor, back_unit, back_actor_file, back_unit_file, back_package_file}

-- expressions, whose words depend on what they stand in
abbrev pub is_expression : Part → Bool
is_expression (level n) = true
is_expression a_postfix = true
is_expression a_primary = true
is_expression _ = false

-- what stands within expressions alone, and lists of it, which no production has
abbrev pub is_inner : Part → Bool
is_inner (separated v p) = is_inner p
is_inner (rest v p) = is_inner p
is_inner (any v p) = is_inner p
is_inner (repeated p) = is_inner p
is_inner a_postfix = true
is_inner a_primary = true
is_inner _ = false

-- the words of the tree as this part spell it, and those of an expression do as an operand too; a text can have them,
-- and what is left
pub record IsRespelled (p : Part) (b : List Placed) (x : Tree) : Type 0 where
  pub left : ArePrintable (kinds b)
  pub as_part : is_inner p ≡ false → Respells p (said p x) (unplaced x)
  pub as_operand : is_expression p ≡ true → IsOperand x

-- a list, a part that is no expression, and expressions

a_list : {p : Part} {b : List Placed} {x : Tree} → is_expression p ≡ false → ArePrintable (kinds b) → (is_inner p ≡ false → Respells p (said p x) (unplaced x)) → IsRespelled p b x
a_list e l h = record { left = l; as_part = h; as_operand = λ f. absurd cc }

plain : {p : Part} {b : List Placed} {x : Tree} → is_expression p ≡ false → ArePrintable (kinds b) → Respells p (said p x) (unplaced x) → IsRespelled p b x
plain e l h = record { left = l; as_part = λ f. h; as_operand = λ f. absurd cc }

leveled : {n : ℕ} {b : List Placed} {x : Tree} → ArePrintable (kinds b) → IsOperand x → IsRespelled (level n) b x
leveled {n = n} {x = x} l h = record { left = l; as_part = λ f. level_said n x h; as_operand = λ f. h }

postfix : {b : List Placed} {x : Tree} → ArePrintable (kinds b) → IsOperand x → IsRespelled a_postfix b x
postfix l h = record { left = l; as_part = λ f. absurd cc; as_operand = λ f. h }

primary : {b : List Placed} {x : Tree} → ArePrintable (kinds b) → IsOperand x → IsRespelled a_primary b x
primary l h = record { left = l; as_part = λ f. absurd cc; as_operand = λ f. h }

-- lists by their words

listed : (r : Part) (v : Mark) (p : Part) (xs : Tree) → ((x : Tree) → said p x ≡ words x) → Respells r (joined_by (said p) (mark v) xs) (unplaced xs) → Respells r (joined (mark v) xs) (unplaced xs)
listed r v p xs e h = as_said (said_joined v p e xs) h

some : {v : Mark} {p : Part} {b : List Placed} {xs : Tree} → ((x : Tree) → said p x ≡ words x) → is_inner p ≡ false → IsRespelled (separated v p) b xs → Respells (separated v p) (joined (mark v) xs) (unplaced xs)
some {v = v} {p = p} {xs = xs} e f h = listed (separated v p) v p xs e (h.as_part f)

any_of : {v : Mark} {p : Part} {b : List Placed} {xs : Tree} → ((x : Tree) → said p x ≡ words x) → is_inner p ≡ false → IsRespelled (any v p) b xs → Respells (any v p) (joined (mark v) xs) (unplaced xs)
any_of {v = v} {p = p} {xs = xs} e f h = listed (any v p) v p xs e (h.as_part f)

each : {p : Part} {a b : List Placed} {xs : Tree} → Spells (repeated p) a b xs → ((x : Tree) → said p x ≡ words x) → is_inner p ≡ false → IsRespelled (repeated p) b xs → Respells (repeated p) (words xs) (unplaced xs)
each s e f h = as_said (said_each s e) (h.as_part f)

stmts : {a b : List Placed} {xs : Tree} → Spells (repeated a_stmt) a b xs → IsRespelled (repeated a_stmt) b xs → Respells (repeated a_stmt) (words xs) (unplaced xs)
stmts s h = each s (λ x. refl) refl h

-- `as_said` with the equation behind what it changes
turned : {p : Part} {ws vs : List Lexeme} {y : Tree} → Respells p ws y → ws ≡ vs → Respells p vs y
turned h e = as_said e h

-- an `elsif` is an `if` alone in an `else`
elsif : (x ys z : Tree) (q : ℕ) → Respells a_stmt (words (if_stmt x ys z q)) (unplaced (if_stmt x ys z q)) → Respells otherwise (said otherwise (present (cons (if_stmt x ys z q) nil))) (present (cons (unplaced (if_stmt x ys z q)) nil))
elsif x ys z q h = back_else (back_again h (back_end a_stmt))

if_words : (x ys z : Tree) (q : ℕ) → Respells an_expr (words x) (unplaced x) → Respells (repeated a_stmt) (words ys) (unplaced ys) → Respells otherwise (said otherwise z) (unplaced z) → Respells a_stmt (words (if_stmt x ys z q)) (unplaced (if_stmt x ys z q))
if_words x ys z q h i j = turned (back_if_stmt h i j) (ap (λ ws. Lexeme.If ∷ words x ++ (Lexeme.Then ∷ ws)) (sym (append_assoc (words ys) (under Lexeme.Else z) (Lexeme.End ∷ []))))

block_words : (xs ys : Tree) → where_any xs (Lexeme.Var ∷ joined Lexeme.Comma xs ++ (Lexeme.Do ∷ [])) ≡ Lexeme.Var ∷ joined Lexeme.Comma xs ++ (Lexeme.Do ∷ [])
    → Lexeme.Begin ∷ Lexeme.Var ∷ joined Lexeme.Comma xs ++ (Lexeme.Do ∷ words ys ++ (Lexeme.End ∷ [])) ≡ words (block xs ys 0)
block_words xs ys e =
    let vs : List Lexeme = joined Lexeme.Comma xs in
    let flat : Lexeme.Var ∷ vs ++ (Lexeme.Do ∷ words ys ++ (Lexeme.End ∷ [])) ≡ (Lexeme.Var ∷ vs ++ (Lexeme.Do ∷ [])) ++ words ys ++ (Lexeme.End ∷ []) = rw (append_assoc vs (Lexeme.Do ∷ []) (words ys), append_assoc vs (Lexeme.Do ∷ words ys) (Lexeme.End ∷ [])) refl in
    ap (λ ws. Lexeme.Begin ∷ ws) (flat ∙ ap (λ ws. ws ++ words ys ++ (Lexeme.End ∷ [])) (sym e))

-- an action under a tag, an import, and a file in a package

labelled : (t x : Tree) → is_untagged x ≡ true → Respells a_tag (words t) (unplaced t) → Respells an_action (words x) (unplaced x) → Respells a_labelled (words (with_tag t x)) (unplaced (with_tag t x))
labelled t (action absent false patterns outputs guards vars body at) e h i = turned (back_labelled false h i) (sym (append_assoc (words t) (Lexeme.Colon ∷ []) (words (action absent false patterns outputs guards vars body at))))
labelled t (action absent true patterns outputs guards vars body at) e h i = turned (back_labelled true h i) (sym (append_assoc (words t) (Lexeme.Colon ∷ []) (words (action absent true patterns outputs guards vars body at))))
labelled t _ e h i = absurd cc

path_on : (s : List ℕ) (r : ℕ) (n : IsPrintable (Lexeme.Name s)) (x : Tree) → is_import x ≡ true → Respells a_path (path_words x) (unplaced x) → Respells a_path (path_words (onto (ident s r) x)) (unplaced (onto (ident s r) x))
path_on s r n (import_part path end at) e h = back_path_on s n h
path_on s r n _ e h = absurd cc

an_import_of : (s : List ℕ) (q r : ℕ) (n : IsPrintable (Lexeme.Name s)) (x : Tree) → is_import x ≡ true → Respells a_path (path_words x) (unplaced x) → Respells an_import (words (import_at q (onto (ident s r) x))) (unplaced (import_at q (onto (ident s r) x)))
an_import_of s q r n (import_part path end at) e h = back_import s n h
an_import_of s q r n _ e h = absurd cc

packaged_file : (q : ℕ) (t x : Tree) → is_unpackaged x ≡ true → Respells a_tag (words t) (unplaced t) → Respells some_imports (words x) (unplaced x) → Respells a_file (words (with_package q t x)) (unplaced (with_package q t x))
packaged_file q t (file absent imports body at) e h i = turned (back_package_file h i) (ap (λ ws. Lexeme.Package ∷ ws) (rw (append_assoc (words t) (Lexeme.Semicolon ∷ []) (words imports), append_assoc (words t) (Lexeme.Semicolon ∷ words imports) (words body)) refl))
packaged_file q t _ e h i = absurd cc

-- the induction

pub respelled : {p : Part} {a b : List Placed} {x : Tree} → Spells p a b x → ArePrintable (kinds a) → IsRespelled p b x
respelled (the_separated h i) c = let r1 = respelled h c in let r2 = respelled i r1.left in a_list refl r2.left (λ f. back_separated (r1.as_part f) (r2.as_part f))
respelled (the_last {v = v} {p = p}) c = a_list refl c (λ f. back_last v p)
respelled (the_more {v = v} {p = p} (the_separated h i)) c = let r1 = respelled h c.1 in let r2 = respelled i r1.left in a_list refl r2.left (λ f. back_more (back_separated {v = v} {p = p} (r1.as_part f) (r2.as_part f)))
respelled (the_none {v = v} {p = p}) c = a_list refl c (λ f. back_none v p)
respelled (the_some h) c = let r1 = respelled h c in a_list refl r1.left (λ f. passes (λ a b x s. the_some s) (r1.as_part f))
respelled (the_end {p = p}) c = a_list refl c (λ f. back_end p)
respelled (the_again h i) c = let r1 = respelled h c in let r2 = respelled i r1.left in a_list refl r2.left (λ f. back_again (r1.as_part f) (r2.as_part f))
-- expressions
respelled (the_binary {n = n} {w = w} {x = x} {y = y} h e i) c = let r1 = respelled h c in let r2 = respelled i r1.left.1 in leveled r2.left (binary_operand n (begins x) w x y e (r1.as_operand refl) (r2.as_operand refl))
respelled (the_tighter h) c = let r1 = respelled h c in leveled r1.left (r1.as_operand refl)
respelled (the_prefix {q = q} {w = w} {x = x} e h) c = let r1 = respelled h c.1 in leveled r1.left (prefix_operand q w x (r1.as_operand refl))
respelled (the_postfix h) c = let r1 = respelled h c in leveled r1.left (r1.as_operand refl)
respelled (the_index {x = x} {i = i} h j) c = let r1 = respelled h c in let r2 = respelled j r1.left.1 in postfix r2.left.1 (index_operand (begins x) x i (r1.as_operand refl) (r2.as_operand refl))
respelled (the_primary h) c = let r1 = respelled h c in postfix r1.left (r1.as_operand refl)
respelled (the_number {v = v} {q = q}) c = primary c.1 (primary_operand (number v q) refl (back_number v c.0))
respelled (the_true {q = q}) c = primary c.1 (primary_operand (truth true q) refl back_true)
respelled (the_false {q = q}) c = primary c.1 (primary_operand (truth false q) refl back_false)
respelled (the_variable {s = s} {q = q}) c = primary c.1 (primary_operand (variable s q) refl (back_variable s c.0))
respelled (the_call {s = s} {q = q} {xs = xs} h) c = let r1 = respelled h c.1.1 in primary r1.left.1 (primary_operand (call s xs q) refl (back_call s c.0 (any_of (λ x. refl) refl r1)))
respelled (the_pair {q = q} {x = x} h) c = let r1 = respelled h c.1 in primary r1.left.1 (group_operand q x (r1.as_operand refl))
respelled (the_if {q = q} {x = x} {y = y} {z = z} h i j e) c = let r1 = respelled h c.1 in let r2 = respelled i r1.left.1 in let r3 = respelled j r2.left.1 in primary r3.left.1 (if_operand q x y z (r1.as_operand refl) (r2.as_operand refl) (r3.as_operand refl))
respelled (the_list {q = q} {xs = xs} h) c = let r1 = respelled h c.1 in primary r1.left.1 (primary_operand (list xs q) refl (back_list (some (λ x. refl) refl r1)))
respelled (the_comp {q = q} {x = x} {gs = gs} h i) c = let r1 = respelled h c.1 in let r2 = respelled i r1.left.1 in primary r2.left.1 (primary_operand (comp x gs q) refl (back_comp (r1.as_part refl) (some (λ x. refl) refl r2)))
respelled (the_gen {s = s} {q = q} {shape = shape} {x = x} {y = y} h i j) c = let r1 = respelled h c.1 in let r2 = respelled i r1.left.1.1 in let r3 = respelled j r2.left.1 in plain refl r3.left (turned (back_gen s r1.left.0 (r1.as_part refl) (r2.as_part refl) (r3.as_part refl)) (simp append_assoc refl))
-- types and declarations
respelled (the_type {s = s}) c = plain refl c.1 (back_type s c.0)
respelled (the_type_with {s = s} {xs = xs} h) c = let r1 = respelled h c.1.1 in plain refl r1.left.1 (turned (back_type_with s c.0 (some (λ x. refl) refl r1)) (ap (λ ws. Lexeme.Name s ∷ ws) (sym (some_of (Lexeme.LeftParen ∷ joined Lexeme.Comma xs ++ (Lexeme.RightParen ∷ [])) h))))
respelled (the_shape_arg {s = s} h) c = let r1 = respelled h c.1.1 in plain refl r1.left (back_shape_arg s c.0 (r1.as_part refl))
respelled (the_value_arg {s = s} h) c = let r1 = respelled h c.1.1 in plain refl r1.left (back_value_arg s c.0 (r1.as_part refl))
respelled (the_var {s = s} h) c = let r1 = respelled h c in plain refl r1.left.1 (turned (back_var s r1.left.0 (r1.as_part refl)) (simp (append_assoc, append-nil) refl))
respelled (the_var_changing {s = s} h i) c = let r1 = respelled h c in let r2 = respelled i r1.left.1.1 in plain refl r2.left (turned (back_var_changing s r1.left.0 (r1.as_part refl) (r2.as_part refl)) (simp append_assoc refl))
respelled (the_var_constant {s = s} h i) c = let r1 = respelled h c in let r2 = respelled i r1.left.1.1 in plain refl r2.left (turned (back_var_constant s r1.left.0 (r1.as_part refl) (r2.as_part refl)) (simp append_assoc refl))
respelled the_no_vars c = plain refl c back_no_vars
respelled (the_vars {xs = xs} h) c = let r1 = respelled h c.1 in plain refl r1.left (turned (back_vars (some (λ x. refl) refl r1)) (sym (some_of (Lexeme.Var ∷ joined Lexeme.Comma xs) h)))
respelled (the_param {s = s} h) c = let r1 = respelled h c in plain refl r1.left.1 (turned (back_param s r1.left.0 (r1.as_part refl)) (simp (append_assoc, append-nil) refl))
respelled (the_param_default {s = s} h i) c = let r1 = respelled h c in let r2 = respelled i r1.left.1.1 in plain refl r2.left (turned (back_param_default s r1.left.0 (r1.as_part refl) (r2.as_part refl)) (simp append_assoc refl))
respelled (the_port {s = s} h) c = let r1 = respelled h c in plain refl r1.left.1 (back_port s r1.left.0 (r1.as_part refl))
respelled (the_name {s = s}) c = plain refl c.1 (back_name s c.0)
respelled (the_tag h) c = let r1 = respelled h c in plain refl r1.left (back_tag (some (λ x. refl) refl r1))
-- statements
respelled (the_place h) c = let r1 = respelled h c.1 in plain refl r1.left.1 (back_place (r1.as_part refl))
respelled (the_assign {s = s} {xs = xs} h i) c = let r1 = respelled h c.1 in let r2 = respelled i r1.left.1 in plain refl r2.left.1 (back_assign s c.0 (as_said (said_places xs) (r1.as_part refl)) (r2.as_part refl))
respelled (the_call_stmt {s = s} h) c = let r1 = respelled h c.1.1 in plain refl r1.left.1.1 (back_call_stmt s c.0 (any_of (λ x. refl) refl r1))
respelled (the_if_stmt {q = q} {x = x} {ys = ys} {z = z} h i j) c = let r1 = respelled h c.1 in let r2 = respelled i r1.left.1 in let r3 = respelled j r2.left in plain refl r3.left (if_words x ys z q (r1.as_part refl) (stmts i r2) (r3.as_part refl))
respelled (the_while h i e) c = let r1 = respelled h c.1 in let r2 = respelled i r1.left.1 in plain refl r2.left.1 (back_while (r1.as_part refl) (stmts i r2))
respelled (the_foreach {s = s} h i j k e) c = let r1 = respelled h c.1 in let r2 = respelled i r1.left.1.1 in let r3 = respelled j r2.left.1 in let r4 = respelled k r3.left.1 in plain refl r4.left.1 (turned (back_foreach s r1.left.0 (r1.as_part refl) (r2.as_part refl) (r3.as_part refl) (stmts k r4)) (simp append_assoc refl))
respelled (the_block h e) c = let r1 = respelled h c.1 in plain refl r1.left.1 (back_block (stmts h r1))
respelled (the_block_with {xs = xs} {ys = ys} h i e) c = let r1 = respelled h c.1.1 in let r2 = respelled i r1.left.1 in plain refl r2.left.1 (turned (back_block_with (some (λ x. refl) refl r1) (stmts i r2)) (block_words xs ys (some_of (Lexeme.Var ∷ joined Lexeme.Comma xs ++ (Lexeme.Do ∷ [])) h)))
respelled (the_if_end e) c = plain refl c.1 back_if_end
respelled (the_else h e) c = let r1 = respelled h c.1 in plain refl r1.left.1 (back_else (stmts h r1))
respelled (the_elsif {q = q} {x = x} {ys = ys} {z = z} h i j) c = let r1 = respelled h c.1 in let r2 = respelled i r1.left.1 in let r3 = respelled j r2.left in plain refl r3.left (elsif x ys z q (if_words x ys z q (r1.as_part refl) (stmts i r2) (r3.as_part refl)))
-- members
respelled (the_function {s = s} h i j k e) c = let r1 = respelled h c.1.1.1 in let r2 = respelled i r1.left.1.1 in let r3 = respelled j r2.left in let r4 = respelled k r3.left.1 in plain refl r4.left.1 (turned (back_function s c.1.0 (any_of (λ x. refl) refl r1) (r2.as_part refl) (r3.as_part refl) (r4.as_part refl)) (simp append_assoc refl))
respelled (the_procedure {s = s} h i j e) c = let r1 = respelled h c.1.1.1 in let r2 = respelled i r1.left.1 in let r3 = respelled j r2.left.1 in plain refl r3.left.1 (back_procedure s c.1.0 (any_of (λ x. refl) refl r1) (r2.as_part refl) (stmts j r3))
respelled the_no_guards c = plain refl c back_no_guards
respelled (the_guards {xs = xs} h) c = let r1 = respelled h c.1 in plain refl r1.left (turned (back_guards (some (λ x. refl) refl r1)) (sym (some_of (Lexeme.Guard ∷ joined Lexeme.Comma xs) h)))
respelled the_no_repeat c = plain refl c back_no_repeat
respelled (the_repeat h) c = let r1 = respelled h c.1 in plain refl r1.left (back_repeat (r1.as_part refl))
respelled the_no_body c = plain refl c back_no_body
respelled (the_body h) c = let r1 = respelled h c.1 in plain refl r1.left (back_body (stmts h r1))
respelled (the_in h i) c = let r1 = respelled h c.1 in let r2 = respelled i r1.left.1 in plain refl r2.left (back_in (some (λ x. refl) refl r1) (r2.as_part refl))
respelled (the_in_at {s = s} h i) c = let r1 = respelled h c.1.1.1 in let r2 = respelled i r1.left.1 in plain refl r2.left (back_in_at s c.0 (some (λ x. refl) refl r1) (r2.as_part refl))
respelled (the_out h i) c = let r1 = respelled h c.1 in let r2 = respelled i r1.left.1 in plain refl r2.left (back_out (some (λ x. refl) refl r1) (r2.as_part refl))
respelled (the_out_at {s = s} h i) c = let r1 = respelled h c.1.1.1 in let r2 = respelled i r1.left.1 in plain refl r2.left (back_out_at s c.0 (some (λ x. refl) refl r1) (r2.as_part refl))
respelled (the_action h i j k l e) c = let r1 = respelled h c.1 in let r2 = respelled i r1.left.1 in let r3 = respelled j r2.left in let r4 = respelled k r3.left in let r5 = respelled l r4.left in plain refl r5.left.1 (turned (back_action (any_of (λ x. refl) refl r1) (any_of (λ x. refl) refl r2) (r3.as_part refl) (r4.as_part refl) (r5.as_part refl)) (simp append_assoc refl))
respelled (the_initialize h i j k e) c = let r1 = respelled h c.1.1 in let r2 = respelled i r1.left in let r3 = respelled j r2.left in let r4 = respelled k r3.left in plain refl r4.left.1 (turned (back_initialize (any_of (λ x. refl) refl r1) (r2.as_part refl) (r3.as_part refl) (r4.as_part refl)) (simp append_assoc refl))
respelled (the_unlabelled h) c = let r1 = respelled h c in plain refl r1.left (passes (λ a b x s. the_unlabelled s) (r1.as_part refl))
respelled (the_labelled {t = t} {x = x} h i) c = let r1 = respelled h c in let r2 = respelled i r1.left.1 in plain refl r2.left (labelled t x (untagged i) (r1.as_part refl) (r2.as_part refl))
respelled (the_move {s = s} {i = i} h) c = let r1 = respelled h c.1.1 in plain refl r1.left.1.1.1.1 (back_move s i c.0 r1.left.1.1.0 (some (λ x. refl) refl r1))
respelled (the_schedule {s = s} h e) c = let r1 = respelled h c.1.1.1.1 in plain refl r1.left.1 (back_schedule s c.1.1.0 (each h (λ x. refl) refl r1))
respelled (the_chain {x = x} {xs = xs} h i) c = let r1 = respelled h c in let r2 = respelled i r1.left.1 in plain refl r2.left.1 (turned (back_chain (r1.as_part refl) (some (λ x. refl) refl r2)) (rw (following_of Lexeme.Greater i) (simp append_assoc refl)))
respelled (the_priority {xs = xs} h e) c = let r1 = respelled h c.1 in plain refl r1.left.1 (back_priority (as_said (said_chains xs) (r1.as_part refl)))
respelled (the_var_member h) c = let r1 = respelled h c in plain refl r1.left.1 (turned (back_var_member (r1.as_part refl)) (said_var h))
respelled (the_function_member h) c = let r1 = respelled h c in plain refl r1.left (passes (λ a b x s. the_function_member s) (turned (r1.as_part refl) (said_function h)))
respelled (the_procedure_member h) c = let r1 = respelled h c in plain refl r1.left (passes (λ a b x s. the_procedure_member s) (turned (r1.as_part refl) (said_procedure h)))
respelled (the_action_member h) c = let r1 = respelled h c in plain refl r1.left (passes (λ a b x s. the_action_member s) (turned (r1.as_part refl) (said_labelled h)))
respelled (the_priority_member h) c = let r1 = respelled h c in plain refl r1.left (passes (λ a b x s. the_priority_member s) (turned (r1.as_part refl) (said_priority h)))
respelled (the_no_members {k = k}) c = plain refl c (back_no_members k)
respelled (the_member {x = x} {xs = xs} h i) c = let r1 = respelled h c in let r2 = respelled i r1.left in plain refl r2.left (turned (back_member (r1.as_part refl) (r2.as_part refl)) (said_member x xs))
respelled (the_schedule_member {x = x} {xs = xs} h i) c = let r1 = respelled h c in let r2 = respelled i r1.left in plain refl r2.left (turned (back_schedule_member (r1.as_part refl) (r2.as_part refl)) (ap (λ ws. ws ++ each_member xs) (said_schedule h) ∙ said_member x xs))
respelled (the_unit_var h) c = let r1 = respelled h c in plain refl r1.left.1 (turned (back_unit_var (r1.as_part refl)) (said_var h))
respelled (the_unit_function h) c = let r1 = respelled h c in plain refl r1.left (passes (λ a b x s. the_unit_function s) (turned (r1.as_part refl) (said_function h)))
-- files
respelled (the_path_name {s = s}) c = plain refl c.1.1 (back_path_name s c.1.0)
respelled the_path_all c = plain refl c.1.1 back_path_all
respelled (the_path_on {s = s} {r = r} {x = x} h) c = let r1 = respelled h c.1.1 in plain refl r1.left (path_on s r c.1.0 x (path_is h) (r1.as_part refl))
respelled (the_import {s = s} {q = q} {r = r} {x = x} h) c = let r1 = respelled h c.1.1 in plain refl r1.left.1 (an_import_of s q r c.1.0 x (path_is h) (r1.as_part refl))
respelled (the_actor {s = s} h i j k e) c = let r1 = respelled h c.1.1.1 in let r2 = respelled i r1.left.1 in let r3 = respelled j r2.left.1 in let r4 = respelled k r3.left.1 in plain refl r4.left.1 (back_actor s c.1.0 (any_of (λ x. refl) refl r1) (any_of (λ x. refl) refl r2) (any_of (λ x. refl) refl r3) (r4.as_part refl))
respelled (the_unit {s = s} {ms = ms} h e) c = let r1 = respelled h c.1.1.1 in plain refl r1.left.1 (back_unit s c.1.0 (as_said (said_units ms) (r1.as_part refl)))
respelled (the_actor_file h i) c = let r1 = respelled h c in let r2 = respelled i r1.left in plain refl r2.left (back_actor_file (each h (λ x. refl) refl r1) (r2.as_part refl))
respelled (the_unit_file h i) c = let r1 = respelled h c in let r2 = respelled i r1.left in plain refl r2.left (back_unit_file (each h (λ x. refl) refl r1) (r2.as_part refl))
respelled (the_file h) c = let r1 = respelled h c in plain refl r1.left (passes (λ a b x s. the_file s) (r1.as_part refl))
respelled (the_package_file {q = q} {t = t} {x = x} h i) c = let r1 = respelled h c.1 in let r2 = respelled i r1.left.1 in plain refl r2.left (packaged_file q t x (unpackaged i) (r1.as_part refl) (r2.as_part refl))
