-- What a part costs: as many tokens as its height, and one at least if it can't be empty.
use Rattle.std.proofs.Common.{◌≡◌, ℕ, suc, ◌+◌, ◌≤◌, List, length, refl, arith}
use Rattle.cal_ast.specs.Tree.{Tree, ident, import_part, file, action, if_expr, prefix, binary}
use Rattle.cal_lexer.specs.Lexeme.{Placed}
use Rattle.cal_grammar.specs.Operators.{group, with_tag, onto, import_at, with_package, height}
use Rattle.cal_grammar.specs.Spells.{Part, Spells, separated, rest, any, repeated, some_vars, some_guards, some_repeat, a_body, members, the_separated, the_last, the_more, the_none, the_some, the_end, the_again, the_binary, the_tighter, the_prefix, the_postfix, the_index, the_primary, the_number, the_true, the_false, the_variable, the_call, the_pair, the_if, the_list, the_comp, the_gen, the_type, the_type_with, the_shape_arg, the_value_arg, the_var, the_var_changing, the_var_constant, the_no_vars, the_vars, the_param, the_param_default, the_port, the_name, the_tag, the_place, the_assign, the_call_stmt, the_if_stmt, the_while, the_foreach, the_block, the_block_with, the_if_end, the_else, the_elsif, the_function, the_procedure, the_no_guards, the_guards, the_no_repeat, the_repeat, the_no_body, the_body, the_in, the_in_at, the_out, the_out_at, the_action, the_initialize, the_unlabelled, the_labelled, the_move, the_schedule, the_chain, the_priority, the_var_member, the_function_member, the_procedure_member, the_action_member, the_priority_member, the_no_members, the_member, the_schedule_member, the_unit_var, the_unit_function, the_path_name, the_path_all, the_path_on, the_import, the_actor, the_unit, the_actor_file, the_unit_file, the_file, the_package_file}

-- how many tokens a part has at least
abbrev pub takes : Part → ℕ
takes (separated v p) = takes p
takes (rest v p) = 0
takes (any v p) = 0
takes (repeated p) = 0
takes some_vars = 0
takes some_guards = 0
takes some_repeat = 0
takes a_body = 0
takes (members k) = 0
takes _ = 1

pub height-group : (q : ℕ) (x : Tree) → height (group q x) ≤ suc (height x)
height-group q (if_expr test other third at) = omega arith
height-group q (prefix op x at) = omega arith
height-group q (binary op x y at) = omega arith
height-group q _ = omega arith

-- the offset of a pair doesn't matter for the height
pub height-group_any : (q r : ℕ) (x : Tree) → height (group q x) ≡ height (group r x)
height-group_any q r (if_expr test other third at) = refl
height-group_any q r (prefix op x at) = refl
height-group_any q r (binary op x y at) = refl
height-group_any q r _ = refl

-- what stands in a pair isn't higher than the pair
pub height-inside : (q : ℕ) (x : Tree) → height x ≤ height (group q x)
height-inside q (if_expr test other third at) = omega arith
height-inside q (prefix op x at) = omega arith
height-inside q (binary op x y at) = omega arith
height-inside q _ = omega arith

pub height-with_tag : (t x : Tree) → height (with_tag t x) ≡ height x
height-with_tag t (action a b c d e f g h) = refl
height-with_tag t _ = refl

pub height-onto : (i x : Tree) → height (onto i x) ≡ height x
height-onto i (import_part path last at) = refl
height-onto i _ = refl

pub height-import_at : (q : ℕ) (x : Tree) → height (import_at q x) ≡ height x
height-import_at q (import_part path last at) = refl
height-import_at q _ = refl

pub height-with_package : (q : ℕ) (t x : Tree) → height (with_package q t x) ≡ height x
height-with_package q t (file package_of imports body at) = refl
height-with_package q t _ = refl

pub record Cost (p : Part) (a b : List Placed) (x : Tree) : Type 0 where
  pub high : height x + length b ≤ length a
  pub taken : takes p + length b ≤ length a

pub costs : {p : Part} {a b : List Placed} {x : Tree} → Spells p a b x → Cost p a b x
costs (the_separated h1 h2) = let c1 = costs h1 in let c2 = costs h2 in record { high = omega arith; taken = omega arith }
costs the_last = record { high = omega arith; taken = omega arith }
costs (the_more h1) = let c1 = costs h1 in record { high = omega arith; taken = omega arith }
costs the_none = record { high = omega arith; taken = omega arith }
costs (the_some h1) = let c1 = costs h1 in record { high = omega arith; taken = omega arith }
costs the_end = record { high = omega arith; taken = omega arith }
costs (the_again h1 h2) = let c1 = costs h1 in let c2 = costs h2 in record { high = omega arith; taken = omega arith }
costs (the_binary h1 e2 h3) = let c1 = costs h1 in let c3 = costs h3 in record { high = omega arith; taken = omega arith }
costs (the_tighter h1) = let c1 = costs h1 in record { high = omega arith; taken = omega arith }
costs (the_prefix e1 h2) = let c2 = costs h2 in record { high = omega arith; taken = omega arith }
costs (the_postfix h1) = let c1 = costs h1 in record { high = omega arith; taken = omega arith }
costs (the_index h1 h2) = let c1 = costs h1 in let c2 = costs h2 in record { high = omega arith; taken = omega arith }
costs (the_primary h1) = let c1 = costs h1 in record { high = omega arith; taken = omega arith }
costs the_number = record { high = omega arith; taken = omega arith }
costs the_true = record { high = omega arith; taken = omega arith }
costs the_false = record { high = omega arith; taken = omega arith }
costs the_variable = record { high = omega arith; taken = omega arith }
costs (the_call h1) = let c1 = costs h1 in record { high = omega arith; taken = omega arith }
costs (the_pair {q = q} {x = x} h1) = let c1 = costs h1 in record { high = omega (arith, height-group q x); taken = omega (arith, height-group q x) }
costs (the_if h1 h2 h3 e4) = let c1 = costs h1 in let c2 = costs h2 in let c3 = costs h3 in record { high = omega arith; taken = omega arith }
costs (the_list h1) = let c1 = costs h1 in record { high = omega arith; taken = omega arith }
costs (the_comp h1 h2) = let c1 = costs h1 in let c2 = costs h2 in record { high = omega arith; taken = omega arith }
costs (the_gen h1 h2 h3) = let c1 = costs h1 in let c2 = costs h2 in let c3 = costs h3 in record { high = omega arith; taken = omega arith }
costs the_type = record { high = omega arith; taken = omega arith }
costs (the_type_with h1) = let c1 = costs h1 in record { high = omega arith; taken = omega arith }
costs (the_shape_arg h1) = let c1 = costs h1 in record { high = omega arith; taken = omega arith }
costs (the_value_arg h1) = let c1 = costs h1 in record { high = omega arith; taken = omega arith }
costs (the_var h1) = let c1 = costs h1 in record { high = omega arith; taken = omega arith }
costs (the_var_changing h1 h2) = let c1 = costs h1 in let c2 = costs h2 in record { high = omega arith; taken = omega arith }
costs (the_var_constant h1 h2) = let c1 = costs h1 in let c2 = costs h2 in record { high = omega arith; taken = omega arith }
costs the_no_vars = record { high = omega arith; taken = omega arith }
costs (the_vars h1) = let c1 = costs h1 in record { high = omega arith; taken = omega arith }
costs (the_param h1) = let c1 = costs h1 in record { high = omega arith; taken = omega arith }
costs (the_param_default h1 h2) = let c1 = costs h1 in let c2 = costs h2 in record { high = omega arith; taken = omega arith }
costs (the_port h1) = let c1 = costs h1 in record { high = omega arith; taken = omega arith }
costs the_name = record { high = omega arith; taken = omega arith }
costs (the_tag h1) = let c1 = costs h1 in record { high = omega arith; taken = omega arith }
costs (the_place h1) = let c1 = costs h1 in record { high = omega arith; taken = omega arith }
costs (the_assign h1 h2) = let c1 = costs h1 in let c2 = costs h2 in record { high = omega arith; taken = omega arith }
costs (the_call_stmt h1) = let c1 = costs h1 in record { high = omega arith; taken = omega arith }
costs (the_if_stmt h1 h2 h3) = let c1 = costs h1 in let c2 = costs h2 in let c3 = costs h3 in record { high = omega arith; taken = omega arith }
costs (the_while h1 h2 e3) = let c1 = costs h1 in let c2 = costs h2 in record { high = omega arith; taken = omega arith }
costs (the_foreach h1 h2 h3 h4 e5) = let c1 = costs h1 in let c2 = costs h2 in let c3 = costs h3 in let c4 = costs h4 in record { high = omega arith; taken = omega arith }
costs (the_block h1 e2) = let c1 = costs h1 in record { high = omega arith; taken = omega arith }
costs (the_block_with h1 h2 e3) = let c1 = costs h1 in let c2 = costs h2 in record { high = omega arith; taken = omega arith }
costs (the_if_end e1) = record { high = omega arith; taken = omega arith }
costs (the_else h1 e2) = let c1 = costs h1 in record { high = omega arith; taken = omega arith }
costs (the_elsif h1 h2 h3) = let c1 = costs h1 in let c2 = costs h2 in let c3 = costs h3 in record { high = omega arith; taken = omega arith }
costs (the_function h1 h2 h3 h4 e5) = let c1 = costs h1 in let c2 = costs h2 in let c3 = costs h3 in let c4 = costs h4 in record { high = omega arith; taken = omega arith }
costs (the_procedure h1 h2 h3 e4) = let c1 = costs h1 in let c2 = costs h2 in let c3 = costs h3 in record { high = omega arith; taken = omega arith }
costs the_no_guards = record { high = omega arith; taken = omega arith }
costs (the_guards h1) = let c1 = costs h1 in record { high = omega arith; taken = omega arith }
costs the_no_repeat = record { high = omega arith; taken = omega arith }
costs (the_repeat h1) = let c1 = costs h1 in record { high = omega arith; taken = omega arith }
costs the_no_body = record { high = omega arith; taken = omega arith }
costs (the_body h1) = let c1 = costs h1 in record { high = omega arith; taken = omega arith }
costs (the_in h1 h2) = let c1 = costs h1 in let c2 = costs h2 in record { high = omega arith; taken = omega arith }
costs (the_in_at h1 h2) = let c1 = costs h1 in let c2 = costs h2 in record { high = omega arith; taken = omega arith }
costs (the_out h1 h2) = let c1 = costs h1 in let c2 = costs h2 in record { high = omega arith; taken = omega arith }
costs (the_out_at h1 h2) = let c1 = costs h1 in let c2 = costs h2 in record { high = omega arith; taken = omega arith }
costs (the_action h1 h2 h3 h4 h5 e6) = let c1 = costs h1 in let c2 = costs h2 in let c3 = costs h3 in let c4 = costs h4 in let c5 = costs h5 in record { high = omega arith; taken = omega arith }
costs (the_initialize h1 h2 h3 h4 e5) = let c1 = costs h1 in let c2 = costs h2 in let c3 = costs h3 in let c4 = costs h4 in record { high = omega arith; taken = omega arith }
costs (the_unlabelled h1) = let c1 = costs h1 in record { high = omega arith; taken = omega arith }
costs (the_labelled {t = t} {x = x} h1 h2) = let c1 = costs h1 in let c2 = costs h2 in record { high = omega (arith, height-with_tag t x); taken = omega (arith, height-with_tag t x) }
costs (the_move h1) = let c1 = costs h1 in record { high = omega arith; taken = omega arith }
costs (the_schedule h1 e2) = let c1 = costs h1 in record { high = omega arith; taken = omega arith }
costs (the_chain h1 h2) = let c1 = costs h1 in let c2 = costs h2 in record { high = omega arith; taken = omega arith }
costs (the_priority h1 e2) = let c1 = costs h1 in record { high = omega arith; taken = omega arith }
costs (the_var_member h1) = let c1 = costs h1 in record { high = omega arith; taken = omega arith }
costs (the_function_member h1) = let c1 = costs h1 in record { high = omega arith; taken = omega arith }
costs (the_procedure_member h1) = let c1 = costs h1 in record { high = omega arith; taken = omega arith }
costs (the_action_member h1) = let c1 = costs h1 in record { high = omega arith; taken = omega arith }
costs (the_priority_member h1) = let c1 = costs h1 in record { high = omega arith; taken = omega arith }
costs the_no_members = record { high = omega arith; taken = omega arith }
costs (the_member h1 h2) = let c1 = costs h1 in let c2 = costs h2 in record { high = omega arith; taken = omega arith }
costs (the_schedule_member h1 h2) = let c1 = costs h1 in let c2 = costs h2 in record { high = omega arith; taken = omega arith }
costs (the_unit_var h1) = let c1 = costs h1 in record { high = omega arith; taken = omega arith }
costs (the_unit_function h1) = let c1 = costs h1 in record { high = omega arith; taken = omega arith }
costs the_path_name = record { high = omega arith; taken = omega arith }
costs the_path_all = record { high = omega arith; taken = omega arith }
costs (the_path_on {s = s} {r = r} {x = x} h1) = let c1 = costs h1 in record { high = omega (arith, height-onto (ident s r) x); taken = omega (arith, height-onto (ident s r) x) }
costs (the_import {s = s} {q = q} {r = r} {x = x} h1) = let c1 = costs h1 in record { high = omega (arith, height-onto (ident s r) x, height-import_at q (onto (ident s r) x)); taken = omega (arith, height-onto (ident s r) x, height-import_at q (onto (ident s r) x)) }
costs (the_actor h1 h2 h3 h4 e5) = let c1 = costs h1 in let c2 = costs h2 in let c3 = costs h3 in let c4 = costs h4 in record { high = omega arith; taken = omega arith }
costs (the_unit h1 e2) = let c1 = costs h1 in record { high = omega arith; taken = omega arith }
costs (the_actor_file h1 h2) = let c1 = costs h1 in let c2 = costs h2 in record { high = omega arith; taken = omega arith }
costs (the_unit_file h1 h2) = let c1 = costs h1 in let c2 = costs h2 in record { high = omega arith; taken = omega arith }
costs (the_file h1) = let c1 = costs h1 in record { high = omega arith; taken = omega arith }
costs (the_package_file {q = q} {t = t} {x = x} h1 h2) = let c1 = costs h1 in let c2 = costs h2 in record { high = omega (arith, height-with_package q t x); taken = omega (arith, height-with_package q t x) }
