-- The names that are declared inside a part are words.
use Rattle.std.proofs.Common.{ℕ, List}
use Rattle.cal_ast.specs.Tree as tree
use Rattle.cal_ast.specs.Tree.{Tree}
use Rattle.cal_check.specs.Formed.{IsOptional}
use Rattle.cal_imports.specs.Sources.{body_of}
use Rattle.cal_imports.specs.Whole.{members_of}
use Rattle.cal_lexer.specs.Lexeme.{Placed}
use Rattle.cal_grammar.specs.Operators.{group, import_at, onto, with_package, with_tag}
use Rattle.cal_grammar.specs.Spells.{Part, Spells, a_body, a_file, a_name, comma, otherwise, rest, separated, the_separated, the_last, the_more, the_none, the_some, the_end, the_again, the_binary, the_tighter, the_prefix, the_postfix, the_index, the_primary, the_number, the_true, the_false, the_variable, the_call, the_pair, the_if, the_list, the_comp, the_gen, the_type, the_type_with, the_shape_arg, the_value_arg, the_var, the_var_changing, the_var_constant, the_no_vars, the_vars, the_param, the_param_default, the_port, the_name, the_tag, the_place, the_assign, the_call_stmt, the_if_stmt, the_while, the_foreach, the_block, the_block_with, the_if_end, the_else, the_elsif, the_function, the_procedure, the_no_guards, the_guards, the_no_repeat, the_repeat, the_no_body, the_body, the_in, the_in_at, the_out, the_out_at, the_action, the_initialize, the_unlabelled, the_labelled, the_move, the_schedule, the_chain, the_priority, the_var_member, the_function_member, the_procedure_member, the_action_member, the_priority_member, the_no_members, the_member, the_schedule_member, the_unit_var, the_unit_function, the_path_name, the_path_all, the_path_on, the_import, the_actor, the_unit, the_actor_file, the_unit_file, the_file, the_package_file}
use Rattle.law_sources.proofs.NamedMembers.{IsNameOf}
use Rattle.law_sources.proofs.WordTokens.{AreWords}
use Rattle.law_sources.proofs.WordsLeft.{words_left}

abbrev pub AreNames : Tree → Type 0
AreNames (tree.cons t ts) = IsNameOf t × AreNames ts
AreNames other = Unit {0}

-- each name that is declared inside is a word, and what may be missing is marked as such
abbrev pub HasWords : Tree → Type 0
HasWords (tree.cons t ts) = HasWords t × HasWords ts
HasWords (tree.present t) = HasWords t
HasWords (tree.call name args at) = HasWords args
HasWords (tree.paren e at) = HasWords e
HasWords (tree.if_expr test first other at) = HasWords test × HasWords first × HasWords other
HasWords (tree.list items at) = HasWords items
HasWords (tree.comp item gens at) = HasWords item × HasWords gens
HasWords (tree.gen shape name from to at) = IsNameOf name × HasWords shape × HasWords from × HasWords to
HasWords (tree.index base place at) = HasWords base × HasWords place
HasWords (tree.prefix op e at) = HasWords e
HasWords (tree.binary op l r at) = HasWords l × HasWords r
HasWords (tree.type_of name args at) = HasWords args
HasWords (tree.shape_arg name shape) = HasWords shape
HasWords (tree.value_arg name value) = HasWords value
HasWords (tree.assign name places value at) = HasWords places × HasWords value
HasWords (tree.call_stmt name args at) = HasWords args
HasWords (tree.if_stmt test first other at) = HasWords test × HasWords first × IsOptional other × HasWords other
HasWords (tree.while_stmt test body at) = HasWords test × HasWords body
HasWords (tree.foreach_stmt shape name from to body at) = IsNameOf name × HasWords shape × HasWords from × HasWords to × HasWords body
HasWords (tree.block vars body at) = HasWords vars × HasWords body
HasWords (tree.var shape name start changes at) = IsNameOf name × HasWords shape × IsOptional start × HasWords start
HasWords (tree.port shape name at) = IsNameOf name × HasWords shape
HasWords (tree.function name formals result vars body at) = HasWords formals × HasWords result × HasWords vars × HasWords body
HasWords (tree.procedure name formals vars body at) = HasWords formals × HasWords vars × HasWords body
HasWords (tree.action tagged initialize patterns outputs guards vars body at) =
    HasWords patterns × HasWords outputs × HasWords guards × HasWords vars × IsOptional body × HasWords body
HasWords (tree.pattern asked names repeat at) = AreNames names
HasWords (tree.output asked values repeat at) = HasWords values
HasWords (tree.actor name params ins outs inside at) = HasWords inside
HasWords (tree.unit name inside at) = HasWords inside
HasWords (tree.file in_package imports body at) = HasWords body
HasWords other = Unit {0}

-- ---- what a production does with a tree

grouped : (q : ℕ) (x : Tree) → HasWords x → HasWords (group q x)
grouped q (tree.if_expr test first other at) h = h
grouped q (tree.prefix op e at) h = h
grouped q (tree.binary op l r at) h = h
grouped q _ h = h

tagged : (t x : Tree) → HasWords x → HasWords (with_tag t x)
tagged t (tree.action none initialize patterns outputs guards vars body at) h = h
tagged t _ h = h

put_onto : (first x : Tree) → HasWords x → HasWords (onto first x)
put_onto first (tree.import_part path last at) h = h
put_onto first _ h = h

put_at : (q : ℕ) (x : Tree) → HasWords x → HasWords (import_at q x)
put_at q (tree.import_part path last at) h = h
put_at q _ h = h

packaged : (q : ℕ) (t x : Tree) → HasWords x → HasWords (with_package q t x)
packaged q t (tree.file none imports body at) h = h
packaged q t _ h = h

-- ---- parts that are names, and parts that may be missing

mutual
  names_behind : {a b : List Placed} {xs : Tree} → Spells (rest comma a_name) a b xs → AreWords a → AreNames xs
  names_behind the_last w = tt
  names_behind (the_more h) w = all_names h w.1

  all_names : {a b : List Placed} {xs : Tree} → Spells (separated comma a_name) a b xs → AreWords a → AreNames xs
  all_names (the_separated the_name i) w = (w.0, names_behind i w.1)

else_optional : {a b : List Placed} {x : Tree} → Spells otherwise a b x → IsOptional x
else_optional (the_if_end e) = tt
else_optional (the_else h e) = tt
else_optional (the_elsif h i j) = tt

body_optional : {a b : List Placed} {x : Tree} → Spells a_body a b x → IsOptional x
body_optional the_no_body = tt
body_optional (the_body h) = tt

-- ---- all parts

pub inner_words : {p : Part} {a b : List Placed} {x : Tree} → Spells p a b x → AreWords a → HasWords x
inner_words (the_separated h1 h2) w = (inner_words h1 w, inner_words h2 (words_left h1 w))
inner_words the_last w = tt
inner_words (the_more h1) w = inner_words h1 w.1
inner_words the_none w = tt
inner_words (the_some h1) w = inner_words h1 w
inner_words the_end w = tt
inner_words (the_again h1 h2) w = (inner_words h1 w, inner_words h2 (words_left h1 w))
inner_words (the_binary h1 e2 h3) w = (inner_words h1 w, inner_words h3 (words_left h1 w).1)
inner_words (the_tighter h1) w = inner_words h1 w
inner_words (the_prefix e1 h2) w = inner_words h2 w.1
inner_words (the_postfix h1) w = inner_words h1 w
inner_words (the_index h1 h2) w = (inner_words h1 w, inner_words h2 (words_left h1 w).1)
inner_words (the_primary h1) w = inner_words h1 w
inner_words the_number w = tt
inner_words the_true w = tt
inner_words the_false w = tt
inner_words the_variable w = tt
inner_words (the_call h1) w = inner_words h1 w.1.1
inner_words (the_pair {q = q} {x = x} h1) w = grouped q x (inner_words h1 w.1)
inner_words (the_if h1 h2 h3 e4) w =
    let second = (words_left h1 w.1).1 in
    (inner_words h1 w.1, inner_words h2 second, inner_words h3 (words_left h2 second).1)
inner_words (the_list h1) w = inner_words h1 w.1
inner_words (the_comp h1 h2) w = (inner_words h1 w.1, inner_words h2 (words_left h1 w.1).1)
inner_words (the_gen h1 h2 h3) w =
    let name = words_left h1 w.1 in
    (name.0, inner_words h1 w.1, inner_words h2 name.1.1, inner_words h3 (words_left h2 name.1.1).1)
inner_words the_type w = tt
inner_words (the_type_with h1) w = inner_words h1 w.1.1
inner_words (the_shape_arg h1) w = inner_words h1 w.1.1
inner_words (the_value_arg h1) w = inner_words h1 w.1.1
inner_words (the_var h1) w = ((words_left h1 w).0, inner_words h1 w, tt, tt)
inner_words (the_var_changing h1 h2) w = ((words_left h1 w).0, inner_words h1 w, tt, inner_words h2 (words_left h1 w).1.1)
inner_words (the_var_constant h1 h2) w = ((words_left h1 w).0, inner_words h1 w, tt, inner_words h2 (words_left h1 w).1.1)
inner_words the_no_vars w = tt
inner_words (the_vars h1) w = inner_words h1 w.1
inner_words (the_param h1) w = tt
inner_words (the_param_default h1 h2) w = tt
inner_words (the_port h1) w = ((words_left h1 w).0, inner_words h1 w)
inner_words the_name w = tt
inner_words (the_tag h1) w = tt
inner_words (the_place h1) w = inner_words h1 w.1
inner_words (the_assign h1 h2) w = (inner_words h1 w.1, inner_words h2 (words_left h1 w.1).1)
inner_words (the_call_stmt h1) w = inner_words h1 w.1.1
inner_words (the_if_stmt h1 h2 h3) w =
    let then_part = (words_left h1 w.1).1 in
    (inner_words h1 w.1, inner_words h2 then_part, else_optional h3, inner_words h3 (words_left h2 then_part))
inner_words (the_while h1 h2 e3) w = (inner_words h1 w.1, inner_words h2 (words_left h1 w.1).1)
inner_words (the_foreach h1 h2 h3 h4 e5) w =
    let name = words_left h1 w.1 in
    let second = (words_left h2 name.1.1).1 in
    (name.0, inner_words h1 w.1, inner_words h2 name.1.1, inner_words h3 second, inner_words h4 (words_left h3 second).1)
inner_words (the_block h1 e2) w = (tt, inner_words h1 w.1)
inner_words (the_block_with h1 h2 e3) w = (inner_words h1 w.1.1, inner_words h2 (words_left h1 w.1.1).1)
inner_words (the_if_end e1) w = tt
inner_words (the_else h1 e2) w = inner_words h1 w.1
inner_words (the_elsif h1 h2 h3) w =
    let then_part = (words_left h1 w.1).1 in
    ((inner_words h1 w.1, inner_words h2 then_part, else_optional h3, inner_words h3 (words_left h2 then_part)), tt)
inner_words (the_function h1 h2 h3 h4 e5) w =
    let result = (words_left h1 w.1.1.1).1.1 in
    let vars = words_left h2 result in
    (inner_words h1 w.1.1.1, inner_words h2 result, inner_words h3 vars, inner_words h4 (words_left h3 vars).1)
inner_words (the_procedure h1 h2 h3 e4) w =
    let vars = (words_left h1 w.1.1.1).1 in
    (inner_words h1 w.1.1.1, inner_words h2 vars, inner_words h3 (words_left h2 vars).1)
inner_words the_no_guards w = tt
inner_words (the_guards h1) w = inner_words h1 w.1
inner_words the_no_repeat w = tt
inner_words (the_repeat h1) w = inner_words h1 w.1
inner_words the_no_body w = tt
inner_words (the_body h1) w = inner_words h1 w.1
inner_words (the_in h1 h2) w = all_names h1 w.1
inner_words (the_in_at h1 h2) w = all_names h1 w.1.1.1
inner_words (the_out h1 h2) w = inner_words h1 w.1
inner_words (the_out_at h1 h2) w = inner_words h1 w.1.1.1
inner_words (the_action h1 h2 h3 h4 h5 e6) w =
    let outputs = (words_left h1 w.1).1 in
    let guards = words_left h2 outputs in
    let vars = words_left h3 guards in
    (inner_words h1 w.1, inner_words h2 outputs, inner_words h3 guards, inner_words h4 vars, body_optional h5, inner_words h5 (words_left h4 vars))
inner_words (the_initialize h1 h2 h3 h4 e5) w =
    let guards = words_left h1 w.1.1 in
    let vars = words_left h2 guards in
    (tt, inner_words h1 w.1.1, inner_words h2 guards, inner_words h3 vars, body_optional h4, inner_words h4 (words_left h3 vars))
inner_words (the_unlabelled h1) w = inner_words h1 w
inner_words (the_labelled {t = t} {x = x} h1 h2) w = tagged t x (inner_words h2 (words_left h1 w).1)
inner_words (the_move h1) w = tt
inner_words (the_schedule h1 e2) w = tt
inner_words (the_chain h1 h2) w = (inner_words h1 w, inner_words h2 (words_left h1 w).1)
inner_words (the_priority h1 e2) w = tt
inner_words (the_var_member h1) w = inner_words h1 w
inner_words (the_function_member h1) w = inner_words h1 w
inner_words (the_procedure_member h1) w = inner_words h1 w
inner_words (the_action_member h1) w = inner_words h1 w
inner_words (the_priority_member h1) w = inner_words h1 w
inner_words the_no_members w = tt
inner_words (the_member h1 h2) w = (inner_words h1 w, inner_words h2 (words_left h1 w))
inner_words (the_schedule_member h1 h2) w = (inner_words h1 w, inner_words h2 (words_left h1 w))
inner_words (the_unit_var h1) w = inner_words h1 w
inner_words (the_unit_function h1) w = inner_words h1 w
inner_words the_path_name w = tt
inner_words the_path_all w = tt
inner_words (the_path_on {s = s} {r = r} {x = x} h1) w = put_onto (tree.ident s r) x (inner_words h1 w.1.1)
inner_words (the_import {s = s} {q = q} {r = r} {x = x} h1) w =
    put_at q (onto (tree.ident s r) x) (put_onto (tree.ident s r) x (inner_words h1 w.1.1))
inner_words (the_actor h1 h2 h3 h4 e5) w =
    let inputs = (words_left h1 w.1.1.1).1 in
    let outputs = (words_left h2 inputs).1 in
    inner_words h4 (words_left h3 outputs).1
inner_words (the_unit h1 e2) w = inner_words h1 w.1.1.1
inner_words (the_actor_file h1 h2) w = inner_words h2 (words_left h1 w)
inner_words (the_unit_file h1 h2) w = inner_words h2 (words_left h1 w)
inner_words (the_file h1) w = inner_words h1 w
inner_words (the_package_file {q = q} {t = t} {x = x} h1 h2) w = packaged q t x (inner_words h2 (words_left h1 w.1).1)

-- ---- files

body_words : (whole : Tree) → HasWords whole → HasWords (body_of whole)
body_words (tree.file in_package imports body at) h = h
body_words _ h = tt

members_words : (body : Tree) → HasWords body → HasWords (members_of body)
members_words (tree.actor name params ins outs inside at) h = h
members_words (tree.unit name inside at) h = h
members_words _ h = tt

-- the members of a file that a text spells
pub file_words : {a b : List Placed} {x : Tree} → Spells a_file a b x → AreWords a → HasWords (body_of x)
file_words {x = x} h w = body_words x (inner_words h w)
