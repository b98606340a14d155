-- The forms that the grammar gives to variables, statements, members and files.
use Rattle.std.proofs.Common.{◌≡◌, ℕ, true, false, List, refl}
use Rattle.cal_ast.specs.Tree as tree
use Rattle.cal_ast.specs.Tree.{Tree}
use Rattle.cal_check.specs.Formed.{AreMoves, IsOptional}
use Rattle.cal_imports.specs.Sources.{body_of, imports_of}
use Rattle.cal_lexer.specs.Lexeme.{Placed}
use Rattle.cal_grammar.specs.Operators.{import_at, onto, with_package}
use Rattle.cal_grammar.specs.Spells.{Spells, any, repeated, rest, separated, a_body, a_file, a_function, a_labelled, a_member, a_move, a_param, a_path, an_import, a_procedure, a_schedule, a_stmt, a_unit_member, a_var, an_actor, a_unit, comma, members, otherwise, some_imports, some_vars, the_separated, the_last, the_more, the_none, the_some, the_end, the_again, the_var, the_var_changing, the_var_constant, the_no_vars, the_vars, the_param, the_param_default, the_assign, the_call_stmt, the_if_stmt, the_while, the_foreach, the_block, the_block_with, the_if_end, the_else, the_elsif, the_function, the_procedure, the_no_body, the_body, the_action, the_initialize, the_unlabelled, the_labelled, the_move, the_schedule, the_priority, the_var_member, the_function_member, the_procedure_member, the_action_member, the_priority_member, the_no_members, the_member, the_schedule_member, the_unit_var, the_unit_function, the_path_name, the_path_all, the_path_on, the_import, the_actor, the_unit, the_actor_file, the_unit_file, the_file, the_package_file}

-- ---- forms

abbrev pub IsShapedVar : Tree → Type 0
IsShapedVar (tree.var shape name start changes at) = IsOptional start
IsShapedVar other = ⊥

abbrev pub AreShapedVars : Tree → Type 0
AreShapedVars (tree.cons v vs) = IsShapedVar v × AreShapedVars vs
AreShapedVars other = Unit {0}

abbrev mutual
  pub IsShaped : Tree → Type 0
  IsShaped (tree.if_stmt test first other at) = AreShaped first × IsShapedElse other
  IsShaped (tree.while_stmt test body at) = AreShaped body
  IsShaped (tree.foreach_stmt shape name from to body at) = AreShaped body
  IsShaped (tree.block vars body at) = AreShapedVars vars × AreShaped body
  IsShaped other = Unit {0}

  pub AreShaped : Tree → Type 0
  AreShaped (tree.cons s ss) = IsShaped s × AreShaped ss
  AreShaped other = Unit {0}

  -- statements that may be missing
  pub IsShapedElse : Tree → Type 0
  IsShapedElse tree.absent = Unit {0}
  IsShapedElse (tree.present ss) = AreShaped ss
  IsShapedElse other = ⊥

abbrev pub IsName : Tree → Type 0
IsName (tree.ident name at) = Unit {0}
IsName other = ⊥

abbrev pub IsShapedMember : Tree → Type 0
IsShapedMember (tree.function name formals result vars body at) = AreShapedVars vars
IsShapedMember (tree.procedure name formals vars body at) = IsName name × AreShapedVars vars × AreShaped body
IsShapedMember (tree.action tagged initialize patterns outputs guards vars body at) =
    AreShapedVars vars × IsShapedElse body × (initialize ≡ true → patterns ≡ tree.nil)
IsShapedMember (tree.schedule start moves at) = AreMoves moves
IsShapedMember (tree.var shape name start changes at) = IsOptional start
IsShapedMember other = Unit {0}

abbrev pub AreShapedMembers : Tree → Type 0
AreShapedMembers (tree.cons m ms) = IsShapedMember m × AreShapedMembers ms
AreShapedMembers other = Unit {0}

-- a unit declares variables and functions alone
abbrev pub IsOfUnit : Tree → Type 0
IsOfUnit (tree.var shape name start changes at) = Unit {0}
IsOfUnit (tree.function name formals result vars body at) = Unit {0}
IsOfUnit other = ⊥

abbrev pub AreOfUnit : Tree → Type 0
AreOfUnit (tree.cons m ms) = IsOfUnit m × AreOfUnit ms
AreOfUnit other = Unit {0}

abbrev pub IsParam : Tree → Type 0
IsParam (tree.param shape name start at) = Unit {0}
IsParam other = ⊥

abbrev pub AreParams : Tree → Type 0
AreParams (tree.cons p ps) = IsParam p × AreParams ps
AreParams other = Unit {0}

abbrev pub IsImport : Tree → Type 0
IsImport (tree.import_part path last at) = Unit {0}
IsImport other = ⊥

abbrev pub AreImports : Tree → Type 0
AreImports (tree.cons i is) = IsImport i × AreImports is
AreImports other = Unit {0}

abbrev pub IsShapedBody : Tree → Type 0
IsShapedBody (tree.actor name params ins outs inside at) = AreParams params × AreShapedMembers inside
IsShapedBody (tree.unit name inside at) = AreShapedMembers inside × AreOfUnit inside
IsShapedBody other = Unit {0}

-- ---- variables

var_shaped : {a b : List Placed} {x : Tree} → Spells a_var a b x → IsShapedVar x
var_shaped (the_var h) = tt
var_shaped (the_var_changing h i) = tt
var_shaped (the_var_constant h i) = tt

mutual
  vars_behind : {a b : List Placed} {xs : Tree} → Spells (rest comma a_var) a b xs → AreShapedVars xs
  vars_behind the_last = tt
  vars_behind (the_more h) = listed_vars h

  listed_vars : {a b : List Placed} {xs : Tree} → Spells (separated comma a_var) a b xs → AreShapedVars xs
  listed_vars (the_separated h i) = (var_shaped h, vars_behind i)

vars_shaped : {a b : List Placed} {xs : Tree} → Spells some_vars a b xs → AreShapedVars xs
vars_shaped the_no_vars = tt
vars_shaped (the_vars h) = listed_vars h

-- ---- statements

mutual
  stmt_shaped : {a b : List Placed} {x : Tree} → Spells a_stmt a b x → IsShaped x
  stmt_shaped (the_assign h i) = tt
  stmt_shaped (the_call_stmt h) = tt
  stmt_shaped (the_if_stmt h i j) = (stmts_shaped i, else_shaped j)
  stmt_shaped (the_while h i e) = stmts_shaped i
  stmt_shaped (the_foreach h i j k e) = stmts_shaped k
  stmt_shaped (the_block h e) = (tt, stmts_shaped h)
  stmt_shaped (the_block_with h i e) = (listed_vars h, stmts_shaped i)

  stmts_shaped : {a b : List Placed} {xs : Tree} → Spells (repeated a_stmt) a b xs → AreShaped xs
  stmts_shaped the_end = tt
  stmts_shaped (the_again h i) = (stmt_shaped h, stmts_shaped i)

  else_shaped : {a b : List Placed} {x : Tree} → Spells otherwise a b x → IsShapedElse x
  else_shaped (the_if_end e) = tt
  else_shaped (the_else h e) = stmts_shaped h
  else_shaped (the_elsif h i j) = ((stmts_shaped i, else_shaped j), tt)

body_shaped : {a b : List Placed} {x : Tree} → Spells a_body a b x → IsShapedElse x
body_shaped the_no_body = tt
body_shaped (the_body h) = stmts_shaped h

-- ---- members

function_shaped : {a b : List Placed} {x : Tree} → Spells a_function a b x → IsShapedMember x
function_shaped (the_function h i j k e) = vars_shaped j

procedure_shaped : {a b : List Placed} {x : Tree} → Spells a_procedure a b x → IsShapedMember x
procedure_shaped (the_procedure h i j e) = (tt, vars_shaped i, stmts_shaped j)

not_initialize : {P : Type 0} → false ≡ true → P
not_initialize e = absurd cc

action_shaped : {a b : List Placed} {x : Tree} → Spells a_labelled a b x → IsShapedMember x
action_shaped (the_unlabelled (the_action h i j k l e)) = (vars_shaped k, body_shaped l, λ f. not_initialize f)
action_shaped (the_unlabelled (the_initialize i j k l e)) = (vars_shaped k, body_shaped l, λ f. refl)
action_shaped (the_labelled g (the_action h i j k l e)) = (vars_shaped k, body_shaped l, λ f. not_initialize f)
action_shaped (the_labelled g (the_initialize i j k l e)) = (vars_shaped k, body_shaped l, λ f. refl)

member_var : {a b : List Placed} {x : Tree} → Spells a_var a b x → IsShapedMember x
member_var (the_var h) = tt
member_var (the_var_changing h i) = tt
member_var (the_var_constant h i) = tt

member_shaped : {a b : List Placed} {x : Tree} → Spells a_member a b x → IsShapedMember x
member_shaped (the_var_member h) = member_var h
member_shaped (the_function_member h) = function_shaped h
member_shaped (the_procedure_member h) = procedure_shaped h
member_shaped (the_action_member h) = action_shaped h
member_shaped (the_priority_member (the_priority h e)) = tt

moves_shaped : {a b : List Placed} {xs : Tree} → Spells (repeated a_move) a b xs → AreMoves xs
moves_shaped the_end = tt
moves_shaped (the_again (the_move h) i) = moves_shaped i

schedule_shaped : {a b : List Placed} {x : Tree} → Spells a_schedule a b x → IsShapedMember x
schedule_shaped (the_schedule h e) = moves_shaped h

members_shaped : {k : _} {a b : List Placed} {xs : Tree} → Spells (members k) a b xs → AreShapedMembers xs
members_shaped the_no_members = tt
members_shaped (the_member h i) = (member_shaped h, members_shaped i)
members_shaped (the_schedule_member h i) = (schedule_shaped h, members_shaped i)

unit_member_shaped : {a b : List Placed} {x : Tree} → Spells a_unit_member a b x → IsShapedMember x
unit_member_shaped (the_unit_var h) = member_var h
unit_member_shaped (the_unit_function h) = function_shaped h

var_of_unit : {a b : List Placed} {x : Tree} → Spells a_var a b x → IsOfUnit x
var_of_unit (the_var h) = tt
var_of_unit (the_var_changing h i) = tt
var_of_unit (the_var_constant h i) = tt

function_of_unit : {a b : List Placed} {x : Tree} → Spells a_function a b x → IsOfUnit x
function_of_unit (the_function h i j k e) = tt

of_unit : {a b : List Placed} {x : Tree} → Spells a_unit_member a b x → IsOfUnit x
of_unit (the_unit_var h) = var_of_unit h
of_unit (the_unit_function h) = function_of_unit h

unit_members_shaped : {a b : List Placed} {xs : Tree} → Spells (repeated a_unit_member) a b xs → AreShapedMembers xs × AreOfUnit xs
unit_members_shaped the_end = (tt, tt)
unit_members_shaped (the_again h i) =
    let others = unit_members_shaped i in
    ((unit_member_shaped h, others.0), (of_unit h, others.1))

-- ---- parameters and imports

param_shaped : {a b : List Placed} {x : Tree} → Spells a_param a b x → IsParam x
param_shaped (the_param h) = tt
param_shaped (the_param_default h i) = tt

mutual
  params_behind : {a b : List Placed} {xs : Tree} → Spells (rest comma a_param) a b xs → AreParams xs
  params_behind the_last = tt
  params_behind (the_more h) = some_params h

  some_params : {a b : List Placed} {xs : Tree} → Spells (separated comma a_param) a b xs → AreParams xs
  some_params (the_separated h i) = (param_shaped h, params_behind i)

params_shaped : {a b : List Placed} {xs : Tree} → Spells (any comma a_param) a b xs → AreParams xs
params_shaped the_none = tt
params_shaped (the_some h) = some_params h

onto_import : (first x : Tree) → IsImport x → IsImport (onto first x)
onto_import first (tree.import_part path last at) h = tt
onto_import first _ h = absurd h

placed_import : (q : ℕ) (x : Tree) → IsImport x → IsImport (import_at q x)
placed_import q (tree.import_part path last at) h = tt
placed_import q _ h = absurd h

path_shaped : {a b : List Placed} {x : Tree} → Spells a_path a b x → IsImport x
path_shaped the_path_name = tt
path_shaped the_path_all = tt
path_shaped (the_path_on {s = s} {r = r} {x = x} h) = onto_import (tree.ident s r) x (path_shaped h)

import_shaped : {a b : List Placed} {x : Tree} → Spells an_import a b x → IsImport x
import_shaped (the_import {s = s} {q = q} {r = r} {x = x} h) = placed_import q (onto (tree.ident s r) x) (onto_import (tree.ident s r) x (path_shaped h))

all_imports : {a b : List Placed} {xs : Tree} → Spells (repeated an_import) a b xs → AreImports xs
all_imports the_end = tt
all_imports (the_again h i) = (import_shaped h, all_imports i)

-- ---- files

actor_shaped : {a b : List Placed} {x : Tree} → Spells an_actor a b x → IsShapedBody x
actor_shaped (the_actor h i j k e) = (params_shaped h, members_shaped k)

unit_shaped : {a b : List Placed} {x : Tree} → Spells a_unit a b x → IsShapedBody x
unit_shaped (the_unit h e) = unit_members_shaped h

-- a file's imports and its body
pub record IsShapedFile (x : Tree) : Type 0 where
  pub imports : AreImports (imports_of x)
  pub body : IsShapedBody (body_of x)

imports_shaped : {a b : List Placed} {x : Tree} → Spells some_imports a b x → IsShapedFile x
imports_shaped (the_actor_file h i) = record { imports = all_imports h; body = actor_shaped i }
imports_shaped (the_unit_file h i) = record { imports = all_imports h; body = unit_shaped i }

packaged_shaped : {a b : List Placed} {x : Tree} (q : ℕ) (t : Tree) → Spells some_imports a b x → IsShapedFile (with_package q t x)
packaged_shaped q t (the_actor_file h i) = record { imports = all_imports h; body = actor_shaped i }
packaged_shaped q t (the_unit_file h i) = record { imports = all_imports h; body = unit_shaped i }

pub file_shaped : {a b : List Placed} {x : Tree} → Spells a_file a b x → IsShapedFile x
file_shaped (the_file h) = imports_shaped h
file_shaped (the_package_file {q = q} {t = t} g h) = packaged_shaped q t h
