-- The grammar gives each declaration of a file a name, which has no dot.
use Rattle.std.proofs.Common.{ℕ, List}
use Rattle.cal_ast.specs.Tree as tree
use Rattle.cal_ast.specs.Tree.{Tree}
use Rattle.cal_check.specs.Actors.{params_of}
use Rattle.cal_imports.specs.Sources.{body_of}
use Rattle.cal_imports.specs.Whole.{members_of}
use Rattle.cal_lexer.specs.Lexeme.{Placed}
use Rattle.cal_grammar.specs.Operators.{with_package}
use Rattle.cal_grammar.specs.Spells.{Spells, any, repeated, rest, separated, a_file, a_function, a_labelled, a_member, a_param, a_procedure, a_schedule, a_unit_member, a_var, an_actor, a_unit, comma, members, some_imports, the_separated, the_last, the_more, the_none, the_some, the_end, the_again, the_var, the_var_changing, the_var_constant, the_param, the_param_default, the_function, the_procedure, the_action, the_initialize, the_unlabelled, the_labelled, the_schedule, the_priority, the_var_member, the_function_member, the_procedure_member, the_action_member, the_priority_member, the_no_members, the_member, the_schedule_member, the_unit_var, the_unit_function, the_actor, the_unit, the_actor_file, the_unit_file, the_file, the_package_file}
use Rattle.law_sources.proofs.WordTokens.{AreWords, IsWord}
use Rattle.law_sources.proofs.WordsLeft.{words_left}

-- ---- what a declaration declares

abbrev pub IsNameOf : Tree → Type 0
IsNameOf (tree.ident name at) = IsWord name
IsNameOf other = ⊥

-- it has a name, if it is one of a variable, a function or a procedure
abbrev pub IsNamed : Tree → Type 0
IsNamed (tree.param shape name start at) = IsNameOf name
IsNamed (tree.var shape name start changes at) = IsNameOf name
IsNamed (tree.function name formals result vars body at) = IsNameOf name
IsNamed (tree.procedure name formals vars body at) = IsNameOf name
IsNamed other = Unit {0}

abbrev pub AreNamed : Tree → Type 0
AreNamed (tree.cons m ms) = IsNamed m × AreNamed ms
AreNamed other = Unit {0}

-- .. the parameters and members of an actor or a unit
pub record IsNamedBody (body : Tree) : Type 0 where
  pub params : AreNamed (params_of body)
  pub members : AreNamed (members_of body)

-- ---- declarations

var_named : {a b : List Placed} {x : Tree} → Spells a_var a b x → AreWords a → IsNamed x
var_named (the_var h) w = (words_left h w).0
var_named (the_var_changing h i) w = (words_left h w).0
var_named (the_var_constant h i) w = (words_left h w).0

param_named : {a b : List Placed} {x : Tree} → Spells a_param a b x → AreWords a → IsNamed x
param_named (the_param h) w = (words_left h w).0
param_named (the_param_default h i) w = (words_left h w).0

function_named : {a b : List Placed} {x : Tree} → Spells a_function a b x → AreWords a → IsNamed x
function_named (the_function h i j k e) w = w.1.0

procedure_named : {a b : List Placed} {x : Tree} → Spells a_procedure a b x → AreWords a → IsNamed x
procedure_named (the_procedure h i j e) w = w.1.0

-- actions, schedules and priorities declare nothing of this kind
action_named : {a b : List Placed} {x : Tree} → Spells a_labelled a b x → IsNamed x
action_named (the_unlabelled (the_action h i j k l e)) = tt
action_named (the_unlabelled (the_initialize i j k l e)) = tt
action_named (the_labelled g (the_action h i j k l e)) = tt
action_named (the_labelled g (the_initialize i j k l e)) = tt

member_named : {a b : List Placed} {x : Tree} → Spells a_member a b x → AreWords a → IsNamed x
member_named (the_var_member h) w = var_named h w
member_named (the_function_member h) w = function_named h w
member_named (the_procedure_member h) w = procedure_named h w
member_named (the_action_member h) w = action_named h
member_named (the_priority_member (the_priority h e)) w = tt

schedule_named : {a b : List Placed} {x : Tree} → Spells a_schedule a b x → IsNamed x
schedule_named (the_schedule h e) = tt

unit_member_named : {a b : List Placed} {x : Tree} → Spells a_unit_member a b x → AreWords a → IsNamed x
unit_member_named (the_unit_var h) w = var_named h w
unit_member_named (the_unit_function h) w = function_named h w

-- ---- lists of them

mutual
  params_behind : {a b : List Placed} {xs : Tree} → Spells (rest comma a_param) a b xs → AreWords a → AreNamed xs
  params_behind the_last w = tt
  params_behind (the_more h) w = some_params h w.1

  some_params : {a b : List Placed} {xs : Tree} → Spells (separated comma a_param) a b xs → AreWords a → AreNamed xs
  some_params (the_separated h i) w = (param_named h w, params_behind i (words_left h w))

params_named : {a b : List Placed} {xs : Tree} → Spells (any comma a_param) a b xs → AreWords a → AreNamed xs
params_named the_none w = tt
params_named (the_some h) w = some_params h w

members_named : {k : _} {a b : List Placed} {xs : Tree} → Spells (members k) a b xs → AreWords a → AreNamed xs
members_named the_no_members w = tt
members_named (the_member h i) w = (member_named h w, members_named i (words_left h w))
members_named (the_schedule_member h i) w = (schedule_named h, members_named i (words_left h w))

unit_members_named : {a b : List Placed} {xs : Tree} → Spells (repeated a_unit_member) a b xs → AreWords a → AreNamed xs
unit_members_named the_end w = tt
unit_members_named (the_again h i) w = (unit_member_named h w, unit_members_named i (words_left h w))

-- ---- files

actor_named : {a b : List Placed} {x : Tree} → Spells an_actor a b x → AreWords a → IsNamedBody x
actor_named (the_actor h i j k e) w =
    let left = words_left h w.1.1.1 in
    let inputs = words_left i left.1 in
    let outputs = words_left j inputs.1 in
    record { params = params_named h w.1.1.1; members = members_named k outputs.1 }

unit_named : {a b : List Placed} {x : Tree} → Spells a_unit a b x → AreWords a → IsNamedBody x
unit_named (the_unit h e) w = record { params = tt; members = unit_members_named h w.1.1.1 }

imports_named : {a b : List Placed} {x : Tree} → Spells some_imports a b x → AreWords a → IsNamedBody (body_of x)
imports_named (the_actor_file h i) w = actor_named i (words_left h w)
imports_named (the_unit_file h i) w = unit_named i (words_left h w)

packaged_named : {a b : List Placed} {x : Tree} (q : ℕ) (t : Tree) → Spells some_imports a b x → AreWords a → IsNamedBody (body_of (with_package q t x))
packaged_named q t (the_actor_file h i) w = actor_named i (words_left h w)
packaged_named q t (the_unit_file h i) w = unit_named i (words_left h w)

pub file_named : {a b : List Placed} {x : Tree} → Spells a_file a b x → AreWords a → IsNamedBody (body_of x)
file_named (the_file h) w = imports_named h w
file_named (the_package_file {q = q} {t = t} g h) w = packaged_named q t h (words_left g w.1).1
