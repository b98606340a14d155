-- A file that breaks a rule of scope breaks one of names: a name is unknown, declared twice, or used as what it isn't.
use Rattle.std.proofs.Common.{◌≡◌, ℕ, Bool, true, false, List, [], ◌∷◌, ◌++◌, refl}
use Rattle.std.specs.Prelude.{Option, None, Some, is_some, if◌then◌else◌}
use Rattle.rvc_base.specs.declared.refusal.Rule.{Rule}
use Rattle.rvc_base.specs.Rules.{unknown_name, declared_twice, not_as_asked}
use Rattle.cal_ast.specs.Tree as tree
use Rattle.cal_ast.specs.Tree.{Tree, listed}
use Rattle.cal_model.specs.Kinding.{Judged, Fine, Broken, and_so, is_word}
use Rattle.cal_scope.specs.declared.role.Role.{Role}
use Rattle.cal_scope.specs.declared.role.Role.TheVariants.{Variable, Function, Procedure}
use Rattle.cal_scope.specs.Expressions.{declared_by, declared_name, expr_resolved, exprs_resolved, gen_resolved, gens_resolved, optional_resolved, type_arg_resolved, type_args_resolved, type_resolved}
use Rattle.cal_scope.specs.Globals.{names_of_actor, with_all_declared, with_declared, with_global}
use Rattle.cal_scope.specs.Members.{Ports, action_resolved, declared_by_patterns, formal_resolved, formals_resolved, function_resolved, member_resolved, members_resolved, names_judged, output_resolved, outputs_resolved, pattern_names, pattern_resolved, patterns_resolved, port_judged, procedure_resolved}
use Rattle.cal_scope.specs.Names.{Global, Names, full_name, global_named, is_among, is_role, meant_by, used_as, with_name, within}
use Rattle.cal_scope.specs.Statements.{else_resolved, stmt_resolved, stmts_resolved, var_resolved, vars_resolved}

-- one of the rules of names
pub data IsOfNames (rule : Rule) : Type 0 where
  is_unknown : rule ≡ unknown_name → IsOfNames rule
  is_twice : rule ≡ declared_twice → IsOfNames rule
  is_other : rule ≡ not_as_asked → IsOfNames rule

-- what is judged breaks no other rule
abbrev pub ByNames : {A : Type 0} → Judged A → Type 0
ByNames (Fine x) = Unit {0}
ByNames (Broken rule at) = IsOfNames rule

-- ---- parts in order

pub so_by : {A B : Type 0} (a : Judged A) (f : A → Judged B) → ByNames a → ((x : A) → ByNames (f x)) → ByNames (and_so a f)
so_by (Fine x) f h k = k x
so_by (Broken rule at) f h k = h

so_one : {A R : Type 0} (a : Judged A) (out : A → R) → ByNames a → ByNames (and_so a (λ x. Fine (out x)))
so_one a out h = so_by a (λ x. Fine (out x)) h (λ x. tt)

so_two : {A B R : Type 0} (a : Judged A) (b : Judged B) (out : A → B → R) → ByNames a → ByNames b → ByNames (and_so a (λ x. and_so b (λ y. Fine (out x y))))
so_two a b out h i = so_by a (λ x. and_so b (λ y. Fine (out x y))) h (λ x. so_one b (out x) i)

so_three : {A B C R : Type 0} (a : Judged A) (b : Judged B) (c : Judged C) (out : A → B → C → R) → ByNames a → ByNames b → ByNames c
    → ByNames (and_so a (λ x. and_so b (λ y. and_so c (λ z. Fine (out x y z)))))
so_three a b c out h i j = so_by a (λ x. and_so b (λ y. and_so c (λ z. Fine (out x y z)))) h (λ x. so_two b c (out x) i j)

so_four : {A B C D R : Type 0} (a : Judged A) (b : Judged B) (c : Judged C) (d : Judged D) (out : A → B → C → D → R) → ByNames a → ByNames b → ByNames c → ByNames d
    → ByNames (and_so a (λ x. and_so b (λ y. and_so c (λ z. and_so d (λ w. Fine (out x y z w))))))
so_four a b c d out h i j k = so_by a (λ x. and_so b (λ y. and_so c (λ z. and_so d (λ w. Fine (out x y z w))))) h (λ x. so_three b c d (out x) i j k)

so_five : {A B C D E R : Type 0} (a : Judged A) (b : Judged B) (c : Judged C) (d : Judged D) (e : Judged E) (out : A → B → C → D → E → R)
    → ByNames a → ByNames b → ByNames c → ByNames d → ByNames e
    → ByNames (and_so a (λ x. and_so b (λ y. and_so c (λ z. and_so d (λ w. and_so e (λ v. Fine (out x y z w v)))))))
so_five a b c d e out h i j k l = so_by a (λ x. and_so b (λ y. and_so c (λ z. and_so d (λ w. and_so e (λ v. Fine (out x y z w v)))))) h (λ x. so_four b c d e (out x) i j k l)

-- a test before a judgement
twice_or : {A : Type 0} (b : Bool) (at : ℕ) (j : Judged A) → ByNames j → ByNames (if b then Broken declared_twice at else j)
twice_or true at j h = is_twice refl
twice_or false at j h = h

word_or : (b : Bool) (place : ℕ) (j : Judged Tree) → ByNames j → ByNames (if b then j else Broken unknown_name place)
word_or true place j h = h
word_or false place j h = is_unknown refl

-- ---- names

used_by : (role : Role) (name : List ℕ) (at : ℕ) (names : Names) → ByNames (used_as role name at names)
used_by role name at names = go (meant_by name names)
  where
    as_role : (b : Bool) (full : List ℕ) → ByNames (if b then Fine full else Broken not_as_asked at)
    as_role true full = tt
    as_role false full = is_other refl

    go : (o : Option Global) → ByNames (full_name role at o)
    go None = is_unknown refl
    go (Some g) = as_role (is_role role g.role) g.full

-- ---- expressions and types

mutual
  expr_by : (e : Tree) (names : Names) → ByNames (expr_resolved e names)
  expr_by (tree.number n at) names = tt
  expr_by (tree.truth b at) names = tt
  expr_by (tree.variable name at) names = so_one (used_as Variable name at names) (λ full. tree.variable full at) (used_by Variable name at names)
  expr_by (tree.call name args at) names =
      so_two (used_as Function name at names) (exprs_resolved args names) (λ full es. tree.call full (listed es) at) (used_by Function name at names) (exprs_by args names)
  expr_by (tree.paren e at) names = so_one (expr_resolved e names) (λ r. tree.paren r at) (expr_by e names)
  expr_by (tree.if_expr test first other at) names =
      so_three (expr_resolved test names) (expr_resolved first names) (expr_resolved other names) (λ c a b. tree.if_expr c a b at)
      (expr_by test names) (expr_by first names) (expr_by other names)
  expr_by (tree.list items at) names = so_one (exprs_resolved items names) (λ es. tree.list (listed es) at) (exprs_by items names)
  expr_by (tree.comp item gens at) names =
      so_two (gens_resolved gens [] names) (expr_resolved item (within (declared_by gens []) names)) (λ gs e. tree.comp e (listed gs) at)
      (gens_by gens [] names) (expr_by item (within (declared_by gens []) names))
  expr_by (tree.index base place at) names =
      so_two (expr_resolved base names) (expr_resolved place names) (λ b p. tree.index b p at) (expr_by base names) (expr_by place names)
  expr_by (tree.prefix op e at) names = so_one (expr_resolved e names) (λ r. tree.prefix op r at) (expr_by e names)
  expr_by (tree.binary op l r at) names =
      so_two (expr_resolved l names) (expr_resolved r names) (λ a b. tree.binary op a b at) (expr_by l names) (expr_by r names)
  expr_by other names = is_unknown refl

  exprs_by : (es : Tree) (names : Names) → ByNames (exprs_resolved es names)
  exprs_by tree.nil names = tt
  exprs_by (tree.cons e es) names = so_two (expr_resolved e names) (exprs_resolved es names) (λ r rs. r ∷ rs) (expr_by e names) (exprs_by es names)
  exprs_by other names = is_unknown refl

  gens_by : (gs : Tree) (here : List (List ℕ)) (names : Names) → ByNames (gens_resolved gs here names)
  gens_by tree.nil here names = tt
  gens_by (tree.cons g gs) here names =
      so_two (gen_resolved g (within here names)) (gens_resolved gs (with_name (declared_name g) here) names) (λ r rs. r ∷ rs)
      (gen_by g (within here names)) (gens_by gs (with_name (declared_name g) here) names)
  gens_by other here names = is_unknown refl

  gen_by : (g : Tree) (names : Names) → ByNames (gen_resolved g names)
  gen_by (tree.gen shape name from to at) names =
      so_three (type_resolved shape names) (expr_resolved from names) (expr_resolved to names) (λ t a b. tree.gen t name a b at)
      (type_by shape names) (expr_by from names) (expr_by to names)
  gen_by other names = is_unknown refl

  type_by : (t : Tree) (names : Names) → ByNames (type_resolved t names)
  type_by (tree.type_of (tree.ident name place) args at) names =
      word_or (is_word name) place (and_so (type_args_resolved args names) (λ given. Fine (tree.type_of (tree.ident name place) (listed given) at)))
      (so_one (type_args_resolved args names) (λ given. tree.type_of (tree.ident name place) (listed given) at) (type_args_by args names))
  type_by other names = is_unknown refl

  type_args_by : (args : Tree) (names : Names) → ByNames (type_args_resolved args names)
  type_args_by tree.nil names = tt
  type_args_by (tree.cons arg args) names =
      so_two (type_arg_resolved arg names) (type_args_resolved args names) (λ r rs. r ∷ rs) (type_arg_by arg names) (type_args_by args names)
  type_args_by other names = is_unknown refl

  type_arg_by : (arg : Tree) (names : Names) → ByNames (type_arg_resolved arg names)
  type_arg_by (tree.shape_arg name shape) names = so_one (type_resolved shape names) (λ t. tree.shape_arg name t) (type_by shape names)
  type_arg_by (tree.value_arg name value) names = so_one (expr_resolved value names) (λ e. tree.value_arg name e) (expr_by value names)
  type_arg_by other names = is_unknown refl

pub optional_by : (e : Tree) (names : Names) → ByNames (optional_resolved e names)
optional_by (tree.present e) names = so_one (expr_resolved e names) (λ r. tree.present r) (expr_by e names)
optional_by other names = tt

pub shape_by : (t : Tree) (names : Names) → ByNames (type_resolved t names)
shape_by t names = type_by t names

-- ---- variables and statements

var_by : (v : Tree) (here : List (List ℕ)) (names : Names) → ByNames (var_resolved v here names)
var_by (tree.var shape (tree.ident name place) start changes at) here names =
    twice_or (is_among name here) at (and_so (type_resolved shape names) (λ t. and_so (optional_resolved start names) (λ e. Fine (tree.var t (tree.ident name place) e changes at))))
    (so_two (type_resolved shape names) (optional_resolved start names) (λ t e. tree.var t (tree.ident name place) e changes at) (type_by shape names) (optional_by start names))
var_by other here names = is_unknown refl

vars_by : (vs : Tree) (here : List (List ℕ)) (names : Names) → ByNames (vars_resolved vs here names)
vars_by tree.nil here names = tt
vars_by (tree.cons v vs) here names =
    so_two (var_resolved v here (within here names)) (vars_resolved vs (with_name (declared_name v) here) names) (λ r rs. r ∷ rs)
    (var_by v here (within here names)) (vars_by vs (with_name (declared_name v) here) names)
vars_by other here names = is_unknown refl

mutual
  stmt_by : (s : Tree) (names : Names) → ByNames (stmt_resolved s names)
  stmt_by (tree.assign (tree.ident name place) places value at) names =
      so_three (used_as Variable name place names) (exprs_resolved places names) (expr_resolved value names) (λ full ps v. tree.assign (tree.ident full place) (listed ps) v at)
      (used_by Variable name place names) (exprs_by places names) (expr_by value names)
  stmt_by (tree.call_stmt (tree.ident name place) args at) names =
      so_two (used_as Procedure name place names) (exprs_resolved args names) (λ full es. tree.call_stmt (tree.ident full place) (listed es) at)
      (used_by Procedure name place names) (exprs_by args names)
  stmt_by (tree.if_stmt test first other at) names =
      so_three (expr_resolved test names) (stmts_resolved first names) (else_resolved other names) (λ c a b. tree.if_stmt c (listed a) b at)
      (expr_by test names) (stmts_by first names) (else_by other names)
  stmt_by (tree.while_stmt test body at) names =
      so_two (expr_resolved test names) (stmts_resolved body names) (λ c b. tree.while_stmt c (listed b) at) (expr_by test names) (stmts_by body names)
  stmt_by (tree.foreach_stmt shape (tree.ident name place) from to body at) names =
      so_four (type_resolved shape names) (expr_resolved from names) (expr_resolved to names) (stmts_resolved body (within (name ∷ []) names))
      (λ t a b s. tree.foreach_stmt t (tree.ident name place) a b (listed s) at)
      (type_by shape names) (expr_by from names) (expr_by to names) (stmts_by body (within (name ∷ []) names))
  stmt_by (tree.block vars body at) names =
      so_two (vars_resolved vars [] names) (stmts_resolved body (within (declared_by vars []) names)) (λ vs s. tree.block (listed vs) (listed s) at)
      (vars_by vars [] names) (stmts_by body (within (declared_by vars []) names))
  stmt_by other names = is_unknown refl

  stmts_by : (ss : Tree) (names : Names) → ByNames (stmts_resolved ss names)
  stmts_by tree.nil names = tt
  stmts_by (tree.cons s ss) names = so_two (stmt_resolved s names) (stmts_resolved ss names) (λ r rs. r ∷ rs) (stmt_by s names) (stmts_by ss names)
  stmts_by other names = is_unknown refl

  else_by : (t : Tree) (names : Names) → ByNames (else_resolved t names)
  else_by (tree.present ss) names = so_one (stmts_resolved ss names) (λ rs. tree.present (listed rs)) (stmts_by ss names)
  else_by other names = tt

-- ---- functions, procedures and actions

formal_by : (f : Tree) (here : List (List ℕ)) (names : Names) → ByNames (formal_resolved f here names)
formal_by (tree.port shape (tree.ident name place) at) here names =
    twice_or (is_among name here) at (and_so (type_resolved shape names) (λ t. Fine (tree.port t (tree.ident name place) at)))
    (so_one (type_resolved shape names) (λ t. tree.port t (tree.ident name place) at) (type_by shape names))
formal_by other here names = is_unknown refl

formals_by : (fs : Tree) (here : List (List ℕ)) (names : Names) → ByNames (formals_resolved fs here names)
formals_by tree.nil here names = tt
formals_by (tree.cons f fs) here names =
    so_two (formal_resolved f here (within here names)) (formals_resolved fs (with_name (declared_name f) here) names) (λ r rs. r ∷ rs)
    (formal_by f here (within here names)) (formals_by fs (with_name (declared_name f) here) names)
formals_by other here names = is_unknown refl

function_by : (f : Tree) (names : Names) → ByNames (function_resolved f names)
function_by (tree.function name formals result vars body at) names =
    so_four (formals_resolved formals [] names) (type_resolved result (within (declared_by formals []) names)) (vars_resolved vars (declared_by formals []) names)
    (expr_resolved body (within (declared_by vars (declared_by formals [])) names)) (λ fs t vs e. tree.function name (listed fs) t (listed vs) e at)
    (formals_by formals [] names) (type_by result (within (declared_by formals []) names)) (vars_by vars (declared_by formals []) names)
    (expr_by body (within (declared_by vars (declared_by formals [])) names))
function_by other names = is_unknown refl

procedure_by : (p : Tree) (names : Names) → ByNames (procedure_resolved p names)
procedure_by (tree.procedure name formals vars body at) names =
    so_three (formals_resolved formals [] names) (vars_resolved vars (declared_by formals []) names)
    (stmts_resolved body (within (declared_by vars (declared_by formals [])) names)) (λ fs vs ss. tree.procedure name (listed fs) (listed vs) (listed ss) at)
    (formals_by formals [] names) (vars_by vars (declared_by formals []) names) (stmts_by body (within (declared_by vars (declared_by formals [])) names))
procedure_by other names = is_unknown refl

port_by : (asked : Tree) (wanted others : List (List ℕ)) → ByNames (port_judged asked wanted others)
port_by (tree.present (tree.ident name place)) wanted others = go (is_among name wanted) (is_among name others)
  where
    go : (a b : Bool) → ByNames {A = Unit {0}} (if a then Fine tt else if b then Broken not_as_asked place else Broken unknown_name place)
    go true b = tt
    go false true = is_other refl
    go false false = is_unknown refl
port_by other wanted others = tt

names_by : (names : Tree) (here : List (List ℕ)) → ByNames (names_judged names here)
names_by (tree.cons (tree.ident name place) rest) here = twice_or (is_among name here) place (names_judged rest (with_name name here)) (names_by rest (with_name name here))
names_by other here = tt

pattern_by : (p : Tree) (ports : Ports) (here : List (List ℕ)) (names : Names) → ByNames (pattern_resolved p ports here names)
pattern_by (tree.pattern asked variables repeat at) ports here names =
    so_three (port_judged asked ports.ins ports.outs) (names_judged variables here) (optional_resolved repeat names) (λ a b n. tree.pattern asked variables n at)
    (port_by asked ports.ins ports.outs) (names_by variables here) (optional_by repeat names)
pattern_by other ports here names = is_unknown refl

patterns_by : (ps : Tree) (ports : Ports) (here : List (List ℕ)) (names : Names) → ByNames (patterns_resolved ps ports here names)
patterns_by tree.nil ports here names = tt
patterns_by (tree.cons p ps) ports here names =
    so_two (pattern_resolved p ports here names) (patterns_resolved ps ports (pattern_names p here) names) (λ r rs. r ∷ rs)
    (pattern_by p ports here names) (patterns_by ps ports (pattern_names p here) names)
patterns_by other ports here names = is_unknown refl

output_by : (o : Tree) (ports : Ports) (names : Names) → ByNames (output_resolved o ports names)
output_by (tree.output asked values repeat at) ports names =
    so_three (port_judged asked ports.outs ports.ins) (exprs_resolved values names) (optional_resolved repeat names) (λ a vs n. tree.output asked (listed vs) n at)
    (port_by asked ports.outs ports.ins) (exprs_by values names) (optional_by repeat names)
output_by other ports names = is_unknown refl

outputs_by : (os : Tree) (ports : Ports) (names : Names) → ByNames (outputs_resolved os ports names)
outputs_by tree.nil ports names = tt
outputs_by (tree.cons o os) ports names =
    so_two (output_resolved o ports names) (outputs_resolved os ports names) (λ r rs. r ∷ rs) (output_by o ports names) (outputs_by os ports names)
outputs_by other ports names = is_unknown refl

action_by : (a : Tree) (ports : Ports) (names : Names) → ByNames (action_resolved a ports names)
action_by (tree.action tagged initialize patterns outputs guards vars body at) ports names =
    so_five (patterns_resolved patterns ports [] names) (exprs_resolved guards (within (declared_by_patterns patterns []) names))
    (vars_resolved vars (declared_by_patterns patterns []) names) (else_resolved body (within (declared_by vars (declared_by_patterns patterns [])) names))
    (outputs_resolved outputs ports (within (declared_by vars (declared_by_patterns patterns [])) names))
    (λ ps gs vs b os. tree.action tagged initialize (listed ps) (listed os) (listed gs) (listed vs) b at)
    (patterns_by patterns ports [] names) (exprs_by guards (within (declared_by_patterns patterns []) names)) (vars_by vars (declared_by_patterns patterns []) names)
    (else_by body (within (declared_by vars (declared_by_patterns patterns [])) names))
    (outputs_by outputs ports (within (declared_by vars (declared_by_patterns patterns [])) names))
action_by other ports names = is_unknown refl

member_by : (m : Tree) (ports : Ports) (names : Names) → ByNames (member_resolved m ports names)
member_by (tree.var shape name start changes at) ports names = var_by (tree.var shape name start changes at) [] names
member_by (tree.function name formals result vars body at) ports names = function_by (tree.function name formals result vars body at) names
member_by (tree.procedure name formals vars body at) ports names = procedure_by (tree.procedure name formals vars body at) names
member_by (tree.action tagged initialize patterns outputs guards vars body at) ports names =
    action_by (tree.action tagged initialize patterns outputs guards vars body at) ports names
member_by other ports names = tt

pub members_by : (ms : Tree) (ports : Ports) (names : Names) → ByNames (members_resolved ms ports names)
members_by tree.nil ports names = tt
members_by (tree.cons m ms) ports names =
    so_two (member_resolved m ports names) (members_resolved ms ports names) (λ r rs. r ∷ rs) (member_by m ports names) (members_by ms ports names)
members_by other ports names = is_unknown refl

-- ---- what a file declares

global_by : (g : Global) (at : ℕ) (here : List Global) → ByNames (with_global g at here)
global_by g at here = twice_or (is_some (global_named g.name here)) at (Fine (here ++ g ∷ [])) tt

declared_by_names : (before : List ℕ) (m : Tree) (here : List Global) → ByNames (with_declared before m here)
declared_by_names before (tree.param shape (tree.ident name place) start at) here = global_by (record { name = name; role = Variable; full = before ++ name }) at here
declared_by_names before (tree.var shape (tree.ident name place) start changes at) here = global_by (record { name = name; role = Variable; full = before ++ name }) at here
declared_by_names before (tree.function (tree.ident name place) formals result vars body at) here =
    global_by (record { name = name; role = Function; full = before ++ name }) at here
declared_by_names before (tree.procedure (tree.ident name place) formals vars body at) here =
    global_by (record { name = name; role = Procedure; full = before ++ name }) at here
declared_by_names before other here = tt

pub all_declared_by : (before : List ℕ) (ms : Tree) (here : List Global) → ByNames (with_all_declared before ms here)
all_declared_by before (tree.cons m ms) here =
    so_by (with_declared before m here) (λ next. with_all_declared before ms next) (declared_by_names before m here) (λ next. all_declared_by before ms next)
all_declared_by before other here = tt

pub actor_names_by : (params members : Tree) → ByNames (names_of_actor params members)
actor_names_by params members =
    so_by (with_all_declared [] params []) (λ here. with_all_declared [] members here) (all_declared_by [] params []) (λ here. all_declared_by [] members here)
