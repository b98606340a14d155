-- The numbers of the functions and the procedures that a part of an actor calls.
-- Not trusted: no promise is read with it.
use Rattle.std.specs.Prelude.{◌≡◌, ℕ, ◌+◌, Bool, true, false, List, [], ◌∷◌, ◌++◌, map, if◌then◌else◌, OnOk, Option, None, Some, Vec, replicate, slice_get, slice_index_or}
use Rattle.std.specs.Str.{bytes_eq}
use Rattle.std.specs.declared.alloc.AllocError.{AllocError}
use Rattle.std.specs.declared.alloc.Global.{Global as Heap}
use Rattle.std.specs.declared.result.Result.{Result}
use Rattle.cal_ast.specs.Tree as tree
use Rattle.cal_ast.specs.Tree.{Tree, listed}
use Rattle.cal_ast.specs.View.{body_tree, expr_tree, gen_tree, ident_tree, stmt_tree, type_arg_tree, type_tree, var_tree}
use Rattle.cal_ast.specs.declared.expr.Expr.{Expr}
use Rattle.cal_ast.specs.declared.expr.Gen.{Gen}
use Rattle.cal_ast.specs.declared.expr.TypeArg.{TypeArg}
use Rattle.cal_ast.specs.declared.expr.TypeExpr.{TypeExpr}
use Rattle.cal_ast.specs.declared.stmt.Stmt.{Stmt}
use Rattle.cal_ast.specs.declared.ident.Ident.{Ident}
use Rattle.cal_ast.specs.declared.member.VarDecl.{VarDecl}
use Rattle.cal_model.specs.declared.bound.Bound.{Bound}
use Rattle.cal_model.specs.Actor.{Fun, Local, Proc}
use Rattle.cal_model.specs.View.{actor_of}

-- ---- numbers by names

pub record Numbers : Type 0 where
  pub functions : List ℕ
  pub procedures : List ℕ

abbrev pub no_numbers : Numbers
no_numbers = record { functions = []; procedures = [] }

-- the number of the first of a name, if the numbers of these begin with k
abbrev pub number_from : {A : Type 0} → (A → List ℕ) → ℕ → List ℕ → List A → Option ℕ
number_from name k text [] = None
number_from name k text (x ∷ xs) =
    if bytes_eq (name x) text then Some k else number_from name (k + 1) text xs

abbrev pub fun_number : List ℕ → List Fun → Option ℕ
fun_number text funs = number_from (λ (f : Fun). f.name) 0 text funs

abbrev pub proc_number : List ℕ → List Proc → Option ℕ
proc_number text procs = number_from (λ (p : Proc). p.name) 0 text procs

abbrev pub with_number : Option ℕ → List ℕ → List ℕ
with_number None numbers = numbers
with_number (Some k) numbers = numbers ++ k ∷ []

abbrev pub with_function : Bound → List ℕ → Numbers → Numbers
with_function b text c = record {
  functions = with_number (fun_number text (actor_of b).funs) c.functions;
  procedures = c.procedures;
}

abbrev pub with_procedure : Bound → List ℕ → Numbers → Numbers
with_procedure b text c = record {
  functions = c.functions;
  procedures = with_number (proc_number text (actor_of b).procs) c.procedures;
}

-- .. with those that a part calls, as `EachCall` of `cal_model` says
abbrev pub with_calls : Bound → Tree → Numbers → Numbers
with_calls b (tree.cons t ts) c = with_calls b ts (with_calls b t c)
with_calls b (tree.present t) c = with_calls b t c
with_calls b (tree.call name args at) c = with_calls b args (with_function b name c)
with_calls b (tree.paren e at) c = with_calls b e c
with_calls b (tree.if_expr test first other at) c =
    with_calls b other (with_calls b first (with_calls b test c))
with_calls b (tree.list items at) c = with_calls b items c
with_calls b (tree.comp item gens at) c = with_calls b gens (with_calls b item c)
with_calls b (tree.gen shape name from to at) c =
    with_calls b to (with_calls b from (with_calls b shape c))
with_calls b (tree.index base place at) c = with_calls b place (with_calls b base c)
with_calls b (tree.prefix op e at) c = with_calls b e c
with_calls b (tree.binary op l r at) c = with_calls b r (with_calls b l c)
with_calls b (tree.type_of name args at) c = with_calls b args c
with_calls b (tree.shape_arg name shape) c = with_calls b shape c
with_calls b (tree.value_arg name value) c = with_calls b value c
with_calls b (tree.assign name places value at) c =
    with_calls b value (with_calls b places c)
with_calls b (tree.call_stmt (tree.ident name place) args at) c =
    with_calls b args (with_procedure b name c)
with_calls b (tree.if_stmt test first other at) c =
    with_calls b other (with_calls b first (with_calls b test c))
with_calls b (tree.while_stmt test body at) c = with_calls b body (with_calls b test c)
with_calls b (tree.foreach_stmt shape name from to body at) c =
    with_calls b body (with_calls b to (with_calls b from (with_calls b shape c)))
with_calls b (tree.block vars body at) c = with_calls b body (with_calls b vars c)
with_calls b (tree.var shape name start changes at) c =
    with_calls b start (with_calls b shape c)
with_calls b other c = c

-- .. with those that the starts of locals call
abbrev pub with_start : Bound → Option Tree → Numbers → Numbers
with_start b None c = c
with_start b (Some e) c = with_calls b e c

abbrev pub with_starts : Bound → List Local → Numbers → Numbers
with_starts b [] c = c
with_starts b (x ∷ xs) c = with_starts b xs (with_start b x.start c)

-- what a function calls, and a procedure
abbrev pub calls_of_fun : Bound → Fun → Numbers
calls_of_fun b f = with_calls b f.body (with_starts b f.locals no_numbers)

abbrev pub calls_of_proc : Bound → Proc → Numbers
calls_of_proc b p = with_calls b p.body no_numbers

-- ---- in two or three parts

abbrev pub with_both : (first second : Tree) → Bound → Numbers → Numbers
with_both first second b c = with_calls b second (with_calls b first c)

abbrev pub with_three : (first second third : Tree) → Bound → Numbers → Numbers
with_three first second third b c = with_calls b third (with_both first second b c)

-- ---- what calls answer

abbrev pub AddsBy : Result (Unit {0}) AllocError → (Bound → Numbers → Numbers) → Bound
    → (old new : Numbers) → Type 0
AddsBy result adding b old new = OnOk result (new ≡ adding b old)

-- what this part calls was added
abbrev pub AddsCalls : Result (Unit {0}) AllocError → Tree → Bound → (old new : Numbers) → Type 0
AddsCalls result part b old new = OnOk result (new ≡ with_calls b part old)

-- ---- lists of parts as trees

abbrev pub exprs_tree : List Expr → Tree
exprs_tree exprs = listed (map expr_tree exprs)

abbrev pub gens_tree : List Gen → Tree
gens_tree gens = listed (map gen_tree gens)

abbrev pub type_args_tree : List TypeArg → Tree
type_args_tree args = listed (map type_arg_tree args)

abbrev pub vars_tree : List VarDecl → Tree
vars_tree vars = listed (map var_tree vars)

abbrev pub stmts_tree : List Stmt → Tree
stmts_tree stmts = listed (map stmt_tree stmts)

abbrev pub assign_tree : Ident → List Expr → Expr → (at : ℕ) → Tree
assign_tree name places value at =
    tree.assign (ident_tree name) (exprs_tree places) (expr_tree value) at

abbrev pub if_stmt_tree : Expr → List Stmt → Option (Vec Stmt Heap) → (at : ℕ) → Tree
if_stmt_tree test first other at =
    tree.if_stmt (expr_tree test) (stmts_tree first) (body_tree other) at

abbrev pub foreach_tree : TypeExpr → Ident → (from to : Expr) → List Stmt → (at : ℕ) → Tree
foreach_tree shape name from to body at =
    tree.foreach_stmt (type_tree shape) (ident_tree name) (expr_tree from) (expr_tree to)
    (stmts_tree body) at

-- ---- which have routines

-- a number is marked
abbrev pub is_made : List Bool → ℕ → Bool
is_made made k = slice_index_or made k false

-- a number is among these
abbrev pub IsAmong : List ℕ → ℕ → Type 0
IsAmong numbers k = (place : ℕ) × (slice_get numbers place ≡ Some k)

-- one of these isn't marked
abbrev pub LacksOne : List Bool → List ℕ → Type 0
LacksOne made numbers = (k : ℕ) × IsAmong numbers k × (is_made made k ≡ false)

-- how many aren't
abbrev pub unmade : List Bool → ℕ
unmade [] = 0
unmade (b ∷ bs) = (if b then 0 else 1) + unmade bs

-- none of so many is marked
abbrev pub none_made : ℕ → List Bool
none_made n = replicate n false

-- all of these are
abbrev pub AllMade : List Bool → List ℕ → Type 0
AllMade made numbers = (place k : ℕ) → slice_get numbers place ≡ Some k → is_made made k ≡ true
