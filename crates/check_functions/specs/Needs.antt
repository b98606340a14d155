-- What functions need where they stand: the names that are said in what must be constant in them, the sizes of types and
-- the bounds of generators, and the functions that are called there.
-- Trusted but for `AddsTo`, `AddsNeeds`, `with_both`, `with_three`, `with_comp` and the lists of parts as
-- trees: part of what a promise means.
use Rattle.std.specs.Prelude.{◌≡◌, ℕ, Bool, true, false, List, [], ◌∷◌, OnOk, map, if◌then◌else◌}
use Rattle.std.specs.declared.result.Result.{Result}
use Rattle.rvc_base.specs.declared.memory.Memory.{Memory}
use Rattle.cal_ast.specs.Tree as tree
use Rattle.cal_ast.specs.Tree.{Tree, listed}
use Rattle.cal_ast.specs.View.{expr_tree, gen_tree, port_tree, type_arg_tree, var_tree}
use Rattle.cal_ast.specs.declared.expr.Expr.{Expr}
use Rattle.cal_ast.specs.declared.expr.Gen.{Gen}
use Rattle.cal_ast.specs.declared.expr.TypeArg.{TypeArg}
use Rattle.cal_ast.specs.declared.member.PortDecl.{PortDecl}
use Rattle.cal_ast.specs.declared.member.VarDecl.{VarDecl}
use Rattle.cal_model.specs.Tags.{with_seen}
use Rattle.cal_check.specs.Routines.{FunDecl}

-- names, and names of functions that are called, in order of first appearance
pub record Needed : Type 0 where
  pub names : List (List ℕ)
  pub calls : List (List ℕ)

abbrev pub nothing : Needed
nothing = record { names = []; calls = [] }

-- a name is said, or a function is called, in what must be constant or elsewhere

abbrev pub with_name : Bool → List ℕ → Needed → Needed
with_name constant name n =
    if constant then record { names = with_seen n.names name; calls = n.calls } else n

abbrev pub with_call : Bool → List ℕ → Needed → Needed
with_call constant name n =
    if constant then record { names = n.names; calls = with_seen n.calls name } else n

-- what a part needs besides, all of which must be constant or not
abbrev pub with_needs : Bool → Tree → Needed → Needed
with_needs constant (tree.variable text at) n = with_name constant text n
with_needs constant (tree.call text args at) n =
    with_needs constant args (with_call constant text n)
with_needs constant (tree.cons t ts) n = with_needs constant ts (with_needs constant t n)
with_needs constant (tree.present t) n = with_needs constant t n
with_needs constant (tree.paren e at) n = with_needs constant e n
with_needs constant (tree.if_expr test first other at) n =
    with_needs constant other (with_needs constant first (with_needs constant test n))
with_needs constant (tree.list items at) n = with_needs constant items n
with_needs constant (tree.comp item gens at) n = with_needs true gens (with_needs constant item n)
with_needs constant (tree.gen shape x from to at) n =
    with_needs true to (with_needs true from (with_needs true shape n))
with_needs constant (tree.index base place at) n =
    with_needs constant place (with_needs constant base n)
with_needs constant (tree.prefix op e at) n = with_needs constant e n
with_needs constant (tree.binary op l r at) n = with_needs constant r (with_needs constant l n)
with_needs constant (tree.type_of x args at) n = with_needs true args n
with_needs constant (tree.shape_arg x shape) n = with_needs true shape n
with_needs constant (tree.value_arg x value) n = with_needs true value n
with_needs constant (tree.port shape x at) n = with_needs true shape n
with_needs constant (tree.var shape x start changes at) n =
    with_needs false start (with_needs true shape n)
with_needs constant (tree.function x formals result vars body at) n =
    with_needs false body
    (with_needs false vars (with_needs true result (with_needs false formals n)))
with_needs constant other n = n

-- .. of several functions
abbrev pub with_funs_needs : List FunDecl → Needed → Needed
with_funs_needs [] n = n
with_funs_needs (f ∷ fs) n = with_funs_needs fs (with_needs false f.decl n)

abbrev pub needs_of : List FunDecl → Needed
needs_of fs = with_funs_needs fs nothing

-- ---- what calls answer

abbrev pub AddsTo : Result (Unit {0}) Memory → (Needed → Needed) → (old new : Needed) → Type 0
AddsTo result adding old new = OnOk result (new ≡ adding old)

-- what this part needs was added
abbrev pub AddsNeeds : Result (Unit {0}) Memory → Bool → Tree → (old new : Needed) → Type 0
AddsNeeds result constant part old new = OnOk result (new ≡ with_needs constant part old)

-- .. with what two or three parts need

abbrev pub with_both : Bool → (first second : Tree) → Needed → Needed
with_both constant first second n = with_needs constant second (with_needs constant first n)

abbrev pub with_three : Bool → (first second third : Tree) → Needed → Needed
with_three constant first second third n =
    with_needs constant third (with_both constant first second n)

abbrev pub with_comp : Bool → (item gens : Tree) → Needed → Needed
with_comp constant item gens n = with_needs true gens (with_needs constant item n)

-- ---- lists of parts as trees

abbrev pub exprs_tree : List Expr → Tree
exprs_tree exprs = listed (map expr_tree exprs)

abbrev pub gens_tree : List Gen → Tree
gens_tree gens = listed (map gen_tree gens)

abbrev pub type_args_tree : List TypeArg → Tree
type_args_tree args = listed (map type_arg_tree args)

abbrev pub formals_tree : List PortDecl → Tree
formals_tree formals = listed (map port_tree formals)

abbrev pub vars_tree : List VarDecl → Tree
vars_tree vars = listed (map var_tree vars)
