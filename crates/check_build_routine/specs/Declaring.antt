-- Locals and formals as calls that build them answer.
-- Trusted but for `IsLocal`, `kind_or_number` and `shape_or_bool`: part of what a promise means.
use Rattle.std.specs.Prelude.{◌≡◌, ℕ, Bool, true, false, List, [], Option, None, Some}
use Rattle.rvc_base.specs.Rules.{unknown_name}
use Rattle.rvc_base.specs.declared.scalar.Scalar.TheVariants as scalar
use Rattle.cal_ast.specs.declared.expr.PrefixOp.TheVariants.{Not}
use Rattle.cal_ast.specs.Tree as tree
use Rattle.cal_ast.specs.Tree.{Tree}
use Rattle.cal_model.specs.Actor.{Fun, Local, Proc}
use Rattle.cal_model.specs.Kinding.{Judged, Fine, Broken, Names, and_so, with_known}
use Rattle.cal_model.specs.Sound.{with_locals}
use Rattle.cal_model.specs.Value.{Kind, NumKind, Shape, Single, kind_of_type}
use Rattle.cal_model.specs.View.{local_view}
use Rattle.const_env.specs.Counting.{known_variable, variable_view}
use Rattle.cal_check.specs.Routines.{first_met, fun_if, local_of, locals_before, locals_of, proc_of, result_judged}
use Rattle.cal_check.specs.Statements.{names_behind, type_of_var}
use Rattle.cal_check.specs.Written.{behind_vars, with_inner, written}
use Rattle.check_build_routine.specs.declared.local.DeclaredLocal.{DeclaredLocal}

abbrev pub is_fine : {A : Type 0} → Judged A → Bool
is_fine (Fine a) = true
is_fine (Broken rule at) = false

-- what has no type is taken as a number where it is used, and as a truth value where it is declared
abbrev pub kind_or_number : Option Shape → Kind
kind_or_number None = NumKind
kind_or_number (Some t) = kind_of_type t

abbrev pub shape_or_bool : Option Shape → Shape
shape_or_bool None = Single scalar.Bool
shape_or_bool (Some t) = t

-- a local, what stands behind it sees of it, and whether it has a type
pub record IsLocal (found : DeclaredLocal) (v : Tree) (names : Names) : Type 0 where
  pub local : local_view found.local ≡ local_of v names
  pub variable : with_known (known_variable (variable_view found.variable)) names ≡ with_inner v names
  pub typed : found.typed ≡ is_fine (type_of_var v names)

-- what stands inside a function: its locals and its body, or what stands for them if the type of a local breaks a rule
abbrev pub inside_locals : Judged Names → Tree → Names → List Local
inside_locals (Fine inner) vars names = locals_of vars names
inside_locals (Broken rule at) vars names = locals_before vars names

abbrev pub inside_body : Judged Names → Tree → Tree → Names → Tree
inside_body (Fine inner) vars body names = written body (behind_vars vars names)
inside_body (Broken rule at) vars body names =
    tree.prefix Not (tree.list (first_met vars names) 0) 0

-- a function or a procedure whose formals these are
abbrev pub fun_behind : List ℕ → Tree → List Local → Names → Judged Fun
fun_behind full (tree.function name formals result vars body at) fs names =
    and_so (result_judged result fs names) (λ head.
    Fine (fun_if (names_behind vars (with_locals head.formals names)) full head vars body names))
fun_behind full other fs names = Broken unknown_name 0

abbrev pub proc_behind : Tree → List Local → Names → Proc
proc_behind (tree.procedure (tree.ident name place) formals vars body at) fs names =
    proc_of name fs vars body names
proc_behind other fs names = proc_of [] fs tree.nil tree.nil names
