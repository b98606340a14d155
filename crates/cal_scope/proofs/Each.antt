-- Lists of expressions, generators and arguments of types as parts in order.
use Rattle.std.proofs.Common.{◌≡◌, ℕ, List, [], ◌∷◌, map, refl, ap}
use Rattle.cal_ast.specs.Tree.{Tree, listed}
use Rattle.cal_ast.specs.View.{expr_tree, gen_tree, type_arg_tree}
use Rattle.cal_ast.specs.declared.expr.Expr.{Expr}
use Rattle.cal_ast.specs.declared.expr.Gen.{Gen}
use Rattle.cal_ast.specs.declared.expr.TypeArg.{TypeArg}
use Rattle.cal_model.specs.Kinding.{Judged, Fine, and_so}
use Rattle.cal_scope.specs.Names.{Names, with_name, within}
use Rattle.cal_scope.specs.Expressions.{declared_name, expr_resolved, exprs_resolved, gen_resolved, gens_resolved, type_arg_resolved, type_args_resolved}
use Rattle.cal_scope.proofs.Judged.{so_ext}
use Rattle.cal_scope.proofs.Loops.{each_in}

-- what is seen stays the same
abbrev pub stay : {A : Type 0} → A → Names → Names
stay x names = names

abbrev pub expr_part : Expr → Names → Judged Tree
expr_part e names = expr_resolved (expr_tree e) names

abbrev pub type_arg_part : TypeArg → Names → Judged Tree
type_arg_part arg names = type_arg_resolved (type_arg_tree arg) names

abbrev pub gen_part : Names → Gen → List (List ℕ) → Judged Tree
gen_part names g here = gen_resolved (gen_tree g) (within here names)

abbrev pub gen_next : Gen → List (List ℕ) → List (List ℕ)
gen_next g here = with_name (declared_name (gen_tree g)) here

pub exprs_each : (es : List Expr) (names : Names) → exprs_resolved (listed (map expr_tree es)) names ≡ each_in expr_part stay es names
exprs_each [] names = refl
exprs_each (e ∷ es) names = so_ext (expr_part e names) _ _ (λ r. ap (λ o. and_so o (λ rs. Fine (r ∷ rs))) (exprs_each es names))

pub type_args_each : (args : List TypeArg) (names : Names) → type_args_resolved (listed (map type_arg_tree args)) names ≡ each_in type_arg_part stay args names
type_args_each [] names = refl
type_args_each (a ∷ args) names = so_ext (type_arg_part a names) _ _ (λ r. ap (λ o. and_so o (λ rs. Fine (r ∷ rs))) (type_args_each args names))

pub gens_each : (gs : List Gen) (here : List (List ℕ)) (names : Names) → gens_resolved (listed (map gen_tree gs)) here names ≡ each_in (gen_part names) gen_next gs here
gens_each [] here names = refl
gens_each (g ∷ gs) here names = so_ext (gen_part names g here) _ _ (λ r. ap (λ o. and_so o (λ rs. Fine (r ∷ rs))) (gens_each gs (gen_next g here) names))
