-- The calls in expressions and types whose names are written out in full.
use Rattle.std.proofs.Common.{ℕ, Bool, true, false, List, [], ◌∷◌}
use Rattle.std.specs.Prelude.{if◌then◌else◌}
use Rattle.rvc_base.specs.Rules.{unknown_name}
use Rattle.cal_ast.specs.Tree as tree
use Rattle.cal_ast.specs.Tree.{Tree, listed}
use Rattle.cal_model.specs.Kinding.{Fine, Broken, and_so, is_word}
use Rattle.cal_model.specs.Sound.{EachCall}
use Rattle.cal_check.specs.Formed.{IsOptional}
use Rattle.cal_scope.specs.declared.role.Role.TheVariants.{Variable, Function}
use Rattle.cal_scope.specs.Expressions.{declared_by, declared_name, expr_resolved, exprs_resolved, gen_resolved, gens_resolved, optional_resolved, type_arg_resolved, type_args_resolved, type_resolved}
use Rattle.cal_scope.specs.Names.{Names, used_as, with_name, within}
use Rattle.law_sources.proofs.FormJudgements.{OnFine, Any, any_fine, so_one, so_two, so_three}
use Rattle.law_sources.proofs.Meant.{AreMeant, function_meant}

-- all calls of the parts that are given are such; Q is of the procedures, which no expression calls
abbrev pub Call : (F Q : List ℕ → Type 0) → Tree → Type 0
Call F Q x = EachCall F Q x

abbrev pub Calls : (F Q : List ℕ → Type 0) → List Tree → Type 0
Calls F Q xs = EachCall F Q (listed xs)

if_word : (F Q : List ℕ → Type 0) (b : Bool) (name : List ℕ) (place at : ℕ) (args : Tree) (names : Names)
    → OnFine (Call F Q) (and_so (type_args_resolved args names) (λ given. Fine (tree.type_of (tree.ident name place) (listed given) at)))
    → OnFine (Call F Q) (if b then and_so (type_args_resolved args names) (λ given. Fine (tree.type_of (tree.ident name place) (listed given) at)) else Broken unknown_name place)
if_word F Q true name place at args names h = h
if_word F Q false name place at args names h = tt

mutual
  pub expr_calls : (F P Q : List ℕ → Type 0) (e : Tree) (names : Names) → AreMeant F P names.globals → OnFine (Call F Q) (expr_resolved e names)
  expr_calls F P Q (tree.number n at) names h = tt
  expr_calls F P Q (tree.truth b at) names h = tt
  expr_calls F P Q (tree.variable name at) names h =
      so_one (Call F Q) (λ x. Any x) (used_as Variable name at names) (λ full. tree.variable full at) (any_fine (used_as Variable name at names)) (λ full i. tt)
  expr_calls F P Q (tree.call name args at) names h =
      so_two (Call F Q) F (Calls F Q) (used_as Function name at names) (exprs_resolved args names) (λ full es. tree.call full (listed es) at)
      (function_meant F P name at names h) (exprs_calls F P Q args names h) (λ full es i j. (i, j))
  expr_calls F P Q (tree.paren e at) names h =
      so_one (Call F Q) (Call F Q) (expr_resolved e names) (λ r. tree.paren r at) (expr_calls F P Q e names h) (λ r i. i)
  expr_calls F P Q (tree.if_expr test first other at) names h =
      so_three (Call F Q) (Call F Q) (Call F Q) (Call F Q) (expr_resolved test names) (expr_resolved first names) (expr_resolved other names)
      (λ c a b. tree.if_expr c a b at) (expr_calls F P Q test names h) (expr_calls F P Q first names h) (expr_calls F P Q other names h)
      (λ c a b i j k. (i, j, k))
  expr_calls F P Q (tree.list items at) names h =
      so_one (Call F Q) (Calls F Q) (exprs_resolved items names) (λ es. tree.list (listed es) at) (exprs_calls F P Q items names h) (λ es i. i)
  expr_calls F P Q (tree.comp item gens at) names h =
      so_two (Call F Q) (Calls F Q) (Call F Q) (gens_resolved gens [] names) (expr_resolved item (within (declared_by gens []) names))
      (λ gs e. tree.comp e (listed gs) at) (gens_calls F P Q gens [] names h) (expr_calls F P Q item (within (declared_by gens []) names) h)
      (λ gs e i j. (j, i))
  expr_calls F P Q (tree.index base place at) names h =
      so_two (Call F Q) (Call F Q) (Call F Q) (expr_resolved base names) (expr_resolved place names) (λ b p. tree.index b p at)
      (expr_calls F P Q base names h) (expr_calls F P Q place names h) (λ b p i j. (i, j))
  expr_calls F P Q (tree.prefix op e at) names h =
      so_one (Call F Q) (Call F Q) (expr_resolved e names) (λ r. tree.prefix op r at) (expr_calls F P Q e names h) (λ r i. i)
  expr_calls F P Q (tree.binary op l r at) names h =
      so_two (Call F Q) (Call F Q) (Call F Q) (expr_resolved l names) (expr_resolved r names) (λ a b. tree.binary op a b at)
      (expr_calls F P Q l names h) (expr_calls F P Q r names h) (λ a b i j. (i, j))
  expr_calls F P Q _ names h = tt

  pub exprs_calls : (F P Q : List ℕ → Type 0) (es : Tree) (names : Names) → AreMeant F P names.globals → OnFine (Calls F Q) (exprs_resolved es names)
  exprs_calls F P Q tree.nil names h = tt
  exprs_calls F P Q (tree.cons e es) names h =
      so_two (Calls F Q) (Call F Q) (Calls F Q) (expr_resolved e names) (exprs_resolved es names) (λ r rs. r ∷ rs)
      (expr_calls F P Q e names h) (exprs_calls F P Q es names h) (λ r rs i j. (i, j))
  exprs_calls F P Q _ names h = tt

  pub gens_calls : (F P Q : List ℕ → Type 0) (gs : Tree) (here : List (List ℕ)) (names : Names) → AreMeant F P names.globals → OnFine (Calls F Q) (gens_resolved gs here names)
  gens_calls F P Q tree.nil here names h = tt
  gens_calls F P Q (tree.cons g gs) here names h =
      so_two (Calls F Q) (Call F Q) (Calls F Q) (gen_resolved g (within here names)) (gens_resolved gs (with_name (declared_name g) here) names) (λ r rs. r ∷ rs)
      (gen_calls F P Q g (within here names) h) (gens_calls F P Q gs (with_name (declared_name g) here) names h) (λ r rs i j. (i, j))
  gens_calls F P Q _ here names h = tt

  gen_calls : (F P Q : List ℕ → Type 0) (g : Tree) (names : Names) → AreMeant F P names.globals → OnFine (Call F Q) (gen_resolved g names)
  gen_calls F P Q (tree.gen shape name from to at) names h =
      so_three (Call F Q) (Call F Q) (Call F Q) (Call F Q) (type_resolved shape names) (expr_resolved from names) (expr_resolved to names)
      (λ t a b. tree.gen t name a b at) (type_calls F P Q shape names h) (expr_calls F P Q from names h) (expr_calls F P Q to names h)
      (λ t a b i j k. (i, j, k))
  gen_calls F P Q _ names h = tt

  pub type_calls : (F P Q : List ℕ → Type 0) (t : Tree) (names : Names) → AreMeant F P names.globals → OnFine (Call F Q) (type_resolved t names)
  type_calls F P Q (tree.type_of (tree.ident name place) args at) names h =
      if_word F Q (is_word name) name place at args names
      (so_one (Call F Q) (Calls F Q) (type_args_resolved args names) (λ given. tree.type_of (tree.ident name place) (listed given) at)
      (type_args_calls F P Q args names h) (λ given i. i))
  type_calls F P Q _ names h = tt

  type_args_calls : (F P Q : List ℕ → Type 0) (args : Tree) (names : Names) → AreMeant F P names.globals → OnFine (Calls F Q) (type_args_resolved args names)
  type_args_calls F P Q tree.nil names h = tt
  type_args_calls F P Q (tree.cons arg args) names h =
      so_two (Calls F Q) (Call F Q) (Calls F Q) (type_arg_resolved arg names) (type_args_resolved args names) (λ r rs. r ∷ rs)
      (type_arg_calls F P Q arg names h) (type_args_calls F P Q args names h) (λ r rs i j. (i, j))
  type_args_calls F P Q _ names h = tt

  type_arg_calls : (F P Q : List ℕ → Type 0) (arg : Tree) (names : Names) → AreMeant F P names.globals → OnFine (Call F Q) (type_arg_resolved arg names)
  type_arg_calls F P Q (tree.shape_arg name shape) names h =
      so_one (Call F Q) (Call F Q) (type_resolved shape names) (λ t. tree.shape_arg name t) (type_calls F P Q shape names h) (λ t i. i)
  type_arg_calls F P Q (tree.value_arg name value) names h =
      so_one (Call F Q) (Call F Q) (expr_resolved value names) (λ e. tree.value_arg name e) (expr_calls F P Q value names h) (λ e i. i)
  type_arg_calls F P Q _ names h = tt

pub optional_calls : (F P Q : List ℕ → Type 0) (e : Tree) (names : Names) → IsOptional e → AreMeant F P names.globals
    → OnFine (λ r. IsOptional r × EachCall F Q r) (optional_resolved e names)
optional_calls F P Q tree.absent names o h = (tt, tt)
optional_calls F P Q (tree.present e) names o h =
    so_one (λ r. IsOptional r × EachCall F Q r) (Call F Q) (expr_resolved e names) (λ r. tree.present r) (expr_calls F P Q e names h) (λ r i. (tt, i))
optional_calls F P Q _ names o h = absurd o
