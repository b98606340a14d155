-- Expressions and types with each name written out in full, or the first rule of scope that they break (ISO/IEC 23001-4,
-- RVC-CAL: expressions and types; CAL Language Report, scoping).
--
-- Parts come before wholes, and from left to right; a comprehension's generators come before its item, since it sees
-- them all. A rule is named with the place at which it is broken.
-- Trusted: part of what a promise means.
use Rattle.std.specs.Prelude.{ℕ, List, [], ◌∷◌, if◌then◌else◌}
use Rattle.rvc_base.specs.Rules.{unknown_name}
use Rattle.cal_ast.specs.Tree as tree
use Rattle.cal_ast.specs.Tree.{Tree, listed}
use Rattle.cal_model.specs.Kinding.{Judged, Fine, Broken, and_so, is_word}
use Rattle.cal_scope.specs.declared.role.Role.TheVariants.{Variable, Function}
use Rattle.cal_scope.specs.Names.{Names, used_as, with_name, within}

-- the name that a declaration declares: of a variable, a formal, a generator or a pattern variable
abbrev pub declared_name : Tree → List ℕ
declared_name (tree.var shape (tree.ident name place) start changes at) = name
declared_name (tree.port shape (tree.ident name place) at) = name
declared_name (tree.gen shape (tree.ident name place) from to at) = name
declared_name (tree.ident name at) = name
declared_name other = []

-- the names of a scope with those that these declarations declare
abbrev pub declared_by : Tree → List (List ℕ) → List (List ℕ)
declared_by (tree.cons t ts) here = declared_by ts (with_name (declared_name t) here)
declared_by other here = here

abbrev mutual
  pub expr_resolved : Tree → Names → Judged Tree
  expr_resolved (tree.number n at) names = Fine (tree.number n at)
  expr_resolved (tree.truth b at) names = Fine (tree.truth b at)
  expr_resolved (tree.variable name at) names = and_so (used_as Variable name at names)
      (λ full. Fine (tree.variable full at))
  expr_resolved (tree.call name args at) names =
      and_so (used_as Function name at names)
      (λ full. and_so (exprs_resolved args names) (λ es. Fine (tree.call full (listed es) at)))
  expr_resolved (tree.paren e at) names = and_so (expr_resolved e names)
      (λ r. Fine (tree.paren r at))
  expr_resolved (tree.if_expr test first other at) names =
      and_so (expr_resolved test names)
      (λ c. and_so (expr_resolved first names)
      (λ a. and_so (expr_resolved other names) (λ b. Fine (tree.if_expr c a b at))))
  expr_resolved (tree.list items at) names = and_so (exprs_resolved items names)
      (λ es. Fine (tree.list (listed es) at))
  expr_resolved (tree.comp item gens at) names =
      and_so (gens_resolved gens [] names)
      (λ gs. and_so (expr_resolved item (within (declared_by gens []) names))
      (λ e. Fine (tree.comp e (listed gs) at)))
  expr_resolved (tree.index base place at) names =
      and_so (expr_resolved base names)
      (λ b. and_so (expr_resolved place names) (λ p. Fine (tree.index b p at)))
  expr_resolved (tree.prefix op e at) names = and_so (expr_resolved e names)
      (λ r. Fine (tree.prefix op r at))
  expr_resolved (tree.binary op l r at) names =
      and_so (expr_resolved l names)
      (λ a. and_so (expr_resolved r names) (λ b. Fine (tree.binary op a b at)))
  -- what is no expression
  expr_resolved other names = Broken unknown_name 0

  pub exprs_resolved : Tree → Names → Judged (List Tree)
  exprs_resolved tree.nil names = Fine []
  exprs_resolved (tree.cons e es) names = and_so (expr_resolved e names)
      (λ r. and_so (exprs_resolved es names) (λ rs. Fine (r ∷ rs)))
  exprs_resolved other names = Broken unknown_name 0

  -- Generators that stand inside those of the names `here`. A generator sees those before it, and not itself; it may
  -- hide one before it.
  pub gens_resolved : Tree → List (List ℕ) → Names → Judged (List Tree)
  gens_resolved tree.nil here names = Fine []
  gens_resolved (tree.cons g gs) here names =
      and_so (gen_resolved g (within here names))
      (λ r. and_so (gens_resolved gs (with_name (declared_name g) here) names)
      (λ rs. Fine (r ∷ rs)))
  gens_resolved other here names = Broken unknown_name 0

  pub gen_resolved : Tree → Names → Judged Tree
  gen_resolved (tree.gen shape name from to at) names =
      and_so (type_resolved shape names)
      (λ t. and_so (expr_resolved from names)
      (λ a. and_so (expr_resolved to names) (λ b. Fine (tree.gen t name a b at))))
  gen_resolved other names = Broken unknown_name 0

  -- The names of types are words of the language: no declaration hides one.
  pub type_resolved : Tree → Names → Judged Tree
  type_resolved (tree.type_of (tree.ident name place) args at) names =
      if is_word name then and_so (type_args_resolved args names)
      (λ given. Fine (tree.type_of (tree.ident name place) (listed given) at))
      else Broken unknown_name place
  type_resolved other names = Broken unknown_name 0

  pub type_args_resolved : Tree → Names → Judged (List Tree)
  type_args_resolved tree.nil names = Fine []
  type_args_resolved (tree.cons arg args) names = and_so (type_arg_resolved arg names)
      (λ r. and_so (type_args_resolved args names) (λ rs. Fine (r ∷ rs)))
  type_args_resolved other names = Broken unknown_name 0

  pub type_arg_resolved : Tree → Names → Judged Tree
  type_arg_resolved (tree.shape_arg name shape) names = and_so (type_resolved shape names)
      (λ t. Fine (tree.shape_arg name t))
  type_arg_resolved (tree.value_arg name value) names = and_so (expr_resolved value names)
      (λ e. Fine (tree.value_arg name e))
  type_arg_resolved other names = Broken unknown_name 0

-- an expression that may be missing
abbrev pub optional_resolved : Tree → Names → Judged Tree
optional_resolved (tree.present e) names = and_so (expr_resolved e names)
    (λ r. Fine (tree.present r))
optional_resolved other names = Fine other
