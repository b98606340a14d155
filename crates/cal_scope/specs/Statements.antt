-- Variables and statements with each name written out in full, or the first rule of scope that they break (ISO/IEC
-- 23001-4, RVC-CAL: statements; CAL Language Report, scoping).
-- Trusted: part of what a promise means.
use Rattle.std.specs.Prelude.{ℕ, List, [], ◌∷◌, if◌then◌else◌}
use Rattle.rvc_base.specs.Rules.{unknown_name, declared_twice}
use Rattle.cal_ast.specs.Tree as tree
use Rattle.cal_ast.specs.Tree.{Tree, listed}
use Rattle.cal_model.specs.Kinding.{Judged, Fine, Broken, and_so}
use Rattle.cal_scope.specs.declared.role.Role.TheVariants.{Variable, Procedure}
use Rattle.cal_scope.specs.Names.{Names, is_among, used_as, with_name, within}
use Rattle.cal_scope.specs.Expressions.{declared_by, declared_name, expr_resolved, exprs_resolved, optional_resolved, type_resolved}

-- a variable of a scope that has declared the names `here`
abbrev pub var_resolved : Tree → List (List ℕ) → Names → Judged Tree
var_resolved (tree.var shape (tree.ident name place) start changes at) here names =
    if is_among name here then Broken declared_twice at
    else and_so (type_resolved shape names)
    (λ t. and_so (optional_resolved start names)
    (λ e. Fine (tree.var t (tree.ident name place) e changes at)))
var_resolved other here names = Broken unknown_name 0

-- Variables in the order in which they are declared: each sees those of its scope before it, and not itself.
abbrev pub vars_resolved : Tree → List (List ℕ) → Names → Judged (List Tree)
vars_resolved tree.nil here names = Fine []
vars_resolved (tree.cons v vs) here names =
    and_so (var_resolved v here (within here names))
    (λ r. and_so (vars_resolved vs (with_name (declared_name v) here) names)
    (λ rs. Fine (r ∷ rs)))
vars_resolved other here names = Broken unknown_name 0

abbrev mutual
  pub stmt_resolved : Tree → Names → Judged Tree
  stmt_resolved (tree.assign (tree.ident name place) places value at) names =
      and_so (used_as Variable name place names)
      (λ full. and_so (exprs_resolved places names)
      (λ ps. and_so (expr_resolved value names)
      (λ v. Fine (tree.assign (tree.ident full place) (listed ps) v at))))
  stmt_resolved (tree.call_stmt (tree.ident name place) args at) names =
      and_so (used_as Procedure name place names)
      (λ full. and_so (exprs_resolved args names)
      (λ es. Fine (tree.call_stmt (tree.ident full place) (listed es) at)))
  stmt_resolved (tree.if_stmt test first other at) names =
      and_so (expr_resolved test names)
      (λ c. and_so (stmts_resolved first names)
      (λ a. and_so (else_resolved other names) (λ b. Fine (tree.if_stmt c (listed a) b at))))
  stmt_resolved (tree.while_stmt test body at) names =
      and_so (expr_resolved test names)
      (λ c. and_so (stmts_resolved body names) (λ b. Fine (tree.while_stmt c (listed b) at)))
  -- only the body sees the loop's variable
  stmt_resolved (tree.foreach_stmt shape (tree.ident name place) from to body at) names =
      and_so (type_resolved shape names)
      (λ t. and_so (expr_resolved from names) (λ a. and_so (expr_resolved to names) (λ b.
      and_so (stmts_resolved body (within (name ∷ []) names))
      (λ s. Fine (tree.foreach_stmt t (tree.ident name place) a b (listed s) at)))))
  stmt_resolved (tree.block vars body at) names =
      and_so (vars_resolved vars [] names)
      (λ vs. and_so (stmts_resolved body (within (declared_by vars []) names))
      (λ s. Fine (tree.block (listed vs) (listed s) at)))
  -- what is no statement
  stmt_resolved other names = Broken unknown_name 0

  pub stmts_resolved : Tree → Names → Judged (List Tree)
  stmts_resolved tree.nil names = Fine []
  stmts_resolved (tree.cons s ss) names = and_so (stmt_resolved s names)
      (λ r. and_so (stmts_resolved ss names) (λ rs. Fine (r ∷ rs)))
  stmts_resolved other names = Broken unknown_name 0

  -- statements that may be missing
  pub else_resolved : Tree → Names → Judged Tree
  else_resolved (tree.present ss) names = and_so (stmts_resolved ss names)
      (λ rs. Fine (tree.present (listed rs)))
  else_resolved other names = Fine other
