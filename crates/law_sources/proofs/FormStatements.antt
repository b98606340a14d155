-- Statements whose names are written out in full: their form and their calls.
use Rattle.std.proofs.Common.{ℕ, List, [], ◌∷◌}
use Rattle.cal_ast.specs.Tree as tree
use Rattle.cal_ast.specs.Tree.{Tree, listed}
use Rattle.cal_model.specs.Sound.{EachCall}
use Rattle.cal_check.specs.Formed.{AreFormed, IsFormed}
use Rattle.cal_scope.specs.declared.role.Role.TheVariants.{Variable, Procedure}
use Rattle.cal_scope.specs.Expressions.{declared_by, expr_resolved, exprs_resolved, type_resolved}
use Rattle.cal_scope.specs.Names.{Names, used_as, within}
use Rattle.cal_scope.specs.Statements.{else_resolved, stmt_resolved, stmts_resolved, vars_resolved}
use Rattle.law_sources.proofs.FormExpressions.{Call, Calls, expr_calls, exprs_calls, type_calls}
use Rattle.law_sources.proofs.FormJudgements.{OnFine, Any, any_fine, so_one, so_two, so_three, so_four}
use Rattle.law_sources.proofs.Meant.{AreMeant, procedure_meant}
use Rattle.law_sources.proofs.Shaped.{AreShaped, IsShaped, IsShapedElse}
use Rattle.law_sources.proofs.Variables.{AreBlockVars, block_vars}

abbrev pub IsStmt : (F P : List ℕ → Type 0) → Tree → Type 0
IsStmt F P r = IsFormed r × EachCall F P r

abbrev pub AreStmts : (F P : List ℕ → Type 0) → List Tree → Type 0
AreStmts F P rs = AreFormed (listed rs) × EachCall F P (listed rs)

abbrev pub IsElse : (F P : List ℕ → Type 0) → Tree → Type 0
IsElse F P r = AreFormed r × EachCall F P r

mutual
  stmt_formed : (F P : List ℕ → Type 0) (s : Tree) (names : Names) → IsShaped s → AreMeant F P names.globals → OnFine (IsStmt F P) (stmt_resolved s names)
  stmt_formed F P (tree.assign (tree.ident name place) places value at) names s h =
      so_three (IsStmt F P) (λ x. Any x) (Calls F P) (Call F P) (used_as Variable name place names) (exprs_resolved places names) (expr_resolved value names)
      (λ full ps v. tree.assign (tree.ident full place) (listed ps) v at) (any_fine (used_as Variable name place names))
      (exprs_calls F P P places names h) (expr_calls F P P value names h) (λ full ps v i j k. (tt, (j, k)))
  stmt_formed F P (tree.call_stmt (tree.ident name place) args at) names s h =
      so_two (IsStmt F P) P (Calls F P) (used_as Procedure name place names) (exprs_resolved args names)
      (λ full es. tree.call_stmt (tree.ident full place) (listed es) at) (procedure_meant F P name place names h)
      (exprs_calls F P P args names h) (λ full es i j. (tt, (i, j)))
  stmt_formed F P (tree.if_stmt test first other at) names s h =
      so_three (IsStmt F P) (Call F P) (AreStmts F P) (IsElse F P) (expr_resolved test names) (stmts_resolved first names) (else_resolved other names)
      (λ c a b. tree.if_stmt c (listed a) b at) (expr_calls F P P test names h) (stmts_formed F P first names s.0 h) (else_formed F P other names s.1 h)
      (λ c a b i j k. ((j.0, k.0), (i, j.1, k.1)))
  stmt_formed F P (tree.while_stmt test body at) names s h =
      so_two (IsStmt F P) (Call F P) (AreStmts F P) (expr_resolved test names) (stmts_resolved body names)
      (λ c b. tree.while_stmt c (listed b) at) (expr_calls F P P test names h) (stmts_formed F P body names s h)
      (λ c b i j. (j.0, (i, j.1)))
  stmt_formed F P (tree.foreach_stmt shape (tree.ident name place) from to body at) names s h =
      so_four (IsStmt F P) (Call F P) (Call F P) (Call F P) (AreStmts F P) (type_resolved shape names) (expr_resolved from names) (expr_resolved to names)
      (stmts_resolved body (within (name ∷ []) names)) (λ t a b ss. tree.foreach_stmt t (tree.ident name place) a b (listed ss) at)
      (type_calls F P P shape names h) (expr_calls F P P from names h) (expr_calls F P P to names h)
      (stmts_formed F P body (within (name ∷ []) names) s h) (λ t a b ss i j k l. (l.0, (i, j, k, l.1)))
  stmt_formed F P (tree.block vars body at) names s h =
      so_two (IsStmt F P) (AreBlockVars F P) (AreStmts F P) (vars_resolved vars [] names) (stmts_resolved body (within (declared_by vars []) names))
      (λ vs ss. tree.block (listed vs) (listed ss) at) (block_vars F P P vars names s.0 h)
      (stmts_formed F P body (within (declared_by vars []) names) s.1 h)
      (λ vs ss i j. ((i.declared, i.distinct_names, j.0), (i.calls, j.1)))
  stmt_formed F P _ names s h = tt

  pub stmts_formed : (F P : List ℕ → Type 0) (ss : Tree) (names : Names) → AreShaped ss → AreMeant F P names.globals → OnFine (AreStmts F P) (stmts_resolved ss names)
  stmts_formed F P tree.nil names s h = (tt, tt)
  stmts_formed F P (tree.cons t ts) names s h =
      so_two (AreStmts F P) (IsStmt F P) (AreStmts F P) (stmt_resolved t names) (stmts_resolved ts names) (λ r rs. r ∷ rs)
      (stmt_formed F P t names s.0 h) (stmts_formed F P ts names s.1 h) (λ r rs i j. ((i.0, j.0), (i.1, j.1)))
  stmts_formed F P _ names s h = tt

  pub else_formed : (F P : List ℕ → Type 0) (ss : Tree) (names : Names) → IsShapedElse ss → AreMeant F P names.globals → OnFine (IsElse F P) (else_resolved ss names)
  else_formed F P tree.absent names s h = (tt, tt)
  else_formed F P (tree.present ss) names s h =
      so_one (IsElse F P) (AreStmts F P) (stmts_resolved ss names) (λ rs. tree.present (listed rs)) (stmts_formed F P ss names s h) (λ rs i. i)
  else_formed F P _ names s h = absurd s
