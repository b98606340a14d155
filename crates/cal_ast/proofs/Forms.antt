-- The forms whose parts are both trees and lists of trees: equal parts make equal forms. And what an action does, as a
-- part that may be missing.
use Rattle.std.proofs.Common.{◌≡◌, ℕ, map, option_map, Vec, Option, Some, None, Global, Box, refl, sym, ap, ◌∙◌, rules}
use Rattle.cal_ast.specs.Tree.{Tree, comp, if_stmt, listed}
use Rattle.cal_ast.specs.View.{expr_tree, form_tree, gen_tree, stmt_tree, stmt_form_tree, body_tree, optional, stmt_form_step, stmt_step}
use Rattle.cal_ast.specs.declared.expr.Expr.{Expr}
use Rattle.cal_ast.specs.declared.expr.Gen.{Gen}
use Rattle.cal_ast.specs.declared.expr.ExprForm.{Comp}
use Rattle.cal_ast.specs.declared.expr.ExprForm as forms
use Rattle.cal_ast.specs.declared.stmt.Stmt.{Stmt}
use Rattle.cal_ast.specs.declared.stmt.StmtForm.{StmtForm, If}
use Rattle.cal_ast.specs.declared.stmt.StmtForm as stmts
use Rattle.cal_ast.specs.declared.stmt.StmtForm.TheVariants.{rolls-If}
use Rattle.cal_ast.specs.declared.stmt.StmtForm.TheOpen.{StmtForm-F}
use Rattle.cal_ast.specs.declared.stmt.StmtForm.TheFolds.{fold-roll-StmtForm}

pub form_comp : (item : Box Expr Global) (gens : Vec Gen Global) (at : ℕ) → form_tree (Comp item gens) at ≡ comp (expr_tree item.value) (listed (map gen_tree gens.items)) at
form_comp item gens at = search (rules, forms.the_lemmas)

pub form_if : (test : Expr) (first : Vec Stmt Global) (other : Option (Vec Stmt Global)) (at : ℕ) → stmt_form_tree (If test first other) at ≡ if_stmt (expr_tree test) (listed (map stmt_tree first.items)) (body_tree other) at
form_if test first None at = search (rules, stmts.the_lemmas)
form_if test first (Some other) at =
    ap (λ f. stmt_form_tree f at) (sym (rolls-If test first (Some other))) ∙ ap (λ f. f at) (fold-roll-StmtForm (ℕ → Tree) Tree stmt_form_step stmt_step (StmtForm-F.If test first (Some other)))

pub body_parts : (body : Option (Vec Stmt Global)) → body_tree body ≡ optional (option_map (λ stmts. listed (map stmt_tree stmts.items)) body)
body_parts None = refl
body_parts (Some stmts) = refl
