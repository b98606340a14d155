-- The trees of statements.
use Rattle.std.proofs.Common.{◌≡◌, ℕ, map, Vec, Global, Option, Some, None, sym, ap, ◌∙◌, rules}
use Rattle.cal_ast.specs.Tree.{Tree, listed, if_stmt, while_stmt, foreach_stmt, block, assign, call_stmt}
use Rattle.cal_ast.specs.View.{body_tree, expr_tree, ident_tree, stmt_tree, stmt_form_tree, type_tree, var_tree, stmt_form_step, stmt_step}
use Rattle.cal_ast.specs.declared.expr.Expr.{Expr}
use Rattle.cal_ast.specs.declared.expr.TypeExpr.{TypeExpr}
use Rattle.cal_ast.specs.declared.ident.Ident.{Ident}
use Rattle.cal_ast.specs.declared.member.VarDecl.{VarDecl}
use Rattle.cal_ast.specs.declared.stmt.Stmt.{Stmt}
use Rattle.cal_ast.specs.declared.stmt.StmtForm.{StmtForm, Assign, Call, If, While, Foreach, Block}
use Rattle.cal_ast.specs.declared.stmt.StmtForm as stmts
use Rattle.cal_ast.specs.declared.stmt.StmtForm.TheVariants.{rolls-If}
use Rattle.cal_ast.specs.declared.stmt.StmtForm.TheOpen.{StmtForm-F}
use Rattle.cal_ast.specs.declared.stmt.StmtForm.TheFolds.{fold-roll-StmtForm}

form_if : (test : Expr) (first : Vec Stmt Global) (other : Option (Vec Stmt Global)) (at : ℕ) → stmt_form_tree (If test first other) at ≡ if_stmt (expr_tree test) (listed (map stmt_tree first.items)) (body_tree other) at
form_if test first None at = search (rules, stmts.the_lemmas)
form_if test first (Some other) at =
    ap (λ f. stmt_form_tree f at) (sym (rolls-If test first (Some other))) ∙ ap (λ f. f at) (fold-roll-StmtForm (ℕ → Tree) Tree stmt_form_step stmt_step (StmtForm-F.If test first (Some other)))

of_form : (form : StmtForm) (at : ℕ) → stmt_tree (record { form = form; at = at }) ≡ stmt_form_tree form at
of_form form at = search (rules, stmts.the_lemmas)

pub tree_if : (test : Expr) (first : Vec Stmt Global) (other : Option (Vec Stmt Global)) (at : ℕ) → stmt_tree (record { form = If test first other; at = at }) ≡ if_stmt (expr_tree test) (listed (map stmt_tree first.items)) (body_tree other) at
tree_if test first other at = of_form (If test first other) at ∙ form_if test first other at

pub tree_while : (test : Expr) (body : Vec Stmt Global) (at : ℕ) → stmt_tree (record { form = While test body; at = at }) ≡ while_stmt (expr_tree test) (listed (map stmt_tree body.items)) at
tree_while test body at = search (rules, stmts.the_lemmas)

pub tree_foreach : (shape : TypeExpr) (name : Ident) (from to : Expr) (body : Vec Stmt Global) (at : ℕ) → stmt_tree (record { form = Foreach shape name from to body; at = at }) ≡ foreach_stmt (type_tree shape) (ident_tree name) (expr_tree from) (expr_tree to) (listed (map stmt_tree body.items)) at
tree_foreach shape name from to body at = search (rules, stmts.the_lemmas)

pub tree_block : (vars : Vec VarDecl Global) (body : Vec Stmt Global) (at : ℕ) → stmt_tree (record { form = Block vars body; at = at }) ≡ block (listed (map var_tree vars.items)) (listed (map stmt_tree body.items)) at
tree_block vars body at = search (rules, stmts.the_lemmas)

pub tree_assign : (name : Ident) (places : Vec Expr Global) (value : Expr) (at : ℕ) → stmt_tree (record { form = Assign name places value; at = at }) ≡ assign (ident_tree name) (listed (map expr_tree places.items)) (expr_tree value) at
tree_assign name places value at = search (rules, stmts.the_lemmas)

pub tree_call : (name : Ident) (args : Vec Expr Global) (at : ℕ) → stmt_tree (record { form = Call name args; at = at }) ≡ call_stmt (ident_tree name) (listed (map expr_tree args.items)) at
tree_call name args at = search (rules, stmts.the_lemmas)
