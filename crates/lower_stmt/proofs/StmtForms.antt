-- The trees of statements by their forms.
use Rattle.std.proofs.Common.{◌≡◌, ℕ, List, map, Vec, Option, Some, None, Global, sym, ap, ◌∙◌, rules}
use Rattle.cal_ast.specs.Tree.{Tree, listed, assign, call_stmt, if_stmt, while_stmt, foreach_stmt, block}
use Rattle.cal_ast.specs.View.{expr_tree, type_tree, ident_tree, var_tree, stmt_tree, stmt_form_tree, body_tree, stmt_form_step, stmt_step}
use Rattle.cal_ast.specs.declared.expr.Expr.{Expr}
use Rattle.cal_ast.specs.declared.expr.TypeExpr.{TypeExpr}
use Rattle.cal_ast.specs.declared.ident.Ident.{Ident}
use Rattle.cal_ast.specs.declared.member.VarDecl.{VarDecl}
use Rattle.cal_ast.specs.declared.stmt.Stmt.{Stmt}
use Rattle.cal_ast.specs.declared.stmt.Stmt as holders
use Rattle.cal_ast.specs.declared.stmt.StmtForm.{Assign, Call, If, While, Foreach, Block}
use Rattle.cal_ast.specs.declared.stmt.StmtForm as stmts
use Rattle.cal_ast.specs.declared.stmt.StmtForm.TheVariants.{rolls-If}
use Rattle.cal_ast.specs.declared.stmt.StmtForm.TheOpen.{StmtForm-F}
use Rattle.cal_ast.specs.declared.stmt.StmtForm.TheFolds.{fold-roll-StmtForm}

stmt_is : (s : Stmt) → stmt_tree s ≡ stmt_form_tree s.form s.at
stmt_is s = search (rules, holders.the_lemmas)

form_assign : (name : Ident) (places : Vec Expr Global) (value : Expr) (at : ℕ) → stmt_form_tree (Assign name places value) at ≡ assign (ident_tree name) (listed (map expr_tree places.items)) (expr_tree value) at
form_assign name places value at = search (rules, stmts.the_lemmas)

form_call : (name : Ident) (args : Vec Expr Global) (at : ℕ) → stmt_form_tree (Call name args) at ≡ call_stmt (ident_tree name) (listed (map expr_tree args.items)) at
form_call name args at = search (rules, stmts.the_lemmas)

form_if : (test : Expr) (first : Vec Stmt Global) (other : Option (Vec Stmt Global)) (at : ℕ) → stmt_form_tree (If test first other) at ≡ if_stmt (expr_tree test) (listed (map stmt_tree first.items)) (body_tree other) at
form_if test first None at = search (rules, stmts.the_lemmas)
form_if test first (Some other) at =
    ap (λ f. stmt_form_tree f at) (sym (rolls-If test first (Some other))) ∙ ap (λ f. f at) (fold-roll-StmtForm (ℕ → Tree) Tree stmt_form_step stmt_step (StmtForm-F.If test first (Some other)))

form_while : (test : Expr) (body : Vec Stmt Global) (at : ℕ) → stmt_form_tree (While test body) at ≡ while_stmt (expr_tree test) (listed (map stmt_tree body.items)) at
form_while test body at = search (rules, stmts.the_lemmas)

form_foreach : (shape : TypeExpr) (name : Ident) (from to : Expr) (body : Vec Stmt Global) (at : ℕ)
    → stmt_form_tree (Foreach shape name from to body) at ≡ foreach_stmt (type_tree shape) (ident_tree name) (expr_tree from) (expr_tree to) (listed (map stmt_tree body.items)) at
form_foreach shape name from to body at = search (rules, stmts.the_lemmas)

form_block : (vars : Vec VarDecl Global) (body : Vec Stmt Global) (at : ℕ) → stmt_form_tree (Block vars body) at ≡ block (listed (map var_tree vars.items)) (listed (map stmt_tree body.items)) at
form_block vars body at = search (rules, stmts.the_lemmas)

pub stmt_assign : (s : Stmt) (name : Ident) (places : Vec Expr Global) (value : Expr) (ps : List Expr) → s.form ≡ Assign name places value → ps ≡ places.items
    → stmt_tree s ≡ assign (ident_tree name) (listed (map expr_tree ps)) (expr_tree value) s.at
stmt_assign s name places value ps h p =
    stmt_is s ∙ ap (λ f. stmt_form_tree f s.at) h ∙ form_assign name places value s.at
    ∙ ap (λ xs. assign (ident_tree name) (listed (map expr_tree xs)) (expr_tree value) s.at) (sym p)

pub stmt_call : (s : Stmt) (name : Ident) (args : Vec Expr Global) (es : List Expr) → s.form ≡ Call name args → es ≡ args.items
    → stmt_tree s ≡ call_stmt (ident_tree name) (listed (map expr_tree es)) s.at
stmt_call s name args es h p =
    stmt_is s ∙ ap (λ f. stmt_form_tree f s.at) h ∙ form_call name args s.at ∙ ap (λ xs. call_stmt (ident_tree name) (listed (map expr_tree xs)) s.at) (sym p)

pub stmt_if : (s : Stmt) (test : Expr) (first : Vec Stmt Global) (other : Option (Vec Stmt Global)) (ss : List Stmt) → s.form ≡ If test first other → ss ≡ first.items
    → stmt_tree s ≡ if_stmt (expr_tree test) (listed (map stmt_tree ss)) (body_tree other) s.at
stmt_if s test first other ss h p =
    stmt_is s ∙ ap (λ f. stmt_form_tree f s.at) h ∙ form_if test first other s.at
    ∙ ap (λ xs. if_stmt (expr_tree test) (listed (map stmt_tree xs)) (body_tree other) s.at) (sym p)

pub stmt_while : (s : Stmt) (test : Expr) (body : Vec Stmt Global) (ss : List Stmt) → s.form ≡ While test body → ss ≡ body.items
    → stmt_tree s ≡ while_stmt (expr_tree test) (listed (map stmt_tree ss)) s.at
stmt_while s test body ss h p =
    stmt_is s ∙ ap (λ f. stmt_form_tree f s.at) h ∙ form_while test body s.at ∙ ap (λ xs. while_stmt (expr_tree test) (listed (map stmt_tree xs)) s.at) (sym p)

pub stmt_foreach : (s : Stmt) (shape : TypeExpr) (name : Ident) (from to : Expr) (body : Vec Stmt Global) (ss : List Stmt) → s.form ≡ Foreach shape name from to body → ss ≡ body.items
    → stmt_tree s ≡ foreach_stmt (type_tree shape) (ident_tree name) (expr_tree from) (expr_tree to) (listed (map stmt_tree ss)) s.at
stmt_foreach s shape name from to body ss h p =
    stmt_is s ∙ ap (λ f. stmt_form_tree f s.at) h ∙ form_foreach shape name from to body s.at
    ∙ ap (λ xs. foreach_stmt (type_tree shape) (ident_tree name) (expr_tree from) (expr_tree to) (listed (map stmt_tree xs)) s.at) (sym p)

pub stmt_block : (s : Stmt) (vars : Vec VarDecl Global) (body : Vec Stmt Global) (vs : List VarDecl) (ss : List Stmt) → s.form ≡ Block vars body → vs ≡ vars.items → ss ≡ body.items
    → stmt_tree s ≡ block (listed (map var_tree vs)) (listed (map stmt_tree ss)) s.at
stmt_block s vars body vs ss h p q =
    stmt_is s ∙ ap (λ f. stmt_form_tree f s.at) h ∙ form_block vars body s.at
    ∙ ap (λ xs. block (listed (map var_tree xs)) (listed (map stmt_tree body.items)) s.at) (sym p)
    ∙ ap (λ xs. block (listed (map var_tree vs)) (listed (map stmt_tree xs)) s.at) (sym q)
