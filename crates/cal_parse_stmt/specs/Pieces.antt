-- Pieces of the rules that functions of their own read: the rest of a rule, or its front.
-- Not trusted: no promise is read with it.
use Rattle.std.specs.Prelude.{◌≡◌, ℕ, List, Result, Ok, Err}
use Rattle.cal_grammar.specs.Program.{Gave, exec, give, invoke, enter}
use Rattle.cal_ast.specs.Tree.{Tree, nil, present, assign, call_stmt}
use Rattle.cal_ast.specs.View.{ident_tree, type_tree, expr_tree, stmt_tree}
use Rattle.cal_ast.specs.declared.stmt.Stmt.{Stmt}
use Rattle.cal_lexer.specs.Lexeme.{Lexeme, placed, plain_tokens}
use Rattle.cal_lexer.specs.declared.token.Token.{Token}
use Rattle.cal_parse_base.specs.declared.fault.Fault.{Fault}
use Rattle.cal_parse_stmt.specs.declared.stmts.Bounds.{Bounds}
use Rattle.cal_grammar.specs.Spells.{comma, separated, any, repeated, a_type, a_var, a_place, a_stmt, an_expr}
use Rattle.cal_grammar.specs.Rules.{part, Step, read, on, expect, named, finish, ident_of, if_stmt_body}
use Rattle.cal_parse_base.specs.Tells.{TellsFault}

-- an expression, and what is made of it
abbrev pub value_then : (Tree → Tree) → Step
value_then make = invoke (part an_expr) (λ x. give (make x))

-- the statements behind `else`, with the end of the `if`
abbrev pub else_rest : Step
else_rest = invoke (part (repeated a_stmt)) (λ ys. finish Lexeme.If (give (present ys)))

-- an expression with a word behind it
abbrev pub expr_then : Lexeme → (Tree → Step) → Step
expr_then w next = enter (part an_expr) (λ x. expect w (next x))

-- the statements inside of another, with its end
abbrev pub body_then : Lexeme → (Tree → Step) → Step
body_then v next = enter (part (repeated a_stmt)) (λ ys. finish v (next ys))

-- the variables of a block with the word behind them, or none
abbrev pub vars_then : (Tree → Step) → Step
vars_then next = on Lexeme.Var
    (enter (part (separated comma a_var)) (λ xs. expect Lexeme.Do (next xs))) (next nil)

-- what a loop runs over, with the word behind it
abbrev pub range_then : (Tree → Tree → Tree → Tree → Step) → Step
range_then next = enter (part a_type)
    (λ shape. named (λ i. expect Lexeme.In
    (enter (part an_expr) (λ x. expect Lexeme.DotDot
    (enter (part an_expr) (λ y. expect Lexeme.Do (next shape (ident_of i) x y)))))))

-- a call behind its name and a parenthesis, an assignment behind its name
abbrev pub call_rest : Tree → ℕ → Step
call_rest name q = enter (part (any comma an_expr))
    (λ xs. expect Lexeme.RightParen (expect Lexeme.Semicolon (give (call_stmt name xs q))))

abbrev pub assign_rest : Tree → ℕ → Step
assign_rest name q = enter (part (repeated a_place))
    (λ xs. expect Lexeme.Assign (enter (part an_expr)
    (λ x. expect Lexeme.Semicolon (give (assign name xs x q)))))

-- what is given is what the front of a program reads, whatever goes on behind it with the tree
abbrev pub Leads : {A : Type 0} → (A → Tree) → ℕ → ((Tree → Step) → Step) → Result A Fault
    → List Token → List Token → Type 0
Leads view m p (Ok x) old new = (next : Tree → Step)
    → exec read m (p next) (plain_tokens old) ≡ exec read m (next (view x)) (plain_tokens new)
Leads view m p (Err fault) old new = (next : Tree → Step)
    → TellsFault fault new (exec read m (p next) (plain_tokens old))

-- the same of what a loop runs over
abbrev pub LeadsRange : ℕ → Result Bounds Fault → List Token → List Token → Type 0
LeadsRange m (Ok r) old new = (next : Tree → Tree → Tree → Tree → Step)
    → exec read m (range_then next) (plain_tokens old)
    ≡ exec read m (next (type_tree r.shape) (ident_tree r.name) (expr_tree r.from) (expr_tree r.to))
    (plain_tokens new)
LeadsRange m (Err fault) old new = (next : Tree → Tree → Tree → Tree → Step)
    → TellsFault fault new (exec read m (range_then next) (plain_tokens old))

-- what is given is what the rest of a rule reads
abbrev pub Does : {A : Type 0} → (A → Tree) → ℕ → Step → Result A Fault → List Token → List Token
    → Type 0
Does view m p (Ok x) old new = exec read m p (plain_tokens old) ≡ Gave (view x) (plain_tokens new)
Does view m p (Err fault) old new = TellsFault fault new (exec read m p (plain_tokens old))

-- the same of an `if` behind its first word, which stood at q, whatever is made of it
abbrev pub DoesIf : ℕ → ℕ → Result Stmt Fault → List Token → List Token → Type 0
DoesIf m q (Ok x) old new = (make : Tree → Tree) (w : Lexeme)
    → exec read m (if_stmt_body make (placed w q)) (plain_tokens old)
    ≡ Gave (make (stmt_tree x)) (plain_tokens new)
DoesIf m q (Err fault) old new = (make : Tree → Tree) (w : Lexeme)
    → TellsFault fault new (exec read m (if_stmt_body make (placed w q)) (plain_tokens old))
