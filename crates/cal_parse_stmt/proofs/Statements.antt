-- Statements: what the functions that read them do, exit by exit.
use Rattle.std.proofs.Common.{◌≡◌, ℕ, ◌-◌, ◌≤◌, true, false, nat_le, Result, List, [], ◌∷◌, map, Option, Some, Vec, Global, string_bytes, Ok, Err, refl, sym, ap, ◌∙◌, arith}
use Rattle.std.proofs.lemmas.Bool.{le-leb}
use Rattle.cal_grammar.specs.Program.{Gave, Refused, TooHigh, give, enter, take, fail, invoke, ahead, exec}
use Rattle.cal_ast.specs.Tree.{Tree, nil, cons, present, absent, listed, if_stmt, while_stmt, foreach_stmt, block, assign, call_stmt}
use Rattle.cal_ast.specs.View.{body_tree, expr_tree, ident_tree, stmt_tree, type_tree, var_tree}
use Rattle.cal_ast.specs.declared.expr.Expr.{Expr}
use Rattle.cal_ast.specs.declared.expr.TypeExpr.{TypeExpr}
use Rattle.cal_ast.specs.declared.ident.Ident.{Ident}
use Rattle.cal_ast.specs.declared.member.VarDecl.{VarDecl}
use Rattle.cal_ast.specs.declared.stmt.Stmt.{Stmt}
use Rattle.cal_lexer.specs.Lexeme.{Lexeme, Placed, placed, plain_tokens}
use Rattle.cal_lexer.specs.declared.token.Token.{Token}
use Rattle.cal_parse_base.specs.Cursor.{Took, TookName, TookWord, TookEnd, Stays, stands}
use Rattle.cal_grammar.specs.Operators.{ends}
use Rattle.cal_parse_stmt.specs.Pieces.{expr_then, body_then, vars_then, range_then, call_rest, assign_rest, else_rest, Does, DoesIf, Leads, LeadsRange}
use Rattle.cal_grammar.specs.Rules.{part, read, Step, on, expect, named, finish, first, starts_stmt, stmt_body, named_stmt_body, if_stmt_body, while_body, foreach_body, block_body, ident_of}
use Rattle.cal_grammar.specs.Spells.{Part, comma, separated, any, repeated, a_type, a_var, a_place, a_stmt, an_expr, otherwise}
use Rattle.cal_parse_base.specs.Tells.{Tells, TellsFault, each}
use Rattle.cal_grammar.specs.Token.{here, names, same_word}
use Rattle.cal_parse_base.specs.declared.fault.Fault.{Fault}
use Rattle.cal_parse_base.specs.declared.fault.Fault.TheVariants as faults
use Rattle.cal_parse_stmt.specs.declared.stmts.Bounds.{Bounds}
use Rattle.cal_grammar.proofs.Reading.{read_is}
use Rattle.cal_parse_stmt.proofs.Steps.{fault_on, on_yes, on_no, expect_yes, expect_no, expect_fails, named_yes, named_fails, finish_yes, finish_no, invoke_yes, invoke_fails, enter_yes, enter_fails, end_yes, end_no, first_no, first_yes}

-- an expression, and a word behind it

pub expr_fails : (m : ℕ) (w : Lexeme) (old new : List Token) (fault : Fault) → Tells expr_tree (m - 1) (part an_expr) (Err fault) old new → Leads expr_tree m (expr_then w) (Err fault) old new
expr_fails m w old new fault h = λ next. enter_fails m (part an_expr) (λ x. expect w (next x)) old new fault h

pub expr_alone : (m : ℕ) (w : Lexeme) (x : Expr) (old new : List Token) → Tells expr_tree (m - 1) (part an_expr) (Ok x) old new → stands (same_word w) new ≡ false → Leads expr_tree m (expr_then w) (Err faults.Refused) old new
expr_alone m w x old new h none = λ next. enter_yes m (part an_expr) (λ y. expect w (next y)) (expr_tree x) old new h ∙ expect_no m w (next (expr_tree x)) new none

pub expr_read : (m : ℕ) (w : Lexeme) (x : Expr) (old mid new : List Token) (q : ℕ) → Tells expr_tree (m - 1) (part an_expr) (Ok x) old mid → stands (same_word w) mid ≡ true → Took w q mid new → Leads expr_tree m (expr_then w) (Ok x) old new
expr_read m w x old mid new q h some took = λ next. enter_yes m (part an_expr) (λ y. expect w (next y)) (expr_tree x) old mid h ∙ on_yes m w (next (expr_tree x)) fail mid new q some took

-- the statements inside of another, and its end

pub body_fails : (m : ℕ) (v : Lexeme) (old new : List Token) (fault : Fault) → Tells (each stmt_tree) (m - 1) (part (repeated a_stmt)) (Err fault) old new → Leads (each stmt_tree) m (body_then v) (Err fault) old new
body_fails m v old new fault h = λ next. enter_fails m (part (repeated a_stmt)) (λ ys. finish v (next ys)) old new fault h

pub body_unfinished : (m : ℕ) (v : Lexeme) (ys : Vec Stmt Global) (old mid new : List Token) → Tells (each stmt_tree) (m - 1) (part (repeated a_stmt)) (Ok ys) old mid → Stays (ends v) mid new → Leads (each stmt_tree) m (body_then v) (Err faults.Refused) old new
body_unfinished m v ys old mid new h none = λ next. enter_yes m (part (repeated a_stmt)) (λ zs. finish v (next zs)) (each stmt_tree ys) old mid h ∙ finish_no m v (next (each stmt_tree ys)) mid new none

pub body_read : (m : ℕ) (v : Lexeme) (ys : Vec Stmt Global) (old mid new : List Token) → Tells (each stmt_tree) (m - 1) (part (repeated a_stmt)) (Ok ys) old mid → TookEnd v mid new → Leads (each stmt_tree) m (body_then v) (Ok ys) old new
body_read m v ys old mid new h took = λ next. enter_yes m (part (repeated a_stmt)) (λ zs. finish v (next zs)) (each stmt_tree ys) old mid h ∙ finish_yes m v (next (each stmt_tree ys)) mid new took

-- the variables of a block, and the word behind them

abbrev vars_last : (Tree → Step) → Tree → Step
vars_last next xs = expect Lexeme.Do (next xs)

pub vars_none : (m : ℕ) (vs : Vec VarDecl Global) (ts : List Token) → vs.items ≡ [] → stands (same_word Lexeme.Var) ts ≡ false → Leads (each var_tree) m vars_then (Ok vs) ts ts
vars_none m vs ts e none = λ next. on_no m Lexeme.Var (enter (part (separated comma a_var)) (vars_last next)) (next nil) ts none ∙ ap (λ l. exec read m (next (listed (map var_tree l))) (plain_tokens ts)) (sym e)

module _ (m q : ℕ) (old a : List Token) (some : stands (same_word Lexeme.Var) old ≡ true) (took : Took Lexeme.Var q old a) where
  vars_open : (next : Tree → Step) → exec read m (vars_then next) (plain_tokens old) ≡ exec read m (enter (part (separated comma a_var)) (vars_last next)) (plain_tokens a)
  vars_open next = on_yes m Lexeme.Var (enter (part (separated comma a_var)) (vars_last next)) (next nil) old a q some took

  pub vars_fail : (new : List Token) (fault : Fault) → Tells (each var_tree) (m - 1) (part (separated comma a_var)) (Err fault) a new → Leads (each var_tree) m vars_then (Err fault) old new
  vars_fail new fault h = λ next. fault_on fault new _ _ (vars_open next) (enter_fails m (part (separated comma a_var)) (vars_last next) a new fault h)

  pub vars_alone : (vs : Vec VarDecl Global) (b new : List Token) (fault : Fault) → Tells (each var_tree) (m - 1) (part (separated comma a_var)) (Ok vs) a b → TookWord Lexeme.Do (Err fault) b new → Leads (each var_tree) m vars_then (Err fault) old new
  vars_alone vs b new fault h none = λ next. fault_on fault new _ _ (vars_open next ∙ enter_yes m (part (separated comma a_var)) (vars_last next) (each var_tree vs) a b h) (expect_fails m Lexeme.Do (next (each var_tree vs)) b new fault none)

  pub vars_read : (vs : Vec VarDecl Global) (b new : List Token) (r : ℕ) → Tells (each var_tree) (m - 1) (part (separated comma a_var)) (Ok vs) a b → Took Lexeme.Do r b new → Leads (each var_tree) m vars_then (Ok vs) old new
  vars_read vs b new r h done = λ next. vars_open next ∙ enter_yes m (part (separated comma a_var)) (vars_last next) (each var_tree vs) a b h ∙ expect_yes m Lexeme.Do (next (each var_tree vs)) b new r refl done

-- what a loop runs over, and the word behind it

abbrev RangeNext : Type 0
RangeNext = Tree → Tree → Tree → Tree → Step

abbrev range_2 : RangeNext → Tree → Placed → Step
range_2 next shape i = expect Lexeme.In (expr_then Lexeme.DotDot (λ x. expr_then Lexeme.Do (λ y. next shape (ident_of i) x y)))

abbrev range_1 : RangeNext → Tree → Step
range_1 next shape = named (range_2 next shape)

pub range_fails : (m : ℕ) (old new : List Token) (fault : Fault) → TellsFault fault new (read (m - 1) (part a_type) (plain_tokens old)) → LeadsRange m (Err fault) old new
range_fails m old new fault h = λ next. enter_fails m (part a_type) (range_1 next) old new fault h

module _ (m : ℕ) (shape : TypeExpr) (old a : List Token) (got_shape : read (m - 1) (part a_type) (plain_tokens old) ≡ Gave (type_tree shape) (plain_tokens a)) where
  at_name : (next : RangeNext) → exec read m (range_then next) (plain_tokens old) ≡ exec read m (range_1 next (type_tree shape)) (plain_tokens a)
  at_name next = enter_yes m (part a_type) (range_1 next) (type_tree shape) old a got_shape

  pub range_no_name : (new : List Token) (fault : Fault) → TookName (Err fault) a new → LeadsRange m (Err fault) old new
  range_no_name new fault h = λ next. fault_on fault new _ _ (at_name next) (named_fails m (range_2 next (type_tree shape)) a new fault h)

  module _ (i : Ident) (b : List Token) (got_name : Took (Lexeme.Name (string_bytes i.text)) i.at a b) where
    at_in : (next : RangeNext) → exec read m (range_then next) (plain_tokens old) ≡ exec read m (range_2 next (type_tree shape) (placed (Lexeme.Name (string_bytes i.text)) i.at)) (plain_tokens b)
    at_in next = at_name next ∙ named_yes m (range_2 next (type_tree shape)) i a b got_name

    pub range_no_in : (new : List Token) (fault : Fault) → TookWord Lexeme.In (Err fault) b new → LeadsRange m (Err fault) old new
    range_no_in new fault h = λ next. fault_on fault new _ _ (at_in next) (expect_fails m Lexeme.In (expr_then Lexeme.DotDot (λ x. expr_then Lexeme.Do (λ y. next (type_tree shape) (ident_tree i) x y))) b new fault h)

    module _ (q : ℕ) (c : List Token) (got_in : Took Lexeme.In q b c) where
      at_from : (next : RangeNext) → exec read m (range_then next) (plain_tokens old) ≡ exec read m (expr_then Lexeme.DotDot (λ x. expr_then Lexeme.Do (λ y. next (type_tree shape) (ident_tree i) x y))) (plain_tokens c)
      at_from next = at_in next ∙ expect_yes m Lexeme.In (expr_then Lexeme.DotDot (λ x. expr_then Lexeme.Do (λ y. next (type_tree shape) (ident_tree i) x y))) b c q refl got_in

      pub range_no_from : (new : List Token) (fault : Fault) → Leads expr_tree m (expr_then Lexeme.DotDot) (Err fault) c new → LeadsRange m (Err fault) old new
      range_no_from new fault h = λ next. fault_on fault new _ _ (at_from next) (h (λ x. expr_then Lexeme.Do (λ y. next (type_tree shape) (ident_tree i) x y)))

      module _ (x : Expr) (d : List Token) (got_from : Leads expr_tree m (expr_then Lexeme.DotDot) (Ok x) c d) where
        at_to : (next : RangeNext) → exec read m (range_then next) (plain_tokens old) ≡ exec read m (expr_then Lexeme.Do (λ y. next (type_tree shape) (ident_tree i) (expr_tree x) y)) (plain_tokens d)
        at_to next = at_from next ∙ got_from (λ z. expr_then Lexeme.Do (λ y. next (type_tree shape) (ident_tree i) z y))

        pub range_no_to : (new : List Token) (fault : Fault) → Leads expr_tree m (expr_then Lexeme.Do) (Err fault) d new → LeadsRange m (Err fault) old new
        range_no_to new fault h = λ next. fault_on fault new _ _ (at_to next) (h (λ y. next (type_tree shape) (ident_tree i) (expr_tree x) y))

        pub range_read : (y : Expr) (new : List Token) → Leads expr_tree m (expr_then Lexeme.Do) (Ok y) d new → (next : RangeNext) → exec read m (range_then next) (plain_tokens old) ≡ exec read m (next (type_tree shape) (ident_tree i) (expr_tree x) (expr_tree y)) (plain_tokens new)
        range_read y new h next = at_to next ∙ h (λ z. next (type_tree shape) (ident_tree i) (expr_tree x) z)

-- an index

module _ (m q : ℕ) (old a : List Token) (opened : Took Lexeme.LeftBracket q old a) where
  place_at : read m (part a_place) (plain_tokens old) ≡ exec read m (invoke (part an_expr) (λ x. expect Lexeme.RightBracket (give x))) (plain_tokens a)
  place_at = read_is m (part a_place) (plain_tokens old) ∙ expect_yes m Lexeme.LeftBracket (invoke (part an_expr) (λ x. expect Lexeme.RightBracket (give x))) old a q refl opened

  pub place_fails : (new : List Token) (fault : Fault) → Tells expr_tree m (part an_expr) (Err fault) a new → Tells expr_tree m (part a_place) (Err fault) old new
  place_fails new fault h = fault_on fault new _ _ place_at (invoke_fails m (part an_expr) (λ x. expect Lexeme.RightBracket (give x)) a new fault h)

  module _ (x : Expr) (b : List Token) (got : Tells expr_tree m (part an_expr) (Ok x) a b) where
    place_inside : read m (part a_place) (plain_tokens old) ≡ exec read m (expect Lexeme.RightBracket (give (expr_tree x))) (plain_tokens b)
    place_inside = place_at ∙ invoke_yes m (part an_expr) (λ y. expect Lexeme.RightBracket (give y)) (expr_tree x) a b got

    pub place_open : (new : List Token) (fault : Fault) → TookWord Lexeme.RightBracket (Err fault) b new → Tells expr_tree m (part a_place) (Err fault) old new
    place_open new fault h = fault_on fault new _ _ place_inside (expect_fails m Lexeme.RightBracket (give (expr_tree x)) b new fault h)

    pub place_read : (new : List Token) (r : ℕ) → Took Lexeme.RightBracket r b new → Tells expr_tree m (part a_place) (Ok x) old new
    place_read new r h = place_inside ∙ expect_yes m Lexeme.RightBracket (give (expr_tree x)) b new r refl h

pub no_place : (m : ℕ) (old new : List Token) (fault : Fault) → TookWord Lexeme.LeftBracket (Err fault) old new → Tells expr_tree m (part a_place) (Err fault) old new
no_place m old new fault h = fault_on fault new _ _ (read_is m (part a_place) (plain_tokens old)) (expect_fails m Lexeme.LeftBracket (invoke (part an_expr) (λ x. expect Lexeme.RightBracket (give x))) old new fault h)

-- a call

abbrev call_2 : Tree → ℕ → Tree → Step
call_2 name q xs = expect Lexeme.Semicolon (give (call_stmt name xs q))

abbrev call_1 : Tree → ℕ → Tree → Step
call_1 name q xs = expect Lexeme.RightParen (call_2 name q xs)

pub call_fails : (m : ℕ) (i : Ident) (old new : List Token) (fault : Fault) → Tells (each expr_tree) (m - 1) (part (any comma an_expr)) (Err fault) old new → Does stmt_tree m (call_rest (ident_tree i) i.at) (Err fault) old new
call_fails m i old new fault h = enter_fails m (part (any comma an_expr)) (call_1 (ident_tree i) i.at) old new fault h

module _ (m : ℕ) (i : Ident) (xs : Vec Expr Global) (old a : List Token) (got : Tells (each expr_tree) (m - 1) (part (any comma an_expr)) (Ok xs) old a) where
  call_at : exec read m (call_rest (ident_tree i) i.at) (plain_tokens old) ≡ exec read m (call_1 (ident_tree i) i.at (each expr_tree xs)) (plain_tokens a)
  call_at = enter_yes m (part (any comma an_expr)) (call_1 (ident_tree i) i.at) (each expr_tree xs) old a got

  pub call_open : (new : List Token) (fault : Fault) → TookWord Lexeme.RightParen (Err fault) a new → Does stmt_tree m (call_rest (ident_tree i) i.at) (Err fault) old new
  call_open new fault h = fault_on fault new _ _ call_at (expect_fails m Lexeme.RightParen (call_2 (ident_tree i) i.at (each expr_tree xs)) a new fault h)

  module _ (q : ℕ) (b : List Token) (closed : Took Lexeme.RightParen q a b) where
    call_end : exec read m (call_rest (ident_tree i) i.at) (plain_tokens old) ≡ exec read m (call_2 (ident_tree i) i.at (each expr_tree xs)) (plain_tokens b)
    call_end = call_at ∙ expect_yes m Lexeme.RightParen (call_2 (ident_tree i) i.at (each expr_tree xs)) a b q refl closed

    pub call_endless : (new : List Token) (fault : Fault) → TookWord Lexeme.Semicolon (Err fault) b new → Does stmt_tree m (call_rest (ident_tree i) i.at) (Err fault) old new
    call_endless new fault h = fault_on fault new _ _ call_end (expect_fails m Lexeme.Semicolon (give (call_stmt (ident_tree i) (each expr_tree xs) i.at)) b new fault h)

    pub call_read : (new : List Token) (r : ℕ) → Took Lexeme.Semicolon r b new → exec read m (call_rest (ident_tree i) i.at) (plain_tokens old) ≡ Gave (call_stmt (ident_tree i) (each expr_tree xs) i.at) (plain_tokens new)
    call_read new r h = call_end ∙ expect_yes m Lexeme.Semicolon (give (call_stmt (ident_tree i) (each expr_tree xs) i.at)) b new r refl h

-- an assignment

abbrev assign_2 : Tree → ℕ → Tree → Step
assign_2 name q xs = expr_then Lexeme.Semicolon (λ x. give (assign name xs x q))

abbrev assign_1 : Tree → ℕ → Tree → Step
assign_1 name q xs = expect Lexeme.Assign (assign_2 name q xs)

pub assign_fails : (m : ℕ) (i : Ident) (old new : List Token) (fault : Fault) → Tells (each expr_tree) (m - 1) (part (repeated a_place)) (Err fault) old new → Does stmt_tree m (assign_rest (ident_tree i) i.at) (Err fault) old new
assign_fails m i old new fault h = enter_fails m (part (repeated a_place)) (assign_1 (ident_tree i) i.at) old new fault h

module _ (m : ℕ) (i : Ident) (xs : Vec Expr Global) (old a : List Token) (got : Tells (each expr_tree) (m - 1) (part (repeated a_place)) (Ok xs) old a) where
  assign_at : exec read m (assign_rest (ident_tree i) i.at) (plain_tokens old) ≡ exec read m (assign_1 (ident_tree i) i.at (each expr_tree xs)) (plain_tokens a)
  assign_at = enter_yes m (part (repeated a_place)) (assign_1 (ident_tree i) i.at) (each expr_tree xs) old a got

  pub assign_no_sign : (new : List Token) (fault : Fault) → TookWord Lexeme.Assign (Err fault) a new → Does stmt_tree m (assign_rest (ident_tree i) i.at) (Err fault) old new
  assign_no_sign new fault h = fault_on fault new _ _ assign_at (expect_fails m Lexeme.Assign (assign_2 (ident_tree i) i.at (each expr_tree xs)) a new fault h)

  module _ (q : ℕ) (b : List Token) (signed : Took Lexeme.Assign q a b) where
    assign_value : exec read m (assign_rest (ident_tree i) i.at) (plain_tokens old) ≡ exec read m (assign_2 (ident_tree i) i.at (each expr_tree xs)) (plain_tokens b)
    assign_value = assign_at ∙ expect_yes m Lexeme.Assign (assign_2 (ident_tree i) i.at (each expr_tree xs)) a b q refl signed

    pub assign_no_value : (new : List Token) (fault : Fault) → Leads expr_tree m (expr_then Lexeme.Semicolon) (Err fault) b new → Does stmt_tree m (assign_rest (ident_tree i) i.at) (Err fault) old new
    assign_no_value new fault h = fault_on fault new _ _ assign_value (h (λ x. give (assign (ident_tree i) (each expr_tree xs) x i.at)))

    pub assign_read : (x : Expr) (new : List Token) → Leads expr_tree m (expr_then Lexeme.Semicolon) (Ok x) b new → exec read m (assign_rest (ident_tree i) i.at) (plain_tokens old) ≡ Gave (assign (ident_tree i) (each expr_tree xs) (expr_tree x) i.at) (plain_tokens new)
    assign_read x new h = assign_value ∙ h (λ y. give (assign (ident_tree i) (each expr_tree xs) y i.at))

-- a statement that begins with a name

module _ (m : ℕ) (i : Ident) (old a : List Token) (got : Took (Lexeme.Name (string_bytes i.text)) i.at old a) where
  named_at : exec read m (named named_stmt_body) (plain_tokens old) ≡ exec read m (on Lexeme.LeftParen (call_rest (ident_tree i) i.at) (assign_rest (ident_tree i) i.at)) (plain_tokens a)
  named_at = named_yes m named_stmt_body i old a got

  pub named_call : (q : ℕ) (b : List Token) → stands (same_word Lexeme.LeftParen) a ≡ true → Took Lexeme.LeftParen q a b → exec read m (named named_stmt_body) (plain_tokens old) ≡ exec read m (call_rest (ident_tree i) i.at) (plain_tokens b)
  named_call q b some took = named_at ∙ on_yes m Lexeme.LeftParen (call_rest (ident_tree i) i.at) (assign_rest (ident_tree i) i.at) a b q some took

  pub named_assign : stands (same_word Lexeme.LeftParen) a ≡ false → exec read m (named named_stmt_body) (plain_tokens old) ≡ exec read m (assign_rest (ident_tree i) i.at) (plain_tokens a)
  named_assign none = named_at ∙ on_no m Lexeme.LeftParen (call_rest (ident_tree i) i.at) (assign_rest (ident_tree i) i.at) a none

-- what the rest of a rule does is what a program does
pub does_on : {A : Type 0} (view : A → Tree) (m : ℕ) (p n : Step) (old mid new : List Token) (r : Result A Fault) → exec read m p (plain_tokens old) ≡ exec read m n (plain_tokens mid) → Does view m n r mid new → Does view m p r old new
does_on view m p n old mid new (Ok x) e h = e ∙ h
does_on view m p n old mid new (Err fault) e h = fault_on fault new _ _ e h

pub tells_on : {A : Type 0} (view : A → Tree) (m : ℕ) (p : Part) (n : Step) (old mid new : List Token) (r : Result A Fault) → read m (part p) (plain_tokens old) ≡ exec read m n (plain_tokens mid) → Does view m n r mid new → Tells view m (part p) r old new
tells_on view m p n old mid new (Ok x) e h = e ∙ h
tells_on view m p n old mid new (Err fault) e h = fault_on fault new _ _ e h

pub does_if : (m q : ℕ) (r : Result Stmt Fault) (old new : List Token) → DoesIf m q r old new → Does stmt_tree m (if_stmt_body (λ x. x) (placed Lexeme.If q)) r old new
does_if m q (Ok x) old new h = h (λ y. y) Lexeme.If
does_if m q (Err fault) old new h = h (λ y. y) Lexeme.If

-- which statement it is

abbrev from_begin : Step
from_begin = first Lexeme.Begin block_body fail

abbrev from_foreach : Step
from_foreach = first Lexeme.Foreach foreach_body from_begin

abbrev from_while : Step
from_while = first Lexeme.While while_body from_foreach

abbrev from_if : Step
from_if = first Lexeme.If (if_stmt_body (λ x. x)) from_while

-- nothing that begins a statement
pub stmt_refused : (m : ℕ) (ts : List Placed) → here starts_stmt (ahead ts) ≡ false → read m (part a_stmt) ts ≡ Refused ts
stmt_refused m ts none = read_is m (part a_stmt) ts ∙ go ts none
  where
    go : (l : List Placed) → here starts_stmt (ahead l) ≡ false → exec read m stmt_body l ≡ Refused l
    go [] e = refl
    go (placed (Lexeme.Name s) q ∷ l) e = absurd cc
    go (placed Lexeme.If q ∷ l) e = absurd cc
    go (placed Lexeme.While q ∷ l) e = absurd cc
    go (placed Lexeme.Foreach q ∷ l) e = absurd cc
    go (placed Lexeme.Begin q ∷ l) e = absurd cc
    go (placed _ q ∷ l) e = refl

-- a statement in no room
pub stmt_high : (m : ℕ) (ts : List Placed) → m ≡ 0 → here starts_stmt (ahead ts) ≡ true → read m (part a_stmt) ts ≡ TooHigh ts
stmt_high m ts z some = read_is m (part a_stmt) ts ∙ ap (λ k. exec read k stmt_body ts) z ∙ go ts some
  where
    go : (l : List Placed) → here starts_stmt (ahead l) ≡ true → exec read 0 stmt_body l ≡ TooHigh l
    go [] e = absurd cc
    go (placed (Lexeme.Name s) q ∷ l) e = refl
    go (placed Lexeme.If q ∷ l) e = refl
    go (placed Lexeme.While q ∷ l) e = refl
    go (placed Lexeme.Foreach q ∷ l) e = refl
    go (placed Lexeme.Begin q ∷ l) e = refl
    go (placed _ q ∷ l) e = absurd cc

module _ (m : ℕ) (old : List Token) (low : 1 ≤ m) where
  pub stmt_named : stands names old ≡ true → read m (part a_stmt) (plain_tokens old) ≡ exec read m (named named_stmt_body) (plain_tokens old)
  stmt_named some =
      let fits : nat_le 1 m ≡ true = le-leb 1 m (omega arith) in
      let taken : exec read m stmt_body (plain_tokens old) ≡ exec read m (take named_stmt_body) (plain_tokens old) = rw (some, fits, exec) refl in
      let same : exec read m (named named_stmt_body) (plain_tokens old) ≡ exec read m (take named_stmt_body) (plain_tokens old) = rw (some, exec) refl in
      read_is m (part a_stmt) (plain_tokens old) ∙ taken ∙ sym same

  module _ (no_name : stands names old ≡ false) where
    at_if : read m (part a_stmt) (plain_tokens old) ≡ exec read m from_if (plain_tokens old)
    at_if =
        let goes : exec read m stmt_body (plain_tokens old) ≡ exec read m from_if (plain_tokens old) = rw (no_name, exec) refl in
        read_is m (part a_stmt) (plain_tokens old) ∙ goes

    pub stmt_if : (q : ℕ) (new : List Token) → stands (same_word Lexeme.If) old ≡ true → Took Lexeme.If q old new → read m (part a_stmt) (plain_tokens old) ≡ exec read m (if_stmt_body (λ x. x) (placed Lexeme.If q)) (plain_tokens new)
    stmt_if q new some took = at_if ∙ first_yes m Lexeme.If (if_stmt_body (λ x. x)) from_while old new q low some took

    module _ (no_if : stands (same_word Lexeme.If) old ≡ false) where
      at_while : read m (part a_stmt) (plain_tokens old) ≡ exec read m from_while (plain_tokens old)
      at_while = at_if ∙ first_no m Lexeme.If (if_stmt_body (λ x. x)) from_while old no_if

      pub stmt_while : (q : ℕ) (new : List Token) → stands (same_word Lexeme.While) old ≡ true → Took Lexeme.While q old new → read m (part a_stmt) (plain_tokens old) ≡ exec read m (while_body (placed Lexeme.While q)) (plain_tokens new)
      stmt_while q new some took = at_while ∙ first_yes m Lexeme.While while_body from_foreach old new q low some took

      module _ (no_while : stands (same_word Lexeme.While) old ≡ false) where
        at_foreach : read m (part a_stmt) (plain_tokens old) ≡ exec read m from_foreach (plain_tokens old)
        at_foreach = at_while ∙ first_no m Lexeme.While while_body from_foreach old no_while

        pub stmt_foreach : (q : ℕ) (new : List Token) → stands (same_word Lexeme.Foreach) old ≡ true → Took Lexeme.Foreach q old new → read m (part a_stmt) (plain_tokens old) ≡ exec read m (foreach_body (placed Lexeme.Foreach q)) (plain_tokens new)
        stmt_foreach q new some took = at_foreach ∙ first_yes m Lexeme.Foreach foreach_body from_begin old new q low some took

        module _ (no_foreach : stands (same_word Lexeme.Foreach) old ≡ false) where
          at_begin : read m (part a_stmt) (plain_tokens old) ≡ exec read m from_begin (plain_tokens old)
          at_begin = at_foreach ∙ first_no m Lexeme.Foreach foreach_body from_begin old no_foreach

          pub stmt_block : (q : ℕ) (new : List Token) → stands (same_word Lexeme.Begin) old ≡ true → Took Lexeme.Begin q old new → read m (part a_stmt) (plain_tokens old) ≡ exec read m (block_body (placed Lexeme.Begin q)) (plain_tokens new)
          stmt_block q new some took = at_begin ∙ first_yes m Lexeme.Begin block_body fail old new q low some took

          pub stmt_none : stands (same_word Lexeme.Begin) old ≡ false → read m (part a_stmt) (plain_tokens old) ≡ Refused (plain_tokens old)
          stmt_none none = at_begin ∙ first_no m Lexeme.Begin block_body fail old none

-- an `if` behind its test

abbrev if_last : (Tree → Tree) → ℕ → Tree → Tree → Step
if_last make q x ys = enter (part otherwise) (λ z. give (make (if_stmt x ys z q)))

abbrev if_next : (Tree → Tree) → ℕ → Tree → Step
if_next make q x = enter (part (repeated a_stmt)) (λ ys. if_last make q x ys)

pub if_no_test : (m q : ℕ) (old new : List Token) (fault : Fault) → Leads expr_tree m (expr_then Lexeme.Then) (Err fault) old new → DoesIf m q (Err fault) old new
if_no_test m q old new fault h = λ make w. h (if_next make q)

module _ (m q : ℕ) (x : Expr) (old a : List Token) (got_test : Leads expr_tree m (expr_then Lexeme.Then) (Ok x) old a) where
  pub if_no_first : (new : List Token) (fault : Fault) → Tells (each stmt_tree) (m - 1) (part (repeated a_stmt)) (Err fault) a new → DoesIf m q (Err fault) old new
  if_no_first new fault h = λ make w. fault_on fault new _ _ (got_test (if_next make q)) (enter_fails m (part (repeated a_stmt)) (if_last make q (expr_tree x)) a new fault h)

  module _ (ys : Vec Stmt Global) (b : List Token) (got_first : Tells (each stmt_tree) (m - 1) (part (repeated a_stmt)) (Ok ys) a b) where
    if_other : (make : Tree → Tree) (w : Lexeme) → exec read m (if_stmt_body make (placed w q)) (plain_tokens old) ≡ exec read m (if_last make q (expr_tree x) (each stmt_tree ys)) (plain_tokens b)
    if_other make w = got_test (if_next make q) ∙ enter_yes m (part (repeated a_stmt)) (if_last make q (expr_tree x)) (each stmt_tree ys) a b got_first

    pub if_no_other : (new : List Token) (fault : Fault) → Tells body_tree (m - 1) (part otherwise) (Err fault) b new → DoesIf m q (Err fault) old new
    if_no_other new fault h = λ make w. fault_on fault new _ _ (if_other make w) (enter_fails m (part otherwise) (λ z. give (make (if_stmt (expr_tree x) (each stmt_tree ys) z q))) b new fault h)

    pub if_read : (z : Option (Vec Stmt Global)) (new : List Token) → Tells body_tree (m - 1) (part otherwise) (Ok z) b new → (make : Tree → Tree) (w : Lexeme) → exec read m (if_stmt_body make (placed w q)) (plain_tokens old) ≡ Gave (make (if_stmt (expr_tree x) (each stmt_tree ys) (body_tree z) q)) (plain_tokens new)
    if_read z new h make w = if_other make w ∙ enter_yes m (part otherwise) (λ t. give (make (if_stmt (expr_tree x) (each stmt_tree ys) t q))) (body_tree z) b new h

-- what is done otherwise

abbrev from_elsif : Step
from_elsif = first Lexeme.Elsif (if_stmt_body (λ x. present (cons x nil))) fail

abbrev else_next : Tree → Step
else_next ys = finish Lexeme.If (give (present ys))

pub else_fails : (m : ℕ) (old new : List Token) (fault : Fault) → Tells (each stmt_tree) m (part (repeated a_stmt)) (Err fault) old new → Does body_tree m else_rest (Err fault) old new
else_fails m old new fault h = invoke_fails m (part (repeated a_stmt)) else_next old new fault h

pub else_unfinished : (m : ℕ) (ys : Vec Stmt Global) (old a new : List Token) → Tells (each stmt_tree) m (part (repeated a_stmt)) (Ok ys) old a → Stays (ends Lexeme.If) a new → exec read m else_rest (plain_tokens old) ≡ Refused (plain_tokens new)
else_unfinished m ys old a new h none = invoke_yes m (part (repeated a_stmt)) else_next (each stmt_tree ys) old a h ∙ finish_no m Lexeme.If (give (present (each stmt_tree ys))) a new none

pub else_read : (m : ℕ) (ys : Vec Stmt Global) (old a new : List Token) → Tells (each stmt_tree) m (part (repeated a_stmt)) (Ok ys) old a → TookEnd Lexeme.If a new → exec read m else_rest (plain_tokens old) ≡ Gave (present (each stmt_tree ys)) (plain_tokens new)
else_read m ys old a new h done = invoke_yes m (part (repeated a_stmt)) else_next (each stmt_tree ys) old a h ∙ finish_yes m Lexeme.If (give (present (each stmt_tree ys))) a new done

abbrev from_else : Step
from_else = on Lexeme.Else else_rest from_elsif

pub other_none : (m : ℕ) (old new : List Token) → TookEnd Lexeme.If old new → read m (part otherwise) (plain_tokens old) ≡ Gave absent (plain_tokens new)
other_none m old new h = read_is m (part otherwise) (plain_tokens old) ∙ end_yes m Lexeme.If (give absent) from_else old new h

module _ (m : ℕ) (old a : List Token) (no_end : Stays (ends Lexeme.If) old a) where
  at_else : read m (part otherwise) (plain_tokens old) ≡ exec read m from_else (plain_tokens a)
  at_else = read_is m (part otherwise) (plain_tokens old) ∙ end_no m Lexeme.If (take (λ t. give absent)) from_else old a no_end

  pub behind_else : (q : ℕ) (b : List Token) → stands (same_word Lexeme.Else) a ≡ true → Took Lexeme.Else q a b → read m (part otherwise) (plain_tokens old) ≡ exec read m else_rest (plain_tokens b)
  behind_else q b some took = at_else ∙ on_yes m Lexeme.Else else_rest from_elsif a b q some took

  module _ (no_else : stands (same_word Lexeme.Else) a ≡ false) where
    at_elsif : read m (part otherwise) (plain_tokens old) ≡ exec read m from_elsif (plain_tokens a)
    at_elsif = at_else ∙ on_no m Lexeme.Else else_rest from_elsif a no_else

    pub no_elsif : stands (same_word Lexeme.Elsif) a ≡ false → read m (part otherwise) (plain_tokens old) ≡ Refused (plain_tokens a)
    no_elsif none = at_elsif ∙ first_no m Lexeme.Elsif (if_stmt_body (λ x. present (cons x nil))) fail a none

    module _ (some : stands (same_word Lexeme.Elsif) a ≡ true) where
      pub elsif_high : m ≡ 0 → read m (part otherwise) (plain_tokens old) ≡ TooHigh (plain_tokens a)
      elsif_high z =
          let high : exec read m from_elsif (plain_tokens a) ≡ TooHigh (plain_tokens a) = rw (some, z, exec) refl in
          at_elsif ∙ high

      module _ (low : 1 ≤ m) (q : ℕ) (b : List Token) (took : Took Lexeme.Elsif q a b) where
        behind_elsif : read m (part otherwise) (plain_tokens old) ≡ exec read m (if_stmt_body (λ x. present (cons x nil)) (placed Lexeme.Elsif q)) (plain_tokens b)
        behind_elsif = at_elsif ∙ first_yes m Lexeme.Elsif (if_stmt_body (λ x. present (cons x nil))) fail a b q low some took

        pub elsif_fails : (new : List Token) (fault : Fault) → DoesIf m q (Err fault) b new → Tells body_tree m (part otherwise) (Err fault) old new
        elsif_fails new fault h = fault_on fault new _ _ behind_elsif (h (λ x. present (cons x nil)) Lexeme.Elsif)

        pub elsif_read : (x : Stmt) (ys : Vec Stmt Global) (new : List Token) → ys.items ≡ x ∷ [] → DoesIf m q (Ok x) b new → Tells body_tree m (part otherwise) (Ok (Some ys)) old new
        elsif_read x ys new e h = behind_elsif ∙ h (λ y. present (cons y nil)) Lexeme.Elsif ∙ ap (λ l. Gave (present (listed (map stmt_tree l))) (plain_tokens new)) (sym e)

-- the other statements behind their first words

abbrev while_next : ℕ → Tree → Step
while_next q x = body_then Lexeme.While (λ ys. give (while_stmt x ys q))

pub while_no_test : (m q : ℕ) (old new : List Token) (fault : Fault) → Leads expr_tree m (expr_then Lexeme.Do) (Err fault) old new → Does stmt_tree m (while_body (placed Lexeme.While q)) (Err fault) old new
while_no_test m q old new fault h = h (while_next q)

pub while_no_body : (m q : ℕ) (x : Expr) (old a new : List Token) (fault : Fault) → Leads expr_tree m (expr_then Lexeme.Do) (Ok x) old a → Leads (each stmt_tree) m (body_then Lexeme.While) (Err fault) a new → Does stmt_tree m (while_body (placed Lexeme.While q)) (Err fault) old new
while_no_body m q x old a new fault h k = fault_on fault new _ _ (h (while_next q)) (k (λ ys. give (while_stmt (expr_tree x) ys q)))

pub while_read : (m q : ℕ) (x : Expr) (ys : Vec Stmt Global) (old a new : List Token) → Leads expr_tree m (expr_then Lexeme.Do) (Ok x) old a → Leads (each stmt_tree) m (body_then Lexeme.While) (Ok ys) a new → exec read m (while_body (placed Lexeme.While q)) (plain_tokens old) ≡ Gave (while_stmt (expr_tree x) (each stmt_tree ys) q) (plain_tokens new)
while_read m q x ys old a new h k = h (while_next q) ∙ k (λ zs. give (while_stmt (expr_tree x) zs q))

abbrev foreach_next : ℕ → Tree → Tree → Tree → Tree → Step
foreach_next q shape i x y = body_then Lexeme.Foreach (λ zs. give (foreach_stmt shape i x y zs q))

pub foreach_no_range : (m q : ℕ) (old new : List Token) (fault : Fault) → LeadsRange m (Err fault) old new → Does stmt_tree m (foreach_body (placed Lexeme.Foreach q)) (Err fault) old new
foreach_no_range m q old new fault h = h (foreach_next q)

pub foreach_no_body : (m q : ℕ) (r : Bounds) (old a new : List Token) (fault : Fault) → LeadsRange m (Ok r) old a → Leads (each stmt_tree) m (body_then Lexeme.Foreach) (Err fault) a new → Does stmt_tree m (foreach_body (placed Lexeme.Foreach q)) (Err fault) old new
foreach_no_body m q r old a new fault h k = fault_on fault new _ _ (h (foreach_next q)) (k (λ zs. give (foreach_stmt (type_tree r.shape) (ident_tree r.name) (expr_tree r.from) (expr_tree r.to) zs q)))

pub foreach_read : (m q : ℕ) (r : Bounds) (zs : Vec Stmt Global) (old a new : List Token) → LeadsRange m (Ok r) old a → Leads (each stmt_tree) m (body_then Lexeme.Foreach) (Ok zs) a new → exec read m (foreach_body (placed Lexeme.Foreach q)) (plain_tokens old) ≡ Gave (foreach_stmt (type_tree r.shape) (ident_tree r.name) (expr_tree r.from) (expr_tree r.to) (each stmt_tree zs) q) (plain_tokens new)
foreach_read m q r zs old a new h k = h (foreach_next q) ∙ k (λ ts. give (foreach_stmt (type_tree r.shape) (ident_tree r.name) (expr_tree r.from) (expr_tree r.to) ts q))

abbrev block_next : ℕ → Tree → Step
block_next q xs = body_then Lexeme.Begin (λ ys. give (block xs ys q))

pub block_no_vars : (m q : ℕ) (old new : List Token) (fault : Fault) → Leads (each var_tree) m vars_then (Err fault) old new → Does stmt_tree m (block_body (placed Lexeme.Begin q)) (Err fault) old new
block_no_vars m q old new fault h = h (block_next q)

pub block_no_body : (m q : ℕ) (vs : Vec VarDecl Global) (old a new : List Token) (fault : Fault) → Leads (each var_tree) m vars_then (Ok vs) old a → Leads (each stmt_tree) m (body_then Lexeme.Begin) (Err fault) a new → Does stmt_tree m (block_body (placed Lexeme.Begin q)) (Err fault) old new
block_no_body m q vs old a new fault h k = fault_on fault new _ _ (h (block_next q)) (k (λ ys. give (block (each var_tree vs) ys q)))

pub block_read : (m q : ℕ) (vs : Vec VarDecl Global) (ys : Vec Stmt Global) (old a new : List Token) → Leads (each var_tree) m vars_then (Ok vs) old a → Leads (each stmt_tree) m (body_then Lexeme.Begin) (Ok ys) a new → exec read m (block_body (placed Lexeme.Begin q)) (plain_tokens old) ≡ Gave (block (each var_tree vs) (each stmt_tree ys) q) (plain_tokens new)
block_read m q vs ys old a new h k = h (block_next q) ∙ k (λ zs. give (block (each var_tree vs) zs q))
