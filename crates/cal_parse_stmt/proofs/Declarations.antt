-- Declarations: what the functions that read them do, exit by exit.
use Rattle.std.proofs.Common.{◌≡◌, ℕ, true, false, List, [], map, Vec, Global, string_bytes, Result, Ok, Err, sym, ap, ◌∙◌}
use Rattle.cal_grammar.specs.Program.{Gave, give, jump, exec}
use Rattle.cal_ast.specs.Places.{begins}
use Rattle.cal_ast.specs.Tree.{Tree, nil, present, absent, listed, var, param, port}
use Rattle.cal_ast.specs.View.{expr_tree, ident_tree, var_tree}
use Rattle.cal_ast.specs.declared.expr.Expr.{Expr}
use Rattle.cal_ast.specs.declared.ident.Ident.{Ident}
use Rattle.cal_ast.specs.declared.member.VarDecl.{VarDecl}
use Rattle.cal_lexer.specs.Lexeme.{Lexeme, Placed, placed, plain_tokens}
use Rattle.cal_lexer.specs.declared.token.Token.{Token}
use Rattle.cal_parse_base.specs.Cursor.{Took, TookName, stands}
use Rattle.cal_parse_stmt.specs.Pieces.{Does, value_then}
use Rattle.cal_grammar.specs.Rules.{Rule, part, var_tail, read, Step, on, named, ident_of}
use Rattle.cal_grammar.specs.Spells.{comma, separated, a_type, a_var, a_param, a_port, some_vars, an_expr}
use Rattle.cal_parse_base.specs.Tells.{Tells, TellsFault, each}
use Rattle.cal_grammar.specs.Token.{same_word}
use Rattle.cal_parse_base.specs.declared.fault.Fault.{Fault}
use Rattle.cal_grammar.proofs.Reading.{read_is}
use Rattle.cal_parse_stmt.proofs.Steps.{fault_on, on_yes, on_no, named_yes, named_fails, invoke_yes, invoke_fails}

-- a rule that is another's from some place on
pub tells_jump : {A : Type 0} (view : A → Tree) (m : ℕ) (r n : Rule) (old mid new : List Token) (o : Result A Fault) → read m r (plain_tokens old) ≡ read m n (plain_tokens mid) → Tells view m n o mid new → Tells view m r o old new
tells_jump view m r n old mid new (Ok x) e h = e ∙ h
tells_jump view m r n old mid new (Err fault) e h = fault_on fault new _ _ e h

-- a variable behind its type

abbrev var_equal : Tree → Tree → Step
var_equal shape i = on Lexeme.Equal (value_then (λ x. var shape i (present x) false (begins shape))) (give (var shape i absent true (begins shape)))

abbrev var_next : Tree → Placed → Step
var_next shape t = on Lexeme.Assign (value_then (λ x. var shape (ident_of t) (present x) true (begins shape))) (var_equal shape (ident_of t))

pub var_no_name : (m : ℕ) (shape : Tree) (old new : List Token) (fault : Fault) → TookName (Err fault) old new → TellsFault fault new (read m (var_tail shape) (plain_tokens old))
var_no_name m shape old new fault h = fault_on fault new _ _ (read_is m (var_tail shape) (plain_tokens old)) (named_fails m (var_next shape) old new fault h)

module _ (m : ℕ) (shape : Tree) (i : Ident) (old a : List Token) (got_name : Took (Lexeme.Name (string_bytes i.text)) i.at old a) where
  var_at : read m (var_tail shape) (plain_tokens old) ≡ exec read m (var_next shape (placed (Lexeme.Name (string_bytes i.text)) i.at)) (plain_tokens a)
  var_at = read_is m (var_tail shape) (plain_tokens old) ∙ named_yes m (var_next shape) i old a got_name

  pub var_assign : (q : ℕ) (b : List Token) → stands (same_word Lexeme.Assign) a ≡ true → Took Lexeme.Assign q a b → read m (var_tail shape) (plain_tokens old) ≡ exec read m (value_then (λ x. var shape (ident_tree i) (present x) true (begins shape))) (plain_tokens b)
  var_assign q b some took = var_at ∙ on_yes m Lexeme.Assign (value_then (λ x. var shape (ident_tree i) (present x) true (begins shape))) (var_equal shape (ident_tree i)) a b q some took

  module _ (no_assign : stands (same_word Lexeme.Assign) a ≡ false) where
    at_equal : read m (var_tail shape) (plain_tokens old) ≡ exec read m (var_equal shape (ident_tree i)) (plain_tokens a)
    at_equal = var_at ∙ on_no m Lexeme.Assign (value_then (λ x. var shape (ident_tree i) (present x) true (begins shape))) (var_equal shape (ident_tree i)) a no_assign

    pub var_plain : stands (same_word Lexeme.Equal) a ≡ false → read m (var_tail shape) (plain_tokens old) ≡ Gave (var shape (ident_tree i) absent true (begins shape)) (plain_tokens a)
    var_plain none = at_equal ∙ on_no m Lexeme.Equal (value_then (λ x. var shape (ident_tree i) (present x) false (begins shape))) (give (var shape (ident_tree i) absent true (begins shape))) a none

    pub var_constant : (q : ℕ) (b : List Token) → stands (same_word Lexeme.Equal) a ≡ true → Took Lexeme.Equal q a b → read m (var_tail shape) (plain_tokens old) ≡ exec read m (value_then (λ x. var shape (ident_tree i) (present x) false (begins shape))) (plain_tokens b)
    var_constant q b some took = at_equal ∙ on_yes m Lexeme.Equal (value_then (λ x. var shape (ident_tree i) (present x) false (begins shape))) (give (var shape (ident_tree i) absent true (begins shape))) a b q some took

-- a first value

pub value_fails : {A : Type 0} (view : A → Tree) (m : ℕ) (make : Tree → Tree) (old new : List Token) (fault : Fault) → Tells expr_tree m (part an_expr) (Err fault) old new → Does view m (value_then make) (Err fault) old new
value_fails view m make old new fault h = invoke_fails m (part an_expr) (λ x. give (make x)) old new fault h

pub value_read : (m : ℕ) (make : Tree → Tree) (x : Expr) (old new : List Token) → Tells expr_tree m (part an_expr) (Ok x) old new → exec read m (value_then make) (plain_tokens old) ≡ Gave (make (expr_tree x)) (plain_tokens new)
value_read m make x old new h = invoke_yes m (part an_expr) (λ y. give (make y)) (expr_tree x) old new h

-- what the rest of a rule does is what a program does
pub tells_rest : {A : Type 0} (view : A → Tree) (m : ℕ) (r : Rule) (n : Step) (old mid new : List Token) (o : Result A Fault) → read m r (plain_tokens old) ≡ exec read m n (plain_tokens mid) → Does view m n o mid new → Tells view m r o old new
tells_rest view m r n old mid new (Ok x) e h = e ∙ h
tells_rest view m r n old mid new (Err fault) e h = fault_on fault new _ _ e h

-- a variable

abbrev a_tail : Tree → Step
a_tail shape = jump (var_tail shape)

pub var_no_type : (m : ℕ) (old new : List Token) (fault : Fault) → TellsFault fault new (read m (part a_type) (plain_tokens old)) → TellsFault fault new (read m (part a_var) (plain_tokens old))
var_no_type m old new fault h = fault_on fault new _ _ (read_is m (part a_var) (plain_tokens old)) (invoke_fails m (part a_type) a_tail old new fault h)

pub var_tailed : (m : ℕ) (shape : Tree) (old mid : List Token) → read m (part a_type) (plain_tokens old) ≡ Gave shape (plain_tokens mid) → read m (part a_var) (plain_tokens old) ≡ read m (var_tail shape) (plain_tokens mid)
var_tailed m shape old mid h = read_is m (part a_var) (plain_tokens old) ∙ invoke_yes m (part a_type) a_tail shape old mid h

-- the variables behind `var`

pub no_vars : (m : ℕ) (vs : Vec VarDecl Global) (ts : List Token) → vs.items ≡ [] → stands (same_word Lexeme.Var) ts ≡ false → Tells (each var_tree) m (part some_vars) (Ok vs) ts ts
no_vars m vs ts e none = read_is m (part some_vars) (plain_tokens ts) ∙ on_no m Lexeme.Var (jump (part (separated comma a_var))) (give nil) ts none ∙ ap (λ l. Gave (listed (map var_tree l)) (plain_tokens ts)) (sym e)

pub some_vars_at : (m q : ℕ) (old mid : List Token) → stands (same_word Lexeme.Var) old ≡ true → Took Lexeme.Var q old mid → read m (part some_vars) (plain_tokens old) ≡ read m (part (separated comma a_var)) (plain_tokens mid)
some_vars_at m q old mid some took = read_is m (part some_vars) (plain_tokens old) ∙ on_yes m Lexeme.Var (jump (part (separated comma a_var))) (give nil) old mid q some took

-- a parameter

abbrev param_next : Tree → Placed → Step
param_next shape t = on Lexeme.Equal (value_then (λ x. param shape (ident_of t) (present x) (begins shape))) (give (param shape (ident_of t) absent (begins shape)))

abbrev param_named : Tree → Step
param_named shape = named (param_next shape)

pub param_no_type : (m : ℕ) (old new : List Token) (fault : Fault) → TellsFault fault new (read m (part a_type) (plain_tokens old)) → TellsFault fault new (read m (part a_param) (plain_tokens old))
param_no_type m old new fault h = fault_on fault new _ _ (read_is m (part a_param) (plain_tokens old)) (invoke_fails m (part a_type) param_named old new fault h)

module _ (m : ℕ) (shape : Tree) (old a : List Token) (got_type : read m (part a_type) (plain_tokens old) ≡ Gave shape (plain_tokens a)) where
  param_at : read m (part a_param) (plain_tokens old) ≡ exec read m (param_named shape) (plain_tokens a)
  param_at = read_is m (part a_param) (plain_tokens old) ∙ invoke_yes m (part a_type) param_named shape old a got_type

  pub param_no_name : (new : List Token) (fault : Fault) → TookName (Err fault) a new → TellsFault fault new (read m (part a_param) (plain_tokens old))
  param_no_name new fault h = fault_on fault new _ _ param_at (named_fails m (param_next shape) a new fault h)

  module _ (i : Ident) (b : List Token) (got_name : Took (Lexeme.Name (string_bytes i.text)) i.at a b) where
    param_behind : read m (part a_param) (plain_tokens old) ≡ exec read m (param_next shape (placed (Lexeme.Name (string_bytes i.text)) i.at)) (plain_tokens b)
    param_behind = param_at ∙ named_yes m (param_next shape) i a b got_name

    pub param_plain : stands (same_word Lexeme.Equal) b ≡ false → read m (part a_param) (plain_tokens old) ≡ Gave (param shape (ident_tree i) absent (begins shape)) (plain_tokens b)
    param_plain none = param_behind ∙ on_no m Lexeme.Equal (value_then (λ x. param shape (ident_tree i) (present x) (begins shape))) (give (param shape (ident_tree i) absent (begins shape))) b none

    module _ (q : ℕ) (c : List Token) (some : stands (same_word Lexeme.Equal) b ≡ true) (took : Took Lexeme.Equal q b c) where
      param_start : read m (part a_param) (plain_tokens old) ≡ exec read m (value_then (λ x. param shape (ident_tree i) (present x) (begins shape))) (plain_tokens c)
      param_start = param_behind ∙ on_yes m Lexeme.Equal (value_then (λ x. param shape (ident_tree i) (present x) (begins shape))) (give (param shape (ident_tree i) absent (begins shape))) b c q some took

      pub param_no_start : (new : List Token) (fault : Fault) → Tells expr_tree m (part an_expr) (Err fault) c new → TellsFault fault new (read m (part a_param) (plain_tokens old))
      param_no_start new fault h = fault_on fault new _ _ param_start (invoke_fails m (part an_expr) (λ x. give (param shape (ident_tree i) (present x) (begins shape))) c new fault h)

      pub param_default : (x : Expr) (new : List Token) → Tells expr_tree m (part an_expr) (Ok x) c new → read m (part a_param) (plain_tokens old) ≡ Gave (param shape (ident_tree i) (present (expr_tree x)) (begins shape)) (plain_tokens new)
      param_default x new h = param_start ∙ invoke_yes m (part an_expr) (λ y. give (param shape (ident_tree i) (present y) (begins shape))) (expr_tree x) c new h

-- a port

abbrev port_next : Tree → Placed → Step
port_next shape t = give (port shape (ident_of t) (begins shape))

abbrev port_named : Tree → Step
port_named shape = named (port_next shape)

pub port_no_type : (m : ℕ) (old new : List Token) (fault : Fault) → TellsFault fault new (read m (part a_type) (plain_tokens old)) → TellsFault fault new (read m (part a_port) (plain_tokens old))
port_no_type m old new fault h = fault_on fault new _ _ (read_is m (part a_port) (plain_tokens old)) (invoke_fails m (part a_type) port_named old new fault h)

module _ (m : ℕ) (shape : Tree) (old a : List Token) (got_type : read m (part a_type) (plain_tokens old) ≡ Gave shape (plain_tokens a)) where
  port_at : read m (part a_port) (plain_tokens old) ≡ exec read m (port_named shape) (plain_tokens a)
  port_at = read_is m (part a_port) (plain_tokens old) ∙ invoke_yes m (part a_type) port_named shape old a got_type

  pub port_no_name : (new : List Token) (fault : Fault) → TookName (Err fault) a new → TellsFault fault new (read m (part a_port) (plain_tokens old))
  port_no_name new fault h = fault_on fault new _ _ port_at (named_fails m (port_next shape) a new fault h)

  pub port_read : (i : Ident) (new : List Token) → Took (Lexeme.Name (string_bytes i.text)) i.at a new → read m (part a_port) (plain_tokens old) ≡ Gave (port shape (ident_tree i) (begins shape)) (plain_tokens new)
  port_read i new h = port_at ∙ named_yes m (port_next shape) i a new h
