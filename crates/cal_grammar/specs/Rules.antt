-- The rules of the parser: each part of the grammar as a program that looks one token ahead.
-- Above what stands for a production is its line in EBNF; E(x) is `end` or the long end of x.
-- Not trusted: no promise is read with it.
use Rattle.std.specs.Prelude.{ℕ, zero, suc, ◌+◌, ◌*◌, Bool, true, false, List, Option, length, nat_eq, ◌||◌, None, Some}
use Rattle.cal_grammar.specs.Program.{Program, Outcome, give, fail, ask, take, check, jump, invoke, enter, read as read_rules}
use Rattle.cal_ast.specs.Tree.{Tree, absent, present, nil, cons, ident, tag, import_part, file, actor, unit, param, port, var, function, procedure, action, pattern, output, schedule, move, priority, type_of, shape_arg, value_arg, assign, call_stmt, if_stmt, while_stmt, foreach_stmt, block, number, truth, variable, call, if_expr, list, comp, gen, index, prefix, binary}
use Rattle.cal_lexer.specs.Lexeme.{Lexeme, Placed}
use Rattle.cal_grammar.specs.Token.{here, names, counts, same_word, kind_of, offset, text_of, value_of}
use Rattle.cal_ast.specs.Places.{begins}
use Rattle.cal_grammar.specs.Operators.{level_of, binary_of, is_prefix, prefix_of, ends, group, with_tag, onto, import_at, with_package, first_place, height}
use Rattle.cal_grammar.specs.Spells.{Part, separated, rest, any, repeated, level, a_postfix, a_primary, a_gen, a_type, a_type_arg, a_var, some_vars, a_param, a_port, a_name, a_tag, a_place, a_stmt, otherwise, a_function, a_procedure, some_guards, some_repeat, a_body, an_in, an_out, an_action, a_labelled, a_move, a_schedule, a_chain, a_priority, a_member, members, a_unit_member, a_path, an_import, an_actor, a_unit, some_imports, a_file, an_expr, comma, dot, greater, mark}

pub data Rule : Type 0 where
  part : Part → Rule
  -- after a left side: the operations of one level; the indices
  chain : ℕ → Tree → Rule
  places : Tree → Rule
  -- after the name of a type; after the type of a variable
  type_tail : List ℕ → ℕ → Rule
  var_tail : Tree → Rule
  -- a whole file
  whole : Rule

abbrev pub Step : Type 0
Step = Program Placed Tree Rule

-- with which kinds of tokens a part begins

abbrev pub starts_expr : Lexeme → Bool
starts_expr (Lexeme.Name text) = true
starts_expr (Lexeme.Number value) = true
starts_expr Lexeme.True = true
starts_expr Lexeme.False = true
starts_expr Lexeme.If = true
starts_expr Lexeme.LeftParen = true
starts_expr Lexeme.LeftBracket = true
starts_expr Lexeme.Not = true
starts_expr Lexeme.Minus = true
starts_expr Lexeme.Tilde = true
starts_expr _ = false

abbrev pub starts_stmt : Lexeme → Bool
starts_stmt (Lexeme.Name text) = true
starts_stmt Lexeme.If = true
starts_stmt Lexeme.While = true
starts_stmt Lexeme.Foreach = true
starts_stmt Lexeme.Begin = true
starts_stmt _ = false

abbrev pub starts_pattern : Lexeme → Bool
starts_pattern (Lexeme.Name text) = true
starts_pattern Lexeme.LeftBracket = true
starts_pattern _ = false

abbrev pub starts_member : Lexeme → Bool
starts_member (Lexeme.Name text) = true
starts_member Lexeme.Function = true
starts_member Lexeme.Procedure = true
starts_member Lexeme.Action = true
starts_member Lexeme.Initialize = true
starts_member Lexeme.Priority = true
starts_member _ = false

abbrev pub starts_unit_member : Lexeme → Bool
starts_unit_member (Lexeme.Name text) = true
starts_unit_member Lexeme.Function = true
starts_unit_member _ = false

abbrev pub starts : Part → Lexeme → Bool
starts (separated v p) k = starts p k
starts (level n) k = starts_expr k
starts a_postfix k = starts_expr k
starts a_primary k = starts_expr k
starts a_type k = names k
starts a_type_arg k = names k
starts a_var k = names k
starts a_param k = names k
starts a_port k = names k
starts a_name k = names k
starts a_tag k = names k
starts a_move k = names k
starts a_chain k = names k
starts a_place k = same_word Lexeme.LeftBracket k
starts a_stmt k = starts_stmt k
starts an_in k = starts_pattern k
starts an_out k = starts_pattern k
starts a_member k = starts_member k
starts a_unit_member k = starts_unit_member k
starts an_import k = same_word Lexeme.Import k
starts _ k = false

-- combinators

-- goes on behind this word, or otherwise
abbrev pub on : Lexeme → Step → Step → Step
on w p other = ask (here (same_word w)) (take (λ t. p)) other

-- this word must come
abbrev pub expect : Lexeme → Step → Step
expect w p = on w p fail

-- a part of a height of at least 1 that begins with this word
abbrev pub first : Lexeme → (Placed → Step) → Step → Step
first w next other = ask (here (same_word w)) (check 1 (take next)) other

-- a part that begins with this word
abbrev pub begin : Lexeme → (Placed → Step) → Step → Step
begin w next other = ask (here (same_word w)) (take next) other

-- a name must come
abbrev pub named : (Placed → Step) → Step
named next = ask (here names) (take next) fail

-- the end of what begins with this word must come
abbrev pub finish : Lexeme → Step → Step
finish v p = ask (here (ends v)) (take (λ t. p)) fail

abbrev pub ident_of : Placed → Tree
ident_of t = ident (text_of t) (offset t)

-- the rules

-- Prefix    = ("not" | "-" | "~") Prefix | Postfix
-- Level     = Tighter {Operator Tighter}
abbrev pub level_body : ℕ → Step
level_body zero = ask (here is_prefix)
    (check 1 (take (λ t. enter (part (level 0))
    (λ x. give (prefix (prefix_of (kind_of t)) x (offset t)))))) (jump (part a_postfix))
level_body (suc n) = invoke (part (level n)) (λ x. jump (chain n x))

abbrev pub at_level : ℕ → Lexeme → Bool
at_level n k = nat_eq (level_of k) (suc n)

abbrev pub chain_body : ℕ → Tree → Step
chain_body n x = ask (here (at_level n))
    (check (suc (height x)) (take (λ t. enter (part (level n))
    (λ y. jump (chain n (binary (binary_of (kind_of t)) x y (begins x))))))) (give x)

-- Postfix   = Primary {"[" Expr "]"}
abbrev pub places_body : Tree → Step
places_body x = ask (here (same_word Lexeme.LeftBracket))
    (check (suc (height x)) (take (λ t. enter (part an_expr)
    (λ i. expect Lexeme.RightBracket (jump (places (index x i (begins x)))))))) (give x)

abbrev pub name_body : Placed → Step
name_body t = on Lexeme.LeftParen
    (enter (part (any comma an_expr))
    (λ xs. expect Lexeme.RightParen (give (call (text_of t) xs (offset t)))))
    (give (variable (text_of t) (offset t)))

abbrev pub pair_body : Placed → Step
pair_body t = invoke (part an_expr)
    (λ x. ask (here (same_word Lexeme.RightParen))
    (check (height (group 0 x)) (take (λ u. give (group (offset t) x)))) fail)

--           | "if" Expr "then" Expr "else" Expr E(if)
abbrev pub if_body : Placed → Step
if_body t = enter (part an_expr)
    (λ x. expect Lexeme.Then (enter (part an_expr)
    (λ y. expect Lexeme.Else (enter (part an_expr)
    (λ z. finish Lexeme.If (give (if_expr x y z (offset t))))))))

--           | "[" Expr {"," Expr} "]" | "[" Expr ":" Gen {"," Gen} "]"
abbrev pub list_body : Placed → Step
list_body t = enter (part an_expr)
    (λ x. on Lexeme.Colon (enter (part (separated comma a_gen))
    (λ gs. expect Lexeme.RightBracket (give (comp x gs (offset t)))))
    (enter (part (rest comma an_expr))
    (λ xs. expect Lexeme.RightBracket (give (list (cons x xs) (offset t))))))

-- Primary   = Number | "true" | "false" | Name | Name "(" [Args] ")" | "(" Expr ")"
abbrev pub primary_body : Step
primary_body =
    ask (here counts) (check 1 (take (λ t. give (number (value_of t) (offset t)))))
    (ask (here names) (check 1 (take name_body))
    (first Lexeme.True (λ t. give (truth true (offset t)))
    (first Lexeme.False (λ t. give (truth false (offset t)))
    (begin Lexeme.LeftParen pair_body
    (first Lexeme.If if_body
    (first Lexeme.LeftBracket list_body fail))))))

-- Gen       = "for" Type Name "in" Expr ".." Expr
abbrev pub gen_body : Step
gen_body =
    begin Lexeme.For (λ t. invoke (part a_type)
    (λ shape. named (λ i. expect Lexeme.In
    (invoke (part an_expr) (λ x. expect Lexeme.DotDot
    (invoke (part an_expr) (λ y. give (gen shape (ident_of i) x y (offset t))))))))) fail

-- Type      = Name ["(" TypeArg {"," TypeArg} ")"]
abbrev pub type_tail_body : List ℕ → ℕ → Step
type_tail_body s q = on Lexeme.LeftParen
    (enter (part (separated comma a_type_arg))
    (λ xs. expect Lexeme.RightParen (give (type_of (ident s q) xs q))))
    (give (type_of (ident s q) nil q))

-- TypeArg   = Name ":" Type | Name "=" Expr
abbrev pub type_arg_body : Step
type_arg_body =
    named (λ t. on Lexeme.Colon (invoke (part a_type) (λ x. give (shape_arg (ident_of t) x)))
    (expect Lexeme.Equal (invoke (part an_expr) (λ x. give (value_arg (ident_of t) x)))))

-- Var       = Type Name [(":=" | "=") Expr]
abbrev pub var_tail_body : Tree → Step
var_tail_body shape =
    named (λ t. on Lexeme.Assign (invoke (part an_expr)
    (λ x. give (var shape (ident_of t) (present x) true (begins shape))))
    (on Lexeme.Equal (invoke (part an_expr)
    (λ x. give (var shape (ident_of t) (present x) false (begins shape))))
    (give (var shape (ident_of t) absent true (begins shape)))))

-- Param     = Type Name ["=" Expr]
abbrev pub param_body : Step
param_body = invoke (part a_type)
    (λ shape. named (λ t. on Lexeme.Equal
    (invoke (part an_expr) (λ x. give (param shape (ident_of t) (present x) (begins shape))))
    (give (param shape (ident_of t) absent (begins shape)))))

-- statements

-- Stmt      = Name {"[" Expr "]"} ":=" Expr ";" | Name "(" [Args] ")" ";"
abbrev pub named_stmt_body : Placed → Step
named_stmt_body t =
    on Lexeme.LeftParen
    (enter (part (any comma an_expr))
    (λ xs. expect Lexeme.RightParen
    (expect Lexeme.Semicolon (give (call_stmt (ident_of t) xs (offset t))))))
    (enter (part (repeated a_place))
    (λ xs. expect Lexeme.Assign (enter (part an_expr)
    (λ x. expect Lexeme.Semicolon (give (assign (ident_of t) xs x (offset t)))))))

-- an `if` from its test on, and what is made of it
--           | "if" Expr "then" {Stmt} {"elsif" Expr "then" {Stmt}} ["else" {Stmt}] E(if)
abbrev pub if_stmt_body : (Tree → Tree) → Placed → Step
if_stmt_body make t = enter (part an_expr)
    (λ x. expect Lexeme.Then (enter (part (repeated a_stmt))
    (λ ys. enter (part otherwise) (λ z. give (make (if_stmt x ys z (offset t)))))))

--           | "while" Expr "do" {Stmt} E(while)
abbrev pub while_body : Placed → Step
while_body t = enter (part an_expr)
    (λ x. expect Lexeme.Do (enter (part (repeated a_stmt))
    (λ ys. finish Lexeme.While (give (while_stmt x ys (offset t))))))

--           | "foreach" Type Name "in" Expr ".." Expr "do" {Stmt} E(foreach)
abbrev pub foreach_body : Placed → Step
foreach_body t = enter (part a_type)
    (λ shape. named (λ i. expect Lexeme.In
    (enter (part an_expr) (λ x. expect Lexeme.DotDot
    (enter (part an_expr) (λ y. expect Lexeme.Do
    (enter (part (repeated a_stmt))
    (λ zs. finish Lexeme.Foreach (give (foreach_stmt shape (ident_of i) x y zs (offset t)))))))))))

--           | "begin" [Vars "do"] {Stmt} E(begin)
abbrev pub block_body : Placed → Step
block_body t =
    on Lexeme.Var
    (enter (part (separated comma a_var))
    (λ xs. expect Lexeme.Do (enter (part (repeated a_stmt))
    (λ ys. finish Lexeme.Begin (give (block xs ys (offset t)))))))
    (enter (part (repeated a_stmt)) (λ ys. finish Lexeme.Begin (give (block nil ys (offset t)))))

abbrev pub stmt_body : Step
stmt_body =
    ask (here names) (check 1 (take named_stmt_body))
    (first Lexeme.If (if_stmt_body (λ x. x))
    (first Lexeme.While while_body
    (first Lexeme.Foreach foreach_body
    (first Lexeme.Begin block_body fail))))

abbrev pub otherwise_body : Step
otherwise_body =
    ask (here (ends Lexeme.If)) (take (λ t. give absent))
    (on Lexeme.Else (invoke (part (repeated a_stmt)) (λ ys. finish Lexeme.If (give (present ys))))
    (first Lexeme.Elsif (if_stmt_body (λ x. present (cons x nil))) fail))

-- members

-- Function  = "function" Name "(" [Formals] ")" "-->" Type [Vars] ":" Expr E(function)
abbrev pub function_body : Step
function_body = begin Lexeme.Function
    (λ t. named (λ i. expect Lexeme.LeftParen
    (invoke (part (any comma a_port))
    (λ xs. expect Lexeme.RightParen
    (expect Lexeme.LongArrow (invoke (part a_type)
    (λ shape. invoke (part some_vars)
    (λ vs. expect Lexeme.Colon (invoke (part an_expr)
    (λ x. finish Lexeme.Function (give (function (ident_of i) xs shape vs x (offset t)))))))))))))
    fail

-- Procedure = "procedure" Name "(" [Formals] ")" [Vars] "begin" {Stmt} E(procedure)
abbrev pub procedure_body : Step
procedure_body = begin Lexeme.Procedure
    (λ t. named (λ i. expect Lexeme.LeftParen
    (invoke (part (any comma a_port))
    (λ xs. expect Lexeme.RightParen
    (invoke (part some_vars) (λ vs. expect Lexeme.Begin
    (invoke (part (repeated a_stmt))
    (λ ys. finish Lexeme.Procedure (give (procedure (ident_of i) xs vs ys (offset t))))))))))) fail

-- In        = [Name ":"] "[" Name {"," Name} "]" ["repeat" Expr]
abbrev pub in_body : Tree → ℕ → Step
in_body from q = invoke (part (separated comma a_name))
    (λ xs. expect Lexeme.RightBracket (invoke (part some_repeat) (λ x. give (pattern from xs x q))))

-- Out       = [Name ":"] "[" Expr {"," Expr} "]" ["repeat" Expr]
abbrev pub out_body : Tree → ℕ → Step
out_body to q = invoke (part (separated comma an_expr))
    (λ xs. expect Lexeme.RightBracket (invoke (part some_repeat) (λ x. give (output to xs x q))))

-- Rest      = ["guard" Expr {"," Expr}] [Vars] ["do" {Stmt}]
abbrev pub action_rest : Lexeme → Bool → Tree → ℕ → Step
action_rest w initial ins q = invoke (part (any comma an_out))
    (λ outs. invoke (part some_guards)
    (λ gs. invoke (part some_vars)
    (λ vs. invoke (part a_body) (λ x. finish w (give (action absent initial ins outs gs vs x q))))))

-- Action    = [Tag ":"] "action" [In {"," In}] "==>" [Outs] Rest E(action)
-- Initialize = [Tag ":"] "initialize" "==>" [Outs] Rest E(initialize)
abbrev pub action_body : Step
action_body =
    begin Lexeme.Action (λ t. invoke (part (any comma an_in))
    (λ ins. expect Lexeme.LongDoubleArrow (action_rest Lexeme.Action false ins (offset t))))
    (begin Lexeme.Initialize (λ t. expect Lexeme.LongDoubleArrow
    (action_rest Lexeme.Initialize true nil (offset t))) fail)

abbrev pub move_body : Step
move_body =
    named (λ t. expect Lexeme.LeftParen
    (invoke (part (separated comma a_tag))
    (λ xs. expect Lexeme.RightParen
    (expect Lexeme.LongArrow (named
    (λ i. expect Lexeme.Semicolon (give (move (ident_of t) xs (ident_of i) (offset t)))))))))

-- Schedule  = "schedule" "fsm" Name ":" {Name "(" Tag {"," Tag} ")" "-->" Name ";"} E(schedule)
abbrev pub schedule_body : Step
schedule_body = begin Lexeme.Schedule
    (λ t. expect Lexeme.Fsm (named
    (λ i. expect Lexeme.Colon (invoke (part (repeated a_move))
    (λ xs. finish Lexeme.Schedule (give (schedule (ident_of i) xs (offset t)))))))) fail

abbrev pub chain_of_tags_body : Step
chain_of_tags_body = invoke (part a_tag)
    (λ x. expect Lexeme.Greater (invoke (part (separated greater a_tag))
    (λ xs. expect Lexeme.Semicolon (give (cons x xs)))))

-- Priority  = "priority" {Tag ">" Tag {">" Tag} ";"} E(priority)
abbrev pub priority_body : Step
priority_body = begin Lexeme.Priority
    (λ t. invoke (part (repeated a_chain))
    (λ xs. finish Lexeme.Priority (give (priority xs (offset t))))) fail

-- what goes on after the first name of a tag, and after the name of a type
abbrev pub goes_on_tag : Lexeme → Bool
goes_on_tag k = same_word Lexeme.Dot k || same_word Lexeme.Colon k

abbrev pub goes_on_type : Lexeme → Bool
goes_on_type k = same_word Lexeme.LeftParen k || names k

abbrev pub named_member_body : Placed → Step
named_member_body t =
    ask (here goes_on_tag)
    (invoke (part (rest dot a_name))
    (λ xs. expect Lexeme.Colon (invoke (part an_action)
    (λ x. give (with_tag (tag (cons (ident_of t) xs) (offset t)) x)))))
    (ask (here goes_on_type) (check 1
    (invoke (type_tail (text_of t) (offset t))
    (λ shape. invoke (var_tail shape) (λ x. expect Lexeme.Semicolon (give x))))) fail)

abbrev pub starts_action : Lexeme → Bool
starts_action k = same_word Lexeme.Action k || same_word Lexeme.Initialize k

-- Member    = Var ";" | Function | Procedure | Action | Initialize | Schedule | Priority
abbrev pub member_body : Step
member_body =
    ask (here names) (take named_member_body)
    (ask (here (same_word Lexeme.Function)) (jump (part a_function))
    (ask (here (same_word Lexeme.Procedure)) (jump (part a_procedure))
    (ask (here starts_action) (jump (part an_action))
    (jump (part a_priority)))))

abbrev pub more_members : Bool → Step
more_members true = ask (here (same_word Lexeme.Schedule))
    (invoke (part a_schedule) (λ x. invoke (part (members false)) (λ xs. give (cons x xs))))
    (give nil)
more_members false = give nil

abbrev pub members_body : Bool → Step
members_body k = ask (here starts_member)
    (invoke (part a_member) (λ x. invoke (part (members k)) (λ xs. give (cons x xs))))
    (more_members k)

-- Unit      = "unit" Name ":" {Var ";" | Function} E(unit)
abbrev pub unit_member_body : Step
unit_member_body = ask (here (same_word Lexeme.Function)) (jump (part a_function))
    (invoke (part a_var) (λ x. expect Lexeme.Semicolon (give x)))

-- files

abbrev pub path_body : Step
path_body =
    expect Lexeme.Dot (on Lexeme.Star (give (import_part nil absent 0))
    (named (λ t. ask (here (same_word Lexeme.Dot))
    (invoke (part a_path) (λ x. give (onto (ident_of t) x)))
    (give (import_part nil (present (ident_of t)) 0)))))

-- Import    = "import" Name {"." Name} "." (Name | "*") ";"
abbrev pub import_body : Step
import_body = begin Lexeme.Import
    (λ t. named (λ i. invoke (part a_path)
    (λ x. expect Lexeme.Semicolon (give (import_at (offset t) (onto (ident_of i) x)))))) fail

-- Actor     = "actor" Name "(" [Param {"," Param}] ")" [Ports] "==>" [Ports] ":" {Member} E(actor)
abbrev pub actor_body : Step
actor_body = begin Lexeme.Actor
    (λ t. named (λ i. expect Lexeme.LeftParen
    (invoke (part (any comma a_param))
    (λ ps. expect Lexeme.RightParen
    (invoke (part (any comma a_port))
    (λ ins. expect Lexeme.LongDoubleArrow
    (invoke (part (any comma a_port))
    (λ outs. expect Lexeme.Colon (invoke (part (members true))
    (λ ms. finish Lexeme.Actor (give (actor (ident_of i) ps ins outs ms (offset t))))))))))))) fail

abbrev pub unit_body : Step
unit_body =
    begin Lexeme.Unit (λ t. named (λ i. expect Lexeme.Colon
    (invoke (part (repeated a_unit_member))
    (λ ms. finish Lexeme.Unit (give (unit (ident_of i) ms (offset t))))))) fail

abbrev pub imports_body : Step
imports_body = invoke (part (repeated an_import))
    (λ xs. ask (here (same_word Lexeme.Actor))
    (invoke (part an_actor) (λ x. give (file absent xs x (first_place xs x))))
    (invoke (part a_unit) (λ x. give (file absent xs x (first_place xs x)))))

-- File      = ["package" Tag ";"] {Import} (Actor | Unit)
abbrev pub file_body : Step
file_body = begin Lexeme.Package
    (λ t. invoke (part a_tag) (λ x. expect Lexeme.Semicolon
    (invoke (part some_imports) (λ y. give (with_package (offset t) x y)))))
    (jump (part some_imports))

-- nothing stands here
abbrev pub at_end : Option Placed → Bool
at_end None = true
at_end (Some t) = false

abbrev pub whole_body : Step
whole_body = invoke (part a_file) (λ x. ask at_end (give x) fail)

abbrev pub part_body : Part → Step
part_body (separated v p) = invoke (part p) (λ x. invoke (part (rest v p)) (λ xs. give (cons x xs)))
part_body (rest v p) = on (mark v) (jump (part (separated v p))) (give nil)
part_body (any v p) = ask (here (starts p)) (jump (part (separated v p))) (give nil)
part_body (repeated p) = ask (here (starts p))
    (invoke (part p) (λ x. invoke (part (repeated p)) (λ xs. give (cons x xs)))) (give nil)
part_body (level n) = level_body n
part_body a_postfix = invoke (part a_primary) (λ x. jump (places x))
part_body a_primary = primary_body
part_body a_gen = gen_body
part_body a_type =
    ask (here names) (check 1 (take (λ t. jump (type_tail (text_of t) (offset t))))) fail
part_body a_type_arg = type_arg_body
part_body a_var = invoke (part a_type) (λ shape. jump (var_tail shape))
part_body some_vars = on Lexeme.Var (jump (part (separated comma a_var))) (give nil)
part_body a_param = param_body
part_body a_port = invoke (part a_type)
    (λ shape. named (λ t. give (port shape (ident_of t) (begins shape))))
part_body a_name = named (λ t. give (ident_of t))
part_body a_tag = invoke (part (separated dot a_name)) (λ xs. give (tag xs (begins xs)))
part_body a_place =
    expect Lexeme.LeftBracket (invoke (part an_expr) (λ x. expect Lexeme.RightBracket (give x)))
part_body a_stmt = stmt_body
part_body otherwise = otherwise_body
part_body a_function = function_body
part_body a_procedure = procedure_body
part_body some_guards = on Lexeme.Guard (jump (part (separated comma an_expr))) (give nil)
part_body some_repeat =
    on Lexeme.Repeat (invoke (part an_expr) (λ x. give (present x))) (give absent)
part_body a_body =
    on Lexeme.Do (invoke (part (repeated a_stmt)) (λ ys. give (present ys))) (give absent)
part_body an_in = begin Lexeme.LeftBracket
    (λ t. in_body absent (offset t))
    (named (λ t. expect Lexeme.Colon
    (expect Lexeme.LeftBracket (in_body (present (ident_of t)) (offset t)))))
part_body an_out = begin Lexeme.LeftBracket
    (λ t. out_body absent (offset t))
    (named (λ t. expect Lexeme.Colon
    (expect Lexeme.LeftBracket (out_body (present (ident_of t)) (offset t)))))
part_body an_action = action_body
part_body a_labelled = fail
part_body a_move = move_body
part_body a_schedule = schedule_body
part_body a_chain = chain_of_tags_body
part_body a_priority = priority_body
part_body a_member = member_body
part_body (members k) = members_body k
part_body a_unit_member = unit_member_body
part_body a_path = path_body
part_body an_import = import_body
part_body an_actor = actor_body
part_body a_unit = unit_body
part_body some_imports = imports_body
part_body a_file = file_body

abbrev pub body : Rule → Step
body (part p) = part_body p
body (chain n x) = chain_body n x
body (places x) = places_body x
body (type_tail s q) = type_tail_body s q
body (var_tail shape) = var_tail_body shape
body whole = whole_body

-- which calls a rule may make at the same place: those of a smaller rank
abbrev pub rank : Part → ℕ
rank (separated v p) = suc (rank p)
rank (rest v p) = rank p
rank (any v p) = suc (suc (rank p))
rank (repeated p) = suc (rank p)
rank (level n) = suc (suc n)
rank a_postfix = 1
rank a_primary = 0
rank a_var = 1
rank a_param = 1
rank a_port = 1
rank a_tag = 2
rank a_chain = 3
rank a_unit_member = 5
rank a_member = 5
rank (members k) = 6
rank some_imports = 7
rank a_file = 8
rank _ = 0

abbrev pub rule_rank : Rule → ℕ
rule_rank (part p) = rank p
rule_rank (chain n x) = suc (suc n)
rule_rank (places x) = 0
rule_rank (type_tail s q) = 0
rule_rank (var_tail shape) = 0
rule_rank whole = 9

abbrev pub size : Rule → List Placed → ℕ
size r ts = rule_rank r + 100 * length ts

-- what a rule reads, in a room
unfoldable pub read : ℕ → Rule → List Placed → Outcome Placed Tree
read m r ts = read_rules body size m r ts
