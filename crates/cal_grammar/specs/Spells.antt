-- The grammar: which tokens spell which tree, one case a production.
--
-- `Spells part before after tree`: the tokens of `before` up to those of `after` spell the tree as this part. `any`,
-- `repeated` and `separated` are the grammar's brackets; `ends v w` says that w is `end` or the long end of v.
-- Above what stands for a production is its line in EBNF; E(x) is `end` or the long end of x.
-- Trusted: part of what a promise means.
use Rattle.std.specs.Prelude.{◌≡◌, ℕ, suc, Bool, true, false, List, [], ◌∷◌}
use Rattle.cal_ast.specs.Tree.{Tree, absent, present, nil, cons, ident, tag, import_part, file, actor, unit, param, port, var, function, procedure, action, pattern, output, schedule, move, priority, type_of, shape_arg, value_arg, assign, call_stmt, if_stmt, while_stmt, foreach_stmt, block, number, truth, variable, call, if_expr, list, comp, gen, index, prefix, binary}
use Rattle.cal_lexer.specs.Lexeme.{Lexeme, Placed, placed}
use Rattle.cal_ast.specs.Places.{begins}
use Rattle.cal_grammar.specs.Operators.{level_of, loosest, binary_of, is_prefix, prefix_of, ends, group, with_tag, onto, import_at, with_package, first_place}

-- what stands between parts
pub data Mark : Type 0 where
  comma : Mark
  dot : Mark
  greater : Mark

abbrev pub mark : Mark → Lexeme
mark comma = Lexeme.Comma
mark dot = Lexeme.Dot
mark greater = Lexeme.Greater

pub data Part : Type 0 where
  -- one or more, with a word between them; what follows the first of them; the same or nothing; any number
  separated : Mark → Part → Part
  rest : Mark → Part → Part
  any : Mark → Part → Part
  repeated : Part → Part
  -- expressions: binary operations of a level and tighter ones (0 for prefixes), without operators, without indices
  level : ℕ → Part
  a_postfix : Part
  a_primary : Part
  a_gen : Part
  -- types and declarations
  a_type : Part
  a_type_arg : Part
  a_var : Part
  some_vars : Part
  a_param : Part
  a_port : Part
  a_name : Part
  a_tag : Part
  -- statements
  a_place : Part
  a_stmt : Part
  otherwise : Part
  -- members
  a_function : Part
  a_procedure : Part
  some_guards : Part
  some_repeat : Part
  a_body : Part
  an_in : Part
  an_out : Part
  an_action : Part
  a_labelled : Part
  a_move : Part
  a_schedule : Part
  a_chain : Part
  a_priority : Part
  a_member : Part
  -- whether a schedule may still come
  members : Bool → Part
  a_unit_member : Part
  -- files
  a_path : Part
  an_import : Part
  an_actor : Part
  a_unit : Part
  some_imports : Part
  a_file : Part

abbrev pub an_expr : Part
an_expr = level loosest

pub data Spells : Part → List Placed → List Placed → Tree → Type 0 where
  -- lists
  -- Separated = Part {Mark Part}
  the_separated : {v : Mark} {p : Part} {a b c : List Placed} {x xs : Tree} → Spells p a b x
      → Spells (rest v p) b c xs → Spells (separated v p) a c (cons x xs)
  the_last : {v : Mark} {p : Part} {a : List Placed} → Spells (rest v p) a a nil
  the_more : {v : Mark} {p : Part} {q : ℕ} {a b : List Placed} {xs : Tree}
      → Spells (separated v p) a b xs → Spells (rest v p) (placed (mark v) q ∷ a) b xs
  -- Any       = [Part {Mark Part}]
  the_none : {v : Mark} {p : Part} {a : List Placed} → Spells (any v p) a a nil
  the_some : {v : Mark} {p : Part} {a b : List Placed} {xs : Tree} → Spells (separated v p) a b xs
      → Spells (any v p) a b xs
  -- Repeated  = {Part}
  the_end : {p : Part} {a : List Placed} → Spells (repeated p) a a nil
  the_again : {p : Part} {a b c : List Placed} {x xs : Tree} → Spells p a b x
      → Spells (repeated p) b c xs → Spells (repeated p) a c (cons x xs)
  -- expressions
  -- Level     = Tighter {Operator Tighter}
  the_binary : {n q : ℕ} {w : Lexeme} {a b c : List Placed} {x y : Tree}
      → Spells (level (suc n)) a (placed w q ∷ b) x → level_of w ≡ suc n → Spells (level n) b c y
      → Spells (level (suc n)) a c (binary (binary_of w) x y (begins x))
  the_tighter : {n : ℕ} {a b : List Placed} {x : Tree} → Spells (level n) a b x
      → Spells (level (suc n)) a b x
  -- Prefix    = ("not" | "-" | "~") Prefix | Postfix
  the_prefix : {q : ℕ} {w : Lexeme} {a b : List Placed} {x : Tree} → is_prefix w ≡ true
      → Spells (level 0) a b x → Spells (level 0) (placed w q ∷ a) b (prefix (prefix_of w) x q)
  the_postfix : {a b : List Placed} {x : Tree} → Spells a_postfix a b x → Spells (level 0) a b x
  -- Postfix   = Primary {"[" Expr "]"}
  the_index : {q r : ℕ} {a b c : List Placed} {x i : Tree}
      → Spells a_postfix a (placed Lexeme.LeftBracket q ∷ b) x
      → Spells an_expr b (placed Lexeme.RightBracket r ∷ c) i
      → Spells a_postfix a c (index x i (begins x))
  the_primary : {a b : List Placed} {x : Tree} → Spells a_primary a b x → Spells a_postfix a b x
  -- Primary   = Number | "true" | "false" | Name | Name "(" [Args] ")" | "(" Expr ")"
  the_number : {v q : ℕ} {a : List Placed}
      → Spells a_primary (placed (Lexeme.Number v) q ∷ a) a (number v q)
  the_true : {q : ℕ} {a : List Placed}
      → Spells a_primary (placed Lexeme.True q ∷ a) a (truth true q)
  the_false : {q : ℕ} {a : List Placed}
      → Spells a_primary (placed Lexeme.False q ∷ a) a (truth false q)
  the_variable : {s : List ℕ} {q : ℕ} {a : List Placed}
      → Spells a_primary (placed (Lexeme.Name s) q ∷ a) a (variable s q)
  the_call : {s : List ℕ} {q r t : ℕ} {a b : List Placed} {xs : Tree}
      → Spells (any comma an_expr) a (placed Lexeme.RightParen t ∷ b) xs
      → Spells a_primary (placed (Lexeme.Name s) q ∷ placed Lexeme.LeftParen r ∷ a) b (call s xs q)
  the_pair : {q r : ℕ} {a b : List Placed} {x : Tree}
      → Spells an_expr a (placed Lexeme.RightParen r ∷ b) x
      → Spells a_primary (placed Lexeme.LeftParen q ∷ a) b (group q x)
  --           | "if" Expr "then" Expr "else" Expr E(if)
  the_if : {w : Lexeme} {q r s t : ℕ} {a b c d : List Placed} {x y z : Tree}
      → Spells an_expr a (placed Lexeme.Then r ∷ b) x
      → Spells an_expr b (placed Lexeme.Else s ∷ c) y → Spells an_expr c (placed w t ∷ d) z
      → ends Lexeme.If w ≡ true → Spells a_primary (placed Lexeme.If q ∷ a) d (if_expr x y z q)
  --           | "[" Expr {"," Expr} "]" | "[" Expr ":" Gen {"," Gen} "]"
  the_list : {q r : ℕ} {a b : List Placed} {xs : Tree}
      → Spells (separated comma an_expr) a (placed Lexeme.RightBracket r ∷ b) xs
      → Spells a_primary (placed Lexeme.LeftBracket q ∷ a) b (list xs q)
  the_comp : {q r s : ℕ} {a b c : List Placed} {x gs : Tree}
      → Spells an_expr a (placed Lexeme.Colon r ∷ b) x
      → Spells (separated comma a_gen) b (placed Lexeme.RightBracket s ∷ c) gs
      → Spells a_primary (placed Lexeme.LeftBracket q ∷ a) c (comp x gs q)
  -- Gen       = "for" Type Name "in" Expr ".." Expr
  the_gen : {s : List ℕ} {q r t u : ℕ} {a b c d : List Placed} {shape x y : Tree}
      → Spells a_type a (placed (Lexeme.Name s) r ∷ placed Lexeme.In t ∷ b) shape
      → Spells an_expr b (placed Lexeme.DotDot u ∷ c) x → Spells an_expr c d y
      → Spells a_gen (placed Lexeme.For q ∷ a) d (gen shape (ident s r) x y q)
  -- types and declarations
  -- Type      = Name ["(" TypeArg {"," TypeArg} ")"]
  the_type : {s : List ℕ} {q : ℕ} {a : List Placed}
      → Spells a_type (placed (Lexeme.Name s) q ∷ a) a (type_of (ident s q) nil q)
  the_type_with : {s : List ℕ} {q r t : ℕ} {a b : List Placed} {xs : Tree}
      → Spells (separated comma a_type_arg) a (placed Lexeme.RightParen t ∷ b) xs
      → Spells a_type (placed (Lexeme.Name s) q ∷ placed Lexeme.LeftParen r ∷ a) b
      (type_of (ident s q) xs q)
  -- TypeArg   = Name ":" Type | Name "=" Expr
  the_shape_arg : {s : List ℕ} {q r : ℕ} {a b : List Placed} {x : Tree} → Spells a_type a b x
      → Spells a_type_arg (placed (Lexeme.Name s) q ∷ placed Lexeme.Colon r ∷ a) b
      (shape_arg (ident s q) x)
  the_value_arg : {s : List ℕ} {q r : ℕ} {a b : List Placed} {x : Tree} → Spells an_expr a b x
      → Spells a_type_arg (placed (Lexeme.Name s) q ∷ placed Lexeme.Equal r ∷ a) b
      (value_arg (ident s q) x)
  -- Var       = Type Name [(":=" | "=") Expr]
  the_var : {s : List ℕ} {q : ℕ} {a b : List Placed} {shape : Tree}
      → Spells a_type a (placed (Lexeme.Name s) q ∷ b) shape
      → Spells a_var a b (var shape (ident s q) absent true (begins shape))
  the_var_changing : {s : List ℕ} {q r : ℕ} {a b c : List Placed} {shape x : Tree}
      → Spells a_type a (placed (Lexeme.Name s) q ∷ placed Lexeme.Assign r ∷ b) shape
      → Spells an_expr b c x → Spells a_var a c
      (var shape (ident s q) (present x) true (begins shape))
  the_var_constant : {s : List ℕ} {q r : ℕ} {a b c : List Placed} {shape x : Tree}
      → Spells a_type a (placed (Lexeme.Name s) q ∷ placed Lexeme.Equal r ∷ b) shape
      → Spells an_expr b c x → Spells a_var a c
      (var shape (ident s q) (present x) false (begins shape))
  -- Vars      = "var" Var {"," Var}
  the_no_vars : {a : List Placed} → Spells some_vars a a nil
  the_vars : {q : ℕ} {a b : List Placed} {xs : Tree} → Spells (separated comma a_var) a b xs
      → Spells some_vars (placed Lexeme.Var q ∷ a) b xs
  -- Param     = Type Name ["=" Expr]
  the_param : {s : List ℕ} {q : ℕ} {a b : List Placed} {shape : Tree}
      → Spells a_type a (placed (Lexeme.Name s) q ∷ b) shape
      → Spells a_param a b (param shape (ident s q) absent (begins shape))
  the_param_default : {s : List ℕ} {q r : ℕ} {a b c : List Placed} {shape x : Tree}
      → Spells a_type a (placed (Lexeme.Name s) q ∷ placed Lexeme.Equal r ∷ b) shape
      → Spells an_expr b c x → Spells a_param a c
      (param shape (ident s q) (present x) (begins shape))
  -- Ports     = Type Name {"," Type Name}
  -- Formals   = Type Name {"," Type Name}
  the_port : {s : List ℕ} {q : ℕ} {a b : List Placed} {shape : Tree}
      → Spells a_type a (placed (Lexeme.Name s) q ∷ b) shape
      → Spells a_port a b (port shape (ident s q) (begins shape))
  the_name : {s : List ℕ} {q : ℕ} {a : List Placed}
      → Spells a_name (placed (Lexeme.Name s) q ∷ a) a (ident s q)
  -- Tag       = Name {"." Name}
  the_tag : {a b : List Placed} {xs : Tree} → Spells (separated dot a_name) a b xs
      → Spells a_tag a b (tag xs (begins xs))
  -- statements
  -- Stmt      = Name {"[" Expr "]"} ":=" Expr ";" | Name "(" [Args] ")" ";"
  the_place : {q r : ℕ} {a b : List Placed} {x : Tree}
      → Spells an_expr a (placed Lexeme.RightBracket r ∷ b) x
      → Spells a_place (placed Lexeme.LeftBracket q ∷ a) b x
  the_assign : {s : List ℕ} {q r t : ℕ} {a b c : List Placed} {xs x : Tree}
      → Spells (repeated a_place) a (placed Lexeme.Assign r ∷ b) xs
      → Spells an_expr b (placed Lexeme.Semicolon t ∷ c) x
      → Spells a_stmt (placed (Lexeme.Name s) q ∷ a) c (assign (ident s q) xs x q)
  the_call_stmt : {s : List ℕ} {q r t u : ℕ} {a b : List Placed} {xs : Tree}
      → Spells (any comma an_expr) a (placed Lexeme.RightParen t ∷ placed Lexeme.Semicolon u ∷ b) xs
      → Spells a_stmt (placed (Lexeme.Name s) q ∷ placed Lexeme.LeftParen r ∷ a) b
      (call_stmt (ident s q) xs q)
  --           | "if" Expr "then" {Stmt} {"elsif" Expr "then" {Stmt}} ["else" {Stmt}] E(if)
  the_if_stmt : {q r : ℕ} {a b c d : List Placed} {x ys z : Tree}
      → Spells an_expr a (placed Lexeme.Then r ∷ b) x → Spells (repeated a_stmt) b c ys
      → Spells otherwise c d z → Spells a_stmt (placed Lexeme.If q ∷ a) d (if_stmt x ys z q)
  --           | "while" Expr "do" {Stmt} E(while)
  the_while : {w : Lexeme} {q r t : ℕ} {a b c : List Placed} {x ys : Tree}
      → Spells an_expr a (placed Lexeme.Do r ∷ b) x → Spells (repeated a_stmt) b (placed w t ∷ c) ys
      → ends Lexeme.While w ≡ true → Spells a_stmt (placed Lexeme.While q ∷ a) c (while_stmt x ys q)
  --           | "foreach" Type Name "in" Expr ".." Expr "do" {Stmt} E(foreach)
  the_foreach : {w : Lexeme} {s : List ℕ} {q r t u v o : ℕ} {a b c d e : List Placed}
      {shape x y zs : Tree} → Spells a_type a
      (placed (Lexeme.Name s) r ∷ placed Lexeme.In t ∷ b) shape
      → Spells an_expr b (placed Lexeme.DotDot u ∷ c) x
      → Spells an_expr c (placed Lexeme.Do v ∷ d) y → Spells (repeated a_stmt) d (placed w o ∷ e) zs
      → ends Lexeme.Foreach w ≡ true
      → Spells a_stmt (placed Lexeme.Foreach q ∷ a) e (foreach_stmt shape (ident s r) x y zs q)
  --           | "begin" [Vars "do"] {Stmt} E(begin)
  the_block : {w : Lexeme} {q r : ℕ} {a b : List Placed} {ys : Tree}
      → Spells (repeated a_stmt) a (placed w r ∷ b) ys → ends Lexeme.Begin w ≡ true
      → Spells a_stmt (placed Lexeme.Begin q ∷ a) b (block nil ys q)
  the_block_with : {w : Lexeme} {q r t u : ℕ} {a b c : List Placed} {xs ys : Tree}
      → Spells (separated comma a_var) a (placed Lexeme.Do t ∷ b) xs
      → Spells (repeated a_stmt) b (placed w u ∷ c) ys → ends Lexeme.Begin w ≡ true
      → Spells a_stmt (placed Lexeme.Begin q ∷ placed Lexeme.Var r ∷ a) c (block xs ys q)
  the_if_end : {w : Lexeme} {q : ℕ} {a : List Placed} → ends Lexeme.If w ≡ true
      → Spells otherwise (placed w q ∷ a) a absent
  the_else : {w : Lexeme} {q r : ℕ} {a b : List Placed} {ys : Tree}
      → Spells (repeated a_stmt) a (placed w r ∷ b) ys → ends Lexeme.If w ≡ true
      → Spells otherwise (placed Lexeme.Else q ∷ a) b (present ys)
  the_elsif : {q r : ℕ} {a b c d : List Placed} {x ys z : Tree}
      → Spells an_expr a (placed Lexeme.Then r ∷ b) x → Spells (repeated a_stmt) b c ys
      → Spells otherwise c d z → Spells otherwise (placed Lexeme.Elsif q ∷ a) d
      (present (cons (if_stmt x ys z q) nil))
  -- members
  -- Function  = "function" Name "(" [Formals] ")" "-->" Type [Vars] ":" Expr E(function)
  the_function : {w : Lexeme} {s : List ℕ} {q r t u v o i : ℕ} {a b c d e : List Placed}
      {xs shape vs x : Tree} → Spells (any comma a_port) a
      (placed Lexeme.RightParen u ∷ placed Lexeme.LongArrow v ∷ b) xs → Spells a_type b c shape
      → Spells some_vars c (placed Lexeme.Colon o ∷ d) vs → Spells an_expr d (placed w i ∷ e) x
      → ends Lexeme.Function w ≡ true
      → Spells a_function (placed Lexeme.Function q ∷ placed (Lexeme.Name s) r
      ∷ placed Lexeme.LeftParen t ∷ a) e (function (ident s r) xs shape vs x q)
  -- Procedure = "procedure" Name "(" [Formals] ")" [Vars] "begin" {Stmt} E(procedure)
  the_procedure : {w : Lexeme} {s : List ℕ} {q r t u v o : ℕ} {a b c d : List Placed}
      {xs vs ys : Tree} → Spells (any comma a_port) a (placed Lexeme.RightParen u ∷ b) xs
      → Spells some_vars b (placed Lexeme.Begin v ∷ c) vs
      → Spells (repeated a_stmt) c (placed w o ∷ d) ys → ends Lexeme.Procedure w ≡ true
      → Spells a_procedure (placed Lexeme.Procedure q ∷ placed (Lexeme.Name s) r
      ∷ placed Lexeme.LeftParen t ∷ a) d (procedure (ident s r) xs vs ys q)
  -- Rest      = ["guard" Expr {"," Expr}] [Vars] ["do" {Stmt}]
  the_no_guards : {a : List Placed} → Spells some_guards a a nil
  the_guards : {q : ℕ} {a b : List Placed} {xs : Tree} → Spells (separated comma an_expr) a b xs
      → Spells some_guards (placed Lexeme.Guard q ∷ a) b xs
  the_no_repeat : {a : List Placed} → Spells some_repeat a a absent
  the_repeat : {q : ℕ} {a b : List Placed} {x : Tree} → Spells an_expr a b x
      → Spells some_repeat (placed Lexeme.Repeat q ∷ a) b (present x)
  the_no_body : {a : List Placed} → Spells a_body a a absent
  the_body : {q : ℕ} {a b : List Placed} {ys : Tree} → Spells (repeated a_stmt) a b ys
      → Spells a_body (placed Lexeme.Do q ∷ a) b (present ys)
  -- In        = [Name ":"] "[" Name {"," Name} "]" ["repeat" Expr]
  the_in : {q r : ℕ} {a b c : List Placed} {xs x : Tree}
      → Spells (separated comma a_name) a (placed Lexeme.RightBracket r ∷ b) xs
      → Spells some_repeat b c x → Spells an_in (placed Lexeme.LeftBracket q ∷ a) c
      (pattern absent xs x q)
  the_in_at : {s : List ℕ} {q r t u : ℕ} {a b c : List Placed} {xs x : Tree}
      → Spells (separated comma a_name) a (placed Lexeme.RightBracket u ∷ b) xs
      → Spells some_repeat b c x → Spells an_in
      (placed (Lexeme.Name s) q ∷ placed Lexeme.Colon r ∷ placed Lexeme.LeftBracket t ∷ a) c
      (pattern (present (ident s q)) xs x q)
  -- Out       = [Name ":"] "[" Expr {"," Expr} "]" ["repeat" Expr]
  the_out : {q r : ℕ} {a b c : List Placed} {xs x : Tree}
      → Spells (separated comma an_expr) a (placed Lexeme.RightBracket r ∷ b) xs
      → Spells some_repeat b c x → Spells an_out (placed Lexeme.LeftBracket q ∷ a) c
      (output absent xs x q)
  the_out_at : {s : List ℕ} {q r t u : ℕ} {a b c : List Placed} {xs x : Tree}
      → Spells (separated comma an_expr) a (placed Lexeme.RightBracket u ∷ b) xs
      → Spells some_repeat b c x → Spells an_out
      (placed (Lexeme.Name s) q ∷ placed Lexeme.Colon r ∷ placed Lexeme.LeftBracket t ∷ a) c
      (output (present (ident s q)) xs x q)
  -- Action    = [Tag ":"] "action" [In {"," In}] "==>" [Outs] Rest E(action)
  the_action : {w : Lexeme} {q r t : ℕ} {a b c d e g : List Placed} {ins outs gs vs x : Tree}
      → Spells (any comma an_in) a (placed Lexeme.LongDoubleArrow r ∷ b) ins
      → Spells (any comma an_out) b c outs → Spells some_guards c d gs → Spells some_vars d e vs
      → Spells a_body e (placed w t ∷ g) x → ends Lexeme.Action w ≡ true
      → Spells an_action (placed Lexeme.Action q ∷ a) g (action absent false ins outs gs vs x q)
  -- Initialize = [Tag ":"] "initialize" "==>" [Outs] Rest E(initialize)
  the_initialize : {w : Lexeme} {q r t : ℕ} {b c d e g : List Placed} {outs gs vs x : Tree}
      → Spells (any comma an_out) b c outs → Spells some_guards c d gs → Spells some_vars d e vs
      → Spells a_body e (placed w t ∷ g) x → ends Lexeme.Initialize w ≡ true
      → Spells an_action (placed Lexeme.Initialize q ∷ placed Lexeme.LongDoubleArrow r ∷ b) g
      (action absent true nil outs gs vs x q)
  the_unlabelled : {a b : List Placed} {x : Tree} → Spells an_action a b x → Spells a_labelled a b x
  the_labelled : {r : ℕ} {a b c : List Placed} {t x : Tree}
      → Spells a_tag a (placed Lexeme.Colon r ∷ b) t → Spells an_action b c x
      → Spells a_labelled a c (with_tag t x)
  -- Schedule  = "schedule" "fsm" Name ":" {Name "(" Tag {"," Tag} ")" "-->" Name ";"} E(schedule)
  the_move : {s i : List ℕ} {q r t u v o : ℕ} {a b : List Placed} {xs : Tree}
      → Spells (separated comma a_tag) a
      (placed Lexeme.RightParen t ∷ placed Lexeme.LongArrow u ∷ placed (Lexeme.Name i) v
      ∷ placed Lexeme.Semicolon o ∷ b) xs
      → Spells a_move (placed (Lexeme.Name s) q ∷ placed Lexeme.LeftParen r ∷ a) b
      (move (ident s q) xs (ident i v) q)
  the_schedule : {w : Lexeme} {s : List ℕ} {q r t u v : ℕ} {a b : List Placed} {xs : Tree}
      → Spells (repeated a_move) a (placed w v ∷ b) xs → ends Lexeme.Schedule w ≡ true
      → Spells a_schedule (placed Lexeme.Schedule q ∷ placed Lexeme.Fsm r ∷ placed (Lexeme.Name s) t
      ∷ placed Lexeme.Colon u ∷ a) b (schedule (ident s t) xs q)
  -- Priority  = "priority" {Tag ">" Tag {">" Tag} ";"} E(priority)
  the_chain : {q r : ℕ} {a b c : List Placed} {x xs : Tree}
      → Spells a_tag a (placed Lexeme.Greater q ∷ b) x
      → Spells (separated greater a_tag) b (placed Lexeme.Semicolon r ∷ c) xs
      → Spells a_chain a c (cons x xs)
  the_priority : {w : Lexeme} {q r : ℕ} {a b : List Placed} {xs : Tree}
      → Spells (repeated a_chain) a (placed w r ∷ b) xs → ends Lexeme.Priority w ≡ true
      → Spells a_priority (placed Lexeme.Priority q ∷ a) b (priority xs q)
  -- Member    = Var ";" | Function | Procedure | Action | Initialize | Schedule | Priority
  the_var_member : {q : ℕ} {a b : List Placed} {x : Tree}
      → Spells a_var a (placed Lexeme.Semicolon q ∷ b) x → Spells a_member a b x
  the_function_member : {a b : List Placed} {x : Tree} → Spells a_function a b x
      → Spells a_member a b x
  the_procedure_member : {a b : List Placed} {x : Tree} → Spells a_procedure a b x
      → Spells a_member a b x
  the_action_member : {a b : List Placed} {x : Tree} → Spells a_labelled a b x
      → Spells a_member a b x
  the_priority_member : {a b : List Placed} {x : Tree} → Spells a_priority a b x
      → Spells a_member a b x
  the_no_members : {k : Bool} {a : List Placed} → Spells (members k) a a nil
  the_member : {k : Bool} {a b c : List Placed} {x xs : Tree} → Spells a_member a b x
      → Spells (members k) b c xs → Spells (members k) a c (cons x xs)
  the_schedule_member : {a b c : List Placed} {x xs : Tree} → Spells a_schedule a b x
      → Spells (members false) b c xs → Spells (members true) a c (cons x xs)
  -- Unit      = "unit" Name ":" {Var ";" | Function} E(unit)
  the_unit_var : {q : ℕ} {a b : List Placed} {x : Tree}
      → Spells a_var a (placed Lexeme.Semicolon q ∷ b) x → Spells a_unit_member a b x
  the_unit_function : {a b : List Placed} {x : Tree} → Spells a_function a b x
      → Spells a_unit_member a b x
  -- files
  -- Import    = "import" Name {"." Name} "." (Name | "*") ";"
  the_path_name : {s : List ℕ} {q r : ℕ} {a : List Placed}
      → Spells a_path (placed Lexeme.Dot q ∷ placed (Lexeme.Name s) r ∷ a) a
      (import_part nil (present (ident s r)) 0)
  the_path_all : {q r : ℕ} {a : List Placed}
      → Spells a_path (placed Lexeme.Dot q ∷ placed Lexeme.Star r ∷ a) a (import_part nil absent 0)
  the_path_on : {s : List ℕ} {q r : ℕ} {a b : List Placed} {x : Tree} → Spells a_path a b x
      → Spells a_path (placed Lexeme.Dot q ∷ placed (Lexeme.Name s) r ∷ a) b (onto (ident s r) x)
  the_import : {s : List ℕ} {q r t : ℕ} {a b : List Placed} {x : Tree}
      → Spells a_path a (placed Lexeme.Semicolon t ∷ b) x
      → Spells an_import (placed Lexeme.Import q ∷ placed (Lexeme.Name s) r ∷ a) b
      (import_at q (onto (ident s r) x))
  -- Actor     = "actor" Name "(" [Param {"," Param}] ")" [Ports] "==>" [Ports] ":" {Member} E(actor)
  the_actor : {w : Lexeme} {s : List ℕ} {q r t u v o i : ℕ} {a b c d e : List Placed}
      {ps ins outs ms : Tree} → Spells (any comma a_param) a (placed Lexeme.RightParen u ∷ b) ps
      → Spells (any comma a_port) b (placed Lexeme.LongDoubleArrow v ∷ c) ins
      → Spells (any comma a_port) c (placed Lexeme.Colon o ∷ d) outs
      → Spells (members true) d (placed w i ∷ e) ms → ends Lexeme.Actor w ≡ true
      → Spells an_actor (placed Lexeme.Actor q ∷ placed (Lexeme.Name s) r
      ∷ placed Lexeme.LeftParen t ∷ a) e (actor (ident s r) ps ins outs ms q)
  the_unit : {w : Lexeme} {s : List ℕ} {q r t u : ℕ} {a b : List Placed} {ms : Tree}
      → Spells (repeated a_unit_member) a (placed w u ∷ b) ms → ends Lexeme.Unit w ≡ true
      → Spells a_unit (placed Lexeme.Unit q ∷ placed (Lexeme.Name s) r ∷ placed Lexeme.Colon t ∷ a)
      b (unit (ident s r) ms q)
  -- File      = ["package" Tag ";"] {Import} (Actor | Unit)
  the_actor_file : {a b c : List Placed} {xs x : Tree} → Spells (repeated an_import) a b xs
      → Spells an_actor b c x → Spells some_imports a c (file absent xs x (first_place xs x))
  the_unit_file : {a b c : List Placed} {xs x : Tree} → Spells (repeated an_import) a b xs
      → Spells a_unit b c x → Spells some_imports a c (file absent xs x (first_place xs x))
  the_file : {a b : List Placed} {x : Tree} → Spells some_imports a b x → Spells a_file a b x
  the_package_file : {q r : ℕ} {a b c : List Placed} {t x : Tree}
      → Spells a_tag a (placed Lexeme.Semicolon r ∷ b) t → Spells some_imports b c x
      → Spells a_file (placed Lexeme.Package q ∷ a) c (with_package q t x)

-- the tokens spell this file
abbrev pub spells : List Placed → Tree → Type 0
spells ts x = Spells a_file ts [] x
