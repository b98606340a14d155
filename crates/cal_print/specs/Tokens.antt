-- The tokens of a canonical text (this profile's): those of the tree in order, each end written `end`, each operator by
-- its first spelling, and no pair of parentheses but those that the tree holds and those round an operand that is itself
-- an operation or an `if`. Those of files stand here too, since `words` is one recursion over all trees.
-- Above what stands for a production is its line in EBNF; E(x) is `end` or the long end of x.
-- Trusted: part of what a promise means.
use Rattle.std.specs.Prelude.{Bool, true, false, List, [], ◌∷◌, ◌++◌, if◌then◌else◌}
use Rattle.cal_ast.specs.declared.expr.PrefixOp.{PrefixOp}
use Rattle.cal_ast.specs.declared.expr.PrefixOp.TheVariants as prefixes
use Rattle.cal_ast.specs.declared.expr.BinOp.{BinOp}
use Rattle.cal_ast.specs.declared.expr.BinOp.TheVariants as binaries
use Rattle.cal_ast.specs.Tree.{Tree, absent, present, nil, cons, ident, tag, import_part, file, actor, unit, param, port, var, function, procedure, action, pattern, output, schedule, move, priority, type_of, shape_arg, value_arg, assign, call_stmt, if_stmt, while_stmt, foreach_stmt, block, number, truth, variable, call, paren, if_expr, list, comp, gen, index, prefix, binary}
use Rattle.cal_lexer.specs.Lexeme.{Lexeme}

-- the first spelling of an operator
abbrev pub word_of_prefix : PrefixOp → Lexeme
word_of_prefix prefixes.Not = Lexeme.Not
word_of_prefix prefixes.Neg = Lexeme.Minus
word_of_prefix prefixes.BitNot = Lexeme.Tilde

abbrev pub word_of_binary : BinOp → Lexeme
word_of_binary binaries.Or = Lexeme.Or
word_of_binary binaries.And = Lexeme.And
word_of_binary binaries.BitOr = Lexeme.Bar
word_of_binary binaries.BitXor = Lexeme.Caret
word_of_binary binaries.BitAnd = Lexeme.Ampersand
word_of_binary binaries.Eq = Lexeme.Equal
word_of_binary binaries.Ne = Lexeme.NotEqual
word_of_binary binaries.Lt = Lexeme.Less
word_of_binary binaries.Le = Lexeme.LessEqual
word_of_binary binaries.Gt = Lexeme.Greater
word_of_binary binaries.Ge = Lexeme.GreaterEqual
word_of_binary binaries.Shl = Lexeme.ShiftLeft
word_of_binary binaries.Shr = Lexeme.ShiftRight
word_of_binary binaries.Add = Lexeme.Plus
word_of_binary binaries.Sub = Lexeme.Minus
word_of_binary binaries.Mul = Lexeme.Star
word_of_binary binaries.Div = Lexeme.Slash
word_of_binary binaries.Mod = Lexeme.Mod

-- a binary or prefix operation, or an `if`
abbrev pub is_loose : Tree → Bool
is_loose (binary op left right at) = true
is_loose (prefix op operand at) = true
is_loose (if_expr test first other at) = true
is_loose _ = false

-- these tokens in a pair of parentheses, if that is asked for
abbrev pub paired : Bool → List Lexeme → List Lexeme
paired true ws = Lexeme.LeftParen ∷ ws ++ (Lexeme.RightParen ∷ [])
paired false ws = ws

-- tokens that introduce a list of parts, if there are any
abbrev pub where_any : Tree → List Lexeme → List Lexeme
where_any nil ws = []
where_any _ ws = ws

abbrev mutual
  -- the tokens of a part
  pub words : Tree → List Lexeme
  words absent = []
  words (present x) = words x
  words nil = []
  words (cons x xs) = words x ++ words xs
  -- names
  words (ident text at) = Lexeme.Name text ∷ []
  words (tag parts at) = joined Lexeme.Dot parts
  -- files
  words (import_part path last at) = Lexeme.Import ∷ dotted path ++ last_name last
      ++ (Lexeme.Semicolon ∷ [])
  -- File      = ["package" Tag ";"] {Import} (Actor | Unit)
  words (file in_package imports body at) = packaged in_package ++ words imports ++ words body
  words (actor name params ins outs members at) =
      Lexeme.Actor ∷ words name ++ (Lexeme.LeftParen ∷ joined Lexeme.Comma params
      ++ (Lexeme.RightParen ∷ joined Lexeme.Comma ins
      ++ (Lexeme.LongDoubleArrow ∷ joined Lexeme.Comma outs
      ++ (Lexeme.Colon ∷ each_member members ++ (Lexeme.End ∷ [])))))
  -- Unit      = "unit" Name ":" {Var ";" | Function} E(unit)
  words (unit name members at) = Lexeme.Unit ∷ words name
      ++ (Lexeme.Colon ∷ each_member members ++ (Lexeme.End ∷ []))
  -- members
  -- Param     = Type Name ["=" Expr]
  words (param shape name start at) = words shape ++ words name ++ start_words Lexeme.Equal start
  -- Ports     = Type Name {"," Type Name}
  -- Formals   = Type Name {"," Type Name}
  words (port shape name at) = words shape ++ words name
  -- Var       = Type Name [(":=" | "=") Expr]
  words (var shape name start changes at) = words shape ++ words name
      ++ start_words (if changes then Lexeme.Assign else Lexeme.Equal) start
  -- Function  = "function" Name "(" [Formals] ")" "-->" Type [Vars] ":" Expr E(function)
  words (function name formals result vars body at) =
      Lexeme.Function ∷ words name ++ (Lexeme.LeftParen ∷ joined Lexeme.Comma formals
      ++ (Lexeme.RightParen ∷ Lexeme.LongArrow ∷ words result
      ++ where_any vars (Lexeme.Var ∷ joined Lexeme.Comma vars)
      ++ (Lexeme.Colon ∷ words body ++ (Lexeme.End ∷ []))))
  -- Procedure = "procedure" Name "(" [Formals] ")" [Vars] "begin" {Stmt} E(procedure)
  words (procedure name formals vars body at) =
      Lexeme.Procedure ∷ words name ++ (Lexeme.LeftParen ∷ joined Lexeme.Comma formals
      ++ (Lexeme.RightParen ∷
      where_any vars (Lexeme.Var ∷ joined Lexeme.Comma vars)
      ++ (Lexeme.Begin ∷ words body ++ (Lexeme.End ∷ []))))
  -- Action    = [Tag ":"] "action" [In {"," In}] "==>" [Outs] Rest E(action)
  -- Rest      = ["guard" Expr {"," Expr}] [Vars] ["do" {Stmt}]
  words (action name false patterns outputs guards vars body at) =
      label name ++ (Lexeme.Action ∷ joined Lexeme.Comma patterns
      ++ (Lexeme.LongDoubleArrow ∷ joined Lexeme.Comma outputs
      ++ where_any guards (Lexeme.Guard ∷ joined Lexeme.Comma guards)
      ++ where_any vars (Lexeme.Var ∷ joined Lexeme.Comma vars)
      ++ under Lexeme.Do body ++ (Lexeme.End ∷ [])))
  words (action name true patterns outputs guards vars body at) =
      label name ++ (Lexeme.Initialize ∷ Lexeme.LongDoubleArrow ∷ joined Lexeme.Comma outputs
      ++ where_any guards (Lexeme.Guard ∷ joined Lexeme.Comma guards)
      ++ where_any vars (Lexeme.Var ∷ joined Lexeme.Comma vars)
      ++ under Lexeme.Do body ++ (Lexeme.End ∷ []))
  -- In        = [Name ":"] "[" Name {"," Name} "]" ["repeat" Expr]
  words (pattern from names repeat at) =
      label from ++ (Lexeme.LeftBracket ∷ joined Lexeme.Comma names
      ++ (Lexeme.RightBracket ∷ under Lexeme.Repeat repeat))
  -- Out       = [Name ":"] "[" Expr {"," Expr} "]" ["repeat" Expr]
  words (output to values repeat at) =
      label to ++ (Lexeme.LeftBracket ∷ joined Lexeme.Comma values
      ++ (Lexeme.RightBracket ∷ under Lexeme.Repeat repeat))
  -- Schedule  = "schedule" "fsm" Name ":" {Name "(" Tag {"," Tag} ")" "-->" Name ";"} E(schedule)
  words (schedule start moves at) = Lexeme.Schedule ∷ Lexeme.Fsm ∷ words start
      ++ (Lexeme.Colon ∷ words moves ++ (Lexeme.End ∷ []))
  words (move from tags to at) =
      words from ++ (Lexeme.LeftParen ∷ joined Lexeme.Comma tags
      ++ (Lexeme.RightParen ∷ Lexeme.LongArrow ∷ words to ++ (Lexeme.Semicolon ∷ [])))
  -- Priority  = "priority" {Tag ">" Tag {">" Tag} ";"} E(priority)
  words (priority chains at) = Lexeme.Priority ∷ each_chain chains ++ (Lexeme.End ∷ [])
  -- types and their arguments
  -- Type      = Name ["(" TypeArg {"," TypeArg} ")"]
  words (type_of name args at) = words name
      ++ where_any args (Lexeme.LeftParen ∷ joined Lexeme.Comma args ++ (Lexeme.RightParen ∷ []))
  -- TypeArg   = Name ":" Type | Name "=" Expr
  words (shape_arg name shape) = words name ++ (Lexeme.Colon ∷ words shape)
  words (value_arg name value) = words name ++ (Lexeme.Equal ∷ words value)
  -- statements
  -- Stmt      = Name {"[" Expr "]"} ":=" Expr ";" | Name "(" [Args] ")" ";"
  words (assign name places value at) = words name ++ each_place places
      ++ (Lexeme.Assign ∷ words value ++ (Lexeme.Semicolon ∷ []))
  words (call_stmt name args at) =
      words name ++ (Lexeme.LeftParen ∷ joined Lexeme.Comma args
      ++ (Lexeme.RightParen ∷ Lexeme.Semicolon ∷ []))
  --           | "if" Expr "then" {Stmt} {"elsif" Expr "then" {Stmt}} ["else" {Stmt}] E(if)
  words (if_stmt test first other at) =
      Lexeme.If ∷ words test ++ (Lexeme.Then ∷ words first ++ under Lexeme.Else other
      ++ (Lexeme.End ∷ []))
  --           | "while" Expr "do" {Stmt} E(while)
  words (while_stmt test body at) = Lexeme.While ∷ words test
      ++ (Lexeme.Do ∷ words body ++ (Lexeme.End ∷ []))
  --           | "foreach" Type Name "in" Expr ".." Expr "do" {Stmt} E(foreach)
  words (foreach_stmt shape name from to body at) =
      Lexeme.Foreach ∷ words shape ++ words name
      ++ (Lexeme.In ∷ words from ++ (Lexeme.DotDot ∷ words to
      ++ (Lexeme.Do ∷ words body ++ (Lexeme.End ∷ []))))
  --           | "begin" [Vars "do"] {Stmt} E(begin)
  words (block vars body at) =
      Lexeme.Begin ∷ where_any vars (Lexeme.Var ∷ joined Lexeme.Comma vars ++ (Lexeme.Do ∷ []))
      ++ words body ++ (Lexeme.End ∷ [])
  -- expressions
  -- Primary   = Number | "true" | "false" | Name | Name "(" [Args] ")" | "(" Expr ")"
  words (number value at) = Lexeme.Number value ∷ []
  words (truth true at) = Lexeme.True ∷ []
  words (truth false at) = Lexeme.False ∷ []
  words (variable text at) = Lexeme.Name text ∷ []
  words (call name args at) = Lexeme.Name name ∷ Lexeme.LeftParen ∷ joined Lexeme.Comma args
      ++ (Lexeme.RightParen ∷ [])
  words (paren inner at) = Lexeme.LeftParen ∷ words inner ++ (Lexeme.RightParen ∷ [])
  --           | "if" Expr "then" Expr "else" Expr E(if)
  words (if_expr test first other at) =
      Lexeme.If ∷ words test ++ (Lexeme.Then ∷ words first
      ++ (Lexeme.Else ∷ words other ++ (Lexeme.End ∷ [])))
  --           | "[" Expr {"," Expr} "]" | "[" Expr ":" Gen {"," Gen} "]"
  words (list items at) = Lexeme.LeftBracket ∷ joined Lexeme.Comma items
      ++ (Lexeme.RightBracket ∷ [])
  words (comp item gens at) = Lexeme.LeftBracket ∷ words item
      ++ (Lexeme.Colon ∷ joined Lexeme.Comma gens ++ (Lexeme.RightBracket ∷ []))
  -- Gen       = "for" Type Name "in" Expr ".." Expr
  words (gen shape name from to at) =
      Lexeme.For ∷ words shape ++ words name
      ++ (Lexeme.In ∷ words from ++ (Lexeme.DotDot ∷ words to))
  -- Postfix   = Primary {"[" Expr "]"}
  words (index base place at) = paired (is_loose base) (words base)
      ++ (Lexeme.LeftBracket ∷ words place ++ (Lexeme.RightBracket ∷ []))
  -- Prefix    = ("not" | "-" | "~") Prefix | Postfix
  words (prefix op operand at) = word_of_prefix op ∷ paired (is_loose operand) (words operand)
  -- Level     = Tighter {Operator Tighter}
  words (binary op left right at) =
      paired (is_loose left) (words left)
      ++ (word_of_binary op ∷ paired (is_loose right) (words right))

  -- the parts of a list with a mark between them
  pub joined : Lexeme → Tree → List Lexeme
  joined mark (cons x xs) = words x ++ following mark xs
  joined mark _ = []

  -- the parts of a list with a mark before each
  pub following : Lexeme → Tree → List Lexeme
  following mark (cons x xs) = mark ∷ words x ++ following mark xs
  following mark _ = []

  -- the indices of an assigned place
  pub each_place : Tree → List Lexeme
  each_place (cons x xs) = Lexeme.LeftBracket ∷ words x ++ (Lexeme.RightBracket ∷ each_place xs)
  each_place _ = []

  -- chains of priorities
  pub each_chain : Tree → List Lexeme
  each_chain (cons chain chains) = joined Lexeme.Greater chain
      ++ (Lexeme.Semicolon ∷ each_chain chains)
  each_chain _ = []

  -- members, each variable with a `;` behind it
  pub each_member : Tree → List Lexeme
  each_member (cons (var shape name start changes at) rest) =
      words (var shape name start changes at) ++ (Lexeme.Semicolon ∷ each_member rest)
  each_member (cons x rest) = words x ++ each_member rest
  each_member _ = []

  -- the names of an import's path, each with a `.` behind it
  pub dotted : Tree → List Lexeme
  dotted (cons x xs) = words x ++ (Lexeme.Dot ∷ dotted xs)
  dotted _ = []

  -- the last name of an import, or `*`
  pub last_name : Tree → List Lexeme
  last_name (present x) = words x
  last_name _ = Lexeme.Star ∷ []

  pub packaged : Tree → List Lexeme
  packaged (present x) = Lexeme.Package ∷ words x ++ (Lexeme.Semicolon ∷ [])
  packaged _ = []

  -- a tag or a port before what it names
  pub label : Tree → List Lexeme
  label (present x) = words x ++ (Lexeme.Colon ∷ [])
  label _ = []

  -- the start of a variable or a parameter
  pub start_words : Lexeme → Tree → List Lexeme
  start_words sign (present x) = sign ∷ words x
  start_words sign _ = []

  -- a part that may be missing, under its word
  pub under : Lexeme → Tree → List Lexeme
  under word (present x) = word ∷ words x
  under word _ = []
