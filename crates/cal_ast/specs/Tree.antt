-- The plain tree of a file or of any part of it: what is written, and where, with no pointer and no memory.
--
-- One type serves for all parts. `at` is the offset of the part's first byte. A list of parts is made of `nil` and
-- `cons`, and a part that may be missing is `absent` or `present`.
-- Trusted: part of what a promise means.
use Rattle.std.specs.Prelude.{ℕ, Bool, List, [], ◌∷◌}
use Rattle.cal_ast.specs.declared.expr.PrefixOp.{PrefixOp}
use Rattle.cal_ast.specs.declared.expr.BinOp.{BinOp}

pub data Tree : Type 0 where
  absent : Tree
  present : (part : Tree) → Tree
  nil : Tree
  cons : (first rest : Tree) → Tree
  -- names
  ident : (text : List ℕ) (at : ℕ) → Tree
  tag : (parts : Tree) (at : ℕ) → Tree
  -- files; the last name of an import is absent for `*`
  import_part : (path last : Tree) (at : ℕ) → Tree
  file : (in_package imports body : Tree) (at : ℕ) → Tree
  actor : (name params ins outs members : Tree) (at : ℕ) → Tree
  unit : (name members : Tree) (at : ℕ) → Tree
  -- members; `changes` is false if a variable is declared with `=`
  param : (shape name start : Tree) (at : ℕ) → Tree
  port : (shape name : Tree) (at : ℕ) → Tree
  var : (shape name start : Tree) (changes : Bool) (at : ℕ) → Tree
  function : (name formals result vars body : Tree) (at : ℕ) → Tree
  procedure : (name formals vars body : Tree) (at : ℕ) → Tree
  action : (tag : Tree) (initialize : Bool) (patterns outputs guards vars body : Tree) (at : ℕ)
      → Tree
  pattern : (port names repeat : Tree) (at : ℕ) → Tree
  output : (port values repeat : Tree) (at : ℕ) → Tree
  schedule : (start moves : Tree) (at : ℕ) → Tree
  move : (from tags to : Tree) (at : ℕ) → Tree
  priority : (chains : Tree) (at : ℕ) → Tree
  -- types and their arguments
  type_of : (name args : Tree) (at : ℕ) → Tree
  shape_arg : (name shape : Tree) → Tree
  value_arg : (name value : Tree) → Tree
  -- statements
  assign : (name places value : Tree) (at : ℕ) → Tree
  call_stmt : (name args : Tree) (at : ℕ) → Tree
  if_stmt : (test first other : Tree) (at : ℕ) → Tree
  while_stmt : (test body : Tree) (at : ℕ) → Tree
  foreach_stmt : (shape name from to body : Tree) (at : ℕ) → Tree
  block : (vars body : Tree) (at : ℕ) → Tree
  -- expressions
  number : (value : ℕ) (at : ℕ) → Tree
  truth : (value : Bool) (at : ℕ) → Tree
  variable : (text : List ℕ) (at : ℕ) → Tree
  call : (name : List ℕ) (args : Tree) (at : ℕ) → Tree
  paren : (inner : Tree) (at : ℕ) → Tree
  if_expr : (test first other : Tree) (at : ℕ) → Tree
  list : (items : Tree) (at : ℕ) → Tree
  comp : (item gens : Tree) (at : ℕ) → Tree
  gen : (shape name from to : Tree) (at : ℕ) → Tree
  index : (base place : Tree) (at : ℕ) → Tree
  prefix : (op : PrefixOp) (operand : Tree) (at : ℕ) → Tree
  binary : (op : BinOp) (left right : Tree) (at : ℕ) → Tree

-- the list of these parts
abbrev pub listed : List Tree → Tree
listed [] = nil
listed (t ∷ ts) = cons t (listed ts)
