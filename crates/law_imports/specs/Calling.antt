-- Calls that lead from function to function and from procedure to procedure, directly or indirectly.
-- Trusted: part of what a promise means.
use Rattle.std.specs.Prelude.{◌≡◌, ◌≢◌, ◌⊎◌, ℕ, List, [], ◌∷◌, Option, None, Some, Contains}
use Rattle.cal_ast.specs.Tree as tree
use Rattle.cal_ast.specs.Tree.{Tree}
use Rattle.cal_imports.specs.Whole.{Outer, Scope, members_of}
use Rattle.law_imports.specs.Leading.{listed_in}

-- ---- calls in a text

-- what an expression, a type, a statement, a variable, a function or a procedure is made of
abbrev pub made_of : Tree → List Tree
made_of (tree.cons t ts) = t ∷ ts ∷ []
made_of (tree.present t) = t ∷ []
made_of (tree.call name args at) = args ∷ []
made_of (tree.paren e at) = e ∷ []
made_of (tree.if_expr test first other at) = test ∷ first ∷ other ∷ []
made_of (tree.list items at) = items ∷ []
made_of (tree.comp item gens at) = item ∷ gens ∷ []
made_of (tree.gen shape name from to at) = shape ∷ from ∷ to ∷ []
made_of (tree.index base place at) = base ∷ place ∷ []
made_of (tree.prefix op e at) = e ∷ []
made_of (tree.binary op l r at) = l ∷ r ∷ []
made_of (tree.type_of name args at) = args ∷ []
made_of (tree.shape_arg name shape) = shape ∷ []
made_of (tree.value_arg name value) = value ∷ []
made_of (tree.assign name places value at) = places ∷ value ∷ []
made_of (tree.call_stmt name args at) = args ∷ []
made_of (tree.if_stmt test first other at) = test ∷ first ∷ other ∷ []
made_of (tree.while_stmt test body at) = test ∷ body ∷ []
made_of (tree.foreach_stmt shape name from to body at) = shape ∷ from ∷ to ∷ body ∷ []
made_of (tree.block vars body at) = vars ∷ body ∷ []
made_of (tree.port shape name at) = shape ∷ []
made_of (tree.var shape name start changes at) = shape ∷ start ∷ []
made_of (tree.function name formals result vars body at) =
    formals ∷ result ∷ vars ∷ body ∷ []
made_of (tree.procedure name formals vars body at) = formals ∷ vars ∷ body ∷ []
made_of other = []

-- a part stands in a text: it is the text, or stands in one of those of which that is made
pub data StandsIn (part : Tree) : Tree → Type 0 where
  whole : StandsIn part part
  inside : (inner outer : Tree) → Contains (made_of outer) inner → StandsIn part inner
      → StandsIn part outer

-- a call of this name at this place: of a function in an expression, or of a procedure as a statement
pub data IsCall (name : List ℕ) (at : ℕ) : Tree → Type 0 where
  in_expression : (args : Tree) → IsCall name at (tree.call name args at)
  as_statement : (place : ℕ) (args : Tree)
      → IsCall name at (tree.call_stmt (tree.ident name place) args at)

-- ---- functions and procedures of an actor

-- a function or a procedure: the text that stands for it where it is called, its file and its text
pub record Routine : Type 0 where
  pub name : List ℕ
  pub file : ℕ
  pub decl : Tree

-- the name of a function or a procedure
abbrev pub routine_name : Tree → Option (List ℕ)
routine_name (tree.function (tree.ident name place) formals result vars body at) = Some name
routine_name (tree.procedure (tree.ident name place) formals vars body at) = Some name
routine_name other = None

-- one of the actor's own functions and procedures
pub record IsOwn (scope : Scope) (r : Routine) : Type 0 where
  pub member : Contains (listed_in (members_of scope.actor)) r.decl
  pub name : routine_name r.decl ≡ Some r.name
  pub file : r.file ≡ scope.file

abbrev pub routine_of : Outer → Routine
routine_of f = record { name = f.name; file = f.file; decl = f.decl }

-- a function of a unit to which its imports lead
pub record IsOther (scope : Scope) (r : Routine) : Type 0 where
  pub outer : Outer
  pub is_outer : Contains scope.funs outer
  pub is : routine_of outer ≡ r

abbrev pub IsRoutine : Scope → Routine → Type 0
IsRoutine scope r = IsOwn scope r ⊎ IsOther scope r

-- ---- calls that lead further

-- it calls what has this name, at this place
pub record Calls (r : Routine) (name : List ℕ) (at : ℕ) : Type 0 where
  pub call : Tree
  pub stands : StandsIn call r.decl
  pub is_call : IsCall name at call

-- Calls lead from one routine to another, directly or indirectly: to itself, and to each that is called where they
-- lead.
pub data CallsLeadTo (scope : Scope) (from : Routine) : Routine → Type 0 where
  itself : CallsLeadTo scope from from
  further : (r target : Routine) (at : ℕ) → CallsLeadTo scope from r → IsRoutine scope target
      → Calls r target.name at → CallsLeadTo scope from target

-- a call at a place of a file stands on a circle: from what it calls, calls lead back to where it stands
pub record CallsInCircle (scope : Scope) (file at : ℕ) : Type 0 where
  pub caller : Routine
  pub callee : Routine
  pub is_caller : IsRoutine scope caller
  pub is_callee : IsRoutine scope callee
  pub is_file : caller.file ≡ file
  pub call : Calls caller callee.name at
  pub back : CallsLeadTo scope callee caller

-- no function and no procedure has an empty name, and none calls one
abbrev pub AreNamed : Scope → Type 0
AreNamed scope = (r : Routine) → IsRoutine scope r
    → (r.name ≢ []) × ((at : ℕ) → Calls r [] at → ⊥)
