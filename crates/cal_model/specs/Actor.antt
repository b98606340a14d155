-- An actor as its meaning sees it: what a `Bound` says, without where it lies in memory. Expressions and statements
-- stay as they are written.
-- Trusted: part of what a promise means.
use Rattle.std.specs.Prelude.{ℕ, Bool, List, Option}
use Rattle.rvc_base.specs.declared.scalar.Scalar.{Scalar}
use Rattle.cal_ast.specs.Tree.{Tree}
use Rattle.cal_model.specs.Value.{Shape, Value}

pub record Port : Type 0 where
  pub name : List ℕ
  pub kind : Scalar

-- a parameter, a constant of a unit or a state variable, with its value
pub record Held : Type 0 where
  pub name : List ℕ
  pub shape : Shape
  pub value : Value
  -- false for constants, which are never assigned
  pub changes : Bool

-- a local or a formal
pub record Local : Type 0 where
  pub name : List ℕ
  pub shape : Shape
  pub start : Option Tree
  pub changes : Bool

pub record Fun : Type 0 where
  pub name : List ℕ
  pub formals : List Local
  pub locals : List Local
  pub result : Scalar
  pub body : Tree

pub record Proc : Type 0 where
  pub name : List ℕ
  pub formals : List Local
  pub locals : List Local
  -- a list of statements
  pub body : Tree

-- what an action takes from one port: its names, or as many lists of the repeated length
pub record Pattern : Type 0 where
  pub port : ℕ
  pub names : List (List ℕ)
  pub repeat : Option ℕ

-- what it sends to one port
pub record Output : Type 0 where
  pub port : ℕ
  -- a list of expressions
  pub values : Tree
  pub repeat : Option ℕ

pub record Action : Type 0 where
  -- the parts of its tag, none if it is untagged
  pub tag : List (List ℕ)
  pub patterns : List Pattern
  pub outputs : List Output
  pub guards : List Tree
  pub locals : List Local
  -- a list of statements
  pub body : Tree
  pub initialize : Bool

-- the schedule leads from a state by an action to a state
pub record Move : Type 0 where
  pub from : ℕ
  pub action : ℕ
  pub to : ℕ

pub record Actor : Type 0 where
  pub class : List ℕ
  pub ins : List Port
  pub outs : List Port
  pub vars : List Held
  pub funs : List Fun
  pub procs : List Proc
  pub actions : List Action
  -- the names of the schedule's states in their order, none if there is no schedule
  pub states : List (List ℕ)
  pub moves : List Move
  -- which action is declared above which
  pub pairs : List (ℕ × ℕ)
