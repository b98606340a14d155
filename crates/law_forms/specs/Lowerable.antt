-- Expressions whose names and functions the code has, and whose sizes and bounds are written out.
-- Trusted: part of what a promise means.
use Rattle.std.specs.Prelude.{◌≡◌, ℕ, List, length, Some}
use Rattle.cal_ast.specs.Tree.{Tree}
use Rattle.cal_model.specs.Value.{Kind, NumKind, BoolKind, ListKind, Shape, Single, Many, IsType, kind_of_type}
use Rattle.cal_model.specs.Actor.{Fun}
use Rattle.cal_model.specs.Call.{fun_named}
use Rattle.cal_model.specs.Kinding.{Known, Names, meant_by}
use Rattle.cal_model.specs.Sound.{Each, EachCall, IsFormal, IsPlain}
use Rattle.lower_base.specs.declared.names.Seat.{Seat}
use Rattle.lower_base.specs.declared.names.Seat.TheVariants.{Cell, Tokens}
use Rattle.lower_base.specs.Callees.{Function, function_named}
use Rattle.lower_base.specs.Names.{Name, named}

-- ---- names

-- a type is of a kind, whatever its single values are
abbrev pub IsLike : Shape → Kind → Type 0
IsLike (Single t) NumKind = Unit {0}
IsLike (Single t) BoolKind = Unit {0}
IsLike (Many n items) (ListKind m k) = (n ≡ m) × IsLike items k
IsLike t k = ⊥

-- single values, or lists of them
abbrev pub IsFlat : Shape → Type 0
IsFlat (Single t) = Unit {0}
IsFlat (Many n (Single t)) = Unit {0}
IsFlat (Many n (Many m items)) = ⊥

-- tokens are such
abbrev pub FlatAt : Seat → Shape → Type 0
FlatAt (Cell c) t = Unit {0}
FlatAt (Tokens port first step) t = IsFlat t

-- what the code sees under a name that is known: a type that is allowed, of its kind
pub record IsSeen (names : List Name) (text : List ℕ) (x : Known) : Type 0 where
  pub name : Name
  pub is : named text names ≡ Some name
  pub typed : IsType name.shape
  pub kind : kind_of_type name.shape ≡ x.kind
  pub flat : FlatAt name.seat name.shape

abbrev pub AreSeen : Names → List Name → Type 0
AreSeen known names = (text : List ℕ) (x : Known) → meant_by text known ≡ Some x → IsSeen names text x

-- ---- functions

-- a function has a routine, with as many formals, which are single values, and a result of its type
pub record IsRoutineOf (fs : List Function) (text : List ℕ) (fun : Fun) : Type 0 where
  pub routine : Function
  pub found : function_named text fs ≡ Some routine
  pub formals : Each IsFormal fun.formals
  pub as_many : length routine.formals ≡ length fun.formals
  pub result : routine.result ≡ fun.result

-- .. if there is a function of this name
abbrev pub HasRoutine : List Fun → List Function → List ℕ → Type 0
HasRoutine funs fs text = (fun : Fun) → fun_named text funs ≡ Some fun → IsRoutineOf fs text fun

-- each function that is called has one, whatever procedures are called
abbrev pub CallsRoutines : List Fun → List Function → Tree → Type 0
CallsRoutines funs fs e = EachCall (HasRoutine funs fs) (λ text. Unit {0}) e

-- ---- expressions

-- an expression of which code can be made
pub record IsLowerable (known : Names) (fs : List Function) (names : List Name) (e : Tree) :
    Type 0 where
  pub seen : AreSeen known names
  pub calls : CallsRoutines known.funs fs e
  pub plain : IsPlain e
