-- Variables, parameters and constants with their values, where an actor breaks no rule.
-- Trusted: part of what a promise means.
use Rattle.std.specs.Prelude.{◌≡◌, ℕ, List, [], ◌∷◌, Some, true, false}
use Rattle.cal_ast.specs.Tree as tree
use Rattle.cal_ast.specs.Tree.{Tree}
use Rattle.cal_model.specs.Kinding.{Fine, Known, Names, constant, type_judged}
use Rattle.cal_model.specs.Outcome.{Gives}
use Rattle.cal_model.specs.Value.{Shape, Value, kind_of_type, stored, zero_of}
use Rattle.cal_check.specs.Actors.{Source, all_funs, all_valued, declared_vars, violations}
use Rattle.cal_check.specs.Constants.{has_kind}
use Rattle.cal_check.specs.Routines.{FunDecl}
use Rattle.cal_check.specs.Variables.{Given, Spot, VarDecl, given_to, seen}
use Rattle.law_violations.specs.Numbers.{HasNumbers}

-- What the value of a variable is, whose type is this: of a parameter the value that it is given, stored in its type;
-- else that of its start, which gives one of the type's kind over the names before it, stored in its type; and a variable
-- without a start, which is no parameter, begins with 0, false, or lists of these.
pub data HasValue (x : VarDecl) (gs : List Given) (t : Shape) (names : Names) (value : Value) :
    Type 0 where
  is_given : (g : Given) → x.is_param ≡ true → given_to x.name gs ≡ Some g
      → has_kind (kind_of_type t) g.value ≡ true → value ≡ stored t g.value
      → HasValue x gs t names value
  has_start : (start : Tree) (found : Value) (left : ℕ) → x.start ≡ tree.present start
      → HasNumbers start names → constant start names ≡ Gives found left
      → has_kind (kind_of_type t) found ≡ true → value ≡ stored t found
      → HasValue x gs t names value
  begins_empty : x.is_param ≡ false → ((start : Tree) → x.start ≡ tree.present start → ⊥)
      → value ≡ zero_of t → HasValue x gs t names value

-- a variable with its value, as those behind it see it
abbrev pub known_with : VarDecl → Shape → Value → Known
known_with x t value =
    record { name = x.name; kind = kind_of_type t; value = Some value; changes = x.changes }

-- Variables in the order of the text, behind those that are known: each has a type and a value, over those before it and
-- all functions, and in its type each size gives a number. At the end all are known.
pub data HaveValues (gs : List Given) (funs : List FunDecl)
    : List Known → List VarDecl → List Known → Type 0 where
  none : (before : List Known) → HaveValues gs funs before [] before
  one : (before : List Known) (x : VarDecl) (xs : List VarDecl) (t : Shape) (value : Value)
      (known : List Known) → type_judged x.shape (seen funs before) ≡ Fine t
      → HasNumbers x.shape (seen funs before)
      → HasValue x gs t (seen funs before) value
      → HaveValues gs funs (known_with x t value ∷ before) xs known
      → HaveValues gs funs before (x ∷ xs) known

-- If an actor breaks no rule, each of its variables has a type and a value: no start and no size in a type reaches a
-- variable without a value, traps, or clashes.
abbrev pub VariablesHaveValues : Type 0
VariablesHaveValues = (s : Source) (gs : List Given) (owner : Spot) → violations s gs owner ≡ []
    → HaveValues gs (all_funs s) [] (declared_vars s) (all_valued s gs owner).known
