-- The constants of an environment: names with values, and functions.
-- Trusted: part of what a promise means.
use Rattle.std.specs.Prelude.{ℕ, suc, Bool, true, false, List, [], ◌∷◌, if◌then◌else◌, Option, None, Some}
use Rattle.std.specs.Str.{bytes_eq}
use Rattle.cal_model.specs.Value.{Kind, NumKind, BoolKind, ListKind, Value, Num, Truth, Items, Nil, Cons, count}
use Rattle.cal_model.specs.Env.{Var}
use Rattle.cal_model.specs.Actor.{Fun}
use Rattle.cal_model.specs.Call.{fun_named}
use Rattle.cal_model.specs.Kinding.{Known}

pub record Constant : Type 0 where
  pub name : List ℕ
  pub value : Value

pub record Constants : Type 0 where
  pub values : List Constant
  pub funs : List Fun

abbrev pub constant_named : List ℕ → List Constant → Option Value
constant_named name [] = None
constant_named name (x ∷ xs) = if bytes_eq x.name name then Some x.value else constant_named name xs

abbrev pub has_value : List ℕ → List Constant → Bool
has_value name xs = elim (constant_named name xs) [ None ↦ false | Some v ↦ true ]

abbrev pub has_fun : List ℕ → List Fun → Bool
has_fun name fs = elim (fun_named name fs) [ None ↦ false | Some f ↦ true ]

-- a function in the place of the one of its name, or behind the others
abbrev pub with_set : Fun → List Fun → List Fun
with_set f [] = f ∷ []
with_set f (g ∷ gs) = if bytes_eq f.name g.name then f ∷ gs else g ∷ with_set f gs

-- The kind of a value. An empty list is taken as one of numbers.
abbrev pub kind_of_value : Value → Kind
kind_of_value (Num z) = NumKind
kind_of_value (Truth b) = BoolKind
kind_of_value (Items Nil) = ListKind 0 NumKind
kind_of_value (Items (Cons v vs)) = ListKind (suc (count vs)) (kind_of_value v)

-- a constant as a name with its kind and its value
abbrev pub known_of : Constant → Known
known_of x =
    record { name = x.name; kind = kind_of_value x.value; value = Some x.value; changes = false }

-- the constants whose name isn't this
abbrev pub other_constants : List ℕ → List Constant → List Constant
other_constants name [] = []
other_constants name (x ∷ xs) =
    if bytes_eq x.name name then other_constants name xs else x ∷ other_constants name xs

-- the constants among names: a name without a value hides one
abbrev pub constants_among : List Known → List Constant
constants_among [] = []
constants_among (x ∷ xs) = elim x.value [
  | None ↦ other_constants x.name (constants_among xs)
  | Some v ↦ record { name = x.name; value = v } ∷ constants_among xs
]

-- a constant as a variable that isn't assigned
abbrev pub var_of : Constant → Var
var_of x = record { name = x.name; value = x.value; kept = None }
