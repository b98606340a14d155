-- The names that a part of a file sees (CAL Language Report, scoping).
--
-- Names that are declared inside hide those outside. Inside a file's own declarations only variables are declared:
-- formals, locals, pattern variables, and the variables of loops and generators.
-- Trusted: part of what a promise means.
use Rattle.std.specs.Prelude.{ℕ, Bool, true, false, ◌||◌, List, [], ◌∷◌, ◌++◌, Option, None, Some, if◌then◌else◌}
use Rattle.std.specs.Str.{bytes_eq}
use Rattle.rvc_base.specs.Rules.{unknown_name, not_as_asked}
use Rattle.cal_model.specs.Kinding.{Judged, Fine, Broken}
use Rattle.cal_scope.specs.declared.role.Role.{Role}
use Rattle.cal_scope.specs.declared.role.Role.TheVariants.{Variable, Function, Procedure}

-- ---- names of one scope

abbrev pub is_among : List ℕ → List (List ℕ) → Bool
is_among name [] = false
is_among name (other ∷ names) = bytes_eq name other || is_among name names

-- the names of a scope with one more, unless it is there
abbrev pub with_name : List ℕ → List (List ℕ) → List (List ℕ)
with_name name names = if is_among name names then names else names ++ name ∷ []

-- ---- names of a file

-- A name that a file declares or imports, what it stands for, and the text that stands for it wherever it is used: of a
-- declaration of another file its unit's class, a dot and its name.
pub record Global : Type 0 where
  pub name : List ℕ
  pub role : Role
  pub full : List ℕ

-- the first of the name: a file's own declarations stand before what it imports, and hide it
abbrev pub global_named : List ℕ → List Global → Option Global
global_named name [] = None
global_named name (g ∷ gs) = if bytes_eq name g.name then Some g else global_named name gs

-- ---- what is seen

-- the names that are declared inside, and those of the file
pub record Names : Type 0 where
  pub locals : List (List ℕ)
  pub globals : List Global

-- the same with the names of a scope inside
abbrev pub within : List (List ℕ) → Names → Names
within here names = record { locals = here ++ names.locals; globals = names.globals }

-- a name that is declared inside is a variable, and stands for itself
abbrev pub local : List ℕ → Global
local name = record { name = name; role = Variable; full = name }

abbrev pub meant_by : List ℕ → Names → Option Global
meant_by name names = if is_among name names.locals then Some (local name)
    else global_named name names.globals

abbrev pub is_role : Role → Role → Bool
is_role Variable Variable = true
is_role Function Function = true
is_role Procedure Procedure = true
is_role role other = false

-- the full name of what a name means, which is to be a variable, a function or a procedure
abbrev pub full_name : Role → ℕ → Option Global → Judged (List ℕ)
full_name role at None = Broken unknown_name at
full_name role at (Some g) = if is_role role g.role then Fine g.full else Broken not_as_asked at

abbrev pub used_as : Role → List ℕ → ℕ → Names → Judged (List ℕ)
used_as role name at names = full_name role at (meant_by name names)
