-- Types, as what a number is stored in.
-- Not trusted: no promise is read with it.
use Rattle.std.specs.Prelude.{ℕ, Bool, true, false, List, ℤ, Option, None, Some, string_bytes, codes, if◌then◌else◌, ◌&&◌, nat_le}
use Rattle.std.specs.Str.{bytes_eq}
use Rattle.rvc_base.specs.Width.{default_size, max_size}
use Rattle.rvc_base.specs.Storing.{conv, IsSize}
use Rattle.rvc_base.specs.declared.scalar.Scalar.{Scalar}
use Rattle.rvc_base.specs.declared.scalar.Scalar.TheVariants as scalar
use Rattle.cal_ast.specs.declared.expr.Gen.{Gen, out-Gen}
use Rattle.cal_model.specs.Value.{Shape, Single, Many, Value, Num, of_number}
use Rattle.cal_model.specs.Env.{Var, variable}
use Rattle.cal_model.specs.Expression.{Given}
use Rattle.const_env.specs.declared.types.Given.{Given as DeclaredGiven}

-- the single type that it is; none for a list
abbrev pub kept_in : Shape → Option Scalar
kept_in (Single t) = Some t
kept_in (Many n items) = None

-- the number that a value is
abbrev pub number_in : Value → Option ℤ
number_in (Num z) = Some z
number_in v = None

-- a number as it is stored
abbrev pub counted : Option Scalar → ℤ → Value
counted None z = Num z
counted (Some t) z = of_number t (conv t z)

-- a type whose size is allowed
abbrev pub IsKept : Option Scalar → Type 0
IsKept None = Unit {0}
IsKept (Some t) = IsSize t

abbrev pub name_of : Gen → List ℕ
name_of g = string_bytes (out-Gen g).name.text

-- a generator's variable, by its name
abbrev pub counter_var : List ℕ → Value → Var
counter_var name v = variable name (Single scalar.Bool) false v

-- what a type is given: whether it is given a type, and its size
pub record Erased : Type 0 where
  pub has_items : Bool
  pub size : Option ℕ

abbrev pub is_given : Option Shape → Bool
is_given None = false
is_given (Some t) = true

abbrev pub erased : Given → Erased
erased given = record { has_items = is_given given.items; size = given.size }

abbrev pub given_view : DeclaredGiven → Erased
given_view given = record { has_items = given.has_items; size = given.size }

-- ---- types by their names

abbrev pub kept_bits : Option ℕ → (ℕ → Scalar) → Option (Option Scalar)
kept_bits None f = Some (Some (f default_size))
kept_bits (Some n) f = if nat_le 1 n && nat_le n max_size then Some (Some (f n)) else None

abbrev pub kept_list : Erased → Option (Option Scalar)
kept_list given = if given.has_items then elim given.size [ None ↦ None | Some n ↦ Some None ]
    else None

-- the type of a name, as what a number is stored in
abbrev pub kept_named : List ℕ → Erased → Option (Option Scalar)
kept_named name given =
    if bytes_eq name (codes "bool") then Some (Some scalar.Bool)
    else if bytes_eq name (codes "int") then kept_bits given.size (λ n. scalar.Int n)
    else if bytes_eq name (codes "uint") then kept_bits given.size (λ n. scalar.Uint n)
    else if bytes_eq name (codes "List") then kept_list given
    else None
