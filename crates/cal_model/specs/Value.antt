-- Values, the types that they are stored in, and their kinds (ISO/IEC 23001-4, RVC-CAL: types; CAL Language Report,
-- data types).
-- Trusted: part of what a promise means.
use Rattle.std.specs.Prelude.{◌≡◌, ℕ, zero, suc, ◌*◌, ◌≤◌, Bool, ℤ, pos, Option, None, Some}
use Rattle.rvc_base.specs.declared.scalar.Scalar.{Scalar}
use Rattle.rvc_base.specs.declared.scalar.Scalar.TheVariants as scalar
use Rattle.rvc_base.specs.Storing.{conv, IsSize, InRange}
use Rattle.rvc_base.specs.Arithmetic.{is_true, truth}
use Rattle.rvc_base.specs.Width.{IsNum}

-- what an expression can be: a number, a truth value, or a list of so many values of one kind
pub data Kind : Type 0 where
  NumKind : Kind
  BoolKind : Kind
  ListKind : (size : ℕ) (items : Kind) → Kind

-- the type of a variable: that of single values, or of lists of so many items of one type
pub data Shape : Type 0 where
  Single : Scalar → Shape
  Many : (size : ℕ) (items : Shape) → Shape

mutual
  pub data Value : Type 0 where
    Num : ℤ → Value
    Truth : Bool → Value
    Items : Values → Value

  pub data Values : Type 0 where
    Nil : Values
    Cons : Value → Values → Values

-- ---- the kind of a type

abbrev pub kind_of_scalar : Scalar → Kind
kind_of_scalar scalar.Bool = BoolKind
kind_of_scalar (scalar.Int n) = NumKind
kind_of_scalar (scalar.Uint n) = NumKind

abbrev pub kind_of_type : Shape → Kind
kind_of_type (Single t) = kind_of_scalar t
kind_of_type (Many n items) = ListKind n (kind_of_type items)

-- how many scalars it has
abbrev pub scalars_of_kind : Kind → ℕ
scalars_of_kind NumKind = 1
scalars_of_kind BoolKind = 1
scalars_of_kind (ListKind n items) = n * scalars_of_kind items

abbrev pub scalars_of_type : Shape → ℕ
scalars_of_type (Single t) = 1
scalars_of_type (Many n items) = n * scalars_of_type items

-- ---- lists of values

abbrev pub count : Values → ℕ
count Nil = 0
count (Cons v vs) = suc (count vs)

abbrev pub joined : Values → Values → Values
joined Nil ws = ws
joined (Cons v vs) ws = Cons v (joined vs ws)

abbrev pub one : Value → Values
one v = Cons v Nil

-- the value at a place, which is none outside the list
abbrev pub value_at : Values → ℕ → Option Value
value_at Nil k = None
value_at (Cons v vs) zero = Some v
value_at (Cons v vs) (suc k) = value_at vs k

-- the list with w at a place
abbrev pub with_value : Values → ℕ → Value → Values
with_value Nil k w = Nil
with_value (Cons v vs) zero w = Cons w vs
with_value (Cons v vs) (suc k) w = Cons v (with_value vs k w)

abbrev pub repeated : ℕ → Value → Values
repeated zero v = Nil
repeated (suc n) v = Cons v (repeated n v)

-- ---- scalars as numbers: a truth value is 0 or 1

abbrev pub of_number : Scalar → ℤ → Value
of_number scalar.Bool z = Truth (is_true z)
of_number (scalar.Int n) z = Num z
of_number (scalar.Uint n) z = Num z

-- ---- storing

abbrev mutual
  -- what a variable of a type holds once a value of its kind is stored in it
  pub stored : Shape → Value → Value
  stored (Single t) (Num z) = of_number t (conv t z)
  stored (Single t) (Truth b) = of_number t (conv t (truth b))
  stored (Many n items) (Items vs) = Items (stored_each items vs)
  stored (Single t) (Items vs) = Items vs
  stored (Many n items) (Num z) = Num z
  stored (Many n items) (Truth b) = Truth b

  -- lists are stored item by item
  pub stored_each : Shape → Values → Values
  stored_each items Nil = Nil
  stored_each items (Cons v vs) = Cons (stored items v) (stored_each items vs)

-- what a variable holds that is declared without a value
abbrev pub zero_of : Shape → Value
zero_of (Single t) = of_number t (pos 0)
zero_of (Many n items) = Items (repeated n (zero_of items))

-- ---- which values are of a kind, and which of a type

abbrev pub IsSingleOf : Scalar → ℤ → Type 0
IsSingleOf scalar.Bool z = ⊥
IsSingleOf (scalar.Int n) z = InRange (scalar.Int n) z
IsSingleOf (scalar.Uint n) z = InRange (scalar.Uint n) z

abbrev pub IsTruthType : Scalar → Type 0
IsTruthType scalar.Bool = Unit {0}
IsTruthType (scalar.Int n) = ⊥
IsTruthType (scalar.Uint n) = ⊥

abbrev mutual
  pub HasKind : Kind → Value → Type 0
  HasKind NumKind (Num z) = IsNum z
  HasKind BoolKind (Truth b) = Unit {0}
  HasKind (ListKind n items) (Items vs) = (count vs ≡ n) × HaveKind items vs
  HasKind k v = ⊥

  pub HaveKind : Kind → Values → Type 0
  HaveKind items Nil = Unit {0}
  HaveKind items (Cons v vs) = HasKind items v × HaveKind items vs

abbrev mutual
  pub IsOf : Shape → Value → Type 0
  IsOf (Single t) (Num z) = IsSingleOf t z
  IsOf (Single t) (Truth b) = IsTruthType t
  IsOf (Many n items) (Items vs) = (count vs ≡ n) × AreOf items vs
  IsOf t v = ⊥

  pub AreOf : Shape → Values → Type 0
  AreOf items Nil = Unit {0}
  AreOf items (Cons v vs) = IsOf items v × AreOf items vs

-- ---- which types there are

-- the most scalars of a list
abbrev pub max_list_scalars : ℕ
max_list_scalars = 16384

-- a type whose sizes are allowed
abbrev pub IsType : Shape → Type 0
IsType (Single t) = IsSize t
IsType (Many n items) = (1 ≤ n) × (scalars_of_type (Many n items) ≤ max_list_scalars) × IsType items
