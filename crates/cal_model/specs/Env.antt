-- Environments: names with their values.
-- Trusted: part of what a promise means.
use Rattle.std.specs.Prelude.{ℕ, ◌-◌, Bool, false, ◌||◌, List, [], ◌∷◌, ◌++◌, length, drop, ℤ, pos, negsuc, if◌then◌else◌, Option, None, Some}
use Rattle.std.specs.Str.{bytes_eq}
use Rattle.rvc_base.specs.declared.trap.Trap.TheVariants.{IndexRange}
use Rattle.cal_model.specs.Value.{Shape, Many, Value, Num, Items, Values, Nil, Cons, value_at, with_value, stored}
use Rattle.cal_model.specs.Outcome.{Out, Gives, Traps, Lacks, Clashes, and_then}

pub record Var : Type 0 where
  pub name : List ℕ
  pub value : Value
  -- the type in which what is assigned is stored; none for a constant
  pub kept : Option Shape

-- The names of an actor or of a file, and those declared inside what is evaluated, the innermost first.
pub record Env : Type 0 where
  pub globals : List Var
  pub locals : List Var

-- what a name means among these, of which the first hides the others
abbrev pub find : List ℕ → List Var → Option Value
find name [] = None
find name (x ∷ xs) = if bytes_eq x.name name then Some x.value else find name xs

-- inner names hide outer ones
abbrev pub look_up : List ℕ → Env → Option Value
look_up name env = find name (env.locals ++ env.globals)

-- a variable of a type, which changes or is a constant
abbrev pub variable : List ℕ → Shape → Bool → Value → Var
variable name t changes v =
    record { name = name; value = v; kept = if changes then Some t else None }

abbrev pub with_local : Var → Env → Env
with_local x env = record env { locals = x ∷ env.locals }

-- the environment without the locals that were declared since this one
abbrev pub back_to : Env → Env → Env
back_to before env =
    record env { locals = drop (length env.locals - length before.locals) env.locals }

-- ---- assignment

-- the item at a number, which must be a place of the list
abbrev pub item_at : Values → ℤ → ℕ → Out Value
item_at vs (pos k) left = elim (value_at vs k) [ None ↦ Traps IndexRange | Some v ↦ Gives v left ]
item_at vs (negsuc k) left = Traps IndexRange

-- the list with w at a number
abbrev pub with_item : Values → ℤ → Value → Values
with_item vs (pos k) w = with_value vs k w
with_item vs (negsuc k) w = vs

-- What a variable of a type holds once v is assigned at these places in it. The places are tested from left to
-- right.
abbrev pub put : Shape → Value → Values → Value → ℕ → Out Value
put t old Nil v left = Gives (stored t v) left
put (Many n items) (Items vs) (Cons (Num i) places) v left =
    and_then (item_at vs i left) (λ old m. and_then (put items old places v m)
    (λ w k. Gives (Items (with_item vs i w)) k))
put t old places v left = Clashes

abbrev pub assigned_to : Var → Values → Value → ℕ → Out Var
assigned_to x places v left = elim x.kept [
  | None ↦ Clashes
  | Some t ↦ and_then (put t x.value places v left)
      (λ w k. Gives (record x { value = w }) k)
]

-- the first variable of the name is assigned
abbrev pub assigned : List Var → List ℕ → Values → Value → ℕ → Out (List Var)
assigned [] name places v left = Lacks
assigned (x ∷ xs) name places v left = if bytes_eq x.name name
    then and_then (assigned_to x places v left) (λ y k. Gives (y ∷ xs) k)
    else and_then (assigned xs name places v left) (λ ys k. Gives (x ∷ ys) k)

abbrev pub is_among : List ℕ → List Var → Bool
is_among name [] = false
is_among name (x ∷ xs) = bytes_eq x.name name || is_among name xs

abbrev pub assign : Env → List ℕ → Values → Value → ℕ → Out Env
assign env name places v left = if is_among name env.locals
    then and_then (assigned env.locals name places v left)
    (λ xs k. Gives (record env { locals = xs }) k)
    else and_then (assigned env.globals name places v left)
    (λ xs k. Gives (record env { globals = xs }) k)
