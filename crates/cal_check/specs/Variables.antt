-- Variables, parameters and constants with their values, in the order of the text (ISO/IEC 23001-4, RVC-CAL: state
-- variables and parameters).
--
-- A start and a type see what is declared before them, with its values, and all functions.
-- Trusted: part of what a promise means.
use Rattle.std.specs.Prelude.{ℕ, Bool, true, false, ◌||◌, List, [], ◌∷◌, ◌++◌, Option, None, Some, if◌then◌else◌}
use Rattle.std.specs.Str.{bytes_eq}
use Rattle.rvc_base.specs.declared.refusal.Rule.{Rule}
use Rattle.rvc_base.specs.Rules.{wrong_kind, wrong_length, wrong_parameter}
use Rattle.cal_ast.specs.Tree as tree
use Rattle.cal_ast.specs.Tree.{Tree}
use Rattle.cal_model.specs.Value.{Kind, Shape, Value, kind_of_type, stored, zero_of}
use Rattle.cal_model.specs.Actor.{Held}
use Rattle.cal_model.specs.Kinding.{Judged, Fine, Broken, Known, Names}
use Rattle.cal_check.specs.Violations.{Violation, violation, said}
use Rattle.cal_check.specs.Constants.{early_type, early_kind, start_value, useless, has_kind, is_like_value}
use Rattle.cal_check.specs.Routines.{FunDecl, with_funs}

-- a place in a file, or elsewhere
pub record Spot : Type 0 where
  pub file : ℕ
  pub at : ℕ

-- a rule that is broken, with the file in which it is
pub record Found : Type 0 where
  pub violation : Violation
  pub file : ℕ

abbrev pub found_in : ℕ → List Violation → List Found
found_in file [] = []
found_in file (v ∷ vs) = record { violation = v; file = file } ∷ found_in file vs

-- a value that is given to a parameter
pub record Given : Type 0 where
  pub name : List ℕ
  pub value : Value
  pub place : Spot

abbrev pub given_to : List ℕ → List Given → Option Given
given_to name [] = None
given_to name (g ∷ gs) = if bytes_eq g.name name then Some g else given_to name gs

-- a variable of a file, by the text that stands for it where it is used
pub record VarDecl : Type 0 where
  pub name : List ℕ
  pub file : ℕ
  pub shape : Tree
  pub start : Tree
  -- false for parameters, constants and what a unit declares
  pub changes : Bool
  -- a parameter has a value from outside or a default
  pub is_param : Bool

-- ---- starts

-- what a start comes to: its value if there is one, and what it breaks
pub record Come : Type 0 where
  pub value : Option Value
  pub breaks : List Violation

abbrev pub come_of : Judged (Option Value) → Come
come_of (Fine v) = record { value = v; breaks = [] }
come_of (Broken rule at) = record { value = None; breaks = violation rule at }

abbrev pub come_if : Judged Kind → Shape → Tree → Names → Come
come_if (Fine k) t e names = come_of (start_value t e names)
come_if (Broken rule at) t e names = record { value = None; breaks = violation rule at }

-- a variable that is declared without a start begins with 0, false, or lists of these
abbrev pub come : Shape → Tree → Names → Come
come t (tree.present e) names = come_if (early_kind (kind_of_type t) e names) t e names
come t other names = record { value = Some (zero_of t); breaks = [] }

-- ---- values that are given

-- a value of the parameter's kind, stored in its type
abbrev pub given_value : Option Given → Shape → Option Value → Option Value
given_value None t start = start
given_value (Some g) t start =
    if has_kind (kind_of_type t) g.value then Some (stored t g.value) else None

-- why it isn't: its lists have other lengths, or it is of another kind
abbrev pub misfit : Kind → Value → Rule
misfit k v = if is_like_value k v then wrong_length else wrong_kind

abbrev pub given_broken : Option Given → Shape → List Found
given_broken None t = []
given_broken (Some g) t =
    if has_kind (kind_of_type t) g.value then []
    else found_in g.place.file (violation (misfit (kind_of_type t) g.value) g.place.at)

-- a parameter without value and default
abbrev pub is_bare : Tree → Option Given → Bool
is_bare (tree.present e) given = false
is_bare other (Some g) = false
is_bare other None = true

abbrev pub param_broken : VarDecl → List Given → Spot → Shape → List Found
param_broken x gs owner t =
    if x.is_param then given_broken (given_to x.name gs) t
    ++ (if is_bare x.start (given_to x.name gs)
    then found_in owner.file (violation wrong_parameter owner.at) else [])
    else []

abbrev pub value_of : VarDecl → List Given → Shape → Option Value → Option Value
value_of x gs t start = if x.is_param then given_value (given_to x.name gs) t start else start

-- ---- all variables

-- what the variables come to
pub record Valued : Type 0 where
  -- as names while values are sought, each with its value
  pub known : List Known
  -- those that have a value
  pub held : List Held
  pub breaks : List Found
  -- some variable has no value that is of use, so nothing is said of what isn't constant behind it
  pub useless : Bool
  -- all types were found
  pub whole : Bool

abbrev pub none_yet : Valued
none_yet = record { known = []; held = []; breaks = []; useless = false; whole = true }

-- what is seen of the names that are known: with their values, and with all functions over them
abbrev pub seen : List FunDecl → List Known → Names
seen fs known = with_funs fs (record { globals = known; locals = []; funs = [] })

abbrev pub value_or : Option Value → Kind → Value
value_or (Some v) k = v
value_or None k = useless k

abbrev pub held_if : Option Value → VarDecl → Shape → List Held → List Held
held_if None x t held = held
held_if (Some v) x t held =
    held ++ record { name = x.name; shape = t; value = v; changes = x.changes } ∷ []

abbrev pub is_none : Option Value → Bool
is_none None = true
is_none (Some v) = false

-- one variable more, whose type is this and which comes to this
abbrev pub with_value : VarDecl → Shape → Option Value → List Found → Valued → Valued
with_value x t v breaks vs = record {
  known = record {
    name = x.name;
    kind = kind_of_type t;
    value = Some (value_or v (kind_of_type t));
    changes = x.changes;
  } ∷ vs.known;
  held = held_if v x t vs.held;
  breaks = vs.breaks ++ breaks;
  useless = vs.useless || is_none v;
  whole = true;
}

abbrev pub with_come : VarDecl → List Given → Spot → Shape → Come → Valued → Valued
with_come x gs owner t c vs =
    with_value x t (value_of x gs t c.value)
    (found_in x.file (said vs.useless c.breaks) ++ param_broken x gs owner t) vs

-- if its type breaks a rule, nothing behind it is judged
abbrev pub with_type : Judged Shape → VarDecl → List Given → Spot → Names → Valued → Valued
with_type (Fine t) x gs owner names vs = with_come x gs owner t (come t x.start names) vs
with_type (Broken rule at) x gs owner names vs =
    record vs {
      breaks = vs.breaks ++ found_in x.file (said vs.useless (violation rule at));
      whole = false;
    }

abbrev pub with_var : VarDecl → List Given → Spot → List FunDecl → Valued → Valued
with_var x gs owner fs vs =
    if vs.whole
    then with_type (early_type x.shape (seen fs vs.known)) x gs owner (seen fs vs.known) vs
    else vs

abbrev pub valued : List VarDecl → List Given → Spot → List FunDecl → Valued → Valued
valued [] gs owner fs vs = vs
valued (x ∷ xs) gs owner fs vs = valued xs gs owner fs (with_var x gs owner fs vs)
