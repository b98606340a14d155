-- What calls that evaluate parts of a network answer.
-- Not trusted: no promise is read with it.
use Rattle.std.specs.Prelude.{◌≡◌, ℕ, true, false, List, [], ◌++◌, map, Option, None, Some, Vec, if◌then◌else◌}
use Rattle.std.specs.declared.alloc.Global.{Global}
use Rattle.std.specs.declared.result.Result.{Result}
use Rattle.std.specs.declared.result.Result.TheVariants.{Ok, Err}
use Rattle.rvc_base.specs.Rules.{constant_traps, not_constant, wrong_parameter}
use Rattle.rvc_base.specs.declared.refusal.Front.{Front}
use Rattle.cal_ast.specs.Tree.{Tree}
use Rattle.cal_model.specs.Value.{Kind, Shape, Value}
use Rattle.cal_model.specs.Outcome.{Out, Gives, Traps, Lacks, Clashes}
use Rattle.cal_model.specs.Actor.{Held}
use Rattle.cal_model.specs.Kinding.{Judged, Fine, Broken, Known, Names}
use Rattle.cal_model.specs.View.{value_view}
use Rattle.cal_model.specs.declared.value.Value.{Value as DeclaredValue}
use Rattle.const_env.specs.declared.fault.KindFault.{KindFault}
use Rattle.const_env.specs.declared.fault.KindFault.TheVariants as fault
use Rattle.const_env.specs.Held.{Kept, globals_of}
use Rattle.const_env.specs.Judging.{Breaks}
use Rattle.cal_check.specs.Constants.{not_yet}
use Rattle.cal_check.specs.Violations.{violation, all_broken, all_fine}
use Rattle.cal_check.specs.Variables.{Spot, Found, found_in, Come, Given, VarDecl, Valued, none_yet, come, with_var, valued, value_of, param_broken, is_bare}
use Rattle.fnl_read.specs.Net.{Parameter, Size, Connection}
use Rattle.fnl_tree.specs.View.{wire_of}
use Rattle.fnl_tree.specs.declared.tree.LeafValue.{LeafValue}
use Rattle.fnl_tree.specs.declared.tree.Wire.{Wire as DeclaredWire}
use Rattle.fnl_bind.specs.Values as values
use Rattle.fnl_bind.specs.Values.{parameters_judged, all_given, sizes_judged, sizes_of, largest, or_no, connections_broken, wires_of}
use Rattle.fnl_values.specs.Causes.{Refuses}
use Rattle.check_given.specs.Causes.{IsCause}
use Rattle.check_given.specs.Given.{all_given as all_given_of}

-- ---- values

-- what an expression that has a kind comes to
abbrev pub outcome_judged : Out Value → ℕ → Judged Value
outcome_judged (Gives v left) at = Fine v
outcome_judged (Traps c) at = Broken constant_traps at
outcome_judged Lacks at = Broken not_constant at
outcome_judged Clashes at = Broken not_constant at

-- a start comes to its value, or to the rule that it breaks
abbrev pub Starts : Result DeclaredValue KindFault → Come → Type 0
Starts (Ok v) c = c ≡ record { value = Some (value_view v); breaks = [] }
Starts (Err (fault.Broken rule at)) c = c ≡ record { value = None; breaks = violation rule at }
Starts (Err fault.Memory) c = Unit {0}

-- a parameter's value is what it is given or its default, or breaks a rule
abbrev pub Settles : Result DeclaredValue Front → Option Value → List Found → Type 0
Settles (Ok v) value breaks = (value ≡ Some (value_view v)) × (breaks ≡ [])
Settles (Err f) value breaks = IsCause f breaks

-- what a parameter breaks that is given no value
abbrev pub bare_broken : Tree → Spot → List Found
bare_broken start owner =
    if is_bare start None then found_in owner.file (violation wrong_parameter owner.at) else []

-- ---- names that aren't known yet

-- a fault in a type, and what it is where names aren't known yet
abbrev pub IsLateInType : KindFault → KindFault → Tree → Type 0
IsLateInType found late t = (judged : Judged Shape) → Breaks found judged
    → Breaks late (not_yet judged t)

-- the same of the kind of an expression
abbrev pub IsLateInExpr : KindFault → KindFault → Tree → Type 0
IsLateInExpr found late e = (judged : Judged Kind) → Breaks found judged
    → Breaks late (not_yet judged e)

-- ---- declarations

-- names that are known, of which none broke a rule
abbrev pub fine_so_far : List Known → List Held → Valued
fine_so_far known held =
    record { known = known; held = held; breaks = []; useless = false; whole = true }

-- one declaration more, behind names that are known
abbrev pub Declares : Result (Unit {0}) Front → VarDecl → List Given → Spot → List Known → List Known → Type 0
Declares (Ok u) x gs owner known now = (held : List Held)
    → (after : List Held) × (with_var x gs owner [] (fine_so_far known held) ≡ fine_so_far now after)
Declares (Err f) x gs owner known now = (held : List Held)
    → IsCause f (with_var x gs owner [] (fine_so_far known held)).breaks

-- what the value of a declaration breaks, whose type is this
abbrev pub value_breaks : VarDecl → List Given → Spot → Shape → Names → List Found
value_breaks x gs owner t names =
    found_in x.file (come t x.start names).breaks ++ param_broken x gs owner t

-- its value
abbrev pub Comes : Result DeclaredValue Front → VarDecl → List Given → Spot → Shape → Names → Type 0
Comes (Ok v) x gs owner t names =
    (value_of x gs t (come t x.start names).value ≡ Some (value_view v))
    × (value_breaks x gs owner t names ≡ [])
Comes (Err f) x gs owner t names = IsCause f (value_breaks x gs owner t names)

-- all declarations
abbrev pub DeclaresAll : Result Kept Front → List VarDecl → List Given → Spot → Type 0
DeclaresAll (Ok env) xs gs owner =
    (after : List Held) × (valued xs gs owner [] none_yet ≡ fine_so_far (globals_of env) after)
DeclaresAll (Err f) xs gs owner = IsCause f (valued xs gs owner [] none_yet).breaks

-- ---- parts

-- what is found of the first parts, and then of the others if all of them are fine
abbrev pub behind : {A : Type 0} → List A → Option (List A) → Option (List A)
behind found None = None
behind found (Some others) = Some (found ++ others)

-- all values that an instance is given
abbrev pub GivesAll : Result (Vec LeafValue Global) KindFault → ℕ → List Parameter → Names → Type 0
GivesAll (Ok gs) file ps names =
    (all_broken (parameters_judged ps names) ≡ [])
    × (all_given file ps names ≡ Some (all_given_of gs.items))
GivesAll (Err f) file ps names = Refuses f (all_broken (parameters_judged ps names))

-- the largest of sizes
abbrev pub IsLargest : Result ℕ KindFault → List Size → Names → Type 0
IsLargest (Ok n) zs names =
    (all_broken (sizes_judged zs names) ≡ [])
    × (n ≡ largest (or_no (all_fine (sizes_judged zs names))))
IsLargest (Err f) zs names = Refuses f (all_broken (sizes_judged zs names))

-- a connection with its size
abbrev pub Sizes : Result DeclaredWire KindFault → Connection → Names → Type 0
Sizes (Ok w) c names =
    (all_broken (sizes_judged (sizes_of c) names) ≡ []) × (wire_of w ≡ values.wire_of c names)
Sizes (Err f) c names = Refuses f (all_broken (sizes_judged (sizes_of c) names))

-- all of them
abbrev pub SizesAll : Result (Vec DeclaredWire Global) KindFault → List Connection → Names → Type 0
SizesAll (Ok ws) cs names =
    (connections_broken cs names ≡ []) × (map wire_of ws.items ≡ wires_of cs names)
SizesAll (Err f) cs names = Refuses f (connections_broken cs names)
