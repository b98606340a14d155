-- What the expressions of a network give, over what it declares (ISO/IEC 23001-4, FNL).
--
-- Declarations are evaluated in the order of the text, before all else. So the type of a port, the value of a parameter
-- of an instance and the size of a connection see each of them.
-- Trusted: part of what a promise means.
use Rattle.std.specs.Prelude.{ℕ, ◌&&◌, List, [], ◌∷◌, ◌++◌, map, max, nat_le, pos, negsuc, Option, None, Some, if◌then◌else◌}
use Rattle.rvc_base.specs.Rules.{constant_traps, not_constant, wrong_buffer_size}
use Rattle.cal_ast.specs.Places.{begins}
use Rattle.cal_ast.specs.Tree.{Tree}
use Rattle.cal_model.specs.Value.{Kind, NumKind, BoolKind, ListKind, Value, Num}
use Rattle.cal_model.specs.Outcome.{Out, Gives, Traps, Lacks, Clashes}
use Rattle.cal_model.specs.Kinding.{Judged, Fine, Broken, and_so, Names, kind, constant}
use Rattle.cal_check.specs.Violations.{Violation, all_broken, all_fine, and_all}
use Rattle.cal_check.specs.Constants.{has_kind}
use Rattle.cal_check.specs.Routines.{single_type}
use Rattle.cal_check.specs.Variables.{Given}
use Rattle.fnl_read.specs.Net.{Port, a_port, Parameter, a_parameter, Instance, Size, a_size, Connection, a_connection}
use Rattle.fnl_tree.specs.Tree.{Own as NetEnd, Wire}
use Rattle.fnl_bind.specs.Library.{instance_parameters}

-- ---- ports

-- a port has a type of single values
abbrev pub end_judged : Port → Names → Judged NetEnd
end_judged (a_port input shape name at) names =
    and_so (single_type shape names) (λ t. Fine (record { name = name; kind = t }))

abbrev pub ends_judged : List Port → Names → List (Judged NetEnd)
ends_judged ports names = map (λ p. end_judged p names) ports

-- ---- values of parameters

-- none if it needs a value that broke a rule
abbrev pub value_of_kind : Kind → Out Value → ℕ → Judged (Option Value)
value_of_kind k (Gives v left) at = Fine (if has_kind k v then Some v else None)
value_of_kind k (Traps c) at = Broken constant_traps at
value_of_kind k Lacks at = Broken not_constant at
value_of_kind k Clashes at = Fine None

-- the value of an expression that must be constant
abbrev pub value_judged : Tree → Names → Judged (Option Value)
value_judged e names =
    and_so (kind e names) (λ k. value_of_kind k (constant e names) (begins e))

abbrev pub parameter_judged : Parameter → Names → Judged (Option Value)
parameter_judged (a_parameter name value at) names = value_judged value names

abbrev pub parameters_judged : List Parameter → Names → List (Judged (Option Value))
parameters_judged ps names = map (λ p. parameter_judged p names) ps

abbrev pub instances_broken : List Instance → Names → List Violation
instances_broken [] names = []
instances_broken (i ∷ is) names =
    all_broken (parameters_judged (instance_parameters i) names) ++ instances_broken is names

-- the value that a parameter is given in a file, at the element that gives it
abbrev pub given_as : ℕ → Parameter → Option Value → Option Given
given_as file p None = None
given_as file (a_parameter name value at) (Some v) =
    Some (record { name = name; value = v; place = record { file = file; at = at } })

abbrev pub value_in : Judged (Option Value) → Option Value
value_in (Fine v) = v
value_in (Broken rule at) = None

-- all values that an instance gives, if each has one
abbrev pub all_given : ℕ → List Parameter → Names → Option (List Given)
all_given file [] names = Some []
all_given file (p ∷ ps) names =
    and_all (given_as file p (value_in (parameter_judged p names))) (all_given file ps names)

-- ---- sizes of connections

abbrev pub max_size_asked : ℕ
max_size_asked = 1048576

-- a size that is asked for by an element at an offset; 0 if it needs a value that broke a rule
abbrev pub size_of_value : Value → ℕ → Judged ℕ
size_of_value (Num (pos n)) at =
    if nat_le 1 n && nat_le n max_size_asked then Fine n else Broken wrong_buffer_size at
size_of_value (Num (negsuc n)) at = Broken wrong_buffer_size at
size_of_value other at = Fine 0

abbrev pub size_given : Out Value → Tree → ℕ → Judged ℕ
size_given (Gives v left) e at = size_of_value v at
size_given (Traps c) e at = Broken constant_traps (begins e)
size_given Lacks e at = Broken not_constant (begins e)
size_given Clashes e at = Fine 0

-- what isn't a number is no size
abbrev pub size_of_kind : Kind → Tree → ℕ → Names → Judged ℕ
size_of_kind NumKind e at names = size_given (constant e names) e at
size_of_kind BoolKind e at names = Broken wrong_buffer_size at
size_of_kind (ListKind n k) e at names = Broken wrong_buffer_size at

abbrev pub size_judged : Size → Names → Judged ℕ
size_judged (a_size value at) names = and_so (kind value names) (λ k. size_of_kind k value at names)

abbrev pub sizes_judged : List Size → Names → List (Judged ℕ)
sizes_judged zs names = map (λ z. size_judged z names) zs

abbrev pub sizes_of : Connection → List Size
sizes_of (a_connection src src_port dst dst_port sizes at) = sizes

abbrev pub connections_broken : List Connection → Names → List Violation
connections_broken [] names = []
connections_broken (c ∷ cs) names =
    all_broken (sizes_judged (sizes_of c) names) ++ connections_broken cs names

abbrev pub largest : List ℕ → ℕ
largest [] = 0
largest (n ∷ ns) = max n (largest ns)

abbrev pub or_no : {A : Type 0} → Option (List A) → List A
or_no None = []
or_no (Some xs) = xs

abbrev pub wire_of : Connection → Names → Wire
wire_of (a_connection src src_port dst dst_port sizes at) names = record {
  src = src;
  src_port = src_port;
  dst = dst;
  dst_port = dst_port;
  size = largest (or_no (all_fine (sizes_judged sizes names)));
  at = at;
}

abbrev pub wires_of : List Connection → Names → List Wire
wires_of cs names = map (λ c. wire_of c names) cs

abbrev pub ends_of : List Port → Names → List NetEnd
ends_of ports names = or_no (all_fine (ends_judged ports names))

-- ---- what breaks a rule

abbrev pub values_broken : List Port → List Instance → List Connection → Names → List Violation
values_broken ports instances connections names =
    all_broken (ends_judged ports names)
    ++ (instances_broken instances names ++ connections_broken connections names)
