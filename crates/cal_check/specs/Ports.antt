-- Ports of an actor's header, and which port a pattern or an output means (ISO/IEC 23001-4, RVC-CAL: ports, input
-- patterns and output expressions).
-- Trusted: part of what a promise means.
use Rattle.std.specs.Prelude.{ℕ, suc, Bool, true, false, List, [], ◌∷◌, ◌++◌, length, nat_le, nat_lt, ◌==◌, Option, None, Some, if◌then◌else◌}
use Rattle.std.specs.Str.{bytes_eq}
use Rattle.rvc_base.specs.Rules.{unknown_name, port_named_twice, wrong_ports, too_many_ports}
use Rattle.cal_ast.specs.Places.{begins}
use Rattle.cal_ast.specs.Tree as tree
use Rattle.cal_ast.specs.Tree.{Tree}
use Rattle.cal_model.specs.Actor.{Port}
use Rattle.cal_model.specs.Rates.{parts}
use Rattle.cal_model.specs.Kinding.{Judged, Fine, Broken, and_so, Names}
use Rattle.cal_model.specs.Sound.{max_ports}
use Rattle.cal_check.specs.Violations.{Violation, Keyed, unless, all_broken, twice}
use Rattle.cal_check.specs.Constants.{early_type}
use Rattle.cal_check.specs.Routines.{single}

-- ---- the header

-- a port's type sees the parameters, and what is declared later isn't constant yet
abbrev pub port_judged : Tree → Names → Judged Port
port_judged (tree.port shape (tree.ident name place) at) names =
    and_so (single (early_type shape names) (begins shape))
    (λ t. Fine (record { name = name; kind = t }))
port_judged other names = Broken unknown_name 0

abbrev pub each_port : Tree → Names → List (Judged Port)
each_port (tree.cons p ps) names = port_judged p names ∷ each_port ps names
each_port other names = []

abbrev pub keyed_ports : Tree → List (Keyed (List ℕ))
keyed_ports (tree.cons (tree.port shape (tree.ident name place) at) ps) =
    record { key = name; at = at } ∷ keyed_ports ps
keyed_ports other = []

-- the types, the numbers of ports, and names that stand twice, over both directions
abbrev pub header_broken : Tree → Tree → ℕ → Names → List Violation
header_broken ins outs at names =
    all_broken (each_port ins names) ++ (all_broken (each_port outs names)
    ++ (twice bytes_eq port_named_twice [] (keyed_ports ins ++ keyed_ports outs)
    ++ (unless (nat_le (parts ins) max_ports) too_many_ports at
    ++ unless (nat_le (parts outs) max_ports) too_many_ports at)))

-- ---- ports of patterns and outputs

-- the port that a pattern or an output names, if it names one, and where it begins
pub record Asked : Type 0 where
  pub name : Option (List ℕ)
  pub at : ℕ

abbrev pub asked_name : Tree → Option (List ℕ)
asked_name (tree.present (tree.ident name place)) = Some name
asked_name other = None

abbrev pub asked_by : Tree → Asked
asked_by (tree.pattern asked names repeat at) = record { name = asked_name asked; at = at }
asked_by (tree.output asked values repeat at) = record { name = asked_name asked; at = at }
asked_by other = record { name = None; at = 0 }

abbrev pub each_asked : Tree → List Asked
each_asked (tree.cons p ps) = asked_by p ∷ each_asked ps
each_asked other = []

-- the number of a port
abbrev pub number_from : ℕ → List ℕ → List Port → Option ℕ
number_from k name [] = None
number_from k name (p ∷ ps) = if bytes_eq p.name name then Some k else number_from (suc k) name ps

abbrev pub named_port : Option ℕ → ℕ → Judged ℕ
named_port None at = Broken unknown_name at
named_port (Some p) at = Fine p

-- the port of the k-th part: by its name, if the first has one, and else by its place
abbrev pub port_of : Bool → ℕ → Asked → Option (List ℕ) → List Port → Judged ℕ
port_of true k asked (Some name) ports = named_port (number_from 0 name ports) asked.at
port_of true k asked None ports = Broken wrong_ports asked.at
port_of false k asked (Some name) ports = Broken wrong_ports asked.at
port_of false k asked None ports =
    if nat_lt k (length ports) then Fine k else Broken wrong_ports asked.at

abbrev pub ports_from : Bool → ℕ → List Asked → List Port → Judged (List ℕ)
ports_from named k [] ports = Fine []
ports_from named k (a ∷ rest) ports =
    and_so (port_of named k a a.name ports) (λ p.
    and_so (ports_from named (suc k) rest ports) (λ ps. Fine (p ∷ ps)))

abbrev pub is_named : List Asked → Bool
is_named [] = false
is_named (a ∷ rest) = elim a.name [ None ↦ false | Some name ↦ true ]

-- the ports of all patterns or outputs of an action, or the first that is wrong
abbrev pub ports_asked : List Asked → List Port → Judged (List ℕ)
ports_asked asked ports = ports_from (is_named asked) 0 asked ports

abbrev pub keyed_numbers : List ℕ → List Asked → List (Keyed ℕ)
keyed_numbers (p ∷ ps) (a ∷ rest) = record { key = p; at = a.at } ∷ keyed_numbers ps rest
keyed_numbers ps rest = []

-- each port once
abbrev pub numbers_twice : List ℕ → List Asked → List Violation
numbers_twice ps asked = twice (λ p q. p == q) port_named_twice [] (keyed_numbers ps asked)
