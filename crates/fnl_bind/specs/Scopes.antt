-- The rules that a network breaks whatever its values are: a name that isn't that of its class, names that stand twice,
-- names that are unknown, too many ports, and networks inside themselves (ISO/IEC 23001-4, FNL).
-- Trusted: part of what a promise means.
use Rattle.std.specs.Prelude.{ℕ, List, [], ◌∷◌, ◌++◌, ◌==◌, length, true, false, nat_le, if◌then◌else◌}
use Rattle.std.specs.List.{after_last}
use Rattle.std.specs.Str.{bytes_eq}
use Rattle.rvc_base.specs.Rules.{not_as_asked, unknown_name, too_many_ports, network_cycle, network_name_twice}
use Rattle.cal_ast.specs.Tree as tree
use Rattle.cal_ast.specs.Tree.{Tree}
use Rattle.cal_model.specs.Kinding.{is_word}
use Rattle.cal_model.specs.Sound.{max_ports}
use Rattle.cal_check.specs.Violations.{Violation, violation, unless, Keyed, twice}
use Rattle.fnl_read.specs.Net.{Net, Port, a_port, Decl, a_decl, Parameter, a_parameter, Instance, an_instance, Size, a_size, Connection, a_connection}
use Rattle.fnl_bind.specs.Library.{is_among, ports_of, decl_names, instance_class, instance_class_at}

-- ---- its own name

abbrev pub dot : ℕ
dot = 46

-- what stands behind the last dot of a class, or all of it if it has none
abbrev pub last_component : List ℕ → List ℕ
last_component class = after_last (λ b. b == dot) class

-- the network in the file of a class has the name with which the class ends; if not, the file's start is named
abbrev pub name_broken : Net → (class : List ℕ) → List Violation
name_broken net class = unless (bytes_eq (last_component class) net.name) not_as_asked 0

-- ---- names that stand twice

abbrev pub keyed_ports : List Port → List (Keyed (List ℕ))
keyed_ports [] = []
keyed_ports (a_port input shape name at ∷ ps) = record { key = name; at = at } ∷ keyed_ports ps

abbrev pub keyed_decls : List Decl → List (Keyed (List ℕ))
keyed_decls [] = []
keyed_decls (a_decl param shape name value at ∷ ds) =
    record { key = name; at = at } ∷ keyed_decls ds

abbrev pub keyed_instances : List Instance → List (Keyed (List ℕ))
keyed_instances [] = []
keyed_instances (an_instance id class class_at parameters at ∷ is) =
    record { key = id; at = at } ∷ keyed_instances is

-- each name of a kind once; those of ports over both directions
abbrev pub named_twice : List (Keyed (List ℕ)) → List Violation
named_twice names = twice bytes_eq network_name_twice [] names

-- ---- names that are unknown

-- the name of a generator's variable
abbrev pub gen_name : Tree → List ℕ
gen_name (tree.gen shape (tree.ident name place) from to at) = name
gen_name other = []

-- the names inside these generators: a generator's variable hides what has its name outside
abbrev pub inside_gens : (gens : Tree) → List (List ℕ) → List (List ℕ)
inside_gens (tree.cons g gens) names = inside_gens gens (gen_name g ∷ names)
inside_gens other names = names

abbrev mutual
  -- Names in an expression or a type that aren't declared, and types that there aren't. The place is that of the
  -- expression or of the type. A network declares no function, so the name of each call is unknown.
  pub unknown_in : Tree → List (List ℕ) → List Violation
  unknown_in (tree.cons t ts) names = unknown_in t names ++ unknown_in ts names
  unknown_in (tree.present t) names = unknown_in t names
  unknown_in (tree.number n at) names = []
  unknown_in (tree.truth b at) names = []
  unknown_in (tree.variable name at) names = unless (is_among name names) unknown_name at
  unknown_in (tree.call name args at) names = violation unknown_name at ++ unknown_in args names
  unknown_in (tree.paren e at) names = unknown_in e names
  unknown_in (tree.if_expr test first other at) names =
      unknown_in test names ++ (unknown_in first names ++ unknown_in other names)
  unknown_in (tree.list items at) names = unknown_in items names
  unknown_in (tree.comp item gens at) names =
      unknown_in item (inside_gens gens names) ++ unknown_in_gens gens names
  unknown_in (tree.gen shape name from to at) names =
      unknown_in shape names ++ (unknown_in from names ++ unknown_in to names)
  unknown_in (tree.index base place at) names = unknown_in base names ++ unknown_in place names
  unknown_in (tree.prefix op e at) names = unknown_in e names
  unknown_in (tree.binary op l r at) names = unknown_in l names ++ unknown_in r names
  unknown_in (tree.type_of (tree.ident name place) args at) names =
      unless (is_word name) unknown_name at ++ unknown_in args names
  unknown_in (tree.shape_arg x shape) names = unknown_in shape names
  unknown_in (tree.value_arg x value) names = unknown_in value names
  -- nothing, and what stands in no expression and no type
  unknown_in other names = []

  -- Names in generators, each of which sees those before it, and not itself.
  pub unknown_in_gens : (gens : Tree) → List (List ℕ) → List Violation
  unknown_in_gens (tree.cons g gens) names =
      unknown_in g names ++ unknown_in_gens gens (gen_name g ∷ names)
  unknown_in_gens other names = []

abbrev pub unknown_in_ports : List Port → List (List ℕ) → List Violation
unknown_in_ports [] names = []
unknown_in_ports (a_port input shape name at ∷ ps) names =
    unknown_in shape names ++ unknown_in_ports ps names

abbrev pub unknown_in_decls : List Decl → List (List ℕ) → List Violation
unknown_in_decls [] names = []
unknown_in_decls (a_decl param shape name value at ∷ ds) names =
    unknown_in shape names ++ (unknown_in value names ++ unknown_in_decls ds names)

abbrev pub unknown_in_parameters : List Parameter → List (List ℕ) → List Violation
unknown_in_parameters [] names = []
unknown_in_parameters (a_parameter name value at ∷ ps) names =
    unknown_in value names ++ unknown_in_parameters ps names

abbrev pub unknown_in_instances : List Instance → List (List ℕ) → List Violation
unknown_in_instances [] names = []
unknown_in_instances (an_instance id class class_at parameters at ∷ is) names =
    unknown_in_parameters parameters names ++ unknown_in_instances is names

abbrev pub unknown_in_sizes : List Size → List (List ℕ) → List Violation
unknown_in_sizes [] names = []
unknown_in_sizes (a_size value at ∷ zs) names =
    unknown_in value names ++ unknown_in_sizes zs names

abbrev pub unknown_in_connections : List Connection → List (List ℕ) → List Violation
unknown_in_connections [] names = []
unknown_in_connections (a_connection src src_port dst dst_port sizes at ∷ cs) names =
    unknown_in_sizes sizes names ++ unknown_in_connections cs names

-- all that a network uses without having declared it
abbrev pub unknown_names : Net → List Violation
unknown_names net =
    unknown_in_decls net.decls (decl_names net.decls)
    ++ (unknown_in_ports net.ports (decl_names net.decls)
    ++ (unknown_in_instances net.instances (decl_names net.decls)
    ++ unknown_in_connections net.connections (decl_names net.decls)))

-- ---- networks inside themselves

-- an instance whose class is that of a network in which it stands
abbrev pub circles : List Instance → List (List ℕ) → List Violation
circles [] above = []
circles (i ∷ is) above =
    (if is_among (instance_class i) above then violation network_cycle (instance_class_at i) else [])
    ++ circles is above

-- ---- all of these

-- too many ports of one direction
abbrev pub ports_broken : Net → List Violation
ports_broken net =
    unless (nat_le (length (ports_of true net.ports)) max_ports) too_many_ports net.at
    ++ unless (nat_le (length (ports_of false net.ports)) max_ports) too_many_ports net.at

-- the network of a class that stands in networks of these classes, its own among them
abbrev pub scope_broken : Net → (class : List ℕ) → (above : List (List ℕ)) → List Violation
scope_broken net class above =
    name_broken net class
    ++ (named_twice (keyed_ports net.ports) ++ (named_twice (keyed_decls net.decls)
    ++ (named_twice (keyed_instances net.instances)
    ++ (ports_broken net ++ (unknown_names net ++ circles net.instances above)))))
