-- Worked networks: the rules that they break, and the trees that they make.
use Rattle.std.proofs.Common.{◌≡◌, ◌+◌, ℕ, zero, suc, true, false, List, [], ◌∷◌, ◌++◌, pos, refl}
use Rattle.std.specs.Prelude.{codes, slice_get}
use Rattle.rvc_base.specs.declared.scalar.Scalar.TheVariants as scalar
use Rattle.rvc_base.specs.Rules as rules
use Rattle.rvc_base.specs.declared.refusal.Rule.{Rule}
use Rattle.cal_ast.specs.declared.expr.BinOp.TheVariants as op
use Rattle.cal_ast.specs.declared.expr.PrefixOp.TheVariants as prefixes
use Rattle.cal_ast.specs.Tree as tree
use Rattle.cal_ast.specs.Tree.{Tree, listed}
use Rattle.cal_model.specs.Value.{Num}
use Rattle.cal_check.specs.Variables.{Found}
use Rattle.fnl_read.specs.Net.{Net, Port, a_port, Decl, a_decl, Parameter, a_parameter, Instance, an_instance, Size, a_size, Connection, a_connection}
use Rattle.cal_check.specs.Violations.{violation}
use Rattle.fnl_bind.specs.Scopes.{last_component, ports_broken, unknown_in}
use Rattle.rvc_base.specs.declared.refusal.Place.{Place as FilePlace}
use Rattle.fnl_tree.specs.Tree.{Inner, InnerNet, InnerLeaf, Part, Net as BoundNet, Leaf}
use Rattle.fnl_bind.specs.Library.{Entry}
use Rattle.fnl_bind.specs.Trees.{violations, bound, instances_at, passing}

-- ---- parts of networks

abbrev number : ℕ → ℕ → Tree
number n at = tree.number n at

abbrev name : List ℕ → ℕ → Tree
name text at = tree.variable text at

abbrev plus : Tree → Tree → ℕ → Tree
plus l r at = tree.binary op.Add l r at

abbrev times : Tree → Tree → ℕ → Tree
times l r at = tree.binary op.Mul l r at

abbrev sized : List ℕ → Tree → ℕ → Tree
sized word size at =
    tree.type_of (tree.ident word (at + 1)) (listed (tree.value_arg (tree.ident (codes "size") (at + 2)) size ∷ [])) at

abbrev byte : ℕ → Tree
byte at = sized (codes "uint") (number 8 (at + 3)) at

abbrev plain_type : List ℕ → ℕ → Tree
plain_type word at = tree.type_of (tree.ident word (at + 1)) tree.nil at

abbrev int : ℕ → Tree
int at = plain_type (codes "int") at

-- a list of so many of a type
abbrev list_type : Tree → Tree → ℕ → Tree
list_type shape size at =
    tree.type_of (tree.ident (codes "List") (at + 1))
    (listed (tree.shape_arg (tree.ident (codes "type") at) shape ∷ tree.value_arg (tree.ident (codes "size") at) size ∷ [])) at

abbrev variable : Tree → List ℕ → Tree → ℕ → Decl
variable shape text value at = a_decl false shape text (tree.present value) at

abbrev parameter : Tree → List ℕ → ℕ → Decl
parameter shape text at = a_decl true shape text tree.absent at

abbrev defaulted : Tree → List ℕ → Tree → ℕ → Decl
defaulted shape text value at = a_decl true shape text (tree.present value) at

abbrev instance : List ℕ → List ℕ → List Parameter → ℕ → Instance
instance id class parameters at = an_instance id class (at + 5) parameters at

abbrev net : List Port → List Decl → List Instance → List Connection → Net
net ports decls instances connections = record {
  name = codes "T";
  ports = ports;
  decls = decls;
  instances = instances;
  connections = connections;
  at = 3;
}

-- a network that has the name of its class
abbrev entry : List ℕ → ℕ → Net → Entry
entry class file n = record { class = class; file = file; net = record n { name = class } }

-- a library with one network
abbrev alone : Net → List Entry
alone n = entry (codes "T") 1 n ∷ []

abbrev breaks : Net → List Found
breaks n = violations (alone n) (codes "T")

abbrev spot : ℕ → ℕ → FilePlace
spot file at = record { file = file; offset = at }

abbrev found_in : ℕ → Rule → ℕ → Found
found_in file rule at = record { violation = record { rule = rule; at = at }; file = file }

abbrev found : Rule → ℕ → Found
found rule at = found_in 1 rule at

abbrev decls : List Decl → Net
decls ds = net [] ds [] []

-- ---- names

in_packages : last_component (codes "p.q.M") ≡ codes "M"
in_packages = refl

in_no_package : last_component (codes "M") ≡ codes "M"
in_no_package = refl

abbrev named_t : List ℕ → ℕ → List Instance → Entry
named_t class file instances = record { class = class; file = file; net = net [] [] instances [] }

its_last_component : violations (named_t (codes "p.q.T") 1 [] ∷ []) (codes "p.q.T") ≡ []
its_last_component = refl

another_name : violations (named_t (codes "U") 1 [] ∷ []) (codes "U") ≡ found rules.not_as_asked 0 ∷ []
another_name = refl

-- the same for a network within another one
another_name_inside : violations (named_t (codes "T") 1 (instance (codes "m") (codes "p.M") [] 10 ∷ []) ∷ named_t (codes "p.M") 2 [] ∷ []) (codes "T")
    ≡ found_in 2 rules.not_as_asked 0 ∷ []
another_name_inside = refl

-- a network inside itself
self_is_a_circle : violations (entry (codes "Self") 1 (net [] [] (an_instance (codes "a") (codes "Self") 34 [] 17 ∷ []) []) ∷ []) (codes "Self") ≡ found rules.network_cycle 34 ∷ []
self_is_a_circle = refl

-- A holds B, which holds A
a_longer_circle : violations (
    entry (codes "A") 1 (net [] [] (instance (codes "b") (codes "B") [] 10 ∷ []) [])
    ∷ entry (codes "B") 2 (net [] [] (instance (codes "a") (codes "A") [] 20 ∷ []) []) ∷ []) (codes "A")
    ≡ found_in 2 rules.network_cycle 25 ∷ []
a_longer_circle = refl

an_instance_twice : breaks (net [] [] (instance (codes "a") (codes "X") [] 10 ∷ instance (codes "b") (codes "X") [] 30 ∷ instance (codes "a") (codes "Y") [] 50 ∷ []) [])
    ≡ found rules.network_name_twice 50 ∷ []
an_instance_twice = refl

-- over both directions
a_port_twice : breaks (net (a_port true (byte 10) (codes "P") 9 ∷ a_port false (byte 20) (codes "P") 19 ∷ []) [] [] [])
    ≡ found rules.network_name_twice 19 ∷ []
a_port_twice = refl

a_declaration_twice : breaks (decls (variable (int 10) (codes "a") (number 1 12) 9 ∷ defaulted (int 20) (codes "a") (number 1 22) 19 ∷ []))
    ≡ found rules.network_name_twice 19 ∷ []
a_declaration_twice = refl

-- ports, declarations and instances have names of their own
three_of_one_name : breaks (net (a_port true (byte 10) (codes "a") 9 ∷ []) (variable (int 20) (codes "a") (number 1 22) 19 ∷ []) (instance (codes "a") (codes "X") [] 30 ∷ []) []) ≡ []
three_of_one_name = refl

-- `a = b`, `b = b` and `a = c`, if a stands before b and there is no c
a_later_name : breaks (decls (variable (int 10) (codes "a") (plus (name (codes "b") 13) (number 1 14) 12) 9 ∷ variable (int 20) (codes "b") (number 1 22) 19 ∷ []))
    ≡ found rules.not_constant 12 ∷ []
a_later_name = refl

its_own_name : breaks (decls (variable (int 20) (codes "b") (name (codes "b") 22) 19 ∷ []))
    ≡ found rules.not_constant 22 ∷ []
its_own_name = refl

-- the size of a type sees no later name either
a_later_size : breaks (decls (variable (sized (codes "int") (name (codes "w") 13) 10) (codes "a") (number 1 16) 9 ∷ variable (int 20) (codes "w") (number 8 22) 19 ∷ []))
    ≡ found rules.not_constant 13 ∷ []
a_later_size = refl

an_unknown_name : breaks (decls (variable (int 10) (codes "a") (plus (number 1 13) (name (codes "c") 14) 12) 9 ∷ []))
    ≡ found rules.unknown_name 14 ∷ []
an_unknown_name = refl

an_unknown_type : breaks (net (a_port true (plain_type (codes "byte") 10) (codes "P") 9 ∷ []) [] [] [])
    ≡ found rules.unknown_name 10 ∷ []
an_unknown_type = refl

-- ---- names inside expressions that only a network's text can have

-- `var int q = (zz);`
in_parentheses : breaks (decls (variable (int 22) (codes "q") (tree.paren (name (codes "zz") 31) 30) 22 ∷ []))
    ≡ found rules.unknown_name 31 ∷ []
in_parentheses = refl

abbrev choice : Tree → Tree
choice test = tree.if_expr test (number 1 10) (number 2 17) 4

abbrev counting : List ℕ → Tree → Tree → ℕ → Tree
counting text from to at = tree.gen (int (at + 4)) (tree.ident text (at + 8)) from to at

-- `[item : gens]`
abbrev made : Tree → List Tree → Tree
made item gens = tree.comp item (listed gens) 0

-- `for int i in 0 .. 3`
abbrev up_to_3 : Tree
up_to_3 = counting (codes "i") (number 0 18) (number 3 23) 5

abbrev n_alone : List (List ℕ)
n_alone = codes "n" ∷ []

an_unknown_test : unknown_in (choice (name (codes "zz") 7)) n_alone ≡ violation rules.unknown_name 7
an_unknown_test = refl

a_known_test : unknown_in (choice (name (codes "n") 7)) n_alone ≡ []
a_known_test = refl

-- `f(zz)`: of the call, and of its argument behind it
a_call : unknown_in (tree.call (codes "f") (listed (name (codes "zz") 6 ∷ [])) 4) n_alone
    ≡ violation rules.unknown_name 4 ++ violation rules.unknown_name 6
a_call = refl

-- a declaration is no function
a_call_of_a_declaration : unknown_in (tree.call (codes "n") tree.nil 4) n_alone ≡ violation rules.unknown_name 4
a_call_of_a_declaration = refl

an_unknown_place : unknown_in (tree.index (name (codes "n") 4) (name (codes "zz") 6) 4) n_alone ≡ violation rules.unknown_name 6
an_unknown_place = refl

an_unknown_item : unknown_in (made (name (codes "j") 1) (up_to_3 ∷ [])) n_alone ≡ violation rules.unknown_name 1
an_unknown_item = refl

-- the item sees the generators, and so do those behind them
a_known_item : unknown_in (made (name (codes "i") 1) (up_to_3 ∷ counting (codes "k") (name (codes "i") 43) (name (codes "n") 48) 30 ∷ [])) n_alone ≡ []
a_known_item = refl

-- neither a generator before it nor a generator itself does
a_later_generator : unknown_in (made (number 1 1) (counting (codes "k") (number 0 18) (name (codes "i") 23) 5 ∷ up_to_3 ∷ [])) n_alone
    ≡ violation rules.unknown_name 23
a_later_generator = refl

its_own_bound : unknown_in (made (number 1 1) (counting (codes "k") (number 0 18) (name (codes "k") 23) 5 ∷ [])) n_alone
    ≡ violation rules.unknown_name 23
its_own_bound = refl

-- behind a comprehension nobody sees its generators
behind_a_comprehension : unknown_in (tree.list (listed (made (name (codes "i") 1) (up_to_3 ∷ []) ∷ name (codes "i") 28 ∷ [])) 0) n_alone
    ≡ violation rules.unknown_name 28
behind_a_comprehension = refl

-- ---- types

an_unsupported_type : breaks (net (a_port true (plain_type (codes "float") 10) (codes "P") 9 ∷ []) [] [] [])
    ≡ found rules.unsupported_type 10 ∷ []
an_unsupported_type = refl

a_wide_type : breaks (net (a_port true (sized (codes "uint") (number 129 13) 10) (codes "P") 9 ∷ []) [] [] [])
    ≡ found rules.wrong_type_argument 10 ∷ []
a_wide_type = refl

a_port_of_lists : breaks (net (a_port false (list_type (int 12) (number 2 14) 10) (codes "P") 9 ∷ []) [] [] [])
    ≡ found rules.list_not_allowed 10 ∷ []
a_port_of_lists = refl

-- `List(type:int, size=16385)`
a_long_list : breaks (decls (parameter (list_type (int 12) (number 16385 14) 10) (codes "p") 9 ∷ []))
    ≡ found rules.list_too_long 10 ∷ []
a_long_list = refl

-- a size sees the declarations, wherever they stand
a_size_of_a_name : breaks (net (a_port true (sized (codes "int") (name (codes "w") 13) 10) (codes "P") 9 ∷ []) (variable (int 40) (codes "w") (number 7 42) 39 ∷ []) [] []) ≡ []
a_size_of_a_name = refl

-- ---- values

another_kind : breaks (decls (variable (int 10) (codes "a") (plus (number 1 13) (tree.truth true 14) 12) 9 ∷ []))
    ≡ found rules.wrong_kind 12 ∷ []
another_kind = refl

another_length : breaks (decls (variable (list_type (int 12) (number 2 14) 10) (codes "a") (tree.list (listed (number 1 21 ∷ [])) 20) 9 ∷ []))
    ≡ found rules.wrong_length 20 ∷ []
another_length = refl

a_trap : breaks (decls (variable (int 10) (codes "a") (tree.binary op.Div (number 1 13) (number 0 14) 12) 9 ∷ []))
    ≡ found rules.constant_traps 12 ∷ []
a_trap = refl

-- nothing is said of what needs a value that broke a rule
after_a_trap : breaks (net [] (variable (int 10) (codes "a") (tree.binary op.Div (number 1 13) (number 0 14) 12) 9 ∷ variable (int 20) (codes "b") (name (codes "a") 22) 19 ∷ [])
    (instance (codes "x") (codes "X") (a_parameter (codes "k") (plus (name (codes "b") 36) (number 1 37) 35) 34 ∷ []) 30 ∷ []) [])
    ≡ found rules.constant_traps 12 ∷ []
after_a_trap = refl

-- ---- parameters

-- the top's parameters have defaults
a_bare_top : breaks (decls (parameter (int 10) (codes "p") 9 ∷ [])) ≡ found_in 0 rules.wrong_parameter 0 ∷ []
a_bare_top = refl

-- a network with a parameter p of 8 bits and a variable twice as much, which it gives to an actor
abbrev inner : List Decl → Net
inner ds = net [] (parameter (byte 10) (codes "p") 9 ∷ ds)
    (instance (codes "x") (codes "Act") (a_parameter (codes "K") (times (name (codes "p") 52) (number 2 53) 51) 50 ∷ []) 40 ∷ []) []

-- it stands in another with these parameters
abbrev with_inner : List Parameter → List Entry
with_inner ps = entry (codes "T") 1 (net [] (variable (int 60) (codes "n") (number 300 62) 59 ∷ []) (instance (codes "i") (codes "In") ps 70 ∷ []) [])
    ∷ entry (codes "In") 2 (inner []) ∷ []

abbrev gives : List ℕ → Tree → ℕ → Parameter
gives text value at = a_parameter text value at

an_unknown_parameter : violations (with_inner (gives (codes "p") (number 1 82) 81 ∷ gives (codes "q") (number 1 92) 91 ∷ [])) (codes "T")
    ≡ found rules.wrong_parameter 91 ∷ []
an_unknown_parameter = refl

a_parameter_twice : violations (with_inner (gives (codes "p") (number 1 82) 81 ∷ gives (codes "p") (number 1 92) 91 ∷ [])) (codes "T")
    ≡ found rules.wrong_parameter 91 ∷ []
a_parameter_twice = refl

a_missing_parameter : violations (with_inner []) (codes "T") ≡ found rules.wrong_parameter 70 ∷ []
a_missing_parameter = refl

a_parameter_of_another_kind : violations (with_inner (gives (codes "p") (tree.truth true 82) 81 ∷ [])) (codes "T")
    ≡ found rules.wrong_kind 81 ∷ []
a_parameter_of_another_kind = refl

-- a variable isn't given a value from outside
a_variable_is_given : violations (entry (codes "T") 1 (net [] [] (instance (codes "i") (codes "In") (gives (codes "p") (number 1 82) 81 ∷ gives (codes "v") (number 1 92) 91 ∷ []) 70 ∷ []) [])
    ∷ entry (codes "In") 2 (inner (variable (int 20) (codes "v") (number 1 22) 19 ∷ [])) ∷ []) (codes "T")
    ≡ found rules.wrong_parameter 91 ∷ []
a_variable_is_given = refl

-- a default is judged also if a value is given
a_default_that_traps : violations (entry (codes "T") 1 (net [] [] (instance (codes "i") (codes "In") (gives (codes "p") (number 1 82) 81 ∷ gives (codes "d") (number 1 92) 91 ∷ []) 70 ∷ []) [])
    ∷ entry (codes "In") 2 (inner (defaulted (int 20) (codes "d") (tree.binary op.Div (number 1 23) (number 0 24) 22) 19 ∷ [])) ∷ []) (codes "T")
    ≡ found_in 2 rules.constant_traps 22 ∷ []
a_default_that_traps = refl

-- 300 is stored in 8 bits as 44, and the actor is given 88
a_parameter_is_stored : bound (with_inner (gives (codes "p") (name (codes "n") 82) 81 ∷ [])) (codes "T") ≡ record {
  nets = record {
    file = 1;
    path = [];
    ins = [];
    outs = [];
    parts = record { id = codes "i"; inner = InnerNet 1 } ∷ [];
    wires = [];
  } ∷ record {
    file = 2;
    path = codes "i";
    ins = [];
    outs = [];
    parts = record { id = codes "x"; inner = InnerLeaf 0 } ∷ [];
    wires = [];
  } ∷ [];
  leaves = record {
    path = codes "i/x";
    class = codes "Act";
    class_at = spot 2 45;
    instance_at = spot 2 40;
    bindings = record { name = codes "K"; value = Num (pos 88); place = spot 2 50 } ∷ [];
  } ∷ [];
}
a_parameter_is_stored = refl

it_breaks_no_rule : violations (with_inner (gives (codes "p") (name (codes "n") 82) 81 ∷ [])) (codes "T") ≡ []
it_breaks_no_rule = refl

-- ---- sizes of connections

abbrev connection : List Size → Net
connection sizes = net [] [] (instance (codes "a") (codes "X") [] 10 ∷ []) (a_connection (codes "a") (codes "O") (codes "a") (codes "I") sizes 30 ∷ [])

a_size_of_0 : breaks (connection (a_size (number 0 42) 41 ∷ [])) ≡ found rules.wrong_buffer_size 41 ∷ []
a_size_of_0 = refl

a_size_below_0 : breaks (connection (a_size (tree.prefix prefixes.Neg (number 1 43) 42) 41 ∷ [])) ≡ found rules.wrong_buffer_size 41 ∷ []
a_size_below_0 = refl

a_true_size : breaks (connection (a_size (number 7 36) 35 ∷ a_size (tree.truth true 42) 41 ∷ [])) ≡ found rules.wrong_buffer_size 41 ∷ []
a_true_size = refl

a_great_size : breaks (connection (a_size (number 1048577 42) 41 ∷ [])) ≡ found rules.wrong_buffer_size 41 ∷ []
a_great_size = refl

a_size_that_traps : breaks (connection (a_size (tree.binary op.Div (number 1 43) (number 0 44) 42) 41 ∷ [])) ≡ found rules.constant_traps 42 ∷ []
a_size_that_traps = refl

abbrev sizes_7_and_9 : List Size
sizes_7_and_9 = a_size (number 7 36) 35 ∷ a_size (number 9 39) 38 ∷ []

-- ---- trees

-- the largest size is taken; ports are cut by their direction
abbrev whole : Net
whole = net (a_port false (byte 100) (codes "Out") 99 ∷ a_port true (sized (codes "int") (number 16 113) 110) (codes "In") 109 ∷ []) []
    (instance (codes "a") (codes "X") [] 10 ∷ [])
    (a_connection [] (codes "In") (codes "a") (codes "I") sizes_7_and_9 30 ∷ a_connection (codes "a") (codes "O") [] (codes "Out") [] 50 ∷ [])

a_network_with_ports : bound (alone whole) (codes "T") ≡ record {
  nets = record {
    file = 1;
    path = [];
    ins = record { name = codes "In"; kind = scalar.Int 16 } ∷ [];
    outs = record { name = codes "Out"; kind = scalar.Uint 8 } ∷ [];
    parts = record { id = codes "a"; inner = InnerLeaf 0 } ∷ [];
    wires = record { src = []; src_port = codes "In"; dst = codes "a"; dst_port = codes "I"; size = 9; at = 30 }
        ∷ record { src = codes "a"; src_port = codes "O"; dst = []; dst_port = codes "Out"; size = 0; at = 50 } ∷ [];
  } ∷ [];
  leaves = record { path = codes "a"; class = codes "X"; class_at = spot 1 15; instance_at = spot 1 10; bindings = [] } ∷ [];
}
a_network_with_ports = refl

it_has_no_fault : breaks whole ≡ []
it_has_no_fault = refl

-- Top holds x, then two of Mid, then y; Mid holds an actor, and a Low with an actor.
abbrev levels : List Entry
levels = entry (codes "Top") 1 (net [] [] (instance (codes "x") (codes "X") [] 10 ∷ instance (codes "m") (codes "Mid") [] 20 ∷ instance (codes "n") (codes "Mid") [] 30 ∷ instance (codes "y") (codes "Y") [] 40 ∷ []) [])
    ∷ entry (codes "Mid") 2 (net [] [] (instance (codes "l") (codes "Low") [] 10 ∷ instance (codes "z") (codes "Z") [] 20 ∷ []) [])
    ∷ entry (codes "Low") 3 (net [] [] (instance (codes "w") (codes "W") [] 10 ∷ []) []) ∷ []

abbrev net_paths : List BoundNet → List (List ℕ)
net_paths [] = []
net_paths (n ∷ ns) = n.path ∷ net_paths ns

abbrev leaf_paths : List Leaf → List (List ℕ)
leaf_paths [] = []
leaf_paths (l ∷ ls) = l.path ∷ leaf_paths ls

abbrev parts_in : List BoundNet → List (List Part)
parts_in [] = []
parts_in (n ∷ ns) = n.parts ∷ parts_in ns

abbrev part : List ℕ → Inner → Part
part id inner = record { id = id; inner = inner }

networks_in_order : net_paths (bound levels (codes "Top")).nets
    ≡ [] ∷ codes "m" ∷ codes "m/l" ∷ codes "n" ∷ codes "n/l" ∷ []
networks_in_order = refl

leaves_in_order : leaf_paths (bound levels (codes "Top")).leaves
    ≡ codes "x" ∷ codes "m/l/w" ∷ codes "m/z" ∷ codes "n/l/w" ∷ codes "n/z" ∷ codes "y" ∷ []
leaves_in_order = refl

parts_by_number : parts_in (bound levels (codes "Top")).nets ≡
    (part (codes "x") (InnerLeaf 0) ∷ part (codes "m") (InnerNet 1) ∷ part (codes "n") (InnerNet 3) ∷ part (codes "y") (InnerLeaf 5) ∷ [])
    ∷ (part (codes "l") (InnerNet 2) ∷ part (codes "z") (InnerLeaf 2) ∷ [])
    ∷ (part (codes "w") (InnerLeaf 1) ∷ [])
    ∷ (part (codes "l") (InnerNet 4) ∷ part (codes "z") (InnerLeaf 4) ∷ [])
    ∷ (part (codes "w") (InnerLeaf 3) ∷ []) ∷ []
parts_by_number = refl

nothing_breaks_levels : violations levels (codes "Top") ≡ []
nothing_breaks_levels = refl

-- ---- how many ports and instances

-- so many inputs
abbrev inputs : ℕ → List Port
inputs zero = []
inputs (suc n) = a_port true (byte 10) (suc n ∷ []) n ∷ inputs n

too_many_inputs : ports_broken (net (inputs 33) [] [] []) ≡ violation rules.too_many_ports 3
too_many_inputs = refl

enough_inputs : ports_broken (net (inputs 32) [] [] []) ≡ []
enough_inputs = refl

-- so many instances of a class, at 1, 2 and so on, the last first
abbrev many : ℕ → List ℕ → List Instance
many zero class = []
many (suc n) class = instance (suc n ∷ []) class [] (suc n) ∷ many n class

-- 32 networks of 32 actors each
abbrev squares : List Entry
squares = entry (codes "A") 1 (net [] [] (many 32 (codes "B")) []) ∷ entry (codes "B") 2 (net [] [] (many 32 (codes "C")) []) ∷ []

-- 31 of them are 1,023 instances, so the first actor in the last one passes 1,024
too_many_instances : passing (slice_get (instances_at 2 squares (entry (codes "A") 1 (net [] [] (many 32 (codes "B")) [])) (codes "A" ∷ [])) 1024)
    ≡ found_in 2 rules.too_many_instances 32 ∷ []
too_many_instances = refl
