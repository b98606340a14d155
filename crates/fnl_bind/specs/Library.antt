-- Networks by their classes, and their parts as they are read.
-- Trusted: part of what a promise means.
use Rattle.std.specs.Prelude.{ℕ, Bool, true, false, List, [], ◌∷◌, map, Option, None, Some, if◌then◌else◌}
use Rattle.std.specs.Str.{bytes_eq}
use Rattle.cal_ast.specs.Tree.{Tree}
use Rattle.fnl_read.specs.Net.{Net, Port, a_port, Decl, a_decl, Parameter, Instance, an_instance}
use Rattle.cal_check.specs.Variables.{VarDecl}

-- a network that was read, by its class
pub record Entry : Type 0 where
  pub class : List ℕ
  pub file : ℕ
  pub net : Net

-- the network of a class; a class without a network is an actor's
abbrev pub network_of : List ℕ → List Entry → Option Entry
network_of class [] = None
network_of class (e ∷ es) = if bytes_eq e.class class then Some e else network_of class es

-- a name is one of these
abbrev pub is_among : List ℕ → List (List ℕ) → Bool
is_among name [] = false
is_among name (x ∷ xs) = if bytes_eq x name then true else is_among name xs

-- ---- parts

abbrev pub is_input : Port → Bool
is_input (a_port input shape name at) = input

abbrev pub port_shape : Port → Tree
port_shape (a_port input shape name at) = shape

-- the ports of one direction
abbrev pub ports_of : Bool → List Port → List Port
ports_of input [] = []
ports_of true (a_port true shape name at ∷ ps) = a_port true shape name at ∷ ports_of true ps
ports_of true (a_port false shape name at ∷ ps) = ports_of true ps
ports_of false (a_port true shape name at ∷ ps) = ports_of false ps
ports_of false (a_port false shape name at ∷ ps) = a_port false shape name at ∷ ports_of false ps

abbrev pub decl_name : Decl → List ℕ
decl_name (a_decl param shape name value at) = name

abbrev pub decl_names : List Decl → List (List ℕ)
decl_names ds = map decl_name ds

abbrev pub instance_id : Instance → List ℕ
instance_id (an_instance id class class_at parameters at) = id

abbrev pub instance_class : Instance → List ℕ
instance_class (an_instance id class class_at parameters at) = class

abbrev pub instance_class_at : Instance → ℕ
instance_class_at (an_instance id class class_at parameters at) = class_at

abbrev pub instance_parameters : Instance → List Parameter
instance_parameters (an_instance id class class_at parameters at) = parameters

abbrev pub instance_at : Instance → ℕ
instance_at (an_instance id class class_at parameters at) = at

-- a declaration of a file as a variable that doesn't change
abbrev pub var_decl : ℕ → Decl → VarDecl
var_decl file (a_decl param shape name value at) = record {
  name = name;
  file = file;
  shape = shape;
  start = value;
  changes = false;
  is_param = param;
}

abbrev pub var_decls : ℕ → List Decl → List VarDecl
var_decls file ds = map (λ d. var_decl file d) ds

-- the parameters among them
abbrev pub params_of : List VarDecl → List VarDecl
params_of [] = []
params_of (x ∷ xs) = if x.is_param then x ∷ params_of xs else params_of xs
