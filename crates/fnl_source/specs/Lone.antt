-- An actor as the top: the one leaf of a network with its own ports.
-- Trusted: part of what a promise means.
use Rattle.std.specs.Prelude.{ℕ, List, [], ◌∷◌, ◌++◌, map}
use Rattle.rvc_base.specs.declared.refusal.Place.{Place}
use Rattle.cal_model.specs.Actor.{Port, Actor}
use Rattle.fnl_tree.specs.Tree.{InnerLeaf, Own, Wire, Leaf, Tree}

-- the command line, which names the top
abbrev pub words : Place
words = record { file = 0; offset = 0 }

-- it is given no values
abbrev pub lone_leaf : (name class : List ℕ) → Leaf
lone_leaf name class =
    record { path = name; class = class; class_at = words; instance_at = words; bindings = [] }

abbrev pub own_of : Port → Own
own_of p = record { name = p.name; kind = p.kind }

-- a connection from the network's own input of the name to the actor's, and from the actor's output to its own
abbrev pub wire_in : List ℕ → Port → Wire
wire_in name p =
    record { src = []; src_port = p.name; dst = name; dst_port = p.name; size = 0; at = 0 }

abbrev pub wire_out : List ℕ → Port → Wire
wire_out name p =
    record { src = name; src_port = p.name; dst = []; dst_port = p.name; size = 0; at = 0 }

-- the network of the actor of this name and class
abbrev pub lone_tree : (name class : List ℕ) → Actor → Tree
lone_tree name class actor = record {
  nets = record {
    file = 0;
    path = [];
    ins = map own_of actor.ins;
    outs = map own_of actor.outs;
    parts = record { id = name; inner = InnerLeaf 0 } ∷ [];
    wires = map (wire_in name) actor.ins ++ map (wire_out name) actor.outs;
  } ∷ [];
  leaves = lone_leaf name class ∷ [];
}
