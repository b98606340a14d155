-- The parts of the tree of an actor alone.
-- Not trusted: no promise is read with it.
use Rattle.std.specs.Prelude.{ℕ, List, [], ◌∷◌, ◌++◌, map}
use Rattle.cal_model.specs.Actor.{Actor}
use Rattle.fnl_tree.specs.Tree.{InnerLeaf, Net, Part}
use Rattle.fnl_source.specs.Lone.{own_of, wire_in, wire_out}

abbrev pub lone_part : List ℕ → Part
lone_part name = record { id = name; inner = InnerLeaf 0 }

abbrev pub lone_net : (name : List ℕ) → Actor → Net
lone_net name actor = record {
  file = 0;
  path = [];
  ins = map own_of actor.ins;
  outs = map own_of actor.outs;
  parts = lone_part name ∷ [];
  wires = map (wire_in name) actor.ins ++ map (wire_out name) actor.outs;
}
