-- Networks as they are opened by the code.
-- Not trusted: no promise is read with it.
use Rattle.std.specs.Prelude.{ℕ, List, [], ◌∷◌, ◌++◌, map}
use Rattle.fnl_tree.specs.Tree.{Net as BoundNet}
use Rattle.fnl_tree.specs.View.{own_of, wire_of}
use Rattle.fnl_bind.specs.Networks.{Place}
use Rattle.check_given.specs.Given.{all_given, spot_of}
use Rattle.fnl_values.specs.declared.network.NetValues.{NetValues}
use Rattle.fnl_bind.specs.View.{entry_under}
use Rattle.fnl_walk.specs.Walk.{Open, Walk}
use Rattle.fnl_walk.specs.declared.open.Standing.{Standing}

-- a walk with one open network more, which has this place in the tree
abbrev pub with_net : Open → BoundNet → Walk → Walk
with_net o n w = record w {
  open_nets = o ∷ w.open_nets;
  grown = record { nets = w.grown.nets ++ n ∷ []; leaves = w.grown.leaves };
}

abbrev pub with_class : List ℕ → Walk → Walk
with_class class w = record w { above = class ∷ w.above }

-- a network with its values, and no parts
abbrev pub bare_net : (file : ℕ) → (path : List ℕ) → NetValues → BoundNet
bare_net file path v = record {
  file = file;
  path = path;
  ins = map own_of v.ins.items;
  outs = map own_of v.outs.items;
  parts = [];
  wires = map wire_of v.wires.items;
}

-- the place of a network inside those of these classes
abbrev pub place_standing : Standing → List (List ℕ) → Place
place_standing at above = record {
  entry = entry_under at.class.now at.source.now;
  given = all_given at.given.now;
  owner = spot_of at.owner;
  above = at.class.now ∷ above;
  path = at.path.now;
}
