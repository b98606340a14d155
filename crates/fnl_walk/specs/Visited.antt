-- Instances as they are visited by the code.
-- Not trusted: no promise is read with it.
use Rattle.std.specs.Prelude.{ℕ, List, [], ◌∷◌, ◌++◌, length}
use Rattle.std.specs.declared.result.Result.{Result}
use Rattle.rvc_base.specs.declared.refusal.Front.{Front}
use Rattle.fnl_tree.specs.Tree.{Inner, InnerNet, InnerLeaf}
use Rattle.fnl_bind.specs.Library.{Entry, instance_id}
use Rattle.fnl_bind.specs.Networks.{Place, leaf_under, net_under}
use Rattle.fnl_values.specs.Visiting.{Visit}
use Rattle.fnl_walk.specs.Steps.{OpensTo}
use Rattle.fnl_walk.specs.Walk.{Open, Walk, place_of, with_parts}

-- the walk whose innermost open network was taken off, and whose next instance too
abbrev pub before : Open → Visit → Walk → Walk
before o v w = record w { open_nets = record o { visits = v ∷ o.visits } ∷ w.open_nets }

-- an open network is put back with one part more
abbrev pub with_part : Open → List ℕ → Inner → Walk → Walk
with_part o id inner w = record {
  open_nets = o ∷ w.open_nets;
  above = w.above;
  grown = record {
    nets = with_parts o.number (record { id = id; inner = inner } ∷ []) w.grown.nets;
    leaves = w.grown.leaves;
  };
}

-- .. which is an actor
abbrev pub with_leaf : Open → Visit → Walk → Walk
with_leaf o v w = record {
  open_nets = o ∷ w.open_nets;
  above = w.above;
  grown = record {
    nets = with_parts o.number (record {
      id = instance_id v.instance;
      inner = InnerLeaf (length w.grown.leaves);
    } ∷ []) w.grown.nets;
    leaves = w.grown.leaves ++ leaf_under (place_of o w.above) v.instance v.given ∷ [];
  };
}

-- .. which is a network, with its own part and the place where it stands
abbrev pub with_inner : Open → Visit → Walk → Walk
with_inner o v w = with_part o (instance_id v.instance) (InnerNet (length w.grown.nets)) w

abbrev pub place_inside : Open → Visit → Entry → Walk → Place
place_inside o v e w = net_under (place_of o w.above) v.instance e v.given

abbrev pub VisitsNet : Open → Visit → Entry → Walk → Walk → Result (Unit {0}) Front → Type 0
VisitsNet o v e old new r = OpensTo o.levels (place_inside o v e old) (with_inner o v old) new r
