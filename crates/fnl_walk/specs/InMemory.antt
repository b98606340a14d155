-- Steps of a walk over what lies in memory.
-- Not trusted: no promise is read with it.
use Rattle.std.specs.Prelude.{◌≡◌, ℕ, List, [], ◌∷◌, length, map, string_bytes}
use Rattle.std.specs.declared.result.Result.{Result}
use Rattle.rvc_base.specs.declared.refusal.Front.{Front}
use Rattle.fnl_bind.specs.Networks.{leaf_under}
use Rattle.fnl_tree.specs.Tree.{InnerNet, Net as BoundNet}
use Rattle.fnl_tree.specs.View.{inner_of, leaf_of}
use Rattle.fnl_tree.specs.declared.tree.Inner.{Inner}
use Rattle.fnl_tree.specs.declared.tree.Leaf.{Leaf}
use Rattle.fnl_values.specs.Visiting.{Visit, visit_of}
use Rattle.fnl_values.specs.declared.network.NetValues.{NetValues}
use Rattle.fnl_values.specs.declared.visits.Visit.{Visit as DeclaredVisit}
use Rattle.fnl_bind.specs.View.{entry_under}
use Rattle.fnl_bind.specs.declared.entry.NetEntry.{NetEntry}
use Rattle.fnl_walk.specs.Opening.{bare_net, place_standing, with_net}
use Rattle.fnl_walk.specs.Steps.{OpensTo, opened}
use Rattle.fnl_walk.specs.View.{open_of, walk_view}
use Rattle.fnl_walk.specs.Visited.{VisitsNet, before, with_leaf, with_part}
use Rattle.fnl_walk.specs.Walk.{Open, Walk, place_at, with_parts}
use Rattle.fnl_walk.specs.declared.open.Standing.{Standing}
use Rattle.fnl_walk.specs.declared.walk.Open.{Open as DeclaredOpen}
use Rattle.fnl_walk.specs.declared.walk.Walk.{Walk as DeclaredWalk}

-- ---- networks that are opened

abbrev pub opened_at : Standing → ℕ → List ℕ → List Visit → Open
opened_at at number path visits = opened at.source.now.file number path at.levels visits

-- one network more, which has this number, with its values
abbrev pub with_values : Standing → NetValues → ℕ → Walk → Walk
with_values at values number w =
    with_net (opened_at at number at.path.now (map visit_of values.visits.items))
    (bare_net at.source.now.file at.path.now values) w

abbrev pub OpensAt : Standing → Walk → Walk → Result (Unit {0}) Front → Type 0
OpensAt at old new result = OpensTo at.levels (place_standing at old.above) old new result

-- ---- instances that are visited

-- whatever the networks round it are
abbrev pub IsLeafOf : Leaf → ℕ → List ℕ → Visit → Type 0
IsLeafOf leaf file path visit = (above : List (List ℕ))
    → leaf_of leaf ≡ leaf_under (place_at file path above) visit.instance visit.given

abbrev pub leaf_put : DeclaredOpen → DeclaredVisit → DeclaredWalk → Walk
leaf_put here visit w = with_leaf (open_of here) (visit_of visit) (walk_view w)

abbrev pub net_put : DeclaredOpen → List ℕ → DeclaredWalk → Walk
net_put here id w = with_part (open_of here) id (InnerNet (length w.nets.items)) (walk_view w)

-- the walk before an instance was taken off
abbrev pub untaken : DeclaredOpen → DeclaredVisit → DeclaredWalk → Walk
untaken here visit w = before (open_of here) (visit_of visit) (walk_view w)

abbrev pub VisitsEntry : DeclaredOpen → DeclaredVisit → NetEntry → DeclaredWalk → DeclaredWalk
    → Result (Unit {0}) Front → Type 0
VisitsEntry here visit entry old new result =
    VisitsNet (open_of here) (visit_of visit)
    (entry_under (string_bytes visit.instance.now.class) entry)
    (walk_view old) (walk_view new) result

-- one part more in the network of a number
abbrev pub with_new_part : ℕ → List ℕ → Inner → List BoundNet → List BoundNet
with_new_part number id inner nets =
    with_parts number (record { id = id; inner = inner_of inner } ∷ []) nets
