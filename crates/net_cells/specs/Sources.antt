-- A network of actors, and the same network of the lowered actors that stand for them.
-- Trusted: part of what a promise means.
use Rattle.std.specs.Prelude.{◌≡◌, ℕ, List, [], ◌∷◌, map, slice_get, Option, None, Some}
use Rattle.rvc_base.specs.Storing.{IsSize}
use Rattle.cal_model.specs.Actor.{Actor}
use Rattle.cal_model.specs.Selection.{State}
use Rattle.cal_model.specs.Sound.{Each, IsSound}
use Rattle.lowered_actor.specs.Actor as coded
use Rattle.lowered_actor.specs.Meaning as lowered
use Rattle.net_model.specs.Alike.{Allowed}
use Rattle.net_model.specs.Network.{Leaf, NetPort, Network}
use Rattle.fnl_tree.specs.Sound.{IsSound as IsSoundTree}
use Rattle.fnl_tree.specs.Tree.{Tree}
use Rattle.fnl_flatten.specs.Flat.{IsFlat}
use Rattle.action_lower.specs.Seats.{numbers_of_vars}
use Rattle.lower_tables.specs.Carrying.{MayCome, StandsFor}
use Rattle.lower_actor.specs.Leaves.{AreLeavesOf}
use Rattle.fnl_source.specs.Actors.{head_of}

-- ---- the network of the sources

-- each port of a network has a type of tokens
abbrev pub HaveTypes : List NetPort → Type 0
HaveTypes ports = (p : ℕ) (port : NetPort) → slice_get ports p ≡ Some port → IsSize port.kind

-- The network of these actors, which are sound, joined as a sound tree says.
pub record IsActorNetwork (actors : List Actor) (net : Network State) : Type 0 where
  pub sound : Each IsSound actors
  pub leaves : AreLeavesOf actors net.leaves
  pub tree : Tree
  pub sound_tree : IsSoundTree tree
  pub flat : IsFlat tree (map head_of actors) net
  pub in_types : HaveTypes net.ins
  pub out_types : HaveTypes net.outs

-- ---- the network of the lowered actors

-- the leaves with lowered actors in the place of their own
abbrev pub lowered_leaves : List coded.Actor → List (Leaf State) → List (Leaf lowered.ActorState)
lowered_leaves [] leaves = []
lowered_leaves (code ∷ codes) [] = []
lowered_leaves (code ∷ codes) (leaf ∷ leaves) =
    record { path = leaf.path; class = leaf.class; behaviour = lowered.behaviour code }
    ∷ lowered_leaves codes leaves

-- the same network of lowered actors
abbrev pub lowered_network : List coded.Actor → Network State → Network lowered.ActorState
lowered_network codes net = record {
  leaves = lowered_leaves codes net.leaves;
  links = net.links;
  ins = net.ins;
  outs = net.outs;
}

-- ---- their likeness

abbrev pub OfActor : Option Actor → (Actor → Type 0) → Type 0
OfActor None P = ⊥
OfActor (Some actor) P = P actor

-- a state of the lowered actor at leaf i stands for one of its actor
abbrev pub stands_at : List Actor → ℕ → lowered.ActorState → State → Type 0
stands_at actors i x y =
    OfActor (slice_get actors i) (λ actor. StandsFor actor numbers_of_vars x y)

-- a token may come before a port of the actor at leaf i: it is of the port's type
abbrev pub may_come_at : List Actor → Allowed
may_come_at actors i port v = OfActor (slice_get actors i) (λ actor. MayCome actor port v)
