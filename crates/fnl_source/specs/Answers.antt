-- What binding and flattening answer, as the source network. A compiler that evaluates the actors at the leaves and calls
-- both has the source network in hand, whether the top is a network or an actor.
-- Trusted: part of what a promise means.
use Rattle.std.specs.Prelude.{◌≡◌, ℕ, List, length, map, Some}
use Rattle.cal_model.specs.Actor.{Actor}
use Rattle.cal_model.specs.Firing.{behaviour}
use Rattle.cal_model.specs.Selection.{Priorities, State}
use Rattle.cal_model.specs.Sound.{Each, IsSound}
use Rattle.net_model.specs.Network.{Network}
use Rattle.net_model.specs.Ready.{port_of as own_port}
use Rattle.fnl_tree.specs.Sound.{IsSound as IsSoundTree}
use Rattle.fnl_tree.specs.Tree.{Tree}
use Rattle.fnl_tree.specs.View.{tree_of}
use Rattle.fnl_tree.specs.declared.tree.Tree.{Tree as DeclaredTree}
use Rattle.fnl_bind.specs.Answers.{IsBound}
use Rattle.fnl_bind.specs.Library.{Entry, network_of}
use Rattle.fnl_flatten.specs.Flat.{HasHead}
use Rattle.fnl_flatten.specs.Flattened.{IsFlattened}
use Rattle.fnl_flatten.specs.Whole.{IsWhole}
use Rattle.fnl_flatten.specs.declared.flat.Flat.{Flat}
use Rattle.fnl_source.specs.Actors.{head_of}
use Rattle.fnl_source.specs.Lone.{lone_tree}
use Rattle.fnl_source.specs.Source.{AreActors, Files, IsSourceNetwork, IsTree}

-- no action of a sound actor takes or gives more at a port than is told, and none more than is allowed
abbrev pub ActorsHaveHeads : Type 0
ActorsHaveHeads = (actor : Actor) (p : Priorities actor) → IsSound actor
    → HasHead (head_of actor) (behaviour actor p)

-- ---- what can be flattened

-- the tree of an actor alone is sound
abbrev pub LoneTreesAreSound : Type 0
LoneTreesAreSound = (name class : List ℕ) (actor : Actor) → IsSound actor
    → IsSoundTree (lone_tree name class actor)

-- a sound tree with the ports of sound actors, one for each leaf
abbrev pub ActorsMakeWhole : Type 0
ActorsMakeWhole = (tree : Tree) (actors : List Actor) → IsSoundTree tree
    → length actors ≡ length tree.leaves → Each IsSound actors → IsWhole tree (map head_of actors)

-- ---- what the answers are

-- a tree that is bound is that of its class
abbrev pub BoundAreTrees : Type 0
BoundAreTrees = (files : Files) (class : List ℕ) (top : Entry) (tree : DeclaredTree)
    → network_of class files.networks ≡ Some top → IsBound files.networks class tree
    → IsTree files class (tree_of tree)

-- its links and ports are those of a flat network
pub record HasWiring (flat : Flat) (net : Network State) : Type 0 where
  pub links : net.links ≡ flat.links.items
  pub ins : net.ins ≡ map own_port flat.ins.items
  pub outs : net.outs ≡ map own_port flat.outs.items

-- The actors at the leaves of the tree of a class, with the links and ports of what its flattening answers, are the
-- source network.
abbrev pub AnswersAreSource : Type 0
AnswersAreSource = (files : Files) (class : List ℕ) (tree : Tree) (actors : List Actor) (flat : Flat)
    (net : Network State) → IsTree files class tree → IsSoundTree tree → Each IsSound actors
    → AreActors files tree.leaves actors net.leaves
    → IsFlattened tree (map head_of actors) flat → HasWiring flat net
    → IsSourceNetwork files class net
