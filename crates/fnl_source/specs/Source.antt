-- The source network of files: what they mean from a top class down.
-- Trusted: part of what a promise means.
use Rattle.std.specs.Prelude.{◌≡◌, ℕ, List, [], ◌∷◌, map, None, Some}
use Rattle.cal_model.specs.Actor.{Actor}
use Rattle.cal_model.specs.Firing.{behaviour}
use Rattle.cal_model.specs.Selection.{Priorities, State}
use Rattle.net_model.specs.Network.{Network, Leaf as NetLeaf}
use Rattle.cal_imports.specs.Sources.{Source, name_of}
use Rattle.cal_imports.specs.Answer.{Gives}
use Rattle.cal_imports.specs.Resolved.{resolved}
use Rattle.cal_imports.specs.Whole.{Scope}
use Rattle.fnl_tree.specs.Tree.{Leaf, Tree}
use Rattle.fnl_bind.specs.Library.{Entry, network_of}
use Rattle.fnl_bind.specs.Trees.{violations, bound}
use Rattle.fnl_flatten.specs.Flat.{IsFlat}
use Rattle.fnl_source.specs.Actors.{IsActorOf, head_of}
use Rattle.fnl_source.specs.Lone.{lone_leaf, lone_tree}

-- the files of a library that were read, each under the class by which it is asked for
pub record Files : Type 0 where
  pub networks : List Entry
  pub sources : List Source

-- the name of the actor of a class
pub record IsNamed (files : Files) (class name : List ℕ) : Type 0 where
  pub scope : Scope
  pub is_scope : resolved files.sources class ≡ Gives scope
  pub is_name : name ≡ name_of scope.actor

-- The tree that a class is: that of its network if it has one, which breaks no rule, and else that of its actor.
pub data IsTree (files : Files) (class : List ℕ) : Tree → Type 0 where
  of_network : {top : Entry} → network_of class files.networks ≡ Some top
      → violations files.networks class ≡ [] → IsTree files class (bound files.networks class)
  of_actor : {name : List ℕ} {actor : Actor} → network_of class files.networks ≡ None
      → IsNamed files class name → IsActorOf files.sources (lone_leaf name class) actor
      → IsTree files class (lone_tree name class actor)

-- a leaf of the network is this actor
pub record IsLeaf (actor : Actor) (leaf : Leaf) (x : NetLeaf State) : Type 0 where
  pub path : x.path ≡ leaf.path
  pub class : x.class ≡ leaf.class
  pub priorities : Priorities actor
  pub behaviour : x.behaviour ≡ behaviour actor priorities

-- each leaf of a tree is the actor of its class over the values that it is given
abbrev pub AreActors : Files → List Leaf → List Actor → List (NetLeaf State) → Type 0
AreActors files [] [] [] = Unit {0}
AreActors files (leaf ∷ leaves) (actor ∷ actors) (x ∷ xs) =
    IsActorOf files.sources leaf actor × (IsLeaf actor leaf x × AreActors files leaves actors xs)
AreActors files leaves actors xs = ⊥

-- The network that files mean from a class down: its leaves are the actors of the tree, with their paths, classes and
-- behaviours; its links are those that chains of connections join, with their capacities; its ports are the top's.
pub record IsSourceNetwork (files : Files) (class : List ℕ) (net : Network State) : Type 0 where
  pub tree : Tree
  pub is_tree : IsTree files class tree
  pub actors : List Actor
  pub are_actors : AreActors files tree.leaves actors net.leaves
  pub flat : IsFlat tree (map head_of actors) net
