-- What holds of the actors at leaves.
-- Trusted: part of what a promise means.
use Rattle.std.specs.Prelude.{◌≡◌, List, length}
use Rattle.cal_model.specs.Actor.{Actor}
use Rattle.cal_model.specs.Selection.{State}
use Rattle.cal_model.specs.Sound.{Each, IsSound}
use Rattle.cal_imports.specs.Sources.{Source}
use Rattle.fnl_tree.specs.Tree.{Leaf}
use Rattle.net_model.specs.Network.{Leaf as NetLeaf}
use Rattle.fnl_source.specs.Actors.{IsActorOf}
use Rattle.fnl_source.specs.Source.{AreActors, Files}
use Rattle.check_leaves.specs.Alike.{AreAlike}
use Rattle.check_leaves.specs.Leaves.{AreActorsOf}

-- leaves that are alike are one actor: where they stand matters only for what is refused
abbrev pub AlikeAreOne : Type 0
AlikeAreOne = (files : List Source) (leaf other : Leaf) (actor : Actor) → AreAlike leaf other
    → IsActorOf files leaf actor → IsActorOf files other actor

-- leaves of a network that are these actors
pub record HasLeaves (files : Files) (leaves : List Leaf) (actors : List Actor) : Type 0 where
  pub xs : List (NetLeaf State)
  pub are : AreActors files leaves actors xs
  pub many : length actors ≡ length leaves

-- the sound actors of some leaves are the leaves of a network
abbrev pub ActorsAreLeaves : Type 0
ActorsAreLeaves = (files : Files) (leaves : List Leaf) (actors : List Actor) → Each IsSound actors
    → AreActorsOf files.sources leaves actors → HasLeaves files leaves actors
