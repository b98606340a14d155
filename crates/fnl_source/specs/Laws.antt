-- What holds of source networks.
-- Trusted: part of what a promise means.
use Rattle.std.specs.Prelude.{◌≡◌, ℕ, List}
use Rattle.cal_model.specs.Actor.{Actor}
use Rattle.cal_model.specs.Selection.{State}
use Rattle.net_model.specs.Network.{Network}
use Rattle.cal_imports.specs.Sources.{Source}
use Rattle.fnl_tree.specs.Tree.{Leaf}
use Rattle.fnl_source.specs.Actors.{IsActorOf}
use Rattle.fnl_source.specs.Source.{Files, IsSourceNetwork}

-- a leaf is at most one actor
abbrev pub ActorsAreOne : Type 0
ActorsAreOne = (files : List Source) (leaf : Leaf) (actor other : Actor)
    → IsActorOf files leaf actor → IsActorOf files leaf other → actor ≡ other

-- files mean at most one network
abbrev pub NetworksAreOne : Type 0
NetworksAreOne = (files : Files) (class : List ℕ) (net other : Network State)
    → IsSourceNetwork files class net → IsSourceNetwork files class other → net ≡ other
