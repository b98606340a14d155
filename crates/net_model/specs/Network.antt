-- Networks: leaves, which are actors, and links between ports.
-- Trusted: part of what a promise means.
use Rattle.std.specs.Prelude.{ℕ, Bool, true, false, ◌&&◌, ◌==◌, List, [], slice_index_or}
use Rattle.rvc_base.specs.declared.scalar.Scalar.{Scalar}
use Rattle.rvc_base.specs.declared.scalar.Scalar.TheVariants.{Bool as Truth}
use Rattle.rvc_base.specs.Behaviour.{Behaviour}
use Rattle.net_model.specs.declared.wiring.End.{End}
use Rattle.net_model.specs.declared.wiring.End.TheVariants.{Leaf as AtLeaf, Net as AtNet}
use Rattle.net_model.specs.declared.wiring.Link.{Link}

-- an actor at its place in the network
pub record Leaf (X : Type 0) : Type 0 where
  -- the ids of the instances that lead to it, joined by `/`; its name if it is the top
  pub path : List ℕ
  -- the dotted class
  pub class : List ℕ
  pub behaviour : Behaviour X

-- a port of the network itself: its name, and the type of its tokens
pub record NetPort : Type 0 where
  pub name : List ℕ
  pub kind : Scalar

-- Leaves in instance order, links by target, and the network's own ports.
-- Every actor's state is a value of X.
pub record Network (X : Type 0) : Type 0 where
  pub leaves : List (Leaf X)
  pub links : List Link
  pub ins : List NetPort
  pub outs : List NetPort

-- the type of port p
abbrev pub kind_at : List NetPort → ℕ → Scalar
kind_at ports p = (slice_index_or ports p (record { name = []; kind = Truth })).kind

-- whether an end is this port of this leaf
abbrev pub is_leaf_port : ℕ → ℕ → End → Bool
is_leaf_port i p (AtLeaf inst port) = (i == inst.0) && (p == port)
is_leaf_port i p (AtNet port) = false

-- whether an end is this port of the network
abbrev pub is_net_port : ℕ → End → Bool
is_net_port p (AtLeaf inst port) = false
is_net_port p (AtNet port) = p == port

-- whether an end is a port of the network
abbrev pub is_outside : End → Bool
is_outside (AtLeaf inst port) = false
is_outside (AtNet port) = true

-- a link is an input link if it begins at the network, an output link if it ends there
abbrev pub is_input : Link → Bool
is_input link = is_outside link.from

abbrev pub is_output : Link → Bool
is_output link = is_outside link.to
