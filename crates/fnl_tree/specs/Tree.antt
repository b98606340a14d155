-- Networks with their values, as they stand in each other: a tree whose leaves are actors (ISO/IEC 23001-4, FNL).
-- Trusted: part of what a promise means.
use Rattle.std.specs.Prelude.{ℕ, List, map}
use Rattle.rvc_base.specs.declared.refusal.Place.{Place}
use Rattle.rvc_base.specs.declared.scalar.Scalar.{Scalar}
use Rattle.cal_model.specs.Value.{Value}

-- what an instance is: a network, or an actor, by its number
pub data Inner : Type 0 where
  InnerNet : ℕ → Inner
  InnerLeaf : ℕ → Inner

pub record Part : Type 0 where
  pub id : List ℕ
  pub inner : Inner

-- a port of a network, and the type of its tokens
pub record Own : Type 0 where
  pub name : List ℕ
  pub kind : Scalar

-- A connection: from a port of an instance, or one of the network's own inputs if no instance is named, to a port of an
-- instance, or to one of its outputs. Its size is the largest that it asks for, or 0.
pub record Wire : Type 0 where
  pub src : List ℕ
  pub src_port : List ℕ
  pub dst : List ℕ
  pub dst_port : List ℕ
  pub size : ℕ
  pub at : ℕ

pub record Net : Type 0 where
  pub file : ℕ
  -- the instances that lead to it
  pub path : List ℕ
  pub ins : List Own
  pub outs : List Own
  pub parts : List Part
  pub wires : List Wire

-- the value of a parameter, and where it is given
pub record Binding : Type 0 where
  pub name : List ℕ
  pub value : Value
  pub place : Place

-- an actor of the network
pub record Leaf : Type 0 where
  pub path : List ℕ
  pub class : List ℕ
  pub class_at : Place
  pub instance_at : Place
  pub bindings : List Binding

-- the top network is the first
pub record Tree : Type 0 where
  pub nets : List Net
  pub leaves : List Leaf

-- the path and the class of each leaf
abbrev pub paths : Tree → List (List ℕ)
paths tree = map (λ leaf. leaf.path) tree.leaves

abbrev pub classes : Tree → List (List ℕ)
classes tree = map (λ leaf. leaf.class) tree.leaves
