-- The ports of actors (ISO/IEC 23001-4, RVC-CAL: actors).
-- Trusted: part of what a promise means.
use Rattle.std.specs.Prelude.{◌≢◌, ℕ, ◌≤◌, List, length, map, AllPairs}
use Rattle.rvc_base.specs.declared.scalar.Scalar.{Scalar}
use Rattle.cal_model.specs.Sound.{max_ports}

-- a port of an actor, and the most tokens that a firing takes or gives there
pub record HeadPort : Type 0 where
  pub name : List ℕ
  pub kind : Scalar
  pub largest : ℕ

-- the ports of the actor at a leaf
pub record Head : Type 0 where
  pub ins : List HeadPort
  pub outs : List HeadPort

abbrev pub head_names : List HeadPort → List (List ℕ)
head_names ports = map (λ p. p.name) ports

-- names of ports in one direction are told apart, and ports are within their limit
pub record IsHeadSound (head : Head) : Type 0 where
  pub ins : AllPairs (λ a b. a ≢ b) (head_names head.ins)
  pub outs : AllPairs (λ a b. a ≢ b) (head_names head.outs)
  pub few_ins : length head.ins ≤ max_ports
  pub few_outs : length head.outs ≤ max_ports
