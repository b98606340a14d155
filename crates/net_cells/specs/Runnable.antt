-- In which networks, and by which plans, the cells of lowered actors can be run.
-- Trusted: part of what a promise means.
use Rattle.std.specs.Prelude.{◌≡◌, ℕ, ◌≤◌, List, length, map}
use Rattle.lowered_actor.specs.Actor.{Actor}
use Rattle.lowered_actor.specs.Meaning.{ActorState, behaviour}
use Rattle.net_model.specs.declared.wiring.Link.{Link}
use Rattle.net_model.specs.declared.wiring.Wiring.{Wiring}
use Rattle.net_model.specs.Network.{Network}
use Rattle.net_model.specs.Cell.{Cell}
use Rattle.net_model.specs.Limits.{max_grow}
use Rattle.net_model.specs.Ready.{port_of}
use Rattle.net_model.specs.Wired.{IsWired}
use Rattle.net_state.specs.Beginning.{HaveSizes}
use Rattle.round_runner.specs.declared.outcome.Plan.{Plan}
use Rattle.network_runner.specs.Asking.{CanRun, HavePortSizes}
use Rattle.network_runner.specs.Sending.{max_outlets}

-- the links and ports of a network are those of a wiring, which says of each port whether it is open
pub record IsWiringOf {X : Type 0} (net : Network X) (wiring : Wiring) : Type 0 where
  pub links : net.links ≡ wiring.links.items
  pub ins : net.ins ≡ map port_of wiring.ins.items
  pub outs : net.outs ≡ map port_of wiring.outs.items
  pub ins_told : length wiring.open_ins.items ≡ length wiring.ins.items
  pub outs_told : length wiring.open_outs.items ≡ length wiring.outs.items

-- a network whose leaves are lowered actors, and which is wired
pub record IsCodedNetwork (codes : List Actor) (net : Network ActorState) : Type 0 where
  pub behaviours : map (λ leaf. leaf.behaviour) net.leaves ≡ map behaviour codes
  pub wired : IsWired net

-- The lowered actors and the wiring make a network that is wired, of tokens that have types.
pub record CanBeWired (codes : List Actor) (wiring : Wiring) : Type 0 where
  pub net : Network ActorState
  pub is_of : IsWiringOf net wiring
  pub coded : IsCodedNetwork codes net
  pub sizes : HaveSizes wiring.links.items
  pub in_sizes : HavePortSizes wiring.ins.items
  pub out_sizes : HavePortSizes wiring.outs.items
  pub few_outs : length wiring.outs.items ≤ max_outlets

-- a plan by these numbers, within its limits
pub record IsPlanFor (burst grow : ℕ) (plan : Plan) : Type 0 where
  pub same_burst : plan.burst ≡ burst
  pub same_grow : plan.grow ≡ grow
  pub few_grown : grow ≤ max_grow
  pub bursts : (1 ≤ burst) × (burst ≤ 65536)
  pub workers : (1 ≤ plan.workers) × (plan.workers ≤ 64)

-- the cells can be run in each network that these links make, whichever of its ports are open, and by each plan
abbrev pub CanRunWith : List Actor → List Link → ℕ → ℕ → List (Cell ActorState) → Type 0
CanRunWith codes links burst grow cells = (wiring : Wiring) (plan : Plan)
    → wiring.links.items ≡ links → CanBeWired codes wiring → IsPlanFor burst grow plan
    → CanRun cells wiring plan
