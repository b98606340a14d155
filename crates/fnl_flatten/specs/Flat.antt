-- The network that bound networks are, flattened.
-- Trusted: part of what a promise means.
use Rattle.std.specs.Prelude.{◌≡◌, ℕ, ◌≤◌, true, false, List, [], length, map, Some, slice_get}
use Rattle.rvc_base.specs.Behaviour.{Behaviour}
use Rattle.net_model.specs.Limits.{max_instances, max_rate}
use Rattle.net_model.specs.Network.{NetPort, Leaf, Network}
use Rattle.net_model.specs.Wired.{IsWired}
use Rattle.fnl_tree.specs.Tree.{Own, Net, Tree, paths, classes}
use Rattle.fnl_flatten.specs.Head.{Head}
use Rattle.fnl_flatten.specs.Joints.{leaf_rate}
use Rattle.fnl_flatten.specs.Links.{AreLinks}
use Rattle.fnl_flatten.specs.Rules.{violations}

abbrev pub port_of : Own → NetPort
port_of p = record { name = p.name; kind = p.kind }

-- a behaviour has these ports, and no action takes or gives more there than is told
pub record HasHead {X : Type 0} (head : Head) (b : Behaviour X) : Type 0 where
  pub ins : b.ins ≡ length head.ins
  pub outs : b.outs ≡ length head.outs
  pub needs : (a p : ℕ) → b.need a p ≤ leaf_rate true p (Some head)
  pub gives : (a p : ℕ) → b.give a p ≤ leaf_rate false p (Some head)
  pub few_taken : (p : ℕ) → leaf_rate true p (Some head) ≤ max_rate
  pub few_given : (p : ℕ) → leaf_rate false p (Some head) ≤ max_rate

-- The network is the tree's: its leaves have these heads, its links are those that chains join, and its ports are the
-- top's.
pub record IsFlat {X : Type 0} (tree : Tree) (heads : List Head) (net : Network X) : Type 0 where
  pub conforms : violations tree heads ≡ []
  pub paths : map (λ leaf. leaf.path) net.leaves ≡ paths tree
  pub classes : map (λ leaf. leaf.class) net.leaves ≡ classes tree
  pub count : length net.leaves ≡ length heads
  pub few : length net.leaves ≤ max_instances
  pub behaviours : (l : ℕ) (leaf : Leaf X) (head : Head) → slice_get net.leaves l ≡ Some leaf
      → slice_get heads l ≡ Some head → HasHead head leaf.behaviour
  pub links : AreLinks tree heads net.links
  pub top : Net
  pub is_top : slice_get tree.nets 0 ≡ Some top
  pub ins : net.ins ≡ map port_of top.ins
  pub outs : net.outs ≡ map port_of top.outs

-- a flat network is wired
abbrev pub FlatAreWired : Type 0 → Type 0
FlatAreWired X = (tree : Tree) (heads : List Head) (net : Network X)
    → IsFlat tree heads net → IsWired net
