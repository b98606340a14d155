-- What flattening answers, and when it refuses.
-- Trusted: part of what a promise means.
use Rattle.std.specs.Prelude.{◌≡◌, ◌⊎◌, ℕ, ◌<◌, ◌≤◌, List, [], length, map, Contains, Some, slice_get, string_bytes}
use Rattle.rvc_base.specs.declared.refusal.Front.{Front}
use Rattle.rvc_base.specs.declared.refusal.Front.TheVariants.{Refused, Memory}
use Rattle.rvc_base.specs.declared.refusal.Refusal.{Refusal}
use Rattle.rvc_base.specs.declared.refusal.Rule.{Rule}
use Rattle.rvc_base.specs.Rules.{too_many_links, too_much_capacity}
use Rattle.net_model.specs.declared.wiring.Link.{Link}
use Rattle.net_model.specs.Limits.{max_links}
use Rattle.net_model.specs.Network.{Leaf, Network}
use Rattle.net_model.specs.Ready.{port_of as own_port}
use Rattle.fnl_tree.specs.Tree.{Net, Tree, paths, classes}
use Rattle.fnl_flatten.specs.declared.flat.Flat.{Flat}
use Rattle.fnl_flatten.specs.Flat.{HasHead, IsFlat, port_of}
use Rattle.fnl_flatten.specs.Head.{Head}
use Rattle.fnl_flatten.specs.Links.{AreJoined, AreLinks, capacities, max_capacity}
use Rattle.fnl_flatten.specs.Rules.{violations}
use Rattle.fnl_flatten.specs.Whole.{IsWhole}

-- The tree breaks no rule. The links are exactly those that chains join, and paths, classes and ports are the tree's.
pub record IsFlattened (tree : Tree) (heads : List Head) (flat : Flat) : Type 0 where
  pub conforms : violations tree heads ≡ []
  pub paths : map string_bytes flat.paths.items ≡ paths tree
  pub classes : map string_bytes flat.classes.items ≡ classes tree
  pub links : AreLinks tree heads flat.links.items
  pub top : Net
  pub is_top : slice_get tree.nets 0 ≡ Some top
  pub ins : map own_port flat.ins.items ≡ map port_of top.ins
  pub outs : map own_port flat.outs.items ≡ map port_of top.outs

-- the actors at these paths have the ports that are told, and links and ports are those of the answer
pub record StandsFor {X : Type 0} (heads : List Head) (flat : Flat) (net : Network X) : Type 0 where
  pub paths : map (λ leaf. leaf.path) net.leaves ≡ map string_bytes flat.paths.items
  pub classes : map (λ leaf. leaf.class) net.leaves ≡ map string_bytes flat.classes.items
  pub behaviours : (l : ℕ) (leaf : Leaf X) (head : Head) → slice_get net.leaves l ≡ Some leaf
      → slice_get heads l ≡ Some head → HasHead head leaf.behaviour
  pub links : net.links ≡ flat.links.items
  pub ins : net.ins ≡ map own_port flat.ins.items
  pub outs : net.outs ≡ map own_port flat.outs.items

-- a network that an answer stands for is the flat network of the tree
abbrev pub AnswersAreFlat : Type 0 → Type 0
AnswersAreFlat X = (tree : Tree) (heads : List Head) (flat : Flat) (net : Network X)
    → IsWhole tree heads → IsFlattened tree heads flat → StandsFor heads flat net
    → IsFlat tree heads net

-- ---- refusals

abbrev pub at_start : Rule → ℕ → Refusal
at_start rule file = record { rule = rule; place = record { file = file; offset = 0 } }

-- there are too many links, or their capacities add to too much
abbrev pub PassesLimit : List Link → ℕ → Refusal → Type 0
PassesLimit links file r = ((r ≡ at_start too_many_links file) × (max_links < length links))
    ⊎ ((r ≡ at_start too_much_capacity file) × (max_capacity < capacities links))

-- they pass none
pub record IsWithin (links : List Link) : Type 0 where
  pub few : length links ≤ max_links
  pub little : capacities links ≤ max_capacity

-- the links that chains join pass a limit
pub record LinksPass (tree : Tree) (heads : List Head) (r : Refusal) : Type 0 where
  pub top : Net
  pub is_top : slice_get tree.nets 0 ≡ Some top
  pub links : List Link
  pub joined : AreJoined tree heads links
  pub passes : PassesLimit links top.file r

-- the rule is broken at the place; out of memory has no cause
abbrev pub IsRefusal : Tree → List Head → Front → Type 0
IsRefusal tree heads (Refused r) =
    Contains (violations tree heads) (record { rule = r.rule; file = r.place.file; at = r.place.offset })
    ⊎ LinksPass tree heads r
IsRefusal tree heads Memory = Unit {0}
