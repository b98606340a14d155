-- Networks of static actors, and what a period of one is (Lee and Messerschmitt, Synchronous Data Flow, 1987).
-- Trusted: part of what a promise means.
use Rattle.std.specs.Prelude.{◌≡◌, ℕ, ◌<◌, ◌≤◌, true, List, [], ◌∷◌, ℤ, All, length, slice_get, Option, None, Some}
use Rattle.rvc_base.specs.Behaviour.{Behaviour, Fires, Picks}
use Rattle.rvc_base.specs.Lawful.{tokens_on}
use Rattle.balanced_rates.specs.declared.link.RatedLink.{RatedLink}
use Rattle.balanced_rates.specs.Balance.{IsBalanced}
use Rattle.period_order.specs.Turns.{IsPeriod}
use Rattle.net_model.specs.declared.wiring.End.{End}
use Rattle.net_model.specs.declared.wiring.End.TheVariants.{Leaf as AtLeaf, Net as AtNet}
use Rattle.net_model.specs.declared.wiring.Link.{Link}
use Rattle.net_model.specs.Network.{Leaf, Network, is_leaf_port}

-- how many tokens each firing of a leaf takes from an input port, and gives on an output port
pub record NetRates : Type 0 where
  pub need : (leaf port : ℕ) → ℕ
  pub give : (leaf port : ℕ) → ℕ

-- on each input port of the actor at least as many tokens as are needed there
abbrev pub HasNeeds : {X : Type 0} → Behaviour X → (ℕ → ℕ) → List (List ℤ) → Type 0
HasNeeds actor need tokens = (p : ℕ) → p < actor.ins → need p ≤ length (tokens_on tokens p)

-- An actor is static: in each of its states, the `kept` ones, its choice is to fire if it has its
-- tokens, and each action takes and gives the same.
pub record IsStatic {X : Type 0} (actor : Behaviour X) (kept : X → Type 0) (need give : ℕ → ℕ) :
    Type 0 where
  pub start : kept actor.start
  pub fires : (state : X) (tokens : List (List ℤ)) → kept state → HasNeeds actor need tokens
      → (a : ℕ) × (actor.choice state tokens ≡ Picks a)
  pub needs : (a p : ℕ) → a < actor.actions → p < actor.ins → actor.need a p ≡ need p
  pub gives : (a p : ℕ) → a < actor.actions → p < actor.outs → actor.give a p ≡ give p
  pub keeps : (state next : X) (tokens sent : List (List ℤ)) (a : ℕ) → kept state
      → actor.effect state tokens a ≡ Some (Fires next sent) → kept next

-- so is each leaf of a network
abbrev pub AreStatic : {X : Type 0} → Network X → (ℕ → X → Type 0) → NetRates → Type 0
AreStatic {X} net kept rates = (i : ℕ) (leaf : Leaf X) → slice_get net.leaves i ≡ Some leaf
    → IsStatic leaf.behaviour (kept i) (rates.need i) (rates.give i)

-- a link from a leaf to a leaf by its rates; a link of a port of the network has none
abbrev pub rated_between : NetRates → End → End → Option RatedLink
rated_between rates (AtLeaf inst port) (AtLeaf other next) = Some (record {
  writer = inst.0;
  reader = other.0;
  give = rates.give inst.0 port;
  need = rates.need other.0 next;
})
rated_between rates (AtLeaf inst port) (AtNet next) = None
rated_between rates (AtNet port) to = None

abbrev pub rated : NetRates → Link → Option RatedLink
rated rates link = rated_between rates link.from link.to

abbrev pub before_links : Option RatedLink → List RatedLink → List RatedLink
before_links None links = links
before_links (Some link) links = link ∷ links

-- the inner links by their rates, in link order
abbrev pub inner_links : NetRates → List Link → List RatedLink
inner_links rates [] = []
inner_links rates (link ∷ links) = before_links (rated rates link) (inner_links rates links)

-- a link leads to port p of leaf i
abbrev pub IsReached : {X : Type 0} → Network X → (i p : ℕ) → Type 0
IsReached net i p = (l : ℕ) × (link : Link) × (slice_get net.links l ≡ Some link)
    × (is_leaf_port i p link.to ≡ true)

-- An order of turns is a period of a network, in which each leaf fires so often: over all turns
-- each inner link gets as many tokens as are taken from it, each leaf finds its tokens on the inner
-- links at each of its turns, and none needs tokens on a port to which no link leads.
pub record IsPeriodOf {X : Type 0} (net : Network X) (rates : NetRates) (firings : ℕ → ℕ)
    (order : List ℕ) : Type 0 where
  pub balanced : All (IsBalanced firings) (inner_links rates net.links)
  pub period : IsPeriod (length net.leaves) (inner_links rates net.links) firings order
  pub reached : (i p : ℕ) (leaf : Leaf X) → slice_get net.leaves i ≡ Some leaf → 0 < firings i
      → p < leaf.behaviour.ins → 0 < rates.need i p → IsReached net i p
