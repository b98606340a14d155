-- What lies on the links behind some turns of an order.
use Rattle.std.proofs.Common.{◌≡◌, ℕ, zero, suc, ◌+◌, ◌≤◌, false, List, [], ◌∷◌, length, take, refl, sym, ap, ◌∙◌, subst, arith}
use Rattle.std.specs.Prelude.{Contains, Option, None, Some, slice_get}
use Rattle.balanced_rates.specs.declared.link.RatedLink.{RatedLink}
use Rattle.period_order.specs.Turns.{turns, given, taken, waiting}
use Rattle.net_model.specs.declared.wiring.End.{End}
use Rattle.net_model.specs.declared.wiring.End.TheVariants.{Leaf as AtLeaf, Net as AtNet}
use Rattle.net_model.specs.declared.wiring.Link.{Link}
use Rattle.net_model.specs.Network.{Network, is_output}
use Rattle.net_model.specs.State.{Flow, State}
use Rattle.net_model.specs.Laws.{HasFlows}
use Rattle.law_period.specs.Static.{NetRates, rated_between, rated, before_links, inner_links}
use Rattle.law_period.specs.Runs.{IsEmpty, IsAtRest, given_at, taken_at, IsWithinPeaks}
use Rattle.law_period.proofs.Deliveries.{same_get, length_each, changed_from, rated_inside, arrive, settled, MayArrive}

-- how often each leaf stands in an order
abbrev pub counts : List ℕ → ℕ → ℕ
counts order leaf = turns leaf order

-- what the turns of an order give and take on one link
pub record IsMovedOn (rates : NetRates) (order : List ℕ) (link : Link) (before now : Flow) : Type 0 where
  pub given : length now.sent ≡ length before.sent + given_at rates (counts order) link.from
  pub taken : is_output link ≡ false → now.taken ≡ before.taken + taken_at rates (counts order) link.to

-- the flow that a link had before, and what was moved since
pub record WasMoved (rates : NetRates) (order : List ℕ) (first : List Flow) (l : ℕ) (link : Link) (now : Flow) : Type 0 where
  pub before : Flow
  pub there : slice_get first l ≡ Some before
  pub moved : IsMovedOn rates order link before now

-- a state behind turns that began in a state `first`
pub record IsBehind {X : Type 0} (net : Network X) (kept : ℕ → X → Type 0) (rates : NetRates) (first : List Flow) (order : List ℕ) (s : State X) : Type 0 where
  pub untrapped : s.trapped ≡ false
  pub actors : length s.actors ≡ length net.leaves
  pub kept_states : (i : ℕ) (x : X) → slice_get s.actors i ≡ Some x → kept i x
  pub flows : HasFlows net s
  pub on_link : (l : ℕ) (link : Link) (now : Flow) → slice_get net.links l ≡ Some link → slice_get s.flows l ≡ Some now → WasMoved rates order first l link now

abbrev pub AllHere : List Flow → Type 0
AllHere flows = (l : ℕ) (flow : Flow) → slice_get flows l ≡ Some flow → flow.arrived ≡ length flow.sent

-- ---- rated links
inner_of_some : (o : Option RatedLink) (links : List RatedLink) (inner : RatedLink) → o ≡ Some inner → Contains (before_links o links) inner
inner_of_some None links inner h = cc
inner_of_some (Some that) links inner h = (0, omega arith, cc)

inner_behind : (o : Option RatedLink) (links : List RatedLink) (inner : RatedLink) → Contains links inner → Contains (before_links o links) inner
inner_behind None links inner found = found
inner_behind (Some that) links inner found = (suc found.0, (let inside = found.1 in omega arith), found.2)

pub inner_there : (rates : NetRates) (links : List Link) (l : ℕ) (link : Link) (inner : RatedLink) → slice_get links l ≡ Some link → rated rates link ≡ Some inner → Contains (inner_links rates links) inner
inner_there rates [] l link inner at is = cc
inner_there rates (head ∷ links) zero link inner at is =
    let same : head ≡ link = cc in inner_of_some (rated rates head) (inner_links rates links) inner (ap (rated rates) same ∙ is)
inner_there rates (head ∷ links) (suc l) link inner at is =
    inner_behind (rated rates head) (inner_links rates links) inner (inner_there rates links l link inner at is)

-- what a rated link gives and takes in an order is what its ends do
rated_moves : (rates : NetRates) (order : List ℕ) (from to : End) (inner : RatedLink) → rated_between rates from to ≡ Some inner
    → (given inner order ≡ given_at rates (counts order) from) × (taken inner order ≡ taken_at rates (counts order) to)
rated_moves rates order (AtLeaf inst port) (AtLeaf other next) inner h =
    let is : record { writer = inst.0; reader = other.0; give = rates.give inst.0 port; need = rates.need other.0 next } ≡ inner = cc in
    (ap (λ link. given link order) (sym is), ap (λ link. taken link order) (sym is))
rated_moves rates order (AtLeaf inst port) (AtNet next) inner h = cc
rated_moves rates order (AtNet port) to inner h = cc

-- ---- the beginning
given_none : (rates : NetRates) (end : End) → given_at rates (counts []) end ≡ 0
given_none rates (AtLeaf inst port) = omega arith
given_none rates (AtNet port) = refl

taken_none : (rates : NetRates) (end : End) → taken_at rates (counts []) end ≡ 0
taken_none rates (AtLeaf inst port) = omega arith
taken_none rates (AtNet port) = refl

pub behind_none : {X : Type 0} (net : Network X) (kept : ℕ → X → Type 0) (rates : NetRates) (s : State X) → IsAtRest net kept s → IsBehind net kept rates s.flows [] s
behind_none net kept rates s rest = record {
  untrapped = rest.untrapped;
  actors = rest.actors;
  kept_states = rest.kept_states;
  flows = rest.flows;
  on_link = λ l link now at_link at_flow. record {
    before = now;
    there = at_flow;
    moved = record {
      given = (let none = given_none rates link.from in omega (arith, none));
      taken = λ inside. (let none = taken_none rates link.to in omega (arith, none));
    };
  };
}

-- ---- all arrives
pub behind_settled : {X : Type 0} (net : Network X) (kept : ℕ → X → Type 0) (rates : NetRates) (first : List Flow) (order : List ℕ) (s : State X)
    → IsBehind net kept rates first order s → IsBehind net kept rates first order (settled net s)
behind_settled net kept rates first order s behind = record {
  untrapped = behind.untrapped;
  actors = behind.actors;
  kept_states = behind.kept_states;
  flows = length_each arrive net.links s.flows behind.flows;
  on_link = λ l link now at_link at_flow.
      let change = changed_from arrive net.links s.flows l now at_flow in
      let same : change.link ≡ link = same_get (slice_get net.links l) change.link link change.at_link at_link in
      let was = behind.on_link l link change.old at_link change.at_flow in
      let is : arrive link change.old ≡ now = ap (λ that. arrive that change.old) (sym same) ∙ change.is in
      record {
        before = was.before;
        there = was.there;
        moved = record {
          given = subst (λ flow. length flow.sent ≡ length was.before.sent + given_at rates (counts order) link.from) is was.moved.given;
          taken = λ inside. subst (λ flow. flow.taken ≡ was.before.taken + taken_at rates (counts order) link.to) is
              (rw inside (was.moved.taken inside));
        };
      };
}

pub all_here : {X : Type 0} (net : Network X) (s : State X) → MayArrive s.flows → AllHere (settled net s).flows
all_here net s may l flow at =
    let change = changed_from arrive net.links s.flows l flow at in
    let low : change.old.arrived ≤ length change.old.sent = may l change.old change.at_flow in
    subst (λ that. that.arrived ≡ length that.sent) change.is (omega (arith, low))

-- ---- the peaks
pub within_behind : {X : Type 0} (net : Network X) (kept : ℕ → X → Type 0) (rates : NetRates) (order : List ℕ) (start s : State X) (p : ℕ)
    → IsAtRest net kept start → p ≤ length order → IsBehind net kept rates start.flows (take p order) s → IsWithinPeaks net rates order s
within_behind net kept rates order start s p rest inside behind link flow inner peak on is_inner is_peak =
    let ends = rated_inside rates link inner is_inner in
    let was = behind.on_link on.0 link flow on.1 on.2 in
    let empty : IsEmpty was.before = rest.empty link was.before (on.0, on.1, was.there) ends.0 ends.1 in
    let moves = rated_moves rates (take p order) link.from link.to inner is_inner in
    let most : waiting inner (take p order) ≤ peak = is_peak.most p inside in
    let gives : given inner (take p order) ≡ given_at rates (counts (take p order)) link.from = moves.0 in
    let takes : taken inner (take p order) ≡ taken_at rates (counts (take p order)) link.to = moves.1 in
    let sent : length flow.sent ≡ length was.before.sent + given_at rates (counts (take p order)) link.from = was.moved.given in
    let gone : flow.taken ≡ was.before.taken + taken_at rates (counts (take p order)) link.to = was.moved.taken ends.1 in
    let nothing : was.before.taken ≡ length was.before.sent = empty.taken in
    omega (arith, most, gives, takes, sent, gone, nothing)
