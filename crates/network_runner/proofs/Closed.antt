-- How a round that fired nothing is closed.
use Rattle.std.proofs.Common.{◌≡◌, ℕ, zero, suc, ◌*◌, ◌-◌, ◌<◌, ◌≤◌, min, false, List, [], ◌∷◌, length, refl, sym, ap, subst, ◌∙◌, arith}
use Rattle.std.specs.Prelude.{Option, None, Some, slice_get, slice_index_or}
use Rattle.std.proofs.lemmas.Option.{slice_get_within}
use Rattle.rvc_base.specs.declared.ids.InstId.{InstId}
use Rattle.rvc_base.specs.declared.ids.ActId.{ActId}
use Rattle.rvc_base.specs.declared.ids.LinkId.{LinkId}
use Rattle.trace_text.specs.declared.line.Line.TheVariants.{Quiet, Stall}
use Rattle.net_model.specs.declared.firing.Look.TheVariants as look
use Rattle.net_model.specs.declared.wiring.Link.{Link}
use Rattle.net_model.specs.Network.{Network, is_input}
use Rattle.net_model.specs.State.{Flow, State, capacity_at, capacity_of}
use Rattle.net_model.specs.Event.{and_then}
use Rattle.net_model.specs.Trace.{OnNext, grown}
use Rattle.net_model.specs.Ends.{AllArrived, Grows, IsSettled, IsStalled, IsStuck, LacksRoom, all_fed}
use Rattle.net_model.specs.Paced.{Ends, Widens}
use Rattle.net_model.specs.Cell.{Cell}
use Rattle.net_state.specs.Held.{Held}
use Rattle.net_state.specs.Standing.{StandsIn, StandsSince}
use Rattle.net_state.specs.Surveyed.{LacksFirst}
use Rattle.net_state.specs.Working.{GrewTo, IsLowestLacking, LacksAsEnds, LacksAt, LacksOnLink, LooksFed}
use Rattle.net_state.proofs.Gaining.{there_too}
use Rattle.net_state.proofs.Surveying.{leaf_beyond, quiet_here, stalled_here}
use Rattle.round_runner.specs.declared.outcome.RoundEnd.TheVariants as round
use Rattle.round_runner.specs.declared.outcome.RunEnd.TheVariants as end
use Rattle.network_runner.specs.Closing.{IsClosedIdle}

all_arrived_of : (links : List Link) (flows : List Flow)
    → ((l : ℕ) (link : Link) (flow : Flow) → slice_get links l ≡ Some link → slice_get flows l ≡ Some flow → is_input link ≡ false → flow.arrived ≡ length flow.sent) → AllArrived links flows
all_arrived_of [] flows each = tt
all_arrived_of (link ∷ links) [] each = tt
all_arrived_of (link ∷ links) (flow ∷ flows) each = (each zero link flow refl refl, all_arrived_of links flows (λ l. each (suc l)))

-- a state that was just opened is settled
pub settled_since : {X : Type 0} (net : Network X) (held : Held (Cell X)) (s : State X) → StandsSince net held s s → IsSettled net s
settled_since net held s stands = record {
  untrapped = stands.now.stands.untrapped;
  arrived = all_arrived_of net.links s.flows (λ l link flow at there inner. (stands.since.each l link flow flow at inner there there).all_arrived);
}

link_there : {X : Type 0} (held : Held (Cell X)) (i a l : ℕ) → LacksAt held i a l → (link : Link) × (slice_get held.links l ≡ Some link)
link_there held i a l lacks = by_option (slice_get held.links l) lacks
  where
    by_option : (o : Option Link) → LacksOnLink held.cells i a (slice_index_or held.capacities l 0 - slice_index_or held.waited l 0) o → (link : Link) × (o ≡ Some link)
    by_option None h = absurd h
    by_option (Some link) h = (link, refl)

pub link_low : {X : Type 0} (held : Held (Cell X)) (i a l : ℕ) → LacksAt held i a l → l < length held.links
link_low held i a l lacks = (let on = link_there held i a l lacks in slice_get_within held.links l on.0 on.1)

-- what a link can hold, as it stands in the state
pub capacity_is : {X : Type 0} (net : Network X) (held : Held (Cell X)) (s : State X) → StandsIn net held s → (i a l : ℕ) → LacksAt held i a l → capacity_at s l ≡ slice_index_or held.capacities l 0
capacity_is net held s stands i a l lacks =
    let on = link_there held i a l lacks in
    let at : slice_get net.links l ≡ Some on.0 = ap (λ ls. slice_get ls l) stands.is_of.links_are ∙ on.1 in
    let flow = there_too net.links s.flows l on.0 (sym stands.stands.flows.count) at in
    ap capacity_of flow.1 ∙ (stands.stands.flows.each l on.0 flow.0 at flow.1).capacity_is

module _ {X : Type 0} (net : Network X) (held : Held (Cell X)) (grow : ℕ) (s : State X) (stands : StandsSince net held s s) where
  beyond : (j : ℕ) → length held.cells ≤ j → slice_get net.leaves j ≡ None
  beyond = leaf_beyond net held.cells held.links stands.now.is_of

  pub closed_quiet : ((k : ℕ) → k < length held.cells → LooksFed net s k look.Waits) → IsClosedIdle net grow s (round.End end.Quiet) held
  closed_quiet all = record {
    close = Ends Quiet;
    closes = quiet_here net s (length held.cells) beyond (settled_since net held s stands) all;
    answers = (Quiet, refl, refl);
    last = s;
    leads = refl;
    stands = stands;
  }

  module _ (i a : ℕ) (first : LacksFirst (length held.cells) net s i a) (as_ends : LacksAsEnds held i a) where
    -- some link lacks room
    pub some_lacks : ((l : ℕ) → LacksAt held i a l → ⊥) → ⊥
    some_lacks none = none first.lacks.1.1.0 ((as_ends net s first.lacks.1.1.0 stands.now).0 (subst (λ b. LacksRoom net (all_fed net s) i b first.lacks.1.1.0) refl first.lacks.1.1.1))

    module _ (l : ℕ) (lowest : IsLowestLacking held i a l) where
      stalled : IsStalled net s i a l
      stalled = stalled_here net s (length held.cells) beyond (settled_since net held s stands) i a l first
          ((as_ends net s l stands.now).1 lowest.lacks) (λ m low lacks. lowest.first m low ((as_ends net s m stands.now).0 lacks))

      holds : capacity_at s l ≡ slice_index_or held.capacities l 0
      holds = capacity_is net held s stands.now i a l lowest.lacks

      pub stuck : grow ≤ slice_index_or held.capacities l 0 → IsStuck net grow s i a l
      stuck full = record { stalled = stalled; grown = omega (arith, full, holds) }

      pub grows : (capacity : ℕ) → slice_index_or held.capacities l 0 < grow → capacity ≡ min (2 * slice_index_or held.capacities l 0) grow → Grows net grow s l capacity
      grows capacity below doubled = record {
        leaf = i;
        action = a;
        stalled = stalled;
        below = omega (arith, below, holds);
        doubled = doubled ∙ ap (λ n. min (2 * n) grow) (sym holds);
      }

  pub closed_stuck : (inst : InstId) (action : ActId) (link : LinkId) → IsStuck net grow s inst.0 action.0 link.0 → IsClosedIdle net grow s (round.End (end.Stalled inst action link)) held
  closed_stuck inst action link is_stuck = record {
    close = Ends (Stall inst.0 action.0 link.0);
    closes = is_stuck;
    answers = (Stall inst.0 action.0 link.0, refl, refl);
    last = s;
    leads = refl;
    stands = stands;
  }

  next_from : (o : Option (State X)) (P : State X → Type 0) → OnNext o P → (next : State X) × (o ≡ Some next) × P next
  next_from None P h = absurd h
  next_from (Some next) P h = (next, refl, h)

  pub closed_grown : (new : Held (Cell X)) (link : LinkId) (capacity : ℕ) → Grows net grow s link.0 capacity → GrewTo link.0 capacity held new → IsClosedIdle net grow s (round.Grew link capacity) new
  closed_grown new link capacity is_grown grew =
      let next = next_from (grown s link.0 capacity (slice_get s.flows link.0)) (λ t. StandsSince net new s t) (grew net s s stands) in
      record {
        close = Widens link.0 capacity;
        closes = is_grown;
        answers = refl;
        last = next.0;
        leads = ap (λ o. and_then o (λ t. Some t)) next.1;
        stands = next.2;
      }
