-- The state in which a run begins is just opened: nothing was sent inside, and what waits was counted.
use Rattle.std.proofs.Common.{◌≡◌, ℕ, zero, suc, ◌≤◌, false, List, [], ◌∷◌, ◌++◌, length, map, refl, sym, ap, subst, ◌∙◌, arith, append-nil}
use Rattle.std.specs.Prelude.{Some, slice_get, slice_index_or}
use Rattle.std.proofs.lemmas.List.{length-map}
use Rattle.net_model.specs.declared.wiring.End.{End}
use Rattle.net_model.specs.declared.wiring.End.TheVariants.{Leaf as AtLeaf, Net as AtNet}
use Rattle.net_model.specs.declared.wiring.Link.{Link}
use Rattle.net_model.specs.Network.{Network, NetPort, is_input, is_outside}
use Rattle.net_model.specs.State.{Flow, fed_by}
use Rattle.net_model.specs.Trace.{FitFlows}
use Rattle.net_model.specs.Cell.{Cell}
use Rattle.net_model.specs.Ready.{IsReady, given_flow, given_state, waiting_at}
use Rattle.net_model.proofs.Keeping.{Since, SinceOpened, fits_now}
use Rattle.net_state.specs.Held.{AreCounted}
use Rattle.net_state.specs.Standing.{IsOpened, IsSince}

-- the flow of a link at the start
flow_at : {X : Type 0} (net : Network X) (cells : List (Cell X)) (inputs : List (List ℕ)) (links : List Link) (l : ℕ) (link : Link) (flow : Flow)
    → slice_get links l ≡ Some link → slice_get (map (given_flow net cells inputs) links) l ≡ Some flow → given_flow net cells inputs link ≡ flow
flow_at net cells inputs [] l link flow at here = cc
flow_at net cells inputs (first ∷ links) zero link flow at here =
    let same : first ≡ link = cc in
    let is : given_flow net cells inputs first ≡ flow = cc in
    ap (given_flow net cells inputs) (sym same) ∙ is
flow_at net cells inputs (first ∷ links) (suc l) link flow at here = flow_at net cells inputs links l link flow at here

-- an inner or output link has no feed
none_fed : (ports : List NetPort) (inputs : List (List ℕ)) (link : Link) (end : End) → is_outside end ≡ false → fed_by ports inputs link end ≡ []
none_fed ports inputs link (AtLeaf inst port) inner = refl
none_fed ports inputs link (AtNet port) inner = cc

all_arrived : {X : Type 0} (net : Network X) (cells : List (Cell X)) (inputs : List (List ℕ)) (link : Link) → is_input link ≡ false
    → length (waiting_at cells link.to) ≡ length (waiting_at cells link.to ++ fed_by net.ins inputs link link.from)
all_arrived net cells inputs link inner =
    ap length (sym (ap (λ a. waiting_at cells link.to ++ a) (none_fed net.ins inputs link link.from inner) ∙ append-nil (waiting_at cells link.to)))

pub start_opened : {X : Type 0} (net : Network X) (cells : List (Cell X)) (inputs : List (List ℕ)) (waited : List ℕ) → AreCounted cells net.links waited
    → IsOpened net.links waited (given_state net cells inputs).flows (given_state net cells inputs).flows
start_opened net cells inputs waited counted = record {
  whole = length-map net.links (given_flow net cells inputs);
  each = λ l link before flow at inner then_ now.
      let one : given_flow net cells inputs link ≡ before = flow_at net cells inputs net.links l link before at then_ in
      let two : given_flow net cells inputs link ≡ flow = flow_at net cells inputs net.links l link flow at now in
      subst (λ b. IsSince b flow (slice_index_or waited l 0)) one
      (subst (λ f. IsSince (given_flow net cells inputs link) f (slice_index_or waited l 0)) two (record {
        all_arrived = all_arrived net cells inputs link inner;
        none_since = refl;
        waited_is = let count : slice_index_or waited l 0 ≡ length (waiting_at cells link.to) = counted.each l link at in omega (arith, count);
      }));
}

pub start_since : {X : Type 0} (net : Network X) (cells : List (Cell X)) (inputs : List (List ℕ)) (grow burst : ℕ) → IsReady net grow burst cells
    → Since net (given_state net cells inputs) (given_state net cells inputs)
start_since net cells inputs grow burst ready l link before flow at then_ now =
    let one : given_flow net cells inputs link ≡ before = flow_at net cells inputs net.links l link before at then_ in
    let two : given_flow net cells inputs link ≡ flow = flow_at net cells inputs net.links l link flow at now in
    let low : length (waiting_at cells link.to) ≤ link.capacity = (ready.queues l link at).waiting in
    subst (λ b. SinceOpened link b flow) one
    (subst (λ f. SinceOpened link (given_flow net cells inputs link) f) two (record {
      arrived_then = λ inner. all_arrived net cells inputs link inner;
      sent = omega arith;
      arrived = refl;
      taken = omega arith;
      out = λ e. refl;
      fits = λ inner. omega (arith, low);
    }))

-- so no link holds more than its capacity
pub start_fits : {X : Type 0} (net : Network X) (cells : List (Cell X)) (inputs : List (List ℕ)) (grow burst : ℕ) → IsReady net grow burst cells
    → FitFlows net.links (given_state net cells inputs).flows (given_state net cells inputs).flows
start_fits net cells inputs grow burst ready = fits_now net (given_state net cells inputs) (given_state net cells inputs) (start_since net cells inputs grow burst ready)
