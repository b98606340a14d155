-- Cells as they were made hold the state in which each run begins.
use Rattle.std.proofs.Common.{◌≡◌, ℕ, suc, List, [], ◌∷◌, ◌++◌, length, map, refl, ap, ◌∙◌}
use Rattle.std.specs.Prelude.{Option, None, Some, slice_get}
use Rattle.net_model.specs.declared.wiring.End.{End}
use Rattle.net_model.specs.declared.wiring.End.TheVariants.{Leaf as AtLeaf, Net as AtNet}
use Rattle.net_model.specs.declared.wiring.Link.{Link}
use Rattle.net_model.specs.Network.{Leaf, Network}
use Rattle.net_model.specs.Cell.{Cell}
use Rattle.net_model.specs.State.{Flow, State, fed_by, first_flow, start_of}
use Rattle.net_model.specs.Ready.{given_flow, given_state, tokens_of, waiting_at}
use Rattle.net_state.specs.Standing.{IsNetOf}
use Rattle.trace_replay.specs.Laws.{AreNew, IsNew}

none_before : {X : Type 0} (o : Option (Cell X)) (p : ℕ) → ((cell : Cell X) → o ≡ Some cell → IsNew cell) → tokens_of o p ≡ []
none_before None p new = refl
none_before (Some cell) p new = (new cell refl).empty p

none_wait : {X : Type 0} (cells : List (Cell X)) (end : End) → AreNew cells → waiting_at cells end ≡ []
none_wait cells (AtLeaf inst port) new = none_before (slice_get cells inst.0) port (λ cell at. new inst.0 cell at)
none_wait cells (AtNet port) new = refl

same_flow : {X : Type 0} (net : Network X) (cells : List (Cell X)) (inputs : List (List ℕ)) (link : Link) → AreNew cells → given_flow net cells inputs link ≡ first_flow net.ins inputs link
same_flow net cells inputs link new =
    ap {B = Flow} (λ tokens. record { sent = tokens ++ fed_by net.ins inputs link link.from; arrived = length tokens; taken = 0; capacity = link.capacity }) (none_wait cells link.to new)

same_flows : {X : Type 0} (net : Network X) (cells : List (Cell X)) (inputs : List (List ℕ)) (links : List Link) → AreNew cells
    → map (given_flow net cells inputs) links ≡ map (first_flow net.ins inputs) links
same_flows net cells inputs [] new = refl
same_flows net cells inputs (link ∷ links) new =
    ap (λ flow. flow ∷ map (given_flow net cells inputs) links) (same_flow net cells inputs link new)
    ∙ ap (λ flows. first_flow net.ins inputs link ∷ flows) (same_flows net cells inputs links new)

same_actors : {X : Type 0} (leaves : List (Leaf X)) (cells : List (Cell X)) → map {A = Leaf X} (λ leaf. leaf.behaviour) leaves ≡ map (λ cell. cell.actor) cells → AreNew cells
    → map {A = Cell X} (λ cell. cell.state) cells ≡ map (λ leaf. leaf.behaviour.start) leaves
same_actors [] [] same new = refl
same_actors [] (cell ∷ cells) same new = cc
same_actors (leaf ∷ leaves) [] same new = cc
same_actors {X} (leaf ∷ leaves) (cell ∷ cells) same new =
    let one : leaf.behaviour ≡ cell.actor = cc in
    let rest : map {A = Leaf X} (λ leaf. leaf.behaviour) leaves ≡ map (λ cell. cell.actor) cells = cc in
    ap (λ s. s ∷ map {A = Cell X} (λ cell. cell.state) cells) ((new 0 cell refl).state ∙ ap (λ b. b.start) (Rattle.std.proofs.Common.sym one))
    ∙ ap (λ states. leaf.behaviour.start ∷ states) (same_actors leaves cells rest (λ i other at. new (suc i) other at))

pub new_begin : {X : Type 0} (net : Network X) (cells : List (Cell X)) (inputs : List (List ℕ)) → IsNetOf net cells net.links → AreNew cells → given_state net cells inputs ≡ start_of net inputs
new_begin {X} net cells inputs is_of new =
    ap {B = State X} (λ actors. record { actors = actors; flows = map (given_flow net cells inputs) net.links; trapped = Rattle.std.specs.Prelude.false }) (same_actors net.leaves cells is_of.actors new)
    ∙ ap {B = State X} (λ flows. record { actors = map (λ leaf. leaf.behaviour.start) net.leaves; flows = flows; trapped = Rattle.std.specs.Prelude.false }) (same_flows net cells inputs net.links new)
