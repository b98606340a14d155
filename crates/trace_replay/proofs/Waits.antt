-- How many tokens of an input link are untaken: as many as wait at its reading end.
use Rattle.std.proofs.Common.{◌≡◌, ℕ, ◌-◌, ◌<◌, true, false, List, length, refl, sym, ap, subst, ◌∙◌}
use Rattle.std.specs.Prelude.{Option, None, Some, slice_get, slice_index_or}
use Rattle.std.proofs.lemmas.List.{length-map}
use Rattle.net_model.specs.declared.wiring.End.{End}
use Rattle.net_model.specs.declared.wiring.End.TheVariants.{Leaf as AtLeaf, Net as AtNet}
use Rattle.net_model.specs.declared.wiring.Link.{Link}
use Rattle.net_model.specs.Network.{Leaf, Network, is_input, is_leaf_port, is_output, is_outside}
use Rattle.net_model.specs.State.{Flow, State, untaken}
use Rattle.net_model.specs.Cell.{Cell}
use Rattle.net_model.specs.Ready.{tokens_of, waiting_at}
use Rattle.net_model.specs.Wired.{HasInput, IsWired, LeadsToPort}
use Rattle.net_state.specs.Held.{Held}
use Rattle.net_state.specs.Standing.{IsNetOf, StandsIn}
use Rattle.net_state.specs.TakingBack.{waits_at, waits_on}
use Rattle.net_state.proofs.Coming.{is_own_port}
use Rattle.net_state.proofs.Firings.{leaf_of}
use Rattle.net_state.proofs.Flows.{inbox_at, length_waiting}
use Rattle.net_state.proofs.Gaining.{some_is, there_too}
use Rattle.network_runner.proofs.One.{wired_apart}

input_there : {X : Type 0} (p : ℕ) (o : Option (Leaf X)) → HasInput p o → (leaf : Leaf X) × (o ≡ Some leaf) × (p < leaf.behaviour.ins)
input_there p None h = absurd h
input_there p (Some leaf) h = (leaf, refl, h)

-- the cell before whose input port a link ends
reader_there : {X : Type 0} (net : Network X) (cells : List (Cell X)) (links : List Link) → IsNetOf net cells links → (i p : ℕ) → HasInput p (slice_get net.leaves i)
    → (cell : Cell X) × (slice_get cells i ≡ Some cell) × (p < cell.actor.ins)
reader_there net cells links is i p has =
    let on = input_there p (slice_get net.leaves i) has in
    let as_many : length net.leaves ≡ length cells =
    sym (length-map net.leaves (λ leaf. leaf.behaviour)) ∙ (ap (λ bs. length bs) is.actors ∙ length-map cells (λ cell. cell.actor)) in
    let that = there_too net.leaves cells i on.0 as_many on.1 in
    let back = leaf_of net cells links is i that.0 that.1 in
    let same = ap (λ k. k.behaviour) (some_is on.0 back.leaf (sym on.1 ∙ back.at)) ∙ back.is in
    (that.0, that.1, subst (λ actor. p < actor.ins) same on.2)

module _ {X : Type 0} (net : Network X) (held : Held (Cell X)) (s : State X) (wired : IsWired net) (stands : StandsIn net held s)
    (l : ℕ) (link : Link) (flow : Flow) (at : slice_get net.links l ≡ Some link) (there : slice_get s.flows l ≡ Some flow) (input : is_input link ≡ true) where
  pub inside_input : is_output link ≡ false
  inside_input = (wired.joined l link at).inside input

  by_end : (end : End) → link.to ≡ end → LeadsToPort net end → length (waiting_at held.cells link.to) ≡ untaken flow
  by_end (AtNet port) to leads =
      let out : is_output link ≡ true = ap is_outside to in
      let clash : true ≡ false = sym out ∙ inside_input in
      cc
  by_end (AtLeaf inst port) to leads =
      let on = reader_there net held.cells held.links stands.is_of inst.0 port leads in
      let own : is_leaf_port inst.0 port link.to ≡ true = ap (is_leaf_port inst.0 port) to ∙ is_own_port inst.0 port in
      ap (λ e. length (waiting_at held.cells e)) to
      ∙ (ap (λ o. length (tokens_of o port)) on.1
      ∙ (ap (λ ts. length ts) (stands.stands.inboxes inst.0 on.0 on.1 port on.2 ∙ inbox_at inst.0 port net.links s.flows l link flow (wired_apart net wired) at there own)
      ∙ length_waiting flow (stands.stands.flows.each l link flow at there).arrived))

  pub waits_untaken : waits_on held l ≡ untaken flow
  waits_untaken =
      let here : slice_get held.links l ≡ Some link = ap (λ ls. slice_get ls l) (sym stands.is_of.links_are) ∙ at in
      ap (waits_at held.cells) here ∙ by_end link.to refl (wired.joined l link at).to_port

  pub capacity_held : flow.capacity ≡ slice_index_or held.capacities l 0
  capacity_held = (stands.stands.flows.each l link flow at there).capacity_is
