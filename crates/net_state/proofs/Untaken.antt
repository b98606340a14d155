-- How many tokens of an inner or output link are untaken: as many as wait at its reading end.
use Rattle.std.proofs.Common.{◌≡◌, ℕ, ◌-◌, ◌<◌, true, List, length, refl, sym, ap, subst, ◌∙◌, arith}
use Rattle.std.specs.Prelude.{Some, slice_get}
use Rattle.net_model.specs.declared.wiring.End.{End}
use Rattle.net_model.specs.declared.wiring.End.TheVariants.{Leaf as AtLeaf, Net as AtNet}
use Rattle.net_model.specs.declared.wiring.Link.{Link}
use Rattle.net_model.specs.Network.{Network, is_outside, is_leaf_port}
use Rattle.net_model.specs.State.{Flow, State, untaken, waiting}
use Rattle.net_model.specs.Cell.{Cell}
use Rattle.net_model.specs.Ready.{tokens_of, waiting_at}
use Rattle.net_state.specs.Moving.{AreApart}
use Rattle.net_state.specs.Held.{IsReader, IsWorking}
use Rattle.net_state.specs.Standing.{IsNetOf, Stands}
use Rattle.net_state.proofs.Coming.{is_own_port, on_cell}
use Rattle.net_state.proofs.Flows.{inbox_at, length_waiting}

module _ {X : Type 0} (net : Network X) (cells : List (Cell X)) (links : List Link) (capacities waited : List ℕ) (s : State X) (is : IsNetOf net cells links)
    (stands : Stands net cells capacities s) (working : IsWorking cells links capacities waited) where
  pub at_links : (l : ℕ) (link : Link) → slice_get net.links l ≡ Some link → slice_get links l ≡ Some link
  at_links l link there = sym (ap (λ ls. slice_get ls l) is.links_are) ∙ there

  pub apart_net : AreApart net.links
  apart_net = subst AreApart (sym is.links_are) working.apart

  pub untaken_waits : (l : ℕ) (link : Link) (flow : Flow) → slice_get net.links l ≡ Some link → slice_get s.flows l ≡ Some flow
      → untaken flow ≡ length (waiting_at cells link.to)
  untaken_waits l link flow here there = by_end link.to refl
    where
      by_end : (end : End) → link.to ≡ end → untaken flow ≡ length (waiting_at cells link.to)
      by_end (AtNet port) to =
          let none : length (waiting_at cells link.to) ≡ 0 = ap (λ e. length (waiting_at cells e)) to in
          let gone : flow.taken ≡ flow.arrived = (stands.flows.each l link flow here there).gone (ap is_outside to) in
          omega (arith, none, gone)
      by_end (AtLeaf inst port) to =
          let on = on_cell (slice_get cells inst.0) (λ c. port < c.actor.ins) (subst (IsReader cells) to (working.fits l link (at_links l link here)).reader) in
          let leads : is_leaf_port inst.0 port link.to ≡ true = ap (is_leaf_port inst.0 port) to ∙ is_own_port inst.0 port in
          let waits : length (waiting_at cells link.to) ≡ length (waiting flow) =
          ap (λ e. length (waiting_at cells e)) to
          ∙ (ap (λ o. length (tokens_of o port)) on.1
          ∙ ap (λ ts. length ts) (stands.inboxes inst.0 on.0 on.1 port on.2 ∙ inbox_at inst.0 port net.links s.flows l link flow apart_net here there leads)) in
          let many : length (waiting flow) ≡ flow.arrived - flow.taken = length_waiting flow (stands.flows.each l link flow here there).arrived in
          omega (arith, waits, many)
