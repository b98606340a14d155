-- What a runner keeps, as its rounds go.
use Rattle.std.proofs.Common.{◌≡◌, ℕ, zero, suc, ◌-◌, ◌*◌, ◌<◌, ◌≤◌, false, List, [], ◌∷◌, length, refl, ap, subst, ◌∙◌, arith}
use Rattle.std.specs.Prelude.{Option, None, Some, slice_get, slice_set, slice_index_or}
use Rattle.net_model.specs.declared.wiring.End.{End}
use Rattle.net_model.specs.declared.wiring.End.TheVariants.{Leaf as AtLeaf, Net as AtNet}
use Rattle.net_model.specs.declared.wiring.Link.{Link}
use Rattle.net_model.specs.Network.{is_input, is_outside, is_output}
use Rattle.net_model.specs.Cell.{Cell}
use Rattle.net_model.specs.Limits.{max_grow}
use Rattle.net_model.specs.Ready.{waiting_at}
use Rattle.net_state.specs.Held.{Held}
use Rattle.net_state.specs.Working.{CanHold, IsAtRest, LacksFrom, LacksOnLink, gives_of}
use Rattle.net_state.specs.Sharing.{AreFresh}
use Rattle.round_runner.specs.Running.{Running}
use Rattle.network_runner.specs.Asking.{growth_left}
use Rattle.network_runner.specs.Keeping.{GivesWithin, GoesOn}
use Rattle.network_runner.specs.Rounding.{CanGrow, HasEnds}

-- Before the firings.

-- cells of a network at rest that goes on are fresh
pub fresh_now : {X : Type 0} (run : Running (Cell X)) (marks asked instances : ℕ) → GoesOn run marks asked instances → IsAtRest run.held → AreFresh run.burst run.held.cells
fresh_now run marks asked instances goes rest = λ i cell at. record {
  untrapped = goes.untrapped i cell at;
  empty = (rest.all_out i cell at).1;
  room = goes.journals i cell at;
}

module _ {X : Type 0} (run : Running (Cell X)) (marks asked instances : ℕ) (goes : GoesOn run marks asked instances) (rest : IsAtRest run.held) where
  abbrev held : Held (Cell X)
  held = run.held

  abbrev room : ℕ → ℕ
  room l = slice_index_or held.capacities l 0 - slice_index_or held.waited l 0

  -- a link on which an action lacks room begins at the cell, and is no output link
  lacks_inner : (i a l : ℕ) (link : Link) (from to : End) → slice_get held.links l ≡ Some link → link.from ≡ from → link.to ≡ to → LacksFrom (gives_of (slice_get held.cells i) a) i (room l) from
      → (is_input link ≡ false) × (is_output link ≡ false) × (0 < slice_index_or held.capacities l 0)
  lacks_inner i a l link (AtNet port) to at from to_is lacks = absurd lacks
  lacks_inner i a l link (AtLeaf inst port) (AtLeaf reader q) at from to_is lacks =
      let some : room l < gives_of (slice_get held.cells i) a port = lacks.1 in
      let within : gives_of (slice_get held.cells inst.0) a port ≤ slice_index_or held.capacities l 0 = (subst (GivesWithin held.cells (slice_index_or held.capacities l 0)) from (goes.joined l link at).gives) a in
      let same : gives_of (slice_get held.cells i) a port ≡ gives_of (slice_get held.cells inst.0) a port = ap (λ k. gives_of (slice_get held.cells k) a port) lacks.0 in
      (ap is_outside from, ap is_outside to_is, omega (arith, some, within, same))
  lacks_inner i a l link (AtLeaf inst port) (AtNet q) at from to_is lacks =
      let some : room l < gives_of (slice_get held.cells i) a port = lacks.1 in
      let within : gives_of (slice_get held.cells inst.0) a port ≤ slice_index_or held.capacities l 0 = (subst (GivesWithin held.cells (slice_index_or held.capacities l 0)) from (goes.joined l link at).gives) a in
      let same : gives_of (slice_get held.cells i) a port ≡ gives_of (slice_get held.cells inst.0) a port = ap (λ k. gives_of (slice_get held.cells k) a port) lacks.0 in
      let none : slice_index_or held.waited l 0 ≡ 0 = rest.counted l link at (ap is_outside from) ∙ ap (λ e. length (waiting_at held.cells e)) to_is in
      absurd (omega (arith, some, within, same, none))

  pub can_grow : CanGrow run.grow held
  can_grow i a l lacks = by_link (slice_get held.links l) refl lacks
    where
      by_link : (o : Option Link) → slice_get held.links l ≡ o → LacksOnLink held.cells i a (room l) o → HasEnds held.cells o × CanHold held.cells run.grow o × (0 < slice_index_or held.capacities l 0)
      by_link None at h = absurd h
      by_link (Some link) at h =
          let inner = lacks_inner i a l link link.from link.to at refl refl h in
          let joined = goes.joined l link at in
          ((joined.writer, joined.reader), joined.queues inner.0 inner.1, inner.2)

-- Growth.

pub growth_falls : (grow : ℕ) (capacities : List ℕ) (l capacity : ℕ) → l < length capacities → slice_index_or capacities l 0 < capacity → capacity ≤ grow
    → growth_left grow (slice_set capacities l capacity) < growth_left grow capacities
growth_falls grow [] l capacity low more few = absurd (omega (arith, low))
growth_falls grow (c ∷ capacities) zero capacity low more few = omega (arith, more, few)
growth_falls grow (c ∷ capacities) (suc l) capacity low more few =
    let rest : growth_left grow (slice_set capacities l capacity) < growth_left grow capacities = growth_falls grow capacities l capacity (omega (arith, low)) more few in
    omega (arith, rest)

pub growth_most : (grow : ℕ) (capacities : List ℕ) → grow ≤ max_grow → growth_left grow capacities ≤ max_grow * length capacities
growth_most grow [] few = omega arith
growth_most grow (c ∷ capacities) few =
    let rest : growth_left grow capacities ≤ max_grow * length capacities = growth_most grow capacities few in
    omega (arith, rest, few)
