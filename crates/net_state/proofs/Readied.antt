-- Cells that are ready to be run can work.
use Rattle.std.proofs.Common.{◌≡◌, ℕ, ◌<◌, ◌≤◌, List, length, refl, sym, ap, subst, ◌∙◌, ⊎_elim, arith}
use Rattle.std.specs.Prelude.{Option, None, Some, slice_get}
use Rattle.std.proofs.lemmas.List.{length-map}
use Rattle.net_model.specs.declared.wiring.End.{End}
use Rattle.net_model.specs.declared.wiring.End.TheVariants.{Leaf as AtLeaf, Net as AtNet}
use Rattle.net_model.specs.declared.wiring.Link.{Link}
use Rattle.net_model.specs.Network.{Leaf, Network}
use Rattle.net_model.specs.Cell.{Cell}
use Rattle.net_model.specs.Limits.{max_rate}
use Rattle.net_model.specs.Ready.{IsReady}
use Rattle.net_model.specs.Wired.{ComesFromPort, HasInput, HasOutput, IsBefore, LeadsToPort}
use Rattle.rvc_base.specs.Lawful.{IsLawful}
use Rattle.net_model.specs.Laws.{AreLawful}
use Rattle.net_state.specs.Beginning.{AreLawfulCells, HaveSizes, NoneUnlinked}
use Rattle.net_state.specs.Held.{CanWork, IsReader}
use Rattle.net_state.specs.Moving.{IsWriter}
use Rattle.net_state.specs.Standing.{IsNetOf}
use Rattle.net_state.proofs.Gaining.{some_is, there_too}
use Rattle.net_state.proofs.Coming.{on_some}
use Rattle.net_state.proofs.Firings.{leaf_of}

before_none : (end : End) → IsBefore end end → ⊥
before_none (AtLeaf inst port) before = ⊎_elim (λ low. omega (arith, low)) (λ same. omega (arith, same.1)) before
before_none (AtNet port) before = omega (arith, before)

output_there : {X : Type 0} (p : ℕ) (o : Option (Leaf X)) → HasOutput p o → (leaf : Leaf X) × (o ≡ Some leaf) × (p < leaf.behaviour.outs)
output_there p None h = absurd h
output_there p (Some leaf) h = (leaf, refl, h)

input_there : {X : Type 0} (p : ℕ) (o : Option (Leaf X)) → HasInput p o → (leaf : Leaf X) × (o ≡ Some leaf) × (p < leaf.behaviour.ins)
input_there p None h = absurd h
input_there p (Some leaf) h = (leaf, refl, h)

module _ {X : Type 0} (net : Network X) (cells : List (Cell X)) (is : IsNetOf net cells net.links) where
  as_many : length net.leaves ≡ length cells
  as_many = sym (length-map net.leaves (λ leaf. leaf.behaviour)) ∙ (ap (λ bs. length bs) is.actors ∙ length-map cells (λ cell. cell.actor))

  -- the cell of a leaf
  record CellOf (i : ℕ) (leaf : Leaf X) : Type 0 where
    cell : Cell X
    at : slice_get cells i ≡ Some cell
    same : leaf.behaviour ≡ cell.actor

  cell_of : (i : ℕ) (leaf : Leaf X) → slice_get net.leaves i ≡ Some leaf → CellOf i leaf
  cell_of i leaf there =
      let on = there_too net.leaves cells i leaf as_many there in
      let back = leaf_of net cells net.links is i on.0 on.1 in
      record { cell = on.0; at = on.1; same = ap (λ k. k.behaviour) (some_is leaf back.leaf (sym there ∙ back.at)) ∙ back.is }

  writer_of : (end : End) → ComesFromPort net end → IsWriter cells end
  writer_of (AtNet port) comes = tt
  writer_of (AtLeaf inst port) comes =
      let on = output_there port (slice_get net.leaves inst.0) comes in
      let that = cell_of inst.0 on.0 on.1 in
      on_some (slice_get cells inst.0) (λ cell. port < cell.actor.outs) that.cell that.at (subst (λ actor. port < actor.outs) that.same on.2)

  reader_at_end : (end : End) → LeadsToPort net end → IsReader cells end
  reader_at_end (AtNet port) leads = tt
  reader_at_end (AtLeaf inst port) leads =
      let on = input_there port (slice_get net.leaves inst.0) leads in
      let that = cell_of inst.0 on.0 on.1 in
      on_some (slice_get cells inst.0) (λ cell. port < cell.actor.ins) that.cell that.at (subst (λ actor. port < actor.ins) that.same on.2)

  pub ready_can_work : (grow burst : ℕ) → IsReady net grow burst cells → HaveSizes net.links → NoneUnlinked cells net.links → CanWork cells net.links
  ready_can_work grow burst ready sizes unlinked = record {
    apart = λ l m link other low at there same. before_none other.to (subst (λ e. IsBefore e other.to) same (ready.wired.in_order l m link other low at there));
    joined = λ l link at.
        let joined = ready.wired.joined l link at in
        let queues = ready.queues l link at in
        record {
          size = sizes l link at;
          writer = writer_of link.from joined.from_port;
          reader = reader_at_end link.to joined.to_port;
          inside = joined.inside;
          outbox = queues.outbox;
          inbox = queues.inbox;
          waiting = queues.waiting;
        };
    read = ready.read;
    few_given = λ i cell at a p.
        let leaf = leaf_of net cells net.links is i cell at in
        subst (λ b. b.give a p ≤ max_rate) leaf.is (ready.wired.few_given i leaf.leaf leaf.at a p);
    few_cells =
        let count : length net.leaves ≡ length cells =
        sym (length-map net.leaves (λ leaf. leaf.behaviour)) ∙ (ap (λ bs. length bs) is.actors ∙ length-map cells (λ cell. cell.actor)) in
        omega (arith, count, ready.wired.few_leaves);
    few_links = ready.wired.few_links;
    all_out = λ i cell at. (ready.fresh i cell at).nothing_out;
    unlinked = unlinked;
  }

-- the leaves of the cells' network are lawful
pub lawful_net : {X : Type 0} (cells : List (Cell X)) (links : List Link) → AreLawfulCells cells → (net : Network X) → IsNetOf net cells links → AreLawful net
lawful_net cells links lawful net is i leaf there =
    let count : length net.leaves ≡ length cells =
    sym (length-map net.leaves (λ leaf. leaf.behaviour)) ∙ (ap (λ bs. length bs) is.actors ∙ length-map cells (λ cell. cell.actor)) in
    let on = there_too net.leaves cells i leaf count there in
    let back = leaf_of net cells links is i on.0 on.1 in
    let same : leaf.behaviour ≡ on.0.actor = ap (λ k. k.behaviour) (some_is leaf back.leaf (sym there ∙ back.at)) ∙ back.is in
    subst IsLawful (sym same) (lawful i on.0 on.1)
