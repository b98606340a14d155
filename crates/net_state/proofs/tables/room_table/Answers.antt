use Rattle.std.proofs.Common.{map, arith, subst, sym, ap, ◌∙◌, ◌+◌, ◌∷◌, []}
use Rattle.std.specs.Prelude.{vec_items}
use Rattle.std.proofs.lemmas.List.{length-map, map-append}
use Rattle.net_state.proofs.Starting.{IsTabling, tabling_starts, tabling_more, tabled_all, tabled_lawful}
use Rattle.net_state.proofs.tables.room_table.Goals as goal

pub loop-i-init : goal.loop-i-init
loop-i-init g c =
    subst (λ rows. IsTabling 0 (map g.A.Firing.cell c.args.cells.now) (map vec_items rows)) (sym c.in_ok-table.ensures.items) (tabling_starts (map g.A.Firing.cell c.args.cells.now))

pub loop-i-preserved : goal.loop-i-preserved
loop-i-preserved g c =
    subst (IsTabling (c.loop-i.i + 1) (map g.A.Firing.cell c.args.cells.now))
    (sym (ap (map vec_items) c.in_ok-push.ensures.items ∙ map-append vec_items c.loop-i.table.items (c.in_ok-zeros.field-0 ∷ [])))
    (tabling_more c.loop-i.i c.outs_at-outs.result (map g.A.Firing.cell c.args.cells.now) (map vec_items c.loop-i.table.items) (vec_items c.in_ok-zeros.field-0)
    c.loop-i.invariant c.outs_at-outs.ensures.count c.outs_at-outs.ensures.lawful c.in_ok-zeros.ensures)

pub returns : goal.returns
returns g c = record {
  widths = tabled_all c.loop-i.i (map g.A.Firing.cell c.args.cells.now) (map vec_items c.loop-i.table.items) c.loop-i.invariant
      (omega (arith, length-map c.args.cells.now g.A.Firing.cell, c.loop-i-test.false, c.loop-i.auto.i-end));
  lawful = tabled_lawful c.loop-i.i (map g.A.Firing.cell c.args.cells.now) (map vec_items c.loop-i.table.items) c.loop-i.invariant
      (omega (arith, length-map c.args.cells.now g.A.Firing.cell, c.loop-i-test.false, c.loop-i.auto.i-end));
}
