use Rattle.std.proofs.Common.{◌+◌, ◌∷◌, [], length, map, sym, ap, ◌∙◌, subst, arith, length-append}
use Rattle.std.specs.Prelude.{vec_items}
use Rattle.std.proofs.lemmas.List.{length-map, map-append}
use Rattle.period_order.specs.Board.{AreTouching}
use Rattle.period_order.proofs.Moving.{rows_more}
use Rattle.period_order.proofs.setup.rows_of.Goals as goal

pub loop-leaf-preserved : goal.loop-leaf-preserved
loop-leaf-preserved c =
    let leaf = c.loop-leaf.leaf in
    let rows = c.loop-leaf.rows.items in
    record {
      size = omega (arith, ap length c.in_ok-push.ensures.items, length-append rows (c.in_ok-row.row ∷ []), c.loop-leaf.invariant.size);
      each = subst (λ rs. AreTouching (leaf + 1) c.args.links.now rs) (sym (ap (map vec_items) c.in_ok-push.ensures.items ∙ map-append vec_items rows (c.in_ok-row.row ∷ [])))
          (rows_more leaf c.args.links.now (map vec_items rows) (vec_items c.in_ok-row.row) (length-map rows vec_items ∙ c.loop-leaf.invariant.size) c.loop-leaf.invariant.each c.in_ok-row.ensures);
    }
