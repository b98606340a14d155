use Rattle.std.proofs.Common.{map, sym, subst}
use Rattle.std.specs.Prelude.{vec_items, slice_set}
use Rattle.net_state.specs.Held.{HasPlace, Narrows}
use Rattle.net_state.proofs.Narrowing.{narrowed_row}
use Rattle.net_state.proofs.rooms.narrow.Goals as goal

pub returns-in-Leaf : goal.returns-in-Leaf
returns-in-Leaf c =
    subst (λ end. Narrows end c.args.room (map vec_items c.args.table.now) (map vec_items (slice_set c.args.table.now c.in-Leaf.inst.0 c.narrow_row.new.row))) (sym c.in-Leaf.is)
    (narrowed_row vec_items c.args.table.now c.in-Leaf.inst.0 c.in-Leaf.port c.args.room c.index-table-inst.result c.narrow_row.new.row
    (subst (HasPlace (map vec_items c.args.table.now)) c.in-Leaf.is c.requires) c.narrow_row.ensures)
