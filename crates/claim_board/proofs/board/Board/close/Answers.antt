use Rattle.std.proofs.Common.{◌≡◌, ◌⊎◌, ◌<◌, ◌∙◌, ℕ, List, length, slice_get, slice_index_or, Some, Any, true, false, ap, sym, subst, arith}
use Rattle.std.specs.Mem.Slots.{slots_items}
use Rattle.claim_board.specs.Pieces.{IsAsPut, IsWorked}
use Rattle.claim_board.specs.Seen.{PassSeen, AtEachPlace, times_drawn}
use Rattle.claim_board.proofs.Closes.{Closes, closed, each-place}
use Rattle.claim_board.proofs.board.Board.close.Goals as goal

pub gather-seat-requires-clause-own : goal.gather-seat-requires-clause-own
gather-seat-requires-clause-own g c k d lt =
    let own = c.requires.own k d lt in (own.0 ∙ sym (ap (λ b. b.id) c.self.view_is), own.1 ∙ sym (ap (λ b. b.put) c.self.view_is))

pub take_out-requires-clause-laid : goal.take_out-requires-clause-laid
take_out-requires-clause-laid g c =
    let put : List g.row.P.Denot = c.self.inside.table.shared.key.put.value.items in let xs = slots_items c.close_with.result.slots in
    let there : Closes g.P.Piece.state g.P.Piece.marked g.P.Piece.gives put c.args.passes.items xs =
    closed g.P.Piece.state g.P.Piece.marked g.P.Piece.gives put c.args.passes.items c.self.inside.table.shared.key.passes (c.requires.all ∙ sym (ap (λ b. b.passes) c.self.view_is))
    c.gather-seat.result.id c.gather-seat.result.me c.gather-seat.ensures.all (slots_items c.close_with.result.words) xs c.close_with.ensures.values.2 in
    there.laid

pub take_out-requires-clause-places : goal.take_out-requires-clause-places
take_out-requires-clause-places g c =
    let put : List g.row.P.Denot = c.self.inside.table.shared.key.put.value.items in let xs = slots_items c.close_with.result.slots in
    let there : Closes g.P.Piece.state g.P.Piece.marked g.P.Piece.gives put c.args.passes.items xs =
    closed g.P.Piece.state g.P.Piece.marked g.P.Piece.gives put c.args.passes.items c.self.inside.table.shared.key.passes (c.requires.all ∙ sym (ap (λ b. b.passes) c.self.view_is))
    c.gather-seat.result.id c.gather-seat.result.me c.gather-seat.ensures.all (slots_items c.close_with.result.words) xs c.close_with.ensures.values.2 in
    omega (arith, c.self.invariant.2, there.long)

pub returns-clause-places : goal.returns-clause-places
returns-clause-places g c =
    let put : List g.row.P.Denot = c.self.inside.table.shared.key.put.value.items in let xs = slots_items c.close_with.result.slots in
    let there : Closes g.P.Piece.state g.P.Piece.marked g.P.Piece.gives put c.args.passes.items xs =
    closed g.P.Piece.state g.P.Piece.marked g.P.Piece.gives put c.args.passes.items c.self.inside.table.shared.key.passes (c.requires.all ∙ sym (ap (λ b. b.passes) c.self.view_is))
    c.gather-seat.result.id c.gather-seat.result.me c.gather-seat.ensures.all (slots_items c.close_with.result.words) xs c.close_with.ensures.values.2 in
    let same : put ≡ c.args.self.put = ap (λ b. b.put) c.self.view_is in
    let here : Closes g.P.Piece.state g.P.Piece.marked g.P.Piece.gives c.args.self.put c.args.passes.items xs =
    subst (λ (l : List g.row.P.Denot). Closes g.P.Piece.state g.P.Piece.marked g.P.Piece.gives l c.args.passes.items xs) same there in
    ap (λ (l : List g.row.P.Denot). length l) c.take_out.ensures ∙ here.long

pub returns-clause-each : goal.returns-clause-each
returns-clause-each g c =
    let put : List g.row.P.Denot = c.self.inside.table.shared.key.put.value.items in let xs = slots_items c.close_with.result.slots in
    let there : Closes g.P.Piece.state g.P.Piece.marked g.P.Piece.gives put c.args.passes.items xs =
    closed g.P.Piece.state g.P.Piece.marked g.P.Piece.gives put c.args.passes.items c.self.inside.table.shared.key.passes (c.requires.all ∙ sym (ap (λ b. b.passes) c.self.view_is))
    c.gather-seat.result.id c.gather-seat.result.me c.gather-seat.ensures.all (slots_items c.close_with.result.words) xs c.close_with.ensures.values.2 in
    let same : put ≡ c.args.self.put = ap (λ b. b.put) c.self.view_is in
    let here : Closes g.P.Piece.state g.P.Piece.marked g.P.Piece.gives c.args.self.put c.args.passes.items xs =
    subst (λ (l : List g.row.P.Denot). Closes g.P.Piece.state g.P.Piece.marked g.P.Piece.gives l c.args.passes.items xs) same there in
    let unmarked = subst (λ (l : List g.row.P.Denot). (k : ℕ) (d : g.row.P.Denot) → k < length l → g.P.Piece.marked (slice_index_or l k d) ≡ false) same c.self.invariant.6 in
    subst (λ (l : List g.row.P.Denot). AtEachPlace (λ place piece. IsWorked g.P.Piece.state g.P.Piece.marked g.P.Piece.gives c.args.self.put place piece ⊎ IsAsPut g.P.Piece.state g.P.Piece.marked c.args.self.put place piece) l) (sym c.take_out.ensures)
    (each-place g.P.Piece.state g.P.Piece.marked g.P.Piece.gives c.args.self.put c.args.passes.items xs unmarked here)

pub returns-clause-drawn : goal.returns-clause-drawn
returns-clause-drawn g c =
    let put : List g.row.P.Denot = c.self.inside.table.shared.key.put.value.items in let xs = slots_items c.close_with.result.slots in
    let there : Closes g.P.Piece.state g.P.Piece.marked g.P.Piece.gives put c.args.passes.items xs =
    closed g.P.Piece.state g.P.Piece.marked g.P.Piece.gives put c.args.passes.items c.self.inside.table.shared.key.passes (c.requires.all ∙ sym (ap (λ b. b.passes) c.self.view_is))
    c.gather-seat.result.id c.gather-seat.result.me c.gather-seat.ensures.all (slots_items c.close_with.result.words) xs c.close_with.ensures.values.2 in
    let same : put ≡ c.args.self.put = ap (λ b. b.put) c.self.view_is in
    let here : Closes g.P.Piece.state g.P.Piece.marked g.P.Piece.gives c.args.self.put c.args.passes.items xs =
    subst (λ (l : List g.row.P.Denot). Closes g.P.Piece.state g.P.Piece.marked g.P.Piece.gives l c.args.passes.items xs) same there in
    subst (λ (l : List g.row.P.Denot). AtEachPlace (λ place piece. 0 < times_drawn place c.args.passes.items → IsWorked g.P.Piece.state g.P.Piece.marked g.P.Piece.gives c.args.self.put place piece) l) (sym c.take_out.ensures) here.drawn

pub returns-clause-left : goal.returns-clause-left
returns-clause-left g c =
    let put : List g.row.P.Denot = c.self.inside.table.shared.key.put.value.items in let xs = slots_items c.close_with.result.slots in
    let there : Closes g.P.Piece.state g.P.Piece.marked g.P.Piece.gives put c.args.passes.items xs =
    closed g.P.Piece.state g.P.Piece.marked g.P.Piece.gives put c.args.passes.items c.self.inside.table.shared.key.passes (c.requires.all ∙ sym (ap (λ b. b.passes) c.self.view_is))
    c.gather-seat.result.id c.gather-seat.result.me c.gather-seat.ensures.all (slots_items c.close_with.result.words) xs c.close_with.ensures.values.2 in
    let same : put ≡ c.args.self.put = ap (λ b. b.put) c.self.view_is in
    let here : Closes g.P.Piece.state g.P.Piece.marked g.P.Piece.gives c.args.self.put c.args.passes.items xs =
    subst (λ (l : List g.row.P.Denot). Closes g.P.Piece.state g.P.Piece.marked g.P.Piece.gives l c.args.passes.items xs) same there in
    subst (λ (l : List g.row.P.Denot). AtEachPlace (λ place piece. times_drawn place c.args.passes.items ≡ 0 → slice_get c.args.self.put place ≡ Some piece) l) (sym c.take_out.ensures) here.left

pub returns-clause-once : goal.returns-clause-once
returns-clause-once g c =
    let put : List g.row.P.Denot = c.self.inside.table.shared.key.put.value.items in let xs = slots_items c.close_with.result.slots in
    let there : Closes g.P.Piece.state g.P.Piece.marked g.P.Piece.gives put c.args.passes.items xs =
    closed g.P.Piece.state g.P.Piece.marked g.P.Piece.gives put c.args.passes.items c.self.inside.table.shared.key.passes (c.requires.all ∙ sym (ap (λ b. b.passes) c.self.view_is))
    c.gather-seat.result.id c.gather-seat.result.me c.gather-seat.ensures.all (slots_items c.close_with.result.words) xs c.close_with.ensures.values.2 in
    let same : put ≡ c.args.self.put = ap (λ b. b.put) c.self.view_is in
    let here : Closes g.P.Piece.state g.P.Piece.marked g.P.Piece.gives c.args.self.put c.args.passes.items xs =
    subst (λ (l : List g.row.P.Denot). Closes g.P.Piece.state g.P.Piece.marked g.P.Piece.gives l c.args.passes.items xs) same there in
    here.once

pub returns-clause-ended : goal.returns-clause-ended
returns-clause-ended g c =
    let put : List g.row.P.Denot = c.self.inside.table.shared.key.put.value.items in let xs = slots_items c.close_with.result.slots in
    let there : Closes g.P.Piece.state g.P.Piece.marked g.P.Piece.gives put c.args.passes.items xs =
    closed g.P.Piece.state g.P.Piece.marked g.P.Piece.gives put c.args.passes.items c.self.inside.table.shared.key.passes (c.requires.all ∙ sym (ap (λ b. b.passes) c.self.view_is))
    c.gather-seat.result.id c.gather-seat.result.me c.gather-seat.ensures.all (slots_items c.close_with.result.words) xs c.close_with.ensures.values.2 in
    let same : put ≡ c.args.self.put = ap (λ b. b.put) c.self.view_is in
    let here : Closes g.P.Piece.state g.P.Piece.marked g.P.Piece.gives c.args.self.put c.args.passes.items xs =
    subst (λ (l : List g.row.P.Denot). Closes g.P.Piece.state g.P.Piece.marked g.P.Piece.gives l c.args.passes.items xs) same there in
    subst (λ (l : List g.row.P.Denot). Any (λ (q : PassSeen g.row.P.Denot). q.ended ≡ true) c.args.passes.items → AtEachPlace (λ place piece. IsWorked g.P.Piece.state g.P.Piece.marked g.P.Piece.gives c.args.self.put place piece) l) (sym c.take_out.ensures) here.ended
