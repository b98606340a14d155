use Rattle.std.proofs.Common.{◌≡◌, ◌∙◌, List, length, reverse, ap, sym, arith}
use Rattle.claim_board.specs.declared.slot.Slot.{Slot}
use Rattle.claim_board.specs.Layout.{holding, pieces_of}
use Rattle.claim_board.proofs.Slots.{last-of, room-of, pours-start, pours-more, pours-holds, pours-end, pieces_of-all, reverse-twice, held-length}
use Rattle.claim_board.proofs.Lists.{none-case}
use Rattle.claim_board.proofs.layout.take_back.Goals as goal

pub loop-slot-init : goal.loop-slot-init
loop-slot-init g c =
    let ps : List g.row.P.Denot = pieces_of c.args.slots.items in
    let both = last-of (holding ps) c.pop.new.self.items c.requires.0 c.in-Some-Room.field-0 (sym c.requires.1 ∙ c.in-Some-Room.ensures.items) in
    let room = room-of (length ps) c.requires.0 c.in-Some-Room.pieces c.requires.2 (both.1 ∙ c.in-Some-Room.field-0-is) in
    let order : reverse c.reverse.new.self.items ≡ holding ps = ap (λ (l : List (Slot g.row.P.Denot)). reverse l) c.reverse.ensures.items ∙ reverse-twice c.pop.new.self.items ∙ sym both.0 in (
      pours-start c.reverse.new.self.items ps c.in-Some-Room.pieces.items order room.0,
      omega (arith, room.1, ap (λ (l : List g.row.P.Denot). length l) room.0, c.in-Some-Room.pieces.ok, c.reverse.ensures.len, ap (λ (l : List (Slot g.row.P.Denot)). length l) both.0, c.pop.new.self.ok, held-length ps),
    )

pub loop-slot-preserved : goal.loop-slot-preserved
loop-slot-preserved g c = (
  pours-more c.loop-slot.slots.items c.pop-in-loop-slot.new.self.items c.in-Some.slot c.loop-slot.pieces.items c.push_reserved.new.self.items (pieces_of (reverse c.reverse.new.self.items)) c.in-Holds.piece
      c.in-Some.ensures.items c.in-Holds.is c.push_reserved.ensures.items c.loop-slot.invariant.0,
  omega (arith, c.loop-slot.invariant.1, c.push_reserved.ensures.len, c.push_reserved.ensures.capacity, c.in-Some.ensures.len),
)

pub unreachable-requires-in_default-slot : goal.unreachable-requires-in_default-slot
unreachable-requires-in_default-slot g c =
    let h = pours-holds c.loop-slot.slots.items c.pop-in-loop-slot.new.self.items c.in-Some.slot c.loop-slot.pieces.items (pieces_of (reverse c.reverse.new.self.items)) c.in-Some.ensures.items c.loop-slot.invariant.0 in
    c.in_default-slot.not-Holds h.0 h.1

pub returns : goal.returns
returns g c =
    let ps : List g.row.P.Denot = pieces_of c.args.slots.items in
    let both = last-of (holding ps) c.pop.new.self.items c.requires.0 c.in-Some-Room.field-0 (sym c.requires.1 ∙ c.in-Some-Room.ensures.items) in
    let order : reverse c.reverse.new.self.items ≡ holding ps = ap (λ (l : List (Slot g.row.P.Denot)). reverse l) c.reverse.ensures.items ∙ reverse-twice c.pop.new.self.items ∙ sym both.0 in
    pours-end c.loop-slot.slots.items c.loop-slot.pieces.items (pieces_of (reverse c.reverse.new.self.items)) (omega (arith, (none-case _ c.pop-in-loop-slot.result c.in_default-pop.not-Some c.pop-in-loop-slot.ensures.cases).0)) c.loop-slot.invariant.0
    ∙ ap (λ (l : List (Slot g.row.P.Denot)). pieces_of l) order ∙ pieces_of-all ps
