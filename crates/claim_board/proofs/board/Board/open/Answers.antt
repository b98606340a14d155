use Rattle.std.proofs.Common.{◌≡◌, ◌∙◌, List, Vec, Global, ap, sym, subst}
use Rattle.claim_board.specs.declared.slot.Slot.{Slot}
use Rattle.claim_board.specs.Layout.{IsLaidOut, pieces_of}
use Rattle.claim_board.proofs.Opens.{opens}
use Rattle.claim_board.proofs.Slots.{laid-pieces}
use Rattle.claim_board.proofs.board.Board.open.Goals as goal

pub new-requires : goal.new-requires
new-requires g c =
    opens g.P.Piece.state g.P.Piece.marked g.P.Piece.gives c.of.result.value.items c.args.passes c.lay_out.result.items c.requires.some_pass
    (subst (λ (v : Vec g.row.P.Denot Global). IsLaidOut v.items c.lay_out.result.items) (sym c.of.ensures) c.lay_out.ensures)

pub take_back-requires : goal.take_back-requires
take_back-requires g c =
    let same : c.in-Err.field-0.slots.items ≡ c.lay_out.result.items = c.in-Err.ensures.err in
    subst (λ (l : List (Slot g.row.P.Denot)). IsLaidOut (pieces_of l) l) (sym same)
    (subst (λ (l : List g.row.P.Denot). IsLaidOut l c.lay_out.result.items) (sym (laid-pieces c.args.pieces.items c.lay_out.result.items c.lay_out.ensures)) c.lay_out.ensures)

pub returns-in-Err-clause-no_board : goal.returns-in-Err-clause-no_board
returns-in-Err-clause-no_board g c =
    let same : c.in-Err.field-0.slots.items ≡ c.lay_out.result.items = c.in-Err.ensures.err in
    c.take_back.ensures ∙ ap (λ (l : List (Slot g.row.P.Denot)). pieces_of l) same ∙ laid-pieces c.args.pieces.items c.lay_out.result.items c.lay_out.ensures
