use Rattle.std.proofs.Common.{◌≡◌, ◌∙◌, ap, sym, arith}
use Rattle.claim_board.specs.declared.view.View.{View}
use Rattle.claim_board.specs.Steps.{Seated, less_one, first_view}
use Rattle.claim_board.specs.Seen.{PassSeen, new_pass, board_at}
use Rattle.claim_board.proofs.Keeps.{splits}
use Rattle.claim_board.proofs.Lists.{all-more}
use Rattle.claim_board.proofs.Gathers.{fresh-seen}
use Rattle.claim_board.proofs.deal.deal.Goals as goal

pub split_seat-requires : goal.split_seat-requires
split_seat-requires g c = (
  c.loop.invariant.0,
  c.requires.own.1,
  splits g.P.Piece.state g.P.Piece.marked g.P.Piece.gives _ _ _ c.loop.seat.me.0 (omega (arith, c.loop.invariant.3, c.loop-test.true)) (ap (λ (v : View g.row.P.Denot). v.drawn) c.loop.invariant.2),
)

pub loop-preserved : goal.loop-preserved
loop-preserved g c =
    let put = c.args.shared.now.key.put.value.items in let s = c.split_seat.ensures in let v = c.loop.seat.me.0 in
    let view = ap (λ (m : Seated g.row.P.Denot). m.0) s.2 in (
      s.0 ∙ c.loop.invariant.0,
      ap (λ (m : Seated g.row.P.Denot). m.1) s.2 ∙ c.loop.invariant.1,
      view ∙ ap (λ (u : View g.row.P.Denot). less_one u) c.loop.invariant.2 ∙ ap (λ n. first_view put n) (sym (ap (λ (u : View g.row.P.Denot). u.passes) view)),
      omega (arith, ap (λ (u : View g.row.P.Denot). u.passes) view, c.loop.invariant.3, c.loop-test.true),
      omega (arith, c.push_reserved.ensures.len, c.push_reserved.new.self.ok, c.loop.list.ok, c.loop.invariant.4),
      c.push_reserved.ensures.capacity ∙ c.loop.invariant.5,
      all-more (λ (q : PassSeen g.row.P.Denot). q ≡ new_pass (board_at c.args.shared.now.table_id put c.args.passes)) c.loop.list.items c.push_reserved.new.self.items _ c.push_reserved.ensures.items c.loop.invariant.6
          (fresh-seen put c.split_seat.result.table_id c.args.shared.now.table_id c.split_seat.result.me v v.passes c.args.passes (s.3 ∙ c.loop.invariant.0) s.4 c.loop.invariant.2),
    )
