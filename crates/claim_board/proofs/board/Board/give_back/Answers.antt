use Rattle.std.proofs.Common.{◌≡◌, ◌<◌, ◌∷◌, [], ◌∙◌, List, ℕ, length, ap, sym, subst, arith, rules}
use mathlib.Core.Option.{none}
use Rattle.atomic_table.specs.Table.{step, rest}
use Rattle.claim_board.specs.declared.slot.Slot.{Slot}
use Rattle.claim_board.specs.declared.slot.Slot.TheVariants.{Holds}
use Rattle.claim_board.specs.declared.view.View.{View}
use Rattle.claim_board.specs.Pieces.{IsWorked}
use Rattle.claim_board.specs.Counts.{times}
use Rattle.claim_board.specs.Steps.{Seated}
use Rattle.claim_board.proofs.Keeps.{brings-home}
use Rattle.claim_board.proofs.Passes.{first-of, one-hand, held-drawn}
use Rattle.claim_board.proofs.board.Board.give_back.Goals as goal

pub exchange-requires : goal.exchange-requires
exchange-requires g c =
    let me = c.pass.inside.seat.me in
    let hand = one-hand me.1 c.args.place c.pass.invariant.hand (ap (λ q. q.held) c.pass.view_is ∙ c.requires.held) in (
      ap (λ p. p.id) c.pass.view_is ∙ c.requires.own.0 ∙ sym (ap (λ b. b.id) c.self.view_is),
      (hand.0, first-of me.1 _ _ hand.1),
    )

pub fetch_add-requires : goal.fetch_add-requires
fetch_add-requires g c =
    let me = c.pass.inside.seat.me in
    let hand = one-hand me.1 c.args.place c.pass.invariant.hand (ap (λ q. q.held) c.pass.view_is ∙ c.requires.held) in
    let put : c.args.self.now.put ≡ c.self.inside.table.shared.key.put.value.items = sym (ap (λ b. b.put) c.self.view_is) in
    let starts : me.0.put ≡ c.self.inside.table.shared.key.put.value.items = ap (λ p. p.put) c.pass.view_is ∙ c.requires.own.1 ∙ put in
    let held = held-drawn me c.pass.inside.ended c.args.place hand.0 c.pass.invariant hand.1 in
    let is = c.exchange.ensures.3 in
    let now : c.exchange.new.seat.me.1 ≡ (c.args.place, Holds c.args.piece) ∷ [] = ap (λ (m : Seated g.row.P.Denot). m.1) is ∙ ap (λ (l : List (ℕ × Slot g.row.P.Denot)). (c.args.place, Holds c.args.piece) ∷ rest l) hand.1 in
    let view : c.exchange.new.seat.me.0 ≡ me.0 = ap (λ (m : Seated g.row.P.Denot). m.0) is in (
      c.exchange.ensures.0 ∙ ap (λ p. p.id) c.pass.view_is ∙ c.requires.own.0 ∙ sym (ap (λ b. b.id) c.self.view_is),
      search rules,
      brings-home g.P.Piece.state g.P.Piece.marked g.P.Piece.gives _ _ _ _ c.exchange.new.seat.me (step c.self.inside.table.shared.table_id.slots 0 0 0 none) c.args.place c.args.piece now
          (omega (arith, held.0, ap length starts)) (subst (λ (v : View g.row.P.Denot). times c.args.place v.home < times c.args.place v.drawn) (sym view) held.1)
          (subst (λ l. IsWorked g.P.Piece.state g.P.Piece.marked g.P.Piece.gives l c.args.place c.args.piece) put c.requires.worked),
    )
