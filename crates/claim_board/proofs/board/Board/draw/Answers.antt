use Rattle.std.proofs.Common.{◌≡◌, ◌<◌, ◌∙◌, ℕ, length, slice_get, slice_index_or, Some, false, ap, sym, subst, arith, rules}
use Rattle.claim_board.specs.Steps.{Seated}
use Rattle.claim_board.specs.Seen.{pass_seen, drew_place, IsPass}
use Rattle.claim_board.specs.declared.slot.Slot.TheVariants.{Holds}
use Rattle.atomic_table.specs.Table.{step}
use mathlib.Core.Option.{none}
use Rattle.claim_board.specs.Counts.{past, times}
use Rattle.claim_board.proofs.Keeps.{draws, piece_at}
use Rattle.claim_board.proofs.Passes.{same-slot, first-of, no-hand, none-past, taken, after-taken, taken-pass, taken-seen, drew-places, drawn-piece, all-below, put-as-put}
use Rattle.claim_board.proofs.board.Board.draw.Goals as goal

pub fetch_add-number-requires : goal.fetch_add-number-requires
fetch_add-number-requires g c =
    let me = c.pass.inside.seat.me in
    let starts : me.0.put ≡ c.self.inside.table.shared.key.put.value.items = ap (λ p. p.put) c.pass.view_is ∙ c.requires.own.1 ∙ sym (ap (λ b. b.put) c.self.view_is) in (
      ap (λ p. p.id) c.pass.view_is ∙ c.requires.own.0 ∙ sym (ap (λ b. b.id) c.self.view_is),
      search rules,
      draws g.P.Piece.state g.P.Piece.marked g.P.Piece.gives _ _ _ _ me (step c.self.inside.table.shared.table_id.slots 0 1 0 none) (search rules) (search rules) c.pass.invariant.one starts
          (subst (λ l. past (length l) me.0.drawn ≡ 0) starts (none-past me _ c.pass.invariant c.if-pass.false)),
    )

pub exchange-slot-requires : goal.exchange-slot-requires
exchange-slot-requires g c =
    let me = c.pass.inside.seat.me in
    let starts : me.0.put ≡ c.self.inside.table.shared.key.put.value.items = ap (λ p. p.put) c.pass.view_is ∙ c.requires.own.1 ∙ sym (ap (λ b. b.put) c.self.view_is) in
    let lt : c.fetch_add-number.result < length me.0.put = omega (arith, ap length starts, c.self.invariant.2, c.from.ensures, c.if-number-from.false) in
    let p = piece_at me.0.put c.fetch_add-number.result lt in
    let told = c.fetch_add-number.ensures in (
      told.0 ∙ ap (λ p. p.id) c.pass.view_is ∙ c.requires.own.0 ∙ sym (ap (λ b. b.id) c.self.view_is),
      (Holds p.0, first-of _ _ _ (told.2.2 p.0 p.1)),
    )

pub unreachable-requires : goal.unreachable-requires
unreachable-requires g c =
    let me = c.pass.inside.seat.me in
    let starts : me.0.put ≡ c.self.inside.table.shared.key.put.value.items = ap (λ p. p.put) c.pass.view_is ∙ c.requires.own.1 ∙ sym (ap (λ b. b.put) c.self.view_is) in
    let lt : c.fetch_add-number.result < length me.0.put = omega (arith, ap length starts, c.self.invariant.2, c.from.ensures, c.if-number-from.false) in
    let p = piece_at me.0.put c.fetch_add-number.result lt in
    c.in_default.not-Holds p.0 (sym (same-slot _ _ _ _ _ _ _ (c.fetch_add-number.ensures.2.2 p.0 p.1) c.exchange-slot.ensures.2))

pub invariant_of-pass-2 : goal.invariant_of-pass-2
invariant_of-pass-2 g c =
    let me = c.pass.inside.seat.me in let n = c.fetch_add-number.result in
    let starts : me.0.put ≡ c.self.inside.table.shared.key.put.value.items = ap (λ p. p.put) c.pass.view_is ∙ c.requires.own.1 ∙ sym (ap (λ b. b.put) c.self.view_is) in
    let lt : n < length me.0.put = omega (arith, ap length starts, c.self.invariant.2, c.from.ensures, c.if-number-from.false) in
    let p = piece_at me.0.put n lt in let told = c.fetch_add-number.ensures.2 in
    let none = no-hand me.1 (ap (λ q. q.held) c.pass.view_is ∙ c.requires.free) in
    let is : c.exchange-slot.new.seat.me ≡ taken me n = after-taken me c.fetch_add-number.new.seat.me c.exchange-slot.new.seat.me n (Holds p.0) told.0 (told.2 p.0 p.1) none c.exchange-slot.ensures.3 in
    subst (λ (m : Seated g.row.P.Denot). IsPass m c.pass.inside.ended) (sym is) (taken-pass me n c.pass.inside.ended c.pass.invariant c.if-pass.false none lt)

pub returns-clause-piece : goal.returns-clause-piece
returns-clause-piece g c =
    let me = c.pass.inside.seat.me in let n = c.fetch_add-number.result in
    let starts : me.0.put ≡ c.args.self.now.put = ap (λ p. p.put) c.pass.view_is ∙ c.requires.own.1 in
    let inside : me.0.put ≡ c.self.inside.table.shared.key.put.value.items = starts ∙ sym (ap (λ b. b.put) c.self.view_is) in
    let lt : n < length me.0.put = omega (arith, ap length inside, c.self.invariant.2, c.from.ensures, c.if-number-from.false) in
    subst (λ l. slice_get l n ≡ Some c.in-Holds.piece) starts
    (drawn-piece (step c.self.inside.table.shared.table_id.slots 0 1 0 none) me c.fetch_add-number.new.seat.me n c.exchange-slot.result c.in-Holds.piece _ c.fetch_add-number.ensures.2 lt c.exchange-slot.ensures.2 c.in-Holds.is)

pub returns-clause-as_put : goal.returns-clause-as_put
returns-clause-as_put g c =
    let unmarked = c.self.invariant.6 in
    put-as-put g.P.Piece.state g.P.Piece.marked c.args.self.now.put c.fetch_add-number.result c.in-Holds.piece
    (subst (λ l. (k : ℕ) (d : g.row.P.Denot) → k < length l → g.P.Piece.marked (slice_index_or l k d) ≡ false) (ap (λ b. b.put) c.self.view_is) unmarked)
    (returns-clause-piece g c)

pub returns-clause-some : goal.returns-clause-some
returns-clause-some g c =
    let me = c.pass.inside.seat.me in let n = c.fetch_add-number.result in
    let starts : me.0.put ≡ c.self.inside.table.shared.key.put.value.items = ap (λ p. p.put) c.pass.view_is ∙ c.requires.own.1 ∙ sym (ap (λ b. b.put) c.self.view_is) in
    let lt : n < length me.0.put = omega (arith, ap length starts, c.self.invariant.2, c.from.ensures, c.if-number-from.false) in
    let p = piece_at me.0.put n lt in let told = c.fetch_add-number.ensures.2 in
    let none = no-hand me.1 (ap (λ q. q.held) c.pass.view_is ∙ c.requires.free) in
    let is : c.exchange-slot.new.seat.me ≡ taken me n = after-taken me c.fetch_add-number.new.seat.me c.exchange-slot.new.seat.me n (Holds p.0) told.0 (told.2 p.0 p.1) none c.exchange-slot.ensures.3 in
    let same : c.exchange-slot.new.seat.table_id ≡ c.pass.inside.seat.table_id = c.exchange-slot.ensures.0 ∙ c.fetch_add-number.ensures.0 in
    (λ i. pass_seen (same i) (is i) c.pass.inside.ended) ∙ taken-seen c.pass.inside.seat.table_id me n c.pass.inside.ended none ∙ ap (λ q. drew_place q n) c.pass.view_is

pub returns-clause-rises : goal.returns-clause-rises
returns-clause-rises g c =
    let me = c.pass.inside.seat.me in
    let none = no-hand me.1 (ap (λ q. q.held) c.pass.view_is ∙ c.requires.free) in
    let drawn : me.0.drawn ≡ c.args.pass.now.drawn = drew-places me c.pass.inside.ended c.pass.invariant c.if-pass.false ∙ ap (λ q. q.drawn) c.pass.view_is in
    all-below c.args.pass.now.drawn c.fetch_add-number.result (subst (λ l. (k : ℕ) → 0 < times k l → k < c.fetch_add-number.result) drawn c.fetch_add-number.ensures.2.1)
