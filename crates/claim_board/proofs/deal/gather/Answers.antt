use Rattle.std.proofs.Common.{◌≡◌, ◌++◌, ◌∷◌, ◌∙◌, [], List, None, ap, sym, subst, append-nil, append_assoc, arith}
use Rattle.atomic_table.specs.Seated.{TableId}
use Rattle.claim_board.specs.Seen.{PassSeen, Gathered}
use Rattle.claim_board.specs.Steps.{Seated}
use Rattle.claim_board.proofs.Keeps.{joins}
use Rattle.claim_board.proofs.Lists.{all-last, nil-of, none-case}
use Rattle.claim_board.proofs.Passes.{no-hand}
use Rattle.claim_board.proofs.Gathers.{gathered-one, gathered-more}
use Rattle.claim_board.proofs.deal.gather.Goals as goal

abbrev Own : {P : Type 0} → TableId → List P → PassSeen P → Type 0
Own id put pass = (pass.id ≡ id) × (pass.put ≡ put)

abbrev Free : {P : Type 0} → PassSeen P → Type 0
Free pass = pass.held ≡ None

pub loop-pass-init : goal.loop-pass-init
loop-pass-init g c =
    let own = all-last (Own {P = g.row.P.Denot} c.args.shared.now.table_id c.args.shared.now.key.put.value.items) c.args.passes.items c.pop.new.self.items c.in-Some.pass c.in-Some.ensures.items c.requires.own in
    let free = all-last (Free {P = g.row.P.Denot}) c.args.passes.items c.pop.new.self.items c.in-Some.pass c.in-Some.ensures.items c.requires.free in
    let seat = c.into_seat-seat.ensures in (
      ap (λ (q : PassSeen g.row.P.Denot). q.id) seat.1 ∙ own.0.0,
      own.1,
      free.1,
      omega (arith, seat.2.one),
      ([], sym (append-nil c.pop.new.self.items), λ before known. known),
    )

pub join_seat-requires : goal.join_seat-requires
join_seat-requires g c =
    let own = all-last (Own {P = g.row.P.Denot} c.args.shared.now.table_id c.args.shared.now.key.put.value.items) c.loop-pass.passes.items c.pop-in-loop-pass.new.self.items c.in-Some-pop.pass c.in-Some-pop.ensures.items c.loop-pass.invariant.1 in
    let free = all-last (Free {P = g.row.P.Denot}) c.loop-pass.passes.items c.pop-in-loop-pass.new.self.items c.in-Some-pop.pass c.in-Some-pop.ensures.items c.loop-pass.invariant.2 in
    let other = c.into_seat-other.ensures in (
      c.loop-pass.invariant.0,
      ap (λ (q : PassSeen g.row.P.Denot). q.id) other.1 ∙ own.0.0,
      no-hand c.into_seat-other.result.me.1 (ap (λ (q : PassSeen g.row.P.Denot). q.held) other.1 ∙ free.0),
      c.requires.words,
      joins g.P.Piece.state g.P.Piece.marked g.P.Piece.gives _ _ _ _ _ _ c.loop-pass.invariant.3,
    )

pub loop-pass-preserved : goal.loop-pass-preserved
loop-pass-preserved g c =
    let put = c.args.shared.now.key.put.value.items in let x = c.in-Some-pop.pass in let rest = c.pop-in-loop-pass.new.self.items in
    let own = all-last (Own {P = g.row.P.Denot} c.args.shared.now.table_id put) c.loop-pass.passes.items rest x c.in-Some-pop.ensures.items c.loop-pass.invariant.1 in
    let free = all-last (Free {P = g.row.P.Denot}) c.loop-pass.passes.items rest x c.in-Some-pop.ensures.items c.loop-pass.invariant.2 in
    let one = gathered-one put c.into_seat-other.result.table_id c.into_seat-other.result.me x c.into_seat-other.ensures own.0.1 free.0 in
    let inv = c.loop-pass.invariant.4 in (
      c.join_seat.ensures.0 ∙ c.loop-pass.invariant.0,
      own.1,
      free.1,
      omega (arith, c.loop-pass.invariant.3, ap (λ (m : Seated g.row.P.Denot). m.0.passes) c.join_seat.ensures.2),
      (
        x ∷ inv.0,
        inv.1 ∙ ap (λ (l : List (PassSeen g.row.P.Denot)). l ++ inv.0) c.in-Some-pop.ensures.items ∙ append_assoc rest (x ∷ []) inv.0,
        λ before known. gathered-more put x (inv.0 ++ before) c.loop-pass.seat.me c.into_seat-other.result.me c.join_seat.new.seat.me one (inv.2 before known) c.join_seat.ensures.2,
      ),
    )

pub returns-clause-all : goal.returns-clause-all
returns-clause-all g c =
    let put = c.args.shared.now.key.put.value.items in let x = c.in-Some.pass in
    let own = all-last (Own {P = g.row.P.Denot} c.args.shared.now.table_id put) c.args.passes.items c.pop.new.self.items x c.in-Some.ensures.items c.requires.own in
    let free = all-last (Free {P = g.row.P.Denot}) c.args.passes.items c.pop.new.self.items x c.in-Some.ensures.items c.requires.free in
    let one = gathered-one put c.into_seat-seat.result.table_id c.into_seat-seat.result.me x c.into_seat-seat.ensures own.0.1 free.0 in
    let inv = c.loop-pass.invariant.4 in
    let empty : c.loop-pass.passes.items ≡ [] = nil-of c.loop-pass.passes.items (omega (arith, (none-case _ c.pop-in-loop-pass.result c.in_default-pop.not-Some c.pop-in-loop-pass.ensures.cases).0)) in
    let all : inv.0 ++ x ∷ [] ≡ c.args.passes.items = ap (λ (l : List (PassSeen g.row.P.Denot)). l ++ x ∷ []) (sym (inv.1 ∙ ap (λ (l : List (PassSeen g.row.P.Denot)). l ++ inv.0) empty)) ∙ sym c.in-Some.ensures.items in
    subst (λ (l : List (PassSeen g.row.P.Denot)). Gathered put l c.loop-pass.seat.me) all (inv.2 (x ∷ []) one)
