use Rattle.std.proofs.Common.{◌≡◌, ◌≢◌, ℕ, ◌<◌, ◌+◌, ◌++◌, ◌∷◌, ◌∙◌, [], List, length, take, false, get_or, ap, sym, refl, subst, get_or-set_other, get_or-set_same, arith}
use mathlib.Core.Logic.{dite}
use native.Mathlib.Decide.{ℕ_discrete}
use Rattle.std.specs.Mem.Slots.{slots_items, slots_filled, slots_len}
use Rattle.claim_board.specs.declared.slot.Slot.{Slot}
use Rattle.claim_board.specs.Layout.{pieces_of}
use Rattle.claim_board.proofs.Keeps.{piece_at}
use Rattle.claim_board.proofs.Passes.{same-held}
use Rattle.claim_board.proofs.Slots.{room-of, room-is, laid-room, laid-length, laid-piece, take-more}
use Rattle.claim_board.proofs.layout.take_out.Goals as goal

pub unreachable-requires : goal.unreachable-requires
unreachable-requires g c =
    let laid = c.requires.laid in
    let is = laid-room (pieces_of (slots_items c.args.closed.slots)) (slots_items c.args.closed.slots) c.take.result c.args.places laid c.requires.places c.take.ensures.value in
    let room = room-is (length (pieces_of (slots_items c.args.closed.slots))) laid.0 laid.2 in
    c.in_default.not-Room room.0 (is ∙ room.1)

pub loop-place-init : goal.loop-place-init
loop-place-init g c =
    let ps : List g.row.P.Denot = pieces_of (slots_items c.args.closed.slots) in let laid = c.requires.laid in let told = c.take.ensures.others in
    let is = laid-room ps (slots_items c.args.closed.slots) c.take.result c.args.places laid c.requires.places c.take.ensures.value in
    let room = room-of (length ps) laid.0 c.in-Room.pieces laid.2 (sym is ∙ c.in-Room.is) in
    let long : slots_len c.args.closed.slots ≡ c.args.places + 1 = omega (arith, c.args.closed.slots.ok, laid-length ps (slots_items c.args.closed.slots) laid, c.requires.places) in (
      refl,
      refl,
      (λ k le lt. ap (λ fs. get_or fs k false) told.1 ∙ get_or-set_other (slots_filled c.args.closed.slots) c.args.places k false false (omega arith) ∙ c.requires.full.1 k (omega arith) (omega (arith, long))),
      (λ k lt. absurd (omega arith)),
      ap (λ fs. get_or fs c.args.places false) told.1 ∙ get_or-set_same (slots_filled c.args.closed.slots) c.args.places false false (omega (arith, long, c.args.closed.slots.ok)),
      room.0,
      omega (arith, room.1, c.requires.places),
    )

pub take-requires-in-loop-place : goal.take-requires-in-loop-place
take-requires-in-loop-place g c =
    let ps : List g.row.P.Denot = pieces_of (slots_items c.args.closed.slots) in
    let long : slots_len c.args.closed.slots ≡ c.args.places + 1 = omega (arith, c.args.closed.slots.ok, laid-length ps (slots_items c.args.closed.slots) c.requires.laid, c.requires.places) in
    (omega (arith, c.loop-place.invariant.1, c.take.ensures.others.2, long, c.loop-place-test.true), c.loop-place.invariant.2 c.loop-place.place (omega arith) c.loop-place-test.true)

pub unreachable-requires-in_default-take : goal.unreachable-requires-in_default-take
unreachable-requires-in_default-take g c =
    let ps : List g.row.P.Denot = pieces_of (slots_items c.args.closed.slots) in
    let p = piece_at ps c.loop-place.place (omega (arith, c.loop-place-test.true, c.requires.places)) in
    let same : slots_items c.loop-place.closed.slots ≡ slots_items c.args.closed.slots = c.loop-place.invariant.0 ∙ c.take.ensures.others.0 in
    c.in_default-take.not-Holds p.0 (laid-piece ps (slots_items c.args.closed.slots) (slots_items c.loop-place.closed.slots) c.take-in-loop-place.result c.loop-place.place p.0 c.requires.laid same c.take-in-loop-place.ensures.value p.1)

pub loop-place-preserved : goal.loop-place-preserved
loop-place-preserved g c =
    let ps : List g.row.P.Denot = pieces_of (slots_items c.args.closed.slots) in let told = c.take-in-loop-place.ensures.others in let inv = c.loop-place.invariant in
    let n : ℕ = c.loop-place.place in
    let p = piece_at ps n (omega (arith, c.loop-place-test.true, c.requires.places)) in
    let same : slots_items c.loop-place.closed.slots ≡ slots_items c.args.closed.slots = inv.0 ∙ c.take.ensures.others.0 in
    let is = laid-piece ps (slots_items c.args.closed.slots) (slots_items c.loop-place.closed.slots) c.take-in-loop-place.result n p.0 c.requires.laid same c.take-in-loop-place.ensures.value p.1 in
    let piece : p.0 ≡ c.in-Holds.piece = same-held p.0 c.in-Holds.piece (sym is ∙ c.in-Holds.is) in
    let long : slots_len c.args.closed.slots ≡ c.args.places + 1 = omega (arith, c.args.closed.slots.ok, laid-length ps (slots_items c.args.closed.slots) c.requires.laid, c.requires.places) in
    let within : n < length (slots_filled c.loop-place.closed.slots) = omega (arith, c.loop-place.closed.slots.ok, inv.1, c.take.ensures.others.2, long, c.loop-place-test.true) in
    let other : (k : ℕ) → k ≢ n → get_or (slots_filled c.take-in-loop-place.new.self.slots) k false ≡ get_or (slots_filled c.loop-place.closed.slots) k false =
    λ k ne. ap (λ fs. get_or fs k false) told.1 ∙ get_or-set_other (slots_filled c.loop-place.closed.slots) n k false false ne in (
      told.0 ∙ inv.0,
      told.2 ∙ inv.1,
      (λ k le lt. other k (omega arith) ∙ inv.2 k (omega arith) lt),
      (λ k lt. dite (ℕ_discrete k n)
          (λ e. subst (λ m. get_or (slots_filled c.take-in-loop-place.new.self.slots) m false ≡ false) (sym e) (ap (λ fs. get_or fs n false) told.1 ∙ get_or-set_same (slots_filled c.loop-place.closed.slots) n false false within))
          (λ ne. other k ne ∙ inv.3 k (omega (arith, ne)))),
      other c.args.places (omega (arith, c.loop-place-test.true)) ∙ inv.4,
      c.push_reserved.ensures.items ∙ ap (λ (l : List g.row.P.Denot). l ++ c.in-Holds.piece ∷ []) (inv.5 ∙ ap (λ (xs : List (Slot g.row.P.Denot)). take n (pieces_of xs)) c.take.ensures.others.0)
          ∙ ap (λ (q : g.row.P.Denot). take n ps ++ q ∷ []) (sym piece) ∙ sym (take-more ps n p.0 p.1) ∙ ap (λ (xs : List (Slot g.row.P.Denot)). take (n + 1) (pieces_of xs)) (sym c.take.ensures.others.0),
      omega (arith, c.push_reserved.ensures.capacity, inv.6),
    )

pub free-requires : goal.free-requires
free-requires g c k lt =
    let ps : List g.row.P.Denot = pieces_of (slots_items c.args.closed.slots) in
    let long : slots_len c.args.closed.slots ≡ c.args.places + 1 = omega (arith, c.args.closed.slots.ok, laid-length ps (slots_items c.args.closed.slots) c.requires.laid, c.requires.places) in
    let few : k < c.args.places + 1 = omega (arith, lt, c.loop-place.invariant.1, c.take.ensures.others.2, long) in
    dite (ℕ_discrete k c.args.places)
    (λ e. subst (λ m. get_or (slots_filled c.loop-place.closed.slots) m false ≡ false) (sym e) c.loop-place.invariant.4)
    (λ ne. c.loop-place.invariant.3 k (omega (arith, ne, few, c.loop-place-test.false)))
