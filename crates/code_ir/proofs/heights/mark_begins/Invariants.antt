use Rattle.std.proofs.Common.{◌≡◌, ℕ, true, take, []}
use Rattle.code_ir.specs.Code.{is_among}
use Rattle.code_ir.specs.Heights.{Grows, IsMarked}
use Rattle.code_ir.proofs.heights.mark_begins.Given as goal

abbrev pub invariant-loop-place : goal.invariant-loop-place
invariant-loop-place l = record {
  grows : Grows (λ q k. (k ≡ 0) × (is_among q l.places ≡ true)) l.initial.heights.items l.heights.items [] l.work.items;
  begun : (q : ℕ) → is_among q (take l.place-index l.places) ≡ true → IsMarked l.heights.items q 0;
}
