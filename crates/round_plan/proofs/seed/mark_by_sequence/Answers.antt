use Rattle.std.proofs.Common.{◌≡◌, ◌+◌, false, length, sym, ap, ◌∙◌, arith}
use Rattle.std.proofs.lemmas.List.Edits.{fill_by_more}
use Rattle.std.proofs.lemmas.List.FromFn.{fill_by_all}
use Rattle.rvc_base.specs.Picks.{number_after, number_at, has_highest_bit}
use Rattle.round_plan.proofs.Sequence.{number_at-zero, number_at-more}
use Rattle.round_plan.proofs.seed.mark_by_sequence.Goals as goal

pub loop-k-init : goal.loop-k-init
loop-k-init c = record { number = sym (number_at-zero c.args.last); marks = λ k below. absurd (omega arith) }

pub loop-k-preserved : goal.loop-k-preserved
loop-k-preserved c =
    let next : c.next_number-number.result ≡ number_at c.args.last (c.loop-k.k + 1) =
    c.next_number-number.ensures ∙ ap number_after c.loop-k.invariant.number ∙ sym (number_at-more c.args.last c.loop-k.k) in
    record { number = next; marks = rw next (fill_by_more (λ k. has_highest_bit (number_at c.args.last (k + 1))) c.loop-k.picked c.loop-k.k false (omega arith) c.loop-k.invariant.marks) }

pub returns-clause-marks : goal.returns-clause-marks
returns-clause-marks c =
    fill_by_all (λ k. has_highest_bit (number_at c.args.last (k + 1))) c.loop-k.picked (length c.args.picked.now) false (omega arith) (λ k within. c.loop-k.invariant.marks k (omega arith))
