use Rattle.std.proofs.Common.{◌≡◌, None, length}
use Rattle.cal_model.specs.Sound.{Each}
use Rattle.check_member.proofs.targets.empty_table.Given as goal

abbrev pub invariant-loop-place : goal.invariant-loop-place
invariant-loop-place l = record { size : length l.table.items ≡ l._place; none : Each (λ x. x ≡ None) l.table.items }
