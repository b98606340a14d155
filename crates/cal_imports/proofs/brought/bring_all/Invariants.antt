use Rattle.std.proofs.Common.{◌≡◌, map, length}
use Rattle.cal_scope.specs.Meanings.{global_of}
use Rattle.cal_imports.specs.Brought.{with_all_brought}
use Rattle.cal_imports.proofs.brought.bring_all.Given as goal

abbrev pub invariant-entries : goal.invariant-entries
invariant-entries l = with_all_brought (map global_of l.rest) l.at l.names ≡ with_all_brought (map global_of l.initial.rest) l.initial.at l.initial.names

abbrev pub decreases-entries : goal.decreases-entries
decreases-entries l = length l.rest
