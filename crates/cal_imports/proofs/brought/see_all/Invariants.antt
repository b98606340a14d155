use Rattle.std.proofs.Common.{◌≡◌, map, length}
use Rattle.cal_scope.specs.Meanings.{global_of}
use Rattle.cal_imports.specs.Brought.{with_seen}
use Rattle.cal_imports.proofs.brought.see_all.Given as goal

abbrev pub invariant-entries : goal.invariant-entries
invariant-entries l = with_seen (map global_of l.rest) l.names ≡ with_seen (map global_of l.initial.rest) l.initial.names

abbrev pub decreases-entries : goal.decreases-entries
decreases-entries l = length l.rest
