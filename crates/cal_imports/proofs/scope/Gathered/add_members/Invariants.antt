use Rattle.std.proofs.Common.{◌≡◌, length}
use Rattle.cal_scope.specs.Asked.{members_tree}
use Rattle.cal_imports.specs.ScopeView.{gathered_view}
use Rattle.cal_imports.specs.Whole.{with_declarations}
use Rattle.cal_imports.proofs.scope.Gathered.add_members.Given as goal

abbrev pub invariant-members : goal.invariant-members
invariant-members l = with_declarations l.class l.file (members_tree l.rest) (gathered_view l.self) ≡ with_declarations l.initial.class l.initial.file (members_tree l.initial.rest) (gathered_view l.initial.self)

abbrev pub decreases-members : goal.decreases-members
decreases-members l = length l.rest
