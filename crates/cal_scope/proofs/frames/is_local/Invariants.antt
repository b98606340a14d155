use Rattle.std.proofs.Common.{◌≡◌}
use Rattle.cal_scope.specs.Names.{is_among}
use Rattle.cal_scope.specs.View.{local_names}
use Rattle.cal_scope.proofs.frames.is_local.Given as goal

abbrev pub invariant-outwards : goal.invariant-outwards
invariant-outwards l = is_among l.name (local_names l.at) ≡ is_among l.name (local_names l.initial.at)
