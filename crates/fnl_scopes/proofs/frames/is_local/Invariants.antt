use Rattle.std.proofs.Common.{◌≡◌}
use Rattle.fnl_bind.specs.Library.{is_among}
use Rattle.fnl_scopes.specs.View.{local_names}
use Rattle.fnl_scopes.proofs.frames.is_local.Given as goal

abbrev pub invariant-outwards : goal.invariant-outwards
invariant-outwards l = is_among l.name (local_names l.at) ≡ is_among l.name (local_names l.initial.at)
