use Rattle.std.proofs.Common.{◌≡◌}
use Rattle.check_functions.specs.Known.{fun_decls}
use Rattle.check_functions.proofs.Telling.{AreSaidBefore}
use Rattle.check_functions.proofs.said.add_all_said.Given as goal

abbrev pub invariant-loop-f : goal.invariant-loop-f
invariant-loop-f l = record {
  place : l.place ≡ l.f-index;
  said : AreSaidBefore l.f-index (fun_decls l.funs) l.said;
}
