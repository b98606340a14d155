use Rattle.std.proofs.Common.{◌≡◌, drop}
use Rattle.check_functions.specs.Known.{fun_decls, names_differ}
use Rattle.check_functions.proofs.declared.names_differ.Given as goal

abbrev pub invariant-loop-f : goal.invariant-loop-f
invariant-loop-f l = record {
  place : l.behind ≡ l.f-index;
  same : names_differ (fun_decls (drop l.f-index l.funs)) ≡ names_differ (fun_decls l.funs);
}
