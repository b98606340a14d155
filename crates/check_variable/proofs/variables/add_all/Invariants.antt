use Rattle.std.proofs.Common.{List, drop}
use Rattle.cal_check.specs.Variables.{VarDecl, Valued}
use Rattle.check_functions.specs.Known.{fun_decls}
use Rattle.check_variable.specs.Views.{var_decls}
use Rattle.check_given.specs.Given.{all_given, spot_of}
use Rattle.check_variable.specs.Valuing.{AreSeen, IsValued}
use Rattle.check_variable.proofs.Adding.{AreAdded}
use Rattle.check_variable.proofs.variables.add_all.Given as goal

abbrev pub invariant-loop-x : goal.invariant-loop-x
invariant-loop-x l = record {
  added : (xs : List VarDecl) (vs : Valued) → IsValued xs l.initial.so_far vs
      → AreAdded (var_decls (drop l.x-index l.vars)) (var_decls l.vars) (all_given l.told.given.now) (spot_of l.told.owner) (fun_decls l.told.funs.now) l.so_far xs vs;
  names : AreSeen l.names (fun_decls l.told.funs.now) l.so_far;
}
