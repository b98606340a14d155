use Rattle.std.proofs.Common.{◌≡◌, false, rules}
use Rattle.check_functions.specs.Known.{fun_decls}
use Rattle.check_variable.specs.Views.{var_decl}
use Rattle.check_given.specs.Given.{all_given, spot_of}
use Rattle.check_variable.proofs.Adding.{not_whole}
use Rattle.check_variable.proofs.variables.add_variable.Goals as goal

pub returns-then-not-so_far-clause-declares : goal.returns-then-not-so_far-clause-declares
returns-then-not-so_far-clause-declares c = λ xs vs h.
    let none : c.args.so_far.now.whole ≡ false = search rules in
    not_whole c.args.so_far.now xs (var_decl c.args.x) (all_given c.args.told.given.now) (spot_of c.args.told.owner) (fun_decls c.args.told.funs.now) vs none h
