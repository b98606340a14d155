use Rattle.std.proofs.Common.{◌≡◌, subst, rules}
use Rattle.const_env.specs.Held.{names_in}
use Rattle.cal_check.specs.Variables.{seen}
use Rattle.check_functions.specs.Alike.{SeeAlike}
use Rattle.check_functions.specs.Known.{all_known, fun_decls}
use Rattle.check_variable.specs.Views.{var_decl}
use Rattle.check_given.specs.Given.{all_given, spot_of}
use Rattle.check_variable.proofs.Alone.{declares_seen, seen_alike}
use Rattle.check_variable.proofs.variables.add_calling.Goals as goal

pub returns-clause-declares : goal.returns-clause-declares
returns-clause-declares c =
    let fs = fun_decls c.args.told.funs.now in
    let same : c.deref.result.now ≡ c.args.so_far.now.known.items = search rules in
    declares_seen c.alike_names_suffice.ensures.types c.alike_names_suffice.ensures.starts c.add_over.result c.args.so_far.now c.add_over.new.so_far
    (var_decl c.args.x) (all_given c.args.told.given.now) (spot_of c.args.told.owner) fs (names_in c.seen.result.now) c.requires.whole
    (subst (λ ks. SeeAlike (names_in c.seen.result.now) (seen fs (all_known ks))) same
    (seen_alike c.make.new.self.seen c.seen.result.now (seen fs (all_known c.deref.result.now)) c.seen.ensures c.in-Ok.ensures.alike)) c.add_over.ensures.declares
