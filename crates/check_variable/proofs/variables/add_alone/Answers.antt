use Rattle.std.proofs.Common.{sym, ap, ◌∙◌}
use Rattle.const_env.specs.Held.{names_in}
use Rattle.check_functions.specs.Growing.{IsKept, kept_in}
use Rattle.check_functions.specs.Known.{all_known, fun_decls}
use Rattle.check_variable.specs.Views.{var_decl}
use Rattle.check_given.specs.Given.{all_given, spot_of}
use Rattle.check_variable.proofs.Alone.{declares_alone}
use Rattle.check_variable.proofs.variables.add_alone.Goals as goal

pub returns-clause-declares : goal.returns-clause-declares
returns-clause-declares c =
    let kept : IsKept (kept_in c.args.names.now) (fun_decls c.args.told.funs.now) (all_known c.args.so_far.now.known.items) = c.requires.names in
    declares_alone c.calls_alone_need_functions.ensures.types c.calls_alone_need_functions.ensures.starts c.add_over.result c.args.so_far.now c.add_over.new.so_far
    (var_decl c.args.x) (all_given c.args.told.given.now) (spot_of c.args.told.owner) (fun_decls c.args.told.funs.now) (names_in c.alone.result.now)
    c.requires.whole (ap names_in c.alone.ensures ∙ kept.alone) (sym c.needs_functions.ensures ∙ c.if-needs_functions.false) c.add_over.ensures.declares
