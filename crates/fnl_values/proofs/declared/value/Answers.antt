use Rattle.cal_ast.specs.View.{optional_expr}
use Rattle.cal_check.specs.Variables.{come, found_in, param_broken}
use Rattle.cal_model.specs.View.{shape_view, value_view}
use Rattle.const_env.specs.Held.{names_in}
use Rattle.fnl_bind.specs.Library.{var_decl}
use Rattle.fnl_frames.specs.Views.{decl_of}
use Rattle.fnl_values.proofs.Faults.{cause_in_first}
use Rattle.fnl_values.proofs.Known.{comes_of}
use Rattle.fnl_values.proofs.Starts.{start_refuses}
use Rattle.check_given.specs.Given.{all_given, spot_of}
use Rattle.fnl_values.proofs.declared.value.Goals as goal

pub returns-in-Err-clause-comes : goal.returns-in-Err-clause-comes
returns-in-Err-clause-comes c =
    let start = come (shape_view c.args.t.now) (optional_expr c.args.decl.now.value) (names_in c.args.env.now) in
    cause_in_first c.in_file.result (found_in c.args.told.file start.breaks)
    (param_broken (var_decl c.args.told.file (decl_of c.args.decl.now)) (all_given c.args.told.given.now) (spot_of c.args.told.owner) (shape_view c.args.t.now))
    (c.in_file.ensures start.breaks (start_refuses c.in-Err.fault start c.in-Err.ensures.starts))

pub returns-clause-comes : goal.returns-clause-comes
returns-clause-comes c =
    comes_of c.value_of.result (var_decl c.args.told.file (decl_of c.args.decl.now)) (all_given c.args.told.given.now) (spot_of c.args.told.owner) (shape_view c.args.t.now) (names_in c.args.env.now) (value_view c.in-Ok.start)
    c.in-Ok.ensures.starts (c.value_of.ensures.settles c.args.told.file)
