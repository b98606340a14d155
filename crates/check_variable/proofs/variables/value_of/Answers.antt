use Rattle.cal_ast.specs.Places.{begins}
use Rattle.cal_ast.specs.View.{optional_expr}
use Rattle.cal_check.specs.Variables.{come, found_in, param_broken}
use Rattle.cal_check.specs.Violations.{said}
use Rattle.cal_model.specs.View.{shape_view}
use Rattle.const_env.specs.Held.{names_in}
use Rattle.check_variable.specs.Valuing.{said_of}
use Rattle.check_variable.specs.Views.{var_decl}
use Rattle.check_given.specs.Given.{all_given, spot_of}
use Rattle.check_variable.proofs.Faults.{cause_in_first}
use Rattle.check_variable.proofs.Starts.{start_refuses, start_says}
use Rattle.check_variable.proofs.variables.value_of.Goals as goal

pub returns-in-Err : goal.returns-in-Err
returns-in-Err c =
    let start = come (shape_view c.args.t.now) (optional_expr c.args.x.start.now) (names_in c.args.env.now) in
    let at = begins (optional_expr c.args.x.start.now) in
    let fault = c.in-Err.ensures start at c.start.ensures in (
      cause_in_first c.in_file.result (found_in c.args.x.file (said c.args.useless start.breaks))
          (param_broken (var_decl c.args.x) (all_given c.args.told.given.now) (spot_of c.args.told.owner) (shape_view c.args.t.now))
          (c.in_file.ensures.cause (said c.args.useless start.breaks) (start_refuses c.in-Err.fault (said_of c.args.useless start) at fault)),
      c.in_file.ensures.said (start_says c.in-Err.fault (said_of c.args.useless start) at fault),
    )
