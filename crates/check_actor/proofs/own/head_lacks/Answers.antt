use Rattle.std.proofs.Common.{ap, sym, subst, ◌∙◌}
use Rattle.cal_ast.specs.View.{function_tree}
use Rattle.cal_check.specs.Routines.{head_judged}
use Rattle.cal_check.specs.Variables.{found_in}
use Rattle.cal_check.specs.Violations.{broken}
use Rattle.const_env.specs.Counting.{names_view}
use Rattle.check_stmt.specs.Judging.{Refuses}
use Rattle.check_actor.specs.Functions.{lacking}
use Rattle.check_actor.proofs.Owned.{head_breaks_other, head_lacks}
use Rattle.check_actor.proofs.Sifted.{few_broken}
use Rattle.check_actor.proofs.own.head_lacks.Goals as goal

pub returns-in-Ok : goal.returns-in-Ok
returns-in-Ok c = ap (λ vs. lacking (found_in c.args.f.file vs)) c.in-Ok.ensures

pub returns-then-is_not_constant : goal.returns-then-is_not_constant
returns-then-is_not_constant c =
    let judged = head_judged (function_tree c.args.f.decl.now) (names_view c.args.names.now) in
    head_lacks c.args.f.file (broken judged) c.in-Err-Broken.rule c.in-Err-Broken.at (few_broken judged) (subst (λ f. Refuses f (broken judged)) c.in-Err-Broken.field-0-is c.in-Err-Broken.ensures)
    (sym c.is_not_constant.ensures ∙ c.if-is_not_constant.true)

pub returns-else-is_not_constant : goal.returns-else-is_not_constant
returns-else-is_not_constant c =
    let judged = head_judged (function_tree c.args.f.decl.now) (names_view c.args.names.now) in
    head_breaks_other c.args.f.file (broken judged) c.in-Err-Broken.rule c.in-Err-Broken.at (few_broken judged) (subst (λ f. Refuses f (broken judged)) c.in-Err-Broken.field-0-is c.in-Err-Broken.ensures)
    (sym c.is_not_constant.ensures ∙ c.if-is_not_constant.false)
