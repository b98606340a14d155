use Rattle.std.proofs.Common.{sym, subst, ◌∙◌}
use Rattle.cal_check.specs.Violations.{violation}
use Rattle.const_env.specs.Judging.{Breaks}
use Rattle.check_variable.proofs.Adding.{untyped_declares, untyped_refused}
use Rattle.check_variable.proofs.Faults.{cause_alone}
use Rattle.check_variable.proofs.variables.untyped.Goals as goal

pub returns-then-is_not_constant-clause-declares : goal.returns-then-is_not_constant-clause-declares
returns-then-is_not_constant-clause-declares c = λ j x gs owner names same breaks.
    untyped_declares c.untyped_at.result j c.in-Broken.rule c.in-Broken.at c.args.file x gs owner names c.args.so_far.now c.untyped_at.new.so_far same
    (subst (λ f. Breaks f j) c.in-Broken.is breaks) (sym c.is_not_constant.ensures ∙ c.if-is_not_constant.true) c.untyped_at.ensures

pub returns-else-is_not_constant-clause-declares : goal.returns-else-is_not_constant-clause-declares
returns-else-is_not_constant-clause-declares c = λ j x gs owner names same breaks.
    let other = sym c.is_not_constant.ensures ∙ c.if-is_not_constant.false in
    untyped_refused c.in_file.result j c.in-Broken.rule c.in-Broken.at c.args.file x gs owner names c.args.so_far.now c.args.so_far.now same
    (subst (λ f. Breaks f j) c.in-Broken.is breaks) other
    (c.in_file.ensures.cause (violation c.in-Broken.rule c.in-Broken.at) (cause_alone c.in-Broken.rule c.in-Broken.at)) (c.in_file.ensures.said other)
