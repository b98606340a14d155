use Rattle.std.proofs.Common.{◌≡◌, Err, rules, ap, sym, ◌∙◌, subst}
use Rattle.std.proofs.lemmas.List.{take_all}
use Rattle.fnl_markup.specs.Tags.{plain, plain_tags}
use Rattle.fnl_read.specs.Elements.{step, run}
use Rattle.fnl_read.specs.States.{Going, fresh}
use Rattle.fnl_read.specs.Stepped.{Stepped}
use Rattle.fnl_read.specs.Views.{state_of}
use Rattle.fnl_read.proofs.Running.{run_next, ran_into}
use Rattle.fnl_read.proofs.file.read_tags.Goals as goal

pub loop-tag-init : goal.loop-tag-init
loop-tag-init c = ap Going (sym c.requires)

pub loop-tag-preserved : goal.loop-tag-preserved
loop-tag-preserved c = run_next c.args.tags.now c.tag-item.result c.loop-tag.tag-index (state_of c.loop-tag.reader) (state_of c.step.new.self) c.loop-tag-test.true c.tag-item.is c.loop-tag.invariant c.in_ok-step.ensures

pub returns-in_err-step : goal.returns-in_err-step
returns-in_err-step c =
    let same : c.from_residual.result ≡ Err c.in_err-step.field-0.0 = search rules in
    ran_into c.args.tags.now c.tag-item.result c.loop-tag.tag-index (state_of c.loop-tag.reader) c.step.new.self c.from_residual.result c.in_err-step.field-0.0 same
    c.loop-tag-test.true c.tag-item.is c.loop-tag.invariant
    (subst (λ r. Stepped (step (plain c.tag-item.result) (state_of c.loop-tag.reader)) c.step.new.self r) (sym same) c.in_err-step.ensures)

pub returns : goal.returns
returns c = ap (λ ts. run (Going fresh) (plain_tags ts)) (sym (take_all c.loop-tag.tag-index c.args.tags.now c.loop-tag-test.false)) ∙ c.loop-tag.invariant
