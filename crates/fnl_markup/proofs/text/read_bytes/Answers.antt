use Rattle.std.proofs.Common.{◌≡◌, Err, None, rules, sym, ap, ◌∙◌, subst}
use Rattle.std.proofs.lemmas.List.{take_all}
use Rattle.fnl_markup.specs.State.{fresh}
use Rattle.fnl_markup.specs.Markup.{ended, run, reading}
use Rattle.fnl_markup.specs.Stepped.{state_of, Ran}
use Rattle.fnl_markup.proofs.Runs.{read_on, ran_into}
use Rattle.fnl_markup.proofs.text.read_bytes.Goals as goal

pub loop-at-init : goal.loop-at-init
loop-at-init c = ap (λ s. ended s None) (sym c.requires.new)

pub loop-at-preserved : goal.loop-at-preserved
loop-at-preserved c = read_on c.args.text.now c.loop-at.at (state_of c.loop-at.reader) (state_of c.step.new.self) c.loop-at-test.true c.loop-at.invariant c.in_ok-step.ensures

pub returns-in_err-step : goal.returns-in_err-step
returns-in_err-step c =
    let same : c.from_residual.result ≡ Err c.in_err-step.field-0.0 = search rules in
    let ran : Ran (reading c.args.text.now) c.step.new.self (Err c.in_err-step.field-0.0) = ran_into c.args.text.now c.loop-at.at (state_of c.loop-at.reader) c.step.new.self c.in_err-step.field-0.0 c.loop-at-test.true c.loop-at.invariant c.in_err-step.ensures in
    subst (λ r. Ran (reading c.args.text.now) c.step.new.self r) (sym same) ran

pub returns : goal.returns
returns c = ap (run 0 fresh) (sym (take_all c.loop-at.at c.args.text.now c.loop-at-test.false)) ∙ c.loop-at.invariant
