use Rattle.std.proofs.Common.{◌≡◌, ◌≤◌, length, ◌∙◌, sym, ap, subst, arith}
use Rattle.cal_model.specs.Rates.{parts_times}
use Rattle.cal_model.specs.Sound.{max_rate}
use Rattle.cal_model.proofs.Parts.{parts_listed}
use Rattle.cal_model.proofs.rates.given_by.Goals as goal

pub tokens-requires-clause-few : goal.tokens-requires-clause-few
tokens-requires-clause-few c =
    let e : c.len.result ≡ length c.args.output.now.values.items = omega arith in
    subst (λ k. parts_times k c.args.output.now.repeat ≤ max_rate) (parts_listed c.args.output.now.values.items ∙ sym e) c.requires.few

pub returns : goal.returns
returns c =
    let e : c.len.result ≡ length c.args.output.now.values.items = omega arith in
    c.tokens.ensures ∙ ap (λ k. parts_times k c.args.output.now.repeat) (e ∙ sym (parts_listed c.args.output.now.values.items))
