use Rattle.std.proofs.Common.{◌≡◌, ◌<◌, length, sym, ap, subst, ◌∙◌, arith}
use Rattle.std.specs.Prelude.{string_bytes}
use Rattle.cal_model.specs.Tags.{number_of_name}
use Rattle.cal_check.proofs.SeenStates.{number-below}
use Rattle.check_member.proofs.schedule.state_number.Goals as goal

pub overflow_cast-result : goal.overflow_cast-result
overflow_cast-result c =
    let name = string_bytes c.args.name.now.text in
    let below = number-below name c.args.states.now c.requires.seen in
    let same : c.number.result ≡ number_of_name name c.args.states.now = c.number.ensures ∙ ap (λ n. number_of_name n c.args.states.now) c.as_str.ensures.value in
    omega (arith, below, same, c.requires.few)

pub returns : goal.returns
returns c =
    let name = string_bytes c.args.name.now.text in
    let below = number-below name c.args.states.now c.requires.seen in
    let same : c.number.result ≡ number_of_name name c.args.states.now = c.number.ensures ∙ ap (λ n. number_of_name n c.args.states.now) c.as_str.ensures.value in
    record { number = same; in_range = subst (λ n. n < length c.args.states.now) (sym same) below }
