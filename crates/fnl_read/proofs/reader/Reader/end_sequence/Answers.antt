use Rattle.std.proofs.Common.{rules, ◌≡◌, ◌<◌, length, Err, Some, option_map, sym, subst, arith}
use Rattle.fnl_read.specs.Closing.{end_sequence}
use Rattle.fnl_expr.specs.Stack.{stack}
use Rattle.fnl_read.specs.Stepped.{Stepped}
use Rattle.fnl_expr.specs.Views.{pending_of, tall_tree}
use Rattle.fnl_read.specs.Views.{state_of}
use Rattle.fnl_read.proofs.Rows.{ungrouped}
use Rattle.fnl_expr.proofs.Stacks.{stack_size}
use Rattle.fnl_read.proofs.reader.Reader.end_sequence.Goals as goal

pub returns-in_err-value : goal.returns-in_err-value
returns-in_err-value c =
    let same : c.from_residual.result ≡ Err c.in_err-value.field-0.0 = search rules in
    let s = state_of c.args.self.now in
    let waiting = stack pending_of c.args.waiting.items in
    let some : 0 < length c.args.waiting.items = search rules in
    let size = stack_size pending_of c.args.waiting.items in
    let fault = ungrouped (Unit {0}) waiting (tall_tree c.in-Some.operand) c.args.there c.args.at s c.args.self.now c.in_err-value.field-0.0 (omega arith) c.in_err-value.ensures in
    subst (λ o. Stepped {A = Unit {0}} (end_sequence waiting (option_map tall_tree o) c.args.there c.args.at s) c.args.self.now c.from_residual.result) (sym c.in-Some.is)
    (subst (λ r. Stepped {A = Unit {0}} (end_sequence waiting (Some (tall_tree c.in-Some.operand)) c.args.there c.args.at s) c.args.self.now r) (sym same) fault)
