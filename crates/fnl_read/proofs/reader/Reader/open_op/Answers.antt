use Rattle.std.proofs.Common.{◌∙◌, map}
use Rattle.rvc_base.specs.Rules.{unknown_element}
use Rattle.fnl_markup.specs.Tags.{plain_attribute}
use Rattle.fnl_read.specs.Opening.{open_op}
use Rattle.fnl_read.specs.Views.{state_of}
use Rattle.fnl_read.proofs.Operator.{no_operator, refuses}
use Rattle.fnl_read.proofs.reader.Reader.open_op.Goals as goal

pub returns-in_default : goal.returns-in_default
returns-in_default c =
    let s = state_of c.args.self.now in
    let taken = c.take_top.ensures.taken in
    let attributes = map plain_attribute c.args.attributes.now in
    let none = no_operator c.args.self.now.top attributes c.args.at s
    (λ op operand there e. c.in_default.not-Unary op operand there (taken ∙ e))
    (λ waiting operand there e. c.in_default.not-Sequence waiting operand there (taken ∙ e)) in
    refuses (Unit {0}) (open_op attributes c.args.at s) c.set_top.new.self c.unknown-in_default.result unknown_element c.args.at c.unknown-in_default.ensures none
