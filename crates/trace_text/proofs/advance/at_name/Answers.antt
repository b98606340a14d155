use Rattle.std.proofs.Common.{sym, ◌∙◌}
use Rattle.trace_text.proofs.Advancing.{a_letter}
use Rattle.trace_text.proofs.advance.at_name.Goals as goal

pub returns-then-is_letter : goal.returns-then-is_letter
returns-then-is_letter c = a_letter c.args.inst c.args.part c.args.byte (sym c.is_letter.ensures ∙ c.if-is_letter.true)
