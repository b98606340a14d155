use Rattle.std.proofs.Common.{◌≡◌, true, ◌==◌, sym, ◌∙◌, rules}
use Rattle.trace_text.specs.Waiting.{separator_of}
use Rattle.trace_text.proofs.Advancing.{a_name_byte, a_separator}
use Rattle.trace_text.proofs.advance.in_name.Goals as goal

pub returns-then-is_name_byte : goal.returns-then-is_name_byte
returns-then-is_name_byte c = a_name_byte c.args.inst c.args.part c.args.byte (sym c.is_name_byte.ensures ∙ c.if-is_name_byte.true)

pub returns-then-byte-separator : goal.returns-then-byte-separator
returns-then-byte-separator c =
    let same : (c.args.byte == separator_of c.args.part) ≡ true = search rules in
    a_separator c.args.inst c.args.part c.args.byte (sym c.is_name_byte.ensures ∙ c.if-is_name_byte.false) same
