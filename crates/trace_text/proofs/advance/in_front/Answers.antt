use Rattle.trace_text.proofs.Advancing.{front_more, front_lost}
use Rattle.trace_text.proofs.advance.in_front.Goals as goal

pub returns-then-read-byte : goal.returns-then-read-byte
returns-then-read-byte c = front_more c.args.read c.args.byte c.if-read.false c.if-read-byte.true

pub returns-else-read-byte : goal.returns-else-read-byte
returns-else-read-byte c = front_lost c.args.read c.args.byte c.if-read.false c.if-read-byte.false
