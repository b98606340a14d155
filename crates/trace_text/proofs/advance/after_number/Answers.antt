use Rattle.std.proofs.Common.{◌∙◌, arith}
use Rattle.trace_text.proofs.Numbering.{leads_stop, leads_nowhere}
use Rattle.trace_text.proofs.advance.after_number.Goals.{else-byte-stop-via-then-byte-stop+then-least-number+else-number-most, else-byte-stop-via-then-byte-stop+else-least-number, else-byte-stop-via-else-byte-stop}
use Rattle.trace_text.proofs.advance.after_number.Goals as goal

pub returns-then-number-most : goal.returns-then-number-most
returns-then-number-most c =
    leads_stop c.args.field c.args.number c.args.byte c.behind.result c.requires (omega arith)
    (c.if-byte-stop.true ∙ c.stop.ensures) c.behind.ensures

pub returns-else-byte-stop : goal.returns-else-byte-stop
returns-else-byte-stop c = leads_nowhere c.args.field c.args.number c.args.byte c.requires (λ high low same. elim c.else-byte-stop.branch [
  | else-byte-stop-via-then-byte-stop+then-least-number+else-number-most w ↦ omega arith
  | else-byte-stop-via-then-byte-stop+else-least-number w ↦ omega arith
  | else-byte-stop-via-else-byte-stop w ↦ omega arith
])
