use Rattle.trace_text.proofs.Advancing.{out_of_path}
use Rattle.trace_text.proofs.advance.after_names.Goals as goal

pub returns-in-Path : goal.returns-in-Path
returns-in-Path c = rw (c.in-Path.is, c.if-byte-eq32.true) (out_of_path c.args.inst)
