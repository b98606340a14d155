use Rattle.trace_text.proofs.Decoding.{lines_tell}
use Rattle.trace_text.proofs.laws.text_tells_lines.Goals as goal

pub returns : goal.returns
returns c = lines_tell
