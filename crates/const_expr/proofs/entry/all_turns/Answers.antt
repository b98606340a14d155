use Rattle.rvc_base.specs.Turns.{max_turns_is}
use Rattle.const_expr.proofs.entry.all_turns.Goals as goal

pub returns : goal.returns
returns c = max_turns_is
