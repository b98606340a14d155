use Rattle.std.proofs.Common.{◌≡◌, take, None}
use Rattle.fnl_markup.specs.State.{fresh}
use Rattle.fnl_markup.specs.Markup.{run, ended}
use Rattle.fnl_markup.specs.Stepped.{state_of}
use Rattle.fnl_markup.proofs.text.read_bytes.Given as goal

abbrev pub invariant-loop-at : goal.invariant-loop-at
invariant-loop-at l = run 0 fresh (take l.at l.text) ≡ ended (state_of l.reader) None
