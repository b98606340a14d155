use Rattle.trace_replay.proofs.Fresh.{new_begin}
use Rattle.trace_replay.proofs.laws.new_cells_begin_at_the_start.Goals as goal

pub returns : goal.returns
returns g c = λ net cells inputs is_of new. new_begin net cells inputs is_of new
