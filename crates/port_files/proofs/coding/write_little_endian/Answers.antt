use Rattle.std.proofs.Common.{arith}
use Rattle.port_files.proofs.ByteLemmas.{written_again}
use Rattle.port_files.proofs.coding.write_little_endian.Goals as goal

pub loop-k-preserved : goal.loop-k-preserved
loop-k-preserved c =
    written_again c.loop-k.out c.loop-k.k c.loop-k.rest c.args.number (omega arith) c.loop-k.invariant
