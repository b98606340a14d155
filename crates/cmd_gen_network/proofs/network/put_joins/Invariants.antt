use Rattle.std.specs.Prelude.{◌≡◌, ◌++◌}
use Rattle.cmd_gen_network.specs.Texts.{joins_text}
use Rattle.cmd_gen_network.proofs.network.put_joins.Given as goal

-- those so far stand behind what stood there
abbrev pub invariant-loop-k : goal.invariant-loop-k
invariant-loop-k l = l.out.items ≡ l.initial.out.items ++ joins_text l.k
