use Rattle.std.specs.Prelude.{◌≡◌, ◌++◌}
use Rattle.cmd_gen_network.specs.Texts.{instances_text}
use Rattle.cmd_gen_network.proofs.network.put_instances.Given as goal

-- those so far stand behind what stood there
abbrev pub invariant-loop-k : goal.invariant-loop-k
invariant-loop-k l = l.out.items ≡ l.initial.out.items ++ instances_text l.k
