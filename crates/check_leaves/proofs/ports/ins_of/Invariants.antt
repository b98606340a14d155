use Rattle.std.proofs.Common.{◌≡◌, ◌+◌, ◌++◌, length, map}
use Rattle.cal_model.specs.Rates.{need}
use Rattle.cal_model.specs.View.{actor_of, port_view}
use Rattle.fnl_flatten.specs.View.{head_port_of}
use Rattle.fnl_source.specs.Actors.{ports_from}
use Rattle.check_leaves.proofs.ports.ins_of.Given as goal

abbrev pub invariant-ports : goal.invariant-ports
invariant-ports l = record {
  many : l.number + length l.rest ≡ length l.b.ins.items;
  told : map head_port_of l.ports.items ++ ports_from l.number (need (actor_of l.b)) (length l.b.actions.items) (map port_view l.rest)
      ≡ ports_from 0 (need (actor_of l.b)) (length l.b.actions.items) (map port_view l.b.ins.items);
}

abbrev pub decreases-ports : goal.decreases-ports
decreases-ports l = length l.rest
