use Rattle.std.proofs.Common.{map, arith, ◌<◌}
use Rattle.std.proofs.lemmas.List.{length-map}
use Rattle.net_state.proofs.Coming.{place_of}
use Rattle.net_state.proofs.filling.fill_link.Goals as goal

pub fill_port-requires : goal.fill_port-requires
fill_port-requires g c =
    let asked = rw c.in-Leaf.is at c.requires.reader in
    record {
      size = c.requires.size;
      there = omega (arith, place_of (map g.A.Firing.cell c.args.cells.now) c.in-Leaf.inst.0 (λ cell. c.in-Leaf.port < cell.actor.ins) asked.0, length-map c.args.cells.now g.A.Firing.cell);
      input = asked.0;
      room = asked.1;
      «open» = c.requires.«open»;
      same_feed = c.requires.same_feed;
    }

pub returns : goal.returns
returns g c = rw c.in-Leaf.is (record {
  took = c.fill_port.ensures.took;
  filled = c.fill_port.ensures.filled;
  within = c.fill_port.ensures.within;
  failed = c.fill_port.ensures.failed;
  due = c.fill_port.ensures.due;
  kind = c.fill_port.ensures.kind;
  same_rest = c.fill_port.ensures.same_rest;
  still_same_feed = c.fill_port.ensures.still_same_feed;
  elsewhere = c.fill_port.ensures.elsewhere;
})
