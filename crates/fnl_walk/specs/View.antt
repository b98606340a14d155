-- Walks, without where they lie in memory.
-- Not trusted: no promise is read with it.
use Rattle.std.specs.Prelude.{map, reverse, string_bytes}
use Rattle.fnl_tree.specs.View.{leaf_of, net_of}
use Rattle.fnl_values.specs.Visiting.{visit_of}
use Rattle.fnl_walk.specs.Walk as walks
use Rattle.fnl_walk.specs.declared.walk.Open.{Open}
use Rattle.fnl_walk.specs.declared.walk.Walk.{Walk}

abbrev pub open_of : Open → walks.Open
open_of o = record {
  file = o.file;
  path = string_bytes o.path;
  number = o.number;
  levels = o.levels;
  visits = map visit_of o.visits.items;
}

abbrev pub walk_view : Walk → walks.Walk
walk_view w = record {
  open_nets = reverse (map open_of w.open_nets.items);
  above = reverse (map string_bytes w.above.items);
  grown = record { nets = map net_of w.nets.items; leaves = map leaf_of w.leaves.items };
}
