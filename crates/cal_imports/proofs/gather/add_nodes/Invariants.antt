use Rattle.std.proofs.Common.{◌≡◌, length, map}
use Rattle.cal_imports.specs.View.{source_of}
use Rattle.cal_imports.specs.Whole.{with_file_nodes}
use Rattle.cal_imports.proofs.gather.add_nodes.Given as goal

abbrev pub invariant-files : goal.invariant-files
invariant-files l = with_file_nodes (map source_of l.rest) l.nodes ≡ with_file_nodes (map source_of l.initial.rest) l.initial.nodes

abbrev pub decreases-files : goal.decreases-files
decreases-files l = length l.rest
