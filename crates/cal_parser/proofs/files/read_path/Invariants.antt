use Rattle.std.proofs.Common.{map, length}
use Rattle.cal_ast.specs.View.{ident_tree}
use Rattle.cal_parser.specs.ImportPath.{IsPathSoFar}
use Rattle.cal_parser.proofs.files.read_path.Given as goal

abbrev pub invariant-path : goal.invariant-path
invariant-path l = IsPathSoFar l.fn.room l.fn.tokens.now l.tokens.now (map ident_tree l.names.items)

abbrev pub decreases-path : goal.decreases-path
decreases-path l = length l.tokens.now
