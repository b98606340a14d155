-- Generators as contracts see them.
-- Trusted: part of what a promise means.
use Rattle.std.specs.Prelude.{List, map}
use Rattle.cal_ast.specs.Tree.{Tree, listed}
use Rattle.cal_ast.specs.View.{gen_tree}
use Rattle.cal_ast.specs.declared.expr.Gen.{Gen}
use Rattle.expr_lower.specs.declared.generators.Counter.{Counter}
use Rattle.lower_base.specs.Generators.{Counted}

abbrev pub counter_view : Counter → Counted
counter_view x = record { text = x.name.now; kind = x.kind; low = x.low; high = x.high }

abbrev pub gens_of : List Gen → Tree
gens_of gens = listed (map gen_tree gens)
