use Rattle.std.proofs.Common.{◌≡◌, map, take}
use Rattle.cal_ast.specs.View.{ident_tree}
use Rattle.cal_scope.proofs.copies.equal_names.Given as goal

abbrev pub invariant-loop-name : goal.invariant-loop-name
invariant-loop-name l = map ident_tree l.copied.items ≡ map ident_tree (take l.name-index l.names)
