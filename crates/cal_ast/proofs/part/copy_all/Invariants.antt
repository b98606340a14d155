use Rattle.std.proofs.Common.{◌≡◌, map, take}
use Rattle.cal_ast.proofs.part.copy_all.Given as goal

abbrev pub invariant-loop-part : goal.invariant-loop-part
invariant-loop-part g l = map g.T.Part.tree l.copied.items ≡ map g.T.Part.tree (take l.part-index l.parts)
