use Rattle.std.proofs.Common.{◌≡◌, drop, map}
use Rattle.check_used.specs.Using.{outer_view, with_outers}
use Rattle.check_used.proofs.used.names_of.Given as goal

abbrev pub invariant-loop-d : goal.invariant-loop-d
invariant-loop-d l = with_outers (map outer_view (drop l.d-index l.decls)) l.names ≡ with_outers (map outer_view l.decls) l.initial.names
