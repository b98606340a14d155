use Rattle.std.proofs.Common.{◌≡◌, ◌-◌}
use Rattle.code_ir.specs.Code.{body_of, code_of}
use Rattle.code_ir.specs.Tables.{IsTableOf}
use Rattle.code_ir.proofs.places.bodies.Given as goal

abbrev pub invariant-loop-p : goal.invariant-loop-p
invariant-loop-p l = record { so_far : IsTableOf l.p (body_of (code_of l.code)) l.bodies.items; last : l.body ≡ body_of (code_of l.code) (l.p - 1) }
