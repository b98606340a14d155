use Rattle.std.proofs.Common.{sym, ap, set, ◌∙◌}
use Rattle.std.proofs.lemmas.List.{set_at}
use Rattle.code_ir.specs.declared.instr.Instr.TheVariants as op
use Rattle.lower_stmt.proofs.jumps.exit_at.Goals as goal

pub returns-clause-aimed : goal.returns-clause-aimed
returns-clause-aimed c = λ before rest i is at. ap (λ xs. set xs c.args.place (op.JumpIfNot c.args.target)) is ∙ set_at before i rest (op.JumpIfNot c.args.target) c.args.place (sym at)
