use Rattle.std.proofs.Common.{◌-◌, ◌∙◌, ap, set, sym}
use Rattle.std.proofs.lemmas.List.{set_at}
use Rattle.code_ir.specs.declared.instr.Instr.TheVariants as op
use Rattle.action_lower.proofs.guards.clear_at.Goals as goal

pub returns-clause-clears : goal.returns-clause-clears
returns-clause-clears c = λ before rest i is at.
    ap (λ xs. set xs c.args.place (op.Zero c.args.kept (c.args.draft.now.cells - c.args.kept))) is ∙ set_at before i rest (op.Zero c.args.kept (c.args.draft.now.cells - c.args.kept)) c.args.place (sym at)
