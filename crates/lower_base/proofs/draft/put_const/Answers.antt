use Rattle.std.proofs.Common.{◌∷◌, [], subst}
use Rattle.std.specs.Prelude.{OnOk}
use Rattle.std.proofs.lemmas.Int.{to_z-of_z}
use Rattle.rvc_base.specs.Width.{num_width}
use Rattle.code_ir.specs.declared.instr.Instr.TheVariants as op
use Rattle.lower_base.specs.Lowered.{IsPut}
use Rattle.lower_base.proofs.draft.put_const.Goals as goal

pub returns-clause-added : goal.returns-clause-added
returns-clause-added c =
    subst (λ z. OnOk c.put.result (IsPut (op.Const z ∷ []) c.args.draft.now c.put.new.draft)) (to_z-of_z num_width c.args.value c.ranges.value) c.put.ensures.added
