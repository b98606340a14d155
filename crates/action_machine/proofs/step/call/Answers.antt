use Rattle.std.proofs.Common.{◌≡◌, ◌+◌, pos, List, ℕ, ap, sym, subst, ◌∙◌}
use Rattle.std.specs.Prelude.{Some, slice_get, slice_index_or}
use Rattle.std.proofs.lemmas.Option.{slice_get-get_or}
use Rattle.code_ir.specs.declared.instr.Routine.{Routine}
use Rattle.code_ir.specs.Running.{Goes}
use Rattle.action_machine.specs.Stacks.{top_first}
use Rattle.action_machine.specs.Machine.{state_of}
use Rattle.action_machine.proofs.Tops.{top-push}
use Rattle.action_machine.proofs.Ready.{call-is}
use Rattle.action_machine.proofs.step.call.Goals as goal

pub returns : goal.returns
returns c = λ code stack cells e.
    let d : Routine = record { start = 0; results = 0 } in
    let x : Routine = slice_index_or c.args.routines.now c.args.r d in
    let found : slice_get code.routines c.args.r ≡ Some x =
    subst (λ rs. slice_get rs c.args.r ≡ Some x) (sym e) (slice_get-get_or c.args.routines.now c.args.r d c.requires.there) in
    call-is code c.args.r (state_of c.args.at.now stack c.args.frames.now cells) x found
    ∙ ap (λ (fs : List ℕ). Goes (record { place = x.start; stack = top_first (pos 0) c.args.at.now.top stack; frames = fs; cells = cells; left = c.args.at.now.left }))
    (sym (top-push 0 c.args.at.now.depth c.args.frames.now (c.args.at.now.place + 1) c.requires.room))
