use Rattle.std.proofs.Common.{◌≤◌, ◌<◌, ◌∙◌, length, take, ap, refl, subst, sym, arith}
use Rattle.std.proofs.lemmas.Option.{slice_get_read}
use Rattle.net_state.specs.Claiming.{back, made_all, made_with}
use Rattle.net_state.proofs.Backs.{back_last}
use Rattle.net_state.proofs.Taking.{take_next}
use Rattle.net_state.proofs.claiming.made_of.Goals as goal

pub loop-task-preserved : goal.loop-task-preserved
loop-task-preserved g c =
    let view = g.A.Firing.cell in
    let tasks = c.args.tasks.now in
    let i = c.loop-task.task-index in
    let t = c.task-item.result in
    let low : i < length tasks = omega (arith, c.loop-task-test.true, c.loop-task.auto.task-index-end) in
    let next = take_next tasks i t (slice_get_read tasks (length tasks) i t refl low c.task-item.is) in
    let few : length (view t.cell).journal ≤ 65536 = subst (λ x. length (view x.cell).journal ≤ 65536) (sym c.task-item.is) (c.requires.fired i t low) in (
      c.with_task-made.ensures.made ∙ (ap (made_with view t) c.loop-task.invariant.0 ∙ sym (ap (λ l. made_all view (back l)) next ∙ ap (made_all view) (back_last (take i tasks) t))),
      omega (arith, c.with_task-made.ensures.fired, c.loop-task.invariant.1, few),
    )
