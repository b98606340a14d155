use Rattle.std.proofs.Common.{◌≡◌, ◌+◌, ◌≤◌, ◌∙◌, List, length, map, vec_items, All, ap, ap₂, subst, sym, arith}
use Rattle.std.specs.Prelude.{None}
use Rattle.net_model.specs.Paced.{count_picked}
use Rattle.claimed_bursts.specs.Tasks.{EachMakesBurst, Task}
use Rattle.net_state.specs.Sharing.{EachBursts, share_of}
use Rattle.net_state.proofs.Alone.{few_marks}
use Rattle.net_state.specs.Claiming.{back, made_all, merged, rest_of, tasks_of}
use Rattle.net_state.proofs.Claimed.{claimed_each, claimed_few, counts, unclaimed, unmade}
use Rattle.net_state.proofs.claiming.burst_claimed.Goals as goal

pub burst_tasks-requires-clause-unmade : goal.burst_tasks-requires-clause-unmade
burst_tasks-requires-clause-unmade g c κs within =
    let view = g.A.Firing.cell in
    let marks = c.args.marks.now in
    let rows = map vec_items c.args.rooms.now in
    let all = c.args.cells.now.items in
    let tasks : List (Task g.row.A.Denot) = back (tasks_of (share_of c.args.shares) 0 0 marks rows all) in
    let taken : c.take_out-tasks.result.0.items ≡ tasks = c.take_out-tasks.ensures.tasks in
    subst (λ (ts : List (Task g.row.A.Denot)). All (λ (t : Task g.row.A.Denot). t.end ≡ None) ts) (sym taken) (unmade (share_of c.args.shares) 0 0 marks rows all)

pub burst_tasks-requires-clause-few : goal.burst_tasks-requires-clause-few
burst_tasks-requires-clause-few g c κs within =
    let view = g.A.Firing.cell in
    let marks = c.args.marks.now in
    let rows = map vec_items c.args.rooms.now in
    let all = c.args.cells.now.items in
    let tasks : List (Task g.row.A.Denot) = back (tasks_of (share_of c.args.shares) 0 0 marks rows all) in
    let taken : c.take_out-tasks.result.0.items ≡ tasks = c.take_out-tasks.ensures.tasks in
    let count = counts view c.args.shares c.requires.shares marks rows all c.requires.part in
    let many : length c.take_out-tasks.result.0.items ≡ count_picked marks = ap length taken ∙ count.0 in
    let few : count_picked marks ≤ length marks = few_marks marks in
    omega (arith, many, few, c.requires.part.marked, c.requires.part.few)

pub made_of-made-requires-clause-few : goal.made_of-made-requires-clause-few
made_of-made-requires-clause-few g c =
    let view = g.A.Firing.cell in
    let marks = c.args.marks.now in
    let rows = map vec_items c.args.rooms.now in
    let all = c.args.cells.now.items in
    let tasks : List (Task g.row.A.Denot) = back (tasks_of (share_of c.args.shares) 0 0 marks rows all) in
    let taken : c.take_out-tasks.result.0.items ≡ tasks = c.take_out-tasks.ensures.tasks in
    let count = counts view c.args.shares c.requires.shares marks rows all c.requires.part in
    let few : count_picked marks ≤ length marks = few_marks marks in
    let done = c.in-Ok-burst_tasks.done.items in
    let each : EachMakesBurst view tasks done = subst (λ ts. EachMakesBurst view ts done) taken c.in-Ok-burst_tasks.ensures.bursts in
    let picked : length done ≡ count_picked marks = each.places ∙ count.0 in
    let same : length c.deref.result.now ≡ length done = ap length c.deref.ensures.value in
    omega (arith, same, picked, few, c.requires.part.marked, c.requires.part.few)

pub made_of-made-requires-clause-fired : goal.made_of-made-requires-clause-fired
made_of-made-requires-clause-fired g c =
    let view = g.A.Firing.cell in
    let marks = c.args.marks.now in
    let rows = map vec_items c.args.rooms.now in
    let all = c.args.cells.now.items in
    let tasks : List (Task g.row.A.Denot) = back (tasks_of (share_of c.args.shares) 0 0 marks rows all) in
    let taken : c.take_out-tasks.result.0.items ≡ tasks = c.take_out-tasks.ensures.tasks in
    let done = c.in-Ok-burst_tasks.done.items in
    let each : EachMakesBurst view tasks done = subst (λ ts. EachMakesBurst view ts done) taken c.in-Ok-burst_tasks.ensures.bursts in
    subst (λ (ts : List (Task g.row.A.Denot)). All (λ (t : Task g.row.A.Denot). length (view t.cell).journal ≤ 65536) ts) (sym c.deref.ensures.value)
    (claimed_few view c.args.shares c.requires.shares marks rows all c.requires.part done each)

pub put_back-requires-clause-picked : goal.put_back-requires-clause-picked
put_back-requires-clause-picked g c =
    let view = g.A.Firing.cell in
    let marks = c.args.marks.now in
    let rows = map vec_items c.args.rooms.now in
    let all = c.args.cells.now.items in
    let tasks : List (Task g.row.A.Denot) = back (tasks_of (share_of c.args.shares) 0 0 marks rows all) in
    let taken : c.take_out-tasks.result.0.items ≡ tasks = c.take_out-tasks.ensures.tasks in
    let count = counts view c.args.shares c.requires.shares marks rows all c.requires.part in
    let done = c.in-Ok-burst_tasks.done.items in
    let each : EachMakesBurst view tasks done = subst (λ ts. EachMakesBurst view ts done) taken c.in-Ok-burst_tasks.ensures.bursts in
    let picked : length done ≡ count_picked marks = each.places ∙ count.0 in
    picked

pub put_back-requires-clause-others : goal.put_back-requires-clause-others
put_back-requires-clause-others g c =
    let view = g.A.Firing.cell in
    let marks = c.args.marks.now in
    let rows = map vec_items c.args.rooms.now in
    let all = c.args.cells.now.items in
    let rest : c.take_out-tasks.result.1.items ≡ back (rest_of marks all) = c.take_out-tasks.ensures.rest in
    let count = counts view c.args.shares c.requires.shares marks rows all c.requires.part in
    ap (λ (l : List g.row.A.Denot). length l + count_picked marks) rest ∙ count.1

pub put_back-requires-in-Err-clause-picked : goal.put_back-requires-in-Err-clause-picked
put_back-requires-in-Err-clause-picked g c =
    let view = g.A.Firing.cell in
    let marks = c.args.marks.now in
    let rows = map vec_items c.args.rooms.now in
    let all = c.args.cells.now.items in
    let tasks : List (Task g.row.A.Denot) = back (tasks_of (share_of c.args.shares) 0 0 marks rows all) in
    let taken : c.take_out-tasks.result.0.items ≡ tasks = c.take_out-tasks.ensures.tasks in
    let count = counts view c.args.shares c.requires.shares marks rows all c.requires.part in
    let many : length c.take_out-tasks.result.0.items ≡ count_picked marks = ap length taken ∙ count.0 in
    ap length c.in-Err.ensures.no_board ∙ many

pub put_back-requires-in-Err-clause-others : goal.put_back-requires-in-Err-clause-others
put_back-requires-in-Err-clause-others g c =
    let view = g.A.Firing.cell in
    let marks = c.args.marks.now in
    let rows = map vec_items c.args.rooms.now in
    let all = c.args.cells.now.items in
    let rest : c.take_out-tasks.result.1.items ≡ back (rest_of marks all) = c.take_out-tasks.ensures.rest in
    let count = counts view c.args.shares c.requires.shares marks rows all c.requires.part in
    ap (λ (l : List g.row.A.Denot). length l + count_picked marks) rest ∙ count.1

pub returns-in-Ok-burst_tasks-clause-each : goal.returns-in-Ok-burst_tasks-clause-each
returns-in-Ok-burst_tasks-clause-each g c =
    let view = g.A.Firing.cell in
    let marks = c.args.marks.now in
    let rows = map vec_items c.args.rooms.now in
    let all = c.args.cells.now.items in
    let tasks : List (Task g.row.A.Denot) = back (tasks_of (share_of c.args.shares) 0 0 marks rows all) in
    let taken : c.take_out-tasks.result.0.items ≡ tasks = c.take_out-tasks.ensures.tasks in
    let rest : c.take_out-tasks.result.1.items ≡ back (rest_of marks all) = c.take_out-tasks.ensures.rest in
    let done = c.in-Ok-burst_tasks.done.items in
    let each : EachMakesBurst view tasks done = subst (λ ts. EachMakesBurst view ts done) taken c.in-Ok-burst_tasks.ensures.bursts in
    let now = c.put_back.new.cells.items in
    let is : now ≡ merged marks (back done) (back (back (rest_of marks all))) = c.put_back.ensures ∙ ap (λ (l : List g.row.A.Denot). merged marks (back done) (back l)) rest in
    let made : c.made_of-made.result ≡ made_all view (back done) = c.made_of-made.ensures.made ∙ ap (λ (ts : List (Task g.row.A.Denot)). made_all view (back ts)) c.deref.ensures.value in
    subst (λ m. EachBursts (share_of c.args.shares) 0 0 marks rows (map view all) m (map view now)) (sym made)
    (claimed_each view c.args.shares c.requires.shares marks rows all c.requires.part done now each is)

pub returns-in-Ok-burst_tasks-clause-few : goal.returns-in-Ok-burst_tasks-clause-few
returns-in-Ok-burst_tasks-clause-few g c =
    let view = g.A.Firing.cell in
    let marks = c.args.marks.now in
    let rows = map vec_items c.args.rooms.now in
    let all = c.args.cells.now.items in
    let tasks : List (Task g.row.A.Denot) = back (tasks_of (share_of c.args.shares) 0 0 marks rows all) in
    let taken : c.take_out-tasks.result.0.items ≡ tasks = c.take_out-tasks.ensures.tasks in
    let count = counts view c.args.shares c.requires.shares marks rows all c.requires.part in
    let done = c.in-Ok-burst_tasks.done.items in
    let each : EachMakesBurst view tasks done = subst (λ ts. EachMakesBurst view ts done) taken c.in-Ok-burst_tasks.ensures.bursts in
    let picked : length done ≡ count_picked marks = each.places ∙ count.0 in
    let same : length c.deref.result.now ≡ length done = ap length c.deref.ensures.value in
    omega (arith, same, picked, c.made_of-made.ensures.fired)

pub returns-in-Err-clause-none : goal.returns-in-Err-clause-none
returns-in-Err-clause-none g c =
    let view = g.A.Firing.cell in
    let marks = c.args.marks.now in
    let rows = map vec_items c.args.rooms.now in
    let all = c.args.cells.now.items in
    let tasks : List (Task g.row.A.Denot) = back (tasks_of (share_of c.args.shares) 0 0 marks rows all) in
    let taken : c.take_out-tasks.result.0.items ≡ tasks = c.take_out-tasks.ensures.tasks in
    let rest : c.take_out-tasks.result.1.items ≡ back (rest_of marks all) = c.take_out-tasks.ensures.rest in
    c.put_back-in-Err.ensures
    ∙ (ap₂ (λ (ts : List (Task g.row.A.Denot)) (rs : List g.row.A.Denot). merged marks (back ts) (back rs)) (c.in-Err.ensures.no_board ∙ taken) rest
    ∙ unclaimed view c.args.shares c.requires.shares marks rows all c.requires.part)
