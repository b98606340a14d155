use Rattle.std.proofs.Common.{◌+◌, ◌-◌, ◌≤◌, vec_items, refl, sym, ap, arith, take}
use Rattle.net_model.specs.Paced.{count_picked}
use Rattle.net_state.proofs.Shared.{cut_few, cut_high, cut_low}
use Rattle.net_state.proofs.sharing.part_halves.Goals as goal

pub returns-clause-low : goal.returns-clause-low
returns-clause-low g c = cut_low g.A.Firing.cell vec_items c.args.shares c.args.part c.args.marks.now c.args.rooms.now c.args.cells.now c.args.cut c.requires.part c.requires.within c.args.picks c.requires.picks

pub returns-clause-high : goal.returns-clause-high
returns-clause-high g c =
    let few : count_picked (take c.args.cut c.args.marks.now) ≤ c.args.part.picks = cut_few g.A.Firing.cell vec_items c.args.shares c.args.part c.args.marks.now c.args.rooms.now c.args.cells.now c.args.cut c.requires.part c.requires.within in
    cut_high g.A.Firing.cell vec_items c.args.shares c.args.part c.args.marks.now c.args.rooms.now c.args.cells.now c.args.cut c.requires.part c.requires.within (c.args.part.cell + c.args.cut) (c.args.part.before + c.args.picks) (c.args.part.picks - c.args.picks)
    refl (ap (λ n. c.args.part.before + n) (sym c.requires.picks)) (omega (arith, few, c.requires.picks))

pub overflow_add-high-2 : goal.overflow_add-high-2
overflow_add-high-2 g c =
    let few : count_picked (take c.args.cut c.args.marks.now) ≤ c.args.part.picks = cut_few g.A.Firing.cell vec_items c.args.shares c.args.part c.args.marks.now c.args.rooms.now c.args.cells.now c.args.cut c.requires.part c.requires.within in
    omega (arith, few, c.requires.picks, c.requires.part.among, c.requires.shares.few)

pub overflow_sub-high : goal.overflow_sub-high
overflow_sub-high g c =
    let few : count_picked (take c.args.cut c.args.marks.now) ≤ c.args.part.picks = cut_few g.A.Firing.cell vec_items c.args.shares c.args.part c.args.marks.now c.args.rooms.now c.args.cells.now c.args.cut c.requires.part c.requires.within in
    omega (arith, few, c.requires.picks)
