use Rattle.std.proofs.Common.{rules, ◌≡◌, ◌+◌, ◌-◌, ◌≤◌, arith}
use Rattle.std.specs.Prelude.{slice_get, Some}
use Rattle.std.proofs.lemmas.Bool.Decides.{when_true, when_false}
use Rattle.code_ir.specs.Code.{code_of}
use Rattle.code_ir.specs.Heights.{IsMarked, IsEnough}
use Rattle.code_ir.specs.Typing.{pops, pushes, LeavesResults}
use Rattle.code_ir.proofs.Marks.{read-at, read-marked, marked-inside, next-inside, target-inside, passed-grows, passed-all, bad-next, bad-enough, bad-results}
use Rattle.code_ir.proofs.heights.pass_on.Goals as goal
use Rattle.code_ir.proofs.heights.pass_on.Goals.{then-popped-height-via-then-popped-height, then-popped-height-via-else-popped-height+then-not-leaves_results}

pub returns-then-popped-height-clause-passed : goal.returns-then-popped-height-clause-passed
returns-then-popped-height-clause-passed c =
    let code = code_of c.args.code.now in
    let inside = marked-inside code c.args.heights.now.items c.args.place c.requires.size c.requires.marked in
    let g : slice_get c.args.code.now.instrs.items c.args.place ≡ Some c.index.result.now = read-at _ c.args.place c.index.result.now inside.1 c.index.ensures in
    let marked : IsMarked c.args.heights.now.items c.args.place c.in-Some.height = read-marked _ c.args.place c.in-Some.height c.index-2.result.now inside.0 c.index-2.ensures c.in-Some.is in
    let way = c.requires.sound c.args.place c.in-Some.height marked in
    elim c.then-popped-height.branch [
      | then-popped-height-via-then-popped-height w ↦ bad-enough code c.args.place c.in-Some.height c.index.result.now g way (λ h. omega (arith, c.pops-popped.ensures, w.if-popped-height.true, h))
      | then-popped-height-via-else-popped-height+then-not-leaves_results w ↦ bad-results code c.args.place c.in-Some.height c.index.result.now g way (when_false (LeavesResults code c.args.place c.in-Some.height c.index.result.now) _ (search rules) w.leaves_results.ensures)
    ]

pub pass_to_next-requires-clause-inside : goal.pass_to_next-requires-clause-inside
pass_to_next-requires-clause-inside c =
    let code = code_of c.args.code.now in
    let inside = marked-inside code c.args.heights.now.items c.args.place c.requires.size c.requires.marked in
    let g : slice_get c.args.code.now.instrs.items c.args.place ≡ Some c.index.result.now = read-at _ c.args.place c.index.result.now inside.1 c.index.ensures in
    λ on. let n = next-inside code c.args.place c.index.result.now c.requires.alone g on in omega (arith, n, c.requires.size)

pub pass_to_next-requires-clause-small : goal.pass_to_next-requires-clause-small
pass_to_next-requires-clause-small c =
    let inside = marked-inside (code_of c.args.code.now) c.args.heights.now.items c.args.place c.requires.size c.requires.marked in
    omega (arith, inside.1, c.requires.small)

pub pass_to_target-requires : goal.pass_to_target-requires
pass_to_target-requires c =
    let code = code_of c.args.code.now in
    let inside = marked-inside code c.args.heights.now.items c.args.place c.requires.size c.requires.marked in
    let g : slice_get c.args.code.now.instrs.items c.args.place ≡ Some c.index.result.now = read-at _ c.args.place c.index.result.now inside.1 c.index.ensures in
    record { inside = λ t to. let n = target-inside code c.args.place t c.index.result.now c.requires.alone g to in omega (arith, n, c.requires.size, c.in-Done.ensures.grows.size) }

pub returns-in-Done-clause-passed : goal.returns-in-Done-clause-passed
returns-in-Done-clause-passed c =
    let code = code_of c.args.code.now in
    let p = c.args.place in
    let h = c.in-Some.height in
    let a = c.in-Some-checked_add.after in
    let i = c.index.result.now in
    let inside = marked-inside code c.args.heights.now.items p c.requires.size c.requires.marked in
    let g : slice_get c.args.code.now.instrs.items p ≡ Some i = read-at _ p i inside.1 c.index.ensures in
    let marked : IsMarked c.args.heights.now.items p h = read-marked _ p h c.index-2.result.now inside.0 c.index-2.ensures c.in-Some.is in
    let much : pops i ≤ h = omega (arith, c.pops-popped.ensures, c.if-popped-height.false) in
    let is_after : a ≡ h - pops i + pushes code i = omega (arith, c.in-Some-checked_add.ensures.1, c.pops-popped.ensures, c.pushes.ensures.value) in
    let enough : IsEnough code p h i = record { enough = much; results = when_true {b = c.leaves_results.result} (LeavesResults code p h i) _ (search rules) c.leaves_results.ensures } in
    passed-all code p h a i c.args.heights.now.items c.pass_to_next.new.heights.items c.args.work.now.items c.pass_to_next.new.work.items is_after c.requires.alone c.requires.sound g marked enough c.in-Done.ensures.grows c.pass_to_target.new.heights.items c.pass_to_target.new.work.items c.pass_to_target.result c.in-Done.ensures.passed c.pass_to_target.ensures.grows c.pass_to_target.ensures.passed

pub returns-in-Done-clause-grows : goal.returns-in-Done-clause-grows
returns-in-Done-clause-grows c =
    let code = code_of c.args.code.now in
    let p = c.args.place in
    let h = c.in-Some.height in
    let a = c.in-Some-checked_add.after in
    let i = c.index.result.now in
    let inside = marked-inside code c.args.heights.now.items p c.requires.size c.requires.marked in
    let g : slice_get c.args.code.now.instrs.items p ≡ Some i = read-at _ p i inside.1 c.index.ensures in
    let marked : IsMarked c.args.heights.now.items p h = read-marked _ p h c.index-2.result.now inside.0 c.index-2.ensures c.in-Some.is in
    let much : pops i ≤ h = omega (arith, c.pops-popped.ensures, c.if-popped-height.false) in
    let is_after : a ≡ h - pops i + pushes code i = omega (arith, c.in-Some-checked_add.ensures.1, c.pops-popped.ensures, c.pushes.ensures.value) in
    let enough : IsEnough code p h i = record { enough = much; results = when_true {b = c.leaves_results.result} (LeavesResults code p h i) _ (search rules) c.leaves_results.ensures } in
    passed-grows code p h a i c.args.heights.now.items c.pass_to_next.new.heights.items c.args.work.now.items c.pass_to_next.new.work.items is_after c.requires.alone c.requires.sound g marked enough c.in-Done.ensures.grows c.pass_to_target.new.heights.items c.pass_to_target.new.work.items c.pass_to_target.result c.pass_to_target.ensures.grows

pub returns-in-Bad-clause-passed : goal.returns-in-Bad-clause-passed
returns-in-Bad-clause-passed c =
    let code = code_of c.args.code.now in
    let p = c.args.place in
    let h = c.in-Some.height in
    let a = c.in-Some-checked_add.after in
    let i = c.index.result.now in
    let inside = marked-inside code c.args.heights.now.items p c.requires.size c.requires.marked in
    let g : slice_get c.args.code.now.instrs.items p ≡ Some i = read-at _ p i inside.1 c.index.ensures in
    let marked : IsMarked c.args.heights.now.items p h = read-marked _ p h c.index-2.result.now inside.0 c.index-2.ensures c.in-Some.is in
    let much : pops i ≤ h = omega (arith, c.pops-popped.ensures, c.if-popped-height.false) in
    let is_after : a ≡ h - pops i + pushes code i = omega (arith, c.in-Some-checked_add.ensures.1, c.pops-popped.ensures, c.pushes.ensures.value) in
    bad-next code p h a c.in-Bad.at i c.args.heights.now.items is_after c.requires.alone c.requires.sound g marked much c.in-Bad.ensures.passed
