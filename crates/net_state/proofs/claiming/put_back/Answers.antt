use Rattle.std.proofs.Common.{rules, ◌≡◌, ◌+◌, ◌<◌, ◌++◌, ◌∷◌, ◌∙◌, length, ap, subst, arith}
use Rattle.net_model.specs.Paced.{count_picked}
use Rattle.net_state.specs.Claiming.{back, merged}
use Rattle.net_state.proofs.Putting.{nexts, put_next}
use Rattle.net_state.proofs.claiming.put_back.Goals as goal

pub next_cell-cell-requires : goal.next_cell-cell-requires
next_cell-cell-requires g c =
    let opened : c.loop-marked.left.now ≡ c.in-Some.marked.now ∷ c.in-Some.others.now = search rules in
    let rest = c.loop-marked.rest.items in
    record {
      some = nexts c.in-Some.marked.now c.in-Some.others.now c.loop-marked.tasks.items rest (c.loop-marked.invariant.1 ∙ ap count_picked opened)
          (subst (λ l. length rest + count_picked l ≡ length l) opened c.loop-marked.invariant.2);
    }

pub loop-marked-smaller : goal.loop-marked-smaller
loop-marked-smaller g c =
    let opened : c.loop-marked.left.now ≡ c.in-Some.marked.now ∷ c.in-Some.others.now = search rules in
    let more : length c.loop-marked.left.now ≡ length (c.in-Some.marked.now ∷ c.in-Some.others.now) = ap length opened in
    let less : length c.in-Some.others.now < length c.loop-marked.left.now = omega (arith, more) in
    less

pub loop-marked-preserved : goal.loop-marked-preserved
loop-marked-preserved g c =
    let opened : c.loop-marked.left.now ≡ c.in-Some.marked.now ∷ c.in-Some.others.now = search rules in
    let more : length c.loop-marked.left.now ≡ length (c.in-Some.marked.now ∷ c.in-Some.others.now) = ap length opened in
    let inv = c.loop-marked.invariant in
    let tasks = c.loop-marked.tasks.items in
    let rest = c.loop-marked.rest.items in
    let others = c.in-Some.others.now in
    let whole = merged c.args.marks.now (back c.args.tasks.items) (back c.args.rest.items) in
    let next = put_next whole c.in-Some.marked.now others c.loop-marked.cells.items tasks c.next_cell-cell.new.tasks.items rest c.next_cell-cell.new.rest.items c.next_cell-cell.result
    c.next_cell-cell.ensures (inv.1 ∙ ap count_picked opened) (subst (λ l. length rest + count_picked l ≡ length l) opened inv.2)
    (subst (λ l. c.loop-marked.cells.items ++ merged l (back tasks) (back rest) ≡ whole) opened inv.0) in (
      ap (λ cs. cs ++ merged others (back c.next_cell-cell.new.tasks.items) (back c.next_cell-cell.new.rest.items)) c.push_reserved.ensures.items ∙ next.0,
      next.1,
      next.2,
      omega (arith, inv.3, more, c.push_reserved.ensures.len, c.push_reserved.ensures.capacity),
    )
