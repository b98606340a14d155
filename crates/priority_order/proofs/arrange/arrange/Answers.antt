use Rattle.std.proofs.Common.{ℕ, ◌-◌, ◌<◌, ◌≤◌, false, [], ◌∷◌, ◌++◌, length, get_or, vec_len, arith, length-append}
use Rattle.std.specs.Prelude.{IsTrue}
use Rattle.rvc_base.specs.Line.{MayStand, IsNext}
use Rattle.priority_order.specs.Ranking.{Above}
use Rattle.priority_order.proofs.Rings.{length-le_from_distinct}
use Rattle.priority_order.proofs.Lines.{arranged_more, all_stand, line_distinct, line_in_range}
use Rattle.priority_order.proofs.arrange.arrange.Goals as goal

pub loop-next-preserved : goal.loop-next-preserved
loop-next-preserved c =
    let next : IsNext c.args.n (Above c.args.n c.args.table.now) (λ a. IsTrue (get_or c.loop-next.stands.items a false)) c.in-Some.next = rw (← c.deref.ensures.value) c.in-Some.ensures in
    rw (c.from-in-Some.ensures, c.in_ok-push.ensures.items)
    (arranged_more c.args.n c.args.table.now c.loop-next.stands.items c.loop-next.line.items c.in-Some.next c.loop-next.invariant next)

pub loop-next-smaller : goal.loop-next-smaller
loop-next-smaller c =
    let above = Above c.args.n c.args.table.now in
    let next : IsNext c.args.n above (λ a. IsTrue (get_or c.loop-next.stands.items a false)) c.in-Some.next = rw (← c.deref.ensures.value) c.in-Some.ensures in
    let line = c.loop-next.line.items ++ c.in-Some.next ∷ [] in
    let each = (arranged_more c.args.n c.args.table.now c.loop-next.stands.items c.loop-next.line.items c.in-Some.next c.loop-next.invariant next).next in
    let longer : length line ≤ c.args.n = length-le_from_distinct line c.args.n (line_distinct c.args.n above line each) (line_in_range c.args.n above line each) in
    let less : c.args.n - vec_len c.push.new.self < c.args.n - vec_len c.loop-next.line = omega (arith, c.in_ok-push.ensures.len, length-append c.loop-next.line.items (c.in-Some.next ∷ []), c.loop-next.line.ok.0) in
    less

pub returns : goal.returns
returns c =
    let none : (b : ℕ) → ¬ MayStand c.args.n (Above c.args.n c.args.table.now) (λ a. IsTrue (get_or c.loop-next.stands.items a false)) b = rw (← c.deref.ensures.value) c.in_default.ensures in
    record {
      each = λ a a_in. (c.loop-next.invariant.marks a a_in).0 (all_stand c.args.n c.args.table.now c.loop-next.stands.items c.requires none a a_in);
      next = c.loop-next.invariant.next;
    }
