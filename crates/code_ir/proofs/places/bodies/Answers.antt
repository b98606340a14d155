use Rattle.std.proofs.Common.{rules, ◌≡◌, ◌+◌, ◌-◌, arith, ◌∙◌}
use Rattle.code_ir.specs.Code.{body_of, code_of, begins, is_among}
use Rattle.code_ir.proofs.Tables.{table-more, body-step}
use Rattle.code_ir.proofs.places.bodies.Goals as goal
use Rattle.code_ir.proofs.places.bodies.Goals.{then-is_among, else-is_among}

pub loop-p-preserved : goal.loop-p-preserved
loop-p-preserved c =
    let p = c.loop-p.p in
    let code = code_of c.args.code.now in
    let place : c.in-Ok.place ≡ p = search rules in
    let among : c.is_among.result ≡ is_among p (begins code) = rw (← place, ← c.requires) c.is_among.ensures in
    let now : c.if-is_among.body ≡ body_of code p =
    elim c.if-is_among.branch [
      | then-is_among w ↦ body-step code p c.loop-p.body c.if-is_among.body c.loop-p.invariant.last (λ e. w.body-is ∙ place) (λ e. cc)
      | else-is_among w ↦ body-step code p c.loop-p.body c.if-is_among.body c.loop-p.invariant.last (λ e. cc) (λ e. w.body-is)
    ] in
    let end : p + 1 - 1 ≡ p = omega arith in
    record {
      so_far = rw (c.in_ok-push.ensures.items) (table-more p (body_of code) c.loop-p.bodies.items c.if-is_among.body c.loop-p.invariant.so_far now);
      last = rw end now;
    }
