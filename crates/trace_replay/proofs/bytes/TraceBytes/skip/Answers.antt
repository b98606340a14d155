use Rattle.std.proofs.Common.{◌≡◌, ◌∙◌, ◌-◌, ◌≤◌, ℕ, List, length, refl, subst, sym}
use Rattle.std.specs.Prelude.{take, drop, nat_eq}
use Rattle.std.specs.List.{starts_with}
use Rattle.trace_replay.proofs.Again.{skipped}
use Rattle.trace_replay.proofs.bytes.TraceBytes.skip.Goals as goal

pub returns-clause-yes : goal.returns-clause-yes
returns-clause-yes c = λ begins.
    let part : List ℕ → List ℕ = λ items. take (c.self.inside.end - c.self.inside.start) (drop c.self.inside.start items) in
    sym c.self.view_is ∙ skipped c.self.inside.bytes.items c.args.text.now c.self.inside.start c.self.inside.end c.starts_with.result
    (subst (λ items. length c.args.text.now ≤ length (part items)) c.deref.ensures.value (c.if-not-starts_with.ensures.bound refl))
    (subst (λ items. c.starts_with.result ≡ starts_with nat_eq (part items) c.args.text.now) c.deref.ensures.value c.starts_with.ensures.value)
    c.if-not-starts_with.false
