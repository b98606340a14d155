use Rattle.std.proofs.Common.{◌≡◌, ◌-◌, ◌*◌, length, sym, ap, ◌∙◌, arith}
use Rattle.rvc_base.specs.Picks.{number_at}
use Rattle.round_plan.specs.Asked.{Asked}
use Rattle.round_plan.proofs.Sequence.{number_at-number_at, marks-from, start_of, end_of}
use Rattle.round_plan.proofs.seed.SeedPolicyPolicy.pick.Goals as goal

pub invariant_of-self : goal.invariant_of-self
invariant_of-self c =
    let inside = c.self.inside in
    let n = length c.args.picked.now in
    let rounds : inside.rounds ≡ c.args.self.now.rounds = ap (λ (a : Asked). a.rounds) c.self.view_is in
    let instances : inside.instances ≡ c.args.self.now.instances = ap (λ (a : Asked). a.instances) c.self.view_is in
    let start : inside.rounds * inside.instances ≡ (c.args.round - 1) * n =
    start_of c.args.round inside.rounds inside.instances n (omega arith) (λ asked. c.requires.same_instances (omega arith) ∙ sym instances) in
    let last : inside.last ≡ number_at inside.seed ((c.args.round - 1) * n) = c.self.invariant ∙ ap (number_at inside.seed) start in
    c.mark_by_sequence-self-inside.ensures.last
    ∙ ap (λ x. number_at x n) last
    ∙ number_at-number_at inside.seed ((c.args.round - 1) * n) n
    ∙ ap (number_at inside.seed) (end_of c.args.round n _ (omega arith) (omega arith))

pub returns-clause-picks : goal.returns-clause-picks
returns-clause-picks c =
    let inside = c.self.inside in
    let n = length c.args.picked.now in
    let rounds : inside.rounds ≡ c.args.self.now.rounds = ap (λ (a : Asked). a.rounds) c.self.view_is in
    let instances : inside.instances ≡ c.args.self.now.instances = ap (λ (a : Asked). a.instances) c.self.view_is in
    let start : inside.rounds * inside.instances ≡ (c.args.round - 1) * n =
    start_of c.args.round inside.rounds inside.instances n (omega arith) (λ asked. c.requires.same_instances (omega arith) ∙ sym instances) in
    let last : inside.last ≡ number_at inside.seed ((c.args.round - 1) * n) = c.self.invariant ∙ ap (number_at inside.seed) start in
    rw (← c.self.view_is) (c.mark_by_sequence-self-inside.ensures.marks ∙ marks-from inside.seed inside.last ((c.args.round - 1) * n) n last)
