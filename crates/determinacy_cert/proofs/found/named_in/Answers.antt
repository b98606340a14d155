use Rattle.std.proofs.Common.{◌≡◌, suc, ◌-◌, Some, map, drop, get_or, sym, ap, ◌∙◌, arith}
use Rattle.std.specs.Prelude.{string_bytes}
use Rattle.cal_model.specs.View.{pattern_view}
use Rattle.determinacy_cert.specs.Deciding.{last_place, named_in}
use Rattle.determinacy_cert.proofs.Places.{named_here, named_at}
use Rattle.determinacy_cert.proofs.found.named_in.Goals as goal

pub returns-in-Some : goal.returns-in-Some
returns-in-Some c =
    let next : suc (c.backwards.index - 1) ≡ c.backwards.index = omega arith in
    let place : last_place c.args.name.now (pattern_view (get_or c.args.patterns.now (c.backwards.index - 1) c.index-patterns-index.result)).names ≡ Some c.in-Some.place =
    ap (λ q. last_place c.args.name.now (pattern_view q).names) (sym c.index-patterns-index.is)
    ∙ ap (λ ns. last_place c.args.name.now (map string_bytes ns)) (sym c.deref.ensures.value) ∙ sym c.in-Some.ensures in
    ap (λ q. named_at (pattern_view q) c.in-Some.place) c.index-patterns-index.is
    ∙ sym (named_here pattern_view c.args.name.now c.args.patterns.now (c.backwards.index - 1) c.index-patterns-index.result c.in-Some.place (omega arith) place
    (ap (λ k. named_in c.args.name.now (map pattern_view (drop k c.args.patterns.now))) next ∙ c.backwards.invariant.1))
