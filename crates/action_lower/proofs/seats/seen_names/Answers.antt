use Rattle.std.proofs.Common.{length, map, subst, sym, ◌≤◌}
use Rattle.cal_model.specs.Sound.{Each, max_rate}
use Rattle.cal_model.specs.View.{action_view, actor_of, pattern_view}
use Rattle.action_lower.proofs.PatternRates.{few-names, take-their-own}
use Rattle.action_lower.proofs.seats.seen_names.Goals as goal

pub put_patterns-requires : goal.put_patterns-requires
put_patterns-requires c =
    let act = action_view c.args.act.now in
    let few : Each (λ q. length q.names ≤ max_rate) act.patterns = few-names (actor_of c.args.b.now) act.patterns act.patterns c.requires.few c.requires.action.patterns (take-their-own act.patterns c.requires.action.ports_in) in
    record { few = subst (λ qs. Each (λ q. length q.names ≤ max_rate) (map pattern_view qs)) (sym c.deref-2.ensures.value) few }
