use Rattle.std.proofs.Common.{◌≡◌, ◌≤◌, true, length, map, subst, sym, arith, rules}
use Rattle.std.specs.Arc.{arc_value}
use Rattle.std.proofs.lemmas.List.{length-map}
use Rattle.kit_runs.specs.Fits.{HasFewRates}
use Rattle.kit_runs.proofs.Picked.{first_all, first_more}
use Rattle.kit_runs.proofs.fits.have_few_rates.Goals as goal

pub loop-i-preserved : goal.loop-i-preserved
loop-i-preserved c =
    let yes : c.has_few_rates.result ≡ true = search rules in
    let same : c.deref.result.now ≡ arc_value c.actor_at.result.now = search rules in
    first_more (map arc_value c.args.actors.now) HasFewRates c.loop-i.i (arc_value c.actor_at.result.now) c.actor_at.ensures c.loop-i.invariant
    (subst HasFewRates same (c.has_few_rates.ensures yes))

pub returns : goal.returns
returns c =
    let all : length c.args.actors.now ≤ c.loop-i.i = search (rules, arith) in
    λ yes. first_all (map arc_value c.args.actors.now) HasFewRates c.loop-i.i (subst (λ n. n ≤ c.loop-i.i) (sym (length-map c.args.actors.now arc_value)) all) c.loop-i.invariant
