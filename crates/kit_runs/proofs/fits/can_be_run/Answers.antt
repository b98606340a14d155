use Rattle.std.proofs.Common.{◌≡◌, ◌≤◌, true, length, subst, sym, arith, rules}
use Rattle.std.specs.Arc.{arc_value}
use Rattle.std.proofs.lemmas.List.{length-map}
use Rattle.net_model.specs.Limits.{max_instances}
use Rattle.kit_runs.proofs.fits.can_be_run.Goals as goal

pub returns : goal.returns
returns c =
    let few : length c.args.actors.now ≤ max_instances = search (rules, arith) in
    let plan_yes : c.is_plan_fine.result ≡ true = search rules in
    let wiring_yes : c.is_wiring_fine.result ≡ true = search rules in
    let rates_yes : c.have_few_rates.result ≡ true = search rules in
    λ links_yes. record {
      plan_is = c.is_plan_fine.ensures plan_yes;
      wiring_is = c.is_wiring_fine.ensures wiring_yes;
      few_actors = subst (λ n. n ≤ max_instances) (sym (length-map c.args.actors.now arc_value)) few;
      rates = c.have_few_rates.ensures rates_yes;
      links = c.are_links_fine.ensures links_yes;
    }
