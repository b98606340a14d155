use Rattle.std.proofs.Common.{map, sym, ap, ◌∙◌}
use Rattle.cal_check.specs.Violations.{all_broken, all_fine}
use Rattle.const_env.specs.Held.{names_in}
use Rattle.fnl_bind.specs.Values.{sizes_judged}
use Rattle.fnl_frames.specs.Views.{size_of}
use Rattle.fnl_values.proofs.Parts.{largest_all, no_items}
use Rattle.fnl_values.proofs.sizes.largest.Goals as goal

pub returns : goal.returns
returns c =
    let names = names_in c.args.env.now in
    let none = no_items c.sizes.rest.now c.in_default.ensures.cases in (
      sym c.sizes.invariant.broken ∙ ap (λ zs. all_broken (sizes_judged (map size_of zs) names)) none,
      largest_all c.sizes.found (all_fine (sizes_judged (map size_of c.sizes.rest.now) names)) (all_fine (sizes_judged (map size_of c.args.sizes.now) names))
          (ap (λ zs. all_fine (sizes_judged (map size_of zs) names)) none) c.sizes.invariant.largest,
    )
