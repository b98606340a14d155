use Rattle.std.proofs.Common.{◌≡◌, [], ◌∷◌, length, map, reverse, refl, sym, ap, ◌∙◌, rules}
use Rattle.std.specs.Prelude.{string_bytes}
use Rattle.fnl_bind.specs.Scopes.{scope_broken}
use Rattle.fnl_frames.specs.Views.{net_of}
use Rattle.fnl_values.specs.Visiting.{visit_of}
use Rattle.fnl_walk.proofs.Circles.{none_found}
use Rattle.fnl_walk.proofs.Opened.{opens_so}
use Rattle.fnl_walk.proofs.Stacks.{nets_count}
use Rattle.fnl_walk.specs.Opening.{bare_net, place_standing, with_class, with_net}
use Rattle.fnl_walk.specs.Steps.{opened}
use Rattle.fnl_walk.specs.View.{walk_view}
use Rattle.fnl_walk.proofs.open.open_net.Goals as goal

pub returns-in-Ok-add_net : goal.returns-in-Ok-add_net
returns-in-Ok-add_net c =
    let old = walk_view c.args.walk.now in
    let middle = walk_view c.add_class.new.walk in
    let entered : middle ≡ with_class c.args.at.class.now old = c.in-Ok.ensures in
    let above : c.deref.result.now ≡ c.add_class.new.walk.above.items = search rules in
    let classes : reverse (map string_bytes c.deref.result.now) ≡ c.args.at.class.now ∷ old.above = ap (λ cs. reverse (map string_bytes cs)) above ∙ ap (λ w. w.above) entered in
    let scope : scope_broken (net_of c.args.at.source.now.net) c.args.at.class.now (c.args.at.class.now ∷ old.above) ≡ [] =
    ap (scope_broken (net_of c.args.at.source.now.net) c.args.at.class.now) (sym classes) ∙ none_found c.args.at.source.now.file (scope_broken (net_of c.args.at.source.now.net) c.args.at.class.now (reverse (map string_bytes c.deref.result.now))) c.in_ok-scopes_hold.ensures in
    let values = c.in_ok-values.values in
    let file = c.args.at.source.now.file in
    let path = c.args.at.path.now in
    let levels = c.args.at.levels in
    let count : length c.add_class.new.walk.nets.items ≡ length old.grown.nets = sym (nets_count c.add_class.new.walk.nets.items) ∙ ap (λ w. length w.grown.nets) entered in
    opens_so levels (place_standing c.args.at old.above) c.args.at.class.now old (walk_view c.add_net.new.walk) values refl scope c.in_ok-values.ensures.0 c.in_ok-values.ensures.1
    (c.in-Ok-add_net.ensures
    ∙ ap (λ n. with_net (opened file n path levels (map visit_of values.visits.items)) (bare_net file path values) middle) count
    ∙ ap (with_net (opened file (length old.grown.nets) path levels (map visit_of values.visits.items)) (bare_net file path values)) entered)
