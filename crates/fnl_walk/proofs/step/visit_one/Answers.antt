use Rattle.std.proofs.Common.{◌≡◌, ◌<◌, ◌≤◌, length, sym, ap, subst, ◌∙◌, rules, arith}
use Rattle.std.specs.Prelude.{None, Some, option_map, string_bytes}
use Rattle.net_model.specs.Limits.{max_instances}
use Rattle.fnl_bind.specs.Library.{network_of}
use Rattle.fnl_values.specs.Visiting.{visit_of}
use Rattle.fnl_walk.proofs.Stacks.{leaves_count, nets_count}
use Rattle.fnl_walk.proofs.Visiting.{goes_leaf, visits_net}
use Rattle.fnl_walk.specs.Steps.{Keeps, steps_left}
use Rattle.fnl_walk.specs.View.{open_of, walk_view}
use Rattle.fnl_walk.specs.Visited.{before}
use Rattle.fnl_walk.specs.Walk.{count_of}
use Rattle.fnl_bind.specs.View.{entry_under, networks}
use Rattle.std.proofs.Common.{refl}
use Rattle.fnl_walk.proofs.step.visit_one.Goals as goal

pub returns-in-Some : goal.returns-in-Some
returns-in-Some c =
    let library = networks c.args.nets.now in
    let w = walk_view c.args.walk.now in
    let nets : c.len.result ≡ length c.args.walk.now.nets.items = search rules in
    let leaves : c.len-2.result ≡ length c.args.walk.now.leaves.items = search rules in
    let few = c.if-len-gt-MAX_INSTANCES.false in
    let a = nets_count c.args.walk.now.nets.items in
    let b = leaves_count c.args.walk.now.leaves.items in
    let room : count_of w.grown ≤ max_instances = omega (arith, nets, leaves, few, a, b) in
    let class : c.as_str.result.now ≡ string_bytes c.args.visit.instance.now.class = search rules in
    let some : network_of (string_bytes c.args.visit.instance.now.class) library ≡ Some (entry_under (string_bytes c.args.visit.instance.now.class) c.in-Some.entry.now) =
    ap (λ n. network_of n library) (sym class) ∙ sym c.get.ensures ∙ ap (option_map (λ e. entry_under c.as_str.result.now e.now)) c.in-Some.is
    ∙ ap (λ n. Some (entry_under n c.in-Some.entry.now)) class in
    visits_net library (open_of c.args.here) (visit_of c.args.visit) (entry_under (string_bytes c.args.visit.instance.now.class) c.in-Some.entry.now) w (walk_view c.visit_net.new.walk) c.visit_net.result
    some refl c.requires room c.visit_net.ensures

pub returns-in-Ok : goal.returns-in-Ok
returns-in-Ok c =
    let library = networks c.args.nets.now in
    let w = walk_view c.args.walk.now in
    let nets : c.len.result ≡ length c.args.walk.now.nets.items = search rules in
    let leaves : c.len-2.result ≡ length c.args.walk.now.leaves.items = search rules in
    let few = c.if-len-gt-MAX_INSTANCES.false in
    let a = nets_count c.args.walk.now.nets.items in
    let b = leaves_count c.args.walk.now.leaves.items in
    let room : count_of w.grown ≤ max_instances = omega (arith, nets, leaves, few, a, b) in
    let class : c.as_str.result.now ≡ string_bytes c.args.visit.instance.now.class = search rules in
    let none : network_of (string_bytes c.args.visit.instance.now.class) library ≡ None =
    ap (λ n. network_of n library) (sym class) ∙ sym c.get.ensures ∙ ap (option_map (λ e. entry_under c.as_str.result.now e.now)) c.in-None.is in
    subst (λ x. Keeps library (before (open_of c.args.here) (visit_of c.args.visit) w) x × (steps_left x < steps_left (before (open_of c.args.here) (visit_of c.args.visit) w))) (sym c.in-Ok.ensures)
    (goes_leaf library (open_of c.args.here) (visit_of c.args.visit) w none c.requires room)
