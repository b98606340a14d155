use Rattle.std.proofs.Common.{◌≡◌, Err, length, sym, ap, subst, ◌∙◌, rules}
use Rattle.std.specs.Prelude.{IfErr, Some, option_map}
use Rattle.fnl_bind.specs.Answers.{IsRefused}
use Rattle.fnl_bind.specs.Library.{Entry, network_of}
use Rattle.fnl_bind.specs.Networks.{own_found}
use Rattle.fnl_bind.specs.Trees.{top_place, tree_with}
use Rattle.fnl_tree.specs.Sound.{IsSound}
use Rattle.check_given.specs.Causes.{IsCause}
use Rattle.fnl_walk.proofs.Ending.{Ends, ends_so, keeps_all, keeps_on, nothing, starts, starts_steady, step_refused, top_refused, top_under}
use Rattle.fnl_walk.specs.Steps.{Keeps, Opens, steps_left}
use Rattle.fnl_walk.specs.View.{walk_view}
use Rattle.fnl_bind.specs.View.{entry_under, networks}
use Rattle.std.proofs.Common.{[], ◌<◌}
use Rattle.fnl_walk.proofs.start.bind.Goals as goal

pub returns-in_err-open_net-clause-refused : goal.returns-in_err-open_net-clause-refused
returns-in_err-open_net-clause-refused c =
    let library = networks c.args.nets.now in
    let e : Entry = entry_under c.args.top.now c.in-Some.entry.now in
    let some : network_of c.args.top.now library ≡ Some e = sym c.get.ensures ∙ ap (option_map (λ x. entry_under c.args.top.now x.now)) c.in-Some.is in
    let same : c.from_residual.result ≡ Err c.in_err-open_net.field-0.0 = search rules in
    let cause : IsCause c.in_err-open_net.field-0.0 (own_found (top_place e)) =
    subst (λ w. IsCause c.in_err-open_net.field-0.0 (own_found (top_under e w.above))) c.nothing_open-walk.ensures c.in_err-open_net.ensures in
    subst (λ r. IfErr r (IsRefused library c.args.top.now)) (sym same) (top_refused library c.args.top.now e c.in_err-open_net.field-0.0 some cause)

pub steps-init : goal.steps-init
steps-init c =
    let library = networks c.args.nets.now in
    let e : Entry = entry_under c.args.top.now c.in-Some.entry.now in
    let first : Opens c.len.result (top_place e) nothing (walk_view c.open_net.new.walk) =
    subst (λ w. Opens c.len.result (top_under e w.above) w (walk_view c.open_net.new.walk)) c.nothing_open-walk.ensures c.in_ok-open_net.ensures in
    let opens : Opens (length library) (top_place e) nothing (walk_view c.open_net.new.walk) = subst (λ n. Opens n (top_place e) nothing (walk_view c.open_net.new.walk)) c.len.ensures first in
    keeps_all library (walk_view c.open_net.new.walk) (starts_steady library e (walk_view c.open_net.new.walk) opens)

pub returns-in_err-step-clause-refused : goal.returns-in_err-step-clause-refused
returns-in_err-step-clause-refused c =
    let library = networks c.args.nets.now in
    let e : Entry = entry_under c.args.top.now c.in-Some.entry.now in
    let some : network_of c.args.top.now library ≡ Some e = sym c.get.ensures ∙ ap (option_map (λ x. entry_under c.args.top.now x.now)) c.in-Some.is in
    let first : Opens c.len.result (top_place e) nothing (walk_view c.open_net.new.walk) =
    subst (λ w. Opens c.len.result (top_under e w.above) w (walk_view c.open_net.new.walk)) c.nothing_open-walk.ensures c.in_ok-open_net.ensures in
    let opens : Opens (length library) (top_place e) nothing (walk_view c.open_net.new.walk) = subst (λ n. Opens n (top_place e) nothing (walk_view c.open_net.new.walk)) c.len.ensures first in
    let same : c.from_residual-in_err-step.result ≡ Err c.in_err-step.field-0.0 = search rules in
    subst (λ r. IfErr r (IsRefused library c.args.top.now)) (sym same)
    (step_refused library c.args.top.now e (walk_view c.open_net.new.walk) (walk_view c.steps.walk) c.in_err-step.field-0.0 some (starts library e (walk_view c.open_net.new.walk) opens) c.steps.invariant c.in_err-step.ensures)

pub steps-preserved : goal.steps-preserved
steps-preserved c =
    let library = networks c.args.nets.now in
    let goes : Keeps library (walk_view c.steps.walk) (walk_view c.step.new.walk) × (steps_left (walk_view c.step.new.walk) < steps_left (walk_view c.steps.walk)) = search rules in
    keeps_on library (walk_view c.open_net.new.walk) (walk_view c.steps.walk) (walk_view c.step.new.walk) c.steps.invariant goes.0

pub returns-clause-bound : goal.returns-clause-bound
returns-clause-bound c =
    let library = networks c.args.nets.now in
    let e : Entry = entry_under c.args.top.now c.in-Some.entry.now in
    let some : network_of c.args.top.now library ≡ Some e = sym c.get.ensures ∙ ap (option_map (λ x. entry_under c.args.top.now x.now)) c.in-Some.is in
    let first : Opens c.len.result (top_place e) nothing (walk_view c.open_net.new.walk) =
    subst (λ w. Opens c.len.result (top_under e w.above) w (walk_view c.open_net.new.walk)) c.nothing_open-walk.ensures c.in_ok-open_net.ensures in
    let opens : Opens (length library) (top_place e) nothing (walk_view c.open_net.new.walk) = subst (λ n. Opens n (top_place e) nothing (walk_view c.open_net.new.walk)) c.len.ensures first in
    let done : (walk_view c.step.new.walk ≡ walk_view c.steps.walk) × ((walk_view c.steps.walk).open_nets ≡ []) = search rules in
    let ends : Ends library c.args.top.now (walk_view c.steps.walk) = ends_so library c.args.top.now e (walk_view c.open_net.new.walk) (walk_view c.steps.walk) some opens c.steps.invariant done.1 in
    record { conforms = ends.conforms; is = ap (λ w. tree_with w.grown) done.0 ∙ ends.bound }

pub returns-clause-sound : goal.returns-clause-sound
returns-clause-sound c =
    let library = networks c.args.nets.now in
    let e : Entry = entry_under c.args.top.now c.in-Some.entry.now in
    let some : network_of c.args.top.now library ≡ Some e = sym c.get.ensures ∙ ap (option_map (λ x. entry_under c.args.top.now x.now)) c.in-Some.is in
    let first : Opens c.len.result (top_place e) nothing (walk_view c.open_net.new.walk) =
    subst (λ w. Opens c.len.result (top_under e w.above) w (walk_view c.open_net.new.walk)) c.nothing_open-walk.ensures c.in_ok-open_net.ensures in
    let opens : Opens (length library) (top_place e) nothing (walk_view c.open_net.new.walk) = subst (λ n. Opens n (top_place e) nothing (walk_view c.open_net.new.walk)) c.len.ensures first in
    let done : (walk_view c.step.new.walk ≡ walk_view c.steps.walk) × ((walk_view c.steps.walk).open_nets ≡ []) = search rules in
    let ends : Ends library c.args.top.now (walk_view c.steps.walk) = ends_so library c.args.top.now e (walk_view c.open_net.new.walk) (walk_view c.steps.walk) some opens c.steps.invariant done.1 in
    subst IsSound (sym (ap (λ w. tree_with w.grown) done.0 ∙ ends.bound))
    (c.bound_trees_are_sound.ensures.sound library c.args.top.now e some ends.conforms)
