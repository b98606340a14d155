use Rattle.std.proofs.Common.{◌≡◌, Err, sym, subst, rules}
use Rattle.cal_check.specs.Actors.{ins_of, outs_of}
use Rattle.cal_check.specs.Ports.{each_port}
use Rattle.cal_check.specs.Variables.{found_in}
use Rattle.cal_check.specs.Violations.{all_broken}
use Rattle.cal_model.specs.Sound.{Each}
use Rattle.const_env.specs.Counting.{names_view}
use Rattle.check_variable.specs.Views.{ports_tree}
use Rattle.check_actor.specs.Phases.{header_over}
use Rattle.check_actor.specs.Sifting.{IsLack, Sifts}
use Rattle.check_actor.specs.Sources.{source_in}
use Rattle.check_actor.proofs.Sifted.{header_sifted, ins_refused, outs_refused}
use Rattle.check_actor.proofs.sifting.sift_header.Goals as goal

pub returns-in_err-sift_ports : goal.returns-in_err-sift_ports
returns-in_err-sift_ports c =
    let s = source_in c.args.scope.now in
    let names = names_view c.args.names.now in
    let f = c.in_err-sift_ports.field-0.0 in
    let same : c.from_residual.result ≡ Err f = search rules in
    let ins : Sifts (Err f) (found_in s.file (all_broken (each_port (ins_of s.actor) names))) =
    subst (λ ps. Sifts (Err f) (found_in s.file (all_broken (each_port (ports_tree ps) names)))) c.deref.ensures.value c.in_err-sift_ports.ensures in
    subst (λ r. Sifts r (header_over s names)) (sym same) (ins_refused f s names ins)

pub returns-in_err-sift_ports-2 : goal.returns-in_err-sift_ports-2
returns-in_err-sift_ports-2 c =
    let s = source_in c.args.scope.now in
    let names = names_view c.args.names.now in
    let f = c.in_err-sift_ports-2.field-0.0 in
    let same : c.from_residual-in_err-sift_ports-2.result ≡ Err f = search rules in
    let outs : Sifts (Err f) (found_in s.file (all_broken (each_port (outs_of s.actor) names))) =
    subst (λ ps. Sifts (Err f) (found_in s.file (all_broken (each_port (ports_tree ps) names)))) c.deref-2.ensures.value c.in_err-sift_ports-2.ensures in
    subst (λ r. Sifts r (header_over s names)) (sym same) (outs_refused f s names outs)

pub returns : goal.returns
returns c =
    let s = source_in c.args.scope.now in
    let names = names_view c.args.names.now in
    let ins : Each IsLack (found_in s.file (all_broken (each_port (ins_of s.actor) names))) =
    subst (λ ps. Each IsLack (found_in s.file (all_broken (each_port (ports_tree ps) names)))) c.deref.ensures.value c.in_ok-sift_ports.ensures in
    let outs : Each IsLack (found_in s.file (all_broken (each_port (outs_of s.actor) names))) =
    subst (λ ps. Each IsLack (found_in s.file (all_broken (each_port (ports_tree ps) names)))) c.deref-2.ensures.value c.in_ok-sift_ports-2.ensures in
    header_sifted c.sift_bare.result s names ins outs c.sift_bare.ensures
