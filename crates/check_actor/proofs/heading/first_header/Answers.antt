use Rattle.std.proofs.Common.{◌≡◌, [], map, rules}
use Rattle.std.specs.Prelude.{Some}
use Rattle.cal_check.specs.Actors.{ins_of, outs_of, place_of}
use Rattle.cal_check.specs.Ports.{each_port, header_broken}
use Rattle.cal_check.specs.Violations.{all_fine}
use Rattle.cal_model.specs.View.{port_view}
use Rattle.const_env.specs.Counting.{names_view}
use Rattle.check_actor.specs.Sources.{source_in}
use Rattle.check_actor.proofs.Ported.{header_is}
use Rattle.check_actor.proofs.heading.first_header.Goals as goal

pub returns-in-Ok : goal.returns-in-Ok
returns-in-Ok c =
    let s = source_in c.args.scope.now in
    let names = names_view c.args.names.now in
    let h = c.in-Ok.header in
    let fine : header_broken (ins_of s.actor) (outs_of s.actor) (place_of s.actor) names ≡ [] = search rules in
    let ins : all_fine (each_port (ins_of s.actor) names) ≡ Some (map port_view h.ins.items) = search rules in
    let outs : all_fine (each_port (outs_of s.actor) names) ≡ Some (map port_view h.outs.items) = search rules in
    header_is h s names c.what_breaks_no_rule_is_sound.ensures.header fine ins outs
