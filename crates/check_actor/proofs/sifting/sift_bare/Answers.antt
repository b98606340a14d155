use Rattle.std.proofs.Common.{rules}
use Rattle.std.specs.Prelude.{Contains}
use Rattle.cal_check.specs.Actors.{ins_of, outs_of, place_of}
use Rattle.check_member.specs.Parts.{bare_header_broken}
use Rattle.check_actor.specs.Sources.{source_in}
use Rattle.check_actor.proofs.Sifted.{bare_refused}
use Rattle.check_actor.proofs.sifting.sift_bare.Goals as goal

pub returns-in-Err-Broken : goal.returns-in-Err-Broken
returns-in-Err-Broken c =
    let s = source_in c.args.scope.now in
    let broken : Contains (bare_header_broken (ins_of s.actor) (outs_of s.actor) (place_of s.actor)) (record { rule = c.in-Err-Broken.rule; at = c.in-Err-Broken.at }) = search rules in
    bare_refused s.file (ins_of s.actor) (outs_of s.actor) (place_of s.actor) c.in-Err-Broken.at c.in-Err-Broken.rule broken
