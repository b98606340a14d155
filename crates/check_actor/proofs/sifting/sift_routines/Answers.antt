use Rattle.std.proofs.Common.{subst, rules}
use Rattle.cal_check.specs.Actors.{all_funs, heads_broken}
use Rattle.cal_model.specs.Sound.{Each}
use Rattle.const_env.specs.Counting.{names_view}
use Rattle.check_actor.specs.Phases.{formals_found}
use Rattle.check_actor.specs.Sifting.{IsLack, Sifts}
use Rattle.check_actor.specs.Sources.{source_in}
use Rattle.check_actor.proofs.Sifted.{sifts_both}
use Rattle.check_actor.proofs.sifting.sift_routines.Goals as goal

pub returns : goal.returns
returns c =
    let s = source_in c.args.scope.now in
    let names = names_view c.args.names.now in
    let heads : Each IsLack (heads_broken (all_funs s) names) = subst (λ fs. Each IsLack (heads_broken fs names)) c.requires c.in_ok-sift_heads.ensures in
    let formals : Sifts c.sift_members.result (formals_found s names) = search rules in
    sifts_both c.sift_members.result (heads_broken (all_funs s) names) (formals_found s names) heads formals
