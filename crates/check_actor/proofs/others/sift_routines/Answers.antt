use Rattle.std.proofs.Common.{map, subst}
use Rattle.cal_check.specs.Actors.{all_funs, funs_broken}
use Rattle.cal_model.specs.Sound.{Each}
use Rattle.cal_model.specs.View.{proc_view}
use Rattle.const_env.specs.Counting.{names_view}
use Rattle.check_actor.specs.Phases.{procs_found}
use Rattle.check_actor.specs.Sifting.{IsLack}
use Rattle.check_actor.specs.Sources.{source_in}
use Rattle.check_actor.proofs.Sifted.{sifts_both}
use Rattle.check_actor.proofs.others.sift_routines.Goals as goal

pub returns : goal.returns
returns c =
    let s = source_in c.args.scope.now in
    let names = names_view c.args.names.now in
    let procs = map proc_view c.args.procs.now in
    let bodies : Each IsLack (funs_broken (all_funs s) names) =
    subst (λ fs. Each IsLack (funs_broken fs names)) c.requires c.in_ok-sift_bodies.ensures in
    sifts_both c.sift_procedures.result (funs_broken (all_funs s) names) (procs_found s procs names) bodies c.sift_procedures.ensures
