use Rattle.std.proofs.Common.{◌≡◌, [], map, subst}
use Rattle.cal_model.specs.View.{proc_view}
use Rattle.const_env.specs.Counting.{names_view}
use Rattle.check_given.specs.Causes.{IsCause}
use Rattle.check_actor.specs.Parts.{AreBareParts}
use Rattle.check_actor.specs.Phases.{routines_found}
use Rattle.check_actor.specs.Sources.{source_in}
use Rattle.check_actor.proofs.SiftedInside.{routines_inside}
use Rattle.check_actor.proofs.inside.actor_inside.Goals as goal

pub returns-in-Ok-check_routines : goal.returns-in-Ok-check_routines
returns-in-Ok-check_routines c = λ gs owner parts held.
    let s = source_in c.args.scope.now in
    let names = names_view c.args.names.now in
    let all : AreBareParts c.in-Ok.bare c.args.held c.args.header c.args.routines c.args.scope.now names gs owner =
    record { kept = c.in-Ok.ensures; parts = parts; values = held } in
    let fine : routines_found s (map proc_view c.args.routines.procs) names ≡ [] =
    subst (λ ps. routines_found s (map proc_view ps) names ≡ []) c.in-Ok.ensures.procs c.in-Ok-check_routines.ensures in
    c.kept_actor.ensures c.args.held c.args.header c.args.routines gs owner all fine

pub returns-in-Err : goal.returns-in-Err
returns-in-Err c = λ gs owner parts held.
    let bare = c.in-Ok.bare in
    let scope = c.args.scope.now in
    let names = names_view c.args.names.now in
    let f = c.in-Err.fault in
    let all : AreBareParts bare c.args.held c.args.header c.args.routines scope names gs owner =
    record { kept = c.in-Ok.ensures; parts = parts; values = held } in
    let broken : IsCause f (routines_found (source_in scope) (map proc_view bare.procs) names) = c.in-Err.ensures in
    c.inside_fault.ensures c.args.held c.args.header c.args.routines gs owner all
    (routines_inside f bare c.args.held c.args.header c.args.routines scope names gs owner all broken)
