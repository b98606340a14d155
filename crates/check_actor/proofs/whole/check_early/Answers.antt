use Rattle.std.proofs.Common.{◌≡◌, ap, subst, ◌∙◌, rules}
use Rattle.cal_check.specs.Actors.{all_funs, around_of}
use Rattle.const_env.specs.Counting.{names_view}
use Rattle.check_functions.specs.Known.{names_differ}
use Rattle.check_given.specs.Given.{all_given, spot_of}
use Rattle.check_actor.specs.Own.{TellsBehind}
use Rattle.check_actor.specs.Sources.{source_in}
use Rattle.check_actor.proofs.Answering.{told_behind, values_constant}
use Rattle.check_actor.proofs.Naming.{names_of_funs_differ}
use Rattle.check_actor.proofs.whole.check_early.Goals as goal

pub names_at_rest-requires : goal.names_at_rest-requires
names_at_rest-requires c =
    ap names_differ c.requires.funs ∙ names_of_funs_differ (source_in c.args.scope.now) c.requires.distinct

pub returns : goal.returns
returns c =
    let s = source_in c.args.scope.now in
    let gs = all_given c.args.told.given.now in
    let owner = spot_of c.args.told.owner in
    let fault = c.in-Err.fault in
    let told = c.said_behind.result in
    let seen = names_view c.outermost-names.result in
    let same : names_view c.outermost-names.result ≡ (around_of s gs owner).names = search rules in
    told_behind fault told s gs owner (values_constant c.args.early.values.broken.items s gs owner c.requires.early.values.breaks)
    (subst (λ names. TellsBehind (all_funs s) names fault told) same
    (subst (λ fs. TellsBehind fs seen fault told) c.requires.funs c.said_behind.ensures)) c.in-Err.ensures
