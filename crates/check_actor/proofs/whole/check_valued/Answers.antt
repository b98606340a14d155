use Rattle.std.proofs.Common.{◌≡◌, Err, sym, subst, rules}
use Rattle.check_given.specs.Given.{all_given, spot_of}
use Rattle.check_actor.specs.Own.{IsCheckedBehind}
use Rattle.check_actor.specs.Phases.{header_over}
use Rattle.check_actor.specs.Sifting.{IsFault}
use Rattle.check_actor.specs.Sources.{source_in}
use Rattle.check_actor.proofs.Naming.{names_of_vars_differ}
use Rattle.check_actor.proofs.Telling.{given_refuses, header_refuses}
use Rattle.check_actor.proofs.whole.check_valued.Goals as goal

pub check_members-requires-clause-distinct : goal.check_members-requires-clause-distinct
check_members-requires-clause-distinct c = names_of_vars_differ (source_in c.args.scope.now) c.requires.distinct

pub returns-in_err-check_given : goal.returns-in_err-check_given
returns-in_err-check_given c =
    let f = c.in_err-check_given.field-0.0 in
    let s = source_in c.args.scope.now in
    let gs = all_given c.args.told.given.now in
    let owner = spot_of c.args.told.owner in
    let same : c.from_residual.result ≡ Err f = search rules in
    subst (λ r. IsCheckedBehind r s gs owner) (sym same)
    (given_refuses f s gs owner c.in_err-check_given.ensures.found c.in_err-check_given.ensures.said)

pub returns-in_err-header : goal.returns-in_err-header
returns-in_err-header c =
    let f = c.in_err-header.field-0.0 in
    let s = source_in c.args.scope.now in
    let gs = all_given c.args.told.given.now in
    let owner = spot_of c.args.told.owner in
    let same : c.from_residual-in_err-header.result ≡ Err f = search rules in
    let told = c.in_err-header.ensures in
    subst (λ r. IsCheckedBehind r s gs owner) (sym same)
    (header_refuses f told.0 c.first_broken-noted.result c.args.early.values.broken.items s gs owner c.first_broken-noted.ensures c.requires.early.values.breaks
    told.1 c.in_ok-check_given.ensures.found (subst (λ n. IsFault told.0 (header_over s n)) c.requires.early.header told.2))
