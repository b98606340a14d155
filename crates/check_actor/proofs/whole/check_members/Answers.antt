use Rattle.std.proofs.Common.{◌≡◌, false, true, sym, subst, ◌∙◌, rules}
use Rattle.cal_check.specs.Actors.{all_valued, declared_vars}
use Rattle.check_given.specs.Given.{all_given, spot_of}
use Rattle.check_actor.specs.Own.{IsRefusedBehind}
use Rattle.check_actor.specs.Sources.{source_in}
use Rattle.check_actor.proofs.Telling.{members_refuse, members_settle, untyped_refuses}
use Rattle.check_actor.proofs.whole.check_members.Goals as goal

pub returns-then-not-values : goal.returns-then-not-values
returns-then-not-values c =
    let s = source_in c.args.scope.now in
    let gs = all_given c.args.told.given.now in
    let owner = spot_of c.args.told.owner in
    let lacks : c.args.values.whole ≡ false = search rules in
    subst (λ f. IsRefusedBehind f s gs owner) (sym c.untyped.ensures)
    (untyped_refuses c.args.values.broken.items c.not_constant-rest.result c.args.told.owner s gs owner c.requires.values.breaks
    (c.not_constant-rest.ensures (declared_vars s) owner (all_valued s gs owner) c.requires.values c.requires.distinct)
    c.requires.given c.requires.header.fine (sym c.requires.values.whole ∙ lacks))

pub returns-in-Err : goal.returns-in-Err
returns-in-Err c =
    let s = source_in c.args.scope.now in
    let gs = all_given c.args.told.given.now in
    let owner = spot_of c.args.told.owner in
    let whole : c.args.values.whole ≡ true = search rules in
    subst (λ f. IsRefusedBehind f s gs owner) (sym c.said_first.ensures)
    (members_refuse c.in-Err.fault c.first_broken-noted.result c.args.values.broken.items s gs owner c.first_broken-noted.ensures c.requires.values.breaks
    c.requires.given c.requires.header.fine (sym c.requires.values.whole ∙ whole) c.in-Err.ensures)

pub returns-in-Ok : goal.returns-in-Ok
returns-in-Ok c =
    let s = source_in c.args.scope.now in
    let gs = all_given c.args.told.given.now in
    let owner = spot_of c.args.told.owner in
    members_settle c.in-Ok.found c.args.values.broken.items c.not_constant-rest.result c.settled.result s gs owner c.requires.values.breaks
    (c.not_constant-rest.ensures (declared_vars s) owner (all_valued s gs owner) c.requires.values c.requires.distinct)
    c.requires.given c.requires.header.fine c.in-Ok.ensures c.settled.ensures
