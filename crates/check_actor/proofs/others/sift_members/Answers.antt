use Rattle.std.proofs.Common.{Err, sym, subst}
use Rattle.const_env.specs.Counting.{names_view}
use Rattle.check_actor.specs.Parts.{SiftsMembers}
use Rattle.check_actor.proofs.SiftedInside.{members_lack, members_say}
use Rattle.check_actor.proofs.others.sift_members.Goals as goal

pub returns-in-Ok : goal.returns-in-Ok
returns-in-Ok c = members_lack c.args.bare.now c.args.scope.now (names_view c.args.names.now) c.in-Ok.ensures

pub returns-in-Err : goal.returns-in-Err
returns-in-Err c =
    let names = names_view c.args.names.now in
    subst (λ f. SiftsMembers (Err f) c.args.bare.now c.args.scope.now names) (sym c.placed.ensures)
    (members_say c.in-Err.fault c.args.bare.now c.args.scope.now names c.in-Err.ensures)
