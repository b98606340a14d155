use Rattle.const_env.specs.Counting.{names_view}
use Rattle.check_member.specs.Parts.{members_tree}
use Rattle.check_build_actor.proofs.PastLacks.{other_said}
use Rattle.check_build_actor.specs.Building.{around_bare}
use Rattle.check_build_actor.proofs.others.members_fault.Goals as goal

pub returns-in-Err : goal.returns-in-Err
returns-in-Err c = λ actor has breaks.
    other_said c.in-Err.other (members_tree c.args.decl.now.members.items) (around_bare c.args.bare.now (names_view c.args.names.now)) actor c.args.decl.now.at
    (c.in-Err.ensures actor has)
