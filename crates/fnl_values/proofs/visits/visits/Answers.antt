use Rattle.std.proofs.Common.{List, ◌++◌, map, subst}
use Rattle.const_env.specs.Held.{names_in}
use Rattle.fnl_frames.specs.Views.{instance_of}
use Rattle.fnl_values.proofs.Parts.{no_items, visits_all}
use Rattle.fnl_values.specs.Visiting.{AreVisits, Visit, visit_of}
use Rattle.fnl_values.proofs.visits.visits.Goals as goal

pub returns-clause-given : goal.returns-clause-given
returns-clause-given c =
    let names = names_in c.args.env.now in
    let all = map instance_of c.args.instances.now in
    let done = map visit_of c.instances.visits.items in
    visits_all c.args.file names all done
    (subst (λ is. (more : List Visit) → AreVisits c.args.file names (map instance_of is) more → AreVisits c.args.file names all (done ++ more))
    (no_items c.instances.rest.now c.in_default.ensures.cases) c.instances.invariant.given)
