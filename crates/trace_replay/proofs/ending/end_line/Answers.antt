use Rattle.std.proofs.Common.{◌<◌, length, subst, ◌∙◌}
use Rattle.net_state.specs.Held.{seen}
use Rattle.trace_replay.proofs.Ended.{stalled_end}
use Rattle.trace_replay.proofs.ending.end_line.Goals as goal

pub returns-in-Stalled : goal.returns-in-Stalled
returns-in-Stalled g c =
    stalled_end c.stalled_in_one_place.ensures.one_place c.stalled_in_one_place.ensures.not_quiet c.args.grow (seen g.A.Firing.cell c.args.state.now) (seen g.A.Firing.cell c.outlook.new.self) c.in-Stalled.inst.0 c.in-Stalled.action.0 c.in-Stalled.link.0
    c.may_grow-goes_on.result c.stall_line.result c.outlook.ensures.capacities c.outlook.ensures.links c.in-Stalled.ensures.outlook
    c.may_grow-goes_on.ensures.yes
    (λ no_more low. c.may_grow-goes_on.ensures.no no_more (subst (λ ls. c.in-Stalled.link.0 < length ls) (c.outlook.ensures.links ∙ c.requires.links) low))
    c.stall_line.ensures.on c.stall_line.ensures.stuck
