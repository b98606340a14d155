use Rattle.std.proofs.Common.{map, subst}
use Rattle.rvc_words.specs.Words.{port_text}
use Rattle.cmd_ports.specs.Matching.{names_of}
use Rattle.cmd_ports.specs.Opening.{outputs_from}
use Rattle.cmd_ports.specs.Steps.{ChannelsSoFar, NotedSoFar}
use Rattle.cmd_ports.proofs.ChannelSteps.{ends, none_left}
use Rattle.cmd_ports.proofs.NotedSteps.{all_noted}
use Rattle.cmd_ports.proofs.channels.open_outputs.Goals as goal

pub returns-in-Err-clause-failed : goal.returns-in-Err-clause-failed
returns-in-Err-clause-failed g c = λ all start so. c.in-Err.ensures.failed all (names_of c.in-Some.others.now) start
    (subst (λ ps. ChannelsSoFar all (outputs_from c.outs.number (names_of ps) (map port_text c.args.words.now)) c.outs.number start (g.D.Drains.channels c.outs.drains)) c.in-Some.ensures.cases.0 (c.outs.invariant.2 all start so))

pub returns-clause-opened : goal.returns-clause-opened
returns-clause-opened g c = λ all start so. ends all c.outs.number start _
    (subst (λ ps. ChannelsSoFar all (outputs_from c.outs.number (names_of ps) (map port_text c.args.words.now)) c.outs.number start (g.D.Drains.channels c.outs.drains)) (none_left c.outs.rest.now c.in_default.ensures.cases) (c.outs.invariant.2 all start so))

pub returns-in-Err-clause-noted_before : goal.returns-in-Err-clause-noted_before
returns-in-Err-clause-noted_before g c = λ all past so. c.in-Err.ensures.noted_before all (names_of c.in-Some.others.now) past
    (subst (λ ps. NotedSoFar all (outputs_from c.outs.number (names_of ps) (map port_text c.args.words.now)) past (g.D.Drains.past c.outs.drains)) c.in-Some.ensures.cases.0 (c.outs.invariant.3 all past so))

pub returns-clause-noted : goal.returns-clause-noted
returns-clause-noted g c = λ all past so. all_noted all past _
    (subst (λ ps. NotedSoFar all (outputs_from c.outs.number (names_of ps) (map port_text c.args.words.now)) past (g.D.Drains.past c.outs.drains)) (none_left c.outs.rest.now c.in_default.ensures.cases) (c.outs.invariant.3 all past so))
