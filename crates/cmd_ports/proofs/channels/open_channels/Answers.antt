use Rattle.std.proofs.Common.{map}
use Rattle.std.proofs.lemmas.Result.{on_ok_weaker, IfErr-weaker}
use Rattle.rvc_words.specs.Words.{port_text}
use Rattle.cmd_ports.specs.Matching.{names_of}
use Rattle.cmd_ports.specs.Opening.{channels_of, outputs_from}
use Rattle.cmd_ports.proofs.ChannelSteps.{begins}
use Rattle.cmd_ports.proofs.NotedSteps.{first_noted, none_before}
use Rattle.cmd_ports.proofs.channels.open_channels.Goals as goal

pub returns-in-Ok-clause-opened : goal.returns-in-Ok-clause-opened
returns-in-Ok-clause-opened g c = on_ok_weaker c.open_outputs.result (λ h. h (channels_of c.args.trace.now (names_of c.args.outs.now) (map port_text c.args.words.now)) (g.D.Drains.channels c.args.drains.now)
    (begins c.args.trace.now (outputs_from 2 (names_of c.args.outs.now) (map port_text c.args.words.now)) _ _ c.in-Ok.ensures.opened)) c.open_outputs.ensures.opened

pub returns-in-Ok-clause-noted : goal.returns-in-Ok-clause-noted
returns-in-Ok-clause-noted g c = on_ok_weaker c.open_outputs.result (λ h. h (channels_of c.args.trace.now (names_of c.args.outs.now) (map port_text c.args.words.now)) (g.D.Drains.past c.args.drains.now)
    (first_noted (outputs_from 2 (names_of c.args.outs.now) (map port_text c.args.words.now)) 1 c.args.trace.now _ _ c.in-Ok.ensures.noted)) c.open_outputs.ensures.noted

pub returns-in-Ok-clause-noted_before : goal.returns-in-Ok-clause-noted_before
returns-in-Ok-clause-noted_before g c = IfErr-weaker c.open_outputs.result _ _ (λ channel h. h (channels_of c.args.trace.now (names_of c.args.outs.now) (map port_text c.args.words.now)) (g.D.Drains.past c.args.drains.now)
    (first_noted (outputs_from 2 (names_of c.args.outs.now) (map port_text c.args.words.now)) 1 c.args.trace.now _ _ c.in-Ok.ensures.noted)) c.open_outputs.ensures.noted_before

pub returns-in-Err-clause-noted_before : goal.returns-in-Err-clause-noted_before
returns-in-Err-clause-noted_before g c = none_before (outputs_from 2 (names_of c.args.outs.now) (map port_text c.args.words.now)) 1 c.args.trace.now _ _ c.in-Err.ensures.unnoted
