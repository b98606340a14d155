use Rattle.std.proofs.Common.{◌∙◌, ◌+◌, ap, map, subst, sym}
use Rattle.rvc_words.specs.Words.{port_text}
use Rattle.cmd_ports.specs.Matching.{file_of}
use Rattle.cmd_ports.specs.Opening.{ChannelsAreOpened, opening_if, outputs_from}
use Rattle.cmd_ports.specs.Steps.{IsNoted, IsUnopenedChannel}
use Rattle.cmd_ports.proofs.ChannelSteps.{fails, steps}
use Rattle.cmd_ports.proofs.NotedSteps.{noted_before, noted_steps}
use Rattle.cmd_ports.proofs.channels.open_output.Goals as goal

pub returns-in-Ok-clause-opened : goal.returns-in-Ok-clause-opened
returns-in-Ok-clause-opened g c = λ all names start so. steps all (outputs_from (c.args.number + 1) names (map port_text c.args.words.now)) c.args.number _ start _ _ so
    (subst (λ f. ChannelsAreOpened (opening_if c.args.number f) (g.D.Drains.channels c.args.drains.now) (g.D.Drains.channels c.open_named.new.drains))
    (c.file_of.ensures ∙ ap (λ n. file_of n (map port_text c.args.words.now)) c.as_str.ensures.value) c.in-Ok.ensures.opened)

pub returns-in-Err-clause-failed : goal.returns-in-Err-clause-failed
returns-in-Err-clause-failed g c = λ all names start so. fails all (outputs_from (c.args.number + 1) names (map port_text c.args.words.now)) c.args.number _ start _ _ so
    (subst (λ f. IsUnopenedChannel c.args.number f (g.D.Drains.channels c.args.drains.now) (g.D.Drains.channels c.open_named.new.drains))
    (c.file_of.ensures ∙ ap (λ n. file_of n (map port_text c.args.words.now)) c.as_str.ensures.value) c.in-Err.ensures.failed)

pub returns-in-Ok-clause-noted : goal.returns-in-Ok-clause-noted
returns-in-Ok-clause-noted g c = λ all names past so. noted_steps all (outputs_from (c.args.number + 1) names (map port_text c.args.words.now)) c.args.number _ past _ _ so
    (subst (λ f. IsNoted c.args.number f (g.D.Drains.past c.args.drains.now) (g.D.Drains.past c.open_named.new.drains))
    (c.file_of.ensures ∙ ap (λ n. file_of n (map port_text c.args.words.now)) c.as_str.ensures.value) c.in-Ok.ensures.noted)

pub returns-in-Err-clause-noted_before : goal.returns-in-Err-clause-noted_before
returns-in-Err-clause-noted_before g c = λ all names past so. noted_before all (outputs_from (c.args.number + 1) names (map port_text c.args.words.now)) c.args.number _ _ past _ _
    (sym (c.file_of.ensures ∙ ap (λ n. file_of n (map port_text c.args.words.now)) c.as_str.ensures.value) ∙ c.in-Err.ensures.failed.has_file) so c.in-Err.ensures.unnoted
