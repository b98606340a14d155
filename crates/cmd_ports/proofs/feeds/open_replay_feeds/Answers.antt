use Rattle.std.proofs.Common.{map}
use Rattle.std.proofs.lemmas.Result.{on_ok_weaker, IfErr-weaker}
use Rattle.rvc_words.specs.Words.{port_text}
use Rattle.cmd_ports.specs.Matching.{names_of}
use Rattle.cmd_ports.specs.Opening.{feeds_of, replay_feeds}
use Rattle.cmd_ports.proofs.FeedSteps.{begins_behind}
use Rattle.cmd_ports.proofs.NotedSteps.{first_noted, none_before}
use Rattle.cmd_ports.proofs.feeds.open_replay_feeds.Goals as goal

pub returns-in-Ok-clause-opened : goal.returns-in-Ok-clause-opened
returns-in-Ok-clause-opened g c = on_ok_weaker c.open_inputs.result (λ h. h (replay_feeds c.args.trace.now c.args.links.now (names_of c.args.ins.now) (map port_text c.args.words.now)) (g.F.Feeds.feeds c.args.feeds.now)
    (begins_behind c.args.trace.now (feeds_of c.args.links.now (names_of c.args.ins.now) (map port_text c.args.words.now)) _ _ c.in-Ok.ensures.opened)) c.open_inputs.ensures.opened

pub returns-in-Ok-clause-failed : goal.returns-in-Ok-clause-failed
returns-in-Ok-clause-failed g c = IfErr-weaker c.open_inputs.result _ _ (λ feed h. h (replay_feeds c.args.trace.now c.args.links.now (names_of c.args.ins.now) (map port_text c.args.words.now)) (g.F.Feeds.feeds c.args.feeds.now)
    (begins_behind c.args.trace.now (feeds_of c.args.links.now (names_of c.args.ins.now) (map port_text c.args.words.now)) _ _ c.in-Ok.ensures.opened)) c.open_inputs.ensures.failed

pub returns-in-Ok-clause-noted : goal.returns-in-Ok-clause-noted
returns-in-Ok-clause-noted g c = on_ok_weaker c.open_inputs.result (λ h. h (replay_feeds c.args.trace.now c.args.links.now (names_of c.args.ins.now) (map port_text c.args.words.now)) (g.F.Feeds.past c.args.feeds.now)
    (first_noted (feeds_of c.args.links.now (names_of c.args.ins.now) (map port_text c.args.words.now)) 0 c.args.trace.now _ _ c.in-Ok.ensures.noted)) c.open_inputs.ensures.noted

pub returns-in-Ok-clause-noted_before : goal.returns-in-Ok-clause-noted_before
returns-in-Ok-clause-noted_before g c = IfErr-weaker c.open_inputs.result _ _ (λ feed h. h (replay_feeds c.args.trace.now c.args.links.now (names_of c.args.ins.now) (map port_text c.args.words.now)) (g.F.Feeds.past c.args.feeds.now)
    (first_noted (feeds_of c.args.links.now (names_of c.args.ins.now) (map port_text c.args.words.now)) 0 c.args.trace.now _ _ c.in-Ok.ensures.noted)) c.open_inputs.ensures.noted_before

pub returns-in-Err-clause-noted_before : goal.returns-in-Err-clause-noted_before
returns-in-Err-clause-noted_before g c = none_before (feeds_of c.args.links.now (names_of c.args.ins.now) (map port_text c.args.words.now)) 0 c.args.trace.now _ _ c.in-Err.ensures.unnoted
