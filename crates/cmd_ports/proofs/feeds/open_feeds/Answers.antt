use Rattle.std.proofs.Common.{map}
use Rattle.std.proofs.lemmas.Result.{on_ok_weaker, IfErr-weaker}
use Rattle.rvc_words.specs.Words.{port_text}
use Rattle.cmd_ports.specs.Matching.{names_of}
use Rattle.cmd_ports.specs.Opening.{feeds_of}
use Rattle.cmd_ports.proofs.FeedSteps.{begins}
use Rattle.cmd_ports.proofs.NotedSteps.{none_noted}
use Rattle.cmd_ports.proofs.feeds.open_feeds.Goals as goal

pub returns-clause-opened : goal.returns-clause-opened
returns-clause-opened g c = on_ok_weaker c.open_inputs.result (λ h. h (feeds_of c.args.links.now (names_of c.args.ins.now) (map port_text c.args.words.now)) (g.F.Feeds.feeds c.args.feeds.now)
    (begins (feeds_of c.args.links.now (names_of c.args.ins.now) (map port_text c.args.words.now)) (g.F.Feeds.feeds c.args.feeds.now))) c.open_inputs.ensures.opened

pub returns-clause-failed : goal.returns-clause-failed
returns-clause-failed g c = IfErr-weaker c.open_inputs.result _ _ (λ feed h. h (feeds_of c.args.links.now (names_of c.args.ins.now) (map port_text c.args.words.now)) (g.F.Feeds.feeds c.args.feeds.now)
    (begins (feeds_of c.args.links.now (names_of c.args.ins.now) (map port_text c.args.words.now)) (g.F.Feeds.feeds c.args.feeds.now))) c.open_inputs.ensures.failed

pub returns-clause-noted : goal.returns-clause-noted
returns-clause-noted g c = on_ok_weaker c.open_inputs.result (λ h. h (feeds_of c.args.links.now (names_of c.args.ins.now) (map port_text c.args.words.now)) (g.F.Feeds.past c.args.feeds.now)
    (none_noted (feeds_of c.args.links.now (names_of c.args.ins.now) (map port_text c.args.words.now)) (g.F.Feeds.past c.args.feeds.now))) c.open_inputs.ensures.noted

pub returns-clause-noted_before : goal.returns-clause-noted_before
returns-clause-noted_before g c = IfErr-weaker c.open_inputs.result _ _ (λ feed h. h (feeds_of c.args.links.now (names_of c.args.ins.now) (map port_text c.args.words.now)) (g.F.Feeds.past c.args.feeds.now)
    (none_noted (feeds_of c.args.links.now (names_of c.args.ins.now) (map port_text c.args.words.now)) (g.F.Feeds.past c.args.feeds.now))) c.open_inputs.ensures.noted_before
