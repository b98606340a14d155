use Rattle.std.proofs.Common.{◌∙◌, map, subst, sym}
use Rattle.rvc_words.specs.Words.{port_text}
use Rattle.cmd_ports.specs.Matching.{names_of}
use Rattle.cmd_ports.specs.Opening.{FeedsAreOpened, opening_if}
use Rattle.cmd_ports.specs.Steps.{IsNoted}
use Rattle.cmd_ports.proofs.FeedSteps.{steps_from}
use Rattle.cmd_ports.proofs.NotedSteps.{noted_before_link, noted_from}
use Rattle.cmd_ports.proofs.feeds.open_from.Goals as goal

pub returns-in-Ok-clause-opened : goal.returns-in-Ok-clause-opened
returns-in-Ok-clause-opened g c = λ all links start so. steps_from all c.args.number c.in-Net.port c.args.link.now.from links (names_of c.args.ins.now) (map port_text c.args.words.now) start _ _ c.in-Net.is so
    (subst (λ f. FeedsAreOpened (opening_if c.args.number f) (g.F.Feeds.feeds c.args.feeds.now) (g.F.Feeds.feeds c.open_named.new.feeds)) c.file_at.ensures c.in-Ok.ensures.opened)

pub returns-in-Ok-clause-noted : goal.returns-in-Ok-clause-noted
returns-in-Ok-clause-noted g c = λ all links past so. noted_from all c.args.number c.in-Net.port c.args.link.now.from links (names_of c.args.ins.now) (map port_text c.args.words.now) past _ _ c.in-Net.is so
    (subst (λ f. IsNoted c.args.number f (g.F.Feeds.past c.args.feeds.now) (g.F.Feeds.past c.open_named.new.feeds)) c.file_at.ensures c.in-Ok.ensures.noted)

pub returns-in-Err-clause-noted_before : goal.returns-in-Err-clause-noted_before
returns-in-Err-clause-noted_before g c = λ all links past so. noted_before_link all c.args.number c.in-Net.port c.args.link.now.from links (names_of c.args.ins.now) (map port_text c.args.words.now) _ past _ _ c.in-Net.is
    (sym c.file_at.ensures ∙ c.in-Err.ensures.failed.has_file) so c.in-Err.ensures.unnoted
