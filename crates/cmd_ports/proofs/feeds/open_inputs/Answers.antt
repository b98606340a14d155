use Rattle.std.proofs.Common.{◌≡◌, suc, ◌≤◌, ◌∷◌, length, map, ap, subst, ◌∙◌, arith}
use Rattle.rvc_words.specs.Words.{port_text}
use Rattle.cmd_ports.specs.Matching.{names_of}
use Rattle.cmd_ports.specs.Opening.{feeds_from}
use Rattle.cmd_ports.specs.Steps.{FeedsSoFar, NotedSoFar}
use Rattle.cmd_ports.proofs.ChannelSteps.{none_left}
use Rattle.cmd_ports.proofs.FeedSteps.{ends}
use Rattle.cmd_ports.proofs.NotedSteps.{all_noted}
use Rattle.cmd_ports.proofs.feeds.open_inputs.Goals as goal

pub links-preserved : goal.links-preserved
links-preserved g c =
    let opened : c.links.rest.now ≡ c.in-Some.link.now ∷ c.in-Some.others.now = c.in-Some.ensures.cases.0 in
    let count : length c.links.rest.now ≡ suc (length c.in-Some.others.now) = ap length opened in
    let near = c.in-Ok.ensures.next in
    let so = c.links.invariant in (
      omega (arith, count, near.1, so.0),
      omega (arith, near.0, so.1),
      (λ n low high. (let above : c.links.number ≤ n = omega (arith, near.0, low) in c.in-Ok.ensures.later n low ∙ so.2 n above high)),
      (λ all start begun. c.in-Ok.ensures.opened all c.in-Some.others.now start
          (subst (λ ls. FeedsSoFar all (feeds_from c.links.number ls (names_of c.args.ins.now) (map port_text c.args.words.now)) c.links.number start (g.F.Feeds.feeds c.links.feeds)) opened (so.3 all start begun))),
      (λ all past begun. c.in-Ok.ensures.noted all c.in-Some.others.now past
          (subst (λ ls. NotedSoFar all (feeds_from c.links.number ls (names_of c.args.ins.now) (map port_text c.args.words.now)) past (g.F.Feeds.past c.links.feeds)) opened (so.4 all past begun))),
    )

pub returns-in-Err-clause-failed : goal.returns-in-Err-clause-failed
returns-in-Err-clause-failed g c = λ all start so. c.in-Err.ensures.failed all c.in-Some.others.now start
    (subst (λ ls. FeedsSoFar all (feeds_from c.links.number ls (names_of c.args.ins.now) (map port_text c.args.words.now)) c.links.number start (g.F.Feeds.feeds c.links.feeds)) c.in-Some.ensures.cases.0 (c.links.invariant.3 all start so))

pub returns-clause-opened : goal.returns-clause-opened
returns-clause-opened g c = λ all start so. ends all c.links.number start _
    (subst (λ ls. FeedsSoFar all (feeds_from c.links.number ls (names_of c.args.ins.now) (map port_text c.args.words.now)) c.links.number start (g.F.Feeds.feeds c.links.feeds)) (none_left c.links.rest.now c.in_default.ensures.cases) (c.links.invariant.3 all start so))

pub returns-in-Err-clause-noted_before : goal.returns-in-Err-clause-noted_before
returns-in-Err-clause-noted_before g c = λ all past so. c.in-Err.ensures.noted_before all c.in-Some.others.now past
    (subst (λ ls. NotedSoFar all (feeds_from c.links.number ls (names_of c.args.ins.now) (map port_text c.args.words.now)) past (g.F.Feeds.past c.links.feeds)) c.in-Some.ensures.cases.0 (c.links.invariant.4 all past so))

pub returns-clause-noted : goal.returns-clause-noted
returns-clause-noted g c = λ all past so. all_noted all past _
    (subst (λ ls. NotedSoFar all (feeds_from c.links.number ls (names_of c.args.ins.now) (map port_text c.args.words.now)) past (g.F.Feeds.past c.links.feeds)) (none_left c.links.rest.now c.in_default.ensures.cases) (c.links.invariant.4 all past so))
