use Rattle.std.proofs.Common.{refl, sym, ◌∙◌}
use Rattle.net_state.specs.Held.{seen}
use Rattle.trace_replay.proofs.Settled.{out_not, positive}
use Rattle.trace_replay.proofs.ending.is_out.Goals as goal

pub returns-clause-no : goal.returns-clause-no
returns-clause-no g c = λ none.
    out_not c.args.l c.sent.result c.args.state.now.links (seen g.A.Firing.cell c.args.state.now) c.args.link.now refl c.requires.there (sym c.is_input.ensures ∙ c.if-is_input.false)
    c.sent.ensures.states (positive c.sent.result none)
