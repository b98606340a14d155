use Rattle.law_alike.proofs.LikeTraces.{not_run_alike, trace_alike}
use Rattle.law_alike.proofs.laws.traces_are_alike.Goals as goal

pub returns-clause-traces : goal.returns-clause-traces
returns-clause-traces g c = λ net other grow s last that text lines end alike states is_trace.
    trace_alike g.K.Likeness.related g.K.Likeness.allowed net other alike grow s that states text lines end last is_trace

pub returns-clause-no_runs : goal.returns-clause-no_runs
returns-clause-no_runs g c = λ net other grow s that text line why alike states told.
    not_run_alike g.K.Likeness.related g.K.Likeness.allowed net other alike grow s that states text line why told
