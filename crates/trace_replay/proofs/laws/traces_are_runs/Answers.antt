-- Traces are lines that lead on, and such lines are traces.
use Rattle.trace_replay.proofs.Traces.{lines_make_traces, traces_are_lines}
use Rattle.trace_replay.proofs.laws.traces_are_runs.Goals as goal

pub returns-clause-lines : goal.returns-clause-lines
returns-clause-lines g c = lines_make_traces

pub returns-clause-traces : goal.returns-clause-traces
returns-clause-traces g c = traces_are_lines
