use Rattle.std.specs.Prelude.{◌≡◌, take}
use Rattle.trace_text.specs.Text.{line_text}
use Rattle.trace_text.specs.declared.line.Line.TheVariants.{Fire}
use Rattle.round_runner.specs.Firings.{journal_text}
use Rattle.round_runner.proofs.Written.{IsWritten}
use Rattle.round_runner.proofs.noting.note_journal.Given as goal

abbrev pub invariant-loop-k : goal.invariant-loop-k
invariant-loop-k g l = record {
  written : IsWritten 1 (journal_text l.inst.0 (take l.k l.actions)) l.initial.trace l.trace
      (g.D.Drains.channels l.initial.drains) (g.D.Drains.channels l.drains);
  line : l.line.text.items ≡ line_text (Fire l.inst.0 l.line.action);
}
