use Rattle.std.proofs.Common.{◌+◌, ap, rules}
use Rattle.std.specs.Prelude.{slice_index_or, string_bytes}
use Rattle.cmd_ports.specs.Matching.{names_of}
use Rattle.cmd_report.specs.Report.{out_line, out_lines}
use Rattle.cmd_report.proofs.Chain.{goes_on}
use Rattle.cmd_report.proofs.lines.put_outputs.Goals as goal

pub outs-preserved : goal.outs-preserved
outs-preserved g c =
    let counts = c.args.counts.now in (
      search rules,
      goes_on (out_lines 0 (names_of c.args.outs.now) counts) _ (out_line (string_bytes c.in-Some.port.now.name) (slice_index_or counts.sent.items c.outs.number 0)) (out_lines (c.outs.number + 1) (names_of c.in-Some.others.now) counts) _ _ _
          (ap (λ ps. out_lines c.outs.number (names_of ps) counts) c.in-Some.ensures.cases.0) c.outs.invariant.1 c.in_ok-put_output.ensures,
    )
