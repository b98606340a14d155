use Rattle.std.proofs.Common.{◌+◌, ap, rules}
use Rattle.cmd_ports.specs.Matching.{names_of}
use Rattle.cmd_report.specs.Report.{in_lines, in_lines_at}
use Rattle.cmd_report.proofs.Chain.{goes_on}
use Rattle.cmd_report.proofs.lines.put_inputs.Goals as goal

pub links-preserved : goal.links-preserved
links-preserved g c =
    let names = names_of c.args.ins.now in
    let counts = c.args.counts.now in (
      search rules,
      goes_on (in_lines 0 c.args.links.now names counts) _ (in_lines_at c.in-Some.link.now.from c.links.number names counts) (in_lines (c.links.number + 1) c.in-Some.others.now names counts) _ _ _
          (ap (λ ls. in_lines c.links.number ls names counts) c.in-Some.ensures.cases.0) c.links.invariant.1 c.in_ok-put_link.ensures,
    )
