use Rattle.std.proofs.Common.{ap, map, rules, subst, sym}
use Rattle.std.specs.Prelude.{string_bytes}
use Rattle.rvc_words.specs.Words.{job_text, port_text}
use Rattle.cmd_fmt.specs.Formatting.{HasFile, IsCanonical, library_met}
use Rattle.cmd_fmt.proofs.Printed.{cut-report, cut-text, memory-reported}
use Rattle.cmd_fmt.proofs.verb.format_job.Goals as goal

pub returns-in-Err-clause-complete : goal.returns-in-Err-clause-complete
returns-in-Err-clause-complete g c = λ tree has quiet kept.
    memory-reported c.in-Err.status c.report.result _ (g.D.Drains.channels c.args.drains.now) (g.D.Drains.channels c.report.new.drains) c.report.ensures kept
    (c.in-Err.ensures.complete tree
    (subst (λ name. HasFile (g.L.Library.file c.args.library.now name) (map port_text c.as_slice.result.now) tree) (sym c.as_str.ensures.value)
    (subst (λ words. HasFile (g.L.Library.file c.args.library.now (string_bytes c.args.job.now.top)) (map port_text words) tree) (sym c.as_slice.ensures.value) has))
    quiet)

pub returns-in-Ok-clause-cut : goal.returns-in-Ok-clause-cut
returns-in-Ok-clause-cut g c = λ faulted.
    cut-text (library_met g.L.Library.file g.L.Library.misses g.L.Library.faults c.args.library.now c.canonical_text.new.library) (job_text c.args.job.now)
    c.in-Ok.printed.items (g.D.Drains.channels c.args.drains.now) (g.D.Drains.channels c.put_printed.new.drains) c.put_printed.result
    (subst (λ name. IsCanonical (g.L.Library.file c.args.library.now name) (map port_text c.args.job.now.ports.items) c.in-Ok.printed.items) c.as_str.ensures.value
    (subst (λ words. IsCanonical (g.L.Library.file c.args.library.now c.as_str.result.now) (map port_text words) c.in-Ok.printed.items) c.as_slice.ensures.value c.in-Ok.ensures.printed))
    (search rules) faulted

pub returns-in-Err-clause-cut : goal.returns-in-Err-clause-cut
returns-in-Err-clause-cut g c = λ faulted.
    cut-report (library_met g.L.Library.file g.L.Library.misses g.L.Library.faults c.args.library.now c.canonical_text.new.library) (job_text c.args.job.now)
    c.as_str.result.now (map port_text c.as_slice.result.now) c.in-Err.status c.report.result (g.D.Drains.channels c.args.drains.now) (g.D.Drains.channels c.report.new.drains)
    c.as_str.ensures.value (ap (map port_text) c.as_slice.ensures.value) c.in-Err.ensures.only c.in-Err.ensures.refused c.in-Err.ensures.fault c.report.ensures faulted
