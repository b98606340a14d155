use Rattle.std.proofs.Common.{rules, [], refl, subst}
use Rattle.std.specs.Prelude.{string_bytes}
use Rattle.cal_files.specs.Views.{file_names}
use Rattle.network_check.specs.Refused.{IsFault}
use Rattle.network_check.specs.Top.{top_asked}
use Rattle.cmd_report.specs.Report.{last_line}
use Rattle.cmd_network.specs.Steps.{IsPut, about_words, status_of_build}
use Rattle.cmd_network.proofs.Putting.{last_alone, line_answered}
use Rattle.cmd_certify.specs.Ends.{Comes}
use Rattle.cmd_certify.proofs.Ending.{failed}
use Rattle.cmd_certify.proofs.certifying.certify_files.Goals as goal

pub returns-clause-answered : goal.returns-clause-answered
returns-clause-answered g c = λ feeds.
    let why : IsFault (g.L.Library.file c.args.library.now) (top_asked (string_bytes c.args.job.now.top))
    (record { old = g.L.Library.misses c.args.library.now; new = g.L.Library.misses c.check_network.new.library })
    (record { old = g.L.Library.faults c.args.library.now; new = g.L.Library.faults c.check_network.new.library })
    (file_names c.check_network.new.names) c.in-Err.fault =
    subst (λ top. IsFault (g.L.Library.file c.args.library.now) (top_asked top)
    (record { old = g.L.Library.misses c.args.library.now; new = g.L.Library.misses c.check_network.new.library })
    (record { old = g.L.Library.faults c.args.library.now; new = g.L.Library.faults c.check_network.new.library })
    (file_names c.check_network.new.names) c.in-Err.fault)
    c.as_str.ensures.value c.in-Err.ensures.fault in
    let put : IsPut (status_of_build c.in-Err.fault) (last_line (about_words c.check_network.new.names c.args.job.now) (status_of_build c.in-Err.fault))
    (g.D.Drains.channels c.args.drains.now) (g.D.Drains.channels c.report_unbuilt.new.drains) c.report_unbuilt.result = search rules in
    line_answered Comes _ (status_of_build c.in-Err.fault) c.report_unbuilt.result [] (about_words c.check_network.new.names c.args.job.now)
    (last_alone [] (about_words c.check_network.new.names c.args.job.now) c.in-Err.fault)
    (λ only. failed _ (file_names c.check_network.new.names) c.in-Err.fault [] why (record { same_feeds = refl; only_report = only })) put
