use Rattle.std.proofs.Common.{rules, [], map, refl}
use Rattle.cal_files.specs.Views.{file_names}
use Rattle.cmd_ports.specs.Matching.{AreMatched, IsWrongWord}
use Rattle.cmd_report.specs.declared.status.Status.TheVariants as status
use Rattle.cmd_report.specs.Report.{size_lines}
use Rattle.rvc_words.specs.Words.{port_text}
use Rattle.cmd_network.specs.Steps.{about_words}
use Rattle.cmd_network.proofs.Putting.{line_answered, put_answered}
use Rattle.cmd_check.specs.Ends.{Comes}
use Rattle.cmd_check.specs.Steps.{about_checked}
use Rattle.cmd_check.proofs.Ending.{conformed, wrong}
use Rattle.cmd_check.proofs.checking.end_of.Goals as goal

pub returns-in-Ok : goal.returns-in-Ok
returns-in-Ok g c = λ library misses faults feeds is.
    let none : AreMatched [] (map port_text c.args.job.now.ports.items) = search rules in
    put_answered Comes _ status.Done c.report_checked.result (size_lines (about_checked c.args.checked.now c.args.names.now c.args.job.now)) (about_checked c.args.checked.now c.args.names.now c.args.job.now)
    (λ only. (conformed _ c.args.names.now c.args.checked.now none is, record { same_feeds = refl; only_report = only }))
    c.report_checked.ensures

pub returns-in-Err : goal.returns-in-Err
returns-in-Err g c = λ library misses faults feeds is.
    let is_wrong : IsWrongWord [] (map port_text c.args.job.now.ports.items) c.in-Err.refusal = search rules in
    line_answered Comes _ (status.Refused c.in-Err.refusal) c.report_unbuilt.result [] (about_words c.args.names.now c.args.job.now) refl
    (λ only. wrong _ (file_names c.args.names.now) c.args.checked.now c.in-Err.refusal [] is_wrong is (record { same_feeds = refl; only_report = only }))
    c.report_unbuilt.ensures
