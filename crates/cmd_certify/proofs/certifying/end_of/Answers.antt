use Rattle.std.proofs.Common.{rules, [], map, refl}
use Rattle.cal_files.specs.Views.{file_names}
use Rattle.cmd_ports.specs.Matching.{AreMatched, IsWrongWord}
use Rattle.cmd_report.specs.Report.{certified_line}
use Rattle.cmd_report.specs.declared.status.Status.TheVariants as status
use Rattle.rvc_words.specs.Words.{port_text}
use Rattle.cmd_network.specs.Steps.{about_words}
use Rattle.cmd_network.proofs.Putting.{line_answered, put_answered}
use Rattle.cmd_certify.specs.Ends.{Comes}
use Rattle.cmd_certify.proofs.Ending.{comes, wrong}
use Rattle.cmd_certify.proofs.certifying.end_of.Goals as goal

pub returns-in-Ok-judge_leaves : goal.returns-in-Ok-judge_leaves
returns-in-Ok-judge_leaves g c = λ library misses faults feeds is.
    let none : AreMatched [] (map port_text c.args.job.now.ports.items) = search rules in
    put_answered Comes _ c.in-Ok-judge_leaves.verdict.said c.report_certified.result (certified_line c.in-Ok-judge_leaves.verdict.certified) (about_words c.args.names.now c.args.job.now)
    (λ only. comes c.sound_actors_have_priorities.ensures c.no_failure_where_certified.ensures _ (file_names c.args.names.now) c.args.checked.now
    c.in-Ok-judge_leaves.verdict (about_words c.args.names.now c.args.job.now) none is c.in-Ok-judge_leaves.ensures (record { same_feeds = refl; only_report = only }))
    c.report_certified.ensures

pub returns-in-Err-judge_leaves : goal.returns-in-Err-judge_leaves
returns-in-Err-judge_leaves g c = λ library misses faults feeds is.
    line_answered Comes _ status.OutOfMemory c.report_unbuilt.result [] (about_words c.args.names.now c.args.job.now) refl
    (λ only. record { same_feeds = refl; only_report = only }) c.report_unbuilt.ensures

pub returns-in-Err : goal.returns-in-Err
returns-in-Err g c = λ library misses faults feeds is.
    let is_wrong : IsWrongWord [] (map port_text c.args.job.now.ports.items) c.in-Err.refusal = search rules in
    line_answered Comes _ (status.Refused c.in-Err.refusal) c.report_unbuilt-in-Err.result [] (about_words c.args.names.now c.args.job.now) refl
    (λ only. wrong _ (file_names c.args.names.now) c.args.checked.now c.in-Err.refusal [] is_wrong is (record { same_feeds = refl; only_report = only }))
    c.report_unbuilt-in-Err.ensures
