use Rattle.cmd_check.proofs.Answering as says
use Rattle.cmd_check.proofs.verb.check_job.Goals as goal

pub returns-clause-complete : goal.returns-clause-complete
returns-clause-complete g c = says.complete _ c.check_files.result (c.check_files.ensures.answered says.no_feeds)
    c.conforming_jobs_are_not_refused.ensures c.one_network_conforms.ensures

pub returns-clause-incomplete : goal.returns-clause-incomplete
returns-clause-incomplete g c = says.incomplete _ c.check_files.result (c.check_files.ensures.answered says.no_feeds)
    c.conforming_jobs_are_not_refused.ensures

pub returns-clause-only_report : goal.returns-clause-only_report
returns-clause-only_report g c = says.only_report _ c.check_files.result (c.check_files.ensures.answered says.no_feeds)
