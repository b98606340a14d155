use Rattle.cmd_certify.proofs.Answering as says
use Rattle.cmd_certify.proofs.verb.certify_job.Goals as goal

pub returns-clause-complete : goal.returns-clause-complete
returns-clause-complete g c = says.complete _ c.certify_files.result (c.certify_files.ensures.answered says.no_feeds)
    c.conforming_jobs_are_not_refused.ensures c.one_library_network.ensures.files c.one_network.ensures.actor

pub returns-clause-incomplete : goal.returns-clause-incomplete
returns-clause-incomplete g c = says.incomplete _ c.certify_files.result (c.certify_files.ensures.answered says.no_feeds)
    c.conforming_jobs_are_not_refused.ensures

pub returns-clause-only_report : goal.returns-clause-only_report
returns-clause-only_report g c = says.only_report _ c.certify_files.result (c.certify_files.ensures.answered says.no_feeds)
