use Rattle.rvc_top.proofs.Said.{certify_no_usage, certify_said, check_no_usage, check_said, gen_no_usage, gen_said, gen_tells, replay_no_usage, replay_said, run_no_usage, run_rounds, run_said, run_tells}
use Rattle.rvc_top.proofs.verbs.do_job.Goals as goal

pub returns-in-Run-clause-run : goal.returns-in-Run-clause-run
returns-in-Run-clause-run g c = λ is. c.run_job.ensures.as_asked

pub returns-in-Run-clause-determinate : goal.returns-in-Run-clause-determinate
returns-in-Run-clause-determinate g c = λ is. run_tells _ c.runs_tell_quiet_runs.ensures c.run_job.result c.run_job.ensures.answered

pub returns-in-Run-clause-few_rounds : goal.returns-in-Run-clause-few_rounds
returns-in-Run-clause-few_rounds g c = λ is. run_rounds _ c.runs_make_few_rounds.ensures c.run_job.result c.run_job.ensures.answered

pub returns-in-Run-clause-run_complete : goal.returns-in-Run-clause-run_complete
returns-in-Run-clause-run_complete g c = λ net is tells conforms. c.run_job.ensures.complete net tells conforms

pub returns-in-Run-clause-run_incomplete : goal.returns-in-Run-clause-run_incomplete
returns-in-Run-clause-run_incomplete g c = λ misses names refusal is tells refuses. c.run_job.ensures.incomplete misses names refusal tells refuses

pub returns-in-Run-clause-run_too_far : goal.returns-in-Run-clause-run_too_far
returns-in-Run-clause-run_too_far g c = λ net is tells conforms far. c.run_job.ensures.too_far net tells conforms far

pub returns-in-Run-clause-said : goal.returns-in-Run-clause-said
returns-in-Run-clause-said g c = run_said _ c.run_job.result c.run_job.ensures.answered

pub returns-in-Run-clause-no_usage : goal.returns-in-Run-clause-no_usage
returns-in-Run-clause-no_usage g c = run_no_usage _ c.run_job.result c.run_job.ensures.answered

pub returns-in-Check-clause-check : goal.returns-in-Check-clause-check
returns-in-Check-clause-check g c = λ is. c.check_job.ensures.answered (g.F.Feeds.feeds c.args.feeds.now)

pub returns-in-Check-clause-check_incomplete : goal.returns-in-Check-clause-check_incomplete
returns-in-Check-clause-check_incomplete g c = λ misses names refusal is tells refuses. c.check_job.ensures.incomplete misses names refusal tells refuses

pub returns-in-Check-clause-said : goal.returns-in-Check-clause-said
returns-in-Check-clause-said g c = check_said _ c.check_job.result (c.check_job.ensures.answered (g.F.Feeds.feeds c.args.feeds.now))

pub returns-in-Check-clause-no_usage : goal.returns-in-Check-clause-no_usage
returns-in-Check-clause-no_usage g c = check_no_usage _ c.check_job.result (c.check_job.ensures.answered (g.F.Feeds.feeds c.args.feeds.now))

pub returns-in-Certify-clause-certify : goal.returns-in-Certify-clause-certify
returns-in-Certify-clause-certify g c = λ is. c.certify_job.ensures.answered (g.F.Feeds.feeds c.args.feeds.now)

pub returns-in-Certify-clause-certify_complete : goal.returns-in-Certify-clause-certify_complete
returns-in-Certify-clause-certify_complete g c = λ net is tells conforms. c.certify_job.ensures.complete net tells conforms

pub returns-in-Certify-clause-certify_incomplete : goal.returns-in-Certify-clause-certify_incomplete
returns-in-Certify-clause-certify_incomplete g c = λ misses names refusal is tells refuses. c.certify_job.ensures.incomplete misses names refusal tells refuses

pub returns-in-Certify-clause-said : goal.returns-in-Certify-clause-said
returns-in-Certify-clause-said g c = certify_said _ c.certify_job.result (c.certify_job.ensures.answered (g.F.Feeds.feeds c.args.feeds.now))

pub returns-in-Certify-clause-no_usage : goal.returns-in-Certify-clause-no_usage
returns-in-Certify-clause-no_usage g c = certify_no_usage _ c.certify_job.result (c.certify_job.ensures.answered (g.F.Feeds.feeds c.args.feeds.now))

pub returns-in-Fmt-clause-format_complete : goal.returns-in-Fmt-clause-format_complete
returns-in-Fmt-clause-format_complete g c = λ tree is has quiet kept. c.format_job.ensures.complete tree has quiet kept

pub returns-in-Replay-clause-replay : goal.returns-in-Replay-clause-replay
returns-in-Replay-clause-replay g c = λ is. c.replay_job.ensures.as_asked

pub returns-in-Replay-clause-replay_complete : goal.returns-in-Replay-clause-replay_complete
returns-in-Replay-clause-replay_complete g c = λ net is tells conforms. c.replay_job.ensures.complete net tells conforms

pub returns-in-Replay-clause-replay_incomplete : goal.returns-in-Replay-clause-replay_incomplete
returns-in-Replay-clause-replay_incomplete g c = λ misses names refusal is tells refuses. c.replay_job.ensures.incomplete misses names refusal tells refuses

pub returns-in-Replay-clause-said : goal.returns-in-Replay-clause-said
returns-in-Replay-clause-said g c = replay_said _ c.replay_job.result c.replay_job.ensures.answered

pub returns-in-Replay-clause-no_usage : goal.returns-in-Replay-clause-no_usage
returns-in-Replay-clause-no_usage g c = replay_no_usage _ c.replay_job.result c.replay_job.ensures.answered

pub returns-in-Gen-clause-generated : goal.returns-in-Gen-clause-generated
returns-in-Gen-clause-generated g c = λ is. c.gen_job.ensures.as_asked
    (g.L.Library.file c.args.library.now)
    (record { old = g.L.Library.misses c.args.library.now; new = g.L.Library.misses c.args.library.now })
    (record { old = g.L.Library.faults c.args.library.now; new = g.L.Library.faults c.args.library.now })
    (g.F.Feeds.feeds c.args.feeds.now)

pub returns-in-Gen-clause-gen_determinate : goal.returns-in-Gen-clause-gen_determinate
returns-in-Gen-clause-gen_determinate g c = λ is. gen_tells _ c.runs_tell_quiet_runs.ensures c.gen_job.result (c.gen_job.ensures.answered
    (g.L.Library.file c.args.library.now)
    (record { old = g.L.Library.misses c.args.library.now; new = g.L.Library.misses c.args.library.now })
    (record { old = g.L.Library.faults c.args.library.now; new = g.L.Library.faults c.args.library.now })
    (g.F.Feeds.feeds c.args.feeds.now))

pub returns-in-Gen-clause-gen_complete : goal.returns-in-Gen-clause-gen_complete
returns-in-Gen-clause-gen_complete g c = λ instances net is number conform. c.gen_job.ensures.complete
    (g.L.Library.file c.args.library.now)
    (record { old = g.L.Library.misses c.args.library.now; new = g.L.Library.misses c.args.library.now })
    (record { old = g.L.Library.faults c.args.library.now; new = g.L.Library.faults c.args.library.now })
    (g.F.Feeds.feeds c.args.feeds.now) instances net number conform

pub returns-in-Gen-clause-said : goal.returns-in-Gen-clause-said
returns-in-Gen-clause-said g c = gen_said _ c.gen_job.result (c.gen_job.ensures.answered
    (g.L.Library.file c.args.library.now)
    (record { old = g.L.Library.misses c.args.library.now; new = g.L.Library.misses c.args.library.now })
    (record { old = g.L.Library.faults c.args.library.now; new = g.L.Library.faults c.args.library.now })
    (g.F.Feeds.feeds c.args.feeds.now))

pub returns-in-Gen-clause-no_usage : goal.returns-in-Gen-clause-no_usage
returns-in-Gen-clause-no_usage g c = gen_no_usage _ c.gen_job.result (c.gen_job.ensures.answered
    (g.L.Library.file c.args.library.now)
    (record { old = g.L.Library.misses c.args.library.now; new = g.L.Library.misses c.args.library.now })
    (record { old = g.L.Library.faults c.args.library.now; new = g.L.Library.faults c.args.library.now })
    (g.F.Feeds.feeds c.args.feeds.now))
