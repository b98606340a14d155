use Rattle.std.proofs.Common.{◌≡◌, inl, sym, ap, subst, ◌∙◌}
use Rattle.cmd_network.specs.Conforming.{Conforms, ConformsWith, names_of_ports, no_ports}
use Rattle.cmd_run_network.specs.Growth.{GrowTooFar}
use Rattle.cmd_certify.specs.Ends.{IsDecided}
use Rattle.cmd_fmt.specs.Formatting.{HasFile, library_met}
use Rattle.cmd_fmt.specs.Reports.{IsCutShort}
use Rattle.cmd_gen.specs.Jobs.{GeneratedConform, instances_of}
use Rattle.cmd_replay.specs.Replays.{ConformsToReplay, RefusesReplay}
use Rattle.cmd_network.specs.Commands.{RefusesJob}
use Rattle.network_check.specs.Top.{top_asked}
use Rattle.rvc_words.specs.Words.{job, job_text, texts}
use Rattle.rvc_top.proofs.Printed.{memory_cut}
use Rattle.rvc_top.proofs.SameJob.{same_job}
use Rattle.rvc_top.proofs.top.rvc.Goals as goal

pub returns-in-Ok-clause-run : goal.returns-in-Ok-clause-run
returns-in-Ok-clause-run g c = λ j is verb.
    let says : job_text c.in-Ok.job ≡ j = same_job (job_text c.in-Ok.job) j (job (texts c.args.words.now)) c.in-Ok.ensures.read is in
    inl (record { read = c.in-Ok.job; says = says; holds = c.do_job.ensures.run (ap (λ x. x.verb) says ∙ verb) })

pub returns-in-Ok-clause-determinate : goal.returns-in-Ok-clause-determinate
returns-in-Ok-clause-determinate g c = λ j is verb.
    let says : job_text c.in-Ok.job ≡ j = same_job (job_text c.in-Ok.job) j (job (texts c.args.words.now)) c.in-Ok.ensures.read is in
    inl (record { read = c.in-Ok.job; says = says; holds = c.do_job.ensures.determinate (ap (λ x. x.verb) says ∙ verb) })

pub returns-in-Ok-clause-few_rounds : goal.returns-in-Ok-clause-few_rounds
returns-in-Ok-clause-few_rounds g c = λ j is verb.
    let says : job_text c.in-Ok.job ≡ j = same_job (job_text c.in-Ok.job) j (job (texts c.args.words.now)) c.in-Ok.ensures.read is in
    inl (record { read = c.in-Ok.job; says = says; holds = c.do_job.ensures.few_rounds (ap (λ x. x.verb) says ∙ verb) })

pub returns-in-Ok-clause-run_complete : goal.returns-in-Ok-clause-run_complete
returns-in-Ok-clause-run_complete g c = λ j net is verb tells conforms.
    let says : job_text c.in-Ok.job ≡ j = same_job (job_text c.in-Ok.job) j (job (texts c.args.words.now)) c.in-Ok.ensures.read is in
    inl (record {
      read = c.in-Ok.job;
      says = says;
      holds = c.do_job.ensures.run_complete net (ap (λ x. x.verb) says ∙ verb) tells (subst (λ x. Conforms (g.L.Library.file c.args.library.now) (top_asked x.top) x.ports net) (sym says) conforms);
    })

pub returns-in-Ok-clause-run_incomplete : goal.returns-in-Ok-clause-run_incomplete
returns-in-Ok-clause-run_incomplete g c = λ j misses names refusal is verb tells refuses.
    let says : job_text c.in-Ok.job ≡ j = same_job (job_text c.in-Ok.job) j (job (texts c.args.words.now)) c.in-Ok.ensures.read is in
    c.do_job.ensures.run_incomplete misses names refusal (ap (λ x. x.verb) says ∙ verb) tells
    (subst (λ x. RefusesJob names_of_ports (g.L.Library.file c.args.library.now) (top_asked x.top) x.ports misses names refusal) (sym says) refuses)

pub returns-in-Ok-clause-run_too_far : goal.returns-in-Ok-clause-run_too_far
returns-in-Ok-clause-run_too_far g c = λ j net is verb tells conforms far.
    let says : job_text c.in-Ok.job ≡ j = same_job (job_text c.in-Ok.job) j (job (texts c.args.words.now)) c.in-Ok.ensures.read is in
    c.do_job.ensures.run_too_far net (ap (λ x. x.verb) says ∙ verb) tells
    (subst (λ x. Conforms (g.L.Library.file c.args.library.now) (top_asked x.top) x.ports net) (sym says) conforms)
    (subst (λ x. GrowTooFar net.links x.grow) (sym says) far)

pub returns-in-Ok-clause-check : goal.returns-in-Ok-clause-check
returns-in-Ok-clause-check g c = λ j is verb.
    let says : job_text c.in-Ok.job ≡ j = same_job (job_text c.in-Ok.job) j (job (texts c.args.words.now)) c.in-Ok.ensures.read is in
    inl (record { read = c.in-Ok.job; says = says; holds = c.do_job.ensures.check (ap (λ x. x.verb) says ∙ verb) })

pub returns-in-Ok-clause-check_complete : goal.returns-in-Ok-clause-check_complete
returns-in-Ok-clause-check_complete g c = λ j net is verb tells conforms.
    let says : job_text c.in-Ok.job ≡ j = same_job (job_text c.in-Ok.job) j (job (texts c.args.words.now)) c.in-Ok.ensures.read is in
    c.do_job.ensures.check_complete net (ap (λ x. x.verb) says ∙ verb) tells (subst (λ x. ConformsWith no_ports (g.L.Library.file c.args.library.now) (top_asked x.top) x.ports net) (sym says) conforms)

pub returns-in-Ok-clause-check_incomplete : goal.returns-in-Ok-clause-check_incomplete
returns-in-Ok-clause-check_incomplete g c = λ j misses names refusal is verb tells refuses.
    let says : job_text c.in-Ok.job ≡ j = same_job (job_text c.in-Ok.job) j (job (texts c.args.words.now)) c.in-Ok.ensures.read is in
    c.do_job.ensures.check_incomplete misses names refusal (ap (λ x. x.verb) says ∙ verb) tells
    (subst (λ x. RefusesJob no_ports (g.L.Library.file c.args.library.now) (top_asked x.top) x.ports misses names refusal) (sym says) refuses)

pub returns-in-Ok-clause-certify : goal.returns-in-Ok-clause-certify
returns-in-Ok-clause-certify g c = λ j is verb.
    let says : job_text c.in-Ok.job ≡ j = same_job (job_text c.in-Ok.job) j (job (texts c.args.words.now)) c.in-Ok.ensures.read is in
    inl (record { read = c.in-Ok.job; says = says; holds = c.do_job.ensures.certify (ap (λ x. x.verb) says ∙ verb) })

pub returns-in-Ok-clause-certify_complete : goal.returns-in-Ok-clause-certify_complete
returns-in-Ok-clause-certify_complete g c = λ j net is verb tells.
    let says : job_text c.in-Ok.job ≡ j = same_job (job_text c.in-Ok.job) j (job (texts c.args.words.now)) c.in-Ok.ensures.read is in
    subst (λ x. (conforms : ConformsWith no_ports (g.L.Library.file c.args.library.now) (top_asked x.top) x.ports net) → IsDecided conforms.means.means.actors c.do_job.result) says
    (c.do_job.ensures.certify_complete net (ap (λ x. x.verb) says ∙ verb) tells)

pub returns-in-Ok-clause-certify_incomplete : goal.returns-in-Ok-clause-certify_incomplete
returns-in-Ok-clause-certify_incomplete g c = λ j misses names refusal is verb tells refuses.
    let says : job_text c.in-Ok.job ≡ j = same_job (job_text c.in-Ok.job) j (job (texts c.args.words.now)) c.in-Ok.ensures.read is in
    c.do_job.ensures.certify_incomplete misses names refusal (ap (λ x. x.verb) says ∙ verb) tells
    (subst (λ x. RefusesJob no_ports (g.L.Library.file c.args.library.now) (top_asked x.top) x.ports misses names refusal) (sym says) refuses)

pub returns-in-Ok-clause-complete : goal.returns-in-Ok-clause-complete
returns-in-Ok-clause-complete g c = λ j tree is verb has quiet kept.
    let says : job_text c.in-Ok.job ≡ j = same_job (job_text c.in-Ok.job) j (job (texts c.args.words.now)) c.in-Ok.ensures.read is in
    c.do_job.ensures.format_complete tree (ap (λ x. x.verb) says ∙ verb) (subst (λ x. HasFile (g.L.Library.file c.args.library.now x.top) x.ports tree) (sym says) has) quiet kept

pub returns-in-Ok-clause-format_cut : goal.returns-in-Ok-clause-format_cut
returns-in-Ok-clause-format_cut g c = λ j is verb faulted.
    let says : job_text c.in-Ok.job ≡ j = same_job (job_text c.in-Ok.job) j (job (texts c.args.words.now)) c.in-Ok.ensures.read is in
    subst (λ x. IsCutShort (library_met g.L.Library.file g.L.Library.misses g.L.Library.faults c.args.library.now c.do_job.new.library) x (g.D.Drains.channels c.args.drains.now) (g.D.Drains.channels c.do_job.new.drains)) says
    (c.do_job.ensures.format_cut (ap (λ x. x.verb) says ∙ verb) faulted)

pub returns-in-Err-Memory-clause-format_cut : goal.returns-in-Err-Memory-clause-format_cut
returns-in-Err-Memory-clause-format_cut g c = λ j is verb faulted.
    memory_cut (library_met g.L.Library.file g.L.Library.misses g.L.Library.faults c.args.library.now c.args.library.now) j
    (g.D.Drains.channels c.args.drains.now) (g.D.Drains.channels c.report.new.drains) c.report.result c.report.ensures faulted

pub returns-in-Ok-clause-replay : goal.returns-in-Ok-clause-replay
returns-in-Ok-clause-replay g c = λ j is verb.
    let says : job_text c.in-Ok.job ≡ j = same_job (job_text c.in-Ok.job) j (job (texts c.args.words.now)) c.in-Ok.ensures.read is in
    inl (record { read = c.in-Ok.job; says = says; holds = c.do_job.ensures.replay (ap (λ x. x.verb) says ∙ verb) })

pub returns-in-Ok-clause-replay_complete : goal.returns-in-Ok-clause-replay_complete
returns-in-Ok-clause-replay_complete g c = λ j net is verb tells conforms.
    let says : job_text c.in-Ok.job ≡ j = same_job (job_text c.in-Ok.job) j (job (texts c.args.words.now)) c.in-Ok.ensures.read is in
    inl (record {
      read = c.in-Ok.job;
      says = says;
      holds = c.do_job.ensures.replay_complete net (ap (λ x. x.verb) says ∙ verb) tells (subst (λ x. ConformsToReplay (g.L.Library.file c.args.library.now) (top_asked x.top) x.ports x.grow net) (sym says) conforms);
    })

pub returns-in-Ok-clause-replay_incomplete : goal.returns-in-Ok-clause-replay_incomplete
returns-in-Ok-clause-replay_incomplete g c = λ j misses names refusal is verb tells refuses.
    let says : job_text c.in-Ok.job ≡ j = same_job (job_text c.in-Ok.job) j (job (texts c.args.words.now)) c.in-Ok.ensures.read is in
    c.do_job.ensures.replay_incomplete misses names refusal (ap (λ x. x.verb) says ∙ verb) tells
    (subst (λ x. RefusesReplay (g.L.Library.file c.args.library.now) (top_asked x.top) x.ports x.grow misses names refusal) (sym says) refuses)

pub returns-in-Ok-clause-generated : goal.returns-in-Ok-clause-generated
returns-in-Ok-clause-generated g c = λ j is verb.
    let says : job_text c.in-Ok.job ≡ j = same_job (job_text c.in-Ok.job) j (job (texts c.args.words.now)) c.in-Ok.ensures.read is in
    inl (record { read = c.in-Ok.job; says = says; holds = c.do_job.ensures.generated (ap (λ x. x.verb) says ∙ verb) })

pub returns-in-Ok-clause-gen_determinate : goal.returns-in-Ok-clause-gen_determinate
returns-in-Ok-clause-gen_determinate g c = λ j is verb.
    let says : job_text c.in-Ok.job ≡ j = same_job (job_text c.in-Ok.job) j (job (texts c.args.words.now)) c.in-Ok.ensures.read is in
    inl (record { read = c.in-Ok.job; says = says; holds = c.do_job.ensures.gen_determinate (ap (λ x. x.verb) says ∙ verb) })

pub returns-in-Ok-clause-gen_complete : goal.returns-in-Ok-clause-gen_complete
returns-in-Ok-clause-gen_complete g c = λ j instances net is verb number conform.
    let says : job_text c.in-Ok.job ≡ j = same_job (job_text c.in-Ok.job) j (job (texts c.args.words.now)) c.in-Ok.ensures.read is in
    inl (record {
      read = c.in-Ok.job;
      says = says;
      holds = c.do_job.ensures.gen_complete instances net (ap (λ x. x.verb) says ∙ verb) (ap (λ x. instances_of x.top) says ∙ number) (subst (λ x. GeneratedConform instances x.ports net) (sym says) conform);
    })

pub do_job-requires-clause-number : goal.do_job-requires-clause-number
do_job-requires-clause-number g c = λ lifetimes alive is.
    c.jobs_to_generate_have_numbers.ensures (texts c.args.words.now) (job_text c.in-Ok.job) c.in-Ok.ensures.read is
