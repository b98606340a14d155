use Rattle.std.proofs.Common.{refl, sym, subst, string_bytes}
use Rattle.cal_files.specs.Views.{file_names}
use Rattle.fnl_source.specs.Files.{class_asked, files_of}
use Rattle.fnl_source.specs.Library.{IsLibraryNetwork}
use Rattle.cmd_report.specs.Report.{last_line}
use Rattle.rvc_engine.specs.Built.{IsBuilt}
use Rattle.network_check.specs.Refused.{IsFault, IsOutside}
use Rattle.network_check.specs.Top.{top_asked}
use Rattle.cmd_network.specs.Commands.{Command, command, met_by}
use Rattle.cmd_network.specs.Steps.{IsPut, about_words, status_of_build}
use Rattle.cmd_run_network.specs.Names.{FeedsOpened}
use Rattle.cmd_replay.proofs.Answering.{answered_plainly, image_answered, image_complete, no_verdict, unbuilt_answered, unbuilt_complete}
use Rattle.cmd_replay.proofs.verb.replay_job.Goals as goal

pub replay_image-requires-clause-source : goal.replay_image-requires-clause-source
replay_image-requires-clause-source g c =
    let built = c.in-Ok.ensures.built in
    record {
      actors = built.is_image.means.actors;
      net = built.is_image.net;
      has = built.is_image.has;
      is = c.cells_run_as_sources.ensures.sources (files_of built.reads) (class_asked (top_asked c.as_str.result.now)) built.is_image.net built.is_image.means.tree built.is_image.means.actors
          built.is_image.means built.is_image.means.is_tree built.is_image.means.are_actors built.is_image.has.sound;
    }

pub returns-in-Ok-clause-as_asked : goal.returns-in-Ok-clause-as_asked
returns-in-Ok-clause-as_asked g c =
    let cmd : Command = command (met_by g.L.Library.file g.L.Library.misses g.L.Library.faults g.F.Feeds.feeds g.D.Drains.channels c.args.library.now c.build.new.library
    c.args.feeds.now c.replay_image.new.feeds c.args.drains.now c.replay_image.new.drains) c.args.job.now in
    let built : IsBuilt (g.L.Library.file c.args.library.now) (top_asked (string_bytes c.args.job.now.top)) (file_names c.build.new.names) c.in-Ok.image =
    subst (λ top. IsBuilt (g.L.Library.file c.args.library.now) (top_asked top) (file_names c.build.new.names) c.in-Ok.image) c.as_str.ensures.value c.in-Ok.ensures.built in
    image_answered cmd (FeedsOpened g.F.Feeds.feeds g.F.Feeds.past c.args.feeds.now c.replay_image.new.feeds) c.in-Ok.image c.build.new.names c.cells_run_as_sources.ensures.sources built c.replay_image.result c.replay_image.ensures

pub returns-in-Ok-clause-incomplete : goal.returns-in-Ok-clause-incomplete
returns-in-Ok-clause-incomplete g c = λ misses found r tells refuses.
    let cmd : Command = command (met_by g.L.Library.file g.L.Library.misses g.L.Library.faults g.F.Feeds.feeds g.D.Drains.channels c.args.library.now c.build.new.library
    c.args.feeds.now c.replay_image.new.feeds c.args.drains.now c.replay_image.new.drains) c.args.job.now in
    no_verdict cmd c.conforming_jobs_are_not_refused.ensures c.one_library_network.ensures.network misses found r tells c.replay_image.result (answered_plainly (FeedsOpened g.F.Feeds.feeds g.F.Feeds.past c.args.feeds.now c.replay_image.new.feeds) cmd c.replay_image.result (returns-in-Ok-clause-as_asked g c)) refuses

pub returns-in-Ok-clause-complete : goal.returns-in-Ok-clause-complete
returns-in-Ok-clause-complete g c = λ net tells conforms.
    let cmd : Command = command (met_by g.L.Library.file g.L.Library.misses g.L.Library.faults g.F.Feeds.feeds g.D.Drains.channels c.args.library.now c.build.new.library
    c.args.feeds.now c.replay_image.new.feeds c.args.drains.now c.replay_image.new.drains) c.args.job.now in
    let built : IsBuilt (g.L.Library.file c.args.library.now) (top_asked (string_bytes c.args.job.now.top)) (file_names c.build.new.names) c.in-Ok.image =
    subst (λ top. IsBuilt (g.L.Library.file c.args.library.now) (top_asked top) (file_names c.build.new.names) c.in-Ok.image) c.as_str.ensures.value c.in-Ok.ensures.built in
    image_complete cmd (FeedsOpened g.F.Feeds.feeds g.F.Feeds.past c.args.feeds.now c.replay_image.new.feeds) c.in-Ok.image c.build.new.names c.cells_run_as_sources.ensures.sources built c.replay_image.result net c.one_library_network.ensures.network tells conforms c.replay_image.ensures

pub returns-clause-as_asked : goal.returns-clause-as_asked
returns-clause-as_asked g c =
    let cmd : Command = command (met_by g.L.Library.file g.L.Library.misses g.L.Library.faults g.F.Feeds.feeds g.D.Drains.channels c.args.library.now c.build.new.library
    c.args.feeds.now c.args.feeds.now c.args.drains.now c.report_unbuilt.new.drains) c.args.job.now in
    let why : IsFault (g.L.Library.file c.args.library.now) (top_asked (string_bytes c.args.job.now.top)) cmd.misses cmd.faults (file_names c.build.new.names) c.in-Err.fault =
    subst (λ top. IsFault (g.L.Library.file c.args.library.now) (top_asked top) cmd.misses cmd.faults (file_names c.build.new.names) c.in-Err.fault) c.as_str.ensures.value c.in-Err.ensures.fault in
    let put : IsPut (status_of_build c.in-Err.fault) (last_line (about_words c.build.new.names c.args.job.now) (status_of_build c.in-Err.fault))
    (g.D.Drains.channels c.args.drains.now) (g.D.Drains.channels c.report_unbuilt.new.drains) c.report_unbuilt.result =
    subst (λ said. IsPut said (last_line (about_words c.build.new.names c.args.job.now) said) (g.D.Drains.channels c.args.drains.now) (g.D.Drains.channels c.report_unbuilt.new.drains) c.report_unbuilt.result)
    c.status_of_build.ensures c.report_unbuilt.ensures in
    unbuilt_answered cmd (FeedsOpened g.F.Feeds.feeds g.F.Feeds.past c.args.feeds.now c.args.feeds.now) c.build.new.names refl c.in-Err.fault c.report_unbuilt.result why put

pub returns-clause-incomplete : goal.returns-clause-incomplete
returns-clause-incomplete g c = λ misses found r tells refuses.
    let cmd : Command = command (met_by g.L.Library.file g.L.Library.misses g.L.Library.faults g.F.Feeds.feeds g.D.Drains.channels c.args.library.now c.build.new.library
    c.args.feeds.now c.args.feeds.now c.args.drains.now c.report_unbuilt.new.drains) c.args.job.now in
    no_verdict cmd c.conforming_jobs_are_not_refused.ensures c.one_library_network.ensures.network misses found r tells c.report_unbuilt.result (answered_plainly (FeedsOpened g.F.Feeds.feeds g.F.Feeds.past c.args.feeds.now c.args.feeds.now) cmd c.report_unbuilt.result (returns-clause-as_asked g c)) refuses

pub returns-clause-complete : goal.returns-clause-complete
returns-clause-complete g c = λ net tells conforms.
    let cmd : Command = command (met_by g.L.Library.file g.L.Library.misses g.L.Library.faults g.F.Feeds.feeds g.D.Drains.channels c.args.library.now c.build.new.library
    c.args.feeds.now c.args.feeds.now c.args.drains.now c.report_unbuilt.new.drains) c.args.job.now in
    let is : IsLibraryNetwork (g.L.Library.file c.args.library.now) (top_asked c.as_str.result.now) net =
    subst (λ top. IsLibraryNetwork (g.L.Library.file c.args.library.now) (top_asked top) net) (sym c.as_str.ensures.value) conforms.conforms.means in
    let un : IsOutside c.in-Err.fault = c.in-Err.ensures.complete net tells is in
    let put : IsPut (status_of_build c.in-Err.fault) (last_line (about_words c.build.new.names c.args.job.now) (status_of_build c.in-Err.fault))
    (g.D.Drains.channels c.args.drains.now) (g.D.Drains.channels c.report_unbuilt.new.drains) c.report_unbuilt.result =
    subst (λ said. IsPut said (last_line (about_words c.build.new.names c.args.job.now) said) (g.D.Drains.channels c.args.drains.now) (g.D.Drains.channels c.report_unbuilt.new.drains) c.report_unbuilt.result)
    c.status_of_build.ensures c.report_unbuilt.ensures in
    unbuilt_complete cmd (FeedsOpened g.F.Feeds.feeds g.F.Feeds.past c.args.feeds.now c.args.feeds.now) c.build.new.names refl net c.in-Err.fault c.report_unbuilt.result un put

pub returns-in-Ok-clause-answered : goal.returns-in-Ok-clause-answered
returns-in-Ok-clause-answered g c = answered_plainly (FeedsOpened g.F.Feeds.feeds g.F.Feeds.past c.args.feeds.now c.replay_image.new.feeds) _ c.replay_image.result (returns-in-Ok-clause-as_asked g c)

pub returns-clause-answered : goal.returns-clause-answered
returns-clause-answered g c = answered_plainly (FeedsOpened g.F.Feeds.feeds g.F.Feeds.past c.args.feeds.now c.args.feeds.now) _ c.report_unbuilt.result (returns-clause-as_asked g c)
