use Rattle.cmd_report.specs.Report.{report}
use Rattle.cmd_run_network.specs.Names.{ChannelsOpened, FeedsOpened}
use Rattle.cmd_run.specs.Steps.{about_image, lines_at, status_of}
use Rattle.cmd_run.proofs.Asking.{put_alone, still_asked}
use Rattle.cmd_run.proofs.image.run_and_report.Goals as goal

pub returns : goal.returns
returns g c = record {
  came = c.run_cells-came.result;
  between = g.D.Drains.channels c.run_cells-came.new.drains;
  ran = c.run_cells-came.ensures.ran;
  asked = still_asked c.args.image.now c.args.job.now (FeedsOpened g.F.Feeds.feeds g.F.Feeds.past c.args.feeds.now c.run_cells-came.new.feeds) g.D.Drains.channels g.D.Drains.past
      c.args.drains.now c.run_cells-came.new.drains c.report_came.new.drains (g.G.Gate.arrived c.args.gate.now) c.run_cells-came.result
      (put_alone (status_of c.run_cells-came.result) (report (lines_at c.args.image.now c.args.names.now c.args.job.now c.run_cells-came.result) (about_image c.args.image.now c.args.names.now c.args.job.now) (status_of c.run_cells-came.result))
      (g.D.Drains.channels c.run_cells-came.new.drains) (g.D.Drains.channels c.report_came.new.drains) c.report_came.result c.report_came.ensures).same_open c.run_cells-came.ensures.asked;
  put = c.report_came.ensures;
}
