use Rattle.law_determinate.proofs.Going.{tells}
use Rattle.law_determinate.proofs.laws.runs_tell_quiet_runs.Goals as goal

pub returns : goal.returns
returns c cmd said lines about net end ends counts ran =
    tells (record {
      runs = c.lines_are_runs.ensures;
      starts = c.taken_have_arrived.ensures.start;
      sent = c.runs_lead_towards_quiet.ensures.sent;
      agree = c.quiet_runs_agree.ensures;
      alone = c.no_quiet_run_besides_a_trap.ensures;
      all = c.as_many_firings_are_all.ensures;
    }) c.flat_networks_are_wired.ensures c.certified_networks_are_determinate.ensures c.no_failure_where_certified.ensures
    cmd net end counts lines about ran ran.sound
