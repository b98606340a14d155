use Rattle.std.proofs.Common.{map, string_bytes}
use Rattle.rvc_words.specs.Words.{port_text}
use Rattle.cmd_ports.specs.Matching.{names_of}
use Rattle.cmd_run_network.proofs.Numbered.{trace_open}
use Rattle.cmd_run_network.proofs.opening.start.Goals as goal

pub put_all-requires : goal.put_all-requires
put_all-requires g c =
    trace_open (string_bytes c.args.job.now.trace) (names_of c.args.flat.now.outs.items) (map port_text c.args.job.now.ports.items)
    (g.D.Drains.channels c.args.drains.now) (g.D.Drains.channels c.open_all.new.drains) c.in_default.ensures.opens.1
