-- The steps of a check.
-- Not trusted: no promise is read with it.
use Rattle.std.specs.Prelude.{length, map, string_bytes}
use Rattle.cal_files.specs.Views.{file_names}
use Rattle.cal_files.specs.declared.names.Names.{Names}
use Rattle.cmd_ports.specs.Matching.{names_of}
use Rattle.cmd_report.specs.About.{About}
use Rattle.network_check.specs.declared.checked.Checked.{Checked}
use Rattle.rvc_words.specs.Words.{port_text}
use Rattle.rvc_words.specs.declared.job.Job.{Job}

-- what a report speaks of, with a network that was checked
abbrev pub about_checked : Checked → Names → Job → About
about_checked c names job = record {
  files = file_names names;
  trace = string_bytes job.trace;
  words = map port_text job.ports.items;
  instances = length c.flat.paths.items;
  links = c.flat.links.items;
  ins = names_of c.flat.ins.items;
  outs = names_of c.flat.outs.items;
}
