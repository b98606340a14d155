-- The steps to an answer.
-- Not trusted: no promise is read with it.
use Rattle.std.specs.Prelude.{◌≡◌, ◌⊎◌, ℕ, List, [], map, string_bytes}
use Rattle.std.specs.declared.result.Result.{Result}
use Rattle.std.specs.declared.result.Result.TheVariants.{Ok, Err}
use Rattle.rvc_io.specs.declared.Failed.{Failed}
use Rattle.rvc_io.specs.Channels.{Channels}
use Rattle.rvc_words.specs.Words.{port_text}
use Rattle.rvc_words.specs.declared.job.Job.{Job}
use Rattle.cal_files.specs.Views.{file_names}
use Rattle.cal_files.specs.declared.names.Names.{Names}
use Rattle.network_check.specs.declared.fault.BuildFault.{BuildFault}
use Rattle.network_check.specs.declared.fault.BuildFault.TheVariants as build
use Rattle.cmd_report.specs.About.{About}
use Rattle.cmd_report.specs.Puts.{GetsLess, GetsText}
use Rattle.cmd_report.specs.declared.status.ReadAt.TheVariants.{File}
use Rattle.cmd_report.specs.declared.status.Status.{Status}
use Rattle.cmd_report.specs.declared.status.Status.TheVariants as status

-- the status of a network that isn't given
abbrev pub status_of_build : BuildFault → Status
status_of_build (build.Refused refusal) = status.Refused refusal
status_of_build (build.ReadFault file) = status.ReadFault (File file)
status_of_build build.Memory = status.OutOfMemory

-- the status, if the report is put
abbrev pub answered : Status → Result (Unit {0}) Failed → Status
answered said (Ok done) = said
answered said (Err failed) = status.WriteFault 0

-- it was put, or it wasn't, and the status says that
abbrev pub IsPut : (said : Status) → (text : List ℕ) → (old new : Channels) → Status → Type 0
IsPut said text old new answer = ((answer ≡ said) × GetsText text old new)
    ⊎ ((answer ≡ status.WriteFault 0) × GetsLess text old new)

-- what the report speaks of, if no network is known
abbrev pub about_words : Names → Job → About
about_words names job = record {
  files = file_names names;
  trace = string_bytes job.trace;
  words = map port_text job.ports.items;
  instances = 0;
  links = [];
  ins = [];
  outs = [];
}
