use Rattle.std.proofs.Common.{◌-◌, length}
use Rattle.cal_files.specs.Loading.{max_files}
use Rattle.cal_files.specs.Views.{file_names}
use Rattle.fnl_files.specs.SoFar.{IsLoading, seen, state_of}
use Rattle.fnl_files.specs.Views.{asked_of}
use Rattle.fnl_files.proofs.looking.load_all.Given as goal

abbrev pub invariant-files : goal.invariant-files
invariant-files g l = IsLoading (g.L.Library.file l.initial.library) (g.L.Library.faults l.initial.library) (g.L.Library.misses l.initial.library) (asked_of l.top l.fn.kind)
    (seen (g.L.Library.file l.library) (g.L.Library.faults l.library) (g.L.Library.misses l.library) (file_names l.names) (state_of l.loading))

abbrev pub decreases-files : goal.decreases-files
decreases-files g l = max_files - length (file_names l.names)
