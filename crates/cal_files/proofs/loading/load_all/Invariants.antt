use Rattle.std.proofs.Common.{◌-◌, length}
use Rattle.cal_files.specs.Loading.{max_files}
use Rattle.cal_files.specs.SoFar.{IsLoading, state_of}
use Rattle.cal_files.specs.Views.{file_names}
use Rattle.cal_files.proofs.loading.load_all.Given as goal

abbrev pub invariant-files : goal.invariant-files
invariant-files g l = IsLoading (g.L.Library.file l.initial.library) (g.L.Library.file l.library) (g.L.Library.faults l.initial.library) (g.L.Library.faults l.library) (g.L.Library.misses l.initial.library) (g.L.Library.misses l.library) l.class (file_names l.names) (state_of l.loading)

abbrev pub decreases-files : goal.decreases-files
decreases-files g l = max_files - length l.names.files.items
