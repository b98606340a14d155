use Rattle.std.proofs.Common.{◌≡◌, ◌≤◌, length, ℕ, List}
use Rattle.cal_files.specs.Loading.{max_bytes, max_files}
use Rattle.cal_files.specs.Views.{file_names}
use Rattle.fnl_files.specs.SoFar.{GoesOn, seen, state_of}
use Rattle.fnl_files.proofs.looking.read_next.Given as goal

abbrev pub invariant-requests : goal.invariant-requests
invariant-requests g l = (length l.names.files.items ≤ max_files) × (l.loading.bytes ≤ max_bytes)
    × (file_names l.names ≡ file_names l.initial.names)
    × GoesOn (seen (g.L.Library.file l.initial.library) (g.L.Library.faults l.initial.library) (g.L.Library.misses l.initial.library) (file_names l.initial.names) (state_of l.initial.loading))
    (seen (g.L.Library.file l.library) (g.L.Library.faults l.library) (g.L.Library.misses l.library) (file_names l.names) (state_of l.loading))
    × ((other : List ℕ) → g.L.Library.file l.library other ≡ g.L.Library.file l.initial.library other)
    × (g.L.Library.faults l.initial.library ≤ g.L.Library.faults l.library)
    × (g.L.Library.misses l.initial.library ≤ g.L.Library.misses l.library)

abbrev pub decreases-requests : goal.decreases-requests
decreases-requests g l = length l.loading.waiting.items
