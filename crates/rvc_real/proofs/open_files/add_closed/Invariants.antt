use Rattle.std.proofs.Common.{◌≡◌, ◌+◌, ℕ, length, map, is_some}
use Rattle.rvc_real.specs.Open.{is_open_at}
use Rattle.rvc_real.proofs.open_files.add_closed.Given as goal

-- so many numbers were added so far, and the same files are open
abbrev pub invariant-loop-number : goal.invariant-loop-number
invariant-loop-number g l =
    record { added : length l.files.items ≡ length l.initial.files.items + l._number; same : (other : ℕ) → is_open_at (map is_some l.files.items) other ≡ is_open_at (map is_some l.initial.files.items) other }
