-- How long a trace may be, as a number.
use Rattle.std.proofs.Common.{◌≡◌, refl}
use Rattle.trace_replay.specs.Judging.{max_trace_bytes}

pub max_is : max_trace_bytes ≡ 70368744177664
unfolding max_trace_bytes
max_is = refl
