use Rattle.std.proofs.Common.{◌≡◌, ◌-◌, ◌^◌, ◌<◌, length, drop}
use Rattle.net_model.specs.PortFile.{little_endian}
use Rattle.port_files.proofs.coding.little_endian.Given as goal

-- the number that the last bytes stand for, as many as are done
abbrev pub invariant-loop-done : goal.invariant-loop-done
invariant-loop-done l =
    record { value : l.number ≡ little_endian (drop (length l.bytes - l.done) l.bytes); fits : l.number < 256 ^ l.done }
