use Rattle.std.proofs.Common.{◌≡◌, ◌-◌, ◌++◌, length, take}
use Rattle.net_model.specs.PortFile.{to_little_endian}
use Rattle.port_files.proofs.coding.write_little_endian.Given as goal

-- the bytes so far, and behind them those of what is left of the number
abbrev pub invariant-loop-k : goal.invariant-loop-k
invariant-loop-k l =
    take l.k l.out ++ to_little_endian (length l.out - l.k) l.rest ≡ to_little_endian (length l.out) l.number
