use Rattle.std.specs.Prelude.{map, take, slice_get}
use Rattle.rvc_base.specs.Storing.{conv}
use Rattle.net_state.specs.Moving.{EachGains, only_to, sent_of}
use Rattle.net_state.proofs.carrying.carry.Given as goal

-- the first k tokens have come
abbrev pub invariant-loop-k : goal.invariant-loop-k
invariant-loop-k g l = EachGains
    (only_to l.to.0 l.port (map (conv l.kind) (take l.k (sent_of (slice_get (map g.A.Firing.cell l.initial.cells) l.from.0) l.out))))
    (map g.A.Firing.cell l.initial.cells) (map g.A.Firing.cell l.cells)
