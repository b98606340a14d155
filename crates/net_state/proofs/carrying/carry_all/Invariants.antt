use Rattle.std.specs.Prelude.{map, drop, length, ◌-◌}
use Rattle.net_state.specs.Moving.{EachGains, arriving}
use Rattle.net_state.proofs.carrying.carry_all.Given as goal

-- what was sent on the last k links has come
abbrev pub invariant-loop-k : goal.invariant-loop-k
invariant-loop-k g l = EachGains (arriving (map g.A.Firing.cell l.initial.cells) (drop (length l.links - l.k) l.links))
    (map g.A.Firing.cell l.initial.cells) (map g.A.Firing.cell l.cells)
