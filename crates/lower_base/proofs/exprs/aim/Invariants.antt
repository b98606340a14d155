use Rattle.std.proofs.Common.{◌≡◌, ◌++◌, map, take, drop}
use Rattle.lower_base.specs.Coding.{aimed}
use Rattle.lower_base.proofs.exprs.aim.Given as goal

abbrev pub invariant-loop-instr : goal.invariant-loop-instr
invariant-loop-instr l = l.part ≡ map (aimed l.out) (take l.instr-index l.initial.part) ++ drop l.instr-index l.initial.part
