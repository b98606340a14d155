use Rattle.std.specs.Prelude.{◌≡◌, take, length}
use Rattle.code_ir.specs.Code.{Code}
use Rattle.action_machine.specs.Kept.{IsMadeFor}
use Rattle.actor_cell.proofs.making.set_each.Given as goal

abbrev pub invariant-loop-k : goal.invariant-loop-k
invariant-loop-k l = record {
  size : length l.cells.numbers ≡ length l.initial.cells.numbers;
  is_set : take l.k l.cells.numbers ≡ take l.k l.numbers;
  made : (code : Code) → IsMadeFor code l.initial.cells → IsMadeFor code l.cells;
}
