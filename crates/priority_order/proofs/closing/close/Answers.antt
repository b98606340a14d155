use Rattle.std.proofs.Common.{ℕ, ◌<◌}
use Rattle.std.specs.Prelude.{IsTrue}
use Rattle.rvc_base.specs.Chain.{IsAbove}
use Rattle.rvc_base.specs.Line.{IsLine}
use Rattle.priority_order.specs.Ranking.{cell, Above}
use Rattle.priority_order.proofs.Lines.{line_by}
use Rattle.priority_order.proofs.StrictTables.{strict_from_closed, none_above_itself}
use Rattle.priority_order.proofs.closing.close.Goals as goal

pub arrange-requires : goal.arrange-requires
arrange-requires c =
    let none : (a : ℕ) → a < c.args.n → ¬ IsTrue (cell c.args.n c.in_ok-cells.cells.items a a) = rw (← c.deref.ensures.value) c.in_default.ensures in
    rw c.deref-2.ensures.value (strict_from_closed c.args.pairs.now c.args.n c.in_ok-cells.cells.items c.in_ok-cells.ensures none)

pub invariant_of-result : goal.invariant_of-result
invariant_of-result c =
    let none : (a : ℕ) → a < c.args.n → ¬ IsTrue (cell c.args.n c.in_ok-cells.cells.items a a) = rw (← c.deref.ensures.value) c.in_default.ensures in
    record {
      strict = strict_from_closed c.args.pairs.now c.args.n c.in_ok-cells.cells.items c.in_ok-cells.ensures none;
      lined = rw (← c.deref-2.ensures.value) c.in_ok-line.ensures;
    }

pub returns-clause-line : goal.returns-clause-line
returns-clause-line c =
    let lined : IsLine c.args.n (Above c.args.n c.in_ok-cells.cells.items) c.in_ok-line.line.items = rw (← c.deref-2.ensures.value) c.in_ok-line.ensures in
    line_by c.args.n (Above c.args.n c.in_ok-cells.cells.items) (IsAbove c.args.pairs.now) c.in_ok-line.line.items c.in_ok-cells.ensures.chains lined

pub returns-clause-without_cycle : goal.returns-clause-without_cycle
returns-clause-without_cycle c =
    let none : (a : ℕ) → a < c.args.n → ¬ IsTrue (cell c.args.n c.in_ok-cells.cells.items a a) = rw (← c.deref.ensures.value) c.in_default.ensures in
    none_above_itself c.args.pairs.now c.args.n c.in_ok-cells.cells.items c.requires c.in_ok-cells.ensures none
