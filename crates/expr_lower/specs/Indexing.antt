-- How many indexes are put on an expression.
-- Not trusted: no promise is read with it.
use Rattle.std.specs.Prelude.{ℕ, suc}
use Rattle.expr_lower.specs.declared.indexes.Indexes.{Indexes}
use Rattle.expr_lower.specs.declared.indexes.Indexes.TheOpen.{Indexes-F}
use Rattle.expr_lower.specs.declared.indexes.Indexes.TheFolds.{fold-Indexes}

abbrev pub link_step : Indexes-F ℕ → ℕ
link_step Indexes-F.None = 0
link_step (Indexes-F.OneMore less) = suc less.now

-- as many as there are links
abbrev pub number_of : Indexes → ℕ
number_of = fold-Indexes ℕ link_step
