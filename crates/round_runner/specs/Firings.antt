-- The lines of the firings of a round, as text.
-- Trusted: part of what a promise means.
use Rattle.std.specs.Prelude.{ℕ, List, map, flat_map}
use Rattle.trace_text.specs.declared.line.Line.TheVariants.{Fire as FireLine}
use Rattle.trace_text.specs.Text.{line_text}
use Rattle.net_model.specs.Cell.{Cell}
use Rattle.net_model.specs.Paced.{fire_lines}
use Rattle.net_state.specs.Held.{Held}

-- the firings of one instance
abbrev pub journal_text : ℕ → List ℕ → List ℕ
journal_text i actions = flat_map line_text (map (FireLine i) actions)

-- the firings that the journals of cells name, by cell
abbrev pub journals : {X : Type 0} → List (Cell X) → List (List ℕ)
journals cells = map (λ cell. cell.journal) cells

abbrev pub firings_text : {X : Type 0} → List (Cell X) → List ℕ
firings_text cells = flat_map line_text (fire_lines 0 (journals cells))

-- .. of a network
abbrev pub firings_of : {C X : Type 0} → (C → Cell X) → Held C → List ℕ
firings_of cell held = firings_text (map cell held.cells)
