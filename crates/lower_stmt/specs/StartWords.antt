-- The words of the contracts of calls that lower the start of a list.
-- Trusted: part of what a promise means.
pub use Rattle.expr_lower.specs.StartWords.{AddsListStart, AddsLocal, HasTakenList, TakesListStart}
