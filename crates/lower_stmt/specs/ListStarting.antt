-- The code of the start of a local that may be a list, and what is left out of it.
-- Trusted: part of what a promise means.
pub use Rattle.lower_base.specs.Names.{local_of}
pub use Rattle.lower_base.specs.Starting.{left_out_list_local, left_out_list_start, left_out_local}
pub use Rattle.expr_lower.specs.ListStarting.{IsListStart, all_filled, all_zero, StartsLocal, starts_list, starts_one}
