-- Types whose sizes are allowed.
-- Trusted: part of what a promise means.
pub use Rattle.lower_base.specs.Types.{is_size, numbers_of_items, type_size}
