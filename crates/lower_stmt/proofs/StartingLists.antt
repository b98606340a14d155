-- Which cells names have doesn't matter to what is left out of the start of a local.
pub use Rattle.lower_base.proofs.Erased.{local_erased}
