-- A type that is seen to be one of single values is that.
pub use Rattle.lower_base.proofs.MeantIs.{arg_is, many_args, meant_is, meant_sized}
