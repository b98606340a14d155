-- Lists at any depth that are stored item by item.
pub use Rattle.expr_lower.proofs.Leaves.{AreConverted, leaf_size, stored_leaf, stored_leaves}
