-- Types whose sizes are allowed.
-- Trusted: part of what a promise means.
use Rattle.std.specs.Prelude.{ℕ, ◌*◌, ◌&&◌, Bool, true, nat_le, if◌then◌else◌, Option, None, Some}
use Rattle.rvc_base.specs.declared.scalar.Scalar.{Scalar}
use Rattle.rvc_base.specs.declared.scalar.Scalar.TheVariants as scalar
use Rattle.rvc_base.specs.Width.{max_size}
use Rattle.cal_model.specs.Value.{Shape, Single, Many, max_list_scalars}

abbrev pub is_size : Scalar → Bool
is_size scalar.Bool = true
is_size (scalar.Int n) = nat_le 1 n && nat_le n max_size
is_size (scalar.Uint n) = nat_le 1 n && nat_le n max_size

-- how many numbers so many items have, if a list may have as many
abbrev pub numbers_of_items : ℕ → Option ℕ → Option ℕ
numbers_of_items n None = None
numbers_of_items n (Some each) =
    if nat_le 1 n && nat_le (n * each) max_list_scalars then Some (n * each) else None

-- how many numbers a type has, if its sizes are allowed
abbrev pub type_size : Shape → Option ℕ
type_size (Single t) = if is_size t then Some 1 else None
type_size (Many n items) = numbers_of_items n (type_size items)
