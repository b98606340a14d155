-- Whether the sizes of types are ones that types may have.
-- Trusted: part of what a promise means.
use Rattle.std.specs.Prelude.{Bool, true, ◌&&◌, nat_le, List, [], ◌∷◌}
use Rattle.rvc_base.specs.declared.scalar.Scalar.{Scalar}
use Rattle.rvc_base.specs.declared.scalar.Scalar.TheVariants as scalar
use Rattle.rvc_base.specs.Width.{max_size}
use Rattle.cal_model.specs.Value.{Shape, Single, Many}
use Rattle.cal_model.specs.Actor.{Local, Fun}

abbrev pub is_size : Scalar → Bool
is_size scalar.Bool = true
is_size (scalar.Int n) = nat_le 1 n && nat_le n max_size
is_size (scalar.Uint n) = nat_le 1 n && nat_le n max_size

abbrev pub is_sized : Shape → Bool
is_sized (Single t) = is_size t
is_sized (Many n items) = is_sized items

abbrev pub are_sized : List Local → Bool
are_sized [] = true
are_sized (x ∷ xs) = is_sized x.shape && are_sized xs

-- the types of a function's formals, locals and result
abbrev pub is_sized_fun : Fun → Bool
is_sized_fun f = are_sized f.formals && are_sized f.locals && is_size f.result

abbrev pub are_sized_funs : List Fun → Bool
are_sized_funs [] = true
are_sized_funs (f ∷ fs) = is_sized_fun f && are_sized_funs fs
