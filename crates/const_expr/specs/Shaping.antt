-- Arguments of types, one by one.
-- Not trusted: no promise is read with it.
use Rattle.std.specs.Prelude.{ℕ, ◌&&◌, List, [], ◌∷◌, ℤ, pos, negsuc, codes, nat_le, if◌then◌else◌, string_bytes}
use Rattle.std.specs.Str.{bytes_eq}
use Rattle.rvc_base.specs.Width.{default_size, max_size}
use Rattle.cal_ast.specs.Tree as tree
use Rattle.cal_ast.specs.Tree.{Tree}
use Rattle.cal_model.specs.Kinding.{Judged, Fine, Broken, and_so, Names, Argument, OfShape, OfSize, type_judged, constant_number, kind}
use Rattle.rvc_base.specs.Rules.{wrong_kind, wrong_type_argument}
use Rattle.cal_model.specs.View.{shape_view}
use Rattle.const_expr.specs.declared.shapes.Argument.{Argument as Declared}
use Rattle.const_expr.specs.declared.shapes.Argument.TheVariants as declared

-- an argument of a type
abbrev pub argument_judged : Tree → Names → Judged Argument
argument_judged (tree.shape_arg (tree.ident name place) shape) names =
    and_so (type_judged shape names) (λ t. Fine (OfShape name t))
argument_judged (tree.value_arg (tree.ident name place) value) names =
    and_so (constant_number (kind value names) value names) (λ z. Fine (OfSize name z))
argument_judged other names = Broken wrong_kind 0

abbrev pub argument_view : Declared → Argument
argument_view (declared.Shape name filled) =
    OfShape (string_bytes name.now.text) (shape_view filled.shape)
argument_view (declared.Size name z) = OfSize (string_bytes name.now.text) z

-- a size in bits
abbrev pub bits_judged : ℤ → ℕ → Judged ℕ
bits_judged (pos n) at = if nat_le 1 n && nat_le n max_size then Fine n
    else Broken wrong_type_argument at
bits_judged (negsuc n) at = Broken wrong_type_argument at

-- the size of a number type, whose one argument may be its size
abbrev pub size_judged : List Argument → ℕ → Judged ℕ
size_judged [] at = Fine default_size
size_judged (OfSize name z ∷ []) at = if bytes_eq name (codes "size") then bits_judged z at else Broken wrong_type_argument at
size_judged args at = Broken wrong_type_argument at
