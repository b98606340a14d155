-- Worked examples of ranges, computed by the certification rule.
use Rattle.std.proofs.Common.{◌≡◌, refl, pos, negsuc, List, [], ◌∷◌, codes}
use Rattle.std.specs.Prelude.{Some, None}
use Rattle.rvc_base.specs.declared.scalar.Scalar.TheVariants as scalar
use Rattle.cal_ast.specs.Tree as tree
use Rattle.cal_ast.specs.Tree.{Tree}
use Rattle.cal_ast.specs.declared.expr.BinOp.TheVariants.{And, Lt, Shl, Shr, Add, Mul, Div, Mod}
use Rattle.cal_model.specs.Value.{Single, Many, Num, Items, Nil, Cons}
use Rattle.cal_model.specs.Certified.{between, Ranged, range, conjuncts}
use Rattle.cal_model.proofs.Rows.{n_, two, name_}

-- v is a token of int(size=8), t a list of four bytes, and z a constant list of 7, -2 and 5
abbrev names_ : List Ranged
names_ = record { name = codes "v"; shape = Single (scalar.Int 8); value = None }
    ∷ record { name = codes "t"; shape = Many 4 (Single (scalar.Uint 8)); value = None }
    ∷ record { name = codes "z"; shape = Many 3 (Single (scalar.Int 8)); value = Some (Items (Cons (Num (pos 7)) (Cons (Num (negsuc 1)) (Cons (Num (pos 5)) Nil)))) } ∷ []

abbrev v_ : Tree
v_ = name_ (codes "v")

of_a_token : range v_ names_ ≡ Some (between (negsuc 127) (pos 127))
of_a_token = refl

of_a_sum : range (two Add v_ (n_ 128)) names_ ≡ Some (between (pos 0) (pos 255))
of_a_sum = refl

of_a_square : range (two Mul v_ v_) names_ ≡ Some (between (negsuc 16255) (pos 16384))
of_a_square = refl

of_a_rest : range (two Mod v_ (n_ 10)) names_ ≡ Some (between (negsuc 8) (pos 9))
of_a_rest = refl

-- the divisor might be 0
of_a_quotient : range (two Div (n_ 1) v_) names_ ≡ None
of_a_quotient = refl

of_an_item : range (tree.index (name_ (codes "t")) (n_ 3) 0) names_ ≡ Some (between (pos 0) (pos 255))
of_an_item = refl

-- there is no such place
of_no_item : range (tree.index (name_ (codes "t")) (n_ 4) 0) names_ ≡ None
of_no_item = refl

of_a_constant : range (tree.index (name_ (codes "z")) (n_ 1) 0) names_ ≡ Some (between (negsuc 1) (pos 7))
of_a_constant = refl

shifts_down : range (two Shr v_ (n_ 1)) names_ ≡ Some (between (negsuc 127) (pos 127))
shifts_down = refl

shifts_up : range (two Shl (n_ 1) (n_ 1)) names_ ≡ None
shifts_up = refl

-- an end outside the numbers
too_great : range (two Add v_ (n_ 170141183460469231731687303715884105700)) names_ ≡ None
too_great = refl

parts_between_and : conjuncts (two And (two And (two Lt v_ (n_ 1)) (two Lt v_ (n_ 2))) (two Lt v_ (n_ 3))) ≡ two Lt v_ (n_ 1) ∷ two Lt v_ (n_ 2) ∷ two Lt v_ (n_ 3) ∷ []
parts_between_and = refl
