-- Worked examples of kinds, computed by the definition.
use Rattle.std.proofs.Common.{◌≡◌, ℕ, refl, pos, List, [], ◌∷◌, true, false, codes}
use Rattle.std.specs.Prelude.{Some, None}
use Rattle.rvc_base.specs.declared.scalar.Scalar.TheVariants as scalar
use Rattle.rvc_base.specs.Rules.{constant_traps, list_too_long, not_constant, unknown_name, unsupported_type, wrong_kind, wrong_length, wrong_type_argument}
use Rattle.cal_ast.specs.Tree as tree
use Rattle.cal_ast.specs.Tree.{Tree, listed}
use Rattle.cal_ast.specs.declared.expr.BinOp.TheVariants.{And, Add, Lt, Div}
use Rattle.cal_model.specs.Value.{NumKind, BoolKind, ListKind, Single, Many, Num}
use Rattle.cal_model.specs.Kinding.{Fine, Broken, Names, kind, type_judged}
use Rattle.cal_model.proofs.Rows.{n_, two, name_, int_type, gen_, t_}

-- b is a truth value, and n a constant that is 4
abbrev names_ : Names
names_ = record {
  globals = record { name = codes "b"; kind = BoolKind; value = None; changes = true } ∷ record { name = codes "n"; kind = NumKind; value = Some (Num (pos 4)); changes = false } ∷ [];
  locals = [];
  funs = [];
}

-- 7 and true, the operation being at 5
wrong_operand : kind (tree.binary And (n_ 7) t_ 5) names_ ≡ Broken wrong_kind 5
wrong_operand = refl

-- parts come first: 1 + true at 2 inside an `and` at 5
first_of_two : kind (tree.binary And (tree.binary Add (n_ 1) t_ 2) (n_ 7) 5) names_ ≡ Broken wrong_kind 2
first_of_two = refl

two_lists : kind (tree.if_expr (name_ (codes "b")) (tree.list (listed (n_ 1 ∷ n_ 2 ∷ [])) 3) (tree.list (listed (n_ 1 ∷ [])) 4) 6) names_ ≡ Broken wrong_length 6
two_lists = refl

list_of_eight : kind (tree.comp (two Lt (name_ (codes "i")) (n_ 2)) (listed (gen_ (codes "i") 1 2 ∷ tree.gen int_type (tree.ident (codes "j") 0) (n_ 1) (name_ (codes "n")) 0 ∷ [])) 0) names_ ≡ Fine (ListKind 8 BoolKind)
list_of_eight = refl

-- a generator's variable isn't constant
bound_not_constant : kind (tree.comp (n_ 1) (listed (gen_ (codes "i") 1 2 ∷ tree.gen int_type (tree.ident (codes "j") 0) (n_ 1) (tree.variable (codes "i") 9) 0 ∷ [])) 0) names_ ≡ Broken not_constant 9
bound_not_constant = refl

bound_traps : kind (tree.comp (n_ 1) (listed (tree.gen int_type (tree.ident (codes "j") 0) (n_ 1) (tree.binary Div (n_ 1) (n_ 0) 8) 0 ∷ [])) 0) names_ ≡ Broken constant_traps 8
bound_traps = refl

abbrev sized : List ℕ → Tree → Tree
sized name e = tree.type_of (tree.ident name 20) (listed (tree.value_arg (tree.ident (codes "size") 21) e ∷ [])) 20

widest : type_judged (sized (codes "int") (n_ 64)) names_ ≡ Fine (Single (scalar.Int 64))
widest = refl

too_wide : type_judged (sized (codes "int") (n_ 65)) names_ ≡ Broken wrong_type_argument 20
too_wide = refl

as_wide_as_n : type_judged (sized (codes "uint") (name_ (codes "n"))) names_ ≡ Fine (Single (scalar.Uint 4))
as_wide_as_n = refl

no_float : type_judged (tree.type_of (tree.ident (codes "float") 11) tree.nil 11) names_ ≡ Broken unsupported_type 11
no_float = refl

no_such_type : type_judged (tree.type_of (tree.ident (codes "char") 11) tree.nil 11) names_ ≡ Broken unknown_name 11
no_such_type = refl

abbrev list_sized : Tree → Tree
list_sized e = tree.type_of (tree.ident (codes "List") 0) (listed (tree.shape_arg (tree.ident (codes "type") 1) int_type ∷ tree.value_arg (tree.ident (codes "size") 2) e ∷ [])) 0

greatest_list : type_judged (list_sized (n_ 16384)) names_ ≡ Fine (Many 16384 (Single (scalar.Int 32)))
greatest_list = refl

too_great_a_list : type_judged (list_sized (n_ 16385)) names_ ≡ Broken list_too_long 0
too_great_a_list = refl
