-- A worked case: an item of a list meets all that the laws ask.
use Rattle.std.proofs.Common.{◌≡◌, List, [], ◌∷◌, codes, false, refl, Option, None, Some, arith}
use Rattle.rvc_base.specs.declared.scalar.Scalar.TheVariants as scalar
use Rattle.cal_ast.specs.Tree as tree
use Rattle.cal_ast.specs.Tree.{Tree}
use Rattle.cal_model.specs.Value.{NumKind, ListKind, Shape, Single, Many}
use Rattle.cal_model.specs.Kinding.{Fine, Known, Names, kind, with_known}
use Rattle.lower_base.specs.Growing.{left_out_in, one}
use Rattle.lower_base.specs.Names.{Name, local_of}
use Rattle.law_forms.specs.Lowerable.{AreSeen, IsLowerable}
use Rattle.law_forms.proofs.SeenNames.{seen_more}
use Rattle.law_forms.proofs.Whole.{filled}

abbrev nothing_known : Names
nothing_known = record { globals = []; locals = []; funs = [] }

nothing_seen : AreSeen nothing_known []
nothing_seen text x e = absurd (none_is x e)
  where
    none_is : (x : Known) → ◌≡◌ {A = Option Known} None (Some x) → ⊥
    none_is x e = cc

-- a list of three numbers
abbrev l_known : Known
l_known = record { name = codes "l"; kind = ListKind 3 NumKind; value = None; changes = false }

abbrev l_type : Shape
l_type = Many 3 (Single (scalar.Int 8))

abbrev l_inside : Names
l_inside = with_known l_known nothing_known

abbrev l_names : List Name
l_names = local_of (codes "l") l_type 0 ∷ []

-- `l[0]`
abbrev first_item : Tree
first_item = tree.index (tree.variable (codes "l") 0) (tree.number 0 2) 1

pub item_is_lowerable : IsLowerable l_inside [] l_names first_item
item_is_lowerable = record {
  seen = seen_more nothing_known [] l_known l_type 0 (omega arith, omega arith, (omega arith, omega arith)) refl nothing_seen;
  calls = (tt, tt);
  plain = (tt, tt);
}

pub item_is_number : kind first_item l_inside ≡ Fine NumKind
item_is_number = refl

pub nothing_of_it_is_left_out : left_out_in [] l_names first_item ≡ None
nothing_of_it_is_left_out =
    filled [] [] (λ text. Unit {0}) first_item l_inside l_names NumKind one item_is_lowerable.seen refl item_is_lowerable.calls item_is_number item_is_lowerable.plain tt
