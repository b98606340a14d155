-- Parts that call no function.
use Rattle.std.proofs.Common.{◌≡◌, ℕ, true, List, refl, ap, ◌∙◌}
use Rattle.cal_ast.specs.Places.{begins}
use Rattle.cal_ast.specs.Tree as tree
use Rattle.cal_ast.specs.Tree.{Tree}
use Rattle.cal_model.specs.Kinding.{Judged, Fine, Broken, Known, Names, and_so, kind, one_kind}
use Rattle.cal_model.specs.Value.{Kind, Shape, kind_of_type}
use Rattle.cal_check.specs.Constants.{early_kind, not_yet, start_value, value_given}
use Rattle.cal_check.specs.Routines.{FunDecl}
use Rattle.cal_check.specs.Variables.{come, come_if, come_of, seen}
use Rattle.check_functions.specs.Calls.{StartsAreSame, TypesAreSame}
use Rattle.check_functions.specs.Known.{names_alone}
use Rattle.check_functions.proofs.Bare.{Any, No, SaysOnly, none_called}
use Rattle.check_functions.proofs.SameFuns.{mean_names}
use Rattle.check_functions.proofs.SameKinds.{MeanSame, constant-same, kind-same, type-same}

-- the names mean the same whatever functions there are
mean_same : (fs : List FunDecl) (known : List Known) → MeanSame Any No (names_alone known) (seen fs known)
mean_same fs known = mean_names Any (names_alone known) (seen fs known) (λ name p. refl)

pub types_same : TypesAreSame
types_same fs known shape h =
    ap (λ j. not_yet j shape) (type-same Any No shape (names_alone known) (seen fs known) (mean_same fs known) (none_called shape h))

pub start_same : (C : List ℕ → Type 0) (n m : Names) (t : Shape) (e : Tree) → MeanSame Any C n m → SaysOnly Any C true e → come t (tree.present e) n ≡ come t (tree.present e) m
start_same C n m t e s h =
    let kinds : kind e n ≡ kind e m = kind-same Any C e n m s h in
    let values = constant-same Any C e n m s h in
    ap (λ j. come_if (not_yet (and_so j (λ found. one_kind (kind_of_type t) found (begins e))) e) t e n) kinds
    ∙ go (early_kind (kind_of_type t) e m) (ap (λ o. come_of (value_given o t (begins e))) values)
  where
    go : (j : Judged Kind) → come_of (start_value t e n) ≡ come_of (start_value t e m) → come_if j t e n ≡ come_if j t e m
    go (Fine k) v = v
    go (Broken rule at) v = refl

pub starts_same : StartsAreSame
starts_same fs known t (tree.present e) h = start_same No (names_alone known) (seen fs known) t e (mean_same fs known) (none_called e h)
starts_same fs known t other h = refl
