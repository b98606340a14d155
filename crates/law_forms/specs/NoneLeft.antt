-- Nothing is left out of an expression that has a kind.
-- Trusted: part of what a promise means.
use Rattle.std.specs.Prelude.{◌≡◌, List, length, true, None, Some}
use Rattle.rvc_base.specs.declared.scalar.Scalar.{Scalar}
use Rattle.cal_ast.specs.Tree.{Tree}
use Rattle.cal_model.specs.Value.{Kind, BoolKind, Shape, Single}
use Rattle.cal_model.specs.Actor.{Local}
use Rattle.cal_model.specs.Kinding.{Fine, Names, arguments_fit, kind, kinds, type_judged}
use Rattle.cal_model.specs.Sound.{AreAll, Each, IsFormal, IsPlain}
use Rattle.lower_base.specs.Callees.{Function}
use Rattle.lower_base.specs.Growing.{left_out_args, left_out_fill, left_out_fills}
use Rattle.lower_base.specs.Meant.{single_meant}
use Rattle.lower_base.specs.Names.{Name}
use Rattle.lower_base.specs.Parted.{number_of}
use Rattle.lower_base.specs.Truths.{is_truth}
use Rattle.expr_lower.specs.ShapeMeant.{shape_meant}
use Rattle.law_forms.specs.Lowerable.{IsLike, IsLowerable}

-- nothing is left out of an expression where a type of its kind is meant
abbrev pub NothingLeft : Type 0
NothingLeft = (known : Names) (fs : List Function) (names : List Name) (e : Tree) (k : Kind)
    (t : Shape) → IsLowerable known fs names e → kind e known ≡ Fine k → IsLike t k
    → left_out_fill fs names t e ≡ None

-- .. of expressions that are all of this kind
abbrev pub NothingLeftOfEach : Type 0
NothingLeftOfEach = (known : Names) (fs : List Function) (names : List Name) (es : Tree)
    (ks : List Kind) (k : Kind) (t : Shape) → IsLowerable known fs names es
    → kinds es known ≡ Fine ks → AreAll k ks → IsLike t k → left_out_fills fs names t es ≡ None

-- .. of arguments that fit formals, of which there are as many
abbrev pub NothingLeftOfArguments : Type 0
NothingLeftOfArguments = (known : Names) (fs : List Function) (names : List Name) (args : Tree)
    (formals : List Local) → IsLowerable known fs names args
    → arguments_fit args formals known ≡ Fine true → Each IsFormal formals
    → (left_out_args fs names args ≡ None) × (number_of args ≡ length formals)

-- an expression of the kind of truth values is seen to give one
abbrev pub TruthsAreSeen : Type 0
TruthsAreSeen = (known : Names) (fs : List Function) (names : List Name) (e : Tree)
    → IsLowerable known fs names e → kind e known ≡ Fine BoolKind → is_truth fs names e ≡ true

-- a type that is one is seen to be that, if its sizes are written out
abbrev pub TypesAreSeen : Type 0
TypesAreSeen = (known : Names) (shape : Tree) (t : Shape) → IsPlain shape
    → type_judged shape known ≡ Fine t → shape_meant shape ≡ Some t

abbrev pub ScalarsAreSeen : Type 0
ScalarsAreSeen = (known : Names) (shape : Tree) (s : Scalar) → IsPlain shape
    → type_judged shape known ≡ Fine (Single s) → single_meant shape ≡ Some s
