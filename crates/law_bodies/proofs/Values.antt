-- What is known of expressions.
use Rattle.std.proofs.Common.{◌≡◌, ℕ, List, length, true, refl, None}
use Rattle.rvc_base.specs.declared.scalar.Scalar.{Scalar}
use Rattle.rvc_base.specs.declared.scalar.Scalar.TheVariants as scalar
use Rattle.cal_ast.specs.Tree.{Tree}
use Rattle.cal_model.specs.Value.{Kind, NumKind, Shape, Single, Many, kind_of_scalar}
use Rattle.cal_model.specs.Actor.{Fun, Local}
use Rattle.cal_model.specs.Kinding.{Fine, Names, arguments_fit, counts, kind, kinds}
use Rattle.cal_model.specs.Sound.{AreAll, Each, IsFormal, IsPlain}
use Rattle.lower_base.specs.Callees.{Function}
use Rattle.lower_base.specs.Growing.{left_out_args, left_out_fills, left_out_in, one}
use Rattle.lower_base.specs.Names.{Name}
use Rattle.lower_base.specs.Parted.{number_of}
use Rattle.lower_stmt.specs.StmtGrowing.{left_out_each}
use Rattle.law_forms.specs.Lowerable.{CallsRoutines, IsLike}
use Rattle.law_forms.proofs.Sorts.{fit_count}
use Rattle.law_forms.proofs.Whole.{args_filled, filled, fills}
use Rattle.law_bodies.specs.Standing.{AreReady}
use Rattle.law_bodies.proofs.Assigned.{NoneOf, each_none}
use Rattle.law_bodies.proofs.Types.{one_like}

-- the variable of a loop has a number type
pub record IsCount (t : Shape) : Type 0 where
  pub scalar : Scalar
  pub is : t ≡ Single scalar
  pub number : kind_of_scalar scalar ≡ NumKind

pub count_of : (t : Shape) (at : ℕ) → counts t at ≡ Fine t → IsCount t
count_of (Single scalar.Bool) at e = cc
count_of (Single (scalar.Int n)) at e = record { scalar = scalar.Int n; is = refl; number = refl }
count_of (Single (scalar.Uint n)) at e = record { scalar = scalar.Uint n; is = refl; number = refl }
count_of (Many n items) at e = cc

module _ (funs : List Fun) (fs : List Function) where
  -- nothing is left out of an expression of a kind
  pub none_of : (known : Names) (names : List Name) (e : Tree) (k : Kind) → AreReady funs known names → CallsRoutines funs fs e → IsPlain e → kind e known ≡ Fine k → NoneOf fs names e k
  none_of known names e k r calls plain is t like = filled funs fs (λ text. Unit {0}) e known names k t r.seen r.calls calls is plain like

  -- .. of several of one kind
  pub none_of_each : (known : Names) (names : List Name) (es : Tree) (ks : List Kind) (k : Kind) (t : Shape) → AreReady funs known names → CallsRoutines funs fs es → IsPlain es → kinds es known ≡ Fine ks → AreAll k ks → IsLike t k → left_out_fills fs names t es ≡ None
  none_of_each known names es ks k t r calls plain are all like = fills funs fs (λ text. Unit {0}) es known names ks k t r.seen r.calls calls are all plain like

  -- .. of arguments
  pub none_of_arguments : (known : Names) (names : List Name) (args : Tree) (formals : List Local) → AreReady funs known names → CallsRoutines funs fs args → IsPlain args → arguments_fit args formals known ≡ Fine true → Each IsFormal formals
      → (left_out_args fs names args ≡ None) × (number_of args ≡ length formals)
  none_of_arguments known names args formals r calls plain fit are = (args_filled funs fs (λ text. Unit {0}) args known names formals r.seen r.calls calls fit are plain, fit_count args known formals fit)

  -- .. of a number or a truth value
  pub none_of_one : (known : Names) (names : List Name) (e : Tree) (t : Scalar) → AreReady funs known names → CallsRoutines funs fs e → IsPlain e → kind e known ≡ Fine (kind_of_scalar t) → left_out_in fs names e ≡ None
  none_of_one known names e t r calls plain is = none_of known names e (kind_of_scalar t) r calls plain is one (one_like t)

  -- .. of places
  pub none_of_places : (known : Names) (names : List Name) (places : Tree) (ks : List Kind) → AreReady funs known names → CallsRoutines funs fs places → IsPlain places → kinds places known ≡ Fine ks → AreAll NumKind ks → left_out_each fs names places ≡ None
  none_of_places known names places ks r calls plain are all = each_none fs names places (none_of_each known names places ks NumKind one r calls plain are all tt)
