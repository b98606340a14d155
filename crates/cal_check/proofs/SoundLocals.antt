-- Variables that are declared inside, of which none breaks a rule.
use Rattle.std.proofs.Common.{◌≡◌, ℕ, Bool, List, [], ◌∷◌, refl, sym, ap, subst, ◌∙◌, Option, None}
use Rattle.cal_ast.specs.Tree as tree
use Rattle.cal_ast.specs.Tree.{Tree}
use Rattle.cal_model.specs.Value.{Shape, kind_of_type}
use Rattle.cal_model.specs.Actor.{Local}
use Rattle.cal_model.specs.Kinding.{Judged, Fine, Broken, Known, Names, kind, type_judged, with_known}
use Rattle.cal_model.specs.Sound.{AreLocals, AreVars, IsPlain, IsVarStart, StartHasKind, kind_of_judged, names_of_vars, with_locals, with_vars_known}
use Rattle.cal_model.proofs.KindValues.{not-fine, fine-is, split}
use Rattle.cal_model.proofs.KindLaws.{judged-type}
use Rattle.cal_check.specs.Violations.{while_fine}
use Rattle.cal_check.specs.Constants.{stored_kind}
use Rattle.cal_check.specs.Written.{written, with_inner, vars_written, behind_vars}
use Rattle.cal_check.specs.Statements.{behind, names_behind, start_broken, starts_broken, var_broken}
use Rattle.cal_check.specs.Routines.{locals_of, shape_of, start_of}
use Rattle.cal_check.specs.Formed.{AreDeclared, IsOptional}
use Rattle.cal_check.specs.Laws.{ConstantsFit}
use Rattle.cal_check.proofs.Fine.{broken-none, none-of, stored-is}
use Rattle.cal_check.proofs.PlainTrees.{plain, type-plain}
use Rattle.cal_check.proofs.KeptKinds.{fit-more, kept, type-kept}

-- a start that breaks nothing
record IsStart (start : Tree) (t : Shape) (names : Names) : Type 0 where
  pub var : IsVarStart (kind_of_type t) (written start names) names
  pub plain_start : IsPlain (written start names)
  pub local : StartHasKind (kind_of_type t) (start_of start names) names

is-start : (start : Tree) (t : Shape) (names : Names) → IsOptional start → ConstantsFit names → start_broken (Fine t) start names ≡ [] → IsStart start t names
is-start tree.absent t names o fit h = record { var = tt; plain_start = tt; local = tt }
is-start (tree.present e) t names o fit h =
    let k = broken-none (stored_kind (kind_of_type t) e names) h in
    let fine : kind e names ≡ Fine (kind_of_type t) = stored-is (kind_of_type t) k.0 e names k.1 in
    let same = kept e names (kind_of_type t) fit fine in
    let bare = plain e names (kind_of_type t) fine in
    record { var = same; plain_start = bare; local = (same, bare) }
is-start other t names o fit h = absurd o

-- a variable of this type, as a name and as a local
abbrev known_var : List ℕ → Bool → Shape → Known
known_var name changes t = record { name = name; kind = kind_of_type t; value = None; changes = changes }

abbrev local_var : List ℕ → Bool → Option Tree → Shape → Local
local_var name changes start t = record { name = name; shape = t; start = start; changes = changes }

-- what is behind variables that break nothing, and what they are
pub record AreSound (vars : Tree) (names inner : Names) : Type 0 where
  pub fit : ConstantsFit inner
  pub is_behind : behind_vars vars names ≡ inner
  pub are_vars : AreVars (vars_written vars names) names
  pub is_named : names_of_vars (vars_written vars names) ≡ names_of_vars vars
  pub is_known : with_vars_known (vars_written vars names) names ≡ inner
  pub bare : IsPlain (vars_written vars names)
  pub are_locals : AreLocals (locals_of vars names) names
  pub is_with : with_locals (locals_of vars names) names ≡ inner

pub behind-fine : (j : Judged Shape) (v : Tree) (names inner : Names) → behind j v names ≡ Fine inner → (t : Shape) × (j ≡ Fine t) × (with_inner v names ≡ inner)
behind-fine (Fine t) v names inner h = (t, refl, fine-is (with_inner v names) inner h)
behind-fine (Broken rule at) v names inner h = absurd (not-fine rule at inner h)

-- the parts of the next variable, over names that its type has
abbrev var_of : Tree → List ℕ → ℕ → Tree → Bool → ℕ → Tree
var_of shape name place start changes at = tree.var shape (tree.ident name place) start changes at

abbrev inner_by : List ℕ → Bool → Judged Shape → Names → Names
inner_by name changes j names = with_known (record { name = name; kind = kind_of_judged j; value = None; changes = changes }) names

abbrev local_by : List ℕ → Bool → Option Tree → Judged Shape → Local
local_by name changes start j = record { name = name; shape = shape_of j; start = start; changes = changes }

one-more : (shape : Tree) (name : List ℕ) (place : ℕ) (start : Tree) (changes : Bool) (at : ℕ) (vs : Tree) (names inner : Names) (t : Shape)
    → type_judged shape names ≡ Fine t → ConstantsFit names → IsStart start t names → AreSound vs (with_known (known_var name changes t) names) inner
    → AreSound (tree.cons (var_of shape name place start changes at) vs) names inner
one-more shape name place start changes at vs names inner t e fit s rest =
    let next : Names = with_known (known_var name changes t) names in
    let same : inner_by name changes (type_judged shape names) names ≡ next = ap (λ j. inner_by name changes j names) e in
    let typed = type-kept shape names t fit e in
    let same_written : inner_by name changes (type_judged (written shape names) names) names ≡ next = ap (λ j. inner_by name changes j names) typed in
    let x : local_by name changes (start_of start names) (type_judged shape names) ≡ local_var name changes (start_of start names) t = ap (λ j. local_by name changes (start_of start names) j) e in
    let v : Tree = tree.var (written shape names) (tree.ident name place) (written start names) changes at in
    record {
      fit = rest.fit;
      is_behind = ap (λ n. behind_vars vs n) same ∙ rest.is_behind;
      are_vars = subst (λ n. AreVars (tree.cons v (vars_written vs n)) names) (sym same) (t, typed, s.var, rest.are_vars);
      is_named = ap (λ n. name ∷ names_of_vars (vars_written vs n)) same ∙ ap (λ ns. name ∷ ns) rest.is_named;
      is_known = ap (λ n. with_vars_known (vars_written vs (inner_by name changes (type_judged shape names) names)) n) same_written
          ∙ ap (λ n. with_vars_known (vars_written vs n) next) same ∙ rest.is_known;
      bare = subst (λ n. IsPlain (tree.cons v (vars_written vs n))) (sym same) ((type-plain shape names t e, s.plain_start), rest.bare);
      are_locals = subst (λ n. AreLocals (local_by name changes (start_of start names) (type_judged shape names) ∷ locals_of vs n) names) (sym same)
          (subst (λ y. AreLocals (y ∷ locals_of vs next) names) (sym x) (judged-type shape names t e, s.local, rest.are_locals));
      is_with = ap (λ n. with_locals (local_by name changes (start_of start names) (type_judged shape names) ∷ locals_of vs n) names) same
          ∙ ap (λ y. with_locals (y ∷ locals_of vs next) names) x ∙ rest.is_with;
    }

pub are-sound : (vars : Tree) (names inner : Names) → AreDeclared vars → ConstantsFit names → names_behind vars names ≡ Fine inner → starts_broken vars names ≡ []
    → AreSound vars names inner
are-sound tree.nil names inner d fit h i =
    subst (λ n. AreSound tree.nil names n) (fine-is names inner h)
    (record { fit = fit; is_behind = refl; are_vars = tt; is_named = refl; is_known = refl; bare = tt; are_locals = tt; is_with = refl })
are-sound (tree.cons (tree.var shape (tree.ident name place) start changes at) vs) names inner d fit h i =
    let v : Tree = var_of shape name place start changes at in
    let b = split (behind (type_judged shape names) v names) (λ n. names_behind vs n) inner h in
    let t = behind-fine (type_judged shape names) v names b.0 b.1 in
    let next : Names = with_known (known_var name changes t.0) names in
    let same : b.0 ≡ next = sym t.2 ∙ ap (λ j. inner_by name changes j names) t.1 in
    let parts = none-of (var_broken v names) (while_fine (behind (type_judged shape names) v names) (λ n. starts_broken vs n)) i in
    let mine : start_broken (Fine t.0) start names ≡ [] = ap (λ j. start_broken j start names) (sym t.1) ∙ parts.0 in
    let rest : starts_broken vs b.0 ≡ [] = ap (λ j. while_fine j (λ n. starts_broken vs n)) (sym b.1) ∙ parts.1 in
    one-more shape name place start changes at vs names inner t.0 t.1 fit (is-start start t.0 names d.0 fit mine)
    (are-sound vs next inner d.1 (fit-more (known_var name changes t.0) names refl fit) (subst (λ n. names_behind vs n ≡ Fine inner) same b.2) (subst (λ n. starts_broken vs n ≡ []) same rest))
are-sound other names inner d fit h i = absurd d
