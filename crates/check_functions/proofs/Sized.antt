-- The types of functions that break no rule in their heads have sizes that types may have.
use Rattle.std.proofs.Common.{◌≡◌, ℕ, ◌≤◌, Bool, true, false, List, [], ◌∷◌, refl, ap, subst, arith}
use Rattle.std.specs.Prelude.{◌&&◌, nat_le}
use Rattle.std.proofs.lemmas.Bool.Decides.{nat_tests}
use Rattle.rvc_base.specs.declared.scalar.Scalar.{Scalar}
use Rattle.rvc_base.specs.declared.scalar.Scalar.TheVariants as scalar
use Rattle.rvc_base.specs.Storing.{IsSize}
use Rattle.rvc_base.specs.Width.{max_size}
use Rattle.cal_ast.specs.Places.{begins}
use Rattle.cal_ast.specs.Tree as tree
use Rattle.cal_ast.specs.Tree.{Tree}
use Rattle.cal_model.specs.Value.{Shape, Single, Many, IsType}
use Rattle.cal_model.specs.Actor.{Fun, Local}
use Rattle.cal_model.specs.Kinding.{Judged, Fine, Broken, Names, and_so, type_judged, with_known}
use Rattle.cal_model.specs.Laws.{JudgedIsType}
use Rattle.cal_model.specs.Sound.{known_local, with_locals}
use Rattle.cal_model.proofs.KindValues.{split, fine-is, not-fine}
use Rattle.const_env.specs.Sizes.{is_size, is_sized, are_sized, is_sized_fun}
use Rattle.cal_check.specs.Routines.{Head, formal_judged, formal_of, formals_judged, fun_if, fun_judged, head_judged, local_if, local_of, locals_before, locals_of, result_judged, shape_of, single, single_type}
use Rattle.cal_check.specs.Statements.{names_behind, type_of_var}
use Rattle.cal_check.specs.Written.{with_inner}

both : (a b : Bool) → a ≡ true → b ≡ true → (a && b) ≡ true
both true true h e = refl
both true false h e = e
both false b h e = h

le_passes : (a b : ℕ) → a ≤ b → nat_le a b ≡ true
le_passes a b h = grind (arith, nat_tests)

size_passes : (t : Scalar) → IsSize t → is_size t ≡ true
size_passes scalar.Bool h = refl
size_passes (scalar.Int n) h = both (nat_le 1 n) (nat_le n max_size) (le_passes 1 n h.0) (le_passes n max_size h.1)
size_passes (scalar.Uint n) h = both (nat_le 1 n) (nat_le n max_size) (le_passes 1 n h.0) (le_passes n max_size h.1)

type_passes : (t : Shape) → IsType t → is_sized t ≡ true
type_passes (Single t) h = size_passes t h
type_passes (Many n items) h = type_passes items h.2

-- ---- formals and results

single_is : (j : Judged Shape) (at : ℕ) (t : Scalar) → single j at ≡ Fine t → j ≡ Fine (Single t)
single_is (Fine (Single u)) at t h = ap (λ s. Fine (Single s)) (fine-is u t h)
single_is (Fine (Many n u)) at t h = absurd (not-fine _ at t h)
single_is (Broken rule p) at t h = absurd (not-fine rule p t h)

single_passes : JudgedIsType → (shape : Tree) (names : Names) (t : Scalar) → single_type shape names ≡ Fine t → is_size t ≡ true
single_passes law shape names t h = size_passes t (law names shape (Single t) (single_is (type_judged shape names) (begins shape) t h))

formal_passes : JudgedIsType → (f : Tree) (names : Names) (x : Local) → formal_judged f names ≡ Fine x → is_sized x.shape ≡ true
formal_passes law (tree.port shape (tree.ident name place) at) names x h =
    let s = split (single_type shape names) (λ t. Fine (formal_of name t)) x h in
    subst (λ y. is_sized y.shape ≡ true) (fine-is (formal_of name s.0) x s.2) (single_passes law shape names s.0 s.1)
formal_passes law other names x h = absurd (not-fine _ 0 x h)

formals_pass : JudgedIsType → (fs : Tree) (names : Names) (xs : List Local) → formals_judged fs names ≡ Fine xs → are_sized xs ≡ true
formals_pass law tree.nil names xs h = subst (λ ys. are_sized ys ≡ true) (fine-is [] xs h) refl
formals_pass law (tree.cons f fs) names xs h =
    let s = split (formal_judged f names) (λ x. and_so (formals_judged fs (with_known (known_local x) names)) (λ ys. Fine (x ∷ ys))) xs h in
    let r = split (formals_judged fs (with_known (known_local s.0) names)) (λ ys. Fine (s.0 ∷ ys)) xs s.2 in
    subst (λ ys. are_sized ys ≡ true) (fine-is (s.0 ∷ r.0) xs r.2)
    (both (is_sized s.0.shape) (are_sized r.0) (formal_passes law f names s.0 s.1) (formals_pass law fs (with_known (known_local s.0) names) r.0 r.1))
formals_pass law other names xs h = absurd (not-fine _ 0 xs h)

-- ---- locals

shape_passes : JudgedIsType → (shape : Tree) (names : Names) → is_sized (shape_of (type_judged shape names)) ≡ true
shape_passes law shape names = go (type_judged shape names) refl
  where
    go : (j : Judged Shape) → type_judged shape names ≡ j → is_sized (shape_of j) ≡ true
    go (Fine t) h = type_passes t (law names shape t h)
    go (Broken rule at) h = refl

local_passes : JudgedIsType → (v : Tree) (names : Names) → is_sized (local_of v names).shape ≡ true
local_passes law (tree.var shape (tree.ident name place) start changes at) names = shape_passes law shape names
local_passes law other names = refl

locals_pass : JudgedIsType → (vs : Tree) (names : Names) → are_sized (locals_of vs names) ≡ true
locals_pass law (tree.cons v vs) names =
    both (is_sized (local_of v names).shape) (are_sized (locals_of vs (with_inner v names))) (local_passes law v names) (locals_pass law vs (with_inner v names))
locals_pass law other names = refl

local_if_passes : (j : Judged Shape) (x : Local) (xs : List Local) → is_sized x.shape ≡ true → are_sized xs ≡ true → are_sized (local_if j x xs) ≡ true
local_if_passes (Fine t) x xs h rest = both (is_sized x.shape) (are_sized xs) h rest
local_if_passes (Broken rule at) x xs h rest = refl

before_passes : JudgedIsType → (vs : Tree) (names : Names) → are_sized (locals_before vs names) ≡ true
before_passes law (tree.cons v vs) names =
    local_if_passes (type_of_var v names) (local_of v names) (locals_before vs (with_inner v names)) (local_passes law v names) (before_passes law vs (with_inner v names))
before_passes law other names = refl

-- ---- functions

-- the parts of a head
head_parts : (name formals result vars body : Tree) (at : ℕ) (names : Names) (head : Head) → head_judged (tree.function name formals result vars body at) names ≡ Fine head
    → (formals_judged formals names ≡ Fine head.formals) × (single_type result (with_locals head.formals names) ≡ Fine head.result)
head_parts name formals result vars body at names head h =
    let s = split (formals_judged formals names) (λ fs. result_judged result fs names) head h in
    let r = split (single_type result (with_locals s.0 names)) (λ t. Fine (record { formals = s.0; result = t })) head s.2 in
    let same : record { formals = s.0; result = r.0 } ≡ head = fine-is (record { formals = s.0; result = r.0 }) head r.2 in
    (subst (λ k. formals_judged formals names ≡ Fine k.formals) same s.1, subst (λ k. single_type result (with_locals k.formals names) ≡ Fine k.result) same r.1)

made_passes : JudgedIsType → (j : Judged Names) (full : List ℕ) (head : Head) (vars body : Tree) (names : Names) → are_sized head.formals ≡ true → is_size head.result ≡ true
    → is_sized_fun (fun_if j full head vars body names) ≡ true
made_passes law (Fine inner) full head vars body names formals result =
    both (are_sized head.formals && are_sized (locals_of vars (with_locals head.formals names))) (is_size head.result)
    (both (are_sized head.formals) (are_sized (locals_of vars (with_locals head.formals names))) formals (locals_pass law vars (with_locals head.formals names))) result
made_passes law (Broken rule at) full head vars body names formals result =
    both (are_sized head.formals && are_sized (locals_before vars (with_locals head.formals names))) (is_size head.result)
    (both (are_sized head.formals) (are_sized (locals_before vars (with_locals head.formals names))) formals (before_passes law vars (with_locals head.formals names))) result

pub fun_passes : JudgedIsType → (full : List ℕ) (decl : Tree) (names : Names) (g : Fun) → fun_judged full decl names ≡ Fine g → is_sized_fun g ≡ true
fun_passes law full (tree.function name formals result vars body at) names g h =
    let s = split (head_judged (tree.function name formals result vars body at) names) (λ head. Fine (fun_if (names_behind vars (with_locals head.formals names)) full head vars body names)) g h in
    let parts = head_parts name formals result vars body at names s.0 s.1 in
    subst (λ k. is_sized_fun k ≡ true) (fine-is _ g s.2)
    (made_passes law (names_behind vars (with_locals s.0.formals names)) full s.0 vars body names (formals_pass law formals names s.0.formals parts.0)
    (single_passes law result (with_locals s.0.formals names) s.0.result parts.1))
fun_passes law full other names g h = absurd (not-fine _ 0 g h)

made_named : (j : Judged Names) (full : List ℕ) (head : Head) (vars body : Tree) (names : Names) → (fun_if j full head vars body names).name ≡ full
made_named (Fine inner) full head vars body names = refl
made_named (Broken rule at) full head vars body names = refl

-- it has the name for which it is judged
pub fun_named_so : (full : List ℕ) (decl : Tree) (names : Names) (g : Fun) → fun_judged full decl names ≡ Fine g → g.name ≡ full
fun_named_so full (tree.function name formals result vars body at) names g h =
    let s = split (head_judged (tree.function name formals result vars body at) names) (λ head. Fine (fun_if (names_behind vars (with_locals head.formals names)) full head vars body names)) g h in
    subst (λ k. k.name ≡ full) (fine-is _ g s.2) (made_named (names_behind vars (with_locals s.0.formals names)) full s.0 vars body names)
fun_named_so full other names g h = absurd (not-fine _ 0 g h)
