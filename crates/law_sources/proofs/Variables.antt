-- Variables whose names are written out in full: their form, their names and their calls.
use Rattle.std.proofs.Common.{◌≡◌, ℕ, ◌+◌, ◌≤◌, Bool, true, false, List, [], ◌∷◌, ◌++◌, refl, ap, arith}
use Rattle.std.specs.Prelude.{if◌then◌else◌}
use Rattle.std.specs.Str.{bytes_eq}
use Rattle.rvc_base.specs.Rules.{declared_twice}
use Rattle.cal_ast.specs.Tree as tree
use Rattle.cal_ast.specs.Tree.{Tree, listed}
use Rattle.cal_model.specs.Kinding.{Fine, Broken, and_so}
use Rattle.cal_model.specs.Sound.{AreDistinct, EachCall, names_of_vars}
use Rattle.cal_check.specs.Formed.{AreDeclared, IsOptional}
use Rattle.cal_scope.specs.Expressions.{declared_name, optional_resolved, type_resolved}
use Rattle.cal_scope.specs.Names.{Names, is_among, with_name, within}
use Rattle.cal_scope.specs.Statements.{var_resolved, vars_resolved}
use Rattle.law_sources.proofs.Counts.{AreSingle, count, count-append, distinct, one}
use Rattle.law_sources.proofs.Walked.{single_with}
use Rattle.law_sources.proofs.FormExpressions.{Call, optional_calls, type_calls}
use Rattle.law_sources.proofs.FormJudgements.{OnFine, on_all, so_two}
use Rattle.law_sources.proofs.Meant.{AreMeant}
use Rattle.law_sources.proofs.Shaped.{AreShapedVars, IsShapedVar}

-- a variable behind the names `here`, which has a new name
record IsNewVar (F Q : List ℕ → Type 0) (name : List ℕ) (here : List (List ℕ)) (r : Tree) : Type 0 where
  declares : (xs : Tree) → AreDeclared xs → AreDeclared (tree.cons r xs)
  named : (xs : Tree) → names_of_vars (tree.cons r xs) ≡ name ∷ names_of_vars xs
  new : (x : List ℕ) → count x (with_name name here) ≡ count x here + one (bytes_eq x name)
  calls : EachCall F Q r

new_count : (x name : List ℕ) (here : List (List ℕ)) → is_among name here ≡ false → count x (with_name name here) ≡ count x here + one (bytes_eq x name)
new_count x name here e =
    let behind : with_name name here ≡ here ++ name ∷ [] = ap (λ b. if b then here else here ++ name ∷ []) e in
    let same = ap (λ ns. count x ns) behind in
    let parts = count-append x here (name ∷ []) in
    omega arith

var_new : (F P Q : List ℕ → Type 0) (v : Tree) (here : List (List ℕ)) (names : Names) → IsShapedVar v → AreMeant F P names.globals
    → OnFine (IsNewVar F Q (declared_name v) here) (var_resolved v here names)
var_new F P Q (tree.var shape (tree.ident name place) start changes at) here names s h = go (is_among name here) refl
  where
    go : (b : Bool) → is_among name here ≡ b
        → OnFine (IsNewVar F Q name here) (if b then Broken declared_twice at
        else and_so (type_resolved shape names) (λ t. and_so (optional_resolved start names) (λ e. Fine (tree.var t (tree.ident name place) e changes at))))
    go true e = tt
    go false e =
        so_two (IsNewVar F Q name here) (Call F Q) (λ r. IsOptional r × EachCall F Q r) (type_resolved shape names) (optional_resolved start names)
        (λ t o. tree.var t (tree.ident name place) o changes at) (type_calls F P Q shape names h) (optional_calls F P Q start names s h)
        (λ t o i j. record { declares = λ xs d. (j.0, d); named = λ xs. refl; new = λ x. new_count x name here e; calls = (i, j.1) })
var_new F P Q _ here names s h = tt

-- variables behind the names `here`
pub record AreNewVars (F Q : List ℕ → Type 0) (here : List (List ℕ)) (rs : List Tree) : Type 0 where
  pub declared : AreDeclared (listed rs)
  pub single : (x : List ℕ) → count x here + count x (names_of_vars (listed rs)) ≤ 1
  pub calls : EachCall F Q (listed rs)

with_var : (F Q : List ℕ → Type 0) (name : List ℕ) (here : List (List ℕ)) (r : Tree) (rs : List Tree) → IsNewVar F Q name here r → AreNewVars F Q (with_name name here) rs
    → AreNewVars F Q here (r ∷ rs)
with_var F Q name here r rs h k = record {
  declared = h.declares (listed rs) k.declared;
  single = λ x.
      let a = k.single x in
      let b = h.new x in
      let c = ap (λ ns. count x ns) (h.named (listed rs)) in
      omega arith;
  calls = (h.calls, k.calls);
}

vars_from : (F P Q : List ℕ → Type 0) (vs : Tree) (here : List (List ℕ)) (names : Names) → AreShapedVars vs → AreMeant F P names.globals → AreSingle here
    → OnFine (AreNewVars F Q here) (vars_resolved vs here names)
vars_from F P Q tree.nil here names s h single = record { declared = tt; single = λ x. let a = single x in omega arith; calls = tt }
vars_from F P Q (tree.cons v vs) here names s h single =
    so_two (AreNewVars F Q here) (IsNewVar F Q (declared_name v) here) (AreNewVars F Q (with_name (declared_name v) here))
    (var_resolved v here (within here names)) (vars_resolved vs (with_name (declared_name v) here) names) (λ r rs. r ∷ rs)
    (var_new F P Q v here (within here names) s.0 h)
    (vars_from F P Q vs (with_name (declared_name v) here) names s.1 h (single_with (declared_name v) here single))
    (λ r rs i j. with_var F Q (declared_name v) here r rs i j)
vars_from F P Q _ here names s h single = tt

-- ---- variables behind names of which nothing is known

pub record AreVars (F Q : List ℕ → Type 0) (rs : List Tree) : Type 0 where
  pub declared : AreDeclared (listed rs)
  pub calls : EachCall F Q (listed rs)

record IsVar (F Q : List ℕ → Type 0) (r : Tree) : Type 0 where
  declares : (xs : Tree) → AreDeclared xs → AreDeclared (tree.cons r xs)
  calls : EachCall F Q r

var_some : (F P Q : List ℕ → Type 0) (v : Tree) (here : List (List ℕ)) (names : Names) → IsShapedVar v → AreMeant F P names.globals → OnFine (IsVar F Q) (var_resolved v here names)
var_some F P Q (tree.var shape (tree.ident name place) start changes at) here names s h = go (is_among name here)
  where
    go : (b : Bool)
        → OnFine (IsVar F Q) (if b then Broken declared_twice at
        else and_so (type_resolved shape names) (λ t. and_so (optional_resolved start names) (λ e. Fine (tree.var t (tree.ident name place) e changes at))))
    go true = tt
    go false =
        so_two (IsVar F Q) (Call F Q) (λ r. IsOptional r × EachCall F Q r) (type_resolved shape names) (optional_resolved start names)
        (λ t o. tree.var t (tree.ident name place) o changes at) (type_calls F P Q shape names h) (optional_calls F P Q start names s h)
        (λ t o i j. record { declares = λ xs d. (j.0, d); calls = (i, j.1) })
var_some F P Q _ here names s h = tt

pub vars_some : (F P Q : List ℕ → Type 0) (vs : Tree) (here : List (List ℕ)) (names : Names) → AreShapedVars vs → AreMeant F P names.globals → OnFine (AreVars F Q) (vars_resolved vs here names)
vars_some F P Q tree.nil here names s h = record { declared = tt; calls = tt }
vars_some F P Q (tree.cons v vs) here names s h =
    so_two (AreVars F Q) (IsVar F Q) (AreVars F Q) (var_resolved v here (within here names)) (vars_resolved vs (with_name (declared_name v) here) names) (λ r rs. r ∷ rs)
    (var_some F P Q v here (within here names) s.0 h) (vars_some F P Q vs (with_name (declared_name v) here) names s.1 h)
    (λ r rs i j. record { declared = i.declares (listed rs) j.declared; calls = (i.calls, j.calls) })
vars_some F P Q _ here names s h = tt

-- ---- the variables of a block, which have names of their own

pub record AreBlockVars (F Q : List ℕ → Type 0) (rs : List Tree) : Type 0 where
  pub declared : AreDeclared (listed rs)
  pub distinct_names : AreDistinct (names_of_vars (listed rs))
  pub calls : EachCall F Q (listed rs)

of_block : (F Q : List ℕ → Type 0) (rs : List Tree) → AreNewVars F Q [] rs → AreBlockVars F Q rs
of_block F Q rs h = record {
  declared = h.declared;
  distinct_names = distinct (names_of_vars (listed rs)) (λ x. let a = h.single x in omega arith);
  calls = h.calls;
}

pub block_vars : (F P Q : List ℕ → Type 0) (vs : Tree) (names : Names) → AreShapedVars vs → AreMeant F P names.globals → OnFine (AreBlockVars F Q) (vars_resolved vs [] names)
block_vars F P Q vs names s h =
    on_all (AreNewVars F Q []) (AreBlockVars F Q) (of_block F Q) (vars_resolved vs [] names) (vars_from F P Q vs [] names s h (λ x. omega arith))
