-- The values that an instance gives, over what its network declares.
use Rattle.std.proofs.Common.{◌≡◌, ℕ, Bool, true, false, List, [], ◌∷◌, refl, sym, ap, subst, ◌∙◌}
use Rattle.std.specs.Prelude.{Option, None, Some, if◌then◌else◌}
use Rattle.cal_ast.specs.Places.{begins}
use Rattle.cal_ast.specs.Tree.{Tree}
use Rattle.cal_model.specs.Kinding.{Judged, Fine, Broken, Names, and_so, constant, kind}
use Rattle.cal_model.specs.Outcome.{Out, Gives, Traps, Lacks, Clashes}
use Rattle.cal_model.specs.Value.{Kind, Shape, Value, kind_of_type}
use Rattle.cal_check.specs.Constants.{early_type, has_kind}
use Rattle.cal_check.specs.Routines.{FunDecl}
use Rattle.cal_check.specs.Variables.{Given, Spot, VarDecl, Valued, come, none_yet, seen, value_of, value_or, valued, with_type, with_var}
use Rattle.cal_check.specs.Violations.{and_all}
use Rattle.fnl_read.specs.Net.{Parameter, a_parameter}
use Rattle.fnl_bind.specs.Networks.{Place, names_at}
use Rattle.fnl_bind.specs.Values.{all_given, given_as, parameter_judged, value_in, value_of_kind}
use Rattle.law_networks.specs.Chains.{AreValuesOf, IsValueOf, declared_in}
use Rattle.fnl_bind.specs.Library.{var_decls}
use Rattle.fnl_bind.specs.Trees.{words}

-- ---- what is known doesn't depend on where a missing value is told

record IsSame (v w : Valued) : Type 0 where
  known : v.known ≡ w.known
  whole : v.whole ≡ w.whole

type_same : (j : Judged Shape) (x : VarDecl) (gs : List Given) (o p : Spot) (names : Names) (v w : Valued) → v.known ≡ w.known
    → IsSame (with_type j x gs o names v) (with_type j x gs p names w)
type_same (Fine t) x gs o p names v w h = record {
  known = ap (λ ks. record {
    name = x.name;
    kind = kind_of_type t;
    value = Some (value_or (value_of x gs t (come t x.start names).value) (kind_of_type t));
    changes = x.changes;
  } ∷ ks) h;
  whole = refl;
}
type_same (Broken rule at) x gs o p names v w h = record { known = h; whole = refl }

var_same : (x : VarDecl) (gs : List Given) (o p : Spot) (fs : List FunDecl) (v w : Valued) → IsSame v w → IsSame (with_var x gs o fs v) (with_var x gs p fs w)
var_same x gs o p fs v w h = go v.whole w.whole h.whole
  where
    typed : IsSame (with_type (early_type x.shape (seen fs v.known)) x gs o (seen fs v.known) v) (with_type (early_type x.shape (seen fs w.known)) x gs p (seen fs w.known) w)
    typed = subst (λ ks. IsSame (with_type (early_type x.shape (seen fs v.known)) x gs o (seen fs v.known) v) (with_type (early_type x.shape (seen fs ks)) x gs p (seen fs ks) w)) h.known
        (type_same (early_type x.shape (seen fs v.known)) x gs o p (seen fs v.known) v w h.known)

    go : (b c : Bool) → b ≡ c
        → IsSame (if b then with_type (early_type x.shape (seen fs v.known)) x gs o (seen fs v.known) v else v)
        (if c then with_type (early_type x.shape (seen fs w.known)) x gs p (seen fs w.known) w else w)
    go true true e = typed
    go false false e = h
    go true false e = absurd cc
    go false true e = absurd cc

all_same : (xs : List VarDecl) (gs : List Given) (o p : Spot) (fs : List FunDecl) (v w : Valued) → IsSame v w → IsSame (valued xs gs o fs v) (valued xs gs p fs w)
all_same [] gs o p fs v w h = h
all_same (x ∷ xs) gs o p fs v w h = all_same xs gs o p fs (with_var x gs o fs v) (with_var x gs p fs w) (var_same x gs o p fs v w h)

-- the names at a place are those that its network declares, over what it is given
pub names_are : (p : Place) → names_at p ≡ declared_in p.entry p.given
names_are p = ap (seen []) (all_same (var_decls p.entry.file p.entry.net.decls) p.given p.owner words [] none_yet none_yet (record { known = refl; whole = refl })).known

-- ---- values that are given

some_same : {A : Type 0} (x y : A) → Some x ≡ Some y → x ≡ y
some_same x y h = cc

-- what an expression gives
record IsGiven (o : Out Value) (v : Value) : Type 0 where
  left : ℕ
  gives : o ≡ Gives v left

kind_gives : (k : Kind) (o : Out Value) (at : ℕ) (v : Value) → value_in (value_of_kind k o at) ≡ Some v → IsGiven o v
kind_gives k (Gives w left) at v h = go (has_kind k w) h
  where
    go : (b : Bool) → (if b then Some w else None) ≡ Some v → IsGiven (Gives w left) v
    go true e = record { left = left; gives = ap (λ x. Gives x left) (some_same w v e) }
    go false e = absurd cc
kind_gives k (Traps c) at v h = absurd cc
kind_gives k Lacks at v h = absurd cc
kind_gives k Clashes at v h = absurd cc

value_gives : (value : Tree) (names : Names) (v : Value) → value_in (parameter_judged (a_parameter [] value 0) names) ≡ Some v → IsGiven (constant value names) v
value_gives value names v h = go (kind value names) h
  where
    go : (j : Judged Kind) → value_in (and_so j (λ k. value_of_kind k (constant value names) (begins value))) ≡ Some v → IsGiven (constant value names) v
    go (Fine k) e = kind_gives k (constant value names) (begins value) v e
    go (Broken rule at) e = absurd cc

one_given : (file : ℕ) (p : Parameter) (names : Names) (g : Given) → given_as file p (value_in (parameter_judged p names)) ≡ Some g → IsValueOf file names p g
one_given file (a_parameter name value at) names g h = go (value_in (parameter_judged (a_parameter name value at) names)) refl h
  where
    go : (o : Option Value) → value_in (parameter_judged (a_parameter name value at) names) ≡ o → given_as file (a_parameter name value at) o ≡ Some g
        → IsValueOf file names (a_parameter name value at) g
    go None e f = absurd cc
    go (Some v) e f =
        let same : record { name = name; value = v; place = record { file = file; at = at } } ≡ g = some_same _ g f in
        let given = value_gives value names v e in
        record {
          name = name;
          value = value;
          at = at;
          left = given.left;
          is_parameter = refl;
          is_named = ap (λ x. x.name) (sym same);
          is_value = given.gives ∙ ap (λ x. Gives x.value given.left) same;
          is_here = ap (λ x. x.place) (sym same);
        }

pub values_given : (file : ℕ) (ps : List Parameter) (names : Names) (gs : List Given) → all_given file ps names ≡ Some gs → AreValuesOf file names ps gs
values_given file [] names gs h = subst (AreValuesOf file names []) (some_same [] gs h) tt
values_given file (p ∷ ps) names gs h =
    go (given_as file p (value_in (parameter_judged p names))) (all_given file ps names) refl (λ xs e. values_given file ps names xs e) h
  where
    go : (o : Option Given) (r : Option (List Given)) → given_as file p (value_in (parameter_judged p names)) ≡ o
        → ((xs : List Given) → r ≡ Some xs → AreValuesOf file names ps xs) → and_all o r ≡ Some gs → AreValuesOf file names (p ∷ ps) gs
    go (Some x) (Some xs) e rest i = subst (AreValuesOf file names (p ∷ ps)) (some_same (x ∷ xs) gs i) (one_given file p names x e, rest xs refl)
    go (Some x) None e rest i = absurd cc
    go None r e rest i = absurd cc
