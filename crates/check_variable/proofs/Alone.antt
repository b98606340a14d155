-- Variables that call no function are judged over the names alone, and others over the names with the functions.
use Rattle.std.proofs.Common.{◌≡◌, Bool, true, false, List, [], ◌∷◌, ◌++◌, refl, sym, ap, subst, ◌∙◌}
use Rattle.std.specs.Prelude.{◌||◌, Option, Some, if◌then◌else◌}
use Rattle.std.specs.declared.result.Result.{Result}
use Rattle.rvc_base.specs.declared.refusal.Front.{Front}
use Rattle.cal_model.specs.Value.{Shape}
use Rattle.cal_model.specs.Kinding.{Judged, Fine, Broken, Known, Names}
use Rattle.const_env.specs.Held.{Kept as Environment, names_in}
use Rattle.cal_check.specs.Constants.{early_type}
use Rattle.cal_check.specs.Routines.{FunDecl}
use Rattle.cal_check.specs.Variables.{Given, Spot, VarDecl, Valued, come, seen, with_come, with_type, with_var}
use Rattle.check_functions.specs.Alike.{AlikeStarts, AlikeTypes, SeeAlike}
use Rattle.check_functions.specs.Calls.{StartsAreSame, TypesAreSame, calls_any}
use Rattle.check_functions.specs.Growing.{Growing, IsKept, IsMade, kept_in}
use Rattle.check_functions.specs.Known.{all_known, known_view, names_alone}
use Rattle.check_functions.specs.declared.known.KnownName.{KnownName}
use Rattle.check_variable.specs.Valuing.{AreSeen, Declares, Values}
use Rattle.check_variable.specs.declared.valued.Valued.{Valued as Kept}
use Rattle.check_variable.proofs.Adding.{last_behind}

-- ---- the same over the names alone

typed_same : (j : Judged Shape) (x : VarDecl) (gs : List Given) (owner : Spot) (n m : Names) (vs : Valued) → ((t : Shape) → come t x.start n ≡ come t x.start m)
    → with_type j x gs owner n vs ≡ with_type j x gs owner m vs
typed_same (Fine t) x gs owner n m vs h = ap (λ c. with_come x gs owner t c vs) (h t)
typed_same (Broken rule at) x gs owner n m vs h = refl

neither : (a b : Bool) → (a || b) ≡ false → (a ≡ false) × (b ≡ false)
neither true b h = absurd (cc)
neither false b h = (refl, h)

alone_same : TypesAreSame → StartsAreSame → (x : VarDecl) (gs : List Given) (owner : Spot) (fs : List FunDecl) (known : List Known) (vs : Valued) → (calls_any x.shape || calls_any x.start) ≡ false
    → with_type (early_type x.shape (names_alone known)) x gs owner (names_alone known) vs ≡ with_type (early_type x.shape (seen fs known)) x gs owner (seen fs known) vs
alone_same types starts x gs owner fs known vs e =
    let none = neither (calls_any x.shape) (calls_any x.start) e in
    typed_same (early_type x.shape (names_alone known)) x gs owner (names_alone known) (seen fs known) vs (λ t. starts fs known t x.start none.1)
    ∙ ap (λ j. with_type j x gs owner (seen fs known) vs) (types fs known x.shape none.0)

pub declares_alone : TypesAreSame → StartsAreSame → (r : Result (Unit {0}) Front) (old new : Kept) (x : VarDecl) (gs : List Given) (owner : Spot) (fs : List FunDecl) (names : Names) → old.whole ≡ true
    → names ≡ names_alone (all_known old.known.items) → (calls_any x.shape || calls_any x.start) ≡ false → Declares r (x ∷ []) (with_type (early_type x.shape names) x gs owner names) old new
    → Declares r (x ∷ []) (with_var x gs owner fs) old new
declares_alone types starts r old new x gs owner fs names w e none d xs vs h =
    subst (λ us. Values r (xs ++ x ∷ []) new us)
    (ap (λ n. with_type (early_type x.shape n) x gs owner n vs) (e ∙ ap names_alone h.known)
    ∙ alone_same types starts x gs owner fs vs.known vs none
    ∙ sym (ap (λ b. if b then with_type (early_type x.shape (seen fs vs.known)) x gs owner (seen fs vs.known) vs else vs) (sym h.whole ∙ w)))
    (d xs vs h)

-- ---- over the names with the functions

pub seen_alike : (o : Option Environment) (env : Environment) (names : Names) → Some env ≡ o → IsMade o names → SeeAlike (names_in env) names
seen_alike o env names e h = subst (λ p. IsMade p names) (sym e) h

-- it is kept of the same names
pub kept_same : (names : Growing) (fs : List FunDecl) (old new : Kept) → new.known.items ≡ old.known.items → AreSeen names fs old → AreSeen names fs new
kept_same names fs old new e kept = subst (λ ks. IsKept (kept_in names) fs (all_known ks)) (sym e) kept

alike_same : AlikeTypes → AlikeStarts → (x : VarDecl) (gs : List Given) (owner : Spot) (n m : Names) (vs : Valued) → SeeAlike n m
    → with_type (early_type x.shape n) x gs owner n vs ≡ with_type (early_type x.shape m) x gs owner m vs
alike_same types starts x gs owner n m vs h =
    typed_same (early_type x.shape n) x gs owner n m vs (λ t. starts n m t x.start h) ∙ ap (λ j. with_type j x gs owner m vs) (types n m x.shape h)

pub declares_seen : AlikeTypes → AlikeStarts → (r : Result (Unit {0}) Front) (old new : Kept) (x : VarDecl) (gs : List Given) (owner : Spot) (fs : List FunDecl) (names : Names) → old.whole ≡ true
    → SeeAlike names (seen fs (all_known old.known.items)) → Declares r (x ∷ []) (with_type (early_type x.shape names) x gs owner names) old new
    → Declares r (x ∷ []) (with_var x gs owner fs) old new
declares_seen types starts r old new x gs owner fs names w alike d xs vs h =
    subst (λ us. Values r (xs ++ x ∷ []) new us)
    (alike_same types starts x gs owner names (seen fs vs.known) vs (subst (λ ks. SeeAlike names (seen fs ks)) h.known alike)
    ∙ sym (ap (λ b. if b then with_type (early_type x.shape (seen fs vs.known)) x gs owner (seen fs vs.known) vs else vs) (sym h.whole ∙ w)))
    (d xs vs h)

-- ---- one name more

same_head : {A : Type 0} (x y : A) (xs ys : List A) → x ∷ xs ≡ y ∷ ys → x ≡ y
same_head x y xs ys h = cc

-- the last of the names became known
pub last_kept : (old new : Growing) (fs : List FunDecl) (known front before : List KnownName) (last x : KnownName) → known ≡ front ++ last ∷ []
    → ((gs : List FunDecl) (ks : List Known) → IsKept (kept_in old) gs ks → IsKept (kept_in new) gs (known_view last ∷ ks)) → known ≡ before ++ x ∷ [] → IsKept (kept_in old) fs (all_known before)
    → IsKept (kept_in new) fs (all_known known)
last_kept old new fs known front before last x split adds parts kept =
    let own : all_known known ≡ known_view x ∷ all_known before = ap all_known parts ∙ last_behind known_view before x [] in
    let other : all_known known ≡ known_view last ∷ all_known front = ap all_known split ∙ last_behind known_view front last [] in
    let same : known_view last ≡ known_view x = same_head (known_view last) (known_view x) (all_known front) (all_known before) (sym other ∙ own) in
    subst (IsKept (kept_in new) fs) (ap (λ k. k ∷ all_known before) same ∙ sym own) (adds fs (all_known before) kept)
