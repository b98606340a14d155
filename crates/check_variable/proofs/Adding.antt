-- Variables, one after another.
use Rattle.std.proofs.Common.{◌≡◌, ℕ, suc, ◌+◌, ◌<◌, Bool, true, false, List, [], ◌∷◌, ◌++◌, length, drop, get_or, map, refl, sym, ap, subst, ◌∙◌, arith, Ok, Err, append-nil, append_assoc}
use Rattle.std.proofs.Math.Seq.{drop-cons}
use Rattle.std.proofs.lemmas.List.{map-append}
use Rattle.std.proofs.lemmas.Bool.Decides.{Decides-eqb}
use Rattle.std.specs.Prelude.{Option, None, Some, ◌||◌, ◌==◌, if◌then◌else◌}
use Rattle.std.specs.declared.result.Result.{Result}
use Rattle.rvc_base.specs.Rules.{not_constant}
use Rattle.rvc_base.specs.declared.refusal.Rule.{Rule}
use Rattle.rvc_base.specs.declared.refusal.Front.{Front}
use Rattle.rvc_base.specs.declared.refusal.Place.{Place}
use Rattle.cal_model.specs.Value.{Shape, Value, kind_of_type}
use Rattle.cal_model.specs.Kinding.{Judged, Fine, Broken, Names}
use Rattle.cal_model.specs.View.{var_view}
use Rattle.const_env.specs.Held.{last_first}
use Rattle.cal_check.specs.Constants.{early_type}
use Rattle.cal_check.specs.Violations.{said, violation}
use Rattle.cal_check.specs.Routines.{FunDecl}
use Rattle.cal_check.specs.Variables.{Come, Found, Given, Spot, VarDecl, Valued, come, found_in, held_if, is_none, param_broken, seen, value_of, value_or, valued, with_come, with_type, with_value, with_var}
use Rattle.check_functions.specs.Known.{all_known}
use Rattle.check_variable.specs.Causes.{inconstant}
use Rattle.check_given.specs.Causes.{IsCause, SaysRule}
use Rattle.check_variable.specs.Valuing.{Declares, IsUntyped, IsValued, Lacks, Notes, Untypes, broken_in, first_of, lacking_at}
use Rattle.check_variable.specs.declared.given.Constancy.{Constancy}
use Rattle.check_variable.specs.declared.given.Constancy.TheVariants as constancy
use Rattle.check_variable.specs.declared.valued.Valued.{Valued as Kept}
use Rattle.check_variable.proofs.Faults.{cause_in_first, cause_in_others}
use Rattle.check_variable.proofs.Firsts.{first_behind, first_stays}

-- the last part is seen first
pub last_behind : {X Y : Type 0} (view : X → Y) (xs : List X) (x : X) (later : List Y) → last_first view (xs ++ x ∷ []) later ≡ view x ∷ last_first view xs later
last_behind view [] x later = refl
last_behind view (y ∷ ys) x later = last_behind view ys x (view y ∷ later)

abbrev names_of : List VarDecl → List (List ℕ)
names_of xs = map (λ x. x.name) xs

-- ---- what is known of a start

none_some : {A : Type 0} (a : A) → None ≡ Some a → ⊥
none_some a h = cc

noted_broken : (k : Constancy) (x : VarDecl) (fs : List Found) → Notes k x fs → fs ≡ map inconstant (broken_in k)
noted_broken constancy.Constant x fs h = h
noted_broken (constancy.Lacking p) x fs h = h

both_broken : (ps qs : List Place) (fs gs : List Found) → fs ≡ map inconstant ps → gs ≡ map inconstant qs → fs ++ gs ≡ map inconstant (ps ++ qs)
both_broken ps qs fs gs h i = ap (λ xs. xs ++ gs) h ∙ ap (λ xs. map inconstant ps ++ xs) i ∙ sym (map-append inconstant ps qs)

neither : (ps qs : List Place) → ps ++ qs ≡ [] → ps ≡ []
neither [] qs h = refl
neither (p ∷ ps) qs h = cc

or_true : (a : Bool) → (a || true) ≡ true
or_true true = refl
or_true false = refl

-- ---- one variable more

pub lacks_more : (o : Option Place) (x : VarDecl) (xs : List VarDecl) (t : Shape) (v : Option Value) (vs : Valued) (fs : List Found) → Lacks o xs vs
    → Lacks (first_of o (lacking_at x (is_none v))) (xs ++ x ∷ []) (with_value x t v fs vs)
lacks_more None x xs t None vs fs h = (
  or_true vs.useless,
  record {
    before = xs;
    lacking = x;
    behind = [];
    parts = refl;
    place = refl;
    later = [];
    named = h.2 ∙ sym (append-nil (names_of xs));
    are_behind = tt;
  },
)
lacks_more None x xs t (Some w) vs fs h = (
  ap (λ b. b || false) h.0,
  refl,
  map-append (λ y. y.name) vs.held (record { name = x.name; shape = t; value = w; changes = x.changes } ∷ []) ∙ ap (λ ns. ns ++ x.name ∷ []) h.2 ∙ sym (map-append (λ y. y.name) xs (x ∷ [])),
)
lacks_more (Some p) x xs t None vs fs h = (or_true vs.useless, first_stays p x xs vs.held h.1)
lacks_more (Some p) x xs t (Some w) vs fs h = (
  ap (λ b. b || false) h.0,
  first_behind p x xs vs.held (record { name = x.name; shape = t; value = w; changes = x.changes }) refl h.1,
)

pub valued_added : (old new : Kept) (xs : List VarDecl) (x : VarDecl) (t : Shape) (v : Option Value) (k : Constancy) (vs : Valued) (breaks : List Found)
    → all_known new.known.items ≡ record { name = x.name; kind = kind_of_type t; value = Some (value_or v (kind_of_type t)); changes = x.changes } ∷ all_known old.known.items
    → map var_view new.held.items ≡ held_if v x t (map var_view old.held.items)
    → new.broken.items ≡ old.broken.items ++ broken_in k → new.lacking ≡ first_of old.lacking (lacking_at x (is_none v))
    → new.useless ≡ (old.useless || is_none v) → new.whole ≡ true
    → IsValued xs old vs → Notes k x breaks → IsValued (xs ++ x ∷ []) new (with_value x t v breaks vs)
valued_added old new xs x t v k vs breaks known held broken lacking useless whole h n = record {
  known = known ∙ ap (λ ks. record { name = x.name; kind = kind_of_type t; value = Some (value_or v (kind_of_type t)); changes = x.changes } ∷ ks) h.known;
  held = held ∙ ap (held_if v x t) h.held;
  breaks = both_broken old.broken.items (broken_in k) vs.breaks breaks h.breaks (noted_broken k x breaks n) ∙ ap (map inconstant) (sym broken);
  useless = useless ∙ ap (λ u. u || is_none v) h.useless;
  whole = whole;
  lacks = λ e.
      subst (λ o. Lacks o (xs ++ x ∷ []) (with_value x t v breaks vs)) (sym lacking)
      (lacks_more old.lacking x xs t v vs breaks (h.lacks (neither old.broken.items (broken_in k) (sym broken ∙ e))));
}

pub come_added : (new : Kept) (xs : List VarDecl) (x : VarDecl) (gs : List Given) (owner : Spot) (t : Shape) (c : Come) (vs : Valued) (useless : Bool) (v : Option Value) (k : Constancy)
    → useless ≡ vs.useless → value_of x gs t c.value ≡ v → Notes k x (found_in x.file (said useless c.breaks)) → param_broken x gs owner t ≡ []
    → ((breaks : List Found) → Notes k x breaks → IsValued (xs ++ x ∷ []) new (with_value x t v breaks vs)) → IsValued (xs ++ x ∷ []) new (with_come x gs owner t c vs)
come_added new xs x gs owner t c vs useless v k u e n none more =
    let own : List Found = found_in x.file (said vs.useless c.breaks) in
    let noted : Notes k x own = subst (λ w. Notes k x (found_in x.file (said w c.breaks))) u n in
    let all : own ++ param_broken x gs owner t ≡ own = ap (λ fs. own ++ fs) none ∙ append-nil own in
    subst (λ w. IsValued (xs ++ x ∷ []) new (with_value x t w (own ++ param_broken x gs owner t) vs)) (sym e)
    (subst (λ fs. IsValued (xs ++ x ∷ []) new (with_value x t v fs vs)) (sym all) (more own noted))

pub come_refused : (f : Front) (x : VarDecl) (gs : List Given) (owner : Spot) (t : Shape) (c : Come) (vs : Valued) (useless : Bool) → useless ≡ vs.useless
    → IsCause f (found_in x.file (said useless c.breaks) ++ param_broken x gs owner t) → IsCause f (with_come x gs owner t c vs).breaks
come_refused f x gs owner t c vs useless u h =
    cause_in_others f vs.breaks (found_in x.file (said vs.useless c.breaks) ++ param_broken x gs owner t)
    (subst (λ w. IsCause f (found_in x.file (said w c.breaks) ++ param_broken x gs owner t)) u h)

-- ---- a type that breaks a rule

pub same_rule : (rule : Rule) → (rule.0 == not_constant.0) ≡ true → rule ≡ not_constant
same_rule rule h = ap (λ n. record { 0 = n }) ((Decides-eqb rule.0 not_constant.0).0 h)

not_false : true ≡ false → ⊥
not_false h = cc

untyped_lacks : (o : Option Place) (x : VarDecl) (xs : List VarDecl) (vs : Valued) → vs.useless ≡ true → Lacks o xs vs → Lacks o (xs ++ x ∷ []) (record vs { breaks = vs.breaks ++ []; whole = false })
untyped_lacks None x xs vs u h = absurd (not_false (sym u ∙ h.0))
untyped_lacks (Some p) x xs vs u h = (u, first_stays p x xs vs.held h.1)

not_last : (ps : List Place) (p : Place) → ps ++ p ∷ [] ≡ [] → ⊥
not_last [] p h = cc
not_last (q ∷ ps) p h = cc

pub untyped_noted : (old new : Kept) (xs : List VarDecl) (x : VarDecl) (gs : List Given) (owner : Spot) (names : Names) (at : ℕ) (vs : Valued)
    → IsUntyped (record { file = x.file; offset = at }) old new → IsValued xs old vs → IsValued (xs ++ x ∷ []) new (with_type (Broken not_constant at) x gs owner names vs)
untyped_noted old new xs x gs owner names at vs u h = go old.useless vs.useless refl refl h.useless u.broken
  where
    p : Place
    p = record { file = x.file; offset = at }

    go : (b c : Bool) → old.useless ≡ b → vs.useless ≡ c → b ≡ c → new.broken.items ≡ (if b then old.broken.items else old.broken.items ++ p ∷ [])
        → IsValued (xs ++ x ∷ []) new (record vs { breaks = vs.breaks ++ found_in x.file (said c (violation not_constant at)); whole = false })
    go true true eb ec same broken = record {
      known = ap all_known u.known ∙ h.known;
      held = ap (map var_view) u.held ∙ h.held;
      breaks = append-nil vs.breaks ∙ h.breaks ∙ ap (map inconstant) (sym broken);
      useless = u.useless ∙ h.useless;
      whole = u.whole;
      lacks = λ e. subst (λ o. Lacks o (xs ++ x ∷ []) (record vs { breaks = vs.breaks ++ []; whole = false })) (sym u.lacking)
          (untyped_lacks old.lacking x xs vs ec (h.lacks (sym broken ∙ e)));
    }
    go false false eb ec same broken = record {
      known = ap all_known u.known ∙ h.known;
      held = ap (map var_view) u.held ∙ h.held;
      breaks = both_broken old.broken.items (p ∷ []) vs.breaks (inconstant p ∷ []) h.breaks refl ∙ ap (map inconstant) (sym broken);
      useless = u.useless ∙ h.useless;
      whole = u.whole;
      lacks = λ e. absurd (not_last old.broken.items p (sym broken ∙ e));
    }
    go true false eb ec same broken = absurd (not_false same)
    go false true eb ec same broken = absurd (not_false (sym same))

pub untyped_declares : (r : Result (Unit {0}) Front) (j : Judged Shape) (rule : Rule) (at file : ℕ) (x : VarDecl) (gs : List Given) (owner : Spot) (names : Names) (old new : Kept)
    → x.file ≡ file → j ≡ Broken rule at → (rule.0 == not_constant.0) ≡ true → Untypes r (record { file = file; offset = at }) old new → Declares r (x ∷ []) (with_type j x gs owner names) old new
untyped_declares (Ok u) j rule at file x gs owner names old new same e n d xs vs h =
    subst (λ i. IsValued (xs ++ x ∷ []) new (with_type i x gs owner names vs)) (sym (e ∙ ap (λ q. Broken q at) (same_rule rule n)))
    (untyped_noted old new xs x gs owner names at vs (subst (λ k. IsUntyped (record { file = k; offset = at }) old new) (sym same) d) h)
untyped_declares (Err f) j rule at file x gs owner names old new same e n d xs vs h =
    subst (λ g. IsCause g (with_type j x gs owner names vs).breaks × SaysRule g) (sym d) (tt, tt)

pub untyped_refused : (f : Front) (j : Judged Shape) (rule : Rule) (at file : ℕ) (x : VarDecl) (gs : List Given) (owner : Spot) (names : Names) (old new : Kept)
    → x.file ≡ file → j ≡ Broken rule at → (rule.0 == not_constant.0) ≡ false → IsCause f (found_in file (violation rule at)) → SaysRule f
    → Declares (Err f) (x ∷ []) (with_type j x gs owner names) old new
untyped_refused f j rule at file x gs owner names old new same e is_said h says xs vs v = (
  subst (λ i. IsCause f (with_type i x gs owner names vs).breaks) (sym e) (go vs.useless (subst (λ k. IsCause f (found_in k (violation rule at))) (sym same) h)),
  says,
)
  where
    go : (b : Bool) → IsCause f (found_in x.file (violation rule at)) → IsCause f (vs.breaks ++ found_in x.file (said b (violation rule at)))
    go true i = cause_in_others f vs.breaks (found_in x.file (said true (violation rule at))) (subst (λ c. IsCause f (found_in x.file (if c then [] else violation rule at))) (sym is_said) i)
    go false i = cause_in_others f vs.breaks (found_in x.file (violation rule at)) i

-- ---- a variable

stays_lacking : (o : Option Place) (x : VarDecl) (xs : List VarDecl) (vs : Valued) → vs.whole ≡ false → Lacks o xs vs → Lacks o (xs ++ x ∷ []) vs
stays_lacking None x xs vs w h = absurd (not_false (sym h.1 ∙ w))
stays_lacking (Some p) x xs vs w h = (h.0, first_stays p x xs vs.held h.1)

pub not_whole : (old : Kept) (xs : List VarDecl) (x : VarDecl) (gs : List Given) (owner : Spot) (fs : List FunDecl) (vs : Valued) → old.whole ≡ false → IsValued xs old vs
    → IsValued (xs ++ x ∷ []) old (with_var x gs owner fs vs)
not_whole old xs x gs owner fs vs w h =
    let none : vs.whole ≡ false = sym h.whole ∙ w in
    subst (IsValued (xs ++ x ∷ []) old) (sym (ap (λ b. if b then with_type (early_type x.shape (seen fs vs.known)) x gs owner (seen fs vs.known) vs else vs) none)) (record {
      known = h.known;
      held = h.held;
      breaks = h.breaks;
      useless = h.useless;
      whole = h.whole;
      lacks = λ e. stays_lacking old.lacking x xs vs none (h.lacks e);
    })

-- ---- all variables

-- what is broken stays so
broken_by_one : (x : VarDecl) (gs : List Given) (owner : Spot) (fs : List FunDecl) (vs : Valued) (f : Front) → IsCause f vs.breaks → IsCause f (with_var x gs owner fs vs).breaks
broken_by_one x gs owner fs vs f h = go vs.whole
  where
    typed : (j : Judged Shape) → IsCause f (with_type j x gs owner (seen fs vs.known) vs).breaks
    typed (Fine t) = cause_in_first f vs.breaks (found_in x.file (said vs.useless (come t x.start (seen fs vs.known)).breaks) ++ param_broken x gs owner t) h
    typed (Broken rule at) = cause_in_first f vs.breaks (found_in x.file (said vs.useless (violation rule at))) h

    go : (b : Bool) → IsCause f (if b then with_type (early_type x.shape (seen fs vs.known)) x gs owner (seen fs vs.known) vs else vs).breaks
    go true = typed (early_type x.shape (seen fs vs.known))
    go false = h

pub stays_broken : (xs : List VarDecl) (gs : List Given) (owner : Spot) (fs : List FunDecl) (vs : Valued) (f : Front) → IsCause f vs.breaks → IsCause f (valued xs gs owner fs vs).breaks
stays_broken [] gs owner fs vs f h = h
stays_broken (x ∷ xs) gs owner fs vs f h = stays_broken xs gs owner fs (with_var x gs owner fs vs) f (broken_by_one x gs owner fs vs f h)

-- variables so far, and those that are left
pub record AreAdded (left all : List VarDecl) (gs : List Given) (owner : Spot) (fs : List FunDecl) (now : Kept) (xs : List VarDecl) (vs : Valued) : Type 0 where
  pub so_far : List VarDecl
  pub after : Valued
  pub is_valued : IsValued so_far now after
  pub parts : so_far ++ left ≡ xs ++ all
  pub same : valued left gs owner fs after ≡ valued all gs owner fs vs

pub added_more : (x : VarDecl) (left all : List VarDecl) (gs : List Given) (owner : Spot) (fs : List FunDecl) (old new : Kept) (xs : List VarDecl) (vs : Valued)
    → AreAdded (x ∷ left) all gs owner fs old xs vs → Declares (Ok tt) (x ∷ []) (with_var x gs owner fs) old new → AreAdded left all gs owner fs new xs vs
added_more x left all gs owner fs old new xs vs h d = record {
  so_far = h.so_far ++ x ∷ [];
  after = with_var x gs owner fs h.after;
  is_valued = d h.so_far h.after h.is_valued;
  parts = append_assoc h.so_far (x ∷ []) left ∙ h.parts;
  same = h.same;
}

pub added_all : (all : List VarDecl) (gs : List Given) (owner : Spot) (fs : List FunDecl) (now : Kept) (xs : List VarDecl) (vs : Valued) → AreAdded [] all gs owner fs now xs vs
    → IsValued (xs ++ all) now (valued all gs owner fs vs)
added_all all gs owner fs now xs vs h =
    subst (λ ys. IsValued ys now (valued all gs owner fs vs)) (sym (append-nil h.so_far) ∙ h.parts) (subst (IsValued h.so_far now) h.same h.is_valued)

pub added_refused : (f : Front) (x : VarDecl) (left all : List VarDecl) (gs : List Given) (owner : Spot) (fs : List FunDecl) (old new : Kept) (xs : List VarDecl) (vs : Valued)
    → AreAdded (x ∷ left) all gs owner fs old xs vs → Declares (Err f) (x ∷ []) (with_var x gs owner fs) old new → IsCause f (valued all gs owner fs vs).breaks × SaysRule f
added_refused f x left all gs owner fs old new xs vs h d =
    let one = d h.so_far h.after h.is_valued in (
      subst (λ us. IsCause f us.breaks) h.same (stays_broken left gs owner fs (with_var x gs owner fs h.after) f one.0),
      one.1,
    )

-- ---- a slice from a place on

pub opened : {A : Type 0} (xs : List A) (x : A) (i : ℕ) → i < length xs → x ≡ get_or xs i x → drop i xs ≡ x ∷ drop (i + 1) xs
opened xs x i l e =
    let more : suc i ≡ i + 1 = omega arith in
    drop-cons xs i x l ∙ ap (λ y. y ∷ drop (suc i) xs) (sym e) ∙ ap (λ k. x ∷ drop k xs) more
