-- What functions break of themselves.
use Rattle.std.proofs.Common.{◌≡◌, ◌≤◌, ◌⊎◌, inl, inr, ℕ, length, arith, Bool, true, false, List, [], ◌∷◌, ◌++◌, refl, sym, ap, subst, ◌∙◌, Ok, Err}
use Rattle.std.specs.Prelude.{Contains, if◌then◌else◌, not, ◌&&◌, ◌||◌, ◌==◌}
use Rattle.std.proofs.lemmas.Bool.Decides.{nat_tests}
use Rattle.std.proofs.lemmas.List.Elements.{Contains-append_left, Contains-append_right}
use Rattle.rvc_base.specs.Rules.{not_constant, unknown_name}
use Rattle.rvc_base.specs.declared.refusal.Front.{Front}
use Rattle.rvc_base.specs.declared.refusal.Front.TheVariants as front
use Rattle.rvc_base.specs.declared.refusal.Place.{Place}
use Rattle.rvc_base.specs.declared.refusal.Rule.{Rule}
use Rattle.cal_model.specs.Kinding.{Names}
use Rattle.cal_model.specs.Sound.{Each}
use Rattle.cal_check.proofs.Lists.{at-head, head-or-rest, in-none, in-rest}
use Rattle.cal_check.specs.Actors.{funs_broken, heads_broken, is_empty}
use Rattle.cal_check.specs.Routines.{FunDecl, fun_broken, head_judged}
use Rattle.cal_check.specs.Variables.{Found, found_in}
use Rattle.cal_check.specs.Violations.{Violation, broken}
use Rattle.check_given.specs.Causes.{IsCause, SaysRule}
use Rattle.check_variable.specs.Causes.{inconstant}
use Rattle.check_actor.specs.Functions.{fun_found, functions_first, functions_found, heads_first, lacking, lacks_kinds, may_follow, named, of_themselves, settled_found}
use Rattle.check_actor.specs.Own.{AreLeft, FindsOwn, FindsOwnOf, IsHeadLeft, lacks_name}
use Rattle.check_actor.specs.Sifting.{IsLack}
use Rattle.check_actor.proofs.Causes.{cause_in_first, cause_in_others}

-- ---- of themselves

-- nothing is broken but that something isn't constant
none_themselves : (fs : List Found) → Each IsLack fs → of_themselves fs ≡ []
none_themselves [] h = refl
none_themselves (f ∷ fs) h =
    ap (λ r. if (r.0 == not_constant.0) || (r.0 == unknown_name.0) then of_themselves fs else f ∷ of_themselves fs) h.0
    ∙ none_themselves fs h.1

-- a name without a kind is found
name_lacks : (fs : List Found) (f : Found) → (f.violation.rule.0 == unknown_name.0) ≡ true → Contains fs f → lacks_kinds fs ≡ true
name_lacks [] f e h = absurd (in-none f h)
name_lacks (g ∷ fs) f e h = go (head-or-rest f g fs h) (λ i. name_lacks fs f e i)
  where
    or_true : (b : Bool) → (b || true) ≡ true
    or_true true = refl
    or_true false = refl

    go : (g ≡ f) ⊎ Contains fs f → (Contains fs f → lacks_kinds fs ≡ true) → lacks_kinds (g ∷ fs) ≡ true
    go (inl same) k = ap (λ b. b || lacks_kinds fs) (ap (λ x. x.violation.rule.0 == unknown_name.0) same ∙ e)
    go (inr i) k = ap (λ b. (g.violation.rule.0 == unknown_name.0) || b) (k i) ∙ or_true (g.violation.rule.0 == unknown_name.0)

clash : false ≡ true → ⊥
clash h = cc

-- what doesn't follow from other rules stays
stays : (fs : List Found) (f : Found) → may_follow f.violation.rule ≡ false → Contains fs f → Contains (of_themselves fs) f
stays [] f e h = absurd (in-none f h)
stays (g ∷ fs) f e h = go (may_follow g.violation.rule) refl (head-or-rest f g fs h) (λ i. stays fs f e i)
  where
    go : (b : Bool) → may_follow g.violation.rule ≡ b → (g ≡ f) ⊎ Contains fs f → (Contains fs f → Contains (of_themselves fs) f)
        → Contains (if b then of_themselves fs else g ∷ of_themselves fs) f
    go true i (inl same) k = absurd (clash (sym e ∙ ap (λ x. may_follow x.violation.rule) (sym same) ∙ i))
    go true i (inr r) k = k r
    go false i (inl same) k = at-head f g (of_themselves fs) same
    go false i (inr r) k = in-rest f g (of_themselves fs) (k r)

-- ---- one function

if_none : (b : Bool) (xs : List Found) → xs ≡ [] → (if b then [] else xs) ≡ []
if_none true xs h = refl
if_none false xs h = h

if_lacks : (b : Bool) (xs : List Found) → b ≡ true → (if b then [] else xs) ≡ []
if_lacks true xs h = refl
if_lacks false xs h = absurd (clash h)

pub own_none : (f : FunDecl) (names : Names) → Each IsLack (fun_found f names) → FindsOwnOf (Ok tt) f names
own_none f names h = if_none (lacks_kinds (fun_found f names)) (of_themselves (fun_found f names)) (none_themselves (fun_found f names) h)

pub own_lacks : (e : Front) (f : FunDecl) (names : Names) → lacks_name e ≡ true → IsCause e (fun_found f names) → FindsOwnOf (Ok tt) f names
own_lacks (front.Refused r) f names e h =
    if_lacks (lacks_kinds (fun_found f names)) (of_themselves (fun_found f names)) (name_lacks (fun_found f names) _ e h)
own_lacks front.Memory f names e h = absurd (clash e)

pub own_breaks : (e : Front) (f : FunDecl) (names : Names) → lacks_name e ≡ false → IsCause e (fun_found f names) × SaysRule e → FindsOwnOf (Err e) f names
own_breaks (front.Refused r) f names e h =
    stays (fun_found f names) _ (ap (λ b. b || (r.rule.0 == unknown_name.0)) h.1 ∙ e) h.0
own_breaks front.Memory f names e h = tt

-- ---- functions

pub left_all : (fs : List FunDecl) (names : Names) → AreLeft fs fs names
left_all fs names = record { none = λ h. h; cause = λ f h. h }

none_both : (xs ys : List Found) → xs ≡ [] → ys ≡ [] → xs ++ ys ≡ []
none_both xs ys e h = ap (λ zs. zs ++ ys) e ∙ h

pub left_more : (f : FunDecl) (fs all : List FunDecl) (names : Names) → FindsOwnOf (Ok tt) f names → AreLeft (f ∷ fs) all names → AreLeft fs all names
left_more f fs all names h i = record {
  none = λ k. i.none (none_both (if lacks_kinds (fun_found f names) then [] else of_themselves (fun_found f names)) (settled_found fs names) h k);
  cause = λ e k. i.cause e (cause_in_others e (of_themselves (fun_found f names)) (functions_found fs names) k);
}

pub left_breaks : (e : Front) (f : FunDecl) (fs all : List FunDecl) (names : Names) → FindsOwnOf (Err e) f names → AreLeft (f ∷ fs) all names
    → FindsOwn (Err e) all names
left_breaks e f fs all names h i = i.cause e (cause_in_first e (of_themselves (fun_found f names)) (functions_found fs names) h)

pub left_none : (all : List FunDecl) (names : Names) → AreLeft [] all names → FindsOwn (Ok tt) all names
left_none all names i = i.none refl

-- ---- functions first

pub in_functions : (fs : List FunDecl) (names : Names) (others : List Found) (f : Found) → Contains (functions_found fs names) f
    → Contains (functions_first fs names others) f
in_functions fs names others f h = Contains-append_left (functions_found fs names) _ f h

pub in_others : (fs : List FunDecl) (names : Names) (others : List Found) (f : Found) → settled_found fs names ≡ [] → Contains others f
    → Contains (functions_first fs names others) f
in_others fs names others f e h =
    Contains-append_right (functions_found fs names) _ f (subst (λ xs. Contains (if is_empty xs then others else []) f) (sym e) h)

-- ---- functions that break nothing

nothing_there : (file : ℕ) (vs : List Violation) → found_in file vs ≡ [] → (ws : List Found) → ws ≡ [] → of_themselves (found_in file vs ++ ws) ≡ []
nothing_there file vs h ws e = ap of_themselves (ap (λ xs. xs ++ ws) h ∙ e)

pub functions_none : (fs : List FunDecl) (names : Names) → heads_broken fs names ≡ [] → funs_broken fs names ≡ [] → functions_found fs names ≡ []
functions_none [] names h i = refl
functions_none (f ∷ fs) names h i =
    let heads = none_of (found_in f.file (broken (head_judged f.decl names))) (heads_broken fs names) h in
    let bodies = none_of (found_in f.file (fun_broken f.decl names)) (funs_broken fs names) i in
    none_both (of_themselves (fun_found f names)) (functions_found fs names)
    (nothing_there f.file (broken (head_judged f.decl names)) heads.0 (found_in f.file (fun_broken f.decl names)) bodies.0)
    (functions_none fs names heads.1 bodies.1)
  where
    none_of : (xs ys : List Found) → xs ++ ys ≡ [] → (xs ≡ []) × (ys ≡ [])
    none_of [] ys h = (refl, h)
    none_of (x ∷ xs) ys h = absurd (cc)

either_none : (xs : List Found) (b : Bool) (others : List Found) → xs ≡ [] → others ≡ [] → xs ++ (if b then others else []) ≡ []
either_none xs true others e h = none_both xs others e h
either_none xs false others e h = none_both xs [] e refl

pub first_none : (fs : List FunDecl) (names : Names) (others : List Found) → functions_found fs names ≡ [] → others ≡ [] → functions_first fs names others ≡ []
first_none fs names others e h = either_none (functions_found fs names) (is_empty (settled_found fs names)) others e h

-- ---- heads that aren't constant

lacking_append : (xs ys : List Found) → lacking (xs ++ ys) ≡ lacking xs ++ lacking ys
lacking_append [] ys = refl
lacking_append (x ∷ xs) ys = go (x.violation.rule.0 == not_constant.0) (lacking_append xs ys)
  where
    go : (b : Bool) → lacking (xs ++ ys) ≡ lacking xs ++ lacking ys
        → (if b then x ∷ lacking (xs ++ ys) else lacking (xs ++ ys)) ≡ (if b then x ∷ lacking xs else lacking xs) ++ lacking ys
    go true h = ap (λ zs. x ∷ zs) h
    go false h = h

pub head_left : (all : List Found) → IsHeadLeft all all
head_left all = record { none = λ h. h; there = λ f h. h }

pub head_more : (xs ys all : List Found) → lacking xs ≡ [] → IsHeadLeft (xs ++ ys) all → IsHeadLeft ys all
head_more xs ys all h i = record {
  none = λ k. i.none (lacking_append xs ys ∙ none_both (lacking xs) (lacking ys) h k);
  there = λ f k. i.there f (subst (λ zs. Contains zs f) (sym (lacking_append xs ys)) (Contains-append_right (lacking xs) (lacking ys) f k));
}

pub head_found : (xs ys all : List Found) (p : Place) → Contains (lacking xs) (inconstant p) → IsHeadLeft (xs ++ ys) all → Contains (lacking all) (inconstant p)
head_found xs ys all p h i =
    i.there (inconstant p) (subst (λ zs. Contains zs (inconstant p)) (sym (lacking_append xs ys)) (Contains-append_left (lacking xs) (lacking ys) (inconstant p) h))

same_rule : (rule : Rule) → (rule.0 == not_constant.0) ≡ true → rule ≡ not_constant
same_rule rule e =
    let same : rule.0 ≡ not_constant.0 = grind (arith, nat_tests) in
    ap (λ n. record { 0 = n }) same

-- of a head that breaks at most one rule
only_one : (vs : List Violation) (v : Violation) → length vs ≤ 1 → Contains vs v → vs ≡ v ∷ []
only_one [] v few h = absurd (in-none v h)
only_one (x ∷ []) v few h = go (head-or-rest v x [] h)
  where
    go : (x ≡ v) ⊎ Contains [] v → x ∷ [] ≡ v ∷ []
    go (inl e) = ap (λ y. y ∷ []) e
    go (inr i) = absurd (in-none v i)
only_one (x ∷ y ∷ vs) v few h = absurd (omega (arith, few))

one_lacking : (file : ℕ) (v : Violation) (b : Bool) → (v.rule.0 == not_constant.0) ≡ b
    → lacking (found_in file (v ∷ [])) ≡ (if b then record { violation = v; file = file } ∷ [] else [])
one_lacking file v b e = ap (λ c. if c then record { violation = v; file = file } ∷ [] else []) e

pub head_lacks : (file : ℕ) (vs : List Violation) (rule : Rule) (at : ℕ) → length vs ≤ 1 → Contains vs (record { rule = rule; at = at })
    → (rule.0 == not_constant.0) ≡ true → Contains (lacking (found_in file vs)) (inconstant (record { file = file; offset = at }))
head_lacks file vs rule at few h e =
    subst (λ ws. Contains (lacking (found_in file ws)) (inconstant (record { file = file; offset = at })))
    (sym (only_one vs (record { rule = rule; at = at }) few h ∙ ap (λ r. record { rule = r; at = at } ∷ []) (same_rule rule e)))
    (at-head (inconstant (record { file = file; offset = at })) (inconstant (record { file = file; offset = at })) [] refl)

pub head_breaks_other : (file : ℕ) (vs : List Violation) (rule : Rule) (at : ℕ) → length vs ≤ 1 → Contains vs (record { rule = rule; at = at })
    → (rule.0 == not_constant.0) ≡ false → lacking (found_in file vs) ≡ []
head_breaks_other file vs rule at few h e =
    ap (λ ws. lacking (found_in file ws)) (only_one vs (record { rule = rule; at = at }) few h)
    ∙ one_lacking file (record { rule = rule; at = at }) false e

-- ---- heads first

pub kept_named : (fs : List Found) (f : Found) → (f.violation.rule.0 == unknown_name.0) ≡ false → Contains fs f → Contains (named fs) f
kept_named [] f e h = absurd (in-none f h)
kept_named (g ∷ fs) f e h = go (g.violation.rule.0 == unknown_name.0) refl (head-or-rest f g fs h) (λ i. kept_named fs f e i)
  where
    go : (b : Bool) → (g.violation.rule.0 == unknown_name.0) ≡ b → (g ≡ f) ⊎ Contains fs f → (Contains fs f → Contains (named fs) f)
        → Contains (if b then named fs else g ∷ named fs) f
    go true i (inl same) k = absurd (clash (sym e ∙ ap (λ x. x.violation.rule.0 == unknown_name.0) (sym same) ∙ i))
    go true i (inr r) k = k r
    go false i (inl same) k = at-head f g (named fs) same
    go false i (inr r) k = in-rest f g (named fs) (k r)

-- a rule that isn't that of names is said in any case
pub said_with_heads : (heads others : List Found) (f : Found) → (f.violation.rule.0 == unknown_name.0) ≡ false → Contains others f → Contains (heads_first heads others) f
said_with_heads heads others f e h = go (lacks_kinds others && not (is_empty heads))
  where
    go : (b : Bool) → Contains (if b then heads ++ named others else others) f
    go true = Contains-append_right heads (named others) f (kept_named others f e h)
    go false = h

both_false : (b : Bool) → (b && false) ≡ false
both_false true = refl
both_false false = refl

-- all heads are constant
pub said_without : (heads others : List Found) (f : Found) → heads ≡ [] → Contains others f → Contains (heads_first heads others) f
said_without heads others f e h =
    subst (λ b. Contains (if b then heads ++ named others else others) f)
    (sym (ap (λ hs. lacks_kinds others && not (is_empty hs)) e ∙ both_false (lacks_kinds others))) h

some_there : (xs : List Found) (f : Found) → Contains xs f → is_empty xs ≡ false
some_there [] f h = absurd (in-none f h)
some_there (x ∷ xs) f h = refl

-- a name has no kind, and some head isn't constant
pub said_of_heads : (heads others : List Found) (f g : Found) → (g.violation.rule.0 == unknown_name.0) ≡ true → Contains others g → Contains heads f
    → Contains (heads_first heads others) f
said_of_heads heads others f g e there h =
    subst (λ b. Contains (if b then heads ++ named others else others) f)
    (sym (ap (λ b. b && not (is_empty heads)) (name_lacks others g e there) ∙ ap not (some_there heads f h)))
    (Contains-append_left heads (named others) f h)

pub heads_none : (heads others : List Found) → others ≡ [] → heads_first heads others ≡ []
heads_none heads others e = ap (heads_first heads) e
