-- What the check of an actor says, once functions are asked what they break of themselves.
use Rattle.std.proofs.Common.{◌≡◌, ◌⊎◌, inl, inr, true, false, List, [], ◌∷◌, ◌++◌, map, refl, sym, ap, subst, ◌∙◌}
use Rattle.std.specs.Prelude.{Contains, if◌then◌else◌, not, ◌==◌}
use Rattle.rvc_base.specs.Rules.{unknown_name}
use Rattle.std.specs.declared.result.Result.{Result}
use Rattle.rvc_base.specs.declared.refusal.Front.{Front}
use Rattle.rvc_base.specs.declared.refusal.Front.TheVariants as front
use Rattle.rvc_base.specs.declared.refusal.Place.{Place}
use Rattle.rvc_base.specs.declared.refusal.Refusal.{Refusal}
use Rattle.cal_model.specs.declared.bound.Bound.{Bound}
use Rattle.cal_check.proofs.Lists.{in-none}
use Rattle.cal_check.proofs.NoneBroken.{nothing-broken}
use Rattle.cal_check.specs.Actors.{Conforms, IsViolated, Source, all_funs, all_said, all_valued, around_of, behind_variables, has_heads, heads_broken, is_empty, said_or_all, valueless_found, violations}
use Rattle.cal_check.specs.Variables.{Found, Given, Spot, seen}
use Rattle.check_variable.specs.Causes.{inconstant}
use Rattle.check_given.specs.Causes.{IsCause, SaysRule}
use Rattle.check_actor.specs.Checked.{IsChecked, IsComplete, IsRefused, found_of}
use Rattle.check_actor.specs.Functions.{IsBroken, IsCycleAt, actor_found, functions_first, lacking, others_found, values_found}
use Rattle.check_actor.specs.Own.{IsNamedBehind, IsRefusedBehind, TellsBehind, TellsFunctions, TellsHeads}
use Rattle.check_actor.proofs.Chain.{said_among}
use Rattle.check_actor.proofs.Owned.{first_none, functions_none, heads_none, in_functions, in_others, said_of_heads, said_with_heads, said_without}
use Rattle.check_actor.proofs.Telling.{none_said, only_constants}

clash : false ≡ true → ⊥
clash h = cc

-- ---- which list is said

-- the variables break no rule, but perhaps that something isn't constant
over_all : (s : Source) (gs : List Given) (owner : Spot) (f : Found) → values_found s gs owner ≡ []
    → Contains (functions_first (all_funs s) (around_of s gs owner).names (others_found s gs owner)) f → Contains (actor_found s gs owner) f
over_all s gs owner f e h =
    subst (λ xs. Contains (if is_empty xs then functions_first (all_funs s) (around_of s gs owner).names (others_found s gs owner)
    else functions_first (all_funs s) (seen (all_funs s) []) (values_found s gs owner)) f) (sym e) h

some_there : (xs : List Found) (f : Found) → Contains xs f → is_empty xs ≡ false
some_there [] f h = absurd (in-none f h)
some_there (x ∷ xs) f h = refl

-- they break a rule
over_none : (s : Source) (gs : List Given) (owner : Spot) (f g : Found) → Contains (values_found s gs owner) g
    → Contains (functions_first (all_funs s) (seen (all_funs s) []) (values_found s gs owner)) f → Contains (actor_found s gs owner) f
over_none s gs owner f g e h =
    subst (λ b. Contains (if b then functions_first (all_funs s) (around_of s gs owner).names (others_found s gs owner)
    else functions_first (all_funs s) (seen (all_funs s) []) (values_found s gs owner)) f) (sym (some_there (values_found s gs owner) g e)) h

-- ---- what is told

pub values_constant : (ps : List Place) (s : Source) (gs : List Given) (owner : Spot) → (all_valued s gs owner).breaks ≡ map inconstant ps
    → values_found s gs owner ≡ []
values_constant ps s gs owner e = none_said (all_valued s gs owner).breaks (only_constants ps (all_valued s gs owner).breaks e)

-- a head that isn't constant is named in place of a name without a kind
named_behind : (fault g : Front) (s : Source) (gs : List Given) (owner : Spot) → TellsHeads (heads_broken (all_funs s) (around_of s gs owner).names) fault g
    → IsRefusedBehind fault s gs owner → IsNamedBehind g s gs owner
named_behind (front.Refused q) (front.Refused r) s gs owner (inl (same, why)) h = go why (subst (λ x. IsRefusedBehind x s gs owner) (sym same) h)
  where
    heads : List Found
    heads = lacking (heads_broken (all_funs s) (around_of s gs owner).names)

    as_told : front.Refused q ≡ front.Refused r
    as_told = sym same

    go : ((q.rule.0 == unknown_name.0) ≡ false) ⊎ (heads ≡ []) → IsViolated s gs owner (found_of r) → IsNamedBehind (front.Refused r) s gs owner
    go (inl other) (inl c) = inl (said_with_heads heads (violations s gs owner) (found_of r) (subst (λ x. is_other x) as_told other) c)
      where
        is_other : Front → Type 0
        is_other (front.Refused p) = (p.rule.0 == unknown_name.0) ≡ false
        is_other front.Memory = Unit {0}
    go (inr none) (inl c) = inl (said_without heads (violations s gs owner) (found_of r) none c)
    go why (inr c) = inr c
named_behind (front.Refused q) (front.Refused r) s gs owner (inr (lacks, cause)) h = go h
  where
    go : IsViolated s gs owner (found_of q) → IsNamedBehind (front.Refused r) s gs owner
    go (inl c) = inl (said_of_heads (lacking (heads_broken (all_funs s) (around_of s gs owner).names)) (violations s gs owner) (found_of r) (found_of q) lacks c cause)
    go (inr c) = absurd (clash (ap (λ x. x.0 == unknown_name.0) (sym c.2) ∙ lacks))
named_behind front.Memory (front.Refused r) s gs owner same h = absurd (cc)
named_behind fault front.Memory s gs owner t h = tt

functions_behind : (fault told : Front) (s : Source) (gs : List Given) (owner : Spot) → values_found s gs owner ≡ []
    → TellsFunctions (all_funs s) (around_of s gs owner).names fault told → IsNamedBehind fault s gs owner → IsRefused told s gs owner
functions_behind (front.Refused q) (front.Refused r) s gs owner none (inl (same, e)) h = go (subst (λ g. IsNamedBehind g s gs owner) (sym same) h)
  where
    go : Contains (others_found s gs owner) (found_of r) ⊎ IsCycleAt s gs owner (found_of r) → IsBroken s gs owner (found_of r)
    go (inl c) = inl (over_all s gs owner (found_of r) none (in_others (all_funs s) (around_of s gs owner).names (others_found s gs owner) (found_of r) e c))
    go (inr c) = inr c
functions_behind (front.Refused q) (front.Refused r) s gs owner none (inr c) h =
    inl (over_all s gs owner (found_of r) none (in_functions (all_funs s) (around_of s gs owner).names (others_found s gs owner) (found_of r) c))
functions_behind front.Memory (front.Refused r) s gs owner none same h = absurd (cc)
functions_behind fault front.Memory s gs owner none t h = tt

pub told_behind : (fault told : Front) (s : Source) (gs : List Given) (owner : Spot) → values_found s gs owner ≡ []
    → TellsBehind (all_funs s) (around_of s gs owner).names fault told → IsRefusedBehind fault s gs owner → IsRefused told s gs owner
told_behind fault told s gs owner none t h = functions_behind t.0 told s gs owner none t.2 (named_behind fault t.0 s gs owner t.1 h)

-- a rule that the variables break is said
value_said : (r : Refusal) (s : Source) (gs : List Given) (owner : Spot) → IsCause (front.Refused r) (all_valued s gs owner).breaks
    → SaysRule (front.Refused r) → Contains (values_found s gs owner) (found_of r)
value_said r s gs owner h says = said_among true (all_valued s gs owner).breaks (found_of r) says h

pub told_early : (fault told : Front) (s : Source) (gs : List Given) (owner : Spot) → TellsFunctions (all_funs s) (seen (all_funs s) []) fault told
    → IsCause fault (all_valued s gs owner).breaks × SaysRule fault → IsRefused told s gs owner
told_early (front.Refused q) (front.Refused r) s gs owner (inl (same, e)) h =
    let c : Contains (values_found s gs owner) (found_of r) =
    subst (λ g. go g) (sym same) (value_said q s gs owner h.0 h.1) in
    inl (over_none s gs owner (found_of r) (found_of r) c (in_others (all_funs s) (seen (all_funs s) []) (values_found s gs owner) (found_of r) e c))
  where
    go : Front → Type 0
    go (front.Refused p) = Contains (values_found s gs owner) (found_of p)
    go front.Memory = Unit {0}
told_early (front.Refused q) (front.Refused r) s gs owner (inr c) h =
    inl (over_none s gs owner (found_of r) (found_of q) (value_said q s gs owner h.0 h.1)
    (in_functions (all_funs s) (seen (all_funs s) []) (values_found s gs owner) (found_of r) c))
told_early front.Memory (front.Refused r) s gs owner same h = absurd (cc)
told_early fault front.Memory s gs owner t h = tt

-- ---- an actor that conforms

none_said_of : (said all : List Found) → said_or_all said all ≡ [] → all ≡ []
none_said_of [] all h = h
none_said_of (f ∷ fs) all h = absurd (cc)

none_first : (xs others : List Found) → said_or_all xs others ≡ [] → xs ≡ []
none_first [] others h = refl
none_first (f ∷ fs) others h = absurd (cc)

none_in_first : (xs ys : List Found) → xs ++ ys ≡ [] → xs ≡ []
none_in_first [] ys h = refl
none_in_first (x ∷ xs) ys h = absurd (cc)

values_break_none : (s : Source) (gs : List Given) (owner : Spot) → violations s gs owner ≡ [] → (all_valued s gs owner).breaks ≡ []
values_break_none s gs owner h =
    let around = around_of s gs owner in
    let vs = all_valued s gs owner in
    let all = none_said_of (all_said (not (has_heads s around)) (vs.breaks ++ all_said vs.useless (behind_variables s gs owner around)))
    (said_or_all (vs.breaks ++ behind_variables s gs owner around) (valueless_found s owner vs)) h in
    none_in_first vs.breaks (behind_variables s gs owner around)
    (none_first (vs.breaks ++ behind_variables s gs owner around) (valueless_found s owner vs) all)

actor_none : (s : Source) (gs : List Given) (owner : Spot) → violations s gs owner ≡ [] → actor_found s gs owner ≡ []
actor_none s gs owner h =
    let none = nothing-broken s gs owner h in
    let names = (around_of s gs owner).names in
    ap (λ xs. if is_empty xs then functions_first (all_funs s) names (others_found s gs owner)
    else functions_first (all_funs s) (seen (all_funs s) []) (values_found s gs owner)) (ap (all_said true) (values_break_none s gs owner h))
    ∙ first_none (all_funs s) names (others_found s gs owner) (functions_none (all_funs s) names none.members.heads none.members.funs)
    (heads_none (lacking (heads_broken (all_funs s) names)) (violations s gs owner) h)

broken_none : (f : Found) (s : Source) (gs : List Given) (owner : Spot) → IsBroken s gs owner f → Conforms s gs owner → ⊥
broken_none f s gs owner (inl h) k = in-none f (subst (λ fs. Contains fs f) (actor_none s gs owner k.nothing) h)
broken_none f s gs owner (inr h) k = k.ordered h.0

pub conforming_is_given : (result : Result Bound Front) (s : Source) (gs : List Given) (owner : Spot) → IsChecked result s gs owner → IsComplete result s gs owner
conforming_is_given result s gs owner h r e k = broken_none (found_of r) s gs owner (subst (λ x. IsChecked x s gs owner) e h) k
