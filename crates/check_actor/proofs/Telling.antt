-- What the check of an actor says, of what its parts break.
use Rattle.std.proofs.Common.{◌≡◌, ◌⊎◌, inl, inr, Err, Bool, true, false, List, [], ◌∷◌, ◌++◌, map, refl, sym, ap, subst, ◌∙◌, append-nil}
use Rattle.std.specs.Prelude.{Contains, Option, None, Some, if◌then◌else◌, not, ◌&&◌, ◌||◌, ◌==◌}
use Rattle.std.specs.declared.result.Result.{Result}
use Rattle.std.proofs.lemmas.List.Elements.{Contains-append_left, Contains-append_right}
use Rattle.rvc_base.specs.Rules.{not_constant}
use Rattle.rvc_base.specs.declared.refusal.Front.{Front}
use Rattle.rvc_base.specs.declared.refusal.Front.TheVariants as front
use Rattle.rvc_base.specs.declared.refusal.Place.{Place}
use Rattle.rvc_base.specs.declared.refusal.Refusal.{Refusal}
use Rattle.cal_ast.specs.Places.{begins}
use Rattle.cal_model.specs.Actor.{Held}
use Rattle.cal_model.specs.Kinding.{Judged, Fine, Broken, Names}
use Rattle.cal_model.specs.Sound.{Each}
use Rattle.cal_model.specs.Value.{Shape}
use Rattle.cal_model.specs.declared.bound.Bound.{Bound}
use Rattle.cal_check.proofs.Lists.{at-head, each-append, in-none}
use Rattle.cal_check.specs.Constants.{early_type}
use Rattle.cal_check.specs.Routines.{FunDecl}
use Rattle.cal_check.specs.Actors.{IsViolated, Source, actor_given, all_said, all_valued, around_of, behind_variables, declared_vars, first_valueless, has_heads, header_found, heads_found, inside_found, is_empty, is_held, members_found, said_or_all, violations}
use Rattle.cal_check.specs.Variables.{Found, Given, Spot, VarDecl, Valued, none_yet, seen, valued, with_type, with_var}
use Rattle.check_variable.specs.Causes.{inconstant}
use Rattle.check_given.specs.Causes.{IsCause, SaysRule}
use Rattle.check_variable.specs.Valuing.{AreAt, first_in, left_over, valueless}
use Rattle.check_actor.specs.Checked.{found_of}
use Rattle.check_actor.specs.Early.{wrongly_given}
use Rattle.check_actor.specs.Own.{IsCheckedBehind, IsRefusedBehind}
use Rattle.check_actor.specs.Members.{AreMembers, FindsMembers, Settles, not_constant_at, place_left, said_first}
use Rattle.check_actor.specs.Parts.{FindsInside, header_names}
use Rattle.check_actor.specs.Phases.{header_over}
use Rattle.check_actor.specs.Sifting.{IsFault, IsLack}
use Rattle.check_actor.proofs.Behind.{behind_none, given_breaks, header_breaks, heads_break, inside_break, members_break, members_none}
use Rattle.check_actor.proofs.Chain.{behind_break, first_said}

-- ---- more variables break no less

typed_keeps : (j : Judged Shape) (x : VarDecl) (gs : List Given) (owner : Spot) (names : Names) (vs : Valued) (f : Found)
    → Contains vs.breaks f → Contains (with_type j x gs owner names vs).breaks f
typed_keeps (Fine t) x gs owner names vs f h = Contains-append_left vs.breaks _ f h
typed_keeps (Broken rule at) x gs owner names vs f h = Contains-append_left vs.breaks _ f h

one_keeps : (whole : Bool) (j : Judged Shape) (x : VarDecl) (gs : List Given) (owner : Spot) (names : Names) (vs : Valued) (f : Found)
    → Contains vs.breaks f → Contains (if whole then with_type j x gs owner names vs else vs).breaks f
one_keeps true j x gs owner names vs f h = typed_keeps j x gs owner names vs f h
one_keeps false j x gs owner names vs f h = h

valued_keeps : (xs : List VarDecl) (gs : List Given) (owner : Spot) (fs : List FunDecl) (vs : Valued) (f : Found)
    → Contains vs.breaks f → Contains (valued xs gs owner fs vs).breaks f
valued_keeps [] gs owner fs vs f h = h
valued_keeps (x ∷ xs) gs owner fs vs f h =
    valued_keeps xs gs owner fs (with_var x gs owner fs vs) f
    (one_keeps vs.whole (early_type x.shape (seen fs vs.known)) x gs owner (seen fs vs.known) vs f h)

pub cause_kept : (f : Front) (xs : List VarDecl) (gs : List Given) (owner : Spot) (fs : List FunDecl) (vs : Valued)
    → IsCause f vs.breaks → IsCause f (valued xs gs owner fs vs).breaks
cause_kept (front.Refused r) xs gs owner fs vs h = valued_keeps xs gs owner fs vs _ h
cause_kept front.Memory xs gs owner fs vs h = tt

-- ---- what is said of what is broken

other : (hides b : Bool) → b ≡ false → (hides && b) ≡ false
other true b e = e
other false b e = refl

shown : (hides b : Bool) → hides ≡ false → (hides && b) ≡ false
shown hides b e = ap (λ h. h && b) e

all_are_said : (fs : List Found) → all_said false fs ≡ fs
all_are_said [] = refl
all_are_said (f ∷ fs) = ap (λ gs. f ∷ gs) (all_are_said fs)

pub none_said : (fs : List Found) → Each IsLack fs → all_said true fs ≡ []
none_said [] h = refl
none_said (f ∷ fs) h =
    ap (λ r. if r.0 == not_constant.0 then all_said true fs else f ∷ all_said true fs) h.0 ∙ none_said fs h.1

each_said : (hides : Bool) (fs : List Found) → Each IsLack fs → Each IsLack (all_said hides fs)
each_said hides [] h = tt
each_said hides (f ∷ fs) h = go (hides && (f.violation.rule.0 == not_constant.0)) (each_said hides fs h.1)
  where
    go : (b : Bool) → Each IsLack (all_said hides fs) → Each IsLack (if b then all_said hides fs else f ∷ all_said hides fs)
    go true k = k
    go false k = (h.0, k)

pub only_constants : (ps : List Place) (fs : List Found) → fs ≡ map inconstant ps → Each IsLack fs
only_constants ps fs e = subst (Each IsLack) (sym e) (go ps)
  where
    go : (ps : List Place) → Each IsLack (map inconstant ps)
    go [] = tt
    go (p ∷ ps) = (refl, go ps)

-- ---- nothing is broken but that something isn't constant

-- of the variables, or behind them if they break nothing
abbrev IsFirstLack : List Found → List Found → Found → Type 0
IsFirstLack breaks behind f = Contains breaks f ⊎ ((breaks ≡ []) × Contains behind f)

in_all : (breaks behind : List Found) (f : Found) → IsFirstLack breaks behind f → Contains (breaks ++ behind) f
in_all breaks behind f (inl h) = Contains-append_left breaks behind f h
in_all breaks behind f (inr (none, h)) = Contains-append_right breaks behind f h

lacks_said : (hides useless : Bool) (breaks behind valueless : List Found) (f : Found) → Each IsLack breaks → Each IsLack behind → IsFirstLack breaks behind f
    → Contains (said_or_all (all_said hides (breaks ++ all_said useless behind)) (said_or_all (breaks ++ behind) valueless)) f
lacks_said true useless breaks behind valueless f b k h =
    subst (λ xs. Contains (said_or_all xs (said_or_all (breaks ++ behind) valueless)) f)
    (sym (none_said (breaks ++ all_said useless behind) (each-append IsLack breaks (all_said useless behind) b (each_said useless behind k))))
    (first_said (breaks ++ behind) valueless f (in_all breaks behind f h))
lacks_said false useless breaks behind valueless f b k (inl h) =
    first_said _ _ f (subst (λ xs. Contains xs f) (sym (all_are_said (breaks ++ all_said useless behind)))
    (Contains-append_left breaks (all_said useless behind) f h))
lacks_said false false breaks behind valueless f b k (inr (none, h)) =
    first_said _ _ f (subst (λ xs. Contains xs f) (sym (all_are_said (breaks ++ all_said false behind)))
    (Contains-append_right breaks (all_said false behind) f (subst (λ xs. Contains xs f) (sym (all_are_said behind)) h)))
lacks_said false true breaks behind valueless f b k (inr (none, h)) =
    subst (λ xs. Contains (said_or_all xs (said_or_all (breaks ++ behind) valueless)) f)
    (sym (all_are_said (breaks ++ all_said true behind) ∙ ap (λ bs. bs ++ all_said true behind) none ∙ none_said behind k))
    (first_said (breaks ++ behind) valueless f (Contains-append_right breaks behind f h))

lacks_told : (s : Source) (gs : List Given) (owner : Spot) (f : Found) → Each IsLack (all_valued s gs owner).breaks
    → Each IsLack (behind_variables s gs owner (around_of s gs owner))
    → IsFirstLack (all_valued s gs owner).breaks (behind_variables s gs owner (around_of s gs owner)) f → IsViolated s gs owner f
lacks_told s gs owner f b k h =
    inl (lacks_said (not (has_heads s (around_of s gs owner))) (all_valued s gs owner).useless (all_valued s gs owner).breaks
    (behind_variables s gs owner (around_of s gs owner)) (valueless (declared_vars s) owner (all_valued s gs owner)) f b k h)

-- ---- a rule that is broken behind the variables

-- one that is said whatever else is broken
behind_said : (s : Source) (gs : List Given) (owner : Spot) (f : Found) → (f.violation.rule.0 == not_constant.0) ≡ false
    → Contains (behind_variables s gs owner (around_of s gs owner)) f → IsViolated s gs owner f
behind_said s gs owner f e h = inl (behind_break s gs owner (around_of s gs owner) f (other _ _ e) (other _ _ e) h)

says_first : (noted : Option Place) (r : Refusal) → (r.rule.0 == not_constant.0) ≡ false → said_first noted (front.Refused r) ≡ front.Refused r
says_first None r e = refl
says_first (Some p) r e = ap (λ b. if b then not_constant_at p else front.Refused r) e

lacks_first : (p : Place) (r : Refusal) → (r.rule.0 == not_constant.0) ≡ true → said_first (Some p) (front.Refused r) ≡ not_constant_at p
lacks_first p r e = ap (λ b. if b then not_constant_at p else front.Refused r) e

first_place : (p : Place) (ps : List Place) (fs : List Found) → fs ≡ map inconstant (p ∷ ps) → Contains fs (inconstant p)
first_place p ps fs e = subst (λ gs. Contains gs (inconstant p)) (sym e) (at-head (inconstant p) (inconstant p) (map inconstant ps) refl)

-- it is said whatever else is broken, or nothing is broken behind the variables but that something isn't constant
fault_told : (r : Refusal) (ps : List Place) (s : Source) (gs : List Given) (owner : Spot) → (all_valued s gs owner).breaks ≡ map inconstant ps
    → Contains (behind_variables s gs owner (around_of s gs owner)) (found_of r)
    → SaysRule (front.Refused r) ⊎ Each IsLack (behind_variables s gs owner (around_of s gs owner))
    → IsRefusedBehind (said_first (first_in ps) (front.Refused r)) s gs owner
fault_told r ps s gs owner e h (inl says) =
    subst (λ f. IsRefusedBehind f s gs owner) (sym (says_first (first_in ps) r says)) (behind_said s gs owner (found_of r) says h)
fault_told r ps s gs owner e h (inr only) = go (r.rule.0 == not_constant.0) refl ps e
  where
    go : (b : Bool) → (r.rule.0 == not_constant.0) ≡ b → (ps : List Place) → (all_valued s gs owner).breaks ≡ map inconstant ps
        → IsRefusedBehind (said_first (first_in ps) (front.Refused r)) s gs owner
    go false i ps e =
        subst (λ f. IsRefusedBehind f s gs owner) (sym (says_first (first_in ps) r i)) (behind_said s gs owner (found_of r) i h)
    go true i [] e = lacks_told s gs owner (found_of r) (only_constants [] (all_valued s gs owner).breaks e) only (inr (e, h))
    go true i (p ∷ ps) e =
        subst (λ f. IsRefusedBehind f s gs owner) (sym (lacks_first p r i))
        (lacks_told s gs owner (inconstant p) (only_constants (p ∷ ps) (all_valued s gs owner).breaks e) only
        (inl (first_place p ps (all_valued s gs owner).breaks e)))

-- ---- of the variables, and of what they are given

pub given_refuses : (f : Front) (s : Source) (gs : List Given) (owner : Spot) → IsCause f (wrongly_given s gs) → SaysRule f → IsRefusedBehind f s gs owner
given_refuses (front.Refused r) s gs owner h said =
    behind_said s gs owner (found_of r) said (given_breaks s gs owner (around_of s gs owner) (found_of r) h)
given_refuses front.Memory s gs owner h said = tt

-- ---- the header

only_header : (wrong hs members : List Found) (f : Found) → wrong ≡ [] → Contains hs f → Each IsLack hs
    → Each IsLack (wrong ++ (hs ++ (if is_empty hs then members else [])))
only_header [] [] members f e c h = absurd (in-none f c)
only_header [] (g ∷ hs) members f e c h = each-append IsLack (g ∷ hs) [] h tt
only_header (w ∷ wrong) hs members f e c h = absurd (cc)

header_fault_told : (g : Front) (ps : List Place) (s : Source) (gs : List Given) (owner : Spot) → (all_valued s gs owner).breaks ≡ map inconstant ps
    → wrongly_given s gs ≡ [] → IsFault g (header_over s (header_names s gs owner)) → IsRefusedBehind (said_first (first_in ps) g) s gs owner
header_fault_told (front.Refused r) ps s gs owner e given (cause, inl says) =
    fault_told r ps s gs owner e (header_breaks s gs owner (around_of s gs owner) (found_of r) cause) (inl says)
header_fault_told (front.Refused r) ps s gs owner e given (cause, inr only) =
    fault_told r ps s gs owner e (header_breaks s gs owner (around_of s gs owner) (found_of r) cause)
    (inr (only_header (wrongly_given s gs) (header_found s gs owner) (members_found s (around_of s gs owner) (actor_given s gs owner) (all_valued s gs owner).whole)
    (found_of r) given cause only))
header_fault_told front.Memory [] s gs owner e given h = tt
header_fault_told front.Memory (p ∷ ps) s gs owner e given h = tt

pub header_refuses : (f g : Front) (noted : Option Place) (ps : List Place) (s : Source) (gs : List Given) (owner : Spot) → noted ≡ first_in ps
    → (all_valued s gs owner).breaks ≡ map inconstant ps → f ≡ said_first noted g → wrongly_given s gs ≡ []
    → IsFault g (header_over s (header_names s gs owner)) → IsRefusedBehind f s gs owner
header_refuses f g noted ps s gs owner first e says given h =
    subst (λ x. IsRefusedBehind x s gs owner) (sym (says ∙ ap (λ o. said_first o g) first)) (header_fault_told g ps s gs owner e given h)

-- ---- heads

only_heads : (wrong header hs inside : List Found) (whole : Bool) (f : Found) → wrong ≡ [] → header ≡ [] → whole ≡ true → Contains hs f → Each IsLack hs
    → Each IsLack (wrong ++ (header ++ (if is_empty header then (if not whole then [] else if is_empty hs then inside else hs) else [])))
only_heads [] [] [] inside true f w h e c i = absurd (in-none f c)
only_heads [] [] (g ∷ hs) inside true f w h e c i = i
only_heads [] [] hs inside false f w h e c i = absurd (cc)
only_heads [] (g ∷ header) hs inside whole f w h e c i = absurd (cc)
only_heads (g ∷ wrong) header hs inside whole f w h e c i = absurd (cc)

heads_told : (f : Front) (ps : List Place) (s : Source) (gs : List Given) (owner : Spot) → (all_valued s gs owner).breaks ≡ map inconstant ps
    → wrongly_given s gs ≡ [] → header_over s (header_names s gs owner) ≡ [] → (all_valued s gs owner).whole ≡ true
    → IsFault f (heads_found s (around_of s gs owner).names) → IsRefusedBehind (said_first (first_in ps) f) s gs owner
heads_told (front.Refused r) ps s gs owner e given header whole fault = fault_told r ps s gs owner e there (go fault.1)
  where
    there : Contains (behind_variables s gs owner (around_of s gs owner)) (found_of r)
    there = members_break s gs owner (around_of s gs owner) (found_of r) header
        (heads_break s (around_of s gs owner) (actor_given s gs owner) (all_valued s gs owner).whole (found_of r) whole fault.0)

    go : SaysRule (front.Refused r) ⊎ Each IsLack (heads_found s (around_of s gs owner).names)
        → SaysRule (front.Refused r) ⊎ Each IsLack (behind_variables s gs owner (around_of s gs owner))
    go (inl says) = inl says
    go (inr only) = inr (only_heads (wrongly_given s gs) (header_found s gs owner) (heads_found s (around_of s gs owner).names)
        (inside_found s (around_of s gs owner) (actor_given s gs owner)) (all_valued s gs owner).whole (found_of r) given header whole fault.0 only)
heads_told front.Memory [] s gs owner e given header whole h = tt
heads_told front.Memory (p ∷ ps) s gs owner e given header whole h = tt

-- ---- what is inside

only_inside : (wrong header hs inside : List Found) (whole : Bool) → wrong ≡ [] → header ≡ [] → whole ≡ true → hs ≡ [] → Each IsLack inside
    → Each IsLack (wrong ++ (header ++ (if is_empty header then (if not whole then [] else if is_empty hs then inside else hs) else [])))
only_inside [] [] [] inside true w h e c i = i
only_inside [] [] hs inside false w h e c i = absurd (cc)
only_inside [] [] (g ∷ hs) inside true w h e c i = absurd (cc)
only_inside [] (g ∷ header) hs inside whole w h e c i = absurd (cc)
only_inside (g ∷ wrong) header hs inside whole w h e c i = absurd (cc)

-- an action above itself is said in any case
inside_told : (f : Front) (ps : List Place) (s : Source) (gs : List Given) (owner : Spot) → (all_valued s gs owner).breaks ≡ map inconstant ps
    → wrongly_given s gs ≡ [] → header_over s (header_names s gs owner) ≡ [] → (all_valued s gs owner).whole ≡ true
    → heads_found s (around_of s gs owner).names ≡ [] → FindsInside (Err f) s gs owner → IsRefusedBehind (said_first (first_in ps) f) s gs owner
inside_told (front.Refused r) ps s gs owner e given header whole heads (inl h, only) = fault_told r ps s gs owner e there (go only)
  where
    there : Contains (behind_variables s gs owner (around_of s gs owner)) (found_of r)
    there = members_break s gs owner (around_of s gs owner) (found_of r) header
        (inside_break s (around_of s gs owner) (actor_given s gs owner) (all_valued s gs owner).whole (found_of r) whole heads h)

    go : SaysRule (front.Refused r) ⊎ Each IsLack (inside_found s (around_of s gs owner) (actor_given s gs owner))
        → SaysRule (front.Refused r) ⊎ Each IsLack (behind_variables s gs owner (around_of s gs owner))
    go (inl says) = inl says
    go (inr lacks) = inr (only_inside (wrongly_given s gs) (header_found s gs owner) (heads_found s (around_of s gs owner).names)
        (inside_found s (around_of s gs owner) (actor_given s gs owner)) (all_valued s gs owner).whole given header whole heads lacks)
inside_told (front.Refused r) ps s gs owner e given header whole heads (inr h, only) =
    subst (λ f. IsRefusedBehind f s gs owner) (sym (says_first (first_in ps) r (ap (λ x. x.0 == not_constant.0) h.2))) (inr h)
inside_told front.Memory [] s gs owner e given header whole heads h = tt
inside_told front.Memory (p ∷ ps) s gs owner e given header whole heads h = tt

pub members_refuse : (f : Front) (noted : Option Place) (ps : List Place) (s : Source) (gs : List Given) (owner : Spot) → noted ≡ first_in ps
    → (all_valued s gs owner).breaks ≡ map inconstant ps → wrongly_given s gs ≡ [] → header_over s (header_names s gs owner) ≡ []
    → (all_valued s gs owner).whole ≡ true → FindsMembers (Err f) s gs owner → IsRefusedBehind (said_first noted f) s gs owner
members_refuse f noted ps s gs owner first e given header whole (inl h) =
    subst (λ o. IsRefusedBehind (said_first o f) s gs owner) (sym first) (heads_told f ps s gs owner e given header whole h)
members_refuse f noted ps s gs owner first e given header whole (inr h) =
    subst (λ o. IsRefusedBehind (said_first o f) s gs owner) (sym first) (inside_told f ps s gs owner e given header whole h.0 h.1)

-- ---- nothing behind the variables is broken

twice_said : (fs others : List Found) → said_or_all fs (said_or_all fs others) ≡ said_or_all fs others
twice_said [] others = refl
twice_said (f ∷ fs) others = refl

over_alone : (hides useless : Bool) (breaks behind valueless : List Found) → behind ≡ [] → Each IsLack breaks
    → said_or_all (all_said hides (breaks ++ all_said useless behind)) (said_or_all (breaks ++ behind) valueless) ≡ said_or_all breaks valueless
over_alone hides useless breaks behind valueless none only =
    ap (λ hs. said_or_all (all_said hides (breaks ++ all_said useless hs)) (said_or_all (breaks ++ hs) valueless)) none
    ∙ ap (λ fs. said_or_all (all_said hides fs) (said_or_all fs valueless)) (append-nil breaks)
    ∙ go hides
  where
    go : (hides : Bool) → said_or_all (all_said hides breaks) (said_or_all breaks valueless) ≡ said_or_all breaks valueless
    go false = ap (λ fs. said_or_all fs (said_or_all breaks valueless)) (all_are_said breaks) ∙ twice_said breaks valueless
    go true = ap (λ fs. said_or_all fs (said_or_all breaks valueless)) (none_said breaks only)

alone : (s : Source) (gs : List Given) (owner : Spot) → behind_variables s gs owner (around_of s gs owner) ≡ []
    → Each IsLack (all_valued s gs owner).breaks
    → violations s gs owner ≡ left_over (declared_vars s) owner (all_valued s gs owner)
alone s gs owner none only =
    over_alone (not (has_heads s (around_of s gs owner))) (all_valued s gs owner).useless (all_valued s gs owner).breaks
    (behind_variables s gs owner (around_of s gs owner)) (valueless (declared_vars s) owner (all_valued s gs owner)) none only

-- what is left of the variables is refused
left_refuses : (p : Place) (s : Source) (gs : List Given) (owner : Spot) → behind_variables s gs owner (around_of s gs owner) ≡ []
    → Each IsLack (all_valued s gs owner).breaks
    → Contains (left_over (declared_vars s) owner (all_valued s gs owner)) (inconstant p) → IsRefusedBehind (not_constant_at p) s gs owner
left_refuses p s gs owner none only h = inl (subst (λ fs. Contains fs (inconstant p)) (sym (alone s gs owner none only)) h)

pub members_settle : (found : Bound) (ps : List Place) (left : Option Place) (r : Result Bound Front) (s : Source) (gs : List Given) (owner : Spot)
    → (all_valued s gs owner).breaks ≡ map inconstant ps → AreAt left (left_over (declared_vars s) owner (all_valued s gs owner))
    → wrongly_given s gs ≡ [] → header_over s (header_names s gs owner) ≡ [] → AreMembers found s gs owner → Settles left found r
    → IsCheckedBehind r s gs owner
members_settle found ps left r s gs owner broken leaves given header members settles = go left leaves settles
  where
    none : behind_variables s gs owner (around_of s gs owner) ≡ []
    none = behind_none s gs owner (around_of s gs owner) given header
        (members_none s (around_of s gs owner) (actor_given s gs owner) (all_valued s gs owner).whole members.heads members.inside.fine)

    only : Each IsLack (all_valued s gs owner).breaks
    only = only_constants ps (all_valued s gs owner).breaks broken

    go : (left : Option Place) → AreAt left (left_over (declared_vars s) owner (all_valued s gs owner)) → Settles left found r → IsCheckedBehind r s gs owner
    go None leaves settles = subst (λ x. IsCheckedBehind x s gs owner) (sym settles) (record {
      conforms = record { nothing = alone s gs owner none only ∙ leaves; ordered = members.inside.ordered };
      is = members.inside.is;
    })
    go (Some p) leaves settles = subst (λ x. IsCheckedBehind x s gs owner) (sym settles) (left_refuses p s gs owner none only leaves)

-- ---- variables without types

one_more : (b : Bool) (f : Found) (others : List Found) → (others ≡ [] → ⊥) → (if b then others else f ∷ []) ≡ [] → ⊥
one_more true f others k h = k h
one_more false f others k h = cc

never_none : (xs : List VarDecl) (held : List Held) (owner : Spot) → first_valueless xs held owner ≡ [] → ⊥
never_none [] held owner h = cc
never_none (x ∷ xs) held owner h =
    one_more (is_held x.name held) (record { violation = record { rule = not_constant; at = begins x.start }; file = x.file })
    (first_valueless xs held owner) (λ e. never_none xs held owner e) h

never_left : (useless whole : Bool) (breaks others : List Found) → whole ≡ false → (others ≡ [] → ⊥)
    → said_or_all breaks (if useless || not whole then others else []) ≡ [] → ⊥
never_left useless true breaks others w k h = cc
never_left true false [] others w k h = k h
never_left false false [] others w k h = k h
never_left useless false (f ∷ breaks) others w k h = cc

-- a variable has no type, so nothing behind the header is judged
pub untyped_refuses : (ps : List Place) (left : Option Place) (place : Place) (s : Source) (gs : List Given) (owner : Spot)
    → (all_valued s gs owner).breaks ≡ map inconstant ps → AreAt left (left_over (declared_vars s) owner (all_valued s gs owner))
    → wrongly_given s gs ≡ [] → header_over s (header_names s gs owner) ≡ [] → (all_valued s gs owner).whole ≡ false
    → IsRefusedBehind (not_constant_at (place_left left place)) s gs owner
untyped_refuses ps left place s gs owner broken leaves given header whole = go left leaves
  where
    none : behind_variables s gs owner (around_of s gs owner) ≡ []
    none = behind_none s gs owner (around_of s gs owner) given header
        (ap (members_found s (around_of s gs owner) (actor_given s gs owner)) whole)

    only : Each IsLack (all_valued s gs owner).breaks
    only = only_constants ps (all_valued s gs owner).breaks broken

    go : (left : Option Place) → AreAt left (left_over (declared_vars s) owner (all_valued s gs owner)) → IsRefusedBehind (not_constant_at (place_left left place)) s gs owner
    go None leaves = absurd (never_left (all_valued s gs owner).useless (all_valued s gs owner).whole (all_valued s gs owner).breaks
        (first_valueless (declared_vars s) (all_valued s gs owner).held owner) whole (never_none (declared_vars s) (all_valued s gs owner).held owner) leaves)
    go (Some p) leaves = left_refuses p s gs owner none only leaves

-- ---- of the variables

pub before_keeps : (f : Front) (xs ys more : List VarDecl) (gs : List Given) (owner : Spot) (fs hs : List FunDecl) → xs ≡ ys → fs ≡ hs
    → IsCause f (valued xs gs owner fs none_yet).breaks → IsCause f (valued more gs owner hs (valued ys gs owner hs none_yet)).breaks
before_keeps f xs ys more gs owner fs hs e i h =
    cause_kept f more gs owner hs (valued ys gs owner hs none_yet)
    (subst (λ zs. IsCause f (valued zs gs owner hs none_yet).breaks) e (subst (λ zs. IsCause f (valued xs gs owner zs none_yet).breaks) i h))
