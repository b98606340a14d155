-- What is broken behind the variables of an actor: values that are given wrongly, the header, heads, and what is inside.
use Rattle.std.proofs.Common.{◌≡◌, Bool, true, false, List, [], ◌∷◌, ◌++◌, refl, ap, ◌∙◌}
use Rattle.std.specs.Prelude.{Contains, if◌then◌else◌, not}
use Rattle.std.proofs.lemmas.List.Elements.{Contains-append_left, Contains-append_right}
use Rattle.cal_model.specs.Actor.{Actor}
use Rattle.cal_check.specs.Actions.{Around}
use Rattle.cal_check.specs.Actors.{Source, actor_given, all_funs, all_valued, behind_variables, funs_broken, given_wrongly, has_heads, header_found, heads_found, inside_found, is_empty, members_found, params_in, params_of}
use Rattle.cal_check.specs.Variables.{Found, Given, Spot}
use Rattle.cal_check.proofs.Lists.{in-none}

-- ---- heads, and what is inside

if_heads : (hs inside : List Found) (whole : Bool) (f : Found) → whole ≡ true → Contains hs f
    → Contains (if not whole then [] else if is_empty hs then inside else hs) f
if_heads hs inside false f w h = absurd (cc)
if_heads [] inside true f w h = absurd (in-none f h)
if_heads (g ∷ hs) inside true f w h = h

if_inside : (hs inside : List Found) (whole : Bool) (f : Found) → whole ≡ true → hs ≡ [] → Contains inside f
    → Contains (if not whole then [] else if is_empty hs then inside else hs) f
if_inside hs inside false f w e h = absurd (cc)
if_inside [] inside true f w e h = h
if_inside (g ∷ hs) inside true f w e h = absurd (cc)

if_none : (hs inside : List Found) (whole : Bool) → hs ≡ [] → inside ≡ []
    → (if not whole then [] else if is_empty hs then inside else hs) ≡ []
if_none hs inside false e i = refl
if_none [] inside true e i = i
if_none (g ∷ hs) inside true e i = absurd (cc)

pub heads_break : (s : Source) (around : Around) (actor : Actor) (whole : Bool) (f : Found) → whole ≡ true
    → Contains (heads_found s around.names) f → Contains (members_found s around actor whole) f
heads_break s around actor whole f w h = if_heads (heads_found s around.names) (inside_found s around actor) whole f w h

pub inside_break : (s : Source) (around : Around) (actor : Actor) (whole : Bool) (f : Found) → whole ≡ true → heads_found s around.names ≡ []
    → Contains (inside_found s around actor) f → Contains (members_found s around actor whole) f
inside_break s around actor whole f w e h = if_inside (heads_found s around.names) (inside_found s around actor) whole f w e h

pub members_none : (s : Source) (around : Around) (actor : Actor) (whole : Bool) → heads_found s around.names ≡ [] → inside_found s around actor ≡ []
    → members_found s around actor whole ≡ []
members_none s around actor whole e i = if_none (heads_found s around.names) (inside_found s around actor) whole e i

pub heads_are_fine : (s : Source) (around : Around) → heads_found s around.names ≡ [] → has_heads s around ≡ true
heads_are_fine s around e = ap is_empty e

pub bodies_break : (s : Source) (around : Around) (actor : Actor) (f : Found) → Contains (funs_broken (all_funs s) around.names) f
    → Contains (inside_found s around actor) f
bodies_break s around actor f h = Contains-append_left (funs_broken (all_funs s) around.names) _ f h

-- ---- all behind the variables

if_header : (hs members : List Found) (f : Found) → hs ≡ [] → Contains members f → Contains (hs ++ (if is_empty hs then members else [])) f
if_header [] members f e h = h
if_header (g ∷ hs) members f e h = absurd (cc)

if_header_none : (hs members : List Found) → hs ≡ [] → members ≡ [] → hs ++ (if is_empty hs then members else []) ≡ []
if_header_none [] members e m = m
if_header_none (g ∷ hs) members e m = absurd (cc)

pub given_breaks : (s : Source) (gs : List Given) (owner : Spot) (around : Around) (f : Found)
    → Contains (given_wrongly gs [] (params_in s.file (params_of s.actor))) f → Contains (behind_variables s gs owner around) f
given_breaks s gs owner around f h = Contains-append_left (given_wrongly gs [] (params_in s.file (params_of s.actor))) _ f h

pub header_breaks : (s : Source) (gs : List Given) (owner : Spot) (around : Around) (f : Found) → Contains (header_found s gs owner) f
    → Contains (behind_variables s gs owner around) f
header_breaks s gs owner around f h =
    Contains-append_right (given_wrongly gs [] (params_in s.file (params_of s.actor))) _ f (Contains-append_left (header_found s gs owner) _ f h)

pub members_break : (s : Source) (gs : List Given) (owner : Spot) (around : Around) (f : Found) → header_found s gs owner ≡ []
    → Contains (members_found s around (actor_given s gs owner) (all_valued s gs owner).whole) f → Contains (behind_variables s gs owner around) f
members_break s gs owner around f e h =
    Contains-append_right (given_wrongly gs [] (params_in s.file (params_of s.actor))) _ f
    (if_header (header_found s gs owner) (members_found s around (actor_given s gs owner) (all_valued s gs owner).whole) f e h)

pub behind_none : (s : Source) (gs : List Given) (owner : Spot) (around : Around) → given_wrongly gs [] (params_in s.file (params_of s.actor)) ≡ []
    → header_found s gs owner ≡ [] → members_found s around (actor_given s gs owner) (all_valued s gs owner).whole ≡ []
    → behind_variables s gs owner around ≡ []
behind_none s gs owner around g h m =
    ap (λ fs. fs ++ (header_found s gs owner ++ (if is_empty (header_found s gs owner) then members_found s around (actor_given s gs owner) (all_valued s gs owner).whole else []))) g
    ∙ if_header_none (header_found s gs owner) (members_found s around (actor_given s gs owner) (all_valued s gs owner).whole) h m
