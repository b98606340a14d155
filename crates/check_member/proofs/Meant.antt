-- The actions that tags stand for: they are actions of the actor, and moves by them are what a transition means.
use Rattle.std.proofs.Common.{◌≡◌, ℕ, suc, ◌+◌, ◌*◌, ◌<◌, Bool, true, false, ◌&&◌, ◌⊎◌, ⊎_elim, List, [], ◌∷◌, ◌++◌, length, get_or, refl, sym, ap, subst, ◌∙◌, arith, Option, Contains, All}
use Rattle.std.specs.Prelude.{if◌then◌else◌}
use Rattle.std.proofs.lemmas.List.{map-append}
use Rattle.std.proofs.lemmas.List.Elements.{Contains-append_cases, Contains-get_or}
use Rattle.schedule_fsm.proofs.Rows.{place_below}
use Rattle.cal_model.specs.Actor.{Action, Move}
use Rattle.cal_model.specs.Tags.{Transition, is_prefix_tag, may_be_meant, moves_by, moves_by_tags, moves_of, number_of_name, stands_from}
use Rattle.cal_model.specs.declared.bound.BoundAction.{BoundAction}
use Rattle.check_member.specs.Parts.{action_views, actor_with}
use Rattle.check_member.specs.Targets.{Tells, meant_by_tags}
use Rattle.cal_check.proofs.Lists.{head-or-rest, in-none}

pub stands-below : (j a : ℕ) (tag : List (List ℕ)) (acts : List Action) → Contains (stands_from j tag acts) a → a < j + length acts
stands-below j a tag [] h = absurd (in-none a h)
stands-below j a tag (act ∷ acts) h = go (may_be_meant act && is_prefix_tag tag act.tag) h (stands-below (suc j) a tag acts)
  where
    later : a < suc j + length acts → a < j + length (act ∷ acts)
    later l = omega (arith, l)

    go : (b : Bool) → Contains (if b then j ∷ stands_from (suc j) tag acts else stands_from (suc j) tag acts) a
        → (Contains (stands_from (suc j) tag acts) a → a < suc j + length acts) → a < j + length (act ∷ acts)
    go true c ih = ⊎_elim (λ (e : j ≡ a). omega (arith, e)) (λ d. later (ih d)) (head-or-rest a j (stands_from (suc j) tag acts) c)
    go false c ih = later (ih c)

meant-below : (tags : List (List (List ℕ))) (acts : List Action) (a : ℕ) → Contains (meant_by_tags tags acts) a → a < length acts
meant-below [] acts a h = absurd (in-none a h)
meant-below (tag ∷ tags) acts a h =
    ⊎_elim (λ c. let below = stands-below 0 a tag acts c in omega (arith, below)) (λ c. meant-below tags acts a c)
    (Contains-append_cases (stands_from 0 tag acts) (meant_by_tags tags acts) a h)

pub all-meant-below : (tags : List (List (List ℕ))) (acts : List Action) → All (λ a. a < length acts) (meant_by_tags tags acts)
all-meant-below tags acts k d h = meant-below tags acts (get_or (meant_by_tags tags acts) k d) (Contains-get_or (meant_by_tags tags acts) k d h)

pub in-table : (states columns from : ℕ) (table : List (Option ℕ)) (before : List Move) (acts : List ℕ) → Tells states columns table before → from < states → All (λ a. a < columns) acts
    → All (λ a. from * columns + a < length table) acts
in-table states columns from table before acts tells f a k d h =
    let below = place_below columns states from (get_or acts k d) f (a k d h) in omega (arith, below, tells.size)

pub by-meant : (acts : List Action) (states : List (List ℕ)) (from : ℕ) (tags : List (List (List ℕ))) (to : ℕ)
    → moves_by_tags (actor_with acts states) from tags to ≡ moves_by from (meant_by_tags tags acts) to
by-meant acts states from [] to = refl
by-meant acts states from (tag ∷ tags) to =
    ap (λ ms. moves_by from (stands_from 0 tag acts) to ++ ms) (by-meant acts states from tags to)
    ∙ sym (map-append (λ a. record { from = from; action = a; to = to }) (stands_from 0 tag acts) (meant_by_tags tags acts))

-- what a transition means, by the numbers of its states and the actions that its tags stand for
pub own-moves : (acts : List Action) (states : List (List ℕ)) (t : Transition) (from to : ℕ) (meant : List ℕ)
    → from ≡ number_of_name t.from states → to ≡ number_of_name t.to states → meant ≡ meant_by_tags t.tags acts
    → moves_by from meant to ≡ moves_of (actor_with acts states) t
own-moves acts states t from to meant e f g =
    ap (λ n. moves_by n meant to) e ∙ ap (λ n. moves_by (number_of_name t.from states) meant n) f
    ∙ ap (λ ms. moves_by (number_of_name t.from states) ms (number_of_name t.to states)) g
    ∙ sym (by-meant acts states (number_of_name t.from states) t.tags (number_of_name t.to states))

pub actions-count : (actions : List BoundAction) → length (action_views actions) ≡ length actions
actions-count [] = refl
actions-count (a ∷ actions) = ap suc (actions-count actions)

pub meant-in : (tags : List (List (List ℕ))) (actions : List BoundAction) (meant : List ℕ) → meant ≡ meant_by_tags tags (action_views actions) → All (λ a. a < length actions) meant
meant-in tags actions meant e k d h =
    let inside : k < length (meant_by_tags tags (action_views actions)) = subst (λ ms. k < length ms) e h in
    let below : get_or meant k d < length (action_views actions) = subst (λ ms. get_or ms k d < length (action_views actions)) (sym e) (all-meant-below tags (action_views actions) k d inside) in
    subst (λ n. get_or meant k d < n) (actions-count actions) below
