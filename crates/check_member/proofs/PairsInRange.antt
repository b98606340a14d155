-- Pairs of priorities: they are of actions, and if there are some, a word `priority` stands among the members.
use Rattle.std.proofs.Common.{◌≡◌, ℕ, suc, ◌<◌, ⊎_elim, List, [], ◌∷◌, length, map, get_or, refl, subst, ◌∙◌, arith, Contains, None}
use Rattle.std.proofs.lemmas.List.Elements.{Contains-append_cases, Contains-get_or}
use Rattle.rvc_base.specs.Chain.{ChainLeads, IsAbove}
use Rattle.cal_ast.specs.Tree as tree
use Rattle.cal_ast.specs.Tree.{Tree}
use Rattle.cal_model.specs.Actor.{Actor}
use Rattle.cal_model.specs.Tags.{each_above, pairs_of, stands_for}
use Rattle.cal_check.specs.Schedules.{chains_pairs, first_priority, pairs_in, tags_listed}
use Rattle.cal_model.specs.declared.bound.BoundAction.{BoundAction}
use Rattle.priority_order.specs.Cycle.{IsRing}
use Rattle.priority_order.specs.Closed.{IsInRange}
use Rattle.check_member.specs.Parts.{action_views, actor_with}
use Rattle.cal_check.proofs.Lists.{head-or-rest, in-none}
use Rattle.check_member.proofs.Meant.{actions-count, stands-below}

abbrev AreBelow : ℕ → ℕ × ℕ → Type 0
AreBelow n p = (p.0 < n) × (p.1 < n)

below : (n a : ℕ) (lower : List ℕ) (p : ℕ × ℕ) → ((x : ℕ) → Contains lower x → x < n) → a < n → Contains (map (λ y. (a, y)) lower) p → AreBelow n p
below n a [] p f l h = absurd (in-none p h)
below n a (x ∷ lower) p f l h =
    ⊎_elim (λ (e : (a, x) ≡ p). subst (λ q. AreBelow n q) e (l, f x (0, omega arith, refl)))
    (λ c. below n a lower p (λ y d. f y (suc d.0, omega (arith, d.1), d.2)) l c)
    (head-or-rest p (a, x) (map (λ y. (a, y)) lower) h)

above : (n : ℕ) (higher lower : List ℕ) (p : ℕ × ℕ) → ((x : ℕ) → Contains higher x → x < n) → ((x : ℕ) → Contains lower x → x < n) → Contains (each_above higher lower) p → AreBelow n p
above n [] lower p f g h = absurd (in-none p h)
above n (a ∷ higher) lower p f g h =
    ⊎_elim (λ c. below n a lower p g (f a (0, omega arith, refl)) c)
    (λ c. above n higher lower p (λ y d. f y (suc d.0, omega (arith, d.1), d.2)) g c)
    (Contains-append_cases (map (λ b. (a, b)) lower) (each_above higher lower) p h)

meant : (actor : Actor) (tag : List (List ℕ)) (x : ℕ) → Contains (stands_for tag actor) x → x < length actor.actions
meant actor tag x h = let l = stands-below 0 x tag actor.actions h in omega (arith, l)

of-chain : (actor : Actor) (tags : List (List (List ℕ))) (p : ℕ × ℕ) → Contains (pairs_of actor tags) p → AreBelow (length actor.actions) p
of-chain actor [] p h = absurd (in-none p h)
of-chain actor (tag ∷ []) p h = absurd (in-none p h)
of-chain actor (tag ∷ next ∷ tags) p h =
    ⊎_elim (λ c. above (length actor.actions) (stands_for tag actor) (stands_for next actor) p (meant actor tag) (meant actor next) c)
    (λ c. of-chain actor (next ∷ tags) p c)
    (Contains-append_cases (each_above (stands_for tag actor) (stands_for next actor)) (pairs_of actor (next ∷ tags)) p h)

of-chains : (chains : Tree) (actor : Actor) (p : ℕ × ℕ) → Contains (chains_pairs chains actor) p → AreBelow (length actor.actions) p
of-chains (tree.cons chain chains) actor p h =
    ⊎_elim (λ c. of-chain actor (tags_listed chain) p c) (λ c. of-chains chains actor p c)
    (Contains-append_cases (pairs_of actor (tags_listed chain)) (chains_pairs chains actor) p h)
of-chains other actor p h = absurd (in-none p h)

of-members : (ms : Tree) (actor : Actor) (p : ℕ × ℕ) → Contains (pairs_in ms actor) p → AreBelow (length actor.actions) p
of-members (tree.cons (tree.priority chains at) ms) actor p h =
    ⊎_elim (λ c. of-chains chains actor p c) (λ c. of-members ms actor p c)
    (Contains-append_cases (chains_pairs chains actor) (pairs_in ms actor) p h)
of-members (tree.cons m ms) actor p h = of-members ms actor p h
of-members other actor p h = absurd (in-none p h)

pub in-range : (ms : Tree) (actions : List BoundAction) (pairs : List (ℕ × ℕ)) → pairs ≡ pairs_in ms (actor_with (action_views actions) []) → IsInRange pairs (length actions)
in-range ms actions pairs e k d h =
    let inside : Contains pairs (get_or pairs k d) = Contains-get_or pairs k d h in
    subst (λ n. AreBelow n (get_or pairs k d)) (actions-count actions)
    (of-members ms (actor_with (action_views actions) []) (get_or pairs k d) (subst (λ ps. Contains ps (get_or pairs k d)) e inside))

-- ---- the first word `priority`

pub no-pairs : (ms : Tree) (actor : Actor) → first_priority ms ≡ None → pairs_in ms actor ≡ []
no-pairs (tree.cons (tree.priority chains at) ms) actor h = absurd (cc)
no-pairs (tree.cons m ms) actor h = no-pairs ms actor h
no-pairs other actor h = refl

leads-none : (a b : ℕ) (through : List ℕ) → ChainLeads [] a through b → ⊥
leads-none a b [] h = in-none (a, b) h
leads-none a b (x ∷ through) h = in-none (a, x) h.0

pub none-above : (pairs : List (ℕ × ℕ)) (a : ℕ) → pairs ≡ [] → IsAbove pairs a a → ⊥
none-above pairs a e h = let g = subst (λ ps. IsAbove ps a a) e h in leads-none a a g.0 g.1

pub no-cycle : (ms : Tree) (actor : Actor) (pairs : List (ℕ × ℕ)) (actions : List ℕ) → pairs ≡ pairs_in ms actor → first_priority ms ≡ None → IsRing pairs actions → ⊥
no-cycle ms actor pairs [] e n h = h
no-cycle ms actor pairs (a ∷ actions) e n h = none-above pairs a (e ∙ no-pairs ms actor n) (actions, h)
