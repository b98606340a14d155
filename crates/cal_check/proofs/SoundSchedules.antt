-- Schedules and priorities that break no rule are sound.
use Rattle.std.proofs.Common.{◌≡◌, ◌≢◌, ℕ, suc, ◌+◌, ◌<◌, Bool, true, false, not, ◌&&◌, ⊎_elim, List, [], ◌∷◌, ◌++◌, map, length, refl, sym, ap, subst, ◌∙◌, arith, Contains, Option, Some, None, append_assoc}
use Rattle.std.specs.Prelude.{if◌then◌else◌, slice_get}
use Rattle.std.proofs.lemmas.Bool.{cases_eq}
use Rattle.std.proofs.lemmas.List.{append-nil}
use Rattle.std.proofs.lemmas.List.Elements.{Contains-append_cases}
use Rattle.rvc_base.specs.Rules.{ambiguous_transition}
use Rattle.cal_ast.specs.Tree as tree
use Rattle.cal_ast.specs.Tree.{Tree}
use Rattle.cal_model.specs.Actor.{Action, Actor, Move}
use Rattle.cal_model.specs.Eligible.{is_empty}
use Rattle.cal_model.specs.Sound.{AreDistinct, AreTagged, Each, IsMove, IsTagged, LeadToOne}
use Rattle.cal_model.specs.Tags.{Transition, each_above, is_prefix_tag, may_be_meant, moves_by, moves_by_tags, moves_of, number_of_name, pairs_of, stands_for, stands_from}
use Rattle.cal_check.specs.Formed.{AreMoves, IsScheduleFormed}
use Rattle.cal_check.specs.Laws.{IsSchedule}
use Rattle.cal_check.specs.Schedules.{chains_pairs, moves_broken, moves_in, moves_listed, pairs_in, schedule_broken, some_conflict, states_of, tags_broken, tags_listed, text_of, transition_of, transitions_of}
use Rattle.cal_check.proofs.Departs.{none-elsewhere}
use Rattle.cal_check.proofs.Fine.{none-of, unless-true}
use Rattle.cal_check.proofs.Lists.{each-append, each-of, head-or-rest, in-none}
use Rattle.cal_check.proofs.SeenStates.{BothSeen, all-seen, distinct-seen, number-below}

-- ---- the actions that tags stand for are tagged

not-true : (b : Bool) → not b ≡ true → b ≡ false
not-true true h = absurd (cc)
not-true false h = refl

both : (b c : Bool) → (b && c) ≡ true → (b ≡ true) × (c ≡ true)
both true c h = (refl, h)
both false c h = absurd (cc)

not-empty : (tag : List (List ℕ)) → is_empty tag ≡ false → tag ≢ []
not-empty [] h = absurd (cc)
not-empty (x ∷ tag) h = λ e. absurd (cc)

meant-tagged : (act : Action) (b : Bool) → (may_be_meant act && b) ≡ true → (act.initialize ≡ false) × (act.tag ≢ [])
meant-tagged act b h =
    let p = both (not act.initialize) (not (is_empty act.tag)) (both (may_be_meant act) b h).0 in
    (not-true act.initialize p.0, not-empty act.tag (not-true (is_empty act.tag) p.1))

abbrev TaggedAt : ℕ → List Action → ℕ → Type 0
TaggedAt j acts a = (i : ℕ) × (a ≡ j + i) × IsTagged (slice_get acts i)

stands-tagged : (j a : ℕ) (tag : List (List ℕ)) (acts : List Action) → Contains (stands_from j tag acts) a → TaggedAt j acts a
stands-tagged j a tag [] h = absurd (in-none a h)
stands-tagged j a tag (act ∷ acts) h = go (may_be_meant act && is_prefix_tag tag act.tag) refl h (stands-tagged (suc j) a tag acts)
  where
    later : TaggedAt (suc j) acts a → TaggedAt j (act ∷ acts) a
    later (i, e, t) = (suc i, omega (arith, e), t)

    go : (b : Bool) → (may_be_meant act && is_prefix_tag tag act.tag) ≡ b → Contains (if b then j ∷ stands_from (suc j) tag acts else stands_from (suc j) tag acts) a
        → (Contains (stands_from (suc j) tag acts) a → TaggedAt (suc j) acts a) → TaggedAt j (act ∷ acts) a
    go true e c ih =
        ⊎_elim (λ (s : j ≡ a). (0, omega (arith, s), meant-tagged act (is_prefix_tag tag act.tag) e)) (λ d. later (ih d)) (head-or-rest a j (stands_from (suc j) tag acts) c)
    go false e c ih = later (ih c)

pub meant-are-tagged : (actor : Actor) (tag : List (List ℕ)) (a : ℕ) → Contains (stands_for tag actor) a → IsTagged (slice_get actor.actions a)
meant-are-tagged actor tag a h =
    let t = stands-tagged 0 a tag actor.actions h in
    let same : t.0 ≡ a = omega (arith, t.1) in
    subst (λ i. IsTagged (slice_get actor.actions i)) same t.2

-- ---- priorities

below : (actor : Actor) (a : ℕ) (lower : List ℕ) → IsTagged (slice_get actor.actions a) → Each (λ b. IsTagged (slice_get actor.actions b)) lower → Each (AreTagged actor) (map (λ b. (a, b)) lower)
below actor a [] t h = tt
below actor a (b ∷ lower) t h = ((t, h.0), below actor a lower t h.1)

above : (actor : Actor) (higher lower : List ℕ) → Each (λ b. IsTagged (slice_get actor.actions b)) higher → Each (λ b. IsTagged (slice_get actor.actions b)) lower → Each (AreTagged actor) (each_above higher lower)
above actor [] lower g h = tt
above actor (a ∷ higher) lower g h =
    each-append (AreTagged actor) (map (λ b. (a, b)) lower) (each_above higher lower) (below actor a lower g.0 h) (above actor higher lower g.1 h)

all-tagged : (actor : Actor) (tag : List (List ℕ)) → Each (λ b. IsTagged (slice_get actor.actions b)) (stands_for tag actor)
all-tagged actor tag = each-of (λ b. IsTagged (slice_get actor.actions b)) (stands_for tag actor) (λ a c. meant-are-tagged actor tag a c)

chain-tagged : (actor : Actor) (tags : List (List (List ℕ))) → Each (AreTagged actor) (pairs_of actor tags)
chain-tagged actor [] = tt
chain-tagged actor (tag ∷ []) = tt
chain-tagged actor (tag ∷ next ∷ tags) =
    each-append (AreTagged actor) (each_above (stands_for tag actor) (stands_for next actor)) (pairs_of actor (next ∷ tags))
    (above actor (stands_for tag actor) (stands_for next actor) (all-tagged actor tag) (all-tagged actor next)) (chain-tagged actor (next ∷ tags))

chains-tagged : (chains : Tree) (actor : Actor) → Each (AreTagged actor) (chains_pairs chains actor)
chains-tagged (tree.cons chain chains) actor =
    each-append (AreTagged actor) (pairs_of actor (tags_listed chain)) (chains_pairs chains actor) (chain-tagged actor (tags_listed chain)) (chains-tagged chains actor)
chains-tagged other actor = tt

pub pairs-tagged : (members : Tree) (actor : Actor) → Each (AreTagged actor) (pairs_in members actor)
pairs-tagged (tree.cons (tree.priority chains at) ms) actor =
    each-append (AreTagged actor) (chains_pairs chains actor) (pairs_in ms actor) (chains-tagged chains actor) (pairs-tagged ms actor)
pairs-tagged (tree.cons m ms) actor = pairs-tagged ms actor
pairs-tagged other actor = tt

-- ---- moves

by-one : (actor : Actor) (from to : ℕ) (acts : List ℕ) → from < length actor.states → to < length actor.states → Each (λ b. IsTagged (slice_get actor.actions b)) acts → Each (IsMove actor) (moves_by from acts to)
by-one actor from to [] f t h = tt
by-one actor from to (a ∷ acts) f t h = (record { from = f; to = t; tagged = h.0 }, by-one actor from to acts f t h.1)

by-tags : (actor : Actor) (from : ℕ) (tags : List (List (List ℕ))) (to : ℕ) → from < length actor.states → to < length actor.states → Each (IsMove actor) (moves_by_tags actor from tags to)
by-tags actor from [] to f t = tt
by-tags actor from (tag ∷ tags) to f t =
    each-append (IsMove actor) (moves_by from (stands_for tag actor) to) (moves_by_tags actor from tags to) (by-one actor from to (stands_for tag actor) f t (all-tagged actor tag)) (by-tags actor from tags to f t)

listed-moves : (actor : Actor) (ts : List Transition) → Each (BothSeen actor.states) ts → Each (IsMove actor) (moves_listed actor ts)
listed-moves actor [] h = tt
listed-moves actor (t ∷ ts) h =
    each-append (IsMove actor) (moves_of actor t) (moves_listed actor ts)
    (by-tags actor (number_of_name t.from actor.states) t.tags (number_of_name t.to actor.states) (number-below t.from actor.states h.0.0) (number-below t.to actor.states h.0.1))
    (listed-moves actor ts h.1)

pub moves-are : (schedule : Option Tree) (actor : Actor) → actor.states ≡ states_of schedule → Each (IsMove actor) (moves_in schedule actor)
moves-are (Some (tree.schedule start moves at)) actor e =
    listed-moves actor (transitions_of moves) (subst (λ names. Each (BothSeen names) (transitions_of moves)) (sym e) (all-seen (text_of start ∷ []) (transitions_of moves)))
moves-are other actor e = tt

-- ---- from one state an action leads to one state

-- all moves of a transition lead to one state
lead-by : (from to : ℕ) (acts : List ℕ) (m : Move) → Contains (moves_by from acts to) m → m.to ≡ to
lead-by from to [] m h = absurd (in-none m h)
lead-by from to (a ∷ acts) m h =
    ⊎_elim (λ (e : record { from = from; action = a; to = to } ≡ m). sym (ap (λ x. x.to) e)) (λ c. lead-by from to acts m c)
    (head-or-rest m (record { from = from; action = a; to = to }) (moves_by from acts to) h)

lead-there : (actor : Actor) (from : ℕ) (tags : List (List (List ℕ))) (to : ℕ) (m : Move) → Contains (moves_by_tags actor from tags to) m → m.to ≡ to
lead-there actor from [] to m h = absurd (in-none m h)
lead-there actor from (tag ∷ tags) to m h =
    ⊎_elim (λ c. lead-by from to (stands_for tag actor) m c) (λ c. lead-there actor from tags to m c)
    (Contains-append_cases (moves_by from (stands_for tag actor) to) (moves_by_tags actor from tags to) m h)

one-more : (actor : Actor) (t : Transition) (before : List Move) → LeadToOne before → some_conflict (moves_of actor t) before ≡ false → LeadToOne (before ++ moves_of actor t)
one-more actor t before one none m n c d e f =
    let own = moves_of actor t in
    let to = number_of_name t.to actor.states in
    let from = number_of_name t.from actor.states in
    ⊎_elim
    (λ (p : Contains before m). ⊎_elim (λ (q : Contains before n). one m n p q e f)
    (λ (q : Contains own n). apart n m (sym e) (sym f) q p) (Contains-append_cases before own n d))
    (λ (p : Contains own m). ⊎_elim (λ (q : Contains before n). sym (apart m n e f p q))
    (λ (q : Contains own n). lead-there actor from t.tags to m p ∙ sym (lead-there actor from t.tags to n q)) (Contains-append_cases before own n d))
    (Contains-append_cases before own m c)
  where
    apart : (x y : Move) → x.from ≡ y.from → x.action ≡ y.action → Contains (moves_of actor t) x → Contains before y → y.to ≡ x.to
    apart x y g h p q =
        ⊎_elim (λ s. s) (λ differs. absurd (none-elsewhere (moves_of actor t) before x y none p q (g, h, λ s. differs (sym s)))) (cases_eq y.to x.to)

not-some : (b : Bool) → not b ≡ true → b ≡ false
not-some true h = absurd (cc)
not-some false h = refl

lead-to-one : (ms : Tree) (before : List Move) (actor : Actor) → AreMoves ms → LeadToOne before → moves_broken ms before actor ≡ [] → LeadToOne (before ++ moves_listed actor (transitions_of ms))
lead-to-one tree.nil before actor formed one h = subst LeadToOne (sym (append-nil before)) one
lead-to-one (tree.cons (tree.move from tags to at) ms) before actor formed one h =
    let t : Transition = transition_of (tree.move from tags to at) in
    let own = moves_of actor t in
    let p = none-of (tags_broken tags actor.actions) _ h in
    let q = none-of _ (moves_broken ms (before ++ own) actor) p.1 in
    let none : some_conflict own before ≡ false = not-some (some_conflict own before) (unless-true (not (some_conflict own before)) ambiguous_transition at q.0) in
    subst LeadToOne (append_assoc before own (moves_listed actor (transitions_of ms)))
    (lead-to-one ms (before ++ own) actor formed (one-more actor t before one none) q.1)
lead-to-one other before actor formed one h = absurd (formed)

none-lead : LeadToOne []
none-lead m n c d e f = absurd (in-none m c)

-- ---- schedules

pub schedule-sound : (schedule : Option Tree) (actor : Actor) → IsScheduleFormed schedule → actor.states ≡ states_of schedule → schedule_broken schedule actor ≡ [] → IsSchedule actor (moves_in schedule actor)
schedule-sound None actor formed e h = record { states = subst AreDistinct (sym e) tt; each = tt; one_target = none-lead }
schedule-sound (Some (tree.schedule start moves at)) actor formed e h = record {
  states = subst AreDistinct (sym e) (distinct-seen (text_of start ∷ []) (transitions_of moves) (λ c. in-none (text_of start) c, tt));
  each = moves-are (Some (tree.schedule start moves at)) actor e;
  one_target = lead-to-one moves [] actor formed none-lead h;
}
schedule-sound (Some other) actor formed e h = absurd (formed)
