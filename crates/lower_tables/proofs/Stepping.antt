-- The steps of an actor lead exactly where its schedule says.
use Rattle.std.proofs.Common.{◌≡◌, ◌≢◌, ℕ, zero, suc, ◌+◌, ◌<◌, ◌≤◌, ◌⊎◌, inl, inr, Bool, true, false, List, [], ◌∷◌, map, length, All, Contains, refl, sym, ap, subst, ◌∙◌, arith, ⊎_elim}
use Rattle.std.specs.Prelude.{◌&&◌, ◌||◌, ◌==◌, if◌then◌else◌, ◌↔◌, Option, None, Some, slice_get, slice_index_or}
use Rattle.std.proofs.lemmas.Bool.{eqb-true, eq-eqb, cases_lt}
use Rattle.std.proofs.lemmas.List.{get_or_default}
use Rattle.std.proofs.lemmas.List.Elements.{Contains-append_left, Contains-append_right, Contains-append_cases}
use Rattle.std.proofs.lemmas.Option.{slice_get_within}
use Rattle.schedule_fsm.specs.Automaton.{Automaton, target}
use Rattle.schedule_fsm.specs.declared.fsm.Step.{Step}
use Rattle.schedule_fsm.specs.Leads.{Leads, StepLeads, IsFree, HasTwoTargets}
use Rattle.cal_model.specs.Actor.{Action, Actor, Move}
use Rattle.cal_model.specs.Eligible.{fresh, has_initialize, is_empty, leads, next, states_of}
use Rattle.cal_model.specs.Eligible as eligibility
use Rattle.cal_model.specs.Sound.{Each, IsMove, IsTagged, LeadToOne}
use Rattle.lower_tables.specs.Steps.{all_steps, fixed_from, fixed_steps, fixed_target, state_total, step_if, step_of}
use Rattle.lower_tables.specs.Tables.{IsSchedule}

-- ---- members of lists

pub member_cases : {A : Type 0} (x y : A) (xs : List A) → Contains (x ∷ xs) y → (x ≡ y) ⊎ Contains xs y
member_cases x y xs h = go h.0 h.1 h.2
  where
    go : (k : ℕ) → k < length (x ∷ xs) → slice_index_or (x ∷ xs) k y ≡ y → (x ≡ y) ⊎ Contains xs y
    go zero p e = inl e
    go (suc k) p e = inr (k, omega arith, e)

member_here : {A : Type 0} (x y : A) (xs : List A) → x ≡ y → Contains (x ∷ xs) y
member_here x y xs e = (0, omega arith, e)

member_behind : {A : Type 0} (x y : A) (xs : List A) → Contains xs y → Contains (x ∷ xs) y
member_behind x y xs h = (suc h.0, (let p = h.1 in omega arith), h.2)

no_member : {A : Type 0} (y : A) → Contains [] y → ⊥
no_member y h = let p = h.1 in omega arith

each_member : {A : Type 0} (P : A → Type 0) (xs : List A) (y : A) → Each P xs → Contains xs y → P y
each_member P [] y e h = absurd (no_member y h)
each_member P (x ∷ xs) y e h = ⊎_elim (λ (same : x ≡ y). subst P same e.0) (λ (behind : Contains xs y). each_member P xs y e.1 behind) (member_cases x y xs h)

-- what holds of each member holds of all
all_members : {A : Type 0} (P : A → Type 0) (xs : List A) → ((y : A) → Contains xs y → P y) → All P xs
all_members P xs f k d h = f (slice_index_or xs k d) (k, h, get_or_default xs k (slice_index_or xs k d) d h)

-- ---- fixed steps

-- a step is that of an action from a state of the first n
pub record IsFixed (first : ℕ) (stateless : Bool) (acts : List Action) (n : ℕ) (x : Step) : Type 0 where
  pub from : x.from < n
  pub act : Action
  pub there : slice_get acts x.action ≡ Some act
  pub to : fixed_target first stateless x.from act ≡ Some x.to

-- .. from state s, of actions of which the first is number k
record IsFrom (first : ℕ) (stateless : Bool) (s k : ℕ) (acts : List Action) (x : Step) : Type 0 where
  from : x.from ≡ s
  at : ℕ
  action : x.action ≡ k + at
  act : Action
  there : slice_get acts at ≡ Some act
  to : fixed_target first stateless s act ≡ Some x.to

step_there : (s k : ℕ) (o : Option ℕ) (x : Step) → Contains (step_if s k o) x → (x.from ≡ s) × (x.action ≡ k) × (o ≡ Some x.to)
step_there s k None x h = absurd (no_member x h)
step_there s k (Some to) x h =
    ⊎_elim
    (λ (same : record { from = s; action = k; to = to } ≡ x).
    (sym (ap (λ y. y.from) same), sym (ap (λ y. y.action) same), ap (λ y. Some y.to) same))
    (λ (behind : Contains [] x). absurd (no_member x behind))
    (member_cases (record { from = s; action = k; to = to }) x [] h)

from_there : (first : ℕ) (stateless : Bool) (s k : ℕ) (acts : List Action) (x : Step) → Contains (fixed_from first stateless s k acts) x → IsFrom first stateless s k acts x
from_there first stateless s k [] x h = absurd (no_member x h)
from_there first stateless s k (act ∷ acts) x h =
    ⊎_elim
    (λ (here : Contains (step_if s k (fixed_target first stateless s act)) x).
    let is = step_there s k (fixed_target first stateless s act) x here in
    record { from = is.0; at = 0; action = (let e = is.1 in omega arith); act = act; there = refl; to = is.2 })
    (λ (later : Contains (fixed_from first stateless s (suc k) acts) x).
    let is = from_there first stateless s (suc k) acts x later in
    record { from = is.from; at = suc is.at; action = (let e = is.action in omega arith); act = is.act; there = is.there; to = is.to })
    (Contains-append_cases (step_if s k (fixed_target first stateless s act)) (fixed_from first stateless s (suc k) acts) x h)

fixed_there : (first : ℕ) (stateless : Bool) (acts : List Action) (n : ℕ) (x : Step) → Contains (fixed_steps first stateless acts n) x → IsFixed first stateless acts n x
fixed_there first stateless acts zero x h = absurd (no_member x h)
fixed_there first stateless acts (suc n) x h =
    ⊎_elim
    (λ (before : Contains (fixed_steps first stateless acts n) x).
    let is = fixed_there first stateless acts n x before in
    record { from = (let p = is.from in omega arith); act = is.act; there = is.there; to = is.to })
    (λ (here : Contains (fixed_from first stateless n 0 acts) x).
    let is = from_there first stateless n 0 acts x here in
    record {
      from = (let p = is.from in omega arith);
      act = is.act;
      there = subst (λ j. slice_get acts j ≡ Some is.act) (let e = is.action in omega arith) is.there;
      to = subst (λ s. fixed_target first stateless s is.act ≡ Some x.to) (sym is.from) is.to;
    })
    (Contains-append_cases (fixed_steps first stateless acts n) (fixed_from first stateless n 0 acts) x h)

-- .. and each such step is there
there_step : (s k : ℕ) (o : Option ℕ) (to : ℕ) → o ≡ Some to → Contains (step_if s k o) (record { from = s; action = k; to = to })
there_step s k None to h = absurd (cc)
there_step s k (Some end) to h = let e : end ≡ to = cc in member_here _ _ [] (ap (λ t. record { from = s; action = k; to = t }) e)

there_from : (first : ℕ) (stateless : Bool) (s k at j to : ℕ) (acts : List Action) (act : Action) → j ≡ k + at → slice_get acts at ≡ Some act → fixed_target first stateless s act ≡ Some to
    → StepLeads (fixed_from first stateless s k acts) s j to
there_from first stateless s k at j to [] act p h e = absurd (grind arith)
there_from first stateless s k zero j to (one ∷ acts) act p h e =
    let same : one ≡ act = cc in
    let number : k ≡ j = omega arith in
    Contains-append_left (step_if s k (fixed_target first stateless s one)) (fixed_from first stateless s (suc k) acts) (record { from = s; action = j; to = to })
    (subst (λ i. StepLeads (step_if s k (fixed_target first stateless s one)) s i to) number
    (there_step s k (fixed_target first stateless s one) to (ap (fixed_target first stateless s) same ∙ e)))
there_from first stateless s k (suc at) j to (one ∷ acts) act p h e =
    Contains-append_right (step_if s k (fixed_target first stateless s one)) (fixed_from first stateless s (suc k) acts) (record { from = s; action = j; to = to })
    (there_from first stateless s (suc k) at j to acts act (omega arith) h e)

there_fixed : (first : ℕ) (stateless : Bool) (acts : List Action) (n s a to : ℕ) (act : Action) → s < n → slice_get acts a ≡ Some act → fixed_target first stateless s act ≡ Some to
    → StepLeads (fixed_steps first stateless acts n) s a to
there_fixed first stateless acts zero s a to act p h e = absurd (omega arith)
there_fixed first stateless acts (suc n) s a to act p h e =
    ⊎_elim
    (λ (less : s < n).
    Contains-append_left (fixed_steps first stateless acts n) (fixed_from first stateless n 0 acts) (record { from = s; action = a; to = to })
    (there_fixed first stateless acts n s a to act less h e))
    (λ (more : n ≤ s).
    let same : s ≡ n = omega arith in
    Contains-append_right (fixed_steps first stateless acts n) (fixed_from first stateless n 0 acts) (record { from = s; action = a; to = to })
    (subst (λ m. StepLeads (fixed_from first stateless m 0 acts) s a to) same
    (there_from first stateless s 0 a a to acts act (omega arith) h e)))
    (cases_lt s n)

-- ---- moves

step_moves : (ms : List Move) (x : Step) → Contains (map step_of ms) x → (m : Move) × Contains ms m × (step_of m ≡ x)
step_moves [] x h = absurd (no_member x h)
step_moves (n ∷ ms) x h =
    ⊎_elim
    (λ (same : step_of n ≡ x). (n, member_here n n ms refl, same))
    (λ (behind : Contains (map step_of ms) x). let m = step_moves ms x behind in (m.0, member_behind n m.0 ms m.1, m.2))
    (member_cases (step_of n) x (map step_of ms) h)

two_true : (a b : Bool) → (a && b) ≡ true → (a ≡ true) × (b ≡ true)
two_true true b h = (refl, h)
two_true false b h = absurd (cc)

-- a target is that of a move
target_there : (ms : List Move) (s a to : ℕ) → eligibility.target ms s a ≡ Some to → StepLeads (map step_of ms) s a to
target_there [] s a to h = absurd (cc)
target_there (n ∷ ms) s a to h = by (λ k. target_there ms s a to k) (n.from == s && n.action == a) refl h
  where
    by : (eligibility.target ms s a ≡ Some to → StepLeads (map step_of ms) s a to) → (b : Bool) → (n.from == s && n.action == a) ≡ b → (if b then Some n.to else eligibility.target ms s a) ≡ Some to
        → StepLeads (map step_of (n ∷ ms)) s a to
    by later true e k =
        let both = two_true (n.from == s) (n.action == a) e in
        let f : n.from ≡ s = eqb-true n.from s both.0 in
        let g : n.action ≡ a = eqb-true n.action a both.1 in
        let t : n.to ≡ to = cc in
        member_here (step_of n) _ (map step_of ms) (rw (sym f, sym g, sym t) refl)
    by later false e k = member_behind (step_of n) _ (map step_of ms) (later k)

-- a move is what leads from its state by its action, if one action leads from one state to one state
target_is : (ms : List Move) (m : Move) → LeadToOne ms → Contains ms m → eligibility.target ms m.from m.action ≡ Some m.to
target_is [] m one h = absurd (no_member m h)
target_is (n ∷ ms) m one h = by (λ o i. target_is ms m o i) (n.from == m.from && n.action == m.action) refl
  where
    later : n.from ≡ m.from → n.action ≡ m.action → n.to ≡ m.to
    later f g = one n m (member_here n n ms refl) h f g

    others : LeadToOne ms
    others p q i j = one p q (member_behind n p ms i) (member_behind n q ms j)

    by : (LeadToOne ms → Contains ms m → eligibility.target ms m.from m.action ≡ Some m.to)
        → (b : Bool) → (n.from == m.from && n.action == m.action) ≡ b → (if b then Some n.to else eligibility.target ms m.from m.action) ≡ Some m.to
    by rest true e = let both = two_true (n.from == m.from) (n.action == m.action) e in ap (λ t. Some t) (later (eqb-true n.from m.from both.0) (eqb-true n.action m.action both.1))
    by rest false e =
        ⊎_elim
        (λ (same : n ≡ m).
        let f : (n.from == m.from) ≡ true = eq-eqb n.from m.from (ap (λ k. k.from) same) in
        let g : (n.action == m.action) ≡ true = eq-eqb n.action m.action (ap (λ k. k.action) same) in
        let both : (n.from == m.from && n.action == m.action) ≡ true = ap (λ b. b && (n.action == m.action)) f ∙ g in
        absurd (cc))
        (λ (behind : Contains ms m). rest others behind)
        (member_cases n m ms h)

-- ---- where actions lead

-- what is fixed leads so, whatever the moves are
fixed_then : (f i t u : Bool) (s to : ℕ) (o : Option ℕ) → (if f then (if i then Some 0 else None) else if i then None else if t || u then Some s else None) ≡ Some to
    → (if f then (if i then Some 0 else None) else if i then None else if t then Some s else if u then Some s else o) ≡ Some to
fixed_then true i t u s to o h = h
fixed_then false true t u s to o h = h
fixed_then false false true u s to o h = h
fixed_then false false false true s to o h = h
fixed_then false false false false s to o h = absurd (cc)

then_fixed : (f i t u : Bool) (s to : ℕ) (o : Option ℕ) → (if f then (if i then Some 0 else None) else if i then None else if t then Some s else if u then Some s else o) ≡ Some to
    → ((if f then (if i then Some 0 else None) else if i then None else if t || u then Some s else None) ≡ Some to) ⊎ (o ≡ Some to)
then_fixed true i t u s to o h = inl h
then_fixed false true t u s to o h = inl h
then_fixed false false true u s to o h = inl h
then_fixed false false false true s to o h = inl h
then_fixed false false false false s to o h = inr h

fixed_end : (f i t u : Bool) (s to : ℕ) → (if f then (if i then Some 0 else None) else if i then None else if t || u then Some s else None) ≡ Some to → (to ≡ 0) ⊎ (to ≡ s)
fixed_end true true t u s to h = inl (cc)
fixed_end true false t u s to h = absurd (cc)
fixed_end false true t u s to h = absurd (cc)
fixed_end false false true u s to h = inr (cc)
fixed_end false false false true s to h = inr (cc)
fixed_end false false false false s to h = absurd (cc)

moved_then : (f i t u : Bool) (s to : ℕ) (o : Option ℕ) → f ≡ false → i ≡ false → t ≡ false → u ≡ false → o ≡ Some to
    → (if f then (if i then Some 0 else None) else if i then None else if t then Some s else if u then Some s else o) ≡ Some to
moved_then true i t u s to o p q r v h = absurd (cc)
moved_then false true t u s to o p q r v h = absurd (cc)
moved_then false false true u s to o p q r v h = absurd (cc)
moved_then false false false true s to o p q r v h = absurd (cc)
moved_then false false false false s to o p q r v h = h

not_empty : {A : Type 0} (xs : List A) → xs ≢ [] → is_empty xs ≡ false
not_empty [] h = absurd (h refl)
not_empty (x ∷ xs) h = refl

some_there : {A : Type 0} (xs : List A) (k : ℕ) → k < length xs → is_empty xs ≡ false
some_there [] k h = absurd (omega arith)
some_there (x ∷ xs) k h = refl

not_last : (s n : ℕ) → s < n → (s == n) ≡ false
not_last s n h = by (s == n) refl
  where
    by : (b : Bool) → (s == n) ≡ b → b ≡ false
    by true e = let same = eqb-true s n e in absurd (omega arith)
    by false e = refl

next_of : (actor : Actor) (s a : ℕ) (act : Action) → slice_get actor.actions a ≡ Some act → next actor s a ≡ leads actor s a act
next_of actor s a act is = ap (λ o. elim o [ None ↦ None | Some x ↦ leads actor s a x ]) is

pub record IsTaggedAt (actor : Actor) (a : ℕ) : Type 0 where
  pub act : Action
  pub there : slice_get actor.actions a ≡ Some act
  pub later : act.initialize ≡ false
  pub tag : act.tag ≢ []

pub tagged_at : (actor : Actor) (a : ℕ) → IsTagged (slice_get actor.actions a) → IsTaggedAt actor a
tagged_at actor a h = by (slice_get actor.actions a) refl h
  where
    by : (o : Option Action) → slice_get actor.actions a ≡ o → IsTagged o → IsTaggedAt actor a
    by None e t = absurd t
    by (Some act) e t = record { act = act; there = e; later = t.0; tag = t.1 }

module _ (actor : Actor) (moves : Each (IsMove actor) actor.moves) (one : LeadToOne actor.moves) where
  moved_next : (m : Move) → Contains actor.moves m → next actor m.from m.action ≡ Some m.to
  moved_next m h =
      let is = each_member (IsMove actor) actor.moves m moves h in
      let t = tagged_at actor m.action is.tagged in
      let low : m.from < states_of actor = let p = is.from in omega arith in
      next_of actor m.from m.action t.act t.there
      ∙ moved_then (m.from == fresh actor) t.act.initialize (is_empty t.act.tag) (is_empty actor.states) m.from m.to (eligibility.target actor.moves m.from m.action)
      (not_last m.from (fresh actor) low) t.later (not_empty t.act.tag t.tag) (some_there actor.states m.from is.from) (target_is actor.moves m one h)

  fixed_next : (n : ℕ) (x : Step) → IsFixed (fresh actor) (is_empty actor.states) actor.actions n x → next actor x.from x.action ≡ Some x.to
  fixed_next n x h =
      next_of actor x.from x.action h.act h.there
      ∙ fixed_then (x.from == fresh actor) h.act.initialize (is_empty h.act.tag) (is_empty actor.states) x.from x.to (eligibility.target actor.moves x.from x.action) h.to

  -- a step leads where the actor's schedule says ..
  pub step_next : (n : ℕ) (x : Step) → Contains (all_steps actor n) x → next actor x.from x.action ≡ Some x.to
  step_next n x h =
      ⊎_elim
      (λ (fixed : Contains (fixed_steps (fresh actor) (is_empty actor.states) actor.actions n) x).
      fixed_next n x (fixed_there (fresh actor) (is_empty actor.states) actor.actions n x fixed))
      (λ (moved : Contains (map step_of actor.moves) x).
      let m = step_moves actor.moves x moved in
      subst (λ y. next actor y.from y.action ≡ Some y.to) m.2 (moved_next m.0 m.1))
      (Contains-append_cases (fixed_steps (fresh actor) (is_empty actor.states) actor.actions n) (map step_of actor.moves) x h)

  -- .. and where it leads there is a step
  pub next_step : (n s a to : ℕ) → s < n → next actor s a ≡ Some to → StepLeads (all_steps actor n) s a to
  next_step n s a to low h = by (slice_get actor.actions a) refl h
    where
      by : (o : Option Action) → slice_get actor.actions a ≡ o → elim o [ None ↦ None | Some x ↦ leads actor s a x ] ≡ Some to → StepLeads (all_steps actor n) s a to
      by None e k = absurd (cc)
      by (Some act) e k =
          ⊎_elim
          (λ (fixed : fixed_target (fresh actor) (is_empty actor.states) s act ≡ Some to).
          Contains-append_left (fixed_steps (fresh actor) (is_empty actor.states) actor.actions n) (map step_of actor.moves) (record { from = s; action = a; to = to })
          (there_fixed (fresh actor) (is_empty actor.states) actor.actions n s a to act low e fixed))
          (λ (moved : eligibility.target actor.moves s a ≡ Some to).
          Contains-append_right (fixed_steps (fresh actor) (is_empty actor.states) actor.actions n) (map step_of actor.moves) (record { from = s; action = a; to = to })
          (target_there actor.moves s a to moved))
          (then_fixed (s == fresh actor) act.initialize (is_empty act.tag) (is_empty actor.states) s to (eligibility.target actor.moves s a) k)

  -- the numbers of a step are in range
  step_in_range : (n : ℕ) → fresh actor ≤ n → (x : Step) → Contains (all_steps actor n) x → (x.from < n) × (x.to < n) × (x.action < length actor.actions)
  step_in_range n wide x h =
      ⊎_elim
      (λ (fixed : Contains (fixed_steps (fresh actor) (is_empty actor.states) actor.actions n) x).
      let is = fixed_there (fresh actor) (is_empty actor.states) actor.actions n x fixed in
      let low = is.from in
      let most : 1 ≤ fresh actor = omega arith in
      let end : x.to < n =
      ⊎_elim (λ (e : x.to ≡ 0). let r : x.to < n = omega arith in r) (λ (e : x.to ≡ x.from). let r : x.to < n = omega arith in r)
      (fixed_end (x.from == fresh actor) is.act.initialize (is_empty is.act.tag) (is_empty actor.states) x.from x.to is.to) in
      (low, end, slice_get_within actor.actions x.action is.act is.there))
      (λ (moved : Contains (map step_of actor.moves) x).
      let m = step_moves actor.moves x moved in
      let is = each_member (IsMove actor) actor.moves m.0 moves m.1 in
      let f : m.0.from ≡ x.from = ap (λ y. y.from) m.2 in
      let t : m.0.to ≡ x.to = ap (λ y. y.to) m.2 in
      let g : m.0.action ≡ x.action = ap (λ y. y.action) m.2 in
      let tag = tagged_at actor m.0.action is.tagged in
      let p = is.from in let q = is.to in
      let inside = slice_get_within actor.actions m.0.action tag.act tag.there in
      (omega arith, omega arith, omega arith))
      (Contains-append_cases (fixed_steps (fresh actor) (is_empty actor.states) actor.actions n) (map step_of actor.moves) x h)

  pub states_in_range : (n : ℕ) → fresh actor ≤ n → All (λ step. (step.from < n) × (step.to < n)) (all_steps actor n)
  states_in_range n wide =
      all_members (λ step. (step.from < n) × (step.to < n)) (all_steps actor n) (λ x h. let r = step_in_range n wide x h in (r.0, r.1))

  pub actions_in_range : (n m : ℕ) → fresh actor ≤ n → m ≡ length actor.actions → All (λ step. step.action < m) (all_steps actor n)
  actions_in_range n m wide e =
      all_members (λ step. step.action < m) (all_steps actor n) (λ x h. let r = (step_in_range n wide x h).2 in omega arith)

  pub no_two_targets : (n s a : ℕ) → HasTwoTargets (all_steps actor n) s a → ⊥
  no_two_targets n s a two =
      let p = step_next n (record { from = s; action = a; to = two.0 }) two.2 in
      let q = step_next n (record { from = s; action = a; to = two.1 }) two.3 in
      two.4 (cc)

option_same : (o p : Option ℕ) → ((to : ℕ) → o ≡ Some to → p ≡ Some to) → ((to : ℕ) → p ≡ Some to → o ≡ Some to) → o ≡ p
option_same None None f g = refl
option_same None (Some x) f g = g x refl
option_same (Some x) p f g = sym (f x refl)

pub none_free : (free : List Bool) (a : ℕ) → All (λ b. b ≡ false) free → IsFree free a → ⊥
none_free free a all h =
    ⊎_elim (λ (low : a < length free). let e = all a false low in absurd (cc)) (λ (past : length free ≤ a). absurd (let e = past_false free a past in cc)) (cases_lt a (length free))
  where
    past_false : (free : List Bool) (a : ℕ) → length free ≤ a → slice_index_or free a false ≡ false
    past_false [] a h = refl
    past_false (b ∷ free) zero h = absurd (omega arith)
    past_false (b ∷ free) (suc a) h = past_false free a (omega arith)

-- ---- states

total_in : (b : Bool) (n s : ℕ) → (s < n) ⊎ ((b ≡ true) × (s ≡ n)) → s < state_total n b
total_in true n s (inl h) = omega arith
total_in true n s (inr h) = let e = h.1 in omega arith
total_in false n s (inl h) = h
total_in false n s (inr h) = absurd (let e = h.0 in cc)

in_total : (b : Bool) (n s : ℕ) → s < state_total n b → (s < n) ⊎ ((b ≡ true) × (s ≡ n))
in_total true n s h = elim (last s n h) [ inl less ↦ inl less | inr same ↦ inr (refl, same) ]
  where
    last : (s n : ℕ) → s < n + 1 → (s < n) ⊎ (s ≡ n)
    last s n h = ⊎_elim (λ (p : s < n). inl p) (λ (p : n ≤ s). inr (omega arith)) (cases_lt s n)
in_total false n s h = inl h

pub total_wide : (n : ℕ) (b : Bool) → n ≤ state_total n b
total_wide n true = omega arith
total_wide n false = omega arith

module _ (actor : Actor) (moves : Each (IsMove actor) actor.moves) (one : LeadToOne actor.moves) (fsm : Automaton) (free : List Bool) where
  pub schedule_is : (n : ℕ) → n ≡ state_total (fresh actor) (has_initialize actor.actions) → fsm.states ≡ n → fsm.actions ≡ length free → length free ≡ length actor.actions
      → All (λ b. b ≡ false) free
      → ((state action to : ℕ) → state < n → action < length free → (target fsm state action ≡ Some to) ↔ Leads (all_steps actor n) free state action to)
      → IsSchedule actor fsm
  schedule_is n e f g many none led = record {
    states = λ s. ((λ h. in_total (has_initialize actor.actions) (fresh actor) s (low_in s h)), (λ h. in_low s (total_in (has_initialize actor.actions) (fresh actor) s h)));
    actions = g ∙ many;
    leads = λ s a h low. same s a (subst (λ k. s < k) (sym e) (total_in (has_initialize actor.actions) (fresh actor) s h)) (subst (λ k. a < k) (sym many) low);
  }
    where
      low_in : (s : ℕ) → s < fsm.states → s < state_total (fresh actor) (has_initialize actor.actions)
      low_in s h = subst (λ k. s < k) (f ∙ e) h

      in_low : (s : ℕ) → s < state_total (fresh actor) (has_initialize actor.actions) → s < fsm.states
      in_low s h = subst (λ k. s < k) (sym (f ∙ e)) h

      same : (s a : ℕ) → s < n → a < length free → target fsm s a ≡ next actor s a
      same s a in_s in_a =
          option_same (target fsm s a) (next actor s a)
          (λ to h.
          elim ((led s a to in_s in_a).0 h) [
            | inl stays ↦ absurd (none_free free a none stays.0)
            | inr step ↦ step_next actor moves one n (record { from = s; action = a; to = to }) step
          ])
          (λ to h. (led s a to in_s in_a).1 (inr (next_step actor moves one n s a to in_s h)))
