-- What the automaton and the order of a sound actor ask for, and what they are then.
use Rattle.std.proofs.Common.{◌≡◌, ◌≢◌, ℕ, zero, suc, ◌<◌, Bool, true, false, List, [], ◌∷◌, map, length, All, refl, sym, ap, subst, ◌∙◌, arith}
use Rattle.std.specs.Prelude.{◌↔◌, IsTrue, not, ◌&&◌, ◌||◌, ◌==◌, Option, None, Some, is_some, slice_get, slice_index_or}
use Rattle.std.proofs.lemmas.Bool.{eqb-true, eq-eqb}
use Rattle.std.proofs.lemmas.List.{length-map}
use Rattle.rvc_base.specs.Chain.{IsAbove}
use Rattle.rvc_base.specs.Line.{IsLine}
use Rattle.schedule_fsm.specs.Automaton.{Automaton, target}
use Rattle.schedule_fsm.specs.declared.fsm.Step.{Step}
use Rattle.schedule_fsm.specs.Leads.{Leads, IsFree, HasTwoTargets}
use Rattle.priority_order.specs.Ranking.{Ranking, is_above}
use Rattle.priority_order.specs.Closed.{IsInRange}
use Rattle.priority_order.specs.Cycle.{IsRing}
use Rattle.cal_model.specs.declared.bound.BoundMove.{BoundMove}
use Rattle.cal_model.specs.Actor.{Action, Actor, Move}
use Rattle.cal_model.specs.Eligible.{is_empty, states_of}
use Rattle.cal_model.specs.Selection.{Above}
use Rattle.cal_model.specs.Sound.{Each, IsMove, IsTagged, LeadToOne, AreTagged}
use Rattle.cal_model.specs.View.{move_view}
use Rattle.determinacy_cert.specs.Judging.{IsAutomaton, IsPriority, step_of, is_free}
use Rattle.determinacy_cert.proofs.Automata.{step_as, step_moves, free_at, leads_then, then_leads}
use Rattle.determinacy_cert.proofs.NoFailures.{in_list}

-- ---- lists

all_none : {A : Type 0} (P : A → Type 0) → All P []
all_none P k d h = absurd (omega arith)

all_more : {A : Type 0} (P : A → Type 0) (x : A) (xs : List A) → P x → All P xs → All P (x ∷ xs)
all_more P x xs p h zero d i = p
all_more P x xs p h (suc k) d i = h k d (omega arith)

there : {A : Type 0} (xs : List A) (k : ℕ) → k < length xs → (x : A) × (slice_get xs k ≡ Some x)
there [] k h = absurd (omega arith)
there (x ∷ xs) zero h = (x, refl)
there (x ∷ xs) (suc k) h = there xs k (omega arith)

some_is : {A : Type 0} (o : Option A) → is_some o ≡ true → (x : A) × (o ≡ Some x)
some_is None h = absurd (cc)
some_is (Some x) h = (x, refl)

is_there : {A : Type 0} (o : Option A) (x : A) → o ≡ Some x → is_some o ≡ true
is_there None x h = cc
is_there (Some y) x h = refl

not_empty : {A : Type 0} (xs : List A) → xs ≢ [] → is_empty xs ≡ false
not_empty [] h = absurd (h refl)
not_empty (x ∷ xs) h = refl

above_zero : (n : ℕ) → 0 < n → (n == 0) ≡ false
above_zero n h = go (n == 0) refl
  where
    go : (b : Bool) → (n == 0) ≡ b → b ≡ false
    go true e = let none = eqb-true n 0 e in absurd (omega arith)
    go false e = refl

pub empty_is : {A B : Type 0} (f : A → B) (xs : List A) (n : ℕ) → n ≡ length xs → (n == 0) ≡ is_empty (map f xs)
empty_is f [] n h = eq-eqb n 0 h
empty_is f (x ∷ xs) n h = above_zero n (omega arith)

some_there : {A : Type 0} (xs : List A) (k : ℕ) → k < length xs → is_empty xs ≡ false
some_there [] k h = absurd (omega arith)
some_there (x ∷ xs) k h = refl

-- ---- moves as steps

each_step : (actor : Actor) (P : Step → Type 0) → ((m : Move) → IsMove actor m → P (step_as m)) → (moves : List BoundMove) → Each (IsMove actor) (map move_view moves) → All P (map step_of moves)
each_step actor P f [] h = all_none P
each_step actor P f (m ∷ moves) h = all_more P (step_of m) (map step_of moves) (f (move_view m) h.0) (each_step actor P f moves h.1)

record IsAction (actor : Actor) (a : ℕ) : Type 0 where
  pub act : Action
  pub is : slice_get actor.actions a ≡ Some act
  pub inside : a < length actor.actions
  pub initialize : act.initialize ≡ false
  pub tag : act.tag ≢ []

tagged_action : (actor : Actor) (a : ℕ) → IsTagged (slice_get actor.actions a) → IsAction actor a
tagged_action actor a h = go (slice_get actor.actions a) refl h
  where
    go : (o : Option Action) → slice_get actor.actions a ≡ o → IsTagged o → IsAction actor a
    go None e t = absurd t
    go (Some act) e t = record { act = act; is = e; inside = in_list actor.actions a act e; initialize = t.0; tag = t.1 }

module _ (actor : Actor) (moves : List BoundMove) (h : Each (IsMove actor) (map move_view moves)) where
  pub states_in_range : (n : ℕ) → n ≡ states_of actor → All (λ step. (step.from < n) × (step.to < n)) (map step_of moves)
  states_in_range n e =
      each_step actor (λ step. (step.from < n) × (step.to < n))
      (λ m is. let p = is.from in let q = is.to in (omega arith, omega arith)) moves h

  pub actions_in_range : (free : List Bool) → length free ≡ length actor.actions → All (λ step. step.action < length free) (map step_of moves)
  actions_in_range free e =
      each_step actor (λ step. step.action < length free)
      (λ m is. let t = (tagged_action actor m.action is.tagged).inside in omega arith) moves h

  not_free : (i t u : Bool) → t ≡ false → u ≡ false → (not i && (t || u)) ≡ true → ⊥
  not_free true t u p q r = cc
  not_free false true u p q r = cc
  not_free false false true p q r = cc
  not_free false false false p q r = cc

  pub free_take_no_step : (free : List Bool) → free ≡ map (is_free (is_empty actor.states)) actor.actions → All (λ step. ¬ IsFree free step.action) (map step_of moves)
  free_take_no_step free e =
      each_step actor (λ step. ¬ IsFree free step.action)
      (λ m is f.
      let t = tagged_action actor m.action is.tagged in
      let one : is_free (is_empty actor.states) t.act ≡ true =
      sym (free_at (is_empty actor.states) actor.actions m.action t.act t.is) ∙ ap (λ xs. slice_index_or xs m.action false) (sym e) ∙ f in
      not_free t.act.initialize (is_empty t.act.tag) (is_empty actor.states) (not_empty t.act.tag t.tag) (some_there actor.states m.from is.from) one) moves h

pub no_two_targets : (actor : Actor) (s a : ℕ) → LeadToOne actor.moves → HasTwoTargets (map step_as actor.moves) s a → ⊥
no_two_targets actor s a one two =
    let m = step_moves actor.moves s a two.0 two.2 in
    let n = step_moves actor.moves s a two.1 two.3 in
    two.4 (sym m.to ∙ one m.move n.move m.member n.member (m.from ∙ sym n.from) (m.action ∙ sym n.action) ∙ n.to)

module _ (actor : Actor) (moves : Each (IsMove actor) actor.moves) (fsm : Automaton) (steps : List Step) (free : List Bool) where
  pub automaton_is : steps ≡ map step_as actor.moves → free ≡ map (is_free (is_empty actor.states)) actor.actions
      → fsm.states ≡ states_of actor → fsm.actions ≡ length free
      → ((state action to : ℕ) → state < states_of actor → action < length free → (target fsm state action ≡ Some to) ↔ Leads steps free state action to)
      → IsAutomaton actor fsm
  automaton_is p q e f leads =
      let many : length free ≡ length actor.actions = ap length q ∙ length-map actor.actions (is_free (is_empty actor.states)) in
      record {
        states = e;
        actions = f ∙ many;
        leads = λ s a in_s in_a.
            let act = there actor.actions a in_a in (
              (λ h.
                  let to = some_is (target fsm s a) h in
                  let led : Leads steps free s a to.0 = (leads s a to.0 in_s (omega arith)).0 to.1 in
                  leads_then actor moves s a act.0 act.1 free to.0 in_s q (subst (λ xs. Leads xs free s a to.0) p led)),
              (λ h.
                  let led = then_leads actor moves s a act.0 act.1 free in_s q h in
                  is_there (target fsm s a) led.to ((leads s a led.to in_s (omega arith)).1 (subst (λ xs. Leads xs free s a led.to) (sym p) led.leads))),
            );
      }

-- ---- priorities

pub pairs_in_range : (actor : Actor) (ps : List (ℕ × ℕ)) (n : ℕ) → n ≡ length actor.actions → Each (AreTagged actor) ps → IsInRange ps n
pairs_in_range actor [] n e h = all_none (λ p. (p.0 < n) × (p.1 < n))
pairs_in_range actor (p ∷ ps) n e h =
    let one = (tagged_action actor p.0 h.0.0).inside in
    let two = (tagged_action actor p.1 h.0.1).inside in
    all_more (λ q. (q.0 < n) × (q.1 < n)) p ps (omega arith, omega arith) (pairs_in_range actor ps n e h.1)

pub no_ring : (pairs : List (ℕ × ℕ)) (actions : List ℕ) → ((a : ℕ) → ¬ IsAbove pairs a a) → IsRing pairs actions → ⊥
no_ring pairs [] h r = r
no_ring pairs (a ∷ others) h r = h a (others, r)

pub priority_is : (actor : Actor) (pairs : List (ℕ × ℕ)) (n : ℕ) (order : Ranking) → pairs ≡ actor.pairs → n ≡ length actor.actions → order.count ≡ n
    → ((a b : ℕ) → a < n → b < n → IsTrue (is_above order a b) ↔ IsAbove pairs a b) → IsLine n (IsAbove pairs) order.line → IsPriority actor order
priority_is actor pairs n order p e c above line = record {
  count = c ∙ e;
  above = λ a b in_a in_b. subst (λ ps. IsTrue (is_above order a b) ↔ IsAbove ps a b) p (above a b (omega arith) (omega arith));
  line = subst (λ m. IsLine m (Above actor) order.line) e (subst (λ ps. IsLine n (IsAbove ps) order.line) p line);
}
