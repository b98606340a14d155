-- Actions of a `Bound` at a place, and what is added to a draft for them.
use Rattle.std.proofs.Common.{◌≡◌, ℕ, zero, suc, ◌+◌, ◌<◌, ◌≤◌, ◌⊎◌, inl, inr, List, [], ◌∷◌, ◌++◌, map, length, refl, sym, ap, subst, ◌∙◌, Option, None, Some, arith, ⊎_elim}
use Rattle.std.specs.Prelude.{slice_get, slice_index_or}
use Rattle.std.specs.List.{range_with_len}
use Rattle.std.proofs.lemmas.Bool.{cases_lt}
use Rattle.std.proofs.lemmas.List.{append-nil, length-append, length-map}
use Rattle.cal_model.specs.declared.bound.Bound.{Bound}
use Rattle.cal_model.specs.declared.bound.BoundAction.{BoundAction}
use Rattle.cal_model.specs.declared.bound.BoundOutput.{BoundOutput}
use Rattle.cal_model.specs.Actor.{Action, Actor}
use Rattle.cal_model.specs.View.{action_view, actor_of, output_view, port_view}
use Rattle.lowered_actor.specs.declared.parts.ActionCode.{ActionCode}
use Rattle.lower_base.specs.declared.draft.Draft.{Draft}
use Rattle.lower_base.specs.Callees.{Function}
use Rattle.lower_stmt.specs.Procedures.{Routines}
use Rattle.action_lower.specs.FiringWords.{AddsFiring}
use Rattle.action_lower.specs.GuardWords.{AddsGuards}
use Rattle.action_lower.specs.FiringCode.{first_on}
use Rattle.action_lower.proofs.ActionAt.{at-place}
use Rattle.lower_actor.specs.Coded.{AddsBodies, AreCodedActions, AreSends, IsCodedAction, IsMore}
use Rattle.lower_actor.specs.Faults.{AreWhole, left_out_at}
use Rattle.lower_actor.proofs.Extending.{coded-more, firing-added, guards-added}
use Rattle.lower_actor.proofs.Rowed.{firing-bodies, guards-bodies}
use Rattle.lower_actor.specs.Drafted.{IsServed}
use Rattle.cal_model.specs.Sound.{IsSound}

pub there : {A : Type 0} (xs : List A) (k : ℕ) → k < length xs → (x : A) × (slice_get xs k ≡ Some x)
there [] k h = absurd (omega arith)
there (x ∷ xs) zero h = (x, refl)
there (x ∷ xs) (suc k) h = there xs k (omega arith)

module _ (b : Bound) (a : ℕ) (low : a < length b.actions.items) where
  pub action-there : (act : Action) × (slice_get (actor_of b).actions a ≡ Some act)
  action-there = there (actor_of b).actions a (let e = length-map b.actions.items action_view in omega (arith, low, e))

  pub guards-grown : (clears : Option ℕ) (fs : List Function) (es : List ℕ) (old new : Draft) → AddsGuards clears fs (actor_of b) a es old new → IsMore old new
  guards-grown clears fs es old new added = guards-added clears fs (actor_of b) a action-there.0 es old new action-there.1 added

  pub firing-grown : (rs : Routines) (entry : ℕ) (firsts : List ℕ) (old new : Draft) → AddsFiring rs (actor_of b) a entry firsts old new → IsMore old new
  firing-grown rs entry firsts old new added = firing-added rs (actor_of b) a action-there.0 entry firsts old new action-there.1 added

  pub guards-alone : (clears : Option ℕ) (rs : Routines) (es : List ℕ) (old new : Draft) → IsServed (actor_of b) rs old → AddsGuards clears rs.functions (actor_of b) a es old new → AddsBodies es old new
  guards-alone clears rs es old new served added = guards-bodies clears (actor_of b) a action-there.0 rs es old new served action-there.1 added

  pub firing-alone : (rs : Routines) (entry : ℕ) (firsts : List ℕ) (old new : Draft) → IsSound (actor_of b) → IsServed (actor_of b) rs old → AddsFiring rs (actor_of b) a entry firsts old new → AddsBodies (entry ∷ []) old new
  firing-alone rs entry firsts old new sound served added = firing-bodies (actor_of b) a action-there.0 rs entry firsts old new sound served action-there.1 added

-- where the outputs of an action are sent from
pub sends-are : (b : Bound) (a n : ℕ) (act : BoundAction) (same : n ≡ a) (there : a < length b.actions.items) (is : act ≡ slice_index_or b.actions.items n act)
    (outs : List BoundOutput) (firsts cells sends : List ℕ) (ports : ℕ) → outs ≡ act.outputs.items → cells ≡ firsts → ports ≡ length b.outs.items
    → sends ≡ map (first_on (map output_view outs) cells) (range_with_len 0 ports) → AreSends (actor_of b) a firsts sends
sends-are b a n act same low is outs firsts cells sends ports o f p e other at =
    let found = at-place b a n act same low is in
    let one : action_view act ≡ other = cc in
    let count : ports ≡ length (map port_view b.outs.items) = p ∙ sym (length-map b.outs.items port_view) in
    e ∙ ap (λ os. map (first_on (map output_view os) cells) (range_with_len 0 ports)) o
    ∙ ap (λ cs. map (first_on (map output_view act.outputs.items) cs) (range_with_len 0 ports)) f
    ∙ ap (λ k. map (first_on (map output_view act.outputs.items) firsts) (range_with_len 0 k)) count
    ∙ ap (λ x. map (first_on x.outputs firsts) (range_with_len 0 (length (map port_view b.outs.items)))) one

-- ---- one action more

pub last-or-before : {A : Type 0} (xs : List A) (y : A) (k : ℕ) (x : A) → slice_get (xs ++ y ∷ []) k ≡ Some x → (slice_get xs k ≡ Some x) ⊎ ((k ≡ length xs) × (y ≡ x))
last-or-before [] y zero x e = inr (refl, cc)
last-or-before [] y (suc k) x e = absurd (cc)
last-or-before (z ∷ xs) y zero x e = inl e
last-or-before (z ∷ xs) y (suc k) x e =
    ⊎_elim (λ h. inl h) (λ (h : (k ≡ length xs) × (y ≡ x)). inr ((let s = h.0 in omega (arith, s)), h.1)) (last-or-before xs y k x e)

pub more-coded : (actor : Actor) (n : ℕ) (actions now : List ActionCode) (coded : ActionCode) (old new : Draft) → AreCodedActions actor n actions old → IsMore old new → IsCodedAction actor n coded new
    → now ≡ actions ++ coded ∷ [] → AreCodedActions actor (n + 1) now new
more-coded actor n actions now coded old new are grown one is = record {
  count = let e = ap length is in let f = length-append actions (coded ∷ []) in let g = are.count in omega (arith, e, f, g);
  each = λ a x e.
      ⊎_elim
      (λ (h : slice_get actions a ≡ Some x). coded-more actor a x old new grown (are.each a x h))
      (λ (h : (a ≡ length actions) × (coded ≡ x)).
      subst (λ k. IsCodedAction actor k x new) (sym are.count ∙ sym h.0) (subst (λ y. IsCodedAction actor n y new) h.1 one))
      (last-or-before actions coded a x (ap (λ xs. slice_get xs a) (sym is) ∙ e));
}

pub whole-more : (rs : Routines) (b : Bound) (n : ℕ) → AreWhole rs b n → left_out_at rs b n ≡ None → AreWhole rs b (n + 1)
whole-more rs b n whole here a low =
    ⊎_elim
    (λ (less : a < n). whole a less)
    (λ (past : n ≤ a). let same : n ≡ a = omega (arith, low, past) in subst (λ k. left_out_at rs b k ≡ None) same here)
    (cases_lt a n)

pub no-actions : (actor : Actor) (draft : Draft) → AreCodedActions actor 0 [] draft
no-actions actor draft = record { count = refl; each = λ a x e. absurd (cc) }

pub no-more : (draft : Draft) → IsMore draft draft
no-more draft = record { code = []; is = sym (append-nil draft.instrs.items); routines = refl; cells = omega arith }
