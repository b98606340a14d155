-- What an action of a sound actor takes and gives, by the patterns and outputs of its code.
use Rattle.std.proofs.Common.{◌≡◌, ℕ, ◌<◌, ◌≤◌, List, [], ◌∷◌, map, length, slice_index_or, sym, ap, subst, ◌∙◌, arith}
use Rattle.std.specs.Prelude.{None, Some, option_map, slice_get}
use Rattle.std.proofs.lemmas.Option.{slice_get-map, slice_get-get_or}
use Rattle.cal_model.specs.declared.bound.Bound.{Bound}
use Rattle.cal_model.specs.declared.bound.BoundAction.{BoundAction}
use Rattle.cal_model.specs.declared.bound.BoundPattern.{BoundPattern}
use Rattle.cal_model.specs.declared.bound.BoundOutput.{BoundOutput}
use Rattle.cal_model.specs.Actor.{Actor, Pattern, Output}
use Rattle.cal_model.specs.Kinding.{Names}
use Rattle.cal_model.specs.Rates.{need, give, taken_on, given_on}
use Rattle.cal_model.specs.Sound.{Each, IsAction, IsPattern, IsOutput, AreRepeated, repeat_in, repeat_out, IsSound, max_rate}
use Rattle.cal_model.specs.View.{actor_of, action_view, pattern_view, output_view}

each-at : {A : Type 0} (P : A → Type 0) (xs : List A) (k : ℕ) (x : A) → Each P xs → slice_get xs k ≡ Some x → P x
each-at P [] k x h e = absurd (grind arith)
each-at P (y ∷ ys) ℕ.zero x h e = let same : y ≡ x = cc in subst P same h.0
each-at P (y ∷ ys) (ℕ.suc k) x h e = each-at P ys k x h.1 e

patterns-repeated : (actor : Actor) (qs : List Pattern) → Each (IsPattern actor) qs → AreRepeated repeat_in qs
patterns-repeated actor [] h = tt
patterns-repeated actor (q ∷ qs) h = (h.0.repeat, patterns-repeated actor qs h.1)

outputs-repeated : (actor : Actor) (names : Names) (os : List Output) → Each (IsOutput actor names) os → AreRepeated repeat_out os
outputs-repeated actor names [] h = tt
outputs-repeated actor names (o ∷ os) h = (h.0.repeat, outputs-repeated actor names os h.1)

module _ (b : Bound) (a n : ℕ) (act : BoundAction) (same : n ≡ a) (there : a < length b.actions.items) (is : act ≡ slice_index_or b.actions.items n act) where
  at-place : slice_get (map action_view b.actions.items) a ≡ Some (action_view act)
  at-place =
      let found : slice_get b.actions.items a ≡ Some (slice_index_or b.actions.items a act) = slice_get-get_or b.actions.items a act there in
      let is_act : slice_index_or b.actions.items a act ≡ act = ap (λ k. slice_index_or b.actions.items k act) (sym same) ∙ sym is in
      slice_get-map action_view b.actions.items a ∙ ap (option_map action_view) (found ∙ ap (λ x. Some x) is_act)

  pub need-is : (port : ℕ) (qs : List BoundPattern) → qs ≡ act.patterns.items → need (actor_of b) a port ≡ taken_on port (map pattern_view qs)
  need-is port qs e = ap (λ o. elim o [ None ↦ 0 | Some x ↦ taken_on port x.patterns ]) at-place ∙ ap (λ l. taken_on port (map pattern_view l)) (sym e)

  pub give-is : (port : ℕ) (os : List BoundOutput) → os ≡ act.outputs.items → give (actor_of b) a port ≡ given_on port (map output_view os)
  give-is port os e = ap (λ o. elim o [ None ↦ 0 | Some x ↦ given_on port x.outputs ]) at-place ∙ ap (λ l. given_on port (map output_view l)) (sym e)

  pub needs-few : (port : ℕ) (qs : List BoundPattern) → IsSound (actor_of b) → qs ≡ act.patterns.items → taken_on port (map pattern_view qs) ≤ max_rate
  needs-few port qs sound e = subst (λ k. k ≤ max_rate) (need-is port qs e) (sound.takes a port)

  pub gives-few : (port : ℕ) (os : List BoundOutput) → IsSound (actor_of b) → os ≡ act.outputs.items → given_on port (map output_view os) ≤ max_rate
  gives-few port os sound e = subst (λ k. k ≤ max_rate) (give-is port os e) (sound.gives a port)

  pub repeated-in : (qs : List BoundPattern) → IsSound (actor_of b) → qs ≡ act.patterns.items → AreRepeated repeat_in (map pattern_view qs)
  repeated-in qs sound e =
      subst (λ l. AreRepeated repeat_in (map pattern_view l)) (sym e)
      (patterns-repeated (actor_of b) (action_view act).patterns (each-at (IsAction (actor_of b)) (map action_view b.actions.items) a (action_view act) sound.actions at-place).patterns)

  pub repeated-out : (os : List BoundOutput) → IsSound (actor_of b) → os ≡ act.outputs.items → AreRepeated repeat_out (map output_view os)
  repeated-out os sound e =
      subst (λ l. AreRepeated repeat_out (map output_view l)) (sym e)
      (outputs-repeated (actor_of b) _ (action_view act).outputs (each-at (IsAction (actor_of b)) (map action_view b.actions.items) a (action_view act) sound.actions at-place).outputs)
