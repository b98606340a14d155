-- An action of a `Bound`, as its actor has it, and the code of its guards.
use Rattle.std.proofs.Common.{◌≡◌, ℕ, ◌<◌, ◌≤◌, List, length, slice_index_or, sym, ap, subst, ◌∙◌, Option, None, Some}
use Rattle.std.specs.Prelude.{option_map, slice_get}
use Rattle.std.proofs.lemmas.Option.{slice_get-map, slice_get-get_or}
use Rattle.cal_ast.specs.Tree.{Tree}
use Rattle.cal_model.specs.declared.bound.Bound.{Bound}
use Rattle.cal_model.specs.declared.bound.BoundAction.{BoundAction}
use Rattle.cal_model.specs.Rates.{need, taken_on}
use Rattle.cal_model.specs.Sound.{IsAction, IsSound, max_rate}
use Rattle.cal_model.specs.View.{action_view, actor_of}
use Rattle.cal_model.proofs.KeptByFirings.{action-at}
use Rattle.lower_base.specs.declared.draft.Draft.{Draft}
use Rattle.lower_base.specs.Callees.{Function}
use Rattle.lower_base.specs.Lowered.{Adds}
use Rattle.lower_base.specs.Names.{Name}
use Rattle.action_lower.specs.GuardWords.{AddsGuards, left_out_action, left_out_guards}
use Rattle.action_lower.specs.Guarding.{AreGuards}
use Rattle.action_lower.specs.Seats.{seen_seats}

module _ (b : Bound) (a n : ℕ) (act : BoundAction) (same : n ≡ a) (there : a < length b.actions.items) (is : act ≡ slice_index_or b.actions.items n act) where
  pub at-place : slice_get (actor_of b).actions a ≡ Some (action_view act)
  at-place =
      let found : slice_get b.actions.items a ≡ Some (slice_index_or b.actions.items a act) = slice_get-get_or b.actions.items a act there in
      let is_act : slice_index_or b.actions.items a act ≡ act = ap (λ k. slice_index_or b.actions.items k act) (sym same) ∙ sym is in
      slice_get-map action_view b.actions.items a ∙ ap (option_map action_view) (found ∙ ap (λ x. Some x) is_act)

  pub is-action : IsSound (actor_of b) → IsAction (actor_of b) (action_view act)
  is-action sound = action-at (actor_of b) (actor_of b).actions a (action_view act) sound.actions at-place

  pub few-taken : IsSound (actor_of b) → (port : ℕ) → taken_on port (action_view act).patterns ≤ max_rate
  few-taken sound port =
      let e : need (actor_of b) a port ≡ taken_on port (action_view act).patterns = ap (λ o. elim o [ None ↦ 0 | Some x ↦ taken_on port x.patterns ]) at-place in
      subst (λ k. k ≤ max_rate) e (sound.takes a port)

  module _ (fs : List Function) (ns : List Name) (gs : List Tree) (names : ns ≡ seen_seats (actor_of b) (action_view act)) (guards : gs ≡ (action_view act).guards) where
    pub adds-guards : (clears : Option ℕ) (es : List ℕ) (old new : Draft) → Adds (AreGuards clears fs ns gs es) old new → AddsGuards clears fs (actor_of b) a es old new
    adds-guards clears es old new added other e =
        let one : action_view act ≡ other = let f = at-place in cc in
        subst (λ x. Adds (AreGuards clears fs (seen_seats (actor_of b) x) x.guards es) old new) one
        (subst (λ hs. Adds (AreGuards clears fs (seen_seats (actor_of b) (action_view act)) hs es) old new) guards
        (subst (λ ms. Adds (AreGuards clears fs ms gs es) old new) names added))

    pub left-out : left_out_action fs (actor_of b) a ≡ left_out_guards fs ns gs
    left-out =
        ap (λ o. elim o [ None ↦ None | Some x ↦ left_out_guards fs (seen_seats (actor_of b) x) x.guards ]) at-place
        ∙ ap (λ ms. left_out_guards fs ms (action_view act).guards) (sym names) ∙ ap (left_out_guards fs ns) (sym guards)
