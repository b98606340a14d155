-- The judgement of two actions, as the code comes to it.
use Rattle.std.proofs.Common.{◌≡◌, ℕ, ◌<◌, Bool, true, false, List, [], ◌∷◌, map, length, refl, sym, ap, subst, ◌∙◌}
use Rattle.std.specs.Prelude.{not, ◌&&◌, ◌||◌, Option, None, Some, is_some, if◌then◌else◌, option_map, slice_get, slice_index_or}
use Rattle.std.proofs.lemmas.Option.{slice_get-map, slice_get-get_or}
use Rattle.cal_model.specs.declared.bound.Bound.{Bound}
use Rattle.cal_model.specs.declared.bound.BoundAction.{BoundAction}
use Rattle.cal_model.specs.Actor.{Pattern, Action, Actor}
use Rattle.cal_model.specs.Sound.{Each, IsAction, IsPattern, IsSound}
use Rattle.cal_model.specs.View.{action_view, actor_of}
use Rattle.determinacy_cert.specs.declared.fault.Reason.{Reason}
use Rattle.determinacy_cert.specs.declared.fault.Reason.TheVariants.{C1, C2}
use Rattle.determinacy_cert.specs.Failing.{failed, pair_judged, settled, two_judged}
use Rattle.determinacy_cert.specs.Judging.{HavePorts}

-- ---- an action of the code

each_at : {A : Type 0} (P : A → Type 0) (xs : List A) (k : ℕ) (x : A) → Each P xs → slice_get xs k ≡ Some x → P x
each_at P [] k x h e = absurd (cc)
each_at P (y ∷ ys) ℕ.zero x h e = let same : y ≡ x = cc in subst P same h.0
each_at P (y ∷ ys) (ℕ.suc k) x h e = each_at P ys k x h.1 e

each_has_port : (actor : Actor) (qs : List Pattern) → Each (IsPattern actor) qs → HavePorts actor qs
each_has_port actor [] h = tt
each_has_port actor (q ∷ qs) h = (h.0.port, each_has_port actor qs h.1)

module _ (b : Bound) (a n : ℕ) (act : BoundAction) (same : n ≡ a) (there : a < length b.actions.items) (is : act ≡ slice_index_or b.actions.items n act) where
  pub at_place : slice_get (map action_view b.actions.items) a ≡ Some (action_view act)
  at_place =
      let found : slice_get b.actions.items a ≡ Some (slice_index_or b.actions.items a act) = slice_get-get_or b.actions.items a act there in
      let is_act : slice_index_or b.actions.items a act ≡ act = ap (λ k. slice_index_or b.actions.items k act) (sym same) ∙ sym is in
      slice_get-map action_view b.actions.items a ∙ ap (option_map action_view) (found ∙ ap (λ x. Some x) is_act)

  pub have_ports : IsSound (actor_of b) → HavePorts (actor_of b) (action_view act).patterns
  have_ports sound =
      each_has_port (actor_of b) (action_view act).patterns
      (each_at (IsAction (actor_of b)) (map action_view b.actions.items) a (action_view act) sound.actions at_place).patterns

-- ---- pairs

module _ (actor : Actor) (above : ℕ → ℕ → Bool) (a b : ℕ) (one two : Action) (is : slice_get actor.actions a ≡ Some one) (there : slice_get actor.actions b ≡ Some two) where
  pair_is : pair_judged actor above a b ≡ two_judged actor above a b one two
  pair_is =
      ap (λ o. elim o [ None ↦ None | Some x ↦ elim (slice_get actor.actions b) [ None ↦ None | Some y ↦ two_judged actor above a b x y ] ]) is
      ∙ ap (λ o. elim o [ None ↦ None | Some y ↦ two_judged actor above a b one y ]) there

  none_by : (b u : Bool) → b ≡ true → None ≡ (if b then None else if u then Some C1 else Some C2)
  none_by true u h = refl
  none_by false u h = cc

  c1_by : (b u : Bool) → b ≡ false → u ≡ true → Some C1 ≡ (if b then None else if u then Some C1 else Some C2)
  c1_by true u h k = cc
  c1_by false true h k = refl
  c1_by false false h k = cc

  c2_by : (b u : Bool) → b ≡ false → u ≡ false → Some C2 ≡ (if b then None else if u then Some C1 else Some C2)
  c2_by true u h k = cc
  c2_by false true h k = cc
  c2_by false false h k = refl

  pub is_fine : settled actor above a b one two ≡ true → None ≡ pair_judged actor above a b
  is_fine h = none_by (settled actor above a b one two) (above a b || above b a) h ∙ sym pair_is

  pub is_c1 : settled actor above a b one two ≡ false → (above a b || above b a) ≡ true → Some C1 ≡ pair_judged actor above a b
  is_c1 h k = c1_by (settled actor above a b one two) (above a b || above b a) h k ∙ sym pair_is

  pub is_c2 : settled actor above a b one two ≡ false → (above a b || above b a) ≡ false → Some C2 ≡ pair_judged actor above a b
  is_c2 h k = c2_by (settled actor above a b one two) (above a b || above b a) h k ∙ sym pair_is

-- ---- answers

pub none_then : (o : Option Reason) (b : Bool) → is_some o ≡ not b → b ≡ true → o ≡ None
none_then None b h e = refl
none_then (Some r) true h e = cc
none_then (Some r) false h e = cc

pub pair_off : (e d : Bool) (s a b : ℕ) (o : Option Reason) → e ≡ false → (if e && d then failed s a b o else []) ≡ []
pair_off false d s a b o h = refl
pair_off true d s a b o h = cc
