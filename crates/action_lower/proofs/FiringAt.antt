-- The code of a firing of an action of a `Bound`, as its actor has it.
use Rattle.std.proofs.Common.{◌≡◌, ℕ, ◌<◌, ◌≤◌, List, length, slice_index_or, sym, ap, subst, ◌∙◌, None, Some, arith}
use Rattle.std.specs.Prelude.{slice_get}
use Rattle.std.proofs.lemmas.Option.{slice_get-get_or}
use Rattle.cal_model.specs.declared.bound.Bound.{Bound}
use Rattle.cal_model.specs.declared.bound.BoundAction.{BoundAction}
use Rattle.cal_model.specs.Actor.{Actor, Port}
use Rattle.cal_model.specs.Rates.{give, given_on}
use Rattle.cal_model.specs.Sound.{Each, IsAction, IsSound, max_rate, names_of, with_locals, with_patterns}
use Rattle.cal_model.specs.View.{action_view, actor_of}
use Rattle.cal_model.proofs.ActorStates.{first-sized}
use Rattle.lower_base.specs.declared.draft.Draft.{Draft}
use Rattle.lower_base.specs.Lowered.{Adds}
use Rattle.lower_base.specs.Names.{Name}
use Rattle.lower_base.specs.Routining.{LocalsSized}
use Rattle.lower_stmt.specs.Changing.{AreTyped}
use Rattle.lower_stmt.specs.Procedures.{Routines}
use Rattle.lower_stmt.proofs.Scoping.{laid_typed}
use Rattle.action_lower.specs.FiringCode.{IsFiringCode, globals_of}
use Rattle.action_lower.specs.FiringWords.{AddsFired, AddsFiring, left_out_firing, left_out_of}
use Rattle.action_lower.specs.Laws.{FiringsAreFired}
use Rattle.action_lower.specs.Seats.{pattern_seats, seen_seats, state_cells}
use Rattle.action_lower.proofs.ActionAt.{at-place, few-taken, is-action}
use Rattle.action_lower.proofs.FiringRuns.{locals-sized}
use Rattle.action_lower.proofs.Holding.{size-at}
use Rattle.action_lower.proofs.OutputRates.{few-values}
use Rattle.action_lower.proofs.PatternRates.{take-their-own}
use Rattle.action_lower.proofs.StateSeats.{globals-laid, patterns-tokens, tokens-laid}

module _ (b : Bound) (a n : ℕ) (act : BoundAction) (same : n ≡ a) (there : a < length b.actions.items) (is : act ≡ slice_index_or b.actions.items n act) (sound : IsSound (actor_of b)) where
  abbrev actor : Actor
  actor = actor_of b

  is_act : slice_get actor.actions a ≡ Some (action_view act)
  is_act = at-place b a n act same there is

  is_action : IsAction actor (action_view act)
  is_action = is-action b a n act same there is sound

  pub seen_typed : (rs : Routines) → AreTyped (seen_seats actor (action_view act))
  seen_typed rs =
      let top : ℕ = state_cells actor in
      laid_typed rs (globals_of actor) (λ port. List.[]) top top top (pattern_seats actor.ins (action_view act).patterns)
      (tokens-laid (globals_of actor) top top top (pattern_seats actor.ins (action_view act).patterns)
      (patterns-tokens actor (action_view act).patterns (action_view act).patterns (λ port. size-at actor.ins port (first-sized actor.ins actor.outs sound.port_sizes)) (few-taken b a n act same there is sound) is_action.patterns (take-their-own (action_view act).patterns is_action.ports_in))
      (globals-laid actor.vars top top top sound.vars (omega arith) (omega arith)))

  pub act_sized : LocalsSized (action_view act).locals
  act_sized = locals-sized (action_view act).locals (with_patterns actor (action_view act).patterns (names_of actor)) is_action.locals

  pub act_few : Each (λ o. length o.values.items ≤ max_rate) act.outputs.items
  act_few =
      few-values actor (with_locals (action_view act).locals (with_patterns actor (action_view act).patterns (names_of actor))) act.outputs.items
      (λ port.
      let e : give actor a port ≡ given_on port (action_view act).outputs = ap (λ o. elim o [ None ↦ 0 | Some x ↦ given_on port x.outputs ]) is_act in
      subst (λ k. k ≤ max_rate) e (sound.gives a port))
      is_action.ports_out is_action.outputs

  pub adds_firing : (rs : Routines) (names : List Name) (ports : List Port) (entry : ℕ) (firsts : List ℕ) (old new : Draft) → names ≡ seen_seats actor (action_view act) → ports ≡ actor.outs → entry ≡ length old.instrs.items
      → Adds (IsFiringCode rs names ports (action_view act) firsts) old new → AddsFiring rs actor a entry firsts old new
  adds_firing rs names ports entry firsts old new seen outs at added = (
    at,
    λ other e.
        let one : action_view act ≡ other = let f = is_act in cc in
        subst (λ x. Adds (IsFiringCode rs (seen_seats actor x) actor.outs x firsts) old new) one
        (subst (λ ps. Adds (IsFiringCode rs (seen_seats actor (action_view act)) ps (action_view act) firsts) old new) outs
        (subst (λ ns. Adds (IsFiringCode rs ns ports (action_view act) firsts) old new) seen added)),
  )

  pub left_is : (rs : Routines) (names : List Name) → names ≡ seen_seats actor (action_view act) → left_out_of rs b a ≡ left_out_firing rs names act
  left_is rs names seen =
      let found : slice_get b.actions.items a ≡ Some (slice_index_or b.actions.items a act) = slice_get-get_or b.actions.items a act there in
      let one : slice_index_or b.actions.items a act ≡ act = ap (λ k. slice_index_or b.actions.items k act) (sym same) ∙ sym is in
      ap (λ o. elim o [ None ↦ None | Some x ↦ left_out_firing rs (seen_seats actor (action_view x)) x ]) (found ∙ ap (λ x. Some x) one) ∙ ap (λ ns. left_out_firing rs ns act) (sym seen)

pub adds_fired : FiringsAreFired → (rs : Routines) (actor : Actor) (a entry : ℕ) (firsts : List ℕ) (old new : Draft) → IsSound actor → AddsFiring rs actor a entry firsts old new → AddsFired rs actor a firsts old new
adds_fired law rs actor a entry firsts old new sound added act e =
    let one = added.1 act e in
    record { code = one.code; is = one.is; routines = one.routines; has = law actor a act rs firsts (length old.instrs.items) old.cells new.cells one.code sound e one.has }
