-- The table that is built of the first steps.
use Rattle.std.proofs.Common.{◌≡◌, ◌≢◌, ℕ, ◌+◌, ◌*◌, ◌<◌, Bool, true, false, List, [], Option, Some, None, length, get_or, set, take, drop, ◌∷◌, ◌++◌, ◌⊎◌, ⊎_elim, inl, inr, refl, sym, ap, ◌∙◌, arith, Contains}
use Rattle.std.specs.Prelude.{◌↔◌, IsTrue, All}
use Rattle.std.proofs.lemmas.Bool.{cases_eq, false≢true}
use Rattle.std.proofs.lemmas.List.{get_or-set_same, get_or-set_other, length-set, take_more, take-append-drop}
use Rattle.std.proofs.lemmas.List.Elements.{Contains-push, Contains-push_cases, Contains-append_left, Contains-get_or, All-contains}
use Rattle.std.proofs.lemmas.Nat.{same_from_place}
use Rattle.schedule_fsm.specs.declared.fsm.Step.{Step}
use Rattle.schedule_fsm.specs.Automaton.{entry}
use Rattle.schedule_fsm.specs.Leads.{Leads, StepLeads, IsFree, HasTwoTargets}
use Rattle.schedule_fsm.specs.declared.fsm.FsmFault.{FsmFault}
use Rattle.schedule_fsm.specs.declared.fsm.FsmFault.TheVariants.{Ambiguous, Memory}
use Rattle.schedule_fsm.specs.Fault.{IsCause, IsTaken}
use Rattle.schedule_fsm.specs.Free.{stay}
use Rattle.schedule_fsm.proofs.Rows.{Stays, place_below}

-- the table has an entry for each state and action, and says where they lead
pub record IsBuilt (steps : List Step) (free : List Bool) (states : ℕ) (table : List (Option ℕ)) : Type 0 where
  pub size : length table ≡ states * length free
  pub leads : (state action to : ℕ) → state < states → action < length free → (entry (length free) table state action ≡ Some to) ↔ Leads steps free state action to

-- ---- what the first steps hold
pub take_more_cases : {A : Type 0} (xs : List A) (i : ℕ) (d x : A) → i < length xs → Contains (take (i + 1) xs) x → Contains (take i xs) x ⊎ (get_or xs i d ≡ x)
take_more_cases xs i d x in_range found =
    Contains-push_cases (take i xs) (get_or xs i d) x (rw (take_more xs i d in_range) at found)

pub take_more_earlier : {A : Type 0} (xs : List A) (i : ℕ) (d x : A) → i < length xs → Contains (take i xs) x → Contains (take (i + 1) xs) x
take_more_earlier xs i d x in_range found =
    rw (take_more xs i d in_range) (Contains-append_left (take i xs) (get_or xs i d ∷ []) x found)

pub of_take : {A : Type 0} (xs : List A) (i : ℕ) (x : A) → Contains (take i xs) x → Contains xs x
of_take xs i x found =
    let whole : Contains (take i xs ++ drop i xs) x = Contains-append_left (take i xs) (drop i xs) x found in
    rw (take-append-drop i xs) at whole

pub take_more_last : {A : Type 0} (xs : List A) (i : ℕ) (d x : A) → i < length xs → get_or xs i d ≡ x → Contains (take (i + 1) xs) x
take_more_last xs i d x in_range same =
    rw (take_more xs i d in_range, same) (Contains-push (take i xs) x)

-- ---- before the first step
stays_or_goes : (state to : ℕ) (is_free : Bool) → (stay state is_free ≡ Some to) ↔ (IsTrue is_free × (to ≡ state))
stays_or_goes state to true = (λ e. (refl, cc), λ h. ap Some (sym h.1))
stays_or_goes state to false = (λ e. cc, λ h. absurd (false≢true h.0))

pub built_none : (free : List Bool) (states : ℕ) (table : List (Option ℕ)) → length table ≡ states * length free → Stays free states table → IsBuilt [] free states table
built_none free states table size stays = record {
  size = size;
  leads = λ state action to in_states in_actions.
      let here : entry (length free) table state action ≡ stay state (get_or free action false) = stays state action in_states in_actions in
      let alone = stays_or_goes state to (get_or free action false) in
      (λ e. inl (alone.0 (sym here ∙ e)), λ h. here ∙ ⊎_elim (λ by_itself. alone.1 by_itself) (λ found. absurd (omega (arith, found.1))) h);
}

-- ---- one step more
-- the new entry is the step's target
entered : (columns : ℕ) (table : List (Option ℕ)) (step : Step) → step.from * columns + step.action < length table → entry columns (set table (step.from * columns + step.action) (Some step.to)) step.from step.action ≡ Some step.to
entered columns table step in_range = get_or-set_same table (step.from * columns + step.action) (Some step.to) None in_range

-- another entry stays
stays_elsewhere : (columns : ℕ) (table : List (Option ℕ)) (step : Step) (state action : ℕ) → action < columns → step.action < columns → (state ≡ step.from → action ≡ step.action → ⊥) → entry columns (set table (step.from * columns + step.action) (Some step.to)) state action ≡ entry columns table state action
stays_elsewhere columns table step state action in_row step_in_row apart =
    get_or-set_other table (step.from * columns + step.action) (state * columns + action) (Some step.to) None
    (λ same. let both : (state ≡ step.from) × (action ≡ step.action) = same_from_place state action step.from step.action columns in_row step_in_row same in apart both.0 both.1)

-- the step at a place; past the end, no step of the list
abbrev pub step_at : List Step → ℕ → Step
step_at steps i = get_or steps i (record { from = 0; action = 0; to = 0 })

module _ (steps : List Step) (free : List Bool) (states : ℕ) (in_range : All (λ step. (step.from < states) × (step.to < states)) steps) (known : All (λ step. step.action < length free) steps) (bound : All (λ step. ¬ IsFree free step.action) steps) (table : List (Option ℕ)) (i : ℕ) (in_steps : i < length steps) (built : IsBuilt (take i steps) free states table) where
  abbrev step : Step
  step = step_at steps i

  from_in : step.from < states
  from_in = (in_range i (record { from = 0; action = 0; to = 0 }) in_steps).0

  action_in : step.action < length free
  action_in = known i (record { from = 0; action = 0; to = 0 }) in_steps

  is_bound : ¬ IsFree free step.action
  is_bound = bound i (record { from = 0; action = 0; to = 0 }) in_steps

  place_in : step.from * length free + step.action < length table
  place_in = let below = place_below (length free) states step.from step.action from_in action_in in omega (arith, below, built.size)

  -- its entry holds no other target
  abbrev pub IsOne : Type 0
  IsOne = (to : ℕ) → entry (length free) table step.from step.action ≡ Some to → to ≡ step.to

  -- where the step leads
  at_step : IsOne → (to : ℕ) → (entry (length free) (set table (step.from * length free + step.action) (Some step.to)) step.from step.action ≡ Some to) ↔ Leads (take (i + 1) steps) free step.from step.action to
  at_step one to =
      let new : entry (length free) (set table (step.from * length free + step.action) (Some step.to)) step.from step.action ≡ Some step.to = entered (length free) table step place_in in
      let by_step : to ≡ step.to → StepLeads (take (i + 1) steps) step.from step.action to =
      λ e. take_more_last steps i (record { from = 0; action = 0; to = 0 }) (record { from = step.from; action = step.action; to = to }) in_steps (ap (λ t. record { from = step.from; action = step.action; to = t }) (sym e)) in (
        λ e. inr (by_step cc),
        λ leads. new ∙ ap Some (sym (⊎_elim (λ by_itself. absurd (is_bound by_itself.0))
            (λ found. ⊎_elim (λ earlier. one to ((built.leads step.from step.action to from_in action_in).1 (inr earlier))) (λ last. let same : step ≡ record { from = step.from; action = step.action; to = to } = last in sym (ap (λ s. s.to) same))
            (take_more_cases steps i (record { from = 0; action = 0; to = 0 }) (record { from = step.from; action = step.action; to = to }) in_steps found)) leads)),
      )

  -- elsewhere nothing changes
  elsewhere : (state action to : ℕ) → state < states → action < length free → (state ≡ step.from → action ≡ step.action → ⊥) → (entry (length free) (set table (step.from * length free + step.action) (Some step.to)) state action ≡ Some to) ↔ Leads (take (i + 1) steps) free state action to
  elsewhere state action to in_states in_actions apart =
      let same : entry (length free) (set table (step.from * length free + step.action) (Some step.to)) state action ≡ entry (length free) table state action = stays_elsewhere (length free) table step state action in_actions action_in apart in
      let before = built.leads state action to in_states in_actions in
      let x : Step = record { from = state; action = action; to = to } in (
        λ e. ⊎_elim (λ by_itself. inl by_itself) (λ found. inr (take_more_earlier steps i (record { from = 0; action = 0; to = 0 }) x in_steps found)) (before.0 (sym same ∙ e)),
        λ leads. same ∙ before.1 (⊎_elim (λ by_itself. inl by_itself)
            (λ found. ⊎_elim (λ earlier. inr earlier) (λ last. let e : step ≡ x = last in absurd (apart (sym (ap (λ s. s.from) e)) (sym (ap (λ s. s.action) e))))
            (take_more_cases steps i (record { from = 0; action = 0; to = 0 }) x in_steps found)) leads),
      )

  pub built_more : IsOne → IsBuilt (take (i + 1) steps) free states (set table (step.from * length free + step.action) (Some step.to))
  built_more one = record {
    size = length-set table (step.from * length free + step.action) (Some step.to) ∙ built.size;
    leads = λ state action to in_states in_actions.
        ⊎_elim (λ (s : state ≡ step.from). ⊎_elim (λ (a : action ≡ step.action). rw (s, a) (at_step one to)) (λ (a : action ≢ step.action). elsewhere state action to in_states in_actions (λ _ e. a e)) (cases_eq action step.action))
        (λ (s : state ≢ step.from). elsewhere state action to in_states in_actions (λ e _. s e)) (cases_eq state step.from);
  }

  -- the entry holds another target than the step's, so steps lead to both
  pub two_targets : (other : ℕ) → entry (length free) table step.from step.action ≡ Some other → other ≢ step.to → HasTwoTargets steps step.from step.action
  two_targets other found differs =
      let leads : Leads (take i steps) free step.from step.action other = (built.leads step.from step.action other from_in action_in).0 found in
      let here : StepLeads steps step.from step.action step.to = Contains-get_or steps i (record { from = 0; action = 0; to = 0 }) in_steps in
      ⊎_elim (λ by_itself. absurd (is_bound by_itself.0)) (λ earlier. (other, step.to, of_take steps i (record { from = step.from; action = step.action; to = other }) earlier, here, differs)) leads

-- ---- once all steps are in
pub one_target : (steps : List Step) (free : List Bool) (states : ℕ) (table : List (Option ℕ)) → IsBuilt steps free states table → All (λ step. (step.from < states) × (step.to < states)) steps → All (λ step. step.action < length free) steps → (state action : ℕ) → ¬ HasTwoTargets steps state action
one_target steps free states table built in_states in_actions state action two =
    let first : Step = record { from = state; action = action; to = two.0 } in
    let in_state = All-contains (λ step. (step.from < states) × (step.to < states)) steps first in_states two.2 in
    let in_action = All-contains (λ step. step.action < length free) steps first in_actions two.2 in
    let one : entry (length free) table state action ≡ Some two.0 = (built.leads state action two.0 in_state.0 in_action).1 (inr two.2) in
    let other : entry (length free) table state action ≡ Some two.1 = (built.leads state action two.1 in_state.0 in_action).1 (inr two.3) in
    two.4 cc

pub target_in_range : (steps : List Step) (free : List Bool) (states : ℕ) (table : List (Option ℕ)) → IsBuilt steps free states table → All (λ step. (step.from < states) × (step.to < states)) steps → (state action to : ℕ) → state < states → action < length free → entry (length free) table state action ≡ Some to → to < states
target_in_range steps free states table built in_states state action to in_state in_action e =
    ⊎_elim (λ by_itself. omega (arith, by_itself.1)) (λ found. (All-contains (λ step. (step.from < states) × (step.to < states)) steps (record { from = state; action = action; to = to }) in_states found).1)
    ((built.leads state action to in_state in_action).0 e)

-- what another target in the step's entry is the cause of
pub cause_from_taken : (steps : List Step) (step : Step) (found : Option ℕ) (fault : FsmFault) → IsTaken step found fault → ((other : ℕ) → found ≡ Some other → other ≢ step.to → HasTwoTargets steps step.from step.action) → IsCause steps fault
cause_from_taken steps step found (Ambiguous state action) taken two =
    rw (taken.0, taken.1) (two taken.2.0 taken.2.1 taken.2.2)
cause_from_taken steps step found Memory taken two = tt
