-- Whether a network at rest is quiet, stalled or neither, by what was found of its leaves.
use Rattle.std.proofs.Common.{◌≡◌, ◌⊎◌, ℕ, false, zero, suc, ◌+◌, ◌<◌, ◌≤◌, List, [], ◌∷◌, length, refl, sym, ap, subst, ◌∙◌, ⊎_elim, inl, inr, arith}
use Rattle.std.specs.Prelude.{None, Some, slice_get}
use Rattle.std.proofs.lemmas.Bool.{cases_eq, cases_lt}
use Rattle.std.proofs.lemmas.List.{length-map}
use Rattle.rvc_base.specs.declared.trap.Trap.{Trap as TrapName}
use Rattle.rvc_base.specs.Behaviour.{Waits, Picks, Faults}
use Rattle.net_model.specs.declared.firing.Look.{Look}
use Rattle.net_model.specs.declared.firing.Look.TheVariants as look
use Rattle.net_model.specs.declared.wiring.Link.{Link}
use Rattle.net_model.specs.Network.{Network}
use Rattle.net_model.specs.State.{State, choice_at, choice_of, effect_at, effect_of}
use Rattle.net_model.specs.Cell.{Cell, IsSameActor}
use Rattle.net_model.specs.Ends.{IsQuiet, IsSettled, IsStalled, LacksRoom, all_fed}
use Rattle.net_state.specs.declared.outlook.Outlook.{Outlook}
use Rattle.net_state.specs.declared.outlook.Outlook.TheVariants as outlook
use Rattle.net_state.specs.declared.outlook.Survey.{Survey}
use Rattle.net_state.specs.declared.outlook.Survey.TheVariants as survey
use Rattle.net_state.specs.Held.{Held}
use Rattle.net_state.specs.Moving.{SameActors, SameMarks}
use Rattle.net_state.specs.Standing.{IsNetOf}
use Rattle.net_state.specs.Surveyed.{ActsNow, AreUntrapped, LacksFirst, LacksNow, NamesFound, OutlookIn, StallsIn, StillStand, Tells, Told, after}
use Rattle.net_state.specs.Working.{HasAction, IsAtRest, LooksAt, LooksFed, MayWork, NamesAction}
use Rattle.net_state.proofs.Coming.{on_cell, on_some}
use Rattle.net_state.proofs.Gaining.{same_actor, some_is, there_too}
use Rattle.net_state.proofs.Kept.{same_then}

-- beyond the cells there is no leaf
pub leaf_beyond : {X : Type 0} (net : Network X) (cells : List (Cell X)) (links : List Link) → IsNetOf net cells links → (j : ℕ) → length cells ≤ j → slice_get net.leaves j ≡ None
leaf_beyond net cells links is j high =
    let count : length net.leaves ≡ length cells =
    sym (length-map net.leaves (λ leaf. leaf.behaviour)) ∙ (ap (λ bs. length bs) is.actors ∙ length-map cells (λ c. c.actor)) in
    get_beyond net.leaves j (omega (arith, count, high))
  where
    get_beyond : {A : Type 0} (xs : List A) (k : ℕ) → length xs ≤ k → slice_get xs k ≡ None
    get_beyond [] k few = refl
    get_beyond (x ∷ xs) zero few = absurd (omega (arith, few))
    get_beyond (x ∷ xs) (suc k) few = get_beyond xs k (omega (arith, few))

-- What was found of all leaves says how the network stands.

module _ {X : Type 0} (net : Network X) (s : State X) (n : ℕ) (beyond : (j : ℕ) → n ≤ j → slice_get net.leaves j ≡ None) (settled : IsSettled net s) where
  choice_beyond : (j : ℕ) → n ≤ j → choice_at net (all_fed net s) j ≡ Waits
  choice_beyond j high = ap (λ o. choice_of net.links (all_fed net s).flows j o (slice_get s.actors j)) (beyond j high)

  effect_beyond : (j a : ℕ) → n ≤ j → effect_at net (all_fed net s) j a ≡ None
  effect_beyond j a high = ap (λ o. effect_of net.links (all_fed net s).flows j a o (slice_get s.actors j)) (beyond j high)

  pub quiet_here : ((k : ℕ) → k < n → LooksFed net s k look.Waits) → IsQuiet net s
  quiet_here all = record {
    settled = settled;
    nothing = λ i a. ⊎_elim
        (λ low. (all i low).1 a)
        (λ high. effect_beyond i a (omega (arith, high)))
        (cases_lt i n);
  }

  pub stalled_here : (i a l : ℕ) → LacksFirst n net s i a → LacksRoom net (all_fed net s) i a l → ((m : ℕ) → m < l → LacksRoom net (all_fed net s) i a m → ⊥) → IsStalled net s i a l
  stalled_here i a l first lacks lowest = record {
    settled = settled;
    each = λ j. ⊎_elim
        (λ low. ⊎_elim
        (λ waits. inl waits.0)
        (λ less. inr (less.0, less.1.1.1.0, less.1.1.0, less.1.1.1.1))
        (first.each j low))
        (λ high. inl (choice_beyond j (omega (arith, high))))
        (cases_lt j n);
    chosen = first.lacks.1.0;
    lowest_leaf = λ j low. (first.below j low).0;
    lacks = lacks;
    lowest_link = lowest;
  }

-- the same, as it is answered
pub stalls_here : {X : Type 0} (net : Network X) (s : State X) (n : ℕ) → ((j : ℕ) → n ≤ j → slice_get net.leaves j ≡ None) → IsSettled net s
    → (i a : ℕ) → LacksFirst n net s i a → (what : Outlook) → StallsIn net s i a what → OutlookIn net s what
stalls_here net s n beyond settled i a first outlook.Quiet stalls = absurd stalls
stalls_here net s n beyond settled i a first (outlook.Stalled inst action link) stalls =
    subst (λ j. IsStalled net s j action.0 link.0) (sym stalls.0)
    (subst (λ b. IsStalled net s i b link.0) (sym stalls.1)
    (stalled_here net s n beyond settled i a link.0 first stalls.2.lacks stalls.2.lowest))
stalls_here net s n beyond settled i a first outlook.Going stalls = absurd (stalls first.lacks.1.1.0 first.lacks.1.1.1)

-- a leaf that acts leaves the network neither quiet nor stalled
pub going_here : {X : Type 0} (net : Network X) (s : State X) (k : ℕ) → ActsNow net s k → (IsQuiet net s → ⊥) × ((i a l : ℕ) → IsStalled net s i a l → ⊥)
going_here net s k acts = (
  λ quiet. ⊎_elim (λ ready. ready.1.2 (quiet.nothing k ready.0)) (λ faults. faults.2.1 (quiet.nothing k faults.0)) acts,
  λ i a l stalled. ⊎_elim
      (λ waits. ⊎_elim
      (λ ready. waits_picks (sym waits ∙ ready.1.0))
      (λ faults. waits_faults (sym waits ∙ faults.2.0))
      acts)
      (λ lacks. ⊎_elim
      (λ ready. ready.1.1 lacks.1 (subst (λ b. LacksRoom net (all_fed net s) k b lacks.1) (picks_same (sym lacks.2 ∙ ready.1.0)) lacks.3))
      (λ faults. picks_faults (sym lacks.2 ∙ faults.2.0))
      acts)
      (stalled.each k),
)
  where
    waits_picks : {b : ℕ} → Waits ≡ Picks b → ⊥
    waits_picks h = cc

    waits_faults : {b : ℕ} {cause : TrapName} → Waits ≡ Faults b cause → ⊥
    waits_faults h = cc

    picks_faults : {b c : ℕ} {cause : TrapName} → Picks b ≡ Faults c cause → ⊥
    picks_faults h = cc

    picks_same : {b c : ℕ} → Picks b ≡ Picks c → b ≡ c
    picks_same h = cc

-- One leaf more.

-- what was found of a leaf, if it waits or lacks room
abbrev waits_or_lacks : {X : Type 0} → Network X → State X → ℕ → Type 0
waits_or_lacks net s k = LooksFed net s k look.Waits ⊎ ((b : ℕ) × LacksNow net s k b)

one_more : {X : Type 0} (net : Network X) (s : State X) (n : ℕ) → ((k : ℕ) → k < n → waits_or_lacks net s k) → waits_or_lacks net s n → (k : ℕ) → k < n + 1 → waits_or_lacks net s k
one_more net s n all here k low = ⊎_elim
    (λ same. subst (waits_or_lacks net s) (sym same) here)
    (λ differ. all k (omega (arith, low, differ)))
    (cases_eq k n)

pub told_more : {X : Type 0} (net : Network X) (s : State X) (n : ℕ) (found : Survey) (o : Look) → LooksFed net s n o → Told n net s found → Told (n + 1) net s (after found n o)
told_more net s n survey.AllWait look.Waits here told = λ k low. ⊎_elim
    (λ same. subst (λ j. LooksFed net s j look.Waits) (sym same) here)
    (λ differ. told k (omega (arith, low, differ)))
    (cases_eq k n)
told_more net s n survey.AllWait (look.NoRoom action port) here told = record {
  low = omega arith;
  lacks = (port, here);
  below = told;
  each = one_more net s n (λ k low. inl (told k low)) (inr (action.0, (port, here)));
}
told_more net s n survey.AllWait (look.Ready action) here told = inl (action.0, here)
told_more net s n survey.AllWait (look.GuardTrap action cause) here told = inr (action.0, cause, here)
told_more net s n (survey.Lacks inst first) look.Waits here told = record {
  low = omega (arith, told.low);
  lacks = told.lacks;
  below = told.below;
  each = one_more net s n told.each (inl here);
}
told_more net s n (survey.Lacks inst first) (look.NoRoom action port) here told = record {
  low = omega (arith, told.low);
  lacks = told.lacks;
  below = told.below;
  each = one_more net s n told.each (inr (action.0, (port, here)));
}
told_more net s n (survey.Lacks inst first) (look.Ready action) here told = inl (action.0, here)
told_more net s n (survey.Lacks inst first) (look.GuardTrap action cause) here told = inr (action.0, cause, here)
told_more net s n (survey.Moves inst) o here told = told

-- The cells were looked at up to the n-th.
pub record IsSurvey {X : Type 0} (n : ℕ) (found : Survey) (old now : Held (Cell X)) : Type 0 where
  pub tells : Tells n found old
  pub named : NamesFound now.cells found
  pub still : StillStand old now
  pub rests : IsAtRest now
  pub actors : SameActors old.cells now.cells
  pub marks : SameMarks old.cells now.cells
  pub links : now.links ≡ old.links
  pub capacities : now.capacities ≡ old.capacities
  pub waited : now.waited ≡ old.waited

-- an action of a cell is one still
action_stays : {X : Type 0} (old new : List (Cell X)) → SameActors old new → (i a : ℕ) → HasAction old i a → HasAction new i a
action_stays old new same i a has =
    let on = on_cell (slice_get old i) (λ cell. a < cell.actor.actions) has in
    let after = there_too old new i on.0 (sym same.count) on.1 in
    on_some (slice_get new i) (λ cell. a < cell.actor.actions) after.0 after.1
    (subst (λ actor. a < actor.actions) (sym (same.each i on.0 after.0 on.1 after.1).same_actor) on.2)

named_stays : {X : Type 0} (old new : List (Cell X)) → SameActors old new → (found : Survey) → NamesFound old found → NamesFound new found
named_stays old new same survey.AllWait named = tt
named_stays old new same (survey.Lacks inst action) named = action_stays old new same inst.0 action.0 named
named_stays old new same (survey.Moves inst) named = tt

-- what is found once one more was looked at names an action that is there
named_after : {X : Type 0} (cells : List (Cell X)) (i : ℕ) (found : Survey) (o : Look) → NamesFound cells found → NamesAction cells i o → NamesFound cells (after found i o)
named_after cells i survey.AllWait look.Waits named here = tt
named_after cells i survey.AllWait (look.NoRoom action port) named here = here
named_after cells i survey.AllWait (look.Ready action) named here = tt
named_after cells i survey.AllWait (look.GuardTrap action cause) named here = tt
named_after cells i (survey.Lacks inst first) look.Waits named here = named
named_after cells i (survey.Lacks inst first) (look.NoRoom action port) named here = named
named_after cells i (survey.Lacks inst first) (look.Ready action) named here = tt
named_after cells i (survey.Lacks inst first) (look.GuardTrap action cause) named here = tt
named_after cells i (survey.Moves inst) o named here = tt

pub same_all : {X : Type 0} (cells : List (Cell X)) → SameActors cells cells
same_all cells = record {
  count = refl;
  each = λ i before after was is. subst (IsSameActor before) (some_is before after (sym was ∙ is)) (same_actor before);
}

pub survey_none : {X : Type 0} (held : Held (Cell X)) → IsAtRest held → IsSurvey 0 survey.AllWait held held
survey_none held rest = record {
  tells = λ net s stands wired fed k low. absurd (omega (arith, low));
  named = tt;
  still = record { stays = λ net s that. that; since = λ net opened s that. that };
  rests = rest;
  actors = same_all held.cells;
  marks = λ i before after was is. ap (λ cell. cell.trapped) (some_is after before (sym is ∙ was));
  links = refl;
  capacities = refl;
  waited = refl;
}

-- a cell that is there may work, if none has trapped
pub may_work : {X : Type 0} (n : ℕ) (found : Survey) (old now : Held (Cell X)) → AreUntrapped old.cells → IsSurvey n found old now → (i : ℕ) → i < length now.cells → MayWork now.cells i
may_work n found old now free survey i low =
    let here = some_at now.cells i low in
    let before = there_too now.cells old.cells i here.0 survey.actors.count here.1 in
    on_some (slice_get now.cells i) (λ cell. cell.trapped ≡ false) here.0 here.1
    (survey.marks i before.0 here.0 before.1 here.1 ∙ free i before.0 before.1)
  where
    some_at : {A : Type 0} (xs : List A) (k : ℕ) → k < length xs → (x : A) × (slice_get xs k ≡ Some x)
    some_at [] k low = absurd (omega (arith, low))
    some_at (x ∷ xs) zero low = (x, refl)
    some_at (x ∷ xs) (suc k) low = some_at xs k (omega (arith, low))

pub survey_more : {X : Type 0} (n : ℕ) (found : Survey) (o : Look) (old now new : Held (Cell X)) → IsSurvey n found old now
    → LooksAt n o now new → SameActors now.cells new.cells → SameMarks now.cells new.cells → new.links ≡ now.links → new.capacities ≡ now.capacities → new.waited ≡ now.waited
    → IsSurvey (n + 1) (after found n o) old new
survey_more n found o old now new survey looks same marks links capacities waited = record {
  tells = λ net s stands wired fed. told_more net s n found o (looks.ends survey.rests net s (survey.still.stays net s stands) wired fed).1 (survey.tells net s stands wired fed);
  named = named_stays now.cells new.cells same (after found n o) (named_after now.cells n found o survey.named looks.named);
  still = record {
    stays = λ net s that. looks.stays net s (survey.still.stays net s that);
    since = λ net opened s that. (looks.states net opened s (survey.still.since net opened s that)).1;
  };
  rests = looks.rests survey.rests;
  actors = same_then old.cells now.cells new.cells survey.actors same;
  marks = λ i before after was is.
      let mid = there_too old.cells now.cells i before (sym survey.actors.count) was in
      marks i mid.0 after mid.1 is ∙ survey.marks i before mid.0 was mid.1;
  links = links ∙ survey.links;
  capacities = capacities ∙ survey.capacities;
  waited = waited ∙ survey.waited;
}
