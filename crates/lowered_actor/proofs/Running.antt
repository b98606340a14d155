-- The end of a run: there is one, and it doesn't depend on the cells behind the state cells.
use Rattle.std.proofs.Common.{◌≡◌, ◌≢◌, ℕ, zero, suc, ◌+◌, ◌-◌, ◌<◌, ◌≤◌, ◌⊎◌, inl, inr, ℤ, Bool, true, false, ◌&&◌, List, [], ◌∷◌, ◌++◌, length, take, drop, refl, sym, ap, subst, ◌∙◌, arith, None, Some}
use Rattle.std.specs.Prelude.{All, Contains, nat_le, ◌==◌, slice_get}
use Rattle.std.proofs.lemmas.Bool.{leb-true, eqb-true, cases_lt}
use Rattle.std.proofs.lemmas.List.{length-append, length-drop, length-take-le, take-append-le, take_all}
use Rattle.std.proofs.lemmas.Option.{slice_get_within, get_or_from_slice_get}
use Rattle.code_ir.specs.declared.outcome.Outcome.{Outcome}
use Rattle.code_ir.specs.declared.outcome.Outcome.TheVariants as outcome
use Rattle.code_ir.specs.Code.{Code, is_among}
use Rattle.code_ir.specs.Running.{State, Next, Goes, Over, Lacks, Stuck, step, Ends, stop, go, Reaches, here, after, start, runs, HasItsTokens}
use Rattle.code_ir.specs.Typing.{IsAdmitted}
use Rattle.code_ir.specs.Standing.{IsFine, Stands, most_steps}
use Rattle.lowered_actor.specs.Actor.{Action, Actor, number_on}
use Rattle.lowered_actor.specs.Facts.{IsAsked, Fits, IsLowered, IsGuard, IsFiring, SameState}
use Rattle.lowered_actor.specs.Meaning.{ActorState, End, end_after, end_within, end_of, is_state, cells_of, need, has_on_first, taken}
use Rattle.lowered_actor.specs.Laws.{AreCellsOf, IsReady, GuardEnds, FiringEnds}

-- what is known of steps of admitted code, and of two ends of a run
abbrev pub StepsAreFine : Type 0
StepsAreFine = (code : Code) (tokens : ℕ → List ℤ) (s : State) → IsAdmitted code → Stands code s → IsFine code s (step code tokens s)

abbrev pub StartStands : Type 0
StartStands = (code : Code) (e : ℕ) (cells : List ℤ) → IsAdmitted code → is_among e code.entries ≡ true → length cells ≡ code.cells → Stands code (start e cells)

-- ---- what holds of each element

pub all-at : {A : Type 0} (P : A → Type 0) (xs : List A) (k : ℕ) (x : A) → All P xs → slice_get xs k ≡ Some x → P x
all-at P xs k x all is = subst P (get_or_from_slice_get xs k x x is) (all k x (slice_get_within xs k x is))

pub all-among : {A : Type 0} (P : A → Type 0) (xs : List A) (x : A) → All P xs → Contains xs x → P x
all-among P xs x all (k, low, is) = subst P is (all k x low)

-- ---- there is an end

abbrev HasEnd : ℕ → Code → (ℕ → List ℤ) → State → Type 0
HasEnd n code tokens s = (end : End) × (end_within n code tokens s ≡ Some end) × Ends code tokens s end.outcome end.cells

by-next : (n : ℕ) (code : Code) (tokens : ℕ → List ℤ) (s : State) (x : Next) → step code tokens s ≡ x → IsFine code s x → x ≢ Lacks
    → ((t : State) → step code tokens s ≡ Goes t → Stands code t → most_steps code t < most_steps code s → HasEnd n code tokens t)
    → (end : End) × (end_after x (end_within n code tokens) ≡ Some end) × Ends code tokens s end.outcome end.cells
by-next n code tokens s (Goes t) e f token more = let h = more t e f.0 f.1 in (h.0, h.1, go e h.2)
by-next n code tokens s (Over o cells) e f token more = (record { outcome = o; cells = cells }, refl, stop e)
by-next n code tokens s Lacks e f token more = absurd (token refl)
by-next n code tokens s Stuck e f token more = absurd f

end-in : (n : ℕ) (code : Code) (tokens : ℕ → List ℤ) (s : State) → StepsAreFine → IsAdmitted code → most_steps code s < n → Stands code s
    → ((t : State) → Reaches code tokens s t → step code tokens t ≢ Lacks) → HasEnd n code tokens s
end-in zero code tokens s fine admitted less stands token = absurd (omega (arith, less))
end-in (suc n) code tokens s fine admitted less stands token =
    by-next n code tokens s (step code tokens s) refl (fine code tokens s admitted stands) (token s here)
    (λ t e there fewer. end-in n code tokens t fine admitted (omega (arith, less, fewer)) there (λ u r. token u (after e r)))

pub has-end : (code : Code) (e : ℕ) (cells : List ℤ) (tokens : ℕ → List ℤ) → StepsAreFine → StartStands → IsAdmitted code
    → is_among e code.entries ≡ true → length cells ≡ code.cells → HasItsTokens code e cells tokens
    → (end : End) × (end_of code e cells tokens ≡ Some end) × runs code e cells tokens end.outcome end.cells
has-end code e cells tokens fine first admitted among size token =
    end-in (suc (most_steps code (start e cells))) code tokens (start e cells) fine admitted (omega arith) (first code e cells admitted among size) token

-- ---- what runs are asked with

both-true : (a b : Bool) → (a && b) ≡ true → (a ≡ true) × (b ≡ true)
both-true true true h = (refl, refl)
both-true true false h = absurd (grind arith)
both-true false b h = absurd (grind arith)

pub has-on : (needed : ℕ → ℕ) (tokens : ℕ → List ℤ) (n p : ℕ) → has_on_first needed tokens n ≡ true → p < n → needed p ≤ length (tokens p)
has-on needed tokens zero p h low = absurd (omega (arith, low))
has-on needed tokens (suc n) p h low =
    let halves = both-true (has_on_first needed tokens n) (nat_le (needed n) (length (tokens n))) h in
    by-case halves.1 (has-on needed tokens n p halves.0) (cases_lt p n)
  where
    by-case : nat_le (needed n) (length (tokens n)) ≡ true → (p < n → needed p ≤ length (tokens p)) → (p < n) ⊎ (n ≤ p) → needed p ≤ length (tokens p)
    by-case last earlier (inl less) = earlier less
    by-case last earlier (inr more) =
        let same : n ≡ p = omega (arith, low, more) in
        subst (λ q. needed q ≤ length (tokens q)) same (leb-true (needed n) (length (tokens n)) last)

pub past-zero : (numbers : List ℕ) (p : ℕ) → length numbers ≤ p → number_on numbers p ≡ 0
past-zero [] p h = refl
past-zero (n ∷ numbers) zero h = absurd (omega (arith, h))
past-zero (n ∷ numbers) (suc p) h = past-zero numbers p (omega (arith, h))

pub need-at : (actor : Actor) (a p : ℕ) (action : Action) → slice_get actor.actions a ≡ Some action → need actor a p ≡ number_on action.needs p
need-at actor a p action there = ap (λ o. elim o [ None ↦ 0 | Some act ↦ number_on act.needs p ]) there

-- a state has as many state cells as there are
pub state-cells : (actor : Actor) (x : ActorState) → is_state actor x ≡ true → length x.cells ≡ actor.kept
state-cells actor x h = eqb-true _ _ (both-true (nat_le (suc x.at) actor.fsm.states) (length x.cells == actor.kept) h).1

module _ (actor : Actor) (lowered : IsLowered actor) (x : ActorState) (tokens : ℕ → List ℤ) (a : ℕ) (action : Action)
    (ready : IsReady actor tokens a action) where
  fits : Fits actor action
  fits = all-at (Fits actor) actor.actions a action lowered.fits.each ready.there

  takes : (p : ℕ) → length (taken actor tokens a p) ≡ number_on action.needs p
  takes p = by-case (cases_lt p actor.ins)
    where
      is : need actor a p ≡ number_on action.needs p
      is = need-at actor a p action ready.there

      by-case : (p < actor.ins) ⊎ (actor.ins ≤ p) → length (taken actor tokens a p) ≡ number_on action.needs p
      by-case (inl low) = length-take-le (need actor a p) (tokens p) (has-on (need actor a) tokens actor.ins p ready.has low) ∙ is
      by-case (inr high) =
          let size : length action.needs ≡ actor.ins = fits.needs in
          let none : number_on action.needs p ≡ 0 = past-zero action.needs p (omega (arith, high, size)) in
          length-take-le (need actor a p) (tokens p) (omega (arith, is, none)) ∙ is

  pub asked : (cells : List ℤ) → length cells ≡ actor.code.cells → IsAsked actor action cells (taken actor tokens a)
  asked cells size = record { cells_there = size; tokens_there = takes }

  size-of-cells : is_state actor x ≡ true → length (cells_of actor x) ≡ actor.code.cells
  size-of-cells state =
      let kept : length x.cells ≡ actor.kept = state-cells actor x state in
      let whole : length (x.cells ++ drop actor.kept actor.first) ≡ length x.cells + length (drop actor.kept actor.first) = length-append x.cells (drop actor.kept actor.first) in
      let rest : length (drop actor.kept actor.first) ≡ length actor.first - actor.kept = length-drop actor.kept actor.first in
      let first : length actor.first ≡ actor.code.cells = lowered.fits.first in
      let few : actor.kept ≤ actor.code.cells = lowered.fits.kept in
      omega (arith, kept, whole, rest, first, few)

  pub asked-at-first : is_state actor x ≡ true → IsAsked actor action (cells_of actor x) (taken actor tokens a)
  asked-at-first state = asked (cells_of actor x) (size-of-cells state)

  kept-of-cells : is_state actor x ≡ true → take actor.kept (cells_of actor x) ≡ x.cells
  kept-of-cells state =
      let kept : length x.cells ≡ actor.kept = state-cells actor x state in
      take-append-le actor.kept x.cells (drop actor.kept actor.first) (omega (arith, kept))
      ∙ take_all actor.kept x.cells (omega (arith, kept))

  same-state : (cells : List ℤ) → AreCellsOf actor x cells → SameState actor (cells_of actor x) cells
  same-state cells are = kept-of-cells are.state ∙ sym are.kept

  guard-end : StepsAreFine → StartStands → is_state actor x ≡ true → (entry : ℕ) → Contains action.guards entry
      → (end : End) × (end_of actor.code entry (cells_of actor x) (taken actor tokens a) ≡ Some end)
      × runs actor.code entry (cells_of actor x) (taken actor tokens a) end.outcome end.cells
  guard-end fine first state entry among =
      has-end actor.code entry (cells_of actor x) (taken actor tokens a) fine first lowered.admitted (all-among (λ e. is_among e actor.code.entries ≡ true) action.guards entry fits.guards among) (size-of-cells state)
      ((lowered.right.guards a action entry ready.there among).reads (cells_of actor x) (taken actor tokens a) (asked-at-first state))

  pub firing-end : StepsAreFine → StartStands → is_state actor x ≡ true
      → (end : End) × (end_of actor.code action.fire (cells_of actor x) (taken actor tokens a) ≡ Some end)
      × runs actor.code action.fire (cells_of actor x) (taken actor tokens a) end.outcome end.cells
  firing-end fine first state =
      has-end actor.code action.fire (cells_of actor x) (taken actor tokens a) fine first lowered.admitted fits.fire (size-of-cells state)
      ((lowered.right.firings a action ready.there).reads (cells_of actor x) (taken actor tokens a) (asked-at-first state))

  pub guard-ends : StepsAreFine → StartStands → (entry : ℕ) (cells left : List ℤ) (o : Outcome) → AreCellsOf actor x cells
      → Contains action.guards entry → runs actor.code entry cells (taken actor tokens a) o left
      → GuardEnds actor x (taken actor tokens a) entry o
  guard-ends fine first entry cells left o are among run =
      let found = guard-end fine first are.state entry among in
      let guard : IsGuard actor action entry = lowered.right.guards a action entry ready.there among in
      record {
        end = found.0;
        is = found.1;
        same = guard.alike (cells_of actor x) cells (taken actor tokens a) found.0.outcome o found.0.cells left
            (asked-at-first are.state) (asked cells are.size) (same-state cells are) found.2 run;
      }

  pub firing-ends : StepsAreFine → StartStands → (cells left : List ℤ) (o : Outcome) → AreCellsOf actor x cells
      → runs actor.code action.fire cells (taken actor tokens a) o left
      → FiringEnds actor x (taken actor tokens a) action o left
  firing-ends fine first cells left o are run =
      let found = firing-end fine first are.state in
      let firing : IsFiring actor action action.fire = lowered.right.firings a action ready.there in
      let alike = firing.alike (cells_of actor x) cells (taken actor tokens a) found.0.outcome o found.0.cells left
      (asked-at-first are.state) (asked cells are.size) (same-state cells are) found.2 run in
      record {
        end = found.0;
        is = found.1;
        same = alike.0;
        state = λ done. (alike.1 (alike.0 ∙ done)).0;
        sent = λ done. (alike.1 (alike.0 ∙ done)).1;
      }
