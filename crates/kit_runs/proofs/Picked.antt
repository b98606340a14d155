-- What holds of the first items of a list, and of each.
use Rattle.std.proofs.Common.{◌≡◌, ⊎_elim, ℕ, zero, suc, ◌+◌, ◌<◌, ◌≤◌, true, false, List, [], ◌∷◌, length, refl, sym, subst, ◌∙◌, arith}
use Rattle.std.specs.Prelude.{Option, None, Some, nat_le, slice_get}
use Rattle.std.proofs.lemmas.Bool.{cases_lt, leb-true}
use Rattle.std.proofs.lemmas.Option.{slice_get_within}
use Rattle.lowered_actor.specs.Actor.{Action, Actor, number_on}
use Rattle.lowered_actor.specs.Meaning.{give, need}
use Rattle.net_model.specs.Limits.{max_rate}
use Rattle.net_state.proofs.Gaining.{some_is}
use Rattle.kit_runs.specs.Fits.{HasFewRates, IsWithin, OfEach, OfFirst, OnActor, are_few}
use Rattle.kit_runs.proofs.Ordered.{then_true}

pub first_more : {A : Type 0} (xs : List A) (P : A → Type 0) (n : ℕ) (x : A) → slice_get xs n ≡ Some x → OfFirst n xs P → P x → OfFirst (n + 1) xs P
first_more xs P n x at so_far is = λ k y low there. ⊎_elim
    (λ before. so_far k y before there)
    (λ high.
    let same : k ≡ n = omega (arith, low, high) in
    subst P (some_is x y (sym at ∙ subst (λ m. slice_get xs m ≡ Some y) same there)) is)
    (cases_lt k n)

pub first_all : {A : Type 0} (xs : List A) (P : A → Type 0) (n : ℕ) → length xs ≤ n → OfFirst n xs P → OfEach xs P
first_all xs P n all so_far = λ k x there. so_far k x (let low : k < length xs = slice_get_within xs k x there in omega (arith, low, all)) there

pub there_is : {A : Type 0} (xs : List A) (k : ℕ) → k < length xs → (x : A) × (slice_get xs k ≡ Some x)
there_is [] k low = absurd (omega (arith, low))
there_is (x ∷ xs) zero low = (x, refl)
there_is (x ∷ xs) (suc k) low = there_is xs k (omega (arith, low))

pub on_actor : (o : Option Actor) (P : Actor → Type 0) (actor : Actor) → o ≡ Some actor → P actor → OnActor o P
on_actor o P actor at is = subst (λ x. OnActor x P) (sym at) is

pub of_actor : (o : Option Actor) (P : Actor → Type 0) → OnActor o P → (actor : Actor) × (o ≡ Some actor) × P actor
of_actor None P h = absurd h
of_actor (Some actor) P h = (actor, refl, h)

-- Rates.

few_on : (numbers : List ℕ) → are_few numbers ≡ true → (p : ℕ) → number_on numbers p ≤ max_rate
few_on [] h zero = omega arith
few_on [] h (suc p) = omega arith
few_on (n ∷ numbers) h zero = leb-true n max_rate (then_true (nat_le n max_rate) (are_few numbers) h).0
few_on (n ∷ numbers) h (suc p) = few_on numbers (then_true (nat_le n max_rate) (are_few numbers) h).1 p

module _ (actor : Actor) where
  need_by : (o : Option Action) (a p most : ℕ) → slice_get actor.actions a ≡ o → ((action : Action) → o ≡ Some action → number_on action.needs p ≤ most) → need actor a p ≤ most
  need_by None a p most at all = subst (λ x. (elim x [ None ↦ 0 | Some action ↦ number_on action.needs p ]) ≤ most) (sym at) (omega arith)
  need_by (Some action) a p most at all = subst (λ x. (elim x [ None ↦ 0 | Some action ↦ number_on action.needs p ]) ≤ most) (sym at) (all action refl)

  give_by : (o : Option Action) (a p most : ℕ) → slice_get actor.actions a ≡ o → ((action : Action) → o ≡ Some action → number_on action.gives p ≤ most) → give actor a p ≤ most
  give_by None a p most at all = subst (λ x. (elim x [ None ↦ 0 | Some action ↦ number_on action.gives p ]) ≤ most) (sym at) (omega arith)
  give_by (Some action) a p most at all = subst (λ x. (elim x [ None ↦ 0 | Some action ↦ number_on action.gives p ]) ≤ most) (sym at) (all action refl)

  pub need_within : (p capacity : ℕ) → OfEach actor.actions (IsWithin false p capacity) → (a : ℕ) → need actor a p ≤ capacity
  need_within p capacity each a = need_by (slice_get actor.actions a) a p capacity refl (λ action at. each a action at)

  pub give_within : (p capacity : ℕ) → OfEach actor.actions (IsWithin true p capacity) → (a : ℕ) → give actor a p ≤ capacity
  give_within p capacity each a = give_by (slice_get actor.actions a) a p capacity refl (λ action at. each a action at)

  pub few_needed : HasFewRates actor → (a p : ℕ) → need actor a p ≤ max_rate
  few_needed few a p = need_by (slice_get actor.actions a) a p max_rate refl (λ action at. few_on action.needs (few a action at).taken p)

  pub few_given : HasFewRates actor → (a p : ℕ) → give actor a p ≤ max_rate
  few_given few a p = give_by (slice_get actor.actions a) a p max_rate refl (λ action at. few_on action.gives (few a action at).given p)
