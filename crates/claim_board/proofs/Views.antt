-- What is true of a view stays true through a step.
use Rattle.std.proofs.Common.{◌≡◌, ◌≢◌, ℕ, ◌+◌, ◌<◌, ◌≤◌, List, [], ◌∷◌, ◌++◌, length, Bool, sym, refl, ap, ◌∙◌, subst, arith}
use mathlib.Core.Logic.{dite}
use native.Mathlib.Decide.{ℕ_discrete}
use mathlib.Core.Option.{some, none}
use mathlib.Core.Option as maybe
use lib.ListN.{get_elem?}
use Rattle.claim_board.specs.declared.slot.Slot.{Slot}
use Rattle.claim_board.specs.declared.view.View.{View}
use Rattle.claim_board.specs.Counts.{times, past}
use Rattle.claim_board.specs.Rule.{blank, IsBack, Knows}
use Rattle.claim_board.specs.Steps.{with_number, with_home, joined}
use Rattle.claim_board.proofs.Sums.{times-append, times-same, times-other, past-append}

abbrev pub Homes : Type 0 → Type 0
Homes P = List (maybe.Option (Slot P))

module _ {P X : Type 0} (state : P → X) (marked : P → Bool) (gives : X → X → Type 0) (put : List P) where
  abbrev K : Homes P → View P → Type 0
  K homes v = Knows state marked gives put homes v

  abbrev B : Homes P → ℕ → Type 0
  B homes place = IsBack state marked gives put homes place

  pub back-same : (homes now : Homes P) (place : ℕ) → get_elem? now place ≡ get_elem? homes place → B homes place → B now place
  back-same homes now place e b = (b.0, e ∙ b.1, b.2)

  -- the slots of the places that it drew are as before
  pub knows-same : (homes now : Homes P) (v : View P) → ((place : ℕ) → place < length put → 0 < times place v.drawn → get_elem? now place ≡ get_elem? homes place) → K homes v → K now v
  knows-same homes now v same k = record {
    spent = k.spent;
    starts = k.starts;
    drew_first = k.drew_first;
    out = λ place lt drew none-home. same place lt drew ∙ k.out place lt drew none-home;
    back = λ place lt home. back-same homes now place (same place lt (omega (arith, k.drew_first place))) (k.back place lt home);
    few_past = k.few_past;
  }

  pub knows-blank : (homes : Homes P) → K homes blank
  knows-blank homes = record {
    spent = λ _. refl;
    starts = λ h. absurd (omega arith);
    drew_first = λ n. omega arith;
    out = λ place lt drew none-home. absurd (omega arith);
    back = λ place lt home. absurd (omega arith);
    few_past = omega arith;
  }

  -- a view that drew nothing
  pub knows-new : (homes : Homes P) (passes : ℕ) (v : View P) → 0 < passes → v.put ≡ put → K homes (record { passes = passes; put = v.put; drawn = []; home = [] })
  knows-new homes passes v one e = record {
    spent = λ h. absurd (omega arith);
    starts = λ _. e;
    drew_first = λ n. omega arith;
    out = λ place lt drew none-home. absurd (omega arith);
    back = λ place lt home. absurd (omega arith);
    few_past = omega arith;
  }

  -- the view that drew the number n
  pub knows-drew : (homes now : Homes P) (v : View P) (n : ℕ) → 0 < v.passes → times n v.drawn ≡ 0 → past (length put) v.drawn + past (length put) (n ∷ []) ≤ v.passes
      → ((place : ℕ) → place ≢ n → place < length put → get_elem? now place ≡ get_elem? homes place) → (n < length put → get_elem? now n ≡ some none) → K homes v → K now (with_number v n)
  knows-drew homes now v n one new few same here k =
      let counts : (place : ℕ) → times place (v.drawn ++ n ∷ []) ≡ times place v.drawn + times place (n ∷ []) = λ place. times-append place v.drawn (n ∷ []) in
      record {
        spent = λ h. absurd (omega arith);
        starts = k.starts;
        drew_first = λ place. omega (arith, counts place, k.drew_first place);
        out = λ place lt drew none-home. dite (ℕ_discrete n place)
            (λ e. ap (get_elem? now) (sym e) ∙ here (omega arith))
            (λ ne. same place (λ e. ne (sym e)) lt ∙ k.out place lt (omega (arith, drew, counts place, times-other place n ne)) none-home);
        back = λ place lt home. back-same homes now place
            (same place (λ e. absurd (omega (arith, k.drew_first place, home, subst (λ m. times m v.drawn ≡ 0) (sym e) new))) lt) (k.back place lt home);
        few_past = omega (arith, few, past-append (length put) v.drawn (n ∷ []));
      }

  -- the view that brought the slot of this place home
  pub knows-brought : (homes now : Homes P) (v : View P) (p : ℕ) → 0 < times p v.drawn → times p v.home ≡ 0 → B now p
      → ((place : ℕ) → place ≢ p → get_elem? now place ≡ get_elem? homes place) → K homes v → K now (with_home v (p ∷ []))
  knows-brought homes now v p drew not-yet here same k =
      let counts : (place : ℕ) → times place (v.home ++ p ∷ []) ≡ times place v.home + times place (p ∷ []) = λ place. times-append place v.home (p ∷ []) in
      record {
        spent = λ h. absurd (omega (arith, drew, ap (λ (u : View P). times p u.drawn) (k.spent h)));
        starts = k.starts;
        drew_first = λ place. dite (ℕ_discrete p place)
            (λ e. subst (λ m. times m (v.home ++ p ∷ []) ≤ times m v.drawn) e (omega (arith, counts p, times-same p p refl, not-yet, drew)))
            (λ ne. omega (arith, counts place, times-other place p ne, k.drew_first place));
        out = λ place lt drawn none-home. dite (ℕ_discrete p place)
            (λ e. absurd (omega (arith, none-home, counts place, times-same place p e)))
            (λ ne. same place (λ e. ne (sym e)) ∙ k.out place lt drawn (omega (arith, none-home, counts place)));
        back = λ place lt home. dite (ℕ_discrete p place)
            (λ e. subst (λ m. B now m) e here)
            (λ ne. back-same homes now place (same place (λ e. ne (sym e))) (k.back place lt (omega (arith, home, counts place, times-other place p ne))));
        few_past = k.few_past;
      }

  pub knows-joined : (homes : Homes P) (v w : View P) → 0 < v.passes → K homes v → K homes w → K homes (joined v w)
  knows-joined homes v w one k l =
      let drawn : (place : ℕ) → times place (v.drawn ++ w.drawn) ≡ times place v.drawn + times place w.drawn = λ place. times-append place v.drawn w.drawn in
      let home : (place : ℕ) → times place (v.home ++ w.home) ≡ times place v.home + times place w.home = λ place. times-append place v.home w.home in
      record {
        spent = λ h. absurd (omega arith);
        starts = λ _. k.starts one;
        drew_first = λ place. omega (arith, drawn place, home place, k.drew_first place, l.drew_first place);
        out = λ place lt drew none-home. dite (ℕ_discrete (times place v.drawn) 0)
            (λ none. l.out place lt (omega (arith, drew, drawn place)) (omega (arith, none-home, home place)))
            (λ more. k.out place lt (omega (arith, more)) (omega (arith, none-home, home place)));
        back = λ place lt at-home. dite (ℕ_discrete (times place v.home) 0)
            (λ none. l.back place lt (omega (arith, at-home, home place)))
            (λ more. k.back place lt (omega (arith, more)));
        few_past = omega (arith, past-append (length put) v.drawn w.drawn, k.few_past, l.few_past);
      }
