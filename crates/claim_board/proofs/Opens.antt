-- A board that was just opened meets the rule.
use Rattle.std.proofs.Common.{◌≡◌, ℕ, zero, suc, ◌<◌, List, [], ◌∷◌, map, length, sym, refl, ap, ◌∙◌, subst, Bool, arith}
use Rattle.std.proofs.lemmas.List.{length-map}
use mathlib.Core.Option.{some, some-injective, some-ne-none}
use lib.ListN.{get_elem?}
use Rattle.atomic_table.specs.Table.{opening}
use Rattle.atomic_table.proofs.Lists.{at_map, at_last}
use Rattle.claim_board.specs.declared.slot.Slot.{Slot}
use Rattle.claim_board.specs.declared.slot.Slot.TheVariants.{Holds}
use Rattle.claim_board.specs.declared.view.View.{View}
use Rattle.claim_board.specs.Rule.{Knows, Kept}
use Rattle.claim_board.specs.Steps.{first_view}
use Rattle.claim_board.specs.Layout.{holding, IsLaidOut}
use Rattle.claim_board.proofs.Sums.{once-beyond}
use Rattle.claim_board.proofs.Views.{Homes, knows-new}
use Rattle.claim_board.proofs.Slots.{held-at, held-length, laid-length}

module _ {P X : Type 0} (state : P → X) (marked : P → Bool) (works : X → X → Type 0) (put : List P) (passes : ℕ) where
  only-view : (homes : Homes P) → 0 < passes → (seat : ℕ) (v : View P) → get_elem? (first_view put passes ∷ []) seat ≡ some v → Knows state marked works put homes v
  only-view homes one zero v e = subst (λ (u : View P). Knows state marked works put homes u) (some-injective (first_view put passes) v e) (knows-new state marked works put homes passes (first_view put passes) one refl)
  only-view homes one (suc seat) v e = absurd (some-ne-none v (sym e))

  pub opens : (slots : List (Slot P)) → 0 < passes → IsLaidOut put slots → Kept state marked works put passes (opening (0 ∷ []) slots (first_view put passes))
  opens slots one laid = record {
    counter = 0;
    word = refl;
    slots = length-map slots some ∙ laid-length put slots laid;
    room = (laid.0, at_map some slots (length put) laid.0 (ap (λ (l : List (Slot P)). get_elem? l (length put)) laid.1 ∙ at_last (holding put) laid.0 (length put) (held-length put)), laid.2);
    shared_out = omega arith;
    each_view = λ seat v e. only-view (map some slots) one seat v e;
    drawn_once = λ n. sym (once-beyond 0 n (omega arith));
    waiting = λ place piece le is. at_map some slots place (Holds piece) (ap (λ (l : List (Slot P)). get_elem? l place) laid.1 ∙ held-at put laid.0 place piece is);
    bounded = omega arith;
  }
