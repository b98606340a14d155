-- The table holds the chains that pass only the first numbers.
use Rattle.std.proofs.Common.{ℕ, ◌+◌, ◌<◌, Bool, List, ◌⊎◌, ⊎_elim, inl, inr}
use Rattle.std.specs.Prelude.{◌↔◌, IsTrue}
use Rattle.rvc_base.specs.Chain.{IsAbove}
use Rattle.priority_order.specs.Ranking.{cell}
use Rattle.priority_order.specs.Closed.{IsInRange}
use Rattle.priority_order.proofs.Cells.{Marks}
use Rattle.priority_order.proofs.Chains.{IsAboveBy, above_by_none, above_by_more, above_by_all}

abbrev pub ClosedBelow : List (ℕ × ℕ) → ℕ → ℕ → List Bool → Type 0
ClosedBelow pairs n bound cells = (a b : ℕ) → a < n → b < n → IsTrue (cell n cells a b) ↔ IsAboveBy pairs bound a b

pub closed_none : (pairs : List (ℕ × ℕ)) (n : ℕ) (cells : List Bool) → Marks pairs n cells → ClosedBelow pairs n 0 cells
closed_none pairs n cells marks a b a_in b_in =
    let here = marks a b a_in b_in in
    let alone = above_by_none pairs a b in
    (λ e. alone.1 (here.0 e), λ h. here.1 (alone.0 h))

pub closed_more : (pairs : List (ℕ × ℕ)) (n bound : ℕ) (cells new : List Bool) → bound < n → ClosedBelow pairs n bound cells → ((a b : ℕ) → a < n → b < n → IsTrue (cell n new a b) ↔ (IsTrue (cell n cells a b) ⊎ (IsTrue (cell n cells a bound) × IsTrue (cell n cells bound b)))) → ClosedBelow pairs n (bound + 1) new
closed_more pairs n bound cells new bound_in so_far next a b a_in b_in =
    let more = above_by_more pairs bound a b in
    let here = next a b a_in b_in in
    let whole = so_far a b a_in b_in in
    let front = so_far a bound a_in bound_in in
    let back = so_far bound b bound_in b_in in (
      λ e. more.1 (⊎_elim (λ was. inl (whole.0 was)) (λ both. inr (front.0 both.0, back.0 both.1)) (here.0 e)),
      λ h. here.1 (⊎_elim (λ by. inl (whole.1 by)) (λ both. inr (front.1 both.0, back.1 both.1)) (more.0 h)),
    )

pub closed_all : (pairs : List (ℕ × ℕ)) (n : ℕ) (cells : List Bool) → IsInRange pairs n → ClosedBelow pairs n n cells → (a b : ℕ) → a < n → b < n → IsTrue (cell n cells a b) ↔ IsAbove pairs a b
closed_all pairs n cells in_range closed a b a_in b_in =
    let all = above_by_all pairs n a b in_range in
    let here = closed a b a_in b_in in
    (λ e. all.0 (here.0 e), λ h. here.1 (all.1 h))
