-- Cells of actors.
use Rattle.std.proofs.Common.{◌≡◌, ⊎_elim, ℕ, suc, ◌+◌, ◌<◌, ◌≤◌, Bool, List, [], ◌∷◌, ◌++◌, length, sym, ap, subst, ◌∙◌, arith, length-append}
use Rattle.std.specs.Prelude.{All, Some, slice_get}
use Rattle.std.proofs.lemmas.Bool.{cases_lt}
use Rattle.std.proofs.lemmas.List.Elements.{All-nil, All-cons}
use Rattle.std.proofs.lemmas.Option.{slice_get_within}
use Rattle.lowered_actor.specs.Actor.{Actor}
use Rattle.net_model.specs.declared.wiring.Link.{Link}
use Rattle.net_model.specs.Cell.{number_on}
use Rattle.net_state.proofs.Gaining.{some_is}
use Rattle.net_state.proofs.Starting.{get_pushed}
use Rattle.round_runner.specs.declared.outcome.Plan.{Plan}
use Rattle.actor_cell.specs.Core.{Core, seen}
use Rattle.kit_runs.specs.Rooms.{AreRoomsOf, room_at}
use Rattle.kit_runs.specs.Cells.{AreCellsOf, IsCellOf}
use Rattle.kit_runs.proofs.Roomy.{at_least}

pub cells_more : (actors : List Actor) (links : List Link) (plan : Plan) (cells : List Core) (i : ℕ) (actor : Actor) (cell : Core) → slice_get actors i ≡ Some actor
    → AreCellsOf i actors links plan cells → IsCellOf actor links plan i (seen cell) → AreCellsOf (i + 1) actors links plan (cells ++ cell ∷ [])
cells_more actors links plan cells i actor cell at so_far is = record {
  count = length-append cells (cell ∷ []) ∙ ap (λ n. n + 1) so_far.count;
  each = λ k other there here found.
      let pushed = get_pushed cells cell k there found in
      let long : length (cells ++ cell ∷ []) ≡ length cells + 1 = length-append cells (cell ∷ []) in
      let low : k < length (cells ++ cell ∷ []) = slice_get_within (cells ++ cell ∷ []) k there found in
      let same : length cells ≡ i = so_far.count in
      ⊎_elim
      (λ before. so_far.each k other there here (pushed.0 before))
      (λ high.
      let last : k ≡ length cells = omega (arith, high, low, long) in
      let here_i : k ≡ i = last ∙ same in
      let cell_is : there ≡ cell = pushed.1 last in
      let actor_is : actor ≡ other = some_is actor other (sym at ∙ subst (λ n. slice_get actors n ≡ Some other) here_i here) in
      subst (λ n. IsCellOf other links plan n (seen there)) (sym here_i)
      (subst (λ c. IsCellOf other links plan i (seen c)) (sym cell_is)
      (subst (λ a. IsCellOf a links plan i (seen cell)) actor_is is)))
      (cases_lt k (length cells));
}

each_one : (rooms : List ℕ) → ((p : ℕ) → p < length rooms → 1 ≤ number_on rooms p) → All (λ room. 1 ≤ room) rooms
each_one [] h = All-nil (λ room. 1 ≤ room)
each_one (room ∷ rooms) h = All-cons (λ n. 1 ≤ n) room rooms (h 0 (omega arith)) (each_one rooms (λ p low. h (suc p) (omega (arith, low))))

-- rooms that are one at least
pub roomy : (inward : Bool) (grow i : ℕ) (links : List Link) (ports : ℕ) (rooms : List ℕ) → AreRoomsOf inward grow i 1 links ports rooms → All (λ room. 1 ≤ room) rooms
roomy inward grow i links ports rooms are = each_one rooms (λ p low.
    let most : 1 ≤ room_at inward grow i p 1 links = at_least inward grow i p 1 links in
    subst (λ n. 1 ≤ n) (sym (are.each p (subst (λ n. p < n) are.count low))) most)
