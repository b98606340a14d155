-- Cells that are made by tables of rooms.
use Rattle.std.proofs.Common.{◌≡◌, ⊎_elim, ℕ, zero, suc, ◌+◌, ◌<◌, ◌≤◌, true, false, List, [], ◌∷◌, ◌++◌, length, map, max, refl, sym, ap, subst, ◌∙◌, arith, length-append}
use Rattle.std.specs.Prelude.{All, Err, IfOk, Ok, Result, Some, slice_get, slice_index_or}
use Rattle.std.specs.List.{range_with_len}
use Rattle.std.proofs.Math.ListN.{get_or-eq_default}
use Rattle.std.proofs.lemmas.Bool.{cases_lt}
use Rattle.std.proofs.lemmas.List.Elements.{All-nil, All-cons}
use Rattle.std.proofs.lemmas.List.FromFn.{get_or-map-range_with_len}
use Rattle.std.proofs.lemmas.Option.{slice_get_within}
use Rattle.lowered_actor.specs.Actor.{Actor}
use Rattle.lowered_actor.specs.Meaning.{ActorState}
use Rattle.net_model.specs.declared.wiring.Link.{Link}
use Rattle.net_model.specs.Cell.{Cell, number_on}
use Rattle.net_state.proofs.Starting.{get_pushed}
use Rattle.actor_cell.specs.Core.{IsAtStart}
use Rattle.net_cells.specs.Cells.{AreCellsOf}
use Rattle.net_cells.specs.Rooms.{asked_at, in_rooms, out_rooms}
use Rattle.net_cells.specs.Tables.{AreCellsBy, AreRoomsOf, AreRoomy, IsCellBy, room_at, row_at}

pub cells_none : (codes : List Actor) (ins outs : List (List ℕ)) (burst : ℕ) → AreCellsBy 0 codes ins outs burst []
cells_none codes ins outs burst = record { count = refl; each = λ i cell at. cc }

pub cells_more : (codes : List Actor) (ins outs : List (List ℕ)) (burst i : ℕ) (cells : List (Cell ActorState)) (cell : Cell ActorState) → AreCellsBy i codes ins outs burst cells
    → IsCellBy codes ins outs burst i cell → AreCellsBy (i + 1) codes ins outs burst (cells ++ cell ∷ [])
cells_more codes ins outs burst i cells cell so_far is = record {
  count = length-append cells (cell ∷ []) ∙ ap (λ n. n + 1) so_far.count;
  each = λ k there found.
      let pushed = get_pushed cells cell k there found in
      let long : length (cells ++ cell ∷ []) ≡ length cells + 1 = length-append cells (cell ∷ []) in
      let low : k < length (cells ++ cell ∷ []) = slice_get_within (cells ++ cell ∷ []) k there found in
      ⊎_elim
      (λ before. so_far.each k there (pushed.0 before))
      (λ high.
      let last : k ≡ length cells = omega (arith, high, low, long) in
      let here : i ≡ k = sym (last ∙ so_far.count) in
      subst (λ n. IsCellBy codes ins outs burst n there) here
      (subst (λ c. IsCellBy codes ins outs burst i c) (sym (pushed.1 last)) is))
      (cases_lt k (length cells));
}

-- ---- rooms

each_one : (rooms : List ℕ) → ((p : ℕ) → p < length rooms → 1 ≤ slice_index_or rooms p 0) → All (λ room. 1 ≤ room) rooms
each_one [] h = All-nil (λ room. 1 ≤ room)
each_one (room ∷ rooms) h = All-cons (λ n. 1 ≤ n) room rooms (h 0 (omega arith)) (each_one rooms (λ p low. h (suc p) (omega (arith, low))))

there_is : (codes : List Actor) (i : ℕ) → i < length codes → (code : Actor) × (slice_get codes i ≡ Some code)
there_is [] i low = absurd (omega (arith, low))
there_is (code ∷ codes) zero low = (code, refl)
there_is (code ∷ codes) (suc i) low = there_is codes i (omega (arith, low))

-- a table of rooms, each of which is one at least
pub roomy : (grow : ℕ) (codes : List Actor) (links : List Link) (table : List (List ℕ)) → AreRoomsOf true grow 1 codes links table → AreRoomy table
roomy grow codes links table are i = ⊎_elim
    (λ low.
    let code = there_is codes i (subst (λ n. i < n) are.shape.rows low) in
    each_one (row_at table i) (λ p inside.
    let room : room_at table i p ≡ max 1 (asked_at true grow i p links) =
    are.rooms i p code.0 code.1 (subst (λ n. p < n) (are.shape.ports i code.0 code.1) inside) in
    omega (arith, room)))
    (λ past. subst (All (λ room. 1 ≤ room)) (sym (get_or-eq_default table [] past)) (All-nil (λ room. 1 ≤ room)))
    (cases_lt i (length table))

at_port : (f : ℕ → ℕ) (n p : ℕ) → p < n → number_on (map f (range_with_len 0 n)) p ≡ f p
at_port f n p low = get_or-map-range_with_len f 0 n p p 0 low (omega arith)

starts_with : (grow : ℕ) (codes : List Actor) (links : List Link) (burst i : ℕ) (ins outs : List (List ℕ)) (code : Actor) (cell : Cell ActorState)
    → AreRoomsOf true grow 1 codes links ins → AreRoomsOf false grow 0 codes links outs → slice_get codes i ≡ Some code
    → IsAtStart code (row_at ins i) (row_at outs i) burst cell → IsAtStart code (in_rooms code links grow i) (out_rooms code links grow i) burst cell
starts_with grow codes links burst i ins outs code cell in_rows out_rows at start = record {
  is_of = start.is_of;
  state = start.state;
  nothing_in = start.nothing_in;
  nothing_out = start.nothing_out;
  inbox_capacities = λ p low. start.inbox_capacities p low
      ∙ (in_rows.rooms i p code at low ∙ sym (at_port (λ q. max 1 (asked_at true grow i q links)) code.ins p low));
  outbox_capacities = λ p low.
      let asked : max 0 (asked_at false grow i p links) ≡ asked_at false grow i p links = omega arith in
      start.outbox_capacities p low
      ∙ (out_rows.rooms i p code at low ∙ (asked ∙ sym (at_port (λ q. asked_at false grow i q links) code.outs p low)));
  journal = start.journal;
  journal_room = start.journal_room;
  untrapped = start.untrapped;
}

pub cells_are : (grow : ℕ) (codes : List Actor) (links : List Link) (burst n : ℕ) (ins outs : List (List ℕ)) (cells : List (Cell ActorState)) → n ≡ length codes
    → AreRoomsOf true grow 1 codes links ins → AreRoomsOf false grow 0 codes links outs → AreCellsBy n codes ins outs burst cells
    → AreCellsOf codes links burst grow cells
cells_are grow codes links burst n ins outs cells all in_rows out_rows are = record {
  one_each = are.count ∙ all;
  starts = λ i code cell at there. starts_with grow codes links burst i ins outs code cell in_rows out_rows at (are.each i cell there code at);
}

-- what is answered with success has what follows from what it has
pub on_success : {A E : Type 0} (result : Result A E) (P Q : A → Type 0) → ((x : A) → P x → Q x) → IfOk result P → IfOk result Q
on_success (Ok x) P Q follows is = follows x is
on_success (Err e) P Q follows is = tt
