-- Tables of rooms that are filled by one pass over the links.
use Rattle.std.proofs.Common.{◌≡◌, ◌≢◌, ⊎_elim, ℕ, ◌<◌, Bool, true, false, List, [], ◌∷◌, ◌++◌, length, map, max, take, drop, refl, sym, ap, subst, ◌∙◌, arith}
use Rattle.std.specs.Prelude.{Some, option_map, slice_get, slice_set, slice_index_or, ◌&&◌, ◌==◌, if◌then◌else◌}
use Rattle.std.proofs.lemmas.Bool.{cases_eq, cases_lt, eq-eqb}
use Rattle.std.proofs.lemmas.Grind.{get_or-set_at}
use Rattle.std.proofs.lemmas.List.{get_or-map, get_or-set_other, get_or-replicate, length-map, length-replicate, length-set, map-set, set_past, take_at}
use Rattle.std.proofs.lemmas.Option.{get_or_from_slice_get, slice_get-map}
use Rattle.std.proofs.Math.ListN.{get_or-eq_default}
use Rattle.lowered_actor.specs.Actor.{Actor}
use Rattle.net_model.specs.declared.wiring.End.{End}
use Rattle.net_model.specs.declared.wiring.End.TheVariants.{Leaf as AtLeaf, Net as AtNet}
use Rattle.net_model.specs.declared.wiring.Link.{Link}
use Rattle.net_model.specs.Network.{is_leaf_port}
use Rattle.net_state.proofs.Gaining.{not_eq}
use Rattle.net_cells.specs.Rooms.{asked_at, end_at, queue_of}
use Rattle.net_cells.specs.Tables.{AreRoomsOf, filled, first_row, ports_of, room_at, row_at, widened, widened_row}

-- ---- one place

-- a row with a place is there
row_there : (table : List (List ℕ)) (i p : ℕ) → p < length (row_at table i) → i < length table
row_there table i p low = ⊎_elim (λ there. there)
    (λ past. let none : length (row_at table i) ≡ 0 = ap length (get_or-eq_default table [] past) in absurd (omega (arith, low, none)))
    (cases_lt i (length table))

row_set : (table : List (List ℕ)) (j i : ℕ) (row : List ℕ) → i ≡ j → j < length table → row_at (slice_set table j row) i ≡ row
row_set table j i row same there = get_or-set_at table j i row [] same there

row_kept : (table : List (List ℕ)) (j i : ℕ) (row : List ℕ) → i ≢ j → row_at (slice_set table j row) i ≡ row_at table i
row_kept table j i row differ = get_or-set_other table j i row [] differ

test_true : (i p j q : ℕ) → i ≡ j → p ≡ q → ((i == j) && (p == q)) ≡ true
test_true i p j q here there = rw (eq-eqb i j here, eq-eqb p q there) refl

test_row : (i p j q : ℕ) → i ≢ j → ((i == j) && (p == q)) ≡ false
test_row i p j q differ = rw (not_eq i j differ) refl

test_place : (i p j q : ℕ) → p ≢ q → ((i == j) && (p == q)) ≡ false
test_place i p j q differ = rw (not_eq p q differ) (none (i == j))
  where
    none : (b : Bool) → (b && false) ≡ false
    none true = refl
    none false = refl

so : (b : Bool) (x y : ℕ) → b ≡ true → (if b then x else y) ≡ x
so true x y e = refl
so false x y e = cc

not_so : (b : Bool) (x y : ℕ) → b ≡ false → (if b then x else y) ≡ y
not_so true x y e = cc
not_so false x y e = refl

widened_at : (end : End) (room : ℕ) (table : List (List ℕ)) (i p : ℕ) → p < length (row_at table i)
    → room_at (widened end room table) i p ≡ (if is_leaf_port i p end then max (room_at table i p) room else room_at table i p)
widened_at (AtNet port) room table i p low = refl
widened_at (AtLeaf inst port) room table i p low = ⊎_elim
    (λ here.
    let there : inst.0 < length table = subst (λ n. n < length table) here (row_there table i p low) in
    let row : row_at (slice_set table inst.0 (widened_row port room (row_at table inst.0))) i ≡ widened_row port room (row_at table inst.0) =
    row_set table inst.0 i (widened_row port room (row_at table inst.0)) here there in
    let low_there : p < length (row_at table inst.0) = subst (λ n. p < length (row_at table n)) here low in
    ⊎_elim
    (λ same.
    let low_port : port < length (row_at table inst.0) = subst (λ n. n < length (row_at table inst.0)) same low_there in
    ap (λ r. slice_index_or r p 0) row
    ∙ (get_or-set_at (row_at table inst.0) port p (max (slice_index_or (row_at table inst.0) port 0) room) 0 same low_port
    ∙ (ap (λ n. max (slice_index_or (row_at table inst.0) n 0) room) (sym same)
    ∙ (ap (λ n. max (room_at table n p) room) (sym here)
    ∙ sym (so ((i == inst.0) && (p == port)) (max (room_at table i p) room) (room_at table i p) (test_true i p inst.0 port here same))))))
    (λ differ.
    ap (λ r. slice_index_or r p 0) row
    ∙ (get_or-set_other (row_at table inst.0) port p (max (slice_index_or (row_at table inst.0) port 0) room) 0 differ
    ∙ (ap (λ n. room_at table n p) (sym here)
    ∙ sym (not_so ((i == inst.0) && (p == port)) (max (room_at table i p) room) (room_at table i p) (test_place i p inst.0 port differ)))))
    (cases_eq p port))
    (λ differ.
    ap (λ r. slice_index_or r p 0) (row_kept table inst.0 i (widened_row port room (row_at table inst.0)) differ)
    ∙ sym (not_so ((i == inst.0) && (p == port)) (max (room_at table i p) room) (room_at table i p) (test_row i p inst.0 port differ)))
    (cases_eq i inst.0)

widened_length : (end : End) (room : ℕ) (table : List (List ℕ)) (i : ℕ) → length (row_at (widened end room table) i) ≡ length (row_at table i)
widened_length (AtNet port) room table i = refl
widened_length (AtLeaf inst port) room table i = ⊎_elim
    (λ here. ⊎_elim
    (λ there.
    ap length (row_set table inst.0 i (widened_row port room (row_at table inst.0)) here there)
    ∙ (length-set (row_at table inst.0) port (max (slice_index_or (row_at table inst.0) port 0) room)
    ∙ ap (λ n. length (row_at table n)) (sym here)))
    (λ past. ap (λ t. length (row_at t i)) (set_past table inst.0 (widened_row port room (row_at table inst.0)) past))
    (cases_lt inst.0 (length table)))
    (λ differ. ap length (row_kept table inst.0 i (widened_row port room (row_at table inst.0)) differ))
    (cases_eq i inst.0)

widened_rows : (end : End) (room : ℕ) (table : List (List ℕ)) → length (widened end room table) ≡ length table
widened_rows (AtNet port) room table = refl
widened_rows (AtLeaf inst port) room table = length-set table inst.0 (widened_row port room (row_at table inst.0))

-- ---- all links

filled_length : (inward : Bool) (grow : ℕ) (links : List Link) (table : List (List ℕ)) (i : ℕ) → length (row_at (filled inward grow links table) i) ≡ length (row_at table i)
filled_length inward grow [] table i = refl
filled_length inward grow (link ∷ links) table i =
    filled_length inward grow links (widened (end_at inward link) (queue_of grow link) table) i ∙ widened_length (end_at inward link) (queue_of grow link) table i

filled_rows : (inward : Bool) (grow : ℕ) (links : List Link) (table : List (List ℕ)) → length (filled inward grow links table) ≡ length table
filled_rows inward grow [] table = refl
filled_rows inward grow (link ∷ links) table =
    filled_rows inward grow links (widened (end_at inward link) (queue_of grow link) table) ∙ widened_rows (end_at inward link) (queue_of grow link) table

joined : (b : Bool) (x q asked : ℕ) → max (if b then max x q else x) asked ≡ max x (if b then max q asked else asked)
joined true x q asked = omega arith
joined false x q asked = refl

filled_at : (inward : Bool) (grow : ℕ) (links : List Link) (table : List (List ℕ)) (i p : ℕ) → p < length (row_at table i)
    → room_at (filled inward grow links table) i p ≡ max (room_at table i p) (asked_at inward grow i p links)
filled_at inward grow [] table i p low = omega arith
filled_at inward grow (link ∷ links) table i p low =
    let next = widened (end_at inward link) (queue_of grow link) table in
    filled_at inward grow links next i p (subst (λ n. p < n) (sym (widened_length (end_at inward link) (queue_of grow link) table i)) low)
    ∙ (ap (λ n. max n (asked_at inward grow i p links)) (widened_at (end_at inward link) (queue_of grow link) table i p low)
    ∙ joined (is_leaf_port i p (end_at inward link)) (room_at table i p) (queue_of grow link) (asked_at inward grow i p links))

-- ---- from the first rows on

first_at : (inward : Bool) (least : ℕ) (codes : List Actor) (i : ℕ) (code : Actor) → slice_get codes i ≡ Some code
    → row_at (map (first_row inward least) codes) i ≡ first_row inward least code
first_at inward least codes i code at =
    get_or_from_slice_get (map (first_row inward least) codes) i (first_row inward least code) []
    (slice_get-map (first_row inward least) codes i ∙ ap (option_map (first_row inward least)) at)

pub rooms_are : (inward : Bool) (grow least : ℕ) (codes : List Actor) (links : List Link) (table : List (List ℕ))
    → table ≡ filled inward grow links (map (first_row inward least) codes) → AreRoomsOf inward grow least codes links table
rooms_are inward grow least codes links table is =
    let first = map (first_row inward least) codes in
    subst (AreRoomsOf inward grow least codes links) (sym is) (record {
      shape = record {
        rows = filled_rows inward grow links first ∙ length-map codes (first_row inward least);
        ports = λ i code at. filled_length inward grow links first i ∙ (ap length (first_at inward least codes i code at) ∙ length-replicate (ports_of inward code) least);
      };
      rooms = λ i p code at low.
          let row : row_at first i ≡ first_row inward least code = first_at inward least codes i code at in
          let long : length (first_row inward least code) ≡ ports_of inward code = length-replicate (ports_of inward code) least in
          let inside : p < length (row_at first i) = subst (λ r. p < length r) (sym row) (subst (λ n. p < n) (sym long) low) in
          filled_at inward grow links first i p inside
          ∙ ap (λ n. max n (asked_at inward grow i p links)) (ap (λ r. slice_index_or r p 0) row ∙ get_or-replicate (ports_of inward code) p least 0 low);
    })

-- ---- a row of the table in memory

pub widened_inside : {R : Type 0} (items : R → List ℕ) (table : List R) (j port room : ℕ) (d new : R) → j < length table
    → items new ≡ widened_row port room (items (slice_index_or table j d)) → map items (slice_set table j new) ≡ widened (AtLeaf (record { 0 = j }) port) room (map items table)
widened_inside items table j port room d new low is =
    let row : row_at (map items table) j ≡ items (slice_index_or table j d) = get_or-map items table j d [] low in
    map-set items table j new
    ∙ (ap (slice_set (map items table) j) is
    ∙ ap (λ r. slice_set (map items table) j (widened_row port room r)) (sym row))

-- what was lent as a slice and filled is the whole of the table
pub lent_whole : {R : Type 0} (items : R → List ℕ) (table lent new : List R) (n : ℕ) (inward : Bool) (grow : ℕ) (links : List Link) (first : List (List ℕ)) → lent ≡ table → length new ≡ n
    → map items table ≡ first → map items new ≡ filled inward grow links (map items lent) → map items (take n (new ++ drop (length new) table)) ≡ filled inward grow links first
lent_whole items table lent new n inward grow links first same long is filled_is =
    ap (map items) (take_at new (drop (length new) table) n long) ∙ (filled_is ∙ ap (filled inward grow links) (ap (map items) same ∙ is))
