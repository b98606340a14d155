-- The table of rooms.
use Rattle.std.proofs.Common.{◌≡◌, ◌≢◌, ℕ, zero, suc, ◌+◌, ◌-◌, ◌<◌, ◌≤◌, min, Bool, true, false, List, [], ◌∷◌, length, map, drop, replicate, refl, sym, ap, subst, ◌∙◌, ⊎_elim, arith}
use Rattle.std.specs.Prelude.{Option, None, Some, slice_get, slice_set, slice_index_or, if◌then◌else◌, ◌==◌, ◌&&◌}
use Rattle.std.proofs.lemmas.Bool.{cases_eq, eq-eqb}
use Rattle.std.proofs.lemmas.List.{length-set, length-replicate, get_or-replicate, get_or-set_same, get_or-set_other, drop_more, map-set, length-map}
use Rattle.std.proofs.lemmas.Option.{slice_get_within, slice_get-map, slice_get-get_or}
use Rattle.std.specs.Option.{option_map}
use Rattle.net_model.specs.declared.wiring.End.{End}
use Rattle.net_model.specs.declared.wiring.End.TheVariants.{Leaf as AtLeaf, Net as AtNet}
use Rattle.net_model.specs.declared.wiring.Link.{Link}
use Rattle.net_model.specs.Network.{is_leaf_port}
use Rattle.net_model.specs.Cell.{unread_room}
use Rattle.net_state.specs.Held.{HasShapeOf, HasPlace, OnRow, IsRoomTable, IsWide, Narrows, room_of}
use Rattle.net_state.proofs.Gaining.{some_is, get_set_same, get_set_other, there_too, not_eq}
use Rattle.net_state.proofs.Coming.{drop_at}

pub same_shape : (table : List (List ℕ)) → HasShapeOf table table
same_shape table = record { rows = refl; widths = λ i before after at there. ap (λ row. length row) (some_is after before (sym there ∙ at)) }

pub shape_then : (a b c : List (List ℕ)) → HasShapeOf a b → HasShapeOf b c → HasShapeOf a c
shape_then a b c one two = record {
  rows = two.rows ∙ one.rows;
  widths = λ i before after at there.
      let mid = there_too a b i before (sym one.rows) at in
      two.widths i mid.0 after mid.1 there ∙ one.widths i before mid.0 at mid.1;
}

-- one row is set to one as long
pub shape_set : (table : List (List ℕ)) (i : ℕ) (row new : List ℕ) → slice_get table i ≡ Some row → length new ≡ length row → HasShapeOf table (slice_set table i new)
shape_set table i row new at same = record {
  rows = length-set table i new;
  widths = λ k before after was is. ⊎_elim
      (λ here.
      let before_is : before ≡ row = some_is before row (sym was ∙ (ap (slice_get table) here ∙ at)) in
      let after_is : after ≡ new = some_is after new (sym is ∙ (ap (slice_get (slice_set table i new)) here ∙ get_set_same table i row new at)) in
      ap (λ r. length r) after_is ∙ (same ∙ sym (ap (λ r. length r) before_is)))
      (λ differ. ap (λ r. length r) (some_is after before (sym is ∙ (get_set_other table k i new differ ∙ was))))
      (cases_eq k i);
}

-- rows that are set to the widest
pub record IsWidening (n : ℕ) (old now : List (List ℕ)) : Type 0 where
  pub shape : HasShapeOf old now
  pub wide : IsWide n now

pub widening_starts : (table : List (List ℕ)) → IsWidening 0 table table
widening_starts table = record { shape = same_shape table; wide = λ i p row low. absurd (omega (arith, low)) }

pub widening_more : (n : ℕ) (old now : List (List ℕ)) (row : List ℕ) → IsWidening n old now → slice_get now n ≡ Some row
    → IsWidening (n + 1) old (slice_set now n (replicate (length row) unread_room))
widening_more n old now row so_far at = record {
  shape = shape_then old now (slice_set now n (replicate (length row) unread_room)) so_far.shape
      (shape_set now n row (replicate (length row) unread_room) at (length-replicate (length row) unread_room));
  wide = λ i p after low is within. ⊎_elim
      (λ here.
      let after_is : after ≡ replicate (length row) unread_room =
      some_is after _ (sym is ∙ (ap (slice_get (slice_set now n (replicate (length row) unread_room))) here ∙ get_set_same now n row (replicate (length row) unread_room) at)) in
      let len : length after ≡ length row = ap (λ r. length r) after_is ∙ length-replicate (length row) unread_room in
      ap (λ r. slice_index_or r p 0) after_is ∙ get_or-replicate (length row) p unread_room 0 (omega (arith, len, within)))
      (λ differ. so_far.wide i p after (omega (arith, low, differ)) (sym (get_set_other now i n (replicate (length row) unread_room) differ) ∙ is) within)
      (cases_eq i n);
}

-- One place of the table.

pub on_row : (o : Option (List ℕ)) (P : List ℕ → Type 0) → OnRow o P → (row : List ℕ) × (o ≡ Some row) × P row
on_row None P h = absurd h
on_row (Some row) P h = (row, refl, h)

same_port : (i p j q : ℕ) → i ≡ j → p ≡ q → ((i == j) && (p == q)) ≡ true
same_port i p j q here there = rw (eq-eqb i j here, eq-eqb p q there) refl

other_row : (i p j q : ℕ) → i ≢ j → ((i == j) && (p == q)) ≡ false
other_row i p j q differ = rw (not_eq i j differ) refl

other_place : (i p j q : ℕ) → p ≢ q → ((i == j) && (p == q)) ≡ false
other_place i p j q differ = rw (not_eq p q differ) (none (i == j))
  where
    none : (b : Bool) → (b && false) ≡ false
    none true = refl
    none false = refl

pub narrowed : (table : List (List ℕ)) (j q room : ℕ) (row : List ℕ) → slice_get table j ≡ Some row → q < length row
    → Narrows (AtLeaf (record { 0 = j }) q) room table (slice_set table j (slice_set row q (min room (slice_index_or row q 0))))
narrowed table j q room row at low = record {
  shape = shape_set table j row (slice_set row q (min room (slice_index_or row q 0))) at (length-set row q (min room (slice_index_or row q 0)));
  each = λ i p before after was is within. ⊎_elim
      (λ here.
      let before_is : before ≡ row = some_is before row (sym was ∙ (ap (slice_get table) here ∙ at)) in
      let after_is : after ≡ slice_set row q (min room (slice_index_or row q 0)) =
      some_is after _ (sym is ∙ (ap (slice_get (slice_set table j (slice_set row q (min room (slice_index_or row q 0))))) here ∙ get_set_same table j row _ at)) in
      ⊎_elim
      (λ there.
      let test : ((i == j) && (p == q)) ≡ true = same_port i p j q here there in
      ap (λ r. slice_index_or r p 0) after_is
      ∙ (ap (λ k. slice_index_or (slice_set row q (min room (slice_index_or row q 0))) k 0) there
      ∙ (get_or-set_same row q (min room (slice_index_or row q 0)) 0 low
      ∙ (ap (λ k. min room (slice_index_or row k 0)) (sym there)
      ∙ (ap (λ r. min room (slice_index_or r p 0)) (sym before_is)
      ∙ sym (if_so ((i == j) && (p == q)) (min room (slice_index_or before p 0)) (slice_index_or before p 0) test))))))
      (λ differ.
      ap (λ r. slice_index_or r p 0) after_is
      ∙ (get_or-set_other row q p (min room (slice_index_or row q 0)) 0 differ
      ∙ (ap (λ r. slice_index_or r p 0) (sym before_is)
      ∙ sym (if_not ((i == j) && (p == q)) (min room (slice_index_or before p 0)) (slice_index_or before p 0) (other_place i p j q differ)))))
      (cases_eq p q))
      (λ differ.
      let after_is : after ≡ before = some_is after before (sym is ∙ (get_set_other table i j _ differ ∙ was)) in
      ap (λ r. slice_index_or r p 0) after_is
      ∙ sym (if_not ((i == j) && (p == q)) (min room (slice_index_or before p 0)) (slice_index_or before p 0) (other_row i p j q differ)))
      (cases_eq i j);
}
  where
    if_so : (b : Bool) (x y : ℕ) → b ≡ true → (if b then x else y) ≡ x
    if_so true x y e = refl
    if_so false x y e = cc

    if_not : (b : Bool) (x y : ℕ) → b ≡ false → (if b then x else y) ≡ y
    if_not true x y e = cc
    if_not false x y e = refl

-- The whole table, from the last link on.

pub record IsNarrowing (l : ℕ) (links : List Link) (capacities waited : List ℕ) (old now : List (List ℕ)) : Type 0 where
  pub shape : HasShapeOf old now
  pub rooms : IsRoomTable (drop l links) (drop l capacities) (drop l waited) now

drop_past : {A : Type 0} (xs : List A) (n : ℕ) → length xs ≤ n → drop n xs ≡ []
drop_past [] zero few = refl
drop_past [] (suc n) few = refl
drop_past (x ∷ xs) zero few = absurd (omega (arith, few))
drop_past (x ∷ xs) (suc n) few = drop_past xs n (omega (arith, few))

pub narrowing_starts : (l : ℕ) (links : List Link) (capacities waited : List ℕ) (old now : List (List ℕ)) → length links ≤ l
    → HasShapeOf old now → IsWide (length now) now → IsNarrowing l links capacities waited old now
narrowing_starts l links capacities waited old now all shape wide = record {
  shape = shape;
  rooms = λ i p row at within. wide i p row (slice_get_within now i row at) at within
      ∙ sym (ap (λ ls. room_of i p ls (drop l capacities) (drop l waited)) (drop_past links l all));
}

drop_number : (l : ℕ) (xs : List ℕ) → l < length xs → drop l xs ≡ slice_index_or xs l 0 ∷ drop (suc l) xs
drop_number l xs low = let same : l + 1 ≡ suc l = omega arith in drop_more xs l 0 low ∙ ap (λ n. slice_index_or xs l 0 ∷ drop n xs) same

pub narrowing_more : (l : ℕ) (links : List Link) (capacities waited : List ℕ) (old now new : List (List ℕ)) (link : Link)
    → IsNarrowing (suc l) links capacities waited old now → slice_get links l ≡ Some link → l < length capacities → l < length waited
    → Narrows link.from (slice_index_or capacities l 0 - slice_index_or waited l 0) now new → IsNarrowing l links capacities waited old new
narrowing_more l links capacities waited old now new link so_far at some_capacity some_count narrows = record {
  shape = shape_then old now new so_far.shape narrows.shape;
  rooms = λ i p row is within.
      let before = there_too new now i row narrows.shape.rows is in
      let len : length row ≡ length before.0 = narrows.shape.widths i before.0 row before.1 is in
      let room : slice_index_or before.0 p 0 ≡ room_of i p (drop (suc l) links) (drop (suc l) capacities) (drop (suc l) waited) =
      so_far.rooms i p before.0 before.1 (omega (arith, len, within)) in
      narrows.each i p before.0 row before.1 is (omega (arith, len, within))
      ∙ (ap (λ n. if is_leaf_port i p link.from then min (slice_index_or capacities l 0 - slice_index_or waited l 0) n else n) room
      ∙ sym (ap (λ ls. room_of i p ls (drop l capacities) (drop l waited)) (drop_at l links link at)
      ∙ (ap (λ cs. room_of i p (link ∷ drop (suc l) links) cs (drop l waited)) (drop_number l capacities some_capacity)
      ∙ ap (λ ws. room_of i p (link ∷ drop (suc l) links) (slice_index_or capacities l 0 ∷ drop (suc l) capacities) ws) (drop_number l waited some_count))));
}

-- Tables of code: rows of vectors.

pub seen : {C D : Type 0} (view : C → D) (xs : List C) (i : ℕ) (d : C) → i < length xs → slice_get (map view xs) i ≡ Some (view (slice_index_or xs i d))
seen view xs i d low = slice_get-map view xs i ∙ ap (option_map view) (slice_get-get_or xs i d low)

module _ {C : Type 0} (view : C → List ℕ) where
  pub narrowed_row : (table : List C) (j q room : ℕ) (d new : C) → HasPlace (map view table) (AtLeaf (record { 0 = j }) q)
      → view new ≡ slice_set (view (slice_index_or table j d)) q (min room (slice_index_or (view (slice_index_or table j d)) q 0))
      → Narrows (AtLeaf (record { 0 = j }) q) room (map view table) (map view (slice_set table j new))
  narrowed_row table j q room d new place is =
      let on = on_row (slice_get (map view table) j) (λ row. q < length row) place in
      let low : j < length table = omega (arith, slice_get_within (map view table) j on.0 on.1, length-map table view) in
      let here = seen view table j d low in
      let row_is : on.0 ≡ view (slice_index_or table j d) = some_is on.0 (view (slice_index_or table j d)) (sym on.1 ∙ here) in
      subst (Narrows (AtLeaf (record { 0 = j }) q) room (map view table)) (sym (map-set view table j new ∙ ap (slice_set (map view table) j) is))
      (narrowed (map view table) j q room (view (slice_index_or table j d)) here (subst (λ row. q < length row) row_is on.2))

  pub widened_row : (n : ℕ) (old : List (List ℕ)) (now : List C) (d new : C) → IsWidening n old (map view now) → n < length now
      → view new ≡ replicate (length (view (slice_index_or now n d))) unread_room → IsWidening (n + 1) old (map view (slice_set now n new))
  widened_row n old now d new so_far low is =
      subst (IsWidening (n + 1) old) (sym (map-set view now n new ∙ ap (slice_set (map view now) n) is))
      (widening_more n old (map view now) (view (slice_index_or now n d)) so_far (seen view now n d low))

pub place_stays : (old new : List (List ℕ)) (end : End) → HasShapeOf old new → HasPlace old end → HasPlace new end
place_stays old new (AtNet port) shape place = tt
place_stays old new (AtLeaf inst port) shape place =
    let on = on_row (slice_get old inst.0) (λ row. port < length row) place in
    let later = there_too old new inst.0 on.0 (sym shape.rows) on.1 in
    let same : length later.0 ≡ length on.0 = shape.widths inst.0 on.0 later.0 on.1 later.1 in
    subst (λ o. OnRow o (λ row. port < length row)) (sym later.1) (let low : port < length on.0 = on.2 in let fits : port < length later.0 = omega (arith, same, low) in fits)

pub narrowing_all : (links : List Link) (capacities waited : List ℕ) (old now : List (List ℕ)) (l : ℕ) → IsNarrowing l links capacities waited old now
    → l ≡ 0 → IsRoomTable links capacities waited now
narrowing_all links capacities waited old now l so_far none =
    let all : IsNarrowing 0 links capacities waited old now = subst (λ n. IsNarrowing n links capacities waited old now) none so_far in all.rooms
