-- Bursts that several workers share: parts that are joined, and what they leave as one worker leaves it.
use Rattle.std.proofs.Common.{◌≡◌, ℕ, zero, suc, ◌+◌, ◌*◌, ◌≤◌, Bool, true, false, List, [], ◌∷◌, ◌++◌, length, length-append, map, take, drop, refl, sym, ap, subst, ◌∙◌, arith, append_assoc}
use Rattle.std.specs.Prelude.{Option, None, Some, slice_get, slice_set}
use Rattle.std.proofs.lemmas.List.{length-map, map-append}
use Rattle.net_model.specs.declared.wiring.Link.{Link}
use Rattle.net_model.specs.Cell.{Cell}
use Rattle.net_model.specs.Paced.{count_picked}
use Rattle.net_state.specs.declared.made.Bursts.{Bursts as Made}
use Rattle.net_state.specs.declared.made.Lacking.{Lacking}
use Rattle.net_state.specs.declared.made.Trapped.{Trapped}
use Rattle.net_state.specs.declared.sharing.Part.{Part}
use Rattle.net_state.specs.declared.sharing.Shares.{Shares}
use Rattle.net_state.specs.Held.{HasRooms, IsWorking, held_of}
use Rattle.net_state.specs.Made.{first_of, joined, made_by, none_made}
use Rattle.net_state.specs.Sharing.{AreFresh, EachBursts, IsPart, WorkEach, Works, bursts, none_left, share_of, stays}
use Rattle.net_state.specs.Working.{BurstsAt, journal_of}
use Rattle.net_state.proofs.Bursting.{burst_rooms, burst_same, burst_working, burst_works, rooms_of_cell}

-- What came of bursts.

same_made : (low high : Made) → low.fired ≡ high.fired → low.trap ≡ high.trap → low.lacks ≡ high.lacks → low ≡ high
same_made low high fired trap lacks =
    ap (λ n. of n low.trap low.lacks) fired ∙ (ap (λ t. of high.fired t low.lacks) trap ∙ ap (λ l. of high.fired high.trap l) lacks)
  where
    of : ℕ → Option Trapped → Option Lacking → Made
    of fired trap lacks = record { fired = fired; trap = trap; lacks = lacks }

first_then : {A : Type 0} (a b c : Option A) → first_of (first_of a b) c ≡ first_of a (first_of b c)
first_then None b c = refl
first_then (Some x) b c = refl

first_alone : {A : Type 0} (a : Option A) → first_of a None ≡ a
first_alone None = refl
first_alone (Some x) = refl

none_joined : (made : Made) → joined none_made made ≡ made
none_joined made = same_made (joined none_made made) made (omega arith) refl refl

pub joined_none : (made : Made) → joined made none_made ≡ made
joined_none made = same_made (joined made none_made) made (omega arith) (first_alone made.trap) (first_alone made.lacks)

joined_then : (a b c : Made) → joined (joined a b) c ≡ joined a (joined b c)
joined_then a b c = same_made (joined (joined a b) c) (joined a (joined b c)) (omega arith) (first_then a.trap b.trap c.trap) (first_then a.lacks b.lacks c.lacks)

-- Places.

get_low : {A : Type 0} (xs ys : List A) (k : ℕ) (x : A) → slice_get xs k ≡ Some x → slice_get (xs ++ ys) k ≡ Some x
get_low [] ys k x at = cc
get_low (z ∷ xs) ys zero x at = at
get_low (z ∷ xs) ys (suc k) x at = get_low xs ys k x at

get_high : {A : Type 0} (xs ys : List A) (k n : ℕ) → k ≡ length xs + n → slice_get (xs ++ ys) k ≡ slice_get ys n
get_high [] ys k n at = (let e : k ≡ n = omega (arith, at) in ap (slice_get ys) e)
get_high (x ∷ xs) ys zero n at = absurd (omega (arith, at))
get_high (x ∷ xs) ys (suc k) n at = get_high xs ys k n (omega (arith, at))

set_there : {A : Type 0} (xs ys : List A) (k : ℕ) (x y : A) → length xs ≡ k → slice_set (xs ++ x ∷ ys) k y ≡ xs ++ y ∷ ys
set_there [] ys zero x y at = refl
set_there [] ys (suc k) x y at = absurd (omega (arith, at))
set_there (z ∷ xs) ys zero x y at = absurd (omega (arith, at))
set_there (z ∷ xs) ys (suc k) x y at = ap (λ zs. z ∷ zs) (set_there xs ys k x y (omega (arith, at)))

pub count_both : (marks more : List Bool) → count_picked (marks ++ more) ≡ count_picked marks + count_picked more
count_both [] more = omega arith
count_both (true ∷ marks) more = let rest : count_picked (marks ++ more) ≡ count_picked marks + count_picked more = count_both marks more in omega (arith, rest)
count_both (false ∷ marks) more = count_both marks more

pub take_length : {A : Type 0} (xs : List A) (k : ℕ) → k ≤ length xs → length (take k xs) ≡ k
take_length [] zero few = refl
take_length [] (suc k) few = absurd (omega (arith, few))
take_length (x ∷ xs) zero few = refl
take_length (x ∷ xs) (suc k) few = ap suc (take_length xs k (omega (arith, few)))

pub take_drop : {A : Type 0} (xs : List A) (k : ℕ) → take k xs ++ drop k xs ≡ xs
take_drop [] zero = refl
take_drop [] (suc k) = refl
take_drop (x ∷ xs) zero = refl
take_drop (x ∷ xs) (suc k) = ap (λ zs. x ∷ zs) (take_drop xs k)

-- Parts.

module _ {X : Type 0} (shares : Shares) (marks others : List Bool) (rows more : List (List ℕ)) (cells rest : List (Cell X)) (whole : Part)
    (is_part : IsPart shares whole (marks ++ others) (rows ++ more) (cells ++ rest)) (marked : length marks ≡ length cells) (roomy : length rows ≡ length cells) where
  lengths : (length (marks ++ others) ≡ length marks + length others) × (length (rows ++ more) ≡ length rows + length more) × (length (cells ++ rest) ≡ length cells + length rest)
  lengths = (length-append marks others, length-append rows more, length-append cells rest)

  pub low_part : (picks : ℕ) → picks ≡ count_picked marks → IsPart shares (record whole { picks = picks }) marks rows cells
  low_part picks picked = record {
    marked = marked;
    roomy = roomy;
    few = omega (arith, is_part.few, lengths.2);
    picks = picked;
    among = omega (arith, is_part.among, is_part.picks, picked, count_both marks others);
    ready = λ i row cell row_at at. is_part.ready i row cell (get_low rows more i row row_at) (get_low cells rest i cell at);
  }

  pub high_part : (cell before picks : ℕ) → cell ≡ whole.cell + length cells → before ≡ whole.before + count_picked marks → picks + count_picked marks ≡ whole.picks
      → IsPart shares (record { cell = cell; before = before; picks = picks }) others more rest
  high_part cell before picks cell_is before_is picks_is = record {
    marked = omega (arith, is_part.marked, lengths.0, lengths.2, marked);
    roomy = omega (arith, is_part.roomy, lengths.1, lengths.2, roomy);
    few = omega (arith, is_part.few, lengths.2, cell_is);
    picks = omega (arith, is_part.picks, count_both marks others, picks_is);
    among = omega (arith, is_part.among, before_is, picks_is);
    ready = λ i row at_cell row_at at.
        let n : ℕ = length cells + i in
        is_part.ready n row at_cell (get_high rows more n i (omega (arith, roomy)) ∙ row_at) (get_high cells rest n i refl ∙ at);
  }

-- Bursts one part after another.

pub appended : {X : Type 0} {limit : ℕ → ℕ} {i k : ℕ} {marks : List Bool} {rows : List (List ℕ)} {old new : List (Cell X)} {made : Made}
    (j l : ℕ) (others : List Bool) (more : List (List ℕ)) (rest last : List (Cell X)) (then : Made) → EachBursts limit i k marks rows old made new
    → j ≡ i + length marks → l ≡ k + count_picked marks → EachBursts limit j l others more rest then last
    → EachBursts limit i k (marks ++ others) (rows ++ more) (old ++ rest) (joined made then) (new ++ last)
appended {limit = limit} j l others more rest last then (none_left i k) at picked behind =
    subst (λ m. EachBursts limit i k others more rest m last) (sym (none_joined then))
    (subst (λ n. EachBursts limit n k others more rest then last) (let e : j ≡ i = omega (arith, at) in e)
    (subst (λ n. EachBursts limit j n others more rest then last) (let e : l ≡ k = omega (arith, picked) in e) behind))
appended j l others more rest last then (stays i k marks row rows cell old new made front) at picked behind =
    stays i k (marks ++ others) row (rows ++ more) cell (old ++ rest) (new ++ last) (joined made then)
    (appended j l others more rest last then front (omega (arith, at)) picked behind)
appended {limit = limit} j l others more rest last then (bursts i k marks row rows before after old new end made by front) at picked behind =
    subst (λ m. EachBursts limit i k (true ∷ marks ++ others) (row ∷ rows ++ more) (before ∷ old ++ rest) m (after ∷ new ++ last))
    (sym (joined_then (made_by (record { 0 = i }) (length after.journal) end) made then))
    (bursts i k (marks ++ others) row (rows ++ more) before after (old ++ rest) (new ++ last) end (joined made then) by
    (appended j l others more rest last then front (omega (arith, at)) (omega (arith, picked)) behind))

-- What one worker leaves.

module _ {X : Type 0} (links : List Link) (capacities waited : List ℕ) (limit : ℕ → ℕ) (table : List (List ℕ)) where
  -- the cells of which these are the first are at work, by the rooms of the table
  pub record AreAtWork (cells : List (Cell X)) : Type 0 where
    pub working : IsWorking cells links capacities waited
    pub rooms : HasRooms cells links capacities waited table

  pub record Leave (i k : ℕ) (marks : List Bool) (old : List (Cell X)) (made : Made) (new : List (Cell X)) : Type 0 where
    pub work : WorkEach limit i k marks (held_of old links capacities waited) made (held_of new links capacities waited)
    pub at_work : AreAtWork new

  pub work_each : {i k : ℕ} {marks : List Bool} {rows : List (List ℕ)} {old new : List (Cell X)} {made : Made} → EachBursts limit i k marks rows old made new
      → (done : List (Cell X)) (before : List (List ℕ)) → length done ≡ i → length before ≡ i → table ≡ before ++ rows → AreAtWork (done ++ old)
      → Leave i k marks (done ++ old) made (done ++ new)
  work_each (none_left i k) done before at place is at_work = record { work = (refl, refl); at_work = at_work }
  work_each (stays i k marks row rows cell old new made behind) done before at place is at_work =
      let next = work_each behind (done ++ cell ∷ []) (before ++ row ∷ []) (length-append done (cell ∷ []) ∙ (let e : length done + 1 ≡ suc i = omega (arith, at) in e))
      (length-append before (row ∷ []) ∙ (let e : length before + 1 ≡ suc i = omega (arith, place) in e)) (is ∙ sym (append_assoc before (row ∷ []) rows))
      (subst AreAtWork (sym (append_assoc done (cell ∷ []) old)) at_work) in
      let whole : Leave (suc i) k marks (done ++ cell ∷ old) made (done ++ cell ∷ new) =
      subst (λ cs. Leave (suc i) k marks cs made (done ++ cell ∷ new)) (append_assoc done (cell ∷ []) old)
      (subst (λ cs. Leave (suc i) k marks ((done ++ cell ∷ []) ++ old) made cs) (append_assoc done (cell ∷ []) new) next) in
      record { work = whole.work; at_work = whole.at_work }
  work_each (bursts i k marks row rows cell after old new end made by behind) done before at place is at_work =
      let cells = done ++ cell ∷ old in
      let mid = done ++ after ∷ old in
      let row_at : slice_get table i ≡ Some row = ap (λ t. slice_get t i) is ∙ get_high before (row ∷ rows) i 0 (omega (arith, place)) in
      let b : BurstsAt i (limit k) row cells end mid = record {
        before = cell;
        after = after;
        at = get_high done (cell ∷ old) i 0 (omega (arith, at));
        is = sym (set_there done old i cell after at);
        lawful = by.lawful;
        fits = by.fits;
        bursts = by.bursts;
      } in
      let w = at_work.working in
      let r = at_work.rooms in
      let after_at : slice_get mid i ≡ Some after = get_high done (after ∷ old) i 0 (omega (arith, at)) in
      let moved : AreAtWork mid = record {
        working = burst_working cells links capacities waited w table r i row row_at (limit k) end mid b by.untrapped;
        rooms = burst_rooms cells links capacities waited w table r i row row_at (limit k) end mid b by.untrapped;
      } in
      let works : Works i (limit k) (length after.journal) end (held_of cells links capacities waited) (held_of mid links capacities waited) = record {
        some = by.some;
        works = burst_works cells links capacities waited w table r i row row_at (limit k) end mid b by.untrapped;
        counted = ap (λ o. length (journal_of o)) (sym after_at);
        same_actors = burst_same cells links capacities waited w table r i row row_at (limit k) end mid b by.untrapped;
        links = refl;
        capacities = refl;
        waited = refl;
      } in
      let next = work_each behind (done ++ after ∷ []) (before ++ row ∷ []) (length-append done (after ∷ []) ∙ (let e : length done + 1 ≡ suc i = omega (arith, at) in e))
      (length-append before (row ∷ []) ∙ (let e : length before + 1 ≡ suc i = omega (arith, place) in e)) (is ∙ sym (append_assoc before (row ∷ []) rows))
      (subst AreAtWork (sym (append_assoc done (after ∷ []) old)) moved) in
      let whole : Leave (suc i) (suc k) marks mid made (done ++ after ∷ new) =
      subst (λ cs. Leave (suc i) (suc k) marks cs made (done ++ after ∷ new)) (append_assoc done (after ∷ []) old)
      (subst (λ cs. Leave (suc i) (suc k) marks ((done ++ after ∷ []) ++ old) made cs) (append_assoc done (after ∷ []) new) next) in
      record {
        work = (held_of mid links capacities waited, length after.journal, end, made, works, refl, whole.work);
        at_work = whole.at_work;
      }

-- A part is cut at a place.

module _ {C X : Type 0} (view : C → Cell X) {R : Type 0} (items : R → List ℕ) (shares : Shares) (whole : Part) (marks : List Bool) (rooms : List R) (cells : List C) (cut : ℕ)
    (is_part : IsPart shares whole marks (map items rooms) (map view cells)) (within : cut ≤ length marks) where
  lows : (length (take cut marks) ≡ length (map view (take cut cells))) × (length (map items (take cut rooms)) ≡ length (map view (take cut cells)))
  lows =
      let m : length marks ≡ length cells = is_part.marked ∙ length-map cells view in
      let r : length rooms ≡ length cells = sym (length-map rooms items) ∙ (is_part.roomy ∙ length-map cells view) in
      let of_marks : length (take cut marks) ≡ cut = take_length marks cut within in
      let of_cells : length (take cut cells) ≡ cut = take_length cells cut (omega (arith, m, within)) in
      let of_rooms : length (take cut rooms) ≡ cut = take_length rooms cut (omega (arith, m, r, within)) in (
        of_marks ∙ (sym of_cells ∙ sym (length-map (take cut cells) view)),
        length-map (take cut rooms) items ∙ (of_rooms ∙ (sym of_cells ∙ sym (length-map (take cut cells) view))),
      )

  both_parts : IsPart shares whole (take cut marks ++ drop cut marks) (map items (take cut rooms) ++ map items (drop cut rooms)) (map view (take cut cells) ++ map view (drop cut cells))
  both_parts =
      subst (λ cs. IsPart shares whole (take cut marks ++ drop cut marks) (map items (take cut rooms) ++ map items (drop cut rooms)) cs) (sym (both_maps view cells))
      (subst (λ rs. IsPart shares whole (take cut marks ++ drop cut marks) rs (map view cells)) (sym (both_maps items rooms))
      (subst (λ ms. IsPart shares whole ms (map items rooms) (map view cells)) (sym (take_drop marks cut)) is_part))
    where
      both_maps : {A B : Type 0} (f : A → B) (xs : List A) → map f (take cut xs) ++ map f (drop cut xs) ≡ map f xs
      both_maps f xs = sym (map-append f (take cut xs) (drop cut xs)) ∙ ap (map f) (take_drop xs cut)

  pub cut_low : (picks : ℕ) → count_picked (take cut marks) ≡ picks → IsPart shares (record whole { picks = picks }) (take cut marks) (map items (take cut rooms)) (map view (take cut cells))
  cut_low picks picked =
      low_part shares (take cut marks) (drop cut marks) (map items (take cut rooms)) (map items (drop cut rooms)) (map view (take cut cells)) (map view (drop cut cells)) whole both_parts lows.0 lows.1 picks (sym picked)

  pub cut_high : (cell before picks : ℕ) → cell ≡ whole.cell + cut → before ≡ whole.before + count_picked (take cut marks) → picks + count_picked (take cut marks) ≡ whole.picks
      → IsPart shares (record { cell = cell; before = before; picks = picks }) (drop cut marks) (map items (drop cut rooms)) (map view (drop cut cells))
  cut_high cell before picks cell_is before_is picks_is =
      high_part shares (take cut marks) (drop cut marks) (map items (take cut rooms)) (map items (drop cut rooms)) (map view (take cut cells)) (map view (drop cut cells)) whole both_parts lows.0 lows.1
      cell before picks (let of_marks : length (take cut marks) ≡ cut = take_length marks cut within in omega (arith, cell_is, of_marks, lows.0)) before_is picks_is

  pub cut_few : count_picked (take cut marks) ≤ whole.picks
  cut_few = let all : count_picked marks ≡ count_picked (take cut marks) + count_picked (drop cut marks) = ap count_picked (sym (take_drop marks cut)) ∙ count_both (take cut marks) (drop cut marks) in omega (arith, all, is_part.picks)

-- What came of both halves of a part is what came of the part.
module _ {C X : Type 0} (view : C → Cell X) {R : Type 0} (items : R → List ℕ) (limit : ℕ → ℕ) (i k : ℕ) (marks : List Bool) (rooms : List R) (cells low_new high_new : List C) (cut j l : ℕ) (low high : Made)
    (front : EachBursts limit i k (take cut marks) (map items (take cut rooms)) (map view (take cut cells)) low (map view low_new))
    (back : EachBursts limit j l (drop cut marks) (map items (drop cut rooms)) (map view (drop cut cells)) high (map view high_new)) where
  pub both_halves : cut ≤ length marks → j ≡ i + cut → l ≡ k + count_picked (take cut marks) → EachBursts limit i k marks (map items rooms) (map view cells) (joined low high) (map view (low_new ++ high_new))
  both_halves within at picked =
      subst (λ ms. EachBursts limit i k ms (map items rooms) (map view cells) (joined low high) (map view (low_new ++ high_new))) (take_drop marks cut)
      (subst (λ rs. EachBursts limit i k (take cut marks ++ drop cut marks) rs (map view cells) (joined low high) (map view (low_new ++ high_new))) (both_maps items rooms)
      (subst (λ cs. EachBursts limit i k (take cut marks ++ drop cut marks) (map items (take cut rooms) ++ map items (drop cut rooms)) cs (joined low high) (map view (low_new ++ high_new))) (both_maps view cells)
      (subst (λ ns. EachBursts limit i k (take cut marks ++ drop cut marks) (map items (take cut rooms) ++ map items (drop cut rooms)) (map view (take cut cells) ++ map view (drop cut cells)) (joined low high) ns) (sym (map-append view low_new high_new))
      (appended j l (drop cut marks) (map items (drop cut rooms)) (map view (drop cut cells)) (map view high_new) high front (at ∙ ap (λ n. i + n) (sym (take_length marks cut within))) picked back))))
    where
      both_maps : {A B : Type 0} (f : A → B) (xs : List A) → map f (take cut xs) ++ map f (drop cut xs) ≡ map f xs
      both_maps f xs = sym (map-append f (take cut xs) (drop cut xs)) ∙ ap (map f) (take_drop xs cut)

pub both_few : (marks : List Bool) (cut low high : ℕ) → low ≤ 65536 * count_picked (take cut marks) → high ≤ 65536 * count_picked (drop cut marks) → low + high ≤ 65536 * count_picked marks
both_few marks cut low high few more =
    let all : count_picked marks ≡ count_picked (take cut marks) + count_picked (drop cut marks) = ap count_picked (sym (take_drop marks cut)) ∙ count_both (take cut marks) (drop cut marks) in
    omega (arith, few, more, all)

-- All cells, as a round finds them.
pub whole_part : {X : Type 0} (shares : Shares) (marks : List Bool) (cells : List (Cell X)) (links : List Link) (capacities waited : List ℕ) (table : List (List ℕ)) → IsWorking cells links capacities waited
    → HasRooms cells links capacities waited table → AreFresh shares.burst cells → length marks ≡ length cells → shares.picks ≡ count_picked marks
    → IsPart shares (record { cell = 0; before = 0; picks = shares.picks }) marks table cells
whole_part shares marks cells links capacities waited table working rooms fresh as_many picked = record {
  marked = as_many;
  roomy = rooms.rows;
  few = omega (arith, working.few_cells);
  picks = picked;
  among = omega arith;
  ready = λ i row cell row_at at. record {
    fresh = fresh i cell at;
    fits = rooms_of_cell cells links capacities waited working table rooms i row row_at cell at;
  };
}

-- what workers leave of all cells
pub leave_all : {X : Type 0} (shares : Shares) (marks : List Bool) (old new : List (Cell X)) (links : List Link) (capacities waited : List ℕ) (table : List (List ℕ)) (made : Made) → IsWorking old links capacities waited
    → HasRooms old links capacities waited table → EachBursts (share_of shares) 0 0 marks table old made new → Leave links capacities waited (share_of shares) table 0 0 marks old made new
leave_all shares marks old new links capacities waited table made working rooms each =
    work_each links capacities waited (share_of shares) table each [] [] refl refl refl (record { working = working; rooms = rooms })
