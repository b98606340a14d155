-- What is held at the start.
use Rattle.std.proofs.Common.{◌≡◌, ℕ, zero, suc, ◌+◌, ◌<◌, ◌≤◌, true, false, List, [], ◌∷◌, ◌++◌, ℤ, length, map, take, drop, refl, sym, ap, subst, ◌∙◌, ⊎_elim, arith, length-append}
use Rattle.std.specs.Prelude.{Some, slice_get, slice_index_or}
use Rattle.std.proofs.lemmas.Bool.{cases_eq}
use Rattle.std.proofs.lemmas.List.{length-map, drop_at}
use Rattle.std.proofs.lemmas.Option.{slice_get-map, slice_get_within}
use Rattle.std.specs.Option.{option_map}
use Rattle.rvc_base.specs.Storing.{conv}
use Rattle.rvc_base.specs.Lawful.{IsLawful, tokens_on}
use Rattle.net_model.specs.declared.wiring.End.{End}
use Rattle.net_model.specs.declared.wiring.End.TheVariants.{Leaf as AtLeaf, Net as AtNet}
use Rattle.net_model.specs.declared.wiring.Link.{Link}
use Rattle.net_model.specs.Network.{Network, is_outside, is_leaf_port}
use Rattle.net_model.specs.State.{waiting, inbox, fed_by}
use Rattle.net_model.specs.Cell.{Cell, HasNothingOut, unread_room}
use Rattle.net_model.specs.Ready.{OnCell, waiting_at, tokens_of, given_flow}
use Rattle.net_state.specs.Beginning.{AreLawfulCells}
use Rattle.net_state.specs.Moving.{IsWriter, sent_of, sent_from}
use Rattle.net_state.specs.Held.{AreCounted, CanWork, FitsIn, HasRooms, HoldFew, HasShapeOf, HasWidths, IsReader, IsRoomTable, IsWorking, NoneLeads, capacity_of}
use Rattle.net_state.specs.Standing.{AreHeld, IsHeld, LiesIn, StandAtStart}
use Rattle.net_state.proofs.Gaining.{some_is, there_too}
use Rattle.net_state.proofs.Coming.{by_bool, if_true, if_false, is_that_port, on_cell}

-- Lists that are made one after another.

-- the last place of a list that was pushed to
pub get_pushed : {A : Type 0} (xs : List A) (y : A) (i : ℕ) (x : A) → slice_get (xs ++ y ∷ []) i ≡ Some x → (i < length xs → slice_get xs i ≡ Some x) × (i ≡ length xs → x ≡ y) × (i ≤ length xs)
get_pushed [] y zero x at = ((λ low. absurd (omega (arith, low))), (λ same. sym (some_is y x at)), omega arith)
get_pushed [] y (suc i) x at = cc
get_pushed (z ∷ xs) y zero x at = ((λ low. at), (λ same. absurd (omega (arith, same))), omega arith)
get_pushed (z ∷ xs) y (suc i) x at =
    let rest = get_pushed xs y i x at in
    ((λ low. rest.0 (omega (arith, low))), (λ same. rest.1 (omega (arith, same))), omega (arith, rest.2))

pub few_more : (numbers : List ℕ) (n : ℕ) → HoldFew numbers → n ≤ unread_room → HoldFew (numbers ++ n ∷ [])
few_more [] n few most zero = most
few_more [] n few most (suc l) = omega arith
few_more (first ∷ numbers) n few most zero = few zero
few_more (first ∷ numbers) n few most (suc l) = few_more numbers n (λ k. few (suc k)) most l

pub record IsTabling {X : Type 0} (n : ℕ) (cells : List (Cell X)) (table : List (List ℕ)) : Type 0 where
  pub rows : length table ≡ n
  pub widths : (i : ℕ) (cell : Cell X) (row : List ℕ) → slice_get cells i ≡ Some cell → slice_get table i ≡ Some row → length row ≡ cell.actor.outs
  pub lawful : (i : ℕ) (cell : Cell X) → i < n → slice_get cells i ≡ Some cell → IsLawful cell.actor

pub tabling_starts : {X : Type 0} (cells : List (Cell X)) → IsTabling 0 cells []
tabling_starts cells = record { rows = refl; widths = λ i cell row at is. cc; lawful = λ i cell low. absurd (omega (arith, low)) }

pub tabling_more : {X : Type 0} (n outs : ℕ) (cells : List (Cell X)) (table : List (List ℕ)) (row : List ℕ) → IsTabling n cells table
    → OnCell (slice_get cells n) (λ cell. outs ≡ cell.actor.outs) → OnCell (slice_get cells n) (λ cell. IsLawful cell.actor) → length row ≡ outs → IsTabling (n + 1) cells (table ++ row ∷ [])
tabling_more n outs cells table row so_far here law len = record {
  rows = length-append table (row ∷ []) ∙ (let one : length table + 1 ≡ n + 1 = omega (arith, so_far.rows) in one);
  widths = λ i cell that at is.
      let pushed = get_pushed table row i that is in
      ⊎_elim
      (λ same.
      let on = on_cell (slice_get cells n) (λ cell. outs ≡ cell.actor.outs) here in
      let cell_is : cell ≡ on.0 = some_is cell on.0 (sym at ∙ (ap (slice_get cells) (let e : i ≡ n = omega (arith, same, so_far.rows) in e) ∙ on.1)) in
      ap (λ r. length r) (pushed.1 same) ∙ (len ∙ (on.2 ∙ sym (ap (λ c. c.actor.outs) cell_is))))
      (λ differ. so_far.widths i cell that at (pushed.0 (omega (arith, differ, pushed.2))))
      (cases_eq i (length table));
  lawful = λ i cell low at. ⊎_elim
      (λ same. let on = on_cell (slice_get cells n) (λ c. IsLawful c.actor) law in
      subst (λ c. IsLawful c.actor) (some_is on.0 cell (sym on.1 ∙ (ap (slice_get cells) (sym same) ∙ at))) on.2)
      (λ differ. so_far.lawful i cell (omega (arith, low, differ)) at)
      (cases_eq i n);
}

pub tabled_lawful : {X : Type 0} (n : ℕ) (cells : List (Cell X)) (table : List (List ℕ)) → IsTabling n cells table → n ≡ length cells → AreLawfulCells cells
tabled_lawful n cells table so_far all i cell at = so_far.lawful i cell (omega (arith, all, slice_get_within cells i cell at)) at

pub tabled_all : {X : Type 0} (n : ℕ) (cells : List (Cell X)) (table : List (List ℕ)) → IsTabling n cells table → n ≡ length cells → HasWidths cells table
tabled_all n cells table so_far all = record { rows = so_far.rows ∙ all; widths = so_far.widths }

-- The start.

capacity_at_start : (links : List Link) (l : ℕ) (link : Link) → slice_get links l ≡ Some link → slice_index_or (map capacity_of links) l 0 ≡ link.capacity
capacity_at_start [] l link at = cc
capacity_at_start (head ∷ links) zero link at = ap capacity_of (some_is head link at)
capacity_at_start (head ∷ links) (suc l) link at = capacity_at_start links l link at

none_sent_from : {X : Type 0} (cells : List (Cell X)) → ((i : ℕ) (cell : Cell X) → slice_get cells i ≡ Some cell → HasNothingOut cell)
    → (end : End) → IsWriter cells end → sent_from cells end ≡ []
none_sent_from cells out (AtNet port) writer = refl
none_sent_from cells out (AtLeaf inst port) writer =
    let on = on_cell (slice_get cells inst.0) (λ cell. port < cell.actor.outs) writer in
    ap (λ o. sent_of o port) on.1 ∙ (out inst.0 on.0 on.1).0 port on.2

pub start_working : {X : Type 0} (cells : List (Cell X)) (links : List Link) (waited : List ℕ) → CanWork cells links → AreCounted cells links waited
    → HoldFew (map capacity_of links) → IsWorking cells links (map capacity_of links) waited
start_working cells links waited can counted few = record {
  each_holds = length-map links capacity_of;
  each_waited = counted.as_many;
  apart = can.apart;
  fits = λ l link at.
      let joined = can.joined l link at in
      let count : slice_index_or waited l 0 ≡ length (waiting_at cells link.to) = counted.each l link at in
      let none : length (sent_from cells link.from) ≡ 0 = ap (λ ts. length ts) (none_sent_from cells can.all_out link.from joined.writer) in
      subst (λ n. FitsIn cells n (slice_index_or waited l 0) link) (sym (capacity_at_start links l link at)) (record {
        size = joined.size;
        writer = joined.writer;
        reader = joined.reader;
        inside = joined.inside;
        outbox = joined.outbox;
        inbox = joined.inbox;
        waiting = joined.waiting;
        counted = omega (arith, count, joined.waiting);
        grown = omega arith;
        fewer = λ inner. omega (arith, count);
        since = λ inner. omega (arith, count, none, joined.waiting);
      });
  read = can.read;
  few_given = can.few_given;
  few_held = few;
  few_cells = can.few_cells;
  few_links = can.few_links;
}

pub readers_at_start : {X : Type 0} (cells : List (Cell X)) (links : List Link) → CanWork cells links → (l : ℕ) (link : Link) → slice_get links l ≡ Some link → IsReader cells link.to
readers_at_start cells links can l link at = (can.joined l link at).reader

pub rooms_at_start : {X : Type 0} (cells : List (Cell X)) (links : List Link) (capacities waited : List ℕ) (table fixed : List (List ℕ))
    → HasWidths cells table → HasShapeOf table fixed → IsRoomTable links capacities waited fixed → HasRooms cells links capacities waited fixed
rooms_at_start cells links capacities waited table fixed widths shape rooms = record {
  rows = shape.rows ∙ widths.rows;
  widths = λ i cell row at is.
      let before = there_too fixed table i row shape.rows is in
      shape.widths i before.0 row before.1 is ∙ widths.widths i cell before.0 at before.1;
  rooms = rooms;
}

pub fits_at_start : {X : Type 0} (cells : List (Cell X)) (links : List Link) (waited : List ℕ) → CanWork cells links → AreCounted cells links waited
    → (l : ℕ) (link : Link) → slice_get links l ≡ Some link → slice_index_or waited l 0 ≤ slice_index_or (map capacity_of links) l 0
fits_at_start cells links waited can counted l link at =
    let fits : length (waiting_at cells link.to) ≤ link.capacity = (can.joined l link at).waiting in
    omega (arith, counted.each l link at, capacity_at_start links l link at, fits)

-- The state at the start.

module _ {X : Type 0} (net : Network X) (cells : List (Cell X)) (inputs : List (List ℕ)) where
  waits_given : (link : Link) → waiting (given_flow net cells inputs link) ≡ waiting_at cells link.to
  waits_given link = front (waiting_at cells link.to) (fed_by net.ins inputs link link.from)
    where
      front : (xs ys : List ℤ) → drop 0 (take (length xs) (xs ++ ys)) ≡ xs
      front [] ys = refl
      front (x ∷ xs) ys = ap (λ zs. x ∷ zs) (front xs ys)

  -- before a port wait the tokens of the link that leads there, and if none does there are none
  inbox_given : (links : List Link) (i p : ℕ) → (NoneLeads links i p → tokens_of (slice_get cells i) p ≡ [])
      → inbox i p links (map (given_flow net cells inputs) links) ≡ tokens_of (slice_get cells i) p
  inbox_given [] i p none = sym (none (λ l link at. cc))
  inbox_given (link ∷ links) i p none =
      by_bool (is_leaf_port i p link.to)
      (λ leads.
      if_true (is_leaf_port i p link.to) (waiting (given_flow net cells inputs link)) (inbox i p links (map (given_flow net cells inputs) links)) leads
      ∙ (waits_given link ∙ ap (waiting_at cells) (is_that_port i p link.to leads)))
      (λ leads.
      if_false (is_leaf_port i p link.to) (waiting (given_flow net cells inputs link)) (inbox i p links (map (given_flow net cells inputs) links)) leads
      ∙ inbox_given links i p (λ rest. none (none_too leads rest)))
    where
      none_too : is_leaf_port i p link.to ≡ false → NoneLeads links i p → NoneLeads (link ∷ links) i p
      none_too leads rest zero that at = ap (λ k. is_leaf_port i p k.to) (sym (some_is link that at)) ∙ leads
      none_too leads rest (suc l) that at = rest l that at

  held_given : (link : Link) → IsWriter cells link.from → sent_from cells link.from ≡ [] → IsHeld cells link (given_flow net cells inputs link) link.capacity
  held_given link writer none = record {
    lies = lies_at link.from none;
    capacity_is = refl;
    arrived = let len : length (waiting_at cells link.to ++ fed_by net.ins inputs link link.from) ≡ length (waiting_at cells link.to) + length (fed_by net.ins inputs link link.from) =
        length-append (waiting_at cells link.to) (fed_by net.ins inputs link link.from) in omega (arith, len);
    taken = omega arith;
    gone = λ out. gone_at link.to out;
  }
    where
      lies_at : (end : End) → sent_from cells end ≡ [] → LiesIn cells link (drop (length (waiting_at cells link.to)) (waiting_at cells link.to ++ fed_by net.ins inputs link end)) end
      lies_at (AtNet port) none = tt
      lies_at (AtLeaf inst port) none = drop_at (waiting_at cells link.to) [] (length (waiting_at cells link.to)) refl ∙ sym (ap (map (conv link.kind)) none)

      gone_at : (end : End) → is_outside end ≡ true → 0 ≡ length (waiting_at cells end)
      gone_at (AtNet port) out = refl
      gone_at (AtLeaf inst port) out = cc

  all_held_given : (links : List Link) → ((l : ℕ) (link : Link) → slice_get links l ≡ Some link → IsWriter cells link.from × (sent_from cells link.from ≡ []))
      → AreHeld cells links (map (given_flow net cells inputs) links) (map capacity_of links)
  all_held_given links each = record {
    count = length-map links (given_flow net cells inputs);
    each = λ l link flow at there.
        let is : given_flow net cells inputs link ≡ flow =
        some_is (given_flow net cells inputs link) flow (sym (slice_get-map (given_flow net cells inputs) links l ∙ ap (option_map (given_flow net cells inputs)) at) ∙ there) in
        let here = each l link at in
        subst (λ n. IsHeld cells link flow n) (sym (capacity_at_start links l link at))
        (subst (λ f. IsHeld cells link f link.capacity) is (held_given link here.0 here.1));
  }

pub start_stands : {X : Type 0} (cells : List (Cell X)) (links : List Link) (waited : List ℕ) → CanWork cells links
    → StandAtStart (record { cells = cells; links = links; capacities = map capacity_of links; waited = waited })
start_stands cells links waited can = λ net inputs is. record {
  is_of = is;
  stands = record {
    actors = record {
      count = length-map cells (λ cell. cell.state);
      each = λ i cell at free. slice_get-map (λ c. c.state) cells i ∙ ap (option_map (λ c. c.state)) at;
    };
    inboxes = λ i cell at p low.
        let here : tokens_of (slice_get cells i) p ≡ tokens_on cell.inboxes p = ap (λ o. tokens_of o p) at in
        sym (inbox_given net cells inputs net.links i p
        (λ none. here ∙ can.unlinked i cell at p low (λ l link there. none l link (ap (λ ls. slice_get ls l) is.links_are ∙ there)))
        ∙ here);
    flows = subst (λ ls. AreHeld cells net.links (map (given_flow net cells inputs) net.links) (map capacity_of ls)) is.links_are
        (all_held_given net cells inputs net.links (λ l link at.
        let joined = can.joined l link (sym (ap (λ ls. slice_get ls l) is.links_are) ∙ at) in
        (joined.writer, none_sent_from cells can.all_out link.from joined.writer)));
    untrapped = refl;
  };
}
