-- What is sent on an output, carried to an input.
use Rattle.std.proofs.Common.{◌≡◌, ℕ, zero, suc, ◌+◌, ◌-◌, ◌<◌, ◌≤◌, Bool, true, false, List, [], ◌∷◌, ◌++◌, ℤ, length, map, take, drop, refl, sym, ap, subst, ◌∙◌, arith, length-append, append-nil}
use Rattle.std.specs.Prelude.{Option, None, Some, slice_get, if◌then◌else◌, ◌==◌, ◌&&◌}
use Rattle.std.proofs.lemmas.Bool.{eqb-true, eq-eqb}
use Rattle.std.proofs.lemmas.List.{length-map, length-take-le, map-append, take_more, take_all}
use Rattle.std.proofs.lemmas.Option.{slice_get_within, get_or_from_slice_get}
use Rattle.rvc_base.specs.declared.scalar.Scalar.{Scalar}
use Rattle.rvc_base.specs.Storing.{conv}
use Rattle.rvc_base.specs.Lawful.{tokens_on}
use Rattle.net_model.specs.declared.wiring.End.{End}
use Rattle.net_model.specs.declared.wiring.End.TheVariants.{Leaf as AtLeaf, Net as AtNet}
use Rattle.net_model.specs.declared.wiring.Link.{Link}
use Rattle.net_model.specs.Network.{is_leaf_port}
use Rattle.net_model.specs.Cell.{Cell, number_on}
use Rattle.net_model.specs.Ready.{OnCell}
use Rattle.net_state.specs.Moving.{EachGains, only_to, sent_of, IsOutput, HasRoomBefore, sent_from, carried, arriving, IsWriter, HasRoomAt, CanCarry, CanCarryAll, AreApart}
use Rattle.net_state.proofs.Gaining.{some_is, there_too, each_gains_then, each_gains_as, only_there, only_more}

-- the cell that something holds of
pub on_cell : {X : Type 0} (o : Option (Cell X)) (P : Cell X → Type 0) → OnCell o P → (cell : Cell X) × (o ≡ Some cell) × P cell
on_cell None P h = absurd h
on_cell (Some cell) P h = (cell, refl, h)

pub on_some : {X : Type 0} (o : Option (Cell X)) (P : Cell X → Type 0) (cell : Cell X) → o ≡ Some cell → P cell → OnCell o P
on_some o P cell at h = subst (λ k. OnCell k P) (sym at) h

pub place_of : {X : Type 0} (cells : List (Cell X)) (i : ℕ) (P : Cell X → Type 0) → OnCell (slice_get cells i) P → i < length cells
place_of cells i P h = let on = on_cell (slice_get cells i) P h in slice_get_within cells i on.0 on.1

module _ {X : Type 0} (arriving : ℕ → ℕ → List ℤ) (old new : List (Cell X)) (gains : EachGains arriving old new) where
  pub output_stays : (i p : ℕ) → IsOutput old i p → IsOutput new i p
  output_stays i p output =
      let on = on_cell (slice_get old i) (λ cell. p < cell.actor.outs) output in
      let later = there_too old new i on.0 (sym gains.count) on.1 in
      let gained = gains.each i on.0 later.0 on.1 later.1 in
      on_some (slice_get new i) (λ cell. p < cell.actor.outs) later.0 later.1
      (subst (λ actor. p < actor.outs) (sym gained.actor.same_actor) on.2)

  pub sent_stays : (i p : ℕ) → IsOutput old i p → sent_of (slice_get new i) p ≡ sent_of (slice_get old i) p
  sent_stays i p output =
      let on = on_cell (slice_get old i) (λ cell. p < cell.actor.outs) output in
      let later = there_too old new i on.0 (sym gains.count) on.1 in
      let gained = gains.each i on.0 later.0 on.1 later.1 in
      ap (λ o. sent_of o p) later.1 ∙ (gained.outboxes p on.2 ∙ sym (ap (λ o. sent_of o p) on.1))

abbrev HasInputRoom : {X : Type 0} → ℕ → ℕ → Cell X → Type 0
HasInputRoom q n cell = (q < cell.actor.ins) × (length (tokens_on cell.inboxes q) + n ≤ number_on cell.inbox_capacities q)

-- room is left while fewer have come than there was room for
pub room_left : {X : Type 0} (j q count : ℕ) (tokens : List ℤ) (old new : List (Cell X)) → EachGains (only_to j q tokens) old new
    → HasRoomBefore old j q count → length tokens < count → HasRoomBefore new j q 1
room_left j q count tokens old new gains room few =
    let on = on_cell (slice_get old j) (HasInputRoom q count) room in
    let later = there_too old new j on.0 (sym gains.count) on.1 in
    let gained = gains.each j on.0 later.0 on.1 later.1 in
    let longer : length (tokens_on later.0.inboxes q) ≡ length (tokens_on on.0.inboxes q) + length tokens =
    ap (λ ts. length ts) (gained.inboxes q on.2.0 ∙ ap (λ ts. tokens_on on.0.inboxes q ++ ts) (only_there j q tokens))
    ∙ length-append (tokens_on on.0.inboxes q) tokens in
    let same : number_on later.0.inbox_capacities q ≡ number_on on.0.inbox_capacities q = gained.actor.same_inbox_capacities q on.2.0 in
    let fits : length (tokens_on on.0.inboxes q) + count ≤ number_on on.0.inbox_capacities q = on.2.1 in
    on_some (slice_get new j) (HasInputRoom q 1) later.0 later.1
    (subst (λ actor. q < actor.ins) (sym gained.actor.same_actor) on.2.0, omega (arith, longer, same, fits, few))

stored_more : (kind : Scalar) (sent : List ℤ) (k : ℕ) (token : ℤ) → slice_get sent k ≡ Some token
    → map (conv kind) (take k sent) ++ conv kind token ∷ [] ≡ map (conv kind) (take (k + 1) sent)
stored_more kind sent k token at =
    sym (ap (map (conv kind)) (take_more sent k token (slice_get_within sent k token at)
    ∙ ap (λ t. take k sent ++ t ∷ []) (get_or_from_slice_get sent k token token at))
    ∙ map-append (conv kind) (take k sent) (token ∷ []))

-- the k-th token comes behind those before it
pub carried_more : {X : Type 0} (kind : Scalar) (j q k : ℕ) (sent : List ℤ) (token : ℤ) (old now new : List (Cell X))
    → EachGains (only_to j q (map (conv kind) (take k sent))) old now → slice_get sent k ≡ Some token
    → EachGains (only_to j q (conv kind token ∷ [])) now new
    → EachGains (only_to j q (map (conv kind) (take (k + 1) sent))) old new
carried_more kind j q k sent token old now new so_far at one =
    subst (λ ts. EachGains (only_to j q ts) old new) (stored_more kind sent k token at)
    (each_gains_as _ (only_to j q (map (conv kind) (take k sent) ++ conv kind token ∷ [])) old new
    (each_gains_then (only_to j q (map (conv kind) (take k sent))) (only_to j q (conv kind token ∷ [])) old now new so_far one)
    (only_more j q (map (conv kind) (take k sent)) (conv kind token ∷ [])))

pub length_stored : (kind : Scalar) (k : ℕ) (sent : List ℤ) → k ≤ length sent → length (map (conv kind) (take k sent)) ≡ k
length_stored kind k sent few = length-map (take k sent) (conv kind) ∙ length-take-le k sent few

pub carried_all : {X : Type 0} (kind : Scalar) (j q k : ℕ) (sent : List ℤ) (old now : List (Cell X))
    → EachGains (only_to j q (map (conv kind) (take k sent))) old now → length sent ≤ k
    → EachGains (only_to j q (map (conv kind) sent)) old now
carried_all kind j q k sent old now so_far all = subst (λ ts. EachGains (only_to j q (map (conv kind) ts)) old now) (take_all k sent all) so_far

-- Links.

pub by_bool : {P : Type 0} (b : Bool) → (b ≡ true → P) → (b ≡ false → P) → P
by_bool true p q = p refl
by_bool false p q = q refl

both_true : (a b : Bool) → (a && b) ≡ true → (a ≡ true) × (b ≡ true)
both_true true b h = (refl, h)
both_true false b h = cc

-- an end that is this port
pub is_that_port : (i p : ℕ) (end : End) → is_leaf_port i p end ≡ true → end ≡ AtLeaf (record { 0 = i }) p
is_that_port i p (AtLeaf inst port) h =
    let both = both_true (i == inst.0) (p == port) h in
    let same_inst : i ≡ inst.0 = eqb-true i inst.0 both.0 in
    let same_port : p ≡ port = eqb-true p port both.1 in
    rw (same_inst, same_port)
is_that_port i p (AtNet port) h = cc

pub is_own_port : (i p : ℕ) → is_leaf_port i p (AtLeaf (record { 0 = i }) p) ≡ true
is_own_port i p = rw (eq-eqb i i refl, eq-eqb p p refl)

pub if_true : {A : Type 0} (b : Bool) (x y : A) → b ≡ true → (if b then x else y) ≡ x
if_true true x y e = refl
if_true false x y e = cc

pub if_false : {A : Type 0} (b : Bool) (x y : A) → b ≡ false → (if b then x else y) ≡ y
if_false true x y e = cc
if_false false x y e = refl

pub get_drop : {A : Type 0} (n : ℕ) (xs : List A) (m : ℕ) → slice_get (drop n xs) m ≡ slice_get xs (n + m)
get_drop zero xs m = let same : m ≡ 0 + m = omega arith in ap (slice_get xs) same
get_drop (suc n) [] m = refl
get_drop (suc n) (x ∷ xs) m = let same : suc (n + m) ≡ suc n + m = omega arith in get_drop n xs m ∙ ap (slice_get (x ∷ xs)) same

pub drop_at : {A : Type 0} (l : ℕ) (xs : List A) (x : A) → slice_get xs l ≡ Some x → drop l xs ≡ x ∷ drop (suc l) xs
drop_at l [] x at = cc
drop_at zero (y ∷ xs) x at = ap (λ z. z ∷ xs) (some_is y x at)
drop_at (suc l) (y ∷ xs) x at = drop_at l xs x at

-- nothing comes to a port to which no link leads
pub none_arrives : {X : Type 0} (cells : List (Cell X)) (links : List Link) (i p : ℕ)
    → ((m : ℕ) (link : Link) → slice_get links m ≡ Some link → is_leaf_port i p link.to ≡ false) → arriving cells links i p ≡ []
none_arrives cells [] i p none = refl
none_arrives cells (link ∷ links) i p none =
    if_false (is_leaf_port i p link.to) (carried cells link) (arriving cells links i p) (none zero link refl)
    ∙ none_arrives cells links i p (λ m. none (suc m))

-- a port to which a link leads isn't another's that stands behind it
pub apart_from : (links : List Link) (l m : ℕ) (link other : Link) (i p : ℕ) → AreApart links → l < m → slice_get links l ≡ Some link
    → slice_get links m ≡ Some other → is_leaf_port i p link.to ≡ true → is_leaf_port i p other.to ≡ false
apart_from links l m link other i p apart low at there leads =
    by_bool (is_leaf_port i p other.to)
    (λ too. absurd (apart l m link other low at there (is_that_port i p link.to leads ∙ sym (is_that_port i p other.to too))))
    (λ none. none)

none_behind : {X : Type 0} (cells : List (Cell X)) (links : List Link) (l : ℕ) (link : Link) (i p : ℕ) → AreApart links
    → slice_get links l ≡ Some link → is_leaf_port i p link.to ≡ true → arriving cells (drop (suc l) links) i p ≡ []
none_behind cells links l link i p apart at leads =
    none_arrives cells (drop (suc l) links) i p
    (λ m other there. apart_from links l (suc l + m) link other i p apart (omega arith) at (sym (get_drop (suc l) links m) ∙ there) leads)

module _ {X : Type 0} (gained : ℕ → ℕ → List ℤ) (old new : List (Cell X)) (gains : EachGains gained old new) where
  pub writer_stays : (end : End) → IsWriter old end → IsWriter new end
  writer_stays (AtLeaf inst port) writer = output_stays gained old new gains inst.0 port writer
  writer_stays (AtNet port) writer = tt

  pub sent_from_stays : (end : End) → IsWriter old end → sent_from new end ≡ sent_from old end
  sent_from_stays (AtLeaf inst port) writer = sent_stays gained old new gains inst.0 port writer
  sent_from_stays (AtNet port) writer = refl

  -- if nothing came before a reading end, its room is as before
  pub room_stays : (end : End) (count : ℕ) → ((i p : ℕ) → is_leaf_port i p end ≡ true → gained i p ≡ []) → HasRoomAt old end count → HasRoomAt new end count
  room_stays (AtNet port) count none room = tt
  room_stays (AtLeaf inst port) count none room =
      let on = on_cell (slice_get old inst.0) (HasInputRoom port count) room in
      let later = there_too old new inst.0 on.0 (sym gains.count) on.1 in
      let cell = gains.each inst.0 on.0 later.0 on.1 later.1 in
      let as_long : tokens_on later.0.inboxes port ≡ tokens_on on.0.inboxes port =
      cell.inboxes port on.2.0 ∙ (ap (λ ts. tokens_on on.0.inboxes port ++ ts) (none inst.0 port (is_own_port inst.0 port)) ∙ append-nil (tokens_on on.0.inboxes port)) in
      let same : number_on later.0.inbox_capacities port ≡ number_on on.0.inbox_capacities port = cell.actor.same_inbox_capacities port on.2.0 in
      let len : length (tokens_on later.0.inboxes port) ≡ length (tokens_on on.0.inboxes port) = ap (λ ts. length ts) as_long in
      let fits : length (tokens_on on.0.inboxes port) + count ≤ number_on on.0.inbox_capacities port = on.2.1 in
      on_some (slice_get new inst.0) (HasInputRoom port count) later.0 later.1
      (subst (λ actor. port < actor.ins) (sym cell.actor.same_actor) on.2.0, omega (arith, len, same, fits))

module _ {X : Type 0} (start now : List (Cell X)) (links : List Link) (l : ℕ) (link : Link) (at : slice_get links l ≡ Some link)
    (can : CanCarryAll start links) (apart : AreApart links) (so_far : EachGains (arriving start (drop (suc l) links)) start now) where
  -- the next link can be followed
  pub can_carry_next : CanCarry now link
  can_carry_next =
      let asked = can l link at in
      record {
        size = asked.size;
        writer = writer_stays (arriving start (drop (suc l) links)) start now so_far link.from asked.writer;
        room = subst (λ ts. HasRoomAt now link.to (length ts)) (sym (sent_from_stays (arriving start (drop (suc l) links)) start now so_far link.from asked.writer))
            (room_stays (arriving start (drop (suc l) links)) start now so_far link.to (length (sent_from start link.from))
            (λ i p leads. none_behind start links l link i p apart at leads) asked.room);
      }

  same_carried : carried now link ≡ carried start link
  same_carried = ap (map (conv link.kind)) (sent_from_stays (arriving start (drop (suc l) links)) start now so_far link.from (can l link at).writer)

  joined : (i p : ℕ) (b : Bool) → (b ≡ true → arriving start (drop (suc l) links) i p ≡ [])
      → arriving start (drop (suc l) links) i p ++ (if b then carried now link else []) ≡ (if b then carried start link else arriving start (drop (suc l) links) i p)
  joined i p true none = ap (λ ts. ts ++ carried now link) (none refl) ∙ same_carried
  joined i p false none = append-nil (arriving start (drop (suc l) links) i p)

  pub carried_next : (new : List (Cell X)) → EachGains (arriving now (link ∷ [])) now new → EachGains (arriving start (drop l links)) start new
  carried_next new one =
      subst (λ ls. EachGains (arriving start ls) start new) (sym (drop_at l links link at))
      (each_gains_as (λ i p. arriving start (drop (suc l) links) i p ++ arriving now (link ∷ []) i p) (arriving start (link ∷ drop (suc l) links)) start new
      (each_gains_then (arriving start (drop (suc l) links)) (arriving now (link ∷ [])) start now new so_far one)
      (λ i p. joined i p (is_leaf_port i p link.to) (λ leads. none_behind start links l link i p apart at leads)))

-- a loop that goes over a list from its end
pub next_place : (n k : ℕ) → k < n → (n - 1 - k < n) × (n - k ≡ suc (n - 1 - k)) × (n - 1 - k ≡ n - (k + 1))
next_place n k low = (omega arith, omega arith, omega arith)
