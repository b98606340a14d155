-- How many tokens the queues at a port are made for.
use Rattle.std.proofs.Common.{◌≡◌, ℕ, zero, suc, ◌+◌, ◌≤◌, ◌<◌, Bool, true, false, List, [], ◌∷◌, ◌++◌, length, refl, sym, ap, subst, ◌∙◌, arith, ⊎_elim, max, length-append}
use Rattle.std.specs.Prelude.{Some, slice_get}
use Rattle.std.proofs.Math.Nat.{le-max_left, le-max_right}
use Rattle.std.proofs.lemmas.Bool.{cases_lt}
use Rattle.net_model.specs.declared.wiring.Link.{Link}
use Rattle.net_model.specs.Network.{is_leaf_port}
use Rattle.net_model.specs.Cell.{number_on}
use Rattle.net_state.proofs.Gaining.{some_is}
use Rattle.kit_runs.specs.Rooms.{AreRoomsOf, end_at, room_at, wanted, widened}

pub one_wanted : (grow : ℕ) (link : Link) → 1 ≤ wanted grow link
one_wanted grow link = le-max_right (max link.capacity grow) 1

pub capacity_wanted : (grow : ℕ) (link : Link) → link.capacity ≤ wanted grow link
capacity_wanted grow link =
    let low : link.capacity ≤ max link.capacity grow = le-max_left link.capacity grow in
    let high : max link.capacity grow ≤ max (max link.capacity grow) 1 = le-max_left (max link.capacity grow) 1 in
    omega (arith, low, high)

pub grow_wanted : (grow : ℕ) (link : Link) → grow ≤ wanted grow link
grow_wanted grow link =
    let low : grow ≤ max link.capacity grow = le-max_right link.capacity grow in
    let high : max link.capacity grow ≤ max (max link.capacity grow) 1 = le-max_left (max link.capacity grow) 1 in
    omega (arith, low, high)

more : (here : Bool) (room most : ℕ) → room ≤ widened here room most
more true room most = le-max_left room most
more false room most = omega arith

enough : (here : Bool) (room most : ℕ) → here ≡ true → most ≤ widened here room most
enough true room most h = le-max_right room most
enough false room most h = absurd (cc)

pub at_least : (inward : Bool) (grow i p room : ℕ) (links : List Link) → room ≤ room_at inward grow i p room links
at_least inward grow i p room [] = omega arith
at_least inward grow i p room (link ∷ links) =
    let now = widened (is_leaf_port i p (end_at inward link)) room (wanted grow link) in
    let low : room ≤ now = more (is_leaf_port i p (end_at inward link)) room (wanted grow link) in
    let high : now ≤ room_at inward grow i p now links = at_least inward grow i p now links in
    omega (arith, low, high)

-- the room at a port is at least what each link wants that ends there
pub for_link : (inward : Bool) (grow i p room : ℕ) (links : List Link) (l : ℕ) (link : Link) → slice_get links l ≡ Some link → is_leaf_port i p (end_at inward link) ≡ true
    → wanted grow link ≤ room_at inward grow i p room links
for_link inward grow i p room [] l link at here = cc
for_link inward grow i p room (first ∷ links) zero link at here =
    let is : first ≡ link = some_is first link at in
    let now = widened (is_leaf_port i p (end_at inward first)) room (wanted grow first) in
    let here_first : is_leaf_port i p (end_at inward first) ≡ true = subst (λ x. is_leaf_port i p (end_at inward x) ≡ true) (sym is) here in
    let low : wanted grow first ≤ now = enough (is_leaf_port i p (end_at inward first)) room (wanted grow first) here_first in
    let high : now ≤ room_at inward grow i p now links = at_least inward grow i p now links in
    subst (λ x. wanted grow x ≤ room_at inward grow i p now links) is (omega (arith, low, high))
for_link inward grow i p room (first ∷ links) (suc l) link at here = for_link inward grow i p (widened (is_leaf_port i p (end_at inward first)) room (wanted grow first)) links l link at here

abbrev pub IsLinked : Bool → ℕ → ℕ → List Link → Type 0
IsLinked inward i p links = (l : ℕ) × (link : Link) × (slice_get links l ≡ Some link) × (is_leaf_port i p (end_at inward link) ≡ true)

later : (inward : Bool) (i p : ℕ) (first : Link) (links : List Link) → IsLinked inward i p links → IsLinked inward i p (first ∷ links)
later inward i p first links linked = (suc linked.0, linked.1, linked.2, linked.3)

-- a room that is above its least is that of some link
pub by_link : (inward : Bool) (grow i p room : ℕ) (links : List Link) → room < room_at inward grow i p room links → IsLinked inward i p links
by_link inward grow i p room [] low = absurd (omega (arith, low))
by_link inward grow i p room (first ∷ links) low = by_test (λ more. by_link inward grow i p room links more) (is_leaf_port i p (end_at inward first)) refl
  where
    by_test : (room < room_at inward grow i p room links → IsLinked inward i p links) → (b : Bool) → is_leaf_port i p (end_at inward first) ≡ b → IsLinked inward i p (first ∷ links)
    by_test rest true is = (0, first, refl, is)
    by_test rest false is = later inward i p first links (rest (subst (λ b. room < room_at inward grow i p (widened b room (wanted grow first)) links) is low))

-- One more port.

pub index_first : (xs ys : List ℕ) (p : ℕ) → p < length xs → number_on (xs ++ ys) p ≡ number_on xs p
index_first [] ys p low = absurd (omega (arith, low))
index_first (x ∷ xs) ys zero low = refl
index_first (x ∷ xs) ys (suc p) low = index_first xs ys p (omega (arith, low))

pub index_last : (xs : List ℕ) (x : ℕ) → number_on (xs ++ x ∷ []) (length xs) ≡ x
index_last [] x = refl
index_last (y ∷ xs) x = index_last xs x

pub rooms_more : (inward : Bool) (grow i least : ℕ) (links : List Link) (port : ℕ) (rooms : List ℕ) → AreRoomsOf inward grow i least links port rooms
    → AreRoomsOf inward grow i least links (port + 1) (rooms ++ room_at inward grow i port least links ∷ [])
rooms_more inward grow i least links port rooms so_far = record {
  count = length-append rooms (room_at inward grow i port least links ∷ []) ∙ ap (λ n. n + 1) so_far.count;
  each = λ p low. ⊎_elim
      (λ before. index_first rooms (room_at inward grow i port least links ∷ []) p (subst (λ n. p < n) (sym so_far.count) before) ∙ so_far.each p before)
      (λ high.
      let last : p ≡ port = omega (arith, low, high) in
      subst (λ q. number_on (rooms ++ room_at inward grow i port least links ∷ []) q ≡ room_at inward grow i q least links) (sym last)
      (subst (λ n. number_on (rooms ++ room_at inward grow i port least links ∷ []) n ≡ room_at inward grow i port least links) so_far.count (index_last rooms (room_at inward grow i port least links))))
      (cases_lt p port);
}
