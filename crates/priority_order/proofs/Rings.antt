-- Walks along pairs, and the rings that they close.
use Rattle.std.proofs.Common.{◌≡◌, ◌≢◌, ℕ, suc, ◌+◌, ◌<◌, ◌≤◌, Bool, true, List, [], ◌∷◌, ◌++◌, length, get_or, take, drop, ⊎_elim, refl, sym, ap, ◌∙◌, subst, arith, Contains, nat_lt, nat_eq, zero}
use Rattle.std.specs.Prelude.{IsTrue, All, AllPairs, IsPermutation}
use Rattle.std.specs.List.{IsFirstBest, list_any}
use Rattle.std.proofs.lemmas.Bool.{false≢true, ltb-false, eqb-true, or_cases}
use Rattle.std.proofs.lemmas.Bool.Decides.{Decides-eqb, Decides-like, same_from_decides}
use Rattle.std.proofs.lemmas.List.{take-append-drop, drop_more, append-nil, get_or-drop, length-drop, get_or_default}
use Rattle.std.proofs.lemmas.List.Elements.{All-contains, All-push, All-tail}
use Rattle.std.proofs.lemmas.List.Quantifiers.{all_pairs_push}
use Rattle.std.proofs.lemmas.List.Sorted.{IsPermutation-append_comm, All-permutation}
use Rattle.std.proofs.lemmas.Map.Keys.{IsDistinct-IsPermutation}
use Rattle.std.proofs.lemmas.Map.Made.{AllPairs-from_IsDistinct, IsDistinct-from_AllPairs}
use Rattle.std.proofs.lemmas.Map.Steps.{length-le_from_distinct_below}
use Rattle.rvc_base.specs.Chain.{ChainLeads, IsAbove}
use Rattle.priority_order.specs.Ranking.{cell}
use Rattle.priority_order.specs.Closed.{IsInRange, IsClosed}
use Rattle.priority_order.specs.Cycle.{IsRing, IsCycle}
use Rattle.priority_order.proofs.Chains.{leads_join, leads_split, above_joins}

-- ---- the next number of a cycle
-- none of the first pairs leads from the number to one from which a chain leads back
abbrev pub NoneLeads : List (ℕ × ℕ) → ℕ → List Bool → ℕ → ℕ → Type 0
NoneLeads pairs n cells current bound = (k : ℕ) → k < bound → (get_or pairs k (0, 0)).0 ≡ current → ¬ IsTrue (cell n cells (get_or pairs k (0, 0)).1 current)

module _ (pairs : List (ℕ × ℕ)) (n : ℕ) (cells : List Bool) (current : ℕ) (in_range : IsInRange pairs n) (closed : IsClosed pairs n cells) (current_in : current < n) where
  -- a pair that stands in the list leads back, if a chain does
  leads_back : (next : ℕ) → Contains pairs (current, next) → IsAbove pairs next current → NoneLeads pairs n cells current (length pairs) → ⊥
  leads_back next found back none =
      let at : get_or pairs found.0 (0, 0) ≡ (current, next) = get_or_default pairs found.0 (0, 0) (current, next) found.1 ∙ found.2 in
      let next_in : next < n = (All-contains (λ pair. (pair.0 < n) × (pair.1 < n)) pairs (current, next) in_range found).1 in
      let set' : IsTrue (cell n cells next current) = (closed.chains next current next_in current_in).1 back in
      none found.0 found.1 (ap (λ p. p.0) at) (subst (λ k. IsTrue (cell n cells k current)) (sym (ap (λ p. p.1) at)) set')

  pub some_leads : IsAbove pairs current current → NoneLeads pairs n cells current (length pairs) → ⊥
  some_leads above none = by_chain above.0 above.1 where
    by_chain : (through : List ℕ) → ChainLeads pairs current through current → ⊥
    by_chain [] h = leads_back current h ([], h) none
    by_chain (x ∷ xs) h = leads_back x h.0 (xs, h.1) none

  -- the number that a pair leads to is on a cycle too
  pub next_is_on : (next : ℕ) → next < n → Contains pairs (current, next) → IsTrue (cell n cells next current) → IsAbove pairs next next
  next_is_on next next_in found set' =
      above_joins pairs next current next ((closed.chains next current next_in current_in).0 set') ([], found)

-- ---- walks
-- each number of the walk is paired with the next, and the last with the current one
abbrev pub IsWalk : List (ℕ × ℕ) → List ℕ → ℕ → Type 0
IsWalk pairs [] current = Unit {0}
IsWalk pairs (x ∷ xs) current = ChainLeads pairs x xs current

pub record IsWalked (pairs : List (ℕ × ℕ)) (n : ℕ) (walk : List ℕ) (current : ℕ) : Type 0 where
  pub current_in : current < n
  pub on_cycle : IsAbove pairs current current
  pub in_range : All (λ a. a < n) walk
  pub distinct : AllPairs (λ a b. a ≢ b) walk
  pub linked : IsWalk pairs walk current

walk_push : (pairs : List (ℕ × ℕ)) (xs : List ℕ) (current next : ℕ) → IsWalk pairs xs current → Contains pairs (current, next) → IsWalk pairs (xs ++ current ∷ []) next
walk_push pairs [] current next h found = found
walk_push pairs (x ∷ xs) current next h found = leads_join pairs x current next xs [] h found

pub walked_none : (pairs : List (ℕ × ℕ)) (n start : ℕ) → start < n → IsAbove pairs start start → IsWalked pairs n [] start
walked_none pairs n start start_in above = record {
  current_in = start_in;
  on_cycle = above;
  in_range = λ k d inside. absurd (omega (arith, inside));
  distinct = λ i j d less inside. absurd (omega (arith, inside));
  linked = tt;
}

pub walked_more : (pairs : List (ℕ × ℕ)) (n : ℕ) (walk : List ℕ) (current next : ℕ) → IsWalked pairs n walk current → ((k : ℕ) → k < length walk → get_or walk k 0 ≢ current) → Contains pairs (current, next) → next < n → IsAbove pairs next next → IsWalked pairs n (walk ++ current ∷ []) next
walked_more pairs n walk current next so_far new found next_in above = record {
  current_in = next_in;
  on_cycle = above;
  in_range = All-push (λ a. a < n) walk current so_far.in_range so_far.current_in;
  distinct = all_pairs_push (λ a b. a ≢ b) walk current so_far.distinct (λ k d inside e. new k inside (get_or_default walk k 0 d inside ∙ e));
  linked = walk_push pairs walk current next so_far.linked found;
}

-- distinct numbers below n are at most n
is_below : (xs : List ℕ) (n q : ℕ) → All (λ a. a < n) xs → list_any (nat_eq q) xs ≡ true → q < n
is_below [] n q all e = absurd (false≢true e)
is_below (x ∷ xs) n q all e =
    ⊎_elim (λ here. let same : q ≡ x = eqb-true q x here in let x_in : x < n = all 0 0 (omega arith) in omega arith)
    (λ rest. is_below xs n q (All-tail (λ a. a < n) x xs all) rest) (or_cases (nat_eq q x) (list_any (nat_eq q) xs) e)

pub length-le_from_distinct : (xs : List ℕ) (n : ℕ) → AllPairs (λ a b. a ≢ b) xs → All (λ a. a < n) xs → length xs ≤ n
length-le_from_distinct xs n distinct all =
    length-le_from_distinct_below xs n (IsDistinct-from_AllPairs Decides-eqb xs distinct) (λ q e. is_below xs n q all e)

-- ---- rings
tail_walk : (pairs : List (ℕ × ℕ)) (x : ℕ) (xs : List ℕ) (current : ℕ) → ChainLeads pairs x xs current → IsWalk pairs xs current
tail_walk pairs x [] current h = tt
tail_walk pairs x (y ∷ ys) current h = h.1

-- a walk that came back is a ring from there on
pub ring_from_walk : (pairs : List (ℕ × ℕ)) (walk : List ℕ) (current k : ℕ) → IsWalk pairs walk current → k < length walk → get_or walk k 0 ≡ current → IsRing pairs (drop k walk)
ring_from_walk pairs [] current k h inside e = absurd (omega (arith, inside))
ring_from_walk pairs (x ∷ xs) current zero h inside e = subst (λ c. ChainLeads pairs x xs c) (sym e) h
ring_from_walk pairs (x ∷ xs) current (suc k) h inside e =
    ring_from_walk pairs xs current k (tail_walk pairs x xs current h) (omega (arith, inside)) e

pub distinct_drop : (xs : List ℕ) (k : ℕ) → AllPairs (λ a b. a ≢ b) xs → AllPairs (λ a b. a ≢ b) (drop k xs)
distinct_drop xs k distinct i j d less inside =
    rw (get_or-drop k xs i d, get_or-drop k xs j d) (distinct (k + i) (k + j) d (omega (arith, less)) (omega (arith, inside, length-drop k xs)))

-- a ring that is turned is a ring
ring_turned : (pairs : List (ℕ × ℕ)) (xs : List ℕ) (y : ℕ) (ys : List ℕ) → IsRing pairs (xs ++ y ∷ ys) → IsRing pairs ((y ∷ ys) ++ xs)
ring_turned pairs [] y ys h = subst (λ zs. IsRing pairs zs) (sym (append-nil (y ∷ ys))) h
ring_turned pairs (x ∷ xs) y ys h =
    let parts = leads_split pairs x y x xs ys h in
    leads_join pairs y x y ys xs parts.1 parts.0

pub nonempty_ring : (pairs : List (ℕ × ℕ)) (xs : List ℕ) → IsRing pairs xs → 0 < length xs
nonempty_ring pairs [] h = absurd h
nonempty_ring pairs (x ∷ xs) h = omega arith

eqb_flips : (x y : ℕ) → nat_eq x y ≡ nat_eq y x
eqb_flips x y = same_from_decides (nat_eq x y) (nat_eq y x) (Decides-eqb x y) (Decides-like (nat_eq y x) sym sym (Decides-eqb y x))

-- a ring of distinct numbers that is turned to its least number is a cycle
pub cycle_from_ring : (pairs : List (ℕ × ℕ)) (ring turned : List ℕ) (k : ℕ) → IsRing pairs ring → AllPairs (λ a b. a ≢ b) ring → IsFirstBest nat_lt ring (length ring) k → turned ≡ drop k ring ++ take k ring → IsCycle pairs turned
cycle_from_ring pairs ring turned k is_ring distinct best e =
    let inside : k < length ring = best.0 in
    let least = get_or ring k 0 in
    let from_least : drop k ring ≡ least ∷ drop (k + 1) ring = drop_more ring k 0 inside in
    let whole : take k ring ++ drop k ring ≡ ring = take-append-drop k ring in
    let cut : IsRing pairs (take k ring ++ least ∷ drop (k + 1) ring) = rw (← from_least, whole) is_ring in
    let same : IsPermutation ring (drop k ring ++ take k ring) = rw whole at (IsPermutation-append_comm (take k ring) (drop k ring)) in
    let first : get_or (drop k ring ++ take k ring) 0 0 ≡ least = rw from_least refl in
    let least_all : All (λ a. least ≤ a) ring =
    λ j d in_ring. let below : get_or ring k d ≤ get_or ring j d = ltb-false (get_or ring j d) (get_or ring k d) (best.1 j d in_ring) in
    rw (get_or_default ring k 0 d inside) below in
    let moved : All (λ a. least ≤ a) (drop k ring ++ take k ring) = All-permutation (λ a. least ≤ a) ring (drop k ring ++ take k ring) same least_all in
    rw e (record {
      ring = rw from_least (ring_turned pairs (take k ring) least (drop (k + 1) ring) cut);
      distinct = AllPairs-from_IsDistinct Decides-eqb (drop k ring ++ take k ring) (IsDistinct-IsPermutation nat_eq eqb_flips ring (drop k ring ++ take k ring) same (IsDistinct-from_AllPairs Decides-eqb ring distinct));
      least_first = λ j d in_turned. rw first (moved j d in_turned);
    })
