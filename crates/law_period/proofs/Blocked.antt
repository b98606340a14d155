-- Turns of the least leaf that may fire come to an end: a period, or a leaf that is blocked.
use Rattle.std.proofs.Common.{◌≡◌, ◌≢◌, ◌⊎◌, ℕ, zero, suc, ◌+◌, ◌-◌, ◌<◌, ◌≤◌, List, [], ◌∷◌, ◌++◌, length, sym, ap, subst, inl, inr, ⊎_elim, arith, length-append}
use Rattle.std.specs.Prelude.{All}
use Rattle.std.proofs.lemmas.Bool.{cases_eq, cases_lt}
use Rattle.std.proofs.lemmas.List.{get_or_append_left, get_or_push, get_or_default, take_at, take-append-le}
use Rattle.std.proofs.lemmas.List.Elements.{All-nil}
use Rattle.balanced_rates.specs.declared.link.RatedLink.{RatedLink}
use Rattle.balanced_rates.specs.Balance.{IsAmong, total}
use Rattle.period_order.specs.Turns.{turns, given, taken, Finds, IsPeriod, MayFire, IsNext, IsLeastFirst, IsBlocked}
use Rattle.period_order.proofs.Sums.{sum_changed, term_within_sum}
use Rattle.period_order.proofs.Taking.{turns_of_it, turns_of_other, no_period}

-- ---- what can be decided
abbrev Decided : Type 0 → Type 0
Decided P = P ⊎ (P → ⊥)

all_cons : {X : Type 0} (P : X → Type 0) (x : X) (xs : List X) → P x → All P xs → All P (x ∷ xs)
all_cons P x xs first rest zero d inside = first
all_cons P x xs first rest (suc k) d inside = rest k d (omega arith)

all_decided : {X : Type 0} (P : X → Type 0) → ((x : X) → Decided (P x)) → (xs : List X) → Decided (All P xs)
all_decided P decide [] = inl (All-nil P)
all_decided P decide (x ∷ xs) =
    ⊎_elim
    (λ first. ⊎_elim (λ rest. inl (all_cons P x xs first rest)) (λ none. inr (λ all. none (λ k d inside. all (suc k) d (omega (arith, inside))))) (all_decided P decide xs))
    (λ none. inr (λ all. none (all 0 x (omega arith))))
    (decide x)

-- the first number below m of which P holds
abbrev First : (ℕ → Type 0) → ℕ → Type 0
First P m = (k : ℕ) × (k < m) × P k × ((j : ℕ) → j < k → P j → ⊥)

first_or_none : (P : ℕ → Type 0) → ((k : ℕ) → Decided (P k)) → (m : ℕ) → First P m ⊎ ((k : ℕ) → k < m → P k → ⊥)
first_or_none P decide zero = inr (λ k less. absurd (omega (arith, less)))
first_or_none P decide (suc m) =
    ⊎_elim
    (λ found. inl (found.0, (let less = found.1 in omega arith), found.2, found.3))
    (λ none. ⊎_elim
    (λ here. inl (m, omega arith, here, none))
    (λ not_here. inr (λ k less. ⊎_elim (λ (before : k < m). none k before)
    (λ (last : m ≤ k). let same : m ≡ k = omega (arith, last, less) in subst (λ j. P j → ⊥) same not_here) (cases_lt k m)))
    (decide m))
    (first_or_none P decide m)

module _ (n : ℕ) (links : List RatedLink) (firings : ℕ → ℕ) where
  finds_decided : (order : List ℕ) (leaf : ℕ) → Decided (Finds links order leaf)
  finds_decided order leaf =
      all_decided (λ link. link.reader ≡ leaf → taken link order + link.need ≤ given link order)
      (λ link. ⊎_elim
      (λ (reads : link.reader ≡ leaf). ⊎_elim (λ (less : given link order < taken link order + link.need). inr (λ finds. let enough = finds reads in omega (arith, enough, less)))
      (λ (enough : taken link order + link.need ≤ given link order). inl (λ _. enough)) (cases_lt (given link order) (taken link order + link.need)))
      (λ (other : link.reader ≢ leaf). inl (λ reads. absurd (other reads))) (cases_eq link.reader leaf))
      links

  may_decided : (order : List ℕ) (leaf : ℕ) → Decided (MayFire n links firings order leaf)
  may_decided order leaf =
      ⊎_elim
      (λ (among : leaf < n). ⊎_elim
      (λ (left : turns leaf order < firings leaf). ⊎_elim
      (λ finds. inl (record { among = among; left = left; finds = finds }))
      (λ lacks. inr (λ may. lacks may.finds)) (finds_decided order leaf))
      (λ (none : firings leaf ≤ turns leaf order). inr (λ may. let left = may.left in omega (arith, none, left))) (cases_lt (turns leaf order) (firings leaf)))
      (λ (beyond : n ≤ leaf). inr (λ may. let among = may.among in omega (arith, beyond, among))) (cases_lt leaf n)

  -- ---- turns until none may fire
  abbrev left_of : List ℕ → ℕ → ℕ
  left_of order leaf = firings leaf - turns leaf order

  next_more : (order : List ℕ) (leaf : ℕ) → IsLeastFirst n links firings order → IsNext n links firings order leaf → IsLeastFirst n links firings (order ++ leaf ∷ [])
  next_more order leaf before next p inside =
      ⊎_elim (λ (less : p < length order). rw (take-append-le p order (leaf ∷ []) (omega (arith, less)), get_or_append_left order (leaf ∷ []) 0 p less) (before p less))
      (λ (over : length order ≤ p). let end : length order ≡ p = omega (arith, over, inside, length-append order (leaf ∷ [])) in
      rw (take_at order (leaf ∷ []) p end, get_or_push order leaf 0 p end) next) (cases_lt p (length order))

  fewer_left : (order : List ℕ) (leaf : ℕ) → leaf < n → turns leaf order < firings leaf → total (left_of (order ++ leaf ∷ [])) n + 1 ≡ total (left_of order) n
  fewer_left order leaf among left =
      let sums : total (left_of (order ++ leaf ∷ [])) n + left_of order leaf ≡ total (left_of order) n + left_of (order ++ leaf ∷ []) leaf =
      sum_changed (left_of order) (left_of (order ++ leaf ∷ [])) n leaf among (λ k inside apart. ap (λ z. firings k - z) (turns_of_other k leaf order apart)) in
      let one : turns leaf (order ++ leaf ∷ []) ≡ turns leaf order + 1 = turns_of_it leaf order in
      omega (arith, sums, one, left)

  within_more : (order : List ℕ) (leaf : ℕ) → turns leaf order < firings leaf → ((k : ℕ) → turns k order ≤ firings k) → (k : ℕ) → turns k (order ++ leaf ∷ []) ≤ firings k
  within_more order leaf left within k =
      ⊎_elim (λ (it : k ≡ leaf).
      let one : turns k (order ++ leaf ∷ []) ≡ turns k order + 1 = subst (λ j. turns j (order ++ leaf ∷ []) ≡ turns j order + 1) (sym it) (turns_of_it leaf order) in
      let less : turns k order < firings k = subst (λ j. turns j order < firings j) (sym it) left in
      omega (arith, one, less))
      (λ (apart : k ≢ leaf). let same : turns k (order ++ leaf ∷ []) ≡ turns k order = turns_of_other k leaf order apart in let low = within k in omega (arith, same, low)) (cases_eq k leaf)

  -- an order of turns, each the least, behind which no leaf may fire
  record IsPlayedOut : Type 0 where
    order : List ℕ
    least_first : IsLeastFirst n links firings order
    within : (k : ℕ) → turns k order ≤ firings k
    none : (leaf : ℕ) → ¬ MayFire n links firings order leaf

  played_out : (fuel : ℕ) (order : List ℕ) → total (left_of order) n ≤ fuel → IsLeastFirst n links firings order → ((k : ℕ) → turns k order ≤ firings k) → IsPlayedOut
  played_out zero order few least_first within = record {
    order = order;
    least_first = least_first;
    within = within;
    none = λ leaf may.
        let left = may.left in
        let term : left_of order leaf ≤ total (left_of order) n = term_within_sum (left_of order) n leaf may.among in
        omega (arith, left, term, few);
  }
  played_out (suc fuel) order few least_first within =
      ⊎_elim
      (λ found.
      let may : MayFire n links firings order found.0 = found.2 in
      let fewer = fewer_left order found.0 may.among may.left in
      played_out fuel (order ++ found.0 ∷ []) (omega (arith, few, fewer)) (next_more order found.0 least_first (record { may = may; least = found.3 })) (within_more order found.0 may.left within))
      (λ none. record {
        order = order;
        least_first = least_first;
        within = within;
        none = λ leaf may. none leaf may.among may;
      })
      (first_or_none (λ leaf. MayFire n links firings order leaf) (may_decided order) n)

  -- a leaf has turns left behind an order
  abbrev HasLeft : List ℕ → ℕ → Type 0
  HasLeft order leaf = turns leaf order < firings leaf

  left_decided : (order : List ℕ) (leaf : ℕ) → Decided (HasLeft order leaf)
  left_decided order leaf =
      ⊎_elim (λ (left : turns leaf order < firings leaf). inl left)
      (λ (none : firings leaf ≤ turns leaf order). inr (λ left. omega (arith, none, left))) (cases_lt (turns leaf order) (firings leaf))

  -- a period, or a leaf that is blocked
  period_or_blocked : ((order : List ℕ) × IsPeriod n links firings order) ⊎ ((leaf : ℕ) × IsBlocked n links firings leaf)
  period_or_blocked =
      let out = played_out (total (left_of []) n) [] (omega arith) (λ p inside. absurd (omega (arith, inside))) (λ k. omega arith) in
      ⊎_elim
      (λ found. inr (
        found.0,
        record {
          order = out.order;
          least_first = out.least_first;
          none = out.none;
          among = found.1;
          left = found.2;
          first = λ other less.
              ⊎_elim (λ (left : turns other out.order < firings other). absurd (found.3 other less left))
              (λ (none : firings other ≤ turns other out.order). none) (cases_lt (turns other out.order) (firings other));
        },
      ))
      (λ none. inl (
        out.order,
        record {
          among = λ p d inside. subst (λ k. k < n) (get_or_default out.order p 0 d inside) (out.least_first p inside).may.among;
          finds = λ p inside. (out.least_first p inside).may.finds;
          counts = λ leaf inside.
              ⊎_elim (λ (left : turns leaf out.order < firings leaf). absurd (none leaf inside left))
              (λ (over : firings leaf ≤ turns leaf out.order). let within = out.within leaf in omega (arith, over, within)) (cases_lt (turns leaf out.order) (firings leaf));
        },
      ))
      (first_or_none (HasLeft out.order) (left_decided out.order) n)

  pub blocked_has_none : All (IsAmong n) links → ((leaf : ℕ) × IsBlocked n links firings leaf) → (order : List ℕ) → ¬ IsPeriod n links firings order
  blocked_has_none among blocked order period =
      no_period n links firings blocked.1.order among blocked.1.none order period blocked.0 blocked.1.among blocked.1.left

  pub none_is_blocked : ((order : List ℕ) → ¬ IsPeriod n links firings order) → (leaf : ℕ) × IsBlocked n links firings leaf
  none_is_blocked none = ⊎_elim (λ found. absurd (none found.0 found.1)) (λ blocked. blocked) period_or_blocked
