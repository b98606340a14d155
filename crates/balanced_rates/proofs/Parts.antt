-- Parts that links join one by one.
use Rattle.std.proofs.Common.{◌≡◌, ◌≢◌, ℕ, zero, suc, ◌+◌, ◌*◌, ◌<◌, ◌≤◌, List, [], ◌∷◌, ◌++◌, get_or, refl, sym, ap, ◌∙◌, subst, ⊎_elim, arith, nat_eq, eq-eqb, ne_eqb, length-append, add-one}
use Rattle.std.specs.Prelude.{All, if◌then◌else◌}
use Rattle.std.proofs.lemmas.Bool.{cases_eq, cases_lt}
use Rattle.std.proofs.lemmas.Nat.{mul-le}
use Rattle.std.proofs.lemmas.List.{get_or_append_left}
use Rattle.std.proofs.lemmas.List.Elements.{All-contains, All-push, All-nil, Contains-push}
use Rattle.balanced_rates.specs.declared.link.RatedLink.{RatedLink}
use Rattle.balanced_rates.specs.Balance.{IsAmong, IsBalanced, Balances, IsLeast, IsContrary, IsLong, Joined, IsMultipleFrom, total}
use Rattle.balanced_rates.specs.Balance.Joined.{here, along, back}
use Rattle.balanced_rates.specs.Fraction.{IsLowest}
use Rattle.balanced_rates.specs.Split.{IsInside, IsSplit, growth, grown}
use Rattle.balanced_rates.proofs.Fractions.{cancels, product_is_some, factor_is_some}

-- ---- lists that have one more
all_before : {X : Type 0} (P : X → Type 0) (xs : List X) (x : X) → All P (xs ++ x ∷ []) → All P xs
all_before P xs x all k d inside =
    subst P (get_or_append_left xs (x ∷ []) d k inside) (all k d (omega (arith, inside, length-append xs (x ∷ []))))

last_of : {X : Type 0} (P : X → Type 0) (xs : List X) (x : X) → All P (xs ++ x ∷ []) → P x
last_of P xs x all = All-contains P (xs ++ x ∷ []) x all (Contains-push xs x)

balances_before : (n : ℕ) (links : List RatedLink) (link : RatedLink) (firings : ℕ → ℕ) → Balances n (links ++ link ∷ []) firings → Balances n links firings
balances_before n links link firings h = record {
  positive = h.positive;
  balanced = all_before (IsBalanced firings) links link h.balanced;
}

-- ---- growth
growth_of_first : (a b p q c : ℕ) → c ≡ a → growth a b p q c ≡ p
growth_of_first a b p q c e = rw (eq-eqb c a e) refl

growth_of_second : (a b p q c : ℕ) → c ≢ a → c ≡ b → growth a b p q c ≡ q
growth_of_second a b p q c other e = rw (ne_eqb c a other, eq-eqb c b e) refl

growth_of_others : (a b p q c : ℕ) → c ≢ a → c ≢ b → growth a b p q c ≡ 1
growth_of_others a b p q c other other' = rw (ne_eqb c a other, ne_eqb c b other') refl

growth_is_some : (a b p q c : ℕ) → 1 ≤ p → 1 ≤ q → 1 ≤ growth a b p q c
growth_is_some a b p q c p_some q_some =
    ⊎_elim (λ (e : c ≡ a). rw (growth_of_first a b p q c e) p_some)
    (λ (other : c ≢ a). ⊎_elim (λ (e : c ≡ b). rw (growth_of_second a b p q c other e) q_some)
    (λ (other' : c ≢ b). let is : growth a b p q c ≡ 1 = growth_of_others a b p q c other other' in omega arith) (cases_eq c b)) (cases_eq c a)

-- ---- no link yet
pub split_none : (n : ℕ) (parts firings : ℕ → ℕ) → ((k : ℕ) → k < n → parts k ≡ k) → ((k : ℕ) → k < n → firings k ≡ 1) → IsSplit n [] parts firings
split_none n parts firings own ones = record {
  among = All-nil (IsAmong n);
  balances = record {
    positive = λ k inside. let one : firings k ≡ 1 = ones k inside in omega arith;
    balanced = All-nil (IsBalanced firings);
  };
  inside = All-nil (IsInside parts);
  multiples = λ others h. (others, λ k inside. let one : firings k ≡ 1 = ones k inside in let part : parts k ≡ k = own k inside in rw (part, one) (omega arith));
}

-- ---- a link that changes nothing
pub split_more : (n : ℕ) (links : List RatedLink) (link : RatedLink) (parts firings : ℕ → ℕ) → IsSplit n links parts firings → IsAmong n link → IsBalanced firings link → IsInside parts link → IsSplit n (links ++ link ∷ []) parts firings
split_more n links link parts firings split among balanced inside = record {
  among = All-push (IsAmong n) links link split.among among;
  balances = record {
    positive = split.balances.positive;
    balanced = All-push (IsBalanced firings) links link split.balances.balanced balanced;
  };
  inside = All-push (IsInside parts) links link split.inside inside;
  multiples = λ others h. split.multiples others (balances_before n links link others h);
}

-- factors of which that of one part is replaced
abbrev replaced : ℕ → ℕ → (ℕ → ℕ) → ℕ → ℕ
replaced a factor factors c = if nat_eq c a then factor else factors c

replaced_at : (a factor : ℕ) (factors : ℕ → ℕ) (c : ℕ) → c ≡ a → replaced a factor factors c ≡ factor
replaced_at a factor factors c e = rw (eq-eqb c a e) refl

replaced_elsewhere : (a factor : ℕ) (factors : ℕ → ℕ) (c : ℕ) → c ≢ a → replaced a factor factors c ≡ factors c
replaced_elsewhere a factor factors c other = rw (ne_eqb c a other) refl

-- ---- a link that joins two parts
pub record IsJoined (n : ℕ) (link : RatedLink) (parts firings parts' firings' : ℕ → ℕ) (p q : ℕ) : Type 0 where
  pub among : IsAmong n link
  pub apart : parts link.writer ≢ parts link.reader
  pub lowest : IsLowest (link.give * firings link.writer) (link.need * firings link.reader) p q
  pub grown : (k : ℕ) → k < n → firings' k ≡ grown (parts link.writer) (parts link.reader) q p parts firings k
  pub united : (k : ℕ) → k < n → parts' k ≡ (if nat_eq (parts k) (parts link.reader) then parts link.writer else parts k)

module _ (n : ℕ) (link : RatedLink) (parts firings parts' firings' : ℕ → ℕ) (p q : ℕ) (joined : IsJoined n link parts firings parts' firings' p q) where
  in_first : (k : ℕ) → k < n → parts k ≡ parts link.writer → firings' k ≡ q * firings k
  in_first k inside e = joined.grown k inside ∙ ap (λ z. z * firings k) (growth_of_first (parts link.writer) (parts link.reader) q p (parts k) e)

  in_second : (k : ℕ) → k < n → parts k ≡ parts link.reader → firings' k ≡ p * firings k
  in_second k inside e =
      joined.grown k inside ∙ ap (λ z. z * firings k) (growth_of_second (parts link.writer) (parts link.reader) q p (parts k) (λ e'. joined.apart (sym e' ∙ e)) e)

  elsewhere : (k : ℕ) → k < n → parts k ≢ parts link.writer → parts k ≢ parts link.reader → firings' k ≡ firings k
  elsewhere k inside other other' =
      let is : firings' k ≡ 1 * firings k = joined.grown k inside ∙ ap (λ z. z * firings k) (growth_of_others (parts link.writer) (parts link.reader) q p (parts k) other other') in
      omega arith

  part_of_second : (k : ℕ) → k < n → parts k ≡ parts link.reader → parts' k ≡ parts link.writer
  part_of_second k inside e = joined.united k inside ∙ (rw (eq-eqb (parts k) (parts link.reader) e) refl)

  part_of_others : (k : ℕ) → k < n → parts k ≢ parts link.reader → parts' k ≡ parts k
  part_of_others k inside other = joined.united k inside ∙ (rw (ne_eqb (parts k) (parts link.reader) other) refl)

  pub still_balanced : (l : RatedLink) → ((k : ℕ) → k < n → 1 ≤ firings k) → IsAmong n l → IsInside parts l → IsBalanced firings l → IsBalanced firings' l
  still_balanced l positive among inside balanced =
      ⊎_elim (λ (gives : 0 < l.give).
      let same : parts l.writer ≡ parts l.reader = inside gives in
      let by = growth (parts link.writer) (parts link.reader) q p (parts l.writer) in
      let writes : firings' l.writer ≡ by * firings l.writer = joined.grown l.writer among.0 in
      let reads : firings' l.reader ≡ by * firings l.reader =
      subst (λ c. firings' l.reader ≡ growth (parts link.writer) (parts link.reader) q p c * firings l.reader) (sym same) (joined.grown l.reader among.1) in
      let given : l.give * firings' l.writer ≡ l.give * (by * firings l.writer) = ap (λ z. l.give * z) writes in
      let needed : l.need * firings' l.reader ≡ l.need * (by * firings l.reader) = ap (λ z. l.need * z) reads in
      let times : by * (l.give * firings l.writer) ≡ by * (l.need * firings l.reader) = ap (λ z. by * z) balanced in
      omega arith)
      (λ (none : l.give ≤ 0).
      let no_give : l.give ≡ 0 = omega arith in
      let given : l.give * firings l.writer ≡ 0 * firings l.writer = ap (λ z. z * firings l.writer) no_give in
      let no_need : l.need ≡ 0 =
      ⊎_elim (λ (needs : 0 < l.need). let some : 1 ≤ l.need * firings l.reader = product_is_some l.need (firings l.reader) (omega (arith, needs)) (positive l.reader among.1) in absurd (omega (arith, balanced)))
      (λ (none' : l.need ≤ 0). omega arith) (cases_lt 0 l.need) in
      rw (no_give, no_need) (omega arith)) (cases_lt 0 l.give)

  pub still_inside : (l : RatedLink) → IsAmong n l → IsInside parts l → IsInside parts' l
  still_inside l among inside gives =
      let same : parts l.writer ≡ parts l.reader = inside gives in
      ⊎_elim (λ (e : parts l.writer ≡ parts link.reader). part_of_second l.writer among.0 e ∙ sym (part_of_second l.reader among.1 (sym same ∙ e)))
      (λ (other : parts l.writer ≢ parts link.reader). part_of_others l.writer among.0 other ∙ (same ∙ sym (part_of_others l.reader among.1 (λ e. other (same ∙ e)))))
      (cases_eq (parts l.writer) (parts link.reader))

  pub now_balanced : IsBalanced firings' link
  now_balanced =
      let writes : firings' link.writer ≡ q * firings link.writer = in_first link.writer joined.among.0 refl in
      let reads : firings' link.reader ≡ p * firings link.reader = in_second link.reader joined.among.1 refl in
      let given : link.give * firings' link.writer ≡ link.give * (q * firings link.writer) = ap (λ z. link.give * z) writes in
      let needed : link.need * firings' link.reader ≡ link.need * (p * firings link.reader) = ap (λ z. link.need * z) reads in
      let same : link.give * firings link.writer * q ≡ link.need * firings link.reader * p = joined.lowest.same in
      omega arith

  pub now_inside : IsInside parts' link
  now_inside gives = part_of_others link.writer joined.among.0 joined.apart ∙ sym (part_of_second link.reader joined.among.1 refl)

  -- the new factor of a leaf in the first part, in the second one and elsewhere
  multiple_in_first : (others factors : ℕ → ℕ) (s k : ℕ) → k < n → others k ≡ factors (parts k) * firings k → factors (parts link.writer) ≡ s * q → parts k ≡ parts link.writer → others k ≡ replaced (parts link.writer) s factors (parts' k) * firings' k
  multiple_in_first others factors s k inside multiple is e =
      let part : parts' k ≡ parts link.writer = part_of_others k inside (λ e'. joined.apart (sym e ∙ e')) ∙ e in
      let old : others k ≡ s * q * firings k = multiple ∙ (ap (λ c. factors c * firings k) e ∙ ap (λ z. z * firings k) is) in
      let new : replaced (parts link.writer) s factors (parts' k) * firings' k ≡ s * (q * firings k) = ap (λ z. z * firings' k) (replaced_at (parts link.writer) s factors (parts' k) part) ∙ ap (λ z. s * z) (in_first k inside e) in
      omega arith

  multiple_in_second : (others factors : ℕ → ℕ) (s k : ℕ) → k < n → others k ≡ factors (parts k) * firings k → factors (parts link.reader) ≡ s * p → parts k ≡ parts link.reader → others k ≡ replaced (parts link.writer) s factors (parts' k) * firings' k
  multiple_in_second others factors s k inside multiple is e =
      let part : parts' k ≡ parts link.writer = part_of_second k inside e in
      let old : others k ≡ s * p * firings k = multiple ∙ (ap (λ c. factors c * firings k) e ∙ ap (λ z. z * firings k) is) in
      let new : replaced (parts link.writer) s factors (parts' k) * firings' k ≡ s * (p * firings k) = ap (λ z. z * firings' k) (replaced_at (parts link.writer) s factors (parts' k) part) ∙ ap (λ z. s * z) (in_second k inside e) in
      omega arith

  multiple_elsewhere : (others factors : ℕ → ℕ) (s k : ℕ) → k < n → others k ≡ factors (parts k) * firings k → parts k ≢ parts link.writer → parts k ≢ parts link.reader → others k ≡ replaced (parts link.writer) s factors (parts' k) * firings' k
  multiple_elsewhere others factors s k inside multiple other other' =
      let part : parts' k ≡ parts k = part_of_others k inside other' in
      let factor : replaced (parts link.writer) s factors (parts' k) ≡ factors (parts k) = ap (λ c. replaced (parts link.writer) s factors c) part ∙ replaced_elsewhere (parts link.writer) s factors (parts k) other in
      multiple ∙ (ap (λ z. z * firings k) (sym factor) ∙ ap (λ z. replaced (parts link.writer) s factors (parts' k) * z) (sym (elsewhere k inside other other')))

  -- the factors of both parts come from one number
  one_factor : (others factors : ℕ → ℕ) → ((k : ℕ) → k < n → others k ≡ factors (parts k) * firings k) → IsBalanced others link → (s : ℕ) × (factors (parts link.writer) ≡ s * q) × (factors (parts link.reader) ≡ s * p)
  one_factor others factors multiple balanced =
      let given : link.give * others link.writer ≡ link.give * (factors (parts link.writer) * firings link.writer) = ap (λ z. link.give * z) (multiple link.writer joined.among.0) in
      let needed : link.need * others link.reader ≡ link.need * (factors (parts link.reader) * firings link.reader) = ap (λ z. link.need * z) (multiple link.reader joined.among.1) in
      joined.lowest.multiples (factors (parts link.writer)) (factors (parts link.reader)) (omega (arith, balanced))

  pub now_multiple : (others factors : ℕ → ℕ) → ((k : ℕ) → k < n → others k ≡ factors (parts k) * firings k) → IsBalanced others link → (factors' : ℕ → ℕ) × ((k : ℕ) → k < n → others k ≡ factors' (parts' k) * firings' k)
  now_multiple others factors multiple balanced =
      let found = one_factor others factors multiple balanced in (
        replaced (parts link.writer) found.0 factors,
        λ k inside. ⊎_elim (multiple_in_first others factors found.0 k inside (multiple k inside) found.1)
            (λ other. ⊎_elim (multiple_in_second others factors found.0 k inside (multiple k inside) found.2)
            (multiple_elsewhere others factors found.0 k inside (multiple k inside) other) (cases_eq (parts k) (parts link.reader)))
            (cases_eq (parts k) (parts link.writer)),
      )

  pub now_positive : ((k : ℕ) → k < n → 1 ≤ firings k) → (k : ℕ) → k < n → 1 ≤ firings' k
  now_positive positive k inside =
      rw (joined.grown k inside) (product_is_some (growth (parts link.writer) (parts link.reader) q p (parts k)) (firings k) (growth_is_some (parts link.writer) (parts link.reader) q p (parts k) joined.lowest.under joined.lowest.over) (positive k inside))

pub split_joined : (n : ℕ) (links : List RatedLink) (link : RatedLink) (parts firings parts' firings' : ℕ → ℕ) (p q : ℕ) → IsSplit n links parts firings → IsJoined n link parts firings parts' firings' p q → IsSplit n (links ++ link ∷ []) parts' firings'
split_joined n links link parts firings parts' firings' p q split joined = record {
  among = All-push (IsAmong n) links link split.among joined.among;
  balances = record {
    positive = now_positive n link parts firings parts' firings' p q joined split.balances.positive;
    balanced = All-push (IsBalanced firings') links link (λ k d inside. still_balanced n link parts firings parts' firings' p q joined (get_or links k d) split.balances.positive (split.among k d inside) (split.inside k d inside) (split.balances.balanced k d inside)) (now_balanced n link parts firings parts' firings' p q joined);
  };
  inside = All-push (IsInside parts') links link (λ k d inside. still_inside n link parts firings parts' firings' p q joined (get_or links k d) (split.among k d inside) (split.inside k d inside)) (now_inside n link parts firings parts' firings' p q joined);
  multiples = λ others h.
      let known = split.multiples others (balances_before n links link others h) in
      now_multiple n link parts firings parts' firings' p q joined others known.0 known.1 (last_of (IsBalanced others) links link h.balanced);
}

-- ---- what a split says
pub least_of_split : (n : ℕ) (links : List RatedLink) (parts firings : ℕ → ℕ) → IsSplit n links parts firings → IsLeast n links firings
least_of_split n links parts firings split = record {
  balances = split.balances;
  least = λ others h k inside.
      let known = split.multiples others h in
      let is : others k ≡ known.0 (parts k) * firings k = known.1 k inside in
      let some : 1 ≤ known.0 (parts k) = factor_is_some (known.0 (parts k)) (firings k) (let other = h.positive k inside in omega arith) in
      let more : 1 * firings k ≤ known.0 (parts k) * firings k = mul-le 1 (firings k) (known.0 (parts k)) (firings k) some (omega arith) in
      omega arith;
}

total_le : (firings others : ℕ → ℕ) (n : ℕ) → ((k : ℕ) → k < n → firings k ≤ others k) → total firings n ≤ total others n
total_le firings others zero less = omega arith
total_le firings others (suc n) less =
    let before : total firings n ≤ total others n = total_le firings others n (λ k inside. less k (omega (arith, inside))) in
    let last : firings n ≤ others n = less n (omega arith) in
    omega arith

pub total_same : (firings others : ℕ → ℕ) (n : ℕ) → ((k : ℕ) → k < n → firings k ≡ others k) → total firings n ≡ total others n
total_same firings others zero same = refl
total_same firings others (suc n) same =
    let before : total firings n ≡ total others n = total_same firings others n (λ k inside. same k (omega (arith, inside))) in
    let last : firings n ≡ others n = same n (omega arith) in
    omega arith

pub total_more : (firings : ℕ → ℕ) (k : ℕ) → total firings (k + 1) ≡ total firings k + firings k
total_more firings k = rw add-one refl

-- a sum over more leaves is no less
pub total_onward : (firings : ℕ → ℕ) (k n : ℕ) → k ≤ n → total firings k ≤ total firings n
total_onward firings k zero within = let none : k ≡ 0 = omega (arith, within) in rw none (omega arith)
total_onward firings k (suc n) within =
    ⊎_elim (λ (less : k < suc n). let before : total firings k ≤ total firings n = total_onward firings k n (omega (arith, less)) in omega arith)
    (λ (over : suc n ≤ k). let same : k ≡ suc n = omega (arith, over, within) in rw same (omega arith)) (cases_lt k (suc n))

-- the links of a split are neither contrary nor long, if its firings aren't too many
pub faultless_of_split : (n longest : ℕ) (links : List RatedLink) (parts firings : ℕ → ℕ) → IsSplit n links parts firings → total firings n ≤ longest → ¬ IsContrary n links × ¬ IsLong n longest links
faultless_of_split n longest links parts firings split within = (
  λ contrary. contrary firings split.balances,
  λ long. let fewer : total long.0 n ≤ total firings n = total_le long.0 firings n (long.1.least firings split.balances) in absurd (omega (arith, long.2, within)),
)

pub long_of_split : (n longest : ℕ) (links : List RatedLink) (parts firings : ℕ → ℕ) → IsSplit n links parts firings → longest < total firings n → IsLong n longest links
long_of_split n longest links parts firings split over = (firings, least_of_split n links parts firings split, over)

-- ---- contrary links
-- a number of tokens is 0 on one side, and none on the other
no_balance : (give need given needed : ℕ) (fires others : ℕ) → give * fires ≡ 0 → 1 ≤ fires → (give * fires ≡ need * needed → ⊥) → 1 ≤ others → give * given ≡ need * others → ⊥
no_balance give need given needed fires others none fires_some unlike others_some even =
    let no_give : give ≡ 0 =
    ⊎_elim (λ (gives : 0 < give). let some : 1 ≤ give * fires = product_is_some give fires (omega (arith, gives)) fires_some in absurd (omega arith)) (λ (none' : give ≤ 0). omega arith) (cases_lt 0 give) in
    let nothing : give * given ≡ 0 * given = ap (λ z. z * given) no_give in
    let no_need : need ≡ 0 =
    ⊎_elim (λ (needs : 0 < need). let some : 1 ≤ need * others = product_is_some need others (omega (arith, needs)) others_some in absurd (omega arith)) (λ (none' : need ≤ 0). omega arith) (cases_lt 0 need) in
    let nothing' : need * needed ≡ 0 * needed = ap (λ z. z * needed) no_need in
    unlike (omega arith)

pub contrary_of_unlike : (n : ℕ) (links : List RatedLink) (link : RatedLink) (parts firings : ℕ → ℕ) → IsSplit n links parts firings → IsAmong n link → (IsBalanced firings link → ⊥) → ¬ ((0 < link.give * firings link.writer) × (0 < link.need * firings link.reader) × (parts link.writer ≢ parts link.reader)) → IsContrary n (links ++ link ∷ [])
contrary_of_unlike n links link parts firings split among unlike no_join others h =
    let even : link.give * others link.writer ≡ link.need * others link.reader = last_of (IsBalanced others) links link h.balanced in
    let before : Balances n links others = balances_before n links link others h in
    let writer_fires : 1 ≤ firings link.writer = split.balances.positive link.writer among.0 in
    let reader_fires : 1 ≤ firings link.reader = split.balances.positive link.reader among.1 in
    let writer_some : 1 ≤ others link.writer = h.positive link.writer among.0 in
    let reader_some : 1 ≤ others link.reader = h.positive link.reader among.1 in
    ⊎_elim (λ (gives : 0 < link.give * firings link.writer).
    ⊎_elim (λ (needs : 0 < link.need * firings link.reader).
    ⊎_elim (λ (same : parts link.writer ≡ parts link.reader).
    let known = split.multiples others before in
    let t = known.0 (parts link.writer) in
    let writes : others link.writer ≡ t * firings link.writer = known.1 link.writer among.0 in
    let reads : others link.reader ≡ t * firings link.reader = subst (λ c. others link.reader ≡ known.0 c * firings link.reader) (sym same) (known.1 link.reader among.1) in
    let given : link.give * others link.writer ≡ link.give * (t * firings link.writer) = ap (λ z. link.give * z) writes in
    let needed : link.need * others link.reader ≡ link.need * (t * firings link.reader) = ap (λ z. link.need * z) reads in
    let some : 1 ≤ t = factor_is_some t (firings link.writer) (omega arith) in
    let both : t * (link.give * firings link.writer) ≡ t * (link.need * firings link.reader) = omega arith in
    unlike (cancels t (link.give * firings link.writer) (link.need * firings link.reader) (omega arith) both))
    (λ (apart : parts link.writer ≢ parts link.reader). no_join (gives, needs, apart)) (cases_eq (parts link.writer) (parts link.reader)))
    (λ (none : link.need * firings link.reader ≤ 0).
    no_balance link.need link.give (others link.reader) (firings link.writer) (firings link.reader) (others link.writer) (omega arith) reader_fires (λ e. unlike (sym e)) writer_some (sym even)) (cases_lt 0 (link.need * firings link.reader)))
    (λ (none : link.give * firings link.writer ≤ 0).
    no_balance link.give link.need (others link.writer) (firings link.reader) (firings link.writer) (others link.reader) (omega arith) writer_fires unlike reader_some even) (cases_lt 0 (link.give * firings link.writer))

-- a balanced link that joins no parts lies inside one
pub inside_of_balanced : (n : ℕ) (link : RatedLink) (parts firings : ℕ → ℕ) → ((k : ℕ) → k < n → 1 ≤ firings k) → IsAmong n link → IsBalanced firings link → ¬ ((0 < link.give * firings link.writer) × (0 < link.need * firings link.reader) × (parts link.writer ≢ parts link.reader)) → IsInside parts link
inside_of_balanced n link parts firings positive among balanced no_join gives =
    ⊎_elim (λ (same : parts link.writer ≡ parts link.reader). same)
    (λ (apart : parts link.writer ≢ parts link.reader).
    let given : 1 ≤ link.give * firings link.writer = product_is_some link.give (firings link.writer) (omega (arith, gives)) (positive link.writer among.0) in
    absurd (no_join (omega arith, omega (arith, balanced), apart))) (cases_eq (parts link.writer) (parts link.reader))

-- ---- ways
part_of_way : (links : List RatedLink) (parts : ℕ → ℕ) → All (IsInside parts) links → (leaf k : ℕ) → Joined links leaf k → parts leaf ≡ parts k
part_of_way links parts inside leaf k (here leaf') = refl
part_of_way links parts inside leaf k (along link leaf' found gives way) =
    part_of_way links parts inside leaf link.writer way ∙ All-contains (IsInside parts) links link inside found gives
part_of_way links parts inside leaf k (back link leaf' found gives way) =
    part_of_way links parts inside leaf link.reader way ∙ sym (All-contains (IsInside parts) links link inside found gives)

way_among : (n : ℕ) (links : List RatedLink) → All (IsAmong n) links → (leaf k : ℕ) → leaf < n → Joined links leaf k → k < n
way_among n links among leaf k inside (here leaf') = inside
way_among n links among leaf k inside (along link leaf' found gives way) = (All-contains (IsAmong n) links link among found).1
way_among n links among leaf k inside (back link leaf' found gives way) = (All-contains (IsAmong n) links link among found).0

pub multiples_of_split : (n : ℕ) (links : List RatedLink) (parts firings : ℕ → ℕ) → IsSplit n links parts firings → (others : ℕ → ℕ) → Balances n links others → (leaf : ℕ) → leaf < n → IsMultipleFrom links firings others leaf
multiples_of_split n links parts firings split others h leaf inside =
    let known = split.multiples others h in
    (known.0 (parts leaf), λ k way. subst (λ c. others k ≡ known.0 c * firings k) (sym (part_of_way links parts split.inside leaf k way)) (known.1 k (way_among n links split.among leaf k inside way)))
