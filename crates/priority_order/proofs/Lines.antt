-- Lines: what may stand next, and that something may while not all stand.
use Rattle.std.proofs.Common.{◌≡◌, ◌≢◌, ℕ, zero, suc, ◌<◌, ◌≤◌, Bool, true, false, List, [], ◌∷◌, ◌++◌, length, get_or, set, take, ◌⊎◌, ⊎_elim, inl, inr, sym, ◌∙◌, subst, arith, Contains}
use Rattle.std.specs.Prelude.{◌↔◌, IsTrue, All, AllPairs}
use Rattle.std.proofs.lemmas.Bool.{cases_lt, cases_eq, cases_Bool, false≢true}
use Rattle.std.proofs.lemmas.List.{take-append-le, take_at, get_or_append_left, get_or_push, length_push, get_or-set_same, get_or-set_other, get_or_default, get_or-take, length-set, length-take-le}
use Rattle.std.proofs.lemmas.List.Elements.{Contains-append_left, Contains-push, Contains-push_cases}
use Rattle.rvc_base.specs.Line.{MayStand, IsNext, IsLine}
use Rattle.priority_order.specs.Ranking.{cell, Above, IsStrict}

-- ---- the same by other words
-- two words for 'is above' and for 'stands' that agree on the numbers below n
pub may_by : (n : ℕ) (A B : ℕ → ℕ → Type 0) (S R : ℕ → Type 0) → ((a b : ℕ) → a < n → b < n → B a b → A a b) → ((a : ℕ) → a < n → S a ↔ R a) → (b : ℕ) → MayStand n A S b → MayStand n B R b
may_by n A B S R above stands b may = record {
  in_range = may.in_range;
  new = λ r. may.new ((stands b may.in_range).1 r);
  after = λ a a_in over. (stands a a_in).0 (may.after a a_in (above a b a_in may.in_range over));
}

pub next_by : (n : ℕ) (A B : ℕ → ℕ → Type 0) (S R : ℕ → Type 0) → ((a b : ℕ) → a < n → b < n → A a b ↔ B a b) → ((a : ℕ) → a < n → S a ↔ R a) → (b : ℕ) → IsNext n A S b → IsNext n B R b
next_by n A B S R above stands b next = record {
  may = may_by n A B S R (λ a c a_in c_in. (above a c a_in c_in).1) stands b next.may;
  least = λ c may. next.least c (may_by n B A R S (λ a d a_in d_in. (above a d a_in d_in).0) (λ a a_in. ((stands a a_in).1, (stands a a_in).0)) c may);
}

pub line_by : (n : ℕ) (A B : ℕ → ℕ → Type 0) (line : List ℕ) → ((a b : ℕ) → a < n → b < n → A a b ↔ B a b) → IsLine n A line → IsLine n B line
line_by n A B line above lined = record {
  each = lined.each;
  next = λ k inside. next_by n A B (Contains (take k line)) (Contains (take k line)) above (λ a a_in. (λ h. h, λ h. h)) (get_or line k 0) (lined.next k inside);
}

-- ---- what stands in a line stands there once
abbrev pub EachNext : ℕ → (ℕ → ℕ → Type 0) → List ℕ → Type 0
EachNext n A line = (k : ℕ) → k < length line → IsNext n A (Contains (take k line)) (get_or line k 0)

pub line_distinct : (n : ℕ) (A : ℕ → ℕ → Type 0) (line : List ℕ) → EachNext n A line → AllPairs (λ a b. a ≢ b) line
line_distinct n A line next i j d less inside same =
    let i_in : i < length line = omega (arith, less, inside) in
    let same' : get_or line i 0 ≡ get_or line j 0 = get_or_default line i 0 d i_in ∙ same ∙ get_or_default line j d 0 inside in
    let shorter : i < length (take j line) = omega (arith, less, length-take-le j line (omega (arith, inside))) in
    let earlier : Contains (take j line) (get_or line j 0) = (i, shorter, get_or-take j line i (get_or line j 0) less ∙ get_or_default line i (get_or line j 0) 0 i_in ∙ same') in
    (next j inside).may.new earlier

pub line_in_range : (n : ℕ) (A : ℕ → ℕ → Type 0) (line : List ℕ) → EachNext n A line → All (λ a. a < n) line
line_in_range n A line next k d inside =
    let within : get_or line k 0 < n = (next k inside).may.in_range in
    rw (get_or_default line k d 0 inside) within

-- ---- a number more
-- the flags of the numbers that stand
pub record IsArranged (n : ℕ) (cells : List Bool) (stands : List Bool) (line : List ℕ) : Type 0 where
  pub size : length stands ≡ n
  pub marks : (a : ℕ) → a < n → IsTrue (get_or stands a false) ↔ Contains line a
  pub next : EachNext n (Above n cells) line

pub arranged_more : (n : ℕ) (cells stands : List Bool) (line : List ℕ) (b : ℕ) → IsArranged n cells stands line → IsNext n (Above n cells) (λ a. IsTrue (get_or stands a false)) b → IsArranged n cells (set stands b true) (line ++ b ∷ [])
arranged_more n cells stands line b so_far next = record {
  size = length-set stands b true ∙ so_far.size;
  marks = λ a a_in. ⊎_elim (λ (same : a ≡ b). (λ e. rw same (Contains-push line b), λ h. rw same (get_or-set_same stands b true false (let b_in = next.may.in_range in omega (arith, so_far.size)))))
      (λ (apart : a ≢ b). (
        λ e. Contains-append_left line (b ∷ []) a ((so_far.marks a a_in).0 (sym (get_or-set_other stands b a true false apart) ∙ e)),
        λ h. get_or-set_other stands b a true false apart ∙ (so_far.marks a a_in).1 (⊎_elim (λ earlier. earlier) (λ here. absurd (apart (sym here))) (Contains-push_cases line b a h)),
      )) (cases_eq a b);
  next = λ k inside. ⊎_elim (λ (less : k < length line). rw (take-append-le k line (b ∷ []) (omega (arith, less)), get_or_append_left line (b ∷ []) 0 k less) (so_far.next k less))
      (λ above. let end : length line ≡ k = omega (arith, above, inside, length_push line b) in
      rw (take_at line (b ∷ []) k end, get_or_push line b 0 k end)
      (next_by n (Above n cells) (Above n cells) (λ a. IsTrue (get_or stands a false)) (Contains line) (λ a c a_in c_in. (λ h. h, λ h. h)) so_far.marks b next)) (cases_lt k (length line));
}

-- ---- the end
-- among the first numbers either all stand, or some doesn't while none of them that is above it lacks
some_may : (n : ℕ) (cells stands : List Bool) → IsStrict n cells → (k : ℕ) → k ≤ n → ((c : ℕ) → c < k → IsTrue (get_or stands c false)) ⊎ ((m : ℕ) × (m < k) × (get_or stands m false ≡ false) × ((c : ℕ) → c < k → get_or stands c false ≡ false → ¬ Above n cells c m))
some_may n cells stands strict zero within = inl (λ c less. absurd (omega (arith, less)))
some_may n cells stands strict (suc k) within =
    let k_in : k < n = omega (arith, within) in
    ⊎_elim
    (λ all. ⊎_elim (λ (here : get_or stands k false ≡ true). inl (λ c less. ⊎_elim (λ (lower : c < k). all c lower) (λ above. let same : c ≡ k = omega (arith, above, less) in rw same here) (cases_lt c k)))
    (λ (lacks : get_or stands k false ≡ false). inr (k, omega arith, lacks, λ c less c_lacks over. ⊎_elim (λ (lower : c < k). false≢true (sym c_lacks ∙ all c lower)) (λ above. let same : c ≡ k = omega (arith, above, less) in strict.not_itself k k_in (subst (λ x. Above n cells x k) same over)) (cases_lt c k)))
    (cases_Bool (get_or stands k false)))
    (λ some. let m = some.0 in
    let m_in : m < n = omega (arith, some.1, within) in
    let keeps : (get_or stands k false ≡ true) ⊎ ((get_or stands k false ≡ false) × ¬ Above n cells k m) → ((c : ℕ) → c < suc k → IsTrue (get_or stands c false)) ⊎ ((m : ℕ) × (m < suc k) × (get_or stands m false ≡ false) × ((c : ℕ) → c < suc k → get_or stands c false ≡ false → ¬ Above n cells c m)) =
    λ why. inr (
      m,
      omega (arith, some.1),
      some.2,
      λ c less c_lacks over. ⊎_elim (λ (lower : c < k). some.3 c lower c_lacks over)
          (λ above. let same : c ≡ k = omega (arith, above, less) in
          ⊎_elim (λ stood. false≢true (sym (subst (λ x. get_or stands x false ≡ false) same c_lacks) ∙ stood)) (λ below. below.1 (subst (λ x. Above n cells x m) same over)) why) (cases_lt c k),
    ) in
    ⊎_elim (λ stood. keeps (inl stood))
    (λ lacks. ⊎_elim
    (λ (over_m : cell n cells k m ≡ true). inr (
      k,
      omega arith,
      lacks,
      λ c less c_lacks over. ⊎_elim (λ (lower : c < k). some.3 c lower c_lacks (strict.carries c k m (omega (arith, lower, k_in)) k_in m_in over over_m))
          (λ above. let same : c ≡ k = omega (arith, above, less) in strict.not_itself k k_in (subst (λ x. Above n cells x k) same over)) (cases_lt c k),
    ))
    (λ (not_over : cell n cells k m ≡ false). keeps (inr (lacks, λ over. false≢true (sym not_over ∙ over))))
    (cases_Bool (cell n cells k m)))
    (cases_Bool (get_or stands k false)))
    (some_may n cells stands strict k (omega (arith, within)))

-- if none may stand next, all stand
pub all_stand : (n : ℕ) (cells stands : List Bool) → IsStrict n cells → ((b : ℕ) → ¬ MayStand n (Above n cells) (λ a. IsTrue (get_or stands a false)) b) → (a : ℕ) → a < n → IsTrue (get_or stands a false)
all_stand n cells stands strict none a a_in =
    ⊎_elim (λ all. all a a_in)
    (λ some. absurd (none some.0 (record {
      in_range = some.1;
      new = λ e. false≢true (sym some.2 ∙ e);
      after = λ c c_in over. ⊎_elim (λ stood. stood) (λ lacks. absurd (some.3 c c_in lacks over)) (cases_Bool (get_or stands c false));
    })))
    (some_may n cells stands strict n (omega arith))
