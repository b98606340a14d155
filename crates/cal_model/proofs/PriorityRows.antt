-- Priorities of actors whose actions stand in the line as they are numbered: no pair is declared, or one of which
-- the higher action has the lower number.
use Rattle.std.proofs.Common.{◌≡◌, ℕ, zero, suc, ◌+◌, ◌<◌, ◌≤◌, Bool, true, false, ◌&&◌, List, [], ◌∷◌, length, get_or, take, refl, sym, ap, subst, ◌∙◌, ⊎_elim, arith, Contains}
use Rattle.std.specs.Prelude.{◌↔◌, IsTrue, ◌==◌}
use Rattle.std.specs.List.{range_with_len}
use Rattle.std.proofs.lemmas.Bool.{cases_lt, false≢true}
use Rattle.std.proofs.lemmas.List.FromFn.{length-range_with_len, get_or-range_with_len}
use Rattle.rvc_base.specs.Chain.{ChainLeads, IsAbove}
use Rattle.rvc_base.specs.Line.{IsNext, IsLine}
use Rattle.cal_model.specs.Actor.{Actor}
use Rattle.cal_model.specs.Selection.{Priorities, Above}

-- ---- the line

take-range : (a n k : ℕ) → k ≤ n → take k (range_with_len a n) ≡ range_with_len a k
take-range a n zero h = refl
take-range a zero (suc k) h = absurd (omega arith)
take-range a (suc n) (suc k) h = ap (λ xs. a ∷ xs) (take-range (a + 1) n k (omega arith))

in-range : (k c : ℕ) → c < k → Contains (range_with_len 0 k) c
in-range k c h = (c, (let e : length (range_with_len 0 k) ≡ k = length-range_with_len 0 k in omega arith), (let e : get_or (range_with_len 0 k) c c ≡ 0 + c = get_or-range_with_len 0 k c c h in omega arith))

below-end : (k c : ℕ) → Contains (range_with_len 0 k) c → c < k
below-end k c h =
    let within : h.0 < k = (let e : length (range_with_len 0 k) ≡ k = length-range_with_len 0 k in let f : h.0 < length (range_with_len 0 k) = h.1 in omega arith) in
    let same : 0 + h.0 ≡ c = sym (get_or-range_with_len 0 k h.0 c within) ∙ h.2 in
    omega arith

-- if what is above has the lower number, the line is that of the numbers
numbers-stand : (n : ℕ) (A : ℕ → ℕ → Type 0) → ((a b : ℕ) → A a b → a < b) → IsLine n A (range_with_len 0 n)
numbers-stand n A lower = record {
  each = λ a h. in-range n a h;
  next = λ k h. next k (let e : length (range_with_len 0 n) ≡ n = length-range_with_len 0 n in let f : k < length (range_with_len 0 n) = h in omega arith);
}
  where
    next : (k : ℕ) → k < n → IsNext n A (Contains (take k (range_with_len 0 n))) (get_or (range_with_len 0 n) k 0)
    next k h =
        let front : range_with_len 0 k ≡ take k (range_with_len 0 n) = sym (take-range 0 n k (omega arith)) in
        let here : k ≡ get_or (range_with_len 0 n) k 0 = (let e : get_or (range_with_len 0 n) k 0 ≡ 0 + k = get_or-range_with_len 0 n k 0 h in omega arith) in
        subst (λ xs. IsNext n A (Contains xs) (get_or (range_with_len 0 n) k 0)) front
        (subst (λ b. IsNext n A (Contains (range_with_len 0 k)) b) here
        (record {
          may = record {
            in_range = h;
            new = λ m. let g : k < k = below-end k k m in omega arith;
            after = λ a a_in over. in-range k a (lower a k over);
          };
          least = λ c may. ⊎_elim (λ (g : c < k). absurd (may.new (in-range k c g))) (λ (g : k ≤ c). g) (cases_lt c k);
        }))

-- ---- no pair

nothing-leads : (a b : ℕ) (through : List ℕ) → ChainLeads [] a through b → ⊥
nothing-leads a b [] h = let k : h.0 < 0 = h.1 in omega arith
nothing-leads a b (x ∷ xs) h = let k : h.0.0 < 0 = h.0.1 in omega arith

pub none-above : (a b : ℕ) → ¬ IsAbove [] a b
none-above a b h = nothing-leads a b h.0 h.1

pub unranked-above : (actor : Actor) → actor.pairs ≡ [] → (a b : ℕ) → IsTrue false ↔ Above actor a b
unranked-above actor none a b = ((λ h. absurd (false≢true h)), λ h. absurd (none-above a b (subst (λ pairs. IsAbove pairs a b) none h)))

pub unranked-line : (actor : Actor) → actor.pairs ≡ [] → IsLine (length actor.actions) (Above actor) (range_with_len 0 (length actor.actions))
unranked-line actor none = numbers-stand (length actor.actions) (Above actor) (λ a b h. absurd (none-above a b (subst (λ pairs. IsAbove pairs a b) none h)))

-- no pair is declared
abbrev pub unranked : (actor : Actor) → actor.pairs ≡ [] → Priorities actor
unranked actor none = record {
  above = λ a b. false;
  line = range_with_len 0 (length actor.actions);
  is_above = λ a b i j. unranked-above actor none a b;
  is_line = unranked-line actor none;
}

-- ---- one pair

same-number : (m n : ℕ) → (m == n) ≡ true → m ≡ n
same-number m n h = grind arith

same-itself : (n : ℕ) → (n == n) ≡ true
same-itself n = grind arith

both-true : (a b : Bool) → (a && b) ≡ true → (a ≡ true) × (b ≡ true)
both-true true true h = (refl, refl)
both-true true false h = absurd (grind arith)
both-true false b h = absurd (grind arith)

the-pair : (p q a b : ℕ) → Contains {X = ℕ × ℕ} ((p, q) ∷ []) (a, b) → (a ≡ p) × (b ≡ q)
the-pair p q a b (zero, h, e) = (ap (λ x. x.0) (sym e), ap (λ x. x.1) (sym e))
the-pair p q a b (suc k, h, e) = absurd (omega arith)

pair-leads : (p q a b : ℕ) (through : List ℕ) → p < q → ChainLeads ((p, q) ∷ []) a through b → (a ≡ p) × (b ≡ q)
pair-leads p q a b [] less h = the-pair p q a b h
pair-leads p q a b (x ∷ xs) less h =
    let first : x ≡ q = (the-pair p q a x h.0).1 in
    let second : x ≡ p = (pair-leads p q x b xs less h.1).0 in
    absurd (omega arith)

-- if one pair is declared, that is all that stands above
pub one-above : (p q a b : ℕ) → p < q → IsAbove ((p, q) ∷ []) a b → (a ≡ p) × (b ≡ q)
one-above p q a b less h = pair-leads p q a b h.0 less h.1

the-pair-leads : (p q a b : ℕ) → a ≡ p → b ≡ q → IsAbove ((p, q) ∷ []) a b
the-pair-leads p q a b e f =
    let same : ◌≡◌ {A = ℕ × ℕ} (p, q) (a, b) = ap (λ x. (x, q)) (sym e) ∙ ap (λ y. (a, y)) (sym f) in
    let within : 0 < 1 = omega arith in
    let there : Contains {X = ℕ × ℕ} ((p, q) ∷ []) (a, b) = (0, within, same) in
    ([], there)

pub ranked-above : (actor : Actor) (p q : ℕ) → actor.pairs ≡ (p, q) ∷ [] → p < q → (a b : ℕ) → IsTrue (a == p && b == q) ↔ Above actor a b
ranked-above actor p q one less a b = (
  (λ h.
      let parts = both-true (a == p) (b == q) h in
      subst (λ pairs. IsAbove pairs a b) (sym one) (the-pair-leads p q a b (same-number a p parts.0) (same-number b q parts.1))),
  λ h.
      let parts = one-above p q a b less (subst (λ pairs. IsAbove pairs a b) one h) in
      ap (λ x. x == p && b == q) parts.0 ∙ ap (λ y. p == p && y == q) parts.1 ∙ ap (λ v. v && q == q) (same-itself p) ∙ same-itself q,
)

pub ranked-line : (actor : Actor) (p q : ℕ) → actor.pairs ≡ (p, q) ∷ [] → p < q → IsLine (length actor.actions) (Above actor) (range_with_len 0 (length actor.actions))
ranked-line actor p q one less = numbers-stand (length actor.actions) (Above actor) (λ a b h.
    let parts = one-above p q a b less (subst (λ pairs. IsAbove pairs a b) one h) in
    let e : a ≡ p = parts.0 in
    let f : b ≡ q = parts.1 in
    omega arith)

-- one pair is declared
abbrev pub ranked : (actor : Actor) (p q : ℕ) → actor.pairs ≡ (p, q) ∷ [] → p < q → Priorities actor
ranked actor p q one less = record {
  above = λ a b. a == p && b == q;
  line = range_with_len 0 (length actor.actions);
  is_above = λ a b i j. ranked-above actor p q one less a b;
  is_line = ranked-line actor p q one less;
}
