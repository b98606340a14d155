-- A sound actor has priorities: whether a chain of pairs leads somewhere is decided, and while some action isn't in the
-- line, one may stand next.
use Rattle.std.proofs.Common.{◌≡◌, ℕ, zero, suc, ◌+◌, ◌<◌, ◌≤◌, ◌⊎◌, inl, inr, ⊎_elim, Bool, true, false, ◌&&◌, ◌||◌, List, [], ◌∷◌, ◌++◌, length, get_or, take, refl, sym, ap, subst, ◌∙◌, arith, Contains, Decides}
use Rattle.std.specs.Prelude.{◌↔◌, IsTrue, ◌==◌, if◌then◌else◌}
use Rattle.std.proofs.lemmas.Bool.{cases_lt, cases_Bool, true≢false}
use Rattle.std.proofs.lemmas.Bool.Decides.{Decides-and, Decides-or, Decides-eqb}
use Rattle.std.proofs.lemmas.List.{take-append-le, take_at, get_or_append_left, get_or_push, length_push}
use Rattle.rvc_base.specs.Chain.{ChainLeads, IsAbove}
use Rattle.rvc_base.specs.Line.{MayStand, IsNext, IsLine}
use Rattle.cal_model.specs.Actor.{Actor}
use Rattle.cal_model.specs.Selection.{Above, Priorities}
use Rattle.cal_model.specs.Sound.{IsSound}

-- ---- chains

-- a chain leads from a to b by these pairs: without the first of them, or to the first and on from it
abbrev Leads : List (ℕ × ℕ) → ℕ → ℕ → Type 0
Leads [] a b = ⊥
Leads (e ∷ es) a b = Leads es a b ⊎ (((a ≡ e.0) ⊎ Leads es a e.0) × ((e.1 ≡ b) ⊎ Leads es e.1 b))

abbrev leads : List (ℕ × ℕ) → ℕ → ℕ → Bool
leads [] a b = false
leads (e ∷ es) a b = leads es a b || ((a == e.0 || leads es a e.0) && (e.1 == b || leads es e.1 b))

none-decides : Decides false ⊥
none-decides = (λ e. true≢false (sym e), λ p. absurd p)

leads-decides : (es : List (ℕ × ℕ)) (a b : ℕ) → Decides (leads es a b) (Leads es a b)
leads-decides [] a b = none-decides
leads-decides (e ∷ es) a b =
    Decides-or (leads es a b) ((a == e.0 || leads es a e.0) && (e.1 == b || leads es e.1 b)) (leads-decides es a b)
    (Decides-and (a == e.0 || leads es a e.0) (e.1 == b || leads es e.1 b)
    (Decides-or (a == e.0) (leads es a e.0) (Decides-eqb a e.0) (leads-decides es a e.0))
    (Decides-or (e.1 == b) (leads es e.1 b) (Decides-eqb e.1 b) (leads-decides es e.1 b)))

leads-joins : (es : List (ℕ × ℕ)) (a c b : ℕ) → Leads es a c → Leads es c b → Leads es a b
leads-joins [] a c b h i = absurd h
leads-joins (e ∷ es) a c b (inl h) (inl i) = inl (leads-joins es a c b h i)
leads-joins (e ∷ es) a c b (inl h) (inr i) = inr (inr (to i.0 (leads-joins es a c e.0 h)), i.1)
  where
    to : (c ≡ e.0) ⊎ Leads es c e.0 → (Leads es c e.0 → Leads es a e.0) → Leads es a e.0
    to (inl same) more = subst (λ x. Leads es a x) same h
    to (inr l) more = more l
leads-joins (e ∷ es) a c b (inr h) (inl i) = inr (h.0, inr (from h.1 (λ l. leads-joins es e.1 c b l i)))
  where
    from : (e.1 ≡ c) ⊎ Leads es e.1 c → (Leads es e.1 c → Leads es e.1 b) → Leads es e.1 b
    from (inl same) more = subst (λ x. Leads es x b) (sym same) i
    from (inr l) more = more l
leads-joins (e ∷ es) a c b (inr h) (inr i) = inr (h.0, i.1)

pair-leads : (es : List (ℕ × ℕ)) (a b : ℕ) → Contains {X = ℕ × ℕ} es (a, b) → Leads es a b
pair-leads [] a b (k, h, s) = absurd (omega arith)
pair-leads (e ∷ es) a b (zero, h, s) = inr (inl (ap (λ p. p.0) (sym s)), inl (ap (λ p. p.1) s))
pair-leads (e ∷ es) a b (suc k, h, s) = inl (pair-leads es a b (k, omega arith, s))

chain-leads : (es : List (ℕ × ℕ)) (a b : ℕ) (through : List ℕ) → ChainLeads es a through b → Leads es a b
chain-leads es a b [] h = pair-leads es a b h
chain-leads es a b (x ∷ xs) h = leads-joins es a x b (pair-leads es a x h.0) (chain-leads es x b xs h.1)

pair-wider : (e : ℕ × ℕ) (es : List (ℕ × ℕ)) (a b : ℕ) → Contains {X = ℕ × ℕ} es (a, b) → Contains {X = ℕ × ℕ} (e ∷ es) (a, b)
pair-wider e es a b (k, h, s) = (suc k, omega arith, s)

wider : (e : ℕ × ℕ) (es : List (ℕ × ℕ)) (a b : ℕ) (through : List ℕ) → ChainLeads es a through b → ChainLeads (e ∷ es) a through b
wider e es a b [] h = pair-wider e es a b h
wider e es a b (x ∷ xs) h = (pair-wider e es a x h.0, wider e es x b xs h.1)

chains-join : (es : List (ℕ × ℕ)) (a c b : ℕ) (through more : List ℕ) → ChainLeads es a through c → ChainLeads es c more b → ChainLeads es a (through ++ c ∷ more) b
chains-join es a c b [] more h i = (h, i)
chains-join es a c b (x ∷ xs) more h i = (h.0, chains-join es x c b xs more h.1 i)

above-joins : (es : List (ℕ × ℕ)) (a c b : ℕ) → IsAbove es a c → IsAbove es c b → IsAbove es a b
above-joins es a c b h i = (h.0 ++ c ∷ i.0, chains-join es a c b h.0 i.0 h.1 i.1)

leads-above : (es : List (ℕ × ℕ)) (a b : ℕ) → Leads es a b → IsAbove es a b
leads-above [] a b h = absurd h
leads-above (e ∷ es) a b h = go h (λ x y l. let c = leads-above es x y l in (c.0, wider e es x y c.0 c.1))
  where
    first : IsAbove (e ∷ es) e.0 e.1
    first = ([], (0, (let i : 0 < suc (length es) = omega arith in i), refl))

    to : (a ≡ e.0) ⊎ Leads es a e.0 → (Leads es a e.0 → IsAbove (e ∷ es) a e.0) → IsAbove (e ∷ es) a e.1
    to (inl same) over = subst (λ x. IsAbove (e ∷ es) x e.1) (sym same) first
    to (inr l) over = above-joins (e ∷ es) a e.0 e.1 (over l) first

    on : (e.1 ≡ b) ⊎ Leads es e.1 b → (Leads es e.1 b → IsAbove (e ∷ es) e.1 b) → IsAbove (e ∷ es) a e.1 → IsAbove (e ∷ es) a b
    on (inl same) over there = subst (λ x. IsAbove (e ∷ es) a x) same there
    on (inr l) over there = above-joins (e ∷ es) a e.1 b there (over l)

    go : Leads es a b ⊎ (((a ≡ e.0) ⊎ Leads es a e.0) × ((e.1 ≡ b) ⊎ Leads es e.1 b)) → ((x y : ℕ) → Leads es x y → IsAbove (e ∷ es) x y) → IsAbove (e ∷ es) a b
    go (inl l) over = over a b l
    go (inr l) over = on l.1 (over e.1 b) (to l.0 (over a e.0))

pub above-decides : (es : List (ℕ × ℕ)) (a b : ℕ) → IsTrue (leads es a b) ↔ IsAbove es a b
above-decides es a b =
    let d = leads-decides es a b in
    (λ h. leads-above es a b (d.0 h), λ h. d.1 (chain-leads es a b h.0 h.1))

-- ---- numbers in a line

abbrev is_in : ℕ → List ℕ → Bool
is_in c [] = false
is_in c (x ∷ xs) = x == c || is_in c xs

in-more : (c x : ℕ) (xs : List ℕ) → (x ≡ c) ⊎ Contains xs c → Contains (x ∷ xs) c
in-more c x xs (inl same) = (0, (let i : 0 < suc (length xs) = omega arith in i), same)
in-more c x xs (inr (k, h, e)) = (suc k, (let i : suc k < suc (length xs) = omega arith in i), e)

in-less : (c x : ℕ) (xs : List ℕ) → Contains (x ∷ xs) c → (x ≡ c) ⊎ Contains xs c
in-less c x xs (zero, h, e) = inl e
in-less c x xs (suc k, h, e) = inr (k, omega arith, e)

in-none : (c : ℕ) → Contains [] c → ⊥
in-none c h = omega arith

in-decides : (c : ℕ) (xs : List ℕ) → Decides (is_in c xs) (Contains xs c)
in-decides c [] = (λ e. absurd (true≢false (sym e)), λ h. absurd (in-none c h))
in-decides c (x ∷ xs) =
    let d = Decides-or (x == c) (is_in c xs) (Decides-eqb x c) (in-decides c xs) in
    (λ e. in-more c x xs (d.0 e), λ h. d.1 (in-less c x xs h))

in-or-not : (c : ℕ) (xs : List ℕ) → Contains xs c ⊎ ¬ Contains xs c
in-or-not c xs = go (is_in c xs) refl
  where
    go : (b : Bool) → is_in c xs ≡ b → Contains xs c ⊎ ¬ Contains xs c
    go true e = inl ((in-decides c xs).0 e)
    go false e = inr (λ h. true≢false (sym ((in-decides c xs).1 h) ∙ e))

-- how many numbers below k aren't in the line
abbrev lacking : ℕ → List ℕ → ℕ
lacking zero line = 0
lacking (suc k) line = (if is_in k line then 0 else 1) + lacking k line

in-push : (c b : ℕ) (xs : List ℕ) → is_in c xs ≡ true → is_in c (xs ++ b ∷ []) ≡ true
in-push c b [] e = absurd (true≢false (sym e))
in-push c b (x ∷ xs) e = go (x == c) e (in-push c b xs)
  where
    go : (v : Bool) → (v || is_in c xs) ≡ true → (is_in c xs ≡ true → is_in c (xs ++ b ∷ []) ≡ true) → (v || is_in c (xs ++ b ∷ [])) ≡ true
    go true f ih = refl
    go false f ih = ih f

in-last : (b : ℕ) (xs : List ℕ) → is_in b (xs ++ b ∷ []) ≡ true
in-last b [] = (Decides-or (b == b) false (Decides-eqb b b) none-decides).1 (inl refl)
in-last b (x ∷ xs) = go (x == b) (in-last b xs)
  where
    go : (v : Bool) → is_in b (xs ++ b ∷ []) ≡ true → (v || is_in b (xs ++ b ∷ [])) ≡ true
    go true ih = refl
    go false ih = ih

no-more-lack : (k b : ℕ) (line : List ℕ) → lacking k (line ++ b ∷ []) ≤ lacking k line
no-more-lack zero b line = omega arith
no-more-lack (suc k) b line = go (is_in k line) (is_in k (line ++ b ∷ [])) refl (in-push k b line) (no-more-lack k b line)
  where
    go : (v w : Bool) → is_in k line ≡ v → (is_in k line ≡ true → w ≡ true) → lacking k (line ++ b ∷ []) ≤ lacking k line
        → (if w then 0 else 1) + lacking k (line ++ b ∷ []) ≤ (if v then 0 else 1) + lacking k line
    go true true e f h = omega arith
    go true false e f h = absurd (true≢false (sym (f e)))
    go false true e f h = omega arith
    go false false e f h = omega arith

less-lack : (k b : ℕ) (line : List ℕ) → b < k → is_in b line ≡ false → lacking k (line ++ b ∷ []) < lacking k line
less-lack zero b line h e = absurd (omega arith)
less-lack (suc k) b line h e = ⊎_elim (λ (less : b < k). lower (less-lack k b line less e)) (λ (most : k ≤ b). last (let s : b ≡ k = omega arith in s)) (cases_lt b k)
  where
    step : (v w : Bool) → is_in k line ≡ v → (is_in k line ≡ true → w ≡ true) → lacking k (line ++ b ∷ []) < lacking k line
        → (if w then 0 else 1) + lacking k (line ++ b ∷ []) < (if v then 0 else 1) + lacking k line
    step true true f g i = omega arith
    step true false f g i = absurd (true≢false (sym (g f)))
    step false true f g i = omega arith
    step false false f g i = omega arith

    lower : lacking k (line ++ b ∷ []) < lacking k line → lacking (suc k) (line ++ b ∷ []) < lacking (suc k) line
    lower i = step (is_in k line) (is_in k (line ++ b ∷ [])) refl (in-push k b line) i

    here : (v w : Bool) → v ≡ false → w ≡ true → lacking k (line ++ b ∷ []) ≤ lacking k line
        → (if w then 0 else 1) + lacking k (line ++ b ∷ []) < (if v then 0 else 1) + lacking k line
    here false true f g i = omega arith
    here true w f g i = absurd (true≢false f)
    here false false f g i = absurd (true≢false (sym g))

    last : b ≡ k → lacking (suc k) (line ++ b ∷ []) < lacking (suc k) line
    last same =
        let out : is_in k line ≡ false = subst (λ c. is_in c line ≡ false) same e in
        let there : is_in k (line ++ b ∷ []) ≡ true = subst (λ c. is_in c (line ++ b ∷ []) ≡ true) same (in-last b line) in
        here (is_in k line) (is_in k (line ++ b ∷ [])) out there (no-more-lack k b line)

none-lacks : (k c : ℕ) (line : List ℕ) → lacking k line ≤ 0 → c < k → Contains line c
none-lacks zero c line h i = absurd (omega arith)
none-lacks (suc k) c line h i = go (is_in k line) refl h (none-lacks k c line)
  where
    go : (v : Bool) → is_in k line ≡ v → (if v then 0 else 1) + lacking k line ≤ 0 → (lacking k line ≤ 0 → c < k → Contains line c) → Contains line c
    go false e f ih = absurd (omega arith)
    go true e f ih =
        ⊎_elim (λ (less : c < k). ih (omega arith) less)
        (λ (most : k ≤ c). let same : k ≡ c = omega arith in subst (λ x. Contains line x) same ((in-decides k line).0 e)) (cases_lt c k)

-- ---- the line

abbrev EachNext : ℕ → (ℕ → ℕ → Type 0) → List ℕ → Type 0
EachNext n A line = (k : ℕ) → k < length line → IsNext n A (Contains (take k line)) (get_or line k 0)

next-more : (n : ℕ) (A : ℕ → ℕ → Type 0) (line : List ℕ) (b : ℕ) → EachNext n A line → IsNext n A (Contains line) b → EachNext n A (line ++ b ∷ [])
next-more n A line b each next k inside =
    ⊎_elim (λ (less : k < length line). rw (take-append-le k line (b ∷ []) (omega (arith, less)), get_or_append_left line (b ∷ []) 0 k less) (each k less))
    (λ (above : length line ≤ k).
    let end : length line ≡ k = omega (arith, above, inside, length_push line b) in
    rw (take_at line (b ∷ []) k end, get_or_push line b 0 k end) next) (cases_lt k (length line))

-- numbers of which some are above others, so that what is above another is above all below that, and none above itself
module _ (n : ℕ) (over : ℕ → ℕ → Bool) (alone : (a : ℕ) → over a a ≡ true → ⊥) (carries : (a b c : ℕ) → over a b ≡ true → over b c ≡ true → over a c ≡ true) where
  abbrev Over : ℕ → ℕ → Type 0
  Over a b = IsTrue (over a b)

  -- a number below k that isn't in the line, and no other below k that isn't is above it
  record IsTop (line : List ℕ) (k m : ℕ) : Type 0 where
    below : m < k
    out : ¬ Contains line m
    top : (c : ℕ) → c < k → Over c m → Contains line c

  all-or-top : (line : List ℕ) (k : ℕ) → ((c : ℕ) → c < k → Contains line c) ⊎ ((m : ℕ) × IsTop line k m)
  all-or-top line zero = inl (λ c h. absurd (omega arith))
  all-or-top line (suc k) = go (all-or-top line k) (in-or-not k line)
    where
      at-or-below : (c : ℕ) → c < suc k → (c < k) ⊎ (c ≡ k)
      at-or-below c h = ⊎_elim (λ (less : c < k). inl less) (λ (most : k ≤ c). inr (omega arith)) (cases_lt c k)

      split : {P : Type 0} → (c : ℕ) → c < suc k → (c < k → P) → (c ≡ k → P) → P
      split c h f g = ⊎_elim f g (at-or-below c h)

      go : ((c : ℕ) → c < k → Contains line c) ⊎ ((m : ℕ) × IsTop line k m) → Contains line k ⊎ ¬ Contains line k
          → ((c : ℕ) → c < suc k → Contains line c) ⊎ ((m : ℕ) × IsTop line (suc k) m)
      go (inl all) (inl here) = inl (λ c h. split c h (all c) (λ same. subst (λ x. Contains line x) (sym same) here))
      go (inl all) (inr out) = inr (
        k,
        record {
          below = omega arith;
          out = out;
          top = λ c h o. split c h (all c) (λ same. absurd (alone k (subst (λ x. over x k ≡ true) same o)));
        },
      )
      go (inr (m, t)) (inl here) = inr (
        m,
        record {
          below = let i : m < k = t.below in omega arith;
          out = t.out;
          top = λ c h o. split c h (λ less. t.top c less o) (λ same. subst (λ x. Contains line x) (sym same) here);
        },
      )
      go (inr (m, t)) (inr out) = higher (over k m) refl
        where
          higher : (v : Bool) → over k m ≡ v → ((c : ℕ) → c < suc k → Contains line c) ⊎ ((m : ℕ) × IsTop line (suc k) m)
          higher true e = inr (
            k,
            record {
              below = omega arith;
              out = out;
              top = λ c h o. split c h (λ less. t.top c less (carries c k m o e)) (λ same. absurd (alone k (subst (λ x. over x k ≡ true) same o)));
            },
          )
          higher false e = inr (
            m,
            record {
              below = let i : m < k = t.below in omega arith;
              out = t.out;
              top = λ c h o. split c h (λ less. t.top c less o) (λ same. absurd (true≢false (sym (subst (λ x. over x m ≡ true) same o) ∙ e)));
            },
          )

  -- whether all that are above b, of those below k, are in the line
  all-or-one : (line : List ℕ) (b k : ℕ) → ((a : ℕ) → a < k → Over a b → Contains line a) ⊎ ((a : ℕ) × (a < k) × Over a b × ¬ Contains line a)
  all-or-one line b zero = inl (λ a h o. absurd (omega arith))
  all-or-one line b (suc k) = go (all-or-one line b k) (over k b) refl (in-or-not k line)
    where
      go : ((a : ℕ) → a < k → Over a b → Contains line a) ⊎ ((a : ℕ) × (a < k) × Over a b × ¬ Contains line a) → (v : Bool) → over k b ≡ v → Contains line k ⊎ ¬ Contains line k
          → ((a : ℕ) → a < suc k → Over a b → Contains line a) ⊎ ((a : ℕ) × (a < suc k) × Over a b × ¬ Contains line a)
      go (inr (a, h, o, out)) v e d = inr (a, omega arith, o, out)
      go (inl all) true e (inr out) = inr (k, omega arith, e, out)
      go (inl all) true e (inl here) = inl (λ a h o. ⊎_elim (λ (less : a < k). all a less o) (λ (most : k ≤ a). let same : k ≡ a = omega arith in subst (λ x. Contains line x) same here) (cases_lt a k))
      go (inl all) false e d = inl (λ a h o. ⊎_elim (λ (less : a < k). all a less o)
          (λ (most : k ≤ a). let same : a ≡ k = omega arith in absurd (true≢false (sym (subst (λ x. over x b ≡ true) same o) ∙ e))) (cases_lt a k))

  may-or-not : (line : List ℕ) (b : ℕ) → b < n → MayStand n Over (Contains line) b ⊎ ¬ MayStand n Over (Contains line) b
  may-or-not line b h = go (in-or-not b line) (all-or-one line b n)
    where
      go : Contains line b ⊎ ¬ Contains line b → ((a : ℕ) → a < n → Over a b → Contains line a) ⊎ ((a : ℕ) × (a < n) × Over a b × ¬ Contains line a)
          → MayStand n Over (Contains line) b ⊎ ¬ MayStand n Over (Contains line) b
      go (inl here) d = inr (λ may. may.new here)
      go (inr new) (inl all) = inl (record { in_range = h; new = new; after = all })
      go (inr new) (inr (a, i, o, out)) = inr (λ may. out (may.after a i o))

  -- none below k may stand next, or one does
  none-or-next : (line : List ℕ) (k : ℕ) → k ≤ n → ((c : ℕ) → c < k → ¬ MayStand n Over (Contains line) c) ⊎ ((b : ℕ) × IsNext n Over (Contains line) b)
  none-or-next line zero h = inl (λ c i. absurd (omega arith))
  none-or-next line (suc k) h = go (none-or-next line k (omega arith)) (may-or-not line k (omega arith))
    where
      go : ((c : ℕ) → c < k → ¬ MayStand n Over (Contains line) c) ⊎ ((b : ℕ) × IsNext n Over (Contains line) b) → MayStand n Over (Contains line) k ⊎ ¬ MayStand n Over (Contains line) k
          → ((c : ℕ) → c < suc k → ¬ MayStand n Over (Contains line) c) ⊎ ((b : ℕ) × IsNext n Over (Contains line) b)
      go (inr next) d = inr next
      go (inl none) (inl may) = inr (k, record { may = may; least = λ c other. ⊎_elim (λ (less : c < k). absurd (none c less other)) (λ (most : k ≤ c). most) (cases_lt c k) })
      go (inl none) (inr not) = inl (λ c i may. ⊎_elim (λ (less : c < k). none c less may) (λ (most : k ≤ c). let same : c ≡ k = omega arith in not (subst (λ x. MayStand n Over (Contains line) x) same may)) (cases_lt c k))

  top-may : (line : List ℕ) (m : ℕ) → IsTop line n m → MayStand n Over (Contains line) m
  top-may line m t = record { in_range = t.below; new = t.out; after = t.top }

  lined-up : (fuel : ℕ) (line : List ℕ) → EachNext n Over line → lacking n line ≤ fuel → (whole : List ℕ) × IsLine n Over whole
  lined-up zero line each h = (line, record { each = λ a i. none-lacks n a line h i; next = each })
  lined-up (suc fuel) line each h = go (all-or-top line n) (none-or-next line n (let i : n ≤ n = omega arith in i)) (λ b. lined-up fuel (line ++ b ∷ []))
    where
      go : ((c : ℕ) → c < n → Contains line c) ⊎ ((m : ℕ) × IsTop line n m) → ((c : ℕ) → c < n → ¬ MayStand n Over (Contains line) c) ⊎ ((b : ℕ) × IsNext n Over (Contains line) b)
          → ((b : ℕ) → EachNext n Over (line ++ b ∷ []) → lacking n (line ++ b ∷ []) ≤ fuel → (whole : List ℕ) × IsLine n Over whole)
          → (whole : List ℕ) × IsLine n Over whole
      go (inl all) d more = (line, record { each = all; next = each })
      go (inr (m, t)) (inl none) more = absurd (none m t.below (top-may line m t))
      go (inr (m, t)) (inr (b, next)) more =
          more b (next-more n Over line b each next)
          (let out : is_in b line ≡ false = ⊎_elim (λ (e : is_in b line ≡ true). absurd (next.may.new ((in-decides b line).0 e))) (λ (e : is_in b line ≡ false). e) (cases_Bool (is_in b line)) in
          let less : lacking n (line ++ b ∷ []) < lacking n line = less-lack n b line next.may.in_range out in
          omega arith)

  none-each : EachNext n Over []
  none-each k h = absurd (omega arith)

  pub whole-line : (whole : List ℕ) × IsLine n Over whole
  whole-line = lined-up (lacking n []) [] none-each (let i : lacking n [] ≤ lacking n [] = omega arith in i)

-- ---- two words for what is above

may-by : (n : ℕ) (A B : ℕ → ℕ → Type 0) (S : ℕ → Type 0) → ((a b : ℕ) → B a b → A a b) → (b : ℕ) → MayStand n A S b → MayStand n B S b
may-by n A B S other b may = record { in_range = may.in_range; new = may.new; after = λ a h o. may.after a h (other a b o) }

line-by : (n : ℕ) (A B : ℕ → ℕ → Type 0) (line : List ℕ) → ((a b : ℕ) → A a b ↔ B a b) → IsLine n A line → IsLine n B line
line-by n A B line same h = record {
  each = h.each;
  next = λ k i.
      let next = h.next k i in record {
        may = may-by n A B (Contains (take k line)) (λ a b. (same a b).1) (get_or line k 0) next.may;
        least = λ c may. next.least c (may-by n B A (Contains (take k line)) (λ a b. (same a b).0) c may);
      };
}

-- ---- priorities

pub priorities-of : (actor : Actor) → IsSound actor → Priorities actor
priorities-of actor sound = record {
  above = leads actor.pairs;
  line = line.0;
  is_above = λ a b i j. above-decides actor.pairs a b;
  is_line = line-by (length actor.actions) (λ a b. IsTrue (leads actor.pairs a b)) (Above actor) line.0 (above-decides actor.pairs) line.1;
}
  where
    joins : (a b c : ℕ) → leads actor.pairs a b ≡ true → leads actor.pairs b c ≡ true → leads actor.pairs a c ≡ true
    joins a b c h i = (leads-decides actor.pairs a c).1 (leads-joins actor.pairs a b c ((leads-decides actor.pairs a b).0 h) ((leads-decides actor.pairs b c).0 i))

    line : (whole : List ℕ) × IsLine (length actor.actions) (λ a b. IsTrue (leads actor.pairs a b)) whole
    line = whole-line (length actor.actions) (leads actor.pairs) (λ a h. sound.no_cycle a ((above-decides actor.pairs a a).0 h)) joins
