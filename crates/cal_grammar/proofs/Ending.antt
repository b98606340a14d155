-- Reading a rule is running its program, if each call needs less than the rule that makes it.
use Rattle.std.proofs.Common.{◌≡◌, ℕ, zero, suc, ◌-◌, ◌<◌, ◌≤◌, Bool, true, false, List, [], ◌∷◌, nat_le, refl, ap, arith}
use Rattle.std.proofs.lemmas.Bool.{leb-true}
use Rattle.cal_grammar.specs.Program.{Program, Outcome, give, fail, ask, take, check, jump, invoke, enter, Gave, Refused, TooHigh, Spent, ahead, after, exec, go, read}
use Rattle.cal_grammar.proofs.Gets.{Gets, gets_outcome}

module _ {Token Tree Rule : Type 0} (P : ℕ → Rule → List Token → Outcome Token Tree → Type 0) (D : Rule → List Token → Type 0) (f g : ℕ → Rule → List Token → Outcome Token Tree) (here : (m : ℕ) (r : Rule) (ts : List Token) → P m r ts (f m r ts)) (same : (m : ℕ) (r : Rule) (ts : List Token) → D r ts → f m r ts ≡ g m r ts) where
  after_same : (o o' : Outcome Token Tree) (next next' : Tree → List Token → Outcome Token Tree) (R : Outcome Token Tree → Type 0) → R o → o ≡ o' → ((x : Tree) (left : List Token) → R (Gave x left) → next x left ≡ next' x left) → after o next ≡ after o' next'
  after_same (Gave x left) o' next next' R holds e each = rw (← e) (each x left holds)
  after_same (Refused left) o' next next' R holds e each = ap (λ v. after v next') e
  after_same (TooHigh left) o' next next' R holds e each = ap (λ v. after v next') e
  after_same Spent o' next next' R holds e each = ap (λ v. after v next') e

  -- a program does the same under two readings that agree on the calls it may make
  pub exec_same : (m : ℕ) (p : Program Token Tree Rule) (ts : List Token) (Q : Outcome Token Tree → Type 0) → Gets P D m p ts Q → exec f m p ts ≡ exec g m p ts
  exec_same m (give x) ts Q h = refl
  exec_same m fail ts Q h = refl
  exec_same m (ask q p other) ts Q h =
      branch (q (ahead ts)) refl (λ e. exec_same m p ts Q (h.0 e)) (λ e. exec_same m other ts Q (h.1 e))
    where
      branch : (b : Bool) → q (ahead ts) ≡ b → (q (ahead ts) ≡ true → exec f m p ts ≡ exec g m p ts) → (q (ahead ts) ≡ false → exec f m other ts ≡ exec g m other ts) → ◌≡◌ {A = Outcome Token Tree} (elim b [ true ↦ exec f m p ts | false ↦ exec f m other ts ]) (elim b [ true ↦ exec g m p ts | false ↦ exec g m other ts ])
      branch true e a b = a e
      branch false e a b = b e
  exec_same m (take next) [] Q h = refl
  exec_same m (take next) (t ∷ ts) Q h = exec_same m (next t) ts Q h
  exec_same m (check k p) ts Q h = branch (nat_le k m) refl (λ e. exec_same m p ts Q (h.0 e))
    where
      branch : (b : Bool) → nat_le k m ≡ b → (k ≤ m → exec f m p ts ≡ exec g m p ts) → ◌≡◌ {A = Outcome Token Tree} (elim b [ true ↦ exec f m p ts | false ↦ TooHigh ts ]) (elim b [ true ↦ exec g m p ts | false ↦ TooHigh ts ])
      branch true e a = a (leb-true k m e)
      branch false e a = refl
  exec_same m (jump r) ts Q h = same m r ts h.0
  exec_same m (invoke r next) ts Q h = after_same (f m r ts) (g m r ts) (λ x left. exec f m (next x) left) (λ x left. exec g m (next x) left) (P m r ts) (here m r ts) (same m r ts h.0) (λ x left holds. exec_same m (next x) left Q (h.1 x left holds))
  exec_same m (enter r next) ts Q h = after_same (f (m - 1) r ts) (g (m - 1) r ts) (λ x left. exec f m (next x) left) (λ x left. exec g m (next x) left) (P (m - 1) r ts) (here (m - 1) r ts) (same (m - 1) r ts h.0) (λ x left holds. exec_same m (next x) left Q (h.1 x left holds))

module _ {Token Tree Rule : Type 0} (body : Rule → Program Token Tree Rule) (size : Rule → List Token → ℕ) (P : ℕ → Rule → List Token → Outcome Token Tree → Type 0) (spent : (m : ℕ) (r : Rule) (ts : List Token) → P m r ts Spent) (gets : (m : ℕ) (r : Rule) (ts : List Token) → Gets P (λ r' ts'. size r' ts' < size r ts) m (body r) ts (P m r ts)) where
  go_holds : (n m : ℕ) (r : Rule) (ts : List Token) → P m r ts (go body n m r ts)
  go_holds zero m r ts = spent m r ts
  go_holds (suc n) m r ts = gets_outcome P (λ r' ts'. size r' ts' < size r ts) (go body n) (λ m' r' ts'. go_holds n m' r' ts') m (body r) ts (P m r ts) (spent m r ts) (gets m r ts)

  -- what is read is within P
  pub read_holds : (m : ℕ) (r : Rule) (ts : List Token) → P m r ts (read body size m r ts)
  unfolding read
  read_holds m r ts = go_holds (suc (size r ts)) m r ts

  go_same : (n n' m : ℕ) (r : Rule) (ts : List Token) → size r ts < n → size r ts < n' → go body n m r ts ≡ go body n' m r ts
  go_same zero n' m r ts a b = absurd (omega arith)
  go_same (suc n) zero m r ts a b = absurd (omega arith)
  go_same (suc n) (suc n') m r ts a b =
      exec_same P (λ r' ts'. size r' ts' < size r ts) (go body n) (go body n') (go_holds n) (λ m' r' ts' less. go_same n n' m' r' ts' (omega arith) (omega arith)) m (body r) ts (P m r ts) (gets m r ts)

  -- reading a rule is running its program
  pub read_is : (m : ℕ) (r : Rule) (ts : List Token) → read body size m r ts ≡ exec (read body size) m (body r) ts
  unfolding read
  read_is m r ts =
      exec_same P (λ r' ts'. size r' ts' < size r ts) (go body (size r ts)) (λ m' r' ts'. go body (suc (size r' ts')) m' r' ts') (go_holds (size r ts)) (λ m' r' ts' less. go_same (size r ts) (suc (size r' ts')) m' r' ts' less (omega arith)) m (body r) ts (P m r ts) (gets m r ts)
