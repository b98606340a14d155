-- More room changes no outcome but those that were too high.
use Rattle.std.proofs.Common.{◌≡◌, ℕ, zero, suc, ◌-◌, ◌≤◌, Bool, true, false, List, [], ◌∷◌, nat_le, refl, ap, arith}
use Rattle.std.proofs.lemmas.Bool.{leb-true, le-leb}
use Rattle.cal_grammar.specs.Program.{Program, Outcome, give, fail, ask, take, check, jump, invoke, enter, Gave, Refused, TooHigh, Spent, ahead, after, exec, go, read}

-- the second outcome is the first, unless that was too high
abbrev pub IsKept : {Token Tree : Type 0} → Outcome Token Tree → Outcome Token Tree → Type 0
IsKept (Gave x left) o = o ≡ Gave x left
IsKept (Refused left) o = o ≡ Refused left
IsKept (TooHigh left) o = Unit {0}
IsKept Spent o = o ≡ Spent

module _ {Token Tree Rule : Type 0} (f : ℕ → Rule → List Token → Outcome Token Tree) (looser : (m more : ℕ) (r : Rule) (ts : List Token) → m ≤ more → IsKept (f m r ts) (f more r ts)) where
  kept_self : (o : Outcome Token Tree) → IsKept o o
  kept_self (Gave x left) = refl
  kept_self (Refused left) = refl
  kept_self (TooHigh left) = tt
  kept_self Spent = refl

  after_kept : (o o' : Outcome Token Tree) (next next' : Tree → List Token → Outcome Token Tree) → IsKept o o' → ((x : Tree) (left : List Token) → IsKept (next x left) (next' x left)) → IsKept (after o next) (after o' next')
  after_kept (Gave x left) o' next next' e each = let P : Outcome Token Tree → Type 0 = λ v. IsKept (next x left) (after v next') in rw e (each x left)
  after_kept (Refused left) o' next next' e each = ap (λ v. after v next') e
  after_kept (TooHigh left) o' next next' e each = tt
  after_kept Spent o' next next' e each = ap (λ v. after v next') e

  pub exec_kept : (p : Program Token Tree Rule) (m more : ℕ) (ts : List Token) → m ≤ more → IsKept (exec f m p ts) (exec f more p ts)
  exec_kept (give x) m more ts less = refl
  exec_kept fail m more ts less = refl
  exec_kept (ask q p other) m more ts less =
      branch (q (ahead ts)) (exec_kept p m more ts less) (exec_kept other m more ts less)
    where
      branch : (b : Bool) → IsKept (exec f m p ts) (exec f more p ts) → IsKept (exec f m other ts) (exec f more other ts) → IsKept (elim b [ true ↦ exec f m p ts | false ↦ exec f m other ts ]) (elim b [ true ↦ exec f more p ts | false ↦ exec f more other ts ])
      branch true a b = a
      branch false a b = b
  exec_kept (take next) m more [] less = refl
  exec_kept (take next) m more (t ∷ ts) less = exec_kept (next t) m more ts less
  exec_kept (check h p) m more ts less = branch (nat_le h m) refl (exec_kept p m more ts less)
    where
      branch : (b : Bool) → nat_le h m ≡ b → IsKept (exec f m p ts) (exec f more p ts) → IsKept (elim b [ true ↦ exec f m p ts | false ↦ TooHigh ts ]) (elim (nat_le h more) [ true ↦ exec f more p ts | false ↦ TooHigh ts ])
      branch true e a =
          let fits : h ≤ m = leb-true h m e in
          let also : nat_le h more ≡ true = le-leb h more (omega arith) in
          rw also a
      branch false e a = tt
  exec_kept (jump r) m more ts less = looser m more r ts less
  exec_kept (invoke r next) m more ts less = after_kept (f m r ts) (f more r ts) (λ x left. exec f m (next x) left) (λ x left. exec f more (next x) left) (looser m more r ts less) (λ x left. exec_kept (next x) m more left less)
  exec_kept (enter r next) m more ts less = after_kept (f (m - 1) r ts) (f (more - 1) r ts) (λ x left. exec f m (next x) left) (λ x left. exec f more (next x) left) (looser (m - 1) (more - 1) r ts (omega arith)) (λ x left. exec_kept (next x) m more left less)

module _ {Token Tree Rule : Type 0} (body : Rule → Program Token Tree Rule) where
  go_kept : (n m more : ℕ) (r : Rule) (ts : List Token) → m ≤ more → IsKept (go body n m r ts) (go body n more r ts)
  go_kept zero m more r ts less = refl
  go_kept (suc n) m more r ts less = exec_kept (go body n) (λ m' more' r' ts' less'. go_kept n m' more' r' ts' less') (body r) m more ts less

  pub read_kept : (size : Rule → List Token → ℕ) (m more : ℕ) (r : Rule) (ts : List Token) → m ≤ more → IsKept (read body size m r ts) (read body size more r ts)
  unfolding read
  read_kept size m more r ts less = go_kept (suc (size r ts)) m more r ts less
