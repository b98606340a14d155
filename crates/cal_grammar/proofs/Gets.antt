-- What a program does, computed backwards: a fact on its outcome follows from facts on its steps.
use Rattle.std.proofs.Common.{◌≡◌, ℕ, ◌-◌, ◌<◌, ◌≤◌, Bool, true, false, List, [], ◌∷◌, nat_le, refl, arith}
use Rattle.std.proofs.lemmas.Bool.{leb-true}
use Rattle.std.proofs.lemmas.Bool.Decides.{leb_tells}
use Rattle.cal_grammar.specs.Program.{Program, Outcome, give, fail, ask, take, check, jump, invoke, enter, Gave, Refused, TooHigh, Spent, ahead, after, exec}

-- Where each rule r that is called at ts may be called there (D), and does what P says, the program's outcome is in Q.
abbrev pub Gets : {Token Tree Rule : Type 0} → (ℕ → Rule → List Token → Outcome Token Tree → Type 0) → (Rule → List Token → Type 0) → ℕ → Program Token Tree Rule → List Token → (Outcome Token Tree → Type 0) → Type 0
Gets P D m (give x) ts Q = Q (Gave x ts)
Gets P D m fail ts Q = Q (Refused ts)
Gets P D m (ask q p other) ts Q = (q (ahead ts) ≡ true → Gets P D m p ts Q) × (q (ahead ts) ≡ false → Gets P D m other ts Q)
Gets P D m (take next) [] Q = Q (Refused [])
Gets P D m (take next) (t ∷ ts) Q = Gets P D m (next t) ts Q
Gets P D m (check h p) ts Q = (h ≤ m → Gets P D m p ts Q) × (m < h → Q (TooHigh ts))
Gets {Token} {Tree} P D m (jump r) ts Q = D r ts × ((o : Outcome Token Tree) → P m r ts o → Q o)
Gets {Token} {Tree} P D m (invoke r next) ts Q = D r ts × ((x : Tree) (left : List Token) → P m r ts (Gave x left) → Gets P D m (next x) left Q) × ((left : List Token) → P m r ts (Refused left) → Q (Refused left)) × ((left : List Token) → P m r ts (TooHigh left) → Q (TooHigh left))
Gets {Token} {Tree} P D m (enter r next) ts Q = D r ts × ((x : Tree) (left : List Token) → P (m - 1) r ts (Gave x left) → Gets P D m (next x) left Q) × ((left : List Token) → P (m - 1) r ts (Refused left) → Q (Refused left)) × ((left : List Token) → P (m - 1) r ts (TooHigh left) → Q (TooHigh left))

module _ {Token Tree Rule : Type 0} (P : ℕ → Rule → List Token → Outcome Token Tree → Type 0) (D : Rule → List Token → Type 0) where
  after_gets : (o : Outcome Token Tree) (next : Tree → List Token → Outcome Token Tree) (R Q : Outcome Token Tree → Type 0) → R o → Q Spent → ((x : Tree) (left : List Token) → R (Gave x left) → Q (next x left)) → ((left : List Token) → R (Refused left) → Q (Refused left)) → ((left : List Token) → R (TooHigh left) → Q (TooHigh left)) → Q (after o next)
  after_gets (Gave x left) next R Q here spent gave refused high = gave x left here
  after_gets (Refused left) next R Q here spent gave refused high = refused left here
  after_gets (TooHigh left) next R Q here spent gave refused high = high left here
  after_gets Spent next R Q here spent gave refused high = spent

  -- the outcome is in Q, whatever the rules do within P
  pub gets_outcome : (f : ℕ → Rule → List Token → Outcome Token Tree) → ((m : ℕ) (r : Rule) (ts : List Token) → P m r ts (f m r ts)) → (m : ℕ) (p : Program Token Tree Rule) (ts : List Token) (Q : Outcome Token Tree → Type 0) → Q Spent → Gets P D m p ts Q → Q (exec f m p ts)
  gets_outcome f here m (give x) ts Q spent g = g
  gets_outcome f here m fail ts Q spent g = g
  gets_outcome f here m (ask q p other) ts Q spent g =
      let yes_case : q (ahead ts) ≡ true → Q (exec f m p ts) = λ e. gets_outcome f here m p ts Q spent (g.0 e) in
      let no_case : q (ahead ts) ≡ false → Q (exec f m other ts) = λ e. gets_outcome f here m other ts Q spent (g.1 e) in
      branch (q (ahead ts)) refl yes_case no_case
    where
      branch : (b : Bool) → q (ahead ts) ≡ b → (q (ahead ts) ≡ true → Q (exec f m p ts)) → (q (ahead ts) ≡ false → Q (exec f m other ts)) → Q (elim b [ true ↦ exec f m p ts | false ↦ exec f m other ts ])
      branch true e a b = a e
      branch false e a b = b e
  gets_outcome f here m (take next) [] Q spent g = g
  gets_outcome f here m (take next) (t ∷ ts) Q spent g = gets_outcome f here m (next t) ts Q spent g
  gets_outcome f here m (check h p) ts Q spent g =
      let fits : h ≤ m → Q (exec f m p ts) = λ e. gets_outcome f here m p ts Q spent (g.0 e) in
      branch (nat_le h m) refl fits g.1
    where
      branch : (b : Bool) → nat_le h m ≡ b → (h ≤ m → Q (exec f m p ts)) → (m < h → Q (TooHigh ts)) → Q (elim b [ true ↦ exec f m p ts | false ↦ TooHigh ts ])
      branch true e a b = a (omega (arith, leb-true h m e))
      branch false e a b = b (grind (arith, leb_tells h m, e))
  gets_outcome f here m (jump r) ts Q spent g = g.1 (f m r ts) (here m r ts)
  gets_outcome f here m (invoke r next) ts Q spent g = after_gets (f m r ts) (λ x left. exec f m (next x) left) (P m r ts) Q (here m r ts) spent (λ x left h. gets_outcome f here m (next x) left Q spent (g.1 x left h)) g.2 g.3
  gets_outcome f here m (enter r next) ts Q spent g = after_gets (f (m - 1) r ts) (λ x left. exec f m (next x) left) (P (m - 1) r ts) Q (here (m - 1) r ts) spent (λ x left h. gets_outcome f here m (next x) left Q spent (g.1 x left h)) g.2 g.3
