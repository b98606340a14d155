-- An outcome depends on the tokens that were taken, and on one token more.
use Rattle.std.proofs.Common.{◌≡◌, ℕ, zero, suc, ◌-◌, ◌<◌, ◌≤◌, Bool, true, false, List, [], ◌∷◌, ◌++◌, nat_le, append_assoc, refl, sym, ap, ◌∙◌, arith}
use Rattle.std.proofs.lemmas.Bool.{leb-true}
use Rattle.cal_grammar.specs.Program.{Program, Outcome, give, fail, ask, take, check, jump, invoke, enter, Gave, Refused, TooHigh, Spent, ahead, after, exec, read}
use Rattle.cal_grammar.proofs.Gets.{Gets}
use Rattle.cal_grammar.proofs.Ending

-- Over all lists that go on after `front` with the same token, F does the same as over ts, of which `left` is left.
pub record IsFramed {Token Tree : Type 0} (F : List Token → Outcome Token Tree) (make : List Token → Outcome Token Tree) (ts left : List Token) : Type 0 where
  pub front : List Token
  pub is_front : ts ≡ front ++ left
  pub same : (other : List Token) → ahead other ≡ ahead left → F (front ++ other) ≡ make other

abbrev pub Framed : {Token Tree : Type 0} → (List Token → Outcome Token Tree) → List Token → Outcome Token Tree → Type 0
Framed F ts (Gave x left) = IsFramed F (λ l. Gave x l) ts left
Framed F ts (Refused left) = IsFramed F (λ l. Refused l) ts left
Framed F ts (TooHigh left) = IsFramed F (λ l. TooHigh l) ts left
Framed F ts Spent = Unit {0}

-- two lists that go on alike begin alike
ahead_same : {Token : Type 0} → (front other left : List Token) → ahead other ≡ ahead left → ahead (front ++ other) ≡ ahead (front ++ left)
ahead_same [] other left e = e
ahead_same (t ∷ front) other left e = refl

module _ {Token Tree : Type 0} where
  -- nothing was taken
  pub framed_here : (F : List Token → Outcome Token Tree) (make : List Token → Outcome Token Tree) (ts : List Token) → ((other : List Token) → ahead other ≡ ahead ts → F other ≡ make other) → IsFramed F make ts ts
  framed_here F make ts same = record { front = []; is_front = refl; same = same }

  -- a token was taken
  token_framed : (F G : List Token → Outcome Token Tree) (make : List Token → Outcome Token Tree) (t : Token) (ts left : List Token) → ((other : List Token) → F (t ∷ other) ≡ G other) → IsFramed G make ts left → IsFramed F make (t ∷ ts) left
  token_framed F G make t ts left step h = record {
    front = t ∷ h.front;
    is_front = ap (λ l. t ∷ l) h.is_front;
    same = λ other e. step (h.front ++ other) ∙ h.same other e;
  }

  pub framed_take : (F G : List Token → Outcome Token Tree) (t : Token) (ts : List Token) (o : Outcome Token Tree) → ((other : List Token) → F (t ∷ other) ≡ G other) → Framed G ts o → Framed F (t ∷ ts) o
  framed_take F G t ts (Gave x left) step h = token_framed F G (λ l. Gave x l) t ts left step h
  framed_take F G t ts (Refused left) step h = token_framed F G (λ l. Refused l) t ts left step h
  framed_take F G t ts (TooHigh left) step h = token_framed F G (λ l. TooHigh l) t ts left step h
  framed_take F G t ts Spent step h = tt

  -- if the same was done on every list that begins alike
  replace_framed : (F G : List Token → Outcome Token Tree) (make : List Token → Outcome Token Tree) (ts left : List Token) → ((other : List Token) → ahead other ≡ ahead ts → F other ≡ G other) → IsFramed G make ts left → IsFramed F make ts left
  replace_framed F G make ts left alike h = record {
    front = h.front;
    is_front = h.is_front;
    same = λ other e. alike (h.front ++ other) (ahead_same h.front other left e ∙ ap ahead (sym h.is_front)) ∙ h.same other e;
  }

  pub framed_replace : (F G : List Token → Outcome Token Tree) (ts : List Token) (o : Outcome Token Tree) → ((other : List Token) → ahead other ≡ ahead ts → F other ≡ G other) → Framed G ts o → Framed F ts o
  framed_replace F G ts (Gave x left) alike h = replace_framed F G (λ l. Gave x l) ts left alike h
  framed_replace F G ts (Refused left) alike h = replace_framed F G (λ l. Refused l) ts left alike h
  framed_replace F G ts (TooHigh left) alike h = replace_framed F G (λ l. TooHigh l) ts left alike h
  framed_replace F G ts Spent alike h = tt

  -- a part was read, and then the rest
  both_framed : (F : List Token → Outcome Token Tree) (next : Tree → List Token → Outcome Token Tree) (make : List Token → Outcome Token Tree) (x : Tree) (ts middle left : List Token) → IsFramed F (λ l. Gave x l) ts middle → IsFramed (next x) make middle left → IsFramed (λ l. after (F l) next) make ts left
  both_framed F next make x ts middle left a b = record {
    front = a.front ++ b.front;
    is_front = a.is_front ∙ ap (λ l. a.front ++ l) b.is_front ∙ sym (append_assoc a.front b.front left);
    same = λ other e.
        let first : F (a.front ++ (b.front ++ other)) ≡ Gave x (b.front ++ other) = a.same (b.front ++ other) (ahead_same b.front other left e ∙ ap ahead (sym b.is_front)) in
        rw (append_assoc a.front b.front other, first) (b.same other e);
  }

  framed_both : (F : List Token → Outcome Token Tree) (next : Tree → List Token → Outcome Token Tree) (x : Tree) (ts middle : List Token) (o : Outcome Token Tree) → IsFramed F (λ l. Gave x l) ts middle → Framed (next x) middle o → Framed (λ l. after (F l) next) ts o
  framed_both F next x ts middle (Gave y left) a b = both_framed F next (λ l. Gave y l) x ts middle left a b
  framed_both F next x ts middle (Refused left) a b = both_framed F next (λ l. Refused l) x ts middle left a b
  framed_both F next x ts middle (TooHigh left) a b = both_framed F next (λ l. TooHigh l) x ts middle left a b
  framed_both F next x ts middle Spent a b = tt

  -- a part was read, or not
  pub framed_after : (F : List Token → Outcome Token Tree) (next : Tree → List Token → Outcome Token Tree) (R : Outcome Token Tree → Type 0) (ts : List Token) (o : Outcome Token Tree) → R o → Framed F ts o → ((x : Tree) (left : List Token) → R (Gave x left) → Framed (next x) left (next x left)) → Framed (λ l. after (F l) next) ts (after o next)
  framed_after F next R ts (Gave x left) holds h each = framed_both F next x ts left (next x left) h (each x left holds)
  framed_after F next R ts (Refused left) holds h each = record { front = h.front; is_front = h.is_front; same = λ other e. ap (λ v. after v next) (h.same other e) }
  framed_after F next R ts (TooHigh left) holds h each = record { front = h.front; is_front = h.is_front; same = λ other e. ap (λ v. after v next) (h.same other e) }
  framed_after F next R ts Spent holds h each = tt

module _ {Token Tree Rule : Type 0} (P : ℕ → Rule → List Token → Outcome Token Tree → Type 0) (D : Rule → List Token → Type 0) (f : ℕ → Rule → List Token → Outcome Token Tree) (here : (m : ℕ) (r : Rule) (ts : List Token) → P m r ts (f m r ts)) (framed : (m : ℕ) (r : Rule) (ts : List Token) → D r ts → Framed (f m r) ts (f m r ts)) where
  none_ahead : (other : List Token) → ahead other ≡ ahead {Token = Token} [] → other ≡ []
  none_ahead [] e = refl
  none_ahead (t ∷ ts) e = cc

  pub exec_framed : (m : ℕ) (p : Program Token Tree Rule) (ts : List Token) (Q : Outcome Token Tree → Type 0) → Gets P D m p ts Q → Framed (exec f m p) ts (exec f m p ts)
  exec_framed m (give x) ts Q h = framed_here (exec f m (give x)) (λ l. Gave x l) ts (λ other e. refl)
  exec_framed m fail ts Q h = framed_here (exec f m fail) (λ l. Refused l) ts (λ other e. refl)
  exec_framed m (ask q p other) ts Q h = branch (q (ahead ts)) refl (λ e. exec_framed m p ts Q (h.0 e)) (λ e. exec_framed m other ts Q (h.1 e))
    where
      branch : (b : Bool) → q (ahead ts) ≡ b → (q (ahead ts) ≡ true → Framed (exec f m p) ts (exec f m p ts)) → (q (ahead ts) ≡ false → Framed (exec f m other) ts (exec f m other ts)) → Framed (exec f m (ask q p other)) ts (elim b [ true ↦ exec f m p ts | false ↦ exec f m other ts ])
      branch true e a b = framed_replace (exec f m (ask q p other)) (exec f m p) ts (exec f m p ts) (λ l same. let yes_here : q (ahead l) ≡ true = ap q same ∙ e in rw (yes_here, exec) refl) (a e)
      branch false e a b = framed_replace (exec f m (ask q p other)) (exec f m other) ts (exec f m other ts) (λ l same. let no_here : q (ahead l) ≡ false = ap q same ∙ e in rw (no_here, exec) refl) (b e)
  exec_framed m (take next) [] Q h = framed_here (exec f m (take next)) (λ l. Refused l) [] (λ other e. let none : other ≡ [] = none_ahead other e in rw none refl)
  exec_framed m (take next) (t ∷ ts) Q h = framed_take (exec f m (take next)) (exec f m (next t)) t ts (exec f m (next t) ts) (λ other. refl) (exec_framed m (next t) ts Q h)
  exec_framed m (check k p) ts Q h = branch (nat_le k m) refl (λ e. exec_framed m p ts Q (h.0 e))
    where
      branch : (b : Bool) → nat_le k m ≡ b → (k ≤ m → Framed (exec f m p) ts (exec f m p ts)) → Framed (exec f m (check k p)) ts (elim b [ true ↦ exec f m p ts | false ↦ TooHigh ts ])
      branch true e a = framed_replace (exec f m (check k p)) (exec f m p) ts (exec f m p ts) (λ l same. rw (e, exec) refl) (a (leb-true k m e))
      branch false e a = framed_here (exec f m (check k p)) (λ l. TooHigh l) ts (λ other same. rw (e, exec) refl)
  exec_framed m (jump r) ts Q h = framed m r ts h.0
  exec_framed m (invoke r next) ts Q h = framed_after (f m r) (λ x left. exec f m (next x) left) (P m r ts) ts (f m r ts) (here m r ts) (framed m r ts h.0) (λ x left holds. exec_framed m (next x) left Q (h.1 x left holds))
  exec_framed m (enter r next) ts Q h = framed_after (f (m - 1) r) (λ x left. exec f m (next x) left) (P (m - 1) r ts) ts (f (m - 1) r ts) (here (m - 1) r ts) (framed (m - 1) r ts h.0) (λ x left holds. exec_framed m (next x) left Q (h.1 x left holds))

module _ {Token Tree Rule : Type 0} (body : Rule → Program Token Tree Rule) (size : Rule → List Token → ℕ) (P : ℕ → Rule → List Token → Outcome Token Tree → Type 0) (spent : (m : ℕ) (r : Rule) (ts : List Token) → P m r ts Spent) (gets : (m : ℕ) (r : Rule) (ts : List Token) → Gets P (λ r' ts'. size r' ts' < size r ts) m (body r) ts (P m r ts)) where
  framed_below : (n m : ℕ) (r : Rule) (ts : List Token) → size r ts < n → Framed (read body size m r) ts (read body size m r ts)
  framed_below zero m r ts less = absurd (omega arith)
  framed_below (suc n) m r ts less =
      let is : (l : List Token) → read body size m r l ≡ exec (read body size) m (body r) l = λ l. Ending.read_is body size P spent gets m r l in
      let h : Framed (exec (read body size) m (body r)) ts (exec (read body size) m (body r) ts) =
      exec_framed P (λ r' ts'. size r' ts' < size r ts) (read body size) (Ending.read_holds body size P spent gets) (λ m' r' ts' less'. framed_below n m' r' ts' (omega arith)) m (body r) ts (P m r ts) (gets m r ts) in
      rw is (framed_replace (read body size m r) (exec (read body size) m (body r)) ts (exec (read body size) m (body r) ts) (λ other e. is other) h)

  -- what is read depends on the tokens that were taken, and on one token more
  pub read_framed : (m : ℕ) (r : Rule) (ts : List Token) → Framed (read body size m r) ts (read body size m r ts)
  read_framed m r ts = framed_below (suc (size r ts)) m r ts (omega arith)
