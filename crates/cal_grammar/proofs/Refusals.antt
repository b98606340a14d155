-- A reader that reads whatever is spelled refuses rightly.
use Rattle.std.proofs.Common.{◌≡◌, ℕ, ◌+◌, ◌<◌, ◌≤◌, max, List, [], ◌++◌, length, length-append, ap, ◌∙◌, arith}
use Rattle.cal_grammar.specs.Program.{Program, Outcome, Gave, Refused, TooHigh, Spent, read}
use Rattle.cal_grammar.specs.Reading.{IsRefused, IsTooHigh}
use Rattle.cal_grammar.proofs.Gets.{Gets}
use Rattle.cal_grammar.proofs.Looser.{IsKept, read_kept}
use Rattle.cal_grammar.proofs.Frames.{Framed, IsFramed, read_framed}

module _ {Token Tree Rule : Type 0} (body : Rule → Program Token Tree Rule) (size : Rule → List Token → ℕ) (P : ℕ → Rule → List Token → Outcome Token Tree → Type 0) (spent : (m : ℕ) (r : Rule) (ts : List Token) → P m r ts Spent) (gets : (m : ℕ) (r : Rule) (ts : List Token) → Gets P (λ r' ts'. size r' ts' < size r ts) m (body r) ts (P m r ts)) (top : Rule) (Spelled : List Token → Tree → Type 0) (height : Tree → ℕ) (complete : (m : ℕ) (ts : List Token) (x : Tree) → Spelled ts x → height x ≤ m → read body size m top ts ≡ Gave x []) where
  frame_at : (m : ℕ) (ts left : List Token) (make : List Token → Outcome Token Tree) (o : Outcome Token Tree) → read body size m top ts ≡ o → (Framed (read body size m top) ts o → IsFramed (read body size m top) make ts left) → IsFramed (read body size m top) make ts left
  frame_at m ts left make o e turn =
      let h : Framed (read body size m top) ts (read body size m top ts) = read_framed body size P spent gets m top ts in
      turn (rw e at h)

  kept_at : (m more : ℕ) (ts left : List Token) → m ≤ more → read body size m top ts ≡ Refused left → read body size more top ts ≡ Refused left
  kept_at m more ts left less e =
      let h : IsKept (read body size m top ts) (read body size more top ts) = read_kept body size m more top ts less in
      rw e at h

  -- if it refuses, no list that goes on alike spells a tree of any height
  pub rightly_refused : (m : ℕ) (ts left : List Token) → read body size m top ts ≡ Refused left → IsRefused Spelled ts left
  rightly_refused m ts left e =
      let h : IsFramed (read body size m top) (λ l. Refused l) ts left = frame_at m ts left (λ l. Refused l) (Refused left) e (λ f. f) in
      record {
        front = h.front;
        is_front = h.is_front;
        none = λ other x same spelled.
            let here : read body size m top (h.front ++ other) ≡ Refused other = h.same other same in
            let above : read body size (max m (height x)) top (h.front ++ other) ≡ Refused other = kept_at m (max m (height x)) (h.front ++ other) other (omega arith) here in
            let gave : read body size (max m (height x)) top (h.front ++ other) ≡ Gave x [] = complete (max m (height x)) (h.front ++ other) x spelled (omega arith) in
            cc;
      }

  -- if it finds what is too high, no list that goes on alike spells a tree that fits
  pub rightly_too_high : (m : ℕ) (ts left : List Token) → read body size m top ts ≡ TooHigh left → m + length left ≤ length ts → IsTooHigh Spelled height m ts left
  rightly_too_high m ts left e far =
      let h : IsFramed (read body size m top) (λ l. TooHigh l) ts left = frame_at m ts left (λ l. TooHigh l) (TooHigh left) e (λ f. f) in
      let sum : length ts ≡ length h.front + length left = ap length h.is_front ∙ length-append h.front left in
      record {
        front = h.front;
        is_front = h.is_front;
        none = λ other x same low spelled.
            let here : read body size m top (h.front ++ other) ≡ TooHigh other = h.same other same in
            let gave : read body size m top (h.front ++ other) ≡ Gave x [] = complete m (h.front ++ other) x spelled low in
            cc;
        far = omega arith;
      }

  -- a list spells at most one tree
  pub one_tree : (ts : List Token) (x y : Tree) → Spelled ts x → Spelled ts y → x ≡ y
  one_tree ts x y a b =
      let one : read body size (max (height x) (height y)) top ts ≡ Gave x [] = complete (max (height x) (height y)) ts x a (omega arith) in
      let two : read body size (max (height x) (height y)) top ts ≡ Gave y [] = complete (max (height x) (height y)) ts y b (omega arith) in
      cc
