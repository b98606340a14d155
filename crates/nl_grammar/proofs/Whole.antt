-- A whole text: what its reading says.
use Rattle.std.proofs.Common.{◌≡◌, ℕ, max, ◌+◌, ◌≤◌, List, [], ◌∷◌, ◌++◌, length, length-append, refl, sym, subst, ap, ◌∙◌, arith}
use Rattle.rvc_base.specs.declared.refusal.Rule.{Rule}
use Rattle.cal_lexer.specs.Lexeme.{Placed}
use Rattle.cal_lexer.proofs.NetOnce as lexed
use Rattle.cal_grammar.specs.Operators.{max_height}
use Rattle.cal_grammar.specs.Program.{Outcome, Gave, Refused, TooHigh}
use Rattle.cal_grammar.specs.Reading.{IsRefused, IsTooHigh}
use Rattle.cal_grammar.proofs.Frames.{Framed, IsFramed}
use Rattle.cal_grammar.proofs.Looser.{IsKept}
use Rattle.cal_grammar.proofs.Meets.{IsFar}
use Rattle.fnl_frames.specs.Net.{Net}
use Rattle.nl_grammar.specs.Spells.{IsText, spells_nl}
use Rattle.nl_grammar.specs.Laws.{spells, high_of, IsTextNetwork, Breaks, breaks_off, grows_high, BreaksText, in_a_token, in_the_grammar}
use Rattle.nl_grammar.specs.Rules.{Found, a_net, net_in, whole, read}
use Rattle.nl_grammar.proofs.Meets.{IsRead, MeetsWhole}
use Rattle.nl_grammar.proofs.Reading.{read_keeps, read_framed, read_kept}
use Rattle.nl_grammar.proofs.Complete.{text_read}

-- what is read is spelled, and isn't too high
pub given : (m : ℕ) (ts left : List Placed) (y : Found) → read m whole ts ≡ Gave y left → IsRead IsText 0 m ts [] (net_in y)
given m ts left y e = let k : MeetsWhole m ts (read m whole ts) = read_keeps m whole ts in (rw e at k).0

frame_at : (m : ℕ) (ts left : List Placed) (make : List Placed → Outcome Placed Found) (o : Outcome Placed Found) → read m whole ts ≡ o → (Framed (read m whole) ts o → IsFramed (read m whole) make ts left) → IsFramed (read m whole) make ts left
frame_at m ts left make o e turn =
    let h : Framed (read m whole) ts (read m whole ts) = read_framed m whole ts in
    turn (rw e at h)

kept_at : (m more : ℕ) (ts left : List Placed) → m ≤ more → read m whole ts ≡ Refused left → read more whole ts ≡ Refused left
kept_at m more ts left less e =
    let h : IsKept (read m whole ts) (read more whole ts) = read_kept m more whole ts less in
    rw e at h

-- what is refused goes on in no text of a network
pub refused : (m : ℕ) (ts left : List Placed) → read m whole ts ≡ Refused left → IsRefused spells ts left
refused m ts left e =
    let h : IsFramed (read m whole) (λ l. Refused l) ts left = frame_at m ts left (λ l. Refused l) (Refused left) e (λ f. f) in
    record {
      front = h.front;
      is_front = h.is_front;
      none = λ other x same spelled.
          let here : read m whole (h.front ++ other) ≡ Refused other = h.same other same in
          let above : read (max m x.high) whole (h.front ++ other) ≡ Refused other = kept_at m (max m x.high) (h.front ++ other) other (omega arith) here in
          let gave : read (max m x.high) whole (h.front ++ other) ≡ Gave (a_net x.net) [] = text_read (max m x.high) x.high (h.front ++ other) x.net spelled (omega arith) in
          cc;
    }

-- what is too high goes on in no text of a network that fits
pub grown : (m : ℕ) (ts left : List Placed) → read m whole ts ≡ TooHigh left → IsTooHigh spells high_of m ts left
grown m ts left e =
    let h : IsFramed (read m whole) (λ l. TooHigh l) ts left = frame_at m ts left (λ l. TooHigh l) (TooHigh left) e (λ f. f) in
    let k : MeetsWhole m ts (read m whole ts) = read_keeps m whole ts in
    let f : IsFar m ts left = rw e at k in
    let far : m + length left ≤ length ts = f.far in
    let sum : length ts ≡ length h.front + length left = ap length h.is_front ∙ length-append h.front left in
    record {
      front = h.front;
      is_front = h.is_front;
      none = λ other x same low spelled.
          let here : read m whole (h.front ++ other) ≡ TooHigh other = h.same other same in
          let gave : read m whole (h.front ++ other) ≡ Gave (a_net x.net) [] = text_read m x.high (h.front ++ other) x.net spelled low in
          cc;
      far = omega arith;
    }

-- tokens spell at most one network, and with one height
pub one_net : (ts : List Placed) (n other : Net) (h k : ℕ) → spells_nl ts n h → spells_nl ts other k → n ≡ other
one_net ts n other h k a b =
    let one : read (max h k) whole ts ≡ Gave (a_net n) [] = text_read (max h k) h ts n a (omega arith) in
    let two : read (max h k) whole ts ≡ Gave (a_net other) [] = text_read (max h k) k ts other b (omega arith) in
    same (ap net_of_outcome (sym one ∙ two))
  where
    net_of_outcome : Outcome Placed Found → Net
    net_of_outcome (Gave y left) = net_in y
    net_of_outcome _ = net_in (a_net n)

    same : net_of_outcome (Gave (a_net n) []) ≡ net_of_outcome (Gave (a_net other) []) → n ≡ other
    same e = e

-- a text has at most one network
pub one_text : (text : List ℕ) (n other : Net) → IsTextNetwork text n → IsTextNetwork text other → n ≡ other
one_text text n other a b =
    let same : b.tokens ≡ a.tokens = lexed.one_list b.lexed a.lexed in
    one_net a.tokens n other a.high b.high a.spelled (subst (λ ts. spells_nl ts other b.high) same b.spelled)

-- the text of a network breaks no rule
unbroken : (text : List ℕ) (ts : List Placed) (n : Net) (h : ℕ) (rule : Rule) (at : ℕ) → spells_nl ts n h → h ≤ max_height → Breaks (length text) ts rule at → ⊥
unbroken text ts n h rule at v low (breaks_off left r) = r.none left (record { net = n; high = h }) refl (subst (λ l. spells_nl l n h) r.is_front v)
unbroken text ts n h rule at v low (grows_high t left r) = r.none (t ∷ left) (record { net = n; high = h }) refl low (subst (λ l. spells_nl l n h) r.is_front v)

pub breaks_none : (text : List ℕ) (n : Net) (rule : Rule) (at : ℕ) → IsTextNetwork text n → BreaksText text rule at → ⊥
breaks_none text n rule at v (in_a_token f) = lexed.not_both v.lexed f
breaks_none text n rule at v (in_the_grammar {ts = ts} l b) =
    let same : v.tokens ≡ ts = lexed.one_list v.lexed l in
    unbroken text ts n v.high rule at (subst (λ us. spells_nl us n v.high) same v.spelled) v.low b
