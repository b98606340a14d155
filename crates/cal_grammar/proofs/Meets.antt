-- What each rule keeps to, and how that is shown of a program step by step.
use Rattle.std.proofs.Common.{◌≡◌, ℕ, suc, ◌+◌, ◌-◌, ◌*◌, ◌<◌, ◌≤◌, Bool, true, false, List, [], ◌∷◌, length, Option, refl, sym, subst, arith}
use Rattle.cal_grammar.specs.Program.{Outcome, give, fail, ask, take, check, jump, invoke, enter, Gave, Refused, TooHigh, Spent, ahead}
use Rattle.cal_grammar.proofs.Gets.{Gets}
use Rattle.cal_ast.specs.Tree.{Tree}
use Rattle.cal_lexer.specs.Lexeme.{Lexeme, Placed, placed}
use Rattle.cal_grammar.specs.Token.{here, names, counts, same_word}
use Rattle.cal_grammar.specs.Operators.{height, ends}
use Rattle.cal_grammar.specs.Spells.{Part, Spells, a_postfix, a_type, a_var, a_file, level}
use Rattle.cal_grammar.specs.Rules.{Rule, part, chain, places, type_tail, var_tail, whole, Step, size, rank, expect, named, finish}
use Rattle.cal_grammar.proofs.Words.{same_is}
use Rattle.cal_grammar.proofs.Costs.{costs, takes}

-- the tokens up to those that are left spell the tree, which fits the room
pub record IsRead (p : Part) (m : ℕ) (ts left : List Placed) (x : Tree) : Type 0 where
  pub spelled : Spells p ts left x
  pub low : height x ≤ m

-- it is at a token, and as many tokens stand before it as the room has
pub record IsFar (m : ℕ) (ts left : List Placed) : Type 0 where
  pub far : m + length left ≤ length ts
  pub at_token : 0 < length left

abbrev pub Meets : Part → ℕ → List Placed → Outcome Placed Tree → Type 0
Meets p m ts (Gave x left) = IsRead p m ts left x
Meets p m ts (Refused left) = Unit {0}
Meets p m ts (TooHigh left) = IsFar m ts left
Meets p m ts Spent = Unit {0}

abbrev pub MeetsWhole : ℕ → List Placed → Outcome Placed Tree → Type 0
MeetsWhole m ts (Gave x left) = IsRead a_file m ts [] x × (left ≡ [])
MeetsWhole m ts (Refused left) = Unit {0}
MeetsWhole m ts (TooHigh left) = IsFar m ts left
MeetsWhole m ts Spent = Unit {0}

abbrev pub Keeps : ℕ → Rule → List Placed → Outcome Placed Tree → Type 0
Keeps m (part p) ts o = Meets p m ts o
Keeps m (chain n x) ts o = (a : List Placed) → Spells (level (suc n)) a ts x → height x ≤ m → Meets (level (suc n)) m a o
Keeps m (places x) ts o = (a : List Placed) → Spells a_postfix a ts x → height x ≤ m → Meets a_postfix m a o
Keeps m (type_tail s q) ts o = 1 ≤ m → Meets a_type m (placed (Lexeme.Name s) q ∷ ts) o
Keeps m (var_tail x) ts o = (a : List Placed) → Spells a_type a ts x → height x ≤ m → Meets a_var m a o
Keeps m whole ts o = MeetsWhole m ts o

pub nothing_spent : (m : ℕ) (r : Rule) (ts : List Placed) → Keeps m r ts Spent
nothing_spent m (part p) ts = tt
nothing_spent m (chain n x) ts = λ a h l. tt
nothing_spent m (places x) ts = λ a h l. tt
nothing_spent m (type_tail s q) ts = λ h. tt
nothing_spent m (var_tail x) ts = λ a h l. tt
nothing_spent m whole ts = tt

name_is : (k : Lexeme) → names k ≡ true → (s : List ℕ) × (k ≡ Lexeme.Name s)
name_is (Lexeme.Name s) e = (s, refl)
name_is _ e = absurd cc

number_is : (k : Lexeme) → counts k ≡ true → (v : ℕ) × (k ≡ Lexeme.Number v)
number_is (Lexeme.Number v) e = (v, refl)
number_is _ e = absurd cc

-- a token is there if something is known of it
pub some_left : (f : Lexeme → Bool) (ts : List Placed) → here f (ahead ts) ≡ true → 0 < length ts
some_left f [] e = absurd cc
some_left f (t ∷ ts) e = omega arith

module _ (s m : ℕ) where
  -- the facts that are shown of the programs of a rule whose size is s
  pub record Shows (p : Step) (ts : List Placed) (Q : Outcome Placed Tree → Type 0) : Type 0 where
    pub it : Gets Keeps (λ r l. size r l < s) m p ts Q

  pub gives : (x : Tree) (ts : List Placed) (Q : Outcome Placed Tree → Type 0) → Q (Gave x ts) → Shows (give x) ts Q
  gives x ts Q h = record { it = h }

  pub fails : (ts : List Placed) (Q : Outcome Placed Tree → Type 0) → Q (Refused ts) → Shows fail ts Q
  fails ts Q h = record { it = h }

  pub asks : (q : Option Placed → Bool) (p other : Step) (ts : List Placed) (Q : Outcome Placed Tree → Type 0) → (q (ahead ts) ≡ true → Shows p ts Q) → (q (ahead ts) ≡ false → Shows other ts Q) → Shows (ask q p other) ts Q
  asks q p other ts Q a b = record { it = (λ e. (a e).it, λ e. (b e).it) }

  pub checks : (h : ℕ) (p : Step) (ts : List Placed) (Q : Outcome Placed Tree → Type 0) → (m < h → Q (TooHigh ts)) → (h ≤ m → Shows p ts Q) → Shows (check h p) ts Q
  checks h p ts Q high low = record { it = (λ e. (low e).it, high) }

  pub jumps : (r : Rule) (ts : List Placed) (Q : Outcome Placed Tree → Type 0) → size r ts < s → ((o : Outcome Placed Tree) → Keeps m r ts o → Q o) → Shows (jump r) ts Q
  jumps r ts Q less h = record { it = (less, h) }

  -- a token is taken of which something was asked
  pub takes_kind : (f : Lexeme → Bool) (F : List Placed → Type 0) (Q : List Placed → Outcome Placed Tree → Type 0) (next : Placed → Step) (ts : List Placed) → here f (ahead ts) ≡ true → F ts → ((k : Lexeme) (q : ℕ) (l : List Placed) → f k ≡ true → length ts ≡ suc (length l) → F (placed k q ∷ l) → Shows (next (placed k q)) l (Q (placed k q ∷ l))) → Shows (take next) ts (Q ts)
  takes_kind f F Q next [] e h each = absurd cc
  takes_kind f F Q next (placed k q ∷ l) e h each = record { it = (each k q l e refl h).it }

  pub takes_word : (w : Lexeme) (F : List Placed → Type 0) (Q : List Placed → Outcome Placed Tree → Type 0) (next : Placed → Step) (ts : List Placed) → here (same_word w) (ahead ts) ≡ true → F ts → ((q : ℕ) (l : List Placed) → length ts ≡ suc (length l) → F (placed w q ∷ l) → Shows (next (placed w q)) l (Q (placed w q ∷ l))) → Shows (take next) ts (Q ts)
  takes_word w F Q next ts e h each =
      takes_kind (same_word w) F Q next ts e h (λ k q l same n f.
      let G : Lexeme → Type 0 = λ v. F (placed v q ∷ l) → Shows (next (placed v q)) l (Q (placed v q ∷ l)) in
      subst G (sym (same_is w k same)) (each q l n) f)

  pub takes_name : (F : List Placed → Type 0) (Q : List Placed → Outcome Placed Tree → Type 0) (next : Placed → Step) (ts : List Placed) → here names (ahead ts) ≡ true → F ts → ((text : List ℕ) (q : ℕ) (l : List Placed) → length ts ≡ suc (length l) → F (placed (Lexeme.Name text) q ∷ l) → Shows (next (placed (Lexeme.Name text) q)) l (Q (placed (Lexeme.Name text) q ∷ l))) → Shows (take next) ts (Q ts)
  takes_name F Q next ts e h each =
      takes_kind names F Q next ts e h (λ k q l same n f.
      let G : Lexeme → Type 0 = λ v. F (placed v q ∷ l) → Shows (next (placed v q)) l (Q (placed v q ∷ l)) in
      let is = name_is k same in
      subst G (sym is.1) (each is.0 q l n) f)

  pub takes_number : (F : List Placed → Type 0) (Q : List Placed → Outcome Placed Tree → Type 0) (next : Placed → Step) (ts : List Placed) → here counts (ahead ts) ≡ true → F ts → ((v : ℕ) (q : ℕ) (l : List Placed) → length ts ≡ suc (length l) → F (placed (Lexeme.Number v) q ∷ l) → Shows (next (placed (Lexeme.Number v) q)) l (Q (placed (Lexeme.Number v) q ∷ l))) → Shows (take next) ts (Q ts)
  takes_number F Q next ts e h each =
      takes_kind counts F Q next ts e h (λ k q l same n f.
      let G : Lexeme → Type 0 = λ v. F (placed v q ∷ l) → Shows (next (placed v q)) l (Q (placed v q ∷ l)) in
      let is = number_is k same in
      subst G (sym is.1) (each is.0 q l n) f)

  -- a part is read, in the same room or in one less, by a rule whose facts are Q
  pub invoked : (p : Part) (ts : List Placed) (next : Tree → Step) (Q : Outcome Placed Tree → Type 0) → rank p + 100 * length ts < s → ((left : List Placed) → Q (Refused left)) → ((left : List Placed) → m + length left ≤ length ts → 0 < length left → Q (TooHigh left)) → ((x : Tree) (left : List Placed) → Spells p ts left x → height x ≤ m → height x + length left ≤ length ts → takes p + length left ≤ length ts → Shows (next x) left Q) → Shows (invoke (part p) next) ts Q
  invoked p ts next Q less refused high each = record { it = (less, λ x left h. (each x left h.spelled h.low (costs h.spelled).high (costs h.spelled).taken).it, λ left h. refused left, λ left h. high left h.far h.at_token) }

  pub entered : (p : Part) (ts : List Placed) (next : Tree → Step) (Q : Outcome Placed Tree → Type 0) → rank p + 100 * length ts < s → ((left : List Placed) → Q (Refused left)) → ((left : List Placed) → m - 1 + length left ≤ length ts → 0 < length left → Q (TooHigh left)) → ((x : Tree) (left : List Placed) → Spells p ts left x → height x ≤ m - 1 → height x + length left ≤ length ts → takes p + length left ≤ length ts → Shows (next x) left Q) → Shows (enter (part p) next) ts Q
  entered p ts next Q less refused high each = record { it = (less, λ x left h. (each x left h.spelled h.low (costs h.spelled).high (costs h.spelled).taken).it, λ left h. refused left, λ left h. high left h.far h.at_token) }

  -- the same if the rule reads a part of its own
  pub invokes : (p whole_part : Part) (a ts : List Placed) (next : Tree → Step) → rank p + 100 * length ts < s → length ts ≤ length a → ((x : Tree) (left : List Placed) → Spells p ts left x → height x ≤ m → height x + length left ≤ length ts → takes p + length left ≤ length ts → Shows (next x) left (Meets whole_part m a)) → Shows (invoke (part p) next) ts (Meets whole_part m a)
  invokes p w a ts next less inside each = invoked p ts next (Meets w m a) less (λ left. tt) (λ left far at. record { far = omega arith; at_token = at }) each

  pub enters : (p whole_part : Part) (a ts : List Placed) (next : Tree → Step) → rank p + 100 * length ts < s → suc (length ts) ≤ length a → ((x : Tree) (left : List Placed) → Spells p ts left x → height x ≤ m - 1 → height x + length left ≤ length ts → takes p + length left ≤ length ts → Shows (next x) left (Meets whole_part m a)) → Shows (enter (part p) next) ts (Meets whole_part m a)
  enters p w a ts next less inside each = entered p ts next (Meets w m a) less (λ left. tt) (λ left far at. record { far = omega arith; at_token = at }) each

  -- a word must come behind a part
  pub expects : (w : Lexeme) (p whole_part : Part) (b : List Placed) (x : Tree) (a ts : List Placed) (next : Step) → Spells p b ts x → ((q : ℕ) (l : List Placed) → length ts ≡ suc (length l) → Spells p b (placed w q ∷ l) x → Shows next l (Meets whole_part m a)) → Shows (expect w next) ts (Meets whole_part m a)
  expects w p v b x a ts next h each = asks (here (same_word w)) (take (λ t. next)) fail ts (Meets v m a) (λ e. takes_word w (λ l. Spells p b l x) (λ l. Meets v m a) (λ t. next) ts e h each) (λ e. fails ts (Meets v m a) tt)

  -- a word may come, in a rule whose facts may depend on what stands there
  pub word_or : (w : Lexeme) (F : List Placed → Type 0) (Q : List Placed → Outcome Placed Tree → Type 0) (next : Placed → Step) (other : Step) (ts : List Placed) → F ts → ((q : ℕ) (l : List Placed) → length ts ≡ suc (length l) → F (placed w q ∷ l) → Shows (next (placed w q)) l (Q (placed w q ∷ l))) → (here (same_word w) (ahead ts) ≡ false → Shows other ts (Q ts)) → Shows (ask (here (same_word w)) (take next) other) ts (Q ts)
  word_or w F Q next other ts h each b = asks (here (same_word w)) (take next) other ts (Q ts) (λ e. takes_word w F Q next ts e h each) b

  pub name_or : (F : List Placed → Type 0) (Q : List Placed → Outcome Placed Tree → Type 0) (next : Placed → Step) (other : Step) (ts : List Placed) → F ts → ((text : List ℕ) (q : ℕ) (l : List Placed) → length ts ≡ suc (length l) → F (placed (Lexeme.Name text) q ∷ l) → Shows (next (placed (Lexeme.Name text) q)) l (Q (placed (Lexeme.Name text) q ∷ l))) → (here names (ahead ts) ≡ false → Shows other ts (Q ts)) → Shows (ask (here names) (take next) other) ts (Q ts)
  name_or F Q next other ts h each b = asks (here names) (take next) other ts (Q ts) (λ e. takes_name F Q next ts e h each) b

  -- the same in a part of a height of at least 1
  pub first_or : (w : Lexeme) (p : Part) (next : Placed → Step) (other : Step) (ts : List Placed) → (1 ≤ m → (q : ℕ) (l : List Placed) → length ts ≡ suc (length l) → Shows (next (placed w q)) l (Meets p m (placed w q ∷ l))) → (here (same_word w) (ahead ts) ≡ false → Shows other ts (Meets p m ts)) → Shows (ask (here (same_word w)) (check 1 (take next)) other) ts (Meets p m ts)
  first_or w p next other ts each b =
      asks (here (same_word w)) (check 1 (take next)) other ts (Meets p m ts)
      (λ e. checks 1 (take next) ts (Meets p m ts) (λ high. record { far = omega arith; at_token = some_left (same_word w) ts e }) λ low. takes_word w (λ l. Unit {0}) (λ l. Meets p m l) next ts e tt λ q l n f. each low q l n) b

  pub names_next : (p whole_part : Part) (b : List Placed) (x : Tree) (a ts : List Placed) (next : Placed → Step) → Spells p b ts x → ((text : List ℕ) (q : ℕ) (l : List Placed) → length ts ≡ suc (length l) → Spells p b (placed (Lexeme.Name text) q ∷ l) x → Shows (next (placed (Lexeme.Name text) q)) l (Meets whole_part m a)) → Shows (named next) ts (Meets whole_part m a)
  names_next p v b x a ts next h each = asks (here names) (take next) fail ts (Meets v m a) (λ e. takes_name (λ l. Spells p b l x) (λ l. Meets v m a) next ts e h each) (λ e. fails ts (Meets v m a) tt)

  pub finishes : (w : Lexeme) (p whole_part : Part) (b : List Placed) (x : Tree) (a ts : List Placed) (next : Step) → Spells p b ts x → ((k : Lexeme) (q : ℕ) (l : List Placed) → ends w k ≡ true → length ts ≡ suc (length l) → Spells p b (placed k q ∷ l) x → Shows next l (Meets whole_part m a)) → Shows (finish w next) ts (Meets whole_part m a)
  finishes w p v b x a ts next h each = asks (here (ends w)) (take (λ t. next)) fail ts (Meets v m a) (λ e. takes_kind (ends w) (λ l. Spells p b l x) (λ l. Meets v m a) (λ t. next) ts e h each) (λ e. fails ts (Meets v m a) tt)

-- a rule's outcome is another's if what it read is the other's part
pub turns : (p v : Part) (m : ℕ) (a ts : List Placed) → length ts ≤ length a → ((x : Tree) (left : List Placed) → Spells p ts left x → Spells v a left x) → (o : Outcome Placed Tree) → Meets p m ts o → Meets v m a o
turns p v m a ts inside f (Gave x left) h = record { spelled = f x left h.spelled; low = h.low }
turns p v m a ts inside f (Refused left) h = tt
turns p v m a ts inside f (TooHigh left) h = let far : m + length left ≤ length ts = h.far in record { far = omega arith; at_token = h.at_token }
turns p v m a ts inside f Spent h = tt
