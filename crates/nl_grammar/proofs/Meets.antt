-- What each rule keeps to, and how that is shown of a program step by step.
use Rattle.std.proofs.Common.{◌≡◌, ℕ, suc, max, ◌+◌, ◌<◌, ◌≤◌, Bool, true, false, List, [], ◌∷◌, ◌++◌, length, Option, refl, sym, subst, arith}
use Rattle.cal_grammar.specs.Program.{Outcome, give, fail, ask, take, jump, invoke, Gave, Refused, TooHigh, Spent, ahead}
use Rattle.cal_grammar.proofs.Gets.{Gets}
use Rattle.cal_grammar.proofs.Meets.{IsFar, IsRead as IsTreeRead}
use Rattle.cal_grammar.proofs.Costs.{costs, takes}
use Rattle.cal_grammar.proofs.Words.{same_is}
use Rattle.cal_ast.specs.Tree.{Tree}
use Rattle.cal_lexer.specs.Lexeme.{Lexeme, Placed, placed}
use Rattle.cal_grammar.specs.Token.{here, names, same_word}
use Rattle.cal_grammar.specs.Operators.{height}
use Rattle.cal_grammar.specs.Spells.{Part, Spells, any, comma, an_expr, a_param, a_port, a_tag}
use Rattle.fnl_frames.specs.Net.{Net, Decl, Parameter}
use Rattle.nl_grammar.specs.Headings.{is_called, network_word, entities_word, structure_word}
use Rattle.nl_grammar.specs.Spells.{Repeated, IsVariable, AreVariables, IsParameter, SomeParameters, AreParameters, IsEntity, End, IsEnd, AreAttributes, InBraces, IsConnection, IsClosed, IsNetwork, IsText}
use Rattle.nl_grammar.specs.Rules.{Found, Own, Rule, Step, language, own, variable, variables, declared, parameter, more_parameters, parameters, entity, entities, end_of, attribute, attributes, in_braces, connection, connections, closing, ports, heading, network, packaged, whole, tree_in, variable_in, decls_in, parameter_in, parameters_in, instance_in, instances_in, end_in, sizes_in, connection_in, connections_in, net_in, with_ports, with_heading, part, expect, named, size}
use Rattle.nl_grammar.proofs.Called.{called_is, name_is}

-- a part of the grammar: tokens up to others, what they spell, and how high it is
abbrev pub Relation : Type 0 → Type 1
Relation X = List Placed → List Placed → X → ℕ → Type 0

-- the tokens up to those that are left spell it, it fits the room, and so many tokens were taken at least
pub record IsRead {X : Type 0} (R : List Placed → List Placed → X → ℕ → Type 0) (n m : ℕ) (ts left : List Placed) (x : X) : Type 0 where
  pub high : ℕ
  pub spelled : R ts left x high
  pub low : high ≤ m
  pub taken : n + length left ≤ length ts

abbrev pub Meets : {X : Type 0} → (List Placed → List Placed → X → ℕ → Type 0) → (Found → X) → ℕ → ℕ → List Placed → Outcome Placed Found → Type 0
Meets R view n m ts (Gave y left) = IsRead R n m ts left (view y)
Meets R view n m ts (Refused left) = Unit {0}
Meets R view n m ts (TooHigh left) = IsFar m ts left
Meets R view n m ts Spent = Unit {0}

-- ---- parts of productions

-- a part before a heading
pub data UpTo {X : Type 0} (name : List ℕ) (R : List Placed → List Placed → X → ℕ → Type 0) : List Placed → List Placed → X → ℕ → Type 0 where
  up_to : {q h : ℕ} {a b : List Placed} {x : X} → R a (placed (Lexeme.Name name) q ∷ b) x h → UpTo name R a b x h

-- what is spelled stands behind what was there before
pub record Behind {X : Type 0} (before : List X) (R : List Placed → List Placed → List X → ℕ → Type 0) (a b : List Placed) (xs : List X) (h : ℕ) : Type 0 where
  pub mine : List X
  pub is : xs ≡ before ++ mine
  pub spelled : R a b mine h

-- a variable, if it doesn't begin with the name of the heading
abbrev pub IsUnheaded : List Placed → List Placed → Decl → ℕ → Type 0
IsUnheaded a b d h = here (is_called entities_word) (ahead a) ≡ false → IsVariable a b d h

-- parameters before one more
pub data Begun : List Placed → List Placed → List Parameter → ℕ → Type 0 where
  begun_none : {a : List Placed} → Begun a a [] 0
  begun_some : {q h : ℕ} {a b : List Placed} {ps : List Parameter} → SomeParameters a (placed Lexeme.Comma q ∷ b) ps h → Begun a b ps h

abbrev pub IsEndOf : List Placed → List Placed → End → ℕ → Type 0
IsEndOf a b e h = IsEnd a b e

-- the value of an attribute, behind its name
pub data IsValue : List Placed → List Placed → Tree → ℕ → Type 0 where
  the_value : {q r : ℕ} {a b : List Placed} {x : Tree} → Spells an_expr a (placed Lexeme.Semicolon r ∷ b) x → IsValue (placed Lexeme.Equal q ∷ a) b x (height x)

abbrev pub IsClosing : List Placed → List Placed → Found → ℕ → Type 0
IsClosing a b y h = IsClosed a b

pub data ArePorts : List Placed → List Placed → Net → ℕ → Type 0 where
  the_ports : {q r : ℕ} {a b c : List Placed} {ins outs : Tree} → Spells (any comma a_port) a (placed Lexeme.LongDoubleArrow q ∷ b) ins → Spells (any comma a_port) b (placed Lexeme.Colon r ∷ c) outs → ArePorts a c (with_ports ins outs) (max (height ins) (height outs))

pub data IsHeading : List Placed → List Placed → Net → ℕ → Type 0 where
  the_heading : {s : List ℕ} {q r t u h : ℕ} {a b c : List Placed} {ps : Tree} {n : Net} → Spells (any comma a_param) a (placed Lexeme.RightParen u ∷ b) ps → ArePorts b c n h → IsHeading (placed (Lexeme.Name network_word) q ∷ placed (Lexeme.Name s) r ∷ placed Lexeme.LeftParen t ∷ a) c (with_heading s q ps n) (max (height ps) h)

pub data IsPackaged : List Placed → List Placed → Found → ℕ → Type 0 where
  the_no_package : {a : List Placed} {y : Found} {h : ℕ} → IsPackaged a a y h
  the_package : {q r h : ℕ} {a b : List Placed} {t : Tree} {y : Found} → Spells a_tag a (placed Lexeme.Semicolon r ∷ b) t → IsPackaged (placed Lexeme.Package q ∷ a) b y h

-- ---- what each rule keeps to

abbrev pub MeetsTree : Part → ℕ → List Placed → Outcome Placed Found → Type 0
MeetsTree p m ts (Gave y left) = IsTreeRead p m ts left (tree_in y)
MeetsTree p m ts (Refused left) = Unit {0}
MeetsTree p m ts (TooHigh left) = IsFar m ts left
MeetsTree p m ts Spent = Unit {0}

abbrev pub MeetsWhole : ℕ → List Placed → Outcome Placed Found → Type 0
MeetsWhole m ts (Gave y left) = IsRead IsText 0 m ts [] (net_in y) × (left ≡ [])
MeetsWhole m ts (Refused left) = Unit {0}
MeetsWhole m ts (TooHigh left) = IsFar m ts left
MeetsWhole m ts Spent = Unit {0}

abbrev pub Keeps : ℕ → Rule → List Placed → Outcome Placed Found → Type 0
Keeps m (language p) ts o = MeetsTree p m ts o
Keeps m (own variable) ts o = Meets IsUnheaded variable_in 1 m ts o
Keeps m (own (variables ds)) ts o = (before : List Decl) (a : List Placed) (h : ℕ) → length ts ≤ length a → Behind before (Repeated IsVariable) a ts ds h → h ≤ m → Meets (UpTo entities_word (Behind before (Repeated IsVariable))) decls_in 1 m a o
Keeps m (own (declared ds)) ts o = Meets (UpTo entities_word (Behind ds AreVariables)) decls_in 1 m ts o
Keeps m (own parameter) ts o = Meets IsParameter parameter_in 1 m ts o
Keeps m (own (more_parameters ps)) ts o = (a : List Placed) (h : ℕ) → length ts ≤ length a → Begun a ts ps h → h ≤ m → Meets SomeParameters parameters_in 1 m a o
Keeps m (own parameters) ts o = Meets AreParameters parameters_in 0 m ts o
Keeps m (own (entity s q)) ts o = (r : ℕ) → Meets IsEntity instance_in 1 m (placed (Lexeme.Name s) q ∷ placed Lexeme.Equal r ∷ ts) o
Keeps m (own (entities is)) ts o = (a : List Placed) (h : ℕ) → length ts ≤ length a → Repeated IsEntity a ts is h → h ≤ m → Meets (UpTo structure_word (Repeated IsEntity)) instances_in 1 m a o
Keeps m (own end_of) ts o = Meets IsEndOf end_in 1 m ts o
Keeps m (own attribute) ts o = Meets IsValue tree_in 1 m ts o
Keeps m (own (attributes zs)) ts o = (a : List Placed) (h : ℕ) → length ts ≤ length a → AreAttributes a ts zs h → h ≤ m → Meets AreAttributes sizes_in 0 m a o
Keeps m (own in_braces) ts o = Meets InBraces sizes_in 0 m ts o
Keeps m (own connection) ts o = Meets IsConnection connection_in 1 m ts o
Keeps m (own (connections cs)) ts o = (a : List Placed) (h : ℕ) → length ts ≤ length a → Repeated IsConnection a ts cs h → h ≤ m → Meets (Repeated IsConnection) connections_in 0 m a o
Keeps m (own closing) ts o = Meets IsClosing (λ y. y) 1 m ts o
Keeps m (own ports) ts o = Meets ArePorts net_in 1 m ts o
Keeps m (own heading) ts o = Meets IsHeading net_in 1 m ts o
Keeps m (own network) ts o = Meets IsNetwork net_in 1 m ts o
Keeps m (own packaged) ts o = Meets IsPackaged (λ y. y) 0 m ts o
Keeps m (own whole) ts o = MeetsWhole m ts o

pub nothing_spent : (m : ℕ) (r : Own) (ts : List Placed) → Keeps m (own r) ts Spent
nothing_spent m variable ts = tt
nothing_spent m (variables ds) ts = λ before a h l b k. tt
nothing_spent m (declared ds) ts = tt
nothing_spent m parameter ts = tt
nothing_spent m (more_parameters ps) ts = λ a h l b k. tt
nothing_spent m parameters ts = tt
nothing_spent m (entity s q) ts = λ r. tt
nothing_spent m (entities is) ts = λ a h l b k. tt
nothing_spent m end_of ts = tt
nothing_spent m attribute ts = tt
nothing_spent m (attributes zs) ts = λ a h l b k. tt
nothing_spent m in_braces ts = tt
nothing_spent m connection ts = tt
nothing_spent m (connections cs) ts = λ a h l b k. tt
nothing_spent m closing ts = tt
nothing_spent m ports ts = tt
nothing_spent m heading ts = tt
nothing_spent m network ts = tt
nothing_spent m packaged ts = tt
nothing_spent m whole ts = tt

-- which calls a rule of a size may make
abbrev pub MayCall : ℕ → Rule → List Placed → Type 0
MayCall s (language p) ts = Unit {0}
MayCall s (own r) ts = size r ts < s

-- ---- programs, step by step

module _ (s m : ℕ) where
  -- the facts that are shown of the programs of a rule whose size is s
  pub record Shows (p : Step) (ts : List Placed) (Q : Outcome Placed Found → Type 0) : Type 0 where
    pub it : Gets Keeps (MayCall s) m p ts Q

  pub gives : (y : Found) (ts : List Placed) (Q : Outcome Placed Found → Type 0) → Q (Gave y ts) → Shows (give y) ts Q
  gives y ts Q h = record { it = h }

  pub fails : (ts : List Placed) (Q : Outcome Placed Found → Type 0) → Q (Refused ts) → Shows fail ts Q
  fails ts Q h = record { it = h }

  pub asks : (q : Option Placed → Bool) (p other : Step) (ts : List Placed) (Q : Outcome Placed Found → Type 0) → (q (ahead ts) ≡ true → Shows p ts Q) → (q (ahead ts) ≡ false → Shows other ts Q) → Shows (ask q p other) ts Q
  asks q p other ts Q a b = record { it = (λ e. (a e).it, λ e. (b e).it) }

  pub jumps : (r : Own) (ts : List Placed) (Q : Outcome Placed Found → Type 0) → size r ts < s → ((o : Outcome Placed Found) → Keeps m (own r) ts o → Q o) → Shows (jump (own r)) ts Q
  jumps r ts Q less h = record { it = (less, h) }

  -- a token is taken of which something was asked; the facts Q may depend on what stands there
  pub takes_kind : (f : Lexeme → Bool) (F : List Placed → Type 0) (Q : List Placed → Outcome Placed Found → Type 0) (next : Placed → Step) (ts : List Placed) → here f (ahead ts) ≡ true → F ts → ((k : Lexeme) (q : ℕ) (l : List Placed) → f k ≡ true → length ts ≡ suc (length l) → F (placed k q ∷ l) → Shows (next (placed k q)) l (Q (placed k q ∷ l))) → Shows (take next) ts (Q ts)
  takes_kind f F Q next [] e h each = absurd cc
  takes_kind f F Q next (placed k q ∷ l) e h each = record { it = (each k q l e refl h).it }

  pub takes_word : (w : Lexeme) (F : List Placed → Type 0) (Q : List Placed → Outcome Placed Found → Type 0) (next : Placed → Step) (ts : List Placed) → here (same_word w) (ahead ts) ≡ true → F ts → ((q : ℕ) (l : List Placed) → length ts ≡ suc (length l) → F (placed w q ∷ l) → Shows (next (placed w q)) l (Q (placed w q ∷ l))) → Shows (take next) ts (Q ts)
  takes_word w F Q next ts e h each =
      takes_kind (same_word w) F Q next ts e h (λ k q l same n f.
      let G : Lexeme → Type 0 = λ v. F (placed v q ∷ l) → Shows (next (placed v q)) l (Q (placed v q ∷ l)) in
      subst G (sym (same_is w k same)) (each q l n) f)

  pub takes_name : (F : List Placed → Type 0) (Q : List Placed → Outcome Placed Found → Type 0) (next : Placed → Step) (ts : List Placed) → here names (ahead ts) ≡ true → F ts → ((text : List ℕ) (q : ℕ) (l : List Placed) → length ts ≡ suc (length l) → F (placed (Lexeme.Name text) q ∷ l) → Shows (next (placed (Lexeme.Name text) q)) l (Q (placed (Lexeme.Name text) q ∷ l))) → Shows (take next) ts (Q ts)
  takes_name F Q next ts e h each =
      takes_kind names F Q next ts e h (λ k q l same n f.
      let G : Lexeme → Type 0 = λ v. F (placed v q ∷ l) → Shows (next (placed v q)) l (Q (placed v q ∷ l)) in
      let is = name_is k same in
      subst G (sym is.1) (each is.0 q l n) f)

  pub takes_called : (name : List ℕ) (F : List Placed → Type 0) (Q : List Placed → Outcome Placed Found → Type 0) (next : Placed → Step) (ts : List Placed) → here (is_called name) (ahead ts) ≡ true → F ts → ((q : ℕ) (l : List Placed) → length ts ≡ suc (length l) → F (placed (Lexeme.Name name) q ∷ l) → Shows (next (placed (Lexeme.Name name) q)) l (Q (placed (Lexeme.Name name) q ∷ l))) → Shows (take next) ts (Q ts)
  takes_called name F Q next ts e h each =
      takes_kind (is_called name) F Q next ts e h (λ k q l same n f.
      let G : Lexeme → Type 0 = λ v. F (placed v q ∷ l) → Shows (next (placed v q)) l (Q (placed v q ∷ l)) in
      subst G (sym (called_is name k same)) (each q l n) f)

  -- a word, a name or a heading may come
  pub word_or : (w : Lexeme) (F : List Placed → Type 0) (Q : List Placed → Outcome Placed Found → Type 0) (next : Placed → Step) (other : Step) (ts : List Placed) → F ts → ((q : ℕ) (l : List Placed) → length ts ≡ suc (length l) → F (placed w q ∷ l) → Shows (next (placed w q)) l (Q (placed w q ∷ l))) → (here (same_word w) (ahead ts) ≡ false → Shows other ts (Q ts)) → Shows (ask (here (same_word w)) (take next) other) ts (Q ts)
  word_or w F Q next other ts h each b = asks (here (same_word w)) (take next) other ts (Q ts) (λ e. takes_word w F Q next ts e h each) b

  pub name_or : (F : List Placed → Type 0) (Q : List Placed → Outcome Placed Found → Type 0) (next : Placed → Step) (other : Step) (ts : List Placed) → F ts → ((text : List ℕ) (q : ℕ) (l : List Placed) → length ts ≡ suc (length l) → F (placed (Lexeme.Name text) q ∷ l) → Shows (next (placed (Lexeme.Name text) q)) l (Q (placed (Lexeme.Name text) q ∷ l))) → (here names (ahead ts) ≡ false → Shows other ts (Q ts)) → Shows (ask (here names) (take next) other) ts (Q ts)
  name_or F Q next other ts h each b = asks (here names) (take next) other ts (Q ts) (λ e. takes_name F Q next ts e h each) b

  pub called_or : (name : List ℕ) (F : List Placed → Type 0) (Q : List Placed → Outcome Placed Found → Type 0) (next : Placed → Step) (other : Step) (ts : List Placed) → F ts → ((q : ℕ) (l : List Placed) → length ts ≡ suc (length l) → F (placed (Lexeme.Name name) q ∷ l) → Shows (next (placed (Lexeme.Name name) q)) l (Q (placed (Lexeme.Name name) q ∷ l))) → (here (is_called name) (ahead ts) ≡ false → Shows other ts (Q ts)) → Shows (ask (here (is_called name)) (take next) other) ts (Q ts)
  called_or name F Q next other ts h each b = asks (here (is_called name)) (take next) other ts (Q ts) (λ e. takes_called name F Q next ts e h each) b

  -- a word must come behind what is known
  pub expects : (w : Lexeme) (F : List Placed → Type 0) (Q : Outcome Placed Found → Type 0) (next : Step) (ts : List Placed) → Q (Refused ts) → F ts → ((q : ℕ) (l : List Placed) → length ts ≡ suc (length l) → F (placed w q ∷ l) → Shows next l Q) → Shows (expect w next) ts Q
  expects w F Q next ts refused h each = word_or w F (λ l. Q) (λ t. next) fail ts h each (λ e. fails ts Q refused)

  pub names_next : (F : List Placed → Type 0) (Q : Outcome Placed Found → Type 0) (next : Placed → Step) (ts : List Placed) → Q (Refused ts) → F ts → ((text : List ℕ) (q : ℕ) (l : List Placed) → length ts ≡ suc (length l) → F (placed (Lexeme.Name text) q ∷ l) → Shows (next (placed (Lexeme.Name text) q)) l Q) → Shows (named next) ts Q
  names_next F Q next ts refused h each = name_or F (λ l. Q) next fail ts h each (λ e. fails ts Q refused)

  -- a part of the language is read, in a rule whose facts are Q
  pub reads_part : (p : Part) (ts : List Placed) (next : Tree → Step) (Q : Outcome Placed Found → Type 0) → ((left : List Placed) → Q (Refused left)) → ((left : List Placed) → m + length left ≤ length ts → 0 < length left → Q (TooHigh left)) → ((x : Tree) (left : List Placed) → Spells p ts left x → height x ≤ m → takes p + length left ≤ length ts → Shows (next x) left Q) → Shows (part p next) ts Q
  reads_part p ts next Q refused high each = record { it = (tt, λ y left h. (each (tree_in y) left h.spelled h.low (costs h.spelled).taken).it, λ left h. refused left, λ left h. high left h.far h.at_token) }

  -- a rule reads a part
  pub reads_own : {X : Type 0} (R : List Placed → List Placed → X → ℕ → Type 0) (view : Found → X) (n : ℕ) (r : Own) (b ts : List Placed) (next : Found → Step) (Q : Outcome Placed Found → Type 0) → size r ts < s → ((o : Outcome Placed Found) → Keeps m (own r) ts o → Meets R view n m b o) → ((left : List Placed) → Q (Refused left)) → ((left : List Placed) → m + length left ≤ length b → 0 < length left → Q (TooHigh left)) → ((y : Found) (left : List Placed) (h : ℕ) → R b left (view y) h → h ≤ m → n + length left ≤ length b → Shows (next y) left Q) → Shows (invoke (own r) next) ts Q
  reads_own R view n r b ts next Q less turn refused high each = record { it = (less, λ y left h. let k : IsRead R n m b left (view y) = turn (Gave y left) h in (each y left k.high k.spelled k.low k.taken).it, λ left h. refused left, λ left h. let f : IsFar m b left = turn (TooHigh left) h in high left f.far f.at_token) }

  -- the same in a rule that reads a part of its own, from a on
  pub with_part : {T : Type 0} (K : List Placed → List Placed → T → ℕ → Type 0) (w : Found → T) (k : ℕ) (p : Part) (a ts : List Placed) (next : Tree → Step) → length ts ≤ length a → ((x : Tree) (left : List Placed) → Spells p ts left x → height x ≤ m → takes p + length left ≤ length ts → Shows (next x) left (Meets K w k m a)) → Shows (part p next) ts (Meets K w k m a)
  with_part K w k p a ts next inside each = reads_part p ts next (Meets K w k m a) (λ left. tt) (λ left far there. record { far = omega arith; at_token = there }) each

  pub with_own : {X T : Type 0} (K : List Placed → List Placed → T → ℕ → Type 0) (w : Found → T) (k : ℕ) (R : List Placed → List Placed → X → ℕ → Type 0) (view : Found → X) (n : ℕ) (r : Own) (a ts : List Placed) (next : Found → Step) → size r ts < s → length ts ≤ length a → ((o : Outcome Placed Found) → Keeps m (own r) ts o → Meets R view n m ts o) → ((y : Found) (left : List Placed) (h : ℕ) → R ts left (view y) h → h ≤ m → n + length left ≤ length ts → Shows (next y) left (Meets K w k m a)) → Shows (invoke (own r) next) ts (Meets K w k m a)
  with_own K w k R view n r a ts next less inside turn each = reads_own R view n r ts ts next (Meets K w k m a) less turn (λ left. tt) (λ left far there. record { far = omega arith; at_token = there }) each
