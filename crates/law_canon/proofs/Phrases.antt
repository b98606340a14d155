-- Phrases: words and parts in their order, and the tokens that spell them.
use Rattle.std.proofs.Common.{◌≡◌, ℕ, List, [], ◌∷◌, ◌++◌}
use Rattle.cal_ast.specs.Tree.{Tree}
use Rattle.cal_ast.specs.Apart.{unplaced}
use Rattle.cal_lexer.specs.Lexeme.{Lexeme, Placed, placed}
use Rattle.cal_grammar.specs.Spells.{Mark, comma, dot, greater, mark, Part, Spells}
use Rattle.law_canon.specs.Printable.{IsPrintable, ArePrintable, kinds}

-- the tokens of a up to those of b are of these kinds
pub data Front : List Lexeme → List Placed → List Placed → Type 0 where
  here : {b : List Placed} → Front [] b b
  goes_on : {w : Lexeme} {q : ℕ} {ws : List Lexeme} {a b : List Placed} → Front ws a b → Front (w ∷ ws) (placed w q ∷ a) b

pub record IsSplit (ws vs : List Lexeme) (a c : List Placed) : Type 0 where
  pub middle : List Placed
  pub before : Front ws a middle
  pub behind : Front vs middle c

pub split : (ws vs : List Lexeme) (a c : List Placed) → Front (ws ++ vs) a c → IsSplit ws vs a c
split [] vs a c f = record { middle = a; before = here; behind = f }
split (w ∷ ws) vs _ c (goes_on {a = a} f) = let r : IsSplit ws vs a c = split ws vs a c f in record { middle = r.middle; before = goes_on r.before; behind = r.behind }

-- all tokens of a list
pub all_of : (us : List Placed) → Front (kinds us) us []
all_of [] = here
all_of (placed w q ∷ us) = goes_on (all_of us)

-- a tree that is this one, ignoring offsets, is spelled there
pub record IsBack (p : Part) (a b : List Placed) (y : Tree) : Type 0 where
  pub tree : Tree
  pub spelled : Spells p a b tree
  pub same : unplaced tree ≡ y

pub back : {p : Part} {a b : List Placed} {x y : Tree} → Spells p a b x → unplaced x ≡ y → IsBack p a b y
back {x = x} h e = record { tree = x; spelled = h; same = e }

-- wherever these words stand, they spell this tree, ignoring offsets; and a text can have them
pub record Respells (p : Part) (ws : List Lexeme) (y : Tree) : Type 0 where
  pub gives : (a b : List Placed) → Front ws a b → IsBack p a b y
  pub printable : ArePrintable ws

pub data Phrase : Type 0 where
  done : Phrase
  word : Lexeme → Phrase → Phrase
  part : Part → List Lexeme → Tree → Phrase → Phrase
  last : Part → List Lexeme → Tree → Phrase

abbrev pub words_of : Phrase → List Lexeme
words_of done = []
words_of (word w f) = w ∷ words_of f
words_of (part p ws y f) = ws ++ words_of f
words_of (last p ws y) = ws

abbrev pub Respell : Phrase → Type 0
Respell done = Unit {0}
Respell (word w f) = IsPrintable w × Respell f
Respell (part p ws y f) = Respells p ws y × Respell f
Respell (last p ws y) = Respells p ws y

-- the tokens of a up to those of b spell a phrase
pub data Reads : Phrase → List Placed → List Placed → Type 0 where
  at_end : {b : List Placed} → Reads done b b
  a_word : {w : Lexeme} {q : ℕ} {f : Phrase} {a b : List Placed} → Reads f a b → Reads (word w f) (placed w q ∷ a) b
  a_part : {p : Part} {ws : List Lexeme} {x y : Tree} {f : Phrase} {a b c : List Placed} → Spells p a b x → unplaced x ≡ y → Reads f b c → Reads (part p ws y f) a c
  at_last : {p : Part} {ws : List Lexeme} {x y : Tree} {a b : List Placed} → Spells p a b x → unplaced x ≡ y → Reads (last p ws y) a b

reads : (f : Phrase) → Respell f → (a b : List Placed) → Front (words_of f) a b → Reads f a b
reads done h _ b here = at_end
reads (word w f) h _ b (goes_on {a = a} t) = a_word (reads f h.1 a b t)
reads (part p ws y f) h a c t =
    let r : IsSplit ws (words_of f) a c = split ws (words_of f) a c t in
    let s : IsBack p a r.middle y = h.0.gives a r.middle r.before in
    a_part s.spelled s.same (reads f h.1 r.middle c r.behind)
reads (last p ws y) h a b t = let s : IsBack p a b y = h.gives a b t in at_last s.spelled s.same

-- words that a text can have

pub both_printable : (ws vs : List Lexeme) → ArePrintable ws → ArePrintable vs → ArePrintable (ws ++ vs)
both_printable [] vs h i = i
both_printable (w ∷ ws) vs h i = (h.0, both_printable ws vs h.1 i)

pub mark_printable : (v : Mark) → IsPrintable (mark v)
mark_printable comma = tt
mark_printable dot = tt
mark_printable greater = tt

printables : (f : Phrase) → Respell f → ArePrintable (words_of f)
printables done h = tt
printables (word w f) h = (h.0, printables f h.1)
printables (part p ws y f) h = both_printable ws (words_of f) h.0.printable (printables f h.1)
printables (last p ws y) h = h.printable

-- if the parts of a phrase are spelled by their words, the whole is
pub respells : {f : Phrase} {p : Part} {y : Tree} → Respell f → ((a b : List Placed) → Reads f a b → IsBack p a b y) → Respells p (words_of f) y
respells {f = f} h go = record { gives = λ a b t. go a b (reads f h a b t); printable = printables f h }
