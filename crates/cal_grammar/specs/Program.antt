-- Programs that read a list of tokens from its front, look at most one token ahead, and build a tree.
--
-- A rule is a name for a program. Each program runs with a room: a number that bounds the height of what it builds.
-- Trusted for `ahead` alone: part of what a promise means.
use Rattle.std.specs.Prelude.{ℕ, zero, suc, ◌-◌, Bool, true, false, List, [], ◌∷◌, Option, None, Some, nat_le}

-- What a program does. It fails, or finds what is too high, where it stands: at the first token that is left, or at the end.
pub data Program (Token Tree Rule : Type 0) : Type 0 where
  -- the tree is built
  give : Tree → Program Token Tree Rule
  -- what stands here can't follow
  fail : Program Token Tree Rule
  -- a question on what stands here, and how to go on if it is answered by yes, by no
  ask : (Option Token → Bool) → Program Token Tree Rule → Program Token Tree Rule
      → Program Token Tree Rule
  -- the token that stands here is taken
  take : (Token → Program Token Tree Rule) → Program Token Tree Rule
  -- what has this height must fit the room
  check : ℕ → Program Token Tree Rule → Program Token Tree Rule
  -- the rest is a rule's
  jump : Rule → Program Token Tree Rule
  -- a rule reads a part, with the same room
  invoke : Rule → (Tree → Program Token Tree Rule) → Program Token Tree Rule
  -- a rule reads a part that stands inside, with one room less
  enter : Rule → (Tree → Program Token Tree Rule) → Program Token Tree Rule

-- What comes of it, with the tokens that are left there.
pub data Outcome (Token Tree : Type 0) : Type 0 where
  Gave : Tree → List Token → Outcome Token Tree
  Refused : List Token → Outcome Token Tree
  TooHigh : List Token → Outcome Token Tree
  -- the bound on the calls was too small to tell
  Spent : Outcome Token Tree

-- what stands at the front
abbrev pub ahead : {Token : Type 0} → List Token → Option Token
ahead [] = None
ahead (t ∷ ts) = Some t

-- how it goes on after a part
abbrev pub after : {Token Tree : Type 0} → Outcome Token Tree
    → (Tree → List Token → Outcome Token Tree) → Outcome Token Tree
after (Gave x left) next = next x left
after (Refused left) next = Refused left
after (TooHigh left) next = TooHigh left
after Spent next = Spent

-- what a program does in a room, if f tells what each rule does
abbrev pub exec : {Token Tree Rule : Type 0} → (ℕ → Rule → List Token → Outcome Token Tree) → ℕ
    → Program Token Tree Rule → List Token → Outcome Token Tree
exec f m (give x) ts = Gave x ts
exec f m fail ts = Refused ts
exec f m (ask q p other) ts =
    elim (q (ahead ts)) [ true ↦ exec f m p ts | false ↦ exec f m other ts ]
exec f m (take next) [] = Refused []
exec f m (take next) (t ∷ ts) = exec f m (next t) ts
exec f m (check h p) ts = elim (nat_le h m) [ true ↦ exec f m p ts | false ↦ TooHigh ts ]
exec f m (jump r) ts = f m r ts
exec f m (invoke r next) ts = after (f m r ts) (λ x left. exec f m (next x) left)
exec f m (enter r next) ts = after (f (m - 1) r ts) (λ x left. exec f m (next x) left)

-- what a rule does, with a bound on how deep the calls go
abbrev pub go : {Token Tree Rule : Type 0} → (Rule → Program Token Tree Rule) → ℕ → ℕ → Rule
    → List Token → Outcome Token Tree
go body zero m r ts = Spent
go body (suc n) m r ts = exec (go body n) m (body r) ts

-- what a rule does, if `size` bounds the depth of its calls
unfoldable pub read : {Token Tree Rule : Type 0} → (Rule → Program Token Tree Rule)
    → (Rule → List Token → ℕ) → ℕ → Rule → List Token → Outcome Token Tree
read body size m r ts = go body (suc (size r ts)) m r ts
