-- The bytes and the tokens that are still to come on a feed.
-- Trusted: part of what a promise means.
use Rattle.std.specs.Prelude.{◌≡◌, ℕ, ◌<◌, Bool, true, ◌&&◌, not, List, [], ◌∷◌, ◌++◌, ℤ, Option, None, Some, length, nat_lt}
use Rattle.rvc_io.specs.Feeds.{Inputs}
use Rattle.rvc_base.specs.declared.scalar.Scalar.{Scalar}
use Rattle.net_model.specs.PortFile.{tokens, rest_of, token_bytes}

-- the type of the tokens, the bytes that were pulled and aren't part of a token that was given, and
-- whether the feed's end was seen
pub record Reading : Type 0 where
  pub kind : Scalar
  pub pulled : List ℕ
  pub ended : Bool

-- the bytes still to come, as far as that is told: those that were pulled and those that are left
abbrev pub coming : List ℕ → Option (List ℕ) → Option (List ℕ)
coming pulled None = None
coming pulled (Some left) = Some (pulled ++ left)

-- the bytes still to come on a feed, of which so many were pulled
abbrev pub coming_on : List ℕ → Inputs → ℕ → Option (List ℕ)
coming_on pulled feeds feed = coming pulled (feeds.left feed)

-- they stayed the same
abbrev pub KeepsComing : {S : Type 0} → (S → Inputs) → S → S → ℕ → (pulled_old pulled_new : List ℕ)
    → Type 0
KeepsComing feeds old new feed pulled_old pulled_new =
    coming_on pulled_new (feeds new) feed ≡ coming_on pulled_old (feeds old) feed

-- nothing is left, as far as that is told
abbrev pub NothingLeft : Option (List ℕ) → Type 0
NothingLeft None = Unit {0}
NothingLeft (Some left) = left ≡ []

-- if the end was seen, nothing is left
abbrev pub EndIsTrue : Reading → Option (List ℕ) → Type 0
EndIsTrue r left = r.ended ≡ true → NothingLeft left

-- neither a token's bytes nor the end were seen
abbrev pub is_short : Reading → Bool
is_short r = not r.ended && nat_lt (length r.pulled) (token_bytes r.kind)

-- of what was to come the first token was given
abbrev pub GivesToken : Scalar → ℤ → Option (List ℕ) → Option (List ℕ) → Type 0
GivesToken kind v None after = after ≡ None
GivesToken kind v (Some before) None = ⊥
GivesToken kind v (Some before) (Some after) =
    (tokens kind before ≡ v ∷ tokens kind after) × (rest_of kind after ≡ rest_of kind before)

-- no token is to come, and so many bytes are
abbrev pub EndsWith : Scalar → ℕ → Option (List ℕ) → Type 0
EndsWith kind rest None = rest < token_bytes kind
EndsWith kind rest (Some before) = (tokens kind before ≡ []) × (rest ≡ length before)
    × (rest ≡ rest_of kind before)
