-- What a channel holds once a text was written to it, of which a part may be buffered.
-- Trusted: part of what a promise means.
use Rattle.std.specs.Prelude.{◌≡◌, ℕ, true, List, ◌++◌}
use Rattle.rvc_io.specs.Channels.{Channels}

-- the channel got a prefix of the text
pub record HoldsFront (old new text : List ℕ) : Type 0 where
  pub put : List ℕ
  pub left : List ℕ
  pub new_is : new ≡ old ++ put
  pub text_is : text ≡ put ++ left

-- The channel got a prefix of what was buffered and of the text behind it; what is left of them is buffered now.
pub record Writes (held pending held_new pending_new text : List ℕ) : Type 0 where
  pub put : List ℕ
  pub new_is : held_new ≡ held ++ put
  pub text_is : pending ++ text ≡ put ++ pending_new

-- the same of a channel, as far as its bytes are told
abbrev pub AppendsFront : ℕ → Channels → Channels → List ℕ → Type 0
AppendsFront channel old new text = old.tells ≡ true
    → HoldsFront (old.held channel) (new.held channel) text

abbrev pub WritesOn : ℕ → Channels → Channels → (pending pending_new text : List ℕ) → Type 0
WritesOn channel old new pending pending_new text =
    old.tells ≡ true → Writes (old.held channel) pending (new.held channel) pending_new text
