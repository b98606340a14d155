-- What is put on the channel of the report, which is channel 0.
-- Trusted: part of what a promise means.
use Rattle.std.specs.Prelude.{List, ℕ}
use Rattle.std.specs.declared.result.Result.{Result}
use Rattle.std.specs.declared.result.Result.TheVariants.{Ok, Err}
use Rattle.channel_writer.specs.Held.{AppendsFront}
use Rattle.rvc_io.specs.Channels.{Appends, Channels, WritesOnlyAt}
use Rattle.rvc_io.specs.Count.{HasRisen}
use Rattle.rvc_io.specs.declared.Failed.{Failed}

-- the channel got this text behind what it held, and no other was written or opened
pub record GetsText (text : List ℕ) (old new : Channels) : Type 0 where
  pub whole : Appends 0 old new text
  pub alone : WritesOnlyAt 0 old new

-- A put failed, which was counted: the channel got a prefix of this text, and no other was written or opened.
pub record GetsLess (text : List ℕ) (old new : Channels) : Type 0 where
  pub counted : HasRisen old.faults new.faults
  pub front : AppendsFront 0 old new text
  pub alone : WritesOnlyAt 0 old new

-- the text was put, or a put failed
abbrev pub Puts : Result (Unit {0}) Failed → (text : List ℕ) → (old new : Channels) → Type 0
Puts (Ok done) text old new = GetsText text old new
Puts (Err failed) text old new = GetsLess text old new
