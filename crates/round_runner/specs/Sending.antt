-- What goes out to the outputs of a network: the bytes of the tokens that were sent on a link.
-- Trusted: part of what a promise means.
use Rattle.std.specs.Prelude.{ℕ, List, ◌++◌, ℤ, map, flat_map, slice_get, Result, OnOk, OnErr}
use Rattle.rvc_base.specs.declared.scalar.Scalar.{Scalar}
use Rattle.rvc_base.specs.Storing.{conv}
use Rattle.rvc_io.specs.Channels.{Channels}
use Rattle.channel_writer.specs.Held.{AppendsFront, WritesOn}
use Rattle.net_model.specs.Cell.{Cell}
use Rattle.net_model.specs.PortFile.{encoded}
use Rattle.net_state.specs.Held.{Held}
use Rattle.net_state.specs.Moving.{carried_on}

-- the bytes of a token that is stored in a port's type, and of several
abbrev pub stored : Scalar → ℤ → List ℕ
stored kind token = encoded kind (conv kind token)

abbrev pub stored_bytes : Scalar → List ℤ → List ℕ
stored_bytes kind tokens = flat_map (stored kind) tokens

module _ {C X : Type 0} (cell : C → Cell X) where
  -- what was sent on link l and hasn't left
  abbrev pub outgoing : Held C → ℕ → List ℤ
  outgoing held l = carried_on (map cell held.cells) (slice_get held.links l)

  module _ {S A E : Type 0} (held : Held C) (l : ℕ) (kind : Scalar) (channels : S → Channels)
      (channel : ℕ) (old new : S) where
    -- if all went well its bytes were written
    abbrev pub SentOn : List ℕ → List ℕ → Result A E → Type 0
    SentOn pending pending_new result = OnOk result (WritesOn channel (channels old) (channels new)
        pending pending_new (stored_bytes kind (outgoing held l)))

    -- else the channel got a prefix of them
    abbrev pub FrontOn : List ℕ → Result A E → Type 0
    FrontOn pending result = OnErr result (AppendsFront channel (channels old) (channels new)
        (pending ++ stored_bytes kind (outgoing held l)))
