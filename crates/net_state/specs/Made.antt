-- What comes of bursts: how many firings were made, and the lowest cells that trapped or lack room.
-- Trusted: part of what a promise means.
use Rattle.std.specs.Prelude.{ℕ, ◌+◌, Option, None, Some}
use Rattle.rvc_base.specs.declared.ids.InstId.{InstId}
use Rattle.net_model.specs.declared.firing.BurstEnd.{BurstEnd}
use Rattle.net_model.specs.declared.firing.BurstEnd.TheVariants as burst
use Rattle.net_state.specs.declared.made.Bursts.{Bursts}
use Rattle.net_state.specs.declared.made.Lacking.{Lacking}
use Rattle.net_state.specs.declared.made.Trapped.{Trapped}

-- the trap by which a burst ended, if it did
abbrev pub trapped_by : InstId → BurstEnd → Option Trapped
trapped_by inst burst.Spent = None
trapped_by inst burst.Waits = None
trapped_by inst (burst.NoRoom action port) = None
trapped_by inst (burst.Trap action trap) =
    Some (record { inst = inst; action = action; trap = trap })

-- the action by whose lack of room a burst ended, if it did
abbrev pub lacking_by : InstId → BurstEnd → Option Lacking
lacking_by inst burst.Spent = None
lacking_by inst burst.Waits = None
lacking_by inst (burst.NoRoom action port) = Some (record { inst = inst; action = action })
lacking_by inst (burst.Trap action trap) = None

-- the first of two, if there is one
abbrev pub first_of : {A : Type 0} → Option A → Option A → Option A
first_of None second = second
first_of (Some first) second = Some first

-- what comes of no burst
abbrev pub none_made : Bursts
none_made = record { fired = 0; trap = None; lacks = None }

-- what came of the burst of one cell, which made so many firings
abbrev pub made_by : InstId → ℕ → BurstEnd → Bursts
made_by inst count end =
    record { fired = count; trap = trapped_by inst end; lacks = lacking_by inst end }

-- what came of bursts and of those of higher cells together
abbrev pub joined : Bursts → Bursts → Bursts
joined low high =
    record {
      fired = low.fired + high.fired;
      trap = first_of low.trap high.trap;
      lacks = first_of low.lacks high.lacks;
    }
