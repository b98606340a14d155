use Rattle.std.proofs.Common.{◌+◌, ◌-◌}
use Rattle.kit_runs.proofs.Opened.{no_channel_open}
use Rattle.kit_runs.proofs.outside.channels_from_one.Goals as goal

pub open_channels-requires-clause-closed : goal.open_channels-requires-clause-closed
open_channels-requires-clause-closed c = no_channel_open c.in_ok-drains.drains (c.args.count + 1 - 1) c.in_ok-drains.ensures.first_open
