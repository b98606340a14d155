use Rattle.std.proofs.Common.{◌≡◌, ◌+◌, ◌≤◌, ℕ, false, List, length, map}
use Rattle.rvc_io.specs.Channels.{Channels}
use Rattle.rvc_io.specs.Past.{Done}
use Rattle.rvc_words.specs.Words.{port_text}
use Rattle.cmd_ports.specs.Matching.{names_of}
use Rattle.cmd_ports.specs.Opening.{Opening, outputs_from}
use Rattle.cmd_ports.specs.Steps.{ChannelsSoFar, NotedSoFar}
use Rattle.cmd_ports.proofs.channels.open_outputs.Given as goal

abbrev pub invariant-outs : goal.invariant-outs
invariant-outs g l = (l.number + length l.rest ≡ 2 + length l.initial.rest)
    × ((n : ℕ) → l.number ≤ n → (g.D.Drains.channels l.drains).is_open n ≡ false)
    × ((all : List Opening) (start : Channels)
    → ChannelsSoFar all (outputs_from 2 (names_of l.initial.rest) (map port_text l.words)) 2 start (g.D.Drains.channels l.initial.drains)
    → ChannelsSoFar all (outputs_from l.number (names_of l.rest) (map port_text l.words)) l.number start (g.D.Drains.channels l.drains))
    × ((all : List Opening) (past : List Done)
    → NotedSoFar all (outputs_from 2 (names_of l.initial.rest) (map port_text l.words)) past (g.D.Drains.past l.initial.drains)
    → NotedSoFar all (outputs_from l.number (names_of l.rest) (map port_text l.words)) past (g.D.Drains.past l.drains))

abbrev pub decreases-outs : goal.decreases-outs
decreases-outs g l = length l.rest
