use Rattle.std.proofs.Common.{◌≡◌, ◌+◌, ◌≤◌, ℕ, false, List, length, map}
use Rattle.rvc_io.specs.Feeds.{Inputs}
use Rattle.rvc_io.specs.Past.{Done}
use Rattle.rvc_words.specs.Words.{port_text}
use Rattle.cmd_ports.specs.Matching.{names_of}
use Rattle.cmd_ports.specs.Opening.{Opening, feeds_from, feeds_of}
use Rattle.cmd_ports.specs.Steps.{FeedsSoFar, NotedSoFar}
use Rattle.cmd_ports.proofs.feeds.open_inputs.Given as goal

abbrev pub invariant-links : goal.invariant-links
invariant-links g l = (l.number + length l.rest ≤ 1 + length l.initial.rest)
    × (1 ≤ l.number)
    × ((n : ℕ) → l.number ≤ n → n ≤ length l.initial.rest → (g.F.Feeds.feeds l.feeds).is_open n ≡ false)
    × ((all : List Opening) (start : Inputs)
    → FeedsSoFar all (feeds_of l.initial.rest (names_of l.ins) (map port_text l.words)) 1 start (g.F.Feeds.feeds l.initial.feeds)
    → FeedsSoFar all (feeds_from l.number l.rest (names_of l.ins) (map port_text l.words)) l.number start (g.F.Feeds.feeds l.feeds))
    × ((all : List Opening) (past : List Done)
    → NotedSoFar all (feeds_of l.initial.rest (names_of l.ins) (map port_text l.words)) past (g.F.Feeds.past l.initial.feeds)
    → NotedSoFar all (feeds_from l.number l.rest (names_of l.ins) (map port_text l.words)) past (g.F.Feeds.past l.feeds))

abbrev pub decreases-links : goal.decreases-links
decreases-links g l = length l.rest
