-- Rates: how many tokens an action takes from a port, and gives on one (CAL Language Report, input patterns and
-- output expressions).
-- Trusted: part of what a promise means.
use Rattle.std.specs.Prelude.{ℕ, suc, ◌*◌, List, [], ◌∷◌, length, ◌==◌, if◌then◌else◌, Option, None, Some, slice_get}
use Rattle.cal_ast.specs.Tree.{Tree, cons}
use Rattle.cal_model.specs.Actor.{Pattern, Output, Actor}

-- how often a pattern or an output is repeated
abbrev pub times : Option ℕ → ℕ
times None = 1
times (Some n) = n

-- so many parts, repeated
abbrev pub parts_times : ℕ → Option ℕ → ℕ
parts_times n repeat = n * times repeat

-- how many parts a list has
abbrev pub parts : Tree → ℕ
parts (cons t ts) = suc (parts ts)
parts other = 0

abbrev pub taken_on : ℕ → List Pattern → ℕ
taken_on port [] = 0
taken_on port (q ∷ qs) = if q.port == port then parts_times (length q.names) q.repeat
    else taken_on port qs

abbrev pub given_on : ℕ → List Output → ℕ
given_on port [] = 0
given_on port (o ∷ os) = if o.port == port then parts_times (parts o.values) o.repeat
    else given_on port os

abbrev pub need : Actor → ℕ → ℕ → ℕ
need actor a port =
    elim (slice_get actor.actions a) [ None ↦ 0 | Some act ↦ taken_on port act.patterns ]

abbrev pub give : Actor → ℕ → ℕ → ℕ
give actor a port =
    elim (slice_get actor.actions a) [ None ↦ 0 | Some act ↦ given_on port act.outputs ]
