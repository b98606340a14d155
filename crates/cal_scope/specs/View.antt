-- What is seen, without where it lies in memory.
-- Trusted: part of what a promise means.
use Rattle.std.specs.Prelude.{ℕ, List, [], ◌++◌, Option, None, Some}
use Rattle.std.specs.Borrow.{Bor}
use Rattle.cal_scope.specs.Names.{Names, within}
use Rattle.cal_scope.specs.declared.frames.Frame.{Frame}
use Rattle.cal_scope.specs.declared.frames.Frame.TheOpen.{Frame-F}
use Rattle.cal_scope.specs.declared.frames.Frame.TheFolds.{fold-Frame}
use Rattle.cal_scope.specs.declared.frames.Inside.{Inside}

abbrev pub outer_names : Option (Bor (List (List ℕ))) → List (List ℕ)
outer_names None = []
outer_names (Some names) = names.now

abbrev pub frame_step : Frame-F (List (List ℕ)) → List (List ℕ)
frame_step x = x.names.now ++ outer_names x.outer

-- the names of a scope and of those outside it
abbrev pub frame_names : Frame → List (List ℕ)
frame_names = fold-Frame (List (List ℕ)) frame_step

abbrev pub local_names : Option (Bor Frame) → List (List ℕ)
local_names None = []
local_names (Some x) = frame_names x.now

abbrev pub names_view : Inside → Names
names_view n = record { locals = local_names n.frame; globals = n.file.now }

-- what is seen inside one scope more, of these names
abbrev pub seen_in : List (List ℕ) → Inside → Names
seen_in here n = within here (names_view n)
