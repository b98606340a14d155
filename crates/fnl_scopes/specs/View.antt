-- What an expression of a network sees, without where it lies in memory.
-- Not trusted: no promise is read with it.
use Rattle.std.specs.Prelude.{ℕ, List, [], ◌++◌, map, Option, None, Some}
use Rattle.std.specs.Borrow.{Bor}
use Rattle.cal_ast.specs.Tree.{Tree, listed}
use Rattle.cal_ast.specs.View.{gen_tree}
use Rattle.cal_ast.specs.declared.expr.Gen.{Gen}
use Rattle.fnl_bind.specs.Scopes.{inside_gens}
use Rattle.fnl_scopes.specs.declared.frames.Frame.{Frame}
use Rattle.fnl_scopes.specs.declared.frames.Frame.TheOpen.{Frame-F}
use Rattle.fnl_scopes.specs.declared.frames.Frame.TheFolds.{fold-Frame}
use Rattle.fnl_scopes.specs.declared.frames.Inside.{Inside}

abbrev pub gens_tree : List Gen → Tree
gens_tree gens = listed (map gen_tree gens)

-- the names of generators alone
abbrev pub counters : List Gen → List (List ℕ)
counters gens = inside_gens (gens_tree gens) []

abbrev pub outer_counters : Option (Bor (List (List ℕ))) → List (List ℕ)
outer_counters None = []
outer_counters (Some names) = names.now

abbrev pub frame_step : Frame-F (List (List ℕ)) → List (List ℕ)
frame_step x = counters x.gens.now ++ outer_counters x.outer

-- the names of generators and of those outside them
abbrev pub frame_names : Frame → List (List ℕ)
frame_names = fold-Frame (List (List ℕ)) frame_step

abbrev pub local_names : Option (Bor Frame) → List (List ℕ)
local_names None = []
local_names (Some x) = frame_names x.now

abbrev pub names_seen : Inside → List (List ℕ)
names_seen names = local_names names.frame ++ names.declared.now
