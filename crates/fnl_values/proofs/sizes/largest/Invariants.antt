use Rattle.std.proofs.Common.{◌≡◌, map, length}
use Rattle.cal_check.specs.Violations.{all_broken, all_fine}
use Rattle.const_env.specs.Held.{names_in}
use Rattle.fnl_bind.specs.Values.{sizes_judged}
use Rattle.fnl_frames.specs.Views.{size_of}
use Rattle.fnl_values.proofs.Parts.{IsLargestBehind}
use Rattle.fnl_values.proofs.sizes.largest.Given as goal

abbrev pub invariant-sizes : goal.invariant-sizes
invariant-sizes l = record {
  broken : all_broken (sizes_judged (map size_of l.rest) (names_in l.env)) ≡ all_broken (sizes_judged (map size_of l.initial.rest) (names_in l.env));
  largest : IsLargestBehind l.found (all_fine (sizes_judged (map size_of l.rest) (names_in l.env))) (all_fine (sizes_judged (map size_of l.initial.rest) (names_in l.env)));
}

abbrev pub decreases-sizes : goal.decreases-sizes
decreases-sizes l = length l.rest
