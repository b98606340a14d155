use Rattle.std.proofs.Common.{◌≡◌, map, drop}
use Rattle.cal_model.specs.Rates.{taken_on}
use Rattle.cal_model.specs.Sound.{AreRepeated, repeat_in}
use Rattle.cal_model.specs.View.{pattern_view}
use Rattle.cal_model.proofs.rates.taken_on.Given as goal

abbrev pub invariant-loop-pattern : goal.invariant-loop-pattern
invariant-loop-pattern l =
    (taken_on l.port (map pattern_view (drop l.pattern-index l.patterns)) ≡ taken_on l.port (map pattern_view l.patterns))
    × AreRepeated repeat_in (map pattern_view (drop l.pattern-index l.patterns))
