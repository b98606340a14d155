use Rattle.std.proofs.Common.{◌≡◌, map, drop}
use Rattle.cal_model.specs.Rates.{given_on}
use Rattle.cal_model.specs.Sound.{AreRepeated, repeat_out}
use Rattle.cal_model.specs.View.{output_view}
use Rattle.cal_model.proofs.rates.given_on.Given as goal

abbrev pub invariant-loop-output : goal.invariant-loop-output
invariant-loop-output l =
    (given_on l.port (map output_view (drop l.output-index l.outputs)) ≡ given_on l.port (map output_view l.outputs))
    × AreRepeated repeat_out (map output_view (drop l.output-index l.outputs))
