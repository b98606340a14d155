-- A run to its end has few rounds.
use Rattle.std.proofs.Common.{◌≡◌, ℕ, ◌+◌, ◌*◌, ◌≤◌, List, [], ◌∷◌, ◌++◌, length, arith}
use Rattle.rvc_io.specs.Channels.{Channels}
use Rattle.trace_text.specs.declared.line.Line.{Line}
use Rattle.net_model.specs.declared.wiring.Counts.{Counts}
use Rattle.net_model.specs.Counted.{deliveries_in}
use Rattle.net_model.specs.Laws.{firings_shown}
use Rattle.law_rounds.specs.Bounds.{PacedRoundsAreFew, growths_in}
use Rattle.cmd_run_network.specs.Leaving.{HasEnded, Setting}

pub few_rounds : {X : Type 0} (run : Setting X) → PacedRoundsAreFew X → (end : Line) (counts : Counts) (channels : Channels) (ended : HasEnded run end counts channels)
    → counts.rounds ≤ 2 * counts.firings + growths_in (ended.before ++ end ∷ []) + 2
few_rounds run law end counts channels ended =
    let bound : deliveries_in (ended.before ++ end ∷ []) ≤ 2 * length (firings_shown (ended.before ++ end ∷ [])) + growths_in (ended.before ++ end ∷ []) + 2
    = law run.net run.pace run.start (ended.before ++ end ∷ []) ended.last ended.paced in
    let rounds = ended.counted.rounds in
    let firings = ended.counted.firings in
    omega (arith, bound, rounds, firings)
