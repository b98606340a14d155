use Rattle.std.proofs.Common.{◌++◌, ◌∙◌, ap, sym, subst, true}
use Rattle.std.specs.Prelude.{slice_get}
use Rattle.trace_text.specs.Text.{line_feed}
use Rattle.trace_replay.specs.Scanning.{IsFrontOf, Tells}
use Rattle.trace_replay.proofs.Scanned.{tells_more}
use Rattle.trace_replay.proofs.scan.still_expected.Goals as goal

pub returns-then-same : goal.returns-then-same
returns-then-same c = λ text count front.
    let expected = c.args.front.now ++ c.args.name.now ++ line_feed in
    tells_more true c.is_expected.result expected text c.args.byte (subst (λ b. Tells b (IsFrontOf expected text)) c.if-same.true front)
    (λ e. ap (slice_get expected) count ∙ c.is_expected.ensures.yes e) (λ e. c.is_expected.ensures.no (ap (slice_get expected) (sym count) ∙ e))
