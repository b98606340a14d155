-- Guards of which none breaks a rule.
use Rattle.std.proofs.Common.{◌≡◌, []}
use Rattle.cal_ast.specs.Tree as tree
use Rattle.cal_ast.specs.Tree.{Tree}
use Rattle.cal_model.specs.Value.{BoolKind}
use Rattle.cal_model.specs.Kinding.{Names}
use Rattle.cal_model.specs.Sound.{Each}
use Rattle.cal_check.specs.Violations.{broken, all_broken}
use Rattle.cal_check.specs.Actions.{each_guard, guards_written}
use Rattle.cal_check.specs.Statements.{test_judged}
use Rattle.cal_check.specs.Laws.{ConstantsFit, IsGuard}
use Rattle.cal_check.proofs.Fine.{none-of}
use Rattle.cal_check.proofs.SoundStatements.{of-kind}

pub are-guards : (guards : Tree) (names : Names) → ConstantsFit names → all_broken (each_guard guards names) ≡ [] → Each (IsGuard names) (guards_written guards names)
are-guards (tree.cons e es) names fit h =
    let p = none-of (broken (test_judged e names)) (all_broken (each_guard es names)) h in
    let g = of-kind BoolKind e names fit p.0 in
    ((g.same, g.bare), are-guards es names fit p.1)
are-guards other names fit h = tt
