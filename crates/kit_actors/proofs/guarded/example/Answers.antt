use Rattle.std.proofs.Common.{sym, subst}
use Rattle.cal_ast.specs.View.{expr_tree}
use Rattle.cal_model.specs.Sound.{IsSound}
use Rattle.kit_actors.proofs.Sorted.{is_guard}
use Rattle.kit_actors.proofs.SoundExamples.{example_is_sound}
use Rattle.kit_actors.proofs.guarded.example.Goals as goal

pub returns-clause-sound : goal.returns-clause-sound
returns-clause-sound c =
    subst (λ a. IsSound a) (sym c.in_ok-actor.ensures)
    (example_is_sound c.args.one (expr_tree c.args.guard) c.args.two (expr_tree c.args.other) c.args.ranked
    (is_guard (expr_tree c.args.guard) c.args.one c.requires.guard) (is_guard (expr_tree c.args.other) c.args.two c.requires.other))
