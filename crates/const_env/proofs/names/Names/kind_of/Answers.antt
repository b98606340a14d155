use Rattle.std.proofs.Common.{sym, ap, ◌∙◌}
use Rattle.cal_model.specs.Kinding.{Fine, meant_by}
use Rattle.const_env.specs.Counting.{meant_view, names_view}
use Rattle.const_env.proofs.Named.{kind_unknown, kind_used}
use Rattle.const_env.proofs.names.Names.kind_of.Goals as goal

pub returns-in_ok-copied-in-Some : goal.returns-in_ok-copied-in-Some
returns-in_ok-copied-in-Some c =
    kind_used (meant_by c.args.name.now (names_view c.args.self.now)) (meant_view c.in-Some.meant) c.args.at c.in-Some.ensures
    ∙ ap Fine (sym c.in_ok-copied-in-Some.ensures)

pub returns-in-None : goal.returns-in-None
returns-in-None c = kind_unknown (meant_by c.args.name.now (names_view c.args.self.now)) c.args.at c.in-None.ensures
