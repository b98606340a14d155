use Rattle.std.proofs.Common.{◌<◌, ◌≤◌, sym, subst}
use Rattle.std.proofs.lemmas.Bool.{leb-false, leb-true}
use Rattle.trace_replay.proofs.Limits.{max_is}
use Rattle.trace_replay.proofs.scan.TraceLines.is_full.Goals as goal

pub returns-clause-yes : goal.returns-clause-yes
returns-clause-yes c = λ full. subst (λ n. n ≤ c.args.self.now.passed) (sym max_is) (leb-true _ _ full)

pub returns-clause-no : goal.returns-clause-no
returns-clause-no c = λ less. subst (λ n. c.args.self.now.passed < n) (sym max_is) (leb-false _ _ less)
