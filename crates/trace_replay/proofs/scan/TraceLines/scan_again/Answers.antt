use Rattle.std.proofs.Common.{arith, refl, subst, sym}
use Rattle.trace_text.specs.Spelling.{Spells}
use Rattle.trace_replay.proofs.Limits.{max_is}
use Rattle.trace_replay.proofs.scan.TraceLines.scan_again.Goals as goal

pub overflow_sub-self : goal.overflow_sub-self
overflow_sub-self c = omega (arith, max_is, c.requires.within)

pub returns-clause-some : goal.returns-clause-some
returns-clause-some c = record {
  inst = c.args.self.now.last.inst;
  action = c.args.self.now.last.action;
  is_firing = c.line.ensures;
  text = c.text-text.result.now;
  spelled = subst (λ line. Spells line c.text-text.result.now) (sym c.line.ensures) c.text-text.ensures.spelled;
  bytes = c.skip.ensures.yes c.if-not-skip.false;
  count = refl;
  within = omega (arith, max_is, c.requires.within, c.if-text-self.false);
}
