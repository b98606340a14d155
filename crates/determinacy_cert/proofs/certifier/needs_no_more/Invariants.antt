use Rattle.std.proofs.Common.{◌≡◌, map, drop}
use Rattle.cal_model.specs.View.{actor_of, pattern_view}
use Rattle.determinacy_cert.specs.Deciding.{needs_no_more}
use Rattle.determinacy_cert.specs.Judging.{HavePorts}
use Rattle.determinacy_cert.proofs.certifier.needs_no_more.Given as goal

abbrev pub invariant-loop-pattern : goal.invariant-loop-pattern
invariant-loop-pattern l = record {
  ports : HavePorts (actor_of l.actor) (map pattern_view (drop l.pattern-index l.patterns));
  same : needs_no_more (actor_of l.actor) l.a l.b (map pattern_view (drop l.pattern-index l.patterns)) ≡ needs_no_more (actor_of l.actor) l.a l.b (map pattern_view l.patterns);
}
