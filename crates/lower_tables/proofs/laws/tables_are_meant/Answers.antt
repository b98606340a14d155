use Rattle.std.proofs.Common.{refl}
use Rattle.lower_tables.proofs.Rated.{above_same, eligible_same, give_same, has_same, line_same, need_same, next_same}
use Rattle.lower_tables.proofs.laws.tables_are_meant.Goals as goal

pub returns : goal.returns
returns c = record {
  rates = λ actor l a p sound has. (need_same actor l has sound a p, give_same actor l has sound a p);
  tokens = λ actor l u a sound has. has_same actor l u u a sound has (λ q low. refl);
  eligible = eligible_same;
  next = next_same;
  above = above_same;
  line = line_same c.one_line.ensures.line;
}
