use Rattle.law_period.proofs.Blocked.{blocked_has_none, none_is_blocked}
use Rattle.law_period.proofs.Cycles.{cycle_is_blocked}
use Rattle.law_period.proofs.laws.blocked_has_no_period.Goals as goal

pub returns-clause-exact : goal.returns-clause-exact
returns-clause-exact c n links firings among = (blocked_has_none n links firings among, none_is_blocked n links firings)

pub returns-clause-cycles : goal.returns-clause-cycles
returns-clause-cycles c n links firings order leaf among fires cycle period = cycle_is_blocked n links firings order period leaf among fires cycle
