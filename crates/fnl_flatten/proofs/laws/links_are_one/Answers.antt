use Rattle.fnl_flatten.proofs.OneList.{links_are_one, one_link_leads}
use Rattle.fnl_flatten.proofs.laws.links_are_one.Goals as goal

pub returns-clause-list : goal.returns-clause-list
returns-clause-list c = links_are_one

pub returns-clause-link : goal.returns-clause-link
returns-clause-link c = one_link_leads
