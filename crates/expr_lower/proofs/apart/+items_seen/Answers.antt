use Rattle.std.proofs.Common.{◌≡◌, subst, rules}
use Rattle.cal_ast.specs.View.{expr_tree}
use Rattle.lower_base.specs.ItemsSeen.{first_seen, items_listed}
use Rattle.lower_base.specs.PartView.{places_of}
use Rattle.lower_base.specs.Seen.{seen}
use Rattle.lower_base.proofs.Adding.{places_number}
use Rattle.expr_lower.specs.declared.indexes.Indexes as links
use Rattle.expr_lower.specs.Indexing.{number_of}
use Rattle.expr_lower.proofs.apart.+items_seen.Goals as goal

pub items_listed-returns-in-None : goal.items_listed-returns-in-None
items_listed-returns-in-None t c =
    subst (λ k. c.few.result ≡ items_listed (number_of c.args.depth.now) k (λ j. first_seen (seen c.args.scope.now) (places_of c.args.items.now) j))
    (places_number expr_tree c.args.items.now)
    (search (rules, links.the_lemmas))
