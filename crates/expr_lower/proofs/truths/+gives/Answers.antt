use Rattle.std.proofs.Common.{◌≡◌, ℕ, suc, false, Bool, ap, sym, ◌∙◌, rules}
use Rattle.std.specs.Prelude.{◌||◌}
use Rattle.cal_ast.specs.View.{expr_tree}
use Rattle.lower_base.specs.Generators.{makes_none}
use Rattle.lower_base.specs.PartView.{places_of}
use Rattle.lower_base.specs.Seen.{called, seen}
use Rattle.lower_base.specs.Truths.{all_give, gives_at, under_made, with_one}
use Rattle.expr_lower.specs.declared.indexes.Indexes as links
use Rattle.expr_lower.specs.CounterView.{gens_of}
use Rattle.expr_lower.specs.Indexing.{number_of}
use Rattle.expr_lower.specs.Telling.{of_elements}
use Rattle.expr_lower.proofs.Deeper.{one_deeper}
use Rattle.expr_lower.proofs.truths.+gives.Goals as goal

pub list_gives-returns-in-OneMore : goal.list_gives-returns-in-OneMore
list_gives-returns-in-OneMore t c =
    let depth : number_of c.args.depth.now ≡ suc (number_of c.in-OneMore.less.now) = search (rules, links.the_lemmas) in
    let items = λ (k : ℕ). all_give c.args.sort k (called c.args.scope.now) (seen c.args.scope.now) (places_of c.args.items.now) in
    c.all_give.ensures ∙ sym (ap (λ d. with_one d items) depth ∙ one_deeper (number_of c.in-OneMore.less.now) items)

pub comp_gives-returns-else-makes_none : goal.comp_gives-returns-else-makes_none
comp_gives-returns-else-makes_none t c =
    let depth : number_of c.args.depth.now ≡ suc (number_of c.in-OneMore.less.now) = search (rules, links.the_lemmas) in
    let item = λ (k : ℕ). under_made (seen c.args.scope.now) (gens_of c.args.gens.now) (λ inner. gives_at c.args.sort k (called c.args.scope.now) inner (expr_tree c.args.item.now)) in
    let some : makes_none (gens_of c.args.gens.now) ≡ false = search rules in
    let told : Bool = of_elements c.args.sort (number_of c.in-OneMore.less.now) (called c.args.scope.now) (seen c.args.scope.now) (gens_of c.args.gens.now) (expr_tree c.args.item.now) in
    c.under_gens.ensures ∙ sym (ap (λ b. b || told) some) ∙ sym (ap (λ d. with_one d item) depth ∙ one_deeper (number_of c.in-OneMore.less.now) item)
