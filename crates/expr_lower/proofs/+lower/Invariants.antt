use Rattle.std.proofs.Common.{◌+◌, map}
use Rattle.cal_ast.specs.Tree.{listed}
use Rattle.cal_ast.specs.View.{expr_tree}
use Rattle.lower_base.specs.PartView.{places_of}
use Rattle.expr_lower.specs.CounterView.{gens_of}
use Rattle.expr_lower.proofs.Weights.{spread, weight}
use Rattle.expr_lower.proofs.+lower.Given as goal

abbrev pub decreases-exprs::lower : goal.decreases-exprs::lower
decreases-exprs::lower l = weight (expr_tree l.e.now)

abbrev pub decreases-exprs::operation : goal.decreases-exprs::operation
decreases-exprs::operation l = 10 + weight (expr_tree l.of.now)

abbrev pub decreases-exprs::binary : goal.decreases-exprs::binary
decreases-exprs::binary l = 12 + weight (expr_tree l.left.now) + weight (expr_tree l.right.now)

abbrev pub decreases-exprs::strict : goal.decreases-exprs::strict
decreases-exprs::strict l = 10 + weight (expr_tree l.left.now) + weight (expr_tree l.right.now)

abbrev pub decreases-exprs::both : goal.decreases-exprs::both
decreases-exprs::both l = 10 + weight (expr_tree l.left.now) + weight (expr_tree l.right.now)

abbrev pub decreases-exprs::either : goal.decreases-exprs::either
decreases-exprs::either l = 10 + weight (expr_tree l.left.now) + weight (expr_tree l.right.now)

abbrev pub decreases-exprs::choice : goal.decreases-exprs::choice
decreases-exprs::choice l = 10 + weight (expr_tree l.test.now) + weight (expr_tree l.yes.now) + weight (expr_tree l.no.now)

abbrev pub decreases-exprs::lower_test : goal.decreases-exprs::lower_test
decreases-exprs::lower_test l = 2 + weight (expr_tree l.e.now)

abbrev pub decreases-exprs::test_both : goal.decreases-exprs::test_both
decreases-exprs::test_both l = 4 + weight (expr_tree l.left.now) + weight (expr_tree l.right.now)

abbrev pub decreases-exprs::test_value : goal.decreases-exprs::test_value
decreases-exprs::test_value l = 1 + weight (expr_tree l.e.now)

abbrev pub decreases-exprs::paren : goal.decreases-exprs::paren
decreases-exprs::paren l = 4 + weight (expr_tree l.inner.now)

abbrev pub decreases-exprs::item : goal.decreases-exprs::item
decreases-exprs::item l = 23 + weight (expr_tree l.base.now) + weight (expr_tree l.place.now)

abbrev pub decreases-exprs::any_item : goal.decreases-exprs::any_item
decreases-exprs::any_item l = 22 + weight (expr_tree l.base.now) + weight (expr_tree l.place.now)

abbrev pub decreases-exprs::deep_item : goal.decreases-exprs::deep_item
decreases-exprs::deep_item l = 21 + weight (expr_tree l.base.now) + weight (expr_tree l.place.now)

abbrev pub decreases-exprs::apart_item : goal.decreases-exprs::apart_item
decreases-exprs::apart_item l = 20 + weight (expr_tree l.base.now) + weight (expr_tree l.place.now)

abbrev pub decreases-exprs::row : goal.decreases-exprs::row
decreases-exprs::row l = 15 + weight (expr_tree l.base.now) + weight (expr_tree l.place.now)

abbrev pub decreases-exprs::offset : goal.decreases-exprs::offset
decreases-exprs::offset l = weight (expr_tree l.e.now)

abbrev pub decreases-exprs::call : goal.decreases-exprs::call
decreases-exprs::call l = 6 + weight (listed (map expr_tree l.args.now))

abbrev pub decreases-exprs::lower_args : goal.decreases-exprs::lower_args
decreases-exprs::lower_args l = 2 + weight (listed (map expr_tree l.args.now))

abbrev pub decreases-lists::fill : goal.decreases-lists::fill
decreases-lists::fill l = 10 + weight (expr_tree l.e.now)

abbrev pub decreases-lists::single : goal.decreases-lists::single
decreases-lists::single l = 9 + weight (expr_tree l.e.now)

abbrev pub decreases-lists::named : goal.decreases-lists::named
decreases-lists::named l = 9 + weight (expr_tree l.e.now)

abbrev pub decreases-lists::one : goal.decreases-lists::one
decreases-lists::one l = 5 + weight (expr_tree l.e.now)

abbrev pub decreases-lists::index : goal.decreases-lists::index
decreases-lists::index l = 9 + weight (expr_tree l.e.now)

abbrev pub decreases-lists::part : goal.decreases-lists::part
decreases-lists::part l = 8 + weight (expr_tree l.e.now)

abbrev pub decreases-lists::apart_list : goal.decreases-lists::apart_list
decreases-lists::apart_list l = 25 + weight (expr_tree l.base.now) + weight (expr_tree l.place.now)

abbrev pub decreases-lists::fill_paren : goal.decreases-lists::fill_paren
decreases-lists::fill_paren l = 15 + weight (expr_tree l.inner.now)

abbrev pub decreases-lists::fill_choice : goal.decreases-lists::fill_choice
decreases-lists::fill_choice l = 15 + weight (expr_tree l.test.now) + weight (expr_tree l.yes.now) + weight (expr_tree l.no.now)

abbrev pub decreases-lists::list : goal.decreases-lists::list
decreases-lists::list l = 15 + weight (places_of l.items.now)

abbrev pub decreases-lists::fill_all : goal.decreases-lists::fill_all
decreases-lists::fill_all l = 12 + weight (places_of l.items.now)

abbrev pub decreases-lists::comp : goal.decreases-lists::comp
decreases-lists::comp l = 40 + weight (expr_tree l.item.now) + spread (gens_of l.gens.now)

abbrev pub decreases-lists::some_made : goal.decreases-lists::some_made
decreases-lists::some_made l = 39 + weight (expr_tree l.item.now) + spread (gens_of l.gens.now)

abbrev pub decreases-lists::generate : goal.decreases-lists::generate
decreases-lists::generate l = 38 + weight (expr_tree l.item.now) + spread (gens_of l.gens.now)

abbrev pub decreases-lists::elements : goal.decreases-lists::elements
decreases-lists::elements l = 30 + weight (expr_tree l.item.now) + spread (gens_of l.gens.now)

abbrev pub decreases-lists::each_number : goal.decreases-lists::each_number
decreases-lists::each_number l = 35 + weight (expr_tree l.item.now) + spread (gens_of l.rest.now)

abbrev pub decreases-lists::inside : goal.decreases-lists::inside
decreases-lists::inside l = 33 + weight (expr_tree l.item.now) + spread (gens_of l.rest.now)

abbrev pub decreases-lists::element : goal.decreases-lists::element
decreases-lists::element l = 25 + weight (expr_tree l.item.now)

abbrev pub decreases-lists::one_element : goal.decreases-lists::one_element
decreases-lists::one_element l = 20 + weight (expr_tree l.item.now)

abbrev pub decreases-lists::list_element : goal.decreases-lists::list_element
decreases-lists::list_element l = 20 + weight (expr_tree l.item.now)
