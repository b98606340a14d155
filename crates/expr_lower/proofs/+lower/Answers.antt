use Rattle.std.proofs.Common.{◌≡◌, ◌∷◌, [], List, length, map, subst, sym, ◌∙◌, rules, SFits, to_z, of_z, ◌≢◌, ℕ, suc, Option, ◌+◌, ◌*◌, ap, Err, None, Some, arith}
use Rattle.std.proofs.lemmas.Int.{to_z-of_z}
use Rattle.rvc_base.specs.Width.{num_width}
use Rattle.std.proofs.lemmas.Result.{on_ok_weaker}
use Rattle.cal_ast.specs.Tree as tree
use Rattle.cal_ast.specs.View.{expr_tree, gen_tree}
use Rattle.cal_ast.specs.declared.expr.BinOp.TheVariants as binaries
use Rattle.code_ir.specs.declared.instr.Instr.TheVariants as op
use Rattle.lower_base.specs.Coding as coding
use Rattle.lower_base.specs.Coding.{AreArgs, IsCode, arg_more, call_code, IsOffset, IsOpenTest, binary_instr, item_instr, prefix_instr}
use Rattle.lower_base.specs.Names.{Name, local}
use Rattle.lower_base.specs.Seen.{called, seen}
use Rattle.cal_ast.specs.Tree.{listed, Tree}
use Rattle.lower_base.specs.Callees.{function_view}
use Rattle.lower_base.specs.PartView.{places_of, part_view}
use Rattle.lower_base.specs.Words.{call_of}
use Rattle.lower_base.specs.Lowered.{Adds, IsPut}
use Rattle.lower_base.proofs.Adding.{args_none, no_items, put_adds, same_adds, then_put, then_adds, strict_adds, row_adds, test_coded, tests_coded, if_adds, both_adds, either_adds, places_number}
use Rattle.lower_base.proofs.Literals.{negative_coded}
use Rattle.lower_base.proofs.PartValues.{item_has_rows, sized_list}
use Rattle.std.specs.Prelude.{IfErr, OnOk}
use Rattle.cal_model.specs.Value.{Shape, Many, Single}
use Rattle.cal_model.specs.View.{shape_view}
use Rattle.cal_model.specs.declared.kind.Shape as shapes
use Rattle.lower_base.specs.declared.scope.Frame as chain
use Rattle.lower_base.specs.Growing.{IsFault, left_out_in}
use Rattle.lower_base.specs.Parted.{number_of, sized}
use Rattle.expr_lower.specs.declared.lists.Target.{Target}
use Rattle.expr_lower.specs.CounterView.{counter_view, gens_of}
use Rattle.expr_lower.specs.FillWords.{BeginsAt, left_out_elements}
use Rattle.expr_lower.specs.Reserving.{HasMore}
use Rattle.expr_lower.specs.Filling.{AreFills, IsFill, in_parens, one_cell}
use Rattle.lower_base.specs.Generators.{how_many}
use Rattle.expr_lower.specs.LeftOut.{left_out_element, left_out_fill, left_out_fills, left_out_gens, left_out_many}
use Rattle.expr_lower.proofs.Adding.{all_count, choice_adds, comp_adds, each_adds, items_add, list_element_adds, more_add, none_add, nothing_adds, one_many, one_adds, part_adds}
use Rattle.expr_lower.proofs.Erased.{each_left, index_left, many_left, many_not}
use Rattle.expr_lower.proofs.Weights.{weight}
use Rattle.lower_base.proofs.Coded.{grows_test}
use Rattle.expr_lower.proofs.Filled.{grows_fill}
use Rattle.rvc_base.specs.declared.scalar.Scalar.TheVariants as scalar
use Rattle.expr_lower.proofs.ApartItems.{apart_adds, item_adds}
use Rattle.expr_lower.proofs.FixedPlaces.{fixed_is_code, fixed_whole}
use Rattle.expr_lower.proofs.+lower.Goals as goal

pub exprs::both-returns-clause-ok : goal.exprs::both-returns-clause-ok
exprs::both-returns-clause-ok t c =
    both_adds (seen c.args.scope.now) (expr_tree c.args.left.now) (expr_tree c.args.right.now) c.args.at c.args.draft.now c.lower_test.new.draft c.lower.new.draft c.put.new.draft c.put-2.new.draft c.link.new.draft (op.Jump 0)
    c.len-start.result c.len-exits.result c.in_ok-out.out c.len-jump.result c.in_ok-end.end
    (sym c.is_truth.ensures ∙ c.if-not-is_truth.false)
    c.in_ok-lower_test.ensures.ok c.in_ok-lower.ensures.ok c.in_ok-put.ensures.added c.in_ok-put-2.ensures.added
    (search rules) (search rules) (search rules) c.in_ok-out.ensures.place c.in_ok-end.ensures.place
    c.link.ensures.linked c.link.ensures.routines c.link.ensures.cells

pub exprs::choice-returns-clause-ok : goal.exprs::choice-returns-clause-ok
exprs::choice-returns-clause-ok t c = λ at.
    if_adds (seen c.args.scope.now) (expr_tree c.args.test.now) (expr_tree c.args.yes.now) (expr_tree c.args.no.now) at c.args.draft.now c.lower_test.new.draft c.lower.new.draft c.put.new.draft c.lower-2.new.draft c.link.new.draft (op.Jump 0)
    c.len-start.result c.len-exits.result c.in_ok-out.out c.len-jump.result c.in_ok-end.end
    c.in_ok-lower_test.ensures.ok c.in_ok-lower.ensures.ok c.in_ok-put.ensures.added c.in_ok-lower-2.ensures.ok
    (search rules) (search rules) (search rules) c.in_ok-out.ensures.place c.in_ok-end.ensures.place
    c.link.ensures.linked c.link.ensures.routines c.link.ensures.cells

pub exprs::either-returns-clause-ok : goal.exprs::either-returns-clause-ok
exprs::either-returns-clause-ok t c =
    either_adds (seen c.args.scope.now) (expr_tree c.args.left.now) (expr_tree c.args.right.now) c.args.at c.args.draft.now c.lower_test.new.draft c.put.new.draft c.put-2.new.draft c.lower.new.draft c.link.new.draft (op.Jump 0)
    c.len-start.result c.len-exits.result c.in_ok-out.out c.len-jump.result c.in_ok-end.end
    (sym c.is_truth.ensures ∙ c.if-not-is_truth.false)
    c.in_ok-lower_test.ensures.ok c.in_ok-put.ensures.added c.in_ok-put-2.ensures.added c.in_ok-lower.ensures.ok
    (search rules) (search rules) (search rules) c.in_ok-out.ensures.place c.in_ok-end.ensures.place
    c.link.ensures.linked c.link.ensures.routines c.link.ensures.cells

pub exprs::paren-returns-clause-ok : goal.exprs::paren-returns-clause-ok
exprs::paren-returns-clause-ok t c = λ at.
    on_ok_weaker c.lower.result
    (same_adds (IsCode (called c.args.scope.now) (seen c.args.scope.now) (expr_tree c.args.inner.now)) (IsCode (called c.args.scope.now) (seen c.args.scope.now) (tree.paren (expr_tree c.args.inner.now) at)) c.args.draft.now c.lower.new.draft
    (λ base n m code h. coding.paren (expr_tree c.args.inner.now) at base n m code h))
    c.lower.ensures.ok

pub exprs::operation-returns-in-Some-clause-ok : goal.exprs::operation-returns-in-Some-clause-ok
exprs::operation-returns-in-Some-clause-ok t c = λ at.
    let fits : SFits num_width c.in-Some.value = search rules in
    let same : to_z num_width (of_z num_width c.in-Some.value) ≡ c.in-Some.value = to_z-of_z num_width c.in-Some.value fits in
    on_ok_weaker c.put_const.result
    (λ (p : IsPut (op.Const (to_z num_width (of_z num_width c.in-Some.value)) ∷ []) c.args.draft.now c.put_const.new.draft). put_adds (IsCode (called c.args.scope.now) (seen c.args.scope.now) (tree.prefix c.args.op (expr_tree c.args.of.now) at)) (op.Const c.in-Some.value ∷ []) c.args.draft.now c.put_const.new.draft
    (subst (λ z. IsPut (op.Const z ∷ []) c.args.draft.now c.put_const.new.draft) same p)
    (λ base n. negative_coded (seen c.args.scope.now) c.args.op (expr_tree c.args.of.now) c.in-Some.value at base n c.in-Some.ensures))
    c.put_const.ensures.added

pub exprs::operation-returns-clause-ok : goal.exprs::operation-returns-clause-ok
exprs::operation-returns-clause-ok t c = λ at.
    let names : List Name = seen c.args.scope.now in
    on_ok_weaker c.put.result
    (λ (p : IsPut (c.prefix_instr.result ∷ []) c.lower.new.draft c.put.new.draft).
    then_put (IsCode (called c.args.scope.now) names (expr_tree c.args.of.now)) (IsCode (called c.args.scope.now) names (tree.prefix c.args.op (expr_tree c.args.of.now) at)) (prefix_instr c.args.op ∷ []) c.args.draft.now c.lower.new.draft c.put.new.draft
    (λ base n m code h. coding.prefix c.args.op (expr_tree c.args.of.now) at base n m code h) c.in_ok-lower.ensures.ok
    (subst (λ i. IsPut (i ∷ []) c.lower.new.draft c.put.new.draft) c.prefix_instr.ensures p))
    c.put.ensures.added

pub exprs::strict-returns-clause-ok : goal.exprs::strict-returns-clause-ok
exprs::strict-returns-clause-ok t c =
    on_ok_weaker c.put.result
    (λ p o at e. strict_adds (seen c.args.scope.now) o c.args.instr (expr_tree c.args.left.now) (expr_tree c.args.right.now) at c.args.draft.now c.lower.new.draft c.lower-2.new.draft c.put.new.draft e c.in_ok-lower.ensures.ok c.in_ok-lower-2.ensures.ok p)
    c.put.ensures.added

pub exprs::test_both-returns-clause-ok : goal.exprs::test_both-returns-clause-ok
exprs::test_both-returns-clause-ok t c =
    let names : List Name = seen c.args.scope.now in
    on_ok_weaker c.lower_test-2.result
    (then_adds (IsOpenTest (called c.args.scope.now) names (expr_tree c.args.left.now)) (IsOpenTest (called c.args.scope.now) names (expr_tree c.args.right.now)) (IsOpenTest (called c.args.scope.now) names (tree.binary binaries.And (expr_tree c.args.left.now) (expr_tree c.args.right.now) c.args.at)) c.args.draft.now c.lower_test.new.draft c.lower_test-2.new.draft
    (tests_coded names (expr_tree c.args.left.now) (expr_tree c.args.right.now) c.args.at (sym c.is_truth.ensures ∙ c.if-not-is_truth.false))
    c.in_ok-lower_test.ensures.ok)
    c.lower_test-2.ensures.ok

pub exprs::test_value-returns-clause-ok : goal.exprs::test_value-returns-clause-ok
exprs::test_value-returns-clause-ok t c =
    let names : List Name = seen c.args.scope.now in
    on_ok_weaker c.put.result
    (then_put (IsCode (called c.args.scope.now) names (expr_tree c.args.e.now)) (IsOpenTest (called c.args.scope.now) names (expr_tree c.args.e.now)) (op.Done ∷ []) c.args.draft.now c.lower.new.draft c.put.new.draft
    (λ base n m code h. test_coded names (expr_tree c.args.e.now) base n m code h) c.in_ok-lower.ensures.ok)
    c.put.ensures.added

pub exprs::item-returns-in-Some-clause-ok : goal.exprs::item-returns-in-Some-clause-ok
exprs::item-returns-in-Some-clause-ok t c =
    let e : Tree = tree.index (expr_tree c.args.base.now) (expr_tree c.args.place.now) c.args.at in
    on_ok_weaker c.put.result
    (λ (p : IsPut (c.in-Some.instr ∷ []) c.args.draft.now c.put.new.draft). put_adds (IsCode (called c.args.scope.now) (seen c.args.scope.now) e) (c.in-Some.instr ∷ []) c.args.draft.now c.put.new.draft p
    (λ base n. fixed_is_code (called c.args.scope.now) (seen c.args.scope.now) e base n c.in-Some.instr (c.in-Some.ensures.fixed c.args.at)))
    c.put.ensures.added

pub exprs::item-returns-in-Some-clause-whole : goal.exprs::item-returns-in-Some-clause-whole
exprs::item-returns-in-Some-clause-whole t c =
    on_ok_weaker c.put.result
    (λ (p : IsPut (c.in-Some.instr ∷ []) c.args.draft.now c.put.new.draft). fixed_whole (called c.args.scope.now) (seen c.args.scope.now) (expr_tree c.args.base.now) (expr_tree c.args.place.now) c.args.at c.in-Some.instr (c.in-Some.ensures.fixed c.args.at))
    c.put.ensures.added

pub exprs::any_item-returns-clause-ok : goal.exprs::any_item-returns-clause-ok
exprs::any_item-returns-clause-ok t c =
    let names : List Name = seen c.args.scope.now in
    on_ok_weaker c.put.result
    (λ (p : IsPut (c.item_instr.result ∷ []) c.lower.new.draft c.put.new.draft).
    then_put (IsCode (called c.args.scope.now) names (expr_tree c.args.place.now)) (IsCode (called c.args.scope.now) names (tree.index (expr_tree c.args.base.now) (expr_tree c.args.place.now) c.args.at)) (item_instr c.in-Some.list ∷ []) c.args.draft.now c.lower.new.draft c.put.new.draft
    (λ base n m code h. coding.item (expr_tree c.args.base.now) (expr_tree c.args.place.now) c.args.at base n m code c.in-Some.list (sym c.in-Some.ensures) h) c.in_ok-lower.ensures.ok
    (subst (λ i. IsPut (i ∷ []) c.lower.new.draft c.put.new.draft) c.item_instr.ensures p))
    c.put.ensures.added

pub exprs::deep_item-returns-clause-ok : goal.exprs::deep_item-returns-clause-ok
exprs::deep_item-returns-clause-ok t c =
    let names : List Name = seen c.args.scope.now in
    on_ok_weaker c.put.result
    (λ (p : IsPut (c.item_instr.result ∷ []) c.row.new.draft c.put.new.draft).
    then_put (IsOffset (called c.args.scope.now) names (tree.index (expr_tree c.args.base.now) (expr_tree c.args.place.now) c.args.at)) (IsCode (called c.args.scope.now) names (tree.index (expr_tree c.args.base.now) (expr_tree c.args.place.now) c.args.at)) (item_instr c.in-Some.list ∷ []) c.args.draft.now c.row.new.draft c.put.new.draft
    (λ base n m code h. coding.deep_item (expr_tree c.args.base.now) (expr_tree c.args.place.now) c.args.at base n m code c.in-Some.list (sym c.in-Some.ensures) h) (c.in_ok-row.ensures.ok c.args.at)
    (subst (λ i. IsPut (i ∷ []) c.row.new.draft c.put.new.draft) c.item_instr.ensures p))
    c.put.ensures.added

pub exprs::row-returns-clause-ok : goal.exprs::row-returns-clause-ok
exprs::row-returns-clause-ok t c = λ at.
    on_ok_weaker c.put.result
    (row_adds (seen c.args.scope.now) (expr_tree c.args.base.now) (expr_tree c.args.place.now) at c.in-Some.rows c.args.draft.now c.offset.new.draft c.lower.new.draft c.put.new.draft (sym c.in-Some.ensures) c.in_ok-offset.ensures.ok c.in_ok-lower.ensures.ok)
    c.put.ensures.added

pub exprs::row-unreachable-requires : goal.exprs::row-unreachable-requires
exprs::row-unreachable-requires t c =
    item_has_rows (seen c.args.scope.now) (expr_tree c.args.base.now) (expr_tree c.args.place.now) 0 c.requires.part (sym c.rows_named.ensures ∙ c.in_default.is)

pub exprs::lower_args-returns-in_default-clause-ok : goal.exprs::lower_args-returns-in_default-clause-ok
exprs::lower_args-returns-in_default-clause-ok t c =
    let none : length c.args.args.now ≡ 0 = search rules in
    subst (λ xs. Adds (AreArgs (called c.args.scope.now) (seen c.args.scope.now) (listed (map expr_tree xs))) c.args.draft.now c.args.draft.now) (sym (no_items c.args.args.now none))
    (args_none (seen c.args.scope.now) c.args.draft.now)

pub exprs::lower_args-returns-clause-ok : goal.exprs::lower_args-returns-clause-ok
exprs::lower_args-returns-clause-ok t c =
    let opened : map expr_tree c.args.args.now ≡ expr_tree c.in-Some.first.now ∷ map expr_tree c.in-Some.rest.now = search rules in
    on_ok_weaker c.lower_args.result
    (λ h. subst (λ xs. Adds (AreArgs (called c.args.scope.now) (seen c.args.scope.now) (listed xs)) c.args.draft.now c.lower_args.new.draft) (sym opened)
    (then_adds (IsCode (called c.args.scope.now) (seen c.args.scope.now) (expr_tree c.in-Some.first.now)) (AreArgs (called c.args.scope.now) (seen c.args.scope.now) (listed (map expr_tree c.in-Some.rest.now))) (AreArgs (called c.args.scope.now) (seen c.args.scope.now) (listed (expr_tree c.in-Some.first.now ∷ map expr_tree c.in-Some.rest.now)))
    c.args.draft.now c.lower.new.draft c.lower_args.new.draft
    (λ base n k m a b g d. arg_more (expr_tree c.in-Some.first.now) (listed (map expr_tree c.in-Some.rest.now)) base n k m a b g d) c.in_ok-lower.ensures.ok h))
    c.lower_args.ensures.ok

pub exprs::call-returns-clause-ok : goal.exprs::call-returns-clause-ok
exprs::call-returns-clause-ok t c =
    on_ok_weaker c.put_call.result
    (then_put (AreArgs (called c.args.scope.now) (seen c.args.scope.now) (places_of c.args.args.now)) (IsCode (called c.args.scope.now) (seen c.args.scope.now) (call_of c.args.name.now c.args.args.now c.args.at)) (call_code (function_view c.in-Some.callee.now))
    c.args.draft.now c.lower_args.new.draft c.put_call.new.draft
    (λ base n m code h. coding.call c.args.name.now (places_of c.args.args.now) c.args.at base n m code (function_view c.in-Some.callee.now) (sym c.in-Some.ensures) h) c.in_ok-lower_args.ensures.ok)
    c.put_call.ensures.added

pub lists::fill_paren-returns-clause-ok : goal.lists::fill_paren-returns-clause-ok
lists::fill_paren-returns-clause-ok t c = λ at.
    on_ok_weaker c.fill.result
    (same_adds (IsFill (called c.args.scope.now) (seen c.args.scope.now) (expr_tree c.args.inner.now) (shape_view c.args.shape.now) c.args.cell) (IsFill (called c.args.scope.now) (seen c.args.scope.now) (tree.paren (expr_tree c.args.inner.now) at) (shape_view c.args.shape.now) c.args.cell) c.args.draft.now c.fill.new.draft
    (λ base n m code h. in_parens (seen c.args.scope.now) (expr_tree c.args.inner.now) (shape_view c.args.shape.now) at c.args.cell base n m code h))
    c.fill.ensures.ok

pub lists::fill_choice-returns-clause-ok : goal.lists::fill_choice-returns-clause-ok
lists::fill_choice-returns-clause-ok t c = λ at.
    choice_adds (called c.args.scope.now) (seen c.args.scope.now) (expr_tree c.args.test.now) (expr_tree c.args.yes.now) (expr_tree c.args.no.now) (shape_view c.args.shape.now) at c.args.cell c.args.draft.now c.lower_test.new.draft c.fill.new.draft c.put.new.draft c.fill-2.new.draft c.link.new.draft (op.Jump 0)
    c.len-start.result c.len-exits.result c.in_ok-out.out c.len-jump.result c.in_ok-end.end
    c.in_ok-lower_test.ensures.ok c.in_ok-fill.ensures.ok c.in_ok-put.ensures.added c.in_ok-fill-2.ensures.ok
    (search rules) (search rules) (search rules) c.in_ok-out.ensures.place c.in_ok-end.ensures.place
    c.link.ensures.linked c.link.ensures.routines c.link.ensures.cells

pub lists::fill_all-returns-in_default-clause-ok : goal.lists::fill_all-returns-in_default-clause-ok
lists::fill_all-returns-in_default-clause-ok t c =
    let none : length c.args.items.now ≡ 0 = search rules in
    subst (λ xs. Adds (AreFills (called c.args.scope.now) (seen c.args.scope.now) (listed (map expr_tree xs)) (shape_view c.args.shape.now) c.args.cell) c.args.draft.now c.args.draft.now) (sym (no_items c.args.items.now none))
    (none_add (called c.args.scope.now) (seen c.args.scope.now) (shape_view c.args.shape.now) c.args.cell c.args.draft.now)

pub lists::fill_all-returns-clause-ok : goal.lists::fill_all-returns-clause-ok
lists::fill_all-returns-clause-ok t c =
    let opened : map expr_tree c.args.items.now ≡ expr_tree c.in-Some.first.now ∷ map expr_tree c.in-Some.rest.now = search rules in
    on_ok_weaker c.fill_all.result
    (λ h. subst (λ xs. Adds (AreFills (called c.args.scope.now) (seen c.args.scope.now) (listed xs) (shape_view c.args.shape.now) c.args.cell) c.args.draft.now c.fill_all.new.draft) (sym opened)
    (more_add (called c.args.scope.now) (seen c.args.scope.now) (expr_tree c.in-Some.first.now) (listed (map expr_tree c.in-Some.rest.now)) (shape_view c.args.shape.now) c.args.cell c.args.each c.args.draft.now c.fill.new.draft c.fill_all.new.draft c.requires.size c.in_ok-fill.ensures.ok h))
    c.fill_all.ensures.ok

pub lists::fill_choice-fill-requires : goal.lists::fill_choice-fill-requires
lists::fill_choice-fill-requires t c =
    let first = grows_test (c.in_ok-lower_test.ensures.ok.has 0) in
    let enough = c.requires.cells.2 in
    (omega arith, (c.requires.cells.0, c.requires.cells.1, omega (arith, first, enough)))

pub lists::fill_choice-fill-requires-2 : goal.lists::fill_choice-fill-requires-2
lists::fill_choice-fill-requires-2 t c =
    let grown = grows_fill c.in_ok-fill.ensures.ok.has in
    let first = grows_test (c.in_ok-lower_test.ensures.ok.has 0) in
    let last = c.put.ensures.cells in
    let enough = c.requires.cells.2 in
    (omega arith, (c.requires.cells.0, c.requires.cells.1, omega (arith, grown, first, last, enough)))

pub lists::fill_all-fill-requires : goal.lists::fill_all-fill-requires
lists::fill_all-fill-requires t c =
    let opened : map expr_tree c.args.items.now ≡ expr_tree c.in-Some.first.now ∷ map expr_tree c.in-Some.rest.now = search rules in
    let heavy : weight (places_of c.args.items.now) ≡ 20 + weight (expr_tree c.in-Some.first.now) + weight (places_of c.in-Some.rest.now) = ap (λ xs. weight (listed xs)) opened in
    let many : length c.args.items.now ≡ suc (length c.in-Some.rest.now) = search rules in
    let sum : suc (length c.in-Some.rest.now) * c.args.each ≡ c.args.each + length c.in-Some.rest.now * c.args.each = omega arith in
    let wide = ap (λ n. n * c.args.each) many in
    let enough = c.requires.cells in
    (omega (arith, heavy), (c.args.each, c.requires.size, omega (arith, sum, wide, enough)))

pub lists::fill_all-overflow_add-cell : goal.lists::fill_all-overflow_add-cell
lists::fill_all-overflow_add-cell t c =
    let many : length c.args.items.now ≡ suc (length c.in-Some.rest.now) = search rules in
    let sum : suc (length c.in-Some.rest.now) * c.args.each ≡ c.args.each + length c.in-Some.rest.now * c.args.each = omega arith in
    let wide = ap (λ n. n * c.args.each) many in
    let enough = c.requires.cells in
    let fits = c.fitting.ensures in
    omega (arith, sum, wide, enough, fits)

pub lists::fill_all-fill_all-requires : goal.lists::fill_all-fill_all-requires
lists::fill_all-fill_all-requires t c =
    let opened : map expr_tree c.args.items.now ≡ expr_tree c.in-Some.first.now ∷ map expr_tree c.in-Some.rest.now = search rules in
    let heavy : weight (places_of c.args.items.now) ≡ 20 + weight (expr_tree c.in-Some.first.now) + weight (places_of c.in-Some.rest.now) = ap (λ xs. weight (listed xs)) opened in
    let many : length c.args.items.now ≡ suc (length c.in-Some.rest.now) = search rules in
    let sum : suc (length c.in-Some.rest.now) * c.args.each ≡ c.args.each + length c.in-Some.rest.now * c.args.each = omega arith in
    let wide = ap (λ n. n * c.args.each) many in
    let enough = c.requires.cells in
    let grown = grows_fill c.in_ok-fill.ensures.ok.has in
    (omega (arith, heavy), (c.requires.size, omega (arith, sum, wide, enough, grown)))

-- ---- lists that are written out

pub lists::list-returns-then-items-count-clause-fault : goal.lists::list-returns-then-items-count-clause-fault
lists::list-returns-then-items-count-clause-fault t c =
    let es : Tree = places_of c.args.items.now in
    let f : Shape → Option ℕ = λ items. left_out_fills (called c.args.scope.now) (seen c.args.scope.now) items es in
    let shaped : shape_view c.args.shape.now ≡ Many c.in-List.count (shape_view c.in-List.of.value) = search (rules, shapes.the_lemmas) in
    let differ : length c.args.items.now ≢ c.in-List.count = search rules in
    ap (λ s. left_out_many s c.args.at (Some (number_of es)) f) shaped
    ∙ many_not c.in-List.count (number_of es) c.args.at (shape_view c.in-List.of.value) f (λ e. differ (places_number expr_tree c.args.items.now ∙ e))

pub lists::list-returns-in-Some-clause-ok : goal.lists::list-returns-in-Some-clause-ok
lists::list-returns-in-Some-clause-ok t c =
    let es : Tree = places_of c.args.items.now in
    let shaped : shape_view c.args.shape.now ≡ Many c.in-List.count (shape_view c.deref-in-List.result.now) = search (rules, shapes.the_lemmas) in
    let same : length c.args.items.now ≡ c.in-List.count = search rules in
    on_ok_weaker c.fill_all.result
    (λ a. subst (λ s. Adds (IsFill (called c.args.scope.now) (seen c.args.scope.now) (tree.list es c.args.at) s c.args.cell) c.args.draft.now c.fill_all.new.draft) (sym shaped)
    (items_add (called c.args.scope.now) (seen c.args.scope.now) es (shape_view c.deref-in-List.result.now) c.args.at c.args.cell c.in-List.count c.args.draft.now c.fill_all.new.draft (sym (places_number expr_tree c.args.items.now) ∙ same) a))
    c.fill_all.ensures.ok

pub lists::list-returns-in-Some-clause-whole : goal.lists::list-returns-in-Some-clause-whole
lists::list-returns-in-Some-clause-whole t c =
    let es : Tree = places_of c.args.items.now in
    let f : Shape → Option ℕ = λ items. left_out_fills (called c.args.scope.now) (seen c.args.scope.now) items es in
    let shaped : shape_view c.args.shape.now ≡ Many c.in-List.count (shape_view c.deref-in-List.result.now) = search (rules, shapes.the_lemmas) in
    let same : length c.args.items.now ≡ c.in-List.count = search rules in
    let is : left_out_many (shape_view c.args.shape.now) c.args.at (Some (number_of es)) f ≡ f (shape_view c.deref-in-List.result.now) =
    ap (λ s. left_out_many s c.args.at (Some (number_of es)) f) shaped
    ∙ many_left c.in-List.count c.args.at (shape_view c.deref-in-List.result.now) (Some (number_of es)) f (ap Some (sym (places_number expr_tree c.args.items.now) ∙ same)) in
    subst (λ o. OnOk c.fill_all.result (o ≡ None)) (sym is) c.fill_all.ensures.whole

pub lists::list-returns-in-Some-clause-fault : goal.lists::list-returns-in-Some-clause-fault
lists::list-returns-in-Some-clause-fault t c =
    let es : Tree = places_of c.args.items.now in
    let f : Shape → Option ℕ = λ items. left_out_fills (called c.args.scope.now) (seen c.args.scope.now) items es in
    let shaped : shape_view c.args.shape.now ≡ Many c.in-List.count (shape_view c.deref-in-List.result.now) = search (rules, shapes.the_lemmas) in
    let same : length c.args.items.now ≡ c.in-List.count = search rules in
    let is : left_out_many (shape_view c.args.shape.now) c.args.at (Some (number_of es)) f ≡ f (shape_view c.deref-in-List.result.now) =
    ap (λ s. left_out_many s c.args.at (Some (number_of es)) f) shaped
    ∙ many_left c.in-List.count c.args.at (shape_view c.deref-in-List.result.now) (Some (number_of es)) f (ap Some (sym (places_number expr_tree c.args.items.now) ∙ same)) in
    subst (λ o. IfErr c.fill_all.result (IsFault o c.fill_all.new.draft)) (sym is) c.fill_all.ensures.fault

-- ---- comprehensions

-- one that makes no element
pub lists::comp-returns-clause-ok : goal.lists::comp-returns-clause-ok
lists::comp-returns-clause-ok t c =
    nothing_adds (called c.args.scope.now) (seen c.args.scope.now) (expr_tree c.args.item.now) (gens_of c.args.gens.now) (shape_view c.args.shape.now) c.args.at c.args.cell c.args.draft.now
    (sym c.makes_none.ensures ∙ c.if-not-makes_none.false) (sym c.has_no_items.ensures ∙ c.if-not-has_no_items.false)

pub lists::some_made-returns-in-Some-scalars-clause-fault : goal.lists::some_made-returns-in-Some-scalars-clause-fault
lists::some_made-returns-in-Some-scalars-clause-fault t c =
    let gens : Tree = gens_of c.args.gens.now in
    let f : Shape → Option ℕ = λ items. left_out_elements c.args.scope.now c.args.gens.now items c.args.item.now in
    let shaped : shape_view c.args.shape.now ≡ Many c.in-List.count (shape_view c.deref.result.now) = search (rules, shapes.the_lemmas) in
    let same : c.in-Some.many ≡ c.in-List.count = search rules in
    let is : left_out_many (shape_view c.args.shape.now) c.args.at (how_many gens) f ≡ f (shape_view c.deref.result.now) =
    ap (λ s. left_out_many s c.args.at (how_many gens) f) shaped
    ∙ many_left c.in-List.count c.args.at (shape_view c.deref.result.now) (how_many gens) f (sym c.in-Some.ensures ∙ ap Some same) in
    subst (λ o. IfErr c.generate.result (IsFault o c.generate.new.draft)) (sym is) c.generate.ensures.fault

pub lists::generate-elements-requires : goal.lists::generate-elements-requires
lists::generate-elements-requires t c =
    let many = c.requires.many in
    let inside = sized_list many.0 (shape_view c.args.items.now) c.args.all many.2 in
    let taken = c.in_ok-filled.ensures.taken.cells in
    let is = c.in_ok-filled.ensures.taken.is in
    let one = c.in_ok-put.ensures.added.cells in
    let two = c.in_ok-put_first.ensures.added.cells in
    let begins : BeginsAt _ c.args.gens.now (c.in_ok-filled.filled + 1) c.put_first.new.draft = record { turn = c.in_ok-turn.ensures.place; cells = omega (arith, taken, is, one, two) } in
    (omega arith, (begins, (all_count (gens_of c.args.gens.now) many.0 many.1, (inside.each, inside.items_are))))

pub lists::generate-returns-clause-ok : goal.lists::generate-returns-clause-ok
lists::generate-returns-clause-ok t c = λ at count e.
    let many = c.requires.many in
    let same : many.0 ≡ count = one_many many.0 count (sym many.1 ∙ e) in
    let to : Target = record { cell = c.args.cell; all = c.args.all; filled = c.in_ok-filled.filled; turn = c.in_ok-turn.turn } in
    on_ok_weaker c.elements.result
    (λ a. comp_adds (called c.args.scope.now) (seen c.args.scope.now) (expr_tree c.args.item.now) (gens_of c.args.gens.now) (shape_view c.args.items.now) at count (1 + 2 * length c.args.gens.now) to
    c.args.draft.now c.take_counters.new.draft c.put.new.draft c.put_first.new.draft c.elements.new.draft
    e (subst (λ n. sized (Many n (shape_view c.args.items.now)) ≡ Some c.args.all) same many.2) c.in_ok-filled.ensures.taken c.in_ok-put.ensures.added c.in_ok-put_first.ensures.added c.in_ok-turn.ensures.place a)
    c.elements.ensures.ok

pub lists::each_number-put_next-requires : goal.lists::each_number-put_next-requires
lists::each_number-put_next-requires t c =
    let cells = c.requires.begins.cells in
    let fits = c.fitting.ensures in
    record { room = omega (arith, cells, fits) }

pub lists::each_number-returns-clause-ok : goal.lists::each_number-returns-clause-ok
lists::each_number-returns-clause-ok t c =
    on_ok_weaker c.put_next.result
    (λ n. each_adds (called c.args.scope.now) (seen c.args.scope.now) (gen_tree c.args.first.now) (gens_of c.args.rest.now) (expr_tree c.args.item.now) (shape_view c.args.items.now) (counter_view c.in-Some.x) c.args.to c.args.k c.args.draft.now c.inside.new.draft c.put_next.new.draft
    (sym c.in-Some.ensures) c.requires.begins.turn c.in_ok-inside.ensures.ok n)
    c.put_next.ensures.added

pub lists::each_number-returns-clause-whole : goal.lists::each_number-returns-clause-whole
lists::each_number-returns-clause-whole t c =
    let is = each_left (called c.args.scope.now) (seen c.args.scope.now) (counter_view c.in-Some.x) (c.args.k + 1) (shape_view c.args.items.now) (expr_tree c.args.item.now) (gen_tree c.args.first.now) (gens_of c.args.rest.now) (sym c.in-Some.ensures) in
    on_ok_weaker c.put_next.result (λ n. sym is ∙ c.in_ok-inside.ensures.whole) c.put_next.ensures.added

pub lists::each_number-returns-clause-fault : goal.lists::each_number-returns-clause-fault
lists::each_number-returns-clause-fault t c = c.put_next.ensures.fault (left_out_elements c.args.scope.now (c.args.first.now ∷ c.args.rest.now) (shape_view c.args.items.now) c.args.item.now)

pub lists::each_number-returns-in_err-inside-clause-fault : goal.lists::each_number-returns-in_err-inside-clause-fault
lists::each_number-returns-in_err-inside-clause-fault t c =
    let left : Option ℕ = left_out_elements c.args.scope.now (c.args.first.now ∷ c.args.rest.now) (shape_view c.args.items.now) c.args.item.now in
    let is = each_left (called c.args.scope.now) (seen c.args.scope.now) (counter_view c.in-Some.x) (c.args.k + 1) (shape_view c.args.items.now) (expr_tree c.args.item.now) (gen_tree c.args.first.now) (gens_of c.args.rest.now) (sym c.in-Some.ensures) in
    let made : IsFault left c.inside.new.draft c.in_err-inside.field-0.0 = subst (λ o. IsFault o c.inside.new.draft c.in_err-inside.field-0.0) is c.in_err-inside.ensures.fault in
    let same : c.from_residual.result ≡ Err c.in_err-inside.field-0.0 = search rules in
    subst (λ r. IfErr r (IsFault left c.inside.new.draft)) (sym same) made

pub lists::inside-overflow_add-frame : goal.lists::inside-overflow_add-frame
lists::inside-overflow_add-frame t c =
    let cells = c.requires.begins.cells in
    let fits = c.fitting.ensures in
    omega (arith, cells, fits)

pub lists::inside-overflow_add-k : goal.lists::inside-overflow_add-k
lists::inside-overflow_add-k t c =
    let cells = c.requires.begins.cells in
    let fits = c.fitting.ensures in
    omega (arith, cells, fits)

pub lists::inside-returns-clause-fault : goal.lists::inside-returns-clause-fault
lists::inside-returns-clause-fault t c =
    let gens : Tree = gens_of c.args.rest.now in
    let item : Tree = expr_tree c.args.item.now in
    let items : Shape = shape_view c.args.items.now in
    let inner : seen c.under-inner.result ≡ local c.args.x.name.now c.args.x.kind (c.args.k + 1) ∷ seen c.args.scope.now = search (rules, chain.the_lemmas, shapes.the_lemmas) in
    subst (λ names. IfErr c.elements.result (IsFault (left_out_gens names gens (λ ns. left_out_element items (left_out_in (called c.args.scope.now) ns item) (left_out_fill (called c.args.scope.now) ns items item))) c.elements.new.draft)) inner
    (subst (λ fs. IfErr c.elements.result (IsFault (left_out_gens (seen c.under-inner.result) gens (λ ns. left_out_element items (left_out_in fs ns item) (left_out_fill fs ns items item))) c.elements.new.draft)) c.under-inner.ensures.callees
    c.elements.ensures.fault)

pub lists::list_element-returns-clause-ok : goal.lists::list_element-returns-clause-ok
lists::list_element-returns-clause-ok t c =
    on_ok_weaker c.put_more.result
    (λ r. list_element_adds (called c.args.scope.now) (seen c.args.scope.now) (expr_tree c.args.item.now) (shape_view c.args.items.now) c.in-Some.each c.in_ok-area.area c.args.to c.args.draft.now c.take_row.new.draft c.put.new.draft c.fill.new.draft c.put_all.new.draft c.put_more.new.draft
    c.requires.list c.requires.turn (sym c.in-Some.ensures) c.in_ok-area.ensures.taken c.in_ok-put.ensures.added c.in_ok-fill.ensures.ok c.in_ok-put_all.ensures.added r)
    c.put_more.ensures.added

-- ---- single values, names and parts

pub lists::one-returns-clause-ok : goal.lists::one-returns-clause-ok
lists::one-returns-clause-ok t c = λ t.
    on_ok_weaker c.put.result
    (then_put (IsCode (called c.args.scope.now) (seen c.args.scope.now) (expr_tree c.args.e.now)) (IsFill (called c.args.scope.now) (seen c.args.scope.now) (expr_tree c.args.e.now) (Single t) c.args.cell) (op.Store c.args.cell None ∷ []) c.args.draft.now c.lower.new.draft c.put.new.draft
    (λ base n m code h. one_cell (seen c.args.scope.now) (expr_tree c.args.e.now) t c.args.cell base n m code h) c.in_ok-lower.ensures.ok)
    c.put.ensures.added

pub lists::one_element-returns-clause-ok : goal.lists::one_element-returns-clause-ok
lists::one_element-returns-clause-ok t c = λ t.
    on_ok_weaker c.put_more.result
    (one_adds (called c.args.scope.now) (seen c.args.scope.now) (expr_tree c.args.item.now) t c.args.to c.args.draft.now c.put_all.new.draft c.lower.new.draft c.put.new.draft c.put_more.new.draft
    c.requires.turn c.in_ok-put_all.ensures.added c.in_ok-lower.ensures.ok c.in_ok-put.ensures.added)
    c.put_more.ensures.added

pub lists::index-returns-in-List-clause-whole : goal.lists::index-returns-in-List-clause-whole
lists::index-returns-in-List-clause-whole t c =
    let shaped : shape_view c.args.shape.now ≡ Many c.in-List.field-0 (shape_view c.in-List.field-1.value) = search (rules, shapes.the_lemmas) in
    subst (λ o. OnOk c.part.result (o ≡ None)) (index_left (called c.args.scope.now) (seen c.args.scope.now) (shape_view c.args.shape.now) (shape_view c.in-List.field-1.value) c.in-List.field-0 (expr_tree c.args.base.now) (expr_tree c.args.place.now) c.args.at shaped)
    c.part.ensures.whole

pub lists::index-returns-in-List-clause-fault : goal.lists::index-returns-in-List-clause-fault
lists::index-returns-in-List-clause-fault t c =
    let shaped : shape_view c.args.shape.now ≡ Many c.in-List.field-0 (shape_view c.in-List.field-1.value) = search (rules, shapes.the_lemmas) in
    subst (λ o. IfErr c.part.result (IsFault o c.part.new.draft)) (index_left (called c.args.scope.now) (seen c.args.scope.now) (shape_view c.args.shape.now) (shape_view c.in-List.field-1.value) c.in-List.field-0 (expr_tree c.args.base.now) (expr_tree c.args.place.now) c.args.at shaped)
    c.part.ensures.fault

pub lists::part-returns-clause-ok : goal.lists::part-returns-clause-ok
lists::part-returns-clause-ok t c =
    on_ok_weaker c.put.result
    (λ p. subst (λ e. Adds (IsFill (called c.args.scope.now) (seen c.args.scope.now) e (shape_view c.args.shape.now) c.args.cell) c.args.draft.now c.put.new.draft) c.requires.index
    (part_adds (called c.args.scope.now) (seen c.args.scope.now) (expr_tree c.args.e.now) (shape_view c.args.shape.now) c.args.cell c.in-Some-scalars.size c.in-Some-first_cell.from (part_view c.in-Some.part) c.args.draft.now c.offset.new.draft c.put.new.draft
    (sym c.in-Some.ensures) (sym c.alike.ensures ∙ c.if-not-alike.false) (sym c.in-Some-first_cell.ensures) (sym c.in-Some-scalars.ensures) c.in_ok-offset.ensures.ok p))
    c.put.ensures.added

pub exprs::apart_item-returns-clause-ok : goal.exprs::apart_item-returns-clause-ok
exprs::apart_item-returns-clause-ok t c =
    let n : ℕ = c.in-Some.count in
    let is : shape_view c.in_ok-list.list ≡ Many n (Single scalar.Bool) = c.in_ok-list.ensures.made ∙ ap (λ u. Many n u) c.one_type.ensures in
    let size : sized (shape_view c.in_ok-list.list) ≡ Some c.in-Some-scalars.size = sym c.in-Some-scalars.ensures in
    on_ok_weaker c.put.result
    (λ p. item_adds (called c.args.scope.now) (seen c.args.scope.now) (expr_tree c.args.base.now) (expr_tree c.args.place.now) scalar.Bool n c.in-Some-scalars.size c.in_ok-first.first c.args.at c.args.draft.now c.take_row.new.draft c.fill.new.draft c.lower.new.draft c.put.new.draft
    (subst (λ u. sized u ≡ Some c.in-Some-scalars.size) is size) (subst (λ n. HasMore n c.args.draft.now c.take_row.new.draft c.in_ok-first.first) c.one_at_least.ensures c.in_ok-first.ensures.taken)
    (subst (λ u. Adds (IsFill (called c.args.scope.now) (seen c.args.scope.now) (expr_tree c.args.base.now) u c.in_ok-first.first) c.take_row.new.draft c.fill.new.draft) is c.in_ok-fill.ensures.ok) c.in_ok-lower.ensures.ok p)
    c.put.ensures.added

pub lists::apart_list-returns-clause-ok : goal.lists::apart_list-returns-clause-ok
lists::apart_list-returns-clause-ok t c =
    let n : ℕ = c.in-Some.count in
    let u : Shape = shape_view c.args.shape.now in
    let is : shape_view c.in_ok-list.list ≡ Many n u = c.in_ok-list.ensures.made in
    let size : sized (shape_view c.in_ok-list.list) ≡ Some c.in-Some-scalars.size = sym c.in-Some-scalars.ensures in
    on_ok_weaker c.put_all.result
    (λ p. apart_adds (called c.args.scope.now) (seen c.args.scope.now) (expr_tree c.args.base.now) (expr_tree c.args.place.now) u n c.in-Some-scalars.size c.in-Some-scalars-2.each c.in_ok-first.first c.args.at c.args.cell c.args.draft.now c.take_row.new.draft c.fill.new.draft c.put_const.new.draft c.lower.new.draft c.put_all.new.draft
    (subst (λ y. sized y ≡ Some c.in-Some-scalars.size) is size) (sym c.in-Some-scalars-2.ensures) c.in_ok-first.ensures.taken
    (subst (λ y. Adds (IsFill (called c.args.scope.now) (seen c.args.scope.now) (expr_tree c.args.base.now) y c.in_ok-first.first) c.take_row.new.draft c.fill.new.draft) is c.in_ok-fill.ensures.ok) c.in_ok-put_const.ensures.added c.in_ok-lower.ensures.ok p)
    c.put_all.ensures.added
