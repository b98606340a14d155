use Rattle.std.proofs.Common.{◌≡◌, ◌∷◌, [], length, map, ap, Err, None, Some, SFits, of_z, to_z, string_bytes, subst, sym, rules, arith}
use Rattle.std.specs.Prelude.{IfErr, OnOk}
use Rattle.std.proofs.lemmas.Int.{to_z-of_z}
use Rattle.std.proofs.lemmas.Result.{on_ok_weaker}
use Rattle.rvc_base.specs.Width.{num_width}
use Rattle.cal_ast.specs.Tree as tree
use Rattle.cal_ast.specs.Tree.{Tree, listed}
use Rattle.cal_ast.specs.View.{expr_tree, optional_expr, stmt_tree, type_tree, var_tree}
use Rattle.cal_ast.specs.declared.member.VarDecl.{VarDecl}
use Rattle.cal_model.specs.Value.{Single}
use Rattle.cal_model.specs.View.{shape_view}
use Rattle.cal_model.specs.declared.kind.Shape as shapes
use Rattle.lower_base.specs.Growing.{IsFault}
use Rattle.lower_base.specs.Lowered.{IsPut}
use Rattle.code_ir.specs.declared.instr.Instr.TheVariants as op
use Rattle.lower_stmt.specs.declared.counter.Counter.{Counter}
use Rattle.lower_stmt.specs.Stating.{AreStmts, IsBlock, IsStmt, block_code, count_first, count_next, each_next, no_more}
use Rattle.lower_base.specs.Meant.{single_meant}
use Rattle.expr_lower.specs.ShapeMeant.{shape_meant}
use Rattle.lower_stmt.specs.StmtSeen.{called, seen}
use Rattle.lower_stmt.specs.SeenStmts.{AddsBlock, AddsStmt, AreWhyNot, IsWhyNot, behind, left_out_block}
use Rattle.lower_stmt.specs.StmtWords.{body_of, counted_of, foreach_of}
use Rattle.lower_base.proofs.Adding.{length_join, same_adds, no_items}
use Rattle.lower_stmt.proofs.AddingStmts.{counted_adds, counted_fault, counted_whole, each_adds, each_fault, each_whole, none_added, list_open, list_variable_adds, variable_adds, variable_open, more_added, fault_among, alone_adds, fork_adds, while_adds, weight_item}
use Rattle.lower_stmt.proofs.StmtForms.{stmt_block, stmt_foreach, stmt_if, stmt_while}
use Rattle.lower_stmt.proofs.stmts.+lower_stmt.Goals as goal

pub alone-returns-clause-ok : goal.alone-returns-clause-ok
alone-returns-clause-ok t c = λ at.
    alone_adds (seen c.args.scope.now) (expr_tree c.args.test.now) (body_of c.args.yes.now) at c.args.draft.now c.lower_test.new.draft c.lower_all.new.draft c.close.new.draft
    c.len-start.result c.len-exits.result c.in_ok-end.end
    c.in_ok-lower_test.ensures.ok c.in_ok-lower_all.ensures.ok
    (search rules) (search rules) c.in_ok-end.ensures.place
    c.close.ensures.closed c.close.ensures.routines c.close.ensures.cells

pub fork-returns-clause-ok : goal.fork-returns-clause-ok
fork-returns-clause-ok t c = λ at.
    fork_adds (seen c.args.scope.now) (expr_tree c.args.test.now) (body_of c.args.yes.now) (body_of c.args.no.now) at c.args.draft.now c.lower_test.new.draft c.lower_all.new.draft c.put.new.draft c.lower_all-2.new.draft c.link.new.draft (op.Jump 0)
    c.len-start.result c.len-exits.result c.in_ok-out.out c.len-jump.result c.in_ok-end.end
    c.in_ok-lower_test.ensures.ok c.in_ok-lower_all.ensures.ok c.in_ok-put.ensures.added c.in_ok-lower_all-2.ensures.ok
    (search rules) (search rules) (search rules) c.in_ok-out.ensures.place c.in_ok-end.ensures.place
    c.link.ensures.linked c.link.ensures.routines c.link.ensures.cells

pub repeat-returns-clause-ok : goal.repeat-returns-clause-ok
repeat-returns-clause-ok t c = λ at.
    while_adds (seen c.args.scope.now) (expr_tree c.args.test.now) (body_of c.args.body.now) at c.args.draft.now c.put.new.draft c.put-2.new.draft c.lower_all.new.draft c.lower_test.new.draft c.put-3.new.draft c.close.new.draft c.jump_at.new.draft (op.Jump 0)
    c.len-start.result c.in_ok-turn.turn c.len-first.result c.in_ok-head.head c.len-exits.result c.in_ok-out.out
    c.in_ok-put.ensures.added c.in_ok-put-2.ensures.added c.in_ok-lower_all.ensures.ok c.in_ok-lower_test.ensures.ok c.in_ok-put-3.ensures.added
    (search rules) c.in_ok-turn.ensures.place (search rules) c.in_ok-head.ensures.place (search rules) c.in_ok-out.ensures.place
    c.close.ensures.closed c.close.ensures.routines c.close.ensures.cells
    c.jump_at.ensures.aimed c.jump_at.ensures.routines c.jump_at.ensures.cells

pub each_between-returns-clause-ok : goal.each_between-returns-clause-ok
each_between-returns-clause-ok t c =
    let found : single_meant (type_tree c.args.shape.now) ≡ Some c.in-Some.kind = sym c.in-Some.ensures in
    each_adds (seen c.args.scope.now) (type_tree c.args.shape.now) (expr_tree c.args.from.now) (expr_tree c.args.to.now) (body_of c.args.body.now) (string_bytes c.args.name.now.text) c.args.name.now.at c.args.at c.in-Some.kind c.in_ok-counter.counter
    c.args.draft.now c.take_cells.new.draft c.lower.new.draft c.lower-2.new.draft c.put_bounds.new.draft c.put.new.draft c.put_turn.new.draft c.each_body.new.draft c.put_less.new.draft c.put-2.new.draft c.put_next.new.draft c.exit_at.new.draft c.exit_at-2.new.draft
    c.len-skip.result c.in_ok-turn.turn c.len-exit.result c.in_ok-out.out
    found c.in_ok-counter.ensures.taken c.in_ok-lower.ensures.ok c.in_ok-lower-2.ensures.ok
    c.in_ok-put_bounds.ensures.added c.in_ok-put.ensures.added c.in_ok-put_turn.ensures.added c.in_ok-each_body.ensures.ok
    c.in_ok-put_less.ensures.added c.in_ok-put-2.ensures.added c.in_ok-put_next.ensures.added
    (search rules) c.in_ok-turn.ensures.place (search rules) c.in_ok-out.ensures.place
    c.exit_at.ensures.aimed c.exit_at.ensures.routines c.exit_at.ensures.cells
    c.exit_at-2.ensures.aimed c.exit_at-2.ensures.routines c.exit_at-2.ensures.cells

pub each_between-returns-clause-whole : goal.each_between-returns-clause-whole
each_between-returns-clause-whole t c =
    let found : single_meant (type_tree c.args.shape.now) ≡ Some c.in-Some.kind = sym c.in-Some.ensures in
    each_whole (called c.args.scope.now) (seen c.args.scope.now) (type_tree c.args.shape.now) (expr_tree c.args.from.now) (expr_tree c.args.to.now) (body_of c.args.body.now) (string_bytes c.args.name.now.text) c.args.name.now.at c.args.at
    c.in_ok-counter.counter.variable c.in-Some.kind c.in_ok-counter.counter.kind found (ap (λ (x : Counter). x.kind) c.in_ok-counter.ensures.taken.is)
    c.in_ok-lower.ensures.whole c.in_ok-lower-2.ensures.whole c.in_ok-each_body.ensures.whole

pub each_between-returns-in_err-each_body-clause-fault : goal.each_between-returns-in_err-each_body-clause-fault
each_between-returns-in_err-each_body-clause-fault t c =
    let found : single_meant (type_tree c.args.shape.now) ≡ Some c.in-Some.kind = sym c.in-Some.ensures in
    let made : IsWhyNot c.args.scope.now (foreach_of c.args.shape.now c.args.name.now c.args.from.now c.args.to.now c.args.body.now c.args.at) c.each_body.new.draft c.in_err-each_body.field-0.0 =
    each_fault (called c.args.scope.now) (seen c.args.scope.now) (type_tree c.args.shape.now) (expr_tree c.args.from.now) (expr_tree c.args.to.now) (body_of c.args.body.now) (string_bytes c.args.name.now.text) c.args.name.now.at c.args.at
    c.in_ok-counter.counter.variable c.in-Some.kind c.in_ok-counter.counter.kind c.each_body.new.draft c.in_err-each_body.field-0.0 found (ap (λ (x : Counter). x.kind) c.in_ok-counter.ensures.taken.is)
    c.in_ok-lower.ensures.whole c.in_ok-lower-2.ensures.whole c.in_err-each_body.ensures.fault in
    let same : c.from_residual-in_err-each_body.result ≡ Err c.in_err-each_body.field-0.0 = search rules in
    subst (λ r. IfErr r (IsWhyNot c.args.scope.now (foreach_of c.args.shape.now c.args.name.now c.args.from.now c.args.to.now c.args.body.now c.args.at) c.each_body.new.draft)) (sym same) made

pub each_counted-returns-clause-ok : goal.each_counted-returns-clause-ok
each_counted-returns-clause-ok t c = λ shape from to at counts.
    let low_fits : SFits num_width c.args.span.low = search rules in
    let high_fits : SFits num_width c.args.span.high = search rules in
    let low_same : to_z num_width (of_z num_width c.args.span.low) ≡ c.args.span.low = to_z-of_z num_width c.args.span.low low_fits in
    let high_same : to_z num_width (of_z num_width c.args.span.high) ≡ c.args.span.high = to_z-of_z num_width c.args.span.high high_fits in
    on_ok_weaker c.put_count.result
    (λ (p : IsPut (count_next c.in_ok-cell.cell (to_z num_width (of_z num_width c.args.span.high)) c.in_ok-turn.turn) c.each_body.new.draft c.put_count.new.draft).
    counted_adds (seen c.args.scope.now) shape from to (body_of c.args.body.now) (string_bytes c.args.name.now.text) c.args.name.now.at at c.args.span c.in_ok-cell.cell
    c.args.draft.now c.take_cell.new.draft c.put_first.new.draft c.put_turn_alone.new.draft c.each_body.new.draft c.put_count.new.draft c.in_ok-turn.turn
    counts c.in_ok-cell.ensures.taken (subst (λ z. IsPut (count_first c.in_ok-cell.cell z) c.take_cell.new.draft c.put_first.new.draft) low_same c.in_ok-put_first.ensures.added) c.in_ok-turn.ensures.place c.in_ok-put_turn_alone.ensures.added c.in_ok-each_body.ensures.ok
    (subst (λ z. IsPut (count_next c.in_ok-cell.cell z c.in_ok-turn.turn) c.each_body.new.draft c.put_count.new.draft) high_same p))
    c.put_count.ensures.added

pub each_counted-returns-clause-whole : goal.each_counted-returns-clause-whole
each_counted-returns-clause-whole t c = λ shape from to at counts.
    on_ok_weaker c.put_count.result
    (λ (p : IsPut (count_next c.in_ok-cell.cell (to_z num_width (of_z num_width c.args.span.high)) c.in_ok-turn.turn) c.each_body.new.draft c.put_count.new.draft).
    counted_whole (called c.args.scope.now) (seen c.args.scope.now) shape from to (body_of c.args.body.now) (string_bytes c.args.name.now.text) c.args.name.now.at at c.in_ok-cell.cell c.args.span
    counts c.in_ok-each_body.ensures.whole)
    c.put_count.ensures.added

pub each-returns-in-Some-clause-ok : goal.each-returns-in-Some-clause-ok
each-returns-in-Some-clause-ok t c =
    c.each_counted.ensures.ok (type_tree c.args.shape.now) (expr_tree c.args.from.now) (expr_tree c.args.to.now) c.args.at c.in-Some.ensures.counts

pub each-returns-in-Some-clause-whole : goal.each-returns-in-Some-clause-whole
each-returns-in-Some-clause-whole t c =
    c.each_counted.ensures.whole (type_tree c.args.shape.now) (expr_tree c.args.from.now) (expr_tree c.args.to.now) c.args.at c.in-Some.ensures.counts

pub each-returns-in-Some-clause-fault : goal.each-returns-in-Some-clause-fault
each-returns-in-Some-clause-fault t c =
    c.each_counted.ensures.fault (type_tree c.args.shape.now) (expr_tree c.args.from.now) (expr_tree c.args.to.now) c.args.at c.in-Some.ensures.counts

pub each_counted-returns-in_err-each_body-clause-fault : goal.each_counted-returns-in_err-each_body-clause-fault
each_counted-returns-in_err-each_body-clause-fault t c = λ shape from to at counts.
    let made : IsWhyNot c.args.scope.now (counted_of shape c.args.name.now from to c.args.body.now at) c.each_body.new.draft c.in_err-each_body.field-0.0 =
    counted_fault (called c.args.scope.now) (seen c.args.scope.now) shape from to (body_of c.args.body.now) (string_bytes c.args.name.now.text) c.args.name.now.at at c.in_ok-cell.cell c.args.span
    c.each_body.new.draft c.in_err-each_body.field-0.0 counts c.in_err-each_body.ensures.fault in
    let same : c.from_residual-in_err-each_body.result ≡ Err c.in_err-each_body.field-0.0 = search rules in
    subst (λ r. IfErr r (IsWhyNot c.args.scope.now (counted_of shape c.args.name.now from to c.args.body.now at) c.each_body.new.draft)) (sym same) made

pub each_between-exit_at-requires-2 : goal.each_between-exit_at-requires-2
each_between-exit_at-requires-2 t c =
    let l9 = length_join c.put_less.new.draft.instrs.items c.put-2.new.draft.instrs.items (op.JumpIfNot 0 ∷ []) c.in_ok-put-2.ensures.added.is in
    let l10 = length_join c.put-2.new.draft.instrs.items c.put_next.new.draft.instrs.items (each_next c.in_ok-counter.counter c.in_ok-turn.turn) c.in_ok-put_next.ensures.added.is in
    let size = c.exit_at.ensures.size in
    let at : c.len-exit.result ≡ length c.put_less.new.draft.instrs.items = search rules in
    omega (arith, l9, l10, size, at)

pub lower_stmt-returns-in-Foreach-clause-ok : goal.lower_stmt-returns-in-Foreach-clause-ok
lower_stmt-returns-in-Foreach-clause-ok t c =
    subst (λ (s : Tree). OnOk c.each.result (AddsStmt c.args.scope.now s c.args.draft.now c.each.new.draft))
    (sym (stmt_foreach c.args.s.now c.in-Foreach.shape c.in-Foreach.name c.in-Foreach.from c.in-Foreach.to c.in-Foreach.body c.deref-in-Foreach.result.now c.in-Foreach.is c.deref-in-Foreach.ensures.value)) c.each.ensures.ok

pub lower_stmt-returns-in-If-clause-ok : goal.lower_stmt-returns-in-If-clause-ok
lower_stmt-returns-in-If-clause-ok t c =
    subst (λ (s : Tree). OnOk c.branch-scope.result (AddsStmt c.args.scope.now s c.args.draft.now c.branch-scope.new.draft))
    (sym (stmt_if c.args.s.now c.in-If.test c.in-If.yes c.in-If.no c.deref-in-If.result.now c.in-If.is c.deref-in-If.ensures.value)) (c.branch-scope.ensures.ok c.args.s.now.at)

pub lower_stmt-returns-in-While-clause-ok : goal.lower_stmt-returns-in-While-clause-ok
lower_stmt-returns-in-While-clause-ok t c =
    subst (λ (s : Tree). OnOk c.repeat.result (AddsStmt c.args.scope.now s c.args.draft.now c.repeat.new.draft))
    (sym (stmt_while c.args.s.now c.in-While.test c.in-While.body c.deref-in-While.result.now c.in-While.is c.deref-in-While.ensures.value)) (c.repeat.ensures.ok c.args.s.now.at)

pub lower_all-loop-s-preserved : goal.lower_all-loop-s-preserved
lower_all-loop-s-preserved t c =
    more_added stmt_tree (seen c.args.scope.now) c.args.body.now c.s-item.result c.loop-s.s-index c.args.draft.now c.loop-s.draft c.lower_stmt.new.draft
    c.loop-s-test.true c.s-item.is c.loop-s.invariant c.in_ok-lower_stmt.ensures.ok c.in_ok-lower_stmt.ensures.whole

pub lower_all-loop-s-init : goal.lower_all-loop-s-init
lower_all-loop-s-init t c = none_added (seen c.args.scope.now) c.args.draft.now

pub lower_all-lower_stmt-requires : goal.lower_all-lower_stmt-requires
lower_all-lower_stmt-requires t c =
    (let lighter = weight_item stmt_tree c.args.body.now c.s-item.result c.loop-s.s-index c.loop-s-test.true c.s-item.is in omega arith, tt)

pub lower_all-returns-in_err-lower_stmt-clause-fault : goal.lower_all-returns-in_err-lower_stmt-clause-fault
lower_all-returns-in_err-lower_stmt-clause-fault t c =
    let made : AreWhyNot c.args.scope.now (body_of c.args.body.now) c.lower_stmt.new.draft c.in_err-lower_stmt.field-0.0 =
    fault_among (called c.args.scope.now) stmt_tree (seen c.args.scope.now) c.args.body.now c.s-item.result c.loop-s.s-index c.lower_stmt.new.draft c.in_err-lower_stmt.field-0.0
    c.loop-s-test.true c.s-item.is c.loop-s.invariant.whole c.in_err-lower_stmt.ensures.fault in
    let same : c.from_residual.result ≡ Err c.in_err-lower_stmt.field-0.0 = search rules in
    subst (λ r. IfErr r (AreWhyNot c.args.scope.now (body_of c.args.body.now) c.lower_stmt.new.draft)) (sym same) made

pub lower_stmt-returns-in-Block-clause-ok : goal.lower_stmt-returns-in-Block-clause-ok
lower_stmt-returns-in-Block-clause-ok t c =
    subst (λ (s : Tree). OnOk c.block.result (AddsStmt c.args.scope.now s c.args.draft.now c.block.new.draft))
    (sym (stmt_block c.args.s.now c.in-Block.vars c.in-Block.body c.deref-in-Block.result.now c.deref-in-Block-2.result.now c.in-Block.is c.deref-in-Block.ensures.value c.deref-in-Block-2.ensures.value))
    (on_ok_weaker c.block.result (same_adds (IsBlock (called c.args.scope.now) (seen c.args.scope.now) _ _) (IsStmt (called c.args.scope.now) (seen c.args.scope.now) _) c.args.draft.now c.block.new.draft (λ base n m code h. block_code (seen c.args.scope.now) _ _ c.args.s.now.at base n m code h)) c.block.ensures.ok)

pub lower_stmt-returns-in-Block-clause-fault : goal.lower_stmt-returns-in-Block-clause-fault
lower_stmt-returns-in-Block-clause-fault t c =
    subst (λ (s : Tree). IfErr c.block.result (IsWhyNot c.args.scope.now s c.block.new.draft))
    (sym (stmt_block c.args.s.now c.in-Block.vars c.in-Block.body c.deref-in-Block.result.now c.deref-in-Block-2.result.now c.in-Block.is c.deref-in-Block.ensures.value c.deref-in-Block-2.ensures.value))
    c.block.ensures.fault

pub block-returns-in-None-clause-ok : goal.block-returns-in-None-clause-ok
block-returns-in-None-clause-ok t c =
    let size : length c.args.vars.now ≡ 0 = search rules in
    let none : c.args.vars.now ≡ [] = no_items c.args.vars.now size in
    subst (λ vs. OnOk c.lower_all.result (AddsBlock (called c.args.scope.now) (seen c.args.scope.now) vs c.args.body.now c.args.draft.now c.lower_all.new.draft)) (sym none)
    (on_ok_weaker c.lower_all.result
    (same_adds (AreStmts (called c.args.scope.now) (seen c.args.scope.now) (body_of c.args.body.now)) (IsBlock (called c.args.scope.now) (seen c.args.scope.now) tree.nil (body_of c.args.body.now)) c.args.draft.now c.lower_all.new.draft (λ base n m code h. no_more (seen c.args.scope.now) (body_of c.args.body.now) base n m code h))
    c.lower_all.ensures.ok)

pub one_variable-returns-clause-ok : goal.one_variable-returns-clause-ok
one_variable-returns-clause-ok t c =
    let v : VarDecl = c.args.first.now in
    let one : shape_view (shapes.Scalar c.args.kind) ≡ Single c.args.kind = search (rules, shapes.the_lemmas) in
    on_ok_weaker c.behind.result
    (variable_adds (seen c.args.scope.now) (type_tree v.shape) (optional_expr v.start) (listed (map var_tree c.args.rest.now)) (body_of c.args.body.now) (string_bytes v.name.text) v.name.at v.at c.in_ok-cell.cell c.args.kind v.changes
    c.args.draft.now c.take_cell.new.draft c.start.new.draft c.behind.new.draft c.requires.meant c.in_ok-cell.ensures.taken c.in_ok-start.ensures.ok)
    (subst (λ s. OnOk c.behind.result (AddsBlock (called c.args.scope.now) (behind v s c.in_ok-cell.cell c.args.scope.now) c.args.rest.now c.args.body.now c.start.new.draft c.behind.new.draft)) one c.behind.ensures.ok)

pub one_variable-returns-clause-whole : goal.one_variable-returns-clause-whole
one_variable-returns-clause-whole t c =
    let v : VarDecl = c.args.first.now in
    let same : left_out_block (called c.args.scope.now) (seen c.args.scope.now) (v ∷ c.args.rest.now) c.args.body.now ≡ left_out_block (called c.args.scope.now) (behind v (Single c.args.kind) c.in_ok-cell.cell c.args.scope.now) c.args.rest.now c.args.body.now =
    variable_open (called c.args.scope.now) (seen c.args.scope.now) (type_tree v.shape) (optional_expr v.start) (listed (map var_tree c.args.rest.now)) (body_of c.args.body.now) (string_bytes v.name.text) v.name.at v.at c.in_ok-cell.cell c.args.kind v.changes c.requires.meant c.in_ok-start.ensures.whole in
    let one : shape_view (shapes.Scalar c.args.kind) ≡ Single c.args.kind = search (rules, shapes.the_lemmas) in
    subst (λ o. OnOk c.behind.result (o ≡ None)) (sym same) (subst (λ s. OnOk c.behind.result (left_out_block (called c.args.scope.now) (behind v s c.in_ok-cell.cell c.args.scope.now) c.args.rest.now c.args.body.now ≡ None)) one c.behind.ensures.whole)

pub one_variable-returns-clause-fault : goal.one_variable-returns-clause-fault
one_variable-returns-clause-fault t c =
    let v : VarDecl = c.args.first.now in
    let same : left_out_block (called c.args.scope.now) (seen c.args.scope.now) (v ∷ c.args.rest.now) c.args.body.now ≡ left_out_block (called c.args.scope.now) (behind v (Single c.args.kind) c.in_ok-cell.cell c.args.scope.now) c.args.rest.now c.args.body.now =
    variable_open (called c.args.scope.now) (seen c.args.scope.now) (type_tree v.shape) (optional_expr v.start) (listed (map var_tree c.args.rest.now)) (body_of c.args.body.now) (string_bytes v.name.text) v.name.at v.at c.in_ok-cell.cell c.args.kind v.changes c.requires.meant c.in_ok-start.ensures.whole in
    let one : shape_view (shapes.Scalar c.args.kind) ≡ Single c.args.kind = search (rules, shapes.the_lemmas) in
    subst (λ o. IfErr c.behind.result (IsFault o c.behind.new.draft)) (sym same) (subst (λ s. IfErr c.behind.result (IsFault (left_out_block (called c.args.scope.now) (behind v s c.in_ok-cell.cell c.args.scope.now) c.args.rest.now c.args.body.now) c.behind.new.draft)) one c.behind.ensures.fault)

-- ---- variables that are lists

pub list_variable-returns-clause-ok : goal.list_variable-returns-clause-ok
list_variable-returns-clause-ok t c =
    let v : VarDecl = c.args.first.now in
    let meant : shape_meant (type_tree v.shape) ≡ Some (shape_view c.in-Some.shape) = search rules in
    on_ok_weaker c.behind.result
    (list_variable_adds (seen c.args.scope.now) (type_tree v.shape) (optional_expr v.start) (listed (map var_tree c.args.rest.now)) (body_of c.args.body.now) (string_bytes v.name.text) v.name.at v.at c.in_ok-cell.cell (shape_view c.in-Some.shape) v.changes
    c.args.draft.now c.start_list.new.draft c.behind.new.draft meant c.in_ok-cell.ensures.cell c.in_ok-cell.ensures.ok)
    c.behind.ensures.ok

pub list_variable-returns-clause-whole : goal.list_variable-returns-clause-whole
list_variable-returns-clause-whole t c =
    let v : VarDecl = c.args.first.now in
    let meant : shape_meant (type_tree v.shape) ≡ Some (shape_view c.in-Some.shape) = search rules in
    let same : left_out_block (called c.args.scope.now) (seen c.args.scope.now) (v ∷ c.args.rest.now) c.args.body.now ≡ left_out_block (called c.args.scope.now) (behind v (shape_view c.in-Some.shape) c.in_ok-cell.cell c.args.scope.now) c.args.rest.now c.args.body.now =
    list_open (called c.args.scope.now) (seen c.args.scope.now) (type_tree v.shape) (optional_expr v.start) (listed (map var_tree c.args.rest.now)) (body_of c.args.body.now) (string_bytes v.name.text) v.name.at v.at c.in_ok-cell.cell (shape_view c.in-Some.shape) v.changes c.requires.not_one meant c.in_ok-cell.ensures.whole in
    subst (λ o. OnOk c.behind.result (o ≡ None)) (sym same) c.behind.ensures.whole

pub list_variable-returns-clause-fault : goal.list_variable-returns-clause-fault
list_variable-returns-clause-fault t c =
    let v : VarDecl = c.args.first.now in
    let meant : shape_meant (type_tree v.shape) ≡ Some (shape_view c.in-Some.shape) = search rules in
    let same : left_out_block (called c.args.scope.now) (seen c.args.scope.now) (v ∷ c.args.rest.now) c.args.body.now ≡ left_out_block (called c.args.scope.now) (behind v (shape_view c.in-Some.shape) c.in_ok-cell.cell c.args.scope.now) c.args.rest.now c.args.body.now =
    list_open (called c.args.scope.now) (seen c.args.scope.now) (type_tree v.shape) (optional_expr v.start) (listed (map var_tree c.args.rest.now)) (body_of c.args.body.now) (string_bytes v.name.text) v.name.at v.at c.in_ok-cell.cell (shape_view c.in-Some.shape) v.changes c.requires.not_one meant c.in_ok-cell.ensures.whole in
    subst (λ o. IfErr c.behind.result (IsFault o c.behind.new.draft)) (sym same) c.behind.ensures.fault
