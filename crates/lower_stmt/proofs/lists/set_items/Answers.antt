use Rattle.std.proofs.Common.{◌≡◌, ◌≢◌, None, length, rules, string_bytes, subst, sym}
use Rattle.std.proofs.lemmas.Result.{on_ok_weaker}
use Rattle.cal_ast.specs.View.{expr_tree}
use Rattle.std.specs.Prelude.{IfErr, OnOk}
use Rattle.lower_base.specs.Growing.{IsFault}
use Rattle.lower_base.specs.PartView.{places_of}
use Rattle.lower_stmt.specs.StmtSeen.{called, seen}
use Rattle.lower_base.proofs.Adding.{places_number}
use Rattle.lower_stmt.proofs.AddingStmts.{items_adds, items_differ, items_fit}
use Rattle.lower_stmt.proofs.lists.set_items.Goals as goal

pub returns-clause-ok : goal.returns-clause-ok
returns-clause-ok c =
    let size : length c.args.items.now ≡ c.args.to.size = search rules in
    on_ok_weaker c.copy.result
    (λ p list at. items_adds (seen c.args.scope.now) (string_bytes c.args.name.now.text) (places_of c.args.items.now) list c.args.name.now.at at (length c.args.items.now) c.in_ok-first.first c.args.to
    c.args.draft.now c.take_row.new.draft c.keep.new.draft c.copy.new.draft
    c.requires.cells (places_number expr_tree c.args.items.now) size c.in_ok-first.ensures.taken c.in_ok-keep.ensures.ok p)
    c.copy.ensures.added

pub returns-then-items-to-clause-fault : goal.returns-then-items-to-clause-fault
returns-then-items-to-clause-fault c =
    let other : length c.args.items.now ≢ c.args.to.size = search rules in
    items_differ (called c.args.scope.now).functions (seen c.args.scope.now) c.args.to (places_of c.args.items.now) c.args.at (length c.args.items.now) (places_number expr_tree c.args.items.now) other

pub returns-in_err-keep-clause-fault : goal.returns-in_err-keep-clause-fault
returns-in_err-keep-clause-fault c =
    let size : length c.args.items.now ≡ c.args.to.size = search rules in
    subst (λ o. IfErr c.from_residual-in_err-keep.result (IsFault o c.keep.new.draft))
    (sym (items_fit (called c.args.scope.now).functions (seen c.args.scope.now) c.args.to (places_of c.args.items.now) c.args.at (length c.args.items.now) (places_number expr_tree c.args.items.now) size)) (search rules)

pub returns-clause-whole : goal.returns-clause-whole
returns-clause-whole c =
    let size : length c.args.items.now ≡ c.args.to.size = search rules in
    subst (λ o. OnOk c.copy.result (o ≡ None))
    (sym (items_fit (called c.args.scope.now).functions (seen c.args.scope.now) c.args.to (places_of c.args.items.now) c.args.at (length c.args.items.now) (places_number expr_tree c.args.items.now) size)) (search rules)
