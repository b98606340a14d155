use Rattle.std.proofs.Common.{◌≡◌, ◌∙◌, Err, ap, length, rules, string_bytes, subst, sym}
use Rattle.std.specs.Prelude.{IfErr}
use Rattle.std.proofs.lemmas.Result.{on_ok_weaker}
use Rattle.cal_ast.specs.View.{expr_tree}
use Rattle.cal_model.specs.View.{shape_view}
use Rattle.lower_base.specs.Growing.{IsFault, ◌or_else◌}
use Rattle.lower_base.specs.PartView.{places_of}
use Rattle.expr_lower.specs.LeftOut.{left_out_fill}
use Rattle.lower_stmt.specs.SeenStmts.{left_out_item}
use Rattle.lower_stmt.specs.StmtSeen.{called, seen}
use Rattle.lower_base.proofs.Adding.{places_number}
use Rattle.lower_stmt.proofs.AddingStmts.{fill_adds, part_fault, part_open, part_room}
use Rattle.lower_stmt.proofs.deep.fill_part.Goals as goal

pub fill-requires : goal.fill-requires
fill-requires c =
    record {
      cells = part_room (seen c.args.scope.now) (string_bytes c.args.name.now.text) (places_of c.args.places.now) c.in_ok-cell.cell c.in_ok-from.from c.args.target
          c.take_row.new.draft c.take_row-2.new.draft c.keep.new.draft c.requires.target c.in_ok-from.ensures.taken c.in_ok-keep.ensures.ok;
    }

pub returns-clause-ok : goal.returns-clause-ok
returns-clause-ok c =
    on_ok_weaker c.put_part.result
    (fill_adds (seen c.args.scope.now) (string_bytes c.args.name.now.text) (places_of c.args.places.now) (expr_tree c.args.value.now) c.args.name.now.at c.args.at (length c.args.places.now) c.in_ok-cell.cell c.in_ok-from.from c.args.target
    c.args.draft.now c.take_row.new.draft c.take_row-2.new.draft c.keep.new.draft c.fill.new.draft c.put_part.new.draft
    c.requires.target (places_number expr_tree c.args.places.now) c.in_ok-cell.ensures.taken c.in_ok-from.ensures.taken c.in_ok-keep.ensures.ok c.in_ok-fill.ensures.ok)
    c.put_part.ensures.added

pub returns-clause-whole : goal.returns-clause-whole
returns-clause-whole c =
    on_ok_weaker c.put_part.result
    (λ p. part_open (called c.args.scope.now).functions (seen c.args.scope.now) (string_bytes c.args.name.now.text) (places_of c.args.places.now) (expr_tree c.args.value.now) c.args.at c.args.target c.requires.target
    ∙ ap (λ o. o or_else left_out_fill (called c.args.scope.now).functions (seen c.args.scope.now) (shape_view c.args.target.part.now) (expr_tree c.args.value.now)) c.in_ok-keep.ensures.whole
    ∙ c.in_ok-fill.ensures.whole)
    c.put_part.ensures.added

pub returns-in_err-keep-clause-fault : goal.returns-in_err-keep-clause-fault
returns-in_err-keep-clause-fault c =
    let same : c.from_residual-in_err-keep.result ≡ Err c.in_err-keep.field-0.0 = search rules in
    subst (λ r. IfErr r (IsFault (left_out_item c.args.scope.now c.args.name.now c.args.places.now c.args.value.now c.args.at) c.keep.new.draft)) (sym same)
    (part_fault (called c.args.scope.now).functions (seen c.args.scope.now) (string_bytes c.args.name.now.text) (places_of c.args.places.now) (expr_tree c.args.value.now) c.args.at c.args.target c.keep.new.draft c.in_err-keep.field-0.0 c.requires.target c.in_err-keep.ensures.fault)

pub returns-in_err-fill-clause-fault : goal.returns-in_err-fill-clause-fault
returns-in_err-fill-clause-fault c =
    let same : c.from_residual-in_err-fill.result ≡ Err c.in_err-fill.field-0.0 = search rules in
    subst (λ r. IfErr r (IsFault (left_out_item c.args.scope.now c.args.name.now c.args.places.now c.args.value.now c.args.at) c.fill.new.draft)) (sym same)
    (subst (λ o. IsFault o c.fill.new.draft c.in_err-fill.field-0.0)
    (sym (part_open (called c.args.scope.now).functions (seen c.args.scope.now) (string_bytes c.args.name.now.text) (places_of c.args.places.now) (expr_tree c.args.value.now) c.args.at c.args.target c.requires.target
    ∙ ap (λ o. o or_else left_out_fill (called c.args.scope.now).functions (seen c.args.scope.now) (shape_view c.args.target.part.now) (expr_tree c.args.value.now)) c.in_ok-keep.ensures.whole))
    c.in_err-fill.ensures.fault)
