use Rattle.std.proofs.Common.{◌≡◌, List, map, rules, subst, sym}
use Rattle.std.proofs.lemmas.List.{length-map}
use Rattle.cal_ast.specs.View.{expr_tree}
use Rattle.cal_model.specs.View.{shape_view}
use Rattle.lower_base.specs.Callees.{Function, functions_view}
use Rattle.lower_base.specs.Lowered.{Adds}
use Rattle.lower_base.specs.Names.{Name, names_view}
use Rattle.lower_base.specs.PartView.{places_of}
use Rattle.lower_base.specs.Seen.{called, seen}
use Rattle.expr_lower.specs.Filling.{AreFills}
use Rattle.action_lower.specs.SendWords.{HasArea}
use Rattle.action_lower.proofs.OutputCode.{turns-added}
use Rattle.action_lower.proofs.outputs.put_lists.Goals as goal

pub returns-clause-code : goal.returns-clause-code
returns-clause-code c =
    let fs : List Function = functions_view c.args.callees.now in
    let names : List Name = names_view c.args.names.now in
    let there : seen c.outermost.result ≡ names = search rules in
    let filled : Adds (AreFills fs names (places_of c.args.values.now) (shape_view c.args.shape.now) c.in_ok-area.area.rows) c.take_area.new.draft c.fill_all.new.draft =
    subst (λ gs. Adds (AreFills gs names (places_of c.args.values.now) (shape_view c.args.shape.now) c.in_ok-area.area.rows) c.take_area.new.draft c.fill_all.new.draft) c.outermost.ensures.callees
    (subst (λ ns. Adds (AreFills (called c.outermost.result) ns (places_of c.args.values.now) (shape_view c.args.shape.now) c.in_ok-area.area.rows) c.take_area.new.draft c.fill_all.new.draft) there c.in_ok-fill_all.ensures.ok) in (
      c.in_ok-area.ensures.taken.is.tokens,
      turns-added fs names (map expr_tree c.args.values.now) c.args.times (shape_view c.args.shape.now) c.args.kind c.in_ok-area.area c.args.draft.now c.take_area.new.draft c.fill_all.new.draft c.put_turns.new.draft c.requires.shape
          (subst (λ k. HasArea k (shape_view c.args.shape.now) c.args.draft.now c.take_area.new.draft c.in_ok-area.area) (sym (length-map c.args.values.now expr_tree)) c.in_ok-area.ensures.taken) filled c.in_ok-put_turns.ensures.added,
    )
