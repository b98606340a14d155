use Rattle.std.proofs.Common.{◌≡◌, true, false, None, Some, sym, subst, ap, ◌∙◌, is_some, refl, rules}
use Rattle.std.specs.Prelude.{max}
use Rattle.fnl_tree.specs.View.{tree_of}
use Rattle.fnl_flatten.specs.Arrows.{entries_of, writer_of}
use Rattle.fnl_flatten.specs.View.{heads_of}
use Rattle.fnl_flatten.proofs.Walking.{Walked, falls, walked_more, walked_none, walked_origin, walked_out, writer_leads}
use Rattle.fnl_flatten.proofs.origin.origin.Goals as goal

pub walk-init : goal.walk-init
walk-init c = walked_none (tree_of c.args.tree.now) (heads_of c.args.heads.now) c.args.joint

pub returns-then-is_some : goal.returns-then-is_some
returns-then-is_some c =
    let found : writer_of c.walk.current (entries_of (tree_of c.args.tree.now) (heads_of c.args.heads.now)) ≡ Some c.in-Some.writer =
    ap (writer_of c.walk.current) (sym c.requires.entered) ∙ sym c.in-Some.ensures in
    let has : is_some c.writing_end.result ≡ true = search rules in
    let size : c.max-size.result ≡ max c.in-Some.writer.size c.walk.size = search rules in
    walked_origin (tree_of c.args.tree.now) (heads_of c.args.heads.now) c.args.joint c.walk.current c.walk.size c.in-Some.writer
    (record { joint = c.in-Some.writer.joint; size = c.max-size.result }) found (ap is_some (sym c.writing_end.ensures) ∙ has) refl size c.walk.invariant

pub walk-smaller : goal.walk-smaller
walk-smaller c =
    let found : writer_of c.walk.current (entries_of (tree_of c.args.tree.now) (heads_of c.args.heads.now)) ≡ Some c.in-Some.writer =
    ap (writer_of c.walk.current) (sym c.requires.entered) ∙ sym c.in-Some.ensures in
    falls (tree_of c.args.tree.now) (heads_of c.args.heads.now) c.requires.whole.sound c.requires.fine c.in-Some.writer.joint c.walk.current c.in-Some.writer.size
    (writer_leads (tree_of c.args.tree.now) (heads_of c.args.heads.now) c.walk.current c.in-Some.writer found)

pub walk-preserved : goal.walk-preserved
walk-preserved c =
    let found : writer_of c.walk.current (entries_of (tree_of c.args.tree.now) (heads_of c.args.heads.now)) ≡ Some c.in-Some.writer =
    ap (writer_of c.walk.current) (sym c.requires.entered) ∙ sym c.in-Some.ensures in
    let lacks : is_some c.writing_end.result ≡ false = search rules in
    let size : c.max-size.result ≡ max c.in-Some.writer.size c.walk.size = search rules in
    subst (λ n. Walked (tree_of c.args.tree.now) (heads_of c.args.heads.now) c.args.joint c.in-Some.writer.joint n) (sym size)
    (walked_more (tree_of c.args.tree.now) (heads_of c.args.heads.now) c.requires.whole.sound c.requires.fine c.args.joint c.walk.current c.walk.size c.in-Some.writer
    found (ap is_some (sym c.writing_end.ensures) ∙ lacks) c.walk.invariant)

pub returns : goal.returns
returns c =
    let lacks : writer_of c.walk.current c.args.writers.now ≡ None = search rules in
    walked_out (tree_of c.args.tree.now) (heads_of c.args.heads.now) c.requires.whole.sound c.requires.fine c.args.joint c.walk.current c.walk.size
    (ap (writer_of c.walk.current) (sym c.requires.entered) ∙ lacks) c.walk.invariant
