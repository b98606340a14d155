use Rattle.std.proofs.Common.{Some, subst}
use Rattle.cal_imports.specs.View.{sources}
use Rattle.fnl_tree.specs.View.{leaf_of}
use Rattle.check_leaves.specs.Finding.{IsFound, all_linked, leaves_of}
use Rattle.check_leaves.proofs.Held.{adds_repeated}
use Rattle.check_leaves.proofs.known.Known.add.Goals as goal

pub returns-in-Some : goal.returns-in-Some
returns-in-Some c =
    adds_repeated c.repeat.result (sources c.args.files.now) (leaf_of c.args.leaf.now) c.in-Some.place c.args.self.now c.repeat.new.self c.requires.indexed
    (subst (λ fs. IsFound (Some c.in-Some.place) (leaves_of (all_linked fs)) (leaf_of c.args.leaf.now)) c.deref.ensures.value c.in-Some.ensures)
    c.repeat.ensures
