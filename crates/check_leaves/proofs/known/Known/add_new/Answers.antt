use Rattle.cal_imports.specs.View.{sources}
use Rattle.cal_model.specs.View.{actor_of}
use Rattle.fnl_tree.specs.View.{leaf_of}
use Rattle.check_leaves.proofs.Held.{kept}
use Rattle.check_leaves.proofs.known.Known.add_new.Goals as goal

pub returns-in-Ok : goal.returns-in-Ok
returns-in-Ok c =
    kept (sources c.args.files.now) (leaf_of c.args.leaf.now) (actor_of c.in_ok-actor.actor) c.args.self.now c.keep.new.self
    c.requires.indexed c.requires.unlike c.in_ok-actor.ensures c.in-Ok.ensures
