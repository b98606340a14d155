-- The sound actors of some leaves are leaves of a network.
use Rattle.std.proofs.Common.{ap, suc, [], ◌∷◌, refl}
use Rattle.cal_model.specs.Firing.{behaviour}
use Rattle.cal_model.specs.Laws.{SoundHavePriorities}
use Rattle.cal_model.specs.Selection.{Priorities}
use Rattle.check_leaves.specs.Laws.{ActorsAreLeaves, HasLeaves}

pub actors_are_leaves : SoundHavePriorities → ActorsAreLeaves
actors_are_leaves law files [] [] sound are = record { xs = []; are = tt; many = refl }
actors_are_leaves law files (leaf ∷ leaves) (actor ∷ actors) sound are =
    let priorities : Priorities actor = law actor sound.0 in
    let rest : HasLeaves files leaves actors = actors_are_leaves law files leaves actors sound.1 are.1 in
    record {
      xs = record { path = leaf.path; class = leaf.class; behaviour = behaviour actor priorities } ∷ rest.xs;
      are = (are.0, (record { path = refl; class = refl; priorities = priorities; behaviour = refl }, rest.are));
      many = ap suc rest.many;
    }
actors_are_leaves law files [] (actor ∷ actors) sound are = absurd are
actors_are_leaves law files (leaf ∷ leaves) [] sound are = absurd are
