-- Nothing is left out of a sound actor.
use Rattle.std.proofs.Common.{◌≡◌, ℕ, None, Some}
use Rattle.cal_model.specs.declared.bound.Bound.{Bound}
use Rattle.cal_model.specs.Sound.{IsSound}
use Rattle.cal_model.specs.View.{actor_of}
use Rattle.lower_stmt.specs.Procedures.{Routines}
use Rattle.action_lower.specs.FiringWords.{left_out_of}
use Rattle.action_lower.specs.GuardWords.{left_out_action}
use Rattle.law_bodies.specs.NoneLeft.{AllHaveRoutines}
use Rattle.law_bodies.proofs.Actions.{firing_of_none, guards_of_none}
use Rattle.law_bodies.proofs.Types.{none_both}
use Rattle.lower_actor.specs.Faults.{IsPartLeftOut, left_out_at}
use Rattle.lower_actor.specs.Settled.{AreSettled}
use Rattle.lower_actor.proofs.WholeRoutines.{all-have-routines}

-- nothing is left out of an action
pub action-none : (rs : Routines) (b : Bound) (a : ℕ) → IsSound (actor_of b) → AreSettled (actor_of b) rs → left_out_at rs b a ≡ None
action-none rs b a sound settled =
    let have : AllHaveRoutines (actor_of b) rs = all-have-routines (actor_of b) sound rs settled in
    none_both (left_out_action rs.functions (actor_of b) a) (left_out_of rs b a) (guards_of_none rs b a sound have) (firing_of_none rs b a sound have)

pub no-part : (b : Bound) (at : ℕ) → IsSound (actor_of b) → IsPartLeftOut b at → ⊥
no-part b at sound p =
    let none : left_out_at p.routines b p.part.action ≡ None = action-none p.routines b p.part.action sound p.settled in
    let some : left_out_at p.routines b p.part.action ≡ Some at = p.part.part in
    cc
