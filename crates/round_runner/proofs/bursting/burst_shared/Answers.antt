use Rattle.std.proofs.Common.{◌≡◌, ◌+◌, length, drop, List, [], ◌∷◌, refl, subst, arith}
use Rattle.std.specs.Prelude.{None}
use Rattle.net_state.specs.Held.{seen}
use Rattle.round_runner.proofs.UpTo.{bursting_all, bursting_none, idle_all, spent_none}
use Rattle.round_runner.proofs.Sharing.{AllMade, SoFar, all_made, share}
use Rattle.round_runner.proofs.bursting.burst_shared.Goals as goal

pub returns : goal.returns
returns g c =
    let old = seen g.A.Firing.cell c.args.net.now in
    let new = seen g.A.Firing.cell c.burst_each.new.self in
    let marks = c.args.marks.now in
    let made = c.burst_each.result in
    let start : SoFar c.args.shares c.requires.shares marks c.requires.picks old c.requires.fresh 0 0 0 None None old = record {
      bursting = bursting_none (share c.args.shares c.requires.shares marks c.requires.picks old c.requires.fresh) marks c.args.shares.burst old c.requires.fresh;
      spent = spent_none c.args.shares.burst c.args.shares.left c.args.shares.picks;
    } in
    let all : AllMade c.args.shares c.requires.shares marks c.requires.picks old c.requires.fresh 0 None None made new =
    all_made c.args.shares c.requires.shares marks c.requires.picks old c.requires.fresh marks 0 0 0 None None old new made (drop_none marks) (omega arith) start c.burst_each.ensures.work in
    let so_far : SoFar c.args.shares c.requires.shares marks c.requires.picks old c.requires.fresh (length marks) all.k made.fired made.trap made.lacks new =
    subst (λ n. SoFar c.args.shares c.requires.shares marks c.requires.picks old c.requires.fresh (length marks) all.k n made.trap made.lacks new) (let e : 0 + made.fired ≡ made.fired = omega arith in e) all.so_far in
    let s = share c.args.shares c.requires.shares marks c.requires.picks old c.requires.fresh in
    let b = so_far.bursting in
    record {
      bursted = bursting_all s marks c.args.shares.burst (length marks) all.k made.fired made.trap made.lacks old new b refl;
      idle = idle_all s marks c.args.shares.burst (length marks) all.k made.fired made.trap made.lacks old new b refl;
      within = so_far.spent.within;
      links = b.links;
      capacities = b.capacities;
      waited = b.waited;
      arrived = c.burst_each.ensures.arrived;
    }
  where
    drop_none : {A : Type 0} (xs : List A) → drop 0 xs ≡ xs
    drop_none [] = refl
    drop_none (x ∷ xs) = refl
