use Rattle.std.proofs.Common.{◌≡◌, ◌<◌, All, rules, sym, subst, arith}
use Rattle.cal_model.specs.Eligible.{start_state}
use Rattle.cal_model.specs.Sound.{scalars_of_vars}
use Rattle.cal_model.specs.View.{actor_of}
use Rattle.rvc_base.specs.Storing.{IsSize}
use Rattle.lowered_actor.specs.Facts.{AreApart}
use Rattle.lower_tables.specs.Tables.{saved_from}
use Rattle.lower_tables.proofs.Stateful.{saved-apart, saved-below, saved-sized, start-is}
use Rattle.lower_tables.proofs.tables.lower_tables.Goals as goal

pub returns-clause-begins : goal.returns-clause-begins
returns-clause-begins c =
    subst (λ s. s < c.in_ok-fsm.fsm.states) (sym c.start_state.ensures)
    ((c.in_ok-fsm.ensures.schedule.states (start_state (actor_of c.args.b.now))).1 (start-is (actor_of c.args.b.now)))

pub returns-clause-inside : goal.returns-clause-inside
returns-clause-inside c =
    let is : c.in_ok-saved.saved.items ≡ saved_from 0 (actor_of c.args.b.now).vars = search rules in
    let count : c.cell_count.result ≡ scalars_of_vars (actor_of c.args.b.now).vars = search rules in
    subst (λ n. All (λ saved. saved.cell < n) c.in_ok-saved.saved.items) (sym count)
    (subst (All (λ saved. saved.cell < scalars_of_vars (actor_of c.args.b.now).vars)) (sym is)
    (saved-below (actor_of c.args.b.now).vars 0 (scalars_of_vars (actor_of c.args.b.now).vars) (omega arith)))

pub returns-clause-apart : goal.returns-clause-apart
returns-clause-apart c =
    let is : c.in_ok-saved.saved.items ≡ saved_from 0 (actor_of c.args.b.now).vars = search rules in
    subst AreApart (sym is) (saved-apart (actor_of c.args.b.now).vars)

pub returns-clause-sizes : goal.returns-clause-sizes
returns-clause-sizes c =
    let is : c.in_ok-saved.saved.items ≡ saved_from 0 (actor_of c.args.b.now).vars = search rules in
    subst (All (λ saved. IsSize saved.kind)) (sym is) (saved-sized (actor_of c.args.b.now).vars 0 c.requires.sound.vars)
