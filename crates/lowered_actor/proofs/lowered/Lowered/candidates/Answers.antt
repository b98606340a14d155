use Rattle.std.proofs.Common.{◌≡◌, ◌<◌, ◌∙◌, ℕ, List, All, length, subst, sym}
use Rattle.std.specs.Prelude.{slice_index_or, is_some}
use Rattle.std.proofs.lemmas.List.Elements.{All-filter}
use Rattle.schedule_fsm.specs.Automaton.{target}
use Rattle.lowered_actor.specs.Actor.{Actor, actor_of}
use Rattle.lowered_actor.specs.Candidates.{eligible_among}
use Rattle.lowered_actor.proofs.Rows.{row-at}
use Rattle.lowered_actor.proofs.lowered.Lowered.candidates.Goals as goal
use Rattle.lowered_actor.proofs.lowered.Lowered.candidates.Goals.{After-deref}

is-row : (c : After-deref) → c.deref.result.now ≡ eligible_among c.args.self.now.fsm c.args.state c.args.self.now.order.line
is-row c =
    let actor : Actor = actor_of c.self.inside.parts in
    let same : actor ≡ c.args.self.now = c.self.view_is in
    let within : c.args.state < actor.fsm.states = subst (λ (a : Actor). c.args.state < a.fsm.states) (sym same) c.requires in
    let at : c.index.result.now ≡ slice_index_or c.self.inside.candidates.items c.args.state c.index.result.now =
    subst (λ n. c.index.result.now ≡ slice_index_or c.self.inside.candidates.items n c.index.result.now) c.from.ensures c.index.ensures in
    subst (λ (a : Actor). c.deref.result.now ≡ eligible_among a.fsm c.args.state a.order.line) same
    (c.deref.ensures.value ∙ row-at actor.fsm actor.order.line actor.fsm.states c.self.inside.candidates.items c.args.state c.index.result.now c.self.invariant.1 within at)

pub returns-clause-eligible : goal.returns-clause-eligible
returns-clause-eligible c = is-row c

pub returns-clause-actions : goal.returns-clause-actions
returns-clause-actions c =
    let actor : Actor = actor_of c.self.inside.parts in
    let same : actor ≡ c.args.self.now = c.self.view_is in
    let line : All (λ a. a < length c.args.self.now.actions) c.args.self.now.order.line =
    subst (λ (a : Actor). All (λ n. n < length a.actions) a.order.line) same
    (subst (λ (k : ℕ). All (λ n. n < k) actor.order.line) c.self.invariant.0.fits.order
    (subst (λ (l : List ℕ). All (λ n. n < actor.order.count) l) c.line-line.ensures.value c.line-line.ensures.in_range)) in
    subst (λ (l : List ℕ). All (λ a. a < length c.args.self.now.actions) l) (sym (is-row c))
    (All-filter (λ a. is_some (target c.args.self.now.fsm c.args.state a)) (λ a. a < length c.args.self.now.actions) c.args.self.now.order.line line)
