-- Nothing is left out of the actions of a sound actor.
use Rattle.std.proofs.Common.{◌≡◌, ℕ, ◌≤◌, List, [], ◌∷◌, map, refl, ap, ◌∙◌, subst, Option, None, Some}
use Rattle.std.specs.Prelude.{option_map, slice_get}
use Rattle.std.proofs.lemmas.Option.{slice_get-map}
use Rattle.rvc_base.specs.declared.scalar.Scalar.{Scalar}
use Rattle.rvc_base.specs.declared.scalar.Scalar.TheVariants as scalar
use Rattle.cal_ast.specs.declared.expr.Expr.{Expr}
use Rattle.cal_ast.specs.Tree.{Tree, listed}
use Rattle.cal_ast.specs.View.{expr_tree}
use Rattle.cal_model.specs.declared.bound.Bound.{Bound}
use Rattle.cal_model.specs.declared.bound.BoundAction.{BoundAction}
use Rattle.cal_model.specs.declared.bound.BoundOutput.{BoundOutput}
use Rattle.cal_model.specs.Value.{Kind, BoolKind, Many, kind_of_scalar}
use Rattle.cal_model.specs.Actor.{Action, Actor}
use Rattle.cal_model.specs.Kinding.{Fine, Names, kind, kinds}
use Rattle.cal_model.specs.Rates.{need, taken_on}
use Rattle.cal_model.specs.Selection.{kind_of_port}
use Rattle.cal_model.specs.Sound.{AreAll, Each, IsAction, IsOutput, IsPlain, IsSound, kind_of_tokens, max_rate, names_of, with_locals, with_patterns}
use Rattle.cal_model.specs.View.{action_view, actor_of, output_view}
use Rattle.cal_model.proofs.KeptByFirings.{action-at}
use Rattle.lower_base.specs.Callees.{Function}
use Rattle.lower_base.specs.Growing.{left_out_fills, left_out_in, one}
use Rattle.lower_base.specs.Names.{Name}
use Rattle.lower_stmt.specs.Procedures.{Routines}
use Rattle.lower_stmt.specs.StmtGrowing.{left_out_all}
use Rattle.lower_stmt.specs.StmtWords.{body_of}
use Rattle.action_lower.specs.FiringWords.{behind_locals, left_out_behind, left_out_firing, left_out_of}
use Rattle.action_lower.specs.GuardWords.{left_out_action, left_out_guards}
use Rattle.action_lower.specs.LocalCode.{left_out_locals}
use Rattle.action_lower.specs.Seats.{seen_seats}
use Rattle.action_lower.specs.SendWords.{left_out_output, left_out_outputs, left_out_repeated, left_out_values}
use Rattle.law_forms.specs.Lowerable.{CallsRoutines, HasRoutine}
use Rattle.law_bodies.specs.NoneLeft.{AllHaveRoutines}
use Rattle.law_bodies.specs.Standing.{AreReady, CallsAll, HasProcRoutine}
use Rattle.law_bodies.proofs.Calls.{calls_any, locals_any}
use Rattle.law_bodies.proofs.Values.{none_of_each, none_of_one}
use Rattle.law_bodies.proofs.Names.{ready_locals}
use Rattle.law_bodies.proofs.Patterns.{ready_action}
use Rattle.law_bodies.proofs.Routines.{locals_none}
use Rattle.law_bodies.proofs.Statements.{all_none}
use Rattle.law_bodies.proofs.Types.{one_like, none_both, none_first, none_second}

values_none : (fs : List Function) (names : List Name) (es : List Tree) → left_out_fills fs names one (listed es) ≡ None → left_out_values fs names es ≡ None
values_none fs names [] h = refl
values_none fs names (e ∷ es) h =
    none_both (left_out_in fs names e) (left_out_values fs names es) (none_first (left_out_in fs names e) (left_out_fills fs names one (listed es)) h)
    (values_none fs names es (none_second (left_out_in fs names e) (left_out_fills fs names one (listed es)) h))

module _ (actor : Actor) (rs : Routines) (have : AllHaveRoutines actor rs) where
  calls : (e : Tree) → CallsRoutines actor.funs rs.functions e
  calls e = calls_any {P = HasRoutine actor.funs rs.functions} {Q = λ name. Unit {0}} have.functions (λ name. tt) e

  all_calls : (e : Tree) → CallsAll actor.funs actor.procs rs e
  all_calls e = calls_any {P = HasRoutine actor.funs rs.functions} {Q = HasProcRoutine actor.procs rs.procedures} have.functions have.procedures e

  -- ---- guards

  guards_none : (guards : List Tree) (known : Names) (names : List Name) → AreReady actor.funs known names → Each (λ g. (kind g known ≡ Fine BoolKind) × IsPlain g) guards → left_out_guards rs.functions names guards ≡ None
  guards_none [] known names r are = refl
  guards_none (g ∷ guards) known names r are =
      none_both (left_out_in rs.functions names g) (left_out_guards rs.functions names guards) (none_of_one actor.funs rs.functions known names g scalar.Bool r (calls g) are.0.1 are.0.0)
      (guards_none guards known names r are.1)

  -- ---- outputs

  sent_none : (values : List Expr) (t : Scalar) (repeat : Option ℕ) (found : List Kind) (known : Names) (names : List Name) → AreReady actor.funs known names → kinds (listed (map expr_tree values)) known ≡ Fine found → AreAll (kind_of_tokens t repeat) found
      → IsPlain (listed (map expr_tree values))
      → ◌≡◌ {A = Option ℕ} (elim repeat [ None ↦ left_out_values rs.functions names (map expr_tree values) | Some times ↦ left_out_repeated rs.functions names times values ]) None
  sent_none values t None found known names r are all plain =
      values_none rs.functions names (map expr_tree values)
      (none_of_each actor.funs rs.functions known names (listed (map expr_tree values)) found (kind_of_scalar t) one r (calls (listed (map expr_tree values))) plain are all (one_like t))
  sent_none values t (Some n) found known names r are all plain =
      none_of_each actor.funs rs.functions known names (listed (map expr_tree values)) found (kind_of_tokens t (Some n)) (Many n one) r (calls (listed (map expr_tree values))) plain are all (refl, one_like t)

  outputs_none : (outputs : List BoundOutput) (known : Names) (names : List Name) → AreReady actor.funs known names → Each (IsOutput actor known) (map output_view outputs) → left_out_outputs rs.functions names outputs ≡ None
  outputs_none [] known names r are = refl
  outputs_none (o ∷ outputs) known names r are =
      none_both (left_out_output rs.functions names o) (left_out_outputs rs.functions names outputs)
      (sent_none o.values.items (kind_of_port actor.outs o.port) o.repeat are.0.found known names r are.0.kinds are.0.each are.0.plain)
      (outputs_none outputs known names r are.1)

  -- ---- firings

  firing_none : (act : BoundAction) (names : List Name) → AreReady actor.funs (with_patterns actor (action_view act).patterns (names_of actor)) names → IsAction actor (action_view act) → left_out_firing rs names act ≡ None
  firing_none act names r is =
      let known : Names = with_patterns actor (action_view act).patterns (names_of actor) in
      let behind : AreReady actor.funs (with_locals (action_view act).locals (with_patterns actor (action_view act).patterns (names_of actor))) (behind_locals names (action_view act).locals) =
      ready_locals actor.funs (action_view act).locals (with_patterns actor (action_view act).patterns (names_of actor)) names is.locals r in
      none_both (left_out_locals rs.functions names (action_view act).locals) (left_out_behind rs (behind_locals names (action_view act).locals) act)
      (locals_none actor.funs rs.functions (action_view act).locals (with_patterns actor (action_view act).patterns (names_of actor)) names r is.locals
      (locals_any {P = HasRoutine actor.funs rs.functions} {Q = λ name. Unit {0}} have.functions (λ name. tt) (action_view act).locals))
      (none_both (left_out_all rs (behind_locals names (action_view act).locals) (body_of act.body.items)) (left_out_outputs rs.functions (behind_locals names (action_view act).locals) act.outputs.items)
      (all_none actor.funs actor.procs rs (body_of act.body.items) (with_locals (action_view act).locals (with_patterns actor (action_view act).patterns (names_of actor))) (behind_locals names (action_view act).locals) behind (all_calls (body_of act.body.items)) is.plain is.body)
      (outputs_none act.outputs.items (with_locals (action_view act).locals (with_patterns actor (action_view act).patterns (names_of actor))) (behind_locals names (action_view act).locals) behind is.outputs))

-- ---- the actions of an actor

module _ (rs : Routines) (b : Bound) (a : ℕ) (sound : IsSound (actor_of b)) (have : AllHaveRoutines (actor_of b) rs) where
  few_taken : (act : Action) → slice_get (actor_of b).actions a ≡ Some act → (port : ℕ) → taken_on port act.patterns ≤ max_rate
  few_taken act is port =
      let e : need (actor_of b) a port ≡ taken_on port act.patterns = ap (λ o. elim o [ None ↦ 0 | Some x ↦ taken_on port x.patterns ]) is in
      subst (λ k. k ≤ max_rate) e (sound.takes a port)

  ready_at : (act : Action) → slice_get (actor_of b).actions a ≡ Some act → AreReady (actor_of b).funs (with_patterns (actor_of b) act.patterns (names_of (actor_of b))) (seen_seats (actor_of b) act)
  ready_at act is = ready_action (actor_of b) act sound (action-at (actor_of b) (actor_of b).actions a act sound.actions is) (few_taken act is)

  pub guards_of_none : left_out_action rs.functions (actor_of b) a ≡ None
  guards_of_none = go (slice_get (actor_of b).actions a) refl
    where
      go : (o : Option Action) → slice_get (actor_of b).actions a ≡ o → ◌≡◌ {A = Option ℕ} (elim o [ None ↦ None | Some act ↦ left_out_guards rs.functions (seen_seats (actor_of b) act) act.guards ]) None
      go None is = refl
      go (Some act) is =
          let action : IsAction (actor_of b) act = action-at (actor_of b) (actor_of b).actions a act sound.actions is in
          guards_none (actor_of b) rs have act.guards (with_patterns (actor_of b) act.patterns (names_of (actor_of b))) (seen_seats (actor_of b) act) (ready_at act is) action.guards

  pub firing_of_none : left_out_of rs b a ≡ None
  firing_of_none = go (slice_get b.actions.items a) refl
    where
      go : (o : Option BoundAction) → slice_get b.actions.items a ≡ o → ◌≡◌ {A = Option ℕ} (elim o [ None ↦ None | Some act ↦ left_out_firing rs (seen_seats (actor_of b) (action_view act)) act ]) None
      go None is = refl
      go (Some act) is =
          let there : slice_get (actor_of b).actions a ≡ Some (action_view act) = slice_get-map action_view b.actions.items a ∙ ap (option_map action_view) is in
          firing_none (actor_of b) rs have act (seen_seats (actor_of b) (action_view act)) (ready_at (action_view act) there) (action-at (actor_of b) (actor_of b).actions a (action_view act) sound.actions there)
