-- A lowered actor whose actions have their tables and their code stands for the actor.
use Rattle.std.proofs.Common.{◌≡◌, ℕ, zero, suc, ◌<◌, ◌≤◌, Bool, true, false, ℤ, List, [], ◌∷◌, ◌++◌, map, length, take, drop, refl, sym, ap, subst, ◌∙◌, Some, arith, length-append, length-drop}
use Rattle.std.specs.Prelude.{◌&&◌, ◌==◌, nat_le, slice_get}
use Rattle.std.proofs.Math.Path.{fun_ext}
use Rattle.std.proofs.Math.Seq.{take-append_seam}
use Rattle.std.proofs.lemmas.Bool.{eq-eqb, le-leb}
use Rattle.std.proofs.lemmas.List.{append-nil}
use Rattle.rvc_base.specs.Lawful.{tokens_on}
use Rattle.rvc_base.specs.Turns.{max_turns}
use Rattle.cal_ast.specs.Tree.{Tree}
use Rattle.code_ir.specs.declared.outcome.Outcome.{Outcome}
use Rattle.code_ir.specs.declared.outcome.Outcome.TheVariants as outcome
use Rattle.code_ir.specs.Running.{runs}
use Rattle.cal_model.specs.Value.{Value, Num, Truth, Items}
use Rattle.cal_model.specs.Actor.{Action, Actor}
use Rattle.cal_model.specs.Call.{calls_of}
use Rattle.cal_model.specs.Eligible.{IsStateOf}
use Rattle.cal_model.specs.Expression.{eval}
use Rattle.cal_model.specs.Firing.{Fired, body}
use Rattle.cal_model.specs.Keeping.{GivesOrTraps}
use Rattle.cal_model.specs.Outcome.{Out, Gives, Traps, Lacks, Clashes}
use Rattle.cal_model.specs.Selection.{State, seen_by, start_of}
use Rattle.cal_model.specs.Sound.{IsSound}
use Rattle.cal_model.proofs.KeptByFirings.{IsMade, eligible-makes}
use Rattle.lower_base.specs.declared.draft.Draft.{Draft}
use Rattle.lowered_actor.specs.Actor as coded
use Rattle.lowered_actor.specs.declared.parts.ActionCode.{ActionCode}
use Rattle.lowered_actor.specs.Facts.{IsLowered}
use Rattle.lowered_actor.specs.Laws.{AreCellsOf}
use Rattle.lowered_actor.specs.Meaning as lowered
use Rattle.action_lower.specs.FiringCode.{EndsAsFiring, Fires}
use Rattle.action_lower.specs.Guarding.{AreGuardsOf, IsGuardOf, guard_outcome}
use Rattle.action_lower.specs.Seats.{HoldVars, numbers_of_vars, state_cells, taken}
use Rattle.action_lower.proofs.StateSeats.{numbers-many}
use Rattle.lower_tables.specs.Carrying.{BodiesAgree, BodiesRunAlike, BodyRuns, GuardRuns, GuardsRun, GuardsRunAlike, HasTables, HoldsNumbers, IsReady, IsSaid, StandsFor}
use Rattle.lower_tables.specs.Laws.{BehavesAsMeant, FiringRunsSuffice, GuardRunsSuffice, RatesAreMeant}
use Rattle.lower_actor.specs.Coded.{AreCodedActions, IsCodeOf, IsCodedAction}
use Rattle.lower_actor.specs.Standing.{StandsForActor}
use Rattle.lower_actor.proofs.Sent.{GivesSuch, SendsToAll, sends_to_all, sent-from}

-- an item of a mapped list is that of an item
pub mapped : {A B : Type 0} (f : A → B) (xs : List A) (k : ℕ) (y : B) → slice_get (map f xs) k ≡ Some y → (x : A) × (slice_get xs k ≡ Some x) × (f x ≡ y)
mapped f [] k y e = absurd (cc)
mapped f (x ∷ xs) zero y e = (x, refl, cc)
mapped f (x ∷ xs) (suc k) y e = mapped f xs k y e

both : (a b : Bool) → a ≡ true → b ≡ true → (a && b) ≡ true
both true b h k = k
both false b h k = absurd (cc)

is-said : (out : Out Value) (o : Outcome) → guard_outcome out ≡ Some o → IsSaid out o
is-said (Gives (Truth true) left) o e = let same : outcome.True ≡ o = cc in sym same
is-said (Gives (Truth false) left) o e = let same : outcome.False ≡ o = cc in sym same
is-said (Gives (Num z) left) o e = absurd (cc)
is-said (Gives (Items vs) left) o e = absurd (cc)
is-said (Traps cause) o e = let same : outcome.Trap cause ≡ o = cc in sym same
is-said Lacks o e = absurd (cc)
is-said Clashes o e = absurd (cc)

module _ (actor : Actor) (sound : IsSound actor) (l : coded.Actor) (is : IsLowered l) (tables : HasTables actor l) (draft : Draft) (code : IsCodeOf draft l.code)
    (actions : List ActionCode) (are : AreCodedActions actor (length actor.actions) actions draft) (same : l.actions ≡ map coded.action_of actions)
    (first : take (state_cells actor) l.first ≡ numbers_of_vars (start_of actor).vars) (rates : RatesAreMeant) where
  pub numbers : HoldsNumbers actor numbers_of_vars l
  numbers = record {
    count = λ y h. numbers-many actor.vars y.vars h.vars sound.vars ∙ sym tables.kept;
    first = ap (λ n. take n l.first) tables.kept ∙ first;
  }

  whole : l.code.instrs ≡ draft.instrs.items ++ []
  whole = code.instrs ∙ sym (append-nil draft.instrs.items)

  -- ---- in a state

  module _ (x : lowered.ActorState) (y : State) (stands : StandsFor actor numbers_of_vars x y) where
    abbrev cells : List ℤ
    cells = lowered.cells_of l x

    many : length x.cells ≡ l.kept
    many = ap length stands.cells ∙ numbers.count y stands.state

    in-state : lowered.is_state l x ≡ true
    in-state =
        let at : IsStateOf actor x.at = subst (IsStateOf actor) (sym stands.at) stands.state.at in
        let low : x.at < l.fsm.states = (tables.schedule.states x.at).1 at in
        both (nat_le (suc x.at) l.fsm.states) (length x.cells == l.kept) (le-leb (suc x.at) l.fsm.states (omega (arith, low))) (eq-eqb (length x.cells) l.kept many)

    cells-are : AreCellsOf l x cells
    cells-are = record {
      state = in-state;
      size =
          let a = length-append x.cells (drop l.kept l.first) in
          let b = length-drop l.kept l.first in
          let c = is.fits.first in
          let d = is.fits.kept in
          omega (arith, a, b, c, d, many);
      kept = ap (λ n. take n cells) (sym many) ∙ take-append_seam x.cells (drop l.kept l.first);
    }

    holds : HoldVars actor y cells
    holds = ap (λ n. take n cells) (sym tables.kept) ∙ cells-are.kept ∙ stands.cells

    module _ (u : List (List ℤ)) (a : ℕ) (act : Action) (action : coded.Action) (ready : IsReady actor l y u a act action) where
      tokens-same : taken actor u a ≡ lowered.taken l (tokens_on u) a
      tokens-same = fun_ext (λ p. ap (λ n. take n (tokens_on u p)) (sym (rates actor l a p sound tables).0))

      room : draft.cells ≤ length cells
      room = let e = code.cells in let f = cells-are.size in omega (arith, e, f)

      guard-runs : (g : Tree) (entry : ℕ) → IsGuardOf actor a act l.code y u cells g entry → GuardRuns l x (lowered.taken l (tokens_on u) a) entry (eval g (calls_of actor.funs) (seen_by actor y u act) max_turns)
      guard-runs g entry h =
          record {
            cells = cells;
            are = cells-are;
            o = h.outcome;
            left = h.left;
            ends = subst (λ ts. runs l.code entry cells ts h.outcome h.left) tokens-same h.ends;
            said = is-said (eval g (calls_of actor.funs) (seen_by actor y u act) max_turns) h.outcome h.said;
          }

      guards-run : (gs : List Tree) (es : List ℕ) → AreGuardsOf actor a act l.code y u cells gs es → GuardsRun l x (lowered.taken l (tokens_on u) a) (calls_of actor.funs) (seen_by actor y u act) gs es
      guards-run [] [] h = tt
      guards-run [] (e ∷ es) h = absurd h
      guards-run (g ∷ gs) [] h = absurd h
      guards-run (g ∷ gs) (e ∷ es) h = (guard-runs g e h.0, guards-run gs es h.1)

      body-runs : (k : ActionCode) → IsCodedAction actor a k draft → BodyRuns numbers_of_vars l x (lowered.taken l (tokens_on u) a) (coded.action_of k) (body actor y u a)
      body-runs k one =
          let fires : Fires actor a act one.firsts l.code k.fire y u cells = one.fires act l.code [] y u cells ready.there (whole, code.routines) room stands.state ready.tokens ready.may_fire ready.has holds in
          record {
            cells = cells;
            are = cells-are;
            o = fires.outcome;
            left = fires.last;
            ends = subst (λ ts. runs l.code k.fire cells ts fires.outcome fires.last) tokens-same fires.ends;
            agrees = agree (body actor y u a) fires.outcome fires.last fires.as_body (eligible-makes actor y u a sound stands.state ready.tokens ready.may_fire) (sends_to_all actor y u a);
          }
        where
          agree : (out : Out Fired) (o : Outcome) (last : List ℤ) → EndsAsFiring actor act one.firsts out o last → GivesOrTraps (IsMade actor a) out → GivesSuch (SendsToAll actor) out
              → BodiesAgree numbers_of_vars l (coded.action_of k) (Some (record { outcome = o; cells = last })) out
          agree (Gives fired left) o last ends made all = (
            ends.0,
            ap (λ n. take n last) tables.kept ∙ ends.1,
            ap (lowered.sent_from (coded.action_of k) last 0) tables.outs
                ∙ sent-from actor a act (coded.action_of k) one.firsts fired.sent last (one.sends act ready.there) one.rates.gives_are all made.given ends.2,
          )
          agree (Traps cause) o last ends made all = ends
          agree Lacks o last ends made all = absurd ends
          agree Clashes o last ends made all = absurd ends

  guards-alike : GuardsRunAlike actor numbers_of_vars l
  guards-alike x y u a act action stands ready =
      let k = mapped coded.action_of actions a action (ap (λ acts. slice_get acts a) (sym same) ∙ ready.coded_there) in
      let one = are.each a k.0 k.1 in
      subst (λ c. GuardsRun l x (lowered.taken l (tokens_on u) a) (calls_of actor.funs) (seen_by actor y u act) act.guards c.guards) k.2
      (guards-run x y stands u a act action ready act.guards k.0.guards.items
      (one.guards act l.code [] y u (cells x y stands) ready.there (whole, code.routines) (room x y stands u a act action ready) stands.state ready.tokens ready.has (holds x y stands)))

  bodies-alike : BodiesRunAlike actor numbers_of_vars l
  bodies-alike x y u a act action stands ready enabled =
      let k = mapped coded.action_of actions a action (ap (λ acts. slice_get acts a) (sym same) ∙ ready.coded_there) in
      subst (λ c. BodyRuns numbers_of_vars l x (lowered.taken l (tokens_on u) a) c (body actor y u a)) k.2
      (body-runs x y stands u a act action ready k.0 (are.each a k.0 k.1))

  pub stands-for : GuardRunsSuffice → FiringRunsSuffice → BehavesAsMeant → StandsForActor actor l
  stands-for guards-law firings-law law =
      let guards = guards-law actor l numbers_of_vars sound tables is guards-alike in
      let firings = firings-law actor l numbers_of_vars sound tables is bodies-alike in
      record {
        tables = tables;
        numbers = numbers;
        guards = guards;
        firings = firings;
        alike = λ p. law actor p l numbers_of_vars sound tables numbers guards firings;
      }
