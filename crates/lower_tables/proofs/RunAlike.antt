-- What one run of each guard and each firing shows of what a lowered actor does.
use Rattle.std.proofs.Common.{◌≡◌, ℕ, zero, suc, ◌+◌, ◌<◌, ◌≤◌, true, false, ℤ, List, [], ◌∷◌, length, take, refl, sym, ap, subst, ◌∙◌, arith}
use Rattle.std.specs.Prelude.{Contains, Some}
use Rattle.rvc_base.specs.Turns.{max_turns}
use Rattle.rvc_base.specs.Lawful.{tokens_on}
use Rattle.cal_ast.specs.Tree.{Tree}
use Rattle.code_ir.specs.declared.outcome.Outcome.{Outcome}
use Rattle.code_ir.specs.declared.outcome.Outcome.TheVariants as outcome
use Rattle.cal_model.specs.Value.{Value, Num, Truth, Items}
use Rattle.cal_model.specs.Env.{Env, Var}
use Rattle.cal_model.specs.Outcome.{Out, Gives, Traps, Lacks, Clashes}
use Rattle.cal_model.specs.Expression.{Calls, eval}
use Rattle.cal_model.specs.Actor.{Action, Actor}
use Rattle.cal_model.specs.Firing.{Fired, body}
use Rattle.cal_model.specs.Selection.{Guards, State, guards_say}
use Rattle.cal_model.specs.Selection as selection
use Rattle.cal_model.specs.Sound.{IsSound}
use Rattle.lowered_actor.specs.Actor as coded
use Rattle.lowered_actor.specs.Facts.{IsLowered, cells_from}
use Rattle.lowered_actor.specs.Laws.{FiringsEnd, GuardsEnd}
use Rattle.lowered_actor.specs.Laws as lowered_laws
use Rattle.lowered_actor.specs.Meaning as lowered
use Rattle.lower_tables.specs.Carrying.{BodiesAgree, BodiesAreAlike, BodiesRunAlike, GuardRuns, GuardsAgree, GuardsAreAlike, GuardsRun, GuardsRunAlike, HasTables, IsReady, IsSaid}
use Rattle.lower_tables.proofs.Rated.{has_same}

-- ---- guards

-- a guard by what it comes to and how its run ends
said_then : (out : Out Value) (o : Outcome) (g : lowered.Guards) (h : Guards) → IsSaid out o → GuardsAgree g h → GuardsAgree (lowered.outcome_then o g) (selection.guard_then out h)
said_then (Gives (Truth true) left) o g h e agree = subst (λ p. GuardsAgree (lowered.outcome_then p g) h) (sym e) agree
said_then (Gives (Truth false) left) o g h e agree = subst (λ p. GuardsAgree (lowered.outcome_then p g) selection.AreFalse) (sym e) tt
said_then (Gives (Num z) left) o g h e agree = absurd e
said_then (Gives (Items vs) left) o g h e agree = absurd e
said_then (Traps cause) o g h e agree = subst (λ p. GuardsAgree (lowered.outcome_then p g) (selection.AreTrapping cause)) (sym e) refl
said_then Lacks o g h e agree = absurd e
said_then Clashes o g h e agree = absurd e

in_first : (x : ℕ) (xs : List ℕ) → Contains (x ∷ xs) x
in_first x xs = (0, omega arith, refl)

in_rest : (b c : ℕ) (xs : List ℕ) → Contains xs b → Contains (c ∷ xs) b
in_rest b c xs (k, h, e) = (suc k, (let i : suc k < suc (length xs) = omega arith in i), e)

module _ (ends : GuardsEnd) (l : coded.Actor) (is : IsLowered l) (x : lowered.ActorState) (tokens : ℕ → List ℤ) (a : ℕ) (action : coded.Action) (ready : lowered_laws.IsReady l tokens a action) where
  say_alike : (calls : Calls) (env : Env) (guards : List Tree) (entries : List ℕ) → ((entry : ℕ) → Contains entries entry → Contains action.guards entry)
      → GuardsRun l x (lowered.taken l tokens a) calls env guards entries
      → GuardsAgree (lowered.guards_say l.code (lowered.cells_of l x) (lowered.taken l tokens a) entries) (guards_say guards calls env)
  say_alike calls env [] [] among run = tt
  say_alike calls env [] (entry ∷ entries) among run = absurd run
  say_alike calls env (g ∷ guards) [] among run = absurd run
  say_alike calls env (g ∷ guards) (entry ∷ entries) among run =
      let one : GuardRuns l x (lowered.taken l tokens a) entry (eval g calls env max_turns) = run.0 in
      let end = ends l x tokens a action entry one.cells one.left one.o is one.are ready (among entry (in_first entry entries)) one.ends in
      let rest = lowered.guards_say l.code (lowered.cells_of l x) (lowered.taken l tokens a) entries in
      subst (λ e. GuardsAgree (lowered.guard_then e rest) (guards_say (g ∷ guards) calls env)) (sym end.is)
      (subst (λ o. GuardsAgree (lowered.outcome_then o rest) (guards_say (g ∷ guards) calls env)) (sym end.same)
      (said_then (eval g calls env max_turns) one.o rest (guards_say guards calls env) one.said
      (say_alike calls env guards entries (λ e h. among e (in_rest e entry entries h)) run.1)))

coded_ready : (actor : Actor) (l : coded.Actor) (y : State) (u : List (List ℤ)) (a : ℕ) (act : Action) (action : coded.Action) → IsSound actor → HasTables actor l → IsReady actor l y u a act action
    → lowered_laws.IsReady l (tokens_on u) a action
coded_ready actor l y u a act action sound has ready = record {
  there = ready.coded_there;
  has = has_same actor l u u a sound has (λ q low. refl) ∙ ready.has;
}

pub guards_suffice : GuardsEnd → (actor : Actor) (l : coded.Actor) (numbers : List Var → List ℤ) → IsSound actor → HasTables actor l → IsLowered l → GuardsRunAlike actor numbers l → GuardsAreAlike actor numbers l
guards_suffice ends actor l numbers sound has is run x y u a act action stands ready =
    say_alike ends l is x (tokens_on u) a action (coded_ready actor l y u a act action sound has ready) _ _ act.guards action.guards (λ e h. h) (run x y u a act action stands ready)

-- ---- firings

sent_same : (action : coded.Action) (c d : List ℤ) (outs n p : ℕ) → p + n ≤ outs
    → ((q : ℕ) → q < outs → cells_from c (coded.number_on action.sends q) (coded.number_on action.gives q) ≡ cells_from d (coded.number_on action.sends q) (coded.number_on action.gives q))
    → lowered.sent_from action c p n ≡ lowered.sent_from action d p n
sent_same action c d outs zero p low same = refl
sent_same action c d outs (suc n) p low same =
    ap (λ zs. zs ∷ lowered.sent_from action c (suc p) n) (same p (omega arith))
    ∙ ap (λ rest. cells_from d (coded.number_on action.sends p) (coded.number_on action.gives p) ∷ rest) (sent_same action c d outs n (suc p) (omega arith) same)

pub firings_suffice : FiringsEnd → (actor : Actor) (l : coded.Actor) (numbers : List Var → List ℤ) → IsSound actor → HasTables actor l → IsLowered l → BodiesRunAlike actor numbers l → BodiesAreAlike actor numbers l
firings_suffice ends actor l numbers sound has is run x y u a act action stands ready enabled =
    let one = run x y u a act action stands ready enabled in
    let end = ends l x (tokens_on u) a action one.cells one.left one.o is one.are (coded_ready actor l y u a act action sound has ready) one.ends in
    subst (λ e. BodiesAgree numbers l action e (body actor y u a)) (sym end.is)
    (by (body actor y u a) one.o one.left end.end end.same end.state end.sent one.agrees)
  where
    by : (out : Out Fired) (o : Outcome) (left : List ℤ) (end : lowered.End) → end.outcome ≡ o
        → (o ≡ outcome.Done → take l.kept end.cells ≡ take l.kept left)
        → (o ≡ outcome.Done → (p : ℕ) → p < l.outs → cells_from end.cells (coded.number_on action.sends p) (coded.number_on action.gives p) ≡ cells_from left (coded.number_on action.sends p) (coded.number_on action.gives p))
        → BodiesAgree numbers l action (Some (record { outcome = o; cells = left })) out → BodiesAgree numbers l action (Some end) out
    by (Gives fired m) o left end same state sent agrees =
        (same ∙ agrees.0, state agrees.0 ∙ agrees.1, sent_same action end.cells left l.outs l.outs 0 (omega arith) (sent agrees.0) ∙ agrees.2)
    by (Traps cause) o left end same state sent agrees = same ∙ agrees
    by Lacks o left end same state sent agrees = absurd agrees
    by Clashes o left end same state sent agrees = absurd agrees
