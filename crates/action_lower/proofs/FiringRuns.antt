-- Code of a firing does what the firing does.
use Rattle.std.proofs.Common.{◌≡◌, ℕ, suc, ◌+◌, ◌≤◌, inr, Bool, true, false, ℤ, List, [], ◌∷◌, ◌++◌, map, length, take, refl, sym, ap, subst, ◌∙◌, Option, None, Some, arith}
use Rattle.std.specs.Prelude.{◌==◌, if◌then◌else◌, slice_get}
use Rattle.std.specs.List.{range_with_len}
use Rattle.rvc_base.specs.declared.trap.Trap.{Trap}
use Rattle.rvc_base.specs.Turns.{max_turns}
use Rattle.cal_model.specs.Actor.{Action, Actor, Local, Output, Port}
use Rattle.cal_model.specs.ActorState.{IsActorState, AreTokensOf}
use Rattle.cal_model.specs.Call.{calls_of, declared}
use Rattle.cal_model.specs.Eligible.{eligible, next}
use Rattle.cal_model.specs.Env.{Env}
use Rattle.cal_model.specs.Expression.{Calls, eval_all}
use Rattle.cal_model.specs.Firing.{Fired, body, body_of, outputs, sent_by_port, sent_to_port}
use Rattle.cal_model.specs.Keeping.{GivesOrTraps}
use Rattle.cal_model.specs.Laws.{BodiesGiveOrTrap}
use Rattle.cal_model.specs.Outcome.{Out, Gives, Traps, Lacks, Clashes, and_then}
use Rattle.cal_model.specs.Selection.{State as ActorState, has_its_tokens, pattern_vars, seen_by}
use Rattle.cal_model.specs.Kinding.{Names, with_known}
use Rattle.cal_model.specs.Rates.{need, taken_on}
use Rattle.cal_model.specs.Sound.{AreLocals, IsAction, IsSound, known_local, max_rate, names_of, with_patterns}
use Rattle.cal_model.specs.Value.{IsType}
use Rattle.cal_model.specs.Statement.{Runs, exec_all, runs_of}
use Rattle.cal_model.proofs.ActorStates.{first-sized}
use Rattle.cal_model.proofs.KeptByFirings.{action-at}
use Rattle.code_ir.specs.declared.instr.Instr.{Instr}
use Rattle.code_ir.specs.declared.instr.Instr.TheVariants as op
use Rattle.code_ir.specs.declared.outcome.Outcome.TheVariants as outcome
use Rattle.code_ir.specs.Code.{Code}
use Rattle.code_ir.specs.Running.{Ends, State, stop}
use Rattle.code_ir.proofs.Ends.{one-end}
use Rattle.lower_base.specs.Calling.{outside}
use Rattle.lower_base.specs.Following.{CutsOff, Follows}
use Rattle.lower_base.specs.Names.{Name}
use Rattle.lower_base.specs.Placed.{StandsAt, World, state}
use Rattle.lower_base.specs.Routining.{LocalsSized}
use Rattle.lower_base.proofs.Runs.{ends_join, follows_then, obeys, stands_left, stands_right}
use Rattle.lower_stmt.specs.Bodies.{AreLaid, CutShort, GoesOn, IsReady}
use Rattle.lower_stmt.specs.Changing.{HoldsVars}
use Rattle.lower_stmt.specs.Procedures.{Routines}
use Rattle.lower_stmt.proofs.Scoping.{inside_still, laid_more}
use Rattle.action_lower.specs.FiringCode.{EndsAsFiring, Fires, FiresAs, HasRoutinesOf, HoldSent, IsFiringCode, first_on, globals_of, round}
use Rattle.action_lower.specs.LocalCode.{Starts}
use Rattle.action_lower.specs.Seats.{HoldVars, numbers_of_vars, pattern_seats, seen_seats, state_cells, taken}
use Rattle.action_lower.specs.Sending.{AreSent, Sends, StandFrom}
use Rattle.action_lower.proofs.Holding.{inputs-held, size-at, state-held}
use Rattle.action_lower.proofs.LocalRuns.{started_grows, starts_as}
use Rattle.action_lower.proofs.PatternRates.{take-their-own}
use Rattle.action_lower.proofs.StateSeats.{globals-held, globals-laid, locals-held, numbers-many, numbers-stand, patterns-fixed, patterns-tokens, take-is, tokens-laid, vars-differ}
use Rattle.action_lower.proofs.Storing.{outputs-grow, sends-as}

-- ---- what is sent, port by port

-- the ports of what is sent are those of the outputs
abbrev SamePorts : List Output → List (ℕ × List ℤ) → Type 0
SamePorts [] [] = Unit {0}
SamePorts (o ∷ outs) (s ∷ sent) = (o.port ≡ s.0) × SamePorts outs sent
SamePorts outs sent = ⊥

same-ports : (ports : List Port) (outs : List Output) (calls : Calls) (env : Env) (left : ℕ) → Follows (outputs ports outs calls env left) (λ sent j. SamePorts outs sent) (λ c. Unit {0})
same-ports ports [] calls env left = tt
same-ports ports (o ∷ outs) calls env left =
    follows_then (eval_all o.values calls env left) _ (λ vs j. Unit {0}) (λ c. Unit {0}) (λ sent j. SamePorts (o ∷ outs) sent) (λ c. Unit {0}) (any (eval_all o.values calls env left))
    (λ vs j t. follows_then (outputs ports outs calls env j) _ (λ sent i. SamePorts outs sent) (λ c. Unit {0}) (λ sent i. SamePorts (o ∷ outs) sent) (λ c. Unit {0}) (same-ports ports outs calls env j)
    (λ sent i p. (refl, p)) (λ c t. tt)) (λ c t. tt)
  where
    any : {A : Type 0} (out : Out A) → Follows out (λ v j. Unit {0}) (λ c. Unit {0})
    any (Gives v j) = tt
    any (Traps c) = tt
    any Lacks = tt
    any Clashes = tt

sent-on : (outs : List Output) (firsts : List ℕ) (sent : List (ℕ × List ℤ)) (cells : List ℤ) (port : ℕ) → SamePorts outs sent → AreSent firsts sent cells → StandFrom (first_on outs firsts port) (sent_to_port sent port) cells
sent-on [] [] [] cells port same are k z e = cc
sent-on [] (f ∷ fs) [] cells port same are k z e = absurd are
sent-on [] fs (s ∷ sent) cells port same are k z e = absurd same
sent-on (o ∷ outs) fs [] cells port same are k z e = absurd same
sent-on (o ∷ outs) [] (s ∷ sent) cells port same are k z e = absurd are
sent-on (o ∷ outs) (f ∷ fs) (s ∷ sent) cells port same are k z e =
    by (o.port == port) (sent-on outs fs sent cells port same.1 are.1) (ap (λ n. slice_get (if n == port then s.1 else sent_to_port sent port) k) same.0 ∙ e)
  where
    by : (b : Bool) → StandFrom (first_on outs fs port) (sent_to_port sent port) cells → slice_get (if b then s.1 else sent_to_port sent port) k ≡ Some z → slice_get cells ((if b then f else first_on outs fs port) + k) ≡ Some z
    by true later e = are.0 k z e
    by false later e = later k z e

ranged : {X : Type 0} (f : ℕ → X) (n s k : ℕ) (x : X) → slice_get (map f (range_with_len s n)) k ≡ Some x → f (s + k) ≡ x
ranged f ℕ.zero s k x e = cc
ranged f (suc n) s ℕ.zero x e = let same : s + 0 ≡ s = omega arith in ap f same ∙ (let is : f s ≡ x = cc in is)
ranged f (suc n) s (suc k) x e = let same : s + suc k ≡ s + 1 + k = omega arith in ap f same ∙ ranged f n (s + 1) k x e

holds-sent : (ports : List Port) (outs : List Output) (firsts : List ℕ) (sent : List (ℕ × List ℤ)) (cells : List ℤ) → SamePorts outs sent → AreSent firsts sent cells → HoldSent outs firsts (sent_by_port ports sent) cells
holds-sent ports outs firsts sent cells same are port us e =
    let zero_more : 0 + port ≡ port = omega arith in
    let is : sent_to_port sent port ≡ us = ap (sent_to_port sent) (sym zero_more) ∙ ranged (sent_to_port sent) (length ports) 0 port us e in
    subst (λ vs. StandFrom (first_on outs firsts port) vs cells) is (sent-on outs firsts sent cells port same are)

follows-and : {A : Type 0} (o : Out A) (G H : A → ℕ → Type 0) (T : Trap → Type 0) → Follows o G T → Follows o H (λ c. Unit {0}) → Follows o (λ v m. G v m × H v m) T
follows-and (Gives v m) G H T r q = (r, q)
follows-and (Traps c) G H T r q = r
follows-and Lacks G H T r q = tt
follows-and Clashes G H T r q = tt

-- ---- the run

pub locals-sized : (xs : List Local) (names : Names) → AreLocals xs names → LocalsSized xs
locals-sized [] names h = tt
locals-sized (x ∷ xs) names h = (λ t e. subst IsType e h.0, locals-sized xs (with_known (known_local x) names) h.2)

module _ (actor : Actor) (a : ℕ) (act : Action) (rs : Routines) (firsts : List ℕ) (base n m : ℕ) (code : List Instr) (coded : IsFiringCode rs (seen_seats actor act) actor.outs act firsts base n code m)
    (whole : Code) (low high : ℕ) (x : ActorState) (u : List (List ℤ)) (cells : List ℤ) (sound : IsSound actor) (is_act : slice_get actor.actions a ≡ Some act)
    (stands : StandsAt whole.instrs base code) (has : HasRoutinesOf actor a rs whole low high u) (le : state_cells actor ≤ low) (between : low ≤ high) (ge : high ≤ n) (room : m ≤ length cells)
    (in_state : IsActorState actor x) (of_ports : AreTokensOf actor u) (tokens : has_its_tokens actor u a ≡ true) (hold : HoldVars actor x cells) where
  abbrev w : World
  w = round actor a u whole low high

  abbrev outer : List Name
  outer = globals_of actor

  abbrev inner : List Name
  inner = pattern_seats actor.ins act.patterns

  abbrev runs : Runs
  runs = runs_of actor.procs (calls_of actor.funs)

  abbrev env0 : Env
  env0 = seen_by actor x u act

  abbrev s0 : State
  s0 = state base [] [] cells max_turns

  is_action : IsAction actor act
  is_action = action-at actor actor.actions a act sound.actions is_act

  n_k : n ≤ coded.k
  n_k = started_grows rs coded.locals

  k_j : coded.k ≤ coded.j
  k_j = coded.body.cells

  j_m : coded.j ≤ m
  j_m = outputs-grow coded.outputs

  -- where the parts stand
  all_stand : StandsAt whole.instrs base (coded.a ++ (coded.b ++ (coded.c ++ op.Done ∷ [])))
  all_stand = subst (StandsAt whole.instrs base) coded.is stands

  after_locals : StandsAt whole.instrs (base + length coded.a) (coded.b ++ (coded.c ++ op.Done ∷ []))
  after_locals = stands_right whole.instrs base coded.a (coded.b ++ (coded.c ++ op.Done ∷ [])) all_stand

  after_body : StandsAt whole.instrs (base + length coded.a + length coded.b) (coded.c ++ op.Done ∷ [])
  after_body = stands_right whole.instrs (base + length coded.a) coded.b (coded.c ++ op.Done ∷ []) after_locals

  after_outputs : StandsAt whole.instrs (base + length coded.a + length coded.b + length coded.c) (op.Done ∷ [])
  after_outputs = stands_right whole.instrs (base + length coded.a + length coded.b) coded.c (op.Done ∷ []) after_body

  -- ---- at first

  base_laid : (top : ℕ) → low ≤ top → AreLaid outer low high top []
  base_laid top wide = globals-laid actor.vars low high top sound.vars le wide

  few : (port : ℕ) → taken_on port act.patterns ≤ max_rate
  few port =
      let e : need actor a port ≡ taken_on port act.patterns = ap (λ o. elim o [ None ↦ 0 | Some y ↦ taken_on port y.patterns ]) is_act in
      subst (λ k. k ≤ max_rate) e (sound.takes a port)

  first_laid : AreLaid outer low high n inner
  first_laid =
      tokens-laid outer low high n inner
      (patterns-tokens actor act.patterns act.patterns (λ port. size-at actor.ins port (first-sized actor.ins actor.outs sound.port_sizes)) few is_action.patterns (take-their-own act.patterns is_action.ports_in))
      (base_laid n (omega (arith, between, ge)))

  first_ready : IsReady rs w runs outer inner n coded.k cells env0
  first_ready = record {
    functions = has.functions;
    procedures = has.procedures;
    laid = first_laid;
    apart = inr ge;
    room = omega (arith, room, k_j, j_m);
    routine_room = omega (arith, ge, n_k, k_j, j_m, room);
    holds = (
      locals-held (taken actor u a) cells inner (pattern_vars actor u act.patterns) (inputs-held actor x u a act cells sound is_act in_state of_ports tokens hold) (patterns-fixed actor u act.patterns),
      globals-held (taken actor u a) cells actor.vars x.vars in_state.vars (state-held actor x u a act cells sound is_act in_state of_ports tokens hold),
    );
  }

  -- ---- at the end

  -- the run is done, with cells that hold the variables and what was sent
  record Finished (f : Fired) (left : ℕ) : Type 0 where
    last : List ℤ
    ends : Ends whole (taken actor u a) s0 outcome.Done last
    vars : HoldsVars outer (taken actor u a) last (outside f.state.vars)
    sent : HoldSent act.outputs firsts f.sent last

  record Cut (c : Trap) : Type 0 where
    last : List ℤ
    ends : Ends whole (taken actor u a) s0 (outcome.Trap c) last

  module _ (to : ℕ) where
    abbrev fire : Env → List (ℕ × List ℤ) → ℕ → Out Fired
    fire last sent j = Gives (record { state = record { at = to; vars = last.globals }; sent = sent_by_port actor.outs sent }) j

    abbrev send : Env → ℕ → Out Fired
    send last k = and_then (outputs actor.outs act.outputs (calls_of actor.funs) last k) (λ sent j. fire last sent j)

    abbrev run : Env → ℕ → Out Fired
    run env i = and_then (exec_all act.body (calls_of actor.funs) runs env i) (λ last k. send last k)

    sends : (env last : Env) (i k : ℕ) (p : Starts w outer coded.behind n coded.k s0 (base + length coded.a) env i)
        → (q : GoesOn w outer p.locals coded.k coded.j (state (base + length coded.a) [] [] p.cells i) (base + length coded.a + length coded.b) last k) → Follows (send last k) Finished Cut
    sends env last i k p q =
        let s2 : State = state (base + length coded.a + length coded.b) [] [] q.cells k in
        let end : ℕ = base + length coded.a + length coded.b + length coded.c in
        let one : length p.cells ≡ length cells = p.keeps.size in
        let two : length q.cells ≡ length p.cells = q.keeps.size in
        let ready : IsReady rs w runs outer p.locals coded.j m q.cells last = record {
          functions = has.functions;
          procedures = has.procedures;
          laid = laid_more rs outer (taken actor u a) low high coded.k coded.j p.locals k_j p.laid;
          apart = inr (omega (arith, ge, n_k, k_j));
          room = omega (arith, room, one, two);
          routine_room = omega (arith, ge, n_k, k_j, j_m, room, one, two);
          holds = q.holds;
        } in
        follows_then (outputs actor.outs act.outputs (calls_of actor.funs) last k) (λ sent j. fire last sent j) (λ sent j. Sends w firsts coded.j m s2 end sent j × SamePorts act.outputs sent) (CutsOff w coded.j m s2) Finished Cut
        (follows-and (outputs actor.outs act.outputs (calls_of actor.funs) last k) (Sends w firsts coded.j m s2 end) (λ sent j. SamePorts act.outputs sent) (CutsOff w coded.j m s2)
        ((sends-as rs coded.behind actor.outs act.outputs firsts (base + length coded.a + length coded.b) coded.j m coded.c coded.outputs).goes w runs outer p.locals last [] [] q.cells k p.are (stands_left whole.instrs (base + length coded.a + length coded.b) coded.c (op.Done ∷ []) after_body) ready)
        (same-ports actor.outs act.outputs (calls_of actor.funs) last k))
        (λ sent j r.
        let still = inside_still rs outer (taken actor u a) low high coded.j m [] q.cells r.0.cells (outside last.globals) (base_laid coded.j (omega (arith, between, ge, n_k, k_j))) r.0.keeps (q.holds.1, λ some. (refl, omega (arith, ge, n_k, k_j, j_m, room, one, two))) in
        record {
          last = r.0.cells;
          ends = ends_join p.reaches (ends_join q.reaches (ends_join r.0.reaches (stop (obeys whole (taken actor u a) (state end [] [] r.0.cells j) op.Done after_outputs.0))));
          vars = still.0;
          sent = holds-sent actor.outs act.outputs firsts sent r.0.cells r.1 r.0.stand;
        })
        (λ c r. record { last = r.cells; ends = ends_join p.reaches (ends_join q.reaches r.ends) })

    executes : (env : Env) (i : ℕ) (p : Starts w outer coded.behind n coded.k s0 (base + length coded.a) env i) → Follows (run env i) Finished Cut
    executes env i p =
        let s1 : State = state (base + length coded.a) [] [] p.cells i in
        let one : length p.cells ≡ length cells = p.keeps.size in
        let ready : IsReady rs w runs outer p.locals coded.k coded.j p.cells env = record {
          functions = has.functions;
          procedures = has.procedures;
          laid = p.laid;
          apart = inr (omega (arith, ge, n_k));
          room = omega (arith, room, one, j_m);
          routine_room = omega (arith, ge, n_k, k_j, j_m, room, one);
          holds = p.holds;
        } in
        follows_then (exec_all act.body (calls_of actor.funs) runs env i) (λ last k. send last k) (GoesOn w outer p.locals coded.k coded.j s1 (base + length coded.a + length coded.b)) (CutShort w (p.locals ++ outer) outer coded.k coded.j s1) Finished Cut
        (coded.body.executes.goes w runs outer p.locals env [] [] p.cells i p.are (stands_left whole.instrs (base + length coded.a) coded.b (coded.c ++ op.Done ∷ []) after_locals) ready)
        (λ last k q. sends env last i k p q)
        (λ c q. record { last = q.cells; ends = ends_join p.reaches q.ends })

    finishes : Follows (body_of actor x u to act) Finished Cut
    finishes =
        follows_then (declared act.locals (calls_of actor.funs) env0 max_turns) (λ env i. run env i) (Starts w outer coded.behind n coded.k s0 (base + length coded.a)) (CutShort w (seen_seats actor act) outer n coded.k s0) Finished Cut
        ((starts_as rs (seen_seats actor act) act.locals coded.behind base n coded.k coded.a coded.locals).goes w runs outer inner env0 [] [] cells max_turns refl (stands_left whole.instrs base coded.a (coded.b ++ (coded.c ++ op.Done ∷ [])) all_stand)
        (locals-sized act.locals (with_patterns actor act.patterns (names_of actor)) is_action.locals) first_ready)
        (λ env i p. executes env i p)
        (λ c q. record { last = q.cells; ends = q.ends })

  held : (f : Fired) (left : ℕ) → IsActorState actor f.state → (p : Finished f left) → HoldVars actor f.state p.last
  held f left good p =
      let many : length (numbers_of_vars f.state.vars) ≡ state_cells actor = numbers-many actor.vars f.state.vars good.vars sound.vars in
      subst (λ k. take k p.last ≡ numbers_of_vars f.state.vars) many
      (take-is (numbers_of_vars f.state.vars) p.last
      (λ k z e. let same : 0 + k ≡ k = omega arith in ap (slice_get p.last) (sym same) ∙ numbers-stand (taken actor u a) p.last 0 actor.vars f.state.vars good.vars sound.vars (vars-differ actor sound) p.vars.0 k z e))

  finish : (out : Out Fired) → GivesOrTraps (λ f. IsActorState actor f.state) out → Follows out Finished Cut → body actor x u a ≡ out → Fires actor a act firsts whole base x u cells
  finish (Gives f left) good p is = record {
    outcome = outcome.Done;
    last = p.last;
    ends = p.ends;
    as_body = subst (λ o. EndsAsFiring actor act firsts o outcome.Done p.last) (sym is) (refl, held f left good p, p.sent);
    only = λ o left r. let same = one-end whole (taken actor u a) o left p.ends r in (sym same.0, sym same.1);
  }
  finish (Traps c) good p is = record {
    outcome = outcome.Trap c;
    last = p.last;
    ends = p.ends;
    as_body = subst (λ o. EndsAsFiring actor act firsts o (outcome.Trap c) p.last) (sym is) refl;
    only = λ o left r. let same = one-end whole (taken actor u a) o left p.ends r in (sym same.0, sym same.1);
  }
  finish Lacks good p is = absurd good
  finish Clashes good p is = absurd good

  abbrev body_to : Option ℕ → Out Fired
  body_to o = elim o [ None ↦ Clashes | Some to ↦ body_of actor x u to act ]

  fires : BodiesGiveOrTrap → eligible actor x.at a ≡ true → Fires actor a act firsts whole base x u cells
  fires law may = by (next actor x.at a) is (subst (GivesOrTraps (λ f. IsActorState actor f.state)) is (law actor x u a sound in_state of_ports may))
    where
      is : body actor x u a ≡ body_to (next actor x.at a)
      is = ap (λ o. elim o [ None ↦ Clashes | Some y ↦ elim (next actor x.at a) [ None ↦ Clashes | Some to ↦ body_of actor x u to y ] ]) is_act

      by : (o : Option ℕ) → body actor x u a ≡ body_to o → GivesOrTraps (λ f. IsActorState actor f.state) (body_to o) → Fires actor a act firsts whole base x u cells
      by None e good = absurd good
      by (Some to) e good = finish (body_of actor x u to act) good (finishes to) e

pub fires_as : BodiesGiveOrTrap → (actor : Actor) (a : ℕ) (act : Action) (rs : Routines) (firsts : List ℕ) (base n m : ℕ) (code : List Instr) → IsSound actor → slice_get actor.actions a ≡ Some act
    → IsFiringCode rs (seen_seats actor act) actor.outs act firsts base n code m → FiresAs actor a act rs firsts base n code m
fires_as law actor a act rs firsts base n m code sound is_act coded whole low high x u cells stands has le between ge room in_state of_ports may tokens hold =
    fires actor a act rs firsts base n m code coded whole low high x u cells sound is_act stands has le between ge room in_state of_ports tokens hold law may
