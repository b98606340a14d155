-- Code that stands in a draft stands there still once more is written behind it.
use Rattle.std.proofs.Common.{◌≡◌, ℕ, ◌≤◌, true, ℤ, List, [], ◌++◌, length, sym, ap, subst, ◌∙◌, Option, Some, arith, append_assoc}
use Rattle.std.specs.Prelude.{slice_get}
use Rattle.cal_model.specs.Actor.{Action, Actor}
use Rattle.code_ir.specs.declared.instr.Instr.{Instr}
use Rattle.lower_base.specs.declared.draft.Draft.{Draft}
use Rattle.lower_base.specs.Callees.{Function}
use Rattle.lower_base.specs.Placed.{StandsAt}
use Rattle.lowered_actor.specs.declared.parts.ActionCode.{ActionCode}
use Rattle.code_ir.specs.Code.{Code}
use Rattle.cal_model.specs.Sound.{IsSound}
use Rattle.lower_stmt.specs.Bodies.{AreLaid}
use Rattle.lower_stmt.specs.Calls.{HasRunRoutines}
use Rattle.lower_stmt.specs.Proceeding.{AreProcRoutines}
use Rattle.lower_stmt.specs.Procedures.{Routines}
use Rattle.lower_stmt.proofs.ProcServed.{acts_within, functions_served}
use Rattle.cal_model.specs.ActorState.{IsActorState, AreTokensOf}
use Rattle.cal_model.specs.Eligible.{eligible}
use Rattle.cal_model.specs.Selection.{State, has_its_tokens}
use Rattle.action_lower.specs.FiringCode.{Fires, FiresAs, globals_of}
use Rattle.action_lower.specs.FiringWords.{AddsFired, AddsFiring}
use Rattle.action_lower.specs.GuardWords.{AddsGuards, AnswerAsGuards}
use Rattle.action_lower.specs.Seats.{HoldVars, state_cells, taken}
use Rattle.action_lower.proofs.StateSeats.{globals-laid}
use Rattle.action_lower.proofs.Answering.{stands-in}
pub use Rattle.action_lower.proofs.Answering.{guards-grow}
use Rattle.action_lower.proofs.LocalRuns.{started_grows}
use Rattle.action_lower.proofs.Storing.{outputs-grow}
use Rattle.lower_actor.specs.Coded.{AnswersFrom, FiresFrom, IsCodedAction, IsMore}
use Rattle.lower_actor.specs.Drafted.{GoesOn, IsServed}

-- ---- drafts

pub more-again : (one two three : Draft) → IsMore one two → IsMore two three → IsMore one three
more-again one two three f g = record {
  code = f.code ++ g.code;
  is = g.is ∙ ap (λ is. is ++ g.code) f.is ∙ append_assoc one.instrs.items f.code g.code;
  routines = g.routines ∙ f.routines;
  cells = let le = f.cells in let ge = g.cells in omega (arith, le, ge);
}

pub guards-added : (clears : Option ℕ) (fs : List Function) (actor : Actor) (a : ℕ) (act : Action) (es : List ℕ) (old new : Draft) → slice_get actor.actions a ≡ Some act → AddsGuards clears fs actor a es old new → IsMore old new
guards-added clears fs actor a act es old new is added =
    let one = added act is in
    record { code = one.code; is = one.is; routines = one.routines; cells = guards-grow one.has }

pub firing-added : (rs : Routines) (actor : Actor) (a : ℕ) (act : Action) (entry : ℕ) (firsts : List ℕ) (old new : Draft) → slice_get actor.actions a ≡ Some act → AddsFiring rs actor a entry firsts old new → IsMore old new
firing-added rs actor a act entry firsts old new is added =
    let one = added.1 act is in
    let locals = started_grows rs one.has.locals in
    let body = one.has.body.cells in
    let outputs = outputs-grow one.has.outputs in
    record { code = one.code; is = one.is; routines = one.routines; cells = omega (arith, locals, body, outputs) }

-- ---- actions

pub goes-more : (old new : Draft) (whole : Code) (more : List Instr) (grown : IsMore old new) → GoesOn new whole more → GoesOn old whole (grown.code ++ more)
goes-more old new whole more grown goes = (goes.0 ∙ ap (λ is. is ++ more) grown.is ∙ append_assoc old.instrs.items grown.code more, goes.1 ∙ grown.routines)

pub answers-more : (actor : Actor) (a : ℕ) (es : List ℕ) (old new : Draft) → IsMore old new → AnswersFrom actor a es old → AnswersFrom actor a es new
answers-more actor a es old new grown h act whole more x u cells is goes room in_state of_ports has hold =
    h act whole (grown.code ++ more) x u cells is (goes-more old new whole more grown goes) (let le = grown.cells in omega (arith, le, room)) in_state of_ports has hold

pub fires-more : (actor : Actor) (a entry : ℕ) (firsts : List ℕ) (old new : Draft) → IsMore old new → FiresFrom actor a entry firsts old → FiresFrom actor a entry firsts new
fires-more actor a entry firsts old new grown h act whole more x u cells is goes room in_state of_ports may has hold =
    h act whole (grown.code ++ more) x u cells is (goes-more old new whole more grown goes) (let le = grown.cells in omega (arith, le, room)) in_state of_ports may has hold

pub served-more : (actor : Actor) (rs : Routines) (old new : Draft) → IsMore old new → IsServed actor rs old → IsServed actor rs new
served-more actor rs old new grown served = record {
  high = served.high;
  state = served.state;
  below = let le = grown.cells in let ge = served.below in omega (arith, le, ge);
  stand = λ whole more goes. served.stand whole (grown.code ++ more) (goes-more old new whole more grown goes);
  called = λ whole more goes.
      subst (λ k. HasRunRoutines whole k served.high rs) (sym (ap length grown.routines)) (served.called whole (grown.code ++ more) (goes-more old new whole more grown goes));
  count = ap length grown.routines ∙ served.count;
  first = served.first;
  next = served.next;
}

pub coded-more : (actor : Actor) (a : ℕ) (coded : ActionCode) (old new : Draft) → IsMore old new → IsCodedAction actor a coded old → IsCodedAction actor a coded new
coded-more actor a coded old new grown h = record {
  rates = h.rates;
  guards = answers-more actor a coded.guards.items old new grown h.guards;
  firsts = h.firsts;
  fires = fires-more actor a coded.fire h.firsts old new grown h.fires;
  sends = h.sends;
  inside = λ act port e. let one = h.inside act port e in let le = grown.cells in omega (arith, one, le);
}

-- code of a firing fires where it stands, in code that has the routines
pub fires-at : (actor : Actor) (a : ℕ) (act : Action) (rs : Routines) (firsts : List ℕ) (base n m high : ℕ) (code : List Instr) → IsSound actor → FiresAs actor a act rs firsts base n code m → (whole : Code)
    → AreProcRoutines (globals_of actor) whole actor.funs actor.procs (state_cells actor) rs.functions rs.procedures high → state_cells actor ≤ high → high ≤ n → StandsAt whole.instrs base code → (x : State) (u : List (List ℤ)) (cells : List ℤ)
    → m ≤ length cells → IsActorState actor x → AreTokensOf actor u → eligible actor x.at a ≡ true → has_its_tokens actor u a ≡ true → HoldVars actor x cells → Fires actor a act firsts whole base x u cells
fires-at actor a act rs firsts base n m high code sound fires whole routines state below stands x u cells room in_state of_ports may has hold =
    let low = state_cells actor in
    let laid : AreLaid (globals_of actor) low high low [] = globals-laid actor.vars low high low sound.vars (omega arith) (omega arith) in
    fires whole low high x u cells stands
    (record {
      functions = λ text f e. functions_served (globals_of actor) whole (taken actor u a) actor.funs actor.procs low rs.functions laid.0 high routines (omega arith) text f e;
      procedures = λ text p e. acts_within (globals_of actor) whole (taken actor u a) actor.funs actor.procs low rs.functions laid.0 laid.1 laid.2 (length actor.procs) high routines (omega arith) text p e;
    })
    (omega arith) state below room in_state of_ports may has hold

-- .. and so from its entry
pub fires-from : (actor : Actor) (a : ℕ) (rs : Routines) (firsts : List ℕ) (entry : ℕ) (old new : Draft) → IsSound actor → IsServed actor rs old → entry ≡ length old.instrs.items → AddsFired rs actor a firsts old new
    → FiresFrom actor a entry firsts new
fires-from actor a rs firsts entry old new sound served at added act whole more x u cells is goes room in_state of_ports may has hold =
    let one = added act is in
    let placed : whole.instrs ≡ old.instrs.items ++ (one.code ++ more) = goes.0 ∙ ap (λ is. is ++ more) one.is ∙ append_assoc old.instrs.items one.code more in
    let stands : StandsAt whole.instrs (length old.instrs.items) one.code =
    subst (λ all. StandsAt all (length old.instrs.items) one.code) (sym placed) (stands-in old.instrs.items one.code more) in
    subst (λ e. Fires actor a act firsts whole e x u cells) (sym at)
    (fires-at actor a act rs firsts (length old.instrs.items) old.cells new.cells served.high one.code sound one.has whole (served.stand whole (one.code ++ more) (placed, goes.1 ∙ one.routines)) served.state served.below stands x u cells
    room in_state of_ports may has hold)

-- code of guards answers as they do, in a draft that has the routines which they call
pub answers-from : (actor : Actor) (a : ℕ) (rs : Routines) (es : List ℕ) (old new : Draft) → IsSound actor → IsServed actor rs old → IsMore old new → AnswerAsGuards rs.functions actor a es old new → AnswersFrom actor a es new
answers-from actor a rs es old new sound served grown answer act whole more x u cells is goes room in_state of_ports has hold =
    let low = state_cells actor in
    let laid : AreLaid (globals_of actor) low served.high low [] = globals-laid actor.vars low served.high low sound.vars (omega arith) (omega arith) in
    let routines = served.stand whole (grown.code ++ more) (goes-more old new whole more grown goes) in
    answer act whole more is goes.0 x u cells
    (record {
      low = low;
      high = served.high;
      serve = λ text f e. functions_served (globals_of actor) whole (taken actor u a) actor.funs actor.procs low rs.functions laid.0 served.high routines (omega arith) text f e;
      behind = omega arith;
      before = served.below;
      room = λ some. let le = grown.cells in let ge = served.below in omega (arith, le, ge, room);
      own = room;
    })
    in_state of_ports has hold
