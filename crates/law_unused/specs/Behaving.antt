-- An actor with only what it uses behaves as with all that is declared.
-- Trusted: part of what a promise means.
use Rattle.std.specs.Prelude.{◌≡◌, ℕ, ℤ, List, true, option_map}
use Rattle.rvc_base.specs.Behaviour.{Behaviour, Effect, Fires, TrapsInBody, TrapsInGuard}
use Rattle.cal_model.specs.Actor.{Actor}
use Rattle.cal_model.specs.ActorState.{is_actor_state}
use Rattle.cal_model.specs.Firing.{behaviour}
use Rattle.cal_model.specs.Selection.{Priorities, State}
use Rattle.law_unused.specs.Closed.{IsClosed}
use Rattle.law_unused.specs.Keeping.{Keep, narrowed_actor, narrowed_state}

-- the same effect, with the state that is left
abbrev pub narrowed_effect : Keep → Effect State → Effect State
narrowed_effect keep (Fires x sent) = Fires (narrowed_state keep x) sent
narrowed_effect keep (TrapsInGuard c) = TrapsInGuard c
narrowed_effect keep (TrapsInBody c) = TrapsInBody c

-- its actions are the same, and so is their order
abbrev pub same_order : (keep : Keep) (actor : Actor) → Priorities actor
    → Priorities (narrowed_actor keep actor)
same_order keep actor p = record {
  above = p.above;
  line = p.line;
  is_above = p.is_above;
  is_line = p.is_line;
}

abbrev pub narrowed_behaviour : (keep : Keep) (actor : Actor) → Priorities actor → Behaviour State
narrowed_behaviour keep actor p = behaviour (narrowed_actor keep actor) (same_order keep actor p)

-- one behaviour (`few`) shows of each of these states what another (`all`) shows, but for what
-- isn't kept of it
pub record ShowsTheSame (keep : Keep) (Here : State → Type 0) (few all : Behaviour State) :
    Type 0 where
  pub start : few.start ≡ narrowed_state keep all.start
  pub ins : few.ins ≡ all.ins
  pub outs : few.outs ≡ all.outs
  pub actions : few.actions ≡ all.actions
  pub need : (a port : ℕ) → few.need a port ≡ all.need a port
  pub give : (a port : ℕ) → few.give a port ≡ all.give a port
  pub effect : (x : State) (u : List (List ℤ)) (a : ℕ) → Here x
      → few.effect (narrowed_state keep x) u a
      ≡ option_map (narrowed_effect keep) (all.effect x u a)
  pub choice : (x : State) (u : List (List ℤ)) → Here x
      → few.choice (narrowed_state keep x) u ≡ all.choice x u

abbrev pub IsStateOf : Actor → State → Type 0
IsStateOf actor x = is_actor_state actor x ≡ true

-- Of an actor that uses only what is kept the kept part behaves as the whole, ..
abbrev pub KeptPartsBehaveTheSame : Type 0
KeptPartsBehaveTheSame = (keep : Keep) (actor : Actor) (p : Priorities actor)
    → IsClosed keep actor
    → ShowsTheSame keep (IsStateOf actor) (narrowed_behaviour keep actor p) (behaviour actor p)

-- .. and what is kept of a state of the whole is a state of the part.
abbrev pub KeptPartsHaveStates : Type 0
KeptPartsHaveStates = (keep : Keep) (actor : Actor) (x : State)
    → IsStateOf actor x → IsStateOf (narrowed_actor keep actor) (narrowed_state keep x)
