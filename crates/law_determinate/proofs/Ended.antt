-- What the last line of a run says of the state to which its lines lead.
use Rattle.std.proofs.Common.{◌≡◌, ℕ, Bool, true, false, List, [], ◌∷◌, ◌++◌, refl, sym, ap, subst}
use Rattle.std.specs.Prelude.{Option, None, Some, if◌then◌else◌, ◌==◌}
use Rattle.rvc_base.specs.declared.trap.Trap.{Trap as TrapName}
use Rattle.rvc_base.specs.Behaviour.{Effect, Fires, TrapsInGuard, TrapsInBody}
use Rattle.trace_text.specs.declared.line.Line.{Line}
use Rattle.trace_text.specs.declared.line.Line.TheVariants.{Quiet as QuietLine, Trap as TrapLine, Budget as BudgetLine}
use Rattle.net_model.specs.Network.{Network}
use Rattle.net_model.specs.State.{State, effect_at}
use Rattle.net_model.specs.Ends.{IsBetween, IsQuiet}
use Rattle.net_model.specs.Event.{Trap, happens, number_of_trap, trap}
use Rattle.net_model.specs.Trace.{LineIsTrue, OnNext, PlaysFrom, goes}

-- the last line is true of a state, and leads from it
record LastLine {X : Type 0} (net : Network X) (grow : ℕ) (end : Line) (last : State X) : Type 0 where
  before : State X
  is_true : LineIsTrue net grow before end []
  leads : goes net before end ≡ Some last

on_next : {X : Type 0} {R : Type 0} (o : Option (State X)) (P : State X → Type 0) → ((u : State X) → o ≡ Some u → P u → R) → OnNext o P → R
on_next None P f h = absurd h
on_next (Some u) P f h = f u refl h

last_line : {X : Type 0} (net : Network X) (grow : ℕ) (s last : State X) (before : List Line) (end : Line)
    → PlaysFrom net grow s (before ++ end ∷ []) last → LastLine net grow end last
last_line net grow s last [] end plays =
    on_next (goes net s end) (λ next. PlaysFrom net grow next [] last)
    (λ u is same. record { before = s; is_true = plays.0; leads = subst (λ w. goes net s end ≡ Some w) same is }) plays.1
last_line net grow s last (line ∷ before) end plays =
    on_next (goes net s line) (λ next. PlaysFrom net grow next (before ++ end ∷ []) last)
    (λ u is rest. last_line net grow u last before end rest) plays.1

some_same : {A : Type 0} (x y : A) → Some x ≡ Some y → x ≡ y
some_same x y e = cc

pub ends_quiet : {X : Type 0} (net : Network X) (grow : ℕ) (s last : State X) (before : List Line) (end : Line)
    → PlaysFrom net grow s (before ++ end ∷ []) last → end ≡ QuietLine → IsQuiet net last
ends_quiet net grow s last before end plays is =
    let l = last_line net grow s last before QuietLine (subst (λ w. PlaysFrom net grow s (before ++ w ∷ []) last) is plays) in
    subst (λ w. IsQuiet net w) (some_same l.before last l.leads) l.is_true.0

pub ends_between : {X : Type 0} (net : Network X) (grow : ℕ) (s last : State X) (before : List Line) (end : Line)
    → PlaysFrom net grow s (before ++ end ∷ []) last → end ≡ BudgetLine → IsBetween net grow last
ends_between net grow s last before end plays is =
    let l = last_line net grow s last before BudgetLine (subst (λ w. PlaysFrom net grow s (before ++ w ∷ []) last) is plays) in
    subst (λ w. IsBetween net grow w) (some_same l.before last l.leads) l.is_true.0

marked : {X : Type 0} (b : Bool) (s t : State X) → (if b then Some (record s { trapped = true }) else None) ≡ Some t → t.trapped ≡ true
marked true s t h = let e : record s { trapped = true } ≡ t = cc in sym (ap (λ w. w.trapped) e)
marked false s t h = cc

trap_marks : {X : Type 0} (s t : State X) (c : TrapName) (e : Option (Effect X)) → trap s c e ≡ Some t → t.trapped ≡ true
trap_marks s t c (Some (Fires next sent)) h = cc
trap_marks s t c (Some (TrapsInGuard d)) h = marked (number_of_trap c == number_of_trap d) s t h
trap_marks s t c (Some (TrapsInBody d)) h = marked (number_of_trap c == number_of_trap d) s t h
trap_marks s t c None h = cc

unless_marks : {X : Type 0} (trapped : Bool) (o : Option (State X)) (t : State X) → (o ≡ Some t → t.trapped ≡ true)
    → (if trapped then None else o) ≡ Some t → t.trapped ≡ true
unless_marks true o t f h = cc
unless_marks false o t f h = f h

pub ends_trapped : {X : Type 0} (net : Network X) (grow : ℕ) (s last : State X) (before : List Line) (end : Line) (i a : ℕ) (c : TrapName)
    → PlaysFrom net grow s (before ++ end ∷ []) last → end ≡ TrapLine i a c → last.trapped ≡ true
ends_trapped net grow s last before end i a c plays is =
    let l = last_line net grow s last before end plays in
    let leads : happens net l.before (Trap i a c) ≡ Some last = subst (λ w. goes net l.before w ≡ Some last) is l.leads in
    unless_marks l.before.trapped _ last (trap_marks l.before last c (effect_at net l.before i a)) leads
