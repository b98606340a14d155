-- Bodies, and at each of their places whether a cell is set there, however that is known.
use Rattle.std.proofs.Common.{◌≡◌, ℕ, suc, ◌+◌, ◌<◌, ◌≤◌, ◌⊎◌, Bool, true, false, ◌||◌, List, [], All, refl, ap, subst, Option, None, Some}
use Rattle.std.specs.Prelude.{nat_le, slice_get}
use Rattle.code_ir.specs.declared.instr.Instr.{Instr}
use Rattle.code_ir.specs.declared.instr.Instr.TheVariants as op
use Rattle.code_ir.specs.declared.instr.Routine.{Routine}
use Rattle.code_ir.specs.Typing.{goes_on, target}
use Rattle.lowered_actor.specs.Actor.{Action, Actor, number_on}
use Rattle.lower_scratch.specs.declared.body.Body.{Body}
use Rattle.lower_scratch.specs.declared.body.Last.{Last}
use Rattle.lower_scratch.specs.declared.body.Last.TheVariants as last
use Rattle.lower_scratch.specs.Rows.{called, is_said, reads, writes}
use Rattle.lower_scratch.specs.Fitting.{AreRoutines, FitsBody, HasBodies, HasBody, MayStand, last_of}

-- the places of a body, and whether a cell is set at a place
pub record Span : Type 0 where
  pub begin : ℕ
  pub end : ℕ
  pub set : ℕ → ℕ → Bool

-- at a place a cell is set: it is a state cell, or the span says so
abbrev pub set_at : ℕ → Span → ℕ → ℕ → Bool
set_at kept span p c = nat_le (suc c) kept || span.set p c

abbrev pub SpanFlows : ℕ → Span → Instr → ℕ → ℕ → Type 0
SpanFlows kept span instr p q = (c : ℕ) → set_at kept span q c ≡ true
    → (set_at kept span p c ≡ true) ⊎ (writes instr c ≡ true)

abbrev pub SpanEnters : ℕ → Span → Span → ℕ → Type 0
SpanEnters kept callee span p = (c : ℕ) → set_at kept callee callee.begin c ≡ true
    → set_at kept span p c ≡ true

pub record SpanCall (actor : Actor) (routines : ℕ → Option Span) (span : Span) (p r : ℕ) : Type 0 where
  pub callee : Span
  pub there : routines r ≡ Some callee
  pub enters : SpanEnters actor.kept callee span p

pub record SpanFitsHere (actor : Actor) (routines : ℕ → Option Span) (firing : Bool) (needs : List ℕ) (end : Last) (span : Span) (p : ℕ) (instr : Instr) : Type 0 where
  pub may : MayStand actor firing needs end instr
  pub reads : (c : ℕ) → reads instr c ≡ true → set_at actor.kept span p c ≡ true
  pub next : goes_on instr ≡ true → (p + 1 < span.end) × SpanFlows actor.kept span instr p (p + 1)
  pub jump : (t : ℕ) → target instr ≡ Some t → (span.begin ≤ t) × (t < span.end) × SpanFlows actor.kept span instr p t
  pub calls : (r : ℕ) → called instr ≡ Some r → SpanCall actor routines span p r

pub record SpanFits (actor : Actor) (routines : ℕ → Option Span) (firing : Bool) (needs : List ℕ) (end : Last) (span : Span) : Type 0 where
  pub some : span.begin < span.end
  pub each : (p : ℕ) → span.begin ≤ p → p < span.end → (instr : Instr) → slice_get actor.code.instrs p ≡ Some instr
      → SpanFitsHere actor routines firing needs end span p instr

pub record SpanRoutine (actor : Actor) (routines : ℕ → Option Span) (firing : Bool) (r : ℕ) (span : Span) : Type 0 where
  pub starts : (routine : Routine) → slice_get actor.code.routines r ≡ Some routine → routine.start ≡ span.begin
  pub fits : SpanFits actor routines firing [] last.Return span

abbrev pub AreSpanRoutines : Actor → Bool → (ℕ → Option Span) → Type 0
AreSpanRoutines actor firing routines = (r : ℕ) (span : Span) → routines r ≡ Some span
    → SpanRoutine actor routines firing r span

abbrev pub SpanSends : Actor → Action → Span → ℕ → Type 0
SpanSends actor action span to = (p : ℕ) → span.begin ≤ p → p < to
    → slice_get actor.code.instrs p ≡ Some op.Done
    → (port k : ℕ) → port < actor.outs → k < number_on action.gives port
    → set_at actor.kept span p (number_on action.sends port + k) ≡ true

pub record HasSpan (actor : Actor) (action : Action) (firing : Bool) (entry : ℕ) : Type 0 where
  pub routines : ℕ → Option Span
  pub are : AreSpanRoutines actor firing routines
  pub body : Span
  pub begins : body.begin ≡ entry
  pub first : (c : ℕ) → set_at actor.kept body body.begin c ≡ true → c < actor.kept
  pub fits : SpanFits actor routines firing action.needs (last_of firing) body
  pub sends : firing ≡ true → SpanSends actor action body body.end

pub record HasSpans (actor : Actor) (action : Action) : Type 0 where
  pub guards : All (HasSpan actor action false) action.guards
  pub firing : HasSpan actor action true action.fire

-- ---- bodies with rows

abbrev pub span_of : ℕ → Body → Span
span_of kept body = record {
  begin = body.begin;
  end = body.end;
  set = is_said body;
}

abbrev spanned : ℕ → Option (Option Body) → Option Span
spanned kept None = None
spanned kept (Some None) = None
spanned kept (Some (Some body)) = Some (span_of kept body)

abbrev spans_of : ℕ → List (Option Body) → ℕ → Option Span
spans_of kept routines r = spanned kept (slice_get routines r)

module _ (actor : Actor) (firing : Bool) (routines : List (Option Body)) where
  span-fits : (needs : List ℕ) (end : Last) (body : Body) → FitsBody actor routines firing needs end body
      → SpanFits actor (spans_of actor.kept routines) firing needs end (span_of actor.kept body)
  span-fits needs end body h = record {
    some = h.some;
    each = λ p from to instr e.
        let one = h.each p from to instr e in
        record {
          may = one.may;
          reads = one.reads;
          next = one.next;
          jump = one.jump;
          calls = λ r is.
              let may = one.calls r is in
              record { callee = span_of actor.kept may.callee; there = ap (spanned actor.kept) may.there; enters = may.enters };
        };
  }

  span-routine : (o : Option (Option Body)) (r : ℕ) (span : Span) → slice_get routines r ≡ o → spanned actor.kept o ≡ Some span → AreRoutines actor firing routines
      → SpanRoutine actor (spans_of actor.kept routines) firing r span
  span-routine None r span there e are = absurd (cc)
  span-routine (Some None) r span there e are = absurd (cc)
  span-routine (Some (Some body)) r span there e are =
      let one = are r body there in
      let same : span_of actor.kept body ≡ span = some-same e in
      subst (SpanRoutine actor (spans_of actor.kept routines) firing r) same (record { starts = one.starts; fits = span-fits [] last.Return body one.fits })
    where
      some-same : {x y : Span} → Some x ≡ Some y → x ≡ y
      some-same e = cc

  span-routines : AreRoutines actor firing routines → AreSpanRoutines actor firing (spans_of actor.kept routines)
  span-routines are r span e = span-routine (slice_get routines r) r span refl e are

pub has-span : (actor : Actor) (action : Action) (firing : Bool) (entry : ℕ) → HasBody actor action firing entry → HasSpan actor action firing entry
has-span actor action firing entry h = record {
  routines = spans_of actor.kept h.routines;
  are = span-routines actor firing h.routines h.are;
  body = span_of actor.kept h.body;
  begins = h.begins;
  first = h.first;
  fits = span-fits actor firing h.routines action.needs (last_of firing) h.body h.fits;
  sends = h.sends;
}

each-span : (actor : Actor) (action : Action) (entries : List ℕ) → All (HasBody actor action false) entries → All (HasSpan actor action false) entries
each-span actor action entries all = λ k x low. has-span actor action false _ (all k x low)

pub has-spans : (actor : Actor) (action : Action) → HasBodies actor action → HasSpans actor action
has-spans actor action h = record { guards = each-span actor action action.guards h.guards; firing = has-span actor action true action.fire h.firing }
