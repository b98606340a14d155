-- Bodies that clear their cells first and whose instructions stand keep the facts.
use Rattle.std.proofs.Common.{◌≡◌, ℕ, suc, ◌+◌, ◌<◌, ◌≤◌, ◌⊎◌, inl, inr, ⊎_elim, Bool, true, false, ◌&&◌, ◌||◌, List, [], refl, sym, ap, subst, ◌∙◌, arith, Option, None, Some}
use Rattle.std.specs.Prelude.{if◌then◌else◌, nat_le, nat_lt, slice_get}
use Rattle.std.proofs.lemmas.Bool.{leb-true, le-leb, cases_lt}
use Rattle.code_ir.specs.declared.instr.Instr.{Instr}
use Rattle.code_ir.specs.declared.instr.Instr.TheVariants as op
use Rattle.code_ir.specs.declared.instr.Routine.{Routine}
use Rattle.code_ir.specs.Typing.{target}
use Rattle.lowered_actor.specs.Actor.{Action, Actor, number_on}
use Rattle.lowered_actor.specs.Facts.{RunRight}
use Rattle.lower_scratch.specs.declared.body.Last.TheVariants as last
use Rattle.lower_scratch.specs.Clearing.{AllStand, BodyStands, Clears, FiringStands, GuardStands, RoutinesStand, Stands, stop_of}
use Rattle.lower_scratch.specs.Fitting.{last_of}
use Rattle.lower_scratch.specs.Rows.{called, reads}
use Rattle.lower_scratch.proofs.Alike.{among-is, either-true}
use Rattle.lower_scratch.proofs.Facts.{OneEnd}
use Rattle.lower_scratch.proofs.Spans.{AreSpanRoutines, HasSpan, Span, SpanCall, SpanFits, SpanFitsHere, SpanFlows, SpanRoutine, set_at}
use Rattle.lower_scratch.proofs.Whole.{run-right}

some-is : {A : Type 0} {x y : A} → ◌≡◌ {A = Option A} (Some x) (Some y) → x ≡ y
some-is e = cc

-- ---- what is set

-- in a routine all cells below a limit are
abbrev routine-span : List Instr → ℕ → Routine → Span
routine-span instrs limit routine = record {
  begin = routine.start;
  end = stop_of instrs routine.start;
  set = λ p c. nat_le (suc c) limit;
}

-- in a guard or a firing they are behind the first instruction
abbrev entry-span : List Instr → ℕ → ℕ → Span
entry-span instrs limit entry = record {
  begin = entry;
  end = stop_of instrs entry;
  set = λ p c. nat_le (suc entry) p && nat_le (suc c) limit;
}

abbrev found : List Instr → ℕ → Option Routine → Option Span
found instrs limit None = None
found instrs limit (Some routine) = Some (routine-span instrs limit routine)

module _ (actor : Actor) (limit callable : ℕ) (firing : Bool) (wide : actor.kept ≤ limit) (stand : RoutinesStand actor limit firing callable) where
  abbrev instrs : List Instr
  instrs = actor.code.instrs

  abbrev spans : ℕ → Option Span
  spans r = if nat_lt r callable then found instrs limit (slice_get actor.code.routines r) else None

  below-set : (span : Span) (p c : ℕ) → span.set p c ≡ true → set_at actor.kept span p c ≡ true
  below-set span p c e = by (nat_le (suc c) actor.kept)
    where
      by : (b : Bool) → (b || span.set p c) ≡ true
      by true = refl
      by false = e

  state-set : (span : Span) (p c : ℕ) → c < actor.kept → set_at actor.kept span p c ≡ true
  state-set span p c low = ap (λ b. b || span.set p c) (le-leb (suc c) actor.kept (omega (arith, low)))

  -- in a routine
  set-there : (routine : Routine) (p c : ℕ) → c < limit → set_at actor.kept (routine-span instrs limit routine) p c ≡ true
  set-there routine p c low = below-set (routine-span instrs limit routine) p c (le-leb (suc c) limit (omega (arith, low)))

  set-below : (routine : Routine) (p c : ℕ) → set_at actor.kept (routine-span instrs limit routine) p c ≡ true → c < limit
  set-below routine p c e =
      ⊎_elim (λ (low : nat_le (suc c) actor.kept ≡ true). let le = leb-true (suc c) actor.kept low in omega (arith, le, wide))
      (λ (low : nat_le (suc c) limit ≡ true). let le = leb-true (suc c) limit low in omega (arith, le))
      (either-true (nat_le (suc c) actor.kept) (nat_le (suc c) limit) e)

  call-of : (span : Span) (p r : ℕ) → r < callable → ((c : ℕ) → c < limit → set_at actor.kept span p c ≡ true) → SpanCall actor spans span p r
  call-of span p r low set =
      let one = stand r low in
      let asked : nat_lt r callable ≡ true = le-leb (suc r) callable (omega (arith, low)) in
      record {
        callee = routine-span instrs limit one.routine;
        there = ap (λ b. if b then found instrs limit (slice_get actor.code.routines r) else None) asked ∙ ap (found instrs limit) one.there;
        enters = λ c e. set c (set-below one.routine one.routine.start c e);
      }

  routine-fits : (r : ℕ) (routine : Routine) → r < callable → BodyStands actor limit firing [] last.Return r routine.start → SpanFits actor spans firing [] last.Return (routine-span instrs limit routine)
  routine-fits r routine low body = record {
    some = body.some;
    each = λ p from to instr e.
        let one = body.each p from to instr e in
        record {
          may = one.may;
          reads = λ c h. set-there routine p c (one.reads c h);
          next = λ on. (one.next on, λ c h. inl (set-there routine p c (set-below routine (p + 1) c h)));
          jump = λ t is. let to = one.jump t is in (to.0, to.1, λ c h. inl (set-there routine p c (set-below routine t c h)));
          calls = λ q is. call-of (routine-span instrs limit routine) p q (let less = one.calls q is in omega (arith, less, low)) (λ c h. set-there routine p c h);
        };
  }

  routine-of : (r : ℕ) (b : Bool) (o : Option Routine) (span : Span) → nat_lt r callable ≡ b → slice_get actor.code.routines r ≡ o
      → (if b then found instrs limit o else None) ≡ Some span → SpanRoutine actor spans firing r span
  routine-of r false o span asked there e = absurd (cc)
  routine-of r true None span asked there e = absurd (cc)
  routine-of r true (Some routine) span asked there e =
      let low : r < callable = let le = leb-true (suc r) callable asked in omega (arith, le) in
      let one = stand r low in
      let same : one.routine ≡ routine = some-is (sym one.there ∙ there) in
      let is : routine-span instrs limit routine ≡ span = some-is e in
      subst (SpanRoutine actor spans firing r) is (record {
        starts = λ other at. ap (λ x. x.start) (some-is (sym at ∙ there));
        fits = routine-fits r routine low (subst (λ x. BodyStands actor limit firing [] last.Return r x.start) same one.body);
      })

  are-routines : AreSpanRoutines actor firing spans
  are-routines r span e = routine-of r (nat_lt r callable) (slice_get actor.code.routines r) span refl refl e

  -- ---- a guard or a firing

  module _ (entry count : ℕ) (there : slice_get actor.code.instrs entry ≡ Some (op.Zero actor.kept count)) (is : limit ≡ actor.kept + count) where
    abbrev body : Span
    body = entry-span instrs limit entry

    set-behind : (p c : ℕ) → entry < p → c < limit → set_at actor.kept body p c ≡ true
    set-behind p c past low =
        below-set body p c (ap (λ b. b && nat_le (suc c) limit) (le-leb (suc entry) p (omega (arith, past))) ∙ le-leb (suc c) limit (omega (arith, low)))

    only-below : (p c : ℕ) → set_at actor.kept body p c ≡ true → c < limit
    only-below p c e =
        ⊎_elim (λ (low : nat_le (suc c) actor.kept ≡ true). let le = leb-true (suc c) actor.kept low in omega (arith, le, wide))
        (λ (both : (nat_le (suc entry) p && nat_le (suc c) limit) ≡ true). let le = leb-true (suc c) limit (second (nat_le (suc entry) p) (nat_le (suc c) limit) both) in omega (arith, le))
        (either-true (nat_le (suc c) actor.kept) (nat_le (suc entry) p && nat_le (suc c) limit) e)
      where
        second : (a b : Bool) → (a && b) ≡ true → b ≡ true
        second true b h = h
        second false b h = absurd (cc)

    -- at first only state cells are
    first-set : (c : ℕ) → set_at actor.kept body entry c ≡ true → c < actor.kept
    first-set c e =
        ⊎_elim (λ (low : nat_le (suc c) actor.kept ≡ true). let le = leb-true (suc c) actor.kept low in omega (arith, le))
        (λ (both : (nat_le (suc entry) entry && nat_le (suc c) limit) ≡ true). absurd (let le = leb-true (suc entry) entry (first (nat_le (suc entry) entry) (nat_le (suc c) limit) both) in omega (arith, le)))
        (either-true (nat_le (suc c) actor.kept) (nat_le (suc entry) entry && nat_le (suc c) limit) e)
      where
        first : (a b : Bool) → (a && b) ≡ true → a ≡ true
        first true b h = refl
        first false b h = absurd (cc)

    -- the first instruction sets all the others
    zero-flows : (q : ℕ) → SpanFlows actor.kept body (op.Zero actor.kept count) entry q
    zero-flows q c e =
        let low : c < limit = only-below q c e in
        ⊎_elim (λ (state : c < actor.kept). inl (state-set body entry c state))
        (λ (own : actor.kept ≤ c). inr (among-is actor.kept count c own (omega (arith, low, is))))
        (cases_lt c actor.kept)

    entry-here : (needs : List ℕ) (p : ℕ) (instr : Instr) → (p ≡ entry) ⊎ (entry < p) → slice_get actor.code.instrs p ≡ Some instr
        → Stands actor limit firing needs (last_of firing) callable entry (stop_of instrs entry) p instr → SpanFitsHere actor spans firing needs (last_of firing) body p instr
    entry-here needs p instr (inr past) at one = record {
      may = one.may;
      reads = λ c h. set-behind p c past (one.reads c h);
      next = λ on. (one.next on, λ c h. inl (set-behind p c past (only-below (p + 1) c h)));
      jump = λ t is. let to = one.jump t is in (to.0, to.1, λ c h. inl (set-behind p c past (only-below t c h)));
      calls = λ q is. call-of body p q (one.calls q is) (λ c h. set-behind p c past h);
    }
    entry-here needs p instr (inl same) at one =
        let zero : op.Zero actor.kept count ≡ instr = some-is (sym there ∙ (ap (slice_get actor.code.instrs) (sym same) ∙ at)) in
        record {
          may = one.may;
          reads = λ c h. absurd (let no : reads (op.Zero actor.kept count) c ≡ true = ap (λ i. reads i c) zero ∙ h in cc);
          next = λ on. (one.next on, subst (λ i. SpanFlows actor.kept body i p (p + 1)) zero (subst (λ k. SpanFlows actor.kept body (op.Zero actor.kept count) k (p + 1)) (sym same) (zero-flows (p + 1))));
          jump = λ t is. absurd (let no : target (op.Zero actor.kept count) ≡ Some t = ap target zero ∙ is in cc);
          calls = λ q is. absurd (let no : called (op.Zero actor.kept count) ≡ Some q = ap called zero ∙ is in cc);
        }

    entry-fits : (needs : List ℕ) → BodyStands actor limit firing needs (last_of firing) callable entry → SpanFits actor spans firing needs (last_of firing) body
    entry-fits needs h = record {
      some = h.some;
      each = λ p from to instr e.
          entry-here needs p instr (⊎_elim (λ (past : entry < p). inr past) (λ (le : p ≤ entry). inl (omega (arith, le, from))) (cases_lt entry p)) e (h.each p from to instr e);
    }

-- ---- actions

wide-enough : (actor : Actor) (entry limit : ℕ) → Clears actor entry limit → actor.kept ≤ limit
wide-enough actor entry limit h = let e = h.up_to in omega (arith, e)

guard-spans : (actor : Actor) (action : Action) (entry : ℕ) → GuardStands actor action entry → HasSpan actor action false entry
guard-spans actor action entry g =
    let h = g.stands in
    let wide = wide-enough actor entry g.limit h.clears in
    record {
      routines = spans actor g.limit h.callable false wide h.routines;
      are = are-routines actor g.limit h.callable false wide h.routines;
      body = entry-span actor.code.instrs g.limit entry;
      begins = refl;
      first = first-set actor g.limit h.callable false wide h.routines entry h.clears.count h.clears.there h.clears.up_to;
      fits = entry-fits actor g.limit h.callable false wide h.routines entry h.clears.count h.clears.there h.clears.up_to action.needs h.body;
      sends = λ e. absurd (cc);
    }

firing-spans : (actor : Actor) (action : Action) → FiringStands actor action → HasSpan actor action true action.fire
firing-spans actor action f =
    let h = f.stands in
    let wide = wide-enough actor action.fire f.limit h.clears in
    record {
      routines = spans actor f.limit h.callable true wide h.routines;
      are = are-routines actor f.limit h.callable true wide h.routines;
      body = entry-span actor.code.instrs f.limit action.fire;
      begins = refl;
      first = first-set actor f.limit h.callable true wide h.routines action.fire h.clears.count h.clears.there h.clears.up_to;
      fits = entry-fits actor f.limit h.callable true wide h.routines action.fire h.clears.count h.clears.there h.clears.up_to action.needs h.body;
      sends = λ e p from to is port k low less.
          set-behind actor f.limit h.callable true wide h.routines action.fire h.clears.count h.clears.there h.clears.up_to p (number_on action.sends port + k)
          (⊎_elim (λ (past : action.fire < p). past) (λ (le : p ≤ action.fire).
          let same : p ≡ action.fire = omega (arith, le, from) in
          absurd (not-zero (sym is ∙ (ap (slice_get actor.code.instrs) same ∙ h.clears.there)))) (cases_lt action.fire p))
          (f.sends port k low less);
    }
  where
    not-zero : {n m : ℕ} → Some op.Done ≡ Some (op.Zero n m) → ⊥
    not-zero e = cc

pub stand-right : (actor : Actor) → OneEnd → AllStand actor → RunRight actor
stand-right actor once all =
    run-right actor once (λ k x low.
    let one = all k x low in
    record { guards = λ j y less. guard-spans actor _ _ (one.guards j y less); firing = firing-spans actor _ one.firing })
