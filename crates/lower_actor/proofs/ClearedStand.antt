-- Code whose guards and firings clear their cells first stands: each of its instructions may stand where it does.
use Rattle.std.proofs.Common.{◌≡◌, ℕ, zero, suc, ◌+◌, ◌<◌, ◌≤◌, ◌⊎◌, inl, inr, ⊎_elim, Bool, true, false, List, [], ◌∷◌, ◌++◌, length, map, All, refl, sym, ap, subst, ◌∙◌, arith, Option, None, Some, append-nil}
use Rattle.std.specs.Prelude.{slice_get, slice_index_or}
use Rattle.std.proofs.lemmas.Bool.{cases_lt, eqb-true}
use Rattle.std.proofs.lemmas.List.FromFn.{get_or-map-range_with_len}
use Rattle.std.proofs.lemmas.Option.{slice_get-get_or, slice_get_within}
use Rattle.cal_model.specs.Actor.{Actor}
use Rattle.cal_model.specs.Rates.{give, given_on}
use Rattle.code_ir.specs.declared.instr.Instr.{Instr}
use Rattle.code_ir.specs.declared.instr.Instr.TheVariants as op
use Rattle.code_ir.specs.declared.instr.Routine.{Routine}
use Rattle.code_ir.specs.Code.{Code}
use Rattle.code_ir.specs.Typing.{CallsSmaller, NamesCells, goes_on, target}
use Rattle.lower_base.specs.declared.draft.Draft.{Draft}
use Rattle.lower_base.specs.Allowing.{AreAllowed}
use Rattle.lower_base.specs.Callees.{Function}
use Rattle.lower_base.specs.Fitting.{Fits, IsInner}
use Rattle.lower_base.specs.Placed.{StandsAt}
use Rattle.lower_base.proofs.AllowedCode.{allowed_at}
use Rattle.lowered_actor.specs.declared.parts.ActionCode.{ActionCode}
use Rattle.lowered_actor.specs.Actor as coded
use Rattle.lower_scratch.specs.declared.body.Last.{Last}
use Rattle.lower_scratch.specs.declared.body.Last.TheVariants as last
use Rattle.lower_scratch.specs.Clearing.{ActionStands, AllStand, BodyStands, EntryStands, GuardStands, RoutineStands, SendsBelow, Stands, ends_body, stop_of}
use Rattle.lower_scratch.specs.Fitting.{MayStand, last_of}
use Rattle.lower_scratch.specs.Rows.{called, reads}
use Rattle.lower_scratch.proofs.BodyEnds.{stop-here, stop-next}
use Rattle.lower_scratch.proofs.Looping.{each-behind}
use Rattle.action_lower.specs.FiringCode.{first_on}
use Rattle.action_lower.specs.Seats.{state_cells}
use Rattle.lower_tables.specs.Tables.{needs_of, saved_from}
use Rattle.lower_actor.specs.ClearedBodies.{AreRoutineBodies, ClearedAction, ClearedFrom, ClearsActions, IsAllowedAt, IsClearedBody, IsRoutineBody, StayIn, StaysIn, bounds_at, callable_in}
use Rattle.lower_actor.specs.Coded.{AreCodedActions, IsCodeOf, IsCodedAction}
use Rattle.lower_actor.specs.Drafted.{GoesOn}
use Rattle.lower_actor.proofs.AllowedEntries.{may-stand, own-cells}
use Rattle.lower_actor.proofs.AllowedRoutines.{allowed-there}
use Rattle.lower_actor.proofs.Likeness.{mapped}
use Rattle.lower_actor.proofs.Placed.{there}
use Rattle.lower_actor.proofs.Sent.{below}

-- ---- one instruction

ends-no : (i : Instr) → IsInner i → ends_body i ≡ false
ends-no op.Return h = absurd h
ends-no op.Answer h = absurd h
ends-no op.Done h = absurd h
ends-no i h = refl

calls-below : (n : ℕ) (i : Instr) (r : ℕ) → CallsSmaller n i → called i ≡ Some r → r < n
calls-below n (op.Call q) r h e = let same : q ≡ r = cc in subst (λ k. k < n) same h
calls-below n i r h e = absurd (cc)

reads-below : (limit : ℕ) (i : Instr) (c : ℕ) → NamesCells limit i → reads i c ≡ true → c < limit
reads-below limit (op.Load d) c h e = let same = eqb-true d c e in omega (arith, same, h)
reads-below limit (op.LoadAt d n) c h e = each-behind (λ x. x < limit) d n (λ k low. omega (arith, low, h)) c e
reads-below limit (op.Copy d s n t) c h e = each-behind (λ x. x < limit) s n (λ k low. let le = h.1 in omega (arith, low, le)) c e
reads-below limit (op.CopyTo d n s m t) c h e = each-behind (λ x. x < limit) s m (λ k low. let le = h.1 in omega (arith, low, le)) c e
reads-below limit (op.CopyFrom d s n m) c h e = each-behind (λ x. x < limit) s n (λ k low. let le = h.1 in omega (arith, low, le)) c e
reads-below limit i c h e = absurd (cc)

calls-more : (n m : ℕ) (i : Instr) → n ≤ m → CallsSmaller n i → CallsSmaller m i
calls-more n m (op.Call r) le h = omega (arith, le, h)
calls-more n m i le h = tt

names-more : (n m : ℕ) (i : Instr) → n ≤ m → NamesCells n i → NamesCells m i
names-more n m (op.Load c) le h = omega (arith, le, h)
names-more n m (op.Store c t) le h = omega (arith, le, h)
names-more n m (op.LoadAt c k) le h = omega (arith, le, h)
names-more n m (op.StoreAt c k t) le h = omega (arith, le, h)
names-more n m (op.Copy d s k t) le h = (let a = h.0 in omega (arith, le, a), let b = h.1 in omega (arith, le, b))
names-more n m (op.CopyTo d k s j t) le h = (let a = h.0 in omega (arith, le, a), let b = h.1 in omega (arith, le, b))
names-more n m (op.CopyFrom d s k j) le h = (let a = h.0 in omega (arith, le, a), let b = h.1 in omega (arith, le, b))
names-more n m (op.TokenList d p k j l) le h = omega (arith, le, h)
names-more n m (op.Zero c k) le h = omega (arith, le, h)
names-more n m i le h = tt

-- what fits stays in its body
pub stay-of : (whole : Code) (callable limit base h k : ℕ) (code : List Instr) → Fits whole callable limit base h code k (base + length code) k → StayIn limit callable base code
stay-of whole callable limit base h k code fits j i e =
    let one = fits.at j i e in
    record {
      cells = one.cells;
      calls = one.calls;
      inner = one.inner;
      inside = λ t is.
          let to = one.inside t is in
          (to.1, ⊎_elim (λ (le : t ≤ base + length code). le) (λ (same : t ≡ base + length code). omega (arith, same)) to.2);
    }

-- .. behind an instruction that clears cells
pub stay-behind : (kept count callable limit base : ℕ) (rest : List Instr) → limit ≡ kept + count → StayIn limit callable (base + 1) rest → StayIn limit callable base (op.Zero kept count ∷ rest)
stay-behind kept count callable limit base rest is stay zero i e =
    let same : op.Zero kept count ≡ i = cc in
    subst (StaysIn limit callable base (base + suc (length rest))) same (record { cells = omega (arith, is); calls = tt; inner = tt; inside = λ t at. absurd (cc) })
stay-behind kept count callable limit base rest is stay (suc j) i e =
    let one = stay j i e in
    record {
      cells = one.cells;
      calls = one.calls;
      inner = one.inner;
      inside = λ t at. let to = one.inside t at in (let from = to.0 in omega (arith, from), let up = to.1 in omega (arith, up));
    }

pub stay-more : (k limit n callable base : ℕ) (code : List Instr) → k ≤ limit → n ≤ callable → StayIn k n base code → StayIn limit callable base code
stay-more k limit n callable base code le more stay j i e =
    let one = stay j i e in
    record { cells = names-more k limit i le one.cells; calls = calls-more n callable i more one.calls; inner = one.inner; inside = one.inside }

-- ---- where instructions stand

-- an instruction that ends a body and does nothing else
pub record IsLast (i : Instr) : Type 0 where
  pub ends : ends_body i ≡ true
  pub stops : goes_on i ≡ false
  pub aims : target i ≡ None
  pub reads : (c : ℕ) → reads i c ≡ false
  pub calls : called i ≡ None

answer-last : IsLast op.Answer
answer-last = record { ends = refl; stops = refl; aims = refl; reads = λ c. refl; calls = refl }

done-last : IsLast op.Done
done-last = record { ends = refl; stops = refl; aims = refl; reads = λ c. refl; calls = refl }

return-last : IsLast op.Return
return-last = record { ends = refl; stops = refl; aims = refl; reads = λ c. refl; calls = refl }

stop-is : (instrs : List Instr) (base : ℕ) (code : List Instr) (end : Instr) → StandsAt instrs base (code ++ end ∷ []) → ((j : ℕ) (i : Instr) → slice_get code j ≡ Some i → ends_body i ≡ false) → ends_body end ≡ true
    → stop_of instrs base ≡ base + length code + 1
stop-is instrs base [] end stands inner is = let here = stop-here instrs base end stands.0 is in omega (arith, here)
stop-is instrs base (i ∷ code) end stands inner is =
    let first = stop-next instrs base i stands.0 (inner 0 i refl) in
    let more = stop-is instrs (base + 1) code end stands.1 (λ j x e. inner (suc j) x e) is in
    omega (arith, first, more)

-- it is one of them, or the last
abbrev Placed : List Instr → ℕ → Instr → ℕ → Instr → Type 0
Placed code base end p i = ((j : ℕ) × (p ≡ base + j) × (slice_get code j ≡ Some i)) ⊎ ((p ≡ base + length code) × (i ≡ end))

same-some : {x y : Instr} → Some x ≡ Some y → x ≡ y
same-some e = cc

same-routine : {x y : Routine} → Some x ≡ Some y → x ≡ y
same-routine e = cc

place-in : (instrs : List Instr) (base : ℕ) (code : List Instr) (end : Instr) (p : ℕ) (i : Instr) → StandsAt instrs base (code ++ end ∷ []) → base ≤ p → p < base + length code + 1 → slice_get instrs p ≡ Some i
    → Placed code base end p i
place-in instrs base [] end p i stands from to e =
    let same : p ≡ base = omega (arith, from, to) in
    inr (omega (arith, same), same-some (sym e ∙ (ap (slice_get instrs) same ∙ stands.0)))
place-in instrs base (x ∷ code) end p i stands from to e =
    by (λ past. place-in instrs (base + 1) code end p i stands.1 (omega (arith, past)) (omega (arith, to)) e) (cases_lt base p)
  where
    later : Placed code (base + 1) end p i → Placed (x ∷ code) base end p i
    later (inl h) = inl (suc h.0, (let at = h.1 in omega (arith, at)), h.2)
    later (inr h) = inr ((let at = h.0 in omega (arith, at)), h.1)

    by : (base < p → Placed code (base + 1) end p i) → (base < p) ⊎ (p ≤ base) → Placed (x ∷ code) base end p i
    by behind (inl past) = later (behind past)
    by behind (inr le) =
        let same : p ≡ base = omega (arith, from, le) in
        inl (0, omega (arith, same), sym stands.0 ∙ (ap (slice_get instrs) (sym same) ∙ e))

-- ---- bodies

-- the calls at the places from one up to another one are of routines whose numbers are below n
abbrev CallsBelow : List Instr → (begin to n : ℕ) → Type 0
CallsBelow instrs begin to n = (p : ℕ) (instr : Instr) (r : ℕ) → begin ≤ p → p < to
    → slice_get instrs p ≡ Some instr → called instr ≡ Some r → r < n

module _ (l : coded.Actor) where
  abbrev instrs : List Instr
  instrs = l.code.instrs

  module _ (limit callable base : ℕ) (code : List Instr) (end : Instr) (is-last : IsLast end) (stands : StandsAt instrs base (code ++ end ∷ [])) (stay : StayIn limit callable base code) where
    stop : stop_of instrs base ≡ base + length code + 1
    stop = stop-is instrs base code end stands (λ j i e. ends-no i (stay j i e).inner) is-last.ends

    placed : (p : ℕ) (i : Instr) → base ≤ p → p < stop_of instrs base → slice_get instrs p ≡ Some i → Placed code base end p i
    placed p i from to e = place-in instrs base code end p i stands from (let s = stop in omega (arith, to, s)) e

    -- calls lead to routines before one
    calls-stay : CallsBelow instrs base (stop_of instrs base) callable
    calls-stay p i r from to e is = by (placed p i from to e)
      where
        by : Placed code base end p i → r < callable
        by (inl h) = calls-below callable i r (stay h.0 i h.2).calls is
        by (inr h) = absurd (let no : called end ≡ Some r = ap called (sym h.1) ∙ is in let none = is-last.calls in cc)

    body-stands : (firing : Bool) (needs : List ℕ) (ends : Last) (top : ℕ) → MayStand l firing needs ends end → ((j : ℕ) (i : Instr) → slice_get code j ≡ Some i → MayStand l firing needs ends i) → CallsBelow instrs base (stop_of instrs base) top
        → BodyStands l limit firing needs ends top base
    body-stands firing needs ends top ended may calls = record {
      some = let s = stop in omega (arith, s);
      each = λ p from to i e. one p from to i e (placed p i from to e);
    }
      where
        one : (p : ℕ) → base ≤ p → p < stop_of instrs base → (i : Instr) → slice_get instrs p ≡ Some i → Placed code base end p i → Stands l limit firing needs ends top base (stop_of instrs base) p i
        one p from to i e (inl h) =
            let here = stay h.0 i h.2 in
            let within = slice_get_within code h.0 i h.2 in
            let at = h.1 in
            record {
              may = may h.0 i h.2;
              reads = λ c is. reads-below limit i c here.cells is;
              next = λ on. let s = stop in omega (arith, s, at, within);
              jump = λ t is. let aim = here.inside t is in (aim.0, let s = stop in let up = aim.1 in omega (arith, s, up));
              calls = λ r is. calls p i r from to e is;
            }
        one p from to i e (inr h) =
            let same = h.1 in
            record {
              may = subst (MayStand l firing needs ends) (sym same) ended;
              reads = λ c is. absurd (let no : reads end c ≡ true = ap (λ x. reads x c) (sym same) ∙ is in let none = is-last.reads c in cc);
              next = λ on. absurd (let no : goes_on end ≡ true = ap goes_on (sym same) ∙ on in let none = is-last.stops in cc);
              jump = λ t is. absurd (let no : target end ≡ Some t = ap target (sym same) ∙ is in let none = is-last.aims in cc);
              calls = λ r is. calls p i r from to e is;
            }

  -- ---- routines

  routine-stands : (low limit : ℕ) (firing : Bool) (r : ℕ) → low ≤ limit → IsRoutineBody l.code low r → IsAllowedAt (bounds_at l.kept l.saved [] firing) l.code r → RoutineStands l limit firing r
  routine-stands low limit firing r le h made =
      let stay : StayIn limit r h.routine.start h.rest = stay-more low limit r r h.routine.start h.rest le (omega arith) h.stay in
      let same : made.routine ≡ h.routine = same-routine (sym made.there ∙ h.there) in
      let here : StandsAt instrs h.routine.start (made.body ++ op.Return ∷ []) = subst (λ (x : Routine). StandsAt instrs x.start (made.body ++ op.Return ∷ [])) same made.stands in
      let ok : AreAllowed (bounds_at l.kept l.saved [] firing) h.rest =
      allowed-there (bounds_at l.kept l.saved [] firing) instrs h.routine.start made.body h.rest here h.stands (λ j i e. (stay j i e).inner) made.allowed in
      record {
        routine = h.routine;
        there = h.there;
        body = body-stands limit r h.routine.start h.rest op.Return return-last h.stands stay firing [] last.Return r refl
            (λ j i e. may-stand l firing [] last.Return i (stay j i e).inner (allowed_at (bounds_at l.kept l.saved [] firing) h.rest ok j i e))
            (calls-stay limit r h.routine.start h.rest op.Return return-last h.stands stay);
      }

  -- ---- the greatest routine that is called

  -- none is called, or n is one more than the number of one that is
  abbrev AtCall : ℕ → ℕ → ℕ → Type 0
  AtCall begin to n = (n ≡ 0)
      ⊎ ((p : ℕ) × (i : Instr) × (r : ℕ) × (begin ≤ p) × (p < to) × (slice_get instrs p ≡ Some i) × (called i ≡ Some r) × (n ≡ r + 1))

  -- n is above all calls up to a place, and no greater than it must be
  record IsTop (begin to n : ℕ) : Type 0 where
    above : CallsBelow instrs begin to n
    least : AtCall begin to n

  abbrev Top : ℕ → ℕ → Type 0
  Top begin to = (n : ℕ) × IsTop begin to n

  later-call : (begin to n : ℕ) → AtCall begin to n → AtCall begin (to + 1) n
  later-call begin to n (inl e) = inl e
  later-call begin to n (inr w) = inr (w.0, w.1, w.2, w.3, (let low = w.4 in omega (arith, low)), w.5, w.6, w.7)

  wider : (begin to n : ℕ) → IsTop begin to n → CallsBelow instrs begin (to + 1) n → IsTop begin (to + 1) n
  wider begin to n h above = record { above = above; least = later-call begin to n h.least }

  top-more : (begin to : ℕ) → begin ≤ to → Top begin to → Top begin (to + 1)
  top-more begin to from (n, h) = by-instr (slice_get instrs to) refl
    where
      split : (p : ℕ) → p < to + 1 → (p < to) ⊎ (p ≡ to)
      split p low = ⊎_elim (λ (less : p < to). inl less) (λ (past : to ≤ p). inr (omega (arith, past, low))) (cases_lt p to)

      -- no call stands there
      quiet : ((i : Instr) (r : ℕ) → slice_get instrs to ≡ Some i → called i ≡ Some r → ⊥) → Top begin (to + 1)
      quiet none = (
        n,
        wider begin to n h (λ p i r low less e is.
            ⊎_elim (λ (before : p < to). h.above p i r low before e is) (λ (same : p ≡ to). absurd (none i r (ap (slice_get instrs) (sym same) ∙ e) is)) (split p less)),
      )

      -- one does
      loud : (i : Instr) (r : ℕ) → slice_get instrs to ≡ Some i → called i ≡ Some r → (r < n) ⊎ (n ≤ r) → Top begin (to + 1)
      loud i r e is (inl low) = (
        n,
        wider begin to n h (λ p x q from' less f g.
            ⊎_elim (λ (before : p < to). h.above p x q from' before f g)
            (λ (same : p ≡ to).
            let one : i ≡ x = same-some (sym e ∙ (ap (slice_get instrs) (sym same) ∙ f)) in
            let two : r ≡ q = let k : called i ≡ Some q = ap called one ∙ g in cc in
            subst (λ k. k < n) two low) (split p less)),
      )
      loud i r e is (inr high) = (
        r + 1,
        record {
          above = λ p x q from' less f g.
              ⊎_elim (λ (before : p < to). let one = h.above p x q from' before f g in omega (arith, one, high))
              (λ (same : p ≡ to).
              let one : i ≡ x = same-some (sym e ∙ (ap (slice_get instrs) (sym same) ∙ f)) in
              let two : r ≡ q = let k : called i ≡ Some q = ap called one ∙ g in cc in
              omega (arith, two)) (split p less);
          least = inr (to, i, r, from, omega arith, e, is, refl);
        },
      )

      by-call : (i : Instr) → slice_get instrs to ≡ Some i → (o : Option ℕ) → called i ≡ o → Top begin (to + 1)
      by-call i e None is = quiet (λ x r f g. let one : i ≡ x = same-some (sym e ∙ f) in let no : called i ≡ Some r = ap called one ∙ g in absurd (cc))
      by-call i e (Some r) is = loud i r e is (cases_lt r n)

      by-instr : (o : Option Instr) → slice_get instrs to ≡ o → Top begin (to + 1)
      by-instr None e = quiet (λ i r f g. absurd (cc))
      by-instr (Some i) e = by-call i e (called i) refl

  top-up : (begin n : ℕ) → Top begin (begin + n)
  top-up begin zero = (0, record { above = λ p i r from to e is. absurd (omega (arith, from, to)); least = inl refl })
  top-up begin (suc n) =
      let next : begin + n + 1 ≡ begin + suc n = omega arith in
      subst (Top begin) next (top-more begin (begin + n) (omega arith) (top-up begin n))

  -- what is between two numbers
  the-gap : (a b : ℕ) → a ≤ b → (n : ℕ) × (a + n ≡ b)
  the-gap zero b h = (b, omega arith)
  the-gap (suc a) zero h = absurd (omega (arith, h))
  the-gap (suc a) (suc b) h = let g = the-gap a b (omega (arith, h)) in (g.0, let e = g.1 in omega (arith, e))

  top-to : (begin to : ℕ) → begin ≤ to → Top begin to
  top-to begin to le = let gap = the-gap begin to le in subst (Top begin) gap.1 (top-up begin gap.0)

  -- ---- guards and firings

  entry-stands : (firing : Bool) (needs : List ℕ) (callable entry limit low : ℕ) (end : Instr) → IsLast end → MayStand l firing needs (last_of firing) end → IsClearedBody l.code (bounds_at l.kept l.saved needs firing) callable l.kept entry limit end
      → low ≤ limit → callable ≤ length l.code.routines → ((r : ℕ) → r < length l.code.routines → IsRoutineBody l.code low r) → ((r : ℕ) → r < callable → IsAllowedAt (bounds_at l.kept l.saved [] firing) l.code r)
      → EntryStands l firing needs entry limit
  entry-stands firing needs callable entry limit low end is-last ended h le few routines made =
      let bounds = bounds_at l.kept l.saved needs firing in
      let code = op.Zero l.kept h.count ∷ h.rest in
      let ok : AreAllowed bounds code = ((λ d from to. own-cells l.kept l.saved needs firing d from), h.allowed) in
      let s : stop_of instrs entry ≡ entry + length code + 1 = stop limit callable entry code end is-last h.stands h.stay in
      let within = calls-stay limit callable entry code end is-last h.stands h.stay in
      let top = top-to entry (stop_of instrs entry) (omega (arith, s)) in
      record {
        clears = record { count = h.count; there = h.stands.0; up_to = h.limit_is };
        callable = top.0;
        routines = λ q less. by top.0 (stop_of instrs entry) q less top.1.least within;
        body = body-stands limit callable entry code end is-last h.stands h.stay firing needs (last_of firing) top.0 ended
            (λ j i e. may-stand l firing needs (last_of firing) i (h.stay j i e).inner (allowed_at bounds code ok j i e)) top.1.above;
      }
    where
      by : (n to q : ℕ) → q < n → AtCall entry to n → CallsBelow instrs entry to callable → RoutineStands l limit firing q
      by n to q less (inl e) within = absurd (omega (arith, less, e))
      by n to q less (inr w) within =
          let is = w.7 in
          let called-one = within w.0 w.1 w.2 w.3 w.4 w.5 w.6 in
          routine-stands low limit firing q le (routines q (omega (arith, less, is, called-one, few))) (made q (omega (arith, less, is, called-one)))

-- ---- whole actors

all-here : {A : Type 0} (P : A → Type 0) (xs : List A) → ((k : ℕ) (x : A) → slice_get xs k ≡ Some x → P x) → All P xs
all-here P xs h k d low = h k (slice_index_or xs k d) (slice_get-get_or xs k d low)

module _ (actor : Actor) (l : coded.Actor) (draft : Draft) (code : IsCodeOf draft l.code) (actions : List ActionCode) (same : l.actions ≡ map coded.action_of actions) (outs : l.outs ≡ length actor.outs)
    (are : AreCodedActions actor (length actor.actions) actions draft) (fs : List Function) (low : ℕ) (is-kept : l.kept ≡ state_cells actor) (is-saved : l.saved ≡ saved_from 0 actor.vars) (cleared : ClearsActions true actor fs low actions draft)
    (bodies : AreRoutineBodies draft low) (few : length fs ≤ length l.code.routines)
    (made : (firing : Bool) (r : ℕ) → r < callable_in l.code fs firing → IsAllowedAt (bounds_at (state_cells actor) (saved_from 0 actor.vars) [] firing) l.code r) where
  goes : GoesOn draft l.code []
  goes = (code.instrs ∙ sym (append-nil draft.instrs.items), code.routines)

  routines : (r : ℕ) → r < length l.code.routines → IsRoutineBody l.code low r
  routines = bodies l.code [] goes

  bounds-same : (needs : List ℕ) (firing : Bool) → bounds_at (state_cells actor) (saved_from 0 actor.vars) needs firing ≡ bounds_at l.kept l.saved needs firing
  bounds-same needs firing = ap (λ k. bounds_at k (saved_from 0 actor.vars) needs firing) (sym is-kept) ∙ ap (λ s. bounds_at l.kept s needs firing) (sym is-saved)

  made-here : (firing : Bool) (r : ℕ) → r < callable_in l.code fs firing → IsAllowedAt (bounds_at l.kept l.saved [] firing) l.code r
  made-here firing r less = subst (λ b. IsAllowedAt b l.code r) (bounds-same [] firing) (made firing r less)

  sends-below : (a : ℕ) (one : ActionCode) → slice_get actions a ≡ Some one → (c : ClearedAction actor a fs low one draft) → SendsBelow l (coded.action_of one) c.firing.limit
  sends-below a one e c port k low-port less =
      let is : IsCodedAction actor a one draft = are.each a one e in
      let act = there actor.actions a (let up = below actions a one e in let many = are.count in omega (arith, up, many)) in
      let within : port < length actor.outs = omega (arith, low-port, outs) in
      let first : coded.number_on one.sends.items port ≡ first_on act.0.outputs c.firsts port =
      ap (λ ns. slice_index_or ns port 0) (c.sends act.0 act.1) ∙ get_or-map-range_with_len (first_on act.0.outputs c.firsts) 0 (length actor.outs) port port 0 within (omega arith) in
      let gives : coded.number_on one.gives.items port ≡ give actor a port =
      ap (λ ns. slice_index_or ns port 0) is.rates.gives_are ∙ get_or-map-range_with_len (give actor a) 0 (length actor.outs) port port 0 within (omega arith) in
      let given : give actor a port ≡ given_on port act.0.outputs = ap (λ o. elim o [ None ↦ 0 | Some x ↦ given_on port x.outputs ]) act.1 in
      let inside = c.firing.sends act.0 port act.1 in
      omega (arith, first, gives, given, inside, less)

  body-at : (a : ℕ) (one : ActionCode) → slice_get actions a ≡ Some one → (firing : Bool) (entry limit : ℕ) (end : Instr) → ClearedFrom actor a fs firing low entry limit end draft
      → IsClearedBody l.code (bounds_at l.kept l.saved one.needs.items firing) (callable_in l.code fs firing) l.kept entry limit end
  body-at a one e firing entry limit end from =
      let needs : needs_of actor a ≡ one.needs.items = sym (are.each a one e).rates.needs_are in
      subst (λ n. IsClearedBody l.code (bounds_at l.kept l.saved one.needs.items firing) (callable_in l.code fs firing) n entry limit end) (sym is-kept)
      (subst (λ b. IsClearedBody l.code b (callable_in l.code fs firing) (state_cells actor) entry limit end)
      (ap (λ ns. bounds_at (state_cells actor) (saved_from 0 actor.vars) ns firing) needs ∙ bounds-same one.needs.items firing) (from.body l.code [] goes))

  action-stands : (a : ℕ) (one : ActionCode) → slice_get actions a ≡ Some one → ActionStands l (coded.action_of one)
  action-stands a one e =
      let c : ClearedAction actor a fs low one draft = cleared a one e refl in
      record {
        guards = all-here (GuardStands l (coded.action_of one)) one.guards.items (λ k entry at.
            let g = c.guards k entry at in
            record {
              limit = g.0;
              stands = entry-stands l false one.needs.items (length fs) entry g.0 low op.Answer answer-last refl (body-at a one e false entry g.0 op.Answer g.1) g.1.below few routines (made-here false);
            });
        firing = record {
          limit = c.firing.limit;
          stands = entry-stands l true one.needs.items (length l.code.routines) one.fire c.firing.limit low op.Done done-last refl (body-at a one e true one.fire c.firing.limit op.Done c.firing.from) c.firing.from.below (omega arith) routines
              (made-here true);
          sends = sends-below a one e c;
        };
      }

  pub all-stand : AllStand l
  all-stand = all-here (ActionStands l) l.actions (λ k action at.
      let one = mapped coded.action_of actions k action (ap (λ xs. slice_get xs k) (sym same) ∙ at) in
      subst (ActionStands l) one.2 (action-stands k one.0 one.1))
