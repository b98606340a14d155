-- The parts of a lowered actor fit together.
use Rattle.std.proofs.Common.{◌≡◌, ℕ, zero, suc, ◌<◌, ◌≤◌, Bool, true, false, List, [], ◌∷◌, ◌++◌, length, refl, sym, ap, ◌∙◌, None, Some, arith}
use Rattle.std.specs.Prelude.{All, ◌||◌, ◌==◌, slice_get, slice_index_or}
use Rattle.std.proofs.lemmas.Bool.{eq-eqb}
use Rattle.std.proofs.lemmas.List.{length-map}
use Rattle.std.proofs.lemmas.List.Elements.{All-map}
use Rattle.std.proofs.lemmas.List.FromFn.{get_or-map-range_with_len, length-map-range_with_len}
use Rattle.std.proofs.lemmas.Option.{slice_get-get_or}
use Rattle.rvc_base.specs.Storing.{IsSize}
use Rattle.cal_model.specs.declared.bound.Bound.{Bound}
use Rattle.cal_model.specs.Actor.{Actor}
use Rattle.cal_model.specs.Rates.{give, given_on, need}
use Rattle.cal_model.specs.View.{action_view, actor_of, port_view}
use Rattle.code_ir.specs.Code.{is_among}
use Rattle.lower_base.specs.declared.draft.Draft.{Draft}
use Rattle.lowered_actor.specs.Actor as coded
use Rattle.lowered_actor.specs.declared.parts.ActionCode.{ActionCode}
use Rattle.lowered_actor.specs.declared.parts.Parts.{Parts}
use Rattle.lowered_actor.specs.Facts.{AreApart, FitTogether, Fits}
use Rattle.action_lower.specs.FiringCode.{first_on}
use Rattle.lower_tables.specs.Tables.{IsPriority, IsSchedule}
use Rattle.lower_actor.specs.Coded.{AreCodedActions, IsCodeOf, IsCodedAction, all_entries, entries_of}
use Rattle.lower_actor.proofs.Placed.{there}
use Rattle.lower_actor.proofs.Sent.{below}

all-here : {A : Type 0} (P : A → Type 0) (xs : List A) → ((k : ℕ) (x : A) → slice_get xs k ≡ Some x → P x) → All P xs
all-here P xs h k d low = h k (slice_index_or xs k d) (slice_get-get_or xs k d low)

or-true : (b : Bool) → (b || true) ≡ true
or-true true = refl
or-true false = refl

among-left : (p : ℕ) (xs ys : List ℕ) → is_among p xs ≡ true → is_among p (xs ++ ys) ≡ true
among-left p [] ys h = absurd (cc)
among-left p (x ∷ xs) ys h = by (x == p) h (among-left p xs ys)
  where
    by : (b : Bool) → (b || is_among p xs) ≡ true → (is_among p xs ≡ true → is_among p (xs ++ ys) ≡ true) → (b || is_among p (xs ++ ys)) ≡ true
    by true h more = refl
    by false h more = more h

among-right : (p : ℕ) (xs ys : List ℕ) → is_among p ys ≡ true → is_among p (xs ++ ys) ≡ true
among-right p [] ys h = h
among-right p (x ∷ xs) ys h = ap (λ b. (x == p) || b) (among-right p xs ys h) ∙ or-true (x == p)

at-among : (xs : List ℕ) (k p : ℕ) → slice_get xs k ≡ Some p → is_among p xs ≡ true
at-among [] k p e = absurd (cc)
at-among (x ∷ xs) zero p e = let same : x ≡ p = cc in ap (λ b. b || is_among p xs) (eq-eqb x p same)
at-among (x ∷ xs) (suc k) p e = ap (λ b. (x == p) || b) (at-among xs k p e) ∙ or-true (x == p)

entries-among : (actions : List ActionCode) (k p : ℕ) (one : ActionCode) → slice_get actions k ≡ Some one → is_among p (entries_of one) ≡ true → is_among p (all_entries actions) ≡ true
entries-among [] k p one e h = absurd (cc)
entries-among (x ∷ actions) zero p one e h = let same : x ≡ one = cc in among-left p (entries_of x) (all_entries actions) (ap (λ y. is_among p (entries_of y)) same ∙ h)
entries-among (x ∷ actions) (suc k) p one e h = among-right p (entries_of x) (all_entries actions) (entries-among actions k p one e h)

module _ (b : Bound) (parts : Parts) (draft : Draft) (schedule : IsSchedule (actor_of b) parts.fsm) (priority : IsPriority (actor_of b) parts.order) (are : AreCodedActions (actor_of b) (length b.actions.items) parts.actions.items draft)
    (code : IsCodeOf draft parts.code) (entries : parts.code.entries ≡ all_entries parts.actions.items) (ins : parts.ins ≡ length b.ins.items) (outs : parts.outs ≡ length b.outs.items) where
  abbrev actor : Actor
  actor = actor_of b

  abbrev lowered : coded.Actor
  lowered = coded.actor_of parts

  many : length parts.actions.items ≡ length actor.actions
  many = are.count ∙ sym (length-map b.actions.items action_view)

  same-ins : length actor.ins ≡ parts.ins
  same-ins = length-map b.ins.items port_view ∙ sym ins

  same-outs : length actor.outs ≡ parts.outs
  same-outs = length-map b.outs.items port_view ∙ sym outs

  action-fits : (a : ℕ) (one : ActionCode) → slice_get parts.actions.items a ≡ Some one → Fits lowered (coded.action_of one)
  action-fits a one e =
      let is : IsCodedAction actor a one draft = are.each a one e in
      let act = there actor.actions a (let low = below parts.actions.items a one e in omega (arith, low, many)) in
      let sends = is.sends act.0 act.1 in
      record {
        needs = ap length is.rates.needs_are ∙ length-map-range_with_len (need actor a) 0 (length actor.ins) ∙ same-ins;
        gives = ap length is.rates.gives_are ∙ length-map-range_with_len (give actor a) 0 (length actor.outs) ∙ same-outs;
        sends = ap length sends ∙ length-map-range_with_len (first_on act.0.outputs is.firsts) 0 (length actor.outs) ∙ same-outs;
        guards = all-here (λ entry. is_among entry parts.code.entries ≡ true) one.guards.items (λ k p f.
            ap (is_among p) entries ∙ entries-among parts.actions.items a p one e (among-left p one.guards.items (one.fire ∷ []) (at-among one.guards.items k p f)));
        fire = ap (is_among one.fire) entries ∙ entries-among parts.actions.items a one.fire one e (among-right one.fire one.guards.items (one.fire ∷ []) (at-among (one.fire ∷ []) 0 one.fire refl));
        sent = λ p less.
            let low : p < length actor.outs = omega (arith, less, same-outs) in
            let first : coded.number_on one.sends.items p ≡ first_on act.0.outputs is.firsts p =
            ap (λ ns. slice_index_or ns p 0) sends ∙ get_or-map-range_with_len (first_on act.0.outputs is.firsts) 0 (length actor.outs) p p 0 low (omega arith) in
            let gives : coded.number_on one.gives.items p ≡ give actor a p =
            ap (λ ns. slice_index_or ns p 0) is.rates.gives_are ∙ get_or-map-range_with_len (give actor a) 0 (length actor.outs) p p 0 low (omega arith) in
            let given : give actor a p ≡ given_on p act.0.outputs = ap (λ o. elim o [ None ↦ 0 | Some x ↦ given_on p x.outputs ]) act.1 in
            let inside = is.inside act.0 p act.1 in
            let cells = code.cells in
            omega (arith, first, gives, given, inside, cells);
      }

  pub parts-fit : length parts.first.items ≡ parts.code.cells → parts.start < parts.fsm.states → parts.kept ≤ parts.code.cells → All (λ saved. saved.cell < parts.kept) parts.saved.items
      → AreApart parts.saved.items → All (λ saved. IsSize saved.kind) parts.saved.items → FitTogether lowered
  parts-fit first start kept saved apart sizes = record {
    automaton = schedule.actions ∙ (sym many ∙ sym (length-map parts.actions.items coded.action_of));
    order = priority.count ∙ (sym many ∙ sym (length-map parts.actions.items coded.action_of));
    first = first;
    start = start;
    kept = kept;
    saved = saved;
    apart = apart;
    sizes = sizes;
    each = All-map (Fits lowered) coded.action_of parts.actions.items (all-here (λ one. Fits lowered (coded.action_of one)) parts.actions.items action-fits);
  }
