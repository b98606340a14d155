-- The report is put behind what a run leaves, and changes nothing of that.
use Rattle.std.proofs.Common.{◌≡◌, ◌≢◌, inl, inr, ℕ, ◌+◌, ◌≤◌, List, [], ◌∷◌, ◌++◌, refl, sym, ap, ◌∙◌, arith}
use Rattle.rvc_io.specs.Feeds.{Inputs}
use Rattle.rvc_io.specs.Channels.{Channels, WritesOnlyAt}
use Rattle.rvc_io.specs.Count.{HasRisen}
use Rattle.trace_text.specs.declared.line.Line.{Line}
use Rattle.net_model.specs.declared.wiring.Counts.{Counts}
use Rattle.net_model.specs.State.{State}
use Rattle.cmd_run_network.specs.Leaving.{HasEnded, Holds, HoldsPrefix, Setting, WasBroken, WasCut, Wrote, WrotePrefixes}

-- ---- counts of faults

pub risen_from : (old between new : ℕ) → old ≤ between → HasRisen between new → HasRisen old new
risen_from old between new before (inl less) = inl (omega (arith, before, less))
risen_from old between new before (inr last) = inr last

pub risen_to : (old between new : ℕ) → HasRisen old between → between ≤ new → HasRisen old new
risen_to old between new (inl less) behind = inl (omega (arith, less, behind))
risen_to old between new (inr last) behind = inr (omega (arith, last, behind))

-- ---- channels

module _ {X : Type 0} (run : Setting X) (old new : Channels) (only : WritesOnlyAt 0 old new) where
  first : (p : ℕ) → p ≡ 1 → p ≢ 0
  first p is e = absurd (omega (arith, is, e))

  two : (p : ℕ) → 2 + p ≢ 0
  two p e = absurd (omega (arith, e))

  holds : (channel : ℕ) (bytes : List ℕ) → channel ≢ 0 → Holds old channel bytes → Holds new channel bytes
  holds channel bytes other h = record {
    opened = only.same_open channel ∙ h.opened;
    held = λ tells. (let told = sym only.same_telling ∙ tells in only.same_held told channel other ∙ h.held told);
  }

  holds_prefix : (channel : ℕ) (bytes : List ℕ) → channel ≢ 0 → HoldsPrefix old channel bytes → HoldsPrefix new channel bytes
  holds_prefix channel bytes other h open_now tells =
      let told = sym only.same_telling ∙ tells in
      let was = h (sym (only.same_open channel) ∙ open_now) told in
      (was.0, was.1 ∙ again (old.held channel) (new.held channel) was.0 (only.same_held told channel other))
    where
      again : (this that rest : List ℕ) → that ≡ this → this ++ rest ≡ that ++ rest
      again this that rest same = ap (λ xs. xs ++ rest) (sym same)

  wrote : (lines : List Line) (last : State X) → Wrote run lines last old → Wrote run lines last new
  wrote lines last w = record {
    trace = holds 1 _ (first 1 refl) w.trace;
    outputs = λ p file named. holds (2 + p) _ (two p) (w.outputs p file named);
    unnamed = λ p none. only.same_open (2 + p) ∙ w.unnamed p none;
  }

  wrote_prefixes : (lines : List Line) (last : State X) → WrotePrefixes run lines last old → WrotePrefixes run lines last new
  wrote_prefixes lines last w = record {
    trace = holds_prefix 1 _ (first 1 refl) w.trace;
    outputs = λ p file named. holds_prefix (2 + p) _ (two p) (w.outputs p file named);
    unnamed = λ p none. only.same_open (2 + p) ∙ w.unnamed p none;
  }

  pub ended : (line : Line) (counts : Counts) → HasEnded run line counts old → HasEnded run line counts new
  ended line counts h = record {
    before = h.before;
    last = h.last;
    paced = h.paced;
    permitted = h.permitted;
    wrote = wrote (h.before ++ line ∷ []) h.last h.wrote;
    counted = h.counted;
    spent = h.spent;
  }

  pub cut : (counts : Counts) (feed : ℕ) (feeds : Inputs) → WasCut run counts feed feeds old → WasCut run counts feed feeds new
  cut counts feed feeds h = record {
    lines = h.lines;
    reached = h.reached;
    begun = h.begun;
    needs = h.needs;
    permitted = h.permitted;
    wrote = wrote h.lines h.reached.state h.wrote;
    counted = h.counted;
  }

  pub broken : WasBroken run old → WasBroken run new
  broken h = record {
    lines = h.lines;
    last = h.last;
    begun_or_paced = h.begun_or_paced;
    permitted = h.permitted;
    wrote = wrote_prefixes h.lines h.last h.wrote;
  }
