-- Lines that lead on are traces, and traces are such lines.
use Rattle.std.proofs.Common.{◌≡◌, ℕ, zero, suc, ◌+◌, Bool, true, false, List, [], ◌∷◌, ◌++◌, map, refl, sym, ap, subst, ◌∙◌, arith, append_assoc}
use Rattle.std.specs.Prelude.{if◌then◌else◌, Option, None, Some, slice_get, flat_map}
use Rattle.std.specs.List.{concat}
use Rattle.trace_text.specs.declared.line.Line.{Line}
use Rattle.trace_text.specs.declared.line.Line.TheVariants.{Header as FirstLine, Inst, Fire, Deliver, Grow, Quiet, Trap as TrapLine, Stall, Budget}
use Rattle.trace_text.specs.Text.{line_text}
use Rattle.trace_text.specs.Table.{IsWritten, AreWritten}
use Rattle.trace_text.specs.Spelling.{Spells}
use Rattle.net_model.specs.Network.{Leaf, Network}
use Rattle.net_model.specs.State.{State}
use Rattle.net_model.specs.Trace.{goes, LineIsTrue, OnNext, PlaysFrom, FitFlows, TrapFits, opened_by, KeepsSince, instance_lines}
use Rattle.trace_replay.specs.Judging.{Trial, AtEvents, AtEnd, first_line, instance_text, due, is_end, after_line, MayCome, Lead}
use Rattle.trace_replay.specs.Laws.{StartFits, LinesMakeTraces, TracesAreLines}

-- Options.

pub next_is : {X : Type 0} (o : Option (State X)) (next : State X) (P : State X → Type 0) → o ≡ Some next → P next → OnNext o P
next_is None next P h p = cc
next_is (Some u) next P h p = let same : u ≡ next = cc in subst P (sym same) p

pub next_of : {X : Type 0} (R : Type 0) (o : Option (State X)) (P : State X → Type 0) → ((u : State X) → o ≡ Some u → P u → R) → OnNext o P → R
next_of R None P f h = absurd h
next_of R (Some u) P f h = f u refl h

by_bool : (P : Type 0) (b : Bool) → (b ≡ true → P) → (b ≡ false → P) → P
by_bool P true p q = p refl
by_bool P false p q = q refl

-- Lines.

-- a line that comes in a run is written in one piece
pub written_text : {X : Type 0} (net : Network X) (grow : ℕ) (s : State X) (line : Line) (after : List Line) (text : List ℕ) → LineIsTrue net grow s line after
    → Spells line text → IsWritten line × (text ≡ line_text line)
written_text net grow s (FirstLine n l g) after text is_true spells = absurd is_true
written_text net grow s (Inst k) after text is_true spells = absurd is_true
written_text net grow s (Fire i a) after text is_true spells = spells
written_text net grow s Deliver after text is_true spells = spells
written_text net grow s (Grow l c) after text is_true spells = spells
written_text net grow s Quiet after text is_true spells = spells
written_text net grow s (TrapLine i a c) after text is_true spells = spells
written_text net grow s (Stall i a l) after text is_true spells = spells
written_text net grow s Budget after text is_true spells = spells

spelled : (line : Line) → IsWritten line → Spells line (line_text line)
spelled (FirstLine n l g) w = (w, refl)
spelled (Inst k) w = absurd w
spelled (Fire i a) w = (w, refl)
spelled Deliver w = (w, refl)
spelled (Grow l c) w = (w, refl)
spelled Quiet w = (w, refl)
spelled (TrapLine i a c) w = (w, refl)
spelled (Stall i a l) w = (w, refl)
spelled Budget w = (w, refl)

-- what a line says that is no end doesn't speak of the lines after it
true_before : {X : Type 0} (net : Network X) (grow : ℕ) (s : State X) (line : Line) (these those : List Line) → is_end line ≡ false
    → LineIsTrue net grow s line these → LineIsTrue net grow s line those
true_before net grow s (FirstLine n l g) these those not_so h = h
true_before net grow s (Inst k) these those not_so h = h
true_before net grow s (Fire i a) these those not_so h = h
true_before net grow s Deliver these those not_so h = h
true_before net grow s (Grow l c) these those not_so h = h
true_before net grow s Quiet these those not_so h = cc
true_before net grow s (TrapLine i a c) these those not_so h = cc
true_before net grow s (Stall i a l) these those not_so h = cc
true_before net grow s Budget these those not_so h = cc

-- an end line is the last
none_after : {X : Type 0} (net : Network X) (grow : ℕ) (s : State X) (line : Line) (after : List Line) → is_end line ≡ true
    → LineIsTrue net grow s line after → after ≡ []
none_after net grow s (FirstLine n l g) after is_so h = absurd h
none_after net grow s (Inst k) after is_so h = absurd h
none_after net grow s (Fire i a) after is_so h = cc
none_after net grow s Deliver after is_so h = cc
none_after net grow s (Grow l c) after is_so h = cc
none_after net grow s Quiet after is_so h = h.1
none_after net grow s (TrapLine i a c) after is_so h = h
none_after net grow s (Stall i a l) after is_so h = h.1
none_after net grow s Budget after is_so h = h.1

fits_first : {X : Type 0} (net : Network X) (opened s : State X) (lines : List Line) → KeepsSince net opened s lines
    → FitFlows net.links opened.flows s.flows
fits_first net opened s [] h = h
fits_first net opened s (line ∷ lines) h = h.0

pub after_end : {X : Type 0} (line : Line) (opened next : State X) → is_end line ≡ true → after_line line opened next ≡ AtEnd line next
after_end line opened next is_so = subst (λ b. (if b then AtEnd line next else AtEvents (opened_by line opened next) next) ≡ AtEnd line next) (sym is_so) refl

pub after_event : {X : Type 0} (line : Line) (opened next : State X) → is_end line ≡ false
    → after_line line opened next ≡ AtEvents (opened_by line opened next) next
after_event line opened next not_so =
    subst (λ b. (if b then AtEnd line next else AtEvents (opened_by line opened next) next) ≡ AtEvents (opened_by line opened next) next) (sym not_so) refl

-- From texts to lines.

-- the texts are lines that play from here to this end
record Events {X : Type 0} (t : Trial X) (opened s : State X) (text : List ℕ) (end : Line) (last : State X) : Type 0 where
  lines : List Line
  is_text : text ≡ flat_map line_text lines
  written : AreWritten lines
  plays : PlaysFrom t.net t.grow s lines last
  keeps : KeepsSince t.net opened s lines
  before : List Line
  split : lines ≡ before ++ end ∷ []
  ends : is_end end ≡ true

one_end : {X : Type 0} (t : Trial X) (opened s next : State X) (line end : Line) (last : State X) (text : List ℕ) (texts : List (List ℕ))
    → FitFlows t.net.links opened.flows s.flows → MayCome t opened s line next → Spells line text → is_end line ≡ true
    → Lead t (AtEnd line next) texts (AtEnd end last) → Events t opened s (concat (text ∷ texts)) end last
one_end t opened s next line end last text (more ∷ texts) fits may spells is_so lead = absurd lead.3
one_end t opened s next line end last text [] fits may spells is_so lead =
    let same_line : line ≡ end = cc in
    let same_state : next ≡ last = cc in
    let whole : IsWritten line × (text ≡ line_text line) = written_text t.net t.grow s line [] text may.true_there spells in
    record {
      lines = line ∷ [];
      is_text = ap (λ a. a ++ []) whole.1;
      written = (whole.0, tt);
      plays = (may.true_there, next_is (goes t.net s line) next (λ u. u ≡ last) may.goes_so same_state);
      keeps = (fits, may.trap_fits, next_is (goes t.net s line) next _ may.goes_so may.fits);
      before = [];
      split = ap (λ a. a ∷ []) same_line;
      ends = subst (λ a. is_end a ≡ true) same_line is_so;
    }

events_make : {X : Type 0} (t : Trial X) (opened s : State X) (texts : List (List ℕ)) (end : Line) (last : State X)
    → FitFlows t.net.links opened.flows s.flows → Lead t (AtEvents opened s) texts (AtEnd end last)
    → Events t opened s (concat texts) end last
events_make t opened s [] end last fits lead = cc
events_make t opened s (text ∷ texts) end last fits (line, next, spells, (mid, may, is_next), rest) =
    by_bool (Events t opened s (concat (text ∷ texts)) end last) (is_end line)
    (λ is_so. one_end t opened s mid line end last text texts fits may spells is_so
    (subst (λ r. Lead t r texts (AtEnd end last)) (is_next ∙ after_end line opened mid is_so) rest))
    (λ not_so.
    let more : Events t (opened_by line opened mid) mid (concat texts) end last =
    events_make t (opened_by line opened mid) mid texts end last may.fits
    (subst (λ r. Lead t r texts (AtEnd end last)) (is_next ∙ after_event line opened mid not_so) rest) in
    let whole : IsWritten line × (text ≡ line_text line) = written_text t.net t.grow s line [] text may.true_there spells in
    record {
      lines = line ∷ more.lines;
      is_text = ap (λ a. a ++ concat texts) whole.1 ∙ ap (λ a. line_text line ++ a) more.is_text;
      written = (whole.0, more.written);
      plays = (
        true_before t.net t.grow s line [] more.lines not_so may.true_there,
        next_is (goes t.net s line) mid (λ u. PlaysFrom t.net t.grow u more.lines last) may.goes_so more.plays,
      );
      keeps = (
        fits,
        may.trap_fits,
        next_is (goes t.net s line) mid (λ u. KeepsSince t.net (opened_by line opened u) u more.lines) may.goes_so more.keeps,
      );
      before = line ∷ more.before;
      split = ap (λ a. line ∷ a) more.split;
      ends = more.ends;
    })

-- the texts are those of instances from k on, and then lines that play from the start
record Heads {X : Type 0} (t : Trial X) (k : ℕ) (leaves : List (Leaf X)) (text : List ℕ) (end : Line) (last : State X) : Type 0 where
  behind : List ℕ
  is_text : text ≡ instance_lines k leaves ++ behind
  instances : (j : ℕ) (leaf : Leaf X) → slice_get leaves j ≡ Some leaf → Spells (Inst (k + j)) (instance_text (k + j) leaf)
  events : Events t t.start t.start behind end last

heads_make : {X : Type 0} (t : Trial X) (k : ℕ) (leaves : List (Leaf X)) (texts : List (List ℕ)) (end : Line) (last : State X) → StartFits t
    → Lead t (due k leaves t.start) texts (AtEnd end last) → Heads t k leaves (concat texts) end last
heads_make t k [] texts end last fits lead = record {
  behind = concat texts;
  is_text = refl;
  instances = λ j leaf at. cc;
  events = events_make t t.start t.start texts end last fits lead;
}
heads_make t k (leaf ∷ leaves) [] end last fits lead = cc
heads_make {X} t k (leaf ∷ leaves) (text ∷ texts) end last fits (line, next, spells, (instance, is_next), rest) =
    let more : Heads t (k + 1) leaves (concat texts) end last =
    heads_make t (k + 1) leaves texts end last fits (subst (λ r. Lead t r texts (AtEnd end last)) is_next rest) in
    let this : Spells (Inst k) (instance_text k leaf) = subst (λ l. Spells l (instance_text k leaf)) instance.0 (subst (λ a. Spells line a) instance.1 spells) in
    record {
      behind = more.behind;
      is_text = ap (λ a. a ++ concat texts) instance.1 ∙ ap (λ a. instance_text k leaf ++ a) more.is_text
          ∙ sym (append_assoc (instance_text k leaf) (instance_lines (k + 1) leaves) more.behind);
      instances = each more.instances this;
      events = more.events;
    }
  where
    each : ((j : ℕ) (other : Leaf X) → slice_get leaves j ≡ Some other → Spells (Inst (k + 1 + j)) (instance_text (k + 1 + j) other))
        → Spells (Inst k) (instance_text k leaf)
        → (j : ℕ) (other : Leaf X) → slice_get (leaf ∷ leaves) j ≡ Some other → Spells (Inst (k + j)) (instance_text (k + j) other)
    each others this zero other at =
        let same : leaf ≡ other = cc in
        let here : k ≡ k + 0 = omega arith in
        subst (λ n. Spells (Inst n) (instance_text n other)) here (subst (λ l. Spells (Inst k) (instance_text k l)) same this)
    each others this (suc j) other at =
        let here : k + 1 + j ≡ k + suc j = omega arith in
        subst (λ n. Spells (Inst n) (instance_text n other)) here (others j other at)

pub lines_make_traces : {X : Type 0} → LinesMakeTraces X
lines_make_traces t [] end last fits lead = cc
lines_make_traces {X} t (text ∷ texts) end last fits (line, next, spells, (is_first, is_next), rest) =
    let head : Heads t 0 t.net.leaves (concat texts) end last =
    heads_make t 0 t.net.leaves texts end last fits (subst (λ r. Lead t r texts (AtEnd end last)) is_next rest) in
    let whole : IsWritten (first_line t) × (text ≡ line_text (first_line t)) = subst (λ l. Spells l text) is_first spells in
    let events : Events t t.start t.start head.behind end last = head.events in (
      events.lines,
      record {
        is_text = ap (λ a. a ++ concat texts) whole.1 ∙ ap (λ a. line_text (first_line t) ++ a) (head.is_text ∙ ap (λ a. instance_lines 0 t.net.leaves ++ a) events.is_text)
            ∙ sym (append_assoc (line_text (first_line t)) (instance_lines 0 t.net.leaves) (flat_map line_text events.lines));
        of_table = record {
          first = whole.0;
          instances = λ k leaf at. let here : 0 + k ≡ k = omega arith in
              subst (λ n. Spells (Inst n) (instance_text n leaf)) here (head.instances k leaf at);
          events = events.written;
        };
        plays = events.plays;
        keeps = events.keeps;
        ends = (events.before, events.split, events.ends);
      },
    )

-- From lines to texts.

concat_events : (lines : List Line) → concat (map line_text lines) ≡ flat_map line_text lines
concat_events [] = refl
concat_events (line ∷ lines) = ap (λ a. line_text line ++ a) (concat_events lines)

may_come : {X : Type 0} (t : Trial X) (opened s next : State X) (line : Line) (after : List Line) → LineIsTrue t.net t.grow s line [] → goes t.net s line ≡ Some next
    → TrapFits t.net opened s line → KeepsSince t.net (opened_by line opened next) next after → MayCome t opened s line next
may_come t opened s next line after is_true goes_so trap_fits keeps = record {
  true_there = is_true;
  goes_so = goes_so;
  trap_fits = trap_fits;
  fits = fits_first t.net (opened_by line opened next) next after keeps;
}

-- both of two facts on the next state
next_both : {X : Type 0} (R : Type 0) (o : Option (State X)) (P Q : State X → Type 0) → ((u : State X) → o ≡ Some u → P u → Q u → R) → OnNext o P → OnNext o Q → R
next_both R None P Q f p q = absurd p
next_both R (Some u) P Q f p q = f u refl p q

only_one : (before : List Line) (line end : Line) → line ∷ [] ≡ before ++ end ∷ [] → line ≡ end
only_one [] line end h = cc
only_one (b ∷ []) line end h = cc
only_one (b ∷ c ∷ before) line end h = cc

events_lead : {X : Type 0} (t : Trial X) (opened s : State X) (lines before : List Line) (end : Line) (last : State X)
    → lines ≡ before ++ end ∷ [] → is_end end ≡ true → AreWritten lines → PlaysFrom t.net t.grow s lines last → KeepsSince t.net opened s lines
    → Lead t (AtEvents opened s) (map line_text lines) (AtEnd end last)
events_lead t opened s [] [] end last split ends written plays keeps = cc
events_lead t opened s [] (b ∷ before) end last split ends written plays keeps = cc
events_lead t opened s (line ∷ lines) [] end last split ends written plays keeps =
    let same : line ≡ end = cc in
    let none : lines ≡ [] = cc in
    let is_so : is_end line ≡ true = subst (λ a. is_end a ≡ true) (sym same) ends in
    let is_true : LineIsTrue t.net t.grow s line [] = subst (λ a. LineIsTrue t.net t.grow s line a) none plays.0 in
    next_both (Lead t (AtEvents opened s) (map line_text (line ∷ lines)) (AtEnd end last)) (goes t.net s line) _ _
    (λ next so plays_on keeps_on.
    let ended : next ≡ last = subst (λ a. PlaysFrom t.net t.grow next a last) none plays_on in (
      line,
      after_line line opened next,
      spelled line written.0,
      (next, may_come t opened s next line lines is_true so keeps.1 keeps_on, refl),
      subst (λ a. Lead t (after_line line opened next) (map line_text a) (AtEnd end last)) (sym none)
          (after_end line opened next is_so ∙ ap (λ a. AtEnd a next) same ∙ ap (λ u. AtEnd end u) ended),
    ))
    plays.1 keeps.2
events_lead t opened s (line ∷ lines) (b ∷ before) end last split ends written plays keeps =
    let rest : lines ≡ before ++ end ∷ [] = cc in
    by_bool (Lead t (AtEvents opened s) (map line_text (line ∷ lines)) (AtEnd end last)) (is_end line)
    (λ is_so.
    let none : lines ≡ [] = none_after t.net t.grow s line lines is_so plays.0 in
    let not_so : [] ≡ before ++ end ∷ [] = sym none ∙ rest in
    absurd (not_nothing before end not_so))
    (λ not_so.
    next_both (Lead t (AtEvents opened s) (map line_text (line ∷ lines)) (AtEnd end last)) (goes t.net s line) _ _
    (λ next so plays_on keeps_on. (
      line,
      after_line line opened next,
      spelled line written.0,
      (next, may_come t opened s next line lines (true_before t.net t.grow s line lines [] not_so plays.0) so keeps.1 keeps_on, refl),
      subst (λ r. Lead t r (map line_text lines) (AtEnd end last)) (sym (after_event line opened next not_so))
          (events_lead t (opened_by line opened next) next lines before end last rest ends written.1 plays_on keeps_on),
    ))
    plays.1 keeps.2)
  where
    not_nothing : (before : List Line) (end : Line) → [] ≡ before ++ end ∷ [] → ⊥
    not_nothing [] end h = cc
    not_nothing (b ∷ before) end h = cc

-- the texts of instances from k on
abbrev instance_texts : {X : Type 0} → ℕ → List (Leaf X) → List (List ℕ)
instance_texts k [] = []
instance_texts k (leaf ∷ leaves) = instance_text k leaf ∷ instance_texts (k + 1) leaves

heads_lead : {X : Type 0} (t : Trial X) (k : ℕ) (leaves : List (Leaf X)) (texts : List (List ℕ)) (end : Line) (last : State X)
    → ((j : ℕ) (leaf : Leaf X) → slice_get leaves j ≡ Some leaf → Spells (Inst (k + j)) (instance_text (k + j) leaf))
    → Lead t (AtEvents t.start t.start) texts (AtEnd end last)
    → Lead t (due k leaves t.start) (instance_texts k leaves ++ texts) (AtEnd end last)
heads_lead t k [] texts end last instances lead = lead
heads_lead t k (leaf ∷ leaves) texts end last instances lead =
    let here : k + 0 ≡ k = omega arith in (
      Inst k,
      due (k + 1) leaves t.start,
      subst (λ n. Spells (Inst n) (instance_text n leaf)) here (instances 0 leaf refl),
      ((refl, refl), refl),
      heads_lead t (k + 1) leaves texts end last
          (λ j other at. let there : k + suc j ≡ k + 1 + j = omega arith in
          subst (λ n. Spells (Inst n) (instance_text n other)) there (instances (suc j) other at)) lead,
    )

concat_heads : {X : Type 0} (k : ℕ) (leaves : List (Leaf X)) (texts : List (List ℕ)) → concat (instance_texts k leaves ++ texts) ≡ instance_lines k leaves ++ concat texts
concat_heads k [] texts = refl
concat_heads k (leaf ∷ leaves) texts =
    ap (λ a. instance_text k leaf ++ a) (concat_heads (k + 1) leaves texts)
    ∙ sym (append_assoc (instance_text k leaf) (instance_lines (k + 1) leaves) (concat texts))

pub traces_are_lines : {X : Type 0} → TracesAreLines X
traces_are_lines t text lines end last is_trace =
    let behind : List (List ℕ) = map line_text lines in
    let texts : List (List ℕ) = line_text (first_line t) ∷ (instance_texts 0 t.net.leaves ++ map line_text lines) in
    let same : text ≡ concat (line_text (first_line t) ∷ (instance_texts 0 t.net.leaves ++ map line_text lines)) =
    is_trace.is_text ∙ append_assoc (line_text (first_line t)) (instance_lines 0 t.net.leaves) (flat_map line_text lines)
    ∙ sym (ap (λ a. line_text (first_line t) ++ a) (concat_heads 0 t.net.leaves (map line_text lines)
    ∙ ap (λ a. instance_lines 0 t.net.leaves ++ a) (concat_events lines))) in (
      line_text (first_line t) ∷ (instance_texts 0 t.net.leaves ++ map line_text lines),
      same,
      (
        first_line t,
        due 0 t.net.leaves t.start,
        (is_trace.of_table.first, refl),
        (refl, refl),
        heads_lead t 0 t.net.leaves (map line_text lines) end last
            (λ j leaf at. let here : j ≡ 0 + j = omega arith in
            subst (λ n. Spells (Inst n) (instance_text n leaf)) here (is_trace.of_table.instances j leaf at))
            (events_lead t t.start t.start lines is_trace.ends.0 end last is_trace.ends.1 is_trace.ends.2 is_trace.of_table.events
            is_trace.plays is_trace.keeps),
      ),
    )
