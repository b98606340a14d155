-- Where the lines of a run that were read have led.
use Rattle.std.proofs.Common.{◌≡◌, ℕ, suc, ◌+◌, Bool, true, false, List, [], ◌∷◌, ◌++◌, length, refl, sym, ap, subst, ◌∙◌, inl, arith, append_assoc, append-nil}
use Rattle.std.specs.Prelude.{Option, None, Some, Err, slice_get, take, flat_map, if◌then◌else◌}
use Rattle.std.specs.List.{concat}
use Rattle.rvc_io.specs.Feeds.{Inputs, PullsOnlyAt}
use Rattle.trace_text.specs.declared.line.Line.{Line}
use Rattle.trace_text.specs.Table.{AreWritten, IsWritten}
use Rattle.trace_text.specs.Spelling.{Spells}
use Rattle.port_files.specs.Coming.{Reading, coming, coming_on}
use Rattle.net_model.specs.declared.wiring.Counts.{Counts}
use Rattle.net_model.specs.declared.wiring.Link.{Link}
use Rattle.net_model.specs.Ends.{AllArrived}
use Rattle.net_model.specs.Event.{and_then}
use Rattle.net_model.specs.Network.{Leaf, Network, is_input}
use Rattle.net_model.specs.State.{Flow, State}
use Rattle.net_model.specs.Counted.{IsCounted, rest_at}
use Rattle.net_model.specs.Laws.{AreLawful}
use Rattle.net_model.specs.PacingLaws.{CanBegin}
use Rattle.net_model.specs.Trace.{goes, head_text, instance_lines, opened_by, played}
use Rattle.net_model.specs.Wired.{IsWired}
use Rattle.net_model.proofs.Keeping.{Since}
use Rattle.net_state.specs.Filling.{IsFed}
use Rattle.round_runner.specs.Running.{ComesBy, HasRest, count_inputs, feed_of}
use Rattle.trace_replay.specs.Between.{Between, CountsBy, CountsEnd, EndsBy, FailsBy, GoesBy, IsAt, Steps}
use Rattle.trace_replay.specs.Counting.{IsCountedTo}
use Rattle.trace_replay.specs.Events.{BeginsAt, IsTextOf}
use Rattle.trace_replay.specs.Feeding.{PullsInputs}
use Rattle.trace_replay.specs.Laws.{StartFits}
use Rattle.trace_replay.specs.Head.{StandsAt}
use Rattle.trace_replay.specs.Judging.{AtEnd, AtEvents, AtFirst, AtInstance, IsNotRun, Lead, LeadsOn, MayCome, Reached, Trial, after_line, due, first_line, instance_text, is_end, is_of_table}
use Rattle.trace_replay.specs.Reading.{NamesRead, NamesTrace, HasReached, IsRead, OnReadFault}
use Rattle.trace_text.specs.Text.{line_feed, line_text}
use Rattle.trace_replay.specs.Scanning.{Scans}
use Rattle.trace_replay.specs.declared.bytes.TheConstants.{TRACE_FEED}
use Rattle.trace_replay.specs.declared.reading.Trace.{Trace}
use Rattle.trace_replay.specs.declared.why.Why.{Why}
use Rattle.trace_replay.specs.declared.why.ReplayFault.{ReplayFault}
use Rattle.trace_replay.specs.declared.why.ReplayFault.TheVariants.{NotRun, ReadFault, Memory}
use Rattle.trace_replay.proofs.Counted.{ordered, played_on}
use Rattle.trace_replay.proofs.Looped.{no_trace, start_since, steps_come, steps_since}
use Rattle.trace_replay.proofs.Reached.{concat_more, not_run_line, reached_more}
use Rattle.trace_replay.proofs.Traces.{written_text}

-- The lines so far have led to the state s, and the numbers count them; `opened` is the state after the last delivery.
pub record LedTo {X : Type 0} (t : Trial X) (text : List ℕ) (inputs : List (List ℕ)) (trace : Trace) (now : Between X) : Type 0 where
  pub opened : State X
  pub s : State X
  pub at : IsAt t.net inputs now opened s
  pub since : Since t.net opened s
  pub begin : CanBegin t.net t.start
  pub reached : StandsAt t text trace now.feeds (AtEvents opened s)
  pub lines : List Line
  pub text_of : IsTextOf t (concat reached.texts) lines s
  pub counted : IsCountedTo t.net inputs t.start lines s now.numbers

-- the same from where the events began, for each trial and text
abbrev pub LedFrom : {X : Type 0} → Trace → Between X → ℕ → Trace → Between X → Type 0
LedFrom {X} trace_old old grow trace now = (t : Trial X) (text : List ℕ) (inputs : List (List ℕ)) → BeginsAt t text inputs trace_old old grow → LedTo t text inputs trace now

-- Lines one after another: their text.

written_more : (lines : List Line) (line : Line) → AreWritten lines → IsWritten line → AreWritten (lines ++ line ∷ [])
written_more [] line all one = (one, tt)
written_more (first ∷ lines) line all one = (all.0, written_more lines line all.1 one)

flat_more : (lines : List Line) (line : Line) → flat_map line_text (lines ++ line ∷ []) ≡ flat_map line_text lines ++ line_text line
flat_more [] line = append-nil (line_text line)
flat_more (first ∷ lines) line = ap (λ a. line_text first ++ a) (flat_more lines line) ∙ sym (append_assoc (line_text first) (flat_map line_text lines) (line_text line))

-- a line more
text_more : {X : Type 0} (t : Trial X) (before text : List ℕ) (lines : List Line) (s next : State X) (line : Line) → IsTextOf t before lines s → IsWritten line × (text ≡ line_text line)
    → goes t.net s line ≡ Some next → IsTextOf t (before ++ text) (lines ++ line ∷ []) next
text_more t before text lines s next line of whole leads_on = record {
  written = written_more lines line of.written whole.0;
  text_is = ap (λ a. a ++ text) of.text_is ∙ append_assoc (head_text t.net t.grow) (flat_map line_text lines) text
      ∙ ap (λ a. head_text t.net t.grow ++ (flat_map line_text lines ++ a)) whole.1 ∙ ap (λ a. head_text t.net t.grow ++ a) (sym (flat_more lines line));
  leads = played_on t.net t.start s next lines (line ∷ []) of.leads (ap (λ o. and_then o (λ w. played t.net w [])) leads_on);
}

-- the text of a head
instances_text : {X : Type 0} (t : Trial X) (k : ℕ) (leaf : Leaf X) (leaves : List (Leaf X)) (texts : List (List ℕ)) (reached : Reached X)
    → Lead t (AtInstance k leaf leaves) texts reached → length texts ≡ suc (length leaves) → concat texts ≡ instance_lines k (leaf ∷ leaves)
instances_text t k leaf leaves [] reached lead count = cc
instances_text t k leaf [] (text ∷ []) reached lead count = ap (λ a. a ++ []) lead.3.0.1
instances_text t k leaf [] (text ∷ other ∷ texts) reached lead count = cc
instances_text t k leaf (next ∷ leaves) (text ∷ texts) reached lead count =
    let on : lead.1 ≡ AtInstance (k + 1) next leaves = lead.3.1 in
    ap (λ a. a ++ concat texts) lead.3.0.1
    ∙ ap (λ a. instance_text k leaf ++ a) (instances_text t (k + 1) next leaves texts reached (subst (λ r. Lead t r texts reached) on lead.4) (omega (arith, count)))

head_is : {X : Type 0} (t : Trial X) (texts : List (List ℕ)) (reached : Reached X) → Lead t AtFirst texts reached → length texts ≡ suc (length t.net.leaves) → concat texts ≡ head_text t.net t.grow
head_is {X} t [] reached lead count = cc
head_is {X} t (text ∷ texts) reached lead count =
    let whole : IsWritten (first_line t) × (text ≡ line_text (first_line t)) = subst (λ l. Spells l text) lead.3.0 lead.2 in
    ap (λ a. a ++ concat texts) whole.1 ∙ ap (λ a. line_text (first_line t) ++ a) (by_leaves t.net.leaves texts lead.3.1 lead.4 (omega (arith, count)))
  where
    by_leaves : (leaves : List (Leaf X)) (texts : List (List ℕ)) → lead.1 ≡ due 0 leaves t.start → Lead t lead.1 texts reached → length texts ≡ length leaves → concat texts ≡ instance_lines 0 leaves
    by_leaves [] [] on rest count = refl
    by_leaves [] (other ∷ texts) on rest count = cc
    by_leaves (leaf ∷ leaves) texts on rest count = instances_text t 0 leaf leaves texts reached (subst (λ r. Lead t r texts reached) on rest) count

-- a run may begin where its events do
may_begin : {X : Type 0} (t : Trial X) (inputs : List (List ℕ)) (now : Between X) → IsAt t.net inputs now t.start t.start → StartFits t → CanBegin t.net t.start
may_begin {X} t inputs now at fits = record {
  has_flows = at.stands.stands.now.stands.flows.count;
  ordered = ordered t.net now.held t.start at.stands.stands.now;
  arrived = all_arrived t.net.links t.start.flows
      (λ l link flow at_link here inner. (at.stands.stands.since.each l link flow flow at_link inner here here).all_arrived);
  fits = fits;
}
  where
    all_arrived : (links : List Link) (flows : List Flow)
        → ((l : ℕ) (link : Link) (flow : Flow) → slice_get links l ≡ Some link → slice_get flows l ≡ Some flow → is_input link ≡ false → flow.arrived ≡ length flow.sent) → AllArrived links flows
    all_arrived [] flows each = tt
    all_arrived (link ∷ links) [] each = tt
    all_arrived (link ∷ links) (flow ∷ flows) each = (each 0 link flow refl refl, all_arrived links flows (λ l. each (suc l)))

pub led_none : {X : Type 0} (trace : Trace) (now : Between X) (grow : ℕ) → LedFrom trace now grow trace now
led_none trace now grow t text inputs begins = record {
  opened = t.start;
  s = t.start;
  at = begins.at;
  since = start_since t inputs now begins.at begins.fits;
  begin = may_begin t inputs now begins.at begins.fits;
  reached = begins.reached;
  lines = [];
  text_of = record {
    written = tt;
    text_is = head_is t begins.reached.texts (AtEvents t.start t.start) begins.reached.lead (sym begins.reached.number ∙ begins.number)
        ∙ sym (append-nil (head_text t.net t.grow));
    leads = refl;
  };
  counted = begins.counted;
}

-- A pull from the trace's feed leaves what is to come on the others.

comes_pulled : {X : Type 0} (s : State X) (l feed rest : ℕ) (link : Link) (o : Option (Option Reading)) (a b : Inputs) → b.left feed ≡ a.left feed → ComesBy s l link feed rest o a → ComesBy s l link feed rest o b
comes_pulled s l feed rest link None a b same comes = comes
comes_pulled s l feed rest link (Some None) a b same comes = comes
comes_pulled s l feed rest link (Some (Some reading)) a b same comes =
    subst (λ left. IsFed s l (Some link) (record { kind = reading.kind; bytes = coming reading.pulled left }) × HasRest reading.kind rest (coming reading.pulled left)) (sym same) comes

pub at_pulled : {X : Type 0} (net : Network X) (inputs : List (List ℕ)) (now : Between X) (feeds : Inputs) (opened s : State X) → PullsOnlyAt TRACE_FEED now.feeds feeds
    → IsAt net inputs now opened s → IsAt net inputs (record { held = now.held; taken = now.taken; readings = now.readings; numbers = now.numbers; feeds = feeds }) opened s
at_pulled net inputs now feeds opened s pulls at = record {
  stands = record {
    stands = at.stands.stands;
    fed = record {
      later = at.stands.fed.later;
      behind = at.stands.fed.behind;
      fed = λ l link at_link input. comes_pulled at.stands.fed.later l (feed_of net.links l) (rest_at net.ins inputs link.from) link (slice_get now.readings l) now.feeds feeds
          (pulls.same_left (feed_of net.links l) (λ same. no_trace (count_inputs (take l net.links)) (sym same)))
          (at.stands.fed.fed l link at_link input);
    };
  };
  fits = at.fits;
}

-- Another line was read.

goes_on : {X : Type 0} (line : Line) (opened next : State X) → is_end line ≡ false → after_line line opened next ≡ AtEvents (opened_by line opened next) next
goes_on {X} line opened next on = ap (λ b. if b then AtEnd line next else AtEvents (opened_by line opened next) next) on

ends_there : {X : Type 0} (line : Line) (opened next : State X) → is_end line ≡ true → after_line line opened next ≡ AtEnd line next
ends_there {X} line opened next over = ap (λ b. if b then AtEnd line next else AtEvents (opened_by line opened next) next) over

-- it leads to what is reached then, and its text is the last
pub record IsReachedBy {X : Type 0} (t : Trial X) (text : List ℕ) (n passed : ℕ) (line : Line) (reached : Reached X) (coming : Option (List ℕ)) (old : List (List ℕ)) : Type 0 where
  pub has : HasReached t text n passed reached coming
  pub before : List (List ℕ)
  pub last : List ℕ
  pub texts_are : has.texts ≡ before ++ last ∷ []
  pub spells : Spells line last
  pub before_is : before ≡ old

reached_by : {X : Type 0} (t : Trial X) (text expected : List ℕ) (n n_new passed passed_new : ℕ) (reached next is : Reached X) (before after later : Option (List ℕ)) (line : Line) (same : Bool)
    → (has : HasReached t text n passed reached before) → (s : Scans expected passed passed_new before after (Rattle.trace_replay.specs.declared.scan.Scanned.TheVariants.Line line same))
    → LeadsOn t reached s.text line next → next ≡ is → n_new ≡ n + 1 → later ≡ after
    → IsReachedBy t text n_new passed_new line is later has.texts
unfolding reached_more
reached_by t text expected n n_new passed passed_new reached next is before after later line same has s on next_is more told =
    let then_ : HasReached t text (n + 1) passed_new next after = reached_more t text expected n passed passed_new reached next before after line same has s on in
    record {
      has = record {
        texts = has.texts ++ s.text ∷ [];
        rest = then_.rest;
        lead = subst (Lead t AtFirst (has.texts ++ s.text ∷ [])) next_is then_.lead;
        number = more ∙ then_.number;
        count = then_.count;
        told = told ∙ then_.told;
        is_text = then_.is_text;
      };
      before = has.texts;
      last = s.text;
      texts_are = refl;
      spells = s.is_scanned.0;
      before_is = refl;
    }

-- what is still to come of the trace stays if other feeds are pulled
told_still : (trace : Trace) (a b : Inputs) → PullsInputs a b → coming_on trace.lines.bytes b TRACE_FEED ≡ coming_on trace.lines.bytes a TRACE_FEED
told_still trace a b pulls = ap (coming trace.lines.bytes) pulls.same_trace

-- a line was read behind where the lines so far have led, and its first judgement is due
pub record IsNext {X : Type 0} (old new : Trace) (now : Between X) (feeds : Inputs) (grow : ℕ) (line : Line) (same : Bool) : Type 0 where
  pub expected : List ℕ
  pub trace_grow : old.grow ≡ grow
  pub pulls : PullsOnlyAt TRACE_FEED now.feeds feeds
  pub read : IsRead expected old.grow old.lines.passed new.lines.passed (coming_on old.lines.bytes now.feeds TRACE_FEED) (coming_on new.lines.bytes feeds TRACE_FEED) line same
  pub count : new.count ≡ old.count + 1

abbrev Later : {X : Type 0} → Between X → Inputs → Between X
Later now feeds = record { held = now.held; taken = now.taken; readings = now.readings; numbers = now.numbers; feeds = feeds }

text_by : {X : Type 0} (t : Trial X) (texts old before : List (List ℕ)) (last : List ℕ) (lines : List Line) (s next : State X) (line : Line) → texts ≡ before ++ last ∷ [] → before ≡ old
    → IsTextOf t (concat old) lines s → IsWritten line × (last ≡ line_text line) → goes t.net s line ≡ Some next
    → IsTextOf t (concat texts) (lines ++ line ∷ []) next
text_by t texts old before last lines s next line texts_are before_is of whole leads_on =
    subst (λ a. IsTextOf t a (lines ++ line ∷ []) next)
    (sym (ap concat texts_are ∙ ap (λ b. concat (b ++ last ∷ [])) before_is ∙ concat_more old last))
    (text_more t (concat old) last lines s next line of whole leads_on)

pub led_more : {X : Type 0} (t : Trial X) (text : List ℕ) (inputs : List (List ℕ)) (old new : Trace) (now next : Between X) (feeds : Inputs) (grow : ℕ) (line : Line) (same : Bool)
    → t.grow ≡ grow → IsWired t.net → AreLawful t.net → LedTo t text inputs old now → IsNext old new now feeds grow line same
    → GoesBy grow line (Later now feeds) next → CountsBy grow line (Later now feeds) next.numbers → is_end line ≡ false → PullsInputs feeds next.feeds
    → LedTo t text inputs new next
led_more {X} t text inputs old new now next feeds grow line same grow_is wired lawful led read goes counts on pulls =
    let at : IsAt t.net inputs (Later now feeds) led.opened led.s = at_pulled t.net inputs now feeds led.opened led.s read.pulls led.at in
    let to : (u : State X) × Steps t led.opened led.s line u × IsAt t.net inputs next (opened_by line led.opened u) u = goes t inputs led.opened led.s grow_is wired lawful at in
    let comes : MayCome t led.opened led.s line to.0 = steps_come t inputs (Later now feeds) led.opened led.s to.0 line wired lawful at led.since to.1 in
    let by : IsReachedBy t text new.count new.lines.passed line (AtEvents (opened_by line led.opened to.0) to.0) (coming_on new.lines.bytes next.feeds TRACE_FEED) led.reached.texts =
    reached_by t text read.expected old.count new.count old.lines.passed new.lines.passed (AtEvents led.opened led.s) (after_line line led.opened to.0)
    (AtEvents (opened_by line led.opened to.0) to.0) (coming_on old.lines.bytes now.feeds TRACE_FEED) (coming_on new.lines.bytes feeds TRACE_FEED) (coming_on new.lines.bytes next.feeds TRACE_FEED) line same
    led.reached read.read.scans (to.0, comes, refl) (goes_on line led.opened to.0 on) read.count (told_still new feeds next.feeds pulls) in
    record {
      opened = opened_by line led.opened to.0;
      s = to.0;
      at = to.2;
      since = steps_since t inputs (Later now feeds) led.opened led.s to.0 line wired lawful at led.since to.1 on;
      begin = led.begin;
      reached = by.has;
      lines = led.lines ++ line ∷ [];
      text_of = text_by t by.has.texts led.reached.texts by.before by.last led.lines led.s to.0 line by.texts_are by.before_is led.text_of
          (written_text t.net t.grow led.s line [] by.last comes.true_there by.spells) comes.goes_so;
      counted = counts t inputs led.opened led.s grow_is wired lawful at to.0 comes.goes_so t.start led.lines led.begin led.text_of.leads led.counted;
    }

-- the line ends the run, and the numbers count all lines
pub record EndsAt {X : Type 0} (t : Trial X) (text : List ℕ) (inputs : List (List ℕ)) (new : Trace) (later : Inputs) (line : Line) (numbers : Counts) : Type 0 where
  pub last : State X
  pub has : StandsAt t text new later (AtEnd line last)
  pub lines : List Line
  pub text_of : IsTextOf t (concat has.texts) lines last
  pub counted : IsCounted t.net inputs t.start lines last numbers

pub led_end : {X : Type 0} (t : Trial X) (text : List ℕ) (inputs : List (List ℕ)) (old new : Trace) (now : Between X) (feeds later : Inputs) (grow : ℕ) (line : Line) (same : Bool) (numbers : Counts)
    → t.grow ≡ grow → IsWired t.net → AreLawful t.net → LedTo t text inputs old now → IsNext old new now feeds grow line same
    → EndsBy grow line (Later now feeds) → CountsEnd grow line (Later now feeds) numbers → is_end line ≡ true → PullsInputs feeds later
    → EndsAt t text inputs new later line numbers
led_end {X} t text inputs old new now feeds later grow line same numbers grow_is wired lawful led read ends counts over pulls =
    let at : IsAt t.net inputs (Later now feeds) led.opened led.s = at_pulled t.net inputs now feeds led.opened led.s read.pulls led.at in
    let to : (u : State X) × Steps t led.opened led.s line u = ends t inputs led.opened led.s grow_is wired lawful at in
    let comes : MayCome t led.opened led.s line to.0 = steps_come t inputs (Later now feeds) led.opened led.s to.0 line wired lawful at led.since to.1 in
    let by : IsReachedBy t text new.count new.lines.passed line (AtEnd line to.0) (coming_on new.lines.bytes later TRACE_FEED) led.reached.texts =
    reached_by t text read.expected old.count new.count old.lines.passed new.lines.passed (AtEvents led.opened led.s) (after_line line led.opened to.0)
    (AtEnd line to.0) (coming_on old.lines.bytes now.feeds TRACE_FEED) (coming_on new.lines.bytes feeds TRACE_FEED) (coming_on new.lines.bytes later TRACE_FEED) line same
    led.reached read.read.scans (to.0, comes, refl) (ends_there line led.opened to.0 over) read.count (told_still new feeds later pulls) in
    record {
      last = to.0;
      has = by.has;
      lines = led.lines ++ line ∷ [];
      text_of = text_by t by.has.texts led.reached.texts by.before by.last led.lines led.s to.0 line by.texts_are by.before_is led.text_of
          (written_text t.net t.grow led.s line [] by.last comes.true_there by.spells) comes.goes_so;
      counted = counts t inputs led.opened led.s grow_is wired lawful at to.0 comes.goes_so t.start led.lines led.begin led.text_of.leads led.counted;
    }

-- The line may not come.

of_table_here : (t_grow grow old_grow : ℕ) (line : Line) → t_grow ≡ grow → old_grow ≡ grow → is_of_table old_grow line ≡ true → is_of_table t_grow line ≡ true
of_table_here t_grow grow old_grow line one two of = subst (λ g. is_of_table g line ≡ true) (two ∙ sym one) of

pub led_fails : {X : Type 0} (t : Trial X) (text : List ℕ) (inputs : List (List ℕ)) (old new : Trace) (now : Between X) (feeds : Inputs) (grow : ℕ) (line : Line) (same : Bool) (why : Why)
    → t.grow ≡ grow → IsWired t.net → AreLawful t.net → LedTo t text inputs old now → IsNext old new now feeds grow line same
    → FailsBy grow line (Later now feeds) why → IsNotRun t text new.count why
led_fails t text inputs old new now feeds grow line same why grow_is wired lawful led read fails =
    let at : IsAt t.net inputs (Later now feeds) led.opened led.s = at_pulled t.net inputs now feeds led.opened led.s read.pulls led.at in
    subst (λ k. IsNotRun t text k why) (sym read.count)
    (not_run_line t text read.expected old.count old.lines.passed new.lines.passed (AtEvents led.opened led.s) (coming_on old.lines.bytes now.feeds TRACE_FEED) (coming_on new.lines.bytes feeds TRACE_FEED)
    line same why led.reached read.read.scans read.read.within (of_table_here t.grow grow old.grow line grow_is read.trace_grow read.read.of_table)
    (fails t inputs led.opened led.s grow_is wired lawful at))

pub is_next : {X : Type 0} (old new : Trace) (now : Between X) (feeds : Inputs) (grow : ℕ) (line : Line) (same : Bool) → old.grow ≡ grow
    → PullsOnlyAt TRACE_FEED now.feeds feeds
    → IsRead line_feed old.grow old.lines.passed new.lines.passed (coming_on old.lines.bytes now.feeds TRACE_FEED) (coming_on new.lines.bytes feeds TRACE_FEED) line same
    → new.count ≡ old.count + 1 → IsNext old new now feeds grow line same
is_next old new now feeds grow line same grow_is pulls read count = record {
  expected = line_feed;
  trace_grow = grow_is;
  pulls = pulls;
  read = read;
  count = count;
}

-- a fault that is passed on
pub fault_over : (T U : Type 0) (fault : ReplayFault) (P Q : Type 0) → (P → Q) → OnReadFault {T = T} (Err fault) P → OnReadFault {T = U} (Err fault) Q
fault_over T U (NotRun line why) P Q f h = tt
fault_over T U (ReadFault feed) P Q f h = f h
fault_over T U Memory P Q f h = tt

-- who names the trace names a feed that is read
pub names_too : (links : List Link) (read : List Bool) (fault : ReplayFault) → NamesTrace fault → NamesRead links read fault
names_too links read (NotRun line why) named = tt
names_too links read (ReadFault feed) named = inl named
names_too links read Memory named = tt
