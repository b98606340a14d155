-- A trace that is read on by a line, and a line with which it isn't the trace of a run.
use Rattle.std.proofs.Common.{◌≡◌, ℕ, zero, suc, ◌+◌, ◌-◌, ◌<◌, ◌≤◌, Bool, true, false, List, [], ◌∷◌, ◌++◌, length, take, refl, sym, ap, subst, ◌∙◌, ⊎_elim, arith, append_assoc, append-nil, length-append}
use Rattle.std.specs.Prelude.{Option, None, Some}
use Rattle.std.specs.List.{concat}
use Rattle.std.proofs.lemmas.Bool.{cases_lt}
use Rattle.std.proofs.Math.Seq.{take-append-add, take-append_seam}
use Rattle.trace_text.specs.declared.line.Line.{Line}
use Rattle.trace_text.specs.Spelling.{Spells}
use Rattle.port_files.specs.Coming.{NothingLeft}
use Rattle.trace_replay.specs.Coming.{Passes}
use Rattle.trace_replay.specs.Judging.{Trial, Reached, AtFirst, LeadsOn, Lead, LineFails, IsOver, RestFails, BeginsNone, IsOfNoTable, MayNotCome, IsCutOff, GoesPast, IsNotRun, is_of_table, max_trace_bytes}
use Rattle.trace_replay.specs.Reading.{HasReached}
use Rattle.trace_replay.specs.Scanning.{Scans}
use Rattle.trace_replay.specs.declared.why.Why.{Why}
use Rattle.trace_replay.specs.declared.why.Why.TheVariants.{Form, Cut as CutOff, TooLong as Past}
use Rattle.trace_replay.specs.declared.scan.Scanned.TheVariants.{Line as Whole, Bad, Cut, TooLong}

-- Lines one after another.

pub lead_more : {X : Type 0} (t : Trial X) (texts : List (List ℕ)) (from reached next : Reached X) (text : List ℕ) (line : Line)
    → Lead t from texts reached → Spells line text → LeadsOn t reached text line next → Lead t from (texts ++ text ∷ []) next
lead_more t [] from reached next text line lead spells on =
    (line, next, spells, subst (λ r. LeadsOn t r text line next) (sym lead) on, refl)
lead_more t (one ∷ texts) from reached next text line (first, after, first_spells, first_on, rest) spells on =
    (first, after, first_spells, first_on, lead_more t texts after reached next text line rest spells on)

pub concat_more : (texts : List (List ℕ)) (text : List ℕ) → concat (texts ++ text ∷ []) ≡ concat texts ++ text
concat_more [] text = append-nil text
concat_more (one ∷ texts) text = ap (λ a. one ++ a) (concat_more texts text) ∙ sym (append_assoc one (concat texts) text)

-- what was read is the front of what was to come
pub told_after : (read : List ℕ) (before after : Option (List ℕ)) (rest : List ℕ) → before ≡ Some rest → Passes read before after
    → (others : List ℕ) × (after ≡ Some others) × (rest ≡ read ++ others)
told_after read None after rest told passes = cc
told_after read (Some all) None rest told passes = absurd passes
told_after read (Some all) (Some others) rest told passes =
    let same : all ≡ rest = cc in
    (others, refl, sym same ∙ passes)

pub reached_start : {X : Type 0} (t : Trial X) (text : List ℕ) → HasReached t text 0 0 AtFirst (Some text)
reached_start t text = record {
  texts = [];
  rest = text;
  lead = refl;
  number = refl;
  count = refl;
  told = refl;
  is_text = refl;
}

unfoldable pub reached_more : {X : Type 0} (t : Trial X) (text expected : List ℕ) (n passed passed_new : ℕ) (reached next : Reached X) (before after : Option (List ℕ)) (line : Line) (same : Bool)
    → HasReached t text n passed reached before → (s : Scans expected passed passed_new before after (Whole line same))
    → LeadsOn t reached s.text line next
    → HasReached t text (n + 1) passed_new next after
reached_more t text expected n passed passed_new reached next before after line same has s on =
    let others : (others : List ℕ) × (after ≡ Some others) × (has.rest ≡ s.text ++ others) = told_after s.text before after has.rest has.told s.passes in
    record {
      texts = has.texts ++ s.text ∷ [];
      rest = others.0;
      lead = lead_more t has.texts AtFirst reached next s.text line has.lead s.is_scanned.0 on;
      number = omega (arith, has.number, length-append has.texts (s.text ∷ []));
      count = let whole : length (concat (has.texts ++ s.text ∷ [])) ≡ length (concat has.texts) + length s.text =
          ap length (concat_more has.texts s.text) ∙ length-append (concat has.texts) s.text in
          omega (arith, has.count, s.count, whole);
      told = others.1;
      is_text = has.is_text ∙ ap (λ a. concat has.texts ++ a) others.2 ∙ sym (append_assoc (concat has.texts) s.text others.0)
          ∙ ap (λ a. a ++ others.0) (sym (concat_more has.texts s.text));
    }

-- Lines with which it isn't.

-- the first of two parts is within the length
pub take_within : (max : ℕ) (front rest : List ℕ) → length front ≤ max → take max (front ++ rest) ≡ front ++ take (max - length front) rest
take_within max front rest within =
    let parts : max ≡ length front + (max - length front) = omega (arith, within) in
    ap (λ n. take n (front ++ rest)) parts ∙ take-append-add front rest (max - length front)

-- a text is longer than this or not
pub record IsLonger (max n : ℕ) : Type 0 where
  pub longer : Bool
  pub longer_so : longer ≡ true → max < n
  pub not_so : longer ≡ false → n ≤ max

pub is_longer : (max n : ℕ) → IsLonger max n
is_longer max n = ⊎_elim (λ low. record { longer = true; longer_so = λ e. low; not_so = λ e. cc })
    (λ high. record { longer = false; longer_so = λ e. cc; not_so = λ e. omega (arith, high) }) (cases_lt max n)

-- what stands behind the lines that lead on fails: it is the text that was read and what follows, within the length
not_run : {X : Type 0} (t : Trial X) (text read : List ℕ) (n passed : ℕ) (reached : Reached X) (before after : Option (List ℕ)) (why : Why)
    → HasReached t text n passed reached before → Passes read before after → passed + length read ≤ max_trace_bytes
    → ((more : List ℕ) (longer : Bool) → RestFails t reached (read ++ more) longer why)
    → IsNotRun t text (n + 1) why
not_run t text read n passed reached before after why has passes within fails =
    let others : (others : List ℕ) × (after ≡ Some others) × (has.rest ≡ read ++ others) = told_after read before after has.rest has.told passes in
    let front : List ℕ = concat has.texts ++ read in
    let count : length (concat has.texts ++ read) ≡ passed + length read = length-append (concat has.texts) read ∙ ap (λ k. k + length read) (sym has.count) in
    let low : length (concat has.texts ++ read) ≤ max_trace_bytes = omega (arith, count, within) in
    let is : text ≡ (concat has.texts ++ read) ++ others.0 = has.is_text ∙ ap (λ a. concat has.texts ++ a) others.2 ∙ sym (append_assoc (concat has.texts) read others.0) in
    let more : List ℕ = take (max_trace_bytes - length (concat has.texts ++ read)) others.0 in
    record {
      texts = has.texts;
      rest = read ++ take (max_trace_bytes - length (concat has.texts ++ read)) others.0;
      reached = reached;
      is_text = ap (take max_trace_bytes) is ∙ take_within max_trace_bytes (concat has.texts ++ read) others.0 low
          ∙ append_assoc (concat has.texts) read (take (max_trace_bytes - length (concat has.texts ++ read)) others.0);
      lead = has.lead;
      number = ap (λ k. k + 1) has.number;
      longer = (is_longer max_trace_bytes (length text)).longer;
      is_longer = (is_longer max_trace_bytes (length text)).longer_so;
      is_whole = (is_longer max_trace_bytes (length text)).not_so;
      fails = fails (take (max_trace_bytes - length (concat has.texts ++ read)) others.0) (is_longer max_trace_bytes (length text)).longer;
    }

-- a line that may not come
pub not_run_line : {X : Type 0} (t : Trial X) (text expected : List ℕ) (n passed passed_new : ℕ) (reached : Reached X) (before after : Option (List ℕ)) (line : Line) (same : Bool) (why : Why)
    → HasReached t text n passed reached before → (s : Scans expected passed passed_new before after (Whole line same)) → passed_new ≤ max_trace_bytes
    → is_of_table t.grow line ≡ true → LineFails t reached s.text line why
    → IsNotRun t text (n + 1) why
not_run_line t text expected n passed passed_new reached before after line same why has s within of_table fails =
    not_run t text s.text n passed reached before after why has s.passes (omega (arith, s.count, within))
    (λ more longer. MayNotCome line why s.text more refl s.is_scanned.0 of_table fails)

-- a line that a trace of this version hasn't
pub not_run_version : {X : Type 0} (t : Trial X) (text expected : List ℕ) (n passed passed_new : ℕ) (reached : Reached X) (before after : Option (List ℕ)) (line : Line) (same : Bool)
    → HasReached t text n passed reached before → Scans expected passed passed_new before after (Whole line same) → passed_new ≤ max_trace_bytes
    → (IsOver reached → ⊥) → is_of_table t.grow line ≡ false
    → IsNotRun t text (n + 1) Form
not_run_version t text expected n passed passed_new reached before after line same has s within not_over of_none =
    not_run t text s.text n passed reached before after Form has s.passes (omega (arith, s.count, within))
    (λ more longer. IsOfNoTable not_over line s.text more refl s.is_scanned.0 of_none)

-- bytes that begin no line
pub not_run_bad : {X : Type 0} (t : Trial X) (text expected : List ℕ) (n passed passed_new : ℕ) (reached : Reached X) (before after : Option (List ℕ))
    → HasReached t text n passed reached before → Scans expected passed passed_new before after Bad → passed_new ≤ max_trace_bytes
    → (IsOver reached → ⊥)
    → IsNotRun t text (n + 1) Form
not_run_bad t text expected n passed passed_new reached before after has s within not_over =
    not_run t text s.text n passed reached before after Form has s.passes (omega (arith, s.count, within))
    (λ more longer. BeginsNone not_over s.is_scanned.0 s.is_scanned.1 more
    (ap (λ a. a ++ more) s.is_scanned.2 ∙ append_assoc s.is_scanned.0 (s.is_scanned.1 ∷ []) more) s.is_scanned.3 s.is_scanned.4)

-- the text ends
nothing_is : (after : Option (List ℕ)) (others : List ℕ) → after ≡ Some others → NothingLeft after → others ≡ []
nothing_is None others told nothing = cc
nothing_is (Some all) others told nothing = let same : all ≡ others = cc in sym same ∙ nothing

pub not_run_cut : {X : Type 0} (t : Trial X) (text expected : List ℕ) (n passed passed_new : ℕ) (reached : Reached X) (before after : Option (List ℕ))
    → HasReached t text n passed reached before → Scans expected passed passed_new before after Cut → passed_new ≤ max_trace_bytes
    → (IsOver reached → ⊥)
    → IsNotRun t text (n + 1) CutOff
not_run_cut t text expected n passed passed_new reached before after has s within not_over =
    let others : (others : List ℕ) × (after ≡ Some others) × (has.rest ≡ s.text ++ others) = told_after s.text before after has.rest has.told s.passes in
    let none : others.0 ≡ [] = nothing_is after others.0 others.1 s.is_scanned.1 in
    let is : text ≡ concat has.texts ++ s.text = has.is_text ∙ ap (λ a. concat has.texts ++ a) (others.2 ∙ ap (λ a. s.text ++ a) none ∙ append-nil s.text) in
    let count : length text ≡ passed_new = ap length is ∙ length-append (concat has.texts) s.text ∙ ap (λ k. k + length s.text) (sym has.count) ∙ sym s.count in
    let low : length (concat has.texts ++ s.text) ≤ max_trace_bytes = omega (arith, ap length is, count, within) in
    record {
      texts = has.texts;
      rest = s.text;
      reached = reached;
      is_text = ap (take max_trace_bytes) (is ∙ sym (append-nil (concat has.texts ++ s.text))) ∙ take_within max_trace_bytes (concat has.texts ++ s.text) [] low
          ∙ ap (λ a. (concat has.texts ++ s.text) ++ a) (take_nothing (max_trace_bytes - length (concat has.texts ++ s.text))) ∙ append-nil (concat has.texts ++ s.text);
      lead = has.lead;
      number = ap (λ k. k + 1) has.number;
      longer = false;
      is_longer = λ e. cc;
      is_whole = λ e. omega (arith, count, within);
      fails = IsCutOff not_over s.is_scanned.0 refl;
    }
  where
    take_nothing : (n : ℕ) → take {A = ℕ} n [] ≡ []
    take_nothing zero = refl
    take_nothing (suc n) = refl

-- the text goes on past the greatest length
pub not_run_long : {X : Type 0} (t : Trial X) (text expected : List ℕ) (n passed passed_new : ℕ) (reached : Reached X) (before after : Option (List ℕ))
    → HasReached t text n passed reached before → Scans expected passed passed_new before after TooLong
    → (IsOver reached → ⊥)
    → IsNotRun t text (n + 1) Past
not_run_long t text expected n passed passed_new reached before after has s not_over =
    let others : (others : List ℕ) × (after ≡ Some others) × (has.rest ≡ s.text ++ others) = told_after s.text before after has.rest has.told s.passes in
    let front : List ℕ = s.is_scanned.0 in
    let byte : ℕ = s.is_scanned.1 in
    let behind : List ℕ = byte ∷ others.0 in
    let is : text ≡ (concat has.texts ++ s.is_scanned.0) ++ (s.is_scanned.1 ∷ others.0) =
    has.is_text ∙ ap (λ a. concat has.texts ++ a) (others.2 ∙ ap (λ a. a ++ others.0) s.is_scanned.2 ∙ append_assoc s.is_scanned.0 (s.is_scanned.1 ∷ []) others.0)
    ∙ sym (append_assoc (concat has.texts) s.is_scanned.0 (s.is_scanned.1 ∷ others.0)) in
    let count : length (concat has.texts ++ s.is_scanned.0) ≡ max_trace_bytes =
    length-append (concat has.texts) s.is_scanned.0 ∙ ap (λ k. k + length s.is_scanned.0) (sym has.count) ∙ s.is_scanned.4 in
    let long : length text ≡ length (concat has.texts ++ s.is_scanned.0) + suc (length others.0) =
    ap length is ∙ length-append (concat has.texts ++ s.is_scanned.0) (s.is_scanned.1 ∷ others.0) in
    record {
      texts = has.texts;
      rest = s.is_scanned.0;
      reached = reached;
      is_text = ap (take max_trace_bytes) is ∙ ap (λ k. take k ((concat has.texts ++ s.is_scanned.0) ++ (s.is_scanned.1 ∷ others.0))) (sym count)
          ∙ take-append_seam (concat has.texts ++ s.is_scanned.0) (s.is_scanned.1 ∷ others.0);
      lead = has.lead;
      number = ap (λ k. k + 1) has.number;
      longer = true;
      is_longer = λ e. omega (arith, count, long);
      is_whole = λ e. cc;
      fails = GoesPast not_over s.is_scanned.3 refl;
    }
