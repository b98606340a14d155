-- Lemmas on reading a line: what was read, whether it was expected, and what is still to come.
use Rattle.std.proofs.Common.{◌≡◌, ℕ, ◌+◌, ◌-◌, ◌≤◌, Bool, true, false, List, [], ◌∷◌, ◌++◌, length, refl, sym, ap, subst, ◌∙◌, arith, append_assoc, append-nil, length-append}
use Rattle.std.specs.Prelude.{Option, None, Some, Result, Ok, Err, IfOk, slice_get, ◌&&◌}
use Rattle.rvc_io.specs.declared.Failed.{Failed}
use Rattle.trace_replay.specs.declared.scan.Scanned.{Scanned}
use Rattle.std.specs.List.{concat}
use Rattle.trace_text.specs.declared.line.Line.{Line}
use Rattle.trace_text.specs.declared.reader.LineReader.{LineReader}
use Rattle.trace_text.specs.declared.reader.Step2.{Step2}
use Rattle.trace_text.specs.declared.reader.Step2.TheVariants.{More, Line as TheLine, Bad}
use Rattle.trace_text.specs.Spelling.{Spells, Begins, IsFront}
use Rattle.trace_text.specs.HasTold.{HasTold, TellsOn}
use Rattle.trace_text.specs.ReadBack.{SpellEach, AreLines, BeginLines}
use Rattle.port_files.specs.Coming.{NothingLeft}
use Rattle.trace_replay.specs.Coming.{Passes, GivesByte}
use Rattle.trace_replay.specs.Judging.{max_trace_bytes}
use Rattle.trace_replay.specs.Scanning.{IsFrontOf, IsPast, IsWithin, Scans, Tells}
use Rattle.trace_replay.specs.declared.scan.Scanned.TheVariants.{Line as Whole, Bad as NoLine, Cut, TooLong}

-- What passes.

pub passes_none : (before : Option (List ℕ)) → Passes [] before before
passes_none None = refl
passes_none (Some all) = refl

pub passes_then : (text more : List ℕ) (before now after : Option (List ℕ)) → Passes text before now → Passes more now after → Passes (text ++ more) before after
passes_then text more None now after p q = subst (λ o. Passes more o after) p q
passes_then text more (Some all) None after p q = absurd p
passes_then text more (Some all) (Some rest) None p q = absurd q
passes_then text more (Some all) (Some rest) (Some others) p q = p ∙ ap (λ a. text ++ a) q ∙ sym (append_assoc text more others)

-- What was expected.

pub front_one_more : (expected text : List ℕ) (byte : ℕ) → IsFrontOf expected text → slice_get expected (length text) ≡ Some byte → IsFrontOf expected (text ++ byte ∷ [])
front_one_more expected text byte (rest, is) at = of_rest rest is (sym (get_behind text rest) ∙ ap (λ e. slice_get e (length text)) (sym is) ∙ at)
  where
    get_behind : (text rest : List ℕ) → slice_get (text ++ rest) (length text) ≡ slice_get rest 0
    get_behind [] rest = refl
    get_behind (b ∷ text) rest = get_behind text rest

    of_rest : (rest : List ℕ) → expected ≡ text ++ rest → slice_get rest 0 ≡ Some byte → IsFrontOf expected (text ++ byte ∷ [])
    of_rest [] is at = cc
    of_rest (b ∷ rest) is at =
        let same : b ≡ byte = cc in
        (rest, is ∙ ap (λ x. text ++ x ∷ rest) same ∙ sym (append_assoc text (byte ∷ []) rest))

pub front_one_less : (expected text : List ℕ) (byte : ℕ) → IsFrontOf expected (text ++ byte ∷ []) → IsFrontOf expected text × (slice_get expected (length text) ≡ Some byte)
front_one_less expected text byte (rest, is) =
    let longer : expected ≡ text ++ byte ∷ rest = is ∙ append_assoc text (byte ∷ []) rest in
    ((byte ∷ rest, longer), ap (λ e. slice_get e (length text)) longer ∙ get_here text byte rest)
  where
    get_here : (text : List ℕ) (byte : ℕ) (rest : List ℕ) → slice_get (text ++ byte ∷ rest) (length text) ≡ Some byte
    get_here [] byte rest = refl
    get_here (b ∷ text) byte rest = get_here text byte rest

-- what is told of a byte more
pub tells_more : (same this : Bool) (expected text : List ℕ) (byte : ℕ) → Tells same (IsFrontOf expected text)
    → (this ≡ true → slice_get expected (length text) ≡ Some byte) → (slice_get expected (length text) ≡ Some byte → this ≡ true)
    → Tells (same && this) (IsFrontOf expected (text ++ byte ∷ []))
tells_more true true expected text byte front is_so back = front_one_more expected text byte front (is_so refl)
tells_more true false expected text byte front is_so back = λ longer. let not_so : false ≡ true = back (front_one_less expected text byte longer).1 in cc
tells_more false this expected text byte front is_so back = λ longer. front (front_one_less expected text byte longer).0

-- a text that begins the expected one and is as long is that
pub tells_whole : (same full : Bool) (expected text : List ℕ) → Tells same (IsFrontOf expected text)
    → (full ≡ true → length expected ≤ length text) → (length expected ≤ length text → full ≡ true)
    → Tells (same && full) (text ≡ expected)
tells_whole true true expected text (rest, is) is_so back =
    let long : length expected ≤ length text = is_so refl in
    let count : length expected ≡ length text + length rest = ap length is ∙ length-append text rest in
    let none : rest ≡ [] = nothing rest (omega (arith, long, count)) in
    sym (is ∙ ap (λ a. text ++ a) none ∙ append-nil text)
  where
    nothing : (rest : List ℕ) → length rest ≡ 0 → rest ≡ []
    nothing [] e = refl
    nothing (b ∷ rest) e = cc
tells_whole true false expected text front is_so back = λ whole.
    let long : length expected ≤ length text = omega (arith, ap length whole) in
    let not_so : false ≡ true = back long in cc
tells_whole false full expected text front is_so back = λ whole. front ([], sym whole ∙ sym (append-nil text))

-- What was told.

pub told_front : (reader : LineReader) (text : List ℕ) → HasTold reader [] text → IsFront text
told_front reader text told = of_texts told.texts told.are_lines told.whole
  where
    of_texts : (texts : List (List ℕ)) → SpellEach [] texts → text ≡ concat texts ++ told.read → IsFront text
    of_texts [] each whole = subst IsFront (sym whole) told.is_front
    of_texts (one ∷ texts) each whole = absurd each

pub told_line : (line : Line) (text : List ℕ) → AreLines (line ∷ []) text → Spells line text
told_line line text ([], each, whole) = absurd each
told_line line text (one ∷ [], each, whole) = subst (Spells line) (sym (whole ∙ append-nil one)) each.0
told_line line text (one ∷ other ∷ texts, each, whole) = absurd each.1

pub told_bad : (text : List ℕ) → (BeginLines text → ⊥) → Begins text → ⊥
told_bad text bad (line, more, spells) = bad (line ∷ [], more, ((text ++ more) ∷ [], (spells, tt), sym (append-nil (text ++ more))))

-- A line that is read.

pub record IsScanning (expected : List ℕ) (reader : LineReader) (same : Bool) (begin passed : ℕ) (before now : Option (List ℕ)) : Type 0 where
  pub text : List ℕ
  pub passes : Passes text before now
  pub told : HasTold reader [] text
  pub count : passed ≡ begin + length text
  pub as_expected : Tells same (IsFrontOf expected text)

pub scanning_starts : (expected : List ℕ) (reader : LineReader) (begin : ℕ) (before : Option (List ℕ)) → HasTold reader [] [] → IsScanning expected reader true begin begin before before
scanning_starts expected reader begin before told = record {
  text = [];
  passes = passes_none before;
  told = told;
  count = omega arith;
  as_expected = (expected, refl);
}

-- what is told of a byte more, and of the whole text
abbrev pub TellsMore : List ℕ → Bool → Bool → ℕ → ℕ → Type 0
TellsMore expected same next at byte = (text : List ℕ) → length text ≡ at → Tells same (IsFrontOf expected text)
    → Tells next (IsFrontOf expected (text ++ byte ∷ []))

abbrev pub TellsWhole : List ℕ → Bool → Bool → ℕ → Type 0
TellsWhole expected same whole count = (text : List ℕ) → length text ≡ count → Tells same (IsFrontOf expected text)
    → Tells whole (text ≡ expected)

-- what the reader tells of the text with this byte
abbrev pub ReadsOn : LineReader → LineReader → ℕ → Step2 → Type 0
ReadsOn reader next byte step = (lines : List Line) (text : List ℕ) → HasTold reader lines text
    → TellsOn next lines (text ++ byte ∷ []) step

-- a byte more is read
pub scanning_more : (expected : List ℕ) (reader next : LineReader) (same still : Bool) (begin passed byte : ℕ) (before now after : Option (List ℕ))
    → IsScanning expected reader same begin passed before now → GivesByte (Some byte) now after
    → TellsMore expected same still (passed - begin) byte → ReadsOn reader next byte More
    → IsScanning expected next still begin (passed + 1) before after
scanning_more expected reader next same still begin passed byte before now after is gives more reads = record {
  text = is.text ++ byte ∷ [];
  passes = passes_then is.text (byte ∷ []) before now after is.passes gives;
  told = (reads [] is.text is.told).0;
  count = omega (arith, is.count, length-append is.text (byte ∷ []));
  as_expected = more is.text (omega (arith, is.count)) is.as_expected;
}

-- it ends a line
pub scanned_line : (expected : List ℕ) (reader next : LineReader) (same still whole : Bool) (begin passed byte : ℕ) (line : Line) (before now after : Option (List ℕ))
    → IsScanning expected reader same begin passed before now → GivesByte (Some byte) now after
    → TellsMore expected same still (passed - begin) byte → TellsWhole expected still whole (passed + 1 - begin) → ReadsOn reader next byte (TheLine line)
    → Scans expected begin (passed + 1) before after (Whole line whole)
scanned_line expected reader next same still whole begin passed byte line before now after is gives more all reads = record {
  text = is.text ++ byte ∷ [];
  passes = passes_then is.text (byte ∷ []) before now after is.passes gives;
  is_scanned = (
    told_line line (is.text ++ byte ∷ []) (reads [] is.text is.told).1,
    all (is.text ++ byte ∷ []) (omega (arith, is.count, length-append is.text (byte ∷ [])))
        (more is.text (omega (arith, is.count)) is.as_expected),
  );
  count = omega (arith, is.count, length-append is.text (byte ∷ []));
}

-- it makes bytes that begin no line
pub scanned_bad : (expected : List ℕ) (reader next : LineReader) (same : Bool) (begin passed byte : ℕ) (before now after : Option (List ℕ))
    → IsScanning expected reader same begin passed before now → GivesByte (Some byte) now after → ReadsOn reader next byte Bad
    → Scans expected begin (passed + 1) before after NoLine
scanned_bad expected reader next same begin passed byte before now after is gives reads = record {
  text = is.text ++ byte ∷ [];
  passes = passes_then is.text (byte ∷ []) before now after is.passes gives;
  is_scanned = (is.text, byte, refl, told_front reader is.text is.told, told_bad (is.text ++ byte ∷ []) (reads [] is.text is.told));
  count = omega (arith, is.count, length-append is.text (byte ∷ []));
}

nothing_after : (now after : Option (List ℕ)) → NothingLeft now → after ≡ now → NothingLeft after
nothing_after now after nothing same = subst NothingLeft (sym same) nothing

-- the trace ends
pub scanned_cut : (expected : List ℕ) (reader : LineReader) (same : Bool) (begin passed : ℕ) (before now after : Option (List ℕ))
    → IsScanning expected reader same begin passed before now → GivesByte None now after
    → Scans expected begin passed before after Cut
scanned_cut expected reader same begin passed before now after is gives = record {
  text = is.text;
  passes = subst (Passes is.text before) (sym gives.1) is.passes;
  is_scanned = (told_front reader is.text is.told, nothing_after now after gives.0 gives.1);
  count = is.count;
}

-- it goes on past its greatest length
pub scanned_long : (expected : List ℕ) (reader : LineReader) (same : Bool) (begin passed byte : ℕ) (before now after : Option (List ℕ))
    → IsScanning expected reader same begin passed before now → GivesByte (Some byte) now after → passed ≡ max_trace_bytes
    → Scans expected begin (passed + 1) before after TooLong
scanned_long expected reader same begin passed byte before now after is gives full = record {
  text = is.text ++ byte ∷ [];
  passes = passes_then is.text (byte ∷ []) before now after is.passes gives;
  is_scanned = (is.text, byte, refl, told_front reader is.text is.told, sym is.count ∙ full);
  count = omega (arith, is.count, length-append is.text (byte ∷ []));
}

-- the trace ends at its greatest length, or goes on past it
pub past_scans : (scanned : Result Scanned Failed) (expected : List ℕ) (reader : LineReader) (same : Bool) (begin passed passed_new : ℕ) (before now after : Option (List ℕ))
    → IsScanning expected reader same begin passed before now → passed ≡ max_trace_bytes
    → IfOk scanned (λ s. IsPast passed passed_new now after s)
    → IfOk scanned (λ s. Scans expected begin passed_new before after s)
past_scans (Err failed) expected reader same begin passed passed_new before now after is full past = tt
past_scans (Ok (Whole line whole)) expected reader same begin passed passed_new before now after is full past = absurd past
past_scans (Ok NoLine) expected reader same begin passed passed_new before now after is full past = absurd past
past_scans (Ok Cut) expected reader same begin passed passed_new before now after is full past =
    subst (λ n. Scans expected begin n before after Cut) (sym past.1) (scanned_cut expected reader same begin passed before now after is past.0)
past_scans (Ok TooLong) expected reader same begin passed passed_new before now after is full past =
    subst (λ n. Scans expected begin n before after TooLong) (sym past.2) (scanned_long expected reader same begin passed past.0 before now after is past.1 full)

pub past_within : (scanned : Result Scanned Failed) (passed passed_new : ℕ) (now after : Option (List ℕ)) → passed ≡ max_trace_bytes
    → IfOk scanned (λ s. IsPast passed passed_new now after s) → IfOk scanned (λ s. IsWithin passed_new s)
past_within (Err failed) passed passed_new now after full past = tt
past_within (Ok (Whole line whole)) passed passed_new now after full past = absurd past
past_within (Ok NoLine) passed passed_new now after full past = absurd past
past_within (Ok Cut) passed passed_new now after full past = omega (arith, full, past.1)
past_within (Ok TooLong) passed passed_new now after full past = tt
