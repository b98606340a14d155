-- What is answered of the bytes of lines, and which lines answers tell.
use Rattle.std.proofs.Common.{◌≡◌, ◌≢◌, ℕ, ◌+◌, ◌-◌, Bool, true, false, List, [], ◌∷◌, ◌++◌, refl, sym, ap, ◌∙◌, subst, arith, append_assoc, rules}
use Rattle.std.specs.Prelude.{length, replicate, ◌==◌, if◌then◌else◌}
use Rattle.std.specs.List.{concat}
use Rattle.std.proofs.lemmas.List.{append-nil, length-append}
use Rattle.trace_text.specs.declared.line.Line.{Line}
use Rattle.trace_text.specs.declared.line.Line.TheVariants.{Quiet}
use Rattle.trace_text.specs.declared.reader.Step2.{Step2}
use Rattle.trace_text.specs.declared.reader.Step2.TheVariants.{More, Line as TheLine, Bad}
use Rattle.trace_text.specs.Spelling.{Spells, IsFront, since_line_feed}
use Rattle.trace_text.specs.ReadBack.{SpellEach, HasNoLineFeed, IsAnswer, AreAnswers, answers_to, answers_to_each}
use Rattle.trace_text.proofs.Decoding.{consed, heads, tails}
use Rattle.trace_text.proofs.Reading.{has_line}
use Rattle.trace_text.proofs.LineEnds.{line_ends, one_line, front_is_no_line, front_none, no_empty}

pub empty_front : IsFront []
empty_front = ((Quiet, 113 ∷ 10 ∷ [], (tt, refl)), has_line)

-- the bytes since the last line feed, once a byte more was read
pub since_other : (read : List ℕ) (byte : ℕ) → byte ≢ 10 → since_line_feed read byte ≡ read ++ byte ∷ []
since_other read byte plain = by_test (byte == 10) refl where
  same : (m n : ℕ) → (m == n) ≡ true → m ≡ n
  same m n h = search rules

  by_test : (b : Bool) → (byte == 10) ≡ b → (if b then [] else read ++ byte ∷ []) ≡ read ++ byte ∷ []
  by_test true e = absurd (plain (same byte 10 e))
  by_test false e = refl

pub one_more : (read : List ℕ) (byte : ℕ) (bytes : List ℕ) → (read ++ byte ∷ []) ++ bytes ≡ read ++ (byte ∷ bytes)
one_more read byte bytes = append_assoc read (byte ∷ []) bytes

last_none : (read : List ℕ) (byte : ℕ) → HasNoLineFeed (read ++ byte ∷ []) → byte ≢ 10
last_none [] byte w = w.0
last_none (x ∷ read) byte w = last_none read byte w.1

pub front_goes_on : (read : List ℕ) (byte : ℕ) → IsFront (read ++ byte ∷ []) → byte ≢ 10
front_goes_on read byte w = last_none read byte (front_none (read ++ byte ∷ []) w)

record SameLast (xs ys : List ℕ) (x y : ℕ) : Type 0 where
  same : xs ≡ ys
  last : x ≡ y

same_last : (xs ys : List ℕ) (x y : ℕ) → xs ++ x ∷ [] ≡ ys ++ y ∷ [] → SameLast xs ys x y
same_last [] [] x y h = record { same = refl; last = heads x y [] [] h }
same_last [] (b ∷ []) x y h = absurd (no_empty y [] (sym (tails x b [] (y ∷ []) h)))
same_last [] (b ∷ c ∷ ys) x y h = absurd (no_empty c (ys ++ y ∷ []) (sym (tails x b [] (c ∷ (ys ++ y ∷ [])) h)))
same_last (a ∷ []) [] x y h = absurd (no_empty x [] (tails a y (x ∷ []) [] h))
same_last (a ∷ c ∷ xs) [] x y h = absurd (no_empty c (xs ++ x ∷ []) (tails a y (c ∷ (xs ++ x ∷ [])) [] h))
same_last (a ∷ xs) (b ∷ ys) x y h =
    let first : a ≡ b = heads a b (xs ++ x ∷ []) (ys ++ y ∷ []) h in
    let others = same_last xs ys x y (tails a b _ _ h) in
    record { same = consed a b xs ys first others.same; last = others.last }

-- a line is told at a line feed
pub told_at_line_feed : (read : List ℕ) (byte : ℕ) (line : Line) → Spells line (read ++ byte ∷ []) → byte ≡ 10
told_at_line_feed read byte line w =
    let end = line_ends line (read ++ byte ∷ []) w in
    (same_last read end.before byte 10 end.ends).last

pub line_answered : (read : List ℕ) (byte : ℕ) (line : Line) (bytes : List ℕ) (answers : List Step2) → Spells line (read ++ byte ∷ [])
    → AreAnswers (since_line_feed read byte) bytes answers → AreAnswers [] bytes answers
line_answered read byte line bytes answers w all =
    subst (λ (b : ℕ). AreAnswers (since_line_feed read b) bytes answers) (told_at_line_feed read byte line w) all

pub front_answered : (read : List ℕ) (byte : ℕ) (bytes : List ℕ) (answers : List Step2) → IsFront (read ++ byte ∷ [])
    → AreAnswers (since_line_feed read byte) bytes answers → AreAnswers (read ++ byte ∷ []) bytes answers
front_answered read byte bytes answers w all =
    subst (λ (u : List ℕ). AreAnswers u bytes answers) (since_other read byte (front_goes_on read byte w)) all

-- one answer
same_answer : (bytes : List ℕ) (this that : Step2) → IsAnswer bytes this → IsAnswer bytes that → this ≡ that
same_answer bytes (TheLine line) (TheLine other) w v = ap TheLine (one_line line other bytes w v)
same_answer bytes (TheLine line) More w v = absurd (v.1 line w)
same_answer bytes (TheLine line) Bad w v = absurd (v (line, [], subst (λ (u : List ℕ). Spells line u) (sym (append-nil bytes)) w))
same_answer bytes More (TheLine line) w v = absurd (w.1 line v)
same_answer bytes More More w v = refl
same_answer bytes More Bad w v = absurd (v w.0)
same_answer bytes Bad (TheLine line) w v = absurd (w (line, [], subst (λ (u : List ℕ). Spells line u) (sym (append-nil bytes)) v))
same_answer bytes Bad More w v = absurd (w v.0)
same_answer bytes Bad Bad w v = refl

same_answers : (read bytes : List ℕ) (these those : List Step2) → AreAnswers read bytes these → AreAnswers read bytes those → these ≡ those
same_answers read [] [] [] w v = refl
same_answers read [] (this ∷ these) those w v = absurd w
same_answers read [] [] (that ∷ those) w v = absurd v
same_answers read (byte ∷ bytes) [] those w v = absurd w
same_answers read (byte ∷ bytes) (this ∷ these) [] w v = absurd v
same_answers read (byte ∷ bytes) (this ∷ these) (that ∷ those) w v =
    consed this that these those (same_answer (read ++ byte ∷ []) this that w.0 v.0)
    (same_answers (since_line_feed read byte) bytes these those w.1 v.1)

pub one_answer_each : (text : List ℕ) (these those : List Step2) → AreAnswers [] text these → AreAnswers [] text those → these ≡ those
one_answer_each text these those w v = same_answers [] text these those w v

-- what is answered of a line's text, and of what follows it
line_answers : (before read rest : List ℕ) (line : Line) (answers : List Step2) → HasNoLineFeed before
    → Spells line (read ++ (before ++ (10 ∷ []))) → AreAnswers [] rest answers
    → AreAnswers read (before ++ (10 ∷ rest)) (replicate (length before) More ++ (TheLine line ∷ answers))
line_answers [] read rest line answers none w all = (w, all)
line_answers (b ∷ before) read rest line answers none w all =
    let here : Spells line ((read ++ b ∷ []) ++ (before ++ (10 ∷ []))) =
    subst (λ (u : List ℕ). Spells line u) (sym (one_more read b (before ++ (10 ∷ [])))) w in (
      front_is_no_line line (read ++ b ∷ []) (before ++ (10 ∷ [])) here (some before),
      subst (λ (u : List ℕ). AreAnswers u (before ++ (10 ∷ rest)) (replicate (length before) More ++ (TheLine line ∷ answers)))
          (sym (since_other read b none.0)) (line_answers before (read ++ b ∷ []) rest line answers none.1 here all),
    ) where
      some : (xs : List ℕ) → xs ++ (10 ∷ []) ≢ []
      some [] e = no_empty 10 [] e
      some (x ∷ xs) e = no_empty x (xs ++ (10 ∷ [])) e

length_before : (before : List ℕ) → length (before ++ (10 ∷ [])) - 1 ≡ length before
length_before before = let e : length (before ++ (10 ∷ [])) ≡ length before + 1 = length-append before (10 ∷ []) in omega arith

text_answers : (line : Line) (text rest : List ℕ) (answers : List Step2) → Spells line text → AreAnswers [] rest answers
    → AreAnswers [] (text ++ rest) (answers_to line text ++ answers)
text_answers line text rest answers w all =
    let end = line_ends line text w in
    let bytes : text ++ rest ≡ end.before ++ (10 ∷ rest) =
    ap (λ (u : List ℕ). u ++ rest) end.ends ∙ append_assoc end.before (10 ∷ []) rest in
    let long : length text - 1 ≡ length end.before =
    ap (λ (u : List ℕ). length u - 1) end.ends ∙ length_before end.before in
    let steps : answers_to line text ++ answers ≡ replicate (length end.before) More ++ (TheLine line ∷ answers) =
    append_assoc (replicate (length text - 1) More) (TheLine line ∷ []) answers
    ∙ ap (λ (n : ℕ). replicate n More ++ (TheLine line ∷ answers)) long in
    subst (λ (u : List ℕ). AreAnswers [] u (answers_to line text ++ answers)) (sym bytes)
    (subst (λ (u : List Step2). AreAnswers [] (end.before ++ (10 ∷ rest)) u) (sym steps)
    (line_answers end.before [] rest line answers end.none (subst (λ (u : List ℕ). Spells line u) end.ends w) all))

pub each_answered : (lines : List Line) (texts : List (List ℕ)) → SpellEach lines texts
    → AreAnswers [] (concat texts) (answers_to_each lines texts)
each_answered [] [] w = tt
each_answered [] (text ∷ texts) w = absurd w
each_answered (line ∷ lines) [] w = absurd w
each_answered (line ∷ lines) (text ∷ texts) w =
    text_answers line text (concat texts) (answers_to_each lines texts) w.0 (each_answered lines texts w.1)

pub one_answered : (line : Line) (text : List ℕ) → Spells line text → AreAnswers [] text (answers_to line text)
one_answered line text w =
    subst (λ (u : List ℕ). AreAnswers [] u (answers_to line text)) (append-nil text)
    (subst (λ (u : List Step2). AreAnswers [] (text ++ []) u) (append-nil (answers_to line text)) (text_answers line text [] [] w tt))
