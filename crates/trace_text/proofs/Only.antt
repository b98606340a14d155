-- Only lines are read back.
use Rattle.std.proofs.Common.{◌≡◌, ℕ, List, [], ◌∷◌, ◌++◌, refl, sym, ap, ◌∙◌, subst, inl, inr, append_assoc}
use Rattle.std.specs.List.{concat}
use Rattle.std.proofs.lemmas.List.{append-nil}
use Rattle.trace_text.specs.declared.line.Line.{Line}
use Rattle.trace_text.specs.declared.line.Line.TheVariants.{Quiet}
use Rattle.trace_text.specs.declared.place.Place.{Place}
use Rattle.trace_text.specs.declared.place.Place.TheVariants.{Start}
use Rattle.trace_text.specs.declared.reader.LineReader.{LineReader}
use Rattle.trace_text.specs.declared.reader.Step2.{Step2}
use Rattle.trace_text.specs.declared.reader.Step2.TheVariants.{More, Line as TheLine, Bad}
use Rattle.trace_text.specs.Spelling.{Begins, IsFront, since_line_feed}
use Rattle.trace_text.specs.HasRead.{HasRead}
use Rattle.trace_text.specs.HasTold.{HasTold, TellsOn}
use Rattle.trace_text.specs.ReadBack.{SpellEach, AreLines, BeginLines, IsEnded, HasNoLineFeed, IsAnswer, AreAnswers, NoneIsBad, lines_among}
use Rattle.trace_text.proofs.Decoding.{tails}
use Rattle.trace_text.proofs.Reading.{Stands}
use Rattle.trace_text.proofs.LineEnds.{line_ends, front_none, no_empty}
use Rattle.trace_text.proofs.Telling.{empty_front, since_other, one_more, front_goes_on, told_at_line_feed, line_answered, front_answered}
use Rattle.trace_text.proofs.Cutting.{cut_so, line_more, text_more, goes_on, first_rest, first_lines}

-- bytes that are lines and a proper prefix of one more
pub record Told (lines : List Line) (bytes : List ℕ) : Type 0 where
  pub texts : List (List ℕ)
  pub read : List ℕ
  pub are_lines : SpellEach lines texts
  pub is_front : IsFront read
  pub whole : bytes ≡ concat texts ++ read

-- if none is bad, the lines that are told stand there, and a proper prefix of one more
pub told : (bytes read : List ℕ) (answers : List Step2) → IsFront read → AreAnswers read bytes answers → NoneIsBad answers
    → Told (lines_among answers) (read ++ bytes)
told [] read [] front all none =
    record { texts = []; read = read; are_lines = tt; is_front = front; whole = append-nil read }
told [] read (answer ∷ answers) front all none = absurd all
told (byte ∷ bytes) read [] front all none = absurd all
told (byte ∷ bytes) read (More ∷ answers) front all none =
    let rest = told bytes (read ++ byte ∷ []) answers all.0 (front_answered read byte bytes answers all.0 all.1) none.1 in
    record {
      texts = rest.texts;
      read = rest.read;
      are_lines = rest.are_lines;
      is_front = rest.is_front;
      whole = sym (one_more read byte bytes) ∙ rest.whole;
    }
told (byte ∷ bytes) read (TheLine line ∷ answers) front all none =
    let rest = told bytes [] answers empty_front (line_answered read byte line bytes answers all.0 all.1) none.1 in
    record {
      texts = (read ++ byte ∷ []) ∷ rest.texts;
      read = rest.read;
      are_lines = (all.0, rest.are_lines);
      is_front = rest.is_front;
      whole = sym (one_more read byte bytes)
          ∙ (ap (λ (u : List ℕ). (read ++ byte ∷ []) ++ u) rest.whole
          ∙ sym (append_assoc (read ++ byte ∷ []) (concat rest.texts) rest.read));
    }
told (byte ∷ bytes) read (Bad ∷ answers) front all none = absurd (none.0 refl)

-- no answer is bad if the bytes begin the text of lines
pub none_bad : (bytes read more : List ℕ) (answers : List Step2) (lines : List Line) (texts : List (List ℕ)) → IsFront read
    → SpellEach lines texts → AreAnswers read bytes answers → concat texts ≡ read ++ (bytes ++ more) → NoneIsBad answers
none_bad [] read more [] lines texts front w all h = tt
none_bad [] read more (answer ∷ answers) lines texts front w all h = absurd all
none_bad (byte ∷ bytes) read more [] lines texts front w all h = absurd all
none_bad (byte ∷ bytes) read more (More ∷ answers) lines texts front w all h = (
  λ e. absurd (cc),
  none_bad bytes (read ++ byte ∷ []) more answers lines texts all.0 w (front_answered read byte bytes answers all.0 all.1)
      (h ∙ sym (one_more read byte (bytes ++ more))),
)
none_bad (byte ∷ bytes) read more (TheLine line ∷ answers) lines texts front w all h =
    let first = first_rest line lines (read ++ byte ∷ []) texts (bytes ++ more) all.0 w (h ∙ sym (one_more read byte (bytes ++ more))) in (
      λ e. absurd (cc),
      none_bad bytes [] more answers first.lines first.texts empty_front first.are_lines
          (line_answered read byte line bytes answers all.0 all.1) first.text,
    )
none_bad (byte ∷ bytes) read more (Bad ∷ answers) lines texts front w all h =
    absurd (all.0 (goes_on [] lines [] texts read byte (bytes ++ more) tt w (front_none read front) h))

-- the text of lines ends in a line feed
pub lines_ended : (lines : List Line) (texts : List (List ℕ)) → SpellEach lines texts → IsEnded (concat texts)
lines_ended [] [] w = inl refl
lines_ended [] (text ∷ texts) w = absurd w
lines_ended (line ∷ lines) [] w = absurd w
lines_ended (line ∷ lines) (text ∷ texts) w =
    elim (lines_ended lines texts w.1) [
      | inl e ↦ inr (
        (line_ends line text w.0).before,
        ap (λ (u : List ℕ). text ++ u) e ∙ (append-nil text ∙ (line_ends line text w.0).ends),
      )
      | inr e ↦ inr (text ++ e.0, ap (λ (u : List ℕ). text ++ u) e.1 ∙ sym (append_assoc text e.0 (10 ∷ [])))
    ]

nothing : (xs ys : List ℕ) → xs ++ ys ≡ [] → ys ≡ []
nothing [] ys h = h
nothing (x ∷ xs) ys h = absurd (no_empty x (xs ++ ys) h)

feed_in : (before : List ℕ) → HasNoLineFeed (before ++ (10 ∷ [])) → ⊥
feed_in [] none = none.0 refl
feed_in (x ∷ before) none = feed_in before none.1

none_left : (xs read before : List ℕ) → HasNoLineFeed read → xs ++ read ≡ before ++ (10 ∷ []) → read ≡ []
none_left [] read before none h = absurd (feed_in before (subst HasNoLineFeed h none))
none_left (x ∷ xs) read [] none h = nothing xs read (tails x 10 (xs ++ read) [] h)
none_left (x ∷ xs) read (b ∷ before) none h = none_left xs read before none (tails x b _ _ h)

-- a proper prefix of a line, at the end of a text that ends in a line feed, is empty
pub ended_whole : (xs read text : List ℕ) → IsFront read → text ≡ xs ++ read → IsEnded text → read ≡ []
ended_whole xs read text front h ended = elim ended [
  | inl e ↦ nothing xs read (sym h ∙ e)
  | inr e ↦ none_left xs read e.0 (front_none read front) (sym h ∙ e.1)
]

pub lines_told : (lines : List Line) (text : List ℕ) (answers : List Step2) → AreAnswers [] text answers → AreLines lines text
    → IsEnded text × NoneIsBad answers × (lines_among answers ≡ lines)
lines_told lines text answers all w =
    let texts = w.0 in
    let none : NoneIsBad answers = none_bad text [] [] answers lines texts empty_front w.1 all (sym w.2 ∙ sym (append-nil text)) in
    let here = told text [] answers empty_front all none in
    let same = cut_so lines (lines_among answers) texts here.texts here.read w.1 here.are_lines here.is_front (sym w.2 ∙ here.whole) in
    (subst IsEnded (sym w.2) (lines_ended lines texts w.1), none, sym same.same_lines)

whole_lines : (lines : List Line) (texts : List (List ℕ)) (read text : List ℕ) → SpellEach lines texts → text ≡ concat texts ++ read
    → read ≡ [] → AreLines lines text
whole_lines lines texts read text w h none =
    (texts, w, h ∙ (ap (λ (u : List ℕ). concat texts ++ u) none ∙ append-nil (concat texts)))

pub told_lines : (lines : List Line) (text : List ℕ) (answers : List Step2) → AreAnswers [] text answers
    → IsEnded text × NoneIsBad answers × (lines_among answers ≡ lines) → AreLines lines text
told_lines lines text answers all w =
    let here = told text [] answers empty_front all w.1 in
    let none : here.read ≡ [] = ended_whole (concat here.texts) here.read text here.is_front here.whole w.0 in
    subst (λ (ls : List Line). AreLines ls text) w.2
    (whole_lines (lines_among answers) here.texts here.read text here.are_lines here.whole none)

pub begun_none : (bytes : List ℕ) (answers : List Step2) → AreAnswers [] bytes answers → BeginLines bytes → NoneIsBad answers
begun_none bytes answers all w =
    none_bad bytes [] w.1 answers w.0 w.2.0 empty_front w.2.1 all (sym w.2.2)

-- lines and a prefix of one more begin lines
front_begins : (lines : List Line) (texts : List (List ℕ)) (read bytes : List ℕ) → SpellEach lines texts → Begins read
    → bytes ≡ concat texts ++ read → BeginLines bytes
front_begins lines texts read bytes w front h = (
  lines ++ front.0 ∷ [],
  front.1,
  (
    texts ++ (read ++ front.1) ∷ [],
    line_more lines texts front.0 (read ++ front.1) w front.2,
    ap (λ (u : List ℕ). u ++ front.1) h
        ∙ (append_assoc (concat texts) read front.1 ∙ sym (text_more texts (read ++ front.1))),
  ),
)

pub none_begun : (bytes : List ℕ) (answers : List Step2) → AreAnswers [] bytes answers → NoneIsBad answers → BeginLines bytes
none_begun bytes answers all none =
    let here = told bytes [] answers empty_front all none in
    front_begins (lines_among answers) here.texts here.read bytes here.are_lines here.is_front.0 here.whole

pub told_are_first : (reader : LineReader) (lines those : List Line) (bytes more : List ℕ) → HasTold reader lines bytes
    → AreLines those (bytes ++ more) → (others : List Line) × (those ≡ lines ++ others)
told_are_first reader lines those bytes more h w =
    let text : bytes ++ more ≡ concat h.texts ++ (h.read ++ more) =
    ap (λ (u : List ℕ). u ++ more) h.whole ∙ append_assoc (concat h.texts) h.read more in
    let first = first_lines lines those (concat h.texts) (h.read ++ more) (h.texts, h.are_lines, refl)
    (subst (λ (u : List ℕ). AreLines those u) text w) in
    (first.0, first.1)

pub told_are_whole : (reader : LineReader) (lines : List Line) (text : List ℕ) → HasTold reader lines text → IsEnded text → AreLines lines text
told_are_whole reader lines text h ended =
    whole_lines lines h.texts h.read text h.are_lines h.whole (ended_whole (concat h.texts) h.read text h.is_front h.whole ended)

-- a reader that has read nothing
pub has_read_nothing : HasRead (record { place = Start }) []
has_read_nothing = record { onward = λ line bytes w. w; back = λ line bytes w. w; alive = (Quiet, 113 ∷ 10 ∷ [], (tt, refl)) }

pub read_line_feed : (place : Place) (read : List ℕ) (byte : ℕ) → place ≡ Start → byte ≡ 10
    → HasRead (record { place = place }) (since_line_feed read byte)
read_line_feed place read byte e feed =
    subst (λ (b : ℕ). HasRead (record { place = place }) (since_line_feed read b)) (sym feed)
    (subst (λ (p : Place). HasRead (record { place = p }) []) (sym e) has_read_nothing)

pub read_other : (place next : Place) (read : List ℕ) (byte : ℕ) → Stands next (read ++ byte ∷ []) → place ≡ next → (byte ≡ 10 → ⊥)
    → HasRead (record { place = place }) (since_line_feed read byte)
read_other place next read byte there e other =
    subst (λ (u : List ℕ). HasRead (record { place = place }) u) (sym (since_other read byte other))
    (subst (λ (p : Place). HasRead (record { place = p }) (read ++ byte ∷ [])) (sym e)
    (record { onward = there.onward; back = there.back; alive = there.alive }))

-- one byte more
pub tells_on : (old new : LineReader) (lines : List Line) (text : List ℕ) (byte : ℕ) (answer : Step2) → HasTold old lines text
    → ((read : List ℕ) → HasRead old read → IsAnswer (read ++ byte ∷ []) answer)
    → ((read : List ℕ) → HasRead old read → HasRead new (since_line_feed read byte))
    → TellsOn new lines (text ++ byte ∷ []) answer
tells_on old new lines text byte (TheLine line) h answers goes =
    let here = answers h.read h.has_read in
    let whole : text ++ byte ∷ [] ≡ concat (h.texts ++ (h.read ++ byte ∷ []) ∷ []) = more_text text byte h.texts h.read h.whole in
    let lines_now : SpellEach (lines ++ line ∷ []) (h.texts ++ (h.read ++ byte ∷ []) ∷ []) =
    line_more lines h.texts line (h.read ++ byte ∷ []) h.are_lines here in (
      record {
        texts = h.texts ++ (h.read ++ byte ∷ []) ∷ [];
        read = [];
        are_lines = lines_now;
        is_front = empty_front;
        whole = whole ∙ sym (append-nil (concat (h.texts ++ (h.read ++ byte ∷ []) ∷ [])));
        has_read = subst (λ (b : ℕ). HasRead new (since_line_feed h.read b)) (told_at_line_feed h.read byte line here) (goes h.read h.has_read);
      },
      (h.texts ++ (h.read ++ byte ∷ []) ∷ [], lines_now, whole),
    ) where
      more_text : (all : List ℕ) (b : ℕ) (texts : List (List ℕ)) (read : List ℕ) → all ≡ concat texts ++ read
          → all ++ b ∷ [] ≡ concat (texts ++ (read ++ b ∷ []) ∷ [])
      more_text all b texts read e =
          ap (λ (u : List ℕ). u ++ b ∷ []) e ∙ (append_assoc (concat texts) read (b ∷ []) ∙ sym (text_more texts (read ++ b ∷ [])))
tells_on old new lines text byte More h answers goes =
    let here = answers h.read h.has_read in
    let whole : text ++ byte ∷ [] ≡ concat h.texts ++ (h.read ++ byte ∷ []) =
    ap (λ (u : List ℕ). u ++ byte ∷ []) h.whole ∙ append_assoc (concat h.texts) h.read (byte ∷ []) in (
      record {
        texts = h.texts;
        read = h.read ++ byte ∷ [];
        are_lines = h.are_lines;
        is_front = here;
        whole = whole;
        has_read = subst (λ (u : List ℕ). HasRead new u) (since_other h.read byte (front_goes_on h.read byte here)) (goes h.read h.has_read);
      },
      λ those w. some h.read (cut_so those lines w.0 h.texts (h.read ++ byte ∷ []) w.1 h.are_lines here (sym w.2 ∙ whole)).none_read,
    ) where
      some : (xs : List ℕ) → xs ++ byte ∷ [] ≡ [] → ⊥
      some [] e = no_empty byte [] e
      some (x ∷ xs) e = no_empty x (xs ++ byte ∷ []) e
tells_on old new lines text byte Bad h answers goes = λ w.
    let whole : concat w.2.0 ≡ concat h.texts ++ (h.read ++ (byte ∷ w.1)) =
    sym w.2.2 ∙ (one_more text byte w.1
    ∙ (ap (λ (u : List ℕ). u ++ (byte ∷ w.1)) h.whole ∙ append_assoc (concat h.texts) h.read (byte ∷ w.1))) in
    answers h.read h.has_read
    (goes_on lines w.0 h.texts w.2.0 h.read byte w.1 h.are_lines w.2.1 (front_none h.read h.is_front) whole)
