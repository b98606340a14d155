-- Texts that are cut into the texts of lines.
use Rattle.std.proofs.Common.{◌≡◌, ℕ, List, [], ◌∷◌, ◌++◌, refl, sym, ap, ◌∙◌, subst, append_assoc}
use Rattle.std.specs.Prelude.{flat_map}
use Rattle.std.specs.List.{concat}
use Rattle.std.proofs.lemmas.List.{append-nil}
use Rattle.std.proofs.lemmas.List.Folds.{concat-append}
use Rattle.trace_text.specs.declared.line.Line.{Line}
use Rattle.trace_text.specs.declared.line.Line.TheVariants.{Inst}
use Rattle.trace_text.specs.Text.{line_text}
use Rattle.trace_text.specs.Table.{IsWritten, AreWritten}
use Rattle.trace_text.specs.Spelling.{Spells, Begins, IsFront}
use Rattle.trace_text.specs.ReadBack.{SpellEach, AreLines, HasNoLineFeed}
use Rattle.trace_text.proofs.Decoding.{consed, heads, tails}
use Rattle.trace_text.proofs.LineEnds.{line_ends, one_line, same_up_to, front_none, no_empty}
use Rattle.trace_text.proofs.Telling.{empty_front}

-- a line's text, up to its line feed, before other bytes
ends_before : (line : Line) (text rest : List ℕ) → (w : Spells line text) → text ++ rest ≡ (line_ends line text w).before ++ (10 ∷ rest)
ends_before line text rest w =
    let end = line_ends line text w in
    ap (λ (u : List ℕ). u ++ rest) end.ends ∙ append_assoc end.before (10 ∷ []) rest

record SameFirst (this that : Line) (text other rest behind : List ℕ) : Type 0 where
  same_line : this ≡ that
  same_text : text ≡ other
  same_rest : rest ≡ behind

-- the first line of a text, its text, and what follows
first_line : (this that : Line) (text other rest behind : List ℕ) → Spells this text → Spells that other
    → text ++ rest ≡ other ++ behind → SameFirst this that text other rest behind
first_line this that text other rest behind w v h =
    let here = line_ends this text w in
    let there = line_ends that other v in
    let cut = same_up_to here.before there.before rest behind here.none there.none
    (sym (ends_before this text rest w) ∙ (h ∙ ends_before that other behind v)) in
    let same : text ≡ other = here.ends ∙ (ap (λ (u : List ℕ). u ++ (10 ∷ [])) cut.same ∙ sym there.ends) in
    record {
      same_line = one_line this that other (subst (λ (u : List ℕ). Spells this u) same w) v;
      same_text = same;
      same_rest = cut.rest;
    }

-- no line's text is empty, nor a proper prefix of a line, nor without its line feed
not_empty : (line : Line) (text rest : List ℕ) → Spells line text → text ++ rest ≡ [] → ⊥
not_empty line text rest w h = starts (line_ends line text w).before (sym (ends_before line text rest w) ∙ h) where
  starts : (xs : List ℕ) → xs ++ (10 ∷ rest) ≡ [] → ⊥
  starts [] e = no_empty 10 rest e
  starts (x ∷ xs) e = no_empty x (xs ++ (10 ∷ rest)) e

has_feed : (before rest : List ℕ) → HasNoLineFeed (before ++ (10 ∷ rest)) → ⊥
has_feed [] rest none = none.0 refl
has_feed (x ∷ before) rest none = has_feed before rest none.1

not_front : (line : Line) (text rest read : List ℕ) → Spells line text → IsFront read → text ++ rest ≡ read → ⊥
not_front line text rest read w front h =
    has_feed (line_ends line text w).before rest
    (subst HasNoLineFeed (sym h ∙ ends_before line text rest w) (front_none read front))

-- lines behind the first
pub record Behind (rest : List ℕ) : Type 0 where
  pub lines : List Line
  pub texts : List (List ℕ)
  pub are_lines : SpellEach lines texts
  pub text : concat texts ≡ rest

pub first_rest : (line : Line) (lines : List Line) (text : List ℕ) (texts : List (List ℕ)) (rest : List ℕ) → Spells line text
    → SpellEach lines texts → concat texts ≡ text ++ rest → Behind rest
first_rest line [] text [] rest w v h = absurd (not_empty line text rest w (sym h))
first_rest line [] text (other ∷ texts) rest w v h = absurd v
first_rest line (that ∷ lines) text [] rest w v h = absurd v
first_rest line (that ∷ lines) text (other ∷ texts) rest w v h = record {
  lines = lines;
  texts = texts;
  are_lines = v.1;
  text = (first_line that line other text (concat texts) rest v.0 w h).same_rest;
}

-- lines, and a prefix of one more
pub record SameLines (these those : List Line) (texts others : List (List ℕ)) (read : List ℕ) : Type 0 where
  pub same_lines : these ≡ those
  pub same_texts : texts ≡ others
  pub none_read : read ≡ []

pub cut_so : (these those : List Line) (texts others : List (List ℕ)) (read : List ℕ) → SpellEach these texts → SpellEach those others
    → IsFront read → concat texts ≡ concat others ++ read → SameLines these those texts others read
cut_so [] [] [] [] read w v front h = record { same_lines = refl; same_texts = refl; none_read = sym h }
cut_so [] (that ∷ those) [] (other ∷ others) read w v front h =
    absurd (not_empty that other (concat others ++ read) v.0 (sym (h ∙ append_assoc other (concat others) read)))
cut_so (this ∷ these) [] (text ∷ texts) [] read w v front h = absurd (not_front this text (concat texts) read w.0 front h)
cut_so (this ∷ these) (that ∷ those) (text ∷ texts) (other ∷ others) read w v front h =
    let first = first_line this that text other (concat texts) (concat others ++ read) w.0 v.0
    (h ∙ append_assoc other (concat others) read) in
    let rest = cut_so these those texts others read w.1 v.1 front first.same_rest in
    record {
      same_lines = consed this that these those first.same_line rest.same_lines;
      same_texts = consed text other texts others first.same_text rest.same_texts;
      none_read = rest.none_read;
    }
cut_so [] those (text ∷ texts) others read w v front h = absurd w
cut_so (this ∷ these) those [] others read w v front h = absurd w
cut_so these [] texts (other ∷ others) read w v front h = absurd v
cut_so these (that ∷ those) texts [] read w v front h = absurd v

pub cut_in_one_way : (these those : List Line) (texts others : List (List ℕ)) → SpellEach these texts → SpellEach those others
    → concat texts ≡ concat others → (these ≡ those) × (texts ≡ others)
cut_in_one_way these those texts others w v h =
    let same = cut_so these those texts others [] w v empty_front (h ∙ sym (append-nil (concat others))) in
    (same.same_lines, same.same_texts)

-- a line more
pub line_more : (lines : List Line) (texts : List (List ℕ)) (line : Line) (text : List ℕ) → SpellEach lines texts → Spells line text
    → SpellEach (lines ++ line ∷ []) (texts ++ text ∷ [])
line_more [] [] line text w v = (v, tt)
line_more [] (other ∷ texts) line text w v = absurd w
line_more (that ∷ lines) [] line text w v = absurd w
line_more (that ∷ lines) (other ∷ texts) line text w v = (w.0, line_more lines texts line text w.1 v)

pub text_more : (texts : List (List ℕ)) (text : List ℕ) → concat (texts ++ text ∷ []) ≡ concat texts ++ text
text_more texts text = concat-append texts (text ∷ []) ∙ ap (λ (u : List ℕ). concat texts ++ u) (append-nil text)

each_more : (these those : List Line) (texts others : List (List ℕ)) → SpellEach these texts → SpellEach those others
    → SpellEach (these ++ those) (texts ++ others)
each_more [] those [] others w v = v
each_more [] those (text ∷ texts) others w v = absurd w
each_more (this ∷ these) those [] others w v = absurd w
each_more (this ∷ these) those (text ∷ texts) others w v = (w.0, each_more these those texts others w.1 v)

pub lines_behind_lines : (these those : List Line) (text behind : List ℕ) → AreLines these text → AreLines those behind
    → AreLines (these ++ those) (text ++ behind)
lines_behind_lines these those text behind w v = (
  w.0 ++ v.0,
  each_more these those w.0 v.0 w.1 v.1,
  ap (λ (u : List ℕ). u ++ behind) w.2 ∙ (ap (λ (u : List ℕ). concat w.0 ++ u) v.2 ∙ sym (concat-append w.0 v.0)),
)

-- the first lines of a text, and the others
record First (these those : List Line) (more : List ℕ) : Type 0 where
  others : List Line
  same : those ≡ these ++ others
  are_lines : AreLines others more

each_first : (these those : List Line) (texts cut : List (List ℕ)) (more : List ℕ) → SpellEach these texts → SpellEach those cut
    → concat cut ≡ concat texts ++ more → First these those more
each_first [] those [] cut more w v h = record { others = those; same = refl; are_lines = (cut, v, sym h) }
each_first [] those (text ∷ texts) cut more w v h = absurd w
each_first (this ∷ these) those [] cut more w v h = absurd w
each_first (this ∷ these) [] (text ∷ texts) (other ∷ cut) more w v h = absurd v
each_first (this ∷ these) [] (text ∷ texts) [] more w v h =
    absurd (not_empty this text (concat texts ++ more) w.0 (sym (h ∙ append_assoc text (concat texts) more)))
each_first (this ∷ these) (that ∷ those) (text ∷ texts) [] more w v h = absurd v
each_first (this ∷ these) (that ∷ those) (text ∷ texts) (other ∷ cut) more w v h =
    let first = first_line that this other text (concat cut) (concat texts ++ more) v.0 w.0 (h ∙ append_assoc text (concat texts) more) in
    let rest = each_first these those texts cut more w.1 v.1 first.same_rest in
    record {
      others = rest.others;
      same = consed that this those (these ++ rest.others) first.same_line rest.same;
      are_lines = rest.are_lines;
    }

pub first_lines : (these those : List Line) (text more : List ℕ) → AreLines these text → AreLines those (text ++ more)
    → (others : List Line) × (those ≡ these ++ others) × AreLines others more
first_lines these those text more w v =
    let first = each_first these those w.0 v.0 more w.1 v.1 (sym v.2 ∙ ap (λ (u : List ℕ). u ++ more) w.2) in
    (first.others, first.same, first.are_lines)

written_spelled : (line : Line) → IsWritten line → Spells line (line_text line)
written_spelled (Inst k) w = absurd w
written_spelled line w = (w, refl)

pub written_are_lines : (lines : List Line) → AreWritten lines → AreLines lines (flat_map line_text lines)
written_are_lines [] w = ([], tt, refl)
written_are_lines (line ∷ lines) w =
    let rest = written_are_lines lines w.1 in
    (line_text line ∷ rest.0, (written_spelled line w.0, rest.1), ap (λ (u : List ℕ). line_text line ++ u) rest.2)

-- bytes with no line feed and one byte more, before others, in a line's text
begins_one : (read before : List ℕ) (byte : ℕ) (more rest : List ℕ) → HasNoLineFeed read → read ++ (byte ∷ more) ≡ before ++ (10 ∷ rest)
    → (others : List ℕ) × ((read ++ byte ∷ []) ++ others ≡ before ++ (10 ∷ []))
begins_one [] [] byte more rest none h = ([], ap (λ (b : ℕ). b ∷ []) (heads byte 10 more rest h))
begins_one [] (c ∷ before) byte more rest none h =
    (before ++ (10 ∷ []), ap (λ (b : ℕ). b ∷ (before ++ (10 ∷ []))) (heads byte c more (before ++ (10 ∷ rest)) h))
begins_one (x ∷ read) [] byte more rest none h = absurd (none.0 (heads x 10 (read ++ (byte ∷ more)) rest h))
begins_one (x ∷ read) (c ∷ before) byte more rest none h =
    let first : x ≡ c = heads x c (read ++ (byte ∷ more)) (before ++ (10 ∷ rest)) h in
    let others = begins_one read before byte more rest none.1 (tails x c _ _ h) in
    (others.0, consed x c _ _ first others.1)

-- what stands behind lines in the text of lines begins a line
pub goes_on : (lines those : List Line) (texts others : List (List ℕ)) (read : List ℕ) (byte : ℕ) (more : List ℕ) → SpellEach lines texts
    → SpellEach those others → HasNoLineFeed read → concat others ≡ concat texts ++ (read ++ (byte ∷ more)) → Begins (read ++ byte ∷ [])
goes_on [] [] [] [] read byte more w v none h = absurd (nothing read h) where
  nothing : (xs : List ℕ) → [] ≡ xs ++ (byte ∷ more) → ⊥
  nothing [] e = no_empty byte more (sym e)
  nothing (x ∷ xs) e = no_empty x (xs ++ (byte ∷ more)) (sym e)
goes_on [] (that ∷ those) [] (other ∷ others) read byte more w v none h =
    let end = line_ends that other v.0 in
    let found = begins_one read end.before byte more (concat others) none (sym h ∙ ends_before that other (concat others) v.0) in
    (that, found.0, subst (λ (u : List ℕ). Spells that u) (end.ends ∙ sym found.1) v.0)
goes_on (line ∷ lines) [] (text ∷ texts) [] read byte more w v none h =
    absurd (not_empty line text (concat texts ++ (read ++ (byte ∷ more))) w.0
    (sym (h ∙ append_assoc text (concat texts) (read ++ (byte ∷ more)))))
goes_on (line ∷ lines) (that ∷ those) (text ∷ texts) (other ∷ others) read byte more w v none h =
    let first = first_line that line other text (concat others) (concat texts ++ (read ++ (byte ∷ more))) v.0 w.0
    (h ∙ append_assoc text (concat texts) (read ++ (byte ∷ more))) in
    goes_on lines those texts others read byte more w.1 v.1 none first.same_rest
goes_on [] those (text ∷ texts) others read byte more w v none h = absurd w
goes_on (line ∷ lines) those [] others read byte more w v none h = absurd w
goes_on lines [] texts (other ∷ others) read byte more w v none h = absurd v
goes_on lines (that ∷ those) texts [] read byte more w v none h = absurd v
