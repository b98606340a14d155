-- Markup that is read is spelled, and texts spell at most one.
use Rattle.std.proofs.Common.{◌≡◌, ℕ, zero, suc, ◌+◌, ◌≤◌, Bool, true, false, List, [], ◌∷◌, ◌++◌, length, take, None, Some, refl, sym, ap, subst, ◌∙◌, arith, append-nil, length-append, take_all}
use Rattle.std.specs.Prelude.{if◌then◌else◌, ◌&&◌, nat_lt, IsUtf8}
use Rattle.std.specs.Str.{is_utf8}
use Rattle.std.specs.Str.Lossy.{utf8_valid_len, valid_len_up_to}
use Rattle.std.proofs.Math.Seq.{append_snoc}
use Rattle.std.proofs.lemmas.Bool.{ltb-false, and_parts}
use Rattle.std.proofs.lemmas.Str.{IsUtf8-from_is_utf8, IsUtf8-nil}
use Rattle.rvc_base.specs.Rules.{spells_no_network, wrong_encoding}
use Rattle.fnl_markup.specs.Tags.{Tag}
use Rattle.fnl_markup.specs.State.{State, fresh, Next, Going, Fault}
use Rattle.fnl_markup.specs.Step.{step, is_nil}
use Rattle.fnl_markup.specs.Markup.{fault, Ended, ended, run, reading, is_content, is_whole, at_end, broken_of, broken_in, tags_of, tags_read}
use Rattle.fnl_grammar.specs.Markup.{no_mark, IsDocument, the_document}
use Rattle.fnl_grammar.specs.MarkupLaws.{TagsAreSpelled, TagsAreRead, SpellsOneMarkup}
use Rattle.fnl_grammar.proofs.Spans.{goes_on, stops_here, not_broken, same_state}
use Rattle.fnl_grammar.proofs.ReadsElements.{some_names, document_read}
use Rattle.fnl_grammar.proofs.Before.{Lies, before_all, behind_one, inside_one, Outside, Stands, stands_start, stands_mark_one, stands_mark_two, stands_marked, stands_first_less, stands_question, stands_question_x, stands_question_xm, stands_content, stands_less, stands_bang, stands_bang_dash, stands_comment, stands_comment_dash, stands_comment_dashes, stands_name, stands_quoted, stands_gap, stands_word, stands_word_gap, stands_equal, stands_value, stands_entity, stands_last_question, stands_slash, stands_end_name, stands_end_gap}
use Rattle.fnl_grammar.proofs.Kept.{Good, good, byte_kept}

-- ---- a whole text

abbrev Keeps : ℕ → State → State → List ℕ → List ℕ → Type 0
Keeps at s last front bytes = at ≡ length front → Stands s front → run at s bytes ≡ ended last None → Stands last (front ++ bytes)

kept_after : (at b : ℕ) (s last : State) (front bytes : List ℕ) (found : Next) → step at s b ≡ found → Good (front ++ b ∷ []) found → ((next : State) → Stands next (front ++ b ∷ []) → run (at + 1) next bytes ≡ ended last None → Stands last ((front ++ b ∷ []) ++ bytes))
    → run at s (b ∷ bytes) ≡ ended last None → Stands last (front ++ b ∷ bytes)
kept_after at b s last front bytes (Going next) here (good k) later e =
    subst (Stands last) (append_snoc front b bytes) (later next k (sym (goes_on at s next b bytes here) ∙ e))
kept_after at b s last front bytes (Fault rule place) here k later e = absurd (not_broken s last (fault rule place) (sym (stops_here at place b s rule bytes here) ∙ e))

kept : (at : ℕ) (s last : State) (front bytes : List ℕ) → Keeps at s last front bytes
kept at s last front [] = λ here k e. subst (λ t. Stands t (front ++ [])) (same_state s last e) (subst (Stands s) (sym (append-nil front)) k)
kept at s last front (b ∷ bytes) = λ here k e.
    let more : at + 1 ≡ length (front ++ b ∷ []) = let size = length-append front (b ∷ []) in omega arith in
    kept_after at b s last front bytes (step at s b) refl (subst (λ n. Good (front ++ b ∷ []) (step n s b)) (sym here) (byte_kept s front b k))
    (λ next stands ran. kept (at + 1) next last (front ++ b ∷ []) bytes more stands ran) e

begins : Stands fresh []
begins = stands_start refl (record { mark = no_mark; no_opened = refl; not_begun = refl; no_tags = refl; plain = refl; none = refl }) refl

-- ---- where a text may end

never_content : {P : Type 0} {b : Bool} → b ≡ true → b ≡ false → P
never_content {P} yes_ no_ = let same : true ≡ false = sym yes_ ∙ no_ in absurd cc

last_outside : (s : State) (text : List ℕ) → Stands s text → is_content s.place ≡ true → Outside s text
last_outside s text (stands_start p f e) h = never_content h (ap is_content p)
last_outside s text (stands_mark_one p f e) h = never_content h (ap is_content p)
last_outside s text (stands_mark_two p f e) h = never_content h (ap is_content p)
last_outside s text (stands_marked p f) h = never_content h (ap is_content p)
last_outside s text (stands_first_less p f e a) h = never_content h (ap is_content p)
last_outside s text (stands_question p f e) h = never_content h (ap is_content p)
last_outside s text (stands_question_x p f e) h = never_content h (ap is_content p)
last_outside s text (stands_question_xm p f e) h = never_content h (ap is_content p)
last_outside s text (stands_content p o) h = o
last_outside s text (stands_less p o e a) h = never_content h (ap is_content p)
last_outside s text (stands_bang p o e) h = never_content h (ap is_content p)
last_outside s text (stands_bang_dash p o e) h = never_content h (ap is_content p)
last_outside s text (stands_comment i p o e n q) h = never_content h (ap is_content p)
last_outside s text (stands_comment_dash i p o e n q) h = never_content h (ap is_content p)
last_outside s text (stands_comment_dashes i p o e n) h = never_content h (ap is_content p)
last_outside s text (stands_name p n none) h = never_content h (ap is_content p)
last_outside s text (stands_quoted p k g) h = never_content h (ap is_content p)
last_outside s text (stands_gap p k) h = never_content h (ap is_content p)
last_outside s text (stands_word p k n) h = never_content h (ap is_content p)
last_outside s text (stands_word_gap p k n bs) h = never_content h (ap is_content p)
last_outside s text (stands_equal p k) h = never_content h (ap is_content p)
last_outside s text (stands_value p k) h = never_content h (ap is_content p)
last_outside s text (stands_entity n letters p k a e) h = never_content h (ap is_content p)
last_outside s text (stands_last_question p d g bs e) h = never_content h (ap is_content p)
last_outside s text (stands_slash p o) h = never_content h (ap is_content p)
last_outside s text (stands_end_name done rest acts no_ k n e) h = never_content h no_
last_outside s text (stands_end_gap p k bs) h = never_content h (ap is_content p)

lies_whole : {text : List ℕ} {names : List (List ℕ)} {begun : Bool} {tags : List Tag} → Lies text names begun tags → (begun && is_nil names) ≡ true → IsUtf8 text → IsDocument text tags
lies_whole (before_all p) h valid = absurd cc
lies_whole (behind_one p e misc) h valid = the_document p e misc valid
lies_whole (inside_one {name = name} {names = names} l f s c) h valid = let no_ : true ≡ false = sym h ∙ some_names names name in absurd cc

-- ---- encoding

valid_up_to : (text : List ℕ) (n : ℕ) → length text ≤ valid_len_up_to text n → n ≤ length text → IsUtf8 text
valid_up_to text zero h most = none text h
  where
    none : (text : List ℕ) → length text ≤ 0 → IsUtf8 text
    none [] h = IsUtf8-nil
    none (b ∷ text) h = absurd (omega arith)
valid_up_to text (suc n) h most = by (is_utf8 (take (suc n) text)) refl h (λ more. valid_up_to text n more (omega arith))
  where
    by : (t : Bool) → is_utf8 (take (suc n) text) ≡ t → length text ≤ (if t then suc n else valid_len_up_to text n) → (length text ≤ valid_len_up_to text n → IsUtf8 text) → IsUtf8 text
    by true e more later =
        let whole : take (suc n) text ≡ text = take_all (suc n) text more in
        IsUtf8-from_is_utf8 text (ap is_utf8 (sym whole) ∙ e)
    by false e more later = later more

is_valid : (text : List ℕ) → length text ≤ utf8_valid_len text → IsUtf8 text
unfolding utf8_valid_len
is_valid text h = valid_up_to text (length text) h (omega arith)

-- ---- texts

record Ends (text : List ℕ) (s : State) : Type 0 where
  whole : is_whole s ≡ true
  valid : length text ≤ utf8_valid_len text

ends_by : (wrong whole : Bool) (size valid : ℕ) → (if wrong then Some (fault wrong_encoding valid) else (if whole then None else Some (fault spells_no_network size))) ≡ None → (wrong ≡ false) × (whole ≡ true)
ends_by true whole size valid e = absurd cc
ends_by false true size valid e = (refl, refl)
ends_by false false size valid e = absurd cc

spelled_by : (text : List ℕ) (tags : List Tag) (end : Ended) → reading text ≡ end → broken_of text ≡ None → tags_of text ≡ tags → IsDocument text tags
spelled_by text tags (ended s (Some (fault rule at))) e h t =
    let no_ : broken_in (length text) (utf8_valid_len text) (ended s (Some (fault rule at))) ≡ None = ap (broken_in (length text) (utf8_valid_len text)) (sym e) ∙ h in
    absurd cc
spelled_by text tags (ended s None) e h t =
    let last : at_end (length text) (utf8_valid_len text) s ≡ None = ap (broken_in (length text) (utf8_valid_len text)) (sym e) ∙ h in
    let parts = ends_by (nat_lt (utf8_valid_len text) (length text)) (is_whole s) (length text) (utf8_valid_len text) last in
    let whole = and_parts (is_content s.place) (s.begun && is_nil s.opened) parts.1 in
    let outside = last_outside s text (kept 0 fresh s [] text refl begins e) whole.0 in
    let same : s.tags ≡ tags = ap tags_read (sym e) ∙ t in
    subst (IsDocument text) same
    (lies_whole outside.lies whole.1 (is_valid text (ltb-false (utf8_valid_len text) (length text) parts.0)))

pub tags_are_spelled : TagsAreSpelled
tags_are_spelled text tags is = spelled_by text tags (reading text) refl is.whole is.spelled

pub tags_are_read : TagsAreRead
tags_are_read = document_read

pub spells_one_markup : SpellsOneMarkup
spells_one_markup text one other h k = sym (document_read text one h).spelled ∙ (document_read text other k).spelled
