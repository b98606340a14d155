-- What a production spells is read so.
use Rattle.std.proofs.Common.{◌≡◌, ℕ, ◌+◌, Bool, true, false, List, [], ◌∷◌, ◌++◌, length, refl, subst}
use Rattle.std.specs.Prelude.{◌==◌, ◌||◌, codes}
use Rattle.std.proofs.lemmas.Bool.{eq-eqb, not-true}
use Rattle.fnl_markup.specs.Bytes.{is_blank}
use Rattle.fnl_markup.specs.Tags.{Attribute, attribute, Tag}
use Rattle.fnl_markup.specs.State.{State, Going}
use Rattle.fnl_markup.specs.Step.{step}
use Rattle.fnl_grammar.proofs.Places.{Place, p_name, p_gap, p_word, p_word_gap, p_equal, p_value, p_quoted}
use Rattle.fnl_grammar.specs.Markup.{AreBlanks, no_blanks, one_blank_more, IsSpace, the_space, IsName, first_of_name, next_of_name, IsReference, less_than, greater_than, ampersand, quotation_mark, apostrophe, is_quote, stands_for_itself, IsQuoted, nothing_quoted, one_byte_more, one_reference_more, IsAttribute, the_attribute, AreAttributes, no_attributes, one_attribute_more}
use Rattle.fnl_grammar.proofs.Spans.{Reads, reads_more, reads_next, blank_cases, quote_cases, neither}

abbrev pub st : Place → ℕ → Bool → List ℕ → List Attribute → List ℕ → List ℕ → ℕ → List (List ℕ) → Bool → List Tag → State
st place start declares name attributes word value value_at opened begun tags = record {
  place = place;
  start = start;
  declares = declares;
  name = name;
  attributes = attributes;
  word = word;
  value = value;
  value_at = value_at;
  opened = opened;
  begun = begun;
  tags = tags;
}

-- a text is read, and its reader is at one of some places
pub record Is (P : Place → Type 0) (f : Place → State) (front : List ℕ) : Type 0 where
  pub place : Place
  pub is : P place
  pub reads : Reads front (f place)

pub is_at : (P : Place → Type 0) (f : Place → State) (front : List ℕ) (place : Place) → P place → Reads front (f place) → Is P f front
is_at P f front place p reads = record { place = place; is = p; reads = reads }

-- what a byte brings that may stand at these places
pub record Follows (P : Place → Type 0) (f : Place → State) (place : Place) (b : ℕ) : Type 0 where
  pub next : Place
  pub is : P next
  pub steps : (at : ℕ) → step at (f place) b ≡ Going (f next)

pub follows : (P : Place → Type 0) (f : Place → State) (place next : Place) (b : ℕ) → P next → ((at : ℕ) → step at (f place) b ≡ Going (f next)) → Follows P f place b
follows P f place next b p steps = record { next = next; is = p; steps = steps }

-- blanks that may stand at these places
abbrev pub TakesBlanks : (P : Place → Type 0) (f : Place → State) → Type 0
TakesBlanks P f = (place : Place) → P place → (b : ℕ) → is_blank b ≡ true → Follows P f place b

pub blank_read : {P : Place → Type 0} {f : Place → State} {front : List ℕ} → TakesBlanks P f → (b : ℕ) → is_blank b ≡ true → Is P f front → Is P f (front ++ b ∷ [])
blank_read {P} {f} {front} takes b blank h =
    let next = takes h.place h.is b blank in
    is_at P f (front ++ b ∷ []) next.next next.is (reads_next front (f h.place) (f next.next) b h.reads (next.steps (length front)))

pub blanks_read : {P : Place → Type 0} {f : Place → State} {from to : List ℕ} → TakesBlanks P f → AreBlanks from to → Is P f from → Is P f to
blanks_read takes no_blanks h = h
blanks_read takes (one_blank_more b bs blank) h = blank_read takes b blank (blanks_read takes bs h)

-- ---- names and values of attributes

-- what is read of a tag: where it begins, what it declares, its name and attributes, and what stands round it
pub record Tagged : Type 0 where
  pub start : ℕ
  pub declares : Bool
  pub name : List ℕ
  pub opened : List (List ℕ)
  pub begun : Bool
  pub tags : List Tag

abbrev pub tag_at : Tagged → List Attribute → Place → List ℕ → List ℕ → ℕ → State
tag_at t attributes place word value value_at = st place t.start t.declares t.name attributes word value value_at t.opened t.begun t.tags

pub word_read : (t : Tagged) (attributes : List Attribute) (word value : List ℕ) (value_at : ℕ) {from to name : List ℕ} → IsName from to name
    → Reads from (tag_at t attributes p_gap word value value_at) → Reads to (tag_at t attributes p_word name value value_at)
word_read t attributes word value value_at {from} (first_of_name b first) h =
    reads_next from _ (tag_at t attributes p_word (b ∷ []) value value_at) b h (rw first refl)
word_read t attributes word value value_at (next_of_name {to = to} {name = name} b before goes_) h =
    reads_next to _ (tag_at t attributes p_word (name ++ b ∷ []) value value_at) b (word_read t attributes word value value_at before h) (rw goes_ refl)

pub data IsWord : Place → Type 0 where
  at_word : IsWord p_word
  at_word_gap : IsWord p_word_gap

pub word_blanks : (t : Tagged) (attributes : List Attribute) (word value : List ℕ) (value_at : ℕ) → TakesBlanks IsWord (λ p. tag_at t attributes p word value value_at)
word_blanks t attributes word value value_at _ at_word b blank =
    blank_cases (λ c. Follows IsWord (λ p. tag_at t attributes p word value value_at) p_word c)
    (follows _ _ _ _ _ at_word_gap (λ at. refl)) (follows _ _ _ _ _ at_word_gap (λ at. refl)) (follows _ _ _ _ _ at_word_gap (λ at. refl)) (follows _ _ _ _ _ at_word_gap (λ at. refl)) b blank
word_blanks t attributes word value value_at _ at_word_gap b blank = follows _ _ _ _ _ at_word_gap (λ at. rw blank refl)

pub data IsEqual : Place → Type 0 where
  at_equal : IsEqual p_equal

pub equal_blanks : (t : Tagged) (attributes : List Attribute) (word value : List ℕ) (value_at : ℕ) → TakesBlanks IsEqual (λ p. tag_at t attributes p word value value_at)
equal_blanks t attributes word value value_at _ at_equal b blank = follows _ _ _ _ _ at_equal (λ at. rw blank refl)

pub equal_read : (t : Tagged) (attributes : List Attribute) (word value : List ℕ) (value_at : ℕ) (front : List ℕ) → Is IsWord (λ p. tag_at t attributes p word value value_at) front
    → Is IsEqual (λ p. tag_at t attributes p word value value_at) (front ++ codes "=")
equal_read t attributes word value value_at front h = is_at _ _ _ p_equal at_equal (by h.place h.is h.reads)
  where
    by : (p : Place) → IsWord p → Reads front (tag_at t attributes p word value value_at) → Reads (front ++ codes "=") (tag_at t attributes p_equal word value value_at)
    by _ at_word r = reads_more front _ _ (codes "=") r refl
    by _ at_word_gap r = reads_more front _ _ (codes "=") r refl

pub quote_read : (t : Tagged) (attributes : List Attribute) (word value : List ℕ) (value_at quote : ℕ) (front : List ℕ) → is_quote quote ≡ true → Is IsEqual (λ p. tag_at t attributes p word value value_at) front
    → Reads (front ++ quote ∷ []) (tag_at t attributes (p_value quote) word [] (length front + 1))
quote_read t attributes word value value_at quote front q h = by h.place h.is h.reads
  where
    no_blank : (b : ℕ) → is_quote b ≡ true → is_blank b ≡ false
    no_blank b e = cases (is_blank b) refl
      where
        cases : (u : Bool) → is_blank b ≡ u → is_blank b ≡ false
        cases true same = blank_cases (λ c. is_quote c ≡ true → is_blank c ≡ false) (λ h. absurd cc) (λ h. absurd cc) (λ h. absurd cc) (λ h. absurd cc) b same e
        cases false same = same

    by : (p : Place) → IsEqual p → Reads front (tag_at t attributes p word value value_at) → Reads (front ++ quote ∷ []) (tag_at t attributes (p_value quote) word [] (length front + 1))
    by _ at_equal r = reads_next front _ _ quote r (rw (no_blank quote q, q) refl)

-- a byte that stands for itself in a value is taken so
pub plain_steps : (t : Tagged) (attributes : List Attribute) (word value : List ℕ) (value_at quote b at : ℕ) → stands_for_itself quote b ≡ true
    → step at (tag_at t attributes (p_value quote) word value value_at) b ≡ Going (tag_at t attributes (p_value quote) word (value ++ b ∷ []) value_at)
plain_steps t attributes word value value_at quote b at h =
    let first = neither (b == quote) ((b == 38) || (b == 60)) (not-true ((b == quote) || ((b == 38) || (b == 60))) h) in
    let second = neither (b == 38) (b == 60) first.1 in
    rw (first.0, second.0, second.1) refl

pub reference_read : (t : Tagged) (attributes : List Attribute) (word value : List ℕ) (value_at quote character : ℕ) {from to : List ℕ} → is_quote quote ≡ true → IsReference from to character
    → Reads from (tag_at t attributes (p_value quote) word value value_at) → Reads to (tag_at t attributes (p_value quote) word (value ++ character ∷ []) value_at)
reference_read t attributes word value value_at quote character {from} {to} q e = quote_cases (λ q. Reads from (tag_at t attributes (p_value q) word value value_at) → Reads to (tag_at t attributes (p_value q) word (value ++ character ∷ []) value_at)) (λ h. by_34 e h) (λ h. by_39 e h) quote q
  where
    by_34 : {character : ℕ} {from to : List ℕ} → IsReference from to character → Reads from (tag_at t attributes (p_value 34) word value value_at) → Reads to (tag_at t attributes (p_value 34) word (value ++ character ∷ []) value_at)
    by_34 {from = from} less_than h = reads_more from _ _ (codes "&lt;") h refl
    by_34 {from = from} greater_than h = reads_more from _ _ (codes "&gt;") h refl
    by_34 {from = from} ampersand h = reads_more from _ _ (codes "&amp;") h refl
    by_34 {from = from} quotation_mark h = reads_more from _ _ (codes "&quot;") h refl
    by_34 {from = from} apostrophe h = reads_more from _ _ (codes "&apos;") h refl

    by_39 : {character : ℕ} {from to : List ℕ} → IsReference from to character → Reads from (tag_at t attributes (p_value 39) word value value_at) → Reads to (tag_at t attributes (p_value 39) word (value ++ character ∷ []) value_at)
    by_39 {from = from} less_than h = reads_more from _ _ (codes "&lt;") h refl
    by_39 {from = from} greater_than h = reads_more from _ _ (codes "&gt;") h refl
    by_39 {from = from} ampersand h = reads_more from _ _ (codes "&amp;") h refl
    by_39 {from = from} quotation_mark h = reads_more from _ _ (codes "&quot;") h refl
    by_39 {from = from} apostrophe h = reads_more from _ _ (codes "&apos;") h refl

pub quoted_read : (t : Tagged) (attributes : List Attribute) (word : List ℕ) (value_at quote : ℕ) {from to value : List ℕ} → is_quote quote ≡ true → IsQuoted quote from to value
    → Reads from (tag_at t attributes (p_value quote) word [] value_at) → Reads to (tag_at t attributes (p_value quote) word value value_at)
quoted_read t attributes word value_at quote q nothing_quoted h = h
quoted_read t attributes word value_at quote q (one_byte_more {to = to} {value = value} b more stands) h =
    reads_next to _ _ b (quoted_read t attributes word value_at quote q more h) (plain_steps t attributes word value value_at quote b (length to) stands)
quoted_read t attributes word value_at quote q (one_reference_more {value = value} {character = character} more e) h =
    reference_read t attributes word value value_at quote character q e (quoted_read t attributes word value_at quote q more h)

pub itself : (b : ℕ) → (b == b) ≡ true
itself b = eq-eqb b b refl

-- behind a name or a value, which a blank or the tag's end may follow
pub data IsBehind : Place → Type 0 where
  behind_name : IsBehind p_name
  behind_value : IsBehind p_quoted

-- and behind blanks
pub data IsEnding : Place → Type 0 where
  behind_all : {p : Place} → IsBehind p → IsEnding p
  behind_blank : IsEnding p_gap

-- what is read of a tag, up to one of some places
pub record AtTag (t : Tagged) (attributes : List Attribute) (P : Place → Type 0) (front : List ℕ) : Type 0 where
  pub word : List ℕ
  pub value : List ℕ
  pub value_at : ℕ
  pub here : Is P (λ p. tag_at t attributes p word value value_at) front

pub at_tag : (t : Tagged) (attributes : List Attribute) (P : Place → Type 0) (front word value : List ℕ) (value_at : ℕ) (place : Place) → P place
    → Reads front (tag_at t attributes place word value value_at) → AtTag t attributes P front
at_tag t attributes P front word value value_at place p h = record { word = word; value = value; value_at = value_at; here = record { place = place; is = p; reads = h } }

pub attribute_read : (t : Tagged) (attributes : List Attribute) (word value : List ℕ) (value_at : ℕ) {from to : List ℕ} {last : Attribute} → IsAttribute from to last
    → Reads from (tag_at t attributes p_gap word value value_at) → AtTag t (attributes ++ last ∷ []) IsBehind to
attribute_read t attributes word value value_at (the_attribute {a = a} {b = b} {c = c} {d = d} {name = name} {value = text} {quote = quote} n left right q inside) h =
    let named = word_read t attributes word value value_at n h in
    let gap = blanks_read (word_blanks t attributes name value value_at) left (is_at IsWord (λ p. tag_at t attributes p name value value_at) a p_word at_word named) in
    let equal = blanks_read (equal_blanks t attributes name value value_at) right (equal_read t attributes name value value_at b gap) in
    let opens_ = quote_read t attributes name value value_at quote c q equal in
    let text_ = quoted_read t attributes name (length c + 1) quote q inside opens_ in
    at_tag t _ IsBehind _ [] [] (length c + 1) p_quoted behind_value
    (reads_next d _ (tag_at t (attributes ++ attribute name text (length c + 1) ∷ []) p_quoted [] [] (length c + 1)) quote text_ (rw (itself quote) refl))

pub ending_blanks : (t : Tagged) (attributes : List Attribute) (word value : List ℕ) (value_at : ℕ) → TakesBlanks IsEnding (λ p. tag_at t attributes p word value value_at)
ending_blanks t attributes word value value_at _ (behind_all behind_name) b blank =
    blank_cases (λ c. Follows IsEnding (λ p. tag_at t attributes p word value value_at) p_name c)
    (follows _ _ _ _ _ behind_blank (λ at. refl)) (follows _ _ _ _ _ behind_blank (λ at. refl)) (follows _ _ _ _ _ behind_blank (λ at. refl)) (follows _ _ _ _ _ behind_blank (λ at. refl)) b blank
ending_blanks t attributes word value value_at _ (behind_all behind_value) b blank =
    blank_cases (λ c. Follows IsEnding (λ p. tag_at t attributes p word value value_at) p_quoted c)
    (follows _ _ _ _ _ behind_blank (λ at. refl)) (follows _ _ _ _ _ behind_blank (λ at. refl)) (follows _ _ _ _ _ behind_blank (λ at. refl)) (follows _ _ _ _ _ behind_blank (λ at. refl)) b blank
ending_blanks t attributes word value value_at _ behind_blank b blank =
    blank_cases (λ c. Follows IsEnding (λ p. tag_at t attributes p word value value_at) p_gap c)
    (follows _ _ _ _ _ behind_blank (λ at. refl)) (follows _ _ _ _ _ behind_blank (λ at. refl)) (follows _ _ _ _ _ behind_blank (λ at. refl)) (follows _ _ _ _ _ behind_blank (λ at. refl)) b blank

pub ending : {t : Tagged} {attributes : List Attribute} {from to : List ℕ} → AreBlanks from to → AtTag t attributes IsBehind from → AtTag t attributes IsEnding to
ending {t} {attributes} {from} bs h = record {
  word = h.word;
  value = h.value;
  value_at = h.value_at;
  here = blanks_read (ending_blanks t attributes h.word h.value h.value_at) bs
      (is_at IsEnding (λ p. tag_at t attributes p h.word h.value h.value_at) from h.here.place (behind_all h.here.is) h.here.reads);
}

-- blanks before an attribute
pub space_read : {t : Tagged} {attributes : List Attribute} {from to : List ℕ} → IsSpace from to → AtTag t attributes IsBehind from → AtTag t attributes (λ p. p ≡ p_gap) to
space_read {t} {attributes} {from} {to} (the_space {to = before} b bs blank) h = by (ending bs h)
  where
    by : AtTag t attributes IsEnding before → AtTag t attributes (λ p. p ≡ p_gap) (before ++ b ∷ [])
    by k =
        let go : (p : Place) → IsEnding p → (at : ℕ) → step at (tag_at t attributes p k.word k.value k.value_at) b ≡ Going (tag_at t attributes p_gap k.word k.value k.value_at) = gap_steps k.word k.value k.value_at in
        at_tag t attributes _ _ k.word k.value k.value_at p_gap refl (reads_next before _ _ b k.here.reads (go k.here.place k.here.is (length before)))
      where
        gap_steps : (word value : List ℕ) (value_at : ℕ) (p : Place) → IsEnding p → (at : ℕ) → step at (tag_at t attributes p word value value_at) b ≡ Going (tag_at t attributes p_gap word value value_at)
        gap_steps word value value_at _ (behind_all behind_name) at = blank_cases (λ c. step at (tag_at t attributes p_name word value value_at) c ≡ Going (tag_at t attributes p_gap word value value_at)) refl refl refl refl b blank
        gap_steps word value value_at _ (behind_all behind_value) at = blank_cases (λ c. step at (tag_at t attributes p_quoted word value value_at) c ≡ Going (tag_at t attributes p_gap word value value_at)) refl refl refl refl b blank
        gap_steps word value value_at _ behind_blank at = blank_cases (λ c. step at (tag_at t attributes p_gap word value value_at) c ≡ Going (tag_at t attributes p_gap word value value_at)) refl refl refl refl b blank

pub attributes_read : {t : Tagged} {from to : List ℕ} {attributes : List Attribute} → AreAttributes from to attributes → AtTag t [] IsBehind from → AtTag t attributes IsBehind to
attributes_read no_attributes h = h
attributes_read {t} (one_attribute_more {b = b} {attributes = attributes} more space a) h =
    let gap = space_read space (attributes_read more h) in
    attribute_read t attributes gap.word gap.value gap.value_at a
    (subst (λ p. Reads b (tag_at t attributes p gap.word gap.value gap.value_at)) gap.here.is gap.here.reads)
