-- What stands between tags is read as it is spelled.
use Rattle.std.proofs.Common.{◌≡◌, ℕ, ◌+◌, Bool, true, false, List, [], ◌∷◌, ◌++◌, length, None, refl, sym, ap, subst, ◌∙◌, arith, append_assoc, append-nil, length-append}
use Rattle.std.specs.Prelude.{◌==◌, ◌&&◌, nat_lt, slice_index, codes, IsUtf8}
use Rattle.std.specs.List.{list_all}
use Rattle.std.specs.Str.Lossy.{utf8_valid_len}
use Rattle.std.proofs.Math.Seq.{append_snoc}
use Rattle.std.proofs.lemmas.Str.{utf8_valid_len-IsUtf8}
use Rattle.std.proofs.lemmas.Bool.{eqb-true, eq-eqb, le-ltb, lt-ltb}
use Rattle.fnl_markup.specs.Bytes.{begins_name}
use Rattle.fnl_markup.specs.Tags.{Attribute, Tag, opens, closes}
use Rattle.fnl_markup.specs.State.{State, Going}
use Rattle.fnl_markup.specs.Step.{step, step_at, end_name, encodes, last_name, other_names, is_nil}
use Rattle.fnl_markup.specs.Markup.{ended, broken_in, tags_read, IsMarkup}
use Rattle.fnl_grammar.proofs.Places.{Place, place_in, p_start, p_marked, p_first_less, p_content, p_less, p_comment, p_comment_dash, p_comment_dashes, p_name, p_quoted, p_end_name, p_end_gap}
use Rattle.fnl_grammar.specs.Markup.{AreBlanks, IsSpace, the_space, IsName, first_of_name, next_of_name, HoldsNoEnd, IsComment, the_comment, AreMisc, no_misc, one_comment_more, more_space, AreAttributes, the_start_tag, IsEndTag, the_end_tag, IsElement, an_empty_element, an_element, IsContent, no_content, one_element_more, more_misc, MayBeMark, no_mark, the_mark, says_utf8, MayBeDeclaration, no_declaration, the_declaration, the_prolog, IsDocument, the_document}
use Rattle.fnl_grammar.proofs.Spans.{Reads, reads_more, reads_next, blank_cases, other_byte}
use Rattle.fnl_grammar.proofs.ReadsMarkup.{st, Is, is_at, Follows, follows, TakesBlanks, blanks_read, blank_read, Tagged, tag_at, AtTag, at_tag, IsBehind, behind_name, behind_value, IsEnding, behind_all, behind_blank, ending, attributes_read}

-- ---- names of elements that are open

pub last_added : (names : List (List ℕ)) (name : List ℕ) → last_name (names ++ name ∷ []) ≡ name
last_added [] name = refl
last_added (n ∷ []) name = refl
last_added (n ∷ m ∷ names) name = last_added (m ∷ names) name

pub others_kept : (names : List (List ℕ)) (name : List ℕ) → other_names (names ++ name ∷ []) ≡ names
others_kept [] name = refl
others_kept (n ∷ []) name = refl
others_kept (n ∷ m ∷ names) name = ap (λ rest. n ∷ rest) (others_kept (m ∷ names) name)

pub some_names : (names : List (List ℕ)) (name : List ℕ) → is_nil (names ++ name ∷ []) ≡ false
some_names [] name = refl
some_names (n ∷ names) name = refl

-- ---- between tags

-- where a tag may begin
pub data IsBetween : Place → Bool → Type 0 where
  at_start : IsBetween p_start false
  at_marked : IsBetween p_marked false
  at_content : {begun : Bool} → IsBetween p_content begun

-- what is read between tags
pub record Between (front : List ℕ) (opened : List (List ℕ)) (begun : Bool) (tags : List Tag) : Type 0 where
  pub start : ℕ
  pub name : List ℕ
  pub word : List ℕ
  pub value : List ℕ
  pub value_at : ℕ
  pub here : Is (λ p. IsBetween p begun) (λ p. st p start false name [] word value value_at opened begun tags) front

between : (front : List ℕ) (opened : List (List ℕ)) (begun : Bool) (tags : List Tag) (start : ℕ) (name word value : List ℕ) (value_at : ℕ) (place : Place) → IsBetween place begun
    → Reads front (st place start false name [] word value value_at opened begun tags) → Between front opened begun tags
between front opened begun tags start name word value value_at place p h =
    record { start = start; name = name; word = word; value = value; value_at = value_at; here = record { place = place; is = p; reads = h } }

between_blanks : (start : ℕ) (name word value : List ℕ) (value_at : ℕ) (opened : List (List ℕ)) (begun : Bool) (tags : List Tag)
    → TakesBlanks (λ p. IsBetween p begun) (λ p. st p start false name [] word value value_at opened begun tags)
between_blanks start name word value value_at opened begun tags place p b blank =
    blank_cases (λ c. Follows (λ p. IsBetween p begun) (λ p. st p start false name [] word value value_at opened begun tags) place c)
    (follows _ _ _ _ _ at_content (λ at. by_32 place p at)) (follows _ _ _ _ _ at_content (λ at. by_9 place p at)) (follows _ _ _ _ _ at_content (λ at. by_13 place p at)) (follows _ _ _ _ _ at_content (λ at. by_10 place p at)) b blank
  where
    f : Place → State
    f p = st p start false name [] word value value_at opened begun tags

    by_32 : {begun : Bool} (p : Place) → IsBetween p begun → (at : ℕ) → step at (st p start false name [] word value value_at opened begun tags) 32 ≡ Going (st p_content start false name [] word value value_at opened begun tags)
    by_32 _ at_start at = refl
    by_32 _ at_marked at = refl
    by_32 _ at_content at = refl

    by_9 : {begun : Bool} (p : Place) → IsBetween p begun → (at : ℕ) → step at (st p start false name [] word value value_at opened begun tags) 9 ≡ Going (st p_content start false name [] word value value_at opened begun tags)
    by_9 _ at_start at = refl
    by_9 _ at_marked at = refl
    by_9 _ at_content at = refl

    by_13 : {begun : Bool} (p : Place) → IsBetween p begun → (at : ℕ) → step at (st p start false name [] word value value_at opened begun tags) 13 ≡ Going (st p_content start false name [] word value value_at opened begun tags)
    by_13 _ at_start at = refl
    by_13 _ at_marked at = refl
    by_13 _ at_content at = refl

    by_10 : {begun : Bool} (p : Place) → IsBetween p begun → (at : ℕ) → step at (st p start false name [] word value value_at opened begun tags) 10 ≡ Going (st p_content start false name [] word value value_at opened begun tags)
    by_10 _ at_start at = refl
    by_10 _ at_marked at = refl
    by_10 _ at_content at = refl

space_between : {from to : List ℕ} {opened : List (List ℕ)} {begun : Bool} {tags : List Tag} → IsSpace from to → Between from opened begun tags → Between to opened begun tags
space_between {opened = opened} {begun = begun} {tags = tags} (the_space b bs blank) h = record {
  start = h.start;
  name = h.name;
  word = h.word;
  value = h.value;
  value_at = h.value_at;
  here = blank_read (between_blanks h.start h.name h.word h.value h.value_at opened begun tags) b blank
      (blanks_read (between_blanks h.start h.name h.word h.value h.value_at opened begun tags) bs h.here);
}

-- ---- comments

-- how a comment that is read so far ends
pub data Trails : Place → List ℕ → Type 0 where
  any_trails : {inside : List ℕ} → Trails p_comment inside
  dash_trails : (before : List ℕ) → Trails p_comment_dash (before ++ 45 ∷ [])
  dashes_trail : (before : List ℕ) → Trails p_comment_dashes (before ++ 45 ∷ 45 ∷ [])

-- a comment, read so far
pub record InComment (f : Place → State) (from inside : List ℕ) : Type 0 where
  pub place : Place
  pub trails : Trails place inside
  pub reads : Reads (from ++ inside) (f place)

in_comment : (f : Place → State) (from inside : List ℕ) (place : Place) → Trails place inside → Reads (from ++ inside) (f place) → InComment f from inside
in_comment f from inside place t h = record { place = place; trails = t; reads = h }

-- one byte more of a comment that doesn't end there
byte_of_comment : (t : Tagged) (word value : List ℕ) (value_at : ℕ) (from rest : List ℕ) (b : ℕ) (place : Place) (inside : List ℕ) → Trails place inside
    → HoldsNoEnd (inside ++ b ∷ rest) → Reads (from ++ inside) (tag_at t [] place word value value_at)
    → InComment (λ p. tag_at t [] p word value value_at) from (inside ++ b ∷ [])
byte_of_comment t word value value_at from rest b place inside = by place inside
  where
    f : Place → State
    f p = tag_at t [] p word value value_at

    longer_ : (inside : List ℕ) (p q : Place) → Reads (from ++ inside) (f p) → ((at : ℕ) → step at (f p) b ≡ Going (f q)) → Reads (from ++ (inside ++ b ∷ [])) (f q)
    longer_ inside p q r s = subst (λ xs. Reads xs (f q)) (append_assoc from inside (b ∷ [])) (reads_next (from ++ inside) (f p) (f q) b r (s (length (from ++ inside))))

    first : (inside : List ℕ) (u : Bool) → (b == 45) ≡ u → Reads (from ++ inside) (f p_comment) → InComment f from (inside ++ b ∷ [])
    first inside true e r = in_comment f from (inside ++ b ∷ []) p_comment_dash (subst (λ c. Trails p_comment_dash (inside ++ c ∷ [])) (sym (eqb-true b 45 e)) (dash_trails inside)) (longer_ inside p_comment p_comment_dash r (λ at. rw e refl))
    first inside false e r = in_comment f from (inside ++ b ∷ []) p_comment any_trails (longer_ inside p_comment p_comment r (λ at. rw e refl))

    second : (before : List ℕ) (u : Bool) → (b == 45) ≡ u → Reads (from ++ (before ++ 45 ∷ [])) (f p_comment_dash) → InComment f from ((before ++ 45 ∷ []) ++ b ∷ [])
    second before true e r =
        in_comment f from ((before ++ 45 ∷ []) ++ b ∷ []) p_comment_dashes
        (subst (λ c. Trails p_comment_dashes ((before ++ 45 ∷ []) ++ c ∷ [])) (sym (eqb-true b 45 e)) (subst (Trails p_comment_dashes) (sym (append_snoc before 45 (45 ∷ []))) (dashes_trail before)))
        (longer_ (before ++ 45 ∷ []) p_comment_dash p_comment_dashes r (λ at. rw e refl))
    second before false e r = in_comment f from ((before ++ 45 ∷ []) ++ b ∷ []) p_comment any_trails (longer_ (before ++ 45 ∷ []) p_comment_dash p_comment r (λ at. rw e refl))

    third_dash : (before : List ℕ) → Trails p_comment_dashes ((before ++ 45 ∷ 45 ∷ []) ++ 45 ∷ [])
    third_dash before =
        subst (Trails p_comment_dashes) (append_assoc before (45 ∷ []) (45 ∷ 45 ∷ []) ∙ sym (append_assoc before (45 ∷ 45 ∷ []) (45 ∷ []))) (dashes_trail (before ++ 45 ∷ []))

    third : (before : List ℕ) (u v : Bool) → (b == 62) ≡ u → (b == 45) ≡ v → HoldsNoEnd ((before ++ 45 ∷ 45 ∷ []) ++ b ∷ rest) → Reads (from ++ (before ++ 45 ∷ 45 ∷ [])) (f p_comment_dashes) → InComment f from ((before ++ 45 ∷ 45 ∷ []) ++ b ∷ [])
    third before true v e e1 none r =
        let ends_ : (before ++ 45 ∷ 45 ∷ []) ++ b ∷ rest ≡ (before ++ codes "-->") ++ rest =
        ap (λ c. (before ++ 45 ∷ 45 ∷ []) ++ c ∷ rest) (eqb-true b 62 e) ∙ append_assoc before (45 ∷ 45 ∷ []) (62 ∷ rest) ∙ sym (append_assoc before (45 ∷ 45 ∷ 62 ∷ []) rest) in
        absurd (none before rest ends_)
    third before false true e e1 none r =
        in_comment f from ((before ++ 45 ∷ 45 ∷ []) ++ b ∷ []) p_comment_dashes (subst (λ c. Trails p_comment_dashes ((before ++ 45 ∷ 45 ∷ []) ++ c ∷ [])) (sym (eqb-true b 45 e1)) (third_dash before)) (longer_ (before ++ 45 ∷ 45 ∷ []) p_comment_dashes p_comment_dashes r (λ at. rw (e, e1) refl))
    third before false false e e1 none r =
        in_comment f from ((before ++ 45 ∷ 45 ∷ []) ++ b ∷ []) p_comment any_trails (longer_ (before ++ 45 ∷ 45 ∷ []) p_comment_dashes p_comment r (λ at. rw (e, e1) refl))

    by : (p : Place) (inside : List ℕ) → Trails p inside → HoldsNoEnd (inside ++ b ∷ rest) → Reads (from ++ inside) (f p) → InComment f from (inside ++ b ∷ [])
    by _ inside any_trails none r = first inside (b == 45) refl r
    by _ inside (dash_trails before) none r = second before (b == 45) refl r
    by _ inside (dashes_trail before) none r = third before (b == 62) (b == 45) refl refl none r

bytes_of_comment : (t : Tagged) (word value : List ℕ) (value_at : ℕ) (from rest inside : List ℕ) → HoldsNoEnd (inside ++ rest)
    → InComment (λ p. tag_at t [] p word value value_at) from inside → InComment (λ p. tag_at t [] p word value value_at) from (inside ++ rest)
bytes_of_comment t word value value_at from [] inside none h = subst (InComment (λ p. tag_at t [] p word value value_at) from) (sym (append-nil inside)) h
bytes_of_comment t word value value_at from (b ∷ rest) inside none h =
    let moved = append_snoc inside b rest in
    subst (InComment (λ p. tag_at t [] p word value value_at) from) moved
    (bytes_of_comment t word value value_at from rest (inside ++ b ∷ []) (subst HoldsNoEnd (sym moved) none)
    (byte_of_comment t word value value_at from rest b h.place inside h.trails none h.reads))

comment_ends : (t : Tagged) (word value : List ℕ) (value_at : ℕ) (from inside : List ℕ) → InComment (λ p. tag_at t [] p word value value_at) from inside
    → Reads (from ++ inside ++ codes "-->") (tag_at t [] p_content word value value_at)
comment_ends t word value value_at from inside h = by h.place inside h.trails h.reads
  where
    by : (p : Place) (inside : List ℕ) → Trails p inside → Reads (from ++ inside) (tag_at t [] p word value value_at) → Reads (from ++ inside ++ codes "-->") (tag_at t [] p_content word value value_at)
    by _ inside any_trails r = reads_more (from ++ inside) _ _ (codes "-->") r refl
    by _ inside (dash_trails before) r = reads_more (from ++ (before ++ 45 ∷ [])) _ _ (codes "-->") r refl
    by _ inside (dashes_trail before) r = reads_more (from ++ (before ++ 45 ∷ 45 ∷ [])) _ _ (codes "-->") r refl

comment_between : {from to : List ℕ} {opened : List (List ℕ)} {begun : Bool} {tags : List Tag} → IsComment from to → Between from opened begun tags → Between to opened begun tags
comment_between {opened = opened} {begun = begun} {tags = tags} (the_comment {from = from} inside none) h =
    let t : Tagged = record { start = length from; declares = false; name = h.name; opened = opened; begun = begun; tags = tags } in
    let first : Reads (from ++ codes "<!--") (tag_at t [] p_comment h.word h.value h.value_at) = by h.here.place h.here.is h.here.reads in
    between (from ++ codes "<!--" ++ inside ++ codes "-->") opened begun tags (length from) h.name h.word h.value h.value_at p_content at_content
    (comment_ends t h.word h.value h.value_at (from ++ codes "<!--") inside
    (bytes_of_comment t h.word h.value h.value_at (from ++ codes "<!--") inside [] none
    (in_comment (λ p. tag_at t [] p h.word h.value h.value_at) (from ++ codes "<!--") [] p_comment any_trails
    (subst (λ xs. Reads xs (tag_at t [] p_comment h.word h.value h.value_at)) (sym (append-nil (from ++ codes "<!--"))) first))))
  where
    by : {begun : Bool} (p : Place) → IsBetween p begun → Reads from (st p h.start false h.name [] h.word h.value h.value_at opened begun tags)
        → Reads (from ++ codes "<!--") (st p_comment (length from) false h.name [] h.word h.value h.value_at opened begun tags)
    by _ at_start r = reads_more from _ _ (codes "<!--") r refl
    by _ at_marked r = reads_more from _ _ (codes "<!--") r refl
    by _ at_content r = reads_more from _ _ (codes "<!--") r refl

misc_between : {from to : List ℕ} {opened : List (List ℕ)} {begun : Bool} {tags : List Tag} → AreMisc from to → Between from opened begun tags → Between to opened begun tags
misc_between no_misc h = h
misc_between (one_comment_more more c) h = comment_between c (misc_between more h)
misc_between (more_space more s) h = space_between s (misc_between more h)

-- ---- tags

-- the `<` of a tag
pub data IsLess : Place → Type 0 where
  at_first_less : IsLess p_first_less
  at_less : IsLess p_less

less_read : (start : ℕ) (name word value : List ℕ) (value_at : ℕ) (opened : List (List ℕ)) (tags : List Tag) {begun : Bool} (front : List ℕ) (p : Place) → IsBetween p begun
    → Reads front (st p start false name [] word value value_at opened begun tags)
    → Is IsLess (λ p. st p (length front) false name [] word value value_at opened begun tags) (front ++ codes "<")
less_read start name word value value_at opened tags front _ at_start r = is_at _ _ _ p_first_less at_first_less (reads_more front _ _ (codes "<") r refl)
less_read start name word value value_at opened tags front _ at_marked r = is_at _ _ _ p_first_less at_first_less (reads_more front _ _ (codes "<") r refl)
less_read start name word value value_at opened tags front _ at_content r = is_at _ _ _ p_less at_less (reads_more front _ _ (codes "<") r refl)

name_begins : (start : ℕ) (name word value : List ℕ) (value_at : ℕ) (opened : List (List ℕ)) (begun : Bool) (tags : List Tag) (p : Place) (b at : ℕ) → IsLess p → begins_name b ≡ true → (begun && is_nil opened) ≡ false
    → step at (st p start false name [] word value value_at opened begun tags) b ≡ Going (st p_name start false (b ∷ []) [] word value value_at opened true tags)
name_begins start name word value value_at opened begun tags p b at is begins free = by p is (other_byte begins_name b 63 begins refl) (other_byte begins_name b 33 begins refl) (other_byte begins_name b 47 begins refl)
  where
    by : (p : Place) → IsLess p → (b == 63) ≡ false → (b == 33) ≡ false → (b == 47) ≡ false → step at (st p start false name [] word value value_at opened begun tags) b ≡ Going (st p_name start false (b ∷ []) [] word value value_at opened true tags)
    by _ at_first_less e1 e2 e3 = rw (e1, e2, e3, begins, free) refl
    by _ at_less e1 e2 e3 = rw (e2, e3, begins, free) refl

name_read : (start : ℕ) (name word value : List ℕ) (value_at : ℕ) (opened : List (List ℕ)) (begun : Bool) (tags : List Tag) → (begun && is_nil opened) ≡ false → {from to text : List ℕ} → IsName from to text
    → Is IsLess (λ p. st p start false name [] word value value_at opened begun tags) from
    → Reads to (st p_name start false text [] word value value_at opened true tags)
name_read start name word value value_at opened begun tags free {from = from} (first_of_name b first) h =
    reads_next from _ _ b h.reads (name_begins start name word value value_at opened begun tags h.place b (length from) h.is first free)
name_read start name word value value_at opened begun tags free (next_of_name {to = to} {name = text} b more goes_) h =
    reads_next to _ (st p_name start false (text ++ b ∷ []) [] word value value_at opened true tags) b (name_read start name word value value_at opened begun tags free more h) (rw goes_ refl)

-- a tag up to its end, which is `>` or `/>`
start_read : {from a b c name : List ℕ} {attributes : List Attribute} {opened : List (List ℕ)} {begun : Bool} {tags : List Tag} → (begun && is_nil opened) ≡ false → Between from opened begun tags
    → IsName (from ++ codes "<") a name → AreAttributes a b attributes → AreBlanks b c
    → AtTag (record { start = length from; declares = false; name = name; opened = opened; begun = true; tags = tags }) attributes IsEnding c
start_read {from} {a} {b} {c} {name} {attributes} {opened} {begun} {tags} free h n given bs =
    let less = less_read h.start h.name h.word h.value h.value_at opened tags from h.here.place h.here.is h.here.reads in
    let named = name_read (length from) h.name h.word h.value h.value_at opened begun tags free n less in
    ending bs (attributes_read given (at_tag (record { start = length from; declares = false; name = name; opened = opened; begun = true; tags = tags }) [] IsBehind a h.word h.value h.value_at p_name behind_name named))

start_ends : {front : List ℕ} {start : ℕ} {name : List ℕ} {attributes : List Attribute} {opened : List (List ℕ)} {tags : List Tag}
    → AtTag (record { start = start; declares = false; name = name; opened = opened; begun = true; tags = tags }) attributes IsEnding front
    → Between (front ++ codes ">") (opened ++ name ∷ []) true (tags ++ opens name attributes start ∷ [])
start_ends {front} {start} {name} {attributes} {opened} {tags} h = between _ _ _ _ start [] h.word h.value h.value_at p_content at_content (by h.here.place h.here.is h.here.reads)
  where
    by : (p : Place) → IsEnding p → Reads front (st p start false name attributes h.word h.value h.value_at opened true tags)
        → Reads (front ++ codes ">") (st p_content start false [] [] h.word h.value h.value_at (opened ++ name ∷ []) true (tags ++ opens name attributes start ∷ []))
    by _ (behind_all behind_name) r = reads_more front _ _ (codes ">") r refl
    by _ (behind_all behind_value) r = reads_more front _ _ (codes ">") r refl
    by _ behind_blank r = reads_more front _ _ (codes ">") r refl

pub empty_ends : {front : List ℕ} {start : ℕ} {name : List ℕ} {attributes : List Attribute} {opened : List (List ℕ)} {tags : List Tag}
    → AtTag (record { start = start; declares = false; name = name; opened = opened; begun = true; tags = tags }) attributes IsEnding front
    → Between (front ++ codes "/>") opened true (tags ++ opens name attributes start ∷ closes (length front) ∷ [])
empty_ends {front} {start} {name} {attributes} {opened} {tags} h =
    subst (Between (front ++ codes "/>") opened true) (append_snoc tags (opens name attributes start) (closes (length front) ∷ []))
    (between _ _ _ _ start [] h.word h.value h.value_at p_content at_content (by h.here.place h.here.is h.here.reads))
  where
    by : (p : Place) → IsEnding p → Reads front (st p start false name attributes h.word h.value h.value_at opened true tags)
        → Reads (front ++ codes "/>") (st p_content start false [] [] h.word h.value h.value_at opened true ((tags ++ opens name attributes start ∷ []) ++ closes (length front) ∷ []))
    by _ (behind_all behind_name) r = reads_more front _ _ (codes "/>") r refl
    by _ (behind_all behind_value) r = reads_more front _ _ (codes "/>") r refl
    by _ behind_blank r = reads_more front _ _ (codes "/>") r refl

-- ---- the tag that ends an element

-- an end tag that is being read, so many bytes of its name
pub record EndsAt (t : Tagged) (word value : List ℕ) (value_at size : ℕ) (front : List ℕ) : Type 0 where
  pub place : Place
  pub acts : (at : ℕ) (s : State) (b : ℕ) → step_at place at s b ≡ end_name size at s b
  pub reads : Reads front (tag_at t [] place word value value_at)

-- a byte of a list stands at the length of what is before it
pub there : (before rest : List ℕ) (b : ℕ) → slice_index (before ++ b ∷ rest) (length before) ≡ b
there [] rest b = refl
there (c ∷ before) rest b = there before rest b

shorter : (before rest : List ℕ) (b : ℕ) → nat_lt (length before) (length (before ++ b ∷ rest)) ≡ true
shorter before rest b =
    let size = length-append before (b ∷ rest) in
    lt-ltb (length before) (length (before ++ b ∷ rest)) (omega arith)

end_letter : (t : Tagged) (word value : List ℕ) (value_at : ℕ) (from before rest : List ℕ) (b : ℕ) → t.name ≡ before ++ b ∷ rest → EndsAt t word value value_at (length before) from
    → EndsAt t word value value_at (length (before ++ b ∷ [])) (from ++ b ∷ [])
end_letter t word value value_at from before rest b e h =
    let more : nat_lt (length before) (length t.name) ≡ true = ap (λ n. nat_lt (length before) (length n)) e ∙ shorter before rest b in
    let same : slice_index t.name (length before) ≡ b = ap (λ n. slice_index n (length before)) e ∙ there before rest b in
    let size : length before + 1 ≡ length (before ++ b ∷ []) = let grown = length-append before (b ∷ []) in omega arith in
    let next : Place = place_in (end_name (length before) 0 (tag_at t [] h.place word value value_at) b) in
    let itself_ : (b == b) ≡ true = eq-eqb b b refl in
    let acts_ : (at : ℕ) (s : State) (c : ℕ) → step_at next at s c ≡ end_name (length before + 1) at s c = (λ at s c. rw (more, same, itself_) refl) in
    let here : step (length from) (tag_at t [] h.place word value value_at) b ≡ Going (tag_at t [] next word value value_at) =
    h.acts (length from) (tag_at t [] h.place word value value_at) b ∙ rw (more, same, itself_) refl in
    record {
      place = next;
      acts = λ at s c. acts_ at s c ∙ ap (λ n. end_name n at s c) size;
      reads = reads_next from (tag_at t [] h.place word value value_at) (tag_at t [] next word value value_at) b h.reads here;
    }

end_letters : (t : Tagged) (word value : List ℕ) (value_at : ℕ) {from to name : List ℕ} → IsName from to name → (rest : List ℕ) → t.name ≡ name ++ rest → EndsAt t word value value_at 0 from
    → EndsAt t word value value_at (length name) to
end_letters t word value value_at (first_of_name b first) rest e h = end_letter t word value value_at _ [] rest b e h
end_letters t word value value_at (next_of_name {to = to} {name = name} b more goes_) rest e h =
    let whole : t.name ≡ name ++ b ∷ rest = e ∙ append_snoc name b rest in
    end_letter t word value value_at to name rest b whole (end_letters t word value value_at more (b ∷ rest) whole h)

-- the end of a tag's name, and blanks
pub data IsEnd (t : Tagged) : Place → Type 0 where
  at_name : (p : Place) → ((at : ℕ) (s : State) (b : ℕ) → step_at p at s b ≡ end_name (length t.name) at s b) → IsEnd t p
  at_gap : IsEnd t p_end_gap

never_less : (n : ℕ) → nat_lt n n ≡ false
never_less n = le-ltb n n (omega arith)

end_blanks : (t : Tagged) (word value : List ℕ) (value_at : ℕ) → TakesBlanks (IsEnd t) (λ p. tag_at t [] p word value value_at)
end_blanks t word value value_at _ (at_name p acts) b blank =
    follows _ _ _ _ _ at_gap (λ at. acts at (tag_at t [] p word value value_at) b ∙ rw (never_less (length t.name), blank) refl)
end_blanks t word value value_at _ at_gap b blank = follows _ _ _ _ _ at_gap (λ at. rw blank refl)

end_ends : (t : Tagged) (word value : List ℕ) (value_at : ℕ) (front : List ℕ) → Is (IsEnd t) (λ p. tag_at t [] p word value value_at) front
    → Reads (front ++ codes ">") (tag_at t [] p_content word value value_at)
end_ends t word value value_at front h = by h.place h.is h.reads
  where
    by : (p : Place) → IsEnd t p → Reads front (tag_at t [] p word value value_at) → Reads (front ++ codes ">") (tag_at t [] p_content word value value_at)
    by _ (at_name p acts) r = reads_next front _ _ 62 r (acts (length front) (tag_at t [] p word value value_at) 62 ∙ rw (never_less (length t.name)) refl)
    by _ at_gap r = reads_next front _ _ 62 r refl

end_read : {from to name : List ℕ} {opened : List (List ℕ)} {tags : List Tag} → IsEndTag from to name → Between from (opened ++ name ∷ []) true tags
    → Between to opened true (tags ++ closes (length from + 1) ∷ [])
end_read {from} {to} {name} {opened} {tags} (the_end_tag {a = a} {b = b} n bs) h =
    let t : Tagged = record { start = length from; declares = false; name = name; opened = opened; begun = true; tags = tags ++ closes (length from + 1) ∷ [] } in
    let less = less_read h.start h.name h.word h.value h.value_at (opened ++ name ∷ []) tags from h.here.place h.here.is h.here.reads in
    let slash : Reads (from ++ codes "</") (tag_at t [] p_end_name h.word h.value h.value_at) = begins_ less.place less.is less.reads in
    let letters = end_letters t h.word h.value h.value_at n [] (sym (append-nil name)) (record { place = p_end_name; acts = (λ at s c. refl); reads = slash }) in
    let gap = blanks_read (end_blanks t h.word h.value h.value_at) bs (is_at (IsEnd t) (λ p. tag_at t [] p h.word h.value h.value_at) a letters.place (at_name letters.place letters.acts) letters.reads) in
    between _ _ _ _ (length from) name h.word h.value h.value_at p_content at_content (end_ends t h.word h.value h.value_at b gap)
  where
    two : (from ++ codes "<") ++ 47 ∷ [] ≡ from ++ codes "</"
    two = append_snoc from 60 (47 ∷ [])

    begins_ : (p : Place) → IsLess p → Reads (from ++ codes "<") (st p (length from) false h.name [] h.word h.value h.value_at (opened ++ name ∷ []) true tags)
        → Reads (from ++ codes "</") (st p_end_name (length from) false name [] h.word h.value h.value_at opened true (tags ++ closes (length from + 1) ∷ []))
    begins_ p is r =
        let size : length (from ++ codes "<") ≡ length from + 1 = length-append from (codes "<") in
        subst (λ xs. Reads xs (st p_end_name (length from) false name [] h.word h.value h.value_at opened true (tags ++ closes (length from + 1) ∷ []))) two
        (reads_next (from ++ codes "<") _ _ 47 r (steps_ p is ∙ ap (λ n. Going (st p_end_name (length from) false name [] h.word h.value h.value_at opened true (tags ++ closes n ∷ []))) size))
      where
        steps_ : (p : Place) → IsLess p → step (length (from ++ codes "<")) (st p (length from) false h.name [] h.word h.value h.value_at (opened ++ name ∷ []) true tags) 47
            ≡ Going (st p_end_name (length from) false name [] h.word h.value h.value_at opened true (tags ++ closes (length (from ++ codes "<")) ∷ []))
        steps_ _ at_first_less = rw (some_names opened name, last_added opened name, others_kept opened name) refl
        steps_ _ at_less = rw (some_names opened name, last_added opened name, others_kept opened name) refl

-- ---- elements

opens_one : (opened : List (List ℕ)) (name : List ℕ) → (true && is_nil (opened ++ name ∷ [])) ≡ false
opens_one opened name = some_names opened name

mutual
  pub element_read : {from to : List ℕ} {opened : List (List ℕ)} {begun : Bool} {tags more : List Tag} → IsElement from to more → (begun && is_nil opened) ≡ false → Between from opened begun tags
      → Between to opened true (tags ++ more)
  element_read (an_empty_element n given bs) free h = empty_ends (start_read free h n given bs)
  element_read {opened = opened} {tags = tags} (an_element {from = from} {b = b} {to = to} {name = name} {attributes = attributes} {tags = inside} (the_start_tag n given bs) content end) free h =
      let first = start_ends (start_read free h n given bs) in
      let within = content_read content (opens_one opened name) first in
      let last = end_read {opened = opened} end within in
      subst (Between to opened true)
      (ap (λ ts. ts ++ closes (length b + 1) ∷ []) (append_snoc tags (opens name attributes (length from)) inside)
      ∙ append_assoc tags (opens name attributes (length from) ∷ inside) (closes (length b + 1) ∷ []))
      last

  pub content_read : {from to : List ℕ} {opened : List (List ℕ)} {tags more : List Tag} → IsContent from to more → (true && is_nil opened) ≡ false → Between from opened true tags
      → Between to opened true (tags ++ more)
  content_read {opened = opened} {tags = tags} no_content free h = subst (Between _ opened true) (sym (append-nil tags)) h
  content_read {opened = opened} {tags = tags} (one_element_more {next = next} {tags = before} {more = last} content e) free h =
      subst (Between next opened true) (append_assoc tags before last) (element_read e free (content_read content free h))
  content_read (more_misc content m) free h = misc_between m (content_read content free h)

-- ---- documents

-- where a declaration may begin
pub data IsFresh : Place → Type 0 where
  fresh_start : IsFresh p_start
  fresh_marked : IsFresh p_marked

mark_read : {to : List ℕ} → MayBeMark [] to → Is IsFresh (λ p. st p 0 false [] [] [] [] 0 [] false []) to
mark_read no_mark = is_at _ _ _ p_start fresh_start refl
mark_read the_mark = is_at _ _ _ p_marked fresh_marked refl

fresh_between : {front : List ℕ} → Is IsFresh (λ p. st p 0 false [] [] [] [] 0 [] false []) front → Between front [] false []
fresh_between {front} h = by h.place h.is h.reads
  where
    by : (p : Place) → IsFresh p → Reads front (st p 0 false [] [] [] [] 0 [] false []) → Between front [] false []
    by _ fresh_start r = between _ _ _ _ 0 [] [] [] 0 p_start at_start r
    by _ fresh_marked r = between _ _ _ _ 0 [] [] [] 0 p_marked at_marked r

declaration_begins : {from : List ℕ} → Is IsFresh (λ p. st p 0 false [] [] [] [] 0 [] false []) from
    → AtTag (record { start = length from; declares = true; name = []; opened = []; begun = false; tags = [] }) [] IsBehind (from ++ codes "<?xml")
declaration_begins {from} h = at_tag _ [] IsBehind _ [] [] 0 p_quoted behind_value (by h.place h.is h.reads)
  where
    by : (p : Place) → IsFresh p → Reads from (st p 0 false [] [] [] [] 0 [] false []) → Reads (from ++ codes "<?xml") (st p_quoted (length from) true [] [] [] [] 0 [] false [])
    by _ fresh_start r = reads_more from _ _ (codes "<?xml") r refl
    by _ fresh_marked r = reads_more from _ _ (codes "<?xml") r refl

all_encode : (attributes : List Attribute) → list_all says_utf8 attributes ≡ true → list_all encodes attributes ≡ true
all_encode attributes e = e

declaration_ends : {front : List ℕ} {start : ℕ} {attributes : List Attribute} → list_all says_utf8 attributes ≡ true
    → AtTag (record { start = start; declares = true; name = []; opened = []; begun = false; tags = [] }) attributes IsEnding front
    → Between (front ++ codes "?>") [] false []
declaration_ends {front} {start} {attributes} e h = between _ _ _ _ start [] h.word h.value h.value_at p_content at_content (by h.here.place h.here.is h.here.reads)
  where
    last : Reads front (st p_quoted start true [] attributes h.word h.value h.value_at [] false []) → Unit {0}
    last r = tt

    by : (p : Place) → IsEnding p → Reads front (st p start true [] attributes h.word h.value h.value_at [] false [])
        → Reads (front ++ codes "?>") (st p_content start false [] [] h.word h.value h.value_at [] false [])
    by _ (behind_all behind_name) r = reads_more front _ _ (codes "?>") r (rw (all_encode attributes e) refl)
    by _ (behind_all behind_value) r = reads_more front _ _ (codes "?>") r (rw (all_encode attributes e) refl)
    by _ behind_blank r = reads_more front _ _ (codes "?>") r (rw (all_encode attributes e) refl)

declaration_read : {from to : List ℕ} → MayBeDeclaration from to → Is IsFresh (λ p. st p 0 false [] [] [] [] 0 [] false []) from → Between to [] false []
declaration_read no_declaration h = fresh_between h
declaration_read (the_declaration given e bs) h = declaration_ends e (ending bs (attributes_read given (declaration_begins h)))

whole : {text : List ℕ} {tags : List Tag} → Between text [] true tags → IsUtf8 text → IsMarkup text tags
whole {text} {tags} h valid =
    let same : utf8_valid_len text ≡ length text = utf8_valid_len-IsUtf8 text valid in
    by h.here.place h.here.is h.here.reads same
  where
    by : (p : Place) → IsBetween p true → Reads text (st p h.start false h.name [] h.word h.value h.value_at [] true tags) → utf8_valid_len text ≡ length text → IsMarkup text tags
    by _ at_content r same = record {
      whole = ap (broken_in (length text) (utf8_valid_len text)) r ∙ ap (λ n. broken_in (length text) n (ended (st p_content h.start false h.name [] h.word h.value h.value_at [] true tags) None)) same ∙ rw (never_less (length text)) refl;
      spelled = ap tags_read r;
    }

pub document_read : (text : List ℕ) (tags : List Tag) → IsDocument text tags → IsMarkup text tags
document_read text tags (the_document (the_prolog mark declares misc) e after valid) =
    whole (misc_between after (element_read e refl (misc_between misc (declaration_read declares (mark_read mark))))) valid
