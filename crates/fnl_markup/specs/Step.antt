-- What may follow: what each byte of a text brings, by what was read last.
-- Trusted: part of what a promise means.
use Rattle.std.specs.Prelude.{ℕ, ◌+◌, List, [], ◌∷◌, ◌++◌, length, Bool, true, false, ◌&&◌, ◌||◌, not, if◌then◌else◌, ◌==◌, nat_lt, Option, Some, None, slice_index, codes}
use Rattle.std.specs.List.{list_all}
use Rattle.std.specs.Str.{bytes_eq, str_eq_ignore_ascii_case}
use Rattle.rvc_base.specs.Rules.{spells_no_network, wrong_encoding}
use Rattle.fnl_markup.specs.Bytes.{is_blank, begins_name, goes_on_name}
use Rattle.fnl_markup.specs.Entities.{longer, meaning}
use Rattle.fnl_markup.specs.Tags.{Attribute, attribute, opens, closes}
use Rattle.fnl_markup.specs.State.{State, Next, Going, Fault}
use Rattle.fnl_markup.specs.declared.entity.Entity.{Entity}
use Rattle.fnl_markup.specs.declared.entity.Entity.TheVariants.{Ampersand}
use Rattle.fnl_markup.specs.declared.place.Place.{Place}
use Rattle.fnl_markup.specs.declared.place.Place.TheVariants.{Start, MarkOne, MarkTwo, Marked, FirstLess, Question, QuestionX, QuestionXm, Content, Less, Bang, BangDash, Comment, CommentDash, CommentDashes, Name, Gap, Word, WordGap, Equal, Value, InEntity, Quoted, LastQuestion, Slash, EndName, EndGap}

-- no text goes on so
abbrev pub stuck : ℕ → Next
stuck at = Fault spells_no_network at

abbrev pub goes : State → Place → Next
goes s place = Going (record s { place = place })

-- this byte alone may follow
abbrev pub only : ℕ → State → ℕ → ℕ → Place → Next
only at s b byte place = if b == byte then goes s place else stuck at

-- Between tags: blanks, and what begins with `<`.

abbrev pub content : ℕ → State → ℕ → Next
content at s b =
    if is_blank b then goes s Content
    else (if b == 60 then Going (record s { place = Less; start = at }) else stuck at)

-- The text's start: a byte order mark, a declaration, or content.

abbrev pub after_mark : ℕ → State → ℕ → Next
after_mark at s b = if b == 60 then Going (record s { place = FirstLess; start = at })
    else content at s b

abbrev pub start : ℕ → State → ℕ → Next
start at s b = if b == 239 then goes s MarkOne else after_mark at s b

-- the last of several names, and those before it
abbrev pub last_name : List (List ℕ) → List ℕ
last_name [] = []
last_name (name ∷ []) = name
last_name (name ∷ other ∷ names) = last_name (other ∷ names)

abbrev pub other_names : List (List ℕ) → List (List ℕ)
other_names [] = []
other_names (name ∷ []) = []
other_names (name ∷ other ∷ names) = name ∷ other_names (other ∷ names)

abbrev pub is_nil : List (List ℕ) → Bool
is_nil [] = true
is_nil (name ∷ names) = false

-- the tag that begins an element, and the tag that ends one

abbrev pub with_opening : State → State
with_opening s =
    record s { name = []; attributes = []; tags = s.tags ++ opens s.name s.attributes s.start ∷ [] }

abbrev pub with_closing : ℕ → State → State
with_closing at s = record s { tags = s.tags ++ closes at ∷ [] }

-- A tag: `/` and the name of the innermost open element, or the first byte of a new element's name. One element alone
-- stands outside all others.

abbrev pub end_tag : ℕ → State → Next
end_tag at s =
    if is_nil s.opened then stuck at
    else Going (with_closing at (record s
    { place = EndName 0; name = last_name s.opened; opened = other_names s.opened }))

abbrev pub new_tag : ℕ → State → ℕ → Next
new_tag at s b =
    if s.begun && is_nil s.opened then stuck at
    else Going (record s { place = Name; begun = true; name = b ∷ [] })

abbrev pub tag : ℕ → State → ℕ → Next
tag at s b = if b == 47 then end_tag at s else (if begins_name b then new_tag at s b else stuck at)

abbrev pub less : ℕ → State → ℕ → Next
less at s b = if b == 33 then goes s Bang else tag at s b

abbrev pub first_less : ℕ → State → ℕ → Next
first_less at s b = if b == 63 then goes s Question else less at s b

-- Comments go up to the next `-->`.

abbrev pub comment : State → ℕ → Next
comment s b = goes s (if b == 45 then CommentDash else Comment)

abbrev pub comment_dash : State → ℕ → Next
comment_dash s b = goes s (if b == 45 then CommentDashes else Comment)

abbrev pub comment_dashes : State → ℕ → Next
comment_dashes s b = if b == 62 then goes s Content else comment_dash s b

-- The end of a tag that begins an element: `>`, or `/>` if the element is empty.

abbrev pub opened : State → State
opened s = with_opening (record s { place = Content; opened = s.opened ++ s.name ∷ [] })

abbrev pub emptied : ℕ → State → State
emptied at s = with_closing at (with_opening (record s { place = Slash }))

abbrev pub ends_tag : ℕ → State → ℕ → Next
ends_tag at s b = if b == 62 then Going (opened s)
    else (if b == 47 then Going (emptied at s) else stuck at)

abbrev pub ends : ℕ → State → ℕ → Next
ends at s b = if s.declares then only at s b 63 LastQuestion else ends_tag at s b

-- The last letter of the declaration's name.

abbrev pub declaration : ℕ → State → ℕ → Next
declaration at s b = if b == 108 then Going (record s { place = Quoted; declares = true })
    else stuck at

-- The end of the declaration: the encoding, if it is given, is UTF-8 in either case.

abbrev pub encodes : Attribute → Bool
encodes (attribute name value at) =
    not (bytes_eq name (codes "encoding")) || str_eq_ignore_ascii_case value (codes "utf-8")

abbrev pub declared : State → Next
declared s =
    if list_all encodes s.attributes
    then Going (record s { place = Content; declares = false; attributes = [] })
    else Fault wrong_encoding s.start

abbrev pub last_question : ℕ → State → ℕ → Next
last_question at s b = if b == 62 then declared s else stuck at

-- Names and attributes: blanks stand before each attribute, and may stand round `=`.

abbrev pub quoted : ℕ → State → ℕ → Next
quoted at s b = if is_blank b then goes s Gap else ends at s b

abbrev pub name : ℕ → State → ℕ → Next
name at s b =
    if goes_on_name b then Going (record s { place = Name; name = s.name ++ b ∷ [] })
    else quoted at s b

abbrev pub gap : ℕ → State → ℕ → Next
gap at s b =
    if begins_name b then Going (record s { place = Word; word = b ∷ [] }) else quoted at s b

abbrev pub word_gap : ℕ → State → ℕ → Next
word_gap at s b = if is_blank b then goes s WordGap else only at s b 61 Equal

abbrev pub word : ℕ → State → ℕ → Next
word at s b =
    if goes_on_name b then Going (record s { place = Word; word = s.word ++ b ∷ [] })
    else word_gap at s b

abbrev pub equal : ℕ → State → ℕ → Next
equal at s b =
    if is_blank b then goes s Equal
    else (if (b == 34) || (b == 39)
    then Going (record s { place = Value b; value = []; value_at = at + 1 }) else stuck at)

-- Values go up to the same quote. Entities stand for characters in them, and `<` doesn't stand there.

abbrev pub valued : State → State
valued s =
    record s {
      place = Quoted;
      word = [];
      value = [];
      attributes = s.attributes
          ++ attribute s.word s.value s.value_at ∷ [];
    }

abbrev pub longer_value : ℕ → State → ℕ → State
longer_value quote s b = record s { place = Value quote; value = s.value ++ b ∷ [] }

abbrev pub value : ℕ → ℕ → State → ℕ → Next
value quote at s b =
    if b == quote then Going (valued s)
    else (if b == 38 then goes s (InEntity quote Ampersand)
    else (if b == 60 then stuck at
    else Going (longer_value quote s b)))

abbrev pub entity_end : ℕ → ℕ → State → Option ℕ → Next
entity_end quote at s None = stuck at
entity_end quote at s (Some character) = Going (longer_value quote s character)

abbrev pub entity_letter : ℕ → ℕ → State → Option Entity → Next
entity_letter quote at s None = stuck at
entity_letter quote at s (Some read) = goes s (InEntity quote read)

abbrev pub entity : ℕ → Entity → ℕ → State → ℕ → Next
entity quote read at s b =
    if b == 59 then entity_end quote at s (meaning read)
    else entity_letter quote at s (longer read b)

-- The end tag: the element's name, and blanks.

abbrev pub end_gap : ℕ → State → ℕ → Next
end_gap at s b = if is_blank b then goes s EndGap else only at s b 62 Content

abbrev pub end_name : ℕ → ℕ → State → ℕ → Next
end_name size at s b =
    if nat_lt size (length s.name) then only at s b (slice_index s.name size) (EndName (size + 1))
    else end_gap at s b

-- what a byte at an offset brings
abbrev pub step_at : Place → ℕ → State → ℕ → Next
step_at Start at s b = start at s b
step_at MarkOne at s b = only at s b 187 MarkTwo
step_at MarkTwo at s b = only at s b 191 Marked
step_at Marked at s b = after_mark at s b
step_at FirstLess at s b = first_less at s b
step_at Question at s b = only at s b 120 QuestionX
step_at QuestionX at s b = only at s b 109 QuestionXm
step_at QuestionXm at s b = declaration at s b
step_at Content at s b = content at s b
step_at Less at s b = less at s b
step_at Bang at s b = only at s b 45 BangDash
step_at BangDash at s b = only at s b 45 Comment
step_at Comment at s b = comment s b
step_at CommentDash at s b = comment_dash s b
step_at CommentDashes at s b = comment_dashes s b
step_at Name at s b = name at s b
step_at Gap at s b = gap at s b
step_at Word at s b = word at s b
step_at WordGap at s b = word_gap at s b
step_at Equal at s b = equal at s b
step_at (Value quote) at s b = value quote at s b
step_at (InEntity quote read) at s b = entity quote read at s b
step_at Quoted at s b = quoted at s b
step_at LastQuestion at s b = last_question at s b
step_at Slash at s b = only at s b 62 Content
step_at (EndName size) at s b = end_name size at s b
step_at EndGap at s b = end_gap at s b

abbrev pub step : ℕ → State → ℕ → Next
step at s b = step_at s.place at s b
