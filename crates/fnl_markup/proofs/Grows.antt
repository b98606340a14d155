-- The tags that a byte brings: an end tag comes with its `/`.
use Rattle.std.proofs.Common.{◌≡◌, ℕ, ◌+◌, Bool, true, false, List, [], ◌∷◌, ◌++◌, length, Option, Some, None, refl, sym, ap, ◌∙◌}
use Rattle.std.proofs.lemmas.List.{append-nil}
use Rattle.std.specs.Prelude.{if◌then◌else◌, ◌==◌, ◌||◌, nat_lt, slice_index}
use Rattle.std.specs.List.{list_all}
use Rattle.rvc_base.specs.declared.refusal.Rule.{Rule}
use Rattle.fnl_markup.specs.Bytes.{is_blank, begins_name, goes_on_name}
use Rattle.fnl_markup.specs.Entities.{longer, meaning}
use Rattle.fnl_markup.specs.Tags.{Attribute, Tag, opens, closes}
use Rattle.fnl_markup.specs.State.{State, Next, Going, Fault}
use Rattle.fnl_markup.specs.Step as steps
use Rattle.fnl_markup.specs.declared.entity.Entity.{Entity}
use Rattle.fnl_markup.specs.declared.entity.Entity.TheVariants.{Ampersand}
use Rattle.fnl_markup.specs.declared.place.Place.{Place}
use Rattle.fnl_markup.specs.declared.place.Place.TheVariants.{Start, MarkOne, MarkTwo, Marked, FirstLess, Question, QuestionX, QuestionXm, Content, Less, Bang, BangDash, Comment, CommentDash, CommentDashes, Name, Gap, Word, WordGap, Equal, Value, InEntity, Quoted, LastQuestion, Slash, EndName, EndGap}

-- what one byte at an offset may bring
pub data IsBrought (at : ℕ) : List Tag → Type 0 where
  nothing : IsBrought at []
  an_opening : {name : List ℕ} {attributes : List Attribute} {place : ℕ} → IsBrought at (opens name attributes place ∷ [])
  a_closing : IsBrought at (closes at ∷ [])
  both : {name : List ℕ} {attributes : List Attribute} {place : ℕ} → IsBrought at (opens name attributes place ∷ closes at ∷ [])

pub record Grows (at : ℕ) (old new : List Tag) : Type 0 where
  pub brought : List Tag
  pub is_brought : IsBrought at brought
  pub grown : new ≡ old ++ brought

-- where a step goes on, the tags grow so
abbrev Adds : ℕ → State → Next → Type 0
Adds at s next = (after : State) → next ≡ Going after → Grows at s.tags after.tags

grows_to : (at : ℕ) (old new brought : List Tag) → IsBrought at brought → new ≡ old ++ brought → Grows at old new
grows_to at old new brought is e = record { brought = brought; is_brought = is; grown = e }

tags_after : (s t : State) (old : List Tag) → Going s ≡ Going t → s.tags ≡ old → t.tags ≡ old
tags_after s t old e same = let one : s ≡ t = cc in ap (λ x. x.tags) (sym one) ∙ same

added : (at : ℕ) (s t : State) (brought : List Tag) → IsBrought at brought → t.tags ≡ s.tags ++ brought → Adds at s (Going t)
added at s t brought is same = λ after e. grows_to at s.tags after.tags brought is (tags_after t after (s.tags ++ brought) e same)

kept : (at : ℕ) (s t : State) → t.tags ≡ s.tags → Adds at s (Going t)
kept at s t same = added at s t [] nothing (same ∙ sym (append-nil s.tags))

never : (at : ℕ) (s : State) (rule : Rule) (place : ℕ) → Adds at s (Fault rule place)
never at s rule place = λ after e. cc

stuck : (at : ℕ) (s : State) → Adds at s (steps.stuck at)
stuck at s = never at s _ at

either : (at : ℕ) (s : State) (test : Bool) (one other : Next) → Adds at s one → Adds at s other → Adds at s (if test then one else other)
either at s true one other h k = h
either at s false one other h k = k

only : (at : ℕ) (s : State) (b byte : ℕ) (place : Place) → Adds at s (steps.only at s b byte place)
only at s b byte place = either at s _ _ _ (kept at s (record s { place = place }) refl) (stuck at s)

goes : (at : ℕ) (s : State) (place : Place) → Adds at s (steps.goes s place)
goes at s place = kept at s (record s { place = place }) refl

content : (at : ℕ) (s : State) (b : ℕ) → Adds at s (steps.content at s b)
content at s b = either at s (is_blank b) _ _ (goes at s Content) (either at s (b == 60) _ _ (kept at s (record s { place = Less; start = at }) refl) (stuck at s))

after_mark : (at : ℕ) (s : State) (b : ℕ) → Adds at s (steps.after_mark at s b)
after_mark at s b = either at s (b == 60) _ _ (kept at s (record s { place = FirstLess; start = at }) refl) (content at s b)

end_tag : (at : ℕ) (s : State) → Adds at s (steps.end_tag at s)
end_tag at s =
    either at s (steps.is_nil s.opened) _ _ (stuck at s)
    (added at s (steps.with_closing at (record s { place = EndName 0; name = steps.last_name s.opened; opened = steps.other_names s.opened })) (closes at ∷ []) a_closing refl)

new_tag : (at : ℕ) (s : State) (b : ℕ) → Adds at s (steps.new_tag at s b)
new_tag at s b = either at s _ _ _ (stuck at s) (kept at s (record s { place = Name; begun = true; name = b ∷ [] }) refl)

tag : (at : ℕ) (s : State) (b : ℕ) → Adds at s (steps.tag at s b)
tag at s b = either at s (b == 47) _ _ (end_tag at s) (either at s (begins_name b) _ _ (new_tag at s b) (stuck at s))

less : (at : ℕ) (s : State) (b : ℕ) → Adds at s (steps.less at s b)
less at s b = either at s (b == 33) _ _ (goes at s Bang) (tag at s b)

two : (old : List Tag) (one other : Tag) → (old ++ one ∷ []) ++ other ∷ [] ≡ old ++ one ∷ other ∷ []
two [] one other = refl
two (t ∷ old) one other = ap (λ rest. t ∷ rest) (two old one other)

ends_tag : (at : ℕ) (s : State) (b : ℕ) → Adds at s (steps.ends_tag at s b)
ends_tag at s b =
    either at s (b == 62) _ _ (added at s (steps.opened s) (opens s.name s.attributes s.start ∷ []) an_opening refl)
    (either at s (b == 47) _ _ (added at s (steps.emptied at s) (opens s.name s.attributes s.start ∷ closes at ∷ []) both (two s.tags (opens s.name s.attributes s.start) (closes at)))
    (stuck at s))

ends : (at : ℕ) (s : State) (b : ℕ) → Adds at s (steps.ends at s b)
ends at s b = either at s s.declares _ _ (only at s b 63 LastQuestion) (ends_tag at s b)

last_question : (at : ℕ) (s : State) (b : ℕ) → Adds at s (steps.last_question at s b)
last_question at s b =
    either at s (b == 62) _ _
    (either at s (list_all steps.encodes s.attributes) _ _ (kept at s (record s { place = Content; declares = false; attributes = [] }) refl) (never at s _ s.start))
    (stuck at s)

quoted : (at : ℕ) (s : State) (b : ℕ) → Adds at s (steps.quoted at s b)
quoted at s b = either at s (is_blank b) _ _ (goes at s Gap) (ends at s b)

word_gap : (at : ℕ) (s : State) (b : ℕ) → Adds at s (steps.word_gap at s b)
word_gap at s b = either at s (is_blank b) _ _ (goes at s WordGap) (only at s b 61 Equal)

equal : (at : ℕ) (s : State) (b : ℕ) → Adds at s (steps.equal at s b)
equal at s b =
    either at s (is_blank b) _ _ (goes at s Equal)
    (either at s ((b == 34) || (b == 39)) _ _ (kept at s (record s { place = Value b; value = []; value_at = at + 1 }) refl) (stuck at s))

value : (quote at : ℕ) (s : State) (b : ℕ) → Adds at s (steps.value quote at s b)
value quote at s b =
    either at s (b == quote) _ _ (kept at s (steps.valued s) refl)
    (either at s (b == 38) _ _ (goes at s (InEntity quote Ampersand))
    (either at s (b == 60) _ _ (stuck at s) (kept at s (steps.longer_value quote s b) refl)))

entity_end : (quote at : ℕ) (s : State) (found : Option ℕ) → Adds at s (steps.entity_end quote at s found)
entity_end quote at s None = stuck at s
entity_end quote at s (Some character) = kept at s (steps.longer_value quote s character) refl

entity_letter : (quote at : ℕ) (s : State) (found : Option Entity) → Adds at s (steps.entity_letter quote at s found)
entity_letter quote at s None = stuck at s
entity_letter quote at s (Some read) = goes at s (InEntity quote read)

entity : (quote : ℕ) (read : Entity) (at : ℕ) (s : State) (b : ℕ) → Adds at s (steps.entity quote read at s b)
entity quote read at s b = either at s (b == 59) _ _ (entity_end quote at s (meaning read)) (entity_letter quote at s (longer read b))

end_gap : (at : ℕ) (s : State) (b : ℕ) → Adds at s (steps.end_gap at s b)
end_gap at s b = either at s (is_blank b) _ _ (goes at s EndGap) (only at s b 62 Content)

end_name : (size at : ℕ) (s : State) (b : ℕ) → Adds at s (steps.end_name size at s b)
end_name size at s b = either at s (nat_lt size (length s.name)) _ _ (only at s b (slice_index s.name size) (EndName (size + 1))) (end_gap at s b)

pub adds : (p : Place) (at : ℕ) (s : State) (b : ℕ) → Adds at s (steps.step_at p at s b)
adds Start at s b = either at s (b == 239) _ _ (goes at s MarkOne) (after_mark at s b)
adds MarkOne at s b = only at s b 187 MarkTwo
adds MarkTwo at s b = only at s b 191 Marked
adds Marked at s b = after_mark at s b
adds FirstLess at s b = either at s (b == 63) _ _ (goes at s Question) (less at s b)
adds Question at s b = only at s b 120 QuestionX
adds QuestionX at s b = only at s b 109 QuestionXm
adds QuestionXm at s b = either at s (b == 108) _ _ (kept at s (record s { place = Quoted; declares = true }) refl) (stuck at s)
adds Content at s b = content at s b
adds Less at s b = less at s b
adds Bang at s b = only at s b 45 BangDash
adds BangDash at s b = only at s b 45 Comment
adds Comment at s b = goes at s _
adds CommentDash at s b = goes at s _
adds CommentDashes at s b = either at s (b == 62) _ _ (goes at s Content) (goes at s _)
adds Name at s b = either at s (goes_on_name b) _ _ (kept at s (record s { place = Name; name = s.name ++ b ∷ [] }) refl) (quoted at s b)
adds Gap at s b = either at s (begins_name b) _ _ (kept at s (record s { place = Word; word = b ∷ [] }) refl) (quoted at s b)
adds Word at s b = either at s (goes_on_name b) _ _ (kept at s (record s { place = Word; word = s.word ++ b ∷ [] }) refl) (word_gap at s b)
adds WordGap at s b = word_gap at s b
adds Equal at s b = equal at s b
adds (Value quote) at s b = value quote at s b
adds (InEntity quote read) at s b = entity quote read at s b
adds Quoted at s b = quoted at s b
adds LastQuestion at s b = last_question at s b
adds Slash at s b = only at s b 62 Content
adds (EndName size) at s b = end_name size at s b
adds EndGap at s b = end_gap at s b
