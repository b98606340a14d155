-- A byte at which no text goes on is the one that was read.
use Rattle.std.proofs.Common.{◌≡◌, ℕ, ◌+◌, Bool, true, false, length, Option, Some, None, ap, arith}
use Rattle.std.specs.Prelude.{if◌then◌else◌, ◌==◌, ◌||◌, nat_lt, slice_index}
use Rattle.std.specs.List.{list_all}
use Rattle.rvc_base.specs.declared.refusal.Rule.{Rule}
use Rattle.rvc_base.specs.Rules.{spells_no_network, wrong_encoding}
use Rattle.fnl_markup.specs.Bytes.{is_blank, begins_name, goes_on_name}
use Rattle.fnl_markup.specs.Entities.{longer, meaning}
use Rattle.fnl_markup.specs.State.{State, Next, Going, Fault}
use Rattle.fnl_markup.specs.Step as steps
use Rattle.fnl_markup.specs.declared.entity.Entity.{Entity}
use Rattle.fnl_markup.specs.declared.entity.Entity.TheVariants.{Ampersand}
use Rattle.fnl_markup.specs.declared.place.Place.{Place}
use Rattle.fnl_markup.specs.declared.place.Place.TheVariants.{Start, MarkOne, MarkTwo, Marked, FirstLess, Question, QuestionX, QuestionXm, Content, Less, Bang, BangDash, Comment, CommentDash, CommentDashes, Name, Gap, Word, WordGap, Equal, Value, InEntity, Quoted, LastQuestion, Slash, EndName, EndGap}

abbrev number_of : Rule → ℕ
number_of rule = rule.0

-- two rules
pub not_that : wrong_encoding ≡ spells_no_network → ⊥
not_that e = let same : number_of wrong_encoding ≡ number_of spells_no_network = ap number_of e in absurd (omega arith)

-- if a step stops since no text goes on so, it stops at this offset
abbrev IsHere : ℕ → Next → Type 0
IsHere at next = (place : ℕ) → next ≡ Fault spells_no_network place → place ≡ at

going : (at : ℕ) (s : State) → IsHere at (Going s)
going at s = λ place e. cc

stuck : (at : ℕ) → IsHere at (steps.stuck at)
stuck at = λ place e. cc

either : (at : ℕ) (test : Bool) (one other : Next) → IsHere at one → IsHere at other → IsHere at (if test then one else other)
either at true one other h k = h
either at false one other h k = k

only : (at : ℕ) (s : State) (b byte : ℕ) (place : Place) → IsHere at (steps.only at s b byte place)
only at s b byte place = either at _ _ _ (going at _) (stuck at)

content : (at : ℕ) (s : State) (b : ℕ) → IsHere at (steps.content at s b)
content at s b = either at (is_blank b) _ _ (going at _) (either at _ _ _ (going at _) (stuck at))

after_mark : (at : ℕ) (s : State) (b : ℕ) → IsHere at (steps.after_mark at s b)
after_mark at s b = either at _ _ _ (going at _) (content at s b)

end_tag : (at : ℕ) (s : State) → IsHere at (steps.end_tag at s)
end_tag at s = either at _ _ _ (stuck at) (going at _)

new_tag : (at : ℕ) (s : State) (b : ℕ) → IsHere at (steps.new_tag at s b)
new_tag at s b = either at _ _ _ (stuck at) (going at _)

tag : (at : ℕ) (s : State) (b : ℕ) → IsHere at (steps.tag at s b)
tag at s b = either at _ _ _ (end_tag at s) (either at (begins_name b) _ _ (new_tag at s b) (stuck at))

less : (at : ℕ) (s : State) (b : ℕ) → IsHere at (steps.less at s b)
less at s b = either at _ _ _ (going at _) (tag at s b)

ends_tag : (at : ℕ) (s : State) (b : ℕ) → IsHere at (steps.ends_tag at s b)
ends_tag at s b = either at (b == 62) _ _ (going at (steps.opened s)) (either at (b == 47) _ _ (going at (steps.emptied at s)) (stuck at))

ends : (at : ℕ) (s : State) (b : ℕ) → IsHere at (steps.ends at s b)
ends at s b = either at s.declares _ _ (only at s b 63 LastQuestion) (ends_tag at s b)

encoding : (at : ℕ) (s : State) → IsHere at (Fault wrong_encoding s.start)
encoding at s = λ place e. let same : wrong_encoding ≡ spells_no_network = cc in absurd (not_that same)

last_question : (at : ℕ) (s : State) (b : ℕ) → IsHere at (steps.last_question at s b)
last_question at s b = either at _ _ _ (either at (list_all steps.encodes s.attributes) _ _ (going at _) (encoding at s)) (stuck at)

quoted : (at : ℕ) (s : State) (b : ℕ) → IsHere at (steps.quoted at s b)
quoted at s b = either at (is_blank b) _ _ (going at _) (ends at s b)

word_gap : (at : ℕ) (s : State) (b : ℕ) → IsHere at (steps.word_gap at s b)
word_gap at s b = either at (is_blank b) _ _ (going at _) (only at s b 61 Equal)

equal : (at : ℕ) (s : State) (b : ℕ) → IsHere at (steps.equal at s b)
equal at s b = either at (is_blank b) _ _ (going at _) (either at ((b == 34) || (b == 39)) _ _ (going at _) (stuck at))

value : (quote at : ℕ) (s : State) (b : ℕ) → IsHere at (steps.value quote at s b)
value quote at s b =
    either at (b == quote) _ _ (going at (steps.valued s))
    (either at (b == 38) _ _ (going at (record s { place = InEntity quote Ampersand }))
    (either at (b == 60) _ _ (stuck at) (going at (steps.longer_value quote s b))))

entity_end : (quote at : ℕ) (s : State) (found : Option ℕ) → IsHere at (steps.entity_end quote at s found)
entity_end quote at s None = stuck at
entity_end quote at s (Some character) = going at _

entity_letter : (quote at : ℕ) (s : State) (found : Option Entity) → IsHere at (steps.entity_letter quote at s found)
entity_letter quote at s None = stuck at
entity_letter quote at s (Some read) = going at _

entity : (quote : ℕ) (read : Entity) (at : ℕ) (s : State) (b : ℕ) → IsHere at (steps.entity quote read at s b)
entity quote read at s b = either at _ _ _ (entity_end quote at s (meaning read)) (entity_letter quote at s (longer read b))

end_gap : (at : ℕ) (s : State) (b : ℕ) → IsHere at (steps.end_gap at s b)
end_gap at s b = either at (is_blank b) _ _ (going at _) (only at s b 62 Content)

end_name : (size at : ℕ) (s : State) (b : ℕ) → IsHere at (steps.end_name size at s b)
end_name size at s b = either at (nat_lt size (length s.name)) _ _ (only at s b (slice_index s.name size) (EndName (size + 1))) (end_gap at s b)

pub stuck_here : (p : Place) (at : ℕ) (s : State) (b : ℕ) → IsHere at (steps.step_at p at s b)
stuck_here Start at s b = either at _ _ _ (going at _) (after_mark at s b)
stuck_here MarkOne at s b = only at s b 187 MarkTwo
stuck_here MarkTwo at s b = only at s b 191 Marked
stuck_here Marked at s b = after_mark at s b
stuck_here FirstLess at s b = either at _ _ _ (going at _) (less at s b)
stuck_here Question at s b = only at s b 120 QuestionX
stuck_here QuestionX at s b = only at s b 109 QuestionXm
stuck_here QuestionXm at s b = either at _ _ _ (going at _) (stuck at)
stuck_here Content at s b = content at s b
stuck_here Less at s b = less at s b
stuck_here Bang at s b = only at s b 45 BangDash
stuck_here BangDash at s b = only at s b 45 Comment
stuck_here Comment at s b = going at _
stuck_here CommentDash at s b = going at _
stuck_here CommentDashes at s b = either at _ _ _ (going at _) (going at _)
stuck_here Name at s b = either at (goes_on_name b) _ _ (going at _) (quoted at s b)
stuck_here Gap at s b = either at (begins_name b) _ _ (going at _) (quoted at s b)
stuck_here Word at s b = either at (goes_on_name b) _ _ (going at _) (word_gap at s b)
stuck_here WordGap at s b = word_gap at s b
stuck_here Equal at s b = equal at s b
stuck_here (Value quote) at s b = value quote at s b
stuck_here (InEntity quote read) at s b = entity quote read at s b
stuck_here Quoted at s b = quoted at s b
stuck_here LastQuestion at s b = last_question at s b
stuck_here Slash at s b = only at s b 62 Content
stuck_here (EndName size) at s b = end_name size at s b
stuck_here EndGap at s b = end_gap at s b
