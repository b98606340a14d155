-- The places of a reader, which its crate keeps to itself: each is where a text leaves it.
use Rattle.std.proofs.Common.{ℕ, List, [], ◌∷◌, Some}
use Rattle.std.specs.Prelude.{codes}
use Rattle.fnl_markup.specs.Entities.{meaning}
use Rattle.fnl_markup.specs.State.{fresh, Next, Going, Fault}
use Rattle.fnl_markup.specs.Step.{longer_value, entity_letter}
use Rattle.fnl_markup.specs.Markup.{Ended, ended, reading}

abbrev type_of : {A : Type 0} → A → Type 0
type_of {A} x = A

abbrev domain_of : {A B : Type 0} → (A → B) → Type 0
domain_of {A} {B} f = A

abbrev pub Place : Type 0
Place = type_of fresh.place

abbrev pub Entity : Type 0
Entity = domain_of meaning

abbrev pub place_in : Next → Place
place_in (Going s) = s.place
place_in (Fault rule at) = fresh.place

abbrev place_at : Ended → Place
place_at (ended s broken) = s.place

abbrev behind : List ℕ → Place
behind text = place_at (reading text)

abbrev pub p_start : Place
p_start = fresh.place

abbrev pub p_mark_one : Place
p_mark_one = behind (239 ∷ [])

abbrev pub p_mark_two : Place
p_mark_two = behind (239 ∷ 187 ∷ [])

abbrev pub p_marked : Place
p_marked = behind (239 ∷ 187 ∷ 191 ∷ [])

abbrev pub p_first_less : Place
p_first_less = behind (codes "<")

abbrev pub p_question : Place
p_question = behind (codes "<?")

abbrev pub p_question_x : Place
p_question_x = behind (codes "<?x")

abbrev pub p_question_xm : Place
p_question_xm = behind (codes "<?xm")

abbrev pub p_content : Place
p_content = behind (codes " ")

abbrev pub p_less : Place
p_less = behind (codes " <")

abbrev pub p_bang : Place
p_bang = behind (codes "<!")

abbrev pub p_bang_dash : Place
p_bang_dash = behind (codes "<!-")

abbrev pub p_comment : Place
p_comment = behind (codes "<!--")

abbrev pub p_comment_dash : Place
p_comment_dash = behind (codes "<!---")

abbrev pub p_comment_dashes : Place
p_comment_dashes = behind (codes "<!----")

abbrev pub p_name : Place
p_name = behind (codes "<a")

abbrev pub p_gap : Place
p_gap = behind (codes "<a ")

abbrev pub p_word : Place
p_word = behind (codes "<a a")

abbrev pub p_word_gap : Place
p_word_gap = behind (codes "<a a ")

abbrev pub p_equal : Place
p_equal = behind (codes "<a a=")

abbrev pub p_value : ℕ → Place
p_value quote = (longer_value quote fresh 0).place

abbrev pub p_entity : ℕ → Entity → Place
p_entity quote read = place_in (entity_letter quote 0 fresh (Some read))

abbrev pub p_quoted : Place
p_quoted = behind (codes "<a a=''")

abbrev pub p_last_question : Place
p_last_question = behind (codes "<?xml?")

abbrev pub p_slash : Place
p_slash = behind (codes "<a/")

abbrev pub p_end_name : Place
p_end_name = behind (codes "<a></")

abbrev pub p_end_gap : Place
p_end_gap = behind (codes "<a></a ")
