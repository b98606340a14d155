-- Each byte that is read keeps what was read in the productions.
use Rattle.std.proofs.Common.{◌≡◌, ℕ, zero, suc, ◌+◌, Bool, true, false, List, [], ◌∷◌, ◌++◌, length, Option, None, Some, refl, sym, ap, subst, ◌∙◌, arith, append_assoc, append-nil, length-append}
use Rattle.std.specs.Prelude.{if◌then◌else◌, ◌==◌, ◌||◌, ◌&&◌, nat_lt, slice_index, codes}
use Rattle.std.specs.List.{list_all}
use Rattle.std.proofs.Math.Seq.{append_snoc}
use Rattle.std.proofs.lemmas.Bool.{eqb-true, le-ltb, lt-ltb}
use Rattle.rvc_base.specs.declared.refusal.Rule.{Rule}
use Rattle.fnl_markup.specs.Bytes.{is_blank, begins_name, goes_on_name}
use Rattle.fnl_markup.specs.Tags.{Attribute, attribute, Tag, opens, closes}
use Rattle.fnl_markup.specs.State.{State, Next, Going, Fault}
use Rattle.fnl_markup.specs.Entities.{meaning, longer}
use Rattle.fnl_markup.specs.Step as steps
use Rattle.fnl_markup.specs.Step.{step, step_at, last_name, is_nil}
use Rattle.fnl_grammar.specs.Markup.{AreBlanks, no_blanks, one_blank_more, IsSpace, the_space, IsName, first_of_name, next_of_name, HoldsNoEnd, the_comment, AreMisc, no_misc, one_comment_more, more_space, IsReference, less_than, greater_than, ampersand, quotation_mark, apostrophe, nothing_quoted, one_byte_more, one_reference_more, IsAttribute, the_attribute, AreAttributes, no_attributes, one_attribute_more, the_start_tag, an_empty_element, no_content, MayBeMark, the_mark, MayBeDeclaration, the_declaration, the_prolog}
use Rattle.fnl_grammar.proofs.Places.{Place, Entity, p_less, p_first_less, p_comment, p_comment_dash, p_comment_dashes}
use Rattle.fnl_grammar.proofs.ReadsMarkup.{Tagged}
use Rattle.fnl_grammar.proofs.ReadsElements.{there}
use Rattle.fnl_grammar.proofs.Before.{Lies, before_all, inside_one, with_misc, with_element, closed, begun_inside, lies_as, around, OutsideOf, Outside, Fresh, fresh_outside, HasName, has_name, Declares, has_begun, Head, of_element, of_declaration, Spaced, spaced, Equated, equated, Valued, valued, EndsOne, ends_one, OnAll, on_none, on_some, Awaits, letter, Quiet, Stands, stands_start, stands_mark_one, stands_mark_two, stands_marked, stands_first_less, stands_question, stands_question_x, stands_question_xm, stands_content, stands_less, stands_bang, stands_bang_dash, stands_comment, stands_comment_dash, stands_comment_dashes, stands_name, stands_quoted, stands_gap, stands_word, stands_word_gap, stands_equal, stands_value, stands_entity, stands_last_question, stands_slash, stands_end_name, stands_end_gap}

-- where a step goes on, what was read stands so
pub data Good (front : List ℕ) : Next → Type 0 where
  good : {next : State} → Stands next front → Good front (Going next)
  stopped : {rule : Rule} {at : ℕ} → Good front (Fault rule at)

either : {front : List ℕ} (test : Bool) (one other : Next) → (test ≡ true → Good front one) → (test ≡ false → Good front other) → Good front (if test then one else other)
either true one other h k = h refl
either false one other h k = k refl

one_more : (front from bytes : List ℕ) (b c : ℕ) → front ≡ from ++ bytes → (b == c) ≡ true → front ++ b ∷ [] ≡ from ++ (bytes ++ c ∷ [])
one_more front from bytes b c e h = ap (λ f. f ++ b ∷ []) e ∙ append_assoc from bytes (b ∷ []) ∙ ap (λ d. from ++ (bytes ++ d ∷ [])) (eqb-true b c h)

that : (front : List ℕ) (b c : ℕ) → (b == c) ≡ true → front ++ c ∷ [] ≡ front ++ b ∷ []
that front b c h = ap (λ d. front ++ d ∷ []) (sym (eqb-true b c h))

never : {P : Type 0} {b : Bool} → b ≡ true → b ≡ false → P
never {P} {b} yes_ no_ = let same : true ≡ false = sym yes_ ∙ no_ in absurd cc

-- ---- between tags

with_blank : {front : List ℕ} {opened : List (List ℕ)} {begun declares : Bool} {tags : List Tag} {attributes : List Attribute} (b : ℕ) → is_blank b ≡ true → OutsideOf front opened begun declares tags attributes → OutsideOf (front ++ b ∷ []) opened begun declares tags attributes
with_blank b blank o = record { lies = with_misc o.lies (more_space no_misc (the_space b no_blanks blank)); plain = o.plain; none = o.none }

content_kept : (s : State) (front : List ℕ) (b at : ℕ) → at ≡ length front → Outside s front → Good (front ++ b ∷ []) (steps.content at s b)
content_kept s front b at e o =
    either (is_blank b) _ _ (λ blank. good (stands_content refl (with_blank b blank o)))
    (λ none. either (b == 60) _ _ (λ less. let next : Stands (record s { place = p_less; start = at }) (front ++ b ∷ []) = stands_less {from = front} refl o (sym (that front b 60 less)) e in good next) (λ other. stopped))

after_mark_kept : (s : State) (front : List ℕ) (b at : ℕ) → at ≡ length front → Fresh s front → Good (front ++ b ∷ []) (steps.after_mark at s b)
after_mark_kept s front b at e f =
    either (b == 60) _ _ (λ less. let next : Stands (record s { place = p_first_less; start = at }) (front ++ b ∷ []) = stands_first_less {from = front} refl f (sym (that front b 60 less)) e in good next)
    (λ other. content_kept s front b at e (fresh_outside f))

start_kept : (s : State) (front : List ℕ) (b at : ℕ) → at ≡ length front → Fresh s front → front ≡ [] → Good (front ++ b ∷ []) (steps.start at s b)
start_kept s front b at e f none =
    either (b == 239) _ _ (λ mark. good (stands_mark_one refl (subst (Fresh s) none f) (ap (λ x. x ++ b ∷ []) none ∙ ap (λ c. c ∷ []) (eqb-true b 239 mark))))
    (λ other. after_mark_kept s front b at e f)

-- ---- the beginning of a tag

end_tag_kept : (s : State) (front from : List ℕ) (b at : ℕ) → at ≡ length front → Outside s from → front ≡ from ++ codes "<" → (b == 47) ≡ true → Good (front ++ b ∷ []) (steps.end_tag at s)
end_tag_kept s front from b at e o h slash =
    either (is_nil s.opened) _ _ (λ none. stopped)
    (λ some. good (stands_end_name {from = from} [] (last_name s.opened) (λ at s' c. refl) refl
    (ends_one o.lies some refl refl (begun_inside o.lies some) (ap (λ n. s.tags ++ closes n ∷ []) (e ∙ ap length h ∙ length-append from (codes "<"))) o.plain o.none)
    refl (one_more front from (codes "<") b 47 h slash ∙ sym (append-nil (from ++ codes "</")))))

new_tag_kept : (s : State) (front from : List ℕ) (b at : ℕ) → Outside s from → front ≡ from ++ codes "<" → s.start ≡ length from → begins_name b ≡ true → Good (front ++ b ∷ []) (steps.new_tag at s b)
new_tag_kept s front from b at o h start begins =
    either (s.begun && is_nil s.opened) _ _ (λ none. stopped)
    (λ free. good (stands_name refl (has_name {from = from} o.lies free refl o.plain start
    (subst (λ x. IsName (from ++ codes "<") (x ++ b ∷ []) (b ∷ [])) (sym h) (first_of_name b begins))) o.none))

tag_kept : (s : State) (front from : List ℕ) (b at : ℕ) → at ≡ length front → Outside s from → front ≡ from ++ codes "<" → s.start ≡ length from → Good (front ++ b ∷ []) (steps.tag at s b)
tag_kept s front from b at e o h start =
    either (b == 47) _ _ (λ slash. end_tag_kept s front from b at e o h slash)
    (λ other. either (begins_name b) _ _ (λ begins. new_tag_kept s front from b at o h start begins) (λ none. stopped))

less_kept : (s : State) (front from : List ℕ) (b at : ℕ) → at ≡ length front → Outside s from → front ≡ from ++ codes "<" → s.start ≡ length from → Good (front ++ b ∷ []) (steps.less at s b)
less_kept s front from b at e o h start =
    either (b == 33) _ _ (λ bang. good (stands_bang {from = from} refl o (one_more front from (codes "<") b 33 h bang)))
    (λ other. tag_kept s front from b at e o h start)

first_less_kept : (s : State) (front from : List ℕ) (b at : ℕ) → at ≡ length front → Fresh s from → front ≡ from ++ codes "<" → s.start ≡ length from → Good (front ++ b ∷ []) (steps.first_less at s b)
first_less_kept s front from b at e f h start =
    either (b == 63) _ _ (λ question. good (stands_question {from = from} refl f (one_more front from (codes "<") b 63 h question)))
    (λ other. less_kept s front from b at e (fresh_outside f) h start)

declaration_kept : (s : State) (front from : List ℕ) (b at : ℕ) → Fresh s from → front ≡ from ++ codes "<?xm" → Good (front ++ b ∷ []) (steps.declaration at s b)
declaration_kept s front from b at f h =
    either (b == 108) _ _ (λ l. good (stands_quoted {a = front ++ b ∷ []} refl
    (of_declaration (has_begun {from = from} f.mark f.no_opened f.not_begun f.no_tags refl (one_more front from (codes "<?xm") b 108 h l)))
    (subst (AreAttributes (front ++ b ∷ []) (front ++ b ∷ [])) (sym f.none) no_attributes)))
    (λ other. stopped)

-- ---- the end of a tag that begins an element, or of the declaration

opened_kept : (s : State) (front a b' : List ℕ) (b at : ℕ) → HasName (around s) a → AreAttributes a b' s.attributes → AreBlanks b' front → (b == 62) ≡ true
    → Stands (steps.opened s) (front ++ b ∷ [])
opened_kept s front a b' b at (has_name {from = from} l free begun plain start n) given bs e =
    let lies : Lies (front ++ codes ">") (s.opened ++ s.name ∷ []) true (s.tags ++ opens s.name s.attributes (length from) ∷ []) = inside_one l free (the_start_tag n given bs) no_content in
    stands_content refl
    (record {
      lies = subst (λ x. Lies x (s.opened ++ s.name ∷ []) s.begun (s.tags ++ opens s.name s.attributes s.start ∷ [])) (that front b 62 e)
          (lies_as refl (sym begun) (ap (λ n. s.tags ++ opens s.name s.attributes n ∷ []) (sym start)) lies);
      plain = plain;
      none = refl;
    })

emptied_kept : (s : State) (front a b' : List ℕ) (b at : ℕ) → at ≡ length front → HasName (around s) a → AreAttributes a b' s.attributes → AreBlanks b' front → (b == 47) ≡ true
    → Stands (steps.emptied at s) (front ++ b ∷ [])
emptied_kept s front a b' b at here (has_name {from = from} l free begun plain start n) given bs e =
    let lies : Lies (front ++ codes "/>") s.opened true (s.tags ++ opens s.name s.attributes (length from) ∷ closes (length front) ∷ []) = with_element l free (an_empty_element n given bs) in
    let tags_ : s.tags ++ opens s.name s.attributes (length from) ∷ closes (length front) ∷ [] ≡ (s.tags ++ opens s.name s.attributes s.start ∷ []) ++ closes at ∷ [] =
    ap (λ n. s.tags ++ opens s.name s.attributes n ∷ closes (length front) ∷ []) (sym start)
    ∙ ap (λ n. s.tags ++ opens s.name s.attributes s.start ∷ closes n ∷ []) (sym here)
    ∙ sym (append_snoc s.tags (opens s.name s.attributes s.start) (closes at ∷ [])) in
    let bytes : front ++ codes "/>" ≡ (front ++ b ∷ []) ++ codes ">" = sym (append_snoc front 47 (codes ">")) ∙ ap (λ x. x ++ codes ">") (that front b 47 e) in
    stands_slash refl
    (record {
      lies = subst (λ x. Lies x s.opened s.begun ((s.tags ++ opens s.name s.attributes s.start ∷ []) ++ closes at ∷ [])) bytes (lies_as refl (sym begun) tags_ lies);
      plain = plain;
      none = refl;
    })

ends_kept : (s : State) (front a b' : List ℕ) (b at : ℕ) → at ≡ length front → Head (around s) a → AreAttributes a b' s.attributes → AreBlanks b' front → Good (front ++ b ∷ []) (steps.ends at s b)
ends_kept s front a b' b at here (of_element (has_name l free begun plain start n)) given bs =
    either s.declares _ _ (λ is. never is plain)
    (λ no_. either (b == 62) _ _ (λ e. good (opened_kept s front a b' b at (has_name l free begun plain start n) given bs e))
    (λ other. either (b == 47) _ _ (λ e. good (emptied_kept s front a b' b at here (has_name l free begun plain start n) given bs e)) (λ none. stopped)))
ends_kept s front a b' b at here (of_declaration (has_begun m o g ts d f)) given bs =
    either s.declares _ _ (λ is. either (b == 63) _ _ (λ e. good (stands_last_question {a = a} {b = b'} {c = front} refl (has_begun m o g ts d f) given bs (sym (that front b 63 e)))) (λ other. stopped))
    (λ no_. never d no_)

last_question_kept : (s : State) (front a b' c : List ℕ) (b at : ℕ) → Declares (around s) a → AreAttributes a b' s.attributes → AreBlanks b' c → front ≡ c ++ codes "?" → Good (front ++ b ∷ []) (steps.last_question at s b)
last_question_kept s front a b' c b at (has_begun {from = from} mark o g ts d f) given bs h =
    either (b == 62) _ _ (λ e. either (list_all steps.encodes s.attributes) _ _ (λ all. good (stands_content refl (record {
      lies = lies_as (sym o) (sym g) (sym ts) (before_all (the_prolog mark
          (subst (MayBeDeclaration from) (sym (one_more front c (codes "?") b 62 h e)) (the_declaration (subst (λ x. AreAttributes x b' s.attributes) f given) all bs)) no_misc));
      plain = refl;
      none = refl;
    }))) (λ none. stopped))
    (λ other. stopped)

-- ---- names and attributes

space_blanks : {from to : List ℕ} → IsSpace from to → AreBlanks from to
space_blanks (the_space b bs blank) = one_blank_more b bs blank

quoted_kept : (s : State) (front a b' : List ℕ) (b at : ℕ) → at ≡ length front → Head (around s) a → AreAttributes a b' s.attributes → AreBlanks b' front → Good (front ++ b ∷ []) (steps.quoted at s b)
quoted_kept s front a b' b at here head given bs =
    either (is_blank b) _ _ (λ blank. good (stands_gap refl (spaced head given (the_space b bs blank))))
    (λ other. ends_kept s front a b' b at here head given bs)

name_kept : (s : State) (front : List ℕ) (b at : ℕ) → at ≡ length front → HasName (around s) front → s.attributes ≡ [] → Good (front ++ b ∷ []) (steps.name at s b)
name_kept s front b at here (has_name {from = from} l free begun plain start n) none =
    either (goes_on_name b) _ _ (λ more. good (stands_name refl (has_name {from = from} l free begun plain start (next_of_name b n more)) none))
    (λ other. quoted_kept s front front front b at here (of_element (has_name {from = from} l free begun plain start n)) (subst (AreAttributes front front) (sym none) no_attributes) no_blanks)

gap_kept : (s : State) (front : List ℕ) (b at : ℕ) → at ≡ length front → Spaced (around s) s.attributes front → Good (front ++ b ∷ []) (steps.gap at s b)
gap_kept s front b at here (spaced {a = a} {b = b'} head given space) =
    either (begins_name b) _ _ (λ begins. good (stands_word {c = front} refl (spaced head given space) (first_of_name b begins)))
    (λ other. quoted_kept s front a b' b at here head given (space_blanks space))

word_gap_kept : (s : State) (front c d : List ℕ) (b at : ℕ) → Spaced (around s) s.attributes c → IsName c d s.word → AreBlanks d front → Good (front ++ b ∷ []) (steps.word_gap at s b)
word_gap_kept s front c d b at before n bs =
    either (is_blank b) _ _ (λ blank. good (stands_word_gap {c = c} {d = d} refl before n (one_blank_more b bs blank)))
    (λ other. either (b == 61) _ _ (λ e. good (stands_equal refl (equated before n bs (subst (AreBlanks (front ++ codes "=")) (that front b 61 e) no_blanks)))) (λ none. stopped))

word_kept : (s : State) (front c : List ℕ) (b at : ℕ) → Spaced (around s) s.attributes c → IsName c front s.word → Good (front ++ b ∷ []) (steps.word at s b)
word_kept s front c b at before n =
    either (goes_on_name b) _ _ (λ more. good (stands_word {c = c} refl before (next_of_name b n more)))
    (λ other. word_gap_kept s front c front b at before n no_blanks)

equal_kept : (s : State) (front : List ℕ) (b at : ℕ) → at ≡ length front → Equated (around s) s.attributes s.word front → Good (front ++ b ∷ []) (steps.equal at s b)
equal_kept s front b at here (equated before n left right) =
    either (is_blank b) _ _ (λ blank. good (stands_equal refl (equated before n left (one_blank_more b right blank))))
    (λ other. either ((b == 34) || (b == 39)) _ _ (λ quote. good (stands_value {quote = b} refl (valued {f = front} (equated before n left right) quote (ap (λ n. n + 1) here) nothing_quoted))) (λ none. stopped))

-- ---- values

valued_kept : (s : State) (front : List ℕ) (quote b : ℕ) → Valued (around s) s.attributes s.word s.value s.value_at quote front → (b == quote) ≡ true → Stands (steps.valued s) (front ++ b ∷ [])
valued_kept s front quote b (valued {f = f} (equated {c = c} (spaced {a = a} head given space) n left right) q at inside) e =
    let last : IsAttribute c (front ++ quote ∷ []) (attribute s.word s.value (length f + 1)) = the_attribute n left right q inside in
    let there : IsAttribute c (front ++ b ∷ []) (attribute s.word s.value s.value_at) =
    subst (λ x. IsAttribute c x (attribute s.word s.value s.value_at)) (that front b quote e) (subst (λ m. IsAttribute c (front ++ quote ∷ []) (attribute s.word s.value m)) (sym at) last) in
    stands_quoted {a = a} refl head (one_attribute_more given space there)

plain_kept : {t : Tagged} {attributes : List Attribute} {word value front : List ℕ} {value_at quote : ℕ} (b : ℕ) → Valued t attributes word value value_at quote front → (b == quote) ≡ false → (b == 38) ≡ false → (b == 60) ≡ false
    → Valued t attributes word (value ++ b ∷ []) value_at quote (front ++ b ∷ [])
plain_kept {quote = quote} b (valued before q at inside) e1 e2 e3 = valued before q at (one_byte_more b inside (rw (e1, e2, e3) refl))

value_kept : (s : State) (front : List ℕ) (quote b at : ℕ) → Valued (around s) s.attributes s.word s.value s.value_at quote front → Good (front ++ b ∷ []) (steps.value quote at s b)
value_kept s front quote b at h =
    either (b == quote) _ _ (λ e. good (valued_kept s front quote b h e))
    (λ e1. either (b == 38) _ _
    (λ e. good (stands_entity {quote = quote} {g = front} 4 (codes "&") refl h (
      on_none,
      λ b. letter 3 (codes "&") b 108 _ _
          (on_none, λ b. letter 2 (codes "&l") b 116 _ _ (on_some (λ g. less_than), λ b. on_none) on_none)
          (letter 3 (codes "&") b 103 _ _
          (on_none, λ b. letter 2 (codes "&g") b 116 _ _ (on_some (λ g. greater_than), λ b. on_none) on_none)
          (letter 3 (codes "&") b 113 _ _ (
            on_none,
            λ b. letter 2 (codes "&q") b 117 _ _ (
              on_none,
              λ b. letter 1 (codes "&qu") b 111 _ _
                  (on_none, λ b. letter 0 (codes "&quo") b 116 _ _ (on_some (λ g. quotation_mark), λ b. refl) on_none) on_none,
            ) on_none,
          )
          (letter 3 (codes "&") b 97 _ _ (
            on_none,
            λ b. letter 2 (codes "&a") b 109 _ _
                (on_none, λ b. letter 1 (codes "&am") b 112 _ _ (on_some (λ g. ampersand), λ b. on_none) on_none)
                (letter 2 (codes "&a") b 112 _ _ (
                  on_none,
                  λ b. letter 1 (codes "&ap") b 111 _ _
                      (on_none, λ b. letter 0 (codes "&apo") b 115 _ _ (on_some (λ g. apostrophe), λ b. refl) on_none) on_none,
                )
                on_none),
          )
          on_none))),
    )
    (sym (that front b 38 e))))
    (λ e2. either (b == 60) _ _ (λ e. stopped) (λ e3. good (stands_value {quote = quote} refl (plain_kept b h e1 e2 e3)))))

entity_end_kept : (s : State) (front g letters : List ℕ) (quote b at : ℕ) (found : Option ℕ) → Valued (around s) s.attributes s.word s.value s.value_at quote g
    → OnAll (λ c. (front : List ℕ) → IsReference front (front ++ (letters ++ 59 ∷ [])) c) found → front ≡ g ++ letters → (b == 59) ≡ true → Good (front ++ b ∷ []) (steps.entity_end quote at s found)
entity_end_kept s front g letters quote b at None h m e semicolon = stopped
entity_end_kept s front g letters quote b at (Some c) (valued before q there inside) (on_some means) e semicolon =
    good (stands_value {quote = quote} refl (valued before q there (one_reference_more inside (subst (λ x. IsReference g x c) (sym (one_more front g letters b 59 e semicolon)) (means g)))))

entity_letter_kept : (s : State) (front g letters : List ℕ) (quote n b at : ℕ) (found : Option Entity) → Valued (around s) s.attributes s.word s.value s.value_at quote g
    → OnAll (λ next. Awaits n next (letters ++ b ∷ [])) found → front ≡ g ++ letters → Good (front ++ b ∷ []) (steps.entity_letter quote at s found)
entity_letter_kept s front g letters quote n b at None h m e = stopped
entity_letter_kept s front g letters quote n b at (Some next) h (on_some more) e =
    good (stands_entity {quote = quote} {g = g} n (letters ++ b ∷ []) refl h more (ap (λ f. f ++ b ∷ []) e ∙ append_assoc g letters (b ∷ [])))

entity_kept : (s : State) (front g letters : List ℕ) (quote n b at : ℕ) (read : Entity) → Valued (around s) s.attributes s.word s.value s.value_at quote g → Awaits n read letters → front ≡ g ++ letters
    → Good (front ++ b ∷ []) (steps.entity quote read at s b)
entity_kept s front g letters quote zero b at read h (means, none) e =
    either (b == 59) _ _ (λ semicolon. entity_end_kept s front g letters quote b at (meaning read) h means e semicolon)
    (λ other. subst (λ found. Good (front ++ b ∷ []) (steps.entity_letter quote at s found)) (sym (none b)) stopped)
entity_kept s front g letters quote (suc n) b at read h (means, more) e =
    either (b == 59) _ _ (λ semicolon. entity_end_kept s front g letters quote b at (meaning read) h means e semicolon)
    (λ other. entity_letter_kept s front g letters quote n b at (longer read b) h (more b) e)

-- ---- end tags

end_gap_kept : (s : State) (front from : List ℕ) (b at : ℕ) → EndsOne (around s) s.attributes from → AreBlanks (from ++ codes "</" ++ s.name) front → Good (front ++ b ∷ []) (steps.end_gap at s b)
end_gap_kept s front from b at (ends_one {names = names} {old = old} l some opened name begun tags plain none) bs =
    either (is_blank b) _ _ (λ blank. good (stands_end_gap {from = from} refl (ends_one {names = names} {old = old} l some opened name begun tags plain none) (one_blank_more b bs blank)))
    (λ other. either (b == 62) _ _ (λ e. good (stands_content refl (record {
      lies = subst (λ x. Lies x s.opened s.begun s.tags) (that front b 62 e)
          (lies_as (sym opened) (sym begun) (sym tags) (closed l some (subst (λ n. AreBlanks (from ++ codes "</" ++ n) front) name bs)));
      plain = plain;
      none = none;
    }))) (λ none. stopped))

end_name_kept : (s : State) (front from done rest : List ℕ) (b at : ℕ) → EndsOne (around s) s.attributes from → s.name ≡ done ++ rest → front ≡ from ++ codes "</" ++ done
    → Good (front ++ b ∷ []) (steps.end_name (length done) at s b)
end_name_kept s front from done [] b at h n e =
    let all : s.name ≡ done = n ∙ append-nil done in
    let full : nat_lt (length done) (length s.name) ≡ false = le-ltb (length done) (length s.name) (let size : length s.name ≡ length done = ap length all in omega arith) in
    either (nat_lt (length done) (length s.name)) _ _ (λ less. never less full)
    (λ none. end_gap_kept s front from b at h (subst (λ x. AreBlanks (from ++ codes "</" ++ x) front) (sym all) (subst (λ x. AreBlanks x front) e no_blanks)))
end_name_kept s front from done (c ∷ rest) b at h n e =
    let size : length s.name ≡ length (done ++ c ∷ rest) = ap length n in
    let counted = length-append done (c ∷ rest) in
    let more : nat_lt (length done) (length s.name) ≡ true = lt-ltb (length done) (length s.name) (omega arith) in
    let here : slice_index s.name (length done) ≡ c = ap (λ x. slice_index x (length done)) n ∙ there done rest c in
    let grown : length done + 1 ≡ length (done ++ c ∷ []) = let one = length-append done (c ∷ []) in omega arith in
    either (nat_lt (length done) (length s.name)) _ _
    (λ less. either (b == slice_index s.name (length done)) _ _
    (λ same. good (stands_end_name {from = from} (done ++ c ∷ []) rest (λ at s' d. ap (λ k. steps.end_name k at s' d) grown) refl h
    (n ∙ sym (append_snoc done c rest)) (one_more front (from ++ codes "</") done b c e (ap (λ x. b == x) (sym here) ∙ same))))
    (λ other. stopped))
    (λ none. never more none)

-- ---- comments

record Snoc (bytes : List ℕ) : Type 0 where
  before : List ℕ
  last : ℕ
  is : bytes ≡ before ++ last ∷ []

unsnoc : (b : ℕ) (bytes : List ℕ) → Snoc (b ∷ bytes)
unsnoc b [] = record { before = []; last = b; is = refl }
unsnoc b (c ∷ bytes) = let rest = unsnoc c bytes in record { before = b ∷ rest.before; last = rest.last; is = ap (λ x. b ∷ x) rest.is }

none_shorter : (ys : List ℕ) (b : ℕ) → [] ≡ ys ++ b ∷ [] → ⊥
none_shorter [] b e = cc
none_shorter (y ∷ ys) b e = cc

snoc_is : (xs ys : List ℕ) (a b : ℕ) → xs ++ a ∷ [] ≡ ys ++ b ∷ [] → (xs ≡ ys) × (a ≡ b)
snoc_is [] [] a b e = (refl, cc)
snoc_is [] (y ∷ ys) a b e = let rest : [] ≡ ys ++ b ∷ [] = cc in absurd (none_shorter ys b rest)
snoc_is (x ∷ xs) [] a b e = let rest : xs ++ a ∷ [] ≡ [] = cc in absurd (none_shorter xs a (sym rest))
snoc_is (x ∷ xs) (y ∷ ys) a b e =
    let first : x ≡ y = cc in
    let rest : xs ++ a ∷ [] ≡ ys ++ b ∷ [] = cc in
    let more = snoc_is xs ys a b rest in
    (ap (λ z. z ∷ xs) first ∙ ap (λ zs. y ∷ zs) more.0, more.1)

-- one byte more, which ends no comment
grown : (bytes : List ℕ) (b : ℕ) → HoldsNoEnd bytes → ((before : List ℕ) → bytes ≡ before ++ 45 ∷ 45 ∷ [] → b ≡ 62 → ⊥) → HoldsNoEnd (bytes ++ b ∷ [])
grown bytes b none never_ before [] e =
    let same = snoc_is bytes (before ++ 45 ∷ 45 ∷ []) b 62 (e ∙ append-nil (before ++ codes "-->") ∙ sym (append_assoc before (45 ∷ 45 ∷ []) (62 ∷ []))) in
    never_ before same.0 same.1
grown bytes b none never_ before (c ∷ after) e =
    let last = unsnoc c after in
    let same = snoc_is bytes (before ++ codes "-->" ++ last.before) b last.last (e ∙ ap (λ x. before ++ codes "-->" ++ x) last.is ∙ sym (append_assoc (before ++ codes "-->") last.before (last.last ∷ []))) in
    none before last.before same.0

two_dashes : (before : List ℕ) → before ++ 45 ∷ 45 ∷ [] ≡ (before ++ 45 ∷ []) ++ 45 ∷ []
two_dashes before = sym (append_snoc before 45 (45 ∷ []))

quiet_grown : (bytes : List ℕ) (b : ℕ) → HoldsNoEnd bytes → Quiet bytes → HoldsNoEnd (bytes ++ b ∷ [])
quiet_grown bytes b none quiet = grown bytes b none (λ before e is. quiet (before ++ 45 ∷ []) (e ∙ two_dashes before))

dash_grown : (bytes : List ℕ) (b : ℕ) → HoldsNoEnd (bytes ++ 45 ∷ []) → Quiet bytes → HoldsNoEnd ((bytes ++ 45 ∷ []) ++ b ∷ [])
dash_grown bytes b none quiet = grown (bytes ++ 45 ∷ []) b none (λ before e is. quiet before (snoc_is bytes (before ++ 45 ∷ []) 45 45 (e ∙ two_dashes before)).0)

dashes_grown : (bytes : List ℕ) (b : ℕ) → HoldsNoEnd bytes → (b == 62) ≡ false → HoldsNoEnd (bytes ++ b ∷ [])
dashes_grown bytes b none other = grown bytes b none (λ before e is. let same : (b == 62) ≡ true = ap (λ c. c == 62) is in never same other)

quiet_after : (bytes : List ℕ) (b : ℕ) → (b == 45) ≡ false → Quiet (bytes ++ b ∷ [])
quiet_after bytes b other before e = let same : (b == 45) ≡ true = ap (λ c. c == 45) (snoc_is bytes before b 45 e).1 in never same other

one_byte : (front from inside : List ℕ) (b : ℕ) → front ≡ from ++ inside → front ++ b ∷ [] ≡ from ++ (inside ++ b ∷ [])
one_byte front from inside b e = ap (λ f. f ++ b ∷ []) e ∙ append_assoc from inside (b ∷ [])

comment_kept : (s : State) (front from inside : List ℕ) (b : ℕ) → Outside s from → front ≡ from ++ codes "<!--" ++ inside → HoldsNoEnd inside → Quiet inside → Good (front ++ b ∷ []) (steps.comment s b)
comment_kept s front from inside b o e none quiet = by (b == 45) refl
  where
    by : (t : Bool) → (b == 45) ≡ t → Good (front ++ b ∷ []) (steps.goes s (if t then p_comment_dash else p_comment))
    by true dash = good (stands_comment_dash {from = from} (inside) refl o (one_more front (from ++ codes "<!--") inside b 45 e dash) (quiet_grown inside 45 none quiet) quiet)
    by false other = good (stands_comment {from = from} (inside ++ b ∷ []) refl o (one_byte front (from ++ codes "<!--") inside b e) (quiet_grown inside b none quiet) (quiet_after inside b other))

comment_dash_kept : (s : State) (front from inside : List ℕ) (b : ℕ) → Outside s from → front ≡ from ++ codes "<!--" ++ (inside ++ 45 ∷ []) → HoldsNoEnd (inside ++ 45 ∷ []) → Quiet inside → Good (front ++ b ∷ []) (steps.comment_dash s b)
comment_dash_kept s front from inside b o e none quiet = by (b == 45) refl
  where
    by : (t : Bool) → (b == 45) ≡ t → Good (front ++ b ∷ []) (steps.goes s (if t then p_comment_dashes else p_comment))
    by true dash = good (stands_comment_dashes {from = from} (inside) refl o (one_more front (from ++ codes "<!--") (inside ++ 45 ∷ []) b 45 e dash ∙ ap (λ x. from ++ codes "<!--" ++ x) (sym (two_dashes inside)))
        (subst HoldsNoEnd (sym (two_dashes inside)) (dash_grown inside 45 none quiet)))
    by false other = good (stands_comment {from = from} ((inside ++ 45 ∷ []) ++ b ∷ []) refl o (one_byte front (from ++ codes "<!--") (inside ++ 45 ∷ []) b e) (dash_grown inside b none quiet) (quiet_after (inside ++ 45 ∷ []) b other))

comment_dashes_kept : (s : State) (front from inside : List ℕ) (b : ℕ) → Outside s from → front ≡ from ++ codes "<!--" ++ (inside ++ 45 ∷ 45 ∷ []) → HoldsNoEnd (inside ++ 45 ∷ 45 ∷ []) → Good (front ++ b ∷ []) (steps.comment_dashes s b)
comment_dashes_kept s front from inside b o e none = either (b == 62) _ _ (λ ends. good (stands_content refl (ended ends))) (λ other. by other (b == 45) refl)
  where
    free : HoldsNoEnd inside
    free before after h = none before (after ++ 45 ∷ 45 ∷ []) (ap (λ x. x ++ 45 ∷ 45 ∷ []) h ∙ append_assoc (before ++ codes "-->") after (45 ∷ 45 ∷ []))

    ended : (b == 62) ≡ true → Outside s (front ++ b ∷ [])
    ended ends =
        let bytes : front ++ b ∷ [] ≡ from ++ codes "<!--" ++ inside ++ codes "-->" =
        one_more front (from ++ codes "<!--") (inside ++ 45 ∷ 45 ∷ []) b 62 e ends ∙ ap (λ x. from ++ codes "<!--" ++ x) (append_assoc inside (45 ∷ 45 ∷ []) (62 ∷ [])) ∙ sym (append_assoc (from ++ codes "<!--") inside (codes "-->")) in
        record { lies = with_misc o.lies (subst (AreMisc from) (sym bytes) (one_comment_more no_misc (the_comment inside free))); plain = o.plain; none = o.none }

    more : (inside ++ 45 ∷ 45 ∷ []) ++ 45 ∷ [] ≡ (inside ++ 45 ∷ []) ++ 45 ∷ 45 ∷ []
    more = append_assoc inside (45 ∷ 45 ∷ []) (45 ∷ []) ∙ sym (append_assoc inside (45 ∷ []) (45 ∷ 45 ∷ []))

    by : (b == 62) ≡ false → (t : Bool) → (b == 45) ≡ t → Good (front ++ b ∷ []) (steps.goes s (if t then p_comment_dashes else p_comment))
    by no_end true dash =
        good (stands_comment_dashes {from = from} (inside ++ 45 ∷ []) refl o (one_more front (from ++ codes "<!--") (inside ++ 45 ∷ 45 ∷ []) b 45 e dash ∙ ap (λ x. from ++ codes "<!--" ++ x) more)
        (subst HoldsNoEnd more (dashes_grown (inside ++ 45 ∷ 45 ∷ []) 45 none refl)))
    by no_end false other = good (stands_comment {from = from} ((inside ++ 45 ∷ 45 ∷ []) ++ b ∷ []) refl o (one_byte front (from ++ codes "<!--") (inside ++ 45 ∷ 45 ∷ []) b e) (dashes_grown (inside ++ 45 ∷ 45 ∷ []) b none no_end) (quiet_after (inside ++ 45 ∷ 45 ∷ []) b other))

-- ---- all bytes

pub byte_kept : (s : State) (front : List ℕ) (b : ℕ) → Stands s front → Good (front ++ b ∷ []) (step (length front) s b)
byte_kept s front b h = by h
  where
    at_place : {p : Place} → s.place ≡ p → Good (front ++ b ∷ []) (step_at p (length front) s b) → Good (front ++ b ∷ []) (step (length front) s b)
    at_place e k = subst (λ p. Good (front ++ b ∷ []) (step_at p (length front) s b)) (sym e) k

    by : Stands s front → Good (front ++ b ∷ []) (step (length front) s b)
    by (stands_start p f e) = at_place p (start_kept s front b (length front) refl f e)
    by (stands_mark_one p f e) = at_place p (either (b == 187) _ _ (λ is. good (stands_mark_two refl f (ap (λ x. x ++ b ∷ []) e ∙ ap (λ c. 239 ∷ c ∷ []) (eqb-true b 187 is)))) (λ other. stopped))
    by (stands_mark_two p f e) = at_place p (either (b == 191) _ _ (λ is. good (stands_marked refl (record {
      mark = subst (MayBeMark []) (sym (ap (λ x. x ++ b ∷ []) e ∙ ap (λ c. 239 ∷ 187 ∷ c ∷ []) (eqb-true b 191 is))) the_mark;
      no_opened = f.no_opened;
      not_begun = f.not_begun;
      no_tags = f.no_tags;
      plain = f.plain;
      none = f.none;
    }))) (λ other. stopped))
    by (stands_marked p f) = at_place p (after_mark_kept s front b (length front) refl f)
    by (stands_first_less {from = from} p f e start) = at_place p (first_less_kept s front from b (length front) refl f e start)
    by (stands_question {from = from} p f e) = at_place p (either (b == 120) _ _ (λ is. good (stands_question_x {from = from} refl f (one_more front from (codes "<?") b 120 e is))) (λ other. stopped))
    by (stands_question_x {from = from} p f e) = at_place p (either (b == 109) _ _ (λ is. good (stands_question_xm {from = from} refl f (one_more front from (codes "<?x") b 109 e is))) (λ other. stopped))
    by (stands_question_xm {from = from} p f e) = at_place p (declaration_kept s front from b (length front) f e)
    by (stands_content p o) = at_place p (content_kept s front b (length front) refl o)
    by (stands_less {from = from} p o e start) = at_place p (less_kept s front from b (length front) refl o e start)
    by (stands_bang {from = from} p o e) = at_place p (either (b == 45) _ _ (λ is. good (stands_bang_dash {from = from} refl o (one_more front from (codes "<!") b 45 e is))) (λ other. stopped))
    by (stands_bang_dash {from = from} p o e) = at_place p (either (b == 45) _ _ (λ is. good (stands_comment {from = from} ([]) refl o (one_more front from (codes "<!-") b 45 e is ∙ sym (append-nil (from ++ codes "<!--"))) no_end none_shorter_)) (λ other. stopped))
      where
        no_end : HoldsNoEnd []
        no_end [] after h = cc
        no_end (c ∷ before) after h = cc

        none_shorter_ : Quiet []
        none_shorter_ before h = none_shorter before 45 h
    by (stands_comment {from = from} (inside) p o e none quiet) = at_place p (comment_kept s front from inside b o e none quiet)
    by (stands_comment_dash {from = from} (inside) p o e none quiet) = at_place p (comment_dash_kept s front from inside b o e none quiet)
    by (stands_comment_dashes {from = from} (inside) p o e none) = at_place p (comment_dashes_kept s front from inside b o e none)
    by (stands_name p n none) = at_place p (name_kept s front b (length front) refl n none)
    by (stands_quoted {a = a} p head given) = at_place p (quoted_kept s front a front b (length front) refl head given no_blanks)
    by (stands_gap p k) = at_place p (gap_kept s front b (length front) refl k)
    by (stands_word {c = c} p k n) = at_place p (word_kept s front c b (length front) k n)
    by (stands_word_gap {c = c} {d = d} p k n bs) = at_place p (word_gap_kept s front c d b (length front) k n bs)
    by (stands_equal p k) = at_place p (equal_kept s front b (length front) refl k)
    by (stands_value {quote = quote} p k) = at_place p (value_kept s front quote b (length front) k)
    by (stands_entity {quote = quote} {read = read} {g = g} n letters p k a e) = at_place p (entity_kept s front g letters quote n b (length front) read k a e)
    by (stands_last_question {a = a} {b = b'} {c = c} p d given bs e) = at_place p (last_question_kept s front a b' c b (length front) d given bs e)
    by (stands_slash p o) = at_place p (either (b == 62) _ _ (λ e. good (stands_content refl (subst (Outside s) (that front b 62 e) o))) (λ other. stopped))
    by (stands_end_name {from = from} done rest acts elsewhere h n e) = subst (Good (front ++ b ∷ [])) (sym (acts (length front) s b)) (end_name_kept s front from done rest b (length front) h n e)
    by (stands_end_gap {from = from} p h bs) = at_place p (end_gap_kept s front from b (length front) h bs)
