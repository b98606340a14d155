-- What was read stands in the productions: what stands before a tag or a comment, and what may follow.
use Rattle.std.proofs.Common.{◌≡◌, ℕ, zero, suc, ◌+◌, Bool, true, false, List, [], ◌∷◌, ◌++◌, length, Option, None, Some, refl, sym, subst, append_assoc}
use Rattle.std.specs.Prelude.{if◌then◌else◌, ◌==◌, ◌&&◌, codes}
use Rattle.std.proofs.lemmas.Bool.{eqb-true}
use Rattle.fnl_markup.specs.Tags.{Attribute, Tag, opens, closes}
use Rattle.fnl_markup.specs.State.{State}
use Rattle.fnl_markup.specs.Entities.{meaning, longer}
use Rattle.fnl_markup.specs.Step.{step_at, end_name, last_name, other_names, is_nil}
use Rattle.fnl_markup.specs.Markup.{is_content}
use Rattle.fnl_grammar.specs.Markup.{AreBlanks, IsSpace, IsName, first_of_name, next_of_name, HoldsNoEnd, AreMisc, no_misc, one_comment_more, more_space, IsReference, is_quote, IsQuoted, AreAttributes, IsStartTag, the_start_tag, IsEndTag, the_end_tag, IsElement, an_element, IsContent, one_element_more, more_misc, MayBeMark, no_declaration, IsProlog, the_prolog}
use Rattle.fnl_grammar.proofs.Places.{Entity, p_start, p_mark_one, p_mark_two, p_marked, p_first_less, p_question, p_question_x, p_question_xm, p_content, p_less, p_bang, p_bang_dash, p_comment, p_comment_dash, p_comment_dashes, p_name, p_gap, p_word, p_word_gap, p_equal, p_value, p_entity, p_quoted, p_last_question, p_slash, p_end_gap}
use Rattle.fnl_grammar.proofs.ReadsMarkup.{Tagged}
use Rattle.fnl_grammar.proofs.ReadsElements.{last_added, others_kept}

-- ---- between tags

-- what stands before a tag, and the elements that are open there
pub data Lies : List ℕ → List (List ℕ) → Bool → List Tag → Type 0 where
  before_all : {front : List ℕ} → IsProlog front → Lies front [] false []
  behind_one : {a b front : List ℕ} {tags : List Tag} → IsProlog a → IsElement a b tags → AreMisc b front → Lies front [] true tags
  inside_one : {from a front name : List ℕ} {attributes : List Attribute} {names : List (List ℕ)} {begun : Bool} {old tags : List Tag}
      → Lies from names begun old → (begun && is_nil names) ≡ false → IsStartTag from a name attributes → IsContent a front tags
      → Lies front (names ++ name ∷ []) true (old ++ opens name attributes (length from) ∷ tags)

misc_append : {a b c : List ℕ} → AreMisc a b → AreMisc b c → AreMisc a c
misc_append h no_misc = h
misc_append h (one_comment_more more k) = one_comment_more (misc_append h more) k
misc_append h (more_space more k) = more_space (misc_append h more) k

pub with_misc : {from to : List ℕ} {names : List (List ℕ)} {begun : Bool} {tags : List Tag} → Lies from names begun tags → AreMisc from to → Lies to names begun tags
with_misc (before_all (the_prolog mark declares misc)) more = before_all (the_prolog mark declares (misc_append misc more))
with_misc (behind_one p e misc) more = behind_one p e (misc_append misc more)
with_misc (inside_one l free s c) more = inside_one l free s (more_misc c more)

pub with_element : {from to : List ℕ} {names : List (List ℕ)} {begun : Bool} {old more : List Tag} → Lies from names begun old → (begun && is_nil names) ≡ false → IsElement from to more → Lies to names true (old ++ more)
with_element (before_all p) free e = behind_one p e no_misc
with_element (behind_one p d misc) free e = absurd cc
with_element {to = to} {more = more} (inside_one {from = x} {name = name} {attributes = attributes} {names = names} {old = old} {tags = tags} l f s c) free e =
    subst (Lies to (names ++ name ∷ []) true) (sym (append_assoc old (opens name attributes (length x) ∷ tags) more)) (inside_one l f s (one_element_more c e))

-- a name stands behind other bytes too
name_at : {from to name : List ℕ} → IsName from to name → (front : List ℕ) → IsName front (front ++ name) name
name_at (first_of_name b h) front = first_of_name b h
name_at (next_of_name {name = name} b more h) front = subst (λ xs. IsName front xs (name ++ b ∷ [])) (append_assoc front name (b ∷ [])) (next_of_name b (name_at more front) h)

started_name : {from a name : List ℕ} {attributes : List Attribute} → IsStartTag from a name attributes → (front : List ℕ) → IsName front (front ++ name) name
started_name (the_start_tag n given bs) front = name_at n front

-- an end tag ends the innermost element
pub closed : {from c : List ℕ} {names : List (List ℕ)} {begun : Bool} {old : List Tag} → Lies from names begun old → is_nil names ≡ false → AreBlanks (from ++ codes "</" ++ last_name names) c
    → Lies (c ++ codes ">") (other_names names) true (old ++ closes (length from + 1) ∷ [])
closed (before_all p) e bs = absurd cc
closed (behind_one p d misc) e bs = absurd cc
closed {from} {c} (inside_one {from = x} {name = name} {attributes = attributes} {names = names} {old = old} {tags = tags} l free s content) e bs =
    let blanks : AreBlanks (from ++ codes "</" ++ name) c = subst (λ n. AreBlanks (from ++ codes "</" ++ n) c) (last_added names name) bs in
    let end : IsEndTag from (c ++ codes ">") name = the_end_tag (started_name s (from ++ codes "</")) blanks in
    let all : Lies (c ++ codes ">") names true (old ++ (opens name attributes (length x) ∷ tags ++ closes (length from + 1) ∷ [])) = with_element l free (an_element s content end) in
    subst (λ ns. Lies (c ++ codes ">") ns true ((old ++ opens name attributes (length x) ∷ tags) ++ closes (length from + 1) ∷ [])) (sym (others_kept names name))
    (subst (Lies (c ++ codes ">") names true) (sym (append_assoc old (opens name attributes (length x) ∷ tags) (closes (length from + 1) ∷ []))) all)

-- where an element is open, one has begun
pub begun_inside : {front : List ℕ} {names : List (List ℕ)} {begun : Bool} {tags : List Tag} → Lies front names begun tags → is_nil names ≡ false → begun ≡ true
begun_inside (before_all p) e = absurd cc
begun_inside (behind_one p d misc) e = refl
begun_inside (inside_one l f s c) e = refl

pub lies_as : {front : List ℕ} {names names' : List (List ℕ)} {begun begun' : Bool} {tags tags' : List Tag} → names ≡ names' → begun ≡ begun' → tags ≡ tags' → Lies front names begun tags → Lies front names' begun' tags'
lies_as {front} {names} {names'} {begun} {begun'} {tags} {tags'} e1 e2 e3 l =
    subst (λ x. Lies front x begun' tags') e1 (subst (λ x. Lies front names x tags') e2 (subst (λ x. Lies front names begun x) e3 l))

-- ---- what a reader has at hand, by what was read

-- of what stands round a tag
abbrev pub around : State → Tagged
around s = record { start = s.start; declares = s.declares; name = s.name; opened = s.opened; begun = s.begun; tags = s.tags }

-- a tag or a comment may begin here
pub record OutsideOf (front : List ℕ) (opened : List (List ℕ)) (begun declares : Bool) (tags : List Tag) (attributes : List Attribute) : Type 0 where
  pub lies : Lies front opened begun tags
  pub plain : declares ≡ false
  pub none : attributes ≡ []

abbrev pub Outside : State → List ℕ → Type 0
Outside s front = OutsideOf front s.opened s.begun s.declares s.tags s.attributes

-- nothing but the mark was read
pub record FreshOf (front : List ℕ) (opened : List (List ℕ)) (begun declares : Bool) (tags : List Tag) (attributes : List Attribute) : Type 0 where
  pub mark : MayBeMark [] front
  pub no_opened : opened ≡ []
  pub not_begun : begun ≡ false
  pub no_tags : tags ≡ []
  pub plain : declares ≡ false
  pub none : attributes ≡ []

abbrev pub Fresh : State → List ℕ → Type 0
Fresh s front = FreshOf front s.opened s.begun s.declares s.tags s.attributes

pub fresh_outside : {front : List ℕ} {opened : List (List ℕ)} {begun declares : Bool} {tags : List Tag} {attributes : List Attribute} → FreshOf front opened begun declares tags attributes → OutsideOf front opened begun declares tags attributes
fresh_outside f = record { lies = lies_as (sym f.no_opened) (sym f.not_begun) (sym f.no_tags) (before_all (the_prolog f.mark no_declaration no_misc)); plain = f.plain; none = f.none }

-- the name of a tag that begins an element, so far
pub data HasName (t : Tagged) (front : List ℕ) : Type 0 where
  has_name : {from : List ℕ} {begun : Bool} → Lies from t.opened begun t.tags → (begun && is_nil t.opened) ≡ false → t.begun ≡ true → t.declares ≡ false → t.start ≡ length from
      → IsName (from ++ codes "<") front t.name → HasName t front

-- the declaration begins so
pub data Declares (t : Tagged) (front : List ℕ) : Type 0 where
  has_begun : {from : List ℕ} → MayBeMark [] from → t.opened ≡ [] → t.begun ≡ false → t.tags ≡ [] → t.declares ≡ true → front ≡ from ++ codes "<?xml" → Declares t front

-- what attributes stand behind
pub data Head (t : Tagged) (front : List ℕ) : Type 0 where
  of_element : HasName t front → Head t front
  of_declaration : Declares t front → Head t front

-- attributes, and a blank before the next
pub data Spaced (t : Tagged) (attributes : List Attribute) (front : List ℕ) : Type 0 where
  spaced : {a b : List ℕ} → Head t a → AreAttributes a b attributes → IsSpace b front → Spaced t attributes front

-- attributes, and the next one up to its `=`
pub data Equated (t : Tagged) (attributes : List Attribute) (word front : List ℕ) : Type 0 where
  equated : {c d e : List ℕ} → Spaced t attributes c → IsName c d word → AreBlanks d e → AreBlanks (e ++ codes "=") front → Equated t attributes word front

-- attributes, and the next one up to a part of its value
pub data Valued (t : Tagged) (attributes : List Attribute) (word value : List ℕ) (value_at quote : ℕ) (front : List ℕ) : Type 0 where
  valued : {f : List ℕ} → Equated t attributes word f → is_quote quote ≡ true → value_at ≡ length f + 1 → IsQuoted quote (f ++ quote ∷ []) front value
      → Valued t attributes word value value_at quote front

-- the end tag of the innermost element, which was open before it
pub data EndsOne (t : Tagged) (attributes : List Attribute) (from : List ℕ) : Type 0 where
  ends_one : {names : List (List ℕ)} {begun : Bool} {old : List Tag} → Lies from names begun old → is_nil names ≡ false → t.opened ≡ other_names names → t.name ≡ last_name names
      → t.begun ≡ true → t.tags ≡ old ++ closes (length from + 1) ∷ [] → t.declares ≡ false → attributes ≡ [] → EndsOne t attributes from

-- ---- entities

pub data OnAll {A : Type 0} (P : A → Type 0) : Option A → Type 0 where
  on_none : OnAll P None
  on_some : {x : A} → P x → OnAll P (Some x)

-- an entity with these letters means what it stands for
abbrev Means : Entity → List ℕ → Type 0
Means read letters = OnAll (λ c. (front : List ℕ) → IsReference front (front ++ (letters ++ 59 ∷ [])) c) (meaning read)

-- of these letters so many more may follow
abbrev pub Awaits : ℕ → Entity → List ℕ → Type 0
Awaits zero read letters = Means read letters × ((b : ℕ) → longer read b ≡ None)
Awaits (suc n) read letters = Means read letters × ((b : ℕ) → OnAll (λ next. Awaits n next (letters ++ b ∷ [])) (longer read b))

pub letter : (n : ℕ) (letters : List ℕ) (b k : ℕ) (next : Entity) (other : Option Entity) → Awaits n next (letters ++ k ∷ []) → OnAll (λ x. Awaits n x (letters ++ b ∷ [])) other
    → OnAll (λ x. Awaits n x (letters ++ b ∷ [])) (if b == k then Some next else other)
letter n letters b k next other h rest = by (b == k) refl
  where
    by : (t : Bool) → (b == k) ≡ t → OnAll (λ x. Awaits n x (letters ++ b ∷ [])) (if t then Some next else other)
    by true e = on_some (subst (λ c. Awaits n next (letters ++ c ∷ [])) (sym (eqb-true b k e)) h)
    by false e = rest

-- ---- comments

-- it doesn't end in `-`
abbrev pub Quiet : List ℕ → Type 0
Quiet bytes = (before : List ℕ) → bytes ≡ before ++ 45 ∷ [] → ⊥

-- ---- what was read, place by place

pub data Stands (s : State) (front : List ℕ) : Type 0 where
  stands_start : s.place ≡ p_start → Fresh s front → front ≡ [] → Stands s front
  stands_mark_one : s.place ≡ p_mark_one → Fresh s [] → front ≡ 239 ∷ [] → Stands s front
  stands_mark_two : s.place ≡ p_mark_two → Fresh s [] → front ≡ 239 ∷ 187 ∷ [] → Stands s front
  stands_marked : s.place ≡ p_marked → Fresh s front → Stands s front
  stands_first_less : {from : List ℕ} → s.place ≡ p_first_less → Fresh s from → front ≡ from ++ codes "<" → s.start ≡ length from → Stands s front
  stands_question : {from : List ℕ} → s.place ≡ p_question → Fresh s from → front ≡ from ++ codes "<?" → Stands s front
  stands_question_x : {from : List ℕ} → s.place ≡ p_question_x → Fresh s from → front ≡ from ++ codes "<?x" → Stands s front
  stands_question_xm : {from : List ℕ} → s.place ≡ p_question_xm → Fresh s from → front ≡ from ++ codes "<?xm" → Stands s front
  stands_content : s.place ≡ p_content → Outside s front → Stands s front
  stands_less : {from : List ℕ} → s.place ≡ p_less → Outside s from → front ≡ from ++ codes "<" → s.start ≡ length from → Stands s front
  stands_bang : {from : List ℕ} → s.place ≡ p_bang → Outside s from → front ≡ from ++ codes "<!" → Stands s front
  stands_bang_dash : {from : List ℕ} → s.place ≡ p_bang_dash → Outside s from → front ≡ from ++ codes "<!-" → Stands s front
  stands_comment : {from : List ℕ} (inside : List ℕ) → s.place ≡ p_comment → Outside s from → front ≡ from ++ codes "<!--" ++ inside → HoldsNoEnd inside → Quiet inside → Stands s front
  stands_comment_dash : {from : List ℕ} (inside : List ℕ) → s.place ≡ p_comment_dash → Outside s from → front ≡ from ++ codes "<!--" ++ (inside ++ 45 ∷ []) → HoldsNoEnd (inside ++ 45 ∷ []) → Quiet inside → Stands s front
  stands_comment_dashes : {from : List ℕ} (inside : List ℕ) → s.place ≡ p_comment_dashes → Outside s from → front ≡ from ++ codes "<!--" ++ (inside ++ 45 ∷ 45 ∷ []) → HoldsNoEnd (inside ++ 45 ∷ 45 ∷ []) → Stands s front
  stands_name : s.place ≡ p_name → HasName (around s) front → s.attributes ≡ [] → Stands s front
  stands_quoted : {a : List ℕ} → s.place ≡ p_quoted → Head (around s) a → AreAttributes a front s.attributes → Stands s front
  stands_gap : s.place ≡ p_gap → Spaced (around s) s.attributes front → Stands s front
  stands_word : {c : List ℕ} → s.place ≡ p_word → Spaced (around s) s.attributes c → IsName c front s.word → Stands s front
  stands_word_gap : {c d : List ℕ} → s.place ≡ p_word_gap → Spaced (around s) s.attributes c → IsName c d s.word → AreBlanks d front → Stands s front
  stands_equal : s.place ≡ p_equal → Equated (around s) s.attributes s.word front → Stands s front
  stands_value : {quote : ℕ} → s.place ≡ p_value quote → Valued (around s) s.attributes s.word s.value s.value_at quote front → Stands s front
  stands_entity : {quote : ℕ} {read : Entity} {g : List ℕ} (n : ℕ) (letters : List ℕ) → s.place ≡ p_entity quote read → Valued (around s) s.attributes s.word s.value s.value_at quote g → Awaits n read letters → front ≡ g ++ letters → Stands s front
  stands_last_question : {a b c : List ℕ} → s.place ≡ p_last_question → Declares (around s) a → AreAttributes a b s.attributes → AreBlanks b c → front ≡ c ++ codes "?" → Stands s front
  stands_slash : s.place ≡ p_slash → Outside s (front ++ codes ">") → Stands s front
  stands_end_name : {from : List ℕ} (done rest : List ℕ) → ((at : ℕ) (s' : State) (b : ℕ) → step_at s.place at s' b ≡ end_name (length done) at s' b) → is_content s.place ≡ false
      → EndsOne (around s) s.attributes from → s.name ≡ done ++ rest → front ≡ from ++ codes "</" ++ done → Stands s front
  stands_end_gap : {from : List ℕ} → s.place ≡ p_end_gap → EndsOne (around s) s.attributes from → AreBlanks (from ++ codes "</" ++ s.name) front → Stands s front
