-- Names of the language are names of a trace, and names with dots or slashes between them are classes and paths.
use Rattle.std.proofs.Common.{◌≡◌, ℕ, Bool, true, false, List, [], ◌∷◌, ◌++◌, refl, sym, ap, ◌∙◌, append_assoc, append-nil}
use Rattle.std.specs.Prelude.{◌&&◌, not, slice_index, is_some}
use Rattle.std.specs.List.{join_with_byte, list_all}
use Rattle.trace_text.specs.Names.{AreNameBytes, AreNames, IsJoined, IsName, each_behind}
use Rattle.cal_lexer.specs.Lexis.{begins_name, goes_on_name, is_name, reserved}

pub both : (a b : Bool) → (a && b) ≡ true → (a ≡ true) × (b ≡ true)
both true true h = (refl, refl)
both true false h = absurd cc
both false b h = absurd cc

-- ---- names

are_bytes : (text : List ℕ) → list_all goes_on_name text ≡ true → AreNameBytes text
are_bytes [] h = tt
are_bytes (b ∷ text) h =
    let parts = both (goes_on_name b) (list_all goes_on_name text) h in
    (parts.0, are_bytes text parts.1)

-- letters, digits and `_`, of which the first is no digit
pub word_is_name : (text : List ℕ) → begins_name (slice_index text 0) ≡ true → list_all goes_on_name text ≡ true → IsName text
word_is_name [] first all = absurd cc
word_is_name (b ∷ text) first all = (first, are_bytes text (both (goes_on_name b) (list_all goes_on_name text) all).1)

pub name_is_name : (text : List ℕ) → is_name text ≡ true → IsName text
unfolding is_name
name_is_name text h =
    let parts = both (begins_name (slice_index text 0) && list_all goes_on_name text) (not (is_some (reserved text))) h in
    let word = both (begins_name (slice_index text 0)) (list_all goes_on_name text) parts.0 in
    word_is_name text word.0 word.1

-- ---- names that are joined

pub one_joined : (separator : ℕ) (name : List ℕ) → IsName name → IsJoined separator name
one_joined separator name is = (name, [], is, tt, sym (append-nil name))

are_more : (names : List (List ℕ)) (name : List ℕ) → AreNames names → IsName name → AreNames (names ++ name ∷ [])
are_more [] name are is = (is, tt)
are_more (n ∷ names) name are is = (are.0, are_more names name are.1 is)

behind_more : (separator : ℕ) (names : List (List ℕ)) (name : List ℕ) → each_behind separator (names ++ name ∷ []) ≡ each_behind separator names ++ separator ∷ name
behind_more separator [] name = ap (λ z. separator ∷ z) (append-nil name)
behind_more separator (n ∷ names) name =
    ap (λ z. (separator ∷ n) ++ z) (behind_more separator names name)
    ∙ sym (append_assoc (separator ∷ n) (each_behind separator names) (separator ∷ name))

-- one name more behind a separator
pub joined_more : (separator : ℕ) (text name : List ℕ) → IsJoined separator text → IsName name → IsJoined separator (text ++ separator ∷ name)
joined_more separator text name (first, others, is_first, are, same) is = (
  first,
  others ++ name ∷ [],
  is_first,
  are_more others name are is,
  ap (λ z. z ++ separator ∷ name) same
      ∙ (append_assoc first (each_behind separator others) (separator ∷ name)
      ∙ ap (λ z. first ++ z) (sym (behind_more separator others name))),
)

-- names between separators

join_is : (separator : ℕ) (first : List ℕ) (others : List (List ℕ)) → join_with_byte separator (first ∷ others) ≡ first ++ each_behind separator others
join_is separator first [] = sym (append-nil first)
join_is separator first (name ∷ others) = ap (λ z. first ++ separator ∷ z) (join_is separator name others)

are_names : (names : List (List ℕ)) → list_all is_name names ≡ true → AreNames names
are_names [] h = tt
are_names (name ∷ names) h =
    let parts = both (is_name name) (list_all is_name names) h in
    (name_is_name name parts.0, are_names names parts.1)

pub some_joined : (separator : ℕ) (text : List ℕ) (parts : List (List ℕ)) → join_with_byte separator parts ≡ text → list_all is_name parts ≡ true → (parts ≡ [] → ⊥)
    → IsJoined separator text
some_joined separator text [] joined all some = absurd (some refl)
some_joined separator text (first ∷ others) joined all some =
    let are = are_names (first ∷ others) all in
    (first, others, are.0, are.1, sym joined ∙ join_is separator first others)
