-- Small texts, as the grammar of markup has them: worked examples.
use Rattle.std.proofs.Common.{◌≡◌, ℕ, zero, suc, true, List, [], ◌∷◌, None, Some, codes, refl, IsUtf8, IsAscii, nat_lt, arith}
use Rattle.std.proofs.lemmas.Str.{IsUtf8-from_ascii, is_utf8-from_IsUtf8}
use Rattle.std.specs.Str.{is_utf8}
use Rattle.std.proofs.lemmas.Bool.{ltb-true, and_parts}
use Rattle.std.specs.List.{list_all}
use Rattle.fnl_markup.specs.Tags.{attribute, Tag, opens, closes}
use Rattle.fnl_grammar.specs.Markup.{no_blanks, one_blank_more, the_space, first_of_name, next_of_name, HoldsNoEnd, the_comment, no_misc, one_comment_more, more_space, less_than, nothing_quoted, one_byte_more, one_reference_more, the_attribute, no_attributes, one_attribute_more, the_start_tag, the_end_tag, an_empty_element, an_element, no_content, one_element_more, more_misc, no_mark, no_declaration, the_declaration, IsProlog, the_prolog, IsDocument, the_document}
use Rattle.fnl_frames.specs.Net.{Net}
use Rattle.fnl_grammar.specs.Laws.{IsNetworkFile}
use Rattle.fnl_grammar.specs.Productions.{IsGiven, the_network, network_empty}
use Rattle.fnl_expr.specs.Given.{name_given, has_short_names}
use Rattle.cal_lexer.specs.Lexis.{is_name}
use Rattle.fnl_grammar.proofs.Spelled.{tags_are_read}

-- ---- `<a/>`

-- bytes below 128
ascii : (bytes : List ℕ) → list_all (λ b. nat_lt b 128) bytes ≡ true → IsAscii bytes
ascii [] h i = omega arith
ascii (b ∷ bytes) h zero = ltb-true b 128 (and_parts (nat_lt b 128) (list_all (λ b. nat_lt b 128) bytes) h).0
ascii (b ∷ bytes) h (suc i) = ascii bytes (and_parts (nat_lt b 128) (list_all (λ b. nat_lt b 128) bytes) h).1 i

plain_empty : IsUtf8 (codes "<a/>")
plain_empty = IsUtf8-from_ascii (codes "<a/>") (ascii (codes "<a/>") refl)

empty_element : IsDocument (codes "<a/>") (opens (codes "a") [] 0 ∷ closes 2 ∷ [])
empty_element =
    the_document (the_prolog no_mark no_declaration no_misc)
    (an_empty_element {from = []} (first_of_name 97 refl) no_attributes no_blanks) no_misc plain_empty

-- ---- a declaration, a comment, an element in another, an attribute whose value is an entity, and blanks

nothing_ends : HoldsNoEnd []
nothing_ends [] after e = cc
nothing_ends (b ∷ before) after e = cc

plain_whole : IsUtf8 (codes "<?xml ?><!----><a x='&lt;'> <b/></a >")
plain_whole = IsUtf8-from_ascii (codes "<?xml ?><!----><a x='&lt;'> <b/></a >") (ascii (codes "<?xml ?><!----><a x='&lt;'> <b/></a >") refl)

prolog : IsProlog (codes "<?xml ?><!---->")
prolog =
    the_prolog no_mark (the_declaration {from = []} no_attributes refl (one_blank_more 32 no_blanks refl))
    (one_comment_more no_misc (the_comment {from = codes "<?xml ?>"} [] nothing_ends))

whole : IsDocument (codes "<?xml ?><!----><a x='&lt;'> <b/></a >")
    (opens (codes "a") (attribute (codes "x") (codes "<") 21 ∷ []) 15 ∷ opens (codes "b") [] 28 ∷ closes 30 ∷ closes 33 ∷ [])
whole =
    the_document prolog
    (an_element {from = codes "<?xml ?><!---->"}
    (the_start_tag (first_of_name 97 refl)
    (one_attribute_more no_attributes (the_space 32 no_blanks refl)
    (the_attribute {quote = 39} (first_of_name 120 refl) no_blanks no_blanks refl (one_reference_more nothing_quoted less_than)))
    no_blanks)
    (one_element_more (more_misc no_content (more_space no_misc (the_space 32 no_blanks refl)))
    (an_empty_element {from = codes "<?xml ?><!----><a x='&lt;'> "} (first_of_name 98 refl) no_attributes no_blanks))
    (the_end_tag (first_of_name 97 refl) (one_blank_more 32 no_blanks refl)))
    no_misc plain_whole

-- ---- a network without parts

plain_network : IsUtf8 (codes "<XDF name='T'/>")
plain_network = IsUtf8-from_ascii (codes "<XDF name='T'/>") (ascii (codes "<XDF name='T'/>") refl)

network_document : IsDocument (codes "<XDF name='T'/>")
    (opens (codes "XDF") (attribute (codes "name") (codes "T") 11 ∷ []) 0 ∷ closes 13 ∷ [])
network_document =
    the_document (the_prolog no_mark no_declaration no_misc)
    (an_empty_element {from = []} (next_of_name 70 (next_of_name 68 (first_of_name 88 refl) refl) refl)
    (one_attribute_more no_attributes (the_space 32 no_blanks refl)
    (the_attribute {quote = 39} (next_of_name 101 (next_of_name 109 (next_of_name 97 (first_of_name 110 refl) refl) refl) refl)
    no_blanks no_blanks refl (one_byte_more 84 nothing_quoted refl)))
    no_blanks) no_misc plain_network

abbrev pub bare : Net
bare = record { name = codes "T"; ports = []; decls = []; instances = []; connections = []; at = 0 }

given_name : IsGiven (name_given (codes "name") (attribute (codes "name") (codes "T") 11 ∷ [])) (codes "T")
unfolding is_name has_short_names
given_name =
    let valid : is_utf8 (codes "T") ≡ true = is_utf8-from_IsUtf8 (codes "T") (IsUtf8-from_ascii (codes "T") (ascii (codes "T") refl)) in
    record { place = 11; is = rw valid refl; short = refl }

pub bare_file : IsNetworkFile (codes "<XDF name='T'/>") bare
bare_file = record {
  tags = opens (codes "XDF") (attribute (codes "name") (codes "T") 11 ∷ []) 0 ∷ closes 13 ∷ [];
  document = network_document;
  spelled = the_network {room = 63} {text = codes "T"} 13 refl given_name network_empty;
}

-- ---- texts that spell no tags

some_broken : {A : Type 0} (x : A) → Some x ≡ None → ⊥
some_broken x e = cc

-- the end tag has another name
other_name : (tags : List Tag) → IsDocument (codes "<a></b>") tags → ⊥
other_name tags d = some_broken _ (tags_are_read (codes "<a></b>") tags d).whole

-- two elements
two_elements : (tags : List Tag) → IsDocument (codes "<a/><b/>") tags → ⊥
two_elements tags d = some_broken _ (tags_are_read (codes "<a/><b/>") tags d).whole

-- no blank stands between two attributes
no_blank_between : (tags : List Tag) → IsDocument (codes "<a x=''y=''/>") tags → ⊥
no_blank_between tags d = some_broken _ (tags_are_read (codes "<a x=''y=''/>") tags d).whole
