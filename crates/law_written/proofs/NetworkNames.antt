-- The instances of a network file have names, and classes that are names with dots between them.
use Rattle.std.proofs.Common.{◌≡◌, ℕ, Bool, true, false, List, [], ◌∷◌, ◌++◌, refl, ap, subst, arith}
use Rattle.std.specs.Prelude.{◌&&◌, ◌==◌, if◌then◌else◌, Option, None, Some, length}
use Rattle.std.specs.List.{slice_split}
use Rattle.std.specs.Str.{is_utf8}
use Rattle.std.proofs.lemmas.List.Splits.{join_with_byte-slice_split, length-slice_split}
use Rattle.trace_text.specs.Names as trace
use Rattle.trace_text.specs.Names.{IsName, dot}
use Rattle.cal_model.specs.Sound.{Each}
use Rattle.fnl_markup.specs.Tags.{Attribute, attribute, Tag}
use Rattle.fnl_expr.specs.declared.attributes.Form.{Form}
use Rattle.fnl_expr.specs.declared.attributes.Form.TheVariants as forms
use Rattle.fnl_expr.specs.Given.{given, is_of, is_tag, name_given, tag_given, text_at, text_if}
use Rattle.fnl_frames.specs.Frames.{Class, a_class}
use Rattle.fnl_frames.specs.Net.{Connection, Decl, Instance, Net, Parameter, Port, an_instance}
use Rattle.fnl_grammar.specs.Laws.{IsNetworkFile}
use Rattle.fnl_grammar.specs.Productions.{InInstance, InNetwork, IsClass, IsGiven, IsInstance, IsNetwork, and_attribute, and_class, and_parameter, instance_empty, network_empty, the_class, the_instance, the_network, with_a_connection, with_a_decl, with_a_port, with_an_attribute, with_an_instance}
use Rattle.law_written.proofs.NameBytes.{both, name_is_name, some_joined}

-- ---- what attributes give

given_is : (form : Form) (found : Option Attribute) (text : List ℕ) (place : ℕ) → text_if form found ≡ Some (text_at text place) → is_of form text ≡ true
given_is form None text place h = absurd cc
given_is form (Some (attribute name value at)) text place h = go (is_utf8 value && is_of form value) refl h
  where
    go : (b : Bool) → (is_utf8 value && is_of form value) ≡ b → (if b then Some (text_at value at) else None) ≡ Some (text_at text place) → is_of form text ≡ true
    go true is e =
        let same : value ≡ text = cc in
        subst (λ t. is_of form t ≡ true) same (both (is_utf8 value) (is_of form value) is).1
    go false is e = absurd cc

given_name : (key : List ℕ) (attributes : List Attribute) (text : List ℕ) → IsGiven (name_given key attributes) text → IsName text
given_name key attributes text h = name_is_name text (given_is forms.Name (given key attributes) text h.place h.is)

-- a split has a part at least
some_parts : (text : List ℕ) → slice_split (λ b. b == dot) text ≡ [] → ⊥
some_parts text none = let many = length-slice_split (λ b. b == dot) text in let few = ap length none in absurd (omega arith)

tag_is_class : (text : List ℕ) → is_tag text ≡ true → trace.IsClass text
unfolding is_tag
tag_is_class text h = some_joined dot text (slice_split (λ b. b == dot) text) (join_with_byte-slice_split dot text) h (some_parts text)

given_tag : (key : List ℕ) (attributes : List Attribute) (text : List ℕ) → IsGiven (tag_given key attributes) text → trace.IsClass text
given_tag key attributes text h = tag_is_class text (given_is forms.Tag (given key attributes) text h.place h.is)

-- ---- instances

-- the id of an instance is a name, and its class names with dots between
abbrev pub IsNamedInstance : Instance → Type 0
IsNamedInstance (an_instance id class class_at parameters at) = IsName id × trace.IsClass class

abbrev IsNamedClass : Option Class → Type 0
IsNamedClass None = Unit {0}
IsNamedClass (Some (a_class text at)) = trace.IsClass text

class_named : {room : ℕ} {tags : List Tag} {text : List ℕ} {at : ℕ} → IsClass room tags text at → trace.IsClass text
class_named (the_class {text = text} {attributes = attributes} end called is) = given_tag _ attributes text is

in_instance : {room : ℕ} {tags : List Tag} {class : Option Class} {parameters : List Parameter} → InInstance room tags class parameters → IsNamedClass class
in_instance instance_empty = tt
in_instance (and_class h c) = class_named c
in_instance (and_parameter h p) = in_instance h
in_instance (and_attribute h p) = in_instance h

instance_named : {room : ℕ} {tags : List Tag} {i : Instance} → IsInstance room tags i → IsNamedInstance i
instance_named (the_instance {text = text} {attributes = attributes} end called is inside) = (given_name _ attributes text is, in_instance inside)

-- ---- networks

pub each_both : {A : Type 0} (P : A → Type 0) (xs ys : List A) → Each P xs → Each P ys → Each P (xs ++ ys)
each_both P [] ys h k = k
each_both P (x ∷ xs) ys h k = (h.0, each_both P xs ys h.1 k)

in_network : {room : ℕ} {tags : List Tag} {ps : List Port} {ds : List Decl} {is : List Instance} {cs : List Connection} → InNetwork room tags ps ds is cs
    → Each IsNamedInstance is
in_network network_empty = tt
in_network (with_a_port h p) = in_network h
in_network (with_a_decl h d) = in_network h
in_network (with_an_instance {is = is} {i = i} h named) = each_both IsNamedInstance is (i ∷ []) (in_network h) (instance_named named, tt)
in_network (with_a_connection h c) = in_network h
in_network (with_an_attribute h p) = in_network h

network_named : {room : ℕ} {tags : List Tag} {net : Net} → IsNetwork room tags net → Each IsNamedInstance net.instances
network_named (the_network end called is inside) = in_network inside

pub network_file_named : (text : List ℕ) (net : Net) → IsNetworkFile text net → Each IsNamedInstance net.instances
network_file_named text net h = network_named h.spelled
