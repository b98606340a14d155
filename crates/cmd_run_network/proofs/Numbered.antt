-- The numbers of the feeds and channels that are opened.
use Rattle.std.proofs.Common.{◌≡◌, ◌⊎◌, inl, inr, ℕ, zero, suc, ◌+◌, ◌<◌, Bool, true, false, List, [], ◌∷◌, ◌++◌, take, refl, sym, ap, subst, ◌∙◌, arith, Contains}
use Rattle.std.specs.Prelude.{Option, None, Some, is_some, slice_get, slice_index_or, if◌then◌else◌}
use Rattle.std.proofs.lemmas.List.Elements.{Contains-append_cases, Contains-append_left, Contains-append_right}
use Rattle.rvc_words.specs.Words.{PortText}
use Rattle.net_model.specs.Network.{is_outside}
use Rattle.net_model.specs.declared.wiring.End.{End}
use Rattle.net_model.specs.declared.wiring.End.TheVariants.{Leaf as AtLeaf, Net as AtNet}
use Rattle.net_model.specs.declared.wiring.Link.{Link}
use Rattle.cmd_ports.specs.Matching.{file_of}
use Rattle.rvc_io.specs.Channels.{Channels}
use Rattle.cmd_ports.specs.Opening.{ChannelsAreOpened, Opening, channels_of, feeds_from, feeds_of, file_at, file_from, has_files, opening_if, outputs_from}
use Rattle.round_runner.specs.Running.{count_inputs, has_feed}
use Rattle.cmd_run_network.specs.Files.{IsChannelOf, IsFeedOf, output_file}

pub some_is : {A : Type 0} (x y : A) → Some x ≡ Some y → x ≡ y
some_is x y e = cc

in_none : {A : Type 0} (x : A) → Contains [] x → ⊥
in_none x h = let e : h.0 < 0 = h.1 in absurd (omega (arith, e))

-- ---- one

abbrev pub opening : ℕ → List ℕ → Opening
opening number file = record { number = number; name = file }

one_in : (number n : ℕ) (found : Option (List ℕ)) (file : List ℕ) → n ≡ number → found ≡ Some file → Contains (opening_if number found) (record { number = n; name = file })
one_in number n None file is has = cc
one_in number n (Some other) file is has = (0, omega arith, by)
  where
    by : ◌≡◌ {A = Opening} (record { number = number; name = other }) (record { number = n; name = file })
    by = ap (λ (k : ℕ). opening k other) (sym is) ∙ ap (λ (f : List ℕ). opening n f) (some_is other file has)

in_one : (number : ℕ) (found : Option (List ℕ)) (o : Opening) → Contains (opening_if number found) o → (found ≡ Some o.name) × (o.number ≡ number)
in_one number None o h = absurd (in_none o h)
in_one number (Some file) o (zero, h, e) = (ap (λ (x : Opening). Some x.name) e, ap (λ (x : Opening). x.number) (sym e))
in_one number (Some file) o (suc k, h, e) = absurd (omega arith)

-- ---- feeds

abbrev from_there : End → ℕ → List (List ℕ) → List PortText → List Opening → List Opening → List Opening
from_there from number ins words later same = if is_outside from then opening_if number (file_from from ins words) ++ later else same

first_in : (from : End) (number n : ℕ) (ins : List (List ℕ)) (words : List PortText) (file : List ℕ) (later same : List Opening) → n ≡ number → file_from from ins words ≡ Some file
    → Contains (from_there from number ins words later same) (record { number = n; name = file })
first_in (AtLeaf inst port) number n ins words file later same is has = cc
first_in (AtNet port) number n ins words file later same is has = Contains-append_left (opening_if number (file_at (slice_get ins port) words)) later _ (one_in number n (file_at (slice_get ins port) words) file is has)

-- one of the later links, whose numbers begin behind that of this link if it begins at an input
abbrev behind : End → ℕ → ℕ
behind (AtLeaf inst port) number = number
behind (AtNet port) number = number + 1

later_in : (from : End) (number n : ℕ) (ins : List (List ℕ)) (words : List PortText) (file : List ℕ) (later same : List Opening)
    → (is_outside from ≡ true → Contains later (record { number = n; name = file })) → (is_outside from ≡ false → Contains same (record { number = n; name = file }))
    → Contains (from_there from number ins words later same) (record { number = n; name = file })
later_in (AtLeaf inst port) number n ins words file later same outer inner = inner refl
later_in (AtNet port) number n ins words file later same outer inner = Contains-append_right (opening_if number (file_at (slice_get ins port) words)) later _ (outer refl)

counted : (b : Bool) (number n count : ℕ) → n ≡ number + (if b then suc count else count) → (b ≡ true → n ≡ (number + 1) + count) × (b ≡ false → n ≡ number + count)
counted true number n count is = ((λ e. omega (arith, is)), (λ e. cc))
counted false number n count is = ((λ e. cc), (λ e. is))

pub feed_in : (links : List Link) (number n l : ℕ) (link : Link) (ins : List (List ℕ)) (words : List PortText) (file : List ℕ) → slice_get links l ≡ Some link
    → file_from link.from ins words ≡ Some file → n ≡ number + count_inputs (take l links) → Contains (feeds_from number links ins words) (record { number = n; name = file })
feed_in [] number n l link ins words file at has is = cc
feed_in (first ∷ links) number n zero link ins words file at has is =
    first_in first.from number n ins words file (feeds_from (number + 1) links ins words) (feeds_from number links ins words) (omega (arith, is))
    (subst (λ (x : Link). file_from x.from ins words ≡ Some file) (sym (some_is first link at)) has)
feed_in (first ∷ links) number n (suc l) link ins words file at has is =
    let by = counted (is_outside first.from) number n (count_inputs (take l links)) is in
    later_in first.from number n ins words file (feeds_from (number + 1) links ins words) (feeds_from number links ins words)
    (λ outer. feed_in links (number + 1) n l link ins words file at has (by.0 outer))
    (λ inner. feed_in links number n l link ins words file at has (by.1 inner))

-- an opening is that of one of these links
abbrev OpensLink : ℕ → List Link → List (List ℕ) → List PortText → Opening → Type 0
OpensLink number links ins words o = (l : ℕ) × (link : Link) × (slice_get links l ≡ Some link) × (file_from link.from ins words ≡ Some o.name) × (o.number ≡ number + count_inputs (take l links))

in_there : (from : End) (number : ℕ) (ins : List (List ℕ)) (words : List PortText) (later same : List Opening) (o : Opening) → Contains (from_there from number ins words later same) o
    → ((is_outside from ≡ true) × (file_from from ins words ≡ Some o.name) × (o.number ≡ number)) ⊎ (((is_outside from ≡ true) × Contains later o) ⊎ ((is_outside from ≡ false) × Contains same o))
in_there (AtLeaf inst port) number ins words later same o h = inr (inr (refl, h))
in_there (AtNet port) number ins words later same o h = elim (Contains-append_cases (opening_if number (file_at (slice_get ins port) words)) later o h) [
  | inl this ↦ (let one = in_one number (file_at (slice_get ins port) words) o this in inl (refl, one.0, one.1))
  | inr rest ↦ inr (inl (refl, rest))
]

counts_on : (b : Bool) (number n count : ℕ) → ((b ≡ true) × (n ≡ (number + 1) + count)) ⊎ ((b ≡ false) × (n ≡ number + count)) → n ≡ number + (if b then suc count else count)
counts_on true number n count (inl (e, is)) = omega (arith, is)
counts_on true number n count (inr (e, is)) = cc
counts_on false number n count (inl (e, is)) = cc
counts_on false number n count (inr (e, is)) = is

pub of_feeds : (links : List Link) (number : ℕ) (ins : List (List ℕ)) (words : List PortText) (o : Opening) → Contains (feeds_from number links ins words) o → OpensLink number links ins words o
of_feeds [] number ins words o h = absurd (in_none o h)
of_feeds (first ∷ links) number ins words o h = elim (in_there first.from number ins words (feeds_from (number + 1) links ins words) (feeds_from number links ins words) o h) [
  | inl this ↦ (0, first, refl, this.1, (let n = this.2 in omega (arith, n)))
  | inr rest ↦ elim rest [
    | inl later ↦ (let found = of_feeds links (number + 1) ins words o later.1 in (suc found.0, found.1, found.2, found.3, counts_on (is_outside first.from) number o.number (count_inputs (take found.0 links)) (inl (later.0, found.4))))
    | inr same ↦ (let found = of_feeds links number ins words o same.1 in (suc found.0, found.1, found.2, found.3, counts_on (is_outside first.from) number o.number (count_inputs (take found.0 links)) (inr (same.0, found.4))))
  ]
]

pub is_feed : (links : List Link) (ins : List (List ℕ)) (words : List PortText) (o : Opening) → Contains (feeds_of links ins words) o → IsFeedOf links ins words o.number
is_feed links ins words o h =
    let found = of_feeds links 1 ins words o h in
    record { l = found.0; link = found.1; is_there = found.2; file = o.name; has_file = found.3; feed_is = (let n = found.4 in omega (arith, n)) }

-- ---- channels

pub output_in : (outs : List (List ℕ)) (number n p : ℕ) (words : List PortText) (file : List ℕ) → output_file outs words p ≡ Some file → n ≡ number + p → Contains (outputs_from number outs words) (record { number = n; name = file })
output_in [] number n p words file has is = cc
output_in (name ∷ outs) number n zero words file has is =
    Contains-append_left (opening_if number (file_of name words)) (outputs_from (number + 1) outs words) _ (one_in number n (file_of name words) file (omega (arith, is)) has)
output_in (name ∷ outs) number n (suc p) words file has is =
    Contains-append_right (opening_if number (file_of name words)) (outputs_from (number + 1) outs words) _ (output_in outs (number + 1) n p words file has (omega (arith, is)))

of_outputs : (outs : List (List ℕ)) (number : ℕ) (words : List PortText) (o : Opening) → Contains (outputs_from number outs words) o → (p : ℕ) × (output_file outs words p ≡ Some o.name) × (o.number ≡ number + p)
of_outputs [] number words o h = absurd (in_none o h)
of_outputs (name ∷ outs) number words o h = elim (Contains-append_cases (opening_if number (file_of name words)) (outputs_from (number + 1) outs words) o h) [
  | inl this ↦ (let one = in_one number (file_of name words) o this in let n = one.1 in (0, one.0, omega (arith, n)))
  | inr rest ↦ (let found = of_outputs outs (number + 1) words o rest in let n = found.2 in (suc found.0, found.1, omega (arith, n)))
]

pub trace_in : (trace : List ℕ) (outs : List (List ℕ)) (words : List PortText) → Contains (channels_of trace outs words) (record { number = 1; name = trace })
trace_in trace outs words = (0, omega arith, refl)

pub channel_in : (trace : List ℕ) (outs : List (List ℕ)) (words : List PortText) (p : ℕ) (file : List ℕ) → output_file outs words p ≡ Some file → Contains (channels_of trace outs words) (record { number = 2 + p; name = file })
channel_in trace outs words p file has = Contains-append_right (record { number = 1; name = trace } ∷ []) (outputs_from 2 outs words) _ (output_in outs 2 (2 + p) p words file has refl)

pub is_channel : (trace : List ℕ) (outs : List (List ℕ)) (words : List PortText) (o : Opening) → Contains (channels_of trace outs words) o → IsChannelOf outs words o.number
is_channel trace outs words o h = elim (Contains-append_cases (record { number = 1; name = trace } ∷ []) (outputs_from 2 outs words) o h) [
  | inl this ↦ inl (in_one 1 (Some trace) o this).1
  | inr rest ↦ (let found = of_outputs outs 2 words o rest in inr (record { p = found.0; file = o.name; has_file = found.1; channel_is = found.2 }))
]

-- ---- marks

marked : (names : List (List ℕ)) (words : List PortText) (p : ℕ) → slice_index_or (has_files names words) p false ≡ is_some (file_at (slice_get names p) words)
marked [] words p = refl
marked (name ∷ names) words zero = refl
marked (name ∷ names) words (suc p) = marked names words p

some_file : (found : Option (List ℕ)) → is_some found ≡ true → (file : List ℕ) × (found ≡ Some file)
some_file None e = cc
some_file (Some file) e = (file, refl)

-- a link has a feed if the input at which it begins has a file
pub fed_is : (end : End) (ins : List (List ℕ)) (words : List PortText) → has_feed (has_files ins words) end ≡ is_some (file_from end ins words)
fed_is (AtLeaf inst port) ins words = refl
fed_is (AtNet port) ins words = marked ins words port

pub fed_file : (end : End) (ins : List (List ℕ)) (words : List PortText) → has_feed (has_files ins words) end ≡ true → (file : List ℕ) × (file_from end ins words ≡ Some file)
fed_file end ins words fed = some_file (file_from end ins words) (sym (fed_is end ins words) ∙ fed)

pub mark_file : (outs : List (List ℕ)) (words : List PortText) (p : ℕ) → slice_index_or (has_files outs words) p false ≡ true → (file : List ℕ) × (output_file outs words p ≡ Some file)
mark_file outs words p is = some_file (output_file outs words p) (sym (marked outs words p) ∙ is)

pub file_mark : (outs : List (List ℕ)) (words : List PortText) (p : ℕ) (file : List ℕ) → output_file outs words p ≡ Some file → slice_index_or (has_files outs words) p false ≡ true
file_mark outs words p file has = marked outs words p ∙ ap is_some has

pub port_mark : (ins : List (List ℕ)) (words : List PortText) (p : ℕ) → slice_index_or (has_files ins words) p false ≡ is_some (file_at (slice_get ins p) words)
port_mark ins words p = marked ins words p

-- ---- opened

pub trace_open : (trace : List ℕ) (outs : List (List ℕ)) (words : List PortText) (old new : Channels) → ChannelsAreOpened (channels_of trace outs words) old new → new.is_open 1 ≡ true
trace_open trace outs words old new are = are.opened (opening 1 trace) (trace_in trace outs words)
