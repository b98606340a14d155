-- Port words that fit, one after another, and how many can.
use Rattle.std.proofs.Common.{◌≡◌, ℕ, zero, suc, ◌+◌, ◌<◌, ◌≤◌, inl, inr, Bool, true, false, ◌||◌, List, [], ◌∷◌, ◌++◌, length, take, map, refl, sym, ap, subst, ◌∙◌, arith, Some}
use Rattle.std.specs.Prelude.{slice_get, option_map, string_bytes}
use Rattle.std.specs.List.{list_any}
use Rattle.std.specs.Str.{bytes_eq}
use Rattle.std.proofs.lemmas.Bool.{cases_lt}
use Rattle.std.proofs.lemmas.List.{take-map, length-map, length-append}
use Rattle.std.proofs.lemmas.Option.{slice_get-map, slice_get_read, slice_get_within}
use Rattle.std.proofs.lemmas.Slice.Eq.{bytes_eq-Decides}
use Rattle.std.proofs.Math.ListN.{get_or}
use Rattle.rvc_base.specs.declared.refusal.Refusal.{Refusal}
use Rattle.rvc_words.specs.declared.job.PortWord.{PortWord}
use Rattle.rvc_words.specs.Words.{PortText, port_text}
use Rattle.net_model.specs.declared.wiring.Port.{Port}
use Rattle.cmd_ports.specs.Matching.{Fits, IsWrongWord, is_named, is_port, names_of}
use Rattle.rvc_base.specs.Rules.{port_twice, unknown_port}

-- a test of what a list's items are made into
pub any-map : {A B : Type 0} (test : B → Bool) (f : A → B) (xs : List A) → list_any (λ x. test (f x)) xs ≡ list_any test (map f xs)
any-map test f [] = refl
any-map test f (x ∷ xs) = ap (λ b. test (f x) || b) (any-map test f xs)

-- a name among two lists of ports
pub port-append : (name : List ℕ) (ins outs : List (List ℕ)) → is_port name (ins ++ outs) ≡ (is_port name ins || is_port name outs)
port-append name [] outs = refl
port-append name (p ∷ ins) outs = either (bytes_eq p name) (is_port name ins) (is_port name outs) (is_port name (ins ++ outs)) (port-append name ins outs)
  where
    either : (a b c d : Bool) → d ≡ (b || c) → (a || d) ≡ ((a || b) || c)
    either true b c d e = refl
    either false b c d e = e

-- the word that is read at a place
pub there : (words : List PortWord) (k : ℕ) (w : PortWord) → k < length words → w ≡ get_or words k w → slice_get (map port_text words) k ≡ Some (port_text w)
there words k w lt is = slice_get-map port_text words k ∙ ap (option_map port_text) (slice_get_read words (length words) k w refl lt is)

pub earlier : (name : List ℕ) (words : List PortWord) (k : ℕ) → is_named name (map port_text (take k words)) ≡ is_named name (take k (map port_text words))
earlier name words k = ap (is_named name) (sym (take-map port_text k words))

pub fits_more : (ports : List (List ℕ)) (words : List PortText) (n : ℕ) → ((j : ℕ) → j < n → Fits ports words j) → Fits ports words n → (j : ℕ) → j < n + 1 → Fits ports words j
fits_more ports words n before this j lt = elim (cases_lt j n) [ inl less ↦ before j less | inr least ↦ (let same : n ≡ j = omega arith in subst (Fits ports words) same this) ]

-- ---- refusals

pub unknown : (ports : List (List ℕ)) (words : List PortText) (k : ℕ) (w : PortText) (refusal : Refusal) → refusal ≡ record { rule = unknown_port; place = record { file = 0; offset = k } }
    → ((j : ℕ) → j < k → Fits ports words j) → slice_get words k ≡ Some w → is_port w.name ports ≡ false → IsWrongWord ports words refusal
unknown ports words k w refusal e before here none = subst (IsWrongWord ports words) (sym e) (refl, record { before = before; word = w; is_there = here; breaks = inl (refl, none) })

pub twice : (ports : List (List ℕ)) (words : List PortText) (k : ℕ) (w : PortText) (refusal : Refusal) → refusal ≡ record { rule = port_twice; place = record { file = 0; offset = k } }
    → ((j : ℕ) → j < k → Fits ports words j) → slice_get words k ≡ Some w → is_port w.name ports ≡ true → is_named w.name (take k words) ≡ true → IsWrongWord ports words refusal
twice ports words k w refusal e before here known named = subst (IsWrongWord ports words) (sym e) (refl, record { before = before; word = w; is_there = here; breaks = inr (refl, known, named) })

-- ---- how many fit

same_name : (a b : List ℕ) → bytes_eq a b ≡ true → a ≡ b
same_name a b e = (bytes_eq-Decides a b).0 e

name_same : (a b : List ℕ) → a ≡ b → bytes_eq a b ≡ true
name_same a b e = (bytes_eq-Decides a b).1 e

-- a list without the item at a place
abbrev without : ℕ → List (List ℕ) → List (List ℕ)
without k [] = []
without zero (p ∷ ports) = ports
without (suc k) (p ∷ ports) = p ∷ without k ports

shorter : (k : ℕ) (ports : List (List ℕ)) → k < length ports → length ports ≡ suc (length (without k ports))
shorter k [] h = absurd (omega arith)
shorter zero (p ∷ ports) h = refl
shorter (suc k) (p ∷ ports) h = ap suc (shorter k ports (omega arith))

-- another name is still there
still_there : (k i : ℕ) (ports : List (List ℕ)) (a b : List ℕ) → slice_get ports k ≡ Some a → slice_get ports i ≡ Some b → (a ≡ b → ⊥) → (j : ℕ) × (slice_get (without k ports) j ≡ Some b)
still_there k i [] a b ha hb apart = cc
still_there zero zero (p ∷ ports) a b ha hb apart = absurd (apart cc)
still_there zero (suc i) (p ∷ ports) a b ha hb apart = (i, hb)
still_there (suc k) zero (p ∷ ports) a b ha hb apart = (0, hb)
still_there (suc k) (suc i) (p ∷ ports) a b ha hb apart = (let found = still_there k i ports a b ha hb apart in (suc found.0, found.1))

-- names that are all among ports, and differ, are at most as many
pub seated : (names ports : List (List ℕ)) → ((i : ℕ) (a : List ℕ) → slice_get names i ≡ Some a → (k : ℕ) × (slice_get ports k ≡ Some a))
    → ((i j : ℕ) (a b : List ℕ) → i < j → slice_get names i ≡ Some a → slice_get names j ≡ Some b → a ≡ b → ⊥) → length names ≤ length ports
seated [] ports each apart = omega arith
seated (x ∷ names) ports each apart =
    let seat = each 0 x refl in
    let fewer : length names ≤ length (without seat.0 ports) = seated names (without seat.0 ports)
    (λ i a h. (let other = each (suc i) a h in still_there seat.0 other.0 ports x a seat.1 other.1 (apart 0 (suc i) x a (omega arith) refl h)))
    (λ i j a b lt hi hj. apart (suc i) (suc j) a b (omega arith) hi hj) in
    let one_less : length ports ≡ suc (length (without seat.0 ports)) = shorter seat.0 ports (slice_get_within ports seat.0 x seat.1) in
    omega arith

-- a port of a name stands at some place
pub seat_of : (name : List ℕ) (ports : List (List ℕ)) → is_port name ports ≡ true → (k : ℕ) × (slice_get ports k ≡ Some name)
seat_of name [] h = cc
seat_of name (p ∷ ports) h = by (bytes_eq p name) refl h (λ t. seat_of name ports t)
  where
    by : (b : Bool) → bytes_eq p name ≡ b → (b || is_port name ports) ≡ true → (is_port name ports ≡ true → (k : ℕ) × (slice_get ports k ≡ Some name)) → (k : ℕ) × (slice_get (p ∷ ports) k ≡ Some name)
    by true e t later = (0, ap Some (same_name p name e))
    by false e t later = (let found = later t in (suc found.0, found.1))

-- a word that stands among others has another name than one that is named by none of them
pub unlike : (words : List PortText) (i : ℕ) (w : PortText) (name : List ℕ) → is_named name words ≡ false → slice_get words i ≡ Some w → w.name ≡ name → ⊥
unlike [] i w name h e s = cc
unlike (x ∷ words) zero w name h e s = clash (bytes_eq x.name name) (name_same x.name name (ap (λ p. p.name) (some_same x w e) ∙ s)) h
  where
    some_same : (x y : PortText) → Some x ≡ Some y → x ≡ y
    some_same x y e = cc

    clash : (b : Bool) → b ≡ true → (b || is_named name words) ≡ false → ⊥
    clash true t f = cc
    clash false t f = cc
unlike (x ∷ words) (suc i) w name h e s = unlike words i w name (rest (bytes_eq x.name name) h) e s
  where
    rest : (b : Bool) → (b || is_named name words) ≡ false → is_named name words ≡ false
    rest true f = cc
    rest false f = f

-- words that fit are at most as many as the ports
pub few_fit : (ports : List (List ℕ)) (words : List PortText) (n : ℕ) → n ≤ length words → ((j : ℕ) → j < n → Fits ports words j) → n ≤ length ports
few_fit ports words n within each =
    let names : List (List ℕ) = map (λ w. w.name) (take n words) in
    subst (λ m. m ≤ length ports) (length_is n words within)
    (seated names ports
    (λ i a h. (let w = named n words i a h in
    let fits = each i w.2 in
    seat_of a ports (subst (λ m. is_port m ports ≡ true) (ap (λ x. x.name) (some_same fits.word w.0 (sym fits.is_there ∙ w.1)) ∙ w.3) fits.known)))
    (λ i j a b lt hi hj same. (let v = named n words i a hi in
    let w = named n words j b hj in
    let fits = each j w.2 in
    unlike (take j words) i v.0 fits.word.name fits.first (below words i j v.0 lt v.1)
    (v.3 ∙ same ∙ sym w.3 ∙ ap (λ x. x.name) (some_same w.0 fits.word (sym w.1 ∙ fits.is_there))))))
  where
    some_same : (x y : PortText) → Some x ≡ Some y → x ≡ y
    some_same x y e = cc

    length_is : (n : ℕ) (ws : List PortText) → n ≤ length ws → length (map (λ w. w.name) (take n ws)) ≡ n
    length_is zero ws h = refl
    length_is (suc n) [] h = absurd (omega arith)
    length_is (suc n) (w ∷ ws) h = ap suc (length_is n ws (omega arith))

    named : (n : ℕ) (ws : List PortText) (i : ℕ) (a : List ℕ) → slice_get (map (λ w. w.name) (take n ws)) i ≡ Some a → (w : PortText) × (slice_get ws i ≡ Some w) × (i < n) × (w.name ≡ a)
    named zero ws i a h = cc
    named (suc n) [] i a h = cc
    named (suc n) (w ∷ ws) zero a h = (w, refl, omega arith, cc)
    named (suc n) (w ∷ ws) (suc i) a h = (let found = named n ws i a h in (found.0, found.1, omega arith, found.3))

    below : (ws : List PortText) (i j : ℕ) (w : PortText) → i < j → slice_get ws i ≡ Some w → slice_get (take j ws) i ≡ Some w
    below [] i j w lt h = cc
    below (x ∷ ws) i zero w lt h = absurd (omega arith)
    below (x ∷ ws) zero (suc j) w lt h = h
    below (x ∷ ws) (suc i) (suc j) w lt h = below ws i j w (omega arith) h

-- so their number fits 32 bits
pub number_fits : (ins outs : List Port) (words : List PortWord) (n : ℕ) → length ins + length outs < 4294967296 → n < length words
    → ((j : ℕ) → j < n → Fits (names_of ins ++ names_of outs) (map port_text words) j) → n < 4294967296
number_fits ins outs words n few lt each =
    let within : n ≤ length (map port_text words) = subst (λ m. n ≤ m) (sym (length-map words port_text)) (omega arith) in
    let fits : n ≤ length (names_of ins ++ names_of outs) = few_fit (names_of ins ++ names_of outs) (map port_text words) n within each in
    let sum : length (names_of ins ++ names_of outs) ≡ length (names_of ins) + length (names_of outs) = length-append (names_of ins) (names_of outs) in
    let a : length (names_of ins) ≡ length ins = length-map ins (λ (p : Port). string_bytes p.name) in
    let b : length (names_of outs) ≡ length outs = length-map outs (λ (p : Port). string_bytes p.name) in
    omega arith
