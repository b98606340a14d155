-- Names that stand once are told apart, and so are those of some of them.
use Rattle.std.proofs.Common.{◌≡◌, ◌≢◌, ℕ, Bool, true, false, List, [], ◌∷◌, ◌++◌, map, refl, sym, ap, subst, ◌∙◌, arith}
use Rattle.std.specs.Prelude.{All, AllPairs, if◌then◌else◌}
use Rattle.std.specs.Str.{bytes_eq}
use Rattle.std.proofs.lemmas.List.Elements.{All-nil, All-cons}
use Rattle.std.proofs.lemmas.List.Kept.{AllPairs-cons}
use Rattle.std.proofs.lemmas.Slice.Eq.{bytes_eq-Decides}
use Rattle.rvc_base.specs.declared.refusal.Rule.{Rule}
use Rattle.cal_check.specs.Violations.{Violation, violation, Keyed, is_met, twice}
use Rattle.fnl_read.specs.Net.{Port, a_port}
use Rattle.fnl_bind.specs.Library.{ports_of}
use Rattle.fnl_bind.specs.Scopes.{keyed_ports}

-- a name is none of these
abbrev pub IsNew : List ℕ → List (List ℕ) → Type 0
IsNew n [] = Unit {0}
IsNew n (x ∷ xs) = (n ≢ x) × IsNew n xs

-- no two are the same
abbrev pub AreTold : List (List ℕ) → Type 0
AreTold [] = Unit {0}
AreTold (x ∷ xs) = IsNew x xs × AreTold xs

new_all : (n : List ℕ) (xs : List (List ℕ)) → IsNew n xs → All (λ x. n ≢ x) xs
new_all n [] h = All-nil (λ x. n ≢ x)
new_all n (x ∷ xs) h = All-cons (λ y. n ≢ y) x xs h.0 (new_all n xs h.1)

pub told_pairs : (xs : List (List ℕ)) → AreTold xs → AllPairs (λ a b. a ≢ b) xs
told_pairs [] h = λ i j d less below. absurd (omega (arith, below))
told_pairs (x ∷ xs) h = AllPairs-cons (λ a b. a ≢ b) x xs (new_all x xs h.0) (told_pairs xs h.1)

-- ---- from names that don't stand twice

text_itself : (n : List ℕ) → bytes_eq n n ≡ true
text_itself n = (bytes_eq-Decides n n).1 refl

unmet : (b : Bool) (rule : Rule) (at : ℕ) (vs ws : List Violation) → (if b then violation rule at ++ vs else ws) ≡ [] → (b ≡ false) × (ws ≡ [])
unmet true rule at vs ws h = absurd (cc)
unmet false rule at vs ws h = (refl, h)

met_on : (b c : Bool) → c ≡ true → (if b then true else c) ≡ true
met_on true c h = refl
met_on false c h = h

met_here : (n : List ℕ) (met : List (List ℕ)) → is_met bytes_eq n (n ∷ met) ≡ true
met_here n met = ap (λ b. if b then true else is_met bytes_eq n met) (text_itself n)

never_both : (b : Bool) → b ≡ true → b ≡ false → ⊥
never_both b p q = let e : true ≡ false = sym p ∙ q in grind arith

abbrev keys : List (Keyed (List ℕ)) → List (List ℕ)
keys xs = map (λ x. x.key) xs

-- what was met isn't met again
away : (rule : Rule) (n : List ℕ) (met : List (List ℕ)) (xs : List (Keyed (List ℕ))) → twice bytes_eq rule met xs ≡ [] → is_met bytes_eq n met ≡ true
    → IsNew n (keys xs)
away rule n met [] h i = tt
away rule n met (x ∷ xs) h i =
    let p = unmet (is_met bytes_eq x.key met) rule x.at (twice bytes_eq rule met xs) (twice bytes_eq rule (x.key ∷ met) xs) h in (
      (λ e. never_both (is_met bytes_eq x.key met) (subst (λ k. is_met bytes_eq k met ≡ true) e i) p.0),
      away rule n (x.key ∷ met) xs p.1 (met_on (bytes_eq n x.key) (is_met bytes_eq n met) i),
    )

told : (rule : Rule) (met : List (List ℕ)) (xs : List (Keyed (List ℕ))) → twice bytes_eq rule met xs ≡ [] → AreTold (keys xs)
told rule met [] h = tt
told rule met (x ∷ xs) h =
    let p = unmet (is_met bytes_eq x.key met) rule x.at (twice bytes_eq rule met xs) (twice bytes_eq rule (x.key ∷ met) xs) h in
    (away rule x.key (x.key ∷ met) xs p.1 (met_here x.key met), told rule (x.key ∷ met) xs p.1)

pub told_once : (rule : Rule) (xs : List (Keyed (List ℕ))) → twice bytes_eq rule [] xs ≡ [] → AreTold (map (λ x. x.key) xs)
told_once rule xs h = told rule [] xs h

-- ---- ports of one direction

abbrev pub port_name : Port → List ℕ
port_name (a_port input shape name at) = name

pub port_keys : (ps : List Port) → map (λ x. x.key) (keyed_ports ps) ≡ map port_name ps
port_keys [] = refl
port_keys (a_port input shape name at ∷ ps) = ap (λ ns. name ∷ ns) (port_keys ps)

new_of : (input : Bool) (n : List ℕ) (ps : List Port) → IsNew n (map port_name ps) → IsNew n (map port_name (ports_of input ps))
new_of input n [] h = tt
new_of true n (a_port true shape name at ∷ ps) h = (h.0, new_of true n ps h.1)
new_of true n (a_port false shape name at ∷ ps) h = new_of true n ps h.1
new_of false n (a_port true shape name at ∷ ps) h = new_of false n ps h.1
new_of false n (a_port false shape name at ∷ ps) h = (h.0, new_of false n ps h.1)

pub told_of : (input : Bool) (ps : List Port) → AreTold (map port_name ps) → AreTold (map port_name (ports_of input ps))
told_of input [] h = tt
told_of true (a_port true shape name at ∷ ps) h = (new_of true name ps h.0, told_of true ps h.1)
told_of true (a_port false shape name at ∷ ps) h = told_of true ps h.1
told_of false (a_port true shape name at ∷ ps) h = told_of false ps h.1
told_of false (a_port false shape name at ∷ ps) h = (new_of false name ps h.0, told_of false ps h.1)
