-- Names of ports, each of which stands once.
use Rattle.std.proofs.Common.{◌≡◌, ℕ, suc, ◌<◌, ◌≤◌, Bool, true, false, not, List, [], ◌∷◌, ◌++◌, length, refl, sym, ap, ◌∙◌, arith}
use Rattle.std.specs.Prelude.{nat_le, string_bytes}
use Rattle.std.specs.Str.{bytes_eq}
use Rattle.rvc_base.specs.Rules.{port_named_twice}
use Rattle.cal_ast.specs.declared.member.PortDecl.{PortDecl}
use Rattle.cal_model.specs.Rates.{parts}
use Rattle.cal_model.specs.Sound.{max_ports}
use Rattle.cal_model.specs.Tags.{is_seen, with_seen}
use Rattle.cal_check.specs.Ports.{keyed_ports}
use Rattle.cal_check.specs.Violations.{Keyed, Violation, twice, violation}
use Rattle.check_member.specs.Parts.{ports_tree}
use Rattle.check_member.proofs.MetBefore.{twice-new, twice-old}
use Rattle.check_member.proofs.Seen.{seen-met, seen-new}

-- what stands twice, over names that were met
abbrev pub names_twice : List (List ℕ) → List PortDecl → List (Keyed (List ℕ)) → List Violation
names_twice met ports more = twice bytes_eq port_named_twice met (keyed_ports (ports_tree ports) ++ more)

abbrev pub port_name : PortDecl → List ℕ
port_name p = string_bytes p.name.text

abbrev pub key_of : PortDecl → Keyed (List ℕ)
key_of p = record { key = port_name p; at = p.at }

pub of-not : (b : Bool) → true ≡ not b → b ≡ false
of-not true h = absurd (cc)
of-not false h = refl

pub of-not-false : (b : Bool) → false ≡ not b → b ≡ true
of-not-false true h = refl
of-not-false false h = absurd (cc)

pub port-new : (p : PortDecl) (others : List PortDecl) (met : List (List ℕ)) (more : List (Keyed (List ℕ))) → is_seen (port_name p) met ≡ false
    → names_twice met (p ∷ others) more ≡ names_twice (with_seen met (port_name p)) others more
port-new p others met more h =
    twice-new bytes_eq port_named_twice met (key_of p) (keyed_ports (ports_tree others) ++ more) (seen-met (port_name p) met ∙ h)
    ∙ ap (λ ns. names_twice ns others more) (sym (seen-new (port_name p) met h))

pub port-old : (p : PortDecl) (others : List PortDecl) (met : List (List ℕ)) (more : List (Keyed (List ℕ))) → is_seen (port_name p) met ≡ true
    → names_twice met (p ∷ others) more ≡ violation port_named_twice p.at ++ names_twice met others more
port-old p others met more h =
    twice-old bytes_eq port_named_twice met (key_of p) (keyed_ports (ports_tree others) ++ more) (seen-met (port_name p) met ∙ h)

-- ---- how many

parts-of : (ports : List PortDecl) → parts (ports_tree ports) ≡ length ports
parts-of [] = refl
parts-of (p ∷ ports) = ap suc (parts-of ports)

pub few-parts : (ports : List PortDecl) → length ports ≤ max_ports → nat_le (parts (ports_tree ports)) max_ports ≡ true
few-parts ports h = ap (λ n. nat_le n max_ports) (parts-of ports) ∙ grind (arith, h)

pub many-parts : (ports : List PortDecl) → max_ports < length ports → nat_le (parts (ports_tree ports)) max_ports ≡ false
many-parts ports h = ap (λ n. nat_le n max_ports) (parts-of ports) ∙ grind (arith, h)
