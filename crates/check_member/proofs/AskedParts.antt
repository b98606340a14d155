-- What parts ask for, one after another.
use Rattle.std.proofs.Common.{◌≡◌, ℕ, suc, ◌+◌, ◌<◌, ◌≤◌, Bool, List, [], ◌∷◌, ◌++◌, length, drop, get_or, refl, sym, ap, ◌∙◌, append_assoc, add-one, drop-cons}
use Rattle.std.proofs.lemmas.List.{drop_all, map-append}
use Rattle.rvc_base.specs.declared.refusal.Rule.{Rule}
use Rattle.cal_model.specs.Actor.{Port}
use Rattle.cal_model.specs.Kinding.{Fine, Broken, and_so}
use Rattle.cal_model.proofs.KindValues.{fine-is, split}
use Rattle.cal_check.specs.Ports.{Asked, port_of, ports_from}
use Rattle.check_member.specs.Asking.{asked_view, asked_views}
use Rattle.check_member.specs.declared.asked.AskedPort.{AskedPort}
use Rattle.check_member.specs.Judging.{Breaks}
use Rattle.check_member.specs.declared.fault.MemberFault.{MemberFault}
use Rattle.check_member.specs.declared.fault.MemberFault.TheVariants as fault
use Rattle.check_member.proofs.Judged.{behind, behind-all, behind-broken, behind-next}

pub asked-next : (found grown : List AskedPort) (a : AskedPort) (x : Asked) (more : List Asked) → grown ≡ found ++ a ∷ [] → asked_view a ≡ x
    → asked_views grown ++ more ≡ asked_views found ++ x ∷ more
asked-next found grown a x more g e =
    ap (λ xs. asked_views xs ++ more) g
    ∙ ap (λ xs. xs ++ more) (map-append asked_view found (a ∷ []))
    ∙ append_assoc (asked_views found) (asked_view a ∷ []) more
    ∙ ap (λ y. asked_views found ++ y ∷ more) e

-- ---- the port of one part more

one-more : (found : List ℕ) (p : ℕ) → length (found ++ p ∷ []) ≡ suc (length found)
one-more [] p = refl
one-more (x ∷ found) p = ap suc (one-more found p)

at-part : (asked : List AskedPort) (k : ℕ) (d : AskedPort) → k < length asked → asked_views (drop k asked) ≡ asked_view (get_or asked k d) ∷ asked_views (drop (suc k) asked)
at-part asked k d h = ap asked_views (drop-cons asked k d h)

pub ports-next : (named : Bool) (found grown : List ℕ) (asked : List AskedPort) (k p : ℕ) (d : AskedPort) (ports : List Port) → k < length asked → grown ≡ found ++ p ∷ []
    → port_of named (length found) (asked_view (get_or asked k d)) (asked_view (get_or asked k d)).name ports ≡ Fine p
    → behind grown (ports_from named (length grown) (asked_views (drop (k + 1) asked)) ports) ≡ behind found (ports_from named (length found) (asked_views (drop k asked)) ports)
ports-next named found grown asked k p d ports h g e =
    ap (λ xs. behind xs (ports_from named (length xs) (asked_views (drop (k + 1) asked)) ports)) g
    ∙ ap (λ n. behind (found ++ p ∷ []) (ports_from named n (asked_views (drop (k + 1) asked)) ports)) (one-more found p)
    ∙ ap (λ j. behind (found ++ p ∷ []) (ports_from named (suc (length found)) (asked_views (drop j asked)) ports)) (add-one k)
    ∙ sym (ap (λ xs. behind found (ports_from named (length found) xs ports)) (at-part asked k d h)
    ∙ behind-next found p (port_of named (length found) (asked_view (get_or asked k d)) (asked_view (get_or asked k d)).name ports)
    (ports_from named (suc (length found)) (asked_views (drop (suc k) asked)) ports) e)

broken-part : (named : Bool) (found : List ℕ) (asked : List AskedPort) (k : ℕ) (d : AskedPort) (ports : List Port) (rule : Rule) (at : ℕ) → k < length asked
    → port_of named (length found) (asked_view (get_or asked k d)) (asked_view (get_or asked k d)).name ports ≡ Broken rule at
    → behind found (ports_from named (length found) (asked_views (drop k asked)) ports) ≡ Broken rule at
broken-part named found asked k d ports rule at h e =
    ap (λ xs. behind found (ports_from named (length found) xs ports)) (at-part asked k d h)
    ∙ behind-broken found (port_of named (length found) (asked_view (get_or asked k d)) (asked_view (get_or asked k d)).name ports)
    (λ p. and_so (ports_from named (suc (length found)) (asked_views (drop (suc k) asked)) ports) (λ ps. Fine (p ∷ ps))) rule at e

pub ports-breaks : (f : MemberFault) (named : Bool) (found : List ℕ) (asked : List AskedPort) (k : ℕ) (d : AskedPort) (ports : List Port) → k < length asked
    → Breaks f (port_of named (length found) (asked_view (get_or asked k d)) (asked_view (get_or asked k d)).name ports)
    → Breaks f (behind found (ports_from named (length found) (asked_views (drop k asked)) ports))
ports-breaks (fault.Broken rule at) named found asked k d ports h e = broken-part named found asked k d ports rule at h e
ports-breaks fault.Memory named found asked k d ports h e = tt

pub ports-all : (named : Bool) (found : List ℕ) (asked : List AskedPort) (k : ℕ) (ports : List Port) → length asked ≤ k
    → behind found (ports_from named (length found) (asked_views (drop k asked)) ports) ≡ Fine found
ports-all named found asked k ports h =
    ap (λ xs. behind found (ports_from named (length found) (asked_views xs) ports)) (drop_all k asked h) ∙ behind-all found

-- ---- how many

pub ports-count : (named : Bool) (k : ℕ) (asked : List Asked) (ports : List Port) (ns : List ℕ) → ports_from named k asked ports ≡ Fine ns → length ns ≡ length asked
ports-count named k [] ports ns h = sym (ap length (fine-is [] ns h))
ports-count named k (a ∷ asked) ports ns h =
    let p = split (port_of named k a a.name ports) (λ p. and_so (ports_from named (suc k) asked ports) (λ ps. Fine (p ∷ ps))) ns h in
    let q = split (ports_from named (suc k) asked ports) (λ ps. Fine (p.0 ∷ ps)) ns p.2 in
    sym (ap length (fine-is (p.0 ∷ q.0) ns q.2)) ∙ ap suc (ports-count named (suc k) asked ports q.0 q.1)

pub views-count : (asked : List AskedPort) → length (asked_views asked) ≡ length asked
views-count [] = refl
views-count (a ∷ asked) = ap suc (views-count asked)
