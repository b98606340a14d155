-- Numbers of ports, each of which is asked for once.
use Rattle.std.proofs.Common.{◌≡◌, ℕ, suc, ◌+◌, ◌<◌, ◌≤◌, Bool, true, false, List, [], ◌∷◌, ◌++◌, length, take, drop, get_or, refl, sym, ap, ◌∙◌, arith, add-one, drop-cons}
use Rattle.std.specs.Prelude.{◌==◌, ◌||◌, if◌then◌else◌}
use Rattle.std.specs.List.{list_any}
use Rattle.std.proofs.lemmas.List.{drop_all, take_more}
use Rattle.rvc_base.specs.Rules.{port_named_twice}
use Rattle.cal_check.specs.Ports.{keyed_numbers}
use Rattle.cal_check.specs.Violations.{Violation, is_met, twice, violation}
use Rattle.check_member.specs.Asking.{asked_views}
use Rattle.check_member.specs.declared.asked.AskedPort.{AskedPort}
use Rattle.check_member.proofs.MetBefore.{twice-new, twice-old}

turned : (n m : ℕ) → (n == m) ≡ (m == n)
turned n m = grind arith

-- a number is among these
pub any-met : (n : ℕ) (ns : List ℕ) → is_met (λ p q. p == q) n ns ≡ list_any (λ m. m == n) ns
any-met n [] = refl
any-met n (m ∷ ns) = go (n == m) (m == n) (turned n m) (any-met n ns)
  where
    go : (b c : Bool) → b ≡ c → is_met (λ p q. p == q) n ns ≡ list_any (λ m. m == n) ns → (if b then true else is_met (λ p q. p == q) n ns) ≡ (c || list_any (λ m. m == n) ns)
    go true true e h = refl
    go true false e h = absurd (cc)
    go false true e h = absurd (cc)
    go false false e h = h

-- what stands twice from the k-th number on
abbrev pub twice_from : ℕ → List ℕ → List AskedPort → List Violation
twice_from k ns asked = twice (λ p q. p == q) port_named_twice (take k ns) (keyed_numbers (drop k ns) (asked_views (drop k asked)))

at-number : (k : ℕ) (ns : List ℕ) (asked : List AskedPort) (d : AskedPort) → k < length ns → length ns ≡ length asked
    → twice_from k ns asked ≡ twice (λ p q. p == q) port_named_twice (take k ns)
    (record { key = get_or ns k 0; at = (get_or asked k d).at } ∷ keyed_numbers (drop (suc k) ns) (asked_views (drop (suc k) asked)))
at-number k ns asked d h e =
    let l : k < length asked = omega (arith, e) in
    ap (λ ms. twice (λ p q. p == q) port_named_twice (take k ns) (keyed_numbers ms (asked_views (drop k asked)))) (drop-cons ns k 0 h)
    ∙ ap (λ parts. twice (λ p q. p == q) port_named_twice (take k ns) (keyed_numbers (get_or ns k 0 ∷ drop (suc k) ns) (asked_views parts))) (drop-cons asked k d l)

pub once-more : (k : ℕ) (ns : List ℕ) (asked : List AskedPort) (d : AskedPort) → k < length ns → length ns ≡ length asked
    → list_any (λ m. m == get_or ns k 0) (take k ns) ≡ false → twice_from (k + 1) ns asked ≡ twice_from k ns asked
once-more k ns asked d h e new =
    ap (λ ms. twice (λ p q. p == q) port_named_twice ms (keyed_numbers (drop (k + 1) ns) (asked_views (drop (k + 1) asked)))) (take_more ns k 0 h)
    ∙ ap (λ j. twice (λ p q. p == q) port_named_twice (take k ns ++ get_or ns k 0 ∷ []) (keyed_numbers (drop j ns) (asked_views (drop j asked)))) (add-one k)
    ∙ sym (at-number k ns asked d h e
    ∙ twice-new (λ p q. p == q) port_named_twice (take k ns) (record { key = get_or ns k 0; at = (get_or asked k d).at }) (keyed_numbers (drop (suc k) ns) (asked_views (drop (suc k) asked)))
    (any-met (get_or ns k 0) (take k ns) ∙ new))

pub once-twice : (k : ℕ) (ns : List ℕ) (asked : List AskedPort) (d : AskedPort) → k < length ns → length ns ≡ length asked
    → list_any (λ m. m == get_or ns k 0) (take k ns) ≡ true
    → twice_from k ns asked ≡ violation port_named_twice (get_or asked k d).at ++ twice (λ p q. p == q) port_named_twice (take k ns) (keyed_numbers (drop (suc k) ns) (asked_views (drop (suc k) asked)))
once-twice k ns asked d h e old =
    at-number k ns asked d h e
    ∙ twice-old (λ p q. p == q) port_named_twice (take k ns) (record { key = get_or ns k 0; at = (get_or asked k d).at }) (keyed_numbers (drop (suc k) ns) (asked_views (drop (suc k) asked)))
    (any-met (get_or ns k 0) (take k ns) ∙ old)

pub once-all : (k : ℕ) (ns : List ℕ) (asked : List AskedPort) → length ns ≤ k → twice_from k ns asked ≡ []
once-all k ns asked h =
    ap (λ ms. twice (λ p q. p == q) port_named_twice (take k ns) (keyed_numbers ms (asked_views (drop k asked)))) (drop_all k ns h)
