-- Texts for tokens: when two of them are the same.
use Rattle.std.proofs.Common.{◌≡◌, ◌≢◌, ℕ, zero, suc, ◌+◌, ◌≤◌, Bool, true, false, List, ◌∷◌, length, refl, sym, ap, ◌∙◌, arith}
use Rattle.std.specs.Prelude.{◌==◌, Option, Some, option_map, string_bytes}
use Rattle.std.specs.Str.{bytes_eq}
use Rattle.std.proofs.lemmas.Bool.{eqb-true, eq-eqb}
use Rattle.std.proofs.lemmas.Slice.Eq.{bytes_eq-Decides}
use Rattle.std.proofs.lemmas.List.{length-map}
use Rattle.cal_model.specs.Actor.{Pattern}
use Rattle.cal_model.specs.Certified.{key_in, places_from, token_key}
use Rattle.determinacy_cert.specs.declared.found.Named.{Named as DeclaredNamed}
use Rattle.determinacy_cert.specs.Deciding.{Named, named_in, same_names}
use Rattle.determinacy_cert.specs.Viewing.{key_of, named_view}
use Rattle.determinacy_cert.proofs.Places.{key_at, key_found}

-- two tests that hold together are one
pub one_test : (a b : Bool) → (a ≡ true → b ≡ true) → (b ≡ true → a ≡ true) → a ≡ b
one_test true true p q = refl
one_test true false p q = sym (p refl)
one_test false true p q = q refl
one_test false false p q = refl

second_is : (k a b : ℕ) (xs ys : List ℕ) → k ∷ a ∷ xs ≡ k ∷ b ∷ ys → a ≡ b
second_is k a b xs ys h = cc

-- from one place on, two or more places are the same if the steps are
pub same_steps : (count k far more : ℕ) → 2 ≤ count → bytes_eq (places_from count k far) (places_from count k more) ≡ (far == more)
same_steps zero k far more h = absurd (omega arith)
same_steps (suc zero) k far more h = absurd (omega arith)
same_steps (suc (suc n)) k far more h =
    one_test (bytes_eq (places_from (suc (suc n)) k far) (places_from (suc (suc n)) k more)) (far == more)
    (λ e.
    let lists = (bytes_eq-Decides (places_from (suc (suc n)) k far) (places_from (suc (suc n)) k more)).0 e in
    let seconds : k + far ≡ k + more = second_is k (k + far) (k + more) _ _ lists in
    eq-eqb far more (omega arith))
    (λ e.
    let same : far ≡ more = eqb-true far more e in
    (bytes_eq-Decides (places_from (suc (suc n)) k far) (places_from (suc (suc n)) k more)).1 (ap (places_from (suc (suc n)) k) same))

places_count : (n k far : ℕ) → length (places_from n k far) ≡ n
places_count zero k far = refl
places_count (suc n) k far = ap suc (places_count n (k + far) far)

-- lists of other lengths are others
pub counts_apart : (port other_port count other k l far more : ℕ) (r s : Option ℕ) → r ≡ Some count → s ≡ Some other → count ≢ other
    → (count == other) ≡ bytes_eq (token_key port r far k) (token_key other_port s more l)
counts_apart port other_port count other k l far more r s e f apart =
    tests ∙ ap (λ x. bytes_eq (token_key port x far k) (token_key other_port (Some other) more l)) (sym e)
    ∙ ap (λ x. bytes_eq (token_key port r far k) (token_key other_port x more l)) (sym f)
  where
    tests : (count == other) ≡ bytes_eq (token_key port (Some count) far k) (token_key other_port (Some other) more l)
    tests =
        one_test (count == other) (bytes_eq (token_key port (Some count) far k) (token_key other_port (Some other) more l))
        (λ h. absurd (apart (eqb-true count other h)))
        (λ h.
        let lists = (bytes_eq-Decides (token_key port (Some count) far k) (token_key other_port (Some other) more l)).0 h in
        let lengths : length (token_key port (Some count) far k) ≡ length (token_key other_port (Some other) more l) = ap length lists in
        let one = places_count count k far in
        let two = places_count other l more in
        let same : count ≡ other = omega arith in
        absurd (apart same))

-- ---- names

pub key_is : (x : DeclaredNamed) → key_of x ≡ key_at (named_view x)
key_is x = ap (λ n. token_key x.pattern.now.port x.pattern.now.repeat n x.place) (sym (length-map x.pattern.now.names.items string_bytes))

pub names_by : (name other : List ℕ) (qs rs : List Pattern) (o p : Option Named) → o ≡ named_in name qs → p ≡ named_in other rs
    → same_names name (option_map key_at o) other (option_map key_at p) ≡ same_names name (key_in name qs) other (key_in other rs)
names_by name other qs rs o p e f =
    ap (λ x. same_names name (option_map key_at x) other (option_map key_at p)) e
    ∙ ap (λ x. same_names name (option_map key_at (named_in name qs)) other (option_map key_at x)) f
    ∙ ap (λ x. same_names name x other (option_map key_at (named_in other rs))) (sym (key_found name qs))
    ∙ ap (same_names name (key_in name qs) other) (sym (key_found other rs))
