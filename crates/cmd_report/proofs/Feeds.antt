-- The files of feeds, link by link.
use Rattle.std.proofs.Common.{◌≡◌, ℕ, ◌+◌, ◌<◌, Bool, true, false, List, [], ◌∷◌, ◌++◌, refl, sym, ap, subst, ◌∙◌, arith, Option, None, Some}
use Rattle.std.specs.Prelude.{◌==◌, if◌then◌else◌, slice_get, unwrap_or}
use Rattle.std.proofs.lemmas.Bool.{eq-eqb, eqb-true}
use Rattle.rvc_words.specs.Words.{PortText}
use Rattle.net_model.specs.Network.{is_outside}
use Rattle.net_model.specs.declared.wiring.End.{End}
use Rattle.net_model.specs.declared.wiring.End.TheVariants.{Leaf as AtLeaf, Net as AtNet}
use Rattle.net_model.specs.declared.wiring.Link.{Link}
use Rattle.cmd_ports.specs.Opening.{Opening, feeds_from, file_at, file_from, opening_if}
use Rattle.cmd_report.specs.About.{file_opened}

-- the openings of a link that begins here, and of those behind it
abbrev pub behind : End → (number : ℕ) → List Link → (ins : List (List ℕ)) → List PortText → List Opening
behind from number links ins words =
    if is_outside from
    then opening_if number (file_from from ins words) ++ feeds_from (number + 1) links ins words
    else feeds_from number links ins words

-- ---- one opening

differ : (n k : ℕ) → (n ≡ k → ⊥) → (n == k) ≡ false
differ n k apart = by (n == k) refl
  where
    by : (b : Bool) → (n == k) ≡ b → b ≡ false
    by true e = absurd (apart (eqb-true n k e))
    by false e = refl

skipped : (k n : ℕ) (file : Option (List ℕ)) (os : List Opening) → (n ≡ k → ⊥) → file_opened k (opening_if n file ++ os) ≡ file_opened k os
skipped k n None os apart = refl
skipped k n (Some f) os apart = ap (λ b. if b then f else file_opened k os) (differ n k apart)

taken : (n : ℕ) (file : Option (List ℕ)) (os : List Opening) → file_opened n os ≡ [] → file_opened n (opening_if n file ++ os) ≡ unwrap_or file []
taken n None os e = e
taken n (Some f) os e = ap (λ b. if b then f else file_opened n os) (eq-eqb n n refl)

-- ---- links

below_at : (k n : ℕ) (from : End) (links : List Link) (ins : List (List ℕ)) (words : List PortText) → k < n → file_opened k (feeds_from n links ins words) ≡ []
    → file_opened k (feeds_from (n + 1) links ins words) ≡ [] → file_opened k (behind from n links ins words) ≡ []
below_at k n (AtLeaf inst port) links ins words less same more = same
below_at k n (AtNet port) links ins words less same more = skipped k n (file_at (slice_get ins port) words) (feeds_from (n + 1) links ins words) (λ e. absurd (omega arith)) ∙ more

-- no opening has a number below the first
none_below : (k n : ℕ) (links : List Link) (ins : List (List ℕ)) (words : List PortText) → k < n → file_opened k (feeds_from n links ins words) ≡ []
none_below k n [] ins words less = refl
none_below k n (link ∷ links) ins words less = below_at k n link.from links ins words less (none_below k n links ins words less) (none_below k (n + 1) links ins words (omega arith))

-- the link of this number
pub found : (n port : ℕ) (from : End) (links : List Link) (ins : List (List ℕ)) (words : List PortText) → from ≡ AtNet port
    → file_opened n (behind from n links ins words) ≡ unwrap_or (file_at (slice_get ins port) words) []
found n port from links ins words is = subst (λ f. file_opened n (behind f n links ins words) ≡ unwrap_or (file_at (slice_get ins port) words) []) (sym is)
    (taken n (file_at (slice_get ins port) words) (feeds_from (n + 1) links ins words) (none_below n (n + 1) links ins words (omega arith)))

-- an input link of another number
pub passed : (k n port : ℕ) (from : End) (links : List Link) (ins : List (List ℕ)) (words : List PortText) → from ≡ AtNet port → (n ≡ k → ⊥)
    → file_opened k (behind from n links ins words) ≡ file_opened k (feeds_from (n + 1) links ins words)
passed k n port from links ins words is apart = subst (λ f. file_opened k (behind f n links ins words) ≡ file_opened k (feeds_from (n + 1) links ins words)) (sym is)
    (skipped k n (file_at (slice_get ins port) words) (feeds_from (n + 1) links ins words) apart)
