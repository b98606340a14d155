-- Links that stand in their order.
use Rattle.std.proofs.Common.{◌≡◌, ◌⊎◌, ⊎_elim, ℕ, zero, suc, ◌<◌, Bool, true, false, List, [], ◌∷◌, refl, subst, arith, inl, inr}
use Rattle.std.specs.Prelude.{Some, slice_get, ◌&&◌, ◌==◌, nat_le, nat_lt, if◌then◌else◌}
use Rattle.std.proofs.lemmas.Bool.{eqb-true, leb-true, ltb-true}
use Rattle.rvc_base.specs.declared.scalar.Scalar.{Scalar}
use Rattle.rvc_base.specs.declared.scalar.Scalar.TheVariants.{Bool as Truth, Int, Uint}
use Rattle.rvc_base.specs.Storing.{IsSize}
use Rattle.rvc_base.specs.Width.{max_size}
use Rattle.net_model.specs.declared.wiring.End.{End}
use Rattle.net_model.specs.declared.wiring.End.TheVariants.{Leaf as AtLeaf, Net as AtNet}
use Rattle.net_model.specs.declared.wiring.Link.{Link}
use Rattle.net_model.specs.declared.wiring.Port.{Port}
use Rattle.net_model.specs.Wired.{IsBefore}
use Rattle.net_state.proofs.Gaining.{some_is}
use Rattle.kit_runs.specs.Links.{are_behind, are_in_order, are_ports_sized, is_before, is_size}

pub both : (a b : Bool) → (a && b) ≡ true → (a ≡ true) × (b ≡ true)
both true b h = (refl, h)
both false b h = absurd (cc)

pub then_true : (a b : Bool) → (if a then b else false) ≡ true → (a ≡ true) × (b ≡ true)
then_true true b h = (refl, h)
then_true false b h = absurd (cc)

or_true : (a b : Bool) → (if a then true else b) ≡ true → (a ≡ true) ⊎ (b ≡ true)
or_true true b h = inl refl
or_true false b h = inr h

pub size_is : (kind : Scalar) → is_size kind ≡ true → IsSize kind
size_is Truth h = tt
size_is (Int n) h = let p = both (nat_le 1 n) (nat_le n max_size) h in (leb-true 1 n p.0, leb-true n max_size p.1)
size_is (Uint n) h = let p = both (nat_le 1 n) (nat_le n max_size) h in (leb-true 1 n p.0, leb-true n max_size p.1)

pub sizes_are : (ports : List Port) → are_ports_sized ports ≡ true → (p : ℕ) (port : Port) → slice_get ports p ≡ Some port → IsSize port.kind
sizes_are [] h p port at = cc
sizes_are (first ∷ ports) h zero port at =
    let parts = then_true (is_size first.kind) (are_ports_sized ports) h in
    subst (λ x. IsSize x.kind) (some_is first port at) (size_is first.kind parts.0)
sizes_are (first ∷ ports) h (suc p) port at =
    let parts = then_true (is_size first.kind) (are_ports_sized ports) h in
    sizes_are ports parts.1 p port at

before : (end other : End) → is_before end other ≡ true → IsBefore end other
before (AtLeaf inst port) (AtLeaf behind next) h = ⊎_elim
    (λ low. inl (ltb-true inst.0 behind.0 low))
    (λ same. let p = both (inst.0 == behind.0) (nat_lt port next) same in inr (eqb-true inst.0 behind.0 p.0, ltb-true port next p.1))
    (or_true (nat_lt inst.0 behind.0) ((inst.0 == behind.0) && nat_lt port next) h)
before (AtLeaf inst port) (AtNet next) h = tt
before (AtNet port) (AtLeaf behind next) h = absurd (cc)
before (AtNet port) (AtNet next) h = ltb-true port next h

behind : (end : End) (links : List Link) → are_behind end links ≡ true → (l : ℕ) (link : Link) → slice_get links l ≡ Some link → IsBefore end link.to
behind end [] h l link at = cc
behind end (first ∷ links) h zero link at =
    let parts = then_true (is_before end first.to) (are_behind end links) h in
    subst (λ x. IsBefore end x.to) (some_is first link at) (before end first.to parts.0)
behind end (first ∷ links) h (suc l) link at =
    let parts = then_true (is_before end first.to) (are_behind end links) h in
    behind end links parts.1 l link at

pub ordered : (links : List Link) → are_in_order links ≡ true → (l m : ℕ) (link other : Link) → l < m → slice_get links l ≡ Some link → slice_get links m ≡ Some other → IsBefore link.to other.to
ordered [] h l m link other low at there = cc
ordered (first ∷ links) h l zero link other low at there = absurd (omega (arith, low))
ordered (first ∷ links) h zero (suc m) link other low at there =
    let parts = then_true (are_behind first.to links) (are_in_order links) h in
    subst (λ x. IsBefore x.to other.to) (some_is first link at) (behind first.to links parts.0 m other there)
ordered (first ∷ links) h (suc l) (suc m) link other low at there =
    let parts = then_true (are_behind first.to links) (are_in_order links) h in
    ordered links parts.1 l m link other (omega (arith, low)) at there
