-- Ports of a header of which none breaks a rule.
use Rattle.std.proofs.Common.{◌≡◌, ℕ, suc, ◌≤◌, Bool, true, false, List, [], ◌∷◌, ◌++◌, length, map, refl, sym, ap, subst, ◌∙◌, Some}
use Rattle.std.specs.Prelude.{nat_le, if◌then◌else◌, ◌==◌}
use Rattle.std.proofs.lemmas.Bool.{leb-true}
use Rattle.rvc_base.specs.declared.refusal.Rule.{Rule}
use Rattle.rvc_base.specs.Rules.{unknown_name, list_not_allowed, port_named_twice, too_many_ports, not_constant}
use Rattle.rvc_base.specs.declared.scalar.Scalar.{Scalar}
use Rattle.rvc_base.specs.Storing.{IsSize}
use Rattle.cal_ast.specs.Places.{begins}
use Rattle.cal_ast.specs.Tree as tree
use Rattle.cal_ast.specs.Tree.{Tree}
use Rattle.cal_model.specs.Value.{Shape, Single, Many}
use Rattle.cal_model.specs.Actor.{Port}
use Rattle.cal_model.specs.Rates.{parts}
use Rattle.cal_model.specs.Kinding.{Judged, Fine, Broken, Names, type_judged}
use Rattle.cal_model.specs.Sound.{AreDistinct, Each, max_ports}
use Rattle.cal_model.proofs.KindValues.{not-fine, fine-is, split}
use Rattle.cal_model.proofs.KindLaws.{judged-type}
use Rattle.cal_check.specs.Violations.{all_broken, all_fine, twice, unless}
use Rattle.cal_check.specs.Constants.{constant_place, early_type, not_yet}
use Rattle.cal_check.specs.Routines.{single}
use Rattle.cal_check.specs.Ports.{each_port, header_broken, keyed_ports, port_judged}
use Rattle.cal_check.specs.Laws.{IsHeader}
use Rattle.cal_check.proofs.Fine.{all-fine, none-of, unless-true}
use Rattle.cal_check.proofs.Distinct.{distinct-texts}

-- ---- types of ports

never : {A : Type 0} (b : Bool) (r s : Rule) (p q : ℕ) (a : A) → (if b then Broken r p else Broken s q) ≡ Fine a → ⊥
never true r s p q a h = not-fine r p a h
never false r s p q a h = not-fine s q a h

pub yet-fine : {A : Type 0} (j : Judged A) (e : Tree) (a : A) → not_yet j e ≡ Fine a → j ≡ Fine a
yet-fine (Fine b) e a h = h
yet-fine (Broken rule at) e a h = absurd (never (rule.0 == unknown_name.0) not_constant rule (constant_place at e) at a h)

pub single-is : (j : Judged Shape) (at : ℕ) (t : Scalar) → single j at ≡ Fine t → j ≡ Fine (Single t)
single-is (Fine (Single s)) at t h = ap (λ x. Fine (Single x)) (fine-is s t h)
single-is (Fine (Many n items)) at t h = absurd (not-fine list_not_allowed at t h)
single-is (Broken rule p) at t h = absurd (not-fine rule p t h)

-- a tree that is judged to be this port
record IsPort (p : Tree) (names : Names) (x : Port) : Type 0 where
  pub size : IsSize x.kind
  pub shape : Tree
  pub place : ℕ
  pub at : ℕ
  pub is : p ≡ tree.port shape (tree.ident x.name place) at

is-port : (p : Tree) (names : Names) (x : Port) → port_judged p names ≡ Fine x → IsPort p names x
is-port (tree.port shape (tree.ident name place) at) names x h =
    let t = split (single (early_type shape names) (begins shape)) (λ t. Fine (record { name = name; kind = t })) x h in
    let typed : type_judged shape names ≡ Fine (Single t.0) = yet-fine (type_judged shape names) shape (Single t.0) (single-is (early_type shape names) (begins shape) t.0 t.1) in
    subst (λ y. IsPort (tree.port shape (tree.ident name place) at) names y) (fine-is (record { name = name; kind = t.0 }) x t.2)
    (record { size = judged-type shape names (Single t.0) typed; shape = shape; place = place; at = at; is = refl })
is-port other names x h = absurd (not-fine unknown_name 0 x h)

-- ports of one direction
record ArePorts (ps : Tree) (xs : List Port) : Type 0 where
  pub sizes : Each (λ p. IsSize p.kind) xs
  pub keys : map (λ k. k.key) (keyed_ports ps) ≡ map (λ p. p.name) xs
  pub count : parts ps ≡ length xs

are-ports : (ps : Tree) (names : Names) (xs : List Port) → each_port ps names ≡ map Fine xs → ArePorts ps xs
are-ports (tree.cons p ps) names (x ∷ xs) h =
    let e : port_judged p names ≡ Fine x = cc in
    let more : each_port ps names ≡ map Fine xs = cc in
    let is = is-port p names x e in
    let rest = are-ports ps names xs more in
    record {
      sizes = (is.size, rest.sizes);
      keys = ap (λ t. map (λ k. k.key) (keyed_ports (tree.cons t ps))) is.is ∙ ap (λ ns. x.name ∷ ns) rest.keys;
      count = ap suc rest.count;
    }
are-ports (tree.cons p ps) names [] h = absurd (cc)
are-ports other names [] h = record { sizes = tt; keys = refl; count = refl }
are-ports other names (x ∷ xs) h = absurd (cc)

-- ---- both directions

pub map-append : {A B : Type 0} (f : A → B) (xs ys : List A) → map f (xs ++ ys) ≡ map f xs ++ map f ys
map-append f [] ys = refl
map-append f (x ∷ xs) ys = ap (λ zs. f x ∷ zs) (map-append f xs ys)

each-append : {A : Type 0} (P : A → Type 0) (xs ys : List A) → Each P xs → Each P ys → Each P (xs ++ ys)
each-append P [] ys p q = q
each-append P (x ∷ xs) ys p q = (p.0, each-append P xs ys p.1 q)

few : (n m at : ℕ) → n ≡ m → unless (nat_le n max_ports) too_many_ports at ≡ [] → m ≤ max_ports
few n m at e h = subst (λ k. k ≤ max_ports) e (leb-true n max_ports (unless-true (nat_le n max_ports) too_many_ports at h))

pub header-sound : (ins outs : Tree) (at : ℕ) (names : Names) → header_broken ins outs at names ≡ []
    → (xs : List Port) × (ys : List Port) × (all_fine (each_port ins names) ≡ Some xs) × (all_fine (each_port outs names) ≡ Some ys) × IsHeader xs ys
header-sound ins outs at names h =
    let a = none-of (all_broken (each_port ins names)) _ h in
    let b = none-of (all_broken (each_port outs names)) _ a.1 in
    let c = none-of (twice _ port_named_twice [] (keyed_ports ins ++ keyed_ports outs)) _ b.1 in
    let d = none-of (unless (nat_le (parts ins) max_ports) too_many_ports at) _ c.1 in
    let xs = all-fine (each_port ins names) a.0 in
    let ys = all-fine (each_port outs names) b.0 in
    let p = are-ports ins names xs.0 xs.1 in
    let q = are-ports outs names ys.0 ys.1 in
    let names_are : map (λ k. k.key) (keyed_ports ins ++ keyed_ports outs) ≡ map (λ p. p.name) (xs.0 ++ ys.0) =
    map-append (λ k. k.key) (keyed_ports ins) (keyed_ports outs)
    ∙ ap (λ zs. zs ++ map (λ k. k.key) (keyed_ports outs)) p.keys
    ∙ ap (λ zs. map (λ p. p.name) xs.0 ++ zs) q.keys
    ∙ sym (map-append (λ p. p.name) xs.0 ys.0) in (
      xs.0,
      ys.0,
      xs.2,
      ys.2,
      record {
        distinct = subst (λ ns. AreDistinct ns) names_are (distinct-texts port_named_twice (keyed_ports ins ++ keyed_ports outs) c.0);
        sizes = each-append (λ p. IsSize p.kind) xs.0 ys.0 p.sizes q.sizes;
        few_ins = few (parts ins) (length xs.0) at p.count d.0;
        few_outs = few (parts outs) (length ys.0) at q.count d.1;
      },
    )
