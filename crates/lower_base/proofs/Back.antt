-- Values are read back from their numbers.
use Rattle.std.proofs.Common.{◌≡◌, ℕ, zero, suc, ℤ, List, ◌++◌, drop, refl, ap, ◌∙◌, arith, append_assoc}
use Rattle.std.proofs.lemmas.List.{drop_at}
use Rattle.cal_model.specs.Value.{Kind, NumKind, BoolKind, ListKind, Value, Num, Truth, Items, Values, Nil, Cons, count, HasKind, HaveKind, scalars_of_kind}
use Rattle.lower_base.specs.Flat.{flat, flat_all, many_of, of_flat}
use Rattle.lower_base.proofs.Effects.{true_again}
use Rattle.lower_base.proofs.Keeping.{flat_length}

mutual
  pub comes_back : (k : Kind) (v : Value) (rest : List ℤ) → HasKind k v → of_flat k (flat v ++ rest) ≡ v
  comes_back NumKind (Num z) rest h = refl
  comes_back NumKind (Truth b) rest h = absurd h
  comes_back NumKind (Items vs) rest h = absurd h
  comes_back BoolKind (Num z) rest h = absurd h
  comes_back BoolKind (Truth b) rest h = ap Truth (true_again b)
  comes_back BoolKind (Items vs) rest h = absurd h
  comes_back (ListKind n items) (Num z) rest h = absurd h
  comes_back (ListKind n items) (Truth b) rest h = absurd h
  comes_back (ListKind n items) (Items vs) rest h = ap Items (come_back items n vs rest h.0 h.1)

  come_back : (k : Kind) (n : ℕ) (vs : Values) (rest : List ℤ) → count vs ≡ n → HaveKind k vs → many_of n (scalars_of_kind k) (of_flat k) (flat_all vs ++ rest) ≡ vs
  come_back k zero Nil rest e h = refl
  come_back k zero (Cons v vs) rest e h = absurd (omega arith)
  come_back k (suc n) Nil rest e h = absurd (omega arith)
  come_back k (suc n) (Cons v vs) rest e h =
      let split : (flat v ++ flat_all vs) ++ rest ≡ flat v ++ (flat_all vs ++ rest) = append_assoc (flat v) (flat_all vs) rest in
      ap (λ zs. Cons (of_flat k zs) (many_of n (scalars_of_kind k) (of_flat k) (drop (scalars_of_kind k) zs))) split
      ∙ ap (λ u. Cons u (many_of n (scalars_of_kind k) (of_flat k) (drop (scalars_of_kind k) (flat v ++ (flat_all vs ++ rest))))) (comes_back k v (flat_all vs ++ rest) h.0)
      ∙ ap (λ zs. Cons v (many_of n (scalars_of_kind k) (of_flat k) zs)) (drop_at (flat v) (flat_all vs ++ rest) (scalars_of_kind k) (flat_length k v h.0))
      ∙ ap (λ us. Cons v us) (come_back k n vs rest (omega arith) h.1)
