-- One index more is put on an expression.
use Rattle.std.proofs.Common.{◌≡◌, ℕ, suc, ◌-◌, Bool, false, ap, ◌∙◌, Option, Some, arith}
use Rattle.std.specs.Prelude.{if◌then◌else◌, nat_eq}
use Rattle.std.proofs.lemmas.Bool.Decides.{nat_tests}
use Rattle.cal_model.specs.Value.{Shape, Many}
use Rattle.lower_base.specs.declared.sorts.Sort.{Sort}
use Rattle.lower_base.specs.ItemsSeen.{few, items_at, items_listed, items_made}
use Rattle.lower_base.specs.Truths.{shape_gives, with_one}

some_more : (d : ℕ) → nat_eq (suc d) 0 ≡ false
some_more d = grind (arith, nat_tests)

one_less : (d : ℕ) → suc d - 1 ≡ d
one_less d = omega arith

pub items_deeper : (d n : ℕ) (items : Shape) → items_at (suc d) (Many n items) ≡ items_at d items
items_deeper d n items = ap (λ b. if b then Some n else items_at (suc d - 1) items) (some_more d) ∙ ap (λ k. items_at k items) (one_less d)

pub listed_deeper : (d n : ℕ) (first : ℕ → Option ℕ) → items_listed (suc d) n first ≡ first d
listed_deeper d n first = ap (λ b. if b then few n else first (suc d - 1)) (some_more d) ∙ ap first (one_less d)

pub made_deeper : (d : ℕ) (many : Option ℕ) (item : ℕ → Option ℕ) → items_made (suc d) many item ≡ item d
made_deeper d many item = ap (λ b. if b then many else item (suc d - 1)) (some_more d) ∙ ap item (one_less d)

pub one_deeper : (d : ℕ) (item : ℕ → Bool) → with_one (suc d) item ≡ item d
one_deeper d item = ap (λ b. if b then false else item (suc d - 1)) (some_more d) ∙ ap item (one_less d)

pub shape_deeper : (s : Sort) (d n : ℕ) (items : Shape) → shape_gives s (suc d) (Many n items) ≡ shape_gives s d items
shape_deeper s d n items = one_deeper d (λ k. shape_gives s k items)
