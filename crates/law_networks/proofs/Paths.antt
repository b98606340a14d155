-- Paths of ids: how one goes on, and that no two rows of ids have one.
use Rattle.std.proofs.Common.{◌≡◌, ◌≢◌, ℕ, List, [], ◌∷◌, ◌++◌, refl, sym, ap, subst, ◌∙◌}
use Rattle.std.specs.Prelude.{codes}
use Rattle.std.proofs.lemmas.List.{append_assoc, append-nil}
use Rattle.cal_model.specs.Sound.{Each}
use Rattle.fnl_bind.specs.Networks.{path_under}
use Rattle.law_networks.specs.Chains.{IsId, is_no_slash, path_of}

abbrev pub Row : Type 0
Row = List (List ℕ)

-- what follows the first id
abbrev behind : Row → List ℕ
behind [] = []
behind (id ∷ ids) = 47 ∷ path_of (id ∷ ids)

path_opens : (id : List ℕ) (ids : Row) → path_of (id ∷ ids) ≡ id ++ behind ids
path_opens id [] = sym (append-nil id)
path_opens id (next ∷ ids) = refl

-- ---- one id more

path_grows : (x : List ℕ) (xs : Row) (id : List ℕ) → path_of (x ∷ (xs ++ id ∷ [])) ≡ path_of (x ∷ xs) ++ (codes "/" ++ id)
path_grows x [] id = refl
path_grows x (y ∷ xs) id =
    ap (λ t. x ++ (codes "/" ++ t)) (path_grows y xs id)
    ∙ sym (append_assoc x (codes "/" ++ path_of (y ∷ xs)) (codes "/" ++ id))

pub path_one_more : (ids : Row) (id : List ℕ) → Each IsId ids → path_under (path_of ids) id ≡ path_of (ids ++ id ∷ [])
path_one_more [] id h = refl
path_one_more (x ∷ xs) id h = go x h.0.there ∙ sym (path_grows x xs id)
  where
    under : (p : List ℕ) (b : ℕ) (bs : List ℕ) → p ≡ b ∷ bs → path_under p id ≡ p ++ (codes "/" ++ id)
    under p b bs e = subst (λ q. path_under q id ≡ q ++ (codes "/" ++ id)) (sym e) refl

    go : (y : List ℕ) → y ≢ [] → path_under (path_of (y ∷ xs)) id ≡ path_of (y ∷ xs) ++ (codes "/" ++ id)
    go [] there = absurd (there refl)
    go (b ∷ bs) there = under (path_of ((b ∷ bs) ∷ xs)) b (bs ++ behind xs) (path_opens (b ∷ bs) xs)

-- ---- rows of one path are one

abbrev IsBehind : List ℕ → Type 0
IsBehind [] = Unit {0}
IsBehind (b ∷ bs) = ◌≡◌ {A = ℕ} b 47

is_behind : (ids : Row) → IsBehind (behind ids)
is_behind [] = tt
is_behind (id ∷ ids) = refl

record AreOne (x y t u : List ℕ) : Type 0 where
  first : x ≡ y
  rest : t ≡ u

head_same : (a b : ℕ) (xs ys : List ℕ) → a ∷ xs ≡ b ∷ ys → a ≡ b
head_same a b xs ys h = cc

tail_same : (a b : ℕ) (xs ys : List ℕ) → a ∷ xs ≡ b ∷ ys → xs ≡ ys
tail_same a b xs ys h = cc

slash_first : (t : List ℕ) (b : ℕ) (bs : List ℕ) → IsBehind t → is_no_slash b → t ≡ b ∷ bs → ⊥
slash_first [] b bs i n h = absurd cc
slash_first (c ∷ t) b bs i n h = n (sym (head_same c b t bs h) ∙ i)

split : (x y t u : List ℕ) → Each is_no_slash x → Each is_no_slash y → IsBehind t → IsBehind u → x ++ t ≡ y ++ u → AreOne x y t u
split [] [] t u p q i j h = record { first = refl; rest = h }
split [] (b ∷ y) t u p q i j h = absurd (slash_first t b (y ++ u) i q.0 h)
split (a ∷ x) [] t u p q i j h = absurd (slash_first u a (x ++ t) j p.0 (sym h))
split (a ∷ x) (b ∷ y) t u p q i j h =
    let both = split x y t u p.1 q.1 i j (tail_same a b (x ++ t) (y ++ u) h) in
    record {
      first = ap (λ c. c ∷ x) (head_same a b (x ++ t) (y ++ u) h) ∙ ap (λ z. b ∷ z) both.first;
      rest = both.rest;
    }

nothing_there : (id : List ℕ) (t : List ℕ) → id ≢ [] → id ++ t ≡ [] → ⊥
nothing_there [] t n h = n refl
nothing_there (b ∷ id) t n h = absurd cc

path_behind : (us vs : Row) → behind us ≡ behind vs → path_of us ≡ path_of vs
path_behind [] [] e = refl
path_behind [] (v ∷ vs) e = absurd cc
path_behind (u ∷ us) [] e = absurd cc
path_behind (u ∷ us) (v ∷ vs) e = tail_same 47 47 (path_of (u ∷ us)) (path_of (v ∷ vs)) e

pub one_row : (xs ys : Row) → Each IsId xs → Each IsId ys → path_of xs ≡ path_of ys → xs ≡ ys
one_row [] [] p q h = refl
one_row [] (y ∷ ys) p q h = absurd (nothing_there y (behind ys) q.0.there (sym (path_opens y ys) ∙ sym h))
one_row (x ∷ xs) [] p q h = absurd (nothing_there x (behind xs) p.0.there (sym (path_opens x xs) ∙ h))
one_row (x ∷ xs) (y ∷ ys) p q h =
    let both = split x y (behind xs) (behind ys) p.0.plain q.0.plain (is_behind xs) (is_behind ys) (sym (path_opens x xs) ∙ h ∙ path_opens y ys) in
    ap (λ z. z ∷ xs) both.first ∙ ap (λ zs. y ∷ zs) (one_row xs ys p.1 q.1 (path_behind xs ys both.rest))
