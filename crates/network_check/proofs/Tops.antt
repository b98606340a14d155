-- The file that is read for a top.
use Rattle.std.proofs.Common.{◌≡◌, inl, inr, ℕ, suc, ◌+◌, Bool, true, false, cond, List, [], ◌∷◌, ◌++◌, take, drop, refl, sym, ap, ◌∙◌, arith, eqb-true}
use Rattle.std.specs.Prelude.{◌==◌, codes, not, if◌then◌else◌}
use Rattle.std.specs.List.{position_or_len}
use Rattle.std.specs.Str.{bytes_eq}
use Rattle.std.proofs.lemmas.List.{append_cancel_left, drop-drop, take-append-drop}
use Rattle.cal_imports.specs.Sources.{dot}
use Rattle.cal_files.specs.FileNames.{class_of, path_of, replaced, slash}
use Rattle.fnl_source.specs.Files.{a_network, an_actor, Choice, name_of, wanted}
use Rattle.network_check.specs.Top.{TopsAreRead, ending_of}

one_more : (n : ℕ) → 1 + n ≡ suc n
one_more n = omega arith

-- before the first dot there is none, so dots for slashes and slashes for dots give the same again
there_and_back : (text : List ℕ) → replaced dot slash (class_of text) ≡ path_of text
there_and_back [] = refl
there_and_back (x ∷ xs) = go (x == dot) refl (there_and_back xs)
  where
    n : ℕ
    n = position_or_len (λ b. b == dot) xs

    byte : (c : Bool) → (c ≡ true → x ≡ slash) → x == dot ≡ false
        → (if (if c then dot else x) == dot then slash else (if c then dot else x)) ≡ x
    byte true h away = sym (h refl)
    byte false h away = ap (λ b. if b then slash else x) away

    go : (b : Bool) → x == dot ≡ b → replaced dot slash (replaced slash dot (take n xs)) ≡ take n xs
        → replaced dot slash (replaced slash dot (take (cond (not b) (1 + n) 0) (x ∷ xs)))
        ≡ take (cond (not b) (1 + n) 0) (x ∷ xs)
    go true e rest = refl
    go false e rest =
        ap (λ k. replaced dot slash (replaced slash dot (take k (x ∷ xs)))) (one_more n)
        ∙ ap (λ y. y ∷ replaced dot slash (replaced slash dot (take n xs))) (byte (x == slash) (λ h. eqb-true x slash h) e)
        ∙ ap (λ ys. x ∷ ys) rest
        ∙ ap (λ k. take k (x ∷ xs)) (sym (one_more n))

-- what stands behind the first dot
ending_is : (top rest : List ℕ) (x : ℕ) → top ≡ path_of top ++ x ∷ rest → ending_of top ≡ rest
ending_is top rest x h =
    sym (drop-drop 1 n top) ∙ ap (drop 1) (append_cancel_left (take n top) (drop n top) (x ∷ rest) (take-append-drop n top ∙ h))
  where
    n : ℕ
    n = position_or_len (λ b. b == dot) top

-- the class and the file of a top, by whether it ends as a network
abbrev asked_name : Choice → List ℕ → Bool → List ℕ
asked_name choice top b = name_of (wanted choice (if b then a_network (class_of top) else an_actor (class_of top)))

pub tops_are_read : TopsAreRead
tops_are_read choice top (inl h) =
    let actor : bytes_eq (ending_of top) (codes "xdf") ≡ false = ap (λ e. bytes_eq e (codes "xdf")) (ending_is top (codes "cal") dot h) in
    ap (asked_name choice top) actor ∙ ap (λ p. p ++ codes ".cal") (there_and_back top) ∙ sym h
tops_are_read choice top (inr h) =
    let net : bytes_eq (ending_of top) (codes "xdf") ≡ true = ap (λ e. bytes_eq e (codes "xdf")) (ending_is top (codes "xdf") dot h) in
    ap (asked_name choice top) net ∙ ap (λ p. p ++ codes ".xdf") (there_and_back top) ∙ sym h
