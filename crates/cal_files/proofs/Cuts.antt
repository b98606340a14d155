-- A text with one byte in place of another, cut at the first of them.
use Rattle.std.proofs.Common.{◌≡◌, ℕ, suc, ◌+◌, ◌<◌, Bool, true, false, cond, List, [], ◌∷◌, ◌++◌, length, take, drop, refl, sym, ap, ◌∙◌, arith, eqb-true}
use Rattle.std.specs.Prelude.{◌==◌, codes, not, if◌then◌else◌}
use Rattle.std.specs.List.{after_first, before_first, position_or_len}
use Rattle.cal_imports.specs.Sources.{dot}
use Rattle.cal_files.specs.FileNames.{file_of, path_of, replaced, slash}

one_more : (n : ℕ) → 1 + n ≡ suc n
one_more n = omega arith

-- what a cut at a place leaves before it and behind it
abbrev joined : (mark other n : ℕ) (text : List ℕ) → List ℕ
joined mark other n text = take n text ++ other ∷ replaced mark other (drop (n + 1) text)

pub replaced_cut : (mark other : ℕ) (text : List ℕ) → position_or_len (λ b. b == mark) text < length text
    → replaced mark other text ≡ before_first (λ b. b == mark) text ++ other ∷ replaced mark other (after_first (λ b. b == mark) text)
replaced_cut mark other [] low = absurd (omega arith)
replaced_cut mark other (x ∷ xs) low = go (x == mark) low (λ shorter. replaced_cut mark other xs shorter)
  where
    n : ℕ
    n = position_or_len (λ b. b == mark) xs

    place : Bool → ℕ
    place b = cond (not b) (1 + n) 0

    go : (b : Bool) → place b < length (x ∷ xs) → (n < length xs → replaced mark other xs ≡ joined mark other n xs)
        → (if b then other else x) ∷ replaced mark other xs ≡ joined mark other (place b) (x ∷ xs)
    go true l rest = refl
    go false l rest =
        let shorter : n < length xs = omega arith in
        let e : suc n + 1 ≡ suc (n + 1) = omega arith in
        ap (λ ys. x ∷ ys) (rest shorter)
        ∙ ap (λ k. take (suc n) (x ∷ xs) ++ other ∷ replaced mark other (drop k (x ∷ xs))) (sym e)
        ∙ ap (λ k. joined mark other k (x ∷ xs)) (sym (one_more n))

pub replaced_none : (mark other : ℕ) (text : List ℕ) → position_or_len (λ b. b == mark) text ≡ length text
    → replaced mark other text ≡ text
replaced_none mark other [] h = refl
replaced_none mark other (x ∷ xs) h = go (x == mark) h (λ whole. replaced_none mark other xs whole)
  where
    go : (b : Bool) → cond (not b) (1 + position_or_len (λ c. c == mark) xs) 0 ≡ length (x ∷ xs)
        → (position_or_len (λ c. c == mark) xs ≡ length xs → replaced mark other xs ≡ xs)
        → (if b then other else x) ∷ replaced mark other xs ≡ x ∷ xs
    go true l rest = absurd (omega arith)
    go false l rest =
        let whole : position_or_len (λ c. c == mark) xs ≡ length xs = omega arith in
        ap (λ ys. x ∷ ys) (rest whole)

-- before the first dot there is none, so dots for slashes and slashes for dots give the same again
there_and_back : (text : List ℕ) → replaced dot slash (replaced slash dot (path_of text)) ≡ path_of text
there_and_back [] = refl
there_and_back (x ∷ xs) = go (x == dot) refl (there_and_back xs)
  where
    n : ℕ
    n = position_or_len (λ b. b == dot) xs

    byte : (c : Bool) → (c ≡ true → x ≡ slash) → x == dot ≡ false
        → (if (if c then dot else x) == dot then slash else (if c then dot else x)) ≡ x
    byte true h away = sym (h refl)
    byte false h away = ap (λ b. if b then slash else x) away

    go : (b : Bool) → x == dot ≡ b
        → replaced dot slash (replaced slash dot (take n xs)) ≡ take n xs
        → replaced dot slash (replaced slash dot (take (cond (not b) (1 + n) 0) (x ∷ xs)))
        ≡ take (cond (not b) (1 + n) 0) (x ∷ xs)
    go true e rest = refl
    go false e rest =
        ap (λ k. replaced dot slash (replaced slash dot (take k (x ∷ xs)))) (one_more n)
        ∙ ap (λ y. y ∷ replaced dot slash (replaced slash dot (take n xs))) (byte (x == slash) (λ h. eqb-true x slash h) e)
        ∙ ap (λ ys. x ∷ ys) rest
        ∙ ap (λ k. take k (x ∷ xs)) (sym (one_more n))

-- the file of the class of a file
pub same_file : (file : List ℕ) → file ≡ path_of file ++ codes ".cal" → file_of (replaced slash dot (path_of file)) ≡ file
same_file file h = ap (λ p. p ++ codes ".cal") (there_and_back file) ∙ sym h
