-- What is still to come after a pull.
use Rattle.std.proofs.Common.{◌≡◌, ℕ, ◌+◌, ◌-◌, ◌≤◌, List, ◌++◌, Option, None, Some, Result, Ok, Err, IfOk, length, take, drop, sym, ap, ◌∙◌, append_assoc, arith}
use Rattle.std.proofs.lemmas.List.{length-take, take-append-drop, drop-take, drop-drop}
use Rattle.std.proofs.Math.Seq.{take-append-add, take-append_seam}
use Rattle.rvc_io.specs.Feeds.{Moves, MovesTold}
use Rattle.rvc_io.specs.declared.Failed.{Failed}
use Rattle.port_files.specs.Coming.{coming}

-- bytes were taken from the front of a part
pub skipped : (bytes : List ℕ) (start end count : ℕ) → count ≤ end - start → take (end - (start + count)) (drop (start + count) bytes) ≡ drop count (take (end - start) (drop start bytes))
skipped bytes start end count within =
    let parts : end - start ≡ count + (end - (start + count)) = omega arith in
    sym (ap (λ n. drop count (take n (drop start bytes))) parts ∙ drop-take count (end - (start + count)) (drop start bytes) ∙ ap (take (end - (start + count))) (drop-drop count start bytes))

-- the bytes that a pull moved, told
moved_front : (n : ℕ) (before buffer filled after behind : List ℕ) → MovesTold n before buffer filled after → take n (filled ++ behind) ≡ take n before
moved_front n before buffer filled after behind told =
    let there : n ≤ length before = told.there in
    let count : length (take n before) ≡ n = length-take n before ∙ omega arith in
    let shape : filled ++ behind ≡ take n before ++ (drop n buffer ++ behind) =
    ap (λ xs. xs ++ behind) told.filled_is ∙ append_assoc (take n before) (drop n buffer) behind in
    ap (take n) shape
    ∙ ap (λ k. take k (take n before ++ (drop n buffer ++ behind))) (sym count)
    ∙ take-append_seam (take n before) (drop n buffer ++ behind)

coming_told : (n kept : ℕ) (bytes before buffer filled after behind : List ℕ) → kept ≤ length bytes → MovesTold n before buffer filled after → take (kept + n) (take kept bytes ++ (filled ++ behind)) ++ after ≡ take kept bytes ++ before
coming_told n kept bytes before buffer filled after behind within told =
    let count : length (take kept bytes) ≡ kept = length-take kept bytes ∙ omega arith in
    let front : take (kept + n) (take kept bytes ++ (filled ++ behind)) ≡ take kept bytes ++ take n before =
    ap (λ k. take (k + n) (take kept bytes ++ (filled ++ behind))) (sym count)
    ∙ take-append-add (take kept bytes) (filled ++ behind) n
    ∙ ap (λ xs. take kept bytes ++ xs) (moved_front n before buffer filled after behind told) in
    ap (λ xs. xs ++ after) front
    ∙ append_assoc (take kept bytes) (take n before) after
    ∙ ap (λ xs. take kept bytes ++ (take n before ++ xs)) told.after_is
    ∙ ap (λ xs. take kept bytes ++ xs) (take-append-drop n before)

coming_moved : (n kept : ℕ) (bytes buffer filled behind : List ℕ) (left rest : Option (List ℕ)) → kept ≤ length bytes → Moves n left buffer filled rest → coming (take (kept + n) (take kept bytes ++ (filled ++ behind))) rest ≡ coming (take kept bytes) left
coming_moved n kept bytes buffer filled behind None rest within moves = ap (coming (take (kept + n) (take kept bytes ++ (filled ++ behind)))) moves
coming_moved n kept bytes buffer filled behind (Some before) None within moves = absurd moves
coming_moved n kept bytes buffer filled behind (Some before) (Some after) within moves =
    ap Some (coming_told n kept bytes before buffer filled after behind within moves)

-- what is still to come stays the same if a pull puts its bytes behind those that were kept
pub coming_pulled : (pulled : Result ℕ Failed) (kept : ℕ) (bytes buffer filled behind : List ℕ) (left rest : Option (List ℕ)) → kept ≤ length bytes → IfOk pulled (λ n. Moves n left buffer filled rest) → IfOk pulled (λ n. coming (take (kept + n) (take kept bytes ++ (filled ++ behind))) rest ≡ coming (take kept bytes) left)
coming_pulled (Ok n) kept bytes buffer filled behind left rest within moves = coming_moved n kept bytes buffer filled behind left rest within moves
coming_pulled (Err failed) kept bytes buffer filled behind left rest within moves = tt
