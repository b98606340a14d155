-- A text has one list of tokens or one first fault, and not both.
use Rattle.std.proofs.Common.{◌≡◌, ℕ, ◌+◌, ◌<◌, List, take, drop, refl, subst, ⊎_elim, arith}
use Rattle.std.proofs.lemmas.Bool.{cases_lt}
use Rattle.rvc_base.specs.declared.refusal.Rule.{Rule}
use Rattle.cal_lexer.specs.Lexeme.{Lexeme, Placed}
use Rattle.cal_lexer.specs.Lexis.{front, Gap, IsNext, flaw}
use Rattle.cal_lexer.specs.Lexes.{LexesFrom, ends, after_gap, after_token, FaultsFrom, no_token, flawed, behind_gap, behind_token}

no_longer : (bytes : List ℕ) (n m : ℕ) (k l : Lexeme) → IsNext bytes n k → IsNext bytes m l → n < m → ⊥
no_longer bytes n m k l a b less = let none = a.longest m less b.within in let some = b.is in cc

pub one_size : (bytes : List ℕ) (n m : ℕ) (k l : Lexeme) → IsNext bytes n k → IsNext bytes m l → n ≡ m
one_size bytes n m k l a b =
    ⊎_elim (λ less. absurd (no_longer bytes n m k l a b less))
    (λ not_less. ⊎_elim (λ less. absurd (no_longer bytes m n l k b a less)) (λ not_more. omega arith) (cases_lt m n))
    (cases_lt n m)

pub one_kind : (bytes : List ℕ) (n m : ℕ) (k l : Lexeme) → IsNext bytes n k → IsNext bytes m l → k ≡ l
one_kind bytes n m k l a b = let e : n ≡ m = one_size bytes n m k l a b in let f = a.is in let g = b.is in cc

-- the same token has the same flaw
pub one_flaw : (bytes : List ℕ) (n m : ℕ) (k l : Lexeme) → IsNext bytes n k → IsNext bytes m l → flaw k (take n bytes) (drop n bytes) ≡ flaw l (take m bytes) (drop m bytes)
one_flaw bytes n m k l a b = let e : n ≡ m = one_size bytes n m k l a b in let f : k ≡ l = one_kind bytes n m k l a b in rw (e, f)

pub one_gap : (bytes : List ℕ) (n m : ℕ) → front bytes ≡ Gap n → front bytes ≡ Gap m → n ≡ m
one_gap bytes n m e f = cc

pub one_list : {bytes : List ℕ} {at : ℕ} {ts us : List Placed} → LexesFrom bytes at ts → LexesFrom bytes at us → ts ≡ us
one_list ends ends = refl
one_list ends (after_gap g r) = cc
one_list ends (after_token n f r) = let b = n.begins in cc
one_list (after_gap g r) ends = cc
one_list {bytes} {at} {ts} {us} (after_gap {size = n} g r) (after_gap {size = m} h s) =
    one_list r (subst (λ z. LexesFrom (drop z bytes) (at + z) us) (one_gap bytes m n h g) s)
one_list (after_gap g r) (after_token n f s) = let b = n.begins in cc
one_list (after_token n f r) ends = let b = n.begins in cc
one_list (after_token n f r) (after_gap g s) = let b = n.begins in cc
one_list {bytes} {at} (after_token {size = n} {kind = k} {tokens = ts} x f r) (after_token {size = m} {kind = l} {tokens = us} y h s) =
    let rest : ts ≡ us = one_list r (subst (λ z. LexesFrom (drop z bytes) (at + z) us) (one_size bytes m n l k y x) s) in
    let same : k ≡ l = one_kind bytes n m k l x y in
    rw (rest, same)

pub not_both : {bytes : List ℕ} {at place : ℕ} {ts : List Placed} {rule : Rule} → LexesFrom bytes at ts → FaultsFrom bytes at rule place → ⊥
not_both ends (no_token g) = cc
not_both ends (flawed n f) = let b = n.begins in cc
not_both ends (behind_gap g r) = cc
not_both ends (behind_token n f r) = let b = n.begins in cc
not_both (after_gap g r) (no_token h) = cc
not_both (after_gap g r) (flawed n f) = let b = n.begins in cc
not_both {bytes} {at} {place} {ts} {rule} (after_gap {size = n} g r) (behind_gap {size = m} h s) =
    not_both r (subst (λ z. FaultsFrom (drop z bytes) (at + z) rule place) (one_gap bytes m n h g) s)
not_both (after_gap g r) (behind_token n f s) = let b = n.begins in cc
not_both (after_token n f r) (no_token h) = let b = n.begins in cc
not_both {bytes} (after_token {size = n} {kind = k} x f r) (flawed {size = m} {kind = l} y h) = let e = one_flaw bytes n m k l x y in cc
not_both (after_token n f r) (behind_gap g s) = let b = n.begins in cc
not_both {bytes} {at} {place} {ts} {rule} (after_token {size = n} {kind = k} x f r) (behind_token {size = m} {kind = l} y h s) =
    not_both r (subst (λ z. FaultsFrom (drop z bytes) (at + z) rule place) (one_size bytes m n l k y x) s)

-- one fault at one place
pub record IsSame (rule other : Rule) (place at : ℕ) : Type 0 where
  pub same_rule : rule ≡ other
  pub same_place : place ≡ at

pub one_fault : {bytes : List ℕ} {at p o : ℕ} {q r : Rule} → FaultsFrom bytes at q p → FaultsFrom bytes at r o → IsSame q r p o
one_fault (no_token g) (no_token h) = record { same_rule = cc; same_place = refl }
one_fault (no_token g) (flawed n f) = let b = n.begins in cc
one_fault (no_token g) (behind_gap h s) = cc
one_fault (no_token g) (behind_token n f s) = let b = n.begins in cc
one_fault (flawed n f) (no_token g) = let b = n.begins in cc
one_fault {bytes} (flawed {size = n} {kind = k} x f) (flawed {size = m} {kind = l} y h) = let e = one_flaw bytes n m k l x y in record { same_rule = cc; same_place = refl }
one_fault (flawed n f) (behind_gap h s) = let b = n.begins in cc
one_fault {bytes} (flawed {size = n} {kind = k} x f) (behind_token {size = m} {kind = l} y h s) = let e = one_flaw bytes n m k l x y in cc
one_fault (behind_gap h s) (no_token g) = cc
one_fault (behind_gap h s) (flawed n f) = let b = n.begins in cc
one_fault {bytes} {at} {p} {o} {q} {r} (behind_gap {size = n} g s) (behind_gap {size = m} h t) =
    one_fault s (subst (λ z. FaultsFrom (drop z bytes) (at + z) r o) (one_gap bytes m n h g) t)
one_fault (behind_gap h s) (behind_token n f t) = let b = n.begins in cc
one_fault (behind_token n f s) (no_token g) = let b = n.begins in cc
one_fault {bytes} (behind_token {size = m} {kind = l} y h s) (flawed {size = n} {kind = k} x f) = let e = one_flaw bytes n m k l x y in cc
one_fault (behind_token n f s) (behind_gap h t) = let b = n.begins in cc
one_fault {bytes} {at} {p} {o} {q} {r} (behind_token {size = n} {kind = k} x f s) (behind_token {size = m} {kind = l} y h t) =
    one_fault s (subst (λ z. FaultsFrom (drop z bytes) (at + z) r o) (one_size bytes m n l k y x) t)
