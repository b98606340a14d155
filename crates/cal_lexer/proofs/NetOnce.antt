-- The text of a network has one list of tokens or one first fault, and not both.
use Rattle.std.proofs.Common.{◌≡◌, ℕ, ◌+◌, List, drop, refl, subst}
use Rattle.rvc_base.specs.declared.refusal.Rule.{Rule}
use Rattle.cal_lexer.specs.Lexeme.{Placed}
use Rattle.cal_lexer.specs.NetLexes.{NetLexesFrom, NetFaultsFrom, ends, after_gap, after_token, after_brace, no_token, flawed, behind_gap, behind_token, behind_brace}
use Rattle.cal_lexer.proofs.Once.{one_size, one_kind, one_flaw, one_gap, IsSame}
use Rattle.cal_lexer.proofs.Braces.{brace_is_foreign}

pub one_list : {bytes : List ℕ} {at : ℕ} {ts us : List Placed} → NetLexesFrom bytes at ts → NetLexesFrom bytes at us → ts ≡ us
one_list ends ends = refl
one_list ends (after_gap g r) = cc
one_list ends (after_token n f r) = let b = n.begins in cc
one_list (after_gap g r) ends = cc
one_list {bytes} {at} {ts} {us} (after_gap {size = n} g r) (after_gap {size = m} h s) =
    one_list r (subst (λ z. NetLexesFrom (drop z bytes) (at + z) us) (one_gap bytes m n h g) s)
one_list (after_gap g r) (after_token n f s) = let b = n.begins in cc
one_list (after_gap g r) (after_brace {b = b} {bytes = bytes} {kind = k} e s) = let foreign = brace_is_foreign b k bytes e in cc
one_list (after_token n f r) ends = let b = n.begins in cc
one_list (after_token n f r) (after_gap g s) = let b = n.begins in cc
one_list (after_token n f r) (after_brace {b = b} {bytes = bytes} {kind = k} e s) = let foreign = brace_is_foreign b k bytes e in let token = n.begins in cc
one_list {bytes} {at} (after_token {size = n} {kind = k} {tokens = ts} x f r) (after_token {size = m} {kind = l} {tokens = us} y h s) =
    let rest : ts ≡ us = one_list r (subst (λ z. NetLexesFrom (drop z bytes) (at + z) us) (one_size bytes m n l k y x) s) in
    let same : k ≡ l = one_kind bytes n m k l x y in
    rw (rest, same)
one_list (after_brace {b = b} {bytes = bytes} {kind = k} e r) (after_gap g s) = let foreign = brace_is_foreign b k bytes e in cc
one_list (after_brace {b = b} {bytes = bytes} {kind = k} e r) (after_token n f s) = let foreign = brace_is_foreign b k bytes e in let token = n.begins in cc
one_list (after_brace {kind = k} {tokens = ts} e r) (after_brace {kind = l} {tokens = us} f s) =
    let rest : ts ≡ us = one_list r s in
    let same : k ≡ l = cc in
    rw (rest, same)

pub not_both : {bytes : List ℕ} {at place : ℕ} {ts : List Placed} {rule : Rule} → NetLexesFrom bytes at ts → NetFaultsFrom bytes at rule place → ⊥
not_both ends (no_token x g) = cc
not_both ends (flawed n f) = let b = n.begins in cc
not_both ends (behind_gap g r) = cc
not_both ends (behind_token n f r) = let b = n.begins in cc
not_both (after_gap g r) (no_token y h) = cc
not_both (after_gap g r) (flawed n f) = let b = n.begins in cc
not_both {bytes} {at} {place} {ts} {rule} (after_gap {size = n} g r) (behind_gap {size = m} h s) =
    not_both r (subst (λ z. NetFaultsFrom (drop z bytes) (at + z) rule place) (one_gap bytes m n h g) s)
not_both (after_gap g r) (behind_token n f s) = let b = n.begins in cc
not_both (after_gap g r) (behind_brace {b = b} {bytes = bytes} {kind = k} e s) = let foreign = brace_is_foreign b k bytes e in cc
not_both (after_token n f r) (no_token y h) = let b = n.begins in cc
not_both {bytes} (after_token {size = n} {kind = k} x f r) (flawed {size = m} {kind = l} y h) = let e = one_flaw bytes n m k l x y in cc
not_both (after_token n f r) (behind_gap g s) = let b = n.begins in cc
not_both (after_token n f r) (behind_brace {b = b} {bytes = bytes} {kind = k} e s) = let foreign = brace_is_foreign b k bytes e in let token = n.begins in cc
not_both {bytes} {at} {place} {ts} {rule} (after_token {size = n} {kind = k} x f r) (behind_token {size = m} {kind = l} y h s) =
    not_both r (subst (λ z. NetFaultsFrom (drop z bytes) (at + z) rule place) (one_size bytes m n l k y x) s)
not_both (after_brace e r) (no_token y h) = cc
not_both (after_brace {b = b} {bytes = bytes} {kind = k} e r) (flawed n f) = let foreign = brace_is_foreign b k bytes e in let token = n.begins in cc
not_both (after_brace {b = b} {bytes = bytes} {kind = k} e r) (behind_gap g s) = let foreign = brace_is_foreign b k bytes e in cc
not_both (after_brace {b = b} {bytes = bytes} {kind = k} e r) (behind_token n f s) = let foreign = brace_is_foreign b k bytes e in let token = n.begins in cc
not_both (after_brace e r) (behind_brace f s) = not_both r s

pub one_fault : {bytes : List ℕ} {at p o : ℕ} {q r : Rule} → NetFaultsFrom bytes at q p → NetFaultsFrom bytes at r o → IsSame q r p o
one_fault (no_token x g) (no_token y h) = record { same_rule = cc; same_place = refl }
one_fault (no_token x g) (flawed n f) = let b = n.begins in cc
one_fault (no_token x g) (behind_gap h s) = cc
one_fault (no_token x g) (behind_token n f s) = let b = n.begins in cc
one_fault (no_token x g) (behind_brace e s) = cc
one_fault (flawed n f) (no_token x g) = let b = n.begins in cc
one_fault {bytes} (flawed {size = n} {kind = k} x f) (flawed {size = m} {kind = l} y h) = let e = one_flaw bytes n m k l x y in record { same_rule = cc; same_place = refl }
one_fault (flawed n f) (behind_gap h s) = let b = n.begins in cc
one_fault (flawed n f) (behind_brace {b = b} {bytes = bytes} {kind = k} e s) = let foreign = brace_is_foreign b k bytes e in let token = n.begins in cc
one_fault {bytes} (flawed {size = n} {kind = k} x f) (behind_token {size = m} {kind = l} y h s) = let e = one_flaw bytes n m k l x y in cc
one_fault (behind_gap h s) (no_token x g) = cc
one_fault (behind_gap h s) (flawed n f) = let b = n.begins in cc
one_fault {bytes} {at} {p} {o} {q} {r} (behind_gap {size = n} g s) (behind_gap {size = m} h t) =
    one_fault s (subst (λ z. NetFaultsFrom (drop z bytes) (at + z) r o) (one_gap bytes m n h g) t)
one_fault (behind_gap h s) (behind_token n f t) = let b = n.begins in cc
one_fault (behind_gap h s) (behind_brace {b = b} {bytes = bytes} {kind = k} e t) = let foreign = brace_is_foreign b k bytes e in cc
one_fault (behind_token n f s) (no_token x g) = let b = n.begins in cc
one_fault {bytes} (behind_token {size = m} {kind = l} y h s) (flawed {size = n} {kind = k} x f) = let e = one_flaw bytes n m k l x y in cc
one_fault (behind_token n f s) (behind_gap h t) = let b = n.begins in cc
one_fault (behind_token n f s) (behind_brace {b = b} {bytes = bytes} {kind = k} e t) = let foreign = brace_is_foreign b k bytes e in let token = n.begins in cc
one_fault {bytes} {at} {p} {o} {q} {r} (behind_token {size = n} {kind = k} x f s) (behind_token {size = m} {kind = l} y h t) =
    one_fault s (subst (λ z. NetFaultsFrom (drop z bytes) (at + z) r o) (one_size bytes m n l k y x) t)
one_fault (behind_brace e s) (no_token y h) = cc
one_fault (behind_brace {b = b} {bytes = bytes} {kind = k} e s) (flawed n f) = let foreign = brace_is_foreign b k bytes e in let token = n.begins in cc
one_fault (behind_brace {b = b} {bytes = bytes} {kind = k} e s) (behind_gap g t) = let foreign = brace_is_foreign b k bytes e in cc
one_fault (behind_brace {b = b} {bytes = bytes} {kind = k} e s) (behind_token n f t) = let foreign = brace_is_foreign b k bytes e in let token = n.begins in cc
one_fault (behind_brace e s) (behind_brace f t) = one_fault s t
