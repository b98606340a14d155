-- The reader: reading a rule is running its program, and what is read keeps to the rule.
use Rattle.std.proofs.Common.{◌≡◌, ℕ, zero, suc, ◌<◌, ◌≤◌, List, refl, ap, arith}
use Rattle.cal_grammar.specs.Program.{Outcome, Gave, Refused, TooHigh, Spent, exec}
use Rattle.cal_grammar.specs.Rules as cal
use Rattle.cal_grammar.specs.Spells.{Part}
use Rattle.cal_grammar.proofs.Gets.{Gets, gets_outcome}
use Rattle.cal_grammar.proofs.Ending.{exec_same}
use Rattle.cal_grammar.proofs.Frames.{Framed, IsFramed, exec_framed, framed_replace, read_framed as language_framed}
use Rattle.cal_grammar.proofs.Looser.{IsKept, exec_kept, read_kept as language_kept}
use Rattle.cal_grammar.proofs.Meets.{Meets as MeetsPart, Keeps as LanguageKeeps, nothing_spent as none_spent}
use Rattle.cal_grammar.proofs.Reading.{gets as language_gets, read_keeps as language_keeps}
use Rattle.cal_ast.specs.Tree.{Tree}
use Rattle.cal_lexer.specs.Lexeme.{Placed}
use Rattle.nl_grammar.specs.Rules.{Own, Rule, language, own, body, size, lift, go, read, reads}
use Rattle.nl_grammar.proofs.Meets.{Keeps, MeetsTree, MayCall, nothing_spent}
use Rattle.nl_grammar.proofs.Sound.{kept}

-- ---- rules of the language

lifted_meets : (p : Part) (m : ℕ) (ts : List Placed) (o : Outcome Placed Tree) → MeetsPart p m ts o → MeetsTree p m ts (lift o)
lifted_meets p m ts (Gave x left) h = h
lifted_meets p m ts (Refused left) h = tt
lifted_meets p m ts (TooHigh left) h = h
lifted_meets p m ts Spent h = tt

part_keeps : (m : ℕ) (p : Part) (ts : List Placed) → Keeps m (language p) ts (lift (cal.read m (cal.part p) ts))
part_keeps m p ts = lifted_meets p m ts (cal.read m (cal.part p) ts) (language_keeps m (cal.part p) ts)

lifted_frame : (F : List Placed → Outcome Placed Tree) (make : List Placed → Outcome Placed Tree) (ts left : List Placed) → IsFramed F make ts left → IsFramed (λ l. lift (F l)) (λ l. lift (make l)) ts left
lifted_frame F make ts left h = record { front = h.front; is_front = h.is_front; same = λ other e. ap lift (h.same other e) }

lifted_framed : (F : List Placed → Outcome Placed Tree) (ts : List Placed) (o : Outcome Placed Tree) → Framed F ts o → Framed (λ l. lift (F l)) ts (lift o)
lifted_framed F ts (Gave x left) h = lifted_frame F (λ l. Gave x l) ts left h
lifted_framed F ts (Refused left) h = lifted_frame F (λ l. Refused l) ts left h
lifted_framed F ts (TooHigh left) h = lifted_frame F (λ l. TooHigh l) ts left h
lifted_framed F ts Spent h = tt

part_framed : (m : ℕ) (p : Part) (ts : List Placed) → Framed (λ l. lift (cal.read m (cal.part p) l)) ts (lift (cal.read m (cal.part p) ts))
unfolding cal.read
part_framed m p ts = lifted_framed (λ l. cal.read m (cal.part p) l) ts (cal.read m (cal.part p) ts) (language_framed cal.body cal.size LanguageKeeps none_spent language_gets m (cal.part p) ts)

lifted_kept : (o u : Outcome Placed Tree) → IsKept o u → IsKept (lift o) (lift u)
lifted_kept (Gave x left) u h = ap lift h
lifted_kept (Refused left) u h = ap lift h
lifted_kept (TooHigh left) u h = tt
lifted_kept Spent u h = ap lift h

part_kept : (m more : ℕ) (p : Part) (ts : List Placed) → m ≤ more → IsKept (lift (cal.read m (cal.part p) ts)) (lift (cal.read more (cal.part p) ts))
unfolding cal.read
part_kept m more p ts less = lifted_kept (cal.read m (cal.part p) ts) (cal.read more (cal.part p) ts) (language_kept cal.body cal.size m more (cal.part p) ts less)

-- ---- own rules

gets : (m : ℕ) (r : Own) (ts : List Placed) → Gets Keeps (MayCall (size r ts)) m (body r) ts (Keeps m (own r) ts)
gets m r ts = (kept m r ts).it

go_holds : (n m : ℕ) (r : Rule) (ts : List Placed) → Keeps m r ts (go n m r ts)
go_holds n m (language p) ts = part_keeps m p ts
go_holds zero m (own r) ts = nothing_spent m r ts
go_holds (suc n) m (own r) ts = gets_outcome Keeps (MayCall (size r ts)) (go n) (λ m' r' ts'. go_holds n m' r' ts') m (body r) ts (Keeps m (own r) ts) (nothing_spent m r ts) (gets m r ts)

pub read_keeps : (m : ℕ) (r : Own) (ts : List Placed) → Keeps m (own r) ts (read m r ts)
unfolding read
read_keeps m r ts = go_holds (suc (size r ts)) m (own r) ts

pub reads_keep : (m : ℕ) (r : Rule) (ts : List Placed) → Keeps m r ts (reads m r ts)
reads_keep m (language p) ts = part_keeps m p ts
reads_keep m (own r) ts = read_keeps m r ts

go_same : (n k m : ℕ) (r : Own) (ts : List Placed) → size r ts < n → size r ts < k → go n m (own r) ts ≡ go k m (own r) ts
go_same zero k m r ts a b = absurd (omega arith)
go_same (suc n) zero m r ts a b = absurd (omega arith)
go_same (suc n) (suc k) m r ts a b =
    exec_same Keeps (MayCall (size r ts)) (go n) (go k) (go_holds n) (same (λ m' r' ts' less. go_same n k m' r' ts' (omega arith) (omega arith))) m (body r) ts (Keeps m (own r) ts) (gets m r ts)
  where
    same : ((m' : ℕ) (r' : Own) (ts' : List Placed) → size r' ts' < size r ts → go n m' (own r') ts' ≡ go k m' (own r') ts') → (m' : ℕ) (r' : Rule) (ts' : List Placed) → MayCall (size r ts) r' ts' → go n m' r' ts' ≡ go k m' r' ts'
    same on_own m' (language p) ts' less = refl
    same on_own m' (own r') ts' less = on_own m' r' ts' less

-- reading a rule is running its program
pub read_is : (m : ℕ) (r : Own) (ts : List Placed) → read m r ts ≡ exec reads m (body r) ts
unfolding read
read_is m r ts =
    exec_same Keeps (MayCall (size r ts)) (go (size r ts)) reads (go_holds (size r ts)) same m (body r) ts (Keeps m (own r) ts) (gets m r ts)
  where
    same : (m' : ℕ) (r' : Rule) (ts' : List Placed) → MayCall (size r ts) r' ts' → go (size r ts) m' r' ts' ≡ reads m' r' ts'
    same m' (language p) ts' less = refl
    same m' (own r') ts' less = go_same (size r ts) (suc (size r' ts')) m' r' ts' less (omega arith)

-- ---- outcomes depend on the tokens that were taken and on one more, and on no more room than they need

framed_below : (n m : ℕ) (r : Own) (ts : List Placed) → size r ts < n → Framed (read m r) ts (read m r ts)
framed_below zero m r ts less = absurd (omega arith)
framed_below (suc n) m r ts less =
    let is : (l : List Placed) → read m r l ≡ exec reads m (body r) l = λ l. read_is m r l in
    let h : Framed (exec reads m (body r)) ts (exec reads m (body r) ts) = exec_framed Keeps (MayCall (size r ts)) reads reads_keep (below (λ m' r' ts' less'. framed_below n m' r' ts' (omega arith))) m (body r) ts (Keeps m (own r) ts) (gets m r ts) in
    rw is (framed_replace (read m r) (exec reads m (body r)) ts (exec reads m (body r) ts) (λ other e. is other) h)
  where
    below : ((m' : ℕ) (r' : Own) (ts' : List Placed) → size r' ts' < size r ts → Framed (read m' r') ts' (read m' r' ts')) → (m' : ℕ) (r' : Rule) (ts' : List Placed) → MayCall (size r ts) r' ts' → Framed (reads m' r') ts' (reads m' r' ts')
    below on_own m' (language p) ts' less' = part_framed m' p ts'
    below on_own m' (own r') ts' less' = on_own m' r' ts' less'

pub read_framed : (m : ℕ) (r : Own) (ts : List Placed) → Framed (read m r) ts (read m r ts)
read_framed m r ts = framed_below (suc (size r ts)) m r ts (omega arith)

go_kept : (n m more : ℕ) (r : Rule) (ts : List Placed) → m ≤ more → IsKept (go n m r ts) (go n more r ts)
go_kept n m more (language p) ts less = part_kept m more p ts less
go_kept zero m more (own r) ts less = refl
go_kept (suc n) m more (own r) ts less = exec_kept (go n) (λ m' more' r' ts' less'. go_kept n m' more' r' ts' less') (body r) m more ts less

pub read_kept : (m more : ℕ) (r : Own) (ts : List Placed) → m ≤ more → IsKept (read m r ts) (read more r ts)
unfolding read
read_kept m more r ts less = go_kept (suc (size r ts)) m more (own r) ts less
