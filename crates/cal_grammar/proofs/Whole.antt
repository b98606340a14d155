-- A whole file: what its reading says.
use Rattle.std.proofs.Common.{◌≡◌, ℕ, ◌≤◌, List, [], refl}
use Rattle.cal_grammar.specs.Program.{Gave, Refused, TooHigh, exec}
use Rattle.cal_grammar.proofs.Refusals as refusals
use Rattle.cal_ast.specs.Tree.{Tree}
use Rattle.cal_lexer.specs.Lexeme.{Placed}
use Rattle.cal_grammar.specs.Operators.{height, max_height}
use Rattle.cal_grammar.specs.Spells.{spells, a_file}
use Rattle.cal_grammar.specs.Rules.{part, whole, body, size, read}
use Rattle.cal_grammar.specs.Refusals.{IsNoFile, IsHighFile}
use Rattle.cal_grammar.proofs.Meets.{Keeps, MeetsWhole, IsRead, IsFar, nothing_spent}
use Rattle.cal_grammar.proofs.Reading.{gets, read_is, read_keeps}
use Rattle.cal_grammar.proofs.Claims.{closes}
use Rattle.cal_grammar.proofs.Complete.{complete}

-- whatever is spelled is read
pub whole_read : (m : ℕ) (ts : List Placed) (x : Tree) → spells ts x → height x ≤ m → read m whole ts ≡ Gave x []
whole_read m ts x h low =
    let s : read m (part a_file) ts ≡ Gave x [] = closes (complete h m low) refl in
    rw (read_is m whole ts, s, exec) refl

-- what is read is spelled, and isn't too high
pub read_spelled : (m : ℕ) (ts left : List Placed) (x : Tree) → read m whole ts ≡ Gave x left → IsRead a_file m ts [] x
read_spelled m ts left x e = let k : MeetsWhole m ts (read m whole ts) = read_keeps m whole ts in (rw e at k).0

pub whole_refused : (ts left : List Placed) → read max_height whole ts ≡ Refused left → IsNoFile ts left
unfolding read
whole_refused ts left e = refusals.rightly_refused body size Keeps nothing_spent gets whole spells height whole_read max_height ts left e

pub whole_too_high : (ts left : List Placed) → read max_height whole ts ≡ TooHigh left → IsHighFile ts left
unfolding read
whole_too_high ts left e =
    let k : MeetsWhole max_height ts (read max_height whole ts) = read_keeps max_height whole ts in
    let far : IsFar max_height ts left = rw e at k in
    refusals.rightly_too_high body size Keeps nothing_spent gets whole spells height whole_read max_height ts left e far.far

pub one_file : (ts : List Placed) (x y : Tree) → spells ts x → spells ts y → x ≡ y
unfolding read
one_file ts x y a b = refusals.one_tree body size Keeps nothing_spent gets whole spells height whole_read ts x y a b
