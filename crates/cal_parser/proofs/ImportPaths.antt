-- What follows the first name of an import, read one name after the other.
use Rattle.std.proofs.Common.{◌≡◌, ℕ, true, false, List, [], ◌∷◌, ◌++◌, map, string_bytes, Err, refl, ap, ◌∙◌, sym}
use Rattle.std.proofs.lemmas.List.{map-append}
use Rattle.cal_grammar.specs.Program.{Outcome, Gave, Refused, TooHigh, Spent, ahead, exec, after}
use Rattle.cal_ast.specs.Tree.{Tree, absent, present, nil, ident, import_part, listed}
use Rattle.cal_ast.specs.View.{ident_tree}
use Rattle.cal_ast.specs.declared.ident.Ident.{Ident}
use Rattle.cal_lexer.specs.Lexeme.{Lexeme, Placed, placed, plain_tokens}
use Rattle.cal_lexer.specs.declared.token.Token.{Token}
use Rattle.cal_parse_base.specs.Cursor.{stands, Took, TookName, TookWord}
use Rattle.cal_parser.specs.ImportPath.{behind, path_behind, IsPathSoFar}
use Rattle.cal_grammar.specs.Operators.{onto}
use Rattle.cal_grammar.specs.Spells.{a_path}
use Rattle.cal_grammar.specs.Token.{here, names, same_word}
use Rattle.cal_grammar.specs.Rules.{part, read}
use Rattle.cal_parse_base.specs.Tells.{TellsFault}
use Rattle.cal_parse_base.specs.declared.fault.Fault.{Fault}
use Rattle.cal_parse_base.specs.declared.fault.Fault.TheVariants as faults
use Rattle.cal_grammar.proofs.Reading.{read_is}

-- names in front of the last name or of `*`
behind-listed : (is : List Tree) (last : Tree) → behind is (import_part nil last 0) ≡ import_part (listed is) last 0
behind-listed [] last = refl
behind-listed (i ∷ is) last = ap (λ x. onto i x) (behind-listed is last)

behind-append : (is : List Tree) (i x : Tree) → behind is (onto i x) ≡ behind (is ++ i ∷ []) x
behind-append [] i x = refl
behind-append (j ∷ is) i x = ap (λ y. onto j y) (behind-append is i x)

path_behind-append : (is : List Tree) (i : Tree) (o : Outcome Placed Tree) → path_behind is (path_behind (i ∷ []) o) ≡ path_behind (is ++ i ∷ []) o
path_behind-append is i (Gave x left) = ap (λ t. Gave t left) (behind-append is i x)
path_behind-append is i (Refused left) = refl
path_behind-append is i (TooHigh left) = refl
path_behind-append is i Spent = refl

after_onto : (i : Tree) (o : Outcome Placed Tree) → after o (λ x l. Gave (onto i x) l) ≡ path_behind (i ∷ []) o
after_onto i (Gave x left) = refl
after_onto i (Refused left) = refl
after_onto i (TooHigh left) = refl
after_onto i Spent = refl

unpathed : (o : Outcome Placed Tree) → o ≡ path_behind [] o
unpathed (Gave x left) = refl
unpathed (Refused left) = refl
unpathed (TooHigh left) = refl
unpathed Spent = refl

-- no name yet
pub no_path_yet : (m : ℕ) (start : List Token) (is : List Ident) → is ≡ [] → IsPathSoFar m start start (map ident_tree is)
no_path_yet m start is none = record { far = unpathed (read m (part a_path) (plain_tokens start)) ∙ ap (λ l. path_behind (map ident_tree l) (read m (part a_path) (plain_tokens start))) (sym none) }

module _ (m : ℕ) where
  -- a dot and a name, with a dot behind them
  path_more : (q r : ℕ) (s : List ℕ) (l : List Placed) → here (same_word Lexeme.Dot) (ahead l) ≡ true → read m (part a_path) (placed Lexeme.Dot q ∷ placed (Lexeme.Name s) r ∷ l) ≡ path_behind (ident s r ∷ []) (read m (part a_path) l)
  path_more q r s l more =
      let opened : read m (part a_path) (placed Lexeme.Dot q ∷ placed (Lexeme.Name s) r ∷ l) ≡ after (read m (part a_path) l) (λ x k. Gave (onto (ident s r) x) k) = rw (read_is m (part a_path) (placed Lexeme.Dot q ∷ placed (Lexeme.Name s) r ∷ l), more, exec) refl in
      opened ∙ after_onto (ident s r) (read m (part a_path) l)

  path_last : (q r : ℕ) (s : List ℕ) (l : List Placed) → here (same_word Lexeme.Dot) (ahead l) ≡ false → read m (part a_path) (placed Lexeme.Dot q ∷ placed (Lexeme.Name s) r ∷ l) ≡ Gave (import_part nil (present (ident s r)) 0) l
  path_last q r s l last = rw (read_is m (part a_path) (placed Lexeme.Dot q ∷ placed (Lexeme.Name s) r ∷ l), last, exec) refl

  path_all : (q r : ℕ) (l : List Placed) → read m (part a_path) (placed Lexeme.Dot q ∷ placed Lexeme.Star r ∷ l) ≡ Gave (import_part nil absent 0) l
  path_all q r l = rw (read_is m (part a_path) (placed Lexeme.Dot q ∷ placed Lexeme.Star r ∷ l), exec) refl

  no_dot : (ts : List Placed) → here (same_word Lexeme.Dot) (ahead ts) ≡ false → read m (part a_path) ts ≡ Refused ts
  no_dot ts none = rw (read_is m (part a_path) ts, none, exec) refl

  no_name : (q : ℕ) (l : List Placed) → here (same_word Lexeme.Star) (ahead l) ≡ false → here names (ahead l) ≡ false → read m (part a_path) (placed Lexeme.Dot q ∷ l) ≡ Refused l
  no_name q l starless nameless = rw (read_is m (part a_path) (placed Lexeme.Dot q ∷ l), starless, nameless, exec) refl

  module _ (start now : List Token) (is : List Ident) (so_far : IsPathSoFar m start now (map ident_tree is)) where
    -- a name, with a dot behind it
    pub path_goes_on : (i : Ident) (mid new : List Token) (q : ℕ) → Took Lexeme.Dot q now mid → Took (Lexeme.Name (string_bytes i.text)) i.at mid new → stands (same_word Lexeme.Dot) new ≡ true → (js : List Ident) → js ≡ is ++ i ∷ [] → IsPathSoFar m start new (map ident_tree js)
    path_goes_on i mid new q dotted named more js e = record {
      far =
          let front : plain_tokens now ≡ placed Lexeme.Dot q ∷ placed (Lexeme.Name (string_bytes i.text)) i.at ∷ plain_tokens new = dotted ∙ ap (λ l. placed Lexeme.Dot q ∷ l) named in
          let step : read m (part a_path) (plain_tokens now) ≡ path_behind (ident_tree i ∷ []) (read m (part a_path) (plain_tokens new)) = ap (λ l. read m (part a_path) l) front ∙ path_more q i.at (string_bytes i.text) (plain_tokens new) more in
          let names_are : map ident_tree is ++ ident_tree i ∷ [] ≡ map ident_tree js = sym (map-append ident_tree is (i ∷ [])) ∙ ap (λ l. map ident_tree l) (sym e) in
          let rest = read m (part a_path) (plain_tokens new) in
          so_far.far ∙ ap (λ o. path_behind (map ident_tree is) o) step ∙ path_behind-append (map ident_tree is) (ident_tree i) rest ∙ ap (λ l. path_behind l rest) names_are;
    }

    done : (last : Tree) (new : List Token) → read m (part a_path) (plain_tokens now) ≡ Gave (import_part nil last 0) (plain_tokens new) → read m (part a_path) (plain_tokens start) ≡ Gave (import_part (listed (map ident_tree is)) last 0) (plain_tokens new)
    done last new e = so_far.far ∙ ap (λ o. path_behind (map ident_tree is) o) e ∙ ap (λ x. Gave x (plain_tokens new)) (behind-listed (map ident_tree is) last)

    -- the last name
    pub path_named : (i : Ident) (mid new : List Token) (q : ℕ) → Took Lexeme.Dot q now mid → Took (Lexeme.Name (string_bytes i.text)) i.at mid new → stands (same_word Lexeme.Dot) new ≡ false → read m (part a_path) (plain_tokens start) ≡ Gave (import_part (listed (map ident_tree is)) (present (ident_tree i)) 0) (plain_tokens new)
    path_named i mid new q dotted named last =
        let front : plain_tokens now ≡ placed Lexeme.Dot q ∷ placed (Lexeme.Name (string_bytes i.text)) i.at ∷ plain_tokens new = dotted ∙ ap (λ l. placed Lexeme.Dot q ∷ l) named in
        done (present (ident_tree i)) new (ap (λ l. read m (part a_path) l) front ∙ path_last q i.at (string_bytes i.text) (plain_tokens new) last)

    -- `*`
    pub path_starred : (mid new : List Token) (q r : ℕ) → Took Lexeme.Dot q now mid → Took Lexeme.Star r mid new → read m (part a_path) (plain_tokens start) ≡ Gave (import_part (listed (map ident_tree is)) absent 0) (plain_tokens new)
    path_starred mid new q r dotted starred =
        let front : plain_tokens now ≡ placed Lexeme.Dot q ∷ placed Lexeme.Star r ∷ plain_tokens new = dotted ∙ ap (λ l. placed Lexeme.Dot q ∷ l) starred in
        done absent new (ap (λ l. read m (part a_path) l) front ∙ path_all q r (plain_tokens new))

    refused_at : (left : List Placed) → read m (part a_path) (plain_tokens now) ≡ Refused left → read m (part a_path) (plain_tokens start) ≡ Refused left
    refused_at left e = so_far.far ∙ ap (λ o. path_behind (map ident_tree is) o) e

    -- no dot
    pub path_undotted : (left : List Token) (fault : Fault) → TookWord Lexeme.Dot (Err fault) now left → TellsFault fault left (read m (part a_path) (plain_tokens start))
    path_undotted left faults.Refused h = refused_at (plain_tokens left) (no_dot (plain_tokens now) h.0 ∙ ap (λ l. Refused (plain_tokens l)) (sym h.1))
    path_undotted left faults.TooHigh h = absurd h
    path_undotted left faults.Memory h = absurd h

    -- a dot, and neither `*` nor a name
    pub path_unnamed : (mid left : List Token) (q : ℕ) (fault : Fault) → Took Lexeme.Dot q now mid → stands (same_word Lexeme.Star) mid ≡ false → TookName (Err fault) mid left → TellsFault fault left (read m (part a_path) (plain_tokens start))
    path_unnamed mid left q faults.Refused dotted none h =
        refused_at (plain_tokens left) (ap (λ l. read m (part a_path) l) dotted ∙ no_name q (plain_tokens mid) none h.0 ∙ ap (λ l. Refused (plain_tokens l)) (sym h.1))
    path_unnamed mid left q faults.TooHigh dotted none h = absurd h
    path_unnamed mid left q faults.Memory dotted none h = tt
