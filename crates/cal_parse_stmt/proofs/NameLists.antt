-- Names that are taken one after the other.
use Rattle.std.proofs.Common.{◌≡◌, ℕ, false, List, [], ◌∷◌, ◌++◌, map, string_bytes, Err, refl, sym, ap, ◌∙◌}
use Rattle.cal_grammar.specs.Program.{Gave, Refused, exec, ahead}
use Rattle.cal_ast.specs.Tree.{listed}
use Rattle.cal_ast.specs.View.{ident_tree}
use Rattle.cal_ast.specs.declared.ident.Ident.{Ident}
use Rattle.cal_lexer.specs.Lexeme.{Lexeme, placed, plain_tokens}
use Rattle.cal_lexer.specs.declared.token.Token.{Token}
use Rattle.cal_parse_base.specs.Cursor.{Took, TookName, Stays, stands}
use Rattle.cal_parse_stmt.specs.SoFar.{IsSoFar}
use Rattle.cal_grammar.specs.Spells.{Mark, mark, separated, a_name}
use Rattle.cal_grammar.specs.Token.{here, names, same_word}
use Rattle.cal_grammar.specs.Rules.{part, read}
use Rattle.cal_parse_base.specs.Tells.{before, TellsNames}
use Rattle.cal_parse_base.specs.declared.fault.Fault.{Fault}
use Rattle.cal_parse_base.specs.declared.fault.Fault.TheVariants as faults
use Rattle.cal_parse_expr.proofs.ListSteps
use Rattle.cal_grammar.proofs.Reading.{read_is}

map-append : (xs : List Ident) (x : Ident) → map ident_tree (xs ++ x ∷ []) ≡ map ident_tree xs ++ ident_tree x ∷ []
map-append [] x = refl
map-append (y ∷ xs) x = ap (λ l. ident_tree y ∷ l) (map-append xs x)

name_read : (m : ℕ) (i : Ident) (old new : List Token) → Took (Lexeme.Name (string_bytes i.text)) i.at old new → read m (part a_name) (plain_tokens old) ≡ Gave (ident_tree i) (plain_tokens new)
name_read m i old new e =
    let taken : read m (part a_name) (placed (Lexeme.Name (string_bytes i.text)) i.at ∷ plain_tokens new) ≡ Gave (ident_tree i) (plain_tokens new) = rw (read_is m (part a_name) (placed (Lexeme.Name (string_bytes i.text)) i.at ∷ plain_tokens new), exec) refl in
    ap (λ l. read m (part a_name) l) e ∙ taken

name_refused : (m : ℕ) (old : List Token) → stands names old ≡ false → read m (part a_name) (plain_tokens old) ≡ Refused (plain_tokens old)
name_refused m old none = rw (read_is m (part a_name) (plain_tokens old), none, exec) refl

module _ (v : Mark) (w : Lexeme) (start now : List Token) (xs : List Ident) (far : IsSoFar v a_name w start now (map ident_tree xs)) where
  -- a name and the mark behind it
  pub names_more : (i : Ident) (mid after : List Token) (q : ℕ) → Took (Lexeme.Name (string_bytes i.text)) i.at now mid → Took w q mid after → (ys : List Ident) → ys ≡ xs ++ i ∷ [] → IsSoFar v a_name w start after (map ident_tree ys)
  names_more i mid after q named marked ys e = record {
    word_is = far.word_is;
    far = λ m.
        let marked_is : plain_tokens mid ≡ placed (mark v) q ∷ plain_tokens after = marked ∙ ap (λ k. placed k q ∷ plain_tokens after) far.word_is in
        let item : read m (part a_name) (plain_tokens now) ≡ Gave (ident_tree i) (placed (mark v) q ∷ plain_tokens after) = name_read m i now mid named ∙ ap (λ l. Gave (ident_tree i) l) marked_is in
        let list_is : map ident_tree xs ++ ident_tree i ∷ [] ≡ map ident_tree ys = sym (map-append xs i) ∙ ap (λ l. map ident_tree l) (sym e) in
        ListSteps.on_more m v a_name (plain_tokens start) (plain_tokens now) (map ident_tree xs) (far.far m) (plain_tokens after) (ident_tree i) q item ∙ ap (λ l. before l (read m (part (separated v a_name)) (plain_tokens after))) list_is;
  }

  -- the last name
  pub names_last : (i : Ident) (mid : List Token) → Took (Lexeme.Name (string_bytes i.text)) i.at now mid → stands (same_word w) mid ≡ false → (ys : List Ident) → ys ≡ xs ++ i ∷ [] → (m : ℕ) → read m (part (separated v a_name)) (plain_tokens start) ≡ Gave (listed (map ident_tree ys)) (plain_tokens mid)
  names_last i mid named none ys e m =
      let none_is : here (same_word (mark v)) (ahead (plain_tokens mid)) ≡ false = ap (λ k. stands (same_word k) mid) (sym far.word_is) ∙ none in
      let list_is : map ident_tree xs ++ ident_tree i ∷ [] ≡ map ident_tree ys = sym (map-append xs i) ∙ ap (λ l. map ident_tree l) (sym e) in
      ListSteps.on_last m v a_name (plain_tokens start) (plain_tokens now) (map ident_tree xs) (far.far m) (plain_tokens mid) (ident_tree i) (name_read m i now mid named) none_is ∙ ap (λ l. Gave (listed l) (plain_tokens mid)) list_is

  -- no name where one must come
  pub names_refused : (left : List Token) → Stays names now left → (m : ℕ) → read m (part (separated v a_name)) (plain_tokens start) ≡ Refused (plain_tokens left)
  names_refused left stays m =
      ListSteps.on_refused m v a_name (plain_tokens start) (plain_tokens now) (map ident_tree xs) (far.far m) (plain_tokens now) (name_refused m now stays.0) ∙ ap (λ l. Refused (plain_tokens l)) (sym stays.1)

-- why no name is read
pub names_fail : (v : Mark) (w : Lexeme) (start now : List Token) (xs : List Ident) → IsSoFar v a_name w start now (map ident_tree xs) → (left : List Token) (fault : Fault) → TookName (Err fault) now left → TellsNames v (Err fault) start left
names_fail v w start now xs far left faults.Refused h = λ m. names_refused v w start now xs far left h m
names_fail v w start now xs far left faults.TooHigh h = absurd h
names_fail v w start now xs far left faults.Memory h = λ m. tt
