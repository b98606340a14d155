-- The canonical text of what a text spells is read back.
use Rattle.std.proofs.Common.{◌≡◌, ℕ, List, [], refl, sym, ap, ◌∙◌, subst}
use Rattle.cal_ast.specs.Tree.{Tree}
use Rattle.cal_ast.specs.Apart.{unplaced}
use Rattle.cal_lexer.specs.Lexeme.{Placed}
use Rattle.cal_lexer.specs.Lexes.{lexes}
use Rattle.cal_grammar.specs.Spells.{a_file, spells}
use Rattle.cal_print.specs.Spelling.{text_of}
use Rattle.cal_print.specs.Tokens.{words}
use Rattle.cal_print.specs.Canon.{canon}
use Rattle.law_canon.specs.Printable.{ArePrintable, kinds}
use Rattle.law_canon.specs.ReadBack.{IsReadBack}
use Rattle.law_canon.proofs.Lexing.{lexes_back}
use Rattle.law_canon.proofs.Lexed.{lexed_is_printable}
use Rattle.law_canon.proofs.Phrases.{Front, all_of, IsBack, Respells}
use Rattle.law_canon.proofs.Respelled.{respelled}
use Rattle.law_canon.proofs.Placeless.{same_words, same_height}

-- the canonical text doesn't depend on offsets
pub same_canon : (x y : Tree) → unplaced x ≡ unplaced y → canon x ≡ canon y
same_canon x y e = ap text_of (same_words x y e)

pub read_back : (source : List ℕ) (tokens : List Placed) (x t : Tree) → lexes source tokens → spells tokens x → unplaced t ≡ unplaced x → IsReadBack t
read_back source tokens x t l s e =
    let h : Respells a_file (words x) (unplaced x) = (respelled s (lexed_is_printable l)).as_part refl in
    let same : words x ≡ words t = sym (same_words t x e) in
    let found : (us : List Placed) × lexes (canon t) us × (kinds us ≡ words t) = lexes_back (words t) 0 (subst ArePrintable same h.printable) in
    let front : Front (words x) found.0 [] = subst (λ ws. Front ws found.0 []) (found.2 ∙ sym same) (all_of found.0) in
    let back : IsBack a_file found.0 [] (unplaced x) = h.gives found.0 [] front in
    let apart : unplaced back.tree ≡ unplaced t = back.same ∙ sym e in
    record {
      tokens = found.0;
      lexed = found.1;
      tree = back.tree;
      spelled = back.spelled;
      same = apart;
      as_high = same_height back.tree t apart;
    }

-- the trees of two texts with the same canonical text are equal, ignoring offsets
module _ (one_list : (text : List ℕ) (tokens others : List Placed) → lexes text tokens → lexes text others → tokens ≡ others) (one_tree : (ts : List Placed) (x y : Tree) → spells ts x → spells ts y → x ≡ y) where
  same_text : (t u : Tree) → IsReadBack t → IsReadBack u → canon t ≡ canon u → unplaced t ≡ unplaced u
  same_text t u a b e =
      let lexed : lexes (canon t) b.tokens = subst (λ text. lexes text b.tokens) (sym e) b.lexed in
      let tokens : a.tokens ≡ b.tokens = one_list (canon t) a.tokens b.tokens a.lexed lexed in
      let spelled : spells b.tokens a.tree = subst (λ ts. spells ts a.tree) tokens a.spelled in
      let trees : a.tree ≡ b.tree = one_tree b.tokens a.tree b.tree spelled b.spelled in
      sym a.same ∙ ap unplaced trees ∙ b.same

  pub one_text : (source other : List ℕ) (tokens others : List Placed) (x y : Tree) → lexes source tokens → spells tokens x → lexes other others → spells others y → canon x ≡ canon y → unplaced x ≡ unplaced y
  one_text source other tokens others x y l s m t e = same_text x y (read_back source tokens x x l s refl) (read_back other others y y m t refl) e
