-- Loops over lists of parts.
use Rattle.std.proofs.Common.{◌≡◌, ℕ, ◌+◌, ◌<◌, ◌≤◌, List, [], ◌∷◌, ◌++◌, Option, map, take, get_or, length, suc, refl, ap, append_assoc, append-nil, sym, ◌∙◌, arith}
use Rattle.std.proofs.Math.Seq.{take-suc}
use Rattle.std.proofs.lemmas.List.{take_all, map-append}
use Rattle.cal_ast.specs.Tree.{Tree, listed, nil, cons}
use Rattle.cal_ast.specs.View.{member_tree}
use Rattle.cal_ast.specs.declared.member.Member.{Member}
use Rattle.cal_ast.specs.declared.member.Member.TheVariants as members
use Rattle.cal_lexer.specs.Lexeme.{Lexeme}
use Rattle.cal_print.specs.Tokens.{words, joined, following, dotted, each_place, each_chain, each_member, where_any}
use Rattle.cal_print.specs.Writes.{Writes}
use Rattle.cal_print.proofs.Texts.{then, reword}

-- One part more at the end of a list

pub following_more : (mark : Lexeme) (ts : List Tree) (t : Tree) → following mark (listed (ts ++ t ∷ [])) ≡ following mark (listed ts) ++ (mark ∷ words t)
following_more mark [] t = ap (λ ws. mark ∷ ws) (append-nil (words t))
following_more mark (x ∷ xs) t = ap (λ ws. mark ∷ words x ++ ws) (following_more mark xs t) ∙ ap (λ ws. mark ∷ ws) (sym (append_assoc (words x) (following mark (listed xs)) (mark ∷ words t)))

pub words_more : (ts : List Tree) (t : Tree) → words (listed (ts ++ t ∷ [])) ≡ words (listed ts) ++ words t
words_more [] t = append-nil (words t)
words_more (x ∷ xs) t = ap (λ ws. words x ++ ws) (words_more xs t) ∙ sym (append_assoc (words x) (words (listed xs)) (words t))

pub dotted_more : (ts : List Tree) (t : Tree) → dotted (listed (ts ++ t ∷ [])) ≡ dotted (listed ts) ++ (words t ++ (Lexeme.Dot ∷ []))
dotted_more [] t = refl
dotted_more (x ∷ xs) t = ap (λ ws. words x ++ (Lexeme.Dot ∷ ws)) (dotted_more xs t) ∙ sym (append_assoc (words x) (Lexeme.Dot ∷ dotted (listed xs)) (words t ++ (Lexeme.Dot ∷ [])))

pub place_more : (ts : List Tree) (t : Tree) → each_place (listed (ts ++ t ∷ [])) ≡ each_place (listed ts) ++ (Lexeme.LeftBracket ∷ words t ++ (Lexeme.RightBracket ∷ []))
place_more [] t = refl
place_more (x ∷ xs) t = ap (λ ws. Lexeme.LeftBracket ∷ words x ++ (Lexeme.RightBracket ∷ ws)) (place_more xs t)
    ∙ ap (λ ws. Lexeme.LeftBracket ∷ ws) (sym (append_assoc (words x) (Lexeme.RightBracket ∷ each_place (listed xs)) (Lexeme.LeftBracket ∷ words t ++ (Lexeme.RightBracket ∷ []))))

pub chain_more : (ts : List Tree) (t : Tree) → each_chain (listed (ts ++ t ∷ [])) ≡ each_chain (listed ts) ++ (joined Lexeme.Greater t ++ (Lexeme.Semicolon ∷ []))
chain_more [] t = refl
chain_more (x ∷ xs) t = ap (λ ws. joined Lexeme.Greater x ++ (Lexeme.Semicolon ∷ ws)) (chain_more xs t)
    ∙ sym (append_assoc (joined Lexeme.Greater x) (Lexeme.Semicolon ∷ each_chain (listed xs)) (joined Lexeme.Greater t ++ (Lexeme.Semicolon ∷ [])))

take_more : {X : Type 0} (xs : List X) (x : X) (i : ℕ) → i < length xs → x ≡ get_or xs i x → take (i + 1) xs ≡ take i xs ++ x ∷ []
take_more xs x i small is =
    let next : i + 1 ≡ suc i = omega arith in
    ap (λ k. take k xs) next ∙ take-suc xs i x small ∙ ap (λ y. take i xs ++ (y ∷ [])) (sym is)

-- a turn of a loop that prints one part more
pub loop_step : {X : Type 0} {old a new : Option (List ℕ)} (f : X → Tree) (F : Tree → List Lexeme) (step : Tree → List Lexeme) (more : (ys : List X) (y : X) → F (listed (map f ys ++ f y ∷ [])) ≡ F (listed (map f ys)) ++ step (f y))
    (xs : List X) (x : X) (i : ℕ) → i < length xs → x ≡ get_or xs i x
    → Writes old (F (listed (map f (take i xs)))) a → Writes a (step (f x)) new → Writes old (F (listed (map f (take (i + 1) xs)))) new
loop_step f F step more xs x i small is before now =
    reword (then before now) (sym (more (take i xs) x) ∙ ap (λ ts. F (listed ts)) (sym (map-append f (take i xs) (x ∷ [])) ∙ ap (map f) (sym (take_more xs x i small is))))

-- the end of a loop over all parts
pub loop_all : {X : Type 0} {old new : Option (List ℕ)} (f : X → Tree) (F : Tree → List Lexeme) (xs : List X) (i : ℕ) → length xs ≤ i
    → Writes old (F (listed (map f (take i xs)))) new → Writes old (F (listed (map f xs))) new
loop_all f F xs i large h = reword h (ap (λ ys. F (listed (map f ys))) (take_all i xs large))

-- the first part, and then the others with a mark before each
pub joined_all : {X : Type 0} {old a new : Option (List ℕ)} (f : X → Tree) (mark : Lexeme) (all : List X) (x : X) (xs : List X) (i : ℕ) → all ≡ x ∷ xs → length xs ≤ i
    → Writes old (words (f x)) a → Writes a (following mark (listed (map f (take i xs)))) new → Writes old (joined mark (listed (map f all))) new
joined_all f mark all x xs i split large first others =
    reword (then first (loop_all f (following mark) xs i large others)) (ap (λ ys. joined mark (listed (map f ys))) (sym split))

-- if there are parts, what introduces them stands
pub where_some : {X : Type 0} (f : X → Tree) (all : List X) (x : X) (xs : List X) (ws : List Lexeme) → all ≡ x ∷ xs → where_any (listed (map f all)) ws ≡ ws
where_some f all x xs ws split = ap (λ ys. where_any (listed (map f ys)) ws) split

-- a member more at the end
member_first : (m : Member) (rest : Tree) → each_member (cons (member_tree m) rest) ≡ each_member (cons (member_tree m) nil) ++ each_member rest
member_first (members.Var v) rest = sym (append_assoc (words (member_tree (members.Var v))) (Lexeme.Semicolon ∷ []) (each_member rest))
member_first (members.Function f) rest = ap (λ ws. ws ++ each_member rest) (sym (append-nil (words (member_tree (members.Function f)))))
member_first (members.Procedure p) rest = ap (λ ws. ws ++ each_member rest) (sym (append-nil (words (member_tree (members.Procedure p)))))
member_first (members.Action a) rest = ap (λ ws. ws ++ each_member rest) (sym (append-nil (words (member_tree (members.Action a)))))
member_first (members.Schedule s) rest = ap (λ ws. ws ++ each_member rest) (sym (append-nil (words (member_tree (members.Schedule s)))))
member_first (members.Priority p) rest = ap (λ ws. ws ++ each_member rest) (sym (append-nil (words (member_tree (members.Priority p)))))

pub member_more : (ms : List Member) (m : Member) → each_member (listed (map member_tree ms ++ member_tree m ∷ [])) ≡ each_member (listed (map member_tree ms)) ++ each_member (cons (member_tree m) nil)
member_more [] m = refl
member_more (x ∷ xs) m =
    member_first x (listed (map member_tree xs ++ member_tree m ∷ []))
    ∙ ap (λ ws. each_member (cons (member_tree x) nil) ++ ws) (member_more xs m)
    ∙ sym (append_assoc (each_member (cons (member_tree x) nil)) (each_member (listed (map member_tree xs))) (each_member (cons (member_tree m) nil)))
    ∙ ap (λ ws. ws ++ each_member (cons (member_tree m) nil)) (sym (member_first x (listed (map member_tree xs))))
