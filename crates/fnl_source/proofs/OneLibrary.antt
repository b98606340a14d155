-- A library's files mean at most one network.
use Rattle.std.proofs.Common.{◌≡◌, ℕ, Bool, List, [], ◌∷◌, ◌++◌, Option, None, Some, refl, sym, ap, subst, ◌∙◌}
use Rattle.std.proofs.lemmas.List.{append_assoc, append-nil}
use Rattle.rvc_io.specs.Told.{Told, Untold, Lacking, Holding, IsTold}
use Rattle.cal_ast.specs.Tree.{Tree}
use Rattle.cal_lexer.specs.Lexeme.{Placed}
use Rattle.cal_lexer.proofs.Once.{one_list}
use Rattle.cal_grammar.specs.Spells.{spells}
use Rattle.cal_files.specs.FileText.{IsFile}
use Rattle.cal_files.specs.Loading.{Library, TellsAll}
use Rattle.fnl_grammar.specs.Laws.{IsOneNetworkFile}
use Rattle.fnl_source.specs.Files.{Asked, Choice, Wanted, name_of, class_asked, Content, network, source, Read, Says, says_network, says_source, next_wanted, IsNextRead, AreReadBehind, files_of}
use Rattle.fnl_source.specs.Laws.{NetworksAreOne}
use Rattle.fnl_source.specs.Library.{ChoicesAreOne, FilesAreOne, LibraryNetworksAreOne}
use Rattle.fnl_source.specs.Source.{IsSourceNetwork}
use Rattle.fnl_source.proofs.Choices.{choices_are_one}

-- tokens spell one tree
abbrev pub OneTree : Type 0
OneTree = (ts : List Placed) (x y : Tree) → spells ts x → spells ts y → x ≡ y

pub one_text : (told : Told) (a b : List ℕ) → (told ≡ Untold → ⊥) → IsTold told a → IsTold told b → a ≡ b
one_text Untold a b known x y = absurd (known refl)
one_text Lacking a b known x y = absurd x
one_text (Holding t) a b known x y = x ∙ sym y

one_file : OneTree → (text : List ℕ) (x y : Tree) → IsFile text x → IsFile text y → x ≡ y
one_file one text x y a b = one b.tokens x y (subst (λ ts. spells ts x) (one_list a.lexed b.lexed) a.spelled) b.spelled

-- a text says one thing
one_content : OneTree → IsOneNetworkFile → (text : List ℕ) (kind : Bool) (x y : Content) → Says text kind x → Says text kind y → x ≡ y
one_content tree net text _ _ _ (says_network {net = a} h) (says_network {net = b} k) = ap network (net text a b h k)
one_content tree net text _ _ _ (says_source {tree = a} h) (says_source {tree = b} k) = ap source (one_file tree text a b h k)

pub some_is_one : {A : Type 0} (o : Option A) (a b : A) → o ≡ Some a → o ≡ Some b → a ≡ b
some_is_one None a b x y = cc
some_is_one (Some c) a b x y = cc

pub none_or_some : {A : Type 0} (o : Option A) (a : A) → o ≡ None → o ≡ Some a → ⊥
none_or_some None a x y = cc
none_or_some (Some c) a x y = cc

same_read : (a b : Read) → a.class ≡ b.class → a.text ≡ b.text → a.content ≡ b.content → a ≡ b
same_read a b x y z = λ i. record { class = x i; text = y i; content = z i }

pub one_next : OneTree → IsOneNetworkFile → (library : Library) (choice : Choice) (top : Asked) (before : List Read) (a b : Read) → TellsAll library
    → IsNextRead library choice top before a → IsNextRead library choice top before b → a ≡ b
one_next tree net library choice top before a b tells x y =
    let w : x.want ≡ y.want = some_is_one (next_wanted choice top before) x.want y.want x.is_next y.is_next in
    let c : a.class ≡ b.class = x.same_class ∙ ap (λ q. q.class) w ∙ sym y.same_class in
    let held : IsTold (library (name_of y.want)) a.text = subst (λ q. IsTold (library (name_of q)) a.text) w x.is_text.is_told in
    let t : a.text ≡ b.text = one_text (library (name_of y.want)) a.text b.text (tells (name_of y.want)) held y.is_text.is_told in
    let says : Says b.text y.want.network a.content = subst (λ s. Says s y.want.network a.content) t (subst (λ q. Says a.text q.network a.content) w x.says) in
    same_read a b c t (one_content tree net b.text y.want.network a.content b.content says y.says)

at_end : (choice : Choice) (top : Asked) (before : List Read) (o : Option Wanted) → next_wanted choice top (before ++ []) ≡ o → next_wanted choice top before ≡ o
at_end choice top before o h = ap (λ b. next_wanted choice top b) (sym (append-nil before)) ∙ h

further : (choice : Choice) (top : Asked) (before : List Read) (r : Read) (xs : List Read) (o : Option Wanted) → next_wanted choice top (before ++ r ∷ xs) ≡ o
    → next_wanted choice top ((before ++ r ∷ []) ++ xs) ≡ o
further choice top before r xs o h = ap (λ b. next_wanted choice top b) (append_assoc before (r ∷ []) xs) ∙ h

one_behind : OneTree → IsOneNetworkFile → (library : Library) (choice : Choice) (top : Asked) (before xs ys : List Read) → TellsAll library
    → AreReadBehind library choice top before xs → next_wanted choice top (before ++ xs) ≡ None
    → AreReadBehind library choice top before ys → next_wanted choice top (before ++ ys) ≡ None → xs ≡ ys
one_behind tree net library choice top before [] [] tells x xn y yn = refl
one_behind tree net library choice top before [] (b ∷ ys) tells x xn y yn =
    absurd (none_or_some (next_wanted choice top before) y.0.want (at_end choice top before None xn) y.0.is_next)
one_behind tree net library choice top before (a ∷ xs) [] tells x xn y yn =
    absurd (none_or_some (next_wanted choice top before) x.0.want (at_end choice top before None yn) x.0.is_next)
one_behind tree net library choice top before (a ∷ xs) (b ∷ ys) tells x xn y yn =
    let same : b ≡ a = one_next tree net library choice top before b a tells y.0 x.0 in
    let rest : xs ≡ ys = one_behind tree net library choice top (before ++ a ∷ []) xs ys tells x.1 (further choice top before a xs None xn)
    (subst (λ r. AreReadBehind library choice top (before ++ r ∷ []) ys) same y.1)
    (further choice top before a ys None (subst (λ r. next_wanted choice top (before ++ r ∷ ys) ≡ None) same yn)) in
    ap (λ r. r ∷ xs) (sym same) ∙ ap (λ l. b ∷ l) rest

pub files_are_one : OneTree → IsOneNetworkFile → FilesAreOne
files_are_one tree net library top reads others tells x y =
    let same : y.choice ≡ x.choice = choices_are_one library y.choice x.choice tells y.fits x.fits in
    one_behind tree net library x.choice top [] reads others tells x.are_read x.whole
    (subst (λ c. AreReadBehind library c top [] others) same y.are_read) (subst (λ c. next_wanted c top others ≡ None) same y.whole)

pub library_networks_are_one : OneTree → IsOneNetworkFile → NetworksAreOne → LibraryNetworksAreOne
library_networks_are_one tree nets one library top net other tells x y =
    let same : x.reads ≡ y.reads = files_are_one tree nets library top x.reads y.reads tells x.are_loaded y.are_loaded in
    one (files_of y.reads) (class_asked top) net other (subst (λ reads. IsSourceNetwork (files_of reads) (class_asked top) net) same x.means) y.means

pub one_choice : ChoicesAreOne
one_choice library one other tells h k = choices_are_one library one other tells h k
