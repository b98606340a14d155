-- If a library tells of each name, a loading comes to one end.
use Rattle.std.proofs.Common.{◌≡◌, ℕ, ◌+◌, ◌≤◌, ◌<◌, inl, inr, List, [], ◌∷◌, ◌++◌, length, refl, sym, ap, subst, ◌∙◌, arith}
use Rattle.std.proofs.lemmas.List.{append_assoc, append-nil}
use Rattle.std.specs.Prelude.{Option, None, Some}
use Rattle.rvc_base.specs.declared.refusal.Refusal.{Refusal}
use Rattle.rvc_base.specs.declared.refusal.Rule.{Rule}
use Rattle.rvc_io.specs.Library.{IsTooLong, max_file_bytes}
use Rattle.rvc_io.specs.Told.{Told, Untold, Lacking, Holding, IsLacking, IsTold}
use Rattle.cal_ast.specs.Tree.{Tree}
use Rattle.cal_lexer.specs.Lexeme.{Placed}
use Rattle.cal_lexer.proofs.Once.{not_both, one_list}
use Rattle.cal_grammar.specs.Operators.{height, max_height}
use Rattle.cal_grammar.specs.Refusals.{Breaks, breaks_off, grows_high}
use Rattle.cal_grammar.specs.Spells.{spells}
use Rattle.cal_files.specs.FileNames.{file_of}
use Rattle.cal_files.specs.FileText.{BreaksRules, IsFile, in_grammar, in_lexis}
use Rattle.cal_files.specs.Loading.{AreReadBehind, Counts, IsLoaded, IsNextRead, IsRefused, Library, Refuses, TellsAll, breaks_rules, is_missing, is_too_long, is_too_much, max_bytes, max_files}
use Rattle.cal_files.specs.Reads.{Read, Request, bytes_of, next_number, next_request}

-- tokens spell one tree
abbrev pub OneTree : Type 0
OneTree = (ts : List Placed) (x y : Tree) → spells ts x → spells ts y → x ≡ y

-- ---- one text

pub one_text : (told : Told) (a b : List ℕ) → (told ≡ Untold → ⊥) → IsTold told a → IsTold told b → a ≡ b
one_text Untold a b known x y = absurd (known refl)
one_text Lacking a b known x y = absurd x
one_text (Holding t) a b known x y = x ∙ sym y

-- a text that can be read is neither missing nor too long
not_missing : (told : Told) (a : List ℕ) → (told ≡ Untold → ⊥) → IsTold told a → IsLacking told → ⊥
not_missing Untold a known x y = known refl
not_missing Lacking a known x y = x
not_missing (Holding t) a known x y = y

not_long : (told : Told) (a : List ℕ) → (told ≡ Untold → ⊥) → IsTold told a → length a ≤ max_file_bytes → IsTooLong told → ⊥
not_long Untold a known x short y = known refl
not_long Lacking a known x short y = x
not_long (Holding t) a known x short y =
    let e : length a ≡ length t = ap length x in
    absurd (omega arith)

-- ---- one tree

pub one_file : OneTree → (text : List ℕ) (x y : Tree) → IsFile text x → IsFile text y → x ≡ y
one_file one text x y a b = one b.tokens x y (subst (λ ts. spells ts x) (one_list a.lexed b.lexed) a.spelled) b.spelled

no_break : (end : ℕ) (ts : List Placed) (rule : Rule) (at : ℕ) (x : Tree) → spells ts x → height x ≤ max_height → Breaks end ts rule at → ⊥
no_break end ts rule at x s low (breaks_off left h) = h.none left x refl (subst (λ l. spells l x) h.is_front s)
no_break end ts rule at x s low (grows_high t left h) = h.none (t ∷ left) x refl low (subst (λ l. spells l x) h.is_front s)

-- a file breaks no rule of its own
no_rule : (text : List ℕ) (x : Tree) (rule : Rule) (at : ℕ) → IsFile text x → BreaksRules text rule at → ⊥
no_rule text x rule at is (in_lexis r a h) = not_both is.lexed h
no_rule text x rule at is (in_grammar tokens r a lexed h) =
    no_break (length text) tokens rule at x (subst (λ ts. spells ts x) (one_list is.lexed lexed) is.spelled) is.low h

-- ---- one file at a time

some_is_one : {A : Type 0} (o : Option A) (a b : A) → o ≡ Some a → o ≡ Some b → a ≡ b
some_is_one None a b x y = cc
some_is_one (Some c) a b x y = cc

none_or_some : {A : Type 0} (o : Option A) (a : A) → o ≡ None → o ≡ Some a → ⊥
none_or_some None a x y = cc
none_or_some (Some c) a x y = cc

same_read : (a b : Read) → a.class ≡ b.class → a.text ≡ b.text → a.tree ≡ b.tree → a ≡ b
same_read a b x y z = λ i. record { class = x i; text = y i; tree = z i }

one_next : OneTree → (library : Library) (top : List ℕ) (before : List Read) (a b : Read) → TellsAll library
    → IsNextRead library top before a → IsNextRead library top before b → a ≡ b
one_next one library top before a b tells x y =
    let q : x.request ≡ y.request = some_is_one (next_request top before) x.request y.request x.is_next y.is_next in
    let c : a.class ≡ b.class = x.same_class ∙ ap (λ r. r.class) q ∙ sym y.same_class in
    let held : IsTold (library (file_of b.class)) a.text = subst (λ n. IsTold (library (file_of n)) a.text) c x.is_text.is_told in
    let t : a.text ≡ b.text = one_text (library (file_of b.class)) a.text b.text (tells (file_of b.class)) held y.is_text.is_told in
    same_read a b c t (one_file one b.text a.tree b.tree (subst (λ s. IsFile s a.tree) t x.is_file) y.is_file)

-- what can be read isn't refused
readable : OneTree → (library : Library) (top : List ℕ) (before : List Read) (a : Read) (q : Request) (misses : Counts) (names : List (List ℕ))
    (refusal : Refusal) (found : List (List ℕ)) → TellsAll library → IsNextRead library top before a → next_request top before ≡ Some q
    → Refuses (library (file_of q.class)) q (next_number before) (bytes_of before) misses names refusal found → ⊥
readable one library top before a q misses names refusal found tells x next h =
    go (library (file_of q.class)) (tells (file_of q.class)) refusal found
    (subst (λ n. IsTold (library (file_of n)) a.text) (x.same_class ∙ ap (λ r. r.class) (some_is_one (next_request top before) x.request q x.is_next next)) x.is_text.is_told) h
  where
    go : (told : Told) → (told ≡ Untold → ⊥) → (refusal : Refusal) (found : List (List ℕ)) → IsTold told a.text
        → Refuses told q (next_number before) (bytes_of before) misses names refusal found → ⊥
    go told known _ _ is (is_missing risen lacking) = not_missing told a.text known is lacking
    go told known _ _ is (is_too_long long) = not_long told a.text known is x.is_text.short long
    go told known _ _ is (breaks_rules text rule at is_text breaks) =
        no_rule a.text a.tree rule at x.is_file (subst (λ t. BreaksRules t rule at) (one_text told text a.text known is_text.is_told is) breaks)
    go told known _ _ is (is_too_much text tree is_text is_file (inl many)) = too_many (next_number before) many x.few
      where
        too_many : (n : ℕ) → max_files < n → n ≤ max_files → ⊥
        too_many n h k = absurd (omega arith)
    go told known _ _ is (is_too_much text tree is_text is_file (inr big)) =
        too_big (length text) (subst (λ t. bytes_of before + length t ≤ max_bytes) (one_text told a.text text known is is_text.is_told) x.small) big
      where
        too_big : (n : ℕ) → bytes_of before + n ≤ max_bytes → max_bytes < bytes_of before + n → ⊥
        too_big n h k = absurd (omega arith)

-- ---- all files

at_end : (top : List ℕ) (before : List Read) (o : Option Request) → next_request top (before ++ []) ≡ o → next_request top before ≡ o
at_end top before o h = ap (λ b. next_request top b) (sym (append-nil before)) ∙ h

further : (top : List ℕ) (before : List Read) (r : Read) (xs : List Read) (o : Option Request) → next_request top (before ++ r ∷ xs) ≡ o
    → next_request top ((before ++ r ∷ []) ++ xs) ≡ o
further top before r xs o h = ap (λ b. next_request top b) (append_assoc before (r ∷ []) xs) ∙ h

one_behind : OneTree → (library : Library) (top : List ℕ) (before xs ys : List Read) → TellsAll library
    → AreReadBehind library top before xs → next_request top (before ++ xs) ≡ None
    → AreReadBehind library top before ys → next_request top (before ++ ys) ≡ None → xs ≡ ys
one_behind one library top before [] [] tells x xn y yn = refl
one_behind one library top before [] (b ∷ ys) tells x xn y yn =
    absurd (none_or_some (next_request top before) y.0.request (at_end top before None xn) y.0.is_next)
one_behind one library top before (a ∷ xs) [] tells x xn y yn =
    absurd (none_or_some (next_request top before) x.0.request (at_end top before None yn) x.0.is_next)
one_behind one library top before (a ∷ xs) (b ∷ ys) tells x xn y yn =
    let same : b ≡ a = one_next one library top before b a tells y.0 x.0 in
    let rest : xs ≡ ys = one_behind one library top (before ++ a ∷ []) xs ys tells x.1 (further top before a xs None xn)
    (subst (λ r. AreReadBehind library top (before ++ r ∷ []) ys) same y.1)
    (further top before a ys None (subst (λ r. next_request top (before ++ r ∷ ys) ≡ None) same yn)) in
    ap (λ r. r ∷ xs) (sym same) ∙ ap (λ l. b ∷ l) rest

pub one : OneTree → (library : Library) (top : List ℕ) (xs ys : List Read) → TellsAll library → IsLoaded library top xs → IsLoaded library top ys → xs ≡ ys
one tree library top xs ys tells x y = one_behind tree library top [] xs ys tells x.are_read x.whole y.are_read y.whole

-- files that stop before one that is refused
not_behind : OneTree → (library : Library) (top : List ℕ) (before xs ys : List Read) (q : Request) (misses : Counts) (names : List (List ℕ))
    (refusal : Refusal) (found : List (List ℕ)) → TellsAll library
    → AreReadBehind library top before xs → next_request top (before ++ xs) ≡ None
    → AreReadBehind library top before ys → next_request top (before ++ ys) ≡ Some q
    → Refuses (library (file_of q.class)) q (next_number (before ++ ys)) (bytes_of (before ++ ys)) misses names refusal found → ⊥
not_behind one library top before [] [] q misses names refusal found tells x xn y yn h =
    none_or_some (next_request top before) q (at_end top before None xn) (at_end top before (Some q) yn)
not_behind one library top before [] (b ∷ ys) q misses names refusal found tells x xn y yn h =
    none_or_some (next_request top before) y.0.request (at_end top before None xn) y.0.is_next
not_behind one library top before (a ∷ xs) [] q misses names refusal found tells x xn y yn h =
    readable one library top before a q misses names refusal found tells x.0 (at_end top before (Some q) yn)
    (subst (λ b. Refuses (library (file_of q.class)) q (next_number b) (bytes_of b) misses names refusal found) (append-nil before) h)
not_behind one library top before (a ∷ xs) (b ∷ ys) q misses names refusal found tells x xn y yn h =
    let same : b ≡ a = one_next one library top before b a tells y.0 x.0 in
    not_behind one library top (before ++ a ∷ []) xs ys q misses names refusal found tells x.1 (further top before a xs None xn)
    (subst (λ r. AreReadBehind library top (before ++ r ∷ []) ys) same y.1)
    (further top before a ys (Some q) (subst (λ r. next_request top (before ++ r ∷ ys) ≡ Some q) same yn))
    (subst (λ b. Refuses (library (file_of q.class)) q (next_number b) (bytes_of b) misses names refusal found) (sym (append_assoc before (a ∷ []) ys))
    (subst (λ r. Refuses (library (file_of q.class)) q (next_number (before ++ r ∷ ys)) (bytes_of (before ++ r ∷ ys)) misses names refusal found) same h))

pub not_refused : OneTree → (library : Library) (top : List ℕ) (reads : List Read) (misses : Counts) (refusal : Refusal) (names : List (List ℕ))
    → TellsAll library → IsLoaded library top reads → IsRefused library top misses refusal names → ⊥
not_refused one library top reads misses refusal names tells x h =
    not_behind one library top [] reads h.reads h.request misses _ refusal names tells x.are_read x.whole h.stops.are_read h.stops.is_next h.refuses
