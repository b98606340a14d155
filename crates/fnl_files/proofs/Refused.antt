-- If a library tells of each name, files that can all be read aren't refused.
use Rattle.std.proofs.Common.{◌≡◌, ℕ, suc, ◌+◌, ◌≤◌, Bool, inl, inr, List, [], ◌∷◌, ◌++◌, length, refl, sym, ap, subst, ◌∙◌, arith}
use Rattle.std.proofs.lemmas.List.{append_assoc, append-nil}
use Rattle.std.specs.Prelude.{Option, None, Some}
use Rattle.rvc_base.specs.declared.refusal.Refusal.{Refusal}
use Rattle.rvc_base.specs.declared.refusal.Rule.{Rule}
use Rattle.rvc_io.specs.Library.{IsTooLong, max_file_bytes}
use Rattle.rvc_io.specs.Told.{Told, Untold, Lacking, Holding, IsLacking, IsTold}
use Rattle.cal_ast.specs.Tree.{Tree}
use Rattle.cal_lexer.specs.Lexeme.{Placed}
use Rattle.cal_lexer.proofs.Once.{not_both, one_list}
use Rattle.cal_grammar.specs.Operators.{height, max_height}
use Rattle.cal_grammar.specs.Refusals.{Breaks, breaks_off, grows_high}
use Rattle.cal_grammar.specs.Spells.{spells}
use Rattle.cal_files.specs.FileText.{BreaksRules, IsFile, IsText, in_grammar, in_lexis}
use Rattle.cal_files.specs.Loading.{Counts, Library, TellsAll, max_bytes, max_files}
use Rattle.fnl_read.specs.Net.{Net}
use Rattle.fnl_read.specs.Network as net
use Rattle.fnl_grammar.specs.Laws.{IsOneNetworkFile, NetworkFileIsRead}
use Rattle.fnl_source.specs.Files.{AreReadBehind, Asked, Choice, Content, IsNextRead, Read, Says, says_network, says_source, Wanted, bytes_of, name_of, next_wanted, wanted}
use Rattle.fnl_files.specs.Laws.{LoadedIsNotRefused}
use Rattle.fnl_files.specs.Loading.{BreaksRule, IsRefused, Refuses, RefusesFile, RefusesText, breaks_rule, in_network, in_source, is_missing, is_refused, is_there, is_too_long, is_too_much}
use Rattle.fnl_files.specs.Requests.{names_of}
use Rattle.fnl_source.proofs.Choices.{choices_are_one}
use Rattle.fnl_source.proofs.OneLibrary.{OneTree, none_or_some, one_next, one_text, some_is_one}
use Rattle.fnl_files.proofs.Lists.{first_past, next_is}

-- ---- one text

not_missing : (told : Told) (a : List ℕ) → (told ≡ Untold → ⊥) → IsTold told a → IsLacking told → ⊥
not_missing Untold a known x y = known refl
not_missing Lacking a known x y = x
not_missing (Holding t) a known x y = y

not_long : (told : Told) (a : List ℕ) → (told ≡ Untold → ⊥) → IsTold told a → length a ≤ max_file_bytes → IsTooLong told → ⊥
not_long Untold a known x short y = known refl
not_long Lacking a known x short y = x
not_long (Holding t) a known x short y =
    let e : length a ≡ length t = ap length x in
    absurd (omega arith)

-- ---- one content

no_break : (end : ℕ) (ts : List Placed) (rule : Rule) (at : ℕ) (x : Tree) → spells ts x → height x ≤ max_height → Breaks end ts rule at → ⊥
no_break end ts rule at x s low (breaks_off left h) = h.none left x refl (subst (λ l. spells l x) h.is_front s)
no_break end ts rule at x s low (grows_high t left h) = h.none (t ∷ left) x refl low (subst (λ l. spells l x) h.is_front s)

no_rule : (text : List ℕ) (x : Tree) (rule : Rule) (at : ℕ) → IsFile text x → BreaksRules text rule at → ⊥
no_rule text x rule at is (in_lexis r a h) = not_both is.lexed h
no_rule text x rule at is (in_grammar tokens r a lexed h) =
    no_break (length text) tokens rule at x (subst (λ ts. spells ts x) (one_list is.lexed lexed) is.spelled) is.low h

network_or_broken : (a : net.Answer) (n : Net) (rule : Rule) (at : ℕ) → a ≡ net.Network n → a ≡ net.Broke rule at → ⊥
network_or_broken (net.Network m) n rule at h k = cc
network_or_broken (net.Broke r p) n rule at h k = cc

-- what a text says breaks no rule
no_rule_broken : NetworkFileIsRead → (text : List ℕ) (kind : Bool) (content : Content) (rule : Rule) (at : ℕ) → Says text kind content → BreaksRule text kind rule at → ⊥
no_rule_broken read text _ _ rule at (says_network {net = n} h) (in_network r p k) = network_or_broken (net.network text) n rule at (read text n h) k
no_rule_broken read text _ _ rule at (says_source {tree = x} h) (in_source r p k) = no_rule text x rule at h k

-- ---- one file at a time

not_refused_text : NetworkFileIsRead → (text : List ℕ) (kind : Bool) (number bytes : ℕ) (content : Content) (refusal : Refusal) → Says text kind content
    → number ≤ max_files → bytes + length text ≤ max_bytes → RefusesText text kind number bytes refusal → ⊥
not_refused_text read text kind number bytes content _ says few small (breaks_rule rule at h) = no_rule_broken read text kind content rule at says h
not_refused_text read text kind number bytes content _ says few small (is_too_much other is (inl many)) = absurd (omega arith)
not_refused_text read text kind number bytes content _ says few small (is_too_much other is (inr big)) = absurd (omega arith)

not_refused_file : NetworkFileIsRead → (told : Told) (text : List ℕ) (kind : Bool) (number bytes : ℕ) (content : Content) (refusal : Refusal) → (told ≡ Untold → ⊥)
    → IsText told text → Says text kind content → number ≤ max_files → bytes + length text ≤ max_bytes → RefusesFile told kind number bytes refusal → ⊥
not_refused_file read told text kind number bytes content _ known is says few small (is_too_long long) = not_long told text known is.is_told is.short long
not_refused_file read told text kind number bytes content refusal known is says few small (is_refused other _ is_other h) =
    not_refused_text read text kind number bytes content refusal says few small
    (subst (λ t. RefusesText t kind number bytes refusal) (one_text told other text known is_other.is_told is.is_told) h)

-- what can be read isn't refused
readable : NetworkFileIsRead → (library : Library) (choice : Choice) (top : Asked) (before : List Read) (a : Read) (w : Wanted) (missing : Refusal) (misses : Counts)
    (names : List (List ℕ)) (refusal : Refusal) (found : List (List ℕ)) → TellsAll library → IsNextRead library choice top before a → next_wanted choice top before ≡ Some w
    → Refuses library w missing (suc (length before)) (bytes_of before) misses names refusal found → ⊥
readable read library choice top before a w missing misses names refusal found tells x next h = go refusal found h
  where
    same : x.want ≡ w
    same = some_is_one (next_wanted choice top before) x.want w x.is_next next

    is : IsText (library (name_of w)) a.text
    is = subst (λ v. IsText (library (name_of v)) a.text) same x.is_text

    says : Says a.text w.network a.content
    says = subst (λ v. Says a.text v.network a.content) same x.says

    go : (refusal : Refusal) (found : List (List ℕ)) → Refuses library w missing (suc (length before)) (bytes_of before) misses names refusal found → ⊥
    go _ _ (is_missing risen lacking) = not_missing (library (name_of w)) a.text (tells (name_of w)) is.is_told lacking
    go _ _ (is_there refusal h) =
        not_refused_file read (library (name_of w)) a.text w.network (suc (length before)) (bytes_of before) a.content refusal (tells (name_of w)) is says x.few x.small h

-- ---- all files

at_end : (choice : Choice) (top : Asked) (before : List Read) (o : Option Wanted) → next_wanted choice top (before ++ []) ≡ o → next_wanted choice top before ≡ o
at_end choice top before o h = ap (λ b. next_wanted choice top b) (sym (append-nil before)) ∙ h

not_behind : OneTree → IsOneNetworkFile → NetworkFileIsRead → (library : Library) (choice : Choice) (top : Asked) (before xs ys : List Read) (w : Wanted) (missing : Refusal)
    (misses : Counts) (names : List (List ℕ)) (refusal : Refusal) (found : List (List ℕ)) → TellsAll library
    → AreReadBehind library choice top before xs → next_wanted choice top (before ++ xs) ≡ None
    → AreReadBehind library choice top before ys → next_wanted choice top (before ++ ys) ≡ Some w
    → Refuses library w missing (suc (length (before ++ ys))) (bytes_of (before ++ ys)) misses names refusal found → ⊥
not_behind one nets read library choice top before [] [] w missing misses names refusal found tells x xn y yn h =
    none_or_some (next_wanted choice top before) w (at_end choice top before None xn) (at_end choice top before (Some w) yn)
not_behind one nets read library choice top before [] (b ∷ ys) w missing misses names refusal found tells x xn y yn h =
    none_or_some (next_wanted choice top before) y.0.want (at_end choice top before None xn) y.0.is_next
not_behind one nets read library choice top before (a ∷ xs) [] w missing misses names refusal found tells x xn y yn h =
    readable read library choice top before a w missing misses names refusal found tells x.0 (at_end choice top before (Some w) yn)
    (subst (λ b. Refuses library w missing (suc (length b)) (bytes_of b) misses names refusal found) (append-nil before) h)
not_behind one nets read library choice top before (a ∷ xs) (b ∷ ys) w missing misses names refusal found tells x xn y yn h =
    let same : b ≡ a = one_next one nets library choice top before b a tells y.0 x.0 in
    not_behind one nets read library choice top (before ++ a ∷ []) xs ys w missing misses names refusal found tells x.1
    (ap (λ l. next_wanted choice top l) (append_assoc before (a ∷ []) xs) ∙ xn)
    (subst (λ r. AreReadBehind library choice top (before ++ r ∷ []) ys) same y.1)
    (ap (λ l. next_wanted choice top l) (append_assoc before (a ∷ []) ys) ∙ subst (λ r. next_wanted choice top (before ++ r ∷ ys) ≡ Some w) same yn)
    (subst (λ l. Refuses library w missing (suc (length l)) (bytes_of l) misses names refusal found) (sym (append_assoc before (a ∷ []) ys))
    (subst (λ r. Refuses library w missing (suc (length (before ++ r ∷ ys))) (bytes_of (before ++ r ∷ ys)) misses names refusal found) same h))

-- what is loaded by a choice isn't refused by it
not_refused_by : OneTree → IsOneNetworkFile → NetworkFileIsRead → (library : Library) (top : Asked) (reads : List Read) (misses : Counts) (refusal : Refusal)
    (names : List (List ℕ)) → TellsAll library → (choice : Choice) → AreReadBehind library choice top [] reads → next_wanted choice top reads ≡ None
    → (h : IsRefused library top misses refusal names) → choice ≡ h.choice → ⊥
not_refused_by tree nets read library top reads misses refusal names tells choice are whole h same =
    not_behind tree nets read library h.choice top [] reads h.reads (wanted h.choice h.request.asked) h.request.missing misses (names_of h.reads) refusal names tells
    (subst (λ c. AreReadBehind library c top [] reads) same are) (subst (λ c. next_wanted c top reads ≡ None) same whole) h.comes.are_read
    (next_is h.choice top h.reads (h.comes.before ++ h.request ∷ h.comes.after) h.comes.splits
    ∙ first_past h.choice h.reads h.comes.before h.comes.after h.request h.comes.all_read h.unread)
    h.refuses

pub not_refused : OneTree → IsOneNetworkFile → NetworkFileIsRead → LoadedIsNotRefused
not_refused tree nets read library top reads misses refusal names tells x h =
    not_refused_by tree nets read library top reads misses refusal names tells x.choice x.are_read x.whole h (choices_are_one library x.choice h.choice tells x.fits h.fits)
