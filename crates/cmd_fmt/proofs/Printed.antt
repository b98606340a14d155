-- What the printing of a file answers, from what its steps say.
use Rattle.std.proofs.Common.{◌≡◌, ◌<◌, ◌≤◌, inl, inr, arith, ℕ, Bool, List, [], ◌∷◌, ◌++◌, refl, sym, subst, ◌∙◌, length}
use Rattle.std.specs.Prelude.{Result, Ok, Err, IfErr, MatchResult, false, ◌==◌, map}
use Rattle.rvc_base.specs.declared.refusal.Refusal.{Refusal}
use Rattle.rvc_base.specs.declared.refusal.Front.{Front as Answer}
use Rattle.rvc_base.specs.declared.refusal.Front.TheVariants.{Refused as Denied, Memory}
use Rattle.rvc_io.specs.Channels.{Channels}
use Rattle.rvc_io.specs.Count.{HasRisen}
use Rattle.rvc_io.specs.Library.{max_file_bytes, IsTooLong}
use Rattle.rvc_io.specs.Told.{Told, Untold, Lacking, Holding, IsTold}
use Rattle.cal_ast.specs.Tree.{Tree}
use Rattle.cal_lexer.proofs.Once.{one_list}
use Rattle.cal_grammar.specs.Operators.{height, max_height}
use Rattle.cal_grammar.specs.Spells.{spells}
use Rattle.cal_lexer.specs.Lexeme.{Placed}
use Rattle.cal_lexer.specs.Lexes as lexis
use Rattle.cal_grammar.specs.Refusals as grammar
use Rattle.cal_files.specs.FileText.{IsFile, IsRightly, IsText, in_grammar, in_lexis}
use Rattle.rvc_words.specs.Words.{JobText, PortText, port_text}
use Rattle.rvc_words.specs.declared.job.PortWord.{PortWord}
use Rattle.cmd_ports.specs.Matching.{IsWrong}
use Rattle.rvc_base.specs.Rules.{unknown_port}
use Rattle.cmd_fmt.specs.Formatting.{HasFile, IsCanonical, IsDoneOrMemory, IsPreparing, IsPrinting, IsUnprinted, IsUnread, LibraryMet, PrintsNothing, breaks_rules, lacks, passes}
use Rattle.cmd_fmt.specs.Reports.{IsCutShort, IsReported, Reports, about_file, in_report, in_text}
use Rattle.cmd_report.specs.About.{About}
use Rattle.cmd_report.specs.Report.{last_line}
use Rattle.cmd_report.specs.declared.status.ReadAt.{ReadAt}
use Rattle.cmd_report.specs.declared.status.ReadAt.TheVariants.{File, Feed}
use Rattle.cmd_report.specs.declared.status.Status.{Status}
use Rattle.cmd_report.specs.declared.status.Status.TheVariants.{Quiet, Done, Usage, ReadFault, WriteFault, Refused, Trapped, Stalled, Budget, OutOfMemory, NotRun, Uncertified}

pub of_lexis : (file : ℕ) (text : List ℕ) (e : Answer) → lexis.IsRightly file text e → IsRightly file text e
of_lexis file text (Denied r) h = (h.0, in_lexis r.rule r.place.offset h.1)
of_lexis file text Memory h = tt

pub of_grammar : (file : ℕ) (text : List ℕ) (tokens : List Placed) (e : Answer) → lexis.lexes text tokens → grammar.IsRightly file (length text) tokens e → IsRightly file text e
of_grammar file text tokens (Denied r) lexed h = (h.0, in_grammar tokens r.rule r.place.offset lexed h.1)
of_grammar file text tokens Memory lexed h = tt

-- the two over an answer
pub all_of_grammar : {T : Type 0} (r : Result T Answer) (file : ℕ) (text : List ℕ) (tokens : List Placed) → lexis.lexes text tokens → IfErr r (grammar.IsRightly file (length text) tokens) → IfErr r (IsRightly file text)
all_of_grammar (Ok x) file text tokens lexed h = tt
all_of_grammar (Err e) file text tokens lexed h = of_grammar file text tokens e lexed h

-- what spells a file is read
pub read-file : {T : Type 0} (r : Result T Answer) (P : T → Type 0) (text : List ℕ) (tokens : List Placed) (tree : Tree) → lexis.lexes text tokens → IsFile text tree
    → (spells tokens tree → height tree ≤ max_height → MatchResult r P (λ e. e ≡ Memory)) → IfErr r (λ e. e ≡ Memory)
read-file (Ok x) P text tokens tree lexed is read = tt
read-file (Err e) P text tokens tree lexed is read = read (subst (λ ts. spells ts tree) (one_list is.lexed lexed) is.spelled) is.low

-- a refusal of a text, by what its reader says of it
pub rule-refusal : (ports : List PortText) (told : Told) (misses_old misses_new : ℕ) (text : List ℕ) (refusal : Refusal) → IsText told text → IsRightly 1 text (Denied refusal) → IsUnprinted ports told misses_old misses_new refusal
rule-refusal ports told misses_old misses_new text refusal is_text h =
    subst (λ file. IsUnprinted ports told misses_old misses_new (record { rule = refusal.rule; place = record { file = file; offset = refusal.place.offset } })) (sym h.0) (breaks_rules text refusal.rule refusal.place.offset is_text h.1)

-- if no port is opened, the first word is wrong
pub wrong-words : (words : List PortWord) (b : Bool) → b ≡ (length words == 0) → b ≡ false → (◌≡◌ {A = ℕ} 0 0) × IsWrong [] (map port_text words) unknown_port 0
wrong-words [] b e f = absurd (Rattle.std.proofs.lemmas.Bool.false≢true (sym f ∙ e))
wrong-words (w ∷ rest) b e f = (refl, record { before = λ j low. absurd (omega arith); word = port_text w; is_there = refl; breaks = inl (refl, refl) })

too-short : (m n : ℕ) → m < n → n ≤ m → ⊥
too-short m n above below = absurd (omega arith)

-- a file that is told to hold a short text isn't refused
readable : (text : List ℕ) (misses_old misses_new : ℕ) (refusal : Refusal) → length text ≤ max_file_bytes → IsUnread (Holding text) misses_old misses_new refusal → ⊥
readable text misses_old misses_new _ short (lacks risen lacking) = lacking
readable text misses_old misses_new _ short (passes long) = too-short max_file_bytes (length text) long short

-- a file that is told to hold a short text is read, unless memory lacks
pub read-or-memory : {T : Type 0} (told : Told) (ports : List PortText) (tree : Tree) (misses_old misses_new lo ln : ℕ) (status : Status) → HasFile told ports tree → (HasRisen lo ln → ⊥) → IsPreparing status
    → ((refusal : Refusal) → ◌≡◌ {A = Result T Status} (Err status) (Err (Refused refusal)) → IsUnread told misses_old misses_new refusal)
    → ((place : ReadAt) → ◌≡◌ {A = Result T Status} (Err status) (Err (ReadFault place)) → HasRisen lo ln)
    → status ≡ OutOfMemory
read-or-memory told ports tree misses_old misses_new lo ln Quiet has quiet is refused rose = absurd is
read-or-memory told ports tree misses_old misses_new lo ln Done has quiet is refused rose = absurd is
read-or-memory told ports tree misses_old misses_new lo ln (Usage cause) has quiet is refused rose = absurd is
read-or-memory told ports tree misses_old misses_new lo ln (ReadFault place) has quiet is refused rose = absurd (quiet (rose place refl))
read-or-memory told ports tree misses_old misses_new lo ln (WriteFault channel) has quiet is refused rose = absurd is
read-or-memory told ports tree misses_old misses_new lo ln (Refused refusal) has quiet is refused rose =
    absurd (readable has.text misses_old misses_new refusal has.short (subst (λ t. IsUnread t misses_old misses_new refusal) has.told (refused refusal refl)))
read-or-memory told ports tree misses_old misses_new lo ln (Trapped inst action trap) has quiet is refused rose = absurd is
read-or-memory told ports tree misses_old misses_new lo ln (Stalled inst action link) has quiet is refused rose = absurd is
read-or-memory told ports tree misses_old misses_new lo ln (Budget firings) has quiet is refused rose = absurd is
read-or-memory told ports tree misses_old misses_new lo ln OutOfMemory has quiet is refused rose = refl
read-or-memory told ports tree misses_old misses_new lo ln (NotRun number why) has quiet is refused rose = absurd is
read-or-memory told ports tree misses_old misses_new lo ln (Uncertified inst state first second reason) has quiet is refused rose = absurd is

-- out of memory is the answer if it was reported and no count rose
pub memory-reported : (said answer : Status) (text : List ℕ) (old new : Channels) → Reports said text old new answer → (HasRisen old.faults new.faults → ⊥) → said ≡ OutOfMemory → IsDoneOrMemory answer
memory-reported said answer text old new (inl done) quiet e = inr (done.0 ∙ e)
memory-reported said answer text old new (inr failed) quiet e = absurd (quiet failed.1.counted)

by-line : (a : About) (s : Status) (held_old held : List ℕ) → IsPreparing s → held ≡ held_old ++ last_line a s → IsReported a s held_old held
by-line a Quiet held_old held is e = tt
by-line a Done held_old held is e = tt
by-line a (Usage cause) held_old held is e = e
by-line a (ReadFault at) held_old held is e = e
by-line a (WriteFault channel) held_old held is e = λ other. e
by-line a (Refused refusal) held_old held is e = e
by-line a (Trapped inst action trap) held_old held is e = tt
by-line a (Stalled inst action link) held_old held is e = tt
by-line a (Budget firings) held_old held is e = tt
by-line a OutOfMemory held_old held is e = e
by-line a (NotRun number why) held_old held is e = e
by-line a (Uncertified inst state first second reason) held_old held is e = tt

unwritten : (a : About) (answer : Status) (held_old held : List ℕ) → answer ≡ WriteFault 0 → IsReported a answer held_old held
unwritten a answer held_old held e = subst (λ s. IsReported a s held_old held) (sym e) (λ other. absurd (other refl))

-- the last line alone was reported
pub by-last-line : (a : About) (said answer : Status) (old new : Channels) → IsPreparing said → Reports said (last_line a said) old new answer → old.tells ≡ Rattle.std.specs.Prelude.true → IsReported a answer (old.held 0) (new.held 0)
by-last-line a said answer old new is (inl done) told = subst (λ s. IsReported a s (old.held 0) (new.held 0)) (sym done.0) (by-line a said (old.held 0) (new.held 0) is (done.1.whole told))
by-last-line a said answer old new is (inr failed) told = unwritten a answer (old.held 0) (new.held 0) failed.0

-- the text was put
pub by-text : (a : About) (answer : Status) (text : List ℕ) (old new : Channels) → Reports Done text old new answer → IsReported a answer (old.held 0) (new.held 0)
by-text a answer text old new (inl done) = subst (λ s. IsReported a s (old.held 0) (new.held 0)) (sym done.0) tt
by-text a answer text old new (inr failed) = unwritten a answer (old.held 0) (new.held 0) failed.0

caused : (lo ln fo fn : ℕ) (s : Status) → IsPreparing s → ((place : ReadAt) → s ≡ ReadFault place → HasRisen lo ln) → IsPrinting lo ln fo fn s
caused lo ln fo fn Quiet is rose = absurd is
caused lo ln fo fn Done is rose = absurd is
caused lo ln fo fn (Usage cause) is rose = absurd is
caused lo ln fo fn (ReadFault (File file)) is rose = (is, rose (File file) refl)
caused lo ln fo fn (ReadFault (Feed feed)) is rose = absurd is
caused lo ln fo fn (WriteFault channel) is rose = absurd is
caused lo ln fo fn (Refused refusal) is rose = tt
caused lo ln fo fn (Trapped inst action trap) is rose = absurd is
caused lo ln fo fn (Stalled inst action link) is rose = absurd is
caused lo ln fo fn (Budget firings) is rose = absurd is
caused lo ln fo fn OutOfMemory is rose = tt
caused lo ln fo fn (NotRun number why) is rose = absurd is
caused lo ln fo fn (Uncertified inst state first second reason) is rose = absurd is

pub faults-reported : (lo ln : ℕ) (said answer : Status) (text : List ℕ) (old new : Channels) → IsPreparing said → ((place : ReadAt) → said ≡ ReadFault place → HasRisen lo ln) → Reports said text old new answer → IsPrinting lo ln old.faults new.faults answer
faults-reported lo ln said answer text old new is rose (inl done) = subst (IsPrinting lo ln old.faults new.faults) (sym done.0) (caused lo ln old.faults new.faults said is rose)
faults-reported lo ln said answer text old new is rose (inr failed) = subst (IsPrinting lo ln old.faults new.faults) (sym failed.0) (refl, failed.1.counted)

-- ---- a text that couldn't be put whole

pub cut-text : (met : LibraryMet) (j : JobText) (text : List ℕ) (old new : Channels) (answer : Status) → IsCanonical (met.library j.top) j.ports text → Reports Done text old new answer → answer ≡ WriteFault 0 → IsCutShort met j old new
cut-text met j text old new answer is (inl done) faulted = absurd (no (sym done.0 ∙ faulted))
  where
    no : Done ≡ WriteFault 0 → ⊥
    no h = cc
cut-text met j text old new answer is (inr failed) faulted = in_text text is failed.1.front

prints-nothing : {T : Type 0} (met : LibraryMet) (j : JobText) (s : Status) → IsPreparing s
    → ((refusal : Refusal) → ◌≡◌ {A = Result T Status} (Err s) (Err (Refused refusal)) → IsUnprinted j.ports (met.library j.top) met.misses.old met.misses.new refusal)
    → ((place : ReadAt) → ◌≡◌ {A = Result T Status} (Err s) (Err (ReadFault place)) → HasRisen met.faults.old met.faults.new)
    → PrintsNothing met j s
prints-nothing met j Quiet is refused rose = absurd is
prints-nothing met j Done is refused rose = absurd is
prints-nothing met j (Usage cause) is refused rose = absurd is
prints-nothing met j (ReadFault (File file)) is refused rose = (is, rose (File file) refl)
prints-nothing met j (ReadFault (Feed feed)) is refused rose = absurd is
prints-nothing met j (WriteFault channel) is refused rose = absurd is
prints-nothing met j (Refused refusal) is refused rose = refused refusal refl
prints-nothing met j (Trapped inst action trap) is refused rose = absurd is
prints-nothing met j (Stalled inst action link) is refused rose = absurd is
prints-nothing met j (Budget firings) is refused rose = absurd is
prints-nothing met j OutOfMemory is refused rose = tt
prints-nothing met j (NotRun number why) is refused rose = absurd is
prints-nothing met j (Uncertified inst state first second reason) is refused rose = absurd is

-- .. by a file of this name and words that say these ports
pub cut-report : {T : Type 0} (met : LibraryMet) (j : JobText) (name : List ℕ) (ports : List PortText) (said answer : Status) (old new : Channels) → name ≡ j.top → ports ≡ j.ports → IsPreparing said
    → ((refusal : Refusal) → ◌≡◌ {A = Result T Status} (Err said) (Err (Refused refusal)) → IsUnprinted ports (met.library name) met.misses.old met.misses.new refusal)
    → ((place : ReadAt) → ◌≡◌ {A = Result T Status} (Err said) (Err (ReadFault place)) → HasRisen met.faults.old met.faults.new)
    → Reports said (last_line (about_file j.top) said) old new answer → answer ≡ WriteFault 0 → IsCutShort met j old new
cut-report met j name ports said answer old new named worded is refused rose (inl done) faulted = absurd (subst IsPreparing (sym done.0 ∙ faulted) is)
cut-report met j name ports said answer old new named worded is refused rose (inr failed) faulted =
    in_report said
    (prints-nothing met j said is
    (λ refusal answered.
    subst (λ ps. IsUnprinted ps (met.library j.top) met.misses.old met.misses.new refusal) worded
    (subst (λ n. IsUnprinted ports (met.library n) met.misses.old met.misses.new refusal) named (refused refusal answered)))
    rose)
    failed.1.front

-- an answer is this refusal, so what is said of it holds
pub denied : {T : Type 0} (P : Refusal → Type 0) (s : Status) (stated refusal : Refusal) → s ≡ Refused stated → ◌≡◌ {A = Result T Status} (Err s) (Err (Refused refusal)) → P stated → P refusal
denied P s stated refusal is_stated answered holds = let e : stated ≡ refusal = cc in subst P e holds

-- a file that was found is longer than the limit
pub found-too_long : (told : Told) (source : List ℕ) → IsTold told source → max_file_bytes < length source → IsTooLong told
found-too_long Untold source is_told long = tt
found-too_long Lacking source is_told long = absurd is_told
found-too_long (Holding told) source is_told long = subst (λ s. max_file_bytes < length s) is_told long

-- a text that spells a file is printed, if no words name ports
pub printed-if : {T : Type 0} (told : Told) (text : List ℕ) (ports : List PortText) (tree : Tree) (r : Result T Status) → HasFile told ports tree → IsText told text
    → ((t : Tree) → IsFile text t → ports ≡ [] → IfErr r (λ s. s ≡ OutOfMemory)) → IfErr r (λ s. s ≡ OutOfMemory)
printed-if told text ports tree r has is_text complete =
    complete tree (subst (λ s. IsFile s tree) (same told has.text text has.told is_text.is_told) has.is_file) has.no_ports
  where
    same : (t : Told) (a b : List ℕ) → t ≡ Holding a → IsTold t b → a ≡ b
    same t a b e is_told = sym (subst (λ x. IsTold x b) e is_told)

-- what is out of memory alone isn't refused
pub never-refused : {T : Type 0} {P : Type 0} (r : Result T Answer) (e : Answer) (refusal : Refusal) → r ≡ Err e → e ≡ Denied refusal → IfErr r (λ x. x ≡ Memory) → P
never-refused r e refusal is is_denied only = absurd (no (sym is_denied ∙ subst (λ x. IfErr x (λ y. y ≡ Memory)) is only))
  where
    no : Denied refusal ≡ Memory → ⊥
    no h = cc
