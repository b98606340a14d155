-- The first lines of a trace: read, or other ones.
use Rattle.std.proofs.Common.{◌≡◌, ◌≢◌, ℕ, zero, suc, ◌+◌, ◌<◌, ◌≤◌, Bool, true, false, List, [], ◌∷◌, ◌++◌, length, map, drop, refl, sym, ap, subst, ◌∙◌, arith, append_assoc}
use Rattle.std.specs.Prelude.{Option, Some, Result, Ok, Err, OnOk, IfErr, slice_get, slice_index_or, codes}
use Rattle.trace_text.specs.declared.line.Line.{Line}
use Rattle.trace_text.specs.declared.line.Line.TheVariants.{Inst}
use Rattle.trace_text.specs.Text.{line_text, line_feed}
use Rattle.net_model.specs.Network.{Leaf}
use Rattle.trace_replay.specs.Judging.{Trial, Reached, AtFirst, AtInstance, AtEvents, IsOver, IsNotRun, due, first_line, instance_text, is_of_table}
use Rattle.trace_replay.specs.Head.{name_of}
use Rattle.trace_replay.specs.Reading.{HasReached, IsRead, IsStopBy, OnReadFault, Stops, IsJudged}
use Rattle.trace_replay.specs.Scanning.{IsWithin, Scans, Tells}
use Rattle.trace_replay.specs.declared.why.Why.{Why}
use Rattle.trace_replay.specs.declared.why.Why.TheVariants.{Header}
use Rattle.trace_replay.specs.declared.why.ReplayFault.{ReplayFault}
use Rattle.trace_replay.specs.declared.why.ReplayFault.TheVariants.{NotRun, ReadFault, Memory}
use Rattle.trace_replay.specs.declared.scan.Scanned.{Scanned}
use Rattle.trace_replay.specs.declared.scan.Scanned.TheVariants.{Line as Whole, Bad, Cut, TooLong}
use Rattle.trace_replay.proofs.Reached.{reached_more, not_run_line, not_run_version, not_run_bad, not_run_cut, not_run_long}

-- what stopped the reading is judged
stop_judged : {X : Type 0} (t : Trial X) (text expected : List ℕ) (n passed passed_new : ℕ) (reached : Reached X) (before after : Option (List ℕ)) (scanned : Scanned) (why : Why)
    → HasReached t text n passed reached before → (IsOver reached → ⊥)
    → Scans expected passed passed_new before after scanned → IsWithin passed_new scanned → IsStopBy t.grow scanned why
    → IsNotRun t text (n + 1) why
stop_judged t text expected n passed passed_new reached before after (Whole line same) why has not_over s within by =
    subst (IsNotRun t text (n + 1)) (sym by.0) (not_run_version t text expected n passed passed_new reached before after line same has s within not_over by.1)
stop_judged t text expected n passed passed_new reached before after Bad why has not_over s within by =
    subst (IsNotRun t text (n + 1)) (sym by) (not_run_bad t text expected n passed passed_new reached before after has s within not_over)
stop_judged t text expected n passed passed_new reached before after Cut why has not_over s within by =
    subst (IsNotRun t text (n + 1)) (sym by) (not_run_cut t text expected n passed passed_new reached before after has s within not_over)
stop_judged t text expected n passed passed_new reached before after TooLong why has not_over s within by =
    subst (IsNotRun t text (n + 1)) (sym by) (not_run_long t text expected n passed passed_new reached before after has s not_over)

pub stops_judged : {X : Type 0} (t : Trial X) (text expected : List ℕ) (grow n passed : ℕ) (reached : Reached X) (before after : Option (List ℕ)) (fault : ReplayFault)
    → t.grow ≡ grow → HasReached t text n passed reached before → (IsOver reached → ⊥) → Stops expected grow (n + 1) passed before after fault
    → IsJudged t text fault
stops_judged t text expected grow n passed reached before after (NotRun line why) same has not_over stops =
    subst (λ k. IsNotRun t text k why) (sym stops.0)
    (stop_judged t text expected n passed stops.2 reached before after stops.1 why has not_over stops.3 stops.4 (subst (λ g. IsStopBy g stops.1 why) (sym same) stops.5))
stops_judged t text expected grow n passed reached before after (ReadFault feed) same has not_over stops = tt
stops_judged t text expected grow n passed reached before after Memory same has not_over stops = absurd stops

-- the first line
pub first_read : {X : Type 0} (t : Trial X) (text expected : List ℕ) (grow n n_new passed passed_new : ℕ) (before after : Option (List ℕ)) (line first : Line) (same : Bool)
    → first ≡ first_line t → HasReached t text n passed AtFirst before → IsRead expected grow passed passed_new before after line same → n_new ≡ n + 1 → line ≡ first
    → HasReached t text n_new passed_new (due 0 t.net.leaves t.start) after
first_read t text expected grow n n_new passed passed_new before after line first same is_first has read more is =
    subst (λ k. HasReached t text k passed_new (due 0 t.net.leaves t.start) after) (sym more)
    (reached_more t text expected n passed passed_new AtFirst (due 0 t.net.leaves t.start) before after line same has read.scans (is ∙ is_first, refl))

pub first_other : {X : Type 0} (t : Trial X) (text expected : List ℕ) (grow n n_new passed passed_new : ℕ) (before after : Option (List ℕ)) (line first : Line) (same : Bool)
    → t.grow ≡ grow → first ≡ first_line t → HasReached t text n passed AtFirst before → IsRead expected grow passed passed_new before after line same → n_new ≡ n + 1 → line ≢ first
    → IsNotRun t text n_new Header
first_other t text expected grow n n_new passed passed_new before after line first same same_grow is_first has read more differs =
    subst (λ k. IsNotRun t text k Header) (sym more)
    (not_run_line t text expected n passed passed_new AtFirst before after line same Header has read.scans read.within
    (subst (λ g. is_of_table g line ≡ true) (sym same_grow) read.of_table) (refl, λ is. differs (is ∙ sym is_first)))

-- the line of an instance
expected_is : {X : Type 0} (k : ℕ) (leaf : Leaf X) (name : List ℕ) → name_of leaf ≡ name → line_text (Inst k) ++ name ++ line_feed ≡ instance_text k leaf
expected_is k leaf name same =
    ap (λ a. line_text (Inst k) ++ a ++ line_feed) (sym same)
    ∙ ap (λ a. a ++ line_feed)
    (sym (append_assoc (line_text (Inst k)) (leaf.path ++ codes " ") leaf.class) ∙ ap (λ a. a ++ leaf.class) (sym (append_assoc (line_text (Inst k)) leaf.path (codes " "))))

pub instance_read : {X : Type 0} (t : Trial X) (text name : List ℕ) (grow k n n_new passed passed_new : ℕ) (leaf : Leaf X) (leaves : List (Leaf X)) (before after : Option (List ℕ)) (line : Line) (same : Bool)
    → name_of leaf ≡ name → HasReached t text n passed (AtInstance k leaf leaves) before
    → IsRead (line_text (Inst k) ++ name ++ line_feed) grow passed passed_new before after line same → n_new ≡ n + 1 → (line ≡ Inst k) × (same ≡ true)
    → HasReached t text n_new passed_new (due (k + 1) leaves t.start) after
instance_read t text name grow k n n_new passed passed_new leaf leaves before after line same named has read more is =
    let told : Tells true (read.scans.text ≡ line_text (Inst k) ++ name ++ line_feed) =
    subst (λ b. Tells b (read.scans.text ≡ line_text (Inst k) ++ name ++ line_feed)) is.1 read.scans.is_scanned.1 in
    subst (λ j. HasReached t text j passed_new (due (k + 1) leaves t.start) after) (sym more)
    (reached_more t text (line_text (Inst k) ++ name ++ line_feed) n passed passed_new (AtInstance k leaf leaves) (due (k + 1) leaves t.start) before after line same has read.scans
    ((is.0, told ∙ expected_is k leaf name named), refl))

pub instance_other : {X : Type 0} (t : Trial X) (text name : List ℕ) (grow k n n_new passed passed_new : ℕ) (leaf : Leaf X) (leaves : List (Leaf X)) (before after : Option (List ℕ)) (line : Line) (same : Bool)
    → t.grow ≡ grow → name_of leaf ≡ name → HasReached t text n passed (AtInstance k leaf leaves) before
    → IsRead (line_text (Inst k) ++ name ++ line_feed) grow passed passed_new before after line same → n_new ≡ n + 1 → (line ≡ Inst k → same ≡ false)
    → IsNotRun t text n_new Header
instance_other t text name grow k n n_new passed passed_new leaf leaves before after line same same_grow named has read more differs =
    subst (λ j. IsNotRun t text j Header) (sym more)
    (not_run_line t text (line_text (Inst k) ++ name ++ line_feed) n passed passed_new (AtInstance k leaf leaves) before after line same Header has read.scans read.within
    (subst (λ g. is_of_table g line ≡ true) (sym same_grow) read.of_table) (
      refl,
      λ is.
          let told : Tells false (read.scans.text ≡ line_text (Inst k) ++ name ++ line_feed) =
          subst (λ b. Tells b (read.scans.text ≡ line_text (Inst k) ++ name ++ line_feed)) (differs is.0) read.scans.is_scanned.1 in
          told (is.1 ∙ sym (expected_is k leaf name named)),
    ))

-- The lines of all instances.

-- the k-th leaf has the k-th name
pub record Here {X : Type 0} (leaves : List (Leaf X)) (k : ℕ) (name : List ℕ) : Type 0 where
  pub leaf : Leaf X
  pub drop_is : drop k leaves ≡ leaf ∷ drop (k + 1) leaves
  pub named : name_of leaf ≡ name

pub here : {X S : Type 0} (to : S → List ℕ) (leaves : List (Leaf X)) (names : List S) (k : ℕ) (name : S) → map name_of leaves ≡ map to names
    → slice_get names k ≡ Some name → Here leaves k (to name)
here to [] [] k name same at = cc
here to [] (n ∷ names) k name same at = cc
here to (leaf ∷ leaves) [] k name same at = cc
here to (leaf ∷ leaves) (n ∷ names) zero name same at =
    let is : n ≡ name = cc in
    let one : name_of leaf ≡ to n = cc in
    record { leaf = leaf; drop_is = refl; named = one ∙ ap to is }
here to (leaf ∷ leaves) (n ∷ names) (suc k) name same at =
    let rest : map name_of leaves ≡ map to names = cc in
    let more : Here leaves k (to name) = here to leaves names k name rest at in
    let next : k + 1 ≡ suc k = omega arith in
    let behind : suc (suc k) ≡ suc k + 1 = omega arith in
    record {
      leaf = more.leaf;
      drop_is = more.drop_is ∙ ap (λ n. more.leaf ∷ drop n leaves) next ∙ ap (λ n. more.leaf ∷ drop n (leaf ∷ leaves)) behind;
      named = more.named;
    }

pub no_more : {X S : Type 0} (to : S → List ℕ) (leaves : List (Leaf X)) (names : List S) (k : ℕ) → map name_of leaves ≡ map to names → length names ≤ k → drop k leaves ≡ []
no_more to [] [] zero same high = refl
no_more to [] [] (suc k) same high = refl
no_more to [] (n ∷ names) k same high = cc
no_more to (leaf ∷ leaves) [] k same high = cc
no_more to (leaf ∷ leaves) (n ∷ names) zero same high = absurd (omega (arith, high))
no_more to (leaf ∷ leaves) (n ∷ names) (suc k) same high =
    let rest : map name_of leaves ≡ map to names = cc in
    no_more to leaves names k rest (omega (arith, high))

-- the lines of the first k instances were read
abbrev pub IsReadUpTo : (X : Type 0) → List (List ℕ) → ℕ → ℕ → ℕ → ℕ → ℕ → ℕ → Option (List ℕ) → Option (List ℕ) → Type 0
IsReadUpTo X names grow k n n_new passed passed_new before after = (t : Trial X) (text : List ℕ) → t.grow ≡ grow → map name_of t.net.leaves ≡ names
    → HasReached t text n passed (due 0 t.net.leaves t.start) before
    → HasReached t text n_new passed_new (due k (drop k t.net.leaves) t.start) after

pub due_start : (X : Type 0) (names : List (List ℕ)) (grow n passed : ℕ) (before : Option (List ℕ)) → IsReadUpTo X names grow 0 n n passed passed before before
due_start X names grow n passed before = λ t text same named has. has

pub due_here : {X : Type 0} (t : Trial X) (text : List ℕ) (k n passed : ℕ) (coming : Option (List ℕ)) (name : List ℕ) (is : Here t.net.leaves k name)
    → HasReached t text n passed (due k (drop k t.net.leaves) t.start) coming
    → HasReached t text n passed (AtInstance k is.leaf (drop (k + 1) t.net.leaves)) coming
due_here t text k n passed coming name is has = subst (λ leaves. HasReached t text n passed (due k leaves t.start) coming) is.drop_is has

pub due_none : {X S : Type 0} (to : S → List ℕ) (t : Trial X) (text : List ℕ) (names : List S) (k n passed : ℕ) (coming : Option (List ℕ)) → map name_of t.net.leaves ≡ map to names → length names ≤ k
    → HasReached t text n passed (due k (drop k t.net.leaves) t.start) coming
    → HasReached t text n passed (AtEvents t.start t.start) coming
due_none to t text names k n passed coming same high has =
    subst (λ leaves. HasReached t text n passed (due k leaves t.start) coming) (no_more to t.net.leaves names k same high) has

pub at_index : {S : Type 0} (names : List S) (k : ℕ) (name : S) → k < length names → name ≡ slice_index_or names k name → slice_get names k ≡ Some name
at_index [] k name low is = absurd (omega (arith, low))
at_index (n ∷ names) zero name low is = ap Some (sym is)
at_index (n ∷ names) (suc k) name low is = at_index names k name (omega (arith, low)) is

-- a fault after other reading
pub fault_after : {T : Type 0} (result : Result T ReplayFault) (P Q : Type 0) → (P → Q) → OnReadFault result P → OnReadFault result Q
fault_after (Ok value) P Q f h = tt
fault_after (Err (NotRun line why)) P Q f h = tt
fault_after (Err (ReadFault feed)) P Q f h = f h
fault_after (Err Memory) P Q f h = tt

-- An answer after other reading.

pub ok_after : {T : Type 0} (result : Result T ReplayFault) (P Q : Type 0) → (P → Q) → OnOk result P → OnOk result Q
ok_after (Ok value) P Q f h = f h
ok_after (Err fault) P Q f h = tt

pub err_after : {T : Type 0} (result : Result T ReplayFault) (P Q : ReplayFault → Type 0) → ((fault : ReplayFault) → P fault → Q fault) → IfErr result P → IfErr result Q
err_after (Ok value) P Q f h = tt
err_after (Err fault) P Q f h = f fault h
