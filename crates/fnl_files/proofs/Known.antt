-- Which file of a class is wanted, from what is told of its names and what was found.
use Rattle.std.proofs.Common.{◌≡◌, ℕ, Bool, true, false, ◌&&◌, ◌||◌, List, [], ◌∷◌, ◌++◌, refl, sym, ap, subst, ◌∙◌}
use Rattle.std.specs.Prelude.{is_some, not}
use Rattle.std.specs.Str.{bytes_eq}
use Rattle.rvc_io.specs.Library.{IsTooLong}
use Rattle.rvc_io.specs.Told.{Told, Untold, Lacking, Holding, IsTold, IsLacking}
use Rattle.cal_scope.specs.Names.{is_among, with_name}
use Rattle.cal_files.specs.Loading.{Counts, Library}
use Rattle.fnl_bind.specs.Library.{network_of}
use Rattle.fnl_source.proofs.Choices.{by_told, choice_by}
use Rattle.fnl_source.specs.Files.{AreReadBehind, Asked, Choice, Content, IsNextRead, Read, Says, says_network, says_source, Wanted, is_network, is_read, is_same_kind, name_of, network_file, wanted}
use Rattle.fnl_files.specs.Loading.{NoneAsks}
use Rattle.fnl_files.specs.Requests.{AreAllRead, Request}
use Rattle.fnl_files.specs.SoFar.{Agrees, IsThere, Means, State, means_actor, means_known, means_missed, means_network, means_other, means_there}
use Rattle.fnl_files.proofs.Lists.{read_stays, same_class}
use Rattle.fnl_files.proofs.Missed.{among_more, among_only, among_with}

-- ---- files that are there

pub told_there : (told : Told) (text : List ℕ) → IsTold told text → IsThere told
told_there Untold text h = tt
told_there Lacking text h = h
told_there (Holding bytes) text h = tt

pub long_there : (told : Told) → IsTooLong told → IsThere told
long_there Untold h = tt
long_there Lacking h = h
long_there (Holding bytes) h = tt

abbrev pub of_kind : (class : List ℕ) → Bool → Wanted
of_kind class b = record { class = class; network = b }

-- a text that is read as a network was asked for as one
pub says_kind : (text : List ℕ) (kind : Bool) (content : Content) → Says text kind content → is_network content ≡ kind
says_kind text _ _ (says_network h) = refl
says_kind text _ _ (says_source h) = refl

next_there : (library : Library) (choice : Choice) (top : Asked) (before : List Read) (r : Read) → IsNextRead library choice top before r
    → is_network r.content ≡ true → IsThere (library (network_file r.class))
next_there library choice top before r x k =
    let kind : x.want.network ≡ true = sym (says_kind r.text x.want.network r.content x.says) ∙ k in
    let same : x.want ≡ of_kind r.class true = λ i. record { class = sym x.same_class i; network = kind i } in
    told_there (library (network_file r.class)) r.text (subst (λ w. IsTold (library (name_of w)) r.text) same x.is_text.is_told)

-- a network that was read is there
pub network_there : (library : Library) (choice : Choice) (top : Asked) (before rs : List Read) (class : List ℕ) → AreReadBehind library choice top before rs
    → is_read (of_kind class true) rs ≡ true → IsThere (library (network_file class))
network_there library choice top before [] class h k = cc
network_there library choice top before (r ∷ rs) class h k =
    go (bytes_eq class r.class) (is_network r.content) refl refl k (network_there library choice top (before ++ r ∷ []) rs class h.1)
  where
    go : (a b : Bool) → bytes_eq class r.class ≡ a → is_network r.content ≡ b
        → ((a && is_same_kind true b) || is_read (of_kind class true) rs) ≡ true
        → (is_read (of_kind class true) rs ≡ true → IsThere (library (network_file class))) → IsThere (library (network_file class))
    go true true e f l rest = subst (λ c. IsThere (library (network_file c))) (sym (same_class class r.class e)) (next_there library choice top before r h.0 f)
    go true false e f l rest = rest l
    go false b e f l rest = rest l

-- ---- choices that are as what was found

-- each class is a network of which none was missed
abbrev pub as_found : List (List ℕ) → Choice
as_found missed class = not (is_among class missed)

pub found_agrees : (missed : List (List ℕ)) (reads : List Read) → Agrees (as_found missed) missed reads
found_agrees missed reads = record { lacks = λ class h. ap not h; known = λ class h k. ap not h }

pub found_missed : (missed : List (List ℕ)) (class : List ℕ) → as_found missed class ≡ false → is_among class missed ≡ true
found_missed missed class h = go (is_among class missed) h
  where
    go : (b : Bool) → not b ≡ false → b ≡ true
    go true k = refl
    go false k = cc

-- .. but where more is told
abbrev pub chosen : Library → List (List ℕ) → Choice
chosen library missed = choice_by library (as_found missed)

lacks_so : (told : Told) (b : Bool) → b ≡ true → IsLacking told → by_told told (not b) ≡ false
lacks_so Untold b h k = ap not h
lacks_so Lacking b h k = refl
lacks_so (Holding bytes) b h k = absurd k

there_so : (told : Told) (b : Bool) → b ≡ false → IsThere told → by_told told (not b) ≡ true
there_so Untold b h k = ap not h
there_so Lacking b h k = absurd k
there_so (Holding bytes) b h k = refl

-- what was missed is lacking, and networks that were read are there
abbrev pub AreLacking : Library → List (List ℕ) → Type 0
AreLacking library missed = (class : List ℕ) → is_among class missed ≡ true → IsLacking (library (network_file class))

abbrev pub AreThere : Library → List Read → Type 0
AreThere library reads = (class : List ℕ) → is_read (of_kind class true) reads ≡ true → IsThere (library (network_file class))

pub chosen_agrees : (library : Library) (missed : List (List ℕ)) (reads : List Read) → AreLacking library missed → AreThere library reads
    → Agrees (chosen library missed) missed reads
chosen_agrees library missed reads lacking there = record {
  lacks = λ class h. lacks_so (library (network_file class)) (is_among class missed) h (lacking class h);
  known = λ class h k. there_so (library (network_file class)) (is_among class missed) h (there class k);
}

-- it is so of fewer files
pub agrees_fewer : (choice : Choice) (missed : List (List ℕ)) (done later : List Read) → Agrees choice missed (done ++ later) → Agrees choice missed done
agrees_fewer choice missed done later h =
    record { lacks = h.lacks; known = λ class m k. h.known class m (read_stays (of_kind class true) done later k) }

-- ---- what a request tells

-- but for what was missed, nothing changes
pub record Keeps (s known : State) : Type 0 where
  pub networks : known.networks ≡ s.networks
  pub sources : known.sources ≡ s.sources
  pub bytes : known.bytes ≡ s.bytes
  pub waiting : known.waiting ≡ s.waiting

keeps_all : (s : State) → Keeps s s
keeps_all s = record { networks = refl; sources = refl; bytes = refl; waiting = refl }

pub means_keeps : (library : Library) (misses : Counts) (s known : State) (asked : Asked) (w : Wanted) → Means library misses s asked w known → Keeps s known
means_keeps library misses s _ _ _ (means_network class) = keeps_all s
means_keeps library misses s _ _ _ (means_actor class) = keeps_all s
means_keeps library misses s _ _ _ (means_missed class h) = keeps_all s
means_keeps library misses s _ _ _ (means_known class h k) = keeps_all s
means_keeps library misses s _ _ _ (means_there class h k) = keeps_all s
means_keeps library misses s _ _ _ (means_other class h risen k) = record { networks = refl; sources = refl; bytes = refl; waiting = refl }

-- networks of a state are those that were read
abbrev pub AreNetworks : State → List Read → Type 0
AreNetworks s reads = (class : List ℕ) (b : Bool) → is_some (network_of class s.networks) ≡ b → is_read (of_kind class true) reads ≡ b

pub never : {P : Type 0} (b : Bool) → b ≡ true → b ≡ false → P
never true h k = cc
never false h k = cc

-- a choice that is as what is known then is as what was known before
pub agrees_before : (library : Library) (misses : Counts) (choice : Choice) (s known : State) (asked : Asked) (w : Wanted) (done : List Read)
    → Means library misses s asked w known → AreNetworks s done → Agrees choice known.missed done → Agrees choice s.missed done
agrees_before library misses choice s _ _ _ done (means_network class) nets h = h
agrees_before library misses choice s _ _ _ done (means_actor class) nets h = h
agrees_before library misses choice s _ _ _ done (means_missed class m) nets h = h
agrees_before library misses choice s _ _ _ done (means_known class m k) nets h = h
agrees_before library misses choice s _ _ _ done (means_there class m k) nets h = h
agrees_before library misses choice s _ _ _ done (means_other class none risen k) nets h = record {
  lacks = λ c m. h.lacks c (among_more c class s.missed m);
  known = λ c m read. go c m read (is_among c (with_name class s.missed)) refl;
}
  where
    go : (c : List ℕ) → is_among c s.missed ≡ false → is_read (of_kind c true) done ≡ true → (b : Bool) → is_among c (with_name class s.missed) ≡ b → choice c ≡ true
    go c m read true e =
        let same : c ≡ class = among_only c class s.missed e m in
        never (is_read (of_kind c true) done) read (subst (λ x. is_read (of_kind x true) done ≡ false) (sym same) (nets class false none))
    go c m read false e = h.known c e read

-- what was missed is lacking then, too
pub lacking_known : (library : Library) (misses : Counts) (s known : State) (asked : Asked) (w : Wanted) → Means library misses s asked w known
    → AreLacking library s.missed → AreLacking library known.missed
lacking_known library misses s _ _ _ (means_network class) lacking = lacking
lacking_known library misses s _ _ _ (means_actor class) lacking = lacking
lacking_known library misses s _ _ _ (means_missed class m) lacking = lacking
lacking_known library misses s _ _ _ (means_known class m k) lacking = lacking
lacking_known library misses s _ _ _ (means_there class m k) lacking = lacking
lacking_known library misses s _ _ _ (means_other class none risen k) lacking = λ c h. go c h (is_among c s.missed) refl
  where
    go : (c : List ℕ) → is_among c (with_name class s.missed) ≡ true → (b : Bool) → is_among c s.missed ≡ b → IsLacking (library (network_file c))
    go c h true m = lacking c m
    go c h false m = subst (λ x. IsLacking (library (network_file x))) (sym (among_only c class s.missed h m)) k

-- ---- what is wanted

-- once its file is read
pub wanted_read : (library : Library) (misses : Counts) (choice : Choice) (s known : State) (asked : Asked) (w : Wanted) (missed : List (List ℕ)) (reads : List Read)
    → Means library misses s asked w known → missed ≡ known.missed → is_read w reads ≡ true → Agrees choice missed reads → w ≡ wanted choice asked
wanted_read library misses choice s _ _ _ missed reads (means_network class) same read h = refl
wanted_read library misses choice s _ _ _ missed reads (means_actor class) same read h = refl
wanted_read library misses choice s _ _ _ missed reads (means_missed class m) same read h =
    ap (of_kind class) (sym (h.lacks class (ap (is_among class) same ∙ m)))
wanted_read library misses choice s _ _ _ missed reads (means_known class m k) same read h =
    ap (of_kind class) (sym (h.known class (ap (is_among class) same ∙ m) read))
wanted_read library misses choice s _ _ _ missed reads (means_there class m k) same read h =
    ap (of_kind class) (sym (h.known class (ap (is_among class) same ∙ m) read))
wanted_read library misses choice s _ _ _ missed reads (means_other class none risen k) same read h =
    ap (of_kind class) (sym (h.lacks class (ap (is_among class) same ∙ among_with class s.missed)))

-- .. and before
pub wanted_chosen : (library : Library) (misses : Counts) (s known : State) (asked : Asked) (w : Wanted) (reads : List Read) → Means library misses s asked w known
    → AreNetworks s reads → AreLacking library s.missed → AreThere library reads → w ≡ wanted (chosen library known.missed) asked
wanted_chosen library misses s _ _ _ reads (means_network class) nets lacking there = refl
wanted_chosen library misses s _ _ _ reads (means_actor class) nets lacking there = refl
wanted_chosen library misses s _ _ _ reads (means_missed class m) nets lacking there =
    ap (of_kind class) (sym (lacks_so (library (network_file class)) (is_among class s.missed) m (lacking class m)))
wanted_chosen library misses s _ _ _ reads (means_known class m k) nets lacking there =
    ap (of_kind class) (sym (there_so (library (network_file class)) (is_among class s.missed) m (there class (nets class true k))))
wanted_chosen library misses s _ _ _ reads (means_there class m k) nets lacking there =
    ap (of_kind class) (sym (there_so (library (network_file class)) (is_among class s.missed) m k))
wanted_chosen library misses s _ _ _ reads (means_other class none risen k) nets lacking there =
    ap (of_kind class) (sym (lacks_so (library (network_file class)) (is_among class (with_name class s.missed)) (among_with class s.missed) k))

-- ---- what was asked for

-- where no network of a class is read that would be taken as one, none of the requests whose files are read asks for it
pub none_asks : (choice : Choice) (reads : List Read) (class : List ℕ) (passed : List Request) → choice class ≡ true → is_read (of_kind class true) reads ≡ false
    → AreAllRead choice reads passed → NoneAsks class passed
none_asks choice reads class [] net unread all = tt
none_asks choice reads class (q ∷ passed) net unread all = (
  (λ same. never (is_read (of_kind class true) reads)
      (subst (λ b. is_read (of_kind class b) reads ≡ true) net (subst (λ asked. is_read (wanted choice asked) reads ≡ true) same all.0)) unread),
  none_asks choice reads class passed net unread all.1,
)
