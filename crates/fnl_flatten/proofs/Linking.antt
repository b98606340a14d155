-- Links to reading ends, one after the other.
use Rattle.std.proofs.Common.{◌≡◌, inl, inr, ℕ, zero, suc, ◌+◌, ◌-◌, ◌<◌, ◌≤◌, true, false, List, [], ◌∷◌, ◌++◌, length, drop, refl, sym, ap, subst, ◌∙◌, add-one, arith}
use Rattle.std.proofs.Math.Seq.{drop-cons}
use Rattle.std.proofs.lemmas.List.{append_assoc, append-nil}
use Rattle.std.proofs.lemmas.Option.{slice_get_within, get_or_from_slice_get}
use Rattle.std.specs.Prelude.{None, Some, is_some, slice_get, Contains}
use Rattle.net_model.specs.Limits.{max_instances}
use Rattle.net_model.specs.Wired.{IsBefore}
use Rattle.net_model.specs.declared.wiring.End.{End}
use Rattle.net_model.specs.declared.wiring.Link.{Link}
use Rattle.fnl_tree.specs.Sound.{IsSound}
use Rattle.fnl_tree.specs.Tree.{Tree}
use Rattle.fnl_flatten.specs.declared.writers.Writer.{Writer}
use Rattle.fnl_flatten.specs.Head.{Head}
use Rattle.fnl_flatten.specs.Joints.{Joint, LeafPort, OwnPort, kind_of}
use Rattle.fnl_flatten.specs.Links.{Chain, IsLink, reading_end, writing_end}
use Rattle.fnl_flatten.specs.Origins.{IsOrigin, HasNoOrigin}
use Rattle.fnl_flatten.specs.Readers.{inputs_from, outputs_from, leaf_readers, HasNoLink, HasNoEnd, IsLinkFrom, IsLinkTo, IsAdded, LinksOf, done, none, one}
use Rattle.fnl_flatten.specs.Rules.{violations}
use Rattle.fnl_flatten.specs.Whole.{IsWhole}
use Rattle.fnl_flatten.proofs.Walks.{one_link, reads_one}

-- ---- the link to a joint

pub without_origin : (tree : Tree) (heads : List Head) (joint : Joint) → HasNoOrigin tree heads joint → HasNoLink tree heads joint
without_origin tree heads joint never link is to =
    let same : is.reader ≡ joint = reads_one is.reader joint link.to is.to to in
    never is.writer link.from is.size is.from (subst (λ j. Chain tree heads is.writer j is.size) same is.chain)

pub without_end : (tree : Tree) (heads : List Head) (joint : Joint) (w : Writer) → IsOrigin tree heads joint w → HasNoEnd tree heads joint w
    → HasNoLink tree heads joint
without_end tree heads joint w origin (inl lacks) link is to =
    let never : is_some (writing_end w.joint) ≡ false = ap is_some lacks in
    let has : is_some (writing_end w.joint) ≡ true = origin.writes in cc
without_end tree heads joint w origin (inr (inl lacks)) link is to =
    let both : None ≡ Some link.to = sym lacks ∙ to in cc
without_end tree heads joint w origin (inr (inr lacks)) link is to =
    let same : is.reader ≡ joint = reads_one is.reader joint link.to is.to to in
    let both : None ≡ Some link.kind = sym lacks ∙ ap (kind_of tree heads) (sym same) ∙ is.kind in cc

pub made_link : (tree : Tree) (heads : List Head) (joint : Joint) (w : Writer) (link : Link) → IsOrigin tree heads joint w
    → IsLinkFrom tree heads joint w link → IsLinkTo tree heads joint link
made_link tree heads joint w link origin is = record {
  is_link = record {
    writer = w.joint;
    reader = joint;
    size = w.size;
    chain = origin.chain;
    from = is.from;
    to = is.to;
    capacity = is.capacity;
    kind = is.kind;
  };
  to = is.to;
}

-- ---- links one after the other

abbrev pub AddedUpTo : Tree → List Head → List Joint → List Joint → List Link → Type 0
AddedUpTo tree heads rest joints links = (after : List Link) → LinksOf tree heads rest after → LinksOf tree heads joints (links ++ after)

pub added_none : (tree : Tree) (heads : List Head) (joints : List Joint) (links : List Link) → links ≡ [] → AddedUpTo tree heads joints joints links
added_none tree heads joints links empty after they = subst (λ ls. LinksOf tree heads joints (ls ++ after)) (sym empty) they

pub added_more : (tree : Tree) (heads : List Head) (joint : Joint) (rest joints : List Joint) (before links : List Link)
    → IsAdded tree heads joint before links → AddedUpTo tree heads (joint ∷ rest) joints before → AddedUpTo tree heads rest joints links
added_more tree heads joint rest joints before links (inl lacks) so_far after they =
    subst (λ ls. LinksOf tree heads joints (ls ++ after)) (sym lacks.1) (so_far after (none lacks.0 they))
added_more tree heads joint rest joints before links (inr found) so_far after they =
    let whole : links ++ after ≡ before ++ (found.0 ∷ after) = ap (λ ls. ls ++ after) found.2 ∙ append_assoc before (found.0 ∷ []) after in
    subst (λ ls. LinksOf tree heads joints ls) (sym whole) (so_far (found.0 ∷ after) (one found.1 they))

pub added_all : (tree : Tree) (heads : List Head) (joints : List Joint) (links : List Link) → AddedUpTo tree heads [] joints links
    → LinksOf tree heads joints links
added_all tree heads joints links so_far = subst (λ ls. LinksOf tree heads joints ls) (append-nil links) (so_far [] done)

-- ---- readers

pub more_inputs : (leaf port left : ℕ) (before after : List Joint) → 0 < left → after ≡ before ++ LeafPort leaf true port ∷ []
    → after ++ inputs_from leaf (port + 1) (left - 1) ≡ before ++ inputs_from leaf port left
more_inputs leaf port zero before after above is = absurd (omega (arith, above))
more_inputs leaf port (suc left) before after above is =
    let next : port + 1 ≡ suc port = omega arith in
    let less : suc left - 1 ≡ left = omega arith in
    ap (λ js. js ++ inputs_from leaf (port + 1) (suc left - 1)) is
    ∙ append_assoc before (LeafPort leaf true port ∷ []) (inputs_from leaf (port + 1) (suc left - 1))
    ∙ ap (λ p. before ++ LeafPort leaf true port ∷ inputs_from leaf p (suc left - 1)) next
    ∙ ap (λ n. before ++ LeafPort leaf true port ∷ inputs_from leaf (suc port) n) less

pub no_inputs : (leaf port left : ℕ) (before : List Joint) → left ≤ 0 → before ++ inputs_from leaf port left ≡ before
no_inputs leaf port zero before few = append-nil before
no_inputs leaf port (suc left) before few = absurd (omega (arith, few))

pub more_outputs : (port left : ℕ) (before after : List Joint) → 0 < left → after ≡ before ++ OwnPort 0 false port ∷ []
    → after ++ outputs_from (port + 1) (left - 1) ≡ before ++ outputs_from port left
more_outputs port zero before after above is = absurd (omega (arith, above))
more_outputs port (suc left) before after above is =
    let next : port + 1 ≡ suc port = omega arith in
    let less : suc left - 1 ≡ left = omega arith in
    ap (λ js. js ++ outputs_from (port + 1) (suc left - 1)) is
    ∙ append_assoc before (OwnPort 0 false port ∷ []) (outputs_from (port + 1) (suc left - 1))
    ∙ ap (λ p. before ++ OwnPort 0 false port ∷ outputs_from p (suc left - 1)) next
    ∙ ap (λ n. before ++ OwnPort 0 false port ∷ outputs_from (suc port) n) less

pub no_outputs : (port left : ℕ) (before : List Joint) → left ≤ 0 → before ++ outputs_from port left ≡ before
no_outputs port zero before few = append-nil before
no_outputs port (suc left) before few = absurd (omega (arith, few))

opened : (heads : List Head) (l : ℕ) (head : Head) → slice_get heads l ≡ Some head → drop l heads ≡ head ∷ drop (suc l) heads
opened heads l head at =
    let within : l < length heads = slice_get_within heads l head at in
    drop-cons heads l head within ∙ ap (λ x. x ∷ drop (suc l) heads) (get_or_from_slice_get heads l head head at)

gone : (heads : List Head) (l : ℕ) → slice_get heads l ≡ None → drop l heads ≡ []
gone [] zero at = refl
gone [] (suc l) at = refl
gone (head ∷ heads) zero at = cc
gone (head ∷ heads) (suc l) at = gone heads l at

pub more_leaves : (heads : List Head) (l : ℕ) (head : Head) (before after : List Joint) → slice_get heads l ≡ Some head
    → after ≡ before ++ inputs_from l 0 (length head.ins)
    → after ++ leaf_readers (l + 1) (drop (l + 1) heads) ≡ before ++ leaf_readers l (drop l heads)
more_leaves heads l head before after at is =
    ap (λ n. after ++ leaf_readers n (drop n heads)) (add-one l)
    ∙ ap (λ js. js ++ leaf_readers (suc l) (drop (suc l) heads)) is
    ∙ append_assoc before (inputs_from l 0 (length head.ins)) (leaf_readers (suc l) (drop (suc l) heads))
    ∙ sym (ap (λ hs. before ++ leaf_readers l hs) (opened heads l head at))

pub no_leaves : (heads : List Head) (l : ℕ) (before : List Joint) → slice_get heads l ≡ None
    → before ++ leaf_readers l (drop l heads) ≡ before
no_leaves heads l before at = ap (λ hs. before ++ leaf_readers l hs) (gone heads l at) ∙ append-nil before

pub leaf_below : (tree : Tree) (heads : List Head) → IsWhole tree heads → (l : ℕ) (head : Head) → slice_get heads l ≡ Some head
    → (l < length heads) × (l ≤ max_instances)
leaf_below tree heads whole l head at =
    let within : l < length heads = slice_get_within heads l head at in
    (within, omega (arith, within, whole.one_a_leaf, (whole.sound).few))

-- ---- the links are those of the tree

-- one of these joints
abbrev pub IsIn : List Joint → Joint → Type 0
IsIn joints j = (k : ℕ) × (slice_get joints k ≡ Some j)

pub in_left : (xs ys : List Joint) (j : Joint) → IsIn xs j → IsIn (xs ++ ys) j
in_left [] ys j (k, at) = cc
in_left (x ∷ xs) ys j (zero, at) = (0, at)
in_left (x ∷ xs) ys j (suc k, at) = let later = in_left xs ys j (k, at) in (suc later.0, later.1)

pub in_right : (xs ys : List Joint) (j : Joint) → IsIn ys j → IsIn (xs ++ ys) j
in_right [] ys j at = at
in_right (x ∷ xs) ys j at = let later = in_right xs ys j at in (suc later.0, later.1)

pub each_link : (tree : Tree) (heads : List Head) {joints : List Joint} {links : List Link} → LinksOf tree heads joints links
    → (l : ℕ) (link : Link) → slice_get links l ≡ Some link → IsLink tree heads link
each_link tree heads done l link at = cc
each_link tree heads (none lacks they) l link at = each_link tree heads they l link at
each_link tree heads (one {link = x} is they) zero link at =
    let same : x ≡ link = cc in subst (IsLink tree heads) same is.is_link
each_link tree heads (one is they) (suc l) link at = each_link tree heads they l link at

contains_next : (x link : Link) (links : List Link) → Contains links link → Contains (x ∷ links) link
contains_next x link links has = (suc has.0, omega (arith, has.1), has.2)

pub all_links : (tree : Tree) (heads : List Head) → IsSound tree → violations tree heads ≡ []
    → {joints : List Joint} {links : List Link} → LinksOf tree heads joints links
    → (link : Link) → IsLink tree heads link → (j : Joint) → IsIn joints j → reading_end j ≡ Some link.to → Contains links link
all_links tree heads sound fine done link is j (k, at) to = cc
all_links tree heads sound fine (none {joint = i} lacks they) link is j (zero, at) to =
    let same : i ≡ j = cc in absurd (lacks link is (ap reading_end same ∙ to))
all_links tree heads sound fine (none lacks they) link is j (suc k, at) to = all_links tree heads sound fine they link is j (k, at) to
all_links tree heads sound fine (one {joint = i} {link = x} {links = links} found they) link is j (zero, at) to =
    let same : i ≡ j = cc in
    let both : Some x.to ≡ Some link.to = sym found.to ∙ ap reading_end same ∙ to in
    let ends : x.to ≡ link.to = cc in
    (0, omega arith, one_link tree heads sound fine x link found.is_link is ends)
all_links tree heads sound fine (one {link = x} {links = links} found they) link is j (suc k, at) to =
    contains_next x link links (all_links tree heads sound fine they link is j (k, at) to)

-- each link leads to one of the joints
from_joint : (tree : Tree) (heads : List Head) {joints : List Joint} {links : List Link} → LinksOf tree heads joints links
    → (l : ℕ) (link : Link) → slice_get links l ≡ Some link → (j : Joint) × IsIn joints j × (reading_end j ≡ Some link.to)
from_joint tree heads done l link at = cc
from_joint tree heads (none lacks they) l link at =
    let it = from_joint tree heads they l link at in (it.0, (suc it.1.0, it.1.1), it.2)
from_joint tree heads (one {joint = i} {link = x} found they) zero link at =
    let same : x ≡ link = cc in (i, (0, refl), found.to ∙ ap (λ y. Some y.to) same)
from_joint tree heads (one found they) (suc l) link at =
    let it = from_joint tree heads they l link at in (it.0, (suc it.1.0, it.1.1), it.2)

-- each is before those behind it
abbrev pub LeadsBefore : Joint → Joint → Type 0
LeadsBefore j k = (d e : End) → reading_end j ≡ Some d → reading_end k ≡ Some e → IsBefore d e

abbrev pub AreInOrder : List Joint → Type 0
AreInOrder [] = Unit {0}
AreInOrder (j ∷ joints) = ((k : Joint) → IsIn joints k → LeadsBefore j k) × AreInOrder joints

pub in_order : (tree : Tree) (heads : List Head) {joints : List Joint} {links : List Link} → LinksOf tree heads joints links → AreInOrder joints
    → (l m : ℕ) (link other : Link) → l < m → slice_get links l ≡ Some link → slice_get links m ≡ Some other → IsBefore link.to other.to
in_order tree heads done sorted l m link other less at there = cc
in_order tree heads (none lacks they) sorted l m link other less at there = in_order tree heads they sorted.1 l m link other less at there
in_order tree heads (one found they) sorted l zero link other less at there = absurd (omega (arith, less))
in_order tree heads (one {joint = i} {link = x} found they) sorted zero (suc m) link other less at there =
    let same : x ≡ link = cc in
    let it = from_joint tree heads they m other there in
    sorted.0 it.0 it.1 link.to other.to (found.to ∙ ap (λ y. Some y.to) same) it.2
in_order tree heads (one found they) sorted (suc l) (suc m) link other less at there =
    in_order tree heads they sorted.1 l m link other (omega (arith, less)) at there
