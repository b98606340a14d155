-- The network of lowered actors and that of the actors for which they stand are alike.
use Rattle.std.proofs.Common.{◌≡◌, ℕ, zero, suc, ◌+◌, ◌≤◌, true, false, List, [], ◌∷◌, ◌++◌, length, map, refl, sym, ap, subst, ◌∙◌, arith}
use Rattle.std.specs.Prelude.{Option, Some, slice_get}
use Rattle.rvc_base.specs.declared.scalar.Scalar.{Scalar}
use Rattle.rvc_base.specs.Storing.{IsSize, conv}
use Rattle.cal_model.specs.Actor.{Actor, Port}
use Rattle.cal_model.specs.Firing.{behaviour}
use Rattle.cal_model.specs.Rates.{need}
use Rattle.cal_model.specs.Selection.{State, kind_of_port}
use Rattle.cal_model.specs.Sound.{Each, IsSound}
use Rattle.cal_model.proofs.Stored.{conv-in-range}
use Rattle.lowered_actor.specs.Actor as coded
use Rattle.lowered_actor.specs.Meaning as lowered
use Rattle.net_model.specs.declared.wiring.End.{End}
use Rattle.net_model.specs.declared.wiring.End.TheVariants.{Leaf as AtLeaf, Net as AtNet}
use Rattle.net_model.specs.declared.wiring.Link.{Link}
use Rattle.net_model.specs.Network.{Leaf, Network}
use Rattle.net_model.specs.Alike.{AreAlike, BehaveAlike, LeavesAlike, StoresAllowed}
use Rattle.net_state.proofs.Gaining.{some_is}
use Rattle.fnl_tree.specs.Tree.{Net, Own, Tree}
use Rattle.fnl_flatten.specs.Flat.{HasHead, IsFlat, port_of}
use Rattle.fnl_flatten.specs.Head.{Head}
use Rattle.fnl_flatten.specs.declared.joint.Joint.{Joint}
use Rattle.fnl_flatten.specs.declared.joint.Joint.TheVariants.{Leaf as LeafPort, Own as OwnPort}
use Rattle.fnl_flatten.specs.Joints.{head_kind, kind_of, leaf_kind, leaf_rate, net_kind, own_kind}
use Rattle.fnl_flatten.specs.Links.{reading_end}
use Rattle.action_lower.specs.Seats.{numbers_of_vars}
use Rattle.lower_tables.specs.Carrying.{MayCome, StandsFor}
use Rattle.lower_actor.specs.Standing.{StandsForActor}
use Rattle.fnl_source.specs.Actors.{head_of, ports_from}
use Rattle.lower_actor.specs.Leaves.{AreLeavesOf, IsLeafOf, StandForActors}
use Rattle.net_cells.specs.Sources.{HaveTypes, IsActorNetwork, OfActor, lowered_leaves, lowered_network, may_come_at, stands_at}

-- ---- actors, their lowered actors and their leaves, one by one

pub data Matched : List Actor → List coded.Actor → List (Leaf State) → Type 0 where
  matched_none : Matched [] [] []
  matched_more : {actor : Actor} {code : coded.Actor} {leaf : Leaf State} {actors : List Actor} {codes : List coded.Actor} {leaves : List (Leaf State)} → StandsForActor actor code → IsLeafOf actor leaf
      → Matched actors codes leaves → Matched (actor ∷ actors) (code ∷ codes) (leaf ∷ leaves)

pub matched : (actors : List Actor) (codes : List coded.Actor) (leaves : List (Leaf State)) → StandForActors actors codes → AreLeavesOf actors leaves → Matched actors codes leaves
matched [] [] [] stand are = matched_none
matched [] [] (leaf ∷ leaves) stand are = absurd are
matched [] (code ∷ codes) leaves stand are = absurd stand
matched (actor ∷ actors) [] leaves stand are = absurd stand
matched (actor ∷ actors) (code ∷ codes) [] stand are = absurd are
matched (actor ∷ actors) (code ∷ codes) (leaf ∷ leaves) stand are = matched_more stand.0 are.0 (matched actors codes leaves stand.1 are.1)

same_paths : {actors : List Actor} {codes : List coded.Actor} {leaves : List (Leaf State)} → Matched actors codes leaves
    → map (λ leaf. leaf.path) (lowered_leaves codes leaves) ≡ map (λ leaf. leaf.path) leaves
same_paths matched_none = refl
same_paths (matched_more {leaf = leaf} stand is rest) = ap (λ ps. leaf.path ∷ ps) (same_paths rest)

same_classes : {actors : List Actor} {codes : List coded.Actor} {leaves : List (Leaf State)} → Matched actors codes leaves
    → map (λ leaf. leaf.class) (lowered_leaves codes leaves) ≡ map (λ leaf. leaf.class) leaves
same_classes matched_none = refl
same_classes (matched_more {leaf = leaf} stand is rest) = ap (λ cs. leaf.class ∷ cs) (same_classes rest)

same_count : {actors : List Actor} {codes : List coded.Actor} {leaves : List (Leaf State)} → Matched actors codes leaves → length (lowered_leaves codes leaves) ≡ length leaves
same_count matched_none = refl
same_count (matched_more stand is rest) = ap suc (same_count rest)

pub same_behaviours : {actors : List Actor} {codes : List coded.Actor} {leaves : List (Leaf State)} → Matched actors codes leaves
    → map (λ leaf. leaf.behaviour) (lowered_leaves codes leaves) ≡ map lowered.behaviour codes
same_behaviours matched_none = refl
same_behaviours (matched_more {code = code} stand is rest) = ap (λ bs. lowered.behaviour code ∷ bs) (same_behaviours rest)

-- ---- heads

has_head : (actor : Actor) (code : coded.Actor) (leaf : Leaf State) (head : Head) → StandsForActor actor code → IsLeafOf actor leaf → HasHead head leaf.behaviour → HasHead head (lowered.behaviour code)
has_head actor code leaf head stand is has =
    let there : HasHead head (behaviour actor is.priorities) = subst (HasHead head) is.behaviour has in
    let alike = stand.alike is.priorities in
    record {
      ins = alike.same_ins ∙ there.ins;
      outs = (stand.tables).outs ∙ there.outs;
      needs = λ a p. subst (λ n. n ≤ leaf_rate true p (Some head)) (sym (alike.same_need a p)) (there.needs a p);
      gives = λ a p. subst (λ n. n ≤ leaf_rate false p (Some head)) (sym (alike.same_give a p)) (there.gives a p);
      few_taken = there.few_taken;
      few_given = there.few_given;
    }

abbrev Heads : {X : Type 0} → List (Leaf X) → List Head → Type 0
Heads {X} leaves heads = (l : ℕ) (leaf : Leaf X) (head : Head) → slice_get leaves l ≡ Some leaf → slice_get heads l ≡ Some head → HasHead head leaf.behaviour

same_heads : {actors : List Actor} {codes : List coded.Actor} {leaves : List (Leaf State)} (heads : List Head) → Matched actors codes leaves → Heads leaves heads → Heads (lowered_leaves codes leaves) heads
same_heads heads matched_none has l leaf head at there = cc
same_heads [] (matched_more stand is rest) has l leaf head at there = cc
same_heads (first ∷ heads) (matched_more {actor = actor} {code = code} {leaf = source} stand is rest) has zero leaf head at there =
    let same : first ≡ head = some_is first head there in
    subst (λ x. HasHead head x.behaviour) (some_is (record { path = source.path; class = source.class; behaviour = lowered.behaviour code }) leaf at)
    (has_head actor code source head stand is (subst (λ h. HasHead h source.behaviour) same (has 0 source first refl refl)))
same_heads (first ∷ heads) (matched_more stand is rest) has (suc l) leaf head at there = same_heads heads rest (λ k. has (suc k)) l leaf head at there

-- the network of lowered actors is flat too
pub lowered_flat : (actors : List Actor) (codes : List coded.Actor) (net : Network State) (tree : Tree) (heads : List Head) → Matched actors codes net.leaves → IsFlat tree heads net
    → IsFlat tree heads (lowered_network codes net)
lowered_flat actors codes net tree heads all flat = record {
  conforms = flat.conforms;
  paths = same_paths all ∙ flat.paths;
  classes = same_classes all ∙ flat.classes;
  count = same_count all ∙ flat.count;
  few = subst (λ n. n ≤ 1024) (sym (same_count all)) flat.few;
  behaviours = same_heads heads all flat.behaviours;
  links = flat.links;
  top = flat.top;
  is_top = flat.is_top;
  ins = flat.ins;
  outs = flat.outs;
}

-- ---- leaves

behave_at : (o : Option Actor) (actor : Actor) (code : coded.Actor) (leaf : Leaf State) → o ≡ Some actor → StandsForActor actor code → IsLeafOf actor leaf
    → BehaveAlike (λ x y. OfActor o (λ a. StandsFor a numbers_of_vars x y)) (λ p v. OfActor o (λ a. MayCome a p v)) (lowered.behaviour code) leaf.behaviour
behave_at o actor code leaf at stand is =
    subst (λ w. BehaveAlike (λ x y. OfActor w (λ a. StandsFor a numbers_of_vars x y)) (λ p v. OfActor w (λ a. MayCome a p v)) (lowered.behaviour code) leaf.behaviour) (sym at)
    (subst (BehaveAlike (StandsFor actor numbers_of_vars) (MayCome actor) (lowered.behaviour code)) (sym is.behaviour) (stand.alike is.priorities))

leaves_alike : (all : List Actor) (from : ℕ) {actors : List Actor} {codes : List coded.Actor} {leaves : List (Leaf State)} → Matched actors codes leaves
    → ((k : ℕ) → slice_get all (from + k) ≡ slice_get actors k) → LeavesAlike (stands_at all) (may_come_at all) from (lowered_leaves codes leaves) leaves
leaves_alike all from matched_none places = tt
leaves_alike all from (matched_more {actor = actor} {code = code} {leaf = leaf} {actors = actors} stand is rest) places =
    let first : from + 0 ≡ from = omega arith in
    let at : slice_get all from ≡ Some actor = subst (λ n. slice_get all n ≡ Some actor) first (places 0) in (
      (refl, refl, behave_at (slice_get all from) actor code leaf at stand is),
      leaves_alike all (suc from) rest (λ k.
          let next : from + suc k ≡ suc from + k = omega arith in
          subst (λ n. slice_get all n ≡ slice_get actors k) next (places (suc k))),
    )

-- ---- the types of tokens

each_front : {A : Type 0} (P : A → Type 0) (xs ys : List A) → Each P (xs ++ ys) → Each P xs
each_front P [] ys all = tt
each_front P (x ∷ xs) ys all = (all.0, each_front P xs ys all.1)

pub each_at : {A : Type 0} (P : A → Type 0) (xs : List A) (k : ℕ) (x : A) → Each P xs → slice_get xs k ≡ Some x → P x
each_at P [] k x h e = absurd cc
each_at P (y ∷ ys) zero x h e = subst P (some_is y x e) h.0
each_at P (y ∷ ys) (suc k) x h e = each_at P ys k x h.1 e

-- a port that is told has the type of the actor's, which is one of tokens
told_kind : (k : ℕ) (rate : ℕ → ℕ → ℕ) (n : ℕ) (ports : List Port) (p : ℕ) (t : Scalar) → Each (λ port. IsSize port.kind) ports → head_kind (slice_get (ports_from k rate n ports) p) ≡ Some t
    → (kind_of_port ports p ≡ t) × IsSize t
told_kind k rate n [] p t sizes is = cc
told_kind k rate n (port ∷ ports) zero t sizes is = let same : port.kind ≡ t = some_is port.kind t is in (same, subst IsSize same sizes.0)
told_kind k rate n (port ∷ ports) (suc p) t sizes is = told_kind (suc k) rate n ports p t sizes.1 is

pub record Reads (actors : List Actor) (l p : ℕ) (t : Scalar) : Type 0 where
  pub actor : Actor
  pub there : slice_get actors l ≡ Some actor
  pub kind : kind_of_port actor.ins p ≡ t
  pub size : IsSize t

reads_later : (actor : Actor) (actors : List Actor) (l p : ℕ) (t : Scalar) → Reads actors l p t → Reads (actor ∷ actors) (suc l) p t
reads_later actor actors l p t reads = record { actor = reads.actor; there = reads.there; kind = reads.kind; size = reads.size }

-- the input of a leaf of which a type is told
reads_at : (actors : List Actor) (l p : ℕ) (t : Scalar) → Each IsSound actors → leaf_kind true p (slice_get (map head_of actors) l) ≡ Some t → Reads actors l p t
reads_at [] l p t sound is = cc
reads_at (actor ∷ actors) zero p t sound is =
    let told = told_kind 0 (need actor) (length actor.actions) actor.ins p t (each_front (λ port. IsSize port.kind) actor.ins actor.outs (sound.0).port_sizes) is in
    record { actor = actor; there = refl; kind = told.0; size = told.1 }
reads_at (actor ∷ actors) (suc l) p t sound is = reads_later actor actors l p t (reads_at actors l p t sound.1 is)

stores_by : (actors : List Actor) (link : Link) (l p : ℕ) → Reads actors l p link.kind → StoresAllowed (may_come_at actors) link (AtLeaf (record { 0 = l }) p)
stores_by actors link l p reads v =
    subst (λ o. OfActor o (λ actor. MayCome actor p (conv link.kind v))) (sym reads.there)
    (subst (λ t. Rattle.rvc_base.specs.Storing.InRange t (conv link.kind v)) (sym reads.kind) (conv-in-range link.kind v reads.size))

stores_at : (tree : Tree) (actors : List Actor) (link : Link) → Each IsSound actors → (reader : Joint) (end : End) → reading_end reader ≡ Some end → kind_of tree (map head_of actors) reader ≡ Some link.kind
    → StoresAllowed (may_come_at actors) link end
stores_at tree actors link sound (LeafPort l true p) end is kind =
    subst (StoresAllowed (may_come_at actors) link) (some_is (AtLeaf (record { 0 = l }) p) end is) (stores_by actors link l p (reads_at actors l p link.kind sound kind))
stores_at tree actors link sound (LeafPort l false p) end is kind = cc
stores_at tree actors link sound (OwnPort zero false p) end is kind = subst (StoresAllowed (may_come_at actors) link) (some_is (AtNet p) end is) tt
stores_at tree actors link sound (OwnPort zero true p) end is kind = cc
stores_at tree actors link sound (OwnPort (suc n) true p) end is kind = cc
stores_at tree actors link sound (OwnPort (suc n) false p) end is kind = cc

pub lowered_alike : (actors : List Actor) (codes : List coded.Actor) (net : Network State) → IsActorNetwork actors net → StandForActors actors codes
    → AreAlike (stands_at actors) (may_come_at actors) (lowered_network codes net) net
lowered_alike actors codes net is stand = record {
  leaves = leaves_alike actors 0 (matched actors codes net.leaves stand is.leaves) (λ k. let e : 0 + k ≡ k = omega arith in ap (slice_get actors) e);
  links = refl;
  ins = refl;
  outs = refl;
  stores = λ l link at.
      let joined = (is.flat).links.each l link at in
      stores_at is.tree actors link is.sound joined.reader link.to joined.to joined.kind;
}

-- ---- sizes

own_size : (ports : List Own) (p : ℕ) (t : Scalar) → HaveTypes (map port_of ports) → own_kind (slice_get ports p) ≡ Some t → IsSize t
own_size [] p t types is = cc
own_size (port ∷ ports) zero t types is = subst IsSize (some_is port.kind t is) (types 0 (port_of port) refl)
own_size (port ∷ ports) (suc p) t types is = own_size ports p t (λ k. types (suc k)) is

reader_size : (tree : Tree) (actors : List Actor) (t : Scalar) (top : Net) → Each IsSound actors → slice_get tree.nets 0 ≡ Some top → HaveTypes (map port_of top.outs)
    → (reader : Joint) (end : End) → reading_end reader ≡ Some end → kind_of tree (map head_of actors) reader ≡ Some t → IsSize t
reader_size tree actors t top sound is_top types (LeafPort l true p) end is kind = (reads_at actors l p t sound kind).size
reader_size tree actors t top sound is_top types (LeafPort l false p) end is kind = cc
reader_size tree actors t top sound is_top types (OwnPort zero false p) end is kind =
    own_size top.outs p t types (subst (λ o. net_kind false p o ≡ Some t) is_top kind)
reader_size tree actors t top sound is_top types (OwnPort zero true p) end is kind = cc
reader_size tree actors t top sound is_top types (OwnPort (suc n) true p) end is kind = cc
reader_size tree actors t top sound is_top types (OwnPort (suc n) false p) end is kind = cc

pub link_sizes : (actors : List Actor) (net : Network State) → IsActorNetwork actors net → (l : ℕ) (link : Link) → slice_get net.links l ≡ Some link → IsSize link.kind
link_sizes actors net is l link at =
    let joined = (is.flat).links.each l link at in
    reader_size is.tree actors link.kind (is.flat).top is.sound (is.flat).is_top (subst HaveTypes (is.flat).outs is.out_types) joined.reader link.to joined.to joined.kind
