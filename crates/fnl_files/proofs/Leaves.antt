-- Each actor of a bound tree has a file among those that serve what is asked for, and its class was looked up as a network.
use Rattle.std.proofs.Common.{◌≡◌, ℕ, zero, suc, ◌+◌, Bool, true, false, inl, inr, List, [], ◌∷◌, ◌++◌, length, map, refl, sym, ap, subst, ◌∙◌}
use Rattle.std.proofs.lemmas.List.Elements.{All-append, All-cons, All-head, All-nil, All-tail}
use Rattle.std.specs.List.{All, AllByRecursion}
use Rattle.std.specs.Prelude.{Option, None, Some, is_some, if◌then◌else◌}
use Rattle.std.specs.Str.{bytes_eq}
use Rattle.rvc_io.specs.Count.{HasRisen}
use Rattle.cal_check.specs.Variables.{Given}
use Rattle.cal_imports.specs.Sources.{source_named}
use Rattle.fnl_read.specs.Net.{Instance}
use Rattle.fnl_tree.specs.Tree.{Leaf}
use Rattle.fnl_bind.specs.Library.{Entry, instance_class, instance_id, instance_parameters, network_of}
use Rattle.fnl_bind.specs.Networks.{Place, leaf_under, names_at, net_under, standing_as}
use Rattle.fnl_bind.specs.Trees.{Grown, bound, filled, filled_by, grown_at, top_place, tree_of}
use Rattle.fnl_bind.specs.Values.{all_given}
use Rattle.fnl_source.specs.Files.{Asked, Content, network, source, Read, asked_by, asked_by_all, asked_by_instance, is_read, networks_from, networks_in, sources_from}
use Rattle.fnl_files.specs.Laws.{LeavesAreTried, LeavesHaveFiles}
use Rattle.fnl_files.specs.Requests.{IsServed, IsTried}
use Rattle.fnl_files.proofs.Known.{of_kind}
use Rattle.fnl_files.proofs.Lists.{same_has}

-- of the class of an instance something holds, if the class has no network
abbrev pub IsCovered : (List ℕ → Type 0) → List Entry → Instance → Type 0
IsCovered P nets i = network_of (instance_class i) nets ≡ None → P (instance_class i)

abbrev pub AreCovered : (List ℕ → Type 0) → List Entry → Entry → Type 0
AreCovered P nets e = All (IsCovered P nets) e.net.instances

-- .. and of the class of a leaf
abbrev pub OfClass : (List ℕ → Type 0) → Leaf → Type 0
OfClass P leaf = P leaf.class

abbrev entry_or : Entry → Option Entry → Entry
entry_or e None = e
entry_or e (Some x) = x

-- a network of the set has covered instances
found_covered : (P : List ℕ → Type 0) (nets : List Entry) (class : List ℕ) (es : List Entry) (e : Entry) → All (AreCovered P nets) es
    → network_of class es ≡ Some e → AreCovered P nets e
found_covered P nets class [] e all h = cc
found_covered P nets class (x ∷ xs) e all h =
    go (bytes_eq x.class class) h (λ k. found_covered P nets class xs e (All-tail (AreCovered P nets) x xs all) k)
  where
    go : (b : Bool) → (if b then Some x else network_of class xs) ≡ Some e → (network_of class xs ≡ Some e → AreCovered P nets e) → AreCovered P nets e
    go true k rest = subst (AreCovered P nets) (ap (entry_or x) k) (All-head (AreCovered P nets) x xs all)
    go false k rest = rest k

-- ---- what a tree holds

filled_leaves : (P : List ℕ → Type 0) (nets : List Entry) (inner : Place → ℕ → ℕ → Grown) (p : Place) (is : List Instance) (net leaf : ℕ)
    → All (AreCovered P nets) nets → All (IsCovered P nets) is
    → ((q : Place) (net leaf : ℕ) → AreCovered P nets q.entry → All (OfClass P) (inner q net leaf).leaves)
    → All (OfClass P) (filled inner nets p is net leaf).grown.leaves
filled_leaves P nets inner p [] net leaf all covered inside = All-nil (OfClass P)
filled_leaves P nets inner p (i ∷ is) net leaf all covered inside =
    go (network_of (instance_class i) nets) (all_given p.entry.file (instance_parameters i) (names_at p)) refl
    (λ n l. filled_leaves P nets inner p is n l all (All-tail (IsCovered P nets) i is covered) inside)
  where
    go : (o : Option Entry) (gs : Option (List Given)) → network_of (instance_class i) nets ≡ o
        → ((n l : ℕ) → All (OfClass P) (filled inner nets p is n l).grown.leaves)
        → All (OfClass P) (filled_by inner (instance_id i) (standing_as p i o gs) (filled inner nets p is) net leaf).grown.leaves
    go (Some e) (Some gs) found rest =
        All-append (OfClass P) (inner (net_under p i e gs) net leaf).leaves _
        (inside (net_under p i e gs) net leaf (found_covered P nets (instance_class i) nets e all found))
        (rest (net + length (inner (net_under p i e gs) net leaf).nets) (leaf + length (inner (net_under p i e gs) net leaf).leaves))
    go None (Some gs) found rest =
        All-cons (OfClass P) (leaf_under p i gs) _ (All-head (IsCovered P nets) i is covered found) (rest (net + 0) (leaf + 1))
    go (Some e) None found rest = rest net leaf
    go None None found rest = rest net leaf

grown_leaves : (P : List ℕ → Type 0) (nets : List Entry) (n : ℕ) (p : Place) (net leaf : ℕ) → All (AreCovered P nets) nets → AreCovered P nets p.entry
    → All (OfClass P) (grown_at n nets p net leaf).leaves
grown_leaves P nets zero p net leaf all covered = All-nil (OfClass P)
grown_leaves P nets (suc n) p net leaf all covered =
    filled_leaves P nets (grown_at n nets) p p.entry.net.instances (suc net) leaf all covered
    (λ q k l c. grown_leaves P nets n q k l all c)

bound_leaves : (P : List ℕ → Type 0) (nets : List Entry) (class : List ℕ) → All (AreCovered P nets) nets → All (OfClass P) (bound nets class).leaves
bound_leaves P nets class all = go (network_of class nets) refl
  where
    go : (o : Option Entry) → network_of class nets ≡ o → All (OfClass P) (tree_of nets o).leaves
    go None found = All-nil (OfClass P)
    go (Some e) found = grown_leaves P nets (length nets) (top_place e) 0 0 all (found_covered P nets class nets e all found)

-- ---- what is asked for

all_first : {A : Type 0} (Q : A → Type 0) (xs ys : List A) → AllByRecursion Q (xs ++ ys) → AllByRecursion Q xs
all_first Q [] ys h = tt
all_first Q (x ∷ xs) ys h = (h.0, all_first Q xs ys h.1)

all_rest : {A : Type 0} (Q : A → Type 0) (xs ys : List A) → AllByRecursion Q (xs ++ ys) → AllByRecursion Q ys
all_rest Q [] ys h = h
all_rest Q (x ∷ xs) ys h = all_rest Q xs ys h.1

-- what is said of each thing that is asked for covers the instances of all networks
module _ (P : List ℕ → Type 0) (Q : Asked → Type 0) (nets : List Entry) (covers : (i : Instance) → Q (asked_by_instance i) → IsCovered P nets i) where
  covers_net : (is : List Instance) → AllByRecursion Q (map asked_by_instance is) → All (IsCovered P nets) is
  covers_net [] h = All-nil (IsCovered P nets)
  covers_net (i ∷ is) h = All-cons (IsCovered P nets) i is (covers i h.0) (covers_net is h.1)

  covers_all : (rs : List Read) (n : ℕ) → AllByRecursion Q (asked_by_all rs) → All (AreCovered P nets) (networks_from n rs)
  covers_all [] n h = All-nil (AreCovered P nets)
  covers_all (r ∷ rs) n h = go r.content h (λ k. covers_all rs (suc n) k)
    where
      go : (content : Content) → AllByRecursion Q (asked_by content ++ asked_by_all rs)
          → (AllByRecursion Q (asked_by_all rs) → All (AreCovered P nets) (networks_from (suc n) rs))
          → All (AreCovered P nets) (networks_in r.class n content ++ networks_from (suc n) rs)
      go (network net) k rest =
          All-cons (AreCovered P nets) (record { class = r.class; file = n; net = net }) (networks_from (suc n) rs)
          (covers_net net.instances (all_first Q (asked_by (network net)) (asked_by_all rs) k))
          (rest (all_rest Q (asked_by (network net)) (asked_by_all rs) k))
      go (source tree) k rest = rest (all_rest Q (asked_by (source tree)) (asked_by_all rs) k)

-- so it covers each leaf
of_leaves : (P : List ℕ → Type 0) (Q : Asked → Type 0) (reads : List Read) (class : List ℕ)
    → ((i : Instance) → Q (asked_by_instance i) → IsCovered P (networks_from 1 reads) i)
    → AllByRecursion Q (asked_by_all reads) → All (OfClass P) (bound (networks_from 1 reads) class).leaves
of_leaves P Q reads class covers h =
    bound_leaves P (networks_from 1 reads) class (covers_all P Q (networks_from 1 reads) covers reads 1 h)

-- ---- files, and look-ups

not_both : (b : Bool) → b ≡ true → b ≡ false → ⊥
not_both true h k = cc
not_both false h k = cc

no_network : (reads : List Read) (class : List ℕ) → network_of class (networks_from 1 reads) ≡ None → is_read (of_kind class true) reads ≡ false
no_network reads class none = sym (same_has (of_kind class true) reads) ∙ ap is_some none

served_covers : (reads : List Read) (i : Instance) → IsServed reads (asked_by_instance i)
    → IsCovered (λ class. is_some (source_named class (sources_from 1 reads)) ≡ true) (networks_from 1 reads) i
served_covers reads i (inl h) none = absurd (not_both (is_read (of_kind (instance_class i) true) reads) h (no_network reads (instance_class i) none))
served_covers reads i (inr h) none = same_has (of_kind (instance_class i) false) reads ∙ h

pub leaves : LeavesHaveFiles
leaves reads top class h =
    of_leaves (λ c. is_some (source_named c (sources_from 1 reads)) ≡ true) (IsServed reads) reads class (served_covers reads) h.1

pub leaves_tried : LeavesAreTried
leaves_tried reads misses top class h =
    of_leaves (λ c. HasRisen misses.old misses.new) (IsTried reads misses) reads class (λ i tried none. tried (no_network reads (instance_class i) none)) h.1
