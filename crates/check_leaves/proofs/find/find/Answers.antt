use Rattle.std.proofs.Common.{◌≡◌, ◌<◌, true, false, length, Some, sym, ap, subst, ◌∙◌, rules}
use Rattle.std.specs.Prelude.{slice_get}
use Rattle.std.proofs.lemmas.List.{length-map}
use Rattle.fnl_tree.specs.View.{leaf_of}
use Rattle.check_leaves.specs.Equal.{give_same}
use Rattle.check_leaves.specs.Finding.{all_linked, leaves_of, linked_of, number_of}
use Rattle.check_leaves.proofs.Chain.{IsSearched, rank, next_within, search_begins, search_falls, search_finds, search_goes_on}
use Rattle.check_leaves.proofs.Lists.{item_at, mapped_at}
use Rattle.check_leaves.proofs.find.find.Goals as goal

pub class-init : goal.class-init
class-init c =
    let text : c.as_str.result.now ≡ (leaf_of c.args.leaf.now).class = search rules in
    let is : c.get-next.result ≡ number_of (leaf_of c.args.leaf.now).class c.args.newest.now = c.get-next.ensures ∙ ap (λ t. number_of t c.args.newest.now) text in
    subst (IsSearched (leaves_of (all_linked c.args.firsts.now)) (leaf_of c.args.leaf.now)) (sym is)
    (search_begins c.args.newest.now (all_linked c.args.firsts.now) (leaf_of c.args.leaf.now) c.requires)

pub bounds-firsts-place : goal.bounds-firsts-place
bounds-firsts-place c =
    let searched : IsSearched (leaves_of (all_linked c.args.firsts.now)) (leaf_of c.args.leaf.now) (Some c.in-Some.place) =
    subst (IsSearched (leaves_of (all_linked c.args.firsts.now)) (leaf_of c.args.leaf.now)) c.in-Some.is c.class.invariant in
    subst (λ n. c.in-Some.place < n) (length-map c.args.firsts.now linked_of)
    (next_within (all_linked c.args.firsts.now) (leaf_of c.args.leaf.now) c.in-Some.place searched)

pub returns-then-give_same : goal.returns-then-give_same
returns-then-give_same c =
    let links = all_linked c.args.firsts.now in
    let leaf = leaf_of c.args.leaf.now in
    let place = c.in-Some.place in
    let first = c.index-firsts-place.result in
    let searched : IsSearched (leaves_of links) leaf (Some place) = subst (IsSearched (leaves_of links) leaf) c.in-Some.is c.class.invariant in
    let low : place < length c.args.firsts.now = subst (λ n. place < n) (length-map c.args.firsts.now linked_of) (next_within links leaf place searched) in
    let here : slice_get links place ≡ Some (linked_of first) = mapped_at linked_of c.args.firsts.now first place (item_at c.args.firsts.now first place low c.index-firsts-place.is) in
    let same : give_same leaf.bindings (leaf_of first.leaf.now).bindings ≡ true = search rules in
    search_finds links leaf place (linked_of first) here searched same

pub class-smaller : goal.class-smaller
class-smaller c =
    let links = all_linked c.args.firsts.now in
    let leaf = leaf_of c.args.leaf.now in
    let place = c.in-Some.place in
    let first = c.index-firsts-place.result in
    let searched : IsSearched (leaves_of links) leaf (Some place) = subst (IsSearched (leaves_of links) leaf) c.in-Some.is c.class.invariant in
    let low : place < length c.args.firsts.now = subst (λ n. place < n) (length-map c.args.firsts.now linked_of) (next_within links leaf place searched) in
    let here : slice_get links place ≡ Some (linked_of first) = mapped_at linked_of c.args.firsts.now first place (item_at c.args.firsts.now first place low c.index-firsts-place.is) in
    subst (λ o. rank first.earlier < rank o) (sym c.in-Some.is)
    (search_falls c.args.newest.now links place (linked_of first) c.requires here)

pub class-preserved : goal.class-preserved
class-preserved c =
    let links = all_linked c.args.firsts.now in
    let leaf = leaf_of c.args.leaf.now in
    let place = c.in-Some.place in
    let first = c.index-firsts-place.result in
    let searched : IsSearched (leaves_of links) leaf (Some place) = subst (IsSearched (leaves_of links) leaf) c.in-Some.is c.class.invariant in
    let low : place < length c.args.firsts.now = subst (λ n. place < n) (length-map c.args.firsts.now linked_of) (next_within links leaf place searched) in
    let here : slice_get links place ≡ Some (linked_of first) = mapped_at linked_of c.args.firsts.now first place (item_at c.args.firsts.now first place low c.index-firsts-place.is) in
    let other : give_same leaf.bindings (leaf_of first.leaf.now).bindings ≡ false = search rules in
    search_goes_on c.args.newest.now links leaf place (linked_of first) c.requires here searched other
