-- What a step of a walk keeps.
use Rattle.std.proofs.Common.{◌≡◌, ℕ, zero, suc, ◌+◌, ◌*◌, ◌-◌, ◌<◌, ◌≤◌, Bool, true, false, List, [], ◌∷◌, ◌++◌, length, refl, sym, ap, subst, ◌∙◌, inl, arith, Ok, Err, append_assoc, append-nil, length-append}
use Rattle.std.specs.Prelude.{None, Some, if◌then◌else◌}
use Rattle.std.specs.declared.result.Result.{Result}
use Rattle.rvc_base.specs.declared.refusal.Front.{Front}
use Rattle.rvc_base.specs.declared.refusal.Front.TheVariants as front
use Rattle.net_model.specs.Limits.{max_instances}
use Rattle.cal_model.specs.Sound.{Each}
use Rattle.cal_check.specs.Variables.{Spot, Found}
use Rattle.fnl_tree.specs.Tree.{InnerNet, InnerLeaf, Part}
use Rattle.fnl_bind.specs.Library.{Entry, network_of, is_among, instance_class, instance_id, instance_at}
use Rattle.fnl_bind.specs.Networks.{Place, StandsNet, StandsLeaf, standing_as, own_found, net_with, net_under, leaf_under}
use Rattle.fnl_bind.specs.Trees.{Grown, filled_by, found_inside, found_or_inside, found_standing, found_at, grown_at, instances_at, instances_inside, instances_under, with_part}
use Rattle.check_given.specs.Causes.{IsCause}
use Rattle.fnl_values.specs.Visiting.{Visit}
use Rattle.fnl_walk.specs.Steps.{Goes, Keeps, Opens, Passes, Stops, opened, found, spots, steps_left}
use Rattle.fnl_walk.specs.Visited.{VisitsNet, before, place_inside, with_inner, with_leaf}
use Rattle.fnl_walk.specs.Walk.{Open, Walk, IsOpen, AreOpen, IsSteady, count_of, place_of, outside, standing_of, instances_of, found_visits, found_in_open, found_left, spots_in_open, spots_left, with_filled, filled_visits, finished, with_parts}
use Rattle.fnl_values.proofs.Faults.{cause_in_first}
use Rattle.fnl_walk.proofs.Opening.{and_more, found_opened, length_more, length_one, spots_opened, tree_opened}
use Rattle.fnl_walk.proofs.Parts.{nothing_more, part_more, parts_length}

-- ---- networks that are open

more_open : (m n : ℕ) (above : List (List ℕ)) (os : List Open) → m ≤ n → AreOpen m above os → AreOpen n above os
more_open m n above [] le h = tt
more_open m n above (o ∷ os) le h =
    (record { is_net = let k = h.0.is_net in omega (arith, k, le); no_circle = h.0.no_circle }, more_open m n (outside above) os le h.1)

-- ---- a network is left

pub keeps_left : (library : List Entry) (o : Open) (os : List Open) (above : List (List ℕ)) (g : Grown) → o.visits ≡ [] → IsSteady (record { open_nets = o ∷ os; above = above; grown = g })
    → Keeps library (record { open_nets = o ∷ os; above = above; grown = g }) (record { open_nets = os; above = outside above; grown = g })
keeps_left library o os above g none steady = record {
  found = sym (ap (λ vs. found_visits (found_at o.levels library) library (place_of o above) vs ++ found_left library os (outside above)) none);
  tree = sym (ap (finished library os (outside above))
      (ap (λ vs. with_filled o.number (filled_visits (grown_at o.levels library) library (place_of o above) vs (length g.nets) (length g.leaves)) g) none
      ∙ nothing_more o.number g));
  met = [];
  spots = ap (λ vs. instances_inside (instances_at o.levels library) library o.file (instances_of vs) above ++ spots_left library os (outside above)) none;
  count = omega arith;
  steady = record { are_open = steady.are_open.1; few = steady.few };
}

-- ---- an actor

leaf_standing : (library : List Entry) (p : Place) (v : Visit) → network_of (instance_class v.instance) library ≡ None → standing_of library p v ≡ StandsLeaf (leaf_under p v.instance v.given)
leaf_standing library p v h = ap (λ e. standing_as p v.instance e (Some v.given)) h

pub keeps_leaf : (library : List Entry) (o : Open) (v : Visit) (w : Walk) → network_of (instance_class v.instance) library ≡ None → IsSteady (before o v w) → count_of w.grown ≤ max_instances
    → Keeps library (before o v w) (with_leaf o v w)
keeps_leaf library o v w none steady room =
    let p = place_of o w.above in
    let leaf = leaf_under p v.instance v.given in
    let rest = filled_visits (grown_at o.levels library) library p o.visits in
    let nets = length w.grown.nets in
    let leaves = length w.grown.leaves in
    let parts = with_parts o.number (record { id = instance_id v.instance; inner = InnerLeaf leaves } ∷ []) w.grown.nets in
    let is = leaf_standing library p v none in
    let in_range : o.number < nets = steady.are_open.0.is_net in
    let same_nets : length parts ≡ nets = parts_length o.number (record { id = instance_id v.instance; inner = InnerLeaf leaves } ∷ []) w.grown.nets in
    let as_many : nets + 0 ≡ length parts = omega (arith, same_nets) in
    let filled_old : with_filled o.number (filled_by (grown_at o.levels library) (instance_id v.instance) (standing_of library p v) rest nets leaves) w.grown
    ≡ with_filled o.number (rest (length parts) (length (w.grown.leaves ++ leaf ∷ []))) (record { nets = parts; leaves = w.grown.leaves ++ leaf ∷ [] }) =
    ap (λ s. with_filled o.number (filled_by (grown_at o.levels library) (instance_id v.instance) s rest nets leaves) w.grown) is
    ∙ part_more o.number (instance_id v.instance) (InnerLeaf leaves) (record { nets = []; leaves = leaf ∷ [] }) (rest (nets + 0) (leaves + 1)) w.grown in_range
    ∙ ap (λ ns. with_filled o.number (rest (nets + 0) (leaves + 1)) (record { nets = ns; leaves = w.grown.leaves ++ leaf ∷ [] })) (append-nil parts)
    ∙ ap (λ n. with_filled o.number (rest n (leaves + 1)) (record { nets = parts; leaves = w.grown.leaves ++ leaf ∷ [] })) as_many
    ∙ ap (λ n. with_filled o.number (rest (length parts) n) (record { nets = parts; leaves = w.grown.leaves ++ leaf ∷ [] })) (sym (length_more w.grown.leaves leaf)) in
    record {
      found = sym (ap (λ s. (found_standing (found_at o.levels library) s ++ found_in_open library o w.above) ++ found_left library w.open_nets (outside w.above)) is);
      tree = sym (ap (finished library w.open_nets (outside w.above)) filled_old);
      met = record { file = o.file; at = instance_at v.instance } ∷ [];
      spots = ap (λ e. record { file = o.file; at = instance_at v.instance } ∷ (instances_under (instances_at o.levels library) e w.above ++ spots_in_open library o w.above) ++ spots_left library w.open_nets (outside w.above)) none;
      count = let l = length_one w.grown.leaves leaf in omega (arith, same_nets, l);
      steady = record {
        are_open = subst (λ n. AreOpen n w.above (o ∷ w.open_nets)) (sym same_nets) (record { is_net = in_range; no_circle = steady.are_open.0.no_circle.1 }, steady.are_open.1);
        few = let l = length_one w.grown.leaves leaf in omega (arith, same_nets, l, room);
      };
    }

-- ---- a network

net_standing : (library : List Entry) (p : Place) (v : Visit) (e : Entry) → network_of (instance_class v.instance) library ≡ Some e → standing_of library p v ≡ StandsNet (net_under p v.instance e v.given)
net_standing library p v e h = ap (λ o. standing_as p v.instance o (Some v.given)) h

inside : (b : Bool) (xs : List Spot) → b ≡ false → (if b then [] else xs) ≡ xs
inside true xs h = absurd (cc)
inside false xs h = refl

-- a network that is opened has a place in the tree
pub is_opened : (n file number count : ℕ) (path : List ℕ) (vs : List Visit) (above : List (List ℕ)) → number < count → Each (λ v. is_among (instance_class v.instance) above ≡ false) vs
    → IsOpen count above (opened file number path n vs)
is_opened zero file number count path vs above less free = record { is_net = less; no_circle = tt }
is_opened (suc n) file number count path vs above less free = record { is_net = less; no_circle = free }

pub keeps_net : (library : List Entry) (o : Open) (v : Visit) (e : Entry) (w new : Walk) → network_of (instance_class v.instance) library ≡ Some e → e.class ≡ instance_class v.instance
    → IsSteady (before o v w) → count_of w.grown ≤ max_instances → Opens o.levels (place_inside o v e w) (with_inner o v w) new
    → Keeps library (before o v w) new
keeps_net library o v e w new some class steady room opens =
    let p = place_of o w.above in
    let inner = place_inside o v e w in
    let is = net_standing library p v e some in
    let rest = filled_visits (grown_at o.levels library) library p o.visits in
    let nets = length w.grown.nets in
    let leaves = length w.grown.leaves in
    let part : List Part = record { id = instance_id v.instance; inner = InnerNet nets } ∷ [] in
    let parts = with_parts o.number part w.grown.nets in
    let middle : Grown = record { nets = parts; leaves = w.grown.leaves } in
    let in_range : o.number < nets = steady.are_open.0.is_net in
    let same_nets : length parts ≡ nets = parts_length o.number part w.grown.nets in
    let more = grown_at o.levels library inner (length parts) leaves in
    let no_circle : is_among e.class w.above ≡ false = ap (λ c. is_among c w.above) class ∙ steady.are_open.0.no_circle.0 in
    let after : Walk = record {
      open_nets = opened inner.entry.file (length parts) inner.path o.levels opens.visits ∷ o ∷ w.open_nets;
      above = inner.above;
      grown = record { nets = parts ++ net_with inner [] ∷ []; leaves = w.grown.leaves };
    } in
    let found_new : found library after ≡ found library (before o v w) =
    ap (λ fs. fs ++ (found_in_open library o w.above ++ found_left library w.open_nets (outside w.above))) (found_opened library inner o.levels (length parts) opens.visits opens.conforms opens.are_visits)
    ∙ sym (append_assoc (found_at o.levels library inner) (found_in_open library o w.above) (found_left library w.open_nets (outside w.above)))
    ∙ sym (ap (λ s. (found_standing (found_at o.levels library) s ++ found_in_open library o w.above) ++ found_left library w.open_nets (outside w.above)) is) in
    let spots_new : spots library (before o v w) ≡ record { file = o.file; at = instance_at v.instance } ∷ spots library after =
    ap (λ en. (record { file = o.file; at = instance_at v.instance } ∷ (instances_under (instances_at o.levels library) en w.above ++ spots_in_open library o w.above)) ++ spots_left library w.open_nets (outside w.above)) some
    ∙ ap (λ xs. (record { file = o.file; at = instance_at v.instance } ∷ (xs ++ spots_in_open library o w.above)) ++ spots_left library w.open_nets (outside w.above))
    (inside (is_among e.class w.above) (instances_at o.levels library e (e.class ∷ w.above)) no_circle ∙ sym (spots_opened library inner o.levels (length parts) opens.visits opens.are_visits))
    ∙ ap (λ xs. record { file = o.file; at = instance_at v.instance } ∷ xs) (append_assoc (spots_in_open library (opened inner.entry.file (length parts) inner.path o.levels opens.visits) inner.above) (spots_in_open library o w.above) (spots_left library w.open_nets (outside w.above))) in
    let filled_old : with_filled o.number (filled_by (grown_at o.levels library) (instance_id v.instance) (standing_of library p v) rest nets leaves) w.grown
    ≡ with_filled o.number (rest (length (parts ++ more.nets)) (length (w.grown.leaves ++ more.leaves))) (and_more middle more) =
    ap (λ s. with_filled o.number (filled_by (grown_at o.levels library) (instance_id v.instance) s rest nets leaves) w.grown) is
    ∙ ap (λ n. with_filled o.number (with_part (instance_id v.instance) (InnerNet nets) (grown_at o.levels library inner n leaves)
    (rest (n + length (grown_at o.levels library inner n leaves).nets) (leaves + length (grown_at o.levels library inner n leaves).leaves))) w.grown) (sym same_nets)
    ∙ part_more o.number (instance_id v.instance) (InnerNet nets) more (rest (length parts + length more.nets) (leaves + length more.leaves)) w.grown in_range
    ∙ ap (λ n. with_filled o.number (rest n (leaves + length more.leaves)) (and_more middle more)) (sym (length-append parts more.nets))
    ∙ ap (λ n. with_filled o.number (rest (length (parts ++ more.nets)) n) (and_more middle more)) (sym (length-append w.grown.leaves more.leaves)) in
    let tree_new : finished library after.open_nets after.above after.grown ≡ finished library (before o v w).open_nets w.above w.grown =
    tree_opened library inner o.levels opens.visits (o ∷ w.open_nets) middle opens.are_visits
    ∙ sym (ap (finished library w.open_nets (outside w.above)) filled_old) in
    let one = length_one parts (net_with inner []) in
    subst (λ x. Keeps library (before o v w) x) (sym opens.is) (record {
      found = found_new;
      tree = tree_new;
      met = record { file = o.file; at = instance_at v.instance } ∷ [];
      spots = spots_new;
      count = omega (arith, one, same_nets);
      steady = record {
        are_open = (
          is_opened o.levels inner.entry.file (length parts) (length (parts ++ net_with inner [] ∷ [])) inner.path opens.visits inner.above (omega (arith, one)) opens.no_circle,
          more_open nets (length (parts ++ net_with inner [] ∷ [])) w.above (o ∷ w.open_nets) (omega (arith, one, same_nets))
              (record { is_net = in_range; no_circle = steady.are_open.0.no_circle.1 }, steady.are_open.1),
        );
        few = omega (arith, one, same_nets, room);
      };
    })

-- ---- why a walk stops

none_cause : (f : Front) (P : Type 0) → IsCause f [] → (f ≡ front.Memory → P) → P
none_cause (front.Refused r) P h k = absurd (let l = h.1 in omega (arith, l))
none_cause front.Memory P h k = k refl

pub own_in_found : (library : List Entry) (n : ℕ) (p : Place) (f : Front) → IsCause f (own_found p) → IsCause f (found_at n library p)
own_in_found library zero p f h = h
own_in_found library (suc n) p f h = go (own_found p) h
  where
    go : (fs : List Found) → IsCause f fs → IsCause f (found_or_inside fs (found_at n library) library p)
    go [] c = none_cause f (IsCause f (found_inside (found_at n library) library p p.entry.net.instances)) c (λ e. subst (λ g. IsCause g (found_inside (found_at n library) library p p.entry.net.instances)) (sym e) tt)
    go (x ∷ xs) c = c

pub stops_inside : (library : List Entry) (o : Open) (v : Visit) (e : Entry) (w : Walk) (f : Front) → network_of (instance_class v.instance) library ≡ Some e → IsCause f (own_found (place_inside o v e w))
    → Stops library (before o v w) f
stops_inside library o v e w (front.Refused r) some h =
    let p = place_of o w.above in
    let inner = place_inside o v e w in
    let c : IsCause (front.Refused r) (found_at o.levels library inner) = own_in_found library o.levels inner (front.Refused r) h in
    inl (cause_in_first (front.Refused r) (found_standing (found_at o.levels library) (standing_of library p v) ++ found_in_open library o w.above) (found_left library w.open_nets (outside w.above))
    (cause_in_first (front.Refused r) (found_standing (found_at o.levels library) (standing_of library p v)) (found_in_open library o w.above)
    (subst (λ s. IsCause (front.Refused r) (found_standing (found_at o.levels library) s)) (sym (net_standing library p v e some)) c)))
stops_inside library o v e w front.Memory some h = tt

pub stops_full : (library : List Entry) (o : Open) (v : Visit) (w : Walk) → IsSteady (before o v w) → max_instances < count_of w.grown
    → Passes library (before o v w) (record { file = o.file; at = instance_at v.instance })
stops_full library o v w steady more = record { full = let few = steady.few in omega (arith, few, more); next = refl }

-- ---- fewer steps are left

pub goes_leaf : (library : List Entry) (o : Open) (v : Visit) (w : Walk) → network_of (instance_class v.instance) library ≡ None → IsSteady (before o v w) → count_of w.grown ≤ max_instances
    → Keeps library (before o v w) (with_leaf o v w) × (steps_left (with_leaf o v w) < steps_left (before o v w))
goes_leaf library o v w none steady room =
    let k = keeps_leaf library o v w none steady room in
    let nets = parts_length o.number (record { id = instance_id v.instance; inner = InnerLeaf (length w.grown.leaves) } ∷ []) w.grown.nets in
    let leaves = length_one w.grown.leaves (leaf_under (place_of o w.above) v.instance v.given) in
    let count : count_of (with_leaf o v w).grown ≡ suc (count_of w.grown) = omega (arith, nets, leaves) in
    (k, fewer (suc max_instances) (count_of w.grown) (count_of (with_leaf o v w).grown) (suc (length w.open_nets)) count (omega (arith, room)))
  where
    fewer : (most before after open_nets : ℕ) → after ≡ suc before → before < most → 2 * (most - after) + open_nets < 2 * (most - before) + open_nets
    fewer most before after open_nets e h = omega (arith, e, h)

pub goes_net : (library : List Entry) (o : Open) (v : Visit) (e : Entry) (w new : Walk) → network_of (instance_class v.instance) library ≡ Some e → e.class ≡ instance_class v.instance
    → IsSteady (before o v w) → count_of w.grown ≤ max_instances → Opens o.levels (place_inside o v e w) (with_inner o v w) new
    → Keeps library (before o v w) new × (steps_left new < steps_left (before o v w))
goes_net library o v e w new some class steady room opens =
    let k = keeps_net library o v e w new some class steady room opens in
    let nets = parts_length o.number (record { id = instance_id v.instance; inner = InnerNet (length w.grown.nets) } ∷ []) w.grown.nets in
    let one = length_one (with_inner o v w).grown.nets (net_with (place_inside o v e w) []) in
    let same = ap (λ x. count_of x.grown) opens.is in
    let count : count_of new.grown ≡ suc (count_of w.grown) = omega (arith, same, one, nets) in
    let more : length new.open_nets ≡ suc (suc (length w.open_nets)) = ap (λ x. length x.open_nets) opens.is in
    (k, fewer (suc max_instances) (count_of w.grown) (count_of new.grown) (length w.open_nets) (length new.open_nets) count more (omega (arith, room)))
  where
    fewer : (most before after less open_nets : ℕ) → after ≡ suc before → open_nets ≡ suc (suc less) → before < most → 2 * (most - after) + open_nets < 2 * (most - before) + suc less
    fewer most before after less open_nets e f h = omega (arith, e, f, h)

-- what a visit of a network answers
pub visits_net : (library : List Entry) (o : Open) (v : Visit) (e : Entry) (w new : Walk) (r : Result (Unit {0}) Front) → network_of (instance_class v.instance) library ≡ Some e → e.class ≡ instance_class v.instance
    → IsSteady (before o v w) → count_of w.grown ≤ max_instances → VisitsNet o v e w new r → Goes library (before o v w) new r
visits_net library o v e w new (Ok u) some class steady room opens = goes_net library o v e w new some class steady room opens
visits_net library o v e w new (Err f) some class steady room cause = stops_inside library o v e w f some cause

-- a network that is left, as it was in memory
pub left_so : (library : List Entry) (old new : Walk) (o : Open) → old.open_nets ≡ o ∷ new.open_nets → o.visits ≡ [] → new.above ≡ outside old.above → new.grown ≡ old.grown → IsSteady old
    → Keeps library old new × (steps_left new < steps_left old)
left_so library old new o opens none above grown steady =
    let before_it : old ≡ record { open_nets = o ∷ new.open_nets; above = old.above; grown = old.grown } = ap (λ os. record { open_nets = os; above = old.above; grown = old.grown }) opens in
    let after_it : new ≡ record { open_nets = new.open_nets; above = outside old.above; grown = old.grown } =
    ap (λ cs. record { open_nets = new.open_nets; above = cs; grown = new.grown }) above ∙ ap (λ g. record { open_nets = new.open_nets; above = outside old.above; grown = g }) grown in
    let kept = keeps_left library o new.open_nets old.above old.grown none (subst IsSteady before_it steady) in
    let many : length old.open_nets ≡ suc (length new.open_nets) = ap length opens in
    let same : count_of new.grown ≡ count_of old.grown = ap count_of grown in (
      subst (λ x. Keeps library x new) (sym before_it) (subst (λ x. Keeps library (record { open_nets = o ∷ new.open_nets; above = old.above; grown = old.grown }) x) (sym after_it) kept),
      nearer (suc max_instances - count_of new.grown) (suc max_instances - count_of old.grown) (length new.open_nets) (length old.open_nets) (ap (λ n. suc max_instances - n) same) many,
    )
  where
    nearer : (a b m n : ℕ) → a ≡ b → n ≡ suc m → 2 * a + m < 2 * b + n
    nearer a b m n e f = omega (arith, e, f)
