use Rattle.std.proofs.Common.{◌≡◌, ◌∷◌, [], Err, map, refl, sym, subst, rules}
use Rattle.std.specs.Prelude.{IfErr}
use Rattle.rvc_base.specs.declared.refusal.Front.TheVariants as front
use Rattle.cal_imports.specs.View.{sources}
use Rattle.fnl_tree.specs.View.{leaf_of}
use Rattle.check_leaves.specs.Leaves.{IsFault}
use Rattle.check_leaves.specs.Steps.{IsRefusedAt}
use Rattle.check_leaves.proofs.Held.{IsGoing, err_one, found_all, found_once, found_sound, found_within, going_more, going_none, never_refused, refused}
use Rattle.check_leaves.proofs.Lists.{no_items}
use Rattle.check_leaves.proofs.whole.check_leaves.Goals as goal

pub leaves-init : goal.leaves-init
leaves-init c =
    going_none (sources c.args.files.now) (map leaf_of c.args.leaves.now) c.new-known.result
    c.new-known.ensures.firsts c.new-known.ensures.newest c.new-known.ensures.actors c.new-known.ensures.places

pub returns-in_err-add-clause-refused : goal.returns-in_err-add-clause-refused
returns-in_err-add-clause-refused c =
    let files = sources c.args.files.now in
    let leaves = map leaf_of c.args.leaves.now in
    let same : c.from_residual.result ≡ Err c.in_err-add.field-0.0 = search rules in
    let going : IsGoing files (leaf_of c.in-Some.leaf.now ∷ map leaf_of c.in-Some.others.now) leaves c.leaves.known =
    subst (λ ls. IsGoing files (map leaf_of ls) leaves c.leaves.known) c.in-Some.ensures.cases.0 c.leaves.invariant in
    subst (λ r. IfErr r (IsFault files leaves)) (sym same)
    (refused files (leaf_of c.in-Some.leaf.now) (map leaf_of c.in-Some.others.now) leaves c.leaves.known c.in_err-add.field-0.0 going c.in_err-add.ensures)

pub returns-in_err-add-clause-complete : goal.returns-in_err-add-clause-complete
returns-in_err-add-clause-complete c = λ r is all.
    let files = sources c.args.files.now in
    let leaves = map leaf_of c.args.leaves.now in
    let same : c.from_residual.result ≡ Err c.in_err-add.field-0.0 = search rules in
    let one : c.in_err-add.field-0.0 ≡ front.Refused r = err_one c.in_err-add.field-0.0 (front.Refused r) c.from_residual.result same is in
    let going : IsGoing files (leaf_of c.in-Some.leaf.now ∷ map leaf_of c.in-Some.others.now) leaves c.leaves.known =
    subst (λ ls. IsGoing files (map leaf_of ls) leaves c.leaves.known) c.in-Some.ensures.cases.0 c.leaves.invariant in
    never_refused files (leaf_of c.in-Some.leaf.now) (map leaf_of c.in-Some.others.now) leaves c.leaves.known r going
    (subst (λ f. IsRefusedAt f files (leaf_of c.in-Some.leaf.now)) one c.in_err-add.ensures) all

pub leaves-preserved : goal.leaves-preserved
leaves-preserved c =
    let files = sources c.args.files.now in
    let leaves = map leaf_of c.args.leaves.now in
    let going : IsGoing files (leaf_of c.in-Some.leaf.now ∷ map leaf_of c.in-Some.others.now) leaves c.leaves.known =
    subst (λ ls. IsGoing files (map leaf_of ls) leaves c.leaves.known) c.in-Some.ensures.cases.0 c.leaves.invariant in
    going_more files (leaf_of c.in-Some.leaf.now) (map leaf_of c.in-Some.others.now) leaves c.leaves.known c.add.new.self going c.in_ok-add.ensures

pub returns-clause-checked : goal.returns-clause-checked
returns-clause-checked c =
    let files = sources c.args.files.now in
    let leaves = map leaf_of c.args.leaves.now in
    let none : c.leaves.rest.now ≡ [] = no_items c.leaves.rest.now c.in_default.ensures.cases in
    found_all files leaves c.leaves.known (subst (λ ls. IsGoing files (map leaf_of ls) leaves c.leaves.known) none c.leaves.invariant)

pub returns-clause-within : goal.returns-clause-within
returns-clause-within c =
    let files = sources c.args.files.now in
    let leaves = map leaf_of c.args.leaves.now in
    let none : c.leaves.rest.now ≡ [] = no_items c.leaves.rest.now c.in_default.ensures.cases in
    found_within files leaves c.leaves.known (subst (λ ls. IsGoing files (map leaf_of ls) leaves c.leaves.known) none c.leaves.invariant)

pub returns-clause-once : goal.returns-clause-once
returns-clause-once c =
    let files = sources c.args.files.now in
    let leaves = map leaf_of c.args.leaves.now in
    let none : c.leaves.rest.now ≡ [] = no_items c.leaves.rest.now c.in_default.ensures.cases in
    found_once files leaves c.leaves.known (record { actors = c.leaves.known.actors; of_leaf = c.leaves.known.of_leaf }) refl refl
    (subst (λ ls. IsGoing files (map leaf_of ls) leaves c.leaves.known) none c.leaves.invariant)

pub returns-clause-sound : goal.returns-clause-sound
returns-clause-sound c =
    let files = sources c.args.files.now in
    let leaves = map leaf_of c.args.leaves.now in
    let none : c.leaves.rest.now ≡ [] = no_items c.leaves.rest.now c.in_default.ensures.cases in
    found_sound c.sources_without_violations_are_sound.ensures c.spelled_actors_are_formed.ensures files leaves c.leaves.known (record { actors = c.leaves.known.actors; of_leaf = c.leaves.known.of_leaf }) refl
    (subst (λ ls. IsGoing files (map leaf_of ls) leaves c.leaves.known) none c.leaves.invariant) c.requires.spelled

pub add-requires-clause-differ : goal.add-requires-clause-differ
add-requires-clause-differ c = λ class scope h. c.names_differ.ensures (sources c.args.files.now) class scope c.requires.spelled h
