-- Which actors are certified: as many as there are, or not each; and the networks of those that are.
use Rattle.std.proofs.Common.{◌≡◌, ℕ, zero, suc, ◌+◌, ◌≤◌, List, [], ◌∷◌, length, refl, sym, ap, ◌∙◌, subst, arith}
use Rattle.std.specs.Prelude.{Option, None, Some, slice_get}
use Rattle.cal_model.specs.Actor.{Actor}
use Rattle.cal_model.specs.Certified.{IsCertified}
use Rattle.cal_model.specs.Selection.{Priorities, State}
use Rattle.cal_model.specs.Sound.{Each, IsSound}
use Rattle.net_model.specs.Network.{Leaf}
use Rattle.determinacy_cert.specs.Certifying.{IsOfCertified, NoFailureWhereCertified}
use Rattle.determinacy_cert.specs.Failing.{first}
use Rattle.determinacy_cert.specs.declared.fault.CertFault.{CertFault}
use Rattle.determinacy_cert.specs.declared.fault.CertFault.TheVariants.{Uncertified, Memory}
use Rattle.fnl_tree.specs.Tree.{Leaf as TreeLeaf}
use Rattle.rvc_engine.specs.Built.{AreJudged, IsJudged}
use Rattle.cmd_network.specs.Commands.{count_none}
use Rattle.fnl_source.specs.Source.{AreActors, Files, IsLeaf}

-- ---- counts

-- no more are nothing than there are
none_fit : (said : List (Option CertFault)) → count_none said ≤ length said
none_fit [] = omega arith
none_fit (None ∷ said) = let more : count_none said ≤ length said = none_fit said in omega arith
none_fit (Some fault ∷ said) = let more : count_none said ≤ length said = none_fit said in omega arith

judged_many : (actors : List Actor) (said : List (Option CertFault)) → AreJudged actors said → length said ≡ length actors
judged_many [] [] judged = refl
judged_many (actor ∷ actors) (fault ∷ said) judged = ap suc (judged_many actors said judged.1)
judged_many [] (fault ∷ said) judged = absurd judged
judged_many (actor ∷ actors) [] judged = absurd judged

-- if so many are certified as there are, each is
pub all_counted : (actors : List Actor) (said : List (Option CertFault)) → AreJudged actors said → count_none said ≡ length actors → Each IsCertified actors
all_counted [] [] judged many = tt
all_counted (actor ∷ actors) (None ∷ said) judged many =
    (judged.0, all_counted actors said judged.1 (omega (arith, many)))
all_counted (actor ∷ actors) (Some fault ∷ said) judged many =
    let fit : count_none said ≤ length said = none_fit said in
    let same : length said ≡ length actors = judged_many actors said judged.1 in
    absurd (omega (arith, many, fit, same))
all_counted [] (fault ∷ said) judged many = absurd judged
all_counted (actor ∷ actors) [] judged many = absurd judged

-- nothing is said of an actor that is certified
nothing_said : NoFailureWhereCertified → (actor : Actor) → Priorities actor → IsCertified actor → (fault : Option CertFault) → IsJudged actor fault → fault ≡ None
nothing_said none actor p certified None judged = refl
nothing_said none actor p certified (Some (Uncertified state a b reason)) judged =
    let said = sym (ap first ((none actor p).1 certified)) ∙ judged p in absurd (not_both _ said)
  where
    not_both : {A : Type 0} (x : A) → None ≡ Some x → ⊥
    not_both x e = cc
nothing_said none actor p certified (Some Memory) judged = absurd judged

-- if each is certified, so many are counted as there are
pub counted_all : NoFailureWhereCertified → (files : Files) (leaves : List TreeLeaf) (actors : List Actor) (xs : List (Leaf State)) (said : List (Option CertFault))
    → AreActors files leaves actors xs → AreJudged actors said → Each IsCertified actors → count_none said ≡ length actors
counted_all none files leaves [] xs [] are judged each = refl
counted_all none files [] (actor ∷ actors) xs (fault ∷ said) are judged each = absurd are
counted_all none files (leaf ∷ leaves) (actor ∷ actors) [] (fault ∷ said) are judged each = absurd are
counted_all none files (leaf ∷ leaves) (actor ∷ actors) (x ∷ xs) (fault ∷ said) are judged each =
    let nothing : fault ≡ None = nothing_said none actor are.1.0.priorities each.0 fault judged.0 in
    let more : count_none said ≡ length actors = counted_all none files leaves actors xs said are.1.1 judged.1 each.1 in
    ap (λ f. count_none (f ∷ said)) nothing ∙ ap (λ n. n + 1) more ∙ (let one : length actors + 1 ≡ suc (length actors) = omega arith in one)
counted_all none files leaves [] xs (fault ∷ said) are judged each = absurd judged
counted_all none files leaves (actor ∷ actors) xs [] are judged each = absurd judged

-- there are as many leaves as actors
pub leaves_many : (files : Files) (leaves : List TreeLeaf) (actors : List Actor) (xs : List (Leaf State)) → AreActors files leaves actors xs → length xs ≡ length actors
leaves_many files [] [] [] are = refl
leaves_many files (leaf ∷ leaves) (actor ∷ actors) (x ∷ xs) are = ap suc (leaves_many files leaves actors xs are.1.1)
leaves_many files [] [] (x ∷ xs) are = absurd are
leaves_many files [] (actor ∷ actors) xs are = absurd are
leaves_many files (leaf ∷ leaves) [] xs are = absurd are
leaves_many files (leaf ∷ leaves) (actor ∷ actors) [] are = absurd are

-- ---- the network

each_at : {A : Type 0} (P : A → Type 0) (xs : List A) → Each P xs → (i : ℕ) (x : A) → slice_get xs i ≡ Some x → P x
each_at P [] each i x at = cc
each_at P (y ∷ xs) each zero x at = let e : y ≡ x = cc in subst P e each.0
each_at P (y ∷ xs) each (suc i) x at = each_at P xs each.1 i x at

each_both : {A : Type 0} (P Q : A → Type 0) (xs : List A) → Each P xs → Each Q xs → Each (λ x. P x × Q x) xs
each_both P Q [] ps qs = tt
each_both P Q (x ∷ xs) ps qs = ((ps.0, qs.0), each_both P Q xs ps.1 qs.1)

-- what holds of each actor gives what holds of each leaf
each_leaf : (P : Actor → Type 0) (Q : Leaf State → Type 0) → ((actor : Actor) (leaf : TreeLeaf) (x : Leaf State) → IsLeaf actor leaf x → P actor → Q x)
    → (files : Files) (leaves : List TreeLeaf) (actors : List Actor) (xs : List (Leaf State)) → AreActors files leaves actors xs → Each P actors → Each Q xs
each_leaf P Q f files [] [] [] are each = tt
each_leaf P Q f files (leaf ∷ leaves) (actor ∷ actors) (x ∷ xs) are each =
    (f actor leaf x are.1.0 each.0, each_leaf P Q f files leaves actors xs are.1.1 each.1)
each_leaf P Q f files [] [] (x ∷ xs) are each = absurd are
each_leaf P Q f files [] (actor ∷ actors) xs are each = absurd are
each_leaf P Q f files (leaf ∷ leaves) [] xs are each = absurd are
each_leaf P Q f files (leaf ∷ leaves) (actor ∷ actors) [] are each = absurd are

certified_leaf : (actor : Actor) (leaf : TreeLeaf) (x : Leaf State) → IsLeaf actor leaf x → IsSound actor × IsCertified actor → IsOfCertified x.behaviour
certified_leaf actor leaf x is both =
    record { actor = actor; priorities = is.priorities; is = is.behaviour; sound = both.0; certified = both.1 }

-- each leaf is that of a certified actor
pub leaves_certified : (files : Files) (leaves : List TreeLeaf) (actors : List Actor) (xs : List (Leaf State)) → AreActors files leaves actors xs
    → Each IsSound actors → Each IsCertified actors → (i : ℕ) (x : Leaf State) → slice_get xs i ≡ Some x → IsOfCertified x.behaviour
leaves_certified files leaves actors xs are sound each =
    each_at (λ x. IsOfCertified x.behaviour) xs
    (each_leaf (λ actor. IsSound actor × IsCertified actor) (λ x. IsOfCertified x.behaviour) certified_leaf files leaves actors xs are
    (each_both IsSound IsCertified actors sound each))
