-- Chains of tags, from tag to tag.
use Rattle.std.proofs.Common.{◌≡◌, ℕ, List, [], ◌∷◌, ◌++◌, refl, ap, ◌∙◌, append_assoc}
use Rattle.cal_ast.specs.Tree as tree
use Rattle.cal_ast.specs.Tree.{Tree}
use Rattle.cal_ast.specs.View.{priority_tree}
use Rattle.cal_ast.specs.declared.action.Priority.{Priority}
use Rattle.cal_model.specs.Actor.{Action, Actor}
use Rattle.cal_model.specs.Tags.{each_above, pairs_of, stands_from}
use Rattle.cal_check.specs.Schedules.{chains_broken, chains_pairs, pairs_in, priorities_broken}
use Rattle.check_member.specs.Judging.{Refuses}
use Rattle.check_member.specs.Parts.{actor_with, chains_tree}
use Rattle.check_member.specs.declared.fault.MemberFault.{MemberFault}
use Rattle.check_member.proofs.Broken.{refuses-left}

-- what the tags behind one stand for, below what it stands for
abbrev pub pairs_behind : List ℕ → List (List (List ℕ)) → List Action → List (ℕ × ℕ)
pairs_behind higher [] acts = []
pairs_behind higher (tag ∷ tags) acts =
    each_above higher (stands_from 0 tag acts) ++ pairs_behind (stands_from 0 tag acts) tags acts

pub pairs-from : (tag : List (List ℕ)) (tags : List (List (List ℕ))) (acts : List Action)
    → pairs_of (actor_with acts []) (tag ∷ tags) ≡ pairs_behind (stands_from 0 tag acts) tags acts
pairs-from tag [] acts = refl
pairs-from tag (next ∷ tags) acts =
    ap (λ ps. each_above (stands_from 0 tag acts) (stands_from 0 next acts) ++ ps) (pairs-from next tags acts)

-- ---- members

-- what a priority adds to what is broken, and to the pairs
pub priority-fine : (p : Priority) (more : Tree) (acts : List Action) → chains_broken (chains_tree p.chains.items) acts ≡ []
    → priorities_broken (tree.cons (priority_tree p) more) acts ≡ priorities_broken more acts
priority-fine p more acts e = ap (λ vs. vs ++ priorities_broken more acts) e

pub priority-refused : (p : Priority) (more : Tree) (acts : List Action) (f : MemberFault) → Refuses f (chains_broken (chains_tree p.chains.items) acts)
    → Refuses f (priorities_broken (tree.cons (priority_tree p) more) acts)
priority-refused p more acts f h = refuses-left f (chains_broken (chains_tree p.chains.items) acts) (priorities_broken more acts) h

pub priority-added : (p : Priority) (more : Tree) (actor : Actor) (before grown : List (ℕ × ℕ)) → grown ≡ before ++ chains_pairs (chains_tree p.chains.items) actor
    → grown ++ pairs_in more actor ≡ before ++ pairs_in (tree.cons (priority_tree p) more) actor
priority-added p more actor before grown e =
    ap (λ g. g ++ pairs_in more actor) e ∙ append_assoc before (chains_pairs (chains_tree p.chains.items) actor) (pairs_in more actor)
