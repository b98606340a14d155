-- The scope of a leaf's class, and what its check says of the leaf.
use Rattle.std.proofs.Common.{◌≡◌, ℕ, List, [], ◌∷◌, map, Option, None, Some, refl, sym, ap, subst, ◌∙◌}
use Rattle.std.specs.Prelude.{false, is_some}
use Rattle.std.specs.declared.result.Result.{Result}
use Rattle.std.specs.declared.result.Result.TheVariants.{Ok, Err}
use Rattle.rvc_base.specs.Rules.{import_not_found}
use Rattle.rvc_base.specs.declared.refusal.Front.{Front}
use Rattle.rvc_base.specs.declared.refusal.Front.TheVariants as front
use Rattle.rvc_base.specs.declared.refusal.Refusal.{Refusal}
use Rattle.cal_ast.specs.Tree as tree
use Rattle.cal_ast.specs.Tree.{Tree}
use Rattle.cal_check.specs.Actors.{Conforms, IsSource, Source as Actors}
use Rattle.cal_check.specs.Variables.{Given, Spot}
use Rattle.cal_imports.specs.Answer.{Gives, Refuses}
use Rattle.cal_imports.specs.Resolved.{resolved, resolved_source}
use Rattle.cal_imports.specs.ScopeView.{IsRefused as IsRefusedScope, scope_view}
use Rattle.cal_imports.specs.Sources.{Source, source_named}
use Rattle.cal_imports.specs.Whole.{Outer, Scope}
use Rattle.cal_imports.specs.declared.scope.Scope.{Scope as Resolved}
use Rattle.cal_model.specs.View.{actor_of}
use Rattle.cal_model.specs.declared.bound.Bound.{Bound}
use Rattle.fnl_tree.specs.Tree.{Leaf}
use Rattle.fnl_tree.specs.View.{binding_of, leaf_of}
use Rattle.fnl_tree.specs.declared.tree.Leaf.{Leaf as DeclaredLeaf}
use Rattle.fnl_tree.specs.declared.tree.LeafValue.{LeafValue}
use Rattle.check_given.specs.Given.{all_given, spot_of}
use Rattle.check_actor.specs.Checked.{IsChecked, IsComplete, IsRefused}
use Rattle.check_actor.specs.Sources as check
use Rattle.check_actor.specs.Sources.{source_in}
use Rattle.fnl_source.specs.Actors as net
use Rattle.fnl_source.specs.Actors.{given_of, owner_of}
use Rattle.check_leaves.specs.Leaves.{HasActor, in_actor, in_scope}
use Rattle.check_leaves.specs.Steps.{IsAnswered, IsRefusedAt}

-- ---- the actor with the declarations of other files, told twice

over_decl : (name : List ℕ) (file : ℕ) (decl : Tree)
    → net.var_of (record { name = name; file = file; decl = decl }) ≡ check.var_of (record { name = name; file = file; decl = decl })
over_decl name file (tree.var shape x start changes at) = refl
over_decl name file other = refl

same_vars : (os : List Outer) → map net.var_of os ≡ map check.var_of os
same_vars [] = refl
same_vars (o ∷ os) = ap (λ x. x ∷ map net.var_of os) (over_decl o.name o.file o.decl) ∙ ap (λ xs. check.var_of o ∷ xs) (same_vars os)

same_source : (s : Scope) → net.source_of s ≡ check.source_of s
same_source s =
    ap (λ vars. record { class = s.class; file = s.file; actor = s.actor; vars = vars; funs = map net.fun_of s.funs }) (same_vars s.vars)

same_given : (bs : List LeafValue) → all_given bs ≡ map given_of (map binding_of bs)
same_given [] = refl
same_given (b ∷ bs) = ap (λ gs. given_of (binding_of b) ∷ gs) (same_given bs)

-- ---- what is answered of a leaf

gives_one : {A : Type 0} (x y : A) → Gives x ≡ Gives y → x ≡ y
gives_one x y h = cc

-- the scope, the values and the place, as both tell them
moved : (P : Actors → List Given → Spot → Type 0) (s : Resolved) (leaf : DeclaredLeaf)
    → P (source_in s) (all_given leaf.bindings.items) (spot_of leaf.instance_at)
    → P (net.source_of (scope_view s)) (map given_of (leaf_of leaf).bindings) (owner_of (leaf_of leaf))
moved P s leaf h =
    subst (λ t. P t (map given_of (leaf_of leaf).bindings) (owner_of (leaf_of leaf))) (sym (same_source (scope_view s)))
    (subst (λ gs. P (source_in s) gs (spot_of leaf.instance_at)) (same_given leaf.bindings.items) h)

back : (P : Actors → List Given → Spot → Type 0) (s : Resolved) (leaf : DeclaredLeaf)
    → P (net.source_of (scope_view s)) (map given_of (leaf_of leaf).bindings) (owner_of (leaf_of leaf))
    → P (source_in s) (all_given leaf.bindings.items) (spot_of leaf.instance_at)
back P s leaf h =
    subst (λ gs. P (source_in s) gs (spot_of leaf.instance_at)) (sym (same_given leaf.bindings.items))
    (subst (λ t. P t (map given_of (leaf_of leaf).bindings) (owner_of (leaf_of leaf))) (same_source (scope_view s)) h)

conforms : (files : List Source) (s : Resolved) (leaf : DeclaredLeaf) → resolved files (leaf_of leaf).class ≡ Gives (scope_view s)
    → HasActor files (leaf_of leaf) → Conforms (source_in s) (all_given leaf.bindings.items) (spot_of leaf.instance_at)
conforms files s leaf h has =
    let one : has.is.scope ≡ scope_view s = gives_one has.is.scope (scope_view s) (sym has.is.is_scope ∙ h) in
    back Conforms s leaf
    (subst (λ t. Conforms (net.source_of t) (map given_of (leaf_of leaf).bindings) (owner_of (leaf_of leaf))) one has.is.is_source.conforms)

pub answered : (r : Result Bound Front) (files : List Source) (s : Resolved) (leaf : DeclaredLeaf)
    → IsChecked r (source_in s) (all_given leaf.bindings.items) (spot_of leaf.instance_at)
    → IsComplete r (source_in s) (all_given leaf.bindings.items) (spot_of leaf.instance_at)
    → resolved files (leaf_of leaf).class ≡ Gives (scope_view s) → IsAnswered r files (leaf_of leaf)
answered (Ok b) files s leaf checked complete h =
    record { scope = scope_view s; is_scope = h; is_source = moved (λ t gs owner. IsSource t gs owner (actor_of b)) s leaf checked }
answered (Err (front.Refused r)) files s leaf checked complete h =
    ((λ has. complete r refl (conforms files s leaf h has)), in_actor h (moved (IsRefused (front.Refused r)) s leaf checked))
answered (Err front.Memory) files s leaf checked complete h = tt

-- ---- a class without a scope

never : {A : Type 0} (a : A) (r : Refusal) → Gives a ≡ Refuses r.rule r.place.file r.place.offset → ⊥
never a r h = cc

no_scope : (files : List Source) (leaf : Leaf) (r : Refusal) → resolved files leaf.class ≡ Refuses r.rule r.place.file r.place.offset
    → IsRefusedAt (front.Refused r) files leaf
no_scope files leaf r h = ((λ has. never has.is.scope r (sym has.is.is_scope ∙ h)), in_scope h)

pub unresolved : (f : Front) (files : List Source) (leaf : Leaf) → IsRefusedScope f (resolved files leaf.class) → IsRefusedAt f files leaf
unresolved (front.Refused r) files leaf h = no_scope files leaf r h
unresolved front.Memory files leaf h = tt

absent : (files : List Source) (o : Option Source) → is_some o ≡ false → resolved_source files o ≡ Refuses import_not_found 0 0
absent files None h = refl
absent files (Some s) h = absurd (cc)

pub not_found : (files : List Source) (leaf : Leaf) → is_some (source_named leaf.class files) ≡ false
    → IsRefusedAt (front.Refused (record { rule = import_not_found; place = record { file = 0; offset = 0 } })) files leaf
not_found files leaf h =
    no_scope files leaf (record { rule = import_not_found; place = record { file = 0; offset = 0 } })
    (absent files (source_named leaf.class files) h)
