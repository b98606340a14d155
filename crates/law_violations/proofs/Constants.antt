-- Sizes and bounds of what has a kind give numbers.
use Rattle.std.proofs.Common.{◌≡◌, ◌*◌, ℕ, ℤ, Bool, true, false, List, [], ◌∷◌, refl}
use Rattle.std.specs.Prelude.{Option, None, Some, if◌then◌else◌}
use Rattle.cal_ast.specs.Places.{begins}
use Rattle.cal_ast.specs.Tree as tree
use Rattle.cal_ast.specs.Tree.{Tree}
use Rattle.cal_model.specs.Actor.{Fun, Local}
use Rattle.cal_model.specs.Call.{fun_named}
use Rattle.cal_model.specs.Kinding.{Argument, Judged, Fine, Broken, Names, OfShape, OfSize, and_so, arguments_fit, branch_kind, binary_kind, constant, constant_number, counter, counts, elements_in, item_kind, kind, kinds, list_kind, list_of_kind, number_given, one_kind, prefix_kind, type_arguments, type_judged, type_with, is_word, with_counters, with_known}
use Rattle.cal_model.specs.Expression.{span}
use Rattle.cal_model.specs.Outcome.{Out, Gives, Traps, Lacks, Clashes}
use Rattle.cal_model.specs.Value.{Kind, NumKind, BoolKind, ListKind, Shape, Value, Num, Truth, Items, kind_of_scalar, kind_of_type}
use Rattle.rvc_base.specs.Rules.{unknown_name, wrong_number_of_arguments}
use Rattle.law_violations.specs.Numbers.{ExpressionsHaveNumbers, GensHaveNumbers, GivesNumber, HasNumbers, TypesHaveNumbers}

-- ---- parts in order

record IsFine {A B : Type 0} (j : Judged A) (f : A → Judged B) (b : B) : Type 0 where
  part : A
  first : j ≡ Fine part
  rest : f part ≡ Fine b

and_fine : {A B : Type 0} (j : Judged A) (f : A → Judged B) (b : B) → and_so j f ≡ Fine b → IsFine j f b
and_fine (Fine a) f b h = record { part = a; first = refl; rest = h }
and_fine (Broken rule at) f b h = absurd cc

-- ---- numbers

fine_same : {A : Type 0} (a b : A) → Fine a ≡ Fine b → a ≡ b
fine_same a b h = cc

given_number : (o : Out Value) (at : ℕ) (z : ℤ) (e : Tree) (names : Names) → constant e names ≡ o → number_given o at ≡ Fine z → GivesNumber e names
given_number (Gives (Num n) left) at z e names same h = record { number = n; left = left; gives = same }
given_number (Gives (Truth b) left) at z e names same h = absurd cc
given_number (Gives (Items vs) left) at z e names same h = absurd cc
given_number (Traps c) at z e names same h = absurd cc
given_number Lacks at z e names same h = absurd cc
given_number Clashes at z e names same h = absurd cc

record IsNumber (e : Tree) (names : Names) : Type 0 where
  is_number : kind e names ≡ Fine NumKind
  gives : GivesNumber e names

a_number : (e : Tree) (names : Names) (z : ℤ) → constant_number (kind e names) e names ≡ Fine z → IsNumber e names
a_number e names z h = go (kind e names) refl h
  where
    go : (j : Judged Kind) → kind e names ≡ j → constant_number j e names ≡ Fine z → IsNumber e names
    go (Fine NumKind) same g = record { is_number = same; gives = given_number (constant e names) (begins e) z e names refl g }
    go (Fine BoolKind) same g = absurd cc
    go (Fine (ListKind n k)) same g = absurd cc
    go (Broken rule at) same g = absurd cc

-- the arguments of a call of a function that there is
record IsCalled (args : Tree) (names : Names) : Type 0 where
  fun : Fun
  fits : Bool
  is_fine : arguments_fit args fun.formals names ≡ Fine fits

a_call : (o : Option Fun) (args : Tree) (names : Names) (at : ℕ) (k : Kind)
    → elim o [ None ↦ Broken unknown_name at | Some f ↦ and_so (arguments_fit args f.formals names) (λ as_many. if as_many then Fine (kind_of_scalar f.result) else Broken wrong_number_of_arguments at) ] ≡ Fine k
    → IsCalled args names
a_call None args names at k h = absurd cc
a_call (Some f) args names at k h =
    let both = and_fine (arguments_fit args f.formals names) (λ as_many. if as_many then Fine (kind_of_scalar f.result) else Broken wrong_number_of_arguments at) k h in
    record { fun = f; fits = both.part; is_fine = both.first }

record IsWord (name : List ℕ) (args : Tree) (names : Names) : Type 0 where
  given : List Argument
  is_fine : type_arguments args names ≡ Fine given

a_word : (b : Bool) (name : List ℕ) (args : Tree) (names : Names) (place at : ℕ) (t : Shape)
    → (if b then and_so (type_arguments args names) (λ given. type_with name given at) else Broken unknown_name place) ≡ Fine t → IsWord name args names
a_word true name args names place at t h =
    let both = and_fine (type_arguments args names) (λ given. type_with name given at) t h in
    record { given = both.part; is_fine = both.first }
a_word false name args names place at t h = absurd cc

mutual
  kind_numbers : (e : Tree) (names : Names) (k : Kind) → kind e names ≡ Fine k → HasNumbers e names
  kind_numbers (tree.number n at) names k h = tt
  kind_numbers (tree.truth b at) names k h = tt
  kind_numbers (tree.variable name at) names k h = tt
  kind_numbers (tree.call name args at) names k h =
      let i = a_call (fun_named name names.funs) args names at k h in
      args_numbers args i.fun.formals names i.fits i.is_fine
  kind_numbers (tree.paren e at) names k h = kind_numbers e names k h
  kind_numbers (tree.if_expr test first other at) names k h =
      let a = and_fine (kind test names) (λ c. and_so (kind first names) (λ k. and_so (kind other names) (λ l. branch_kind c k l at))) k h in
      let b = and_fine (kind first names) (λ k. and_so (kind other names) (λ l. branch_kind a.part k l at)) k a.rest in
      let c = and_fine (kind other names) (λ l. branch_kind a.part b.part l at) k b.rest in
      (kind_numbers test names a.part a.first, kind_numbers first names b.part b.first, kind_numbers other names c.part c.first)
  kind_numbers (tree.list items at) names k h =
      let a = and_fine (kinds items names) (λ ks. list_kind ks at) k h in
      kinds_numbers items names a.part a.first
  kind_numbers (tree.comp item gens at) names k h =
      let a = and_fine (kind item (with_counters gens names)) (λ k. and_so (elements_in gens names) (λ n. list_of_kind n k at)) k h in
      let b = and_fine (elements_in gens names) (λ n. list_of_kind n a.part at) k a.rest in
      (kind_numbers item (with_counters gens names) a.part a.first, gens_numbers gens names b.part b.first)
  kind_numbers (tree.index base place at) names k h =
      let a = and_fine (kind base names) (λ k. and_so (kind place names) (λ l. item_kind k l at)) k h in
      let b = and_fine (kind place names) (λ l. item_kind a.part l at) k a.rest in
      (kind_numbers base names a.part a.first, kind_numbers place names b.part b.first)
  kind_numbers (tree.prefix op e at) names k h =
      let a = and_fine (kind e names) (λ k. prefix_kind op k at) k h in
      kind_numbers e names a.part a.first
  kind_numbers (tree.binary op l r at) names k h =
      let a = and_fine (kind l names) (λ k. and_so (kind r names) (λ m. binary_kind op k m at)) k h in
      let b = and_fine (kind r names) (λ m. binary_kind op a.part m at) k a.rest in
      (kind_numbers l names a.part a.first, kind_numbers r names b.part b.first)
  kind_numbers other names k h = absurd cc

  kinds_numbers : (es : Tree) (names : Names) (ks : List Kind) → kinds es names ≡ Fine ks → HasNumbers es names
  kinds_numbers tree.nil names ks h = tt
  kinds_numbers (tree.cons e es) names ks h =
      let a = and_fine (kind e names) (λ k. and_so (kinds es names) (λ ks. Fine (k ∷ ks))) ks h in
      let b = and_fine (kinds es names) (λ ks. Fine (a.part ∷ ks)) ks a.rest in
      (kind_numbers e names a.part a.first, kinds_numbers es names b.part b.first)
  kinds_numbers other names ks h = absurd cc

  args_numbers : (args : Tree) (formals : List Local) (names : Names) (b : Bool) → arguments_fit args formals names ≡ Fine b → HasNumbers args names
  args_numbers tree.nil [] names b h = tt
  args_numbers tree.nil (f ∷ fs) names b h = tt
  args_numbers (tree.cons e es) [] names b h =
      let x = and_fine (kind e names) (λ k. and_so (arguments_fit es [] names) (λ as_many. Fine false)) b h in
      let y = and_fine (arguments_fit es [] names) (λ as_many. Fine false) b x.rest in
      (kind_numbers e names x.part x.first, args_numbers es [] names y.part y.first)
  args_numbers (tree.cons e es) (f ∷ fs) names b h =
      let x = and_fine (kind e names) (λ k. and_so (one_kind (kind_of_type f.shape) k (begins e)) (λ l. arguments_fit es fs names)) b h in
      let y = and_fine (one_kind (kind_of_type f.shape) x.part (begins e)) (λ l. arguments_fit es fs names) b x.rest in
      (kind_numbers e names x.part x.first, args_numbers es fs names b y.rest)
  args_numbers other fs names b h = absurd cc

  gens_numbers : (gens : Tree) (names : Names) (n : ℕ) → elements_in gens names ≡ Fine n → GensHaveNumbers gens names
  gens_numbers tree.nil names n h = tt
  gens_numbers (tree.cons (tree.gen shape (tree.ident name place) from to at) gens) names n h =
      let a = and_fine (type_judged shape names) (λ t. and_so (counts t (begins shape)) (λ s. and_so (constant_number (kind from names) from names) (λ a.
      and_so (constant_number (kind to names) to names) (λ b. and_so (elements_in gens (with_known (counter name) names)) (λ n. Fine (span a b * n)))))) n h in
      let b = and_fine (counts a.part (begins shape)) (λ s. and_so (constant_number (kind from names) from names) (λ a.
      and_so (constant_number (kind to names) to names) (λ b. and_so (elements_in gens (with_known (counter name) names)) (λ n. Fine (span a b * n))))) n a.rest in
      let c = and_fine (constant_number (kind from names) from names) (λ a.
      and_so (constant_number (kind to names) to names) (λ b. and_so (elements_in gens (with_known (counter name) names)) (λ n. Fine (span a b * n)))) n b.rest in
      let d = and_fine (constant_number (kind to names) to names) (λ b. and_so (elements_in gens (with_known (counter name) names)) (λ n. Fine (span c.part b * n))) n c.rest in
      let e = and_fine (elements_in gens (with_known (counter name) names)) (λ n. Fine (span c.part d.part * n)) n d.rest in
      let f = a_number from names c.part c.first in
      let g = a_number to names d.part d.first in (
        type_numbers shape names a.part a.first,
        f.gives,
        kind_numbers from names NumKind f.is_number,
        g.gives,
        kind_numbers to names NumKind g.is_number,
        gens_numbers gens (with_known (counter name) names) e.part e.first,
      )
  gens_numbers other names n h = absurd cc

  type_numbers : (shape : Tree) (names : Names) (t : Shape) → type_judged shape names ≡ Fine t → HasNumbers shape names
  type_numbers (tree.type_of (tree.ident name place) args at) names t h =
      let i = a_word (is_word name) name args names place at t h in
      type_args_numbers args names i.given i.is_fine
  type_numbers other names t h = absurd cc

  type_args_numbers : (args : Tree) (names : Names) (given : List Argument) → type_arguments args names ≡ Fine given → HasNumbers args names
  type_args_numbers tree.nil names given h = tt
  type_args_numbers (tree.cons (tree.shape_arg (tree.ident name place) shape) args) names given h =
      let a = and_fine (type_judged shape names) (λ t. and_so (type_arguments args names) (λ others. Fine (OfShape name t ∷ others))) given h in
      let b = and_fine (type_arguments args names) (λ others. Fine (OfShape name a.part ∷ others)) given a.rest in
      (type_numbers shape names a.part a.first, type_args_numbers args names b.part b.first)
  type_args_numbers (tree.cons (tree.value_arg (tree.ident name place) value) args) names given h =
      let a = and_fine (constant_number (kind value names) value names) (λ z. and_so (type_arguments args names) (λ others. Fine (OfSize name z ∷ others))) given h in
      let b = and_fine (type_arguments args names) (λ others. Fine (OfSize name a.part ∷ others)) given a.rest in
      let f = a_number value names a.part a.first in
      ((f.gives, kind_numbers value names NumKind f.is_number), type_args_numbers args names b.part b.first)
  type_args_numbers other names given h = absurd cc

pub expressions_have_numbers : ExpressionsHaveNumbers
expressions_have_numbers e names k h = kind_numbers e names k h

pub types_have_numbers : TypesHaveNumbers
types_have_numbers shape names t h = type_numbers shape names t h
