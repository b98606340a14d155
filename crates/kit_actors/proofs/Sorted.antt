-- A guard that is sorted as a truth value is well-formed.
use Rattle.std.proofs.Common.{◌≡◌, ℕ, Bool, true, false, List, [], ◌∷◌, refl, sym, ap, subst, ◌∙◌, codes}
use Rattle.std.specs.Prelude.{◌||◌, ◌&&◌, if◌then◌else◌}
use Rattle.std.specs.Str.{bytes_eq}
use Rattle.cal_model.proofs.KindNames.{same-text}
use Rattle.cal_ast.specs.declared.expr.PrefixOp.{PrefixOp}
use Rattle.cal_ast.specs.declared.expr.PrefixOp.TheVariants.{Not, Neg, BitNot}
use Rattle.cal_ast.specs.declared.expr.BinOp.{BinOp}
use Rattle.cal_ast.specs.declared.expr.BinOp.TheVariants.{Or, And, BitOr, BitXor, BitAnd, Eq, Ne, Lt, Le, Gt, Ge, Shl, Shr, Add, Sub, Mul, Div, Mod}
use Rattle.cal_ast.specs.Tree as tree
use Rattle.cal_ast.specs.Tree.{Tree}
use Rattle.cal_model.specs.Value.{Kind, NumKind, BoolKind, ListKind}
use Rattle.cal_model.specs.Kinding.{Names, Fine, and_so, kind, prefix_kind, binary_kind, item_kind, branch_kind}
use Rattle.cal_model.specs.Sound.{IsPlain, HidesNoCall, names_of, with_patterns}
use Rattle.kit_actors.specs.declared.guarded.Takes.{Takes}
use Rattle.kit_actors.specs.declared.guarded.Takes.TheVariants.{One, Two, Other, Four}
use Rattle.kit_actors.specs.declared.sorting.Sort.{Sort}
use Rattle.kit_actors.specs.declared.sorting.Sort.TheVariants.{Number, Truth, Unfit}
use Rattle.kit_actors.specs.Examples.{taken, of_actions}
use Rattle.kit_actors.specs.Sorts.{both, branches, is_list, is_nil, item, of_numbers, of_truths, prefixed, is_token, sort, token}

-- the names that the guard of an action sees
abbrev pub scope : Takes → Names
scope takes = with_patterns (of_actions [] false) (taken takes ∷ []) (names_of (of_actions [] false))

-- an expression of this kind, as soundness asks for it
pub record IsPart (k : Kind) (t : Tree) (takes : Takes) : Type 0 where
  pub judged : kind t (scope takes) ≡ Fine k
  pub plain : IsPlain t
  pub calls : HidesNoCall t (scope takes)

abbrev pub Means : Sort → Tree → Takes → Type 0
Means Number t takes = IsPart NumKind t takes
Means Truth t takes = IsPart BoolKind t takes
Means Unfit t takes = Unit {0}

-- ---- operations

one_kind_of : (op : PrefixOp) (t : Tree) (at : ℕ) (names : Names) (k : Kind) → kind t names ≡ Fine k
    → kind (tree.prefix op t at) names ≡ prefix_kind op k at
one_kind_of op t at names k p = ap (λ j. and_so j (λ k. prefix_kind op k at)) p

two_kinds : (op : BinOp) (t u : Tree) (at : ℕ) (names : Names) (k l : Kind) → kind t names ≡ Fine k → kind u names ≡ Fine l
    → kind (tree.binary op t u at) names ≡ binary_kind op k l at
two_kinds op t u at names k l p q =
    ap (λ j. and_so j (λ k. and_so (kind u names) (λ m. binary_kind op k m at))) p
    ∙ ap (λ j. and_so j (λ m. binary_kind op k m at)) q

three_kinds : (c t u : Tree) (at : ℕ) (names : Names) (k l : Kind) → kind c names ≡ Fine BoolKind → kind t names ≡ Fine k → kind u names ≡ Fine l
    → kind (tree.if_expr c t u at) names ≡ branch_kind BoolKind k l at
three_kinds c t u at names k l p q r =
    ap (λ j. and_so j (λ c. and_so (kind t names) (λ k. and_so (kind u names) (λ l. branch_kind c k l at)))) p
    ∙ ap (λ j. and_so j (λ k. and_so (kind u names) (λ l. branch_kind BoolKind k l at))) q
    ∙ ap (λ j. and_so j (λ l. branch_kind BoolKind k l at)) r

prefix_part : (op : PrefixOp) (t : Tree) (at : ℕ) (takes : Takes) (k l : Kind) → prefix_kind op k at ≡ Fine l → IsPart k t takes
    → IsPart l (tree.prefix op t at) takes
prefix_part op t at takes k l e p =
    record { judged = one_kind_of op t at (scope takes) k p.judged ∙ e; plain = p.plain; calls = p.calls }

binary_part : (op : BinOp) (t u : Tree) (at : ℕ) (takes : Takes) (k l : Kind) → binary_kind op k k at ≡ Fine l → IsPart k t takes → IsPart k u takes
    → IsPart l (tree.binary op t u at) takes
binary_part op t u at takes k l e p q = record {
  judged = two_kinds op t u at (scope takes) k k p.judged q.judged ∙ e;
  plain = (p.plain, q.plain);
  calls = (p.calls, q.calls);
}

if_part : (c t u : Tree) (at : ℕ) (takes : Takes) (k : Kind) → branch_kind BoolKind k k at ≡ Fine k → IsPart BoolKind c takes → IsPart k t takes → IsPart k u takes
    → IsPart k (tree.if_expr c t u at) takes
if_part c t u at takes k e p q r = record {
  judged = three_kinds c t u at (scope takes) k k p.judged q.judged r.judged ∙ e;
  plain = (p.plain, q.plain, r.plain);
  calls = (p.calls, q.calls, r.calls);
}

numbers_mean : (op : BinOp) (t u : Tree) (at : ℕ) (x : Takes) → IsPart NumKind t x → IsPart NumKind u x → Means (of_numbers op) (tree.binary op t u at) x
numbers_mean Or t u at x p q = tt
numbers_mean And t u at x p q = tt
numbers_mean BitOr t u at x p q = binary_part BitOr t u at x NumKind NumKind refl p q
numbers_mean BitXor t u at x p q = binary_part BitXor t u at x NumKind NumKind refl p q
numbers_mean BitAnd t u at x p q = binary_part BitAnd t u at x NumKind NumKind refl p q
numbers_mean Eq t u at x p q = binary_part Eq t u at x NumKind BoolKind refl p q
numbers_mean Ne t u at x p q = binary_part Ne t u at x NumKind BoolKind refl p q
numbers_mean Lt t u at x p q = binary_part Lt t u at x NumKind BoolKind refl p q
numbers_mean Le t u at x p q = binary_part Le t u at x NumKind BoolKind refl p q
numbers_mean Gt t u at x p q = binary_part Gt t u at x NumKind BoolKind refl p q
numbers_mean Ge t u at x p q = binary_part Ge t u at x NumKind BoolKind refl p q
numbers_mean Shl t u at x p q = binary_part Shl t u at x NumKind NumKind refl p q
numbers_mean Shr t u at x p q = binary_part Shr t u at x NumKind NumKind refl p q
numbers_mean Add t u at x p q = binary_part Add t u at x NumKind NumKind refl p q
numbers_mean Sub t u at x p q = binary_part Sub t u at x NumKind NumKind refl p q
numbers_mean Mul t u at x p q = binary_part Mul t u at x NumKind NumKind refl p q
numbers_mean Div t u at x p q = binary_part Div t u at x NumKind NumKind refl p q
numbers_mean Mod t u at x p q = binary_part Mod t u at x NumKind NumKind refl p q

truths_mean : (op : BinOp) (t u : Tree) (at : ℕ) (x : Takes) → IsPart BoolKind t x → IsPart BoolKind u x → Means (of_truths op) (tree.binary op t u at) x
truths_mean Or t u at x p q = binary_part Or t u at x BoolKind BoolKind refl p q
truths_mean And t u at x p q = binary_part And t u at x BoolKind BoolKind refl p q
truths_mean Eq t u at x p q = binary_part Eq t u at x BoolKind BoolKind refl p q
truths_mean Ne t u at x p q = binary_part Ne t u at x BoolKind BoolKind refl p q
truths_mean op t u at x p q = tt

both_mean : (op : BinOp) (k l : Sort) (t u : Tree) (at : ℕ) (x : Takes) → Means k t x → Means l u x → Means (both op k l) (tree.binary op t u at) x
both_mean op Number Number t u at x p q = numbers_mean op t u at x p q
both_mean op Truth Truth t u at x p q = truths_mean op t u at x p q
both_mean op Number Truth t u at x p q = tt
both_mean op Number Unfit t u at x p q = tt
both_mean op Truth Number t u at x p q = tt
both_mean op Truth Unfit t u at x p q = tt
both_mean op Unfit l t u at x p q = tt

prefixed_means : (op : PrefixOp) (k : Sort) (t : Tree) (at : ℕ) (x : Takes) → Means k t x → Means (prefixed op k) (tree.prefix op t at) x
prefixed_means Not Truth t at x p = prefix_part Not t at x BoolKind BoolKind refl p
prefixed_means Not Number t at x p = tt
prefixed_means Not Unfit t at x p = tt
prefixed_means Neg Number t at x p = prefix_part Neg t at x NumKind NumKind refl p
prefixed_means Neg Truth t at x p = tt
prefixed_means Neg Unfit t at x p = tt
prefixed_means BitNot Number t at x p = prefix_part BitNot t at x NumKind NumKind refl p
prefixed_means BitNot Truth t at x p = tt
prefixed_means BitNot Unfit t at x p = tt

branches_mean : (c k l : Sort) (s t u : Tree) (at : ℕ) (x : Takes) → Means c s x → Means k t x → Means l u x → Means (branches c k l) (tree.if_expr s t u at) x
branches_mean Truth Number Number s t u at x o p q = if_part s t u at x NumKind refl o p q
branches_mean Truth Truth Truth s t u at x o p q = if_part s t u at x BoolKind refl o p q
branches_mean Truth Number Truth s t u at x o p q = tt
branches_mean Truth Number Unfit s t u at x o p q = tt
branches_mean Truth Truth Number s t u at x o p q = tt
branches_mean Truth Truth Unfit s t u at x o p q = tt
branches_mean Truth Unfit l s t u at x o p q = tt
branches_mean Number k l s t u at x o p q = tt
branches_mean Unfit k l s t u at x o p q = tt

-- ---- names

-- a name of these bytes is a number in this scope
abbrev IsNumber : Takes → List ℕ → Type 0
IsNumber takes name = (at : ℕ) → kind (tree.variable name at) (scope takes) ≡ Fine NumKind

number_part : (name : List ℕ) (at : ℕ) (x : Takes) → IsNumber x name → IsPart NumKind (tree.variable name at) x
number_part name at x e = record { judged = e at; plain = tt; calls = tt }

state_is : (x : Takes) → IsNumber x (codes "s")
state_is One at = refl
state_is Two at = refl
state_is Other at = refl
state_is Four at = refl

-- if the bytes are these, what holds of these holds
if_these : (name known : List ℕ) (x : Takes) (b : Bool) → bytes_eq name known ≡ b → IsNumber x known → (at : ℕ) → Means (token b) (tree.variable name at) x
if_these name known x true e h at = number_part name at x (subst (λ n. IsNumber x n) (sym (same-text name known e)) h)
if_these name known x false e h at = tt

two_tokens : (name : List ℕ) (at : ℕ) (a b : Bool) → bytes_eq name (codes "v") ≡ a → bytes_eq name (codes "d") ≡ b
    → Means (token (a || b)) (tree.variable name at) Two
two_tokens name at true b p q = if_these name (codes "v") Two true p (λ at. refl) at
two_tokens name at false b p q = if_these name (codes "d") Two b q (λ at. refl) at

tokens_mean : (name : List ℕ) (at : ℕ) (x : Takes) → Means (token (is_token name x)) (tree.variable name at) x
tokens_mean name at One = if_these name (codes "v") One (bytes_eq name (codes "v")) refl (λ at. refl) at
tokens_mean name at Two = two_tokens name at (bytes_eq name (codes "v")) (bytes_eq name (codes "d")) refl refl
tokens_mean name at Other = if_these name (codes "v") Other (bytes_eq name (codes "v")) refl (λ at. refl) at
tokens_mean name at Four = tt

named_means : (name : List ℕ) (at : ℕ) (x : Takes) (b : Bool) → bytes_eq name (codes "s") ≡ b
    → Means (if b then Number else token (is_token name x)) (tree.variable name at) x
named_means name at x true e = if_these name (codes "s") x true e (state_is x) at
named_means name at x false e = tokens_mean name at x

-- ---- the list, and calls

four_named : (name : List ℕ) (at : ℕ) → name ≡ codes "t" → IsPart (ListKind 4 NumKind) (tree.variable name at) Four
four_named name at e = subst (λ n. IsPart (ListKind 4 NumKind) (tree.variable n at) Four) (sym e) (record { judged = refl; plain = tt; calls = tt })

list_part : (t : Tree) (x : Takes) → is_list t x ≡ true → IsPart (ListKind 4 NumKind) t x
list_part (tree.variable name at) One h = absurd (cc)
list_part (tree.variable name at) Two h = absurd (cc)
list_part (tree.variable name at) Other h = absurd (cc)
list_part (tree.variable name at) Four h = four_named name at (same-text name (codes "t") h)
list_part other x h = absurd (cc)

item_part : (t u : Tree) (at : ℕ) (x : Takes) → IsPart (ListKind 4 NumKind) t x → IsPart NumKind u x → IsPart NumKind (tree.index t u at) x
item_part t u at x p q = record {
  judged = ap (λ j. and_so j (λ k. and_so (kind u (scope x)) (λ l. item_kind k l at))) p.judged
      ∙ ap (λ j. and_so j (λ l. item_kind (ListKind 4 NumKind) l at)) q.judged;
  plain = (p.plain, q.plain);
  calls = (p.calls, q.calls);
}

item_means : (b : Bool) (k : Sort) (t u : Tree) (at : ℕ) (x : Takes) → is_list t x ≡ b → Means k u x → Means (item b k) (tree.index t u at) x
item_means true Number t u at x e p = item_part t u at x (list_part t x e) p
item_means false Number t u at x e p = tt
item_means b Truth t u at x e p = tt
item_means b Unfit t u at x e p = tt

f_called : (at : ℕ) (x : Takes) → IsPart BoolKind (tree.call (codes "f") tree.nil at) x
f_called at One = record { judged = refl; plain = tt; calls = (refl, tt) }
f_called at Two = record { judged = refl; plain = tt; calls = (refl, tt) }
f_called at Other = record { judged = refl; plain = tt; calls = (refl, tt) }
f_called at Four = record { judged = refl; plain = tt; calls = (refl, tt) }

called_means : (name : List ℕ) (args : Tree) (at : ℕ) (x : Takes) (b : Bool) → bytes_eq name (codes "f") ≡ b → Means (if b && is_nil args then Truth else Unfit) (tree.call name args at) x
called_means name args at x false e = tt
called_means name tree.nil at x true e = subst (λ n. IsPart BoolKind (tree.call n tree.nil at) x) (sym (same-text name (codes "f") e)) (f_called at x)
called_means name other at x true e = tt

-- ---- all expressions

paren_means : (k : Sort) (e : Tree) (at : ℕ) (x : Takes) → Means k e x → Means k (tree.paren e at) x
paren_means Number e at x p = record { judged = p.judged; plain = p.plain; calls = p.calls }
paren_means Truth e at x p = record { judged = p.judged; plain = p.plain; calls = p.calls }
paren_means Unfit e at x p = tt

pub sort_means : (t : Tree) (x : Takes) → Means (sort t x) t x
sort_means (tree.number n at) x = record { judged = refl; plain = tt; calls = tt }
sort_means (tree.truth b at) x = record { judged = refl; plain = tt; calls = tt }
sort_means (tree.variable name at) x = named_means name at x (bytes_eq name (codes "s")) refl
sort_means (tree.paren e at) x = paren_means (sort e x) e at x (sort_means e x)
sort_means (tree.if_expr c t u at) x = branches_mean (sort c x) (sort t x) (sort u x) c t u at x (sort_means c x) (sort_means t x) (sort_means u x)
sort_means (tree.index t u at) x = item_means (is_list t x) (sort u x) t u at x refl (sort_means u x)
sort_means (tree.prefix op e at) x = prefixed_means op (sort e x) e at x (sort_means e x)
sort_means (tree.binary op t u at) x = both_mean op (sort t x) (sort u x) t u at x (sort_means t x) (sort_means u x)
sort_means (tree.call name args at) x = called_means name args at x (bytes_eq name (codes "f")) refl
sort_means other x = tt

-- a guard that is sorted so is one
pub is_guard : (t : Tree) (x : Takes) → sort t x ≡ Truth → IsPart BoolKind t x
is_guard t x e = subst (λ s. Means s t x) e (sort_means t x)
