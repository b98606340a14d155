use Rattle.std.proofs.Common.{◌≡◌, ◌∷◌, [], map, sym, subst, arith, rules}
use Rattle.std.specs.Prelude.{IfOk, option_map}
use Rattle.cal_model.specs.View.{shape_view}
use Rattle.expr_lower.specs.ShapeMeant.{items_of_type, many_meant, shape_meant}
use Rattle.std.proofs.lemmas.List.{length-map}
use Rattle.cal_ast.specs.Tree as tree
use Rattle.cal_ast.specs.Tree.{listed}
use Rattle.cal_ast.specs.View.{expr_tree, ident_tree, type_arg_tree, type_tree}
use Rattle.cal_ast.specs.declared.expr.TypeArg as args
use Rattle.expr_lower.proofs.ShapeIs.{few_args, many_args, two_are}
use Rattle.expr_lower.proofs.meanings.+shape_meant.Goals as goal

pub items_of_type-returns-in_default : goal.items_of_type-returns-in_default
items_of_type-returns-in_default t c =
    let same = length-map c.args.args.now type_arg_tree in
    let many = c.in_default.len_at_least in
    sym (many_args (map type_arg_tree c.args.args.now) (omega (arith, same, many)))

pub items_of_type-returns-in-len1 : goal.items_of_type-returns-in-len1
items_of_type-returns-in-len1 t c =
    let same = length-map c.args.args.now type_arg_tree in
    let few = c.in-len1.len_below in
    sym (few_args (map type_arg_tree c.args.args.now) (omega (arith, same, few)))

pub items_of_type-returns-in-len2 : goal.items_of_type-returns-in-len2
items_of_type-returns-in-len2 t c =
    let two = two_are c.args.args.now c.first-item.result c.second-item.result c.in-len2.len_at_least c.in-len2.len_below c.first-item.is c.second-item.is in
    subst (λ xs. IfOk c.two_args.result (λ r. option_map shape_view r ≡ items_of_type (listed (map type_arg_tree xs)))) (sym two) c.two_args.ensures

pub two_args-returns-in-Shape : goal.two_args-returns-in-Shape
two_args-returns-in-Shape t c =
    let is : type_arg_tree c.args.first.now ≡ tree.shape_arg (ident_tree c.in-Shape.name) (type_tree c.in-Shape.shape) = search (rules, args.the_lemmas) in
    subst (λ x. IfOk c.many_meant.result (λ r. option_map shape_view r ≡ items_of_type (listed (x ∷ type_arg_tree c.args.second.now ∷ [])))) (sym is)
    (subst (λ s. IfOk c.many_meant.result (λ r. option_map shape_view r ≡ many_meant s (shape_meant (type_tree c.in-Shape.shape)))) c.size_of_arg.ensures c.many_meant.ensures)

pub two_args-returns-in-Shape-second : goal.two_args-returns-in-Shape-second
two_args-returns-in-Shape-second t c =
    let first : type_arg_tree c.args.first.now ≡ tree.value_arg (ident_tree c.in-Value.name) (expr_tree c.in-Value.value) = search (rules, args.the_lemmas) in
    let second : type_arg_tree c.args.second.now ≡ tree.shape_arg (ident_tree c.in-Shape-second.name) (type_tree c.in-Shape-second.shape) = search (rules, args.the_lemmas) in
    subst (λ x. IfOk c.many_meant-in-Shape-second.result (λ r. option_map shape_view r ≡ items_of_type (listed (x ∷ type_arg_tree c.args.second.now ∷ [])))) (sym first)
    (subst (λ y. IfOk c.many_meant-in-Shape-second.result (λ r. option_map shape_view r ≡ items_of_type (listed (tree.value_arg (ident_tree c.in-Value.name) (expr_tree c.in-Value.value) ∷ y ∷ [])))) (sym second)
    (subst (λ s. IfOk c.many_meant-in-Shape-second.result (λ r. option_map shape_view r ≡ many_meant s (shape_meant (type_tree c.in-Shape-second.shape)))) c.literal_size.ensures c.many_meant-in-Shape-second.ensures))
