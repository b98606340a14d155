use Rattle.std.proofs.Common.{sym, subst, rules}
use Rattle.fnl_tree.specs.View.{net_of, tree_of}
use Rattle.fnl_flatten.specs.Flattened.{IsWithin}
use Rattle.fnl_flatten.specs.Links.{AreLinks}
use Rattle.fnl_flatten.specs.View.{heads_of}
use Rattle.fnl_flatten.proofs.flat.flatten.Goals as goal

pub returns-in-Ok-flat_of-clause-flat : goal.returns-in-Ok-flat_of-clause-flat
returns-in-Ok-flat_of-clause-flat c =
    let seen : IsWithin c.deref.result.now = search rules in
    let within : IsWithin c.in-Ok.links.items = subst IsWithin c.deref.ensures.value seen in
    let links : AreLinks (tree_of c.args.tree.now) (heads_of c.args.heads.now) c.in-Ok.links.items =
    record {
      each = c.in-Ok.ensures.joined.each;
      all = c.in-Ok.ensures.joined.all;
      in_order = c.in-Ok.ensures.joined.in_order;
      few = within.few;
      little = within.little;
    } in
    record {
      conforms = c.in-Ok.ensures.conforms;
      paths = c.in-Ok-flat_of.ensures.paths;
      classes = c.in-Ok-flat_of.ensures.classes;
      links = subst (λ ls. AreLinks (tree_of c.args.tree.now) (heads_of c.args.heads.now) ls.items) (sym c.in-Ok-flat_of.ensures.links) links;
      top = net_of c.in-Some.top.now;
      is_top = sym c.in-Some.ensures.is;
      ins = c.in-Ok-flat_of.ensures.ins;
      outs = c.in-Ok-flat_of.ensures.outs;
    }
