-- A library with one file, and the network that it means: a worked example.
use Rattle.std.proofs.Common.{◌≡◌, ℕ, zero, suc, true, false, List, [], ◌∷◌, Some, refl, sym, ap, ◌∙◌, arith}
use Rattle.std.specs.Prelude.{codes, if◌then◌else◌, slice_get}
use Rattle.std.specs.Str.{bytes_eq}
use Rattle.rvc_io.specs.Told.{Lacking, Holding}
use Rattle.cal_model.specs.Selection.{State}
use Rattle.net_model.specs.Network.{Network}
use Rattle.fnl_tree.specs.Tree.{Net as BoundNet, Tree}
use Rattle.fnl_bind.specs.Library.{Entry}
use Rattle.fnl_bind.specs.Trees.{bound}
use Rattle.fnl_flatten.specs.Links.{Leads, Chain, last, more, AreLinks}
use Rattle.fnl_flatten.specs.Flat.{IsFlat}
use Rattle.cal_files.specs.Loading.{Library}
use Rattle.fnl_grammar.proofs.MarkupRows.{bare, bare_file}
use Rattle.fnl_source.specs.Files.{a_network, network, Read, says_network, AreLoaded, files_of}
use Rattle.fnl_source.specs.Library.{IsLibraryNetwork}
use Rattle.fnl_source.specs.Source.{IsSourceNetwork, of_network}
use Rattle.fnl_source.proofs.Choices.{choice_by, choice_fits}

-- the library has `T.xdf` alone
abbrev one_file : Library
one_file name = if bytes_eq name (codes "T.xdf") then Holding (codes "<XDF name='T'/>") else Lacking

abbrev reads : List Read
reads = record { class = codes "T"; text = codes "<XDF name='T'/>"; content = network bare } ∷ []

loaded : AreLoaded one_file (a_network (codes "T")) reads
loaded = record {
  choice = choice_by one_file (λ class. false);
  fits = choice_fits one_file (λ class. false);
  are_read = (
    record {
      want = record { class = codes "T"; network = true };
      is_next = refl;
      same_class = refl;
      is_text = record { is_told = refl; short = omega arith };
      says = says_network bare_file;
      few = omega arith;
      small = omega arith;
    },
    tt,
  );
  whole = refl;
}

-- ---- what it means: a network without ports, leaves and links

abbrev entry : Entry
entry = record { class = codes "T"; file = 1; net = bare }

abbrev tree : Tree
tree = bound (entry ∷ []) (codes "T")

abbrev top : BoundNet
top = record { file = 1; path = []; ins = []; outs = []; parts = []; wires = [] }

abbrev meant : Network State
meant = record { leaves = []; links = []; ins = []; outs = [] }

some_same : {A : Type 0} (x y : A) → Some x ≡ Some y → x ≡ y
some_same x y e = cc

no_wires : (number : ℕ) (net : BoundNet) → slice_get (top ∷ []) number ≡ Some net → net.wires ≡ []
no_wires zero net e = ap (λ n. n.wires) (sym (some_same top net e))
no_wires (suc n) net e = absurd cc

no_leads : {j k : _} {size : ℕ} → Leads tree [] j k size → ⊥
no_leads h =
    let none : slice_get [] h.place ≡ Some h.wire = ap (λ ws. slice_get ws h.place) (sym (no_wires h.number h.net h.is_net)) ∙ h.is_wire in
    cc

no_chain : {j k : _} {size : ℕ} → Chain tree [] j k size → ⊥
no_chain (last h) = no_leads h
no_chain (more h c) = no_leads h

no_links : AreLinks tree [] []
no_links = record {
  each = λ l link e. absurd cc;
  all = λ link h. absurd (no_chain h.chain);
  in_order = λ l m link other less e f. absurd cc;
  few = omega arith;
  little = omega arith;
}

flat : IsFlat tree [] meant
flat = record {
  conforms = refl;
  paths = refl;
  classes = refl;
  count = refl;
  few = omega arith;
  behaviours = λ l leaf head e f. absurd cc;
  links = no_links;
  top = top;
  is_top = refl;
  ins = refl;
  outs = refl;
}

means : IsSourceNetwork (files_of reads) (codes "T") meant
means = record {
  tree = tree;
  is_tree = of_network {top = entry} refl refl;
  actors = [];
  are_actors = tt;
  flat = flat;
}

worked : IsLibraryNetwork one_file (a_network (codes "T")) meant
worked = record { reads = reads; are_loaded = loaded; means = means }
