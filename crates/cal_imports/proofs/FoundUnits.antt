-- The index of the names of units.
use Rattle.std.proofs.Common.{◌≡◌, ℕ, Bool, true, false, cond, List, [], ◌∷◌, ◌++◌, ◌⊎◌, inl, inr, ⊎_elim, map, refl, sym, ap, subst, ◌∙◌}
use Rattle.std.proofs.lemmas.List.{map-append}
use Rattle.std.proofs.lemmas.Slice.Eq.{bytes_eq-Decides}
use Rattle.std.specs.Prelude.{Option, None, Some, String, if◌then◌else◌, is_some, option_map, option_copied, string_bytes}
use Rattle.std.specs.Borrow.{Bor}
use Rattle.std.specs.Map.{lookup}
use Rattle.std.specs.Str.{bytes_eq}
use Rattle.std.specs.declared.alloc.Global.{Global as Heap}
use Rattle.indexmap.specs.IndexMap.{IndexMap, insert_entry}
use Rattle.indexmap.proofs.CallerLemmas.{insert_entry-new}
use Rattle.cal_scope.specs.Names.{Global}
use Rattle.cal_imports.specs.Answer.{Gives}
use Rattle.cal_imports.specs.Sources.{Source, source_named}
use Rattle.cal_imports.specs.UnitNames.{AreDeclared, Unit, declared_by, declared_in, names_of, unit_named, unit_of, unit_with}
use Rattle.cal_model.proofs.KindNames.{text-same}

-- ---- the index

-- the first entry of the class
pub found_entry : (class : List ℕ) (es : List (String Heap × List Global)) → lookup (λ k. bytes_eq class (string_bytes k)) es ≡ unit_named class (map unit_of es)
found_entry class [] = refl
found_entry class (e ∷ es) = go (bytes_eq class (string_bytes e.0)) (found_entry class es)
  where
    go : (b : Bool) → lookup (λ k. bytes_eq class (string_bytes k)) es ≡ unit_named class (map unit_of es)
        → cond b (Some e.1) (lookup (λ k. bytes_eq class (string_bytes k)) es) ≡ (if b then Some e.1 else unit_named class (map unit_of es))
    go true rest = refl
    go false rest = rest

pub found_borrowed : (o : Option (Bor (List Global))) → option_map (λ names. names.now) o ≡ option_copied o
found_borrowed None = refl
found_borrowed (Some names) = refl

-- an entry that wasn't there goes last
pub added_entry : {S : Type 0} (m : IndexMap (String Heap) (List Global) S) (k : String Heap) (names : List Global) (class : List ℕ) → string_bytes k ≡ class
    → unit_named class (map unit_of m.entries) ≡ None
    → map unit_of (insert_entry (λ a b. bytes_eq (string_bytes a) (string_bytes b)) m.entries k names) ≡ map unit_of m.entries ++ unit_with class names ∷ []
added_entry m k names class e h =
    let none : lookup (λ x. bytes_eq (string_bytes k) (string_bytes x)) m.entries ≡ None = found_entry (string_bytes k) m.entries ∙ ap (λ c. unit_named c (map unit_of m.entries)) e ∙ h in
    ap (map unit_of) (insert_entry-new (λ a b. bytes_eq (string_bytes a) (string_bytes b)) m k names none)
    ∙ map-append unit_of m.entries ((k, names) ∷ [])
    ∙ ap (λ c. map unit_of m.entries ++ unit_with c names ∷ []) e

-- ---- what is kept

some-same : {A : Type 0} (a b : A) → Some a ≡ Some b → a ≡ b
some-same a b e = cc

-- what was kept, or the one that was added
named_behind : (class : List ℕ) (us : List Unit) (u : Unit) (names : List Global) → unit_named class (us ++ u ∷ []) ≡ Some names
    → (unit_named class us ≡ Some names) ⊎ ((bytes_eq class u.class ≡ true) × (u.names ≡ names))
named_behind class [] u names h = go (bytes_eq class u.class) refl h
  where
    go : (b : Bool) → bytes_eq class u.class ≡ b → (if b then Some u.names else None) ≡ Some names
        → (unit_named class [] ≡ Some names) ⊎ ((bytes_eq class u.class ≡ true) × (u.names ≡ names))
    go true e g = inr (e, some-same u.names names g)
    go false e g = absurd (cc)
named_behind class (v ∷ us) u names h = go (bytes_eq class v.class) h (named_behind class us u names)
  where
    go : (b : Bool) → (if b then Some v.names else unit_named class (us ++ u ∷ [])) ≡ Some names
        → (unit_named class (us ++ u ∷ []) ≡ Some names → (unit_named class us ≡ Some names) ⊎ ((bytes_eq class u.class ≡ true) × (u.names ≡ names)))
        → ((if b then Some v.names else unit_named class us) ≡ Some names) ⊎ ((bytes_eq class u.class ≡ true) × (u.names ≡ names))
    go true g rest = inl g
    go false g rest = rest g

pub one_more_kept : (files : List Source) (kept : List Unit) (class : List ℕ) (names : List Global) → AreDeclared files kept
    → ((file at : ℕ) → declared_in files class file at ≡ Gives names) → AreDeclared files (kept ++ unit_with class names ∷ [])
one_more_kept files kept class names before new other found h file at =
    ⊎_elim (λ there. before other found there file at)
    (λ last. ap (λ c. declared_in files c file at) ((bytes_eq-Decides other class).0 last.0) ∙ new file at ∙ ap Gives last.1)
    (named_behind other kept (unit_with class names) found h)

-- the names that are kept last are those of their class, if it had none
named_last : (class : List ℕ) (us : List Unit) (names : List Global) → unit_named class us ≡ None → unit_named class (us ++ unit_with class names ∷ []) ≡ Some names
named_last class [] names h = ap (λ b. if b then Some names else None) (text-same class)
named_last class (u ∷ us) names h = go (bytes_eq class u.class) h (named_last class us names)
  where
    go : (b : Bool) → (if b then Some u.names else unit_named class us) ≡ None
        → (unit_named class us ≡ None → unit_named class (us ++ unit_with class names ∷ []) ≡ Some names)
        → (if b then Some u.names else unit_named class (us ++ unit_with class names ∷ [])) ≡ Some names
    go true g rest = absurd (cc)
    go false g rest = rest g

-- what a unit declares is the same for each import
anywhere : (o : Option Source) (names : List Global) (file at : ℕ) → declared_by o file at ≡ Gives names → (other place : ℕ) → declared_by o other place ≡ Gives names
anywhere None names file at h other place = absurd (cc)
anywhere (Some s) names file at h other place = h

-- ---- what is kept behind a call

module _ (files : List Source) (class : List ℕ) (file at : ℕ) where
  pub new_kept : (old new : List Unit) (names : List Global) → AreDeclared files old → declared_in files class file at ≡ Gives names
      → new ≡ old ++ unit_with class names ∷ [] → AreDeclared files new
  new_kept old new names before found e =
      subst (AreDeclared files) (sym e) (one_more_kept files old class names before (anywhere (source_named class files) names file at found))

  new_named : (old new : List Unit) (names : List Global) → unit_named class old ≡ None → new ≡ old ++ unit_with class names ∷ [] → unit_named class new ≡ Some names
  new_named old new names none e = ap (unit_named class) e ∙ named_last class old names none

  pub new_there : (old new : List Unit) (names : List Global) → unit_named class old ≡ None → new ≡ old ++ unit_with class names ∷ [] → is_some (unit_named class new) ≡ true
  new_there old new names none e = ap is_some (new_named old new names none e)

  pub new_found : (old new : List Unit) (names : List Global) → unit_named class old ≡ None → declared_in files class file at ≡ Gives names
      → new ≡ old ++ unit_with class names ∷ [] → declared_in files class file at ≡ Gives (names_of (unit_named class new))
  new_found old new names none found e = found ∙ ap (λ o. Gives (names_of o)) (sym (new_named old new names none e))

  pub kept_found : (kept : List Unit) → AreDeclared files kept → is_some (unit_named class kept) ≡ true → declared_in files class file at ≡ Gives (names_of (unit_named class kept))
  kept_found kept before some = go (unit_named class kept) some (before class)
    where
      go : (o : Option (List Global)) → is_some o ≡ true → ((names : List Global) → o ≡ Some names → (f a : ℕ) → declared_in files class f a ≡ Gives names)
          → declared_in files class file at ≡ Gives (names_of o)
      go (Some names) s f = f names refl file at
      go None s f = absurd (cc)
