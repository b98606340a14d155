-- Feeds that are opened one after another.
use Rattle.std.proofs.Common.{◌≡◌, ℕ, zero, suc, ◌+◌, ◌<◌, ◌≤◌, inl, inr, true, false, List, [], ◌∷◌, ◌++◌, refl, sym, subst, ◌∙◌, arith, Option, None, Some, Contains}
use Rattle.std.specs.Prelude.{option_map, slice_get, if◌then◌else◌}
use Rattle.std.proofs.lemmas.Bool.{cases_eq}
use Rattle.std.proofs.lemmas.List.{append_assoc, append-nil}
use Rattle.std.proofs.lemmas.List.Elements.{Contains-append_left, Contains-append_right, Contains-append_cases}
use Rattle.rvc_io.specs.Count.{HasRisen}
use Rattle.rvc_io.specs.Feeds.{FailsOn, Inputs, OpensOn, OpensOnlyAt}
use Rattle.rvc_words.specs.Words.{PortText}
use Rattle.net_model.specs.Network.{is_outside}
use Rattle.net_model.specs.declared.wiring.End.{End}
use Rattle.net_model.specs.declared.wiring.End.TheVariants.{Net as AtNet}
use Rattle.net_model.specs.declared.wiring.Link.{Link}
use Rattle.cmd_ports.specs.Opening.{FeedFails, FeedsAreOpened, IsApart, Opening, feeds_from, file_at, file_from, opening_if}
use Rattle.cmd_ports.specs.Steps.{FeedsSoFar, IsUnopenedFeed}

in_none : (o : Opening) → Contains [] o → ⊥
in_none o h = let e : h.0 < 0 = h.1 in absurd (omega arith)

in_one : (x o : Opening) → Contains (x ∷ []) o → x ≡ o
in_one x o (zero, h, e) = e
in_one x o (suc k, h, e) = absurd (omega arith)

one_in : (x : Opening) → Contains (x ∷ []) x
one_in x = (0, omega arith, refl)

-- ---- none

pub none_opened : (old : Inputs) → FeedsAreOpened [] old old
none_opened old = record {
  opened = λ o h. absurd (in_none o h);
  whole = λ o h. absurd (in_none o h);
  same_open = λ n a. refl;
  same_left = λ n a. refl;
  same_names = λ name. refl;
  faults_stay = omega arith;
}

pub begins : (all : List Opening) (old : Inputs) → FeedsSoFar all all 1 old old
begins all old = record { made = []; in_order = refl; below = λ o h. absurd (in_none o h); are_opened = none_opened old }

pub ends : (all : List Opening) (number : ℕ) (old now : Inputs) → FeedsSoFar all [] number old now → FeedsAreOpened all old now
ends all number old now so = subst (λ os. FeedsAreOpened os old now) (sym (so.in_order ∙ append-nil so.made)) so.are_opened

-- a feed with this number or a greater one is closed still
pub closed_still : (all rest : List Opening) (number n : ℕ) (old now : Inputs) → FeedsSoFar all rest number old now → number ≤ n → old.is_open n ≡ false → now.is_open n ≡ false
closed_still all rest number n old now so above closed =
    so.are_opened.same_open n (λ o h same. (let under : o.number < number = so.below o h in absurd (omega arith))) ∙ closed

-- ---- one

pub one_opened : (number : ℕ) (file : List ℕ) (old new : Inputs) → OpensOn number file old new → OpensOnlyAt number old new → FeedsAreOpened (record { number = number; name = file } ∷ []) old new
one_opened number file old new on only = record {
  opened = λ o h. subst (λ x. new.is_open x.number ≡ true) (in_one _ o h) on.opened;
  whole = λ o h. subst (λ x. new.left x.number ≡ old.under x.name) (in_one _ o h) on.whole;
  same_open = λ n a. only.same_open n (λ e. a _ (one_in _) e);
  same_left = λ n a. only.same_left n (λ e. a _ (one_in _) e);
  same_names = only.same_names;
  faults_stay = only.faults_stay;
}

-- the feed of a trace was opened, and those of inputs come behind it
pub begins_behind : (trace : List ℕ) (rest : List Opening) (old now : Inputs) → FeedsAreOpened (record { number = 0; name = trace } ∷ []) old now
    → FeedsSoFar (record { number = 0; name = trace } ∷ rest) rest 1 old now
begins_behind trace rest old now opened = record {
  made = record { number = 0; name = trace } ∷ [];
  in_order = refl;
  below = λ o h. subst (λ x. x.number < 1) (in_one _ o h) (omega arith);
  are_opened = opened;
}

-- one more behind those that were opened
more_opened : (made : List Opening) (x : Opening) (number : ℕ) (old mid new : Inputs) → x.number ≡ number → ((o : Opening) → Contains made o → o.number < number)
    → FeedsAreOpened made old mid → FeedsAreOpened (x ∷ []) mid new → FeedsAreOpened (made ++ x ∷ []) old new
more_opened made x number old mid new is below before this = record {
  opened = λ o h. elim (Contains-append_cases made (x ∷ []) o h) [
    | inl earlier ↦ this.same_open o.number (apart o earlier) ∙ before.opened o earlier
    | inr last ↦ this.opened o last
  ];
  whole = λ o h. elim (Contains-append_cases made (x ∷ []) o h) [
    | inl earlier ↦ this.same_left o.number (apart o earlier) ∙ before.whole o earlier
    | inr last ↦ this.whole o last ∙ before.same_names o.name
  ];
  same_open = λ n a. this.same_open n (λ o h. a o (Contains-append_right made (x ∷ []) o h)) ∙ before.same_open n (λ o h. a o (Contains-append_left made (x ∷ []) o h));
  same_left = λ n a. this.same_left n (λ o h. a o (Contains-append_right made (x ∷ []) o h)) ∙ before.same_left n (λ o h. a o (Contains-append_left made (x ∷ []) o h));
  same_names = λ name. this.same_names name ∙ before.same_names name;
  faults_stay = (let a = before.faults_stay in let b = this.faults_stay in omega arith);
}
  where
    apart : (o : Opening) → Contains made o → IsApart o.number (x ∷ [])
    apart o earlier y h same =
        let less : o.number < number = below o earlier in
        let e : y.number ≡ number = subst (λ z. z.number ≡ number) (in_one x y h) is in
        absurd (omega arith)

-- none more, since there is no file
no_more : (made : List Opening) (old mid new : Inputs) → FeedsAreOpened made old mid → FeedsAreOpened [] mid new → FeedsAreOpened made old new
no_more made old mid new before this = record {
  opened = λ o h. this.same_open o.number (λ y n. absurd (in_none y n)) ∙ before.opened o h;
  whole = λ o h. this.same_left o.number (λ y n. absurd (in_none y n)) ∙ before.whole o h;
  same_open = λ n a. this.same_open n (λ y h. absurd (in_none y h)) ∙ before.same_open n a;
  same_left = λ n a. this.same_left n (λ y h. absurd (in_none y h)) ∙ before.same_left n a;
  same_names = λ name. this.same_names name ∙ before.same_names name;
  faults_stay = (let a = before.faults_stay in let b = this.faults_stay in omega arith);
}

-- an input link whose feed was opened, if it has a file
pub steps : (all rest : List Opening) (number : ℕ) (file : Option (List ℕ)) (old mid new : Inputs) → FeedsSoFar all (opening_if number file ++ rest) number old mid
    → FeedsAreOpened (opening_if number file) mid new → FeedsSoFar all rest (number + 1) old new
steps all rest number None old mid new so this = record {
  made = so.made;
  in_order = so.in_order;
  below = λ o h. (let b = so.below o h in omega arith);
  are_opened = no_more so.made old mid new so.are_opened this;
}
steps all rest number (Some file) old mid new so this = record {
  made = so.made ++ record { number = number; name = file } ∷ [];
  in_order = so.in_order ∙ sym (append_assoc so.made (record { number = number; name = file } ∷ []) rest);
  below = λ o h. elim (Contains-append_cases so.made (record { number = number; name = file } ∷ []) o h) [
    | inl earlier ↦ (let b = so.below o earlier in omega arith)
    | inr last ↦ subst (λ x. x.number < number + 1) (in_one _ o last) (omega arith)
  ];
  are_opened = more_opened so.made (record { number = number; name = file }) number old mid new refl so.below so.are_opened this;
}

-- one that couldn't be opened
pub fails : (all rest : List Opening) (number : ℕ) (file : Option (List ℕ)) (old mid new : Inputs) → FeedsSoFar all (opening_if number file ++ rest) number old mid
    → IsUnopenedFeed number file mid new → FeedFails all number old new
fails all rest number None old mid new so this = absurd (none_some this.name this.has_file)
  where
    none_some : (name : List ℕ) → None ≡ Some name → ⊥
    none_some name e = cc
fails all rest number (Some file) old mid new so this = record {
  before = so.made;
  failed = record { number = number; name = file };
  after = rest;
  in_order = so.in_order;
  number_is = refl;
  are_opened = no_more so.made old mid new so.are_opened this.unchanged;
  counted = later (old.faults) (mid.faults) (new.faults) so.are_opened.faults_stay this.counted;
}
  where
    later : (a b c : ℕ) → a ≤ b → HasRisen b c → HasRisen a c
    later a b c stay (inl less) = inl (omega arith)
    later a b c stay (inr last) = inr last

-- the feed of a trace couldn't be opened
pub fails_first : (trace : List ℕ) (rest : List Opening) (old new : Inputs) → IsUnopenedFeed 0 (Some trace) old new → FeedFails (record { number = 0; name = trace } ∷ rest) 0 old new
fails_first trace rest old new this = record {
  before = [];
  failed = record { number = 0; name = trace };
  after = rest;
  in_order = refl;
  number_is = refl;
  are_opened = this.unchanged;
  counted = this.counted;
}

-- it failed, and nothing else changed
pub fails_alone : (number : ℕ) (name : List ℕ) (old new : Inputs) → FailsOn number old new → OpensOnlyAt number old new → IsUnopenedFeed number (Some name) old new
fails_alone number name old new fail only = record {
  name = name;
  has_file = refl;
  unchanged = record {
    opened = λ o h. absurd (in_none o h);
    whole = λ o h. absurd (in_none o h);
    same_open = λ n a. by n;
    same_left = λ n a. left n;
    same_names = only.same_names;
    faults_stay = only.faults_stay;
  };
  counted = fail.counted;
}
  where
    by : (n : ℕ) → new.is_open n ≡ old.is_open n
    by n = elim (cases_eq n number) [ inl e ↦ subst (λ k. new.is_open k ≡ old.is_open k) (sym e) fail.still_open | inr apart ↦ only.same_open n apart ]

    left : (n : ℕ) → new.left n ≡ old.left n
    left n = elim (cases_eq n number) [ inl e ↦ subst (λ k. new.left k ≡ old.left k) (sym e) fail.still_left | inr apart ↦ only.same_left n apart ]

-- ---- the same of a file that may lack

pub opened_if : {T : Type 0} (v : T → List ℕ) (number : ℕ) (file : Option T) (name : T) (old new : Inputs) → file ≡ Some name → OpensOn number (v name) old new → OpensOnlyAt number old new
    → FeedsAreOpened (opening_if number (option_map v file)) old new
opened_if v number file name old new is on only = subst (λ f. FeedsAreOpened (opening_if number (option_map v f)) old new) (sym is) (one_opened number (v name) old new on only)

pub unopened_if : {T : Type 0} (v : T → List ℕ) (number : ℕ) (file : Option T) (name : T) (old new : Inputs) → file ≡ Some name → FailsOn number old new → OpensOnlyAt number old new
    → IsUnopenedFeed number (option_map v file) old new
unopened_if v number file name old new is fail only = subst (λ f. IsUnopenedFeed number (option_map v f) old new) (sym is) (fails_alone number (v name) old new fail only)

pub none_if : {T : Type 0} (v : T → List ℕ) (number : ℕ) (file : Option T) (old : Inputs) → file ≡ None → FeedsAreOpened (opening_if number (option_map v file)) old old
none_if v number file old is = subst (λ f. FeedsAreOpened (opening_if number (option_map v f)) old old) (sym is) (none_opened old)

-- ---- links

-- what remains of the openings behind a link, by where it begins
abbrev pub behind : End → (number : ℕ) → List Link → (ins : List (List ℕ)) → List PortText → List Opening
behind from number links ins words =
    if is_outside from
    then opening_if number (file_from from ins words) ++ feeds_from (number + 1) links ins words
    else feeds_from number links ins words

pub steps_from : (all : List Opening) (number port : ℕ) (from : End) (links : List Link) (ins : List (List ℕ)) (words : List PortText) (old mid new : Inputs) → from ≡ AtNet port
    → FeedsSoFar all (behind from number links ins words) number old mid → FeedsAreOpened (opening_if number (file_at (slice_get ins port) words)) mid new
    → FeedsSoFar all (feeds_from (number + 1) links ins words) (number + 1) old new
steps_from all number port from links ins words old mid new is so this =
    steps all (feeds_from (number + 1) links ins words) number (file_at (slice_get ins port) words) old mid new
    (subst (λ f. FeedsSoFar all (behind f number links ins words) number old mid) is so) this

pub fails_from : (all : List Opening) (number port : ℕ) (from : End) (links : List Link) (ins : List (List ℕ)) (words : List PortText) (old mid new : Inputs) → from ≡ AtNet port
    → FeedsSoFar all (behind from number links ins words) number old mid → IsUnopenedFeed number (file_at (slice_get ins port) words) mid new → FeedFails all number old new
fails_from all number port from links ins words old mid new is so this =
    fails all (feeds_from (number + 1) links ins words) number (file_at (slice_get ins port) words) old mid new
    (subst (λ f. FeedsSoFar all (behind f number links ins words) number old mid) is so) this
