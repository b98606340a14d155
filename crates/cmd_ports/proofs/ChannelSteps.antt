-- Channels that are opened one after another.
use Rattle.std.proofs.Common.{◌≡◌, ℕ, zero, suc, ◌+◌, ◌<◌, ◌≤◌, inl, inr, true, false, List, [], ◌∷◌, ◌++◌, length, refl, sym, subst, ◌∙◌, arith, Option, None, Some, Contains}
use Rattle.std.specs.Prelude.{option_map}
use Rattle.std.proofs.lemmas.Bool.{cases_eq}
use Rattle.std.proofs.lemmas.List.{append_assoc, append-nil}
use Rattle.std.proofs.lemmas.List.Elements.{Contains-append_left, Contains-append_right, Contains-append_cases}
use Rattle.rvc_io.specs.Count.{HasRisen}
use Rattle.rvc_io.specs.Channels.{Channels, ChangesOnlyAt, FailsAt, OpensAt}
use Rattle.cmd_ports.specs.Opening.{ChannelFails, ChannelsAreOpened, IsApart, Opening, opening_if}
use Rattle.cmd_ports.specs.Steps.{ChannelsSoFar, IsUnopenedChannel}

in_none : (o : Opening) → Contains [] o → ⊥
in_none o h = let e : h.0 < 0 = h.1 in absurd (omega arith)

in_one : (x o : Opening) → Contains (x ∷ []) o → x ≡ o
in_one x o (zero, h, e) = e
in_one x o (suc k, h, e) = absurd (omega arith)

one_in : (x : Opening) → Contains (x ∷ []) x
one_in x = (0, omega arith, refl)

-- ---- the first

pub one_opened : (number : ℕ) (file : List ℕ) (old new : Channels) → OpensAt number old new → ChangesOnlyAt number old new → ChannelsAreOpened (record { number = number; name = file } ∷ []) old new
one_opened number file old new at only = record {
  opened = λ o h. subst (λ x. new.is_open x.number ≡ true) (in_one _ o h) at.opened;
  empty = λ tells o h. subst (λ x. new.held x.number ≡ []) (in_one _ o h) (at.empty tells);
  same_open = λ n a. only.same_open n (λ e. a _ (one_in _) e);
  same_held = λ tells n a. only.same_held tells n (λ e. a _ (one_in _) e);
  same_telling = only.same_telling;
  faults_stay = only.faults_stay;
}

pub none_opened : (old : Channels) → ChannelsAreOpened [] old old
none_opened old = record {
  opened = λ o h. absurd (in_none o h);
  empty = λ tells o h. absurd (in_none o h);
  same_open = λ n a. refl;
  same_held = λ tells n a. refl;
  same_telling = refl;
  faults_stay = omega arith;
}

-- the trace's channel was opened
pub begins : (trace : List ℕ) (rest : List Opening) (old now : Channels) → ChannelsAreOpened (record { number = 1; name = trace } ∷ []) old now
    → ChannelsSoFar (record { number = 1; name = trace } ∷ rest) rest 2 old now
begins trace rest old now opened = record {
  made = record { number = 1; name = trace } ∷ [];
  in_order = refl;
  below = λ o h. subst (λ x. x.number < 2) (in_one _ o h) (omega arith);
  are_opened = opened;
}

pub ends : (all : List Opening) (number : ℕ) (old now : Channels) → ChannelsSoFar all [] number old now → ChannelsAreOpened all old now
ends all number old now so = subst (λ os. ChannelsAreOpened os old now) (sym (so.in_order ∙ append-nil so.made)) so.are_opened

-- a channel with this number or a greater one is closed still
pub closed_still : (all rest : List Opening) (number n : ℕ) (old now : Channels) → ChannelsSoFar all rest number old now → number ≤ n → old.is_open n ≡ false → now.is_open n ≡ false
closed_still all rest number n old now so above closed =
    so.are_opened.same_open n (λ o h same. (let under : o.number < number = so.below o h in absurd (omega arith))) ∙ closed

-- ---- one more

more_opened : (made : List Opening) (x : Opening) (number : ℕ) (old mid new : Channels) → x.number ≡ number → ((o : Opening) → Contains made o → o.number < number)
    → ChannelsAreOpened made old mid → ChannelsAreOpened (x ∷ []) mid new → ChannelsAreOpened (made ++ x ∷ []) old new
more_opened made x number old mid new is below before this = record {
  opened = λ o h. elim (Contains-append_cases made (x ∷ []) o h) [
    | inl earlier ↦ this.same_open o.number (apart o earlier) ∙ before.opened o earlier
    | inr last ↦ this.opened o last
  ];
  empty = λ tells o h. elim (Contains-append_cases made (x ∷ []) o h) [
    | inl earlier ↦ this.same_held (before.same_telling ∙ tells) o.number (apart o earlier) ∙ before.empty tells o earlier
    | inr last ↦ this.empty (before.same_telling ∙ tells) o last
  ];
  same_open = λ n a. this.same_open n (λ o h. a o (Contains-append_right made (x ∷ []) o h)) ∙ before.same_open n (λ o h. a o (Contains-append_left made (x ∷ []) o h));
  same_held = λ tells n a. this.same_held (before.same_telling ∙ tells) n (λ o h. a o (Contains-append_right made (x ∷ []) o h)) ∙ before.same_held tells n (λ o h. a o (Contains-append_left made (x ∷ []) o h));
  same_telling = this.same_telling ∙ before.same_telling;
  faults_stay = (let a = before.faults_stay in let b = this.faults_stay in omega arith);
}
  where
    apart : (o : Opening) → Contains made o → IsApart o.number (x ∷ [])
    apart o earlier y h same =
        let less : o.number < number = below o earlier in
        let e : y.number ≡ number = subst (λ z. z.number ≡ number) (in_one x y h) is in
        absurd (omega arith)

no_more : (made : List Opening) (old mid new : Channels) → ChannelsAreOpened made old mid → ChannelsAreOpened [] mid new → ChannelsAreOpened made old new
no_more made old mid new before this = record {
  opened = λ o h. this.same_open o.number (λ y n. absurd (in_none y n)) ∙ before.opened o h;
  empty = λ tells o h. this.same_held (before.same_telling ∙ tells) o.number (λ y n. absurd (in_none y n)) ∙ before.empty tells o h;
  same_open = λ n a. this.same_open n (λ y h. absurd (in_none y h)) ∙ before.same_open n a;
  same_held = λ tells n a. this.same_held (before.same_telling ∙ tells) n (λ y h. absurd (in_none y h)) ∙ before.same_held tells n a;
  same_telling = this.same_telling ∙ before.same_telling;
  faults_stay = (let a = before.faults_stay in let b = this.faults_stay in omega arith);
}

-- an output whose channel was opened, if it has a file
pub steps : (all rest : List Opening) (number : ℕ) (file : Option (List ℕ)) (old mid new : Channels) → ChannelsSoFar all (opening_if number file ++ rest) number old mid
    → ChannelsAreOpened (opening_if number file) mid new → ChannelsSoFar all rest (number + 1) old new
steps all rest number None old mid new so this = record {
  made = so.made;
  in_order = so.in_order;
  below = λ o h. (let b = so.below o h in omega arith);
  are_opened = no_more so.made old mid new so.are_opened this;
}
steps all rest number (Some file) old mid new so this = record {
  made = so.made ++ record { number = number; name = file } ∷ [];
  in_order = so.in_order ∙ sym (append_assoc so.made (record { number = number; name = file } ∷ []) rest);
  below = λ o h. elim (Contains-append_cases so.made (record { number = number; name = file } ∷ []) o h) [
    | inl earlier ↦ (let b = so.below o earlier in omega arith)
    | inr last ↦ subst (λ x. x.number < number + 1) (in_one _ o last) (omega arith)
  ];
  are_opened = more_opened so.made (record { number = number; name = file }) number old mid new refl so.below so.are_opened this;
}

-- one that couldn't be opened
pub fails : (all rest : List Opening) (number : ℕ) (file : Option (List ℕ)) (old mid new : Channels) → ChannelsSoFar all (opening_if number file ++ rest) number old mid
    → IsUnopenedChannel number file mid new → ChannelFails all number old new
fails all rest number None old mid new so this = absurd (none_some this.name this.has_file)
  where
    none_some : (name : List ℕ) → None ≡ Some name → ⊥
    none_some name e = cc
fails all rest number (Some file) old mid new so this = record {
  before = so.made;
  failed = record { number = number; name = file };
  after = rest;
  in_order = so.in_order;
  number_is = refl;
  are_opened = no_more so.made old mid new so.are_opened this.unchanged;
  counted = later (old.faults) (mid.faults) (new.faults) so.are_opened.faults_stay this.counted;
}
  where
    later : (a b c : ℕ) → a ≤ b → HasRisen b c → HasRisen a c
    later a b c stay (inl less) = inl (omega arith)
    later a b c stay (inr last) = inr last

-- the trace's couldn't be opened
pub fails_first : (trace : List ℕ) (rest : List Opening) (old new : Channels) → IsUnopenedChannel 1 (Some trace) old new → ChannelFails (record { number = 1; name = trace } ∷ rest) 1 old new
fails_first trace rest old new this = record {
  before = [];
  failed = record { number = 1; name = trace };
  after = rest;
  in_order = refl;
  number_is = refl;
  are_opened = this.unchanged;
  counted = this.counted;
}

-- it failed, and nothing else changed
pub fails_alone : (number : ℕ) (name : List ℕ) (old new : Channels) → FailsAt number old new → ChangesOnlyAt number old new → IsUnopenedChannel number (Some name) old new
fails_alone number name old new fail only = record {
  name = name;
  has_file = refl;
  unchanged = record {
    opened = λ o h. absurd (in_none o h);
    empty = λ tells o h. absurd (in_none o h);
    same_open = λ n a. by n;
    same_held = λ tells n a. held tells n;
    same_telling = only.same_telling;
    faults_stay = only.faults_stay;
  };
  counted = fail.counted;
}
  where
    by : (n : ℕ) → new.is_open n ≡ old.is_open n
    by n = elim (cases_eq n number) [ inl e ↦ subst (λ k. new.is_open k ≡ old.is_open k) (sym e) fail.still_open | inr apart ↦ only.same_open n apart ]

    held : old.tells ≡ true → (n : ℕ) → new.held n ≡ old.held n
    held tells n = elim (cases_eq n number) [ inl e ↦ subst (λ k. new.held k ≡ old.held k) (sym e) (fail.still_held tells) | inr apart ↦ only.same_held tells n apart ]

-- ---- the same of a file that may lack

pub opened_if : {T : Type 0} (v : T → List ℕ) (number : ℕ) (file : Option T) (name : T) (old new : Channels) → file ≡ Some name → OpensAt number old new → ChangesOnlyAt number old new
    → ChannelsAreOpened (opening_if number (option_map v file)) old new
opened_if v number file name old new is at only = subst (λ f. ChannelsAreOpened (opening_if number (option_map v f)) old new) (sym is) (one_opened number (v name) old new at only)

pub unopened_if : {T : Type 0} (v : T → List ℕ) (number : ℕ) (file : Option T) (name : T) (old new : Channels) → file ≡ Some name → FailsAt number old new → ChangesOnlyAt number old new
    → IsUnopenedChannel number (option_map v file) old new
unopened_if v number file name old new is fail only = subst (λ f. IsUnopenedChannel number (option_map v f) old new) (sym is) (fails_alone number (v name) old new fail only)

pub none_if : {T : Type 0} (v : T → List ℕ) (number : ℕ) (file : Option T) (old : Channels) → file ≡ None → ChannelsAreOpened (opening_if number (option_map v file)) old old
none_if v number file old is = subst (λ f. ChannelsAreOpened (opening_if number (option_map v f)) old old) (sym is) (none_opened old)

pub none_left : {A : Type 0} (xs : List A) → length xs ≡ 0 → xs ≡ []
none_left [] h = refl
none_left (x ∷ xs) h = absurd (omega arith)
