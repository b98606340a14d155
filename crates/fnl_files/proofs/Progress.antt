-- A loading goes on, and how it ends.
use Rattle.std.proofs.Common.{◌≡◌, ℕ, suc, ◌+◌, ◌≤◌, Bool, true, false, List, [], ◌∷◌, ◌++◌, length, refl, sym, ap, subst, ◌∙◌, arith}
use Rattle.std.proofs.lemmas.List.{append_assoc, append-nil}
use Rattle.std.specs.Prelude.{None, Some, is_some, not}
use Rattle.rvc_base.specs.declared.refusal.Refusal.{Refusal}
use Rattle.rvc_io.specs.Count.{HasRisen}
use Rattle.cal_scope.specs.Names.{is_among}
use Rattle.cal_files.specs.Loading.{Counts, Library, max_bytes, max_files}
use Rattle.cal_imports.specs.Sources.{Source}
use Rattle.fnl_bind.specs.Library.{Entry, network_of}
use Rattle.fnl_source.proofs.Choices.{choice_fits}
use Rattle.fnl_source.specs.Files.{AreLoaded, AreReadBehind, Asked, Choice, Fits, IsNextRead, Read, Wanted, asked_by_all, bytes_of, is_network, is_read, name_of, networks_from, networks_in, next_wanted, sources_from, sources_in, wanted}
use Rattle.fnl_files.specs.Loading.{ComesTo, IsFaulted, IsRefused, LooksUp, NoneAsks, Refuses, is_missing, is_there, looks_up_actor, looks_up_either, looks_up_network, looks_up_other}
use Rattle.fnl_files.specs.Requests.{AreTried, Request, names_of, requests, requests_by}
use Rattle.fnl_files.specs.SoFar.{AddsRead, Agrees, Fails, HasRead, IsBegun, IsDenied, IsSoFar, Means, State, Tries, denied_file, denied_missing, has, means_actor, means_known, means_missed, means_network, means_other, means_there, tries_file, tries_network, trial_of}
use Rattle.fnl_files.proofs.Known.{AreLacking, AreNetworks, AreThere, Keeps, agrees_before, agrees_fewer, as_found, chosen, chosen_agrees, found_agrees, found_missed, lacking_known, means_keeps, network_there, never, none_asks, of_kind, says_kind, wanted_chosen, wanted_read}
use Rattle.fnl_files.proofs.Lists.{all_read_join, all_read_more, bytes_more, count_names, first_none, first_past, length_more, names_more, networks_more, next_is, read_there, requests_more, same_has, sources_more}
use Rattle.fnl_files.proofs.Served.{all_tried}

-- a state without the first request that waits
abbrev pub behind : State → List Request → State
behind s rest = record { networks = s.networks; sources = s.sources; bytes = s.bytes; missed = s.missed; waiting = rest }

-- whether a file was read
has_is : (done : List Read) (nets : List Entry) (files : List Source) (w : Wanted) (b : Bool) → nets ≡ networks_from 1 done → files ≡ sources_from 1 done
    → has w nets files ≡ b → is_read w done ≡ b
has_is done nets files w b e f h =
    sym (same_has w done) ∙ subst (λ ss. has w (networks_from 1 done) ss ≡ b) f (subst (λ ns. has w ns files ≡ b) e h)

nets_are : (done : List Read) (s : State) → s.networks ≡ networks_from 1 done → AreNetworks s done
nets_are done s e class b h =
    sym (same_has (of_kind class true) done) ∙ subst (λ ns. is_some (network_of class ns) ≡ b) e h

are_read_more : (library : Library) (choice : Choice) (top : Asked) (before xs : List Read) (r : Read) → AreReadBehind library choice top before xs
    → IsNextRead library choice top (before ++ xs) r → AreReadBehind library choice top before (xs ++ r ∷ [])
are_read_more library choice top before [] r h is = (subst (λ b. IsNextRead library choice top b r) (append-nil before) is, tt)
are_read_more library choice top before (x ∷ xs) r h is = (
  h.0,
  are_read_more library choice top (before ++ x ∷ []) xs r h.1
      (subst (λ b. IsNextRead library choice top b r) (sym (append_assoc before (x ∷ []) xs)) is),
)

-- a request before those that wait
split_on : (top : Asked) (done : List Read) (passed waiting rest : List Request) (q : Request) → requests top done ≡ passed ++ waiting → waiting ≡ q ∷ rest
    → requests top done ≡ passed ++ q ∷ rest
split_on top done passed waiting rest q e f = e ∙ ap (λ ws. passed ++ ws) f

-- networks that were read are there
nets_there : (library : Library) (top : Asked) (done : List Read) (names : List (List ℕ)) (s : State) → IsSoFar library top done names s → AreThere library done
nets_there library top done names s is = λ class k.
    network_there library (as_found s.missed) top [] done class (is.are_read (as_found s.missed) (found_agrees s.missed done)) k

pub none_missed : (missed : List (List ℕ)) → missed ≡ [] → (class : List ℕ) → is_among class missed ≡ true → ⊥
none_missed [] e class h = cc
none_missed (m ∷ missed) e class h = cc

-- ---- one request

module _ (library : Library) (top : Asked) (done : List Read) (names : List (List ℕ)) (s : State) (q : Request) (rest : List Request)
    (is : IsSoFar library top done names s) (waits : s.waiting ≡ q ∷ rest) where
  split : requests top done ≡ is.looked_at.passed ++ q ∷ rest
  split = split_on top done is.looked_at.passed s.waiting rest q is.looked_at.splits waits

  nets : AreNetworks (behind s rest) done
  nets = nets_are done (behind s rest) is.networks_are

  abbrev comes_by : (choice : Choice) → Agrees choice s.missed done → ComesTo library choice top done q
  comes_by choice h = record {
    are_read = is.are_read choice h;
    before = is.looked_at.passed;
    after = rest;
    splits = split;
    all_read = is.looked_at.all_read choice h;
  }

  module _ (misses : Counts) (w : Wanted) (known : State) (means : Means library misses (behind s rest) q.asked w known) where
    kept : Keeps (behind s rest) known
    kept = means_keeps library misses (behind s rest) known q.asked w means

    before : (choice : Choice) → Agrees choice known.missed done → Agrees choice s.missed done
    before choice h = agrees_before library misses choice (behind s rest) known q.asked w done means nets h

    read_is : (b : Bool) → has w known.networks known.sources ≡ b → is_read w done ≡ b
    read_is b h = has_is done known.networks known.sources w b (kept.networks ∙ is.networks_are) (kept.sources ∙ is.sources_are) h

    -- its file was read before
    pub so_far_passed : has w known.networks known.sources ≡ true → IsSoFar library top done names known
    so_far_passed there = record {
      are_read = λ choice h. is.are_read choice (before choice h);
      are_lacking = lacking_known library misses (behind s rest) known q.asked w means is.are_lacking;
      networks_are = kept.networks ∙ is.networks_are;
      sources_are = kept.sources ∙ is.sources_are;
      names_are = is.names_are;
      bytes_are = kept.bytes ∙ is.bytes_are;
      few = is.few;
      small = subst (λ n. n ≤ max_bytes) (sym kept.bytes) is.small;
      looked_at = record {
        passed = is.looked_at.passed ++ q ∷ [];
        splits = split ∙ sym (append_assoc is.looked_at.passed (q ∷ []) rest) ∙ ap (λ ws. (is.looked_at.passed ++ q ∷ []) ++ ws) (sym kept.waiting);
        all_read = λ choice h. all_read_join choice done is.looked_at.passed q (is.looked_at.all_read choice (before choice h))
            (subst (λ v. is_read v done ≡ true)
            (wanted_read library misses choice (behind s rest) known q.asked w known.missed done means refl (read_is true there) h) (read_is true there));
      };
    }

    -- its file is read now
    module _ (found : List (List ℕ)) (new : State) (unread : has w known.networks known.sources ≡ false) (a : AddsRead (trial_of library w names) found known new) where
      abbrev r : Read
      r = record { class = w.class; text = a.text; content = a.adds.content }

      abbrev asked_now : List Request
      asked_now = requests_by (suc (length done)) r.content

      count : length names ≡ length done
      count = count_names done names is.names_are

      kind : is_network r.content ≡ w.network
      kind = says_kind a.text w.network a.adds.content a.adds.says

      few_more : suc (length done) ≤ max_files
      few_more = subst (λ n. suc n ≤ max_files) count a.adds.few

      small_more : bytes_of done + length a.text ≤ max_bytes
      small_more = subst (λ n. n + length a.text ≤ max_bytes) (kept.bytes ∙ is.bytes_are) a.adds.small

      wanted_now : (choice : Choice) → Agrees choice new.missed (done ++ r ∷ []) → w ≡ wanted choice q.asked
      wanted_now choice h =
          wanted_read library misses choice (behind s rest) known q.asked w new.missed (done ++ r ∷ []) means a.adds.adds.missed_are (read_there w done r refl kind) h

      before_more : (choice : Choice) → Agrees choice new.missed (done ++ r ∷ []) → Agrees choice s.missed done
      before_more choice h =
          before choice (agrees_fewer choice known.missed done (r ∷ []) (subst (λ m. Agrees choice m (done ++ r ∷ [])) a.adds.adds.missed_are h))

      next : (choice : Choice) → Agrees choice new.missed (done ++ r ∷ []) → IsNextRead library choice top done r
      next choice h = record {
        want = w;
        is_next = next_is choice top done (is.looked_at.passed ++ q ∷ rest) split
            ∙ first_past choice done is.looked_at.passed rest q (is.looked_at.all_read choice (before_more choice h))
            (subst (λ v. is_read v done ≡ false) (wanted_now choice h) (read_is false unread))
            ∙ ap Some (sym (wanted_now choice h));
        same_class = refl;
        is_text = a.is_text;
        says = a.adds.says;
        few = few_more;
        small = small_more;
      }

      waiting_now : new.waiting ≡ rest ++ asked_now
      waiting_now = a.adds.adds.waiting_are ∙ ap (λ ws. ws ++ requests_by (suc (length names)) r.content) kept.waiting
          ∙ ap (λ n. rest ++ requests_by (suc n) r.content) count

      pub so_far_more : HasRead library top found new
      so_far_more = record {
        done = done ++ r ∷ [];
        is_so_far = record {
          are_read = λ choice h. are_read_more library choice top [] done r (is.are_read choice (before_more choice h)) (next choice h);
          are_lacking = subst (AreLacking library) (sym a.adds.adds.missed_are)
              (lacking_known library misses (behind s rest) known q.asked w means is.are_lacking);
          networks_are = a.adds.adds.networks_are ∙ ap (λ ns. ns ++ networks_in w.class (suc (length names)) r.content) (kept.networks ∙ is.networks_are)
              ∙ ap (λ n. networks_from 1 done ++ networks_in w.class (suc n) r.content) count ∙ sym (networks_more done r);
          sources_are = a.adds.adds.sources_are ∙ ap (λ ss. ss ++ sources_in w.class (suc (length names)) r.content) (kept.sources ∙ is.sources_are)
              ∙ ap (λ n. sources_from 1 done ++ sources_in w.class (suc n) r.content) count ∙ sym (sources_more done r);
          names_are = a.names_are ∙ ap (λ ns. ns ++ name_of w ∷ []) is.names_are
              ∙ ap (λ b. names_of done ++ name_of (of_kind w.class b) ∷ []) (sym kind) ∙ sym (names_more done r);
          bytes_are = a.adds.adds.bytes_are ∙ ap (λ n. n + length a.text) (kept.bytes ∙ is.bytes_are) ∙ sym (bytes_more done r);
          few = subst (λ n. n ≤ max_files) (sym (length_more done r)) few_more;
          small = subst (λ n. n ≤ max_bytes) (sym a.adds.adds.bytes_are) a.adds.small;
          looked_at = record {
            passed = is.looked_at.passed ++ q ∷ [];
            splits = requests_more top done r ∙ ap (λ qs. qs ++ asked_now) split
                ∙ append_assoc is.looked_at.passed (q ∷ rest) asked_now
                ∙ sym (append_assoc is.looked_at.passed (q ∷ []) (rest ++ asked_now))
                ∙ ap (λ ws. (is.looked_at.passed ++ q ∷ []) ++ ws) (sym waiting_now);
            all_read = λ choice h. all_read_more choice done is.looked_at.passed q r (is.looked_at.all_read choice (before_more choice h))
                (ap (λ v. v.class) (wanted_now choice h)) (kind ∙ ap (λ v. v.network) (wanted_now choice h));
          };
        };
      }

    -- ---- what is wanted, by a choice that fits

    agrees : Agrees (chosen library known.missed) s.missed done
    agrees = before (chosen library known.missed)
        (chosen_agrees library known.missed done (lacking_known library misses (behind s rest) known q.asked w means is.are_lacking)
        (nets_there library top done names s is))

    wanted_now_is : w ≡ wanted (chosen library known.missed) q.asked
    wanted_now_is = wanted_chosen library misses (behind s rest) known q.asked w done means nets is.are_lacking (nets_there library top done names s is)

    pub refused : (all : Counts) (found : List (List ℕ)) (refusal : Refusal) → has w s.networks s.sources ≡ false
        → IsDenied (trial_of library w names) q.missing s.bytes all found refusal → IsRefused library top all refusal found
    refused all found refusal unread denied = record {
      choice = chosen library known.missed;
      fits = choice_fits library (as_found known.missed);
      reads = done;
      request = q;
      comes = comes_by (chosen library known.missed) agrees;
      unread = subst (λ v. is_read v done ≡ false) wanted_now_is (has_is done s.networks s.sources w false is.networks_are is.sources_are unread);
      refuses = subst (λ v. Refuses library v q.missing (suc (length done)) (bytes_of done) all (names_of done) refusal found) wanted_now_is
          (placed found refusal (go found refusal denied));
    }
      where
        go : (found : List (List ℕ)) (refusal : Refusal) → IsDenied (trial_of library w names) q.missing s.bytes all found refusal
            → Refuses library w q.missing (suc (length names)) s.bytes all names refusal found
        go _ _ (denied_missing risen lacking) = is_missing risen lacking
        go _ _ (denied_file refusal k) = is_there refusal k

        placed : (found : List (List ℕ)) (refusal : Refusal) → Refuses library w q.missing (suc (length names)) s.bytes all names refusal found
            → Refuses library w q.missing (suc (length done)) (bytes_of done) all (names_of done) refusal found
        placed found refusal k =
            subst (λ ns. Refuses library w q.missing (suc (length done)) (bytes_of done) all ns refusal found) is.names_are
            (subst (λ n. Refuses library w q.missing (suc (length done)) n all names refusal found) is.bytes_are
            (subst (λ n. Refuses library w q.missing (suc n) s.bytes all names refusal found) (count_names done names is.names_are) k))

  -- a class that may be either, of which no network was read or missed, wasn't asked for before
  untried : (class : List ℕ) → is_among class s.missed ≡ false → is_read (of_kind class true) done ≡ false → NoneAsks class is.looked_at.passed
  untried class m unread =
      none_asks (as_found s.missed) done class is.looked_at.passed (ap not m) unread (is.looked_at.all_read (as_found s.missed) (found_agrees s.missed done))

  -- what is looked up, by what the request tells
  looks : (misses all : Counts) (asked : Asked) (w : Wanted) (known : State) → ((class : List ℕ) → is_among class s.missed ≡ true → HasRisen all.old all.new)
      → (HasRisen misses.old misses.new → HasRisen all.old all.new) → Means library misses (behind s rest) asked w known → is_read w done ≡ false
      → w ≡ wanted (chosen library known.missed) asked → LooksUp (chosen library known.missed) is.looked_at.passed all asked w
  looks misses all _ _ _ tried since (means_network class) unread e = looks_up_network class
  looks misses all _ _ _ tried since (means_actor class) unread e = looks_up_actor class
  looks misses all _ _ _ tried since (means_missed class m) unread e = looks_up_other class (ap (λ v. v.network) (sym e)) (tried class m)
  looks misses all _ _ _ tried since (means_known class m k) unread e = never (is_read (of_kind class true) done) (nets class true k) unread
  looks misses all _ _ _ tried since (means_there class m k) unread e = looks_up_either class (untried class m unread)
  looks misses all _ _ _ tried since (means_other class none risen k) unread e = looks_up_other class (ap (λ v. v.network) (sym e)) (since risen)

  -- the reading of a file failed
  pub faulted : (misses faults all : Counts) (found : List (List ℕ)) (file : ℕ) → ((class : List ℕ) → is_among class s.missed ≡ true → HasRisen all.old all.new)
      → (HasRisen misses.old misses.new → HasRisen all.old all.new) → Fails library q misses faults names found (behind s rest) file
      → IsFaulted library top all file found
  faulted misses faults all found file tried since h = go q.asked h.want refl refl h.tries
    where
      unread : is_read h.want done ≡ false
      unread = has_is done s.networks s.sources h.want false is.networks_are is.sources_are h.unread

      by : (choice : Choice) → Fits library choice → Agrees choice s.missed done → LooksUp choice is.looked_at.passed all q.asked h.want → IsFaulted library top all file found
      by choice fits agrees looked = record {
        choice = choice;
        fits = fits;
        reads = done;
        request = q;
        comes = comes_by choice agrees;
        failing = h.want;
        looks_up = looked;
        unread = unread;
        file_is = h.failed.file_is ∙ ap suc (count_names done names is.names_are);
        names_are = h.failed.names_are ∙ ap (λ ns. ns ++ name_of h.want ∷ []) is.names_are;
      }

      go : (asked : Asked) (w : Wanted) → asked ≡ q.asked → w ≡ h.want → Tries library misses (behind s rest) asked w → IsFaulted library top all file found
      go asked w e f (tries_file known means) =
          by (chosen library known.missed) (choice_fits library (as_found known.missed))
          (agrees misses h.want known moved)
          (looks misses all q.asked h.want known tried since moved unread (wanted_now_is misses h.want known moved))
        where
          moved : Means library misses (behind s rest) q.asked h.want known
          moved = subst (λ v. Means library misses (behind s rest) q.asked v known) f (subst (λ x. Means library misses (behind s rest) x w known) e means)
      go _ _ e f (tries_network class m) =
          by (chosen library s.missed) (choice_fits library (as_found s.missed))
          (chosen_agrees library s.missed done is.are_lacking (nets_there library top done names s is))
          (subst (λ v. LooksUp (chosen library s.missed) is.looked_at.passed all q.asked v) f
          (subst (λ x. LooksUp (chosen library s.missed) is.looked_at.passed all x (of_kind class true)) e
          (looks_up_either class (untried class m (subst (λ v. is_read v done ≡ false) (sym f) unread)))))

-- ---- where a loading begins and ends

pub begun : (library : Library) (top : Asked) (s : State) → IsBegun top s → HasRead library top [] s
begun library top s h = record {
  done = [];
  is_so_far = record {
    are_read = λ choice agrees. tt;
    are_lacking = λ class k. absurd (none_missed s.missed h.missed_are class k);
    networks_are = h.networks_are;
    sources_are = h.sources_are;
    names_are = refl;
    bytes_are = h.bytes_are;
    few = omega arith;
    small = subst (λ n. n ≤ max_bytes) (sym h.bytes_are) (omega arith);
    looked_at = record { passed = []; splits = sym h.waiting_are; all_read = λ choice agrees. tt };
  };
}

module _ (library : Library) (top : Asked) (done : List Read) (names : List (List ℕ)) (s : State) (is : IsSoFar library top done names s) (waits : s.waiting ≡ []) where
  none_next : (choice : Choice) → Agrees choice s.missed done → next_wanted choice top done ≡ None
  none_next choice h =
      next_is choice top done is.looked_at.passed (is.looked_at.splits ∙ ap (λ ws. is.looked_at.passed ++ ws) waits ∙ append-nil is.looked_at.passed)
      ∙ first_none choice done is.looked_at.passed (is.looked_at.all_read choice h)

  ends_agrees : Agrees (chosen library s.missed) s.missed done
  ends_agrees = chosen_agrees library s.missed done is.are_lacking (nets_there library top done names s is)

  pub ends : AreLoaded library top done
  ends = record {
    choice = chosen library s.missed;
    fits = choice_fits library (as_found s.missed);
    are_read = is.are_read (chosen library s.missed) ends_agrees;
    whole = none_next (chosen library s.missed) ends_agrees;
  }

  -- what was missed was counted
  pub ends_tried : (misses : Counts) → ((class : List ℕ) → is_among class s.missed ≡ true → HasRisen misses.old misses.new)
      → AreTried done misses (top ∷ asked_by_all done)
  ends_tried misses tried = all_tried (as_found s.missed) done misses (top ∷ asked_by_all done) (none_next (as_found s.missed) (found_agrees s.missed done))
      (λ class h. tried class (found_missed s.missed class h))
