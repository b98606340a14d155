-- The first byte of a line.
use Rattle.std.proofs.Common.{◌≡◌, false, ℕ, zero, suc, List, [], ◌∷◌, ◌++◌, None, refl, sym, ap, ◌∙◌, subst, inl, inr, arith, append_assoc}
use Rattle.std.specs.Prelude.{decimal, codes, drop, ◌≢◌}
use Rattle.std.proofs.lemmas.List.{append-nil}
use Rattle.rvc_base.specs.Trap.{trap_name}
use Rattle.trace_text.specs.declared.line.Line.{Line}
use Rattle.trace_text.specs.declared.line.Line.TheVariants.{Header, Inst, Fire, Deliver, Grow, Quiet, Trap, Stall, Budget}
use Rattle.trace_text.specs.declared.place.Place.TheVariants.{Start, AfterR, Letter, Ending, Lost}
use Rattle.trace_text.specs.declared.place.Field.{Field}
use Rattle.trace_text.specs.declared.place.Field.TheVariants.{Instances, GrowingInstances, Instance, FiringInst, TrappingInst, StalledInst, GrownLink}
use Rattle.trace_text.specs.declared.place.Part.TheVariants.{Path}
use Rattle.trace_text.specs.Text.{line_text, line_feed}
use Rattle.trace_text.specs.Spelling.{Spells}
use Rattle.trace_text.specs.Waiting.{IsAll, Behind, Then, Ends, Named, after_names, NamesTrap, IsLimited, Versions, InField, Waits, IsAlive, Leads, front}
use Rattle.trace_text.specs.Names.{slash, dot}
use Rattle.trace_text.proofs.Decoding.{heads, tails, letter_of, spread, spread_is}
use Rattle.trace_text.proofs.Naming.{named_parted, joined_named}
use Rattle.trace_text.proofs.Numbering.{alive_none, lost}

pub text_spread : (line : Line) → line_text line ≡ spread line []
text_spread line = sym (append-nil (line_text line)) ∙ spread_is line []

pub inst_spread : (k : ℕ) (path class : List ℕ)
    → line_text (Inst k) ++ path ++ codes " " ++ class ++ line_feed ≡ spread (Inst k) (path ++ (32 ∷ (class ++ (10 ∷ []))))
inst_spread k path class = simp append_assoc

pub first_letter : (line : Line) (byte : ℕ) (bytes : List ℕ) → Spells line (byte ∷ bytes) → byte ≡ letter_of line
first_letter (Header n l zero) byte bytes w = heads byte 114 bytes _ (w.1 ∙ text_spread (Header n l zero))
first_letter (Header n l (suc g)) byte bytes w = heads byte 114 bytes _ (w.1 ∙ text_spread (Header n l (suc g)))
first_letter (Grow l c) byte bytes w = heads byte 103 bytes _ (w.1 ∙ text_spread (Grow l c))
first_letter (Inst k) byte bytes w = heads byte 105 bytes _ (w.1.4 ∙ inst_spread k w.1.0 w.1.1)
first_letter (Fire i a) byte bytes w = heads byte 102 bytes _ (w.1 ∙ text_spread (Fire i a))
first_letter Deliver byte bytes w = heads byte 114 bytes (10 ∷ []) w.1
first_letter Quiet byte bytes w = heads byte 113 bytes (10 ∷ []) w.1
first_letter (Trap i a c) byte bytes w = heads byte 116 bytes _ (w.1 ∙ text_spread (Trap i a c))
first_letter (Stall i a l) byte bytes w = heads byte 115 bytes _ (w.1 ∙ text_spread (Stall i a l))
first_letter Budget byte bytes w = heads byte 98 bytes (10 ∷ []) w.1

then_is : (c : ℕ) (P : List ℕ → Type 0) (bytes : List ℕ) → Then c P bytes → (more : List ℕ) × (bytes ≡ c ∷ more) × P more
then_is c P [] w = absurd w
then_is c P (b ∷ bytes) w = (bytes, ap (λ (u : ℕ). u ∷ bytes) w.0, w.1)

behind_is : (cs : List ℕ) (P : List ℕ → Type 0) (bytes : List ℕ) → Behind cs P bytes → (more : List ℕ) × (bytes ≡ cs ++ more) × P more
behind_is [] P bytes w = (bytes, refl, w)
behind_is (c ∷ cs) P [] w = absurd w
behind_is (c ∷ cs) P (b ∷ bytes) w =
    let rest = behind_is cs P bytes w.1 in
    (rest.0, (let first : b ≡ c = w.0 in let others : bytes ≡ cs ++ rest.0 = rest.1 in cc), rest.2)

pub behind_all : (cs : List ℕ) (P : List ℕ → Type 0) (bytes : List ℕ) → P bytes → Behind cs P (cs ++ bytes)
behind_all [] P bytes w = w
behind_all (c ∷ cs) P bytes w = (refl, behind_all cs P bytes w)

at : (P : List ℕ → Type 0) (xs ys : List ℕ) → xs ≡ ys → P ys → P xs
at P xs ys e w = subst P (sym e) w

fire_on : (line : Line) (bytes : List ℕ) → Spells line (102 ∷ bytes) → Then 32 (InField FiringInst None line) bytes
fire_on (Fire i a) bytes w =
    at (Then 32 (InField FiringInst None (Fire i a))) bytes (32 ∷ (decimal i ++ (32 ∷ (decimal a ++ (10 ∷ [])))))
    (tails 102 102 _ _ (w.1 ∙ text_spread (Fire i a))) (
      refl,
      record {
        fits = tt;
        number = i;
        tail = 32 ∷ (decimal a ++ (10 ∷ []));
        is_bounded = w.0.0;
        text = refl;
        follows = (refl, record { fits = tt; number = a; tail = 10 ∷ []; is_bounded = w.0.1; text = refl; follows = (refl, (refl, refl)) });
      },
    )
fire_on line bytes w = absurd (let e : 102 ≡ letter_of line = first_letter line 102 bytes w in omega arith)

fire_back : (line : Line) (bytes : List ℕ) → Then 32 (InField FiringInst None line) bytes → Spells line (102 ∷ bytes)
fire_back line bytes w =
    let a = then_is 32 (InField FiringInst None line) bytes w in
    let i = a.2 in
    let b = then_is 32 _ i.tail i.follows in
    let action = b.2 in
    let c = then_is 10 _ action.tail action.follows in
    let ends : c.0 ≡ [] = c.2.1 in
    subst (λ (l : Line). Spells l (102 ∷ bytes)) (sym c.2.0) (
      (i.is_bounded, action.is_bounded),
      (let e : 102 ∷ bytes ≡ spread (Fire i.number action.number) [] = cc in
          e ∙ sym (text_spread (Fire i.number action.number))),
    )

pub alive_letter : (field : Field) → IsAlive (Letter field)
alive_letter field = let some = alive_none field in (some.0, 32 ∷ some.1, (refl, some.2))

pub leads_fire : Leads Start 102 (Letter FiringInst)
leads_fire = record { onward = fire_on; back = fire_back; alive = alive_letter FiringInst }

grow_on : (line : Line) (bytes : List ℕ) → Spells line (103 ∷ bytes) → Then 32 (InField GrownLink None line) bytes
grow_on (Grow l c) bytes w =
    at (Then 32 (InField GrownLink None (Grow l c))) bytes (32 ∷ (decimal l ++ (32 ∷ (decimal c ++ (10 ∷ [])))))
    (tails 103 103 _ _ (w.1 ∙ text_spread (Grow l c))) (
      refl,
      record {
        fits = tt;
        number = l;
        tail = 32 ∷ (decimal c ++ (10 ∷ []));
        is_bounded = w.0.0;
        text = refl;
        follows = (refl, record { fits = tt; number = c; tail = 10 ∷ []; is_bounded = w.0.1; text = refl; follows = (refl, (refl, refl)) });
      },
    )
grow_on line bytes w = absurd (let e : 103 ≡ letter_of line = first_letter line 103 bytes w in omega arith)

grow_back : (line : Line) (bytes : List ℕ) → Then 32 (InField GrownLink None line) bytes → Spells line (103 ∷ bytes)
grow_back line bytes w =
    let a = then_is 32 (InField GrownLink None line) bytes w in
    let l = a.2 in
    let b = then_is 32 _ l.tail l.follows in
    let capacity = b.2 in
    let c = then_is 10 _ capacity.tail capacity.follows in
    let ends : c.0 ≡ [] = c.2.1 in
    subst (λ (l : Line). Spells l (103 ∷ bytes)) (sym c.2.0) (
      (l.is_bounded, capacity.is_bounded),
      (let e : 103 ∷ bytes ≡ spread (Grow l.number capacity.number) [] = cc in
          e ∙ sym (text_spread (Grow l.number capacity.number))),
    )

pub leads_grow : Leads Start 103 (Letter GrownLink)
leads_grow = record { onward = grow_on; back = grow_back; alive = alive_letter GrownLink }

trap_on : (line : Line) (bytes : List ℕ) → Spells line (116 ∷ bytes) → Then 32 (InField TrappingInst None line) bytes
trap_on (Trap i a c) bytes w =
    at (Then 32 (InField TrappingInst None (Trap i a c))) bytes
    (32 ∷ (decimal i ++ (32 ∷ (decimal a ++ (32 ∷ (trap_name c ++ (10 ∷ [])))))))
    (tails 116 116 _ _ (w.1 ∙ text_spread (Trap i a c))) (
      refl,
      record {
        fits = tt;
        number = i;
        tail = 32 ∷ (decimal a ++ (32 ∷ (trap_name c ++ (10 ∷ []))));
        is_bounded = w.0.0;
        text = refl;
        follows = (
          refl,
          record {
            fits = tt;
            number = a;
            tail = 32 ∷ (trap_name c ++ (10 ∷ []));
            is_bounded = w.0.1;
            text = refl;
            follows = (refl, (c, behind_all (trap_name c) (Ends (Trap i a c) (Trap i a c)) (10 ∷ []) (refl, (refl, refl))));
          },
        );
      },
    )
trap_on line bytes w = absurd (let e : 116 ≡ letter_of line = first_letter line 116 bytes w in omega arith)

trap_back : (line : Line) (bytes : List ℕ) → Then 32 (InField TrappingInst None line) bytes → Spells line (116 ∷ bytes)
trap_back line bytes w =
    let a = then_is 32 (InField TrappingInst None line) bytes w in
    let i = a.2 in
    let b = then_is 32 _ i.tail i.follows in
    let action = b.2 in
    let c = then_is 32 (NamesTrap i.number action.number line) action.tail action.follows in
    let trap = c.2.0 in
    let d = behind_is (trap_name trap) (Ends (Trap i.number action.number trap) line) c.0 c.2.1 in
    let f = then_is 10 (IsAll (Trap i.number action.number trap) line) d.0 d.2 in
    let ends : f.0 ≡ [] = f.2.1 in
    let third : c.0 ≡ trap_name trap ++ d.0 = d.1 in
    let e : 116 ∷ bytes ≡ spread (Trap i.number action.number trap) [] = cc in
    subst (λ (l : Line). Spells l (116 ∷ bytes)) (sym f.2.0)
    ((i.is_bounded, action.is_bounded), e ∙ sym (text_spread (Trap i.number action.number trap)))

stall_on : (line : Line) (bytes : List ℕ) → Spells line (115 ∷ bytes) → Then 32 (InField StalledInst None line) bytes
stall_on (Stall i a l) bytes w =
    at (Then 32 (InField StalledInst None (Stall i a l))) bytes
    (32 ∷ (decimal i ++ (32 ∷ (decimal a ++ (32 ∷ (decimal l ++ (10 ∷ [])))))))
    (tails 115 115 _ _ (w.1 ∙ text_spread (Stall i a l))) (
      refl,
      record {
        fits = tt;
        number = i;
        tail = 32 ∷ (decimal a ++ (32 ∷ (decimal l ++ (10 ∷ []))));
        is_bounded = w.0.0;
        text = refl;
        follows = (
          refl,
          record {
            fits = tt;
            number = a;
            tail = 32 ∷ (decimal l ++ (10 ∷ []));
            is_bounded = w.0.1;
            text = refl;
            follows = (refl, record { fits = tt; number = l; tail = 10 ∷ []; is_bounded = w.0.2; text = refl; follows = (refl, (refl, refl)) });
          },
        );
      },
    )
stall_on line bytes w = absurd (let e : 115 ≡ letter_of line = first_letter line 115 bytes w in omega arith)

stall_back : (line : Line) (bytes : List ℕ) → Then 32 (InField StalledInst None line) bytes → Spells line (115 ∷ bytes)
stall_back line bytes w =
    let a = then_is 32 (InField StalledInst None line) bytes w in
    let i = a.2 in
    let b = then_is 32 _ i.tail i.follows in
    let action = b.2 in
    let c = then_is 32 _ action.tail action.follows in
    let link = c.2 in
    let d = then_is 10 _ link.tail link.follows in
    let ends : d.0 ≡ [] = d.2.1 in
    let e : 115 ∷ bytes ≡ spread (Stall i.number action.number link.number) [] = cc in
    subst (λ (l : Line). Spells l (115 ∷ bytes)) (sym d.2.0)
    ((i.is_bounded, action.is_bounded, link.is_bounded), e ∙ sym (text_spread (Stall i.number action.number link.number)))

inst_on : (line : Line) (bytes : List ℕ) → Spells line (105 ∷ bytes) → Then 32 (InField Instance None line) bytes
inst_on (Inst k) bytes w =
    let path = w.1.0 in
    let class = w.1.1 in
    at (Then 32 (InField Instance None (Inst k))) bytes (32 ∷ (decimal k ++ (32 ∷ (path ++ (32 ∷ (class ++ (10 ∷ [])))))))
    (tails 105 105 _ _ (w.1.4 ∙ inst_spread k path class)) (
      refl,
      record {
        fits = tt;
        number = k;
        tail = 32 ∷ (path ++ (32 ∷ (class ++ (10 ∷ []))));
        is_bounded = w.0;
        text = refl;
        follows = (
          refl,
          joined_named slash (after_names Path k (Inst k)) (refl, refl) path (32 ∷ (class ++ (10 ∷ []))) w.1.2
              (refl, joined_named dot (Ends (Inst k) (Inst k)) (refl, refl) class (10 ∷ []) w.1.3 (refl, (refl, refl))),
        );
      },
    )
inst_on line bytes w = absurd (let e : 105 ≡ letter_of line = first_letter line 105 bytes w in omega arith)

inst_back : (line : Line) (bytes : List ℕ) → Then 32 (InField Instance None line) bytes → Spells line (105 ∷ bytes)
inst_back line bytes w =
    let a = then_is 32 (InField Instance None line) bytes w in
    let i = a.2 in
    let b = then_is 32 _ i.tail i.follows in
    let path = named_parted slash (after_names Path i.number line) b.0 b.2 in
    let c = then_is 32 (Named false dot (Ends (Inst i.number) line)) path.tail path.follows in
    let class = named_parted dot (Ends (Inst i.number) line) c.0 c.2 in
    let d = then_is 10 (IsAll (Inst i.number) line) class.tail class.follows in
    let ends : d.0 ≡ [] = d.2.1 in
    let e : 105 ∷ bytes ≡ spread (Inst i.number) (path.names ++ (32 ∷ (class.names ++ (10 ∷ [])))) = cc in
    subst (λ (l : Line). Spells l (105 ∷ bytes)) (sym d.2.0)
    (i.is_bounded, (path.names, class.names, path.are_joined, class.are_joined, e ∙ sym (inst_spread i.number path.names class.names)))

header_on : (line : Line) (bytes : List ℕ) → Spells line (114 ∷ bytes) → Waits AfterR line bytes
header_on (Header n l zero) bytes w = inr
    (at (Behind (drop 1 front) (Versions (Header n l 0))) bytes
    (codes "vc-trace 1 " ++ (decimal n ++ (32 ∷ (decimal l ++ (10 ∷ [])))))
    (tails 114 114 _ _ (w.1 ∙ text_spread (Header n l zero)))
    (behind_all (drop 1 front) (Versions (Header n l 0)) (49 ∷ 32 ∷ (decimal n ++ (32 ∷ (decimal l ++ (10 ∷ []))))) (inl (
      refl,
      (
        refl,
        record {
          fits = tt;
          number = n;
          tail = 32 ∷ (decimal l ++ (10 ∷ []));
          is_bounded = w.0.0;
          text = refl;
          follows = (refl, record { fits = tt; number = l; tail = 10 ∷ []; is_bounded = w.0.1; text = refl; follows = (refl, (refl, refl)) });
        },
      ),
    ))))
header_on (Header n l (suc g)) bytes w = inr
    (at (Behind (drop 1 front) (Versions (Header n l (suc g)))) bytes
    (codes "vc-trace 2 " ++ (decimal n ++ (32 ∷ (decimal l ++ (32 ∷ (decimal (suc g) ++ (10 ∷ [])))))))
    (tails 114 114 _ _ (w.1 ∙ text_spread (Header n l (suc g))))
    (behind_all (drop 1 front) (Versions (Header n l (suc g))) (50 ∷ 32 ∷ (decimal n ++ (32 ∷ (decimal l ++ (32 ∷ (decimal (suc g) ++ (10 ∷ []))))))) (inr (
      refl,
      (
        refl,
        record {
          fits = tt;
          number = n;
          tail = 32 ∷ (decimal l ++ (32 ∷ (decimal (suc g) ++ (10 ∷ []))));
          is_bounded = w.0.0;
          text = refl;
          follows = (
            refl,
            record {
              fits = tt;
              number = l;
              tail = 32 ∷ (decimal (suc g) ++ (10 ∷ []));
              is_bounded = w.0.1;
              text = refl;
              follows = (refl, record { fits = tt; number = suc g; tail = 10 ∷ []; is_bounded = w.0.2; text = refl; follows = (refl, (refl, refl)) });
            },
          );
        },
      ),
    ))))
header_on Deliver bytes w = inl (at (Ends Deliver Deliver) bytes (10 ∷ []) (tails 114 114 _ _ w.1) (refl, (refl, refl)))
header_on line bytes w = absurd (let e : 114 ≡ letter_of line = first_letter line 114 bytes w in omega arith)

first_back : (line : Line) (bytes more : List ℕ) → bytes ≡ codes "vc-trace 1" ++ more
    → Then 32 (InField Instances None line) more → Spells line (114 ∷ bytes)
first_back line bytes more start w =
    let a = then_is 32 (InField Instances None line) more w in
    let i = a.2 in
    let b = then_is 32 _ i.tail i.follows in
    let link = b.2 in
    let c = then_is 10 _ link.tail link.follows in
    let ends : c.0 ≡ [] = c.2.1 in
    let e : 114 ∷ bytes ≡ spread (Header i.number link.number 0) [] = cc in
    subst (λ (l : Line). Spells l (114 ∷ bytes)) (sym c.2.0)
    ((i.is_bounded, link.is_bounded, omega arith), e ∙ sym (text_spread (Header i.number link.number 0)))

-- a limit of growth isn't 0
record Limited (instances links : ℕ) (line : Line) (limit : ℕ) (bytes : List ℕ) : Type 0 where
  less : ℕ
  is : limit ≡ suc less
  line_is : line ≡ Header instances links (suc less)
  ends : bytes ≡ []

limited : (instances links : ℕ) (line : Line) (limit : ℕ) (bytes : List ℕ) → IsLimited instances links line limit bytes
    → Limited instances links line limit bytes
limited instances links line zero bytes w = absurd w
limited instances links line (suc less) bytes w = record { less = less; is = refl; line_is = w.0; ends = w.1 }

second_back : (line : Line) (bytes more : List ℕ) → bytes ≡ codes "vc-trace 2" ++ more
    → Then 32 (InField GrowingInstances None line) more → Spells line (114 ∷ bytes)
second_back line bytes more start w =
    let a = then_is 32 (InField GrowingInstances None line) more w in
    let i = a.2 in
    let b = then_is 32 _ i.tail i.follows in
    let link = b.2 in
    let c = then_is 32 _ link.tail link.follows in
    let grow = c.2 in
    let d = then_is 10 _ grow.tail grow.follows in
    let end : Limited i.number link.number line grow.number d.0 = limited i.number link.number line grow.number d.0 d.2 in
    let ends : d.0 ≡ [] = end.ends in
    let number : grow.number ≡ suc end.less = end.is in
    let text : decimal grow.number ≡ decimal (suc end.less) = ap decimal number in
    let e : 114 ∷ bytes ≡ spread (Header i.number link.number (suc end.less)) [] = cc in
    subst (λ (l : Line). Spells l (114 ∷ bytes)) (sym end.line_is)
    ((i.is_bounded, link.is_bounded, omega (arith, grow.is_bounded, number)), e ∙ sym (text_spread (Header i.number link.number (suc end.less))))

header_back : (line : Line) (bytes : List ℕ) → Behind (drop 1 front) (Versions line) bytes → Spells line (114 ∷ bytes)
header_back line bytes w =
    let a = behind_is (drop 1 front) (Versions line) bytes w in
    let start : bytes ≡ codes "vc-trace " ++ a.0 = a.1 in
    elim a.2 [
      | inl v ↦ let b = then_is 49 (Then 32 (InField Instances None line)) a.0 v in
          first_back line bytes b.0 (let e : a.0 ≡ 49 ∷ b.0 = b.1 in cc) b.2
      | inr v ↦ let b = then_is 50 (Then 32 (InField GrowingInstances None line)) a.0 v in
          second_back line bytes b.0 (let e : a.0 ≡ 50 ∷ b.0 = b.1 in cc) b.2
    ]

end_back : (this line : Line) (c : ℕ) (bytes : List ℕ) → Spells this (c ∷ 10 ∷ []) → Ends this line bytes → Spells line (c ∷ bytes)
end_back this line c bytes there w =
    let a = then_is 10 (IsAll this line) bytes w in
    let ends : a.0 ≡ [] = a.2.1 in
    let e : c ∷ bytes ≡ c ∷ 10 ∷ [] = cc in
    subst (λ (l : Line). Spells l (c ∷ bytes)) (sym a.2.0) (subst (λ (u : List ℕ). Spells this u) (sym e) there)

pub alive_end : (this : Line) → IsAlive (Ending this)
alive_end this = (this, 10 ∷ [], (refl, (refl, refl)))

pub leads_r : Leads Start 114 AfterR
leads_r = record {
  onward = header_on;
  back = λ line bytes w. elim w [
    | inl v ↦ end_back Deliver line 114 bytes (tt, refl) v
    | inr v ↦ header_back line bytes v
  ];
  alive = (Deliver, 10 ∷ [], inl (refl, (refl, refl)));
}

pub leads_inst : Leads Start 105 (Letter Instance)
leads_inst = record { onward = inst_on; back = inst_back; alive = alive_letter Instance }

pub leads_trap : Leads Start 116 (Letter TrappingInst)
leads_trap = record { onward = trap_on; back = trap_back; alive = alive_letter TrappingInst }

pub leads_stall : Leads Start 115 (Letter StalledInst)
leads_stall = record { onward = stall_on; back = stall_back; alive = alive_letter StalledInst }

quiet_on : (line : Line) (bytes : List ℕ) → Spells line (113 ∷ bytes) → Ends Quiet line bytes
quiet_on Quiet bytes w = at (Ends Quiet Quiet) bytes (10 ∷ []) (tails 113 113 _ _ w.1) (refl, (refl, refl))
quiet_on line bytes w = absurd (let e : 113 ≡ letter_of line = first_letter line 113 bytes w in omega arith)

pub leads_quiet : Leads Start 113 (Ending Quiet)
leads_quiet = record {
  onward = quiet_on;
  back = λ line bytes w. end_back Quiet line 113 bytes (tt, refl) w;
  alive = alive_end Quiet;
}

budget_on : (line : Line) (bytes : List ℕ) → Spells line (98 ∷ bytes) → Ends Budget line bytes
budget_on Budget bytes w = at (Ends Budget Budget) bytes (10 ∷ []) (tails 98 98 _ _ w.1) (refl, (refl, refl))
budget_on line bytes w = absurd (let e : 98 ≡ letter_of line = first_letter line 98 bytes w in omega arith)

pub leads_budget : Leads Start 98 (Ending Budget)
leads_budget = record {
  onward = budget_on;
  back = λ line bytes w. end_back Budget line 98 bytes (tt, refl) w;
  alive = alive_end Budget;
}

-- the bytes that lines begin with
abbrev pub IsNoLetter : ℕ → Type 0
IsNoLetter byte = (line : Line) → byte ≡ letter_of line → ⊥

pub no_letter : (byte : ℕ) → byte ≢ 114 → byte ≢ 105 → byte ≢ 102 → byte ≢ 103 → byte ≢ 113 → byte ≢ 116 → byte ≢ 115 → byte ≢ 98 → IsNoLetter byte
no_letter byte r i f g q t s b (Header n l k) e = r e
no_letter byte r i f g q t s b (Grow l c) e = g e
no_letter byte r i f g q t s b (Inst k) e = i e
no_letter byte r i f g q t s b (Fire j a) e = f e
no_letter byte r i f g q t s b Deliver e = r e
no_letter byte r i f g q t s b Quiet e = q e
no_letter byte r i f g q t s b (Trap j a c) e = t e
no_letter byte r i f g q t s b (Stall j a l) e = s e
no_letter byte r i f g q t s b Budget e = b e

pub leads_no_letter : (byte : ℕ) → IsNoLetter byte → Leads Start byte Lost
leads_no_letter byte none = lost Start byte (λ line bytes w. none line (first_letter line byte bytes w))
