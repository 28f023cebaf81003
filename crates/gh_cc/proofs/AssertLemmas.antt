-- A literal more, and the last ones taken back.
use Rattle.std.proofs.Common.{◌≡◌, ◌⊎◌, inl, inr, ℕ, ◌+◌, ◌<◌, ◌≤◌, Bool, true, false, cond, ltb, List, [], ◌∷◌, ◌++◌}
use Rattle.std.proofs.Common.{length, get_or, take, Option, Some, None, refl, sym, ap, ◌∙◌, subst, arith, take_all}
use Rattle.std.proofs.Common.{length-append}
use Rattle.std.specs.Prelude.{IfNone, IfSome, is_some}
use Rattle.std.proofs.lemmas.Bool.{cases_lt, lt-ltb, le-ltb}
use Rattle.std.proofs.lemmas.Option.{same_Some, get_or_from_slice_get, slice_get_read}
use Rattle.std.proofs.lemmas.List.{length_push, length-take-le, take-append-le}
use Rattle.std.proofs.lemmas.List.Elements.{All-push, All-take}
use Rattle.gh_base.specs.declared.atom.Lit.{Lit}
use Rattle.gh_base.specs.Atoms.{IsInRange}
use Rattle.gh_cc.specs.declared.partition.Link.{Link}
use Rattle.gh_cc.specs.declared.signatures.SignatureEntry.{SignatureEntry}
use Rattle.gh_cc.specs.declared.clash.Clash.{Clash}
use Rattle.gh_cc.specs.declared.classes.Stage.{Stage}
use Rattle.gh_cc.specs.declared.classes.ClashAt.{ClashAt}
use Rattle.gh_cc.specs.Partitions.{Merged}
use Rattle.gh_cc.specs.Signatures.{Filed}
use Rattle.gh_cc.specs.Asserted.{IsUnasserted}
use Rattle.gh_cc.specs.Kept.{reps, IsClash, IsState, AllFiled, AreTied, LinksMore, Core, stage_at, first_clash}
use Rattle.gh_cc.specs.Kept.{clash_before, IsStage, IsBefore, IsKept}
use Rattle.gh_base.proofs.ListLemmas.{get_front, get_take}
use Rattle.gh_cc.proofs.KeptLemmas.{take_take, get_or_push, get_or_past, get_or_front_of, stage_keeps, clash_keeps}
use Rattle.gh_cc.proofs.KeptLemmas.{few_lits, apart_push, now_of, clash_cases, clash_stays, no_clash}

-- the state when all literals stand
pub state_now : (c : Core) → IsKept c → IsStage c (length c.lits) (now_of c)
state_now c h =
    let at : stage_at c (length c.lits) ≡ now_of c =
    get_or_past c.stages (now_of c) (length c.lits) (omega (arith, h.staged)) in
    subst (IsStage c (length c.lits)) at (h.each (length c.lits) (omega arith))

take_lits : (c : Core) → take (length c.lits) c.lits ≡ c.lits
take_lits c = take_all (length c.lits) c.lits (omega arith)

take_links : (c : Core) → take (length c.links) c.links ≡ c.links
take_links c = take_all (length c.links) c.links (omega arith)

take_entries : (c : Core) → take (length c.entries) c.entries ≡ c.entries
take_entries c = take_all (length c.entries) c.entries (omega arith)

-- what `file_last` is handed
pub tied_now : (c : Core) → IsKept c → IsState c.sizes c.lits c.links c.entries
tied_now c h = let s = (state_now c h).state in rw (take_lits c, take_links c, take_entries c) at s

pub filed_now : (c : Core) → IsKept c → c.clash ≡ None → AllFiled c.sizes c.lits c.links c.entries
filed_now c h none =
    let s = (state_now c h).filed (λ f at. absurd (let e : None ≡ Some f = sym none ∙ at in cc)) in
    rw (take_lits c, take_links c, take_entries c) at s

pub clash_now : (c : Core) → IsKept c → (f : ClashAt) → c.clash ≡ Some f → IsClash (reps c.links) c.lits f.clash
clash_now c h f at = let s = (state_now c h).clash f at (h.clashed f at) in rw (take_lits c, take_links c) at s

abbrev pub more_core : Core → Lit → Merged → Filed → Option Clash → Core
more_core c x p f found = record {
  sizes = c.sizes;
  lits = c.lits ++ x ∷ [];
  stages = c.stages ++ now_of c ∷ [];
  links = p.links;
  entries = f.entries;
  clash = first_clash c.clash (length c.lits) found;
}

-- what `file_last` says
pub record TakenIn (c : Core) (x : Lit) (p : Merged) (f : Filed) (found : Option Clash) : Type 0 where
  pub tied : AreTied c.sizes (c.lits ++ x ∷ []) p f
  pub added_links : List Link
  pub links : p.links ≡ c.links ++ added_links
  pub added_entries : List SignatureEntry
  pub entries : f.entries ≡ c.entries ++ added_entries
  pub filed : found ≡ None → c.clash ≡ None → AllFiled c.sizes (c.lits ++ x ∷ []) p.links f.entries
  pub clash : (k : Clash) → found ≡ Some k → IsClash (reps p.links) (c.lits ++ x ∷ []) k

old_stage : (c : Core) (x : Lit) (p : Merged) (f : Filed) (found : Option Clash) → IsKept c → (k : ℕ)
    → k ≤ length c.lits → stage_at (more_core c x p f found) k ≡ stage_at c k
old_stage c x p f found h k below = get_or_push c.stages (now_of c) (now_of (more_core c x p f found)) k
    (omega (arith, h.staged))

new_stage : (c : Core) (x : Lit) (p : Merged) (f : Filed) (found : Option Clash) → IsKept c → (k : ℕ)
    → length c.lits < k → stage_at (more_core c x p f found) k ≡ now_of (more_core c x p f found)
new_stage c x p f found h k above = get_or_past (c.stages ++ now_of c ∷ []) (now_of (more_core c x p f found)) k
    (omega (arith, h.staged, length_push c.stages (now_of c)))

last_stage : (c : Core) (x : Lit) (p : Merged) (f : Filed) (found : Option Clash) → IsKept c → TakenIn c x p f found
    → IsStage (more_core c x p f found) (length (c.lits ++ x ∷ [])) (now_of (more_core c x p f found))
last_stage c x p f found h t =
    let m = more_core c x p f found in
    let n = length_push c.lits x in
    record {
      depth = omega arith;
      count = omega arith;
      state = rw (take_lits m, take_links m, take_entries m) t.tied.state;
      filed = λ none.
          let w = no_clash c.clash (length c.lits) found (length (c.lits ++ x ∷ [])) none
          (λ g at. let b = h.clashed g at in omega (arith, n)) (omega (arith, n)) in
          rw (take_lits m, take_links m, take_entries m) (t.filed w.1 w.0);
      clash = λ g at lt.
          elim (clash_cases c.clash (length c.lits) found g at) as (λ _. IsClash (reps (take (length p.links) p.links))
          (take (length (c.lits ++ x ∷ [])) (c.lits ++ x ∷ [])) g.clash) [
            | inl old ↦
                let was = clash_keeps c.links t.added_links c.lits (c.lits ++ x ∷ []) g.clash
                (λ i l at. get_front c.lits (x ∷ []) i l at) (clash_now c h g old) in
                rw (take_links m, take_lits m, t.links) was
            | inr new ↦ rw (take_links m, take_lits m) (t.clash g.clash new.1)
          ];
    }

early_stage : (c : Core) (x : Lit) (p : Merged) (f : Filed) (found : Option Clash) → IsKept c → TakenIn c x p f found
    → (k : ℕ) → k ≤ length c.lits
    → IsStage (more_core c x p f found) k (stage_at c k)
early_stage c x p f found h t k below =
    let s = h.each k below in
    let u = stage_at c k in
    let links : take u.depth p.links ≡ take u.depth c.links = ap (take u.depth) t.links
    ∙ take-append-le u.depth c.links t.added_links s.depth in
    let entries : take u.entries f.entries ≡ take u.entries c.entries = ap (take u.entries) t.entries
    ∙ take-append-le u.entries c.entries t.added_entries s.count in
    let long_links : length p.links ≡ length c.links + length t.added_links = ap length t.links
    ∙ length-append c.links t.added_links in
    let long_entries : length f.entries ≡ length c.entries + length t.added_entries = ap length t.entries
    ∙ length-append c.entries t.added_entries in
    stage_keeps c (c.lits ++ x ∷ []) (c.stages ++ now_of c ∷ []) p.links f.entries
    (first_clash c.clash (length c.lits) found) k u
    (take-append-le k c.lits (x ∷ []) below) links entries (omega (arith, s.depth, long_links))
    (omega (arith, s.count, long_entries))
    (λ g at lt. elim (clash_cases c.clash (length c.lits) found g at) as (λ _. c.clash ≡ Some g) [
      | inl old ↦
          old
      | inr new ↦ absurd (omega (arith, new.2))
    ])
    (λ g at lt. clash_stays c.clash (length c.lits) found g at)
    s

pub kept_assert : (c : Core) (x : Lit) (p : Merged) (f : Filed) (found : Option Clash) → IsKept c
    → IsInRange c.sizes x.atom → IsUnasserted c.lits x.atom → TakenIn c x p f found → IsKept (more_core c x p f found)
kept_assert c x p f found h inside free t =
    let m = more_core c x p f found in
    let n = length_push c.lits x in
    let apart = apart_push c.lits x free h.apart in
    let all = All-push (λ (l : Lit). IsInRange c.sizes l.atom) c.lits x h.in_range inside in
    let long_links : length p.links ≡ length c.links + length t.added_links = ap length t.links
    ∙ length-append c.links t.added_links in
    let long_entries : length f.entries ≡ length c.entries + length t.added_entries = ap length t.entries
    ∙ length-append c.entries t.added_entries in
    record {
      few = few_lits c.sizes (c.lits ++ x ∷ []) all apart;
      staged = omega (arith, n, length_push c.stages (now_of c), h.staged);
      in_range = all;
      apart = apart;
      each = λ k below. elim (cases_lt (length c.lits) k) as (λ _. IsStage m k (stage_at m k)) [
        | inl new ↦
            let is : length (c.lits ++ x ∷ []) ≡ k = omega (arith, n) in
            rw (new_stage c x p f found h k new) (subst (λ j. IsStage m j (now_of m)) is (last_stage c x p f found h t))
        | inr old ↦ rw (old_stage c x p f found h k old) (early_stage c x p f found h t k old)
      ];
      clashed = λ g at.
          elim (clash_cases c.clash (length c.lits) found g at) as (λ _. g.place < length (c.lits ++ x ∷ [])) [
            | inl old ↦ let b = h.clashed g old in omega (arith, n)
            | inr new ↦ omega (arith, n, new.2)
          ];
      rising = λ j k jk below. elim (cases_lt (length c.lits) k) as (λ _. IsBefore (stage_at m j) (stage_at m k)) [
        | inl new ↦ elim (cases_lt (length c.lits) j) as (λ _. IsBefore (stage_at m j) (stage_at m k)) [
          | inl late ↦ rw (new_stage c x p f found h k new, new_stage c x p f found h j late)
              (record { depth = omega arith; entries = omega arith })
          | inr early ↦
              let s = h.each j early in
              rw (new_stage c x p f found h k new, old_stage c x p f found h j early)
              (record { depth = omega (arith, s.depth, long_links); entries = omega (arith, s.count, long_entries) })
        ]
        | inr old ↦
            let j_old : j ≤ length c.lits = omega arith in
            rw (old_stage c x p f found h k old, old_stage c x p f found h j j_old) (h.rising j k jk old)
      ];
    }

abbrev pub less_core : Core → ℕ → Stage → Core
less_core c mark t = record {
  sizes = c.sizes;
  lits = take mark c.lits;
  stages = take mark c.stages;
  links = take t.depth c.links;
  entries = take t.entries c.entries;
  clash = clash_before mark c.clash;
}

cond_yes : (b : Bool) (x : Option ClashAt) → b ≡ true → cond b x None ≡ x
cond_yes true x e = refl
cond_yes false x e = cc

cond_no : (b : Bool) (x : Option ClashAt) → b ≡ false → cond b x None ≡ None
cond_no true x e = cc
cond_no false x e = refl

ltb_tells : (a b : ℕ) → ((ltb a b ≡ true) × (a < b)) ⊎ ((ltb a b ≡ false) × (b ≤ a))
ltb_tells a b = elim (cases_lt a b) as (λ _. ((ltb a b ≡ true) × (a < b)) ⊎ ((ltb a b ≡ false) × (b ≤ a))) [
  | inl lt ↦
      inl (lt-ltb a b lt, lt)
  | inr ge ↦ inr (le-ltb a b ge, ge)
]

clash_was : (mark : ℕ) (o : Option ClashAt) (f : ClashAt) → clash_before mark o ≡ Some f → (o ≡ Some f)
    × (f.place < mark)
clash_was mark None f e = cc
clash_was mark (Some g) f e = elim (ltb_tells g.place mark) as (λ _. (Some g ≡ Some f) × (f.place < mark)) [
  | inl h ↦
      let is : Some g ≡ Some f = sym (cond_yes _ (Some g) h.0) ∙ e in
      let same : g ≡ f = same_Some g f is in
      (is, subst (λ (k : ClashAt). k.place < mark) same h.1)
  | inr h ↦ let none : None ≡ Some f = sym (cond_no _ (Some g) h.0) ∙ e in cc
]

clash_left : (mark : ℕ) (o : Option ClashAt) (f : ClashAt) → o ≡ Some f → f.place < mark → clash_before mark o ≡ Some f
clash_left mark None f e lt = cc
clash_left mark (Some g) f e lt =
    let same : g ≡ f = same_Some g f e in
    let below : g.place < mark = subst (λ (k : ClashAt). k.place < mark) (sym same) lt in
    elim (ltb_tells g.place mark) as (λ _. clash_before mark (Some g) ≡ Some f) [
      | inl h ↦ cond_yes _ (Some g) h.0 ∙ e
      | inr h ↦ absurd (omega (arith, h.1))
    ]

left_stage : (c : Core) (mark k : ℕ) → IsKept c → mark < length c.lits → k ≤ mark
    → stage_at (less_core c mark (stage_at c mark)) k ≡ stage_at c k
left_stage c mark k h within below =
    let u = stage_at c mark in
    let m = less_core c mark u in
    let s = h.each mark (omega arith) in
    elim (cases_lt k mark) as (λ _. stage_at m k ≡ stage_at c k) [
      | inl lt ↦ get_or_front_of mark c.stages (now_of m) (now_of c) k lt (omega (arith, h.staged))
      | inr ge ↦
          let is : mark ≡ k = omega arith in
          let long : length (take mark c.stages) ≡ mark = length-take-le mark c.stages (omega (arith, h.staged)) in
          let links : length (take u.depth c.links) ≡ u.depth = length-take-le u.depth c.links s.depth in
          let entries : length (take u.entries c.entries) ≡ u.entries = length-take-le u.entries c.entries s.count in
          let now : now_of m ≡ u = λ i. record { depth = links i; entries = entries i } in
          get_or_past (take mark c.stages) (now_of m) k (omega (arith, long)) ∙ now ∙ ap (stage_at c) is
    ]

pub kept_undo : (c : Core) (mark : ℕ) → IsKept c → mark < length c.lits → IsKept (less_core c mark (stage_at c mark))
kept_undo c mark h within =
    let u = stage_at c mark in
    let m = less_core c mark u in
    let s = h.each mark (omega arith) in
    let n : length (take mark c.lits) ≡ mark = length-take-le mark c.lits (omega arith) in
    let stages : length (take mark c.stages) ≡ mark = length-take-le mark c.stages (omega (arith, h.staged)) in
    let links : length (take u.depth c.links) ≡ u.depth = length-take-le u.depth c.links s.depth in
    let entries : length (take u.entries c.entries) ≡ u.entries = length-take-le u.entries c.entries s.count in
    record {
      few = omega (arith, n, h.few);
      staged = omega (arith, n, stages);
      in_range = All-take (λ (l : Lit). IsInRange c.sizes l.atom) mark c.lits h.in_range;
      apart = λ i j l k at at' e. h.apart i j l k (get_take mark c.lits i l at).1 (get_take mark c.lits j k at').1 e;
      each = λ k below.
          let low : k ≤ mark = omega (arith, n) in
          let t = stage_at c k in
          let before = h.rising k mark low (omega arith) in
          rw (left_stage c mark k h within low)
          (stage_keeps c (take mark c.lits) (take mark c.stages) (take u.depth c.links) (take u.entries c.entries)
          (clash_before mark c.clash) k t
          (take_take k mark c.lits low) (take_take t.depth u.depth c.links before.depth)
          (take_take t.entries u.entries c.entries before.entries)
          (omega (arith, links, before.depth)) (omega (arith, entries, before.entries))
          (λ f at lt. (clash_was mark c.clash f at).0)
          (λ f at lt. clash_left mark c.clash f at (omega arith))
          (h.each k (omega arith)));
      clashed = λ f at. let w = clash_was mark c.clash f at in omega (arith, w.1, n);
      rising = λ j k jk below.
          let low : k ≤ mark = omega (arith, n) in
          let low_j : j ≤ mark = omega arith in
          rw (left_stage c mark j h within low_j, left_stage c mark k h within low) (h.rising j k jk (omega arith));
    }

pub IfNone_at : {X P : Type 0} (o : Option X) → IfNone o P → o ≡ None → P
IfNone_at None h e = h
IfNone_at (Some x) h e = cc

pub IfSome_at : {X : Type 0} (P : X → Type 0) (o : Option X) (x : X) → IfSome o P → o ≡ Some x → P x
IfSome_at P None x h e = cc
IfSome_at P (Some y) x h e = subst P (same_Some y x e) h

pub none_is_none : (o : Option ClashAt) → o ≡ None → is_some o ≡ false
none_is_none None e = refl
none_is_none (Some x) e = cc

-- what stands before a new literal
pub front_is : (lits all : List Lit) (x : Lit) (place : ℕ) → all ≡ lits ++ x ∷ [] → place ≡ length lits
    → take place all ≡ lits
front_is lits all x place whole is =
    ap (take place) whole ∙ ap (λ n. take n (lits ++ x ∷ [])) is
    ∙ take-append-le (length lits) lits (x ∷ []) (omega arith) ∙ take_all (length lits) lits (omega arith)

pub taken_in : (c : Core) (x : Lit) (all : List Lit) (place : ℕ) (old p : Merged) (f : Filed) (found : Option Clash)
    (clashed : Bool) → all ≡ c.lits ++ x ∷ [] → place ≡ length c.lits → clashed ≡ is_some c.clash → IsKept c
    → AreTied c.sizes all p f → LinksMore (record { terms = old.terms; links = c.links }) p
    → (added : List SignatureEntry)
    → f.entries ≡ c.entries ++ added
    → IfNone found (clashed ≡ false → AllFiled c.sizes (take place all) c.links c.entries
    → AllFiled c.sizes all p.links f.entries)
    → IfSome found (λ k. IsClash (reps p.links) all k) → TakenIn c x p f found
taken_in c x all place old p f found clashed whole is flag h tied links added entries filed clash =
    let front = front_is c.lits all x place whole is in
    record {
      tied = subst (λ (ls : List Lit). AreTied c.sizes ls p f) whole tied;
      added_links = links.added;
      links = links.more;
      added_entries = added;
      entries = entries;
      filed = λ none quiet.
          let before : AllFiled c.sizes (take place all) c.links c.entries =
          subst (λ (ls : List Lit). AllFiled c.sizes ls c.links c.entries) (sym front) (filed_now c h quiet) in
          subst (λ (ls : List Lit). AllFiled c.sizes ls p.links f.entries) whole
          (IfNone_at found filed none (flag ∙ none_is_none c.clash quiet) before);
      clash = λ k at. subst (λ (ls : List Lit). IsClash (reps p.links) ls k) whole
          (IfSome_at (λ j. IsClash (reps p.links) all j) found k clash at);
    }

pub kept_along : (c : Core) (lits : List Lit) (stages : List Stage) (links : List Link) (entries : List SignatureEntry)
    (clash : Option ClashAt) → IsKept c
    → lits ≡ c.lits → stages ≡ c.stages → links ≡ c.links → entries ≡ c.entries → clash ≡ c.clash
    → IsKept (record { sizes = c.sizes; lits = lits; stages = stages; links = links; entries = entries; clash = clash })
kept_along c lits stages links entries clash h a b d e f =
    let whole : c
    ≡ record { sizes = c.sizes; lits = lits; stages = stages; links = links; entries = entries; clash = clash } =
    λ i. record {
      sizes = c.sizes;
      lits = sym a i;
      stages = sym b i;
      links = sym d i;
      entries = sym e i;
      clash = sym f i;
    } in
    subst IsKept whole h

pub stage_is : (c : Core) (k : ℕ) (t : Stage) → k < length c.stages → t ≡ get_or c.stages k t → stage_at c k ≡ t
stage_is c k t h read =
    get_or_from_slice_get c.stages k t (now_of c) (slice_get_read c.stages (length c.stages) k t refl h read)
