-- Entries of literals by the numbers of atoms.
use Rattle.std.proofs.Common.{◌≡◌, ◌≢◌, inl, inr, ℕ, zero, suc, ◌+◌, ◌<◌, ◌≤◌, ◌^◌, Bool, true, false, cond, List, []}
use Rattle.std.proofs.Common.{◌∷◌, ◌++◌, length, Option, Some, None, refl, sym, ap, ◌∙◌, subst, arith, length-set}
use Rattle.std.specs.Prelude.{slice_get, slice_set}
use Rattle.std.proofs.lemmas.Bool.{cases_eq, eq-eqb}
use Rattle.std.proofs.lemmas.Bool.Decides.{eqb_tells}
use Rattle.std.proofs.lemmas.List.{length_push}
use Rattle.gh_cc.specs.declared.signatures.SignatureEntry.{SignatureEntry}
use Rattle.gh_cc.specs.Signatures.{find_lit, free_places, AreSignatures}
use Rattle.gh_base.proofs.ListLemmas.{get_within, get_front, get_push, get_last, get_some, get_set_same, get_set_other}

pub fewer_left : (table : List (Option ℕ)) (a b : ℕ) → slice_get table a ≡ Some None
    → free_places (slice_set table a (Some b)) + 1 ≡ free_places table
fewer_left [] a b e = cc
fewer_left (None ∷ vs) zero b e = omega arith
fewer_left (Some v ∷ vs) zero b e = cc
fewer_left (None ∷ vs) (suc a) b e = omega (arith, fewer_left vs a b e)
fewer_left (Some v ∷ vs) (suc a) b e = fewer_left vs a b e

pub more_left : (table : List (Option ℕ)) (a b : ℕ) → slice_get table a ≡ Some (Some b)
    → free_places (slice_set table a None) ≡ free_places table + 1
more_left [] a b e = cc
more_left (Some v ∷ vs) zero b e = omega arith
more_left (None ∷ vs) zero b e = cc
more_left (None ∷ vs) (suc a) b e = omega (arith, more_left vs a b e)
more_left (Some v ∷ vs) (suc a) b e = more_left vs a b e

pub some_left : (table : List (Option ℕ)) (a : ℕ) → slice_get table a ≡ Some None → 0 < free_places table
some_left [] a e = cc
some_left (None ∷ vs) a e = omega arith
some_left (Some v ∷ vs) zero e = cc
some_left (Some v ∷ vs) (suc a) e = some_left vs a e

pub free_push : (table : List (Option ℕ)) → free_places (table ++ None ∷ []) ≡ free_places table + 1
free_push [] = refl
free_push (None ∷ vs) = omega (arith, free_push vs)
free_push (Some v ∷ vs) = free_push vs

cond_yes : (b : Bool) (x y : Option ℕ) → b ≡ true → cond b x y ≡ x
cond_yes true x y e = refl
cond_yes false x y e = cc

cond_no : (b : Bool) (x y : Option ℕ) → b ≡ false → cond b x y ≡ y
cond_no true x y e = cc
cond_no false x y e = refl

-- what is found is an entry
pub find_sound : (entries : List SignatureEntry) (number lit : ℕ) → find_lit entries number ≡ Some lit
    → (i : ℕ) × (slice_get entries i ≡ Some (record { number = number; lit = lit }))
find_sound [] number lit e = cc
find_sound (x ∷ xs) number lit e =
    elim (eqb_tells x.number number) as (λ _. (i : ℕ)
    × (slice_get (x ∷ xs) i ≡ Some (record { number = number; lit = lit }))) [
      | inl h ↦
          let same : Some x.lit ≡ Some lit = sym (cond_yes _ (Some x.lit) (find_lit xs number) h.0) ∙ e in
          let lits : x.lit ≡ lit = cc in
          let numbers : x.number ≡ number = h.1 in
          (0, ap (λ (y : SignatureEntry). Some y) (λ i. record { number = numbers i; lit = lits i }))
      | inr h ↦
          let rest = find_sound xs number lit (sym (cond_no _ (Some x.lit) (find_lit xs number) h.0) ∙ e) in
          (suc rest.0, rest.1)
    ]

-- an entry's number is found
pub find_some : (entries : List SignatureEntry) (i : ℕ) (e : SignatureEntry) → slice_get entries i ≡ Some e
    → (lit : ℕ) × (find_lit entries e.number ≡ Some lit)
find_some [] i e at = cc
find_some (x ∷ xs) zero e at =
    let here : x ≡ e = cc in (
      x.lit,
      cond_yes _ (Some x.lit) (find_lit xs e.number)
          (eq-eqb x.number e.number (ap (λ (y : SignatureEntry). y.number) here)),
    )
find_some (x ∷ xs) (suc i) e at =
    let rest = find_some xs i e at in
    elim (eqb_tells x.number e.number) as (λ _. (lit : ℕ) × (find_lit (x ∷ xs) e.number ≡ Some lit)) [
      | inl h ↦ (x.lit, cond_yes _ (Some x.lit) (find_lit xs e.number) h.0)
      | inr h ↦ (rest.0, cond_no _ (Some x.lit) (find_lit xs e.number) h.0 ∙ rest.1)
    ]

-- what the table has is what is found
pub table_is : (table : List (Option ℕ)) (entries : List SignatureEntry) (room n : ℕ) (o : Option ℕ)
    → AreSignatures table entries room → slice_get table n ≡ Some o → o ≡ find_lit entries n
table_is table entries room n None s at = none_is (find_lit entries n) refl where
  none_is : (f : Option ℕ) → find_lit entries n ≡ f → None ≡ f
  none_is None e = refl
  none_is (Some lit) e = let w = find_sound entries n lit e in let there = s.on w.0 _ w.1 in cc
table_is table entries room n (Some lit) s at =
    let w = s.back n lit at in
    let f = find_some entries w.0 _ w.1 in
    let g = find_sound entries n f.0 f.1 in
    let there = s.on g.0 _ g.1 in
    let same : f.0 ≡ lit = cc in
    sym (f.1 ∙ ap (λ (x : ℕ). Some x) same)

-- nothing is found where the table has nothing
pub table_free : (table : List (Option ℕ)) (entries : List SignatureEntry) (room n : ℕ)
    → AreSignatures table entries room
    → n < length table → find_lit entries n ≡ None → slice_get table n ≡ Some None
table_free table entries room n s h none =
    let r = get_some table n h in
    let is = table_is table entries room n r.0 s r.1 in
    r.1 ∙ ap (λ (x : Option ℕ). Some x) (is ∙ none)

pub signs_more : (table : List (Option ℕ)) (entries : List SignatureEntry) (room : ℕ) (y : SignatureEntry)
    → AreSignatures table entries room
    → y.number < length table → find_lit entries y.number ≡ None
    → AreSignatures (slice_set table y.number (Some y.lit)) (entries ++ y ∷ []) room
signs_more table entries room y s h none =
    let free = table_free table entries room y.number s h none in
    let other : (i : ℕ) (x : SignatureEntry) → slice_get entries i ≡ Some x → x.number ≢ y.number = λ i x at e.
    let there : slice_get table y.number ≡ Some (Some x.lit) =
    subst (λ n. slice_get table n ≡ Some (Some x.lit)) e (s.on i x at) in cc in
    let now = slice_set table y.number (Some y.lit) in
    record {
      on = λ i x at. elim (get_push entries y i x at) as (λ _. slice_get now x.number ≡ Some (Some x.lit)) [
        | inl old ↦ get_set_other table y.number x.number (Some y.lit) (other i x old) ∙ s.on i x old
        | inr new ↦ subst (λ (z : SignatureEntry). slice_get now z.number ≡ Some (Some z.lit)) new.1
            (get_set_same table y.number (Some y.lit) h)
      ];
      back = λ n lit at.
          elim (cases_eq n y.number) as (λ _. (i : ℕ)
          × (slice_get (entries ++ y ∷ []) i ≡ Some (record { number = n; lit = lit }))) [
            | inl e ↦
                let same : slice_get now n ≡ Some (Some y.lit) =
                subst (λ k. slice_get now k ≡ Some (Some y.lit)) (sym e) (get_set_same table y.number (Some y.lit) h) in
                let p : y.lit ≡ lit = cc in
                let numbers : y.number ≡ n = sym e in (
                  length entries,
                  get_last entries y
                      ∙ ap (λ (z : SignatureEntry). Some z) (λ i. record { number = numbers i; lit = p i }),
                )
            | inr ne ↦
                let w = s.back n lit (sym (get_set_other table y.number n (Some y.lit) ne) ∙ at) in
                (w.0, get_front entries (y ∷ []) w.0 _ w.1)
          ];
      apart = λ i x j z at at' e. elim (get_push entries y i x at) as (λ _. i ≡ j) [
        | inl old ↦ elim (get_push entries y j z at') as (λ _. i ≡ j) [
          | inl old' ↦ s.apart i x j z old old' e
          | inr new' ↦ absurd (other i x old (e ∙ ap (λ (t : SignatureEntry). t.number) (sym new'.1)))
        ]
        | inr new ↦ elim (get_push entries y j z at') as (λ _. i ≡ j) [
          | inl old' ↦ absurd (other j z old' (sym e ∙ ap (λ (t : SignatureEntry). t.number) (sym new.1)))
          | inr new' ↦ new.0 ∙ sym new'.0
        ]
      ];
      counted = omega (
        arith,
        s.counted,
        fewer_left table y.number y.lit free,
        length_push entries y,
        length-set table y.number (Some y.lit),
      );
      reserved = omega (arith, s.reserved, length-set table y.number (Some y.lit));
      few = omega (arith, s.few, length-set table y.number (Some y.lit));
    }

-- the last entry leaves
pub signs_less : (table : List (Option ℕ)) (entries : List SignatureEntry) (room : ℕ) (y : SignatureEntry)
    → AreSignatures table (entries ++ y ∷ []) room → AreSignatures (slice_set table y.number None) entries room
signs_less table entries room y s =
    let last = s.on (length entries) y (get_last entries y) in
    let here = get_within table y.number (Some y.lit) last in
    let away : (i : ℕ) (x : SignatureEntry) → slice_get entries i ≡ Some x → x.number ≢ y.number = λ i x at e.
    let same = s.apart i x (length entries) y (get_front entries (y ∷ []) i x at) (get_last entries y) e in
    let lt = get_within entries i x at in absurd (omega arith) in
    let now = slice_set table y.number None in
    let cleared : length now ≡ length table = length-set table y.number None in
    record {
      on = λ i x at. get_set_other table y.number x.number None (away i x at)
          ∙ s.on i x (get_front entries (y ∷ []) i x at);
      back = λ n lit at.
          elim (cases_eq n y.number) as (λ _. (i : ℕ)
          × (slice_get entries i ≡ Some (record { number = n; lit = lit }))) [
            | inl e ↦
                let none : slice_get now n ≡ Some None =
                subst (λ k. slice_get now k ≡ Some None) (sym e) (get_set_same table y.number None here) in cc
            | inr ne ↦
                let w = s.back n lit (sym (get_set_other table y.number n None ne) ∙ at) in
                elim (get_push entries y w.0 (record { number = n; lit = lit }) w.1) as (λ _. (i : ℕ)
                × (slice_get entries i ≡ Some (record { number = n; lit = lit }))) [
                  | inl old ↦ (w.0, old)
                  | inr new ↦ absurd (ne (ap (λ (t : SignatureEntry). t.number) (sym new.1)))
                ]
          ];
      apart = λ i x j z at at' e. s.apart i x j z (get_front entries (y ∷ []) i x at)
          (get_front entries (y ∷ []) j z at') e;
      counted = omega (arith, s.counted, length_push entries y, cleared, more_left table y.number y.lit last);
      reserved = omega (arith, s.reserved, cleared);
      few = omega (arith, s.few, cleared);
    }

pub signs_none : (table : List (Option ℕ)) (room : ℕ) → ((n : ℕ) (o : Option ℕ) → slice_get table n ≡ Some o → o ≡ None)
    → free_places table ≡ length table → length table ≤ room → length table < 2 ^ 32
    → AreSignatures table [] room
signs_none table room none free reserved few = record {
  on = λ i e at. cc;
  back = λ n lit at. let is = none n (Some lit) at in cc;
  apart = λ i e j f at at' same. cc;
  counted = omega (arith, free);
  reserved = reserved;
  few = few;
}
