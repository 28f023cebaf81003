-- What a separator is.
use Rattle.std.specs.Prelude.{◌≡◌, ℕ, ◌+◌, ◌<◌, ◌≤◌, List, [], ◌∷◌, ◌++◌, length, drop, get_or, cond, Bool, IsTrue}
use Rattle.std.proofs.Common.{refl, sym, ◌∙◌, ap, subst, inl, inr, arith}
use Rattle.std.proofs.lemmas.List.{length-append}
use Rattle.gh_ast.specs.Programs.{Name}
use Rattle.gh_base.specs.Names.{IsNameText, is_name_byte}
use Rattle.gh_session.specs.Lines.{separator, IsSeparator}
use Rattle.gh_session.specs.Parts.{IsBare}

-- the front before a last byte is one
front_one : (xs ys : List ℕ) (a b : ℕ) → xs ++ a ∷ [] ≡ ys ++ b ∷ [] → (xs ≡ ys) × (a ≡ b)
front_one [] [] a b e = (refl, cc)
front_one [] (y ∷ []) a b e = absurd cc
front_one [] (y ∷ z ∷ ys) a b e = absurd cc
front_one (x ∷ []) [] a b e = absurd cc
front_one (x ∷ w ∷ xs) [] a b e = absurd cc
front_one (x ∷ xs) (y ∷ ys) a b e =
    let same : x ≡ y = cc in
    let more : xs ++ a ∷ [] ≡ ys ++ b ∷ [] = cc in
    let rest = front_one xs ys a b more in
    ((λ i. same i ∷ rest.0 i), rest.1)

pub fed : (line front : List ℕ) (last : ℕ) → line ≡ front ++ last ∷ [] → last ≡ 10 → IsBare line front
fed line front last is ten = record {
  is = inr (is ∙ ap (λ c. front ++ c ∷ []) ten);
  whole = λ other e. (front_one other front 10 last (sym e ∙ is)).0;
}

pub not_fed : (line front : List ℕ) (last : ℕ) → line ≡ front ++ last ∷ [] → (last ≡ 10 → ⊥) → IsBare line line
not_fed line front last is other = record {
  is = inl refl;
  whole = λ before e. absurd (other (sym (front_one before front 10 last (sym e ∙ is)).1));
}

pub no_bytes : (line : List ℕ) → length line ≡ 0 → IsBare line line
no_bytes line none = record {
  is = inl refl;
  whole = λ before e. absurd (no_end before (ap length e ∙ length-append before (10 ∷ [])));
}
  where
    no_end : (xs : List ℕ) → length line ≡ length xs + 1 → ⊥
    no_end xs e = absurd (omega (arith, e, none))

pub begins : (xs : List ℕ) (a : Bool) → 3 ≤ length xs → get_or xs 0 0 ≡ 37 → get_or xs 1 0 ≡ cond a 37 43
    → get_or xs 2 0 ≡ 32 → xs ≡ separator a (drop 3 xs)
begins [] a long first sign blank = absurd (omega (arith, long))
begins (x ∷ []) a long first sign blank = absurd (omega (arith, long))
begins (x ∷ y ∷ []) a long first sign blank = absurd (omega (arith, long))
begins (x ∷ y ∷ z ∷ xs) a long first sign blank = λ i. first i ∷ sign i ∷ blank i ∷ xs

at_seam : (front : List ℕ) → get_or (front ++ 10 ∷ []) (length front) 10 ≡ 10
at_seam [] = refl
at_seam (x ∷ xs) = at_seam xs

-- a name has no line feed
no_feed : (n front : List ℕ) → IsNameText n → n ≡ front ++ 10 ∷ [] → ⊥
no_feed n front named e =
    let longer : length (front ++ 10 ∷ []) ≡ length front + 1 = length-append front (10 ∷ []) in
    let long : length n ≡ length front + 1 = ap length e ∙ longer in
    let within : length front < length n = omega (arith, long) in
    let letter : IsTrue (is_name_byte (get_or n (length front) 10)) = named.letters (length front) 10 within in
    let feed : get_or n (length front) 10 ≡ 10 = ap (λ xs. get_or xs (length front) 10) e ∙ at_seam front in
    let byte : IsTrue (is_name_byte 10) = subst (λ b. IsTrue (is_name_byte b)) feed letter in
    absurd cc

-- a separator has no line feed of its own
no_more : (asks : Bool) (n : Name) (front : List ℕ) → IsNameText n → separator asks n ≡ front ++ 10 ∷ [] → ⊥
no_more asks n [] named e = absurd cc
no_more asks n (x ∷ []) named e = absurd cc
no_more asks n (x ∷ y ∷ []) named e = absurd cc
no_more asks n (x ∷ y ∷ z ∷ front) named e =
    let rest : n ≡ front ++ 10 ∷ [] = cc in
    no_feed n front named rest

pub bare_is : (line bare : List ℕ) (asks : Bool) (n : Name) → IsBare line bare → IsSeparator line asks n
    → bare ≡ separator asks n
bare_is line bare asks n b s = elim s.is [
  | inl without ↦ elim b.is [
    | inl same ↦ sym same ∙ without
    | inr more ↦ absurd (no_more asks n bare s.name (sym without ∙ more))
  ]
  | inr with_feed ↦ sym (b.whole (separator asks n) with_feed)
]

pub is_separator : (line bare : List ℕ) (asks : Bool) (n : Name) → IsBare line bare
    → bare ≡ separator asks (drop 3 bare) → n ≡ drop 3 bare → IsNameText (drop 3 bare) → IsSeparator line asks n
is_separator line bare asks n b begun same named =
    let whole : bare ≡ separator asks n = begun ∙ ap (separator asks) (sym same) in
    record {
      name = subst IsNameText (sym same) named;
      is = elim b.is [ inl plain ↦ inl (plain ∙ whole) | inr more ↦ inr (more ∙ ap (λ xs. xs ++ 10 ∷ []) whole) ];
    }

pub no_name : (line bare : List ℕ) (asks : Bool) (n : Name) → IsBare line bare → (IsNameText (drop 3 bare) → ⊥)
    → IsSeparator line asks n → ⊥
no_name line bare asks n b none s = none (subst IsNameText (sym (ap (drop 3) (bare_is line bare asks n b s))) s.name)
