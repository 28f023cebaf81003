-- A text that is cut into lines.
use Rattle.std.specs.Prelude.{◌≡◌, ℕ, zero, suc, ◌+◌, ◌-◌, ◌<◌, ◌≤◌, List, [], ◌∷◌, ◌++◌, length, take, drop, get_or}
use Rattle.std.specs.Prelude.{cond}
use Rattle.std.proofs.Common.{refl, sym, ◌∙◌, ap, subst, inl, inr, arith}
use Rattle.std.proofs.lemmas.Bool.{ne_eqb}
use Rattle.std.proofs.Math.Seq.{take-add}
use Rattle.std.proofs.lemmas.List.{append_assoc, append-nil, length-append, length-drop, drop-drop, get_or-drop}
use Rattle.std.proofs.lemmas.List.{take_all, drop_all}
use Rattle.std.proofs.lemmas.List.Folds.{concat-append}
use Rattle.std.proofs.lemmas.List.Elements.{Contains-append_cases}
use Rattle.gh_ast.proofs.Lists.{no_member, only_member}
use Rattle.gh_session.specs.Lines.{begun, lines, IsMarked, ArePlain}
use Rattle.gh_session.specs.Parts.{IsFirstPart}
use Rattle.gh_session.specs.declared.lines.Part.{Part}

at_feed : (c : ℕ) (cs : List ℕ) → c ≡ 10 → lines (c ∷ cs) ≡ (c ∷ []) ∷ lines cs
at_feed c cs is = subst (λ d. lines (d ∷ cs) ≡ (d ∷ []) ∷ lines cs) (sym is) refl

past_feed : (c : ℕ) (cs : List ℕ) → (c ≡ 10 → ⊥) → lines (c ∷ cs) ≡ begun c (lines cs)
past_feed c cs other = ap (λ b. cond b ((10 ∷ []) ∷ lines cs) (begun c (lines cs))) (ne_eqb c 10 other)

-- a line up to its line feed, which stands at n
up_to : (xs : List ℕ) (n : ℕ) → n < length xs → get_or xs n 0 ≡ 10 → ((k : ℕ) → k < n → get_or xs k 0 ≡ 10 → ⊥)
    → lines xs ≡ take (suc n) xs ∷ lines (drop (suc n) xs)
up_to [] n within is before = absurd (omega (arith, within))
up_to (c ∷ cs) zero within is before = at_feed c cs is
up_to (c ∷ cs) (suc n) within is before =
    past_feed c cs (before 0 (omega arith))
    ∙ ap (begun c) (up_to cs n (omega (arith, within)) is (λ k low. before (suc k) (omega (arith, low))))

pub line_at : (xs : List ℕ) (n : ℕ) → n < length xs → get_or xs n 0 ≡ 10 → ((k : ℕ) → k < n → get_or xs k 0 ≡ 10 → ⊥)
    → lines xs ≡ take (n + 1) xs ∷ lines (drop (n + 1) xs)
line_at xs n within is before =
    let same : suc n ≡ n + 1 = omega arith in
    subst (λ m. lines xs ≡ take m xs ∷ lines (drop m xs)) same (up_to xs n within is before)

-- a text without a line feed is one line
pub one_line : (xs : List ℕ) → 1 ≤ length xs → ((k : ℕ) → k < length xs → get_or xs k 0 ≡ 10 → ⊥) → lines xs ≡ xs ∷ []
one_line [] some none = absurd (omega (arith, some))
one_line (c ∷ []) some none = past_feed c [] (none 0 (omega arith))
one_line (c ∷ d ∷ ds) some none =
    past_feed c (d ∷ ds) (none 0 (omega arith))
    ∙ ap (begun c) (one_line (d ∷ ds) (omega arith) (λ k low. none (suc k) (omega (arith, low))))

pub whole_line : (xs : List ℕ) → 1 ≤ length xs → ((k : ℕ) → k < length xs → get_or xs k 0 ≡ 10 → ⊥)
    → lines xs ≡ take (length xs) xs ∷ lines (drop (length xs) xs)
whole_line xs some none =
    one_line xs some none ∙ (λ i. sym (take_all (length xs) xs (omega arith)) i
    ∷ lines (sym (drop_all (length xs) xs (omega arith)) i))

-- the lines up to a place, none of which begins with `%`
pub record IsCutAt (text : List ℕ) (end number : ℕ) : Type 0 where
  pub taken : List (List ℕ)
  pub whole : lines text ≡ taken ++ lines (drop end text)
  pub plain : ArePlain taken (take end text)
  pub count : number ≡ length taken
  pub few : number ≤ end
  pub within : end ≤ length text

first_byte : (xs : List ℕ) (n : ℕ) → 1 ≤ n → get_or (take n xs) 0 0 ≡ get_or xs 0 0
first_byte [] zero some = refl
first_byte [] (suc n) some = refl
first_byte (c ∷ cs) zero some = absurd (omega (arith, some))
first_byte (c ∷ cs) (suc n) some = refl

byte_at : (xs : List ℕ) (n : ℕ) → get_or (drop n xs) 0 0 ≡ get_or xs n 0
byte_at xs n =
    let same : n + 0 ≡ n = omega arith in
    get_or-drop n xs 0 0 ∙ ap (λ k. get_or xs k 0) same

pub nothing_cut : (text : List ℕ) → IsCutAt text 0 0
nothing_cut text = record {
  taken = [];
  whole = refl;
  plain =
      record { plain = λ l there. absurd (no_member l there); whole = refl };
  count =
      refl;
  few = omega arith;
  within = omega arith;
}

-- one line more
pub cut_more : (text : List ℕ) (end number n : ℕ) → IsCutAt text end number → end < length text
    → (get_or text end 0 ≡ 37 → ⊥) → 1 ≤ n → n ≤ length (drop end text) →
    lines (drop end text) ≡ take n (drop end text) ∷ lines (drop n (drop end text))
    → IsCutAt text (end + n) (number + 1)
cut_more text end number n before inside other some within first = record {
  taken = before.taken ++ line ∷ [];
  whole =
      before.whole ∙ ap (λ ls. before.taken ++ ls) (first ∙ ap (λ xs. line ∷ lines xs) (drop-drop n end text))
      ∙ sym (append_assoc before.taken (line ∷ []) (lines (drop (end + n) text)));
  plain = record {
    plain = λ l there marked. elim (Contains-append_cases before.taken (line ∷ []) l there) [
      | inl earlier ↦ before.plain.plain l earlier marked
      | inr last ↦
          let same : line ≡ 37 ∷ marked.0 = sym (only_member line l last) ∙ marked.1 in
          other (sym (byte_at text end) ∙ sym (first_byte (drop end text) n some) ∙ ap (λ xs. get_or xs 0 0) same)
    ];
    whole =
        concat-append before.taken (line ∷ []) ∙ ap (λ xs. xs ++ (line ++ [])) before.plain.whole
        ∙ ap (λ xs. take end text ++ xs) (append-nil line) ∙ sym (take-add end n text);
  };
  count =
      let longer : length (before.taken ++ line ∷ []) ≡ length before.taken + 1 =
      length-append before.taken (line ∷ []) in
      omega (arith, before.count, longer);
  few = omega (arith, before.few, some);
  within =
      let left : length (drop end text) ≡ length text - end = length-drop end text in
      omega (arith, within, left, inside);
}
  where
    line : List ℕ
    line = take n (drop end text)

begun_marked : (c : ℕ) (ms : List (List ℕ)) (l : List ℕ) (ls : List (List ℕ)) → c ≡ 37 → begun c ms ≡ l ∷ ls
    → IsMarked l
begun_marked c [] l ls is e =
    let same : c ∷ [] ≡ l = cc in
    ([], sym same ∙ ap (λ d. d ∷ []) is)
begun_marked c (m ∷ ms) l ls is e =
    let same : c ∷ m ≡ l = cc in
    (m, sym same ∙ ap (λ d. d ∷ m) is)

pub marked : (xs l : List ℕ) (ls : List (List ℕ)) → get_or xs 0 0 ≡ 37 → lines xs ≡ l ∷ ls → IsMarked l
marked [] l ls is e = absurd cc
marked (c ∷ cs) l ls is e =
    let other : c ≡ 10 → ⊥ = λ ten. absurd (omega (arith, ten, is)) in
    begun_marked c (lines cs) l ls is (sym (past_feed c cs other) ∙ e)

some_left : (xs l : List ℕ) (ls : List (List ℕ)) → lines xs ≡ l ∷ ls → 1 ≤ length xs
some_left [] l ls e = absurd cc
some_left (c ∷ cs) l ls e = omega arith

pub cut_done : (text : List ℕ) (end number : ℕ) (part : Part) → IsCutAt text end number
    → (end < length text → get_or text end 0 ≡ 37) → part.text.now ≡ take end text → part.rest.now ≡ drop end text
    → part.lines ≡ number → IsFirstPart text part
cut_done text end number part before next front rest count = record {
  taken = before.taken;
  whole = before.whole ∙ ap (λ xs. before.taken ++ lines xs) (sym rest);
  plain = record { plain = before.plain.plain; whole = before.plain.whole ∙ sym front };
  count = count ∙ before.count;
  next = λ l ls e. at_rest l ls (ap lines (sym rest) ∙ e);
  short =
      let left : length part.rest.now ≡ length text - end = ap length rest ∙ length-drop end text in
      omega (arith, before.few, before.within, left, count);
}
  where
    at_rest : (l : List ℕ) (ls : List (List ℕ)) → lines (drop end text) ≡ l ∷ ls → IsMarked l
    at_rest l ls e =
        let some : 1 ≤ length (drop end text) = some_left (drop end text) l ls e in
        let left : length (drop end text) ≡ length text - end = length-drop end text in
        marked (drop end text) l ls (byte_at text end ∙ next (omega (arith, some, left))) e
