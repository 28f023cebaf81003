-- Lines counted by their line feeds, sections read one after the other, and the first line outside the grammar.
use Rattle.std.proofs.Common.{◌≡◌, ◌≢◌, ◌⊎◌, inl, inr, ℕ, zero, suc, ◌+◌, ◌^◌, ◌<◌, ◌≤◌, List, [], ◌∷◌, ◌++◌, length}
use Rattle.std.proofs.Common.{Bool, true, false, nat_eq, codes, cond, All, refl, sym, ◌∙◌, ap, subst, arith}
use Rattle.std.proofs.Common.{append_assoc, length-append}
use Rattle.std.specs.List.{flat_map}
use Rattle.std.specs.Fmt.{decimal}
use Rattle.std.specs.Str.Parse.{AllDigits}
use Rattle.std.proofs.lemmas.Bool.{eqb-true}
use Rattle.std.proofs.lemmas.List.{append-nil, map-append}
use Rattle.std.proofs.lemmas.List.Sums.{sum_by-append, sum_by-cons, count_by-le-length}
use Rattle.std.proofs.lemmas.List.Elements.{All-head, All-tail, All-push, All-weaker}
use Rattle.std.proofs.lemmas.Str.Parse.{tells_digits}
use Rattle.std.proofs.lemmas.Fmt.{decimal_is_IsNumeral}
use Rattle.std.proofs.lemmas.Grind.{flat_map-append}
use Rattle.gh_base.specs.declared.atom.Term.{Term}
use Rattle.gh_base.specs.declared.atom.Atom.{Atom}
use Rattle.gh_base.specs.declared.atom.Atom.TheVariants.{Eq, Btwn, Hop, Alloc, Def}
use Rattle.gh_base.specs.declared.atom.Lit.{Lit}
use Rattle.gh_inst.specs.Instances.{tuple_of}
use Rattle.gh_log.specs.Lines.{LogLine}
use Rattle.gh_log.specs.Lines as line
use Rattle.gh_log.specs.declared.lines.Section.{Section}
use Rattle.gh_log.specs.declared.error.LogError.{LogError}
use Rattle.gh_log.specs.declared.error.LogError.TheVariants.{Line, OutOfMemory as NoMemory}
use Rattle.gh_log.specs.declared.error.Refusal.{Refusal}
use Rattle.gh_log.specs.declared.error.Refusal.TheVariants.{Outside, OutOfMemory}
use Rattle.gh_log.specs.Texts.{atom_text, sign_text, lits_text, term_text, numbers_text, line_text, header_text}
use Rattle.gh_log.specs.Texts.{section_text, sections_text, log_text}
use Rattle.gh_log.specs.Spelled.{HasSpelledParts, IsSpelledLine, IsVersion, AreNumbers, IsSpelledAtom, AreSpelled}
use Rattle.gh_log.specs.Spelled.{IsSpelled, ArePlaced, IsFirstOutside, IsLogRefusal, lines_of, lines_before}
use Rattle.gh_log.specs.Reading.{SpellsNothing, IsPartRefusal, first_line, SpellsVersion, SpellsLine, SpellsHeader}
use Rattle.gh_log.specs.Reading.{SpellsSection, EndsSection, IsSectionRefusal, error_at}
use Rattle.gh_log.proofs.NumberLemmas.{AreSmall, marked}
use Rattle.gh_log.proofs.AtomLemmas.{kind_of, numbers_of, numbers_small, atom_parts}
use Rattle.gh_log.proofs.LineLemmas.{IsSmallTerm, letter_is, letter_front, head_is, small_version}
use Rattle.gh_log.proofs.LogLemmas.{outside_after, not_c}

abbrev pub one_if : Bool → ℕ
one_if b = cond b 1 0

feeds_append : (a b : List ℕ) → lines_before (a ++ b) ≡ lines_before a + lines_before b
feeds_append a b = sum_by-append (λ x. one_if (nat_eq x 10)) a b

pub feeds_cons : (b : ℕ) (a : List ℕ) → lines_before (b ∷ a) ≡ one_if (nat_eq b 10) + lines_before a
feeds_cons b a = sum_by-cons (λ x. one_if (nat_eq x 10)) b a

abbrev pub IsQuiet : List ℕ → Type 0
IsQuiet a = lines_before a ≡ 0

pub two_values : (b : Bool) → (b ≡ true) ⊎ (b ≡ false)
two_values true = inl refl
two_values false = inr refl

not_feed : (b : ℕ) → b ≢ 10 → nat_eq b 10 ≡ false
not_feed b h =
    elim (two_values (nat_eq b 10)) as (λ _. nat_eq b 10 ≡ false) [ inl t ↦ absurd (h (eqb-true b 10 t)) | inr f ↦ f ]

quiet_cons : (b : ℕ) (a : List ℕ) → b ≢ 10 → IsQuiet a → IsQuiet (b ∷ a)
quiet_cons b a h q = feeds_cons b a ∙ ap (λ x. one_if x + lines_before a) (not_feed b h) ∙ ap (λ n. 0 + n) q

pub quiet_append : (a b : List ℕ) → IsQuiet a → IsQuiet b → IsQuiet (a ++ b)
quiet_append a b p q = omega (arith, feeds_append a b, p, q)

quiet_digits : (ds : List ℕ) → AllDigits 10 ds → IsQuiet ds
quiet_digits [] h = refl
quiet_digits (d ∷ ds) h =
    let parts = tells_digits.parts d ds h in
    quiet_cons d ds (λ e. omega (arith, e, parts.0.0)) (quiet_digits ds parts.1)

pub quiet_decimal : (n : ℕ) → n < 2 ^ 64 → IsQuiet (decimal n)
quiet_decimal n h = quiet_digits (decimal n) (decimal_is_IsNumeral n h).0.1

quiet_marked : (mark : ℕ) (ns : List ℕ) → mark ≢ 10 → AreSmall ns → IsQuiet (marked mark ns)
quiet_marked mark [] m a = refl
quiet_marked mark (n ∷ ns) m a =
    quiet_cons mark (decimal n ++ marked mark ns) m
    (quiet_append (decimal n) (marked mark ns) (quiet_decimal n (All-head (λ k. k < 2 ^ 64) n ns a))
    (quiet_marked mark ns m (All-tail (λ k. k < 2 ^ 64) n ns a)))

not_kind : (x : Atom) → kind_of x ≢ 10
not_kind (Eq a b) e = absurd (omega (arith, e))
not_kind (Btwn v x y z) e = absurd (omega (arith, e))
not_kind (Hop v x y) e = absurd (omega (arith, e))
not_kind (Alloc v x) e = absurd (omega (arith, e))
not_kind (Def number) e = absurd (omega (arith, e))

quiet_atom : (x : Atom) → IsSpelledAtom x → IsQuiet (atom_text x)
quiet_atom x h =
    subst IsQuiet (sym (atom_parts x))
    (quiet_cons (kind_of x) (marked 46 (numbers_of x)) (not_kind x)
    (quiet_marked 46 (numbers_of x) (λ e. absurd (omega (arith, e))) (numbers_small x h)))

quiet_lit : (p : Bool) (x : Atom) → IsSpelledAtom x → IsQuiet (codes " " ++ cond p [] (codes "-") ++ atom_text x)
quiet_lit true x h = quiet_cons 32 (atom_text x) (λ e. absurd (omega (arith, e))) (quiet_atom x h)
quiet_lit false x h =
    quiet_cons 32 (45 ∷ atom_text x) (λ e. absurd (omega (arith, e)))
    (quiet_cons 45 (atom_text x) (λ e. absurd (omega (arith, e))) (quiet_atom x h))

quiet_lits : (c : List Lit) → AreSpelled c → IsQuiet (lits_text c)
quiet_lits [] h = refl
quiet_lits (l ∷ ls) h =
    quiet_append (codes " " ++ sign_text l ++ atom_text l.atom) (lits_text ls)
    (quiet_lit l.positive l.atom (All-head (λ k. IsSpelledAtom k.atom) l ls h))
    (quiet_lits ls (All-tail (λ k. IsSpelledAtom k.atom) l ls h))

quiet_terms : (ts : List Term) → All IsSmallTerm ts → IsQuiet (flat_map term_text ts)
quiet_terms [] h = refl
quiet_terms (t ∷ ts) h =
    quiet_append (32 ∷ decimal t.0) (flat_map term_text ts)
    (quiet_cons 32 (decimal t.0) (λ e. absurd (omega (arith, e)))
    (quiet_decimal t.0 (let small = All-head IsSmallTerm t ts h in omega (arith, small))))
    (quiet_terms ts (All-tail IsSmallTerm t ts h))

one_feed : (a : List ℕ) → IsQuiet a → lines_before (a ++ 10 ∷ []) ≡ 1
one_feed a q = feeds_append a (10 ∷ []) ∙ ap (λ n. n + 1) q

quiet_numbers : (ns : List ℕ) → AreNumbers ns → IsQuiet (numbers_text ns)
quiet_numbers ns h =
    quiet_marked 32 ns (λ e. absurd (omega (arith, e)))
    (All-weaker (λ n. n ≤ 4294967295) (λ n. n < 2 ^ 64) (λ n l. omega (arith, l)) ns h)

-- a line: no line feed but its last byte
abbrev pub IsOneLine : List ℕ → Type 0
IsOneLine text = (front : List ℕ) × (text ≡ front ++ 10 ∷ []) × IsQuiet front

pub is_one_line : (l : LogLine) → HasSpelledParts l → IsOneLine (line_text l)
is_one_line (line.Axiom name) h = (
  codes "a " ++ decimal name.row ++ codes " " ++ decimal name.version ++ flat_map term_text (tuple_of name),
  refl,
  quiet_append (codes "a " ++ decimal name.row ++ codes " " ++ decimal name.version)
      (flat_map term_text (tuple_of name))
      (quiet_append (codes "a " ++ decimal name.row ++ codes " ") (decimal name.version)
      (quiet_append (codes "a " ++ decimal name.row) (codes " ")
      (quiet_append (codes "a ") (decimal name.row) refl (quiet_decimal name.row (omega (arith, h.row)))) refl)
      (quiet_decimal name.version (omega (arith, h.version))))
      (quiet_terms (tuple_of name) h.terms),
)
is_one_line (line.Clause k) h =
    (codes "g " ++ decimal k, refl, quiet_append (codes "g ") (decimal k) refl (quiet_decimal k (omega (arith, h))))
is_one_line (line.Lemma c) h =
    (codes "e" ++ lits_text c, refl, quiet_append (codes "e") (lits_text c) refl (quiet_lits c h))
is_one_line (line.Learnt c) h =
    (codes "l" ++ lits_text c, refl, quiet_append (codes "l") (lits_text c) refl (quiet_lits c h))
is_one_line (line.Hinted c hints) h = (
  codes "l" ++ lits_text c ++ codes " ;" ++ numbers_text hints,
  refl,
  quiet_append (codes "l" ++ lits_text c ++ codes " ;") (numbers_text hints)
      (quiet_append (codes "l" ++ lits_text c) (codes " ;")
      (quiet_append (codes "l") (lits_text c) refl (quiet_lits c h.0)) refl) (quiet_numbers hints h.1),
)
is_one_line (line.Delete positions) h = (
  codes "d" ++ numbers_text positions,
  refl,
  quiet_append (codes "d") (numbers_text positions) refl (quiet_numbers positions h),
)

pub is_one_header : (k : ℕ) → k ≤ 4294967295 → IsOneLine (header_text k)
is_one_header k h = (
  codes "condition " ++ decimal k,
  refl,
  quiet_append (codes "condition ") (decimal k) refl (quiet_decimal k (omega (arith, h))),
)

one_feed_in : (text : List ℕ) → IsOneLine text → lines_before text ≡ 1
one_feed_in text (front, whole, quiet) = ap lines_before whole ∙ one_feed front quiet

-- each line has one line feed
feeds_line : (l : LogLine) → HasSpelledParts l → lines_before (line_text l) ≡ 1
feeds_line l h = one_feed_in (line_text l) (is_one_line l h)

feeds_lines : (version : ℕ) (ls : List LogLine) → All (IsSpelledLine version) ls
    → lines_before (flat_map line_text ls) ≡ length ls
feeds_lines version [] h = refl
feeds_lines version (l ∷ ls) h =
    let spelled = All-head (IsSpelledLine version) l ls h in
    let here = feeds_line l spelled.1 in
    let there = feeds_lines version ls (All-tail (IsSpelledLine version) l ls h) in
    let both = feeds_append (line_text l) (flat_map line_text ls) in
    omega (arith, here, there, both)

feeds_header : (k : ℕ) → k ≤ 4294967295 → lines_before (header_text k) ≡ 1
feeds_header k h = one_feed_in (header_text k) (is_one_header k h)

pub feeds_section : (version k : ℕ) (ls : List LogLine) → k ≤ 4294967295 → All (IsSpelledLine version) ls
    → lines_before (section_text k ls) ≡ 1 + length ls
feeds_section version k ls h a =
    let here = feeds_header k h in
    let there = feeds_lines version ls a in
    let both = feeds_append (header_text k) (flat_map line_text ls) in
    omega (arith, here, there, both)

some_in_line : (l : LogLine) → 1 ≤ length (line_text l)
some_in_line (line.Axiom name) = omega arith
some_in_line (line.Clause k) = omega arith
some_in_line (line.Lemma c) = omega arith
some_in_line (line.Learnt c) = omega arith
some_in_line (line.Hinted c hints) = omega arith
some_in_line (line.Delete positions) = omega arith

long_lines : (ls : List LogLine) → length ls ≤ length (flat_map line_text ls)
long_lines [] = omega arith
long_lines (l ∷ ls) =
    let here = some_in_line l in
    let there = long_lines ls in
    let both = length-append (line_text l) (flat_map line_text ls) in
    omega (arith, here, there, both)

pub long_section : (k : ℕ) (ls : List LogLine) → 1 + length ls ≤ length (section_text k ls)
long_section k ls =
    let there = long_lines ls in
    let both = length-append (header_text k) (flat_map line_text ls) in
    let header : 1 ≤ length (header_text k) = omega arith in
    omega (arith, there, both, header)

long_sections : (k : ℕ) (ss : List (List LogLine)) → length ss ≤ length (sections_text k ss)
long_sections k [] = omega arith
long_sections k (s ∷ ss) =
    let here = long_section k s in
    let there = long_sections (suc k) ss in
    let both = length-append (section_text k s) (sections_text (suc k) ss) in
    omega (arith, here, there, both)

pub shorter : (version : ℕ) (text rest : List ℕ) (l : LogLine) → SpellsLine version text l rest
    → length rest < length text
shorter version text rest l s =
    let some = some_in_line l in
    let both = length-append (line_text l) rest in
    let e = ap length s.parts.front in
    omega (arith, some, both, e)

-- the line of the header that comes after some sections
abbrev pub line_after : ℕ → List Section → ℕ
line_after k [] = k
line_after k (s ∷ ss) = line_after (k + 1 + length s.lines) ss

feeds_sections : (version j k : ℕ) (ss : List Section) → All (λ s. All (IsSpelledLine version) s) (lines_of ss)
    → j + length ss ≤ 4294967296 → lines_before (sections_text j (lines_of ss)) + k ≡ line_after k ss
feeds_sections version j k [] a h = omega arith
feeds_sections version j k (s ∷ ss) a h =
    let ls = s.lines in
    let here =
    feeds_section version j ls (omega arith) (All-head (λ s. All (IsSpelledLine version) s) ls (lines_of ss) a) in
    let there =
    feeds_sections version (suc j) (k + 1 + length ls) ss
    (All-tail (λ s. All (IsSpelledLine version) s) ls (lines_of ss) a) (omega arith) in
    let both = feeds_append (section_text j ls) (sections_text (suc j) (lines_of ss)) in
    omega (arith, here, there, both)

line_after_push : (k : ℕ) (ss : List Section) (s : Section)
    → line_after k (ss ++ s ∷ []) ≡ line_after k ss + 1 + length s.lines
line_after_push k [] s = refl
line_after_push k (t ∷ ss) s = line_after_push (k + 1 + length t.lines) ss s

placed_push : (k : ℕ) (ss : List Section) (s : Section) → ArePlaced k ss → s.first ≡ line_after k ss + 1
    → ArePlaced k (ss ++ s ∷ [])
placed_push k [] s a e = (e, tt)
placed_push k (t ∷ ss) s a e = (a.0, placed_push (k + 1 + length t.lines) ss s a.1 e)

sections_push : (k : ℕ) (ss : List (List LogLine)) (s : List LogLine)
    → sections_text k (ss ++ s ∷ []) ≡ sections_text k ss ++ section_text (k + length ss) s
sections_push k [] s = let n : k ≡ k + 0 = omega arith in append-nil (section_text k s) ∙ ap (λ j. section_text j s) n
sections_push k (t ∷ ss) s =
    let n : suc k + length ss ≡ k + suc (length ss) = omega arith in
    ap (λ x. section_text k t ++ x)
    (sections_push (suc k) ss s ∙ ap (λ j. sections_text (suc k) ss ++ section_text j s) n)
    ∙ sym (append_assoc (section_text k t) (sections_text (suc k) ss) (section_text (k + suc (length ss)) s))

pub log_push : (version : ℕ) (ss : List (List LogLine)) (s : List LogLine)
    → log_text version (ss ++ s ∷ []) ≡ log_text version ss ++ section_text (length ss + 1) s
log_push version ss s =
    let n : 1 + length ss ≡ length ss + 1 = omega arith in
    ap (λ x. first_line version ++ x) (sections_push 1 ss s ∙ ap (λ j. sections_text 1 ss ++ section_text j s) n)
    ∙ sym (append_assoc (first_line version) (sections_text 1 ss) (section_text (length ss + 1) s))

length_lines_of : (ss : List Section) → length (lines_of ss) ≡ length ss
length_lines_of [] = refl
length_lines_of (s ∷ ss) = ap suc (length_lines_of ss)

-- some sections are read, and the next header would be this line of the file
pub record IsUpTo (text : List ℕ) (version : ℕ) (sections : List Section) (at : ℕ) (rest : List ℕ) : Type 0 where
  pub front : text ≡ log_text version (lines_of sections) ++ rest
  pub version_is : IsVersion version
  pub spelled : All (λ s. All (IsSpelledLine version) s) (lines_of sections)
  pub at_is : at ≡ line_after 2 sections
  pub placed : ArePlaced 2 sections
  pub ends : (lines_of sections ≢ []) → EndsSection rest

pub up_to_start : (text : List ℕ) (version : ℕ) (rest : List ℕ) → SpellsVersion text version rest
    → IsUpTo text version [] 2 rest
up_to_start text version rest e =
    record {
      front = e.front ∙ ap (λ x. x ++ rest) (sym (append-nil (first_line version)));
      version_is = e.is;
      spelled = λ k d l. absurd (omega arith);
      at_is = refl;
      placed = tt;
      ends = λ h. absurd (h refl);
    }

feeds_first : (version : ℕ) → IsVersion version → lines_before (first_line version) ≡ 1
feeds_first version h =
    one_feed (codes "grass log " ++ decimal version)
    (quiet_append (codes "grass log ") (decimal version) refl
    (quiet_decimal version (omega (arith, small_version version h))))

pub up_to_fits : (text : List ℕ) (version : ℕ) (ss : List Section) (at : ℕ) (rest : List ℕ)
    → IsUpTo text version ss at rest → length text < 4294967295
    → (at + length rest < 4294967296) × (length ss + 1 < 4294967296)
    × (at ≡ lines_before (log_text version (lines_of ss)) + 1)
up_to_fits text version ss at rest u small =
    let whole = ap length u.front in
    let parts = length-append (log_text version (lines_of ss)) rest in
    let head = length-append (first_line version) (sections_text 1 (lines_of ss)) in
    let long = long_sections 1 (lines_of ss) in
    let count = length_lines_of ss in
    let few : length ss + 1 < 4294967296 = omega (arith, whole, parts, head, long, count, small) in
    let feeds = feeds_sections version 1 2 ss u.spelled (omega (arith, few)) in
    let both = feeds_append (first_line version) (sections_text 1 (lines_of ss)) in
    let one = feeds_first version u.version_is in
    let at_is = u.at_is in
    let place : at ≡ lines_before (log_text version (lines_of ss)) + 1 = omega (arith, feeds, both, one, at_is) in
    let bound = count_by-le-length (λ b. nat_eq b 10) (log_text version (lines_of ss)) in
    (omega (arith, place, bound, whole, parts, small), few, place)

pub section_fits : (version number at : ℕ) (text : List ℕ) (s : Section) (rest : List ℕ)
    → SpellsSection version number at text s rest → at + length text < 4294967296
    → s.first + length s.lines < 4294967296
section_fits version number at text s rest h small =
    let whole = ap length h.front in
    let parts = length-append (section_text number s.lines) rest in
    let long = long_section number s.lines in
    let first = h.first in
    omega (arith, whole, parts, long, first, small)

all_lines_push : (ss : List Section) (s : Section) → lines_of (ss ++ s ∷ []) ≡ lines_of ss ++ s.lines ∷ []
all_lines_push ss s = map-append (λ t. t.lines) ss (s ∷ [])

pub up_to_more : (text : List ℕ) (version : ℕ) (ss new : List Section) (at after : ℕ) (rest left : List ℕ) (s : Section)
    → IsUpTo text version ss at rest
    → SpellsSection version (length ss + 1) at rest s left → new ≡ ss ++ s ∷ [] → after ≡ s.first + length s.lines
    → IsUpTo text version new after left
up_to_more text version ss new at after rest left s u h e f =
    let n : length ss ≡ length (lines_of ss) = sym (length_lines_of ss) in
    let pushed : lines_of new ≡ lines_of ss ++ s.lines ∷ [] = ap lines_of e ∙ all_lines_push ss s in
    let first = h.first in
    let at_is = u.at_is in
    let line = line_after_push 2 ss s in
    let there = ap (line_after 2) e in
    record {
      front =
          u.front ∙ ap (λ x. log_text version (lines_of ss) ++ x)
          (h.front ∙ ap (λ k. section_text (k + 1) s.lines ++ left) n)
          ∙ sym (append_assoc (log_text version (lines_of ss)) (section_text (length (lines_of ss) + 1) s.lines) left)
          ∙ ap (λ x. x ++ left) (sym (log_push version (lines_of ss) s.lines))
          ∙ ap (λ x. log_text version x ++ left) (sym pushed);
      version_is = u.version_is;
      spelled =
          subst (All (λ s. All (IsSpelledLine version) s)) (sym pushed)
          (All-push (λ s. All (IsSpelledLine version) s) (lines_of ss) s.lines u.spelled h.spelled);
      at_is = omega (arith, f, first, at_is, line, there);
      placed = subst (ArePlaced 2) (sym e) (placed_push 2 ss s u.placed (first ∙ ap (λ k. k + 1) at_is));
      ends = λ _. h.ends;
    }

nothing : (rest : List ℕ) → length rest ≡ 0 → rest ≡ []
nothing [] e = refl
nothing (b ∷ rest) e = absurd (omega (arith, e))

pub up_to_end : (text : List ℕ) (version : ℕ) (ss : List Section) (at : ℕ) (rest : List ℕ)
    → IsUpTo text version ss at rest → length rest ≡ 0 → text ≡ log_text version (lines_of ss)
up_to_end text version ss at rest u e =
    u.front ∙ ap (λ x. log_text version (lines_of ss) ++ x) (nothing rest e)
    ∙ append-nil (log_text version (lines_of ss))

pub up_to_spelled : (text : List ℕ) (version : ℕ) (ss : List Section) (at : ℕ) (rest : List ℕ)
    → IsUpTo text version ss at rest → length text < 4294967295 → IsSpelled version (lines_of ss)
up_to_spelled text version ss at rest u small =
    let fits = up_to_fits text version ss at rest u small in
    let count = length_lines_of ss in
    record { known = u.version_is; lines = u.spelled; few = omega (arith, fits.1, count) }

-- refusals
pub at_line : {X : Type 0} (P : X → List ℕ → Type 0) (Q : LogError → Type 0) (r : Refusal) (k : ℕ) (e : LogError)
    → IsPartRefusal P r → (SpellsNothing P → Q (Line k)) → Q NoMemory → e ≡ error_at r k → Q e
at_line P Q Outside k e h f g i = subst Q (sym i) (f h)
at_line P Q OutOfMemory k e h f g i = subst Q (sym i) g

pub no_first_line : (text : List ℕ) → SpellsNothing (SpellsVersion text) → IsFirstOutside text 1
no_first_line text h =
    record {
      front = [];
      rest = text;
      whole = refl;
      number_is = refl;
      before = inl refl;
      outside = λ l after e _ t.
          h t.version (sections_text 1 t.sections ++ after)
          (record {
            front =
                e ∙ sym (append_assoc l (10 ∷ []) after) ∙ ap (λ x. x ++ after) t.text_is
                ∙ append_assoc (first_line t.version) (sections_text 1 t.sections) after;
            is = t.spelled.known;
          });
    }

not_line_there : (version : ℕ) (rest : List ℕ) → EndsSection rest → SpellsNothing (SpellsLine version rest)
not_line_there version [] h l after s = let t = letter_front l [] after s.parts in let e = t.1 in absurd (cc)
not_line_there version (b ∷ rest) h l after s = not_c l (letter_is b rest l after s.parts ∙ h)

not_header_there : (rest : List ℕ) (k : ℕ) → (EndsSection rest → ⊥) → SpellsNothing (SpellsHeader k rest)
not_header_there [] k h u after e = h tt
not_header_there (b ∷ rest) k h u after e = h (head_is b 99 rest _ e)

pub refused_after : (text : List ℕ) (version : ℕ) (ss : List Section) (at : ℕ) (rest : List ℕ) (e : LogError)
    → IsUpTo text version ss at rest → 0 < length rest → length text < 4294967295
    → IsSectionRefusal version (length ss + 1) at rest e → IsLogRefusal text e
refused_after text version ss at rest NoMemory u some small h = tt
refused_after text version ss at rest (Line k) u some small (inl h) =
    let fits = up_to_fits text version ss at rest u small in
    let n : length ss ≡ length (lines_of ss) = sym (length_lines_of ss) in
    let spelled = up_to_spelled text version ss at rest u small in
    record {
      front = log_text version (lines_of ss);
      rest = rest;
      whole = u.front;
      number_is = h.0 ∙ fits.2;
      before = inr (
        record { version = version; sections = lines_of ss; text_is = refl; spelled = spelled },
        λ e. let z = ap length e in omega (arith, z, some),
      );
      outside = λ l after e _ t.
          outside_after version (lines_of ss) rest spelled
          (subst (λ j. SpellsNothing (SpellsHeader (j + 1) rest)) n h.1)
          (λ ne. not_line_there version rest (u.ends ne)) l after e t;
    }
refused_after text version ss at rest (Line k) u some small (inr h) =
    let fits = up_to_fits text version ss at rest u small in
    let n : length ss ≡ length (lines_of ss) = sym (length_lines_of ss) in
    let count = length_lines_of ss in
    let all = lines_of ss ++ h.lines ∷ [] in
    let whole : text ≡ log_text version all ++ h.rest =
    u.front ∙ ap (λ x. log_text version (lines_of ss) ++ x)
    (h.front ∙ ap (λ j. section_text (j + 1) h.lines ++ h.rest) n)
    ∙ sym (append_assoc (log_text version (lines_of ss)) (section_text (length (lines_of ss) + 1) h.lines) h.rest)
    ∙ ap (λ x. x ++ h.rest) (sym (log_push version (lines_of ss) h.lines)) in
    let length_all : length all ≡ length (lines_of ss) + 1 = length-append (lines_of ss) (h.lines ∷ []) in
    let spelled : IsSpelled version all = record {
      known = u.version_is;
      lines = All-push (λ s. All (IsSpelledLine version) s) (lines_of ss) h.lines u.spelled h.spelled;
      few = omega (arith, length_all, count, fits.1);
    } in
    let feeds : lines_before (log_text version all)
    ≡ lines_before (log_text version (lines_of ss))
    + lines_before (section_text (length (lines_of ss) + 1) h.lines) =
    ap lines_before (log_push version (lines_of ss) h.lines)
    ∙ feeds_append (log_text version (lines_of ss)) (section_text (length (lines_of ss) + 1) h.lines) in
    let more = feeds_section version (length (lines_of ss) + 1) h.lines (omega (arith, count, fits.1)) h.spelled in
    let number = h.number_is in
    record {
      front = log_text version all;
      rest = h.rest;
      whole = whole;
      number_is = omega (arith, number, fits.2, feeds, more);
      before = inr (
        record { version = version; sections = all; text_is = refl; spelled = spelled },
        λ e. h.more (subst EndsSection (sym e) tt),
      );
      outside =
          λ l after e _ t. outside_after version all h.rest spelled (not_header_there h.rest (length all + 1) h.more)
          (λ _. h.refused) l after e t;
    }

-- a section whose next line was read
pub record IsLineRead (version number : ℕ) (text : List ℕ) (lines : List LogLine) (rest : List ℕ) : Type 0 where
  pub front : text ≡ section_text number lines ++ rest
  pub spelled : All (IsSpelledLine version) lines

section_push : (number : ℕ) (ls : List LogLine) (l : LogLine)
    → section_text number (ls ++ l ∷ []) ≡ section_text number ls ++ line_text l
section_push number ls l =
    ap (λ t. header_text number ++ t)
    (flat_map-append line_text ls (l ∷ []) ∙ ap (λ t. flat_map line_text ls ++ t) (append-nil (line_text l)))
    ∙ sym (append_assoc (header_text number) (flat_map line_text ls) (line_text l))

pub line_more : (version number : ℕ) (text middle rest : List ℕ) (ls new : List LogLine) (l m : LogLine)
    → text ≡ section_text number ls ++ middle → All (IsSpelledLine version) ls
    → SpellsLine version middle l rest → m ≡ l → new ≡ ls ++ m ∷ [] → IsLineRead version number text new rest
line_more version number text middle rest ls new l m e a s same grown =
    let whole : new ≡ ls ++ l ∷ [] = grown ∙ ap (λ x. ls ++ x ∷ []) same in
    let there =
    ap (λ t. section_text number ls ++ t) s.parts.front
    ∙ sym (append_assoc (section_text number ls) (line_text l) rest) in
    record {
      front = e ∙ there ∙ ap (λ t. t ++ rest) (sym (ap (section_text number) whole ∙ section_push number ls l));
      spelled =
          subst (All (IsSpelledLine version)) (sym whole)
          (All-push (IsSpelledLine version) ls l a (s.of_version, s.parts.spelled));
    }

pub lines_fit : (number at : ℕ) (text rest : List ℕ) (ls : List LogLine) → text ≡ section_text number ls ++ rest
    → at + length text < 4294967296 → at + 1 + length ls < 4294967296
lines_fit number at text rest ls e small =
    let whole = ap length e in
    let parts = length-append (section_text number ls) rest in
    let long = long_section number ls in
    omega (arith, whole, parts, long, small)

pub some_left : (n : ℕ) (b : Bool) → b ≡ nat_eq n 0 → b ≡ false → 0 < n
some_left zero b e f = absurd (cc)
some_left (suc n) b e f = omega arith
