-- A text is a log, or has a first line outside the grammar, and never both: the lines of a log up to any of them are a
-- log.
use Rattle.std.proofs.Common.{◌≡◌, ◌≢◌, inl, inr, ℕ, suc, ◌+◌, ◌≤◌, List, [], ◌∷◌, ◌++◌, length, nat_eq, codes, All}
use Rattle.std.proofs.Common.{refl, sym, ◌∙◌, ap, subst, arith, append_assoc, length-append}
use Rattle.std.specs.List.{flat_map}
use Rattle.std.specs.Fmt.{decimal}
use Rattle.std.proofs.lemmas.Grind.{flat_map-append}
use Rattle.std.proofs.lemmas.List.{append-nil}
use Rattle.std.proofs.lemmas.List.Elements.{All-head, All-tail, All-cons, All-push}
use Rattle.gh_log.specs.Laws.{LogsAreInside}
use Rattle.gh_log.specs.Lines.{LogLine}
use Rattle.gh_log.specs.Reading.{first_line}
use Rattle.gh_log.specs.Spelled.{IsSpelledLine, IsSpelled, IsLogText, IsFirstOutside}
use Rattle.gh_log.specs.Texts.{line_text, header_text, section_text, sections_text, log_text}
use Rattle.gh_log.proofs.LineLemmas.{small_version, one_version}
use Rattle.gh_log.proofs.LogLemmas.{Item, head, body, Lines, item_text, items, IsFine, items_text, items_fine, begins}
use Rattle.gh_log.proofs.LogLemmas.{IsAllowed, next_allowed, rest_fine}
use Rattle.gh_log.proofs.PlaceLemmas.{one_if, feeds_cons, IsQuiet, quiet_append, quiet_decimal, IsOneLine, is_one_line}
use Rattle.gh_log.proofs.PlaceLemmas.{is_one_header, log_push}

-- no line feed stands in a text that counts none
quiet_byte : (b : ℕ) (w : List ℕ) → IsQuiet (b ∷ w) → b ≢ 10
quiet_byte b w q e =
    let count = feeds_cons b w in
    let feed : one_if (nat_eq b 10) ≡ 1 = ap (λ c. one_if (nat_eq c 10)) e in
    absurd (omega (arith, count, feed, q))

no_feeds : (w : List ℕ) → IsQuiet w → All (λ b. b ≢ 10) w
no_feeds [] q = λ j d l. absurd (omega arith)
no_feeds (b ∷ w) q =
    let count = feeds_cons b w in
    let rest : IsQuiet w = omega (arith, count, q) in
    All-cons (λ c. c ≢ 10) b w (quiet_byte b w q) (no_feeds w rest)

is_one_item : (version : ℕ) (z : Item LogLine) → IsFine version z → IsOneLine (item_text z)
is_one_item version (head k) h = is_one_header k h
is_one_item version (body l) h = is_one_line l h.1

-- sections whose last one has a line more
abbrev grown : List (List LogLine) → LogLine → List (List LogLine)
grown [] l = []
grown (s ∷ []) l = (s ++ l ∷ []) ∷ []
grown (s ∷ t ∷ ss) l = s ∷ grown (t ∷ ss) l

grown_length : (ss : List (List LogLine)) (l : LogLine) → length (grown ss l) ≡ length ss
grown_length [] l = refl
grown_length (s ∷ []) l = refl
grown_length (s ∷ t ∷ ss) l = ap suc (grown_length (t ∷ ss) l)

last_text : (h s l : List ℕ) → (h ++ (s ++ (l ++ []))) ++ [] ≡ ((h ++ s) ++ []) ++ l
last_text h s l = simp (append_assoc, append-nil)

grown_text : (k : ℕ) (ss : List (List LogLine)) (l : LogLine) → ss ≢ []
    → sections_text k (grown ss l) ≡ sections_text k ss ++ line_text l
grown_text k [] l some = absurd (some refl)
grown_text k (s ∷ []) l some =
    ap (λ x. (header_text k ++ x) ++ []) (flat_map-append line_text s (l ∷ []))
    ∙ last_text (header_text k) (flat_map line_text s) (line_text l)
grown_text k (s ∷ t ∷ ss) l some =
    ap (λ x. section_text k s ++ x) (grown_text (suc k) (t ∷ ss) l (λ e. absurd cc))
    ∙ sym (append_assoc (section_text k s) (sections_text (suc k) (t ∷ ss)) (line_text l))

abbrev AreSpelledLines : ℕ → List LogLine → Type 0
AreSpelledLines version s = All (IsSpelledLine version) s

grown_lines : (version : ℕ) (ss : List (List LogLine)) (l : LogLine) → All (AreSpelledLines version) ss
    → IsSpelledLine version l → All (AreSpelledLines version) (grown ss l)
grown_lines version [] l a h = a
grown_lines version (s ∷ []) l a h =
    All-cons (AreSpelledLines version) (s ++ l ∷ []) []
    (All-push (IsSpelledLine version) s l (All-head (AreSpelledLines version) s [] a) h)
    (λ j d k. absurd (omega arith))
grown_lines version (s ∷ t ∷ ss) l a h =
    All-cons (AreSpelledLines version) s (grown (t ∷ ss) l) (All-head (AreSpelledLines version) s (t ∷ ss) a)
    (grown_lines version (t ∷ ss) l (All-tail (AreSpelledLines version) s (t ∷ ss) a) h)

-- a log with the header of the next section, or with one line more
with_header : (version : ℕ) (ss : List (List LogLine)) → IsSpelled version ss → 1 + length ss ≤ 4294967295
    → IsLogText (log_text version ss ++ header_text (1 + length ss))
with_header version ss a few =
    let n : length ss + 1 ≡ 1 + length ss = omega arith in
    let count = length-append ss ([] ∷ []) in
    record {
      version = version;
      sections = ss ++ [] ∷ [];
      text_is = ap (λ k. log_text version ss ++ header_text k) (sym n)
          ∙ ap (λ x. log_text version ss ++ x) (sym (append-nil (header_text (length ss + 1))))
          ∙ sym (log_push version ss []);
      spelled = record {
        known = a.known;
        lines = All-push (AreSpelledLines version) ss [] a.lines (λ j d k. absurd (omega arith));
        few = omega (arith, few, count);
      };
    }

with_line : (version : ℕ) (ss : List (List LogLine)) (l : LogLine) → IsSpelled version ss → ss ≢ []
    → IsSpelledLine version l → IsLogText (log_text version ss ++ line_text l)
with_line version ss l a some h =
    let count = grown_length ss l in
    record {
      version = version;
      sections = grown ss l;
      text_is =
          append_assoc (first_line version) (sections_text 1 ss) (line_text l)
          ∙ ap (λ x. first_line version ++ x) (sym (grown_text 1 ss l some));
      spelled = record {
        known = a.known;
        lines = grown_lines version ss l a.lines h;
        few = omega (arith, a.few, count);
      };
    }

with_item : (version : ℕ) (ss : List (List LogLine)) (z : Item LogLine) → IsSpelled version ss → IsFine version z
    → IsAllowed 1 ss z → IsLogText (log_text version ss ++ item_text z)
with_item version ss z a fine (inl e) =
    let few : IsFine version (head (1 + length ss)) = subst (IsFine version) e fine in
    subst (λ y. IsLogText (log_text version ss ++ item_text y)) (sym e) (with_header version ss a few)
with_item version ss z a fine (inr (some, l, e)) =
    let spelled : IsFine version (body l) = subst (IsFine version) e fine in
    subst (λ y. IsLogText (log_text version ss ++ item_text y)) (sym e) (with_line version ss l a some spelled)

-- the first line alone is a log
first_alone : (text : List ℕ) (k : ℕ) → IsLogText text → (o : IsFirstOutside text k) → o.front ≡ [] → ⊥
first_alone text k t o none =
    let small = small_version t.version t.spelled.known in
    let w = codes "grass log " ++ decimal t.version in
    let quiet : IsQuiet w =
    quiet_append (codes "grass log ") (decimal t.version) refl (quiet_decimal t.version (omega (arith, small))) in
    let rest_is : o.rest ≡ text = sym (o.whole ∙ ap (λ x. x ++ o.rest) none) in
    let rest : o.rest ≡ w ++ 10 ∷ sections_text 1 t.sections =
    rest_is ∙ t.text_is ∙ append_assoc w (10 ∷ []) (sections_text 1 t.sections) in
    let alone : IsLogText (o.front ++ w ++ 10 ∷ []) = record {
      version = t.version;
      sections = [];
      text_is = ap (λ x. (x ++ w) ++ 10 ∷ []) none ∙ sym (append-nil (w ++ 10 ∷ []));
      spelled = record { known = t.spelled.known; lines = λ j d l. absurd (omega arith); few = omega arith };
    } in
    o.outside w (sections_text 1 t.sections) rest (no_feeds w quiet) alone

-- the next line after some is outside no grammar
next_line : (text : List ℕ) (k : ℕ) (ss ts : List (List LogLine)) (version : ℕ) (zs : Lines)
    → (o : IsFirstOutside text k) → o.front ≡ log_text version ss → o.rest ≢ [] → IsSpelled version ss
    → items 1 ts ≡ items 1 ss ++ zs → All (IsFine version) (items 1 ts) → o.rest ≡ flat_map item_text zs → ⊥
next_line text k ss ts version [] o front some a whole fine rest = some rest
next_line text k ss ts version (z ∷ zs) o front some a whole fine rest =
    let good : IsFine version z =
    All-head (IsFine version) z zs (rest_fine version (items 1 ts) (items 1 ss) (z ∷ zs) whole fine) in
    let line = is_one_item version z good in
    let u = line.0 in
    let here : o.rest ≡ u ++ 10 ∷ flat_map item_text zs =
    rest ∙ ap (λ x. x ++ flat_map item_text zs) line.1 ∙ append_assoc u (10 ∷ []) (flat_map item_text zs) in
    let more : IsLogText (log_text version ss ++ item_text z) =
    with_item version ss z a good (next_allowed 1 ss ts z zs whole) in
    let same : log_text version ss ++ item_text z ≡ (o.front ++ u) ++ 10 ∷ [] =
    ap (λ x. x ++ item_text z) (sym front) ∙ ap (λ x. o.front ++ x) line.1 ∙ sym (append_assoc o.front u (10 ∷ [])) in
    o.outside u (flat_map item_text zs) here (no_feeds u line.2) (subst IsLogText same more)

after_front : (text : List ℕ) (k : ℕ) → IsLogText text → (o : IsFirstOutside text k) → IsLogText o.front → o.rest ≢ []
    → ⊥
after_front text k t o b some =
    let ss = b.sections in
    let ts = t.sections in
    let one =
    one_version t.version b.version (sections_text 1 ts) (sections_text 1 ss ++ o.rest) t.spelled.known
    b.spelled.known
    (sym t.text_is ∙ o.whole ∙ ap (λ x. x ++ o.rest) b.text_is
    ∙ append_assoc (first_line b.version) (sections_text 1 ss) o.rest) in
    let spelled : IsSpelled b.version ts = subst (λ v. IsSpelled v ts) one.value t.spelled in
    let fine_ss = items_fine b.version 1 ss b.spelled.lines (omega (arith, b.spelled.few)) in
    let fine_ts = items_fine b.version 1 ts spelled.lines (omega (arith, spelled.few)) in
    let w =
    begins b.version (items 1 ss) (items 1 ts) o.rest fine_ss fine_ts
    (sym (items_text 1 ts) ∙ one.rest ∙ ap (λ x. x ++ o.rest) (items_text 1 ss)) in
    next_line text k ss ts b.version w.others o b.text_is some b.spelled (w.parts ∙ ap (λ x. x ++ w.others) w.same)
    fine_ts w.text

pub logs_are_inside : LogsAreInside
logs_are_inside text k t o = elim o.before as (λ _. ⊥) [
  | inl none ↦ first_alone text k t o none
  | inr (front, some) ↦ after_front text k t o front some
]
