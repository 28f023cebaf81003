-- Texts of logs, line by line.
use Rattle.std.proofs.Common.{◌≡◌, ◌≢◌, ◌⊎◌, inl, inr, ℕ, suc, ◌+◌, ◌≤◌, List, [], ◌∷◌, ◌++◌, length, map, codes, All}
use Rattle.std.proofs.Common.{refl, sym, ◌∙◌, ap, subst, arith, append_assoc}
use Rattle.std.specs.List.{flat_map}
use Rattle.std.specs.Fmt.{decimal}
use Rattle.std.proofs.lemmas.List.{append-nil, append_cancel_left}
use Rattle.std.proofs.lemmas.List.Elements.{All-head, All-tail, All-cons, All-append, All-map}
use Rattle.std.proofs.lemmas.Grind.{flat_map-append}
use Rattle.gh_base.specs.declared.atom.Lit.{Lit}
use Rattle.gh_inst.specs.declared.naming.InstanceName.{InstanceName}
use Rattle.gh_inst.specs.Instances.{name_of, tuple_of}
use Rattle.gh_log.specs.Lines.{LogLine}
use Rattle.gh_log.specs.Lines as line
use Rattle.gh_log.specs.Texts.{line_text, header_text, sections_text, log_text}
use Rattle.gh_log.specs.Spelled.{IsSpelledLine, IsSpelled, IsLogText}
use Rattle.gh_log.specs.Laws.{HaveOneText}
use Rattle.gh_log.specs.Reading.{SpellsNothing, SpellsParts, SpellsLine, SpellsNumbers, SpellsHeader, SpellsTerms}
use Rattle.gh_log.specs.Reading.{first_line}
use Rattle.gh_log.proofs.NumberLemmas.{AreOne, one_bytes, one_number, all_after}
use Rattle.gh_log.proofs.AtomLemmas.{feed_ends, sign_ends, one_lits}
use Rattle.gh_log.proofs.PositionLemmas.{one_numbers}
use Rattle.gh_log.proofs.LineLemmas.{head_is, tail_is, name_parts, one_terms, ground_parts, lemma_parts, learnt_parts}
use Rattle.gh_log.proofs.LineLemmas.{hinted_parts, delete_parts, letter_of, letter_is, letter_front, is_axiom}
use Rattle.gh_log.proofs.LineLemmas.{is_ground, is_lemma, is_learnt, is_hinted, is_delete, header_parts, one_version}

-- two names over the same numbers and terms are one
same_name : (text : List ℕ) (n m : InstanceName) (r q : List ℕ) → SpellsParts (97 ∷ text) (line.Axiom n) r
    → SpellsParts (97 ∷ text) (line.Axiom m) q → AreOne n m r q
same_name text n m r q a b =
    let x = name_parts text n r a in let y = name_parts text m q b in
    let one =
    one_bytes 32 2 text (n.row ∷ n.version ∷ []) (m.row ∷ m.version ∷ []) x.middle y.middle refl x.numbers
    y.numbers in
    let same =
    one_terms 0 x.middle (tuple_of n) (tuple_of m) r q x.terms
    (subst (λ t. SpellsTerms 0 t (tuple_of m) q) (sym one.rest) y.terms) in
    let row : n.row ≡ m.row = head_is _ _ _ _ one.value in
    let version : n.version ≡ m.version = head_is _ _ _ _ (tail_is _ _ _ _ one.value) in
    record {
      value = a.spelled.padded ∙ (λ i. name_of (row i) (version i) (same.value i)) ∙ sym b.spelled.padded;
      rest = same.rest;
    }

same_ground : (text : List ℕ) (k j : ℕ) (r q : List ℕ) → SpellsParts (103 ∷ text) (line.Clause k) r
    → SpellsParts (103 ∷ text) (line.Clause j) q → AreOne k j r q
same_ground text k j r q a b =
    let x = ground_parts text k r a in let y = ground_parts text j q b in
    let middles : x.middle ≡ y.middle = tail_is 32 32 x.middle y.middle (sym x.front ∙ y.front) in
    let one =
    one_number k j (10 ∷ r) (10 ∷ q) (omega (arith, a.spelled)) (omega (arith, b.spelled)) refl refl
    (sym x.number.front ∙ middles ∙ y.number.front) in
    record { value = one.value; rest = tail_is 10 10 r q one.rest }

put : {X Y : Type 0} (f : X → Y) (x y : X) (r q : List ℕ) → AreOne x y r q → AreOne (f x) (f y) r q
put f x y r q o = record { value = ap f o.value; rest = o.rest }

-- the same line of a text that begins with another letter
at_letter : (b d : ℕ) (text : List ℕ) (l m : LogLine) (q : List ℕ) → d ≡ b → l ≡ m → SpellsParts (b ∷ text) l q
    → SpellsParts (d ∷ text) m q
at_letter b d text l m q e f s =
    subst (λ x. SpellsParts (x ∷ text) m q) (sym e) (subst (λ x. SpellsParts (b ∷ text) x q) f s)

same_hints : (text : List ℕ) (c d : List Lit) (hints others : List ℕ) (r q : List ℕ)
    → SpellsParts (108 ∷ text) (line.Hinted c hints) r → SpellsParts (108 ∷ text) (line.Hinted d others) q
    → AreOne (line.Hinted c hints) (line.Hinted d others) r q
same_hints text c d hints others r q a b =
    let x = hinted_parts text c hints r a in let y = hinted_parts text d others q b in
    let one = one_lits _ sign_ends text c d x.middle y.middle x.lits y.lits in
    let same =
    one_numbers x.middle hints others r q x.numbers
    (subst (λ t. SpellsNumbers t others q) (sym one.rest) y.numbers) in
    let clauses = one.value in
    let numbers = same.value in
    record { value = λ i. line.Hinted (clauses i) (numbers i); rest = same.rest }

same_positions : (text : List ℕ) (ps qs : List ℕ) (r q : List ℕ) → SpellsParts (100 ∷ text) (line.Delete ps) r
    → SpellsParts (100 ∷ text) (line.Delete qs) q
    → AreOne (line.Delete ps) (line.Delete qs) r q
same_positions text ps qs r q a b =
    put line.Delete ps qs r q (one_numbers text ps qs r q (delete_parts text ps r a) (delete_parts text qs q b))

one_at : (version b : ℕ) (text : List ℕ) (l m : LogLine) (r q : List ℕ) → SpellsLine version (b ∷ text) l r
    → SpellsLine version (b ∷ text) m q → letter_of l ≡ b → letter_of m ≡ b
    → AreOne l m r q
one_at version b text (line.Axiom n) m r q a c e f =
    let w = is_axiom m (f ∙ sym e) in
    subst (λ x. AreOne (line.Axiom n) x r q) (sym w.1)
    (put line.Axiom n w.0 r q
    (same_name text n w.0 r q (at_letter b 97 text (line.Axiom n) (line.Axiom n) r e refl a.parts)
    (at_letter b 97 text m (line.Axiom w.0) q e w.1 c.parts)))
one_at version b text (line.Clause k) m r q a c e f =
    let w = is_ground m (f ∙ sym e) in
    subst (λ x. AreOne (line.Clause k) x r q) (sym w.1)
    (put line.Clause k w.0 r q
    (same_ground text k w.0 r q (at_letter b 103 text (line.Clause k) (line.Clause k) r e refl a.parts)
    (at_letter b 103 text m (line.Clause w.0) q e w.1 c.parts)))
one_at version b text (line.Lemma d) m r q a c e f =
    let w = is_lemma m (f ∙ sym e) in
    subst (λ x. AreOne (line.Lemma d) x r q) (sym w.1)
    (put line.Lemma d w.0 r q
    (one_lits _ feed_ends text d w.0 r q
    (lemma_parts text d r (at_letter b 101 text (line.Lemma d) (line.Lemma d) r e refl a.parts))
    (lemma_parts text w.0 q (at_letter b 101 text m (line.Lemma w.0) q e w.1 c.parts))))
one_at version b text (line.Learnt d) m r q a c e f =
    let w = is_learnt version m a.of_version c.of_version (f ∙ sym e) in
    subst (λ x. AreOne (line.Learnt d) x r q) (sym w.1)
    (put line.Learnt d w.0 r q
    (one_lits _ feed_ends text d w.0 r q
    (learnt_parts text d r (at_letter b 108 text (line.Learnt d) (line.Learnt d) r e refl a.parts))
    (learnt_parts text w.0 q (at_letter b 108 text m (line.Learnt w.0) q e w.1 c.parts))))
one_at version b text (line.Hinted d hints) m r q a c e f =
    let w = is_hinted version m a.of_version c.of_version (f ∙ sym e) in
    subst (λ x. AreOne (line.Hinted d hints) x r q) (sym w.2)
    (same_hints text d w.0 hints w.1 r q
    (at_letter b 108 text (line.Hinted d hints) (line.Hinted d hints) r e refl a.parts)
    (at_letter b 108 text m (line.Hinted w.0 w.1) q e w.2 c.parts))
one_at version b text (line.Delete ps) m r q a c e f =
    let w = is_delete m (f ∙ sym e) in
    subst (λ x. AreOne (line.Delete ps) x r q) (sym w.1)
    (same_positions text ps w.0 r q (at_letter b 100 text (line.Delete ps) (line.Delete ps) r e refl a.parts)
    (at_letter b 100 text m (line.Delete w.0) q e w.1 c.parts))

pub one_line : (version : ℕ) (text : List ℕ) (l m : LogLine) (r q : List ℕ) → SpellsLine version text l r
    → SpellsLine version text m q → AreOne l m r q
one_line version text l m r q a b =
    let t = letter_front l text r a.parts in
    let c = subst (λ x. SpellsLine version x l r) t.1 a in
    let d = subst (λ x. SpellsLine version x m q) t.1 b in
    one_at version (letter_of l) t.0 l m r q c d refl (letter_is (letter_of l) t.0 m q d.parts)

-- the lines of a log: headers, and lines of sections
pub data Item (X : Type 0) : Type 0 where
  head : ℕ → Item X
  body : X → Item X

abbrev pub Lines : Type 0
Lines = List (Item LogLine)

abbrev pub item_text : Item LogLine → List ℕ
item_text (head k) = header_text k
item_text (body l) = line_text l

abbrev pub IsFine : ℕ → Item LogLine → Type 0
IsFine version (head k) = k ≤ 4294967295
IsFine version (body l) = IsSpelledLine version l

abbrev pub items : {X : Type 0} → ℕ → List (List X) → List (Item X)
items k [] = []
items k (s ∷ ss) = head k ∷ (map body s ++ items (suc k) ss)

one_header : (k j : ℕ) (r q : List ℕ) → k ≤ 4294967295 → j ≤ 4294967295 → header_text k ++ r ≡ header_text j ++ q
    → AreOne k j r q
one_header k j r q h i e =
    let t : decimal k ++ 10 ∷ r ≡ decimal j ++ 10 ∷ q =
    append_cancel_left (codes "condition ") _ _
    (sym (header_parts (header_text k ++ r) k r refl) ∙ e ∙ header_parts (header_text j ++ q) j q refl) in
    let one = one_number k j (10 ∷ r) (10 ∷ q) (omega (arith, h)) (omega (arith, i)) refl refl t in
    record { value = one.value; rest = tail_is 10 10 r q one.rest }

pub not_c : (l : LogLine) → letter_of l ≢ 99
not_c (line.Axiom name) e = absurd (omega (arith, e))
not_c (line.Clause k) e = absurd (omega (arith, e))
not_c (line.Lemma c) e = absurd (omega (arith, e))
not_c (line.Learnt c) e = absurd (omega (arith, e))
not_c (line.Hinted c hints) e = absurd (omega (arith, e))
not_c (line.Delete positions) e = absurd (omega (arith, e))

-- a line as the front of a text
begun : (version : ℕ) (l : LogLine) (text q : List ℕ) → text ≡ line_text l ++ q → IsSpelledLine version l
    → SpellsLine version text l q
begun version l text q e h = record { of_version = h.0; parts = record { front = e; spelled = h.1 } }

-- a header is no line of a section
pub header_or_line : (version k : ℕ) (l : LogLine) (r q : List ℕ) → IsSpelledLine version l
    → header_text k ++ r ≡ line_text l ++ q → ⊥
header_or_line version k l r q h e =
    let t = letter_front l (line_text l ++ q) q (begun version l (line_text l ++ q) q refl h).parts in
    not_c l (sym (head_is 99 (letter_of l) _ t.0 (e ∙ t.1)))

put_body : (l m : LogLine) (r q : List ℕ) → AreOne l m r q → AreOne (body l) (body m) r q
put_body l m r q o = record { value = ap body o.value; rest = o.rest }

put_head : (k j : ℕ) (r q : List ℕ) → AreOne k j r q → AreOne {X = Item LogLine} (head k) (head j) r q
put_head k j r q o = record { value = ap head o.value; rest = o.rest }

pub one_item : (version : ℕ) (x y : Item LogLine) (r q : List ℕ) → IsFine version x → IsFine version y
    → item_text x ++ r ≡ item_text y ++ q → AreOne x y r q
one_item version (head k) (head j) r q a b e = put_head k j r q (one_header k j r q a b e)
one_item version (head k) (body l) r q a b e = absurd (header_or_line version k l r q b e)
one_item version (body l) (head k) r q a b e = absurd (header_or_line version k l q r a (sym e))
one_item version (body l) (body m) r q a b e =
    put_body l m r q (one_line version (line_text l ++ r) l m r q (begun version l (line_text l ++ r) r refl a)
    (begun version m (line_text l ++ r) q e b))

some_text : (version : ℕ) (x : Item LogLine) (r : List ℕ) → IsFine version x → item_text x ++ r ≢ []
some_text version (head k) r a e = absurd (cc)
some_text version (body l) r a e =
    let t = letter_front l (line_text l ++ r) r (begun version l (line_text l ++ r) r refl a).parts in let f = t.1 in
    absurd (cc)

-- the first lines are these ones, and others come after them
pub record Begins (xs ys : Lines) (next : List ℕ) : Type 0 where
  pub first : Lines
  pub others : Lines
  pub parts : ys ≡ first ++ others
  pub same : first ≡ xs
  pub text : next ≡ flat_map item_text others

-- what begins with the text of some lines is these lines and others
pub begins : (version : ℕ) (xs ys : Lines) (next : List ℕ) → All (IsFine version) xs → All (IsFine version) ys
    → flat_map item_text ys ≡ flat_map item_text xs ++ next → Begins xs ys next
begins version [] ys next a b e = record { first = []; others = ys; parts = refl; same = refl; text = sym e }
begins version (x ∷ xs) [] next a b e =
    absurd (some_text version x (flat_map item_text xs ++ next) (All-head (IsFine version) x xs a)
    (sym (append_assoc (item_text x) (flat_map item_text xs) next) ∙ sym e))
begins version (x ∷ xs) (y ∷ ys) next a b e =
    let one =
    one_item version y x (flat_map item_text ys) (flat_map item_text xs ++ next) (All-head (IsFine version) y ys b)
    (All-head (IsFine version) x xs a)
    (e ∙ append_assoc (item_text x) (flat_map item_text xs) next) in
    let more =
    begins version xs ys next (All-tail (IsFine version) x xs a) (All-tail (IsFine version) y ys b) one.rest in
    let here : y ≡ x = one.value in
    let there = more.same in
    record {
      first = y ∷ more.first;
      others = more.others;
      parts = ap (λ t. y ∷ t) more.parts;
      same = λ i. here i ∷ there i;
      text = more.text;
    }

body_text : (ls : List LogLine) → flat_map item_text (map body ls) ≡ flat_map line_text ls
body_text [] = refl
body_text (l ∷ ls) = ap (λ t. line_text l ++ t) (body_text ls)

pub items_text : (k : ℕ) (ss : List (List LogLine)) → sections_text k ss ≡ flat_map item_text (items k ss)
items_text k [] = refl
items_text k (s ∷ ss) =
    let more = items_text (suc k) ss in
    append_assoc (header_text k) (flat_map line_text s) (sections_text (suc k) ss)
    ∙ ap (λ t. header_text k ++ t)
    ((λ i. sym (body_text s) i ++ more i) ∙ sym (flat_map-append item_text (map body s) (items (suc k) ss)))

pub items_fine : (version k : ℕ) (ss : List (List LogLine)) → All (λ s. All (IsSpelledLine version) s) ss
    → k + length ss ≤ 4294967296 → All (IsFine version) (items k ss)
items_fine version k [] a h = λ j d l. absurd (omega arith)
items_fine version k (s ∷ ss) a h =
    All-cons (IsFine version) (head k) (map body s ++ items (suc k) ss) (omega arith)
    (All-append (IsFine version) (map body s) (items (suc k) ss)
    (All-map (IsFine version) body s (All-head (λ s. All (IsSpelledLine version) s) s ss a))
    (items_fine version (suc k) ss (All-tail (λ s. All (IsSpelledLine version) s) s ss a) (omega arith)))

body_is : {X : Type 0} (l m : X) → body l ≡ body m → l ≡ m
body_is l m e = cc

-- the lines determine the sections
no_bodies : {X : Type 0} (k : ℕ) (m : X) (rest : List (Item X)) (ss : List (List X)) → items k ss ≡ body m ∷ rest → ⊥
no_bodies k m rest [] e = absurd (cc)
no_bodies k m rest (u ∷ us) e = absurd (cc)

rest_is : {X : Type 0} (x y : Item X) (xs ys : List (Item X)) → x ∷ xs ≡ y ∷ ys → xs ≡ ys
rest_is x y xs ys e = cc

first_is : {X : Type 0} (x y : Item X) (xs ys : List (Item X)) → x ∷ xs ≡ y ∷ ys → x ≡ y
first_is x y xs ys e = cc

split_bodies : {X : Type 0} (k : ℕ) (s t : List X) (ss ts : List (List X))
    → map body s ++ items k ss ≡ map body t ++ items k ts → (s ≡ t) × (items k ss ≡ items k ts)
split_bodies k [] [] ss ts e = (refl, e)
split_bodies k [] (m ∷ t) ss ts e = absurd (no_bodies k m (map body t ++ items k ts) ss e)
split_bodies k (l ∷ s) [] ss ts e = absurd (no_bodies k l (map body s ++ items k ss) ts (sym e))
split_bodies k (l ∷ s) (m ∷ t) ss ts e =
    let more = split_bodies k s t ss ts (rest_is _ _ _ _ e) in
    let here : l ≡ m = body_is l m (first_is _ _ _ _ e) in
    let there = more.0 in
    ((λ i. here i ∷ there i), more.1)

pub one_list : {X : Type 0} (k : ℕ) (ss ts : List (List X)) → items k ss ≡ items k ts → ss ≡ ts
one_list k [] [] e = refl
one_list k [] (t ∷ ts) e = absurd (cc)
one_list k (s ∷ ss) [] e = absurd (cc)
one_list k (s ∷ ss) (t ∷ ts) e =
    let parts = split_bodies (suc k) s t ss ts (rest_is _ _ _ _ e) in
    let here = parts.0 in
    let there = one_list (suc k) ss ts parts.1 in
    λ i. here i ∷ there i

-- after some sections comes the header of the next one, or a line, where there is a section
abbrev pub IsAllowed : {X : Type 0} → ℕ → List (List X) → Item X → Type 0
IsAllowed {X} k ss z = (z ≡ head (k + length ss)) ⊎ ((ss ≢ []) × (l : X) × (z ≡ body l))

none_left : {X : Type 0} (k : ℕ) (m : X) (rest : List (Item X)) (ss : List (List X)) (z : Item X) (zs : List (Item X))
    → body m ∷ rest ≡ items k ss ++ z ∷ zs → (l : X) × (z ≡ body l)
none_left k m rest [] z zs e = (m, sym (first_is _ _ _ _ e))
none_left k m rest (u ∷ us) z zs e = let d = first_is _ _ _ _ e in absurd (cc)

bodies : {X : Type 0} (k : ℕ) (s t : List X) (ss ts : List (List X)) (z : Item X) (zs : List (Item X))
    → (items k ts ≡ items k ss ++ z ∷ zs → IsAllowed k ss z)
    → map body t ++ items k ts ≡ map body s ++ (items k ss ++ z ∷ zs) → IsAllowed k ss z ⊎ ((l : X) × (z ≡ body l))
bodies k [] [] ss ts z zs again e = inl (again e)
bodies k [] (m ∷ t) ss ts z zs again e = inr (none_left k m (map body t ++ items k ts) ss z zs e)
bodies k (l ∷ s) [] ss ts z zs again e = absurd (no_bodies k l (map body s ++ (items k ss ++ z ∷ zs)) ts e)
bodies k (l ∷ s) (m ∷ t) ss ts z zs again e = bodies k s t ss ts z zs again (rest_is _ _ _ _ e)

pub next_allowed : {X : Type 0} (k : ℕ) (ss ts : List (List X)) (z : Item X) (zs : List (Item X))
    → items k ts ≡ items k ss ++ z ∷ zs → IsAllowed k ss z
next_allowed k [] [] z zs e = absurd (cc)
next_allowed k [] (t ∷ ts) z zs e = let n : k ≡ k + 0 = omega arith in inl (sym (first_is _ _ _ _ e) ∙ ap head n)
next_allowed k (s ∷ ss) [] z zs e = absurd (cc)
next_allowed k (s ∷ ss) (t ∷ ts) z zs e =
    let n : suc k + length ss ≡ k + suc (length ss) = omega arith in
    elim (bodies (suc k) s t ss ts z zs (λ f. next_allowed (suc k) ss ts z zs f)
    (rest_is _ _ _ _ e ∙ append_assoc (map body s) (items (suc k) ss) (z ∷ zs)))
    as (λ _. IsAllowed k (s ∷ ss) z) [
      | inl (inl h) ↦ inl (h ∙ ap head n)
      | inl (inr w) ↦ inr ((λ f. absurd (cc)), w.1, w.2)
      | inr w ↦ inr ((λ f. absurd (cc)), w.0, w.1)
    ]

no_items : (version : ℕ) (zs : Lines) → All (IsFine version) zs → [] ≡ flat_map item_text zs → zs ≡ []
no_items version [] a e = refl
no_items version (z ∷ zs) a e =
    absurd (some_text version z (flat_map item_text zs) (All-head (IsFine version) z zs a) (sym e))

-- lines after other lines
pub rest_fine : (version : ℕ) (all first others : Lines) → all ≡ first ++ others → All (IsFine version) all
    → All (IsFine version) others
rest_fine version all first others e a = all_after (IsFine version) first others (subst (All (IsFine version)) e a)

-- one list of sections of one version
one_of_version : (version : ℕ) (one other : List (List LogLine)) → IsSpelled version one → IsSpelled version other
    → sections_text 1 one ≡ sections_text 1 other → one ≡ other
one_of_version version one other a b t =
    let fine_one = items_fine version 1 one a.lines (omega (arith, a.few)) in
    let fine_other = items_fine version 1 other b.lines (omega (arith, b.few)) in
    let w = begins version (items 1 one) (items 1 other) [] fine_one fine_other
    (sym (items_text 1 other) ∙ sym t ∙ items_text 1 one ∙ sym (append-nil (flat_map item_text (items 1 one)))) in
    let none =
    no_items version w.others (rest_fine version (items 1 other) w.first w.others w.parts fine_other) w.text in
    let whole : items 1 other ≡ w.first = w.parts ∙ ap (λ zs. w.first ++ zs) none ∙ append-nil w.first in
    one_list 1 one other (sym w.same ∙ sym whole)

pub one_text : HaveOneText
one_text m n one other a b e =
    let o = one_version m n (sections_text 1 one) (sections_text 1 other) a.known b.known e in
    (o.value, one_of_version m one other a (subst (λ v. IsSpelled v other) (sym o.value) b) o.rest)

some_line : (l : List ℕ) → l ++ 10 ∷ [] ≢ []
some_line [] e = absurd (cc)
some_line (b ∷ l) e = absurd (cc)

-- a line that can't stand after some sections is outside the grammar
pub outside_after : (version : ℕ) (ss : List (List LogLine)) (rest : List ℕ) → IsSpelled version ss
    → SpellsNothing (SpellsHeader (length ss + 1) rest)
    → (ss ≢ [] → SpellsNothing (SpellsLine version rest)) → (l after : List ℕ) → rest ≡ l ++ 10 ∷ after
    → IsLogText (log_text version ss ++ l ++ 10 ∷ []) → ⊥
outside_after version ss rest a no_header no_line l after e t =
    let ts = t.sections in
    let next = l ++ 10 ∷ [] in
    let o = one_version t.version version (sections_text 1 ts) (sections_text 1 ss ++ next) t.spelled.known a.known
    (sym t.text_is ∙ append_assoc (log_text version ss) l (10 ∷ [])
    ∙ append_assoc (first_line version) (sections_text 1 ss) next) in
    let spelled : IsSpelled version ts = subst (λ v. IsSpelled v ts) o.value t.spelled in
    let fine_ss = items_fine version 1 ss a.lines (omega (arith, a.few)) in
    let fine_ts = items_fine version 1 ts spelled.lines (omega (arith, spelled.few)) in
    let w =
    begins version (items 1 ss) (items 1 ts) next fine_ss fine_ts
    (sym (items_text 1 ts) ∙ o.rest ∙ ap (λ x. x ++ next) (items_text 1 ss)) in
    let there : rest ≡ next ++ after = e ∙ sym (append_assoc l (10 ∷ []) after) in
    by_items version ss ts rest next after w.first w.others no_header no_line there w.parts w.same w.text fine_ts
    (some_line l)
  where
    by_items : (version : ℕ) (ss ts : List (List LogLine)) (rest next after : List ℕ) (ws zs : Lines)
        → SpellsNothing (SpellsHeader (length ss + 1) rest)
        → (ss ≢ [] → SpellsNothing (SpellsLine version rest)) → rest ≡ next ++ after → items 1 ts ≡ ws ++ zs
        → ws ≡ items 1 ss → next ≡ flat_map item_text zs
        → All (IsFine version) (items 1 ts) → next ≢ [] → ⊥
    by_items version ss ts rest next after ws [] no_header no_line e f p g fine some = some g
    by_items version ss ts rest next after ws (z ∷ zs) no_header no_line e f p g fine some =
        let n : 1 + length ss ≡ length ss + 1 = omega arith in
        let front : rest ≡ item_text z ++ (flat_map item_text zs ++ after) =
        e ∙ ap (λ x. x ++ after) g ∙ append_assoc (item_text z) (flat_map item_text zs) after in
        let good : IsFine version z =
        All-head (IsFine version) z zs (rest_fine version (items 1 ts) ws (z ∷ zs) f fine) in
        let whole : items 1 ts ≡ items 1 ss ++ z ∷ zs = f ∙ ap (λ t. t ++ z ∷ zs) p in
        elim (next_allowed 1 ss ts z zs whole) as (λ _. ⊥) [
          | inl h ↦ no_header tt (flat_map item_text zs ++ after)
              (front ∙ ap (λ x. item_text x ++ (flat_map item_text zs ++ after)) (h ∙ ap head n))
          | inr w ↦
              no_line w.0 w.1 (flat_map item_text zs ++ after)
              (begun version w.1 rest (flat_map item_text zs ++ after)
              (front ∙ ap (λ x. item_text x ++ (flat_map item_text zs ++ after)) w.2)
              (subst (IsFine version) w.2 good))
        ]
